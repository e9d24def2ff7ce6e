-- Worked rows, evaluated.
use Rattle.std.proofs.Common.{refl}
use Rattle.mu_model_wire.specs.Reading.{word_at, octets_at, opcode_at, pattern_at}
use Rattle.mu_model_client_rows.specs.Tables.{EachAnswer}
use Rattle.mu_model_client_rows.specs.Ranks.{Ranks}
use Rattle.mu_model_client_rows.specs.Runs.{RoundsAndChunks, PullAndRest}
use Rattle.mu_model_client_rows.specs.Initiators.{EachInitiator}

pub each_answer : EachAnswer
unfolding word_at octets_at opcode_at pattern_at
each_answer = record { in_check = refl; in_start = refl; in_information = refl; in_transfer = refl; in_block = refl; in_get = refl; in_pull = refl; in_verify = refl; in_apply = refl; in_confirm = refl; in_cancel = refl }

pub ranks : Ranks
unfolding word_at octets_at opcode_at pattern_at
ranks = record { by_rank = refl; with_status = refl; another_id = refl; no_id = refl; image_shown = refl; nothing_shown = refl; transfer = refl; metadata = refl; canceled = refl }

pub rounds_and_chunks : RoundsAndChunks
unfolding word_at octets_at opcode_at pattern_at
rounds_and_chunks = record { round_time = refl; sixteen = refl; early_moment = refl; grouped = refl; ungrouped = refl; two_blocks = refl; barren = refl }

pub pull_and_rest : PullAndRest
unfolding word_at octets_at opcode_at pattern_at
pull_and_rest = record { pull_wanted = refl; pull_silence = refl; pull_two = refl; pull_blocks = refl; pull_dropped = refl; verifying = refl; applied_later = refl; nobody_verified = refl; nobody_applies = refl; silent_apply = refl; confirmed_before = refl; canceled = refl; canceled_none = refl; all_dropped = refl; dropped_counts = refl }

pub each_initiator : EachInitiator
unfolding word_at octets_at opcode_at pattern_at
each_initiator = record { initiates = refl; stored_already = refl; foreign = refl; foreign_in_transfer = refl; silence_3 = refl; silence_9 = refl; silence_1 = refl; silence_4 = refl; silent_last = refl; many_rows = refl; refused_3 = refl; refused_4 = refl; refused_5 = refl; refused_6 = refl; refused_7 = refl; refused_8 = refl; refused_9 = refl; drop_early = refl; drop_block = refl; drop_silent = refl }
