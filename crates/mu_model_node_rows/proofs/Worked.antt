-- Worked rows, evaluated.
use Rattle.std.proofs.Common.{refl}
use Rattle.sha2.specs.Sha256.{sha256, digest_bytes, hash_after, compress, rounds, schedule, first_words}
use Rattle.mu_model_wire.specs.Reading.{word_at, octets_at, opcode_at, pattern_at}
use Rattle.mu_model_node_rows.specs.Tables.{EachMessage}
use Rattle.mu_model_node_rows.specs.Runs.{BlockByBlock, UpdateByUpdate}
use Rattle.mu_model_node_rows.specs.Others.{Addresses, Moments, Logs, Operations, Worn, Pairs}
use Rattle.mu_model_node_rows.specs.Sessions.{Sessions}

pub each_message_is : EachMessage
unfolding word_at octets_at opcode_at sha256 digest_bytes hash_after compress rounds schedule first_words
each_message_is = record { idle = refl; taken = refl; next_block = refl; next_chunk = refl; verifying = refl; verified = refl; applying = refl; failed = refl; cut = refl; suspended = refl; resumed = refl }

pub block_by_block : BlockByBlock
unfolding word_at octets_at opcode_at sha256 digest_bytes hash_after compress rounds schedule first_words
block_by_block = record { held_again = refl; reports_by_length = refl; smaller_messages = refl; larger_messages = refl; pull_soon = refl; pull_some = refl; pull_next = refl; pull_part = refl; pull_next_block = refl; client_stands = refl; client_changes = refl; get_in_complete = refl }

pub update_by_update : UpdateByUpdate
unfolding word_at octets_at opcode_at sha256 digest_bytes hash_after compress rounds schedule first_words
update_by_update = record { timeout = refl; timeout_by_base = refl; timeout_forgets = refl; timeout_from_last = refl; earlier_moment = refl; cancel_unbegun = refl; cancel_begun = refl; whole_after_a_cut = refl; cancels = refl; another_start = refl }

pub addresses : Addresses
unfolding word_at octets_at opcode_at pattern_at
addresses = record { own = refl; group = refl; other_group = refl; other = refl; none = refl; passed_over = refl; update_status = refl; block_status = refl; part_report = refl; upload_get = refl; no_message = refl; empty = refl }

pub moments : Moments
unfolding word_at octets_at opcode_at
moments = record { unread = refl; to_another = refl; to_another_later = refl; heard_then = refl }

pub logs_are : Logs
unfolding word_at octets_at opcode_at sha256 digest_bytes hash_after compress rounds schedule first_words
logs_are = record { started = refl; started_again = refl; whole = refl; applied = refl; failed_again = refl; unfit = refl; cut = refl; cut_verified = refl; replaced = refl; timed_out = refl; transfer_canceled = refl; canceled = refl; canceled_failed = refl; torn_start = refl; torn_cancel = refl; torn_apply = refl; torn_switch = refl }

pub operations : Operations
unfolding word_at octets_at opcode_at sha256 digest_bytes hash_after compress rounds schedule first_words
operations = record { started = refl; begun = refl; opened = refl; put = refl; verified = refl; applied = refl; active = refl; canceled = refl; repeated = refl; timed_out = refl; passed = refl; passed_mark = refl; passed_nothing = refl }

pub worn_are : Worn
unfolding word_at octets_at opcode_at sha256 digest_bytes hash_after compress rounds schedule first_words
worn_are = record { started = refl; begun = refl; put = refl; verified = refl; refused = refl; last = refl }

pub pairs : Pairs
unfolding word_at octets_at opcode_at sha256 digest_bytes hash_after compress rounds schedule first_words
pairs = record { told = refl; compared = refl; active = refl; log = refl }

pub sessions : Sessions
unfolding word_at octets_at opcode_at sha256 digest_bytes hash_after compress rounds schedule first_words
sessions = record { started = refl; running = refl; in_block = refl; whole = refl; verified = refl; applying = refl; pulled = refl; failed = refl; active = refl; canceled = refl; pull_canceled = refl; transfer_canceled = refl; timed_out = refl; suspended = refl; anew = refl; resumed = refl; goes_on = refl }
