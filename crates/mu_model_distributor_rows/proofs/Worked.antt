-- Worked rows, evaluated.
use Rattle.std.proofs.Common.{refl}
use Rattle.sha2.specs.Sha256.{sha256, digest_bytes, hash_after, compress, rounds, schedule, first_words}
use Rattle.mu_model_wire.specs.Reading.{word_at, octets_at, opcode_at, pattern_at}
use Rattle.mu_model_distributor_rows.specs.Tables.{EachPhase, EachUpload}
use Rattle.mu_model_distributor_rows.specs.Runs.{Distributions, Uploads}
use Rattle.mu_model_distributor_rows.specs.Banks.{EachBank}
use Rattle.mu_model_distributor_rows.specs.Crowds.{EachCrowd}
use Rattle.mu_model_distributor_rows.specs.Progress.{EachProgress}

pub each_phase : EachPhase
unfolding word_at octets_at opcode_at pattern_at sha256 digest_bytes hash_after compress rounds schedule first_words
each_phase = record { empty = refl; ready = refl; active = refl; success = refl; applying = refl; completed = refl; failed = refl; canceling = refl; suspended = refl }

pub each_upload : EachUpload
unfolding word_at octets_at opcode_at pattern_at sha256 digest_bytes hash_after compress rounds schedule first_words
each_upload = record { uploading = refl; receiving = refl; whole = refl; broken = refl; stored = refl }

pub each_crowd : EachCrowd
unfolding word_at octets_at opcode_at pattern_at
each_crowd = record { twice = refl; known = refl; two = refl; there = refl; more = refl }

pub distributions : Distributions
unfolding word_at octets_at opcode_at pattern_at sha256 digest_bytes hash_after compress rounds schedule first_words
distributions = record { one_fails = refl; both_fail = refl; transfers_refused = refl; verify_only = refl; both_silent = refl; says_failed_later = refl; canceled = refl; suspended_in_between = refl; cut_in_transfer = refl; cut_in_applying = refl; cut_in_canceling = refl; applying_already = refl }

pub uploads : Uploads
unfolding word_at octets_at opcode_at pattern_at sha256 digest_bytes hash_after compress rounds schedule first_words
uploads = record { uploaded = refl; unfit = refl; broken_by_time = refl; broken_by_cut = refl; lagging = refl; canceled_transfer = refl; deleted = refl; unstarted = refl; moment_of_another = refl; moment_of_unread = refl }

pub each_bank : EachBank
unfolding word_at octets_at opcode_at pattern_at sha256 digest_bytes hash_after compress rounds schedule first_words
each_bank = record { one = refl; three = refl; next = refl; last = refl; emptied = refl; emptied_second = refl }

pub each_progress : EachProgress
each_progress = record { without = refl; none = refl; one = refl; two = refl; all = refl; even = refl }
