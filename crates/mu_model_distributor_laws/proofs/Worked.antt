-- Worked rows, evaluated.
use Rattle.std.proofs.Common.{refl}
use Rattle.sha2.specs.Sha256.{sha256, digest_bytes, hash_after, compress, rounds, schedule, first_words}
use Rattle.mu_model_wire.specs.Reading.{word_at, octets_at, opcode_at, pattern_at}
use Rattle.mu_model_distributor_laws.specs.Worked.{ReceiversAndImages}
use Rattle.mu_model_distributor_laws.specs.WorkedUploads.{AWholeUpload, BrokenUploads, RefusedUploads}
use Rattle.mu_model_distributor_laws.specs.WorkedPhases.{PhaseByPhase}
use Rattle.mu_model_distributor_laws.specs.WorkedRun.{ADistribution}
use Rattle.mu_model_distributor_laws.specs.WorkedSettle.{NothingIsLost}
use Rattle.mu_model_distributor_laws.specs.WorkedEnds.{VerificationEnds, AnswersCount, Confirmations, ManyReceivers}

pub receivers_and_images_is : ReceiversAndImages
unfolding word_at octets_at opcode_at pattern_at
receivers_and_images_is = record { capabilities_new = refl; capabilities_stocked = refl; by_index = refl; no_index = refl; by_id = refl; not_found = refl; upload = refl; distribution = refl; added = refl; listed = refl; emptied = refl; deleted = refl; all_deleted = refl; fresh = refl }

pub whole_upload_is : AWholeUpload
unfolding word_at octets_at opcode_at pattern_at sha256 digest_bytes hash_after compress rounds schedule first_words
whole_upload_is = record { told_started = refl; seen_started = refl; again = refl; other = refl; block_held = refl; filled_bank = refl; unfilled_bank = refl; verified = refl; seen_verified = refl; image = refl; unfit = refl; seen_unfit = refl; stored = refl; seen_stored = refl; seen_stored_again = refl; unsealed = refl; sealed = refl }

pub broken_uploads_is : BrokenUploads
unfolding word_at octets_at opcode_at pattern_at
broken_uploads_is = record { told_broken = refl; seen_broken = refl; resumed = refl; seen_resumed = refl; replaced = refl; last_bank = refl; seen_cut = refl; seen_cut_later = refl; seen_cut_said = refl; seen_cut_resumed = refl; cut_resumed_blob = refl; seen_cut_blob_canceled = refl; seen_blob_canceled = refl; seen_blob_canceled_later = refl; canceled = refl; seen_canceled = refl; seen_canceled_again = refl }

pub refused_uploads_is : RefusedUploads
unfolding word_at octets_at opcode_at pattern_at sha256 digest_bytes hash_after compress rounds schedule first_words
refused_uploads_is = record { id = refl; size = refl; metadata = refl; company = refl; large = refl; no_bank = refl; uri = refl; start_active = refl; start_broken = refl; delete_active = refl; delete_broken = refl; delete_unknown = refl }

pub phase_by_phase_is : PhaseByPhase
unfolding word_at octets_at opcode_at pattern_at
phase_by_phase_is = record { receivers_add_is = refl; receivers_delete_all_is = refl; get = refl; start = refl; start_after = refl; start_other = refl; start_no_image = refl; start_label = refl; suspend = refl; suspend_after = refl; cancel = refl; cancel_after = refl; cancel_unknown = refl; cancel_applying = refl; cancel_applied = refl; apply = refl; apply_after = refl; upload = refl; delete = refl; delete_all = refl; count_start = refl; count_add_again = refl; count_delete_all = refl; count_cancel = refl }

pub distribution_is : ADistribution
unfolding word_at octets_at opcode_at pattern_at
distribution_is = record { told_started = refl; check = refl; start = refl; transfer = refl; block = refl; seen_cut = refl; check_again = refl; start_again = refl; next_start = refl; start_work = refl; torn_before = refl; torn_after = refl; torn_sends = refl; no_image = refl; no_image_failed = refl; suspended = refl; resumed = refl; resumed_check = refl; resumed_number = refl; canceled_sends = refl; canceled_row = refl; canceled_over = refl; worn = refl }

pub nothing_is_lost_is : NothingIsLost
unfolding word_at octets_at opcode_at pattern_at sha256 digest_bytes hash_after compress rounds schedule first_words
nothing_is_lost_is = record { applied = refl; progress = refl; image = refl; list_says = refl; phases = refl; without_group = refl; pull = refl; verified = refl; verified_row = refl; then_applied = refl; then_completed = refl }

pub verification_ends_is : VerificationEnds
unfolding word_at octets_at opcode_at pattern_at
verification_ends_is = record { asks = refl; row_stands = refl; verify_only = refl; then_applies = refl; verify_and_apply = refl; applies = refl; only_success = refl; success_applying = refl; success_completed = refl; other_version = refl; other_distribution = refl; untold = refl; failed_afterwards = refl; seen_failed = refl }

pub answers_count_is : AnswersCount
unfolding word_at octets_at opcode_at pattern_at
answers_count_is = record { rows = refl; counts = refl }

pub confirmations_is : Confirmations
unfolding word_at octets_at opcode_at pattern_at
confirmations_is = record { waits = refl; unconfirmed = refl; unconfirmed_row = refl; confirmed = refl; confirmed_row = refl; suspended = refl }

pub many_receivers_is : ManyReceivers
unfolding word_at octets_at opcode_at pattern_at
many_receivers_is = record { ten = refl; eleven = refl; twelve = refl; seen_twelve = refl; one_by_one = refl; short_again = refl; most = refl; too_many = refl; listed = refl; listed_rest = refl; listed_one = refl; listed_past = refl; twice = refl }
