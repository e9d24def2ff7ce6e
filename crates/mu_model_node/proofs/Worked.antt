-- Worked rows, evaluated.
use Rattle.std.proofs.Common.{refl}
use Rattle.sha2.specs.Sha256.{sha256, digest_bytes, hash_after, compress, rounds, schedule, first_words}
use Rattle.mu_model_wire.specs.Reading.{word_at, octets_at, opcode_at}
use Rattle.mu_model_node.specs.Worked.{AWholeUpdate, PowerCuts, Refusals, TwoImages}

pub a_whole_update : AWholeUpdate
unfolding word_at octets_at opcode_at sha256 digest_bytes hash_after compress rounds schedule first_words
a_whole_update = record { information = refl; started = refl; transfer = refl; block = refl; chunk = refl; verified = refl; applied = refl; active = refl; log = refl }

pub power_cuts : PowerCuts
unfolding word_at octets_at opcode_at sha256 digest_bytes hash_after compress rounds schedule first_words
power_cuts = record { start_erased = refl; start_written = refl; bank_begun = refl; bank_unbegun = refl; block_work = refl; block_unmarked = refl; block_marked = refl; unsealed = refl; sealed = refl; sealed_again = refl }

pub refusals : Refusals
unfolding word_at octets_at opcode_at
refusals = record { equal_version = refl; no_image = refl; idle = refl; apply_idle = refl; apply_verifying = refl; blob_information = refl; worn = refl }

pub two_images_are : TwoImages
unfolding word_at octets_at opcode_at sha256 digest_bytes hash_after compress rounds schedule first_words
two_images_are = record { information = refl; started = refl; active = refl }
