-- Worked rows, evaluated.
use Rattle.std.proofs.Common.{refl}
use Rattle.sha2.specs.Sha256.{sha256, digest_bytes, hash_after, compress, rounds, schedule, first_words}
use Rattle.mu_model_wire.specs.Reading.{word_at, octets_at, opcode_at}
use Rattle.mu_model_updater.specs.Worked.{TwoReceivers, AWholeUpdate}

pub two_receivers : TwoReceivers
unfolding word_at octets_at opcode_at sha256 digest_bytes hash_after compress rounds schedule first_words
two_receivers = record { checks = refl; starts = refl; started = refl; answer = refl; elsewhere = refl; request = refl; unknown = refl; phase = refl; success = refl; fourth = refl; fifth = refl }

pub a_whole_update : AWholeUpdate
unfolding word_at octets_at opcode_at sha256 digest_bytes hash_after compress rounds schedule first_words
a_whole_update = record { row = refl; tenth = refl; ended = refl; image = refl }
