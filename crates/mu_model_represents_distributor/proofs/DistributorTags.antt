-- Worked rows of a distributor's tags, evaluated.
use Rattle.std.proofs.Common.{refl}
use Rattle.sha2.specs.Sha256.{sha256, digest_bytes, hash_after, compress, rounds, schedule, first_words}
use Rattle.mu_model_wire.specs.Reading.{word_at, octets_at, opcode_at}
use Rattle.mu_model_record.specs.Record.{zeros}
use Rattle.mu_model_represents_distributor.specs.WorkedDistributor.{DistributorTags}

pub distributor_tags : DistributorTags
unfolding word_at octets_at opcode_at sha256 digest_bytes hash_after compress rounds schedule first_words zeros
distributor_tags = record { new_distributor = refl; stocked = refl; with_receiver = refl; distributing = refl; uploading = refl }
