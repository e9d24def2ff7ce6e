-- Worked rows of a node's tags, evaluated.
use Rattle.std.proofs.Common.{refl}
use Rattle.sha2.specs.Sha256.{sha256, digest_bytes, hash_after, compress, rounds, schedule, first_words}
use Rattle.mu_model_wire.specs.Reading.{word_at, octets_at, opcode_at}
use Rattle.mu_model_record.specs.Record.{zeros}
use Rattle.mu_model_represents.specs.WorkedNode.{NodeTags}

pub node_tags : NodeTags
unfolding word_at octets_at opcode_at sha256 digest_bytes hash_after compress rounds schedule first_words zeros
node_tags = record { new_node = refl; old_node = refl; new_pair = refl; taken = refl; begun = refl; verified = refl; refused = refl; applied = refl; done = refl }
