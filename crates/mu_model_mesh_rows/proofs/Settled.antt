-- The script that is run to its `settle`, evaluated.
use Rattle.std.proofs.Common.{[]}
use Rattle.sha2.specs.Sha256.{sha256, digest_bytes, hash_after, compress, rounds, schedule, first_words}
use Rattle.mu_model_wire.specs.Reading.{word_at, octets_at, opcode_at, pattern_at}
use Rattle.std.specs.Fmt.{digits}
use Rattle.hex.specs.Hex.{decode_pairs, encode_with}
use Rattle.mu_model_script.specs.Lines.{value_at}
use Rattle.mu_model_mesh.specs.Mesh.{new_mesh}
use Rattle.mu_model_mesh.specs.MeshJudged.{mesh_judged}
use Rattle.mu_model_mesh.specs.MeshRun.{MeshRun}
use Rattle.mu_model_mesh_rows.specs.Settled.{member_lines, settle_line, members, IsSettled}
use Rattle.mu_model_mesh_rows.proofs.Evaluated.{run, done, there}

made : MeshRun new_mesh member_lines [] members
unfolding value_at decode_pairs encode_with digits word_at octets_at opcode_at pattern_at sha256 digest_bytes hash_after compress rounds schedule first_words
made = (there (run member_lines new_mesh) tt).2

pub is_settled : IsSettled
unfolding value_at decode_pairs encode_with digits word_at octets_at opcode_at pattern_at sha256 digest_bytes hash_after compress rounds schedule first_words
is_settled = record {
  made = made;
  text = (there (done members (mesh_judged members settle_line)) tt).0;
  next = (there (done members (mesh_judged members settle_line)) tt).1;
  settled = record { done = (there (done members (mesh_judged members settle_line)) tt).2 };
}
