-- How these scripts end.
use Rattle.std.proofs.Common.{◌<◌, [], ◌∷◌, refl, arith, ⊎_elim}
use Rattle.std.specs.Prelude.{codes}
use Rattle.std.specs.Fmt.{digits}
use Rattle.hex.specs.Hex.{decode_pairs, encode_with}
use Rattle.mu_model_script.specs.Lines.{value_at}
use Rattle.mu_model_mesh.specs.Mesh.{new_mesh}
use Rattle.mu_model_mesh.specs.MeshRun.{MeshStep}
use Rattle.mu_model_mesh_worked.specs.Ended.{WorkedEnds}

silent_step : MeshStep new_mesh (codes "#") [] new_mesh
silent_step = record { done = (refl, refl) }

empty_step : MeshStep new_mesh [] [] new_mesh
empty_step = record { done = (refl, refl) }

pub scripts_end : WorkedEnds
unfolding value_at decode_pairs encode_with digits
scripts_end = record {
  empty = record { read = refl; within = ⊎_elim (λ p. omega (arith, p)) (λ p. omega (arith, p)); run = (refl, refl) };
  silent = record { read = refl; within = ⊎_elim (λ p. omega (arith, p)) (λ p. omega (arith, p)); run = (new_mesh, [], [], silent_step, (new_mesh, [], [], empty_step, (refl, refl), refl), refl) };
  first_line = record {
    line = codes "x";
    number = 1;
    text = [];
    at = record { before = []; others = []; cut = refl; numbered = refl; run = (refl, refl) };
    place = 0;
    word = codes "token";
    refused = record { within = tt; judged = refl };
    written_is = refl;
  };
  second_line = record {
    line = codes "cut x";
    number = 2;
    text = [];
    at = record { before = codes "#" ∷ []; others = []; cut = refl; numbered = refl; run = (new_mesh, [], [], silent_step, (refl, refl), refl) };
    place = 4;
    word = codes "token";
    refused = record { within = tt; judged = refl };
    written_is = refl;
  };
}
