-- Scripts octet by octet, and how they end.
use Rattle.std.specs.Prelude.{[], ◌∷◌, ◌++◌, codes}
use Rattle.mu_model_mesh.specs.Mesh.{new_mesh}
use Rattle.mu_model_mesh_runs.specs.Ends.{IsWhole, IsRefused}
use Rattle.mu_model_mesh_runs.specs.Laws.{mesh_lines}

pub record WorkedEnds : Type 0 where
  -- nothing is done, and nothing is printed
  pub empty : IsWhole mesh_lines [] [] [] new_mesh
  -- comments and empty lines print nothing
  pub silent : IsWhole mesh_lines (codes "#" ++ 10 ∷ 10 ∷ []) [] [] new_mesh
  -- lines are counted from 1, and those that say nothing count too
  pub first_line : IsRefused mesh_lines (codes "x") (codes "refused 1 0 token" ++ 10 ∷ []) new_mesh
  pub second_line : IsRefused mesh_lines (codes "#" ++ (10 ∷ (codes "cut x" ++ 10 ∷ []))) (codes "refused 2 4 token" ++ 10 ∷ []) new_mesh
