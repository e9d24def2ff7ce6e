-- A script that is run to its `settle`: the members that its lines make, and a `settle` that is done.
use Rattle.std.specs.Prelude.{ℕ, List, [], ◌∷◌, codes}
use Rattle.mu_model_script.specs.Event.{Event, Node, Updater, Distributor}
use Rattle.mu_model_script.specs.Tokens.{Hex}
use Rattle.mu_model_mesh.specs.Mesh.{Mesh, new_mesh}
use Rattle.mu_model_mesh.specs.MeshWorked.{after}
use Rattle.mu_model_mesh.specs.MeshRun.{MeshRun, MeshStep}

abbrev pub updater_line : List ℕ
updater_line = codes "updater 0001 0000 7 5 0 push 12 200 2 hex:616263 0002"

abbrev pub member_lines : List (List ℕ)
member_lines = codes "node 0002 0000 1 1 hex:61" ∷ updater_line ∷ codes "distributor 0003 1" ∷ []

abbrev pub settle_line : List ℕ
settle_line = codes "settle 10"

-- what they make
abbrev pub members : Mesh
members = after new_mesh (Node 2 0 1 1 (Hex (0x61 ∷ [])) ∷ Updater 1 0 7 5 0 1 12 200 2 (Hex (0x61 ∷ 0x62 ∷ 0x63 ∷ [])) (2 ∷ []) ∷ Distributor 3 1 ∷ [])

pub record IsSettled : Type 0 where
  -- the lines print nothing, and make the members
  pub made : MeshRun new_mesh member_lines [] members
  -- then the settle is done
  pub text : List ℕ
  pub next : Mesh
  pub settled : MeshStep members settle_line text next
