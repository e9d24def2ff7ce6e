-- Worked row: a script with one updater, one node whose bank is one page, and a distributor.
use Rattle.std.specs.Prelude.{◌≡◌, List, [], ◌∷◌}
use Rattle.mu_model_script.specs.Event.{Event, Node, Updater, Distributor}
use Rattle.mu_model_script.specs.Tokens.{Hex}
use Rattle.mu_model_updater.specs.Updater.{UpdaterLine}
use Rattle.mu_model_mesh.specs.Mesh.{Mesh, new_mesh}
use Rattle.mu_model_mesh.specs.MeshWorked.{after}
use Rattle.mu_model_completion.specs.Completion.{push_turns}
use Rattle.mu_model_mesh_completion.specs.Settled.{IsWorld, IsLine, CanSettle}
use Rattle.mu_model_mesh_completion.specs.Laws.{sending_of}

-- `updater 0001 0000 7 5 0 push 12 200 2 hex:616263 0002`
abbrev pub line : UpdaterLine
line = record {
  address = 1;
  group = 0;
  id = 7;
  ttl = 5;
  base = 0;
  mode = 1;
  log = 12;
  chunk = 200;
  version = 2;
  content = 0x61 ∷ 0x62 ∷ 0x63 ∷ [];
  receivers = 2 ∷ [];
}

-- `node 0002 0000 1 1 hex:61` before it, and `distributor 0003 1` after it
abbrev pub members : List Event
members = Node 2 0 1 1 (Hex (0x61 ∷ [])) ∷ Updater 1 0 7 5 0 1 12 200 2 (Hex (0x61 ∷ 0x62 ∷ 0x63 ∷ [])) (2 ∷ []) ∷ Distributor 3 1 ∷ []

abbrev pub scene : Mesh
scene = after new_mesh members

-- a `settle` of ten turns completes it
pub record OneNode : Type 0 where
  pub world : IsWorld scene
  pub range : IsLine line
  pub can : CanSettle line scene
  pub turns : push_turns (sending_of line) 1 ≡ 10
