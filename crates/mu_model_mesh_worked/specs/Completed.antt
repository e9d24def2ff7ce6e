-- A script's text whose `settle` completes an update.
use Rattle.std.specs.Prelude.{◌≡◌, [], ◌∷◌, Some}
use Rattle.mu_model_client.specs.Client.{rows}
use Rattle.mu_model_client.specs.Rows.{Row}
use Rattle.mu_model_completion.specs.Completion.{push_turns}
use Rattle.mu_model_mesh.specs.Mesh.{Mesh, UpdaterMember, updater_at}
use Rattle.mu_model_mesh_completion.specs.Laws.{SettlesIn, sending_of}
use Rattle.mu_model_mesh_completion.specs.Worked.{line, scene}
use Rattle.mu_model_mesh_rows.specs.Settled.{member_lines}

-- the row that is shown in the end
abbrev pub success : Row
success = record { address = 2; index = 0; phase = 8; update_status = 0; transfer_status = 0; progress = 100 }

pub record AScriptCompletes : Type 0 where
  pub next : Mesh
  -- the lines make the updater, which can settle, and the `settle` has turns enough
  pub settles : SettlesIn line scene (push_turns (sending_of line) 1) next
  pub lines : settles.before ≡ member_lines
  -- so it is complete
  pub member : UpdaterMember
  pub found : updater_at next 1 ≡ Some member
  pub rows : rows member.updater.client ≡ success ∷ []
