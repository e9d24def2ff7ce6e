-- Where the status stands by which a receiver of an updater was dropped.
use Rattle.std.specs.Prelude.{ℕ, ◌≡◌, List}
use Rattle.std.specs.List.{AllByRecursion}
use Rattle.mu_model_image.specs.Meta.{Image}
use Rattle.mu_model_node.specs.Events.{NodeEvent}
use Rattle.mu_model_client.specs.declared.Dropped.TheVariants.{Status}
use Rattle.mu_model_client.specs.declared.Plan.{Plan}
use Rattle.mu_model_client.specs.Client.{Step, step_number, Gone, Receiver}
use Rattle.mu_model_updater.specs.Updater.{new_updater, updater_after}
use Rattle.mu_model_rows.specs.Clients.{IsUpdateStep, IsBlobStep, IsNoStatus}

pub data StandsInRow (r : Receiver) : Type 0 where
  -- it wasn't dropped, or as Silent, as Barren or by its phase
  nowhere : IsNoStatus r.standing → r.row.update_status ≡ 0 → r.row.transfer_status ≡ 0 → StandsInRow r
  -- by a status of an update message
  by_update :
      (step : Step) → IsUpdateStep step → r.standing ≡ Gone (Status (step_number step) r.row.update_status) → r.row.transfer_status ≡ 0
      → StandsInRow r
  -- by one of a BLOB message, or of the BLOB information
  by_transfer :
      (step : Step) → IsBlobStep step → r.standing ≡ Gone (Status (step_number step) r.row.transfer_status) → r.row.update_status ≡ 0
      → StandsInRow r

-- so it is over the whole run of an updater
abbrev pub DropsStandInRows : Type 0
DropsStandInRows =
    (plan : Plan) (image : Image) (to : List (ℕ × ℕ)) (run : List (NodeEvent × ℕ))
    → AllByRecursion StandsInRow (updater_after (new_updater plan image to) run).client.receivers
