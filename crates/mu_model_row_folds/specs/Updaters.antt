-- What counts for the rows of an updater, whose transfer is always present.
use Rattle.std.specs.Prelude.{ℕ, ◌==◌, List, [], ◌∷◌, map, Option, Some, None, if◌then◌else◌}
use Rattle.mu_model_image.specs.Meta.{Image}
use Rattle.mu_model_node.specs.Events.{NodeEvent, PacketComes, TimeComes}
use Rattle.mu_model_client.specs.declared.Plan.{Plan}
use Rattle.mu_model_client.specs.Answers.{Answer, answer_at}
use Rattle.mu_model_client.specs.Client.{Receiver, Client, rows}
use Rattle.mu_model_client.specs.Rows.{Row, new_row}
use Rattle.mu_model_updater.specs.Updater.{Updater, new_updater, updater_step, updater_after}
use Rattle.mu_model_rows.specs.Clients.{fails_now}
use Rattle.mu_model_row_folds.specs.Folds.{Counted, Told, Unconfirmed, Folds, joined}

abbrev pub none_counted : {R : Type 0} → R → List Counted
none_counted r = []

-- a packet counts for the rows of its source
abbrev pub counted_answer : (from : ℕ) → Option Answer → Receiver → List Counted
counted_answer from None r = []
counted_answer from (Some answer) r = if r.row.address == from then Told answer ∷ [] else []

-- a fifth silent round of Confirm
abbrev pub counted_in_time : Client → (now : ℕ) → Receiver → List Counted
counted_in_time c now r = if fails_now c now r then Unconfirmed ∷ [] else []

-- of an event, for each row
abbrev pub counted_by : Updater → NodeEvent → (now : ℕ) → List (List Counted)
counted_by u (PacketComes packet) now =
    if packet.to == u.client.sending.from then map (counted_answer packet.from (answer_at packet.payload)) u.client.receivers
    else map none_counted u.client.receivers
counted_by u TimeComes now = map (counted_in_time u.client now) u.client.receivers

abbrev pub counted_in : Updater → List (NodeEvent × ℕ) → List (List Counted)
counted_in u [] = map none_counted u.client.receivers
counted_in u (e ∷ run) = joined (counted_by u e.0 e.1) (counted_in (updater_step u e.0 e.1).next run)

-- where a row begins
abbrev pub first_row : ℕ × ℕ → Row
first_row receiver = new_row receiver.0 receiver.1

abbrev pub UpdaterRowsAreFolds : Type 0
UpdaterRowsAreFolds =
    (plan : Plan) (image : Image) (to : List (ℕ × ℕ)) (run : List (NodeEvent × ℕ))
    → Folds plan.sending.id plan.meta (map first_row to) (counted_in (new_updater plan image to) run) (rows (updater_after (new_updater plan image to) run).client)
