-- A standalone updater in memory as the model's updater, whose image is handed in by its caller.
use Rattle.std.specs.Prelude.{ℕ, ◌≡◌, ◌≤◌, List, map, Option, Some}
use Rattle.mu_model_image.specs.Meta.{Image}
use Rattle.mu_model_client.specs.Client.{Client, rows}
use Rattle.mu_model_node.specs.Events.{NodeEvent}
use Rattle.mu_model_updater.specs.Updater.{Updater, UpdaterStep, updater_step}
use Rattle.mu_updcli.specs.Client.{row_shown}
use Rattle.mu_solo.specs.declared.solo.Solo.TheInside.{Inside}

abbrev pub solo_client : Inside → Client
solo_client s = s.client

-- the address is the client's, the image isn't too large, and the rows that are kept are the receivers'
pub record IsSolo (s : Inside) : Type 0 where
  pub address : s.address ≡ s.client.sending.from
  pub size : s.client.sending.size ≤ 1048576
  pub rows : map row_shown s.rows.items ≡ rows s.client

-- the updater with this image
abbrev pub with_image : Client → Image → Updater
with_image client image = record { client = client; image = image }

-- what an event at this moment makes of it
abbrev pub step_of : Client → Image → NodeEvent → ℕ → UpdaterStep
step_of client image event now = updater_step (with_image client image) event now

-- the client that stands after the event, whatever the octets of its image
abbrev pub Steps : Client → NodeEvent → ℕ → Client → Type 0
Steps old event now new = (image : Image) → with_image new image ≡ (step_of old image event now).next

-- these octets, where they are told, are the image's
abbrev pub IsImage : Option (List ℕ) → Image → Type 0
IsImage octets image = octets ≡ Some image.octets
