-- What each event makes of the rows of a client, exactly.
use Rattle.std.specs.Prelude.{ℕ, ◌≡◌, ◌⊎◌, ◌↔◌, ◌==◌, ◌&&◌, ◌+◌, max, nat_le, Bool, true, false, List, [], ◌∷◌, Option, Some, None, if◌then◌else◌, ⊤}
pub use Rattle.mu_model_client.specs.Places.{Each}
use Rattle.mu_model_image.specs.declared.Meta.{Meta}
use Rattle.mu_model_node.specs.UpdateMessages.{ShownJob, UpdateReply, InformationStatus, MetadataStatus, UpdateStatus}
use Rattle.mu_model_client.specs.declared.Dropped.TheVariants.{Status}
use Rattle.mu_model_client.specs.declared.Plan.{Plan}
use Rattle.mu_model_client.specs.Answers.{Answer, FromUpdate, FromBlob}
use Rattle.mu_model_client.specs.Rows.{Row, is_reported, phase_unknown, row_after, row_unconfirmed}
use Rattle.mu_model_client.specs.Client.{Step, Check, Start, Information, Transfer, Block, Pull, Get, Apply, Confirm, step_number, Standing, Gone, Receiver, Place, At, Client, round_time}
use Rattle.mu_model_client.specs.Begin.{start, take_apply, take_cancel}
use Rattle.mu_model_client.specs.Told.{is_present, told}
use Rattle.mu_model_client.specs.Going.{is_empty, most_silent, going}

-- ---- time

abbrev pub confirms : Place → Bool
confirms (At Confirm) = true
confirms _ = false

-- a receiver that is pending in Confirm, whose fifth silent round ends: the round's list is sent, and a round's time has passed
abbrev pub fails_now : Client → ℕ → Receiver → Bool
fails_now c now r =
    confirms c.place && (is_empty c.queue && (nat_le (c.began + round_time c.sending) (max c.moment now) && (r.pending && nat_le most_silent (r.silent + 1))))

abbrev pub phase_in_time : Client → ℕ → Receiver → ℕ
phase_in_time c now r = if fails_now c now r then (row_unconfirmed r.row).phase else r.row.phase

pub record IsInTime (c : Client) (now : ℕ) (before after : Receiver) : Type 0 where
  pub phase_is : after.row.phase ≡ phase_in_time c now before

-- what is sent and how octets come in is all one
abbrev pub TimeIsExact : Type 0
TimeIsExact = (c : Client) (now : ℕ) → Each (IsInTime c now) c.receivers (going c now).next.receivers

-- ---- presence

-- a transfer is present from the start on, until it is canceled
pub record KeepsPresence : Type 0 where
  pub starts : (plan : Plan) (to : List (ℕ × ℕ)) → is_present (start plan to).place ≡ true
  pub tells : (c : Client) (from : ℕ) (answer : Answer) (now : ℕ) → is_present (told c from answer now).place ≡ is_present c.place
  pub goes : (c : Client) (now : ℕ) → is_present (going c now).next.place ≡ is_present c.place
  pub applies : (c : Client) → is_present (take_apply c).place ≡ true
  pub cancels : (c : Client) → is_present (take_cancel c).place ≡ false

abbrev pub PresenceStays : Type 0
PresenceStays = KeepsPresence

-- ---- statuses of drops

-- the steps whose messages are an update's, and those whose messages are a BLOB's
abbrev pub IsUpdateStep : Step → Type 0
IsUpdateStep Check = ⊤
IsUpdateStep Start = ⊤
IsUpdateStep Apply = ⊤
IsUpdateStep _ = ⊥

abbrev pub IsBlobStep : Step → Type 0
IsBlobStep Information = ⊤
IsBlobStep Transfer = ⊤
IsBlobStep (Block b) = ⊤
IsBlobStep (Pull b) = ⊤
IsBlobStep (Get b) = ⊤
IsBlobStep _ = ⊥

-- a receiver that isn't dropped by a status, as Silent, Barren and Phase aren't
abbrev pub IsNoStatus : Standing → Type 0
IsNoStatus (Gone (Status step status)) = ⊥
IsNoStatus _ = ⊤

-- after a packet: nothing has changed of standing and statuses; or it was dropped, by a status that stands in its place
pub data StatusStands (c : Client) (before after : Receiver) : Type 0 where
  as_before : after.standing ≡ before.standing → after.row.update_status ≡ before.row.update_status → after.row.transfer_status ≡ before.row.transfer_status → StatusStands c before after
  by_update :
      (step : Step) → IsUpdateStep step → c.place ≡ At step → after.standing ≡ Gone (Status (step_number step) after.row.update_status)
      → after.row.transfer_status ≡ before.row.transfer_status → StatusStands c before after
  by_transfer :
      (step : Step) → IsBlobStep step → c.place ≡ At step → after.standing ≡ Gone (Status (step_number step) after.row.transfer_status)
      → after.row.update_status ≡ before.row.update_status → StatusStands c before after
  by_none : IsNoStatus after.standing → after.row.update_status ≡ before.row.update_status → after.row.transfer_status ≡ before.row.transfer_status → StatusStands c before after

abbrev pub StatusesStand : Type 0
StatusesStand = (c : Client) (from : ℕ) (answer : Answer) (now : ℕ) → Each (StatusStands c) c.receivers (told c from answer now).receivers

-- ---- Phase Unknown

-- an Update Status of the transfer that tells a phase of 1 to 6
abbrev pub tells_of : ℕ → ℕ → Option ShownJob → Bool
tells_of id phase None = false
tells_of id phase (Some job) = (job.id == id) && is_reported phase

abbrev pub tells_phase : ℕ → Answer → Bool
tells_phase id (FromUpdate (UpdateStatus status phase job)) = tells_of id phase job
tells_phase id (FromUpdate (InformationStatus count first ids)) = false
tells_phase id (FromUpdate (MetadataStatus status index)) = false
tells_phase id (FromBlob answer) = false

-- it stands exactly where the packet tells none, and does not come back
pub record UnknownStands (id : ℕ) (offered : Meta) (row : Row) (answer : Answer) : Type 0 where
  pub stands : row.phase ≡ phase_unknown → tells_phase id answer ≡ false → (row_after id offered row answer).phase ≡ phase_unknown
  pub goes : row.phase ≡ phase_unknown → tells_phase id answer ≡ true → (row_after id offered row answer).phase ≡ phase_unknown → ⊥
  pub stays_gone : (row.phase ≡ phase_unknown → ⊥) → (row_after id offered row answer).phase ≡ phase_unknown → ⊥

abbrev pub UnknownIsExact : Type 0
UnknownIsExact = (id : ℕ) (offered : Meta) (row : Row) (answer : Answer) → UnknownStands id offered row answer
