-- What a packet tells a client, as the model's answer, and what it makes of a receiver.
use Rattle.std.specs.Prelude.{ℕ, ◌≡◌, ◌<◌, Bool, true, false, List, length, slice_index_or}
use Rattle.mu_model_image.specs.Meta.{firmware_id, own_company}
use Rattle.mu_model_node.specs.UpdateMessages.{UpdateReply, InformationStatus, MetadataStatus, UpdateStatus}
use Rattle.mu_model_client.specs.declared.Sending.{Sending}
use Rattle.mu_model_client.specs.Answers.{Answer, FromUpdate, FromBlob}
use Rattle.mu_model_client.specs.Client.{Purpose, Blob, Update, Place, At, Pull, Get, Receiver, chunk_total}
use Rattle.mu_model_client.specs.Told.{is_present, row_counted, place_told}
use Rattle.mu_receivers.specs.Receivers.{receiver_of}
use Rattle.mu_receivers.specs.Slots.{IsFew}
use Rattle.mu_receivers.specs.declared.slot.Slot.{Slot}
use Rattle.mu_told.specs.Told.{IsSendable, WantsOf, job_of, ids_of}
use Rattle.mu_told.specs.Answers.{blob_answer_of, IsShort}
use Rattle.mu_rounds.specs.After.{PlaceFits}
use Rattle.mu_rounds.specs.Rounds.{IsActiveWhere}
use Rattle.mu_rounds.specs.declared.rounds.Rounds.{Rounds}
use Rattle.mu_rounds.specs.declared.told.UpdateAnswer.{UpdateAnswer}
use Rattle.mu_rounds.specs.declared.told.UpdateAnswer.TheVariants.{Information, Metadata, Status}
use Rattle.mu_rounds.specs.declared.told.Heard.{Heard}
use Rattle.mu_rounds.specs.declared.told.Heard.TheVariants as heard
use Rattle.mu_rounds.specs.declared.told.Listener.{Listener}

-- ---- what was heard; an Information Status may have any count and any further entries

abbrev pub update_reply_of : UpdateAnswer → ℕ → List (List ℕ) → UpdateReply
update_reply_of (Information first shown) count more = InformationStatus count first (ids_of shown more)
update_reply_of (Metadata status index) count more = MetadataStatus status index
update_reply_of (Status status phase job) count more = UpdateStatus status phase (job_of job)

abbrev pub answer_of : Heard → ℕ → List (List ℕ) → Answer
answer_of (heard.Update answer) count more = FromUpdate (update_reply_of answer count more)
answer_of (heard.Blob answer) count more = FromBlob (blob_answer_of answer)

-- a bit field as long as one in a message
abbrev pub HeardShort : Heard → Type 0
HeardShort (heard.Update answer) = Unit {0}
HeardShort (heard.Blob answer) = IsShort answer

-- ---- who hears it

-- the Firmware ID of the offered image
abbrev pub OwnIs : Purpose → List ℕ → Type 0
OwnIs Blob own = Unit {0}
OwnIs (Update offered apply) own = own ≡ firmware_id own_company offered

pub record Listens (l : Listener) : Type 0 where
  pub range : IsSendable l.sending
  pub place : PlaceFits l.sending l.place
  pub own : OwnIs l.purpose l.own.items

pub record ListensFor (r : Rounds) (l : Listener) : Type 0 where
  pub sending : l.sending ≡ r.sending
  pub purpose : l.purpose ≡ r.purpose
  pub place : l.place ≡ r.place
  pub own : OwnIs r.purpose l.own.items

-- what holds of a receiver that may answer
pub record CanAnswer (p : Sending) (place : Place) (s : Slot) : Type 0 where
  pub few : IsFew s
  pub wants : (b : ℕ) → place ≡ At (Pull b) → WantsOf (chunk_total p b) (receiver_of s)
  pub active : (b : ℕ) → place ≡ At (Get b) → IsActiveWhere (receiver_of s)

abbrev pub AllCanAnswer : Sending → Place → List Slot → Type 0
AllCanAnswer p place slots = (k : ℕ) (d : Slot) → k < length slots → CanAnswer p place (slice_index_or slots k d)

-- ---- what it makes of a receiver: first of its row, then by the step

abbrev pub told_at : Sending → Purpose → Place → Answer → Receiver → Bool → Receiver
told_at p purpose place answer r true = place_told p answer (row_counted p answer r purpose (is_present place)) place
told_at p purpose place answer r false = r
