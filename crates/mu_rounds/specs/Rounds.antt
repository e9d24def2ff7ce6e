-- A machine of rounds as the model's client.
use Rattle.std.specs.Prelude.{ℕ, ◌≡◌, ◌≤◌, ◌<◌, ◌++◌, Bool, true, false, List, [], map, length, Option, Some, None, slice_index_or}
use Rattle.mu_model_client.specs.declared.Sending.{Sending}
use Rattle.mu_model_client.specs.Client.{Purpose, Step, Chunks, Pull, Get, Place, At, Verified, Ended, Receiver, Item, Client, is_active, block_total, chunk_total}
use Rattle.mu_model_client.specs.Lists.{sent_for}
use Rattle.mu_model_client.specs.Going.{Going, Next, Go, most_packets, sends, is_empty}
use Rattle.mu_receivers.specs.Receivers.{receiver_of, receivers_of}
use Rattle.mu_receivers.specs.Messages.{listed, messages_left}
use Rattle.mu_receivers.specs.Chunks.{rest}
use Rattle.mu_receivers.specs.Slots.{Each, KeepsWas, AreFew}
use Rattle.mu_receivers.specs.declared.slot.Slot.{Slot}
use Rattle.mu_told.specs.Told.{IsSendable, WantsOf}
use Rattle.mu_rounds.specs.After.{PlaceFits, block_at}
use Rattle.mu_rounds.specs.Sents.{sents_of}
use Rattle.mu_rounds.specs.declared.said.Sent.{Sent}
use Rattle.mu_rounds.specs.declared.left.Left.{Left}
use Rattle.mu_rounds.specs.declared.rounds.Rounds.{Rounds}

-- the chunks that are still to be sent
abbrev pub rest_of : Sending → List Slot → Left → List Item
rest_of p slots left = rest p.group left.block left.chunks slots left.at.chunk left.at.receiver

abbrev pub chunks_left : Sending → List Slot → Option Left → List Item
chunks_left p slots None = []
chunks_left p slots (Some left) = rest_of p slots left

-- what is still to be sent of a step's list: chunks, else messages
abbrev pub list_left : Sending → Purpose → List Slot → Step → Option Left → List Item
list_left p purpose slots step None = messages_left p purpose step slots
list_left p purpose slots step (Some left) = rest_of p slots left

abbrev pub queue_of : Sending → Purpose → List Slot → Option Left → Place → List Item
queue_of p purpose slots left (At step) = list_left p purpose slots step left
queue_of p purpose slots left _ = []

abbrev pub client_of : Rounds → Client
client_of r = record {
  sending = r.sending;
  purpose = r.purpose;
  receivers = receivers_of r.slots.items;
  place = r.place;
  queue = queue_of r.sending r.purpose r.slots.items r.left r.place;
  began = r.began;
  moment = r.moment;
}

-- ---- what holds of it

-- chunks are left of the block of the present step, and no messages
pub record LeftFits (p : Sending) (purpose : Purpose) (slots : List Slot) (place : Place) (left : Left) : Type 0 where
  pub block : block_at place ≡ Some left.block
  pub within : left.block < block_total p
  pub chunks : left.chunks ≡ chunk_total p left.block
  pub receiver : left.at.receiver ≤ length slots
  pub some : is_empty (rest_of p slots left) ≡ false
  pub alone : (step : Step) → place ≡ At step → messages_left p purpose step slots ≡ []

-- in pull each wants chunks of the present block
abbrev pub AllWant : Sending → Place → List Slot → Type 0
AllWant p place slots =
    (b k : ℕ) (d : Slot) → place ≡ At (Pull b) → k < length slots → WantsOf (chunk_total p b) (receiver_of (slice_index_or slots k d))

-- a receiver that is pending is active
abbrev pub IsActiveWhere : Receiver → Type 0
IsActiveWhere r = r.pending ≡ true → is_active r ≡ true

-- those that are asked for a block's missing chunks are active
abbrev pub AllActive : Place → List Slot → Type 0
AllActive place slots =
    (b k : ℕ) (d : Slot) → place ≡ At (Get b) → k < length slots → IsActiveWhere (receiver_of (slice_index_or slots k d))

pub record HasShape (r : Rounds) : Type 0 where
  pub range : IsSendable r.sending
  pub later : r.began ≤ r.moment
  pub most : length r.slots.items ≤ 128
  pub few : AreFew r.slots.items
  pub place : PlaceFits r.sending r.place
  pub left : (left : Left) → r.left ≡ Some left → LeftFits r.sending r.purpose r.slots.items r.place left
  pub wants : AllWant r.sending r.place r.slots.items
  pub active : AllActive r.place r.slots.items

-- ---- a time event

-- it goes on as the model does, but that the first of its list are still to be sent
pub record GoesOn (old new : Rounds) (turn : Going) : Type 0 where
  pub going : turn ≡ sends (client_of new) (client_of new).queue
  pub sending : new.sending ≡ old.sending
  pub purpose : new.purpose ≡ old.purpose
  pub was : Each KeepsWas old.slots.items new.slots.items
  pub shape : HasShape new

-- the chunks that the list has for a receiver are as before
pub record KeepsAsked (old new : Slot) : Type 0 where
  pub chunks : new.asked ≡ old.asked

-- where chunks were left
abbrev pub KeepsLeft : Rounds → Rounds → Type 0
KeepsLeft old new = (left : Left) → old.left ≡ Some left → Each KeepsAsked old.slots.items new.slots.items

-- no chunks are left where those of a block come next
abbrev pub IsFree : Rounds → Next → Type 0
IsFree r next = (b : ℕ) → next ≡ Go (Chunks b) → r.left ≡ None

-- nothing is to be sent there, whatever comes
abbrev pub rests : Place → Bool
rests Verified = true
rests (Ended part) = true
rests _ = false

-- ---- messages

pub record IsSaid (old new : Slot) : Type 0 where
  pub receiver : receiver_of new ≡ receiver_of old
  pub was : KeepsWas old new
  pub asked : KeepsAsked old new

-- a receiver's message is sent where there is room
pub record SaysOne (p : Sending) (purpose : Purpose) (step : Step) (old new : Slot) (before after : List Sent) : Type 0 where
  pub sent : (image : List ℕ) → length before < most_packets → sents_of p purpose after ≡ sents_of p purpose before ++ map (sent_for p image) (listed p purpose step old)
  pub left : length before < most_packets → listed p purpose step new ≡ []
  pub full : most_packets ≤ length before → (after ≡ before) × (listed p purpose step new ≡ listed p purpose step old)
