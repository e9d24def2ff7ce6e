-- What each change of all receivers makes of one.
use Rattle.std.specs.Prelude.{ℕ, ◌≡◌, ◌<◌, Bool, true, false, List, length, slice_index_or}
use Rattle.mu_model_wire.specs.Reports.{has}
use Rattle.mu_model_client.specs.Client.{Purpose, Step, Chunks, Pull, Receiver, stands_active}
use Rattle.mu_model_client.specs.declared.Sending.{Sending}
use Rattle.mu_model_client.specs.Lists.{step_message, again_message, said_if, lacks_chunk}
use Rattle.mu_model_client.specs.Told.{most_barren}
use Rattle.mu_model_client.specs.Going.{begun, round_counted, most_silent, unheard, unwanted}
use Rattle.mu_receivers.specs.Receivers.{receiver_of, before}
use Rattle.mu_receivers.specs.Messages.{listed}
use Rattle.mu_receivers.specs.declared.slot.Slot.{Slot}

-- R holds of the receivers at each place, and there are as many
pub record Each (R : Slot → Slot → Type 0) (olds news : List Slot) : Type 0 where
  pub long : length news ≡ length olds
  pub each : (k : ℕ) (d : Slot) → k < length olds → R (slice_index_or olds k d) (slice_index_or news k d)

-- the receiver's address and index are as before, and what a list has for it
pub record KeepsList (old new : Slot) : Type 0 where
  pub address : new.address ≡ old.address
  pub index : new.index ≡ old.index
  pub message : new.listed ≡ old.listed
  pub chunks : new.asked ≡ old.asked

-- what is kept of how the receiver was before the time event
pub record KeepsWas (old new : Slot) : Type 0 where
  pub receiver : before new ≡ before old
  pub message : new.was.listed ≡ old.was.listed

-- how the receiver is before a time event
pub record IsKept (old new : Slot) : Type 0 where
  pub receiver : receiver_of new ≡ receiver_of old
  pub was : before new ≡ receiver_of old
  pub was_listed : new.was.listed ≡ old.listed
  pub list : KeepsList old new

-- the begin of a step: its message is to go to the receiver where it is pending
pub record IsBegun (step : Step) (old new : Slot) : Type 0 where
  pub receiver : receiver_of new ≡ begun step (receiver_of old)
  pub list : (p : Sending) (purpose : Purpose) → listed p purpose step new ≡ said_if (receiver_of new) (step_message p purpose step (receiver_of new)) new.pending
  pub address : new.address ≡ old.address
  pub chunks : new.asked ≡ old.asked
  pub was : KeepsWas old new

-- the end of a round
pub record IsCounted (step : Step) (old new : Slot) : Type 0 where
  pub receiver : receiver_of new ≡ round_counted step (receiver_of old)
  pub was : KeepsWas old new
  pub list : KeepsList old new

-- a time event, taken back
pub record IsTakenBack (old new : Slot) : Type 0 where
  pub receiver : receiver_of new ≡ before old
  pub message : new.listed ≡ old.was.listed
  pub address : new.address ≡ old.address
  pub chunks : new.asked ≡ old.asked

-- a new round of a step
pub record IsRenewed (step : Step) (old new : Slot) : Type 0 where
  pub receiver : receiver_of new ≡ unheard (receiver_of old)
  pub list : (p : Sending) (purpose : Purpose) → listed p purpose step new ≡ said_if (receiver_of old) (again_message p purpose step (receiver_of old)) old.pending
  pub address : new.address ≡ old.address
  pub chunks : new.asked ≡ old.asked
  pub was : KeepsWas old new

pub record IsUnwanting (old new : Slot) : Type 0 where
  pub receiver : receiver_of new ≡ unwanted (receiver_of old)
  pub was : KeepsWas old new
  pub list : KeepsList old new

-- the list has the chunks of one of its sets for the receiver, where that is active
pub record IsAsked (which : Receiver → List Bool) (old new : Slot) : Type 0 where
  pub receiver : receiver_of new ≡ receiver_of old
  pub was : KeepsWas old new
  pub address : new.address ≡ old.address
  pub message : new.listed ≡ old.listed
  pub chunks : (k : ℕ) → has new.asked k ≡ lacks_chunk which k (receiver_of old)

-- counters that a round or an answer may still raise
pub record IsFew (s : Slot) : Type 0 where
  pub silent : s.pending ≡ true → s.silent < most_silent
  pub barren : stands_active s.standing ≡ true → s.barren < most_barren

abbrev pub AreFew : List Slot → Type 0
AreFew slots = (k : ℕ) (d : Slot) → k < length slots → IsFew (slice_index_or slots k d)

-- the steps whose first list has messages
abbrev pub by_message : Step → Bool
by_message (Chunks b) = false
by_message (Pull b) = false
by_message _ = true

-- in a later round of pull no message goes to who was heard
abbrev pub passes_over : Step → Bool → Bool
passes_over (Pull b) heard = heard
passes_over step heard = false
