-- What a time event makes of a machine of rounds: it goes on, sends the first of its list, or is taken back whole.
use Rattle.std.specs.Prelude.{◌≡◌, drop, Option, IfSome, length}
use Rattle.std.specs.Option.{option_map}
use Rattle.mu_model_client.specs.declared.Sending.{Sending}
use Rattle.mu_model_client.specs.Going.{most_packets}
use Rattle.mu_receivers.specs.Image.{Image}
use Rattle.mu_receivers.specs.Slots.{Each, IsKept, IsTakenBack}
use Rattle.mu_receivers.specs.declared.lists.Cursor.{Cursor}
use Rattle.mu_rounds.specs.Rounds.{client_of, HasShape}
use Rattle.mu_rounds.specs.declared.left.Left.{Left}
use Rattle.mu_rounds.specs.declared.rounds.Rounds.{Rounds}
use Rattle.mu_rounds.specs.declared.time.Stood.{Stood}

-- the image has the size of what is sent
pub record HasSize (p : Sending) (image : Image) : Type 0 where
  pub size : image.size ≡ p.size
  pub octets : IfSome image.octets (λ octets. length octets ≡ p.size)

-- what is left of a list of chunks that goes on here
abbrev pub left_at : Left → Cursor → Left
left_at left at = record left { at = at }

abbrev pub left_after : Left → Option Cursor → Option Left
left_after left next = option_map (left_at left) next

-- the first of the list are sent
pub record SendsOn (old new : Rounds) : Type 0 where
  pub client : client_of new ≡ record (client_of old) { queue = drop most_packets (client_of old).queue }
  pub shape : HasShape new

-- all but the receivers is as before
pub record KeepsPlace (old new : Rounds) : Type 0 where
  pub sending : new.sending ≡ old.sending
  pub purpose : new.purpose ≡ old.purpose
  pub place : new.place ≡ old.place
  pub left : new.left ≡ old.left
  pub began : new.began ≡ old.began
  pub moment : new.moment ≡ old.moment

-- how each receiver is before a time event is kept
pub record Keeps (old new : Rounds) : Type 0 where
  pub each : Each IsKept old.slots.items new.slots.items
  pub same : KeepsPlace old new
  pub client : client_of new ≡ client_of old
  pub shape : HasShape new

-- the client's place was this
pub record StoodSo (r : Rounds) (stood : Stood) : Type 0 where
  pub place : stood.place ≡ r.place
  pub left : stood.left ≡ r.left
  pub began : stood.began ≡ r.began
  pub moment : stood.moment ≡ r.moment

-- each receiver is as it was kept, and the client stands where it stood
pub record GoesBack (old : Rounds) (was : Stood) (new : Rounds) : Type 0 where
  pub each : Each IsTakenBack old.slots.items new.slots.items
  pub sending : new.sending ≡ old.sending
  pub purpose : new.purpose ≡ old.purpose
  pub stood : StoodSo new was

-- the client is as before
pub record IsBack (old new : Rounds) : Type 0 where
  pub client : client_of new ≡ client_of old
  pub shape : HasShape new
