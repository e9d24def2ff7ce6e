-- What the world's code does with an event.
use Rattle.std.specs.Prelude.{◌≡◌, ℕ, ◌<◌, ◌≤◌, List, ◌++◌, Option, Some, None}
use Rattle.mu_model_script.specs.declared.BadWhy.{BadWhy}
use Rattle.mu_model_script.specs.Event.{Event}
use Rattle.mu_model_world.specs.World.{World, new_world}
use Rattle.mu_model_world.specs.Outcomes.{Moves, worn}
use Rattle.mu_model_world.specs.Judged.{objection, most_events}
use Rattle.mu_reference.specs.declared.recording.Stop.{Stop}
use Rattle.mu_reference.specs.declared.recording.Stop.TheVariants.{NoMemory, Worn as WornOut}
use Rattle.mu_world.specs.declared.fault.WorldFault.{WorldFault}
use Rattle.mu_world.specs.declared.fault.WorldFault.TheVariants.{Memory, Bad, Worn, TooLong}

-- why a node of an address hasn't done an event
abbrev pub fault_of : ℕ → Stop → WorldFault
fault_of address NoMemory = Memory
fault_of address WornOut = Worn address

-- ---- a world that keeps no fault

-- an event was done: nothing stood against it, and what it prints stands behind what stood there
pub record Did (old : World) (event : Event) (before after : List ℕ) (new : World) : Type 0 where
  pub sound : objection old event ≡ None
  pub text : List ℕ
  pub moved : Moves old event text new
  pub printed : after ≡ before ++ text

-- an event was refused, and nothing has changed
pub record Refuses (old : World) (event : Event) (before after : List ℕ) (new : World) (token : ℕ) (why : BadWhy) : Type 0 where
  pub cause : objection old event ≡ Some (record { token = token; why = why })
  pub same : new ≡ old
  pub silent : after ≡ before

-- an event would wear out the flash of a node, and nothing has changed
pub record WearsOut (old : World) (event : Event) (before after : List ℕ) (new : World) (address : ℕ) : Type 0 where
  pub sound : objection old event ≡ None
  pub cause : worn old event ≡ Some address
  pub same : new ≡ old
  pub silent : after ≡ before

-- why an event wasn't done; of want of memory nothing is said
abbrev pub Fails : World → Event → List ℕ → List ℕ → World → WorldFault → Type 0
Fails old event before after new Memory = Unit {0}
Fails old event before after new (Bad token why) = Refuses old event before after new token why
Fails old event before after new (Worn address) = WearsOut old event before after new address
Fails old event before after new TooLong = ⊥

-- ---- with the fault that is kept

-- want of memory and a flash that is worn out are kept: the world answers the same from then on
pub record Held : Type 0 where
  pub world : World
  pub fault : Option WorldFault

-- before the first line
abbrev pub new_held : Held
new_held = record { world = new_world; fault = None }

-- the world is under its limit of events, and keeps no fault
pub record GoesOn (held : Held) : Type 0 where
  pub going : held.fault ≡ None
  pub few : held.world.events < most_events

pub record DidLine (old : Held) (event : Event) (before after : List ℕ) (new : Held) : Type 0 where
  pub goes_on : GoesOn old
  pub did : Did old.world event before after new.world
  pub still : new.fault ≡ None

-- why a line wasn't done by a world that keeps no fault
abbrev pub StopsLine : Held → Event → List ℕ → List ℕ → Held → WorldFault → Type 0
StopsLine old event before after new Memory = new.fault ≡ Some Memory
StopsLine old event before after new (Bad token why) = (old.world.events < most_events) × Refuses old.world event before after new.world token why × (new.fault ≡ None)
StopsLine old event before after new (Worn address) = (old.world.events < most_events) × WearsOut old.world event before after new.world address × (new.fault ≡ Some (Worn address))
StopsLine old event before after new TooLong = (most_events ≤ old.world.events) × (new ≡ old) × (after ≡ before)

-- a fault that is kept is answered again, and nothing changes
abbrev pub FailsLine : Held → Event → List ℕ → List ℕ → Held → WorldFault → Option WorldFault → Type 0
FailsLine old event before after new fault (Some kept) = (fault ≡ kept) × (new ≡ old) × (after ≡ before)
FailsLine old event before after new fault None = StopsLine old event before after new fault

-- of a fault, the one that is kept then
abbrev pub kept_of : Option WorldFault → WorldFault → Option WorldFault
kept_of kept Memory = Some Memory
kept_of kept (Worn address) = Some (Worn address)
kept_of kept _ = kept
