-- What an event makes of a world, and what is printed: all that may come of it.
use Rattle.std.specs.Prelude.{ℕ, ◌+◌, ◌-◌, max, nat_eq, nat_le, true, List, [], ◌∷◌, ◌++◌, length, map, slice_get, Contains, Option, Some, None, if◌then◌else◌}
use Rattle.std.specs.Map.{set_value}
use Rattle.mu_model_flash.specs.declared.Pattern.{Pattern}
use Rattle.mu_model_flash.specs.declared.Pattern.TheVariants.{Old as OldBits, New as NewBits, Made as MadeBits}
use Rattle.mu_model_wire.specs.Packet.{Packet}
use Rattle.mu_model_image.specs.Meta.{Image, image_of}
use Rattle.mu_model_image.specs.Made.{made_image}
use Rattle.mu_model_node.specs.Slots.{held_count}
use Rattle.mu_model_node.specs.BlobServer.{blob_number}
use Rattle.mu_model_node.specs.NodeState.{Job, NodeDurable, NodeState, new_node, new_pair, restarted, update_phase, update_number, blob_phase}
use Rattle.mu_model_node.specs.declared.Stored.{Stored}
use Rattle.mu_model_node.specs.declared.Stored.TheVariants.{Filling}
use Rattle.mu_model_node.specs.Events.{NodeEvent, PacketComes, TimeComes, NodeStep, node_step, node_work, is_worn}
use Rattle.mu_model_node.specs.Log.{logged}
use Rattle.mu_model_node.specs.Safe.{left_after}
use Rattle.mu_model_script.specs.Tokens.{Content, Hex, Made}
use Rattle.mu_model_script.specs.Event.{Event, Node, Old, Pair, Say, Deliver, Time, Cut, Tear as TearLine, Active, Phase}
use Rattle.mu_model_script.specs.Texts.{sent_text, unread_text, active_text, phase_text, boot_text}
use Rattle.mu_model_world.specs.World.{Tear, Member, World, member_at, config_of, logged_at}

-- a next world, and the text that is printed on the way
pub record Outcome : Type 0 where
  pub world : World
  pub text : List ℕ

abbrev pub one : World → List ℕ → List Outcome
one world text = record { world = world; text = text } ∷ []

-- ---- texts

-- a line for each packet; the first has this number in the bag
abbrev pub sent_texts : ℕ → List Packet → List ℕ
sent_texts number [] = []
sent_texts number (p ∷ ps) = sent_text number p.from p.to p.payload ++ sent_texts (number + 1) ps

-- a line for each active image, in the order of their indexes
abbrev pub active_texts : ℕ → List Image → List ℕ
active_texts address [] = []
active_texts address (image ∷ images) = active_text address image.meta.version image.meta.size image.meta.digest ++ active_texts address images

-- the update phase and the BLOB phase
abbrev pub phase_line : ℕ → NodeState → List ℕ
phase_line address s = phase_text address (update_number (update_phase s)) (blob_number (blob_phase s))

-- the held blocks of a bank that is being filled, else 0
abbrev pub held_in_stored : Job → Stored → ℕ
held_in_stored j Filling = held_count j.held
held_in_stored j _ = 0

abbrev pub filling_held : Option Job → ℕ
filling_held None = 0
filling_held (Some j) = held_in_stored j j.stored

-- ---- members

-- the octets of a script's image
abbrev pub content_octets : Content → List ℕ
content_octets (Hex octets) = octets
content_octets (Made seed size) = made_image seed size

abbrev pub new_member : ℕ → NodeDurable → Member
new_member group made = record { group = group; moment = 0; tear = None; state = restarted made; first = made.images }

abbrev pub node_of : (pages version : ℕ) → Content → NodeDurable
node_of pages version content = new_node pages (image_of version (content_octets content))

abbrev pub pair_of : (pages version : ℕ) → Content → (second_version : ℕ) → Content → NodeDurable
pair_of pages version content second_version second =
    new_pair pages (image_of version (content_octets content)) (image_of second_version (content_octets second))

-- ---- parts of a next world

-- one event more
abbrev pub counted : World → World
counted w = record w { events = w.events + 1 }

-- one event more, which is no member line
abbrev pub begun : World → World
begun w = record (counted w) { begun = true }

abbrev pub with_member : World → ℕ → Member → World
with_member w address m = record w { members = w.members ++ (address, m) ∷ [] }

abbrev pub with_changed : World → ℕ → Member → World
with_changed w address m = record w { members = set_value (nat_eq address) w.members m }

-- packets go to the end of the bag
abbrev pub with_packets : World → List Packet → World
with_packets w packets = record w { bag = w.bag ++ packets }

-- a member comes to a state, and the log says what has changed
abbrev pub with_state : World → ℕ → Member → NodeState → World
with_state w address m state =
    record (with_changed w address (record m { state = state })) { log = w.log ++ logged_at address (logged m.state state) }

-- ---- what an event comes to at a node

-- it ran whole
abbrev pub ran : World → ℕ → Member → (first : List ℕ) → NodeStep → Outcome
ran w address m first step = record {
  world = with_packets (with_state w address m step.next) step.sent;
  text = first ++ sent_texts (length w.bag) step.sent;
}

-- the node boots from what is kept; a tear is spent
abbrev pub booted : World → ℕ → Member → NodeDurable → Outcome
booted w address m left = record {
  world = with_state w address (record m { tear = None }) (restarted left);
  text = boot_text address left.count (filling_held left.job);
}

-- how many operations were done when the power went at the operation of this number, counted from 1: with made bits it is as
-- if that one was done, or wasn't
abbrev pub done_by : Pattern → ℕ → List ℕ
done_by OldBits operation = (operation - 1) ∷ []
done_by NewBits operation = operation ∷ []
done_by (MadeBits seed) operation = (operation - 1) ∷ operation ∷ []

abbrev pub torn : World → ℕ → Member → NodeEvent → Tear → List Outcome
torn w address m event tear =
    map (λ operations. booted w address m (left_after (config_of address m) m.state event m.moment operations)) (done_by tear.pattern tear.operation)

-- an event at the member's present moment, by a tear that is still to come
abbrev pub happens_by : World → ℕ → Member → NodeEvent → (first : List ℕ) → Option Tear → List Outcome
happens_by w address m event first None = ran w address m first (node_step (config_of address m) m.state event m.moment) ∷ []
happens_by w address m event first (Some tear) =
    if nat_le tear.operation (length (node_work (config_of address m) m.state event m.moment))
    then torn w address m event tear
    else ran w address m first (node_step (config_of address m) m.state event m.moment) ∷ []

-- an event that would wear the flash out isn't done
abbrev pub happens : World → ℕ → Member → NodeEvent → (first : List ℕ) → List Outcome
happens w address m event first =
    if is_worn (config_of address m) m.state event m.moment then [] else happens_by w address m event first m.tear

-- packet `number` comes to a member
abbrev pub unread : (number address : ℕ) → Member → Packet → List ℕ
unread number address m packet =
    if (node_step (config_of address m) m.state (PacketComes packet) m.moment).handled then [] else unread_text number address

abbrev pub delivered : World → (number address : ℕ) → Option Packet → Option Member → List Outcome
delivered w number address (Some packet) (Some m) = happens w address m (PacketComes packet) (unread number address m packet)
delivered w number address _ _ = []

-- time comes to a member; its moment is the greatest that it was given
abbrev pub at_moment : ℕ → Member → Member
at_moment ms m = record m { moment = max m.moment ms }

abbrev pub timed : World → (address ms : ℕ) → Option Member → List Outcome
timed w address ms (Some m) = happens w address (at_moment ms m) TimeComes []
timed w address ms None = []

-- ---- any event

-- what a line does with the member that it names
abbrev pub at_member : Option Member → (Member → Outcome) → List Outcome
at_member (Some m) f = f m ∷ []
at_member None f = []

abbrev pub showing : World → List ℕ → Outcome
showing w text = record { world = w; text = text }

-- all that may come of an event in a world in which nothing stands against it
abbrev pub outcomes : World → Event → List Outcome
outcomes w (Node address group pages version content) = one (with_member (counted w) address (new_member group (node_of pages version content))) []
outcomes w (Old address group pages version content) = one (with_member (counted w) address (new_member group (node_of pages version content))) []
outcomes w (Pair address group pages version content second_version second) =
    one (with_member (counted w) address (new_member group (pair_of pages version content second_version second))) []
outcomes w (Say from to payload) =
    one (with_packets (begun w) (record { from = from; to = to; payload = payload } ∷ [])) (sent_text (length w.bag) from to payload)
outcomes w (Deliver number address) = delivered (begun w) number address (slice_get w.bag number) (member_at w address)
outcomes w (Time address ms) = timed (begun w) address ms (member_at w address)
outcomes w (Cut address) = at_member (member_at w address) (λ m. booted (begun w) address m m.state.durable)
outcomes w (TearLine address operation pattern) =
    at_member (member_at w address) (λ m. showing (with_changed (begun w) address (record m { tear = Some (record { operation = operation; pattern = pattern }) })) [])
outcomes w (Active address) = at_member (member_at w address) (λ m. showing (begun w) (active_texts address m.state.durable.images))
outcomes w (Phase address) = at_member (member_at w address) (λ m. showing (begun w) (phase_line address m.state))
-- nothing comes of a line of updaters or distributors where there are none
outcomes w _ = []

-- an event may lead from a world to the next with this text
abbrev pub Moves : World → Event → List ℕ → World → Type 0
Moves w event text next = Contains (outcomes w event) (record { world = next; text = text })

-- ---- a flash that is worn out

-- at the node of this address the last record was written, and the event would write another
abbrev pub worn_at : ℕ → Member → NodeEvent → Option ℕ
worn_at address m event = if is_worn (config_of address m) m.state event m.moment then Some address else None

abbrev pub worn_by_packet : ℕ → Option Packet → Option Member → Option ℕ
worn_by_packet address (Some packet) (Some m) = worn_at address m (PacketComes packet)
worn_by_packet address _ _ = None

abbrev pub worn_by_time : (address ms : ℕ) → Option Member → Option ℕ
worn_by_time address ms (Some m) = worn_at address (at_moment ms m) TimeComes
worn_by_time address ms None = None

abbrev pub worn : World → Event → Option ℕ
worn w (Deliver number address) = worn_by_packet address (slice_get w.bag number) (member_at w address)
worn w (Time address ms) = worn_by_time address ms (member_at w address)
worn w _ = None
