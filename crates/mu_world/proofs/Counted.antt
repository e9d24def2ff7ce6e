-- Each event counts for one.
use Rattle.std.proofs.Common.{◌≡◌, ℕ, ◌+◌, ◌<◌, List, [], ◌∷◌, length, map, Option, Some, None, true, false, cond, nat_le, refl, subst, Contains, zero, suc, slice_get, arith}
use Rattle.std.specs.Prelude.{⊤}
use Rattle.std.specs.List.{AllByRecursion}
use Rattle.mu_model_flash.specs.declared.Pattern.{Pattern}
use Rattle.mu_model_flash.specs.declared.Pattern.TheVariants.{Old as OldBits, New as NewBits, Made as MadeBits}
use Rattle.mu_model_wire.specs.Packet.{Packet}
use Rattle.mu_model_node.specs.Events.{NodeEvent, PacketComes, TimeComes, node_step, node_work, is_worn}
use Rattle.mu_model_script.specs.Event.{Event, Node, Old, Pair, Say, Deliver, Time, Cut, Tear as TearLine, Active, Phase}
use Rattle.mu_model_world.specs.World.{Tear, Member, World, member_at, config_of}
use Rattle.mu_model_world.specs.Outcomes.{Outcome, outcomes, Moves, begun, delivered, timed, happens, happens_by, torn, at_member, at_moment, unread, ran}

abbrev Are : ℕ → List Outcome → Type 0
Are count outs = AllByRecursion (λ (o : Outcome). o.world.events ≡ count) outs

of_torn : (w : World) (address : ℕ) (m : Member) (event : NodeEvent) (operation : ℕ) (pattern : Pattern) → Are w.events (torn w address m event (record { operation = operation; pattern = pattern }))
of_torn w address m event operation OldBits = (refl, tt)
of_torn w address m event operation NewBits = (refl, tt)
of_torn w address m event operation (MadeBits seed) = (refl, (refl, tt))

of_happens_by : (w : World) (address : ℕ) (m : Member) (event : NodeEvent) (first : List ℕ) (tear : Option Tear) → Are w.events (happens_by w address m event first tear)
of_happens_by w address m event first None = (refl, tt)
of_happens_by w address m event first (Some tear) =
    elim (nat_le tear.operation (length (node_work (config_of address m) m.state event m.moment)))
    as (λ b. Are w.events (cond b (torn w address m event tear) (ran w address m first (node_step (config_of address m) m.state event m.moment) ∷ []))) [
      | true ↦ of_torn w address m event tear.operation tear.pattern
      | false ↦ (refl, tt)
    ]

of_happens : (w : World) (address : ℕ) (m : Member) (event : NodeEvent) (first : List ℕ) → Are w.events (happens w address m event first)
of_happens w address m event first =
    elim (is_worn (config_of address m) m.state event m.moment) as (λ b. Are w.events (cond b [] (happens_by w address m event first m.tear))) [
      | true ↦ tt
      | false ↦ of_happens_by w address m event first m.tear
    ]

of_delivered : (w : World) (number address : ℕ) (packet : Option Packet) (m : Option Member) → Are w.events (delivered w number address packet m)
of_delivered w number address (Some packet) (Some m) = of_happens w address m (PacketComes packet) (unread number address m packet)
of_delivered w number address (Some packet) None = tt
of_delivered w number address None m = tt

of_timed : (w : World) (address ms : ℕ) (m : Option Member) → Are w.events (timed w address ms m)
of_timed w address ms (Some m) = of_happens w address (at_moment ms m) TimeComes []
of_timed w address ms None = tt

of_member : (count : ℕ) (m : Option Member) (f : Member → Outcome) → ((one : Member) → (f one).world.events ≡ count) → Are count (at_member m f)
of_member count (Some m) f h = (h m, tt)
of_member count None f h = tt

of_outcomes : (w : World) (event : Event) → Are (w.events + 1) (outcomes w event)
of_outcomes w (Node address group pages version content) = (refl, tt)
of_outcomes w (Old address group pages version content) = (refl, tt)
of_outcomes w (Pair address group pages version content second_version second) = (refl, tt)
of_outcomes w (Say from to payload) = (refl, tt)
of_outcomes w (Deliver number address) = of_delivered (begun w) number address (slice_get w.bag number) (member_at w address)
of_outcomes w (Time address ms) = of_timed (begun w) address ms (member_at w address)
of_outcomes w (Cut address) = of_member (w.events + 1) (member_at w address) _ (λ m. refl)
of_outcomes w (TearLine address operation pattern) = of_member (w.events + 1) (member_at w address) _ (λ m. refl)
of_outcomes w (Active address) = of_member (w.events + 1) (member_at w address) _ (λ m. refl)
of_outcomes w (Phase address) = of_member (w.events + 1) (member_at w address) _ (λ m. refl)
of_outcomes w _ = tt

of_all : {X : Type 0} (P : X → Type 0) (xs : List X) (x : X) → AllByRecursion P xs → Contains xs x → P x
of_all P [] x all p =
    let none : p.0 < 0 = p.1 in
    absurd (omega (arith, none))
of_all P (v ∷ xs) x all (zero, within, is) = subst P is all.0
of_all P (v ∷ xs) x all (suc k, within, is) = of_all P xs x all.1 (k, omega (arith, within), is)

pub counted_once : (w : World) (event : Event) (text : List ℕ) (next : World) → Moves w event text next → next.events ≡ w.events + 1
counted_once w event text next moved = of_all (λ (o : Outcome). o.world.events ≡ w.events + 1) (outcomes w event) _ (of_outcomes w event) moved
