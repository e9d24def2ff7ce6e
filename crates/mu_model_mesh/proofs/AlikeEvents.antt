-- In the mesh of a world's nodes alone the same stands against an event of nodes, and the same comes of it.
use Rattle.std.proofs.Common.{◌≡◌, ℕ, ◌+◌, ◌-◌, ◌≤◌, true, false, List, [], ◌∷◌, ◌++◌, length, Option, Some, None, cond, refl, sym, ap, ◌∙◌, arith, length-append, map, slice_get, replicate}
use Rattle.std.specs.Prelude.{nat_eq, nat_le, ◌||◌, is_some}
use Rattle.std.specs.List.{AllByRecursion, list_any}
use Rattle.std.specs.Map.{lookup, set_value}
use Rattle.std.proofs.lemmas.List.{map-append, length-map, replicate-append-replicate}
use Rattle.mu_model_flash.specs.declared.Pattern.{Pattern}
use Rattle.mu_model_flash.specs.declared.Pattern.TheVariants.{Old as OldBits, New as NewBits, Made as MadeBits}
use Rattle.mu_model_wire.specs.Packet.{Packet}
use Rattle.mu_model_node.specs.NodeState.{NodeDurable}
use Rattle.mu_model_node.specs.NodeMessages.{request_at}
use Rattle.mu_model_node.specs.Events.{NodeEvent, PacketComes, TimeComes, NodeStep, node_step, node_work, is_worn}
use Rattle.mu_model_script.specs.declared.BadWhy.TheVariants.{Member as BadMember, Packet as BadPacket, Premise}
use Rattle.mu_model_script.specs.Event.{Event, Node, Old, Pair, Say, Deliver, Time, Cut, Tear as TearLine, Active, Phase}
use Rattle.mu_model_world.specs.World.{Tear, Member, World, member_at, config_of}
use Rattle.mu_model_world.specs.Outcomes.{Outcome, outcomes, delivered, timed, happens, happens_by, torn, at_member, at_moment, ran, booted, begun, counted, with_member, new_member, node_of, pair_of, with_changed, showing, active_texts, phase_line}
use Rattle.mu_model_world.specs.Judged.{against, or_else, most_members, against_member as against_node, against_content, against_delivery, against_unknown, against_member_at, against_offer, offered, owner_of, objection}
use Rattle.mu_model_mesh.specs.Mesh.{takes_by}
use Rattle.mu_model_mesh.specs.MeshOutcomes.{MeshOutcome, of_nodes, all_of_nodes, mesh_outcomes, given_packet, given_by, timed_by, cut_by, armed_by, active_by, phase_by}
use Rattle.mu_model_mesh.specs.MeshJudged.{against_new, against_id, against_packet, against_member, unless, mesh_objection}
use Rattle.mu_model_mesh.specs.Alike.{alone}
use Rattle.mu_model_mesh.proofs.AlikeRead.{IsNodeEvent}

-- ---- addresses

abbrev addresses : List (ℕ × Member) → List ℕ
addresses entries = map (λ (entry : ℕ × Member). entry.0) entries

set_addresses : (address : ℕ) (entries : List (ℕ × Member)) (m : Member) → addresses (set_value (nat_eq address) entries m) ≡ addresses entries
set_addresses address [] m = refl
set_addresses address ((key, value) ∷ entries) m =
    elim (nat_eq address key) as (λ t. addresses (cond t ((key, m) ∷ entries) ((key, value) ∷ set_value (nat_eq address) entries m)) ≡ key ∷ addresses entries) [
      | true ↦ refl
      | false ↦ ap (λ ks. key ∷ ks) (set_addresses address entries m)
    ]

is_member_alike : (address : ℕ) (entries : List (ℕ × Member)) → list_any (nat_eq address) (addresses entries) ≡ is_some (lookup (nat_eq address) entries)
is_member_alike address [] = refl
is_member_alike address ((key, value) ∷ entries) =
    elim (nat_eq address key) as (λ t. (t || list_any (nat_eq address) (addresses entries)) ≡ is_some (cond t (Some value) (lookup (nat_eq address) entries))) [
      | true ↦ refl
      | false ↦ is_member_alike address entries
    ]

-- ---- outcomes

-- the mesh of an outcome's nodes alone
abbrev pub lifted : Outcome → MeshOutcome
lifted o = record { mesh = alone o.world; text = o.text }

-- the world has these members and so many events now, and the bag has no fewer packets than this one
record Goes (bag : List Packet) (order : List ℕ) (events : ℕ) (o : Outcome) : Type 0 where
  members : addresses o.world.members ≡ order
  more : length bag ≤ length o.world.bag
  counted : o.world.events ≡ events

abbrev pub IsCounted : ℕ → Outcome → Type 0
IsCounted events o = o.world.events ≡ events

made : World → List ℕ → List (Option ℕ) → List ℕ → MeshOutcome
made w order transfers text =
    record { mesh = record { nodes = w; updaters = []; distributors = []; order = order; transfers = transfers; turns = 0 }; text = text }

lift_one : (w : World) (order : List ℕ) (events : ℕ) (o : Outcome) → Goes w.bag order events o → of_nodes (record (alone w) { order = order }) o ≡ lifted o
unfolding made
lift_one w order events o goes =
    let before = length w.bag in
    let after = length o.world.bag in
    let none : Option ℕ = None in
    let sum : before + (after - before) ≡ after = omega (arith, goes.more) in
    let transfers : replicate before none ++ replicate (after - before) none ≡ replicate after none = replicate-append-replicate before (after - before) none ∙ ap (λ n. replicate n none) sum in
    ap (λ ts. made o.world order ts o.text) transfers ∙ ap (λ os. made o.world os (replicate after none) o.text) (sym goes.members)

both_ap : {X : Type 0} (x y : X) (xs ys : List X) → x ≡ y → xs ≡ ys → (x ∷ xs) ≡ (y ∷ ys)
both_ap x y xs ys p q = cc

lift_all : (w : World) (order : List ℕ) (events : ℕ) (os : List Outcome) → AllByRecursion (Goes w.bag order events) os → all_of_nodes (record (alone w) { order = order }) os ≡ map lifted os
lift_all w order events [] goes = refl
lift_all w order events (o ∷ os) goes = both_ap (of_nodes (record (alone w) { order = order }) o) (lifted o) _ _ (lift_one w order events o goes.0) (lift_all w order events os goes.1)

all_counted : (bag : List Packet) (order : List ℕ) (events : ℕ) (os : List Outcome) → AllByRecursion (Goes bag order events) os → AllByRecursion (IsCounted events) os
all_counted bag order events [] goes = tt
all_counted bag order events (o ∷ os) goes = (goes.0.counted, all_counted bag order events os goes.1)

-- each outcome has the world's members, one event more than before and no fewer packets
abbrev AllGo : World → List Outcome → Type 0
AllGo w os = AllByRecursion (Goes w.bag (addresses w.members) w.events) os

booted_goes : (w : World) (address : ℕ) (m : Member) (left : NodeDurable) → Goes w.bag (addresses w.members) w.events (booted w address m left)
booted_goes w address m left = record { members = set_addresses address w.members _; more = omega arith; counted = refl }

ran_goes : (w : World) (address : ℕ) (m : Member) (first : List ℕ) (step : NodeStep) → Goes w.bag (addresses w.members) w.events (ran w address m first step)
ran_goes w address m first step = record { members = set_addresses address w.members _; more = omega (arith, length-append w.bag step.sent); counted = refl }

torn_go : (w : World) (address : ℕ) (m : Member) (event : NodeEvent) (operation : ℕ) (pattern : Pattern) → AllGo w (torn w address m event (record { operation = operation; pattern = pattern }))
torn_go w address m event operation OldBits = (booted_goes w address m _, tt)
torn_go w address m event operation NewBits = (booted_goes w address m _, tt)
torn_go w address m event operation (MadeBits seed) = (booted_goes w address m _, (booted_goes w address m _, tt))

happens_by_go : (w : World) (address : ℕ) (m : Member) (event : NodeEvent) (first : List ℕ) (tear : Option Tear) → AllGo w (happens_by w address m event first tear)
happens_by_go w address m event first None = (ran_goes w address m first (node_step (config_of address m) m.state event m.moment), tt)
happens_by_go w address m event first (Some tear) =
    elim (nat_le tear.operation (length (node_work (config_of address m) m.state event m.moment)))
    as (λ b. AllGo w (cond b (torn w address m event tear) (ran w address m first (node_step (config_of address m) m.state event m.moment) ∷ []))) [
      | true ↦ torn_go w address m event tear.operation tear.pattern
      | false ↦ (ran_goes w address m first (node_step (config_of address m) m.state event m.moment), tt)
    ]

happens_go : (w : World) (address : ℕ) (m : Member) (event : NodeEvent) (first : List ℕ) → AllGo w (happens w address m event first)
happens_go w address m event first =
    elim (is_worn (config_of address m) m.state event m.moment) as (λ b. AllGo w (cond b [] (happens_by w address m event first m.tear))) [
      | true ↦ tt
      | false ↦ happens_by_go w address m event first m.tear
    ]

-- what comes of an event in a mesh is what comes of it in the world of its nodes, by one event more
pub record Alike (events : ℕ) (in_mesh : List MeshOutcome) (in_world : List Outcome) : Type 0 where
  pub same : in_mesh ≡ map lifted in_world
  pub counted : AllByRecursion (IsCounted events) in_world

of_goes : (w : World) (order : List ℕ) (events : ℕ) (os : List Outcome) → AllByRecursion (Goes w.bag order events) os → Alike events (all_of_nodes (record (alone w) { order = order }) os) os
of_goes w order events os goes = record { same = lift_all w order events os goes; counted = all_counted w.bag order events os goes }

none_alike : (events : ℕ) → Alike events [] []
none_alike events = record { same = refl; counted = tt }

new_alike : (w : World) (address : ℕ) (m : Member) → Alike (w.events + 1) (all_of_nodes (record (alone w) { order = addresses w.members ++ address ∷ [] }) (showing (with_member (counted w) address m) [] ∷ [])) (showing (with_member (counted w) address m) [] ∷ [])
new_alike w address m =
    of_goes w (addresses w.members ++ address ∷ []) (w.events + 1) _
    (record { members = map-append (λ (entry : ℕ × Member). entry.0) w.members ((address, m) ∷ []); more = omega arith; counted = refl }, tt)

given_alike : (w : World) (number address : ℕ) (packet : Packet) (m : Option Member) → Alike w.events (given_by (alone w) number address packet m None None) (delivered w number address (Some packet) m)
given_alike w number address packet (Some m) = of_goes w (addresses w.members) w.events _ (happens_go w address m (PacketComes packet) _)
given_alike w number address packet None = none_alike w.events

delivered_alike : (w : World) (number address : ℕ) (packet : Option Packet) → Alike w.events (given_packet (alone w) number address packet) (delivered w number address packet (member_at w address))
delivered_alike w number address (Some packet) = given_alike w number address packet (member_at w address)
delivered_alike w number address None = none_alike w.events

timed_alike : (w : World) (address ms : ℕ) (m : Option Member) → Alike w.events (timed_by (alone w) address ms m None None) (timed w address ms m)
timed_alike w address ms (Some m) = of_goes w (addresses w.members) w.events _ (happens_go w address (at_moment ms m) TimeComes [])
timed_alike w address ms None = none_alike w.events

cut_alike : (w : World) (address : ℕ) (m : Option Member) → Alike w.events (cut_by (alone w) address m None) (at_member m (λ n. booted w address n n.state.durable))
cut_alike w address (Some m) = of_goes w (addresses w.members) w.events _ (booted_goes w address m _, tt)
cut_alike w address None = none_alike w.events

shown_alike : (w : World) (text : List ℕ) → Alike w.events (record { mesh = alone w; text = text } ∷ []) (showing w text ∷ [])
shown_alike w text = record { same = refl; counted = (refl, tt) }

armed_alike : (w : World) (address : ℕ) (tear : Tear) (m : Option Member)
    → Alike w.events (armed_by (alone w) address tear m None) (at_member m (λ n. showing (with_changed w address (record n { tear = Some tear })) []))
unfolding made
armed_alike w address tear (Some m) =
    let changed = with_changed w address (record m { tear = Some tear }) in
    record {
      same = ap (λ order. made changed order (replicate (length w.bag) None) [] ∷ []) (sym (set_addresses address w.members (record m { tear = Some tear })));
      counted = (refl, tt);
    }
armed_alike w address tear None = none_alike w.events

active_alike : (w : World) (address : ℕ) (m : Option Member) → Alike w.events (active_by (alone w) address m) (at_member m (λ n. showing w (active_texts address n.state.durable.images)))
active_alike w address (Some m) = shown_alike w (active_texts address m.state.durable.images)
active_alike w address None = none_alike w.events

phase_alike : (w : World) (address : ℕ) (m : Option Member) → Alike w.events (phase_by (alone w) address m None None) (at_member m (λ n. showing w (phase_line address n.state)))
phase_alike w address (Some m) = shown_alike w (phase_line address m.state)
phase_alike w address None = none_alike w.events

pub outcomes_alike : (w : World) (event : Event) → IsNodeEvent event → Alike (w.events + 1) (mesh_outcomes (alone w) event) (outcomes w event)
outcomes_alike w (Node address group pages version content) s = new_alike w address (new_member group (node_of pages version content))
outcomes_alike w (Old address group pages version content) s = new_alike w address (new_member group (node_of pages version content))
outcomes_alike w (Pair address group pages version content second_version second) s = new_alike w address (new_member group (pair_of pages version content second_version second))
outcomes_alike w (Say from to payload) s =
    of_goes w (addresses w.members) (w.events + 1) _
    (record { members = refl; more = omega (arith, length-append w.bag (record { from = from; to = to; payload = payload } ∷ [])); counted = refl }, tt)
outcomes_alike w (Deliver number address) s = delivered_alike (begun w) number address (slice_get w.bag number)
outcomes_alike w (Time address ms) s = timed_alike (begun w) address ms (member_at w address)
outcomes_alike w (Cut address) s = cut_alike (begun w) address (member_at w address)
outcomes_alike w (TearLine address operation pattern) s = armed_alike (begun w) address (record { operation = operation; pattern = pattern }) (member_at w address)
outcomes_alike w (Active address) s = active_alike (begun w) address (member_at w address)
outcomes_alike w (Phase address) s = phase_alike (begun w) address (member_at w address)
outcomes_alike w _ s = absurd s

-- ---- objections

new_against : (w : World) (address : ℕ) → against_new (alone w) address ≡ against_node w address
new_against w address =
    ap (λ n. cond (w.begun || nat_le most_members n) (against 0 BadMember) (cond (list_any (nat_eq address) (addresses w.members)) (against 1 BadMember) None)) (length-map w.members (λ (entry : ℕ × Member). entry.0))
    ∙ ap (λ there. cond (w.begun || nat_le most_members (length w.members)) (against 0 BadMember) (cond there (against 1 BadMember) None)) (is_member_alike address w.members)

member_against : (w : World) (token address : ℕ) → against_member (alone w) token address ≡ against_member_at w token address
member_against w token address = ap (λ there. cond there (against token Premise) None) (is_member_alike address w.members)

unknown_against : (w : World) (token address : ℕ) → unless (list_any (nat_eq address) (addresses w.members)) token ≡ against_unknown w token address
unknown_against w token address = ap (λ there. cond there None (against token BadMember)) (is_member_alike address w.members)

kind_against : (w : World) (token address : ℕ) (m : Option Member) → unless (is_some m || false) token ≡ cond (is_some m) None (against token BadMember)
kind_against w token address (Some m) = refl
kind_against w token address None = refl

id_against : (w : World) (id : Option ℕ) → against_id (alone w) id ≡ against_offer w id
id_against w (Some id) = member_against w 3 (owner_of id)
id_against w None = refl

-- `takes_by` shows the member that is there
packet_against : (w : World) (address : ℕ) (packet : Option Packet) (m : Option Member) → member_at w address ≡ m
    → or_else (unless (is_some m) 2) (against_packet (alone w) address packet) ≡ against_delivery address packet m
packet_against w address (Some packet) (Some m) is =
    ap (λ found. cond (takes_by (alone w) packet address found) None (against 2 BadPacket)) is
packet_against w address None (Some m) is = refl
packet_against w address packet None is = refl

pub objections_alike : (w : World) (event : Event) → IsNodeEvent event → mesh_objection (alone w) event ≡ objection w event
objections_alike w (Node address group pages version content) s = ap (λ first. or_else first (against_content 5 pages content)) (new_against w address)
objections_alike w (Old address group pages version content) s = ap (λ first. or_else first (against_content 5 pages content)) (new_against w address)
objections_alike w (Pair address group pages version content second_version second) s =
    ap (λ first. or_else first (or_else (against_content 5 pages content) (against_content 7 pages second))) (new_against w address)
objections_alike w (Say from to payload) s =
    ap (λ first. or_else first (against_id (alone w) (offered (request_at payload)))) (member_against w 1 from)
    ∙ ap (λ next. or_else (against_member_at w 1 from) next) (id_against w (offered (request_at payload)))
objections_alike w (Deliver number address) s =
    ap (λ there. or_else (unless there 2) (against_packet (alone w) address (slice_get w.bag number))) (is_member_alike address w.members)
    ∙ packet_against w address (slice_get w.bag number) (member_at w address) refl
objections_alike w (Time address ms) s = unknown_against w 1 address
objections_alike w (Cut address) s = kind_against w 1 address (member_at w address)
objections_alike w (TearLine address operation pattern) s = kind_against w 1 address (member_at w address)
objections_alike w (Active address) s = refl
objections_alike w (Phase address) s = unknown_against w 1 address
objections_alike w _ s = absurd s
