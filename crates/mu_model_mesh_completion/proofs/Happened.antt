-- A node's state stays in its ranges over a whole run, whatever comes to it in the ranges of the grammar and whenever the power goes.
use Rattle.std.proofs.Common.{◌≡◌, ℕ, zero, suc, true, false, List, [], ◌∷◌, refl, sym, subst, cond, Option, Some, None, ◌⊎◌, inl, inr}
use Rattle.std.specs.Prelude.{slice_index_or}
use Rattle.std.specs.List.{AllByRecursion}
use Rattle.mu_model_wire.specs.Packet.{Packet}
use Rattle.mu_model_node.specs.declared.NodeConfig.{NodeConfig}
use Rattle.mu_model_node.specs.Events.{NodeEvent, PacketComes, TimeComes, node_step, node_work, at_moment, on_packet, passed_over}
use Rattle.mu_model_node.specs.Laws.{BootsAreSound, WorkLeavesOldOrNew}
use Rattle.mu_model_node.specs.NodeMessages.{Request, request_at}
use Rattle.mu_model_node.specs.NodeState.{Job, NodeDurable, NodeState, is_addressee, restarted}
use Rattle.mu_model_node.specs.Safe.{Happening, Done, CutPower, Torn, left_after, state_after}
use Rattle.mu_model_node.specs.Sound.{IsNodeDurable}
use Rattle.mu_model_client_laws.specs.Wire.{InRange}
use Rattle.mu_model_fates.specs.Laws.{come_in}
use Rattle.mu_model_told.specs.Laws.{HasNumbers}
use Rattle.mu_model_mesh_completion.specs.Settled.{JobHasMessages}
use Rattle.mu_model_mesh_completion.proofs.Nodes.{Laws, NodeFits, request_fits, node_time_fits, moved}
use Rattle.mu_model_mesh_completion.proofs.Shown.{JobFits}

pub record RunLaws : Type 0 where
  pub nodes : Laws
  pub boots : BootsAreSound
  pub work : WorkLeavesOldOrNew

-- ---- what comes

-- what a node reads in a packet is in the ranges of the grammar
abbrev pub PacketReads : Packet → Type 0
PacketReads p = (request : Request) → request_at p.payload ≡ Some request → InRange request

abbrev pub BagReads : List Packet → Type 0
BagReads bag = AllByRecursion PacketReads bag

abbrev pub EventReads : NodeEvent → Type 0
EventReads (PacketComes packet) = PacketReads packet
EventReads TimeComes = Unit {0}

-- ---- events

request_next : Laws → (config : NodeConfig) (s : NodeState) (now from : ℕ) (read : Option Request) → ((request : Request) → read ≡ Some request → InRange request) → NodeFits s → NodeFits (on_packet config (at_moment s now) from read).next
request_next laws config s now from None k h = moved s now h
request_next laws config s now from (Some request) k h = (request_fits laws (at_moment s now) from request (k request refl) (moved s now h)).next

pub event_next : Laws → (config : NodeConfig) (s : NodeState) (event : NodeEvent) (now : ℕ) → EventReads event → NodeFits s → NodeFits (node_step config s event now).next
event_next laws config s (PacketComes packet) now k h =
    elim (is_addressee config packet) as (λ b. NodeFits (cond b (on_packet config (at_moment s now) packet.from (request_at packet.payload)) (passed_over (at_moment s now))).next) [
      | true ↦ request_next laws config s now packet.from (request_at packet.payload) k h
      | false ↦ moved s now h
    ]
event_next laws config s TimeComes now k h = (node_time_fits laws (at_moment s now) (moved s now h)).next

-- ---- power cuts

-- what a boot finds
record DurableFits (d : NodeDurable) : Type 0 where
  pub sound : IsNodeDurable d
  pub job : JobFits d.job

of_state : (s : NodeState) → NodeFits s → DurableFits s.durable
of_state s h = record { sound = h.sound.durable; job = h.ranges.job }

boot_fits : BootsAreSound → (d : NodeDurable) → DurableFits d → NodeFits (restarted d)
boot_fits boots d h = record { sound = boots d h.sound; ranges = record { job = h.job; last = tt } }

one_of : (xs : List NodeDurable) (k : ℕ) (d : NodeDurable) → AllByRecursion DurableFits xs → DurableFits d → DurableFits (slice_index_or xs k d)
one_of [] k d h f = f
one_of (x ∷ xs) zero d h f = h.0
one_of (x ∷ xs) (suc k) d h f = one_of xs k d h.1 f

old_or_new : (old new : NodeDurable) (xs : List NodeDurable) → AllByRecursion (λ (d : NodeDurable). (d ≡ old) ⊎ (d ≡ new)) xs → DurableFits old → DurableFits new → AllByRecursion DurableFits xs
old_or_new old new [] h a b = tt
old_or_new old new (x ∷ xs) h a b =
    (elim h.0 as (λ _. DurableFits x) [ inl is ↦ subst DurableFits (sym is) a | inr is ↦ subst DurableFits (sym is) b ], old_or_new old new xs h.1 a b)

torn_next : RunLaws → (config : NodeConfig) (s : NodeState) (event : NodeEvent) (now operations : ℕ) → EventReads event → NodeFits s → NodeFits (restarted (left_after config s event now operations))
torn_next laws config s event now operations k h =
    let old = of_state s h in
    let new = of_state (node_step config s event now).next (event_next laws.nodes config s event now k h) in
    boot_fits laws.boots (left_after config s event now operations)
    (one_of (s.durable ∷ node_work config s event now) operations s.durable (old, old_or_new s.durable (node_step config s event now).next.durable (node_work config s event now) (laws.work config s event now) old new) old)

-- ---- runs

state_fits : RunLaws → (config : NodeConfig) (s : NodeState) (hs : List Happening) → BagReads (come_in hs) → NodeFits s → NodeFits (state_after config s hs)
state_fits laws config s [] come h = h
state_fits laws config s (Done (PacketComes packet) now ∷ hs) come h =
    state_fits laws config (node_step config s (PacketComes packet) now).next hs come.1 (event_next laws.nodes config s (PacketComes packet) now come.0 h)
state_fits laws config s (Done TimeComes now ∷ hs) come h =
    state_fits laws config (node_step config s TimeComes now).next hs come (event_next laws.nodes config s TimeComes now tt h)
state_fits laws config s (CutPower ∷ hs) come h = state_fits laws config (restarted s.durable) hs come (boot_fits laws.boots s.durable (of_state s h))
state_fits laws config s (Torn (PacketComes packet) now operations ∷ hs) come h =
    state_fits laws config (restarted (left_after config s (PacketComes packet) now operations)) hs come.1 (torn_next laws config s (PacketComes packet) now operations come.0 h)
state_fits laws config s (Torn TimeComes now operations ∷ hs) come h =
    state_fits laws config (restarted (left_after config s TimeComes now operations)) hs come (torn_next laws config s TimeComes now operations tt h)

no_job : (job : Option Job) → job ≡ None → JobFits job
no_job job e = rw e tt

-- from a state in which a node is made
pub run_fits : RunLaws → (config : NodeConfig) (made : NodeDurable) (hs : List Happening) → IsNodeDurable made → made.job ≡ None → BagReads (come_in hs) → NodeFits (state_after config (restarted made) hs)
run_fits laws config made hs sound jobless come = state_fits laws config (restarted made) hs come (boot_fits laws.boots made (record { sound = sound; job = no_job made.job jobless }))

-- ---- the numbers of a job

pub has_numbers : (job : Option Job) → JobFits job → HasNumbers job
has_numbers None h = tt
has_numbers (Some j) h = h.0

pub has_messages : (job : Option Job) → JobFits job → JobHasMessages job
has_messages None h = tt
has_messages (Some j) h = h.1
