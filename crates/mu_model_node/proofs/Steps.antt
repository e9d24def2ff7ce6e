-- The laws of a node's step.
use Rattle.std.proofs.Common.{◌≡◌, ◌≤◌, ℕ, zero, suc, ◌+◌, ◌*◌, Bool, true, false, List, [], ◌∷◌, ◌++◌, length, refl, sym, ap, cond, arith, Option, Some, None, replicate, ◌⊎◌, inl, inr, get_or}
use Rattle.std.specs.Prelude.{◌==◌, MatchOption}
use Rattle.std.specs.List.{AllByRecursion}
use Rattle.std.proofs.lemmas.List.{length-replicate, length-append}
use Rattle.mu_model_wire.specs.Reports.{has, complement}
use Rattle.mu_model_node.specs.Slots.{Slots, received, missing, is_full}
use Rattle.mu_model_node.specs.NodeMessages.{Request, request_at}
use Rattle.mu_model_node.specs.FlashWork.{FlashWork, Untouched, Recorded, Begun, PutBlock, passed_by, record_work, work_by}
use Rattle.mu_model_node.specs.NodeState.{NodeDurable, NodeState, is_addressee}
use Rattle.mu_model_node.specs.Events.{NodeEvent, PacketComes, TimeComes, NodeStep, at_moment, on_packet, on_event, node_step}
use Rattle.mu_model_node.specs.Sound.{IsNodeDurable, IsNodeState, RequestFits}
use Rattle.mu_model_node.specs.Laws.{EventFits, EventsKeepStatesSound, BootsAreSound, PassesFrom, StatesPassRising, WorkLeavesOldOrNew, WorkLeadsToTheNew, pages_put, WorkIsBounded, FullLacksNone}
use Rattle.mu_model_node.specs.declared.NodeConfig.{NodeConfig}
use Rattle.mu_model_node.proofs.NodeSound.{WorkIs, asks_soundly, passes_soundly}

-- ---- sound states

pub record SoundStep (s : NodeState) (step : NodeStep) : Type 0 where
  pub state : IsNodeState step.next
  pub work : WorkIs s.durable step.next.durable step.work

passed_soundly : (config : NodeConfig) (s : NodeState) (from : ℕ) (request : Option Request) → MatchOption request (Unit {0}) RequestFits → IsNodeState s → SoundStep s (on_packet config s from request)
passed_soundly config s from (Some request) fits h =
    let k = asks_soundly s from request fits h in
    record { state = k.state; work = k.work }
passed_soundly config s from None fits h = record { state = h; work = refl }

event_soundly : (config : NodeConfig) (s : NodeState) (event : NodeEvent) → EventFits event → IsNodeState s → SoundStep s (on_event config s event)
event_soundly config s (PacketComes packet) fits h =
    elim (is_addressee config packet) as (λ b. SoundStep s (cond b (on_packet config s packet.from (request_at packet.payload)) (record { next = s; sent = []; handled = false; work = Untouched }))) [
      | true ↦ passed_soundly config s packet.from (request_at packet.payload) fits h
      | false ↦ record { state = h; work = refl }
    ]
event_soundly config s TimeComes fits h =
    let k = passes_soundly s h in
    record { state = k.state; work = k.work }

step_soundly : (config : NodeConfig) (s : NodeState) (event : NodeEvent) (now : ℕ) → EventFits event → IsNodeState s → SoundStep (at_moment s now) (node_step config s event now)
step_soundly config s event now fits h = event_soundly config (at_moment s now) event fits (record { durable = h.durable; fresh = h.fresh; current = h.current })

pub events_keep : EventsKeepStatesSound
events_keep config s event now fits h = (step_soundly config s event now fits h).state

pub boots_are_sound : BootsAreSound
boots_are_sound d h = record { durable = h; fresh = omega arith; current = tt }

-- ---- states passed

passes_from : (old new : NodeDurable) (work : FlashWork) → IsNodeDurable old → IsNodeDurable new → WorkIs old new work → PassesFrom old new (passed_by old new work)
passes_from old new Untouched h k w = (refl, sym w, h)
passes_from old new (Recorded is_long) h k w = (refl, inl w.1, h, (refl, refl, k))
passes_from old new (Begun is_long) h k w = (refl, inl w.1, h, (refl, refl, k))
passes_from old new (PutBlock pages) h k w = (refl, inr (w.1, w.2), h, (refl, refl, k))

pub states_pass : StatesPassRising
states_pass config s event now fits h =
    let k = step_soundly config s event now fits h in
    passes_from s.durable _ _ h.durable k.state.durable k.work

-- ---- work

two : {D : Type 0} (x y : D) → length (x ∷ y ∷ []) ≡ 2
two x y = refl

record_length : {D : Type 0} (is_long : Bool) (fresh : ℕ) (old new : D) → length (record_work is_long fresh old new) ≤ 2
record_length true fresh old new = omega arith
record_length false fresh old new = elim (fresh == 0) as (λ b. length (cond b (old ∷ new ∷ []) (new ∷ [])) ≤ 2) [ true ↦ omega arith | false ↦ omega arith ]

work_length : (fresh : ℕ) (old new : NodeDurable) (work : FlashWork) → WorkIs old new work → (length (work_by fresh old new work) ≤ pages_put work + 5) × (pages_put work ≤ 4)
work_length fresh old new Untouched w = (omega arith, omega arith)
work_length fresh old new (Recorded is_long) w = let l = record_length is_long fresh old new in (omega arith, omega arith)
work_length fresh old new (Begun is_long) w = let l = record_length is_long fresh old new in (omega arith, omega arith)
work_length fresh old new (PutBlock pages) w =
    let few : pages ≤ 4 = w.0 in
    let l : length (replicate (2 * pages) old ++ new ∷ []) ≡ 2 * pages + 1 = simp (length-append, length-replicate) in
    (omega arith, few)

pub work_is_bounded : WorkIsBounded
work_is_bounded config s event now fits h = work_length s.fresh s.durable _ _ (step_soundly config s event now fits h).work

-- every state is the old one or the new one
abbrev OldOrNew : NodeDurable → NodeDurable → List NodeDurable → Type 0
OldOrNew old new ds = AllByRecursion (λ (d : NodeDurable). (d ≡ old) ⊎ (d ≡ new)) ds

copies_are : (old new : NodeDurable) (n : ℕ) → OldOrNew old new (replicate n old ++ new ∷ [])
copies_are old new zero = (inr refl, tt)
copies_are old new (suc n) = (inl refl, copies_are old new n)

record_is : (is_long : Bool) (fresh : ℕ) (old new : NodeDurable) → OldOrNew old new (record_work is_long fresh old new)
record_is true fresh old new = (inl refl, (inr refl, tt))
record_is false fresh old new = elim (fresh == 0) as (λ b. OldOrNew old new (cond b (old ∷ new ∷ []) (new ∷ []))) [ true ↦ (inl refl, (inr refl, tt)) | false ↦ (inr refl, tt) ]

work_is : (fresh : ℕ) (old new : NodeDurable) (work : FlashWork) → OldOrNew old new (work_by fresh old new work)
work_is fresh old new Untouched = tt
work_is fresh old new (Recorded is_long) = record_is is_long fresh old new
work_is fresh old new (Begun is_long) = (inl refl, record_is is_long fresh old new)
work_is fresh old new (PutBlock pages) = copies_are old new (2 * pages)

pub work_leaves : WorkLeavesOldOrNew
work_leaves config s event now = work_is s.fresh s.durable _ (node_step config s event now).work

copies_lead : (old new : NodeDurable) (n : ℕ) → get_or (replicate n old ++ new ∷ []) n old ≡ new
copies_lead old new zero = refl
copies_lead old new (suc n) = copies_lead old new n

record_leads : (is_long : Bool) (fresh : ℕ) (old new first : NodeDurable) → get_or (first ∷ record_work is_long fresh old new) (length (record_work is_long fresh old new)) old ≡ new
record_leads true fresh old new first = refl
record_leads false fresh old new first = elim (fresh == 0) as (λ b. get_or (first ∷ cond b (old ∷ new ∷ []) (new ∷ [])) (length (cond b (old ∷ new ∷ []) (new ∷ []))) old ≡ new) [ true ↦ refl | false ↦ refl ]

work_leads : (fresh : ℕ) (old new : NodeDurable) (work : FlashWork) → WorkIs old new work → get_or (old ∷ work_by fresh old new work) (length (work_by fresh old new work)) old ≡ new
work_leads fresh old new Untouched w = sym w
work_leads fresh old new (Recorded is_long) w = record_leads is_long fresh old new old
work_leads fresh old new (Begun is_long) w = record_leads is_long fresh old new old
work_leads fresh old new (PutBlock pages) w =
    let l : length (replicate (2 * pages) old ++ new ∷ []) ≡ suc (2 * pages) = simp (length-append, length-replicate) (omega arith) in
    rw l (copies_lead old new (2 * pages))

pub work_leads_there : WorkLeadsToTheNew
work_leads_there config s event now fits h = work_leads s.fresh s.durable _ _ (step_soundly config s event now fits h).work

-- ---- missing and received

pub missing_rest : (slots : Slots) → (missing slots ≡ complement (received slots)) × (length (missing slots) ≡ length slots)
missing_rest [] = (refl, refl)
missing_rest (None ∷ slots) = (ap (λ bs. true ∷ bs) (missing_rest slots).0, ap suc (missing_rest slots).1)
missing_rest (Some octets ∷ slots) = (ap (λ bs. false ∷ bs) (missing_rest slots).0, ap suc (missing_rest slots).1)

lacks_none : (slots : Slots) → is_full slots ≡ true → (i : ℕ) → has (missing slots) i ≡ false
lacks_none [] e i = refl
lacks_none (None ∷ slots) e i = cc
lacks_none (Some octets ∷ slots) e zero = refl
lacks_none (Some octets ∷ slots) e (suc i) = lacks_none slots e i

full_if : (slots : Slots) → ((i : ℕ) → has (missing slots) i ≡ false) → is_full slots ≡ true
full_if [] h = refl
full_if (None ∷ slots) h = let never : true ≡ false = h 0 in cc
full_if (Some octets ∷ slots) h = full_if slots (λ i. h (suc i))

pub full_lacks : FullLacksNone
full_lacks slots = (lacks_none slots, full_if slots)
