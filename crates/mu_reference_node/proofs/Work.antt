-- The durable state that stands after so many flash operations: the old one before the last of them, and the new one after it.
use Rattle.std.proofs.Common.{◌≡◌, ◌<◌, ◌≤◌, ◌+◌, ◌*◌, ℕ, zero, suc, Bool, true, false, List, [], ◌∷◌, ◌++◌, length, replicate, refl, sym, ap, subst, ◌∙◌, cond, arith, length-append}
use Rattle.std.specs.Prelude.{◌==◌, slice_index_or, IfOk, Result, Ok, Err}
use Rattle.std.proofs.lemmas.List.{length-replicate}
use Rattle.mu_model_node.specs.declared.FlashWork.{FlashWork}
use Rattle.mu_model_node.specs.declared.FlashWork.TheVariants.{Untouched, Recorded, Begun, PutBlock}
use Rattle.mu_model_node.specs.declared.NodeConfig.{NodeConfig}
use Rattle.mu_model_node.specs.FlashWork.{record_work, work_by}
use Rattle.mu_model_node.specs.NodeState.{NodeDurable, NodeState, restarted}
use Rattle.mu_model_node.specs.Events.{NodeEvent, node_step, node_work}
use Rattle.mu_model_node.specs.Safe.{left_after}

pub block_count : {D : Type 0} (pages : ℕ) (old new : D) → length (replicate (2 * pages) old ++ new ∷ []) ≡ 2 * pages + 1
block_count pages old new = omega (arith, length-append (replicate (2 * pages) old) (new ∷ []), length-replicate (2 * pages) old)

abbrev IsRuled : {D : Type 0} → D → D → List D → Type 0
IsRuled old new work = (n : ℕ) × (work ≡ replicate n old ++ new ∷ [])

by_fresh : {D : Type 0} (b : Bool) (old new : D) → IsRuled old new (cond b (old ∷ new ∷ []) (new ∷ []))
by_fresh true old new = (1, refl)
by_fresh false old new = (0, refl)

ruled_record : {D : Type 0} (is_long : Bool) (fresh : ℕ) (old new : D) → IsRuled old new (record_work is_long fresh old new)
ruled_record true fresh old new = (1, refl)
ruled_record false fresh old new = by_fresh (fresh == 0) old new

ruled : {D : Type 0} (fresh : ℕ) (old new : D) (work : FlashWork) → 0 < length (work_by fresh old new work) → IsRuled old new (work_by fresh old new work)
ruled fresh old new Untouched some = absurd (omega arith)
ruled fresh old new (Recorded is_long) some = ruled_record is_long fresh old new
ruled fresh old new (Begun is_long) some = let others = ruled_record is_long fresh old new in (suc others.0, ap (λ more. old ∷ more) others.1)
ruled fresh old new (PutBlock pages) some = (2 * pages, refl)

old_at : {D : Type 0} (n k : ℕ) (old new : D) → k ≤ n → slice_index_or (old ∷ replicate n old ++ new ∷ []) k old ≡ old
old_at n zero old new h = refl
old_at zero (suc k) old new h = absurd (omega arith)
old_at (suc n) (suc k) old new h = old_at n k old new (omega arith)

new_at : {D : Type 0} (n : ℕ) (old new : D) → slice_index_or (replicate n old ++ new ∷ []) n old ≡ new
new_at zero old new = refl
new_at (suc n) old new = new_at n old new

ruled_count : {D : Type 0} (n : ℕ) (old new : D) (work : List D) → work ≡ replicate n old ++ new ∷ [] → length work ≡ n + 1
ruled_count n old new work e = ap length e ∙ omega (arith, length-append (replicate n old) (new ∷ []), length-replicate n old)

pub old_before : {D : Type 0} (fresh : ℕ) (old new : D) (work : FlashWork) (k : ℕ) → k < length (work_by fresh old new work) → slice_index_or (old ∷ work_by fresh old new work) k old ≡ old
old_before fresh old new work k h =
    let shape = ruled fresh old new work (omega arith) in
    let count : length (work_by fresh old new work) ≡ shape.0 + 1 = ruled_count shape.0 old new (work_by fresh old new work) shape.1 in
    rw shape.1 (old_at shape.0 k old new (omega arith))

pub new_after : {D : Type 0} (fresh : ℕ) (old new : D) (work : FlashWork) (k : ℕ) → 0 < k → k ≡ length (work_by fresh old new work) → slice_index_or (old ∷ work_by fresh old new work) k old ≡ new
new_after fresh old new work zero some e = absurd (omega arith)
new_after {D = D} fresh old new work (suc k) some e =
    let shape = ruled fresh old new work (omega arith) in
    let count : length (work_by fresh old new work) ≡ shape.0 + 1 = ruled_count shape.0 old new (work_by fresh old new work) shape.1 in
    let place : k ≡ shape.0 = omega arith in
    subst (λ (w : List D). slice_index_or w k old ≡ new) (sym shape.1)
    (subst (λ (i : ℕ). slice_index_or (replicate shape.0 old ++ new ∷ []) i old ≡ new) (sym place) (new_at shape.0 old new))

-- ---- what an event leaves

pub left_none : (config : NodeConfig) (s : NodeState) (event : NodeEvent) (now done : ℕ) → done ≡ 0 → left_after config s event now done ≡ s.durable
left_none config s event now done e = rw e refl

pub left_before : (config : NodeConfig) (s : NodeState) (event : NodeEvent) (now done : ℕ) → done < length (node_work config s event now) → left_after config s event now done ≡ s.durable
left_before config s event now done h = old_before s.fresh s.durable (node_step config s event now).next.durable (node_step config s event now).work done h

pub left_all : (config : NodeConfig) (s : NodeState) (event : NodeEvent) (now done : ℕ) → 0 < done → done ≡ length (node_work config s event now) → left_after config s event now done ≡ (node_step config s event now).next.durable
left_all config s event now done some e = new_after s.fresh s.durable (node_step config s event now).next.durable (node_step config s event now).work done some e

pub booted_from : {A E : Type 0} (r : Result A E) (new : NodeState) (left durable : NodeDurable) → left ≡ durable → IfOk r (λ _. new ≡ restarted durable) → IfOk r (λ _. new ≡ restarted left)
booted_from (Ok a) new left durable e h = h ∙ ap restarted (sym e)
booted_from (Err stop) new left durable e h = tt

counted : (config : NodeConfig) (s t : NodeState) (event : NodeEvent) (now : ℕ) (work : FlashWork) (count : ℕ) → t ≡ s → work ≡ (node_step config s event now).work → ((old new : NodeDurable) → count ≡ length (work_by t.fresh old new work)) → count ≡ length (node_work config s event now)
counted config s t event now work count e k h =
    let here : count ≡ length (work_by t.fresh s.durable (node_step config s event now).next.durable work) = h s.durable (node_step config s event now).next.durable in
    let fresh : count ≡ length (work_by s.fresh s.durable (node_step config s event now).next.durable work) = subst (λ (x : NodeState). count ≡ length (work_by x.fresh s.durable (node_step config s event now).next.durable work)) e here in
    subst (λ (w : FlashWork). count ≡ length (work_by s.fresh s.durable (node_step config s event now).next.durable w)) k fresh

pub torn_before : (config : NodeConfig) (s t new : NodeState) (event : NodeEvent) (now done : ℕ) (work : FlashWork) (count : ℕ) → t ≡ s → work ≡ (node_step config s event now).work → ((old new : NodeDurable) → count ≡ length (work_by t.fresh old new work)) → done < count → new ≡ restarted t.durable → new ≡ restarted (left_after config s event now done)
torn_before config s t new event now done work count e k h below is =
    let all : count ≡ length (node_work config s event now) = counted config s t event now work count e k h in
    let left : left_after config s event now done ≡ s.durable = left_before config s event now done (omega arith) in
    is ∙ ap (λ (x : NodeState). restarted x.durable) e ∙ ap restarted (sym left)

pub torn_after : {A E : Type 0} (r : Result A E) (config : NodeConfig) (s t new : NodeState) (event : NodeEvent) (now done : ℕ) (work : FlashWork) (count : ℕ) → t ≡ s → work ≡ (node_step config s event now).work → ((old new : NodeDurable) → count ≡ length (work_by t.fresh old new work)) → count ≤ done → done ≤ length (node_work config s event now) → 0 < done → IfOk r (λ _. new ≡ restarted (node_step config t event now).next.durable) → IfOk r (λ _. new ≡ restarted (left_after config s event now done))
torn_after r config s t new event now done work count e k h above most some is =
    let all : count ≡ length (node_work config s event now) = counted config s t event now work count e k h in
    let left : left_after config s event now done ≡ (node_step config s event now).next.durable = left_all config s event now done some (omega arith) in
    let same : left_after config s event now done ≡ (node_step config t event now).next.durable = left ∙ ap (λ (x : NodeState). (node_step config x event now).next.durable) (sym e) in
    booted_from r new (left_after config s event now done) (node_step config t event now).next.durable same is
