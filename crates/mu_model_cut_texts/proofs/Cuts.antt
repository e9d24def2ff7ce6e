-- What is left where the power goes in an event is the state before it or the state after it, and these print different texts.
use Rattle.std.proofs.Common.{◌≡◌, ◌+◌, ℕ, zero, suc, List, [], ◌∷◌, ◌++◌, refl, sym, ap, subst, ◌∙◌, ◌⊎◌, inl, inr, Option, Some, None}
use Rattle.std.specs.Prelude.{slice_index_or}
use Rattle.std.specs.List.{AllByRecursion}
use Rattle.std.specs.Fmt.{decimal}
use Rattle.mu_model_node.specs.declared.NodeConfig.{NodeConfig}
use Rattle.mu_model_node.specs.declared.FlashWork.{FlashWork}
use Rattle.mu_model_node.specs.declared.FlashWork.TheVariants.{Untouched, Recorded, Begun, PutBlock}
use Rattle.mu_model_node.specs.FlashWork.{passed_by}
use Rattle.mu_model_node.specs.NodeState.{NodeDurable, NodeState}
use Rattle.mu_model_node.specs.Events.{NodeEvent, node_step, node_work}
use Rattle.mu_model_node.specs.Laws as n
use Rattle.mu_model_node.specs.Safe.{left_after}
use Rattle.mu_model_distributor.specs.DistEvents.{dist_step, dist_work}
use Rattle.mu_model_distributor.specs.DistState.{UploadJob, job_of, DistDurable, DistState}
use Rattle.mu_model_distributor.specs.Runs.{left_after as dist_left_after}
use Rattle.mu_model_distributor_laws.specs.Laws as d
use Rattle.mu_model_world.specs.Outcomes.{filling_held}
use Rattle.mu_model_mesh.specs.MeshOutcomes.{held_of}
use Rattle.mu_model_cut_texts.specs.Laws.{NodeCutsAreTold, DistributorCutsAreTold}
use Rattle.mu_model_cut_texts.proofs.Texts.{next_differs, boot_parts}
use Rattle.mu_model_cut_texts.proofs.Fills.{Goes, writes, stands, holds, event_goes}

-- ---- one of two

one_of : {D : Type 0} (old new fallback : D) (xs : List D) (k : ℕ) → AllByRecursion (λ x. (x ≡ old) ⊎ (x ≡ new)) xs → (fallback ≡ old) ⊎ (fallback ≡ new) → (slice_index_or xs k fallback ≡ old) ⊎ (slice_index_or xs k fallback ≡ new)
one_of old new fallback [] k all f = f
one_of old new fallback (x ∷ xs) zero all f = all.0
one_of old new fallback (x ∷ xs) (suc k) all f = one_of old new fallback xs k all.1 f

-- two that are each the old one or the new one are the same, where the old one and the new one are if they look alike
same_of : {D : Type 0} (Alike : D → D → Type 0) (old new x y : D) → ((a b : D) → Alike a b → Alike b a) → (Alike old new → old ≡ new) → (x ≡ old) ⊎ (x ≡ new) → (y ≡ old) ⊎ (y ≡ new) → Alike x y → x ≡ y
same_of Alike old new x y swap same (inl e) (inl f) alike = e ∙ sym f
same_of Alike old new x y swap same (inl e) (inr f) alike = e ∙ (same (subst (λ b. Alike old b) f (subst (λ a. Alike a y) e alike)) ∙ sym f)
same_of Alike old new x y swap same (inr e) (inl f) alike = e ∙ (sym (same (swap new old (subst (λ b. Alike new b) f (subst (λ a. Alike a y) e alike)))) ∙ sym f)
same_of Alike old new x y swap same (inr e) (inr f) alike = e ∙ sym f

-- ---- nodes

-- their boots print the same
abbrev NodesAlike : NodeDurable → NodeDurable → Type 0
NodesAlike a b = (decimal a.count ≡ decimal b.count) × (decimal (filling_held a.job) ≡ decimal (filling_held b.job))

node_later : (old new : NodeDurable) (work : FlashWork) → n.PassesFrom old new (passed_by old new work) → (old ≡ new) ⊎ n.IsLater old new
node_later old new Untouched h = inl h.1
node_later old new (Recorded is_long) h = inr h.1
node_later old new (Begun is_long) h = inr h.1
node_later old new (PutBlock pages) h = inr h.1

counted : (old new : ℕ) → new ≡ old + 1 → decimal old ≡ decimal new → ⊥
counted old new e same = next_differs old (ap decimal (sym e) ∙ sym same)

node_held : (old new : NodeDurable) → n.blocks_held new.job ≡ n.blocks_held old.job + 1 → Goes old new → NodesAlike old new → old ≡ new
node_held old new held (writes count) alike = absurd (counted old.count new.count count alike.0)
node_held old new held (stands e) alike = sym e
node_held old new held (holds f g) alike = absurd (counted (filling_held old.job) (filling_held new.job) (g ∙ (held ∙ ap (λ k. k + 1) (sym f))) alike.1)

node_apart : (old new : NodeDurable) → (old ≡ new) ⊎ n.IsLater old new → Goes old new → NodesAlike old new → old ≡ new
node_apart old new (inl e) goes alike = e
node_apart old new (inr (inl count)) goes alike = absurd (counted old.count new.count count alike.0)
node_apart old new (inr (inr later)) goes alike = node_held old new later.1 goes alike

node_left : n.WorkLeavesOldOrNew → (config : NodeConfig) (s : NodeState) (event : NodeEvent) (now operations : ℕ)
    → (left_after config s event now operations ≡ s.durable) ⊎ (left_after config s event now operations ≡ (node_step config s event now).next.durable)
node_left leaves config s event now operations =
    one_of s.durable (node_step config s event now).next.durable s.durable (s.durable ∷ node_work config s event now) operations (inl refl, leaves config s event now) (inl refl)

pub node_cuts : n.ChunksAreOfTheJob → n.StatesPassRising → n.WorkLeavesOldOrNew → NodeCutsAreTold
node_cuts chunks rising leaves config s event now operations others fits sound same =
    let old = s.durable in
    let new = (node_step config s event now).next.durable in
    let x = left_after config s event now operations in
    let y = left_after config s event now others in
    let parts = boot_parts config.address x.count (filling_held x.job) y.count (filling_held y.job) [] [] (ap (λ text. text ++ []) same) in
    let later = node_later old new (node_step config s event now).work (rising config s event now fits sound) in
    same_of NodesAlike old new x y (λ a b h. (sym h.0, sym h.1)) (node_apart old new later (event_goes chunks config s event now sound))
    (node_left leaves config s event now operations) (node_left leaves config s event now others) (parts.counts, parts.helds)

-- ---- distributors

abbrev DistributorsAlike : DistDurable → DistDurable → Type 0
DistributorsAlike a b = (decimal a.count ≡ decimal b.count) × (decimal (held_of (job_of a.upload)) ≡ decimal (held_of (job_of b.upload)))

held_is : (job : Option UploadJob) → held_of job ≡ d.blocks_held job
held_is None = refl
held_is (Some j) = refl

dist_later : (old new : DistDurable) (work : FlashWork) → d.PassesFrom old new (passed_by old new work) → (old ≡ new) ⊎ d.IsLater old new
dist_later old new Untouched h = inl h.1
dist_later old new (Recorded is_long) h = inr h.1
dist_later old new (Begun is_long) h = inr h.1
dist_later old new (PutBlock pages) h = inr h.1

dist_apart : (old new : DistDurable) → (old ≡ new) ⊎ d.IsLater old new → DistributorsAlike old new → old ≡ new
dist_apart old new (inl e) alike = e
dist_apart old new (inr (inl count)) alike = absurd (counted old.count new.count count alike.0)
dist_apart old new (inr (inr later)) alike =
    let held = held_is (job_of new.upload) ∙ (later.1 ∙ ap (λ k. k + 1) (sym (held_is (job_of old.upload)))) in
    absurd (counted (held_of (job_of old.upload)) (held_of (job_of new.upload)) held alike.1)

dist_left : d.WorkLeavesOldOrNew → (address : ℕ) (s : DistState) (event : NodeEvent) (now operations : ℕ)
    → (dist_left_after address s event now operations ≡ s.durable) ⊎ (dist_left_after address s event now operations ≡ (dist_step address s event now).next.durable)
dist_left leaves address s event now operations =
    one_of s.durable (dist_step address s event now).next.durable s.durable (s.durable ∷ dist_work address s event now) operations (inl refl, leaves address s event now) (inl refl)

pub dist_cuts : d.StatesPassRising → d.WorkLeavesOldOrNew → DistributorCutsAreTold
dist_cuts rising leaves address s event now operations others fits sound same =
    let old = s.durable in
    let new = (dist_step address s event now).next.durable in
    let x = dist_left_after address s event now operations in
    let y = dist_left_after address s event now others in
    let parts = boot_parts address x.count (held_of (job_of x.upload)) y.count (held_of (job_of y.upload)) [] [] (ap (λ text. text ++ []) same) in
    let later = dist_later old new (dist_step address s event now).work (rising address s event now fits sound) in
    same_of DistributorsAlike old new x y (λ a b h. (sym h.0, sym h.1)) (dist_apart old new later)
    (dist_left leaves address s event now operations) (dist_left leaves address s event now others) (parts.counts, parts.helds)
