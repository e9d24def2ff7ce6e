-- Whole runs of one node keep its invariant.
use Rattle.std.proofs.Common.{◌≡◌, ℕ, zero, suc, List, [], ◌∷◌, ◌++◌, refl, subst, append_assoc, append-nil, inl, Option, Some, None, get_or, replicate, cond, true, false, Bool, ◌*◌}
use Rattle.std.specs.Prelude.{◌==◌}
use Rattle.mu_model_image.specs.Meta.{Image}
use Rattle.mu_model_node.specs.FlashWork.{FlashWork, Untouched, Recorded, Begun, PutBlock, record_work, work_by}
use Rattle.mu_model_node.specs.NodeState.{Stored, Filling, Verified, Refused, Applied, Job, NodeDurable, NodeState, restarted}
use Rattle.mu_model_node.specs.Events.{NodeEvent, at_moment, node_step}
use Rattle.mu_model_node.specs.Log.{LogEntry, Took, logged}
use Rattle.mu_model_node.specs.Sound.{IsNodeDurable, HasJob, StoredIs}
use Rattle.mu_model_node.specs.Safe.{Happening, Done, CutPower, Torn, left_after, happened, state_after, log_after, none, here, found_stored, found, OneNodeIsSafe}
use Rattle.mu_model_node.specs.declared.NodeConfig.{NodeConfig}
use Rattle.mu_model_node.proofs.Moves.{ByNothing, Stays, cause_of, steps}
use Rattle.mu_model_node.proofs.Kept.{StoredIsKnown, IsKnown, NodeKept, move_kept}

-- ---- what stands after an operation is the state before or the one after

pub data IsEither {D : Type 0} (old new : D) (d : D) : Type 0 where
  Old : d ≡ old → IsEither old new d
  New : d ≡ new → IsEither old new d

after_copies : {D : Type 0} (old new : D) (n i : ℕ) → IsEither old new (get_or (replicate n old ++ new ∷ []) i old)
after_copies old new zero zero = New refl
after_copies old new zero (suc i) = Old refl
after_copies old new (suc n) zero = Old refl
after_copies old new (suc n) (suc i) = after_copies old new n i

after_two : {D : Type 0} (old new : D) (i : ℕ) → IsEither old new (get_or (old ∷ new ∷ []) i old)
after_two old new zero = Old refl
after_two old new (suc zero) = New refl
after_two old new (suc (suc i)) = Old refl

after_record : {D : Type 0} (is_long : Bool) (fresh : ℕ) (old new : D) (i : ℕ) → IsEither old new (get_or (record_work is_long fresh old new) i old)
after_record true fresh old new i = after_two old new i
after_record false fresh old new i =
    elim (fresh == 0) as (λ b. IsEither old new (get_or (cond b (old ∷ new ∷ []) (new ∷ [])) i old)) [
      | true ↦ after_two old new i
      | false ↦ after_copies old new 0 i
    ]

after_begin : {D : Type 0} (is_long : Bool) (fresh : ℕ) (old new : D) (i : ℕ) → IsEither old new (get_or (old ∷ record_work is_long fresh old new) i old)
after_begin is_long fresh old new zero = Old refl
after_begin is_long fresh old new (suc i) = after_record is_long fresh old new i

pub after_work : {D : Type 0} (fresh : ℕ) (old new : D) (work : FlashWork) (i : ℕ) → IsEither old new (get_or (old ∷ work_by fresh old new work) i old)
after_work fresh old new work zero = Old refl
after_work fresh old new Untouched (suc i) = Old refl
after_work fresh old new (Recorded is_long) (suc i) = after_record is_long fresh old new i
after_work fresh old new (Begun is_long) (suc i) = after_begin is_long fresh old new i
after_work fresh old new (PutBlock pages) (suc i) = after_copies old new (2 * pages) i

-- ---- each happening keeps the invariant

stands : (first : List Image) (log : List LogEntry) (s t : NodeState) → t.durable ≡ s.durable → NodeKept first log s.durable → NodeKept first (log ++ logged s t) t.durable
stands first log s t e h = move_kept ByNothing first log s t (rw e (Stays refl refl)) h

comes : (config : NodeConfig) (first : List Image) (log : List LogEntry) (s t : NodeState) (event : NodeEvent) (now : ℕ) → t.durable ≡ (node_step config s event now).next.durable → NodeKept first log s.durable → NodeKept first (log ++ logged s t) t.durable
comes config first log s t event now e h = move_kept (cause_of config event) first log (at_moment s now) t (rw e (steps config s event now)) h

tears : (config : NodeConfig) (first : List Image) (log : List LogEntry) (s t : NodeState) (event : NodeEvent) (now : ℕ) → IsEither s.durable (node_step config s event now).next.durable t.durable → NodeKept first log s.durable → NodeKept first (log ++ logged s t) t.durable
tears config first log s t event now (Old e) h = stands first log s t e h
tears config first log s t event now (New e) h = comes config first log s t event now e h

pub happens : (config : NodeConfig) (first : List Image) (log : List LogEntry) (s : NodeState) (h : Happening) → NodeKept first log s.durable → NodeKept first (log ++ logged s (happened config s h)) (happened config s h).durable
happens config first log s (Done event now) k = comes config first log s (node_step config s event now).next event now refl k
happens config first log s CutPower k = stands first log s (restarted s.durable) refl k
happens config first log s (Torn event now operations) k =
    tears config first log s (restarted (left_after config s event now operations)) event now
    (after_work s.fresh s.durable (node_step config s event now).next.durable (node_step config s event now).work operations) k

pub runs : (config : NodeConfig) (first : List Image) (log : List LogEntry) (s : NodeState) (hs : List Happening) → NodeKept first log s.durable → NodeKept first (log ++ log_after config s hs) (state_after config s hs).durable
runs config first log s [] k = rw append-nil k
runs config first log s (h ∷ hs) k =
    let t : NodeState = happened config s h in
    subst (λ l. NodeKept first l (state_after config t hs).durable) (append_assoc log (logged s t) (log_after config t hs))
    (runs config first (log ++ logged s t) t hs (happens config first log s h k))

-- ---- what a boot finds

found_known : (j : Job) (stored : Stored) → StoredIs j stored → StoredIsKnown (Took j.id j.index j.meta ∷ found_stored j stored) j stored
found_known j Filling h = tt
found_known j Refused h = tt
found_known j Verified h = (h.fit, here (here none))
found_known j Applied h = (h.fit, here (here (here none)))

job_known : (d : NodeDurable) (job : Option Job) → HasJob d.capacity d.images job → IsKnown (found job) job
job_known d None h = tt
job_known d (Some j) h = record { took = here none; stored = found_known j j.stored h.stored }

pub booted : (d : NodeDurable) → IsNodeDurable d → NodeKept d.images (found d.job) d
booted d h = record { images = λ index image is. inl is; job = job_known d d.job h.job }

pub one_node_is_safe : OneNodeIsSafe
one_node_is_safe config d hs h = (runs config d.images (found d.job) (restarted d) hs (booted d h)).images
