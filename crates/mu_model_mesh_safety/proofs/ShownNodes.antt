-- What is shown of a node is safe, by why it is shown: what the node took under the BLOB ID is what is offered with it, so what was
-- reached was reached for that.
use Rattle.std.proofs.Common.{arith, ◌≡◌, ◌⊎◌, ℕ, zero, suc, true, false, List, [], ◌∷◌, ◌++◌, refl, sym, ap, subst, ◌∙◌, inl, inr, Some, Contains}
use Rattle.std.specs.List.{AllByRecursion}
use Rattle.std.specs.Prelude.{IsTrue, slice_get}
use Rattle.mu_model_image.specs.declared.Meta.{Meta}
use Rattle.mu_model_image.specs.Laws.{FirmwareIdsDiffer}
use Rattle.mu_model_image.specs.Meta.{Image, IsMeta, meta_from, firmware_id, own_company}
use Rattle.mu_model_wire.specs.Packet.{Packet}
use Rattle.mu_model_node.specs.declared.NodeConfig.{NodeConfig}
use Rattle.mu_model_node.specs.Log.{LogEntry, Took, Active, Reached}
use Rattle.mu_model_node.specs.NodeState.{NodeState, restarted, is_addressee}
use Rattle.mu_model_node.specs.Safe.{InOrder, ImageIsSafe, found, state_after, log_after}
use Rattle.mu_model_node.specs.UpdateMessages.{UpdateStart}
use Rattle.mu_model_client.specs.Rows.{is_reported, transfer_canceled, apply_success, apply_failed, phase_unknown}
use Rattle.mu_model_fates.specs.Laws.{ReachedWasTaken, AskedBefore, HasVersion, VersionsOf, VersionsRise, ShownSinceTaken, OffersOne, CanceledSince, VerifiedIsHeld, come_in, IsOffer, TookWasOffered}
use Rattle.mu_model_told.specs.Reached.{IdIsSafe}
use Rattle.mu_model_world.specs.World.{Member, config_of}
use Rattle.mu_model_mesh_safety.specs.Safe.{offered_in, IsShown, ruled, reached, applied, SaysHeld, IsHeldBy, RowIsSafe}
use Rattle.mu_model_mesh_safety.specs.Runs.{NodeRun}
use Rattle.mu_model_mesh_safety.proofs.Shown.{of_all, Starts, offered_first, rest, head}

-- ---- a node's run

abbrev pub log_of : {bag : List Packet} {a : ℕ} {n : Member} → NodeRun bag a n → List LogEntry
log_of {a = a} {n = n} r = log_after (config_of a n) (restarted r.made) r.hs

abbrev pub state_of : {bag : List Packet} {a : ℕ} {n : Member} → NodeRun bag a n → NodeState
state_of {a = a} {n = n} r = state_after (config_of a n) (restarted r.made) r.hs

-- ---- what is offered under a BLOB ID

-- each Update Start of the BLOB ID has the same metadata, and those to the node have the same index
pub record OneOffer (bag : List Packet) (config : NodeConfig) (id : ℕ) : Type 0 where
  pub metas : (p q : Packet) (u v : UpdateStart) → Contains bag p → Contains bag q → Starts p u → Starts q v → u.id ≡ id → v.id ≡ id → u.metadata ≡ v.metadata
  pub indexes :
      (p q : Packet) (u v : UpdateStart) → Contains bag p → Contains bag q → Starts p u → Starts q v → u.id ≡ id → v.id ≡ id
      → IsTrue (is_addressee config p) → IsTrue (is_addressee config q) → u.index ≡ v.index

-- what is offered is in its ranges
abbrev pub MetasInRange : List Packet → Type 0
MetasInRange bag = (p : Packet) (u : UpdateStart) (meta : Meta) → Contains bag p → Starts p u → meta_from u.metadata ≡ Some meta → IsMeta meta

-- this is the index that the node is asked to update
abbrev pub IsIndexOf : List Packet → NodeConfig → (id index : ℕ) → Type 0
IsIndexOf bag config id index = (p : Packet) (u : UpdateStart) → Contains bag p → Starts p u → u.id ≡ id → IsTrue (is_addressee config p) → index ≡ u.index

-- this is what is offered
abbrev pub IsOfferOf : List Packet → ℕ → Meta → Type 0
IsOfferOf bag id offer = (p : Packet) (u : UpdateStart) (meta : Meta) → Contains bag p → Starts p u → u.id ≡ id → meta_from u.metadata ≡ Some meta → meta ≡ offer

-- ---- why a node is shown in a phase

abbrev pub IsRuling : ℕ → Type 0
IsRuling phase = (phase ≡ transfer_canceled) ⊎ ((phase ≡ apply_failed) ⊎ (phase ≡ phase_unknown))

pub data Cause {bag : List Packet} {a : ℕ} {n : Member} (r : NodeRun bag a n) (id index phase : ℕ) : Type 0 where
  by_verdict : IsRuling phase → Cause r id index phase
  by_log : is_reported phase ≡ true → InOrder (Reached id phase ∷ []) (log_of r) → IsIndexOf bag (config_of a n) id index → Cause r id index phase
  by_image : (told : ℕ) (offer : Meta) → phase ≡ apply_success → InOrder (Reached id told ∷ []) (log_of r) → IsIndexOf bag (config_of a n) id index → IsOfferOf bag id offer
      → IdIsSafe r.made (log_of r) index (firmware_id own_company offer) → Cause r id index phase

-- ---- small facts

of_get : {X : Type 0} (P : X → Type 0) (xs : List X) (i : ℕ) (x : X) → AllByRecursion P xs → slice_get xs i ≡ Some x → P x
of_get P [] i x all is = absurd cc
of_get P (y ∷ xs) zero x all is = subst P (let same : y ≡ x = cc in same) all.0
of_get P (y ∷ xs) (suc i) x all is = of_get P xs i x all.1 is

no_verdict : (phase : ℕ) → SaysHeld phase → IsRuling phase → ⊥
no_verdict phase (inl e) (inl f) = omega (arith, e, f)
no_verdict phase (inl e) (inr (inl f)) = omega (arith, e, f)
no_verdict phase (inl e) (inr (inr f)) = omega (arith, e, f)
no_verdict phase (inr (inl e)) (inl f) = omega (arith, e, f)
no_verdict phase (inr (inl e)) (inr (inl f)) = omega (arith, e, f)
no_verdict phase (inr (inl e)) (inr (inr f)) = omega (arith, e, f)
no_verdict phase (inr (inr e)) (inl f) = omega (arith, e, f)
no_verdict phase (inr (inr e)) (inr (inl f)) = omega (arith, e, f)
no_verdict phase (inr (inr e)) (inr (inr f)) = omega (arith, e, f)

pub not_reported : (phase other : ℕ) → is_reported phase ≡ true → phase ≡ other → is_reported other ≡ false → ⊥
not_reported phase other is e never = let reports : is_reported other ≡ true = subst (λ x. is_reported x ≡ true) e is in cc

-- an image of what was offered became active after it was taken
record Became (log : List LogEntry) (id index : ℕ) (offer : Meta) : Type 0 where
  active : Meta
  in_order : InOrder (Took id index offer ∷ Active index active ∷ []) log
  version : active.version ≡ offer.version
  digest : active.digest ≡ offer.digest

-- ---- a node

module _ (taken : ReachedWasTaken) (asked : AskedBefore) (rise : VersionsRise) (since : ShownSinceTaken) (held : VerifiedIsHeld) (came : TookWasOffered) (ids : FirmwareIdsDiffer) where
  -- what the node took was in the bag
  from_bag : {bag : List Packet} {a : ℕ} {n : Member} (r : NodeRun bag a n) (id index : ℕ) (meta : Meta) → InOrder (Took id index meta ∷ []) (log_of r) → (p : Packet) × Contains bag p × IsOffer (config_of a n) p id index meta
  from_bag {bag = bag} {a = a} {n = n} r id index meta o =
      let t = came (config_of a n) (restarted r.made) r.hs id index meta o in
      (t.0, of_all (λ (q : Packet). Contains bag q) (come_in r.hs) t.0 r.come t.1, t.2)

  took_meta : {bag : List Packet} {a : ℕ} {n : Member} (r : NodeRun bag a n) → MetasInRange bag → (id index : ℕ) (meta : Meta) → InOrder (Took id index meta ∷ []) (log_of r) → IsMeta meta
  took_meta r metas id index meta o =
      let c = from_bag r id index meta o in
      metas c.0 c.2.start meta c.1 c.2.asks c.2.same_meta

  -- under one BLOB ID it took one offer
  offers_one : {bag : List Packet} {a : ℕ} {n : Member} (r : NodeRun bag a n) (id : ℕ) → OneOffer bag (config_of a n) id → (index : ℕ) (meta : Meta) → InOrder (Took id index meta ∷ []) (log_of r) → OffersOne id index meta (log_of r)
  offers_one r id one index meta o x m k =
      let c = from_bag r id index meta o in
      let d = from_bag r id x m k in
      let indexes : d.2.start.index ≡ c.2.start.index = one.indexes d.0 c.0 d.2.start c.2.start d.1 c.1 d.2.asks c.2.asks d.2.same_id c.2.same_id d.2.addressed c.2.addressed in
      let metadata : d.2.start.metadata ≡ c.2.start.metadata = one.metas d.0 c.0 d.2.start c.2.start d.1 c.1 d.2.asks c.2.asks d.2.same_id c.2.same_id in
      let metas : Some m ≡ Some meta = sym d.2.same_meta ∙ (ap meta_from metadata ∙ c.2.same_meta) in
      (sym d.2.same_index ∙ (indexes ∙ c.2.same_index), cc metas)

  -- which is what is offered with it
  offered_is : {bag : List Packet} {a : ℕ} {n : Member} (r : NodeRun bag a n) (id : ℕ) → OneOffer bag (config_of a n) id → (index : ℕ) (meta : Meta) → InOrder (Took id index meta ∷ []) (log_of r) → offered_in bag id ≡ Some meta
  offered_is {bag = bag} r id one index meta o =
      let c = from_bag r id index meta o in
      offered_first bag id c.2.start.metadata (λ p u has s e. one.metas p c.0 u c.2.start has c.1 s c.2.asks e c.2.same_id) c.0 c.2.start c.1 c.2.asks c.2.same_id ∙ c.2.same_meta

  -- a phase that was reached was reached with what is offered, for this index
  took_at : {bag : List Packet} {a : ℕ} {n : Member} (r : NodeRun bag a n) (id index phase : ℕ) → IsIndexOf bag (config_of a n) id index → InOrder (Reached id phase ∷ []) (log_of r) → (meta : Meta) × InOrder (Took id index meta ∷ []) (log_of r)
  took_at {a = a} {n = n} r id index phase at o =
      let t = taken (config_of a n) r.made r.hs r.jobless id phase o in
      let took : InOrder (Took id t.0 t.1 ∷ []) (log_of r) = head t.2 in
      let c = from_bag r id t.0 t.1 took in
      let same : index ≡ t.0 = at c.0 c.2.start c.1 c.2.asks c.2.same_id c.2.addressed ∙ c.2.same_index in
      (t.1, subst (λ x. InOrder (Took id x t.1 ∷ []) (log_of r)) (sym same) took)

  took_offer : {bag : List Packet} {a : ℕ} {n : Member} (r : NodeRun bag a n) (id index phase : ℕ) (offer : Meta) → IsIndexOf bag (config_of a n) id index → IsOfferOf bag id offer → InOrder (Reached id phase ∷ []) (log_of r) → InOrder (Took id index offer ∷ []) (log_of r)
  took_offer r id index phase offer at own o =
      let t = took_at r id index phase at o in
      let c = from_bag r id index t.0 t.1 in
      subst (λ (m : Meta). InOrder (Took id index m ∷ []) (log_of r)) (own c.0 c.2.start t.0 c.1 c.2.asks c.2.same_id c.2.same_meta) t.1

  -- ---- images

  same_numbers : (a b : Meta) → IsMeta a → IsMeta b → firmware_id own_company b ≡ firmware_id own_company a → (a.version ≡ b.version) × (a.digest ≡ b.digest)
  same_numbers a b h k e =
      let same = ids own_company own_company a b (omega arith) (omega arith) h.version k.version (sym e) in
      (same.1, same.2)

  became : {bag : List Packet} {a : ℕ} {n : Member} (r : NodeRun bag a n) → MetasInRange bag → (id index : ℕ) (offer : Meta) → InOrder (Took id index offer ∷ []) (log_of r) → IdIsSafe r.made (log_of r) index (firmware_id own_company offer) → Became (log_of r) id index offer
  became {a = a} {n = n} r metas id index offer took safe = by_image (subst (λ job. ImageIsSafe r.made.images (found job ++ log_of r) index safe.0) r.jobless safe.2)
    where
      known : IsMeta offer
      known = took_meta r metas id index offer took

      by_image : ImageIsSafe r.made.images (log_of r) index safe.0 → Became (log_of r) id index offer
      by_image (inl first) =
          let range : IsMeta safe.0.meta = of_get (λ (image : Image). IsMeta image.meta) r.made.images index safe.0 r.metas first in
          absurd ((since (config_of a n) r.made r.hs r.jobless id index offer took).1 safe.0 first (same_numbers safe.0.meta offer range known safe.1).0)
      by_image (inr updated) =
          let range : IsMeta safe.0.meta = took_meta r metas updated.id index safe.0.meta (head updated.in_order) in
          let same = same_numbers safe.0.meta offer range known safe.1 in
          let active : InOrder (Active index safe.0.meta ∷ []) (log_of r) = rest (rest (rest updated.in_order)) in
          record {
            active = safe.0.meta;
            in_order = (since (config_of a n) r.made r.hs r.jobless id index offer took).0 safe.0.meta active same.0;
            version = same.0;
            digest = same.1;
          }

  -- ---- what is shown

  pub shown_of : {bag : List Packet} {a : ℕ} {n : Member} (r : NodeRun bag a n) (id index phase : ℕ) → OneOffer bag (config_of a n) id → MetasInRange bag → Cause r id index phase → IsShown bag (log_of r) id index phase
  shown_of r id index phase one metas (by_verdict h) = ruled h
  shown_of r id index phase one metas (by_log is o at) = reached is o
  shown_of r id index phase one metas (by_image told offer is o at own safe) =
      let took = took_offer r id index told offer at own o in
      let b = became r metas id index offer took safe in
      applied is (record {
        meta = offer;
        offered = offered_is r id one index offer took;
        active = b.active;
        in_order = b.in_order;
        version = b.version;
        digest = b.digest;
      })

  -- ---- what is held

  verified : {bag : List Packet} {a : ℕ} {n : Member} (r : NodeRun bag a n) (id index : ℕ) → OneOffer bag (config_of a n) id → IsIndexOf bag (config_of a n) id index → InOrder (Reached id 4 ∷ []) (log_of r) → IsHeldBy bag (state_of r) id index ⊎ CanceledSince id (log_of r)
  verified {a = a} {n = n} r id index one at o =
      let t = took_at r id index 4 at o in
      elim (held (config_of a n) r.made r.hs r.jobless id index t.0 (offers_one r id one index t.0 t.1) o) [
        | inl h ↦ inl (record { meta = t.0; offered = offered_is r id one index t.0 t.1; held = h })
        | inr c ↦ inr c
      ]

  logged_held : {bag : List Packet} {a : ℕ} {n : Member} (r : NodeRun bag a n) (id index phase : ℕ) → OneOffer bag (config_of a n) id → is_reported phase ≡ true → InOrder (Reached id phase ∷ []) (log_of r) → IsIndexOf bag (config_of a n) id index → SaysHeld phase
      → IsHeldBy bag (state_of r) id index ⊎ CanceledSince id (log_of r)
  logged_held r id index phase one is o at (inl e) = verified r id index one at (subst (λ x. InOrder (Reached id x ∷ []) (log_of r)) e o)
  logged_held {a = a} {n = n} r id index phase one is o at (inr (inl e)) =
      let before = asked (config_of a n) r.made r.hs r.jobless id (subst (λ x. InOrder (Reached id x ∷ []) (log_of r)) e o) in
      verified r id index one at (head (rest before.2))
  logged_held r id index phase one is o at (inr (inr e)) = absurd (not_reported phase apply_success is e refl)

  pub held_of : {bag : List Packet} {a : ℕ} {n : Member} (r : NodeRun bag a n) (id index phase : ℕ) → OneOffer bag (config_of a n) id → MetasInRange bag → Cause r id index phase → SaysHeld phase → IsHeldBy bag (state_of r) id index ⊎ CanceledSince id (log_of r)
  held_of r id index phase one metas (by_verdict h) says = absurd (no_verdict phase says h)
  held_of r id index phase one metas (by_log is o at) says = logged_held r id index phase one is o at says
  held_of {a = a} {n = n} r id index phase one metas (by_image told offer is o at own safe) says =
      let took = took_offer r id index told offer at own o in
      let b = became r metas id index offer took safe in
      let versions : VersionsOf r.made.images (log_of r) (state_of r).durable.images = rise (config_of a n) r.made r.hs r.jobless in
      let there : HasVersion (state_of r).durable.images index b.active.version = versions.now index b.active (rest b.in_order) in
      inl (record {
        meta = offer;
        offered = offered_is r id one index offer took;
        held = inr (subst (λ x. HasVersion (state_of r).durable.images index x) b.version there);
      })

  pub row_safe : {bag : List Packet} {a : ℕ} {n : Member} (r : NodeRun bag a n) (id index phase : ℕ) → OneOffer bag (config_of a n) id → MetasInRange bag → Cause r id index phase → RowIsSafe bag (log_of r) (state_of r) id index phase
  row_safe r id index phase one metas c = record { shown = shown_of r id index phase one metas c; held = λ says within. held_of r id index phase one metas c says }
