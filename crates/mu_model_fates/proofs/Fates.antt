-- What a node had verified is in hand, was made active or was canceled.
use Rattle.std.proofs.Common.{arith, ◌≡◌, ℕ, Bool, true, false, ◌==◌, List, [], ◌∷◌, ◌++◌, refl, sym, ap, subst, ◌∙◌, append_assoc, ◌⊎◌, inl, inr, Option, Some, None}
use Rattle.std.specs.Prelude.{◌&&◌}
use Rattle.std.proofs.lemmas.Bool.Decides.{nat_tests}
use Rattle.mu_model_image.specs.declared.Meta.{Meta}
use Rattle.mu_model_image.specs.Meta.{Image}
use Rattle.mu_model_node.specs.declared.Stored.{Stored}
use Rattle.mu_model_node.specs.declared.Stored.TheVariants.{Filling, Verified, Refused, Applied}
use Rattle.mu_model_node.specs.declared.Link.{Link}
use Rattle.mu_model_node.specs.Log.{LogEntry, Took, Asked, Active, Canceled, Reached}
use Rattle.mu_model_node.specs.NodeState.{Job, NodeState, stored_phase, update_number}
use Rattle.mu_model_node.specs.Safe.{InOrder, none, here}
use Rattle.mu_model_fates.specs.Laws.{HasVersion, VersionsOf, OffersOne, IsVerified, IsHeld, CanceledSince}
use Rattle.mu_model_fates.proofs.Order.{in_left, in_order, head, rest, one_more}
use Rattle.mu_model_fates.proofs.Traces.{IsOpen, IsOpenIn, PhaseIn, Trace, begun, taken, filled, told, verified, refused, asked, canceled, activated}
use Rattle.mu_model_fates.proofs.Jobs.{job_logged, took_in}

-- Verification Succeeded or Applying Update
abbrev HasSucceeded : Stored → Type 0
HasSucceeded Filling = ⊥
HasSucceeded Verified = Unit {0}
HasSucceeded Refused = ⊥
HasSucceeded Applied = Unit {0}

pub data Fate (id : ℕ) (log : List LogEntry) (job : Option Job) : Type 0 where
  InHand : (j : Job) → job ≡ Some j → j.id ≡ id → HasSucceeded j.stored → Fate id log job
  MadeActive : (index : ℕ) (meta : Meta) → InOrder (Took id index meta ∷ Active index meta ∷ []) log → Fate id log job
  Dropped : CanceledSince id log → Fate id log job

-- ---- an entry more

-- the entry says that the job of this BLOB ID is verified, or doesn't
is_it : (id : ℕ) (e : LogEntry) → (Reached id 4 ≡ e) ⊎ (Reached id 4 ≡ e → ⊥)
is_it id (Took x index meta) = inr (λ k. cc)
is_it id (Asked x) = inr (λ k. cc)
is_it id (Active index meta) = inr (λ k. cc)
is_it id (Canceled x) = inr (λ k. cc)
is_it id (Reached x n) = by_test ((x == id) && (n == 4)) refl
  where
    by_test : (b : Bool) → ((x == id) && (n == 4)) ≡ b → (Reached id 4 ≡ Reached x n) ⊎ (Reached id 4 ≡ Reached x n → ⊥)
    by_test true e =
        let ids : x ≡ id = grind (arith, nat_tests) in
        let fours : n ≡ 4 = grind (arith, nat_tests) in
        inl (rw (ids, fours) refl)
    by_test false e = inr (λ k. let ids : x ≡ id = cc in let fours : n ≡ 4 = cc in grind (arith, nat_tests))

dropped_more : {log : List LogEntry} (id : ℕ) (e : LogEntry) → (Reached id 4 ≡ e → ⊥) → CanceledSince id log → CanceledSince id (log ++ e ∷ [])
dropped_more id e apart h = record {
  before = h.before;
  after = h.after ++ e ∷ [];
  is = ap (λ (l : List LogEntry). l ++ e ∷ []) h.is ∙ append_assoc h.before (Canceled id ∷ h.after) (e ∷ []);
  verified = h.verified;
  last = λ o. elim (one_more h.after o) [ inl k ↦ h.last k | inr k ↦ apart k ];
}

-- an entry with which the job is another
fate_more : {log : List LogEntry} {old : Option Job} (id : ℕ) (e : LogEntry) (new : Option Job) → (Reached id 4 ≡ e → ⊥) → ((j : Job) → old ≡ Some j → j.id ≡ id → HasSucceeded j.stored → Fate id (log ++ e ∷ []) new) → Fate id log old → Fate id (log ++ e ∷ []) new
fate_more id e new apart f (InHand j is same h) = f j is same h
fate_more id e new apart f (MadeActive index meta h) = MadeActive index meta (in_left (e ∷ []) h)
fate_more id e new apart f (Dropped h) = Dropped (dropped_more id e apart h)

-- with the same log the job is another
fate_same : {log : List LogEntry} {old : Option Job} (id : ℕ) (new : Option Job) → ((j : Job) → old ≡ Some j → j.id ≡ id → HasSucceeded j.stored → Fate id log new) → Fate id log old → Fate id log new
fate_same id new f (InHand j is same h) = f j is same h
fate_same id new f (MadeActive index meta h) = MadeActive index meta h
fate_same id new f (Dropped h) = Dropped h

-- ---- jobs

own : (i j : Job) → Some i ≡ Some j → i ≡ j
own i j e = cc

not_filling : (i j : Job) → Some i ≡ Some j → i.stored ≡ Filling → HasSucceeded j.stored → ⊥
not_filling i j e f h = subst HasSucceeded (sym (ap (λ (x : Job). x.stored) (own i j e)) ∙ f) h

not_open : (stored : Stored) → IsOpenIn stored → HasSucceeded stored → ⊥
not_open Filling h k = k
not_open Verified h k = h
not_open Refused h k = k
not_open Applied h k = h

ids_of : (i j : Job) (id : ℕ) → Some i ≡ Some j → j.id ≡ id → i.id ≡ id
ids_of i j id e k = ap (λ (x : Job). x.id) (own i j e) ∙ k

has_of : (i j : Job) → Some i ≡ Some j → HasSucceeded j.stored → HasSucceeded i.stored
has_of i j e h = subst HasSucceeded (sym (ap (λ (x : Job). x.stored) (own i j e))) h

-- phase 4 is that of a verified job
four : (stored : Stored) → PhaseIn stored 4 → HasSucceeded stored
four Filling p = absurd (omega (arith, p.1))
four Verified p = tt
four Refused p = cc
four Applied p = tt

before_last : {log : List LogEntry} (id : ℕ) (e : LogEntry) → (Reached id 4 ≡ e → ⊥) → InOrder (Reached id 4 ∷ []) (log ++ e ∷ []) → InOrder (Reached id 4 ∷ []) log
before_last {log = log} id e apart h = elim (one_more log h) [ inl k ↦ k | inr k ↦ absurd (apart k) ]

-- ---- all entries

drops : {log : List LogEntry} (i : Job) (id : ℕ) → i.id ≡ id → InOrder (Reached id 4 ∷ []) log → CanceledSince id (log ++ Canceled i.id ∷ [])
drops {log = log} i id e h = record { before = log; after = []; is = rw e refl; verified = h; last = λ o. elim o [ ] }

pub fate_of : {first : List Image} {log : List LogEntry} {images : List Image} {job : Option Job} → Trace first log images job → (id : ℕ) → InOrder (Reached id 4 ∷ []) log → Fate id log job
fate_of begun id h = elim h [ ]
fate_of (taken {old = old} j active e free at newer t) id h =
    let apart : Reached id 4 ≡ Took j.id j.index j.meta → ⊥ = λ k. cc in
    fate_more id (Took j.id j.index j.meta) (Some j) apart (λ i is same has. absurd (not_open i.stored (subst IsOpen is free) has)) (fate_of t id (before_last id (Took j.id j.index j.meta) apart h))
fate_of (filled {i = i} parameters held t) id h =
    fate_same id (Some (record i { parameters = parameters; held = held })) (λ j is same has. InHand (record i { parameters = parameters; held = held }) refl (ids_of i j id is same) (has_of i j is has)) (fate_of t id h)
fate_of (told {i = i} n p t) id h =
    elim (is_it id (Reached i.id n)) [
      | inl k ↦ (let ids : i.id ≡ id = cc in let fours : n ≡ 4 = cc in InHand i refl ids (four i.stored (subst (PhaseIn i.stored) fours p)))
      | inr apart ↦
          fate_more id (Reached i.id n) (Some i) apart (λ j is same has. InHand i refl (ids_of i j id is same) (has_of i j is has)) (fate_of t id (before_last id (Reached i.id n) apart h))
    ]
fate_of (verified {i = i} e t) id h =
    elim (is_it id (Reached i.id 4)) [
      | inl k ↦ (let ids : i.id ≡ id = cc in InHand (record i { stored = Verified }) refl ids tt)
      | inr apart ↦
          fate_more id (Reached i.id 4) (Some (record i { stored = Verified })) apart (λ j is same has. absurd (not_filling i j is e has)) (fate_of t id (before_last id (Reached i.id 4) apart h))
    ]
fate_of (refused {i = i} e t) id h =
    fate_same id (Some (record i { stored = Refused; parameters = None; held = [] })) (λ j is same has. absurd (not_filling i j is e has)) (fate_of t id h)
fate_of (asked {i = i} e t) id h =
    let apart : Reached id 4 ≡ Asked i.id → ⊥ = λ k. cc in
    fate_more id (Asked i.id) (Some (record i { stored = Applied })) apart (λ j is same has. InHand (record i { stored = Applied }) refl (ids_of i j id is same) tt) (fate_of t id (before_last id (Asked i.id) apart h))
fate_of (canceled {i = i} m t) id h =
    let apart : Reached id 4 ≡ Canceled i.id → ⊥ = λ k. cc in
    let was = before_last id (Canceled i.id) apart h in
    fate_more id (Canceled i.id) None apart (λ j is same has. Dropped (drops i id (ids_of i j id is same) was)) (fate_of t id was)
fate_of (activated {log = log} {i = i} image meta e t) id h =
    let apart : Reached id 4 ≡ Active i.index i.meta → ⊥ = λ k. cc in
    let o : InOrder (Took i.id i.index i.meta ∷ Active i.index i.meta ∷ []) (log ++ Active i.index i.meta ∷ []) = in_order (took_in i (job_logged t)) (here none) in
    fate_more id (Active i.index i.meta) None apart
    (λ j is same has. MadeActive i.index i.meta (subst (λ x. InOrder (Took x i.index i.meta ∷ Active i.index i.meta ∷ []) (log ++ Active i.index i.meta ∷ [])) (ids_of i j id is same) o)) (fate_of t id (before_last id (Active i.index i.meta) apart h))

-- ---- what is held

phase_number : (j : Job) (link : Link) (stored : Stored) → HasSucceeded stored → (update_number (stored_phase j link stored) ≡ 4) ⊎ (update_number (stored_phase j link stored) ≡ 6)
phase_number j link Filling h = absurd h
phase_number j link Verified h = inl refl
phase_number j link Refused h = absurd h
phase_number j link Applied h = inr refl

in_hand : (s : NodeState) (id : ℕ) (j : Job) → s.durable.job ≡ Some j → j.id ≡ id → HasSucceeded j.stored → IsVerified s id
in_hand s id j is same h = record {
  job = j;
  is = is;
  own = same;
  phase = rw is (phase_number j s.session.link j.stored h);
}

pub held_by : (first : List Image) (log : List LogEntry) (s : NodeState) → VersionsOf first log s.durable.images → (id index : ℕ) (meta : Meta) → OffersOne id index meta log → Fate id log s.durable.job
    → IsHeld s id index meta.version ⊎ CanceledSince id log
held_by first log s versions id index meta one (InHand j is same h) = inl (inl (in_hand s id j is same h))
held_by first log s versions id index meta one (MadeActive x m o) =
    let offer = one x m (head o) in
    let there : HasVersion s.durable.images x m.version = versions.now x m (rest o) in
    let places : HasVersion s.durable.images index m.version = subst (λ i. HasVersion s.durable.images i m.version) offer.0 there in
    inl (inr (subst (λ (y : Meta). HasVersion s.durable.images index y.version) offer.1 places))
held_by first log s versions id index meta one (Dropped h) = inr h
