-- Of each job the log has that it was taken, verified and asked for.
use Rattle.std.proofs.Common.{arith, ◌≡◌, ℕ, List, [], ◌∷◌, ◌++◌, refl, sym, ap, subst, ◌∙◌, append_assoc, inl, inr, Option, Some, None}
use Rattle.mu_model_image.specs.declared.Meta.{Meta}
use Rattle.mu_model_image.specs.Meta.{Image}
use Rattle.mu_model_node.specs.Log.{LogEntry, Took, Asked, Active, Canceled, Reached}
use Rattle.mu_model_node.specs.declared.Stored.{Stored}
use Rattle.mu_model_node.specs.declared.Stored.TheVariants.{Filling, Verified, Refused, Applied}
use Rattle.mu_model_node.specs.NodeState.{Job}
use Rattle.mu_model_node.specs.Safe.{InOrder, none, here}
use Rattle.mu_model_fates.specs.Laws.{StoredIsLogged, IsLogged}
use Rattle.mu_model_fates.proofs.Order.{in_right, in_left, in_order, one_more}
use Rattle.mu_model_fates.proofs.Traces.{PhaseIn, Trace, begun, taken, filled, told, verified, refused, asked, canceled, activated}

abbrev NotTook : LogEntry → Type 0
NotTook e = (id index : ℕ) (meta : Meta) → Took id index meta ≡ e → ⊥

abbrev pub Logged : List LogEntry → Option Job → Type 0
Logged log None = Unit {0}
Logged log (Some j) = IsLogged log j

stored_more : (after more : List LogEntry) (id : ℕ) (stored : Stored) → StoredIsLogged after id stored → StoredIsLogged (after ++ more) id stored
stored_more after more id Filling h = tt
stored_more after more id Verified h = in_left more h
stored_more after more id Refused h = tt
stored_more after more id Applied h = in_left more h

-- an entry more, and how far the job is then
grown : {log : List LogEntry} (i : Job) (stored : Stored) (e : LogEntry) → NotTook e → (h : IsLogged log i) → StoredIsLogged (h.after ++ e ∷ []) i.id stored → IsLogged (log ++ e ∷ []) (record i { stored = stored })
grown i stored e apart h k = record {
  before = h.before;
  after = h.after ++ e ∷ [];
  is = ap (λ (l : List LogEntry). l ++ e ∷ []) h.is ∙ append_assoc h.before (Took i.id i.index i.meta ∷ h.after) (e ∷ []);
  last = λ id index meta o. elim (one_more h.after o) [ inl p ↦ h.last id index meta p | inr p ↦ apart id index meta p ];
  stored = k;
}

pub job_logged : {first : List Image} {log : List LogEntry} {images : List Image} {job : Option Job} → Trace first log images job → Logged log job
job_logged begun = tt
job_logged (taken {log = log} j active e free at newer t) = record {
  before = log;
  after = [];
  is = refl;
  last = λ id index meta o. elim o [ ];
  stored = rw e tt;
}
job_logged (filled parameters held t) =
    let h = job_logged t in
    record { before = h.before; after = h.after; is = h.is; last = h.last; stored = h.stored }
job_logged (told {i = i} phase p t) =
    let h = job_logged t in
    grown i i.stored (Reached i.id phase) (λ id index meta k. cc) h (stored_more h.after (Reached i.id phase ∷ []) i.id i.stored h.stored)
job_logged (verified {i = i} e t) =
    let h = job_logged t in
    grown i Verified (Reached i.id 4) (λ id index meta k. cc) h (in_right h.after (here none))
job_logged (refused e t) =
    let h = job_logged t in
    record { before = h.before; after = h.after; is = h.is; last = h.last; stored = tt }
job_logged (asked {i = i} e t) =
    let h = job_logged t in
    let was : InOrder (Reached i.id 4 ∷ []) h.after = subst (StoredIsLogged h.after i.id) e h.stored in
    grown i Applied (Asked i.id) (λ id index meta k. cc) h (in_order was (here none))
job_logged (canceled m t) = tt
job_logged (activated image same e t) = tt

-- ---- what the log has of a job that is there

pub took_in : {log : List LogEntry} (j : Job) → IsLogged log j → InOrder (Took j.id j.index j.meta ∷ []) log
took_in j h = subst (InOrder (Took j.id j.index j.meta ∷ [])) (sym h.is) (in_right h.before (here none))

asked_in : {log : List LogEntry} (j : Job) → j.stored ≡ Applied → IsLogged log j → InOrder (Took j.id j.index j.meta ∷ Reached j.id 4 ∷ Asked j.id ∷ []) log
asked_in j e h =
    let since : InOrder (Reached j.id 4 ∷ Asked j.id ∷ []) h.after = subst (StoredIsLogged h.after j.id) e h.stored in
    subst (InOrder (Took j.id j.index j.meta ∷ Reached j.id 4 ∷ Asked j.id ∷ [])) (sym h.is) (in_right h.before (here since))

-- ---- a phase that was reached

abbrev TakenBefore : List LogEntry → ℕ → ℕ → Type 0
TakenBefore log id phase = (index : ℕ) × (meta : Meta) × InOrder (Took id index meta ∷ Reached id phase ∷ []) log

older : {log : List LogEntry} (e : LogEntry) (id phase : ℕ) → TakenBefore log id phase → TakenBefore (log ++ e ∷ []) id phase
older e id phase h = (h.0, h.1, in_left (e ∷ []) h.2)

now : {log : List LogEntry} (i : Job) (n id phase : ℕ) → IsLogged log i → Reached id phase ≡ Reached i.id n → TakenBefore (log ++ Reached i.id n ∷ []) id phase
now i n id phase h e =
    let ids : id ≡ i.id = cc in
    let phases : phase ≡ n = cc in
    let o : InOrder (Took i.id i.index i.meta ∷ Reached i.id n ∷ []) _ = in_order (took_in i h) (here none) in
    (i.index, i.meta, rw (ids, phases) o)

other : {log : List LogEntry} (e : LogEntry) (id phase : ℕ) → (Reached id phase ≡ e → ⊥) → (InOrder (Reached id phase ∷ []) log → TakenBefore log id phase) → InOrder (Reached id phase ∷ []) (log ++ e ∷ []) → TakenBefore (log ++ e ∷ []) id phase
other {log = log} e id phase apart f h = elim (one_more log h) [ inl k ↦ older e id phase (f k) | inr k ↦ absurd (apart k) ]

pub reached_taken : {first : List Image} {log : List LogEntry} {images : List Image} {job : Option Job} → Trace first log images job → (id phase : ℕ) → InOrder (Reached id phase ∷ []) log → TakenBefore log id phase
reached_taken begun id phase h = elim h [ ]
reached_taken (taken j active e free at newer t) id phase h = other (Took j.id j.index j.meta) id phase (λ k. cc) (reached_taken t id phase) h
reached_taken (filled parameters held t) id phase h = reached_taken t id phase h
reached_taken (told {log = log} {i = i} n p t) id phase h =
    elim (one_more log h) [ inl k ↦ older (Reached i.id n) id phase (reached_taken t id phase k) | inr k ↦ now i n id phase (job_logged t) k ]
reached_taken (verified {log = log} {i = i} e t) id phase h =
    elim (one_more log h) [ inl k ↦ older (Reached i.id 4) id phase (reached_taken t id phase k) | inr k ↦ now i 4 id phase (job_logged t) k ]
reached_taken (refused e t) id phase h = reached_taken t id phase h
reached_taken (asked {i = i} e t) id phase h = other (Asked i.id) id phase (λ k. cc) (reached_taken t id phase) h
reached_taken (canceled {i = i} m t) id phase h = other (Canceled i.id) id phase (λ k. cc) (reached_taken t id phase) h
reached_taken (activated {i = i} image same e t) id phase h = other (Active i.index i.meta) id phase (λ k. cc) (reached_taken t id phase) h

-- ---- Applying Update

abbrev AskedFor : List LogEntry → ℕ → Type 0
AskedFor log id = (index : ℕ) × (meta : Meta) × InOrder (Took id index meta ∷ Reached id 4 ∷ Asked id ∷ Reached id 6 ∷ []) log

before_six : {log : List LogEntry} (e : LogEntry) (id : ℕ) → (Reached id 6 ≡ e → ⊥) → (InOrder (Reached id 6 ∷ []) log → AskedFor log id) → InOrder (Reached id 6 ∷ []) (log ++ e ∷ []) → AskedFor (log ++ e ∷ []) id
before_six {log = log} e id apart f h =
    elim (one_more log h) [ inl k ↦ (let was = f k in (was.0, was.1, in_left (e ∷ []) was.2)) | inr k ↦ absurd (apart k) ]

six : {log : List LogEntry} (i : Job) (stored : Stored) → i.stored ≡ stored → PhaseIn stored 6 → (id : ℕ) → id ≡ i.id → IsLogged log i → AskedFor (log ++ Reached i.id 6 ∷ []) id
six i Filling is p id e h = absurd (omega (arith, p.1))
six i Verified is p id e h = cc
six i Refused is p id e h = cc
six i Applied is p id e h =
    let o : InOrder (Took i.id i.index i.meta ∷ Reached i.id 4 ∷ Asked i.id ∷ Reached i.id 6 ∷ []) _ = in_order (asked_in i is h) (here none) in
    (i.index, i.meta, rw e o)

pub asked_before : {first : List Image} {log : List LogEntry} {images : List Image} {job : Option Job} → Trace first log images job → (id : ℕ) → InOrder (Reached id 6 ∷ []) log → AskedFor log id
asked_before begun id h = elim h [ ]
asked_before (taken j active e free at newer t) id h = before_six (Took j.id j.index j.meta) id (λ k. cc) (asked_before t id) h
asked_before (filled parameters held t) id h = asked_before t id h
asked_before (told {log = log} {i = i} n p t) id h =
    elim (one_more log h) [
      | inl k ↦ (let was = asked_before t id k in (was.0, was.1, in_left (Reached i.id n ∷ []) was.2))
      | inr k ↦ (let ids : id ≡ i.id = cc in let phases : n ≡ 6 = cc in
          subst (λ x. AskedFor (log ++ Reached i.id x ∷ []) id) (sym phases) (six i i.stored refl (subst (PhaseIn i.stored) phases p) id ids (job_logged t)))
    ]
asked_before (verified {i = i} e t) id h = before_six (Reached i.id 4) id (λ k. cc) (asked_before t id) h
asked_before (refused e t) id h = asked_before t id h
asked_before (asked {i = i} e t) id h = before_six (Asked i.id) id (λ k. cc) (asked_before t id) h
asked_before (canceled {i = i} m t) id h = before_six (Canceled i.id) id (λ k. cc) (asked_before t id) h
asked_before (activated {i = i} image same e t) id h = before_six (Active i.index i.meta) id (λ k. cc) (asked_before t id) h
