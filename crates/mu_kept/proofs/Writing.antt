-- A record that is written, with the job that its tag says.
use Rattle.std.proofs.Common.{◌≡◌, ◌∙◌, ℕ, ◌<◌, ◌≤◌, Bool, true, false, Option, Some, None, List, [], length, set, refl, sym, ap, subst, arith}
use Rattle.std.proofs.lemmas.Grind.{get_or-set_at}
use Rattle.std.specs.Prelude.{IfSome, IfOk, Result, Ok, Err, MatchResult, IsSome, slice_set}
use Rattle.std.specs.Option.{option_map}
use Rattle.mu_model_record.specs.declared.Record.{Record}
use Rattle.mu_model_record.specs.declared.BankState.{BankState}
use Rattle.mu_model_record.specs.declared.BankState.TheVariants.{Empty, Filling, Sealed}
use Rattle.mu_model_record.specs.Record.{IsRecord, entry_of}
use Rattle.mu_model_record.specs.Changes.{next_record}
use Rattle.mu_model_node.specs.declared.Parameters.{Parameters}
use Rattle.mu_model_represents.specs.BlobPart.{BlobJob as PartJob, note_part, blob_part, BankGoesWith, IsJobOf, HasBlobRules, IsBlobRecord, HasParameters, IsBlobPart, TakesBy, NoneFilling}
use Rattle.mu_store.specs.declared.faults.StoreFault.{StoreFault}
use Rattle.mu_note.specs.declared.blob.BlobJob.{BlobJob}
use Rattle.mu_note.specs.Views.{part_job}
use Rattle.mu_place.specs.declared.place.FillingBank.{FillingBank}
use Rattle.mu_place.specs.declared.place.Place.{Place}
use Rattle.mu_place.specs.declared.place.Place.TheVariants.{Rest, Fill, Halted}
use Rattle.mu_place.specs.Place.{place_fault, place_record, place_filling, place_bank}
use Rattle.mu_place.specs.Calls.{Answers}
use Rattle.mu_kept.specs.Views.{with_parameters}
use Rattle.mu_kept.specs.Calls.{bank_begun, bank_for}
use Rattle.mu_kept.specs.Tags.{IsSpelled, CanSpell}

-- ---- results

pub none_of : {E : Type 0} (o : Option E) → ((x : E) → o ≡ Some x → ⊥) → o ≡ None
none_of None never = refl
none_of (Some x) never = absurd (never x refl)

pub if_ok : {T : Type 0} {P Q : T → Type 0} (result : Result T StoreFault) → IfOk result P → ((t : T) → P t → Q t) → IfOk result Q
if_ok (Ok t) h f = f t h
if_ok (Err why) h f = tt

pub if_both : {T : Type 0} {P Q R : T → Type 0} (result : Result T StoreFault) → IfOk result P → IfOk result Q → ((t : T) → P t → Q t → R t) → IfOk result R
if_both (Ok t) h k f = f t h k
if_both (Err why) h k f = tt

pub if_three : {T : Type 0} {P Q R S : T → Type 0} (result : Result T StoreFault) → IfOk result P → IfOk result Q → IfOk result R → ((t : T) → P t → Q t → R t → S t) → IfOk result S
if_three (Ok t) h k l f = f t h k l
if_three (Err why) h k l f = tt

pub if_done : {T : Type 0} {P : Type 0} (result : Result T StoreFault) → P → IfOk result (λ _. P)
if_done (Ok t) p = p
if_done (Err why) p = tt

-- where no fault is kept after a call, it was done
pub done : {F T : Type 0} {g : _} {P : T → Type 0} (result : Result T StoreFault) (new : Place F g) → Answers new result → place_fault new ≡ None → IfOk result P → (t : T) × (result ≡ Ok t) × P t
done (Ok t) new answers none h = (t, refl, h)
done (Err why) new answers none h = absurd (cc (answers, none))

-- ---- the tag

spelled_by : (size : ℕ) (q : Option Parameters) (octets : List ℕ) → HasParameters size q octets → IfSome q (IsSpelled size)
spelled_by size None octets has = tt
spelled_by size (Some p) octets has = record { mode_least = has.mode_least; mode_most = has.mode_most; mtu_least = has.mtu_least; same_size = has.same_size }

pub spelled : (r : Record) (job : Option BlobJob) → IsBlobRecord r (option_map part_job job) → CanSpell job
spelled r None blob = tt
spelled r (Some j) blob = spelled_by j.size j.parameters (blob_part r.tag) blob.octets.parameters

-- ---- the rules

goes_same : (r : Record) (tag : List ℕ) (bank : ℕ) (q : Option Parameters) → BankGoesWith r bank q → BankGoesWith (next_record r r.banks tag) bank q
goes_same r tag bank None h = h
goes_same r tag bank (Some p) h = h

pub rules_stay : (r : Record) (tag : List ℕ) (job : Option BlobJob) → HasBlobRules r (option_map part_job job) → HasBlobRules (next_record r r.banks tag) (option_map part_job job)
rules_stay r tag None h = h
rules_stay r tag (Some j) h = record { size_least = h.size_least; size_most = h.size_most; bank = h.bank; goes_with = goes_same r tag j.bank j.parameters h.goes_with }

pub rules_kept : (r next : Record) (tag : List ℕ) (job : Option BlobJob) → next ≡ next_record r r.banks tag → HasBlobRules r (option_map part_job job) → HasBlobRules next (option_map part_job job)
rules_kept r next tag job e rules = subst (λ (n : Record). HasBlobRules n (option_map part_job job)) (sym e) (rules_stay r tag job rules)

-- other parameters, which the bank goes with
pub rules_after : (r : Record) (banks : List BankState) (tag : List ℕ) (j : BlobJob) (q : Option Parameters) → IsJobOf r (part_job j)
    → BankGoesWith (next_record r banks tag) j.bank q → IsJobOf (next_record r banks tag) (part_job (with_parameters q j))
rules_after r banks tag j q h goes = record { size_least = h.size_least; size_most = h.size_most; bank = h.bank; goes_with = goes }

-- a record that was written for this job
pub is_kept : (r next : Record) (part : Option PartJob) → r ≡ next → IsBlobPart part (blob_part next.tag) → HasBlobRules r part → IsBlobRecord r part
is_kept r next part e octets rules = record { octets = subst (λ (q : Record). IsBlobPart part (blob_part q.tag)) (sym e) octets; rules = rules }

pub rules_of : (r next : Record) (banks : List BankState) (tag : List ℕ) (j : BlobJob) (q : Option Parameters) → next ≡ next_record r banks tag → IsJobOf r (part_job j)
    → BankGoesWith next j.bank q → IsJobOf next (part_job (with_parameters q j))
rules_of r next banks tag j q e is goes =
    subst (λ (n : Record). BankGoesWith n j.bank q → IsJobOf n (part_job (with_parameters q j))) (sym e) (rules_after r banks tag j q is) goes

-- a bank that was given another entry has it
pub entry_given : (r next : Record) (bank : ℕ) (entry : BankState) (tag : List ℕ) → IsRecord r → bank < r.number → next ≡ next_record r (slice_set r.banks bank entry) tag
    → entry_of next bank ≡ entry
entry_given r next bank entry tag is there e =
    ap (λ (n : Record). entry_of n bank) e ∙ get_or-set_at r.banks bank bank entry Empty refl (omega (arith, is.four, is.number_most))

-- ---- the job that is kept

pub same_job : (job : Option BlobJob) (a b : BlobJob) → job ≡ Some a → job ≡ Some b → a ≡ b
same_job job a b e h = cc (e, h)

pub job_of : (r : Record) (job : Option BlobJob) (j : BlobJob) → job ≡ Some j → IsBlobRecord r (option_map part_job job) → IsBlobRecord r (Some (part_job j))
job_of r job j e blob = subst (λ (o : Option BlobJob). IsBlobRecord r (option_map part_job o)) e blob

-- ---- the bank that was being filled

pub bank_is : {F : Type 0} {g : _} (place : Place F g) (f : FillingBank) → place_filling place ≡ Some f → place_bank place ≡ f.bank
bank_is (Rest store) f e = absurd (cc e)
bank_is (Fill filling) f e = bank_same _ f e
  where
    bank_same : (a b : FillingBank) → Some a ≡ Some b → a.bank ≡ b.bank
    bank_same a b same = cc same
bank_is (Halted stopped) f e = absurd (cc e)

-- the bank of a job whose parameters are these
pub begun_for : (job : Option BlobJob) (j : BlobJob) (p : Parameters) (filling : Option FillingBank) → job ≡ Some j → j.parameters ≡ Some p → filling ≡ bank_for job
    → filling ≡ Some (record { bank = j.bank; size = p.size; log = p.log })
begun_for job j p filling is has e = e ∙ ap bank_for is ∙ ap (bank_begun j) has

pub filling_is : {F : Type 0} {g : _} (place : Place F g) (f : FillingBank) → place_filling place ≡ Some f → IsSome (place_filling place)
filling_is place f e = cc e
