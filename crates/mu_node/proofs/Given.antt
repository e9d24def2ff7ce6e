-- An update that goes, or comes in place of another one: the bank that was being filled is given up.
use Rattle.std.proofs.Common.{◌≡◌, ◌∙◌, ◌<◌, ◌≤◌, ◌⊎◌, inl, inr, ℕ, List, Bool, true, false, Option, Some, None, refl, sym, ap, subst, arith}
use Rattle.std.specs.Prelude.{IfSome}
use Rattle.std.specs.List.{AllByRecursion}
use Rattle.std.specs.Option.{option_map}
use Rattle.std.proofs.lemmas.List.{get_or_past}
use Rattle.mu_model_record.specs.declared.Record.{Record}
use Rattle.mu_model_record.specs.declared.BankState.{BankState}
use Rattle.mu_model_record.specs.declared.BankState.TheVariants.{Empty, Filling, Sealed}
use Rattle.mu_model_record.specs.Record.{IsRecord, IsFilling, entry_of}
use Rattle.mu_model_record.specs.Store.{StoreState}
use Rattle.mu_model_node.specs.declared.Parameters.{Parameters}
use Rattle.mu_model_represents.specs.BlobPart.{NoneFilling, BankGoesWith, HasBlobRules}
use Rattle.mu_model_represents.specs.Images.{IsSealed, is_among}
use Rattle.mu_model_represents.specs.NodeNote.{NoteJob}
use Rattle.mu_model_represents.specs.RepresentsNode.{HasNodeJob}
use Rattle.mu_model_written_node.specs.Free.{IsFreeBank, FillsBank}
use Rattle.mu_model_written_node.specs.Written.{given_up as given_up_by}
use Rattle.mu_note.specs.declared.blob.BlobJob.{BlobJob}
use Rattle.mu_note.specs.Views.{part_job}
use Rattle.mu_place.specs.declared.place.FillingBank.{FillingBank}
use Rattle.mu_place.specs.declared.place.Place.{Place}
use Rattle.mu_place.specs.Place.{place_record}
use Rattle.mu_kept.specs.Calls.{given_up, bank_for, bank_begun}
use Rattle.mu_kept.specs.Views.{is_filling, fills_by}
use Rattle.mu_node.proofs.Recorded.{filling_apart}

-- ---- its number alone

abbrev pub number_of : Option FillingBank → Option ℕ
number_of None = None
number_of (Some f) = Some f.bank

pub given_up_is : (filling : Option FillingBank) (s : StoreState) (tag : List ℕ) → given_up filling s tag ≡ given_up_by (number_of filling) s tag
given_up_is None s tag = refl
given_up_is (Some f) s tag = refl

-- ---- it is the free one

below : (b n : ℕ) → (b < n) ⊎ (n ≤ b)
below b n = grind arith

past_is_empty : (r : Record) (b : ℕ) → IsRecord r → r.number ≤ b → entry_of r b ≡ Empty
past_is_empty r b is past = elim (below b 4) [
  | inl under ↦ is.not_there b past under
  | inr over ↦ get_or_past r.banks b Empty (omega (arith, is.four, over))
]

filling_there : (r : Record) (b : ℕ) → IsRecord r → IsFilling (entry_of r b) → b < r.number
filling_there r b is filling = elim (below b r.number) [
  | inl under ↦ under
  | inr past ↦ absurd (subst IsFilling (past_is_empty r b is past) filling)
]

filling_is : (entry : BankState) → IsFilling entry → is_filling entry ≡ true
filling_is Empty h = absurd h
filling_is (Filling size log) h = refl
filling_is (Sealed meta) h = absurd h

-- whether the job's bank is being filled, by the record
abbrev pub fills_with : Record → Option BlobJob → Bool
fills_with r None = false
fills_with r (Some j) = is_filling (entry_of r j.bank)

pub same_fills : {F : Type 0} {g : _} (place : Place F g) (job : Option BlobJob) → fills_by place job ≡ fills_with (place_record place) job
same_fills place None = refl
same_fills place (Some j) = refl

-- a job goes with its bank by its parameters
by_parameters : (r : Record) (bank b : ℕ) (j : BlobJob) (q : Option Parameters) → j.parameters ≡ q → BankGoesWith r j.bank q → IsFilling (entry_of r b) → b ≡ bank → j.bank ≡ bank
    → (is_filling (entry_of r j.bank) ≡ true → None ≡ bank_for (Some j)) → ⊥
by_parameters r bank b j None e goes filling here there fills = goes b filling
by_parameters r bank b j (Some p) e goes filling here there fills =
    let at : IsFilling (entry_of r j.bank) = subst (λ (k : ℕ). IsFilling (entry_of r k)) (here ∙ sym there) filling in
    let none : None ≡ bank_begun j (Some p) = fills (filling_is (entry_of r j.bank) at) ∙ ap (bank_begun j) e in
    absurd cc

job_apart : (r : Record) (active : List ℕ) (j : BlobJob) (n : Option NoteJob) → HasNodeJob r active (Some (part_job j)) n → is_among active j.bank ≡ false
job_apart r active j None has = absurd has
job_apart r active j (Some n) has = has.bank

none_by : (r : Record) (active : List ℕ) (bank : ℕ) (job : Option BlobJob) (n : Option NoteJob) → IsRecord r → IsFreeBank r active bank → AllByRecursion (λ (b : ℕ). IsSealed (entry_of r b)) active
    → HasBlobRules r (option_map part_job job) → HasNodeJob r active (option_map part_job job) n → (fills_with r job ≡ true → None ≡ bank_for job) → NoneFilling r
none_by r active bank None n is free all rules has fills b filling = rules b filling
none_by r active bank (Some j) n is free all rules has fills b filling =
    by_parameters r bank b j j.parameters refl rules.goes_with filling (free.alone b (filling_there r b is filling) (filling_apart active r b all filling))
    (free.alone j.bank rules.bank (job_apart r active j n has)) fills

pub fills_bank : (r : Record) (active : List ℕ) (bank : ℕ) (job : Option BlobJob) (n : Option NoteJob) (filling : Option FillingBank) → IsRecord r → IsFreeBank r active bank → AllByRecursion (λ (b : ℕ). IsSealed (entry_of r b)) active
    → HasBlobRules r (option_map part_job job) → HasNodeJob r active (option_map part_job job) n → IfSome filling (λ f. f.bank < r.number) → IfSome filling (λ f. entry_of r f.bank ≡ Filling f.size f.log)
    → (fills_with r job ≡ true → filling ≡ bank_for job) → FillsBank (number_of filling) r bank
fills_bank r active bank job n None is free all rules has there entry fills = none_by r active bank job n is free all rules has fills
fills_bank r active bank job n (Some f) is free all rules has there entry fills =
    let filling : IsFilling (entry_of r f.bank) = subst IsFilling (sym entry) tt in
    (free.alone f.bank there (filling_apart active r f.bank all filling), filling)
