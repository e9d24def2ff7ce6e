-- What is looked at of the job of an upload.
use Rattle.std.proofs.Common.{◌≡◌, ◌∙◌, ℕ, ◌+◌, Bool, true, false, Option, Some, None, List, [], ◌∷◌, length, cond, refl, sym, ap, arith}
use Rattle.std.proofs.lemmas.List.{length-map}
use Rattle.std.proofs.lemmas.List.Sums.{sum_by-cons}
use Rattle.std.specs.Prelude.{not, is_some, is_none}
use Rattle.std.specs.List.{count_by}
use Rattle.std.specs.Option.{option_map}
use Rattle.mu_model_node.specs.declared.Parameters.{Parameters}
use Rattle.mu_model_node.specs.Slots.{Slots, missing, held_count}
use Rattle.mu_model_distributor.specs.DistState.{UploadJob}
use Rattle.mu_model_distributor.specs.Uploads.{percent, transfer_progress}
use Rattle.mu_model_represents.specs.BlobPart.{BlobJob as PartJob}
use Rattle.mu_model_represents_distributor.specs.RepresentsDistributor.{part_of_upload}
use Rattle.mu_note.specs.declared.blob.BlobJob.{BlobJob}
use Rattle.mu_note.specs.Views.{part_job}
use Rattle.mu_distributor_rows.specs.Looks.{job_look}
use Rattle.mu_kept.specs.declared.store.Expect.{Expect}
use Rattle.mu_kept.specs.Views.{expect_of, are_there, has_parameters}
use Rattle.mu_distributor_server.specs.Shows.{blocks_of}

lacked : (b : Bool) (set : List Bool) → count_by not (b ∷ set) ≡ cond (not b) 1 0 + count_by not set
lacked b set = sum_by-cons (λ (x : Bool). cond (not x) 1 0) b set

there : (x : Option (List ℕ)) (slots : Slots) → held_count (x ∷ slots) ≡ cond (is_some x) 1 0 + held_count slots
there x slots = sum_by-cons (λ (y : Option (List ℕ)). cond (is_some y) 1 0) x slots

others_held : (slots : Slots) → count_by not (missing slots) ≡ held_count slots
others_held [] = refl
others_held (None ∷ slots) = omega (arith, lacked true (missing slots), there None slots, others_held slots)
others_held (Some octets ∷ slots) = omega (arith, lacked false (missing slots), there (Some octets) slots, others_held slots)

pub none_percent : (set : List Bool) → length set ≡ 0 → 0 ≡ percent (count_by not set) (length set)
none_percent [] e = refl
none_percent (x ∷ set) e = absurd (omega (arith, e))

-- progress of the job's blocks
pub percent_held : (slots : Slots) → percent (count_by not (missing slots)) (length (missing slots)) ≡ percent (held_count slots) (length slots)
percent_held slots = ap (λ (n : ℕ). percent n (length (missing slots))) (others_held slots) ∙ ap (percent (held_count slots)) (length-map slots is_none)

no_upload : (j : Option BlobJob) (e : Expect) → option_map expect_of j ≡ Some e → None ≡ option_map part_job j → ⊥
no_upload None e is part = cc is
no_upload (Some b) e is part = cc part

abbrev id_of : UploadJob → Option PartJob → PartJob
id_of u None = record { id = 0; size = 0; base = 0; bank = 0; parameters = None }
id_of u (Some b) = b

there_is : (q : Option Parameters) → are_there q ≡ true → is_some q ≡ true
there_is None e = e
there_is (Some p) e = refl

progress_of : (u : UploadJob) → is_some u.transfer.parameters ≡ true → transfer_progress u.transfer ≡ percent (held_count u.transfer.held) (length u.transfer.held)
progress_of u e = rw e refl

abbrev part_of : UploadJob → PartJob
part_of u = record { id = u.transfer.id; size = u.transfer.size; base = u.transfer.base; bank = u.bank; parameters = u.transfer.parameters }

abbrev expect_in : Expect → Option Expect → Expect
expect_in e None = e
expect_in e (Some x) = x

-- what is looked at of a job with parameters
pub looked : (upload : Option UploadJob) (j : Option BlobJob) (e : Expect) (n : ℕ) → option_map expect_of j ≡ Some e → part_of_upload upload ≡ option_map part_job j → has_parameters j ≡ true
    → n ≡ percent (held_count (blocks_of upload)) (length (blocks_of upload))
    → option_map job_look upload ≡ Some (record { id = e.id; size = e.size; base = e.base; bank = e.bank; has_parameters = true; progress = n })
looked None j e n is part has progress = absurd (no_upload j e is part)
looked (Some u) None e n is part has progress = absurd (cc is)
looked (Some u) (Some b) e n is part has progress =
    let same : part_of u ≡ part_job b = ap (id_of u) part in
    let expects : expect_of b ≡ e = ap (expect_in (expect_of b)) is in
    let some : is_some u.transfer.parameters ≡ true = ap (λ (p : PartJob). is_some p.parameters) same ∙ there_is b.parameters has in
    let id : u.transfer.id ≡ e.id = ap (λ (p : PartJob). p.id) same ∙ ap (λ (x : Expect). x.id) expects in
    let size : u.transfer.size ≡ e.size = ap (λ (p : PartJob). p.size) same ∙ ap (λ (x : Expect). x.size) expects in
    let base : u.transfer.base ≡ e.base = ap (λ (p : PartJob). p.base) same ∙ ap (λ (x : Expect). x.base) expects in
    let bank : u.bank ≡ e.bank = ap (λ (p : PartJob). p.bank) same ∙ ap (λ (x : Expect). x.bank) expects in
    let shown : transfer_progress u.transfer ≡ n = progress_of u some ∙ sym progress in
    λ i. Some (record { id = id i; size = size i; base = base i; bank = bank i; has_parameters = some i; progress = shown i })
