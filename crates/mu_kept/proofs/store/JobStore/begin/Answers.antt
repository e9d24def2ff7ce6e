use Rattle.std.proofs.Common.{◌≡◌, ◌∙◌, ℕ, List, ◌∷◌, Option, Some, None, Bool, refl, sym, ap, subst}
use Rattle.std.specs.Prelude.{slice_set}
use Rattle.std.specs.Option.{option_map}
use Rattle.mu_model_record.specs.declared.Record.{Record}
use Rattle.mu_model_record.specs.declared.BankState.{BankState}
use Rattle.mu_model_record.specs.declared.BankState.TheVariants.{Filling}
use Rattle.mu_model_record.specs.Record.{IsRecord, capacity_of}
use Rattle.mu_model_record.specs.Store.{StoreState}
use Rattle.mu_model_record.specs.Next.{record_steps}
use Rattle.mu_model_record.specs.Changes.{next_record, begun, filling_entry}
use Rattle.mu_model_node.specs.declared.Parameters.{Parameters}
use Rattle.mu_model_represents.specs.BlobPart.{note_part, blob_part, IsBlobPart, IsBlobRecord, TakesBy}
use Rattle.mu_blob_rows.specs.declared.table.TransferChange.TheVariants.{Begin}
use Rattle.mu_blob_rows.specs.Rows.{ChangeFits}
use Rattle.mu_note.specs.declared.blob.BlobJob.{BlobJob}
use Rattle.mu_note.specs.Views.{part_job}
use Rattle.mu_place.specs.Place.{place_fault, place_record, place_fresh, place_filling, place_held}
use Rattle.mu_place.specs.Calls.{PlaceGoes}
use Rattle.mu_kept.specs.declared.store.JobStore.{JobStore}
use Rattle.mu_kept.specs.Views.{bank_of, with_parameters, has_parameters, are_there, flags_of, serving_in}
use Rattle.mu_kept.specs.Tags.{tag_with}
use Rattle.mu_kept.specs.Calls.{note_in}
use Rattle.mu_kept.proofs.Asking.{Begun, begun_fits}
use Rattle.mu_kept.proofs.Fitting.{Knows}
use Rattle.mu_kept.proofs.Knowing.{rests_known}
use Rattle.mu_kept.proofs.Changing.{new_lacks, begins, flags_begun}
use Rattle.mu_kept.proofs.Writing.{none_of, if_ok, if_three, if_done, done, is_kept, rules_of, entry_given, same_job, job_of}
use Rattle.mu_kept.proofs.store.JobStore.begin.Goals as goal

-- what is asked for, of the job that there is
module _ {F : Type 0} {g : _} (store : JobStore F g) (j : BlobJob) (is : store.job ≡ Some j) (p : Parameters)
    (fits : place_fault store.place ≡ None → ChangeFits (serving_in store) (capacity_of (place_record store.place)) p Begin) (none : place_fault store.place ≡ None) where
  was : Begun j (capacity_of (place_record store.place)) p
  was = begun_fits store.job j (flags_of store.place store.job) (capacity_of (place_record store.place)) p is (fits none)

  blob : IsBlobRecord (place_record store.place) (Some (part_job j))
  blob = job_of (place_record store.place) store.job j is (store.fits none)

  rests : Knows (place_record store.place) (place_filling store.place) (place_held store.place) → place_filling store.place ≡ None
  rests k = rests_known store.place k store.job (store.fits none) (ap has_parameters is ∙ ap are_there was.new)

  abbrev next : BlobJob
  next = with_parameters (Some p) j

  job_is : Some next ≡ option_map (with_parameters (Some p)) store.job
  job_is = ap (option_map (with_parameters (Some p))) (sym is)

  module _ (tag : List ℕ) (tag_is : tag ≡ tag_with (Some next) (note_in store)) where
    record_is : next_record (place_record store.place) (slice_set (place_record store.place).banks j.bank (filling_entry p.size p.log)) tag
        ≡ next_record (place_record store.place) (slice_set (place_record store.place).banks (bank_of store.job) (filling_entry p.size p.log)) (tag_with (option_map (with_parameters (Some p)) store.job) (note_in store))
    record_is = λ i. next_record (place_record store.place) (slice_set (place_record store.place).banks (bank_of (sym is i)) (filling_entry p.size p.log)) ((tag_is ∙ ap (λ o. tag_with o (note_in store)) job_is) i)

    state_is : (s : StoreState) → begun s j.bank p.size p.log tag ≡ begun s (bank_of store.job) p.size p.log (tag_with (option_map (with_parameters (Some p)) store.job) (note_in store))
    state_is s = λ i. begun s (bank_of (sym is i)) p.size p.log ((tag_is ∙ ap (λ o. tag_with o (note_in store)) job_is) i)

    kept_is : (new : Record) → IsRecord (place_record store.place) → new ≡ next_record (place_record store.place) (slice_set (place_record store.place).banks j.bank (filling_entry p.size p.log)) tag
        → IsBlobPart (Some (part_job next)) (blob_part tag) → IsBlobRecord new (Some (part_job next))
    kept_is new is_record e part =
        is_kept new _ (Some (part_job next)) e part
        (rules_of (place_record store.place) new _ tag j (Some p) e blob.rules
        (subst (λ (entry : BankState). TakesBy p entry) (sym (entry_given (place_record store.place) new j.bank (Filling p.size p.log) tag is_record blob.rules.bank e)) (refl, refl)))

pub next_tag-tag-requires : goal.next_tag-tag-requires
next_tag-tag-requires g c =
    let none : place_fault c.args.self.now.place ≡ None = sym c.fault.ensures ∙ none_of c.fault.result c.in_default.not-Some in
    let is = was c.args.self.now c.in-Some-job.job c.in-Some-job.is c.args.parameters c.requires.fits none in
    record { fault = none; spelled = record { mode_least = c.requires.mode_least; mode_most = c.requires.mode_most; mtu_least = c.requires.mtu_least; same_size = is.same_size } }

pub begin-result-requires-clause-rests : goal.begin-result-requires-clause-rests
begin-result-requires-clause-rests g c =
    let none : place_fault c.args.self.now.place ≡ None = sym c.fault.ensures ∙ none_of c.fault.result c.in_default.not-Some in
    rests c.args.self.now c.in-Some-job.job c.in-Some-job.is c.args.parameters c.requires.fits none
    (record { in_range = c.known.ensures.is_record none; rests = c.known.ensures.rests none; entry = c.known.ensures.entry; as_many = c.known.ensures.as_many })

pub begin-result-requires-clause-log_least : goal.begin-result-requires-clause-log_least
begin-result-requires-clause-log_least g c =
    let none : place_fault c.args.self.now.place ≡ None = sym c.fault.ensures ∙ none_of c.fault.result c.in_default.not-Some in
    (was c.args.self.now c.in-Some-job.job c.in-Some-job.is c.args.parameters c.requires.fits none).log_least

pub begin-result-requires-clause-log_most : goal.begin-result-requires-clause-log_most
begin-result-requires-clause-log_most g c =
    let none : place_fault c.args.self.now.place ≡ None = sym c.fault.ensures ∙ none_of c.fault.result c.in_default.not-Some in
    (was c.args.self.now c.in-Some-job.job c.in-Some-job.is c.args.parameters c.requires.fits none).log_most

pub invariant_of-self : goal.invariant_of-self
invariant_of-self g c =
    let store = c.args.self.now in
    let old : place_fault store.place ≡ None = sym c.fault.ensures ∙ none_of c.fault.result c.in_default.not-Some in
    record {
      fits = λ none. kept_is store c.in-Some-job.job c.in-Some-job.is c.args.parameters c.requires.fits old c.next_tag-tag.result c.next_tag-tag.ensures.tag
          (place_record c.begin-result.new.self) (c.known.ensures.is_record old)
          (done c.begin-result.result c.begin-result.new.self c.begin-result.ensures.answers none c.begin-result.ensures.fields).2 c.next_tag-tag.ensures.part;
    }

pub returns-clause-job : goal.returns-clause-job
returns-clause-job g c =
    let old : place_fault c.args.self.now.place ≡ None = sym c.fault.ensures ∙ none_of c.fault.result c.in_default.not-Some in
    if_done c.begin-result.result (job_is c.args.self.now c.in-Some-job.job c.in-Some-job.is c.args.parameters c.requires.fits old)

pub returns-clause-note : goal.returns-clause-note
returns-clause-note g c = if_ok c.begin-result.result c.begin-result.ensures.fields (λ _ e. ap (λ (r : Record). note_part r.tag) e ∙ c.next_tag-tag.ensures.note)

pub returns-clause-changed : goal.returns-clause-changed
returns-clause-changed g c = λ held shows.
    let store = c.args.self.now in
    let old : place_fault store.place ≡ None = sym c.fault.ensures ∙ none_of c.fault.result c.in_default.not-Some in
    let is = was store c.in-Some-job.job c.in-Some-job.is c.args.parameters c.requires.fits old in
    if_three c.begin-result.result c.begin-result.ensures.fields c.begin-result.ensures.filling c.begin-result.ensures.held
    (λ _ e f h. begins store _ c.in-Some-job.job held (new_lacks store.job (flags_of store.place store.job) c.in-Some-job.job c.in-Some-job.is is.new)
    (ap capacity_of e) c.args.parameters refl
    (flags_begun c.begin-result.new.self c.in-Some-job.job c.args.parameters (entry_given (place_record store.place) (place_record c.begin-result.new.self) c.in-Some-job.job.bank (Filling c.args.parameters.size c.args.parameters.log) c.next_tag-tag.result (c.known.ensures.is_record old) (blob store c.in-Some-job.job c.in-Some-job.is c.args.parameters c.requires.fits old).rules.bank e) ∙ h))

pub returns-clause-fields : goal.returns-clause-fields
returns-clause-fields g c =
    let old : place_fault c.args.self.now.place ≡ None = sym c.fault.ensures ∙ none_of c.fault.result c.in_default.not-Some in
    if_ok c.begin-result.result c.begin-result.ensures.fields
    (λ _ e. e ∙ record_is c.args.self.now c.in-Some-job.job c.in-Some-job.is c.args.parameters c.requires.fits old c.next_tag-tag.result c.next_tag-tag.ensures.tag)

pub returns-clause-filling : goal.returns-clause-filling
returns-clause-filling g c =
    if_ok c.begin-result.result c.begin-result.ensures.filling
    (λ _ e. e ∙ (λ i. Some (record { bank = bank_of (sym c.in-Some-job.is i); size = c.args.parameters.size; log = c.args.parameters.log })))

pub returns-clause-runs : goal.returns-clause-runs
returns-clause-runs g c = λ s holds.
    let store = c.args.self.now in
    let old : place_fault store.place ≡ None = sym c.fault.ensures ∙ none_of c.fault.result c.in_default.not-Some in
    subst (λ (e : StoreState). PlaceGoes g.F.Flash.seen s (s ∷ record_steps (place_fresh store.place) s e) store.place c.begin-result.new.self c.begin-result.result)
    (state_is store c.in-Some-job.job c.in-Some-job.is c.args.parameters c.requires.fits old c.next_tag-tag.result c.next_tag-tag.ensures.tag s)
    (c.begin-result.ensures.runs s holds)
