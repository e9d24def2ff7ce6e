use Rattle.std.proofs.Common.{◌≡◌, ◌∙◌, ℕ, List, Option, Some, None, Bool, refl, sym, ap, subst}
use Rattle.std.specs.Prelude.{IsSome, slice_set}
use Rattle.std.specs.Option.{option_map}
use Rattle.mu_model_record.specs.declared.Record.{Record}
use Rattle.mu_model_record.specs.declared.BankState.TheVariants.{Empty}
use Rattle.mu_model_record.specs.Record.{capacity_of}
use Rattle.mu_model_record.specs.Store.{StoreState}
use Rattle.mu_model_record.specs.Next.{record_steps}
use Rattle.mu_model_record.specs.Changes.{next_record, emptied}
use Rattle.mu_model_node.specs.declared.Parameters.{Parameters}
use Rattle.mu_model_represents.specs.BlobPart.{note_part, blob_part, NoneFilling, IsBlobPart, IsBlobRecord}
use Rattle.mu_blob_rows.specs.declared.table.TransferChange.TheVariants.{Drop}
use Rattle.mu_blob_rows.specs.Rows.{ChangeFits}
use Rattle.mu_note.specs.declared.blob.BlobJob.{BlobJob}
use Rattle.mu_note.specs.Views.{part_job}
use Rattle.mu_place.specs.Place.{place_fault, place_record, place_fresh, place_filling, place_bank, place_held}
use Rattle.mu_place.specs.Calls.{PlaceGoes}
use Rattle.mu_kept.specs.declared.store.JobStore.{JobStore}
use Rattle.mu_kept.specs.Views.{bank_of, with_parameters, flags_of, serving_in}
use Rattle.mu_kept.specs.Tags.{tag_with}
use Rattle.mu_kept.specs.Calls.{note_in}
use Rattle.mu_kept.proofs.Asking.{Lacks, dropped_fits}
use Rattle.mu_kept.proofs.Fitting.{Knows}
use Rattle.mu_kept.proofs.Knowing.{fills_known, lacks_known}
use Rattle.mu_kept.proofs.Changing.{begun_lacks, drops}
use Rattle.mu_kept.proofs.Writing.{none_of, if_ok, if_done, done, is_kept, rules_of, same_job, job_of, bank_is, begun_for, filling_is}
use Rattle.mu_kept.proofs.store.JobStore.drop_transfer.Goals as goal

module _ {F : Type 0} {g : _} (store : JobStore F g)
    (fits : place_fault store.place ≡ None → (p : Parameters) → ChangeFits (serving_in store) (capacity_of (place_record store.place)) p Drop) (none : place_fault store.place ≡ None) where
  was : Lacks store.job (flags_of store.place store.job)
  was = dropped_fits store.job (flags_of store.place store.job) (capacity_of (place_record store.place)) (fits none)

  there : ((x : BlobJob) → store.job ≡ Some x → ⊥) → ⊥
  there never = never was.j was.is

  module _ (j : BlobJob) (is : store.job ≡ Some j) where
    blob : IsBlobRecord (place_record store.place) (Some (part_job j))
    blob = job_of (place_record store.place) store.job j is (store.fits none)

    has : j.parameters ≡ Some was.p
    has = subst (λ (k : BlobJob). k.parameters ≡ Some was.p) (same_job store.job was.j j was.is is) was.has

    filled : Knows (place_record store.place) (place_filling store.place) (place_held store.place) → place_filling store.place ≡ Some (record { bank = j.bank; size = was.p.size; log = was.p.log })
    filled k = begun_for store.job j was.p (place_filling store.place) is has (fills_known store.place k store.job (store.fits none) (lacks_known store.place k store.job (store.fits none) was))

    abbrev next : BlobJob
    next = with_parameters None j

    job_is : Some next ≡ option_map (with_parameters None) store.job
    job_is = ap (option_map (with_parameters None)) (sym is)

    module _ (k : Knows (place_record store.place) (place_filling store.place) (place_held store.place)) (tag : List ℕ) (tag_is : tag ≡ tag_with (Some next) (note_in store)) where
      bank : place_bank store.place ≡ bank_of store.job
      bank = bank_is store.place _ (filled k) ∙ ap bank_of (sym is)

      tag_of : tag ≡ tag_with (option_map (with_parameters None) store.job) (note_in store)
      tag_of = tag_is ∙ ap (λ o. tag_with o (note_in store)) job_is

      record_is : next_record (place_record store.place) (slice_set (place_record store.place).banks (place_bank store.place) Empty) tag
          ≡ next_record (place_record store.place) (slice_set (place_record store.place).banks (bank_of store.job) Empty) (tag_with (option_map (with_parameters None) store.job) (note_in store))
      record_is = λ i. next_record (place_record store.place) (slice_set (place_record store.place).banks (bank i) Empty) (tag_of i)

      state_is : (s : StoreState) → emptied s (place_bank store.place) tag ≡ emptied s (bank_of store.job) (tag_with (option_map (with_parameters None) store.job) (note_in store))
      state_is s = λ i. emptied s (bank i) (tag_of i)

      kept_is : (new : Record) → new ≡ next_record (place_record store.place) (slice_set (place_record store.place).banks (place_bank store.place) Empty) tag
          → IsBlobPart (Some (part_job next)) (blob_part tag) → NoneFilling new → IsBlobRecord new (Some (part_job next))
      kept_is new e part rests = is_kept new _ (Some (part_job next)) e part (rules_of (place_record store.place) new _ tag j None e blob.rules rests)

pub unreachable-requires : goal.unreachable-requires
unreachable-requires g c =
    let old : place_fault c.args.self.now.place ≡ None = sym c.fault.ensures ∙ none_of c.fault.result c.in_default.not-Some in
    there c.args.self.now c.requires old c.in_default-job.not-Some

pub give_up-result-requires : goal.give_up-result-requires
give_up-result-requires g c = λ none.
    let k : Knows (place_record c.args.self.now.place) (place_filling c.args.self.now.place) (place_held c.args.self.now.place) =
    record { in_range = c.known.ensures.is_record none; rests = c.known.ensures.rests none; entry = c.known.ensures.entry; as_many = c.known.ensures.as_many } in
    filling_is c.args.self.now.place _ (filled c.args.self.now c.requires none c.in-Some-job.job c.in-Some-job.is k)

pub invariant_of-self : goal.invariant_of-self
invariant_of-self g c =
    let store = c.args.self.now in
    let old : place_fault store.place ≡ None = sym c.fault.ensures ∙ none_of c.fault.result c.in_default.not-Some in
    let k : Knows (place_record store.place) (place_filling store.place) (place_held store.place) =
    record { in_range = c.known.ensures.is_record old; rests = c.known.ensures.rests old; entry = c.known.ensures.entry; as_many = c.known.ensures.as_many } in
    record {
      fits = λ none.
          kept_is store c.requires old c.in-Some-job.job c.in-Some-job.is k c.next_tag-tag.result c.next_tag-tag.ensures.tag (place_record c.give_up-result.new.self)
          (done c.give_up-result.result c.give_up-result.new.self c.give_up-result.ensures.answers none c.give_up-result.ensures.fields).2 c.next_tag-tag.ensures.part
          (c.known-2.ensures.rests none (done c.give_up-result.result c.give_up-result.new.self c.give_up-result.ensures.answers none c.give_up-result.ensures.filling).2);
    }

pub returns-clause-job : goal.returns-clause-job
returns-clause-job g c =
    let old : place_fault c.args.self.now.place ≡ None = sym c.fault.ensures ∙ none_of c.fault.result c.in_default.not-Some in
    if_done c.give_up-result.result (job_is c.args.self.now c.requires old c.in-Some-job.job c.in-Some-job.is)

pub returns-clause-note : goal.returns-clause-note
returns-clause-note g c = if_ok c.give_up-result.result c.give_up-result.ensures.fields (λ _ e. ap (λ (r : Record). note_part r.tag) e ∙ c.next_tag-tag.ensures.note)

pub returns-clause-changed : goal.returns-clause-changed
returns-clause-changed g c = λ held shows.
    let store = c.args.self.now in
    let old : place_fault store.place ≡ None = sym c.fault.ensures ∙ none_of c.fault.result c.in_default.not-Some in
    let is = was store c.requires old in
    if_ok c.give_up-result.result c.give_up-result.ensures.fields
    (λ _ e. drops store _ c.in-Some-job.job held
    (begun_lacks store.job (flags_of store.place store.job) c.in-Some-job.job is.p c.in-Some-job.is (has store c.requires old c.in-Some-job.job c.in-Some-job.is) is.lacks)
    (ap capacity_of e) refl refl)

pub returns-clause-fields : goal.returns-clause-fields
returns-clause-fields g c =
    let store = c.args.self.now in
    let old : place_fault store.place ≡ None = sym c.fault.ensures ∙ none_of c.fault.result c.in_default.not-Some in
    let k : Knows (place_record store.place) (place_filling store.place) (place_held store.place) =
    record { in_range = c.known.ensures.is_record old; rests = c.known.ensures.rests old; entry = c.known.ensures.entry; as_many = c.known.ensures.as_many } in
    if_ok c.give_up-result.result c.give_up-result.ensures.fields
    (λ _ e. e ∙ record_is store c.requires old c.in-Some-job.job c.in-Some-job.is k c.next_tag-tag.result c.next_tag-tag.ensures.tag)

pub returns-clause-runs : goal.returns-clause-runs
returns-clause-runs g c = λ s holds.
    let store = c.args.self.now in
    let old : place_fault store.place ≡ None = sym c.fault.ensures ∙ none_of c.fault.result c.in_default.not-Some in
    let k : Knows (place_record store.place) (place_filling store.place) (place_held store.place) =
    record { in_range = c.known.ensures.is_record old; rests = c.known.ensures.rests old; entry = c.known.ensures.entry; as_many = c.known.ensures.as_many } in
    subst (λ (e : StoreState). PlaceGoes g.F.Flash.seen s (record_steps (place_fresh store.place) s e) store.place c.give_up-result.new.self c.give_up-result.result)
    (state_is store c.requires old c.in-Some-job.job c.in-Some-job.is k c.next_tag-tag.result c.next_tag-tag.ensures.tag s)
    (c.give_up-result.ensures.runs s holds)
