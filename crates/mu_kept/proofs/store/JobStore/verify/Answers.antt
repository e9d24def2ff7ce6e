use Rattle.std.proofs.Common.{◌≡◌, ◌∙◌, ℕ, List, Bool, true, false, Option, Some, None, refl, sym, ap, subst}
use Rattle.std.specs.Prelude.{IsTrue, IfOk, Result, Ok}
use Rattle.mu_store.specs.declared.faults.StoreFault.{StoreFault}
use Rattle.std.specs.Option.{option_map}
use Rattle.mu_model_image.specs.Meta.{is_fit}
use Rattle.mu_model_record.specs.Store.{StoreState, content_of_bank}
use Rattle.mu_model_record.specs.Next.{record_steps}
use Rattle.mu_model_record.specs.Changes.{blocks_in, joined, sealed_or_not}
use Rattle.mu_model_represents.specs.BlobPart.{blob_part, IsBlobPart, IsBlobRecord}
use Rattle.mu_note.specs.declared.blob.BlobJob.{BlobJob}
use Rattle.mu_note.specs.Views.{part_job}
use Rattle.mu_place.specs.Place.{place_fault, place_record, place_fresh, place_filling, place_bank, place_held}
use Rattle.mu_place.specs.Calls.{PlaceGoes, closed_record}
use Rattle.mu_kept.specs.Views.{bank_of, flags_of}
use Rattle.mu_kept.specs.Tags.{tag_with}
use Rattle.mu_kept.specs.Calls.{verified, verified_flags}
use Rattle.mu_kept.proofs.Fitting.{Knows}
use Rattle.mu_kept.proofs.Verifying.{verified_kept, was, all_marked, bank, bank_here, blob, size_of, job_size, flags_verified}
use Rattle.mu_kept.proofs.Writing.{none_of, if_ok, if_both, done}
use Rattle.mu_kept.proofs.store.JobStore.verify.Goals as goal

-- what was answered where the call was done
answered : {T : Type 0} (P : T → Type 0) (result : Result T StoreFault) (t : T) → result ≡ Ok t → IfOk result P → P t
answered {T} P result t e h = subst (λ (res : Result T StoreFault). IfOk res P) e h

pub seal-result-requires-clause-all : goal.seal-result-requires-clause-all
seal-result-requires-clause-all g c =
    let store = c.args.self.now in
    let old : place_fault store.place ≡ None = sym c.fault.ensures ∙ none_of c.fault.result c.in_default.not-Some in
    let k : Knows (place_record store.place) (place_filling store.place) (place_held store.place) =
    record { in_range = c.known.ensures.is_record old; rests = c.known.ensures.rests old; entry = c.known.ensures.entry; as_many = c.known.ensures.as_many } in
    all_marked store c.requires old k

pub invariant_of-self : goal.invariant_of-self
invariant_of-self g c =
    let store = c.args.self.now in
    let r = place_record store.place in
    let old : place_fault store.place ≡ None = sym c.fault.ensures ∙ none_of c.fault.result c.in_default.not-Some in
    let k : Knows (place_record store.place) (place_filling store.place) (place_held store.place) =
    record { in_range = c.known.ensures.is_record old; rests = c.known.ensures.rests old; entry = c.known.ensures.entry; as_many = c.known.ensures.as_many } in
    let is = was store c.requires old k in
    let new = c.seal-result.new.self in
    record {
      fits = λ none.
          let d = done c.seal-result.result new c.seal-result.ensures.answers none c.seal-result.ensures.fields in
          let job_is : c.job_after-self.result ≡ verified c.args.keep d.0 (Some is.j) =
          c.job_after-self.ensures ∙ ap (λ (b : Bool). verified c.args.keep b store.job) (answered _ c.seal-result.result d.0 d.1 c.is_fit.ensures) ∙ ap (verified c.args.keep d.0) is.is in
          subst (λ (o : Option BlobJob). IsBlobRecord (place_record new) (option_map part_job o)) (sym job_is)
          (verified_kept r (place_record new) is.j is.p is.has k.in_range (blob store c.requires old k) c.args.meta.now c.tag_with-fit_tag.result c.tag_with-unfit_tag.result c.args.keep d.0
          (d.2 ∙ ap (λ (n : ℕ). closed_record r n c.args.meta.now c.tag_with-fit_tag.result c.tag_with-unfit_tag.result d.0) (bank store c.requires old k))
          (λ t. size_of store c.requires old k c.args.meta.now (answered _ c.seal-result.result d.0 d.1 c.seal-result.ensures.size t))
          (c.known-2.ensures.rests none (answered _ c.seal-result.result d.0 d.1 c.seal-result.ensures.filling))
          (subst (λ (o : Option BlobJob). IsBlobPart (option_map part_job o) (blob_part c.tag_with-fit_tag.result)) (c.job_after-sealed.ensures ∙ ap (verified c.args.keep true) is.is) c.tag_with-fit_tag.ensures.part)
          (subst (λ (o : Option BlobJob). IsBlobPart (option_map part_job o) (blob_part c.tag_with-unfit_tag.result)) (c.job_after-emptied.ensures ∙ ap (verified c.args.keep false) is.is) c.tag_with-unfit_tag.ensures.part));
    }

pub returns-clause-flags : goal.returns-clause-flags
returns-clause-flags g c =
    let store = c.args.self.now in
    let r = place_record store.place in
    let old : place_fault store.place ≡ None = sym c.fault.ensures ∙ none_of c.fault.result c.in_default.not-Some in
    let k : Knows (place_record store.place) (place_filling store.place) (place_held store.place) =
    record { in_range = c.known.ensures.is_record old; rests = c.known.ensures.rests old; entry = c.known.ensures.entry; as_many = c.known.ensures.as_many } in
    let is = was store c.requires old k in
    let new = c.seal-result.new.self in
    if_both c.seal-result.result c.seal-result.ensures.fields c.is_fit.ensures
    (λ t e b.
    ap (flags_of new) (c.job_after-self.ensures ∙ ap (λ (b : Bool). verified c.args.keep b store.job) b ∙ ap (verified c.args.keep t) is.is)
    ∙ flags_verified store c.requires old k new c.args.meta.now c.tag_with-fit_tag.result c.tag_with-unfit_tag.result c.args.keep t
    (e ∙ ap (λ (n : ℕ). closed_record r n c.args.meta.now c.tag_with-fit_tag.result c.tag_with-unfit_tag.result t) (bank store c.requires old k)))

pub returns-clause-fields : goal.returns-clause-fields
returns-clause-fields g c =
    let store = c.args.self.now in
    let r = place_record store.place in
    let old : place_fault store.place ≡ None = sym c.fault.ensures ∙ none_of c.fault.result c.in_default.not-Some in
    let k : Knows (place_record store.place) (place_filling store.place) (place_held store.place) =
    record { in_range = c.known.ensures.is_record old; rests = c.known.ensures.rests old; entry = c.known.ensures.entry; as_many = c.known.ensures.as_many } in
    let fit : c.tag_with-fit_tag.result ≡ tag_with (verified c.args.keep true store.job) c.args.fit.now = c.tag_with-fit_tag.ensures.tag ∙ ap (λ o. tag_with o c.args.fit.now) c.job_after-sealed.ensures in
    let unfit : c.tag_with-unfit_tag.result ≡ tag_with (verified c.args.keep false store.job) c.args.unfit.now = c.tag_with-unfit_tag.ensures.tag ∙ ap (λ o. tag_with o c.args.unfit.now) c.job_after-emptied.ensures in
    if_ok c.seal-result.result c.seal-result.ensures.fields
    (λ t e. e ∙ (λ i. closed_record r (bank_here store c.requires old k i) c.args.meta.now (fit i) (unfit i) t))

pub returns-clause-fit : goal.returns-clause-fit
returns-clause-fit g c = λ s holds.
    let store = c.args.self.now in
    let old : place_fault store.place ≡ None = sym c.fault.ensures ∙ none_of c.fault.result c.in_default.not-Some in
    let k : Knows (place_record store.place) (place_filling store.place) (place_held store.place) =
    record { in_range = c.known.ensures.is_record old; rests = c.known.ensures.rests old; entry = c.known.ensures.entry; as_many = c.known.ensures.as_many } in
    subst (λ (n : ℕ). IfOk c.seal-result.result (λ fit. fit ≡ is_fit (joined (blocks_in (content_of_bank s n))) c.args.meta.now)) (bank_here store c.requires old k)
    (c.seal-result.ensures.fit s holds)

pub returns-clause-size : goal.returns-clause-size
returns-clause-size g c =
    let store = c.args.self.now in
    let old : place_fault store.place ≡ None = sym c.fault.ensures ∙ none_of c.fault.result c.in_default.not-Some in
    let k : Knows (place_record store.place) (place_filling store.place) (place_held store.place) =
    record { in_range = c.known.ensures.is_record old; rests = c.known.ensures.rests old; entry = c.known.ensures.entry; as_many = c.known.ensures.as_many } in
    if_ok c.seal-result.result c.seal-result.ensures.size (λ t h is. job_size store c.requires old k c.args.meta.now (h is))

pub returns-clause-runs : goal.returns-clause-runs
returns-clause-runs g c = λ s holds.
    let store = c.args.self.now in
    let old : place_fault store.place ≡ None = sym c.fault.ensures ∙ none_of c.fault.result c.in_default.not-Some in
    let k : Knows (place_record store.place) (place_filling store.place) (place_held store.place) =
    record { in_range = c.known.ensures.is_record old; rests = c.known.ensures.rests old; entry = c.known.ensures.entry; as_many = c.known.ensures.as_many } in
    let fit : c.tag_with-fit_tag.result ≡ tag_with (verified c.args.keep true store.job) c.args.fit.now = c.tag_with-fit_tag.ensures.tag ∙ ap (λ o. tag_with o c.args.fit.now) c.job_after-sealed.ensures in
    let unfit : c.tag_with-unfit_tag.result ≡ tag_with (verified c.args.keep false store.job) c.args.unfit.now = c.tag_with-unfit_tag.ensures.tag ∙ ap (λ o. tag_with o c.args.unfit.now) c.job_after-emptied.ensures in
    subst (λ (e : StoreState). PlaceGoes g.F.Flash.seen s (record_steps (place_fresh store.place) s e) store.place c.seal-result.new.self c.seal-result.result)
    (λ i. sealed_or_not s (bank_here store c.requires old k i) c.args.meta.now (fit i) (unfit i))
    (c.seal-result.ensures.runs s holds)
