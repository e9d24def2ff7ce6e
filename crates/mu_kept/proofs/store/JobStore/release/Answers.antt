use Rattle.std.proofs.Common.{◌≡◌, ◌∙◌, None, refl, sym}
use Rattle.std.specs.Option.{option_map}
use Rattle.mu_model_record.specs.declared.BankState.TheVariants.{Empty}
use Rattle.mu_model_record.specs.Changes.{next_record, cleared}
use Rattle.mu_note.specs.Views.{part_job}
use Rattle.mu_place.specs.Place.{place_fault, place_record}
use Rattle.mu_kept.proofs.Releasing.{rules_released, flags_released}
use Rattle.mu_kept.proofs.Writing.{none_of, if_ok, done, is_kept}
use Rattle.mu_kept.proofs.store.JobStore.release.Goals as goal

pub invariant_of-self : goal.invariant_of-self
invariant_of-self g c =
    let store = c.args.self.now in
    let r = place_record store.place in
    let old : place_fault store.place ≡ None = sym c.fault.ensures ∙ none_of c.fault.result c.in_default.not-Some in
    record {
      fits = λ none. let h = (done c.release.result c.release.new.self c.release.ensures.answers none c.release.ensures.fields).2 in
          is_kept (place_record c.release.new.self) (next_record r (cleared Empty c.args.banks r.banks) c.tag_with-tag.result) (option_map part_job store.job) h c.tag_with-tag.ensures.part
          (rules_released r c.args.banks c.tag_with-tag.result (c.known.ensures.rests old c.requires.rests) (place_record c.release.new.self) h store.job (c.requires.stays old) (store.fits old).rules);
    }

pub returns-clause-flags : goal.returns-clause-flags
returns-clause-flags g c =
    let store = c.args.self.now in
    let r = place_record store.place in
    let old : place_fault store.place ≡ None = sym c.fault.ensures ∙ none_of c.fault.result c.in_default.not-Some in
    if_ok c.release.result c.release.ensures.fields
    (λ _ e. flags_released r c.args.banks c.tag_with-tag.result (c.known.ensures.rests old c.requires.rests) store.place c.release.new.self refl e store.job (c.requires.stays old))
