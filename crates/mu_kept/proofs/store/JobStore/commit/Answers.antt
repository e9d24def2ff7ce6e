use Rattle.std.proofs.Common.{◌≡◌, ◌∙◌, None, sym}
use Rattle.std.specs.Option.{option_map}
use Rattle.mu_model_record.specs.Changes.{next_record}
use Rattle.mu_note.specs.Views.{part_job}
use Rattle.mu_place.specs.Place.{place_fault, place_record}
use Rattle.mu_kept.proofs.Writing.{none_of, done, is_kept, rules_kept}
use Rattle.mu_kept.proofs.store.JobStore.commit.Goals as goal

pub invariant_of-self : goal.invariant_of-self
invariant_of-self g c =
    let store = c.args.self.now in
    let r = place_record store.place in
    let old : place_fault store.place ≡ None = sym c.fault.ensures ∙ none_of c.fault.result c.in_default.not-Some in
    record {
      fits = λ none. let h = (done c.commit.result c.commit.new.self c.commit.ensures.answers none c.commit.ensures.fields).2 in
          is_kept (place_record c.commit.new.self) (next_record r r.banks c.tag_with-tag.result) (option_map part_job store.job) h c.tag_with-tag.ensures.part
          (rules_kept r (place_record c.commit.new.self) c.tag_with-tag.result store.job h (store.fits old).rules);
    }
