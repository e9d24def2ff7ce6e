use Rattle.std.proofs.Common.{◌≡◌, ◌∙◌, Bool, true, false, List, Option, refl, sym, ap}
use Rattle.std.specs.Prelude.{◌↔◌, IsTrue, IsSome, All}
use Rattle.std.specs.List.{list_all}
use Rattle.std.proofs.lemmas.List.Sums.{AllPass-from_list_all, list_all-from_AllPass}
use Rattle.mu_place.specs.declared.place.FillingBank.{FillingBank}
use Rattle.mu_kept.proofs.Fitting.{all_replicated}
use Rattle.mu_kept.proofs.store.JobStore.are_held.Goals as goal

full_is : (b : Bool) (marks flags : List Bool) (filling : Option FillingBank) → IsTrue b ↔ (IsSome filling × All IsTrue marks) → IsSome filling → flags ≡ marks
    → b ≡ list_all (λ h. h) flags
full_is true marks flags filling iff some e = sym (ap (list_all (λ h. h)) e ∙ list_all-from_AllPass (λ h. h) marks (iff.0 refl).1)
full_is false marks flags filling iff some e = by_all (list_all (λ h. h) marks) refl ∙ sym (ap (list_all (λ h. h)) e)
  where
    by_all : (a : Bool) → list_all (λ h. h) marks ≡ a → false ≡ list_all (λ h. h) marks
    by_all true is = absurd (cc (iff.1 (some, AllPass-from_list_all (λ h. h) marks is)))
    by_all false is = sym is

pub returns-in-Filling : goal.returns-in-Filling
returns-in-Filling g c = full_is c.is_full.result _ _ _ c.is_full.ensures c.in-Filling.ensures.0 c.in-Filling.ensures.1

pub returns-in-Sealed : goal.returns-in-Sealed
returns-in-Sealed g c = sym (ap (list_all (λ h. h)) c.in-Sealed.ensures ∙ all_replicated c.in-Sealed.field-0)
