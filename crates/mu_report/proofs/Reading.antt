-- What reading a report gives.
use Rattle.std.proofs.Common.{◌≡◌, ℕ, zero, suc, ◌↔◌, Bool, true, List, ◌∷◌, length, Option, Some, None, refl, sym, ap, subst, ◌∙◌}
use Rattle.std.specs.Prelude.{IfSome, IsSome}
use Rattle.std.proofs.lemmas.List.{length-replicate}
use Rattle.std.proofs.lemmas.Bool.{false≢true}
use Rattle.mu_model_wire.specs.Reports.{Reports, NamesASet, ReportsNameOneSet, ReportsOfASetAreInOrder, complement, no_number, every_number}
use Rattle.mu_model_wire.specs.declared.reports.Report.{Report}
use Rattle.mu_model_wire.specs.declared.reports.Report.TheVariants.{All}

same_some : (a b : List Bool) → Some a ≡ Some b → a ≡ b
same_some a b e = cc

pub exact : ReportsNameOneSet → ReportsOfASetAreInOrder → (shown : Report) (n : ℕ) (result : Option (List Bool)) → IfSome result (λ s. (length s ≡ n) × Reports shown s) → (NamesASet shown n → IsSome result)
    → (set : List Bool) → (result ≡ Some set) ↔ ((length set ≡ n) × Reports shown set)
exact one_set in_order shown n None names some set =
    (λ e. absurd cc, λ h. let P : ℕ → Type 0 = λ m. NamesASet shown m in absurd (false≢true (some (subst P h.0 (in_order shown set h.1)))))
exact one_set in_order shown n (Some s) names some set = (
  λ e. let P : List Bool → Type 0 = λ x. (length x ≡ n) × Reports shown x in subst P (same_some s set e) names,
  λ h. ap (λ (x : List Bool). Some x) (one_set shown s set (names.0 ∙ sym h.0) names.1 h.1),
)

-- the same of the report that was shown
pub exact_of : (report shown : Report) (n : ℕ) (result : Option (List Bool)) → report ≡ shown
    → ((set : List Bool) → (result ≡ Some set) ↔ ((length set ≡ n) × Reports shown set))
    → (set : List Bool) → (result ≡ Some set) ↔ ((length set ≡ n) × Reports report set)
exact_of report shown n result is h set =
    let P : Report → Type 0 = λ r. (result ≡ Some set) ↔ ((length set ≡ n) × Reports r set) in
    subst P (sym is) (h set)

complement_none : (n : ℕ) → complement (no_number n) ≡ every_number n
complement_none zero = refl
complement_none (suc n) = ap (λ (xs : List Bool). true ∷ xs) (complement_none n)

-- the complement of nothing is everything
pub all_missing : (n : ℕ) (empty made : List Bool) → empty ≡ no_number n → made ≡ complement empty → (length made ≡ n) × Reports All made
all_missing n empty made is e =
    let whole : made ≡ every_number n = e ∙ ap complement is ∙ complement_none n in
    let count : length made ≡ n = ap (length {A = Bool}) whole ∙ length-replicate n true in
    (count, whole ∙ ap every_number (sym count))
