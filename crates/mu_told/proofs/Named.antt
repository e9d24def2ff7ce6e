-- The set that a report names is read as the model reads it; and the number of a set's members.
use Rattle.std.proofs.Common.{◌≡◌, ◌∙◌, ◌+◌, sym, ap, ℕ, zero, suc, true, false, List, [], ◌∷◌, Bool, Option, Some, None, refl, length, arith}
use Rattle.std.specs.Prelude.{◌↔◌, ◌||◌, IsSome, is_some, if◌then◌else◌}
use Rattle.std.specs.List.{fold, range_with_len}
use Rattle.std.proofs.lemmas.Bool.{false≢true}
use Rattle.std.proofs.lemmas.List.Sums.{length-filter}
use Rattle.mu_model_wire.specs.Reports.{has, members, IsFirstFrom, Reports, NamesASet}
use Rattle.mu_model_wire.specs.declared.reports.Report.{Report}
use Rattle.mu_model_client.specs.Sets.{named_set, size_of, has_some}
use Rattle.mu_model_client_laws.specs.Laws.{NamedSetsAreReported, NamedSetsAreRead}

none_of : NamedSetsAreRead → (report : Report) (n : ℕ) (result : Option (List Bool)) → (IsSome result ↔ NamesASet report n) → named_set n report ≡ None → result ≡ None
none_of read report n None some e = refl
none_of read report n (Some set) some e = absurd (false≢true (sym (ap is_some e) ∙ read n report (some.0 refl)))

by_model : NamedSetsAreReported → NamedSetsAreRead → (report : Report) (n : ℕ) (result : Option (List Bool)) (named : Option (List Bool)) → named_set n report ≡ named
    → ((set : List Bool) → (result ≡ Some set) ↔ ((length set ≡ n) × Reports report set)) → (IsSome result ↔ NamesASet report n) → result ≡ named
by_model said read report n result None e names some = none_of read report n result some e
by_model said read report n result (Some set) e names some = (let h = said n report set e in (names set).1 (h.bound, h.reports))

pub read_is : (report : Report) (n : ℕ) (result : Option (List Bool)) → NamedSetsAreReported → NamedSetsAreRead
    → ((set : List Bool) → (result ≡ Some set) ↔ ((length set ≡ n) × Reports report set)) → (IsSome result ↔ NamesASet report n) → result ≡ named_set n report
read_is report n result said read names some = by_model said read report n result (named_set n report) refl names some

folded : (f : ℕ → Bool) (set : List Bool) (k acc : ℕ) → ((i : ℕ) → has set i ≡ f (k + i))
    → fold (λ a j. a + (if f j then 1 else 0)) acc (range_with_len k (length set)) ≡ fold (λ a x. a + (if x then 1 else 0)) acc set
folded f [] k acc e = refl
folded f (x ∷ set) k acc e =
    let here : k + 0 ≡ k = omega arith in
    let first : f k ≡ x = ap f (sym here) ∙ sym (e 0) in
    ap (λ y. fold (λ a j. a + (if f j then 1 else 0)) (acc + (if y then 1 else 0)) (range_with_len (k + 1) (length set))) first
    ∙ folded f set (k + 1) (acc + (if x then 1 else 0)) (λ i. e (suc i) ∙ (let next : k + suc i ≡ (k + 1) + i = omega arith in ap f next))

pub size_is : (set : List Bool) → length (members set) ≡ size_of set
size_is set = length-filter (has set) (range_with_len 0 (length set)) ∙ folded (has set) set 0 0 (λ i. (let z : 0 + i ≡ i = omega arith in ap (has set) (sym z)))

some_has : (set : List Bool) (k : ℕ) → has set k ≡ true → has_some set ≡ true
some_has [] k e = absurd (false≢true e)
some_has (true ∷ set) k e = refl
some_has (false ∷ set) zero e = absurd (false≢true e)
some_has (false ∷ set) (suc k) e = some_has set k e

none_has : (set : List Bool) → ((k : ℕ) → has set k ≡ false) → has_some set ≡ false
none_has [] none = refl
none_has (x ∷ set) none = ap (λ y. y || has_some set) (none 0) ∙ none_has set (λ k. none (suc k))

pub has_is : (set : List Bool) (found : Option ℕ) → IsFirstFrom set 0 found → is_some found ≡ has_some set
has_is set None first = sym (none_has set (λ k. first k (omega arith)))
has_is set (Some k) first = sym (some_has set k first.1)
