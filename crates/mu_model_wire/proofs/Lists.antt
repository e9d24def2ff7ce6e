-- Lists of numbers as the entries of a row.
use Rattle.std.proofs.Common.{ℕ, ◌≤◌, ◌<◌, ◌^◌, [], ◌∷◌, length, refl, arith, length-append, inl, inr}
use Rattle.std.proofs.lemmas.Bool.{lt-ltb, le-ltb, cases_lt}
use Rattle.std.proofs.lemmas.List.{append-nil}
use Rattle.std.proofs.lemmas.List.Elements.{All-head, All-tail}
use Rattle.mu_model_wire.specs.Patterns.{pattern_spelling, list_spelling}
use Rattle.mu_model_wire.specs.Reports.{NumbersFitTheGrammar, GrammarSpellsLists, NumbersHaveOctets}

-- the entries of a list are spelled as its patterns
pub list_entries : GrammarSpellsLists
list_entries name [] = refl
list_entries name (n ∷ numbers) = rw (append-nil (pattern_spelling n), list_entries name numbers) refl

pub list_fits : NumbersFitTheGrammar
list_fits name [] small = tt
list_fits name (n ∷ numbers) small =
    let first = All-head (λ (m : ℕ). m < 2 ^ 16) n numbers small in
    (((refl, omega (arith, first)), refl), list_fits name numbers (All-tail (λ (m : ℕ). m < 2 ^ 16) n numbers small))

some_octet : (n : ℕ) → 1 ≤ length (pattern_spelling n)
some_octet n =
    elim (cases_lt n 0x80) [
      | inl small ↦ rw (lt-ltb n 0x80 small) (omega arith)
      | inr large ↦ elim (cases_lt n 0x800) [
        | inl middle ↦ rw (le-ltb n 0x80 large, lt-ltb n 0x800 middle) (omega arith)
        | inr most ↦ rw (le-ltb n 0x80 large, le-ltb n 0x800 most) (omega arith)
      ]
    ]

-- each number has an octet
pub list_count : NumbersHaveOctets
list_count [] = omega arith
list_count (n ∷ numbers) = omega (arith, some_octet n, list_count numbers, length-append (pattern_spelling n) (list_spelling numbers))
