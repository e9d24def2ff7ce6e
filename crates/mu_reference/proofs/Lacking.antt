-- How many places have nothing.
use Rattle.std.proofs.Common.{◌≡◌, ◌<◌, ◌≤◌, ℕ, zero, suc, ◌+◌, Bool, false, List, [], ◌∷◌, length, set, replicate, refl, ◌∙◌, arith, cond, Option, Some, None}
use Rattle.std.specs.Prelude.{◌==◌, is_none, is_some}
use Rattle.std.specs.List.{count_by}
use Rattle.std.proofs.lemmas.List.Sums.{sum_by-cons}
use Rattle.std.proofs.lemmas.Bool.Decides.{nat_tests}
use Rattle.mu_model_node.specs.Slots.{Slots, at, put, is_full, held_count}

lack_none : (slots : Slots) → count_by is_none (None ∷ slots) ≡ 1 + count_by is_none slots
lack_none slots = sum_by-cons (λ (y : Option (List ℕ)). cond (is_none y) 1 0) None slots

lack_some : (octets : List ℕ) (slots : Slots) → count_by is_none (Some octets ∷ slots) ≡ count_by is_none slots
lack_some octets slots = omega (arith, sum_by-cons (λ (y : Option (List ℕ)). cond (is_none y) 1 0) (Some octets) slots)

hold_none : (slots : Slots) → held_count (None ∷ slots) ≡ 0 + held_count slots
hold_none slots = sum_by-cons (λ (y : Option (List ℕ)). cond (is_some y) 1 0) None slots

hold_some : (octets : List ℕ) (slots : Slots) → held_count (Some octets ∷ slots) ≡ 1 + held_count slots
hold_some octets slots = sum_by-cons (λ (y : Option (List ℕ)). cond (is_some y) 1 0) (Some octets) slots

pub lacking_empty : (n : ℕ) → count_by is_none (replicate {A = Option (List ℕ)} n None) ≡ n
lacking_empty zero = refl
lacking_empty (suc n) = let others : count_by is_none (replicate {A = Option (List ℕ)} n None) ≡ n = lacking_empty n in omega (arith, lack_none (replicate n None), others)

full_at : (slots : Slots) (b : Bool) → is_full slots ≡ b → (count_by is_none slots == 0) ≡ b
full_at [] b e = e
full_at (None ∷ slots) b e = let more = lack_none slots in let not_zero : (count_by is_none (None ∷ slots) == 0) ≡ false = grind (arith, nat_tests) in not_zero ∙ e
full_at (Some octets ∷ slots) b e = rw (lack_some octets slots) (full_at slots b e)

pub full_test : (slots : Slots) → (count_by is_none slots == 0) ≡ is_full slots
full_test slots = full_at slots (is_full slots) refl

pub one_less : (slots : Slots) (place : ℕ) (octets : List ℕ) → place < length slots → at slots place ≡ None → count_by is_none (set slots place (Some octets)) + 1 ≡ count_by is_none slots
one_less [] place octets h e = absurd (omega arith)
one_less (None ∷ slots) zero octets h e = omega (arith, lack_none slots, lack_some octets slots)
one_less (Some others ∷ slots) zero octets h e = cc
one_less (None ∷ slots) (suc place) octets h e =
    let others : count_by is_none (set slots place (Some octets)) + 1 ≡ count_by is_none slots = one_less slots place octets (omega arith) e in
    omega (arith, lack_none slots, lack_none (set slots place (Some octets)), others)
one_less (Some more ∷ slots) (suc place) octets h e =
    let others : count_by is_none (set slots place (Some octets)) + 1 ≡ count_by is_none slots = one_less slots place octets (omega arith) e in
    omega (arith, lack_some more slots, lack_some more (set slots place (Some octets)), others)

pub some_lacking : (slots : Slots) (place : ℕ) → place < length slots → at slots place ≡ None → 1 ≤ count_by is_none slots
some_lacking slots place h e = omega (arith, one_less slots place [] h e)

one_test : (m n : ℕ) → m + 1 ≡ n → (n == 1) ≡ (m == 0)
one_test m n e = grind (arith, nat_tests)

pub fills_test : (slots : Slots) (place : ℕ) (octets : List ℕ) → place < length slots → at slots place ≡ None → (count_by is_none slots == 1) ≡ is_full (put slots place octets)
fills_test slots place octets h e = one_test _ _ (one_less slots place octets h e) ∙ full_test (put slots place octets)

pub held_and_lacking : (slots : Slots) → held_count slots + count_by is_none slots ≡ length slots
held_and_lacking [] = refl
held_and_lacking (None ∷ slots) = omega (arith, lack_none slots, hold_none slots, held_and_lacking slots)
held_and_lacking (Some octets ∷ slots) = omega (arith, lack_some octets slots, hold_some octets slots, held_and_lacking slots)
