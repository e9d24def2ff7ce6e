-- How many chunks are missing.
use Rattle.std.proofs.Common.{◌≡◌, ◌<◌, ◌≤◌, ℕ, zero, suc, ◌+◌, Bool, true, false, not, List, [], ◌∷◌, length, set, replicate, get_or, refl, ap, ◌∙◌, arith, cond, Option, Some, None}
use Rattle.std.specs.Prelude.{◌==◌, is_none, is_some, map}
use Rattle.std.specs.List.{count_by}
use Rattle.std.proofs.lemmas.List.Sums.{sum_by-cons}
use Rattle.std.proofs.lemmas.Bool.Decides.{nat_tests}
use Rattle.mu_model_node.specs.Slots.{Slots, is_full, received, missing, held_count}

missing_more : (set : List Bool) → count_by not (false ∷ set) ≡ 1 + count_by not set
missing_more set = sum_by-cons (λ (b : Bool). cond (not b) 1 0) false set

came_more : (set : List Bool) → count_by not (true ∷ set) ≡ count_by not set
came_more set = omega (arith, sum_by-cons (λ (b : Bool). cond (not b) 1 0) true set)

-- of none that came, all are missing
pub all_missing : (n : ℕ) → count_by not (replicate n false) ≡ n
all_missing zero = refl
all_missing (suc n) = let others : count_by not (replicate n false) ≡ n = all_missing n in omega (arith, missing_more (replicate n false), others)

-- one that comes is missing no longer
pub one_less : (came : List Bool) (i : ℕ) → i < length came → get_or came i false ≡ false → count_by not (set came i true) + 1 ≡ count_by not came
one_less [] i h e = absurd (omega arith)
one_less (false ∷ came) zero h e = omega (arith, missing_more came, came_more came)
one_less (true ∷ came) zero h e = cc
one_less (false ∷ came) (suc i) h e =
    let others : count_by not (set came i true) + 1 ≡ count_by not came = one_less came i (omega arith) e in
    omega (arith, missing_more came, missing_more (set came i true), others)
one_less (true ∷ came) (suc i) h e =
    let others : count_by not (set came i true) + 1 ≡ count_by not came = one_less came i (omega arith) e in
    omega (arith, came_more came, came_more (set came i true), others)

pub some_missing : (came : List Bool) (i : ℕ) → i < length came → get_or came i false ≡ false → 1 ≤ count_by not came
some_missing came i h e = omega (arith, one_less came i h e)

lack_none : (slots : Slots) → count_by is_none (None ∷ slots) ≡ 1 + count_by is_none slots
lack_none slots = sum_by-cons (λ (y : Option (List ℕ)). cond (is_none y) 1 0) None slots

lack_some : (octets : List ℕ) (slots : Slots) → count_by is_none (Some octets ∷ slots) ≡ count_by is_none slots
lack_some octets slots = omega (arith, sum_by-cons (λ (y : Option (List ℕ)). cond (is_none y) 1 0) (Some octets) slots)

hold_none : (slots : Slots) → held_count (None ∷ slots) ≡ 0 + held_count slots
hold_none slots = sum_by-cons (λ (y : Option (List ℕ)). cond (is_some y) 1 0) None slots

hold_some : (octets : List ℕ) (slots : Slots) → held_count (Some octets ∷ slots) ≡ 1 + held_count slots
hold_some octets slots = sum_by-cons (λ (y : Option (List ℕ)). cond (is_some y) 1 0) (Some octets) slots

-- the counts by the set of those that are there
pub missing_count : (slots : Slots) → count_by is_none slots ≡ count_by not (received slots)
missing_count [] = refl
missing_count (None ∷ slots) = omega (arith, lack_none slots, missing_more (received slots), missing_count slots)
missing_count (Some octets ∷ slots) = omega (arith, lack_some octets slots, came_more (received slots), missing_count slots)

pub both_counts : (slots : Slots) → held_count slots + count_by is_none slots ≡ length slots
both_counts [] = refl
both_counts (None ∷ slots) = omega (arith, lack_none slots, hold_none slots, both_counts slots)
both_counts (Some octets ∷ slots) = omega (arith, lack_some octets slots, hold_some octets slots, both_counts slots)

full_at : (slots : Slots) (b : Bool) → is_full slots ≡ b → (count_by is_none slots == 0) ≡ b
full_at [] b e = e
full_at (None ∷ slots) b e = let more = lack_none slots in let not_zero : (count_by is_none (None ∷ slots) == 0) ≡ false = grind (arith, nat_tests) in not_zero ∙ e
full_at (Some octets ∷ slots) b e = rw (lack_some octets slots) (full_at slots b e)

pub full_test : (slots : Slots) → (count_by is_none slots == 0) ≡ is_full slots
full_test slots = full_at slots (is_full slots) refl

-- what is missing is the rest
pub missing_rest : (slots : Slots) → missing slots ≡ map not (received slots)
missing_rest [] = refl
missing_rest (None ∷ slots) = ap (λ (bs : List Bool). true ∷ bs) (missing_rest slots)
missing_rest (Some octets ∷ slots) = ap (λ (bs : List Bool). false ∷ bs) (missing_rest slots)

-- of a full one every place is there
pub all_there : (slots : Slots) → is_full slots ≡ true → (i : ℕ) → i < length slots → get_or (received slots) i false ≡ true
all_there [] e i h = absurd (omega arith)
all_there (None ∷ slots) e i h = cc
all_there (Some octets ∷ slots) e zero h = refl
all_there (Some octets ∷ slots) e (suc i) h = all_there slots e i (omega arith)

pub twice : (set : List Bool) → map not (map not set) ≡ set
twice [] = refl
twice (true ∷ set) = ap (λ (bs : List Bool). true ∷ bs) (twice set)
twice (false ∷ set) = ap (λ (bs : List Bool). false ∷ bs) (twice set)
