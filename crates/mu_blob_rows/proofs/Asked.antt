-- Steps of the loop over missing chunks.
use Rattle.std.proofs.Common.{◌≡◌, ◌<◌, ℕ, zero, suc, ◌+◌, Bool, true, false, List, [], ◌∷◌, ◌++◌, length, take, ap, ◌∙◌, cond, arith, ◌≤◌, ◌⊎◌, inl, inr, append-nil, add-one, length-append}
use Rattle.std.specs.Prelude.{◌&&◌, nat_lt}
use Rattle.std.specs.List.{range_with_len}
use Rattle.std.specs.Prelude.{filter}
use Rattle.std.proofs.lemmas.List.{take_all, take-append-le, length-take-le}
use Rattle.std.proofs.lemmas.List.Elements.{filter-append}
use Rattle.std.proofs.lemmas.Bool.Decides.{nat_tests}
use Rattle.mu_model_wire.specs.Reports.{has}

-- the first 16 members among the numbers below i
abbrev pub first_asked : List Bool → ℕ → List ℕ
first_asked set i = take 16 (filter (has set) (range_with_len 0 i))

-- one more at the end of a list that is cut
short_push : (n : ℕ) (xs : List ℕ) (x : ℕ) → length xs < n → take n (xs ++ x ∷ []) ≡ cond (nat_lt (length (take n xs)) n) (take n xs ++ x ∷ []) (take n xs)
short_push n xs x h =
    let all : take n xs ≡ xs = take_all n xs (omega arith) in
    let room : length (xs ++ x ∷ []) ≤ n = simp length-append (omega arith) in
    let more : take n (xs ++ x ∷ []) ≡ xs ++ x ∷ [] = take_all n (xs ++ x ∷ []) room in
    let test : nat_lt (length xs) n ≡ true = grind (arith, nat_tests) in
    rw (all, test) more

long_push : (n : ℕ) (xs : List ℕ) (x : ℕ) → n ≤ length xs → take n (xs ++ x ∷ []) ≡ cond (nat_lt (length (take n xs)) n) (take n xs ++ x ∷ []) (take n xs)
long_push n xs x h =
    let count : length (take n xs) ≡ n = length-take-le n xs h in
    let same : take n (xs ++ x ∷ []) ≡ take n xs = take-append-le n xs (x ∷ []) h in
    let test : nat_lt n n ≡ false = grind (arith, nat_tests) in
    rw (count, test) same

le_or_lt : (m n : ℕ) → (m ≤ n) ⊎ (n < m)
le_or_lt m n = grind arith

take_push : (n : ℕ) (xs : List ℕ) (x : ℕ) → take n (xs ++ x ∷ []) ≡ cond (nat_lt (length (take n xs)) n) (take n xs ++ x ∷ []) (take n xs)
take_push n xs x = elim (le_or_lt n (length xs)) [ inl h ↦ long_push n xs x h | inr h ↦ short_push n xs x h ]

range_more : (a n : ℕ) → range_with_len a (suc n) ≡ range_with_len a n ++ (a + n) ∷ []
range_more a zero = ap (λ n. n ∷ []) (omega arith)
range_more a (suc n) = ap (λ ns. a ∷ ns) (range_more (a + 1) n ∙ ap (λ k. range_with_len (a + 1) n ++ k ∷ []) (omega arith))

by_test : (b : Bool) (xs : List ℕ) (x : ℕ) → take 16 (xs ++ cond b (x ∷ []) []) ≡ cond (b && nat_lt (length (take 16 xs)) 16) (take 16 xs ++ x ∷ []) (take 16 xs)
by_test true xs x = take_push 16 xs x
by_test false xs x = ap (take 16) (append-nil xs)

pub asked_more : (set : List Bool) (i : ℕ) → first_asked set (i + 1) ≡ cond (has set i && nat_lt (length (first_asked set i)) 16) (first_asked set i ++ i ∷ []) (first_asked set i)
asked_more set i =
    let range : range_with_len 0 (i + 1) ≡ range_with_len 0 i ++ i ∷ [] = rw add-one (range_more 0 i ∙ ap (λ n. range_with_len 0 i ++ n ∷ []) (omega arith)) in
    rw (range, filter-append) (by_test (has set i) (filter (has set) (range_with_len 0 i)) i)
