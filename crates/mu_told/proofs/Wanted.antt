-- Sets of listed numbers, and the first numbers of a set.
use Rattle.std.proofs.Common.{◌≡◌, ◌≢◌, ◌∙◌, ◌+◌, ◌-◌, ◌≤◌, ◌<◌, sym, ap, subst, refl, inl, inr, ℕ, zero, suc, true, false, Bool, List, [], ◌∷◌, ◌++◌, append_assoc, length, take, map, get_or, set, arith, cond}
use Rattle.std.specs.Prelude.{◌||◌, ◌&&◌, if◌then◌else◌, nat_eq, nat_lt}
use Rattle.std.specs.List.{range_with_len, filter, list_any, list_all}
use Rattle.std.proofs.lemmas.Bool.{cases_eq, ne_eqb, false≢true}
use Rattle.std.proofs.lemmas.Bool.Decides.{nat_tests}
use Rattle.std.proofs.lemmas.List.{ext_get_or, take_more, take_all, length-set, get_or-set_same, get_or-set_other, append-nil, map-id, take-append-le}
use Rattle.std.proofs.Math.Seq.{take-append_seam}
use Rattle.std.proofs.lemmas.List.Folds.{list_any-append, list_all-append}
use Rattle.std.proofs.lemmas.List.FromFn.{get_or-map-range_with_len, length-map-range_with_len, filter_of_map_range_with_len_more}
use Rattle.mu_model_wire.specs.Reports.{has, members, union, no_number}
use Rattle.mu_model_client.specs.Sets.{below, set_of, all_below}

-- ---- listed numbers

pub length_is : (n : ℕ) (xs : List ℕ) → length (set_of n xs) ≡ n
length_is n xs = length-map-range_with_len (λ k. list_any (nat_eq k) xs) 0 n

has_of : (n : ℕ) (xs : List ℕ) (k : ℕ) (d : Bool) → k < n → get_or (set_of n xs) k d ≡ list_any (nat_eq k) xs
has_of n xs k d lt = get_or-map-range_with_len (λ k. list_any (nat_eq k) xs) 0 n k k d lt (omega arith)

or_false : (x : Bool) → (x || false) ≡ x
or_false true = refl
or_false false = refl

or_true : (x : Bool) → (x || true) ≡ true
or_true true = refl
or_true false = refl

one_more : (k x : ℕ) (xs : List ℕ) → list_any (nat_eq k) (xs ++ x ∷ []) ≡ (list_any (nat_eq k) xs || (nat_eq k x || false))
one_more k x xs = list_any-append (nat_eq k) xs (x ∷ [])

eq_same : (k : ℕ) → nat_eq k k ≡ true
eq_same k = grind (arith, nat_tests)

eq_other : (k x : ℕ) → k ≢ x → nat_eq k x ≡ false
eq_other k x ne = ne_eqb k x ne

pub set_more : (n : ℕ) (xs : List ℕ) (x : ℕ) → x < n → set_of n (xs ++ x ∷ []) ≡ set (set_of n xs) x true
set_more n xs x lt =
    let long : length (set_of n (xs ++ x ∷ [])) ≡ n = length_is n (xs ++ x ∷ []) in
    let short : length (set_of n xs) ≡ n = length_is n xs in
    ext_get_or false (set_of n (xs ++ x ∷ [])) (set (set_of n xs) x true) (long ∙ sym short ∙ sym (length-set (set_of n xs) x true))
    (λ k below.
    let inside : k < n = omega (arith, below, long) in
    has_of n (xs ++ x ∷ []) k false inside ∙ one_more k x xs
    ∙ elim (cases_eq k x) [
      | inl same ↦
          ap (λ y. list_any (nat_eq k) xs || (y || false)) (ap (nat_eq k) (sym same) ∙ eq_same k) ∙ or_true (list_any (nat_eq k) xs)
          ∙ sym (ap (λ y. get_or (set (set_of n xs) x true) y false) same ∙ get_or-set_same (set_of n xs) x true false (omega (arith, short, lt)))
      | inr other ↦
          ap (λ y. list_any (nat_eq k) xs || (y || false)) (eq_other k x other) ∙ or_false (list_any (nat_eq k) xs)
          ∙ sym (get_or-set_other (set_of n xs) x k true false other ∙ has_of n xs k false inside)
    ])

pub set_next : (n : ℕ) (xs : List ℕ) (i : ℕ) (now before : List Bool) → i < length xs → get_or xs i 0 < n → now ≡ set before (get_or xs i 0) true
    → before ≡ set_of n (take i xs) → now ≡ set_of n (take (i + 1) xs)
set_next n xs i now before inside lt is so =
    is ∙ ap (λ s. set s (get_or xs i 0) true) so ∙ sym (set_more n (take i xs) (get_or xs i 0) lt) ∙ ap (set_of n) (sym (take_more xs i 0 inside))

and_true : (x y : Bool) → x ≡ true → y ≡ true → (x && y) ≡ true
and_true x y p q = ap (λ z. z && y) p ∙ q

below_one : (n x : ℕ) → x < n → (nat_lt x n && true) ≡ true
below_one n x lt = grind (arith, nat_tests)

pub below_next : (n : ℕ) (xs : List ℕ) (i : ℕ) → i < length xs → get_or xs i 0 < n → all_below n (take i xs) ≡ true → all_below n (take (i + 1) xs) ≡ true
below_next n xs i inside lt so =
    ap (all_below n) (take_more xs i 0 inside) ∙ list_all-append (λ k. nat_lt k n) (take i xs) (get_or xs i 0 ∷ [])
    ∙ and_true (all_below n (take i xs)) (nat_lt (get_or xs i 0) n && true) so (below_one n (get_or xs i 0) lt)

not_below : (n x : ℕ) → n ≤ x → nat_lt x n ≡ false
not_below n x le = grind (arith, nat_tests)

and_false : (x y : Bool) → y ≡ false → (x && y) ≡ false
and_false true y e = e
and_false false y e = refl

-- a number that isn't below
pub one_past : (n : ℕ) (xs : List ℕ) (i : ℕ) → i < length xs → n ≤ get_or xs i 0 → all_below n xs ≡ false
one_past n [] i inside le = absurd (omega arith)
one_past n (x ∷ xs) zero inside le = ap (λ y. y && all_below n xs) (not_below n x le)
one_past n (x ∷ xs) (suc i) inside le = and_false (nat_lt x n) (all_below n xs) (one_past n xs i (omega (arith, inside)) le)

none_yet : (n a m : ℕ) → map (λ (k : ℕ). false) (range_with_len a m) ≡ no_number m
none_yet n a zero = refl
none_yet n a (suc m) = ap (λ s. false ∷ s) (none_yet n (a + 1) m)

pub set_none : (n : ℕ) → no_number n ≡ set_of n []
set_none n = sym (none_yet n 0 n)

-- ---- the first numbers of a set

filter_more : (p : ℕ → Bool) (n : ℕ) → filter p (range_with_len 0 (n + 1)) ≡ filter p (range_with_len 0 n) ++ cond (p n) (n ∷ []) []
filter_more p n =
    ap (filter p) (sym (map-id (range_with_len 0 (n + 1)))) ∙ filter_of_map_range_with_len_more p (λ (k : ℕ). k) 0 n n (omega arith)
    ∙ ap (λ (xs : List ℕ). filter p xs ++ cond (p n) (n ∷ []) []) (map-id (range_with_len 0 n))

skip : (p : ℕ → Bool) (at gap : ℕ) → ((i : ℕ) → at ≤ i → i < at + gap → p i ≡ false) → filter p (range_with_len 0 (at + gap)) ≡ filter p (range_with_len 0 at)
skip p at zero none = let same : at + 0 ≡ at = omega arith in ap (λ (n : ℕ). filter p (range_with_len 0 n)) same
skip p at (suc gap) none =
    let turn : at + suc gap ≡ at + gap + 1 = omega arith in
    ap (λ (n : ℕ). filter p (range_with_len 0 n)) turn ∙ filter_more p (at + gap)
    ∙ ap (λ (b : Bool). filter p (range_with_len 0 (at + gap)) ++ cond b ((at + gap) ∷ []) []) (none (at + gap) (omega arith) (omega arith))
    ∙ append-nil (filter p (range_with_len 0 (at + gap)))
    ∙ skip p at gap (λ i low high. none i low (omega arith))

skip_to : (p : ℕ → Bool) (at to : ℕ) → at ≤ to → ((i : ℕ) → at ≤ i → i < to → p i ≡ false) → filter p (range_with_len 0 to) ≡ filter p (range_with_len 0 at)
skip_to p at to h none =
    let parts : to ≡ at + (to - at) = omega arith in
    ap (λ (n : ℕ). filter p (range_with_len 0 n)) parts ∙ skip p at (to - at) (λ i low high. none i low (omega arith))

-- the members before a place
pub front : List Bool → ℕ → List ℕ
front set at = filter (has set) (range_with_len 0 at)

pub front_next : (set : List Bool) (at m : ℕ) → at ≤ m → ((i : ℕ) → at ≤ i → i < m → has set i ≡ false) → has set m ≡ true → front set (m + 1) ≡ front set at ++ m ∷ []
unfolding front
front_next set at m h none pass =
    filter_more (has set) m ∙ ap (λ (b : Bool). filter (has set) (range_with_len 0 m) ++ cond b (m ∷ []) []) pass ∙ ap (λ (xs : List ℕ). xs ++ m ∷ []) (skip_to (has set) at m h none)

pub front_all : (set : List Bool) (at : ℕ) → at ≤ length set → ((i : ℕ) → at ≤ i → has set i ≡ false) → members set ≡ front set at
unfolding front
front_all set at within none = skip_to (has set) at (length set) within (λ i low high. none i low)

pub front_none : (set : List Bool) → front set 0 ≡ []
unfolding front
front_none set = refl

tail : (ℕ → Bool) → ℕ → ℕ → List ℕ
tail p at zero = []
tail p at (suc d) = tail p at d ++ cond (p (at + d)) ((at + d) ∷ []) []

parts : (p : ℕ → Bool) (at d : ℕ) → filter p (range_with_len 0 (at + d)) ≡ filter p (range_with_len 0 at) ++ tail p at d
unfolding tail
parts p at zero = let same : at + 0 ≡ at = omega arith in ap (λ (n : ℕ). filter p (range_with_len 0 n)) same ∙ sym (append-nil (filter p (range_with_len 0 at)))
parts p at (suc d) =
    let turn : at + suc d ≡ at + d + 1 = omega arith in
    ap (λ (n : ℕ). filter p (range_with_len 0 n)) turn ∙ filter_more p (at + d)
    ∙ ap (λ xs. xs ++ cond (p (at + d)) ((at + d) ∷ []) []) (parts p at d)
    ∙ append_assoc (filter p (range_with_len 0 at)) (tail p at d) (cond (p (at + d)) ((at + d) ∷ []) [])

-- the first 16, where so many are before a place
pub sixteen_front : (set : List Bool) (at : ℕ) → at ≤ length set → length (front set at) ≡ 16 → take 16 (members set) ≡ front set at
unfolding front
sixteen_front set at within long =
    let d = length set - at in
    let all : length set ≡ at + d = omega (arith, within) in
    ap (λ n. take n (members set)) (sym long)
    ∙ ap (λ xs. take (length (filter (has set) (range_with_len 0 at))) xs) (ap (λ n. filter (has set) (range_with_len 0 n)) all ∙ parts (has set) at d)
    ∙ take-append_seam (filter (has set) (range_with_len 0 at)) (tail (has set) at d)

-- or all of them
pub few_front : (set : List Bool) (at : ℕ) → at ≤ length set → ((i : ℕ) → at ≤ i → has set i ≡ false) → length (front set at) ≤ 16 → take 16 (members set) ≡ front set at
few_front set at within none few = ap (take 16) (front_all set at within none) ∙ take_all 16 (front set at) few

-- ---- unions

past : (k : ℕ) → has [] k ≡ false
past k = refl

pub union_nothing : (set : List Bool) → union set [] ≡ set
union_nothing set =
    let long : length (union set []) ≡ length set = length-map-range_with_len (λ k. has set k || has [] k) 0 (length set) in
    ext_get_or false (union set []) set long
    (λ k below. get_or-map-range_with_len (λ k. has set k || has [] k) 0 (length set) k k false (omega (arith, below, long)) (omega arith) ∙ or_false (has set k))

no_bound : (w : List Bool) → length w ≡ 0 → w ≡ []
no_bound [] e = refl
no_bound (x ∷ w) e = absurd (omega (arith, e))

pub none_wanted : (set w : List Bool) (x : Bool) → x ≡ false → set ≡ union set (if x then w else [])
none_wanted set w x e = sym (ap (λ y. union set (if y then w else [])) e ∙ union_nothing set)

pub empty_wanted : (set w : List Bool) (x : Bool) → length w ≡ 0 → set ≡ union set (if x then w else [])
empty_wanted set w true e = sym (ap (union set) (no_bound w e) ∙ union_nothing set)
empty_wanted set w false e = sym (union_nothing set)
