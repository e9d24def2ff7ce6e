-- Sets, bit fields and what reports name.
use Rattle.std.proofs.Common.{◌≡◌, ℕ, zero, suc, ◌+◌, ◌*◌, ◌/◌, ◌%◌, ◌^◌, ◌≤◌, ◌<◌, ◌↔◌, Bool, true, false, IsTrue, cond, eqb, get_or, List, [], ◌∷◌, ◌++◌, length, take, drop, lit≤, if◌then◌else◌, refl, sym, ap, subst, ◌∙◌, arith, inl, inr, add-one, length-append}
use Rattle.std.specs.Prelude.{Contains}
use Rattle.std.specs.List.{range_with_len, filter}
use Rattle.std.specs.Int.{bit_at}
use Rattle.std.proofs.Math.Nat.{pow-suc, pow-le-pow_right}
use Rattle.std.proofs.lemmas.Bool.{cases_lt, cases_Bool, eqb-true, false≢true}
use Rattle.std.proofs.lemmas.List.{map-id, append-nil, get_or_past, get_or-take, get_or-drop, get_or-replicate, length-replicate, ext_get_or, length-take}
use Rattle.std.proofs.lemmas.List.Elements.{All-from_get_or, Contains-get_or, Contains-append_left, Contains-push, Contains-push_cases}
use Rattle.std.proofs.lemmas.List.FromFn.{filter_of_map_range_with_len_more, length-map-range_with_len, get_or-map-range_with_len}
use Rattle.std.proofs.lemmas.Nat.Bits.{bit_at-zero, bit_at-suc, bit_at_lowest}
use Rattle.mu_model_wire.specs.Reports.{has, members, no_number, every_number, field_length, number_of_bits, bit_field, Reports, ReportsNameOneSet, ReportsOfASetAreInOrder, ReportOfASetNamesIt, BitFieldIsOfItsSet, BitFieldsAreOctets}
use Rattle.mu_model_wire.specs.declared.reports.Report.TheVariants.{All, Nothing, Bits, List as Listed}

pub same_sets : (a b : List Bool) → length a ≡ length b → ((k : ℕ) → has a k ≡ has b k) → a ≡ b
same_sets a b count each = ext_get_or false a b count (λ k h. each k)

-- ---- how many numbers below n pass

counted : (ℕ → Bool) → ℕ → ℕ
counted p n = length (filter p (range_with_len 0 n))

length_one : (b : Bool) (n : ℕ) → length (cond b (n ∷ []) []) ≡ cond b 1 0
length_one true n = refl
length_one false n = refl

pub filter_more : (p : ℕ → Bool) (n : ℕ) → filter p (range_with_len 0 (n + 1)) ≡ filter p (range_with_len 0 n) ++ cond (p n) (n ∷ []) []
filter_more p n =
    ap (filter p) (sym (map-id (range_with_len 0 (n + 1)))) ∙ filter_of_map_range_with_len_more p (λ (k : ℕ). k) 0 n n (omega arith)
    ∙ ap (λ (xs : List ℕ). filter p xs ++ cond (p n) (n ∷ []) []) (map-id (range_with_len 0 n))

counted_more : (p : ℕ → Bool) (n : ℕ) → counted p (suc n) ≡ counted p n + cond (p n) 1 0
unfolding counted
counted_more p n =
    ap (λ (m : ℕ). length (filter p (range_with_len 0 m))) (sym (add-one n)) ∙ ap (length {A = ℕ}) (filter_more p n)
    ∙ length-append (filter p (range_with_len 0 n)) (cond (p n) (n ∷ []) []) ∙ ap (λ (k : ℕ). length (filter p (range_with_len 0 n)) + k) (length_one (p n) n)

one_or_none : (b : Bool) → cond b 1 0 ≤ 1
one_or_none true = omega arith
one_or_none false = omega arith

counted_le : (p : ℕ → Bool) (n : ℕ) → counted p n ≤ n
unfolding counted
counted_le p zero = omega arith
counted_le p (suc n) = omega (arith, counted_more p n, counted_le p n, one_or_none (p n))

was_one : (b : Bool) → 1 ≤ cond b 1 0 → b ≡ true
was_one true h = refl
was_one false h = absurd (omega arith)

was_none : (b : Bool) → cond {A = ℕ} b 1 0 ≡ 0 → b ≡ false
was_none true h = absurd (omega arith)
was_none false h = refl

-- where as many pass as there are, each passes
all_pass : (p : ℕ → Bool) (n : ℕ) → counted p n ≡ n → (k : ℕ) → k < n → p k ≡ true
all_pass p zero e k h = absurd (omega arith)
all_pass p (suc n) e k h =
    let more = counted_more p n in
    let before = counted_le p n in
    let here = one_or_none (p n) in
    elim (cases_lt k n) [
      | inl less ↦ all_pass p n (omega arith) k less
      | inr last ↦ (let same : n ≡ k = omega arith in ap p (sym same) ∙ was_one (p n) (omega arith))
    ]

none_pass : (p : ℕ → Bool) (n : ℕ) → counted p n ≡ 0 → (k : ℕ) → k < n → p k ≡ false
none_pass p zero e k h = absurd (omega arith)
none_pass p (suc n) e k h =
    let more = counted_more p n in
    elim (cases_lt k n) [
      | inl less ↦ none_pass p n (omega arith) k less
      | inr last ↦ (let same : n ≡ k = omega arith in ap p (sym same) ∙ was_none (p n) (omega arith))
    ]

-- a number is among those below n that pass exactly where it passes
contained : (p : ℕ → Bool) (n k : ℕ) → k < n → p k ≡ true → Contains (filter p (range_with_len 0 n)) k
contained p zero k h pass = absurd (omega arith)
contained p (suc n) k h pass =
    let whole : filter p (range_with_len 0 (suc n)) ≡ filter p (range_with_len 0 n) ++ cond (p n) (n ∷ []) [] =
    ap (λ (m : ℕ). filter p (range_with_len 0 m)) (sym (add-one n)) ∙ filter_more p n in
    let P : List ℕ → Type 0 = λ xs. Contains xs k in
    subst P (sym whole) (elim (cases_lt k n) [
      | inl less ↦ Contains-append_left (filter p (range_with_len 0 n)) (cond (p n) (n ∷ []) []) k (contained p n k less pass)
      | inr last ↦ (
          let same : k ≡ n = omega arith in
          let one : cond (p n) (n ∷ []) [] ≡ k ∷ [] = ap (λ (b : Bool). cond b (n ∷ []) []) (ap p (sym same) ∙ pass) ∙ ap (λ (m : ℕ). m ∷ []) (sym same) in
          subst P (ap (λ (xs : List ℕ). filter p (range_with_len 0 n) ++ xs) (sym one)) (Contains-push (filter p (range_with_len 0 n)) k))
    ])

passes : (p : ℕ → Bool) (n k : ℕ) → Contains (filter p (range_with_len 0 n)) k → (k < n) × (p k ≡ true)
passes p zero k h = absurd (omega (arith, h.1))
passes p (suc n) k h =
    let whole : filter p (range_with_len 0 (suc n)) ≡ filter p (range_with_len 0 n) ++ cond (p n) (n ∷ []) [] =
    ap (λ (m : ℕ). filter p (range_with_len 0 m)) (sym (add-one n)) ∙ filter_more p n in
    let P : List ℕ → Type 0 = λ xs. Contains xs k in
    elim (cases_Bool (p n)) [
      | inl one ↦ (
          let parts = subst P (whole ∙ ap (λ (b : Bool). filter p (range_with_len 0 n) ++ cond b (n ∷ []) []) one) h in
          elim (Contains-push_cases (filter p (range_with_len 0 n)) n k parts) [
            | inl before ↦ (let g = passes p n k before in (omega (arith, g.0), g.1))
            | inr same ↦ (omega (arith, same), ap p (sym same) ∙ one)
          ])
      | inr none ↦ (
          let parts = subst P (whole ∙ ap (λ (b : Bool). filter p (range_with_len 0 n) ++ cond b (n ∷ []) []) none ∙ append-nil (filter p (range_with_len 0 n))) h in
          let g = passes p n k parts in (omega (arith, g.0), g.1))
    ]

has_past : (set : List Bool) (k : ℕ) → length set ≤ k → has set k ≡ false
has_past set k h = get_or_past set k false h

within_bound : (set : List Bool) (k : ℕ) → has set k ≡ true → k < length set
within_bound set k e = elim (cases_lt k (length set)) [ inl h ↦ h | inr past ↦ absurd (false≢true (sym (has_past set k past) ∙ e)) ]

pub member : (set : List Bool) (k : ℕ) → Contains (members set) k ↔ IsTrue (has set k)
member set k = (λ h. (passes (has set) (length set) k h).1, λ e. contained (has set) (length set) k (within_bound set k e) e)

-- ---- bit fields

first_bit : (b : Bool) (rest : ℕ) → (eqb (((if b then 1 else 0) + 2 * rest) % 2) 1 ≡ b) × (((if b then 1 else 0) + 2 * rest) / 2 ≡ rest)
first_bit true rest = (let e : (1 + 2 * rest) % 2 ≡ 1 = omega arith in ap (λ (n : ℕ). eqb n 1) e, omega arith)
first_bit false rest = (let e : (0 + 2 * rest) % 2 ≡ 0 = omega arith in ap (λ (n : ℕ). eqb n 1) e, omega arith)

pub bit_of_number : (bits : List Bool) (i : ℕ) → eqb (bit_at (number_of_bits bits) i) 1 ≡ has bits i
bit_of_number [] i = ap (λ (n : ℕ). eqb n 1) (bit_at-zero i)
bit_of_number (b ∷ bits) zero = ap (λ (n : ℕ). eqb n 1) (bit_at_lowest (number_of_bits (b ∷ bits))) ∙ (first_bit b (number_of_bits bits)).0
bit_of_number (b ∷ bits) (suc i) =
    ap (λ (n : ℕ). eqb n 1) (bit_at-suc (number_of_bits (b ∷ bits)) i ∙ ap (λ (n : ℕ). bit_at n i) (first_bit b (number_of_bits bits)).1) ∙ bit_of_number bits i

number_small : (bits : List Bool) → number_of_bits bits < 2 ^ length bits
number_small [] = omega arith
number_small (true ∷ bits) = omega (arith, number_small bits, pow-suc 2 (length bits))
number_small (false ∷ bits) = omega (arith, number_small bits, pow-suc 2 (length bits))

octet_of : List Bool → ℕ → ℕ
octet_of set j = number_of_bits (take 8 (drop (8 * j) set))

has_part : (set : List Bool) (j i : ℕ) → i < 8 → has (take 8 (drop (8 * j) set)) i ≡ has set (8 * j + i)
has_part set j i h = get_or-take 8 (drop (8 * j) set) i false h ∙ get_or-drop (8 * j) set i false

pub field_of_set : BitFieldIsOfItsSet
field_of_set set =
    let f : ℕ → ℕ = λ j. number_of_bits (take 8 (drop (8 * j) set)) in
    let n = field_length (length set) in
    record {
      count = length-map-range_with_len f 0 n;
      bits = λ i. elim (cases_lt (i / 8) n) [
        | inl inside ↦ (
            let octet : get_or (bit_field set) (i / 8) 0 ≡ f (i / 8) = get_or-map-range_with_len f 0 n (i / 8) (i / 8) 0 inside (omega arith) in
            let place : 8 * (i / 8) + i % 8 ≡ i = omega arith in
            ap (λ (m : ℕ). eqb (bit_at m (i % 8)) 1) octet ∙ bit_of_number (take 8 (drop (8 * (i / 8)) set)) (i % 8)
            ∙ has_part set (i / 8) (i % 8) (omega arith) ∙ ap (has set) place)
        | inr past ↦ (
            let long = length-map-range_with_len f 0 n in
            let none : get_or (bit_field set) (i / 8) 0 ≡ 0 = get_or_past (bit_field set) (i / 8) 0 (omega arith) in
            ap (λ (m : ℕ). eqb (bit_at m (i % 8)) 1) none ∙ ap (λ (m : ℕ). eqb m 1) (bit_at-zero (i % 8)) ∙ sym (has_past set i (omega arith)))
      ];
    }

small_part : (set : List Bool) (j : ℕ) → number_of_bits (take 8 (drop (8 * j) set)) < 2 ^ 8
small_part set j =
    let part = take 8 (drop (8 * j) set) in
    let short : length part ≤ 8 = omega (arith, length-take 8 (drop (8 * j) set)) in
    let small = number_small part in
    let most = pow-le-pow_right {n = 2} (lit≤ tt) short in
    omega arith

pub field_small : BitFieldsAreOctets
field_small set i =
    let f : ℕ → ℕ = λ j. number_of_bits (take 8 (drop (8 * j) set)) in
    let n = field_length (length set) in
    elim (cases_lt i n) [
      | inl h ↦ omega (arith, get_or-map-range_with_len f 0 n i i 0 h (omega arith), small_part set i)
      | inr h ↦ (let long = length-map-range_with_len f 0 n in omega (arith, get_or_past (bit_field set) i 0 (omega arith)))
    ]

-- ---- the laws

same_bool : (a b : Bool) → (IsTrue a → IsTrue b) → (IsTrue b → IsTrue a) → a ≡ b
same_bool true true f g = refl
same_bool false false f g = refl
same_bool true false f g = absurd (false≢true (f refl))
same_bool false true f g = absurd (false≢true (g refl))

pub one_set : ReportsNameOneSet
one_set All a b count ra rb = ra ∙ ap every_number count ∙ sym rb
one_set Nothing a b count ra rb = ra ∙ ap no_number count ∙ sym rb
one_set (Bits octets) a b count ra rb = same_sets a b count (λ k. sym (ra.bits k) ∙ rb.bits k)
one_set (Listed numbers) a b count ra rb =
    same_sets a b count (λ k. same_bool (has a k) (has b k) (λ h. (rb k).0 ((ra k).1 h)) (λ h. (ra k).0 ((rb k).1 h)))

pub in_order : ReportsOfASetAreInOrder
in_order All set r = tt
in_order Nothing set r = tt
in_order (Bits octets) set r = (r.count, λ i past. r.bits i ∙ has_past set i past)
in_order (Listed numbers) set r =
    All-from_get_or (λ (k : ℕ). k < length set) numbers.items 0 (λ i h. within_bound set (get_or numbers.items i 0) ((r (get_or numbers.items i 0)).0 (Contains-get_or numbers.items i 0 h)))

all_named : (set : List Bool) → length (members set) ≡ length set → set ≡ every_number (length set)
unfolding counted
all_named set e =
    ext_get_or false set (every_number (length set)) (sym (length-replicate (length set) true))
    (λ k h. all_pass (has set) (length set) e k h ∙ sym (get_or-replicate (length set) k true false h))

none_named : (set : List Bool) → length (members set) ≡ 0 → set ≡ no_number (length set)
unfolding counted
none_named set e =
    ext_get_or false set (no_number (length set)) (sym (length-replicate (length set) false))
    (λ k h. none_pass (has set) (length set) e k h ∙ sym (get_or-replicate (length set) k false false h))

chosen : (set : List Bool) (all none short : Bool) → eqb (length (members set)) (length set) ≡ all → eqb (length (members set)) 0 ≡ none
    → Reports (if all then All else if none then Nothing else if short then Listed (record { items = members set }) else Bits (record { items = bit_field set })) set
chosen set true none short ea en = all_named set (eqb-true (length (members set)) (length set) ea)
chosen set false true short ea en = none_named set (eqb-true (length (members set)) 0 en)
chosen set false false true ea en = λ k. member set k
chosen set false false false ea en = field_of_set set

pub of_a_set : ReportOfASetNamesIt
of_a_set set = chosen set _ _ _ refl refl
