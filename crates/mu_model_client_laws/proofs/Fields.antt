-- What is read of a set's bit field, and of its report.
use Rattle.std.proofs.Common.{◌≡◌, ℕ, zero, suc, ◌+◌, ◌*◌, ◌/◌, ◌%◌, ◌^◌, ◌≤◌, ◌<◌, Bool, true, false, eqb, get_or, List, [], ◌∷◌, length, take, drop, if◌then◌else◌, refl, sym, ap, ◌∙◌, arith, inl, inr, map, Some, None}
use Rattle.std.specs.Prelude.{◌==◌, ◌&&◌, ◌||◌, not, nat_lt}
use Rattle.std.specs.List.{range_with_len, list_all}
use Rattle.std.specs.Int.{bit_at}
use Rattle.std.proofs.Math.Nat.{pow-suc}
use Rattle.std.proofs.lemmas.Bool.{cases_lt, eq-eqb, false≢true}
use Rattle.std.proofs.lemmas.Bool.Decides.{nat_tests}
use Rattle.std.proofs.lemmas.List.{get_or_past, get_or-take, get_or-drop, ext_get_or}
use Rattle.std.proofs.lemmas.List.FromFn.{length-map-range_with_len, get_or-map-range_with_len}
use Rattle.std.proofs.lemmas.Nat.Bits.{bit_at-zero, bit_at-suc, bit_at_lowest}
use Rattle.mu_model_wire.specs.Reports.{has, field_length, field_bit, IsBitField, number_of_bits, bit_field}
use Rattle.mu_model_client.specs.Sets.{below, no_bit_from, set_of_field}

has_past : (set : List Bool) (k : ℕ) → length set ≤ k → has set k ≡ false
has_past set k h = get_or_past set k false h

-- ---- bit fields

first_bit : (b : Bool) (rest : ℕ) → (eqb (((if b then 1 else 0) + 2 * rest) % 2) 1 ≡ b) × (((if b then 1 else 0) + 2 * rest) / 2 ≡ rest)
first_bit true rest = (let e : (1 + 2 * rest) % 2 ≡ 1 = omega arith in ap (λ (n : ℕ). eqb n 1) e, omega arith)
first_bit false rest = (let e : (0 + 2 * rest) % 2 ≡ 0 = omega arith in ap (λ (n : ℕ). eqb n 1) e, omega arith)

pub bit_of_number : (bits : List Bool) (i : ℕ) → eqb (bit_at (number_of_bits bits) i) 1 ≡ has bits i
bit_of_number [] i = ap (λ (n : ℕ). eqb n 1) (bit_at-zero i)
bit_of_number (b ∷ bits) zero = ap (λ (n : ℕ). eqb n 1) (bit_at_lowest (number_of_bits (b ∷ bits))) ∙ (first_bit b (number_of_bits bits)).0
bit_of_number (b ∷ bits) (suc i) =
    ap (λ (n : ℕ). eqb n 1) (bit_at-suc (number_of_bits (b ∷ bits)) i ∙ ap (λ (n : ℕ). bit_at n i) (first_bit b (number_of_bits bits)).1) ∙ bit_of_number bits i

number_small : (bits : List Bool) → number_of_bits bits < 2 ^ length bits
number_small [] = omega arith
number_small (true ∷ bits) = omega (arith, number_small bits, pow-suc 2 (length bits))
number_small (false ∷ bits) = omega (arith, number_small bits, pow-suc 2 (length bits))

octet_of : List Bool → ℕ → ℕ
octet_of set j = number_of_bits (take 8 (drop (8 * j) set))

has_part : (set : List Bool) (j i : ℕ) → i < 8 → has (take 8 (drop (8 * j) set)) i ≡ has set (8 * j + i)
has_part set j i h = get_or-take 8 (drop (8 * j) set) i false h ∙ get_or-drop (8 * j) set i false

pub field_of_set : (set : List Bool) → IsBitField (bit_field set) set
field_of_set set =
    let f : ℕ → ℕ = λ j. number_of_bits (take 8 (drop (8 * j) set)) in
    let n = field_length (length set) in
    record {
      count = length-map-range_with_len f 0 n;
      bits = λ i. elim (cases_lt (i / 8) n) [
        | inl inside ↦ (
            let octet : get_or (bit_field set) (i / 8) 0 ≡ f (i / 8) = get_or-map-range_with_len f 0 n (i / 8) (i / 8) 0 inside (omega arith) in
            let place : 8 * (i / 8) + i % 8 ≡ i = omega arith in
            ap (λ (m : ℕ). eqb (bit_at m (i % 8)) 1) octet ∙ bit_of_number (take 8 (drop (8 * (i / 8)) set)) (i % 8)
            ∙ has_part set (i / 8) (i % 8) (omega arith) ∙ ap (has set) place)
        | inr past ↦ (
            let long = length-map-range_with_len f 0 n in
            let none : get_or (bit_field set) (i / 8) 0 ≡ 0 = get_or_past (bit_field set) (i / 8) 0 (omega arith) in
            ap (λ (m : ℕ). eqb (bit_at m (i % 8)) 1) none ∙ ap (λ (m : ℕ). eqb m 1) (bit_at-zero (i % 8)) ∙ sym (has_past set i (omega arith)))
      ];
    }

-- ---- read back

-- no bit is set past the numbers of the set
bit_within : (set : List Bool) (k : ℕ) → (nat_lt k (length set) || not (field_bit (bit_field set) k)) ≡ true
bit_within set k = elim (cases_lt k (length set)) [
  | inl inside ↦ (let e : nat_lt k (length set) ≡ true = grind (arith, nat_tests, inside) in ap (λ b. b || not (field_bit (bit_field set) k)) e)
  | inr past ↦ (
      let none : field_bit (bit_field set) k ≡ false = (field_of_set set).bits k ∙ has_past set k past in
      let e : nat_lt k (length set) ≡ false = grind (arith, nat_tests, past) in
      ap (λ b. b || not (field_bit (bit_field set) k)) e ∙ ap not none)
]

all_within : (set : List Bool) (n i : ℕ) → list_all (λ k. nat_lt k (length set) || not (field_bit (bit_field set) k)) (range_with_len i n) ≡ true
all_within set zero i = refl
all_within set (suc n) i = ap (λ b. b && list_all (λ k. nat_lt k (length set) || not (field_bit (bit_field set) k)) (range_with_len (i + 1) n)) (bit_within set i) ∙ all_within set n (i + 1)

bits_are : (set : List Bool) → map (field_bit (bit_field set)) (below (length set)) ≡ set
bits_are set =
    ext_get_or false (map (field_bit (bit_field set)) (below (length set))) set (length-map-range_with_len (field_bit (bit_field set)) 0 (length set))
    (λ k h. (let n = length-map-range_with_len (field_bit (bit_field set)) 0 (length set) in
    get_or-map-range_with_len (field_bit (bit_field set)) 0 (length set) k k false (omega (arith, n, h)) (omega arith) ∙ (field_of_set set).bits k))

pub field_is_read : (set : List Bool) → set_of_field (length set) (bit_field set) ≡ Some set
field_is_read set =
    let long : (length (bit_field set) == field_length (length set)) ≡ true = eq-eqb _ _ (field_of_set set).count in
    let within : no_bit_from (length set) (bit_field set) ≡ true = all_within set (8 * length (bit_field set)) 0 in
    by_tests (length (bit_field set) == field_length (length set)) (no_bit_from (length set) (bit_field set)) long within
  where
    by_tests : (a b : Bool) → a ≡ true → b ≡ true → (if a && b then Some (map (field_bit (bit_field set)) (below (length set))) else None) ≡ Some set
    by_tests true true e f = ap Some (bits_are set)
    by_tests true false e f = absurd (false≢true f)
    by_tests false b e f = absurd (false≢true e)
