-- The set that a report names.
use Rattle.std.proofs.Common.{◌≡◌, inl, inr, ◌<◌, ◌≤◌, ◌+◌, ◌*◌, ◌/◌, ◌%◌, ◌==◌, ℕ, zero, suc, get_or, List, [], ◌∷◌, refl, sym, ap, ◌∙◌, subst, true, false, Bool, Option, Some, None, eqb, arith, map, length}
use Rattle.std.specs.Prelude.{◌&&◌, ◌||◌, ◌↔◌, not, nat_eq, nat_lt, if◌then◌else◌, Contains, IsTrue, is_some}
use Rattle.std.specs.List.{list_any, list_all, range_with_len, All as AllOf}
use Rattle.std.specs.Int.{bit_at}
use Rattle.std.proofs.lemmas.Bool.{cases_lt, eq-eqb, eqb-true, false≢true}
use Rattle.std.proofs.lemmas.Bool.Decides.{nat_tests}
use Rattle.std.proofs.lemmas.List.{get_or_past, length-replicate}
use Rattle.std.proofs.lemmas.List.Sums.{AllPass-from_list_all, list_all-from_AllPass}
use Rattle.std.proofs.lemmas.List.FromFn.{length-map-range_with_len, get_or-map-range_with_len, length-range_with_len, get_or-range_with_len}
use Rattle.std.proofs.lemmas.Map.Views.{Contains-from_any}
use Rattle.std.proofs.lemmas.Nat.Bits.{bit_at-zero}
use Rattle.mu_model_wire.specs.Reports.{has, every_number, no_number, field_bit, field_length, NamesASet, IsBitField}
use Rattle.mu_model_wire.specs.declared.reports.Report.{Report}
use Rattle.mu_model_wire.specs.declared.reports.Report.TheVariants.{All, Nothing, Bits, List as Listed}
use Rattle.mu_model_client.specs.Sets.{below, all_below, set_of, no_bit_from, named_set}
use Rattle.mu_model_client_laws.specs.Laws.{IsNamed}

map_long : {A : Type 0} (f : ℕ → A) (n : ℕ) → length (map f (below n)) ≡ n
map_long f n = length-map-range_with_len f 0 n

map_has : (f : ℕ → Bool) (n k : ℕ) → k < n → has (map f (below n)) k ≡ f k
map_has f n k lt = let l = map_long f n in get_or-map-range_with_len f 0 n k k false (omega (arith, l, lt)) (omega arith)

map_past : (f : ℕ → Bool) (n k : ℕ) → n ≤ k → has (map f (below n)) k ≡ false
map_past f n k le = let l = map_long f n in get_or_past (map f (below n)) k false (omega (arith, l, le))

-- ---- a bit field

split_and : (a b : Bool) → (a && b) ≡ true → (a ≡ true) × (b ≡ true)
split_and true b h = (refl, h)
split_and false b h = absurd (false≢true h)

not_true : (a b : Bool) → (a || not b) ≡ true → a ≡ false → b ≡ false
not_true a true h e = absurd (false≢true (sym (ap (λ x. x || false) e) ∙ h))
not_true a false h e = refl

past_bit : (octets : List ℕ) (k : ℕ) → 8 * length octets ≤ k → field_bit octets k ≡ false
past_bit octets k le =
    let none : get_or octets (k / 8) 0 ≡ 0 = get_or_past octets (k / 8) 0 (omega (arith, le)) in
    ap (λ m. eqb (bit_at m (k % 8)) 1) none ∙ ap (λ m. eqb m 1) (bit_at-zero (k % 8))

in_bit : (n : ℕ) (octets : List ℕ) → no_bit_from n octets ≡ true → (k : ℕ) → n ≤ k → field_bit octets k ≡ false
in_bit n octets h k le = elim (cases_lt k (8 * length octets)) [
  | inl lt ↦ (
      let all = AllPass-from_list_all (λ i. nat_lt i n || not (field_bit octets i)) (below (8 * length octets)) h in
      let long = length-range_with_len 0 (8 * length octets) in
      let here : (nat_lt (get_or (below (8 * length octets)) k 0) n || not (field_bit octets (get_or (below (8 * length octets)) k 0))) ≡ true = all k 0 (omega (arith, long, lt)) in
      let is : get_or (below (8 * length octets)) k 0 ≡ k = get_or-range_with_len 0 (8 * length octets) k 0 lt ∙ (let z : 0 + k ≡ k = omega arith in z) in
      not_true (nat_lt k n) (field_bit octets k) (sym (ap (λ i. nat_lt i n || not (field_bit octets i)) is) ∙ here) (grind (arith, nat_tests, le)))
  | inr past ↦ past_bit octets k past
]

field_is : (n : ℕ) (octets : List ℕ) → (length octets == field_length n) ≡ true → no_bit_from n octets ≡ true → IsBitField octets (map (field_bit octets) (below n))
field_is n octets long h = record {
  count = eqb-true (length octets) (field_length n) long ∙ ap field_length (sym (map_long (field_bit octets) n));
  bits = λ k. elim (cases_lt k n) [
    | inl lt ↦ sym (map_has (field_bit octets) n k lt)
    | inr le ↦ in_bit n octets h k le ∙ sym (map_past (field_bit octets) n k le)
  ];
}

some_is : (x y : List Bool) → Some x ≡ Some y → x ≡ y
some_is x y e = ap (or_else x) e
  where
    or_else : List Bool → Option (List Bool) → List Bool
    or_else z None = z
    or_else z (Some w) = w

none_some : (x : List Bool) → None ≡ Some x → ⊥
none_some x e = grind (arith, e)

bits_named : (n : ℕ) (octets : List ℕ) (long within : Bool) → (length octets == field_length n) ≡ long → no_bit_from n octets ≡ within → (set : List Bool)
    → (if long && within then Some (map (field_bit octets) (below n)) else None) ≡ Some set → (length set ≡ n) × IsBitField octets set
bits_named n octets true true l w set e = subst (λ x. (length x ≡ n) × IsBitField octets x) (some_is (map (field_bit octets) (below n)) set e) (map_long (field_bit octets) n, field_is n octets l w)
bits_named n octets true false l w set e = absurd (none_some set e)
bits_named n octets false within l w set e = absurd (none_some set e)

-- ---- a list

contains_any : (k : ℕ) (ns : List ℕ) (j : ℕ) → j < length ns → get_or ns j k ≡ k → list_any (nat_eq k) ns ≡ true
contains_any k [] j lt e = absurd (omega (arith, lt))
contains_any k (x ∷ ns) zero lt e = ap (λ b. b || list_any (nat_eq k) ns) (eq-eqb k x (sym e))
contains_any k (x ∷ ns) (suc j) lt e = or_right (nat_eq k x) (list_any (nat_eq k) ns) (contains_any k ns j (omega (arith, lt)) e)
  where
    or_right : (a b : Bool) → b ≡ true → (a || b) ≡ true
    or_right true b h = refl
    or_right false b h = h

member_below : (n : ℕ) (ns : List ℕ) → all_below n ns ≡ true → (k : ℕ) → Contains ns k → k < n
member_below n ns h k c =
    let here : nat_lt (get_or ns c.0 k) n ≡ true = AllPass-from_list_all (λ i. nat_lt i n) ns h c.0 k c.1 in
    let is : nat_lt k n ≡ true = ap (λ i. nat_lt i n) (sym c.2) ∙ here in
    grind (arith, nat_tests, is)

listed_has : (n : ℕ) (ns : List ℕ) → all_below n ns ≡ true → (k : ℕ) → Contains ns k ↔ IsTrue (has (set_of n ns) k)
listed_has n ns h k = (
  (λ c. map_has (λ i. list_any (nat_eq i) ns) n k (member_below n ns h k c) ∙ contains_any k ns c.0 c.1 c.2),
  (λ t. elim (cases_lt k n) [
    | inl lt ↦ Contains-from_any (λ x y e. eqb-true x y e) k ns (sym (map_has (λ i. list_any (nat_eq i) ns) n k lt) ∙ t)
    | inr le ↦ absurd (false≢true (sym (map_past (λ i. list_any (nat_eq i) ns) n k le) ∙ t))
  ]),
)

list_named : (n : ℕ) (ns : List ℕ) (within : Bool) → all_below n ns ≡ within → (set : List Bool) → (if within then Some (set_of n ns) else None) ≡ Some set
    → (length set ≡ n) × ((k : ℕ) → Contains ns k ↔ IsTrue (has set k))
list_named n ns true h set e = subst (λ x. (length x ≡ n) × ((k : ℕ) → Contains ns k ↔ IsTrue (has x k))) (some_is (set_of n ns) set e) (map_long (λ k. list_any (nat_eq k) ns) n, listed_has n ns h)
list_named n ns false h set e = absurd (none_some set e)

-- ---- all reports

pub named_sets : (n : ℕ) (report : Report) (set : List Bool) → named_set n report ≡ Some set → IsNamed n report set
named_sets n All set e = subst (IsNamed n All) (some_is (every_number n) set e) (record { bound = length-replicate n true; reports = ap every_number (sym (length-replicate n true)) })
named_sets n Nothing set e = subst (IsNamed n Nothing) (some_is (no_number n) set e) (record { bound = length-replicate n false; reports = ap no_number (sym (length-replicate n false)) })
named_sets n (Bits octets) set e = (let h = bits_named n octets.items (length octets.items == field_length n) (no_bit_from n octets.items) refl refl set e in record { bound = h.0; reports = h.1 })
named_sets n (Listed numbers) set e = (let h = list_named n numbers.items (all_below n numbers.items) refl set e in record { bound = h.0; reports = h.1 })

-- ---- every report that names a set is read

some_of : (a b : Bool) (x : List Bool) → a ≡ true → b ≡ true → is_some (if a && b then Some x else None) ≡ true
some_of a b x e f = rw (e, f) refl

one_of : (a : Bool) (x : List Bool) → a ≡ true → is_some (if a then Some x else None) ≡ true
one_of a x e = rw e refl

bit_ok : (n : ℕ) (octets : List ℕ) → ((i : ℕ) → n ≤ i → field_bit octets i ≡ false) → (k : ℕ) → (nat_lt k n || not (field_bit octets k)) ≡ true
bit_ok n octets h k = elim (cases_lt k n) [
  | inl lt ↦ (let e : nat_lt k n ≡ true = grind (arith, nat_tests, lt) in ap (λ b. b || not (field_bit octets k)) e)
  | inr le ↦ (let e : nat_lt k n ≡ false = grind (arith, nat_tests, le) in ap (λ b. b || not (field_bit octets k)) e ∙ ap not (h k le))
]

all_ok : (n : ℕ) (octets : List ℕ) → ((i : ℕ) → n ≤ i → field_bit octets i ≡ false) → (m i : ℕ) → list_all (λ k. nat_lt k n || not (field_bit octets k)) (range_with_len i m) ≡ true
all_ok n octets h zero i = refl
all_ok n octets h (suc m) i = ap (λ b. b && list_all (λ k. nat_lt k n || not (field_bit octets k)) (range_with_len (i + 1) m)) (bit_ok n octets h i) ∙ all_ok n octets h m (i + 1)

all_less : (n : ℕ) (ns : List ℕ) → AllOf (λ k. k < n) ns → all_below n ns ≡ true
all_less n ns h = list_all-from_AllPass (λ k. nat_lt k n) ns (λ j d lt. (let l = h j d lt in grind (arith, nat_tests, l)))

pub sets_are_read : (n : ℕ) (report : Report) → NamesASet report n → is_some (named_set n report) ≡ true
sets_are_read n All h = refl
sets_are_read n Nothing h = refl
sets_are_read n (Bits octets) h = some_of (length octets.items == field_length n) (no_bit_from n octets.items) (map (field_bit octets.items) (below n)) (eq-eqb (length octets.items) (field_length n) h.0) (all_ok n octets.items h.1 (8 * length octets.items) 0)
sets_are_read n (Listed numbers) h = one_of (all_below n numbers.items) (set_of n numbers.items) (all_less n numbers.items h)
