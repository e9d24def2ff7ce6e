-- Words with the bits of the numbers below a bound.
use Rattle.std.proofs.Common.{◌≡◌, ℕ, Some, ◌-◌, ◌+◌, ◌*◌, ◌%◌, ◌^◌, ◌≤◌, ◌<◌, Bool, true, false, eqb, ltb, not, ◌&&◌, ◌||◌, get_or, set, List, length, bit_and, bit_or, refl, sym, ap, ◌∙◌, arith, inl, inr}
use Rattle.std.specs.Int.{bit_not, trailing_zeros, w64}
use Rattle.std.proofs.lemmas.Bool.{cases_lt, lt-ltb, le-ltb, ltb-false, false≢true}
use Rattle.std.proofs.lemmas.List.{get_or-map, length-map}
use Rattle.std.proofs.lemmas.List.FromFn.{length-map-range_with_len, get_or-map-range_with_len}
use Rattle.std.proofs.lemmas.Nat.{one_shl}
use Rattle.std.proofs.lemmas.Nat.Bits.{bit_at-zero, bit_at_ones, bit_at_ones_above, bit_at-trailing_zeros}
use Rattle.mu_model_wire.specs.Reports.{has, complement, union, IsFirstFrom}
use Rattle.mu_report.specs.Words.{bit, word_bit, set_of_words, AreWords, AreBitsBelow}
use Rattle.mu_report.proofs.Bits.{bit-and, bit-or, bit-not, bit-word, no_word, set_is, set-length, has-set, word_step, word_after}

pub every_bit : (k index : ℕ) → 64 * index + 64 ≤ k → AreBitsBelow k index 18446744073709551615
unfolding AreBitsBelow
every_bit k index all j h = ap (λ (n : ℕ). eqb n 1) (bit_at_ones 64 j h) ∙ sym (lt-ltb (64 * index + j) k (omega arith))

pub no_bits : (k index : ℕ) → k ≤ 64 * index → AreBitsBelow k index 0
unfolding AreBitsBelow
no_bits k index none j h = ap (λ (n : ℕ). eqb n 1) (bit_at-zero j) ∙ sym (le-ltb (64 * index + j) k (omega arith))

pub some_bits : (k index : ℕ) → 64 * index < k → k < 64 * index + 64 → AreBitsBelow k index ((1 * 2 ^ (k - 64 * index)) % 18446744073709551616 - 1)
unfolding AreBitsBelow
some_bits k index some few j h =
    let m = k - 64 * index in
    let ones : (1 * 2 ^ m) % 2 ^ 64 - 1 ≡ 2 ^ m - 1 = ap (λ (x : ℕ). x - 1) (one_shl m 64 (omega arith)) in
    ap (λ (x : ℕ). bit x j) ones
    ∙ elim (cases_lt j m) [
      | inl low ↦ ap (λ (n : ℕ). eqb n 1) (bit_at_ones m j low) ∙ sym (lt-ltb (64 * index + j) k (omega arith))
      | inr high ↦ ap (λ (n : ℕ). eqb n 1) (bit_at_ones_above m j high) ∙ sym (le-ltb (64 * index + j) k (omega arith))
    ]

-- ---- the numbers that are not in a set

-- whether a number below a bound isn't in
abbrev pub out : List ℕ → ℕ → ℕ → Bool
out words bound k = not (word_bit words k) && ltb k bound

pub missing_step : (words made : List ℕ) (bound index mask : ℕ) → index < length made → get_or words index 0 < 2 ^ 64 → AreBitsBelow bound index mask
    → ((k : ℕ) → k < 64 * index → word_bit made k ≡ out words bound k)
    → (k : ℕ) → k < 64 * (index + 1) → word_bit (set made index (bit_and (bit_not w64 (get_or words index 0)) mask)) k ≡ out words bound k
unfolding AreBitsBelow
missing_step words made bound index mask inside fits below before =
    word_step made index (bit_and (bit_not w64 (get_or words index 0)) mask) (out words bound) inside before
    (λ j h. bit-and (bit_not w64 (get_or words index 0)) mask j
    ∙ ap (λ (b : Bool). b && bit mask j) (bit-not (get_or words index 0) j fits h ∙ ap not (sym (bit-word words index j h)))
    ∙ ap (λ (b : Bool). not (word_bit words (64 * index + j)) && b) (below j h))

and_false : (b : Bool) → (b && false) ≡ false
and_false true = refl
and_false false = refl

and_true : (b : Bool) → (b && true) ≡ b
and_true true = refl
and_true false = refl

pub missing_words : (words made : List ℕ) (bound : ℕ) → bound ≤ 2048 → length made ≡ 32
    → ((k : ℕ) → k < 2048 → word_bit made k ≡ out words bound k) → AreWords made bound
missing_words words made bound most count each = record {
  most = most;
  count = count;
  past = λ k h. elim (cases_lt k 2048) [
    | inl inside ↦ each k inside ∙ ap (λ (b : Bool). not (word_bit words k) && b) (le-ltb k bound h) ∙ and_false (not (word_bit words k))
    | inr outside ↦ no_word made k (omega arith)
  ];
}

pub missing_set : (words made : List ℕ) (bound : ℕ) → AreWords words bound
    → ((k : ℕ) → k < 2048 → word_bit made k ≡ out words bound k) → set_of_words made bound ≡ complement (set_of_words words bound)
missing_set words made bound are each =
    let long = set-length words bound in
    let most = are.most in
    set_is made bound (complement (set_of_words words bound)) (length-map (set_of_words words bound) not ∙ long)
    (λ k h. each k (omega arith) ∙ ap (λ (b : Bool). not (word_bit words k) && b) (lt-ltb k bound h) ∙ and_true (not (word_bit words k))
    ∙ ap not (sym (has-set words bound k are)) ∙ sym (get_or-map not (set_of_words words bound) k false false (omega arith)))

-- ---- the union of two sets

pub record United (old new other : List ℕ) (index : ℕ) : Type 0 where
  pub done : (k : ℕ) → k < 64 * index → word_bit new k ≡ (word_bit old k || word_bit other k)
  pub left : (k : ℕ) → 64 * index ≤ k → word_bit new k ≡ word_bit old k

pub united_start : (old other : List ℕ) → United old old other 0
united_start old other = record { done = λ k h. absurd (omega arith); left = λ k h. refl }

pub united_step : (old new other : List ℕ) (index : ℕ) → index < length new → United old new other index
    → United old (set new index (bit_or (get_or new index 0) (get_or other index 0))) other (index + 1)
united_step old new other index inside so_far = record {
  done = word_step new index (bit_or (get_or new index 0) (get_or other index 0)) (λ k. word_bit old k || word_bit other k) inside so_far.done
      (λ j h. bit-or (get_or new index 0) (get_or other index 0) j
      ∙ ap (λ (b : Bool). b || bit (get_or other index 0) j) (sym (bit-word new index j h) ∙ so_far.left (64 * index + j) (omega arith))
      ∙ ap (λ (b : Bool). word_bit old (64 * index + j) || b) (sym (bit-word other index j h)));
  left = word_after new index (bit_or (get_or new index 0) (get_or other index 0)) (word_bit old) so_far.left;
}

united_at : (old new other : List ℕ) (k : ℕ) → United old new other 32 → length old ≡ 32 → length new ≡ 32 → length other ≡ 32 → word_bit new k ≡ (word_bit old k || word_bit other k)
united_at old new other k all a b c =
    elim (cases_lt k 2048) [
      | inl inside ↦ all.done k inside
      | inr outside ↦ no_word new k (omega arith) ∙ sym (no_word other k (omega arith)) ∙ ap (λ (x : Bool). x || word_bit other k) (sym (no_word old k (omega arith)))
    ]

pub union_words : (old new other : List ℕ) (bound : ℕ) → AreWords old bound → AreWords other bound → length new ≡ 32 → United old new other 32 → AreWords new bound
union_words old new other bound are others count all = record {
  most = are.most;
  count = count;
  past = λ k h. united_at old new other k all are.count count others.count ∙ ap (λ (x : Bool). x || word_bit other k) (are.past k h) ∙ others.past k h;
}

pub union_set : (old new other : List ℕ) (bound : ℕ) → AreWords old bound → AreWords other bound → length new ≡ 32 → United old new other 32
    → set_of_words new bound ≡ union (set_of_words old bound) (set_of_words other bound)
union_set old new other bound are others count all =
    let a = set_of_words old bound in
    let b = set_of_words other bound in
    let long = set-length old bound in
    set_is new bound (union a b) (length-map-range_with_len (λ (k : ℕ). has a k || has b k) 0 (length a) ∙ long)
    (λ k h. united_at old new other k all are.count count others.count
    ∙ ap (λ (x : Bool). x || word_bit other k) (sym (has-set old bound k are))
    ∙ ap (λ (x : Bool). has a k || x) (sym (has-set other bound k others))
    ∙ sym (get_or-map-range_with_len (λ (i : ℕ). has a i || has b i) 0 (length a) k k false (omega arith) (omega arith)))

-- ---- the first number from a place

pub first_bit : (words : List ℕ) (index mask k j : ℕ) → AreBitsBelow k index mask → mask < 2 ^ 64 → j < 64
    → bit (bit_and (get_or words index 0) (bit_not w64 mask)) j ≡ (word_bit words (64 * index + j) && not (ltb (64 * index + j) k))
unfolding AreBitsBelow
first_bit words index mask k j below fits h =
    bit-and (get_or words index 0) (bit_not w64 mask) j
    ∙ ap (λ (b : Bool). b && bit (bit_not w64 mask) j) (sym (bit-word words index j h))
    ∙ ap (λ (b : Bool). word_bit words (64 * index + j) && b) (bit-not mask j fits h ∙ ap not (below j h))

pub some_first : (b : Bool) (low : Bool) → (b && not low) ≡ true → (b ≡ true) × (low ≡ false)
some_first true false e = (refl, refl)
some_first true true e = absurd cc
some_first false low e = absurd cc

not_first : (b low : Bool) → (b && not low) ≡ false → low ≡ false → b ≡ false
not_first true true e f = absurd cc
not_first true false e f = absurd cc
not_first false low e f = refl

-- the first number that a word has from k on
pub found : (words : List ℕ) (index mask k : ℕ) (bound : ℕ) → AreWords words bound → AreBitsBelow k index mask → mask < 2 ^ 64
    → ((i : ℕ) → k ≤ i → i < 64 * index → word_bit words i ≡ false)
    → (word : ℕ) → word ≡ bit_and (get_or words index 0) (bit_not w64 mask) → 0 < word → word < 2 ^ 64
    → IsFirstFrom (set_of_words words bound) k (Some (64 * index + trailing_zeros w64 word)) × (64 * index + trailing_zeros w64 word < bound)
found words index mask k bound are below fits before word is some small =
    let zeros = bit_at-trailing_zeros w64 word some small in
    let j = trailing_zeros w64 word in
    let here : bit word j ≡ true = ap (λ (n : ℕ). eqb n 1) zeros.1 in
    let split = some_first (word_bit words (64 * index + j)) (ltb (64 * index + j) k)
    (sym (first_bit words index mask k j below fits zeros.0) ∙ ap (λ (w : ℕ). bit w j) (sym is) ∙ here) in
    let least : k ≤ 64 * index + j = ltb-false (64 * index + j) k split.1 in
    let earlier : (i : ℕ) → k ≤ i → i < 64 * index + j → word_bit words i ≡ false = λ i low high.
    elim (cases_lt i (64 * index)) [
      | inl front ↦ before i low front
      | inr inside ↦
          let place : 64 * index + (i - 64 * index) ≡ i = omega arith in
          let clear : bit word (i - 64 * index) ≡ false = ap (λ (n : ℕ). eqb n 1) (zeros.2 (i - 64 * index) (omega arith)) in
          ap (word_bit words) (sym place)
          ∙ not_first (word_bit words (64 * index + (i - 64 * index))) (ltb (64 * index + (i - 64 * index)) k)
          (sym (first_bit words index mask k (i - 64 * index) below fits (omega arith)) ∙ ap (λ (w : ℕ). bit w (i - 64 * index)) (sym is) ∙ clear)
          (le-ltb (64 * index + (i - 64 * index)) k (omega arith))
    ] in
    let within : 64 * index + j < bound = elim (cases_lt (64 * index + j) bound) [
      | inl h ↦ h
      | inr past ↦ absurd (false≢true (sym (are.past (64 * index + j) past) ∙ split.0))
    ] in
    ((least, has-set words bound (64 * index + j) are ∙ split.0, λ i low high. has-set words bound i are ∙ earlier i low high), within)

-- a word that has none
pub not_found : (words : List ℕ) (index mask k : ℕ) → AreBitsBelow k index mask → mask < 2 ^ 64
    → ((i : ℕ) → k ≤ i → i < 64 * index → word_bit words i ≡ false)
    → bit_and (get_or words index 0) (bit_not w64 mask) ≡ 0
    → (i : ℕ) → k ≤ i → i < 64 * (index + 1) → word_bit words i ≡ false
not_found words index mask k below fits before none i low high =
    elim (cases_lt i (64 * index)) [
      | inl front ↦ before i low front
      | inr inside ↦
          let place : 64 * index + (i - 64 * index) ≡ i = omega arith in
          ap (word_bit words) (sym place)
          ∙ not_first (word_bit words (64 * index + (i - 64 * index))) (ltb (64 * index + (i - 64 * index)) k)
          (sym (first_bit words index mask k (i - 64 * index) below fits (omega arith)) ∙ ap (λ (w : ℕ). bit w (i - 64 * index)) none ∙ ap (λ (n : ℕ). eqb n 1) (bit_at-zero (i - 64 * index)))
          (le-ltb (64 * index + (i - 64 * index)) k (omega arith))
    ]

-- a word that has one that is k or more
pub some_past : (words : List ℕ) (index mask k : ℕ) → AreBitsBelow k index mask → mask < 2 ^ 64
    → (word : ℕ) → word ≡ bit_and (get_or words index 0) (bit_not w64 mask) → 0 < word → word < 2 ^ 64
    → ((i : ℕ) → k ≤ i → word_bit words i ≡ false) → ⊥
some_past words index mask k below fits word is some small none =
    let zeros = bit_at-trailing_zeros w64 word some small in
    let j = trailing_zeros w64 word in
    let here : bit word j ≡ true = ap (λ (n : ℕ). eqb n 1) zeros.1 in
    let split = some_first (word_bit words (64 * index + j)) (ltb (64 * index + j) k)
    (sym (first_bit words index mask k j below fits zeros.0) ∙ ap (λ (w : ℕ). bit w j) (sym is) ∙ here) in
    let least : k ≤ 64 * index + j = ltb-false (64 * index + j) k split.1 in
    false≢true (sym (none (64 * index + j) least) ∙ split.0)
