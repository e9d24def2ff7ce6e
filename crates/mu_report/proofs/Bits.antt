-- Sets of numbers in words, bit by bit.
use Rattle.std.proofs.Common.{◌≡◌, ◌≢◌, ℕ, ◌-◌, ◌+◌, ◌*◌, ◌/◌, ◌%◌, ◌^◌, ◌≤◌, ◌<◌, Bool, true, false, eqb, not, ◌&&◌, ◌||◌, get_or, set, replicate, List, length, bit_and, bit_or, refl, sym, ap, ◌∙◌, arith, ◌⊎◌, inl, inr}
use Rattle.std.specs.Int.{bit_at, bit_not, w64}
use Rattle.std.proofs.lemmas.Bool.{cases_lt, cases_eq}
use Rattle.std.proofs.lemmas.List.{get_or-set_same, get_or-set_other, get_or-replicate, get_or_past, ext_get_or, length-set, length-replicate, set_past}
use Rattle.std.proofs.lemmas.List.FromFn.{length-map-range_with_len, get_or-map-range_with_len}
use Rattle.std.proofs.lemmas.Nat.Bits.{bit_at-lt, bit_at-zero, bit_at_and, bit_at_or, bit_at_not, bit_at_set_same, bit_at_set_other, bit_at_clear_same, bit_at_clear_other, shr_and_one}
use Rattle.mu_model_wire.specs.Reports.{has, no_number}
use Rattle.mu_report.specs.Words.{bit, word_bit, set_of_words, AreWords}

-- ---- sets as lists

pub same_sets : (a b : List Bool) → length a ≡ length b → ((k : ℕ) → k < length a → has a k ≡ has b k) → a ≡ b
same_sets a b count each = ext_get_or false a b count each

pub set-length : (words : List ℕ) (bound : ℕ) → length (set_of_words words bound) ≡ bound
unfolding set_of_words
set-length words bound = length-map-range_with_len (word_bit words) 0 bound

below_bound : (words : List ℕ) (bound k : ℕ) → k < bound → has (set_of_words words bound) k ≡ word_bit words k
unfolding set_of_words
below_bound words bound k h = get_or-map-range_with_len (word_bit words) 0 bound k k false h (omega arith)

-- a number is in the set where its bit is set
pub has-set : (words : List ℕ) (bound k : ℕ) → AreWords words bound → has (set_of_words words bound) k ≡ word_bit words k
has-set words bound k are =
    elim (cases_lt k bound) [
      | inl h ↦ below_bound words bound k h
      | inr h ↦ get_or_past (set_of_words words bound) k false (let count = set-length words bound in omega arith) ∙ sym (are.past k h)
    ]

-- a set that has the bits of the words is theirs
pub set_is : (words : List ℕ) (bound : ℕ) (set : List Bool) → length set ≡ bound → ((k : ℕ) → k < bound → word_bit words k ≡ has set k) → set_of_words words bound ≡ set
set_is words bound set count each =
    let long = set-length words bound in
    same_sets (set_of_words words bound) set (omega arith) (λ k h. below_bound words bound k (omega arith) ∙ each k (omega arith))

-- ---- bits

zero_or_one : (n j : ℕ) → (bit_at n j ≡ 0) ⊎ (bit_at n j ≡ 1)
zero_or_one n j = let small = bit_at-lt n j in elim (cases_lt (bit_at n j) 1) [ inl h ↦ inl (omega arith) | inr h ↦ inr (omega arith) ]

pub bit-and : (a b j : ℕ) → bit (bit_and a b) j ≡ (bit a j && bit b j)
bit-and a b j =
    elim (zero_or_one a j) [
      | inl za ↦ rw (bit_at_and a b j, za) (elim (zero_or_one b j) [ inl zb ↦ rw zb refl | inr ob ↦ rw ob refl ])
      | inr oa ↦ rw (bit_at_and a b j, oa) (elim (zero_or_one b j) [ inl zb ↦ rw zb refl | inr ob ↦ rw ob refl ])
    ]

pub bit-or : (a b j : ℕ) → bit (bit_or a b) j ≡ (bit a j || bit b j)
bit-or a b j =
    elim (zero_or_one a j) [
      | inl za ↦ rw (bit_at_or a b j, za) (elim (zero_or_one b j) [ inl zb ↦ rw zb refl | inr ob ↦ rw ob refl ])
      | inr oa ↦ rw (bit_at_or a b j, oa) (elim (zero_or_one b j) [ inl zb ↦ rw zb refl | inr ob ↦ rw ob refl ])
    ]

pub bit-not : (a j : ℕ) → a < 2 ^ 64 → j < 64 → bit (bit_not w64 a) j ≡ not (bit a j)
bit-not a j fits h =
    let e : bit_at (bit_not w64 a) j ≡ 1 - bit_at a j = bit_at_not w64 a j fits h in
    elim (zero_or_one a j) [ inl z ↦ rw (e, z) refl | inr o ↦ rw (e, o) refl ]

-- ---- one number

same_number : (j k : ℕ) → j / 64 ≡ k / 64 → j % 64 ≡ k % 64 → j ≡ k
same_number j k e f = omega arith

bit_same : (words : List ℕ) (k v : ℕ) → k / 64 < length words → word_bit (set words (k / 64) v) k ≡ bit v (k % 64)
unfolding word_bit
bit_same words k v inside = ap (λ (w : ℕ). bit w (k % 64)) (get_or-set_same words (k / 64) v 0 inside)

bit_beside : (words : List ℕ) (k j v : ℕ) → j / 64 ≢ k / 64 → word_bit (set words (k / 64) v) j ≡ word_bit words j
unfolding word_bit
bit_beside words k j v apart = ap (λ (w : ℕ). bit w (j % 64)) (get_or-set_other words (k / 64) (j / 64) v 0 apart)

pub set_same : (words : List ℕ) (k : ℕ) → k / 64 < length words → word_bit (set words (k / 64) (bit_or (get_or words (k / 64) 0) (1 * 2 ^ (k % 64) % 2 ^ 64))) k ≡ true
set_same words k inside =
    bit_same words k _ inside ∙ ap (λ (n : ℕ). eqb n 1) (bit_at_set_same w64 (get_or words (k / 64) 0) (k % 64) (omega arith))

pub clear_same : (words : List ℕ) (k : ℕ) → k / 64 < length words → word_bit (set words (k / 64) (bit_and (get_or words (k / 64) 0) (bit_not w64 (1 * 2 ^ (k % 64) % 2 ^ 64)))) k ≡ false
clear_same words k inside =
    bit_same words k _ inside ∙ ap (λ (n : ℕ). eqb n 1) (bit_at_clear_same w64 (get_or words (k / 64) 0) (k % 64) (omega arith))

-- another number, in the same word or in another
other_bit : (words : List ℕ) (k j v : ℕ) → k / 64 < length words → j ≢ k → (j % 64 ≢ k % 64 → bit_at v (j % 64) ≡ bit_at (get_or words (k / 64) 0) (j % 64))
    → word_bit (set words (k / 64) v) j ≡ word_bit words j
unfolding word_bit
other_bit words k j v inside apart kept =
    elim (cases_eq (j / 64) (k / 64)) [
      | inl same ↦ ap (λ (i : ℕ). bit (get_or (set words (k / 64) v) i 0) (j % 64)) same
          ∙ ap (λ (w : ℕ). bit w (j % 64)) (get_or-set_same words (k / 64) v 0 inside)
          ∙ ap (λ (n : ℕ). eqb n 1) (kept (λ e. apart (same_number j k same e)))
          ∙ ap (λ (i : ℕ). bit (get_or words i 0) (j % 64)) (sym same)
      | inr differ ↦ bit_beside words k j v differ
    ]

pub set_other : (words : List ℕ) (k j : ℕ) → k / 64 < length words → j ≢ k → word_bit (set words (k / 64) (bit_or (get_or words (k / 64) 0) (1 * 2 ^ (k % 64) % 2 ^ 64))) j ≡ word_bit words j
set_other words k j inside apart = other_bit words k j _ inside apart (λ e. bit_at_set_other w64 (get_or words (k / 64) 0) (k % 64) (omega arith) (j % 64) e)

pub clear_other : (words : List ℕ) (k j : ℕ) → k / 64 < length words → j ≢ k → word_bit (set words (k / 64) (bit_and (get_or words (k / 64) 0) (bit_not w64 (1 * 2 ^ (k % 64) % 2 ^ 64)))) j ≡ word_bit words j
clear_other words k j inside apart = other_bit words k j _ inside apart (λ e. bit_at_clear_other w64 (get_or words (k / 64) 0) (k % 64) (omega arith) (j % 64) (omega arith) e)

-- ---- whole sets

pub bound_is : (words : List ℕ) (bound : ℕ) (set : List Bool) → set_of_words words bound ≡ set → bound ≡ length set
bound_is words bound set e = sym (set-length words bound) ∙ ap (length {A = Bool}) e

no_bit : (k : ℕ) → word_bit (replicate 32 0) k ≡ false
unfolding word_bit
no_bit k =
    let zero_word : get_or (replicate 32 0) (k / 64) 0 ≡ 0 =
    elim (cases_lt (k / 64) 32) [ inl h ↦ get_or-replicate 32 (k / 64) 0 0 h | inr h ↦ get_or_past (replicate 32 0) (k / 64) 0 h ] in
    ap (λ (w : ℕ). bit w (k % 64)) zero_word ∙ ap (λ (n : ℕ). eqb n 1) (bit_at-zero (k % 64))

pub empty : (n : ℕ) → set_of_words (replicate 32 0) n ≡ no_number n
empty n = set_is (replicate 32 0) n (no_number n) (length-replicate n false) (λ k h. no_bit k ∙ sym (get_or-replicate n k false false h))

pub empty_words : (n : ℕ) → n ≤ 2048 → AreWords (replicate 32 0) n
empty_words n most = record { most = most; count = refl; past = λ k h. no_bit k }

-- a number is added
pub insert_words : (words : List ℕ) (bound k : ℕ) → AreWords words bound → k < bound
    → AreWords (set words (k / 64) (bit_or (get_or words (k / 64) 0) (1 * 2 ^ (k % 64) % 2 ^ 64))) bound
insert_words words bound k are inside =
    let most = are.most in
    let count = are.count in
    record {
      most = are.most;
      count = length-set words (k / 64) _ ∙ are.count;
      past = λ j h. set_other words k j (omega arith) (λ (e : j ≡ k). omega arith) ∙ are.past j h;
    }

pub insert_set : (words : List ℕ) (bound k : ℕ) → AreWords words bound → k < bound
    → set_of_words (set words (k / 64) (bit_or (get_or words (k / 64) 0) (1 * 2 ^ (k % 64) % 2 ^ 64))) bound ≡ set (set_of_words words bound) k true
insert_set words bound k are inside =
    let old = set_of_words words bound in
    let most = are.most in
    let count = are.count in
    let long = set-length words bound in
    let place : k / 64 < length words = omega arith in
    set_is _ bound (set old k true) (length-set old k true ∙ long) (λ j h.
    elim (cases_eq j k) [
      | inl same ↦ ap (word_bit _) same ∙ set_same words k place ∙ sym (ap (has (set old k true)) same ∙ get_or-set_same old k true false (omega arith))
      | inr other ↦ set_other words k j place other ∙ sym (has-set words bound j are) ∙ sym (get_or-set_other old k j true false other)
    ])

-- a number is taken out
pub remove_words : (words : List ℕ) (bound k : ℕ) → AreWords words bound → k < bound
    → AreWords (set words (k / 64) (bit_and (get_or words (k / 64) 0) (bit_not w64 (1 * 2 ^ (k % 64) % 2 ^ 64)))) bound
remove_words words bound k are inside =
    let most = are.most in
    let count = are.count in
    record {
      most = are.most;
      count = length-set words (k / 64) _ ∙ are.count;
      past = λ j h. clear_other words k j (omega arith) (λ (e : j ≡ k). omega arith) ∙ are.past j h;
    }

pub remove_set : (words : List ℕ) (bound k : ℕ) → AreWords words bound → k < bound
    → set_of_words (set words (k / 64) (bit_and (get_or words (k / 64) 0) (bit_not w64 (1 * 2 ^ (k % 64) % 2 ^ 64)))) bound ≡ set (set_of_words words bound) k false
remove_set words bound k are inside =
    let old = set_of_words words bound in
    let most = are.most in
    let count = are.count in
    let long = set-length words bound in
    let place : k / 64 < length words = omega arith in
    set_is _ bound (set old k false) (length-set old k false ∙ long) (λ j h.
    elim (cases_eq j k) [
      | inl same ↦ ap (word_bit _) same ∙ clear_same words k place ∙ sym (ap (has (set old k false)) same ∙ get_or-set_same old k false false (omega arith))
      | inr other ↦ clear_other words k j place other ∙ sym (has-set words bound j are) ∙ sym (get_or-set_other old k j false false other)
    ])

pub remove_past : (words : List ℕ) (bound k : ℕ) → bound ≤ k → set_of_words words bound ≡ set (set_of_words words bound) k false
remove_past words bound k h = sym (set_past (set_of_words words bound) k false (let long = set-length words bound in omega arith))

-- the test of a bit
pub tested : (words : List ℕ) (k : ℕ) → word_bit words k ≡ eqb (bit_and (get_or words (k / 64) 0 / 2 ^ (k % 64)) 1) 1
unfolding word_bit
tested words k = ap (λ (n : ℕ). eqb n 1) (sym (shr_and_one (get_or words (k / 64) 0) (k % 64)))

-- ---- word by word

-- one word more has its bits
pub word_step : (words : List ℕ) (index v : ℕ) (P : ℕ → Bool) → index < length words
    → ((k : ℕ) → k < 64 * index → word_bit words k ≡ P k) → ((j : ℕ) → j < 64 → bit v j ≡ P (64 * index + j))
    → (k : ℕ) → k < 64 * (index + 1) → word_bit (set words index v) k ≡ P k
unfolding word_bit
word_step words index v P inside before here k h =
    elim (cases_eq (k / 64) index) [
      | inl same ↦ ap (λ (i : ℕ). bit (get_or (set words index v) i 0) (k % 64)) same
          ∙ ap (λ (w : ℕ). bit w (k % 64)) (get_or-set_same words index v 0 inside)
          ∙ here (k % 64) (omega arith)
          ∙ ap P (omega arith)
      | inr other ↦ ap (λ (w : ℕ). bit w (k % 64)) (get_or-set_other words index (k / 64) v 0 other) ∙ before k (omega arith)
    ]

-- the words after it have theirs still
pub word_after : (words : List ℕ) (index v : ℕ) (P : ℕ → Bool)
    → ((k : ℕ) → 64 * index ≤ k → word_bit words k ≡ P k)
    → (k : ℕ) → 64 * (index + 1) ≤ k → word_bit (set words index v) k ≡ P k
unfolding word_bit
word_after words index v P after k h =
    ap (λ (w : ℕ). bit w (k % 64)) (get_or-set_other words index (k / 64) v 0 (λ (e : k / 64 ≡ index). omega arith)) ∙ after k (omega arith)

-- bit j of word `index` is that of its number
pub bit-word : (words : List ℕ) (index j : ℕ) → j < 64 → word_bit words (64 * index + j) ≡ bit (get_or words index 0) j
unfolding word_bit
bit-word words index j h =
    ap (λ (i : ℕ). bit (get_or words i 0) ((64 * index + j) % 64)) (omega arith) ∙ ap (bit (get_or words index 0)) (omega arith)

-- past the last word there is nothing
pub no_word : (words : List ℕ) (k : ℕ) → 64 * length words ≤ k → word_bit words k ≡ false
unfolding word_bit
no_word words k h =
    ap (λ (w : ℕ). bit w (k % 64)) (get_or_past words (k / 64) 0 (omega arith)) ∙ ap (λ (n : ℕ). eqb n 1) (bit_at-zero (k % 64))
