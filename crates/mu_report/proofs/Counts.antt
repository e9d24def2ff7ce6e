-- How many numbers are in a set, word by word.
use Rattle.std.proofs.Common.{◌≡◌, ℕ, zero, suc, ◌-◌, ◌+◌, ◌*◌, ◌/◌, ◌%◌, ◌^◌, ◌≤◌, ◌<◌, Bool, true, false, cond, eqb, get_or, List, [], ◌∷◌, ◌++◌, length, refl, sym, ap, ◌∙◌, arith, add-one, length-append}
use Rattle.std.specs.List.{range_with_len, filter}
use lib.Count.{ones}
use Rattle.std.proofs.Math.Nat.{pow-suc, mod-eq_of_lt}
use Rattle.std.proofs.lemmas.List.{map-id}
use Rattle.std.proofs.lemmas.List.FromFn.{filter_of_map_range_with_len_more}
use Rattle.std.proofs.lemmas.Nat.{ones_cat, shr_split, mod_below, pow_pos, div_below}
use Rattle.std.proofs.lemmas.Nat.Bits.{bit_at_cat_low}
use Rattle.mu_model_wire.specs.Reports.{has, members}
use Rattle.mu_report.specs.Words.{bit, word_bit, set_of_words, AreWords, count_below}
use Rattle.mu_report.proofs.Bits.{has-set, set-length, bit-word}

pub count-zero : (p : ℕ → Bool) → count_below p 0 ≡ 0
unfolding count_below
count-zero p = refl

length_one : (b : Bool) (n : ℕ) → length (cond b (n ∷ []) []) ≡ cond b 1 0
length_one true n = refl
length_one false n = refl

pub count-suc : (p : ℕ → Bool) (n : ℕ) → count_below p (n + 1) ≡ count_below p n + cond (p n) 1 0
unfolding count_below
count-suc p n =
    let more = filter_of_map_range_with_len_more p (λ (k : ℕ). k) 0 n n (omega arith) in
    let plain : filter p (range_with_len 0 (n + 1)) ≡ filter p (range_with_len 0 n) ++ cond (p n) (n ∷ []) [] =
    ap (filter p) (sym (map-id (range_with_len 0 (n + 1)))) ∙ more ∙ ap (λ (xs : List ℕ). filter p xs ++ cond (p n) (n ∷ []) []) (map-id (range_with_len 0 n)) in
    ap (length {A = ℕ}) plain ∙ length-append (filter p (range_with_len 0 n)) (cond (p n) (n ∷ []) []) ∙ ap (λ (k : ℕ). length (filter p (range_with_len 0 n)) + k) (length_one (p n) n)

-- by recursion
below : (ℕ → Bool) → ℕ → ℕ
below p zero = 0
below p (suc n) = below p n + cond (p n) 1 0

count-below : (p : ℕ → Bool) (n : ℕ) → count_below p n ≡ below p n
unfolding below
count-below p zero = count-zero p
count-below p (suc n) = ap (count_below p) (sym (add-one n)) ∙ count-suc p n ∙ ap (λ (k : ℕ). k + cond (p n) 1 0) (count-below p n)

below_same : (p q : ℕ → Bool) (n : ℕ) → ((k : ℕ) → k < n → p k ≡ q k) → below p n ≡ below q n
unfolding below
below_same p q zero each = refl
below_same p q (suc n) each = rw (below_same p q n (λ k h. each k (omega arith)), each n (omega arith)) refl

below_none : (p : ℕ → Bool) (n : ℕ) → ((k : ℕ) → k < n → p k ≡ false) → below p n ≡ 0
unfolding below
below_none p zero each = refl
below_none p (suc n) each = rw (below_none p n (λ k h. each k (omega arith)), each n (omega arith)) refl

below_le : (p : ℕ → Bool) (n : ℕ) → below p n ≤ n
unfolding below
below_le p zero = omega arith
below_le p (suc n) = let less = below_le p n in elim (p n) as (λ b. below p n + cond b 1 0 ≤ suc n) [ true ↦ omega arith | false ↦ omega arith ]

below_add : (p : ℕ → Bool) (a b : ℕ) → below p (a + b) ≡ below p a + below (λ k. p (a + k)) b
unfolding below
below_add p a zero =
    let turn : a + 0 ≡ a = omega arith in
    let sum : below p a ≡ below p a + 0 = omega arith in
    ap (below p) turn ∙ sum
below_add p a (suc b) =
    let turn : a + suc b ≡ suc (a + b) = omega arith in
    let sum : below p a + below (λ k. p (a + k)) b + cond (p (a + b)) 1 0 ≡ below p a + (below (λ k. p (a + k)) b + cond (p (a + b)) 1 0) = omega arith in
    ap (below p) turn ∙ ap (λ (k : ℕ). k + cond (p (a + b)) 1 0) (below_add p a b) ∙ sum

pub count_same : (p q : ℕ → Bool) (n : ℕ) → ((k : ℕ) → k < n → p k ≡ q k) → count_below p n ≡ count_below q n
count_same p q n each = count-below p n ∙ below_same p q n each ∙ sym (count-below q n)

pub count_le : (p : ℕ → Bool) (n : ℕ) → count_below p n ≤ n
count_le p n = omega (arith, count-below p n, below_le p n)

pub count_add : (p : ℕ → Bool) (a b : ℕ) → count_below p (a + b) ≡ count_below p a + count_below (λ k. p (a + k)) b
count_add p a b =
    let sum : below p a + below (λ k. p (a + k)) b ≡ count_below p a + count_below (λ k. p (a + k)) b =
    omega (arith, count-below p a, count-below (λ (k : ℕ). p (a + k)) b) in
    count-below p (a + b) ∙ below_add p a b ∙ sum

-- past a bound where none passes, the count stays
pub count_past : (p : ℕ → Bool) (bound n : ℕ) → bound ≤ n → ((k : ℕ) → bound ≤ k → p k ≡ false) → count_below p n ≡ count_below p bound
count_past p bound n h none =
    let parts : n ≡ bound + (n - bound) = omega arith in
    let rest : below (λ k. p (bound + k)) (n - bound) ≡ 0 = below_none (λ (k : ℕ). p (bound + k)) (n - bound) (λ k less. none (bound + k) (omega arith)) in
    let sum : below p bound + below (λ k. p (bound + k)) (n - bound) ≡ count_below p bound = omega (arith, count-below p bound) in
    ap (count_below p) parts ∙ count-below p (bound + (n - bound)) ∙ below_add p bound (n - bound) ∙ sum

-- ---- the ones of a word

one_bit : (b : ℕ) → b < 2 → ones b ≡ cond (eqb b 1) 1 0
unfolding ones
one_bit zero h = refl
one_bit (suc zero) h = refl
one_bit (suc (suc b)) h = absurd (omega arith)

pub ones_are : (n w : ℕ) → w < 2 ^ n → count_below (bit w) n ≡ ones w
ones_are zero w h = let none : 0 ≡ w = omega arith in count-zero (bit w) ∙ sym (one_bit 0 (omega arith)) ∙ ap ones none
ones_are (suc n) w h =
    let high = w / 2 ^ n in
    let low = w % 2 ^ n in
    let parts : high * 2 ^ n + low ≡ w = shr_split w n in
    let small : low < 2 ^ n = mod_below w (2 ^ n) (pow_pos n) in
    let top : high < 2 = div_below w (2 ^ n) 2 (pow_pos n) (omega (arith, pow-suc 2 n)) in
    let same : (k : ℕ) → k < n → bit w k ≡ bit low k = λ k less. ap (λ (x : ℕ). bit x k) (sym parts) ∙ ap (λ (x : ℕ). eqb x 1) (bit_at_cat_low high n low k less) in
    let last : cond (bit w n) 1 0 ≡ ones high = ap (λ (x : ℕ). cond (eqb x 1) 1 0) (mod-eq_of_lt top) ∙ sym (one_bit high top) in
    let turn : ones low + ones high ≡ ones high + ones low = omega arith in
    ap (count_below (bit w)) (sym (add-one n)) ∙ count-suc (bit w) n
    ∙ ap (λ (x : ℕ). x + cond (bit w n) 1 0) (count_same (bit w) (bit low) n same ∙ ones_are n low small)
    ∙ ap (λ (x : ℕ). ones low + x) last ∙ turn ∙ sym (ones_cat n high low small) ∙ ap ones parts

-- one word more
pub word_more : (words : List ℕ) (index : ℕ) → get_or words index 0 < 2 ^ 64
    → count_below (word_bit words) (64 * (index + 1)) ≡ count_below (word_bit words) (64 * index) + ones (get_or words index 0)
word_more words index fits =
    let turn : 64 * (index + 1) ≡ 64 * index + 64 = omega arith in
    ap (count_below (word_bit words)) turn ∙ count_add (word_bit words) (64 * index) 64
    ∙ ap (λ (x : ℕ). count_below (word_bit words) (64 * index) + x)
    (count_same (λ (k : ℕ). word_bit words (64 * index + k)) (bit (get_or words index 0)) 64 (λ k h. bit-word words index k h) ∙ ones_are 64 (get_or words index 0) fits)

-- ---- the members of a set

pub members_count : (set : List Bool) → length (members set) ≡ count_below (has set) (length set)
unfolding count_below
members_count set = refl

pub set_count : (words : List ℕ) (bound n : ℕ) → AreWords words bound → bound ≤ n → count_below (word_bit words) n ≡ length (members (set_of_words words bound))
set_count words bound n are h =
    let s = set_of_words words bound in
    count_past (word_bit words) bound n h are.past
    ∙ count_same (word_bit words) (has s) bound (λ k less. sym (has-set words bound k are))
    ∙ ap (count_below (has s)) (sym (set-length words bound)) ∙ sym (members_count s)

pub members_le : (set : List Bool) → length (members set) ≤ length set
members_le set = omega (arith, members_count set, count_le (has set) (length set))
