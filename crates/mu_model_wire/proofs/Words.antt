-- A word, its parts and a number pattern are read back as they were spelled.
use Rattle.std.proofs.Common.{◌≡◌, ℕ, ◌-◌, ◌+◌, ◌*◌, ◌/◌, ◌%◌, ◌^◌, ◌≤◌, ◌<◌, true, false, ltb, leb, List, [], ◌∷◌, ◌++◌, length, take, Ok, refl, sym, ap, ◌∙◌, arith, inl, inr, length-append}
use Rattle.std.proofs.lemmas.Bool.{ltb-true, lt-ltb, le-ltb, le-leb, and_from, and_parts, and_right, lt-leb, cases_lt}
use Rattle.std.proofs.lemmas.List.{take_at, drop_at}
use Rattle.std.proofs.Math.Nat.{add-mul-div_left, add-mul-mod_self_left, mod-eq_of_lt, div-eq_of_lt, mul-le-mul_left, mul-div_right}
use lib.Pow.{pow-add, pow_pos}
use Rattle.byteorder.specs.Endian.{little_bytes}
use Rattle.byteorder.specs.Numbers.{little_number-reads_back, length-bytes_low_first}
use Rattle.mu_model_wire.specs.Patterns.{within, pattern_spelling}
use Rattle.mu_model_wire.specs.Fields.{Part, part, rfu, Shown, number, octets as shown_octets}
use Rattle.mu_model_wire.specs.Reading.{Left, word_at, octets_at, pattern_at, parts_in, parts_of}
use Rattle.mu_model_wire.specs.Spelling.{joined, part_count, PartsFit}
use Rattle.mu_model_wire.specs.Sound.{bits_of, parts_hold}

abbrev pub left_at : ℕ → List ℕ → Left
left_at at bytes = record { at = at; octets = bytes }

pub within-yes : (least most n : ℕ) → least ≤ n → n ≤ most → within least most n ≡ true
within-yes least most n low high = and_from _ _ (le-leb least n low) (le-leb n most high)

pub word_again : (k n at : ℕ) (rest : List ℕ) → n < 256 ^ k → word_at k (left_at at (little_bytes k n ++ rest)) ≡ Ok (n, left_at (at + k) rest)
unfolding word_at
word_again k n at rest lt =
    let len : length (little_bytes k n) ≡ k = length-bytes_low_first 0 k n in
    let long : ltb (length (little_bytes k n ++ rest)) k ≡ false = le-ltb _ _ (omega (arith, length-append (little_bytes k n) rest)) in
    rw (long, little_number-reads_back k n rest lt, drop_at (little_bytes k n) rest k len) refl

pub octets_again : (at : ℕ) (os rest : List ℕ) → octets_at (length os) (left_at at (os ++ rest)) ≡ Ok (os, left_at (at + length os) rest)
unfolding octets_at
octets_again at os rest =
    let long : ltb (length (os ++ rest)) (length os) ≡ false = le-ltb _ _ (omega (arith, length-append os rest)) in
    rw (long, take_at os rest (length os) refl, drop_at os rest (length os) refl) refl

-- ---- parts

abbrev first_value : List Shown → ℕ
first_value [] = 0
first_value (number n v ∷ shown) = v
first_value (shown_octets n os ∷ shown) = 0

pub record PartsAgain (ps : List Part) (shown : List Shown) : Type 0 where
  pub below : joined ps shown < 2 ^ bits_of ps
  pub fits : parts_in ps (joined ps shown) ≡ true
  pub again : parts_of ps (joined ps shown) ≡ take (part_count ps) shown

pub first_number : (m n u v : ℕ) (xs ys : List Shown) → number m u ∷ xs ≡ number n v ∷ ys → u ≡ v
first_number m n u v xs ys same = ap first_value same

-- so many low bits under what is above them
above : (w b low high : ℕ) → low < 2 ^ w → high < 2 ^ b → low + 2 ^ w * high < 2 ^ (w + b)
above w b low high l h =
    let p = pow-add 2 w b in
    let m : 2 ^ w * (high + 1) ≤ 2 ^ w * 2 ^ b = mul-le-mul_left (2 ^ w) (omega arith) in
    omega (arith, p, m)

high_is : (w low high : ℕ) → low < 2 ^ w → (low + 2 ^ w * high) / 2 ^ w ≡ high
high_is w low high l =
    let z : low / 2 ^ w ≡ 0 = div-eq_of_lt l in
    add-mul-div_left low high (pow_pos w) ∙ omega (arith, z)

low_is : (w low high : ℕ) → low < 2 ^ w → (low + 2 ^ w * high) % 2 ^ w ≡ low
low_is w low high l = add-mul-mod_self_left low (2 ^ w) high ∙ mod-eq_of_lt l

pub parts_again : (ps : List Part) (shown : List Shown) → parts_hold ps ≡ true → PartsFit ps shown → PartsAgain ps shown
parts_again [] shown holds fits = record { below = omega arith; fits = refl; again = refl }
parts_again (rfu w ∷ ps) shown holds fits =
    let ih = parts_again ps shown holds fits in
    let pos : 0 < 2 ^ w = pow_pos w in
    let high : (2 ^ w * joined ps shown) / 2 ^ w ≡ joined ps shown = mul-div_right (joined ps shown) pos in
    record {
      below = omega (arith, above w (bits_of ps) 0 (joined ps shown) pos ih.below);
      fits = rw high ih.fits;
      again = rw high ih.again;
    }
parts_again (part name w least most ∷ ps) [] holds fits = absurd fits
parts_again (part name w least most ∷ ps) (shown_octets n os ∷ shown) holds fits = absurd fits
parts_again (part name w least most ∷ ps) (number n v ∷ shown) holds fits =
    let h = and_parts (ltb most (2 ^ w)) (parts_hold ps) holds in
    let ih = parts_again ps shown h.1 fits.3 in
    let most_lt : most < 2 ^ w = ltb-true most (2 ^ w) h.0 in
    let lt : v < 2 ^ w = omega (arith, fits.2, most_lt) in
    let high = high_is w v (joined ps shown) lt in
    let low = low_is w v (joined ps shown) lt in
    record {
      below = above w (bits_of ps) v (joined ps shown) lt ih.below;
      fits = rw (low, high) (and_from _ _ (within-yes least most v fits.1 fits.2) ih.fits);
      again = rw (low, high, ih.again, fits.0) refl;
    }

-- ---- a number pattern

pub first_is : (b at : ℕ) (rest : List ℕ) → b < 256 → word_at 1 (left_at at (b ∷ rest)) ≡ Ok (b, left_at (at + 1) rest)
first_is b at rest lt =
    let e : b % 256 ≡ b = mod-eq_of_lt lt in
    ap (λ (x : ℕ). word_at 1 (left_at at (x ∷ rest))) (sym e) ∙ word_again 1 b at rest (omega arith)

one : (a at : ℕ) (rest : List ℕ) → a < 0x80 → pattern_at (left_at at (a ∷ rest)) ≡ Ok (a, left_at (at + 1) rest)
unfolding pattern_at
one a at rest small =
    rw (first_is a at rest (omega arith), lt-ltb a 0x80 small, octets_again at (a ∷ []) rest) refl

two : (a b at : ℕ) (rest : List ℕ) → 0xC2 ≤ a → a ≤ 0xDF → 0x80 ≤ b → b ≤ 0xBF
    → pattern_at (left_at at (a ∷ b ∷ rest)) ≡ Ok ((a - 0xC0) * 64 + (b - 0x80), left_at (at + 2) rest)
unfolding pattern_at
two a b at rest al ah bl bh =
    rw (first_is a at (b ∷ rest) (omega arith), le-ltb a 0x80 (omega arith), within-yes 0xC2 0xDF a al ah, octets_again at (a ∷ b ∷ []) rest, within-yes 0x80 0xBF b bl bh) refl

three : (a b c at : ℕ) (rest : List ℕ) → 0xE0 ≤ a → a ≤ 0xEF → 0x80 ≤ b → b ≤ 0xBF → 0x80 ≤ c → c ≤ 0xBF → 0x800 ≤ (a - 0xE0) * 4096 + (b - 0x80) * 64 + (c - 0x80)
    → pattern_at (left_at at (a ∷ b ∷ c ∷ rest)) ≡ Ok ((a - 0xE0) * 4096 + (b - 0x80) * 64 + (c - 0x80), left_at (at + 3) rest)
unfolding pattern_at
three a b c at rest al ah bl bh cl ch least =
    let not_two : within 0xC2 0xDF a ≡ false = and_right (leb 0xC2 a) (leb a 0xDF) (lt-leb a 0xDF (omega arith)) in
    let shortest = le-leb 0x800 ((a - 0xE0) * 4096 + (b - 0x80) * 64 + (c - 0x80)) least in
    rw (first_is a at (b ∷ c ∷ rest) (omega arith), le-ltb a 0x80 (omega arith), not_two, within-yes 0xE0 0xEF a al ah, octets_again at (a ∷ b ∷ c ∷ []) rest, within-yes 0x80 0xBF b bl bh, within-yes 0x80 0xBF c cl ch, shortest) refl

pub pattern_again : (n at : ℕ) (rest : List ℕ) → n ≤ 0xFFFF → pattern_at (left_at at (pattern_spelling n ++ rest)) ≡ Ok (n, left_at (at + length (pattern_spelling n)) rest)
pattern_again n at rest fits =
    elim (cases_lt n 0x80) [
      | inl small ↦ rw (lt-ltb n 0x80 small) (one n at rest small)
      | inr large ↦ elim (cases_lt n 0x800) [
        | inl middle ↦
            let v : (0xC0 + n / 64 - 0xC0) * 64 + (0x80 + n % 64 - 0x80) ≡ n = omega arith in
            let t = two (0xC0 + n / 64) (0x80 + n % 64) at rest (omega arith) (omega arith) (omega arith) (omega arith) in
            rw (le-ltb n 0x80 large, lt-ltb n 0x800 middle) (rw v at t)
        | inr most ↦
            let v : (0xE0 + n / 4096 - 0xE0) * 4096 + (0x80 + n / 64 % 64 - 0x80) * 64 + (0x80 + n % 64 - 0x80) ≡ n = omega arith in
            let t = three (0xE0 + n / 4096) (0x80 + n / 64 % 64) (0x80 + n % 64) at rest (omega arith) (omega arith) (omega arith) (omega arith) (omega arith) (omega arith) (omega arith) in
            rw (le-ltb n 0x80 large, le-ltb n 0x800 most) (rw v at t)
      ]
    ]
