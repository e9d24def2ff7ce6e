-- Words as octets, the lowest first.
use Rattle.std.proofs.Common.{◌≡◌, ℕ, zero, suc, ◌-◌, ◌+◌, ◌*◌, ◌/◌, ◌%◌, ◌^◌, ◌≤◌, ◌<◌, eqb, get_or, replicate, List, [], ◌∷◌, ◌++◌, length, take, drop, refl, sym, ap, ◌∙◌, arith, inl, inr, length-append}
use Rattle.std.specs.List.{flat_map}
use Rattle.std.specs.Int.{bit_at}
use Rattle.byteorder.specs.Endian.{little_from, little_number, little_bytes}
use Rattle.byteorder.specs.Numbers.{length-bytes_low_first}
use Rattle.std.proofs.Math.Nat.{div-one}
use Rattle.std.proofs.lemmas.Bool.{cases_lt}
use Rattle.std.proofs.lemmas.List.{get_or-drop, get_or-take, get_or-replicate, get_or_past, get_or_append_left, get_or-append_right, length-replicate, length-take-le, ext_get_or}
use Rattle.std.proofs.lemmas.Nat.{shr-shr, shr_split}
use Rattle.std.proofs.lemmas.Nat.Bits.{bit_at_cat_low, bit_at_cat_high, bit_at-zero, bit_at-lt, same_from_bits_below}
use Rattle.mu_model_wire.specs.Reports.{field_bit, field_length, bit_field, BitFieldIsOfItsSet, BitFieldsAreOctets}
use Rattle.mu_report.specs.Words.{bit, word_bit, set_of_words, AreWords}
use Rattle.mu_report.proofs.Bits.{has-set, set-length}

-- ---- from octets

-- the bits of a number are those of its octets
number_bit : (n i : ℕ) (xs : List ℕ) (j : ℕ) → ((k : ℕ) → get_or xs k 0 < 256) → j < 8 * n → bit_at (little_from i n xs) j ≡ bit_at (get_or xs (i + j / 8) 0) (j % 8)
number_bit zero i xs j small h = absurd (omega arith)
number_bit (suc n) i xs j small h =
    let x = get_or xs i 0 in
    let r = little_from (suc i) n xs in
    let fits = small i in
    let turn : x + 256 * r ≡ r * 2 ^ 8 + x = omega arith in
    ap (λ (w : ℕ). bit_at w j) turn
    ∙ elim (cases_lt j 8) [
      | inl low ↦ (
          let place : i ≡ i + j / 8 = omega arith in
          let rest : j ≡ j % 8 = omega arith in
          bit_at_cat_low r 8 x j low ∙ ap (λ (k : ℕ). bit_at (get_or xs k 0) j) place ∙ ap (bit_at (get_or xs (i + j / 8) 0)) rest)
      | inr high ↦ (
          let place : suc i + (j - 8) / 8 ≡ i + j / 8 = omega arith in
          let rest : (j - 8) % 8 ≡ j % 8 = omega arith in
          bit_at_cat_high r 8 x j fits high ∙ number_bit n (suc i) xs (j - 8) small (omega arith)
          ∙ ap (λ (k : ℕ). bit_at (get_or xs k 0) ((j - 8) % 8)) place ∙ ap (bit_at (get_or xs (i + j / 8) 0)) rest)
    ]

-- words that are read from octets have their bits
pub read_words : (octets all words : List ℕ) → length words ≡ 32 → length octets ≤ 256 → ((k : ℕ) → get_or octets k 0 < 256)
    → ((k : ℕ) → get_or all k 0 ≡ get_or octets k 0)
    → ((k : ℕ) → k < length words → get_or words k 0 ≡ little_number 8 (drop (8 * k) all))
    → (k : ℕ) → word_bit words k ≡ field_bit octets k
unfolding word_bit
read_words octets all words count short small same read k =
    elim (cases_lt k 2048) [
      | inl inside ↦ (
          let at : (m : ℕ) → get_or (drop (8 * (k / 64)) all) m 0 ≡ get_or octets (8 * (k / 64) + m) 0 = λ m. get_or-drop (8 * (k / 64)) all m 0 ∙ same (8 * (k / 64) + m) in
          let fits : (m : ℕ) → get_or (drop (8 * (k / 64)) all) m 0 < 256 = λ m. omega (arith, at m, small (8 * (k / 64) + m)) in
          let place : 8 * (k / 64) + (0 + k % 64 / 8) ≡ k / 8 = omega arith in
          let rest : k % 64 % 8 ≡ k % 8 = omega arith in
          ap (λ (w : ℕ). bit w (k % 64)) (read (k / 64) (omega arith))
          ∙ ap (λ (n : ℕ). eqb n 1) (number_bit 8 0 (drop (8 * (k / 64)) all) (k % 64) fits (omega arith)
          ∙ ap (λ (x : ℕ). bit_at x (k % 64 % 8)) (at (0 + k % 64 / 8))
          ∙ ap (λ (m : ℕ). bit_at (get_or octets m 0) (k % 64 % 8)) place
          ∙ ap (bit_at (get_or octets (k / 8) 0)) rest))
      | inr past ↦ (
          let none : get_or octets (k / 8) 0 ≡ 0 = get_or_past octets (k / 8) 0 (omega arith) in
          let clear : get_or words (k / 64) 0 ≡ 0 = get_or_past words (k / 64) 0 (omega arith) in
          ap (λ (w : ℕ). bit w (k % 64)) clear ∙ ap (λ (n : ℕ). eqb n 1) (bit_at-zero (k % 64) ∙ sym (bit_at-zero (k % 8)))
          ∙ ap (λ (w : ℕ). bit w (k % 8)) (sym none))
    ]

-- ---- to octets

octet_from : (w e b : ℕ) → b < 8 → bit_at (w / 2 ^ e % 256) b ≡ bit_at w (e + b)
octet_from w e b h =
    let high = w / 2 ^ e / 256 in
    let low = w / 2 ^ e % 256 in
    let parts : high * 2 ^ 8 + low ≡ w / 2 ^ e = shr_split (w / 2 ^ e) 8 in
    sym (bit_at_cat_low high 8 low b h) ∙ ap (λ (n : ℕ). bit_at n b) parts ∙ ap (λ (n : ℕ). n % 2) (shr-shr w e b)

octet_bit : (w j b : ℕ) → j < 8 → b < 8 → bit_at (get_or (little_bytes 8 w) j 0) b ≡ bit_at w (8 * j + b)
octet_bit w zero b hj h = ap (λ (n : ℕ). bit_at (n % 256) b) (sym (div-one w)) ∙ octet_from w 0 b h
octet_bit w (suc zero) b hj h = octet_from w 8 b h
octet_bit w (suc (suc zero)) b hj h = octet_from w 16 b h
octet_bit w (suc (suc (suc zero))) b hj h = octet_from w 24 b h
octet_bit w (suc (suc (suc (suc zero)))) b hj h = octet_from w 32 b h
octet_bit w (suc (suc (suc (suc (suc zero))))) b hj h = octet_from w 40 b h
octet_bit w (suc (suc (suc (suc (suc (suc zero)))))) b hj h = octet_from w 48 b h
octet_bit w (suc (suc (suc (suc (suc (suc (suc zero))))))) b hj h = octet_from w 56 b h
octet_bit w (suc (suc (suc (suc (suc (suc (suc (suc j)))))))) b hj h = absurd (omega arith)

octet_small : (w j : ℕ) → get_or (little_bytes 8 w) j 0 < 256
octet_small w zero = omega arith
octet_small w (suc zero) = omega arith
octet_small w (suc (suc zero)) = omega arith
octet_small w (suc (suc (suc zero))) = omega arith
octet_small w (suc (suc (suc (suc zero)))) = omega arith
octet_small w (suc (suc (suc (suc (suc zero))))) = omega arith
octet_small w (suc (suc (suc (suc (suc (suc zero)))))) = omega arith
octet_small w (suc (suc (suc (suc (suc (suc (suc zero))))))) = omega arith
octet_small w (suc (suc (suc (suc (suc (suc (suc (suc j)))))))) = omega arith

pub octets_length : (words : List ℕ) → length (flat_map (little_bytes 8) words) ≡ 8 * length words
octets_length [] = refl
octets_length (w ∷ words) =
    omega (arith, length-append (little_bytes 8 w) (flat_map (little_bytes 8) words), length-bytes_low_first 8 w, octets_length words)

zero_octet : (j : ℕ) → get_or (little_bytes 8 0) j 0 ≡ 0
zero_octet zero = refl
zero_octet (suc zero) = refl
zero_octet (suc (suc zero)) = refl
zero_octet (suc (suc (suc zero))) = refl
zero_octet (suc (suc (suc (suc zero)))) = refl
zero_octet (suc (suc (suc (suc (suc zero))))) = refl
zero_octet (suc (suc (suc (suc (suc (suc zero)))))) = refl
zero_octet (suc (suc (suc (suc (suc (suc (suc zero))))))) = refl
zero_octet (suc (suc (suc (suc (suc (suc (suc (suc j)))))))) = refl

same_bits : (a b : ℕ) → a < 2 → b < 2 → eqb a 1 ≡ eqb b 1 → a ≡ b
same_bits zero zero ha hb e = refl
same_bits zero (suc zero) ha hb e = absurd cc
same_bits (suc zero) zero ha hb e = absurd cc
same_bits (suc zero) (suc zero) ha hb e = refl
same_bits (suc (suc a)) b ha hb e = absurd (omega arith)
same_bits zero (suc (suc b)) ha hb e = absurd (omega arith)
same_bits (suc zero) (suc (suc b)) ha hb e = absurd (omega arith)

-- octet i of the words is that of its word
octet_at : (words : List ℕ) (i : ℕ) → get_or (flat_map (little_bytes 8) words) i 0 ≡ get_or (little_bytes 8 (get_or words (i / 8) 0)) (i % 8) 0
octet_at [] i = sym (zero_octet (i % 8))
octet_at (w ∷ words) i =
    elim (cases_lt i 8) [
      | inl low ↦ (
          let place : 0 ≡ i / 8 = omega arith in
          let rest : i ≡ i % 8 = omega arith in
          get_or_append_left (little_bytes 8 w) (flat_map (little_bytes 8) words) 0 i low
          ∙ ap (λ (k : ℕ). get_or (little_bytes 8 (get_or (w ∷ words) k 0)) i 0) place
          ∙ ap (λ (k : ℕ). get_or (little_bytes 8 (get_or (w ∷ words) (i / 8) 0)) k 0) rest)
      | inr high ↦ (
          let place : suc ((i - 8) / 8) ≡ i / 8 = omega arith in
          let rest : (i - 8) % 8 ≡ i % 8 = omega arith in
          get_or-append_right (little_bytes 8 w) (flat_map (little_bytes 8) words) 8 i 0 refl high
          ∙ octet_at words (i - 8)
          ∙ ap (λ (k : ℕ). get_or (little_bytes 8 (get_or (w ∷ words) k 0)) ((i - 8) % 8) 0) place
          ∙ ap (λ (k : ℕ). get_or (little_bytes 8 (get_or (w ∷ words) (i / 8) 0)) k 0) rest)
    ]

pub words_bit : (words : List ℕ) (k : ℕ) → field_bit (flat_map (little_bytes 8) words) k ≡ word_bit words k
unfolding word_bit
words_bit words k =
    let w : k / 8 / 8 ≡ k / 64 = omega arith in
    let b : 8 * (k / 8 % 8) + k % 8 ≡ k % 64 = omega arith in
    ap (λ (x : ℕ). bit x (k % 8)) (octet_at words (k / 8))
    ∙ ap (λ (n : ℕ). eqb n 1) (octet_bit (get_or words (k / 8 / 8) 0) (k / 8 % 8) (k % 8) (omega arith) (omega arith)
    ∙ ap (λ (i : ℕ). bit_at (get_or words i 0) (8 * (k / 8 % 8) + k % 8)) w ∙ ap (bit_at (get_or words (k / 64) 0)) b)

pub words_small : (words : List ℕ) (i : ℕ) → get_or (flat_map (little_bytes 8) words) i 0 < 2 ^ 8
words_small words i = omega (arith, octet_at words i, octet_small (get_or words (i / 8) 0) (i % 8))

-- two fields of as many octets with the same bits are one
pub same_fields : (a b : List ℕ) → length a ≡ length b → ((i : ℕ) → get_or a i 0 < 2 ^ 8) → ((i : ℕ) → get_or b i 0 < 2 ^ 8)
    → ((k : ℕ) → k < 8 * length a → field_bit a k ≡ field_bit b k) → a ≡ b
same_fields a b count small_a small_b same =
    ext_get_or 0 a b count (λ i h. same_from_bits_below 8 (get_or a i 0) (get_or b i 0) (small_a i) (small_b i) (λ j less.
    let place : (8 * i + j) / 8 ≡ i = omega arith in
    let rest : (8 * i + j) % 8 ≡ j = omega arith in
    let here : bit (get_or a i 0) j ≡ bit (get_or b i 0) j =
    ap (bit (get_or a i 0)) (sym rest) ∙ ap (λ (k : ℕ). bit (get_or a k 0) ((8 * i + j) % 8)) (sym place) ∙ same (8 * i + j) (omega arith)
    ∙ ap (λ (k : ℕ). bit (get_or b k 0) ((8 * i + j) % 8)) place ∙ ap (bit (get_or b i 0)) rest in
    same_bits (bit_at (get_or a i 0) j) (bit_at (get_or b i 0) j) (bit_at-lt (get_or a i 0) j) (bit_at-lt (get_or b i 0) j) here))

-- the first octets of the words are the bit field of their set
pub field_is : BitFieldIsOfItsSet → BitFieldsAreOctets → (words : List ℕ) (bound : ℕ) → AreWords words bound
    → take ((bound + 7) / 8) (flat_map (little_bytes 8) words) ≡ bit_field (set_of_words words bound)
field_is field_of_set field_small words bound are =
    let set = set_of_words words bound in
    let all = flat_map (little_bytes 8) words in
    let n = (bound + 7) / 8 in
    let long = set-length words bound in
    let most = are.most in
    let total : length all ≡ 256 = omega (arith, octets_length words, are.count) in
    let used : length (take n all) ≡ n = length-take-le n all (omega arith) in
    let field = field_of_set set in
    let count : length (take n all) ≡ length (bit_field set) = omega (arith, field.count, ap field_length long) in
    same_fields (take n all) (bit_field set) count
    (λ i. elim (cases_lt i n) [
      | inl h ↦ omega (arith, get_or-take n all i 0 h, words_small words i)
      | inr h ↦ omega (arith, get_or_past (take n all) i 0 (omega arith))
    ])
    (field_small set)
    (λ k h. ap (λ (x : ℕ). bit x (k % 8)) (get_or-take n all (k / 8) 0 (omega arith)) ∙ words_bit words k ∙ sym (has-set words bound k are) ∙ sym (field.bits k))

-- ---- octets with zeros behind them

no_octet : (count i : ℕ) → get_or (replicate {A = ℕ} count 0) i 0 ≡ 0
no_octet count i = elim (cases_lt i count) [ inl h ↦ get_or-replicate count i 0 0 h | inr h ↦ get_or_past (replicate count 0) i 0 (omega (arith, length-replicate {A = ℕ} count 0)) ]

pub zeros_behind : (octets : List ℕ) (n count i : ℕ) → get_or (octets ++ drop n (replicate {A = ℕ} count 0)) i 0 ≡ get_or octets i 0
zeros_behind octets n count i =
    elim (cases_lt i (length octets)) [
      | inl h ↦ get_or_append_left octets (drop n (replicate count 0)) 0 i h
      | inr h ↦ get_or-append_right octets (drop n (replicate count 0)) (length octets) i 0 refl h
          ∙ get_or-drop n (replicate count 0) (i - length octets) 0 ∙ no_octet count (n + (i - length octets)) ∙ sym (get_or_past octets i 0 h)
    ]
