-- Decimal numbers are what std prints.
use Rattle.std.proofs.Common.{◌≡◌, ◌<◌, ◌≤◌, ◌^◌, ℕ, ◌⊎◌, Bool, true, false, List, length, get_or, Option, Some, None, inl, inr, refl, sym, cond, arith, rules}
use Rattle.std.specs.Char.{is_ascii_digit}
use Rattle.std.specs.List.{list_all}
use Rattle.std.specs.Fmt.{decimal}
use Rattle.std.proofs.lemmas.Fmt.{digits_decimal, digits_value-decimal, decimal-digits_value, decimal_nonempty, first_decimal, decimal_digit}
use Rattle.std.proofs.lemmas.Str.Parse.{IsNumeralModel, numerals_by_fold}
use Rattle.std.proofs.lemmas.Bool.{cases_lt}
use Rattle.mu_model_script.specs.Tokens.{digits_value, is_decimal, number_of, if_within}

abbrev are_digits : List ℕ → Type 0
are_digits octets = list_all is_ascii_digit octets ≡ true

own : IsNumeralModel are_digits (digits_value 0)
own = numerals_by_fold are_digits (search rules) digits_value (search rules)

-- ---- what is printed is read

decides : (octets : List ℕ) → are_digits octets → 0 < length octets → (length octets ≡ 1) ⊎ (48 < get_or octets 0 0) → is_decimal octets ≡ true
decides octets digits some first = elim first [ inl one ↦ grind arith | inr high ↦ grind arith ]

decided : (octets : List ℕ) → is_decimal octets ≡ true → are_digits octets × (0 < length octets) × (get_or octets 0 0 ≡ 48 → length octets ≡ 1)
decided octets h = (grind arith, grind arith, λ zero. grind arith)

first_digit : (n : ℕ) → n < 2 ^ 64 → (length (decimal n) ≡ 1) ⊎ (48 < get_or (decimal n) 0 0)
first_digit n small =
    elim (cases_lt 0 n) [
      | inl above ↦ inr (first_decimal n above small)
      | inr none ↦ inl (let zero : n ≡ 0 = omega arith in rw (zero, decimal_digit 0 (omega arith)) refl)
    ]

within : (least most n : ℕ) → least ≤ n → n ≤ most → if_within least most n ≡ Some n
within least most n low high = grind arith

pub number_of-decimal : (least most n : ℕ) → n < 2 ^ 64 → least ≤ n → n ≤ most → number_of least most (decimal n) ≡ Some n
number_of-decimal least most n small low high =
    let is = decides (decimal n) (digits_decimal own n small) (decimal_nonempty n small) (first_digit n small) in
    let value = digits_value-decimal own n small in
    rw (is, value) (within least most n low high)

-- ---- what is read was printed

abbrev number_if : Bool → ℕ → ℕ → ℕ → Option ℕ
number_if decimal least most n = cond decimal (if_within least most n) None

read_within : (is : Bool) (least most value n : ℕ) → number_if is least most value ≡ Some n → (is ≡ true) × (value ≡ n) × (least ≤ n) × (n ≤ most)
read_within true least most value n h = (refl, grind arith, grind arith, grind arith)
read_within false least most value n h = cc h

pub number_of-some : (least most n : ℕ) (text : List ℕ) → number_of least most text ≡ Some n → (is_decimal text ≡ true) × (digits_value 0 text ≡ n) × (least ≤ n) × (n ≤ most)
number_of-some least most n text h = read_within (is_decimal text) least most (digits_value 0 text) n h

pub number_of-only : (least most n : ℕ) (text : List ℕ) → n < 2 ^ 64 → number_of least most text ≡ Some n → text ≡ decimal n
number_of-only least most n text small h =
    let read = number_of-some least most n text h in
    let is = decided text read.0 in
    let value = read.1 in
    let text_is = decimal-digits_value own text is.0 is.1 is.2 (omega arith) in
    rw value at (sym text_is)
