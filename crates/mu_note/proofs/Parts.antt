-- Parts of octets, numbers in them, and octets that are 0.
use Rattle.std.proofs.Common.{◌≡◌, ◌⊎◌, ⊎_elim, inl, inr, ℕ, ◌+◌, ◌-◌, ◌<◌, ◌≤◌, ◌++◌, List, length, take, drop, get_or, slice_range, ◌∙◌, sym, ap, arith, length-drop}
use Rattle.std.specs.Prelude.{replicate}
use borrow.Rule.Slice.PartMut.{put_mid}
use Rattle.std.proofs.lemmas.List.{ext_get_or, get_or-take, get_or-drop, get_or-replicate, get_or_past, length-take-le, length-replicate, take_all, drop_all, append-nil, take_at, drop_at}
use Rattle.byteorder.specs.Endian.{little_number}
use Rattle.mu_model_flash.specs.Bits.{part_of}
use Rattle.mu_model_record.specs.Record.{zeros}

pub length-part : (c : List ℕ) (at n : ℕ) → at + n ≤ length c → length (part_of c at n) ≡ n
unfolding part_of
length-part c at n within = length-take-le n (drop at c) (omega (arith, length-drop at c, within))

pub get-part : (c : List ℕ) (at n i : ℕ) → i < n → get_or (part_of c at n) i 0 ≡ get_or c (at + i) 0
unfolding part_of
get-part c at n i lt = get_or-take n (drop at c) i 0 lt ∙ get_or-drop at c i 0

-- what a read of a part gives
pub range-part : (c : List ℕ) (at n : ℕ) → slice_range c at (at + n) ≡ part_of c at n
unfolding part_of
range-part c at n = let e : at + n - at ≡ n = omega arith in ap (λ (k : ℕ). take k (drop at c)) e

pub length-zeros : (n : ℕ) → length (zeros n) ≡ n
unfolding zeros
length-zeros n = length-replicate n 0

split : (a b : ℕ) → (a < b) ⊎ (b ≤ a)
split a b = grind arith

pub get-zeros : (n k : ℕ) → get_or (zeros n) k 0 ≡ 0
unfolding zeros
get-zeros n k = ⊎_elim (λ lt. get_or-replicate n k 0 0 lt) (λ le. get_or_past (replicate n 0) k 0 (omega (arith, length-replicate {A = ℕ} n 0, le))) (split k n)

-- a part of octets that are all 0
pub zero_part : (octets : List ℕ) (at n : ℕ) → at + n ≤ length octets → ((k : ℕ) → k < length (slice_range octets at (at + n)) → get_or (slice_range octets at (at + n)) k 0 ≡ 0)
    → part_of octets at n ≡ zeros n
zero_part octets at n within each =
    let size : length (part_of octets at n) ≡ n = length-part octets at n within in
    let same : slice_range octets at (at + n) ≡ part_of octets at n = range-part octets at n in
    ext_get_or 0 (part_of octets at n) (zeros n) (size ∙ sym (length-zeros n)) (λ i lt.
    ap (λ (l : List ℕ). get_or l i 0) (sym same) ∙ each i (omega (arith, ap length same, lt)) ∙ sym (get-zeros n i))

pub part_zero : (octets : List ℕ) (at n : ℕ) → part_of octets at n ≡ zeros n → (k : ℕ) → k < length (slice_range octets at (at + n)) → get_or (slice_range octets at (at + n)) k 0 ≡ 0
part_zero octets at n is k lt = ap (λ (l : List ℕ). get_or l k 0) (range-part octets at n ∙ is) ∙ get-zeros n k

pub all_zero : (octets : List ℕ) (n : ℕ) → length octets ≡ n → ((k : ℕ) → k < length octets → get_or octets k 0 ≡ 0) → octets ≡ zeros n
all_zero octets n size each = ext_get_or 0 octets (zeros n) (size ∙ sym (length-zeros n)) (λ i lt. each i lt ∙ sym (get-zeros n i))

pub zero_all : (octets : List ℕ) (n : ℕ) → octets ≡ zeros n → (k : ℕ) → k < length octets → get_or octets k 0 ≡ 0
zero_all octets n is k lt = ap (λ (l : List ℕ). get_or l k 0) is ∙ get-zeros n k

-- a number at the beginning of the rest
pub number_from : (octets : List ℕ) (at width : ℕ) → little_number width (take (length octets - at) (drop at octets)) ≡ little_number width (drop at octets)
number_from octets at width = ap (λ (l : List ℕ). little_number width l) (take_all (length octets - at) (drop at octets) (omega (arith, length-drop at octets)))

-- two parts that are written one after the other
pub two_parts : (first rest second part note : List ℕ) → first ≡ part → second ≡ note → length first ≡ 64 → length rest ≡ 1728
    → put_mid 64 1728 (first ++ rest) second ≡ part ++ note
two_parts first rest second part note is_part is_note long more =
    ap (λ (l : List ℕ). l ++ (second ++ drop 1728 (drop 64 (first ++ rest)))) (take_at first rest 64 long)
    ∙ ap (λ (l : List ℕ). first ++ (second ++ drop 1728 l)) (drop_at first rest 64 long)
    ∙ ap (λ (l : List ℕ). first ++ (second ++ l)) (drop_all 1728 rest (omega (arith, more)))
    ∙ ap (λ (l : List ℕ). first ++ l) (append-nil second)
    ∙ (λ i. is_part i ++ is_note i)
