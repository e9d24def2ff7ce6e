-- Parts of octets, and octets that are 0.
use Rattle.std.proofs.Common.{◌≡◌, ◌⊎◌, ⊎_elim, ℕ, ◌+◌, ◌-◌, ◌<◌, ◌≤◌, ◌++◌, List, length, take, drop, get_or, slice_range, ◌∙◌, sym, ap, arith, length-drop}
use Rattle.std.specs.Prelude.{replicate}
use Rattle.std.proofs.lemmas.List.{ext_get_or, get_or-take, get_or-drop, get_or-replicate, get_or_past, length-take, length-take-le, length-replicate, take_all, drop-replicate}
use Rattle.byteorder.specs.Endian.{little_number}
use Rattle.mu_model_flash.specs.Bits.{part_of}
use Rattle.mu_model_record.specs.Record.{zeros}

pub length-part : (c : List ℕ) (at n : ℕ) → at + n ≤ length c → length (part_of c at n) ≡ n
unfolding part_of
length-part c at n within = length-take-le n (drop at c) (omega (arith, length-drop at c, within))

pub get-part : (c : List ℕ) (at n i : ℕ) → i < n → get_or (part_of c at n) i 0 ≡ get_or c (at + i) 0
unfolding part_of
get-part c at n i lt = get_or-take n (drop at c) i 0 lt ∙ get_or-drop at c i 0

-- what a read of a part gives
pub range-part : (c : List ℕ) (at n : ℕ) → slice_range c at (at + n) ≡ part_of c at n
unfolding part_of
range-part c at n = let e : at + n - at ≡ n = omega arith in ap (λ (k : ℕ). take k (drop at c)) e

pub length-zeros : (n : ℕ) → length (zeros n) ≡ n
unfolding zeros
length-zeros n = length-replicate n 0

pub drop-zeros : (m n : ℕ) → drop m (zeros n) ≡ zeros (n - m)
unfolding zeros
drop-zeros m n = drop-replicate m n 0

split : (a b : ℕ) → (a < b) ⊎ (b ≤ a)
split a b = grind arith

pub get-zeros : (n k : ℕ) → get_or (zeros n) k 0 ≡ 0
unfolding zeros
get-zeros n k = ⊎_elim (λ lt. get_or-replicate n k 0 0 lt) (λ le. get_or_past (replicate n 0) k 0 (omega (arith, length-replicate {A = ℕ} n 0, le))) (split k n)

-- a part of octets that are 0 from one place on and up to another
pub zero_part : (c : List ℕ) (from to at n : ℕ) → ((k : ℕ) → from ≤ k → k < to → get_or c k 0 ≡ 0) → from ≤ at → at + n ≤ to → to ≤ length c → part_of c at n ≡ zeros n
zero_part c from to at n each low high long =
    let size : length (part_of c at n) ≡ n = length-part c at n (omega (arith, high, long)) in
    ext_get_or 0 (part_of c at n) (zeros n) (size ∙ sym (length-zeros n)) (λ i lt.
    let within : i < n = omega (arith, size, lt) in
    get-part c at n i within ∙ each (at + i) (omega (arith, low)) (omega (arith, within, high)) ∙ sym (get-zeros n i))

pub part_zero : (c : List ℕ) (at n k : ℕ) → part_of c at n ≡ zeros n → k < n → get_or c (at + k) 0 ≡ 0
part_zero c at n k is lt = sym (get-part c at n k lt) ∙ ap (λ (l : List ℕ). get_or l k 0) is ∙ get-zeros n k

-- a number at the beginning of the rest
pub number_from : (c : List ℕ) (at width : ℕ) → little_number width (take (length c - at) (drop at c)) ≡ little_number width (drop at c)
number_from c at width = ap (λ (l : List ℕ). little_number width l) (take_all (length c - at) (drop at c) (omega (arith, length-drop at c)))

pub slice_part : (c : List ℕ) (at to n : ℕ) → to ≡ at + n → slice_range c at to ≡ part_of c at n
unfolding part_of
slice_part c at to n e = let size : to - at ≡ n = omega arith in ap (λ (k : ℕ). take k (drop at c)) size

-- octets that are 0 are so in a slice
pub to_slice : (c : List ℕ) (from n to : ℕ) → n ≡ to - from → ((k : ℕ) → from ≤ k → k < to → get_or c k 0 ≡ 0)
    → (k : ℕ) → k < length (take n (drop from c)) → get_or (take n (drop from c)) k 0 ≡ 0
to_slice c from n to e each k lt =
    let within : k < n = omega (arith, length-take n (drop from c)) in
    get_or-take n (drop from c) k 0 within ∙ get_or-drop from c k 0 ∙ each (from + k) (omega arith) (omega arith)

pub from_slice : (c : List ℕ) (from n to : ℕ) → n ≡ to - from → to ≤ length c → ((k : ℕ) → k < length (take n (drop from c)) → get_or (take n (drop from c)) k 0 ≡ 0)
    → (k : ℕ) → from ≤ k → k < to → get_or c k 0 ≡ 0
from_slice c from n to e long each k low high =
    let within : k - from < n = omega arith in
    let count : length (take n (drop from c)) ≡ n = length-take-le n (drop from c) (omega (arith, length-drop from c)) in
    let place : from + (k - from) ≡ k = omega arith in
    ap (λ (j : ℕ). get_or c j 0) (sym place) ∙ sym (get_or-take n (drop from c) (k - from) 0 within ∙ get_or-drop from c (k - from) 0) ∙ each (k - from) (omega (arith, count, within))
