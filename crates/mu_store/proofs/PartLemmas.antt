-- Parts of octets.
use Rattle.std.proofs.Common.{◌≡◌, ℕ, ◌+◌, ◌-◌, ◌<◌, ◌≤◌, List, ◌++◌, length, take, drop, get_or, slice_range, refl, sym, ◌∙◌, ap, arith, length-drop}
use Rattle.std.proofs.lemmas.List.{get_or-take, get_or-drop, length-take-le, length-replicate, get_or-replicate, ext_get_or, drop-drop}
use Rattle.std.proofs.Math.Seq.{take-add}
use Rattle.mu_model_flash.specs.Bits.{blank, part_of, SameOutside}

pub length-part : (c : List ℕ) (at n : ℕ) → at + n ≤ length c → length (part_of c at n) ≡ n
unfolding part_of
length-part c at n within = length-take-le n (drop at c) (omega (arith, length-drop at c, within))

pub get-part : (c : List ℕ) (at n i : ℕ) → i < n → get_or (part_of c at n) i 0 ≡ get_or c (at + i) 0
unfolding part_of
get-part c at n i lt = get_or-take n (drop at c) i 0 lt ∙ get_or-drop at c i 0

-- what a read gives
pub range-part : (c : List ℕ) (at n : ℕ) → slice_range c at (at + n) ≡ part_of c at n
unfolding part_of
range-part c at n = let e : at + n - at ≡ n = omega arith in ap (λ (k : ℕ). take k (drop at c)) e

pub length-blank : (n : ℕ) → length (blank n) ≡ n
unfolding blank
length-blank n = length-replicate n 255

pub get-blank : (n i : ℕ) → i < n → get_or (blank n) i 0 ≡ 255
unfolding blank
get-blank n i lt = get_or-replicate n i 255 0 lt

-- a range within another
pub wider : (at n p m : ℕ) (old c : List ℕ) → at ≤ p → p + m ≤ at + n → SameOutside p m old c → SameOutside at n old c
wider at n p m old c from to out = record { size = out.size; before = λ i lt. out.before i (omega (arith, lt, from)); after = λ i le. out.after i (omega (arith, le, to)) }

-- a part of a part
pub part_part : (c : List ℕ) (at n p m : ℕ) → at + n ≤ length c → p + m ≤ n → part_of (part_of c at n) p m ≡ part_of c (at + p) m
part_part c at n p m within inner =
    let whole : length (part_of c at n) ≡ n = length-part c at n within in
    let here : length (part_of (part_of c at n) p m) ≡ m = length-part (part_of c at n) p m (omega (arith, whole, inner)) in
    let there : length (part_of c (at + p) m) ≡ m = length-part c (at + p) m (omega (arith, within, inner)) in
    ext_get_or 0 (part_of (part_of c at n) p m) (part_of c (at + p) m) (here ∙ sym there) (λ i lt.
    let low : i < m = omega (arith, lt, here) in
    let place : at + (p + i) ≡ at + p + i = omega arith in
    get-part (part_of c at n) p m i low
    ∙ get-part c at n (p + i) (omega (arith, low, inner))
    ∙ ap (λ (k : ℕ). get_or c k 0) place
    ∙ sym (get-part c (at + p) m i low))

-- a part of a part that reads FF
pub blank_in : (c : List ℕ) (at n p m : ℕ) → at + n ≤ length c → p + m ≤ n → part_of c at n ≡ blank n → part_of c (at + p) m ≡ blank m
blank_in c at n p m within inner is = sym (part_part c at n p m within inner) ∙ ap (λ (l : List ℕ). part_of l p m) is ∙ of_blank
  where
    of_blank : part_of (blank n) p m ≡ blank m
    of_blank =
        let size = length-part (blank n) p m (omega (arith, inner, length-blank n)) in
        ext_get_or 0 (part_of (blank n) p m) (blank m) (size ∙ sym (length-blank m)) (λ i lt.
        get-part (blank n) p m i (omega (arith, lt, size)) ∙ get-blank n (p + i) (omega (arith, inner, lt, size)) ∙ sym (get-blank m i (omega (arith, lt, size))))

pub part_empty : (c : List ℕ) (at : ℕ) → part_of c at 0 ≡ blank 0
unfolding part_of blank
part_empty c at = refl

pub part_joined : (c : List ℕ) (at n m : ℕ) → part_of c at n ++ part_of c (at + n) m ≡ part_of c at (n + m)
unfolding part_of
part_joined c at n m = ap (λ (l : List ℕ). take n (drop at c) ++ take m l) (sym (drop-drop n at c)) ∙ sym (take-add n m (drop at c))
