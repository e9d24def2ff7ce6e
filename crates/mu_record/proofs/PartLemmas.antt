-- Parts of octets.
use Rattle.std.proofs.Common.{◌≡◌, ℕ, ◌+◌, ◌-◌, ◌<◌, ◌≤◌, List, length, take, drop, get_or, slice_range, ◌∙◌, ap, arith, length-drop}
use Rattle.std.proofs.lemmas.List.{get_or-take, get_or-drop, length-take-le, length-replicate, get_or-replicate}
use Rattle.mu_model_flash.specs.Bits.{blank, part_of}

pub length-part : (c : List ℕ) (at n : ℕ) → at + n ≤ length c → length (part_of c at n) ≡ n
unfolding part_of
length-part c at n within = length-take-le n (drop at c) (omega (arith, length-drop at c, within))

pub get-part : (c : List ℕ) (at n i : ℕ) → i < n → get_or (part_of c at n) i 0 ≡ get_or c (at + i) 0
unfolding part_of
get-part c at n i lt = get_or-take n (drop at c) i 0 lt ∙ get_or-drop at c i 0

-- what a read gives
pub range-part : (c : List ℕ) (at n : ℕ) → slice_range c at (at + n) ≡ part_of c at n
unfolding part_of
range-part c at n = let e : at + n - at ≡ n = omega arith in ap (λ (k : ℕ). take k (drop at c)) e

pub length-blank : (n : ℕ) → length (blank n) ≡ n
unfolding blank
length-blank n = length-replicate n 255

pub get-blank : (n i : ℕ) → i < n → get_or (blank n) i 0 ≡ 255
unfolding blank
get-blank n i lt = get_or-replicate n i 255 0 lt
