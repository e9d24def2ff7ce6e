-- Octets that lie between two others.
use Rattle.std.proofs.Common.{◌≡◌, ◌⊎◌, inl, inr, ⊎_elim, ℕ, ◌+◌, ◌-◌, ◌<◌, ◌≤◌, min, max, bit_and, bit_or, w8, List, ◌++◌, length, take, drop, get_or, refl, sym, ◌∙◌, ap, subst, arith, length-append, length-take, length-drop}
use Rattle.std.proofs.lemmas.List.{length-replicate, get_or-replicate, get_or_append_left, get_or-append_right, get_or-take, get_or-drop, length-take-le, take_at, drop_at, ext_get_or}
use Rattle.std.specs.Int.{bit_at}
use Rattle.std.proofs.lemmas.Nat.Bits.{bit_at_and, bit_at_or, bit_at-lt, bit_at_above, bit_at_ones, bit_at_not, same_from_bits}
use Rattle.std.proofs.lemmas.Nat.{and_le_r}
use Rattle.mu_model_flash.specs.Bits.{AreOctets, blank, written, IsMixOf, Between}

pub length-blank : (n : ℕ) → length (blank n) ≡ n
unfolding blank
length-blank n = length-replicate n 255

pub get-blank : (n i : ℕ) → i < n → get_or (blank n) i 0 ≡ 255
unfolding blank
get-blank n i lt = get_or-replicate n i 255 0 lt

split : (k n : ℕ) → (k < n) ⊎ (n ≤ k)
split k n = grind arith

-- an index lies before a range, in it or past it
pub place : (at n i : ℕ) → (i < at) ⊎ (((k : ℕ) × (k < n) × (at + k ≡ i)) ⊎ (at + n ≤ i))
place at n i =
    ⊎_elim (λ before. inl before) (λ from. ⊎_elim (λ in_it. inr (inl (i - at, omega (arith, from, in_it), omega (arith, from)))) (λ past. inr (inr past)) (split i (at + n))) (split i at)

module _ (old : List ℕ) (at : ℕ) (bytes : List ℕ) (within : at + length bytes ≤ length old) where
  pub length-written : length (written old at bytes) ≡ length old
  unfolding written
  length-written = omega (arith, length-append (take at old) (bytes ++ drop (at + length bytes) old), length-append bytes (drop (at + length bytes) old), length-take at old, length-drop (at + length bytes) old)

  head : length (take at old) ≡ at
  head = length-take-le at old (omega arith)

  pub written-before : (i : ℕ) → i < at → get_or (written old at bytes) i 0 ≡ get_or old i 0
  unfolding written
  written-before i lt = get_or_append_left (take at old) (bytes ++ drop (at + length bytes) old) 0 i (omega (arith, head)) ∙ get_or-take at old i 0 lt

  pub written-inside : (i : ℕ) → i < length bytes → get_or (written old at bytes) (at + i) 0 ≡ get_or bytes i 0
  unfolding written
  written-inside i lt =
      let e : at + i - at ≡ i = omega arith in
      get_or-append_right (take at old) (bytes ++ drop (at + length bytes) old) at (at + i) 0 head (omega arith)
      ∙ ap (λ (k : ℕ). get_or (bytes ++ drop (at + length bytes) old) k 0) e
      ∙ get_or_append_left bytes (drop (at + length bytes) old) 0 i lt

  pub written-after : (i : ℕ) → at + length bytes ≤ i → get_or (written old at bytes) i 0 ≡ get_or old i 0
  unfolding written
  written-after i le =
      let e : at + length bytes + (i - at - length bytes) ≡ i = omega arith in
      get_or-append_right (take at old) (bytes ++ drop (at + length bytes) old) at i 0 head (omega arith)
      ∙ get_or-append_right bytes (drop (at + length bytes) old) (length bytes) (i - at) 0 refl (omega arith)
      ∙ get_or-drop (at + length bytes) old (i - at - length bytes) 0
      ∙ ap (λ (k : ℕ). get_or old k 0) e

pub between_new : (old new : List ℕ) → length new ≡ length old → Between old new new
between_new old new same = record { size = same; bits = λ i k. inr refl }

pub between_old : (old new : List ℕ) → Between old new old
between_old old new = record { size = refl; bits = λ i k. inl refl }

-- a part that is written twice over
pub written-written : (old : List ℕ) (at : ℕ) (first second : List ℕ) → length first ≡ length second → at + length second ≤ length old → written (written old at first) at second ≡ written old at second
written-written old at first second same within =
    let size1 : length (written old at first) ≡ length old = length-written old at first (omega (arith, same, within)) in
    let within1 : at + length second ≤ length (written old at first) = omega (arith, size1, within) in
    let size2 : length (written (written old at first) at second) ≡ length old = length-written (written old at first) at second within1 ∙ size1 in
    ext_get_or 0 (written (written old at first) at second) (written old at second) (size2 ∙ sym (length-written old at second within)) (λ i lt. each i (cases i))
  where
    size1 : length (written old at first) ≡ length old
    size1 = length-written old at first (omega (arith, same, within))

    within1 : at + length second ≤ length (written old at first)
    within1 = omega (arith, size1, within)

    cases : (i : ℕ) → (i < at) ⊎ (((k : ℕ) × (k < length second) × (at + k ≡ i)) ⊎ (at + length second ≤ i))
    cases i = place at (length second) i

    each : (i : ℕ) → (i < at) ⊎ (((k : ℕ) × (k < length second) × (at + k ≡ i)) ⊎ (at + length second ≤ i)) → get_or (written (written old at first) at second) i 0 ≡ get_or (written old at second) i 0
    each i (inl before) =
        written-before (written old at first) at second within1 i before ∙ written-before old at first (omega (arith, same, within)) i before ∙ sym (written-before old at second within i before)
    each i (inr (inl in_it)) =
        subst (λ (n : ℕ). get_or (written (written old at first) at second) n 0 ≡ get_or (written old at second) n 0) in_it.2
        (written-inside (written old at first) at second within1 in_it.0 in_it.1 ∙ sym (written-inside old at second within in_it.0 in_it.1))
    each i (inr (inr past)) =
        written-after (written old at first) at second within1 i past ∙ written-after old at first (omega (arith, same, within)) i (omega (arith, same, past)) ∙ sym (written-after old at second within i past)

-- what was written is read back
pub read_back : (old : List ℕ) (at : ℕ) (bytes : List ℕ) → at + length bytes ≤ length old → take (length bytes) (drop at (written old at bytes)) ≡ bytes
unfolding written
read_back old at bytes within =
    let head : length (take at old) ≡ at = length-take-le at old (omega arith) in
    ap (λ (l : List ℕ). take (length bytes) l) (drop_at (take at old) (bytes ++ drop (at + length bytes) old) at head)
    ∙ take_at bytes (drop (at + length bytes) old) (length bytes) refl

mixed_bits : (p q m n : ℕ) → m < 2 → n ≡ 1 - m → p < 2 → q < 2 → (max (min p n) (min q m) ≡ p) ⊎ (max (min p n) (min q m) ≡ q)
mixed_bits p q m n m_lt n_is p_lt q_lt = ⊎_elim (λ zero. inl (omega (arith, zero))) (λ one. inr (omega (arith, one))) (two m m_lt)
  where
    two : (x : ℕ) → x < 2 → (x ≡ 0) ⊎ (x ≡ 1)
    two x lt = grind arith

-- the bits under a mask are new, the others old
pub mix_is : (a b m : ℕ) → a < 256 → b < 256 → m < 256 → IsMixOf a b (bit_or (bit_and a (255 - m)) (bit_and b m))
mix_is a b m a_lt b_lt m_lt k =
    let e : bit_at (bit_or (bit_and a (255 - m)) (bit_and b m)) k ≡ max (min (bit_at a k) (bit_at (255 - m) k)) (min (bit_at b k) (bit_at m k)) =
    bit_at_or (bit_and a (255 - m)) (bit_and b m) k ∙ (λ i. max (bit_at_and a (255 - m) k i) (bit_at_and b m k i)) in
    ⊎_elim
    (λ low. ⊎_elim (λ l. inl (e ∙ l)) (λ r. inr (e ∙ r)) (mixed_bits (bit_at a k) (bit_at b k) (bit_at m k) (bit_at (255 - m) k) (bit_at-lt m k) (bit_at_not w8 m k m_lt low) (bit_at-lt a k) (bit_at-lt b k)))
    (λ high. inl (e ∙ none (bit_at a k) (bit_at b k) (bit_at (255 - m) k) (bit_at m k) (bit_at_above a 8 k a_lt high) (bit_at_above b 8 k b_lt high)))
    (split k 8)
  where
    none : (p q n r : ℕ) → p ≡ 0 → q ≡ 0 → max (min p n) (min q r) ≡ p
    none p q n r p_is q_is = omega arith

-- bits that are mixed twice with the same new ones
pub mix_more : (a b c d : ℕ) → IsMixOf a b c → IsMixOf c b d → IsMixOf a b d
mix_more a b c d first second k = ⊎_elim (λ was. ⊎_elim (λ l. inl (was ∙ l)) (λ r. inr (was ∙ r)) (first k)) (λ new. inr new) (second k)

min_low : (x y : ℕ) → x ≤ y → min x y ≡ x
min_low x y le = omega arith

-- no bit is above the other's
pub le_from_bits : (a b : ℕ) → ((k : ℕ) → bit_at a k ≤ bit_at b k) → a ≤ b
le_from_bits a b bits =
    let same : bit_and a b ≡ a = same_from_bits (bit_and a b) a (λ k. bit_at_and a b k ∙ min_low (bit_at a k) (bit_at b k) (bits k)) in
    subst (λ (x : ℕ). x ≤ b) same (and_le_r a b)

le_same : (x y : ℕ) → y ≡ x → x ≤ y
le_same x y e = omega arith

le_bound : (x y z : ℕ) → x < 2 → y ≡ 1 → x ≤ y
le_bound x y z lt is = omega arith

none_above : (a b g k : ℕ) → a < 256 → b < 256 → 8 ≤ k → IsMixOf a b g → bit_at g k ≡ 0
none_above a b g k a_lt b_lt high mix = ⊎_elim (λ was. was ∙ bit_at_above a 8 k a_lt high) (λ now. now ∙ bit_at_above b 8 k b_lt high) (mix k)

-- a mix of two octets is an octet
pub mix_below : (a b g : ℕ) → a < 256 → b < 256 → IsMixOf a b g → g < 256
mix_below a b g a_lt b_lt mix =
    let le : g ≤ 255 = le_from_bits g 255 (λ k. ⊎_elim
    (λ low. le_bound (bit_at g k) (bit_at 255 k) 0 (bit_at-lt g k) (bit_at_ones 8 k low))
    (λ high. le_zero (bit_at g k) (bit_at 255 k) (none_above a b g k a_lt b_lt high mix))
    (split k 8)) in
    omega (arith, le)
  where
    le_zero : (x y : ℕ) → x ≡ 0 → x ≤ y
    le_zero x y e = omega arith

pub octets-between : (old new got : List ℕ) → AreOctets old → AreOctets new → Between old new got → AreOctets got
octets-between old new got old_are new_are torn i = mix_below (get_or old i 0) (get_or new i 0) (get_or got i 0) (old_are i) (new_are i) (torn.bits i)

pub octets-written : (old : List ℕ) (at : ℕ) (bytes : List ℕ) → at + length bytes ≤ length old → AreOctets old → AreOctets bytes → AreOctets (written old at bytes)
octets-written old at bytes within old_are bytes_are i = each (place at (length bytes) i)
  where
    each : (i < at) ⊎ (((k : ℕ) × (k < length bytes) × (at + k ≡ i)) ⊎ (at + length bytes ≤ i)) → get_or (written old at bytes) i 0 < 256
    each (inl before) = subst (λ (x : ℕ). x < 256) (sym (written-before old at bytes within i before)) (old_are i)
    each (inr (inl in_it)) =
        subst (λ (n : ℕ). get_or (written old at bytes) n 0 < 256) in_it.2 (subst (λ (x : ℕ). x < 256) (sym (written-inside old at bytes within in_it.0 in_it.1)) (bytes_are in_it.0))
    each (inr (inr past)) = subst (λ (x : ℕ). x < 256) (sym (written-after old at bytes within i past)) (old_are i)
