-- What an operation on a range leaves of the octets.
use Rattle.std.proofs.Common.{◌≡◌, ◌⊎◌, inl, inr, ⊎_elim, ℕ, zero, suc, ◌+◌, ◌-◌, ◌<◌, ◌≤◌, List, [], ◌∷◌, length, take, drop, get_or, slice_range, refl, sym, ◌∙◌, ap, subst, arith, lit<, length-drop}
use Rattle.std.proofs.lemmas.List.{get_or-take, get_or-drop, length-take-le, ext_get_or, get_or_past}
use Rattle.std.proofs.lemmas.Nat.Bits.{same_from_bits, bit_at_above}
use Rattle.std.specs.Int.{bit_at}
use Rattle.mu_model_flash.specs.Bits.{blank, written, part_of, SameOutside, IsMixOf, Between}
use Rattle.mu_model_flash.proofs.BitLemmas.{length-written, written-before, written-inside, written-after, place, read_back}

pub length-part : (c : List ℕ) (at n : ℕ) → at + n ≤ length c → length (part_of c at n) ≡ n
unfolding part_of
length-part c at n within = length-take-le n (drop at c) (omega (arith, length-drop at c, within))

pub get-part : (c : List ℕ) (at n i : ℕ) → i < n → get_or (part_of c at n) i 0 ≡ get_or c (at + i) 0
unfolding part_of
get-part c at n i lt = get_or-take n (drop at c) i 0 lt ∙ get_or-drop at c i 0

-- what a read gives
pub range-part : (c : List ℕ) (at n : ℕ) → slice_range c at (at + n) ≡ part_of c at n
unfolding part_of
range-part c at n = let e : at + n - at ≡ n = omega arith in ap (λ (k : ℕ). take k (drop at c)) e

no_mix : (v g : ℕ) → IsMixOf v v g → g ≡ v
no_mix v g mix = same_from_bits g v (λ k. ⊎_elim (λ l. l) (λ r. r) (mix k))

pub mix_at : (a b g a' b' g' : ℕ) → a ≡ a' → b ≡ b' → g' ≡ g → IsMixOf a b g → IsMixOf a' b' g'
mix_at a b g a' b' g' a_is b_is g_is mix =
    subst (λ (x : ℕ). IsMixOf x b' g') a_is (subst (λ (y : ℕ). IsMixOf a y g') b_is (subst (λ (z : ℕ). IsMixOf a b z) (sym g_is) mix))

pub outside_same : (at n : ℕ) (c : List ℕ) → SameOutside at n c c
outside_same at n c = record { size = refl; before = λ i lt. refl; after = λ i le. refl }

pub outside_on : (at n : ℕ) (a b c : List ℕ) → SameOutside at n a b → SameOutside at n b c → SameOutside at n a c
outside_on at n a b c ab bc = record { size = bc.size ∙ ab.size; before = λ i lt. bc.before i lt ∙ ab.before i lt; after = λ i le. bc.after i le ∙ ab.after i le }

module _ (old : List ℕ) (at n : ℕ) (within : at + n ≤ length old) where
  -- written with a whole range
  module _ (bytes : List ℕ) (whole : length bytes ≡ n) where
    fits : at + length bytes ≤ length old
    fits = omega (arith, whole, within)

    pub part-written : part_of (written old at bytes) at n ≡ bytes
    unfolding part_of
    part-written = ap (λ (k : ℕ). take k (drop at (written old at bytes))) (sym whole) ∙ read_back old at bytes fits

    pub outside-written : SameOutside at n old (written old at bytes)
    outside-written = record {
      size = length-written old at bytes fits;
      before = λ i lt. written-before old at bytes fits i lt;
      after = λ i le. written-after old at bytes fits i (omega (arith, whole, le));
    }

  -- between two contents of the range
  module _ (first second : List ℕ) (first_whole : length first ≡ n) (second_whole : length second ≡ n) (c : List ℕ) (torn : Between (written old at first) (written old at second) c) where
    a : SameOutside at n old (written old at first)
    a = outside-written first first_whole

    b : SameOutside at n old (written old at second)
    b = outside-written second second_whole

    pub outside-between : SameOutside at n old c
    outside-between = record {
      size = torn.size ∙ a.size;
      before = λ i lt. no_mix _ _ (mix_at _ _ _ _ _ _ (a.before i lt) (b.before i lt) refl (torn.bits i));
      after = λ i le. no_mix _ _ (mix_at _ _ _ _ _ _ (a.after i le) (b.after i le) refl (torn.bits i));
    }

    pub mix-between : (i : ℕ) → i < n → IsMixOf (get_or first i 0) (get_or second i 0) (get_or (part_of c at n) i 0)
    mix-between i lt =
        mix_at _ _ _ _ _ _
        (written-inside old at first (fits first first_whole) i (omega (arith, lt, first_whole)))
        (written-inside old at second (fits second second_whole) i (omega (arith, lt, second_whole)))
        (get-part c at n i lt)
        (torn.bits (at + i))

    pub length-between : length (part_of c at n) ≡ n
    length-between = length-part c at n (omega (arith, within, torn.size, a.size))

    pub part-between : Between first second (part_of c at n)
    part-between = record { size = length-between ∙ sym first_whole; bits = λ i. each i (split i n) }
      where
        split : (k m : ℕ) → (k < m) ⊎ (m ≤ k)
        split k m = grind arith

        past : (xs : List ℕ) (i : ℕ) → length xs ≤ i → get_or xs i 0 ≡ 0
        past xs i le = get_or_past xs i 0 le

        each : (i : ℕ) → (i < n) ⊎ (n ≤ i) → IsMixOf (get_or first i 0) (get_or second i 0) (get_or (part_of c at n) i 0)
        each i (inl lt) = mix-between i lt
        each i (inr le) = mix_at 0 0 0 _ _ _ (sym (past first i (omega (arith, le, first_whole)))) (sym (past second i (omega (arith, le, second_whole)))) (past (part_of c at n) i (omega (arith, le, length-between))) (λ k. inl refl)

  -- the octets themselves, as written with their own range
  pub written-own : written old at (part_of old at n) ≡ old
  written-own =
      let size = length-part old at n within in
      ext_get_or 0 _ _ (outside-written (part_of old at n) size).size (λ i lt. each size i (place at n i))
    where
      each : length (part_of old at n) ≡ n → (i : ℕ) → (i < at) ⊎ (((k : ℕ) × (k < n) × (at + k ≡ i)) ⊎ (at + n ≤ i)) → get_or (written old at (part_of old at n)) i 0 ≡ get_or old i 0
      each size i (inl lt) = (outside-written (part_of old at n) size).before i lt
      each size i (inr (inl in_it)) =
          subst (λ (m : ℕ). get_or (written old at (part_of old at n)) m 0 ≡ get_or old m 0) in_it.2
          (written-inside old at (part_of old at n) (fits (part_of old at n) size) in_it.0 (omega (arith, in_it.1, size)) ∙ get-part old at n in_it.0 in_it.1)
      each size i (inr (inr past)) = (outside-written (part_of old at n) size).after i past

  -- the same outside, and this range
  pub same-whole : (bytes c : List ℕ) → length bytes ≡ n → SameOutside at n old c → part_of c at n ≡ bytes → c ≡ written old at bytes
  same-whole bytes c whole out is =
      let w = outside-written bytes whole in
      ext_get_or 0 c (written old at bytes) (out.size ∙ sym w.size) (λ i lt. each i (place at n i))
    where
      each : (i : ℕ) → (i < at) ⊎ (((k : ℕ) × (k < n) × (at + k ≡ i)) ⊎ (at + n ≤ i)) → get_or c i 0 ≡ get_or (written old at bytes) i 0
      each i (inl lt) = out.before i lt ∙ sym ((outside-written bytes whole).before i lt)
      each i (inr (inl in_it)) =
          subst (λ (m : ℕ). get_or c m 0 ≡ get_or (written old at bytes) m 0) in_it.2
          (sym (get-part c at n in_it.0 in_it.1) ∙ ap (λ (l : List ℕ). get_or l in_it.0 0) is ∙ sym (written-inside old at bytes (fits bytes whole) in_it.0 (omega (arith, in_it.1, whole))))
      each i (inr (inr past)) = out.after i past ∙ sym ((outside-written bytes whole).after i past)

  -- an operation on the range that is cut short
  module _ (bytes : List ℕ) (whole : length bytes ≡ n) (c : List ℕ) (torn : Between old (written old at bytes) c) where
    from_own : Between (written old at (part_of old at n)) (written old at bytes) c
    from_own = subst (λ (o : List ℕ). Between o (written old at bytes) c) (sym written-own) torn

    pub torn-outside : SameOutside at n old c
    torn-outside = outside-between (part_of old at n) bytes (length-part old at n within) whole c from_own

    pub torn-part : Between (part_of old at n) bytes (part_of c at n)
    torn-part = part-between (part_of old at n) bytes (length-part old at n within) whole c from_own

-- a range that lies outside another is the same
module _ (old c : List ℕ) (at n : ℕ) (out : SameOutside at n old c) where
  pub part-outside : (p m : ℕ) → (p + m ≤ at) ⊎ (at + n ≤ p) → p + m ≤ length old → part_of c p m ≡ part_of old p m
  part-outside p m apart within =
      let here = length-part old p m within in
      let there = length-part c p m (omega (arith, within, out.size)) in
      ext_get_or 0 (part_of c p m) (part_of old p m) (there ∙ sym here) (λ i lt.
      let low : i < m = omega (arith, lt, there) in
      get-part c p m i low ∙ same i low apart ∙ sym (get-part old p m i low))
    where
      same : (i : ℕ) → i < m → (p + m ≤ at) ⊎ (at + n ≤ p) → get_or c (p + i) 0 ≡ get_or old (p + i) 0
      same i lt (inl below) = out.before (p + i) (omega (arith, lt, below))
      same i lt (inr above) = out.after (p + i) (omega (arith, lt, above))

  pub drop-outside : (m : ℕ) → at + n ≤ m → drop m c ≡ drop m old
  drop-outside m past =
      ext_get_or 0 (drop m c) (drop m old) (length-drop m c ∙ ap (λ (k : ℕ). k - m) out.size ∙ sym (length-drop m old))
      (λ i lt. get_or-drop m c i 0 ∙ out.after (m + i) (omega (arith, past)) ∙ sym (get_or-drop m old i 0))

-- A program that clears one bit of an erased octet is done or not.
same_but_first : (k : ℕ) → bit_at 255 (suc k) ≡ bit_at 254 (suc k)
same_but_first zero = refl
same_but_first (suc zero) = refl
same_but_first (suc (suc zero)) = refl
same_but_first (suc (suc (suc zero))) = refl
same_but_first (suc (suc (suc (suc zero)))) = refl
same_but_first (suc (suc (suc (suc (suc zero))))) = refl
same_but_first (suc (suc (suc (suc (suc (suc zero)))))) = refl
same_but_first (suc (suc (suc (suc (suc (suc (suc k))))))) =
    bit_at_above 255 8 (suc (suc (suc (suc (suc (suc (suc (suc k)))))))) (lit< tt) (omega arith) ∙ sym (bit_at_above 254 8 (suc (suc (suc (suc (suc (suc (suc (suc k)))))))) (lit< tt) (omega arith))

pub one_bit : (g : ℕ) → IsMixOf 255 254 g → (g ≡ 255) ⊎ (g ≡ 254)
one_bit g mix = ⊎_elim
    (λ was. inl (same_from_bits g 255 (from_first 255 was (λ k. ⊎_elim (λ l. l) (λ r. r ∙ sym (same_but_first k)) (mix (suc k))))))
    (λ now. inr (same_from_bits g 254 (from_first 254 now (λ k. ⊎_elim (λ l. l ∙ same_but_first k) (λ r. r) (mix (suc k))))))
    (mix 0)
  where
    from_first : (b : ℕ) → bit_at g 0 ≡ bit_at b 0 → ((k : ℕ) → bit_at g (suc k) ≡ bit_at b (suc k)) → (k : ℕ) → bit_at g k ≡ bit_at b k
    from_first b here there zero = here
    from_first b here there (suc k) = there k

single : (l : List ℕ) → length l ≡ 1 → l ≡ get_or l 0 0 ∷ []
single [] e = absurd (cc e)
single (x ∷ []) e = refl
single (x ∷ y ∷ l) e = absurd (omega (arith, e))

-- an octet that reads FF
pub one_blank : (c : List ℕ) (at : ℕ) → at + 1 ≤ length c → get_or c at 0 ≡ 255 → part_of c at 1 ≡ 255 ∷ []
one_blank c at within is =
    let zero_on : at + 0 ≡ at = omega arith in
    single (part_of c at 1) (length-part c at 1 within)
    ∙ ap (λ (x : ℕ). x ∷ []) (get-part c at 1 0 (omega arith) ∙ ap (λ (i : ℕ). get_or c i 0) zero_on ∙ is)

pub reads_one : (c : List ℕ) (at : ℕ) → part_of c at 1 ≡ 255 ∷ [] → slice_range c at (at + 1) ≡ blank 1
unfolding blank
reads_one c at is = range-part c at 1 ∙ is

-- the octets with one erased octet set to FE, in part: it is FF or FE
pub mark_torn : (old : List ℕ) (at : ℕ) (c : List ℕ) → at + 1 ≤ length old → part_of old at 1 ≡ 255 ∷ [] → Between old (written old at (254 ∷ [])) c → (c ≡ old) ⊎ (c ≡ written old at (254 ∷ []))
mark_torn old at c within is torn =
    let out = torn-outside old at 1 within (254 ∷ []) refl c torn in
    let part = torn-part old at 1 within (254 ∷ []) refl c torn in
    let size : length (part_of c at 1) ≡ 1 = length-part c at 1 (omega (arith, within, out.size)) in
    let one : part_of c at 1 ≡ get_or (part_of c at 1) 0 0 ∷ [] = single (part_of c at 1) size in
    let mix : IsMixOf 255 254 (get_or (part_of c at 1) 0 0) = subst (λ (x : ℕ). IsMixOf x 254 (get_or (part_of c at 1) 0 0)) (ap (λ (l : List ℕ). get_or l 0 0) is) (part.bits 0) in
    ⊎_elim
    (λ was. inl (same-whole old at 1 within (255 ∷ []) c refl out (one ∙ ap (λ (x : ℕ). x ∷ []) was) ∙ ap (λ (l : List ℕ). written old at l) (sym is) ∙ written-own old at 1 within))
    (λ now. inr (same-whole old at 1 within (254 ∷ []) c refl out (one ∙ ap (λ (x : ℕ). x ∷ []) now)))
    (one_bit (get_or (part_of c at 1) 0 0) mix)
