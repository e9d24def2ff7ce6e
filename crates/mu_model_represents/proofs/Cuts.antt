-- Blocks that are all held are the image that they make, cut in blocks.
use Rattle.std.proofs.Common.{◌≡◌, ℕ, zero, suc, ◌+◌, ◌-◌, ◌*◌, ◌^◌, ◌<◌, ◌≤◌, min, true, Some, None, List, [], ◌∷◌, ◌++◌, length, map, take, drop, get_or, refl, sym, ◌∙◌, ap, arith}
use Rattle.std.proofs.Math.Nat.{add-mul, one-mul, mul-le-mul_right}
use Rattle.std.proofs.lemmas.List.{ext_get_or, get_or-map, length-map, take_at}
use Rattle.std.proofs.lemmas.List.FromFn.{length-map-range_with_len, get_or-map-range_with_len}
use Rattle.mu_model_image.specs.Pieces.{block_of, block_count, block_length, blocks_of}
use Rattle.mu_model_image.specs.Laws.{BlocksAreThoseWithin}
use Rattle.mu_model_node.specs.Slots.{Slots, at, is_full, joined}
use Rattle.mu_model_node.specs.Sound.{HaveLengths}
use Rattle.mu_model_represents.proofs.Octets.{drop_past}

-- where those before it have n octets each, slot i lies at i times n
slot_lies : (held : Slots) (n i m : ℕ) (x : List ℕ) → m ≡ i * n → is_full held ≡ true → ((k : ℕ) (y : List ℕ) → k < i → at held k ≡ Some y → length y ≡ n) → at held i ≡ Some x
    → take (length x) (drop m (joined held)) ≡ x
slot_lies [] n i m x place full lengths is = absurd cc
slot_lies (None ∷ held) n i m x place full lengths is = absurd cc
slot_lies (Some y ∷ held) n zero m x place full lengths is =
    let same : y ≡ x = cc is in
    let none : m ≡ 0 = omega arith in
    ap (λ (k : ℕ). take (length x) (drop k (y ++ joined held))) none ∙ ap (λ (z : List ℕ). take (length x) (z ++ joined held)) same ∙ take_at x (joined held) (length x) refl
slot_lies (Some y ∷ held) n (suc i) m x place full lengths is =
    let first : length y ≡ n = lengths 0 y (omega arith) refl in
    let next : m ≡ n + i * n = place ∙ step i n in
    let rest = slot_lies held n i (i * n) x refl full (λ k z lt. lengths (suc k) z (omega (arith, lt))) is in
    ap (λ (k : ℕ). take (length x) (drop k (y ++ joined held))) next ∙ ap (λ (l : List ℕ). take (length x) l) (drop_past y (joined held) n (i * n) first) ∙ rest
  where
    step : (i n : ℕ) → suc i * n ≡ n + i * n
    step i n = omega arith

-- a block before another has the whole block size
before : (size n i k : ℕ) → k < i → i * n < size → min size ((k + 1) * n) - k * n ≡ n
before size n i k lt within =
    let most : (k + 1) * n ≤ i * n = mul-le-mul_right n (omega arith) in
    let next : (k + 1) * n ≡ k * n + n = add-mul k 1 n ∙ ap (λ (x : ℕ). k * n + x) (one-mul n) in
    omega (arith, most, next)

some_slot : (held : Slots) (i : ℕ) → is_full held ≡ true → i < length held → (x : List ℕ) × (at held i ≡ Some x)
some_slot [] i full lt = absurd (omega arith)
some_slot (None ∷ held) i full lt = absurd cc
some_slot (Some x ∷ held) zero full lt = (x, refl)
some_slot (Some x ∷ held) (suc i) full lt = some_slot held i full (omega arith)

module _ (within : BlocksAreThoseWithin) (held : Slots) (size log : ℕ) (count : length held ≡ block_count size log) (lengths : HaveLengths (block_length size log) held) (full : is_full held ≡ true) (whole : length (joined held) ≡ size) where
  slot_is : (i : ℕ) → i < length held → at held i ≡ Some (block_of (joined held) log i)
  slot_is i lt =
      let some = some_slot held i full lt in
      let x = some.0 in
      let begins : i * 2 ^ log < size = (within size log i).0 (omega (arith, lt, count)) in
      let lies : take (length x) (drop (i * 2 ^ log) (joined held)) ≡ x = slot_lies held (2 ^ log) i (i * 2 ^ log) x refl full
      (λ k y less is. lengths k y is ∙ before size (2 ^ log) i k less begins) some.1 in
      let long : block_length (length (joined held)) log i ≡ length x = ap (λ (n : ℕ). block_length n log i) whole ∙ sym (lengths i x some.1) in
      some.1 ∙ ap Some (sym (ap (λ (n : ℕ). take n (drop (i * 2 ^ log) (joined held))) long ∙ lies))

  pub held_is_cut : held ≡ map Some (blocks_of (joined held) log)
  held_is_cut =
      let blocks = blocks_of (joined held) log in
      let many : length blocks ≡ block_count size log = length-map-range_with_len (block_of (joined held) log) 0 (block_count (length (joined held)) log) ∙ ap (λ (n : ℕ). block_count n log) whole in
      ext_get_or None held (map Some blocks) (count ∙ sym many ∙ sym (length-map blocks Some)) (λ i lt.
      let low : i < length blocks = omega (arith, lt, many, count) in
      let few : i < block_count (length (joined held)) log = omega (arith, low, length-map-range_with_len (block_of (joined held) log) 0 (block_count (length (joined held)) log)) in
      let one : get_or (map Some blocks) i None ≡ Some (get_or blocks i []) = get_or-map Some blocks i [] None low in
      let block : get_or blocks i [] ≡ block_of (joined held) log i = get_or-map-range_with_len (block_of (joined held) log) 0 (block_count (length (joined held)) log) i i [] few (omega arith) in
      slot_is i lt ∙ ap Some (sym block) ∙ sym one)
