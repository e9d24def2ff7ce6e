-- A chunk that is written changes no other one.
use Rattle.std.proofs.Common.{◌≡◌, ◌<◌, ◌≤◌, ℕ, ◌+◌, ◌-◌, ◌*◌, List, length, take, drop, min, ap, sym, ◌∙◌, arith, ◌⊎◌, inl, inr, length-drop, length-take}
use Rattle.std.specs.Prelude.{slice_range}
use Rattle.std.proofs.Math.Seq.{length-take-le, take-take}
use Rattle.std.proofs.Math.Nat.{mul-le-mul_right, add-mul, one-mul, div-add-mod'}
use Rattle.std.proofs.lemmas.Slice.{between_is, take-put_mid_below, drop-put_mid, between-put_mid}
use borrow.Rule.Slice.PartMut.{put_mid, same_len_mid}
use Rattle.mu_model_image.specs.Pieces.{chunk_of, chunk_count, chunk_length}

-- the place after a chunk
pub next_place : (i n : ℕ) → (i + 1) * n ≡ i * n + n
next_place i n = add-mul i 1 n ∙ ap (λ (x : ℕ). i * n + x) (one-mul n)

-- a chunk begins within the block
pub begins_within : (size n i : ℕ) → 0 < n → i < chunk_count size n → i * n < size
begins_within size n i some h =
    let whole = div-add-mod' (size + n - 1) n in
    let up : (i + 1) * n ≤ chunk_count size n * n = mul-le-mul_right n (omega arith) in
    omega (arith, next_place i n, whole)

-- the chunk of a block that comes first in octets
pub in_block : (octets : List ℕ) (size n i : ℕ) → size ≤ length octets → chunk_of (take size octets) n i ≡ slice_range octets (i * n) (min size ((i + 1) * n))
in_block octets size n i room =
    let long : length (take size octets) ≡ size = length-take-le size octets room in
    let e : ℕ = min size ((i + 1) * n) in
    ap (λ (m : ℕ). slice_range (take size octets) (i * n) (min m ((i + 1) * n))) long
    ∙ between_is (take size octets) (i * n) (min size ((i + 1) * n))
    ∙ ap (drop (i * n)) (take-take (min size ((i + 1) * n)) size octets (omega arith))
    ∙ sym (between_is octets (i * n) (min size ((i + 1) * n)))

pub same_length : (octets piece : List ℕ) (a k : ℕ) → a + k ≤ length octets → length piece ≡ k → length (put_mid a k octets piece) ≡ length octets
same_length octets piece a k room long = same_len_mid a k octets piece (omega (arith, length-take k (drop a octets), length-drop a octets))

-- one that is written is what was written
pub written : (octets piece : List ℕ) (size n i k : ℕ) → size ≤ length octets → i * n ≤ size → length piece ≡ chunk_length size n i → k ≡ length piece
    → chunk_of (take size (put_mid (i * n) k octets piece)) n i ≡ piece
written octets piece size n i k room within long count =
    let same : length (put_mid (i * n) k octets piece) ≡ length octets = same_length octets piece (i * n) k (omega arith) (omega arith) in
    in_block (put_mid (i * n) k octets piece) size n i (omega arith)
    ∙ between-put_mid (i * n) k octets piece (min size ((i + 1) * n)) (omega arith) long

-- the others stay
pub others_stay : (octets piece : List ℕ) (size n i j k : ℕ) → size ≤ length octets → i * n ≤ size → length piece ≡ chunk_length size n i → k ≡ length piece
    → (j < i) ⊎ (i < j) → chunk_of (take size (put_mid (i * n) k octets piece)) n j ≡ chunk_of (take size octets) n j
others_stay octets piece size n i j k room within long count (inl before) =
    let up : (j + 1) * n ≤ i * n = mul-le-mul_right n (omega arith) in
    let same : length (put_mid (i * n) k octets piece) ≡ length octets = same_length octets piece (i * n) k (omega arith) (omega arith) in
    in_block (put_mid (i * n) k octets piece) size n j (omega arith)
    ∙ between_is (put_mid (i * n) k octets piece) (j * n) (min size ((j + 1) * n))
    ∙ ap (drop (j * n)) (take-put_mid_below (i * n) k octets piece (min size ((j + 1) * n)) (omega arith) (omega arith))
    ∙ sym (between_is octets (j * n) (min size ((j + 1) * n)))
    ∙ sym (in_block octets size n j room)
others_stay octets piece size n i j k room within long count (inr after) =
    let up : (i + 1) * n ≤ j * n = mul-le-mul_right n (omega arith) in
    let same : length (put_mid (i * n) k octets piece) ≡ length octets = same_length octets piece (i * n) k (omega arith) (omega arith) in
    in_block (put_mid (i * n) k octets piece) size n j (omega arith)
    ∙ ap (take (min size ((j + 1) * n) - j * n)) (drop-put_mid (i * n) k octets piece (j * n) (omega (arith, next_place i n)) (omega arith) (omega arith))
    ∙ sym (in_block octets size n j room)
