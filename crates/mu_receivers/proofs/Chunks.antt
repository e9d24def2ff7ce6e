-- What a read of a chunk gives.
use Rattle.std.proofs.Common.{◌≡◌, ◌<◌, ◌≤◌, ◌+◌, ◌-◌, ◌*◌, ◌^◌, ℕ, List, sym, ap, ◌∙◌, arith, take, drop, length, Option, Some, None}
use Rattle.std.specs.Prelude.{min, slice_range, IfSome}
use Rattle.std.proofs.lemmas.List.{take-take, drop-drop, drop-take, length-take, length-drop}
use Rattle.mu_model_client.specs.declared.Sending.{Sending}
use Rattle.mu_model_client.specs.Lists.{chunk_octets}
use Rattle.mu_receivers.specs.Image.{Image}
use Rattle.mu_receivers.specs.Reads.{CanRead, Within}

-- a range of a range
within_range : (o : List ℕ) (a e x y : ℕ) → x ≤ y → a + y ≤ e → slice_range (slice_range o a e) x y ≡ slice_range o (a + x) (a + y)
within_range o a e x y up fits =
    let m = (e - a) - x in
    let long : e - a ≡ x + m = omega (arith, up, fits) in
    let n : (a + y) - (a + x) ≡ y - x = omega (arith, up) in
    ap (λ k. take (y - x) (drop x (take k (drop a o)))) long
    ∙ ap (take (y - x)) (drop-take x m (drop a o))
    ∙ take-take (y - x) m (drop x (drop a o)) (omega (arith, up, fits))
    ∙ ap (take (y - x)) (drop-drop x a o)
    ∙ ap (λ k. take k (drop (a + x) o)) (sym n)

long_range : (o : List ℕ) (a e : ℕ) → a ≤ e → e ≤ length o → length (slice_range o a e) ≡ e - a
long_range o a e up fits = omega (arith, length-take (e - a) (drop a o), length-drop a o, up, fits)

-- l and c are the sizes of a block and of a chunk, bl and kc where this block and this chunk begin
chunk_is : (o : List ℕ) (l c b k n : ℕ) → b * l + k * c < length o → k * c < l
    → n ≡ min (min (length o) (b * l + l)) ((b * l + k * c) + c) - (b * l + k * c)
    → slice_range (slice_range o (b * l) (min (length o) ((b + 1) * l))) (k * c) (min (length (slice_range o (b * l) (min (length o) ((b + 1) * l)))) ((k + 1) * c))
    ≡ slice_range o (b * l + k * c) ((b * l + k * c) + n)
chunk_is o l c b k n in_image in_block e =
    let bl = b * l in
    let kc = k * c in
    let end = min (length o) ((b + 1) * l) in
    let next : (b + 1) * l ≡ b * l + l = omega arith in
    let more : (k + 1) * c ≡ k * c + c = omega arith in
    let up : b * l ≤ min (length o) ((b + 1) * l) = omega (arith, next, in_image) in
    let long = long_range o bl end up (omega arith) in
    let y = min (end - bl) ((k + 1) * c) in
    ap (λ m. slice_range (slice_range o bl end) kc (min m ((k + 1) * c))) long
    ∙ within_range o bl end kc y (omega (arith, next, more, in_image, in_block)) (omega (arith, next, in_image))
    ∙ (let same : b * l + min (min (length o) ((b + 1) * l) - b * l) ((k + 1) * c) ≡ (b * l + k * c) + n = omega (arith, next, more, in_image, in_block, e) in
    ap (slice_range o (bl + kc)) same)

told_chunk : (p : Sending) (b k : ℕ) (octets : Option (List ℕ)) (at : ℕ) (out : List ℕ) → Within p b k
    → at ≡ b * 2 ^ p.log + k * p.chunk
    → length out ≡ min (min p.size (b * 2 ^ p.log + 2 ^ p.log)) (at + p.chunk) - at
    → IfSome octets (λ o. length o ≡ p.size)
    → IfSome octets (λ o. out ≡ slice_range o at (at + length out))
    → IfSome octets (λ o. out ≡ chunk_octets p o b k)
told_chunk p b k None at out w here n long gives = tt
told_chunk p b k (Some o) at out w here n long gives =
    let l = 2 ^ p.log in
    let c = p.chunk in
    let size : min (min p.size (b * l + l)) (at + c) - at ≡ min (min (length o) (b * l + l)) ((b * l + k * c) + c) - (b * l + k * c) =
    ap (λ a. min (min p.size (b * l + l)) (a + c) - a) here ∙ ap (λ s. min (min s (b * l + l)) ((b * l + k * c) + c) - (b * l + k * c)) (sym long) in
    let inside : b * l + k * c < length o = omega (arith, w.image, long) in
    gives ∙ ap (λ a. slice_range o a (a + length out)) here ∙ sym (chunk_is o l c b k (length out) inside w.block (n ∙ size))

pub gives_chunk : (p : Sending) (image : Image) (b k : ℕ) (at : ℕ) (out : List ℕ) → CanRead p image → Within p b k
    → at ≡ b * 2 ^ p.log + k * p.chunk
    → length out ≡ min (min p.size (b * 2 ^ p.log + 2 ^ p.log)) (at + p.chunk) - at
    → IfSome image.octets (λ o. out ≡ slice_range o at (at + length out))
    → IfSome image.octets (λ o. out ≡ chunk_octets p o b k)
gives_chunk p image b k at out can w here n gives = told_chunk p b k image.octets at out w here n can.long gives
