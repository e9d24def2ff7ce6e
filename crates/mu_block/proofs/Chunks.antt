-- The chunks that are kept as a set and octets.
use Rattle.std.proofs.Common.{◌≡◌, ◌<◌, ℕ, Bool, true, false, List, length, replicate, get_or, refl, ap, sym, ◌∙◌, arith, Some, None}
use Rattle.std.specs.Prelude.{is_some, if◌then◌else◌}
use Rattle.std.proofs.lemmas.List.{ext_get_or, get_or-map, get_or-replicate, length-replicate, length-map}
use Rattle.std.proofs.lemmas.List.FromFn.{get_or-map-range_with_len, length-map-range_with_len}
use Rattle.mu_model_wire.specs.Reports.{has}
use Rattle.mu_model_image.specs.Pieces.{chunk_of}
use Rattle.mu_model_node.specs.Slots.{received}
use Rattle.mu_block.specs.Buffer.{chunk_in, chunks_in}

pub at_chunk : (block : List ℕ) (n : ℕ) (came : List Bool) (i : ℕ) → i < length came → get_or (chunks_in block n came) i None ≡ chunk_in block n came i
unfolding chunks_in
at_chunk block n came i h = get_or-map-range_with_len (chunk_in block n came) 0 (length came) i i None h (omega arith)

pub count_of_chunks : (block : List ℕ) (n : ℕ) (came : List Bool) → length (chunks_in block n came) ≡ length came
unfolding chunks_in
count_of_chunks block n came = length-map-range_with_len (chunk_in block n came) 0 (length came)

-- by whether it came
pub by_came : (block : List ℕ) (n : ℕ) (came : List Bool) (i : ℕ) (b : Bool) → has came i ≡ b → chunk_in block n came i ≡ (if b then Some (chunk_of block n i) else None)
by_came block n came i b e = ap (λ (v : Bool). if v then Some (chunk_of block n i) else None) e

-- none came
pub none_came : (block : List ℕ) (n k : ℕ) → chunks_in block n (replicate k false) ≡ replicate k None
none_came block n k =
    let long : length (chunks_in block n (replicate k false)) ≡ k = count_of_chunks block n (replicate k false) ∙ length-replicate k false in
    ext_get_or None _ _ (long ∙ sym (length-replicate k None)) (λ i h.
    let within : i < k = omega (arith, long) in
    at_chunk block n (replicate k false) i (simp length-replicate within)
    ∙ by_came block n (replicate k false) i false (get_or-replicate k i false false within)
    ∙ sym (get_or-replicate k i None None within))

pub is_there : (b : Bool) (chunk : List ℕ) → is_some (if b then Some chunk else None) ≡ b
is_there true chunk = refl
is_there false chunk = refl

-- those that came are there
pub came_there : (block : List ℕ) (n : ℕ) (came : List Bool) → received (chunks_in block n came) ≡ came
came_there block n came =
    let count = count_of_chunks block n came in
    ext_get_or false _ _ (length-map (chunks_in block n came) is_some ∙ count) (λ i h.
    let within : i < length came = omega (arith, count, length-map (chunks_in block n came) is_some) in
    get_or-map is_some (chunks_in block n came) i None false (omega (arith, count))
    ∙ ap is_some (at_chunk block n came i within ∙ by_came block n came i (has came i) refl)
    ∙ is_there (has came i) (chunk_of block n i))
