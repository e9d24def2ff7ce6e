-- The pieces of a list are the list.
use Rattle.std.proofs.Common.{ℕ, zero, suc, ◌+◌, ◌-◌, ◌*◌, ◌<◌, ◌≤◌, ◌≡◌, List, [], ◌∷◌, ◌++◌, length, take, drop, map, min, sum, refl, sym, ap, ◌∙◌, arith, add-one, length-drop, length-append}
use Rattle.std.specs.List.{range_with_len, concat}
use Rattle.std.proofs.Math.Nat.{div-add-mod', add-mul, one-mul, zero-mul}
use Rattle.std.proofs.Math.Seq.{take-add}
use Rattle.std.proofs.lemmas.Nat.{mod_below}
use Rattle.std.proofs.lemmas.List.{take_min, take_all, append-nil}
use Rattle.std.proofs.lemmas.List.Folds.{concat-append}
use Rattle.std.proofs.lemmas.List.Sums.{sum_by-cons}
use Rattle.std.proofs.lemmas.List.FromFn.{map-range_with_len_more}
use Rattle.mu_model_image.specs.Pieces.{piece_of, piece_count, pieces_of}

next_place : (i n : ℕ) → (i + 1) * n ≡ i * n + n
next_place i n = add-mul i 1 n ∙ ap (λ (x : ℕ). i * n + x) (one-mul n)

-- a piece is what n octets from its place give
piece-is : (xs : List ℕ) (n i : ℕ) → piece_of xs n i ≡ take n (drop (i * n) xs)
piece-is xs n i =
    let same : min (length xs) ((i + 1) * n) - i * n ≡ min n (length (drop (i * n) xs)) = rw (length-drop (i * n) xs, next_place i n) (omega arith) in
    ap (λ (k : ℕ). take k (drop (i * n) xs)) same ∙ take_min n (drop (i * n) xs)

-- the first pieces joined are the octets before the next
front : (xs : List ℕ) (n k : ℕ) → concat (map (piece_of xs n) (range_with_len 0 k)) ≡ take (k * n) xs
front xs n zero = ap (λ (m : ℕ). take m xs) (sym (zero-mul n))
front xs n (suc k) =
    let more : map (piece_of xs n) (range_with_len 0 (k + 1)) ≡ map (piece_of xs n) (range_with_len 0 k) ++ piece_of xs n k ∷ [] =
    map-range_with_len_more (piece_of xs n) 0 k k (omega arith) in
    let joined : concat (map (piece_of xs n) (range_with_len 0 k) ++ piece_of xs n k ∷ []) ≡ take (k * n) xs ++ take n (drop (k * n) xs) =
    concat-append (map (piece_of xs n) (range_with_len 0 k)) (piece_of xs n k ∷ [])
    ∙ ap (λ (ys : List ℕ). concat (map (piece_of xs n) (range_with_len 0 k)) ++ ys) (append-nil (piece_of xs n k) ∙ piece-is xs n k)
    ∙ ap (λ (ys : List ℕ). ys ++ take n (drop (k * n) xs)) (front xs n k) in
    ap (λ (m : ℕ). concat (map (piece_of xs n) (range_with_len 0 m))) (sym (add-one k))
    ∙ ap concat more ∙ joined ∙ sym (take-add (k * n) n xs)
    ∙ ap (λ (m : ℕ). take m xs) (sym (next_place k n) ∙ ap (λ (m : ℕ). m * n) (add-one k))

-- the pieces reach the end
reaches : (size n : ℕ) → 0 < n → size ≤ piece_count size n * n
reaches size n some = omega (arith, div-add-mod' (size + n - 1) n, mod_below (size + n - 1) n some)

pub pieces_joined : (xs : List ℕ) (n : ℕ) → 0 < n → concat (pieces_of xs n) ≡ xs
pieces_joined xs n some = front xs n (piece_count (length xs) n) ∙ take_all _ xs (reaches (length xs) n some)

-- the length of lists joined
length-concat : (xss : List (List ℕ)) → sum (map (length {A = ℕ}) xss) ≡ length (concat xss)
length-concat [] = refl
length-concat (xs ∷ xss) =
    sum_by-cons (λ (x : ℕ). x) (length xs) (map (length {A = ℕ}) xss)
    ∙ ap (λ (n : ℕ). length xs + n) (length-concat xss) ∙ sym (length-append xs (concat xss))

pub piece_lengths : (xs : List ℕ) (n : ℕ) → 0 < n → sum (map (length {A = ℕ}) (pieces_of xs n)) ≡ length xs
piece_lengths xs n some = length-concat (pieces_of xs n) ∙ ap (length {A = ℕ}) (pieces_joined xs n some)
