-- What is read through a limit.
use Rattle.std.proofs.Common.{◌≡◌, ℕ, ◌+◌, ◌-◌, ◌<◌, ◌≤◌, Option, Some, None, List, [], ◌++◌, length, take, sym, ◌∙◌, ap, arith}
use Rattle.std.proofs.lemmas.List.{length-take-le}
use Rattle.std.proofs.Math.Seq.{take-append-add, take-nil}
use Rattle.mu_outside.specs.Stream.{ReadGives}
use Rattle.mu_outside.specs.Limited.{first_of}

-- a piece, and the rest of so many octets
pub take_past : (xs ys : List ℕ) (n room room' : ℕ) → length xs ≡ n → room' + n ≡ room → take room (xs ++ ys) ≡ xs ++ take room' ys
take_past xs ys n room room' size is =
    let e : room ≡ length xs + room' = omega (arith, size, is) in
    ap (λ (k : ℕ). take k (xs ++ ys)) e ∙ take-append-add xs ys room'

-- a read of the beginning of what is asked for
module _ (out part : List ℕ) (n room room' : ℕ) (is : room' + n ≡ room) (size : n ≤ length part) (same : take n out ≡ take n part) where
  pub gives_first : 0 < length part → (old new : Option (List ℕ)) → ReadGives old new part n → ReadGives (first_of room old) (first_of room' new) out n
  gives_first some old None x = tt
  gives_first some old (Some after) x = (
    ap (λ (o : Option (List ℕ)). first_of room o) x.0
        ∙ ap (λ (l : List ℕ). Some l) (take_past (take n part) after n room room' (length-take-le n part size) is ∙ ap (λ (l : List ℕ). l ++ take room' after) (sym same)),
    λ none wanted. ap (λ (l : List ℕ). take room' l) (x.1 none some) ∙ take-nil room',
  )
