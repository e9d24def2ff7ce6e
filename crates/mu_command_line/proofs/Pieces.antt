-- Pieces that are written one after the other.
use Rattle.std.proofs.Common.{◌≡◌, ℕ, ◌+◌, ◌-◌, ◌++◌, [], ◌∷◌, length, length-drop, arith, take, drop, sym, ap, ◌∙◌, append_assoc, take-add, List, Option, Some, None, Result, Ok, Err, refl, subst, slice_index_or, zero, suc, ◌<◌, ◌≤◌, min, length-append}
use Rattle.std.proofs.lemmas.List.{take_all, append-nil}
use Rattle.std.specs.List.{concat}
use Rattle.std.proofs.Math.Seq.{take-append-add}
use Rattle.std.specs.Result.{OnErr}
use Rattle.mu_outside.specs.Stream.{WriteTakes}
use Rattle.mu_input.specs.Reading.{WhereTold}
use Rattle.mu_command_line.specs.Writing.{Wrote, WroteSome}

-- two calls, one after the other
told_then : (o m n : Option (List ℕ)) (P Q R : List ℕ → List ℕ → Type 0) → ((before middle after : List ℕ) → P before middle → Q middle after → R before after)
    → WhereTold o m P → WhereTold m n Q → WhereTold o n R
told_then o m None P Q R f p q = tt
told_then o None (Some after) P Q R f p q =
    let impossible : None ≡ Some q.0 = q.1 in
    absurd cc
told_then o (Some middle) (Some after) P Q R f p q =
    let same : middle ≡ q.0 = cc in
    (p.0, p.1, f p.0 middle after p.2 (subst (λ m. Q m after) (sym same) q.2))

-- a piece more was written
wrote_on : (o m n : Option (List ℕ)) (xs : List ℕ) (d k : ℕ) → Wrote o m (take d xs) → WriteTakes m n (drop d xs) k → Wrote o n (take (d + k) xs)
wrote_on o m n xs d k first more = told_then o m n _ (λ middle after. after ≡ middle ++ take k (drop d xs)) _ (λ before middle after p q.
    q ∙ (ap (λ t. t ++ take k (drop d xs)) p ∙ (append_assoc before (take d xs) (take k (drop d xs)) ∙ ap (λ t. before ++ t) (sym (take-add d k xs))))) first more

-- the rest of a piece, as a slice
drop-whole : (xs : List ℕ) (d : ℕ) → take (length xs - d) (drop d xs) ≡ drop d xs
drop-whole xs d = take_all (length xs - d) (drop d xs) (omega (arith, length-drop d xs))

pub wrote_more : (o m n : Option (List ℕ)) (xs : List ℕ) (d k : ℕ) → Wrote o m (take d xs) → WriteTakes m n (take (length xs - d) (drop d xs)) k → Wrote o n (take (d + k) xs)
wrote_more o m n xs d k first more = wrote_on o m n xs d k first (subst (λ rest. WriteTakes m n rest k) (drop-whole xs d) more)

-- ---- pieces that are written one after the other

pieces_next : (ps : List (List ℕ)) (i : ℕ) (d : List ℕ) → i < length ps → concat (take (i + 1) ps) ≡ concat (take i ps) ++ slice_index_or ps i d
pieces_next [] i d lt = absurd (omega (arith, lt))
pieces_next (p ∷ ps) zero d lt = append-nil p
pieces_next (p ∷ ps) (suc i) d lt =
    let next : suc i + 1 ≡ suc (i + 1) = omega arith in
    ap (λ n. concat (take n (p ∷ ps))) next ∙ ap (λ t. p ++ t) (pieces_next ps i d (omega (arith, lt))) ∙ sym (append_assoc p (concat (take i ps)) (slice_index_or ps i d))

pub piece_wrote : (o m n : Option (List ℕ)) (ps : List (List ℕ)) (i : ℕ) (d : List ℕ) → i < length ps → Wrote o m (concat (take i ps)) → Wrote m n (slice_index_or ps i d) → Wrote o n (concat (take (i + 1) ps))
piece_wrote o m n ps i d lt = told_then o m n _ _ _ (λ before middle after p q.
    q ∙ (ap (λ t. t ++ slice_index_or ps i d) p ∙ (append_assoc before (concat (take i ps)) (slice_index_or ps i d) ∙ ap (λ t. before ++ t) (sym (pieces_next ps i d lt)))))

take_in_front : (xs ys : List ℕ) (k : ℕ) → k ≤ length xs → take k (xs ++ ys) ≡ take k xs
take_in_front xs ys zero short = refl
take_in_front [] ys (suc k) short = absurd (omega (arith, short))
take_in_front (x ∷ xs) ys (suc k) short = ap (λ t. x ∷ t) (take_in_front xs ys k (omega (arith, short)))

pub piece_cut : (o m n : Option (List ℕ)) (ps : List (List ℕ)) (i : ℕ) (d : List ℕ) → i < length ps → Wrote o m (concat (take i ps)) → WroteSome m n (slice_index_or ps i d) → WroteSome o n (concat ps)
piece_cut o m n ps i d lt = told_then o m n _ _ _ (λ before middle after p q.
    let front = concat (take i ps) in
    let piece = slice_index_or ps i d in
    let count = q.0 in
    let short = take_within piece count in (
      length front + min count (length piece),
      q.1 ∙ (ap (λ t. t ++ take count piece) p ∙ (append_assoc before front (take count piece) ∙ ap (λ t. before ++ t) (ap (λ t. front ++ t) short ∙ whole ps i d lt (min count (length piece)) (omega arith)))),
    ))
  where
    take_none : (n : ℕ) → take {A = ℕ} n [] ≡ []
    take_none zero = refl
    take_none (suc n) = refl

    take_within : (xs : List ℕ) (k : ℕ) → take k xs ≡ take (min k (length xs)) xs
    take_within xs zero =
        let none : 0 ≡ min 0 (length xs) = omega arith in
        ap (λ n. take n xs) none
    take_within [] (suc k) = sym (take_none (min (suc k) 0))
    take_within (x ∷ xs) (suc k) =
        let one : suc (min k (length xs)) ≡ min (suc k) (length (x ∷ xs)) = omega arith in
        ap (λ t. x ∷ t) (take_within xs k) ∙ ap (λ n. take n (x ∷ xs)) one

    whole : (ps : List (List ℕ)) (i : ℕ) (d : List ℕ) → i < length ps → (k : ℕ) → k ≤ length (slice_index_or ps i d) → concat (take i ps) ++ take k (slice_index_or ps i d) ≡ take (length (concat (take i ps)) + k) (concat ps)
    whole [] i d lt k short = absurd (omega (arith, lt))
    whole (p ∷ ps) zero d lt k short =
        let none : k ≡ 0 + k = omega arith in
        sym (take_in_front p (concat ps) k short) ∙ ap (λ n. take n (p ++ concat ps)) none
    whole (p ∷ ps) (suc i) d lt k short =
        append_assoc p (concat (take i ps)) (take k (slice_index_or ps i d)) ∙ (ap (λ t. p ++ t) (whole ps i d (omega (arith, lt)) k short)
        ∙ (sym (take-append-add p (concat ps) (length (concat (take i ps)) + k)) ∙ ap (λ n. take n (p ++ concat ps)) (omega (arith, length-append p (concat (take i ps))))))

-- what holds holds at Err
pub on_err : {T E : Type 0} (r : Result T E) (P : Type 0) → P → OnErr r P
on_err (Ok x) P p = tt
on_err (Err e) P p = p
