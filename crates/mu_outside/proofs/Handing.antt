-- Handing gathered octets on loses nothing.
use Rattle.std.proofs.Common.{◌≡◌, ℕ, ◌+◌, ◌-◌, Option, Some, None, List, [], ◌∷◌, ◌++◌, length, take, drop, refl, sym, ◌∙◌, ap, append_assoc, take-add, arith}
use Rattle.std.proofs.lemmas.List.{take-append-drop, take_all, length-drop, append-nil}
use Rattle.mu_outside.specs.Stream.{WriteTakes, KeepsTold}
use Rattle.mu_outside.specs.Gathering.{behind, Handed, GoesOn}

-- nothing was handed on
pub takes_none : (b : Option (List ℕ)) (h : List ℕ) → WriteTakes b b h 0
takes_none None h = tt
takes_none (Some before) h = (before, refl, sym (append-nil before))

pub handed_none : (b : Option (List ℕ)) (h : List ℕ) → Handed b h b h
handed_none b h = record { count = 0; takes = takes_none b h; left = refl }

-- octets more of a piece were taken
takes_more : (b m n : Option (List ℕ)) (held piece : List ℕ) (done count : ℕ) → piece ≡ drop done held → WriteTakes b m held done → WriteTakes m n piece count → WriteTakes b n held (done + count)
takes_more b m None held piece done count is x y = tt
takes_more b None (Some after) held piece done count is x y =
    let impossible : None ≡ Some y.0 = y.1 in
    absurd cc
takes_more b (Some middle) (Some after) held piece done count is x y =
    let same : y.0 ≡ middle = cc in (
      x.0,
      x.1,
      y.2 ∙ ap (λ (l : List ℕ). l ++ take count piece) (same ∙ x.2) ∙ ap (λ (l : List ℕ). (x.0 ++ take done held) ++ take count l) is
          ∙ append_assoc x.0 (take done held) (take count (drop done held)) ∙ ap (λ (l : List ℕ). x.0 ++ l) (sym (take-add done count held)),
    )

pub takes_slice : (b m n : Option (List ℕ)) (held s : List ℕ) (done count : ℕ) → s ≡ held → WriteTakes b m held done → WriteTakes m n (take (length s - done) (drop done s)) count → WriteTakes b n held (done + count)
takes_slice b m n held s done count is =
    takes_more b m n held (take (length s - done) (drop done s)) done count (take_all (length s - done) (drop done s) (omega (arith, length-drop done s)) ∙ ap (λ (l : List ℕ). drop done l) is)

-- with what is still gathered it is the same
same : (before after h h' : List ℕ) (count : ℕ) → after ≡ before ++ take count h → h' ≡ drop count h → after ++ h' ≡ before ++ h
same before after h h' count is left =
    ap (λ (l : List ℕ). l ++ h') is ∙ ap (λ (l : List ℕ). (before ++ take count h) ++ l) left ∙ append_assoc before (take count h) (drop count h) ∙ ap (λ (l : List ℕ). before ++ l) (take-append-drop count h)

-- handed on before, or nothing, and then the first octets of a piece were gathered
pub took : (b b' : Option (List ℕ)) (h h' out bytes : List ℕ) (n : ℕ) → out ≡ h' ++ take n bytes → Handed b h b' h' → WriteTakes (behind b h) (behind b' out) bytes n
took b None h h' out bytes n is x = tt
took b (Some after) h h' out bytes n is x =
    let before = x.takes.0 in (
      before ++ h,
      ap (λ (o : Option (List ℕ)). behind o h) x.takes.1,
      ap (λ (l : List ℕ). after ++ l) is ∙ sym (append_assoc after h' (take n bytes)) ∙ ap (λ (l : List ℕ). l ++ take n bytes) (same before after h h' x.count x.takes.2 x.left),
    )

-- what is written stays
pub kept : (b b' : Option (List ℕ)) (h h' : List ℕ) → Handed b h b' h' → KeepsTold (behind b h) (behind b' h')
kept b None h h' x = tt
kept b (Some after) h h' x = ap (λ (o : Option (List ℕ)). behind o h) x.takes.1 ∙ ap (λ (l : List ℕ). Some l) (sym (same x.takes.0 after h h' x.count x.takes.2 x.left))

-- what was told at the start still stands first
pub goes_on_self : (b : Option (List ℕ)) → GoesOn b b
goes_on_self None = refl
goes_on_self (Some before) = ap (λ (l : List ℕ). Some l) (take_all (length before) before (omega arith))

-- a beginning stays one where octets come behind
first_stays : (old before more : List ℕ) → take (length old) before ≡ old → take (length old) (before ++ more) ≡ old
first_stays [] before more is = refl
first_stays (x ∷ old) [] more is = absurd cc
first_stays (x ∷ old) (y ∷ before) more is =
    let head : y ≡ x = cc in
    let tail : take (length old) before ≡ old = cc in
    ap (λ z. z ∷ take (length old) (before ++ more)) head ∙ ap (λ (l : List ℕ). x ∷ l) (first_stays old before more tail)

pub goes_on : (start b b' : Option (List ℕ)) (h h' : List ℕ) → GoesOn start b → Handed b h b' h' → GoesOn start b'
goes_on start b None h h' is x = refl
goes_on start None (Some after) h h' is x =
    let impossible : None ≡ Some x.takes.0 = x.takes.1 in
    absurd cc
goes_on None (Some before) (Some after) h h' is x = absurd cc
goes_on (Some old) (Some before) (Some after) h h' is x =
    let was : x.takes.0 ≡ before = cc in
    let first : take (length old) before ≡ old = cc in
    ap (λ (l : List ℕ). Some l) (ap (take (length old)) (x.takes.2 ∙ ap (λ (l : List ℕ). l ++ take x.count h) was) ∙ first_stays old before (take x.count h) first)
