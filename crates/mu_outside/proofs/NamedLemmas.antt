-- The first entry with a number, found by going from one to the next.
use Rattle.std.proofs.Common.{◌≡◌, ℕ, ◌+◌, ◌<◌, ◌==◌, Bool, cond, Some, List, ◌∷◌, length, drop, get_or, sym, ◌∙◌, ap, add-one, eq-eqb}
use Rattle.std.proofs.lemmas.Bool.{ne_eqb}
use Rattle.std.proofs.Math.Seq.{drop-cons}
use Rattle.mu_model_flash.specs.declared.Pattern.{Pattern}
use Rattle.mu_outside.specs.Memory.{pattern_named}

module _ (writes : List (ℕ × Pattern)) (i number : ℕ) (d : ℕ × Pattern) (lt : i < length writes) where
  next : pattern_named (drop i writes) number ≡ cond ((get_or writes i d).0 == number) (Some (get_or writes i d).1) (pattern_named (drop (i + 1) writes) number)
  next = ap (λ (l : List (ℕ × Pattern)). pattern_named l number) (drop-cons writes i d lt ∙ ap (λ (k : ℕ). get_or writes i d ∷ drop k writes) (sym (add-one i)))

  pub named_here : (get_or writes i d).0 ≡ number → pattern_named (drop i writes) number ≡ Some (get_or writes i d).1
  named_here is = next ∙ ap (λ (b : Bool). cond b (Some (get_or writes i d).1) (pattern_named (drop (i + 1) writes) number)) (eq-eqb (get_or writes i d).0 number is)

  pub named_later : ((get_or writes i d).0 ≡ number → ⊥) → pattern_named (drop i writes) number ≡ pattern_named (drop (i + 1) writes) number
  named_later is_not = next ∙ ap (λ (b : Bool). cond b (Some (get_or writes i d).1) (pattern_named (drop (i + 1) writes) number)) (ne_eqb (get_or writes i d).0 number is_not)
