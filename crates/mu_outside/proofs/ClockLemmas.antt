-- A clock that is set tells one value more after each call.
use Rattle.std.proofs.Common.{◌≡◌, ℕ, suc, ◌+◌, ◌-◌, ◌^◌, min, Bool, true, false, nat_lt, cond, Option, Some, None, List, [], ◌∷◌, ◌++◌, refl, sym, ◌∙◌, ap, arith}
use Rattle.std.specs.Prelude.{IfSome}
use Rattle.mu_outside.specs.SetClock.{time_at, times_until, told_times}

module _ (times : List ℕ) (calls next value : ℕ) (next_is : next ≡ min (calls + 1) (2 ^ 64 - 1)) (value_is : value ≡ time_at times calls) where
  abbrev pub More : Option (List ℕ) → Type 0
  More told = IfSome told (λ after. (x : List ℕ) × told_times times calls ≡ Some x × after ≡ x ++ value ∷ [])

  go : (b : Bool) → nat_lt next (2 ^ 64 - 1) ≡ b → More (cond b (Some (times_until times next)) None)
  go false e = tt
  go true e =
      let is : next ≡ suc calls = grind (arith, next_is, e) in
      let before : nat_lt calls (2 ^ 64 - 1) ≡ true = grind (arith, next_is, e) in
      (times_until times calls, ap (λ (b : Bool). cond b (Some (times_until times calls)) None) before, ap (times_until times) is ∙ ap (λ (v : ℕ). times_until times calls ++ v ∷ []) (sym value_is))

  pub told_more : More (told_times times next)
  told_more = go (nat_lt next (2 ^ 64 - 1)) refl
