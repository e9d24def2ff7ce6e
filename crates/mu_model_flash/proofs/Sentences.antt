-- What is promised of a run follows from what a run is.
use Rattle.std.proofs.Common.{◌≡◌, ◌⊎◌, inl, inr, ⊎_elim, ℕ, zero, suc, ◌+◌, ◌-◌, ◌^◌, ◌<◌, ◌≤◌, true, false, IsTrue, Option, Some, List, [], ◌∷◌, length, take, sym, ◌∙◌, ap, subst, arith}
use Rattle.mu_model_flash.specs.declared.Armed.{Armed}
use Rattle.mu_model_flash.specs.Flash.{Seen, ticks, fallen, IsBefore}
use Rattle.mu_model_flash.specs.Run.{either, state_at, Passing, InPart, ByPattern, Ran, Broke}
use Rattle.mu_model_flash.specs.Sentences.{GrewBy, OneOf, Near, Done, Failing}

grew : (old n new : ℕ) → new ≡ ticks old n → GrewBy n old new
grew old n new is = ⊎_elim (λ low. inl (omega (arith, is, low))) (λ high. inr (omega (arith, is, high))) (split (old + n) (2 ^ 64 - 1))
  where
    split : (a b : ℕ) → (a ≤ b) ⊎ (b < a)
    split a b = grind arith

module _ {S : Type 0} (Stands : S → List ℕ → Type 0) where
  one_passed : (s : S) (steps : List S) (c : List ℕ) → Passing (either Stands) s steps c → OneOf Stands (s ∷ steps) c
  one_passed s [] c here = inl here
  one_passed s (t ∷ steps) c (inl here) = inl here
  one_passed s (t ∷ steps) c (inr (inl (inl was))) = inl was
  one_passed s (t ∷ steps) c (inr (inl (inr is))) = inr (inl is)
  one_passed s (t ∷ steps) c (inr (inr on)) = inr (one_passed t steps c on)

  one_taken : (j : ℕ) (states : List S) (c : List ℕ) → OneOf Stands (take j states) c → OneOf Stands states c
  one_taken zero states c one = absurd one
  one_taken (suc j) [] c one = absurd one
  one_taken (suc j) (s ∷ states) c (inl here) = inl here
  one_taken (suc j) (s ∷ states) c (inr on) = inr (one_taken j states c on)

  some_passed : (s : S) (steps : List S) (j : ℕ) (c : List ℕ) → Passing (either Stands) s (take j steps) c → OneOf Stands (s ∷ steps) c
  some_passed s steps j c p = one_taken (suc j) (s ∷ steps) c (one_passed s (take j steps) c p)

  near : (s : S) (steps : List S) (j : ℕ) (c : List ℕ) → InPart (either Stands) s steps j c → Near Stands s steps j c
  near s steps zero c here = inl here
  near s [] (suc j) c part = absurd part
  near s (t ∷ steps) (suc zero) c (inl (inl was)) = inl was
  near s (t ∷ steps) (suc zero) c (inl (inr is)) = inr is
  near s (t ∷ steps) (suc zero) c (inr is) = inr is
  near s (t ∷ steps) (suc (suc j)) c part =
      let e : suc (suc j) - 1 ≡ suc j = omega arith in
      let e' : suc j ≡ suc (suc j - 1) = omega arith in
      ⊎_elim
      (λ was. inl (subst (λ (n : ℕ). Stands (state_at s (t ∷ steps) n) c) (sym (e ∙ e')) was))
      (λ is. inr is)
      (near t steps (suc j) c part)

  one_in_part : (s : S) (steps : List S) (j : ℕ) (c : List ℕ) → InPart (either Stands) s steps j c → OneOf Stands (s ∷ steps) c
  one_in_part s steps zero c here = inl here
  one_in_part s [] (suc j) c part = absurd part
  one_in_part s (t ∷ steps) (suc zero) c (inl (inl was)) = inl was
  one_in_part s (t ∷ steps) (suc zero) c (inl (inr is)) = inr (inl is)
  one_in_part s (t ∷ steps) (suc zero) c (inr is) = inr (inl is)
  one_in_part s (t ∷ steps) (suc (suc j)) c part = inr (one_in_part t steps (suc j) c part)

  module _ (s : S) (steps : List S) (a b : Seen) (told : IsTrue a.told) where
    pub done_of : Ran (either Stands) s steps a b → Done Stands s steps a b
    done_of ok = record {
      stands = ok.ends told;
      every_image = λ c left. one_passed s steps c ((ok.leaves told).since c left);
      earlier_images = λ m c le left. ⊎_elim (λ was. inl was) (λ now. inr (one_passed s steps c now)) ((ok.leaves told).before m c le left);
      clock_grew = grew a.clock (length steps) b.clock (ok.clock told);
      number_fell = λ x is. (subst (λ (o : Option Armed). IsBefore (length steps) o) is ok.unreached, ok.armed ∙ ap (λ (o : Option Armed). fallen o (length steps)) is);
      power_on = ok.on;
    }

    module _ (fault : Broke (either Stands) s steps a b) where
      by_clock : (j : ℕ) → b.clock ≡ a.clock + j → b.clock < 2 ^ 64 - 1 → (j ≤ length steps) × Near Stands s steps j b.octets
      by_clock j grown below =
          let same : fault.begun ≡ j = omega (arith, fault.clock told, grown, below) in
          (omega (arith, same, fault.at_most), subst (λ (n : ℕ). Near Stands s steps n b.octets) same (near s steps fault.begun b.octets (fault.ends told)))

      by_power : (x : Armed) → a.armed ≡ Some x → a.off ≡ false → b.off ≡ true
          → (x.number ≤ length steps) × Near Stands s steps x.number b.octets × GrewBy x.number a.clock b.clock × ByPattern (either Stands) s steps x.number x.pattern b.octets
      by_power x is on off =
          let w = fault.went_off on off in
          let one : Some w.armed ≡ Some x = sym w.was ∙ is in
          let same : w.armed ≡ x = cc one in
          let number : fault.begun ≡ x.number = sym w.here ∙ ap (λ (y : Armed). y.number) same in (
            omega (arith, number, fault.at_most),
            subst (λ (n : ℕ). Near Stands s steps n b.octets) number (near s steps fault.begun b.octets (fault.ends told)),
            subst (λ (n : ℕ). GrewBy n a.clock b.clock) number (grew a.clock fault.begun b.clock (fault.clock told)),
            subst (λ (n : ℕ). ByPattern (either Stands) s steps n x.pattern b.octets) number (subst (λ (y : Armed). ByPattern (either Stands) s steps fault.begun y.pattern b.octets) same (w.left told)),
          )

      pub failing_of : Failing Stands s steps a b
      failing_of = record {
        stands = one_in_part s steps fault.begun b.octets (fault.ends told);
        every_image = λ c left. some_passed s steps fault.begun c ((fault.leaves told).since c left);
        earlier_images = λ m c le left. ⊎_elim (λ was. inl was) (λ now. inr (some_passed s steps fault.begun c now)) ((fault.leaves told).before m c le left);
        by_clock = by_clock;
        by_power = by_power;
      }
