use Rattle.std.proofs.Common.{◌⊎◌, ◌<◌, ◌≤◌, ℕ, List, take, sym, subst, ⊎_elim, arith, length-take}
use Rattle.std.proofs.lemmas.List.{get_or-take, get_or_past}
use Rattle.mu_model_flash.specs.Bits.{AreOctets}
use Rattle.mu_record.proofs.write.first_octets.Goals as goal

take_small : (n : ℕ) (octets : List ℕ) → AreOctets octets → AreOctets (take n octets)
take_small n octets small i = ⊎_elim
    (λ lt. subst (λ (x : ℕ). x < 256) (sym (get_or-take n octets i 0 lt)) (small i))
    (λ le. subst (λ (x : ℕ). x < 256) (sym (get_or_past (take n octets) i 0 (omega (arith, length-take n octets, le)))) (omega arith))
    (split i n)
  where
    split : (a b : ℕ) → (a < b) ⊎ (b ≤ a)
    split a b = grind arith

pub returns-clause-small : goal.returns-clause-small
returns-clause-small c = subst (λ (l : List ℕ). AreOctets l) (sym c.copy_from_slice.ensures.after) (take_small 512 c.args.octets.now c.fits-octets)
