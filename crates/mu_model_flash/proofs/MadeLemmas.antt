-- What a made pattern leaves lies between the octets before and after.
use Rattle.std.proofs.Common.{◌≡◌, ◌⊎◌, inl, inr, ⊎_elim, ℕ, ◌+◌, ◌*◌, ◌%◌, ◌<◌, ◌≤◌, ◌==◌, Bool, true, false, cond, List, length, get_or, refl, sym, ◌∙◌, ap, subst, arith}
use Rattle.std.specs.Int.{bit_at}
use Rattle.std.proofs.lemmas.Nat.Bits.{bit_at_above}
use Rattle.mu_model_image.specs.Made.{made_octet}
use Rattle.mu_model_flash.specs.Bits.{AreOctets, written, IsMixOf, Between}
use Rattle.mu_model_flash.specs.Patterns.{IsMade}
use Rattle.mu_model_flash.proofs.BitLemmas.{place, written-inside}

split : (k n : ℕ) → (k < n) ⊎ (n ≤ k)
split k n = grind arith

one_of_two : (b : Bool) (old new : ℕ) → (cond b new old ≡ old) ⊎ (cond b new old ≡ new)
one_of_two true old new = inr refl
one_of_two false old new = inl refl

pub made_between : (seed : ℕ) (old : List ℕ) (at : ℕ) (bytes got : List ℕ) → at + length bytes ≤ length old → AreOctets old → AreOctets bytes → AreOctets got → IsMade seed old at bytes got → Between old (written old at bytes) got
made_between seed old at bytes got within old_are bytes_are got_are made = record { size = made.size; bits = λ i. each i (place at (length bytes) i) }
  where
    inside : (j k : ℕ) → j < length bytes → (bit_at (get_or got (at + j) 0) k ≡ bit_at (get_or old (at + j) 0) k) ⊎ (bit_at (get_or got (at + j) 0) k ≡ bit_at (get_or bytes j 0) k)
    inside j k lt = ⊎_elim
        (λ low.
        let is = made.inside j k lt low in
        ⊎_elim (λ l. inl (is ∙ l)) (λ r. inr (is ∙ r)) (one_of_two (made_octet seed (8 * j + k) % 2 == 1) (bit_at (get_or old (at + j) 0) k) (bit_at (get_or bytes j 0) k)))
        (λ high. inl (bit_at_above (get_or got (at + j) 0) 8 k (got_are (at + j)) high ∙ sym (bit_at_above (get_or old (at + j) 0) 8 k (old_are (at + j)) high)))
        (split k 8)

    each : (i : ℕ) → (i < at) ⊎ (((k : ℕ) × (k < length bytes) × (at + k ≡ i)) ⊎ (at + length bytes ≤ i)) → IsMixOf (get_or old i 0) (get_or (written old at bytes) i 0) (get_or got i 0)
    each i (inl before) k = inl (ap (λ (x : ℕ). bit_at x k) (made.before i before))
    each i (inr (inl in_it)) k =
        subst (λ (n : ℕ). (bit_at (get_or got n 0) k ≡ bit_at (get_or old n 0) k) ⊎ (bit_at (get_or got n 0) k ≡ bit_at (get_or (written old at bytes) n 0) k)) in_it.2
        (subst (λ (x : ℕ). (bit_at (get_or got (at + in_it.0) 0) k ≡ bit_at (get_or old (at + in_it.0) 0) k) ⊎ (bit_at (get_or got (at + in_it.0) 0) k ≡ bit_at x k)) (sym (written-inside old at bytes within in_it.0 in_it.1)) (inside in_it.0 k in_it.1))
    each i (inr (inr past)) k = inl (ap (λ (x : ℕ). bit_at x k) (made.after i past))
