-- Steps of the loops over places.
use Rattle.std.proofs.Common.{◌≡◌, ◌<◌, ℕ, zero, suc, ◌+◌, Bool, true, false, List, [], ◌∷◌, ◌++◌, length, take, set, replicate, get_or, refl, sym, ap, ◌∙◌, cond, arith, Option, Some, None, append_assoc, append-nil, add-one, ◌⊎◌, inl, inr}
use Rattle.std.specs.Prelude.{◌≢◌, ◌==◌, is_none}
use Rattle.std.proofs.lemmas.Bool.Decides.{nat_tests}
use Rattle.std.proofs.lemmas.List.{get_or-set_other}
use Rattle.std.proofs.lemmas.Grind.{get_or-set_at}
use Rattle.std.proofs.Math.ListN.{length-set}
use Rattle.mu_model_node.specs.Slots.{Slots, put, missing, joined}
use Rattle.mu_reference.specs.Words.{piece_at}

joined_suc : (slots : Slots) (i : ℕ) (d : Option (List ℕ)) → i < length slots → joined (take (suc i) slots) ≡ joined (take i slots) ++ piece_at (get_or slots i d)
joined_suc [] i d h = absurd (omega arith)
joined_suc (None ∷ slots) zero d h = refl
joined_suc (Some octets ∷ slots) zero d h = append-nil octets
joined_suc (None ∷ slots) (suc i) d h = joined_suc slots i d (omega arith)
joined_suc (Some octets ∷ slots) (suc i) d h =
    ap (λ more. octets ++ more) (joined_suc slots i d (omega arith)) ∙ sym (append_assoc octets (joined (take i slots)) (piece_at (get_or slots i d)))

pub joined_more : (slots : Slots) (i : ℕ) (d : Option (List ℕ)) → i < length slots → joined (take (i + 1) slots) ≡ joined (take i slots) ++ piece_at (get_or slots i d)
joined_more slots i d h = rw add-one (joined_suc slots i d h)

same_or_other : (i k : ℕ) → (i ≡ k) ⊎ (i ≢ k)
same_or_other i k = grind arith

piece_put : (slots : Slots) (k i : ℕ) (octets : List ℕ) (d : Option (List ℕ)) → i < length slots → piece_at (get_or (set slots k (Some octets)) i d) ≡ cond (i == k) octets (piece_at (get_or slots i d))
piece_put slots k i octets d h =
    elim (same_or_other i k) [
      | inl e ↦ let test : (i == k) ≡ true = grind (arith, nat_tests) in rw test (ap piece_at (get_or-set_at slots k i (Some octets) d e (omega arith)))
      | inr ne ↦ let test : (i == k) ≡ false = grind (arith, nat_tests) in rw test (ap piece_at (get_or-set_other slots k i (Some octets) d ne))
    ]

pub joined_put : (slots : Slots) (k i : ℕ) (octets : List ℕ) (d : Option (List ℕ)) → i < length slots → joined (take (i + 1) (put slots k octets)) ≡ joined (take i (put slots k octets)) ++ cond (i == k) octets (piece_at (get_or slots i d))
joined_put slots k i octets d h =
    let within : i < length (put slots k octets) = simp length-set h in
    joined_more (put slots k octets) i d within ∙ ap (λ more. joined (take i (put slots k octets)) ++ more) (piece_put slots k i octets d h)

-- what is noted of the first i places; the others aren't noted yet
pub noted : Slots → ℕ → List Bool
noted [] i = []
noted (x ∷ slots) zero = false ∷ noted slots zero
noted (x ∷ slots) (suc i) = is_none x ∷ noted slots i

cases : (x : Option (List ℕ)) (slots : Slots) (i : ℕ) (b : Bool) → cond b (set (noted slots i) i true) (noted slots i) ≡ noted slots (suc i) → cond b (set (is_none x ∷ noted slots i) (suc i) true) (is_none x ∷ noted slots i) ≡ is_none x ∷ noted slots (suc i)
cases x slots i true e = ap (λ bs. is_none x ∷ bs) e
cases x slots i false e = ap (λ bs. is_none x ∷ bs) e

noted_suc : (slots : Slots) (i : ℕ) (d : Option (List ℕ)) → i < length slots → cond (is_none (get_or slots i d)) (set (noted slots i) i true) (noted slots i) ≡ noted slots (suc i)
unfolding noted
noted_suc [] i d h = absurd (omega arith)
noted_suc (None ∷ slots) zero d h = refl
noted_suc (Some octets ∷ slots) zero d h = refl
noted_suc (x ∷ slots) (suc i) d h =
    let others : cond (is_none (get_or slots i d)) (set (noted slots i) i true) (noted slots i) ≡ noted slots (suc i) = noted_suc slots i d (omega arith) in
    cases x slots i (is_none (get_or slots i d)) others

pub noted_more : (slots : Slots) (i : ℕ) (d : Option (List ℕ)) → i < length slots → cond (is_none (get_or slots i d)) (set (noted slots i) i true) (noted slots i) ≡ noted slots (i + 1)
noted_more slots i d h = rw add-one (noted_suc slots i d h)

pub noted_length : (slots : Slots) (i : ℕ) → length (noted slots i) ≡ length slots
unfolding noted
noted_length [] i = refl
noted_length (x ∷ slots) zero = ap suc (noted_length slots zero)
noted_length (x ∷ slots) (suc i) = ap suc (noted_length slots i)

pub noted_all : (slots : Slots) (n : ℕ) → n ≡ length slots → noted slots n ≡ missing slots
unfolding noted
noted_all [] n e = refl
noted_all (x ∷ slots) zero e = absurd (omega arith)
noted_all (x ∷ slots) (suc n) e = ap (λ bs. is_none x ∷ bs) (noted_all slots n (omega arith))

pub noted_none : (slots : Slots) (n : ℕ) → n ≡ length slots → replicate n false ≡ noted slots 0
unfolding noted
noted_none [] zero e = refl
noted_none [] (suc n) e = absurd (omega arith)
noted_none (x ∷ slots) zero e = absurd (omega arith)
noted_none (x ∷ slots) (suc n) e = ap (λ bs. false ∷ bs) (noted_none slots n (omega arith))
