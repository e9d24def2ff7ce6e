-- Places of which some are filled, each with its own piece.
use Rattle.std.proofs.Common.{◌≡◌, ◌⊎◌, inl, inr, ◌<◌, ◌≤◌, ◌+◌, ℕ, zero, suc, List, [], ◌∷◌, refl, sym, ap, ◌∙◌, true, false, Bool, Some, None, arith, length, cond}
use Rattle.std.specs.Prelude.{nat_lt, ◌&&◌, filter, take}
use Rattle.std.specs.List.{range_with_len}
use Rattle.std.proofs.lemmas.Bool.Decides.{nat_tests}
use Rattle.mu_model_wire.specs.Reports.{has, members}
use Rattle.mu_model_node.specs.Slots.{Slots, empty, is_full, put, missing}
use Rattle.mu_model_client.specs.Sets.{has_some, all_below}
use Rattle.mu_model_completion.proofs.Pieces.{filled}

module _ (f : ℕ → List ℕ) where
  abbrev pub Right : ℕ → Slots → Type 0
  Right i [] = Unit {0}
  Right i (None ∷ xs) = Right (i + 1) xs
  Right i (Some octets ∷ xs) = (octets ≡ f i) × Right (i + 1) xs

  pub right_empty : (m i : ℕ) → Right i (empty m)
  right_empty zero i = tt
  right_empty (suc m) i = right_empty m (i + 1)

  pub right_put : (xs : Slots) (j i : ℕ) (octets : List ℕ) → octets ≡ f (i + j) → Right i xs → Right i (put xs j octets)
  right_put [] j i octets e h = tt
  right_put (None ∷ xs) zero i octets e h = (e ∙ (let z : i + 0 ≡ i = omega arith in ap f z), h)
  right_put (Some x ∷ xs) zero i octets e h = (e ∙ (let z : i + 0 ≡ i = omega arith in ap f z), h.1)
  right_put (None ∷ xs) (suc j) i octets e h = right_put xs j (i + 1) octets (e ∙ (let z : i + suc j ≡ i + 1 + j = omega arith in ap f z)) h
  right_put (Some x ∷ xs) (suc j) i octets e h = (h.0, right_put xs j (i + 1) octets (e ∙ (let z : i + suc j ≡ i + 1 + j = omega arith in ap f z)) h.1)

  none_full : (xs : Slots) → is_full (None ∷ xs) ≡ true → ⊥
  none_full xs e = grind (arith, e)

  -- once all are filled they are those
  pub all_right : (xs : Slots) (i : ℕ) → Right i xs → is_full xs ≡ true → xs ≡ filled f i (length xs)
  all_right [] i h e = refl
  all_right (None ∷ xs) i h e = absurd (none_full xs e)
  all_right (Some octets ∷ xs) i h e = cons_same h.0 (all_right xs (i + 1) h.1 e)
    where
      cons_same : {x y : List ℕ} {xs ys : Slots} → x ≡ y → xs ≡ ys → (Some x ∷ xs) ≡ (Some y ∷ ys)
      cons_same e f = rw (e, f) refl

pub put_long : (xs : Slots) (j : ℕ) (octets : List ℕ) → length (put xs j octets) ≡ length xs
put_long [] j octets = refl
put_long (x ∷ xs) zero octets = refl
put_long (x ∷ xs) (suc j) octets = ap suc (put_long xs j octets)

pub missing_long : (xs : Slots) → length (missing xs) ≡ length xs
missing_long [] = refl
missing_long (x ∷ xs) = ap suc (missing_long xs)

pub some_missing : (xs : Slots) → is_full xs ≡ false → has_some (missing xs) ≡ true
some_missing [] e = absurd (grind (arith, e))
some_missing (None ∷ xs) e = refl
some_missing (Some octets ∷ xs) e = some_missing xs e

-- ---- the members of a set that has some

-- if a range has a number that passes, something passes
some_passes : (t : ℕ → Bool) (n i x : ℕ) → i ≤ x → x < i + n → t x ≡ true → filter t (range_with_len i n) ≡ [] → ⊥
some_passes t zero i x low high e h = absurd (omega (arith, low, high))
some_passes t (suc n) i x low high e h = by_head (t i) refl h (λ k more. some_passes t n (i + 1) x more (omega (arith, high)) e k)
  where
    at_or : (i x : ℕ) → i ≤ x → (i ≡ x) ⊎ (i + 1 ≤ x)
    at_or i x le = grind arith

    by_head : (b : Bool) → t i ≡ b → cond b (i ∷ filter t (range_with_len (i + 1) n)) (filter t (range_with_len (i + 1) n)) ≡ []
        → (filter t (range_with_len (i + 1) n) ≡ [] → i + 1 ≤ x → ⊥) → ⊥
    by_head true k h rest = grind (arith, h)
    by_head false k h rest = elim (at_or i x low) [
      | inl same ↦ grind (arith, sym k ∙ (ap t same ∙ e))
      | inr more ↦ rest h more
    ]

has_one : (set : List Bool) → has_some set ≡ true → (x : ℕ) × (x < length set) × (has set x ≡ true)
has_one [] e = absurd (grind (arith, e))
has_one (true ∷ set) e = (0, omega arith, refl)
has_one (false ∷ set) e = let h = has_one set e in let lt = h.1 in (suc h.0, omega (arith, lt), h.2)

pub some_members : (set : List Bool) → has_some set ≡ true → members set ≡ [] → ⊥
some_members set e none = let h = has_one set e in let lt = h.1 in some_passes (has set) (length set) 0 h.0 (omega arith) (omega (arith, lt)) h.2 none

both_true : (a b : Bool) → a ≡ true → b ≡ true → (a && b) ≡ true
both_true a b e f = rw (e, f) refl

-- members are below the bound
filter_below : (t : ℕ → Bool) (n m i : ℕ) → i + m ≤ n → all_below n (filter t (range_with_len i m)) ≡ true
filter_below t n zero i le = refl
filter_below t n (suc m) i le = by_head (t i) (filter_below t n m (i + 1) (omega (arith, le)))
  where
    by_head : (b : Bool) → all_below n (filter t (range_with_len (i + 1) m)) ≡ true → all_below n (cond b (i ∷ filter t (range_with_len (i + 1) m)) (filter t (range_with_len (i + 1) m))) ≡ true
    by_head true h = both_true (nat_lt i n) (all_below n (filter t (range_with_len (i + 1) m))) (grind (arith, nat_tests, le)) h
    by_head false h = h

take_below : (n k : ℕ) (xs : List ℕ) → all_below n xs ≡ true → all_below n (take k xs) ≡ true
take_below n zero xs h = refl
take_below n (suc k) [] h = refl
take_below n (suc k) (x ∷ xs) h = let b = split (nat_lt x n) (all_below n xs) h in both_true (nat_lt x n) (all_below n (take k xs)) b.0 (take_below n k xs b.1)
  where
    split : (a b : Bool) → (a && b) ≡ true → (a ≡ true) × (b ≡ true)
    split true b h = (refl, h)
    split false b h = absurd (grind (arith, h))

-- some numbers, one at least, all below the bound
pub record Some_below (n : ℕ) (ks : List ℕ) : Type 0 where
  pub first : ℕ
  pub more : List ℕ
  pub is : ks ≡ first ∷ more
  pub below : all_below n ks ≡ true

pub first_members : (set : List Bool) → has_some set ≡ true → Some_below (length set) (take 16 (members set))
first_members set e = by_list (members set) (some_members set e) (filter_below (has set) (length set) (length set) 0 (omega arith))
  where
    by_list : (xs : List ℕ) → (xs ≡ [] → ⊥) → all_below (length set) xs ≡ true → Some_below (length set) (take 16 xs)
    by_list [] nonempty h = absurd (nonempty refl)
    by_list (x ∷ xs) nonempty h = record { first = x; more = take 15 xs; is = refl; below = take_below (length set) 16 (x ∷ xs) h }
