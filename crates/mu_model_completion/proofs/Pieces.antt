-- Places that fill up in order, and sets of what is missing that empty in order.
use Rattle.std.proofs.Common.{◌≡◌, ◌⊎◌, inl, inr, ◌<◌, ◌≤◌, ◌+◌, ◌-◌, ◌*◌, ℕ, zero, suc, List, [], ◌∷◌, ◌++◌, refl, sym, ap, ◌∙◌, subst, true, false, Bool, Some, None, arith, map, length, append-nil, set, cond}
use Rattle.std.specs.Prelude.{replicate, find}
use Rattle.std.specs.List.{range_with_len, concat}
use Rattle.std.proofs.Math.Nat.{le-div_iff_mul-le, div-mul-le_self}
use Rattle.mu_model_image.specs.Pieces.{piece_count}
use Rattle.mu_model_wire.specs.Reports.{has}
use Rattle.mu_model_node.specs.Slots.{Slots, empty, is_full, at, put, joined}

-- ---- places

abbrev pub filled : (ℕ → List ℕ) → ℕ → ℕ → Slots
filled f i n = map (λ k. Some (f k)) (range_with_len i n)

put_next : (f : ℕ → List ℕ) (k i m : ℕ) → put (filled f i k ++ empty (suc m)) k (f (i + k)) ≡ filled f i (suc k) ++ empty m
put_next f zero i m = let e : i + 0 ≡ i = omega arith in rw e refl
put_next f (suc k) i m = let e : i + suc k ≡ i + 1 + k = omega arith in rw e (ap (λ xs. Some (f i) ∷ xs) (put_next f k (i + 1) m))

pub put_here : (f : ℕ → List ℕ) (k m : ℕ) → put (filled f 0 k ++ empty (suc m)) k (f k) ≡ filled f 0 (suc k) ++ empty m
put_here f k m =
    let z : 0 + k ≡ k = omega arith in
    subst (λ x. put (filled f 0 k ++ empty (suc m)) k (f x) ≡ filled f 0 (suc k) ++ empty m) z (put_next f k 0 m)

pub at_next : (f : ℕ → List ℕ) (k i m : ℕ) → at (filled f i k ++ empty (suc m)) k ≡ None
at_next f zero i m = refl
at_next f (suc k) i m = at_next f k (i + 1) m

pub not_full : (f : ℕ → List ℕ) (k i m : ℕ) → is_full (filled f i k ++ empty (suc m)) ≡ false
not_full f zero i m = refl
not_full f (suc k) i m = not_full f k (i + 1) m

pub full : (f : ℕ → List ℕ) (k i : ℕ) → is_full (filled f i k ++ empty 0) ≡ true
full f zero i = refl
full f (suc k) i = full f k (i + 1)

pub places : (f : ℕ → List ℕ) (k i m : ℕ) → length (filled f i k ++ empty m) ≡ k + m
places f zero i zero = refl
places f zero i (suc m) = let h = places f zero i m in omega (arith, h)
places f (suc k) i m = let h = places f k (i + 1) m in omega (arith, h)

-- all places joined are all pieces joined
pub all_joined : (f : ℕ → List ℕ) (k i : ℕ) → joined (filled f i k ++ empty 0) ≡ concat (map f (range_with_len i k))
all_joined f zero i = refl
all_joined f (suc k) i = ap (λ xs. f i ++ xs) (all_joined f k (i + 1))

-- ---- missing blocks

-- the first b are held, and n are missing
abbrev pub lacking_from : ℕ → ℕ → List Bool
lacking_from b n = replicate b false ++ replicate n true

pub held_below : (b n k : ℕ) → k < b → has (lacking_from b n) k ≡ false
held_below zero n k lt = absurd (omega (arith, lt))
held_below (suc b) n zero lt = refl
held_below (suc b) n (suc k) lt = held_below b n k (omega (arith, lt))

pub missed_at : (b n : ℕ) → has (lacking_from b (suc n)) b ≡ true
missed_at zero n = refl
missed_at (suc b) n = missed_at b n

held_rest : (n k : ℕ) → has (replicate n false ++ []) k ≡ false
held_rest zero k = refl
held_rest (suc n) zero = refl
held_rest (suc n) (suc k) = held_rest n k

pub none_missed : (b k : ℕ) → has (lacking_from b 0) k ≡ false
none_missed b k = held_rest b k

pub one_held : (b n : ℕ) → set (lacking_from b (suc n)) b false ≡ lacking_from (suc b) n
one_held zero n = refl
one_held (suc b) n = ap (λ xs. false ∷ xs) (one_held b n)

pub all_are_held : (b : ℕ) → lacking_from b 0 ≡ replicate b false
all_are_held b = append-nil (replicate b false)

-- ---- the least that passes

next_cases : (i b : ℕ) → i ≤ b → (b ≡ i) ⊎ (i + 1 ≤ b)
next_cases i b le = grind arith

find_from : (t : ℕ → Bool) (n i b : ℕ) → i ≤ b → b < i + n → ((k : ℕ) → k < b → t k ≡ false) → t b ≡ true → find t (range_with_len i n) ≡ Some b
find_from t zero i b low high none here = absurd (omega (arith, low, high))
find_from t (suc n) i b low high none here = elim (next_cases i b low) [
  | inl e ↦ ap (λ c. cond c (Some i) (find t (range_with_len (i + 1) n))) (ap t (sym e) ∙ here) ∙ ap Some (sym e)
  | inr l ↦ ap (λ c. cond c (Some i) (find t (range_with_len (i + 1) n))) (none i (omega (arith, l))) ∙ find_from t n (i + 1) b l (omega (arith, high)) none here
]

pub find_least : (t : ℕ → Bool) (n b : ℕ) → b < n → ((k : ℕ) → k < b → t k ≡ false) → t b ≡ true → find t (range_with_len 0 n) ≡ Some b
find_least t n b lt none here = find_from t n 0 b (omega arith) (omega (arith, lt)) none here

pub find_none : (t : ℕ → Bool) (n i : ℕ) → ((k : ℕ) → t k ≡ false) → find t (range_with_len i n) ≡ None
find_none t zero i none = refl
find_none t (suc n) i none = rw (none i) (find_none t n (i + 1) none)

-- ---- counts of pieces

pub fewer_pieces : (short long part : ℕ) → 0 < part → short ≤ long → piece_count short part ≤ piece_count long part
fewer_pieces short long part pos le =
    let h : piece_count short part * part ≤ short + part - 1 = div-mul-le_self (short + part - 1) part in
    (le-div_iff_mul-le pos).1 (omega (arith, h, le))
