-- The list of chunks without a group: what it has for each receiver, and how often.
use Rattle.std.proofs.Common.{◌≡◌, ◌⊎◌, inl, inr, ◌<◌, ◌≤◌, ◌+◌, ◌*◌, ◌==◌, ℕ, zero, suc, List, [], ◌∷◌, ◌++◌, refl, sym, ap, ◌∙◌, subst, true, false, Bool, arith, map, length, length-append, append_assoc}
use Rattle.std.specs.Prelude.{◌&&◌, ◌||◌, not, if◌then◌else◌}
use Rattle.std.specs.List.{flat_map, range_with_len, AllByRecursion}
use Rattle.std.proofs.Math.Nat.{suc-mul}
use Rattle.std.proofs.lemmas.Bool.{eq-eqb, eqb-true}
use Rattle.mu_model_node.specs.declared.NodeConfig.{NodeConfig}
use Rattle.mu_model_client.specs.Client.{Item, Sends}
use Rattle.mu_model_completion.proofs.Asking.{Apart, Misses, is_to}
use Rattle.mu_model_completion.proofs.Alone.{own, first, Often, Sorted, own_append}

module _ (b : ℕ) where
  -- a chunk to each of these addresses, and chunks from one on
  abbrev pub row_of : ℕ → List ℕ → List Item
  row_of k tos = map (λ to. Sends to b k) tos

  abbrev pub rows_of : List ℕ → ℕ → ℕ → List Item
  rows_of tos i m = flat_map (λ k. row_of k tos) (range_with_len i m)

  abbrev pub addresses : List NodeConfig → List ℕ
  addresses cs = map (λ (c : NodeConfig). c.address) cs

  pub rows_length : (tos : List ℕ) (i m : ℕ) → length (rows_of tos i m) ≡ m * length tos
  rows_length tos i zero = omega arith
  rows_length tos i (suc m) =
      let h = length-append (row_of i tos) (rows_of tos (i + 1) m) in
      let k = row_length i tos in
      let r = rows_length tos (i + 1) m in
      let e = suc_times m (length tos) in
      omega (arith, h, k, r, e)
    where
      row_length : (k : ℕ) (tos : List ℕ) → length (row_of k tos) ≡ length tos
      row_length k [] = refl
      row_length k (to ∷ tos) = ap suc (row_length k tos)

      suc_times : (m n : ℕ) → suc m * n ≡ m * n + n
      suc_times m n = suc-mul m n

  or_first : (x y : Bool) → (x || y) ≡ false → x ≡ false
  or_first true y h = h
  or_first false y h = refl

  missed_first : (to : ℕ) (c : NodeConfig) → Misses to c → (to == c.address) ≡ false
  missed_first to c h = or_first (to == c.address) (not (c.group == 0) && (to == c.group)) h

  -- ---- one packet a chunk

  none_own : (k : ℕ) (c : NodeConfig) (cs : List NodeConfig) → AllByRecursion (λ (e : NodeConfig). Misses c.address e × Misses e.address c) cs → own c.address (row_of k (addresses cs)) ≡ []
  none_own k c [] h = refl
  none_own k c (e ∷ cs) h =
      ap (λ z. if z then (Sends e.address b k ∷ own c.address (row_of k (addresses cs))) else own c.address (row_of k (addresses cs))) (missed_first e.address c h.0.1) ∙ none_own k c cs h.1

  abbrev Once : ℕ → List NodeConfig → NodeConfig → Type 0
  Once k all e = own e.address (row_of k (addresses all)) ≡ Sends e.address b k ∷ []

  once_more : (k : ℕ) (c : NodeConfig) (all cs : List NodeConfig) → AllByRecursion (λ (e : NodeConfig). Misses c.address e × Misses e.address c) cs → AllByRecursion (Once k all) cs → AllByRecursion (Once k (c ∷ all)) cs
  once_more k c all [] h o = tt
  once_more k c all (e ∷ cs) h o =
      (ap (λ z. if z then (Sends c.address b k ∷ own e.address (row_of k (addresses all))) else own e.address (row_of k (addresses all))) (missed_first c.address e h.0.0) ∙ o.0, once_more k c all cs h.1 o.1)

  pub each_once : (k : ℕ) (cs : List NodeConfig) → Apart cs → AllByRecursion (Once k cs) cs
  each_once k [] h = tt
  each_once k (c ∷ cs) h = (
    ap (λ z. if z then (Sends c.address b k ∷ own c.address (row_of k (addresses cs))) else own c.address (row_of k (addresses cs))) (eq-eqb c.address c.address refl) ∙ ap (λ is. Sends c.address b k ∷ is) (none_own k c cs h.0),
    once_more k c cs cs h.0 (each_once k cs h.1),
  )

  -- so of all chunks it has each
  pub own_rows : (a : ℕ) (tos : List ℕ) → ((k : ℕ) → own a (row_of k tos) ≡ Sends a b k ∷ []) → (m i : ℕ) → own a (rows_of tos i m) ≡ map (λ k. Sends a b k) (range_with_len i m)
  own_rows a tos h zero i = refl
  own_rows a tos h (suc m) i = own_append a (row_of i tos) (rows_of tos (i + 1) m) ∙ (ap (λ xs. xs ++ own a (rows_of tos (i + 1) m)) (h i) ∙ ap (λ xs. Sends a b i ∷ xs) (own_rows a tos h m (i + 1)))

  -- ---- how often

  -- at a place where it stands
  first_at : (a k : ℕ) (before : List ℕ) (to : ℕ) (after : List ℕ) (rest : List Item) → to ≡ a → first a (row_of k (before ++ to ∷ after) ++ rest) ≤ length before
  first_at a k [] to after rest e = ap_le (ap (λ z. if z then 0 else suc (first a (row_of k after ++ rest))) (eq-eqb to a e))
    where
      ap_le : {x : ℕ} → x ≡ 0 → x ≤ 0
      ap_le h = omega (arith, h)
  first_at a k (t ∷ before) to after rest e = by_case (t == a) (first_at a k before to after rest e)
    where
      by_case : (z : Bool) → first a (row_of k (before ++ to ∷ after) ++ rest) ≤ length before → (if z then 0 else suc (first a (row_of k (before ++ to ∷ after) ++ rest))) ≤ suc (length before)
      by_case true h = omega arith
      by_case false h = omega (arith, h)

  first_short : (a k : ℕ) (tos : List ℕ) (rest : List Item) → first a (row_of k tos ++ rest) ≤ length tos + first a rest
  first_short a k [] rest = omega arith
  first_short a k (t ∷ tos) rest = by_case (t == a) (first_short a k tos rest)
    where
      by_case : (z : Bool) → first a (row_of k tos ++ rest) ≤ length tos + first a rest → (if z then 0 else suc (first a (row_of k tos ++ rest))) ≤ suc (length tos) + first a rest
      by_case true h = omega arith
      by_case false h = omega (arith, h)

  first_in : (a k : ℕ) (tos : List ℕ) (rest : List Item) → first a (row_of k tos) < length tos → first a (row_of k tos ++ rest) ≤ length tos
  first_in a k [] rest h = absurd (omega (arith, h))
  first_in a k (t ∷ tos) rest h = by_case (t == a) h (first_in a k tos rest)
    where
      by_case : (z : Bool) → (if z then 0 else suc (first a (row_of k tos))) < suc (length tos) → (first a (row_of k tos) < length tos → first a (row_of k tos ++ rest) ≤ length tos)
          → (if z then 0 else suc (first a (row_of k tos ++ rest))) ≤ suc (length tos)
      by_case true h r = omega arith
      by_case false h r = (let s = r (omega (arith, h)) in omega (arith, s))

  -- the rest of a list begins with a whole row, or is none
  abbrev Starts : List ℕ → List Item → Type 0
  Starts tos rest = (rest ≡ []) ⊎ ((k : ℕ) × (more : List Item) × (rest ≡ row_of k tos ++ more))

  starts_soon : (a : ℕ) (before : List ℕ) (to : ℕ) (after : List ℕ) (rest : List Item) → to ≡ a → Starts (before ++ to ∷ after) rest → first a rest ≤ length before
  starts_soon a before to after rest e (inl s) = (let h = ap (first a) s in omega (arith, h))
  starts_soon a before to after rest e (inr s) = (let h = ap (first a) s.2 in let k = first_at a s.0 before to after s.1 e in omega (arith, h, k))

  often_row : (a g k : ℕ) (before tos : List ℕ) (rest : List Item) → length before + length tos ≤ g → Often a g rest → Starts (before ++ tos) rest
      → (first a (row_of k tos) < length tos) ⊎ (first a rest ≤ length before) → Often a g (row_of k tos ++ rest)
  often_row a g k before [] rest le h s o = h
  often_row a g k before (t ∷ tos) rest le h s o = (
    elim o [
      | inl i ↦ (let f = first_in a k (t ∷ tos) rest i in omega (arith, f, le))
      | inr i ↦ (let f = first_short a k (t ∷ tos) rest in omega (arith, f, le, i))
    ],
    often_row a g k (before ++ t ∷ []) tos rest longer h (subst (λ z. Starts z rest) (sym (append_assoc before (t ∷ []) tos)) s) (next (t == a) refl o),
  )
    where
      long : length (before ++ t ∷ []) ≡ length before + 1
      long = length-append before (t ∷ [])

      longer : length (before ++ t ∷ []) + length tos ≤ g
      longer = let l = long in omega (arith, l, le)

      next : (z : Bool) → (t == a) ≡ z → ((if z then 0 else suc (first a (row_of k tos))) < suc (length tos)) ⊎ (first a rest ≤ length before) → (first a (row_of k tos) < length tos) ⊎ (first a rest ≤ length (before ++ t ∷ []))
      next true e o = inr (let f = starts_soon a before t tos rest (eqb-true t a e) s in let l = long in omega (arith, f, l))
      next false e (inl i) = inl (omega (arith, i))
      next false e (inr i) = inr (let l = long in omega (arith, i, l))

  pub often_rows : (a g : ℕ) (tos : List ℕ) → length tos ≤ g → ((k : ℕ) → first a (row_of k tos) < length tos) → (m i : ℕ) → Often a g (rows_of tos i m)
  often_rows a g tos le h zero i = tt
  often_rows a g tos le h (suc m) i = often_row a g i [] tos (rows_of tos (i + 1) m) (omega (arith, le)) (often_rows a g tos le h m (i + 1)) (starts m) (inl (h i))
    where
      starts : (m : ℕ) → Starts tos (rows_of tos (i + 1) m)
      starts zero = inl refl
      starts (suc m) = inr (i + 1, rows_of tos (i + 1 + 1) m, refl)

  -- an address that has a packet in a row comes within it
  pub first_own : (a k : ℕ) (tos : List ℕ) → own a (row_of k tos) ≡ Sends a b k ∷ [] → first a (row_of k tos) < length tos
  first_own a k [] h = absurd (nil_cons h)
    where
      nil_cons : [] ≡ Sends a b k ∷ [] → ⊥
      nil_cons e = grind (arith, e)
  first_own a k (t ∷ tos) h = by_case (t == a) h (first_own a k tos)
    where
      by_case : (z : Bool) → (if z then (Sends t b k ∷ own a (row_of k tos)) else own a (row_of k tos)) ≡ Sends a b k ∷ [] → (own a (row_of k tos) ≡ Sends a b k ∷ [] → first a (row_of k tos) < length tos)
          → (if z then 0 else suc (first a (row_of k tos))) < suc (length tos)
      by_case true e r = omega arith
      by_case false e r = (let s = r e in omega (arith, s))

  -- ---- whom each packet reaches

  abbrev Apt : NodeConfig → NodeConfig → Type 0
  Apt c e = (e.address ≡ c.address) ⊎ Misses e.address c

  apt_others : (c : NodeConfig) (cs : List NodeConfig) → AllByRecursion (λ (e : NodeConfig). Misses c.address e × Misses e.address c) cs → AllByRecursion (Apt c) cs
  apt_others c [] h = tt
  apt_others c (e ∷ cs) h = (inr h.0.1, apt_others c cs h.1)

  apt_more : (c : NodeConfig) (all cs : List NodeConfig) → AllByRecursion (λ (e : NodeConfig). Misses c.address e × Misses e.address c) cs → AllByRecursion (λ (e : NodeConfig). AllByRecursion (Apt e) all) cs
      → AllByRecursion (λ (e : NodeConfig). AllByRecursion (Apt e) (c ∷ all)) cs
  apt_more c all [] h k = tt
  apt_more c all (e ∷ cs) h k = ((inr h.0.0, k.0), apt_more c all cs h.1 k.1)

  pub all_apt : (cs : List NodeConfig) → Apart cs → AllByRecursion (λ (e : NodeConfig). AllByRecursion (Apt e) cs) cs
  all_apt [] h = tt
  all_apt (c ∷ cs) h = ((inl refl, apt_others c cs h.0), apt_more c cs cs h.0 (all_apt cs h.1))

  all_append : {A : Type 0} (P : A → Type 0) (xs ys : List A) → AllByRecursion P xs → AllByRecursion P ys → AllByRecursion P (xs ++ ys)
  all_append P [] ys h k = k
  all_append P (x ∷ xs) ys h k = (h.0, all_append P xs ys h.1 k)

  sorted_row : (c : NodeConfig) (k : ℕ) (cs : List NodeConfig) → AllByRecursion (Apt c) cs → Sorted c (row_of k (addresses cs))
  sorted_row c k [] h = tt
  sorted_row c k (e ∷ cs) h = (h.0, sorted_row c k cs h.1)

  pub sorted_rows : (c : NodeConfig) (cs : List NodeConfig) → AllByRecursion (Apt c) cs → (m i : ℕ) → Sorted c (rows_of (addresses cs) i m)
  sorted_rows c cs h zero i = tt
  sorted_rows c cs h (suc m) i = all_append (λ (j : Item). (is_to j ≡ c.address) ⊎ Misses (is_to j) c) (row_of i (addresses cs)) (rows_of (addresses cs) (i + 1) m) (sorted_row c i cs h) (sorted_rows c cs h m (i + 1))
