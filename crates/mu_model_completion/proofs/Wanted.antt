-- In pull: the numbers that a node asks for, and the list that a client makes of them.
use Rattle.std.proofs.Common.{◌≡◌, ◌⊎◌, inl, inr, ◌<◌, ◌≤◌, ◌+◌, ◌==◌, ℕ, zero, suc, List, [], ◌∷◌, ◌++◌, refl, sym, ap, ◌∙◌, true, false, Bool, arith, map, min, length, take}
use Rattle.std.specs.Prelude.{◌&&◌, ◌||◌, nat_eq, nat_lt, filter, if◌then◌else◌}
use Rattle.std.specs.List.{flat_map, list_any, list_all, range_with_len}
use Rattle.std.proofs.lemmas.Bool.Decides.{nat_tests}
use Rattle.mu_model_wire.specs.Reports.{has, members, union}
use Rattle.mu_model_node.specs.Slots.{empty, missing}
use Rattle.mu_model_client.specs.declared.Sending.{Sending}
use Rattle.mu_model_client.specs.Sets.{set_of, all_below}
use Rattle.mu_model_client.specs.Client.{Receiver, is_active, Item, Sends, chunk_total}
use Rattle.mu_model_client.specs.Lists as l
use Rattle.mu_model_client.specs.Lists.{chunk_items, wanted_of, lacking}
use Rattle.mu_model_completion.proofs.Planned.{has_every}
use Rattle.mu_model_completion.proofs.Pieces.{filled, lacking_from, held_below}

-- ---- ranges

abbrev range : ℕ → ℕ → List ℕ
range i n = range_with_len i n

pub range_add : (m n i : ℕ) → range i (m + n) ≡ range i m ++ range (i + m) n
range_add zero n i = let e : i + 0 ≡ i = omega arith in let f : 0 + n ≡ n = omega arith in rw (e, f) refl
range_add (suc m) n i =
    let e : suc m + n ≡ suc (m + n) = omega arith in
    let f : i + suc m ≡ i + 1 + m = omega arith in
    rw (e, f) (ap (λ xs. i ∷ xs) (range_add m n (i + 1)))

pub take_numbers : (m n i : ℕ) → take m (range i n) ≡ range i (min m n)
take_numbers zero n i = let e : min 0 n ≡ 0 = omega arith in rw e refl
take_numbers (suc m) zero i = let e : min (suc m) 0 ≡ 0 = omega arith in rw e refl
take_numbers (suc m) (suc n) i = let e : min (suc m) (suc n) ≡ suc (min m n) = omega arith in rw e (ap (λ xs. i ∷ xs) (take_numbers m n (i + 1)))

-- what a test passes of a range: from k on
passes_all : (t : ℕ → Bool) (m i : ℕ) → ((x : ℕ) → i ≤ x → x < i + m → t x ≡ true) → filter t (range i m) ≡ range i m
passes_all t zero i h = refl
passes_all t (suc m) i h = rw (h i (omega arith) (omega arith)) (ap (λ xs. i ∷ xs) (passes_all t m (i + 1) (λ x low high. h x (omega (arith, low)) (omega (arith, high)))))

passes_from : (t : ℕ → Bool) (k m i : ℕ) → ((x : ℕ) → i ≤ x → x < i + k → t x ≡ false) → ((x : ℕ) → i + k ≤ x → x < i + k + m → t x ≡ true)
    → filter t (range i (k + m)) ≡ range (i + k) m
passes_from t zero m i none all =
    let e : 0 + m ≡ m = omega arith in
    let f : i + 0 ≡ i = omega arith in
    rw (e, f) (passes_all t m i (λ x low high. all x (omega (arith, low)) (omega (arith, high))))
passes_from t (suc k) m i none all =
    let e : suc k + m ≡ suc (k + m) = omega arith in
    let f : i + suc k ≡ i + 1 + k = omega arith in
    rw (e, f, none i (omega arith) (omega arith))
    (passes_from t k m (i + 1) (λ x low high. none x (omega (arith, low)) (omega (arith, high))) (λ x low high. all x (omega (arith, low)) (omega (arith, high))))

-- ---- what is missing once k have come

missing_is : (f : ℕ → List ℕ) (k i m : ℕ) → missing (filled f i k ++ empty m) ≡ lacking_from k m
missing_is f zero i zero = refl
missing_is f zero i (suc m) = ap (λ xs. true ∷ xs) (missing_is f zero i m)
missing_is f (suc k) i m = ap (λ xs. false ∷ xs) (missing_is f k (i + 1) m)

lacking_length : (k m : ℕ) → length (lacking_from k m) ≡ k + m
lacking_length zero zero = refl
lacking_length zero (suc m) = let h = lacking_length zero m in omega (arith, h)
lacking_length (suc k) m = let h = lacking_length k m in omega (arith, h)

lacking_has : (k m x : ℕ) → k ≤ x → x < k + m → has (lacking_from k m) x ≡ true
lacking_has zero m x low high = has_every m x (omega (arith, high))
lacking_has (suc k) m zero low high = absurd (omega (arith, low))
lacking_has (suc k) m (suc x) low high = lacking_has k m x (omega (arith, low)) (omega (arith, high))

members_are : (k m : ℕ) → members (lacking_from k m) ≡ range k m
members_are k m =
    let z : 0 + k ≡ k = omega arith in
    ap (λ n. filter (has (lacking_from k m)) (range 0 n)) (lacking_length k m)
    ∙ (passes_from (has (lacking_from k m)) k m 0 (λ x low high. held_below k m x (omega (arith, high))) (λ x low high. lacking_has k m x (omega (arith, low)) (omega (arith, high)))
    ∙ ap (λ i. range i m) z)

-- the first sixteen of them
pub asked_are : (f : ℕ → List ℕ) (k m : ℕ) → take 16 (members (missing (filled f 0 k ++ empty m))) ≡ range k (min 16 m)
asked_are f k m = ap (λ set. take 16 (members set)) (missing_is f k 0 m) ∙ (ap (take 16) (members_are k m) ∙ take_numbers 16 m k)

-- ---- at the client

pub below_all : (n j k : ℕ) → k + j ≤ n → all_below n (range k j) ≡ true
below_all n zero k le = refl
below_all n (suc j) k le = both_true (nat_lt k n) (list_all (λ x. nat_lt x n) (range (k + 1) j)) (grind (arith, nat_tests, le)) (below_all n j (k + 1) (omega (arith, le)))
  where
    both_true : (a b : Bool) → a ≡ true → b ≡ true → (a && b) ≡ true
    both_true a b e f = rw (e, f) refl

-- the set of those that are wanted
abbrev pub wanted_set : (n k j : ℕ) → List Bool
wanted_set n k j = union (set_of n (range k j)) []

has_mapped : (f : ℕ → Bool) (n i x : ℕ) → x < n → has (map f (range i n)) x ≡ f (i + x)
has_mapped f zero i x lt = absurd (omega (arith, lt))
has_mapped f (suc n) i zero lt = let e : i + 0 ≡ i = omega arith in ap f (sym e)
has_mapped f (suc n) i (suc x) lt = let e : i + 1 + x ≡ i + suc x = omega arith in has_mapped f n (i + 1) x (omega (arith, lt)) ∙ ap f e

mapped_length : {A : Type 0} (f : ℕ → A) (n i : ℕ) → length (map f (range i n)) ≡ n
mapped_length f zero i = refl
mapped_length f (suc n) i = ap suc (mapped_length f n (i + 1))

wanted_has : (n k j x : ℕ) → x < n → has (wanted_set n k j) x ≡ list_any (nat_eq x) (range k j)
wanted_has n k j x lt =
    let set : List Bool = set_of n (range k j) in
    let z : 0 + x ≡ x = omega arith in
    ap (λ m. has (map (λ y. has set y || has [] y) (range 0 m)) x) (mapped_length (λ y. list_any (nat_eq y) (range k j)) n 0)
    ∙ (has_mapped (λ y. has set y || has [] y) n 0 x lt
    ∙ (ap (λ y. has set y || has [] y) z
    ∙ (or_nothing (has set x)
    ∙ (has_mapped (λ y. list_any (nat_eq y) (range k j)) n 0 x lt ∙ ap (λ y. list_any (nat_eq y) (range k j)) z))))
  where
    or_nothing : (b : Bool) → (b || false) ≡ b
    or_nothing true = refl
    or_nothing false = refl

in_range : (j k x : ℕ) → k ≤ x → x < k + j → list_any (nat_eq x) (range k j) ≡ true
in_range zero k x low high = absurd (omega (arith, low, high))
in_range (suc j) k x low high = by_case (nat_eq x k) refl (λ more. in_range j (k + 1) x more (omega (arith, high)))
  where
    later : nat_eq x k ≡ false → k + 1 ≤ x
    later e = grind (arith, nat_tests, e, low)

    by_case : (b : Bool) → nat_eq x k ≡ b → (k + 1 ≤ x → list_any (nat_eq x) (range (k + 1) j) ≡ true) → (b || list_any (nat_eq x) (range (k + 1) j)) ≡ true
    by_case true e rest = refl
    by_case false e rest = rest (later e)

out_of_range : (j k x : ℕ) → (x < k) ⊎ (k + j ≤ x) → list_any (nat_eq x) (range k j) ≡ false
out_of_range zero k x h = refl
out_of_range (suc j) k x h = both_false (nat_eq x k) (list_any (nat_eq x) (range (k + 1) j)) (differs h) (out_of_range j (k + 1) x (later h))
  where
    both_false : (a b : Bool) → a ≡ false → b ≡ false → (a || b) ≡ false
    both_false a b e f = rw (e, f) refl

    differs : (x < k) ⊎ (k + suc j ≤ x) → nat_eq x k ≡ false
    differs (inl lt) = grind (arith, nat_tests, lt)
    differs (inr le) = grind (arith, nat_tests, le)

    later : (x < k) ⊎ (k + suc j ≤ x) → (x < k + 1) ⊎ (k + 1 + j ≤ x)
    later (inl lt) = inl (omega (arith, lt))
    later (inr le) = inr (omega (arith, le))

-- ---- the list of the wanted chunks

flat_add : {A : Type 0} (f : ℕ → List A) (xs ys : List ℕ) → flat_map f (xs ++ ys) ≡ flat_map f xs ++ flat_map f ys
flat_add f [] ys = refl
flat_add f (x ∷ xs) ys = ap (λ zs. f x ++ zs) (flat_add f xs ys) ∙ assoc (f x) (flat_map f xs) (flat_map f ys)
  where
    assoc : {A : Type 0} (xs ys zs : List A) → xs ++ (ys ++ zs) ≡ (xs ++ ys) ++ zs
    assoc [] ys zs = refl
    assoc (x ∷ xs) ys zs = ap (λ ws. x ∷ ws) (assoc xs ys zs)

flat_none : {A : Type 0} (f : ℕ → List A) (m i : ℕ) → ((x : ℕ) → i ≤ x → x < i + m → f x ≡ []) → flat_map f (range i m) ≡ []
flat_none f zero i h = refl
flat_none f (suc m) i h = rw (h i (omega arith) (omega arith)) (flat_none f m (i + 1) (λ x low high. h x (omega (arith, low)) (omega (arith, high))))

flat_ones : {A : Type 0} (f : ℕ → List A) (g : ℕ → A) (m i : ℕ) → ((x : ℕ) → i ≤ x → x < i + m → f x ≡ g x ∷ []) → flat_map f (range i m) ≡ map g (range i m)
flat_ones f g zero i h = refl
flat_ones f g (suc m) i h = rw (h i (omega arith) (omega arith)) (ap (λ xs. g i ∷ xs) (flat_ones f g m (i + 1) (λ x low high. h x (omega (arith, low)) (omega (arith, high)))))

append_none : {A : Type 0} (xs : List A) → xs ++ [] ≡ xs
append_none [] = refl
append_none (x ∷ xs) = ap (λ ys. x ∷ ys) (append_none xs)

flat_within : {A : Type 0} (f : ℕ → List A) (g : ℕ → A) (k j rest : ℕ) → ((x : ℕ) → k ≤ x → x < k + j → f x ≡ g x ∷ []) → ((x : ℕ) → (x < k) ⊎ (k + j ≤ x) → x < k + (j + rest) → f x ≡ [])
    → flat_map f (range 0 (k + (j + rest))) ≡ map g (range k j)
flat_within f g k j rest ones none =
    let z : 0 + k ≡ k = omega arith in
    let before : flat_map f (range 0 k) ≡ [] = flat_none f k 0 (λ x low high. none x (inl (omega (arith, high))) (omega (arith, high))) in
    let here : flat_map f (range k j) ≡ map g (range k j) = flat_ones f g j k ones in
    let after : flat_map f (range (k + j) rest) ≡ [] = flat_none f rest (k + j) (λ x low high. none x (inr low) (omega (arith, high))) in
    ap (flat_map f) (range_add k (j + rest) 0 ∙ ap (λ i. range 0 k ++ range i (j + rest)) z)
    ∙ (flat_add f (range 0 k) (range k (j + rest))
    ∙ (ap (λ xs. xs ++ flat_map f (range k (j + rest))) before
    ∙ (ap (flat_map f) (range_add j rest k)
    ∙ (flat_add f (range k j) (range (k + j) rest)
    ∙ (ap (λ xs. flat_map f (range k j) ++ xs) after ∙ (append_none (flat_map f (range k j)) ∙ here))))))

-- one receiver's, to it or to its group
pub wanted_list : (p : Sending) (b total k j rest : ℕ) (to : ℕ) (r : Receiver) → chunk_total p b ≡ total → total ≡ k + (j + rest) → is_active r ≡ true → r.wanted ≡ wanted_set total k j
    → l.destinations p (r.row.address ∷ []) ≡ to ∷ []
    → chunk_items p b wanted_of (r ∷ []) ≡ map (λ i. Sends to b i) (range k j)
wanted_list p b total k j rest to r count sum active wanted goes =
    let f : ℕ → List Item = λ i. map (λ dest. Sends dest b i) (l.destinations p (lacking wanted_of (r ∷ []) i)) in
    ap (λ n. flat_map f (range 0 n)) (count ∙ sum)
    ∙ flat_within f (λ i. Sends to b i) k j rest
    (λ x low high. ap (λ z. map (λ dest. Sends dest b x) (l.destinations p (l.lacking_if r.row.address z ++ []))) (lacks x (omega (arith, high, sum)) ∙ in_range j k x low high) ∙ ap (map (λ dest. Sends dest b x)) goes)
    (λ x h high. ap (λ z. map (λ dest. Sends dest b x) (l.destinations p (l.lacking_if r.row.address z ++ []))) (lacks x (omega (arith, high, sum)) ∙ out_of_range j k x h) ∙ nobody x (p.group == 0))
  where
    lacks : (x : ℕ) → x < total → l.lacks_chunk wanted_of x r ≡ list_any (nat_eq x) (range k j)
    lacks x lt = ap (λ z. z && has r.wanted x) active ∙ (ap (λ set. has set x) wanted ∙ wanted_has total k j x lt)

    nobody : (x : ℕ) (z : Bool) → map (λ dest. Sends dest b x) (if z then [] else l.to_group p.group []) ≡ []
    nobody x true = refl
    nobody x false = refl

-- nothing is wanted
pub none_wanted : (p : Sending) (b : ℕ) (r : Receiver) → r.wanted ≡ [] → chunk_items p b wanted_of (r ∷ []) ≡ []
none_wanted p b r none =
    flat_none (λ i. map (λ dest. Sends dest b i) (l.destinations p (lacking wanted_of (r ∷ []) i))) (chunk_total p b) 0
    (λ x low high. ap (λ set. map (λ dest. Sends dest b x) (l.destinations p (l.lacking_if r.row.address (is_active r && has set x) ++ []))) none ∙ by_active x (is_active r))
  where
    nobody : (x : ℕ) (z : Bool) → map (λ dest. Sends dest b x) (if z then [] else l.to_group p.group []) ≡ []
    nobody x true = refl
    nobody x false = refl

    by_active : (x : ℕ) (active : Bool) → map (λ dest. Sends dest b x) (l.destinations p (l.lacking_if r.row.address (active && false) ++ [])) ≡ []
    by_active x true = nobody x (p.group == 0)
    by_active x false = nobody x (p.group == 0)
