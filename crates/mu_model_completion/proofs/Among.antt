-- One receiver among others, and what of a list goes to its node.
use Rattle.std.proofs.Common.{◌≡◌, ◌⊎◌, inl, inr, ◌<◌, ◌≤◌, ◌+◌, ℕ, zero, suc, List, [], ◌∷◌, ◌++◌, refl, sym, ap, ◌∙◌, true, false, Bool, Option, Some, None, arith, map, take, drop}
use Rattle.std.specs.Prelude.{◌||◌}
use Rattle.std.specs.List.{flat_map, list_any, range_with_len, AllByRecursion}
use Rattle.mu_model_node.specs.declared.NodeConfig.{NodeConfig}
use Rattle.mu_model_node.specs.BlobMessages.{BlockGet}
use Rattle.mu_model_node.specs.NodeMessages.{Request, OfBlob}
use Rattle.mu_model_client.specs.declared.Sending.{Sending}
use Rattle.mu_model_client.specs.Sets.{below}
use Rattle.mu_model_client.specs.Client.{Receiver, is_pending, Item, Says, Sends, chunk_total}
use Rattle.mu_model_client.specs.Lists as l
use Rattle.mu_model_client.specs.Lists.{chunk_items, missing_of, lacking, lacks_chunk, messages}
use Rattle.mu_model_completion.specs.Answering.{reaches}
use Rattle.mu_model_completion.proofs.Asking.{is_to}

module _ (config : NodeConfig) where
  -- ---- a receiver, and others whose packets don't reach its node

  abbrev pub Elsewhere : Receiver → Type 0
  Elsewhere x = reaches x.row.address config ≡ false

  abbrev pub Here : Receiver → List Receiver → Type 0
  Here r [] = ⊥
  Here r (x ∷ xs) = ((x ≡ r) × AllByRecursion Elsewhere xs) ⊎ (Elsewhere x × Here r xs)

  abbrev pub KeepsAddress : (Receiver → Receiver) → Type 0
  KeepsAddress f = (x : Receiver) → (f x).row.address ≡ x.row.address

  elsewhere_one : (f : Receiver → Receiver) → KeepsAddress f → (x : Receiver) → Elsewhere x → Elsewhere (f x)
  elsewhere_one f keeps x h = ap (λ to. reaches to config) (keeps x) ∙ h

  elsewhere_mapped : (f : Receiver → Receiver) → KeepsAddress f → (xs : List Receiver) → AllByRecursion Elsewhere xs → AllByRecursion Elsewhere (map f xs)
  elsewhere_mapped f keeps [] h = tt
  elsewhere_mapped f keeps (x ∷ xs) h = (elsewhere_one f keeps x h.0, elsewhere_mapped f keeps xs h.1)

  pub here_mapped : (f : Receiver → Receiver) → KeepsAddress f → (r : Receiver) (xs : List Receiver) → Here r xs → Here (f r) (map f xs)
  here_mapped f keeps r [] h = absurd h
  here_mapped f keeps r (x ∷ xs) (inl h) = inl (ap f h.0, elsewhere_mapped f keeps xs h.1)
  here_mapped f keeps r (x ∷ xs) (inr h) = inr (elsewhere_one f keeps x h.0, here_mapped f keeps r xs h.1)

  or_true : (a b : Bool) → b ≡ true → (a || b) ≡ true
  or_true true b h = refl
  or_true false b h = h

  -- what it passes is passed by one of them
  pub passed_here : (t : Receiver → Bool) (r : Receiver) (xs : List Receiver) → Here r xs → t r ≡ true → list_any t xs ≡ true
  passed_here t r [] h e = absurd h
  passed_here t r (x ∷ xs) (inl h) e = ap (λ b. b || list_any t xs) (ap t h.0 ∙ e)
  passed_here t r (x ∷ xs) (inr h) e = or_true (t x) (list_any t xs) (passed_here t r xs h.1 e)

  -- ---- what of a list goes to the node

  abbrev pub first_if : Bool → Item → List Item → List Item
  first_if true i is = i ∷ is
  first_if false i is = is

  abbrev pub mine : List Item → List Item
  mine [] = []
  mine (i ∷ is) = first_if (reaches (is_to i) config) i (mine is)

  mine_next : (b : Bool) (i : Item) (xs ys zs : List Item) → xs ≡ ys ++ zs → first_if b i xs ≡ first_if b i ys ++ zs
  mine_next true i xs ys zs h = ap (λ is. i ∷ is) h
  mine_next false i xs ys zs h = h

  pub mine_append : (xs ys : List Item) → mine (xs ++ ys) ≡ mine xs ++ mine ys
  mine_append [] ys = refl
  mine_append (x ∷ xs) ys = mine_next (reaches (is_to x) config) x (mine (xs ++ ys)) (mine xs) (mine ys) (mine_append xs ys)

  pub mine_split : (k : ℕ) (xs : List Item) → mine (take k xs) ++ mine (drop k xs) ≡ mine xs
  mine_split zero xs = refl
  mine_split (suc k) [] = refl
  mine_split (suc k) (x ∷ xs) = sym (mine_next (reaches (is_to x) config) x (mine xs) (mine (take k xs)) (mine (drop k xs)) (sym (mine_split k xs)))

  -- ---- messages to pending receivers

  said_elsewhere : (x : Receiver) (m : Option Request) (pending : Bool) → Elsewhere x → mine (l.said_if x m pending) ≡ []
  said_elsewhere x m false h = refl
  said_elsewhere x None true h = refl
  said_elsewhere x (Some request) true h = ap (λ b. first_if b (Says x.row.address request) []) h

  said_here : (x : Receiver) (m : Option Request) (pending : Bool) → reaches x.row.address config ≡ true → mine (l.said_if x m pending) ≡ l.said_if x m pending
  said_here x m false h = refl
  said_here x None true h = refl
  said_here x (Some request) true h = ap (λ b. first_if b (Says x.row.address request) []) h

  none_elsewhere : (msg : Receiver → Option Request) (xs : List Receiver) → AllByRecursion Elsewhere xs → mine (messages msg xs) ≡ []
  none_elsewhere msg [] h = refl
  none_elsewhere msg (x ∷ xs) h =
      mine_append (l.said_if x (msg x) (is_pending x)) (messages msg xs)
      ∙ (ap (λ is. is ++ mine (messages msg xs)) (said_elsewhere x (msg x) (is_pending x) h.0) ∙ none_elsewhere msg xs h.1)

  append_nil : (xs : List Item) → xs ++ [] ≡ xs
  append_nil [] = refl
  append_nil (x ∷ xs) = ap (λ ys. x ∷ ys) (append_nil xs)

  pub mine_messages : (msg : Receiver → Option Request) (r : Receiver) (xs : List Receiver) → Here r xs → reaches r.row.address config ≡ true
      → mine (messages msg xs) ≡ l.said_if r (msg r) r.pending
  mine_messages msg r [] h e = absurd h
  mine_messages msg r (x ∷ xs) (inl h) e =
      mine_append (l.said_if x (msg x) (is_pending x)) (messages msg xs)
      ∙ (ap (λ is. mine (l.said_if x (msg x) (is_pending x)) ++ is) (none_elsewhere msg xs h.1)
      ∙ (append_nil (mine (l.said_if x (msg x) (is_pending x)))
      ∙ (ap (λ z. mine (l.said_if z (msg z) (is_pending z))) h.0 ∙ said_here r (msg r) r.pending e)))
  mine_messages msg r (x ∷ xs) (inr h) e =
      mine_append (l.said_if x (msg x) (is_pending x)) (messages msg xs)
      ∙ (ap (λ is. is ++ mine (messages msg xs)) (said_elsewhere x (msg x) (is_pending x) h.0) ∙ mine_messages msg r xs h.1 e)

  -- ---- chunks

  -- a chunk or a Block Get, as may be left of a list
  abbrev pub IsLeft : Item → Type 0
  IsLeft (Says to request) = request ≡ OfBlob BlockGet
  IsLeft (Sends to b k) = Unit {0}

  abbrev pub AllLeft : List Item → Type 0
  AllLeft is = AllByRecursion IsLeft is

  -- and of this block
  abbrev pub IsOf : ℕ → Item → Type 0
  IsOf b (Says to request) = request ≡ OfBlob BlockGet
  IsOf b (Sends to e k) = e ≡ b

  abbrev pub AllOf : ℕ → List Item → Type 0
  AllOf b is = AllByRecursion (IsOf b) is

  pub of_left : (b : ℕ) (is : List Item) → AllOf b is → AllLeft is
  of_left b [] h = tt
  of_left b (Says to request ∷ is) h = (h.0, of_left b is h.1)
  of_left b (Sends to e k ∷ is) h = (tt, of_left b is h.1)

  of_first : (b : ℕ) (its : Bool) (x : Item) (xs : List Item) → IsOf b x → AllOf b xs → AllOf b (first_if its x xs)
  of_first b true x xs h k = (h, k)
  of_first b false x xs h k = k

  pub mine_of : (b : ℕ) (xs : List Item) → AllOf b xs → AllOf b (mine xs)
  mine_of b [] h = tt
  mine_of b (x ∷ xs) h = of_first b (reaches (is_to x) config) x (mine xs) h.0 (mine_of b xs h.1)

  of_append : (b : ℕ) (xs ys : List Item) → AllOf b xs → AllOf b ys → AllOf b (xs ++ ys)
  of_append b [] ys h k = k
  of_append b (x ∷ xs) ys h k = (h.0, of_append b xs ys h.1 k)

  to_all_of : (b k : ℕ) (tos : List ℕ) → AllOf b (map (λ to. Sends to b k) tos)
  to_all_of b k [] = tt
  to_all_of b k (to ∷ tos) = (refl, to_all_of b k tos)

  flat_of : (b : ℕ) (f : ℕ → List Item) → ((k : ℕ) → AllOf b (f k)) → (ks : List ℕ) → AllOf b (flat_map f ks)
  flat_of b f h [] = tt
  flat_of b f h (k ∷ ks) = of_append b (f k) (flat_map f ks) (h k) (flat_of b f h ks)

  pub chunks_are_of : (p : Sending) (b : ℕ) (missing : Receiver → List Bool) (rs : List Receiver) → AllOf b (chunk_items p b missing rs)
  chunks_are_of p b missing rs =
      flat_of b (λ k. map (λ to. Sends to b k) (l.destinations p (lacking missing rs k))) (λ k. to_all_of b k (l.destinations p (lacking missing rs k))) (below (chunk_total p b))

  -- a Block Get is among them
  abbrev pub is_get : Item → Bool
  is_get (Says to request) = true
  is_get (Sends to b k) = false

  abbrev pub has_get : List Item → Bool
  has_get is = list_any is_get is

  pub left_append : (xs ys : List Item) → AllLeft xs → AllLeft ys → AllLeft (xs ++ ys)
  left_append [] ys h k = k
  left_append (x ∷ xs) ys h k = (h.0, left_append xs ys h.1 k)

  pub left_split : (xs ys : List Item) → AllLeft (xs ++ ys) → AllLeft xs × AllLeft ys
  left_split [] ys h = (tt, h)
  left_split (x ∷ xs) ys h = let r = left_split xs ys h.1 in ((h.0, r.0), r.1)

  one_first : (b : Bool) (x : Item) (xs : List Item) → IsLeft x → AllLeft xs → AllLeft (first_if b x xs)
  one_first true x xs h k = (h, k)
  one_first false x xs h k = k

  pub mine_left : (xs : List Item) → AllLeft xs → AllLeft (mine xs)
  mine_left [] h = tt
  mine_left (x ∷ xs) h = one_first (reaches (is_to x) config) x (mine xs) h.0 (mine_left xs h.1)

  to_all : (b k : ℕ) (tos : List ℕ) → AllLeft (map (λ to. Sends to b k) tos)
  to_all b k [] = tt
  to_all b k (to ∷ tos) = (tt, to_all b k tos)

  flat_left : (f : ℕ → List Item) → ((k : ℕ) → AllLeft (f k)) → (ks : List ℕ) → AllLeft (flat_map f ks)
  flat_left f h [] = tt
  flat_left f h (k ∷ ks) = left_append (f k) (flat_map f ks) (h k) (flat_left f h ks)

  pub chunks_are_left : (p : Sending) (b : ℕ) (missing : Receiver → List Bool) (rs : List Receiver) → AllLeft (chunk_items p b missing rs)
  chunks_are_left p b missing rs =
      flat_left (λ k. map (λ to. Sends to b k) (l.destinations p (lacking missing rs k))) (λ k. to_all b k (l.destinations p (lacking missing rs k))) (below (chunk_total p b))

  -- without a group, a chunk that it misses
  own_elsewhere : (b k : ℕ) (xs : List Receiver) → AllByRecursion Elsewhere xs → mine (map (λ to. Sends to b k) (lacking missing_of xs k)) ≡ []
  own_elsewhere b k [] h = refl
  own_elsewhere b k (x ∷ xs) h = by_case (lacks_chunk missing_of k x) (own_elsewhere b k xs h.1)
    where
      by_case : (z : Bool) → mine (map (λ to. Sends to b k) (lacking missing_of xs k)) ≡ [] → mine (map (λ to. Sends to b k) (l.lacking_if x.row.address z ++ lacking missing_of xs k)) ≡ []
      by_case true e = ap (λ y. first_if y (Sends x.row.address b k) (mine (map (λ to. Sends to b k) (lacking missing_of xs k)))) h.0 ∙ e
      by_case false e = e

  pub own_here : (b k : ℕ) (r : Receiver) (xs : List Receiver) → Here r xs → reaches r.row.address config ≡ true → lacks_chunk missing_of k r ≡ true
      → mine (map (λ to. Sends to b k) (lacking missing_of xs k)) ≡ Sends r.row.address b k ∷ []
  own_here b k r [] h e misses = absurd h
  own_here b k r (x ∷ xs) (inl h) e misses =
      ap (λ z. mine (map (λ to. Sends to b k) (l.lacking_if x.row.address z ++ lacking missing_of xs k))) (ap (lacks_chunk missing_of k) h.0 ∙ misses)
      ∙ (ap (λ (z : Receiver). first_if (reaches z.row.address config) (Sends z.row.address b k) (mine (map (λ to. Sends to b k) (lacking missing_of xs k)))) h.0
      ∙ (ap (λ z. first_if z (Sends r.row.address b k) (mine (map (λ to. Sends to b k) (lacking missing_of xs k)))) e
      ∙ ap (λ is. Sends r.row.address b k ∷ is) (own_elsewhere b k xs h.1)))
  own_here b k r (x ∷ xs) (inr h) e misses = by_case (lacks_chunk missing_of k x) (own_here b k r xs h.1 e misses)
    where
      by_case : (z : Bool) → mine (map (λ to. Sends to b k) (lacking missing_of xs k)) ≡ Sends r.row.address b k ∷ []
          → mine (map (λ to. Sends to b k) (l.lacking_if x.row.address z ++ lacking missing_of xs k)) ≡ Sends r.row.address b k ∷ []
      by_case true s = ap (λ y. first_if y (Sends x.row.address b k) (mine (map (λ to. Sends to b k) (lacking missing_of xs k)))) h.0 ∙ s
      by_case false s = s

  -- of lists, one for each number, what goes to the node
  pub mine_flat : (f : ℕ → List Item) (g : ℕ → Item) (m i : ℕ) → ((k : ℕ) → i ≤ k → k < i + m → mine (f k) ≡ g k ∷ []) → mine (flat_map f (range_with_len i m)) ≡ map g (range_with_len i m)
  mine_flat f g zero i h = refl
  mine_flat f g (suc m) i h =
      mine_append (f i) (flat_map f (range_with_len (i + 1) m))
      ∙ (ap (λ is. is ++ mine (flat_map f (range_with_len (i + 1) m))) (h i (omega arith) (omega arith))
      ∙ ap (λ is. g i ∷ is) (mine_flat f g m (i + 1) (λ k low high. h k (omega (arith, low)) (omega (arith, high)))))
