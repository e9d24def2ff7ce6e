-- The chunks of a block without a group: a packet to each receiver that misses a chunk, chunk by chunk.
use Rattle.std.proofs.Common.{◌≡◌, ◌⊎◌, inl, inr, ◌<◌, ◌≤◌, ◌+◌, ◌-◌, ◌*◌, ◌==◌, ℕ, zero, suc, List, [], ◌∷◌, ◌++◌, refl, sym, ap, ◌∙◌, subst, true, false, Bool, arith, map, min, length, take, drop, length-append}
use Rattle.std.specs.Prelude.{◌&&◌, ◌||◌, not, if◌then◌else◌}
use Rattle.std.specs.List.{range_with_len, AllByRecursion}
use Rattle.std.proofs.lemmas.List.{length-drop}
use Rattle.std.proofs.lemmas.Bool.{eq-eqb}
use Rattle.mu_model_image.specs.declared.Meta.{Meta}
use Rattle.mu_model_wire.specs.Reports.{has, every_number}
use Rattle.mu_model_node.specs.declared.NodeConfig.{NodeConfig}
use Rattle.mu_model_client.specs.declared.Sending.{Sending}
use Rattle.mu_model_client.specs.Client.{Client, Item, Says, Sends, At, Chunks, chunk_total}
use Rattle.mu_model_client.specs.Lists.{sent_for}
use Rattle.mu_model_client_laws.specs.Laws.{KeepsPlan, FieldsAreRead}
use Rattle.mu_model_completion.specs.Turn.{Member, asked_by, turn}
use Rattle.mu_model_completion.proofs.Pairs.{Pair, pair_if, pair_items, pair_time, items_config}
use Rattle.mu_model_completion.proofs.Receivers.{view, rcv}
use Rattle.mu_model_completion.proofs.Stations.{Within, at_once, by_turn, Station, sent_all, turn_in, turn_rest}
use Rattle.mu_model_completion.proofs.Asking.{configs, Misses, is_to}
use Rattle.mu_model_completion.proofs.First.{Good, Row}
use Rattle.mu_model_completion.proofs.Pieces.{lacking_from}
use Rattle.mu_model_completion.proofs.Blocks.{Tiles, chunked_longer, in_block_later, has_later}
use Rattle.mu_model_completion.proofs.Chunked.{IsChunked, Chunking, ChunksSent}
use Rattle.mu_model_completion.proofs.Sixteens.{Reaches, take_range, drop_range, heard_now}

-- ---- what of a list goes to an address, and how soon

abbrev pub own : ℕ → List Item → List Item
own a [] = []
own a (i ∷ is) = if is_to i == a then (i ∷ own a is) else own a is

-- packets before the first one to this address, or all
abbrev pub first : ℕ → List Item → ℕ
first a [] = 0
first a (i ∷ is) = if is_to i == a then 0 else suc (first a is)

-- wherever in the list, the next one comes within so many, or the list ends within so many
abbrev pub Often : ℕ → ℕ → List Item → Type 0
Often a g [] = Unit {0}
Often a g (i ∷ is) = (first a (i ∷ is) ≤ g) × Often a g is

-- each packet goes to this node by its address, or misses it
abbrev pub Sorted : NodeConfig → List Item → Type 0
Sorted c is = AllByRecursion (λ (i : Item). (is_to i ≡ c.address) ⊎ Misses (is_to i) c) is

pub often_drop : (a g k : ℕ) (is : List Item) → Often a g is → Often a g (drop k is)
often_drop a g zero is h = h
often_drop a g (suc k) [] h = h
often_drop a g (suc k) (i ∷ is) h = often_drop a g k is h.1

pub often_first : (a g : ℕ) (is : List Item) → Often a g is → first a is ≤ g
often_first a g [] h = omega arith
often_first a g (i ∷ is) h = h.0

all_take : {A : Type 0} (P : A → Type 0) (k : ℕ) (xs : List A) → AllByRecursion P xs → AllByRecursion P (take k xs)
all_take P zero xs h = tt
all_take P (suc k) [] h = tt
all_take P (suc k) (x ∷ xs) h = (h.0, all_take P k xs h.1)

all_drop : {A : Type 0} (P : A → Type 0) (k : ℕ) (xs : List A) → AllByRecursion P xs → AllByRecursion P (drop k xs)
all_drop P zero xs h = h
all_drop P (suc k) [] h = tt
all_drop P (suc k) (x ∷ xs) h = all_drop P k xs h.1

pub own_append : (a : ℕ) (xs ys : List Item) → own a (xs ++ ys) ≡ own a xs ++ own a ys
own_append a [] ys = refl
own_append a (x ∷ xs) ys = by_case (is_to x == a) (own_append a xs ys)
  where
    by_case : (b : Bool) → own a (xs ++ ys) ≡ own a xs ++ own a ys → (if b then (x ∷ own a (xs ++ ys)) else own a (xs ++ ys)) ≡ (if b then (x ∷ own a xs) else own a xs) ++ own a ys
    by_case true h = ap (λ zs. x ∷ zs) h
    by_case false h = h

take_and_drop : {A : Type 0} (k : ℕ) (xs : List A) → take k xs ++ drop k xs ≡ xs
take_and_drop zero xs = refl
take_and_drop (suc k) [] = refl
take_and_drop (suc k) (x ∷ xs) = ap (λ ys. x ∷ ys) (take_and_drop k xs)

take_whole : {A : Type 0} (xs ys : List A) → take (length xs) (xs ++ ys) ≡ xs
take_whole [] ys = refl
take_whole (x ∷ xs) ys = ap (λ zs. x ∷ zs) (take_whole xs ys)

drop_whole : {A : Type 0} (xs ys : List A) → drop (length xs) (xs ++ ys) ≡ ys
drop_whole [] ys = refl
drop_whole (x ∷ xs) ys = drop_whole xs ys

-- where none of the first k goes there, the next one is nearer by k, or the list ends
nearer : (a k : ℕ) (is : List Item) → own a (take k is) ≡ [] → (first a (drop k is) + k ≡ first a is) ⊎ ((drop k is ≡ []) × (first a is ≤ k))
nearer a zero is h = inl (omega arith)
nearer a (suc k) [] h = inr (refl, omega arith)
nearer a (suc k) (i ∷ is) h = by_case (is_to i == a) h (nearer a k is)
  where
    cons_nil : (x : Item) (xs : List Item) → (x ∷ xs) ≡ [] → ⊥
    cons_nil x xs e = grind (arith, e)

    by_case : (b : Bool) → (if b then (i ∷ own a (take k is)) else own a (take k is)) ≡ []
        → (own a (take k is) ≡ [] → (first a (drop k is) + k ≡ first a is) ⊎ ((drop k is ≡ []) × (first a is ≤ k)))
        → (first a (drop k is) + suc k ≡ (if b then 0 else suc (first a is))) ⊎ ((drop k is ≡ []) × ((if b then 0 else suc (first a is)) ≤ suc k))
    by_case true e r = absurd (cons_nil i (own a (take k is)) e)
    by_case false e r = elim (r e) [
      | inl s ↦ inl (omega (arith, s))
      | inr t ↦ (let l = t.1 in inr (t.0, omega (arith, l)))
    ]

module _ (laws : KeepsPlan) (fields : FieldsAreRead) (tiles : Tiles) (p : Sending) (meta : Meta) (config : NodeConfig) (image : List ℕ) (blocks : ℕ) (good : Good p blocks) (most : ℕ) (few : 4 * most < 99)
    (whole : length image ≡ p.size) (chunk_some : 0 < p.chunk) (b n c : ℕ) (total : chunk_total p b ≡ suc c) (sum : b + suc n ≡ suc blocks) (most_some : 1 ≤ most) where
  abbrev u : ℕ
  u = config.address

  abbrev items_at : List Item → Pair → Pair
  items_at items x = pair_items (view p meta (Chunks b)) u (sent_all laws p meta config image items) x

  abbrev Piece : ℕ → ℕ → ℕ → Pair → Type 0
  Piece k rem a x = IsChunked laws fields tiles p meta config image blocks good most few whole chunk_some b n c total k rem a x

  abbrev chunks_to : ℕ → ℕ → ℕ → List Item
  chunks_to to k rem = map (λ i. Sends to b i) (range_with_len k rem)

  -- ---- only what goes there counts

  skips : (i : Item) (is : List Item) (x : Pair) → Misses (is_to i) x.config → items_at (i ∷ is) x ≡ items_at is x
  skips (Says to request) is x h = ap (λ z. items_at is (pair_if (view p meta (Chunks b)) u (asked_by u (to, request)) x z)) h
  skips (Sends to e k) is x h = ap (λ z. items_at is (pair_if (view p meta (Chunks b)) u (asked_by u (sent_for p image (Sends to e k))) x z)) h

  or_first : (x y : Bool) → (x || y) ≡ false → x ≡ false
  or_first true y h = h
  or_first false y h = refl

  only_own : (is : List Item) (x : Pair) → Sorted x.config is → items_at is x ≡ items_at (own x.config.address is) x
  only_own [] x h = refl
  only_own (i ∷ is) x h = elim h.0 [
    | inl e ↦ (
        let y : Pair = items_at (i ∷ []) x in
        let stays : y.config ≡ x.config = items_config (view p meta (Chunks b)) u (sent_all laws p meta config image (i ∷ [])) x in
        let rest = only_own is y (subst (λ z. Sorted z is) (sym stays) h.1) in
        rest ∙ (ap (λ (z : NodeConfig). items_at (own z.address is) y) stays ∙ ap (λ z. items_at (if z then (i ∷ own x.config.address is) else own x.config.address is) x) (sym (eq-eqb (is_to i) x.config.address e))))
    | inr m ↦ skips i is x m ∙ (only_own is x h.1 ∙ ap (λ z. items_at (if z then (i ∷ own x.config.address is) else own x.config.address is) x) (sym (or_first (is_to i == x.config.address) (not (x.config.group == 0) && (is_to i == x.config.group)) m)))
  ]

  -- ---- a pair, with the rest of the list

  pub record Waiting (cfg : NodeConfig) (list : List Item) (x : Pair) : Type 0 where
    pub row : Row 2 (lacking_from b (suc n)) (every_number (suc c)) true x
    pub k : ℕ
    pub rem : ℕ
    pub age : ℕ
    pub its : own cfg.address list ≡ chunks_to cfg.address k rem
    pub all : k + rem ≡ suc c
    pub node : Piece k rem age x
    pub soon : 16 * age + first cfg.address list ≤ 32 * most
    pub often : Often cfg.address (16 * most) list
    pub sorted : Sorted cfg list

  -- ---- time

  piece_later : (v : Client) (x : Pair) (k rem a : ℕ) → a < 99 → Piece k rem a x → Piece k rem (suc a) (pair_time v u x) × ((pair_time v u x).r ≡ x.r)
  piece_later v x k zero a lt h = has_later fields tiles p meta image u blocks good most few whole chunk_some v x b n a sum lt h
  piece_later v x k (suc rem) a lt h = in_block_later fields tiles p meta image u blocks good most few whole chunk_some v x b n k (suc rem) a lt h

  -- ---- a turn

  abbrev turned_pair : List Item → Pair → Pair
  turned_pair list x = turn_in laws p meta config image (Chunks b) (take 16 list) x

  -- the first sixteen have so many for it
  record Split (a k rem : ℕ) (list : List Item) : Type 0 where
    j : ℕ
    few_j : j ≤ rem
    now : own a (take 16 list) ≡ chunks_to a k j
    later : own a (drop 16 list) ≡ chunks_to a (k + j) (rem - j)

  range_length : (g : ℕ → Item) (m i : ℕ) → length (map g (range_with_len i m)) ≡ m
  range_length g zero i = refl
  range_length g (suc m) i = ap suc (range_length g m (i + 1))

  splits : (a k rem : ℕ) (list : List Item) → own a list ≡ chunks_to a k rem → Split a k rem list
  splits a k rem list e =
      let xs : List Item = own a (take 16 list) in
      let ys : List Item = own a (drop 16 list) in
      let both : xs ++ ys ≡ chunks_to a k rem = sym (own_append a (take 16 list) (drop 16 list)) ∙ (ap (own a) (take_and_drop 16 list) ∙ e) in
      let long : length xs ≤ rem = shorter xs ys (chunks_to a k rem) rem both (range_length (λ i. Sends a b i) rem k) in
      let least : min (length xs) rem ≡ length xs = omega (arith, long) in
      record {
        j = length xs;
        few_j = long;
        now = sym (take_whole xs ys) ∙ (ap (take (length xs)) both ∙ (take_range (λ i. Sends a b i) (length xs) rem k ∙ ap (λ m. chunks_to a k m) least));
        later = sym (drop_whole xs ys) ∙ (ap (drop (length xs)) both ∙ (drop_range (λ i. Sends a b i) (length xs) rem k ∙ ap (λ m. chunks_to a (k + m) (rem - m)) least));
      }
    where
      shorter : (xs ys zs : List Item) (m : ℕ) → xs ++ ys ≡ zs → length zs ≡ m → length xs ≤ m
      shorter xs ys zs m e l = let h = length-append xs ys in let k = ap (length {A = Item}) e in omega (arith, h, k, l)

  is_first : (a : ℕ) (i : Item) (is : List Item) → own a (take 16 (i ∷ is)) ≡ [] → 1 ≤ first a (i ∷ is)
  is_first a i is h = by_case (is_to i == a) h
    where
      cons_nil : (x : Item) (xs : List Item) → (x ∷ xs) ≡ [] → ⊥
      cons_nil x xs e = grind (arith, e)

      by_case : (z : Bool) → (if z then (i ∷ own a (take 15 is)) else own a (take 15 is)) ≡ [] → 1 ≤ (if z then 0 else suc (first a is))
      by_case true e = absurd (cons_nil i (own a (take 15 is)) e)
      by_case false e = omega arith

  module _ (i : Item) (is : List Item) (x : Pair) (w : Waiting x.config (i ∷ is) x) where
    abbrev list : List Item
    list = i ∷ is

    abbrev a : ℕ
    a = x.config.address

    abbrev y : Pair
    y = pair_time (view p meta (Chunks b)) u x

    abbrev z : Pair
    z = turned_pair list x

    age_few : w.age < 99
    age_few = let s = w.soon in omega (arith, s, few)

    later_y : Piece w.k w.rem (suc w.age) y × (y.r ≡ x.r)
    later_y = piece_later (view p meta (Chunks b)) x w.k w.rem w.age age_few w.node

    record Result : Type 0 where
      place : z.config ≡ x.config
      same : z.r ≡ x.r
      k : ℕ
      rem : ℕ
      age : ℕ
      its : own a (drop 16 list) ≡ chunks_to a k rem
      all : k + rem ≡ suc c
      node : Piece k rem age z
      soon : 16 * age + first a (drop 16 list) ≤ 32 * most

    only : (j : ℕ) → own a (take 16 list) ≡ chunks_to a w.k j → z ≡ items_at (chunks_to a w.k j) y
    only j now = only_own (take 16 list) y (all_take (λ (i : Item). (is_to i ≡ x.config.address) ⊎ Misses (is_to i) x.config) 16 list w.sorted) ∙ ap (λ its. items_at its y) now

    -- none of them is for it
    none_for : own a (take 16 list) ≡ [] → own a (drop 16 list) ≡ chunks_to a w.k w.rem → Result
    none_for now later =
        let e : z ≡ y = only 0 now in
        let near = nearer a 16 list now in
        let one = is_first a i is now in
        let s = w.soon in
        record {
          place = ap (λ (q : Pair). q.config) e;
          same = ap (λ (q : Pair). q.r) e ∙ later_y.1;
          k = w.k;
          rem = w.rem;
          age = suc w.age;
          its = later;
          all = w.all;
          node = subst (Piece w.k w.rem (suc w.age)) (sym e) later_y.0;
          soon = elim near [
            | inl h ↦ omega (arith, h, s)
            | inr h ↦ (let nil : first a (drop 16 list) ≡ 0 = ap (first a) h.0 in omega (arith, nil, one, s))
          ];
        }

    -- some are
    some_for : (j rem : ℕ) → w.rem ≡ suc rem → j ≤ rem → own a (take 16 list) ≡ chunks_to a w.k (suc j) → own a (drop 16 list) ≡ chunks_to a (w.k + suc j) (w.rem - suc j) → Result
    some_for j rem has le now later =
        let e : z ≡ items_at (chunks_to a w.k (suc j)) y = only (suc j) now in
        let all : w.k + suc rem ≡ suc c = (let h = w.all in omega (arith, h, has)) in
        let node : Piece w.k (suc rem) (suc w.age) y = subst (λ m. Piece w.k m (suc w.age) y) has later_y.0 in
        let reached : Reaches a y.config = ap (λ q. q || (not (y.config.group == 0) && (a == y.config.group))) (eq-eqb a a refl) in
        let r = heard_now laws fields tiles p meta config image blocks good most few whole chunk_some a b n c total j w.k rem (suc w.age) y reached all le node in
        let after : Piece (w.k + suc j) (w.rem - suc j) 0 (items_at (chunks_to a w.k (suc j)) y) = subst (λ m. Piece (w.k + suc j) (m - suc j) 0 (items_at (chunks_to a w.k (suc j)) y)) (sym has) r.node in
        record {
          place = ap (λ (q : Pair). q.config) e ∙ r.place;
          same = ap (λ (q : Pair). q.r) e ∙ (r.same ∙ later_y.1);
          k = w.k + suc j;
          rem = w.rem - suc j;
          age = 0;
          its = later;
          all = (let h = w.all in omega (arith, h, has, le));
          node = subst (Piece (w.k + suc j) (w.rem - suc j) 0) (sym e) after;
          soon = (let f = often_first a (16 * most) (drop 16 list) (often_drop a (16 * most) 16 list w.often) in omega (arith, f));
        }

    by_split : (j : ℕ) → j ≤ w.rem → own a (take 16 list) ≡ chunks_to a w.k j → own a (drop 16 list) ≡ chunks_to a (w.k + j) (w.rem - j) → Result
    by_split zero le now later = none_for now (later ∙ (let e : w.k + 0 ≡ w.k = omega arith in let f : w.rem - 0 ≡ w.rem = omega arith in ap (λ k. chunks_to a k (w.rem - 0)) e ∙ ap (chunks_to a w.k) f))
    by_split (suc j) le now later = some_for j (w.rem - 1) (omega (arith, le)) (omega (arith, le)) now later

    result : Result
    result = let t = splits a w.k w.rem list w.its in by_split t.j t.few_j t.now t.later

    pub a_turn : Waiting z.config (drop 16 list) z × (z.config ≡ x.config)
    a_turn =
        let r = result in (
          subst (λ cfg. Waiting cfg (drop 16 list) z) (sym r.place) (record {
            row = record { r_is = r.same ∙ (w.row.r_is ∙ ap (λ (s : NodeConfig). rcv s.address 2 (lacking_from b (suc n)) (every_number (suc c)) true) (sym r.place)) };
            k = r.k;
            rem = r.rem;
            age = r.age;
            its = r.its;
            all = r.all;
            node = r.node;
            soon = r.soon;
            often = often_drop a (16 * most) 16 list w.often;
            sorted = all_drop (λ (i : Item). (is_to i ≡ x.config.address) ⊎ Misses (is_to i) x.config) 16 list w.sorted;
          }),
          r.place,
        )

  -- ---- all pairs

  abbrev pub Waits : List Item → Pair → Type 0
  Waits list x = Waiting x.config list x

  all_turn : (i : Item) (is : List Item) (ps : List Pair) → AllByRecursion (Waits (i ∷ is)) ps
      → AllByRecursion (Waits (drop 16 (i ∷ is))) (map (turned_pair (i ∷ is)) ps) × (configs (map (turned_pair (i ∷ is)) ps) ≡ configs ps)
  all_turn i is [] h = (tt, refl)
  all_turn i is (x ∷ ps) h =
      let t = a_turn i is x h.0 in
      let r = all_turn i is ps h.1 in
      ((t.0, r.0), cons_same t.1 r.1)
    where
      cons_same : {x y : NodeConfig} {xs ys : List NodeConfig} → x ≡ y → xs ≡ ys → (x ∷ xs) ≡ (y ∷ ys)
      cons_same e f = rw (e, f) refl

  -- nothing is left: it has all chunks
  nothing_left : (x : Pair) → Waits [] x → Chunking laws fields tiles p meta config image blocks good most few whole chunk_some b n c total (suc c) 0 x
  nothing_left x w =
      let none : w.rem ≡ 0 = no_rem w.k w.rem w.its in
      let all : w.k ≡ suc c = (let h = w.all in omega (arith, h, none)) in
      let s = w.soon in
      let node : Piece (suc c) 0 w.age x = subst (λ k. Piece k 0 w.age x) all (subst (λ m. Piece w.k m w.age x) none w.node) in
      (w.row, chunked_longer fields tiles p meta image u blocks good most few whole chunk_some b n (suc c) 0 w.age (3 * most) x (omega (arith, s)) node)
    where
      no_rem : (k rem : ℕ) → [] ≡ chunks_to x.config.address k rem → rem ≡ 0
      no_rem k zero e = refl
      no_rem k (suc rem) e = absurd (nil_cons e)
        where
          nil_cons : {i : Item} {is : List Item} → [] ≡ i ∷ is → ⊥
          nil_cons h = grind (arith, h)

  all_done : (ps : List Pair) → AllByRecursion (Waits []) ps → AllByRecursion (Chunking laws fields tiles p meta config image blocks good most few whole chunk_some b n c total (suc c) 0) ps
  all_done [] h = tt
  all_done (x ∷ ps) h = (nothing_left x h.0, all_done ps h.1)

  abbrev Sent_all : List NodeConfig → List Member → Type 0
  Sent_all cs xs = ChunksSent laws fields tiles p meta config image blocks good most few whole chunk_some b n c total cs xs

  finish_alone : (m : ℕ) (list : List Item) (ps : List Pair) (xs : List Member) → Station laws p meta config image (At (Chunks b)) list ps xs
      → AllByRecursion (Waits list) ps → length list ≤ 16 * m → Within m (Sent_all (configs ps)) xs
  finish_alone m [] ps xs s h le = at_once m (Sent_all (configs ps)) xs (record { qs = ps; station = s; all = all_done ps h; same = refl })
  finish_alone zero (i ∷ is) ps xs s h le = absurd (omega (arith, le))
  finish_alone (suc m) (i ∷ is) ps xs s h le =
      let t = all_turn i is ps h in
      let next = turn_rest laws p meta config image (Chunks b) i is ps xs s (λ began moment. refl) in
      let short = length-drop 16 (i ∷ is) in
      let done = finish_alone m (drop 16 (i ∷ is)) (map (turned_pair (i ∷ is)) ps) (turn xs) next t.0 (omega (arith, short, le)) in
      by_turn m (Sent_all (configs ps)) xs (record { turns = done.turns; few = done.few; then_is = (let f = done.then_is in record { qs = f.qs; station = f.station; all = f.all; same = f.same ∙ t.1 }) })

  -- the whole step, from the turn in which it begins
  pub begin_alone : (m : ℕ) (i : Item) (is : List Item) (ps : List Pair) (ys : List Member)
      → Station laws p meta config image (At (Chunks b)) (drop 16 (i ∷ is)) (map (turn_in laws p meta config image (Chunks b) (take 16 (i ∷ is))) ps) ys
      → AllByRecursion (Waits (i ∷ is)) ps → length (i ∷ is) ≤ 16 * suc m → Within m (Sent_all (configs ps)) ys
  begin_alone m i is ps ys s h le =
      let t = all_turn i is ps h in
      let short = length-drop 16 (i ∷ is) in
      let done = finish_alone m (drop 16 (i ∷ is)) (map (turned_pair (i ∷ is)) ps) ys s t.0 (omega (arith, short, le)) in
      record { turns = done.turns; few = done.few; then_is = (let f = done.then_is in record { qs = f.qs; station = f.station; all = f.all; same = f.same ∙ t.1 }) }
