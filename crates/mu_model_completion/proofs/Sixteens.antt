-- The chunks of a block, sixteen a turn, to a target that reaches every node.
use Rattle.std.proofs.Common.{◌≡◌, ◌<◌, ◌≤◌, ◌+◌, ◌-◌, ◌*◌, ◌==◌, ℕ, zero, suc, List, [], ◌∷◌, refl, sym, ap, ◌∙◌, subst, true, arith, map, min, length, take, drop}
use Rattle.std.specs.Prelude.{◌&&◌, ◌||◌, not}
use Rattle.std.specs.List.{range_with_len, AllByRecursion}
use Rattle.mu_model_image.specs.declared.Meta.{Meta}
use Rattle.mu_model_wire.specs.Reports.{every_number}
use Rattle.mu_model_node.specs.declared.NodeConfig.{NodeConfig}
use Rattle.mu_model_client.specs.declared.Sending.{Sending}
use Rattle.mu_model_client.specs.Client.{Item, Sends, At, Chunks, chunk_total}
use Rattle.mu_model_client.specs.Lists.{sent_for}
use Rattle.mu_model_client_laws.specs.Laws.{KeepsPlan, FieldsAreRead}
use Rattle.mu_model_completion.specs.Turn.{Member, asked_by, turn}
use Rattle.mu_model_completion.proofs.Pairs.{Pair, answered_by, pair_if, pair_item, pair_items, pair_time, items_config}
use Rattle.mu_model_completion.proofs.Nodes.{asks}
use Rattle.mu_model_completion.proofs.Receivers.{view, rcv}
use Rattle.mu_model_completion.proofs.Stations.{Within, at_once, by_turn, Station, sent_all, turn_in, turn_rest}
use Rattle.mu_model_completion.proofs.Asking.{configs}
use Rattle.mu_model_completion.proofs.First.{Good, Row}
use Rattle.mu_model_completion.proofs.Pieces.{lacking_from}
use Rattle.mu_model_completion.proofs.Chunked.{IsChunked as Pieces_of, Chunking as Chunking_of, ChunksSent as Sent_of}
use Rattle.mu_model_completion.proofs.Blocks.{Tiles, chunk_request, chunked_longer, chunk_taken, in_block_later}

-- ---- ranges

pub take_range : {A : Type 0} (g : ℕ → A) (m n i : ℕ) → take m (map g (range_with_len i n)) ≡ map g (range_with_len i (min m n))
take_range g zero n i = let e : min 0 n ≡ 0 = omega arith in rw e refl
take_range g (suc m) zero i = let e : min (suc m) 0 ≡ 0 = omega arith in rw e refl
take_range g (suc m) (suc n) i = let e : min (suc m) (suc n) ≡ suc (min m n) = omega arith in rw e (ap (λ xs. g i ∷ xs) (take_range g m n (i + 1)))

pub drop_range : {A : Type 0} (g : ℕ → A) (m n i : ℕ) → drop m (map g (range_with_len i n)) ≡ map g (range_with_len (i + min m n) (n - min m n))
drop_range g zero n i = let e : i + min 0 n ≡ i = omega arith in let f : n - min 0 n ≡ n = omega arith in rw (e, f) refl
drop_range g (suc m) zero i = let f : 0 - min (suc m) 0 ≡ 0 = omega arith in rw f refl
drop_range g (suc m) (suc n) i =
    let e : i + min (suc m) (suc n) ≡ i + 1 + min m n = omega arith in
    let f : suc n - min (suc m) (suc n) ≡ n - min m n = omega arith in
    rw (e, f) (drop_range g m n (i + 1))

-- a packet to this target reaches a node
abbrev pub Reaches : ℕ → NodeConfig → Type 0
Reaches to c = ((to == c.address) || (not (c.group == 0) && (to == c.group))) ≡ true

module _ (laws : KeepsPlan) (fields : FieldsAreRead) (tiles : Tiles) (p : Sending) (meta : Meta) (config : NodeConfig) (image : List ℕ) (blocks : ℕ) (good : Good p blocks) (most : ℕ) (few : 4 * most < 99)
    (whole : length image ≡ p.size) (chunk_some : 0 < p.chunk) (to b n c : ℕ) (total : chunk_total p b ≡ suc c) where
  abbrev u : ℕ
  u = config.address

  abbrev pub IsChunked : ℕ → ℕ → ℕ → Pair → Type 0
  IsChunked k rem a x = Pieces_of laws fields tiles p meta config image blocks good most few whole chunk_some b n c total k rem a x

  abbrev Chunking : ℕ → ℕ → Pair → Type 0
  Chunking k rem x = Chunking_of laws fields tiles p meta config image blocks good most few whole chunk_some b n c total k rem x

  abbrev ChunksSent : List NodeConfig → List Member → Type 0
  ChunksSent cs xs = Sent_of laws fields tiles p meta config image blocks good most few whole chunk_some b n c total cs xs

  abbrev items_at : List Item → Pair → Pair
  items_at items x = pair_items (view p meta (Chunks b)) u (sent_all laws p meta config image items) x

  abbrev pub chunks_from : ℕ → ℕ → List Item
  chunks_from k rem = map (λ i. Sends to b i) (range_with_len k rem)

  -- one chunk
  one : (k rem a : ℕ) (x : Pair) → Reaches to x.config → k + suc rem ≡ suc c → IsChunked k (suc rem) a x
      → IsChunked (suc k) rem 0 (pair_item (view p meta (Chunks b)) u (asked_by u (sent_for p image (Sends to b k))) x)
      × ((pair_item (view p meta (Chunks b)) u (asked_by u (sent_for p image (Sends to b k))) x).r ≡ x.r)
  one k rem a x reached sum h =
      let t = chunk_taken fields tiles p meta image u blocks good most few whole chunk_some b n c total k x a rem sum h in
      let e : pair_item (view p meta (Chunks b)) u (asked_by u (sent_for p image (Sends to b k))) x ≡ answered_by (view p meta (Chunks b)) u x (asks x.n u (chunk_request fields tiles p meta image u blocks good most few whole chunk_some b k) x.moment) =
      ap (λ z. pair_if (view p meta (Chunks b)) u (asked_by u (sent_for p image (Sends to b k))) x z) reached in
      (subst (IsChunked (suc k) rem 0) (sym e) t.0, ap (λ (y : Pair). y.r) e ∙ t.1)

  pub record Row_of (k rem a : ℕ) (x y : Pair) : Type 0 where
    pub node : IsChunked k rem a y
    pub same : y.r ≡ x.r
    pub place : y.config ≡ x.config

  -- many chunks
  pub in_a_row : (j k rem a : ℕ) (x : Pair) → Reaches to x.config → k + rem ≡ suc c → j ≤ rem → IsChunked k rem a x → Row_of (k + j) (rem - j) a x (items_at (chunks_from k j) x)
  in_a_row zero k rem a x reached sum le h =
      let e : k ≡ k + 0 = omega arith in
      let f : rem ≡ rem - 0 = omega arith in
      record { node = subst (λ i. IsChunked i (rem - 0) a x) e (subst (λ i. IsChunked k i a x) f h); same = refl; place = refl }
  in_a_row (suc j) k zero a x reached sum le h = absurd (omega (arith, le))
  in_a_row (suc j) k (suc rem) a x reached sum le h =
      let y : Pair = pair_item (view p meta (Chunks b)) u (asked_by u (sent_for p image (Sends to b k))) x in
      let t = one k rem a x reached sum h in
      let stays : y.config ≡ x.config = items_config (view p meta (Chunks b)) u (asked_by u (sent_for p image (Sends to b k)) ∷ []) x in
      let next : IsChunked (suc k) rem a y = chunked_longer fields tiles p meta image u blocks good most few whole chunk_some b n (suc k) rem 0 a y (omega arith) t.0 in
      let from : k + 1 ≡ suc k = omega arith in
      let r = in_a_row j (suc k) rem a y (subst (Reaches to) (sym stays) reached) (omega (arith, sum)) (omega (arith, le)) next in
      let e : suc k + j ≡ k + suc j = omega arith in
      let f : rem - j ≡ suc rem - suc j = omega arith in
      let z : Pair = items_at (chunks_from (k + 1) j) y in
      let same_items : items_at (chunks_from (suc k) j) y ≡ z = ap (λ i. items_at (chunks_from i j) y) (sym from) in
      record {
        node = subst (λ i. IsChunked i (suc rem - suc j) a z) e (subst (λ i. IsChunked (suc k + j) i a z) f (subst (IsChunked (suc k + j) (rem - j) a) same_items r.node));
        same = ap (λ (w : Pair). w.r) (sym same_items) ∙ (r.same ∙ t.1);
        place = ap (λ (w : Pair). w.config) (sym same_items) ∙ (r.place ∙ stays);
      }

  -- the first one is heard, so that the age is none
  pub heard_now : (j k rem a : ℕ) (x : Pair) → Reaches to x.config → k + suc rem ≡ suc c → j ≤ rem → IsChunked k (suc rem) a x → Row_of (k + suc j) (suc rem - suc j) 0 x (items_at (chunks_from k (suc j)) x)
  heard_now j k rem a x reached sum le h =
      let y : Pair = pair_item (view p meta (Chunks b)) u (asked_by u (sent_for p image (Sends to b k))) x in
      let t = one k rem a x reached sum h in
      let stays : y.config ≡ x.config = items_config (view p meta (Chunks b)) u (asked_by u (sent_for p image (Sends to b k)) ∷ []) x in
      let from : k + 1 ≡ suc k = omega arith in
      let r = in_a_row j (suc k) rem 0 y (subst (Reaches to) (sym stays) reached) (omega (arith, sum)) le t.0 in
      let e : suc k + j ≡ k + suc j = omega arith in
      let f : rem - j ≡ suc rem - suc j = omega arith in
      let z : Pair = items_at (chunks_from (k + 1) j) y in
      let same_items : items_at (chunks_from (suc k) j) y ≡ z = ap (λ i. items_at (chunks_from i j) y) (sym from) in
      record {
        node = subst (λ i. IsChunked i (suc rem - suc j) 0 z) e (subst (λ i. IsChunked (suc k + j) i 0 z) f (subst (IsChunked (suc k + j) (rem - j) 0) same_items r.node));
        same = ap (λ (w : Pair). w.r) (sym same_items) ∙ (r.same ∙ t.1);
        place = ap (λ (w : Pair). w.config) (sym same_items) ∙ (r.place ∙ stays);
      }

  -- ---- a turn

  abbrev turned_pair : ℕ → ℕ → Pair → Pair
  turned_pair k j x = turn_in laws p meta config image (Chunks b) (chunks_from k j) x

  a_turn : (j k rem : ℕ) (x : Pair) → Reaches to x.config → k + suc rem ≡ suc c → j ≤ rem → Chunking k (suc rem) x
      → Chunking (k + suc j) (suc rem - suc j) (turned_pair k (suc j) x) × ((turned_pair k (suc j) x).config ≡ x.config)
  a_turn j k rem x reached sum le h =
      let t = in_block_later fields tiles p meta image u blocks good most few whole chunk_some (view p meta (Chunks b)) x b n k (suc rem) (3 * most) (omega (arith, few)) h.1 in
      let y : Pair = pair_time (view p meta (Chunks b)) u x in
      let r = heard_now j k rem (suc (3 * most)) y reached sum le t.0 in
      let row : Row 2 (lacking_from b (suc n)) (every_number (suc c)) true (turned_pair k (suc j) x) =
      record { r_is = r.same ∙ (t.1 ∙ (h.0.r_is ∙ ap (λ (s : NodeConfig). rcv s.address 2 (lacking_from b (suc n)) (every_number (suc c)) true) (sym r.place))) } in
      ((row, chunked_longer fields tiles p meta image u blocks good most few whole chunk_some b n (k + suc j) (suc rem - suc j) 0 (3 * most) (turned_pair k (suc j) x) (omega arith) r.node), r.place)

  all_turn : (j k rem : ℕ) (ps : List Pair) → AllByRecursion (Reaches to) (configs ps) → k + suc rem ≡ suc c → j ≤ rem → AllByRecursion (Chunking k (suc rem)) ps
      → AllByRecursion (Chunking (k + suc j) (suc rem - suc j)) (map (turned_pair k (suc j)) ps) × (configs (map (turned_pair k (suc j)) ps) ≡ configs ps)
  all_turn j k rem [] reached sum le h = (tt, refl)
  all_turn j k rem (x ∷ ps) reached sum le h =
      let t = a_turn j k rem x reached.0 sum le h.0 in
      let r = all_turn j k rem ps reached.1 sum le h.1 in
      ((t.0, r.0), cons_same t.1 r.1)
    where
      cons_same : {x y : NodeConfig} {xs ys : List NodeConfig} → x ≡ y → xs ≡ ys → (x ∷ xs) ≡ (y ∷ ys)
      cons_same e f = rw (e, f) refl

  -- ---- until all chunks are sent

  pub finish_chunks : (m k rem : ℕ) (ps : List Pair) (xs : List Member) → Station laws p meta config image (At (Chunks b)) (chunks_from k rem) ps xs
      → AllByRecursion (Reaches to) (configs ps) → k + rem ≡ suc c → AllByRecursion (Chunking k rem) ps → rem ≤ 16 * m → Within m (ChunksSent (configs ps)) xs
  finish_chunks m k zero ps xs s reached sum h le =
      let e : k ≡ suc c = omega (arith, sum) in
      at_once m (ChunksSent (configs ps)) xs (record { qs = ps; station = s; all = subst (λ i. AllByRecursion (Chunking i 0) ps) e h; same = refl })
  finish_chunks zero k (suc rem) ps xs s reached sum h le = absurd (omega (arith, le))
  finish_chunks (suc m) k (suc rem) ps xs s reached sum h le =
      let j : ℕ = min 15 rem in
      let count : min 16 (suc rem) ≡ suc j = omega arith in
      let now : take 16 (chunks_from k (suc rem)) ≡ chunks_from k (suc j) = take_range (λ i. Sends to b i) 16 (suc rem) k ∙ ap (λ i. chunks_from k i) count in
      let later : drop 16 (chunks_from k (suc rem)) ≡ chunks_from (k + suc j) (suc rem - suc j) =
      drop_range (λ i. Sends to b i) 16 (suc rem) k ∙ ap (λ i. chunks_from (k + i) (suc rem - i)) count in
      let t = all_turn j k rem ps reached sum (omega arith) h in
      let next : Station laws p meta config image (At (Chunks b)) (drop 16 (chunks_from k (suc rem))) (map (turn_in laws p meta config image (Chunks b) (take 16 (chunks_from k (suc rem)))) ps) (turn xs) =
      turn_rest laws p meta config image (Chunks b) (Sends to b k) (chunks_from (k + 1) rem) ps xs s (λ began moment. refl) in
      let here : Station laws p meta config image (At (Chunks b)) (chunks_from (k + suc j) (suc rem - suc j)) (map (turned_pair k (suc j)) ps) (turn xs) =
      subst (λ items. Station laws p meta config image (At (Chunks b)) items (map (turned_pair k (suc j)) ps) (turn xs)) later
      (subst (λ items. Station laws p meta config image (At (Chunks b)) (drop 16 (chunks_from k (suc rem))) (map (turn_in laws p meta config image (Chunks b) items) ps) (turn xs)) now next) in
      let done = finish_chunks m (k + suc j) (suc rem - suc j) (map (turned_pair k (suc j)) ps) (turn xs) here (subst (AllByRecursion (Reaches to)) (sym t.1) reached) (omega (arith, sum)) t.0 (omega (arith, le)) in
      by_turn m (ChunksSent (configs ps)) xs (record { turns = done.turns; few = done.few; then_is = (let f = done.then_is in record { qs = f.qs; station = f.station; all = f.all; same = f.same ∙ t.1 }) })

  -- the whole step, from the turn in which it begins
  pub begin_chunks : (m : ℕ) (ps : List Pair) (ys : List Member) (list : List Item) → list ≡ chunks_from 0 (suc c)
      → Station laws p meta config image (At (Chunks b)) (drop 16 list) (map (turn_in laws p meta config image (Chunks b) (take 16 list)) ps) ys
      → AllByRecursion (Reaches to) (configs ps) → AllByRecursion (Chunking 0 (suc c)) ps → suc c ≤ 16 * suc m → Within m (ChunksSent (configs ps)) ys
  begin_chunks m ps ys list is s reached h le =
      let j : ℕ = min 15 c in
      let count : min 16 (suc c) ≡ suc j = omega arith in
      let now : take 16 (chunks_from 0 (suc c)) ≡ chunks_from 0 (suc j) = take_range (λ i. Sends to b i) 16 (suc c) 0 ∙ ap (λ i. chunks_from 0 i) count in
      let later : drop 16 (chunks_from 0 (suc c)) ≡ chunks_from (0 + suc j) (suc c - suc j) =
      drop_range (λ i. Sends to b i) 16 (suc c) 0 ∙ ap (λ i. chunks_from (0 + i) (suc c - i)) count in
      let t = all_turn j 0 c ps reached (omega arith) (omega arith) h in
      let same : Station laws p meta config image (At (Chunks b)) (drop 16 (chunks_from 0 (suc c))) (map (turn_in laws p meta config image (Chunks b) (take 16 (chunks_from 0 (suc c)))) ps) ys =
      subst (λ items. Station laws p meta config image (At (Chunks b)) (drop 16 items) (map (turn_in laws p meta config image (Chunks b) (take 16 items)) ps) ys) is s in
      let here : Station laws p meta config image (At (Chunks b)) (chunks_from (0 + suc j) (suc c - suc j)) (map (turned_pair 0 (suc j)) ps) ys =
      subst (λ items. Station laws p meta config image (At (Chunks b)) items (map (turned_pair 0 (suc j)) ps) ys) later
      (subst (λ items. Station laws p meta config image (At (Chunks b)) (drop 16 (chunks_from 0 (suc c))) (map (turn_in laws p meta config image (Chunks b) items) ps) ys) now same) in
      let done = finish_chunks m (0 + suc j) (suc c - suc j) (map (turned_pair 0 (suc j)) ps) ys here (subst (AllByRecursion (Reaches to)) (sym t.1) reached) (omega arith) t.0 (omega (arith, le)) in
      record { turns = done.turns; few = done.few; then_is = (let f = done.then_is in record { qs = f.qs; station = f.station; all = f.all; same = f.same ∙ t.1 }) }
