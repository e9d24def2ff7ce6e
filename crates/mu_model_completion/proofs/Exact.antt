-- In push with a group and at most sixteen receivers, each step takes exactly so many turns.
use Rattle.std.proofs.Common.{◌≡◌, ◌<◌, ◌≤◌, ◌+◌, ◌-◌, ◌*◌, ℕ, zero, suc, List, [], refl, sym, ap, ◌∙◌, subst, Option, Some, None, arith, map, min, length, take, drop}
use Rattle.std.specs.List.{range_with_len, AllByRecursion}
use Rattle.mu_model_image.specs.declared.Meta.{Meta}
use Rattle.mu_model_node.specs.declared.NodeConfig.{NodeConfig}
use Rattle.mu_model_client.specs.declared.Sending.{Sending}
use Rattle.mu_model_client.specs.Client.{Item, Sends, Place, Before, At, Verified, Ended, Step, step_number, Check, Start, Information, Transfer, Block, Chunks, Pull, Get, Verify, Apply, Confirm, Cancel, chunk_total}
use Rattle.mu_model_client_laws.specs.Laws.{KeepsPlan, FieldsAreRead}
use Rattle.mu_model_completion.specs.Turn.{Member, Part, IsNode, IsUpdater, turn, settle}
use Rattle.mu_model_completion.proofs.Pairs.{Pair}
use Rattle.mu_model_completion.proofs.Stations.{Within, settle_add, Station, first_items, turn_in, turn_rest}
use Rattle.mu_model_completion.proofs.Asking.{Apart, configs}
use Rattle.mu_model_completion.proofs.First.{Good, Pushes}
use Rattle.mu_model_completion.proofs.Sixteens.{drop_range}
use Rattle.mu_model_completion.proofs.Blocks.{Tiles}
use Rattle.mu_model_completion.proofs.Chunked.{Beginning, ChunksSent}
use Rattle.mu_model_completion.proofs.Course.{Reached, Answered, First, TransferDone, checked, started, informed, transferred}
use Rattle.mu_model_completion.proofs.Middle.{EndsBlock, Between, Ended_blocks, first_between, reached_as, BD, IsChunking, GD, begun, chunks_begun, chunked, got, to_between, to_all}
use Rattle.mu_model_completion.proofs.End.{AD, verified, applied}

-- ---- one client at a time

abbrev kind : Place → ℕ
kind (Before step) = 0
kind (At step) = step_number step
kind Verified = 12
kind (Ended part) = 13

abbrev kind_of : Part → ℕ
kind_of (IsNode s) = 0
kind_of (IsUpdater c image) = kind c.place

abbrev kind_in : Option Member → ℕ
kind_in None = 0
kind_in (Some x) = kind_of x.part

abbrev left_of : Part → ℕ
left_of (IsNode s) = 0
left_of (IsUpdater c image) = length c.queue

abbrev left_in : Option Member → ℕ
left_in None = 0
left_in (Some x) = left_of x.part

module _ (laws : KeepsPlan) (fields : FieldsAreRead) (tiles : Tiles) (p : Sending) (meta : Meta) (config : NodeConfig) (image : List ℕ) (blocks : ℕ) (good : Good p blocks)
    (whole : length image ≡ p.size) (chunk_some : 0 < p.chunk) (cs : List NodeConfig) (apart : Apart cs) (some : 1 ≤ length cs) (q : ℕ) (few : 4 * q < 99) (fits : length cs ≤ 16 * q) (q_some : 1 ≤ q)
    (mc : ℕ) (counts : (b : ℕ) → b < suc blocks → (c : ℕ) × (chunk_total p b ≡ suc c))
    (sends : (b n c : ℕ) (total : chunk_total p b ≡ suc c) → b + suc n ≡ suc blocks → (bs : List Pair) (ys : List Member)
    → Station laws p meta config image (At (Chunks b)) (drop 16 (first_items laws p meta config image (Chunks b) bs)) (map (turn_in laws p meta config image (Chunks b) (take 16 (first_items laws p meta config image (Chunks b) bs))) bs) ys
    → AllByRecursion (Beginning laws fields tiles p meta config image blocks good q few whole chunk_some b n c total) bs → configs bs ≡ cs
    → Within mc (ChunksSent laws fields tiles p meta config image blocks good q few whole chunk_some b n c total cs) ys)
    (pushes : Pushes p) (q_one : q ≤ 1)
    (lists : (b n c : ℕ) (total : chunk_total p b ≡ suc c) (bs : List Pair) → AllByRecursion (Beginning laws fields tiles p meta config image blocks good q few whole chunk_some b n c total) bs → configs bs ≡ cs
    → first_items laws p meta config image (Chunks b) bs ≡ map (λ i. Sends p.group b i) (range_with_len 0 (suc c)))
    (full : (b : ℕ) → b < suc blocks → 16 * mc < chunk_total p b) where
  abbrev At_ : Place → (Pair → Type 0) → List Member → Type 0
  At_ place P xs = Reached laws fields tiles p meta config image blocks good whole chunk_some cs apart some q few fits q_some place P xs

  abbrev Done : (ℕ → Pair → Type 0) → Pair → Type 0
  Done D x = Answered laws fields tiles p meta config image blocks good whole chunk_some cs apart some q few fits q_some D x

  abbrev Between_ : ℕ → ℕ → Pair → Type 0
  Between_ b n x = Between laws fields tiles p meta config image blocks good whole chunk_some cs apart some q few fits q_some b n x

  abbrev Station_ : Place → List Item → List Pair → List Member → Type 0
  Station_ place queue ps xs = Station laws p meta config image place queue ps xs

  same_kind : (place next : Place) (queue list : List Item) (ps qs : List Pair) (xs : List Member) → Station_ place queue ps xs → Station_ next list qs xs → kind place ≡ kind next
  same_kind place next queue list ps qs xs s t = ap kind_in (sym s.holds.updater ∙ t.holds.updater)

  same_left : (place next : Place) (queue list : List Item) (ps qs : List Pair) (xs : List Member) → Station_ place queue ps xs → Station_ next list qs xs → length queue ≡ length list
  same_left place next queue list ps qs xs s t = ap left_in (sym s.holds.updater ∙ t.holds.updater)

  -- to another step in a turn at most is in a turn
  exactly : (place next : Place) (P Q : Pair → Type 0) → (kind place ≡ kind next → ⊥) → (xs : List Member) → At_ place P xs → Within q (At_ next Q) xs → At_ next Q (turn xs)
  exactly place next P Q differs xs r w = by_turns w.turns (let f = w.few in omega (arith, f, q_one)) w.then_is
    where
      by_turns : (t : ℕ) → t ≤ 1 → At_ next Q (settle t xs) → At_ next Q (turn xs)
      by_turns zero le h = absurd (differs (same_kind place next [] [] r.qs h.qs xs r.station h.station))
      by_turns (suc zero) le h = h
      by_turns (suc (suc t)) le h = absurd (omega (arith, le))

  not_same : (m n : ℕ) → m < n → m ≡ n → ⊥
  not_same m n lt e = omega (arith, lt, e)

  -- ---- four steps

  pub four_exactly : (xs : List Member) → At_ (Before Check) (First laws fields tiles p meta config image blocks good whole chunk_some cs apart some q few fits q_some) xs
      → At_ (At Transfer) (TransferDone laws fields tiles p meta config image blocks good whole chunk_some cs apart some q few fits q_some) (settle 4 xs)
  four_exactly xs r =
      let one = exactly (Before Check) (At Check) _ _ (not_same 0 1 (omega arith)) xs r (checked laws fields tiles p meta config image blocks good whole chunk_some cs apart some q few fits q_some xs r) in
      let two = exactly (At Check) (At Start) _ _ (not_same 1 2 (omega arith)) (settle 1 xs) one (started laws fields tiles p meta config image blocks good whole chunk_some cs apart some q few fits q_some (settle 1 xs) one) in
      let three = exactly (At Start) (At Information) _ _ (not_same 2 3 (omega arith)) (settle 2 xs) two (informed laws fields tiles p meta config image blocks good whole chunk_some cs apart some q few fits q_some (settle 2 xs) two) in
      exactly (At Information) (At Transfer) _ _ (not_same 3 4 (omega arith)) (settle 3 xs) three (transferred laws fields tiles p meta config image blocks good whole chunk_some cs apart some q few fits q_some (settle 3 xs) three)

  -- ---- the chunks of a block

  abbrev items_from : ℕ → ℕ → ℕ → List Item
  items_from b k rem = map (λ i. Sends p.group b i) (range_with_len k rem)

  items_long : (b rem k : ℕ) → length (items_from b k rem) ≡ rem
  items_long b zero k = refl
  items_long b (suc rem) k = ap suc (items_long b rem (k + 1))

  -- sixteen a turn at most
  no_sooner : (b t k rem : ℕ) (ps qs : List Pair) (xs : List Member) → Station_ (At (Chunks b)) (items_from b k rem) ps xs → Station_ (At (Chunks b)) [] qs (settle t xs) → rem ≤ 16 * t
  no_sooner b zero k rem ps qs xs s end = let e = same_left (At (Chunks b)) (At (Chunks b)) (items_from b k rem) [] ps qs xs s end in let long = items_long b rem k in omega (arith, e, long)
  no_sooner b (suc t) k zero ps qs xs s end = omega arith
  no_sooner b (suc t) k (suc rem) ps qs xs s end =
      let next = turn_rest laws p meta config image (Chunks b) (Sends p.group b k) (items_from b (k + 1) rem) ps xs s (λ began moment. refl) in
      let here = subst (λ list. Station_ (At (Chunks b)) list (map (turn_in laws p meta config image (Chunks b) (take 16 (items_from b k (suc rem)))) ps) (turn xs)) (drop_range (λ i. Sends p.group b i) 16 (suc rem) k) next in
      let rest = no_sooner b t (k + min 16 (suc rem)) (suc rem - min 16 (suc rem)) _ qs (turn xs) here end in
      omega (arith, rest)

  module _ (b n c : ℕ) (sum : b + suc n ≡ suc blocks) (total : chunk_total p b ≡ suc c) where
    abbrev BD_ : ℕ → Pair → Type 0
    BD_ j x = BD laws fields tiles p meta config image blocks good whole chunk_some cs apart some q few fits q_some mc counts sends pushes b n c sum total j x

    abbrev Chunking_ : Pair → Type 0
    Chunking_ x = IsChunking laws fields tiles p meta config image blocks good whole chunk_some cs apart some q few fits q_some mc counts sends pushes b n c sum total (suc c) 0 x

    abbrev GD_ : ℕ → Pair → Type 0
    GD_ j x = GD laws fields tiles p meta config image blocks good whole chunk_some cs apart some q few fits q_some mc counts sends pushes b n c sum total j x

    chunks_exactly : (xs : List Member) → At_ (At (Block b)) (Done BD_) xs → At_ (At (Chunks b)) Chunking_ (settle (suc mc) xs)
    chunks_exactly xs r =
        let w = chunked laws fields tiles p meta config image blocks good whole chunk_some cs apart some q few fits q_some mc counts sends pushes b n c sum total xs r in
        by_turns w.turns w.few w.then_is
      where
        by_turns : (t : ℕ) → t ≤ suc mc → At_ (At (Chunks b)) Chunking_ (settle t xs) → At_ (At (Chunks b)) Chunking_ (settle (suc mc) xs)
        by_turns zero le h = absurd (not_same 5 6 (omega arith) (same_kind (At (Block b)) (At (Chunks b)) [] [] r.qs h.qs xs r.station h.station))
        by_turns (suc t) le h =
            let k = chunks_begun laws fields tiles p meta config image blocks good whole chunk_some cs apart some q few fits q_some mc counts sends pushes b n c sum total xs r in
            let list = lists b n c total k.bs k.all k.same in
            let here : Station_ (At (Chunks b)) (items_from b (0 + min 16 (suc c)) (suc c - min 16 (suc c))) (map (turn_in laws p meta config image (Chunks b) (take 16 (first_items laws p meta config image (Chunks b) k.bs))) k.bs) (turn xs) =
            subst (λ items. Station_ (At (Chunks b)) items (map (turn_in laws p meta config image (Chunks b) (take 16 (first_items laws p meta config image (Chunks b) k.bs))) k.bs) (turn xs))
            (ap (drop 16) list ∙ drop_range (λ i. Sends p.group b i) 16 (suc c) 0) k.station in
            let rest = no_sooner b t (0 + min 16 (suc c)) (suc c - min 16 (suc c)) _ h.qs (turn xs) here h.station in
            let more = full b (omega (arith, sum)) in
            let e : suc t ≡ suc mc = omega (arith, le, rest, more, total) in
            subst (λ i. At_ (At (Chunks b)) Chunking_ (settle i xs)) e h

    block_exactly : (s : Step) → EndsBlock s → (kind (At s) ≡ 5 → ⊥) → (xs : List Member) → At_ (At s) (Between_ b (suc n)) xs → At_ (At (Get b)) (Done GD_) (settle (1 + (suc mc + 1)) xs)
    block_exactly s e differs xs r =
        let one = exactly (At s) (At (Block b)) _ _ differs xs r (begun laws fields tiles p meta config image blocks good whole chunk_some cs apart some q few fits q_some mc counts sends pushes b n c sum total s e xs r) in
        let two = chunks_exactly (turn xs) one in
        let ys : List Member = settle (suc mc) (turn xs) in
        let three = exactly (At (Chunks b)) (At (Get b)) _ _ (not_same 6 7 (omega arith)) ys two (got laws fields tiles p meta config image blocks good whole chunk_some cs apart some q few fits q_some mc counts sends pushes b n c sum total ys two) in
        subst (At_ (At (Get b)) (Done GD_)) (settle_add (suc mc) 1 (turn xs) ∙ settle_add 1 (suc mc + 1) xs) three

  -- ---- all blocks

  abbrev block_turns : ℕ
  block_turns = 1 + (suc mc + 1)

  ends_early : (s : Step) → EndsBlock s → kind (At s) ≡ 5 → ⊥
  ends_early Transfer e k = not_same 4 5 (omega arith) k
  ends_early (Get b) e k = not_same 5 7 (omega arith) (sym k)
  ends_early (Pull b) e k = not_same 5 6 (omega arith) (sym k)
  ends_early Check e k = absurd e
  ends_early Start e k = absurd e
  ends_early Information e k = absurd e
  ends_early (Block b) e k = absurd e
  ends_early (Chunks b) e k = absurd e
  ends_early Verify e k = absurd e
  ends_early Apply e k = absurd e
  ends_early Confirm e k = absurd e
  ends_early Cancel e k = absurd e

  abbrev Ended_ : List Member → Type 0
  Ended_ xs = Ended_blocks laws fields tiles p meta config image blocks good whole chunk_some cs apart some q few fits q_some xs

  pub blocks_exactly : (n b : ℕ) (s : Step) → EndsBlock s → b + suc n ≡ suc blocks → (xs : List Member) → At_ (At s) (Between_ b (suc n)) xs → Ended_ (settle (suc n * block_turns) xs)
  blocks_exactly zero b s e sum xs r =
      let k = counts b (omega (arith, sum)) in
      let one = block_exactly b 0 k.0 sum k.1 s e (ends_early s e) xs r in
      let same : block_turns ≡ 1 * block_turns = omega arith in
      subst (λ t. Ended_ (settle t xs)) same (record {
        step = Get b;
        ends = tt;
        c = k.0;
        held_all =
            reached_as laws fields tiles p meta config image blocks good whole chunk_some cs apart some q few fits q_some (At (Get b)) _ _
            (to_all laws fields tiles p meta config image blocks good whole chunk_some cs apart some q few fits q_some mc counts sends pushes b k.0 (omega (arith, sum))) (settle block_turns xs) one;
      })
  blocks_exactly (suc n) b s e sum xs r =
      let k = counts b (omega (arith, sum)) in
      let one = block_exactly b (suc n) k.0 sum k.1 s e (ends_early s e) xs r in
      let next = blocks_exactly n (suc b) (Get b) tt (omega (arith, sum)) (settle block_turns xs)
      (reached_as laws fields tiles p meta config image blocks good whole chunk_some cs apart some q few fits q_some (At (Get b)) _ _
      (to_between laws fields tiles p meta config image blocks good whole chunk_some cs apart some q few fits q_some mc counts sends pushes b n k.0) (settle block_turns xs) one) in
      let same : block_turns + suc n * block_turns ≡ suc (suc n) * block_turns = omega arith in
      subst Ended_ (settle_add block_turns (suc n * block_turns) xs ∙ ap (λ t. settle t xs) same) next

  -- ---- up to the last step but one

  abbrev pub Applied_ : ℕ → Pair → Type 0
  Applied_ c x = Done (AD laws fields tiles p meta config image blocks good whole chunk_some cs apart some q few fits q_some c) x

  pub record IsApplying (xs : List Member) : Type 0 where
    pub c : ℕ
    pub reached : At_ (At Apply) (Applied_ c) xs

  ends_block : (s : Step) → EndsBlock s → kind (At s) ≡ 8 → ⊥
  ends_block Transfer e k = not_same 4 8 (omega arith) k
  ends_block (Get b) e k = not_same 7 8 (omega arith) k
  ends_block (Pull b) e k = not_same 6 8 (omega arith) k
  ends_block Check e k = absurd e
  ends_block Start e k = absurd e
  ends_block Information e k = absurd e
  ends_block (Block b) e k = absurd e
  ends_block (Chunks b) e k = absurd e
  ends_block Verify e k = absurd e
  ends_block Apply e k = absurd e
  ends_block Confirm e k = absurd e
  ends_block Cancel e k = absurd e

  applying : (xs : List Member) → Ended_ xs → IsApplying (settle 2 xs)
  applying xs h =
      let one = exactly (At h.step) (At Verify) _ _ (ends_block h.step h.ends) xs h.held_all (verified laws fields tiles p meta config image blocks good whole chunk_some cs apart some q few fits q_some h.c h.step h.ends xs h.held_all) in
      record { c = h.c; reached = exactly (At Verify) (At Apply) _ _ (not_same 8 9 (omega arith)) (turn xs) one (applied laws fields tiles p meta config image blocks good whole chunk_some cs apart some q few fits q_some h.c (turn xs) one) }

  -- four turns, the blocks, and two
  pub applying_exactly : (xs : List Member) → At_ (Before Check) (First laws fields tiles p meta config image blocks good whole chunk_some cs apart some q few fits q_some) xs → IsApplying (settle (4 + (suc blocks * block_turns + 2)) xs)
  applying_exactly xs r =
      let ys : List Member = settle 4 xs in
      let four = four_exactly xs r in
      let between = reached_as laws fields tiles p meta config image blocks good whole chunk_some cs apart some q few fits q_some (At Transfer) _ _ (first_between laws fields tiles p meta config image blocks good whole chunk_some cs apart some q few fits q_some) ys four in
      let ended = blocks_exactly blocks 0 Transfer tt (omega arith) ys between in
      subst IsApplying (settle_add (suc blocks * block_turns) 2 ys ∙ settle_add 4 (suc blocks * block_turns + 2) xs) (applying (settle (suc blocks * block_turns) ys) ended)
