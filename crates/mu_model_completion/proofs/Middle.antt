-- The course of an update through its blocks, in push.
use Rattle.std.proofs.Common.{◌≡◌, inl, inr, ◌<◌, ◌≤◌, ◌+◌, ◌*◌, ℕ, zero, suc, List, [], ◌∷◌, refl, sym, ap, ◌∙◌, subst, true, false, Bool, Option, Some, None, arith, map, length, take, drop}
use Rattle.std.specs.Prelude.{◌||◌, not, if◌then◌else◌, find}
use Rattle.std.specs.List.{list_any, AllByRecursion}
use Rattle.mu_model_image.specs.declared.Meta.{Meta}
use Rattle.mu_model_wire.specs.Reports.{has, every_number, no_number}
use Rattle.mu_model_node.specs.declared.NodeConfig.{NodeConfig}
use Rattle.mu_model_node.specs.declared.LastBlock.{LastBlock}
use Rattle.mu_model_node.specs.NodeMessages.{OfBlob}
use Rattle.mu_model_node.specs.BlobMessages.{BlockGet}
use Rattle.mu_model_node.specs.Slots.{Slots}
use Rattle.mu_model_client.specs.declared.Sending.{Sending}
use Rattle.mu_model_client.specs.Sets.{below, has_some}
use Rattle.mu_model_client.specs.Client.{Client, Receiver, is_active, is_pending, misses_chunks, misses_block, Update, Place, At, Step, Check, Start, Information, Transfer, Block, Chunks, Pull, Get, Verify, Apply, Confirm, Cancel, block_total, chunk_total}
use Rattle.mu_model_client.specs.Due as d
use Rattle.mu_model_client.specs.Due.{Go}
use Rattle.mu_model_client_laws.specs.Laws.{KeepsPlan, FieldsAreRead}
use Rattle.mu_model_completion.specs.Turn.{Member, turn}
use Rattle.mu_model_completion.proofs.Pairs.{Pair, receiver_in}
use Rattle.mu_model_completion.proofs.Receivers.{none_some}
use Rattle.mu_model_completion.proofs.Stations.{Within, by_turn, and_then, more_room, so, Station, begins, leads_on, first_items, turn_in, turn_next}
use Rattle.mu_model_completion.proofs.Asking.{Apart, configs}
use Rattle.mu_model_completion.proofs.First.{Good, Pushes, Rested, rests, Runs, TransferD, runs_longer}
use Rattle.mu_model_completion.proofs.Pieces.{lacking_from, held_below, missed_at, find_least}
use Rattle.mu_model_completion.proofs.Blocks.{IsVerified, Tiles, InBlock, held_of, last_of, BlockW, BlockD, block_request, block_asking, Chunked, chunked_longer, Sealing, After, GetW, GetD, get_asking}
use Rattle.mu_model_completion.proofs.Chunked.{Beginning, Chunking, ChunksSent}
use Rattle.mu_model_completion.proofs.Course.{Reached, Answered, Leads, go_step, next_leads, row_is, row_begun, rested_begun, row_begun_by, some_active, all_begin, configs_length}

-- the steps after which a block begins
abbrev pub EndsBlock : Step → Type 0
EndsBlock Transfer = Unit {0}
EndsBlock (Get b) = Unit {0}
EndsBlock (Pull b) = Unit {0}
EndsBlock _ = ⊥

module _ (laws : KeepsPlan) (fields : FieldsAreRead) (tiles : Tiles) (p : Sending) (meta : Meta) (config : NodeConfig) (image : List ℕ) (blocks : ℕ) (good : Good p blocks)
    (whole : length image ≡ p.size) (chunk_some : 0 < p.chunk) (cs : List NodeConfig) (apart : Apart cs) (some : 1 ≤ length cs) (q : ℕ) (few : 4 * q < 99) (fits : length cs ≤ 16 * q) (q_some : 1 ≤ q) where
  abbrev u : ℕ
  u = config.address

  abbrev pub At_ : Place → (Pair → Type 0) → List Member → Type 0
  At_ place P xs = Reached laws fields tiles p meta config image blocks good whole chunk_some cs apart some q few fits q_some place P xs

  abbrev pub Done : (ℕ → Pair → Type 0) → Pair → Type 0
  Done D x = Answered laws fields tiles p meta config image blocks good whole chunk_some cs apart some q few fits q_some D x

  abbrev pub held : ℕ → ℕ → Slots
  held b n = held_of fields tiles p meta image u blocks good q few whole chunk_some b n

  abbrev pub last : ℕ → LastBlock
  last b = last_of fields tiles p meta image u blocks good q few whole chunk_some b

  -- b blocks are held by all, and n by none
  pub record Between (b n : ℕ) (x : Pair) : Type 0 where
    pub chunks : List Bool
    pub none : has_some chunks ≡ false
    pub row : Rested 2 (lacking_from b n) chunks x
    pub before : Option LastBlock
    pub runs : Runs fields p meta image u blocks good q few (held b n) before q x

  pub record AllHeld (c : ℕ) (x : Pair) : Type 0 where
    pub row : Rested 2 (lacking_from (suc blocks) 0) (no_number (suc c)) x
    pub j : ℕ
    pub sealing : Sealing fields tiles p meta image u blocks good q few whole chunk_some (held (suc blocks) 0) (Some (last blocks)) j x

  pub between_is : (b n : ℕ) (x : Pair) → Between b n x → (x.r.pending ≡ false) × (is_active x.r ≡ true)
  between_is b n x h = (ap (λ (r : Receiver). r.pending) h.row.r_is, ap is_active h.row.r_is)

  -- ---- the least block that is missed

  pub no_chunks : (P : Pair → Type 0) → ((x : Pair) → P x → misses_chunks x.r ≡ false) → (ps : List Pair) → AllByRecursion P ps → list_any misses_chunks (map receiver_in ps) ≡ false
  no_chunks P f [] h = refl
  no_chunks P f (x ∷ ps) h = ap (λ b. b || list_any misses_chunks (map receiver_in ps)) (f x h.0) ∙ no_chunks P f ps h.1

  pub not_missed : (P : Pair → Type 0) (k : ℕ) → ((x : Pair) → P x → misses_block k x.r ≡ false) → (ps : List Pair) → AllByRecursion P ps → list_any (misses_block k) (map receiver_in ps) ≡ false
  not_missed P k f [] h = refl
  not_missed P k f (x ∷ ps) h = ap (λ b. b || list_any (misses_block k) (map receiver_in ps)) (f x h.0) ∙ not_missed P k f ps h.1

  is_missed : (P : Pair → Type 0) (k : ℕ) → ((x : Pair) → P x → misses_block k x.r ≡ true) → (ps : List Pair) → AllByRecursion P ps → 1 ≤ length ps → list_any (misses_block k) (map receiver_in ps) ≡ true
  is_missed P k f [] h le = absurd (omega (arith, le))
  is_missed P k f (x ∷ ps) h le = ap (λ b. b || list_any (misses_block k) (map receiver_in ps)) (f x h.0)

  pub row_misses : (b n k : ℕ) (x : Pair) (chunks : List Bool) → Rested 2 (lacking_from b n) chunks x → misses_block k x.r ≡ has (lacking_from b n) k
  row_misses b n k x chunks h = ap (misses_block k) h.r_is

  pub next_is : (b n : ℕ) → b + suc n ≡ suc blocks → (ps : List Pair) → AllByRecursion (Between b (suc n)) ps → 1 ≤ length ps
      → d.next_block p (Update meta true) (map receiver_in ps) ≡ Go (Block b)
  next_is b n sum ps h le =
      let t : ℕ → Bool = d.is_missed (map receiver_in ps) in
      let least : find t (below (block_total p)) ≡ Some b =
      ap (λ m. find t (below m)) good.total ∙ find_least t (suc blocks) b (omega (arith, sum))
      (λ k lt. not_missed (Between b (suc n)) k (λ x w. row_misses b (suc n) k x w.chunks w.row ∙ held_below b (suc n) k lt) ps h)
      (is_missed (Between b (suc n)) b (λ x w. row_misses b (suc n) b x w.chunks w.row ∙ missed_at b n) ps h le) in
      ap (d.block_or (Go Verify)) least

  pub after_is : (s : Step) → EndsBlock s → (rs : List Receiver) → list_any misses_chunks rs ≡ false → d.after p (Update meta true) rs s ≡ d.next_block p (Update meta true) rs
  after_is Transfer e rs h = refl
  after_is (Get b) e rs h = ap (λ z. if z then Go (Chunks b) else d.next_block p (Update meta true) rs) h
  after_is Check e rs h = absurd e
  after_is Start e rs h = absurd e
  after_is Information e rs h = absurd e
  after_is (Block b) e rs h = absurd e
  after_is (Chunks b) e rs h = absurd e
  after_is (Pull b) e rs h = refl
  after_is Verify e rs h = absurd e
  after_is Apply e rs h = absurd e
  after_is Confirm e rs h = absurd e
  after_is Cancel e rs h = absurd e

  pub counts_done : (s : Step) → EndsBlock s → (c : Client) → d.is_done c s ≡ not (list_any is_pending c.receivers)
  counts_done Transfer e c = refl
  counts_done (Get b) e c = refl
  counts_done Check e c = absurd e
  counts_done Start e c = absurd e
  counts_done Information e c = absurd e
  counts_done (Block b) e c = absurd e
  counts_done (Chunks b) e c = absurd e
  counts_done (Pull b) e c = refl
  counts_done Verify e c = absurd e
  counts_done Apply e c = absurd e
  counts_done Confirm e c = absurd e
  counts_done Cancel e c = absurd e

  pub no_chunk : (x : Pair) (bs chunks : List Bool) → has_some chunks ≡ false → Rested 2 bs chunks x → misses_chunks x.r ≡ false
  no_chunk x bs chunks none h = ap misses_chunks h.r_is ∙ none

  -- ---- a block

  pub runs_at : (step : Step) (hs : Slots) (before : Option LastBlock) (a : ℕ) (x : Pair) → Runs fields p meta image u blocks good q few hs before a x → Runs fields p meta image u blocks good q few hs before a (begins laws p meta config image step x)
  runs_at step hs before a x h = record { capacity = h.capacity; active = h.active; images = h.images; offer = h.offer; count = h.count; fresh = h.fresh; heard = h.heard; lately = h.lately; n_is = h.n_is }

  -- it begins
  pub block_begins : (b n : ℕ) (x : Pair) → Between b (suc n) x → BlockW fields tiles p meta image u blocks good q few whole chunk_some b n 0 (begins laws p meta config image (Block b) x)
  block_begins b n x h = (
    (h.chunks, rested_begun laws fields tiles p meta config image blocks good whole chunk_some cs apart some q few fits q_some (Block b) 2 (lacking_from b (suc n)) h.chunks x h.row (λ heard. missed_at b n)),
    (h.before, runs_longer fields p meta image u blocks good q few (held b (suc n)) h.before q (q + 0) (begins laws p meta config image (Block b) x) (omega arith) (runs_at (Block b) (held b (suc n)) h.before q x h.runs)),
  )

  pub block_leads : (b n : ℕ) → b + suc n ≡ suc blocks → (s : Step) → EndsBlock s → (ps : List Pair) → AllByRecursion (Between b (suc n)) ps → 1 ≤ length ps
      → Leads laws fields tiles p meta config image blocks good whole chunk_some cs apart some q few fits q_some (At s) ps (Block b)
  block_leads b n sum s e =
      next_leads laws fields tiles p meta config image blocks good whole chunk_some cs apart some q few fits q_some s (Block b) (Between b (suc n)) (between_is b (suc n)) (counts_done s e) (λ rs. refl)
      (λ ps h le. after_is s e (map receiver_in ps) (no_chunks (Between b (suc n)) (λ x w. no_chunk x (lacking_from b (suc n)) w.chunks w.none w.row) ps h) ∙ next_is b n sum ps h le)

  -- ---- from block to block

  pub mapped : (P Q : Pair → Type 0) → ((x : Pair) → P x → Q x) → (ps : List Pair) → AllByRecursion P ps → AllByRecursion Q ps
  mapped P Q f [] h = tt
  mapped P Q f (x ∷ ps) h = (f x h.0, mapped P Q f ps h.1)

  pub reached_as : (place : Place) (P Q : Pair → Type 0) → ((x : Pair) → P x → Q x) → (xs : List Member) → At_ place P xs → At_ place Q xs
  reached_as place P Q f xs r = record { qs = r.qs; station = r.station; all = mapped P Q f r.qs r.all; same = r.same }

  -- all blocks are held by all, as this step is answered
  pub record Ended_blocks (xs : List Member) : Type 0 where
    pub step : Step
    pub ends : EndsBlock step
    pub c : ℕ
    pub held_all : At_ (At step) (AllHeld c) xs

  pub first_between : (x : Pair) → Done (TransferD fields p meta image u blocks good q few) x → Between 0 (suc blocks) x
  first_between x h = record {
    chunks = [];
    none = refl;
    row = rests 2 _ _ x h.2.0;
    before = None;
    runs = runs_longer fields p meta image u blocks good q few (held 0 (suc blocks)) None h.0 q x h.1 h.2.1;
  }

  -- ---- in push

  module _ (mc : ℕ) (counts : (b : ℕ) → b < suc blocks → (c : ℕ) × (chunk_total p b ≡ suc c))
      (sends : (b n c : ℕ) (total : chunk_total p b ≡ suc c) → b + suc n ≡ suc blocks → (bs : List Pair) (ys : List Member)
      → Station laws p meta config image (At (Chunks b)) (drop 16 (first_items laws p meta config image (Chunks b) bs)) (map (turn_in laws p meta config image (Chunks b) (take 16 (first_items laws p meta config image (Chunks b) bs))) bs) ys
      → AllByRecursion (Beginning laws fields tiles p meta config image blocks good q few whole chunk_some b n c total) bs → configs bs ≡ cs
      → Within mc (ChunksSent laws fields tiles p meta config image blocks good q few whole chunk_some b n c total cs) ys)
      (pushes : Pushes p) where
    module _ (b n c : ℕ) (sum : b + suc n ≡ suc blocks) (total : chunk_total p b ≡ suc c) where
      abbrev pub BD : ℕ → Pair → Type 0
      BD j x = BlockD fields tiles p meta image u blocks good q few whole chunk_some b n c j x

      pub begun : (s : Step) → EndsBlock s → (xs : List Member) → At_ (At s) (Between b (suc n)) xs → Within q (At_ (At (Block b)) (Done BD)) xs
      begun s e xs r =
          go_step laws fields tiles p meta config image blocks good whole chunk_some cs apart some q few fits q_some (At s) (Between b (suc n)) (Block b) (block_request fields tiles p meta image u blocks good q few whole chunk_some b)
          (BlockW fields tiles p meta image u blocks good q few whole chunk_some b n) BD (block_asking fields tiles p meta image u blocks good q few whole chunk_some pushes.no_pull b n c total) (λ rs. refl) (block_begins b n)
          (block_leads b n sum s e) xs r

      -- ---- its chunks

      abbrev pub IsChunking : ℕ → ℕ → Pair → Type 0
      IsChunking k rem x = Chunking laws fields tiles p meta config image blocks good q few whole chunk_some b n c total k rem x

      in_block_at : (step : Step) (a : ℕ) (x : Pair) → InBlock fields tiles p meta image u blocks good q few whole chunk_some b n 0 (suc c) a x
          → InBlock fields tiles p meta image u blocks good q few whole chunk_some b n 0 (suc c) a (begins laws p meta config image step x)
      in_block_at step a x h = record { no_pull = h.no_pull; capacity = h.capacity; active = h.active; images = h.images; offer = h.offer; count = h.count; fresh = h.fresh; heard = h.heard; last = h.last; lately = h.lately; n_is = h.n_is }

      abbrev pub Begins : Pair → Type 0
      Begins x = Beginning laws fields tiles p meta config image blocks good q few whole chunk_some b n c total x

      chunks_begin : (x : Pair) → Done BD x → Begins (begins laws p meta config image (Chunks b) x)
      chunks_begin x h = (
        row_begun laws fields tiles p meta config image blocks good whole chunk_some cs apart some q few fits q_some (Chunks b) 2 (lacking_from b (suc n)) (every_number (suc c)) x h.2.0 refl,
        chunked_longer fields tiles p meta image u blocks good q few whole chunk_some b n 0 (suc c) h.0 q (begins laws p meta config image (Chunks b) x) h.1 (in_block_at (Chunks b) h.0 x h.2.1),
      )

      some_chunks : (ps : List Pair) → AllByRecursion (Done BD) ps → 1 ≤ length ps → list_any misses_chunks (map receiver_in ps) ≡ true
      some_chunks [] h le = absurd (omega (arith, le))
      some_chunks (x ∷ ps) h le = ap (λ z. z || list_any misses_chunks (map receiver_in ps)) (ap misses_chunks h.0.2.0.r_is)

      to_chunks : (ps : List Pair) → AllByRecursion (Done BD) ps → 1 ≤ length ps → d.after p (Update meta true) (map receiver_in ps) (Block b) ≡ Go (Chunks b)
      to_chunks ps h le =
          ap (λ z. if z then Go (d.chunk_step p b) else d.next_block p (Update meta true) (map receiver_in ps)) (some_chunks ps h le)
          ∙ ap (λ z. Go (if z then Chunks b else Pull b)) pushes.push

      begun_configs : (step : Step) (ps : List Pair) → configs (map (begins laws p meta config image step) ps) ≡ configs ps
      begun_configs step [] = refl
      begun_configs step (x ∷ ps) = ap (λ zs. x.config ∷ zs) (begun_configs step ps)

      -- the turn in which they begin
      pub record ChunksBegun (xs : List Member) : Type 0 where
        pub bs : List Pair
        pub station : Station laws p meta config image (At (Chunks b)) (drop 16 (first_items laws p meta config image (Chunks b) bs)) (map (turn_in laws p meta config image (Chunks b) (take 16 (first_items laws p meta config image (Chunks b) bs))) bs) xs
        pub all : AllByRecursion Begins bs
        pub same : configs bs ≡ cs

      pub chunks_begun : (xs : List Member) → At_ (At (Block b)) (Done BD) xs → ChunksBegun (turn xs)
      chunks_begun xs r =
          let long = configs_length laws fields tiles p meta config image blocks good whole chunk_some cs apart some q few fits q_some r.qs in
          let counted : length (configs r.qs) ≡ length cs = ap (length {A = NodeConfig}) r.same in
          let leads = next_leads laws fields tiles p meta config image blocks good whole chunk_some cs apart some q few fits q_some (Block b) (Chunks b) (Done BD)
          (λ x k. row_is laws fields tiles p meta config image blocks good whole chunk_some cs apart some q few fits q_some 2 (lacking_from b (suc n)) (every_number (suc c)) false x k.2.0)
          (λ z. refl) (λ rs. refl) to_chunks r.qs r.all (omega (arith, long, counted, some)) in
          record {
            bs = map (begins laws p meta config image (Chunks b)) r.qs;
            station = turn_next laws p meta config image (At (Block b)) r.qs xs r.station (Chunks b) leads;
            all = all_begin laws fields tiles p meta config image blocks good whole chunk_some cs apart some q few fits q_some (Done BD) Begins (Chunks b) chunks_begin r.qs r.all;
            same = begun_configs (Chunks b) r.qs ∙ r.same;
          }

      pub chunked : (xs : List Member) → At_ (At (Block b)) (Done BD) xs → Within (suc mc) (At_ (At (Chunks b)) (IsChunking (suc c) 0)) xs
      chunked xs r =
          let k = chunks_begun xs r in
          let done = sends b n c total sum k.bs (turn xs) k.station k.all k.same in
          by_turn mc (At_ (At (Chunks b)) (IsChunking (suc c) 0)) xs (record {
            turns = done.turns;
            few = done.few;
            then_is = (let f = done.then_is in record { qs = f.qs; station = f.station; all = f.all; same = f.same });
          })

      -- ---- what is asked after them

      abbrev pub GD : ℕ → Pair → Type 0
      GD j x = GetD fields tiles p meta image u blocks good q few whole chunk_some b n c j x

      verified_at : (step : Step) (hs : Slots) (before : Option LastBlock) (x : Pair) → IsVerified fields tiles p meta image u blocks good q few whole chunk_some hs before x
          → IsVerified fields tiles p meta image u blocks good q few whole chunk_some hs before (begins laws p meta config image step x)
      verified_at step hs before x h = record { capacity = h.capacity; active = h.active; images = h.images; offer = h.offer; count = h.count; fresh = h.fresh; heard = h.heard; n_is = h.n_is }

      after_begins : (m : ℕ) (x : Pair) → Chunked fields tiles p meta image u blocks good q few whole chunk_some b m (suc c) 0 (3 * q) x
          → After fields tiles p meta image u blocks good q few whole chunk_some (3 * q) b m 0 (begins laws p meta config image (Get b) x)
      after_begins zero x (inl h) = inl (h.0, runs_at (Get b) (held (suc b) 0) (Some (last b)) h.0 x h.1)
      after_begins zero x (inr h) = inr (verified_at (Get b) (held (suc b) 0) (Some (last b)) x h)
      after_begins (suc m) x h =
          runs_longer fields p meta image u blocks good q few (held (suc b) (suc m)) (Some (last b)) (3 * q) (3 * q + 0) (begins laws p meta config image (Get b) x) (omega arith)
          (runs_at (Get b) (held (suc b) (suc m)) (Some (last b)) (3 * q) x h)

      get_begins : (x : Pair) → IsChunking (suc c) 0 x → GetW fields tiles p meta image u blocks good q few whole chunk_some b n c 0 (begins laws p meta config image (Get b) x)
      get_begins x h = (
        row_begun_by laws fields tiles p meta config image blocks good whole chunk_some cs apart some q few fits q_some true (Get b) 2 (lacking_from b (suc n)) (every_number (suc c)) x h.0 refl,
        after_begins n x h.1,
      )

      pub got : (xs : List Member) → At_ (At (Chunks b)) (IsChunking (suc c) 0) xs → Within q (At_ (At (Get b)) (Done GD)) xs
      got xs r =
          go_step laws fields tiles p meta config image blocks good whole chunk_some cs apart some q few fits q_some (At (Chunks b)) (IsChunking (suc c) 0) (Get b) (OfBlob BlockGet)
          (GetW fields tiles p meta image u blocks good q few whole chunk_some b n c) GD (get_asking fields tiles p meta image u blocks good q few whole chunk_some b n c total sum) (λ rs. refl) get_begins
          (λ ps h le. leads_on laws p meta config image (Chunks b) (Get b) ps (λ began moment. refl) refl
          (some_active laws fields tiles p meta config image blocks good whole chunk_some cs apart some q few fits q_some (IsChunking (suc c) 0)
          (λ x k. (row_is laws fields tiles p meta config image blocks good whole chunk_some cs apart some q few fits q_some 2 (lacking_from b (suc n)) (every_number (suc c)) true x k.0).1) ps h le)) xs r

      -- A BLOCK
      pub one_block : (s : Step) → EndsBlock s → (xs : List Member) → At_ (At s) (Between b (suc n)) xs → Within (q + (suc mc + q)) (At_ (At (Get b)) (Done GD)) xs
      one_block s e xs r =
          and_then q (suc mc + q) (At_ (At (Block b)) (Done BD)) (At_ (At (Get b)) (Done GD)) xs (begun s e xs r)
          (λ ys t. and_then (suc mc) q (At_ (At (Chunks b)) (IsChunking (suc c) 0)) (At_ (At (Get b)) (Done GD)) ys (chunked ys t) got)

    pub to_between : (b n c : ℕ) (x : Pair) → Done (GetD fields tiles p meta image u blocks good q few whole chunk_some b (suc n) c) x → Between (suc b) (suc n) x
    to_between b n c x h = record {
      chunks = no_number (suc c);
      none = none_some (suc c);
      row = rests 2 _ _ x h.2.0;
      before = Some (last b);
      runs = runs_longer fields p meta image u blocks good q few (held (suc b) (suc n)) (Some (last b)) (0 + h.0) q x (let le = h.1 in omega (arith, le)) h.2.1;
    }

    pub to_all : (b c : ℕ) → b ≡ blocks → (x : Pair) → Done (GetD fields tiles p meta image u blocks good q few whole chunk_some b 0 c) x → AllHeld c x
    to_all b c e x h =
        subst (λ i. (y : Pair) → Done (GetD fields tiles p meta image u blocks good q few whole chunk_some i 0 c) y → AllHeld c y) (sym e)
        (λ y k. record { row = rests 2 _ _ y k.2.0; j = k.0; sealing = k.2.1 }) x h

    pub all_blocks : (n b : ℕ) (s : Step) → EndsBlock s → b + suc n ≡ suc blocks → (xs : List Member) → At_ (At s) (Between b (suc n)) xs
        → Within (suc n * (q + (suc mc + q))) Ended_blocks xs
    all_blocks zero b s e sum xs r =
        let k = counts b (omega (arith, sum)) in
        let one = one_block b 0 k.0 sum k.1 s e xs r in
        more_room (q + (suc mc + q)) (1 * (q + (suc mc + q))) Ended_blocks xs (omega arith)
        (so (q + (suc mc + q)) (At_ (At (Get b)) (Done (GetD fields tiles p meta image u blocks good q few whole chunk_some b 0 k.0))) Ended_blocks xs
        (λ ys t. record { step = Get b; ends = tt; c = k.0; held_all = reached_as (At (Get b)) _ (AllHeld k.0) (to_all b k.0 (omega (arith, sum))) ys t }) one)
    all_blocks (suc n) b s e sum xs r =
        let k = counts b (omega (arith, sum)) in
        let one = one_block b (suc n) k.0 sum k.1 s e xs r in
        let both = and_then (q + (suc mc + q)) (suc n * (q + (suc mc + q))) (At_ (At (Get b)) (Done (GetD fields tiles p meta image u blocks good q few whole chunk_some b (suc n) k.0))) Ended_blocks xs one
        (λ ys t. all_blocks n (suc b) (Get b) tt (omega (arith, sum)) ys (reached_as (At (Get b)) _ (Between (suc b) (suc n)) (to_between b n k.0) ys t)) in
        more_room ((q + (suc mc + q)) + suc n * (q + (suc mc + q))) (suc (suc n) * (q + (suc mc + q))) Ended_blocks xs (omega arith) both
