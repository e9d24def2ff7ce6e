-- A block in pull at a receiver and its node: a report, and the chunks that it asked for.
use Rattle.std.proofs.Common.{◌≡◌, ◌==◌, ◌<◌, ◌≤◌, ◌+◌, ◌-◌, ◌*◌, ℕ, zero, suc, List, [], ◌∷◌, ◌++◌, refl, sym, ap, ◌∙◌, subst, true, false, Bool, Option, Some, None, arith, map, min, length}
use Rattle.std.specs.Prelude.{nat_le, ◌||◌, is_none}
use Rattle.std.specs.List.{list_any, range_with_len}
use Rattle.std.proofs.lemmas.Bool.{eq-eqb}
use Rattle.std.proofs.lemmas.Bool.Decides.{nat_tests}
use Rattle.mu_model_image.specs.declared.Meta.{Meta}
use Rattle.mu_model_image.specs.Meta.{Image}
use Rattle.mu_model_wire.specs.Reports.{every_number, no_number}
use Rattle.mu_model_node.specs.declared.LastBlock.{LastBlock}
use Rattle.mu_model_node.specs.Slots.{Slots, empty, at, is_full, put, joined}
use Rattle.mu_model_node.specs.BlobMessages.{ChunkTransfer, PartialBlockReport}
use Rattle.mu_model_node.specs.BlobServer.{CurrentBlock, PullReport}
use Rattle.mu_model_node.specs.BlobTable.{asked_for}
use Rattle.mu_model_node.specs.NodeMessages.{OfBlob, Reply, ByBlob}
use Rattle.mu_model_client.specs.declared.Sending.{Sending}
use Rattle.mu_model_client.specs.Answers.{heard}
use Rattle.mu_model_client.specs.Client.{Client, Receiver, Sends, Block, Pull, chunk_total}
use Rattle.mu_model_client.specs.Lists.{sent_for}
use Rattle.mu_model_client.specs.Told as t
use Rattle.mu_model_client.specs.Due as d
use Rattle.mu_model_client_laws.specs.Laws.{FieldsAreRead}
use Rattle.mu_model_completion.specs.Turn.{asked_by, replied_by}
use Rattle.mu_model_completion.proofs.Local.{tells}
use Rattle.mu_model_completion.proofs.Pairs.{Pair, answered_by, pair_if, pair_item, pair_items, pair_time, items_config}
use Rattle.mu_model_completion.proofs.Nodes.{Does, passes, asks, Offer, current_in, last_in}
use Rattle.mu_model_completion.proofs.Receivers.{rcv, view, tell_own, told_block}
use Rattle.mu_model_completion.proofs.Asking.{Asking}
use Rattle.mu_model_completion.proofs.First.{Good, Row, Rested, row_answered, row_pending, row_place, Runs, in_time}
use Rattle.mu_model_completion.proofs.Pieces.{filled, put_here, at_next, not_full, full, lacking_from, one_held}
use Rattle.mu_model_completion.proofs.Blocks.{Tiles, blk, chk, held_of, got_of, last_of, BlockW, begins_block, block_waits, block_request, block_reply, below_places, long_is, block_joined}
use Rattle.mu_model_completion.proofs.Sixteens.{Reaches}
use Rattle.mu_model_completion.proofs.Wanted.{asked_are, wanted_set}
use Rattle.mu_model_completion.proofs.PullNodes as pn
use Rattle.mu_model_completion.proofs.PullNodes.{pulling, running, none_missing, report_of, pulled, told_wanted, told_whole}

-- those that have come aren't missing
is_there : (f : ℕ → List ℕ) (k i m x : ℕ) → x < k → is_none (at (filled f i k ++ empty m) x) ≡ false
is_there f zero i m x lt = absurd (omega (arith, lt))
is_there f (suc k) i m zero lt = refl
is_there f (suc k) i m (suc x) lt = is_there f k (i + 1) m x (omega (arith, lt))

none_of : (t : ℕ → Bool) (j k : ℕ) → ((x : ℕ) → k ≤ x → x < k + j → t x ≡ false) → list_any t (range_with_len k j) ≡ false
none_of t zero k h = refl
none_of t (suc j) k h = both (t k) (list_any t (range_with_len (k + 1) j)) (h k (omega arith) (omega arith)) (none_of t j (k + 1) (λ x low high. h x (omega (arith, low)) (omega (arith, high))))
  where
    both : (a b : Bool) → a ≡ false → b ≡ false → (a || b) ≡ false
    both a b e f = rw (e, f) refl

module _ (fields : FieldsAreRead) (tiles : Tiles) (p : Sending) (meta : Meta) (image : List ℕ) (u blocks : ℕ) (good : Good p blocks) (whole : length image ≡ p.size) (chunk_some : 0 < p.chunk) (pull : (p.mode == 2) ≡ true) (few : 4 * 1 < 99) where
  abbrev block_of : ℕ → List ℕ
  block_of b = blk fields tiles p meta image u blocks good 1 few whole chunk_some b

  abbrev chunk_of : ℕ → ℕ → List ℕ
  chunk_of b k = chk fields tiles p meta image u blocks good 1 few whole chunk_some b k

  abbrev pub held : ℕ → ℕ → Slots
  held b n = held_of fields tiles p meta image u blocks good 1 few whole chunk_some b n

  abbrev got : ℕ → ℕ → ℕ → Slots
  got b k rem = got_of fields tiles p meta image u blocks good 1 few whole chunk_some b k rem

  abbrev pub last : ℕ → LastBlock
  last b = last_of fields tiles p meta image u blocks good 1 few whole chunk_some b

  -- in block b, of whose chunks k have come and rem haven't
  pub record PullIn (b n k rem a : ℕ) (report : Option PullReport) (x : Pair) : Type 0 where
    pub capacity : ℕ
    pub active : Image
    pub images : List Image
    pub offer : Offer p meta image capacity active
    pub count : ℕ
    pub fresh : ℕ
    pub heard : ℕ
    pub before : Option LastBlock
    pub lately : x.moment ≤ heard + 100 * a
    pub none : none_missing p meta image capacity active images offer u (current_in p meta image capacity active images offer u 0 0 b (got b k rem)) report
    pub n_is : x.n ≡ pulling p meta image capacity active images offer u (held b (suc n)) (current_in p meta image capacity active images offer u 0 0 b (got b k rem)) before report count fresh heard x.moment

  -- ---- 5 block

  abbrev pub PullBlockD : ℕ → ℕ → ℕ → ℕ → Pair → Type 0
  PullBlockD b n c zero x = ⊥
  PullBlockD b n c (suc j) x = Row 2 (lacking_from b (suc n)) (every_number (suc c)) false x × PullIn b n 0 (suc c) 0 None x

  abbrev Waits : ℕ → ℕ → ℕ → Pair → Type 0
  Waits b n j x = BlockW fields tiles p meta image u blocks good 1 few whole chunk_some b n j x

  block_opened : (b n c : ℕ) (total : chunk_total p b ≡ suc c) (j : ℕ) (x : Pair) (w : Waits b n j x)
      → Row 2 (lacking_from b (suc n)) (every_number (suc c)) false (answered_by (view p meta (Block b)) u x (asks x.n u (block_request fields tiles p meta image u blocks good 1 few whole chunk_some b) x.moment))
      × PullIn b n 0 (suc c) 0 None (answered_by (view p meta (Block b)) u x (asks x.n u (block_request fields tiles p meta image u blocks good 1 few whole chunk_some b) x.moment))
  block_opened b n c total j x w =
      let does = begins_block fields tiles p meta image u blocks good 1 few whole chunk_some b n c total j x w in (
        row_answered (view p meta (Block b)) u x (block_request fields tiles p meta image u blocks good 1 few whole chunk_some b) _ (block_reply fields tiles p meta image u blocks good 1 few whole chunk_some b) 2 2
            (lacking_from b (suc n)) w.0.0 (lacking_from b (suc n)) (every_number (suc c)) does w.0.1 (told_block p meta x.config.address b c (lacking_from b (suc n)) w.0.0 total),
        record {
          capacity = w.1.1.capacity;
          active = w.1.1.active;
          images = w.1.1.images;
          offer = w.1.1.offer;
          count = w.1.1.count;
          fresh = w.1.1.fresh;
          heard = x.moment;
          before = w.1.0;
          lately = omega arith;
          none = tt;
          n_is = does.next_is;
        },
      )

  done_pending : (b n c j : ℕ) (x : Pair) → PullBlockD b n c j x → x.r.pending ≡ false
  done_pending b n c zero x h = absurd h
  done_pending b n c (suc j) x h = row_pending fields p meta image u blocks good 1 few 2 (lacking_from b (suc n)) (every_number (suc c)) false x h.0

  done_later : (b n c j : ℕ) (x : Pair) → j < 1 → PullBlockD b n c j x → PullBlockD b n c (suc j) (pair_time (view p meta (Block b)) u x) × ((pair_time (view p meta (Block b)) u x).r ≡ x.r)
  done_later b n c zero x lt h = absurd h
  done_later b n c (suc j) x lt h = absurd (omega (arith, lt))

  pub pull_block_asking : (b n c : ℕ) → chunk_total p b ≡ suc c → Asking p meta u (Block b) (block_request fields tiles p meta image u blocks good 1 few whole chunk_some b) (Waits b n) (PullBlockD b n c) 1
  pull_block_asking b n c total = record {
    waits = λ j x w. row_pending fields p meta image u blocks good 1 few 2 (lacking_from b (suc n)) w.0.0 true x w.0.1;
    is_done = λ j x w. done_pending b n c j x w;
    place = λ j x w. row_place 2 (lacking_from b (suc n)) w.0.0 true x w.0.1;
    message = λ j x w. refl;
    time_waits = λ j x lt w. block_waits fields tiles p meta image u blocks good 1 few whole chunk_some b n j x lt w;
    time_done = λ j x lt w. done_later b n c j x lt w;
    asked = λ j x w. block_opened b n c total (suc j) x w;
    counts = λ c. refl;
  }

  -- ---- 6 pull: a report

  -- j chunks are asked for from k on, with rest after them
  pub record Reported (b n c k j rest : ℕ) (x : Pair) : Type 0 where
    pub r_is : x.r ≡ pulled x.config.address (lacking_from b (suc n)) (every_number (suc c)) true (wanted_set (suc c) k (suc j))
    pub capacity : ℕ
    pub active : Image
    pub images : List Image
    pub offer : Offer p meta image capacity active
    pub count : ℕ
    pub fresh : ℕ
    pub heard : ℕ
    pub before : Option LastBlock
    pub lately : x.moment ≤ heard + 100 * 2
    pub n_is : x.n ≡ pulling p meta image capacity active images offer u (held b (suc n)) (current_in p meta image capacity active images offer u 0 0 b (got b k (suc j + rest))) before
        (Some (record { moment = x.moment; chunks = range_with_len k (suc j) })) count fresh heard x.moment

  module _ (b n c k rem : ℕ) (total : chunk_total p b ≡ suc c) (sum : k + suc rem ≡ suc c) (report : Option PullReport) (flag : Bool) (x : Pair)
      (row : x.r ≡ pulled x.config.address (lacking_from b (suc n)) (every_number (suc c)) flag []) (h : PullIn b n k (suc rem) 1 report x) where
    abbrev v : Client
    v = view p meta (Pull b)

    abbrev j : ℕ
    j = min 15 rem

    abbrev current : CurrentBlock
    current = current_in p meta image h.capacity h.active h.images h.offer u 0 0 b (got b k (suc rem))

    asks_for : asked_for current ≡ range_with_len k (suc j)
    asks_for = asked_are (chunk_of b) k (suc rem) ∙ (let e : min 16 (suc rem) ≡ suc (min 15 rem) = omega arith in ap (range_with_len k) e)

    does : Does (passes x.n (x.moment + 100))
        (pulling p meta image h.capacity h.active h.images h.offer u (held b (suc n)) current h.before (Some (report_of p meta image h.capacity h.active h.images h.offer u current (x.moment + 100))) h.count h.fresh h.heard (x.moment + 100))
        ((u, ByBlob (PartialBlockReport (asked_for current))) ∷ [])
    does =
        subst (λ s. Does (passes s (x.moment + 100))
        (pulling p meta image h.capacity h.active h.images h.offer u (held b (suc n)) current h.before (Some (report_of p meta image h.capacity h.active h.images h.offer u current (x.moment + 100))) h.count h.fresh h.heard (x.moment + 100))
        ((u, ByBlob (PartialBlockReport (asked_for current))) ∷ [])) (sym h.n_is)
        (pn.reports p meta image h.capacity h.active h.images h.offer u pull (held b (suc n)) current h.before report h.count h.fresh h.heard x.moment (x.moment + 100) h.none (not_full block_of b 0 n) (omega arith)
        (in_time p x.moment h.heard 1 h.lately (omega arith)))

    pub reported : Reported b n c k j (suc rem - suc j) (pair_time v u x)
    reported =
        let left : suc j + (suc rem - suc j) ≡ suc rem = omega arith in
        let reply : Reply = ByBlob (PartialBlockReport (range_with_len k (suc j))) in
        let says : (passes x.n (x.moment + 100)).replies ≡ (u, reply) ∷ [] = does.says ∙ ap (λ ks. (u, ByBlob (PartialBlockReport ks)) ∷ []) asks_for in
        record {
          r_is =
              ap (λ replies. tells v u (map (replied_by x.config.address) replies) x.r) says
              ∙ (tell_own v u x.config.address reply x.r (ap (λ (r : Receiver). r.row.address) row)
              ∙ (ap (t.receiver_told v (heard reply)) row ∙ told_wanted p meta x.config.address b (suc c) k j (lacking_from b (suc n)) (every_number (suc c)) flag total (omega (arith, sum))));
          capacity = h.capacity;
          active = h.active;
          images = h.images;
          offer = h.offer;
          count = h.count;
          fresh = h.fresh;
          heard = h.heard;
          before = h.before;
          lately = (let l = h.lately in omega (arith, l));
          n_is =
              does.next_is
              ∙ (ap (λ ks. pulling p meta image h.capacity h.active h.images h.offer u (held b (suc n)) current h.before (Some (record { moment = x.moment + 100; chunks = ks })) h.count h.fresh h.heard (x.moment + 100)) asks_for
              ∙ ap (λ m. pulling p meta image h.capacity h.active h.images h.offer u (held b (suc n)) (current_in p meta image h.capacity h.active h.images h.offer u 0 0 b (got b k m)) h.before (Some (record { moment = x.moment + 100; chunks = range_with_len k (suc j) })) h.count h.fresh h.heard (x.moment + 100)) (sym left));
        }

  -- ---- the chunks that were asked for

  -- while they come
  pub record Going (b n k rem a : ℕ) (report : Option PullReport) (x : Pair) : Type 0 where
    pub capacity : ℕ
    pub active : Image
    pub images : List Image
    pub offer : Offer p meta image capacity active
    pub count : ℕ
    pub fresh : ℕ
    pub heard : ℕ
    pub before : Option LastBlock
    pub lately : x.moment ≤ heard + 100 * a
    pub n_is : x.n ≡ pulling p meta image capacity active images offer u (held b (suc n)) (current_in p meta image capacity active images offer u 0 0 b (got b k rem)) before report count fresh heard x.moment

  -- the block is held, and an empty report said so
  pub record PullDone (b n c : ℕ) (x : Pair) : Type 0 where
    pub row : Rested 2 (lacking_from (suc b) n) (no_number (suc c)) x
    pub runs : Runs fields p meta image u blocks good 1 few (held (suc b) n) (Some (last b)) 0 x

  module _ (b n c k j rest : ℕ) (x : Pair) (h : Reported b n c k j rest x) where
    abbrev unwanted : Pair
    unwanted = record x { r = d.unwanted x.r }

    abbrev report : PullReport
    report = record { moment = x.moment; chunks = range_with_len k (suc j) }

    waiting : Does (passes x.n (x.moment + 100))
        (pulling p meta image h.capacity h.active h.images h.offer u (held b (suc n)) (current_in p meta image h.capacity h.active h.images h.offer u 0 0 b (got b k (suc j + rest))) h.before (Some report) h.count h.fresh h.heard (x.moment + 100)) []
    waiting =
        let more : suc j + rest ≡ suc (j + rest) = omega arith in
        let missing : at (got b k (suc j + rest)) k ≡ None = ap (λ m. at (got b k m) k) more ∙ at_next (chunk_of b) k 0 (j + rest) in
        let some : list_any (λ i. is_none (at (got b k (suc j + rest)) i)) (range_with_len k (suc j)) ≡ true = ap (λ z. is_none z || list_any (λ i. is_none (at (got b k (suc j + rest)) i)) (range_with_len (k + 1) j)) missing in
        subst (λ s. Does (passes s (x.moment + 100))
        (pulling p meta image h.capacity h.active h.images h.offer u (held b (suc n)) (current_in p meta image h.capacity h.active h.images h.offer u 0 0 b (got b k (suc j + rest))) h.before (Some report) h.count h.fresh h.heard (x.moment + 100)) []) (sym h.n_is)
        (pn.waits p meta image h.capacity h.active h.images h.offer u pull (held b (suc n)) (current_in p meta image h.capacity h.active h.images h.offer u 0 0 b (got b k (suc j + rest))) h.before report h.count h.fresh h.heard x.moment (x.moment + 100)
        some (early x.moment) (not_full block_of b 0 n) (omega arith) (in_time p x.moment h.heard 2 h.lately (omega arith)))
      where
        early : (m : ℕ) → nat_le (m + 1000) (m + 100) ≡ false
        early m = grind (arith, nat_tests)

    pub served : Going b n k (suc j + rest) 3 (Some report) (pair_time (view p meta (Pull b)) u unwanted)
        × ((pair_time (view p meta (Pull b)) u unwanted).r ≡ pulled x.config.address (lacking_from b (suc n)) (every_number (suc c)) true [])
    served = (
      record {
        capacity = h.capacity;
        active = h.active;
        images = h.images;
        offer = h.offer;
        count = h.count;
        fresh = h.fresh;
        heard = h.heard;
        before = h.before;
        lately = (let l = h.lately in omega (arith, l));
        n_is = waiting.next_is;
      },
      ap (λ replies. tells (view p meta (Pull b)) u (map (replied_by x.config.address) replies) unwanted.r) waiting.says ∙ ap d.unwanted h.r_is,
    )

  -- one chunk
  module _ (to b n c : ℕ) (total : chunk_total p b ≡ suc c) (report : Option PullReport) where
    abbrev w : Client
    w = view p meta (Pull b)

    abbrev given : ℕ → Pair → Pair
    given k x = pair_item w u (asked_by u (sent_for p image (Sends to b k))) x

    abbrev chunk_asked : ℕ → Pair → Pair
    chunk_asked k x = answered_by w u x (asks x.n u (OfBlob (ChunkTransfer k (chunk_of b k))) x.moment)

    reached_by : (k : ℕ) (x : Pair) → Reaches to x.config → given k x ≡ chunk_asked k x
    reached_by k x reached = ap (λ z. pair_if w u (asked_by u (sent_for p image (Sends to b k))) x z) reached

    module _ (k a : ℕ) (x : Pair) where
      module _ (rem : ℕ) (h : Going b n k (suc (suc rem)) a report x) where
        more : Does (asks x.n u (OfBlob (ChunkTransfer k (chunk_of b k))) x.moment)
            (pulling p meta image h.capacity h.active h.images h.offer u (held b (suc n)) (current_in p meta image h.capacity h.active h.images h.offer u 0 0 b (put (got b k (suc (suc rem))) k (chunk_of b k))) h.before report h.count h.fresh x.moment x.moment) []
        more =
            subst (λ s. Does (asks s u (OfBlob (ChunkTransfer k (chunk_of b k))) x.moment)
            (pulling p meta image h.capacity h.active h.images h.offer u (held b (suc n)) (current_in p meta image h.capacity h.active h.images h.offer u 0 0 b (put (got b k (suc (suc rem))) k (chunk_of b k))) h.before report h.count h.fresh x.moment x.moment) []) (sym h.n_is)
            (pn.chunk_more p meta image h.capacity h.active h.images h.offer u (held b (suc n)) h.before report h.count h.fresh h.heard x.moment b (got b k (suc (suc rem))) k (chunk_of b k)
            (not_full block_of b 0 n) (below_places fields tiles p meta image u blocks good 1 few whole chunk_some b k (suc rem)) (eq-eqb _ _ (long_is fields tiles p meta image u blocks good 1 few whole chunk_some b k))
            (at_next (chunk_of b) k 0 (suc rem)) (ap is_full (put_here (chunk_of b) k (suc rem)) ∙ not_full (chunk_of b) (suc k) 0 rem))

        one_more : Going b n (suc k) (suc rem) 0 report (chunk_asked k x) × ((chunk_asked k x).r ≡ x.r)
        one_more = (
          record {
            capacity = h.capacity;
            active = h.active;
            images = h.images;
            offer = h.offer;
            count = h.count;
            fresh = h.fresh;
            heard = x.moment;
            before = h.before;
            lately = omega arith;
            n_is = more.next_is ∙ ap (λ slots. pulling p meta image h.capacity h.active h.images h.offer u (held b (suc n)) (current_in p meta image h.capacity h.active h.images h.offer u 0 0 b slots) h.before report h.count h.fresh x.moment x.moment) (put_here (chunk_of b) k (suc rem));
          },
          ap (λ replies. tells w u (map (replied_by x.config.address) replies) x.r) more.says,
        )

      module _ (at_end : k ≡ c) (h : Going b n k 1 a report x) (row : x.r ≡ pulled x.config.address (lacking_from b (suc n)) (every_number (suc c)) true []) where
        ends : Does (asks x.n u (OfBlob (ChunkTransfer k (chunk_of b k))) x.moment)
            (running p meta image h.capacity h.active h.images h.offer u (put (held b (suc n)) b (joined (put (got b k 1) k (chunk_of b k)))) (Some (last_in p meta image h.capacity h.active h.images h.offer u 0 0 b)) h.count h.fresh x.moment x.moment)
            ((u, ByBlob (PartialBlockReport [])) ∷ [])
        ends =
            subst (λ s. Does (asks s u (OfBlob (ChunkTransfer k (chunk_of b k))) x.moment)
            (running p meta image h.capacity h.active h.images h.offer u (put (held b (suc n)) b (joined (put (got b k 1) k (chunk_of b k)))) (Some (last_in p meta image h.capacity h.active h.images h.offer u 0 0 b)) h.count h.fresh x.moment x.moment)
            ((u, ByBlob (PartialBlockReport [])) ∷ [])) (sym h.n_is)
            (pn.chunk_last p meta image h.capacity h.active h.images h.offer u (held b (suc n)) h.before report h.count h.fresh h.heard x.moment b (got b k 1) k (chunk_of b k) pull
            (not_full block_of b 0 n) (below_places fields tiles p meta image u blocks good 1 few whole chunk_some b k 0) (eq-eqb _ _ (long_is fields tiles p meta image u blocks good 1 few whole chunk_some b k))
            (at_next (chunk_of b) k 0 0) (ap is_full (put_here (chunk_of b) k 0) ∙ full (chunk_of b) (suc k) 0))

        now_held : put (held b (suc n)) b (joined (put (got b k 1) k (chunk_of b k))) ≡ held (suc b) n
        now_held =
            ap (λ octets. put (held b (suc n)) b octets) (ap joined (put_here (chunk_of b) k 0) ∙ block_joined fields tiles p meta image u blocks good 1 few whole chunk_some b (suc k) (total ∙ ap suc (sym at_end))) ∙ put_here block_of b n

        the_last : PullDone b n c (chunk_asked k x)
        the_last = record {
          row = record {
            heard = true;
            r_is =
                ap (λ replies. tells w u (map (replied_by x.config.address) replies) x.r) ends.says
                ∙ (tell_own w u x.config.address (ByBlob (PartialBlockReport [])) x.r (ap (λ (r : Receiver). r.row.address) row)
                ∙ (ap (t.receiver_told w (heard (ByBlob (PartialBlockReport [])))) row
                ∙ (told_whole p meta x.config.address b (suc c) (lacking_from b (suc n)) (every_number (suc c)) true total
                ∙ ap (λ bs. record (rcv x.config.address 2 bs (no_number (suc c)) false) { heard = true }) (one_held b n))));
          };
          runs = record {
            capacity = h.capacity;
            active = h.active;
            images = h.images;
            offer = h.offer;
            count = h.count;
            fresh = h.fresh;
            heard = x.moment;
            lately = omega arith;
            n_is = ends.next_is ∙ ap (λ slots. running p meta image h.capacity h.active h.images h.offer u slots (Some (last b)) h.count h.fresh x.moment x.moment) now_held;
          };
        }

    -- ---- all of them

    abbrev Row_ : Pair → Type 0
    Row_ x = x.r ≡ pulled x.config.address (lacking_from b (suc n)) (every_number (suc c)) true []

    abbrev pub Come : (k rest : ℕ) → Pair → Type 0
    Come k zero x = PullDone b n c x
    Come k (suc rest) x = Going b n k (suc rest) 0 report x × Row_ x

    abbrev all_given : ℕ → ℕ → Pair → Pair
    all_given k j x = pair_items w u (map (asked_by u) (map (sent_for p image) (map (λ i. Sends to b i) (range_with_len k j)))) x

    stays : (k : ℕ) (x : Pair) → (given k x).config ≡ x.config
    stays k x = items_config w u (asked_by u (sent_for p image (Sends to b k)) ∷ []) x

    one_given : (k rest a : ℕ) (x : Pair) → Reaches to x.config → k + suc rest ≡ suc c → Going b n k (suc rest) a report x → Row_ x → Come (suc k) rest (given k x)
    one_given k zero a x reached sum h row = subst (PullDone b n c) (sym (reached_by k x reached)) (the_last k a x (omega (arith, sum)) h row)
    one_given k (suc rest) a x reached sum h row =
        let o = one_more k a x rest h in
        subst (λ y. Going b n (suc k) (suc rest) 0 report y × Row_ y) (sym (reached_by k x reached)) (o.0, o.1 ∙ row)

    pub all_come : (j k rest a : ℕ) (x : Pair) → Reaches to x.config → k + (suc j + rest) ≡ suc c → Going b n k (suc j + rest) a report x → Row_ x → Come (k + suc j) rest (all_given k (suc j) x)
    all_come zero k rest a x reached sum h row =
        let e : 1 + rest ≡ suc rest = omega arith in
        let f : suc k ≡ k + 1 = omega arith in
        subst (λ i. Come i rest (given k x)) f (one_given k rest a x reached (omega (arith, sum)) (subst (λ m. Going b n k m a report x) e h) row)
    all_come (suc j) k rest a x reached sum h row =
        let e : suc (suc j) + rest ≡ suc (suc j + rest) = omega arith in
        let here = one_given k (suc j + rest) a x reached (omega (arith, sum)) (subst (λ m. Going b n k m a report x) e h) row in
        let f : suc j + rest ≡ suc (j + rest) = omega arith in
        let some : Come (suc k) (suc (j + rest)) (given k x) = subst (λ m. Come (suc k) m (given k x)) f here in
        let next : k + 1 ≡ suc k = omega arith in
        let at_ : suc k + suc j ≡ k + suc (suc j) = omega arith in
        subst (λ i. Come i rest (all_given k (suc (suc j)) x)) at_
        (subst (λ i. Come (suc k + suc j) rest (all_given i (suc j) (given k x))) (sym next)
        (all_come j (suc k) rest 0 (given k x) (subst (Reaches to) (sym (stays k x)) reached) (omega (arith, sum)) (subst (λ m. Going b n (suc k) m 0 report (given k x)) (sym f) some.0) some.1))

  -- and the report's chunks have all come
  pub none_left : (b n m k j rest : ℕ) (x : Pair) (h : Going b n (k + suc j) (suc rest) 0 (Some (record { moment = m; chunks = range_with_len k (suc j) })) x)
      → none_missing p meta image h.capacity h.active h.images h.offer u (current_in p meta image h.capacity h.active h.images h.offer u 0 0 b (got b (k + suc j) (suc rest))) (Some (record { moment = m; chunks = range_with_len k (suc j) }))
  none_left b n m k j rest x h = none_of (λ i. is_none (at (got b (k + suc j) (suc rest)) i)) (suc j) k (λ i low high. is_there (chunk_of b) (k + suc j) 0 (suc rest) i high)
