-- A block: begun, its chunks, and what is asked after them.
use Rattle.std.proofs.Common.{◌≡◌, ◌==◌, ◌⊎◌, inl, inr, ◌<◌, ◌≤◌, ◌+◌, ◌*◌, ℕ, zero, suc, List, [], ◌∷◌, ◌++◌, refl, sym, ap, ◌∙◌, subst, true, false, Bool, Option, Some, None, arith, map, length, set}
use Rattle.std.specs.Prelude.{nat_le}
use Rattle.std.specs.List.{range_with_len, concat}
use Rattle.std.proofs.lemmas.Bool.{eq-eqb}
use Rattle.std.proofs.lemmas.Bool.Decides.{nat_tests}
use Rattle.mu_model_image.specs.declared.Meta.{Meta}
use Rattle.mu_model_image.specs.Meta.{Image, is_fit}
use Rattle.mu_model_image.specs.Pieces.{block_of, block_count, block_length, chunk_count, chunk_length}
use Rattle.mu_model_image.specs.Laws.{BlocksAreTheImage, BlocksAreThoseWithin, BlockHasItsLength, ChunksAreTheBlock, ChunksAreThoseWithin, ChunkHasItsLength}
use Rattle.mu_model_wire.specs.Reports.{every_number, no_number}
use Rattle.mu_model_wire.specs.declared.reports.Report.TheVariants.{All, Nothing}
use Rattle.mu_model_node.specs.declared.LastBlock.{LastBlock}
use Rattle.mu_model_node.specs.declared.Stored.TheVariants.{Verified}
use Rattle.mu_model_node.specs.Slots.{Slots, empty, is_full, put, joined}
use Rattle.mu_model_node.specs.BlobMessages.{BlockStart, BlockGet, ChunkTransfer, BlockStatus}
use Rattle.mu_model_node.specs.FlashWork.{fresh_after}
use Rattle.mu_model_node.specs.NodeMessages.{Request, OfBlob, Reply, ByBlob}
use Rattle.mu_model_client.specs.declared.Sending.{Sending}
use Rattle.mu_model_client.specs.Client.{Client, Block, Chunks, Get, chunk_total}
use Rattle.mu_model_client.specs.Lists.{chunk_octets}
use Rattle.mu_model_client_laws.specs.Laws.{FieldsAreRead}
use Rattle.mu_model_completion.proofs.Local.{tells}
use Rattle.mu_model_completion.proofs.Pairs.{Pair, answered_by, pair_time}
use Rattle.mu_model_completion.proofs.Nodes.{Does, passes, asks, Offer, running, block_time, running_block, chunk_more, chunk_last, current_in, last_in, running_get, sealed_in, verifies, verified_time, verified_get}
use Rattle.mu_model_completion.proofs.Receivers.{view, told_block, told_get}
use Rattle.mu_model_completion.proofs.Asking.{Asking}
use Rattle.mu_model_completion.specs.Turn.{replied_by}
use Rattle.mu_model_completion.proofs.First.{runs_longer, Good, Row, row_answered, row_pending, row_later, Runs, runs_later, time_node, time_receiver, in_time, row_place}
use Rattle.mu_model_completion.proofs.Pieces.{filled, put_here, at_next, not_full, full, places, all_joined, lacking_from, one_held}

-- blocks and chunks tile the image
pub record Tiles : Type 0 where
  pub blocks_joined : BlocksAreTheImage
  pub blocks_within : BlocksAreThoseWithin
  pub block_long : BlockHasItsLength
  pub chunks_joined : ChunksAreTheBlock
  pub chunks_within : ChunksAreThoseWithin
  pub chunk_long : ChunkHasItsLength

module _ (fields : FieldsAreRead) (tiles : Tiles) (p : Sending) (meta : Meta) (image : List ℕ) (u blocks : ℕ) (good : Good p blocks) (most : ℕ) (few : 4 * most < 99)
    (whole : length image ≡ p.size) (chunk_some : 0 < p.chunk) where
  -- the blocks of the image, and the chunks of a block
  abbrev pub blk : ℕ → List ℕ
  blk b = block_of image p.log b

  abbrev pub chk : ℕ → ℕ → List ℕ
  chk b k = chunk_octets p image b k

  -- the first b blocks are held, and n are not
  abbrev pub held_of : ℕ → ℕ → Slots
  held_of b n = filled blk 0 b ++ empty n

  abbrev pub got_of : ℕ → ℕ → ℕ → Slots
  got_of b k rem = filled (chk b) 0 k ++ empty rem

  -- in block b, of whose chunks k have come and rem haven't
  pub record InBlock (b n k rem a : ℕ) (x : Pair) : Type 0 where
    pub no_pull : (p.mode == 2) ≡ false
    pub capacity : ℕ
    pub active : Image
    pub images : List Image
    pub offer : Offer p meta image capacity active
    pub count : ℕ
    pub fresh : ℕ
    pub heard : ℕ
    pub last : Option LastBlock
    pub lately : x.moment ≤ heard + 100 * a
    pub n_is : x.n ≡ running p meta image capacity active images offer u 0 0 (held_of b (suc n)) (Some (current_in p meta image capacity active images offer u 0 0 b (got_of b k rem))) last count fresh heard x.moment

  abbrev pub last_of : ℕ → LastBlock
  last_of b = record { number = b; chunk_size = p.chunk }

  -- ---- time

  module _ (v : Client) (x : Pair) where
    in_block_passes : (b n k rem a : ℕ) → a < 99 → (h : InBlock b n k rem a x)
        → Does (passes x.n (x.moment + 100)) (running p meta image h.capacity h.active h.images h.offer u 0 0 (held_of b (suc n)) (Some (current_in p meta image h.capacity h.active h.images h.offer u 0 0 b (got_of b k rem))) h.last h.count h.fresh h.heard (x.moment + 100)) []
    in_block_passes b n k rem a lt h =
        subst (λ s. Does (passes s (x.moment + 100)) (running p meta image h.capacity h.active h.images h.offer u 0 0 (held_of b (suc n)) (Some (current_in p meta image h.capacity h.active h.images h.offer u 0 0 b (got_of b k rem))) h.last h.count h.fresh h.heard (x.moment + 100)) []) (sym h.n_is)
        (block_time p meta image h.capacity h.active h.images h.offer u 0 0 (held_of b (suc n)) (current_in p meta image h.capacity h.active h.images h.offer u 0 0 b (got_of b k rem)) h.last h.count h.fresh h.heard x.moment (x.moment + 100)
        h.no_pull (not_full blk b 0 n) (omega arith) (in_time p x.moment h.heard a h.lately lt))

    pub in_block_later : (b n k rem a : ℕ) → a < 99 → InBlock b n k rem a x → InBlock b n k rem (suc a) (pair_time v u x) × ((pair_time v u x).r ≡ x.r)
    in_block_later b n k rem a lt h = (
      record {
        no_pull = h.no_pull;
        capacity = h.capacity;
        active = h.active;
        images = h.images;
        offer = h.offer;
        count = h.count;
        fresh = h.fresh;
        heard = h.heard;
        last = h.last;
        lately = (let l = h.lately in omega (arith, l));
        n_is = time_node v u x _ (in_block_passes b n k rem a lt h);
      },
      time_receiver v u x _ (in_block_passes b n k rem a lt h),
    )

  -- ---- 5 block

  abbrev pub SomeRun : Slots → ℕ → Pair → Type 0
  SomeRun held a x = (last : Option LastBlock) × Runs fields p meta image u blocks good most few held last a x

  abbrev pub SomeRow : ℕ → List Bool → Pair → Type 0
  SomeRow phase bs x = (cs : List Bool) × Row phase bs cs true x

  abbrev pub BlockW : ℕ → ℕ → ℕ → Pair → Type 0
  BlockW b n j x = SomeRow 2 (lacking_from b (suc n)) x × SomeRun (held_of b (suc n)) (most + j) x

  abbrev pub BlockD : ℕ → ℕ → ℕ → ℕ → Pair → Type 0
  BlockD b n c j x = Row 2 (lacking_from b (suc n)) (every_number (suc c)) false x × InBlock b n 0 (suc c) j x

  abbrev pub block_request : ℕ → Request
  block_request b = OfBlob (BlockStart b p.chunk)

  abbrev pub block_reply : ℕ → Reply
  block_reply b = ByBlob (BlockStatus 0 b p.chunk All)

  pub there : (b n : ℕ) → nat_le (length (held_of b (suc n))) b ≡ false
  there b n = let h = places blk b 0 (suc n) in grind (arith, nat_tests, h)

  module _ (b n c : ℕ) (total : chunk_total p b ≡ suc c) (j : ℕ) (x : Pair) (w : BlockW b n j x) where
    pub begins_block : Does (asks x.n u (block_request b) x.moment)
        (running p meta image w.1.1.capacity w.1.1.active w.1.1.images w.1.1.offer u 0 0 (held_of b (suc n)) (Some (current_in p meta image w.1.1.capacity w.1.1.active w.1.1.images w.1.1.offer u 0 0 b (empty (suc c)))) w.1.0 w.1.1.count w.1.1.fresh x.moment x.moment)
        ((u, block_reply b) ∷ [])
    begins_block =
        subst (λ s. Does (asks s u (block_request b) x.moment)
        (running p meta image w.1.1.capacity w.1.1.active w.1.1.images w.1.1.offer u 0 0 (held_of b (suc n)) (Some (current_in p meta image w.1.1.capacity w.1.1.active w.1.1.images w.1.1.offer u 0 0 b (empty (suc c)))) w.1.0 w.1.1.count w.1.1.fresh x.moment x.moment)
        ((u, block_reply b) ∷ [])) (sym w.1.1.n_is)
        (running_block p meta image w.1.1.capacity w.1.1.active w.1.1.images w.1.1.offer u 0 0 (held_of b (suc n)) w.1.0 w.1.1.count w.1.1.fresh w.1.1.heard x.moment b c total (not_full blk b 0 n) (there b n) (at_next blk b 0 n))

    pub block_answered : (p.mode == 2) ≡ false → BlockD b n c j (answered_by (view p meta (Block b)) u x (asks x.n u (block_request b) x.moment))
    block_answered no_pull = (
      row_answered (view p meta (Block b)) u x (block_request b) _ (block_reply b) 2 2 (lacking_from b (suc n)) w.0.0 (lacking_from b (suc n)) (every_number (suc c)) begins_block w.0.1
          (told_block p meta x.config.address b c (lacking_from b (suc n)) w.0.0 total),
      record {
        no_pull = no_pull;
        capacity = w.1.1.capacity;
        active = w.1.1.active;
        images = w.1.1.images;
        offer = w.1.1.offer;
        count = w.1.1.count;
        fresh = w.1.1.fresh;
        heard = x.moment;
        last = w.1.0;
        lately = omega arith;
        n_is = begins_block.next_is;
      },
    )

  run_later : (v : Client) (x : Pair) (held : Slots) (a j : ℕ) → is_full held ≡ false → a + j < 99 → SomeRun held (a + j) x → SomeRun held (a + suc j) (pair_time v u x) × ((pair_time v u x).r ≡ x.r)
  run_later v x held a j short lt h =
      let t = runs_later fields p meta image u blocks good most few v x held h.0 (a + j) short lt h.1 in
      let e : suc (a + j) ≡ a + suc j = omega arith in
      ((h.0, subst (λ n. Runs fields p meta image u blocks good most few held h.0 n (pair_time v u x)) e t.0), t.1)

  -- while it waits
  pub block_waits : (b n j : ℕ) (x : Pair) → j < most → BlockW b n j x → BlockW b n (suc j) (pair_time (view p meta (Block b)) u x) × ((pair_time (view p meta (Block b)) u x).r ≡ x.r)
  block_waits b n j x lt w =
      let t = run_later (view p meta (Block b)) x (held_of b (suc n)) most j (not_full blk b 0 n) (omega (arith, lt, few)) w.1 in
      (((w.0.0, row_later fields p meta image u blocks good most few (view p meta (Block b)) x 2 (lacking_from b (suc n)) w.0.0 true t.1 w.0.1), t.0), t.1)

  pub block_asking : (p.mode == 2) ≡ false → (b n c : ℕ) → chunk_total p b ≡ suc c → Asking p meta u (Block b) (block_request b) (BlockW b n) (BlockD b n c) most
  block_asking no_pull b n c total = record {
    waits = λ j x w. row_pending fields p meta image u blocks good most few 2 (lacking_from b (suc n)) w.0.0 true x w.0.1;
    is_done = λ j x w. row_pending fields p meta image u blocks good most few 2 (lacking_from b (suc n)) (every_number (suc c)) false x w.0;
    place = λ j x w. row_place 2 (lacking_from b (suc n)) w.0.0 true x w.0.1;
    message = λ j x w. refl;
    time_waits = λ j x lt w. block_waits b n j x lt w;
    time_done = λ j x lt w. (let t = in_block_later (view p meta (Block b)) x b n 0 (suc c) j (omega (arith, lt, few)) w.1 in
        ((row_later fields p meta image u blocks good most few (view p meta (Block b)) x 2 (lacking_from b (suc n)) (every_number (suc c)) false t.1 w.0, t.0), t.1));
    asked = λ j x w. block_answered b n c total (suc j) x w no_pull;
    counts = λ c. refl;
  }

  -- ---- when all blocks are held

  pub image_joined : (b : ℕ) → b ≡ suc blocks → joined (held_of b 0) ≡ image
  image_joined b e =
      let count : block_count (length image) p.log ≡ b = ap (λ m. block_count m p.log) whole ∙ (good.total ∙ sym e) in
      all_joined blk b 0 ∙ (ap (λ m. concat (map blk (range_with_len 0 m))) (sym count) ∙ tiles.blocks_joined image p.log)

  -- verified
  pub record IsVerified (held : Slots) (last : Option LastBlock) (x : Pair) : Type 0 where
    pub capacity : ℕ
    pub active : Image
    pub images : List Image
    pub offer : Offer p meta image capacity active
    pub count : ℕ
    pub fresh : ℕ
    pub heard : ℕ
    pub n_is : x.n ≡ sealed_in p meta image capacity active images offer u 0 0 Verified held last count fresh heard x.moment

  -- all is there: verified, or at first not yet
  abbrev pub Sealing : Slots → Option LastBlock → ℕ → Pair → Type 0
  Sealing held last zero x = ((a : ℕ) × Runs fields p meta image u blocks good most few held last a x) ⊎ IsVerified held last x
  Sealing held last (suc j) x = IsVerified held last x

  module _ (v : Client) (x : Pair) (held : Slots) (last : Option LastBlock) where
    verified_passes : (h : IsVerified held last x) → Does (passes x.n (x.moment + 100)) (sealed_in p meta image h.capacity h.active h.images h.offer u 0 0 Verified held last h.count h.fresh h.heard (x.moment + 100)) []
    verified_passes h =
        subst (λ s. Does (passes s (x.moment + 100)) (sealed_in p meta image h.capacity h.active h.images h.offer u 0 0 Verified held last h.count h.fresh h.heard (x.moment + 100)) []) (sym h.n_is)
        (verified_time p meta image h.capacity h.active h.images h.offer u 0 0 held last h.count h.fresh h.heard x.moment (x.moment + 100) (omega arith))

    pub verified_later : IsVerified held last x → IsVerified held last (pair_time v u x) × ((pair_time v u x).r ≡ x.r)
    verified_later h = (
      record {
        capacity = h.capacity;
        active = h.active;
        images = h.images;
        offer = h.offer;
        count = h.count;
        fresh = h.fresh;
        heard = h.heard;
        n_is = time_node v u x _ (verified_passes h);
      },
      time_receiver v u x _ (verified_passes h),
    )

    becomes_verified : (a : ℕ) → is_full held ≡ true → joined held ≡ image → (h : Runs fields p meta image u blocks good most few held last a x)
        → Does (passes x.n (x.moment + 100)) (sealed_in p meta image h.capacity h.active h.images h.offer u 0 0 Verified held last (h.count + 1) (fresh_after false h.fresh) h.heard (x.moment + 100)) []
    becomes_verified a all is h =
        subst (λ s. Does (passes s (x.moment + 100)) (sealed_in p meta image h.capacity h.active h.images h.offer u 0 0 Verified held last (h.count + 1) (fresh_after false h.fresh) h.heard (x.moment + 100)) []) (sym h.n_is)
        (verifies p meta image h.capacity h.active h.images h.offer u 0 0 held last h.count h.fresh h.heard x.moment (x.moment + 100) all (ap (λ octets. is_fit octets meta) is ∙ h.offer.fit) (omega arith))

    seals : (a : ℕ) → is_full held ≡ true → joined held ≡ image → Runs fields p meta image u blocks good most few held last a x → IsVerified held last (pair_time v u x) × ((pair_time v u x).r ≡ x.r)
    seals a all is h = (
      record {
        capacity = h.capacity;
        active = h.active;
        images = h.images;
        offer = h.offer;
        count = h.count + 1;
        fresh = fresh_after false h.fresh;
        heard = h.heard;
        n_is = time_node v u x _ (becomes_verified a all is h);
      },
      time_receiver v u x _ (becomes_verified a all is h),
    )

    pub sealing_later : (j : ℕ) → is_full held ≡ true → joined held ≡ image → Sealing held last j x → IsVerified held last (pair_time v u x) × ((pair_time v u x).r ≡ x.r)
    sealing_later zero all is (inl h) = seals h.0 all is h.1
    sealing_later zero all is (inr h) = verified_later h
    sealing_later (suc j) all is h = verified_later h

  -- ---- 6 chunks

  -- it holds the block, with n blocks missing: with none it is verified, or will be
  abbrev pub HasBlock : (b n a : ℕ) → Pair → Type 0
  HasBlock b zero a x = Sealing (held_of (suc b) 0) (Some (last_of b)) 0 x
  HasBlock b (suc n) a x = Runs fields p meta image u blocks good most few (held_of (suc b) (suc n)) (Some (last_of b)) a x

  has_now : (b n a : ℕ) (x : Pair) → Runs fields p meta image u blocks good most few (held_of (suc b) n) (Some (last_of b)) a x → HasBlock b n a x
  has_now b zero a x h = inl (a, h)
  has_now b (suc n) a x h = h

  has_longer : (b n a c : ℕ) (x : Pair) → a ≤ c → HasBlock b n a x → HasBlock b n c x
  has_longer b zero a c x le h = h
  has_longer b (suc n) a c x le h = runs_longer fields p meta image u blocks good most few (held_of (suc b) (suc n)) (Some (last_of b)) a c x le h

  -- time at a node that holds it
  pub has_later : (v : Client) (x : Pair) (b n a : ℕ) → b + suc n ≡ suc blocks → a < 99 → HasBlock b n a x → HasBlock b n (suc a) (pair_time v u x) × ((pair_time v u x).r ≡ x.r)
  has_later v x b zero a sum lt h =
      let t = sealing_later v x (held_of (suc b) 0) (Some (last_of b)) 0 (full blk (suc b) 0) (image_joined (suc b) (omega (arith, sum))) h in
      (inr t.0, t.1)
  has_later v x b (suc n) a sum lt h = runs_later fields p meta image u blocks good most few v x (held_of (suc b) (suc n)) (Some (last_of b)) a (not_full blk (suc b) 0 n) lt h

  -- while chunks are missing it is in the block; then it holds the block
  abbrev pub Chunked : ℕ → ℕ → ℕ → ℕ → ℕ → Pair → Type 0
  Chunked b n k zero a x = HasBlock b n a x
  Chunked b n k (suc rem) a x = InBlock b n k (suc rem) a x

  in_block_longer : (b n k rem a c : ℕ) (x : Pair) → a ≤ c → InBlock b n k rem a x → InBlock b n k rem c x
  in_block_longer b n k rem a c x le h = record {
    no_pull = h.no_pull;
    capacity = h.capacity;
    active = h.active;
    images = h.images;
    offer = h.offer;
    count = h.count;
    fresh = h.fresh;
    heard = h.heard;
    last = h.last;
    n_is = h.n_is;
    lately = (let l = h.lately in omega (arith, l, le));
  }

  pub chunked_longer : (b n k rem a c : ℕ) (x : Pair) → a ≤ c → Chunked b n k rem a x → Chunked b n k rem c x
  chunked_longer b n k zero a c x le h = has_longer b n a c x le h
  chunked_longer b n k (suc rem) a c x le h = in_block_longer b n k (suc rem) a c x le h

  abbrev pub chunk_request : ℕ → ℕ → Request
  chunk_request b k = OfBlob (ChunkTransfer k (chk b k))

  -- the octets are that chunk's
  pub long_is : (b k : ℕ) → length (chk b k) ≡ chunk_length (block_length p.size p.log b) p.chunk k
  long_is b k = tiles.chunk_long (block_of image p.log b) p.chunk k ∙ ap (λ m. chunk_length m p.chunk k) (tiles.block_long image p.log b ∙ ap (λ m. block_length m p.log b) whole)

  pub below_places : (b k rem : ℕ) → nat_le (length (got_of b k (suc rem))) k ≡ false
  below_places b k rem = let h = places (chk b) k 0 (suc rem) in grind (arith, nat_tests, h)

  -- all chunks joined are the block
  pub block_joined : (b c : ℕ) → chunk_total p b ≡ c → joined (got_of b c 0) ≡ blk b
  block_joined b c total =
      let count : chunk_count (length (block_of image p.log b)) p.chunk ≡ c =
      ap (λ m. chunk_count m p.chunk) (tiles.block_long image p.log b ∙ ap (λ m. block_length m p.log b) whole) ∙ total in
      all_joined (chk b) c 0
      ∙ (ap (λ m. concat (map (chk b) (range_with_len 0 m))) (sym count) ∙ tiles.chunks_joined (block_of image p.log b) p.chunk chunk_some)

  module _ (b n c : ℕ) (total : chunk_total p b ≡ suc c) (k : ℕ) (x : Pair) (a : ℕ) where
    -- not the last one
    module _ (rem : ℕ) (h : InBlock b n k (suc (suc rem)) a x) where
      takes_more : Does (asks x.n u (chunk_request b k) x.moment)
          (running p meta image h.capacity h.active h.images h.offer u 0 0 (held_of b (suc n)) (Some (current_in p meta image h.capacity h.active h.images h.offer u 0 0 b (put (got_of b k (suc (suc rem))) k (chk b k)))) h.last h.count h.fresh x.moment x.moment) []
      takes_more =
          subst (λ s. Does (asks s u (chunk_request b k) x.moment)
          (running p meta image h.capacity h.active h.images h.offer u 0 0 (held_of b (suc n)) (Some (current_in p meta image h.capacity h.active h.images h.offer u 0 0 b (put (got_of b k (suc (suc rem))) k (chk b k)))) h.last h.count h.fresh x.moment x.moment) []) (sym h.n_is)
          (chunk_more p meta image h.capacity h.active h.images h.offer u 0 0 (held_of b (suc n)) h.last h.count h.fresh h.heard x.moment b (got_of b k (suc (suc rem))) k (chk b k)
          (not_full blk b 0 n) (below_places b k (suc rem)) (eq-eqb _ _ (long_is b k)) (at_next (chk b) k 0 (suc rem))
          (ap is_full (put_here (chk b) k (suc rem)) ∙ not_full (chk b) (suc k) 0 rem))

      pub one_more : InBlock b n (suc k) (suc rem) 0 (answered_by (view p meta (Chunks b)) u x (asks x.n u (chunk_request b k) x.moment))
      one_more = record {
        no_pull = h.no_pull;
        capacity = h.capacity;
        active = h.active;
        images = h.images;
        offer = h.offer;
        count = h.count;
        fresh = h.fresh;
        heard = x.moment;
        last = h.last;
        lately = omega arith;
        n_is = takes_more.next_is ∙ ap (λ got. running p meta image h.capacity h.active h.images h.offer u 0 0 (held_of b (suc n)) (Some (current_in p meta image h.capacity h.active h.images h.offer u 0 0 b got)) h.last h.count h.fresh x.moment x.moment) (put_here (chk b) k (suc rem));
      }

    -- the last one
    module _ (last_one : k ≡ c) (h : InBlock b n k 1 a x) where
      takes_last : Does (asks x.n u (chunk_request b k) x.moment)
          (running p meta image h.capacity h.active h.images h.offer u 0 0 (put (held_of b (suc n)) b (joined (put (got_of b k 1) k (chk b k)))) None (Some (last_in p meta image h.capacity h.active h.images h.offer u 0 0 b)) h.count h.fresh x.moment x.moment) []
      takes_last =
          subst (λ s. Does (asks s u (chunk_request b k) x.moment)
          (running p meta image h.capacity h.active h.images h.offer u 0 0 (put (held_of b (suc n)) b (joined (put (got_of b k 1) k (chk b k)))) None (Some (last_in p meta image h.capacity h.active h.images h.offer u 0 0 b)) h.count h.fresh x.moment x.moment) []) (sym h.n_is)
          (chunk_last p meta image h.capacity h.active h.images h.offer u 0 0 (held_of b (suc n)) h.last h.count h.fresh h.heard x.moment b (got_of b k 1) k (chk b k)
          h.no_pull (not_full blk b 0 n) (below_places b k 0) (eq-eqb _ _ (long_is b k)) (at_next (chk b) k 0 0)
          (ap is_full (put_here (chk b) k 0) ∙ full (chk b) (suc k) 0))

      now_held : put (held_of b (suc n)) b (joined (put (got_of b k 1) k (chk b k))) ≡ held_of (suc b) n
      now_held =
          ap (λ octets. put (held_of b (suc n)) b octets) (ap joined (put_here (chk b) k 0) ∙ block_joined b (suc k) (total ∙ ap suc (sym last_one))) ∙ put_here blk b n

      pub the_last : Runs fields p meta image u blocks good most few (held_of (suc b) n) (Some (last_of b)) 0 (answered_by (view p meta (Chunks b)) u x (asks x.n u (chunk_request b k) x.moment))
      the_last = record {
        capacity = h.capacity;
        active = h.active;
        images = h.images;
        offer = h.offer;
        count = h.count;
        fresh = h.fresh;
        heard = x.moment;
        lately = omega arith;
        n_is = takes_last.next_is ∙ ap (λ held. running p meta image h.capacity h.active h.images h.offer u 0 0 held None (Some (last_of b)) h.count h.fresh x.moment x.moment) now_held;
      }

    -- a chunk, and nothing is answered
    pub chunk_taken : (rem : ℕ) → k + suc rem ≡ suc c → Chunked b n k (suc rem) a x
        → Chunked b n (suc k) rem 0 (answered_by (view p meta (Chunks b)) u x (asks x.n u (chunk_request b k) x.moment))
        × ((answered_by (view p meta (Chunks b)) u x (asks x.n u (chunk_request b k) x.moment)).r ≡ x.r)
    chunk_taken zero sum h = (has_now b n 0 _ (the_last (omega (arith, sum)) h), ap (λ replies. tells (view p meta (Chunks b)) u (map (replied_by x.config.address) replies) x.r) (takes_last (omega (arith, sum)) h).says)
    chunk_taken (suc rem) sum h = (one_more rem h, ap (λ replies. tells (view p meta (Chunks b)) u (map (replied_by x.config.address) replies) x.r) (takes_more rem h).says)

  -- ---- 7 get

  -- after block b, with n blocks missing
  abbrev pub After : (base b n j : ℕ) → Pair → Type 0
  After base b zero j x = Sealing (held_of (suc b) 0) (Some (last_of b)) j x
  After base b (suc n) j x = Runs fields p meta image u blocks good most few (held_of (suc b) (suc n)) (Some (last_of b)) (base + j) x

  abbrev pub GetW : ℕ → ℕ → ℕ → ℕ → Pair → Type 0
  GetW b n c j x = Row 2 (lacking_from b (suc n)) (every_number (suc c)) true x × After (3 * most) b n j x

  abbrev pub GetD : ℕ → ℕ → ℕ → ℕ → Pair → Type 0
  GetD b n c j x = Row 2 (lacking_from (suc b) n) (no_number (suc c)) false x × After 0 b n j x

  after_later : (v : Client) (x : Pair) (base b n j : ℕ) → b + suc n ≡ suc blocks → base + j < 99 → After base b n j x → After base b n (suc j) (pair_time v u x) × ((pair_time v u x).r ≡ x.r)
  after_later v x base b zero j sum lt h = sealing_later v x (held_of (suc b) 0) (Some (last_of b)) j (full blk (suc b) 0) (image_joined (suc b) (omega (arith, sum))) h
  after_later v x base b (suc n) j sum lt h =
      let t = runs_later fields p meta image u blocks good most few v x (held_of (suc b) (suc n)) (Some (last_of b)) (base + j) (not_full blk (suc b) 0 n) lt h in
      let e : suc (base + j) ≡ base + suc j = omega arith in
      (subst (λ m. Runs fields p meta image u blocks good most few (held_of (suc b) (suc n)) (Some (last_of b)) m (pair_time v u x)) e t.0, t.1)

  abbrev pub get_reply : ℕ → Reply
  get_reply b = ByBlob (BlockStatus 0 b p.chunk Nothing)

  module _ (b c : ℕ) (total : chunk_total p b ≡ suc c) (x : Pair) where
    -- while blocks are missing
    module _ (n j : ℕ) (row : Row 2 (lacking_from b (suc (suc n))) (every_number (suc c)) true x) (a : ℕ) (h : Runs fields p meta image u blocks good most few (held_of (suc b) (suc n)) (Some (last_of b)) a x) where
      gets : Does (asks x.n u (OfBlob BlockGet) x.moment) (running p meta image h.capacity h.active h.images h.offer u 0 0 (held_of (suc b) (suc n)) None (Some (last_of b)) h.count h.fresh x.moment x.moment) ((u, get_reply b) ∷ [])
      gets =
          subst (λ s. Does (asks s u (OfBlob BlockGet) x.moment) (running p meta image h.capacity h.active h.images h.offer u 0 0 (held_of (suc b) (suc n)) None (Some (last_of b)) h.count h.fresh x.moment x.moment) ((u, get_reply b) ∷ [])) (sym h.n_is)
          (running_get p meta image h.capacity h.active h.images h.offer u 0 0 (held_of (suc b) (suc n)) b h.count h.fresh h.heard x.moment (not_full blk (suc b) 0 n))

      get_more : GetD b (suc n) c j (answered_by (view p meta (Get b)) u x (asks x.n u (OfBlob BlockGet) x.moment))
      get_more = (
        subst (λ bs. Row 2 bs (no_number (suc c)) false (answered_by (view p meta (Get b)) u x (asks x.n u (OfBlob BlockGet) x.moment))) (one_held b (suc n))
            (row_answered (view p meta (Get b)) u x (OfBlob BlockGet) _ (get_reply b) 2 2 (lacking_from b (suc (suc n))) (every_number (suc c)) (set (lacking_from b (suc (suc n))) b false) (no_number (suc c)) gets row
            (told_get p meta x.config.address b c (lacking_from b (suc (suc n))) total)),
        record {
          capacity = h.capacity;
          active = h.active;
          images = h.images;
          offer = h.offer;
          count = h.count;
          fresh = h.fresh;
          heard = x.moment;
          lately = omega arith;
          n_is = gets.next_is;
        },
      )

    -- after the last block
    module _ (j : ℕ) (row : Row 2 (lacking_from b 1) (every_number (suc c)) true x) (h : IsVerified (held_of (suc b) 0) (Some (last_of b)) x) where
      gets_last : Does (asks x.n u (OfBlob BlockGet) x.moment) (sealed_in p meta image h.capacity h.active h.images h.offer u 0 0 Verified (held_of (suc b) 0) (Some (last_of b)) h.count h.fresh h.heard x.moment) ((u, get_reply b) ∷ [])
      gets_last =
          subst (λ s. Does (asks s u (OfBlob BlockGet) x.moment) (sealed_in p meta image h.capacity h.active h.images h.offer u 0 0 Verified (held_of (suc b) 0) (Some (last_of b)) h.count h.fresh h.heard x.moment) ((u, get_reply b) ∷ [])) (sym h.n_is)
          (verified_get p meta image h.capacity h.active h.images h.offer u 0 0 (held_of (suc b) 0) b h.count h.fresh h.heard x.moment)

      get_last : GetD b 0 c (suc j) (answered_by (view p meta (Get b)) u x (asks x.n u (OfBlob BlockGet) x.moment))
      get_last = (
        subst (λ bs. Row 2 bs (no_number (suc c)) false (answered_by (view p meta (Get b)) u x (asks x.n u (OfBlob BlockGet) x.moment))) (one_held b 0)
            (row_answered (view p meta (Get b)) u x (OfBlob BlockGet) _ (get_reply b) 2 2 (lacking_from b 1) (every_number (suc c)) (set (lacking_from b 1) b false) (no_number (suc c)) gets_last row
            (told_get p meta x.config.address b c (lacking_from b 1) total)),
        record {
          capacity = h.capacity;
          active = h.active;
          images = h.images;
          offer = h.offer;
          count = h.count;
          fresh = h.fresh;
          heard = h.heard;
          n_is = gets_last.next_is;
        },
      )

    pub get_answered : (n j : ℕ) → GetW b n c (suc j) x → GetD b n c (suc j) (answered_by (view p meta (Get b)) u x (asks x.n u (OfBlob BlockGet) x.moment))
    get_answered zero j w = get_last j w.0 w.1
    get_answered (suc n) j w = get_more n (suc j) w.0 (3 * most + suc j) w.1

  pub get_asking : (b n c : ℕ) → chunk_total p b ≡ suc c → b + suc n ≡ suc blocks → Asking p meta u (Get b) (OfBlob BlockGet) (GetW b n c) (GetD b n c) most
  get_asking b n c total sum = record {
    waits = λ j x w. row_pending fields p meta image u blocks good most few 2 (lacking_from b (suc n)) (every_number (suc c)) true x w.0;
    is_done = λ j x w. row_pending fields p meta image u blocks good most few 2 (lacking_from (suc b) n) (no_number (suc c)) false x w.0;
    place = λ j x w. row_place 2 (lacking_from b (suc n)) (every_number (suc c)) true x w.0;
    message = λ j x w. refl;
    time_waits = λ j x lt w. (let t = after_later (view p meta (Get b)) x (3 * most) b n j sum (omega (arith, lt, few)) w.1 in
        ((row_later fields p meta image u blocks good most few (view p meta (Get b)) x 2 (lacking_from b (suc n)) (every_number (suc c)) true t.1 w.0, t.0), t.1));
    time_done = λ j x lt w. (let t = after_later (view p meta (Get b)) x 0 b n j sum (omega (arith, lt, few)) w.1 in
        ((row_later fields p meta image u blocks good most few (view p meta (Get b)) x 2 (lacking_from (suc b) n) (no_number (suc c)) false t.1 w.0, t.0), t.1));
    asked = λ j x w. get_answered b c total x n j w;
    counts = λ c. refl;
  }
