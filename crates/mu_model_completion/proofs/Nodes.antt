-- A node along an update in which nothing is lost: what time and each request make of it.
use Rattle.std.proofs.Common.{◌≡◌, ◌<◌, ◌≤◌, ◌+◌, ◌*◌, ◌==◌, ℕ, suc, List, [], ◌∷◌, refl, ap, ◌∙◌, true, false, Option, Some, None, arith, max, length}
use Rattle.std.specs.Prelude.{◌||◌, nat_lt, nat_le}
use Rattle.std.proofs.lemmas.Bool.{eq-eqb}
use Rattle.std.proofs.lemmas.Bool.Decides.{nat_tests}
use Rattle.mu_model_image.specs.declared.Meta.{Meta}
use Rattle.mu_model_image.specs.Meta.{Image, meta_octets, meta_from, is_fit, firmware_id, own_company}
use Rattle.mu_model_image.specs.Pieces.{block_length, chunk_length}
use Rattle.mu_model_wire.specs.declared.reports.Report.TheVariants.{All, Nothing}
use Rattle.mu_model_node.specs.declared.Parameters.{Parameters}
use Rattle.mu_model_node.specs.declared.Link.{Link}
use Rattle.mu_model_node.specs.declared.Link.TheVariants.{Cut, Ready, Running}
use Rattle.mu_model_node.specs.declared.LastBlock.{LastBlock}
use Rattle.mu_model_node.specs.declared.Stored.{Stored}
use Rattle.mu_model_node.specs.declared.Stored.TheVariants.{Filling, Verified, Applied}
use Rattle.mu_model_node.specs.Slots.{Slots, empty, at, put, is_full, missing, joined}
use Rattle.mu_model_node.specs.BlobMessages.{BlobInformationGet, TransferStart, BlockStart, BlockGet, ChunkTransfer, BlobInformationStatus, TransferStatus, BlockStatus, own_mtu}
use Rattle.mu_model_node.specs.UpdateMessages.{InformationGet, MetadataCheck, StartUpdate, UpdateGet, UpdateApply, ShownJob, InformationStatus, MetadataStatus, UpdateStatus}
use Rattle.mu_model_node.specs.NodeMessages.{Request, OfUpdate, OfBlob, Reply, ByUpdate, ByBlob}
use Rattle.mu_model_node.specs.BlobServer.{CurrentBlock, Session}
use Rattle.mu_model_node.specs.FlashWork.{fresh_after}
use Rattle.mu_model_node.specs.NodeState.{Job, NodeState, update_phase}
use Rattle.mu_model_node.specs.NodeOutcome.{Outcome}
use Rattle.mu_model_node.specs.Events.{at_moment, on_request}
use Rattle.mu_model_node.specs.TimeTable.{on_time}
use Rattle.mu_model_client.specs.declared.Sending.{Sending}
use Rattle.mu_model_client.specs.Client.{block_total, chunk_total}

-- what an event comes to
pub record Does (o : Outcome) (next : NodeState) (replies : List (ℕ × Reply)) : Type 0 where
  pub next_is : o.next ≡ next
  pub says : o.replies ≡ replies

abbrev pub passes : NodeState → ℕ → Outcome
passes n now = on_time (at_moment n now) (update_phase (at_moment n now))

abbrev pub asks : NodeState → ℕ → Request → ℕ → Outcome
asks n from request now = on_request (at_moment n now) from request

pub same : (n : ℕ) → (n == n) ≡ true
same n = eq-eqb n n refl

pub later_is : (m n : ℕ) → m ≤ n → max m n ≡ n
later_is m n h = omega arith

not_yet : (h n k : ℕ) → n < h + k → nat_le (h + k) n ≡ false
not_yet h n k lt = grind (arith, nat_tests)

-- what a plan offers, and that a node takes it
pub record Offer (p : Sending) (meta : Meta) (image : List ℕ) (capacity : ℕ) (active : Image) : Type 0 where
  pub metadata : meta_from (meta_octets meta) ≡ Some meta
  pub size : p.size ≡ meta.size
  pub fit : is_fit image meta ≡ true
  pub room : nat_lt capacity meta.size ≡ false
  pub newer : nat_le meta.version active.meta.version ≡ false
  pub log : (nat_lt p.log 12 || nat_lt 14 p.log) ≡ false
  pub chunk : (nat_lt p.chunk 8 || nat_lt 376 p.chunk) ≡ false

module _ (p : Sending) (meta : Meta) where
  abbrev pub parameters : Parameters
  parameters = record { mode = p.mode; size = p.size; log = p.log; mtu = own_mtu }

  abbrev pub job_in : Stored → Option Parameters → Slots → Job
  job_in stored q held = record { id = p.id; index = 0; meta = meta; ttl = p.ttl; base = p.base; stored = stored; parameters = q; held = held }

  abbrev pub shown : ShownJob
  shown = record { ttl = p.ttl; base = p.base; id = p.id; index = 0 }

-- what isn't looked at: counts of records and slots, and when it was heard
pub record Rest : Type 0 where
  pub count : ℕ
  pub fresh : ℕ
  pub heard : ℕ

abbrev pub node_at : ℕ → List Image → Option Job → (count fresh : ℕ) → Session → (moment : ℕ) → NodeState
node_at capacity images job count fresh session moment =
    record { durable = record { count = count; capacity = capacity; images = images; job = job }; fresh = fresh; session = session; moment = moment }

abbrev pub session_in : Link → Option CurrentBlock → Option LastBlock → Option ℕ → (heard : ℕ) → Session
session_in link current last client heard = record { link = link; current = current; last = last; client = client; heard = heard; report = None }

-- ---- idle: whatever else it has

abbrev pub idle : ℕ → List Image → (count fresh : ℕ) → Session → ℕ → NodeState
idle capacity images count fresh session moment = node_at capacity images None count fresh session moment

module _ (capacity : ℕ) (active : Image) (images : List Image) (count fresh : ℕ) (session : Session) where
  pub idle_time : (m now : ℕ) → m ≤ now → Does (passes (idle capacity (active ∷ images) count fresh session m) now) (idle capacity (active ∷ images) count fresh session now) []
  idle_time m now le = let x : max m now ≡ now = later_is m now le in record { next_is = rw x refl; says = refl }

  module _ (p : Sending) (meta : Meta) (image : List ℕ) (o : Offer p meta image capacity active) (u now : ℕ) where
    -- 1
    pub idle_check : (m : ℕ) → m ≤ now → Does (asks (idle capacity (active ∷ images) count fresh session m) u (OfUpdate (MetadataCheck 0 (meta_octets meta))) now)
        (idle capacity (active ∷ images) count fresh session now) ((u, ByUpdate (MetadataStatus 0 0)) ∷ [])
    idle_check m le = let x : max m now ≡ now = later_is m now le in record { next_is = rw x refl; says = rw (o.metadata, o.room, o.newer) refl }

    -- 2
    abbrev pub taken_by : (count fresh heard moment : ℕ) → NodeState
    taken_by c f h m = node_at capacity (active ∷ images) (Some (job_in p meta Filling None [])) c f (session_in Ready None None None h) m

    pub idle_start : (m : ℕ) → m ≤ now → Does
        (asks (idle capacity (active ∷ images) count fresh session m) u (OfUpdate (StartUpdate (record { ttl = p.ttl; base = p.base; id = p.id; index = 0; metadata = meta_octets meta }))) now)
        (taken_by (count + 1) (fresh_after false fresh) now now) ((u, ByUpdate (UpdateStatus 0 2 (Some (shown p meta)))) ∷ [])
    idle_start m le = let x : max m now ≡ now = later_is m now le in record { next_is = rw (x, o.metadata, o.room, o.newer) refl; says = rw (o.metadata, o.room, o.newer) refl }

-- ---- with the job

module _ (p : Sending) (meta : Meta) (image : List ℕ) (capacity : ℕ) (active : Image) (images : List Image) (o : Offer p meta image capacity active) (u count fresh : ℕ) where
  abbrev pub taken : (heard moment : ℕ) → NodeState
  taken h m = node_at capacity (active ∷ images) (Some (job_in p meta Filling None [])) count fresh (session_in Ready None None None h) m

  pub taken_time : (h m now : ℕ) → m ≤ now → now < h + 10000 * (p.base + 1) → Does (passes (taken h m) now) (taken h now) []
  taken_time h m now le lt =
      let e : max m now ≡ now = later_is m now le in
      let f : nat_le (h + 10000 * (p.base + 1)) now ≡ false = not_yet h now _ lt in
      record { next_is = rw (e, f) refl; says = rw (e, f) refl }

  -- 3
  pub taken_information : (h now : ℕ) → Does (asks (taken h now) u (OfBlob BlobInformationGet) now) (taken h now) ((u, ByBlob (BlobInformationStatus capacity)) ∷ [])
  taken_information h now = let f : max now now ≡ now = later_is now now (omega arith) in record { next_is = rw f refl; says = refl }

  -- the transfer runs
  abbrev pub running : Slots → Option CurrentBlock → Option LastBlock → (count fresh heard moment : ℕ) → NodeState
  running held current last c f h m =
      node_at capacity (active ∷ images) (Some (job_in p meta Filling (Some (parameters p meta)) held)) c f (session_in Running current last (Some u) h) m

  -- 4: not all blocks are held at first
  pub taken_transfer : (h now blocks : ℕ) → block_total p ≡ blocks → is_full (empty blocks) ≡ false
      → Does (asks (taken h now) u (OfBlob (TransferStart p.id (parameters p meta))) now) (running (empty blocks) None None (count + 1) (fresh_after false fresh) now now)
      ((u, ByBlob (TransferStatus 0 p.mode 2 (Some p.id) (Some (parameters p meta)) (missing (empty blocks)))) ∷ [])
  taken_transfer h now blocks n short =
      let f : max now now ≡ now = later_is now now (omega arith) in
      let s : (p.size == meta.size) ≡ true = eq-eqb _ _ o.size in
      let r : nat_lt capacity p.size ≡ false = ap (λ x. nat_lt capacity x) o.size ∙ o.room in
      record { next_is = rw (f, same p.id, r, o.log, s, n) refl; says = rw (f, same p.id, r, o.log, s, n, short) refl }

  -- ---- in a block

  pub running_time : (held : Slots) (last : Option LastBlock) (c f h m now : ℕ) → is_full held ≡ false → m ≤ now → now < h + 10000 * (p.base + 1)
      → Does (passes (running held None last c f h m) now) (running held None last c f h now) []
  running_time held last c f h m now short le lt =
      let x : max m now ≡ now = later_is m now le in
      let y : nat_le (h + 10000 * (p.base + 1)) now ≡ false = not_yet h now _ lt in
      record { next_is = rw (short, x, y, short) refl; says = rw (short, x, y, short) refl }

  pub block_time : (held : Slots) (b : CurrentBlock) (last : Option LastBlock) (c f h m now : ℕ) → (p.mode == 2) ≡ false → is_full held ≡ false → m ≤ now → now < h + 10000 * (p.base + 1)
      → Does (passes (running held (Some b) last c f h m) now) (running held (Some b) last c f h now) []
  block_time held b last c f h m now push short le lt =
      let x : max m now ≡ now = later_is m now le in
      let y : nat_le (h + 10000 * (p.base + 1)) now ≡ false = not_yet h now _ lt in
      record { next_is = rw (short, x, y, short, push) refl; says = rw (short, x, y, short, push) refl }

  abbrev pub current_in : ℕ → Slots → CurrentBlock
  current_in b chunks = record { number = b; chunk_size = p.chunk; chunks = chunks }

  abbrev pub last_in : ℕ → LastBlock
  last_in b = record { number = b; chunk_size = p.chunk }

  -- 5
  pub running_block : (held : Slots) (last : Option LastBlock) (c f h now b n : ℕ) → chunk_total p b ≡ suc n
      → is_full held ≡ false → nat_le (length held) b ≡ false → at held b ≡ None
      → Does (asks (running held None last c f h now) u (OfBlob (BlockStart b p.chunk)) now) (running held (Some (current_in b (empty (suc n)))) last c f now now)
      ((u, ByBlob (BlockStatus 0 b p.chunk All)) ∷ [])
  running_block held last c f h now b n total short there free =
      let x : max now now ≡ now = later_is now now (omega arith) in
      record { next_is = rw (x, short, there, o.chunk, free, total, x) refl; says = rw (x, short, there, o.chunk, free) refl }

  abbrev pub chunk_long : ℕ → ℕ → ℕ
  chunk_long b k = chunk_length (block_length p.size p.log b) p.chunk k

  -- 6: a chunk, not the last
  pub chunk_more : (held : Slots) (last : Option LastBlock) (c f h now b : ℕ) (chunks : Slots) (k : ℕ) (octets : List ℕ)
      → is_full held ≡ false → nat_le (length chunks) k ≡ false → (length octets == chunk_long b k) ≡ true → at chunks k ≡ None → is_full (put chunks k octets) ≡ false
      → Does (asks (running held (Some (current_in b chunks)) last c f h now) u (OfBlob (ChunkTransfer k octets)) now)
      (running held (Some (current_in b (put chunks k octets))) last c f now now) []
  chunk_more held last c f h now b chunks k octets short there long free more =
      let x : max now now ≡ now = later_is now now (omega arith) in
      record { next_is = rw (x, short, there, long, free, more, x) refl; says = rw (x, short, there, long, free, more) refl }

  -- the last one
  pub chunk_last : (held : Slots) (last : Option LastBlock) (c f h now b : ℕ) (chunks : Slots) (k : ℕ) (octets : List ℕ)
      → (p.mode == 2) ≡ false → is_full held ≡ false → nat_le (length chunks) k ≡ false → (length octets == chunk_long b k) ≡ true → at chunks k ≡ None → is_full (put chunks k octets) ≡ true
      → Does (asks (running held (Some (current_in b chunks)) last c f h now) u (OfBlob (ChunkTransfer k octets)) now)
      (running (put held b (joined (put chunks k octets))) None (Some (last_in b)) c f now now) []
  chunk_last held last c f h now b chunks k octets push short there long free more =
      let x : max now now ≡ now = later_is now now (omega arith) in
      record { next_is = rw (x, short, there, long, free, more, x) refl; says = rw (x, short, there, long, free, more, push) refl }

  -- 7, while blocks are missing
  pub running_get : (held : Slots) (b c f h now : ℕ) → is_full held ≡ false
      → Does (asks (running held None (Some (last_in b)) c f h now) u (OfBlob BlockGet) now) (running held None (Some (last_in b)) c f now now)
      ((u, ByBlob (BlockStatus 0 b p.chunk Nothing)) ∷ [])
  running_get held b c f h now short =
      let x : max now now ≡ now = later_is now now (omega arith) in
      record { next_is = rw (x, short, x) refl; says = rw (x, short) refl }

  -- ---- all is held

  abbrev pub sealed_in : Stored → Slots → Option LastBlock → (count fresh heard moment : ℕ) → NodeState
  sealed_in stored held last c f h m =
      node_at capacity (active ∷ images) (Some (job_in p meta stored (Some (parameters p meta)) held)) c f (session_in Running None last (Some u) h) m

  -- it is verified
  pub verifies : (held : Slots) (last : Option LastBlock) (c f h m now : ℕ) → is_full held ≡ true → is_fit (joined held) meta ≡ true → m ≤ now
      → Does (passes (running held None last c f h m) now) (sealed_in Verified held last (c + 1) (fresh_after false f) h now) []
  verifies held last c f h m now full fit le =
      let x : max m now ≡ now = later_is m now le in
      record { next_is = rw (full, x, fit) refl; says = rw full refl }

  pub verified_time : (held : Slots) (last : Option LastBlock) (c f h m now : ℕ) → m ≤ now
      → Does (passes (sealed_in Verified held last c f h m) now) (sealed_in Verified held last c f h now) []
  verified_time held last c f h m now le = let x : max m now ≡ now = later_is m now le in record { next_is = rw x refl; says = refl }

  -- 7, after the last block
  pub verified_get : (held : Slots) (b c f h now : ℕ)
      → Does (asks (sealed_in Verified held (Some (last_in b)) c f h now) u (OfBlob BlockGet) now) (sealed_in Verified held (Some (last_in b)) c f h now)
      ((u, ByBlob (BlockStatus 0 b p.chunk Nothing)) ∷ [])
  verified_get held b c f h now = let x : max now now ≡ now = later_is now now (omega arith) in record { next_is = rw x refl; says = refl }

  -- 8
  pub verified_status : (held : Slots) (last : Option LastBlock) (c f h now : ℕ)
      → Does (asks (sealed_in Verified held last c f h now) u (OfUpdate UpdateGet) now) (sealed_in Verified held last c f h now) ((u, ByUpdate (UpdateStatus 0 4 (Some (shown p meta)))) ∷ [])
  verified_status held last c f h now = let x : max now now ≡ now = later_is now now (omega arith) in record { next_is = rw x refl; says = refl }

  -- 9
  pub applies : (held : Slots) (last : Option LastBlock) (c f h now : ℕ)
      → Does (asks (sealed_in Verified held last c f h now) u (OfUpdate UpdateApply) now) (sealed_in Applied held last (c + 1) (fresh_after false f) h now)
      ((u, ByUpdate (UpdateStatus 0 6 (Some (shown p meta)))) ∷ [])
  applies held last c f h now = let x : max now now ≡ now = later_is now now (omega arith) in record { next_is = rw x refl; says = refl }

  -- the image is made active
  abbrev pub after_all : ℕ → Session
  after_all h = session_in Cut None None None h

  pub activates : (held : Slots) (last : Option LastBlock) (c f h m now : ℕ) → m ≤ now
      → Does (passes (sealed_in Applied held last c f h m) now)
      (idle capacity (record { octets = joined held; meta = meta } ∷ images) (c + 1) (fresh_after false f) (after_all h) now) []
  activates held last c f h m now le = let x : max m now ≡ now = later_is m now le in record { next_is = rw x refl; says = refl }

-- 10
pub idle_information : (capacity : ℕ) (active : Image) (images : List Image) (count fresh : ℕ) (session : Session) (u now : ℕ)
    → Does (asks (idle capacity (active ∷ images) count fresh session now) u (OfUpdate (InformationGet 0 1)) now) (idle capacity (active ∷ images) count fresh session now)
    ((u, ByUpdate (InformationStatus (length (active ∷ images)) 0 (firmware_id own_company active.meta ∷ []))) ∷ [])
idle_information capacity active images count fresh session u now = let x : max now now ≡ now = later_is now now (omega arith) in record { next_is = rw x refl; says = refl }
