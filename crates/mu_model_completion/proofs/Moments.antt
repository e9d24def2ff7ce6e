-- A node in each step of an update in which it answers, at any moment: what time and the client's requests make of it.
use Rattle.std.proofs.Common.{◌≡◌, ◌<◌, ◌≤◌, ◌+◌, ◌*◌, ◌==◌, ℕ, suc, List, [], ◌∷◌, refl, sym, ap, ◌∙◌, subst, true, false, Bool, Option, Some, None, arith, max, length}
use Rattle.std.specs.Prelude.{nat_le}
use Rattle.std.proofs.lemmas.Bool.{eq-eqb}
use Rattle.std.proofs.lemmas.Bool.Decides.{nat_tests}
use Rattle.mu_model_image.specs.declared.Meta.{Meta}
use Rattle.mu_model_image.specs.Meta.{Image, is_fit, meta_octets, firmware_id, own_company}
use Rattle.mu_model_wire.specs.declared.reports.Report.TheVariants.{All, Nothing}
use Rattle.mu_model_node.specs.declared.LastBlock.{LastBlock}
use Rattle.mu_model_node.specs.declared.Stored.TheVariants.{Verified, Applied}
use Rattle.mu_model_node.specs.Slots.{Slots, empty, is_full, missing, put, joined}
use Rattle.mu_model_node.specs.BlobMessages.{BlobInformationGet, TransferStart, BlockStart, BlockGet, ChunkTransfer, BlobInformationStatus, TransferStatus, BlockStatus}
use Rattle.mu_model_node.specs.UpdateMessages.{MetadataCheck, StartUpdate, UpdateGet, UpdateApply, InformationGet, MetadataStatus, UpdateStatus, InformationStatus}
use Rattle.mu_model_node.specs.NodeMessages.{Request, OfUpdate, OfBlob, Reply, ByUpdate, ByBlob}
use Rattle.mu_model_node.specs.BlobServer.{CurrentBlock, Session}
use Rattle.mu_model_node.specs.FlashWork.{fresh_after}
use Rattle.mu_model_node.specs.NodeState.{NodeState, update_phase, update_number}
use Rattle.mu_model_node.specs.NodeOutcome.{Outcome}
use Rattle.mu_model_node.specs.Events.{at_moment, on_request}
use Rattle.mu_model_node.specs.TimeTable.{on_time}
use Rattle.mu_model_client.specs.declared.Sending.{Sending}
use Rattle.mu_model_client.specs.Client.{chunk_total}
use Rattle.mu_model_client_laws.specs.Laws.{FieldsAreRead}
use Rattle.mu_model_completion.specs.Answering.{node_timed}
use Rattle.mu_model_completion.proofs.Nodes as n
use Rattle.mu_model_completion.proofs.Nodes.{Does, passes, asks, Offer}
use Rattle.mu_model_completion.proofs.First.{Good}
use Rattle.mu_model_completion.proofs.Pieces.{put_here, at_next, not_full, full}
use Rattle.mu_model_completion.proofs.Blocks.{Tiles, held_of, got_of, last_of, there, below_places, long_is, block_joined, image_joined, chk, blk}

-- ---- at the later of two moments

twice : (m now : ℕ) → max m (max m now) ≡ max m now
twice m now = omega arith

module _ (f : ℕ → NodeState) (at_ : (m k : ℕ) → at_moment (f m) k ≡ f (max m k)) (m now : ℕ) where
  both : at_moment (f m) now ≡ at_moment (f m) (max m now)
  both = at_ m now ∙ (ap f (sym (twice m now)) ∙ sym (at_ m (max m now)))

  same_max : max (max m now) (max m now) ≡ max m now
  same_max = omega arith

  pub timed_later : node_timed now (f m) ≡ passes (f m) (max m now)
  timed_later = ap (λ s. on_time s (update_phase s)) both

  pub asked_later : (u : ℕ) (request : Request) → on_request (at_moment (f m) now) u request ≡ asks (f (max m now)) u request (max m now)
  asked_later u request = ap (λ s. on_request s u request) (at_ m now ∙ (ap f (sym same_max) ∙ sym (at_ (max m now) (max m now))))

-- an outcome without replies, and with one
pub record Quiet (P : NodeState → Type 0) (o : Outcome) : Type 0 where
  pub next : P o.next
  pub silent : o.replies ≡ []

pub record Says (u : ℕ) (reply : Reply) (P : NodeState → Type 0) (o : Outcome) : Type 0 where
  pub next : P o.next
  pub says : o.replies ≡ (u, reply) ∷ []

pub quiet_at : (P : NodeState → Type 0) (o e : Outcome) (next : NodeState) → o ≡ e → Does e next [] → P next → Quiet P o
quiet_at P o e next same does holds = subst (Quiet P) (sym same) (record { next = subst P (sym does.next_is) holds; silent = does.says })

pub says_at : (u : ℕ) (reply : Reply) (P : NodeState → Type 0) (o e : Outcome) (next : NodeState) → o ≡ e → Does e next ((u, reply) ∷ []) → P next → Says u reply P o
says_at u reply P o e next same does holds = subst (Says u reply P) (sym same) (record { next = subst P (sym does.next_is) holds; says = does.says })

pub few : 4 * 1 < 99
few = omega arith

module _ (fields : FieldsAreRead) (tiles : Tiles) (p : Sending) (meta : Meta) (image : List ℕ) (blocks : ℕ) (good : Good p blocks) (whole : length image ≡ p.size) (chunk_some : 0 < p.chunk)
    (capacity : ℕ) (active : Image) (images : List Image) (o : Offer p meta image capacity active) (u : ℕ) where
  -- ---- forms of the state

  abbrev pub idle_at : (count fresh : ℕ) → Session → ℕ → NodeState
  idle_at c f session m = n.idle capacity (active ∷ images) c f session m

  abbrev pub taken_at : (count fresh heard moment : ℕ) → NodeState
  taken_at c f h m = n.taken p meta image capacity active images o u c f h m

  abbrev pub running_at : Slots → Option CurrentBlock → Option LastBlock → (count fresh heard moment : ℕ) → NodeState
  running_at held current last c f h m = n.running p meta image capacity active images o u 0 0 held current last c f h m

  abbrev pub sealed_at : Slots → Option LastBlock → (count fresh heard moment : ℕ) → NodeState
  sealed_at held last c f h m = n.sealed_in p meta image capacity active images o u 0 0 Verified held last c f h m

  abbrev pub applied_at : Slots → Option LastBlock → (count fresh heard moment : ℕ) → NodeState
  applied_at held last c f h m = n.sealed_in p meta image capacity active images o u 0 0 Applied held last c f h m

  abbrev pub new_image : Slots → Image
  new_image held = record { octets = joined held; meta = meta }

  abbrev pub done_at : Slots → (count fresh : ℕ) → Session → ℕ → NodeState
  done_at held c f session m = n.idle capacity (new_image held ∷ images) c f session m

  -- ---- what it is in

  abbrev pub held : ℕ → ℕ → Slots
  held k n = held_of fields tiles p meta image u blocks good 1 few whole chunk_some k n

  abbrev pub got : ℕ → ℕ → ℕ → Slots
  got k j rem = got_of fields tiles p meta image u blocks good 1 few whole chunk_some k j rem

  abbrev pub current : ℕ → Slots → CurrentBlock
  current k chunks = n.current_in p meta image capacity active images o u 0 0 k chunks

  abbrev pub last : ℕ → LastBlock
  last k = last_of fields tiles p meta image u blocks good 1 few whole chunk_some k

  pub record IsIdle (s : NodeState) : Type 0 where
    pub count : ℕ
    pub fresh : ℕ
    pub session : Session
    pub moment : ℕ
    pub is : s ≡ idle_at count fresh session moment

  pub record IsTaken (s : NodeState) : Type 0 where
    pub count : ℕ
    pub fresh : ℕ
    pub heard : ℕ
    pub moment : ℕ
    pub is : s ≡ taken_at count fresh heard moment

  pub record IsRunning (slots : Slots) (block : Option CurrentBlock) (before : Option LastBlock) (s : NodeState) : Type 0 where
    pub count : ℕ
    pub fresh : ℕ
    pub heard : ℕ
    pub moment : ℕ
    pub is : s ≡ running_at slots block before count fresh heard moment

  pub record IsSealed (slots : Slots) (before : Option LastBlock) (s : NodeState) : Type 0 where
    pub count : ℕ
    pub fresh : ℕ
    pub heard : ℕ
    pub moment : ℕ
    pub is : s ≡ sealed_at slots before count fresh heard moment

  pub record IsApplied (slots : Slots) (before : Option LastBlock) (s : NodeState) : Type 0 where
    pub count : ℕ
    pub fresh : ℕ
    pub heard : ℕ
    pub moment : ℕ
    pub is : s ≡ applied_at slots before count fresh heard moment

  pub record IsDone (slots : Slots) (s : NodeState) : Type 0 where
    pub count : ℕ
    pub fresh : ℕ
    pub session : Session
    pub moment : ℕ
    pub is : s ≡ done_at slots count fresh session moment

  -- ---- time

  abbrev pub LinkStands : ℕ → NodeState → Type 0
  LinkStands now s = (update_number (update_phase (node_timed now s).next) == 1) ≡ false

  pub true_false : {A : Type 0} → true ≡ false → A
  true_false h = absurd (no h)
    where
      no : true ≡ false → ⊥
      no e = grind (arith, e)

  pub before_end : (h n k : ℕ) → nat_le (h + k) n ≡ false → n < h + k
  before_end h n k e = grind (arith, nat_tests, e)

  pub idle_time : (s : NodeState) (now : ℕ) → IsIdle s → Quiet IsIdle (node_timed now s)
  idle_time s now h =
      subst (λ z. Quiet IsIdle (node_timed now z)) (sym h.is)
      (quiet_at IsIdle _ _ _ (timed_later (λ m. idle_at h.count h.fresh h.session m) (λ m k. refl) h.moment now)
      (n.idle_time capacity active images h.count h.fresh h.session h.moment (max h.moment now) (omega arith))
      (record { count = h.count; fresh = h.fresh; session = h.session; moment = max h.moment now; is = refl }))

  -- the link would be cut
  taken_cut : (c f h m now : ℕ) → m ≤ now → nat_le (h + 10000 * (p.base + 1)) now ≡ true → (update_number (update_phase (passes (taken_at c f h m) now).next) == 1) ≡ true
  taken_cut c f h m now le late =
      let x : max m now ≡ now = n.later_is m now le in
      rw (x, late) refl

  pub taken_time : (s : NodeState) (now : ℕ) → IsTaken s → LinkStands now s → Quiet IsTaken (node_timed now s)
  taken_time s now h stands = by_case (nat_le (h.heard + 10000 * (p.base + 1)) (max h.moment now)) refl
    where
      same_time : node_timed now s ≡ passes (taken_at h.count h.fresh h.heard h.moment) (max h.moment now)
      same_time = ap (node_timed now) h.is ∙ timed_later (λ m. taken_at h.count h.fresh h.heard m) (λ m k. refl) h.moment now

      by_case : (b : Bool) → nat_le (h.heard + 10000 * (p.base + 1)) (max h.moment now) ≡ b → Quiet IsTaken (node_timed now s)
      by_case true e = true_false (sym (ap (λ (z : Outcome). update_number (update_phase z.next) == 1) same_time ∙ taken_cut h.count h.fresh h.heard h.moment (max h.moment now) (omega arith) e) ∙ stands)
      by_case false e =
          quiet_at IsTaken _ _ _ same_time
          (n.taken_time p meta image capacity active images o u h.count h.fresh h.heard h.moment (max h.moment now) (omega arith) (before_end h.heard (max h.moment now) (10000 * (p.base + 1)) e))
          (record { count = h.count; fresh = h.fresh; heard = h.heard; moment = max h.moment now; is = refl })

  running_cut : (slots : Slots) (block : Option CurrentBlock) (before : Option LastBlock) (c f h m now : ℕ) → is_full slots ≡ false → m ≤ now → nat_le (h + 10000 * (p.base + 1)) now ≡ true
      → (update_number (update_phase (passes (running_at slots block before c f h m) now).next) == 1) ≡ true
  running_cut slots block before c f h m now short le late =
      let x : max m now ≡ now = n.later_is m now le in
      rw (short, x, late, short) refl

  module _ (slots : Slots) (block : Option CurrentBlock) (before : Option LastBlock) (short : is_full slots ≡ false)
      (waits : (c f h m now : ℕ) → m ≤ now → now < h + 10000 * (p.base + 1) → Does (passes (running_at slots block before c f h m) now) (running_at slots block before c f h now) []) where
    pub running_time : (s : NodeState) (now : ℕ) → IsRunning slots block before s → LinkStands now s → Quiet (IsRunning slots block before) (node_timed now s)
    running_time s now h stands = by_case (nat_le (h.heard + 10000 * (p.base + 1)) (max h.moment now)) refl
      where
        same_time : node_timed now s ≡ passes (running_at slots block before h.count h.fresh h.heard h.moment) (max h.moment now)
        same_time = ap (node_timed now) h.is ∙ timed_later (λ m. running_at slots block before h.count h.fresh h.heard m) (λ m k. refl) h.moment now

        by_case : (b : Bool) → nat_le (h.heard + 10000 * (p.base + 1)) (max h.moment now) ≡ b → Quiet (IsRunning slots block before) (node_timed now s)
        by_case true e =
            true_false (sym (ap (λ (z : Outcome). update_number (update_phase z.next) == 1) same_time ∙ running_cut slots block before h.count h.fresh h.heard h.moment (max h.moment now) short (omega arith) e) ∙ stands)
        by_case false e =
            quiet_at (IsRunning slots block before) _ _ _ same_time
            (waits h.count h.fresh h.heard h.moment (max h.moment now) (omega arith) (before_end h.heard (max h.moment now) (10000 * (p.base + 1)) e))
            (record { count = h.count; fresh = h.fresh; heard = h.heard; moment = max h.moment now; is = refl })

  -- between blocks, and in one in push
  pub between_time : (slots : Slots) (before : Option LastBlock) → is_full slots ≡ false → (s : NodeState) (now : ℕ) → IsRunning slots None before s → LinkStands now s → Quiet (IsRunning slots None before) (node_timed now s)
  between_time slots before short =
      running_time slots None before short (λ c f h m now le lt. n.running_time p meta image capacity active images o u 0 0 slots before c f h m now short le lt)

  pub block_time : (p.mode == 2) ≡ false → (slots : Slots) (b : CurrentBlock) (before : Option LastBlock) → is_full slots ≡ false → (s : NodeState) (now : ℕ) → IsRunning slots (Some b) before s → LinkStands now s
      → Quiet (IsRunning slots (Some b) before) (node_timed now s)
  block_time no_pull slots b before short =
      running_time slots (Some b) before short (λ c f h m now le lt. n.block_time p meta image capacity active images o u 0 0 slots b before c f h m now no_pull short le lt)

  -- all is there: it is verified
  pub seals : (before : Option LastBlock) (s : NodeState) (now : ℕ) → IsRunning (held (suc blocks) 0) None before s → Quiet (IsSealed (held (suc blocks) 0) before) (node_timed now s)
  seals before s now h =
      let all : is_full (held (suc blocks) 0) ≡ true = full (blk fields tiles p meta image u blocks good 1 few whole chunk_some) (suc blocks) 0 in
      let is : joined (held (suc blocks) 0) ≡ image = image_joined fields tiles p meta image u blocks good 1 few whole chunk_some (suc blocks) refl in
      subst (λ z. Quiet (IsSealed (held (suc blocks) 0) before) (node_timed now z)) (sym h.is)
      (quiet_at (IsSealed (held (suc blocks) 0) before) _ _ _ (timed_later (λ m. running_at (held (suc blocks) 0) None before h.count h.fresh h.heard m) (λ m k. refl) h.moment now)
      (n.verifies p meta image capacity active images o u 0 0 (held (suc blocks) 0) before h.count h.fresh h.heard h.moment (max h.moment now) all (ap (λ octets. is_fit octets meta) is ∙ o.fit) (omega arith))
      (record { count = h.count + 1; fresh = fresh_after false h.fresh; heard = h.heard; moment = max h.moment now; is = refl }))

  pub sealed_time : (slots : Slots) (before : Option LastBlock) (s : NodeState) (now : ℕ) → IsSealed slots before s → Quiet (IsSealed slots before) (node_timed now s)
  sealed_time slots before s now h =
      subst (λ z. Quiet (IsSealed slots before) (node_timed now z)) (sym h.is)
      (quiet_at (IsSealed slots before) _ _ _ (timed_later (λ m. sealed_at slots before h.count h.fresh h.heard m) (λ m k. refl) h.moment now)
      (n.verified_time p meta image capacity active images o u 0 0 slots before h.count h.fresh h.heard h.moment (max h.moment now) (omega arith))
      (record { count = h.count; fresh = h.fresh; heard = h.heard; moment = max h.moment now; is = refl }))

  pub activates : (slots : Slots) (before : Option LastBlock) (s : NodeState) (now : ℕ) → IsApplied slots before s → Quiet (IsDone slots) (node_timed now s)
  activates slots before s now h =
      subst (λ z. Quiet (IsDone slots) (node_timed now z)) (sym h.is)
      (quiet_at (IsDone slots) _ _ _ (timed_later (λ m. applied_at slots before h.count h.fresh h.heard m) (λ m k. refl) h.moment now)
      (n.activates p meta image capacity active images o u 0 0 slots before h.count h.fresh h.heard h.moment (max h.moment now) (omega arith))
      (record { count = h.count + 1; fresh = fresh_after false h.fresh; session = n.after_all p meta image capacity active images o u 0 0 h.heard; moment = max h.moment now; is = refl }))

  pub done_time : (slots : Slots) (s : NodeState) (now : ℕ) → IsDone slots s → Quiet (IsDone slots) (node_timed now s)
  done_time slots s now h =
      subst (λ z. Quiet (IsDone slots) (node_timed now z)) (sym h.is)
      (quiet_at (IsDone slots) _ _ _ (timed_later (λ m. done_at slots h.count h.fresh h.session m) (λ m k. refl) h.moment now)
      (n.idle_time capacity (new_image slots) images h.count h.fresh h.session h.moment (max h.moment now) (omega arith))
      (record { count = h.count; fresh = h.fresh; session = h.session; moment = max h.moment now; is = refl }))

  -- ---- what it is asked

  abbrev pub asked_at : NodeState → ℕ → Request → Outcome
  asked_at s now request = on_request (at_moment s now) u request

  pub checks : (s : NodeState) (now : ℕ) → IsIdle s → Says u (ByUpdate (MetadataStatus 0 0)) IsIdle (asked_at s now (OfUpdate (MetadataCheck 0 (meta_octets meta))))
  checks s now h =
      subst (λ z. Says u (ByUpdate (MetadataStatus 0 0)) IsIdle (asked_at z now (OfUpdate (MetadataCheck 0 (meta_octets meta))))) (sym h.is)
      (says_at u (ByUpdate (MetadataStatus 0 0)) IsIdle _ _ _ (asked_later (λ m. idle_at h.count h.fresh h.session m) (λ m k. refl) h.moment now u (OfUpdate (MetadataCheck 0 (meta_octets meta))))
      (n.idle_check capacity active images h.count h.fresh h.session p meta image o u (max h.moment now) (max h.moment now) (omega arith))
      (record { count = h.count; fresh = h.fresh; session = h.session; moment = max h.moment now; is = refl }))

  abbrev pub start_request : Request
  start_request = OfUpdate (StartUpdate (record { ttl = p.ttl; base = p.base; id = p.id; index = 0; metadata = meta_octets meta }))

  abbrev pub update_reply : ℕ → Reply
  update_reply phase = ByUpdate (UpdateStatus 0 phase (Some (n.shown p meta)))

  pub starts : (s : NodeState) (now : ℕ) → IsIdle s → Says u (update_reply 2) IsTaken (asked_at s now start_request)
  starts s now h =
      subst (λ z. Says u (update_reply 2) IsTaken (asked_at z now start_request)) (sym h.is)
      (says_at u (update_reply 2) IsTaken _ _ _ (asked_later (λ m. idle_at h.count h.fresh h.session m) (λ m k. refl) h.moment now u start_request)
      (n.idle_start capacity active images h.count h.fresh h.session p meta image o u (max h.moment now) (max h.moment now) (omega arith))
      (record { count = h.count + 1; fresh = fresh_after false h.fresh; heard = max h.moment now; moment = max h.moment now; is = refl }))

  pub informs : (s : NodeState) (now : ℕ) → IsTaken s → Says u (ByBlob (BlobInformationStatus capacity)) IsTaken (asked_at s now (OfBlob BlobInformationGet))
  informs s now h =
      subst (λ z. Says u (ByBlob (BlobInformationStatus capacity)) IsTaken (asked_at z now (OfBlob BlobInformationGet))) (sym h.is)
      (says_at u (ByBlob (BlobInformationStatus capacity)) IsTaken _ _ _ (asked_later (λ m. taken_at h.count h.fresh h.heard m) (λ m k. refl) h.moment now u (OfBlob BlobInformationGet))
      (n.taken_information p meta image capacity active images o u h.count h.fresh h.heard (max h.moment now))
      (record { count = h.count; fresh = h.fresh; heard = h.heard; moment = max h.moment now; is = refl }))

  abbrev pub transfer_request : Request
  transfer_request = OfBlob (TransferStart p.id (n.parameters p meta))

  abbrev pub transfer_reply : Reply
  transfer_reply = ByBlob (TransferStatus 0 p.mode 2 (Some p.id) (Some (n.parameters p meta)) (missing (empty (suc blocks))))

  pub transfers : (s : NodeState) (now : ℕ) → IsTaken s → Says u transfer_reply (IsRunning (held 0 (suc blocks)) None None) (asked_at s now transfer_request)
  transfers s now h =
      subst (λ z. Says u transfer_reply (IsRunning (held 0 (suc blocks)) None None) (asked_at z now transfer_request)) (sym h.is)
      (says_at u transfer_reply (IsRunning (held 0 (suc blocks)) None None) _ _ _ (asked_later (λ m. taken_at h.count h.fresh h.heard m) (λ m k. refl) h.moment now u transfer_request)
      (n.taken_transfer p meta image capacity active images o u h.count h.fresh h.heard (max h.moment now) (suc blocks) good.total refl)
      (record { count = h.count + 1; fresh = fresh_after false h.fresh; heard = max h.moment now; moment = max h.moment now; is = refl }))

  -- ---- blocks

  abbrev pub block_request : ℕ → Request
  block_request k = OfBlob (BlockStart k p.chunk)

  abbrev pub block_reply : ℕ → Reply
  block_reply k = ByBlob (BlockStatus 0 k p.chunk All)

  pub opens : (k m c : ℕ) → chunk_total p k ≡ suc c → (before : Option LastBlock) (s : NodeState) (now : ℕ) → IsRunning (held k (suc m)) None before s
      → Says u (block_reply k) (IsRunning (held k (suc m)) (Some (current k (got k 0 (suc c)))) before) (asked_at s now (block_request k))
  opens k m c total before s now h =
      subst (λ z. Says u (block_reply k) (IsRunning (held k (suc m)) (Some (current k (got k 0 (suc c)))) before) (asked_at z now (block_request k))) (sym h.is)
      (says_at u (block_reply k) (IsRunning (held k (suc m)) (Some (current k (got k 0 (suc c)))) before) _ _ _
      (asked_later (λ i. running_at (held k (suc m)) None before h.count h.fresh h.heard i) (λ i j. refl) h.moment now u (block_request k))
      (n.running_block p meta image capacity active images o u 0 0 (held k (suc m)) before h.count h.fresh h.heard (max h.moment now) k c total
      (not_full (blk fields tiles p meta image u blocks good 1 few whole chunk_some) k 0 m) (there fields tiles p meta image u blocks good 1 few whole chunk_some k m) (at_next (blk fields tiles p meta image u blocks good 1 few whole chunk_some) k 0 m))
      (record { count = h.count; fresh = h.fresh; heard = max h.moment now; moment = max h.moment now; is = refl }))

  abbrev pub chunk_request : ℕ → ℕ → Request
  chunk_request k j = OfBlob (ChunkTransfer j (chk fields tiles p meta image u blocks good 1 few whole chunk_some k j))

  module _ (k m c : ℕ) (total : chunk_total p k ≡ suc c) (j : ℕ) (before : Option LastBlock) (s : NodeState) (now : ℕ) where
    abbrev chunk : ℕ → List ℕ
    chunk i = chk fields tiles p meta image u blocks good 1 few whole chunk_some k i

    pub takes_more : (rem : ℕ) → IsRunning (held k (suc m)) (Some (current k (got k j (suc (suc rem))))) before s
        → Quiet (IsRunning (held k (suc m)) (Some (current k (got k (suc j) (suc rem)))) before) (asked_at s now (chunk_request k j))
    takes_more rem h =
        subst (λ z. Quiet (IsRunning (held k (suc m)) (Some (current k (got k (suc j) (suc rem)))) before) (asked_at z now (chunk_request k j))) (sym h.is)
        (quiet_at (IsRunning (held k (suc m)) (Some (current k (got k (suc j) (suc rem)))) before) _ _ _
        (asked_later (λ i. running_at (held k (suc m)) (Some (current k (got k j (suc (suc rem))))) before h.count h.fresh h.heard i) (λ i l. refl) h.moment now u (chunk_request k j))
        (n.chunk_more p meta image capacity active images o u 0 0 (held k (suc m)) before h.count h.fresh h.heard (max h.moment now) k (got k j (suc (suc rem))) j (chunk j)
        (not_full (blk fields tiles p meta image u blocks good 1 few whole chunk_some) k 0 m) (below_places fields tiles p meta image u blocks good 1 few whole chunk_some k j (suc rem))
        (eq-eqb _ _ (long_is fields tiles p meta image u blocks good 1 few whole chunk_some k j)) (at_next chunk j 0 (suc rem))
        (ap is_full (put_here chunk j (suc rem)) ∙ not_full chunk (suc j) 0 rem))
        (record {
          count = h.count;
          fresh = h.fresh;
          heard = max h.moment now;
          moment = max h.moment now;
          is = ap (λ slots. running_at (held k (suc m)) (Some (current k slots)) before h.count h.fresh (max h.moment now) (max h.moment now)) (put_here chunk j (suc rem));
        }))

    pub takes_last : (p.mode == 2) ≡ false → j ≡ c → IsRunning (held k (suc m)) (Some (current k (got k j 1))) before s
        → Quiet (IsRunning (held (suc k) m) None (Some (last k))) (asked_at s now (chunk_request k j))
    takes_last no_pull at_end h =
        subst (λ z. Quiet (IsRunning (held (suc k) m) None (Some (last k))) (asked_at z now (chunk_request k j))) (sym h.is)
        (quiet_at (IsRunning (held (suc k) m) None (Some (last k))) _ _ _
        (asked_later (λ i. running_at (held k (suc m)) (Some (current k (got k j 1))) before h.count h.fresh h.heard i) (λ i l. refl) h.moment now u (chunk_request k j))
        (n.chunk_last p meta image capacity active images o u 0 0 (held k (suc m)) before h.count h.fresh h.heard (max h.moment now) k (got k j 1) j (chunk j)
        no_pull (not_full (blk fields tiles p meta image u blocks good 1 few whole chunk_some) k 0 m) (below_places fields tiles p meta image u blocks good 1 few whole chunk_some k j 0)
        (eq-eqb _ _ (long_is fields tiles p meta image u blocks good 1 few whole chunk_some k j)) (at_next chunk j 0 0)
        (ap is_full (put_here chunk j 0) ∙ full chunk (suc j) 0))
        (record {
          count = h.count;
          fresh = h.fresh;
          heard = max h.moment now;
          moment = max h.moment now;
          is = ap (λ slots. running_at slots None (Some (last k)) h.count h.fresh (max h.moment now) (max h.moment now)) now_held;
        }))
      where
        now_held : put (held k (suc m)) k (joined (put (got k j 1) j (chunk j))) ≡ held (suc k) m
        now_held =
            ap (λ octets. put (held k (suc m)) k octets)
            (ap joined (put_here chunk j 0) ∙ block_joined fields tiles p meta image u blocks good 1 few whole chunk_some k (suc j) (total ∙ ap suc (sym at_end)))
            ∙ put_here (blk fields tiles p meta image u blocks good 1 few whole chunk_some) k m

  -- a chunk is passed over where there is no current block
  passed_over : (slots : Slots) (before : Option LastBlock) (c f h now j : ℕ) (octets : List ℕ) → is_full slots ≡ false
      → Does (asks (running_at slots None before c f h now) u (OfBlob (ChunkTransfer j octets)) now) (running_at slots None before c f h now) []
  passed_over slots before c f h now j octets short =
      let x : max now now ≡ now = n.later_is now now (omega arith) in
      record { next_is = rw (x, short, x) refl; says = rw (x, short) refl }

  passed_sealed : (slots : Slots) (before : Option LastBlock) (c f h now j : ℕ) (octets : List ℕ)
      → Does (asks (sealed_at slots before c f h now) u (OfBlob (ChunkTransfer j octets)) now) (sealed_at slots before c f h now) []
  passed_sealed slots before c f h now j octets = let x : max now now ≡ now = n.later_is now now (omega arith) in record { next_is = rw x refl; says = refl }

  pub passes_chunk : (slots : Slots) → is_full slots ≡ false → (before : Option LastBlock) (s : NodeState) (now j : ℕ) (octets : List ℕ) → IsRunning slots None before s
      → Quiet (IsRunning slots None before) (asked_at s now (OfBlob (ChunkTransfer j octets)))
  passes_chunk slots short before s now j octets h =
      subst (λ z. Quiet (IsRunning slots None before) (asked_at z now (OfBlob (ChunkTransfer j octets)))) (sym h.is)
      (quiet_at (IsRunning slots None before) _ _ _ (asked_later (λ i. running_at slots None before h.count h.fresh h.heard i) (λ i l. refl) h.moment now u (OfBlob (ChunkTransfer j octets)))
      (passed_over slots before h.count h.fresh h.heard (max h.moment now) j octets short)
      (record { count = h.count; fresh = h.fresh; heard = h.heard; moment = max h.moment now; is = refl }))

  pub seals_chunk : (slots : Slots) (before : Option LastBlock) (s : NodeState) (now j : ℕ) (octets : List ℕ) → IsSealed slots before s
      → Quiet (IsSealed slots before) (asked_at s now (OfBlob (ChunkTransfer j octets)))
  seals_chunk slots before s now j octets h =
      subst (λ z. Quiet (IsSealed slots before) (asked_at z now (OfBlob (ChunkTransfer j octets)))) (sym h.is)
      (quiet_at (IsSealed slots before) _ _ _ (asked_later (λ i. sealed_at slots before h.count h.fresh h.heard i) (λ i l. refl) h.moment now u (OfBlob (ChunkTransfer j octets)))
      (passed_sealed slots before h.count h.fresh h.heard (max h.moment now) j octets)
      (record { count = h.count; fresh = h.fresh; heard = h.heard; moment = max h.moment now; is = refl }))

  abbrev pub get_reply : ℕ → Reply
  get_reply k = ByBlob (BlockStatus 0 k p.chunk Nothing)

  pub gets_more : (k m : ℕ) (s : NodeState) (now : ℕ) → IsRunning (held (suc k) (suc m)) None (Some (last k)) s
      → Says u (get_reply k) (IsRunning (held (suc k) (suc m)) None (Some (last k))) (asked_at s now (OfBlob BlockGet))
  gets_more k m s now h =
      subst (λ z. Says u (get_reply k) (IsRunning (held (suc k) (suc m)) None (Some (last k))) (asked_at z now (OfBlob BlockGet))) (sym h.is)
      (says_at u (get_reply k) (IsRunning (held (suc k) (suc m)) None (Some (last k))) _ _ _
      (asked_later (λ i. running_at (held (suc k) (suc m)) None (Some (last k)) h.count h.fresh h.heard i) (λ i l. refl) h.moment now u (OfBlob BlockGet))
      (n.running_get p meta image capacity active images o u 0 0 (held (suc k) (suc m)) k h.count h.fresh h.heard (max h.moment now) (not_full (blk fields tiles p meta image u blocks good 1 few whole chunk_some) (suc k) 0 m))
      (record { count = h.count; fresh = h.fresh; heard = max h.moment now; moment = max h.moment now; is = refl }))

  pub gets_last : (slots : Slots) (k : ℕ) (s : NodeState) (now : ℕ) → IsSealed slots (Some (last k)) s → Says u (get_reply k) (IsSealed slots (Some (last k))) (asked_at s now (OfBlob BlockGet))
  gets_last slots k s now h =
      subst (λ z. Says u (get_reply k) (IsSealed slots (Some (last k))) (asked_at z now (OfBlob BlockGet))) (sym h.is)
      (says_at u (get_reply k) (IsSealed slots (Some (last k))) _ _ _
      (asked_later (λ i. sealed_at slots (Some (last k)) h.count h.fresh h.heard i) (λ i l. refl) h.moment now u (OfBlob BlockGet))
      (n.verified_get p meta image capacity active images o u 0 0 slots k h.count h.fresh h.heard (max h.moment now))
      (record { count = h.count; fresh = h.fresh; heard = h.heard; moment = max h.moment now; is = refl }))

  -- ---- at the end

  pub tells_verified : (slots : Slots) (before : Option LastBlock) (s : NodeState) (now : ℕ) → IsSealed slots before s → Says u (update_reply 4) (IsSealed slots before) (asked_at s now (OfUpdate UpdateGet))
  tells_verified slots before s now h =
      subst (λ z. Says u (update_reply 4) (IsSealed slots before) (asked_at z now (OfUpdate UpdateGet))) (sym h.is)
      (says_at u (update_reply 4) (IsSealed slots before) _ _ _ (asked_later (λ i. sealed_at slots before h.count h.fresh h.heard i) (λ i l. refl) h.moment now u (OfUpdate UpdateGet))
      (n.verified_status p meta image capacity active images o u 0 0 slots before h.count h.fresh h.heard (max h.moment now))
      (record { count = h.count; fresh = h.fresh; heard = h.heard; moment = max h.moment now; is = refl }))

  pub applies : (slots : Slots) (before : Option LastBlock) (s : NodeState) (now : ℕ) → IsSealed slots before s → Says u (update_reply 6) (IsApplied slots before) (asked_at s now (OfUpdate UpdateApply))
  applies slots before s now h =
      subst (λ z. Says u (update_reply 6) (IsApplied slots before) (asked_at z now (OfUpdate UpdateApply))) (sym h.is)
      (says_at u (update_reply 6) (IsApplied slots before) _ _ _ (asked_later (λ i. sealed_at slots before h.count h.fresh h.heard i) (λ i l. refl) h.moment now u (OfUpdate UpdateApply))
      (n.applies p meta image capacity active images o u 0 0 slots before h.count h.fresh h.heard (max h.moment now))
      (record { count = h.count + 1; fresh = fresh_after false h.fresh; heard = h.heard; moment = max h.moment now; is = refl }))

  abbrev pub image_reply : Reply
  image_reply = ByUpdate (InformationStatus (suc (length images)) 0 (firmware_id own_company meta ∷ []))

  pub shows : (slots : Slots) (s : NodeState) (now : ℕ) → IsDone slots s → Says u image_reply (IsDone slots) (asked_at s now (OfUpdate (InformationGet 0 1)))
  shows slots s now h =
      subst (λ z. Says u image_reply (IsDone slots) (asked_at z now (OfUpdate (InformationGet 0 1)))) (sym h.is)
      (says_at u image_reply (IsDone slots) _ _ _ (asked_later (λ i. done_at slots h.count h.fresh h.session i) (λ i l. refl) h.moment now u (OfUpdate (InformationGet 0 1)))
      (n.idle_information capacity (new_image slots) images h.count h.fresh h.session u (max h.moment now))
      (record { count = h.count; fresh = h.fresh; session = h.session; moment = max h.moment now; is = refl }))
