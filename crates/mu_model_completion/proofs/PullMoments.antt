-- A node in pull in a block at any moment, of whose chunks any have come; and a node that is in no block, at what is left of a list.
use Rattle.std.proofs.Common.{◌≡◌, ◌⊎◌, inl, inr, ◌<◌, ◌≤◌, ◌+◌, ◌*◌, ◌==◌, ℕ, zero, suc, List, [], ◌∷◌, ◌++◌, refl, sym, ap, ◌∙◌, subst, true, false, Bool, Option, Some, None, arith, max, length, append-nil}
use Rattle.std.specs.Prelude.{nat_le, is_none, is_some}
use Rattle.std.specs.List.{list_any, AllByRecursion}
use Rattle.std.proofs.lemmas.Bool.{eq-eqb}
use Rattle.mu_model_image.specs.declared.Meta.{Meta}
use Rattle.mu_model_image.specs.Meta.{Image}
use Rattle.mu_model_wire.specs.Reports.{report_of as report_in}
use Rattle.mu_model_wire.specs.declared.reports.Report.TheVariants.{All, Nothing}
use Rattle.mu_model_node.specs.declared.LastBlock.{LastBlock}
use Rattle.mu_model_node.specs.Slots.{Slots, empty, is_full, at, put, missing, joined}
use Rattle.mu_model_node.specs.BlobMessages.{BlockGet, ChunkTransfer, BlockStatus, PartialBlockReport}
use Rattle.mu_model_node.specs.BlobServer.{PullReport}
use Rattle.mu_model_node.specs.BlobTable.{asked_for}
use Rattle.mu_model_node.specs.NodeMessages.{OfBlob, Reply, ByUpdate, ByBlob}
use Rattle.mu_model_node.specs.NodeState.{NodeState, update_phase, update_number}
use Rattle.mu_model_node.specs.NodeOutcome.{Outcome}
use Rattle.mu_model_node.specs.Events.{at_moment, on_request}
use Rattle.mu_model_client.specs.declared.Sending.{Sending}
use Rattle.mu_model_client.specs.Client.{chunk_total}
use Rattle.mu_model_client_laws.specs.Laws.{FieldsAreRead}
use Rattle.mu_model_completion.specs.Answering.{node_timed}
use Rattle.mu_model_completion.proofs.Nodes as nd
use Rattle.mu_model_completion.proofs.Nodes.{Does, passes, asks, Offer}
use Rattle.mu_model_completion.proofs.First.{Good}
use Rattle.mu_model_completion.proofs.Pieces.{filled, put_here, not_full, full}
use Rattle.mu_model_completion.proofs.Blocks.{Tiles, blk, chk, long_is, block_joined}
use Rattle.mu_model_completion.proofs.PullNodes as pn
use Rattle.mu_model_completion.proofs.PullNodes.{pulling, report_of}
use Rattle.mu_model_completion.proofs.Partly.{Right, right_empty, right_put, all_right, put_long, missing_long, some_missing, Some_below, first_members}
use Rattle.mu_model_completion.proofs.Moments as m
use Rattle.mu_model_completion.proofs.Moments.{few, Quiet, Says, IsRunning, IsSealed, LinkStands, timed_later, asked_later, quiet_at, says_at, true_false, before_end}

-- an outcome whose replies are of the BLOB server: who isn't pending isn't changed by them
abbrev pub IsBlob : ℕ × Reply → Type 0
IsBlob (to, ByBlob reply) = Unit {0}
IsBlob (to, ByUpdate reply) = ⊥

pub record Ignored (P : NodeState → Type 0) (o : Outcome) : Type 0 where
  pub next : P o.next
  pub blob : AllByRecursion IsBlob o.replies

pub ignored_at : (P : NodeState → Type 0) (o e : Outcome) (next : NodeState) (replies : List (ℕ × Reply)) → o ≡ e → Does e next replies → AllByRecursion IsBlob replies → P next → Ignored P o
ignored_at P o e next replies same does blob holds = subst (Ignored P) (sym same) (record { next = subst P (sym does.next_is) holds; blob = subst (AllByRecursion IsBlob) (sym does.says) blob })

pub quiet_ignored : (P : NodeState → Type 0) (o : Outcome) → Quiet P o → Ignored P o
quiet_ignored P o h = record { next = h.next; blob = subst (AllByRecursion IsBlob) (sym h.silent) tt }

module _ (fields : FieldsAreRead) (tiles : Tiles) (p : Sending) (meta : Meta) (image : List ℕ) (blocks : ℕ) (good : Good p blocks) (whole : length image ≡ p.size) (chunk_some : 0 < p.chunk)
    (capacity : ℕ) (active : Image) (images : List Image) (o : Offer p meta image capacity active) (u : ℕ) where
  abbrev held : ℕ → ℕ → Slots
  held k n = m.held fields tiles p meta image blocks good whole chunk_some capacity active images o u k n

  abbrev last : ℕ → LastBlock
  last k = m.last fields tiles p meta image blocks good whole chunk_some capacity active images o u k

  abbrev chunk : ℕ → ℕ → List ℕ
  chunk k j = chk fields tiles p meta image u blocks good 1 few whole chunk_some k j

  abbrev pull_at : (k n : ℕ) → Slots → Option LastBlock → Option PullReport → (count fresh heard moment : ℕ) → NodeState
  pull_at k n slots before report c f h i = pulling p meta image capacity active images o u (held k (suc n)) (nd.current_in p meta image capacity active images o u 0 0 k slots) before report c f h i

  -- in block k, of which it misses some chunks
  pub record IsPulling (k n c : ℕ) (s : NodeState) : Type 0 where
    pub slots : Slots
    pub long : length slots ≡ suc c
    pub right : Right (chunk k) 0 slots
    pub more : is_full slots ≡ false
    pub before : Option LastBlock
    pub report : Option PullReport
    pub count : ℕ
    pub fresh : ℕ
    pub heard : ℕ
    pub moment : ℕ
    pub is : s ≡ pull_at k n slots before report count fresh heard moment

  short : (k n : ℕ) → is_full (held k (suc n)) ≡ false
  short k n = not_full (blk fields tiles p meta image u blocks good 1 few whole chunk_some) k 0 n

  -- as it begins
  pub opened : (k n c : ℕ) (before : Option LastBlock) (s : NodeState)
      → IsRunning fields tiles p meta image blocks good whole chunk_some capacity active images o u (held k (suc n)) (Some (m.current fields tiles p meta image blocks good whole chunk_some capacity active images o u k (m.got fields tiles p meta image blocks good whole chunk_some capacity active images o u k 0 (suc c)))) before s → IsPulling k n c s
  opened k n c before s h = record {
    slots = m.got fields tiles p meta image blocks good whole chunk_some capacity active images o u k 0 (suc c);
    long = empty_long c;
    right = right_empty (chunk k) (suc c) 0;
    more = refl;
    before = before;
    report = None;
    count = h.count;
    fresh = h.fresh;
    heard = h.heard;
    moment = h.moment;
    is = h.is;
  }
    where
      empty_long : (c : ℕ) → length (empty (suc c)) ≡ suc c
      empty_long zero = refl
      empty_long (suc c) = ap suc (empty_long c)

  -- ---- time: it reports, or doesn't

  pub record Reports (c : ℕ) (P : NodeState → Type 0) (e : Outcome) : Type 0 where
    pub next : P e.next
    pub says : (e.replies ≡ []) ⊎ ((ks : List ℕ) × Some_below (suc c) ks × (e.replies ≡ (u, ByBlob (PartialBlockReport ks)) ∷ []))

  pulling_cut : (k n : ℕ) (slots : Slots) (before : Option LastBlock) (report : Option PullReport) (c f h i now : ℕ) → i ≤ now → nat_le (h + 10000 * (p.base + 1)) now ≡ true
      → (update_number (update_phase (passes (pull_at k n slots before report c f h i) now).next) == 1) ≡ true
  pulling_cut k n slots before report c f h i now le late =
      let x : max i now ≡ now = nd.later_is i now le in
      let y : is_full (held k (suc n)) ≡ false = short k n in
      rw (y, x, late, y) refl

  module _ (pull : (p.mode == 2) ≡ true) (k n c : ℕ) (s : NodeState) (now : ℕ) (h : IsPulling k n c s) (stands : LinkStands fields tiles p meta image blocks good whole chunk_some capacity active images o u now s) where
    abbrev later : ℕ
    later = max h.moment now

    same_time : node_timed now s ≡ passes (pull_at k n h.slots h.before h.report h.count h.fresh h.heard h.moment) later
    same_time = ap (node_timed now) h.is ∙ timed_later (λ i. pull_at k n h.slots h.before h.report h.count h.fresh h.heard i) (λ i j. refl) h.moment now

    asked_below : Some_below (suc c) (asked_for (nd.current_in p meta image capacity active images o u 0 0 k h.slots))
    asked_below = subst (λ i. Some_below i (asked_for (nd.current_in p meta image capacity active images o u 0 0 k h.slots))) (missing_long h.slots ∙ h.long) (first_members (missing h.slots) (some_missing h.slots h.more))

    reported : (report : Option PullReport) → h.report ≡ report
        → Does (passes (pull_at k n h.slots h.before report h.count h.fresh h.heard h.moment) later)
        (pull_at k n h.slots h.before (Some (report_of p meta image capacity active images o u (nd.current_in p meta image capacity active images o u 0 0 k h.slots) later)) h.count h.fresh h.heard later)
        ((u, ByBlob (PartialBlockReport (asked_for (nd.current_in p meta image capacity active images o u 0 0 k h.slots)))) ∷ [])
        → Reports c (IsPulling k n c) (node_timed now s)
    reported report e does = subst (Reports c (IsPulling k n c)) (sym (same_time ∙ ap (λ r. passes (pull_at k n h.slots h.before r h.count h.fresh h.heard h.moment) later) e)) (record {
      next = subst (IsPulling k n c) (sym does.next_is) (record { slots = h.slots; long = h.long; right = h.right; more = h.more; before = h.before; report = Some _; count = h.count; fresh = h.fresh; heard = h.heard; moment = later; is = refl });
      says = inr (asked_for (nd.current_in p meta image capacity active images o u 0 0 k h.slots), asked_below, does.says);
    })

    in_time : nat_le (h.heard + 10000 * (p.base + 1)) later ≡ false → later < h.heard + 10000 * (p.base + 1)
    in_time e = before_end fields tiles p meta image blocks good whole chunk_some capacity active images o u h.heard later (10000 * (p.base + 1)) e

    by_report : nat_le (h.heard + 10000 * (p.base + 1)) later ≡ false → (report : Option PullReport) → h.report ≡ report → Reports c (IsPulling k n c) (node_timed now s)
    by_report e None is =
        reported None is (pn.reports p meta image capacity active images o u pull (held k (suc n)) (nd.current_in p meta image capacity active images o u 0 0 k h.slots) h.before None h.count h.fresh h.heard h.moment later tt (short k n) (omega arith) (in_time e))
    by_report e (Some r) is = by_missing (list_any (λ i. is_none (at h.slots i)) r.chunks) refl (nat_le (r.moment + 1000) later) refl
      where
        by_missing : (some : Bool) → list_any (λ i. is_none (at h.slots i)) r.chunks ≡ some → (late : Bool) → nat_le (r.moment + 1000) later ≡ late → Reports c (IsPulling k n c) (node_timed now s)
        by_missing false f late g =
            reported (Some r) is (pn.reports p meta image capacity active images o u pull (held k (suc n)) (nd.current_in p meta image capacity active images o u 0 0 k h.slots) h.before (Some r) h.count h.fresh h.heard h.moment later f (short k n) (omega arith) (in_time e))
        by_missing true f true g =
            reported (Some r) is (pn.reports_late p meta image capacity active images o u pull (held k (suc n)) (nd.current_in p meta image capacity active images o u 0 0 k h.slots) h.before r h.count h.fresh h.heard h.moment later f g (short k n) (omega arith) (in_time e))
        by_missing true f false g =
            let does = pn.waits p meta image capacity active images o u pull (held k (suc n)) (nd.current_in p meta image capacity active images o u 0 0 k h.slots) h.before r h.count h.fresh h.heard h.moment later f g (short k n) (omega arith) (in_time e) in
            subst (Reports c (IsPulling k n c)) (sym (same_time ∙ ap (λ q. passes (pull_at k n h.slots h.before q h.count h.fresh h.heard h.moment) later) is)) (record {
              next = subst (IsPulling k n c) (sym does.next_is) (record { slots = h.slots; long = h.long; right = h.right; more = h.more; before = h.before; report = Some r; count = h.count; fresh = h.fresh; heard = h.heard; moment = later; is = refl });
              says = inl does.says;
            })

    pub pulling_time : Reports c (IsPulling k n c) (node_timed now s)
    pulling_time = by_case (nat_le (h.heard + 10000 * (p.base + 1)) later) refl
      where
        by_case : (b : Bool) → nat_le (h.heard + 10000 * (p.base + 1)) later ≡ b → Reports c (IsPulling k n c) (node_timed now s)
        by_case true e =
            true_false fields tiles p meta image blocks good whole chunk_some capacity active images o u (sym (ap (λ (z : Outcome). update_number (update_phase z.next) == 1) same_time ∙ pulling_cut k n h.slots h.before h.report h.count h.fresh h.heard h.moment later (omega arith) e) ∙ stands)
        by_case false e = by_report e h.report refl

  -- ---- a chunk

  abbrev chunk_asked : ℕ → NodeState → ℕ → ℕ → Outcome
  chunk_asked k s now j = on_request (at_moment s now) u (OfBlob (ChunkTransfer j (chunk k j)))

  -- it is taken, or the block is held
  module _ (pull : (p.mode == 2) ≡ true) (k n c : ℕ) (total : chunk_total p k ≡ suc c) (s : NodeState) (now j : ℕ) (h : IsPulling k n c s) where
    abbrev then : ℕ
    then = max h.moment now

    same_asked : chunk_asked k s now j ≡ asks (pull_at k n h.slots h.before h.report h.count h.fresh h.heard then) u (OfBlob (ChunkTransfer j (chunk k j))) then
    same_asked = ap (λ z. chunk_asked k z now j) h.is ∙ asked_later (λ i. pull_at k n h.slots h.before h.report h.count h.fresh h.heard i) (λ i l. refl) h.moment now u (OfBlob (ChunkTransfer j (chunk k j)))

    long_chunk : (length (chunk k j) == nd.chunk_long p meta image capacity active images o u 0 0 k j) ≡ true
    long_chunk = eq-eqb _ _ (long_is fields tiles p meta image u blocks good 1 few whole chunk_some k j)

    abbrev pub Comes : Type 0
    Comes = Quiet (IsPulling k n c) (chunk_asked k s now j) ⊎ Says u (ByBlob (PartialBlockReport [])) (IsRunning fields tiles p meta image blocks good whole chunk_some capacity active images o u (held (suc k) n) None (Some (last k))) (chunk_asked k s now j)

    stays : (heard : ℕ) → Does (asks (pull_at k n h.slots h.before h.report h.count h.fresh h.heard then) u (OfBlob (ChunkTransfer j (chunk k j))) then) (pull_at k n h.slots h.before h.report h.count h.fresh heard then) []
        → Quiet (IsPulling k n c) (chunk_asked k s now j)
    stays heard does =
        quiet_at (IsPulling k n c) _ _ _ same_asked does
        (record { slots = h.slots; long = h.long; right = h.right; more = h.more; before = h.before; report = h.report; count = h.count; fresh = h.fresh; heard = heard; moment = then; is = refl })

    none_at : (place : Option (List ℕ)) → is_some place ≡ false → place ≡ None
    none_at None e = refl
    none_at (Some x) e = absurd (grind (arith, e))

    abbrev next_slots : Slots
    next_slots = put h.slots j (chunk k j)

    next_right : Right (chunk k) 0 next_slots
    next_right = right_put (chunk k) h.slots j 0 (chunk k j) (let z : 0 + j ≡ j = omega arith in ap (chunk k) (sym z)) h.right

    next_long : length next_slots ≡ suc c
    next_long = put_long h.slots j (chunk k j) ∙ h.long

    -- once they are all there they are the block
    now_held : is_full next_slots ≡ true → put (held k (suc n)) k (joined next_slots) ≡ held (suc k) n
    now_held e =
        let all : next_slots ≡ filled (chunk k) 0 (suc c) ++ empty 0 = all_right (chunk k) next_slots 0 next_right e ∙ (ap (filled (chunk k) 0) next_long ∙ sym (append-nil (filled (chunk k) 0 (suc c)))) in
        ap (λ octets. put (held k (suc n)) k octets) (ap joined all ∙ block_joined fields tiles p meta image u blocks good 1 few whole chunk_some k (suc c) total) ∙ put_here (blk fields tiles p meta image u blocks good 1 few whole chunk_some) k n

    pub chunk_comes : Comes
    chunk_comes = by_place (nat_le (length h.slots) j) refl
      where
        by_full : nat_le (length h.slots) j ≡ false → is_some (at h.slots j) ≡ false → (full : Bool) → is_full next_slots ≡ full
            → Quiet (IsPulling k n c) (chunk_asked k s now j) ⊎ Says u (ByBlob (PartialBlockReport [])) (IsRunning fields tiles p meta image blocks good whole chunk_some capacity active images o u (held (suc k) n) None (Some (last k))) (chunk_asked k s now j)
        by_full there free false more =
            inl (quiet_at (IsPulling k n c) _ _ _ same_asked
            (pn.chunk_more p meta image capacity active images o u (held k (suc n)) h.before h.report h.count h.fresh h.heard then k h.slots j (chunk k j) (short k n) there long_chunk (none_at (at h.slots j) free) more)
            (record { slots = next_slots; long = next_long; right = next_right; more = more; before = h.before; report = h.report; count = h.count; fresh = h.fresh; heard = then; moment = then; is = refl }))
        by_full there free true all =
            inr (says_at u (ByBlob (PartialBlockReport [])) (IsRunning fields tiles p meta image blocks good whole chunk_some capacity active images o u (held (suc k) n) None (Some (last k))) _ _ _ same_asked
            (pn.chunk_last p meta image capacity active images o u (held k (suc n)) h.before h.report h.count h.fresh h.heard then k h.slots j (chunk k j) pull (short k n) there long_chunk (none_at (at h.slots j) free) all)
            (record { count = h.count; fresh = h.fresh; heard = then; moment = then; is = ap (λ slots. m.running_at fields tiles p meta image blocks good whole chunk_some capacity active images o u slots None (Some (last k)) h.count h.fresh then then) (now_held all) }))

        by_had : nat_le (length h.slots) j ≡ false → (had : Bool) → is_some (at h.slots j) ≡ had
            → Quiet (IsPulling k n c) (chunk_asked k s now j) ⊎ Says u (ByBlob (PartialBlockReport [])) (IsRunning fields tiles p meta image blocks good whole chunk_some capacity active images o u (held (suc k) n) None (Some (last k))) (chunk_asked k s now j)
        by_had there true e = inl (stays then (pn.chunk_again p meta image capacity active images o u (held k (suc n)) h.before h.report h.count h.fresh h.heard then k h.slots j (chunk k j) (short k n) there long_chunk e))
        by_had there false e = by_full there e (is_full next_slots) refl

        by_place : (past : Bool) → nat_le (length h.slots) j ≡ past
            → Quiet (IsPulling k n c) (chunk_asked k s now j) ⊎ Says u (ByBlob (PartialBlockReport [])) (IsRunning fields tiles p meta image blocks good whole chunk_some capacity active images o u (held (suc k) n) None (Some (last k))) (chunk_asked k s now j)
        by_place true e = inl (stays h.heard (pn.chunk_past p meta image capacity active images o u (held k (suc n)) h.before h.report h.count h.fresh h.heard then k h.slots j (chunk k j) (short k n) e))
        by_place false e = by_had e (is_some (at h.slots j)) refl

  -- ---- what it misses

  pub record Misses (k n c : ℕ) (e : Outcome) : Type 0 where
    pub slots : Slots
    pub long : length slots ≡ suc c
    pub more : is_full slots ≡ false
    pub told : Says u (ByBlob (BlockStatus 0 k p.chunk (report_in (missing slots)))) (IsPulling k n c) e

  pub pulling_gets : (k n c : ℕ) (s : NodeState) (now : ℕ) → IsPulling k n c s → Misses k n c (on_request (at_moment s now) u (OfBlob BlockGet))
  pulling_gets k n c s now h =
      let later : ℕ = max h.moment now in
      record {
        slots = h.slots;
        long = h.long;
        more = h.more;
        told =
            says_at u (ByBlob (BlockStatus 0 k p.chunk (report_in (missing h.slots)))) (IsPulling k n c) _ _ _
            (ap (λ z. on_request (at_moment z now) u (OfBlob BlockGet)) h.is ∙ asked_later (λ i. pull_at k n h.slots h.before h.report h.count h.fresh h.heard i) (λ i l. refl) h.moment now u (OfBlob BlockGet))
            (pn.pulling_get p meta image capacity active images o u (held k (suc n)) h.before h.report h.count h.fresh h.heard later k h.slots (short k n))
            (record { slots = h.slots; long = h.long; right = h.right; more = h.more; before = h.before; report = h.report; count = h.count; fresh = h.fresh; heard = later; moment = later; is = refl });
      }

  -- ---- in no block

  run_get : (slots : Slots) (before : Option LastBlock) (c f h now : ℕ) → is_full slots ≡ false → (heard : ℕ) × (replies : List (ℕ × Reply)) × AllByRecursion IsBlob replies
      × Does (asks (m.running_at fields tiles p meta image blocks good whole chunk_some capacity active images o u slots None before c f h now) u (OfBlob BlockGet) now) (m.running_at fields tiles p meta image blocks good whole chunk_some capacity active images o u slots None before c f heard now) replies
  run_get slots None c f h now short_ = (let x : max now now ≡ now = nd.later_is now now (omega arith) in (h, (u, ByBlob (BlockStatus 4 0 0 All)) ∷ [], (tt, tt), record { next_is = rw (x, short_, x) refl; says = rw (x, short_) refl }))
  run_get slots (Some b) c f h now short_ = (let x : max now now ≡ now = nd.later_is now now (omega arith) in (now, (u, ByBlob (BlockStatus 0 b.number b.chunk_size Nothing)) ∷ [], (tt, tt), record { next_is = rw (x, short_, x) refl; says = rw (x, short_) refl }))

  pub running_gets : (slots : Slots) (before : Option LastBlock) → is_full slots ≡ false → (s : NodeState) (now : ℕ) → IsRunning fields tiles p meta image blocks good whole chunk_some capacity active images o u slots None before s
      → Ignored (IsRunning fields tiles p meta image blocks good whole chunk_some capacity active images o u slots None before) (on_request (at_moment s now) u (OfBlob BlockGet))
  running_gets slots before short_ s now h =
      let later : ℕ = max h.moment now in
      let g = run_get slots before h.count h.fresh h.heard later short_ in
      ignored_at (IsRunning fields tiles p meta image blocks good whole chunk_some capacity active images o u slots None before) _ _ _ g.1
      (ap (λ z. on_request (at_moment z now) u (OfBlob BlockGet)) h.is ∙ asked_later (λ i. m.running_at fields tiles p meta image blocks good whole chunk_some capacity active images o u slots None before h.count h.fresh h.heard i) (λ i l. refl) h.moment now u (OfBlob BlockGet))
      g.3 g.2 (record { count = h.count; fresh = h.fresh; heard = g.0; moment = later; is = refl })

  -- all blocks are held, and it isn't verified yet
  all_full : is_full (held (suc blocks) 0) ≡ true
  all_full = full (blk fields tiles p meta image u blocks good 1 few whole chunk_some) (suc blocks) 0

  pub whole_chunk : (before : Option LastBlock) (s : NodeState) (now j : ℕ) (octets : List ℕ) → IsRunning fields tiles p meta image blocks good whole chunk_some capacity active images o u (held (suc blocks) 0) None before s
      → Quiet (IsRunning fields tiles p meta image blocks good whole chunk_some capacity active images o u (held (suc blocks) 0) None before) (on_request (at_moment s now) u (OfBlob (ChunkTransfer j octets)))
  whole_chunk before s now j octets h =
      quiet_at (IsRunning fields tiles p meta image blocks good whole chunk_some capacity active images o u (held (suc blocks) 0) None before) _ _ _
      (ap (λ z. on_request (at_moment z now) u (OfBlob (ChunkTransfer j octets))) h.is ∙ asked_later (λ i. m.running_at fields tiles p meta image blocks good whole chunk_some capacity active images o u (held (suc blocks) 0) None before h.count h.fresh h.heard i) (λ i l. refl) h.moment now u (OfBlob (ChunkTransfer j octets)))
      (passed h.count h.fresh h.heard (max h.moment now)) (record { count = h.count; fresh = h.fresh; heard = h.heard; moment = max h.moment now; is = refl })
    where
      passed : (c f h now : ℕ) → Does (asks (m.running_at fields tiles p meta image blocks good whole chunk_some capacity active images o u (held (suc blocks) 0) None before c f h now) u (OfBlob (ChunkTransfer j octets)) now) (m.running_at fields tiles p meta image blocks good whole chunk_some capacity active images o u (held (suc blocks) 0) None before c f h now) []
      passed c f h now = let x : max now now ≡ now = nd.later_is now now (omega arith) in let y : is_full (held (suc blocks) 0) ≡ true = all_full in record { next_is = rw (x, y, x) refl; says = rw (x, y) refl }

  whole_get : (before : Option LastBlock) (c f h now : ℕ) → (replies : List (ℕ × Reply)) × AllByRecursion IsBlob replies
      × Does (asks (m.running_at fields tiles p meta image blocks good whole chunk_some capacity active images o u (held (suc blocks) 0) None before c f h now) u (OfBlob BlockGet) now) (m.running_at fields tiles p meta image blocks good whole chunk_some capacity active images o u (held (suc blocks) 0) None before c f h now) replies
  whole_get None c f h now = (let x : max now now ≡ now = nd.later_is now now (omega arith) in let y : is_full (held (suc blocks) 0) ≡ true = all_full in ((u, ByBlob (BlockStatus 4 0 0 All)) ∷ [], (tt, tt), record { next_is = rw (x, y, x) refl; says = rw (x, y) refl }))
  whole_get (Some b) c f h now = (let x : max now now ≡ now = nd.later_is now now (omega arith) in let y : is_full (held (suc blocks) 0) ≡ true = all_full in ((u, ByBlob (BlockStatus 0 b.number b.chunk_size Nothing)) ∷ [], (tt, tt), record { next_is = rw (x, y, x) refl; says = rw (x, y) refl }))

  pub whole_gets : (before : Option LastBlock) (s : NodeState) (now : ℕ) → IsRunning fields tiles p meta image blocks good whole chunk_some capacity active images o u (held (suc blocks) 0) None before s
      → Ignored (IsRunning fields tiles p meta image blocks good whole chunk_some capacity active images o u (held (suc blocks) 0) None before) (on_request (at_moment s now) u (OfBlob BlockGet))
  whole_gets before s now h =
      let g = whole_get before h.count h.fresh h.heard (max h.moment now) in
      ignored_at (IsRunning fields tiles p meta image blocks good whole chunk_some capacity active images o u (held (suc blocks) 0) None before) _ _ _ g.0
      (ap (λ z. on_request (at_moment z now) u (OfBlob BlockGet)) h.is ∙ asked_later (λ i. m.running_at fields tiles p meta image blocks good whole chunk_some capacity active images o u (held (suc blocks) 0) None before h.count h.fresh h.heard i) (λ i l. refl) h.moment now u (OfBlob BlockGet))
      g.2 g.1 (record { count = h.count; fresh = h.fresh; heard = h.heard; moment = max h.moment now; is = refl })

  sealed_get : (slots : Slots) (before : Option LastBlock) (c f h now : ℕ) → (replies : List (ℕ × Reply)) × AllByRecursion IsBlob replies
      × Does (asks (m.sealed_at fields tiles p meta image blocks good whole chunk_some capacity active images o u slots before c f h now) u (OfBlob BlockGet) now) (m.sealed_at fields tiles p meta image blocks good whole chunk_some capacity active images o u slots before c f h now) replies
  sealed_get slots None c f h now = (let x : max now now ≡ now = nd.later_is now now (omega arith) in ((u, ByBlob (BlockStatus 4 0 0 All)) ∷ [], (tt, tt), record { next_is = rw x refl; says = refl }))
  sealed_get slots (Some b) c f h now = (let x : max now now ≡ now = nd.later_is now now (omega arith) in ((u, ByBlob (BlockStatus 0 b.number b.chunk_size Nothing)) ∷ [], (tt, tt), record { next_is = rw x refl; says = refl }))

  pub sealed_gets : (slots : Slots) (before : Option LastBlock) (s : NodeState) (now : ℕ) → IsSealed fields tiles p meta image blocks good whole chunk_some capacity active images o u slots before s
      → Ignored (IsSealed fields tiles p meta image blocks good whole chunk_some capacity active images o u slots before) (on_request (at_moment s now) u (OfBlob BlockGet))
  sealed_gets slots before s now h =
      let g = sealed_get slots before h.count h.fresh h.heard (max h.moment now) in
      ignored_at (IsSealed fields tiles p meta image blocks good whole chunk_some capacity active images o u slots before) _ _ _ g.0
      (ap (λ z. on_request (at_moment z now) u (OfBlob BlockGet)) h.is ∙ asked_later (λ i. m.sealed_at fields tiles p meta image blocks good whole chunk_some capacity active images o u slots before h.count h.fresh h.heard i) (λ i l. refl) h.moment now u (OfBlob BlockGet))
      g.2 g.1 (record { count = h.count; fresh = h.fresh; heard = h.heard; moment = max h.moment now; is = refl })
