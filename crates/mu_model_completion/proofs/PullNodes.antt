-- A node in pull in a block: its reports, and the chunks that it asked for.
use Rattle.std.proofs.Common.{sym, take, ◌≡◌, ◌<◌, ◌≤◌, ◌+◌, ◌*◌, ◌==◌, ℕ, suc, List, [], ◌∷◌, refl, ap, ◌∙◌, true, false, Bool, Option, Some, None, arith, max, length, set}
use Rattle.std.specs.Prelude.{nat_le, is_none, is_some, if◌then◌else◌}
use Rattle.std.specs.List.{list_any, range_with_len}
use Rattle.std.proofs.lemmas.Bool.Decides.{nat_tests}
use Rattle.mu_model_image.specs.declared.Meta.{Meta}
use Rattle.mu_model_image.specs.Meta.{Image}
use Rattle.mu_model_wire.specs.Reports.{no_number, members, union, report_of as report_in}
use Rattle.mu_model_wire.specs.declared.reports.Report.{Report}
use Rattle.mu_model_node.specs.declared.LastBlock.{LastBlock}
use Rattle.mu_model_node.specs.declared.Stored.TheVariants.{Filling}
use Rattle.mu_model_node.specs.declared.Link.TheVariants.{Running}
use Rattle.mu_model_node.specs.Slots.{Slots, at, put, is_full, missing, joined}
use Rattle.mu_model_node.specs.BlobMessages.{BlockGet, ChunkTransfer, BlockStatus, PartialBlockReport}
use Rattle.mu_model_node.specs.BlobServer.{CurrentBlock, PullReport}
use Rattle.mu_model_node.specs.BlobTable.{asked_for}
use Rattle.mu_model_node.specs.NodeMessages.{OfBlob, ByBlob}
use Rattle.mu_model_node.specs.NodeState.{NodeState}
use Rattle.mu_model_client.specs.declared.Sending.{Sending}
use Rattle.mu_model_client.specs.Answers.{heard}
use Rattle.mu_model_client.specs.Sets.{has_some, set_of, all_below, named_set}
use Rattle.mu_model_client.specs.Client.{Receiver, Pull, chunk_total}
use Rattle.mu_model_client.specs.Told as t
use Rattle.mu_model_completion.proofs.Nodes as n
use Rattle.mu_model_completion.proofs.Nodes.{Does, passes, asks, Offer, later_is, node_at, session_in, job_in, parameters}
use Rattle.mu_model_completion.proofs.Receivers.{rcv, view, none_some}
use Rattle.mu_model_completion.proofs.Partly.{Some_below}
use Rattle.mu_model_completion.proofs.Wanted.{wanted_set, below_all}

-- ---- the node

module _ (p : Sending) (meta : Meta) (image : List ℕ) (capacity : ℕ) (active : Image) (images : List Image) (o : Offer p meta image capacity active) (u : ℕ) where
  -- with its last report
  abbrev pub pulling : Slots → CurrentBlock → Option LastBlock → Option PullReport → (count fresh heard moment : ℕ) → NodeState
  pulling held b last report c f h m =
      node_at capacity (active ∷ images) (Some (job_in p meta Filling (Some (parameters p meta)) held)) c f (record (session_in Running (Some b) last (Some u) h) { report = report }) m

  abbrev pub running : Slots → Option LastBlock → (count fresh heard moment : ℕ) → NodeState
  running held last c f h m = n.running p meta image capacity active images o u 0 0 held None last c f h m

  not_yet : (h k now : ℕ) → now < h + k → nat_le (h + k) now ≡ false
  not_yet h k now lt = grind (arith, nat_tests)

  -- none of its last report's chunks is missing, or there is no report
  abbrev pub none_missing : CurrentBlock → Option PullReport → Type 0
  none_missing b None = Unit {0}
  none_missing b (Some last) = list_any (λ k. is_none (at b.chunks k)) last.chunks ≡ false

  abbrev pub report_of : CurrentBlock → ℕ → PullReport
  report_of b now = record { moment = now; chunks = asked_for b }

  pub reports : (pull : (p.mode == 2) ≡ true) (held : Slots) (b : CurrentBlock) (last : Option LastBlock) (report : Option PullReport) (c f h m now : ℕ) → none_missing b report → is_full held ≡ false → m ≤ now → now < h + 10000 * (p.base + 1)
      → Does (passes (pulling held b last report c f h m) now) (pulling held b last (Some (report_of b now)) c f h now) ((u, ByBlob (PartialBlockReport (asked_for b))) ∷ [])
  reports pull held b last None c f h m now none short le lt =
      let x : max m now ≡ now = later_is m now le in
      let y : nat_le (h + 10000 * (p.base + 1)) now ≡ false = not_yet h _ now lt in
      record { next_is = rw (short, x, y, short, pull) refl; says = rw (short, x, y, short, pull) refl }
  reports pull held b last (Some r) c f h m now none short le lt =
      let x : max m now ≡ now = later_is m now le in
      let y : nat_le (h + 10000 * (p.base + 1)) now ≡ false = not_yet h _ now lt in
      record { next_is = rw (short, x, y, short, pull, none) refl; says = rw (short, x, y, short, pull, none) refl }

  pub waits : (pull : (p.mode == 2) ≡ true) (held : Slots) (b : CurrentBlock) (last : Option LastBlock) (report : PullReport) (c f h m now : ℕ)
      → list_any (λ k. is_none (at b.chunks k)) report.chunks ≡ true → nat_le (report.moment + 1000) now ≡ false → is_full held ≡ false → m ≤ now → now < h + 10000 * (p.base + 1)
      → Does (passes (pulling held b last (Some report) c f h m) now) (pulling held b last (Some report) c f h now) []
  waits pull held b last report c f h m now some early short le lt =
      let x : max m now ≡ now = later_is m now le in
      let y : nat_le (h + 10000 * (p.base + 1)) now ≡ false = not_yet h _ now lt in
      record { next_is = rw (short, x, y, short, pull, some, early) refl; says = rw (short, x, y, short, pull, some, early) refl }

  -- a second since the last report
  pub reports_late : (pull : (p.mode == 2) ≡ true) (held : Slots) (b : CurrentBlock) (last : Option LastBlock) (report : PullReport) (c f h m now : ℕ)
      → list_any (λ k. is_none (at b.chunks k)) report.chunks ≡ true → nat_le (report.moment + 1000) now ≡ true → is_full held ≡ false → m ≤ now → now < h + 10000 * (p.base + 1)
      → Does (passes (pulling held b last (Some report) c f h m) now) (pulling held b last (Some (report_of b now)) c f h now) ((u, ByBlob (PartialBlockReport (asked_for b))) ∷ [])
  reports_late pull held b last report c f h m now some late short le lt =
      let x : max m now ≡ now = later_is m now le in
      let y : nat_le (h + 10000 * (p.base + 1)) now ≡ false = not_yet h _ now lt in
      record { next_is = rw (short, x, y, short, pull, some, late) refl; says = rw (short, x, y, short, pull, some, late) refl }

  -- a number past the block, and a chunk that it has
  pub chunk_past : (held : Slots) (last : Option LastBlock) (report : Option PullReport) (c f h now b : ℕ) (chunks : Slots) (k : ℕ) (octets : List ℕ)
      → is_full held ≡ false → nat_le (length chunks) k ≡ true
      → Does (asks (pulling held (n.current_in p meta image capacity active images o u 0 0 b chunks) last report c f h now) u (OfBlob (ChunkTransfer k octets)) now)
      (pulling held (n.current_in p meta image capacity active images o u 0 0 b chunks) last report c f h now) []
  chunk_past held last report c f h now b chunks k octets short past =
      let x : max now now ≡ now = later_is now now (omega arith) in
      record { next_is = rw (x, short, past, x) refl; says = rw (x, short, past) refl }

  pub chunk_again : (held : Slots) (last : Option LastBlock) (report : Option PullReport) (c f h now b : ℕ) (chunks : Slots) (k : ℕ) (octets : List ℕ)
      → is_full held ≡ false → nat_le (length chunks) k ≡ false → (length octets == n.chunk_long p meta image capacity active images o u 0 0 b k) ≡ true → is_some (at chunks k) ≡ true
      → Does (asks (pulling held (n.current_in p meta image capacity active images o u 0 0 b chunks) last report c f h now) u (OfBlob (ChunkTransfer k octets)) now)
      (pulling held (n.current_in p meta image capacity active images o u 0 0 b chunks) last report c f now now) []
  chunk_again held last report c f h now b chunks k octets short there long had =
      let x : max now now ≡ now = later_is now now (omega arith) in
      record { next_is = rw (x, short, there, long, had, x) refl; says = rw (x, short, there, long, had) refl }

  -- what it misses, asked for
  pub pulling_get : (held : Slots) (last : Option LastBlock) (report : Option PullReport) (c f h now b : ℕ) (chunks : Slots) → is_full held ≡ false
      → Does (asks (pulling held (n.current_in p meta image capacity active images o u 0 0 b chunks) last report c f h now) u (OfBlob BlockGet) now)
      (pulling held (n.current_in p meta image capacity active images o u 0 0 b chunks) last report c f now now) ((u, ByBlob (BlockStatus 0 b p.chunk (report_in (missing chunks)))) ∷ [])
  pulling_get held last report c f h now b chunks short =
      let x : max now now ≡ now = later_is now now (omega arith) in
      record { next_is = rw (x, short, x) refl; says = rw (x, short) refl }

  pub chunk_more : (held : Slots) (last : Option LastBlock) (report : Option PullReport) (c f h now b : ℕ) (chunks : Slots) (k : ℕ) (octets : List ℕ)
      → is_full held ≡ false → nat_le (length chunks) k ≡ false → (length octets == n.chunk_long p meta image capacity active images o u 0 0 b k) ≡ true → at chunks k ≡ None → is_full (put chunks k octets) ≡ false
      → Does (asks (pulling held (n.current_in p meta image capacity active images o u 0 0 b chunks) last report c f h now) u (OfBlob (ChunkTransfer k octets)) now)
      (pulling held (n.current_in p meta image capacity active images o u 0 0 b (put chunks k octets)) last report c f now now) []
  chunk_more held last report c f h now b chunks k octets short there long free more =
      let x : max now now ≡ now = later_is now now (omega arith) in
      record { next_is = rw (x, short, there, long, free, more, x) refl; says = rw (x, short, there, long, free, more) refl }

  -- the last one: the block is held, and an empty report says so
  pub chunk_last : (held : Slots) (last : Option LastBlock) (report : Option PullReport) (c f h now b : ℕ) (chunks : Slots) (k : ℕ) (octets : List ℕ)
      → (p.mode == 2) ≡ true → is_full held ≡ false → nat_le (length chunks) k ≡ false → (length octets == n.chunk_long p meta image capacity active images o u 0 0 b k) ≡ true → at chunks k ≡ None → is_full (put chunks k octets) ≡ true
      → Does (asks (pulling held (n.current_in p meta image capacity active images o u 0 0 b chunks) last report c f h now) u (OfBlob (ChunkTransfer k octets)) now)
      (running (put held b (joined (put chunks k octets))) (Some (n.last_in p meta image capacity active images o u 0 0 b)) c f now now) ((u, ByBlob (PartialBlockReport [])) ∷ [])
  chunk_last held last report c f h now b chunks k octets pull short there long free more =
      let x : max now now ≡ now = later_is now now (omega arith) in
      record { next_is = rw (x, short, there, long, free, more, x) refl; says = rw (x, short, there, long, free, more, pull) refl }

-- ---- the receiver

-- one that waits in pull: whether it was heard in this round, and what it wants
abbrev pub pulled : (address : ℕ) → (blocks chunks : List Bool) → (heard : Bool) → (wanted : List Bool) → Receiver
pulled a blocks chunks heard wanted = record (rcv a 2 blocks chunks true) { heard = heard; wanted = wanted }

module _ (p : Sending) (meta : Meta) where
  -- a report of numbers, one at least
  pub told_wanted : (a b c k j : ℕ) (blocks chunks : List Bool) (heard_before : Bool) → chunk_total p b ≡ c → k + suc j ≤ c
      → t.receiver_told (view p meta (Pull b)) (heard (ByBlob (PartialBlockReport (range_with_len k (suc j))))) (pulled a blocks chunks heard_before [])
      ≡ pulled a blocks chunks true (wanted_set c k (suc j))
  told_wanted a b c k j blocks chunks heard_before total le =
      let r : Receiver = pulled a blocks chunks heard_before [] in
      let ks : List ℕ = range_with_len k (suc j) in
      ap (λ z. if z then t.part_told (chunk_total p b) b r ks else r) (ap (λ n. all_below n ks) total ∙ below_all c (suc j) k le) ∙ ap (λ n. t.part_told n b r ks) total

  -- an empty one
  pub told_whole : (a b c : ℕ) (blocks chunks : List Bool) (heard_before : Bool) → chunk_total p b ≡ c
      → t.receiver_told (view p meta (Pull b)) (heard (ByBlob (PartialBlockReport []))) (pulled a blocks chunks heard_before [])
      ≡ record (rcv a 2 (set blocks b false) (no_number c) false) { heard = true }
  told_whole a b c blocks chunks heard_before total = rw (total, none_some c) refl

  -- ---- whatever it was before

  abbrev pub row_in : (address : ℕ) → (blocks chunks : List Bool) → (wanted : List Bool) → (heard : Bool) → (silent : ℕ) → Receiver
  row_in a blocks chunks wanted heard silent = record (rcv a 2 blocks chunks true) { heard = heard; silent = silent; wanted = wanted }

  -- a report of some numbers
  pub told_some : (a b c : ℕ) (blocks chunks wanted : List Bool) (flag : Bool) (silent : ℕ) (ks : List ℕ) → chunk_total p b ≡ c → Some_below c ks
      → t.receiver_told (view p meta (Pull b)) (heard (ByBlob (PartialBlockReport ks))) (row_in a blocks chunks wanted flag silent) ≡ row_in a blocks chunks (union (set_of c ks) wanted) true silent
  told_some a b c blocks chunks wanted flag silent ks total h =
      let r : Receiver = row_in a blocks chunks wanted flag silent in
      ap (λ z. if z then t.part_told (chunk_total p b) b r ks else r) (ap (λ n. all_below n ks) total ∙ h.below)
      ∙ (ap (λ n. t.part_told n b r ks) total
      ∙ (ap (λ numbers. t.part_told c b r numbers) h.is ∙ ap (λ numbers. row_in a blocks chunks (union (set_of c numbers) wanted) true silent) (sym h.is)))

  -- an empty one
  pub told_all : (a b c : ℕ) (blocks chunks wanted : List Bool) (flag : Bool) (silent : ℕ) → chunk_total p b ≡ c
      → t.receiver_told (view p meta (Pull b)) (heard (ByBlob (PartialBlockReport []))) (row_in a blocks chunks wanted flag silent)
      ≡ record (rcv a 2 (set blocks b false) (no_number c) false) { heard = true; silent = silent }
  told_all a b c blocks chunks wanted flag silent total = rw (total, none_some c) refl

  -- what it misses, told in answer to Block Get
  pub told_missing : (a b : ℕ) (blocks chunks wanted : List Bool) (flag : Bool) (silent : ℕ) (report : Report) (missed : List Bool) → named_set (chunk_total p b) report ≡ Some missed → has_some missed ≡ true
      → t.receiver_told (view p meta (Pull b)) (heard (ByBlob (BlockStatus 0 b p.chunk report))) (row_in a blocks chunks wanted flag silent)
      ≡ row_in a blocks missed (union (set_of (length missed) (take 16 (members missed))) wanted) true silent
  told_missing a b blocks chunks wanted flag silent report missed named some = rw (n.same b, n.same p.chunk, named, some) refl
