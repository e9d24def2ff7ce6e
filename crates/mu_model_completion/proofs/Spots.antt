-- Where a receiver that answers stands in an update: what the client knows of it, what is still to be sent to its node,
-- and what its node is in.
use Rattle.std.proofs.Common.{◌≡◌, ◌==◌, ◌⊎◌, inl, inr, ◌<◌, ◌+◌, ℕ, zero, suc, List, [], ◌∷◌, true, false, Bool, Option, Some, None, map, length}
use Rattle.std.specs.List.{range_with_len}
use Rattle.mu_model_image.specs.declared.Meta.{Meta}
use Rattle.mu_model_image.specs.Meta.{Image, meta_octets}
use Rattle.mu_model_wire.specs.Reports.{every_number}
use Rattle.mu_model_node.specs.declared.NodeConfig.{NodeConfig}
use Rattle.mu_model_node.specs.declared.LastBlock.{LastBlock}
use Rattle.mu_model_node.specs.Slots.{Slots, is_full}
use Rattle.mu_model_node.specs.BlobMessages.{BlobInformationGet, BlockGet, PartialBlockReport}
use Rattle.mu_model_node.specs.UpdateMessages.{MetadataCheck, UpdateGet, UpdateApply, InformationGet}
use Rattle.mu_model_node.specs.NodeMessages.{Request, OfUpdate, OfBlob, Reply, ByBlob}
use Rattle.mu_model_node.specs.NodeState.{NodeState}
use Rattle.mu_model_node.specs.NodeOutcome.{Outcome}
use Rattle.mu_model_client.specs.declared.Sending.{Sending}
use Rattle.mu_model_client.specs.Sets.{has_some}
use Rattle.mu_model_client.specs.Client.{Receiver, Item, Says, Sends, Place, Before, At, Ended, Applying, Step, Check, Start, Information, Transfer, Block, Chunks, Pull, Get, Verify, Apply, Confirm, chunk_total}
use Rattle.mu_model_client_laws.specs.Laws.{KeepsPlan, FieldsAreRead}
use Rattle.mu_model_completion.specs.Answering.{node_timed}
use Rattle.mu_model_completion.proofs.Nodes.{Offer}
use Rattle.mu_model_completion.proofs.First.{Good, Pushes, Pulls}
use Rattle.mu_model_completion.proofs.Pieces.{lacking_from, not_full}
use Rattle.mu_model_completion.proofs.Blocks.{Tiles, blk}
use Rattle.mu_model_completion.proofs.Receivers.{rcv}
use Rattle.mu_model_completion.proofs.Among.{AllLeft, AllOf, has_get}
use Rattle.mu_model_completion.proofs.Partly.{Some_below}
use Rattle.mu_model_completion.proofs.PullMoments as pm
use Rattle.mu_model_completion.proofs.PullMoments.{IsPulling}
use Rattle.mu_model_completion.proofs.Moments as m
use Rattle.mu_model_completion.proofs.Moments.{few, Quiet, Says as Replies, IsIdle, IsTaken, IsRunning, IsSealed, IsApplied, IsDone}

-- where a receiver stands that isn't in the present block
abbrev pub IsBetween : Step → Type 0
IsBetween Transfer = Unit {0}
IsBetween (Block b) = Unit {0}
IsBetween (Chunks b) = Unit {0}
IsBetween (Get b) = Unit {0}
IsBetween (Pull b) = Unit {0}
IsBetween _ = ⊥

pub quiet_as : (P Q : NodeState → Type 0) → ((s : NodeState) → P s → Q s) → (o : Outcome) → Quiet P o → Quiet Q o
quiet_as P Q f o h = record { next = f o.next h.next; silent = h.silent }

pub record OutcomeSo (P : NodeState → Type 0) (R : List (ℕ × Reply) → Type 0) (o : Outcome) : Type 0 where
  pub next : P o.next
  pub replied : R o.replies

module _ (laws : KeepsPlan) (fields : FieldsAreRead) (tiles : Tiles) (p : Sending) (meta : Meta) (image : List ℕ) (blocks : ℕ) (good : Good p blocks) (whole : length image ≡ p.size) (chunk_some : 0 < p.chunk)
    (capacity : ℕ) (active : Image) (images : List Image) (o : Offer p meta image capacity active) (config : NodeConfig) where
  abbrev a : ℕ
  a = config.address

  abbrev u : ℕ
  u = p.from

  -- ---- nodes

  abbrev pub held : ℕ → ℕ → Slots
  held k n = m.held fields tiles p meta image blocks good whole chunk_some capacity active images o u k n

  abbrev pub last : ℕ → LastBlock
  last k = m.last fields tiles p meta image blocks good whole chunk_some capacity active images o u k

  abbrev pub Idle : NodeState → Type 0
  Idle s = IsIdle fields tiles p meta image blocks good whole chunk_some capacity active images o u s

  abbrev pub Taken : NodeState → Type 0
  Taken s = IsTaken fields tiles p meta image blocks good whole chunk_some capacity active images o u s

  abbrev pub Running : Slots → Option LastBlock → NodeState → Type 0
  Running slots before s = IsRunning fields tiles p meta image blocks good whole chunk_some capacity active images o u slots None before s

  abbrev pub In : (k m j rem : ℕ) → Option LastBlock → NodeState → Type 0
  In k n j rem before s =
      IsRunning fields tiles p meta image blocks good whole chunk_some capacity active images o u (held k (suc n))
      (Some (m.current fields tiles p meta image blocks good whole chunk_some capacity active images o u k (m.got fields tiles p meta image blocks good whole chunk_some capacity active images o u k j rem))) before s

  abbrev pub PullIn : (k n c : ℕ) → NodeState → Type 0
  PullIn k n c s = IsPulling fields tiles p meta image blocks good whole chunk_some capacity active images o u k n c s

  abbrev pub all_slots : Slots
  all_slots = held (suc blocks) 0

  abbrev pub Sealed : Option LastBlock → NodeState → Type 0
  Sealed before s = IsSealed fields tiles p meta image blocks good whole chunk_some capacity active images o u all_slots before s

  abbrev pub Applied : NodeState → Type 0
  Applied s = (before : Option LastBlock) × IsApplied fields tiles p meta image blocks good whole chunk_some capacity active images o u all_slots before s

  abbrev pub Done : NodeState → Type 0
  Done s = IsDone fields tiles p meta image blocks good whole chunk_some capacity active images o u all_slots s

  -- k blocks are held, and n aren't; with all it is verified, or will be
  abbrev pub Holds : (k n : ℕ) → Option LastBlock → NodeState → Type 0
  Holds k zero before s = Running all_slots before s ⊎ Sealed before s
  Holds k (suc n) before s = Running (held k (suc n)) before s

  abbrev pub HoldsNow : (k n : ℕ) → Option LastBlock → NodeState → Type 0
  HoldsNow k zero before s = Sealed before s
  HoldsNow k (suc n) before s = Running (held k (suc n)) before s

  -- of a block, so many chunks have come, and so many haven't
  abbrev pub Chunked : (k n j rem : ℕ) → NodeState → Type 0
  Chunked k n j zero s = Holds (suc k) n (Some (last k)) s
  Chunked k n j (suc rem) s = (before : Option LastBlock) × In k n j (suc rem) before s

  abbrev pub ChunkedNow : (k n j rem : ℕ) → NodeState → Type 0
  ChunkedNow k n j zero s = HoldsNow (suc k) n (Some (last k)) s
  ChunkedNow k n j (suc rem) s = (before : Option LastBlock) × In k n j (suc rem) before s

  -- ---- spots

  -- it waits to be asked this; of a block, n blocks after it are missing, and it has c chunks and one
  pub data Ask : Type 0 where
    Checks : Ask
    Starts : Ask
    Informs : Ask
    Transfers : Ask
    Opens : (k n c : ℕ) → k + suc n ≡ suc blocks → chunk_total p k ≡ suc c → Ask
    Gets : (k n c : ℕ) → k + suc n ≡ suc blocks → chunk_total p k ≡ suc c → Ask
    Verifies : Ask
    Applies : Ask
    Confirms : Ask

  -- it has answered
  pub data Said : Type 0 where
    Checked : Said
    Started : Said
    Informed : Said
    Opened : (k n c : ℕ) → k + suc n ≡ suc blocks → chunk_total p k ≡ suc c → Pushes p → Said
    OpenedPull : (k n c : ℕ) → k + suc n ≡ suc blocks → chunk_total p k ≡ suc c → Pulls p → Said
    Verified : Said
    Asked : Said
    Confirmed : Said

  -- the set is what the client last knew of its chunks
  pub data Spot : Type 0 where
    First : Spot
    Asking : Ask → List Bool → Spot
    After : Said → List Bool → Spot
    Between : (step : Step) → IsBetween step → (k n : ℕ) → k + n ≡ suc blocks → (chunks : List Bool) → has_some chunks ≡ false → (heard : Bool) → (silent : ℕ) → Spot
    Chunking : (k n c j rem : ℕ) → k + suc n ≡ suc blocks → chunk_total p k ≡ suc c → j + rem ≡ suc c → Pushes p → Spot
    Pulling : (k n c : ℕ) → k + suc n ≡ suc blocks → chunk_total p k ≡ suc c → Pulls p → (chunks : List Bool) → has_some chunks ≡ true → (wanted : List Bool) → (heard : Bool) → (silent : ℕ) → Spot
    Over : List Bool → Spot

  abbrev pub none : List Bool
  none = lacking_from (suc blocks) 0

  -- ---- its step, and its message

  abbrev pub step_of : Ask → Step
  step_of Checks = Check
  step_of Starts = Start
  step_of Informs = Information
  step_of Transfers = Transfer
  step_of (Opens k n c sum total) = Block k
  step_of (Gets k n c sum total) = Get k
  step_of Verifies = Verify
  step_of Applies = Apply
  step_of Confirms = Confirm

  abbrev pub request_of : Ask → Request
  request_of Checks = OfUpdate (MetadataCheck 0 (meta_octets meta))
  request_of Starts = m.start_request fields tiles p meta image blocks good whole chunk_some capacity active images o u
  request_of Informs = OfBlob BlobInformationGet
  request_of Transfers = m.transfer_request fields tiles p meta image blocks good whole chunk_some capacity active images o u
  request_of (Opens k n c sum total) = m.block_request fields tiles p meta image blocks good whole chunk_some capacity active images o u k
  request_of (Gets k n c sum total) = OfBlob BlockGet
  request_of Verifies = OfUpdate UpdateGet
  request_of Applies = OfUpdate UpdateApply
  request_of Confirms = OfUpdate (InformationGet 0 1)

  abbrev pub said_in : Said → Step
  said_in Checked = Check
  said_in Started = Start
  said_in Informed = Information
  said_in (Opened k n c sum total pushes) = Block k
  said_in (OpenedPull k n c sum total pulls) = Block k
  said_in Verified = Verify
  said_in Asked = Apply
  said_in Confirmed = Confirm

  abbrev pub place_of : Spot → Place
  place_of First = Before Check
  place_of (Asking ask chunks) = At (step_of ask)
  place_of (After said chunks) = At (said_in said)
  place_of (Between step is k n sum chunks without heard silent) = At step
  place_of (Chunking k n c j rem sum total all pushes) = At (Chunks k)
  place_of (Pulling k n c sum total pulls chunks some wanted heard silent) = At (Pull k)
  place_of (Over chunks) = Ended Applying

  -- ---- what the client knows

  abbrev pub waiting : Ask → List Bool → Receiver
  waiting Checks chunks = rcv a 10 [] [] true
  waiting Starts chunks = rcv a 10 [] [] true
  waiting Informs chunks = rcv a 2 [] [] true
  waiting Transfers chunks = rcv a 2 [] [] true
  waiting (Opens k n c sum total) chunks = rcv a 2 (lacking_from k (suc n)) chunks true
  waiting (Gets k n c sum total) chunks = rcv a 2 (lacking_from k (suc n)) (every_number (suc c)) true
  waiting Verifies chunks = rcv a 2 none chunks true
  waiting Applies chunks = rcv a 4 none chunks true
  waiting Confirms chunks = rcv a 6 none chunks true

  abbrev pub answered : Said → List Bool → Receiver
  answered Checked chunks = rcv a 10 [] [] false
  answered Started chunks = rcv a 2 [] [] false
  answered Informed chunks = rcv a 2 [] [] false
  answered (Opened k n c sum total pushes) chunks = rcv a 2 (lacking_from k (suc n)) (every_number (suc c)) false
  answered (OpenedPull k n c sum total pulls) chunks = rcv a 2 (lacking_from k (suc n)) (every_number (suc c)) false
  answered Verified chunks = rcv a 4 none chunks false
  answered Asked chunks = rcv a 6 none chunks false
  answered Confirmed chunks = rcv a 8 none chunks false

  abbrev pub row_of : Spot → Receiver
  row_of First = rcv a 10 [] [] false
  row_of (Asking ask chunks) = waiting ask chunks
  row_of (After said chunks) = answered said chunks
  row_of (Between step is k n sum chunks without heard silent) = record (rcv a 2 (lacking_from k n) chunks false) { heard = heard; silent = silent }
  row_of (Chunking k n c j rem sum total all pushes) = rcv a 2 (lacking_from k (suc n)) (every_number (suc c)) true
  row_of (Pulling k n c sum total pulls chunks some wanted heard silent) = record (rcv a 2 (lacking_from k (suc n)) chunks true) { heard = heard; silent = silent; wanted = wanted }
  row_of (Over chunks) = rcv a 8 none chunks false

  -- ---- what is still to be sent to its node; chunks go to its address or to its group

  -- in pull it was heard of late, or will be asked
  abbrev pub IsHeard : Bool → ℕ → List Item → Type 0
  IsHeard heard silent list = (silent ≡ 0) ⊎ ((silent ≡ 1) × ((heard ≡ true) ⊎ (has_get config list ≡ true)))

  module _ (to : ℕ) where
    abbrev pub chunks_to : (k j rem : ℕ) → List Item
    chunks_to k j rem = map (λ i. Sends to k i) (range_with_len j rem)

    abbrev pub ListOf : Spot → List Item → Type 0
    ListOf First list = list ≡ []
    ListOf (Asking ask chunks) list = list ≡ Says a (request_of ask) ∷ []
    ListOf (After said chunks) list = list ≡ []
    ListOf (Between step is k n sum chunks without heard silent) list = AllLeft config list
    ListOf (Chunking k n c j rem sum total all pushes) list = list ≡ chunks_to k j rem
    ListOf (Pulling k n c sum total pulls chunks some wanted heard silent) list = AllOf config k list × IsHeard heard silent list
    ListOf (Over chunks) list = list ≡ []

  -- ---- its node, and what it is in after its time event

  abbrev pub AskNode : Ask → NodeState → Type 0
  AskNode Checks s = Idle s
  AskNode Starts s = Idle s
  AskNode Informs s = Taken s
  AskNode Transfers s = Taken s
  AskNode (Opens k n c sum total) s = (before : Option LastBlock) × Running (held k (suc n)) before s
  AskNode (Gets k n c sum total) s = Holds (suc k) n (Some (last k)) s
  AskNode Verifies s = (before : Option LastBlock) × Sealed before s
  AskNode Applies s = (before : Option LastBlock) × Sealed before s
  AskNode Confirms s = Done s

  abbrev pub AskNow : Ask → NodeState → Type 0
  AskNow (Gets k n c sum total) s = HoldsNow (suc k) n (Some (last k)) s
  AskNow ask s = AskNode ask s

  abbrev pub SaidNode : Said → NodeState → Type 0
  SaidNode Checked s = Idle s
  SaidNode Started s = Taken s
  SaidNode Informed s = Taken s
  SaidNode (Opened k n c sum total pushes) s = (before : Option LastBlock) × In k n 0 (suc c) before s
  SaidNode (OpenedPull k n c sum total pulls) s = PullIn k n c s
  SaidNode Verified s = (before : Option LastBlock) × Sealed before s
  SaidNode Asked s = Applied s ⊎ Done s
  SaidNode Confirmed s = Done s

  abbrev pub SaidNow : Said → NodeState → Type 0
  SaidNow Asked s = Done s
  SaidNow said s = SaidNode said s

  abbrev pub NodeOf : Spot → NodeState → Type 0
  NodeOf First s = Idle s
  NodeOf (Asking ask chunks) s = AskNode ask s
  NodeOf (After said chunks) s = SaidNode said s
  NodeOf (Between step is k n sum chunks without heard silent) s = (before : Option LastBlock) × Holds k n before s
  NodeOf (Chunking k n c j rem sum total all pushes) s = Chunked k n j rem s
  NodeOf (Pulling k n c sum total pulls chunks some wanted heard silent) s = PullIn k n c s
  NodeOf (Over chunks) s = Done s

  abbrev pub NodeNow : Spot → NodeState → Type 0
  NodeNow First s = Idle s
  NodeNow (Asking ask chunks) s = AskNow ask s
  NodeNow (After said chunks) s = SaidNow said s
  NodeNow (Between step is k n sum chunks without heard silent) s = (before : Option LastBlock) × HoldsNow k n before s
  NodeNow (Chunking k n c j rem sum total all pushes) s = ChunkedNow k n j rem s
  NodeNow (Pulling k n c sum total pulls chunks some wanted heard silent) s = PullIn k n c s
  NodeNow (Over chunks) s = Done s

  -- ---- what it is in now, it is in

  holds_now : (k n : ℕ) (before : Option LastBlock) (s : NodeState) → HoldsNow k n before s → Holds k n before s
  holds_now k zero before s h = inr h
  holds_now k (suc n) before s h = h

  ask_now : (ask : Ask) (s : NodeState) → AskNow ask s → AskNode ask s
  ask_now Checks s h = h
  ask_now Starts s h = h
  ask_now Informs s h = h
  ask_now Transfers s h = h
  ask_now (Opens k n c sum total) s h = h
  ask_now (Gets k n c sum total) s h = holds_now (suc k) n (Some (last k)) s h
  ask_now Verifies s h = h
  ask_now Applies s h = h
  ask_now Confirms s h = h

  said_now : (said : Said) (s : NodeState) → SaidNow said s → SaidNode said s
  said_now Checked s h = h
  said_now Started s h = h
  said_now Informed s h = h
  said_now (Opened k n c sum total pushes) s h = h
  said_now (OpenedPull k n c sum total pulls) s h = h
  said_now Verified s h = h
  said_now Asked s h = inr h
  said_now Confirmed s h = h

  chunked_now : (k n j rem : ℕ) (s : NodeState) → ChunkedNow k n j rem s → Chunked k n j rem s
  chunked_now k n j zero s h = holds_now (suc k) n (Some (last k)) s h
  chunked_now k n j (suc rem) s h = h

  pub node_now : (spot : Spot) (s : NodeState) → NodeNow spot s → NodeOf spot s
  node_now First s h = h
  node_now (Asking ask chunks) s h = ask_now ask s h
  node_now (After said chunks) s h = said_now said s h
  node_now (Between step is k n sum chunks without heard silent) s h = (h.0, holds_now k n h.0 s h.1)
  node_now (Chunking k n c j rem sum total all pushes) s h = chunked_now k n j rem s h
  node_now (Pulling k n c sum total pulls chunks some wanted heard silent) s h = h
  node_now (Over chunks) s h = h

  -- ---- what the node says in time: in pull it may report

  abbrev pub MayReport : ℕ → List (ℕ × Reply) → Type 0
  MayReport c replies = (replies ≡ []) ⊎ ((ks : List ℕ) × Some_below (suc c) ks × (replies ≡ (u, ByBlob (PartialBlockReport ks)) ∷ []))

  abbrev pub SaidReplies : Said → List (ℕ × Reply) → Type 0
  SaidReplies (OpenedPull k n c sum total pulls) replies = MayReport c replies
  SaidReplies said replies = replies ≡ []

  abbrev pub Replied : Spot → List (ℕ × Reply) → Type 0
  Replied (After said chunks) replies = SaidReplies said replies
  Replied (Pulling k n c sum total pulls chunks some wanted heard silent) replies = MayReport c replies
  Replied spot replies = replies ≡ []

  -- ---- time

  module _ (s : NodeState) (now : ℕ) (stands : m.LinkStands fields tiles p meta image blocks good whole chunk_some capacity active images o u now s) where
    abbrev Timed : (NodeState → Type 0) → Type 0
    Timed P = Quiet P (node_timed now s)

    abbrev pub TimedSo : (NodeState → Type 0) → (List (ℕ × Reply) → Type 0) → Type 0
    TimedSo P R = OutcomeSo P R (node_timed now s)

    short : (k n : ℕ) → is_full (held k (suc n)) ≡ false
    short k n = not_full (blk fields tiles p meta image u blocks good 1 few whole chunk_some) k 0 n

    idle_timed : Idle s → Timed Idle
    idle_timed h = m.idle_time fields tiles p meta image blocks good whole chunk_some capacity active images o u s now h

    taken_timed : Taken s → Timed Taken
    taken_timed h = m.taken_time fields tiles p meta image blocks good whole chunk_some capacity active images o u s now h stands

    running_timed : (k n : ℕ) (before : Option LastBlock) → Running (held k (suc n)) before s → Timed (Running (held k (suc n)) before)
    running_timed k n before h = m.between_time fields tiles p meta image blocks good whole chunk_some capacity active images o u (held k (suc n)) before (short k n) s now h stands

    in_timed : (p.mode == 2) ≡ false → (k n j rem : ℕ) (before : Option LastBlock) → In k n j rem before s → Timed (In k n j rem before)
    in_timed no_pull k n j rem before h = m.block_time fields tiles p meta image blocks good whole chunk_some capacity active images o u no_pull (held k (suc n)) _ before (short k n) s now h stands

    sealed_timed : (before : Option LastBlock) → Sealed before s → Timed (Sealed before)
    sealed_timed before h = m.sealed_time fields tiles p meta image blocks good whole chunk_some capacity active images o u all_slots before s now h

    done_timed : Done s → Timed Done
    done_timed h = m.done_time fields tiles p meta image blocks good whole chunk_some capacity active images o u all_slots s now h

    holds_timed : (k n : ℕ) (before : Option LastBlock) → Holds k n before s → Timed (HoldsNow k n before)
    holds_timed k zero before (inl h) = m.seals fields tiles p meta image blocks good whole chunk_some capacity active images o u before s now h
    holds_timed k zero before (inr h) = sealed_timed before h
    holds_timed k (suc n) before h = running_timed k n before h

    ask_timed : (ask : Ask) → AskNode ask s → Timed (AskNow ask)
    ask_timed Checks h = idle_timed h
    ask_timed Starts h = idle_timed h
    ask_timed Informs h = taken_timed h
    ask_timed Transfers h = taken_timed h
    ask_timed (Opens k n c sum total) h = quiet_as (Running (held k (suc n)) h.0) (AskNow (Opens k n c sum total)) (λ z w. (h.0, w)) (node_timed now s) (running_timed k n h.0 h.1)
    ask_timed (Gets k n c sum total) h = holds_timed (suc k) n (Some (last k)) h
    ask_timed Verifies h = quiet_as (Sealed h.0) (AskNow Verifies) (λ z w. (h.0, w)) (node_timed now s) (sealed_timed h.0 h.1)
    ask_timed Applies h = quiet_as (Sealed h.0) (AskNow Applies) (λ z w. (h.0, w)) (node_timed now s) (sealed_timed h.0 h.1)
    ask_timed Confirms h = done_timed h

    none_said : (P : NodeState → Type 0) → Timed P → TimedSo P (λ replies. replies ≡ [])
    none_said P h = record { next = h.next; replied = h.silent }

    reported : (k n c : ℕ) → Pulls p → PullIn k n c s → TimedSo (PullIn k n c) (MayReport c)
    reported k n c pulls h = let r = pm.pulling_time fields tiles p meta image blocks good whole chunk_some capacity active images o u pulls.pull k n c s now h stands in record { next = r.next; replied = r.says }

    said_timed : (said : Said) → SaidNode said s → TimedSo (SaidNow said) (SaidReplies said)
    said_timed Checked h = none_said (SaidNow Checked) (idle_timed h)
    said_timed Started h = none_said (SaidNow Started) (taken_timed h)
    said_timed Informed h = none_said (SaidNow Informed) (taken_timed h)
    said_timed (Opened k n c sum total pushes) h = none_said (SaidNow (Opened k n c sum total pushes)) (quiet_as (In k n 0 (suc c) h.0) (SaidNow (Opened k n c sum total pushes)) (λ z w. (h.0, w)) (node_timed now s) (in_timed pushes.no_pull k n 0 (suc c) h.0 h.1))
    said_timed (OpenedPull k n c sum total pulls) h = reported k n c pulls h
    said_timed Verified h = none_said (SaidNow Verified) (quiet_as (Sealed h.0) (SaidNow Verified) (λ z w. (h.0, w)) (node_timed now s) (sealed_timed h.0 h.1))
    said_timed Asked (inl h) = none_said (SaidNow Asked) (m.activates fields tiles p meta image blocks good whole chunk_some capacity active images o u all_slots h.0 s now h.1)
    said_timed Asked (inr h) = none_said (SaidNow Asked) (done_timed h)
    said_timed Confirmed h = none_said (SaidNow Confirmed) (done_timed h)

    chunked_timed : (p.mode == 2) ≡ false → (k n j rem : ℕ) → Chunked k n j rem s → Timed (ChunkedNow k n j rem)
    chunked_timed no_pull k n j zero h = holds_timed (suc k) n (Some (last k)) h
    chunked_timed no_pull k n j (suc rem) h = quiet_as (In k n j (suc rem) h.0) (ChunkedNow k n j (suc rem)) (λ z w. (h.0, w)) (node_timed now s) (in_timed no_pull k n j (suc rem) h.0 h.1)

    pub spot_timed : (spot : Spot) → NodeOf spot s → TimedSo (NodeNow spot) (Replied spot)
    spot_timed First h = none_said (NodeNow First) (idle_timed h)
    spot_timed (Asking ask chunks) h = none_said (NodeNow (Asking ask chunks)) (ask_timed ask h)
    spot_timed (After said chunks) h = said_timed said h
    spot_timed (Between step is k n sum chunks without heard silent) h =
        none_said (NodeNow (Between step is k n sum chunks without heard silent))
        (quiet_as (HoldsNow k n h.0) (NodeNow (Between step is k n sum chunks without heard silent)) (λ z w. (h.0, w)) (node_timed now s) (holds_timed k n h.0 h.1))
    spot_timed (Chunking k n c j rem sum total all pushes) h = none_said (NodeNow (Chunking k n c j rem sum total all pushes)) (chunked_timed (pushes.no_pull) k n j rem h)
    spot_timed (Pulling k n c sum total pulls chunks some wanted heard silent) h = reported k n c pulls h
    spot_timed (Over chunks) h = none_said (NodeNow (Over chunks)) (done_timed h)
