-- What holds of every client.
use Rattle.std.specs.Prelude.{ℕ, ◌≡◌, ◌≤◌, ◌<◌, ◌+◌, ◌⊎◌, ◌==◌, ◌&&◌, max, Bool, true, false, List, [], ◌∷◌, ◌++◌, length, map, filter, take, drop, Some, if◌then◌else◌, ⊤, is_some}
use Rattle.std.specs.List.{list_any, flat_map, AllByRecursion}
pub use Rattle.mu_model_client.specs.Places.{Each}
use Rattle.mu_model_image.specs.declared.Meta.{Meta}
use Rattle.mu_model_image.specs.Meta.{firmware_id, own_company}
use Rattle.mu_model_node.specs.NodeMessages.{Request}
use Rattle.mu_model_node.specs.UpdateMessages.{ShownJob, InformationStatus, UpdateStatus}
use Rattle.mu_model_client.specs.declared.Sending.{Sending}
use Rattle.mu_model_client.specs.declared.Plan.{Plan}
use Rattle.mu_model_client.specs.declared.Stage.{Stage}
use Rattle.mu_model_client.specs.Sets.{below, set_of_field, named_set}
use Rattle.mu_model_wire.specs.declared.reports.Report.{Report}
use Rattle.mu_model_wire.specs.Reports.{bit_field, Reports, NamesASet}
use Rattle.mu_model_client.specs.Answers.{Answer, FromUpdate}
use Rattle.mu_model_client.specs.Rows.{Row, rank, is_reported, apply_success, apply_failed, phase_unknown, transfer_canceled, row_after}
use Rattle.mu_model_client.specs.Client.{Purpose, Blob, Update, Step, Chunks, Cancel, Receiver, is_active, Item, Says, Sends, Place, At, Verified, Client, rows, chunk_total, round_time, Apply}
use Rattle.mu_model_client.specs.Begin.{start, start_blob, resume, take_apply, take_cancel}
use Rattle.mu_model_client.specs.Told.{is_present, told}
use Rattle.mu_model_client.specs.Lists.{chunk_items, lacks_chunk, missing_of, sent_for}
use Rattle.mu_model_client.specs.Due.{Due, due, silent_after, fell_silent, is_empty}

-- ---- what stays

-- what is sent, what for, and each receiver's address and index
pub record SamePlan (before after : Client) : Type 0 where
  pub sending : after.sending ≡ before.sending
  pub purpose : after.purpose ≡ before.purpose
  pub addresses : map (λ (row : Row). row.address) (rows after) ≡ map (λ (row : Row). row.address) (rows before)
  pub indexes : map (λ (row : Row). row.index) (rows after) ≡ map (λ (row : Row). row.index) (rows before)

pub record KeepsPlan : Type 0 where
  pub tells : (c : Client) (from : ℕ) (answer : Answer) (now : ℕ) → SamePlan c (told c from answer now)
  pub dues : (c : Client) (image : List ℕ) (now : ℕ) → SamePlan c (due c image now).next
  pub applies : (c : Client) → SamePlan c (take_apply c)
  pub cancels : (c : Client) → SamePlan c (take_cancel c)

abbrev pub PlansStay : Type 0
PlansStay = KeepsPlan

-- ---- packets

-- at most 16 packets a time event
abbrev pub AtMostSixteen : Type 0
AtMostSixteen = (c : Client) (image : List ℕ) (now : ℕ) → length (due c image now).packets ≤ 16

-- ---- rows

-- these phases come by verdict alone
abbrev pub IsVerdict : ℕ → Type 0
IsVerdict phase = (phase ≡ transfer_canceled) ⊎ ((phase ≡ apply_failed) ⊎ (phase ≡ phase_unknown))

pub record RowRises (before after : Receiver) : Type 0 where
  pub rank_kept : rank before.row.phase ≤ rank after.row.phase
  pub verdict_kept : IsVerdict after.row.phase → after.row.phase ≡ before.row.phase

-- no packet takes a row's rank down, or gives a verdict
abbrev pub RowsRise : Type 0
RowsRise = (c : Client) (from : ℕ) (answer : Answer) (now : ℕ) → Each RowRises c.receivers (told c from answer now).receivers

-- a row's phase after a packet: as it was; one of at least its rank that an Update Status of this transfer tells; or Apply Success, by an Information
-- Status that shows the offered image at the row's index, in a phase that was told before
pub data PhaseCause (id : ℕ) (offered : Meta) (row : Row) (answer : Answer) (phase : ℕ) : Type 0 where
  as_before : phase ≡ row.phase → PhaseCause id offered row answer phase
  was_told : (status : ℕ) (job : ShownJob) → answer ≡ FromUpdate (UpdateStatus status phase (Some job)) → job.id ≡ id → is_reported phase ≡ true
      → rank row.phase ≤ rank phase → PhaseCause id offered row answer phase
  was_shown : (count : ℕ) (more : List (List ℕ)) → answer ≡ FromUpdate (InformationStatus count row.index (firmware_id own_company offered ∷ more))
      → is_reported row.phase ≡ true → phase ≡ apply_success → PhaseCause id offered row answer phase

abbrev pub RowsChangeByCause : Type 0
RowsChangeByCause =
    (id : ℕ) (offered : Meta) (row : Row) (answer : Answer) → PhaseCause id offered row answer (row_after id offered row answer).phase

-- what a packet says of a row of its source; a BLOB alone has no row of an update
abbrev pub phase_said : ℕ → Purpose → Row → Answer → ℕ
phase_said id Blob row answer = row.phase
phase_said id (Update offered apply) row answer = (row_after id offered row answer).phase

pub record FollowsPacket (c : Client) (from : ℕ) (answer : Answer) (before after : Receiver) : Type 0 where
  pub theirs : is_present c.place ≡ true → before.row.address ≡ from → after.row.phase ≡ phase_said c.sending.id c.purpose before.row answer
  pub others : (before.row.address ≡ from → ⊥) → after.row.phase ≡ before.row.phase
  pub canceled : is_present c.place ≡ false → after.row.phase ≡ before.row.phase

-- a packet changes the phases of its source's rows to what it says of them, and no others; none once the transfer is being canceled
abbrev pub RowsFollowPackets : Type 0
RowsFollowPackets = (c : Client) (from : ℕ) (answer : Answer) (now : ℕ) → Each (FollowsPacket c from answer) c.receivers (told c from answer now).receivers

-- ---- silence

-- a receiver is shown as before
pub record AsBefore (before after : Receiver) : Type 0 where
  pub phase_same : after.row.phase ≡ before.row.phase
  pub standing_same : after.standing ≡ before.standing

-- what a time event changes of a receiver's phase and standing: nothing, but where it was pending through its fifth silent round,
-- at least a round after the round's begin. Then it has fallen silent: it is dropped, but not in applying and cancelling
pub data TimeChanges (c : Client) (now : ℕ) (before after : Receiver) : Type 0 where
  nothing : AsBefore before after → TimeChanges c now before after
  fifth :
      (step : Step) → c.place ≡ At step → before.pending ≡ true → silent_after step before ≡ 5
      → c.began + round_time c.sending ≤ max c.moment now → AsBefore (fell_silent before step) after
      → TimeChanges c now before after

-- ---- sound clients

-- whom a step may ask: active receivers, and in cancelling any
abbrev pub may_ask : Step → (active : Bool) → Bool
may_ask Cancel active = true
may_ask step active = active

-- who may be pending: in a step those that it may ask
abbrev pub may_pend : Place → (active : Bool) → Bool
may_pend (At step) active = may_ask step active
may_pend _ active = true

pub record IsAsked (place : Place) (r : Receiver) : Type 0 where
  pub may : r.pending ≡ true → may_pend place (is_active r) ≡ true
  pub few : r.pending ≡ true → r.silent < 5

abbrev pub IsSound : Client → Type 0
IsSound c = AllByRecursion (IsAsked c.place) c.receivers

pub record BeginSound : Type 0 where
  pub starts : (plan : Plan) (to : List (ℕ × ℕ)) → IsSound (start plan to)
  pub blobs : (p : Sending) (to : List ℕ) → IsSound (start_blob p to)
  pub resumes : (plan : Plan) (rows : List Row) (stage : Stage) → IsSound (resume plan rows stage)

abbrev pub BeginsSound : Type 0
BeginsSound = BeginSound

pub record EventsSound : Type 0 where
  pub tells : (c : Client) (from : ℕ) (answer : Answer) (now : ℕ) → IsSound c → IsSound (told c from answer now)
  pub dues : (c : Client) (image : List ℕ) (now : ℕ) → IsSound c → IsSound (due c image now).next
  -- where it is Verified
  pub applies : (c : Client) → c.place ≡ Verified → IsSound c → IsSound (take_apply c)
  pub cancels : (c : Client) → IsSound (take_cancel c)

abbrev pub EventsKeepSound : Type 0
EventsKeepSound = EventsSound

-- neither time nor cancelling takes a row's rank down
pub record RankRises (before after : Receiver) : Type 0 where
  pub rank_kept : rank before.row.phase ≤ rank after.row.phase

abbrev pub TimeKeepsRanks : Type 0
TimeKeepsRanks = (c : Client) (image : List ℕ) (now : ℕ) → IsSound c → Each RankRises c.receivers (due c image now).next.receivers

abbrev pub CancellingKeepsRanks : Type 0
CancellingKeepsRanks = (c : Client) → Each RankRises c.receivers (take_cancel c).receivers

-- a receiver that isn't active stays as it stands, whatever comes: who was dropped is dropped for good
pub record StaysGone (before after : Receiver) : Type 0 where
  pub stays : is_active before ≡ false → after.standing ≡ before.standing

pub record DropsAreForGood : Type 0 where
  pub tells : (c : Client) (from : ℕ) (answer : Answer) (now : ℕ) → IsSound c → Each StaysGone c.receivers (told c from answer now).receivers
  pub dues : (c : Client) (image : List ℕ) (now : ℕ) → IsSound c → Each StaysGone c.receivers (due c image now).next.receivers

abbrev pub DropsStay : Type 0
DropsStay = DropsAreForGood

-- while applying and cancelling, time drops nobody
pub record StandsAsBefore (before after : Receiver) : Type 0 where
  pub standing_same : after.standing ≡ before.standing

abbrev pub ApplyingDropsNobody : Type 0
ApplyingDropsNobody =
    (c : Client) (image : List ℕ) (now : ℕ) → IsSound c → (c.place ≡ At Apply) ⊎ (c.place ≡ At Cancel)
    → Each StandsAsBefore c.receivers (due c image now).next.receivers

abbrev pub TimeChangesAtFive : Type 0
TimeChangesAtFive =
    (c : Client) (image : List ℕ) (now : ℕ) → IsSound c → Each (TimeChanges c now) c.receivers (due c image now).next.receivers

-- ---- the union of missing chunks

-- an active receiver misses chunk k
abbrev pub is_missed : List Receiver → ℕ → Bool
is_missed receivers k = list_any (lacks_chunk missing_of k) receivers

-- with a group the list of a step in push has each chunk that an active receiver misses once, rising, to the group
abbrev pub GroupGetsTheUnion : Type 0
GroupGetsTheUnion =
    (p : Sending) (b : ℕ) (receivers : List Receiver) → (p.group == 0) ≡ false
    → chunk_items p b missing_of receivers ≡ map (λ k. Sends p.group b k) (filter (is_missed receivers) (below (chunk_total p b)))

-- without one it has, chunk by chunk, rising, one packet to each active receiver that misses it, in order
abbrev pub EachGetsWhatItMisses : Type 0
EachGetsWhatItMisses =
    (p : Sending) (b : ℕ) (receivers : List Receiver) → (p.group == 0) ≡ true
    → chunk_items p b missing_of receivers
    ≡ flat_map (λ k. map (λ (r : Receiver). Sends r.row.address b k) (filter (lacks_chunk missing_of k) receivers)) (below (chunk_total p b))

-- ---- what a step in push sends

pub data ClientEvent : Type 0 where
  Time : ℕ → ClientEvent
  Packet : (from : ℕ) → Answer → ℕ → ClientEvent

-- what is sent until the list is sent, whatever comes, and what is left of it then
abbrev pub sent_in : Client → List ℕ → List ClientEvent → List (ℕ × Request)
sent_in c image [] = map (sent_for c.sending image) c.queue
sent_in c image (Packet from answer now ∷ events) = sent_in (told c from answer now) image events
sent_in c image (Time now ∷ events) = if is_empty c.queue then [] else ((due c image now).packets ++ sent_in (due c image now).next image events)

-- a time event begins the chunks of a block
pub record BeginsChunks (c next : Client) (b : ℕ) : Type 0 where
  pub before : c.place ≡ At (Chunks b) → ⊥
  pub begun : next.place ≡ At (Chunks b)

-- from the time event in which the chunks of a block begin until they are sent, what is sent is the chunks that active receivers
-- miss at its beginning, in order, whatever comes meanwhile
abbrev pub StepsSendTheirLists : Type 0
StepsSendTheirLists =
    (c : Client) (image : List ℕ) (now b : ℕ) (events : List ClientEvent) → BeginsChunks c (due c image now).next b
    → (due c image now).packets ++ sent_in (due c image now).next image events
    ≡ map (sent_for c.sending image) (chunk_items c.sending b missing_of (due c image now).next.receivers)

-- ---- whom lists go to

-- a receiver that the step may ask has this address
abbrev pub is_one_of : Step → List Receiver → ℕ → Bool
is_one_of step receivers to = list_any (λ r. may_ask step (is_active r) && (r.row.address == to)) receivers

-- a message goes to such a receiver, a chunk to one, or to the group
abbrev pub GoesAmong : Sending → List Receiver → Step → Item → Type 0
GoesAmong p receivers step (Says to request) = is_one_of step receivers to ≡ true
GoesAmong p receivers step (Sends to b k) = (((p.group == 0) ≡ false) × (to ≡ p.group)) ⊎ (is_one_of step receivers to ≡ true)

-- the items of a list are sent, 16 now and the others later
pub record IsList (c : Client) (image : List ℕ) (items : List Item) (d : Due) : Type 0 where
  pub now : d.packets ≡ map (sent_for c.sending image) (take 16 items)
  pub later : d.next.queue ≡ drop 16 items

-- a time event sends nothing, goes on with its list, or makes a new one
pub data MakesList (c : Client) (image : List ℕ) (d : Due) : Type 0 where
  sends_none : d.packets ≡ [] → ((d.next.queue ≡ c.queue) ⊎ (d.next.queue ≡ [])) → MakesList c image d
  goes_on_with : IsList c image c.queue d → MakesList c image d
  makes : (step : Step) (items : List Item) → d.next.place ≡ At step → IsList c image items d → AllByRecursion (GoesAmong d.next.sending d.next.receivers step) items → MakesList c image d

-- each list that is made goes to receivers that are active then
abbrev pub ListsGoToActive : Type 0
ListsGoToActive = (c : Client) (image : List ℕ) (now : ℕ) → IsSound c → MakesList c image (due c image now)

-- ---- sets

-- the bit field of a set is read as the set
abbrev pub FieldsAreRead : Type 0
FieldsAreRead = (set : List Bool) → set_of_field (length set) (bit_field set) ≡ Some set

-- a report that is read as a set below n names that set
pub record IsNamed (n : ℕ) (report : Report) (set : List Bool) : Type 0 where
  pub bound : length set ≡ n
  pub reports : Reports report set

abbrev pub NamedSetsAreReported : Type 0
NamedSetsAreReported = (n : ℕ) (report : Report) (set : List Bool) → named_set n report ≡ Some set → IsNamed n report set

-- and every report that names a set below n is read
abbrev pub NamedSetsAreRead : Type 0
NamedSetsAreRead = (n : ℕ) (report : Report) → NamesASet report n → is_some (named_set n report) ≡ true
