-- What holds of a distributor's step.
use Rattle.std.specs.Prelude.{ℕ, ◌≡◌, ◌≤◌, ◌+◌, ◌⊎◌, ◌↔◌, ◌==◌, not, List, [], ◌∷◌, ◌++◌, length, drop, Option, Some, None, MatchOption}
use Rattle.std.specs.List.{AllByRecursion, list_any}
use Rattle.byteorder.specs.Endian.{little_bytes}
pub use Rattle.mu_model_node.specs.Laws.{pages_put}
use Rattle.mu_model_distributor.specs.DistState.{receiver_octets}
use Rattle.mu_model_wire.specs.Laws.{AreOctets}
use Rattle.mu_model_image.specs.Meta.{Image, IsMeta}
use Rattle.mu_model_node.specs.declared.FlashWork.{FlashWork}
use Rattle.mu_model_node.specs.declared.FlashWork.TheVariants.{Untouched, Recorded, Begun, PutBlock}
use Rattle.mu_model_node.specs.Slots.{held_count}
use Rattle.mu_model_node.specs.Events.{NodeEvent, PacketComes, TimeComes}
use Rattle.mu_model_node.specs.Sound.{IsActiveImage}
use Rattle.mu_model_distributor.specs.DistMessages.{taken_at}
use Rattle.mu_model_distributor.specs.DistState.{Receiver, UploadJob, job_of, DistDurable, DistState}
use Rattle.mu_model_distributor.specs.Commit.{is_past, is_long, ends}
use Rattle.mu_model_distributor.specs.DistEvents.{dist_step, dist_passed, dist_work, restarted, new_distributor, stocked}
use Rattle.mu_model_distributor.specs.Runs.{left_after}
use Rattle.mu_model_distributor.specs.Sound.{AreReceivers, IsDistDurable, IsDistState, TakenFits}

-- ---- sound states

-- what a packet says is in the ranges of the grammar
abbrev pub EventFits : NodeEvent → Type 0
EventFits (PacketComes packet) = MatchOption (taken_at packet.payload) (Unit {0}) TakenFits
EventFits TimeComes = Unit {0}

-- what octets say always is
abbrev pub OctetsSayInRange : Type 0
OctetsSayInRange = (payload : List ℕ) → AreOctets payload → MatchOption (taken_at payload) (Unit {0}) TakenFits

-- from a sound state an event leads to a sound state
abbrev pub EventsKeepStatesSound : Type 0
EventsKeepStatesSound =
    (address : ℕ) (s : DistState) (event : NodeEvent) (now : ℕ) → EventFits event → IsDistState s
    → IsDistState (dist_step address s event now).next

-- and a boot does, from what it may find
abbrev pub BootsAreSound : Type 0
BootsAreSound = (address : ℕ) (d : DistDurable) → IsDistDurable d → IsDistState (restarted address d)

-- the rules on a record hold in each durable state that an event goes through
abbrev pub PassedStatesAreSound : Type 0
PassedStatesAreSound =
    (address : ℕ) (s : DistState) (event : NodeEvent) (now : ℕ) → EventFits event → IsDistState s
    → AllByRecursion IsDistDurable (dist_passed address s event now)

-- and in a new distributor's
abbrev pub NewIsSound : Type 0
NewIsSound = (pages : ℕ) → 1 ≤ pages → pages ≤ 256 → IsDistDurable (new_distributor pages)

-- ---- the durable states that an event goes through

-- how many blocks of an upload are held
abbrev pub blocks_held : Option UploadJob → ℕ
blocks_held None = 0
blocks_held (Some j) = held_count j.transfer.held

-- a record, or a mark
abbrev pub IsLater : DistDurable → DistDurable → Type 0
IsLater old new =
    (new.count ≡ old.count + 1) ⊎ ((new.count ≡ old.count) × (blocks_held (job_of new.upload) ≡ blocks_held (job_of old.upload) + 1))

-- the first is the old one, each later one follows a record or a mark, and the last is the new one
abbrev pub PassesFrom : DistDurable → DistDurable → List DistDurable → Type 0
PassesFrom old new [] = ⊥
PassesFrom old new (d ∷ []) = (d ≡ old) × (d ≡ new)
PassesFrom old new (d ∷ e ∷ ds) = (d ≡ old) × IsLater d e × PassesFrom e new (e ∷ ds)

abbrev pub StatesPassRising : Type 0
StatesPassRising =
    (address : ℕ) (s : DistState) (event : NodeEvent) (now : ℕ) → EventFits event → IsDistState s
    → PassesFrom s.durable (dist_step address s event now).next.durable (dist_passed address s event now)

-- ---- flash work

-- each operation leaves the old state or the new one
abbrev pub WorkLeavesOldOrNew : Type 0
WorkLeavesOldOrNew =
    (address : ℕ) (s : DistState) (event : NodeEvent) (now : ℕ)
    → AllByRecursion (λ (d : DistDurable). (d ≡ s.durable) ⊎ (d ≡ (dist_step address s event now).next.durable)) (dist_work address s event now)

-- and all of them the new one
abbrev pub WorkLeadsToTheNew : Type 0
WorkLeadsToTheNew =
    (address : ℕ) (s : DistState) (event : NodeEvent) (now : ℕ) → EventFits event → IsDistState s
    → left_after address s event now (length (dist_work address s event now)) ≡ (dist_step address s event now).next.durable

-- an event costs at most the pages of a block and 5 operations; a block has at most 4 pages
abbrev pub WorkIsBounded : Type 0
WorkIsBounded =
    (address : ℕ) (s : DistState) (event : NodeEvent) (now : ℕ) → EventFits event → IsDistState s
    → (length (dist_work address s event now) ≤ pages_put (dist_step address s event now).work + 5)
    × (pages_put (dist_step address s event now).work ≤ 4)

-- a record that is written is long as the receivers in it say
abbrev pub IsLongBy : DistDurable → FlashWork → Type 0
IsLongBy new (Recorded long) = long ≡ is_long new
IsLongBy new (Begun long) = long ≡ is_long new
IsLongBy new _ = Unit {0}

abbrev pub RecordsAreLongByReceivers : Type 0
RecordsAreLongByReceivers =
    (address : ℕ) (s : DistState) (event : NodeEvent) (now : ℕ) → EventFits event → IsDistState s
    → IsLongBy (dist_step address s event now).next.durable (dist_step address s event now).work

-- at an event's end there is no record exactly where what is kept stays
abbrev pub RecordsSaySomething : Type 0
RecordsSaySomething = (s t : DistState) → ((ends s t (λ u. [])).work ≡ Untouched) ↔ (t.durable ≡ s.durable)

-- ---- an image that is stocked

-- it goes to a bank without an image, where there is one, and the state stays sound
abbrev pub StockedIsSound : Type 0
StockedIsSound =
    (s : DistState) (image : Image) → IsDistState s → job_of s.durable.upload ≡ None → IsMeta image.meta → IsActiveImage s.durable.capacity image
    → IsDistState (stocked s image)

-- ---- long records

abbrev pub receivers_octets : List Receiver → List ℕ
receivers_octets [] = []
receivers_octets (r ∷ receivers) = receiver_octets r ++ receivers_octets receivers

-- the receivers of a record stand from its octet 448 on, and a record is short where its octets from 512 on are all 0
abbrev pub LongIsPastTheEnd : Type 0
LongIsPastTheEnd =
    (receivers : List Receiver) → AreReceivers receivers
    → is_past (drop 10 receivers) ≡ list_any (λ octet. not (octet == 0)) (drop 64 (receivers_octets receivers))
