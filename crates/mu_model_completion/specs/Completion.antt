-- How many turns an update takes in which nothing is lost.
use Rattle.std.specs.Prelude.{ℕ, ◌≡◌, ◌≢◌, ◌<◌, ◌≤◌, ◌+◌, ◌-◌, ◌*◌, ◌^◌, ◌⊎◌, ◌==◌, true, false, List, [], ◌∷◌, length, map, Option, Some, None, if◌then◌else◌}
use Rattle.std.specs.List.{AllByRecursion}
use Rattle.mu_model_wire.specs.Limits.{most_chunk, most_receivers}
pub use Rattle.mu_model_client.specs.Places.{NoneTwice}
use Rattle.mu_model_image.specs.Meta.{Image, IsMeta, IsFit, image_of}
use Rattle.mu_model_image.specs.Pieces.{piece_count}
use Rattle.mu_model_node.specs.declared.NodeConfig.{NodeConfig}
use Rattle.mu_model_node.specs.NodeState.{NodeState}
use Rattle.mu_model_client.specs.declared.Sending.{Sending}
use Rattle.mu_model_client.specs.declared.Plan.{Plan}
use Rattle.mu_model_client.specs.declared.Dropped.{Dropped}
use Rattle.mu_model_client.specs.Rows.{Row}
use Rattle.mu_model_client.specs.Client.{Receiver, rows, block_total, chunk_total}
use Rattle.mu_model_client.specs.Begin.{start, is_ended, cause_of}
use Rattle.mu_model_completion.specs.Worked.{three_nodes}
use Rattle.mu_model_completion.specs.Turn.{Member, Part, IsNode, IsUpdater, settle}

-- ---- members by address

abbrev pub at_address : ℕ → List Member → Option Member
at_address a [] = None
at_address a (x ∷ xs) = if x.config.address == a then Some x else at_address a xs

-- no two members have one address
abbrev pub Distinct : List Member → Type 0
Distinct [] = Unit {0}
Distinct (x ∷ xs) = (at_address x.config.address xs ≡ None) × Distinct xs

-- a node, or an updater that has ended
abbrev pub IsQuiet : Part → Type 0
IsQuiet (IsNode s) = Unit {0}
IsQuiet (IsUpdater c image) = is_ended c.place ≡ true

-- all but the one at this address
abbrev pub AllQuiet : ℕ → List Member → Type 0
AllQuiet u xs = AllByRecursion (λ (x : Member). (x.config.address == u) ≡ false → IsQuiet x.part) xs

-- the rows that the updater at an address shows
abbrev pub rows_of : Part → Option (List Row)
rows_of (IsNode s) = None
rows_of (IsUpdater c image) = Some (rows c)

abbrev pub rows_in : Option Member → Option (List Row)
rows_in None = None
rows_in (Some x) = rows_of x.part

abbrev pub rows_at : ℕ → List Member → Option (List Row)
rows_at a members = rows_in (at_address a members)

-- why each receiver of the updater at an address was dropped, if it was
abbrev pub drop_of : Receiver → Option Dropped
drop_of r = cause_of r.standing

abbrev pub drops_of : Part → Option (List (Option Dropped))
drops_of (IsNode s) = None
drops_of (IsUpdater c image) = Some (map drop_of c.receivers)

abbrev pub drops_in : Option Member → Option (List (Option Dropped))
drops_in None = None
drops_in (Some x) = drops_of x.part

abbrev pub drops_at : ℕ → List Member → Option (List (Option Dropped))
drops_at a members = drops_in (at_address a members)

-- ---- what is sent, and to whom

-- an update that is applied once verified, in the limits of this profile
pub record IsUpdate (plan : Plan) (image : List ℕ) : Type 0 where
  pub log_least : 12 ≤ plan.sending.log
  pub log_most : plan.sending.log ≤ 14
  pub chunk_least : 8 ≤ plan.sending.chunk
  pub chunk_most : plan.sending.chunk ≤ most_chunk
  pub size : plan.sending.size ≡ plan.meta.size
  pub meta : IsMeta plan.meta
  pub fit : IsFit image plan.meta
  pub apply : plan.apply ≡ true

-- a node takes the update: it is idle, its bank holds the image, its active version is lower; and it is in the group, if there is
-- one
pub record CanTake (plan : Plan) (config : NodeConfig) (state : NodeState) : Type 0 where
  pub idle : state.durable.job ≡ None
  pub active : Image
  pub others : List Image
  pub images : state.durable.images ≡ active ∷ others
  pub older : active.meta.version < plan.meta.version
  pub room : plan.meta.size ≤ state.durable.capacity
  pub some_group : (config.group ≡ 0) ⊎ (0xC000 ≤ config.group)
  pub in_group : (plan.sending.group ≡ 0) ⊎ (config.group ≡ plan.sending.group)

-- at this address these members have a node that takes the update
pub record Takes (plan : Plan) (members : List Member) (a : ℕ) : Type 0 where
  pub config : NodeConfig
  pub moment : ℕ
  pub state : NodeState
  pub found : at_address a members ≡ Some (record { config = config; moment = moment; part = IsNode state })
  pub handed : state.moment ≤ moment
  pub can : CanTake plan config state
  pub unicast : a < 0x8000

-- an updater that has had no event, among members of which each receiver takes the update and the others are quiet
pub record CanBegin (plan : Plan) (image : List ℕ) (to : List ℕ) (members : List Member) : Type 0 where
  pub update : IsUpdate plan image
  pub config : NodeConfig
  pub moment : ℕ
  pub from : config.address ≡ plan.sending.from
  pub updater : at_address config.address members ≡ Some (record { config = config; moment = moment; part = IsUpdater (start plan (map (λ a. (a, 0)) to)) image })
  pub distinct : Distinct members
  pub quiet : AllQuiet config.address members
  pub some : 1 ≤ length to
  pub few : length to ≤ most_receivers
  pub none_twice : NoneTwice to
  pub takes : AllByRecursion (Takes plan members) to

-- ---- the bound

-- sixteens of receivers, and of packets
abbrev pub sixteens : ℕ → ℕ
sixteens n = piece_count n 16

-- packets for a chunk: one to a group, and without one to each receiver
abbrev pub copies : Sending → (receivers : ℕ) → ℕ
copies p receivers = if p.group == 0 then receivers else 1

-- seven steps in which each is asked once; and for each block two such steps and the chunks of a full block
abbrev pub push_turns : Sending → (receivers : ℕ) → ℕ
push_turns p receivers =
    7 * sixteens receivers + block_total p * (2 * sixteens receivers + sixteens (chunk_total p 0 * copies p receivers))

-- in pull, seven turns; and for each block one, and two for each sixteen chunks of a full block: one in which the node asks for
-- them, and one in which they come
abbrev pub pull_turns : Sending → ℕ
pull_turns p = 7 + block_total p * (1 + 2 * sixteens (chunk_total p 0))

-- ---- the laws

-- the row of a receiver that has the image
abbrev pub succeeded : ℕ → Row
succeeded a = record { address = a; index = 0; phase = 8; update_status = 0; transfer_status = 0; progress = 100 }

-- all receivers have succeeded, and none was dropped
pub record Completed (u : ℕ) (to : List ℕ) (members : List Member) : Type 0 where
  pub rows : rows_at u members ≡ Some (map succeeded to)
  pub drops : drops_at u members ≡ Some (map (λ a. None) to)

-- in push this is so after so many turns, and from then on
abbrev pub PushCompletes : Type 0
PushCompletes =
    (plan : Plan) (image : List ℕ) (to : List ℕ) (members : List Member) (from : CanBegin plan image to members)
    → plan.sending.mode ≡ 1 → (n : ℕ) → push_turns plan.sending (length to) ≤ n
    → Completed from.config.address to (settle n members)

-- the row of a receiver that makes the image active
abbrev pub applying : ℕ → Row
applying a = record { address = a; index = 0; phase = 6; update_status = 0; transfer_status = 0; progress = 100 }

-- each block has as many chunks as the first
abbrev pub AllFull : Sending → Type 0
AllFull p = (b : ℕ) → b < block_total p → chunk_total p b ≡ chunk_total p 0

-- and not a turn sooner, where each block is full and up to sixteen receivers are in a group
abbrev pub PushTakesAll : Type 0
PushTakesAll =
    (plan : Plan) (image : List ℕ) (to : List ℕ) (members : List Member) (from : CanBegin plan image to members)
    → plan.sending.mode ≡ 1 → (plan.sending.group == 0) ≡ false → length to ≤ 16 → AllFull plan.sending
    → rows_at from.config.address (settle (push_turns plan.sending (length to) - 1) members) ≡ Some (map applying to)

-- and in pull, where there is one receiver
abbrev pub PullCompletes : Type 0
PullCompletes =
    (plan : Plan) (image : List ℕ) (to : ℕ) (members : List Member) (from : CanBegin plan image (to ∷ []) members)
    → plan.sending.mode ≡ 2 → (n : ℕ) → pull_turns plan.sending ≤ n
    → Completed from.config.address (to ∷ []) (settle n members)

-- nobody is dropped, after however many turns
abbrev pub NoDrops : (u : ℕ) (to : List ℕ) → List Member → Type 0
NoDrops u to members = drops_at u members ≡ Some (map (λ a. None) to)

abbrev pub PushDropsNobody : Type 0
PushDropsNobody =
    (plan : Plan) (image : List ℕ) (to : List ℕ) (members : List Member) (from : CanBegin plan image to members)
    → plan.sending.mode ≡ 1 → (n : ℕ) → NoDrops from.config.address to (settle n members)

abbrev pub PullDropsNobody : Type 0
PullDropsNobody =
    (plan : Plan) (image : List ℕ) (to : ℕ) (members : List Member) (from : CanBegin plan image (to ∷ []) members)
    → plan.sending.mode ≡ 2 → (n : ℕ) → NoDrops from.config.address (to ∷ []) (settle n members)

-- three receivers and 64 KiB in 16 blocks of 21 chunks, to a group: 71 turns
abbrev pub plan_64 : (version : ℕ) → List ℕ → Plan
plan_64 version image = record {
  sending = record { from = 1; id = 0x0001_0000_0000_0007; size = 65536; log = 12; chunk = 200; mode = 1; group = 0xC000; ttl = 5; base = 0 };
  meta = (image_of version image).meta;
  apply = true;
}

abbrev pub members_64 : (version : ℕ) → List ℕ → List Member
members_64 version image =
    record { config = record { address = 1; group = 0 }; moment = 0; part = IsUpdater (start (plan_64 version image) ((2, 0) ∷ (3, 0) ∷ (4, 0) ∷ [])) image } ∷ three_nodes

-- and no sooner
pub record After70And71 (version : ℕ) (image : List ℕ) : Type 0 where
  pub seventy : rows_at 1 (settle 70 (members_64 version image)) ≡ Some (applying 2 ∷ applying 3 ∷ applying 4 ∷ [])
  pub seventy_one : rows_at 1 (settle 71 (members_64 version image)) ≡ Some (succeeded 2 ∷ succeeded 3 ∷ succeeded 4 ∷ [])

abbrev pub ThreeOver64KiB : Type 0
ThreeOver64KiB = (version : ℕ) (image : List ℕ) → 1 < version → version < 2 ^ 32 → length image ≡ 65536 → After70And71 version image
