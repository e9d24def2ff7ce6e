-- What holds of every updater, whatever comes to it and when.
use Rattle.std.specs.Prelude.{ℕ, ◌≡◌, ◌⊎◌, ◌<◌, ◌≤◌, ◌^◌, true, List, [], ◌∷◌, length, map, take, Option, Some, None, Ok}
use Rattle.std.specs.List.{AllByRecursion}
use Rattle.mu_model_image.specs.Sizes.{most_image}
pub use Rattle.mu_model_node.specs.Safe.{InOrder, none, here, later}
use Rattle.mu_model_image.specs.declared.Meta.{Meta}
use Rattle.mu_model_image.specs.Meta.{Image, IsMeta, meta_octets, firmware_id, own_company}
use Rattle.mu_model_wire.specs.Fields.{Message}
use Rattle.mu_model_wire.specs.Packet.{Packet}
use Rattle.mu_model_wire.specs.Reading.{message_at}
use Rattle.mu_model_wire.specs.Table.{rows as grammar}
use Rattle.mu_model_node.specs.Events.{NodeEvent, TimeComes}
use Rattle.mu_model_node.specs.NodeMessages.{Request, OfUpdate, request_at}
use Rattle.mu_model_node.specs.UpdateMessages.{ShownJob, UpdateStart, MetadataCheck, StartUpdate, InformationStatus, UpdateStatus}
use Rattle.mu_model_client.specs.declared.Plan.{Plan}
use Rattle.mu_model_client.specs.Answers.{FromUpdate, answer_at}
use Rattle.mu_model_client.specs.Begin.{is_ended}
use Rattle.mu_model_client.specs.Client.{rows}
use Rattle.mu_model_client.specs.Packets.{request_packet}
use Rattle.mu_model_client.specs.Rows.{Row, is_reported, apply_success, apply_failed, phase_unknown}
use Rattle.mu_model_client_laws.specs.Asked.{HasReceiver, receivers_of}
use Rattle.mu_model_updater.specs.Updater.{Updater, new_updater, UpdaterLine, first_image, plan_of, updater_step, updater_after, sent_in, starts_in, Heard, heard_in}

-- ---- rows

-- the receiver told this phase of the transfer
pub record ToldPhase (id address phase : ℕ) (heard : List Heard) : Type 0 where
  pub status : ℕ
  pub job : ShownJob
  pub of : job.id ≡ id
  pub heard_it : InOrder (record { from = address; answer = FromUpdate (UpdateStatus status phase (Some job)) } ∷ []) heard

-- the receiver told a phase of the transfer, and then showed the image that the transfer offers, at its index
pub record ToldSuccess (id address index : ℕ) (offered : Meta) (heard : List Heard) : Type 0 where
  pub phase : ℕ
  pub reported : is_reported phase ≡ true
  pub status : ℕ
  pub job : ShownJob
  pub of : job.id ≡ id
  pub count : ℕ
  pub more : List (List ℕ)
  pub heard_both : InOrder
      (record { from = address; answer = FromUpdate (UpdateStatus status phase (Some job)) }
      ∷ record { from = address; answer = FromUpdate (InformationStatus count index (firmware_id own_company offered ∷ more)) }
      ∷ []) heard

-- why a row is in its phase. An updater cancels nothing, so no row of its is ever in Transfer Canceled
pub data RowIsTold (plan : Plan) (heard : List Heard) (row : Row) : Type 0 where
  -- the updater's own verdicts: nothing was told of the transfer yet, or the row was asked to confirm in vain
  unknown : row.phase ≡ phase_unknown → RowIsTold plan heard row
  failed : row.phase ≡ apply_failed → RowIsTold plan heard row
  told : is_reported row.phase ≡ true → ToldPhase plan.sending.id row.address row.phase heard → RowIsTold plan heard row
  shown : row.phase ≡ apply_success → ToldSuccess plan.sending.id row.address row.index plan.meta heard → RowIsTold plan heard row

abbrev pub RowsAreTold : Type 0
RowsAreTold =
    (plan : Plan) (image : Image) (to : List (ℕ × ℕ)) (run : List (NodeEvent × ℕ))
    → AllByRecursion (RowIsTold plan (heard_in plan.sending.from run)) (rows (updater_after (new_updater plan image to) run).client)

-- each row is of its receiver and has the index of its image, in the receivers' order
abbrev pub RowsAreOfReceivers : Type 0
RowsAreOfReceivers =
    (plan : Plan) (image : Image) (to : List (ℕ × ℕ)) (run : List (NodeEvent × ℕ))
    → receivers_of (updater_after (new_updater plan image to) run).client ≡ to

-- ---- Update Starts

-- an Update Start says what the plan says, and goes to a receiver with the index of its image
pub record IsOffered (plan : Plan) (receivers : List (ℕ × ℕ)) (to : ℕ) (u : UpdateStart) : Type 0 where
  pub ttl : u.ttl ≡ plan.sending.ttl
  pub base : u.base ≡ plan.sending.base
  pub id : u.id ≡ plan.sending.id
  pub metadata : u.metadata ≡ meta_octets plan.meta
  pub receiver : HasReceiver receivers to u.index

abbrev pub StartsAreOffered : Type 0
StartsAreOffered =
    (plan : Plan) (image : Image) (to : List (ℕ × ℕ)) (run : List (NodeEvent × ℕ))
    → AllByRecursion (λ (x : ℕ × UpdateStart). IsOffered plan to x.0 x.1) (starts_in (new_updater plan image to) run)

-- ---- packets

-- all that is sent comes from the updater's address
abbrev pub SendsFromItsAddress : Type 0
SendsFromItsAddress =
    (plan : Plan) (image : Image) (to : List (ℕ × ℕ)) (run : List (NodeEvent × ℕ))
    → AllByRecursion (λ (p : Packet). p.from ≡ plan.sending.from) (sent_in (new_updater plan image to) run)

-- what a plan says is in the ranges of the grammar
pub record IsInRange (plan : Plan) (receivers : List (ℕ × ℕ)) : Type 0 where
  pub ttl : plan.sending.ttl < 2 ^ 8
  pub base : plan.sending.base < 2 ^ 16
  pub id : plan.sending.id < 2 ^ 64
  pub meta : IsMeta plan.meta
  pub indexes : AllByRecursion (λ (receiver : ℕ × ℕ). receiver.1 < 2 ^ 8) receivers

-- so is what a line of a script says (this profile)
pub record IsScriptLine (line : UpdaterLine) : Type 0 where
  pub address : line.address < 2 ^ 15
  pub id : line.id < 2 ^ 48
  pub ttl : line.ttl < 2 ^ 8
  pub base : line.base < 2 ^ 16
  pub version : line.version < 2 ^ 32
  pub content_least : 0 < length line.content
  pub content_most : length line.content ≤ most_image

abbrev pub LinesAreInRange : Type 0
LinesAreInRange = (line : UpdaterLine) → IsScriptLine line → IsInRange (plan_of line) (map first_image line.receivers)

-- an Update Start that was sent to this address
abbrev pub HasStart : List (ℕ × UpdateStart) → ℕ → UpdateStart → Type 0
HasStart [] to u = ⊥
HasStart (start ∷ more) to u = ((start.0 ≡ to) × (start.1 ≡ u)) ⊎ HasStart more to u

abbrev pub IsStartOf : List (ℕ × UpdateStart) → ℕ → Option Request → Type 0
IsStartOf starts to (Some (OfUpdate (StartUpdate u))) = HasStart starts to u
IsStartOf starts to _ = Unit {0}

-- what a node reads as an Update Start in what is sent is one, with its destination
abbrev pub StartsAreRead : Type 0
StartsAreRead =
    (plan : Plan) (image : Image) (to : List (ℕ × ℕ)) (run : List (NodeEvent × ℕ)) → IsInRange plan to
    → AllByRecursion (λ (p : Packet). IsStartOf (starts_in (new_updater plan image to) run) p.to (request_at p.payload)) (sent_in (new_updater plan image to) run)

-- so what a node reads as an Update Start is the plan's
abbrev pub IsOfferedAs : Plan → List (ℕ × ℕ) → ℕ → Option Request → Type 0
IsOfferedAs plan receivers to (Some (OfUpdate (StartUpdate u))) = IsOffered plan receivers to u
IsOfferedAs plan receivers to _ = Unit {0}

abbrev pub ReadStartsAreOffered : Type 0
ReadStartsAreOffered =
    (plan : Plan) (image : Image) (to : List (ℕ × ℕ)) (run : List (NodeEvent × ℕ)) → IsInRange plan to
    → AllByRecursion (λ (p : Packet). IsOfferedAs plan to p.to (request_at p.payload)) (sent_in (new_updater plan image to) run)

-- ---- nothing else

-- octets that no client takes for an answer, and nobody for a Receivers List
pub record SaysNothing (payload : List ℕ) : Type 0 where
  pub no_answer : answer_at payload ≡ None
  pub no_list : (m : Message) → message_at grammar payload ≡ Ok m → m.opcode ≡ 0x8315 → ⊥

abbrev pub NothingElse : Type 0
NothingElse =
    (plan : Plan) (image : Image) (to : List (ℕ × ℕ)) (run : List (NodeEvent × ℕ))
    → AllByRecursion (λ (p : Packet). SaysNothing p.payload) (sent_in (new_updater plan image to) run)

-- ---- the beginning and the end

-- the first time event asks the receivers, 16 at most, whether they take the metadata
abbrev pub check_packet : Plan → ℕ × ℕ → Packet
check_packet plan receiver = request_packet plan.sending.from (receiver.0, OfUpdate (MetadataCheck receiver.1 (meta_octets plan.meta)))

abbrev pub BeginsWithACheck : Type 0
BeginsWithACheck =
    (plan : Plan) (image : Image) (to : List (ℕ × ℕ)) (now : ℕ)
    → (updater_step (new_updater plan image to) TimeComes now).sent ≡ map (check_packet plan) (take 16 to)

-- one that has ended stays so and sends nothing
abbrev pub EndsStay : Type 0
EndsStay =
    (u : Updater) (run : List (NodeEvent × ℕ)) → is_ended u.client.place ≡ true
    → ((updater_after u run).client.place ≡ u.client.place) × (sent_in u run ≡ [])
