-- The messages that an initiator sends to its distributor and those that it takes, and how each stands on the wire (MshDFU,
-- Firmware Distribution messages).
use Rattle.std.specs.Prelude.{ℕ, ◌==◌, ◌*◌, List, [], ◌∷◌, map, Option, Some, None, Result, Ok, Err, if◌then◌else◌}
use Rattle.mu_model_wire.specs.Fields.{Shown, number, octets as shown_octets, Message}
use Rattle.mu_model_wire.specs.Names.{address, index, status, count, first, limit, phase, update_status, transfer_status, progress, appkey, ttl, base, mode, policy, image, group, id, size, metadata, fwid}
use Rattle.mu_model_wire.specs.Reading.{value_of, message_at}
use Rattle.mu_model_wire.specs.Spelling.{spelling}
use Rattle.mu_model_wire.specs.Table.{rows}
use Rattle.mu_model_wire.specs.declared.Refusal.{Refusal}
use Rattle.mu_model_client.specs.Rows.{Row}

-- what a Firmware Distribution Start asks for
pub record StartAsked : Type 0 where
  pub appkey : ℕ
  pub ttl : ℕ
  -- the Timeout Base
  pub base : ℕ
  -- the Transfer Mode, and the Update Policy: 0 Verify Only, 1 Verify And Apply
  pub mode : ℕ
  pub policy : ℕ
  -- the index of the image in the distributor's list
  pub image : ℕ
  pub group : ℕ

-- what a Firmware Distribution Upload Start asks for
pub record UploadAsked : Type 0 where
  pub ttl : ℕ
  pub base : ℕ
  -- the BLOB ID
  pub id : ℕ
  pub size : ℕ
  pub metadata : List ℕ
  pub firmware_id : List ℕ

pub data InitiatorRequest : Type 0 where
  UploadStart : UploadAsked → InitiatorRequest
  UploadGet : InitiatorRequest
  DistributionCancel : InitiatorRequest
  ReceiversDeleteAll : InitiatorRequest
  -- addresses with the indexes of their images
  ReceiversAdd : List (ℕ × ℕ) → InitiatorRequest
  FirmwareGet : (firmware_id : List ℕ) → InitiatorRequest
  DistributionStart : StartAsked → InitiatorRequest
  DistributionGet : InitiatorRequest
  ReceiversGet : (first limit : ℕ) → InitiatorRequest

-- the five statuses and lists that an initiator takes
pub data InitiatorAnswer : Type 0 where
  UploadIs : (status phase : ℕ) → InitiatorAnswer
  DistributionIs : (status phase : ℕ) → InitiatorAnswer
  ReceiversAre : (status : ℕ) → InitiatorAnswer
  FirmwareIs : (status index : ℕ) → InitiatorAnswer
  -- how many there are in all, the place of the first row, and rows
  RowsAre : (count first : ℕ) (rows : List Row) → InitiatorAnswer

-- ---- on the wire

abbrev pub receiver_shown : ℕ × ℕ → List Shown
receiver_shown receiver = number address receiver.0 ∷ number index receiver.1 ∷ []

abbrev pub initiator_message : InitiatorRequest → Message
initiator_message (UploadStart u) = record {
  opcode = 0x831F;
  fields =
      number ttl u.ttl ∷ number base u.base ∷ number id u.id ∷ number size u.size ∷ shown_octets metadata u.metadata
      ∷ shown_octets fwid u.firmware_id ∷ [];
  entries = [];
}
initiator_message UploadGet = record { opcode = 0x831E; fields = []; entries = [] }
initiator_message DistributionCancel = record { opcode = 0x831B; fields = []; entries = [] }
initiator_message ReceiversDeleteAll = record { opcode = 0x8312; fields = []; entries = [] }
initiator_message (ReceiversAdd receivers) = record { opcode = 0x8311; fields = []; entries = map receiver_shown receivers }
initiator_message (FirmwareGet firmware_id) = record { opcode = 0x8323; fields = shown_octets fwid firmware_id ∷ []; entries = [] }
initiator_message (DistributionStart s) = record {
  opcode = 0x8319;
  fields =
      number appkey s.appkey ∷ number ttl s.ttl ∷ number base s.base ∷ number mode s.mode ∷ number policy s.policy
      ∷ number image s.image ∷ number group s.group ∷ [];
  entries = [];
}
initiator_message DistributionGet = record { opcode = 0x8318; fields = []; entries = [] }
initiator_message (ReceiversGet from most) = record { opcode = 0x8314; fields = number first from ∷ number limit most ∷ []; entries = [] }

abbrev pub initiator_octets : InitiatorRequest → List ℕ
initiator_octets request = spelling rows (initiator_message request)

-- an entry of a Receivers List: it carries half of the progress
abbrev pub row_shown : List Shown → Row
row_shown shown = record {
  address = value_of address shown;
  index = value_of index shown;
  phase = value_of phase shown;
  update_status = value_of update_status shown;
  transfer_status = value_of transfer_status shown;
  progress = 2 * value_of progress shown;
}

-- a message as an initiator takes it beside those of a BLOB client; none where it takes no such message
abbrev pub initiator_answer_of : Message → Option InitiatorAnswer
initiator_answer_of m =
    if m.opcode == 0x8322 then Some (UploadIs (value_of status m.fields) (value_of phase m.fields))
    else if m.opcode == 0x831D then Some (DistributionIs (value_of status m.fields) (value_of phase m.fields))
    else if m.opcode == 0x8313 then Some (ReceiversAre (value_of status m.fields))
    else if m.opcode == 0x8327 then Some (FirmwareIs (value_of status m.fields) (value_of index m.fields))
    else if m.opcode == 0x8315 then Some (RowsAre (value_of count m.fields) (value_of first m.fields) (map row_shown m.entries))
    else None

abbrev pub initiator_answer_in : Result Message Refusal → Option InitiatorAnswer
initiator_answer_in (Ok m) = initiator_answer_of m
initiator_answer_in (Err e) = None

abbrev pub initiator_answer_at : List ℕ → Option InitiatorAnswer
initiator_answer_at payload = initiator_answer_in (message_at rows payload)
