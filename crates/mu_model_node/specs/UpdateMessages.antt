-- The messages that a Firmware Update Server takes and those that it answers, and how each stands on the wire (MshDFU,
-- Firmware Update messages).
use Rattle.std.specs.Prelude.{ℕ, ◌==◌, List, [], ◌∷◌, map, Option, Some, None, if◌then◌else◌}
use Rattle.mu_model_wire.specs.Fields.{Shown, number, octets, Message}
use Rattle.mu_model_wire.specs.Names.{first, limit, count, id, uri, index, metadata, status, additional, phase, ttl, base}
use Rattle.mu_model_wire.specs.Reading.{value_of}
use Rattle.mu_model_node.specs.BlobMessages.{octets_of}

-- what a Firmware Update Start asks for
pub record UpdateStart : Type 0 where
  pub ttl : ℕ
  -- the Update Timeout Base
  pub base : ℕ
  -- the BLOB ID
  pub id : ℕ
  -- the index of the image
  pub index : ℕ
  pub metadata : List ℕ

pub data UpdateRequest : Type 0 where
  InformationGet : (first limit : ℕ) → UpdateRequest
  MetadataCheck : (index : ℕ) (metadata : List ℕ) → UpdateRequest
  UpdateGet : UpdateRequest
  StartUpdate : UpdateStart → UpdateRequest
  UpdateCancel : UpdateRequest
  UpdateApply : UpdateRequest

-- what a Firmware Update Status shows of a job
pub record ShownJob : Type 0 where
  pub ttl : ℕ
  pub base : ℕ
  pub id : ℕ
  pub index : ℕ

pub data UpdateReply : Type 0 where
  -- how many images there are, and the Firmware IDs of those from the first on, each with an empty URI
  InformationStatus : (count first : ℕ) (ids : List (List ℕ)) → UpdateReply
  MetadataStatus : (status index : ℕ) → UpdateReply
  -- the job is there unless the phase is 0
  UpdateStatus : (status phase : ℕ) (job : Option ShownJob) → UpdateReply

-- a message as a server takes it; none where it takes no such message
abbrev pub update_request_of : Message → Option UpdateRequest
update_request_of m =
    if m.opcode == 0x8308 then Some (InformationGet (value_of first m.fields) (value_of limit m.fields))
    else if m.opcode == 0x830A then Some (MetadataCheck (value_of index m.fields) (octets_of metadata m.fields))
    else if m.opcode == 0x830C then Some UpdateGet
    else if m.opcode == 0x830D then Some (StartUpdate (record {
      ttl = value_of ttl m.fields;
      base = value_of base m.fields;
      id = value_of id m.fields;
      index = value_of index m.fields;
      metadata = octets_of metadata m.fields;
    }))
    else if m.opcode == 0x830E then Some UpdateCancel
    else if m.opcode == 0x830F then Some UpdateApply
    else None

-- an entry of an Information Status with an empty URI
abbrev pub entry_shown : List ℕ → List Shown
entry_shown firmware_id = octets id firmware_id ∷ octets uri [] ∷ []

-- Additional Information is 0 (this profile)
abbrev pub job_shown : Option ShownJob → List Shown
job_shown None = []
job_shown (Some j) = number ttl j.ttl ∷ number additional 0 ∷ number base j.base ∷ number id j.id ∷ number index j.index ∷ []

abbrev pub update_message_of : UpdateReply → Message
update_message_of (InformationStatus images from ids) =
    record { opcode = 0x8309; fields = number count images ∷ number first from ∷ []; entries = map entry_shown ids }
update_message_of (MetadataStatus result image) =
    record { opcode = 0x830B; fields = number status result ∷ number additional 0 ∷ number index image ∷ []; entries = [] }
update_message_of (UpdateStatus result stage job) =
    record { opcode = 0x8310; fields = number status result ∷ number phase stage ∷ job_shown job; entries = [] }
