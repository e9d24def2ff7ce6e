-- The answers of a Firmware Distribution Server, and how each stands on the wire (MshDFU, Firmware Distribution messages).
use Rattle.std.specs.Prelude.{ℕ, ◌*◌, ◌/◌, List, [], ◌∷◌, map, Option, Some, None}
pub use Rattle.mu_model_wire.specs.Limits.{most_receivers, most_rows}
use Rattle.mu_model_wire.specs.Fields.{Shown, number, octets, perhaps, Message}
use Rattle.mu_model_wire.specs.Names.{address, index, status, count, first, phase, update_status, transfer_status, progress, receivers, images, max_size, space, remaining, oob, schemes, appkey, ttl, base, mode, policy, image, group, fwid, kind}
use Rattle.mu_model_distributor.specs.Requests.{Settings}
use Rattle.mu_model_client.specs.Rows.{Row}

-- what is shown of an upload
pub record ShownUpload : Type 0 where
  -- per cent
  pub progress : ℕ
  pub fwid : List ℕ

pub data DistReply : Type 0 where
  ReceiversStatus : (status count : ℕ) → DistReply
  ReceiversList : (count first : ℕ) (rows : List Row) → DistReply
  -- octets of a bank, and of all that are empty
  CapabilitiesStatus : (capacity remaining : ℕ) → DistReply
  -- the settings are there unless the phase is 0
  DistributionStatus : (status phase : ℕ) (settings : Option Settings) → DistReply
  -- the upload is there unless the phase is 0
  UploadStatus : (status phase : ℕ) (upload : Option ShownUpload) → DistReply
  FirmwareStatus : (status count index : ℕ) (fwid : Option (List ℕ)) → DistReply

-- ---- limits (this profile)

abbrev pub most_images : ℕ
most_images = 4

-- ---- on the wire

-- progress is told in halves of a per cent
abbrev pub row_shown : Row → List Shown
row_shown row =
    number address row.address ∷ number phase row.phase ∷ number update_status row.update_status
    ∷ number transfer_status row.transfer_status ∷ number progress (row.progress / 2) ∷ number index row.index ∷ []

abbrev pub settings_shown : Option Settings → List Shown
settings_shown None = []
settings_shown (Some s) =
    number group s.group ∷ number appkey s.appkey ∷ number ttl s.ttl ∷ number base s.base ∷ number mode s.mode
    ∷ number policy s.policy ∷ number image s.image ∷ []

-- the upload's kind is that of an Upload Start
abbrev pub upload_shown : Option ShownUpload → List Shown
upload_shown None = []
upload_shown (Some u) = number progress u.progress ∷ number kind 0 ∷ octets fwid u.fwid ∷ []

abbrev pub dist_message_of : DistReply → Message
dist_message_of (ReceiversStatus result rows) =
    record { opcode = 0x8313; fields = number status result ∷ number count rows ∷ []; entries = [] }
dist_message_of (ReceiversList all from rows) =
    record { opcode = 0x8315; fields = number count all ∷ number first from ∷ []; entries = map row_shown rows }
-- no image is fetched by a URI (this profile)
dist_message_of (CapabilitiesStatus capacity empty) = record {
  opcode = 0x8317;
  fields =
      number receivers most_receivers ∷ number images most_images ∷ number max_size capacity ∷ number space (most_images * capacity)
      ∷ number remaining empty ∷ number oob 0 ∷ octets schemes [] ∷ [];
  entries = [];
}
dist_message_of (DistributionStatus result stage settings) =
    record { opcode = 0x831D; fields = number status result ∷ number phase stage ∷ settings_shown settings; entries = [] }
dist_message_of (UploadStatus result stage upload) =
    record { opcode = 0x8322; fields = number status result ∷ number phase stage ∷ upload_shown upload; entries = [] }
dist_message_of (FirmwareStatus result stored place found) = record {
  opcode = 0x8327;
  fields = number status result ∷ number count stored ∷ number index place ∷ perhaps (octets fwid) found;
  entries = [];
}
