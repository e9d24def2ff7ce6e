-- The requests that a Firmware Distribution Server takes, and how each stands on the wire (MshDFU, Firmware Distribution
-- messages).
use Rattle.std.specs.Prelude.{ℕ, ◌==◌, List, [], ◌∷◌, map, Option, Some, None, if◌then◌else◌}
use Rattle.mu_model_wire.specs.Fields.{Shown, number, octets, Message}
use Rattle.mu_model_wire.specs.Names.{address, index, first, limit, appkey, ttl, base, mode, policy, image, label, group, id, size, metadata, fwid}
use Rattle.mu_model_wire.specs.Reading.{value_of}
use Rattle.mu_model_node.specs.BlobMessages.{octets_of}
pub use Rattle.mu_model_distributor.specs.declared.Settings.{Settings}

-- a receiver that is added: its address, and the index of the image that it is to update
pub record Entry : Type 0 where
  pub address : ℕ
  pub index : ℕ

-- where a distribution goes: to a group (0: to each receiver by itself), or to the virtual address of a label
pub data Target : Type 0 where
  ToGroup : ℕ → Target
  ToLabel : List ℕ → Target

-- what a Firmware Distribution Upload Start asks for
pub record UploadStart : Type 0 where
  pub ttl : ℕ
  -- the Timeout Base
  pub base : ℕ
  -- the BLOB ID
  pub id : ℕ
  -- octets of the image
  pub size : ℕ
  pub metadata : List ℕ
  pub fwid : List ℕ

pub data DistRequest : Type 0 where
  ReceiversAdd : List Entry → DistRequest
  ReceiversDeleteAll : DistRequest
  ReceiversGet : (first limit : ℕ) → DistRequest
  CapabilitiesGet : DistRequest
  DistributionGet : DistRequest
  -- none where it goes to a label
  DistributionStart : Option Settings → DistRequest
  DistributionSuspend : DistRequest
  DistributionCancel : DistRequest
  DistributionApply : DistRequest
  UploadGet : DistRequest
  StartUpload : UploadStart → DistRequest
  StartUploadOob : DistRequest
  UploadCancel : DistRequest
  FirmwareGet : (fwid : List ℕ) → DistRequest
  FirmwareGetByIndex : (index : ℕ) → DistRequest
  FirmwareDelete : (fwid : List ℕ) → DistRequest
  FirmwareDeleteAll : DistRequest

-- ---- on the wire

abbrev pub entry_of : List Shown → Entry
entry_of shown = record { address = value_of address shown; index = value_of index shown }

abbrev pub target_of : List Shown → Target
target_of [] = ToGroup 0
target_of (octets n os ∷ shown) = if n == label then ToLabel os else target_of shown
target_of (number n v ∷ shown) = if n == group then ToGroup v else target_of shown

abbrev pub settings_to : Target → List Shown → Option Settings
settings_to (ToLabel os) shown = None
settings_to (ToGroup g) shown = Some (record {
  appkey = value_of appkey shown;
  ttl = value_of ttl shown;
  base = value_of base shown;
  mode = value_of mode shown;
  policy = value_of policy shown;
  image = value_of image shown;
  group = g;
})

abbrev pub upload_of : List Shown → UploadStart
upload_of shown = record {
  ttl = value_of ttl shown;
  base = value_of base shown;
  id = value_of id shown;
  size = value_of size shown;
  metadata = octets_of metadata shown;
  fwid = octets_of fwid shown;
}

-- a message as a server takes it; none where it takes no such message
abbrev pub dist_request_of : Message → Option DistRequest
dist_request_of m =
    if m.opcode == 0x8311 then Some (ReceiversAdd (map entry_of m.entries))
    else if m.opcode == 0x8312 then Some ReceiversDeleteAll
    else if m.opcode == 0x8314 then Some (ReceiversGet (value_of first m.fields) (value_of limit m.fields))
    else if m.opcode == 0x8316 then Some CapabilitiesGet
    else if m.opcode == 0x8318 then Some DistributionGet
    else if m.opcode == 0x8319 then Some (DistributionStart (settings_to (target_of m.fields) m.fields))
    else if m.opcode == 0x831A then Some DistributionSuspend
    else if m.opcode == 0x831B then Some DistributionCancel
    else if m.opcode == 0x831C then Some DistributionApply
    else if m.opcode == 0x831E then Some UploadGet
    else if m.opcode == 0x831F then Some (StartUpload (upload_of m.fields))
    else if m.opcode == 0x8320 then Some StartUploadOob
    else if m.opcode == 0x8321 then Some UploadCancel
    else if m.opcode == 0x8323 then Some (FirmwareGet (octets_of fwid m.fields))
    else if m.opcode == 0x8324 then Some (FirmwareGetByIndex (value_of index m.fields))
    else if m.opcode == 0x8325 then Some (FirmwareDelete (octets_of fwid m.fields))
    else if m.opcode == 0x8326 then Some FirmwareDeleteAll
    else None
