-- A message in memory as a plain message: what its fields show, without where lent octets lie.
use Rattle.std.specs.Prelude.{◌≡◌, ℕ, ◌/◌, ◌%◌, List, [], ◌∷◌, ◌++◌, map}
use Rattle.std.specs.List.{All}
use Rattle.mu_model_wire.specs.Fields.{Shown, number, octets, perhaps, Message}
use Rattle.mu_model_wire.specs.Spelling.{Fits}
use Rattle.mu_model_wire.specs.Distribution.{distribution_rows}
use Rattle.mu_model_wire.specs.Names.{address, index, status, count, first, limit, phase, update_status, transfer_status, progress, receivers, images, max_size, space, remaining, oob, schemes, appkey, ttl, base, mode, policy, image, label, group, id, size, metadata, fwid, uri, kind}
use Rattle.mu_distmsg.specs.declared.message.ReceiverRow.{ReceiverRow}
use Rattle.mu_distmsg.specs.declared.message.DistMsg.{DistMsg}
use Rattle.mu_distmsg.specs.declared.message.DistMsg.TheVariants.{ReceiversAdd, ReceiversDeleteAll, ReceiversStatus, ReceiversGet, ReceiversList, CapabilitiesGet, CapabilitiesStatus, DistributionGet, DistributionStart, DistributionSuspend, DistributionCancel, DistributionApply, DistributionStatus, UploadGet, UploadStart, UploadStartOob, UploadCancel, UploadStatus, FirmwareGet, FirmwareGetByIndex, FirmwareDelete, FirmwareDeleteAll, FirmwareStatus}

abbrev pub pair_shown : ℕ × ℕ → List Shown
pair_shown p = number address p.0 ∷ number index p.1 ∷ []

-- a message carries half of the progress
abbrev pub row_shown : ReceiverRow → List Shown
row_shown r =
    number address r.address ∷ number phase r.phase ∷ number update_status r.update_status ∷ number transfer_status r.transfer_status
    ∷ number progress (r.progress / 2) ∷ number index r.image_index ∷ []

abbrev pub view : DistMsg → Message
view (ReceiversAdd es) = record { opcode = 0x8311; fields = []; entries = map pair_shown es.items }
view ReceiversDeleteAll = record { opcode = 0x8312; fields = []; entries = [] }
view (ReceiversStatus s c) = record { opcode = 0x8313; fields = number status s ∷ number count c ∷ []; entries = [] }
view (ReceiversGet f l) = record { opcode = 0x8314; fields = number first f ∷ number limit l ∷ []; entries = [] }
view (ReceiversList c f es) = record { opcode = 0x8315; fields = number count c ∷ number first f ∷ []; entries = map row_shown es.items }
view CapabilitiesGet = record { opcode = 0x8316; fields = []; entries = [] }
view (CapabilitiesStatus r i m s l o u) = record {
  opcode = 0x8317;
  fields = number receivers r ∷ number images i ∷ number max_size m ∷ number space s ∷ number remaining l ∷ number oob o ∷ octets schemes u.now ∷ [];
  entries = [];
}
view DistributionGet = record { opcode = 0x8318; fields = []; entries = [] }
view (DistributionStart a t b m p i l g) = record {
  opcode = 0x8319;
  fields = number appkey a ∷ number ttl t ∷ number base b ∷ number mode m ∷ number policy p ∷ number image i ∷ perhaps (octets label) l ++ perhaps (number group) g;
  entries = [];
}
view DistributionSuspend = record { opcode = 0x831A; fields = []; entries = [] }
view DistributionCancel = record { opcode = 0x831B; fields = []; entries = [] }
view DistributionApply = record { opcode = 0x831C; fields = []; entries = [] }
view (DistributionStatus s p g a t b m q i) = record {
  opcode = 0x831D;
  fields = number status s ∷ number phase p ∷ perhaps (number group) g ++ perhaps (number appkey) a ++ perhaps (number ttl) t ++ perhaps (number base) b ++ perhaps (number mode) m ++ perhaps (number policy) q ++ perhaps (number image) i;
  entries = [];
}
view UploadGet = record { opcode = 0x831E; fields = []; entries = [] }
view (UploadStart t b i s m f) = record {
  opcode = 0x831F;
  fields = number ttl t ∷ number base b ∷ number id i ∷ number size s ∷ octets metadata m.now ∷ octets fwid f.now ∷ [];
  entries = [];
}
view (UploadStartOob u f) = record { opcode = 0x8320; fields = octets uri u.now ∷ octets fwid f.now ∷ []; entries = [] }
view UploadCancel = record { opcode = 0x8321; fields = []; entries = [] }
view (UploadStatus s p r k f) = record {
  opcode = 0x8322;
  fields = number status s ∷ number phase p ∷ perhaps (number progress) r ++ perhaps (number kind) k ++ perhaps (λ o. octets fwid o.now) f;
  entries = [];
}
view (FirmwareGet f) = record { opcode = 0x8323; fields = octets fwid f.now ∷ []; entries = [] }
view (FirmwareGetByIndex i) = record { opcode = 0x8324; fields = number index i ∷ []; entries = [] }
view (FirmwareDelete f) = record { opcode = 0x8325; fields = octets fwid f.now ∷ []; entries = [] }
view FirmwareDeleteAll = record { opcode = 0x8326; fields = []; entries = [] }
view (FirmwareStatus s c i f) = record {
  opcode = 0x8327;
  fields = number status s ∷ number count c ∷ number index i ∷ perhaps (λ o. octets fwid o.now) f;
  entries = [];
}

-- the progress of a row can be halved
abbrev pub RowIsEven : ReceiverRow → Type 0
RowIsEven r = r.progress % 2 ≡ 0

abbrev pub IsEven : DistMsg → Type 0
IsEven (ReceiversList c f es) = All RowIsEven es.items
IsEven _ = Unit {0}

-- each field is in its range, and no progress is odd
pub record InRange (m : DistMsg) : Type 0 where
  pub fits : Fits distribution_rows (view m)
  pub even : IsEven m
