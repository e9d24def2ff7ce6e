-- A plain message tells by its opcode of which model it is, and so all of the message in memory.
use Rattle.std.proofs.Common.{◌≡◌, ℕ, leb, true, false, refl, sym, ap, ◌∙◌}
use Rattle.std.proofs.lemmas.Bool.{false≢true}
use Rattle.mu_model_wire.specs.Fields.{Message as PlainMessage}
use Rattle.mu_blobmsg.specs.View.{view as blob_view}
use Rattle.mu_updmsg.specs.View.{view as update_view}
use Rattle.mu_distmsg.specs.View.{view as distribution_view}
use Rattle.mu_blobmsg.specs.Laws.{ViewTellsAll as BlobViewTellsAll}
use Rattle.mu_updmsg.specs.Laws.{ViewTellsAll as UpdateViewTellsAll}
use Rattle.mu_distmsg.specs.Laws.{ViewTellsAll as DistributionViewTellsAll}
use Rattle.mu_access.specs.View.{view, IsEven}
use Rattle.mu_access.specs.Laws.{content}
use Rattle.mu_access.specs.declared.message.Message.{Message}
use Rattle.mu_access.specs.declared.message.Message.TheVariants.{Blob, Upd, Dist}
use Rattle.mu_blobmsg.specs.declared.message.BlobMsg.{BlobMsg}
use Rattle.mu_blobmsg.specs.declared.message.BlobMsg.TheVariants.{TransferGet, TransferStart, TransferCancel, TransferStatus, BlockStart, BlockGet, BlobInformationGet, BlobInformationStatus, ChunkTransfer, BlockStatus, PartialBlockReport}
use Rattle.mu_updmsg.specs.declared.message.UpdMsg.{UpdMsg}
use Rattle.mu_updmsg.specs.declared.message.UpdMsg.TheVariants.{InformationGet, InformationStatus, MetadataCheck, MetadataStatus, UpdateGet, UpdateStart, UpdateCancel, UpdateApply, UpdateStatus}
use Rattle.mu_distmsg.specs.declared.message.DistMsg.{DistMsg}
use Rattle.mu_distmsg.specs.declared.message.DistMsg.TheVariants.{ReceiversAdd, ReceiversDeleteAll, ReceiversStatus, ReceiversGet, ReceiversList, CapabilitiesGet, CapabilitiesStatus, DistributionGet, DistributionStart, DistributionSuspend, DistributionCancel, DistributionApply, DistributionStatus, UploadGet, UploadStart, UploadStartOob, UploadCancel, UploadStatus, FirmwareGet, FirmwareGetByIndex, FirmwareDelete, FirmwareDeleteAll, FirmwareStatus}

pub blob_low : (m : BlobMsg) → leb (blob_view m).opcode 0x8307 ≡ true
blob_low TransferGet = refl
blob_low (TransferStart m i s l t) = refl
blob_low (TransferCancel i) = refl
blob_low (TransferStatus s m p i z l t b) = refl
blob_low (BlockStart b c) = refl
blob_low BlockGet = refl
blob_low BlobInformationGet = refl
blob_low (BlobInformationStatus n x c z s t p q) = refl
blob_low (ChunkTransfer c o) = refl
blob_low (BlockStatus s b c r) = refl
blob_low (PartialBlockReport ns) = refl

pub update_low : (m : UpdMsg) → (leb (update_view m).opcode 0x8307 ≡ false) × (leb (update_view m).opcode 0x8310 ≡ true)
update_low (InformationGet f l) = (refl, refl)
update_low (InformationStatus c f es) = (refl, refl)
update_low (MetadataCheck i m) = (refl, refl)
update_low (MetadataStatus s a i) = (refl, refl)
update_low UpdateGet = (refl, refl)
update_low (UpdateStart t b i x m) = (refl, refl)
update_low UpdateCancel = (refl, refl)
update_low UpdateApply = (refl, refl)
update_low (UpdateStatus s p t a b i x) = (refl, refl)

pub distribution_high : (m : DistMsg) → (leb (distribution_view m).opcode 0x8307 ≡ false) × (leb (distribution_view m).opcode 0x8310 ≡ false)
distribution_high (ReceiversAdd es) = (refl, refl)
distribution_high ReceiversDeleteAll = (refl, refl)
distribution_high (ReceiversStatus s c) = (refl, refl)
distribution_high (ReceiversGet f l) = (refl, refl)
distribution_high (ReceiversList c f es) = (refl, refl)
distribution_high CapabilitiesGet = (refl, refl)
distribution_high (CapabilitiesStatus r i m s l o u) = (refl, refl)
distribution_high DistributionGet = (refl, refl)
distribution_high (DistributionStart a t b m p i l g) = (refl, refl)
distribution_high DistributionSuspend = (refl, refl)
distribution_high DistributionCancel = (refl, refl)
distribution_high DistributionApply = (refl, refl)
distribution_high (DistributionStatus s p g a t b m q i) = (refl, refl)
distribution_high UploadGet = (refl, refl)
distribution_high (UploadStart t b i s m f) = (refl, refl)
distribution_high (UploadStartOob u f) = (refl, refl)
distribution_high UploadCancel = (refl, refl)
distribution_high (UploadStatus s p r k f) = (refl, refl)
distribution_high (FirmwareGet f) = (refl, refl)
distribution_high (FirmwareGetByIndex i) = (refl, refl)
distribution_high (FirmwareDelete f) = (refl, refl)
distribution_high FirmwareDeleteAll = (refl, refl)
distribution_high (FirmwareStatus s c i f) = (refl, refl)

apart : (m n : PlainMessage) (most : ℕ) → m ≡ n → leb m.opcode most ≡ true → leb n.opcode most ≡ false → ⊥
apart m n most same low high = false≢true (sym high ∙ ap (λ (p : PlainMessage). leb p.opcode most) (sym same) ∙ low)

pub tells_all : BlobViewTellsAll → UpdateViewTellsAll → DistributionViewTellsAll → (m n : Message) → IsEven m → IsEven n → view m ≡ view n → content m ≡ content n
tells_all blob update distribution (Blob m) (Blob n) even evener same = ap Blob (blob m n same)
tells_all blob update distribution (Upd m) (Upd n) even evener same = ap Upd (update m n same)
tells_all blob update distribution (Dist m) (Dist n) even evener same = ap Dist (distribution m n even evener same)
tells_all blob update distribution (Blob m) (Upd n) even evener same = absurd (apart (blob_view m) (update_view n) 0x8307 same (blob_low m) (update_low n).0)
tells_all blob update distribution (Blob m) (Dist n) even evener same = absurd (apart (blob_view m) (distribution_view n) 0x8307 same (blob_low m) (distribution_high n).0)
tells_all blob update distribution (Upd m) (Blob n) even evener same = absurd (apart (blob_view n) (update_view m) 0x8307 (sym same) (blob_low n) (update_low m).0)
tells_all blob update distribution (Upd m) (Dist n) even evener same = absurd (apart (update_view m) (distribution_view n) 0x8310 same (update_low m).1 (distribution_high n).1)
tells_all blob update distribution (Dist m) (Blob n) even evener same = absurd (apart (blob_view n) (distribution_view m) 0x8307 (sym same) (blob_low n) (distribution_high m).0)
tells_all blob update distribution (Dist m) (Upd n) even evener same = absurd (apart (update_view n) (distribution_view m) 0x8310 (sym same) (update_low n).1 (distribution_high m).1)
