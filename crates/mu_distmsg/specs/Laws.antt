-- A plain message tells all of the message in memory but where its lent octets lie.
use Rattle.std.specs.Prelude.{◌≡◌}
use Rattle.mu_codec.specs.Lent.{unplaced, unplaced_there}
use Rattle.mu_distmsg.specs.View.{view, IsEven}
use Rattle.mu_distmsg.specs.declared.message.DistMsg.{DistMsg}
use Rattle.mu_distmsg.specs.declared.message.DistMsg.TheVariants.{ReceiversAdd, ReceiversDeleteAll, ReceiversStatus, ReceiversGet, ReceiversList, CapabilitiesGet, CapabilitiesStatus, DistributionGet, DistributionStart, DistributionSuspend, DistributionCancel, DistributionApply, DistributionStatus, UploadGet, UploadStart, UploadStartOob, UploadCancel, UploadStatus, FirmwareGet, FirmwareGetByIndex, FirmwareDelete, FirmwareDeleteAll, FirmwareStatus}

-- the message, whatever the place of its lent octets is
abbrev pub content : DistMsg → DistMsg
content (CapabilitiesStatus r i m s l o u) = CapabilitiesStatus r i m s l o (unplaced u)
content (UploadStart t b i s m f) = UploadStart t b i s (unplaced m) (unplaced f)
content (UploadStartOob u f) = UploadStartOob (unplaced u) (unplaced f)
content (UploadStatus s p r k f) = UploadStatus s p r k (unplaced_there f)
content (FirmwareGet f) = FirmwareGet (unplaced f)
content (FirmwareDelete f) = FirmwareDelete (unplaced f)
content (FirmwareStatus s c i f) = FirmwareStatus s c i (unplaced_there f)
content (ReceiversAdd es) = ReceiversAdd es
content ReceiversDeleteAll = ReceiversDeleteAll
content (ReceiversStatus s c) = ReceiversStatus s c
content (ReceiversGet f l) = ReceiversGet f l
content (ReceiversList c f es) = ReceiversList c f es
content CapabilitiesGet = CapabilitiesGet
content DistributionGet = DistributionGet
content (DistributionStart a t b m p i l g) = DistributionStart a t b m p i l g
content DistributionSuspend = DistributionSuspend
content DistributionCancel = DistributionCancel
content DistributionApply = DistributionApply
content (DistributionStatus s p g a t b m q i) = DistributionStatus s p g a t b m q i
content UploadGet = UploadGet
content UploadCancel = UploadCancel
content (FirmwareGetByIndex i) = FirmwareGetByIndex i
content FirmwareDeleteAll = FirmwareDeleteAll

abbrev pub ViewTellsAll : Type 0
ViewTellsAll = (m n : DistMsg) → IsEven m → IsEven n → view m ≡ view n → content m ≡ content n
