-- Answers in memory as the model's, and when their fields are in the ranges of the grammar, as far as their types don't say so.
use Rattle.std.specs.Prelude.{ℕ, ◌≡◌, ◌⊎◌, ◌<◌, ◌≤◌, ◌*◌, ◌%◌, ◌^◌, List, length, map, Option, Some, None}
use Rattle.std.specs.Option.{option_map}
use Rattle.std.specs.List.{AllByRecursion}
use Rattle.mu_distmsg.specs.declared.message.ReceiverRow.{ReceiverRow}
use Rattle.mu_model_distributor.specs.declared.Settings.{Settings}
use Rattle.mu_model_distributor.specs.declared.DistPhase.{DistPhase}
use Rattle.mu_model_distributor.specs.declared.DistPhase.TheVariants.{Idle}
use Rattle.mu_model_distributor.specs.Replies.{DistReply, ReceiversStatus, ReceiversList, CapabilitiesStatus, DistributionStatus, UploadStatus, FirmwareStatus, ShownUpload}
use Rattle.mu_model_distributor.specs.Sound.{AreSettings}
use Rattle.mu_distributor_rows.specs.declared.replies.DistReply.{DistReply as DistReplyHere}
use Rattle.mu_distributor_rows.specs.declared.replies.DistReply.TheVariants.{ReceiversStatus as ReceiversStatusHere, ReceiversList as ReceiversListHere, CapabilitiesStatus as CapabilitiesStatusHere, DistributionStatus as DistributionStatusHere, UploadStatus as UploadStatusHere, FirmwareStatus as FirmwareStatusHere}
use Rattle.mu_distributor_rows.specs.declared.replies.ShownUpload.{ShownUpload as ShownUploadHere}
use Rattle.mu_distributor_rows.specs.Receivers.{row_here, IsShownRow}

abbrev pub shown_upload_of : ShownUploadHere → ShownUpload
shown_upload_of u = record { progress = u.progress; fwid = u.fwid.items }

abbrev pub dist_reply_of : DistReplyHere → DistReply
dist_reply_of (ReceiversStatusHere status count) = ReceiversStatus status count
dist_reply_of (ReceiversListHere count first rows) = ReceiversList count first (map row_here rows.items)
dist_reply_of (CapabilitiesStatusHere capacity remaining) = CapabilitiesStatus capacity remaining
dist_reply_of (DistributionStatusHere status phase settings) = DistributionStatus status phase settings
dist_reply_of (UploadStatusHere status phase upload) = UploadStatus status phase (option_map shown_upload_of upload)
dist_reply_of (FirmwareStatusHere status count index fwid) = FirmwareStatus status count index (option_map (λ id. id.items) fwid)

-- ---- ranges

-- a row of a list: its progress is even
pub record IsListedRow (r : ReceiverRow) : Type 0 where
  pub shown : IsShownRow r
  pub even : r.progress % 2 ≡ 0

abbrev pub AreListed : List ReceiverRow → Type 0
AreListed rows = AllByRecursion IsListedRow rows

-- the settings are there unless the phase is 0
abbrev pub ShowsSettings : ℕ → Option Settings → Type 0
ShowsSettings phase None = phase ≡ 0
ShowsSettings phase (Some s) = (1 ≤ phase) × (phase ≤ 7) × AreSettings s

-- so is the upload
abbrev pub ShowsUpload : ℕ → Option ShownUploadHere → Type 0
ShowsUpload phase None = phase ≡ 0
ShowsUpload phase (Some u) = (1 ≤ phase) × (phase ≤ 3) × (u.progress ≤ 100) × (2 ≤ length u.fwid.items)

abbrev pub IsIdThere : Option (List ℕ) → Type 0
IsIdThere None = Unit {0}
IsIdThere (Some id) = 2 ≤ length id

abbrev pub DistReplyFits : DistReplyHere → Type 0
DistReplyFits (ReceiversStatusHere status count) = status ≤ 13
DistReplyFits (ReceiversListHere count first rows) = AreListed rows.items
DistReplyFits (CapabilitiesStatusHere capacity remaining) = 4 * capacity < 2 ^ 32
DistReplyFits (DistributionStatusHere status phase settings) = (status ≤ 13) × ShowsSettings phase settings
DistReplyFits (UploadStatusHere status phase upload) = (status ≤ 13) × ShowsUpload phase upload
DistReplyFits (FirmwareStatusHere status count index fwid) = (status ≤ 13) × IsIdThere (option_map (λ id. id.items) fwid)

-- in a distribution, and after it, there are settings
abbrev pub HasSettings : DistPhase → Settings → Type 0
HasSettings Idle settings = Unit {0}
HasSettings _ settings = AreSettings settings
