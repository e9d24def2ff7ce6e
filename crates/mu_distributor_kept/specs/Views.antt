-- What is kept in memory, as the definitions of a distributor speak of it.
use Rattle.std.specs.Prelude.{List, map}
use Rattle.mu_distmsg.specs.declared.message.ReceiverRow.{ReceiverRow}
use Rattle.mu_model_distributor.specs.DistState.{Receiver}
use Rattle.mu_model_represents_distributor.specs.DistributorNote.{UploadPhase, UploadIdle, UploadActive, UploadError, UploadSuccess}
use Rattle.mu_distributor_kept.specs.declared.phase.UploadPhase.{UploadPhase as UploadPhaseHere}
use Rattle.mu_distributor_kept.specs.declared.phase.UploadPhase.TheVariants.{Idle, TransferActive, TransferError, TransferSuccess}

abbrev pub upload_phase : UploadPhaseHere → UploadPhase
upload_phase Idle = UploadIdle
upload_phase TransferActive = UploadActive
upload_phase TransferError = UploadError
upload_phase TransferSuccess = UploadSuccess

-- a row without its progress, which isn't kept
abbrev pub row_receiver : ReceiverRow → Receiver
row_receiver r = record {
  address = r.address;
  index = r.image_index;
  phase = r.phase;
  update_status = r.update_status;
  transfer_status = r.transfer_status;
}

abbrev pub row_receivers : List ReceiverRow → List Receiver
row_receivers rows = map row_receiver rows
