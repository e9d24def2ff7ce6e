use Rattle.std.proofs.Common.{refl}
use Rattle.mu_blobsrv.specs.Views.{store_of}
use Rattle.mu_blobsrv.specs.Replies.{replies_of}
use Rattle.mu_blobsrv.proofs.Quiet.{quiet_row, quiet_answers, quiet_faults, quiet_cause, quiet_runs}
use Rattle.mu_blobsrv.proofs.Work.{quiet_puts}
use Rattle.mu_blobsrv.proofs.server.BlobServer.request.Goals as goal

pub returns-in-BlobInformationGet-clause-answers : goal.returns-in-BlobInformationGet-clause-answers
returns-in-BlobInformationGet-clause-answers g c = quiet_answers (store_of c.args.self.now) (store_of c.args.self.now) c.information.result refl c.requires.fault

pub returns-in-BlobInformationGet-clause-row : goal.returns-in-BlobInformationGet-clause-row
returns-in-BlobInformationGet-clause-row g c = λ held shows. rw c.in-BlobInformationGet.is (quiet_row (store_of c.args.self.now) c.args.self.now held _ (replies_of c.information.result) refl shows (c.information.ensures.row held c.args.now))

pub returns-in-BlobInformationGet-clause-faults : goal.returns-in-BlobInformationGet-clause-faults
returns-in-BlobInformationGet-clause-faults g c = λ held shows. rw c.in-BlobInformationGet.is (quiet_faults (store_of c.args.self.now) c.args.self.now _ (replies_of c.information.result) c.information.result (c.information.ensures.row held c.args.now))

pub returns-in-BlobInformationGet-clause-cause : goal.returns-in-BlobInformationGet-clause-cause
returns-in-BlobInformationGet-clause-cause g c = quiet_cause g.F.Flash.seen (store_of c.args.self.now) (store_of c.args.self.now) c.information.result refl

pub returns-in-BlobInformationGet-clause-runs : goal.returns-in-BlobInformationGet-clause-runs
returns-in-BlobInformationGet-clause-runs g c = λ s held holds shows. rw c.in-BlobInformationGet.is (quiet_runs g.F.Flash.seen (store_of c.args.self.now) c.args.self.now s _ (replies_of c.information.result) c.information.result refl (c.information.ensures.row held c.args.now) (c.known.ensures.idle s holds) holds)

pub returns-in-TransferGet-clause-answers : goal.returns-in-TransferGet-clause-answers
returns-in-TransferGet-clause-answers g c = quiet_answers (store_of c.args.self.now) (store_of c.args.self.now) c.transfer_get.result refl c.requires.fault

pub returns-in-TransferGet-clause-row : goal.returns-in-TransferGet-clause-row
returns-in-TransferGet-clause-row g c = λ held shows. rw c.in-TransferGet.is (quiet_row (store_of c.args.self.now) c.args.self.now held _ (replies_of c.transfer_get.result) refl shows (c.transfer_get.ensures.row held c.args.now shows))

pub returns-in-TransferGet-clause-faults : goal.returns-in-TransferGet-clause-faults
returns-in-TransferGet-clause-faults g c = λ held shows. rw c.in-TransferGet.is (quiet_faults (store_of c.args.self.now) c.args.self.now _ (replies_of c.transfer_get.result) c.transfer_get.result (c.transfer_get.ensures.row held c.args.now shows))

pub returns-in-TransferGet-clause-cause : goal.returns-in-TransferGet-clause-cause
returns-in-TransferGet-clause-cause g c = quiet_cause g.F.Flash.seen (store_of c.args.self.now) (store_of c.args.self.now) c.transfer_get.result refl

pub returns-in-TransferGet-clause-runs : goal.returns-in-TransferGet-clause-runs
returns-in-TransferGet-clause-runs g c = λ s held holds shows. rw c.in-TransferGet.is (quiet_runs g.F.Flash.seen (store_of c.args.self.now) c.args.self.now s _ (replies_of c.transfer_get.result) c.transfer_get.result refl (c.transfer_get.ensures.row held c.args.now shows) (c.known.ensures.idle s holds) holds)

pub returns-in-BlockStart-clause-answers : goal.returns-in-BlockStart-clause-answers
returns-in-BlockStart-clause-answers g c = quiet_answers (store_of c.args.self.now) (store_of c.block_start.new.self) c.block_start.result c.block_start.ensures.store c.requires.fault

pub returns-in-BlockStart-clause-row : goal.returns-in-BlockStart-clause-row
returns-in-BlockStart-clause-row g c = λ held shows. rw c.in-BlockStart.is (quiet_row (store_of c.args.self.now) c.block_start.new.self held _ (replies_of c.block_start.result) c.block_start.ensures.store shows (c.block_start.ensures.row held shows))

pub returns-in-BlockStart-clause-faults : goal.returns-in-BlockStart-clause-faults
returns-in-BlockStart-clause-faults g c = λ held shows. rw c.in-BlockStart.is (quiet_faults (store_of c.args.self.now) c.block_start.new.self _ (replies_of c.block_start.result) c.block_start.result (c.block_start.ensures.row held shows))

pub returns-in-BlockStart-clause-cause : goal.returns-in-BlockStart-clause-cause
returns-in-BlockStart-clause-cause g c = quiet_cause g.F.Flash.seen (store_of c.args.self.now) (store_of c.block_start.new.self) c.block_start.result c.block_start.ensures.store

pub returns-in-BlockStart-clause-runs : goal.returns-in-BlockStart-clause-runs
returns-in-BlockStart-clause-runs g c = λ s held holds shows. rw c.in-BlockStart.is (quiet_runs g.F.Flash.seen (store_of c.args.self.now) c.block_start.new.self s _ (replies_of c.block_start.result) c.block_start.result c.block_start.ensures.store (c.block_start.ensures.row held shows) (c.known.ensures.idle s holds) holds)

pub returns-in-BlockGet-clause-answers : goal.returns-in-BlockGet-clause-answers
returns-in-BlockGet-clause-answers g c = quiet_answers (store_of c.args.self.now) (store_of c.block_get.new.self) c.block_get.result c.block_get.ensures.store c.requires.fault

pub returns-in-BlockGet-clause-row : goal.returns-in-BlockGet-clause-row
returns-in-BlockGet-clause-row g c = λ held shows. rw c.in-BlockGet.is (quiet_row (store_of c.args.self.now) c.block_get.new.self held _ (replies_of c.block_get.result) c.block_get.ensures.store shows (c.block_get.ensures.row held shows))

pub returns-in-BlockGet-clause-faults : goal.returns-in-BlockGet-clause-faults
returns-in-BlockGet-clause-faults g c = λ held shows. rw c.in-BlockGet.is (quiet_faults (store_of c.args.self.now) c.block_get.new.self _ (replies_of c.block_get.result) c.block_get.result (c.block_get.ensures.row held shows))

pub returns-in-BlockGet-clause-cause : goal.returns-in-BlockGet-clause-cause
returns-in-BlockGet-clause-cause g c = quiet_cause g.F.Flash.seen (store_of c.args.self.now) (store_of c.block_get.new.self) c.block_get.result c.block_get.ensures.store

pub returns-in-BlockGet-clause-runs : goal.returns-in-BlockGet-clause-runs
returns-in-BlockGet-clause-runs g c = λ s held holds shows. rw c.in-BlockGet.is (quiet_runs g.F.Flash.seen (store_of c.args.self.now) c.block_get.new.self s _ (replies_of c.block_get.result) c.block_get.result c.block_get.ensures.store (c.block_get.ensures.row held shows) (c.known.ensures.idle s holds) holds)

pub returns-in-ChunkTransfer-clause-row : goal.returns-in-ChunkTransfer-clause-row
returns-in-ChunkTransfer-clause-row g c = λ held shows. rw c.in-ChunkTransfer.is (c.chunk.ensures.row held c.args.from shows)

pub returns-in-ChunkTransfer-clause-faults : goal.returns-in-ChunkTransfer-clause-faults
returns-in-ChunkTransfer-clause-faults g c = λ held shows. rw c.in-ChunkTransfer.is (c.chunk.ensures.faults held c.args.from shows)

pub returns-in-ChunkTransfer-clause-runs : goal.returns-in-ChunkTransfer-clause-runs
returns-in-ChunkTransfer-clause-runs g c = λ s held holds shows. rw c.in-ChunkTransfer.is (c.chunk.ensures.runs s held c.args.from holds shows)

pub returns-in-BlobInformationGet-clause-one : goal.returns-in-BlobInformationGet-clause-one
returns-in-BlobInformationGet-clause-one g c = λ held shows. rw c.in-BlobInformationGet.is (quiet_puts _ c.args.self.now (replies_of c.information.result) (c.information.ensures.row held c.args.now))

pub returns-in-TransferGet-clause-one : goal.returns-in-TransferGet-clause-one
returns-in-TransferGet-clause-one g c = λ held shows. rw c.in-TransferGet.is (quiet_puts _ c.args.self.now (replies_of c.transfer_get.result) (c.transfer_get.ensures.row held c.args.now shows))

pub returns-in-BlockStart-clause-one : goal.returns-in-BlockStart-clause-one
returns-in-BlockStart-clause-one g c = λ held shows. rw c.in-BlockStart.is (quiet_puts _ c.block_start.new.self (replies_of c.block_start.result) (c.block_start.ensures.row held shows))

pub returns-in-BlockGet-clause-one : goal.returns-in-BlockGet-clause-one
returns-in-BlockGet-clause-one g c = λ held shows. rw c.in-BlockGet.is (quiet_puts _ c.block_get.new.self (replies_of c.block_get.result) (c.block_get.ensures.row held shows))

pub returns-in-ChunkTransfer-clause-one : goal.returns-in-ChunkTransfer-clause-one
returns-in-ChunkTransfer-clause-one g c = λ held shows. rw c.in-ChunkTransfer.is (c.chunk.ensures.one held c.args.from)

pub returns-in-ChunkTransfer-clause-still : goal.returns-in-ChunkTransfer-clause-still
returns-in-ChunkTransfer-clause-still g c = λ held shows. rw c.in-ChunkTransfer.is (c.chunk.ensures.still held c.args.from)
