use Rattle.mu_shown.proofs.blob.show_blob.Goals as goal

pub returns-in-TransferStart : goal.returns-in-TransferStart
returns-in-TransferStart g c = rw c.in-TransferStart.is (c.put_line.ensures _ c.transfer_start.ensures)

pub returns-in-TransferCancel : goal.returns-in-TransferCancel
returns-in-TransferCancel g c = rw c.in-TransferCancel.is (c.put_line-in-TransferCancel.ensures _ c.transfer_cancel.ensures)

pub returns-in-TransferStatus : goal.returns-in-TransferStatus
returns-in-TransferStatus g c = rw c.in-TransferStatus.is (c.put_line-in-TransferStatus.ensures _ c.transfer_status.ensures)

pub returns-in-BlockStart : goal.returns-in-BlockStart
returns-in-BlockStart g c = rw c.in-BlockStart.is (c.put_line-in-BlockStart.ensures _ c.block_start.ensures)

pub returns-in-BlobInformationStatus : goal.returns-in-BlobInformationStatus
returns-in-BlobInformationStatus g c = rw c.in-BlobInformationStatus.is (c.put_line-in-BlobInformationStatus.ensures _ c.blob_information_status.ensures)

pub returns-in-ChunkTransfer : goal.returns-in-ChunkTransfer
returns-in-ChunkTransfer g c = rw c.in-ChunkTransfer.is (c.put_line-in-ChunkTransfer.ensures _ c.chunk_transfer.ensures)

pub returns-in-PartialBlockReport : goal.returns-in-PartialBlockReport
returns-in-PartialBlockReport g c = rw c.in-PartialBlockReport.is (c.put_line-in-PartialBlockReport.ensures _ c.partial_block_report.ensures)

pub returns-in-BlobInformationGet : goal.returns-in-BlobInformationGet
returns-in-BlobInformationGet g c = rw c.in-BlobInformationGet.is c.put_bare-in-BlobInformationGet.ensures

pub returns-in-BlockStatus : goal.returns-in-BlockStatus
returns-in-BlockStatus g c = rw c.in-BlockStatus.is c.block_status.ensures
