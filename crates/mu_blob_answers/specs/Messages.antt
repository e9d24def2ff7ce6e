-- Messages in memory as the model's messages.
use Rattle.mu_model_node.specs.BlobMessages.{BlobRequest, BlobInformationGet, TransferGet, TransferStart, TransferCancel, BlockStart, BlockGet, ChunkTransfer, BlobReply, BlobInformationStatus, TransferStatus, BlockStatus, PartialBlockReport}
use Rattle.mu_blob_answers.specs.declared.messages.BlobRequest.{BlobRequest as BlobRequestHere}
use Rattle.mu_blob_answers.specs.declared.messages.BlobRequest.TheVariants.{BlobInformationGet as BlobInformationGetHere, TransferGet as TransferGetHere, TransferStart as TransferStartHere, TransferCancel as TransferCancelHere, BlockStart as BlockStartHere, BlockGet as BlockGetHere, ChunkTransfer as ChunkTransferHere}
use Rattle.mu_blob_answers.specs.declared.messages.BlobReply.{BlobReply as BlobReplyHere}
use Rattle.mu_blob_answers.specs.declared.messages.BlobReply.TheVariants.{BlobInformationStatus as BlobInformationStatusHere, TransferStatus as TransferStatusHere, BlockStatus as BlockStatusHere, PartialBlockReport as PartialBlockReportHere}

abbrev pub blob_request_of : BlobRequestHere → BlobRequest
blob_request_of BlobInformationGetHere = BlobInformationGet
blob_request_of TransferGetHere = TransferGet
blob_request_of (TransferStartHere id p) = TransferStart id p
blob_request_of (TransferCancelHere id) = TransferCancel id
blob_request_of (BlockStartHere block size) = BlockStart block size
blob_request_of BlockGetHere = BlockGet
blob_request_of (ChunkTransferHere chunk octets) = ChunkTransfer chunk octets.now

abbrev pub blob_reply_of : BlobReplyHere → BlobReply
blob_reply_of (BlobInformationStatusHere capacity) = BlobInformationStatus capacity
blob_reply_of (TransferStatusHere status mode phase id parameters missing) = TransferStatus status mode phase id parameters missing
blob_reply_of (BlockStatusHere status block size report) = BlockStatus status block size report
blob_reply_of (PartialBlockReportHere chunks) = PartialBlockReport chunks.items
