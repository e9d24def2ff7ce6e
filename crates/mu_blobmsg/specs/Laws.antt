-- A plain message tells all of the message in memory but where its lent octets lie.
use Rattle.std.specs.Prelude.{◌≡◌}
use Rattle.mu_codec.specs.Lent.{unplaced, unplaced_there}
use Rattle.mu_blobmsg.specs.View.{view}
use Rattle.mu_blobmsg.specs.declared.message.BlobMsg.{BlobMsg}
use Rattle.mu_blobmsg.specs.declared.message.BlobMsg.TheVariants.{TransferGet, TransferStart, TransferCancel, TransferStatus, BlockStart, BlockGet, BlobInformationGet, BlobInformationStatus, ChunkTransfer, BlockStatus, PartialBlockReport}

-- the message, whatever the place of its lent octets is
abbrev pub content : BlobMsg → BlobMsg
content (TransferStatus s m p i z l t b) = TransferStatus s m p i z l t (unplaced_there b)
content (ChunkTransfer c o) = ChunkTransfer c (unplaced o)
content TransferGet = TransferGet
content (TransferStart m i s l t) = TransferStart m i s l t
content (TransferCancel i) = TransferCancel i
content (BlockStart b c) = BlockStart b c
content BlockGet = BlockGet
content BlobInformationGet = BlobInformationGet
content (BlobInformationStatus n x c z s t p q) = BlobInformationStatus n x c z s t p q
content (BlockStatus s b c r) = BlockStatus s b c r
content (PartialBlockReport ns) = PartialBlockReport ns

abbrev pub ViewTellsAll : Type 0
ViewTellsAll = (m n : BlobMsg) → view m ≡ view n → content m ≡ content n
