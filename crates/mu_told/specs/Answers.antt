-- What a BLOB message tells, as the model's answer.
use Rattle.std.specs.Prelude.{◌≤◌, length}
use Rattle.mu_model_client.specs.Answers.{BlobAnswer, InformationIs, TransferIs, BlockIs, PartIs}
use Rattle.mu_told.specs.Told.{limits_of}
use Rattle.mu_told.specs.declared.answer.BlobAnswer.{BlobAnswer as BlobAnswerHere}
use Rattle.mu_told.specs.declared.answer.BlobAnswer.TheVariants.{Information, Transfer, Block, Part}

abbrev pub blob_answer_of : BlobAnswerHere → BlobAnswer
blob_answer_of (Information limits) = InformationIs (limits_of limits)
blob_answer_of (Transfer status phase id parameters field) = TransferIs status phase id parameters field.now
blob_answer_of (Block status block size report) = BlockIs status block size report.now
blob_answer_of (Part chunks) = PartIs chunks.now

-- a bit field as long as one in a message
abbrev pub IsShort : BlobAnswerHere → Type 0
IsShort (Transfer status phase id parameters field) = length field.now ≤ 374
IsShort _ = Unit {0}
