use Rattle.mu_model_image.proofs.Tiles.{pieces_joined, piece_lengths}
use Rattle.mu_model_image.proofs.laws.chunks.Goals as goal

pub returns-clause-joined : goal.returns-clause-joined
returns-clause-joined c block size some = pieces_joined block size some

pub returns-clause-sum : goal.returns-clause-sum
returns-clause-sum c block size some = piece_lengths block size some
