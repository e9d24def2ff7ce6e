use Rattle.std.proofs.Common.{◌^◌}
use Rattle.std.proofs.lemmas.Nat.{pow_pos}
use Rattle.mu_model_image.proofs.Tiles.{pieces_joined, piece_lengths}
use Rattle.mu_model_image.proofs.laws.blocks.Goals as goal

pub returns-clause-joined : goal.returns-clause-joined
returns-clause-joined c image log = pieces_joined image (2 ^ log) (pow_pos log)

pub returns-clause-sum : goal.returns-clause-sum
returns-clause-sum c image log = piece_lengths image (2 ^ log) (pow_pos log)
