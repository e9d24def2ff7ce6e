use Rattle.std.proofs.lemmas.List.Splits.{join_with_byte-slice_split}
use Rattle.mu_model_script.proofs.Texts.{pieces-lack}
use Rattle.mu_model_script.proofs.laws.pieces_are_the_octets.Goals as goal

pub returns-clause-joined : goal.returns-clause-joined
returns-clause-joined c = join_with_byte-slice_split

pub returns-clause-without : goal.returns-clause-without
returns-clause-without c = pieces-lack
