use Rattle.mu_model_wire.proofs.Spelled.{canonical}
use Rattle.mu_model_wire.proofs.laws.canonical_spells.Goals as goal

pub returns : goal.returns
returns c = canonical
