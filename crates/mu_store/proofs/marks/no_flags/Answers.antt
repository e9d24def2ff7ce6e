use Rattle.std.proofs.Common.{refl}
use Rattle.mu_store.specs.Marks.{no_flags}
use Rattle.mu_store.proofs.marks.no_flags.Goals as goal

pub returns : goal.returns
unfolding no_flags
returns c = refl
