use Rattle.std.proofs.Common.{drop}
use Rattle.mu_model_represents.specs.Images.{AllDiffer}
use Rattle.mu_distributor_note.proofs.rules.all_differ.Given as goal

-- the banks that are left decide
abbrev pub invariant-loop-i : goal.invariant-loop-i
invariant-loop-i l = (AllDiffer (drop l.i l.banks) → AllDiffer l.banks) × (AllDiffer l.banks → AllDiffer (drop l.i l.banks))
