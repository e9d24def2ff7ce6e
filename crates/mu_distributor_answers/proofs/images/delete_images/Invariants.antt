use Rattle.mu_distributor_answers.proofs.Deleted.{Keeping}
use Rattle.mu_distributor_answers.proofs.images.delete_images.Given as goal

abbrev pub invariant-loop-i : goal.invariant-loop-i
invariant-loop-i l = Keeping l.fwid l.banks.items l.stored l.i l.kept.items l.metas
