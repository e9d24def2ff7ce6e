use Rattle.mu_top.proofs.ImageTexts.{part_written}
use Rattle.mu_top.proofs.image.print_image.Goals as goal

pub returns-in-Err-print_read-clause-ends : goal.returns-in-Err-print_read-clause-ends
returns-in-Err-print_read-clause-ends g c = part_written _ _ _ _ c.args.version c.in-Ok.read c.in-Ok.ensures.read c.in-Err-print_read.ensures.err
