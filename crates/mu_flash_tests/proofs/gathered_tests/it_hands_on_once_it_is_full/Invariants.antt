use Rattle.std.proofs.Common.{Some}
use Rattle.mu_outside.specs.Bytes.{sink_octets}
use Rattle.mu_flash_tests.proofs.gathered_tests.it_hands_on_once_it_is_full.Given as goal

abbrev pub ghosts-one_more : goal.ghosts-one_more
ghosts-one_more g a = record { name = a.lent.output.ghost_name; start = Some (sink_octets a.lent.output.now) }
