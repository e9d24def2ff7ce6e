use Rattle.std.proofs.Common.{Some}
use Rattle.mu_outside.specs.Bytes.{sink_octets}
use Rattle.mu_flash_tests.proofs.gathered_tests.a_failure_loses_nothing.Given as goal

abbrev pub ghosts-two_pieces : goal.ghosts-two_pieces
ghosts-two_pieces g a = record { name = a.lent.output.ghost_name; start = Some (sink_octets a.lent.output.now) }
