use Rattle.mu_top.proofs.work.run.Given as goal

abbrev pub ghosts-run_gathered : goal.ghosts-run_gathered
ghosts-run_gathered g a = record { name = a.lent.output.ghost_name; start = g.K.Sink.written a.lent.output.now }
