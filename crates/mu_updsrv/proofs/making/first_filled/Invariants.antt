use Rattle.mu_updsrv.proofs.making.first_filled.Given as goal

abbrev pub ghosts-filled_first : goal.ghosts-filled_first
ghosts-filled_first g a = record { start = g.S.Source.left a.source; most = a.first }
