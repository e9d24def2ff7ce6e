use Rattle.mu_cells.proofs.TurnLemmas.{mark_runs, octet_within}
use Rattle.mu_cells.proofs.mark.write_mark.Goals as goal

pub program-requires-clause-is_blank : goal.program-requires-clause-is_blank
program-requires-clause-is_blank g c told =
    c.ranges_of_octets.ensures.torn.mark_blank _ c.args.at (octet_within _ (g.met.F.Flash.sound c.args.flash.now) c.args.at c.requires.within told) (c.requires.is_unset told)

pub returns-clause-cuts : goal.returns-clause-cuts
returns-clause-cuts g c =
    mark_runs _ (g.met.F.Flash.sound c.args.flash.now) _ c.program.result (c.runs.ensures.read c.args.flash.now c.program.new.self) c.turns.ensures.mark c.args.at c.requires.within c.requires.is_unset c.program.ensures.runs
