use Rattle.mu_cells.proofs.TurnLemmas.{erase_runs, erase_stays, erase_word_runs}
use Rattle.mu_cells.proofs.page.erase_page.Goals as goal

pub returns-clause-cuts : goal.returns-clause-cuts
returns-clause-cuts g c safe =
    erase_runs _ (g.met.F.Flash.sound c.args.flash.now) _ c.erase.result (c.runs.ensures.read c.args.flash.now c.erase.new.self) c.turns.ensures.erase c.args.page c.requires.within safe c.erase.ensures.runs

pub returns-clause-outside : goal.returns-clause-outside
returns-clause-outside g c =
    erase_stays _ (g.met.F.Flash.sound c.args.flash.now) _ c.erase.result (c.runs.ensures.read c.args.flash.now c.erase.new.self) c.turns.ensures.erase c.args.page c.requires.within c.erase.ensures.runs

pub returns-clause-words : goal.returns-clause-words
returns-clause-words g c safe =
    erase_word_runs _ (g.met.F.Flash.sound c.args.flash.now) _ c.erase.result (c.runs.ensures.read c.args.flash.now c.erase.new.self) c.turns.ensures.erase c.args.page c.requires.within (returns-clause-cuts g c safe)
