use Rattle.std.proofs.Common.{◌∙◌, sym, ap, subst, []}
use Rattle.mu_model_flash.specs.Run.{either, Ran}
use Rattle.mu_model_represents.specs.RepresentsNode.{RepresentsNode}
use Rattle.mu_place.specs.declared.place.Place.{Place}
use Rattle.mu_place.specs.Place.{place_seen}
use Rattle.mu_update_rows.specs.Fits.{is_cut}
use Rattle.mu_node.specs.Views.{seen_of}
use Rattle.mu_node.proofs.node.Node.do_step.Goals as goal

pub returns-in-MakeReady-clause-remembers : goal.returns-in-MakeReady-clause-remembers
returns-in-MakeReady-clause-remembers g c to n h =
    let of = rw c.in-MakeReady.is at c.requires.of in
    rw c.in-MakeReady.is (c.hear.ensures.ready n h (ap is_cut (sym c.requires.looks.link) ∙ of.0))

pub returns-in-MakeReady-clause-runs : goal.returns-in-MakeReady-clause-runs
returns-in-MakeReady-clause-runs g c to n h is =
    let idle = c.rests.ensures n h in
    rw c.in-MakeReady.is (subst (λ (p : Place g.row.F.Denot g.F.Flash). Ran (either RepresentsNode) n.durable [] (seen_of g.F.Flash.seen c.args.self.now) (place_seen g.F.Flash.seen p)) (sym c.hear.ensures.place) idle.0, c.hear.ensures.flash n.durable idle.1)

pub returns-in-Hear-clause-remembers : goal.returns-in-Hear-clause-remembers
returns-in-Hear-clause-remembers g c to n h =
    let of = rw c.in-Hear.is at c.requires.of in
    rw c.in-Hear.is (c.hear-in-Hear.ensures.hears n h (ap is_cut (sym c.requires.looks.link) ∙ of.0))

pub returns-in-Hear-clause-runs : goal.returns-in-Hear-clause-runs
returns-in-Hear-clause-runs g c to n h is =
    let idle = c.rests.ensures n h in
    rw c.in-Hear.is (subst (λ (p : Place g.row.F.Denot g.F.Flash). Ran (either RepresentsNode) n.durable [] (seen_of g.F.Flash.seen c.args.self.now) (place_seen g.F.Flash.seen p)) (sym c.hear-in-Hear.ensures.place) idle.0, c.hear-in-Hear.ensures.flash n.durable idle.1)

pub returns-in-Take-clause-remembers : goal.returns-in-Take-clause-remembers
returns-in-Take-clause-remembers g c to n h = rw c.in-Take.is (c.take.ensures.remembers to n h)

pub returns-in-Lose-clause-remembers : goal.returns-in-Lose-clause-remembers
returns-in-Lose-clause-remembers g c to n h = rw c.in-Lose.is (c.lose.ensures.remembers to n h)

pub returns-in-Answer-clause-runs : goal.returns-in-Answer-clause-runs
returns-in-Answer-clause-runs g c to n h is = rw c.in-Answer.is (c.rests.ensures n h)
