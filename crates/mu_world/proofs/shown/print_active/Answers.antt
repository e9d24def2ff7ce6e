use Rattle.std.proofs.Common.{◌++◌, ap, ◌∙◌, arith}
use Rattle.mu_model_script.specs.Texts.{active_text}
use Rattle.mu_world.proofs.ActiveTexts.{one_shown, two_shown}
use Rattle.mu_world.proofs.shown.print_active.Goals as goal

pub returns-in_ok-active-2 : goal.returns-in_ok-active-2
returns-in_ok-active-2 c =
    let second = c.active-second.result in
    c.in_ok-active-2.ensures.ok
    ∙ (ap (λ t. t ++ active_text c.args.address second.version second.size second.digest) c.in_ok-active.ensures.ok
    ∙ two_shown c.args.address c.args.member.now.state.durable.images c.active-first.result second c.args.lines.now c.active-first.ensures c.active-second.ensures (omega (arith, c.images-count.ensures.is, c.if-count-eq2.true)))

pub returns-else-count-eq2 : goal.returns-else-count-eq2
returns-else-count-eq2 c =
    c.in_ok-active.ensures.ok
    ∙ one_shown c.args.address c.args.member.now.state.durable.images c.active-first.result c.args.lines.now c.active-first.ensures (omega (arith, c.images-count.ensures.is, c.images-count.ensures.some, c.images-count.ensures.few, c.if-count-eq2.false))
