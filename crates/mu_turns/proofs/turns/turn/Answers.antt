use Rattle.mu_outside.specs.Link.{found_of}
use Rattle.mu_turns.proofs.Turning.{over_stays, over_received, broke_receive, broke_hand, broke_time, made_turn, on_ok_map, if_err_map}
use Rattle.mu_turns.proofs.turns.turn.Goals as goal

pub returns-in_default-clause-broke : goal.returns-in_default-clause-broke
returns-in_default-clause-broke g c =
    let M = g.M.Member in
    broke_receive M.step M.fails M.ended c.args.me _ c.requires.going _ _ c.now-now.result c.now-now.ensures _ _ (over_stays M.step M.fails M.ended c.args.me _ _ c.receive.ensures.told c.in_default.ensures.same)

pub returns-in-Err-clause-broke : goal.returns-in-Err-clause-broke
returns-in-Err-clause-broke g c =
    let M = g.M.Member in
    broke_hand M.step M.fails M.ended c.args.me _ c.requires.going _ _ c.now-now.result c.now-now.ensures _ _ _ _ (found_of c.in-Ok.found) _ (over_received M.step M.fails M.ended c.args.me _ _ _ c.receive.ensures.told c.in-Ok.ensures.received) c.in-Err.ensures.broke

pub returns-clause-made : goal.returns-clause-made
returns-clause-made g c =
    let M = g.M.Member in
    on_ok_map c.pass_time.result _ _ (λ timed. made_turn M.step M.fails M.ended c.args.me _ c.requires.going _ _ c.now-now.result c.now-now.ensures _ _ _ _ _ _ (found_of c.in-Ok.found) (over_received M.step M.fails M.ended c.args.me _ _ _ c.receive.ensures.told c.in-Ok.ensures.received) c.in_default-hand.ensures.done timed) c.pass_time.ensures.done

pub returns-clause-broke : goal.returns-clause-broke
returns-clause-broke g c =
    let M = g.M.Member in
    if_err_map c.pass_time.result _ _ (λ stop cut. broke_time M.step M.fails M.ended c.args.me _ c.requires.going _ _ c.now-now.result c.now-now.ensures _ _ _ _ _ _ (found_of c.in-Ok.found) stop (over_received M.step M.fails M.ended c.args.me _ _ _ c.receive.ensures.told c.in-Ok.ensures.received) c.in_default-hand.ensures.done cut) c.pass_time.ensures.broke
