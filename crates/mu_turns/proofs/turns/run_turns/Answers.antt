use Rattle.std.proofs.Common.{arith, rules, ◌++◌, ◌∷◌, [], length-append, refl}
use Rattle.mu_turns.proofs.Turning.{made_none, made_more, broke_more}
use Rattle.mu_turns.proofs.turns.run_turns.Goals as goal

pub loop-init : goal.loop-init
loop-init g c =
    let M = g.M.Member in
    record {
      made = ([], refl, made_none M.step M.fails M.ended c.args.me _ _ _);
      later = omega arith;
      empty = search rules;
    }

pub returns-in-Err-clause-broke : goal.returns-in-Err-clause-broke
returns-in-Err-clause-broke g c =
    let M = g.M.Member in
    let so_far = c.loop.invariant.made in
    (so_far.0, broke_more M.step M.fails M.ended _ _ _ _ _ _ _ _ _ _ so_far.0 _ so_far.2 c.in-Err.ensures.broke, omega (arith, so_far.1))

pub loop-preserved : goal.loop-preserved
loop-preserved g c =
    let M = g.M.Member in
    let so_far = c.loop.invariant.made in
    let next = c.in_default.ensures.made in
    record {
      made = (so_far.0 ++ next.0 ∷ [], omega (arith, so_far.1, length-append so_far.0 (next.0 ∷ [])), made_more M.step M.fails M.ended _ _ _ _ _ _ _ _ _ _ so_far.0 (next.0 ∷ []) so_far.2 next.1);
      later = omega (arith, c.loop.invariant.later, c.turn.ensures.later);
      empty = c.in_default.ensures.empty;
    }
