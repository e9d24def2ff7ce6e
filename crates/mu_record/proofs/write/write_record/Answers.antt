use Rattle.std.proofs.Common.{sym}
use Rattle.mu_record.proofs.WriteLemmas.{write_steps, long_steps, next_steps, first_steps}
use Rattle.mu_record.proofs.write.write_record.Goals as goal

pub returns-then-not-is_short-clause-runs : goal.returns-then-not-is_short-clause-runs
returns-then-not-is_short-clause-runs g c =
    write_steps _ _ _ _ c.args.fields.now _ _ _ (long_steps c.args.fields.now c.args.place.fresh (sym c.if-not-is_short.ensures.result)) c.write_long.ensures.runs

pub returns-then-place-gt0-clause-runs : goal.returns-then-place-gt0-clause-runs
returns-then-place-gt0-clause-runs g c =
    write_steps _ _ _ _ c.args.fields.now _ _ _ (next_steps c.args.fields.now c.args.place.fresh (sym c.if-not-is_short.ensures.result) c.if-place-gt0.true) c.write_next.ensures.runs

pub returns-clause-runs : goal.returns-clause-runs
returns-clause-runs g c =
    write_steps _ _ _ _ c.args.fields.now _ _ _ (first_steps c.args.fields.now c.args.place.fresh (sym c.if-not-is_short.ensures.result) c.if-place-gt0.false) c.write_first.ensures.runs
