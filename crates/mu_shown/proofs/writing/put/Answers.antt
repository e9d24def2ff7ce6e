use Rattle.std.proofs.Common.{subst, sym, Err}
use Rattle.mu_shown.specs.Written.{Adds}
use Rattle.mu_shown.proofs.Told.{adds_after_ok, adds_after_err}
use Rattle.mu_shown.proofs.writing.put.Goals as goal

pub returns-in-Ok : goal.returns-in-Ok
returns-in-Ok g c =
    subst (λ r. Adds (g.K.Sink.written c.args.sink.now) (g.K.Sink.written c.write_all.new.sink) (g.K.Sink.faults c.args.sink.now) (g.K.Sink.faults c.write_all.new.sink) r c.write_all.result c.args.bytes.now) (sym c.in-Ok.is)
    (adds_after_ok _ _ _ _ c.in-Ok.field-0 c.write_all.result c.args.bytes.now c.write_all.ensures.ok c.write_all.ensures.err c.write_all.ensures.cause)

pub returns-in-Err : goal.returns-in-Err
returns-in-Err g c =
    subst (λ r. Adds (g.K.Sink.written c.args.sink.now) (g.K.Sink.written c.args.sink.now) (g.K.Sink.faults c.args.sink.now) (g.K.Sink.faults c.args.sink.now) r (Err c.in-Err.failed) c.args.bytes.now) (sym c.in-Err.is)
    (adds_after_err _ _ c.in-Err.failed c.args.bytes.now)
