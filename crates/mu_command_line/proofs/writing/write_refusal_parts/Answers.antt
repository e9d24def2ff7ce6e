use Rattle.std.proofs.Common.{subst}
use Rattle.std.specs.Result.{OnOk, OnErr}
use Rattle.mu_command_line.specs.Writing.{Wrote, WroteSome}
use Rattle.mu_command_line.proofs.Refusals.{refusal_is}
use Rattle.mu_command_line.proofs.writing.write_refusal_parts.Goals as goal

pub returns-clause-ok : goal.returns-clause-ok
returns-clause-ok g c =
    subst (λ t. OnOk c.write_pieces.result (Wrote (g.K.Sink.written c.args.sink.now) (g.K.Sink.written c.write_pieces.new.sink) t)) (refusal_is c.args.number.now c.args.place.now c.args.word.now) (rw c.as_slice.ensures at c.write_pieces.ensures.ok)

pub returns-clause-err : goal.returns-clause-err
returns-clause-err g c =
    subst (λ t. OnErr c.write_pieces.result (WroteSome (g.K.Sink.written c.args.sink.now) (g.K.Sink.written c.write_pieces.new.sink) t)) (refusal_is c.args.number.now c.args.place.now c.args.word.now) (rw c.as_slice.ensures at c.write_pieces.ensures.err)
