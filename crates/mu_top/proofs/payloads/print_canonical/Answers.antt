use Rattle.mu_model_wire.specs.Reading.{message_at}
use Rattle.mu_model_wire.specs.Table.{rows}
use Rattle.mu_top.specs.declared.payloads.PayloadText.TheVariants.{Canonical}
use Rattle.mu_top.proofs.Printing.{canonical_done, canonical_cut, refused_alike}
use Rattle.mu_top.proofs.payloads.print_canonical.Goals as goal

pub returns-in-Ok-write_octets-clause-prints : goal.returns-in-Ok-write_octets-clause-prints
returns-in-Ok-write_octets-clause-prints g c =
    canonical_done _ c.in-Ok.payload.items _ _ _ c.in-Ok.ensures (λ m same. rw (← same, ← c.as_slice.ensures.value) c.in-Ok-write_octets.ensures.ok)

pub returns-in-Err-write_octets-clause-prints : goal.returns-in-Err-write_octets-clause-prints
returns-in-Err-write_octets-clause-prints g c =
    canonical_cut _ c.in-Ok.payload.items _ _ _ c.in-Ok.ensures (λ m same. rw (← same, ← c.as_slice.ensures.value) c.in-Err-write_octets.ensures.err)

pub returns-in-Err-clause-prints : goal.returns-in-Err-clause-prints
returns-in-Err-clause-prints g c = refused_alike (Unit {0}) Canonical c.in-Err.refusal c.refused.result (g.K.Sink.written c.args.sink.now) (message_at rows c.args.octets.now) c.in-Err.ensures c.refused.ensures
