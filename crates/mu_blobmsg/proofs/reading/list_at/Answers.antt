use Rattle.std.proofs.Common.{arith, ap, refl, ◌∙◌, length}
use Rattle.mu_model_wire.specs.Names.{missing}
use Rattle.mu_blobmsg.proofs.reading.list_at.Goals as goal
use Rattle.mu_blobmsg.proofs.reading.list_at.Goals.{then-fault, else-fault}

pub returns-in-Ok-clause-reads : goal.returns-in-Ok-clause-reads
returns-in-Ok-clause-reads c =
    c.lists.ensures.read missing (record { at = c.args.place; octets = c.args.octets.now }) c.in-Ok.numbers.items c.in-Ok.ensures.numbers

pub returns-in-Ok-clause-most : goal.returns-in-Ok-clause-most
returns-in-Ok-clause-most c = omega (arith, c.lists.ensures.count c.in-Ok.numbers.items, ap length c.in-Ok.ensures.numbers.spelled)

pub returns-after-fault-clause-reads : goal.returns-after-fault-clause-reads
returns-after-fault-clause-reads c =
    let base = c.lists.ensures.refused missing (record { at = c.args.place; octets = c.args.octets.now }) c.in-Err.fault.at c.in-Err.fault.cut c.in-Err.ensures.fault in
    elim c.if-fault.branch [
      | then-fault w ↦ base ∙ rw (w.if-fault.true, w.result-is) refl
      | else-fault w ↦ base ∙ rw (w.if-fault.false, w.result-is) refl
    ]
