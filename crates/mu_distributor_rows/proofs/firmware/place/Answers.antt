use Rattle.std.proofs.Common.{◌∙◌, true, false, sym}
use Rattle.mu_distributor_rows.proofs.FirmwareRows.{place_next}
use Rattle.mu_distributor_rows.proofs.firmware.place.Goals as goal

pub returns-then-has_id : goal.returns-then-has_id
returns-then-has_id c =
    sym (c.loop-i.invariant ∙ place_next c.args.metas.now c.args.fwid.now c.loop-i.i _ true c.loop-i-test.true (sym c.has_id.ensures ∙ c.if-has_id.true))

pub loop-i-preserved : goal.loop-i-preserved
loop-i-preserved c =
    c.loop-i.invariant ∙ place_next c.args.metas.now c.args.fwid.now c.loop-i.i _ false c.loop-i-test.true (sym c.has_id.ensures ∙ c.if-has_id.false)
