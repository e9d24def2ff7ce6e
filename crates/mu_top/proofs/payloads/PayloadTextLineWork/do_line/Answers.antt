use Rattle.std.proofs.Common.{◌∙◌, sym}
use Rattle.mu_top.proofs.Printing.{line_holds, printed_did, printed_stops, no_memory}
use Rattle.mu_top.proofs.payloads.PayloadTextLineWork.do_line.Goals as goal

pub returns-in-Ok-clause-did : goal.returns-in-Ok-clause-did
returns-in-Ok-clause-did g c =
    let holds = line_holds c.args.line.now c.in-Ok.octets.now c.requires.short (sym c.is_silent.ensures ∙ c.if-is_silent.false) c.in-Ok.ensures.0 c.in-Ok.ensures.1 in
    printed_did _ _ _ _ _ _ holds c.print.ensures.prints

pub returns-in-Ok-clause-stops : goal.returns-in-Ok-clause-stops
returns-in-Ok-clause-stops g c =
    let holds = line_holds c.args.line.now c.in-Ok.octets.now c.requires.short (sym c.is_silent.ensures ∙ c.if-is_silent.false) c.in-Ok.ensures.0 c.in-Ok.ensures.1 in
    printed_stops _ _ _ _ _ _ holds c.print.ensures.prints

pub returns-in-Ok-clause-grows : goal.returns-in-Ok-clause-grows
returns-in-Ok-clause-grows g c = no_memory _ _ _ _ _ c.print.ensures.prints
