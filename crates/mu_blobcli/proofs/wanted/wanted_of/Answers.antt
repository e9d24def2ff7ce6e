use Rattle.std.proofs.Common.{◌∙◌, ap, length, arith}
use Rattle.mu_model_wire.specs.Reports.{no_number}
use Rattle.mu_receivers.specs.declared.slot.Slot.{Slot}
use Rattle.mu_blobcli.proofs.Present.{none_left, left_chunks}
use Rattle.mu_blobcli.proofs.wanted.wanted_of.Goals as goal

pub wanted_from-requires-clause-within : goal.wanted_from-requires-clause-within
wanted_from-requires-clause-within c =
    let fits = c.requires.whole.left c.in-Some.left c.in-Some.is in
    omega (arith, fits.receiver, ap (length {A = Slot}) c.deref.ensures.0)

pub wanted_from-requires-clause-few : goal.wanted_from-requires-clause-few
wanted_from-requires-clause-few c =
    omega (arith, left_chunks c.args.rounds.now c.args.b c.in-Some.left c.requires.whole c.in-Some.is c.requires.at, c.chunk_total-total.ensures.total, c.chunk_total-total.ensures.most)

pub returns-in-None : goal.returns-in-None
returns-in-None c = c.new.ensures ∙ ap no_number c.chunk_total-total.ensures.total ∙ none_left c.args.rounds.now c.args.b c.in-None.is c.requires.at
