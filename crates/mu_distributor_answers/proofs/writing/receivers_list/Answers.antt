use Rattle.std.proofs.Common.{◌∙◌, List, [], ◌∷◌, length, ap, arith}
use Rattle.mu_model_wire.specs.Fields.{Shown, number}
use Rattle.mu_model_wire.specs.Names.{count, first}
use Rattle.mu_model_wire.specs.Spelling.{spelling}
use Rattle.mu_model_wire.specs.Table.{rows}
use Rattle.mu_distmsg.specs.declared.message.ReceiverRow.{ReceiverRow}
use Rattle.mu_distributor_answers.proofs.Written.{rows_shown, list_fits}
use Rattle.mu_distributor_answers.proofs.writing.receivers_list.Goals as goal

pub written-requires-clause-fits : goal.written-requires-clause-fits
written-requires-clause-fits c =
    list_fits c.args.count c.args.first c.args.entries.items c.ranges.count.fits c.ranges.first.fits
    (omega (arith, c.as_slice.ensures.fits, ap (λ (l : List ReceiverRow). length l) c.as_slice.ensures.value)) c.requires

pub returns : goal.returns
returns c =
    c.written.ensures
    ∙ ap (λ (es : List (List Shown)). spelling rows (record { opcode = 0x8315; fields = number count c.args.count ∷ number first c.args.first ∷ []; entries = es }))
    (rows_shown c.args.entries.items)
