use Rattle.std.proofs.Common.{◌≡◌, ◌∙◌, ◌+◌, ◌++◌, ◌∷◌, [], ℕ, false, List, get_or, refl, sym, ap, subst}
use Rattle.std.proofs.lemmas.Bool.{eqb-true}
use Rattle.arrayvec.specs.ArrayVec.{ArrayVec}
use Rattle.mu_distmsg.specs.declared.message.ReceiverRow.{ReceiverRow}
use Rattle.mu_model_distributor.specs.Receivers.{has_address}
use Rattle.mu_distributor_kept.specs.Views.{row_receivers}
use Rattle.mu_distributor_rows.proofs.ReceiverRows.{Adding, drop_next, nothing_grown, passed_over, put, too_many}
use Rattle.mu_distributor_rows.proofs.receivers.add.Goals.{then-not-has_address+else-is_full, else-not-has_address}
use Rattle.mu_distributor_rows.proofs.receivers.add.Goals as goal

pub loop-entry-init : goal.loop-entry-init
loop-entry-init c = record { grown = nothing_grown c.args.rows.now.items; left = refl }

pub returns-then-is_full-clause-many : goal.returns-then-is_full-clause-many
returns-then-is_full-clause-many c e =
    let entry : ℕ × ℕ = get_or c.args.entries.now c.loop-entry.entry-index (0, 0) in
    too_many c.args.rows.now.items c.loop-entry.rows.items c.args.entries.now c.loop-entry.entry-index entry
    (drop_next c.args.entries.now c.loop-entry.entry-index (0, 0) c.loop-entry-test.true)
    (ap (λ (l : List ReceiverRow). has_address (row_receivers l) entry.0) (sym c.as_slice.ensures.value) ∙ sym c.has_address.ensures ∙ c.if-not-has_address.true)
    (eqb-true _ _ (sym c.is_full.ensures.value ∙ c.if-is_full.true)) c.loop-entry.invariant

pub loop-entry-preserved : goal.loop-entry-preserved
loop-entry-preserved c =
    let entry : ℕ × ℕ = get_or c.args.entries.now c.loop-entry.entry-index (0, 0) in
    let here = λ (l : List ReceiverRow). Adding c.args.rows.now.items l c.args.entries.now (c.loop-entry.entry-index + 1) in
    elim c.if-not-has_address.branch [
      | then-not-has_address+else-is_full w ↦
          subst here (sym (ap (λ (v : ArrayVec ReceiverRow). v.items) w.rows-is ∙ w.push.ensures.items))
          (put c.args.rows.now.items c.loop-entry.rows.items c.args.entries.now c.loop-entry.entry-index entry w.new_row.result
          (drop_next c.args.entries.now c.loop-entry.entry-index (0, 0) c.loop-entry-test.true)
          (ap (λ (l : List ReceiverRow). has_address (row_receivers l) entry.0) (sym c.as_slice.ensures.value) ∙ sym c.has_address.ensures ∙ w.if-not-has_address.true)
          w.new_row.ensures.receiver w.new_row.ensures.progress c.loop-entry.invariant)
      | else-not-has_address w ↦
          subst here (sym (ap (λ (v : ArrayVec ReceiverRow). v.items) w.rows-is))
          (passed_over c.args.rows.now.items c.loop-entry.rows.items c.args.entries.now c.loop-entry.entry-index entry
          (drop_next c.args.entries.now c.loop-entry.entry-index (0, 0) c.loop-entry-test.true)
          (ap (λ (l : List ReceiverRow). has_address (row_receivers l) entry.0) (sym c.as_slice.ensures.value) ∙ sym c.has_address.ensures ∙ w.if-not-has_address.false)
          c.loop-entry.invariant)
    ]
