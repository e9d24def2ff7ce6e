use Rattle.std.proofs.Common.{◌≡◌, ◌∙◌, ◌≤◌, List, length, sym, ap, subst, arith}
use Rattle.mu_distmsg.specs.declared.message.ReceiverRow.{ReceiverRow}
use Rattle.mu_distributor_rows.specs.Receivers.{entries_of}
use Rattle.mu_distributor_rows.proofs.ReceiverRows.{add_busy, add_full, add_fits, grown_front, grown_due}
use Rattle.mu_distributor_rows.proofs.ShownRows.{grown_shown}
use Rattle.mu_distributor_rows.specs.Receivers.{AreShownRows}
use Rattle.mu_distributor_rows.proofs.receivers.receivers_add.Goals as goal

pub returns-then-not-is_idle-clause-step : goal.returns-then-not-is_idle-clause-step
returns-then-not-is_idle-clause-step c s are is = add_busy s c.args.phase (entries_of c.args.entries.now) is (sym c.is_idle.ensures ∙ c.if-not-is_idle.true)

pub returns-then-not-add-clause-step : goal.returns-then-not-add-clause-step
returns-then-not-add-clause-step c s are is =
    add_full s c.args.phase c.args.rows.now.items (entries_of c.args.entries.now) is (sym c.is_idle.ensures ∙ c.if-not-is_idle.false) are (c.add.ensures.many c.if-not-add.true)

pub returns-then-not-add-clause-refused : goal.returns-then-not-add-clause-refused
returns-then-not-add-clause-refused c =
    c.truncate.ensures.items ∙ grown_front c.args.rows.now.items c.add.new.rows.items c.len-count.result c.len-count.ensures.value c.add.ensures.grown

pub returns-clause-step : goal.returns-clause-step
returns-clause-step c s are is =
    let few : length c.add.new.rows.items ≤ 128 = omega (arith, c.as_slice.ensures.fits, ap (λ (l : List ReceiverRow). length l) c.as_slice.ensures.value) in
    add_fits s c.args.phase c.args.rows.now.items c.add.new.rows.items (entries_of c.args.entries.now) is (sym c.is_idle.ensures ∙ c.if-not-is_idle.false) are c.add.ensures.grown
    (c.add.ensures.all c.if-not-add.false) few

pub returns-clause-due : goal.returns-clause-due
returns-clause-due c s are =
    grown_due s c.args.rows.now.items c.add.new.rows.items c.len-count.result (length c.as_slice.result.now) c.len-count.ensures.value
    (ap (λ (l : List ReceiverRow). length l) c.as_slice.ensures.value) c.add.ensures.grown are

pub returns-then-not-add-clause-shown : goal.returns-then-not-add-clause-shown
returns-then-not-add-clause-shown c fit shown =
    subst AreShownRows (sym (c.truncate.ensures.items ∙ grown_front c.args.rows.now.items c.add.new.rows.items c.len-count.result c.len-count.ensures.value c.add.ensures.grown)) shown

pub returns-clause-shown : goal.returns-clause-shown
returns-clause-shown c fit shown =
    grown_shown c.args.rows.now.items c.add.new.rows.items (entries_of c.args.entries.now) c.add.ensures.grown (c.add.ensures.all c.if-not-add.false) fit shown
