use Rattle.std.proofs.Common.{◌≡◌, ◌∙◌, List, ap, sym, subst}
use Rattle.mu_distmsg.specs.declared.message.ReceiverRow.{ReceiverRow}
use Rattle.mu_model_represents_distributor.specs.DistributorNote.{DistributorNote, SpellsDistributor}
use Rattle.mu_model_stored_distributor.specs.DistributorIn.{note_in}
use Rattle.mu_distributor_note.specs.Views.{distributor_note}
use Rattle.mu_distributor_note.specs.Rules.{FollowsRules}
use Rattle.mu_distributor_note.proofs.Layouts.{numbers_of}
use Rattle.mu_distributor_note.proofs.reading.distributor_note_from.Goals as goal

pub head_from-head-requires-clause-few : goal.head_from-head-requires-clause-few
head_from-head-requires-clause-few c = (numbers_of c.args.note.now (c.is_spelled.ensures.0 c.if-not-is_spelled.false)).images

pub rows_from-rows-requires-clause-few : goal.rows_from-rows-requires-clause-few
rows_from-rows-requires-clause-few c = (numbers_of c.args.note.now (c.is_spelled.ensures.0 c.if-not-is_spelled.false)).receivers

-- octets spell one note at most
pub returns-then-not-is_spelled-clause-foreign : goal.returns-then-not-is_spelled-clause-foreign
returns-then-not-is_spelled-clause-foreign c n h =
    let one : note_in c.args.note.now ≡ n = c.distributor_is_read.ensures.note n c.args.note.now h.spelled in
    absurd (cc (c.if-not-is_spelled.true, c.is_spelled.ensures.1 (subst (λ (m : DistributorNote). SpellsDistributor m c.args.note.now) (sym one) h.spelled)))

pub returns-then-not-follows_rules-clause-foreign : goal.returns-then-not-follows_rules-clause-foreign
returns-then-not-follows_rules-clause-foreign c n h =
    let one : note_in c.args.note.now ≡ n = c.distributor_is_read.ensures.note n c.args.note.now h.spelled in
    let whole : distributor_note c.head_from-head.result c.rows_from-rows.result.items ≡ note_in c.args.note.now =
    λ i. record (c.head_from-head.ensures i) { receivers = c.rows_from-rows.ensures.rows i } in
    absurd (cc (c.if-not-follows_rules.true, c.follows_rules.ensures.1 (subst FollowsRules (sym one ∙ sym whole ∙ ap (λ (l : List ReceiverRow). distributor_note c.head_from-head.result l) (sym c.as_slice.ensures.value)) h.rules)))

pub returns-clause-read : goal.returns-clause-read
returns-clause-read c =
    let whole : distributor_note c.head_from-head.result c.rows_from-rows.result.items ≡ note_in c.args.note.now =
    λ i. record (c.head_from-head.ensures i) { receivers = c.rows_from-rows.ensures.rows i } in
    record {
      spelled = subst (λ (m : DistributorNote). SpellsDistributor m c.args.note.now) (sym whole) (c.is_spelled.ensures.0 c.if-not-is_spelled.false);
      rules = subst (λ (l : List ReceiverRow). FollowsRules (distributor_note c.head_from-head.result l)) c.as_slice.ensures.value (c.follows_rules.ensures.0 c.if-not-follows_rules.false);
    }
