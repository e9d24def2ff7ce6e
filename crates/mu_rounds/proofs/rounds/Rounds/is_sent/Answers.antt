use Rattle.std.proofs.Common.{◌∙◌, ap}
use Rattle.std.specs.List.{list_any}
use Rattle.mu_receivers.specs.declared.slot.Slot.{Slot}
use Rattle.mu_rounds.proofs.Stepping.{sent_so, is_none_so}
use Rattle.mu_rounds.proofs.rounds.Rounds.is_sent.Goals as goal

pub returns-then-is_none-clause-sent : goal.returns-then-is_none-clause-sent
returns-then-is_none-clause-sent c =
    sent_so c.args.self.now c.args.step _ _ c.requires.shape c.requires.at (c.is_any_listed.ensures ∙ ap (list_any (λ (s : Slot). s.listed)) c.deref.ensures.0) c.requires.undone (is_none_so c.args.self.now.left c.is_none.result c.is_none.ensures) c.if-is_none.true
