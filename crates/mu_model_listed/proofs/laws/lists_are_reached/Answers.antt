use Rattle.mu_model_listed.proofs.Listed.{rows_are_reached, lists_are_reached}
use Rattle.mu_model_listed.proofs.New.{new_lists_are_true}
use Rattle.mu_model_listed.proofs.laws.lists_are_reached.Goals as goal

pub returns-clause-rows : goal.returns-clause-rows
returns-clause-rows c = rows_are_reached c.told_is_reached.ensures.all c.rows_are_told.ensures.told

pub returns-clause-lists : goal.returns-clause-lists
returns-clause-lists c = lists_are_reached c.told_is_reached.ensures.all c.lists_are_told.ensures.told

pub returns-clause-new : goal.returns-clause-new
returns-clause-new c = new_lists_are_true (lists_are_reached c.told_is_reached.ensures.all c.lists_are_told.ensures.told)
