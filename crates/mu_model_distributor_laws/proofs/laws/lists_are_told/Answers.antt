use Rattle.mu_model_distributor_laws.proofs.ListsSent.{lists_show}
use Rattle.mu_model_distributor_laws.proofs.ListsTold.{lists_are_told}
use Rattle.mu_model_distributor_laws.proofs.laws.lists_are_told.Goals as goal

pub returns-clause-rows : goal.returns-clause-rows
returns-clause-rows c = lists_show c.opcodes_are_kept.ensures.one c.opcodes_are_kept.ensures.two c.canonical_is_read.ensures c.grammar_holds.ensures

pub returns-clause-told : goal.returns-clause-told
returns-clause-told c = lists_are_told c.opcodes_are_kept.ensures.one c.opcodes_are_kept.ensures.two c.states_are_sound.ensures.requests c.canonical_is_read.ensures c.grammar_holds.ensures
