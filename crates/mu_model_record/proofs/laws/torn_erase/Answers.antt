use Rattle.mu_model_record.proofs.PageLemmas.{torn_erase, no_new_word, faded_is_safe}
use Rattle.mu_model_record.proofs.laws.torn_erase.Goals as goal

pub returns-clause-fades : goal.returns-clause-fades
returns-clause-fades c old new size safe torn = (torn_erase c.ranges_of_octets.ensures) old new size safe torn

pub returns-clause-no_new_word : goal.returns-clause-no_new_word
returns-clause-no_new_word c old new fades word is = no_new_word old new fades word is

pub returns-clause-safe : goal.returns-clause-safe
returns-clause-safe c old new safe fades = faded_is_safe old new safe fades
