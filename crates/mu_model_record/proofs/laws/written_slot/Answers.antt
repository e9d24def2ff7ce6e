use Rattle.mu_model_record.proofs.SlotLemmas.{slot_words, slot_safe}
use Rattle.mu_model_record.proofs.laws.written_slot.Goals as goal

pub returns-clause-its_word : goal.returns-clause-its_word
returns-clause-its_word c old new k octets many small can changes word is = (slot_words c.ranges_of_octets.ensures) old new k octets small can changes word is

pub returns-clause-safe : goal.returns-clause-safe
returns-clause-safe c old new k octets many small safe can changes = (slot_safe c.ranges_of_octets.ensures) old new k octets small can changes safe
