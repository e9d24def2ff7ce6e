use Rattle.mu_model_record.proofs.TurnLemmas.{erase_outside, erases, erase_words, erased_page, erased_slot, write_outside, turns, page_words, slot_turns, slot_words, mark_turns}
use Rattle.mu_model_record.proofs.laws.turns.Goals as goal

pub returns-clause-erase : goal.returns-clause-erase
returns-clause-erase c = record { stays = (erase_outside c.ranges_of_octets.ensures); turns = (erases c.ranges_of_octets.ensures); words = (erase_words c.ranges_of_octets.ensures); page = (erased_page c.ranges_of_octets.ensures); slots = (erased_slot c.ranges_of_octets.ensures) }

pub returns-clause-page : goal.returns-clause-page
returns-clause-page c = record { stays = (write_outside c.ranges_of_octets.ensures); turns = (turns c.ranges_of_octets.ensures); words = (page_words c.ranges_of_octets.ensures) }

pub returns-clause-slot : goal.returns-clause-slot
returns-clause-slot c = record { turns = (slot_turns c.ranges_of_octets.ensures); words = λ old page within slot octets. (slot_words c.ranges_of_octets.ensures) old page within slot octets }

pub returns-clause-mark : goal.returns-clause-mark
returns-clause-mark c = mark_turns c.ranges_of_octets.ensures
