use Rattle.mu_model_record.proofs.PlaceLemmas.{page_turned, slot_turned, slot-of-page}
use Rattle.mu_model_record.proofs.laws.pages_of_a_flash.Goals as goal

pub returns-clause-page : goal.returns-clause-page
returns-clause-page c old image octets page within many is = (page_turned c.ranges_of_octets.ensures) old image octets page within many is

pub returns-clause-slot : goal.returns-clause-slot
returns-clause-slot c old image octets page k within lt many turns = (slot_turned c.ranges_of_octets.ensures) old image octets page k within lt many turns

pub returns-clause-slots : goal.returns-clause-slots
returns-clause-slots c octets page k within lt = (slot-of-page c.ranges_of_octets.ensures) octets page k within lt
