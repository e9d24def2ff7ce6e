use Rattle.mu_model_record.proofs.PageLemmas.{written_word, torn_program}
use Rattle.mu_model_record.proofs.laws.written_page.Goals as goal

pub returns-clause-its_word : goal.returns-clause-its_word
returns-clause-its_word c octets word many small is has = (written_word c.ranges_of_octets.ensures) octets many small is word has

pub returns-clause-torn : goal.returns-clause-torn
returns-clause-torn c octets image many small is torn = (torn_program c.ranges_of_octets.ensures) octets many small is image torn
