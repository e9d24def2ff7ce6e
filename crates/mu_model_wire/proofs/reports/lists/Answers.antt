use Rattle.mu_model_wire.proofs.ListLaws.{one_list, no_fault, one_fault, grammar_reads, grammar_refuses}
use Rattle.mu_model_wire.proofs.Lists.{list_fits, list_entries, list_count}
use Rattle.mu_model_wire.proofs.reports.lists.Goals as goal

pub returns-clause-one_list : goal.returns-clause-one_list
returns-clause-one_list c = one_list

pub returns-clause-no_fault : goal.returns-clause-no_fault
returns-clause-no_fault c = no_fault

pub returns-clause-one_fault : goal.returns-clause-one_fault
returns-clause-one_fault c = one_fault

pub returns-clause-read : goal.returns-clause-read
returns-clause-read c = grammar_reads

pub returns-clause-refused : goal.returns-clause-refused
returns-clause-refused c = grammar_refuses

pub returns-clause-fits : goal.returns-clause-fits
returns-clause-fits c = list_fits

pub returns-clause-spells : goal.returns-clause-spells
returns-clause-spells c = list_entries

pub returns-clause-count : goal.returns-clause-count
returns-clause-count c = list_count
