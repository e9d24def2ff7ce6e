use Rattle.mu_model_wire.proofs.Entries.{begins, goes_on, fails, is_done}
use Rattle.mu_model_wire.proofs.laws.entries_are_read_in_turn.Goals as goal

pub returns-clause-begin : goal.returns-clause-begin
returns-clause-begin c = begins

pub returns-clause-read : goal.returns-clause-read
returns-clause-read c = goes_on

pub returns-clause-refused : goal.returns-clause-refused
returns-clause-refused c = fails

pub returns-clause-end : goal.returns-clause-end
returns-clause-end c = is_done
