use Rattle.mu_model_stored_node.proofs.Steps.{same_fresh, record_zip, block_zip, of_passed}
use Rattle.mu_model_stored_node.proofs.laws.node_steps.Goals as goal

pub returns-clause-fresh : goal.returns-clause-fresh
returns-clause-fresh c fresh e n state is = same_fresh fresh e.present (c.records_are_short.ensures.node e n state is)

pub returns-clause-short : goal.returns-clause-short
returns-clause-short c fresh r short = same_fresh fresh r short

pub returns-clause-one_record : goal.returns-clause-one_record
returns-clause-one_record c fresh s e d n state before after = record_zip s e d n before after fresh (c.records_are_short.ensures.node e n state after)

pub returns-clause-begin : goal.returns-clause-begin
returns-clause-begin c fresh s e d n state before after = (before, record_zip s e d n before after fresh (c.records_are_short.ensures.node e n state after))

pub returns-clause-block : goal.returns-clause-block
returns-clause-block c fresh pages s e d n before after = block_zip s e d n before after pages

pub returns-clause-passed : goal.returns-clause-passed
returns-clause-passed c fresh d n work = of_passed d n fresh work
