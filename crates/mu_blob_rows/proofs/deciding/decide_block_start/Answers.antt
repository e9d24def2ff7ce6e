use Rattle.mu_blob_rows.specs.Looks.{server_with}
use Rattle.mu_blob_rows.proofs.deciding.decide_block_start.Goals as goal

pub returns-in-NextBlock-clause-report : goal.returns-in-NextBlock-clause-report
returns-in-NextBlock-clause-report c = c.next_block.ensures.report c.args.look

pub returns-in-NextBlock-clause-told : goal.returns-in-NextBlock-clause-told
returns-in-NextBlock-clause-told c = λ held chunks to so. rw c.in-NextBlock.is (c.next_block.ensures.told (server_with c.args.look held chunks) c.in-NextBlock.field-0 held chunks to so)
