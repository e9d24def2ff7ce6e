use Rattle.mu_blob_answers.proofs.Written.{no_parameters}
use Rattle.mu_blob_answers.proofs.writing.transfer.Goals as goal

pub returns-in-None : goal.returns-in-None
returns-in-None c =
    rw (c.in-None.is, no_parameters c.args.phase c.args.parameters (rw c.in-None.is at c.requires.shows)) (c.inactive.ensures c.args.missing.now)

pub returns-in-None-parameters : goal.returns-in-None-parameters
returns-in-None-parameters c = rw (c.in-Some.is, c.in-None-parameters.is) (c.waiting.ensures c.args.missing.now)
