use Rattle.mu_model_cut_texts.proofs.Cuts.{node_cuts, dist_cuts}
use Rattle.mu_model_cut_texts.proofs.Texts.{texts_end}
use Rattle.mu_model_cut_texts.proofs.laws.boots_are_told.Goals as goal

pub returns-clause-ends : goal.returns-clause-ends
returns-clause-ends c = texts_end

pub returns-clause-nodes : goal.returns-clause-nodes
returns-clause-nodes c = node_cuts c.chunks_are_of_the_job.ensures c.flash_work.ensures.passed c.flash_work.ensures.left

pub returns-clause-distributors : goal.returns-clause-distributors
returns-clause-distributors c = dist_cuts c.flash_work-2.ensures.passed c.flash_work-2.ensures.left
