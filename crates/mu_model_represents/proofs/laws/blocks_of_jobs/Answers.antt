use Rattle.mu_model_represents.proofs.Puts.{held_cut, cut_held, block_put, image_held, node_block}
use Rattle.mu_model_represents.proofs.laws.blocks_of_jobs.Goals as goal

pub returns-clause-cut : goal.returns-clause-cut
returns-clause-cut c = held_cut c.blocks-2.ensures.within

pub returns-clause-all : goal.returns-clause-all
returns-clause-all c = cut_held c.blocks-2.ensures.joined

pub returns-clause-put : goal.returns-clause-put
returns-clause-put c = block_put

pub returns-clause-node : goal.returns-clause-node
returns-clause-node c = node_block

pub returns-clause-images : goal.returns-clause-images
returns-clause-images c = image_held
