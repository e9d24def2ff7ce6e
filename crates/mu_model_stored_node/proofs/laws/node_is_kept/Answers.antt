use Rattle.mu_model_stored_node.proofs.Kept.{node_kept, images_stay, is_asked, none_left, first_comes, job_begins, job_drops, job_refused, job_goes, job_comes, job_verified, is_activated}
use Rattle.mu_model_stored_node.proofs.laws.node_is_kept.Goals as goal

pub returns-clause-kept : goal.returns-clause-kept
returns-clause-kept c s part note d state is = node_kept s part note d state is

pub returns-clause-images : goal.returns-clause-images
returns-clause-images c s bank entry content tag active images apart all = images_stay c.banks_change.ensures s bank entry content tag active images apart all

pub returns-clause-asked : goal.returns-clause-asked
returns-clause-asked c s tag active bank d j has is stored = is_asked s tag active bank d j has is stored

pub returns-clause-begins : goal.returns-clause-begins
returns-clause-begins c s p tag active bank d j state has is stored = job_begins c.banks_change.ensures s active bank d j state has p tag is stored

pub returns-clause-drops : goal.returns-clause-drops
returns-clause-drops c s tag active bank d j state has is was stored = job_drops c.banks_change.ensures s active bank d j state has tag is was stored

pub returns-clause-refused : goal.returns-clause-refused
returns-clause-refused c s tag active bank d j state has is was = job_refused c.banks_change.ensures s active bank d j state has tag is was

pub returns-clause-goes : goal.returns-clause-goes
returns-clause-goes c s tag active bank d j state has is was = job_goes c.banks_change.ensures s active bank d j state has tag is was

pub returns-clause-comes : goal.returns-clause-comes
returns-clause-comes c s tag active bank d j next state has is was o = job_comes c.banks_change.ensures s active bank d j state has tag next is was o

pub returns-clause-none_left : goal.returns-clause-none_left
returns-clause-none_left c s tag active bank d k is none = none_left s tag active bank d k is none

pub returns-clause-first : goal.returns-clause-first
returns-clause-first c s tag active bank d next k is none there apart o = first_comes s tag active bank d next k is none there apart o

pub returns-clause-verified : goal.returns-clause-verified
returns-clause-verified c s tag active bank d j state has is was full fit p begun size = job_verified c.banks_change.ensures s active bank d j state has c.blocks_of_jobs.ensures.cut tag is was full fit p begun size

pub returns-clause-activated : goal.returns-clause-activated
returns-clause-activated c s tag active bank d j state has is none stored = is_activated c.blocks_of_jobs.ensures.all s tag active bank d j state has is none stored
