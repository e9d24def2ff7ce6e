use Rattle.mu_model_stored_distributor.proofs.Kept.{distributor_kept, upload_stays, none_left, first_comes, begins, goes, comes, is_stored, is_stocked, are_released, takes_block}
use Rattle.mu_model_stored_distributor.proofs.laws.distributor_is_kept.Goals as goal

pub returns-clause-kept : goal.returns-clause-kept
returns-clause-kept c s part n d state is = distributor_kept s part n d state is

pub returns-clause-stays : goal.returns-clause-stays
returns-clause-stays c s tag d e keeps is after = upload_stays s tag d e keeps is after

pub returns-clause-none_left : goal.returns-clause-none_left
returns-clause-none_left c s tag d e keeps is none after = none_left s tag d e keeps is none after

pub returns-clause-first : goal.returns-clause-first
returns-clause-first c s tag d e next keeps is none free o after = first_comes s tag d e keeps is next none free o after

pub returns-clause-begins : goal.returns-clause-begins
returns-clause-begins c s p tag d e j state has is after = begins c.banks_change.ensures s d e j state has p tag is after

pub returns-clause-goes : goal.returns-clause-goes
returns-clause-goes c s tag d e j state has is was after = goes c.banks_change.ensures s d e j state has tag is was after

pub returns-clause-comes : goal.returns-clause-comes
returns-clause-comes c s tag d e j next state has is was free o after = comes c.banks_change.ensures s d e j state has tag next is was free o after

pub returns-clause-is_stored : goal.returns-clause-is_stored
returns-clause-is_stored c s meta octets tag d e j state has is was after = is_stored c.banks_change.ensures s d e j state has meta octets tag is was after

pub returns-clause-block : goal.returns-clause-block
returns-clause-block c s i octets d e j state has takes after = takes_block c.blocks_of_jobs.ensures.images c.blocks_of_jobs.ensures.put s i octets d e j state has takes after

pub returns-clause-stocked : goal.returns-clause-stocked
returns-clause-stocked c s bank meta octets tag d e state keeps is there free none after = is_stocked c.banks_change.ensures s bank meta octets tag d e state keeps is there free none after

pub returns-clause-are_released : goal.returns-clause-are_released
returns-clause-are_released c s named tag d e keeps is un after = are_released c.banks_change.ensures s named tag d e keeps is un after
