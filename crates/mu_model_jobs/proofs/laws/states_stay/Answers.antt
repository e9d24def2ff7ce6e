use Rattle.mu_model_jobs.proofs.States.{tagged_state, bank_state, begun_state, emptied_state, sealed_state, released_state, block_state}
use Rattle.mu_model_jobs.proofs.laws.states_stay.Goals as goal

pub returns-clause-tagged : goal.returns-clause-tagged
returns-clause-tagged c s tag is last a_tag = tagged_state c.changes.ensures.records s tag is last a_tag

pub returns-clause-bank : goal.returns-clause-bank
returns-clause-bank c s bank entry content tag is last a_tag takes = bank_state c.changes.ensures.records s bank entry content tag is last a_tag takes

pub returns-clause-begun : goal.returns-clause-begun
returns-clause-begun c s bank size log tag is last a_tag can = begun_state c.changes.ensures.records s bank size log tag is last a_tag can

pub returns-clause-emptied : goal.returns-clause-emptied
returns-clause-emptied c s bank tag is last a_tag there = emptied_state c.changes.ensures.records s bank tag is last a_tag there

pub returns-clause-sealed : goal.returns-clause-sealed
returns-clause-sealed c s bank meta octets tag is last a_tag can = sealed_state c.changes.ensures.records s bank meta octets tag is last a_tag can

pub returns-clause-released : goal.returns-clause-released
returns-clause-released c s named tag is last a_tag = released_state c.changes.ensures.records s named tag is last a_tag

pub returns-clause-block : goal.returns-clause-block
returns-clause-block c s bank i octets is can = block_state s bank i octets is can
