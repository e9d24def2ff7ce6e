use Rattle.mu_model_jobs.proofs.Parts.{new_part, part_read, rules_stay, begin_rules, given_up, seal_rules, release_rules, another_rules}
use Rattle.mu_model_jobs.proofs.laws.parts.Goals as goal

pub returns-clause-new_part : goal.returns-clause-new_part
returns-clause-new_part c part tag fits a_tag = new_part c.blob_parts.ensures.read_back part tag fits a_tag

pub returns-clause-read : goal.returns-clause-read
returns-clause-read c part octets is = part_read part octets is

pub returns-clause-tagged : goal.returns-clause-tagged
returns-clause-tagged c s part tag h = rules_stay s part tag h

pub returns-clause-another : goal.returns-clause-another
returns-clause-another c s j tag none has least most bank = another_rules s j tag none has least most bank

pub returns-clause-dropped : goal.returns-clause-dropped
returns-clause-dropped c s tag none = none

pub returns-clause-begun : goal.returns-clause-begun
returns-clause-begun c s j p tag is h = begin_rules s j p tag is h

pub returns-clause-emptied : goal.returns-clause-emptied
returns-clause-emptied c s j tag is there was = given_up s j tag is there was

pub returns-clause-sealed : goal.returns-clause-sealed
returns-clause-sealed c s j p meta octets tag is h has size least most = seal_rules s j p meta octets tag is h has size least most

pub returns-clause-released : goal.returns-clause-released
returns-clause-released c s j named tag h stays = release_rules s j named tag h stays
