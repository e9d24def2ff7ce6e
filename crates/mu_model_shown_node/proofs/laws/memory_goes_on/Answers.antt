use Rattle.mu_model_shown_node.proofs.Records.{next_shown, block_shown, activated_shown}
use Rattle.mu_model_shown_node.proofs.laws.memory_goes_on.Goals as goal

pub returns-clause-next : goal.returns-clause-next
returns-clause-next c m next d blocks shown is active held = next_shown m next d blocks shown is active held

pub returns-clause-block : goal.returns-clause-block
returns-clause-block c m next d blocks shown present note held = block_shown m next d blocks shown present note held

pub returns-clause-activated : goal.returns-clause-activated
returns-clause-activated c m next d j b n rules shown there part note stored counted pages banks active no_part no_job none = activated_shown m next d j b n rules shown there part note stored counted pages banks active no_part no_job none
