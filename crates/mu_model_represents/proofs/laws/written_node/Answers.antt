use Rattle.mu_model_represents.proofs.NodeMade.{node_made}
use Rattle.mu_model_represents.proofs.NodeWritten.{tags_written, read_back, old_read_back}
use Rattle.mu_model_represents.proofs.laws.written_node.Goals as goal

pub returns-clause-tag : goal.returns-clause-tag
returns-clause-tag c = tags_written

pub returns-clause-read_back : goal.returns-clause-read_back
returns-clause-read_back c s active bank d sound numbers keeps = (read_back s active bank d sound numbers keeps) c.metadata.ensures.read_back

pub returns-clause-old_read_back : goal.returns-clause-old_read_back
returns-clause-old_read_back c s active bank d sound numbers keeps = (old_read_back s active bank d sound numbers keeps) c.metadata.ensures.read_back

pub returns-clause-represented : goal.returns-clause-represented
returns-clause-represented c = node_made c.blocks-2.ensures.within c.metadata.ensures.read_back
