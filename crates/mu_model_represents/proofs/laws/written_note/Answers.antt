use Rattle.mu_model_represents.proofs.NoteWritten.{is_written}
use Rattle.mu_model_represents.proofs.NodeWritten.{low_active}
use Rattle.mu_model_represents.proofs.laws.written_note.Goals as goal

pub returns : goal.returns
returns c note fits some few low = is_written c.metadata.ensures.read_back note (low_active note.active some few low) fits
