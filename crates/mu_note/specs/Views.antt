-- What is kept in memory of a tag, as the definitions of its octets speak of it.
use Rattle.std.specs.Prelude.{ℕ, List, [], ◌∷◌}
use Rattle.std.specs.Option.{option_map}
use Rattle.mu_model_represents.specs.BlobPart.{BlobJob as PartJob}
use Rattle.mu_model_represents.specs.NodeNote.{NodeNote as NoteOfNode, NoteJob as JobOfNote}
use Rattle.mu_note.specs.declared.blob.BlobJob.{BlobJob}
use Rattle.mu_note.specs.declared.node.Active.{Active}
use Rattle.mu_note.specs.declared.node.Active.TheVariants.{One, Two}
use Rattle.mu_note.specs.declared.node.NoteJob.{NoteJob}
use Rattle.mu_note.specs.declared.node.NodeNote.{NodeNote}

abbrev pub part_job : BlobJob → PartJob
part_job j = record { id = j.id; size = j.size; base = j.base; bank = j.bank; parameters = j.parameters }

abbrev pub active_banks : Active → List ℕ
active_banks (One a) = a ∷ []
active_banks (Two a b) = a ∷ b ∷ []

abbrev pub note_job : NoteJob → JobOfNote
note_job j = record { stored = j.stored; ttl = j.ttl; meta = j.meta; index = j.index }

abbrev pub node_note : NodeNote → NoteOfNode
node_note n = record { active = active_banks n.active; job = option_map note_job n.job }
