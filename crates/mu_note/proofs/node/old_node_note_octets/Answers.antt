use Rattle.std.proofs.Common.{◌≡◌, ◌∙◌, ◌++◌, ◌∷◌, ℕ, List}
use Rattle.std.specs.Option.{option_map}
use Rattle.mu_model_record.specs.Record.{zeros}
use Rattle.mu_model_represents.specs.NodeNote.{job_octets}
use Rattle.mu_note.specs.Views.{active_banks, note_job}
use Rattle.mu_note.proofs.Notes.{first_is}
use Rattle.mu_note.proofs.node.old_node_note_octets.Goals as goal

pub returns : goal.returns
unfolding zeros
returns c =
    let job : c.copy_from_slice.new.self ≡ job_octets (option_map note_job c.args.note.now.job) = c.copy_from_slice.ensures.after ∙ c.job_octets.ensures in
    let banks : List ℕ = active_banks c.args.note.now.active in
    λ i. 1 ∷ (c.first_of.ensures ∙ first_is banks) i ∷ (job i ++ zeros 1684)
