use Rattle.std.proofs.Common.{◌≡◌, ◌∙◌, ◌++◌, ◌∷◌, ℕ, List, length, ap, rules}
use Rattle.std.specs.Option.{option_map}
use Rattle.mu_model_record.specs.Record.{zeros}
use Rattle.mu_model_represents.specs.NodeNote.{job_octets}
use Rattle.mu_note.specs.Views.{active_banks, note_job}
use Rattle.mu_note.proofs.Notes.{first_is, second_is, placed}
use Rattle.mu_note.proofs.node.node_note_octets.Goals as goal

pub returns : goal.returns
unfolding zeros
returns c =
    let job : c.copy_from_slice.new.self ≡ job_octets (option_map note_job c.args.note.now.job) = c.copy_from_slice.ensures.after ∙ c.job_octets.ensures in
    let size : length c.job_octets.result ≡ 42 = search rules in
    let long : length c.copy_from_slice.new.self ≡ 42 = ap (length {A = ℕ}) c.copy_from_slice.ensures.after ∙ size in
    let banks : List ℕ = active_banks c.args.note.now.active in
    ap (λ (l : List ℕ). 3 ∷ c.first_of.result ∷ l) (placed c.copy_from_slice.new.self (zeros 1682) c.second_of.result c.index_of.result long)
    ∙ (λ i. 3 ∷ (c.first_of.ensures ∙ first_is banks) i ∷ (job i ++ ((c.second_of.ensures ∙ second_is banks) i ∷ c.index_of.ensures i ∷ zeros 1682)))
