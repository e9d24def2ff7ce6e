-- A record that is no node's.
use Rattle.std.proofs.Common.{◌≡◌, ◌∙◌, Option, sym, subst}
use Rattle.mu_model_record.specs.declared.Record.{Record}
use Rattle.mu_model_represents.specs.BlobPart.{BlobJob, note_part, IsBlobRecord}
use Rattle.mu_model_represents.specs.Laws.{BlobPartIsOne}
use Rattle.mu_model_represents.specs.NodeNote.{NodeNote, IsNodeNote}
use Rattle.mu_model_represents.specs.RepresentsNode.{IsNoNodeRecord}
use Rattle.mu_model_stored_node.specs.NodeIn.{NoteIsRead}
use Rattle.mu_node.specs.Rules.{HasRules}

-- its two parts say this, and don't go with it
pub no_rules : (parts : BlobPartIsOne) (notes : NoteIsRead) (r : Record) (part : Option BlobJob) (note : NodeNote) → IsBlobRecord r part → IsNodeNote r.number note (note_part r.tag)
    → (HasRules r part note → ⊥) → IsNoNodeRecord r
no_rules parts notes r part note blob octets never p n is =
    let same : p ≡ part = parts r p part is.blob blob in
    let alike : n ≡ note = sym (notes r.number n (note_part r.tag) is.note_octets) ∙ notes r.number note (note_part r.tag) octets in
    let rules : HasRules r p n = (is.active_differ, is.active_sealed, is.job) in
    never (subst (λ q. HasRules r part q) alike (subst (λ q. HasRules r q n) same rules))
