-- The kinds of notes, and octets of a flash.
use Rattle.std.proofs.Common.{◌≡◌, ◌⊎◌, inl, inr, ⊎_elim, ℕ, List, sym, ◌∙◌, subst, arith}
use Rattle.std.specs.Prelude.{slice_index}
use Rattle.mu_model_flash.specs.Laws.{RangeLaws}
use Rattle.mu_model_record.specs.Store.{StoreState}
use Rattle.mu_model_record.specs.StoreLaws.{RepresentedStateIsOne}
use Rattle.mu_model_node.specs.NodeState.{NodeDurable}
use Rattle.mu_model_represents.specs.BlobPart.{note_part}
use Rattle.mu_model_represents.specs.NodeNote.{NodeNote, SpellsNote, SpellsOldNote}
use Rattle.mu_model_represents.specs.RepresentsNode.{IsNode, RepresentsNode}
use Rattle.mu_model_represents.specs.Laws.{NodeNotesAreOfTwoKinds, OtherKindsAreNoNodes}
use Rattle.mu_model_represents.proofs.NodeOnce.{node_once}

pub kind_of : (note : NodeNote) (octets : List ℕ) → SpellsNote note octets ⊎ SpellsOldNote note octets → (slice_index octets 0 ≡ 1) ⊎ (slice_index octets 0 ≡ 3)
kind_of note octets (inl h) = inr h.kind_at_0
kind_of note octets (inr h) = inl h.kind_at_0

pub two_kinds : NodeNotesAreOfTwoKinds
two_kinds r part note is = kind_of note (note_part r.tag) is.note_octets.spells

module _ (ranges : RangeLaws) where
  pub other_kinds : OtherKindsAreNoNodes
  other_kinds s one three d h =
      let at : slice_index (note_part s.present.tag) 0 ≡ slice_index s.present.tag 64 = ranges.parts.get_part s.present.tag 64 1728 0 (omega arith) in
      ⊎_elim (λ is. one (sym at ∙ is)) (λ is. three (sym at ∙ is)) (two_kinds s.present h.0 h.1 h.2.is_record)

module _ (once : RepresentedStateIsOne) (image : List ℕ) where
  pub octets_node : (d e : NodeDurable) → RepresentsNode d image → RepresentsNode e image → d ≡ e
  octets_node d e h g = node_once h.0 d e h.2 (subst (λ (s : StoreState). IsNode s e) (once image g.0 h.0 g.1 h.1) g.2)
