-- A distributor's note is no node's, and octets of a flash are one distributor at most.
use Rattle.std.proofs.Common.{◌≡◌, ⊎_elim, ℕ, List, sym, ◌∙◌, subst, arith}
use Rattle.std.specs.Prelude.{slice_index}
use Rattle.mu_model_flash.specs.Laws.{RangeLaws}
use Rattle.mu_model_record.specs.Store.{StoreState}
use Rattle.mu_model_record.specs.StoreLaws.{RepresentedStateIsOne}
use Rattle.mu_model_represents.specs.BlobPart.{note_part}
use Rattle.mu_model_represents.specs.Images.{BankIsOneImage}
use Rattle.mu_model_represents.specs.Laws.{BlobPartIsOne, NodeNotesAreOfTwoKinds}
use Rattle.mu_model_represents_distributor.specs.Laws.{OctetsAreOneDistributor, StoreIsNotBoth, OctetsAreNotBoth, OtherKindsAreNoDistributors}
use Rattle.mu_model_represents_distributor.specs.RepresentsDistributor.{IsDistributor}
use Rattle.mu_model_represents_distributor.proofs.DistributorOnce.{distributor_once}

module _ (kinds : NodeNotesAreOfTwoKinds) where
  pub not_both : StoreIsNotBoth
  not_both s d e h g =
      let two = g.2.is_record.note_octets.kind_at_0 in
      ⊎_elim (λ one. absurd (omega (arith, one, two))) (λ three. absurd (omega (arith, three, two))) (kinds s.present h.0 h.1 h.2.is_record)

  pub octets_not_both : RepresentedStateIsOne → OctetsAreNotBoth
  octets_not_both once image d e h g = not_both h.0 d e h.2 (subst (λ (s : StoreState). IsDistributor s e) (once image g.0 h.0 g.1 h.1) g.2)

module _ (job : BlobPartIsOne) (one : BankIsOneImage) (once : RepresentedStateIsOne) where
  pub octets_distributor : OctetsAreOneDistributor
  octets_distributor image d e h g = (distributor_once job one h.0 d e) h.2 (subst (λ (s : StoreState). IsDistributor s e) (once image g.0 h.0 g.1 h.1) g.2)

pub other_kinds : RangeLaws → OtherKindsAreNoDistributors
other_kinds ranges s other d h =
    let at : slice_index (note_part s.present.tag) 0 ≡ slice_index s.present.tag 64 = ranges.parts.get_part s.present.tag 64 1728 0 (omega arith) in
    other (sym at ∙ h.2.is_record.note_octets.kind_at_0)
