-- What is foreign to a distributor, and what isn't.
use Rattle.std.proofs.Common.{◌≡◌, inl, inr, ⊎_elim, ℕ, Option, subst, arith}
use Rattle.mu_model_record.specs.declared.Record.{Record}
use Rattle.mu_model_record.specs.StoreLaws.{RepresentedIsFound}
use Rattle.mu_model_represents.specs.BlobPart.{BlobJob}
use Rattle.mu_model_represents.specs.Boots.{RepresentedStoreIsFound}
use Rattle.mu_model_represents.specs.Laws.{NodeNotesAreOfTwoKinds}
use Rattle.mu_model_represents.specs.NodeNote.{NodeNote}
use Rattle.mu_model_represents.specs.RepresentsNode.{IsNodeRecord}
use Rattle.mu_model_represents_distributor.specs.Boots.{DistributorsAreNotForeign, OthersAreForeign}
use Rattle.mu_model_represents_distributor.specs.DistributorNote.{DistributorNote}
use Rattle.mu_model_represents_distributor.specs.RepresentsDistributor.{IsDistributorRecord, IsNoDistributorRecord}

pub distributors : RepresentedStoreIsFound → DistributorsAreNotForeign
distributors found image d h foreign =
    let alone = found image h.0 h.1 in
    ⊎_elim (λ other. alone.0 other) (λ no. subst IsNoDistributorRecord (alone.1 no.0 no.1) no.2 h.2.0 h.2.1 h.2.2.is_record) foreign

two_kinds : NodeNotesAreOfTwoKinds → (r : Record) (p q : Option BlobJob) (note : NodeNote) (n : DistributorNote) → IsNodeRecord r p note → IsDistributorRecord r q n → ⊥
two_kinds kinds r p q note n h g =
    let two = g.note_octets.kind_at_0 in
    ⊎_elim (λ one. absurd (omega (arith, one, two))) (λ three. absurd (omega (arith, three, two))) (kinds r p note h)

pub others : NodeNotesAreOfTwoKinds → RepresentedIsFound → OthersAreForeign
others kinds is_found image = (
  λ d h. inr (h.0.present, is_found h.0 image h.1, λ q n g. two_kinds kinds h.0.present h.2.0 q h.2.1 n h.2.2.is_record g),
  λ d h. inr (h.0.present, is_found h.0 image h.1, λ q note g. two_kinds kinds h.0.present q h.2.0 note h.2.1 g h.2.2.is_record),
)
