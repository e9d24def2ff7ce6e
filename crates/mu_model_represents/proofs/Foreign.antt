-- What is foreign, and what isn't.
use Rattle.std.proofs.Common.{◌≡◌, inl, inr, ℕ, List, subst}
use Rattle.mu_model_record.specs.declared.Record.{Record}
use Rattle.mu_model_record.specs.Store.{StoreState}
use Rattle.mu_model_record.specs.Represents.{RepresentsStore}
use Rattle.mu_model_record.specs.StoreLaws.{OneThingIsFound, RepresentedIsFound, foreign, store}
use Rattle.mu_model_represents.specs.BlobPart.{IsNoBlobRecord}
use Rattle.mu_model_represents.specs.RepresentsNode.{IsNoNodeRecord}
use Rattle.mu_model_represents.specs.Boots.{IsForeignBy, RepresentedStoreIsFound, ServersAreNotForeign, NodesAreNotForeign}

module _ (one : OneThingIsFound) (is_found : RepresentedIsFound) where
  pub found_alone : RepresentedStoreIsFound
  found_alone image s represents = (
    λ other. (let both : foreign ≡ store s.present = one image foreign (store s.present) other (is_found s image represents) in cc both),
    λ r is. (let both : store r ≡ store s.present = one image (store r) (store s.present) is (is_found s image represents) in cc both),
  )

  not_foreign : (Fails : Record → Type 0) (s : StoreState) (image : List ℕ) → RepresentsStore s image → (Fails s.present → ⊥) → IsForeignBy Fails image → ⊥
  not_foreign Fails s image represents passes (inl other) = (found_alone image s represents).0 other
  not_foreign Fails s image represents passes (inr found) = passes (subst Fails ((found_alone image s represents).1 found.0 found.1) found.2)

  pub servers : ServersAreNotForeign
  servers image s part represents is = not_foreign IsNoBlobRecord s image represents (λ no. no part is)

  pub nodes : NodesAreNotForeign
  nodes image d h = not_foreign IsNoNodeRecord h.0 image h.1 (λ no. no h.2.0 h.2.1 h.2.2.is_record)
