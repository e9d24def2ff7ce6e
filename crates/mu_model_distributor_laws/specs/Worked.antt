-- Worked rows: a distributor's receivers and images.
use Rattle.std.specs.Prelude.{◌≡◌, ◌++◌, [], ◌∷◌, map}
use Rattle.mu_model_node.specs.Worked.{image_abc}
use Rattle.mu_model_distributor.specs.DistState.{DistState}
use Rattle.mu_model_distributor.specs.DistEvents.{stocked}
use Rattle.mu_model_distributor_laws.specs.Scenes.{empty_one, stocked_one, said, answers, receivers_add, receivers_delete_all, receivers_get, capabilities_get, distribution_get, upload_get, id_at, firmware_get, firmware_get_by_index, firmware_delete, firmware_delete_all, receivers_status, idle_status, no_upload, capabilities}

-- a new distributor, and one that was given an image
pub record ReceiversAndImages : Type 0 where
  pub capabilities_new : answers empty_one [] capabilities_get ≡ capabilities 0x40 ∷ []
  pub capabilities_stocked : answers stocked_one [] capabilities_get ≡ capabilities 0x30 ∷ []
  pub by_index : answers stocked_one [] (firmware_get_by_index 0) ≡ ((0x83 ∷ 0x27 ∷ 0 ∷ 1 ∷ 0 ∷ 0 ∷ 0 ∷ []) ++ id_at 2) ∷ []
  pub no_index : answers stocked_one [] (firmware_get_by_index 1) ≡ (0x83 ∷ 0x27 ∷ 4 ∷ 1 ∷ 0 ∷ 1 ∷ 0 ∷ []) ∷ []
  pub by_id : answers stocked_one [] (firmware_get 2) ≡ ((0x83 ∷ 0x27 ∷ 0 ∷ 1 ∷ 0 ∷ 0 ∷ 0 ∷ []) ++ id_at 2) ∷ []
  pub not_found : answers stocked_one [] (firmware_get 3) ≡ ((0x83 ∷ 0x27 ∷ 4 ∷ 1 ∷ 0 ∷ 0xff ∷ 0xff ∷ []) ++ id_at 3) ∷ []
  pub upload : answers stocked_one [] upload_get ≡ no_upload 0 ∷ []
  pub distribution : answers stocked_one [] distribution_get ≡ idle_status 0 ∷ []
  pub added : answers stocked_one [] (receivers_add 0) ≡ receivers_status 0 1 ∷ []
  pub listed : answers stocked_one (said (receivers_add 0) ∷ []) receivers_get ≡ (0x83 ∷ 0x15 ∷ 1 ∷ 0 ∷ 0 ∷ 0 ∷ 2 ∷ 0 ∷ 5 ∷ 0 ∷ 0 ∷ []) ∷ []
  pub emptied : answers stocked_one (said (receivers_add 0) ∷ []) receivers_delete_all ≡ receivers_status 0 0 ∷ []
  pub deleted : answers stocked_one [] (firmware_delete 2) ≡ ((0x83 ∷ 0x27 ∷ 0 ∷ 0 ∷ 0 ∷ 0xff ∷ 0xff ∷ []) ++ id_at 2) ∷ []
  pub all_deleted : answers stocked_one [] firmware_delete_all ≡ (0x83 ∷ 0x27 ∷ 0 ∷ 0 ∷ 0 ∷ 0xff ∷ 0xff ∷ []) ∷ []
  -- images that are stocked use up the slots of a control page
  pub fresh : map (λ (s : DistState). s.fresh) (empty_one ∷ stocked_one ∷ stocked stocked_one image_abc ∷ stocked (stocked stocked_one image_abc) image_abc ∷ stocked (stocked (stocked stocked_one image_abc) image_abc) image_abc ∷ []) ≡ 0 ∷ 3 ∷ 2 ∷ 1 ∷ 0 ∷ []
