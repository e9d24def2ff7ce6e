-- The banks that images and uploads take: the lowest that is empty.
use Rattle.std.specs.Prelude.{ℕ, ◌≡◌, [], ◌∷◌, map, Option, Some}
use Rattle.std.specs.Option.{option_map}
use Rattle.mu_model_distributor.specs.DistState.{StoredImage, UploadJob, DistState, job_of}
use Rattle.mu_model_distributor_rows.specs.Scenes.{firmware_delete, upload_start, after, ready, of_three, uploading}

abbrev pub upload_bank : DistState → Option ℕ
upload_bank s = option_map (λ (j : UploadJob). j.bank) (job_of s.durable.upload)

pub record EachBank : Type 0 where
  pub one : map (λ (x : StoredImage). x.bank) ready.durable.images ≡ 0 ∷ []
  pub three : map (λ (x : StoredImage). x.bank) of_three.durable.images ≡ 0 ∷ 1 ∷ 2 ∷ []
  pub next : upload_bank uploading ≡ Some 1
  pub last : upload_bank (after of_three (upload_start 5 5 7 ∷ [])) ≡ Some 3
  -- one that a deletion has emptied
  pub emptied : upload_bank (after of_three (firmware_delete 2 ∷ upload_start 5 5 7 ∷ [])) ≡ Some 0
  pub emptied_second : upload_bank (after of_three (firmware_delete 3 ∷ upload_start 5 5 7 ∷ [])) ≡ Some 1
