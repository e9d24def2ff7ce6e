-- Whether what a distributor keeps is the same, field by field.
use Rattle.std.specs.Prelude.{◌==◌, Bool, true, false, ◌&&◌, List, [], ◌∷◌, Option, Some, None, bytes_eq}
use Rattle.mu_model_node.specs.BlobServer.{Transfer}
use Rattle.mu_model_node.specs.BlobTable.{same_parameters}
use Rattle.mu_model_node.specs.UpdateTable.{same_meta}
use Rattle.mu_model_distributor.specs.Requests.{Settings}
use Rattle.mu_model_distributor.specs.DistState.{StoredImage, Receiver, UploadJob, Upload, NoUpload, Uploading, Broken, Uploaded, DistDurable, dist_number}

abbrev pub same_option : {A : Type 0} → (A → A → Bool) → Option A → Option A → Bool
same_option same None None = true
same_option same (Some a) (Some b) = same a b
same_option same _ _ = false

abbrev pub same_list : {A : Type 0} → (A → A → Bool) → List A → List A → Bool
same_list same [] [] = true
same_list same (a ∷ more) (b ∷ others) = same a b && same_list same more others
same_list same _ _ = false

abbrev pub same_settings : Settings → Settings → Bool
same_settings a b =
    (a.appkey == b.appkey) && (a.ttl == b.ttl) && (a.base == b.base) && (a.mode == b.mode) && (a.policy == b.policy) && (a.image == b.image)
    && (a.group == b.group)

abbrev pub same_receiver : Receiver → Receiver → Bool
same_receiver a b =
    (a.address == b.address) && (a.index == b.index) && (a.phase == b.phase) && (a.update_status == b.update_status)
    && (a.transfer_status == b.transfer_status)

abbrev pub same_image : StoredImage → StoredImage → Bool
same_image a b = (a.bank == b.bank) && same_meta a.image.meta b.image.meta && bytes_eq a.image.octets b.image.octets

abbrev pub same_transfer : Transfer → Transfer → Bool
same_transfer a b =
    (a.id == b.id) && (a.size == b.size) && (a.base == b.base) && same_option same_parameters a.parameters b.parameters
    && same_list (same_option bytes_eq) a.held b.held

abbrev pub same_job : UploadJob → UploadJob → Bool
same_job a b = (a.bank == b.bank) && same_transfer a.transfer b.transfer

abbrev pub same_upload : Upload → Upload → Bool
same_upload NoUpload NoUpload = true
same_upload (Uploading a) (Uploading b) = same_job a b
same_upload (Broken a) (Broken b) = same_option same_job a b
same_upload Uploaded Uploaded = true
same_upload _ _ = false

abbrev pub same_durable : DistDurable → DistDurable → Bool
same_durable a b =
    (a.count == b.count) && (a.capacity == b.capacity) && (dist_number a.phase == dist_number b.phase) && (a.counter == b.counter)
    && same_settings a.settings b.settings && same_list same_receiver a.receivers b.receivers && (a.upload_ttl == b.upload_ttl)
    && same_meta a.upload_meta b.upload_meta && same_upload a.upload b.upload && same_list same_image a.images b.images
