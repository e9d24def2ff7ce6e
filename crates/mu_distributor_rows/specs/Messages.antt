-- Requests in memory as the model's.
use Rattle.mu_model_distributor.specs.Requests.{UploadStart}
use Rattle.mu_distributor_rows.specs.declared.uploads.UploadStart.{UploadStart as UploadStartHere}

abbrev pub upload_start_of : UploadStartHere → UploadStart
upload_start_of u = record { ttl = u.ttl; base = u.base; id = u.id; size = u.size; metadata = u.metadata.now; fwid = u.fwid.now }
