-- What the rows of the table look at of what is in memory.
use Rattle.std.specs.Prelude.{ℕ, Bool, List, Option, length, take}
use Rattle.mu_model_image.specs.declared.Meta.{Meta}
use Rattle.mu_distributor_note.specs.declared.note.NoteHead.{NoteHead}
use Rattle.mu_distributor_rows.specs.declared.looks.UploadLook.{UploadLook}
use Rattle.mu_distributor_rows.specs.Looks.{Seen}

-- of so many receivers, with the octets of a bank and the job of the upload
abbrev pub look_seen : NoteHead → List Meta → Bool → ℕ → ℕ → Option UploadLook → Seen
look_seen head metas lags receivers capacity job = record {
  capacity = capacity;
  phase = head.phase;
  counter = head.counter;
  settings = head.settings;
  receivers = receivers;
  banks = head.banks.items;
  metas = take (length head.banks.items) metas;
  recorded = head.upload;
  lags = lags;
  job = job;
  upload_ttl = head.upload_ttl;
  upload_meta = head.upload_meta;
}
