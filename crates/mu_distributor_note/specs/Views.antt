-- What is kept in memory of a note, as the definitions of its octets speak of it.
use Rattle.std.specs.Prelude.{List}
use Rattle.mu_distmsg.specs.declared.message.ReceiverRow.{ReceiverRow}
use Rattle.mu_model_represents_distributor.specs.DistributorNote.{DistributorNote}
use Rattle.mu_distributor_kept.specs.Views.{upload_phase, row_receivers}
use Rattle.mu_distributor_note.specs.declared.note.NoteHead.{NoteHead}

abbrev pub distributor_note : NoteHead → List ReceiverRow → DistributorNote
distributor_note n rows = record {
  phase = n.phase;
  upload = upload_phase n.upload;
  banks = n.banks.items;
  counter = n.counter;
  settings = n.settings;
  receivers = row_receivers rows;
  upload_ttl = n.upload_ttl;
  upload_meta = n.upload_meta;
}
