use Rattle.std.proofs.Common.{[]}
use Rattle.mu_updmsg.proofs.Entries.{room, fits_at}
use Rattle.mu_model_wire.specs.Update.{entry_fields}
use Rattle.mu_updmsg.specs.View.{entry_shown}
use Rattle.mu_updmsg.proofs.writing.put_entries.Goals as goal

pub put_entry-requires-clause-room : goal.put_entry-requires-clause-room
put_entry-requires-clause-room c =
    room entry_fields entry_shown c.args.entries.now c.loop-entry.entry-index (record { id = record { ref_ptr = (0, 0); now = [] }; uri = record { ref_ptr = (0, 0); now = [] } }) c.args.out.now.items c.loop-entry.out.items c.loop-entry-test.true c.loop-entry.invariant c.requires.room

pub put_entry-requires-clause-fits : goal.put_entry-requires-clause-fits
put_entry-requires-clause-fits c =
    fits_at entry_fields entry_shown c.args.entries.now c.loop-entry.entry-index (record { id = record { ref_ptr = (0, 0); now = [] }; uri = record { ref_ptr = (0, 0); now = [] } }) c.loop-entry-test.true c.requires.fits
