use Rattle.mu_distmsg.proofs.Entries.{room, fits_at}
use Rattle.mu_model_wire.specs.Distribution.{row_fields}
use Rattle.mu_distmsg.specs.View.{row_shown}
use Rattle.mu_distmsg.proofs.writing.put_rows.Goals as goal

pub put_row-requires-clause-room : goal.put_row-requires-clause-room
put_row-requires-clause-room c =
    room row_fields row_shown c.args.rows.now c.loop-row.row-index (record { address = 0; phase = 0; update_status = 0; transfer_status = 0; progress = 0; image_index = 0 }) c.args.out.now.items c.loop-row.out.items c.loop-row-test.true c.loop-row.invariant c.requires.room

pub put_row-requires-clause-fits : goal.put_row-requires-clause-fits
put_row-requires-clause-fits c =
    fits_at row_fields row_shown c.args.rows.now c.loop-row.row-index (record { address = 0; phase = 0; update_status = 0; transfer_status = 0; progress = 0; image_index = 0 }) c.loop-row-test.true c.requires.fits
