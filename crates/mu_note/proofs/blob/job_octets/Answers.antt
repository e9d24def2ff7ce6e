use Rattle.std.proofs.Common.{◌≡◌, ◌∙◌, refl}
use Rattle.byteorder.specs.Endian.{little_bytes}
use Rattle.mu_model_record.specs.Record.{zeros}
use Rattle.mu_note.proofs.blob.job_octets.Goals as goal

pub returns : goal.returns
unfolding zeros
returns c =
    let mtu : c.copy_from_slice.new.self ≡ little_bytes 2 c.mtu_of.result = c.copy_from_slice.ensures.after ∙ c.to_le_bytes-mtu.ensures in
    let id : c.copy_from_slice-2.new.self ≡ little_bytes 8 c.args.job.now.id = c.copy_from_slice-2.ensures.after ∙ c.to_le_bytes-id.ensures in
    let size : c.copy_from_slice-3.new.self ≡ little_bytes 4 c.args.job.now.size = c.copy_from_slice-3.ensures.after ∙ c.to_le_bytes-size.ensures in
    let base : c.copy_from_slice-4.new.self ≡ little_bytes 2 c.args.job.now.base = c.copy_from_slice-4.ensures.after ∙ c.to_le_bytes-base.ensures in
    rw (mtu, id, size, base, c.mode_of.ensures, c.mtu_of.ensures, c.log_of.ensures) refl
