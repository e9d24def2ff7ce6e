-- The numbers of an update that is taken are those of their types.
use Rattle.std.specs.Prelude.{◌<◌, ◌^◌}
use Rattle.mu_update_rows.specs.declared.table.NewJob.{NewJob}

pub record HasNumbers (what : NewJob) : Type 0 where
  pub id : what.id < 2 ^ 64
  pub index : what.index < 256
  pub ttl : what.ttl < 256
  pub base : what.base < 2 ^ 16
