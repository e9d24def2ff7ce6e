-- The ranges that the widths of a record give to the numbers of what a distributor keeps, as far as the rules on durable states don't.
use Rattle.std.specs.Prelude.{Option, Some, None}
use Rattle.mu_model_distributor.specs.DistState.{UploadJob, DistDurable, job_of}
use Rattle.mu_model_represents.specs.Numbers.{IsCount, HasMtu}

abbrev pub HasUploadMtu : Option UploadJob → Type 0
HasUploadMtu None = Unit {0}
HasUploadMtu (Some j) = HasMtu j.transfer.parameters

pub record HasDistributorNumbers (d : DistDurable) : Type 0 where
  pub count : IsCount d.count
  pub mtu : HasUploadMtu (job_of d.upload)
