-- A message of any of the three models as a plain message.
use Rattle.mu_model_wire.specs.Fields.{Message as PlainMessage}
use Rattle.mu_model_wire.specs.Spelling.{Fits}
use Rattle.mu_model_wire.specs.Table.{rows}
use Rattle.mu_blobmsg.specs.View.{view as blob_view}
use Rattle.mu_updmsg.specs.View.{view as update_view}
use Rattle.mu_distmsg.specs.View.{view as distribution_view, IsEven as IsEvenOfDistribution}
use Rattle.mu_access.specs.declared.message.Message.{Message}
use Rattle.mu_access.specs.declared.message.Message.TheVariants.{Blob, Upd, Dist}

abbrev pub view : Message → PlainMessage
view (Blob m) = blob_view m
view (Upd m) = update_view m
view (Dist m) = distribution_view m

-- the progress of each row can be halved
abbrev pub IsEven : Message → Type 0
IsEven (Blob m) = Unit {0}
IsEven (Upd m) = Unit {0}
IsEven (Dist m) = IsEvenOfDistribution m

-- each field is in its range, and no progress is odd
pub record InRange (m : Message) : Type 0 where
  pub fits : Fits rows (view m)
  pub even : IsEven m
