-- The tables of the message grammar, each evaluated as one.
use Rattle.std.specs.Prelude.{◌≡◌, [], ◌∷◌, replicate}
use Rattle.mu_model_wire_rows.specs.Scenes.{AreSaid, AreJudged, AreCut, outcome, written, long}
use Rattle.mu_model_wire.specs.Reading.{message_at}
use Rattle.mu_model_wire.specs.Table.{rows}
use Rattle.mu_model_wire_rows.specs.BlobMessages as blob
use Rattle.mu_model_wire_rows.specs.UpdateMessages as update
use Rattle.mu_model_wire_rows.specs.DistributionMessages as distribution
use Rattle.mu_model_wire_rows.specs.Edges.{edges, lengths}

-- what each message says, and its octets again
pub record Messages : Type 0 where
  pub blob : AreSaid blob.messages
  pub update : AreSaid update.messages
  pub distribution : AreSaid distribution.messages
  -- reserved bits aren't looked at, and are written 0
  pub reserved : written (message_at rows (0x83 ∷ 0x01 ∷ 0x7f ∷ 7 ∷ 0 ∷ 0 ∷ 0 ∷ 0 ∷ 0 ∷ 1 ∷ 0 ∷ 3 ∷ 0 ∷ 0 ∷ 0 ∷ 0x0c ∷ 0x7c ∷ 1 ∷ [])) ≡ 0x83 ∷ 0x01 ∷ 0x40 ∷ 7 ∷ 0 ∷ 0 ∷ 0 ∷ 0 ∷ 0 ∷ 1 ∷ 0 ∷ 3 ∷ 0 ∷ 0 ∷ 0 ∷ 0x0c ∷ 0x7c ∷ 1 ∷ []
  pub reserved_in_status : written (message_at rows (0x83 ∷ 0x03 ∷ 0x34 ∷ 0 ∷ [])) ≡ 0x83 ∷ 0x03 ∷ 0x04 ∷ 0 ∷ []
  pub reserved_in_block : written (message_at rows (0x67 ∷ 0x74 ∷ 1 ∷ 0 ∷ 200 ∷ 0 ∷ [])) ≡ 0x67 ∷ 0x44 ∷ 1 ∷ 0 ∷ 200 ∷ 0 ∷ []
  pub reserved_in_limits : written (message_at rows (0x83 ∷ 0x07 ∷ 12 ∷ 14 ∷ 0 ∷ 8 ∷ 0x78 ∷ 1 ∷ 0 ∷ 0x10 ∷ 0 ∷ 0 ∷ 0x7c ∷ 1 ∷ 0xff ∷ [])) ≡ 0x83 ∷ 0x07 ∷ 12 ∷ 14 ∷ 0 ∷ 8 ∷ 0x78 ∷ 1 ∷ 0 ∷ 0x10 ∷ 0 ∷ 0 ∷ 0x7c ∷ 1 ∷ 3 ∷ []
  pub reserved_in_update : written (message_at rows (0x83 ∷ 0x10 ∷ 0x18 ∷ [])) ≡ 0x83 ∷ 0x10 ∷ 0 ∷ []
  pub reserved_in_start : written (message_at rows (0x83 ∷ 0x19 ∷ 0 ∷ 0 ∷ 5 ∷ 0 ∷ 0 ∷ 0xfd ∷ 0 ∷ 0 ∷ 0 ∷ 0xc0 ∷ [])) ≡ 0x83 ∷ 0x19 ∷ 0 ∷ 0 ∷ 5 ∷ 0 ∷ 0 ∷ 5 ∷ 0 ∷ 0 ∷ 0 ∷ 0xc0 ∷ []

pub record Refusals : Type 0 where
  -- where a message is cut, or has an octet more
  pub blob : AreCut blob.cuts
  pub update : AreCut update.cuts
  pub distribution : AreCut distribution.cuts
  -- at the ends of ranges and lengths
  pub edges : AreJudged edges
  pub lengths : AreJudged lengths
  -- 380 octets at most, before anything else is looked at
  pub longest : outcome (replicate 381 0xff) ≡ long 380
