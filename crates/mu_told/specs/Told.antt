-- What an answer makes of a receiver, and the ranges of what is sent.
use Rattle.std.specs.Prelude.{ℕ, ◌≡◌, ◌≤◌, ◌<◌, length, List, [], ◌∷◌, Option, Some, None}
use Rattle.std.specs.Borrow.{Bor}
use Rattle.std.specs.Option.{option_map}
pub use Rattle.mu_model_client.specs.Places.{StepFits}
use Rattle.mu_model_node.specs.UpdateMessages.{ShownJob}
use Rattle.mu_model_wire.specs.Limits.{most_chunk}
use Rattle.mu_model_image.specs.Sizes.{most_image}
use Rattle.mu_model_client.specs.Answers.{Limits}
use Rattle.mu_model_client.specs.Client.{Receiver, Step, Block, Chunks, Pull, Get, block_total}
use Rattle.mu_model_client.specs.declared.Sending.{Sending}
use Rattle.mu_receivers.specs.Receivers.{receiver_of}
use Rattle.mu_receivers.specs.Slots.{KeepsList, IsFew}
use Rattle.mu_receivers.specs.declared.slot.Slot.{Slot}
use Rattle.mu_told.specs.declared.information.Limits.{Limits as LimitsInCode}
use Rattle.mu_told.specs.declared.update.Shown.{Shown}

-- the receiver is what the model makes of it, and what lists have for it stays
pub record IsTold (f : Receiver → Receiver) (old new : Slot) : Type 0 where
  pub receiver : receiver_of new ≡ f (receiver_of old)
  pub list : KeepsList old new
  pub few : IsFew old → IsFew new

-- the chunks that a receiver wants are of a block with so many
abbrev pub WantsOf : ℕ → Receiver → Type 0
WantsOf n r = 0 < length r.wanted → length r.wanted ≡ n

-- the ranges of what is sent (this profile)
pub record IsSendable (p : Sending) : Type 0 where
  pub size_least : 1 ≤ p.size
  pub size_most : p.size ≤ most_image
  pub log_least : 12 ≤ p.log
  pub log_most : p.log ≤ 14
  pub chunk_least : 8 ≤ p.chunk
  pub chunk_most : p.chunk ≤ most_chunk

abbrev pub limits_of : LimitsInCode → Limits
limits_of l = record {
  least_log = l.least_log;
  most_log = l.most_log;
  most_chunks = l.most_chunks;
  most_chunk = l.most_chunk;
  most_size = l.most_size;
  mtu = l.mtu;
  push = l.push;
  pull = l.pull;
}

abbrev pub shown_of : Shown → ShownJob
shown_of s = record { ttl = s.ttl; base = s.base; id = s.id; index = s.index }

abbrev pub job_of : Option Shown → Option ShownJob
job_of job = option_map shown_of job

-- the Firmware IDs of an Information Status that begins with this one, or has none
abbrev pub ids_of : Option (Bor (List ℕ)) → List (List ℕ) → List (List ℕ)
ids_of None more = []
ids_of (Some id) more = id.now ∷ more
