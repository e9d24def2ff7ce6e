-- What comes after a step, and the ranges of its block.
use Rattle.std.specs.Prelude.{ℕ, Bool, true, false, Option, Some, None}
use Rattle.mu_model_client.specs.declared.Sending.{Sending}
use Rattle.mu_model_client.specs.Client.{Step, Chunks, Pull, Place, At}
use Rattle.mu_model_client.specs.Going.{Next, Go, Rests, Ends}
pub use Rattle.mu_model_client.specs.Places.{PlaceFits}
use Rattle.mu_told.specs.Told.{StepFits}
use Rattle.mu_rounds.specs.declared.after.Next.{Next as NextHere}
use Rattle.mu_rounds.specs.declared.after.Next.TheVariants as here

abbrev pub next_of : NextHere → Next
next_of (here.Go step) = Go step
next_of here.Rests = Rests
next_of (here.Ends part) = Ends part

abbrev pub NextFits : Sending → NextHere → Type 0
NextFits p (here.Go step) = StepFits p step
NextFits p _ = Unit {0}

-- the block whose chunks a step sends
abbrev pub chunk_block : Step → Option ℕ
chunk_block (Chunks b) = Some b
chunk_block (Pull b) = Some b
chunk_block _ = None

abbrev pub block_at : Place → Option ℕ
block_at (At step) = chunk_block step
block_at _ = None

abbrev pub is_chunk_step : Step → Bool
is_chunk_step (Chunks b) = true
is_chunk_step _ = false
