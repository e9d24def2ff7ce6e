-- What calls append to an output, where its octets are told.
use Rattle.std.specs.Prelude.{ℕ, ◌++◌, Option, List, Result}
use Rattle.std.specs.Result.{OnOk, OnErr}
use Rattle.mu_model_flash.specs.Cause.{HasCause}
use Rattle.mu_model_flash.specs.declared.Failed.{Failed}
pub use Rattle.mu_outside.specs.Written.{Wrote, WroteSome}

-- All of the text was appended, or a beginning of it and then the output failed. The counts are those of its faults.
pub record Writes {A : Type 0} (old new : Option (List ℕ)) (before now : ℕ) (result : Result A Failed) (text : List ℕ) : Type 0 where
  pub ok : OnOk result (Wrote old new text)
  pub err : OnErr result (WroteSome old new text)
  pub cause : HasCause before now result

-- a call that is told how the calls before it went wrote this text behind theirs, and nothing once one had failed
pub record Adds {A : Type 0} (old new : Option (List ℕ)) (before now : ℕ) (so_far result : Result A Failed) (text : List ℕ) : Type 0 where
  pub adds : (start : Option (List ℕ)) (begin : ℕ) (earlier : List ℕ) → Writes start old begin before so_far earlier → Writes start new begin now result (earlier ++ text)
