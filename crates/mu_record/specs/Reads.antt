-- A call that reads alone.
use Rattle.std.specs.Prelude.{◌≡◌, true, IsTrue, Result, OnErr}
use Rattle.mu_model_flash.specs.Cause.{HasCause}
use Rattle.mu_model_flash.specs.Flash.{Seen, Unchanged}

-- No meaning has changed but the count of faults. The call fails only where that count rose and, where calls fail by an armed operation alone,
-- with the power off.
pub record ReadsOnly {T E : Type 0} (old new : Seen) (result : Result T E) : Type 0 where
  pub same : Unchanged old new
  pub cause : HasCause old.faults new.faults result
  pub off : OnErr result (IsTrue old.only_armed → new.off ≡ true)
