-- Runs of typed states, one after the other.
use Rattle.std.specs.Prelude.{◌≡◌, List, ◌++◌, length, IsTrue, Result, Err}
use Rattle.mu_model_flash.specs.Flash.{Seen}
use Rattle.mu_model_flash.specs.Run.{Reading, last_of, Refines, Ran, Broke, Goes}

module _ {W F T E : Type 0} (State : W → Type 0) (reading : (way : W) → Reading (State way)) (seen : F → Seen) (value : T → F) (fault : E → F) (Kept : (way : W) → T → State way → Type 0) (ByFlash : E → Type 0) where
  -- a call of this type
  abbrev pub GoesOn : (way : W) → State way → List (State way) → F → Result T E → Type 0
  GoesOn way s steps a result = Goes (reading way) s steps (seen a) (λ t. seen (value t)) (λ e. seen (fault e)) (Kept way) ByFlash result

  pub record TypedRunsJoin : Type 0 where
    -- a run, and then a call from where it ended, are a call that goes through all their states
    pub joined : (way : W) (s : State way) (xs ys : List (State way)) (a b : F) (result : Result T E) → Ran (reading way) s xs (seen a) (seen b)
        → GoesOn way (last_of s xs) ys b result → GoesOn way s (xs ++ ys) a result
    -- a call that failed, and the calls that weren't made then, are one call that failed
    pub failed : (way : W) (s : State way) (xs ys : List (State way)) (a : F) (e : E) → (ByFlash e → Broke (reading way) s xs (seen a) (seen (fault e)))
        → GoesOn way s (xs ++ ys) a (Err e)
    -- a call through states of one kind is a call through the states of another that these are read as, operation by operation
    pub read : (way other : W) (s : State way) (xs : List (State way)) (t : State other) (ys : List (State other)) (a : F) (result : Result T E) → length xs ≡ length ys
        → (IsTrue (seen a).told → Refines (reading way) (reading other) s xs t ys) → ((v : T) → Kept way v (last_of s xs) → Kept other v (last_of t ys))
        → GoesOn way s xs a result → GoesOn other t ys a result
