-- Calls one after the other.
use Rattle.std.proofs.Common.{◌≡◌, List, [], ◌∷◌, ◌++◌, length, refl, sym, subst}
use Rattle.std.specs.Prelude.{IsTrue, Result, Ok, Err}
use Rattle.mu_model_flash.specs.Flash.{Seen}
use Rattle.mu_model_flash.specs.Laws.{RunLaws}
use Rattle.mu_model_flash.specs.Run.{Reading, last_of, Refines, Ran, Broke}
use Rattle.mu_model_typed.specs.Joins.{GoesOn, TypedRunsJoin}

module _ {W F T E : Type 0} (State : W → Type 0) (reading : (way : W) → Reading (State way)) (seen : F → Seen) (value : T → F) (fault : E → F) (Kept : (way : W) → T → State way → Type 0) (ByFlash : E → Type 0) (law : RunLaws State reading seen) where
  last_append : (way : W) (s : State way) (xs ys : List (State way)) → last_of s (xs ++ ys) ≡ last_of (last_of s xs) ys
  last_append way s [] ys = refl
  last_append way s (x ∷ xs) ys = last_append way x xs ys

  both : (way : W) (s : State way) (xs ys : List (State way)) (a b : F) (result : Result T E) → Ran (reading way) s xs (seen a) (seen b)
      → GoesOn State reading seen value fault Kept ByFlash way (last_of s xs) ys b result → GoesOn State reading seen value fault Kept ByFlash way s (xs ++ ys) a result
  both way s xs ys a b (Ok t) ran goes =
      ((law.join a b (value t)).ran way s xs ys ran goes.0, subst (λ (e : State way). Kept way t e) (sym (last_append way s xs ys)) goes.1)
  both way s xs ys a b (Err e) ran goes = λ by. (law.join a b (fault e)).broke way s xs ys ran (goes by)

  read_as : (way other : W) (s : State way) (xs : List (State way)) (t : State other) (ys : List (State other)) (a : F) (result : Result T E) → length xs ≡ length ys
      → (IsTrue (seen a).told → Refines (reading way) (reading other) s xs t ys) → ((v : T) → Kept way v (last_of s xs) → Kept other v (last_of t ys))
      → GoesOn State reading seen value fault Kept ByFlash way s xs a result → GoesOn State reading seen value fault Kept ByFlash other t ys a result
  read_as way other s xs t ys a (Ok v) long refines keeps goes = ((law.read a (value v)).ran way other s xs t ys long refines goes.0, keeps v goes.1)
  read_as way other s xs t ys a (Err e) long refines keeps goes = λ by. (law.read a (fault e)).broke way other s xs t ys long refines (goes by)

  pub join : TypedRunsJoin State reading seen value fault Kept ByFlash
  join = record {
    joined = both;
    failed = λ way s xs ys a e broke by. (law.read a (fault e)).longer way s xs ys (broke by);
    read = read_as;
  }
