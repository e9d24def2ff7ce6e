-- What is there, seen as something else.
use Rattle.std.specs.Prelude.{Option, Some, None}

abbrev pub there : {A B : Type 0} → (A → B) → Option A → Option B
there f None = None
there f (Some a) = Some (f a)
