-- What can't be equal.
use Rattle.std.proofs.Common.{◌≡◌, true, false, Some, None}

pub true_false : true ≡ false → ⊥
true_false e = cc

pub some_none : {A : Type 0} {a : A} → Some a ≡ None → ⊥
some_none e = cc

pub none_some : {A : Type 0} {a : A} → None ≡ Some a → ⊥
none_some e = cc
