-- What is shown under a name is found again.
use Rattle.std.proofs.Common.{◌≡◌, Bool, true, false, eqb, cond, [], ◌∷◌, Option, Some, None, refl}
use Rattle.std.specs.Option.{option_or}
use Rattle.std.proofs.lemmas.Bool.{eq-eqb}
use Rattle.mu_model_wire.specs.Fields.{number, octets}
use Rattle.mu_model_wire.specs.Found.{number_of, octets_of, NumbersAreFound, OctetsAreFound, OptionalNumberIsFound, OptionalNumberHasOneName}

cond_or : {A : Type 0} (b : Bool) (x : A) (y z : Option A) → cond b (Some x) (option_or y z) ≡ option_or (cond b (Some x) y) z
cond_or true x y z = refl
cond_or false x y z = refl

pub numbers : NumbersAreFound
numbers name [] ys = refl
numbers name (number n v ∷ xs) ys = rw (numbers name xs ys) (cond_or (eqb n name) v (number_of name xs) (number_of name ys))
numbers name (octets n os ∷ xs) ys = numbers name xs ys

pub octets_found : OctetsAreFound
octets_found name [] ys = refl
octets_found name (number n v ∷ xs) ys = octets_found name xs ys
octets_found name (octets n os ∷ xs) ys = rw (octets_found name xs ys) (cond_or (eqb n name) os (octets_of name xs) (octets_of name ys))

pub own : OptionalNumberIsFound
own name None = refl
own name (Some v) = rw (eq-eqb name name refl) refl

pub other : OptionalNumberHasOneName
other n name None is = refl
other n name (Some v) is = rw is refl
