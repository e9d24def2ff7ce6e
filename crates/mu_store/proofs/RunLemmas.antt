-- Runs of a store's states.
use Rattle.std.proofs.Common.{◌≡◌, Bool, IsTrue, Result, Ok, Err, IsErr, ℕ, zero, suc, List, [], ◌∷◌, ◌++◌, length, replicate, refl, sym, ◌∙◌, subst, arith}
use Rattle.std.proofs.lemmas.List.{length-replicate}
use Rattle.mu_model_flash.specs.Flash.{Seen, Unchanged}
use Rattle.mu_model_flash.specs.Run.{last_of, Keeps, Broke, Runs}
use Rattle.mu_model_record.specs.Ways.{Way, StateOf, reading_of}

pub told_on : (a b : Seen) → Keeps a b → IsTrue a.told → IsTrue b.told
told_on a b keeps told = subst (λ (x : Bool). IsTrue x) (sym keeps.told) told

pub told_back : (a b : Seen) → Keeps a b → IsTrue b.told → IsTrue a.told
told_back a b keeps told = subst (λ (x : Bool). IsTrue x) keeps.told told

pub unchanged_keeps : (a b : Seen) → Unchanged a b → Keeps a b
unchanged_keeps a b same = record { pages = same.pages; told = same.told; only_armed = same.only_armed; faults = same.faults }

pub unchanged_same : (a : Seen) → Unchanged a a
unchanged_same a = record { pages = refl; told = refl; octets = λ t. refl; clock = λ t. refl; left = λ t m c. (λ l. l, λ l. l); armed = refl; off = refl; only_armed = refl; faults = omega arith }

pub still_told : (a b : Seen) → Unchanged a b → IsTrue a.told → IsTrue b.told
still_told a b same told = subst (λ (x : Bool). IsTrue x) (sym same.told) told

-- what a `?` hands on
pub broke_runs : {T X : Type 0} (way : Way) (s : StateOf way) (xs : List (StateOf way)) (a b : Seen) (result : Result T X) → IsErr result → Broke (reading_of way) s xs a b → Runs (reading_of way) s xs a b result
broke_runs way s xs a b (Ok v) err broke = absurd (cc err)
broke_runs way s xs a b (Err e) err broke = broke

-- the state after all
pub last_append : {S : Type 0} (s : S) (xs ys : List S) → last_of s (xs ++ ys) ≡ last_of (last_of s xs) ys
last_append s [] ys = refl
last_append s (x ∷ xs) ys = last_append x xs ys

-- the same state, so many times
pub last_same : {S : Type 0} (d : S) (n : ℕ) → last_of d (replicate n d) ≡ d
last_same d zero = refl
last_same d (suc n) = last_same d n

pub length_same : {S T : Type 0} (d : S) (e : T) (n : ℕ) → length (replicate n d) ≡ length (replicate n e)
length_same d e n = length-replicate n d ∙ sym (length-replicate n e)
