-- Runs of calls that may fail.
use Rattle.std.proofs.Common.{Bool, IsTrue, Result, Ok, Err, IsErr, List, ◌++◌, sym, subst}
use Rattle.mu_model_flash.specs.Flash.{Seen}
use Rattle.mu_model_flash.specs.Run.{last_of, Keeps, Ran, Broke, Runs}
use Rattle.mu_model_flash.specs.Laws.{RunsJoin}
use Rattle.mu_model_record.specs.Ways.{Way, StateOf, reading_of}

pub told_on : (a b : Seen) → Keeps a b → IsTrue a.told → IsTrue b.told
told_on a b keeps told = subst (λ (x : Bool). IsTrue x) (sym keeps.told) told

pub told_back : (a b : Seen) → Keeps a b → IsTrue b.told → IsTrue a.told
told_back a b keeps told = subst (λ (x : Bool). IsTrue x) keeps.told told

module _ {T X : Type 0} (way : Way) (s : StateOf way) where
  -- what a `?` hands on
  pub broke_runs : (xs : List (StateOf way)) (a b : Seen) (result : Result T X) → IsErr result → Broke (reading_of way) s xs a b → Runs (reading_of way) s xs a b result
  broke_runs xs a b (Ok v) err broke = absurd (cc err)
  broke_runs xs a b (Err e) err broke = broke

  -- what a call keeps, done or not
  pub runs_keep : (xs : List (StateOf way)) (a b : Seen) (result : Result T X) → Runs (reading_of way) s xs a b result → Keeps a b
  runs_keep xs a b (Ok v) ran = ran.keeps
  runs_keep xs a b (Err e) broke = broke.keeps

  -- a run, and then a call
  pub then_runs : (xs ys : List (StateOf way)) (a b c : Seen) → RunsJoin StateOf reading_of a b c → (result : Result T X) → Ran (reading_of way) s xs a b → Runs (reading_of way) (last_of s xs) ys b c result → Runs (reading_of way) s (xs ++ ys) a c result
  then_runs xs ys a b c join (Ok v) first second = join.ran way s xs ys first second
  then_runs xs ys a b c join (Err e) first second = join.broke way s xs ys first second
