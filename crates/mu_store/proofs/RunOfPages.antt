-- Pages that are erased or programmed one after the other.
use Rattle.std.proofs.Common.{◌≡◌, inl, ℕ, ◌+◌, ◌-◌, ◌<◌, ◌≤◌, IsTrue, List, [], ◌∷◌, ◌++◌, length, replicate, refl, sym, ◌∙◌, ap, subst, arith}
use Rattle.std.proofs.lemmas.List.{replicate_more, replicate-append-replicate}
use Rattle.mu_model_flash.specs.Bits.{written, SameOutside}
use Rattle.mu_model_flash.specs.Flash.{Seen}
use Rattle.mu_model_flash.specs.Run.{either, exact, Refines, Ran, Broke}
use Rattle.mu_model_flash.specs.Laws.{RunsJoin, RunsAreRead}
use Rattle.mu_model_record.specs.Turns.{StaysOutside}
use Rattle.mu_model_record.specs.Ways.{as_octets, outside, StateOf, reading_of}
use Rattle.mu_store.proofs.PartLemmas.{wider}
use Rattle.mu_store.specs.Known.{Known}

-- the same state so many times, once more, and so many times
once_then : (k n : ℕ) → (replicate k (tt {0}) ++ tt ∷ []) ++ replicate n tt ≡ replicate (k + 1 + n) tt
once_then k n = ap (λ (l : List (Unit {0})). l ++ replicate n tt) (replicate_more k tt) ∙ replicate-append-replicate (k + 1) n tt

-- one operation on a part of a range
module _ (known : Known) (o : List ℕ) (a b : Seen) (at n p : ℕ) (bytes : List ℕ) (from : at ≤ p) (to : p + length bytes ≤ at + n) (within : IsTrue a.told → p + length bytes ≤ length a.octets) (so_far : IsTrue a.told → SameOutside at n o a.octets) where
  stay : IsTrue a.told → (c : List ℕ) → SameOutside p (length bytes) a.octets c → SameOutside at n o c
  stay told c out = known.ranges.writes.outside_on at n o a.octets c (so_far told) (wider at n p (length bytes) a.octets c from to out)

  one_reads : IsTrue a.told → Refines exact (either (StaysOutside at n o)) a.octets (written a.octets p bytes ∷ []) tt (tt ∷ [])
  one_reads told = (
    λ c is. subst (λ (x : List ℕ). SameOutside at n o x) (sym is) (so_far told),
    λ c torn. inl (stay told c (known.ranges.torn.torn_outside a.octets p (length bytes) (within told) bytes refl c torn)),
    λ c is. subst (λ (x : List ℕ). SameOutside at n o x) (sym is) (stay told (written a.octets p bytes) (known.ranges.writes.outside_written a.octets p (length bytes) (within told) bytes refl)),
  )

  pub one_ran : RunsAreRead StateOf reading_of a b → Ran exact a.octets (written a.octets p bytes ∷ []) a b → Ran (either (StaysOutside at n o)) tt (tt ∷ []) a b
  one_ran reads ran = reads.ran as_octets (outside at n o) a.octets (written a.octets p bytes ∷ []) tt (tt ∷ []) refl one_reads ran

  pub one_broke : RunsAreRead StateOf reading_of a b → Broke exact a.octets (written a.octets p bytes ∷ []) a b → Broke (either (StaysOutside at n o)) tt (tt ∷ []) a b
  one_broke reads broke = reads.broke as_octets (outside at n o) a.octets (written a.octets p bytes ∷ []) tt (tt ∷ []) refl one_reads broke

  pub one_out : Ran exact a.octets (written a.octets p bytes ∷ []) a b → IsTrue a.told → SameOutside at n o b.octets
  one_out ran told = subst (λ (x : List ℕ). SameOutside at n o x) (sym (ran.ends told)) (stay told (written a.octets p bytes) (known.ranges.writes.outside_written a.octets p (length bytes) (within told) bytes refl))

-- the operations so far, and one more
module _ (o : List ℕ) (at n : ℕ) (i a b : Seen) (k : ℕ) (ran : Ran (either (StaysOutside at n o)) tt (replicate k tt) i a) where
  pub next_ran : RunsJoin StateOf reading_of i a b → Ran (either (StaysOutside at n o)) tt (tt ∷ []) a b → Ran (either (StaysOutside at n o)) tt (replicate (k + 1) tt) i b
  next_ran join one = subst (λ (l : List (Unit {0})). Ran (either (StaysOutside at n o)) tt l i b) (replicate_more k tt) (join.ran (outside at n o) tt (replicate k tt) (tt ∷ []) ran one)

  pub next_broke : RunsJoin StateOf reading_of i a b → RunsAreRead StateOf reading_of i b → (total : ℕ) → k < total → Broke (either (StaysOutside at n o)) tt (tt ∷ []) a b → Broke (either (StaysOutside at n o)) tt (replicate total tt) i b
  next_broke join reads total lt one =
      let rest : k + 1 + (total - (k + 1)) ≡ total = omega (arith, lt) in
      subst (λ (l : List (Unit {0})). Broke (either (StaysOutside at n o)) tt l i b) (once_then k (total - (k + 1)) ∙ ap (λ (m : ℕ). replicate m tt) rest)
      (reads.longer (outside at n o) tt (replicate k tt ++ tt ∷ []) (replicate (total - (k + 1)) tt) (join.broke (outside at n o) tt (replicate k tt) (tt ∷ []) ran one))
