-- What holds of ranges of octets, whole or torn, and of runs of flashes.
use Rattle.std.specs.Prelude.{◌≡◌, ◌⊎◌, ℕ, ◌+◌, ◌<◌, ◌≤◌, false, IsTrue, List, [], ◌∷◌, ◌++◌, length, slice_index, slice_range}
use Rattle.mu_model_flash.specs.Bits.{AreOctets, blank, written, part_of, SameOutside, Between}
use Rattle.mu_model_flash.specs.Flash.{Seen, IsSound, Unchanged}
use Rattle.mu_model_flash.specs.Patterns.{IsMade}
use Rattle.mu_model_flash.specs.Run.{Reading, last_of, Refines, Keeps, Ran, Broke}

-- Parts of octets.
pub record PartLaws : Type 0 where
  pub length_blank : (n : ℕ) → length (blank n) ≡ n
  pub get_blank : (n i : ℕ) → i < n → slice_index (blank n) i ≡ 255
  pub length_part : (octets : List ℕ) (at n : ℕ) → at + n ≤ length octets → length (part_of octets at n) ≡ n
  pub get_part : (octets : List ℕ) (at n i : ℕ) → i < n → slice_index (part_of octets at n) i ≡ slice_index octets (at + i)
  -- what a read gives
  pub range_part : (octets : List ℕ) (at n : ℕ) → slice_range octets at (at + n) ≡ part_of octets at n

-- A range that is written.
pub record WriteLaws : Type 0 where
  -- what was written is read back
  pub part_written : (old : List ℕ) (at n : ℕ) → at + n ≤ length old → (bytes : List ℕ) → length bytes ≡ n → part_of (written old at bytes) at n ≡ bytes
  pub written_inside : (old : List ℕ) (at : ℕ) (bytes : List ℕ) → at + length bytes ≤ length old → (i : ℕ) → i < length bytes → slice_index (written old at bytes) (at + i) ≡ slice_index bytes i
  -- all outside it is as it was
  pub outside_written : (old : List ℕ) (at n : ℕ) → at + n ≤ length old → (bytes : List ℕ) → length bytes ≡ n → SameOutside at n old (written old at bytes)
  -- so is a part that is apart from it
  pub part_outside : (old new : List ℕ) (at n : ℕ) → SameOutside at n old new → (p m : ℕ) → (p + m ≤ at) ⊎ (at + n ≤ p) → p + m ≤ length old → part_of new p m ≡ part_of old p m
  -- what stays outside a range stays so through more writes of it
  pub outside_same : (at n : ℕ) (octets : List ℕ) → SameOutside at n octets octets
  pub outside_on : (at n : ℕ) (a b c : List ℕ) → SameOutside at n a b → SameOutside at n b c → SameOutside at n a c
  -- nothing else changes
  pub same_whole : (old : List ℕ) (at n : ℕ) → at + n ≤ length old → (bytes new : List ℕ) → length bytes ≡ n → SameOutside at n old new → part_of new at n ≡ bytes → new ≡ written old at bytes
  -- what is written over it stands in its place
  pub written_twice : (old : List ℕ) (at : ℕ) (first second : List ℕ) → length first ≡ length second → at + length second ≤ length old → written (written old at first) at second ≡ written old at second
  pub octets_written : (old : List ℕ) (at : ℕ) (bytes : List ℕ) → at + length bytes ≤ length old → AreOctets old → AreOctets bytes → AreOctets (written old at bytes)

-- A range whose write is cut short.
pub record TornLaws : Type 0 where
  -- all outside it is as it was
  pub torn_outside : (old : List ℕ) (at n : ℕ) → at + n ≤ length old → (bytes : List ℕ) → length bytes ≡ n → (new : List ℕ) → Between old (written old at bytes) new → SameOutside at n old new
  -- each bit of it is the old or the new one
  pub torn_part : (old : List ℕ) (at n : ℕ) → at + n ≤ length old → (bytes : List ℕ) → length bytes ≡ n → (new : List ℕ) → Between old (written old at bytes) new → Between (part_of old at n) bytes (part_of new at n)
  -- the same where it was written before
  pub outside_between : (old : List ℕ) (at n : ℕ) → at + n ≤ length old → (first second : List ℕ) → length first ≡ n → length second ≡ n → (new : List ℕ) → Between (written old at first) (written old at second) new → SameOutside at n old new
  pub part_between : (old : List ℕ) (at n : ℕ) → at + n ≤ length old → (first second : List ℕ) → length first ≡ n → length second ≡ n → (new : List ℕ) → Between (written old at first) (written old at second) new → Between first second (part_of new at n)
  pub octets_between : (old new got : List ℕ) → AreOctets old → AreOctets new → Between old new got → AreOctets got
  -- so does what a made pattern leaves
  pub made_between : (seed : ℕ) (old : List ℕ) (at : ℕ) (bytes got : List ℕ) → at + length bytes ≤ length old → AreOctets old → AreOctets bytes → AreOctets got → IsMade seed old at bytes got → Between old (written old at bytes) got
  -- where one bit of an erased octet is cleared, that is done or not
  pub mark_torn : (old : List ℕ) (at : ℕ) → at + 1 ≤ length old → slice_index old at ≡ 255 → (new : List ℕ) → Between old (written old at (254 ∷ [])) new → (new ≡ old) ⊎ (new ≡ written old at (254 ∷ []))
  -- such an octet reads FF
  pub mark_blank : (old : List ℕ) (at : ℕ) → at + 1 ≤ length old → slice_index old at ≡ 255 → slice_range old at (at + 1) ≡ blank 1

pub record RangeLaws : Type 0 where
  pub parts : PartLaws
  pub writes : WriteLaws
  pub torn : TornLaws

-- Runs of a flash one after the other, read in one of several ways.
module _ {W : Type 0} (State : W → Type 0) (reading : (way : W) → Reading (State way)) where
  pub record RunsJoin (a b c : Seen) : Type 0 where
    -- a run, and then a run from where it ended, are a run of all their operations
    pub ran : (way : W) (s : State way) (xs ys : List (State way)) → Ran (reading way) s xs a b → Ran (reading way) (last_of s xs) ys b c → Ran (reading way) s (xs ++ ys) a c
    -- a run, and then one that failed, are one that failed
    pub broke : (way : W) (s : State way) (xs ys : List (State way)) → Ran (reading way) s xs a b → Broke (reading way) (last_of s xs) ys b c → Broke (reading way) s (xs ++ ys) a c
    -- what every call keeps is kept by both
    pub keeps : Keeps a b → Keeps b c → Keeps a c
    pub unchanged : Unchanged a b → Unchanged b c → Unchanged a c

  pub record RunsAreRead (a b : Seen) : Type 0 where
    -- a run is read as one of other states, operation by operation
    pub ran : (way other : W) (s : State way) (xs : List (State way)) (t : State other) (ys : List (State other)) → length xs ≡ length ys → (IsTrue a.told → Refines (reading way) (reading other) s xs t ys)
        → Ran (reading way) s xs a b → Ran (reading other) t ys a b
    -- so is one that failed
    pub broke : (way other : W) (s : State way) (xs : List (State way)) (t : State other) (ys : List (State other)) → length xs ≡ length ys → (IsTrue a.told → Refines (reading way) (reading other) s xs t ys)
        → Broke (reading way) s xs a b → Broke (reading other) t ys a b
    -- a run that failed is one that failed with any operations that were still to come
    pub longer : (way : W) (s : State way) (xs ys : List (State way)) → Broke (reading way) s xs a b → Broke (reading way) s (xs ++ ys) a b
    -- a call that began no operation and changed no meaning is a run of none
    pub none : (way : W) (s : State way) → IsSound a → Unchanged a b → a.off ≡ false → (IsTrue a.told → (reading way).Is s a.octets) → Ran (reading way) s [] a b

  -- of all flashes of a type
  pub record RunLaws {F : Type 0} (seen : F → Seen) : Type 0 where
    pub join : (a b c : F) → RunsJoin (seen a) (seen b) (seen c)
    pub read : (a b : F) → RunsAreRead (seen a) (seen b)
