-- Reading a list of entries one after the other.
use Rattle.std.specs.Prelude.{◌≡◌, ℕ, ◌≤◌, ◌<◌, List, [], ◌∷◌, ◌++◌, length, Result, Ok, Err}
use Rattle.mu_model_wire.specs.declared.Refusal.{Refusal}
use Rattle.mu_model_wire.specs.Fields.{Field, Shown}
use Rattle.mu_model_wire.specs.Reading.{◌>>=◌, Left, entry_at, entries_at}

-- what was read before, and what is still read
abbrev pub with_front : List (List Shown) → Result (List (List Shown)) Refusal → Result (List (List Shown)) Refusal
with_front front read = read >>= λ es. Ok (front ++ es)

-- the entries so far and those of what is left, which are at most so many, are what all gives
pub record StillReads (fs : List Field) (front : List (List Shown)) (left : Left) (all : Result (List (List Shown)) Refusal) : Type 0 where
  pub most : ℕ
  pub enough : length left.octets ≤ most
  pub same : with_front front (entries_at most fs left) ≡ all

-- ---- laws

-- before the first entry all is still to be read
abbrev pub EntriesBegin : Type 0
EntriesBegin = (fs : List Field) (left : Left) → StillReads fs [] left (entries_at (length left.octets) fs left)

-- an entry that is read stands behind those before it
abbrev pub EntryIsRead : Type 0
EntryIsRead =
    (fs : List Field) (front : List (List Shown)) (left after : Left) (e : List Shown) (all : Result (List (List Shown)) Refusal)
    → 0 < length left.octets → StillReads fs front left all → entry_at fs left ≡ Ok (e, after) → length after.octets < length left.octets
    → StillReads fs (front ++ e ∷ []) after all

-- where an entry is refused, all is refused so
abbrev pub EntryIsRefused : Type 0
EntryIsRefused =
    (fs : List Field) (front : List (List Shown)) (left : Left) (e : Refusal) (all : Result (List (List Shown)) Refusal)
    → 0 < length left.octets → StillReads fs front left all → entry_at fs left ≡ Err e → all ≡ Err e

-- where no octet is left, the entries that were read are all
abbrev pub EntriesEnd : Type 0
EntriesEnd =
    (fs : List Field) (front : List (List Shown)) (left : Left) (all : Result (List (List Shown)) Refusal)
    → length left.octets ≡ 0 → StillReads fs front left all → all ≡ Ok front
