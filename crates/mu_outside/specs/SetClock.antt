-- What a clock that is set has answered.
use Rattle.std.specs.Prelude.{ℕ, zero, suc, ◌-◌, ◌^◌, Option, Some, None, List, [], ◌∷◌, ◌++◌, length, get_or, min, if◌then◌else◌, nat_lt}
use Rattle.mu_outside.specs.declared.set_clock.SetClock.{SetClock}

abbrev pub set_times : SetClock → List ℕ
set_times clock = clock.times.items

abbrev pub set_calls : SetClock → ℕ
set_calls clock = clock.calls

-- what the call with this number from 0 answers: the last time where there are no more
abbrev pub time_at : List ℕ → ℕ → ℕ
time_at times k = get_or times (min k (length times - 1)) 0

abbrev pub times_until : List ℕ → ℕ → List ℕ
times_until times zero = []
times_until times (suc k) = times_until times k ++ time_at times k ∷ []

-- what it tells until its count of calls stands at its last value
abbrev pub told_times : List ℕ → ℕ → Option (List ℕ)
told_times times calls = if nat_lt calls (2 ^ 64 - 1) then Some (times_until times calls) else None
