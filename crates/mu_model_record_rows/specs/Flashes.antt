-- What an operation that is cut leaves, octets that are written, clocks, and faults.
use Rattle.std.specs.Prelude.{◌≡◌, ℕ, List, [], ◌∷◌, ◌++◌, map, replicate, Some, None, Ok, Err, ⊤}
use Rattle.mu_model_flash.specs.declared.Pattern.TheVariants.{Old, New, Made}
use Rattle.mu_model_flash.specs.Bits.{blank, written, part_of, Between}
use Rattle.mu_model_flash.specs.Cause.{Rose, HasCause}
use Rattle.mu_model_flash.specs.Flash.{ticks, fallen, IsBefore}
use Rattle.mu_model_flash.specs.Patterns.{made_bit, IsMade, IsLeftBy}
use Rattle.mu_model_flash.specs.Run.{state_at, last_of}

-- the state after so many operations, from 7 to 8 and to 9; and the state after all
abbrev pub state_after : ℕ → ℕ
state_after operations = state_at 7 (8 ∷ 9 ∷ []) operations

abbrev pub last_after : List ℕ → ℕ
last_after steps = last_of 7 steps

-- 33 octets FF of which all bits are to be 0: bit n is new where octet n of the seed is odd, and octet 256 of seed 0 is 1
abbrev pub half_cleared : List ℕ
half_cleared = replicate 32 0x55 ++ 0xaa ∷ []

pub record EachFlash : Type 0 where
  -- some bits old and some new, in one octet
  pub mixed : Between (0xf0 ∷ []) (0x0f ∷ []) (0x3c ∷ [])
  -- no bit that is 1 in neither
  pub not_mixed : Between (0xf0 ∷ []) (0xf0 ∷ []) (0xf1 ∷ []) → ⊥
  pub not_longer : Between (0xf0 ∷ []) (0xf0 ∷ []) (0xf0 ∷ 0 ∷ []) → ⊥
  -- a seed's bits in order
  pub made_bits : map (λ n. made_bit 0 n 0 1) (0 ∷ 1 ∷ 2 ∷ 3 ∷ 255 ∷ 256 ∷ 257 ∷ []) ≡ 0 ∷ 1 ∷ 0 ∷ 1 ∷ 1 ∷ 1 ∷ 0 ∷ []
  pub made : IsMade 0 (replicate 33 0xff) 0 (replicate 33 0) half_cleared
  pub left_old : IsLeftBy Old (1 ∷ 2 ∷ 3 ∷ []) 1 (9 ∷ []) (1 ∷ 2 ∷ 3 ∷ [])
  pub left_new : IsLeftBy New (1 ∷ 2 ∷ 3 ∷ []) 1 (9 ∷ []) (1 ∷ 9 ∷ 3 ∷ [])
  pub left_by_seed : IsLeftBy (Made 0) (replicate 33 0xff) 0 (replicate 33 0) half_cleared
  -- octets in their places
  pub written_at : written (1 ∷ 2 ∷ 3 ∷ 4 ∷ 5 ∷ []) 1 (9 ∷ 8 ∷ []) ≡ 1 ∷ 9 ∷ 8 ∷ 4 ∷ 5 ∷ []
  pub part_at : part_of (1 ∷ 2 ∷ 3 ∷ 4 ∷ 5 ∷ []) 1 2 ≡ 2 ∷ 3 ∷ []
  pub erased : blank 3 ≡ 255 ∷ 255 ∷ 255 ∷ []
  -- a clock stays at its last value
  pub ticked : ticks 7 5 ≡ 12
  pub last_tick : ticks 18446744073709551613 5 ≡ 18446744073709551615
  pub no_tick : ticks 18446744073709551615 1 ≡ 18446744073709551615
  -- number 1 is the next operation
  pub fell : fallen (Some (record { number = 5; pattern = Old })) 3 ≡ Some (record { number = 2; pattern = Old })
  pub none_armed : fallen None 3 ≡ None
  pub before_armed : IsBefore 4 (Some (record { number = 5; pattern = Old }))
  pub at_armed : IsBefore 5 (Some (record { number = 5; pattern = Old })) → ⊥
  -- faults
  pub rose : Rose 5 6
  pub not_rose : Rose 5 5 → ⊥
  pub risen_last : Rose 18446744073709551615 18446744073709551615
  pub not_last : Rose 18446744073709551614 18446744073709551614 → ⊥
  pub failed : HasCause {T = ⊤} {E = ⊤} 5 6 (Err tt)
  pub failed_without : HasCause {T = ⊤} {E = ⊤} 5 5 (Err tt) → ⊥
  pub ok : HasCause {T = ⊤} {E = ⊤} 5 5 (Ok tt)
  pub never_falls : HasCause {T = ⊤} {E = ⊤} 5 4 (Ok tt) → ⊥
  -- states after operations
  pub before_any : state_after 0 ≡ 7
  pub after_one : state_after 1 ≡ 8
  pub after_both : state_after 2 ≡ 9
  pub last : last_after (8 ∷ 9 ∷ []) ≡ 9
  pub last_of_none : last_after [] ≡ 7
