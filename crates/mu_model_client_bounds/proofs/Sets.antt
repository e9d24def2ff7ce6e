-- Lengths of the sets that answers tell.
use Rattle.std.proofs.Common.{◌≡◌, ◌⊎◌, inl, inr, ◌≤◌, ◌<◌, ◌+◌, ◌==◌, ℕ, zero, suc, List, [], ◌∷◌, refl, sym, ◌∙◌, ap, subst, true, false, Bool, Option, Some, None, arith, map, length, set, cond}
use Rattle.std.specs.Prelude.{◌&&◌, ◌||◌, if◌then◌else◌}
use Rattle.std.specs.List.{find, range_with_len}
use Rattle.std.proofs.lemmas.List.{length-set, length-replicate}
use Rattle.std.proofs.lemmas.List.FromFn.{length-map-range_with_len}
use Rattle.mu_model_wire.specs.Reports.{has, no_number, every_number, field_bit, field_length, union}
use Rattle.mu_model_wire.specs.declared.reports.Report.{Report}
use Rattle.mu_model_wire.specs.declared.reports.Report.TheVariants.{All, Nothing, Bits, List as Listed}
use Rattle.mu_model_client.specs.declared.Sending.{Sending}
use Rattle.mu_model_client.specs.Sets.{set_of, set_of_field, all_below, no_bit_from, named_set}
use Rattle.mu_model_client.specs.Client.{Step, Check, Start, Information, Transfer, Block, Chunks, Pull, Get, Verify, Apply, Confirm, Cancel, Place, Before, At, Verified, Ended, block_total, chunk_total}
use Rattle.mu_model_client.specs.Told as t
use Rattle.mu_model_client_bounds.specs.Bounds.{StepFits, PlaceFits, HasLength, IsOfBlock, HasChunks, WantsIn, WantsAt}

-- ---- what is told has so many places

abbrev pub IsLong : ℕ → Option (List Bool) → Type 0
IsLong n None = Unit {0}
IsLong n (Some told) = length told ≡ n

long_if : (n : ℕ) (told : List Bool) (test : Bool) → length told ≡ n → IsLong n (if test then Some told else None)
long_if n told true h = h
long_if n told false h = tt

pub field_long : (n : ℕ) (octets : List ℕ) → IsLong n (set_of_field n octets)
field_long n octets = long_if n _ ((length octets == field_length n) && no_bit_from n octets) (length-map-range_with_len (field_bit octets) 0 n)

pub set_long : (n : ℕ) (numbers : List ℕ) → length (set_of n numbers) ≡ n
set_long n numbers = length-map-range_with_len _ 0 n

named_long : (n : ℕ) (report : Report) → IsLong n (named_set n report)
named_long n All = length-replicate n true
named_long n Nothing = length-replicate n false
named_long n (Bits octets) = field_long n octets.items
named_long n (Listed numbers) = long_if n _ (all_below n numbers.items) (set_long n numbers.items)

pub none_long : (n : ℕ) → length (no_number n) ≡ n
none_long n = length-replicate n false

pub chunks_long : (p : Sending) (b block size : ℕ) (report : Report) → IsLong (chunk_total p b) (t.chunks_in p b block size report)
chunks_long p b block size report = by ((block == b) && (size == p.chunk))
  where
    by : (test : Bool) → IsLong (chunk_total p b) (if test then named_set (chunk_total p b) report else None)
    by true = named_long (chunk_total p b) report
    by false = tt

pub blocks_long : (p : Sending) (phase : ℕ) (field : List ℕ) → IsLong (block_total p) (t.blocks_in p phase field)
blocks_long p phase field = by ((phase == 2) || (phase == 3)) (phase == 4)
  where
    by : (test other : Bool) → IsLong (block_total p) (if test then set_of_field (block_total p) field else if other then Some (no_number (block_total p)) else None)
    by true other = field_long (block_total p) field
    by false true = none_long (block_total p)
    by false false = tt

pub union_long : (old more : List Bool) → length (union old more) ≡ length old
union_long old more = length-map-range_with_len _ 0 (length old)

pub set_keeps : (n : ℕ) (old : List Bool) (i : ℕ) (x : Bool) → HasLength n old → HasLength n (set old i x)
set_keeps n [] i x h = inl refl
set_keeps n (o ∷ old) i x (inl e) = absurd cc
set_keeps n (o ∷ old) i x (inr e) = inr (length-set (o ∷ old) i x ∙ e)

-- ---- places

pub none_in : (p : Sending) (step : Step) → WantsIn p step []
none_in p Check = inl refl
none_in p Start = inl refl
none_in p Information = inl refl
none_in p Transfer = inl refl
none_in p (Block b) = inl refl
none_in p (Chunks b) = inl refl
none_in p (Pull b) = inl refl
none_in p (Get b) = inl refl
none_in p Verify = inl refl
none_in p Apply = inl refl
none_in p Confirm = inl refl
none_in p Cancel = inl refl

pub none_at : (p : Sending) (place : Place) → WantsAt p place []
none_at p (Before step) = inl refl
none_at p (At step) = none_in p step
none_at p Verified = inl refl
none_at p (Ended part) = inl refl

of_block : (p : Sending) (b : ℕ) (wanted : List Bool) → b < block_total p → HasLength (chunk_total p b) wanted → HasChunks p wanted
of_block p b wanted h (inl e) = inl e
of_block p b wanted h (inr e) = inr (record { block = b; within = h; long = e })

loose_in : (p : Sending) (step : Step) (wanted : List Bool) → StepFits p step → WantsIn p step wanted → HasChunks p wanted
loose_in p (Pull b) wanted h w = of_block p b wanted h w
loose_in p Check wanted h w = w
loose_in p Start wanted h w = w
loose_in p Information wanted h w = w
loose_in p Transfer wanted h w = w
loose_in p (Block b) wanted h w = w
loose_in p (Chunks b) wanted h w = w
loose_in p (Get b) wanted h w = w
loose_in p Verify wanted h w = w
loose_in p Apply wanted h w = w
loose_in p Confirm wanted h w = w
loose_in p Cancel wanted h w = w

-- what is wanted at a place is of one of the blocks
pub loose : (p : Sending) (place : Place) (wanted : List Bool) → PlaceFits p place → WantsAt p place wanted → HasChunks p wanted
loose p (At step) wanted h w = loose_in p step wanted h w
loose p (Before step) wanted h w = w
loose p Verified wanted h w = w
loose p (Ended part) wanted h w = w
