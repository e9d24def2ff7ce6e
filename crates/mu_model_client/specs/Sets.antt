-- Sets of missing or wanted numbers, and the set that a report names. A set of numbers below n is n truth values.
use Rattle.std.specs.Prelude.{ℕ, ◌*◌, ◌==◌, ◌&&◌, ◌||◌, not, nat_lt, nat_eq, Bool, List, length, map, Option, Some, None, if◌then◌else◌}
use Rattle.std.specs.List.{list_any, list_all, count_by, range_with_len}
use Rattle.mu_model_wire.specs.Reports.{no_number, every_number, field_bit, field_length}
use Rattle.mu_model_wire.specs.declared.reports.Report.{Report}
use Rattle.mu_model_wire.specs.declared.reports.Report.TheVariants.{All, Nothing, Bits, List as Listed}

-- all numbers below n, rising
abbrev pub below : ℕ → List ℕ
below n = range_with_len 0 n

-- whether a set has a number, and how many it has
abbrev pub has_some : List Bool → Bool
has_some set = list_any (λ is_in. is_in) set

abbrev pub size_of : List Bool → ℕ
size_of set = count_by (λ is_in. is_in) set

-- the set of the listed numbers that are below n
abbrev pub set_of : ℕ → List ℕ → List Bool
set_of n numbers = map (λ k. list_any (nat_eq k) numbers) (below n)

abbrev pub all_below : ℕ → List ℕ → Bool
all_below n numbers = list_all (λ k. nat_lt k n) numbers

-- the set of numbers below n whose bit field the octets are; none where they are no such bit field: another length, or a bit
-- at or past n (MshMBT, Missing Chunks and Blocks Not Received)
abbrev pub no_bit_from : ℕ → List ℕ → Bool
no_bit_from n octets = list_all (λ k. nat_lt k n || not (field_bit octets k)) (below (8 * length octets))

abbrev pub set_of_field : ℕ → List ℕ → Option (List Bool)
set_of_field n octets =
    if (length octets == field_length n) && no_bit_from n octets then Some (map (field_bit octets) (below n)) else None

-- the set of numbers below n that a report names; none where it names no such set
abbrev pub named_set : ℕ → Report → Option (List Bool)
named_set n All = Some (every_number n)
named_set n Nothing = Some (no_number n)
named_set n (Bits octets) = set_of_field n octets.items
named_set n (Listed numbers) = if all_below n numbers.items then Some (set_of n numbers.items) else None
