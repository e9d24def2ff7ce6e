-- Sets of numbers below a bound, and the set that a report of missing blocks or chunks names.
use Rattle.std.specs.Prelude.{ℕ, ◌≡◌, ◌<◌, ◌≤◌, ◌↔◌, ◌+◌, ◌*◌, ◌/◌, ◌%◌, ◌^◌, Bool, true, false, IsTrue, not, ◌||◌, ◌==◌, nat_lt, List, [], ◌∷◌, length, map, filter, take, drop, replicate, slice_index, slice_index_or, Contains, Option, MatchOption, Ok, if◌then◌else◌}
use Rattle.std.specs.List.{range_with_len, All as AllOf}
use Rattle.std.specs.List.Sorted.{IsStrictlyIncreasing}
use Rattle.std.specs.Int.{bit_at}
use Rattle.mu_model_wire.specs.Patterns.{list_spelling, IsList, IsListFault}
use Rattle.mu_model_wire.specs.Fields.{pattern, number, Shown}
use Rattle.mu_model_wire.specs.Reading.{Left, entries_at, refuse}
use Rattle.mu_model_wire.specs.Spelling.{EntriesFit, entries_spelling}
use Rattle.mu_model_wire.specs.declared.Why.TheVariants.{Short, Value}
use Rattle.mu_model_wire.specs.declared.reports.Report.{Report}
use Rattle.mu_model_wire.specs.declared.reports.Report.TheVariants.{All, Nothing, Bits, List as Listed}

-- ---- sets

-- A set of numbers below n is n truth values: whether each number is in it. So its length is its bound.
abbrev pub has : List Bool → ℕ → Bool
has set k = slice_index_or set k false

-- the members, rising
abbrev pub members : List Bool → List ℕ
members set = filter (has set) (range_with_len 0 (length set))

-- no number below n, and every number below n
abbrev pub no_number : ℕ → List Bool
no_number n = replicate n false

abbrev pub every_number : ℕ → List Bool
every_number n = replicate n true

abbrev pub complement : List Bool → List Bool
complement set = map not set

-- the numbers below the first set's bound that are in one of the two
abbrev pub union : List Bool → List Bool → List Bool
union set other = map (λ k. has set k || has other k) (range_with_len 0 (length set))

-- the least member that is k or more, or that there is none
abbrev pub IsFirstFrom : List Bool → ℕ → Option ℕ → Type 0
IsFirstFrom set k found =
    MatchOption found
    ((i : ℕ) → k ≤ i → has set i ≡ false)
    (λ least. (k ≤ least) × IsTrue (has set least) × ((i : ℕ) → k ≤ i → i < least → has set i ≡ false))

-- ---- bit fields

-- bit i of a bit field: bit `i mod 8` of octet `i / 8` (MshMBT: Missing Chunks, Blocks Not Received)
abbrev pub field_bit : List ℕ → ℕ → Bool
field_bit octets i = bit_at (slice_index octets (i / 8)) (i % 8) == 1

-- how many octets the bit field of n numbers has
abbrev pub field_length : ℕ → ℕ
field_length n = (n + 7) / 8

-- the octets are the bit field of the set: as many as it takes, and a bit is set exactly where its number is a member
pub record IsBitField (octets : List ℕ) (set : List Bool) : Type 0 where
  pub count : length octets ≡ field_length (length set)
  pub bits : (i : ℕ) → field_bit octets i ≡ has set i

-- truth values as a number, the first as the least significant bit
abbrev pub number_of_bits : List Bool → ℕ
number_of_bits [] = 0
number_of_bits (b ∷ bits) = (if b then 1 else 0) + 2 * number_of_bits bits

-- the bit field of a set
abbrev pub bit_field : List Bool → List ℕ
bit_field set = map (λ j. number_of_bits (take 8 (drop (8 * j) set))) (range_with_len 0 (field_length (length set)))

-- ---- reports

-- The report names the set (MshMBT: All Chunks Missing, No Missing Chunks, Some Chunks Missing, Encoded Missing Chunks).
-- Listed numbers may come in any order and repeat (this profile).
abbrev pub Reports : Report → List Bool → Type 0
Reports All set = set ≡ every_number (length set)
Reports Nothing set = set ≡ no_number (length set)
Reports (Bits octets) set = IsBitField octets.items set
Reports (Listed numbers) set = (k : ℕ) → Contains numbers.items k ↔ IsTrue (has set k)

-- A report names a set of numbers below n unless its bit field isn't as long as that of n numbers, a bit at or past n is
-- set, or a listed number is n or more.
abbrev pub NamesASet : Report → ℕ → Type 0
NamesASet All n = Unit {0}
NamesASet Nothing n = Unit {0}
NamesASet (Bits octets) n = (length octets.items ≡ field_length n) × ((i : ℕ) → n ≤ i → field_bit octets.items i ≡ false)
NamesASet (Listed numbers) n = AllOf (λ k. k < n) numbers.items

-- the report of missing numbers: a bit field unless the list is strictly shorter (this profile)
abbrev pub report_of : List Bool → Report
report_of set =
    if length (members set) == length set then All
    else if length (members set) == 0 then Nothing
    else if nat_lt (length (list_spelling (members set))) (field_length (length set)) then Listed (record { items = members set })
    else Bits (record { items = bit_field set })

-- ---- laws

-- the members are those numbers that are in the set, rising
abbrev pub MembersAreThose : Type 0
MembersAreThose = (set : List Bool) (k : ℕ) → Contains (members set) k ↔ IsTrue (has set k)

abbrev pub MembersRise : Type 0
MembersRise = (set : List Bool) → IsStrictlyIncreasing (members set)

-- a number below the bound is in a set or in its complement, and never in both
abbrev pub ComplementHasTheOthers : Type 0
ComplementHasTheOthers = (set : List Bool) (k : ℕ) → k < length set → has (complement set) k ≡ not (has set k)

abbrev pub ComplementHasTheRest : Type 0
ComplementHasTheRest = (set : List Bool) → length (members set) + length (members (complement set)) ≡ length set

-- a union has what one of the two has
abbrev pub UnionHasBoth : Type 0
UnionHasBoth = (set other : List Bool) (k : ℕ) → k < length set → has (union set other) k ≡ (has set k || has other k)

-- a report names at most one set below a bound
abbrev pub ReportsNameOneSet : Type 0
ReportsNameOneSet = (report : Report) (a b : List Bool) → length a ≡ length b → Reports report a → Reports report b → a ≡ b

-- a report that names a set is as it must be to name one
abbrev pub ReportsOfASetAreInOrder : Type 0
ReportsOfASetAreInOrder = (report : Report) (set : List Bool) → Reports report set → NamesASet report (length set)

-- the report of a set names it
abbrev pub ReportOfASetNamesIt : Type 0
ReportOfASetNamesIt = (set : List Bool) → Reports (report_of set) set

-- the bit field of a set is one of it, and of octets
abbrev pub BitFieldIsOfItsSet : Type 0
BitFieldIsOfItsSet = (set : List Bool) → IsBitField (bit_field set) set

abbrev pub BitFieldsAreOctets : Type 0
BitFieldsAreOctets = (set : List Bool) (i : ℕ) → slice_index (bit_field set) i < 2 ^ 8

-- the spelling of numbers is their list
abbrev pub SpellingsAreLists : Type 0
SpellingsAreLists = (numbers : List ℕ) → AllOf (λ n. n < 2 ^ 16) numbers → IsList (list_spelling numbers) numbers

-- octets are the patterns of one list of numbers, or have one first bad pattern
abbrev pub ListsAreRead : Type 0
ListsAreRead =
    (octets : List ℕ) (a b : List ℕ) → IsList octets a → IsList octets b → a ≡ b

abbrev pub ListsHaveNoFault : Type 0
ListsHaveNoFault = (octets : List ℕ) (numbers : List ℕ) (at : ℕ) (cut : Bool) → IsList octets numbers → IsListFault octets at cut → ⊥

abbrev pub ListFaultsAreOne : Type 0
ListFaultsAreOne =
    (octets : List ℕ) (at place : ℕ) (cut short : Bool)
    → IsListFault octets at cut → IsListFault octets place short → (at ≡ place) × (cut ≡ short)

-- what a repeated number pattern shows
abbrev pub shown_numbers : ℕ → List ℕ → List (List Shown)
shown_numbers name numbers = map (λ n. number name n ∷ []) numbers

-- the grammar's repeated number pattern is a list of patterns
abbrev pub GrammarReadsLists : Type 0
GrammarReadsLists =
    (name : ℕ) (left : Left) (numbers : List ℕ)
    → IsList left.octets numbers
    → entries_at (length left.octets) (pattern name ∷ []) left ≡ Ok (shown_numbers name numbers)

abbrev pub GrammarRefusesLists : Type 0
GrammarRefusesLists =
    (name : ℕ) (left : Left) (at : ℕ) (cut : Bool)
    → IsListFault left.octets at cut
    → entries_at (length left.octets) (pattern name ∷ []) left ≡ refuse (left.at + at) (if cut then Short else Value)

-- numbers fit the grammar's repeated number pattern, which spells their list
abbrev pub NumbersFitTheGrammar : Type 0
NumbersFitTheGrammar = (name : ℕ) (numbers : List ℕ) → AllOf (λ n. n < 2 ^ 16) numbers → EntriesFit (pattern name ∷ []) (shown_numbers name numbers)

abbrev pub GrammarSpellsLists : Type 0
GrammarSpellsLists = (name : ℕ) (numbers : List ℕ) → entries_spelling (pattern name ∷ []) (shown_numbers name numbers) ≡ list_spelling numbers

-- a list has an octet or more for each number
abbrev pub NumbersHaveOctets : Type 0
NumbersHaveOctets = (numbers : List ℕ) → length numbers ≤ length (list_spelling numbers)
