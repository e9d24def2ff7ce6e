-- Reports of at most 2,048 chunks are short.
use Rattle.std.proofs.Common.{◌≡◌, ◌≤◌, ◌<◌, ℕ, Bool, true, false, List, length, refl, cond, arith}
use Rattle.std.specs.Prelude.{nat_lt, ◌==◌}
use Rattle.std.proofs.lemmas.Bool.Decides.{nat_tests}
use Rattle.std.proofs.lemmas.List.FromFn.{length-map-range_with_len}
use Rattle.mu_model_wire.specs.Patterns.{list_spelling}
use Rattle.mu_model_wire.specs.Reports.{members, field_length, bit_field, report_of}
use Rattle.mu_model_wire.specs.declared.reports.Report.{Report}
use Rattle.mu_model_wire.specs.declared.reports.Report.TheVariants.{All, Nothing, Bits, List as Listed}
use Rattle.mu_blob_answers.specs.Fits.{IsShort}

short_listed : (n : ℕ) (set : List Bool) (b : Bool) → nat_lt n (field_length (length set)) ≡ b → n ≡ length (list_spelling (members set)) → length set ≤ 2048 → IsShort (cond b (Listed (record { items = members set })) (Bits (record { items = bit_field set })))
short_listed n set true e k h = let below : n < field_length (length set) = grind (arith, nat_tests) in omega arith
short_listed n set false e k h = let count : length (bit_field set) ≡ field_length (length set) = length-map-range_with_len _ 0 (field_length (length set)) in omega arith

by_test : (b : Bool) (x y : Report) → IsShort x → IsShort y → IsShort (cond b x y)
by_test true x y h k = h
by_test false x y h k = k

pub report_is_short : (set : List Bool) → length set ≤ 2048 → IsShort (report_of set)
report_is_short set h =
    by_test (length (members set) == length set) All _ tt
    (by_test (length (members set) == 0) Nothing _ tt (short_listed (length (list_spelling (members set))) set _ refl refl h))
