use Rattle.std.proofs.Common.{◌≡◌, ◌≤◌, ◌<◌, ◌↔◌, ℕ, List, IsTrue, false, Some, length, refl, sym, subst}
use Rattle.std.specs.Prelude.{IfSome, Contains}
use Rattle.std.specs.List.{All as AllOf}
use Rattle.mu_model_wire.specs.Reports.{IsBitField, has, field_bit, field_length}
use Rattle.mu_model_wire.specs.declared.reports.Report.TheVariants.{All, Bits, List as Listed}
use Rattle.mu_report.proofs.Reading.{exact, exact_of, all_missing}
use Rattle.mu_report.proofs.report.read_report.Goals as goal

pub returns-in-All-clause-named : goal.returns-in-All-clause-named
returns-in-All-clause-named c =
    exact_of c.args.report.now All c.args.n (Some c.missing.result) c.in-All.is
    (exact c.reports.ensures.one_set c.reports.ensures.in_order All c.args.n (Some c.missing.result) (all_missing c.args.n c.new.result c.missing.result c.new.ensures c.missing.ensures) (λ h. refl))

pub returns-in-Bits-clause-named : goal.returns-in-Bits-clause-named
returns-in-Bits-clause-named c =
    let P : List ℕ → Type 0 = λ octets. IfSome c.from_bit_field.result (λ set. (length set ≡ c.args.n) × IsBitField octets set) in
    let Q : List ℕ → Type 0 = λ octets. (length octets ≡ field_length c.args.n) × ((i : ℕ) → c.args.n ≤ i → field_bit octets i ≡ false) in
    exact_of c.args.report.now (Bits c.in-Bits.octets) c.args.n c.from_bit_field.result c.in-Bits.is
    (exact c.reports.ensures.one_set c.reports.ensures.in_order (Bits c.in-Bits.octets) c.args.n c.from_bit_field.result (subst P c.as_slice.ensures.value c.from_bit_field.ensures.names)
    (λ h. c.from_bit_field.ensures.some.1 (subst Q (sym c.as_slice.ensures.value) h)))

pub returns-in-List-clause-named : goal.returns-in-List-clause-named
returns-in-List-clause-named c =
    let P : List ℕ → Type 0 = λ numbers. IfSome c.from_numbers.result (λ set. (length set ≡ c.args.n) × ((k : ℕ) → Contains numbers k ↔ IsTrue (has set k))) in
    let Q : List ℕ → Type 0 = λ numbers. AllOf (λ k. k < c.args.n) numbers in
    exact_of c.args.report.now (Listed c.in-List.numbers) c.args.n c.from_numbers.result c.in-List.is
    (exact c.reports.ensures.one_set c.reports.ensures.in_order (Listed c.in-List.numbers) c.args.n c.from_numbers.result (subst P c.as_slice-in-List.ensures.value c.from_numbers.ensures.names)
    (λ h. c.from_numbers.ensures.some.1 (subst Q (sym c.as_slice-in-List.ensures.value) h)))
