use Rattle.std.proofs.Common.{◌≡◌, ◌∙◌, ◌+◌, get_or, sym, ap, take, length, arith, refl, ℕ, inl, inr}
use Rattle.std.proofs.lemmas.Bool.{cases_lt, false≢true}
use Rattle.std.proofs.lemmas.List.{take_all}
use Rattle.mu_model_wire.specs.Patterns.{list_spelling, pattern_spelling}
use Rattle.mu_report.proofs.Lists.{too_long}
use Rattle.mu_report.proofs.list.encode_list.Goals as goal

pub returns-then-not-push_pattern-clause-some : goal.returns-then-not-push_pattern-clause-some
returns-then-not-push_pattern-clause-some c =
    let inv = c.loop-number.invariant in
    let number = get_or c.args.numbers.now c.loop-number.number-index 0 in
    elim (cases_lt 379 (length c.loop-number.octets.items + length (pattern_spelling number))) [
      | inl long ↦ (
        λ h. absurd (false≢true h),
        λ h. let more = too_long c.args.numbers.now c.loop-number.number-index number c.loop-number.octets.items c.loop-number-test.true refl inv.spelled long in absurd (omega arith),
      )
      | inr fits ↦ absurd (false≢true (sym c.if-not-push_pattern.true ∙ c.push_pattern.ensures.room.1 fits))
    ]

pub returns-clause-some : goal.returns-clause-some
returns-clause-some c =
    let inv = c.loop-number.invariant in
    let all : list_spelling (take c.loop-number.number-index c.args.numbers.now) ≡ list_spelling c.args.numbers.now =
    ap list_spelling (take_all c.loop-number.number-index c.args.numbers.now c.loop-number-test.false) in
    let count = ap (length {A = ℕ}) (inv.spelled ∙ all) in
    (λ h. omega arith, λ h. refl)
