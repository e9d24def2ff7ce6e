use Rattle.std.proofs.Common.{◌≡◌, ◌<◌, ◌+◌, ◌*◌, ◌^◌, ◌∙◌, ℕ, List, Bool, Some, false, bit_and, get_or, refl, sym, ap, subst, arith, inl, inr}
use Rattle.std.specs.Int.{bit_not, trailing_zeros, w64}
use Rattle.std.proofs.lemmas.Bool.{cases_lt}
use Rattle.std.proofs.lemmas.Nat.{and_le_r}
use Rattle.mu_model_wire.specs.Reports.{has, IsFirstFrom}
use Rattle.mu_report.specs.Words.{word_bit, set_of_words}
use Rattle.mu_report.proofs.Bits.{bound_is, has-set, no_word}
use Rattle.mu_report.proofs.Masks.{found, not_found}
use Rattle.mu_report.proofs.set.NumberSet.first_from.Goals as goal

number : (c : goal.Then-word-ne0) → ℕ
number c = 64 * c.loop-index.index + trailing_zeros w64 (bit_and (get_or c.self.inside.words c.loop-index.index 0) (bit_not w64 c.bits_below.result))

finds : (c : goal.Then-word-ne0) → IsFirstFrom (set_of_words c.self.inside.words c.self.inside.bound) c.args.k (Some (number c)) × (number c < c.self.inside.bound)
unfolding number
finds c =
    let word = bit_and (get_or c.self.inside.words c.loop-index.index 0) (bit_not w64 c.bits_below.result) in
    let some : 0 < word = omega (arith, c.if-word-ne0.true) in
    let small : word < 2 ^ 64 = omega (arith, and_le_r (get_or c.self.inside.words c.loop-index.index 0) (bit_not w64 c.bits_below.result)) in
    found c.self.inside.words c.loop-index.index c.bits_below.result c.args.k c.self.inside.bound c.self.invariant c.bits_below.ensures c.bits_below.type_inv c.loop-index.invariant word refl some small

pub returns-then-word-ne0-clause-first : goal.returns-then-word-ne0-clause-first
unfolding number
returns-then-word-ne0-clause-first c =
    let P : List Bool → Type 0 = λ set. IsFirstFrom set c.args.k (Some (number c)) in
    subst P c.self.view_is (finds c).0

pub returns-then-word-ne0-clause-within : goal.returns-then-word-ne0-clause-within
unfolding number
returns-then-word-ne0-clause-within c =
    let bound = bound_is c.self.inside.words c.self.inside.bound c.args.self.now c.self.view_is in
    let P : ℕ → Type 0 = λ n. number c < n in
    subst P bound (finds c).1

pub loop-index-preserved : goal.loop-index-preserved
loop-index-preserved c =
    not_found c.self.inside.words c.loop-index.index c.bits_below.result c.args.k c.bits_below.ensures c.bits_below.type_inv c.loop-index.invariant c.if-word-ne0.false

pub returns-clause-first : goal.returns-clause-first
returns-clause-first c i low =
    let clear : word_bit c.self.inside.words i ≡ false = elim (cases_lt i 2048) [
      | inl inside ↦ c.loop-index.invariant i low (omega arith)
      | inr past ↦ no_word c.self.inside.words i (omega arith)
    ] in
    ap (λ (set : List Bool). has set i) (sym c.self.view_is) ∙ has-set c.self.inside.words c.self.inside.bound i c.self.invariant ∙ clear

pub returns-then-word-ne0-clause-small : goal.returns-then-word-ne0-clause-small
unfolding number
returns-then-word-ne0-clause-small c =
    let most = c.self.invariant.most in
    let inside : number c < c.self.inside.bound = (finds c).1 in
    let small : number c < 2048 = omega arith in
    small
