use Rattle.std.proofs.Common.{◌<◌, ◌^◌, bit_and, get_or, refl, arith, inl, inr}
use Rattle.std.specs.Int.{bit_not, w64}
use Rattle.std.proofs.lemmas.Bool.{cases_lt}
use Rattle.std.proofs.lemmas.Nat.{and_le_r}
use Rattle.mu_report.proofs.Bits.{no_word}
use Rattle.mu_report.proofs.Masks.{not_found, some_past}
use Rattle.mu_report.proofs.set.has_past.Goals as goal

pub loop-index-preserved : goal.loop-index-preserved
loop-index-preserved c =
    not_found c.args.words.now c.loop-index.index c.bits_below.result c.args.n c.bits_below.ensures c.bits_below.type_inv c.loop-index.invariant c.if-words-index-ne0.false

pub returns-then-words-index-ne0 : goal.returns-then-words-index-ne0
returns-then-words-index-ne0 c =
    let word = bit_and (get_or c.args.words.now c.loop-index.index 0) (bit_not w64 c.bits_below.result) in
    let some : 0 < word = omega (arith, c.if-words-index-ne0.true) in
    let small : word < 2 ^ 64 = omega (arith, and_le_r (get_or c.args.words.now c.loop-index.index 0) (bit_not w64 c.bits_below.result)) in
    (λ h. absurd cc, λ none. absurd (some_past c.args.words.now c.loop-index.index c.bits_below.result c.args.n c.bits_below.ensures c.bits_below.type_inv word refl some small none))

pub returns : goal.returns
returns c = (
  λ h k past. elim (cases_lt k 2048) [
    | inl inside ↦ c.loop-index.invariant k past (omega arith)
    | inr outside ↦ no_word c.args.words.now k (omega arith)
  ],
  λ h. refl,
)
