use Rattle.std.proofs.Common.{◌≡◌, ◌<◌, ◌*◌, ℕ, List, length-set, get_or, refl, rules, ◌^◌, ap, ◌∙◌, arith}
use Rattle.mu_model_wire.specs.Reports.{complement}
use Rattle.mu_report.specs.Words.{word_bit}
use Rattle.mu_report.proofs.Masks.{out, missing_step, missing_words, missing_set}
use Rattle.mu_report.proofs.set.NumberSet.missing.Goals as goal

pub loop-index-init : goal.loop-index-init
loop-index-init c = record { count = refl; bits = λ k h. absurd (omega arith) }

pub loop-index-preserved : goal.loop-index-preserved
loop-index-preserved c =
    let so_far = c.loop-index.invariant in
    let fits : get_or c.self.inside.words c.loop-index.index 0 < 2 ^ 64 = search rules in
    record {
      count = length-set c.loop-index.words c.loop-index.index _ ∙ so_far.count;
      bits = missing_step c.self.inside.words c.loop-index.words c.self.inside.bound c.loop-index.index c.bits_below.result (omega arith) fits c.bits_below.ensures so_far.bits;
    }

-- what the loop leaves
all_out : (words made : List ℕ) (bound index : ℕ) → index ≡ 32 → ((k : ℕ) → k < 64 * index → word_bit made k ≡ out words bound k)
    → (k : ℕ) → k < 2048 → word_bit made k ≡ out words bound k
all_out words made bound index e each k h = each k (omega arith)

pub invariant_of-result : goal.invariant_of-result
invariant_of-result c =
    missing_words c.self.inside.words c.loop-index.words c.self.inside.bound c.self.invariant.most c.loop-index.invariant.count
    (all_out c.self.inside.words c.loop-index.words c.self.inside.bound c.loop-index.index (omega arith) c.loop-index.invariant.bits)

pub returns : goal.returns
returns c =
    missing_set c.self.inside.words c.loop-index.words c.self.inside.bound c.self.invariant
    (all_out c.self.inside.words c.loop-index.words c.self.inside.bound c.loop-index.index (omega arith) c.loop-index.invariant.bits)
    ∙ ap complement c.self.view_is
