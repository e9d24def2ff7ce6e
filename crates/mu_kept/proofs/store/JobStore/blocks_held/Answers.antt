use Rattle.std.proofs.Common.{◌≡◌, ◌∙◌, ◌<◌, ℕ, false, length, ap, sym, subst, arith}
use Rattle.std.proofs.lemmas.List.{length-replicate, length-set, ext_get_or}
use Rattle.std.proofs.Common.{get_or}
use Rattle.mu_kept.specs.Views.{flags_in}
use Rattle.mu_kept.proofs.Gathering.{none_at, below_next, past_next}
use Rattle.mu_kept.proofs.store.JobStore.blocks_held.Goals as goal

pub loop-block-init : goal.loop-block-init
loop-block-init g c = record {
  long = ap length c.new-blocks.ensures ∙ length-replicate c.block_total-count.result false;
  below = λ k lt. absurd (omega (arith, lt));
  past = λ k le. ap (λ xs. get_or xs k false) c.new-blocks.ensures ∙ none_at c.block_total-count.result k;
}

pub loop-block-preserved : goal.loop-block-preserved
loop-block-preserved g c =
    let flags = flags_in c.args.self.now in
    let there : c.loop-block.block < length c.loop-block.blocks = subst (λ (n : ℕ). c.loop-block.block < n) (sym c.loop-block.invariant.long) c.loop-block-test.true in
    record {
      long = ap length c.add_held.ensures ∙ length-set c.loop-block.blocks c.loop-block.block (get_or flags c.loop-block.block false) ∙ c.loop-block.invariant.long;
      below = below_next c.loop-block.blocks c.add_held.new.blocks flags c.loop-block.block there c.add_held.ensures c.loop-block.invariant.below;
      past = past_next c.loop-block.blocks c.add_held.new.blocks flags c.loop-block.block there c.add_held.ensures c.loop-block.invariant.past;
    }

pub returns : goal.returns
returns g c =
    ext_get_or false c.loop-block.blocks (flags_in c.args.self.now) (c.loop-block.invariant.long ∙ c.block_total-count.ensures.count)
    (λ k lt. c.loop-block.invariant.below k (omega (arith, lt, c.loop-block.invariant.long, c.loop-block-test.false)))
