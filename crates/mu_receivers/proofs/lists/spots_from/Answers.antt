use Rattle.std.proofs.Common.{◌∙◌, arith}
use Rattle.mu_receivers.specs.Chunks.{items_of}
use Rattle.mu_receivers.proofs.Lines.{chunk_done}
use Rattle.mu_receivers.proofs.lists.spots_from.Goals as goal

pub loop-k-preserved : goal.loop-k-preserved
loop-k-preserved c = record {
  few = c.go_along-i.ensures.few;
  below = c.go_along-i.ensures.below c.args.n c.loop-k-test.true c.loop-k.invariant.below;
  within = omega arith;
  list = chunk_done c.args.group c.args.b c.args.n c.args.slots.now c.loop-k.k c.loop-k.i c.go_along-i.result c.next_asked-k.result
      (items_of c.args.b c.loop-k.spots.items) (items_of c.args.b c.go_along-i.new.spots.items)
      c.loop-k-test.true c.if-i-slots.false c.next_asked-k.ensures.from c.next_asked-k.ensures.most c.next_asked-k.ensures.none c.go_along-i.ensures.line
      ∙ c.loop-k.invariant.list;
}
