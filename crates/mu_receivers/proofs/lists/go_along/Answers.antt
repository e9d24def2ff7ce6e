use Rattle.std.proofs.Common.{◌+◌, ◌++◌, ap, ◌∙◌, sym, drop, length, arith}
use Rattle.std.proofs.lemmas.Grind.{common_steps}
use Rattle.std.proofs.lemmas.List.{length-append}
use Rattle.mu_receivers.specs.Chunks.{line, items_of}
use Rattle.mu_receivers.proofs.Lines.{pushed_below, skipped, sent_one, sent_all}
use Rattle.mu_receivers.proofs.lists.go_along.Goals as goal

pub loop-i-preserved-then-group-eq0 : goal.loop-i-preserved-then-group-eq0
loop-i-preserved-then-group-eq0 c = record {
  few = grind (arith, common_steps, length-append, c.push.ensures.items, c.push.ensures.len, c.if-is_full.false, c.is_full.ensures.value);
  below = λ m lt all. pushed_below m c.loop-i.spots.items _ _ c.push.ensures.items (c.loop-i.invariant.below m lt all) lt;
  within = omega (arith, c.loop-i-test.true);
  line = ap (λ x. items_of c.args.b x ++ line c.args.group c.args.b c.args.k (drop (c.loop-i.i + 1) c.args.slots.now)) c.push.ensures.items
      ∙ sent_one c.args.group c.args.b c.args.k c.args.slots.now c.loop-i.i c.index-slots-i.result c.loop-i.spots.items c.loop-i-test.true c.index-slots-i.is c.if-group-eq0.true (sym c.contains.ensures ∙ c.if-contains.true)
      ∙ c.loop-i.invariant.line;
}

pub loop-i-preserved-else-group-eq0 : goal.loop-i-preserved-else-group-eq0
loop-i-preserved-else-group-eq0 c = record {
  few = grind (arith, common_steps, length-append, c.push-else-group-eq0.ensures.items, c.push-else-group-eq0.ensures.len, c.if-is_full.false, c.is_full.ensures.value);
  below = λ m lt all. pushed_below m c.loop-i.spots.items _ _ c.push-else-group-eq0.ensures.items (c.loop-i.invariant.below m lt all) lt;
  within = omega arith;
  line = ap (λ x. items_of c.args.b x ++ line c.args.group c.args.b c.args.k (drop (length c.args.slots.now) c.args.slots.now)) c.push-else-group-eq0.ensures.items
      ∙ sent_all c.args.group c.args.b c.args.k c.args.slots.now c.loop-i.i c.index-slots-i.result c.loop-i.spots.items c.loop-i-test.true c.index-slots-i.is c.if-group-eq0.false (sym c.contains.ensures ∙ c.if-contains.true)
      ∙ c.loop-i.invariant.line;
}

pub loop-i-preserved : goal.loop-i-preserved
loop-i-preserved c = record {
  few = c.loop-i.invariant.few;
  below = c.loop-i.invariant.below;
  within = omega (arith, c.loop-i-test.true);
  line = ap (λ x. items_of c.args.b c.loop-i.spots.items ++ x) (sym (skipped c.args.group c.args.b c.args.k c.args.slots.now c.loop-i.i c.index-slots-i.result c.loop-i-test.true c.index-slots-i.is (sym c.contains.ensures ∙ c.if-contains.false))) ∙ c.loop-i.invariant.line;
}
