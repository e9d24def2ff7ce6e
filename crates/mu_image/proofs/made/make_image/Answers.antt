use Rattle.std.proofs.Common.{arith}
use Rattle.std.proofs.lemmas.List.FromFn.{map-range_with_len_more}
use Rattle.mu_model_image.specs.Made.{made_octet}
use Rattle.mu_image.proofs.made.make_image.Goals as goal

pub loop-i-preserved : goal.loop-i-preserved
loop-i-preserved c =
    let more = map-range_with_len_more (made_octet c.args.seed) 0 c.loop-i.i c.loop-i.i (omega arith) in
    cc (more, c.in_ok-push.ensures.items)
