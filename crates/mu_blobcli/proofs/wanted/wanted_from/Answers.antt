use Rattle.std.proofs.Common.{arith}
use Rattle.mu_rounds.specs.Rounds.{rest_of}
use Rattle.mu_blobcli.specs.Wanted.{is_asked}
use Rattle.mu_blobcli.proofs.Places.{next_wanted, next_long, all_wanted}
use Rattle.mu_blobcli.proofs.wanted.wanted_from.Goals as goal

pub loop-k-preserved : goal.loop-k-preserved
loop-k-preserved c =
    let n = c.args.left.now.chunks in
    let slots = c.args.slots.now in
    let before = c.loop-k in
    let set = c.want_if.new.set in
    record {
      long = next_long before.set set before.k n (is_asked slots before.from before.k) c.want_if.ensures before.invariant.long;
      within = omega arith;
      so = λ p. next_wanted p.group c.args.left.now.block n before.k before.from slots before.set set _ c.loop-k-test.true before.invariant.long c.want_if.ensures (before.invariant.so p);
    }

pub returns : goal.returns
returns c p =
    let left = c.args.left.now in
    all_wanted p.group left.block left.chunks c.loop-k.k c.loop-k.from c.args.slots.now (rest_of p c.args.slots.now left) c.loop-k.set c.loop-k-test.false c.loop-k.invariant.long (c.loop-k.invariant.so p)
