use Rattle.std.proofs.Common.{◌≡◌, ap, sym, get_or, arith, rules}
use Rattle.mu_outside.specs.RamLink.{is_posted}
use Rattle.mu_outside.specs.declared.ram_link.Post.{Post}
use Rattle.mu_outside.proofs.LinkLemmas.{passed_none, passed_at}
use Rattle.mu_outside.proofs.posts.post_of.Goals as goal

pub returns-clause-none : goal.returns-clause-none
returns-clause-none c =
    passed_none c.args.posts.now c.args.addr (λ p j lt. c.loop-place.invariant p j (omega arith))

pub returns-clause-bound : goal.returns-clause-bound
returns-clause-bound c =
    sym (ap is_posted (passed_none c.args.posts.now c.args.addr (λ p j lt. c.loop-place.invariant p j (omega arith))))

pub returns-then-post-addr-clause-bound : goal.returns-then-post-addr-clause-bound
returns-then-post-addr-clause-bound c =
    let none : Post = record { addr = 0; passed = 0 } in
    let is : (get_or c.args.posts.now c.loop-place.place none).addr ≡ c.args.addr = search rules in
    sym (ap is_posted (passed_at c.args.posts.now c.args.addr c.loop-place.place none (omega arith) is (λ j lt. c.loop-place.invariant none j lt)))
