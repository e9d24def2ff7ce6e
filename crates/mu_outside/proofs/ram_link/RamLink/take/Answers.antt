use Rattle.std.proofs.Common.{◌≡◌, ◌+◌, ◌<◌, ◌∙◌, ◌++◌, ap, sym, rules, None, length, drop, refl}
use Rattle.std.specs.Option.{option_to_list}
use Rattle.mu_outside.specs.Link.{found_of}
use Rattle.mu_outside.specs.RamLink.{is_posted, waiting, first}
use Rattle.mu_outside.specs.declared.ram_link.Post.{Post}
use Rattle.mu_outside.proofs.LinkLemmas.{took_here, took_others, took_next, took_bound, was_at, none_left, found_at}
use Rattle.mu_outside.proofs.ram_link.RamLink.take.Goals as goal

pub returns-then-next-len-clause-takes : goal.returns-then-next-len-clause-takes
returns-then-next-len-clause-takes c =
    let old = c.args.self.now in
    let q : Post = record { addr = c.args.addr; passed = c.next_for-next.result } in
    let skips : waiting c.args.addr (drop c.index.result.now.passed old.sent.items) ≡ waiting c.args.addr (drop c.next_for-next.result old.sent.items) = rw c.deref.ensures.value at c.next_for-next.ensures.skips in
    record {
      here = took_here c.args.addr c.args.place old.posts.items old.sent.items c.requires c.index.result.now q c.index.ensures refl None skips;
      others = took_others c.args.addr c.args.place old.posts.items old.sent.items c.requires c.index.result.now q c.index.ensures refl;
    }

pub returns-then-next-len-clause-next : goal.returns-then-next-len-clause-next
returns-then-next-len-clause-next c =
    let old = c.args.self.now in
    let skips : waiting c.args.addr (drop c.index.result.now.passed old.sent.items) ≡ waiting c.args.addr (drop c.next_for-next.result old.sent.items) = rw c.deref.ensures.value at c.next_for-next.ensures.skips in
    let end : c.next_for-next.result ≡ length old.sent.items = search rules in
    sym (ap first (took_next c.args.addr c.args.place old.posts.items old.sent.items c.requires c.index.result.now c.index.result.now c.index.ensures (rw c.index.ensures (c.requires.here _)) ∙ skips ∙ none_left c.args.addr old.sent.items _ end))

pub returns-then-next-len-clause-bound : goal.returns-then-next-len-clause-bound
returns-then-next-len-clause-bound c =
    let old = c.args.self.now in
    took_bound c.args.addr c.args.place old.posts.items old.sent.items c.requires c.index.result.now (record { addr = c.args.addr; passed = c.next_for-next.result }) c.index.ensures refl

pub returns-then-next-len-clause-was_bound : goal.returns-then-next-len-clause-was_bound
returns-then-next-len-clause-was_bound c =
    let old = c.args.self.now in
    ap is_posted (was_at c.args.addr c.args.place old.posts.items old.sent.items c.requires c.index.result.now (record { addr = c.args.addr; passed = 0 }) c.index.ensures refl)

pub returns-clause-takes : goal.returns-clause-takes
returns-clause-takes c =
    let old = c.args.self.now in
    let a = c.args.addr in
    let place = c.next_for-next.result in
    let q : Post = record { addr = a; passed = place + 1 } in
    let left = waiting a (drop (place + 1) old.sent.items) in
    let skips : waiting a (drop c.index.result.now.passed old.sent.items) ≡ waiting a (drop place old.sent.items) = rw c.deref.ensures.value at c.next_for-next.ensures.skips in
    let lt : place < length old.sent.items = search rules in
    let here = found_at a old.sent.items place c.index-2.result.now (rw c.deref.ensures.value at c.next_for-next.ensures.found) lt c.index-2.ensures in
    record {
      here = took_here a c.args.place old.posts.items old.sent.items c.requires c.index.result.now q c.index.ensures refl (found_of c.incoming.result) (skips ∙ here ∙ ap (λ f. option_to_list f ++ left) (sym c.incoming.ensures));
      others = took_others a c.args.place old.posts.items old.sent.items c.requires c.index.result.now q c.index.ensures refl;
    }

pub returns-clause-next : goal.returns-clause-next
returns-clause-next c =
    let old = c.args.self.now in
    let a = c.args.addr in
    let place = c.next_for-next.result in
    let skips : waiting a (drop c.index.result.now.passed old.sent.items) ≡ waiting a (drop place old.sent.items) = rw c.deref.ensures.value at c.next_for-next.ensures.skips in
    let lt : place < length old.sent.items = search rules in
    let here = found_at a old.sent.items place c.index-2.result.now (rw c.deref.ensures.value at c.next_for-next.ensures.found) lt c.index-2.ensures in
    c.incoming.ensures ∙ sym (ap first (took_next a c.args.place old.posts.items old.sent.items c.requires c.index.result.now c.index.result.now c.index.ensures (rw c.index.ensures (c.requires.here _)) ∙ skips ∙ here))

pub returns-clause-bound : goal.returns-clause-bound
returns-clause-bound c =
    let old = c.args.self.now in
    took_bound c.args.addr c.args.place old.posts.items old.sent.items c.requires c.index.result.now (record { addr = c.args.addr; passed = c.next_for-next.result + 1 }) c.index.ensures refl

pub returns-clause-was_bound : goal.returns-clause-was_bound
returns-clause-was_bound c =
    let old = c.args.self.now in
    ap is_posted (was_at c.args.addr c.args.place old.posts.items old.sent.items c.requires c.index.result.now (record { addr = c.args.addr; passed = 0 }) c.index.ensures refl)
