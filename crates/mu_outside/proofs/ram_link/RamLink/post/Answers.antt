use Rattle.std.proofs.Common.{◌≡◌, ◌∙◌, ap, rules, List, length, refl}
use Rattle.mu_outside.specs.RamLink.{ahead, passed, is_posted}
use Rattle.mu_outside.specs.declared.ram_link.Post.{Post}
use Rattle.mu_outside.proofs.LinkLemmas.{bound_here, passed_more_other, waits_same}
use Rattle.mu_outside.proofs.ram_link.RamLink.post.Goals as goal

pub returns-clause-bound : goal.returns-clause-bound
returns-clause-bound c =
    let old = c.args.self.now in
    record {
      here = ap (λ (l : List Post). is_posted (passed l c.args.addr)) c.push_reserved.ensures.items ∙ bound_here old.posts.items (record { addr = c.args.addr; passed = c.len.result }) old.sent.items c.requires.0;
      others = λ a other. ap (λ (l : List Post). is_posted (passed l a)) c.push_reserved.ensures.items ∙ ap is_posted (passed_more_other old.posts.items (record { addr = c.args.addr; passed = c.len.result }) a other);
      answers = refl;
      sent = refl;
    }

pub returns-clause-waits : goal.returns-clause-waits
returns-clause-waits c a =
    let old = c.args.self.now in
    let all : c.len.result ≡ length old.sent.items = search rules in
    ap (λ (l : List Post). ahead a old.sent.items (passed l a)) c.push_reserved.ensures.items ∙ waits_same old.posts.items (record { addr = c.args.addr; passed = c.len.result }) old.sent.items c.requires.0 all a
