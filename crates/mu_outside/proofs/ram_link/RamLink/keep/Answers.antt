use Rattle.std.proofs.Common.{◌≡◌, ◌∙◌, ap, rules, ◌++◌, ◌&&◌, List, ℕ}
use Rattle.mu_outside.specs.RamLink.{ahead, passed, is_posted, goes_to}
use Rattle.mu_outside.proofs.LinkLemmas.{ahead_more, passed_within, reached}
use Rattle.mu_outside.proofs.ram_link.RamLink.keep.Goals as goal

pub returns-clause-reaches : goal.returns-clause-reaches
returns-clause-reaches c a =
    let old = c.args.self.now in
    let octets : c.try_extend_from_slice-fits.new.self.items ≡ c.args.bytes.now = search rules in
    ap (λ l. ahead a l (passed old.posts.items a)) c.push_reserved.ensures.items
    ∙ ahead_more a old.sent.items _ (passed old.posts.items a) (passed_within old.posts.items _ a old.behind)
    ∙ ap (λ (l : List ℕ). ahead a old.sent.items (passed old.posts.items a) ++ reached (is_posted (passed old.posts.items a) && goes_to a c.args.from c.args.to) l) octets
