use Rattle.std.proofs.Common.{◌≡◌, ◌<◌, ℕ, get_or}
use Rattle.mu_outside.specs.declared.ram_link.Post.{Post}
use Rattle.mu_outside.proofs.posts.post_of.Given as goal

abbrev pub invariant-loop-place : goal.invariant-loop-place
invariant-loop-place l = (p : Post) (j : ℕ) → j < l.place → (get_or l.posts j p).addr ≡ l.addr → ⊥
