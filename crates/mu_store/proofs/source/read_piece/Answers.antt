use Rattle.std.proofs.Common.{rules, ◌≡◌, ◌+◌, ◌-◌, ◌≤◌, ℕ, List, length, take, sym, subst, arith}
use borrow.Rule.Slice.PartMut.{put_mid}
use Rattle.mu_store.specs.Source.{Gave}
use Rattle.mu_store.proofs.SourceLemmas.{gave_on, gave_some, put_on, put_long}
use Rattle.mu_store.proofs.source.read_piece.Goals as goal

pub loop-filled-preserved : goal.loop-filled-preserved
loop-filled-preserved g c =
    let before = c.loop-filled.invariant in
    let a = c.loop-filled.filled in
    let xs = c.loop-filled.piece in
    let ys = c.read.new.out in
    let some : c.in_ok-count.count ≤ length c.read.new.out = search rules in
    let is : take (a + c.in_ok-count.count) (put_mid a (length xs - a) xs ys) ≡ _ = put_on a c.in_ok-count.count (length xs - a) xs ys before.low some in
    record {
      low = put_long a c.in_ok-count.count (length xs - a) xs ys before.low some;
      gave = subst (λ (l : List ℕ). Gave (g.S.Source.left c.args.source.now) (g.S.Source.left c.read.new.self) l) (sym is) (gave_on _ _ _ _ _ before.gave (gave_some _ _ _ _ c.in_ok-count.ensures.gives));
      later = omega (arith, before.later, c.in_ok-count.ensures.cause.later);
    }
