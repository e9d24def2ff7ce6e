use Rattle.std.proofs.Common.{ℕ, List, sym, subst, arith}
use Rattle.mu_distributor_answers.proofs.Deleted.{Keeping, none_kept, turned, all_kept}
use Rattle.mu_distributor_answers.proofs.images.delete_images.Goals as goal

pub loop-i-init : goal.loop-i-init
loop-i-init c =
    subst (λ (l : List ℕ). Keeping c.args.fwid.now c.args.banks.now.items c.args.metas.now 0 l c.args.metas.now) (sym c.new-kept.ensures)
    (none_kept c.args.fwid.now c.args.banks.now.items c.args.metas.now c.args.metas.now)

pub loop-i-preserved : goal.loop-i-preserved
loop-i-preserved c =
    turned c.args.fwid.now c.args.banks.now.items c.args.metas.now c.loop-i.i _ _ _ _ _ _ (omega (arith, c.loop-i-test.true, c.len-i-end.ensures)) c.has_id-gone.result (sym c.has_id-gone.ensures)
    c.keep_unless.ensures.gone (rw c.as_slice.ensures.value at c.keep_unless.ensures.kept) c.loop-i.invariant

pub returns : goal.returns
returns c images are =
    all_kept c.args.fwid.now c.args.banks.now.items c.args.metas.now c.loop-i.i _ _ images (omega (arith, c.loop-i-test.false, c.len-i-end.ensures)) c.loop-i.invariant are
