use Rattle.std.proofs.Common.{◌≡◌, ◌+◌, ◌*◌, ◌++◌, ◌<◌, List, ℕ, min, length, sym, subst, arith, rules}
use Rattle.std.proofs.lemmas.List.{length-take-le}
use Rattle.mu_image.specs.Digests.{HasTaken}
use Rattle.mu_model_flash.specs.Bits.{part_of}
use Rattle.mu_store.proofs.ReadLemmas.{part_none, part_page}
use Rattle.mu_store.proofs.RunLemmas.{still_told, unchanged_same}
use Rattle.mu_store.proofs.digest.digest_of.Goals as goal

pub loop-page-init : goal.loop-page-init
loop-page-init g c = record {
  same = unchanged_same (g.F.Flash.seen c.args.flash.now);
  taken = λ told. subst (λ (l : List ℕ). HasTaken c.new-digesting.result l) (sym (part_none (g.F.Flash.seen c.args.flash.now).octets c.args.at c.args.size)) c.new-digesting.ensures;
}

pub loop-page-preserved : goal.loop-page-preserved
loop-page-preserved g c =
    let a = g.F.Flash.seen c.args.flash.now in
    let s = g.F.Flash.seen c.loop-page.flash in
    let before = c.loop-page.invariant in
    let below : 4096 * c.loop-page.page < c.args.size = search rules in
    let whole : length c.loop-page.piece ≡ 4096 = search rules in
    let count = c.min-count.result in
    record {
      same = (c.runs.ensures.join c.args.flash.now c.loop-page.flash c.take_piece.new.flash).unchanged before.same c.in_ok-take_piece.ensures.reads.same;
      taken = λ told.
          subst (λ (l : List ℕ). HasTaken c.take_piece.new.digesting l) (part_page a.octets c.args.at c.args.size c.loop-page.page count below c.min-count.ensures)
          (subst (λ (o : List ℕ). HasTaken c.take_piece.new.digesting (part_of a.octets c.args.at (min c.args.size (4096 * c.loop-page.page)) ++ part_of o (c.args.at + 4096 * c.loop-page.page) count)) (before.same.octets told)
          (subst (λ (n : ℕ). HasTaken c.take_piece.new.digesting (part_of a.octets c.args.at (min c.args.size (4096 * c.loop-page.page)) ++ part_of s.octets (c.args.at + 4096 * c.loop-page.page) n))
          (length-take-le count c.loop-page.piece (omega (arith, whole, c.min-count.ensures)))
          (c.in_ok-take_piece.ensures.taken (still_told a s before.same told) (part_of a.octets c.args.at (min c.args.size (4096 * c.loop-page.page))) (before.taken told))));
    }
