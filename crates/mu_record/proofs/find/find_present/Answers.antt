use Rattle.std.proofs.Common.{ℕ, List, sym, ◌∙◌, subst, arith}
use Rattle.mu_record.specs.Found.{FoundBefore}
use Rattle.mu_record.proofs.FoundLemmas.{unchanged_same, still_told, next_page, all_found, nothing_before}
use Rattle.mu_record.proofs.find.find_present.Goals as goal

pub loop-page-init : goal.loop-page-init
loop-page-init g c = record {
  same = unchanged_same (g.F.Flash.seen c.args.flash.now);
  found = λ told. nothing_before (g.F.Flash.seen c.args.flash.now).octets;
  sound = tt;
  on = λ some. absurd (omega (arith, some));
}

pub loop-page-preserved : goal.loop-page-preserved
loop-page-preserved g c =
    let a = g.F.Flash.seen c.args.flash.now in
    let s = g.F.Flash.seen c.loop-page.flash in
    let before = c.loop-page.invariant in
    record {
      same = (c.runs.ensures.join c.args.flash.now c.loop-page.flash c.scan_page.new.flash).unchanged before.same c.in_ok-found.ensures.reads.same;
      found = λ told. next_page a.octets c.loop-page.page c.in_ok-found.found (subst (λ (o : List ℕ). FoundBefore o c.loop-page.page 4 c.in_ok-found.found) (before.same.octets told) (c.in_ok-found.ensures.found (still_told a s before.same told)));
      sound = c.in_ok-found.ensures.sound;
      on = λ some. sym before.same.off ∙ c.in_ok-found.ensures.on;
    }

pub returns-clause-found : goal.returns-clause-found
returns-clause-found g c told =
    let a = g.F.Flash.seen c.args.flash.now in
    all_found a.octets a.pages c.loop-page.page c.loop-page.found ((g.met.F.Flash.sound c.args.flash.now).is_image told).size
    (omega (arith, c.loop-page-test.false, c.loop-page.auto.page-end, c.min-pages.ensures, c.pages.ensures)) (c.loop-page.invariant.found told)
