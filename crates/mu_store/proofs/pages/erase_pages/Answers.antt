use Rattle.std.proofs.Common.{◌≡◌, ℕ, ◌+◌, ◌*◌, ◌≤◌, IsTrue, length, replicate, subst, arith}
use Rattle.mu_model_flash.specs.Bits.{blank, SameOutside}
use Rattle.mu_model_flash.specs.Run.{either, Ran}
use Rattle.mu_model_record.specs.Turns.{StaysOutside}
use Rattle.mu_model_record.specs.Ways.{outside}
use Rattle.mu_store.proofs.PartLemmas.{length-blank, part_empty}
use Rattle.mu_store.proofs.RunLemmas.{broke_runs, told_back, told_on, unchanged_keeps, unchanged_same}
use Rattle.mu_store.proofs.PagePuts.{erased_more}
use Rattle.mu_store.proofs.RunOfPages.{next_broke, next_ran, one_broke, one_out, one_ran}
use Rattle.mu_store.proofs.pages.erase_pages.Goals as goal

pub loop-page-init : goal.loop-page-init
loop-page-init g c =
    let a = g.F.Flash.seen c.args.flash.now in
    record {
      keeps = unchanged_keeps a a (unchanged_same a);
      ran = λ on. (c.runs.ensures.read c.args.flash.now c.args.flash.now).none (outside (4096 * c.args.first) (4096 * c.args.pages) a.octets) tt (g.met.F.Flash.sound c.args.flash.now) (unchanged_same a) on (λ told. c.known.ensures.ranges.writes.outside_same (4096 * c.args.first) (4096 * c.args.pages) a.octets);
      outside = λ told. c.known.ensures.ranges.writes.outside_same (4096 * c.args.first) (4096 * c.args.pages) a.octets;
      erased = λ told. part_empty a.octets (4096 * c.args.first);
    }

pub loop-page-preserved : goal.loop-page-preserved
loop-page-preserved g c =
    let a = g.F.Flash.seen c.args.flash.now in
    let s = g.F.Flash.seen c.loop-page.flash in
    let b = g.F.Flash.seen c.erase.new.self in
    let before = c.loop-page.invariant in
    let k = c.loop-page.page in
    let ff : length (blank 4096) ≡ 4096 = length-blank 4096 in
    let from : 4096 * c.args.first ≤ 4096 * (c.args.first + k) = omega arith in
    let to : 4096 * (c.args.first + k) + length (blank 4096) ≤ 4096 * c.args.first + 4096 * c.args.pages = omega (arith, ff, c.loop-page-test.true) in
    let within : IsTrue s.told → 4096 * (c.args.first + k) + length (blank 4096) ≤ length s.octets = λ told.
    omega (arith, ff, ((g.met.F.Flash.sound c.loop-page.flash).is_image told).size, before.keeps.pages, c.requires, c.loop-page-test.true) in
    let so_far : IsTrue s.told → SameOutside (4096 * c.args.first) (4096 * c.args.pages) a.octets s.octets = λ told. before.outside (told_back a s before.keeps told) in
    let done = c.in_ok-erase.ensures.runs in
    record {
      keeps = (c.runs.ensures.join c.args.flash.now c.loop-page.flash c.erase.new.self).keeps before.keeps done.keeps;
      ran = λ on. next_ran a.octets (4096 * c.args.first) (4096 * c.args.pages) a s b k (before.ran on) (c.runs.ensures.join c.args.flash.now c.loop-page.flash c.erase.new.self)
          ((one_ran c.known.ensures) a.octets s b (4096 * c.args.first) (4096 * c.args.pages) (4096 * (c.args.first + k)) (blank 4096) from to within so_far (c.runs.ensures.read c.loop-page.flash c.erase.new.self) done);
      outside = λ told. (one_out c.known.ensures) a.octets s b (4096 * c.args.first) (4096 * c.args.pages) (4096 * (c.args.first + k)) (blank 4096) from to within so_far done (told_on a s before.keeps told);
      erased = λ told.
          let now = told_on a s before.keeps told in
          (erased_more c.known.ensures) s.octets b.octets c.args.first k (omega (arith, ff, within now)) (done.ends now) (before.erased told);
    }

pub returns-in_err-erase-clause-runs : goal.returns-in_err-erase-clause-runs
returns-in_err-erase-clause-runs g c on =
    let a = g.F.Flash.seen c.args.flash.now in
    let s = g.F.Flash.seen c.loop-page.flash in
    let b = g.F.Flash.seen c.erase.new.self in
    let before = c.loop-page.invariant in
    let k = c.loop-page.page in
    let ff : length (blank 4096) ≡ 4096 = length-blank 4096 in
    let from : 4096 * c.args.first ≤ 4096 * (c.args.first + k) = omega arith in
    let to : 4096 * (c.args.first + k) + length (blank 4096) ≤ 4096 * c.args.first + 4096 * c.args.pages = omega (arith, ff, c.loop-page-test.true) in
    let within : IsTrue s.told → 4096 * (c.args.first + k) + length (blank 4096) ≤ length s.octets = λ told.
    omega (arith, ff, ((g.met.F.Flash.sound c.loop-page.flash).is_image told).size, before.keeps.pages, c.requires, c.loop-page-test.true) in
    let so_far : IsTrue s.told → SameOutside (4096 * c.args.first) (4096 * c.args.pages) a.octets s.octets = λ told. before.outside (told_back a s before.keeps told) in
    broke_runs (outside (4096 * c.args.first) (4096 * c.args.pages) a.octets) tt (replicate c.args.pages tt) a b c.from_residual.result c.from_residual.ensures.0
    (next_broke a.octets (4096 * c.args.first) (4096 * c.args.pages) a s b k (before.ran on) (c.runs.ensures.join c.args.flash.now c.loop-page.flash c.erase.new.self) (c.runs.ensures.read c.args.flash.now c.erase.new.self) c.args.pages c.loop-page-test.true
    ((one_broke c.known.ensures) a.octets s b (4096 * c.args.first) (4096 * c.args.pages) (4096 * (c.args.first + k)) (blank 4096) from to within so_far (c.runs.ensures.read c.loop-page.flash c.erase.new.self) c.in_err-erase.ensures.runs))

pub returns-clause-runs : goal.returns-clause-runs
returns-clause-runs g c on =
    let a = g.F.Flash.seen c.args.flash.now in
    let all : c.loop-page.page ≡ c.args.pages = omega (arith, c.loop-page-test.false, c.loop-page.auto.page-end) in
    subst (λ (k : ℕ). Ran (either (StaysOutside (4096 * c.args.first) (4096 * c.args.pages) a.octets)) tt (replicate k tt) a (g.F.Flash.seen c.loop-page.flash)) all (c.loop-page.invariant.ran on)
