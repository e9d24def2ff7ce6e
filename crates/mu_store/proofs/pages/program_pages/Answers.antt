use Rattle.std.proofs.Common.{◌≡◌, ◌∙◌, ◌+◌, ◌-◌, ◌*◌, ◌<◌, ◌≤◌, ℕ, IsTrue, length, min, replicate, take, drop, sym, subst, arith, rules, ap}
use Rattle.std.proofs.lemmas.List.{length-take-le, length-drop}
use Rattle.mu_model_flash.specs.Bits.{blank, part_of, SameOutside}
use Rattle.mu_model_image.specs.Pieces.{piece_count}
use Rattle.mu_model_record.specs.Ways.{outside}
use Rattle.mu_store.proofs.PutLemmas.{put_none, rest_all}
use Rattle.mu_store.proofs.PartLemmas.{blank_in, range-part}
use Rattle.mu_store.proofs.RunLemmas.{broke_runs, told_back, told_on, unchanged_keeps, unchanged_same}
use Rattle.mu_store.proofs.PagePuts.{put_more, rest_more}
use Rattle.mu_store.proofs.RunOfPages.{next_broke, next_ran, one_broke, one_out, one_ran}
use Rattle.mu_store.proofs.pages.program_pages.Goals as goal

pub loop-page-init : goal.loop-page-init
loop-page-init g c =
    let a = g.F.Flash.seen c.args.flash.now in
    record {
      keeps = unchanged_keeps a a (unchanged_same a);
      ran = λ on. (c.runs.ensures.read c.args.flash.now c.args.flash.now).none (outside (4096 * c.args.first) (length c.args.octets.now) a.octets) tt (g.met.F.Flash.sound c.args.flash.now) (unchanged_same a) on (λ told. c.known.ensures.ranges.writes.outside_same (4096 * c.args.first) (length c.args.octets.now) a.octets);
      outside = λ told. c.known.ensures.ranges.writes.outside_same (4096 * c.args.first) (length c.args.octets.now) a.octets;
      put = λ told. put_none a.octets (4096 * c.args.first) c.args.octets.now;
      rest = λ told. rest_all a.octets (4096 * c.args.first) (length c.args.octets.now) (c.requires.is_blank told);
    }

pub program-requires-clause-is_blank : goal.program-requires-clause-is_blank
program-requires-clause-is_blank g c now =
    let a = g.F.Flash.seen c.args.flash.now in
    let s = g.F.Flash.seen c.loop-page.flash in
    let before = c.loop-page.invariant in
    let octets = c.args.octets.now in
    let at : ℕ = 4096 * c.args.first in
    let k : ℕ = 4096 * c.loop-page.page in
    let m : ℕ = c.min-to.result - k in
    let lt : k < length octets = search rules in
    let m_is : m ≤ length octets - k = omega (arith, c.min-to.ensures, lt) in
    let size : length (take m (drop k octets)) ≡ m = length-take-le m (drop k octets) (omega (arith, length-drop k octets, m_is)) in
    let told = told_back a s before.keeps now in
    let within : at + length octets ≤ length s.octets = omega (arith, ((g.met.F.Flash.sound c.loop-page.flash).is_image now).size, before.keeps.pages, c.requires.within) in
    let zero : at + k + 0 ≡ at + k = omega arith in
    range-part s.octets (at + k) (length (take m (drop k octets))) ∙ ap (λ (n : ℕ). part_of s.octets n (length (take m (drop k octets)))) (sym zero)
    ∙ blank_in s.octets (at + k) (length octets - k) 0 (length (take m (drop k octets))) (omega (arith, within, lt)) (omega (arith, size, m_is)) (before.rest told)

pub loop-page-preserved : goal.loop-page-preserved
loop-page-preserved g c =
    let a = g.F.Flash.seen c.args.flash.now in
    let s = g.F.Flash.seen c.loop-page.flash in
    let before = c.loop-page.invariant in
    let octets = c.args.octets.now in
    let at : ℕ = 4096 * c.args.first in
    let k : ℕ = 4096 * c.loop-page.page in
    let m : ℕ = c.min-to.result - k in
    let lt : k < length octets = search rules in
    let m_is : m ≤ length octets - k = omega (arith, c.min-to.ensures, lt) in
    let size : length (take m (drop k octets)) ≡ m = length-take-le m (drop k octets) (omega (arith, length-drop k octets, m_is)) in
    let b = g.F.Flash.seen c.program.new.self in
    let from : at ≤ at + k = omega arith in
    let to : at + k + length (take m (drop k octets)) ≤ at + length octets = omega (arith, size, m_is, lt) in
    let low : IsTrue s.told → at + length octets ≤ length s.octets = λ now. omega (arith, ((g.met.F.Flash.sound c.loop-page.flash).is_image now).size, before.keeps.pages, c.requires.within) in
    let within : IsTrue s.told → at + k + length (take m (drop k octets)) ≤ length s.octets = λ now. omega (arith, low now, to) in
    let so_far : IsTrue s.told → SameOutside at (length octets) a.octets s.octets = λ now. before.outside (told_back a s before.keeps now) in
    let done = c.in_ok-program.ensures.runs in
    let up : min (length octets) (4096 * (c.loop-page.page + 1)) ≡ k + m = omega (arith, c.min-to.ensures, lt) in
    let was : min (length octets) k ≡ k = omega (arith, lt) in
    let page : k + 4096 ≡ 4096 * (c.loop-page.page + 1) = omega arith in
    let place : at + k + 4096 ≡ at + 4096 * (c.loop-page.page + 1) = omega arith in
    record {
      keeps = (c.runs.ensures.join c.args.flash.now c.loop-page.flash c.program.new.self).keeps before.keeps done.keeps;
      ran = λ on. next_ran a.octets at (length octets) a s b c.loop-page.page (before.ran on) (c.runs.ensures.join c.args.flash.now c.loop-page.flash c.program.new.self) ((one_ran c.known.ensures) a.octets s b at (length octets) (at + k) (take m (drop k octets)) from to within so_far (c.runs.ensures.read c.loop-page.flash c.program.new.self) done);
      outside = λ told. (one_out c.known.ensures) a.octets s b at (length octets) (at + k) (take m (drop k octets)) from to within so_far done (told_on a s before.keeps told);
      put = λ told.
          let now = told_on a s before.keeps told in
          subst (λ (n : ℕ). part_of b.octets at n ≡ take n octets) (sym up)
          ((put_more c.known.ensures) s.octets b.octets octets at k m lt m_is (low now) (done.ends now) (subst (λ (n : ℕ). part_of s.octets at n ≡ take n octets) was (before.put told)));
      rest = λ told.
          let now = told_on a s before.keeps told in
          subst (λ (n : ℕ). part_of b.octets n (length octets - 4096 * (c.loop-page.page + 1)) ≡ blank (length octets - 4096 * (c.loop-page.page + 1))) place
          (subst (λ (n : ℕ). part_of b.octets (at + k + 4096) (length octets - n) ≡ blank (length octets - n)) page
          ((rest_more c.known.ensures) s.octets b.octets octets at k m lt m_is (low now) (done.ends now) 4096 (omega (arith, c.min-to.ensures)) (λ more. omega (arith, c.min-to.ensures, more)) (before.rest told)));
    }

pub returns-in_err-program-clause-runs : goal.returns-in_err-program-clause-runs
returns-in_err-program-clause-runs g c on =
    let a = g.F.Flash.seen c.args.flash.now in
    let s = g.F.Flash.seen c.loop-page.flash in
    let before = c.loop-page.invariant in
    let octets = c.args.octets.now in
    let at : ℕ = 4096 * c.args.first in
    let k : ℕ = 4096 * c.loop-page.page in
    let m : ℕ = c.min-to.result - k in
    let lt : k < length octets = search rules in
    let m_is : m ≤ length octets - k = omega (arith, c.min-to.ensures, lt) in
    let size : length (take m (drop k octets)) ≡ m = length-take-le m (drop k octets) (omega (arith, length-drop k octets, m_is)) in
    let b = g.F.Flash.seen c.program.new.self in
    let from : at ≤ at + k = omega arith in
    let to : at + k + length (take m (drop k octets)) ≤ at + length octets = omega (arith, size, m_is, lt) in
    let low : IsTrue s.told → at + length octets ≤ length s.octets = λ now. omega (arith, ((g.met.F.Flash.sound c.loop-page.flash).is_image now).size, before.keeps.pages, c.requires.within) in
    let within : IsTrue s.told → at + k + length (take m (drop k octets)) ≤ length s.octets = λ now. omega (arith, low now, to) in
    let so_far : IsTrue s.told → SameOutside at (length octets) a.octets s.octets = λ now. before.outside (told_back a s before.keeps now) in
    let total : ℕ = piece_count (length octets) 4096 in
    let more : c.loop-page.page < piece_count (length octets) 4096 = omega (arith, lt) in
    broke_runs (outside at (length octets) a.octets) tt (replicate (piece_count (length octets) 4096) tt) a b c.from_residual.result c.from_residual.ensures.0
    (next_broke a.octets at (length octets) a s b c.loop-page.page (before.ran on) (c.runs.ensures.join c.args.flash.now c.loop-page.flash c.program.new.self) (c.runs.ensures.read c.args.flash.now c.program.new.self) (piece_count (length octets) 4096) more
    ((one_broke c.known.ensures) a.octets s b at (length octets) (at + k) (take m (drop k octets)) from to within so_far (c.runs.ensures.read c.loop-page.flash c.program.new.self) c.in_err-program.ensures.runs))
