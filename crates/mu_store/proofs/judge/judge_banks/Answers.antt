use Rattle.std.proofs.Common.{arith}
use Rattle.mu_model_record.specs.Kinds.{other_size, other_mark}
use Rattle.mu_store.proofs.JudgeLemmas.{match_none}
use Rattle.mu_store.proofs.judge.judge_banks.Goals as goal

pub returns-then-pages-pages_of-clause-judged : goal.returns-then-pages-pages_of-clause-judged
returns-then-pages-pages_of-clause-judged g c told =
    let present = c.requires.present told in
    let size = ((g.met.F.Flash.sound c.args.flash.now).is_image told).size in
    other_size c.args.page present.0 c.args.fields present.1 (λ is. c.if-pages-pages_of.true (omega (arith, is, size, c.pages.ensures, c.pages_of.ensures)))

pub returns-in_default-clause-judged : goal.returns-in_default-clause-judged
returns-in_default-clause-judged g c told =
    let present = c.requires.present told in
    let size = ((g.met.F.Flash.sound c.args.flash.now).is_image told).size in
    other_mark c.args.fields (record { page = c.args.page; word = present.0; is = present.1; size = omega (arith, size, c.pages.ensures, c.pages_of.ensures, c.if-pages-pages_of.false) })
    (match_none _ _ c.in_ok-marks.field-0 (c.in_ok-marks.ensures.marks told) c.in_default.is)
