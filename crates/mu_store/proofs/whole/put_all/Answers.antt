use Rattle.std.proofs.Common.{rules, ◌≡◌, ◌∙◌, ℕ, ◌+◌, ◌*◌, ◌/◌, ◌≤◌, Bool, refl, sym, subst, ap, arith}
use Rattle.mu_model_record.specs.declared.Record.{Record}
use Rattle.mu_model_record.specs.Store.{bank_place, pages_of}
use Rattle.mu_store.specs.declared.whole.FillWhy.{FillWhy}
use Rattle.mu_store.specs.Source.{GivesMore}
use Rattle.mu_store.specs.Puts.{StopsBefore}
use Rattle.mu_store.proofs.FillPart.{SoFar, so_none, so_next, all_next, stops_next, stops_full, fails_full}
use Rattle.mu_store.proofs.whole.put_all.Goals as goal

-- where a page of a bank begins
page_place : (r : Record) (bank first k : ℕ) → first ≡ bank_place r bank → 4096 * (first / 4096 + k) ≡ bank_place r bank + 4096 * k
page_place r bank first k is =
    let q : ℕ = 2 + r.number + bank * r.pages in
    omega (arith, is)

-- a page of a bank lies in the flash
page_within : (r now : Record) (bank k pages : ℕ) → bank ≤ r.number → now ≡ r → pages ≡ pages_of now → bank_place r bank + 4096 * r.pages ≤ 4096 * pages_of r → k + 1 ≤ r.pages → bank_place r bank + 4096 * (k + 1) ≤ 4096 * pages
page_within r now bank k pages there same is within few =
    let all : pages ≡ pages_of r = is ∙ ap pages_of same in
    let less : 4096 * (k + 1) ≤ 4096 * r.pages = omega (arith, few) in
    omega (arith, all, within, less)

pub loop-page-init : goal.loop-page-init
loop-page-init g c = record {
  so_far = (so_none c.known.ensures) g.F.Flash.seen c.runs.ensures c.args.bank c.args.base (g.S.Source.left c.args.source.now) _ refl refl c.new.ensures (g.met.F.Flash.sound c.args.base.flash);
  faults = omega arith;
  later = omega arith;
}

pub loop-page-preserved : goal.loop-page-preserved
loop-page-preserved g c =
    let seen = g.F.Flash.seen in
    let base = c.args.base in
    let before = c.loop-page.invariant in
    let so = before.so_far in
    let part = c.loop-page.part in
    let takes = c.in-Ok.ensures.piece in
    let k = c.loop-page.page in
    let first = page_place base.fields c.args.bank c.bank_place-first.result k c.bank_place-first.ensures in
    let inside = page_within base.fields part.base.fields c.args.bank k (seen part.base.flash).pages (omega (arith, c.requires.there)) so.puts.fields part.base.pages (c.known.ensures.places.bank_within base.fields c.args.bank (4096 * base.fields.pages) c.requires.there (omega arith)) (omega (arith, c.loop-page-test.true)) in
    record {
      so_far = (so_next c.known.ensures) seen c.runs.ensures c.args.bank base k c.loop-page-test.true _ _ _ part so c.in-Ok.next (g.met.F.Flash.sound part.base.flash) inside (c.bank_place-first.result / 4096 + k) first takes (omega (arith, takes.size, so.size, takes.most, c.if-part-page.false));
      faults = search (rules, before.faults, c.in-Ok.ensures.cause);
      later = omega (arith, before.later, c.in-Ok.ensures.source.0);
    }

pub returns-then-part-page-clause-all : goal.returns-then-part-page-clause-all
returns-then-part-page-clause-all g c =
    let seen = g.F.Flash.seen in
    let base = c.args.base in
    let so = c.loop-page.invariant.so_far in
    let part = c.loop-page.part in
    let takes = c.in-Ok.ensures.piece in
    let k = c.loop-page.page in
    let first = page_place base.fields c.args.bank c.bank_place-first.result k c.bank_place-first.ensures in
    let inside = page_within base.fields part.base.fields c.args.bank k (seen part.base.flash).pages (omega (arith, c.requires.there)) so.puts.fields part.base.pages (c.known.ensures.places.bank_within base.fields c.args.bank (4096 * base.fields.pages) c.requires.there (omega arith)) (omega (arith, c.loop-page-test.true)) in
    (all_next c.known.ensures) seen c.runs.ensures c.args.bank base k c.loop-page-test.true _ _ _ part so c.in-Ok.next (g.met.F.Flash.sound part.base.flash) inside (c.bank_place-first.result / 4096 + k) first takes (omega (arith, takes.size, so.size, c.if-part-page.true))

pub returns-in-Err-clause-stops : goal.returns-in-Err-clause-stops
returns-in-Err-clause-stops g c =
    let base = c.args.base in
    let k = c.loop-page.page in
    let first = page_place base.fields c.args.bank c.bank_place-first.result k c.bank_place-first.ensures in
    (stops_next c.known.ensures) g.F.Flash.seen c.runs.ensures c.args.bank base k c.loop-page-test.true _ _ _ c.loop-page.part c.loop-page.invariant.so_far (c.bank_place-first.result / 4096 + k) first c.in-Err.fail c.in-Err.fail.why c.in-Err.ensures.stops

pub returns-in-Ok-true-clause-stops : goal.returns-in-Ok-true-clause-stops
returns-in-Ok-true-clause-stops g c =
    let base = c.args.base in
    let so = c.loop-page.invariant.so_far in
    let full : c.loop-page.page ≡ base.fields.pages = omega (arith, c.loop-page-test.false, c.loop-page.auto.page-end) in
    let whole = subst (λ (n : ℕ). SoFar g.F.Flash.seen (bank_place base.fields c.args.bank) n (g.S.Source.left c.args.source.now) (g.S.Source.left c.loop-page.source) base c.loop-page.part) full so in
    let more = subst (λ (b : Bool). GivesMore (g.S.Source.left c.loop-page.source) (g.S.Source.left c.has_more.new.source) b) c.in-Ok-true.field-0-test c.in-Ok-true.ensures.more in
    subst (λ (why : FillWhy). StopsBefore g.F.Flash.seen c.args.bank (g.S.Source.left c.args.source.now) (g.S.Source.left c.has_more.new.source) base c.fail.result why) (sym c.fail.ensures.why)
    ((stops_full c.known.ensures) g.F.Flash.seen c.runs.ensures c.args.bank base _ _ _ c.loop-page.part whole c.fail.result c.fail.ensures.flash more)

pub returns-in-Err-has_more-clause-stops : goal.returns-in-Err-has_more-clause-stops
returns-in-Err-has_more-clause-stops g c =
    let base = c.args.base in
    let so = c.loop-page.invariant.so_far in
    let full : c.loop-page.page ≡ base.fields.pages = omega (arith, c.loop-page-test.false, c.loop-page.auto.page-end) in
    let whole = subst (λ (n : ℕ). SoFar g.F.Flash.seen (bank_place base.fields c.args.bank) n (g.S.Source.left c.args.source.now) (g.S.Source.left c.loop-page.source) base c.loop-page.part) full so in
    let fail = c.fail-in-Err-has_more in
    subst (λ (why : FillWhy). StopsBefore g.F.Flash.seen c.args.bank (g.S.Source.left c.args.source.now) (g.S.Source.left c.has_more.new.source) base fail.result why) (sym fail.ensures.why)
    ((fails_full c.known.ensures) g.F.Flash.seen c.runs.ensures c.args.bank base _ _ _ c.loop-page.part whole fail.result fail.ensures.flash c.in-Err-has_more.ensures.none)
