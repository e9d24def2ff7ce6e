use Rattle.std.proofs.Common.{ℕ, subst, ◌∙◌, ◌+◌, ◌*◌, ◌<◌, sym, arith}
use Rattle.mu_model_record.specs.Store.{content_of_bank, pages_of}
use Rattle.mu_model_record.specs.Record.{IsFilling, entry_of}
use Rattle.mu_model_record.specs.declared.Record.{Record}
use Rattle.mu_store.proofs.FreeBase.{free_ran, free_broke, still_holds, still_place, marks_free, page_out, page_blank}
use Rattle.mu_store.proofs.RunLemmas.{told_back, told_on}
use Rattle.mu_store.proofs.base.Base.erase_marks.Goals as goal

lies : (r : Record) (bank : ℕ) → bank < r.number → 2 + bank < pages_of r
lies r bank lt = omega (arith, lt)

pub invariant_of-result : goal.invariant_of-result
invariant_of-result g c =
    let a = g.F.Flash.seen c.args.self.flash in
    let b = g.F.Flash.seen c.erase_page.new.flash in
    let ran = c.in-Ok.ensures.operations in
    let low : 2 + c.args.bank < a.pages = omega (arith, lies c.args.self.fields c.args.bank c.requires.there, c.args.self.pages) in
    record {
      is_place = (still_place c.known.ensures) a b c.args.self.place.page c.args.self.place.fresh (4096 * (2 + c.args.bank)) 4096 (g.met.F.Flash.sound c.args.self.flash) c.args.self.is_place (omega arith) ran.keeps.pages
          (told_back a b ran.keeps) ((page_out c.known.ensures) a b (g.met.F.Flash.sound c.args.self.flash) (2 + c.args.bank) low ran);
      pages = ran.keeps.pages ∙ c.args.self.pages;
      in_range = c.args.self.in_range;
    }

pub returns-in-Ok-clause-blank : goal.returns-in-Ok-clause-blank
returns-in-Ok-clause-blank g c told i lt =
    let a = g.F.Flash.seen c.args.self.flash in
    let b = g.F.Flash.seen c.erase_page.new.flash in
    let ran = c.in-Ok.ensures.operations in
    let low : 2 + c.args.bank < a.pages = omega (arith, lies c.args.self.fields c.args.bank c.requires.there, c.args.self.pages) in
    (page_blank c.known.ensures) a b (g.met.F.Flash.sound c.args.self.flash) (2 + c.args.bank) low ran (told_back a b ran.keeps told) i lt

pub returns-in-Ok-clause-runs : goal.returns-in-Ok-clause-runs
returns-in-Ok-clause-runs g c d holds rests =
    let a = g.F.Flash.seen c.args.self.flash in
    let b = g.F.Flash.seen c.erase_page.new.flash in
    let ran = c.in-Ok.ensures.operations in
    let low : 2 + c.args.bank < a.pages = omega (arith, lies c.args.self.fields c.args.bank c.requires.there, c.args.self.pages) in
    let there : c.args.bank < d.present.number = subst (λ (r : Record). c.args.bank < r.number) (sym holds.fields) c.requires.there in
    let none = subst (λ (r : Record). (n : ℕ) → ¬ IsFilling (entry_of r n)) (sym holds.fields) rests in
    let free = marks_free d.present c.args.bank there none (content_of_bank d) in
    let page = c.args.self.place.page in
    let fresh = c.args.self.place.fresh in
    let told = told_on a b ran.keeps holds.at.told in (
      (free_ran c.known.ensures) a b (c.runs.ensures.read c.args.self.flash c.erase_page.new.flash) page fresh d holds.at (4096 * (2 + c.args.bank)) 4096 (omega arith) free 1 c.in-Ok.ensures.outside,
      record {
        at = (still_holds c.known.ensures) a b page fresh d holds.at (4096 * (2 + c.args.bank)) 4096 (omega arith) free told (ran.on ∙ sym holds.at.on) ((page_out c.known.ensures) a b (g.met.F.Flash.sound c.args.self.flash) (2 + c.args.bank) low ran holds.at.told);
        fields = holds.fields;
      },
    )

pub returns-in-Err-clause-runs : goal.returns-in-Err-clause-runs
returns-in-Err-clause-runs g c d holds rests =
    let a = g.F.Flash.seen c.args.self.flash in
    let b = g.F.Flash.seen c.erase_page.new.flash in
    let there : c.args.bank < d.present.number = subst (λ (r : Record). c.args.bank < r.number) (sym holds.fields) c.requires.there in
    let none = subst (λ (r : Record). (n : ℕ) → ¬ IsFilling (entry_of r n)) (sym holds.fields) rests in
    (free_broke c.known.ensures) a b (c.runs.ensures.read c.args.self.flash c.erase_page.new.flash) c.args.self.place.page c.args.self.place.fresh d holds.at (4096 * (2 + c.args.bank)) 4096 (omega arith) (marks_free d.present c.args.bank there none (content_of_bank d)) 1 c.in-Err.ensures.outside
