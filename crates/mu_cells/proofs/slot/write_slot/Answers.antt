use Rattle.std.proofs.Common.{◌≡◌, ◌+◌, [], ◌∷◌, List, ℕ, length, slice_range, ap, ◌∙◌, sym, subst, arith, rules}
use Rattle.mu_model_flash.specs.Bits.{blank, written}
use Rattle.mu_model_flash.specs.Run.{exact, Runs}
use Rattle.mu_model_record.specs.Page.{slot_place}
use Rattle.mu_cells.proofs.TurnLemmas.{slot_runs, slot_word_runs}
use Rattle.mu_cells.proofs.slot.write_slot.Goals as goal

pub program-requires-clause-is_blank : goal.program-requires-clause-is_blank
program-requires-clause-is_blank g c told =
    let many : length c.args.octets.now ≡ 512 = search rules in
    let size : length c.encode.new.word ≡ 1024 = omega (arith, ap length c.encode.ensures, c.code_words.ensures.length c.args.octets.now, many) in
    ap (λ (n : ℕ). slice_range (g.F.Flash.seen c.args.flash.now).octets (slot_place c.args.page c.args.slot) (slot_place c.args.page c.args.slot + n)) size
    ∙ c.ranges_of_octets.ensures.parts.range_part _ (slot_place c.args.page c.args.slot) 1024 ∙ c.requires.is_blank told ∙ ap blank (sym size)

pub returns-clause-cuts : goal.returns-clause-cuts
returns-clause-cuts g c =
    let many : length c.args.octets.now ≡ 512 = search rules in
    let a = g.F.Flash.seen c.args.flash.now in
    let runs = subst (λ (bytes : List ℕ). Runs exact a.octets (written a.octets (slot_place c.args.page c.args.slot) bytes ∷ []) a (g.F.Flash.seen c.program.new.self) c.program.result) c.encode.ensures c.program.ensures.runs in
    slot_runs a (g.met.F.Flash.sound c.args.flash.now) _ c.program.result (c.runs.ensures.read c.args.flash.now c.program.new.self) c.turns.ensures.slot c.args.page c.args.slot _ c.requires.within c.requires.one_of_four many (λ i. c.fits-octets i) c.requires.is_blank runs

pub returns-clause-words : goal.returns-clause-words
returns-clause-words g c can =
    let many : length c.args.octets.now ≡ 512 = search rules in
    slot_word_runs (g.F.Flash.seen c.args.flash.now) (g.met.F.Flash.sound c.args.flash.now) _ c.program.result (c.runs.ensures.read c.args.flash.now c.program.new.self) c.turns.ensures.slot c.args.page c.args.slot _ c.requires.within c.requires.one_of_four many (λ i. c.fits-octets i) can (returns-clause-cuts g c)
