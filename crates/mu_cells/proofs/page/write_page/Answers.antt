use Rattle.std.proofs.Common.{◌≡◌, ◌*◌, [], ◌∷◌, List, ℕ, length, ap, subst, arith, rules}
use Rattle.mu_model_flash.specs.Bits.{blank, written}
use Rattle.mu_model_flash.specs.Run.{exact, Runs}
use Rattle.mu_model_record.specs.Code.{coded}
use Rattle.mu_model_record.specs.Ways.{as_octets}
use Rattle.mu_cells.proofs.TurnLemmas.{broke_runs, page_runs, page_word_runs, write_stays, page_operations, erased_reads}
use Rattle.mu_cells.proofs.page.write_page.Goals as goal

pub returns-in_err-erase-clause-operations : goal.returns-in_err-erase-clause-operations
returns-in_err-erase-clause-operations g c =
    let old = (g.F.Flash.seen c.args.flash.now).octets in
    broke_runs as_octets _ _ _ _ _ c.from_residual.ensures.0
    ((c.runs.ensures.read c.args.flash.now c.erase.new.self).longer as_octets _ (written old (4096 * c.args.page) (blank 4096) ∷ []) (written old (4096 * c.args.page) (coded c.args.octets.now) ∷ []) c.in_err-erase.ensures.runs)

pub returns-in_err-erase-clause-cuts : goal.returns-in_err-erase-clause-cuts
returns-in_err-erase-clause-cuts g c safe long =
    let many : length c.args.octets.now ≡ 2048 = search rules in
    page_runs _ (g.met.F.Flash.sound c.args.flash.now) _ c.from_residual.result (c.runs.ensures.read c.args.flash.now c.erase.new.self) c.turns.ensures.page c.args.page _ c.requires.within many (λ i. c.fits-octets i) long safe (returns-in_err-erase-clause-operations g c)

pub program-requires-clause-is_blank : goal.program-requires-clause-is_blank
program-requires-clause-is_blank g c told =
    let many : length c.args.octets.now ≡ 2048 = search rules in
    let size : length c.encode.new.word ≡ 4096 = omega (arith, ap length c.encode.ensures, c.code_words.ensures.length c.args.octets.now, many) in
    erased_reads (g.F.Flash.seen c.args.flash.now) (g.met.F.Flash.sound c.args.flash.now) c.turns.ensures.erase c.args.page c.requires.within _ c.in_ok-erase.ensures.runs told c.ranges_of_octets.ensures.parts c.encode.new.word size

pub returns-clause-operations : goal.returns-clause-operations
returns-clause-operations g c =
    let many : length c.args.octets.now ≡ 2048 = search rules in
    let b = g.F.Flash.seen c.erase.new.self in
    let second = subst (λ (bytes : List ℕ). Runs exact b.octets (written b.octets (4096 * c.args.page) bytes ∷ []) b (g.F.Flash.seen c.program.new.self) c.program.result) c.encode.ensures c.program.ensures.runs in
    page_operations c.ranges_of_octets.ensures.writes c.ranges_of_octets.ensures.parts c.code_words.ensures.length (g.F.Flash.seen c.args.flash.now) b (g.F.Flash.seen c.program.new.self) (g.met.F.Flash.sound c.args.flash.now)
    (c.runs.ensures.join c.args.flash.now c.erase.new.self c.program.new.self) (c.runs.ensures.read c.erase.new.self c.program.new.self) c.args.page c.args.octets.now c.requires.within many c.in_ok-erase.ensures.runs c.program.result second

pub returns-clause-cuts : goal.returns-clause-cuts
returns-clause-cuts g c safe long =
    let many : length c.args.octets.now ≡ 2048 = search rules in
    page_runs _ (g.met.F.Flash.sound c.args.flash.now) _ c.program.result (c.runs.ensures.read c.args.flash.now c.program.new.self) c.turns.ensures.page c.args.page _ c.requires.within many (λ i. c.fits-octets i) long safe (returns-clause-operations g c)

pub returns-in_err-erase-clause-outside : goal.returns-in_err-erase-clause-outside
returns-in_err-erase-clause-outside g c =
    let many : length c.args.octets.now ≡ 2048 = search rules in
    write_stays _ (g.met.F.Flash.sound c.args.flash.now) _ c.from_residual.result (c.runs.ensures.read c.args.flash.now c.erase.new.self) c.turns.ensures.page c.args.page _ c.requires.within many c.code_words.ensures.length (returns-in_err-erase-clause-operations g c)

pub returns-clause-outside : goal.returns-clause-outside
returns-clause-outside g c =
    let many : length c.args.octets.now ≡ 2048 = search rules in
    write_stays _ (g.met.F.Flash.sound c.args.flash.now) _ c.program.result (c.runs.ensures.read c.args.flash.now c.program.new.self) c.turns.ensures.page c.args.page _ c.requires.within many c.code_words.ensures.length (returns-clause-operations g c)

pub returns-in_err-erase-clause-words : goal.returns-in_err-erase-clause-words
returns-in_err-erase-clause-words g c safe long =
    let many : length c.args.octets.now ≡ 2048 = search rules in
    page_word_runs _ (g.met.F.Flash.sound c.args.flash.now) _ c.from_residual.result (c.runs.ensures.read c.args.flash.now c.erase.new.self) c.turns.ensures.page c.args.page _ c.requires.within many (λ i. c.fits-octets i) long (returns-in_err-erase-clause-cuts g c safe long)

pub returns-clause-words : goal.returns-clause-words
returns-clause-words g c safe long =
    let many : length c.args.octets.now ≡ 2048 = search rules in
    page_word_runs _ (g.met.F.Flash.sound c.args.flash.now) _ c.program.result (c.runs.ensures.read c.args.flash.now c.program.new.self) c.turns.ensures.page c.args.page _ c.requires.within many (λ i. c.fits-octets i) long (returns-clause-cuts g c safe long)
