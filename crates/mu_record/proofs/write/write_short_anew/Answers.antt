use Rattle.std.proofs.Common.{◌≡◌, ◌∙◌, ◌≤◌, [], ◌∷◌, length, arith, rules}
use Rattle.mu_model_record.specs.Ways.{as_octets, as_anything}
use Rattle.mu_record.proofs.RunLemmas.{told_on, told_back, broke_runs, runs_keep, then_runs}
use Rattle.mu_record.proofs.WriteLemmas.{fresh_slot, slot_past, erased_past, erased_followed}
use Rattle.mu_record.proofs.AnewLemmas.{ran_one, broke_one, runs_one, where_done, page_erased, page_kept, first_short}
use Rattle.mu_record.proofs.write.write_short_anew.Goals as goal

pub returns-in_err-erase_page-clause-runs : goal.returns-in_err-erase_page-clause-runs
returns-in_err-erase_page-clause-runs g c =
    let a = g.F.Flash.seen c.args.flash.now in
    let b = g.F.Flash.seen c.erase_page.new.flash in
    broke_runs as_anything tt (tt ∷ tt ∷ tt ∷ []) a b c.from_residual.result c.from_residual.ensures.0
    ((c.runs.ensures.read c.args.flash.now c.erase_page.new.flash).longer as_anything tt (tt ∷ []) (tt ∷ tt ∷ []) (broke_one a b (c.runs.ensures.read c.args.flash.now c.erase_page.new.flash) _ _ c.in_err-erase_page.ensures.operations))

pub returns-in_err-erase_page-2-clause-runs : goal.returns-in_err-erase_page-2-clause-runs
returns-in_err-erase_page-2-clause-runs g c =
    let a = g.F.Flash.seen c.args.flash.now in
    let b = g.F.Flash.seen c.erase_page.new.flash in
    let d = g.F.Flash.seen c.erase_page-2.new.flash in
    broke_runs as_anything tt (tt ∷ tt ∷ tt ∷ []) a d c.from_residual-in_err-erase_page-2.result c.from_residual-in_err-erase_page-2.ensures.0
    ((c.runs.ensures.read c.args.flash.now c.erase_page-2.new.flash).longer as_anything tt (tt ∷ tt ∷ []) (tt ∷ [])
    ((c.runs.ensures.join c.args.flash.now c.erase_page.new.flash c.erase_page-2.new.flash).broke as_anything tt (tt ∷ []) (tt ∷ []) (ran_one a b (c.runs.ensures.read c.args.flash.now c.erase_page.new.flash) _ _ c.in_ok-erase_page.ensures.operations)
    (broke_one b d (c.runs.ensures.read c.erase_page.new.flash c.erase_page-2.new.flash) _ _ c.in_err-erase_page-2.ensures.operations)))

pub write_slot-requires-clause-is_blank : goal.write_slot-requires-clause-is_blank
write_slot-requires-clause-is_blank g c told =
    let b = g.F.Flash.seen c.erase_page.new.flash in
    let d = g.F.Flash.seen c.erase_page-2.new.flash in
    let first = c.in_ok-erase_page.ensures.operations in
    let second = c.in_ok-erase_page-2.ensures.operations in
    let both_b : 2 ≤ b.pages = omega (arith, first.keeps.pages, c.requires.both) in
    fresh_slot d d (g.met.F.Flash.sound c.erase_page-2.new.flash) (omega (arith, second.keeps.pages, both_b)) 0 (omega arith) c.pages_of_a_flash.ensures.slots 4 0
    (λ t. erased_followed b d (g.met.F.Flash.sound c.erase_page.new.flash) both_b 0 (omega arith) c.ranges_of_octets.ensures.writes second (told_back b d second.keeps told)) (omega arith) (omega arith) told

pub returns-clause-runs : goal.returns-clause-runs
returns-clause-runs g c =
    let a = g.F.Flash.seen c.args.flash.now in
    let b = g.F.Flash.seen c.erase_page.new.flash in
    let d = g.F.Flash.seen c.erase_page-2.new.flash in
    let f = g.F.Flash.seen c.write_slot.new.flash in
    then_runs as_anything tt (tt ∷ tt ∷ []) (tt ∷ []) a d f (c.runs.ensures.join c.args.flash.now c.erase_page-2.new.flash c.write_slot.new.flash) c.write_slot.result
    ((c.runs.ensures.join c.args.flash.now c.erase_page.new.flash c.erase_page-2.new.flash).ran as_anything tt (tt ∷ []) (tt ∷ [])
    (ran_one a b (c.runs.ensures.read c.args.flash.now c.erase_page.new.flash) _ _ c.in_ok-erase_page.ensures.operations)
    (ran_one b d (c.runs.ensures.read c.erase_page.new.flash c.erase_page-2.new.flash) _ _ c.in_ok-erase_page-2.ensures.operations))
    (runs_one d f (c.runs.ensures.read c.erase_page-2.new.flash c.write_slot.new.flash) _ _ c.write_slot.result c.write_slot.ensures.operations)

pub returns-clause-stays : goal.returns-clause-stays
returns-clause-stays g c told =
    let many : length c.slot_octets.result ≡ 512 = search rules in
    let a = g.F.Flash.seen c.args.flash.now in
    let b = g.F.Flash.seen c.erase_page.new.flash in
    let d = g.F.Flash.seen c.erase_page-2.new.flash in
    let f = g.F.Flash.seen c.write_slot.new.flash in
    let first = c.in_ok-erase_page.ensures.operations in
    let second = c.in_ok-erase_page-2.ensures.operations in
    let both_b : 2 ≤ b.pages = omega (arith, first.keeps.pages, c.requires.both) in
    let both_d : 2 ≤ d.pages = omega (arith, second.keeps.pages, both_b) in
    let told_b = told_on a b first.keeps told in
    let told_d = told_on b d second.keeps told_b in
    where_done _ _ _ d f c.write_slot.result c.write_slot.ensures.operations
    (λ ran. c.ranges_of_octets.ensures.writes.outside_on 0 8192 a.octets b.octets f.octets (erased_past a b (g.met.F.Flash.sound c.args.flash.now) c.requires.both 1 (omega arith) c.ranges_of_octets.ensures.writes first told)
    (c.ranges_of_octets.ensures.writes.outside_on 0 8192 b.octets d.octets f.octets (erased_past b d (g.met.F.Flash.sound c.erase_page.new.flash) both_b 0 (omega arith) c.ranges_of_octets.ensures.writes second told_b)
    (slot_past d f (g.met.F.Flash.sound c.erase_page-2.new.flash) both_d 0 (omega arith) c.ranges_of_octets.ensures.writes c.code_words.ensures.length 0 (omega arith) c.slot_octets.result many ran told_d)))

pub returns-clause-control : goal.returns-clause-control
returns-clause-control g c told =
    let many : length c.slot_octets.result ≡ 512 = search rules in
    let a = g.F.Flash.seen c.args.flash.now in
    let b = g.F.Flash.seen c.erase_page.new.flash in
    let d = g.F.Flash.seen c.erase_page-2.new.flash in
    let f = g.F.Flash.seen c.write_slot.new.flash in
    let first = c.in_ok-erase_page.ensures.operations in
    let second = c.in_ok-erase_page-2.ensures.operations in
    let both_b : 2 ≤ b.pages = omega (arith, first.keeps.pages, c.requires.both) in
    let both_d : 2 ≤ d.pages = omega (arith, second.keeps.pages, both_b) in
    let told_b = told_on a b first.keeps told in
    let told_d = told_on b d second.keeps told_b in
    where_done _ _ _ d f c.write_slot.result c.write_slot.ensures.operations
    (λ ran. first_short c.next_records.ensures.first f.octets d.octets (omega (arith, ((g.met.F.Flash.sound c.erase_page-2.new.flash).is_image told_d).size, both_d))
    (page_kept c.ranges_of_octets.ensures.writes b d (g.met.F.Flash.sound c.erase_page.new.flash) both_b second told_b ∙ page_erased c.ranges_of_octets.ensures.writes a b (g.met.F.Flash.sound c.args.flash.now) c.requires.both 1 (omega arith) first told) c.args.fields.now
    (page_erased c.ranges_of_octets.ensures.writes b d (g.met.F.Flash.sound c.erase_page.new.flash) both_b 0 (omega arith) second told_b)
    c.slot_octets.result (record { many = many; small = c.slot_octets.ensures.small; spells = c.slot_octets.ensures.spelled }) (ran.ends told_d))

pub returns-clause-keeps : goal.returns-clause-keeps
returns-clause-keeps g c =
    let a = g.F.Flash.seen c.args.flash.now in
    let d = g.F.Flash.seen c.erase_page-2.new.flash in
    let f = g.F.Flash.seen c.write_slot.new.flash in
    (c.runs.ensures.join c.args.flash.now c.erase_page-2.new.flash c.write_slot.new.flash).keeps
    ((c.runs.ensures.join c.args.flash.now c.erase_page.new.flash c.erase_page-2.new.flash).keeps c.in_ok-erase_page.ensures.operations.keeps c.in_ok-erase_page-2.ensures.operations.keeps)
    (runs_keep as_octets d.octets _ d f c.write_slot.result c.write_slot.ensures.operations)
