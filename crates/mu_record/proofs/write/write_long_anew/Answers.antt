use Rattle.std.proofs.Common.{[], ◌∷◌, arith}
use Rattle.mu_model_record.specs.Ways.{as_anything}
use Rattle.mu_record.proofs.RunLemmas.{told_on, broke_runs, then_runs}
use Rattle.mu_record.proofs.AnewLemmas.{ran_one, broke_one, runs_two, where_done, page_erased, first_long}
use Rattle.mu_record.proofs.write.write_long_anew.Goals as goal

pub returns-in_err-erase_page-clause-runs : goal.returns-in_err-erase_page-clause-runs
returns-in_err-erase_page-clause-runs g c =
    let a = g.F.Flash.seen c.args.flash.now in
    let b = g.F.Flash.seen c.erase_page.new.flash in
    let ab = c.runs.ensures.read c.args.flash.now c.erase_page.new.flash in
    broke_runs as_anything tt (tt ∷ tt ∷ tt ∷ []) a b c.from_residual.result c.from_residual.ensures.0
    (ab.longer as_anything tt (tt ∷ []) (tt ∷ tt ∷ []) (broke_one a b ab _ _ c.in_err-erase_page.ensures.operations))

pub returns-clause-runs : goal.returns-clause-runs
returns-clause-runs g c =
    let a = g.F.Flash.seen c.args.flash.now in
    let b = g.F.Flash.seen c.erase_page.new.flash in
    let f = g.F.Flash.seen c.write_page.new.flash in
    then_runs as_anything tt (tt ∷ []) (tt ∷ tt ∷ []) a b f (c.runs.ensures.join c.args.flash.now c.erase_page.new.flash c.write_page.new.flash) c.write_page.result
    (ran_one a b (c.runs.ensures.read c.args.flash.now c.erase_page.new.flash) _ _ c.in_ok-erase_page.ensures.operations)
    (runs_two b f (c.runs.ensures.read c.erase_page.new.flash c.write_page.new.flash) _ _ _ c.write_page.result c.write_page.ensures.operations)

pub returns-clause-control : goal.returns-clause-control
returns-clause-control g c told =
    let a = g.F.Flash.seen c.args.flash.now in
    let b = g.F.Flash.seen c.erase_page.new.flash in
    let f = g.F.Flash.seen c.write_page.new.flash in
    let erased = c.in_ok-erase_page.ensures.operations in
    let told_b = told_on a b erased.keeps told in
    where_done _ _ _ b f c.write_page.result c.write_page.ensures.operations
    (λ ran. first_long c.next_records.ensures.first f.octets b.octets (omega (arith, ((g.met.F.Flash.sound c.erase_page.new.flash).is_image told_b).size, erased.keeps.pages, c.requires.both))
    (page_erased c.ranges_of_octets.ensures.writes a b (g.met.F.Flash.sound c.args.flash.now) c.requires.both 1 (omega arith) erased told) c.args.fields.now
    c.record_octets.result (record { many = c.record_octets.ensures.spelled.whole; small = c.record_octets.ensures.small; spells = c.record_octets.ensures.spelled }) (ran.ends told_b))
