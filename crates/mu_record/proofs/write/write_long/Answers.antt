use Rattle.std.proofs.Common.{◌≡◌, ◌+◌, ◌-◌, arith, sym, subst}
use Rattle.mu_model_record.specs.declared.Record.{Record}
use Rattle.mu_model_record.specs.Record.{IsSpelled}
use Rattle.mu_model_record.specs.NextLaws.{IsLongContent}
use Rattle.mu_record.proofs.WriteLemmas.{broke_next, long_ran, long_broke, safe}
use Rattle.mu_record.proofs.write.write_long.Goals as goal

pub returns-in_err-write_page-clause-runs : goal.returns-in_err-write_page-clause-runs
returns-in_err-write_page-clause-runs g c d e holds next is =
    let two : 1 - c.args.place.page + c.args.place.page ≡ 1 = omega (arith, c.requires.place.one_of_two) in
    let spells = subst (λ (r : Record). IsSpelled 1 r c.record_octets.result) (sym is) c.record_octets.ensures.spelled in
    let is_long : IsLongContent e.present c.record_octets.result = record { many = c.record_octets.ensures.spelled.whole; small = c.record_octets.ensures.small; spells = spells } in
    let reads = c.runs.ensures.read c.args.flash.now c.write_page.new.flash in
    let law = c.next_records.ensures.other_page in
    let a = g.F.Flash.seen c.args.flash.now in
    let b = g.F.Flash.seen c.write_page.new.flash in
    broke_next _ _ _ c.from_residual.ensures.0
    (long_broke a b reads c.args.place.page c.args.place.fresh d e holds next law (1 - c.args.place.page) two c.record_octets.result is_long
    (c.in_err-write_page.ensures.cuts (λ told. safe a b reads c.args.place.page c.args.place.fresh d e holds next law (1 - c.args.place.page) two) c.record_octets.ensures.spelled.format_at_4))

pub returns-clause-runs : goal.returns-clause-runs
returns-clause-runs g c d e holds next is =
    let two : 1 - c.args.place.page + c.args.place.page ≡ 1 = omega (arith, c.requires.place.one_of_two) in
    let spells = subst (λ (r : Record). IsSpelled 1 r c.record_octets.result) (sym is) c.record_octets.ensures.spelled in
    let is_long : IsLongContent e.present c.record_octets.result = record { many = c.record_octets.ensures.spelled.whole; small = c.record_octets.ensures.small; spells = spells } in
    let reads = c.runs.ensures.read c.args.flash.now c.write_page.new.flash in
    let law = c.next_records.ensures.other_page in
    let a = g.F.Flash.seen c.args.flash.now in
    let b = g.F.Flash.seen c.write_page.new.flash in
    long_ran a b reads c.args.place.page c.args.place.fresh d e holds next law (1 - c.args.place.page) two c.record_octets.result is_long
    (c.in_ok-write_page.ensures.cuts (λ told. safe a b reads c.args.place.page c.args.place.fresh d e holds next law (1 - c.args.place.page) two) c.record_octets.ensures.spelled.format_at_4)
