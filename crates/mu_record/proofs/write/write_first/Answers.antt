use Rattle.std.proofs.Common.{◌≡◌, ◌+◌, ◌-◌, ◌<◌, [], ◌∷◌, length, arith, rules, sym, subst}
use Rattle.std.proofs.Common.{◌++◌}
use Rattle.mu_record.proofs.RunLemmas.{told_back, told_on}
use Rattle.mu_model_record.specs.Ways.{as_store}
use Rattle.mu_model_record.specs.NextLaws.{IsShortContent}
use Rattle.mu_model_record.specs.declared.Record.{Record}
use Rattle.mu_model_record.specs.Record.{IsSpelled, zeros}
use Rattle.mu_record.proofs.WriteLemmas.{broke_next, safe, fresh_slot, slot_past, others_blank, erased_past, erased_followed, erase_ran, erase_broke, erased_first, first_ran, first_broke}
use Rattle.mu_record.proofs.write.write_first.Goals as goal

pub returns-in_err-erase_page-clause-runs : goal.returns-in_err-erase_page-clause-runs
returns-in_err-erase_page-clause-runs g c d e holds next is =
    let two : 1 - c.args.place.page + c.args.place.page ≡ 1 = omega (arith, c.requires.place.one_of_two) in
    let a = g.F.Flash.seen c.args.flash.now in
    let b = g.F.Flash.seen c.erase_page.new.flash in
    let ab = c.runs.ensures.read c.args.flash.now c.erase_page.new.flash in
    let law = c.next_records.ensures.other_page in
    broke_next _ _ _ c.from_residual.ensures.0
    (ab.longer as_store d (d ∷ []) (e ∷ []) (erase_broke a b ab c.args.place.page c.args.place.fresh d e holds next law (1 - c.args.place.page) two
    (c.in_err-erase_page.ensures.cuts (λ told. safe a b ab c.args.place.page c.args.place.fresh d e holds next law (1 - c.args.place.page) two))))

pub write_slot-requires-clause-is_blank : goal.write_slot-requires-clause-is_blank
write_slot-requires-clause-is_blank g c told =
    let a = g.F.Flash.seen c.args.flash.now in
    let b = g.F.Flash.seen c.erase_page.new.flash in
    let ran = c.in_ok-erase_page.ensures.operations in
    let was = told_back a b ran.keeps told in
    let two : 1 - c.args.place.page < 2 = omega arith in
    fresh_slot b b (g.met.F.Flash.sound c.erase_page.new.flash) (omega (arith, ran.keeps.pages, c.requires.place.both)) (1 - c.args.place.page) two c.pages_of_a_flash.ensures.slots 4 0
    (λ t. erased_followed a b (g.met.F.Flash.sound c.args.flash.now) c.requires.place.both (1 - c.args.place.page) two c.ranges_of_octets.ensures.writes ran was) (omega arith) (omega arith) told

pub returns-in_err-write_slot-clause-runs : goal.returns-in_err-write_slot-clause-runs
returns-in_err-write_slot-clause-runs g c d e holds next is =
    let two : 1 - c.args.place.page + c.args.place.page ≡ 1 = omega (arith, c.requires.place.one_of_two) in
    let many : length c.slot_octets.result ≡ 512 = search rules in
    let spells = subst (λ (r : Record). IsSpelled 2 r (c.slot_octets.result ++ zeros 1536)) (sym is) c.slot_octets.ensures.spelled in
    let is_short : IsShortContent e.present c.slot_octets.result = record { many = many; small = c.slot_octets.ensures.small; spells = spells } in
    let a = g.F.Flash.seen c.args.flash.now in
    let b = g.F.Flash.seen c.erase_page.new.flash in
    let f = g.F.Flash.seen c.write_slot.new.flash in
    let other = 1 - c.args.place.page in
    let ab = c.runs.ensures.read c.args.flash.now c.erase_page.new.flash in
    let bf = c.runs.ensures.read c.erase_page.new.flash c.write_slot.new.flash in
    let join = c.runs.ensures.join c.args.flash.now c.erase_page.new.flash c.write_slot.new.flash in
    let law = c.next_records.ensures.other_page in
    let ran = c.in_ok-erase_page.ensures.cuts (λ told. safe a b ab c.args.place.page c.args.place.fresh d e holds next law other two) in
    broke_next _ _ _ c.from_residual-in_err-write_slot.ensures.0
    (join.broke as_store d (d ∷ []) (e ∷ []) (erase_ran a b ab c.args.place.page c.args.place.fresh d e holds next law other two ran)
    (first_broke law b f bf c.args.place.page other two holds.word d e (told_on a b ran.keeps holds.told) (erased_first a b ab c.args.place.page c.args.place.fresh d e holds next law other two ran) c.slot_octets.result is_short c.in_err-write_slot.ensures.cuts))

pub returns-clause-runs : goal.returns-clause-runs
returns-clause-runs g c d e holds next is =
    let two : 1 - c.args.place.page + c.args.place.page ≡ 1 = omega (arith, c.requires.place.one_of_two) in
    let many : length c.slot_octets.result ≡ 512 = search rules in
    let spells = subst (λ (r : Record). IsSpelled 2 r (c.slot_octets.result ++ zeros 1536)) (sym is) c.slot_octets.ensures.spelled in
    let is_short : IsShortContent e.present c.slot_octets.result = record { many = many; small = c.slot_octets.ensures.small; spells = spells } in
    let a = g.F.Flash.seen c.args.flash.now in
    let b = g.F.Flash.seen c.erase_page.new.flash in
    let f = g.F.Flash.seen c.write_slot.new.flash in
    let other = 1 - c.args.place.page in
    let ab = c.runs.ensures.read c.args.flash.now c.erase_page.new.flash in
    let bf = c.runs.ensures.read c.erase_page.new.flash c.write_slot.new.flash in
    let join = c.runs.ensures.join c.args.flash.now c.erase_page.new.flash c.write_slot.new.flash in
    let law = c.next_records.ensures.other_page in
    let ran = c.in_ok-erase_page.ensures.cuts (λ told. safe a b ab c.args.place.page c.args.place.fresh d e holds next law other two) in
    let last = first_ran law b f bf c.args.place.page other two holds.word d e (told_on a b ran.keeps holds.told) (erased_first a b ab c.args.place.page c.args.place.fresh d e holds next law other two ran) c.slot_octets.result is_short c.in_ok-write_slot.ensures.cuts in
    (join.ran as_store d (d ∷ []) (e ∷ []) (erase_ran a b ab c.args.place.page c.args.place.fresh d e holds next law other two ran) last.0, last.1)

pub returns-clause-stays : goal.returns-clause-stays
returns-clause-stays g c told =
    let many : length c.slot_octets.result ≡ 512 = search rules in
    let a = g.F.Flash.seen c.args.flash.now in
    let b = g.F.Flash.seen c.erase_page.new.flash in
    let f = g.F.Flash.seen c.write_slot.new.flash in
    let two : 1 - c.args.place.page < 2 = omega arith in
    let ran = c.in_ok-erase_page.ensures.operations in
    c.ranges_of_octets.ensures.writes.outside_on 0 8192 a.octets b.octets f.octets
    (erased_past a b (g.met.F.Flash.sound c.args.flash.now) c.requires.place.both (1 - c.args.place.page) two c.ranges_of_octets.ensures.writes ran told)
    (slot_past b f (g.met.F.Flash.sound c.erase_page.new.flash) (omega (arith, ran.keeps.pages, c.requires.place.both)) (1 - c.args.place.page) two c.ranges_of_octets.ensures.writes c.code_words.ensures.length 0 (omega arith) c.slot_octets.result many c.in_ok-write_slot.ensures.operations (told_on a b ran.keeps told))

pub returns-clause-place : goal.returns-clause-place
returns-clause-place g c =
    let many : length c.slot_octets.result ≡ 512 = search rules in
    let a = g.F.Flash.seen c.args.flash.now in
    let b = g.F.Flash.seen c.erase_page.new.flash in
    let f = g.F.Flash.seen c.write_slot.new.flash in
    let two : 1 - c.args.place.page < 2 = omega arith in
    let ran = c.in_ok-erase_page.ensures.operations in
    let more = c.in_ok-write_slot.ensures.operations in
    record {
      both = omega (arith, ran.keeps.pages, more.keeps.pages, c.requires.place.both);
      one_of_two = two;
      few = omega arith;
      is_blank = λ told.
          let then = told_back b f more.keeps told in
          let was = told_back a b ran.keeps then in
          others_blank b f (g.met.F.Flash.sound c.erase_page.new.flash) (omega (arith, ran.keeps.pages, c.requires.place.both)) (1 - c.args.place.page) two c.ranges_of_octets.ensures.writes c.code_words.ensures.length 0 (omega arith) c.slot_octets.result many more then c.pages_of_a_flash.ensures.slots 4
          (erased_followed a b (g.met.F.Flash.sound c.args.flash.now) c.requires.place.both (1 - c.args.place.page) two c.ranges_of_octets.ensures.writes ran was) (omega arith);
    }
