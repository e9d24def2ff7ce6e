use Rattle.std.proofs.Common.{◌≡◌, ◌-◌, length, arith, rules, sym, subst}
use Rattle.mu_record.proofs.RunLemmas.{told_back}
use Rattle.mu_model_record.specs.declared.Record.{Record}
use Rattle.mu_model_record.specs.Record.{IsSpelled, zeros}
use Rattle.mu_model_record.specs.NextLaws.{IsShortContent}
use Rattle.std.proofs.Common.{◌++◌}
use Rattle.mu_record.proofs.WriteLemmas.{broke_next, fresh_slot, slot_past, others_blank, next_ran, next_broke}
use Rattle.mu_record.proofs.write.write_next.Goals as goal

pub write_slot-requires-clause-is_blank : goal.write_slot-requires-clause-is_blank
write_slot-requires-clause-is_blank g c told =
    fresh_slot (g.F.Flash.seen c.args.flash.now) (g.F.Flash.seen c.args.flash.now) (g.met.F.Flash.sound c.args.flash.now) c.requires.place.both c.args.place.page c.requires.place.one_of_two
    c.pages_of_a_flash.ensures.slots c.args.place.fresh (4 - c.args.place.fresh) c.requires.place.is_blank (omega (arith, c.requires.place.few)) (omega (arith, c.requires.fresh)) told

pub returns-in_err-write_slot-clause-runs : goal.returns-in_err-write_slot-clause-runs
returns-in_err-write_slot-clause-runs g c d e holds next is =
    let many : length c.slot_octets.result ≡ 512 = search rules in
    let spells = subst (λ (r : Record). IsSpelled 2 r (c.slot_octets.result ++ zeros 1536)) (sym is) c.slot_octets.ensures.spelled in
    let is_short : IsShortContent e.present c.slot_octets.result = record { many = many; small = c.slot_octets.ensures.small; spells = spells } in
    broke_next _ _ _ c.from_residual.ensures.0
    (next_broke (g.F.Flash.seen c.args.flash.now) (g.F.Flash.seen c.write_slot.new.flash) (c.runs.ensures.read c.args.flash.now c.write_slot.new.flash) c.args.place.page c.args.place.fresh d e holds next c.next_records.ensures.next_slot c.requires.fresh c.requires.place.few c.slot_octets.result is_short c.in_err-write_slot.ensures.cuts)

pub returns-clause-runs : goal.returns-clause-runs
returns-clause-runs g c d e holds next is =
    let many : length c.slot_octets.result ≡ 512 = search rules in
    let spells = subst (λ (r : Record). IsSpelled 2 r (c.slot_octets.result ++ zeros 1536)) (sym is) c.slot_octets.ensures.spelled in
    let is_short : IsShortContent e.present c.slot_octets.result = record { many = many; small = c.slot_octets.ensures.small; spells = spells } in
    next_ran (g.F.Flash.seen c.args.flash.now) (g.F.Flash.seen c.write_slot.new.flash) (c.runs.ensures.read c.args.flash.now c.write_slot.new.flash) c.args.place.page c.args.place.fresh d e holds next c.next_records.ensures.next_slot c.requires.fresh c.requires.place.few c.slot_octets.result is_short c.in_ok-write_slot.ensures.cuts

pub returns-clause-stays : goal.returns-clause-stays
returns-clause-stays g c told =
    let many : length c.slot_octets.result ≡ 512 = search rules in
    slot_past (g.F.Flash.seen c.args.flash.now) (g.F.Flash.seen c.write_slot.new.flash) (g.met.F.Flash.sound c.args.flash.now) c.requires.place.both c.args.place.page c.requires.place.one_of_two
    c.ranges_of_octets.ensures.writes c.code_words.ensures.length (4 - c.args.place.fresh) (omega (arith, c.requires.fresh)) c.slot_octets.result many c.in_ok-write_slot.ensures.operations told

pub returns-clause-place : goal.returns-clause-place
returns-clause-place g c =
    let many : length c.slot_octets.result ≡ 512 = search rules in
    let keeps = c.in_ok-write_slot.ensures.operations.keeps in
    record {
      both = omega (arith, keeps.pages, c.requires.place.both);
      one_of_two = c.requires.place.one_of_two;
      few = omega (arith, c.requires.place.few);
      is_blank = λ told.
          let was = told_back (g.F.Flash.seen c.args.flash.now) (g.F.Flash.seen c.write_slot.new.flash) keeps told in
          others_blank (g.F.Flash.seen c.args.flash.now) (g.F.Flash.seen c.write_slot.new.flash) (g.met.F.Flash.sound c.args.flash.now) c.requires.place.both c.args.place.page c.requires.place.one_of_two
          c.ranges_of_octets.ensures.writes c.code_words.ensures.length (4 - c.args.place.fresh) (omega (arith, c.requires.fresh)) c.slot_octets.result many c.in_ok-write_slot.ensures.operations was c.pages_of_a_flash.ensures.slots c.args.place.fresh (c.requires.place.is_blank was) (omega (arith, c.requires.fresh, c.requires.place.few));
    }
