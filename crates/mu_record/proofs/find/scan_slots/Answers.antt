use Rattle.std.proofs.Common.{◌≡◌, ℕ, List, ◌+◌, ◌*◌, ◌≤◌, IsTrue, length, sym, ◌∙◌, subst, arith}
use Rattle.mu_model_record.specs.Code.{IsCodeWord, content_of}
use Rattle.mu_model_record.specs.Page.{slot_of}
use Rattle.mu_record.specs.declared.find.Found.{Found}
use Rattle.mu_record.specs.Found.{FoundBefore, IsSoundFound}
use Rattle.mu_record.proofs.FoundLemmas.{unchanged_same, still_told, match_none, match_some, slot_none, slot_some, sound_read}
use Rattle.mu_record.proofs.find.scan_slots.Goals as goal
use Rattle.mu_record.proofs.find.scan_slots.Goals.{in-Some, in_default}

pub loop-slot-init : goal.loop-slot-init
loop-slot-init g c =
    let a = g.F.Flash.seen c.args.flash.now in
    let page = c.args.page in
    let within : IsTrue a.told → 4096 * page + 4096 ≤ length a.octets = λ told. omega (arith, ((g.met.F.Flash.sound c.args.flash.now).is_image told).size, c.requires.within) in
    record {
      same = unchanged_same a;
      found = λ told.
          let code = subst (λ (s : List ℕ). IsCodeWord s) (c.pages_of_a_flash.ensures.slots a.octets page 0 (within told) (omega arith)) (c.requires.short told).0 in
          subst (λ (f : Found). FoundBefore a.octets page 1 f) (sym c.with-found.ensures)
          (slot_some c.pages_of_a_flash.ensures.slots a.octets page 0 c.requires.control (within told) (omega arith) (c.requires.short told).0 (c.requires.short told).1 c.args.before (c.requires.found told)
          c.args.first.now c.widened.result c.record_from.result (code, c.requires.first told) c.widened.ensures c.record_from.ensures);
      sound = subst (λ (f : Found). IsSoundFound f) (sym c.with-found.ensures) (sound_read c.args.before page 2 c.widened.result c.record_from.result c.requires.control c.record_from.ensures c.requires.sound);
    }

pub loop-slot-preserved : goal.loop-slot-preserved
loop-slot-preserved g c =
    let a = g.F.Flash.seen c.args.flash.now in
    let s = g.F.Flash.seen c.loop-slot.flash in
    let page = c.args.page in
    let k = c.loop-slot.slot in
    let before = c.loop-slot.invariant in
    let same = (c.runs.ensures.join c.args.flash.now c.loop-slot.flash c.read_slot.new.flash).unchanged before.same c.in_ok-octets.ensures.same in
    let within : IsTrue a.told → 4096 * page + 4096 ≤ length a.octets = λ told. omega (arith, ((g.met.F.Flash.sound c.args.flash.now).is_image told).size, c.requires.within) in
    elim c.match-branch-2.branch [
      | in-Some w ↦ record {
        same = same;
        found = λ told.
            subst (λ (f : Found). FoundBefore a.octets page (k + 1) f) (sym (w.found-is ∙ w.with-found-in-Some.ensures))
            (slot_some c.pages_of_a_flash.ensures.slots a.octets page k c.requires.control (within told) c.loop-slot-test.true (c.requires.short told).0 (c.requires.short told).1 c.loop-slot.found (before.found told)
            w.in-Some.octets w.widened-in-Some.result w.record_from-in-Some.result
            (subst (λ (o : List ℕ). IsCodeWord (slot_of o page k) × (w.in-Some.octets ≡ content_of (slot_of o page k))) (before.same.octets told)
            (match_some _ _ c.in_ok-octets.field-0 w.in-Some.octets (c.in_ok-octets.ensures.content (still_told a s before.same told)) w.in-Some.is))
            w.widened-in-Some.ensures w.record_from-in-Some.ensures);
        sound = subst (λ (f : Found). IsSoundFound f) (sym (w.found-is ∙ w.with-found-in-Some.ensures)) (sound_read c.loop-slot.found page 2 w.widened-in-Some.result w.record_from-in-Some.result c.requires.control w.record_from-in-Some.ensures before.sound);
      }
      | in_default w ↦ record {
        same = same;
        found = λ told.
            subst (λ (f : Found). FoundBefore a.octets page (k + 1) f) (sym w.found-is)
            (slot_none c.pages_of_a_flash.ensures.slots a.octets page k c.requires.control (within told) c.loop-slot-test.true (c.requires.short told).0 (c.requires.short told).1 c.loop-slot.found (before.found told)
            (subst (λ (o : List ℕ). ¬ IsCodeWord (slot_of o page k)) (before.same.octets told)
            (match_none _ _ c.in_ok-octets.field-0 (c.in_ok-octets.ensures.content (still_told a s before.same told)) w.in_default.is)));
        sound = subst (λ (f : Found). IsSoundFound f) (sym w.found-is) before.sound;
      }
    ]
