use Rattle.std.proofs.Common.{◌≡◌, ℕ, List, ◌+◌, ◌*◌, ◌≤◌, IsTrue, length, sym, subst, arith}
use Rattle.mu_model_record.specs.Code.{IsCodeWord, content_of}
use Rattle.mu_model_record.specs.Page.{page_of, slot_of, slot_in, IsLong}
use Rattle.mu_record.specs.declared.find.Found.{Found}
use Rattle.mu_record.specs.Found.{FoundBefore}
use Rattle.mu_record.proofs.FoundLemmas.{still_told, match_none, match_some, page_none, first_code, is_short, long_none, long_some}
use Rattle.mu_record.proofs.find.scan_page.Goals as goal

pub returns-in_default-clause-found : goal.returns-in_default-clause-found
returns-in_default-clause-found g c told =
    let a = g.F.Flash.seen c.args.flash.now in
    page_none c.pages_of_a_flash.ensures.slots a.octets c.args.page c.requires.control (omega (arith, ((g.met.F.Flash.sound c.args.flash.now).is_image told).size, c.requires.within)) c.args.before (c.requires.found told)
    (match_none _ _ c.in_ok-first.field-0 (c.in_ok-first.ensures.content told) c.in_default.is)

pub scan_slots-requires-clause-short : goal.scan_slots-requires-clause-short
scan_slots-requires-clause-short g c now_told =
    let a = g.F.Flash.seen c.args.flash.now in
    let b = g.F.Flash.seen c.read_slot.new.flash in
    let told : IsTrue a.told = subst (λ t. IsTrue t) c.in_ok-first.ensures.same.told now_told in
    let within : 4096 * c.args.page + 4096 ≤ length a.octets = omega (arith, ((g.met.F.Flash.sound c.args.flash.now).is_image told).size, c.requires.within) in
    let code = match_some _ _ c.in_ok-first.field-0 c.in-Some.first (c.in_ok-first.ensures.content told) c.in-Some.is in
    subst (λ (o : List ℕ). IsCodeWord (slot_in (page_of o c.args.page) 0) × ¬ IsLong (page_of o c.args.page)) (sym (c.in_ok-first.ensures.same.octets told))
    (first_code c.pages_of_a_flash.ensures.slots a.octets c.args.page c.requires.control within c.args.before (c.requires.found told) c.in-Some.first code, is_short c.pages_of_a_flash.ensures.slots a.octets c.args.page c.requires.control within c.args.before (c.requires.found told) c.in-Some.first code c.if-first-ne-LONG.true)

pub scan_slots-requires-clause-first : goal.scan_slots-requires-clause-first
scan_slots-requires-clause-first g c now_told =
    let a = g.F.Flash.seen c.args.flash.now in
    let told : IsTrue a.told = subst (λ t. IsTrue t) c.in_ok-first.ensures.same.told now_told in
    let code = match_some _ _ c.in_ok-first.field-0 c.in-Some.first (c.in_ok-first.ensures.content told) c.in-Some.is in
    subst (λ (o : List ℕ). c.in-Some.first ≡ content_of (slot_of o c.args.page 0)) (sym (c.in_ok-first.ensures.same.octets told)) code.1

pub returns-in-Some-2-clause-found : goal.returns-in-Some-2-clause-found
returns-in-Some-2-clause-found g c told =
    let a = g.F.Flash.seen c.args.flash.now in
    let b = g.F.Flash.seen c.read_slot.new.flash in
    let within : 4096 * c.args.page + 4096 ≤ length a.octets = omega (arith, ((g.met.F.Flash.sound c.args.flash.now).is_image told).size, c.requires.within) in
    let code = match_some _ _ c.in_ok-first.field-0 c.in-Some.first (c.in_ok-first.ensures.content told) c.in-Some.is in
    subst (λ (f : Found). FoundBefore a.octets c.args.page 4 f) (sym c.with.ensures)
    (long_some c.pages_of_a_flash.ensures.slots a.octets c.args.page c.requires.control within c.args.before (c.requires.found told) c.in-Some.first code c.if-first-ne-LONG.false c.in-Some-2.octets c.record_from.result
    (subst (λ (o : List ℕ). IsCodeWord (page_of o c.args.page) × (c.in-Some-2.octets ≡ content_of (page_of o c.args.page))) (c.in_ok-first.ensures.same.octets told)
    (match_some _ _ c.in_ok-octets.field-0 c.in-Some-2.octets (c.in_ok-octets.ensures.content (still_told a b c.in_ok-first.ensures.same told)) c.in-Some-2.is))
    c.record_from.ensures)

pub returns-in-None-clause-found : goal.returns-in-None-clause-found
returns-in-None-clause-found g c told =
    let a = g.F.Flash.seen c.args.flash.now in
    let b = g.F.Flash.seen c.read_slot.new.flash in
    let within : 4096 * c.args.page + 4096 ≤ length a.octets = omega (arith, ((g.met.F.Flash.sound c.args.flash.now).is_image told).size, c.requires.within) in
    let code = match_some _ _ c.in_ok-first.field-0 c.in-Some.first (c.in_ok-first.ensures.content told) c.in-Some.is in
    long_none c.pages_of_a_flash.ensures.slots a.octets c.args.page c.requires.control within c.args.before (c.requires.found told) c.in-Some.first code c.if-first-ne-LONG.false
    (subst (λ (o : List ℕ). ¬ IsCodeWord (page_of o c.args.page)) (c.in_ok-first.ensures.same.octets told)
    (match_none _ _ c.in_ok-octets.field-0 (c.in_ok-octets.ensures.content (still_told a b c.in_ok-first.ensures.same told)) c.in-None.is))
