use Rattle.std.proofs.Common.{◌≡◌, length, subst, rules}
use Rattle.mu_model_flash.specs.Bits.{part_of}
use Rattle.mu_model_record.specs.declared.Record.{Record}
use Rattle.mu_model_record.specs.Record.{entry_of}
use Rattle.mu_record.specs.Ranges.{HasRanges}
use Rattle.mu_record.proofs.SpellLemmas.{read_spelled, spelled_framed, spelled_entry, spelled_record, record_ranges}
use Rattle.mu_record.proofs.octets.record_from.Goals as goal

pub returns-then-not-is_framed : goal.returns-then-not-is_framed
returns-then-not-is_framed c r sound spelled = absurd (cc (c.if-not-is_framed.true, c.is_framed.ensures.1 (spelled_framed c.args.format r c.args.octets.now spelled)))

pub returns-in_default : goal.returns-in_default
unfolding part_of
returns-in_default c r sound spelled =
    let bad = c.in_default.ensures in
    bad.2 (entry_of r bad.0) (spelled_entry c.args.format r c.args.octets.now bad.0 bad.1 spelled)

pub returns-then-has_ranges : goal.returns-then-has_ranges
unfolding part_of
returns-then-has_ranges c =
    let spelled = read_spelled c.args.format c.read_u32.result c.read_u16.result c.in-Some.banks c.tag_of.result c.args.octets.now c.told-octets (c.is_framed.ensures.0 c.if-not-is_framed.false)
    c.in-Some.ensures c.read_u32.ensures c.read_u16.ensures c.tag_of.ensures in
    let four : length c.in-Some.banks ≡ 4 = search rules in
    let ranges = c.has_ranges.ensures.0 c.if-has_ranges.true in
    (spelled, spelled_record c.args.format _ c.args.octets.now c.fits-octets spelled c.metadata.ensures.in_range four c.read_u32.type_inv ranges.0 ranges.1 ranges.2)

pub returns-else-has_ranges : goal.returns-else-has_ranges
unfolding part_of
returns-else-has_ranges c r sound spelled =
    let mine = read_spelled c.args.format c.read_u32.result c.read_u16.result c.in-Some.banks c.tag_of.result c.args.octets.now c.told-octets (c.is_framed.ensures.0 c.if-not-is_framed.false)
    c.in-Some.ensures c.read_u32.ensures c.read_u16.ensures c.tag_of.ensures in
    let four : length c.in-Some.banks ≡ 4 = search rules in
    let same = c.records.ensures.octets c.args.format r _ c.args.octets.now sound.four four spelled mine in
    absurd (cc (c.if-has_ranges.false, c.has_ranges.ensures.1 (subst (λ (s : Record). HasRanges s) same (record_ranges r sound))))
