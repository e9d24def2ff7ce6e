use Rattle.std.proofs.Common.{◌≡◌, ◌∙◌, length, rules, arith, ap, List, ℕ}
use Rattle.mu_model_flash.specs.Bits.{written}
use Rattle.mu_record.proofs.SpellLemmas.{put_spelled}
use Rattle.mu_record.proofs.octets.record_octets.Goals as goal

pub returns-clause-spelled : goal.returns-clause-spelled
returns-clause-spelled c =
    let head : length c.header_octets.result ≡ 16 = search rules in
    let entries : length c.entries_octets.result ≡ 192 = search rules in
    let r = c.args.fields.now in
    put_spelled c.ranges_of_octets.ensures.writes c.args.format r c.header_octets.result c.entries_octets.result c.header_octets.ensures head c.entries_octets.ensures entries c.requires.tag_size
    (omega (arith, c.requires.pages_most)) c.requires.count_most c.put.new.octets c.put-2.new.octets c.put-3.new.octets
    (c.put.ensures.written ∙ ap (λ (o : List ℕ). written o 0 c.header_octets.result) c.no_octets-octets.ensures) c.put-2.ensures.written c.put-3.ensures.written
