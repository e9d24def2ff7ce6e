use Rattle.std.proofs.Common.{◌≡◌, ◌+◌, ◌<◌, length, get_or, refl, arith, rules}
use Rattle.std.proofs.lemmas.List.{get_or_read}
use Rattle.mu_outside.proofs.TearLemmas.{made_step, none_made, all_made, octets_fit, vec_octets}
use Rattle.mu_outside.proofs.memory.mix.Goals as goal

pub loop-j-init : goal.loop-j-init
loop-j-init c = none_made _ _ _ _

pub loop-j-preserved : goal.loop-j-preserved
loop-j-preserved c =
    let s = c.loop-j.invariant in
    let lt : c.args.at + c.loop-j.j < length c.loop-j.octets.items = omega (arith, c.requires.within, s.size) in
    let x_is : c.index-old.result.now ≡ get_or c.loop-j.octets.items (c.args.at + c.loop-j.j) 0 = get_or_read c.loop-j.octets.items (c.args.at + c.loop-j.j) c.index-old.result.now lt c.index-old.ensures 0 in
    made_step _ _ _ _ _ c.loop-j.j c.index-old.result.now (get_or c.args.bytes.now c.loop-j.j 0) c.mixed.result s lt x_is refl c.mixed.ensures

pub returns-clause-between : goal.returns-clause-between
returns-clause-between c =
    let end : c.loop-j.j ≡ length c.args.bytes.now = search rules in
    let made = all_made _ _ _ _ _ c.loop-j.j end c.loop-j.invariant in
    c.ranges_of_octets.ensures.torn.made_between c.args.seed c.args.octets.now.items c.args.at c.args.bytes.now c.loop-j.octets.items c.requires.within c.requires.octets (octets_fit _ c.type_inv.bytes) (vec_octets _ c.type_inv.octets) made
