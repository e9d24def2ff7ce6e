use Rattle.std.proofs.Common.{arith, rules, ◌≡◌, length}
use Rattle.mu_outside.proofs.ListLemmas.{wrote}
use Rattle.mu_outside.proofs.memory.overwrite.Goals as goal

pub returns-clause-items : goal.returns-clause-items
returns-clause-items c =
    let size : c.args.octets.now.len ≡ length c.args.octets.now.items = search rules in
    wrote c.ranges_of_octets.ensures.writes _ _ _ _ _ _ _ c.deref_mut.ensures.value c.copy_from_slice.ensures.after (omega arith) size c.requires
