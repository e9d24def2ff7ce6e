use Rattle.std.proofs.Common.{ℕ, ◌<◌, sym, subst}
use Rattle.std.specs.List.{AllByRecursion}
use Rattle.mu_note.specs.Views.{active_banks}
use Rattle.mu_node.specs.Views.{memory_of}
use Rattle.mu_node.proofs.node.Node.free_bank.Goals as goal

pub other_bank-requires-clause-there : goal.other_bank-requires-clause-there
other_bank-requires-clause-there g c =
    let rules = c.known.ensures.memory c.requires in
    subst (λ (n : ℕ). AllByRecursion (λ (b : ℕ). b < n) (active_banks c.args.self.now.note.active)) rules.note_octets.one_more
    (c.one_bank_is_free.ensures.active (memory_of c.args.self.now) rules (c.known.ensures.is_record c.requires))

pub returns : goal.returns
returns g c =
    let rules = c.known.ensures.memory c.requires in
    c.one_bank_is_free.ensures.one (memory_of c.args.self.now) c.other_bank.result rules (c.known.ensures.is_record c.requires)
    (subst (λ (n : ℕ). c.other_bank.result < n) (sym rules.note_octets.one_more) c.other_bank.ensures.there) c.other_bank.ensures.apart
