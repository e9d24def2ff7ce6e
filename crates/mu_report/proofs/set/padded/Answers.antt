use Rattle.std.proofs.Common.{◌++◌, ◌∙◌, ℕ, List, length, get_or, drop, replicate, ap}
use Rattle.mu_report.proofs.Octets.{zeros_behind}
use Rattle.mu_report.proofs.set.padded.Goals as goal

pub returns : goal.returns
returns c i =
    ap (λ (xs : List ℕ). get_or (xs ++ drop (length c.args.octets.now) (replicate 256 0)) i 0) c.copy_from_slice.ensures.after
    ∙ zeros_behind c.args.octets.now (length c.args.octets.now) 256 i
