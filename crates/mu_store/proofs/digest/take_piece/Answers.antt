use Rattle.std.proofs.Common.{◌∙◌, ◌++◌, List, ℕ, subst}
use Rattle.mu_image.specs.Digests.{HasTaken}
use Rattle.mu_store.proofs.PartLemmas.{range-part}
use Rattle.mu_store.proofs.digest.take_piece.Goals as goal

pub returns-clause-taken : goal.returns-clause-taken
returns-clause-taken g c told octets taken =
    subst (λ (piece : List ℕ). HasTaken c.take.new.self (octets ++ piece)) (c.in_ok-read.ensures.gives told ∙ range-part _ _ _) (c.take.ensures octets taken)
