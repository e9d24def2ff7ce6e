-- The tags of a node that is made are short.
use Rattle.std.proofs.Common.{◌≡◌, ◌∙◌, ℕ, List, refl, ap, drop}
use Rattle.mu_model_record.specs.Record.{zeros}
use Rattle.mu_updsrv.specs.Made.{tag_of_one, old_tag_of_one, tag_of_two}
use Rattle.mu_updsrv.specs.Making.{IsShortTag}

one_short : IsShortTag tag_of_one
unfolding zeros
one_short = refl

old_short : IsShortTag old_tag_of_one
unfolding zeros
old_short = refl

two_short : IsShortTag tag_of_two
unfolding zeros
two_short = refl

pub one_is_short : (tag : List ℕ) → tag ≡ tag_of_one → IsShortTag tag
one_is_short tag is = ap (λ (l : List ℕ). drop 256 l) is ∙ one_short

pub old_is_short : (tag : List ℕ) → tag ≡ old_tag_of_one → IsShortTag tag
old_is_short tag is = ap (λ (l : List ℕ). drop 256 l) is ∙ old_short

pub two_is_short : (tag : List ℕ) → tag ≡ tag_of_two → IsShortTag tag
two_is_short tag is = ap (λ (l : List ℕ). drop 256 l) is ∙ two_short
