-- The pieces of a refusal's line.
use Rattle.std.proofs.Common.{◌≡◌, ℕ, List, [], ◌∷◌, ◌++◌, sym, ap, ◌∙◌, append_assoc}
use Rattle.std.specs.Prelude.{codes}
use Rattle.std.specs.List.{concat}
use Rattle.mu_model_script.specs.Texts.{text_line}

pub refusal_is : (number place word : List ℕ)
    → concat (codes "refused " ∷ number ∷ codes " " ∷ place ∷ codes " " ∷ word ∷ codes "\n" ∷ []) ≡ text_line (codes "refused" ∷ number ∷ place ∷ word ∷ [])
refusal_is number place word =
    sym (ap (λ t. codes "refused " ++ t) (append_assoc number (codes " " ++ (place ++ (codes " " ++ word))) (10 ∷ []) ∙ ap (λ t. number ++ (codes " " ++ t)) (append_assoc place (codes " " ++ word) (10 ∷ []))))
