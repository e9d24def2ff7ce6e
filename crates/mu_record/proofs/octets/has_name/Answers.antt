use Rattle.std.proofs.Common.{◌≡◌, ◌∙◌, List, ℕ, [], ◌∷◌, Bool, IsTrue, take, ap, sym, subst}
use Rattle.std.specs.Prelude.{bytes_eq}
use Rattle.std.proofs.lemmas.Slice.Eq.{bytes_eq-Decides}
use Rattle.mu_model_flash.specs.Bits.{part_of}
use Rattle.mu_record.proofs.octets.has_name.Goals as goal

pub returns : goal.returns
unfolding part_of
returns c =
    let first : List ℕ = take 4 c.args.octets.now in
    let name : List ℕ = 0x4D ∷ 0x55 ∷ 0x46 ∷ 0x31 ∷ [] in
    let same : c.eq.result ≡ bytes_eq first name = c.eq.ensures ∙ ap (λ (l : List ℕ). bytes_eq first l) c.as_slice.ensures in
    let decides = bytes_eq-Decides first name in
    (λ is. decides.0 (subst (λ (b : Bool). IsTrue b) same is), λ p. subst (λ (b : Bool). IsTrue b) (sym same) (decides.1 p))
