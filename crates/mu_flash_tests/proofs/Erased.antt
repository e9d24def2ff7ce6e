-- The slots of a page that was erased.
use Rattle.std.proofs.Common.{◌≡◌, Bool, IsTrue, ℕ, ◌+◌, ◌*◌, ◌<◌, ◌≤◌, List, [], ◌∷◌, length, sym, ◌∙◌, ap, subst, arith}
use Rattle.mu_model_flash.specs.Bits.{blank, written}
use Rattle.mu_model_flash.specs.Flash.{Seen, IsSound}
use Rattle.mu_model_flash.specs.Run.{exact, Keeps, Ran}
use Rattle.mu_model_record.specs.Page.{slot_of}
use Rattle.mu_model_record.specs.TurnLaws.{EraseLaws}

told_back : (a b : Seen) → Keeps a b → IsTrue b.told → IsTrue a.told
told_back a b keeps told = subst (λ (x : Bool). IsTrue x) keeps.told told

pub erased_slot_reads : (a : Seen) → IsSound a → EraseLaws → (page : ℕ) → page < a.pages → (b : Seen) → Ran exact a.octets (written a.octets (4096 * page) (blank 4096) ∷ []) a b → IsTrue b.told
    → (k : ℕ) → k < 4 → slot_of b.octets page k ≡ blank 1024
erased_slot_reads a sound erase page lies b ran told k lt =
    let was : IsTrue a.told = told_back a b ran.keeps told in
    let within : 4096 * page + 4096 ≤ length a.octets = omega (arith, (sound.is_image was).size, lies) in
    ap (λ (o : List ℕ). slot_of o page k) (ran.ends was) ∙ erase.slots a.octets page within k lt
