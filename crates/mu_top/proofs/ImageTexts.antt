-- What is printed of an image that was read.
use Rattle.std.proofs.Common.{◌≡◌, ℕ, List, [], ◌∷◌, ◌++◌, take, drop, Option, refl, sym, ap, ◌∙◌, append_assoc}
use Rattle.std.specs.Prelude.{codes}
use Rattle.std.specs.List.{concat}
use Rattle.std.proofs.lemmas.List.{take-append-drop}
use Rattle.mu_top.specs.Images.{ImageTold, ReadAs, image_printed, parts_text, read_printed}
use Rattle.mu_input.specs.Reading.{WhereTold}
use Rattle.mu_command_line.specs.Writing.{WroteSome}
use Rattle.mu_top.specs.declared.image.ImageRead.{ImageRead}
use Rattle.mu_top.specs.declared.image.ImageRead.TheVariants.{Whole, Empty, TooLarge}
use Rattle.mu_command_line.specs.declared.status.Status.TheVariants.{SinkFault}
use Rattle.mu_top.proofs.Told.{where_told}

printed_is : (version : ℕ) (held left : List ℕ) (read : ImageRead) → ReadAs version held left read → image_printed version held ≡ read_printed read
printed_is version held left (Whole meta) r = rw (r.1, r.2) refl
printed_is version held left Empty r = rw r refl
printed_is version held left TooLarge r = rw r refl

-- the sink failed at the text
pub part_written : (S0 S1 K0 K1 : Option (List ℕ)) (version : ℕ) (read : ImageRead) → WhereTold S0 S1 (λ held left. ReadAs version held left read) → WroteSome K0 K1 (read_printed read) → ImageTold version S0 S1 K0 K1 SinkFault
part_written S0 S1 K0 K1 version read given wrote =
    where_told S0 S1 _ _ (λ held left r.
    where_told K0 K1 _ _ (λ before after w.
    (take w.0 (read_printed read), w.1, (drop w.0 (read_printed read), take-append-drop w.0 (read_printed read) ∙ sym (printed_is version held left read r)))) wrote) given

-- a line of three values goes on with more
long : (x y z more : List ℕ)
    → (x ++ (codes " version " ++ (y ++ (codes " digest " ++ z)))) ++ more ≡ x ++ (codes " version " ++ (y ++ (codes " digest " ++ (z ++ more))))
long x y z more =
    append_assoc x (codes " version " ++ (y ++ (codes " digest " ++ z))) more
    ∙ ap (λ t. x ++ (codes " version " ++ t)) (append_assoc y (codes " digest " ++ z) more)

-- the pieces of the text, one behind the other
pub parts_are : (size version digest metadata id : List ℕ)
    → concat (codes "size " ∷ size ∷ codes " version " ∷ version ∷ codes " digest " ∷ digest ∷ codes "\nmetadata " ∷ metadata ∷ codes "\nid " ∷ id ∷ codes "\n" ∷ []) ≡ parts_text size version digest metadata id
parts_are size version digest metadata id =
    let last : List ℕ = codes "id " ++ (id ++ 10 ∷ []) in
    let middle : List ℕ = codes "metadata " ++ (metadata ++ 10 ∷ last) in
    let line : List ℕ = size ++ (codes " version " ++ (version ++ (codes " digest " ++ digest))) in
    sym (ap (λ t. (codes "size " ++ (line ++ 10 ∷ [])) ++ (codes "metadata " ++ t)) (append_assoc metadata (10 ∷ []) last)
    ∙ ap (λ t. codes "size " ++ t) (append_assoc line (10 ∷ []) middle ∙ long size version digest (10 ∷ middle)))
