-- What was written of what came.
use Rattle.std.proofs.Common.{◌≡◌, ◌∙◌, ℕ, List, take, drop, Option, Some, None, refl, sym, ap}
use Rattle.std.proofs.lemmas.List.{take-append-drop}
use Rattle.mu_input.specs.Reading.{WhereTold}
use Rattle.mu_command_line.specs.Writing.{Wrote, WroteSome}
use Rattle.mu_command_line.specs.declared.status.Status.TheVariants.{SinkFault}
use Rattle.mu_format.specs.declared.making.Format.{Format}
use Rattle.mu_format.specs.declared.making.Made.{Made}
use Rattle.mu_format.specs.declared.making.Made.TheVariants.{Whole, Pages, Short, Long, Source, Flash}
use Rattle.mu_format.specs.Formats.{refusal_of, text_by, CameOf, FormatEnds, FormatTold, printed_of, status_of}

-- what follows from a fact about what is told
where_told : (o n : Option (List ℕ)) (P Q : List ℕ → List ℕ → Type 0) → ((before after : List ℕ) → P before after → Q before after) → WhereTold o n P → WhereTold o n Q
where_told o None P Q f h = tt
where_told o (Some after) P Q f h = (h.0, h.1, f h.0 after h.2)

module _ (what : Format) (pages : ℕ) (held left : List ℕ) where
  whole : (made : Made) → CameOf what.kind (refusal_of what pages held) held left made → FormatEnds what pages held left (printed_of pages made) (status_of made)
  whole Whole came = (came.0, came.1, refl)
  whole Pages came = came
  whole (Short place) came = came
  whole (Long place) came = came
  whole Source came = refl
  whole Flash came = refl

  text_is : (made : Made) → (made ≡ Source → ⊥) → (made ≡ Flash → ⊥) → CameOf what.kind (refusal_of what pages held) held left made → printed_of pages made ≡ text_by pages (refusal_of what pages held)
  text_is Whole source flash came = ap (text_by pages) (sym came.1)
  text_is Pages source flash came = ap (text_by pages) (sym came)
  text_is (Short place) source flash came = ap (text_by pages) (sym came)
  text_is (Long place) source flash came = ap (text_by pages) (sym came)
  text_is Source source flash came = absurd (source refl)
  text_is Flash source flash came = absurd (flash refl)

module _ (what : Format) (pages : ℕ) (made : Made) (S0 S1 K0 K1 : Option (List ℕ)) (came : WhereTold S0 S1 (λ held left. CameOf what.kind (refusal_of what pages held) held left made)) where
  pub told_whole : Wrote K0 K1 (printed_of pages made) → FormatTold what pages S0 S1 K0 K1 (status_of made)
  told_whole wrote = where_told S0 S1 _ _ (λ held left h. where_told K0 K1 _ _ (λ before after w. (printed_of pages made, w, whole what pages held left made h)) wrote) came

  pub told_part : (made ≡ Source → ⊥) → (made ≡ Flash → ⊥) → WroteSome K0 K1 (printed_of pages made) → FormatTold what pages S0 S1 K0 K1 SinkFault
  told_part source flash wrote = where_told S0 S1 _ _ (λ held left h. where_told K0 K1 _ _ (λ before after w. (
    take w.0 (printed_of pages made),
    w.1,
    (drop w.0 (printed_of pages made), take-append-drop w.0 (printed_of pages made) ∙ text_is what pages held left made source flash h),
  )) wrote) came
