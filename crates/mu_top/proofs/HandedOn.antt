-- What the output below tells, once what was gathered is handed on.
use Rattle.std.proofs.Common.{◌≡◌, ℕ, ◌∷◌, [], ◌++◌, List, length, take, drop, Option, Some, None, refl, sym, ap, ◌∙◌, subst, append_assoc, inl, inr, ◌⊎◌, arith}
use Rattle.std.proofs.lemmas.List.{append-nil, take_all, take_at, take-append-drop, append_cancel_left}
use Rattle.mu_model_script.specs.Limits.{first_lines}
use Rattle.mu_model_script.specs.Runs.{Prints, Run}
use Rattle.mu_outside.specs.Stream.{KeepsTold}
use Rattle.mu_outside.specs.Gathering.{behind, GoesOn}
use Rattle.mu_top.specs.Ends.{Doing, Barring, Wearing, Ends, EndsInPart, IsRefused, IsTraceOfSome, IsBeginning}
use Rattle.mu_input.specs.Reading.{WhereTold}
use Rattle.mu_command_line.specs.declared.status.Status.{Status}
use Rattle.mu_command_line.specs.declared.status.Status.TheVariants.{Done, Usage, SourceFault, SinkFault, FlashFault, Refused, NoMemory, Worn, TooLong}
use Rattle.mu_top.proofs.Told.{Both, both_map, both_kept, where_told}

-- nothing is gathered
behind_none : (below : Option (List ℕ)) (held : List ℕ) → held ≡ [] → behind below held ≡ below
behind_none None held none = refl
behind_none (Some octets) held none = ap (λ (l : List ℕ). Some (octets ++ l)) none ∙ ap (λ (l : List ℕ). Some l) (append-nil octets)

-- nothing was written meanwhile
keeps_same : (o : Option (List ℕ)) → KeepsTold o o
keeps_same None = tt
keeps_same (Some octets) = refl

-- all was handed on
pub flushed : (S0 S1 start below below' : Option (List ℕ)) (none held held' : List ℕ) (X : List ℕ → List ℕ → List ℕ → List ℕ → Type 0)
    → none ≡ [] → held' ≡ [] → Both S0 S1 (behind start none) (behind below held) X → KeepsTold (behind below held) (behind below' held') → Both S0 S1 start below' X
flushed S0 S1 start below below' none held held' X is is' x same =
    subst (λ o. Both S0 S1 o below' X) (behind_none start none is)
    (subst (λ o. Both S0 S1 (behind start none) o X) (behind_none below' held' is') (both_kept S0 S1 (behind start none) (behind below held) (behind below' held') X x same))

module _ {W : Type 0} (Does : Doing W) (Bars : Barring W) (Wears : Wearing W) (start : W) (most : ℕ) where
  -- what is written is a beginning of what may be
  abbrev Begun : List ℕ → List ℕ → List ℕ → List ℕ → Type 0
  Begun held left before after = (written : List ℕ) × (after ≡ before ++ written) × IsBeginning Does Bars start most held written

  begins_with : (held written : List ℕ) → IsTraceOfSome Does start most held written ⊎ IsRefused Does Bars start most held written → IsBeginning Does Bars start most held written
  begins_with held written trace = record { whole = written; rest = []; begins = append-nil written; trace = trace }

  all_lines : (held written : List ℕ) → Prints Does start (first_lines most held) written → IsTraceOfSome Does start most held written
  all_lines held written prints = record {
    count = length (first_lines most held);
    trace = record {
      end = prints.end;
      run = subst (λ ls. Run Does start ls written prints.end) (sym (take_all (length (first_lines most held)) (first_lines most held) (omega arith))) prints.run;
    };
  }

  -- whatever the status, what is written is such a beginning
  begun : (S0 S1 K0 K1 : Option (List ℕ)) (status : Status) → Ends Does Bars Wears start most S0 S1 K0 K1 status → (status ≡ SourceFault → EndsInPart Does start most S0 S1 K0 K1) → Both S0 S1 K0 K1 Begun
  begun S0 S1 K0 K1 Done ends part = both_map S0 S1 K0 K1 _ Begun (λ held left before after e. (e.0, e.1, begins_with held e.0 (inl (all_lines held e.0 e.2.trace)))) ends
  begun S0 S1 K0 K1 TooLong ends part = both_map S0 S1 K0 K1 _ Begun (λ held left before after e. (e.0, e.1, begins_with held e.0 (inl (all_lines held e.0 e.2.trace)))) ends
  begun S0 S1 K0 K1 Refused ends part = both_map S0 S1 K0 K1 _ Begun (λ held left before after e. (e.0, e.1, begins_with held e.0 (inr e.2))) ends
  begun S0 S1 K0 K1 NoMemory ends part = both_map S0 S1 K0 K1 _ Begun (λ held left before after e. (e.0, e.1, begins_with held e.0 (inl e.2))) ends
  begun S0 S1 K0 K1 SinkFault ends part = ends
  begun S0 S1 K0 K1 SourceFault ends part = both_map S0 S1 K0 K1 _ Begun (λ held left before after e. (e.0, e.1, begins_with held e.0 (inl e.2))) (part refl)
  begun S0 S1 K0 K1 Worn ends part = both_map S0 S1 K0 K1 _ Begun (λ held left before after e. (
    e.0,
    e.1,
    begins_with held e.0 (inl (record {
      count = length e.2.before;
      trace = record { end = e.2.end; run = subst (λ ls. Run Does start ls e.0 e.2.end) (sym (ap (take (length e.2.before)) e.2.cut ∙ take_at e.2.before (e.2.line ∷ e.2.others) (length e.2.before) refl)) e.2.run };
    })),
  )) ends
  begun S0 S1 K0 K1 Usage ends part = both_map S0 S1 K0 K1 _ Begun (λ held left before after e. absurd e.2) ends
  begun S0 S1 K0 K1 FlashFault ends part = both_map S0 S1 K0 K1 _ Begun (λ held left before after e. absurd e.2) ends

  -- a beginning of a beginning
  shorter : (held written rest whole : List ℕ) → written ++ rest ≡ whole → IsBeginning Does Bars start most held whole → IsBeginning Does Bars start most held written
  shorter held written rest whole is b = record {
    whole = b.whole;
    rest = rest ++ b.rest;
    begins = sym (append_assoc written rest b.rest) ∙ (ap (λ (l : List ℕ). l ++ b.rest) is ∙ b.begins);
    trace = b.trace;
  }

  -- what the output below tells, where not all was handed on
  below_begun : (held left : List ℕ) (K0 below : Option (List ℕ)) (gathered : List ℕ) → GoesOn K0 below → WhereTold K0 (behind below gathered) (Begun held left) → WhereTold K0 below (Begun held left)
  below_begun held left K0 None gathered grows x = tt
  below_begun held left None (Some after) gathered grows x = absurd cc
  below_begun held left (Some first) (Some after) gathered grows x =
      let before = x.0 in
      let same : first ≡ before = cc in
      let begins : take (length first) after ≡ first = cc in
      let more = drop (length first) after in
      let cut : after ≡ before ++ more = sym (take-append-drop (length first) after) ∙ ap (λ (l : List ℕ). l ++ more) (begins ∙ same) in
      let rest : before ++ (more ++ gathered) ≡ before ++ x.2.0 = sym (append_assoc before more gathered) ∙ (ap (λ (l : List ℕ). l ++ gathered) (sym cut) ∙ x.2.1) in (
        before,
        x.1,
        (more, cut, shorter held more gathered x.2.0 (append_cancel_left before (more ++ gathered) x.2.0 rest) x.2.2),
      )

  -- the output below failed before all was handed on
  pub cut_off : (S0 S1 K0 below below' : Option (List ℕ)) (none gathered gathered' : List ℕ) (status : Status) → none ≡ [] → GoesOn K0 below'
      → Ends Does Bars Wears start most S0 S1 (behind K0 none) (behind below gathered) status
      → (status ≡ SourceFault → EndsInPart Does start most S0 S1 (behind K0 none) (behind below gathered))
      → KeepsTold (behind below gathered) (behind below' gathered') → Ends Does Bars Wears start most S0 S1 K0 below' SinkFault
  cut_off S0 S1 K0 below below' none gathered gathered' status is grows ends part same =
      let whole = both_kept S0 S1 (behind K0 none) (behind below gathered) (behind below' gathered') Begun (begun S0 S1 (behind K0 none) (behind below gathered) status ends part) same in
      let here = subst (λ o. Both S0 S1 o (behind below' gathered') Begun) (behind_none K0 none is) whole in
      where_told S0 S1 _ _ (λ held left x. below_begun held left K0 below' gathered' grows x) here

  -- the output below has failed before
  pub cut_before : (S0 S1 K0 below : Option (List ℕ)) (none gathered : List ℕ) → none ≡ [] → GoesOn K0 below
      → Ends Does Bars Wears start most S0 S1 (behind K0 none) (behind below gathered) SinkFault → Ends Does Bars Wears start most S0 S1 K0 below SinkFault
  cut_before S0 S1 K0 below none gathered is grows ends =
      cut_off S0 S1 K0 below below none gathered gathered SinkFault is grows ends (λ no. absurd cc) (keeps_same (behind below gathered))
