-- What a command has done between two lines, and what each next thing makes of it.
use Rattle.std.proofs.Common.{◌≡◌, ◌≢◌, ℕ, ◌+◌, ◌-◌, ◌<◌, ◌≤◌, List, [], ◌∷◌, ◌++◌, length, take, drop, take-take, Option, Ok, Err, refl, sym, ap, ◌∙◌, subst, append_assoc, arith, length-append, inl, inr, ◌⊎◌}
use Rattle.std.proofs.lemmas.List.{append-nil, take_all, take_at, take-append-drop}
use Rattle.std.proofs.Math.Seq.{take-append-add}
use Rattle.std.specs.Prelude.{codes}
use Rattle.mu_model_script.specs.Pieces.{pieces, line_feed}
use Rattle.mu_model_script.specs.Limits.{most_octets, most_in_line, lines_in, lines_within, first_lines, Passes}
use Rattle.mu_model_script.specs.Runs.{Run, Prints, Refuses}
use Rattle.mu_model_script.specs.Texts.{refused_text}
use Rattle.mu_top.specs.Ends.{Doing, Barring, Wearing, EndsWith, Ends, EndsInPart, Completes, EndsAsItMust, NoneWears, OrNoMemory, Told, IsWhole, IsRefused, IsTooLong, IsInPart, IsTraceOfSome, IsBeginning}
use Rattle.mu_top.specs.LineDone.{StopsLine, EndsAt}
use Rattle.mu_input.specs.Reading.{IsPart, Reader, to_come, WhereTold, IsAtRest, NextLine, GivesLine, Took}
use Rattle.mu_command_line.specs.Writing.{Wrote, WroteSome}
use Rattle.mu_input.specs.declared.reader.Next.{Next}
use Rattle.mu_input.specs.declared.reader.Next.TheVariants.{Line, Last, End}
use Rattle.mu_input.specs.declared.reader.ReadStop.TheVariants as Stop
use Rattle.mu_command_line.specs.declared.status.Status.TheVariants.{Done, Usage, SourceFault, SinkFault, FlashFault, Refused as IsRefusedStatus, NoMemory, Worn, TooLong}
use Rattle.mu_command_line.specs.declared.status.Status.{Status}
use Rattle.mu_top.specs.declared.work.LineStop.{LineStop}
use Rattle.mu_top.specs.declared.work.LineStop.TheVariants.{Memory, Worn as WornLine, Sink, Refused as RefusedLine}
use Rattle.mu_top.proofs.Told.{Both, both_self, both_map, both_source, both_sink, where_told}
use Rattle.mu_top.proofs.Cuts.{lines_in_front, lines_in_end, lines_in_line, lines_in_last, lines_in_long, lines_in_part, lines_in_more, pieces_at, pieces_ended, ended_front}

-- a line that is too long is refused at the limit
abbrev pub BarsLong : {W : Type 0} → Barring W → Type 0
BarsLong {W} Bars = (state : W) (line : List ℕ) → 4096 < length line → Bars state line 4096 (codes "long")

module _ {W : Type 0} (Does : Doing W) (Bars : Barring W) (Wears : Wearing W) (start : W) (most : ℕ) where
  -- Between two lines: the octets of the input that are done and those to come, how many lines are done, the world that they
  -- have led to, and what they have printed.
  pub record Working (held rest : List ℕ) (given : ℕ) (world : W) (count : ℕ) (written : List ℕ) : Type 0 where
    pub front : List ℕ
    pub done : List (List ℕ)
    pub cut : held ≡ front ++ rest
    pub lines : pieces line_feed front ≡ done ++ [] ∷ []
    pub front_given : length front ≡ given
    pub within : given ≤ most_octets
    pub counted : count ≡ length done
    pub few : count ≤ most
    pub run : Run Does start done written world

  -- a run goes on by one line
  pub run_more : (w : W) (lines : List (List ℕ)) (text : List ℕ) (middle : W) (line more : List ℕ) (end : W)
      → Run Does w lines text middle → Does middle line more end → Run Does w (lines ++ line ∷ []) (text ++ more) end
  run_more w [] text middle line more end run step =
      let here : Does w line more end = subst (λ x. Does x line more end) run.1 step in
      (end, more, [], here, (refl, refl), rw run.0 (sym (append-nil more)))
  run_more w (first ∷ lines) text middle line more end run step =
      (run.0, run.1, run.2 ++ more, run.3, run_more run.0 lines run.2 middle line more end run.4 step, ap (λ t. t ++ more) run.5 ∙ append_assoc run.1 run.2 more)

  -- the lines of the input, behind those that are done
  lines_on : {held rest : List ℕ} {given count : ℕ} {world : W} {written : List ℕ} → (r : Working held rest given world count written) → lines_within held ≡ r.done ++ lines_in (most_octets - given) rest
  lines_on {held} {rest} {given} r =
      ap (lines_in most_octets) r.cut ∙ (lines_in_front most_octets r.front rest r.done r.lines (omega (arith, r.front_given, r.within)) ∙ ap (λ k. r.done ++ lines_in (most_octets - k) rest) r.front_given)

  -- the first of them that are done
  take_done : (done later : List (List ℕ)) (n : ℕ) → length done ≡ n → take n (done ++ later) ≡ done
  take_done done later n is = take_at done later n is

  take_within : (done later : List (List ℕ)) (count : ℕ) → count ≡ length done → count ≤ most → take count (take most (done ++ later)) ≡ done
  take_within done later count counted few =
      take-take count most (done ++ later) few ∙ take_done done later count (sym counted)

  -- what is written is the trace of the lines that are done
  pub some_done : (held rest : List ℕ) (given count : ℕ) (world : W) (written : List ℕ) → Working held rest given world count written → IsTraceOfSome Does start most held written
  some_done held rest given count world written r = record {
    count = count;
    trace = record { end = world; run = subst (λ ls. Run Does start ls written world) (sym (ap (λ ls. take count (take most ls)) (lines_on r) ∙ take_within r.done _ count r.counted r.few)) r.run };
  }

  -- all lines of the input are done
  all_done : (held written : List ℕ) (world : W) (done : List (List ℕ)) → lines_within held ≡ done → length done ≤ most → Run Does start done written world → Prints Does start (first_lines most held) written
  all_done held written world done is few run = record {
    end = world;
    run = subst (λ ls. Run Does start ls written world) (sym (ap (take most) is ∙ take_all most done few)) run;
  }

  not_past : (held : List ℕ) (done : List (List ℕ)) → lines_within held ≡ done → length done ≤ most → length held ≤ most_octets → Passes most held → ⊥
  not_past held done is few fits (inl past) = omega arith
  not_past held done is few fits (inr past) = omega (arith, ap (length {A = List ℕ}) is)

  pub at_end : (held left : List ℕ) (given count : ℕ) (world : W) (written : List ℕ) → Working held [] given world count written → left ≡ [] → IsWhole Does start most held left written
  at_end held left given count world written r none =
      let is = lines_on r ∙ (ap (λ ls. r.done ++ ls) (lines_in_end (most_octets - given)) ∙ append-nil r.done) in
      record {
        read = none;
        within = not_past held r.done is (omega (arith, r.counted, r.few)) (omega (arith, ap (length {A = ℕ}) r.cut, length-append r.front [], r.front_given, r.within));
        trace = all_done held written world r.done is (omega (arith, r.counted, r.few)) r.run;
      }

  -- ---- what stops it

  -- the source failed: the octets that were read are those that are done and a part of a line
  pub at_source : (held part left : List ℕ) (given count : ℕ) (world : W) (written : List ℕ) → Working held (part ++ left) given world count written → IsPart part → IsInPart Does start held left written
  at_source held part left given count world written r is = record {
    read = r.front ++ part;
    cut = r.cut ∙ sym (append_assoc r.front part left);
    trace = record { end = world; run = subst (λ ls. Run Does start ls written world) (sym (ended_front r.front part r.done r.lines is)) r.run };
  }

  -- the limit of lines is reached, and more octets come
  pub at_last_line : (held rest : List ℕ) (given count : ℕ) (world : W) (written : List ℕ) → Working held rest given world count written → count ≡ most → rest ≢ [] → IsTooLong Does start most held written
  at_last_line held rest given count world written r full more =
      let later = lines_in (most_octets - given) rest in
      let len = length-append r.done later in
      record {
        past = elim (lines_in_more (most_octets - given) rest more) [
          | inl octets ↦ inl (omega (arith, ap (length {A = ℕ}) r.cut, length-append r.front rest, r.front_given, r.within, octets))
          | inr line ↦ inr (omega (arith, ap (length {A = List ℕ}) (lines_on r), len, r.counted, full, line))
        ];
        trace = record { end = world; run = subst (λ ls. Run Does start ls written world) (sym (ap (take most) (lines_on r) ∙ take_done r.done later most (sym r.counted ∙ full))) r.run };
      }

  -- the limit of octets is reached within a line, and more octets come
  pub at_limit : (held part rest : List ℕ) (given count : ℕ) (world : W) (written : List ℕ) → Working held (part ++ rest) given world count written → IsPart part → length part ≤ most_in_line
      → given + length part ≡ most_octets → rest ≢ [] → IsTooLong Does start most held written
  at_limit held part rest given count world written r is short full more =
      let lines = lines_on r ∙ (ap (λ ls. r.done ++ ls) (lines_in_part (most_octets - given) part rest is short (omega arith) more) ∙ append-nil r.done) in
      record {
        past = inl (omega (arith, ap (length {A = ℕ}) r.cut, length-append r.front (part ++ rest), length-append part rest, r.front_given, some rest more));
        trace = all_done held written world r.done lines (omega (arith, r.counted, r.few)) r.run;
      }
    where
      some : (xs : List ℕ) → xs ≢ [] → 0 < length xs
      some [] h = absurd (h refl)
      some (x ∷ xs) h = omega arith

  -- ---- the next line

  -- the line behind those that are done
  pub record NextIs (held : List ℕ) (done : List (List ℕ)) (line : List ℕ) : Type 0 where
    pub later : List (List ℕ)
    pub is : lines_within held ≡ done ++ line ∷ later

  pub next_line : (held line rest : List ℕ) (given count : ℕ) (world : W) (written : List ℕ) → (r : Working held (line ++ line_feed ∷ rest) given world count written) → IsPart line
      → given + (length line + 1) ≤ most_octets → NextIs held r.done line
  next_line held line rest given count world written r is fits = record {
    later = lines_in (most_octets - given - (length line + 1)) rest;
    is = lines_on r ∙ ap (λ ls. r.done ++ ls) (lines_in_line (most_octets - given) line rest is (omega arith));
  }

  pub last_line : (held line : List ℕ) (given count : ℕ) (world : W) (written : List ℕ) → (r : Working held line given world count written) → IsPart line → line ≢ []
      → given + length line ≤ most_octets → NextIs held r.done line
  last_line held line given count world written r is some fits = record {
    later = [];
    is = lines_on r ∙ ap (λ ls. r.done ++ ls) (lines_in_last (most_octets - given) line is some (omega arith));
  }

  -- the lines up to one, within the limit
  take_through : (done : List (List ℕ)) (line : List ℕ) (later : List (List ℕ)) (count n : ℕ) → count ≡ length done → count + 1 ≤ n → take n (done ++ line ∷ later) ≡ done ++ line ∷ take (n - (count + 1)) later
  take_through done line later count n counted few =
      let regrouped = append_assoc done (line ∷ []) later in
      let len : length (done ++ line ∷ []) ≡ count + 1 = omega (arith, length-append done (line ∷ []), counted) in
      let split : count + 1 + (n - (count + 1)) ≡ n = omega arith in
      ap (take n) (sym regrouped) ∙ (ap (λ k. take k ((done ++ line ∷ []) ++ later)) (sym split ∙ ap (λ k. k + (n - (count + 1))) (sym len))
      ∙ (take-append-add (done ++ line ∷ []) later (n - (count + 1)) ∙ append_assoc done (line ∷ []) (take (n - (count + 1)) later)))

  -- a line that is refused
  pub refused_next : (held rest line : List ℕ) (given count place : ℕ) (world : W) (written word : List ℕ) → (r : Working held rest given world count written) → NextIs held r.done line
      → count + 1 ≤ most → Bars world line place word → Refuses Does Bars start (first_lines most held) written (count + 1) place word
  refused_next held rest line given count place world written word r next few refused = record {
    before = r.done;
    line = line;
    others = take (most - (count + 1)) next.later;
    cut = ap (take most) next.is ∙ take_through r.done line next.later count most r.counted few;
    end = world;
    run = r.run;
    refused = refused;
    numbered = ap (λ k. k + 1) r.counted;
  }

  -- a line that is longer than a line may be
  pub long_next : BarsLong Bars → (held line rest : List ℕ) (octet given count : ℕ) (world : W) (written : List ℕ) → Working held ((line ++ octet ∷ []) ++ rest) given world count written → IsPart (line ++ octet ∷ [])
      → length line ≡ most_in_line → given + length (line ++ octet ∷ []) ≤ most_octets → count + 1 ≤ most → Refuses Does Bars start (first_lines most held) written (count + 1) 4096 (codes "long")
  long_next too_long held line rest octet given count world written r is full fits few =
      let len = length-append line (octet ∷ []) in
      let long = lines_in_long (most_octets - given) (line ++ octet ∷ []) rest is (omega (arith, len, full)) (omega arith) in
      refused_next held ((line ++ octet ∷ []) ++ rest) ((line ++ octet ∷ []) ++ long.rest) given count 4096 world written (codes "long") r
      (record { later = long.later; is = lines_on r ∙ ap (λ ls. r.done ++ ls) long.is }) few (too_long world ((line ++ octet ∷ []) ++ long.rest) (omega (arith, length-append (line ++ octet ∷ []) long.rest, len, full)))

  -- the next line is done
  pub line_done : (held line rest : List ℕ) (given count : ℕ) (world next : W) (written text : List ℕ) → Working held (line ++ line_feed ∷ rest) given world count written → IsPart line
      → given + (length line + 1) ≤ most_octets → count + 1 ≤ most → Does world line text next → Working held rest (given + (length line + 1)) next (count + 1) (written ++ text)
  line_done held line rest given count world next written text r is fits few step = record {
    front = r.front ++ (line ++ line_feed ∷ []);
    done = r.done ++ line ∷ [];
    cut = r.cut ∙ (ap (λ t. r.front ++ t) (sym (append_assoc line (line_feed ∷ []) rest)) ∙ sym (append_assoc r.front (line ++ line_feed ∷ []) rest));
    lines = pieces_at r.front (line ++ line_feed ∷ []) r.done [] line ([] ∷ []) r.lines (pieces_ended line [] is) ∙ sym (append_assoc r.done (line ∷ []) ([] ∷ []));
    front_given = omega (arith, length-append r.front (line ++ line_feed ∷ []), length-append line (line_feed ∷ []), r.front_given);
    within = fits;
    counted = omega (arith, length-append r.done (line ∷ []), r.counted);
    few = few;
    run = run_more start r.done written world line text next r.run step;
  }

  -- the last line, which lacks its LF, is done
  pub last_done : (held line left : List ℕ) (given count : ℕ) (world next : W) (written text : List ℕ) → Working held line given world count written → IsPart line → line ≢ []
      → given + length line ≤ most_octets → count + 1 ≤ most → Does world line text next → left ≡ [] → IsWhole Does start most held left (written ++ text)
  last_done held line left given count world next written text r is some fits few step none =
      let n = last_line held line given count world written r is some fits in
      let done = r.done ++ line ∷ [] in
      let len = length-append r.done (line ∷ []) in
      record {
        read = none;
        within = not_past held done (lines_on r ∙ ap (λ ls. r.done ++ ls) (lines_in_last (most_octets - given) line is some (omega arith))) (omega (arith, len, r.counted, few)) (omega (arith, ap (length {A = ℕ}) r.cut, length-append r.front line, r.front_given, fits));
        trace = all_done held (written ++ text) next done (lines_on r ∙ ap (λ ls. r.done ++ ls) (lines_in_last (most_octets - given) line is some (omega arith))) (omega (arith, len, r.counted, few)) (run_more start r.done written world line text next r.run step);
      }

  -- the trace of the lines up to the next
  pub some_next : (held rest line : List ℕ) (given count : ℕ) (world next : W) (written text : List ℕ) → (r : Working held rest given world count written) → NextIs held r.done line
      → count + 1 ≤ most → Does world line text next → IsTraceOfSome Does start most held (written ++ text)
  some_next held rest line given count world next written text r n few step = record {
    count = count + 1;
    trace = record {
      end = next;
      run = subst (λ ls. Run Does start ls (written ++ text) next) (sym (ap (λ ls. take (count + 1) (take most ls)) (n.is ∙ sym (append_assoc r.done (line ∷ []) n.later))
          ∙ take_within (r.done ++ line ∷ []) n.later (count + 1) (omega (arith, length-append r.done (line ∷ []), r.counted)) few)) (run_more start r.done written world line text next r.run step);
    };
  }

  -- ---- a piece that was written in part

  pub in_part : (held whole : List ℕ) (written text : List ℕ) (count : ℕ) → whole ≡ written ++ text → IsTraceOfSome Does start most held whole ⊎ IsRefused Does Bars start most held whole → IsBeginning Does Bars start most held (written ++ take count text)
  in_part held whole written text count is trace = record {
    whole = whole;
    rest = drop count text;
    begins = append_assoc written (take count text) (drop count text) ∙ (ap (λ t. written ++ t) (take-append-drop count text) ∙ sym is);
    trace = trace;
  }

  -- ---- the same of what the source and the sink tell

  -- what holds between two lines
  abbrev pub Between : Reader → W → ℕ → List ℕ → List ℕ → List ℕ → List ℕ → Type 0
  Between reader world count held left before after = (written : List ℕ) × (after ≡ before ++ written) × Working held (to_come reader left) reader.given world count written

  abbrev pub Ended : Status → List ℕ → List ℕ → List ℕ → List ℕ → Type 0
  Ended status held left before after = (written : List ℕ) × (after ≡ before ++ written) × EndsWith Does Bars Wears start most held left written status

  abbrev pub IsBetween : (S0 S1 K0 K1 : Option (List ℕ)) → Reader → W → ℕ → Type 0
  IsBetween S0 S1 K0 K1 reader world count = Both S0 S1 K0 K1 (Between reader world count)

  left_none : (ahead left : List ℕ) → ahead ++ left ≡ [] → left ≡ []
  left_none [] left is = is
  left_none (octet ∷ ahead) left is = absurd cc

  left_all : (r : Reader) (left : List ℕ) → r.ahead ≡ [] → to_come r left ≡ left
  left_all r left none = ap (λ a. a ++ left) none

  -- before the first line
  pub begins : (S0 K0 : Option (List ℕ)) → IsBetween S0 S0 K0 K0 (record { ahead = []; given = 0; line = [] }) start 0
  begins S0 K0 = both_self S0 K0 (Between (record { ahead = []; given = 0; line = [] }) start 0) (λ held before. (
    [],
    sym (append-nil before),
    record {
      front = [];
      done = [];
      cut = refl;
      lines = refl;
      front_given = refl;
      within = omega arith;
      counted = refl;
      few = omega arith;
      run = (refl, refl);
    },
  ))

  -- at the limit of lines
  pub limit_more : (S0 S1 S2 K0 K1 : Option (List ℕ)) (old new : Reader) (world : W) (count : ℕ) → count ≡ most → 0 < length new.ahead
      → IsBetween S0 S1 K0 K1 old world count → WhereTold S1 S2 (IsAtRest old new) → Both S0 S2 K0 K1 (Ended TooLong)
  limit_more S0 S1 S2 K0 K1 old new world count full some = both_source S0 S1 S2 K0 K1 (Between old world count) (Ended TooLong) (IsAtRest old new) (λ held left left' before after x rest.
      (x.0, x.1, at_last_line held (to_come old left) old.given count world x.0 x.2 full (λ (none : to_come old left ≡ []). nothing new.ahead left' some (sym rest.same ∙ none))))
    where
      nothing : (ahead left : List ℕ) → 0 < length ahead → ahead ++ left ≡ [] → ⊥
      nothing [] left some is = absurd (omega arith)
      nothing (octet ∷ ahead) left some is = absurd cc

  pub limit_end : (S0 S1 S2 K0 K1 : Option (List ℕ)) (old new : Reader) (world : W) (count : ℕ)
      → IsBetween S0 S1 K0 K1 old world count → WhereTold S1 S2 (λ before after. IsAtRest old new before after × (to_come new after ≡ [])) → Both S0 S2 K0 K1 (Ended Done)
  limit_end S0 S1 S2 K0 K1 old new world count = both_source S0 S1 S2 K0 K1 (Between old world count) (Ended Done) _ (λ held left left' before after x rest.
      (x.0, x.1, at_end held left' old.given count world x.0 (subst (λ r. Working held r old.given world count x.0) (rest.0.same ∙ rest.1) x.2) (left_none new.ahead left' rest.1)))

  -- the source failed
  pub source_failed : (S0 S1 S2 K0 K1 : Option (List ℕ)) (old new : Reader) (world : W) (count : ℕ)
      → IsBetween S0 S1 K0 K1 old world count → WhereTold S1 S2 (λ before after. (new.ahead ≡ []) × ((part : List ℕ) × IsPart part × (to_come old before ≡ part ++ to_come new after))) → Both S0 S2 K0 K1 (Ended SourceFault)
  source_failed S0 S1 S2 K0 K1 old new world count = both_source S0 S1 S2 K0 K1 (Between old world count) (Ended SourceFault) _ (λ held left left' before after x read.
      (x.0, x.1, at_source held read.1.0 left' old.given count world x.0 (subst (λ r. Working held r old.given world count x.0) (read.1.2 ∙ ap (λ r. read.1.0 ++ r) (left_all new left' read.0)) x.2) read.1.1))

  -- what was written is the trace of the lines that are done, wherever the source stands
  pub part_done : (S0 S1 S2 K0 K1 : Option (List ℕ)) (P : List ℕ → List ℕ → Type 0) (reader : Reader) (world : W) (count : ℕ) → IsBetween S0 S1 K0 K1 reader world count → WhereTold S1 S2 P
      → EndsInPart Does start most S0 S2 K0 K1
  part_done S0 S1 S2 K0 K1 P reader world count = both_source S0 S1 S2 K0 K1 (Between reader world count) (λ held left before after. (written : List ℕ) × (after ≡ before ++ written) × IsTraceOfSome Does start most held written) P (λ held left left' before after x p.
      (x.0, x.1, some_done held (to_come reader left) reader.given count world x.0 x.2))

  -- the sink failed between two lines
  pub sink_failed : (S0 S1 K0 K1 : Option (List ℕ)) (reader : Reader) (world : W) (count : ℕ) → IsBetween S0 S1 K0 K1 reader world count → Both S0 S1 K0 K1 (Ended SinkFault)
  sink_failed S0 S1 K0 K1 reader world count = both_map S0 S1 K0 K1 (Between reader world count) (Ended SinkFault) (λ held left before after x. (
    x.0,
    x.1,
    record { whole = x.0; rest = []; begins = append-nil x.0; trace = inl (some_done held (to_come reader left) reader.given count world x.0 x.2) },
  ))

  -- the limit of octets
  pub octets_passed : (S0 S1 S2 K0 K1 : Option (List ℕ)) (old new : Reader) (world : W) (count : ℕ)
      → IsBetween S0 S1 K0 K1 old world count → WhereTold S1 S2 (λ before after. NextLine old new before after (Err Stop.TooLong)) → Both S0 S2 K0 K1 (Ended TooLong)
  octets_passed S0 S1 S2 K0 K1 old new world count = both_source S0 S1 S2 K0 K1 (Between old world count) (Ended TooLong) _ (λ held left left' before after x stopped.
      let s = stopped.0 in (
        x.0,
        x.1,
        at_limit held new.line (to_come new left') old.given count world x.0 (subst (λ r. Working held r old.given world count x.0) s.took.taken x.2) s.part s.short
            (sym s.took.given ∙ stopped.2) stopped.1,
      ))

  -- the end of the input
  pub input_ended : (S0 S1 S2 K0 K1 : Option (List ℕ)) (old new : Reader) (world : W) (count : ℕ)
      → IsBetween S0 S1 K0 K1 old world count → WhereTold S1 S2 (λ before after. NextLine old new before after (Ok End)) → Both S0 S2 K0 K1 (Ended Done)
  input_ended S0 S1 S2 K0 K1 old new world count = both_source S0 S1 S2 K0 K1 (Between old world count) (Ended Done) _ (λ held left left' before after x ended.
      (x.0, x.1, at_end held left' old.given count world x.0 (subst (λ r. Working held r old.given world count x.0) ended.0 x.2) (left_none new.ahead left' (sym ended.1.taken ∙ ended.0))))

  -- a line is refused, with what was written before it
  pub record RefusedHere (held before after : List ℕ) (number place : ℕ) (word : List ℕ) : Type 0 where
    pub text : List ℕ
    pub is : after ≡ before ++ text
    pub refused : Refuses Does Bars start (first_lines most held) text number place word
    pub some : IsTraceOfSome Does start most held text

  -- the line of a refusal, as far as it was written
  refused_told : (S0 S1 K0 K1 K2 : Option (List ℕ)) (X : List ℕ → List ℕ → List ℕ → List ℕ → Type 0) (number place : ℕ) (word : List ℕ) (status : Status)
      → ((held left before after : List ℕ) → X held left before after → RefusedHere held before after number place word)
      → Both S0 S1 K0 K1 X → Told K1 K2 (refused_text number place word) status → Both S0 S1 K0 K2 (Ended status)
  refused_told S0 S1 K0 K1 K2 X number place word IsRefusedStatus f x told = both_sink S0 S1 K0 K1 K2 X (Ended IsRefusedStatus) _ (λ held left before after after' x wrote.
      let h = f held left before after x in
      let line = refused_text number place word in
      (h.text ++ line, wrote ∙ (ap (λ t. t ++ line) h.is ∙ append_assoc before h.text line), record { text = h.text; number = number; place = place; word = word; refused = h.refused; written_is = refl })) x told
  refused_told S0 S1 K0 K1 K2 X number place word SinkFault f x told = both_sink S0 S1 K0 K1 K2 X (Ended SinkFault) _ (λ held left before after after' x wrote.
      let h = f held left before after x in
      let line = refused_text number place word in (
        h.text ++ take wrote.0 line,
        wrote.1 ∙ (ap (λ t. t ++ take wrote.0 line) h.is ∙ append_assoc before h.text (take wrote.0 line)),
        in_part held (h.text ++ line) h.text line wrote.0 refl (inr (record { text = h.text; number = number; place = place; word = word; refused = h.refused; written_is = refl })),
      )) x told
  refused_told S0 S1 K0 K1 K2 X number place word NoMemory f x told = absurd told
  refused_told S0 S1 K0 K1 K2 X number place word Worn f x told = absurd told
  refused_told S0 S1 K0 K1 K2 X number place word Done f x told = absurd told
  refused_told S0 S1 K0 K1 K2 X number place word Usage f x told = absurd told
  refused_told S0 S1 K0 K1 K2 X number place word FlashFault f x told = absurd told
  refused_told S0 S1 K0 K1 K2 X number place word SourceFault f x told = absurd told
  refused_told S0 S1 K0 K1 K2 X number place word TooLong f x told = absurd told

  -- ---- a line came

  -- the line that was read, and what came behind it
  pub data Came (old new : Reader) (before after : List ℕ) : Next → Type 0 where
    whole : GivesLine old new before after (new.line ++ line_feed ∷ []) → Came old new before after Line
    last : GivesLine old new before after new.line → new.line ≢ [] → to_come new after ≡ [] → Came old new before after Last

  -- what has come since the lines that are done
  pub record Holding (old new : Reader) (world : W) (count : ℕ) (next : Next) (held left before after : List ℕ) : Type 0 where
    pub left_before : List ℕ
    pub written : List ℕ
    pub is : after ≡ before ++ written
    pub between : Working held (to_come old left_before) old.given world count written
    pub came : Came old new left_before left next

  pub line_came : (S0 S1 S2 K0 K1 : Option (List ℕ)) (old new : Reader) (world : W) (count : ℕ) (next : Next) → (next ≡ End → ⊥)
      → IsBetween S0 S1 K0 K1 old world count → WhereTold S1 S2 (λ before after. NextLine old new before after (Ok next)) → Both S0 S2 K0 K1 (Holding old new world count next)
  line_came S0 S1 S2 K0 K1 old new world count Line some = both_source S0 S1 S2 K0 K1 (Between old world count) _ _ (λ held left left' before after x came.
      record { left_before = left; written = x.0; is = x.1; between = x.2; came = whole came })
  line_came S0 S1 S2 K0 K1 old new world count Last some = both_source S0 S1 S2 K0 K1 (Between old world count) _ _ (λ held left left' before after x came.
      record { left_before = left; written = x.0; is = x.1; between = x.2; came = last came.0 came.1 came.2 })
  line_came S0 S1 S2 K0 K1 old new world count End some = absurd (some refl)

  fits_line : (line : List ℕ) → length (line ++ line_feed ∷ []) ≡ length line + 1
  fits_line line = length-append line (line_feed ∷ [])

  -- the rest of the input, at a line that LF ends
  at_line : (held : List ℕ) (old new : Reader) (world : W) (count : ℕ) (written before after : List ℕ) → Working held (to_come old before) old.given world count written → Took old new before after (new.line ++ line_feed ∷ [])
      → Working held (new.line ++ line_feed ∷ to_come new after) old.given world count written
  at_line held old new world count written before after r took = subst (λ rest. Working held rest old.given world count written) (took.taken ∙ append_assoc new.line (line_feed ∷ []) (to_come new after)) r

  at_last : (held : List ℕ) (old new : Reader) (world : W) (count : ℕ) (written before after : List ℕ) → Working held (to_come old before) old.given world count written → Took old new before after new.line
      → to_come new after ≡ [] → Working held new.line old.given world count written
  at_last held old new world count written before after r took none = subst (λ rest. Working held rest old.given world count written) (took.taken ∙ (ap (λ rest. new.line ++ rest) none ∙ append-nil new.line)) r

  -- the line is the next of the input
  pub record IsNext (held : List ℕ) (line : List ℕ) (world : W) (count : ℕ) (written : List ℕ) : Type 0 where
    pub rest : List ℕ
    pub given : ℕ
    pub between : Working held rest given world count written
    pub next : NextIs held between.done line

  is_next : (held left before : List ℕ) (old new : Reader) (world : W) (count : ℕ) (written : List ℕ) (next : Next) → Working held (to_come old before) old.given world count written → Came old new before left next
      → IsNext held new.line world count written
  is_next held left before old new world count written Line r (whole came) =
      let here = at_line held old new world count written before left r came.took in
      record { rest = new.line ++ line_feed ∷ to_come new left; given = old.given; between = here; next = next_line held new.line (to_come new left) old.given count world written here came.part (omega (arith, came.took.given, came.took.within, fits_line new.line)) }
  is_next held left before old new world count written Last r (last came some none) =
      let here = at_last held old new world count written before left r came.took none in
      record { rest = new.line; given = old.given; between = here; next = last_line held new.line old.given count world written here came.part some (omega (arith, came.took.given, came.took.within)) }
  is_next held left before old new world count written End r came = elim came [ ]

  -- the line is refused
  pub next_refused : (S0 S1 K0 K1 K2 : Option (List ℕ)) (old new : Reader) (world : W) (count : ℕ) (next : Next) (place : ℕ) (word : List ℕ) (status : Status) → count + 1 ≤ most → Bars world new.line place word
      → Both S0 S1 K0 K1 (Holding old new world count next) → Told K1 K2 (refused_text (count + 1) place word) status → Both S0 S1 K0 K2 (Ended status)
  next_refused S0 S1 K0 K1 K2 old new world count next place word status few refused holding told =
      refused_told S0 S1 K0 K1 K2 (Holding old new world count next) (count + 1) place word status (λ held left before after h.
      let n = is_next held left h.left_before old new world count h.written next h.between h.came in
      record { text = h.written; is = h.is; refused = refused_next held n.rest new.line n.given count place world h.written word n.between n.next few refused; some = some_done held n.rest n.given count world h.written n.between })
      holding told

  -- the line is longer than a line may be
  pub long_refused : BarsLong Bars → (S0 S1 S2 K0 K1 K2 : Option (List ℕ)) (old new : Reader) (world : W) (count : ℕ) (status : Status) → count + 1 ≤ most
      → IsBetween S0 S1 K0 K1 old world count → WhereTold S1 S2 (λ before after. NextLine old new before after (Err Stop.LongLine))
      → Told K1 K2 (refused_text (count + 1) 4096 (codes "long")) status → Both S0 S2 K0 K2 (Ended status)
  long_refused too_long S0 S1 S2 K0 K1 K2 old new world count status few between long told =
      refused_told S0 S2 K0 K1 K2 (λ held left before after. RefusedHere held before after (count + 1) 4096 (codes "long")) (count + 1) 4096 (codes "long") status (λ held left before after h. h)
      (both_source S0 S1 S2 K0 K1 (Between old world count) _ _ (λ held left left' before after x l.
      let took = l.2.2 in
      let here = subst (λ rest. Working held rest old.given world count x.0) took.taken x.2 in
      record {
        text = x.0;
        is = x.1;
        refused = long_next too_long held new.line (to_come new left') l.2.0 old.given count world x.0 here (part_more new.line l.2.0 l.0 l.2.1) l.1 (omega (arith, took.given, took.within)) few;
        some = some_done held (to_come old left) old.given count world x.0 x.2;
      }) between long) told
    where
      part_more : (line : List ℕ) (octet : ℕ) → IsPart line → octet ≢ line_feed → IsPart (line ++ octet ∷ [])
      part_more [] octet is other = (other, tt)
      part_more (x ∷ line) octet is other = (is.0, part_more line octet is.1 other)

  -- want of memory
  memory_lacks : (S0 S1 K0 K1 : Option (List ℕ)) (old new : Reader) (world : W) (count : ℕ) (next : Next) → Both S0 S1 K0 K1 (Holding old new world count next) → Both S0 S1 K0 K1 (Ended NoMemory)
  memory_lacks S0 S1 K0 K1 old new world count next = both_map S0 S1 K0 K1 _ _ (λ held left before after h.
      (h.written, h.is, some_done held (to_come old h.left_before) old.given count world h.written h.between))

  -- the line would wear out a flash
  flash_worn : (S0 S1 K0 K1 : Option (List ℕ)) (old new : Reader) (world : W) (count : ℕ) (next : Next) → count + 1 ≤ most → Wears world new.line → Both S0 S1 K0 K1 (Holding old new world count next)
      → Both S0 S1 K0 K1 (Ended Worn)
  flash_worn S0 S1 K0 K1 old new world count next few worn = both_map S0 S1 K0 K1 _ _ (λ held left before after h.
      let n = is_next held left h.left_before old new world count h.written next h.between h.came in (
        h.written,
        h.is,
        record {
          before = n.between.done;
          line = new.line;
          others = take (most - (count + 1)) n.next.later;
          cut = ap (take most) n.next.is ∙ take_through n.between.done new.line n.next.later count most n.between.counted few;
          end = world;
          run = n.between.run;
          wears = worn;
        },
      ))

  -- the sink failed at the line's text
  line_unwritten : (S0 S1 K0 K1 K2 : Option (List ℕ)) (old new : Reader) (world end : W) (count : ℕ) (next : Next) (text : List ℕ) → count + 1 ≤ most → Does world new.line text end
      → Both S0 S1 K0 K1 (Holding old new world count next) → WroteSome K1 K2 text → Both S0 S1 K0 K2 (Ended SinkFault)
  line_unwritten S0 S1 K0 K1 K2 old new world end count next text few step = both_sink S0 S1 K0 K1 K2 (Holding old new world count next) (Ended SinkFault) _ (λ held left before after after' h wrote.
      let n = is_next held left h.left_before old new world count h.written next h.between h.came in (
        h.written ++ take wrote.0 text,
        wrote.1 ∙ (ap (λ t. t ++ take wrote.0 text) h.is ∙ append_assoc before h.written (take wrote.0 text)),
        in_part held (h.written ++ text) h.written text wrote.0 refl (inl (some_next held n.rest new.line n.given count world end h.written text n.between n.next few step)),
      ))

  -- the line wasn't done
  pub line_stopped : (S0 S1 K0 K1 K2 K3 : Option (List ℕ)) (old new : Reader) (world : W) (count : ℕ) (next : Next) (stop : LineStop) (status : Status) → count + 1 ≤ most
      → StopsLine Does Bars Wears world new.line K1 K2 stop → Both S0 S1 K0 K1 (Holding old new world count next) → EndsAt K2 K3 (count + 1) stop status → Both S0 S1 K0 K3 (Ended status)
  line_stopped S0 S1 K0 K1 K2 K3 old new world count next Memory status few stops holding ends =
      rw (ends.0, ends.1, stops) (memory_lacks S0 S1 K0 K1 old new world count next holding)
  line_stopped S0 S1 K0 K1 K2 K3 old new world count next WornLine status few stops holding ends =
      rw (ends.0, ends.1, stops.1) (flash_worn S0 S1 K0 K1 old new world count next few stops.0 holding)
  line_stopped S0 S1 K0 K1 K2 K3 old new world count next Sink status few stops holding ends =
      rw (ends.0, ends.1) (line_unwritten S0 S1 K0 K1 K2 old new world stops.next count next stops.text few stops.does holding stops.wrote)
  line_stopped S0 S1 K0 K1 K2 K3 old new world count next (RefusedLine place word) status few stops holding ends =
      next_refused S0 S1 K0 K1 K3 old new world count next place word.now status few stops.0 holding (rw (← stops.1) ends)

  -- the last line is done
  pub last_written : (S0 S1 K0 K1 K2 : Option (List ℕ)) (old new : Reader) (world end : W) (count : ℕ) (text : List ℕ) → count + 1 ≤ most → Does world new.line text end
      → Both S0 S1 K0 K1 (Holding old new world count Last) → Wrote K1 K2 text → Both S0 S1 K0 K2 (Ended Done)
  last_written S0 S1 K0 K1 K2 old new world end count text few step = both_sink S0 S1 K0 K1 K2 (Holding old new world count Last) (Ended Done) _ (λ held left before after after' h wrote.
      (h.written ++ text, wrote ∙ (ap (λ t. t ++ text) h.is ∙ append_assoc before h.written text), by held left before h.left_before h.written h.between h.came))
    where
      by : (held left before left_before written : List ℕ) → Working held (to_come old left_before) old.given world count written → Came old new left_before left Last → IsWhole Does start most held left (written ++ text)
      by held left before left_before written r (last came some none) =
          last_done held new.line left old.given count world end written text (at_last held old new world count written left_before left r came.took none) came.part some (omega (arith, came.took.given, came.took.within)) few step (left_none new.ahead left none)

  -- a line that LF ends is done
  pub line_written : (S0 S1 K0 K1 K2 : Option (List ℕ)) (old new : Reader) (world end : W) (count : ℕ) (text : List ℕ) → count + 1 ≤ most → Does world new.line text end
      → Both S0 S1 K0 K1 (Holding old new world count Line) → Wrote K1 K2 text → IsBetween S0 S1 K0 K2 new end (count + 1)
  line_written S0 S1 K0 K1 K2 old new world end count text few step = both_sink S0 S1 K0 K1 K2 (Holding old new world count Line) (Between new end (count + 1)) _ (λ held left before after after' h wrote.
      (h.written ++ text, wrote ∙ (ap (λ t. t ++ text) h.is ∙ append_assoc before h.written text), by held left before h.left_before h.written h.between h.came))
    where
      by : (held left before left_before written : List ℕ) → Working held (to_come old left_before) old.given world count written → Came old new left_before left Line → Working held (to_come new left) new.given end (count + 1) (written ++ text)
      by held left before left_before written r (whole came) =
          subst (λ given. Working held (to_come new left) given end (count + 1) (written ++ text)) (sym (came.took.given ∙ ap (λ k. old.given + k) (fits_line new.line)))
          (line_done held new.line (to_come new left) old.given count world end written text (at_line held old new world count written left_before left r came.took) came.part (omega (arith, came.took.given, came.took.within, fits_line new.line)) few step)

  -- what is neither the end nor the last line is a line that LF ends
  pub only_line : (next : Next) → (next ≡ End → ⊥) → (next ≡ Last → ⊥) → next ≡ Line
  only_line Line a b = refl
  only_line Last a b = absurd (b refl)
  only_line End a b = absurd (a refl)

  -- ---- where neither the source nor the sink fails

  abbrev Must : List ℕ → Status → Type 0
  Must held status = EndsAsItMust Does Bars Wears start most held status

  pub must_end : (held left written : List ℕ) (status : Status) → EndsWith Does Bars Wears start most held left written status → (status ≡ SourceFault → ⊥) → (status ≡ SinkFault → ⊥) → Must held status
  must_end held left written Done ends reads writes = record {
    done = λ within none unworn. inl refl;
    too_long = λ past none unworn. absurd (ends.within past);
    refused = λ undone unworn. absurd (undone written ends.trace);
    worn = λ undone none. absurd (undone written ends.trace);
  }
  must_end held left written NoMemory ends reads writes = record {
    done = λ within none unworn. inr refl;
    too_long = λ past none unworn. inr refl;
    refused = λ undone unworn. inr refl;
    worn = λ undone none. inr refl;
  }
  must_end held left written IsRefusedStatus ends reads writes = record {
    done = λ within none unworn. absurd (none ends.text ends.number ends.place ends.word ends.refused);
    too_long = λ past none unworn. absurd (none ends.text ends.number ends.place ends.word ends.refused);
    refused = λ undone unworn. inl refl;
    worn = λ undone none. absurd (none ends.text ends.number ends.place ends.word ends.refused);
  }
  must_end held left written Worn ends reads writes = record {
    done = λ within none unworn. absurd (unworn written ends);
    too_long = λ past none unworn. absurd (unworn written ends);
    refused = λ undone unworn. absurd (unworn written ends);
    worn = λ undone none. inl refl;
  }
  must_end held left written TooLong ends reads writes = record {
    done = λ within none unworn. absurd (within ends.past);
    too_long = λ past none unworn. inl refl;
    refused = λ undone unworn. absurd (undone written ends.trace);
    worn = λ undone none. absurd (undone written ends.trace);
  }
  must_end held left written SourceFault ends reads writes = absurd (reads refl)
  must_end held left written SinkFault ends reads writes = absurd (writes refl)
  must_end held left written Usage ends reads writes = absurd ends
  must_end held left written FlashFault ends reads writes = absurd ends

  pub completes : (All : List ℕ → Status → Type 0)
      → ((held left written : List ℕ) (status : Status) → EndsWith Does Bars Wears start most held left written status → Must held status → (status ≡ SourceFault → ⊥) → (status ≡ SinkFault → ⊥) → All held status)
      → (source source' sink sink' : Option (List ℕ)) (status : Status) → Ends Does Bars Wears start most source source' sink sink' status → (status ≡ SourceFault → ⊥) → (status ≡ SinkFault → ⊥)
      → Completes All source source' sink sink' status
  completes All all source source' sink sink' status ends reads writes =
      where_told source source' _ _ (λ held left p.
      where_told sink sink' _ _ (λ before after q. all held left q.0 status q.2 (must_end held left q.0 status q.2 reads writes) reads writes) p) ends

  -- where a line that is refused in a run leaves no run of all lines
  pub alone : (held left written : List ℕ) (status : Status)
      → ((text whole : List ℕ) (number place : ℕ) (word : List ℕ) → Refuses Does Bars start (first_lines most held) text number place word → Prints Does start (first_lines most held) whole → ⊥)
      → Must held status → NoneWears Does Wears start most held
      → (text : List ℕ) (number place : ℕ) (word : List ℕ) → Refuses Does Bars start (first_lines most held) text number place word → OrNoMemory IsRefusedStatus status
  alone held left written status law must unworn text number place word refuses =
      must.refused (λ whole prints. law text whole number place word refuses prints) unworn
