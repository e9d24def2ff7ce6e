-- How the lines of an input come of its beginning and its rest.
use Rattle.std.proofs.Common.{◌≡◌, ◌≢◌, ℕ, ◌+◌, ◌-◌, ◌<◌, ◌≤◌, Bool, true, false, eqb, leb, ltb, List, [], ◌∷◌, ◌++◌, length, take, refl, sym, ap, ◌∙◌, subst, append_assoc, arith, length-append, inl, inr, ◌⊎◌}
use Rattle.std.proofs.lemmas.Bool.{ne_eqb, le-leb, lt-leb, le-ltb, lt-ltb, leb-true, leb-false}
use Rattle.std.proofs.lemmas.List.{append-nil, take_at}
use Rattle.std.proofs.Math.Seq.{take-append-add}
use Rattle.std.specs.List.{onto_first}
use Rattle.mu_model_script.specs.Pieces.{pieces, line_feed, without_empty_last, lines_of}
use Rattle.mu_model_script.specs.Limits.{without_short_last, without_last, lines_in, ended_lines, most_in_line}
use Rattle.mu_input.specs.Reading.{IsPart}

-- there is a first piece
pub record FirstPiece (octets : List ℕ) : Type 0 where
  pub first : List ℕ
  pub others : List (List ℕ)
  pub is : pieces line_feed octets ≡ first ∷ others

onto_some : (octet : ℕ) (ps : List (List ℕ)) → (first : List ℕ) × (others : List (List ℕ)) × (onto_first octet ps ≡ first ∷ others)
onto_some octet [] = (octet ∷ [], [], refl)
onto_some octet (p ∷ ps) = (octet ∷ p, ps, refl)

pub first_piece : (octets : List ℕ) → FirstPiece octets
first_piece [] = record { first = []; others = []; is = refl }
first_piece (octet ∷ octets) = by (eqb octet line_feed) refl
  where
    by : (b : Bool) → eqb octet line_feed ≡ b → FirstPiece (octet ∷ octets)
    by true e = record { first = []; others = pieces line_feed octets; is = rw e refl }
    by false e =
        let s = onto_some octet (pieces line_feed octets) in
        record { first = s.0; others = s.1; is = rw e s.2 }

-- the pieces of two parts: the last of the one and the first of the other are one
joined : List (List ℕ) → List ℕ → List (List ℕ) → List (List ℕ)
joined [] y ys = y ∷ ys
joined (p ∷ []) y ys = (p ++ y) ∷ ys
joined (p ∷ q ∷ ps) y ys = p ∷ joined (q ∷ ps) y ys

onto_joined : (octet : ℕ) (ps : List (List ℕ)) (y : List ℕ) (ys : List (List ℕ)) → onto_first octet (joined ps y ys) ≡ joined (onto_first octet ps) y ys
unfolding joined
onto_joined octet [] y ys = refl
onto_joined octet (p ∷ []) y ys = refl
onto_joined octet (p ∷ q ∷ ps) y ys = refl

ended_joined : (a : List ℕ) (y : List ℕ) (ys : List (List ℕ)) → joined ([] ∷ pieces line_feed a) y ys ≡ [] ∷ joined (pieces line_feed a) y ys
unfolding joined
ended_joined a y ys = let f = first_piece a in rw f.is refl

pieces_joined : (a b y : List ℕ) (ys : List (List ℕ)) → pieces line_feed b ≡ y ∷ ys → pieces line_feed (a ++ b) ≡ joined (pieces line_feed a) y ys
unfolding joined
pieces_joined [] b y ys is = is
pieces_joined (octet ∷ a) b y ys is = by (eqb octet line_feed) refl (pieces_joined a b y ys is)
  where
    by : (c : Bool) → eqb octet line_feed ≡ c → pieces line_feed (a ++ b) ≡ joined (pieces line_feed a) y ys → pieces line_feed (octet ∷ a ++ b) ≡ joined (pieces line_feed (octet ∷ a)) y ys
    by true e rest = rw e (ap (λ ps. [] ∷ ps) rest ∙ sym (ended_joined a y ys))
    by false e rest = rw e (ap (onto_first octet) rest ∙ onto_joined octet (pieces line_feed a) y ys)

joined_last : (done : List (List ℕ)) (x y : List ℕ) (ys : List (List ℕ)) → joined (done ++ x ∷ []) y ys ≡ done ++ (x ++ y) ∷ ys
unfolding joined
joined_last [] x y ys = refl
joined_last (d ∷ []) x y ys = refl
joined_last (d ∷ e ∷ done) x y ys = ap (λ ps. d ∷ ps) (joined_last (e ∷ done) x y ys)

pub pieces_at : (a b : List ℕ) (done : List (List ℕ)) (x y : List ℕ) (ys : List (List ℕ))
    → pieces line_feed a ≡ done ++ x ∷ [] → pieces line_feed b ≡ y ∷ ys → pieces line_feed (a ++ b) ≡ done ++ (x ++ y) ∷ ys
pieces_at a b done x y ys first second = pieces_joined a b y ys second ∙ (ap (λ ps. joined ps y ys) first ∙ joined_last done x y ys)

-- a part of a line is one piece
pub pieces_part : (part : List ℕ) → IsPart part → pieces line_feed part ≡ part ∷ []
pieces_part [] h = refl
pieces_part (octet ∷ part) h = rw (ne_eqb octet line_feed h.0) (ap (onto_first octet) (pieces_part part h.1))

pub pieces_ended : (part rest : List ℕ) → IsPart part → pieces line_feed (part ++ line_feed ∷ rest) ≡ part ∷ pieces line_feed rest
pieces_ended part rest h = pieces_at part (line_feed ∷ rest) [] part [] (pieces line_feed rest) (pieces_part part h) refl ∙ ap (λ p. p ∷ pieces line_feed rest) (append-nil part)

-- what changes nothing but a last piece
abbrev OnLast : (List (List ℕ) → List (List ℕ)) → Type 0
OnLast f = (p q : List ℕ) (ps : List (List ℕ)) → f (p ∷ q ∷ ps) ≡ p ∷ f (q ∷ ps)

front_stays : (f : List (List ℕ) → List (List ℕ)) → OnLast f → (done : List (List ℕ)) (y : List ℕ) (ys : List (List ℕ)) → f (done ++ y ∷ ys) ≡ done ++ f (y ∷ ys)
front_stays f on [] y ys = refl
front_stays f on (d ∷ []) y ys = on d y ys
front_stays f on (d ∷ e ∷ done) y ys = on d e (done ++ y ∷ ys) ∙ ap (λ ps. d ∷ ps) (front_stays f on (e ∷ done) y ys)

-- behind whole lines
through_front : (f : List (List ℕ) → List (List ℕ)) → OnLast f → (front rest : List ℕ) (done : List (List ℕ)) → pieces line_feed front ≡ done ++ [] ∷ []
    → f (pieces line_feed (front ++ rest)) ≡ done ++ f (pieces line_feed rest)
through_front f on front rest done is =
    let r = first_piece rest in
    ap f (pieces_at front rest done [] r.first r.others is r.is) ∙ (front_stays f on done r.first r.others ∙ ap (λ ps. done ++ f ps) (sym r.is))

take_front : (n : ℕ) (front rest : List ℕ) → length front ≤ n → take n (front ++ rest) ≡ front ++ take (n - length front) rest
take_front n front rest h =
    let e : length front + (n - length front) ≡ n = omega arith in
    ap (λ k. take k (front ++ rest)) (sym e) ∙ take-append-add front rest (n - length front)

-- the lines within so many octets, behind whole lines
pub lines_in_front : (n : ℕ) (front rest : List ℕ) (done : List (List ℕ)) → pieces line_feed front ≡ done ++ [] ∷ [] → length front ≤ n
    → lines_in n (front ++ rest) ≡ done ++ lines_in (n - length front) rest
lines_in_front n front rest done is fits = by (leb (length rest) (n - length front)) refl
  where
    by : (b : Bool) → leb (length rest) (n - length front) ≡ b → lines_in n (front ++ rest) ≡ done ++ lines_in (n - length front) rest
    by true e =
        let all : leb (length (front ++ rest)) n ≡ true = le-leb _ _ (omega (arith, length-append front rest, leb-true _ _ e)) in
        rw (e, all) (through_front without_empty_last (λ p q ps. refl) front rest done is)
    by false e =
        let more : leb (length (front ++ rest)) n ≡ false = lt-leb _ _ (omega (arith, length-append front rest, leb-false _ _ e)) in
        rw (e, more) (ap (λ octets. without_short_last (pieces line_feed octets)) (take_front n front rest fits)
        ∙ through_front without_short_last (λ p q ps. refl) front (take (n - length front) rest) done is)

-- the lines that LF has ended, behind whole lines
pub ended_front : (front part : List ℕ) (done : List (List ℕ)) → pieces line_feed front ≡ done ++ [] ∷ [] → IsPart part → ended_lines (front ++ part) ≡ done
ended_front front part done is h = through_front without_last (λ p q ps. refl) front part done is ∙ (ap (λ ps. done ++ without_last ps) (pieces_part part h) ∙ append-nil done)

-- ---- the lines within so many octets, by what comes first

pub lines_in_end : (n : ℕ) → lines_in n [] ≡ []
lines_in_end n = rw (le-leb 0 n (omega arith)) refl

pub lines_in_line : (n : ℕ) (line rest : List ℕ) → IsPart line → length line + 1 ≤ n → lines_in n (line ++ line_feed ∷ rest) ≡ line ∷ lines_in (n - (length line + 1)) rest
lines_in_line n line rest part fits =
    let len : length (line ++ line_feed ∷ []) ≡ length line + 1 = length-append line (line_feed ∷ []) in
    ap (lines_in n) (sym (append_assoc line (line_feed ∷ []) rest))
    ∙ (lines_in_front n (line ++ line_feed ∷ []) rest (line ∷ []) (pieces_ended line [] part) (omega (arith, len)) ∙ ap (λ k. line ∷ lines_in (n - k) rest) len)

one_line : (line : List ℕ) → line ≢ [] → without_empty_last (line ∷ []) ≡ line ∷ []
one_line [] some = absurd (some refl)
one_line (octet ∷ line) some = rw (ne_eqb (length (octet ∷ line)) 0 (λ (none : length (octet ∷ line) ≡ 0). omega arith)) refl

pub lines_in_last : (n : ℕ) (line : List ℕ) → IsPart line → line ≢ [] → length line ≤ n → lines_in n line ≡ line ∷ []
lines_in_last n line part some fits = rw (le-leb (length line) n fits) (ap without_empty_last (pieces_part line part) ∙ one_line line some)

-- a first line that is longer than these octets
pub record BeginsLong (octets : List ℕ) (lines : List (List ℕ)) : Type 0 where
  pub rest : List ℕ
  pub later : List (List ℕ)
  pub is : lines ≡ (octets ++ rest) ∷ later

long_kept : (octets rest : List ℕ) (others : List (List ℕ)) → most_in_line < length octets → BeginsLong octets (without_empty_last ((octets ++ rest) ∷ others)) × BeginsLong octets (without_short_last ((octets ++ rest) ∷ others))
long_kept octets rest [] long =
    let len = length-append octets rest in
    let some : eqb (length (octets ++ rest)) 0 ≡ false = ne_eqb _ 0 (λ (none : length (octets ++ rest) ≡ 0). omega arith) in
    let past : ltb most_in_line (length (octets ++ rest)) ≡ true = lt-ltb _ _ (omega (arith, len, long)) in
    (record { rest = rest; later = []; is = rw some refl }, record { rest = rest; later = []; is = rw past refl })
long_kept octets rest (p ∷ others) long =
    (record { rest = rest; later = without_empty_last (p ∷ others); is = refl }, record { rest = rest; later = without_short_last (p ∷ others); is = refl })

pub lines_in_long : (n : ℕ) (octets rest : List ℕ) → IsPart octets → most_in_line < length octets → length octets ≤ n → BeginsLong octets (lines_in n (octets ++ rest))
lines_in_long n octets rest part long fits = by (leb (length (octets ++ rest)) n) refl
  where
    glued : (more : List ℕ) → (first : List ℕ) × (others : List (List ℕ)) × (pieces line_feed (octets ++ more) ≡ (octets ++ first) ∷ others)
    glued more =
        let f = first_piece more in
        (f.first, f.others, pieces_at octets more [] octets f.first f.others (pieces_part octets part) f.is)

    by : (b : Bool) → leb (length (octets ++ rest)) n ≡ b → BeginsLong octets (lines_in n (octets ++ rest))
    by true e =
        let g = glued rest in
        rw e (subst (λ ps. BeginsLong octets (without_empty_last ps)) (sym g.2) (long_kept octets g.0 g.1 long).0)
    by false e =
        let g = glued (take (n - length octets) rest) in
        rw e (subst (λ ps. BeginsLong octets (without_short_last ps)) (sym (ap (pieces line_feed) (take_front n octets rest fits) ∙ g.2)) (long_kept octets g.0 g.1 long).1)

-- a part of a line that fills them, and more behind it
pub lines_in_part : (n : ℕ) (part rest : List ℕ) → IsPart part → length part ≤ most_in_line → length part ≡ n → rest ≢ [] → lines_in n (part ++ rest) ≡ []
lines_in_part n part [] is short full more = absurd (more refl)
lines_in_part n part (octet ∷ rest) is short full more =
    let len = length-append part (octet ∷ rest) in
    let past : leb (length (part ++ octet ∷ rest)) n ≡ false = lt-leb _ _ (omega (arith, len, full)) in
    let within : ltb most_in_line (length part) ≡ false = le-ltb _ _ short in
    rw past (ap (λ octets. without_short_last (pieces line_feed octets)) (take_at part (octet ∷ rest) n full) ∙ (ap without_short_last (pieces_part part is) ∙ (rw within refl)))

-- where octets are left, a line is, or the octets are passed
pub lines_in_more : (n : ℕ) (rest : List ℕ) → rest ≢ [] → (n < length rest) ⊎ (0 < length (lines_in n rest))
lines_in_more n [] more = absurd (more refl)
lines_in_more n (octet ∷ rest) more = by (leb (length (octet ∷ rest)) n) refl
  where
    some : (ps : List (List ℕ)) (p : List ℕ) (others : List (List ℕ)) → ps ≡ p ∷ others → 0 < length (without_empty_last ([] ∷ ps))
    some ps p others is = rw is (omega arith)

    onto : (ps : List (List ℕ)) → 0 < length (without_empty_last (onto_first octet ps))
    onto [] = omega arith
    onto (p ∷ []) = rw (ne_eqb (length (octet ∷ p)) 0 (λ (none : length (octet ∷ p) ≡ 0). omega arith)) (omega arith)
    onto (p ∷ q ∷ ps) = omega arith

    first : (c : Bool) → eqb octet line_feed ≡ c → 0 < length (lines_of (octet ∷ rest))
    first true e = let f = first_piece rest in rw e (some (pieces line_feed rest) f.first f.others f.is)
    first false e = rw e (onto (pieces line_feed rest))

    by : (b : Bool) → leb (length (octet ∷ rest)) n ≡ b → (n < length (octet ∷ rest)) ⊎ (0 < length (lines_in n (octet ∷ rest)))
    by true e = inr (rw e (first (eqb octet line_feed) refl))
    by false e = inl (omega (arith, leb-false _ _ e))
