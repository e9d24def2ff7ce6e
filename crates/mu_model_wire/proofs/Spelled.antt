-- Octets that spell a message are read as it.
use Rattle.std.proofs.Common.{◌≡◌, ℕ, zero, suc, ◌+◌, ◌*◌, ◌/◌, ◌%◌, ◌^◌, ◌≤◌, ◌<◌, Bool, true, false, ltb, leb, eqb, cond, List, [], ◌∷◌, ◌++◌, length, take, drop, Option, Some, None, Ok, refl, ap, ◌∙◌, append_assoc, arith, inl, inr, length-append, ◌&&◌, ◌||◌, ◌⊎◌}
use Rattle.std.proofs.lemmas.Bool.{ltb-true, lt-ltb, le-ltb, leb-true, and_from, and_parts, and_left, lt-leb, ne_eqb, eq-eqb, eqb-true, cases_lt, or_cases, or_right}
use Rattle.std.proofs.lemmas.List.{take-append-drop}
use Rattle.std.specs.Prelude.{MatchBool}
use Rattle.byteorder.specs.Numbers.{length-bytes_low_first}
use Rattle.mu_model_wire.specs.Patterns.{within}
use Rattle.mu_model_wire.specs.Fields.{Part, part, rfu, Field, word, num, zero_or, split, counted, whole, pattern, Fields, end, rest, repeated, ◌▹◌, when, where_left, Row, Shown, number, octets as shown_octets, Message}
use Rattle.mu_model_wire.specs.Reading.{Left, after, parts_in, parts_of, field_at, entry_at, entries_at, fields_at, opcode_at, fields_of, message_at, value_of, is_one_of}
use Rattle.mu_model_wire.specs.Spelling.{joined, begins_with, part_count, shown_count, PartsFit, FieldFits, EntryFits, EntriesFit, FieldsFit, RowFits, Fits, field_spelling, entry_spelling, entries_spelling, fields_spelling, opcode_spelling, row_spelling, spelling}
use Rattle.mu_model_wire.specs.Spells.{FieldSpells, EntrySpells, EntriesSpell, FieldsSpell, RowSpells, Spells}
use Rattle.mu_model_wire.specs.Sound.{bits_of, parts_hold, field_holds, entry_holds, has_field, fields_hold, leads, avoids, opcode_holds, row_holds, is_new, conditions_hold, rows_hold}
use Rattle.mu_model_wire.proofs.Words.{left_at, first_is, within-yes, word_again, octets_again, parts_again, pattern_again, first_number}

zero_or_below : (v least most bound : ℕ) → most < bound → (v ≡ 0) ⊎ ((least ≤ v) × (v ≤ most)) → v < bound
zero_or_below v least most bound lt (inl none) = omega arith
zero_or_below v least most bound lt (inr both) = omega (arith, both.1)

zero_or-yes : (v least most : ℕ) → (v ≡ 0) ⊎ ((least ≤ v) × (v ≤ most)) → ((eqb v 0) || within least most v) ≡ true
zero_or-yes v least most (inl none) = rw (eq-eqb v 0 none) refl
zero_or-yes v least most (inr both) = or_right (eqb v 0) (within least most v) (within-yes least most v both.0 both.1)

pub field_again : (f : Field) (shown : List Shown) (at : ℕ) (more : List ℕ) → field_holds f ≡ true → FieldFits f shown
    → field_at f (left_at at (field_spelling f shown ++ more)) ≡ Ok (take (shown_count f) shown, left_at (at + length (field_spelling f shown)) more)
field_again (word name k) [] at more holds fits = absurd fits
field_again (word name k) (shown_octets n os ∷ shown) at more holds fits = absurd fits
field_again (word name k) (number n v ∷ shown) at more holds fits =
    rw (word_again k v at more fits.1, length-bytes_low_first 0 k v, fits.0) refl
field_again (num name k least most) [] at more holds fits = absurd fits
field_again (num name k least most) (shown_octets n os ∷ shown) at more holds fits = absurd fits
field_again (num name k least most) (number n v ∷ shown) at more holds fits =
    let h = and_parts (ltb 0 k) (ltb most (256 ^ k)) holds in
    let most_lt : most < 256 ^ k = ltb-true most (256 ^ k) h.1 in
    rw (word_again k v at more (omega (arith, fits.2, most_lt)), within-yes least most v fits.1 fits.2, length-bytes_low_first 0 k v, fits.0) refl
field_again (zero_or name k least most) [] at more holds fits = absurd fits
field_again (zero_or name k least most) (shown_octets n os ∷ shown) at more holds fits = absurd fits
field_again (zero_or name k least most) (number n v ∷ shown) at more holds fits =
    let h = and_parts (ltb 0 k) (ltb most (256 ^ k)) holds in
    let most_lt : most < 256 ^ k = ltb-true most (256 ^ k) h.1 in
    rw (word_again k v at more (zero_or_below v least most (256 ^ k) most_lt fits.1), zero_or-yes v least most fits.1, length-bytes_low_first 0 k v, fits.0) refl
field_again (split k ps) shown at more holds fits =
    let h = and_parts (ltb 0 k && leb (2 ^ bits_of ps) (256 ^ k)) (parts_hold ps) holds in
    let g = and_parts (ltb 0 k) (leb (2 ^ bits_of ps) (256 ^ k)) h.0 in
    let again = parts_again ps shown h.1 fits in
    let wide : 2 ^ bits_of ps ≤ 256 ^ k = leb-true (2 ^ bits_of ps) (256 ^ k) g.1 in
    rw (word_again k (joined ps shown) at more (omega (arith, wide, again.below)), again.fits, again.again, length-bytes_low_first 0 k (joined ps shown)) refl
field_again (counted name least most) [] at more holds fits = absurd fits
field_again (counted name least most) (number n v ∷ shown) at more holds fits = absurd fits
field_again (counted name least most) (shown_octets n os ∷ shown) at more holds fits =
    let most_lt : most < 256 = ltb-true most 256 holds in
    let place : at + 1 + length os ≡ at + suc (length os) = omega arith in
    rw (word_again 1 (length os) at (os ++ more) (omega (arith, fits.2, most_lt)), within-yes least most (length os) fits.1 fits.2, octets_again (at + 1) os more, place, fits.0) refl
field_again (whole name size) [] at more holds fits = absurd fits
field_again (whole name size) (number n v ∷ shown) at more holds fits = absurd fits
field_again (whole name size) (shown_octets n os ∷ shown) at more holds fits = rw (← fits.1, octets_again at os more, fits.0) refl
field_again (pattern name) [] at more holds fits = absurd fits
field_again (pattern name) (shown_octets n os ∷ shown) at more holds fits = absurd fits
field_again (pattern name) (number n v ∷ shown) at more holds fits =
    rw (pattern_again v at more fits.1, fits.0) refl

-- a field has an octet
pub field_some : (f : Field) (shown : List Shown) → field_holds f ≡ true → FieldFits f shown → 0 < length (field_spelling f shown)
field_some (word name k) [] holds fits = absurd fits
field_some (word name k) (shown_octets n os ∷ shown) holds fits = absurd fits
field_some (word name k) (number n v ∷ shown) holds fits = omega (arith, ltb-true 0 k holds, length-bytes_low_first 0 k v)
field_some (num name k least most) [] holds fits = absurd fits
field_some (num name k least most) (shown_octets n os ∷ shown) holds fits = absurd fits
field_some (num name k least most) (number n v ∷ shown) holds fits =
    let h = and_parts (ltb 0 k) (ltb most (256 ^ k)) holds in
    omega (arith, ltb-true 0 k h.0, length-bytes_low_first 0 k v)
field_some (zero_or name k least most) [] holds fits = absurd fits
field_some (zero_or name k least most) (shown_octets n os ∷ shown) holds fits = absurd fits
field_some (zero_or name k least most) (number n v ∷ shown) holds fits =
    let h = and_parts (ltb 0 k) (ltb most (256 ^ k)) holds in
    omega (arith, ltb-true 0 k h.0, length-bytes_low_first 0 k v)
field_some (split k ps) shown holds fits =
    let h = and_parts (ltb 0 k && leb (2 ^ bits_of ps) (256 ^ k)) (parts_hold ps) holds in
    let g = and_parts (ltb 0 k) (leb (2 ^ bits_of ps) (256 ^ k)) h.0 in
    omega (arith, ltb-true 0 k g.0, length-bytes_low_first 0 k (joined ps shown))
field_some (counted name least most) [] holds fits = absurd fits
field_some (counted name least most) (number n v ∷ shown) holds fits = absurd fits
field_some (counted name least most) (shown_octets n os ∷ shown) holds fits = omega arith
field_some (whole name size) [] holds fits = absurd fits
field_some (whole name size) (number n v ∷ shown) holds fits = absurd fits
field_some (whole name size) (shown_octets n os ∷ shown) holds fits = omega (arith, ltb-true 0 size holds, fits.1)
field_some (pattern name) [] holds fits = absurd fits
field_some (pattern name) (shown_octets n os ∷ shown) holds fits = absurd fits
field_some (pattern name) (number n v ∷ shown) holds fits =
    elim (cases_lt v 0x80) [
      | inl small ↦ rw (lt-ltb v 0x80 small) (omega arith)
      | inr large ↦ elim (cases_lt v 0x800) [
        | inl middle ↦ rw (le-ltb v 0x80 large, lt-ltb v 0x800 middle) (omega arith)
        | inr most ↦ rw (le-ltb v 0x80 large, le-ltb v 0x800 most) (omega arith)
      ]
    ]

-- ---- spelled with any unused bits

-- a number whose parts are in their ranges
parts_in-of : (ps : List Part) (n : ℕ) (shown : List Shown) → PartsFit ps shown → parts_of ps n ≡ take (part_count ps) shown → parts_in ps n ≡ true
parts_in-of [] n shown fits same = refl
parts_in-of (rfu w ∷ ps) n shown fits same = parts_in-of ps (n / 2 ^ w) shown fits same
parts_in-of (part name w least most ∷ ps) n [] fits same = absurd fits
parts_in-of (part name w least most ∷ ps) n (shown_octets m os ∷ shown) fits same = absurd fits
parts_in-of (part name w least most ∷ ps) n (number m v ∷ shown) fits same =
    let value : n % 2 ^ w ≡ v = first_number name m (n % 2 ^ w) v (parts_of ps (n / 2 ^ w)) (take (part_count ps) shown) same in
    let others : parts_of ps (n / 2 ^ w) ≡ take (part_count ps) shown = ap (λ (xs : List Shown). drop 1 xs) same in
    rw value (and_from _ _ (within-yes least most v fits.1 fits.2) (parts_in-of ps (n / 2 ^ w) shown fits.3 others))

pub field_read : (f : Field) (shown : List Shown) (own : List ℕ) (at : ℕ) (more : List ℕ) → field_holds f ≡ true → FieldFits f shown → FieldSpells f shown own
    → field_at f (left_at at (own ++ more)) ≡ Ok (take (shown_count f) shown, left_at (at + length own) more)
field_read (split k ps) shown own at more holds fits spells =
    let ok = parts_in-of ps spells.0 shown fits spells.3 in
    rw (spells.2, word_again k spells.0 at more spells.1, ok, spells.3, length-bytes_low_first 0 k spells.0) refl
field_read (word name k) shown own at more holds fits spells = rw spells (field_again (word name k) shown at more holds fits)
field_read (num name k least most) shown own at more holds fits spells = rw spells (field_again (num name k least most) shown at more holds fits)
field_read (zero_or name k least most) shown own at more holds fits spells = rw spells (field_again (zero_or name k least most) shown at more holds fits)
field_read (counted name least most) shown own at more holds fits spells = rw spells (field_again (counted name least most) shown at more holds fits)
field_read (whole name size) shown own at more holds fits spells = rw spells (field_again (whole name size) shown at more holds fits)
field_read (pattern name) shown own at more holds fits spells = rw spells (field_again (pattern name) shown at more holds fits)

-- all spellings of a field have one length
pub field_length : (f : Field) (shown : List Shown) (own : List ℕ) → FieldSpells f shown own → length own ≡ length (field_spelling f shown)
field_length (split k ps) shown own spells = rw (spells.2, length-bytes_low_first 0 k spells.0, length-bytes_low_first 0 k (joined ps shown)) refl
field_length (word name k) shown own spells = ap length spells
field_length (num name k least most) shown own spells = ap length spells
field_length (zero_or name k least most) shown own spells = ap length spells
field_length (counted name least most) shown own spells = ap length spells
field_length (whole name size) shown own spells = ap length spells
field_length (pattern name) shown own spells = ap length spells

pub field_spelled : (f : Field) (shown : List Shown) → field_holds f ≡ true → FieldFits f shown → FieldSpells f shown (field_spelling f shown)
field_spelled (split k ps) shown holds fits =
    let h = and_parts (ltb 0 k && leb (2 ^ bits_of ps) (256 ^ k)) (parts_hold ps) holds in
    let g = and_parts (ltb 0 k) (leb (2 ^ bits_of ps) (256 ^ k)) h.0 in
    let again = parts_again ps shown h.1 fits in
    let wide : 2 ^ bits_of ps ≤ 256 ^ k = leb-true (2 ^ bits_of ps) (256 ^ k) g.1 in
    (joined ps shown, omega (arith, wide, again.below), refl, again.again)
field_spelled (word name k) shown holds fits = refl
field_spelled (num name k least most) shown holds fits = refl
field_spelled (zero_or name k least most) shown holds fits = refl
field_spelled (counted name least most) shown holds fits = refl
field_spelled (whole name size) shown holds fits = refl
field_spelled (pattern name) shown holds fits = refl

-- ---- an entry

entry_read : (fs : List Field) (shown : List Shown) (bytes : List ℕ) (at : ℕ) (more : List ℕ) → entry_holds fs ≡ true → EntryFits fs shown → EntrySpells fs shown bytes
    → entry_at fs (left_at at (bytes ++ more)) ≡ Ok (shown, left_at (at + length bytes) more)
entry_read [] shown bytes at more holds fits spells =
    let place : at + 0 ≡ at = omega arith in
    rw (fits, spells, place) refl
entry_read (f ∷ fs) shown bytes at more holds fits spells =
    let h = and_parts (field_holds f) (entry_holds fs) holds in
    let own = spells.0 in
    let others = spells.1 in
    let place : at + length own + length others ≡ at + length (own ++ others) = omega (arith, length-append own others) in
    let again = entry_read fs (drop (shown_count f) shown) others (at + length own) more h.1 fits.1 spells.4 in
    rw (spells.2, append_assoc own others more, field_read f shown own at (others ++ more) h.0 fits.0 spells.3, again, take-append-drop (shown_count f) shown, place) refl

pub entry_length : (fs : List Field) (shown : List Shown) (bytes : List ℕ) → EntrySpells fs shown bytes → length bytes ≡ length (entry_spelling fs shown)
entry_length [] shown bytes spells = ap length spells
entry_length (f ∷ fs) shown bytes spells =
    let a = field_length f shown spells.0 spells.3 in
    let b = entry_length fs (drop (shown_count f) shown) spells.1 spells.4 in
    ap length spells.2 ∙ omega (arith, a, b, length-append spells.0 spells.1, length-append (field_spelling f shown) (entry_spelling fs (drop (shown_count f) shown)))

entry_spelled : (fs : List Field) (shown : List Shown) → entry_holds fs ≡ true → EntryFits fs shown → EntrySpells fs shown (entry_spelling fs shown)
entry_spelled [] shown holds fits = refl
entry_spelled (f ∷ fs) shown holds fits =
    let h = and_parts (field_holds f) (entry_holds fs) holds in
    (field_spelling f shown, entry_spelling fs (drop (shown_count f) shown), refl, field_spelled f shown h.0 fits.0, entry_spelled fs (drop (shown_count f) shown) h.1 fits.1)

-- an entry has an octet
pub entry_some : (fs : List Field) (shown : List Shown) → has_field fs ≡ true → entry_holds fs ≡ true → EntryFits fs shown → 0 < length (entry_spelling fs shown)
entry_some [] shown some holds fits = absurd cc
entry_some (f ∷ fs) shown some holds fits =
    let h = and_parts (field_holds f) (entry_holds fs) holds in
    omega (arith, field_some f shown h.0 fits.0, length-append (field_spelling f shown) (entry_spelling fs (drop (shown_count f) shown)))

-- ---- entries

entries_step : (fuel : ℕ) (fs : List Field) (e : List Shown) (es : List (List Shown)) (left after : Left) → eqb (length left.octets) 0 ≡ false → entry_at fs left ≡ Ok (e, after)
    → entries_at fuel fs after ≡ Ok es → entries_at (suc fuel) fs left ≡ Ok (e ∷ es)
entries_step fuel fs e es left after some first others = rw (some, first, others) refl

entries_read : (fuel : ℕ) (fs : List Field) (es : List (List Shown)) (bytes : List ℕ) (at : ℕ) → has_field fs ≡ true → entry_holds fs ≡ true → EntriesFit fs es
    → EntriesSpell fs es bytes → length bytes ≤ fuel → entries_at fuel fs (left_at at bytes) ≡ Ok es
entries_read zero fs [] bytes at some holds fits spells enough = refl
entries_read (suc fuel) fs [] bytes at some holds fits spells enough = rw spells refl
entries_read zero fs (e ∷ es) bytes at some holds fits spells enough =
    let s = entry_some fs e some holds fits.0 in
    let l = entry_length fs e spells.0 spells.3 in
    absurd (omega (arith, s, l, length-append spells.0 spells.1, ap length spells.2, enough))
entries_read (suc fuel) fs (e ∷ es) bytes at some holds fits spells enough =
    let own = spells.0 in
    let others = spells.1 in
    let s = entry_some fs e some holds fits.0 in
    let l = entry_length fs e own spells.3 in
    let m = length-append own others in
    let n = ap length spells.2 in
    let not_ended : eqb (length (own ++ others)) 0 ≡ false = ne_eqb _ 0 (λ (none : length (own ++ others) ≡ 0). omega arith) in
    let later = entries_read fuel fs es others (at + length own) some holds fits.1 spells.4 (omega (arith, s, l, m, n, enough)) in
    rw spells.2 (entries_step fuel fs e es (left_at at (own ++ others)) (left_at (at + length own) others) not_ended (entry_read fs e own at others holds fits.0 spells.3) later)

pub entries_length : (fs : List Field) (es : List (List Shown)) (bytes : List ℕ) → EntriesSpell fs es bytes → length bytes ≡ length (entries_spelling fs es)
entries_length fs [] bytes spells = ap length spells
entries_length fs (e ∷ es) bytes spells =
    let a = entry_length fs e spells.0 spells.3 in
    let b = entries_length fs es spells.1 spells.4 in
    ap length spells.2 ∙ omega (arith, a, b, length-append spells.0 spells.1, length-append (entry_spelling fs e) (entries_spelling fs es))

entries_spelled : (fs : List Field) (es : List (List Shown)) → entry_holds fs ≡ true → EntriesFit fs es → EntriesSpell fs es (entries_spelling fs es)
entries_spelled fs [] holds fits = refl
entries_spelled fs (e ∷ es) holds fits = (entry_spelling fs e, entries_spelling fs es, refl, entry_spelled fs e holds fits.0, entries_spelled fs es holds fits.1)

-- ---- fields

-- fields that are read as they were spelled, where they fit
abbrev Read : Fields → List Shown → List Shown → List (List Shown) → ℕ → List ℕ → Type 0
Read fs before shown entries at bytes = FieldsFit fs before shown entries → FieldsSpell fs before shown entries bytes → fields_at fs before (left_at at bytes) ≡ Ok (shown, entries)

when_read : (b : Bool) (fs gs : Fields) (before shown : List Shown) (entries : List (List Shown)) (at : ℕ) (bytes : List ℕ)
    → MatchBool b (FieldsFit fs before shown entries) (FieldsFit gs before shown entries)
    → MatchBool b (FieldsSpell fs before shown entries bytes) (FieldsSpell gs before shown entries bytes)
    → Read fs before shown entries at bytes → Read gs before shown entries at bytes
    → cond b (fields_at fs before (left_at at bytes)) (fields_at gs before (left_at at bytes)) ≡ Ok (shown, entries)
when_read true fs gs before shown entries at bytes fits spells first second = first fits spells
when_read false fs gs before shown entries at bytes fits spells first second = second fits spells

abbrev Measures : Fields → List Shown → List Shown → List (List Shown) → List ℕ → Type 0
Measures fs before shown entries bytes = FieldsSpell fs before shown entries bytes → length bytes ≡ length (fields_spelling fs before shown entries)

where_read : (b : Bool) (n : ℕ) (fs gs : Fields) (before shown : List Shown) (entries : List (List Shown)) (at : ℕ) (bytes : List ℕ)
    → MatchBool b (FieldsFit fs before shown entries × (n ≤ length (fields_spelling fs before shown entries))) (FieldsFit gs before shown entries × (length (fields_spelling gs before shown entries) < n))
    → MatchBool b (FieldsSpell fs before shown entries bytes) (FieldsSpell gs before shown entries bytes)
    → Measures fs before shown entries bytes → Measures gs before shown entries bytes
    → Read fs before shown entries at bytes → Read gs before shown entries at bytes
    → cond (ltb (length bytes) n) (fields_at gs before (left_at at bytes)) (fields_at fs before (left_at at bytes)) ≡ Ok (shown, entries)
where_read true n fs gs before shown entries at bytes fits spells m1 m2 first second =
    let l = m1 spells in
    rw (le-ltb (length bytes) n (omega (arith, fits.1, l))) (first fits.0 spells)
where_read false n fs gs before shown entries at bytes fits spells m1 m2 first second =
    let l = m2 spells in
    rw (lt-ltb (length bytes) n (omega (arith, fits.1, l))) (second fits.0 spells)

when_length : (b : Bool) (fs gs : Fields) (before shown : List Shown) (entries : List (List Shown)) (bytes : List ℕ)
    → MatchBool b (FieldsSpell fs before shown entries bytes) (FieldsSpell gs before shown entries bytes)
    → Measures fs before shown entries bytes → Measures gs before shown entries bytes
    → length bytes ≡ length (cond b (fields_spelling fs before shown entries) (fields_spelling gs before shown entries))
when_length true fs gs before shown entries bytes spells m1 m2 = m1 spells
when_length false fs gs before shown entries bytes spells m1 m2 = m2 spells

pub fields_length : (fs : Fields) (before shown : List Shown) (entries : List (List Shown)) (bytes : List ℕ) → FieldsSpell fs before shown entries bytes → length bytes ≡ length (fields_spelling fs before shown entries)
fields_length end before shown entries bytes spells = ap length spells
fields_length (rest name least most) before shown entries bytes spells = ap length spells
fields_length (repeated name least fs) before shown entries bytes spells = entries_length fs entries bytes spells
fields_length (f ▹ fs) before shown entries bytes spells =
    let before' = take (shown_count f) shown ++ before in
    let shown' = drop (shown_count f) shown in
    let a = field_length f shown spells.0 spells.3 in
    let b = fields_length fs before' shown' entries spells.1 spells.4 in
    ap length spells.2 ∙ omega (arith, a, b, length-append spells.0 spells.1, length-append (field_spelling f shown) (fields_spelling fs before' shown' entries))
fields_length (when name values fs gs) before shown entries bytes spells =
    when_length (is_one_of values (value_of name before)) fs gs before shown entries bytes spells
    (λ (s : FieldsSpell fs before shown entries bytes). fields_length fs before shown entries bytes s) (λ (s : FieldsSpell gs before shown entries bytes). fields_length gs before shown entries bytes s)
fields_length (where_left n name fs gs) before shown entries bytes spells =
    when_length (begins_with name shown) fs gs before shown entries bytes spells
    (λ (s : FieldsSpell fs before shown entries bytes). fields_length fs before shown entries bytes s) (λ (s : FieldsSpell gs before shown entries bytes). fields_length gs before shown entries bytes s)

pub fields_read : (fs : Fields) (before shown : List Shown) (entries : List (List Shown)) (at : ℕ) (bytes : List ℕ) → fields_hold fs ≡ true → FieldsFit fs before shown entries → FieldsSpell fs before shown entries bytes
    → fields_at fs before (left_at at bytes) ≡ Ok (shown, entries)
fields_read end before shown entries at bytes holds fits spells = rw (fits.0, fits.1, spells) refl
fields_read (rest name least most) before [] entries at bytes holds fits spells = absurd fits.0
fields_read (rest name least most) before (number n v ∷ shown) entries at bytes holds fits spells = absurd fits.0
fields_read (rest name least most) before (shown_octets n os ∷ s ∷ shown) entries at bytes holds fits spells = absurd fits.0
fields_read (rest name least most) before (shown_octets n os ∷ []) entries at bytes holds fits spells =
    rw (spells, le-ltb (length os) least fits.0.1, le-ltb most (length os) fits.0.2, fits.1, fits.0.0) refl
fields_read (repeated name least fs) before shown entries at bytes holds fits spells =
    let h = and_parts (has_field fs) (entry_holds fs) holds in
    let l = entries_length fs entries bytes spells in
    rw (le-ltb (length bytes) least (omega (arith, fits.1, l)), entries_read (length bytes) fs entries bytes at h.0 h.1 fits.2 spells (omega arith), fits.0) refl
fields_read (f ▹ fs) before shown entries at bytes holds fits spells =
    let h = and_parts (field_holds f) (fields_hold fs) holds in
    let before' = take (shown_count f) shown ++ before in
    let shown' = drop (shown_count f) shown in
    let again = fields_read fs before' shown' entries (at + length spells.0) spells.1 h.1 fits.1 spells.4 in
    rw (spells.2, field_read f shown spells.0 at spells.1 h.0 fits.0 spells.3, again, take-append-drop (shown_count f) shown) refl
fields_read (when name values fs gs) before shown entries at bytes holds fits spells =
    let h = and_parts (fields_hold fs) (fields_hold gs) holds in
    when_read (is_one_of values (value_of name before)) fs gs before shown entries at bytes fits spells
    (λ (f : FieldsFit fs before shown entries). λ (s : FieldsSpell fs before shown entries bytes). fields_read fs before shown entries at bytes h.0 f s) (λ (f : FieldsFit gs before shown entries). λ (s : FieldsSpell gs before shown entries bytes). fields_read gs before shown entries at bytes h.1 f s)
fields_read (where_left n name fs gs) before shown entries at bytes holds fits spells =
    let h = and_parts (fields_hold fs) (fields_hold gs) (and_parts (fields_hold fs && fields_hold gs) (leads name fs && avoids name gs) holds).0 in
    where_read (begins_with name shown) n fs gs before shown entries at bytes fits spells
    (λ (s : FieldsSpell fs before shown entries bytes). fields_length fs before shown entries bytes s) (λ (s : FieldsSpell gs before shown entries bytes). fields_length gs before shown entries bytes s)
    (λ (f : FieldsFit fs before shown entries). λ (s : FieldsSpell fs before shown entries bytes). fields_read fs before shown entries at bytes h.0 f s) (λ (f : FieldsFit gs before shown entries). λ (s : FieldsSpell gs before shown entries bytes). fields_read gs before shown entries at bytes h.1 f s)

when_spelled : (b : Bool) (fs gs : Fields) (before shown : List Shown) (entries : List (List Shown))
    → MatchBool b (FieldsFit fs before shown entries) (FieldsFit gs before shown entries)
    → (FieldsFit fs before shown entries → FieldsSpell fs before shown entries (fields_spelling fs before shown entries))
    → (FieldsFit gs before shown entries → FieldsSpell gs before shown entries (fields_spelling gs before shown entries))
    → (let bytes = cond b (fields_spelling fs before shown entries) (fields_spelling gs before shown entries) in
    MatchBool b (FieldsSpell fs before shown entries bytes) (FieldsSpell gs before shown entries bytes))
when_spelled true fs gs before shown entries fits first second = first fits
when_spelled false fs gs before shown entries fits first second = second fits

where_fits : (b : Bool) (n : ℕ) (fs gs : Fields) (before shown : List Shown) (entries : List (List Shown))
    → MatchBool b (FieldsFit fs before shown entries × (n ≤ length (fields_spelling fs before shown entries))) (FieldsFit gs before shown entries × (length (fields_spelling gs before shown entries) < n))
    → MatchBool b (FieldsFit fs before shown entries) (FieldsFit gs before shown entries)
where_fits true n fs gs before shown entries fits = fits.0
where_fits false n fs gs before shown entries fits = fits.0

fields_spelled : (fs : Fields) (before shown : List Shown) (entries : List (List Shown)) → fields_hold fs ≡ true → FieldsFit fs before shown entries
    → FieldsSpell fs before shown entries (fields_spelling fs before shown entries)
fields_spelled end before shown entries holds fits = refl
fields_spelled (rest name least most) before shown entries holds fits = refl
fields_spelled (repeated name least fs) before shown entries holds fits =
    let h = and_parts (has_field fs) (entry_holds fs) holds in
    entries_spelled fs entries h.1 fits.2
fields_spelled (f ▹ fs) before shown entries holds fits =
    let h = and_parts (field_holds f) (fields_hold fs) holds in
    let before' = take (shown_count f) shown ++ before in
    let shown' = drop (shown_count f) shown in
    (field_spelling f shown, fields_spelling fs before' shown' entries, refl, field_spelled f shown h.0 fits.0, fields_spelled fs before' shown' entries h.1 fits.1)
fields_spelled (when name values fs gs) before shown entries holds fits =
    let h = and_parts (fields_hold fs) (fields_hold gs) holds in
    when_spelled (is_one_of values (value_of name before)) fs gs before shown entries fits
    (λ (f : FieldsFit fs before shown entries). fields_spelled fs before shown entries h.0 f) (λ (f : FieldsFit gs before shown entries). fields_spelled gs before shown entries h.1 f)
fields_spelled (where_left n name fs gs) before shown entries holds fits =
    let h = and_parts (fields_hold fs) (fields_hold gs) (and_parts (fields_hold fs && fields_hold gs) (leads name fs && avoids name gs) holds).0 in
    when_spelled (begins_with name shown) fs gs before shown entries (where_fits (begins_with name shown) n fs gs before shown entries fits)
    (λ (f : FieldsFit fs before shown entries). fields_spelled fs before shown entries h.0 f) (λ (f : FieldsFit gs before shown entries). fields_spelled gs before shown entries h.1 f)

-- ---- a message

one_octet : (opcode : ℕ) (more : List ℕ) → opcode < 0x80 → (at : ℕ) × (opcode_at (left_at 0 (opcode_spelling opcode ++ more)) ≡ Ok (opcode, left_at at more))
unfolding opcode_at
one_octet opcode more small =
    let low : within 0x80 0xBF opcode ≡ false = and_left (leb 0x80 opcode) (leb opcode 0xBF) (lt-leb 0x80 opcode small) in
    (1, rw (lt-ltb opcode 256 (omega arith), first_is opcode 0 more (omega arith), low) refl)

two_octets : (opcode : ℕ) (more : List ℕ) → 0x8000 ≤ opcode → opcode ≤ 0xBFFF → (at : ℕ) × (opcode_at (left_at 0 (opcode_spelling opcode ++ more)) ≡ Ok (opcode, left_at at more))
unfolding opcode_at
two_octets opcode more low high =
    let back : opcode / 256 * 256 + opcode % 256 ≡ opcode = omega arith in
    (2, rw (le-ltb opcode 256 (omega arith), first_is (opcode / 256) 0 (opcode % 256 ∷ more) (omega arith), within-yes 0x80 0xBF (opcode / 256) (omega arith) (omega arith), ne_eqb (length (opcode % 256 ∷ more)) 0 (λ (none : length (opcode % 256 ∷ more) ≡ 0). omega arith), back) refl)

opcode_again : (opcode : ℕ) (more : List ℕ) → opcode_holds opcode ≡ true → (at : ℕ) × (opcode_at (left_at 0 (opcode_spelling opcode ++ more)) ≡ Ok (opcode, left_at at more))
opcode_again opcode more holds =
    elim (or_cases (ltb opcode 0x80) (within 0x8000 0xBFFF opcode) holds) [
      | inl small ↦ one_octet opcode more (ltb-true opcode 0x80 small)
      | inr large ↦
          let h = and_parts (leb 0x8000 opcode) (leb opcode 0xBFFF) large in
          two_octets opcode more (leb-true 0x8000 opcode h.0) (leb-true opcode 0xBFFF h.1)
    ]

row_cases : (b : Bool) (row : Row) (opcode : ℕ) (fs : Fields) (others : Option Fields) → eqb opcode row.opcode ≡ b → cond b (Some row.fields) others ≡ Some fs
    → opcode_holds row.opcode ≡ true → fields_hold row.fields ≡ true → (others ≡ Some fs → (opcode_holds opcode ≡ true) × (fields_hold fs ≡ true)) → (opcode_holds opcode ≡ true) × (fields_hold fs ≡ true)
row_cases true row opcode fs others same found o f later =
    let e : row.fields ≡ fs = cc in
    let n : opcode ≡ row.opcode = eqb-true opcode row.opcode same in
    (rw n o, rw (← e) f)
row_cases false row opcode fs others same found o f later = later found

pub row_is_held : (rows : List Row) (opcode : ℕ) (fs : Fields) → rows_hold rows ≡ true → fields_of rows opcode ≡ Some fs → (opcode_holds opcode ≡ true) × (fields_hold fs ≡ true)
row_is_held [] opcode fs holds found = absurd cc
row_is_held (row ∷ rows) opcode fs holds found =
    let h = and_parts (row_holds row && is_new row.opcode rows) (rows_hold rows) holds in
    let i = and_parts (row_holds row) (is_new row.opcode rows) h.0 in
    let j = and_parts (opcode_holds row.opcode && fields_hold row.fields) (conditions_hold [] row.fields) i.0 in
    let g = and_parts (opcode_holds row.opcode) (fields_hold row.fields) j.0 in
    row_cases (eqb opcode row.opcode) row opcode fs (fields_of rows opcode) refl found g.0 g.1 (λ (e : fields_of rows opcode ≡ Some fs). row_is_held rows opcode fs h.1 e)

row_read : (found : Option Fields) (m : Message) (rows : List Row) (bytes : List ℕ) → rows_hold rows ≡ true → fields_of rows m.opcode ≡ found → RowFits found m → RowSpells found m bytes
    → length (row_spelling found m) ≤ 380 → message_at rows bytes ≡ Ok m
row_read None m rows bytes holds found fits spells short = absurd fits
row_read (Some fs) m rows bytes holds found fits spells short =
    let h = row_is_held rows m.opcode fs holds found in
    let body = spells.0 in
    let o = opcode_again m.opcode body h.0 in
    let l = fields_length fs [] m.fields m.entries body spells.2 in
    let fits_in : length (opcode_spelling m.opcode ++ body) ≤ 380 = omega (arith, l, short, length-append (opcode_spelling m.opcode) body, length-append (opcode_spelling m.opcode) (fields_spelling fs [] m.fields m.entries)) in
    rw (spells.1, le-ltb 380 (length (opcode_spelling m.opcode ++ body)) fits_in, o.1, found, fields_read fs [] m.fields m.entries o.0 body h.1 fits spells.2) refl

-- what spells a message is read as it
pub message_read : (rows : List Row) (bytes : List ℕ) (m : Message) → rows_hold rows ≡ true → Fits rows m → Spells rows bytes m → message_at rows bytes ≡ Ok m
message_read rows bytes m holds fits spells = row_read (fields_of rows m.opcode) m rows bytes holds refl fits.0 spells fits.1

row_spelled : (found : Option Fields) (m : Message) (rows : List Row) → rows_hold rows ≡ true → fields_of rows m.opcode ≡ found → RowFits found m → RowSpells found m (row_spelling found m)
row_spelled None m rows holds found fits = absurd fits
row_spelled (Some fs) m rows holds found fits =
    let h = row_is_held rows m.opcode fs holds found in
    (fields_spelling fs [] m.fields m.entries, refl, fields_spelled fs [] m.fields m.entries h.1 fits)

-- the canonical octets spell the message
pub canonical : (rows : List Row) (m : Message) → rows_hold rows ≡ true → Fits rows m → Spells rows (spelling rows m) m
canonical rows m holds fits = row_spelled (fields_of rows m.opcode) m rows holds refl fits.0

-- and so they are read as it
pub message_again : (rows : List Row) (m : Message) → rows_hold rows ≡ true → Fits rows m → message_at rows (spelling rows m) ≡ Ok m
message_again rows m holds fits = message_read rows (spelling rows m) m holds fits (canonical rows m holds fits)
