-- What is read has its fields in their ranges, and the octets spell it.
use Rattle.std.proofs.Common.{◌≡◌, ℕ, zero, suc, ◌+◌, ◌*◌, ◌/◌, ◌%◌, ◌^◌, ◌≤◌, ◌<◌, Bool, true, false, ltb, leb, eqb, cond, get_or, List, [], ◌∷◌, ◌++◌, length, take, drop, Option, Some, None, Result, Ok, Err, refl, sym, ap, subst, ◌∙◌, append_assoc, arith, inl, inr, length-append, ◌&&◌, ◌||◌, ◌⊎◌}
use Rattle.mu_model_wire.specs.Patterns.{pattern_length, pattern_number, within, pattern_spelling}
use Rattle.mu_model_wire.specs.Sound.{field_holds, entry_holds, has_field, fields_hold, field_leads, field_avoids, leads, avoids, rows_hold}
use Rattle.mu_model_wire.specs.Spells.{FieldSpells, EntrySpells, EntriesSpell, FieldsSpell, RowSpells, Spells}
use Rattle.mu_model_wire.specs.Laws.{AreOctets}
use Rattle.mu_model_wire.proofs.Octets.{bytes_back, octets_after}
use Rattle.mu_model_wire.proofs.Spelled.{row_is_held, entry_some, entry_length, entries_length, fields_length}
use Rattle.std.proofs.lemmas.Bool.{ltb-true, ltb-false, lt-ltb, le-ltb, leb-true, and_parts, eqb-true, eqb-false, not-true, or_cases}
use Rattle.std.proofs.lemmas.List.{take_at, drop_at, take-append-drop, nil_from_length, length-take, get_or-take}
use Rattle.std.specs.Prelude.{MatchBool}
use Rattle.byteorder.specs.Endian.{little_bytes, little_number}
use Rattle.byteorder.specs.Numbers.{little_from-lt}
use Rattle.mu_model_wire.specs.declared.Refusal.{Refusal}
use Rattle.mu_model_wire.specs.declared.Why.{Why}
use Rattle.mu_model_wire.specs.declared.Why.TheVariants.{Opcode, Short, Value, Long}
use Rattle.mu_model_wire.specs.Fields.{Part, part, rfu, Field, word, num, zero_or, split, counted, whole, pattern, Fields, end, rest, repeated, ◌▹◌, when, where_left, Row, Shown, number, octets as shown_octets, Message}
use Rattle.mu_model_wire.specs.Reading.{◌>>=◌, Left, after, refuse, word_at, octets_at, number_at, zero_or_number_at, counted_at, pattern_at, or_value, parts_in, parts_of, field_at, entry_at, entries_at, rest_at, fields_at, opcode_at, fields_of, row_at, message_at, value_of, is_one_of}
use Rattle.mu_model_wire.specs.Spelling.{begins_with, part_count, shown_count, PartsFit, FieldFits, EntryFits, EntriesFit, FieldsFit, RowFits, Fits, fields_spelling, opcode_spelling, row_spelling}

-- the value of a step that was not refused
bind_ok : {A B : Type 0} (r : Result A Refusal) (f : A → Result B Refusal) (y : B) → (r >>= f) ≡ Ok y → (x : A) × (r ≡ Ok x) × (f x ≡ Ok y)
bind_ok (Ok x) f y e = (x, refl, e)
bind_ok (Err d) f y e = absurd cc

-- a test that was passed
passed : {A : Type 0} (b : Bool) (d : Refusal) (x y : A) → cond b (Ok x) (Err d) ≡ Ok y → (b ≡ true) × (x ≡ y)
passed true d x y e = (refl, cc)
passed false d x y e = absurd cc

not_failed : {A : Type 0} (b : Bool) (d : Refusal) (x y : A) → cond b (Err d) (Ok x) ≡ Ok y → (b ≡ false) × (x ≡ y)
not_failed true d x y e = absurd cc
not_failed false d x y e = (refl, cc)

word_spells : (k : ℕ) (left : Left) (x : ℕ × Left) → AreOctets left.octets → word_at k left ≡ Ok x → (left.octets ≡ little_bytes k x.0 ++ x.1.octets) × (x.0 < 256 ^ k)
unfolding word_at
word_spells k left x octets e =
    let g = not_failed (ltb (length left.octets) k) (record { at = left.at; why = Short }) (little_number k left.octets, after k left) x e in
    let long = ltb-false (length left.octets) k g.0 in
    let back = bytes_back k left.octets octets (omega (arith, long)) in
    let split : left.octets ≡ little_bytes k (little_number k left.octets) ++ drop k left.octets = rw back (sym (take-append-drop k left.octets)) in
    subst (λ (y : ℕ × Left). (left.octets ≡ little_bytes k y.0 ++ y.1.octets) × (y.0 < 256 ^ k)) g.1 (split, little_from-lt 0 k left.octets octets)

octets_spell : (n : ℕ) (left : Left) (x : List ℕ × Left) → octets_at n left ≡ Ok x → (length x.0 ≡ n) × (left.octets ≡ x.0 ++ x.1.octets)
unfolding octets_at
octets_spell n left x e =
    let g = not_failed (ltb (length left.octets) n) (record { at = left.at; why = Short }) (take n left.octets, after n left) x e in
    let long = ltb-false (length left.octets) n g.0 in
    subst (λ (y : List ℕ × Left). (length y.0 ≡ n) × (left.octets ≡ y.0 ++ y.1.octets)) g.1 (omega (arith, long, length-take n left.octets), sym (take-append-drop n left.octets))

-- a pattern that is taken is the shortest one
one_spells : (a n : ℕ) → 1 ≡ pattern_length a → pattern_number (a ∷ []) ≡ Some n → (n ≤ 0xFFFF) × (pattern_spelling n ≡ a ∷ [])
one_spells a n len e = grind (arith, len, e)

two_spells : (a b n : ℕ) → 2 ≡ pattern_length a → pattern_number (a ∷ b ∷ []) ≡ Some n → (n ≤ 0xFFFF) × (pattern_spelling n ≡ a ∷ b ∷ [])
two_spells a b n len e = grind (arith, len, e)

three_spells : (a b c n : ℕ) → 3 ≡ pattern_length a → pattern_number (a ∷ b ∷ c ∷ []) ≡ Some n → (n ≤ 0xFFFF) × (pattern_spelling n ≡ a ∷ b ∷ c ∷ [])
three_spells a b c n len e = grind (arith, len, e)

pattern_spells_it : (os : List ℕ) (first n : ℕ) → (os ≡ [] → ⊥) → get_or os 0 0 ≡ first → length os ≡ pattern_length first → pattern_number os ≡ Some n → (n ≤ 0xFFFF) × (pattern_spelling n ≡ os)
pattern_spells_it [] first n some front len e = absurd (some refl)
pattern_spells_it (a ∷ []) first n some front len e = one_spells a n (len ∙ ap pattern_length (sym front)) e
pattern_spells_it (a ∷ b ∷ []) first n some front len e = two_spells a b n (len ∙ ap pattern_length (sym front)) e
pattern_spells_it (a ∷ b ∷ c ∷ []) first n some front len e = three_spells a b c n (len ∙ ap pattern_length (sym front)) e
pattern_spells_it (a ∷ b ∷ c ∷ d ∷ os) first n some front len e = absurd cc

-- the number and the octets that a pattern took
value_ok : (at : ℕ) (o : Option ℕ) (left : Left) (x : ℕ × Left) → or_value at o left ≡ Ok x → (o ≡ Some x.0) × (left ≡ x.1)
value_ok at (Some n) left x e = let is : (n, left) ≡ x = cc in (ap (λ (y : ℕ × Left). Some y.0) is, ap (λ (y : ℕ × Left). y.1) is)
value_ok at None left x e = absurd cc

some_number : (os : List ℕ) (n : ℕ) → os ≡ [] → pattern_number os ≡ Some n → ⊥
some_number [] n none e = absurd cc
some_number (a ∷ os) n none e = absurd cc

first_taken : (n : ℕ) (left : Left) (x : List ℕ × Left) → octets_at n left ≡ Ok x → (n ≡ 0 → ⊥) → get_or x.0 0 0 ≡ get_or left.octets 0 0
unfolding octets_at
first_taken n left x e some =
    let g = not_failed (ltb (length left.octets) n) (record { at = left.at; why = Short }) (take n left.octets, after n left) x e in
    let lt : 0 < n = omega arith in
    subst (λ (y : List ℕ × Left). get_or y.0 0 0 ≡ get_or left.octets 0 0) g.1 (get_or-take n left.octets 0 0 lt)

first_word : (left : Left) (x : ℕ × Left) → word_at 1 left ≡ Ok x → x.0 ≡ get_or left.octets 0 0
unfolding word_at
first_word left x e =
    let g = not_failed (ltb (length left.octets) 1) (record { at = left.at; why = Short }) (little_number 1 left.octets, after 1 left) x e in
    subst (λ (y : ℕ × Left). y.0 ≡ get_or left.octets 0 0) g.1 (omega arith)

pattern_spells : (left : Left) (x : ℕ × Left) → pattern_at left ≡ Ok x → (x.0 ≤ 0xFFFF) × (left.octets ≡ pattern_spelling x.0 ++ x.1.octets)
unfolding pattern_at
pattern_spells left x e =
    let a = bind_ok (word_at 1 left) (λ first. octets_at (pattern_length first.0) left >>= λ taken. or_value left.at (pattern_number taken.0) taken.1) x e in
    let b = bind_ok (octets_at (pattern_length a.0.0) left) (λ taken. or_value left.at (pattern_number taken.0) taken.1) x a.2 in
    let v = value_ok left.at (pattern_number b.0.0) b.0.1 x b.2 in
    let t = octets_spell (pattern_length a.0.0) left b.0 b.1 in
    let some : (b.0.0 ≡ [] → ⊥) = λ (none : b.0.0 ≡ []). some_number b.0.0 x.0 none v.0 in
    let n0 : (pattern_length a.0.0 ≡ 0 → ⊥) = λ (none : pattern_length a.0.0 ≡ 0). some (nil_from_length b.0.0 (t.0 ∙ none)) in
    let f = pattern_spells_it b.0.0 a.0.0 x.0 some (first_taken (pattern_length a.0.0) left b.0 b.1 n0 ∙ sym (first_word left a.0 a.1)) t.0 v.0 in
    (f.0, rw (← v.1, f.1) t.1)

parts_fit : (ps : List Part) (n : ℕ) (more : List Shown) → parts_in ps n ≡ true → PartsFit ps (parts_of ps n ++ more)
parts_fit [] n more e = tt
parts_fit (rfu w ∷ ps) n more e = parts_fit ps (n / 2 ^ w) more e
parts_fit (part name w least most ∷ ps) n more e =
    let h = and_parts (within least most (n % 2 ^ w)) (parts_in ps (n / 2 ^ w)) e in
    let g = and_parts (leb least (n % 2 ^ w)) (leb (n % 2 ^ w) most) h.0 in
    (refl, leb-true _ _ g.0, leb-true _ _ g.1, parts_fit ps (n / 2 ^ w) more h.1)

parts_count : (ps : List Part) (n : ℕ) → length (parts_of ps n) ≡ part_count ps
parts_count [] n = refl
parts_count (rfu w ∷ ps) n = parts_count ps (n / 2 ^ w)
parts_count (part name w least most ∷ ps) n = ap suc (parts_count ps (n / 2 ^ w))

-- what a field that was read shows, before whatever else is shown, and the octets that it took
record Taken (f : Field) (left after : Left) (shown more : List Shown) : Type 0 where
  fits : FieldFits f (shown ++ more)
  count : length shown ≡ shown_count f
  own : List ℕ
  split : left.octets ≡ own ++ after.octets
  spelled : FieldSpells f (shown ++ more) own

number_takes : (k least most : ℕ) (left : Left) (x : ℕ × Left) → AreOctets left.octets → number_at k least most left ≡ Ok x → (least ≤ x.0) × (x.0 ≤ most) × (left.octets ≡ little_bytes k x.0 ++ x.1.octets)
number_takes k least most left x octets e =
    let b = bind_ok (word_at k left) (λ w. cond (within least most w.0) (Ok w) (refuse left.at Value)) x e in
    let g = passed (within least most b.0.0) (record { at = left.at; why = Value }) b.0 x b.2 in
    let h = and_parts (leb least b.0.0) (leb b.0.0 most) g.0 in
    subst (λ (y : ℕ × Left). (least ≤ y.0) × (y.0 ≤ most) × (left.octets ≡ little_bytes k y.0 ++ y.1.octets)) g.1 (leb-true _ _ h.0, leb-true _ _ h.1, (word_spells k left b.0 octets b.1).0)

allowed : (n least most : ℕ) → (eqb n 0 || within least most n) ≡ true → (n ≡ 0) ⊎ ((least ≤ n) × (n ≤ most))
allowed n least most e =
    elim (or_cases (eqb n 0) (within least most n) e) [
      | inl none ↦ inl (eqb-true n 0 none)
      | inr both ↦
          let h = and_parts (leb least n) (leb n most) both in
          inr (leb-true _ _ h.0, leb-true _ _ h.1)
    ]

zero_or_takes : (k least most : ℕ) (left : Left) (x : ℕ × Left) → AreOctets left.octets → zero_or_number_at k least most left ≡ Ok x → ((x.0 ≡ 0) ⊎ ((least ≤ x.0) × (x.0 ≤ most))) × (left.octets ≡ little_bytes k x.0 ++ x.1.octets)
zero_or_takes k least most left x octets e =
    let b = bind_ok (word_at k left) (λ w. cond (eqb w.0 0 || within least most w.0) (Ok w) (refuse left.at Value)) x e in
    let g = passed (eqb b.0.0 0 || within least most b.0.0) (record { at = left.at; why = Value }) b.0 x b.2 in
    subst (λ (y : ℕ × Left). ((y.0 ≡ 0) ⊎ ((least ≤ y.0) × (y.0 ≤ most))) × (left.octets ≡ little_bytes k y.0 ++ y.1.octets)) g.1 (allowed b.0.0 least most g.0, (word_spells k left b.0 octets b.1).0)

field_takes : (f : Field) (left : Left) (x : List Shown × Left) (more : List Shown) → AreOctets left.octets → field_at f left ≡ Ok x → Taken f left x.1 x.0 more
field_takes (word name k) left x more octets e =
    let b = bind_ok (word_at k left) (λ w. Ok (number name w.0 ∷ [], w.1)) x e in
    let t = word_spells k left b.0 octets b.1 in
    let is : (number name b.0.0 ∷ [], b.0.1) ≡ x = cc in
    subst (λ (y : List Shown × Left). Taken (word name k) left y.1 y.0 more) is (record { fits = (refl, t.1); count = refl; own = little_bytes k b.0.0; split = t.0; spelled = refl })
field_takes (num name k least most) left x more octets e =
    let b = bind_ok (number_at k least most left) (λ w. Ok (number name w.0 ∷ [], w.1)) x e in
    let t = number_takes k least most left b.0 octets b.1 in
    let is : (number name b.0.0 ∷ [], b.0.1) ≡ x = cc in
    subst (λ (y : List Shown × Left). Taken (num name k least most) left y.1 y.0 more) is (record { fits = (refl, t.0, t.1); count = refl; own = little_bytes k b.0.0; split = t.2; spelled = refl })
field_takes (zero_or name k least most) left x more octets e =
    let b = bind_ok (zero_or_number_at k least most left) (λ w. Ok (number name w.0 ∷ [], w.1)) x e in
    let t = zero_or_takes k least most left b.0 octets b.1 in
    let is : (number name b.0.0 ∷ [], b.0.1) ≡ x = cc in
    subst (λ (y : List Shown × Left). Taken (zero_or name k least most) left y.1 y.0 more) is (record { fits = (refl, t.0); count = refl; own = little_bytes k b.0.0; split = t.1; spelled = refl })
field_takes (split k ps) left x more octets e =
    let b = bind_ok (word_at k left) (λ w. cond (parts_in ps w.0) (Ok (parts_of ps w.0, w.1)) (refuse left.at Value)) x e in
    let g = passed (parts_in ps b.0.0) (record { at = left.at; why = Value }) (parts_of ps b.0.0, b.0.1) x b.2 in
    let w = word_spells k left b.0 octets b.1 in
    let count = parts_count ps b.0.0 in
    let shows : parts_of ps b.0.0 ≡ take (part_count ps) (parts_of ps b.0.0 ++ more) = sym (take_at (parts_of ps b.0.0) more (part_count ps) count) in
    let made : Taken (split k ps) left b.0.1 (parts_of ps b.0.0) more = record { fits = parts_fit ps b.0.0 more g.0; count = count; own = little_bytes k b.0.0; split = w.0; spelled = (b.0.0, w.1, refl, shows) } in
    subst (λ (y : List Shown × Left). Taken (split k ps) left y.1 y.0 more) g.1 made
field_takes (counted name least most) left x more octets e =
    let b = bind_ok (counted_at least most left) (λ taken. Ok (shown_octets name taken.0 ∷ [], taken.1)) x e in
    let d = bind_ok (number_at 1 least most left) (λ w. octets_at w.0 w.1) b.0 b.1 in
    let t = number_takes 1 least most left d.0 octets d.1 in
    let o = octets_spell d.0.0 d.0.1 b.0 d.2 in
    let is : (shown_octets name b.0.0 ∷ [], b.0.1) ≡ x = cc in
    let front : left.octets ≡ (little_bytes 1 (length b.0.0) ++ b.0.0) ++ b.0.1.octets = rw (o.0, append_assoc (little_bytes 1 d.0.0) b.0.0 b.0.1.octets, ← o.1) t.2 in
    subst (λ (y : List Shown × Left). Taken (counted name least most) left y.1 y.0 more) is (record { fits = (refl, omega (arith, t.0, o.0), omega (arith, t.1, o.0)); count = refl; own = little_bytes 1 (length b.0.0) ++ b.0.0; split = front; spelled = refl })
field_takes (whole name n) left x more octets e =
    let b = bind_ok (octets_at n left) (λ taken. Ok (shown_octets name taken.0 ∷ [], taken.1)) x e in
    let o = octets_spell n left b.0 b.1 in
    let is : (shown_octets name b.0.0 ∷ [], b.0.1) ≡ x = cc in
    subst (λ (y : List Shown × Left). Taken (whole name n) left y.1 y.0 more) is (record { fits = (refl, o.0); count = refl; own = b.0.0; split = o.1; spelled = refl })
field_takes (pattern name) left x more octets e =
    let b = bind_ok (pattern_at left) (λ n. Ok (number name n.0 ∷ [], n.1)) x e in
    let o = pattern_spells left b.0 b.1 in
    let is : (number name b.0.0 ∷ [], b.0.1) ≡ x = cc in
    subst (λ (y : List Shown × Left). Taken (pattern name) left y.1 y.0 more) is (record { fits = (refl, o.0); count = refl; own = pattern_spelling b.0.0; split = o.1; spelled = refl })

record EntryTaken (fs : List Field) (left after : Left) (shown : List Shown) : Type 0 where
  fits : EntryFits fs shown
  own : List ℕ
  split : left.octets ≡ own ++ after.octets
  spelled : EntrySpells fs shown own

entry_takes : (fs : List Field) (left : Left) (x : List Shown × Left) → AreOctets left.octets → entry_at fs left ≡ Ok x → EntryTaken fs left x.1 x.0
entry_takes [] left x octets e =
    let is : ([], left) ≡ x = cc in
    subst (λ (y : List Shown × Left). EntryTaken [] left y.1 y.0) is (record { fits = refl; own = []; split = refl; spelled = refl })
entry_takes (f ∷ fs) left x octets e =
    let b = bind_ok (field_at f left) (λ first. entry_at fs first.1 >>= λ others. Ok (first.0 ++ others.0, others.1)) x e in
    let d = bind_ok (entry_at fs b.0.1) (λ others. Ok (b.0.0 ++ others.0, others.1)) x b.2 in
    let t = field_takes f left b.0 d.0.0 octets b.1 in
    let u = entry_takes fs b.0.1 d.0 (octets_after t.own b.0.1.octets left.octets octets t.split) d.1 in
    let others : drop (shown_count f) (b.0.0 ++ d.0.0) ≡ d.0.0 = drop_at b.0.0 d.0.0 (shown_count f) t.count in
    let is : (b.0.0 ++ d.0.0, d.0.1) ≡ x = cc in
    let front : left.octets ≡ (t.own ++ u.own) ++ d.0.1.octets = rw (append_assoc t.own u.own d.0.1.octets, ← u.split) t.split in
    let fits : EntryFits (f ∷ fs) (b.0.0 ++ d.0.0) = rw others (t.fits, u.fits) in
    let spelled : EntrySpells (f ∷ fs) (b.0.0 ++ d.0.0) (t.own ++ u.own) = rw others (t.own, u.own, refl, t.spelled, u.spelled) in
    subst (λ (y : List Shown × Left). EntryTaken (f ∷ fs) left y.1 y.0) is (record { fits = fits; own = t.own ++ u.own; split = front; spelled = spelled })

chosen : {A : Type 0} (b : Bool) (x y z : A) → cond b x y ≡ z → ((b ≡ true) × (x ≡ z)) ⊎ ((b ≡ false) × (y ≡ z))
chosen true x y z e = inl (refl, e)
chosen false x y z e = inr (refl, e)

abbrev EntriesTaken : List Field → Left → List (List Shown) → Type 0
EntriesTaken fs left es = EntriesFit fs es × EntriesSpell fs es left.octets

entries_end : (fs : List Field) (left : Left) (es : List (List Shown)) → length left.octets ≡ 0 → es ≡ [] → EntriesTaken fs left es
entries_end fs left es none is = rw is (tt, nil_from_length left.octets none)

entries_take : (fuel : ℕ) (fs : List Field) (left : Left) (es : List (List Shown)) → has_field fs ≡ true → entry_holds fs ≡ true → AreOctets left.octets → length left.octets ≤ fuel → entries_at fuel fs left ≡ Ok es → EntriesTaken fs left es
entries_take zero fs left es some holds octets enough e =
    let is : [] ≡ es = cc in
    entries_end fs left es (omega arith) (sym is)
entries_take (suc fuel) fs left es some holds octets enough e =
    elim (chosen (eqb (length left.octets) 0) (Ok []) (entry_at fs left >>= λ first. entries_at fuel fs first.1 >>= λ others. Ok (first.0 ∷ others)) (Ok es) e) [
      | inl none ↦
          let is : [] ≡ es = cc in
          entries_end fs left es (eqb-true _ _ none.0) (sym is)
      | inr more ↦
          let b = bind_ok (entry_at fs left) (λ first. entries_at fuel fs first.1 >>= λ others. Ok (first.0 ∷ others)) es more.1 in
          let d = bind_ok (entries_at fuel fs b.0.1) (λ others. Ok (b.0.0 ∷ others)) es b.2 in
          let t = entry_takes fs left b.0 octets b.1 in
          let s = entry_some fs b.0.0 some holds t.fits in
          let l = entry_length fs b.0.0 t.own t.spelled in
          let shorter : length b.0.1.octets ≤ fuel = omega (arith, s, l, ap length t.split, length-append t.own b.0.1.octets, enough) in
          let u = entries_take fuel fs b.0.1 d.0 some holds (octets_after t.own b.0.1.octets left.octets octets t.split) shorter d.1 in
          let is : b.0.0 ∷ d.0 ≡ es = cc in
          subst (λ (y : List (List Shown)). EntriesTaken fs left y) is ((t.fits, u.0), (t.own, b.0.1.octets, t.split, t.spelled, u.1))
    ]

-- ---- fields

field_begins : (f : Field) (name : ℕ) (shown : List Shown) → field_leads name f ≡ true → FieldFits f shown → begins_with name shown ≡ true
field_begins (word n k) name [] leads fits = absurd fits
field_begins (word n k) name (shown_octets m os ∷ shown) leads fits = absurd fits
field_begins (word n k) name (number m v ∷ shown) leads fits = rw fits.0 leads
field_begins (num n k least most) name [] leads fits = absurd fits
field_begins (num n k least most) name (shown_octets m os ∷ shown) leads fits = absurd fits
field_begins (num n k least most) name (number m v ∷ shown) leads fits = rw fits.0 leads
field_begins (zero_or n k least most) name [] leads fits = absurd fits
field_begins (zero_or n k least most) name (shown_octets m os ∷ shown) leads fits = absurd fits
field_begins (zero_or n k least most) name (number m v ∷ shown) leads fits = rw fits.0 leads
field_begins (split k ps) name shown leads fits = absurd cc
field_begins (counted n least most) name [] leads fits = absurd fits
field_begins (counted n least most) name (number m v ∷ shown) leads fits = absurd fits
field_begins (counted n least most) name (shown_octets m os ∷ shown) leads fits = rw fits.0 leads
field_begins (whole n size) name [] leads fits = absurd fits
field_begins (whole n size) name (number m v ∷ shown) leads fits = absurd fits
field_begins (whole n size) name (shown_octets m os ∷ shown) leads fits = rw fits.0 leads
field_begins (pattern n) name [] leads fits = absurd fits
field_begins (pattern n) name (shown_octets m os ∷ shown) leads fits = absurd fits
field_begins (pattern n) name (number m v ∷ shown) leads fits = rw fits.0 leads

field_begins_not : (f : Field) (name : ℕ) (shown : List Shown) → field_avoids name f ≡ true → FieldFits f shown → begins_with name shown ≡ false
field_begins_not (word n k) name [] avoids fits = absurd fits
field_begins_not (word n k) name (shown_octets m os ∷ shown) avoids fits = absurd fits
field_begins_not (word n k) name (number m v ∷ shown) avoids fits = rw fits.0 (not-true (eqb n name) avoids)
field_begins_not (num n k least most) name [] avoids fits = absurd fits
field_begins_not (num n k least most) name (shown_octets m os ∷ shown) avoids fits = absurd fits
field_begins_not (num n k least most) name (number m v ∷ shown) avoids fits = rw fits.0 (not-true (eqb n name) avoids)
field_begins_not (zero_or n k least most) name [] avoids fits = absurd fits
field_begins_not (zero_or n k least most) name (shown_octets m os ∷ shown) avoids fits = absurd fits
field_begins_not (zero_or n k least most) name (number m v ∷ shown) avoids fits = rw fits.0 (not-true (eqb n name) avoids)
field_begins_not (split k ps) name shown avoids fits = absurd cc
field_begins_not (counted n least most) name [] avoids fits = absurd fits
field_begins_not (counted n least most) name (number m v ∷ shown) avoids fits = absurd fits
field_begins_not (counted n least most) name (shown_octets m os ∷ shown) avoids fits = rw fits.0 (not-true (eqb n name) avoids)
field_begins_not (whole n size) name [] avoids fits = absurd fits
field_begins_not (whole n size) name (number m v ∷ shown) avoids fits = absurd fits
field_begins_not (whole n size) name (shown_octets m os ∷ shown) avoids fits = rw fits.0 (not-true (eqb n name) avoids)
field_begins_not (pattern n) name [] avoids fits = absurd fits
field_begins_not (pattern n) name (shown_octets m os ∷ shown) avoids fits = absurd fits
field_begins_not (pattern n) name (number m v ∷ shown) avoids fits = rw fits.0 (not-true (eqb n name) avoids)

begins : (fs : Fields) (name : ℕ) (before shown : List Shown) (entries : List (List Shown)) → leads name fs ≡ true → FieldsFit fs before shown entries → begins_with name shown ≡ true
begins end name before shown entries leads fits = absurd cc
begins (rest n least most) name before [] entries leads fits = absurd fits.0
begins (rest n least most) name before (number m v ∷ shown) entries leads fits = absurd fits.0
begins (rest n least most) name before (shown_octets m os ∷ s ∷ shown) entries leads fits = absurd fits.0
begins (rest n least most) name before (shown_octets m os ∷ []) entries leads fits = rw fits.0.0 leads
begins (repeated n least fs) name before shown entries leads fits = absurd cc
begins (f ▹ fs) name before shown entries leads fits = field_begins f name shown leads fits.0
begins (when n values fs gs) name before shown entries leads fits = absurd cc
begins (where_left k n fs gs) name before shown entries leads fits = absurd cc

begins_not : (fs : Fields) (name : ℕ) (before shown : List Shown) (entries : List (List Shown)) → avoids name fs ≡ true → FieldsFit fs before shown entries → begins_with name shown ≡ false
begins_not end name before shown entries avoids fits = rw fits.0 refl
begins_not (rest n least most) name before [] entries avoids fits = absurd fits.0
begins_not (rest n least most) name before (number m v ∷ shown) entries avoids fits = absurd fits.0
begins_not (rest n least most) name before (shown_octets m os ∷ s ∷ shown) entries avoids fits = absurd fits.0
begins_not (rest n least most) name before (shown_octets m os ∷ []) entries avoids fits = rw fits.0.0 (not-true (eqb n name) avoids)
begins_not (repeated n least fs) name before shown entries avoids fits = rw fits.0 refl
begins_not (f ▹ fs) name before shown entries avoids fits = field_begins_not f name shown avoids fits.0
begins_not (when n values fs gs) name before shown entries avoids fits = absurd cc
begins_not (where_left k n fs gs) name before shown entries avoids fits = absurd cc

-- fields whose reading gave x
abbrev FieldsTaken : Fields → List Shown → Left → List Shown × List (List Shown) → Type 0
FieldsTaken fs before left x = FieldsFit fs before x.0 x.1 × FieldsSpell fs before x.0 x.1 left.octets

refused : {A : Type 0} (at : ℕ) (why : Why) (x : A) → refuse at why ≡ Ok x → ⊥
refused at why x e = absurd cc

rest_takes : (least most : ℕ) (left : Left) (os : List ℕ) → rest_at least most left ≡ Ok os → (least ≤ length os) × (length os ≤ most) × (left.octets ≡ os)
rest_takes least most left os e =
    elim (chosen (ltb (length left.octets) least) (refuse left.at Short) (cond (ltb most (length left.octets)) (refuse (left.at + most) Long) (Ok left.octets)) (Ok os) e) [
      | inl lacks ↦ absurd (refused left.at Short os lacks.1)
      | inr enough ↦
          let g = not_failed (ltb most (length left.octets)) (record { at = left.at + most; why = Long }) left.octets os enough.1 in
          subst (λ (y : List ℕ). (least ≤ length y) × (length y ≤ most) × (left.octets ≡ y)) g.1 (ltb-false _ _ enough.0, ltb-false _ _ g.0, refl)
    ]

when_takes : (b : Bool) (fs gs : Fields) (before : List Shown) (left : Left) (x : List Shown × List (List Shown)) → cond b (fields_at fs before left) (fields_at gs before left) ≡ Ok x
    → (fields_at fs before left ≡ Ok x → FieldsTaken fs before left x) → (fields_at gs before left ≡ Ok x → FieldsTaken gs before left x)
    → MatchBool b (FieldsFit fs before x.0 x.1) (FieldsFit gs before x.0 x.1) × MatchBool b (FieldsSpell fs before x.0 x.1 left.octets) (FieldsSpell gs before x.0 x.1 left.octets)
when_takes true fs gs before left x e first second = first e
when_takes false fs gs before left x e first second = second e

where_first : (name n : ℕ) (fs gs : Fields) (before : List Shown) (left : Left) (x : List Shown × List (List Shown)) → begins_with name x.0 ≡ true → FieldsTaken fs before left x → n ≤ length left.octets → FieldsTaken (where_left n name fs gs) before left x
where_first name n fs gs before left x is t many =
    let l = fields_length fs before x.0 x.1 left.octets t.1 in
    rw is ((t.0, omega (arith, l, many)), t.1)

where_second : (name n : ℕ) (fs gs : Fields) (before : List Shown) (left : Left) (x : List Shown × List (List Shown)) → begins_with name x.0 ≡ false → FieldsTaken gs before left x → length left.octets < n → FieldsTaken (where_left n name fs gs) before left x
where_second name n fs gs before left x is t few =
    let l = fields_length gs before x.0 x.1 left.octets t.1 in
    rw is ((t.0, omega (arith, l, few)), t.1)

pub fields_take : (fs : Fields) (before : List Shown) (left : Left) (x : List Shown × List (List Shown)) → fields_hold fs ≡ true → AreOctets left.octets → fields_at fs before left ≡ Ok x → FieldsTaken fs before left x
fields_take end before left x holds octets e =
    let g = passed (eqb (length left.octets) 0) (record { at = left.at; why = Long }) ([], []) x e in
    subst (λ (y : List Shown × List (List Shown)). FieldsTaken end before left y) g.1 ((refl, refl), nil_from_length left.octets (eqb-true (length left.octets) 0 g.0))
fields_take (rest name least most) before left x holds octets e =
    let b = bind_ok (rest_at least most left) (λ all. Ok (shown_octets name all ∷ [], [])) x e in
    let t = rest_takes least most left b.0 b.1 in
    let is : (shown_octets name b.0 ∷ [], []) ≡ x = cc in
    subst (λ (y : List Shown × List (List Shown)). FieldsTaken (rest name least most) before left y) is (((refl, t.0, t.1), refl), t.2)
fields_take (repeated name least fs) before left x holds octets e =
    let h = and_parts (has_field fs) (entry_holds fs) holds in
    elim (chosen (ltb (length left.octets) least) (refuse left.at Short) (entries_at (length left.octets) fs left >>= λ es. Ok ([], es)) (Ok x) e) [
      | inl lacks ↦ absurd (refused left.at Short x lacks.1)
      | inr some ↦
          let b = bind_ok (entries_at (length left.octets) fs left) (λ es. Ok ([], es)) x some.1 in
          let t = entries_take (length left.octets) fs left b.0 h.0 h.1 octets (omega arith) b.1 in
          let l = entries_length fs b.0 left.octets t.1 in
          let is : ([], b.0) ≡ x = cc in
          subst (λ (y : List Shown × List (List Shown)). FieldsTaken (repeated name least fs) before left y) is ((refl, omega (arith, l, ltb-false _ _ some.0), t.0), t.1)
    ]
fields_take (f ▹ fs) before left x holds octets e =
    let h = and_parts (field_holds f) (fields_hold fs) holds in
    let b = bind_ok (field_at f left) (λ first. fields_at fs (first.0 ++ before) first.1 >>= λ others. Ok (first.0 ++ others.0, others.1)) x e in
    let d = bind_ok (fields_at fs (b.0.0 ++ before) b.0.1) (λ others. Ok (b.0.0 ++ others.0, others.1)) x b.2 in
    let t = field_takes f left b.0 d.0.0 octets b.1 in
    let u = fields_take fs (b.0.0 ++ before) b.0.1 d.0 h.1 (octets_after t.own b.0.1.octets left.octets octets t.split) d.1 in
    let mine : take (shown_count f) (b.0.0 ++ d.0.0) ≡ b.0.0 = take_at b.0.0 d.0.0 (shown_count f) t.count in
    let others : drop (shown_count f) (b.0.0 ++ d.0.0) ≡ d.0.0 = drop_at b.0.0 d.0.0 (shown_count f) t.count in
    let is : (b.0.0 ++ d.0.0, d.0.1) ≡ x = cc in
    subst (λ (y : List Shown × List (List Shown)). FieldsTaken (f ▹ fs) before left y) is (rw (mine, others) ((t.fits, u.0), (t.own, b.0.1.octets, t.split, t.spelled, u.1)))
fields_take (when name values fs gs) before left x holds octets e =
    let h = and_parts (fields_hold fs) (fields_hold gs) holds in
    when_takes (is_one_of values (value_of name before)) fs gs before left x e (λ (r : fields_at fs before left ≡ Ok x). fields_take fs before left x h.0 octets r) (λ (r : fields_at gs before left ≡ Ok x). fields_take gs before left x h.1 octets r)
fields_take (where_left n name fs gs) before left x holds octets e =
    let h = and_parts (fields_hold fs && fields_hold gs) (leads name fs && avoids name gs) holds in
    let k = and_parts (fields_hold fs) (fields_hold gs) h.0 in
    let a = and_parts (leads name fs) (avoids name gs) h.1 in
    elim (chosen (ltb (length left.octets) n) (fields_at gs before left) (fields_at fs before left) (Ok x) e) [
      | inl few ↦
          let t = fields_take gs before left x k.1 octets few.1 in
          where_second name n fs gs before left x (begins_not gs name before x.0 x.1 a.1 t.0) t (ltb-true _ _ few.0)
      | inr many ↦
          let t = fields_take fs before left x k.0 octets many.1 in
          where_first name n fs gs before left x (begins fs name before x.0 x.1 a.0 t.0) t (ltb-false _ _ many.0)
    ]

-- ---- a message

-- two octets of an opcode
two_of : (a : ℕ) (os : List ℕ) → 1 ≤ a → get_or os 0 0 < 256 → (length os ≡ 0 → ⊥) → a ∷ os ≡ opcode_spelling (a * 256 + get_or os 0 0) ++ drop 1 os
two_of a [] low byte some = absurd (some refl)
two_of a (b ∷ os) low byte some =
    let wide : ltb (a * 256 + b) 256 ≡ false = le-ltb _ _ (omega (arith, low)) in
    let high : (a * 256 + b) / 256 ≡ a = omega (arith, byte) in
    let rest : (a * 256 + b) % 256 ≡ b = omega (arith, byte) in
    rw (wide, high, rest) refl

opcode_spells : (left : Left) (x : ℕ × Left) → AreOctets left.octets → opcode_at left ≡ Ok x → left.octets ≡ opcode_spelling x.0 ++ x.1.octets
unfolding opcode_at
opcode_spells left x octets e =
    let b = bind_ok (word_at 1 left) (λ first. cond (within 0x80 0xBF first.0) (cond (eqb (length first.1.octets) 0) (refuse left.at Short) (Ok (first.0 * 256 + get_or first.1.octets 0 0, after 1 first.1))) (Ok first)) x e in
    let t = word_spells 1 left b.0 octets b.1 in
    let small : b.0.0 < 256 = omega (arith, t.1) in
    let byte : b.0.0 % 256 ≡ b.0.0 = omega arith in
    let front : left.octets ≡ b.0.0 ∷ b.0.1.octets = rw (← byte) t.0 in
    elim (chosen (within 0x80 0xBF b.0.0) (cond (eqb (length b.0.1.octets) 0) (refuse left.at Short) (Ok (b.0.0 * 256 + get_or b.0.1.octets 0 0, after 1 b.0.1))) (Ok b.0) (Ok x) b.2) [
      | inl long ↦
          let g = not_failed (eqb (length b.0.1.octets) 0) (record { at = left.at; why = Short }) (b.0.0 * 256 + get_or b.0.1.octets 0 0, after 1 b.0.1) x long.1 in
          let some = eqb-false (length b.0.1.octets) 0 g.0 in
          let w = and_parts (leb 0x80 b.0.0) (leb b.0.0 0xBF) long.0 in
          let low = leb-true 0x80 b.0.0 w.0 in
          let second : get_or b.0.1.octets 0 0 < 256 = octets_after (b.0.0 ∷ []) b.0.1.octets left.octets octets front 0 in
          subst (λ (y : ℕ × Left). left.octets ≡ opcode_spelling y.0 ++ y.1.octets) g.1 (front ∙ two_of b.0.0 b.0.1.octets (omega (arith, low)) second some)
      | inr one ↦
          let is : b.0 ≡ x = cc in
          let narrow : ltb b.0.0 256 ≡ true = lt-ltb _ _ small in
          subst (λ (y : ℕ × Left). left.octets ≡ opcode_spelling y.0 ++ y.1.octets) is (rw narrow front)
    ]

row_takes : (found : Option Fields) (rows : List Row) (opcode : ℕ) (left : Left) (m : Message) (bytes : List ℕ) → rows_hold rows ≡ true → fields_of rows opcode ≡ found → AreOctets left.octets → row_at found opcode left ≡ Ok m
    → bytes ≡ opcode_spelling opcode ++ left.octets → RowFits (fields_of rows m.opcode) m × Spells rows bytes m
row_takes None rows opcode left m bytes holds is octets e front = absurd (refused 0 Opcode m e)
row_takes (Some fs) rows opcode left m bytes holds is octets e front =
    let b = bind_ok (fields_at fs [] left) (λ shown. Ok (record { opcode = opcode; fields = shown.0; entries = shown.1 })) m e in
    let h = row_is_held rows opcode fs holds is in
    let t = fields_take fs [] left b.0 h.1 octets b.1 in
    let made : Message = record { opcode = opcode; fields = b.0.0; entries = b.0.1 } in
    let same : made ≡ m = cc in
    subst (λ (y : Message). RowFits (fields_of rows y.opcode) y × Spells rows bytes y) same (rw is (t.0, (left.octets, front, t.1)))

row_length : (found : Option Fields) (m : Message) (bytes : List ℕ) → RowSpells found m bytes → length bytes ≡ length (row_spelling found m)
row_length None m bytes spells = absurd spells
row_length (Some fs) m bytes spells =
    let l = fields_length fs [] m.fields m.entries spells.0 spells.2 in
    ap length spells.1 ∙ omega (arith, l, length-append (opcode_spelling m.opcode) spells.0, length-append (opcode_spelling m.opcode) (fields_spelling fs [] m.fields m.entries))

-- what is read is in its ranges, and the octets spell it
pub message_take : (rows : List Row) (bytes : List ℕ) (m : Message) → AreOctets bytes → rows_hold rows ≡ true → message_at rows bytes ≡ Ok m → Fits rows m × Spells rows bytes m
message_take rows bytes m octets holds e =
    elim (chosen (ltb 380 (length bytes)) (refuse 380 Long) (opcode_at (record { at = 0; octets = bytes }) >>= λ opcode. row_at (fields_of rows opcode.0) opcode.0 opcode.1) (Ok m) e) [
      | inl long ↦ absurd (refused 380 Long m long.1)
      | inr short ↦
          let b = bind_ok (opcode_at (record { at = 0; octets = bytes })) (λ opcode. row_at (fields_of rows opcode.0) opcode.0 opcode.1) m short.1 in
          let o = opcode_spells (record { at = 0; octets = bytes }) b.0 octets b.1 in
          let r = row_takes (fields_of rows b.0.0) rows b.0.0 b.0.1 m bytes holds refl (octets_after (opcode_spelling b.0.0) b.0.1.octets bytes octets o) b.2 o in
          let l = row_length (fields_of rows m.opcode) m bytes r.1 in
          ((r.0, omega (arith, l, ltb-false 380 (length bytes) short.0)), r.1)
    ]
