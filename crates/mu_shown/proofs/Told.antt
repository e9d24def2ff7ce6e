-- Facts about what is told before and after calls.
use Rattle.std.proofs.Common.{◌≡◌, map, ℕ, zero, suc, ◌∷◌, ◌+◌, ◌-◌, ◌/◌, ◌%◌, ◌<◌, get_or, slice_index, ◌≤◌, ◌++◌, [], length, length-drop, arith, take, drop, sym, ap, ◌∙◌, append_assoc, take-add, List, Option, Some, None, Result, Ok, Err, refl, subst, inl, inr}
use Rattle.std.proofs.lemmas.Bool.{cases_lt}
use Rattle.std.proofs.lemmas.List.{take_all, take-append-le, append-nil}
use Rattle.std.specs.Result.{OnOk, OnErr}
use Rattle.std.specs.List.{flat_map}
use Rattle.mu_model_wire.specs.Fields.{Shown}
use Rattle.mu_shown.specs.Lines.{joined, entry_text, entries_text, field_text}
use Rattle.mu_shown.specs.Seen.{seen, field_seen}
use Rattle.mu_shown.specs.declared.fields.Field.{Field}
use Rattle.hex.specs.Hex.{encode_lower, encode_with, lower_digits}
use Rattle.mu_outside.specs.Stream.{WriteTakes}
use Rattle.mu_model_flash.specs.Cause.{HasCause}
use Rattle.mu_model_flash.specs.declared.Failed.{Failed}
use Rattle.mu_shown.specs.Written.{Wrote, WroteSome, Writes, Adds}

pub wrote_nothing : (o : Option (List ℕ)) → Wrote o o []
wrote_nothing None = tt
wrote_nothing (Some v) = (v, refl, sym (append-nil v))

pub wrote_then : (o m n : Option (List ℕ)) (xs ys : List ℕ) → Wrote o m xs → Wrote m n ys → Wrote o n (xs ++ ys)
wrote_then o m None xs ys first more = tt
wrote_then o None (Some after) xs ys first more = absurd cc
wrote_then o (Some middle) (Some after) xs ys first more =
    let same : middle ≡ more.0 = cc in
    (first.0, first.1, more.2 ∙ (ap (λ t. t ++ ys) (sym same ∙ first.2) ∙ append_assoc first.0 xs ys))

-- the beginning of two texts, of which the first is whole
take-past : (xs ys : List ℕ) (k : ℕ) → take (length xs + k) (xs ++ ys) ≡ xs ++ take k ys
take-past [] ys k = ap (λ n. take n ys) (omega arith)
take-past (x ∷ xs) ys k =
    let e : length (x ∷ xs) + k ≡ suc (length xs + k) = omega arith in
    rw e (ap (λ (t : List ℕ). x ∷ t) (take-past xs ys k))

pub wrote_some_then : (o m n : Option (List ℕ)) (xs ys : List ℕ) → Wrote o m xs → WroteSome m n ys → WroteSome o n (xs ++ ys)
wrote_some_then o m None xs ys first more = tt
wrote_some_then o None (Some after) xs ys first more = absurd cc
wrote_some_then o (Some middle) (Some after) xs ys first more =
    let same : middle ≡ more.0 = cc in
    let k = more.2.0 in
    (first.0, first.1, (length xs + k, more.2.1 ∙ (ap (λ t. t ++ take k ys) (sym same ∙ first.2) ∙ (append_assoc first.0 xs (take k ys) ∙ ap (λ t. first.0 ++ t) (sym (take-past xs ys k))))))

-- a beginning of a text is one of a longer text
take-less : (xs ys : List ℕ) (k : ℕ) → (j : ℕ) × (take j (xs ++ ys) ≡ take k xs)
take-less xs ys k =
    elim (cases_lt (length xs) k) [
      | inl past ↦ (length xs, take-append-le (length xs) xs ys (omega arith) ∙ (take_all (length xs) xs (omega arith) ∙ sym (take_all k xs (omega arith))))
      | inr within ↦ (k, take-append-le k xs ys within)
    ]

pub wrote_some_more : (o n : Option (List ℕ)) (xs ys : List ℕ) → WroteSome o n xs → WroteSome o n (xs ++ ys)
wrote_some_more o None xs ys some = tt
wrote_some_more o (Some after) xs ys some =
    let t = take-less xs ys some.2.0 in
    (some.0, some.1, (t.0, some.2.1 ∙ ap (λ (z : List ℕ). some.0 ++ z) (sym t.1)))

-- a piece more was written
wrote_on : (o m n : Option (List ℕ)) (xs : List ℕ) (d k : ℕ) → Wrote o m (take d xs) → WriteTakes m n (drop d xs) k → Wrote o n (take (d + k) xs)
wrote_on o m n xs d k first more = subst (λ t. Wrote o n t) (sym (take-add d k xs)) (wrote_then o m n (take d xs) (take k (drop d xs)) first more)

drop-whole : (xs : List ℕ) (d : ℕ) → take (length xs - d) (drop d xs) ≡ drop d xs
drop-whole xs d = take_all (length xs - d) (drop d xs) (omega (arith, length-drop d xs))

pub wrote_more : (o m n : Option (List ℕ)) (xs : List ℕ) (d k : ℕ) → Wrote o m (take d xs) → WriteTakes m n (take (length xs - d) (drop d xs)) k → Wrote o n (take (d + k) xs)
wrote_more o m n xs d k first more = wrote_on o m n xs d k first (subst (λ rest. WriteTakes m n rest k) (drop-whole xs d) more)

-- ---- texts one after the other

pub adds_nothing : {A : Type 0} (o : Option (List ℕ)) (f : ℕ) (r : Result A Failed) → Adds o o f f r r []
adds_nothing o f r = record { adds = λ start begin earlier w. subst (λ t. Writes start o begin f r t) (sym (append-nil earlier)) w }

pub adds_then : {A : Type 0} {o m n : Option (List ℕ)} {f g h : ℕ} {r s t : Result A Failed} {xs ys : List ℕ} → Adds o m f g r s xs → Adds m n g h s t ys → Adds o n f h r t (xs ++ ys)
adds_then {n = n} {h = h} {t = t} {xs = xs} {ys = ys} first more = record {
  adds = λ start begin earlier w.
      subst (λ z. Writes start n begin h t z) (append_assoc earlier xs ys) (more.adds start begin (earlier ++ xs) (first.adds start begin earlier w));
}

pub adds_as : {A : Type 0} {o n : Option (List ℕ)} {f g : ℕ} {r s : Result A Failed} {xs ys : List ℕ} → xs ≡ ys → Adds o n f g r s xs → Adds o n f g r s ys
adds_as {o = o} {n = n} {f = f} {g = g} {r = r} {s = s} same adds = subst (λ t. Adds o n f g r s t) same adds

after_ok : {A : Type 0} (o n : Option (List ℕ)) (f g : ℕ) (x : A) (r : Result A Failed) (xs : List ℕ) → OnOk r (Wrote o n xs) → OnErr r (WroteSome o n xs) → HasCause f g r
    → (start : Option (List ℕ)) (begin : ℕ) (earlier : List ℕ) → Writes start o begin f (Ok x) earlier → Writes start n begin g r (earlier ++ xs)
after_ok o n f g x (Ok y) xs ok err cause start begin earlier w =
    record { ok = wrote_then start o n earlier xs w.ok ok; err = tt; cause = record { later = omega (arith, w.cause.later, cause.later); failed = tt } }
after_ok o n f g x (Err e) xs ok err cause start begin earlier w =
    record { ok = tt; err = wrote_some_then start o n earlier xs w.ok err; cause = record { later = omega (arith, w.cause.later, cause.later); failed = omega (arith, w.cause.later, cause.failed) } }

pub adds_after_ok : {A : Type 0} (o n : Option (List ℕ)) (f g : ℕ) (x : A) (r : Result A Failed) (xs : List ℕ) → OnOk r (Wrote o n xs) → OnErr r (WroteSome o n xs) → HasCause f g r → Adds o n f g (Ok x) r xs
adds_after_ok o n f g x r xs ok err cause = record { adds = after_ok o n f g x r xs ok err cause }

pub adds_after_err : {A : Type 0} (o : Option (List ℕ)) (f : ℕ) (e : Failed) (xs : List ℕ) → Adds {A = A} o o f f (Err e) (Err e) xs
adds_after_err o f e xs = record { adds = λ start begin earlier w. record { ok = tt; err = wrote_some_more start o earlier xs w.err; cause = w.cause } }

-- what was added to nothing was written
pub added : {A : Type 0} (o n : Option (List ℕ)) (f g : ℕ) (x : A) (r : Result A Failed) (xs : List ℕ) → Adds o n f g (Ok x) r xs → Writes o n f g r xs
added o n f g x r xs adds = adds.adds o f [] (record { ok = wrote_nothing o; err = tt; cause = record { later = omega arith; failed = tt } })

-- ---- texts of lists

pub hex_append : (xs ys : List ℕ) → encode_lower xs ++ encode_lower ys ≡ encode_lower (xs ++ ys)
unfolding encode_with
hex_append [] ys = refl
hex_append (x ∷ xs) ys = ap (λ (t : List ℕ). slice_index lower_digits (x / 16) ∷ slice_index lower_digits (x % 16) ∷ t) (hex_append xs ys)

-- where nothing is left
pub all_before : (before left whole : List ℕ) → whole ≡ before ++ left → length left ≡ 0 → before ≡ whole
all_before before [] whole cut none = sym (cut ∙ append-nil before)
all_before before (x ∷ left) whole cut none = absurd (omega (arith, none))

pub take_more : {X : Type 0} (xs : List X) (i : ℕ) (d : X) → i < length xs → take i xs ++ get_or xs i d ∷ [] ≡ take (i + 1) xs
take_more [] i d lt = absurd (omega arith)
take_more (x ∷ xs) zero d lt = refl
take_more (x ∷ xs) (suc i) d lt = let e : suc i + 1 ≡ suc (i + 1) = omega arith in rw e (ap (λ ys. x ∷ ys) (take_more xs i d (omega (arith, lt))))

pub flat_more : {X : Type 0} (f : X → List ℕ) (xs : List X) (x : X) → flat_map f xs ++ f x ≡ flat_map f (xs ++ x ∷ [])
flat_more f [] x = sym (append-nil (f x))
flat_more f (y ∷ xs) x = append_assoc (f y) (flat_map f xs) (f x) ∙ ap (λ (t : List ℕ). f y ++ t) (flat_more f xs x)

flat-same : {X Y : Type 0} (f : Y → List ℕ) (g : X → Y) (xs : List X) → flat_map f (map g xs) ≡ flat_map (λ x. f (g x)) xs
flat-same f g [] = refl
flat-same f g (x ∷ xs) = ap (λ (t : List ℕ). f (g x) ++ t) (flat-same f g xs)

-- texts with an octet between them: the first, and the others behind that octet
pub joined_map : {X : Type 0} (c : ℕ) (f : X → List ℕ) (xs : List X) (d : X) → 0 < length xs → f (get_or xs 0 d) ++ flat_map (λ x. c ∷ f x) (drop 1 xs) ≡ joined c (map f xs)
joined_map c f [] d some = absurd (omega arith)
joined_map c f (x ∷ xs) d some = ap (λ (t : List ℕ). f x ++ t) (sym (flat-same (λ y. (c ∷ []) ++ y) f xs))

pub joined_entries : (es : List (List Shown)) → 0 < length es → entry_text (get_or es 0 []) ++ flat_map (λ e. 44 ∷ entry_text e) (drop 1 es) ≡ entries_text es
joined_entries es some = joined_map 44 entry_text es [] some

-- one entry more
pub next_entry : (es : List (List Shown)) (place : ℕ) → 1 ≤ place → place < length es
    → flat_map (λ e. 44 ∷ entry_text e) (take (place - 1) (drop 1 es)) ++ (44 ∷ entry_text (get_or es place [])) ≡ flat_map (λ e. 44 ∷ entry_text e) (take (place + 1 - 1) (drop 1 es))
next_entry [] place low lt = absurd (omega arith)
next_entry (e ∷ es) zero low lt = absurd (omega arith)
next_entry (e ∷ es) (suc k) low lt =
    let other = λ (e : List Shown). 44 ∷ entry_text e in
    let a : suc k - 1 ≡ k = omega arith in
    let b : suc k + 1 - 1 ≡ k + 1 = omega arith in
    rw (a, b) (flat_more other (take k es) (get_or es k []) ∙ ap (flat_map other) (take_more es k [] (omega (arith, lt))))

pub rest_whole : {X : Type 0} (xs : List X) → take (length xs - 1) (drop 1 xs) ≡ drop 1 xs
rest_whole xs = take_all (length xs - 1) (drop 1 xs) (omega (arith, length-drop 1 xs))

pub nothing_shown : (xs : List Shown) → xs ++ [] ≡ xs
nothing_shown xs = append-nil xs

-- what the fields of fields show
pub twice : {X Y Z : Type 0} (f : Y → Z) (g : X → Y) (xs : List X) → map f (map g xs) ≡ map (λ x. f (g x)) xs
twice f g [] = refl
twice f g (x ∷ xs) = ap (λ t. f (g x) ∷ t) (twice f g xs)

pub seen_texts : (fs : List Field) → flat_map field_seen fs ≡ flat_map field_text (map seen fs)
seen_texts fs = sym (flat-same field_text seen fs)
