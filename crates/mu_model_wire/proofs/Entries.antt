-- Reading entries one after the other.
use Rattle.std.proofs.Common.{◌≡◌, ℕ, zero, suc, ◌≤◌, ◌<◌, List, [], ◌∷◌, ◌++◌, length, Result, Ok, Err, refl, sym, ap, ◌∙◌, append_assoc, arith, true, false, eqb, eq-eqb}
use Rattle.std.proofs.lemmas.Bool.{ne_eqb}
use Rattle.std.proofs.lemmas.List.{append-nil}
use Rattle.mu_model_wire.specs.declared.Refusal.{Refusal}
use Rattle.mu_model_wire.specs.Fields.{Field, Shown}
use Rattle.mu_model_wire.specs.Reading.{◌>>=◌, Left, entry_at, entries_at}
use Rattle.mu_model_wire.specs.Entries.{with_front, StillReads, EntriesBegin, EntryIsRead, EntryIsRefused, EntriesEnd}

with_nothing : (r : Result (List (List Shown)) Refusal) → with_front [] r ≡ r
with_nothing (Ok x) = refl
with_nothing (Err e) = refl

pub begins : EntriesBegin
begins fs left = record { most = length left.octets; enough = omega arith; same = with_nothing _ }

regroup : (front : List (List Shown)) (e : List Shown) (read : Result (List (List Shown)) Refusal) → with_front front (read >>= λ es. Ok (e ∷ es)) ≡ with_front (front ++ e ∷ []) read
regroup front e (Ok x) = ap (λ (es : List (List Shown)). Ok es) (simp append_assoc)
regroup front e (Err f) = refl

step : (fuel : ℕ) (fs : List Field) (front : List (List Shown)) (left after : Left) (e : List Shown) (all : Result (List (List Shown)) Refusal)
    → 0 < length left.octets → length left.octets ≤ fuel → with_front front (entries_at fuel fs left) ≡ all
    → entry_at fs left ≡ Ok (e, after) → length after.octets < length left.octets → StillReads fs (front ++ e ∷ []) after all
step zero fs front left after e all some enough same first shorter = absurd (omega arith)
step (suc fuel) fs front left after e all some enough same first shorter =
    let not_ended : eqb (length left.octets) 0 ≡ false = ne_eqb (length left.octets) 0 (λ (none : length left.octets ≡ 0). omega arith) in
    let one : with_front front (entries_at (suc fuel) fs left) ≡ with_front (front ++ e ∷ []) (entries_at fuel fs after) = rw (not_ended, first) (regroup front e (entries_at fuel fs after)) in
    record { most = fuel; enough = omega arith; same = sym one ∙ same }

pub goes_on : EntryIsRead
goes_on fs front left after e all some so_far first shorter = step so_far.most fs front left after e all some so_far.enough so_far.same first shorter

stop : (fuel : ℕ) (fs : List Field) (front : List (List Shown)) (left : Left) (e : Refusal) (all : Result (List (List Shown)) Refusal)
    → 0 < length left.octets → length left.octets ≤ fuel → with_front front (entries_at fuel fs left) ≡ all → entry_at fs left ≡ Err e → all ≡ Err e
stop zero fs front left e all some enough same first = absurd (omega arith)
stop (suc fuel) fs front left e all some enough same first =
    let not_ended : eqb (length left.octets) 0 ≡ false = ne_eqb (length left.octets) 0 (λ (none : length left.octets ≡ 0). omega arith) in
    let one : with_front front (entries_at (suc fuel) fs left) ≡ Err e = rw (not_ended, first) refl in
    sym same ∙ one

pub fails : EntryIsRefused
fails fs front left e all some so_far first = stop so_far.most fs front left e all some so_far.enough so_far.same first

done : (fuel : ℕ) (fs : List Field) (front : List (List Shown)) (left : Left) (all : Result (List (List Shown)) Refusal)
    → length left.octets ≡ 0 → with_front front (entries_at fuel fs left) ≡ all → all ≡ Ok front
done zero fs front left all none same = sym same ∙ ap (λ (es : List (List Shown)). Ok es) (append-nil front)
done (suc fuel) fs front left all none same =
    let ended : eqb (length left.octets) 0 ≡ true = eq-eqb (length left.octets) 0 none in
    let one : with_front front (entries_at (suc fuel) fs left) ≡ Ok front = rw ended (ap (λ (es : List (List Shown)). Ok es) (append-nil front)) in
    sym same ∙ one

pub is_done : EntriesEnd
is_done fs front left all none so_far = done so_far.most fs front left all none so_far.same
