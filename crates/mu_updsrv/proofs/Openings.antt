-- What was read of an input that is lent, through a limit.
use Rattle.std.proofs.Common.{◌≡◌, ◌∙◌, ◌⊎◌, ℕ, zero, suc, ◌+◌, ◌-◌, ◌<◌, ◌≤◌, Option, Some, None, IfSome, List, [], ◌∷◌, ◌++◌, length, take, refl, sym, ap, subst, inl, inr, ⊎_elim, arith, append_assoc, length-append}
use Rattle.std.specs.Option.{ForSome}
use Rattle.std.specs.Prelude.{Result, Ok, Err, IfOk, OnErr}
use Rattle.mu_model_flash.specs.declared.Failed.{Failed}
use Rattle.std.proofs.lemmas.List.{length-take-le, take-append-le, take_all, append_cancel_right}
use Rattle.std.proofs.Math.Seq.{take-append-add, take-nil}
use Rattle.mu_outside.specs.Stream.{ReadGives, KeepsTold}
use Rattle.mu_outside.specs.Limited.{first_of, KeepsGiving}
use Rattle.mu_store.specs.Source.{Gave, IsAtEnd}
use Rattle.mu_updsrv.specs.Made.{GaveOfFirst}
use Rattle.mu_updsrv.specs.Opening.{octets_of, IsRestOf}

-- a piece, and the rest of so many octets
take_past : (xs ys : List ℕ) (n room room' : ℕ) → length xs ≡ n → room' + n ≡ room → take room (xs ++ ys) ≡ xs ++ take room' ys
take_past xs ys n room room' size is =
    let e : room ≡ length xs + room' = omega (arith, size, is) in
    ap (λ (k : ℕ). take k (xs ++ ys)) e ∙ take-append-add xs ys room'

-- a read of the beginning of what is asked for
module _ (out part : List ℕ) (n room room' : ℕ) (is : room' + n ≡ room) (size : n ≤ length part) (same : take n out ≡ take n part) where
  pub gives_first : 0 < length part → (old new : Option (List ℕ)) → ReadGives old new part n → ReadGives (first_of room old) (first_of room' new) out n
  gives_first some old None x = tt
  gives_first some old (Some after) x = (
    ap (λ (o : Option (List ℕ)). first_of room o) x.0
        ∙ ap (λ (l : List ℕ). Some l) (take_past (take n part) after n room room' (length-take-le n part size) is ∙ ap (λ (l : List ℕ). l ++ take room' after) (sym same)),
    λ none wanted. ap (λ (l : List ℕ). take room' l) (x.1 none some) ∙ take-nil room',
  )

  pub through_part : (old new : Option (List ℕ)) → ReadGives old new part n → KeepsGiving old new out n
  through_part old None x = tt
  through_part old (Some after) x = x.0 ∙ ap (λ (l : List ℕ). Some (l ++ after)) (sym same)

-- ---- the rest

-- nothing was read
pub nothing_read : (start now : Option (List ℕ)) → now ≡ start → ForSome now (IsRestOf 0 start)
nothing_read start now is after told =
    let here : start ≡ Some after = sym is ∙ told in
    record { octets = here; count = omega (arith, sym (ap (λ (o : Option (List ℕ)). length (octets_of o)) here)) }

take_whole : (xs ys : List ℕ) (n : ℕ) → length xs ≡ n → take n (xs ++ ys) ≡ xs
take_whole xs ys n is = take-append-le n xs ys (omega (arith, is)) ∙ take_all n xs (omega (arith, is))

-- octets more of what was told
rest_more : (given n : ℕ) (start : Option (List ℕ)) (piece before after : List ℕ) → length piece ≡ n → IsRestOf given start before → before ≡ piece ++ after → IsRestOf (given + n) start after
rest_more given n start piece before after size rest is =
    let xs = octets_of start in
    let whole : start ≡ Some ((take given xs ++ piece) ++ after) =
    rest.octets ∙ ap (λ (l : List ℕ). Some (take given xs ++ l)) is ∙ ap (λ (l : List ℕ). Some l) (sym (append_assoc (take given xs) piece after)) in
    let split : xs ≡ (take given xs ++ piece) ++ after = ap octets_of whole in
    let sizes : length before ≡ length piece + length after = ap length is ∙ length-append piece after in
    let within : given ≤ length xs = omega (arith, rest.count) in
    let first : length (take given xs) ≡ given = length-take-le given xs within in
    let taken : length (take given xs ++ piece) ≡ given + n = omega (arith, length-append (take given xs) piece, first, size) in
    let same : take (given + n) xs ≡ take given xs ++ piece =
    ap (λ (l : List ℕ). take (given + n) l) split ∙ take_whole (take given xs ++ piece) after (given + n) taken in
    record {
      octets = whole ∙ ap (λ (l : List ℕ). Some (l ++ after)) (sym same);
      count = omega (arith, rest.count, sizes, size);
    }

pub rest_on : (given given' n : ℕ) (start old new : Option (List ℕ)) (out : List ℕ) → given' ≡ given + n → n ≤ length out
    → ForSome old (IsRestOf given start) → KeepsGiving old new out n → ForSome new (IsRestOf given' start)
rest_on given given' n start old new out more size rest gives after told =
    let was : old ≡ Some (take n out ++ after) = subst (λ (o : Option (List ℕ)). IfSome o (λ a. old ≡ Some (take n out ++ a))) told gives in
    let piece = take n out in
    subst (λ (k : ℕ). IsRestOf k start after) (sym more) (rest_more given n start piece (piece ++ after) after (length-take-le n out size) (rest (piece ++ after) was) refl)

pub rest_kept : (given given' : ℕ) (start old new : Option (List ℕ)) → given' ≡ given → ForSome old (IsRestOf given start) → KeepsTold old new → ForSome new (IsRestOf given' start)
rest_kept given given' start old new same rest kept after told =
    let was : old ≡ Some after = subst (λ (o : Option (List ℕ)). IfSome o (λ a. old ≡ Some a)) told kept in
    subst (λ (k : ℕ). IsRestOf k start after) (sym same) (rest after was)

pub kept_first : (room room' : ℕ) (old new : Option (List ℕ)) → room' ≡ room → KeepsTold old new → KeepsTold (first_of room old) (first_of room' new)
kept_first room room' old None same kept = tt
kept_first room room' old (Some after) same kept =
    ap (λ (o : Option (List ℕ)). first_of room o) kept ∙ ap (λ (k : ℕ). Some (take k after)) (sym same)

-- whatever the read answered
pub rest_read : (result : Result ℕ Failed) (given given' : ℕ) (start old new : Option (List ℕ)) (out out' : List ℕ) → length out' ≡ length out → ForSome old (IsRestOf given start)
    → IfOk result (λ n. n ≤ length out) → IfOk result (λ n. KeepsGiving old new out' n) → IfOk result (λ n. given' ≡ given + n) → OnErr result (KeepsTold old new) → OnErr result (given' ≡ given)
    → ForSome new (IsRestOf given' start)
rest_read (Ok n) given given' start old new out out' size rest within gives more kept still = rest_on given given' n start old new out' more (omega (arith, size, within)) rest gives
rest_read (Err e) given given' start old new out out' size rest within gives more kept still = rest_kept given given' start old new still rest kept

pub within_read : (result : Result ℕ Failed) (given given' most : ℕ) → given ≤ most → IfOk result (λ n. n ≤ most - given) → IfOk result (λ n. given' ≡ given + n) → OnErr result (given' ≡ given) → given' ≤ most
within_read (Ok n) given given' most within few more still = omega (arith, within, few, more)
within_read (Err e) given given' most within few more still = omega (arith, within, still)

-- the octets that may be read, at the start and then
pub left_first : (most first given : ℕ) (a b : Option (List ℕ)) → most ≡ first → given ≡ 0 → a ≡ b → first_of (most - given) a ≡ first_of first b
left_first most first given a b same none is =
    let room : most - given ≡ first = omega (arith, same, none) in
    ap (λ (k : ℕ). first_of k a) room ∙ ap (λ (o : Option (List ℕ)). first_of first o) is

pub left_then : (most first given : ℕ) (a : Option (List ℕ)) → most ≡ first → first_of (most - given) a ≡ first_of (first - given) a
left_then most first given a same = ap (λ (k : ℕ). first_of (k - given) a) same

-- ---- what the input gave

module _ (most given : ℕ) (within : given ≤ most) (start now : Option (List ℕ)) (rest : ForSome now (IsRestOf given start)) (octets : List ℕ) (gave : Gave (first_of most start) (first_of (most - given) now) octets) where
  read : (after : List ℕ) → now ≡ Some after → (octets ≡ take given (octets_of start)) × (length octets ≡ given) × (start ≡ Some (octets ++ after))
  read after told =
      let r = rest after told in
      let xs = octets_of start in
      let count = r.count in
      let first : length (take given xs) ≡ given = length-take-le given xs (omega (arith, count)) in
      let tail = take (most - given) after in
      let cut : first_of most start ≡ Some (take given xs ++ tail) =
      ap (λ (o : Option (List ℕ)). first_of most o) r.octets ∙ ap (λ (l : List ℕ). Some l) (take_past (take given xs) after given most (most - given) first (omega (arith, within))) in
      let here : first_of most start ≡ Some (octets ++ tail) = subst (λ (o : Option (List ℕ)). Gave (first_of most start) (first_of (most - given) o) octets) told gave in
      let both : octets_of (Some (octets ++ tail)) ≡ octets_of (Some (take given xs ++ tail)) = ap octets_of (sym here ∙ cut) in
      let same : octets ≡ take given xs = append_cancel_right octets (take given xs) tail both in
      (same, ap length same ∙ first, r.octets ∙ ap (λ (l : List ℕ). Some (l ++ after)) (sym same))

-- told now or not
pub first_given : (most given : ℕ) → given ≤ most → (start now : Option (List ℕ)) → ForSome now (IsRestOf given start) → (octets : List ℕ)
    → Gave (first_of most start) (first_of (most - given) now) octets → GaveOfFirst most start now octets
first_given most given within start None rest octets gave = (tt, tt)
first_given most given within start (Some after) rest octets gave =
    let r = read most given within start (Some after) rest octets gave after refl in
    (r.2, omega (arith, r.1, within))

ended : (after : List ℕ) (room : ℕ) → take room after ≡ [] → (after ≡ []) ⊎ (room ≡ 0)
ended [] room is = inl refl
ended (x ∷ after) zero is = inr refl
ended (x ∷ after) (suc room) is = absurd cc

pub first_cut : (most given : ℕ) → given ≤ most → (start now : Option (List ℕ)) → ForSome now (IsRestOf given start) → (octets : List ℕ)
    → Gave (first_of most start) (first_of (most - given) now) octets → IsAtEnd (first_of (most - given) now)
    → IfSome now (λ rest. (length octets ≤ most) × ((rest ≡ []) ⊎ (length octets ≡ most)))
first_cut most given within start None rest octets gave at_end = tt
first_cut most given within start (Some after) rest octets gave at_end =
    let r = read most given within start (Some after) rest octets gave after refl in
    let full : most - given ≡ 0 → length octets ≡ most = λ none. omega (arith, r.1, within, none) in
    (omega (arith, r.1, within), ⊎_elim (λ e. inl e) (λ none. inr (full none)) (ended after (most - given) at_end))

-- nothing was given, though some could be
pub first_none : (most given : ℕ) → 1 ≤ most → given ≤ most → (start now : Option (List ℕ)) → ForSome now (IsRestOf given start)
    → Gave (first_of most start) (first_of (most - given) now) [] → IsAtEnd (first_of (most - given) now) → IsAtEnd now
first_none most given some within start None rest gave at_end = tt
first_none most given some within start (Some after) rest gave at_end =
    let r = read most given within start (Some after) rest [] gave after refl in
    ⊎_elim (λ e. e) (λ none. absurd (omega (arith, r.1, within, some, none))) (ended after (most - given) at_end)
