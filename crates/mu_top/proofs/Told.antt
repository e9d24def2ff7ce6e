-- Facts about what is told before and after calls, and about answers.
use Rattle.std.proofs.Common.{◌≡◌, ℕ, sym, ◌∙◌, List, Option, Some, None, Result, Ok, Err, refl, subst}
use Rattle.std.specs.Prelude.{IfSome}
use Rattle.std.specs.Result.{OnOk}
use Rattle.mu_outside.specs.Stream.{KeepsTold}
use Rattle.mu_input.specs.Reading.{WhereTold}

-- before any call
pub told_self : (o : Option (List ℕ)) (P : List ℕ → List ℕ → Type 0) → ((v : List ℕ) → P v v) → WhereTold o o P
told_self None P p = tt
told_self (Some v) P p = (v, refl, p v)

-- what follows from two facts that hold at Ok
pub on_ok_both : {T E : Type 0} (r : Result T E) (P Q R : Type 0) → (P → Q → R) → OnOk r P → OnOk r Q → OnOk r R
on_ok_both (Ok x) P Q R f p q = f p q
on_ok_both (Err e) P Q R f p q = tt

-- what holds of the value that is there
pub if_some_at : {T : Type 0} (o : Option T) (x : T) (P : T → Type 0) → o ≡ Some x → IfSome o P → P x
if_some_at None x P is p = absurd cc
if_some_at (Some y) x P is p =
    let same : y ≡ x = cc in
    subst P same p

-- what follows from a fact about what is told
pub where_told : (o n : Option (List ℕ)) (P Q : List ℕ → List ℕ → Type 0) → ((before after : List ℕ) → P before after → Q before after) → WhereTold o n P → WhereTold o n Q
where_told o None P Q f h = tt
where_told o (Some after) P Q f h = (h.0, h.1, f h.0 after h.2)

-- two calls, one after the other
pub told_then : (o m n : Option (List ℕ)) (P Q R : List ℕ → List ℕ → Type 0) → ((before middle after : List ℕ) → P before middle → Q middle after → R before after)
    → WhereTold o m P → WhereTold m n Q → WhereTold o n R
told_then o m None P Q R f p q = tt
told_then o None (Some after) P Q R f p q =
    let impossible : None ≡ Some q.0 = q.1 in
    absurd cc
told_then o (Some middle) (Some after) P Q R f p q =
    let same : middle ≡ q.0 = cc in
    (p.0, p.1, f p.0 middle after p.2 (subst (λ m. Q m after) (sym same) q.2))

-- two facts about one call
pub told_both : (o n : Option (List ℕ)) (P Q : List ℕ → List ℕ → Type 0) → WhereTold o n P → WhereTold o n Q → WhereTold o n (λ before after. P before after × Q before after)
told_both o None P Q p q = tt
told_both o (Some after) P Q p q =
    let same : Some q.0 ≡ Some p.0 = sym q.1 ∙ p.1 in
    let one : q.0 ≡ p.0 = cc in
    (p.0, p.1, (p.2, subst (λ before. Q before after) one q.2))

-- what a source and a sink tell, since a beginning
abbrev pub Both : (S0 S1 K0 K1 : Option (List ℕ)) → (List ℕ → List ℕ → List ℕ → List ℕ → Type 0) → Type 0
Both S0 S1 K0 K1 X = WhereTold S0 S1 (λ held left. WhereTold K0 K1 (X held left))

pub both_map : (S0 S1 K0 K1 : Option (List ℕ)) (X Y : List ℕ → List ℕ → List ℕ → List ℕ → Type 0) → ((held left before after : List ℕ) → X held left before after → Y held left before after)
    → Both S0 S1 K0 K1 X → Both S0 S1 K0 K1 Y
both_map S0 S1 K0 K1 X Y f = where_told S0 S1 _ _ (λ held left x. where_told K0 K1 (X held left) (Y held left) (f held left) x)

-- before any call on either
pub both_self : (S0 K0 : Option (List ℕ)) (X : List ℕ → List ℕ → List ℕ → List ℕ → Type 0) → ((held before : List ℕ) → X held held before before) → Both S0 S0 K0 K0 X
both_self S0 K0 X f = told_self S0 _ (λ held. told_self K0 _ (λ before. f held before))

-- a call on the source
pub both_source : (S0 S1 S2 K0 K1 : Option (List ℕ)) (X Y : List ℕ → List ℕ → List ℕ → List ℕ → Type 0) (P : List ℕ → List ℕ → Type 0)
    → ((held left left' before after : List ℕ) → X held left before after → P left left' → Y held left' before after)
    → Both S0 S1 K0 K1 X → WhereTold S1 S2 P → Both S0 S2 K0 K1 Y
both_source S0 S1 S2 K0 K1 X Y P f = told_then S0 S1 S2 (λ held left. WhereTold K0 K1 (X held left)) P (λ held left'. WhereTold K0 K1 (Y held left'))
    (λ held left left' x p. where_told K0 K1 (X held left) (Y held left') (λ before after y. f held left left' before after y p) x)

-- a call on the sink
pub both_sink : (S0 S1 K0 K1 K2 : Option (List ℕ)) (X Y : List ℕ → List ℕ → List ℕ → List ℕ → Type 0) (Q : List ℕ → List ℕ → Type 0)
    → ((held left before after after' : List ℕ) → X held left before after → Q after after' → Y held left before after')
    → Both S0 S1 K0 K1 X → WhereTold K1 K2 Q → Both S0 S1 K0 K2 Y
both_sink S0 S1 K0 K1 K2 X Y Q f x q = where_told S0 S1 _ _ (λ held left y. told_then K0 K1 K2 (X held left) Q (Y held left) (f held left) y q) x

-- the sink tells the same as before
pub both_kept : (S0 S1 K0 K1 K2 : Option (List ℕ)) (X : List ℕ → List ℕ → List ℕ → List ℕ → Type 0) → Both S0 S1 K0 K1 X → KeepsTold K1 K2 → Both S0 S1 K0 K2 X
both_kept S0 S1 K0 K1 None X x same = where_told S0 S1 _ _ (λ held left y. tt) x
both_kept S0 S1 K0 K1 (Some after) X x same = where_told S0 S1 _ _ (λ held left y. rw same at y) x
