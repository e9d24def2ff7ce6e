-- What a source gave, by its calls.
use Rattle.std.proofs.Common.{◌≡◌, ℕ, zero, suc, ◌+◌, ◌<◌, ◌≤◌, Option, Some, None, List, [], ◌∷◌, ◌++◌, length, take, refl, sym, ◌∙◌, ap, arith, append_assoc, length-append}
use borrow.Rule.Slice.PartMut.{put_mid, post_of}
use Rattle.std.proofs.lemmas.List.{length-take-le, take-append-le}
use Rattle.std.proofs.Math.Seq.{take-append-add}
use Rattle.std.specs.Prelude.{nat_lt}
use Rattle.mu_outside.specs.Stream.{ReadGives, KeepsTold}
use Rattle.mu_store.specs.Source.{Gave, IsAtEnd, GivesMore}

-- two calls, one after the other
pub gave_on : (a b c : Option (List ℕ)) (xs ys : List ℕ) → Gave a b xs → Gave b c ys → Gave a c (xs ++ ys)
gave_on a b None xs ys first second = tt
gave_on a (Some m) (Some n) xs ys first second =
    let mid : m ≡ ys ++ n = cc in
    first ∙ ap (λ (l : List ℕ). Some (xs ++ l)) mid ∙ ap (λ (l : List ℕ). Some l) (sym (append_assoc xs ys n))
gave_on a None (Some n) xs ys first second = absurd cc

-- before any call
pub gave_none : (a : Option (List ℕ)) → Gave a a []
gave_none None = tt
gave_none (Some m) = refl

-- a read that failed
pub gave_nothing : (a b : Option (List ℕ)) → KeepsTold a b → Gave a b []
gave_nothing a None keeps = tt
gave_nothing a (Some n) keeps = keeps

-- a read of so many octets
pub gave_some : (a b : Option (List ℕ)) (out : List ℕ) (n : ℕ) → ReadGives a b out n → Gave a b (take n out)
gave_some a None out n gives = tt
gave_some a (Some m) out n gives = gives.0

-- a read of none
pub gave_all : (a b : Option (List ℕ)) (out : List ℕ) (n : ℕ) → n ≡ 0 → 0 < length out → ReadGives a b out n → IsAtEnd b
gave_all a None out n is some gives = tt
gave_all a (Some m) out n is some gives = gives.1 is some

-- a read into one octet
pub gives_more : (a b : Option (List ℕ)) (out : List ℕ) (n : ℕ) → length out ≡ 1 → n ≤ 1 → ReadGives a b out n → GivesMore a b (nat_lt 0 n)
gives_more a b out zero long most gives = (gave_some a b out 0 gives, gave_all a b out 0 refl (omega (arith, long)) gives)
gives_more a b [] (suc n) long most gives = absurd (omega (arith, long))
gives_more a b (x ∷ []) (suc zero) long most gives = (x, gave_some a b (x ∷ []) 1 gives)
gives_more a b (x ∷ []) (suc (suc n)) long most gives = absurd (omega (arith, most))
gives_more a b (x ∷ y ∷ out) (suc n) long most gives = absurd (omega (arith, long))

-- the first octets of a piece after a read into its rest
pub put_on : (a n k : ℕ) (xs ys : List ℕ) → a ≤ length xs → n ≤ length ys → take (a + n) (put_mid a k xs ys) ≡ take a xs ++ take n ys
put_on a n k xs ys a_le n_le =
    let long : length (take a xs) ≡ a = length-take-le a xs a_le in
    ap (λ (m : ℕ). take (m + n) (put_mid a k xs ys)) (sym long) ∙ take-append-add (take a xs) (ys ++ post_of a k xs) n ∙ ap (λ (l : List ℕ). take a xs ++ l) (take-append-le n ys (post_of a k xs) n_le)

pub put_long : (a n k : ℕ) (xs ys : List ℕ) → a ≤ length xs → n ≤ length ys → a + n ≤ length (put_mid a k xs ys)
put_long a n k xs ys a_le n_le = omega (arith, length-append (take a xs) (ys ++ post_of a k xs), length-append ys (post_of a k xs), length-take-le a xs a_le, n_le)
