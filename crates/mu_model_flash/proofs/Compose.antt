-- Runs one after the other.
use Rattle.std.proofs.Common.{◌≡◌, inl, inr, ⊎_elim, ℕ, zero, suc, ◌+◌, ◌-◌, ◌<◌, ◌≤◌, Bool, false, IsTrue, Option, Some, None, List, [], ◌∷◌, ◌++◌, length, take, refl, sym, ◌∙◌, ap, subst, arith, length-append}
use Rattle.std.proofs.lemmas.List.{take-append-le}
use Rattle.std.proofs.Math.Seq.{take-append-add}
use Rattle.mu_model_flash.specs.declared.Pattern.{Pattern}
use Rattle.mu_model_flash.specs.declared.Pattern.TheVariants.{Old, New, Made}
use Rattle.mu_model_flash.specs.declared.Armed.{Armed}
use Rattle.mu_model_flash.specs.Flash.{Seen, ticks, fallen, IsBefore, IsSound, Unchanged}
use Rattle.mu_model_flash.specs.Run.{Reading, state_at, last_of, Passing, InPart, ByPattern, Keeps, Leaves, Ran, WentOff, Broke, Stopped}

module _ {S : Type 0} (R : Reading S) where
  pub last_append : (s : S) (xs ys : List S) → last_of s (xs ++ ys) ≡ last_of (last_of s xs) ys
  last_append s [] ys = refl
  last_append s (x ∷ xs) ys = last_append x xs ys

  pub state_left : (s : S) (xs ys : List S) (j : ℕ) → j ≤ length xs → state_at s (xs ++ ys) j ≡ state_at s xs j
  state_left s xs ys zero le = refl
  state_left s [] ys (suc j) le = absurd (omega arith)
  state_left s (x ∷ xs) ys (suc j) le = state_left x xs ys j (omega arith)

  pub state_right : (s : S) (xs ys : List S) (j : ℕ) → state_at s (xs ++ ys) (length xs + j) ≡ state_at (last_of s xs) ys j
  state_right s [] ys j = let e : 0 + j ≡ j = omega arith in ap (λ (n : ℕ). state_at s ys n) e
  state_right s (x ∷ xs) ys j =
      let e : suc (length xs) + j ≡ suc (length xs + j) = omega arith in
      ap (λ (n : ℕ). state_at s (x ∷ (xs ++ ys)) n) e ∙ state_right x xs ys j

  pub passing_left : (s : S) (xs ys : List S) (c : List ℕ) → Passing R s xs c → Passing R s (xs ++ ys) c
  passing_left s [] [] c p = p
  passing_left s [] (y ∷ ys) c p = inl p
  passing_left s (x ∷ xs) ys c (inl here) = inl here
  passing_left s (x ∷ xs) ys c (inr (inl torn)) = inr (inl torn)
  passing_left s (x ∷ xs) ys c (inr (inr on)) = inr (inr (passing_left x xs ys c on))

  pub passing_right : (s : S) (xs ys : List S) (c : List ℕ) → Passing R (last_of s xs) ys c → Passing R s (xs ++ ys) c
  passing_right s [] ys c p = p
  passing_right s (x ∷ xs) ys c p = inr (inr (passing_right x xs ys c p))

  in_part_end : (s x : S) (xs ys : List S) (c : List ℕ) → R.Is (last_of x xs) c → InPart R s (x ∷ (xs ++ ys)) (suc (length xs)) c
  in_part_end s x [] ys c p = inr p
  in_part_end s x (y ∷ xs) ys c p = in_part_end x y xs ys c p

  pub in_part_left : (s : S) (xs ys : List S) (j : ℕ) (c : List ℕ) → InPart R s xs j c → InPart R s (xs ++ ys) j c
  in_part_left s xs ys zero c p = p
  in_part_left s [] ys (suc j) c p = absurd p
  in_part_left s (x ∷ xs) ys (suc zero) c p = p
  in_part_left s (x ∷ xs) ys (suc (suc j)) c p = in_part_left x xs ys (suc j) c p

  in_part_suc : (s x : S) (xs : List S) (j : ℕ) (c : List ℕ) → InPart R x xs (suc j) c → InPart R s (x ∷ xs) (suc (suc j)) c
  in_part_suc s x xs j c p = p

  in_part_more : (s : S) (xs ys : List S) (j : ℕ) (c : List ℕ) → InPart R (last_of s xs) ys (suc j) c → InPart R s (xs ++ ys) (suc (length xs + j)) c
  in_part_more s [] ys j c p =
      let e : suc j ≡ suc (0 + j) = omega arith in subst (λ (n : ℕ). InPart R s ys n c) e p
  in_part_more s (x ∷ xs) ys j c p =
      let e : suc (suc (length xs + j)) ≡ suc (suc (length xs) + j) = omega arith in
      subst (λ (n : ℕ). InPart R s (x ∷ (xs ++ ys)) n c) e (in_part_suc s x (xs ++ ys) (length xs + j) c (in_part_more x xs ys j c p))

  pub in_part_right : (s : S) (xs ys : List S) (j : ℕ) (c : List ℕ) → InPart R (last_of s xs) ys j c → InPart R s (xs ++ ys) (length xs + j) c
  in_part_right s [] ys zero c p = p
  in_part_right s (x ∷ xs) ys zero c p =
      let e : suc (length xs) ≡ suc (length xs) + 0 = omega arith in
      subst (λ (n : ℕ). InPart R s (x ∷ (xs ++ ys)) n c) e (in_part_end s x xs ys c p)
  in_part_right s xs ys (suc j) c p =
      let e : suc (length xs + j) ≡ length xs + suc j = omega arith in
      subst (λ (n : ℕ). InPart R s (xs ++ ys) n c) e (in_part_more s xs ys j c p)

  pub by_pattern_left : (s : S) (xs ys : List S) (j : ℕ) (p : Pattern) (c : List ℕ) → j ≤ length xs → ByPattern R s xs j p c → ByPattern R s (xs ++ ys) j p c
  by_pattern_left s xs ys j Old c le b = subst (λ (t : S). R.Is t c) (sym (state_left s xs ys (j - 1) (omega arith))) b
  by_pattern_left s xs ys j New c le b = subst (λ (t : S). R.Is t c) (sym (state_left s xs ys j le)) b
  by_pattern_left s xs ys j (Made seed) c le b = tt

  pub by_pattern_right : (s : S) (xs ys : List S) (j : ℕ) (p : Pattern) (c : List ℕ) → 0 < j → ByPattern R (last_of s xs) ys j p c → ByPattern R s (xs ++ ys) (length xs + j) p c
  by_pattern_right s xs ys j Old c some b =
      let e : length xs + (j - 1) ≡ length xs + j - 1 = omega arith in
      subst (λ (n : ℕ). R.Is (state_at s (xs ++ ys) n) c) e (subst (λ (t : S). R.Is t c) (sym (state_right s xs ys (j - 1))) b)
  by_pattern_right s xs ys j New c some b = subst (λ (t : S). R.Is t c) (sym (state_right s xs ys j)) b
  by_pattern_right s xs ys j (Made seed) c some b = tt

pub keeps_on : (a b c : Seen) → Keeps a b → Keeps b c → Keeps a c
keeps_on a b c ab bc = record {
  pages = bc.pages ∙ ab.pages;
  told = bc.told ∙ ab.told;
  only_armed = bc.only_armed ∙ ab.only_armed;
  faults = omega (arith, ab.faults, bc.faults);
}

pub unchanged_keeps : (a b : Seen) → Unchanged a b → Keeps a b
unchanged_keeps a b u = record { pages = u.pages; told = u.told; only_armed = u.only_armed; faults = u.faults }

pub unchanged_on : (a b c : Seen) → Unchanged a b → Unchanged b c → Unchanged a c
unchanged_on a b c ab bc =
    let told : IsTrue a.told → IsTrue b.told = λ t. subst (λ (x : Bool). IsTrue x) (sym ab.told) t in
    record {
      pages = bc.pages ∙ ab.pages;
      told = bc.told ∙ ab.told;
      octets = λ t. bc.octets (told t) ∙ ab.octets t;
      clock = λ t. bc.clock (told t) ∙ ab.clock t;
      left = λ t m i. (λ l. (ab.left t m i).0 ((bc.left (told t) m i).0 l), λ l. (bc.left (told t) m i).1 ((ab.left t m i).1 l));
      armed = bc.armed ∙ ab.armed;
      off = bc.off ∙ ab.off;
      only_armed = bc.only_armed ∙ ab.only_armed;
      faults = omega (arith, ab.faults, bc.faults);
    }

pub leaves_on : (a b c : Seen) (P Q : List ℕ → Type 0) → ((i : List ℕ) → P i → Q i) → Leaves a b P → Leaves b c Q → Leaves a c Q
leaves_on a b c P Q weak ab bc = record {
  later = omega (arith, ab.later, bc.later);
  since = λ i left. ⊎_elim (λ was. weak i (ab.since i was)) (λ now. now) (bc.before a.clock i ab.later left);
  before = λ m i le left. ⊎_elim (λ was. ⊎_elim (λ w. inl w) (λ p. inr (weak i p)) (ab.before m i le was)) (λ now. inr now) (bc.before m i (omega (arith, le, ab.later)) left);
}

pub leaves_more : (a b : Seen) (P Q : List ℕ → Type 0) → ((i : List ℕ) → P i → Q i) → Leaves a b P → Leaves a b Q
leaves_more a b P Q weak ab = record {
  later = ab.later;
  since = λ i left. weak i (ab.since i left);
  before = λ m i le left. ⊎_elim (λ w. inl w) (λ p. inr (weak i p)) (ab.before m i le left);
}

pub fallen_on : (o : Option Armed) (n k : ℕ) → fallen (fallen o n) k ≡ fallen o (n + k)
fallen_on None n k = refl
fallen_on (Some a) n k =
    let e : a.number - n - k ≡ a.number - (n + k) = omega arith in
    ap (λ (m : ℕ). let x : Armed = record { number = m; pattern = a.pattern } in Some x) e

pub before_on : (o : Option Armed) (n k : ℕ) → IsBefore n o → IsBefore k (fallen o n) → IsBefore (n + k) o
before_on None n k p q = tt
before_on (Some a) n k p q = omega (arith, p, q)

pub before_less : (o : Option Armed) (n k : ℕ) → k ≤ n → IsBefore n o → IsBefore k o
before_less None n k le p = tt
before_less (Some a) n k le p = omega (arith, p, le)

pub told_on : (a b : Seen) → Keeps a b → IsTrue a.told → IsTrue b.told
told_on a b k t = subst (λ (x : Bool). IsTrue x) (sym k.told) t

pub told_back : (a b : Seen) → Keeps a b → IsTrue b.told → IsTrue a.told
told_back a b k t = subst (λ (x : Bool). IsTrue x) k.told t

ticks_on : (c n k : ℕ) → ticks (ticks c n) k ≡ ticks c (n + k)
ticks_on c n k = omega arith

module _ {S : Type 0} (R : Reading S) where
  -- a run, and then a run from where it ended
  pub then_ran : (s : S) (xs ys : List S) (a b c : Seen) → Ran R s xs a b → Ran R (last_of s xs) ys b c → Ran R s (xs ++ ys) a c
  then_ran s xs ys a b c ab bc =
      let sum : length (xs ++ ys) ≡ length xs + length ys = length-append xs ys in
      let reach : IsBefore (length ys) (fallen a.armed (length xs)) = subst (λ (o : Option Armed). IsBefore (length ys) o) ab.armed bc.unreached in
      record {
        keeps = keeps_on a b c ab.keeps bc.keeps;
        was_on = ab.was_on;
        on = bc.on;
        unreached = subst (λ (n : ℕ). IsBefore n a.armed) (sym sum) (before_on a.armed (length xs) (length ys) ab.unreached reach);
        armed = bc.armed ∙ ap (λ (o : Option Armed). fallen o (length ys)) ab.armed ∙ fallen_on a.armed (length xs) (length ys) ∙ ap (λ (n : ℕ). fallen a.armed n) (sym sum);
        clock = λ t. let first = ab.clock t in let second = bc.clock (told_on a b ab.keeps t) in omega (arith, first, second, sum);
        ends = λ t. subst (λ (e : S). R.Is e c.octets) (sym (last_append R s xs ys)) (bc.ends (told_on a b ab.keeps t));
        leaves = λ t. leaves_on a b c _ _ (passing_left R s xs ys) (ab.leaves t) (leaves_more b c _ _ (passing_right R s xs ys) (bc.leaves (told_on a b ab.keeps t)));
        still = λ none. unchanged_on a b c (ab.still (omega (arith, none, sum))) (bc.still (omega (arith, none, sum)));
      }

  -- the states passed in a run and in so many operations after it
  passing_on : (s : S) (xs ys : List S) (j : ℕ) (c : List ℕ) → Passing R s (xs ++ take j ys) c → Passing R s (take (length xs + j) (xs ++ ys)) c
  passing_on s xs ys j c p = subst (λ (l : List S). Passing R s l c) (sym (take-append-add xs ys j)) p

  passing_no_more : (s : S) (xs ys : List S) (j : ℕ) (c : List ℕ) → j ≤ length xs → Passing R s (take j xs) c → Passing R s (take j (xs ++ ys)) c
  passing_no_more s xs ys j c le p = subst (λ (l : List S). Passing R s l c) (sym (take-append-le j xs ys le)) p

  -- a run, and then one that broke
  pub then_broke : (s : S) (xs ys : List S) (a b c : Seen) → Ran R s xs a b → Broke R (last_of s xs) ys b c → Broke R s (xs ++ ys) a c
  then_broke s xs ys a b c ab bc =
      let sum : length (xs ++ ys) ≡ length xs + length ys = length-append xs ys in
      record {
        keeps = keeps_on a b c ab.keeps bc.keeps;
        rose = omega (arith, ab.keeps.faults, bc.rose);
        cause = λ only. bc.cause (subst (λ (x : Bool). IsTrue x) (sym ab.keeps.only_armed) only);
        begun = length xs + bc.begun;
        at_most = omega (arith, bc.at_most, sum);
        clock = λ t. let first = ab.clock t in let second = bc.clock (told_on a b ab.keeps t) in omega (arith, first, second);
        ends = λ t. in_part_right R s xs ys bc.begun c.octets (bc.ends (told_on a b ab.keeps t));
        leaves = λ t. leaves_more a c _ _ (passing_on s xs ys bc.begun)
            (leaves_on a b c _ _ (passing_left R s xs (take bc.begun ys)) (ab.leaves t) (leaves_more b c _ _ (passing_right R s xs (take bc.begun ys)) (bc.leaves (told_on a b ab.keeps t))));
        still = λ none. unchanged_on a b c (ab.still (omega (arith, none))) (bc.still (omega (arith, none)));
        stays_on = λ on.
            let here = bc.stays_on on in
            let reach : IsBefore bc.begun (fallen a.armed (length xs)) = subst (λ (o : Option Armed). IsBefore bc.begun o) ab.armed here.1 in
            (here.0 ∙ ap (λ (o : Option Armed). fallen o bc.begun) ab.armed ∙ fallen_on a.armed (length xs) bc.begun, before_on a.armed (length xs) bc.begun ab.unreached reach);
        went_off = λ was off. gone (bc.went_off ab.on off);
        stays_off = λ off. absurd (cc (off, ab.was_on));
      }
    where
      gone : WentOff R (last_of s xs) ys bc.begun b c → WentOff R s (xs ++ ys) (length xs + bc.begun) a c
      gone w = went a.armed refl
        where
          went : (o : Option Armed) → a.armed ≡ o → WentOff R s (xs ++ ys) (length xs + bc.begun) a c
          went None is = absurd (cc (w.was, ab.armed, ap (λ (q : Option Armed). fallen q (length xs)) is))
          went (Some x) is =
              let y : Armed = record { number = x.number - length xs; pattern = x.pattern } in
              let far : length xs < x.number = subst (λ (q : Option Armed). IsBefore (length xs) q) is ab.unreached in
              let same : Some w.armed ≡ Some y = sym w.was ∙ ab.armed ∙ ap (λ (q : Option Armed). fallen q (length xs)) is in
              let one : w.armed ≡ y = cc same in
              let number : w.armed.number ≡ x.number - length xs = ap (λ (z : Armed). z.number) one in
              let pattern : w.armed.pattern ≡ x.pattern = ap (λ (z : Armed). z.pattern) one in
              record {
                armed = x;
                was = is;
                here = omega (arith, w.here, number, far);
                none = w.none;
                left = λ t.
                    let left = w.left (told_on a b ab.keeps t) in
                    by_pattern_right R s xs ys bc.begun x.pattern c.octets (omega (arith, w.here, number, far)) (subst (λ (p : Pattern). ByPattern R (last_of s xs) ys bc.begun p c.octets) pattern left);
              }

  -- what broke, with operations that were still to come
  pub broke_more : (s : S) (xs ys : List S) (a b : Seen) → Broke R s xs a b → Broke R s (xs ++ ys) a b
  broke_more s xs ys a b ab =
      let sum : length (xs ++ ys) ≡ length xs + length ys = length-append xs ys in
      record {
        keeps = ab.keeps;
        rose = ab.rose;
        cause = ab.cause;
        begun = ab.begun;
        at_most = omega (arith, ab.at_most, sum);
        clock = ab.clock;
        ends = λ t. in_part_left R s xs ys ab.begun b.octets (ab.ends t);
        leaves = λ t. leaves_more a b _ _ (λ c. passing_no_more s xs ys ab.begun c ab.at_most) (ab.leaves t);
        still = ab.still;
        stays_on = ab.stays_on;
        went_off = λ was off.
            let w = ab.went_off was off in
            record { armed = w.armed; was = w.was; here = w.here; none = w.none; left = λ t. by_pattern_left R s xs ys ab.begun w.armed.pattern b.octets ab.at_most (w.left t) };
        stays_off = ab.stays_off;
      }

  -- a run that was ended by something else, with operations that were still to come
  pub stopped_more : (s : S) (xs ys : List S) (a b : Seen) → Stopped R s xs a b → Stopped R s (xs ++ ys) a b
  stopped_more s xs ys a b ab = record {
    done = ab.done;
    at_most = omega (arith, ab.at_most, length-append xs ys);
    ran = subst (λ (l : List S). Ran R s l a b) (sym (take-append-le ab.done xs ys ab.at_most)) ab.ran;
  }

  -- a run, and then one that was ended by something else
  pub then_stopped : (s : S) (xs ys : List S) (a b c : Seen) → Ran R s xs a b → Stopped R (last_of s xs) ys b c → Stopped R s (xs ++ ys) a c
  then_stopped s xs ys a b c ab bc = record {
    done = length xs + bc.done;
    at_most = omega (arith, bc.at_most, length-append xs ys);
    ran = subst (λ (l : List S). Ran R s l a c) (sym (take-append-add xs ys bc.done)) (then_ran s xs (take bc.done ys) a b c ab bc.ran);
  }

  -- no operation
  pub nothing : (s : S) (a b : Seen) → IsSound a → Unchanged a b → a.off ≡ false → (IsTrue a.told → R.Is s a.octets) → Ran R s [] a b
  nothing s a b sound same on here = record {
    keeps = unchanged_keeps a b same;
    was_on = on;
    on = same.off ∙ on;
    unreached = sound.not_past;
    armed = same.armed ∙ fallen_none a.armed;
    clock = λ t. omega (arith, same.clock t, sound.clock_counted t);
    ends = λ t. subst (λ (o : List ℕ). R.Is s o) (sym (same.octets t)) (here t);
    leaves = λ t. record {
      later = omega (arith, same.clock t);
      since = λ c l. subst (λ (o : List ℕ). R.Is s o) (sym (sound.only_now t c ((same.left t a.clock c).0 l))) (here t);
      before = λ m c le l. inl ((same.left t m c).0 l);
    };
    still = λ none. same;
  }
    where
      fallen_none : (o : Option Armed) → o ≡ fallen o 0
      fallen_none None = refl
      fallen_none (Some x) = let e : x.number ≡ x.number - 0 = omega arith in ap (λ (m : ℕ). let y : Armed = record { number = m; pattern = x.pattern } in Some y) e

pub unchanged_same : (a : Seen) → Unchanged a a
unchanged_same a = record { pages = refl; told = refl; octets = λ t. refl; clock = λ t. refl; left = λ t m c. (λ l. l, λ l. l); armed = refl; off = refl; only_armed = refl; faults = omega arith }

-- before the first operation
pub at_start : {S : Type 0} (R : Reading S) (s : S) (a : Seen) → IsSound a → a.off ≡ false → (IsTrue a.told → R.Is s a.octets) → Ran R s [] a a
at_start R s a sound on here = nothing R s a a sound (unchanged_same a) on here

-- a call that something else ended before it began an operation
pub stopped_at_start : {S : Type 0} (R : Reading S) (s : S) (steps : List S) (a b : Seen) → Ran R s [] a b → Stopped R s steps a b
stopped_at_start R s steps a b ran = record { done = 0; at_most = omega arith; ran = ran }
