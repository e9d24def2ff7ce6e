-- What waits for the addresses of a link in memory, when a datagram is added and when some are passed.
use Rattle.std.proofs.Common.{◌≡◌, ℕ, zero, suc, ◌+◌, ◌<◌, ◌≤◌, ◌==◌, ◌&&◌, Bool, true, false, cond, Option, Some, None, List, [], ◌∷◌, ◌++◌, length, drop, get_or, refl, sym, ◌∙◌, ap, subst, arith, add-one, eq-eqb, ◌⊎◌, inl, inr}
use Rattle.std.specs.Prelude.{IfSome}
use Rattle.std.specs.Option.{option_to_list}
use Rattle.std.proofs.lemmas.Bool.{ne_eqb, cases_eq}
use Rattle.std.proofs.lemmas.List.{drop-append-le}
use Rattle.std.proofs.Math.Seq.{drop-cons, drop-length}
use Rattle.std.proofs.Math.ListN.{set}
use Rattle.mu_outside.specs.RamLink.{goes_to, waiting, ahead, passed, is_posted, IsPost}
use Rattle.mu_outside.specs.declared.ram_link.Datagram.{Datagram}
use Rattle.mu_outside.specs.declared.ram_link.Post.{Post}

-- what waits of one datagram
abbrev pub reached : Bool → List ℕ → List (List ℕ)
reached b octets = cond b (octets ∷ []) []

-- a datagram more, last
pub waiting_more : (a : ℕ) (ds : List Datagram) (d : Datagram) → waiting a (ds ++ d ∷ []) ≡ waiting a ds ++ reached (goes_to a d.from d.to) d.octets.items
waiting_more a [] d = refl
waiting_more a (e ∷ ds) d =
    let tail = reached (goes_to a d.from d.to) d.octets.items in
    elim (goes_to a e.from e.to) as (λ b. cond b (e.octets.items ∷ waiting a (ds ++ d ∷ [])) (waiting a (ds ++ d ∷ [])) ≡ cond b (e.octets.items ∷ waiting a ds) (waiting a ds) ++ tail) [
      | true ↦ ap (λ l. e.octets.items ∷ l) (waiting_more a ds d)
      | false ↦ waiting_more a ds d
    ]

pub ahead_more : (a : ℕ) (ds : List Datagram) (d : Datagram) (n : Option ℕ) → IfSome n (λ k. k ≤ length ds) → ahead a (ds ++ d ∷ []) n ≡ ahead a ds n ++ reached (is_posted n && goes_to a d.from d.to) d.octets.items
ahead_more a ds d None within = refl
ahead_more a ds d (Some n) within =
    ap (waiting a) (drop-append-le n ds (d ∷ []) within) ∙ waiting_more a (drop n ds) d

-- the datagram at a place goes to the address, or it doesn't
module _ (a : ℕ) (ds : List Datagram) (i : ℕ) (d : Datagram) (lt : i < length ds) where
  next : waiting a (drop i ds) ≡ cond (goes_to a (get_or ds i d).from (get_or ds i d).to) ((get_or ds i d).octets.items ∷ waiting a (drop (i + 1) ds)) (waiting a (drop (i + 1) ds))
  next = ap (waiting a) (drop-cons ds i d lt ∙ ap (λ (k : ℕ). get_or ds i d ∷ drop k ds) (sym (add-one i)))

  pub waits_here : goes_to a (get_or ds i d).from (get_or ds i d).to ≡ true → waiting a (drop i ds) ≡ (get_or ds i d).octets.items ∷ waiting a (drop (i + 1) ds)
  waits_here is = next ∙ ap (λ (b : Bool). cond b ((get_or ds i d).octets.items ∷ waiting a (drop (i + 1) ds)) (waiting a (drop (i + 1) ds))) is

  pub waits_later : goes_to a (get_or ds i d).from (get_or ds i d).to ≡ false → waiting a (drop i ds) ≡ waiting a (drop (i + 1) ds)
  waits_later is = next ∙ ap (λ (b : Bool). cond b ((get_or ds i d).octets.items ∷ waiting a (drop (i + 1) ds)) (waiting a (drop (i + 1) ds))) is

test : (p : Post) (a : ℕ) (n : Option ℕ) (b : Bool) → (p.addr == a) ≡ b → cond (p.addr == a) (Some p.passed) n ≡ cond b (Some p.passed) n
test p a n b is = ap (λ (c : Bool). cond c (Some p.passed) n) is

-- no post has the address
pub passed_none : (ps : List Post) (a : ℕ) → ((q : Post) (j : ℕ) → j < length ps → (get_or ps j q).addr ≡ a → ⊥) → passed ps a ≡ None
passed_none [] a none = refl
passed_none (p ∷ ps) a none =
    test p a (passed ps a) false (ne_eqb p.addr a (none p zero (omega arith))) ∙ passed_none ps a (λ q j lt. none q (suc j) (omega (arith, lt)))

-- the first post with the address
pub passed_at : (ps : List Post) (a k : ℕ) (d : Post) → k < length ps → (get_or ps k d).addr ≡ a → ((j : ℕ) → j < k → (get_or ps j d).addr ≡ a → ⊥) → passed ps a ≡ Some (get_or ps k d).passed
passed_at [] a k d lt is none = absurd (omega (arith, lt))
passed_at (p ∷ ps) a zero d lt is none = test p a (passed ps a) true (eq-eqb p.addr a is)
passed_at (p ∷ ps) a (suc k) d lt is none =
    test p a (passed ps a) false (ne_eqb p.addr a (none zero (omega arith))) ∙ passed_at ps a k d (omega (arith, lt)) is (λ j j_lt. none (suc j) (omega (arith, j_lt)))

-- it is replaced by one with the same address
pub passed_set_here : (ps : List Post) (a k : ℕ) (d q : Post) → k < length ps → q.addr ≡ a → ((j : ℕ) → j < k → (get_or ps j d).addr ≡ a → ⊥) → passed (set ps k q) a ≡ Some q.passed
passed_set_here [] a k d q lt is none = absurd (omega (arith, lt))
passed_set_here (p ∷ ps) a zero d q lt is none = test q a (passed ps a) true (eq-eqb q.addr a is)
passed_set_here (p ∷ ps) a (suc k) d q lt is none =
    test p a (passed (set ps k q) a) false (ne_eqb p.addr a (none zero (omega arith))) ∙ passed_set_here ps a k d q (omega (arith, lt)) is (λ j j_lt. none (suc j) (omega (arith, j_lt)))

pub passed_set_other : (ps : List Post) (a b k : ℕ) (d q : Post) → (get_or ps k d).addr ≡ a → q.addr ≡ a → (b ≡ a → ⊥) → passed (set ps k q) b ≡ passed ps b
passed_set_other [] a b k d q was is other = refl
passed_set_other (p ∷ ps) a b zero d q was is other =
    test q b (passed ps b) false (ne_eqb q.addr b (λ e. other (sym e ∙ is))) ∙ sym (test p b (passed ps b) false (ne_eqb p.addr b (λ e. other (sym e ∙ was))))
passed_set_other (p ∷ ps) a b (suc k) d q was is other =
    ap (λ (n : Option ℕ). cond (p.addr == b) (Some p.passed) n) (passed_set_other ps a b k d q was is other)

-- a post more, last
pub passed_more_here : (ps : List Post) (q : Post) → passed ps q.addr ≡ None → passed (ps ++ q ∷ []) q.addr ≡ Some q.passed
passed_more_here [] q none = test q q.addr None true (eq-eqb q.addr q.addr refl)
passed_more_here (p ∷ ps) q none =
    elim (p.addr == q.addr) as (λ (b : Bool). cond b (Some p.passed) (passed ps q.addr) ≡ None → cond b (Some p.passed) (passed (ps ++ q ∷ []) q.addr) ≡ Some q.passed) [
      | true ↦ λ e. absurd (cc e)
      | false ↦ λ e. passed_more_here ps q e
    ] none

pub passed_more_other : (ps : List Post) (q : Post) (b : ℕ) → (b ≡ q.addr → ⊥) → passed (ps ++ q ∷ []) b ≡ passed ps b
passed_more_other [] q b other = test q b None false (ne_eqb q.addr b (λ e. other (sym e)))
passed_more_other (p ∷ ps) q b other = ap (λ (n : Option ℕ). cond (p.addr == b) (Some p.passed) n) (passed_more_other ps q b other)

-- no address has more datagrams behind it than there are
pub passed_within : (ps : List Post) (n : ℕ) (a : ℕ) → ((k : ℕ) (d : Post) → k < length ps → (get_or ps k d).passed ≤ n) → IfSome (passed ps a) (λ k. k ≤ n)
passed_within [] n a all = tt
passed_within (p ∷ ps) n a all =
    elim (p.addr == a) as (λ (b : Bool). IfSome (cond b (Some p.passed) (passed ps a)) (λ k. k ≤ n)) [
      | true ↦ all zero p (omega arith)
      | false ↦ passed_within ps n a (λ k d lt. all (suc k) d (omega (arith, lt)))
    ]

-- an address passes what it takes
module _ (a k : ℕ) (posts : List Post) (sent : List Datagram) (post : IsPost posts a k) (p q : Post) (p_is : p ≡ get_or posts k p) (q_is : q.addr ≡ a) where
  pub was_at : passed posts a ≡ Some p.passed
  was_at = passed_at posts a k p post.within (post.here p) (post.none_before p) ∙ ap (λ (x : Post). Some x.passed) (sym p_is)

  now_at : passed (set posts k q) a ≡ Some q.passed
  now_at = passed_set_here posts a k p q post.within q_is (post.none_before p)

  pub took_here : (found : Option (List ℕ)) → waiting a (drop p.passed sent) ≡ option_to_list found ++ waiting a (drop q.passed sent) → ahead a sent (passed posts a) ≡ option_to_list found ++ ahead a sent (passed (set posts k q) a)
  took_here found step =
      ap (λ (n : Option ℕ). ahead a sent n) was_at ∙ step ∙ ap (λ (n : Option ℕ). option_to_list found ++ ahead a sent n) (sym now_at)

  others : (b : ℕ) → (b ≡ a → ⊥) → passed (set posts k q) b ≡ passed posts b
  others b other = passed_set_other posts a b k p q (post.here p) q_is other

  pub took_others : (b : ℕ) → (b ≡ a → ⊥) → ahead b sent (passed (set posts k q) b) ≡ ahead b sent (passed posts b)
  took_others b other = ap (λ (n : Option ℕ). ahead b sent n) (others b other)

  pub took_next : ahead a sent (passed posts a) ≡ waiting a (drop p.passed sent)
  took_next = ap (λ (n : Option ℕ). ahead a sent n) was_at

  bound : (b : ℕ) → (b ≡ a) ⊎ (b ≡ a → ⊥) → is_posted (passed (set posts k q) b) ≡ is_posted (passed posts b)
  bound b (inl is) = subst (λ (c : ℕ). is_posted (passed (set posts k q) c) ≡ is_posted (passed posts c)) (sym is) (ap is_posted now_at ∙ sym (ap is_posted was_at))
  bound b (inr other) = ap is_posted (others b other)

  pub took_bound : (b : ℕ) → is_posted (passed (set posts k q) b) ≡ is_posted (passed posts b)
  took_bound b = bound b (cases_eq b a)

-- nothing is left behind the end
pub none_left : (a : ℕ) (ds : List Datagram) (n : ℕ) → n ≡ length ds → waiting a (drop n ds) ≡ []
none_left a ds n is = ap (λ (k : ℕ). waiting a (drop k ds)) is ∙ ap (waiting a) (drop-length ds)

-- an address that is bound now has nothing ahead
module _ (posts : List Post) (q : Post) (sent : List Datagram) (none : passed posts q.addr ≡ None) where
  pub bound_here : is_posted (passed (posts ++ q ∷ []) q.addr) ≡ true
  bound_here = ap is_posted (passed_more_here posts q none)

  waits : q.passed ≡ length sent → (b : ℕ) → (b ≡ q.addr) ⊎ (b ≡ q.addr → ⊥) → ahead b sent (passed (posts ++ q ∷ []) b) ≡ ahead b sent (passed posts b)
  waits all b (inl is) =
      subst (λ (c : ℕ). ahead c sent (passed (posts ++ q ∷ []) c) ≡ ahead c sent (passed posts c)) (sym is)
      (ap (λ (n : Option ℕ). ahead q.addr sent n) (passed_more_here posts q none) ∙ none_left q.addr sent q.passed all ∙ sym (ap (λ (n : Option ℕ). ahead q.addr sent n) none))
  waits all b (inr other) = ap (λ (n : Option ℕ). ahead b sent n) (passed_more_other posts q b other)

  pub waits_same : q.passed ≡ length sent → (b : ℕ) → ahead b sent (passed (posts ++ q ∷ []) b) ≡ ahead b sent (passed posts b)
  waits_same all b = waits all b (cases_eq b q.addr)

-- what was found at a place waits first there
pub found_at : (a : ℕ) (ds : List Datagram) (i : ℕ) (d : Datagram) → ((e : Datagram) → i < length ds → goes_to a (get_or ds i e).from (get_or ds i e).to ≡ true) → i < length ds → d ≡ get_or ds i d → waiting a (drop i ds) ≡ d.octets.items ∷ waiting a (drop (i + 1) ds)
found_at a ds i d goes lt is =
    waits_here a ds i d lt (goes d lt) ∙ ap (λ (e : Datagram). e.octets.items ∷ waiting a (drop (i + 1) ds)) (sym is)
