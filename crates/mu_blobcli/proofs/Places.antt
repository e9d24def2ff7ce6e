-- The chunks that a list has, chunk by chunk.
use Rattle.std.proofs.Common.{◌≡◌, ◌≤◌, ◌<◌, ◌+◌, ◌-◌, ◌==◌, ℕ, suc, List, [], ◌∷◌, ◌++◌, refl, sym, ap, ◌∙◌, inl, inr, true, false, Bool, map, drop, length, set, get_or, arith}
use Rattle.std.specs.Prelude.{◌&&◌, ◌||◌, if◌then◌else◌}
use Rattle.std.specs.List.{flat_map, list_any, range_with_len}
use Rattle.std.proofs.lemmas.Bool.{cases_eq, ne_eqb}
use Rattle.std.proofs.lemmas.Bool.Decides.{nat_tests}
use Rattle.std.proofs.lemmas.List.{ext_get_or, length-set, get_or-set_same, get_or-set_other}
use Rattle.std.proofs.lemmas.List.Folds.{list_any-append}
use Rattle.std.proofs.lemmas.List.FromFn.{get_or-map-range_with_len, length-map-range_with_len}
use Rattle.mu_model_wire.specs.Reports.{has}
use Rattle.mu_model_client.specs.Client.{Item, Sends}
use Rattle.mu_model_client.specs.Lists.{lacking_if, to_group}
use Rattle.mu_model_client.specs.Begin.{is_chunk, wanted_below}
use Rattle.mu_receivers.specs.declared.slot.Slot.{Slot}
use Rattle.mu_receivers.specs.Chunks.{asking, goals, line, rest_from, rest}
use Rattle.mu_blobcli.specs.Wanted.{is_asked}

-- ---- from chunk to chunk

starts : (group b : ℕ) (ss : List Slot) (ks : List ℕ) → rest_from group b ss 0 ks ≡ flat_map (λ k. line group b k ss) ks
starts group b ss [] = refl
starts group b ss (k ∷ ks) = refl

opens : (group b n : ℕ) (ss : List Slot) (k i m : ℕ) → n - k ≡ suc m → rest group b n ss k i ≡ line group b k (drop i ss) ++ flat_map (λ k. line group b k ss) (range_with_len (k + 1) m)
opens group b n ss k i m e = ap (λ m. rest_from group b ss i (range_with_len k m)) e

at_chunk : (group b n : ℕ) (ss : List Slot) (k i : ℕ) → k < n → rest group b n ss k i ≡ line group b k (drop i ss) ++ rest group b n ss (k + 1) 0
at_chunk group b n ss k i lt =
    let m = n - (k + 1) in
    let e : n - k ≡ suc m = omega (arith, lt) in
    opens group b n ss k i m e ∙ ap (λ x. line group b k (drop i ss) ++ x) (sym (starts group b ss (range_with_len (k + 1) m)))

over : (group b n : ℕ) (ss : List Slot) (k i : ℕ) → n ≤ k → rest group b n ss k i ≡ []
over group b n ss k i le = let z : n - k ≡ 0 = omega (arith, le) in ap (λ m. rest_from group b ss i (range_with_len k m)) z

-- ---- whether chunk j is in a line

some_in : List ℕ → Bool
some_in [] = false
some_in (to ∷ more) = true

and_false : (x : Bool) → (x && false) ≡ false
and_false true = refl
and_false false = refl

absorbs : (x y : Bool) → (x || (x && y)) ≡ (x && true)
absorbs true y = refl
absorbs false y = refl

any_to : (b k j : ℕ) (tos : List ℕ) → list_any (is_chunk j) (map (λ to. Sends to b k) tos) ≡ ((k == j) && some_in tos)
unfolding some_in
any_to b k j [] = sym (and_false (k == j))
any_to b k j (to ∷ tos) = ap (λ x. (k == j) || x) (any_to b k j tos) ∙ absorbs (k == j) (some_in tos)

some_either : (group : ℕ) (tos : List ℕ) (x : Bool) → some_in (if x then tos else to_group group tos) ≡ some_in tos
unfolding some_in
some_either group tos true = refl
some_either group [] false = refl
some_either group (to ∷ more) false = refl

some_lacking : (address : ℕ) (x : Bool) (more : List ℕ) → some_in (lacking_if address x ++ more) ≡ (x || some_in more)
unfolding some_in
some_lacking address true more = refl
some_lacking address false more = refl

some_asking : (ss : List Slot) (k : ℕ) → some_in (asking ss k) ≡ list_any (λ (s : Slot). has s.asked k) ss
unfolding some_in
some_asking [] k = refl
some_asking (s ∷ ss) k = some_lacking s.address (has s.asked k) (asking ss k) ∙ ap (λ x. has s.asked k || x) (some_asking ss k)

any_line : (group b k j : ℕ) (ss : List Slot) → list_any (is_chunk j) (line group b k ss) ≡ ((k == j) && list_any (λ (s : Slot). has s.asked k) ss)
any_line group b k j ss =
    any_to b k j (goals group (asking ss k)) ∙ ap (λ x. (k == j) && x) (some_either group (asking ss k) (group == 0) ∙ some_asking ss k)

any_rest : (group b n k i j : ℕ) (ss : List Slot) → k < n
    → list_any (is_chunk j) (rest group b n ss k i) ≡ (((k == j) && is_asked ss i k) || list_any (is_chunk j) (rest group b n ss (k + 1) 0))
any_rest group b n k i j ss lt =
    ap (list_any (is_chunk j)) (at_chunk group b n ss k i lt)
    ∙ list_any-append (is_chunk j) (line group b k (drop i ss)) (rest group b n ss (k + 1) 0)
    ∙ ap (λ x. x || list_any (is_chunk j) (rest group b n ss (k + 1) 0)) (any_line group b k j (drop i ss))

-- ---- the set so far, and the rest

eq_same : (k : ℕ) → (k == k) ≡ true
eq_same k = grind (arith, nat_tests)

has_set : (s : List Bool) (k j : ℕ) → k < length s → has (set s k true) j ≡ ((k == j) || has s j)
has_set s k j lt = elim (cases_eq j k) [
  | inl same ↦
      ap (λ x. get_or (set s k true) x false) same ∙ get_or-set_same s k true false lt
      ∙ sym (ap (λ x. (k == x) || has s x) same ∙ ap (λ x. x || has s k) (eq_same k))
  | inr other ↦
      get_or-set_other s k j true false other
      ∙ sym (ap (λ x. x || has s j) (ne_eqb k j (λ e. other (sym e))))
]

takes_in : (x y z : Bool) → (x || ((y && true) || z)) ≡ ((y || x) || z)
takes_in true true z = refl
takes_in true false z = refl
takes_in false true z = refl
takes_in false false z = refl

leaves_out : (x y z : Bool) → (x || ((y && false) || z)) ≡ (x || z)
leaves_out true y z = refl
leaves_out false true z = refl
leaves_out false false z = refl

one_more : (s : List Bool) (k j : ℕ) (x z : Bool) → k < length s → (has s j || (((k == j) && x) || z)) ≡ (has (if x then set s k true else s) j || z)
one_more s k j true z lt = takes_in (has s j) (k == j) z ∙ ap (λ y. y || z) (sym (has_set s k j lt))
one_more s k j false z lt = leaves_out (has s j) (k == j) z

-- what is wanted is in the set, or in the rest from here on
pub next_wanted : (group b n k i : ℕ) (ss : List Slot) (s t : List Bool) (all : ℕ → Bool) → k < n → length s ≡ n
    → t ≡ (if is_asked ss i k then set s k true else s)
    → ((j : ℕ) → all j ≡ (has s j || list_any (is_chunk j) (rest group b n ss k i)))
    → (j : ℕ) → all j ≡ (has t j || list_any (is_chunk j) (rest group b n ss (k + 1) 0))
next_wanted group b n k i ss s t all lt long is so j =
    so j ∙ ap (λ x. has s j || x) (any_rest group b n k i j ss lt)
    ∙ one_more s k j (is_asked ss i k) (list_any (is_chunk j) (rest group b n ss (k + 1) 0)) (omega (arith, lt, long))
    ∙ ap (λ x. has x j || list_any (is_chunk j) (rest group b n ss (k + 1) 0)) (sym is)

either_long : (s : List Bool) (k : ℕ) (x : Bool) → length (if x then set s k true else s) ≡ length s
either_long s k true = length-set s k true
either_long s k false = refl

pub next_long : (s t : List Bool) (k n : ℕ) (x : Bool) → t ≡ (if x then set s k true else s) → length s ≡ n → length t ≡ n
next_long s t k n x is long = ap (length {A = Bool}) is ∙ either_long s k x ∙ long

or_nothing : (x : Bool) → (x || false) ≡ x
or_nothing true = refl
or_nothing false = refl

pub all_wanted : (group b n k i : ℕ) (ss : List Slot) (queue : List Item) (s : List Bool) → n ≤ k → length s ≡ n
    → ((j : ℕ) → list_any (is_chunk j) queue ≡ (has s j || list_any (is_chunk j) (rest group b n ss k i))) → s ≡ wanted_below n queue
all_wanted group b n k i ss queue s le long so =
    let count : length (wanted_below n queue) ≡ n = length-map-range_with_len (λ j. list_any (is_chunk j) queue) 0 n in
    ext_get_or false s (wanted_below n queue) (long ∙ sym count)
    (λ j below.
    sym (get_or-map-range_with_len (λ j. list_any (is_chunk j) queue) 0 n j j false (omega (arith, below, long)) (omega arith)
    ∙ so j ∙ ap (λ x. has s j || list_any (is_chunk j) x) (over group b n ss k i le) ∙ or_nothing (has s j)))
