-- A list of chunks, item by item.
use Rattle.std.proofs.Common.{subst, ◌≡◌, ◌<◌, ◌+◌, ◌-◌, ◌==◌, ℕ, zero, suc, get_or, List, [], ◌∷◌, ◌++◌, refl, sym, ap, ◌∙◌, true, false, Bool, arith, map, drop, length, append_assoc}
use Rattle.std.specs.Prelude.{◌≤◌, if◌then◌else◌}
use Rattle.std.specs.List.{flat_map, range_with_len}
use Rattle.std.proofs.lemmas.Grind.{common_steps}
use Rattle.std.proofs.lemmas.Bool.{ne_eqb, false≢true}
use Rattle.std.proofs.lemmas.List.{drop_all, drop_more, map-append}
use Rattle.mu_model_wire.specs.Reports.{has}
use Rattle.mu_model_client.specs.Client.{Item, Sends}
use Rattle.mu_model_client.specs.Lists.{lacking_if, to_group}
use Rattle.mu_model_client.specs.Going.{is_empty}
use Rattle.mu_receivers.specs.declared.slot.Slot.{Slot}
use Rattle.mu_receivers.specs.declared.lists.Spot.{Spot}
use Rattle.mu_receivers.specs.Chunks.{AreBelow, item_of, items_of, asking, goals, line, rest_from, rest}

-- the receivers from place i on begin with the one there
pub from_here : (slots : List Slot) (i : ℕ) (s : Slot) → i < length slots → s ≡ get_or slots i s → drop i slots ≡ s ∷ drop (i + 1) slots
from_here slots i s lt is = drop_more slots i s lt ∙ ap (λ x. x ∷ drop (i + 1) slots) (sym is)

pub skips : (group b k : ℕ) (s : Slot) (ss : List Slot) → has s.asked k ≡ false → line group b k (s ∷ ss) ≡ line group b k ss
skips group b k s ss e = ap (λ x. map (λ to. Sends to b k) (goals group (lacking_if s.address x ++ asking ss k))) e

alone : (group : ℕ) (to : List ℕ) → group ≡ 0 → goals group to ≡ to
alone group to e = ap (λ g. goals g to) e

grouped : (group : ℕ) (to : List ℕ) → (group ≡ 0 → ⊥) → goals group to ≡ to_group group to
grouped group to ne = ap (λ x. if x then to else to_group group to) (ne_eqb group 0 ne)

pub sends_one : (group b k : ℕ) (s : Slot) (ss : List Slot) → group ≡ 0 → has s.asked k ≡ true → line group b k (s ∷ ss) ≡ Sends s.address b k ∷ line group b k ss
sends_one group b k s ss none e =
    ap (map (λ to. Sends to b k)) (alone group _ none) ∙ ap (λ x. map (λ to. Sends to b k) (lacking_if s.address x ++ asking ss k)) e
    ∙ ap (λ x. Sends s.address b k ∷ map (λ to. Sends to b k) x) (sym (alone group _ none))

pub sends_all : (group b k : ℕ) (s : Slot) (ss : List Slot) → (group ≡ 0 → ⊥) → has s.asked k ≡ true → line group b k (s ∷ ss) ≡ Sends group b k ∷ []
sends_all group b k s ss some e =
    ap (map (λ to. Sends to b k)) (grouped group _ some) ∙ ap (λ x. map (λ to. Sends to b k) (to_group group (lacking_if s.address x ++ asking ss k))) e

none_or : (group : ℕ) (x : Bool) → (if x then [] else to_group group []) ≡ []
none_or group true = refl
none_or group false = refl

pub nobody : (group b k : ℕ) → line group b k [] ≡ []
nobody group b k = ap (map (λ to. Sends to b k)) (none_or group (group == 0))

some_or : (group b k : ℕ) (to : ℕ) (more : List ℕ) (x : Bool) → is_empty (map (λ to. Sends to b k) (if x then to ∷ more else to_group group (to ∷ more))) ≡ false
some_or group b k to more true = refl
some_or group b k to more false = refl

-- a receiver that the list has the chunk for makes the line not empty
pub someone : (group b k : ℕ) (slots : List Slot) (i : ℕ) (s : Slot) → i < length slots → s ≡ get_or slots i s → has s.asked k ≡ true
    → is_empty (line group b k (drop i slots)) ≡ false
someone group b k slots i s lt is e =
    ap (λ x. is_empty (line group b k x)) (from_here slots i s lt is)
    ∙ ap (λ x. is_empty (map (λ to. Sends to b k) (goals group (lacking_if s.address x ++ asking (drop (i + 1) slots) k)))) e
    ∙ some_or group b k s.address (asking (drop (i + 1) slots) k) (group == 0)

-- ---- along the receivers

pub skipped : (group b k : ℕ) (slots : List Slot) (i : ℕ) (s : Slot) → i < length slots → s ≡ get_or slots i s → has s.asked k ≡ false
    → line group b k (drop i slots) ≡ line group b k (drop (i + 1) slots)
skipped group b k slots i s lt is e = ap (line group b k) (from_here slots i s lt is) ∙ skips group b k s (drop (i + 1) slots) e

pub pushed : (b : ℕ) (spots : List Spot) (spot : Spot) (items : List Item) → items_of b (spots ++ spot ∷ []) ++ items ≡ items_of b spots ++ (item_of b spot ∷ items)
pushed b spots spot items = ap (λ x. x ++ items) (map-append (item_of b) spots (spot ∷ [])) ∙ append_assoc (items_of b spots) _ items

pub behind : (slots : List Slot) (i : ℕ) → length slots ≤ i → drop i slots ≡ []
behind slots i le = drop_all i slots le

pub sent_one : (group b k : ℕ) (slots : List Slot) (i : ℕ) (s : Slot) (spots : List Spot) → i < length slots → s ≡ get_or slots i s → group ≡ 0 → has s.asked k ≡ true
    → items_of b (spots ++ record { to = s.address; chunk = k } ∷ []) ++ line group b k (drop (i + 1) slots) ≡ items_of b spots ++ line group b k (drop i slots)
sent_one group b k slots i s spots lt is none e =
    pushed b spots _ _ ∙ ap (λ x. items_of b spots ++ x) (sym (ap (line group b k) (from_here slots i s lt is) ∙ sends_one group b k s (drop (i + 1) slots) none e))

pub sent_all : (group b k : ℕ) (slots : List Slot) (i : ℕ) (s : Slot) (spots : List Spot) → i < length slots → s ≡ get_or slots i s → (group ≡ 0 → ⊥) → has s.asked k ≡ true
    → items_of b (spots ++ record { to = group; chunk = k } ∷ []) ++ line group b k (drop (length slots) slots) ≡ items_of b spots ++ line group b k (drop i slots)
sent_all group b k slots i s spots lt is some e =
    ap (λ x. items_of b (spots ++ record { to = group; chunk = k } ∷ []) ++ line group b k x) (behind slots (length slots) (omega arith))
    ∙ pushed b spots _ _ ∙ ap (λ x. items_of b spots ++ (Sends group b k ∷ x)) (nobody group b k)
    ∙ ap (λ x. items_of b spots ++ x) (sym (ap (line group b k) (from_here slots i s lt is) ∙ sends_all group b k s (drop (i + 1) slots) some e))

-- ---- from chunk to chunk

starts : (group b : ℕ) (ss : List Slot) (ks : List ℕ) → rest_from group b ss 0 ks ≡ flat_map (λ k. line group b k ss) ks
starts group b ss [] = refl
starts group b ss (k ∷ ks) = refl

-- a whole list
pub whole_list : (group b n : ℕ) (ss : List Slot) → rest group b n ss 0 0 ≡ flat_map (λ k. line group b k ss) (range_with_len 0 n)
whole_list group b n ss =
    let e : n - 0 ≡ n = omega arith in
    ap (λ m. rest_from group b ss 0 (range_with_len 0 m)) e ∙ starts group b ss (range_with_len 0 n)

pub over : (group b n : ℕ) (ss : List Slot) (k i : ℕ) → n ≤ k → rest group b n ss k i ≡ []
over group b n ss k i le = let z : n - k ≡ 0 = omega (arith, le) in ap (λ m. rest_from group b ss i (range_with_len k m)) z

opens : (group b n : ℕ) (ss : List Slot) (k i m : ℕ) → n - k ≡ suc m → rest group b n ss k i ≡ line group b k (drop i ss) ++ flat_map (λ k. line group b k ss) (range_with_len (k + 1) m)
opens group b n ss k i m e = ap (λ m. rest_from group b ss i (range_with_len k m)) e

-- the items of chunk k, and then those from the next chunk on
pub at_chunk : (group b n : ℕ) (ss : List Slot) (k i : ℕ) → k < n → rest group b n ss k i ≡ line group b k (drop i ss) ++ rest group b n ss (k + 1) 0
at_chunk group b n ss k i lt =
    let m = n - (k + 1) in
    let e : n - k ≡ suc m = omega (arith, lt) in
    opens group b n ss k i m e ∙ ap (λ x. line group b k (drop i ss) ++ x) (sym (starts group b ss (range_with_len (k + 1) m)))

filled : (items more : List Item) → is_empty items ≡ false → is_empty (items ++ more) ≡ false
filled [] more e = absurd (false≢true (sym e))
filled (item ∷ items) more e = refl

-- what is left isn't empty where its first line isn't
pub is_more : (group b n : ℕ) (ss : List Slot) (k i : ℕ) → k < n → is_empty (line group b k (drop i ss)) ≡ false → is_empty (rest group b n ss k i) ≡ false
is_more group b n ss k i lt some = ap is_empty (at_chunk group b n ss k i lt) ∙ filled (line group b k (drop i ss)) (rest group b n ss (k + 1) 0) some

pub passes : (group b n : ℕ) (ss : List Slot) (k i : ℕ) → k < n → line group b k (drop i ss) ≡ [] → rest group b n ss k i ≡ rest group b n ss (k + 1) 0
passes group b n ss k i lt e = at_chunk group b n ss k i lt ∙ ap (λ x. x ++ rest group b n ss (k + 1) 0) e

pub unmissed : (group b k : ℕ) (ss : List Slot) → asking ss k ≡ [] → line group b k ss ≡ []
unmissed group b k ss e = ap (λ x. map (λ to. Sends to b k) (goals group x)) e ∙ nobody group b k

pub leaps : (group b n : ℕ) (ss : List Slot) (d k : ℕ) → k + d ≤ n → ((m : ℕ) → k ≤ m → m < k + d → asking ss m ≡ [])
    → rest group b n ss (k + d) 0 ≡ rest group b n ss k 0
leaps group b n ss zero k le none = let e : k + 0 ≡ k = omega arith in ap (λ x. rest group b n ss x 0) e
leaps group b n ss (suc d) k le none =
    let e : k + suc d ≡ (k + 1) + d = omega arith in
    ap (λ x. rest group b n ss x 0) e
    ∙ leaps group b n ss d (k + 1) (omega (arith, le)) (λ m a z. none m (omega (arith, a)) (omega (arith, z)))
    ∙ sym (passes group b n ss k 0 (omega (arith, le)) (unmissed group b k ss (none k (omega arith) (omega arith))))

-- chunk k is done, and the list goes on at the next chunk that it has
pub chunk_done : (group b n : ℕ) (slots : List Slot) (k i j next : ℕ) (olds news : List Item) → k < n → length slots ≤ j → k + 1 ≤ next → next ≤ n
    → ((m : ℕ) → k + 1 ≤ m → m < next → asking slots m ≡ [])
    → news ++ line group b k (drop j slots) ≡ olds ++ line group b k (drop i slots)
    → news ++ rest group b n slots next 0 ≡ olds ++ rest group b n slots k i
chunk_done group b n slots k i j next olds news lt end from most none same =
    let d = next - (k + 1) in
    let e : next ≡ (k + 1) + d = omega (arith, from) in
    let more = rest group b n slots (k + 1) 0 in
    let leap : rest group b n slots next 0 ≡ more = ap (λ x. rest group b n slots x 0) e ∙ leaps group b n slots d (k + 1) (omega (arith, from, most)) (λ m a z. none m a (omega (arith, z, e))) in
    let nothing : line group b k (drop j slots) ≡ [] = ap (line group b k) (behind slots j end) ∙ nobody group b k in
    ap (λ x. news ++ x) (leap ∙ sym (ap (λ x. x ++ more) nothing))
    ∙ sym (append_assoc news (line group b k (drop j slots)) more)
    ∙ ap (λ x. x ++ more) same
    ∙ append_assoc olds (line group b k (drop i slots)) more
    ∙ ap (λ x. olds ++ x) (sym (at_chunk group b n slots k i lt))

pub pushed_below : (m : ℕ) (spots more : List Spot) (spot : Spot) → more ≡ spots ++ spot ∷ [] → AreBelow m spots → spot.chunk < m → AreBelow m more
pushed_below m spots more spot is all lt = subst (AreBelow m) (sym is) (grind (arith, common_steps, all, lt))
