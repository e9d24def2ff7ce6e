-- What holds of the receivers at each place, over all; and the lists that they make.
use Rattle.std.proofs.Common.{◌≡◌, ◌≤◌, ◌<◌, ◌+◌, ◌-◌, ℕ, suc, List, [], ◌∷◌, ◌++◌, refl, sym, ap, ◌∙◌, Bool, Option, inl, inr, map, take, drop, set, length, subst, arith}
use Rattle.std.specs.Prelude.{slice_index_or, ◌||◌}
use Rattle.std.specs.List.{flat_map, list_any, range_with_len}
use Rattle.std.proofs.Math.Path.{fun_ext}
use Rattle.std.proofs.lemmas.Bool.{cases_eq}
use Rattle.std.proofs.lemmas.List.{drop-map, drop_all, take_all, append-nil, get_or-set_same, get_or-set_other, get_or_default}
use Rattle.std.proofs.lemmas.List.Folds.{flat_map-map}
use Rattle.mu_model_wire.specs.Reports.{has}
use Rattle.mu_model_node.specs.NodeMessages.{Request}
use Rattle.mu_model_client.specs.Client.{Receiver, Sends, is_pending}
use Rattle.mu_model_client.specs.Lists.{messages, said_if, lacking_if}
use Rattle.mu_receivers.specs.declared.slot.Slot.{Slot}
use Rattle.mu_receivers.specs.Receivers.{receiver_of, receivers_of}
use Rattle.mu_receivers.specs.Slots.{Each, AreFew}
use Rattle.mu_receivers.specs.Chunks.{asking, goals, line, rest_from, rest}

-- a function of the one and a function of the other are the same at each place
pub record Agree {A : Type 0} (f g : Slot → A) (old new : Slot) : Type 0 where
  pub same : f new ≡ g old

pub each_map : {A : Type 0} (f g : Slot → A) (olds news : List Slot) → length news ≡ length olds
    → ((k : ℕ) (d : Slot) → k < length olds → f (slice_index_or news k d) ≡ g (slice_index_or olds k d)) → map f news ≡ map g olds
each_map f g [] [] long each = refl
each_map f g [] (new ∷ news) long each = absurd (omega arith)
each_map f g (old ∷ olds) [] long each = absurd (omega arith)
each_map f g (old ∷ olds) (new ∷ news) long each =
    ap (λ x. x ∷ map f news) (each 0 old (omega arith)) ∙ ap (λ x. g old ∷ x) (each_map f g olds news (omega (arith, long)) (λ k d lt. each (suc k) d (omega (arith, lt))))

pub each_flat : {A : Type 0} (f g : Slot → List A) (olds news : List Slot) → length news ≡ length olds
    → ((k : ℕ) (d : Slot) → k < length olds → f (slice_index_or news k d) ≡ g (slice_index_or olds k d)) → flat_map f news ≡ flat_map g olds
each_flat f g [] [] long each = refl
each_flat f g [] (new ∷ news) long each = absurd (omega arith)
each_flat f g (old ∷ olds) [] long each = absurd (omega arith)
each_flat f g (old ∷ olds) (new ∷ news) long each =
    ap (λ x. x ++ flat_map f news) (each 0 old (omega arith)) ∙ ap (λ x. g old ++ x) (each_flat f g olds news (omega (arith, long)) (λ k d lt. each (suc k) d (omega (arith, lt))))

pub map_map : {A B C : Type 0} (f : B → C) (g : A → B) (xs : List A) → map f (map g xs) ≡ map (λ x. f (g x)) xs
map_map f g [] = refl
map_map f g (x ∷ xs) = ap (λ y. f (g x) ∷ y) (map_map f g xs)

-- all receivers after a change of each
pub receivers_are : (R : Slot → Slot → Type 0) (f : Receiver → Receiver) (olds news : List Slot) → Each R olds news
    → ((old new : Slot) → R old new → receiver_of new ≡ f (receiver_of old)) → receivers_of news ≡ map f (receivers_of olds)
receivers_are R f olds news all one =
    each_map receiver_of (λ s. f (receiver_of s)) olds news all.long (λ k d lt. one (slice_index_or olds k d) (slice_index_or news k d) (all.each k d lt))
    ∙ sym (map_map f receiver_of olds)

pub receivers_stay : (R : Slot → Slot → Type 0) (olds news : List Slot) → Each R olds news
    → ((old new : Slot) → R old new → receiver_of new ≡ receiver_of old) → receivers_of news ≡ receivers_of olds
receivers_stay R olds news all one =
    each_map receiver_of receiver_of olds news all.long (λ k d lt. one (slice_index_or olds k d) (slice_index_or news k d) (all.each k d lt))

pub each_then : (R S T : Slot → Slot → Type 0) (xs ys zs : List Slot) → Each R xs ys → Each S ys zs
    → ((x y z : Slot) → R x y → S y z → T x z) → Each T xs zs
each_then R S T xs ys zs first second both = record {
  long = second.long ∙ first.long;
  each = λ k d lt. both (slice_index_or xs k d) (slice_index_or ys k d) (slice_index_or zs k d) (first.each k d lt) (second.each k d (omega (arith, lt, first.long)));
}

pub each_so : (R S : Slot → Slot → Type 0) (xs ys : List Slot) → Each R xs ys → ((x y : Slot) → R x y → S x y) → Each S xs ys
each_so R S xs ys all one = record {
  long = all.long;
  each = λ k d lt. one (slice_index_or xs k d) (slice_index_or ys k d) (all.each k d lt);
}

pub each_self : (R : Slot → Slot → Type 0) (xs : List Slot) → ((x : Slot) → R x x) → Each R xs xs
each_self R xs one = record { long = refl; each = λ k d lt. one (slice_index_or xs k d) }

-- ---- lists of messages

-- a list of messages is one over the receivers that are kept
pub messages_are : (message : Receiver → Option Request) (slots : List Slot)
    → messages message (receivers_of slots) ≡ flat_map (λ (s : Slot). said_if (receiver_of s) (message (receiver_of s)) s.pending) slots
messages_are message slots = flat_map-map (λ r. said_if r (message r) (is_pending r)) receiver_of slots

pub any_map : (p : Receiver → Bool) (slots : List Slot) → list_any p (receivers_of slots) ≡ list_any (λ s. p (receiver_of s)) slots
any_map p [] = refl
any_map p (s ∷ slots) = ap (λ x. p (receiver_of s) || x) (any_map p slots)

-- ---- lists of chunks

-- all that a list of chunks looks at
pub record Key : Type 0 where
  pub to : ℕ
  pub asked : List Bool

pub key_of : Slot → Key
key_of s = record { to = s.address; asked = s.asked }

pub keys_stay : (R : Slot → Slot → Type 0) (olds news : List Slot) → Each R olds news
    → ((old new : Slot) → R old new → key_of new ≡ key_of old) → map key_of news ≡ map key_of olds
keys_stay R olds news all one = each_map key_of key_of olds news all.long (λ k d lt. one (slice_index_or olds k d) (slice_index_or news k d) (all.each k d lt))

pub key_same : (old new : Slot) → new.address ≡ old.address → new.asked ≡ old.asked → key_of new ≡ key_of old
unfolding key_of
key_same old new to asked = ap (λ x. record { to = x; asked = new.asked }) to ∙ ap (λ x. record { to = old.address; asked = x }) asked

asking_by : (slots : List Slot) (k : ℕ) → asking slots k ≡ flat_map (λ (x : Key). lacking_if x.to (has x.asked k)) (map key_of slots)
unfolding key_of
asking_by slots k = sym (flat_map-map (λ (x : Key). lacking_if x.to (has x.asked k)) (λ (s : Slot). record { to = s.address; asked = s.asked }) slots)

line_same : (group b k : ℕ) (olds news : List Slot) → map key_of news ≡ map key_of olds → line group b k news ≡ line group b k olds
line_same group b k olds news same =
    ap (λ to. map (λ to. Sends to b k) (goals group to))
    (asking_by news k ∙ ap (flat_map (λ (x : Key). lacking_if x.to (has x.asked k))) same ∙ sym (asking_by olds k))

dropped_same : (i : ℕ) (olds news : List Slot) → map key_of news ≡ map key_of olds → map key_of (drop i news) ≡ map key_of (drop i olds)
dropped_same i olds news same = sym (drop-map key_of i news) ∙ ap (drop i) same ∙ drop-map key_of i olds

from_same : (group b : ℕ) (olds news : List Slot) (i : ℕ) (ks : List ℕ) → map key_of news ≡ map key_of olds → rest_from group b news i ks ≡ rest_from group b olds i ks
from_same group b olds news i [] same = refl
from_same group b olds news i (k ∷ ks) same =
    ap (λ x. x ++ flat_map (λ k. line group b k news) ks) (line_same group b k (drop i olds) (drop i news) (dropped_same i olds news same))
    ∙ ap (λ f. line group b k (drop i olds) ++ flat_map f ks) (fun_ext (λ k. line_same group b k olds news same))

pub rest_same : (group b n : ℕ) (olds news : List Slot) (k i : ℕ) → map key_of news ≡ map key_of olds → rest group b n news k i ≡ rest group b n olds k i
rest_same group b n olds news k i same = from_same group b olds news i (range_with_len k (n - k)) same

-- ---- receivers that were written

pub refilled : (olds held news : List Slot) → held ≡ olds → length news ≡ length held → take (length olds) (news ++ drop (length news) olds) ≡ news
refilled olds held news same long =
    let all : length news ≡ length olds = long ∙ ap (length {A = Slot}) same in
    ap (λ x. take (length olds) (news ++ x)) (drop_all (length news) olds (omega (arith, all))) ∙ ap (take (length olds)) (append-nil news) ∙ take_all (length olds) news (omega (arith, all))

pub each_written : (R : Slot → Slot → Type 0) (olds held news : List Slot) → held ≡ olds → Each R held news → Each R olds (take (length olds) (news ++ drop (length news) olds))
each_written R olds held news same all = subst (λ x. Each R olds x) (sym (refilled olds held news same all.long)) (subst (λ x. Each R x news) same all)

pub few_held : (olds held : List Slot) → held ≡ olds → AreFew olds → AreFew held
few_held olds held same few = subst AreFew (sym same) few

pub few_written : (olds held news : List Slot) → held ≡ olds → length news ≡ length held → AreFew news → AreFew (take (length olds) (news ++ drop (length news) olds))
few_written olds held news same long few = subst AreFew (sym (refilled olds held news same long)) few

-- one more receiver was written
pub each_next : (R : Slot → Slot → Type 0) (olds slots : List Slot) (i : ℕ) (old new : Slot) → i < length slots → i < length olds → old ≡ slice_index_or slots i old → R old new
    → ((k : ℕ) (d : Slot) → k < i → R (slice_index_or olds k d) (slice_index_or slots k d))
    → ((k : ℕ) (d : Slot) → i ≤ k → slice_index_or slots k d ≡ slice_index_or olds k d)
    → (k : ℕ) (d : Slot) → k < i + 1 → R (slice_index_or olds k d) (slice_index_or (set slots i new) k d)
each_next R olds slots i old new inside within is one done rest k d lt = elim (cases_eq k i) [
  | inl same ↦
      let there : slice_index_or (set slots i new) k d ≡ new = ap (λ x. slice_index_or (set slots i new) x d) same ∙ get_or-set_same slots i new d inside in
      let here : slice_index_or olds k d ≡ old =
      ap (λ x. slice_index_or olds x d) same ∙ sym (rest i d (omega arith)) ∙ get_or_default slots i d old inside ∙ sym is in
      subst (λ x. R x (slice_index_or (set slots i new) k d)) (sym here) (subst (λ x. R old x) (sym there) one)
  | inr other ↦
      subst (λ x. R (slice_index_or olds k d) x) (sym (get_or-set_other slots i k new d other)) (done k d (omega (arith, lt, other)))
]
