-- The list of chunks that receivers miss or want, and where a list begins.
use Rattle.std.proofs.Common.{◌≡◌, ◌<◌, ℕ, suc, List, [], ◌∷◌, ◌++◌, refl, sym, ap, ◌∙◌, false, Bool, Option, Some, None, map, length, arith}
use Rattle.std.specs.Prelude.{slice_index_or, IfSome}
use Rattle.std.specs.Option.{MatchOption}
use Rattle.std.specs.List.{flat_map, range_with_len}
use Rattle.std.proofs.Math.Path.{fun_ext}
use Rattle.mu_model_wire.specs.Reports.{has}
use Rattle.mu_model_client.specs.declared.Sending.{Sending}
use Rattle.mu_model_client.specs.Client.{Receiver, Item, Sends, chunk_total}
use Rattle.mu_model_client.specs.Lists.{lacking_if, lacks_chunk, lacking, chunk_items}
use Rattle.mu_model_client.specs.Going.{is_empty}
use Rattle.mu_receivers.specs.declared.slot.Slot.{Slot}
use Rattle.mu_receivers.specs.declared.lists.Spot.{Spot}
use Rattle.mu_receivers.specs.declared.lists.Cursor.{Cursor}
use Rattle.mu_receivers.specs.Receivers.{receiver_of, receivers_of}
use Rattle.mu_receivers.specs.Slots.{Each, IsAsked}
use Rattle.mu_receivers.specs.Chunks.{asking, goals, rest, items_of}
use Rattle.mu_receivers.proofs.Lines.{whole_list}

asks : (which : Receiver → List Bool) (k : ℕ) (olds news : List Slot) → length news ≡ length olds
    → ((i : ℕ) (d : Slot) → i < length olds → IsAsked which (slice_index_or olds i d) (slice_index_or news i d))
    → asking news k ≡ lacking which (receivers_of olds) k
asks which k [] [] long each = refl
asks which k [] (new ∷ news) long each = absurd (omega arith)
asks which k (old ∷ olds) [] long each = absurd (omega arith)
asks which k (old ∷ olds) (new ∷ news) long each =
    let here : IsAsked which old new = each 0 old (omega arith) in
    ap (λ x. lacking_if x (has new.asked k) ++ asking news k) here.address
    ∙ ap (λ x. lacking_if old.address x ++ asking news k) (here.chunks k)
    ∙ ap (λ x. lacking_if old.address (lacks_chunk which k (receiver_of old)) ++ x) (asks which k olds news (omega (arith, long)) (λ i d lt. each (suc i) d (omega (arith, lt))))

pub asked_list : (which : Receiver → List Bool) (olds news : List Slot) → Each (IsAsked which) olds news → (p : Sending) (b : ℕ)
    → rest p.group b (chunk_total p b) news 0 0 ≡ chunk_items p b which (receivers_of olds)
asked_list which olds news all p b =
    whole_list p.group b (chunk_total p b) news
    ∙ ap (λ f. flat_map f (range_with_len 0 (chunk_total p b)))
    (fun_ext (λ k. ap (λ to. map (λ to. Sends to b k) (goals p.group to)) (asks which k olds news all.long all.each)))

-- ---- where a list begins

none_left : (b : ℕ) (next : Option Cursor) (spots : List Spot) (all : List Item) (left : Cursor → List Item) → spots ≡ []
    → MatchOption next (items_of b spots ≡ all) (λ at. items_of b spots ++ left at ≡ all) → IfSome next (λ at. length spots ≡ 16) → all ≡ []
none_left b None spots all left e list full = sym list ∙ ap (items_of b) e
none_left b (Some at) spots all left e list full = absurd (omega (arith, full, ap (length {A = Spot}) e))

has_items : (spots : List Spot) (b : ℕ) (more : List Item) → (spots ≡ [] → ⊥) → is_empty (items_of b spots ++ more) ≡ false
has_items [] b more some = absurd (some refl)
has_items (spot ∷ spots) b more some = refl

has_some : (spots : List Spot) (b : ℕ) → (spots ≡ [] → ⊥) → is_empty (items_of b spots) ≡ false
has_some [] b some = absurd (some refl)
has_some (spot ∷ spots) b some = refl

some_left : (b : ℕ) (next : Option Cursor) (spots : List Spot) (all : List Item) (left : Cursor → List Item) → (spots ≡ [] → ⊥)
    → MatchOption next (items_of b spots ≡ all) (λ at. items_of b spots ++ left at ≡ all) → is_empty all ≡ false
some_left b None spots all left some list = ap is_empty (sym list) ∙ has_some spots b some
some_left b (Some at) spots all left some list = ap is_empty (sym list) ∙ has_items spots b (left at) some

pub nothing_found : (group b n : ℕ) (slots : List Slot) (next : Option Cursor) (spots : List Spot) → spots ≡ []
    → MatchOption next (items_of b spots ≡ rest group b n slots 0 0) (λ at. items_of b spots ++ rest group b n slots at.chunk at.receiver ≡ rest group b n slots 0 0)
    → IfSome next (λ at. length spots ≡ 16) → rest group b n slots 0 0 ≡ []
nothing_found group b n slots next spots e list full = none_left b next spots (rest group b n slots 0 0) (λ at. rest group b n slots at.chunk at.receiver) e list full

pub something_found : (group b n : ℕ) (slots : List Slot) (next : Option Cursor) (spots : List Spot) → (spots ≡ [] → ⊥)
    → MatchOption next (items_of b spots ≡ rest group b n slots 0 0) (λ at. items_of b spots ++ rest group b n slots at.chunk at.receiver ≡ rest group b n slots 0 0)
    → is_empty (rest group b n slots 0 0) ≡ false
something_found group b n slots next spots some list = some_left b next spots (rest group b n slots 0 0) (λ at. rest group b n slots at.chunk at.receiver) some list
