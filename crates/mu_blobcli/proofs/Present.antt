-- The chunks that the present list has.
use Rattle.std.proofs.Common.{◌≡◌, ◌+◌, ℕ, zero, suc, List, [], ◌∷◌, refl, sym, ap, ◌∙◌, true, false, Bool, Option, Some, None}
use Rattle.std.specs.Prelude.{◌||◌, replicate, map}
use Rattle.std.specs.List.{list_any, range_with_len}
use Rattle.std.proofs.lemmas.List.Folds.{list_any-append}
use Rattle.mu_model_node.specs.NodeMessages.{Request}
use Rattle.mu_model_client.specs.declared.Sending.{Sending}
use Rattle.mu_model_client.specs.Client.{Receiver, Purpose, Step, Place, Before, At, Verified, Ended, Item, chunk_total}
use Rattle.mu_model_client.specs.Lists.{said_if}
use Rattle.mu_model_client.specs.Begin.{is_chunk, wanted_below}
use Rattle.mu_receivers.specs.declared.slot.Slot.{Slot}
use Rattle.mu_receivers.specs.Receivers.{receiver_of}
use Rattle.mu_receivers.specs.Messages.{list_message, listed, messages_left}
use Rattle.mu_rounds.specs.After.{block_at}
use Rattle.mu_rounds.specs.Rounds.{client_of, queue_of, HasShape}
use Rattle.mu_rounds.specs.declared.left.Left.{Left}
use Rattle.mu_rounds.specs.declared.rounds.Rounds.{Rounds}

-- ---- messages have no chunk

one_says : (j : ℕ) (r : Receiver) (request : Option Request) (x : Bool) → list_any (is_chunk j) (said_if r request x) ≡ false
one_says j r None true = refl
one_says j r (Some request) true = refl
one_says j r request false = refl

no_chunk : (p : Sending) (purpose : Purpose) (step : Step) (slots : List Slot) (j : ℕ) → list_any (is_chunk j) (messages_left p purpose step slots) ≡ false
no_chunk p purpose step [] j = refl
no_chunk p purpose step (s ∷ slots) j =
    list_any-append (is_chunk j) (listed p purpose step s) (messages_left p purpose step slots)
    ∙ ap (λ x. x || list_any (is_chunk j) (messages_left p purpose step slots)) (one_says j (receiver_of s) (list_message p purpose step (receiver_of s)) s.listed)
    ∙ no_chunk p purpose step slots j

none_in : (f : ℕ → Bool) (a n : ℕ) → ((j : ℕ) → f j ≡ false) → replicate n false ≡ map f (range_with_len a n)
none_in f a zero none = refl
none_in f a (suc n) none = ap (λ x. x ∷ replicate n false) (sym (none a)) ∙ ap (λ xs. f a ∷ xs) (none_in f (a + 1) n none)

nothing_wanted : (n : ℕ) (queue : List Item) → ((j : ℕ) → list_any (is_chunk j) queue ≡ false) → replicate n false ≡ wanted_below n queue
nothing_wanted n queue none = none_in (λ j. list_any (is_chunk j) queue) 0 n none

same_block : (a b : ℕ) → Some a ≡ Some b → a ≡ b
same_block a b e = cc

says_alone : (p : Sending) (purpose : Purpose) (slots : List Slot) (place : Place) (b j : ℕ) → block_at place ≡ Some b → list_any (is_chunk j) (queue_of p purpose slots None place) ≡ false
says_alone p purpose slots (At step) b j e = no_chunk p purpose step slots j
says_alone p purpose slots (Before step) b j e = refl
says_alone p purpose slots Verified b j e = refl
says_alone p purpose slots (Ended part) b j e = refl

pub none_left : (r : Rounds) (b : ℕ) → r.left ≡ None → block_at r.place ≡ Some b → replicate (chunk_total r.sending b) false ≡ wanted_below (chunk_total r.sending b) (client_of r).queue
none_left r b none at =
    nothing_wanted (chunk_total r.sending b) (client_of r).queue
    (λ j. ap (λ x. list_any (is_chunk j) (queue_of r.sending r.purpose r.slots.items x r.place)) none ∙ says_alone r.sending r.purpose r.slots.items r.place b j at)

-- ---- chunks that are left

-- the chunks that are left are of this block
pub left_chunks : (r : Rounds) (b : ℕ) (left : Left) → HasShape r → r.left ≡ Some left → block_at r.place ≡ Some b → left.chunks ≡ chunk_total r.sending b
left_chunks r b left shape some at =
    let fits = shape.left left some in
    fits.chunks ∙ ap (chunk_total r.sending) (same_block left.block b (sym fits.block ∙ at))
