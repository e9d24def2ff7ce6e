-- What a Partial Block Report makes of a receiver.
use Rattle.std.proofs.Common.{◌≡◌, ◌∙◌, sym, ap, subst, refl, ℕ, true, false, Bool, List, [], ◌∷◌, length, arith}
use Rattle.std.specs.Prelude.{◌==◌, if◌then◌else◌}
use Rattle.std.proofs.lemmas.Bool.{false≢true, ne_eqb}
use Rattle.mu_model_wire.specs.Reports.{no_number, union}
use Rattle.mu_model_client.specs.Sets.{set_of, all_below}
use Rattle.mu_model_client.specs.declared.Sending.{Sending}
use Rattle.mu_model_client.specs.Client.{Receiver, chunk_total}
use Rattle.mu_model_client.specs.Answers.{PartIs}
use Rattle.mu_model_client.specs.Told.{answered, with_chunks, hears, part_told, on_pull}
use Rattle.mu_receivers.specs.Receivers.{receiver_of}
use Rattle.mu_receivers.specs.Slots.{KeepsList, IsFew}
use Rattle.mu_receivers.specs.declared.slot.Slot.{Slot}
use Rattle.mu_told.specs.Told.{IsTold, WantsOf}

pub told_then : (f g : Receiver → Receiver) (a b c : Slot) → IsTold f a b → IsTold g b c → IsTold (λ r. g (f r)) a c
told_then f g a b c first second = record {
  receiver = second.receiver ∙ ap g first.receiver;
  list = record {
    address = second.list.address ∙ first.list.address;
    index = second.list.index ∙ first.list.index;
    message = second.list.message ∙ first.list.message;
    chunks = second.list.chunks ∙ first.list.chunks;
  };
  few = λ few. second.few (first.few few);
}

told_as : (f g : Receiver → Receiver) (a b : Slot) → ((r : Receiver) → f r ≡ g r) → IsTold f a b → IsTold g a b
told_as f g a b same told = record { receiver = told.receiver ∙ same (receiver_of a); list = told.list; few = told.few }

pub wants_same : (n m : ℕ) (a b : Slot) → receiver_of b ≡ hears (receiver_of a) → n ≡ m → WantsOf n (receiver_of a) → WantsOf m (receiver_of b)
wants_same n m a b heard e wants =
    let same : (receiver_of b).wanted ≡ (receiver_of a).wanted = ap (λ (r : Receiver). r.wanted) heard in
    subst (λ k. WantsOf k (receiver_of b)) e (λ some. ap (length {A = Bool}) same ∙ wants (omega (arith, some, ap (length {A = Bool}) same)))

pub no_chunks : (xs : List ℕ) (x : Bool) → x ≡ (length xs == 0) → x ≡ true → xs ≡ []
no_chunks [] x e holds = refl
no_chunks (k ∷ ks) x e holds = absurd (false≢true (sym (ne_eqb (length (k ∷ ks)) 0 (λ z. absurd (omega (arith, z)))) ∙ sym e ∙ holds))

pub some_chunks : (xs : List ℕ) (x : Bool) → x ≡ (length xs == 0) → x ≡ false → xs ≡ [] → ⊥
some_chunks xs x e fails none = false≢true (sym fails ∙ e ∙ ap (λ (ys : List ℕ). length ys == 0) none)

none_wanted : (p : Sending) (b : ℕ) (chunks : List ℕ) (r : Receiver) → chunks ≡ [] → answered (with_chunks b (no_number (chunk_total p b)) (hears r)) ≡ on_pull p b r (PartIs chunks)
none_wanted p b chunks r e = sym (ap (λ xs. on_pull p b r (PartIs xs)) e)

some_wanted : (p : Sending) (b : ℕ) (chunks : List ℕ) (r : Receiver) → (chunks ≡ [] → ⊥) → all_below (chunk_total p b) chunks ≡ true
    → record (hears r) { wanted = union (set_of (chunk_total p b) chunks) (hears r).wanted } ≡ on_pull p b r (PartIs chunks)
some_wanted p b [] r some below = absurd (some refl)
some_wanted p b (k ∷ ks) r some below = sym (ap (λ x. if x then part_told (chunk_total p b) b r (k ∷ ks) else r) below)

-- all of the block is held
pub part_none : (p : Sending) (b total : ℕ) (chunks : List ℕ) (set : List Bool) (a h c d : Slot) → total ≡ chunk_total p b → chunks ≡ [] → set ≡ no_number total
    → IsTold hears a h → IsTold (with_chunks b set) h c → IsTold answered c d → IsTold (λ r. on_pull p b r (PartIs chunks)) a d
part_none p b total chunks set a h c d is e none heard held over =
    told_as (λ r. answered (with_chunks b (no_number (chunk_total p b)) (hears r))) (λ r. on_pull p b r (PartIs chunks)) a d (λ r. none_wanted p b chunks r e)
    (subst (λ s. IsTold (λ r. answered (with_chunks b s (hears r))) a d) (none ∙ ap no_number is)
    (told_then (λ r. with_chunks b set (hears r)) answered a c d (told_then hears (with_chunks b set) a h c heard held) over))

-- or these are wanted
pub part_some : (p : Sending) (b total : ℕ) (chunks : List ℕ) (numbers : List Bool) (a h d : Slot) → total ≡ chunk_total p b → (chunks ≡ [] → ⊥) → true ≡ all_below total chunks → numbers ≡ set_of total chunks
    → IsTold hears a h → IsTold (λ r. record r { wanted = union numbers r.wanted }) h d → IsTold (λ r. on_pull p b r (PartIs chunks)) a d
part_some p b total chunks numbers a h d is some below set heard wanted =
    told_as (λ r. record (hears r) { wanted = union (set_of (chunk_total p b) chunks) (hears r).wanted }) (λ r. on_pull p b r (PartIs chunks)) a d
    (λ r. some_wanted p b chunks r some (ap (λ n. all_below n chunks) (sym is) ∙ sym below))
    (subst (λ s. IsTold (λ r. record (hears r) { wanted = union s (hears r).wanted }) a d) (set ∙ ap (λ n. set_of n chunks) is)
    (told_then hears (λ r. record r { wanted = union numbers r.wanted }) a h d heard wanted))
