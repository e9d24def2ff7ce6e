-- What an Update Start offers is in its ranges where its payload has octets.
use Rattle.std.proofs.Common.{arith, ◌≡◌, ℕ, zero, suc, ◌<◌, ◌==◌, Bool, true, false, cond, List, [], ◌∷◌, ◌++◌, refl, subst, Option, Some, None, Result, Ok, Err}
use Rattle.std.proofs.lemmas.Bool.{eqb-true}
use Rattle.std.proofs.lemmas.List.Elements.{All-from_get_or}
use Rattle.std.specs.List.{All}
use Rattle.mu_model_image.specs.declared.Meta.{Meta}
use Rattle.mu_model_image.specs.Laws.{MetaThatIsReadIsInRange}
use Rattle.mu_model_image.specs.Meta.{IsMeta, meta_from}
use Rattle.mu_model_wire.specs.Fields.{Shown, number, octets, Message}
use Rattle.mu_model_wire.specs.Laws.{AreOctets, GrammarHolds, ReadsWhatIsSpelled}
use Rattle.mu_model_wire.specs.Names.{metadata}
use Rattle.mu_model_wire.specs.Reading.{message_at, fields_of}
use Rattle.mu_model_wire.specs.Spelling.{opcode_spelling, Fits, FieldsFit, RowFits}
use Rattle.mu_model_wire.specs.Spells.{FieldsSpell, RowSpells, Spells}
use Rattle.mu_model_wire.specs.Table.{rows}
use Rattle.mu_model_wire.specs.Update.{update_start}
use Rattle.mu_model_wire.specs.declared.Refusal.{Refusal}
use Rattle.mu_model_node.specs.BlobMessages.{BlobRequest, octets_of, blob_request_of}
use Rattle.mu_model_node.specs.NodeMessages.{Request, OfUpdate, either_request, request_in, request_at}
use Rattle.mu_model_node.specs.UpdateMessages.{UpdateStart, UpdateRequest, StartUpdate, update_request_of}

-- ---- octets

left_octets : (a b : List ℕ) → AreOctets (a ++ b) → AreOctets a
left_octets [] b h i = omega arith
left_octets (x ∷ a) b h zero = h 0
left_octets (x ∷ a) b h (suc i) = left_octets a b (λ k. h (suc k)) i

right_octets : (a b : List ℕ) → AreOctets (a ++ b) → AreOctets b
right_octets [] b h = h
right_octets (x ∷ a) b h = right_octets a b (λ k. h (suc k))

all_octets : (xs : List ℕ) → AreOctets xs → All (λ octet. octet < 256) xs
all_octets xs h = All-from_get_or (λ octet. octet < 256) xs 0 (λ i below. h i)

-- ---- an Update Start

-- what is read of these octets as metadata is in its ranges
abbrev Fit : List ℕ → Type 0
Fit os = (meta : Meta) → meta_from os ≡ Some meta → IsMeta meta

-- its metadata are octets of its payload
start_octets : (a v b w c x d y e : ℕ) (os : List ℕ) (more : List Shown) (entries : List (List Shown)) (body : List ℕ) → FieldsSpell update_start [] (number a v ∷ number b w ∷ number c x ∷ number d y ∷ octets e os ∷ more) entries body → AreOctets body → AreOctets os
start_octets a v b w c x d y e os more entries body h k =
    let one : AreOctets h.1 = right_octets h.0 h.1 (subst AreOctets h.2 k) in
    let two : AreOctets h.4.1 = right_octets h.4.0 h.4.1 (subst AreOctets h.4.2 one) in
    let three : AreOctets h.4.4.1 = right_octets h.4.4.0 h.4.4.1 (subst AreOctets h.4.4.2 two) in
    let four : AreOctets h.4.4.4.1 = right_octets h.4.4.4.0 h.4.4.4.1 (subst AreOctets h.4.4.4.2 three) in
    subst AreOctets h.4.4.4.4 four

start_fits : MetaThatIsReadIsInRange → (fields : List Shown) (entries : List (List Shown)) (body : List ℕ) → FieldsFit update_start [] fields entries → FieldsSpell update_start [] fields entries body → AreOctets body → Fit (octets_of metadata fields)
start_fits law (number a v ∷ number b w ∷ number c x ∷ number d y ∷ octets e os ∷ []) entries body h spells k =
    let own : AreOctets os = start_octets a v b w c x d y e os [] entries body spells k in
    rw (h.1.1.1.1.0.0) (λ meta is. law os meta (all_octets os own) is)
start_fits law [] entries body h spells k = absurd h.0
start_fits law (octets a v ∷ more) entries body h spells k = absurd h.0
start_fits law (number a v ∷ []) entries body h spells k = absurd h.1.0
start_fits law (number a v ∷ octets b w ∷ more) entries body h spells k = absurd h.1.0
start_fits law (number a v ∷ number b w ∷ []) entries body h spells k = absurd h.1.1.0
start_fits law (number a v ∷ number b w ∷ octets c x ∷ more) entries body h spells k = absurd h.1.1.0
start_fits law (number a v ∷ number b w ∷ number c x ∷ []) entries body h spells k = absurd h.1.1.1.0
start_fits law (number a v ∷ number b w ∷ number c x ∷ octets d y ∷ more) entries body h spells k = absurd h.1.1.1.0
start_fits law (number a v ∷ number b w ∷ number c x ∷ number d y ∷ []) entries body h spells k = absurd h.1.1.1.1.0
start_fits law (number a v ∷ number b w ∷ number c x ∷ number d y ∷ number e z ∷ more) entries body h spells k = absurd h.1.1.1.1.0
start_fits law (number a v ∷ number b w ∷ number c x ∷ number d y ∷ octets e os ∷ f ∷ more) entries body h spells k = absurd h.1.1.1.1.0

-- ---- by the opcode

-- what the octets of a message are
record IsRead (m : Message) (bytes : List ℕ) : Type 0 where
  fits : Fits rows m
  spells : Spells rows bytes m
  are : AreOctets bytes

start_row : MetaThatIsReadIsInRange → (m : Message) (bytes : List ℕ) → IsRead m bytes → (m.opcode == 0x830D) ≡ true → Fit (octets_of metadata m.fields)
start_row law m bytes h e =
    let same : m.opcode ≡ 0x830D = eqb-true m.opcode 0x830D e in
    let fits : FieldsFit update_start [] m.fields m.entries = subst (λ o. RowFits (fields_of rows o) m) same h.fits.0 in
    let spells : RowSpells (fields_of rows 0x830D) m bytes = subst (λ o. RowSpells (fields_of rows o) m bytes) same h.spells in
    start_fits law m.fields m.entries spells.0 fits spells.2 (right_octets (opcode_spelling m.opcode) spells.0 (subst AreOctets spells.1 h.are))

abbrev UpdateFits : Option UpdateRequest → Type 0
UpdateFits (Some (StartUpdate u)) = Fit u.metadata
UpdateFits _ = Unit {0}

tested : (b : Bool) (x y : Option UpdateRequest) → (b ≡ true → UpdateFits x) → UpdateFits y → UpdateFits (cond b x y)
tested true x y h k = h refl
tested false x y h k = k

update_fits : MetaThatIsReadIsInRange → (m : Message) (bytes : List ℕ) → IsRead m bytes → UpdateFits (update_request_of m)
update_fits law m bytes h =
    tested (m.opcode == 0x8308) _ _ (λ e. tt)
    (tested (m.opcode == 0x830A) _ _ (λ e. tt)
    (tested (m.opcode == 0x830C) _ _ (λ e. tt)
    (tested (m.opcode == 0x830D) _ _ (λ e. start_row law m bytes h e)
    (tested (m.opcode == 0x830E) _ _ (λ e. tt)
    (tested (m.opcode == 0x830F) _ _ (λ e. tt) tt)))))

abbrev RequestFits : Option Request → Type 0
RequestFits (Some (OfUpdate request)) = UpdateFits (Some request)
RequestFits _ = Unit {0}

either_fits : (x : Option UpdateRequest) (y : Option BlobRequest) → UpdateFits x → RequestFits (either_request x y)
either_fits (Some request) y h = h
either_fits None (Some request) h = tt
either_fits None None h = tt

read_fits : MetaThatIsReadIsInRange → (payload : List ℕ) (r : Result Message Refusal) → message_at rows payload ≡ r → ((m : Message) → message_at rows payload ≡ Ok m → IsRead m payload) → RequestFits (request_in r)
read_fits law payload (Ok m) e f = either_fits (update_request_of m) (blob_request_of m) (update_fits law m payload (f m e))
read_fits law payload (Err x) e f = tt

-- the metadata of each Update Start in octets are in their ranges
abbrev pub OctetsOfferInRange : Type 0
OctetsOfferInRange =
    (payload : List ℕ) (u : UpdateStart) (meta : Meta) → AreOctets payload → request_at payload ≡ Some (OfUpdate (StartUpdate u)) → meta_from u.metadata ≡ Some meta → IsMeta meta

pub octets_offer : GrammarHolds → ReadsWhatIsSpelled → MetaThatIsReadIsInRange → OctetsOfferInRange
octets_offer grammar reads law payload u meta are s =
    let fits : RequestFits (request_at payload) = read_fits law payload (message_at rows payload) refl (λ m e. let k = (reads rows payload m grammar are).0 e in record { fits = k.0; spells = k.1; are = are }) in
    (subst RequestFits s fits) meta
