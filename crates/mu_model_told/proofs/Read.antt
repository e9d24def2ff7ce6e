-- What octets say to a node is in the ranges of the grammar.
use Rattle.std.proofs.Common.{◌≡◌, ◌<◌, ℕ, Bool, true, false, List, [], ◌∷◌, refl, subst, cond, Option, Some, None, Result, Ok, Err}
use Rattle.std.specs.Prelude.{◌==◌, MatchOption}
use Rattle.std.proofs.lemmas.Bool.{eqb-true}
use Rattle.mu_model_wire.specs.declared.Refusal.{Refusal}
use Rattle.mu_model_wire.specs.Fields.{Shown, number, octets, Message}
use Rattle.mu_model_wire.specs.Names.{ttl, base, id, index, first, metadata}
use Rattle.mu_model_wire.specs.Update.{information_get, update_start}
use Rattle.mu_model_wire.specs.Reading.{value_of, message_at, fields_of}
use Rattle.mu_model_wire.specs.Spelling.{Fits, FieldsFit, RowFits}
use Rattle.mu_model_wire.specs.Laws.{GrammarHolds, ReadsWhatIsSpelled}
use Rattle.mu_model_wire.specs.Table.{rows}
use Rattle.mu_model_node.specs.BlobMessages.{BlobRequest, octets_of, blob_request_of}
use Rattle.mu_model_node.specs.UpdateMessages.{UpdateStart, UpdateRequest, update_request_of}
use Rattle.mu_model_node.specs.NodeMessages.{either_request, request_in}
use Rattle.mu_model_told.specs.Laws.{AreStartNumbers, AreUpdateNumbers, AreRequestNumbers, OctetsSayNumbers}

abbrev start_of : List Shown → UpdateStart
start_of fields = record { ttl = value_of ttl fields; base = value_of base fields; id = value_of id fields; index = value_of index fields; metadata = octets_of metadata fields }

start_fits : (fields : List Shown) (entries : List (List Shown)) → FieldsFit update_start [] fields entries → AreStartNumbers (start_of fields)
start_fits (number a v ∷ number b w ∷ number c x ∷ number d y ∷ more) entries h =
    rw (h.0.0, h.1.0.0, h.1.1.0.0, h.1.1.1.0.0) (record { ttl = h.0.1; base = h.1.0.1; id = h.1.1.0.1; index = h.1.1.1.0.1 })
start_fits [] entries h = absurd h.0
start_fits (octets a v ∷ more) entries h = absurd h.0
start_fits (number a v ∷ []) entries h = absurd h.1.0
start_fits (number a v ∷ octets b w ∷ more) entries h = absurd h.1.0
start_fits (number a v ∷ number b w ∷ []) entries h = absurd h.1.1.0
start_fits (number a v ∷ number b w ∷ octets c x ∷ more) entries h = absurd h.1.1.0
start_fits (number a v ∷ number b w ∷ number c x ∷ []) entries h = absurd h.1.1.1.0
start_fits (number a v ∷ number b w ∷ number c x ∷ octets d y ∷ more) entries h = absurd h.1.1.1.0

get_fits : (fields : List Shown) (entries : List (List Shown)) → FieldsFit information_get [] fields entries → value_of first fields < 256
get_fits [] entries h = absurd h.0
get_fits (octets a v ∷ more) entries h = absurd h.0
get_fits (number a v ∷ more) entries h = rw h.0.0 h.0.1

row_of : (m : Message) (opcode : ℕ) → Fits rows m → (m.opcode == opcode) ≡ true → RowFits (fields_of rows opcode) m
row_of m opcode h e = subst (λ o. RowFits (fields_of rows o) m) (eqb-true m.opcode opcode e) h.0

abbrev UpdateFits : Option UpdateRequest → Type 0
UpdateFits o = MatchOption o (Unit {0}) AreUpdateNumbers

tested : (b : Bool) (x y : Option UpdateRequest) → (b ≡ true → UpdateFits x) → UpdateFits y → UpdateFits (cond b x y)
tested true x y h k = h refl
tested false x y h k = k

update_fits : (m : Message) → Fits rows m → UpdateFits (update_request_of m)
update_fits m h =
    tested (m.opcode == 0x8308) _ _ (λ e. get_fits m.fields m.entries (row_of m 0x8308 h e))
    (tested (m.opcode == 0x830A) _ _ (λ e. tt)
    (tested (m.opcode == 0x830C) _ _ (λ e. tt)
    (tested (m.opcode == 0x830D) _ _ (λ e. start_fits m.fields m.entries (row_of m 0x830D h e))
    (tested (m.opcode == 0x830E) _ _ (λ e. tt)
    (tested (m.opcode == 0x830F) _ _ (λ e. tt) tt)))))

either_fits : (update : Option UpdateRequest) (blob : Option BlobRequest) → UpdateFits update → MatchOption (either_request update blob) (Unit {0}) AreRequestNumbers
either_fits (Some request) blob h = h
either_fits None (Some request) h = tt
either_fits None None h = tt

read_fits : (payload : List ℕ) (r : Result Message Refusal) → message_at rows payload ≡ r → ((m : Message) → message_at rows payload ≡ Ok m → Fits rows m) → MatchOption (request_in r) (Unit {0}) AreRequestNumbers
read_fits payload (Ok m) e f = either_fits (update_request_of m) (blob_request_of m) (update_fits m (f m e))
read_fits payload (Err x) e f = tt

pub octets_say : GrammarHolds → ReadsWhatIsSpelled → OctetsSayNumbers
octets_say grammar reads payload are = read_fits payload (message_at rows payload) refl (λ m e. ((reads rows payload m grammar are).0 e).0)
