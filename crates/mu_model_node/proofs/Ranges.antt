-- What octets ask is in the ranges of the grammar.
use Rattle.std.proofs.Common.{◌≡◌, ℕ, Bool, true, false, List, [], ◌∷◌, refl, subst, cond, Option, Some, None, Result, Ok, Err}
use Rattle.std.specs.Prelude.{◌==◌, MatchOption}
use Rattle.std.proofs.lemmas.Bool.{eqb-true}
use Rattle.mu_model_wire.specs.declared.Refusal.{Refusal}
use Rattle.mu_model_wire.specs.Fields.{Shown, number, octets, Message}
use Rattle.mu_model_wire.specs.Blob.{transfer_start}
use Rattle.mu_model_wire.specs.Reading.{message_at, fields_of}
use Rattle.mu_model_wire.specs.Spelling.{Fits, FieldsFit, RowFits}
use Rattle.mu_model_wire.specs.Laws.{GrammarHolds, ReadsWhatIsSpelled}
use Rattle.mu_model_wire.specs.Table.{rows}
use Rattle.mu_model_node.specs.BlobMessages.{BlobRequest, parameters_of, blob_request_of}
use Rattle.mu_model_node.specs.UpdateMessages.{UpdateRequest, update_request_of}
use Rattle.mu_model_node.specs.NodeMessages.{either_request, request_in}
use Rattle.mu_model_node.specs.Sound.{AreInRange, BlobRequestFits, RequestFits}
use Rattle.mu_model_node.specs.Laws.{OctetsAskInRange}

-- the fields of a Transfer Start
start_fits : (fields : List Shown) (entries : List (List Shown)) → FieldsFit transfer_start [] fields entries → AreInRange (parameters_of fields)
start_fits (number a v ∷ number b w ∷ number c x ∷ number d y ∷ number e z ∷ more) entries h =
    rw (h.0.0, h.1.0.0, h.1.1.0.0, h.1.1.1.0.0, h.1.1.1.1.0.0) (record { some = h.1.1.0.1; mode_above = h.0.1; mode_below = h.0.2; mtu_above = h.1.1.1.1.0.1 })
start_fits [] entries h = absurd h.0
start_fits (octets a v ∷ more) entries h = absurd h.0
start_fits (number a v ∷ []) entries h = absurd h.1.0
start_fits (number a v ∷ octets b w ∷ more) entries h = absurd h.1.0
start_fits (number a v ∷ number b w ∷ []) entries h = absurd h.1.1.0
start_fits (number a v ∷ number b w ∷ octets c x ∷ more) entries h = absurd h.1.1.0
start_fits (number a v ∷ number b w ∷ number c x ∷ []) entries h = absurd h.1.1.1.0
start_fits (number a v ∷ number b w ∷ number c x ∷ octets d y ∷ more) entries h = absurd h.1.1.1.0
start_fits (number a v ∷ number b w ∷ number c x ∷ number d y ∷ []) entries h = absurd h.1.1.1.1.0
start_fits (number a v ∷ number b w ∷ number c x ∷ number d y ∷ octets e z ∷ more) entries h = absurd h.1.1.1.1.0

-- each branch of a test
abbrev IsInRange : Option BlobRequest → Type 0
IsInRange o = MatchOption o (Unit {0}) BlobRequestFits

tested : (b : Bool) (x y : Option BlobRequest) → (b ≡ true → IsInRange x) → IsInRange y → IsInRange (cond b x y)
tested true x y h k = h refl
tested false x y h k = k

start_of : (m : Message) → Fits rows m → m.opcode ≡ 0x8301 → AreInRange (parameters_of m.fields)
start_of m h e =
    let row : RowFits (fields_of rows 0x8301) m = subst (λ opcode. RowFits (fields_of rows opcode) m) e h.0 in
    start_fits m.fields m.entries row

-- a BLOB request of a message that fits
blob_fits : (m : Message) → Fits rows m → IsInRange (blob_request_of m)
blob_fits m h =
    tested (m.opcode == 0x8300) _ _ (λ e. tt)
    (tested (m.opcode == 0x8301) _ _ (λ e. start_of m h (eqb-true m.opcode 0x8301 e))
    (tested (m.opcode == 0x8302) _ _ (λ e. tt)
    (tested (m.opcode == 0x8304) _ _ (λ e. tt)
    (tested (m.opcode == 0x8305) _ _ (λ e. tt)
    (tested (m.opcode == 0x8306) _ _ (λ e. tt)
    (tested (m.opcode == 0x66) _ _ (λ e. tt) tt))))))

either_fits : (update : Option UpdateRequest) (blob : Option BlobRequest) → MatchOption blob (Unit {0}) BlobRequestFits → MatchOption (either_request update blob) (Unit {0}) RequestFits
either_fits (Some request) blob h = tt
either_fits None (Some request) h = h
either_fits None None h = tt

read_fits : (payload : List ℕ) (r : Result Message Refusal) → message_at rows payload ≡ r → ((m : Message) → message_at rows payload ≡ Ok m → Fits rows m) → MatchOption (request_in r) (Unit {0}) RequestFits
read_fits payload (Ok m) e f = either_fits (update_request_of m) (blob_request_of m) (blob_fits m (f m e))
read_fits payload (Err x) e f = tt

pub octets_ask : GrammarHolds → ReadsWhatIsSpelled → OctetsAskInRange
octets_ask grammar reads payload are = read_fits payload (message_at rows payload) refl (λ m e. ((reads rows payload m grammar are).0 e).0)
