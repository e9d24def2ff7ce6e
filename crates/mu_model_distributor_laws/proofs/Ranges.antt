-- What octets say is in the ranges of the grammar.
use Rattle.std.proofs.Common.{◌≡◌, ◌<◌, ◌≤◌, ℕ, zero, suc, Bool, true, false, List, [], ◌∷◌, ◌++◌, length, map, refl, subst, cond, arith, Option, Some, None, Result, Ok, Err}
use Rattle.std.specs.Prelude.{◌==◌, MatchOption, MatchBool}
use Rattle.std.specs.List.{All, AllByRecursion}
use Rattle.byteorder.specs.Endian.{little_bytes}
use Rattle.std.proofs.lemmas.Bool.{eqb-true}
use Rattle.std.proofs.lemmas.List.Elements.{All-from_get_or}
use Rattle.mu_model_wire.specs.declared.Refusal.{Refusal}
use Rattle.mu_model_wire.specs.Fields.{Shown, number, octets, Message}
use Rattle.mu_model_wire.specs.Names.{label, status, first}
use Rattle.mu_model_wire.specs.Blob.{transfer_start, transfer_status, block_status}
use Rattle.mu_model_wire.specs.Update.{metadata_status, update_status}
use Rattle.mu_model_wire.specs.Distribution.{receiver_fields, receivers_get, distribution_start, upload_start}
use Rattle.mu_model_wire.specs.Reading.{value_of, message_at, fields_of}
use Rattle.mu_model_wire.specs.Spelling.{opcode_spelling, Fits, FieldsFit, RowFits, EntryFits, EntriesFit}
use Rattle.mu_model_wire.specs.Spells.{FieldsSpell, RowSpells, Spells}
use Rattle.mu_model_wire.specs.Laws.{AreOctets, GrammarHolds, ReadsWhatIsSpelled}
use Rattle.mu_model_wire.specs.Table.{rows}
use Rattle.mu_model_image.specs.declared.Meta.{Meta}
use Rattle.mu_model_image.specs.Meta.{IsMeta, meta_from}
use Rattle.mu_model_image.specs.Laws.{MetaThatIsReadIsInRange}
use Rattle.mu_model_node.specs.BlobMessages.{BlobRequest, parameters_of, blob_request_of}
use Rattle.mu_model_node.specs.Sound.{AreInRange, BlobRequestFits}
use Rattle.mu_model_client.specs.Answers.{Answer, answer_of}
use Rattle.mu_model_distributor.specs.Requests.{DistRequest, DistributionStart, entry_of, target_of, settings_to, upload_of, dist_request_of}
use Rattle.mu_model_distributor.specs.DistMessages.{taken_as, taken_in}
use Rattle.mu_model_distributor.specs.Sound.{IsEntry, IsUploadStart, DistRequestFits, AnswerFits, TakenFits}
use Rattle.mu_model_distributor_laws.specs.Laws.{OctetsSayInRange}

-- ---- octets

left_octets : (a b : List ℕ) → AreOctets (a ++ b) → AreOctets a
left_octets [] b h i = omega arith
left_octets (x ∷ a) b h zero = h 0
left_octets (x ∷ a) b h (suc i) = left_octets a b (λ k. h (suc k)) i

right_octets : (a b : List ℕ) → AreOctets (a ++ b) → AreOctets b
right_octets [] b h = h
right_octets (x ∷ a) b h = right_octets a b (λ k. h (suc k))

all_octets : (xs : List ℕ) → AreOctets xs → All (λ octet. octet < 256) xs
all_octets xs h = All-from_get_or (λ octet. octet < 256) xs 0 (λ i below. h i)

-- ---- entries

entry_fits : (e : List Shown) → EntryFits receiver_fields e → IsEntry (entry_of e)
entry_fits (number a v ∷ number b w ∷ more) h = rw (h.0.0, h.1.0.0) (record { address_above = h.0.1; address_below = h.0.2; index = h.1.0.1 })
entry_fits [] h = absurd h.0
entry_fits (octets a v ∷ more) h = absurd h.0
entry_fits (number a v ∷ []) h = absurd h.1.0
entry_fits (number a v ∷ octets b w ∷ more) h = absurd h.1.0

entries_fit : (es : List (List Shown)) → EntriesFit receiver_fields es → AllByRecursion IsEntry (map entry_of es)
entries_fit [] h = tt
entries_fit (e ∷ es) h = (entry_fits e h.0, entries_fit es h.1)

-- ---- a Receivers Get

get_fits : (fields : List Shown) (entries : List (List Shown)) → FieldsFit receivers_get [] fields entries → value_of first fields < 65536
get_fits [] entries h = absurd h.0
get_fits (octets a v ∷ more) entries h = absurd h.0
get_fits (number a v ∷ more) entries h = rw h.0.0 h.0.1

-- ---- a Distribution Start

abbrev StartFits : List Shown → Type 0
StartFits fields = DistRequestFits (DistributionStart (settings_to (target_of fields) fields))

not_label : (X R : Type 0) (b : Bool) → (X → ⊥) → MatchBool b X R → R
not_label X R true n h = absurd (n h)
not_label X R false n h = h

not_group : (X R : Type 0) (b : Bool) → (X → ⊥) → MatchBool b R X → R
not_group X R true n h = h
not_group X R false n h = absurd (n h)

start_fits : (fields : List Shown) (entries : List (List Shown)) → FieldsFit distribution_start [] fields entries → StartFits fields
start_fits (number a v ∷ number b w ∷ number c x ∷ number d y ∷ number e z ∷ number f k ∷ number g n ∷ more) entries h =
    let last = not_label _ _ (g == label) (λ x. x.0.0) h.1.1.1.1.1 in
    rw (h.0.0, h.1.0.0, h.1.1.0.0, h.1.1.1.0.0, h.1.1.1.0.3.0, h.1.1.1.1.0.0, last.0.0.0)
    (record { appkey = h.0.2; ttl = h.1.0.1; base = h.1.1.0.1; mode_above = h.1.1.1.0.1; mode_below = h.1.1.1.0.2; policy = h.1.1.1.0.3.2; image = h.1.1.1.1.0.1; group = last.0.0.1 })
start_fits (number a v ∷ number b w ∷ number c x ∷ number d y ∷ number e z ∷ number f k ∷ octets g os ∷ more) entries h =
    let last = not_group _ _ (g == label) (λ x. x.0.0) h.1.1.1.1.1 in
    rw (h.0.0, h.1.0.0, h.1.1.0.0, h.1.1.1.0.0, h.1.1.1.0.3.0, h.1.1.1.1.0.0, last.0.0.0) tt
start_fits (number a v ∷ number b w ∷ number c x ∷ number d y ∷ number e z ∷ number f k ∷ []) entries h = absurd h.1.1.1.1.1.0.0
start_fits [] entries h = absurd h.0
start_fits (octets a v ∷ more) entries h = absurd h.0
start_fits (number a v ∷ []) entries h = absurd h.1.0
start_fits (number a v ∷ octets b w ∷ more) entries h = absurd h.1.0
start_fits (number a v ∷ number b w ∷ []) entries h = absurd h.1.1.0
start_fits (number a v ∷ number b w ∷ octets c x ∷ more) entries h = absurd h.1.1.0
start_fits (number a v ∷ number b w ∷ number c x ∷ []) entries h = absurd h.1.1.1.0
start_fits (number a v ∷ number b w ∷ number c x ∷ octets d y ∷ more) entries h = absurd h.1.1.1.0
start_fits (number a v ∷ number b w ∷ number c x ∷ number d y ∷ []) entries h = absurd h.1.1.1.0.3
start_fits (number a v ∷ number b w ∷ number c x ∷ number d y ∷ octets e z ∷ more) entries h = absurd h.1.1.1.0.3
start_fits (number a v ∷ number b w ∷ number c x ∷ number d y ∷ number e z ∷ []) entries h = absurd h.1.1.1.1.0
start_fits (number a v ∷ number b w ∷ number c x ∷ number d y ∷ number e z ∷ octets f k ∷ more) entries h = absurd h.1.1.1.1.0

-- ---- an Upload Start

meta_range : MetaThatIsReadIsInRange → (os : List ℕ) (offer : Option Meta) → meta_from os ≡ offer → AreOctets os → MatchOption offer (Unit {0}) IsMeta
meta_range law os None e h = tt
meta_range law os (Some meta) e h = law os meta (all_octets os h) e

-- the metadata of an Upload Start are octets of its payload
upload_octets : (a v b w c x d y e f : ℕ) (os fs : List ℕ) (more : List Shown) (entries : List (List Shown)) (body : List ℕ) → FieldsSpell upload_start [] (number a v ∷ number b w ∷ number c x ∷ number d y ∷ octets e os ∷ octets f fs ∷ more) entries body → AreOctets body → AreOctets os
upload_octets a v b w c x d y e f os fs more entries body h k =
    let one : AreOctets h.1 = right_octets h.0 h.1 (subst AreOctets h.2 k) in
    let two : AreOctets h.4.1 = right_octets h.4.0 h.4.1 (subst AreOctets h.4.2 one) in
    let three : AreOctets h.4.4.1 = right_octets h.4.4.0 h.4.4.1 (subst AreOctets h.4.4.2 two) in
    let four : AreOctets h.4.4.4.1 = right_octets h.4.4.4.0 h.4.4.4.1 (subst AreOctets h.4.4.4.2 three) in
    let five : AreOctets h.4.4.4.4.0 = left_octets h.4.4.4.4.0 h.4.4.4.4.1 (subst AreOctets h.4.4.4.4.2 four) in
    right_octets (little_bytes 1 (length os)) os (subst AreOctets h.4.4.4.4.3 five)

upload_fits : MetaThatIsReadIsInRange → (fields : List Shown) (entries : List (List Shown)) (body : List ℕ) → FieldsFit upload_start [] fields entries → FieldsSpell upload_start [] fields entries body → AreOctets body → IsUploadStart (upload_of fields)
upload_fits law (number a v ∷ number b w ∷ number c x ∷ number d y ∷ octets e os ∷ octets f fs ∷ more) entries body h spells k =
    let own : AreOctets os = upload_octets a v b w c x d y e f os fs more entries body spells k in
    rw (h.0.0, h.1.0.0, h.1.1.0.0, h.1.1.1.0.0, h.1.1.1.1.0.0)
    (record { ttl = h.0.1; base = h.1.0.1; id = h.1.1.0.1; metadata = meta_range law os (meta_from os) refl own })
upload_fits law [] entries body h spells k = absurd h.0
upload_fits law (octets a v ∷ more) entries body h spells k = absurd h.0
upload_fits law (number a v ∷ []) entries body h spells k = absurd h.1.0
upload_fits law (number a v ∷ octets b w ∷ more) entries body h spells k = absurd h.1.0
upload_fits law (number a v ∷ number b w ∷ []) entries body h spells k = absurd h.1.1.0
upload_fits law (number a v ∷ number b w ∷ octets c x ∷ more) entries body h spells k = absurd h.1.1.0
upload_fits law (number a v ∷ number b w ∷ number c x ∷ []) entries body h spells k = absurd h.1.1.1.0
upload_fits law (number a v ∷ number b w ∷ number c x ∷ octets d y ∷ more) entries body h spells k = absurd h.1.1.1.0
upload_fits law (number a v ∷ number b w ∷ number c x ∷ number d y ∷ []) entries body h spells k = absurd h.1.1.1.1.0
upload_fits law (number a v ∷ number b w ∷ number c x ∷ number d y ∷ number e z ∷ more) entries body h spells k = absurd h.1.1.1.1.0
upload_fits law (number a v ∷ number b w ∷ number c x ∷ number d y ∷ octets e os ∷ []) entries body h spells k = absurd h.1.1.1.1.1.0
upload_fits law (number a v ∷ number b w ∷ number c x ∷ number d y ∷ octets e os ∷ number f fs ∷ more) entries body h spells k = absurd h.1.1.1.1.1.0

-- ---- statuses

metadata_fits : (fields : List Shown) (entries : List (List Shown)) → FieldsFit metadata_status [] fields entries → value_of status fields < 8
metadata_fits (number a v ∷ more) entries h = rw (h.0.0) (omega (arith, h.0.2))
metadata_fits [] entries h = absurd h.0
metadata_fits (octets a v ∷ more) entries h = absurd h.0

update_fits : (fields : List Shown) (entries : List (List Shown)) → FieldsFit update_status [] fields entries → value_of status fields < 8
update_fits (number a v ∷ more) entries h = rw (h.0.0) (omega (arith, h.0.2))
update_fits [] entries h = absurd h.0
update_fits (octets a v ∷ more) entries h = absurd h.0

transfer_fits : (fields : List Shown) (entries : List (List Shown)) → FieldsFit transfer_status [] fields entries → value_of status fields ≤ 10
transfer_fits (number a v ∷ more) entries h = rw (h.0.0) (h.0.2)
transfer_fits [] entries h = absurd h.0
transfer_fits (octets a v ∷ more) entries h = absurd h.0

block_fits : (fields : List Shown) (entries : List (List Shown)) → FieldsFit block_status [] fields entries → value_of status fields ≤ 10
block_fits (number a v ∷ more) entries h = rw (h.0.0) (h.0.2)
block_fits [] entries h = absurd h.0
block_fits (octets a v ∷ more) entries h = absurd h.0

-- ---- a BLOB Transfer Start

parameters_fit : (fields : List Shown) (entries : List (List Shown)) → FieldsFit transfer_start [] fields entries → AreInRange (parameters_of fields)
parameters_fit (number a v ∷ number b w ∷ number c x ∷ number d y ∷ number e z ∷ more) entries h =
    rw (h.0.0, h.1.0.0, h.1.1.0.0, h.1.1.1.0.0, h.1.1.1.1.0.0) (record { some = h.1.1.0.1; mode_above = h.0.1; mode_below = h.0.2; mtu_above = h.1.1.1.1.0.1 })
parameters_fit [] entries h = absurd h.0
parameters_fit (octets a v ∷ more) entries h = absurd h.0
parameters_fit (number a v ∷ []) entries h = absurd h.1.0
parameters_fit (number a v ∷ octets b w ∷ more) entries h = absurd h.1.0
parameters_fit (number a v ∷ number b w ∷ []) entries h = absurd h.1.1.0
parameters_fit (number a v ∷ number b w ∷ octets c x ∷ more) entries h = absurd h.1.1.0
parameters_fit (number a v ∷ number b w ∷ number c x ∷ []) entries h = absurd h.1.1.1.0
parameters_fit (number a v ∷ number b w ∷ number c x ∷ octets d y ∷ more) entries h = absurd h.1.1.1.0
parameters_fit (number a v ∷ number b w ∷ number c x ∷ number d y ∷ []) entries h = absurd h.1.1.1.1.0
parameters_fit (number a v ∷ number b w ∷ number c x ∷ number d y ∷ octets e z ∷ more) entries h = absurd h.1.1.1.1.0

-- ---- by the opcode

-- what the octets of a message are
record IsRead (m : Message) (bytes : List ℕ) : Type 0 where
  fits : Fits rows m
  spells : Spells rows bytes m
  are : AreOctets bytes

row_of : (m : Message) (bytes : List ℕ) (opcode : ℕ) → IsRead m bytes → (m.opcode == opcode) ≡ true → RowFits (fields_of rows opcode) m
row_of m bytes opcode h e = subst (λ o. RowFits (fields_of rows o) m) (eqb-true m.opcode opcode e) h.fits.0

spelled_of : (m : Message) (bytes : List ℕ) (opcode : ℕ) → IsRead m bytes → (m.opcode == opcode) ≡ true → RowSpells (fields_of rows opcode) m bytes
spelled_of m bytes opcode h e = subst (λ o. RowSpells (fields_of rows o) m bytes) (eqb-true m.opcode opcode e) h.spells

upload_row : MetaThatIsReadIsInRange → (m : Message) (bytes : List ℕ) → IsRead m bytes → (m.opcode == 0x831F) ≡ true → IsUploadStart (upload_of m.fields)
upload_row law m bytes h e =
    let fits : FieldsFit upload_start [] m.fields m.entries = row_of m bytes 0x831F h e in
    let spells : RowSpells (fields_of rows 0x831F) m bytes = spelled_of m bytes 0x831F h e in
    upload_fits law m.fields m.entries spells.0 fits spells.2 (right_octets (opcode_spelling m.opcode) spells.0 (subst AreOctets spells.1 h.are))

abbrev DistFits : Option DistRequest → Type 0
DistFits o = MatchOption o (Unit {0}) DistRequestFits

tested : (b : Bool) (x y : Option DistRequest) → (b ≡ true → DistFits x) → DistFits y → DistFits (cond b x y)
tested true x y h k = h refl
tested false x y h k = k

dist_fits : MetaThatIsReadIsInRange → (m : Message) (bytes : List ℕ) → IsRead m bytes → DistFits (dist_request_of m)
dist_fits law m bytes h =
    tested (m.opcode == 0x8311) _ _ (λ e. entries_fit m.entries (row_of m bytes 0x8311 h e).2)
    (tested (m.opcode == 0x8312) _ _ (λ e. tt)
    (tested (m.opcode == 0x8314) _ _ (λ e. get_fits m.fields m.entries (row_of m bytes 0x8314 h e))
    (tested (m.opcode == 0x8316) _ _ (λ e. tt)
    (tested (m.opcode == 0x8318) _ _ (λ e. tt)
    (tested (m.opcode == 0x8319) _ _ (λ e. start_fits m.fields m.entries (row_of m bytes 0x8319 h e))
    (tested (m.opcode == 0x831A) _ _ (λ e. tt)
    (tested (m.opcode == 0x831B) _ _ (λ e. tt)
    (tested (m.opcode == 0x831C) _ _ (λ e. tt)
    (tested (m.opcode == 0x831E) _ _ (λ e. tt)
    (tested (m.opcode == 0x831F) _ _ (λ e. upload_row law m bytes h e)
    (tested (m.opcode == 0x8320) _ _ (λ e. tt)
    (tested (m.opcode == 0x8321) _ _ (λ e. tt)
    (tested (m.opcode == 0x8323) _ _ (λ e. tt)
    (tested (m.opcode == 0x8324) _ _ (λ e. tt)
    (tested (m.opcode == 0x8325) _ _ (λ e. tt)
    (tested (m.opcode == 0x8326) _ _ (λ e. tt) tt))))))))))))))))

abbrev BlobFits : Option BlobRequest → Type 0
BlobFits o = MatchOption o (Unit {0}) BlobRequestFits

tested_blob : (b : Bool) (x y : Option BlobRequest) → (b ≡ true → BlobFits x) → BlobFits y → BlobFits (cond b x y)
tested_blob true x y h k = h refl
tested_blob false x y h k = k

blob_request_fits : (m : Message) (bytes : List ℕ) → IsRead m bytes → BlobFits (blob_request_of m)
blob_request_fits m bytes h =
    tested_blob (m.opcode == 0x8300) _ _ (λ e. tt)
    (tested_blob (m.opcode == 0x8301) _ _ (λ e. parameters_fit m.fields m.entries (row_of m bytes 0x8301 h e))
    (tested_blob (m.opcode == 0x8302) _ _ (λ e. tt)
    (tested_blob (m.opcode == 0x8304) _ _ (λ e. tt)
    (tested_blob (m.opcode == 0x8305) _ _ (λ e. tt)
    (tested_blob (m.opcode == 0x8306) _ _ (λ e. tt)
    (tested_blob (m.opcode == 0x66) _ _ (λ e. tt) tt))))))

abbrev ToldFits : Option Answer → Type 0
ToldFits o = MatchOption o (Unit {0}) AnswerFits

tested_answer : (b : Bool) (x y : Option Answer) → (b ≡ true → ToldFits x) → ToldFits y → ToldFits (cond b x y)
tested_answer true x y h k = h refl
tested_answer false x y h k = k

answer_fits : (m : Message) (bytes : List ℕ) → IsRead m bytes → ToldFits (answer_of m)
answer_fits m bytes h =
    tested_answer (m.opcode == 0x8309) _ _ (λ e. tt)
    (tested_answer (m.opcode == 0x830B) _ _ (λ e. metadata_fits m.fields m.entries (row_of m bytes 0x830B h e))
    (tested_answer (m.opcode == 0x8310) _ _ (λ e. update_fits m.fields m.entries (row_of m bytes 0x8310 h e))
    (tested_answer (m.opcode == 0x8307) _ _ (λ e. tt)
    (tested_answer (m.opcode == 0x8303) _ _ (λ e. transfer_fits m.fields m.entries (row_of m bytes 0x8303 h e))
    (tested_answer (m.opcode == 0x67) _ _ (λ e. block_fits m.fields m.entries (row_of m bytes 0x67 h e))
    (tested_answer (m.opcode == 0x68) _ _ (λ e. tt) tt))))))

taken_fits : (dist : Option DistRequest) (blob : Option BlobRequest) (answer : Option Answer) → DistFits dist → BlobFits blob → ToldFits answer → MatchOption (taken_as dist blob answer) (Unit {0}) TakenFits
taken_fits (Some request) blob answer h k l = h
taken_fits None (Some request) answer h k l = k
taken_fits None None (Some a) h k l = l
taken_fits None None None h k l = tt

read_fits : MetaThatIsReadIsInRange → (payload : List ℕ) (r : Result Message Refusal) → message_at rows payload ≡ r → ((m : Message) → message_at rows payload ≡ Ok m → IsRead m payload) → MatchOption (taken_in r) (Unit {0}) TakenFits
read_fits law payload (Ok m) e f =
    let h = f m e in
    taken_fits (dist_request_of m) (blob_request_of m) (answer_of m) (dist_fits law m payload h) (blob_request_fits m payload h) (answer_fits m payload h)
read_fits law payload (Err x) e f = tt

pub octets_say : GrammarHolds → ReadsWhatIsSpelled → MetaThatIsReadIsInRange → OctetsSayInRange
octets_say grammar reads law payload are =
    read_fits law payload (message_at rows payload) refl (λ m e. let k = (reads rows payload m grammar are).0 e in record { fits = k.0; spells = k.1; are = are })
