-- Octets behind a message whose fields have their places.
use Rattle.std.proofs.Common.{◌≡◌, ℕ, ◌+◌, ◌≤◌, ◌<◌, Bool, true, false, cond, eqb, List, [], ◌∷◌, ◌++◌, length, Option, Some, None, Result, Ok, refl, sym, ap, subst, ◌∙◌, arith, append_assoc, length-append}
use Rattle.std.specs.Prelude.{nat_lt}
use Rattle.std.proofs.lemmas.Bool.{le-ltb, and_parts}
use Rattle.mu_model_wire.specs.declared.Refusal.{Refusal}
use Rattle.mu_model_wire.specs.declared.Why.TheVariants.{Long}
use Rattle.mu_model_wire.specs.Fields.{Fields, end, rest, repeated, ◌▹◌, when, where_left, Shown, Message}
use Rattle.mu_model_wire.specs.Reading.{◌>>=◌, Left, refuse, field_at, fields_at, value_of, is_one_of, opcode_at, fields_of, row_at, message_at}
use Rattle.mu_model_wire.specs.Table.{rows}
use Rattle.mu_model_refusals.specs.Refusals.{is_fixed, is_fixed_row}
use Rattle.mu_model_refusals.proofs.Readers.{left_at, Reader, Done, bind_ok}
use Rattle.mu_model_refusals.proofs.Fields.{Read, narrow, narrow_row, field_local, next_fields}
use Rattle.mu_model_refusals.proofs.Messages.{opcode_local, found_narrow, read_by, not_zero}
use Rattle.mu_model_refusals.proofs.Begins.{within_limit, row_opcode}

-- behind a reader
past_reader : {A Y : Type 0} (r : Reader A) (f : A → Left → Result Y Refusal) (at : ℕ) (p q : List ℕ) (x : A) (next : Left) → Done r at p x next
    → f x (left_at next.at (next.octets ++ q)) ≡ refuse (next.at + length next.octets) Long → (r (left_at at (p ++ q)) >>= λ y. f y.0 y.1) ≡ refuse (at + length p) Long
past_reader r f at p q x next d e =
    let joined : p ++ q ≡ d.used ++ (next.octets ++ q) = ap (λ xs. xs ++ q) d.split ∙ append_assoc d.used next.octets q in
    let read : r (left_at at (p ++ q)) ≡ Ok (x, left_at next.at (next.octets ++ q)) = ap (λ xs. r (left_at at xs)) joined ∙ d.alone (next.octets ++ q) in
    let n : length p ≡ length d.used + length next.octets = ap (length {A = ℕ}) d.split ∙ length-append d.used next.octets in
    let there = d.place in
    let place : next.at + length next.octets ≡ at + length p = omega (arith, n, there) in
    rw read (e ∙ ap (λ a. refuse a Long) place)

end_past : (at : ℕ) (p q : List ℕ) (y : Read) → 0 < length q → cond (eqb (length p) 0) (Ok ([], [])) (refuse at Long) ≡ Ok y → fields_at end [] (left_at at (p ++ q)) ≡ refuse (at + length p) Long
end_past at (a ∷ p) q y some e = absurd (let no : refuse at Long ≡ Ok y = rw (not_zero (length p)) at e in cc)
end_past at [] [] y some e = absurd (let never : ⊥ = omega (arith, some) in never)
end_past at [] (a ∷ q) y some e = rw (not_zero (length q)) (ap (λ n. refuse n Long) (let n : at ≡ at + 0 = omega arith in n))

when_past : (b : Bool) (fs gs fs_past gs_past : Result Read Refusal) (y : Read) (a : ℕ) → (fs ≡ Ok y → fs_past ≡ refuse a Long) → (gs ≡ Ok y → gs_past ≡ refuse a Long) → cond b fs gs ≡ Ok y → cond b fs_past gs_past ≡ refuse a Long
when_past true fs gs fs_past gs_past y a f g e = f e
when_past false fs gs fs_past gs_past y a f g e = g e

fields_past : (fs : Fields) → narrow_row fs ≡ true → is_fixed fs ≡ true → (before : List Shown) (at : ℕ) (p q : List ℕ) (y : Read) → 0 < length q → fields_at fs before (left_at at p) ≡ Ok y
    → fields_at fs before (left_at at (p ++ q)) ≡ refuse (at + length p) Long
fields_past end h k before at p q y some e = end_past at p q y some e
fields_past (rest name least most) h k before at p q y some e = absurd cc
fields_past (repeated name least fs) h k before at p q y some e = absurd cc
fields_past (f ▹ fs) h k before at p q y some e =
    let parts = and_parts (narrow f) (narrow_row fs) h in
    let b = bind_ok (field_at f (left_at at p)) (λ first. next_fields fs before first.0 first.1) y e in
    let c = bind_ok (fields_at fs (b.0.0 ++ before) b.0.1) (λ others. Ok (b.0.0 ++ others.0, others.1)) y b.2 in
    let later = fields_past fs parts.1 k (b.0.0 ++ before) b.0.1.at b.0.1.octets q c.0 some c.1 in
    past_reader (field_at f) (next_fields fs before) at p q b.0.0 b.0.1 ((field_local f parts.0).done at p b.0.0 b.0.1 b.1) (rw later refl)
fields_past (when name values fs gs) h k before at p q y some e =
    let ns = and_parts (narrow_row fs) (narrow_row gs) h in
    let ks = and_parts (is_fixed fs) (is_fixed gs) k in
    when_past (is_one_of values (value_of name before)) (fields_at fs before (left_at at p)) (fields_at gs before (left_at at p)) (fields_at fs before (left_at at (p ++ q))) (fields_at gs before (left_at at (p ++ q))) y (at + length p)
    (fields_past fs ns.0 ks.0 before at p q y some) (fields_past gs ns.1 ks.1 before at p q y some) e
fields_past (where_left n name fs gs) h k before at p q y some e = absurd cc

row_past : (opcode : ℕ) (found : Option Fields) → ((fs : Fields) → found ≡ Some fs → narrow_row fs ≡ true) → is_fixed_row found ≡ true → (at : ℕ) (p q : List ℕ) (m : Message) → 0 < length q
    → row_at found opcode (left_at at p) ≡ Ok m → row_at found opcode (left_at at (p ++ q)) ≡ refuse (at + length p) Long
row_past opcode None h k at p q m some e = absurd cc
row_past opcode (Some fs) h k at p q m some e =
    let b = bind_ok (fields_at fs [] (left_at at p)) (λ shown. Ok (record { opcode = opcode; fields = shown.0; entries = shown.1 })) m e in
    rw (fields_past fs (h fs refl) k [] at p q b.0 some b.1) refl

pub messages_end : (bytes more : List ℕ) (m : Message) → message_at rows bytes ≡ Ok m → is_fixed_row (fields_of rows m.opcode) ≡ true → 0 < length more → length (bytes ++ more) ≤ 380
    → message_at rows (bytes ++ more) ≡ refuse (length bytes) Long
messages_end bytes more m read fixed some few =
    let w = within_limit bytes (nat_lt 380 (length bytes)) m refl read in
    let limit : nat_lt 380 (length (bytes ++ more)) ≡ false = le-ltb 380 (length (bytes ++ more)) few in
    let b = bind_ok (opcode_at (left_at 0 bytes)) (λ opcode. row_at (fields_of rows opcode.0) opcode.0 opcode.1) m w.1 in
    let opcode = row_opcode b.0.0 (fields_of rows b.0.0) b.0.1 m b.2 in
    let is : is_fixed_row (fields_of rows b.0.0) ≡ true = subst (λ n. is_fixed_row (fields_of rows n) ≡ true) (sym opcode) fixed in
    let row = row_past b.0.0 (fields_of rows b.0.0) (λ fs. found_narrow rows b.0.0 fs refl) is b.0.1.at b.0.1.octets more m some b.2 in
    let all : read_by false (bytes ++ more) ≡ refuse (0 + length bytes) Long =
    past_reader opcode_at (λ opcode left. row_at (fields_of rows opcode) opcode left) 0 bytes more b.0.0 b.0.1 (opcode_local.done 0 bytes b.0.0 b.0.1 b.1) row in
    rw limit (all ∙ ap (λ n. refuse n Long) (let n : 0 + length bytes ≡ length bytes = omega arith in n))
