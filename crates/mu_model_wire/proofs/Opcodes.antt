-- An opcode that is read is the message's.
use Rattle.std.proofs.Common.{◌≡◌, ◌<◌, ◌≤◌, ℕ, ◌+◌, ◌*◌, Bool, true, false, List, [], ◌∷◌, length, refl, sym, ap, subst, cond, arith, Option, Some, None, Result, Ok, Err}
use Rattle.std.specs.Prelude.{◌%◌, nat_lt}
use Rattle.std.proofs.Math.Nat.{mod-eq_of_lt}
use Rattle.std.proofs.Math.Dec.{ltb}
use Rattle.std.proofs.lemmas.Bool.{le-ltb, le-leb, lt-leb, ne_eqb}
use Rattle.byteorder.specs.Endian.{little_number}
use Rattle.byteorder.specs.Numbers.{little_number-reads_back}
use Rattle.mu_model_wire.specs.Limits.{most_octets}
use Rattle.mu_model_wire.specs.Fields.{Fields, Shown, Message, Row}
use Rattle.mu_model_wire.specs.Opcodes.{Keeps, OneOctetIsKept, TwoOctetsAreKept}
use Rattle.mu_model_wire.specs.Patterns.{within}
use Rattle.mu_model_wire.specs.Reading.{◌>>=◌, Left, refuse, message_at, opcode_at, word_at, row_at, fields_at, fields_of}
use Rattle.mu_model_wire.specs.declared.Refusal.{Refusal}
use Rattle.mu_model_wire.specs.declared.Why.TheVariants.{Long}

abbrev KeptIn : ℕ → Result Message Refusal → Type 0
KeptIn opcode read = (m : Message) → read ≡ Ok m → m.opcode ≡ opcode

abbrev opcode_in : Result Message Refusal → ℕ
opcode_in (Ok m) = m.opcode
opcode_in (Err e) = 0

by_fields : (opcode : ℕ) (r : Result (List Shown × List (List Shown)) Refusal) → KeptIn opcode (r >>= λ shown. Ok (record { opcode = opcode; fields = shown.0; entries = shown.1 }))
by_fields opcode (Ok shown) m h = sym (ap opcode_in h)
by_fields opcode (Err e) m h = cc

by_row : (found : Option Fields) (opcode : ℕ) (left : Left) → KeptIn opcode (row_at found opcode left)
by_row None opcode left m h = cc
by_row (Some fs) opcode left m h = by_fields opcode (fields_at fs [] left) m h

kept : (table : List Row) (opcode : ℕ) (left : Left) (bytes : List ℕ) → opcode_at (record { at = 0; octets = bytes }) ≡ Ok (opcode, left) → Keeps table opcode bytes
kept table opcode left bytes e = by_length (nat_lt most_octets (length bytes))
  where
    by_length : (b : Bool) → KeptIn opcode (cond b (refuse most_octets Long) (opcode_at (record { at = 0; octets = bytes }) >>= λ opcode. row_at (fields_of table opcode.0) opcode.0 opcode.1))
    by_length true = λ m h. cc
    by_length false = rw e (by_row (fields_of table opcode) opcode left)

word_first : (a at : ℕ) (os : List ℕ) → a < 256 → word_at 1 (record { at = at; octets = a ∷ os }) ≡ Ok (a, record { at = at + 1; octets = os })
unfolding word_at
word_first a at os small =
    let e : a % 256 ≡ a = mod-eq_of_lt small in
    let again : little_number 1 (a % 256 ∷ os) ≡ a = little_number-reads_back 1 a os (omega arith) in
    let n : little_number 1 (a ∷ os) ≡ a = subst (λ x. little_number 1 (x ∷ os) ≡ a) e again in
    let long : ltb (length (a ∷ os)) 1 ≡ false = le-ltb (length (a ∷ os)) 1 (omega arith) in
    rw (long, n) refl

two : (a b : ℕ) (body : List ℕ) → 0x80 ≤ a → a < 0xC0 → opcode_at (record { at = 0; octets = a ∷ b ∷ body }) ≡ Ok (a * 256 + b, record { at = 2; octets = body })
unfolding opcode_at
two a b body least most =
    let is_two : within 0x80 0xBF a ≡ true = rw (le-leb 0x80 a least, le-leb a 0xBF (omega arith)) refl in
    rw (word_first a 0 (b ∷ body) (omega arith), is_two, ne_eqb (length (b ∷ body)) 0 (λ (none : length (b ∷ body) ≡ 0). omega arith)) refl

one : (a : ℕ) (body : List ℕ) → a < 0x80 → opcode_at (record { at = 0; octets = a ∷ body }) ≡ Ok (a, record { at = 1; octets = body })
unfolding opcode_at
one a body small =
    let is_one : within 0x80 0xBF a ≡ false = rw (lt-leb 0x80 a small) refl in
    rw (word_first a 0 body (omega arith), is_one) refl

pub one_kept : OneOctetIsKept
one_kept table a body small = kept table a _ (a ∷ body) (one a body small)

pub two_kept : TwoOctetsAreKept
two_kept table a b body least most = kept table (a * 256 + b) _ (a ∷ b ∷ body) (two a b body least most)
