-- Octets are those of one record at most.
use Rattle.std.proofs.Common.{◌≡◌, ℕ, ◌+◌, ◌*◌, ◌<◌, List, length, get_or, Some, sym, ◌∙◌, ap, arith}
use Rattle.std.proofs.lemmas.List.{ext_get_or}
use Rattle.mu_model_flash.specs.Bits.{part_of}
use Rattle.mu_model_record.specs.declared.Record.{Record}
use Rattle.mu_model_record.specs.declared.BankState.{BankState}
use Rattle.mu_model_record.specs.declared.BankState.TheVariants.{Empty, Filling, Sealed}
use Rattle.mu_model_record.specs.Page.{Word, page_word, slot_word}
use Rattle.mu_model_record.specs.Record.{zeros, IsEntry, entry_of, IsSpelled, IsRecord, IsWordOf}

no_state : (octets : List ℕ) → octets ≡ zeros 48 → get_or octets 0 0 ≡ 0
unfolding zeros
no_state octets is = ap (λ (l : List ℕ). get_or l 0 0) is

pub entry_once : (a b : BankState) (octets : List ℕ) → IsEntry a octets → IsEntry b octets → a ≡ b
entry_once Empty Empty octets p q = λ i. Empty
entry_once Empty (Filling size log) octets p q = absurd (omega (arith, no_state octets p, q.state))
entry_once Empty (Sealed meta) octets p q = absurd (omega (arith, no_state octets p, q.state))
entry_once (Filling size log) Empty octets p q = absurd (omega (arith, no_state octets q, p.state))
entry_once (Filling size log) (Filling size' log') octets p q = let s : size ≡ size' = sym p.size_at_4 ∙ q.size_at_4 in let l : log ≡ log' = sym p.log_at_1 ∙ q.log_at_1 in λ i. Filling (s i) (l i)
entry_once (Filling size log) (Sealed meta) octets p q = absurd (omega (arith, p.state, q.state))
entry_once (Sealed meta) Empty octets p q = absurd (omega (arith, no_state octets q, p.state))
entry_once (Sealed meta) (Filling size log) octets p q = absurd (omega (arith, p.state, q.state))
entry_once (Sealed meta) (Sealed meta') octets p q =
    let both : Some meta ≡ Some meta' = sym p.metadata_at_8 ∙ q.metadata_at_8 in
    let same : meta ≡ meta' = cc both in
    λ i. Sealed (same i)

pub spelled_once : (format : ℕ) (r s : Record) (octets : List ℕ) → length r.banks ≡ 4 → length s.banks ≡ 4 → IsSpelled format r octets → IsSpelled format s octets → r ≡ s
spelled_once format r s octets four four' p q =
    let count : r.count ≡ s.count = sym p.count_at_8 ∙ q.count_at_8 in
    let pages : r.pages ≡ s.pages = sym p.pages_at_6 ∙ q.pages_at_6 in
    let number : r.number ≡ s.number = sym p.number_at_5 ∙ q.number_at_5 in
    let tag : r.tag ≡ s.tag = sym p.tag_at_256 ∙ q.tag_at_256 in
    let banks : r.banks ≡ s.banks = ext_get_or Empty r.banks s.banks (four ∙ sym four') (λ b lt.
    let few : b < 4 = omega (arith, lt, four) in
    entry_once (entry_of r b) (entry_of s b) (part_of octets (16 + 48 * b) 48) (p.bank_at_16 b few) (q.bank_at_16 b few)) in
    λ i. record { count = count i; pages = pages i; number = number i; banks = banks i; tag = tag i }

pub word_once : (word : Word) (r s : Record) → IsRecord r → IsRecord s → IsWordOf word r → IsWordOf word s → r ≡ s
word_once (page_word content) r s sound sound' p q = spelled_once 1 r s content sound.four sound'.four p q
word_once (slot_word slot content) r s sound sound' p q = spelled_once 2 r s _ sound.four sound'.four p q
