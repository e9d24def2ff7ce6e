-- The one bank that isn't active.
use Rattle.std.proofs.Common.{◌≡◌, ◌<◌, ◌≤◌, ◌⊎◌, inl, inr, ℕ, ◌+◌, Bool, true, false, List, [], ◌∷◌, length, refl, sym, subst, arith}
use Rattle.std.specs.Prelude.{◌≢◌, ◌==◌, ◌||◌}
use Rattle.std.specs.List.{AllByRecursion}
use Rattle.std.proofs.lemmas.Bool.Decides.{nat_tests}
use Rattle.std.proofs.lemmas.List.{get_or_past}
use Rattle.mu_model_record.specs.declared.Record.{Record}
use Rattle.mu_model_record.specs.declared.BankState.TheVariants.{Empty}
use Rattle.mu_model_record.specs.Record.{IsRecord, IsFilling, entry_of}
use Rattle.mu_model_represents.specs.Images.{IsSealed, is_among, AllDiffer}
use Rattle.mu_model_represents.specs.NodeNote.{NodeNote, SpellsActive, SpellsNote, SpellsOldNote, IsNodeNote}
use Rattle.mu_model_shown_node.specs.Shown.{InMemory, IsNodeMemory}
use Rattle.mu_model_written_node.specs.Free.{IsFreeBank}

by_or : (t rest : Bool) → (t || rest) ≡ false → (t ≡ false) × (rest ≡ false)
by_or true rest e = cc
by_or false rest e = (refl, e)

differ : (a b : ℕ) → (a == b) ≡ false → a ≢ b
differ a b e = grind (arith, nat_tests)

apart_by : (t : Bool) (a b : ℕ) → (a == b) ≡ t → a ≢ b → (a == b) ≡ false
apart_by true a b e ne = absurd (ne (grind (arith, nat_tests)))
apart_by false a b e ne = e

pub apart_test : (a b : ℕ) → a ≢ b → (a == b) ≡ false
apart_test a b ne = apart_by (a == b) a b refl ne

below : (b n : ℕ) → (b < n) ⊎ (n ≤ b)
below b n = grind arith

-- ---- one active bank, or two

pub record AreFew (active : List ℕ) : Type 0 where
  pub least : 1 ≤ length active
  pub most : length active ≤ 2

by_active : (active octets : List ℕ) → SpellsActive active octets → AreFew active
by_active [] octets h = absurd h
by_active (a ∷ []) octets h = record { least = omega arith; most = omega arith }
by_active (a ∷ b ∷ []) octets h = record { least = omega arith; most = omega arith }
by_active (a ∷ b ∷ c ∷ rest) octets h = absurd h

by_kind : (note : NodeNote) (octets : List ℕ) → SpellsNote note octets ⊎ SpellsOldNote note octets → AreFew note.active
by_kind note octets (inl new) = by_active note.active octets new.active_at_1_44
by_kind note octets (inr old) = subst AreFew (sym old.active_at_1) (record { least = omega arith; most = omega arith })

pub few : (banks : ℕ) (note : NodeNote) (octets : List ℕ) → IsNodeNote banks note octets → AreFew note.active
few banks note octets is = by_kind note octets is.spells

-- ---- they are there

entry_past : (r : Record) (b : ℕ) → IsRecord r → r.number ≤ b → entry_of r b ≡ Empty
entry_past r b is past = elim (below b 4) [
  | inl under ↦ is.not_there b past under
  | inr over ↦ get_or_past r.banks b Empty (omega (arith, is.four, over))
]

pub sealed_there : (r : Record) (b : ℕ) → IsRecord r → IsSealed (entry_of r b) → b < r.number
sealed_there r b is sealed = elim (below b r.number) [
  | inl under ↦ under
  | inr past ↦ absurd (subst IsSealed (entry_past r b is past) sealed)
]

pub filling_within : (r : Record) (b : ℕ) → IsRecord r → IsFilling (entry_of r b) → b < r.number
filling_within r b is filling = elim (below b r.number) [
  | inl under ↦ under
  | inr past ↦ absurd (subst IsFilling (entry_past r b is past) filling)
]

pub all_there : (r : Record) (active : List ℕ) → IsRecord r → AllByRecursion (λ (b : ℕ). IsSealed (entry_of r b)) active → AllByRecursion (λ (b : ℕ). b < r.number) active
all_there r [] is all = tt
all_there r (b ∷ active) is all = (sealed_there r b is all.0, all_there r active is all.1)

-- ---- the other one

one_of_two : (a bank b : ℕ) → a < 2 → bank < 2 → b < 2 → a ≢ bank → a ≢ b → b ≡ bank
one_of_two a bank b la lbank lb ne me = omega arith

one_of_three : (a c bank b : ℕ) → a < 3 → c < 3 → bank < 3 → b < 3 → a ≢ c → a ≢ bank → a ≢ b → c ≢ bank → c ≢ b → b ≡ bank
one_of_three a c bank b la lc lbank lb ac abank ab cbank cb = omega arith

alone : (active : List ℕ) (n bank b : ℕ) → AreFew active → n ≡ 1 + length active → AllDiffer active → AllByRecursion (λ (c : ℕ). c < n) active → bank < n → b < n
    → is_among active bank ≡ false → is_among active b ≡ false → b ≡ bank
alone [] n bank b are many apart all lbank lb none other = omega (arith, are.least)
alone (a ∷ []) n bank b are many apart all lbank lb none other =
    one_of_two a bank b (omega (arith, all.0)) (omega arith) (omega arith) (differ a bank (by_or (a == bank) false none).0) (differ a b (by_or (a == b) false other).0)
alone (a ∷ c ∷ []) n bank b are many apart all lbank lb none other =
    let first = by_or (a == bank) ((c == bank) || false) none in
    let second = by_or (a == b) ((c == b) || false) other in
    let ca : c ≢ a = differ c a (by_or (c == a) false apart.0).0 in
    one_of_three a c bank b (omega (arith, all.0)) (omega (arith, all.1)) (omega arith) (omega arith) (λ e. ca (sym e)) (differ a bank first.0) (differ a b second.0)
    (differ c bank (by_or (c == bank) false first.1).0) (differ c b (by_or (c == b) false second.1).0)
alone (a ∷ c ∷ d ∷ rest) n bank b are many apart all lbank lb none other = omega (arith, are.most)

pub one_free : (m : InMemory) (bank : ℕ) → IsNodeMemory m → IsRecord m.present → bank < m.present.number → is_among m.note.active bank ≡ false
    → IsFreeBank m.present m.note.active bank
one_free m bank rules is there apart =
    let are = few m.present.number m.note _ rules.note_octets in
    let all = all_there m.present m.note.active is rules.active_sealed in
    record {
      there = there;
      apart = apart;
      alone = λ b lb other. alone m.note.active m.present.number bank b are rules.note_octets.one_more rules.active_differ all there lb apart other;
    }
