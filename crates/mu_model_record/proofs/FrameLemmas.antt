-- What a store's state says of a flash stays where an operation touches nothing that it speaks of.
use Rattle.std.proofs.Common.{◌≡◌, inl, inr, ℕ, ◌+◌, ◌-◌, ◌*◌, ◌/◌, ◌%◌, ◌^◌, ◌<◌, ◌≤◌, Option, Some, None, List, length, min, get_or, refl, ◌∙◌, arith}
use Rattle.std.specs.Prelude.{slice_index_or}
use Rattle.std.proofs.Math.Nat.{div-add-mod'}
use Rattle.std.proofs.lemmas.Nat.{pow_pos}
use Rattle.mu_model_image.specs.Pieces.{block_count, block_length}
use Rattle.mu_model_flash.specs.Bits.{SameOutside}
use Rattle.mu_model_record.specs.declared.Record.{Record}
use Rattle.mu_model_record.specs.declared.BankState.{BankState}
use Rattle.mu_model_record.specs.declared.BankState.TheVariants.{Empty, Filling, Sealed}
use Rattle.mu_model_record.specs.Page.{Word}
use Rattle.mu_model_record.specs.Record.{IsRecord, IsEntryInRange, entry_of}
use Rattle.mu_model_record.specs.Store.{Content, nothing, held, whole, StoreState, content_of_bank, pages_of, mark_place, bank_place, block_place, BlockLies, BankHolds}
use Rattle.mu_model_record.specs.Free.{Apart, IsFreeOf}
use Rattle.mu_model_record.specs.Represents.{RepresentsAt}
use Rattle.mu_model_record.proofs.ControlLemmas.{control_same, same_page}
use Rattle.mu_model_flash.specs.Laws.{RangeLaws}

mul_le : (m n k : ℕ) → m ≤ n → m * k ≤ n * k
mul_le m n k le = grind arith

-- a bank lies in the flash
pub bank_within : (r : Record) (b size : ℕ) → b < r.number → size ≤ 4096 * r.pages → bank_place r b + size ≤ 4096 * pages_of r
bank_within r b size lt le =
    let rows : (b + 1) * r.pages ≤ r.number * r.pages = mul_le (b + 1) r.number r.pages (omega arith) in
    omega (arith, rows, le)

-- a block begins within the image
pub block_begins : (size log i : ℕ) → i < block_count size log → i * 2 ^ log < size
block_begins size log i lt = begins (2 ^ log) ((size + 2 ^ log - 1) / 2 ^ log) (pow_pos log) lt (div-add-mod' (size + 2 ^ log - 1) (2 ^ log))
  where
    begins : (n q : ℕ) → 0 < n → i < q → q * n + (size + n - 1) % n ≡ size + n - 1 → i * n < size
    begins n q some below e =
        let rows : (i + 1) * n ≤ q * n = mul_le (i + 1) q n (omega (arith, below)) in
        omega (arith, rows, e, some)

pub block_in_size : (size log i : ℕ) → i < block_count size log → i * 2 ^ log + block_length size log i ≤ size
block_in_size size log i lt =
    let begins : i * 2 ^ log < size = block_begins size log i lt in
    let p : ℕ = i * 2 ^ log in
    let e : ℕ = (i + 1) * 2 ^ log in
    least p e size (omega (arith, begins))
  where
    least : (p e size : ℕ) → p < size → p + (min size e - p) ≤ size
    least p e size lt = omega arith

module _ (ranges : RangeLaws) (r : Record) (b : ℕ) (old c : List ℕ) (at n : ℕ) (out : SameOutside at n old c) (size : length old ≡ 4096 * pages_of r) (there : b < r.number) where
  pub mark_same : (i : ℕ) → Apart at n (mark_place b i) 1 → get_or c (mark_place b i) 0 ≡ get_or old (mark_place b i) 0
  mark_same i (inl below) = out.before (mark_place b i) (omega (arith, below))
  mark_same i (inr above) = out.after (mark_place b i) above

  block_same : (size log i : ℕ) (block : Option (List ℕ)) → size ≤ 4096 * r.pages → i < block_count size log → Apart at n (mark_place b i) 1
      → ((octets : List ℕ) → block ≡ Some octets → Apart at n (block_place r b log i) (block_length size log i)) → BlockLies r b size log i block old → BlockLies r b size log i block c
  block_same most log i None fits lt apart free lies = mark_same i apart ∙ lies
  block_same most log i (Some octets) fits lt apart free lies =
      let inner = block_in_size most log i lt in
      let within = bank_within r b most there fits in (
        mark_same i apart ∙ lies.0,
        ranges.writes.part_outside old c at n out (block_place r b log i) (block_length most log i) (free octets refl) (omega (arith, inner, within, size)) ∙ lies.1,
      )

  pub bank_same : (entry : BankState) (content : Content) → IsEntryInRange r entry → IsFreeOf r b entry content at n → BankHolds r b entry content old → BankHolds r b entry content c
  bank_same Empty nothing range free holds = tt
  bank_same Empty (held blocks) range free holds = absurd holds
  bank_same Empty (whole octets) range free holds = absurd holds
  bank_same (Filling most log) nothing range free holds = absurd holds
  bank_same (Filling most log) (whole octets) range free holds = absurd holds
  bank_same (Filling most log) (held blocks) range free holds =
      (holds.0, λ i lt. block_same most log i (slice_index_or blocks i None) range.1 lt (free.0 i lt) (λ octets is. free.1 i octets lt is) (holds.1 i lt))
  bank_same (Sealed meta) nothing range free holds = absurd holds
  bank_same (Sealed meta) (held blocks) range free holds = absurd holds
  bank_same (Sealed meta) (whole octets) range free holds =
      let within = bank_within r b meta.size there range.1 in
      (ranges.writes.part_outside old c at n out (bank_place r b) meta.size free (omega (arith, within, size)) ∙ holds.0, holds.1)

-- nothing that a bank holds lies on the control pages
pub control_free : (r : Record) (b : ℕ) (entry : BankState) (content : Content) → IsFreeOf r b entry content 0 8192
control_free r b Empty content = tt
control_free r b (Filling size log) nothing = tt
control_free r b (Filling size log) (whole octets) = tt
control_free r b (Filling size log) (held blocks) = (λ i lt. inr (omega arith), λ i octets lt is. inr (omega arith))
control_free r b (Sealed meta) content = inr (omega arith)

-- whatever the control pages have, the banks hold the same
module _ (ranges : RangeLaws) where
  pub banks_same : (r : Record) (contents : ℕ → Content) (old c : List ℕ) → IsRecord r → length old ≡ 4096 * pages_of r → SameOutside 0 8192 old c
      → ((b : ℕ) → b < r.number → BankHolds r b (entry_of r b) (contents b) old) → (b : ℕ) → b < r.number → BankHolds r b (entry_of r b) (contents b) c
  banks_same r contents old c sound size out holds b lt =
      (bank_same ranges) r b old c 0 8192 out size lt (entry_of r b) (contents b) (sound.entries b lt) (control_free r b (entry_of r b) (contents b)) (holds b lt)

-- an operation on a range past the control pages that has nothing of what the banks hold
module _ (ranges : RangeLaws) where
  pub represents_same : (page : ℕ) (word : Word) (d : StoreState) (old c : List ℕ) (at n : ℕ) → 8192 ≤ at → SameOutside at n old c
      → ((b : ℕ) → b < d.present.number → IsFreeOf d.present b (entry_of d.present b) (content_of_bank d b) at n) → RepresentsAt page word d old → RepresentsAt page word d c
  represents_same page word d old c at n past out free is = record {
    size = out.size ∙ is.size;
    in_range = is.in_range;
    control = control_same page word d.present old c (λ q two. (same_page ranges) old c at n q out (inl (omega (arith, past, two))) (omega (arith, is.size, two))) is.control;
    as_many = is.as_many;
    banks = λ b lt. (bank_same ranges) d.present b old c at n out is.size lt (entry_of d.present b) (content_of_bank d b) (is.in_range.entries b lt) (free b lt) (is.banks b lt);
  }
