-- What a record that is written makes of a store's state.
use Rattle.std.proofs.Common.{cond, ◌&&◌, ◌≡◌, ⊎_elim, ℕ, ◌+◌, ◌^◌, ◌<◌, Bool, true, false, List, [], ◌∷◌, length, get_or, refl, sym, ◌∙◌, ap, subst, arith}
use Rattle.std.specs.Prelude.{nat_lt, slice_index_or}
use Rattle.mu_model_flash.specs.Bits.{AreOctets}
use Rattle.mu_model_flash.specs.Flash.{Seen}
use Rattle.mu_model_flash.specs.Run.{last_of}
use Rattle.mu_model_record.specs.declared.Record.{Record}
use Rattle.mu_model_record.specs.declared.BankState.{BankState}
use Rattle.mu_model_record.specs.declared.BankState.TheVariants.{Empty}
use Rattle.mu_model_record.specs.Record.{IsRecord, IsFilling, entry_of}
use Rattle.mu_model_record.specs.Store.{StoreState}
use Rattle.mu_model_record.specs.Next.{IsNext, is_short, record_steps}
use Rattle.mu_model_record.specs.Changes.{next_record, tagged, released, cleared}
use Rattle.mu_record.specs.Place.{HoldsAt}
use Rattle.mu_store.specs.Known.{Known}

pub last_steps : (fresh : ℕ) (d e : StoreState) → last_of d (record_steps fresh d e) ≡ e
last_steps fresh d e = by_test (is_short e.present && nat_lt 0 fresh)
  where
    by_test : (b : Bool) → last_of d (cond b (e ∷ []) (d ∷ e ∷ [])) ≡ e
    by_test true = refl
    by_test false = refl

module _ (known : Known) (a : Seen) (page fresh : ℕ) (d : StoreState) (holds : HoldsAt a page fresh d) (fields : Record) (is : d.present ≡ fields) (not_last : fields.count ≡ 4294967295 → ⊥) (tag : List ℕ) (size : length tag ≡ 1792) (small : AreOctets tag) where
  sound : IsRecord d.present
  sound = holds.represents.in_range

  pub not_worn : d.present.count + 1 < 2 ^ 32
  not_worn = omega (arith, ap (λ (r : Record). r.count) is, not_last, sound.count_most)

  pub tagged_then : IsNext a.octets d (tagged d tag)
  tagged_then = known.states.tagged page holds.word d a.octets holds.represents tag (known.records.tagged d.present tag sound not_worn (size, small))

  pub tagged_is : (tagged d tag).present ≡ next_record fields fields.banks tag
  tagged_is = ap (λ (r : Record). next_record r r.banks tag) is

  pub released_then : (named : List Bool) → IsNext a.octets d (released d named tag)
  released_then named = known.states.released page holds.word d a.octets holds.represents named tag (known.records.released d.present tag sound not_worn (size, small) named)

  pub released_is : (named : List Bool) → (released d named tag).present ≡ next_record fields (cleared Empty named fields.banks) tag
  released_is named = ap (λ (r : Record). next_record r (cleared Empty named r.banks) tag) is

-- no bank that is released is being filled
module _ (known : Known) where
  pub released_rests : (r : Record) (named : List Bool) → ((b : ℕ) → ¬ IsFilling (entry_of r b)) → (b : ℕ) → ¬ IsFilling (slice_index_or (cleared Empty named r.banks) b Empty)
  released_rests r named rests b filling = ⊎_elim
      (λ same. rests b (subst (λ (e : BankState). IsFilling e) same filling))
      (λ gone. subst (λ (e : BankState). IsFilling e) gone filling)
      (known.records.cleared_at named r.banks b)

four_of : {X : Type 0} (xs : List X) (x : X) → length xs ≡ 4 → xs ≡ get_or xs 0 x ∷ get_or xs 1 x ∷ get_or xs 2 x ∷ get_or xs 3 x ∷ []
four_of [] x size = absurd (omega (arith, size))
four_of (a ∷ []) x size = absurd (omega (arith, size))
four_of (a ∷ b ∷ []) x size = absurd (omega (arith, size))
four_of (a ∷ b ∷ c ∷ []) x size = absurd (omega (arith, size))
four_of (a ∷ b ∷ c ∷ e ∷ []) x size = refl
four_of (a ∷ b ∷ c ∷ e ∷ f ∷ xs) x size = absurd (omega (arith, size))

-- the entries, one by one
pub four_cleared : (named : List Bool) (entries : List BankState) (a b c e : BankState) → length named ≡ 4 → length entries ≡ 4
    → a ≡ cond (get_or named 0 false) Empty (get_or entries 0 Empty) → b ≡ cond (get_or named 1 false) Empty (get_or entries 1 Empty)
    → c ≡ cond (get_or named 2 false) Empty (get_or entries 2 Empty) → e ≡ cond (get_or named 3 false) Empty (get_or entries 3 Empty)
    → a ∷ b ∷ c ∷ e ∷ [] ≡ cleared Empty named entries
four_cleared named entries a b c e n_size e_size a_is b_is c_is e_is =
    (λ i. a_is i ∷ b_is i ∷ c_is i ∷ e_is i ∷ []) ∙ (λ i. cleared Empty (sym (four_of named false n_size) i) (sym (four_of entries Empty e_size) i))
