-- Writing entries one after the other.
use Rattle.std.proofs.Common.{◌≡◌, ℕ, zero, suc, ◌+◌, ◌≤◌, ◌<◌, List, [], ◌∷◌, ◌++◌, length, map, drop, get_or, refl, ap, arith, drop-cons, length-append}
use Rattle.mu_model_wire.specs.Fields.{Field, Shown}
use Rattle.mu_model_wire.specs.Spelling.{entry_spelling, entries_spelling, EntryFits, EntriesFit}

module _ {A : Type 0} (fs : List Field) (view : A → List Shown) where
  -- what was written leaves room for the next entry
  pub room : (xs : List A) (i : ℕ) (d : A) (start out : List ℕ) → i < length xs
      → out ++ entries_spelling fs (map view (drop i xs)) ≡ start ++ entries_spelling fs (map view xs)
      → length start + length (entries_spelling fs (map view xs)) ≤ 380
      → length out + length (entry_spelling fs (view (get_or xs i d))) ≤ 380
  room xs i d start out lt so_far fits =
      let next : entries_spelling fs (map view (drop i xs)) ≡ entry_spelling fs (view (get_or xs i d)) ++ entries_spelling fs (map view (drop (suc i) xs)) = rw (drop-cons xs i d) refl in
      omega (arith, ap (length {A = ℕ}) so_far, ap (length {A = ℕ}) next, length-append {A = ℕ})

  -- each entry of those that fit does
  pub fits_at : (xs : List A) (i : ℕ) (d : A) → i < length xs → EntriesFit fs (map view xs) → EntryFits fs (view (get_or xs i d))
  fits_at [] i d lt fits = absurd (omega arith)
  fits_at (x ∷ xs) zero d lt fits = fits.0
  fits_at (x ∷ xs) (suc i) d lt fits = fits_at xs i d (omega arith) fits.1
