-- What a read of octets in memory gives, and what a write of them takes.
use Rattle.std.proofs.Common.{◌≡◌, ℕ, ◌+◌, ◌-◌, ◌<◌, ◌≤◌, Some, List, [], ◌++◌, length, min, take, drop, sym, ◌∙◌, ap, append_assoc, length-append, arith}
use Rattle.std.proofs.lemmas.List.{take_at, drop-drop, take-append-drop, length-take-le, length-drop, nil_from_length, take_all}
use Rattle.mu_model_flash.specs.Bits.{written}

module _ (octets held out got : List ℕ) (at count : ℕ) (within : at ≤ length octets) (held_is : held ≡ octets) (count_as : count ≡ min (length (take (length held - at) (drop at held))) (length out)) (got_as : got ≡ take count (take (length held - at) (drop at held))) where
  rest_is : take (length held - at) (drop at held) ≡ drop at octets
  rest_is =
      take_all (length held - at) (drop at held) (omega (arith, length-drop at held))
      ∙ ap (λ (l : List ℕ). drop at l) held_is

  count_is : count ≡ min (length octets - at) (length out)
  count_is = omega (arith, count_as, ap length rest_is, length-drop at octets)

  got_is : got ≡ take count (drop at octets)
  got_is = got_as ∙ ap (λ (l : List ℕ). take count l) rest_is

  size : length got ≡ count
  size = ap length got_is ∙ length-take-le count (drop at octets) (omega (arith, length-drop at octets, count_is))

  joined : take count (got ++ drop count out) ++ drop (at + count) octets ≡ drop at octets
  joined =
      ap (λ (l : List ℕ). l ++ drop (at + count) octets) (take_at got (drop count out) count size ∙ got_is)
      ∙ ap (λ (l : List ℕ). take count (drop at octets) ++ l) (sym (drop-drop count at octets))
      ∙ take-append-drop count (drop at octets)

  pub gives : Some (drop at octets) ≡ Some (take count (got ++ drop count out) ++ drop (at + count) octets)
  gives = ap (λ (l : List ℕ). Some l) (sym joined)

  pub ends : count ≡ 0 → 0 < length (got ++ drop count out) → drop (at + count) octets ≡ []
  ends none some =
      nil_from_length (drop (at + count) octets) (omega (arith, length-drop (at + count) octets, length-append got (drop count out), length-drop count out, size, count_is, none, some))

-- what was written follows on what was written before
pub takes : (octets bytes : List ℕ) (at n : ℕ) → n ≡ length bytes → at + n ≤ length octets → take (at + n) (written octets at bytes) ≡ take at octets ++ bytes
unfolding written
takes octets bytes at n n_is within =
    let head : length (take at octets) ≡ at = length-take-le at octets (omega arith) in
    let size : length (take at octets ++ bytes) ≡ at + n = omega (arith, length-append (take at octets) bytes, head, n_is) in
    ap (λ (l : List ℕ). take (at + n) l) (sym (append_assoc (take at octets) bytes (drop (at + length bytes) octets)))
    ∙ take_at (take at octets ++ bytes) (drop (at + length bytes) octets) (at + n) size
