use Rattle.std.proofs.Common.{◌≡◌, ◌∙◌, ◌⊎◌, ⊎_elim, ℕ, ◌+◌, ◌*◌, ◌/◌, ◌%◌, ◌^◌, ◌<◌, ◌≤◌, sym, subst, ap, arith}
use Rattle.mu_store.proofs.filling.block_page.Goals as goal

twelve : (q i : ℕ) → i < 256 → 4096 * ((4096 * q + i * 4096 % 4294967296) / 4096) ≡ 4096 * q + i * 4096
twelve q i lt = omega arith

thirteen : (q i : ℕ) → i < 256 → 4096 * ((4096 * q + i * 8192 % 4294967296) / 4096) ≡ 4096 * q + i * 8192
thirteen q i lt = omega arith

fourteen : (q i : ℕ) → i < 256 → 4096 * ((4096 * q + i * 16384 % 4294967296) / 4096) ≡ 4096 * q + i * 16384
fourteen q i lt = omega arith

page_of : (q i log : ℕ) → i < 256 → 12 ≤ log → log ≤ 14 → 4096 * ((4096 * q + i * 2 ^ log % 4294967296) / 4096) ≡ 4096 * q + i * 2 ^ log
page_of q i log lt least few = ⊎_elim
    (λ is. along is (twelve q i lt))
    (λ more. ⊎_elim (λ is. along is (thirteen q i lt)) (λ is. along is (fourteen q i lt)) more)
    (split log least few)
  where
    split : (l : ℕ) → 12 ≤ l → l ≤ 14 → (l ≡ 12) ⊎ ((l ≡ 13) ⊎ (l ≡ 14))
    split l ge le = grind arith

    along : {n : ℕ} → log ≡ n → 4096 * ((4096 * q + i * 2 ^ n % 4294967296) / 4096) ≡ 4096 * q + i * 2 ^ n → 4096 * ((4096 * q + i * 2 ^ log % 4294967296) / 4096) ≡ 4096 * q + i * 2 ^ log
    along is e = subst (λ (l : ℕ). 4096 * ((4096 * q + i * 2 ^ l % 4294967296) / 4096) ≡ 4096 * q + i * 2 ^ l) (sym is) e

pub returns : goal.returns
returns c =
    let q : ℕ = 2 + c.args.fields.now.number + c.args.bank * c.args.fields.now.pages in
    ap (λ (p : ℕ). 4096 * ((p + c.args.i * 2 ^ c.args.log % 4294967296) / 4096)) c.bank_place.ensures ∙ page_of q c.args.i c.args.log c.requires.few c.requires.log_least c.requires.log_most
