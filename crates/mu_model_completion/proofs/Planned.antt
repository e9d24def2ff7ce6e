-- What is known of an update from its plan and its image, and of a node that takes it.
use Rattle.std.proofs.Common.{◌≡◌, ◌⊎◌, inl, inr, ◌<◌, ◌≤◌, ◌+◌, ◌-◌, ◌*◌, ◌^◌, ◌==◌, ℕ, zero, suc, List, refl, sym, ap, ◌∙◌, true, false, Bool, arith, length, lit≤}
use Rattle.std.specs.Prelude.{◌≢◌, ◌&&◌, ◌||◌, not, nat_lt}
use Rattle.std.proofs.lemmas.Bool.{eq-eqb}
use Rattle.std.proofs.lemmas.Bool.Decides.{nat_tests}
use Rattle.std.proofs.lemmas.Nat.{pow_pos}
use Rattle.std.proofs.Math.Nat.{suc-mul, le-div_iff_mul-le, pow-le-pow_right}
use Rattle.mu_model_image.specs.Pieces.{piece_count, block_length}
use Rattle.mu_model_image.specs.Laws.{MetaIsReadBack, FitIsTested}
use Rattle.mu_model_wire.specs.Reports.{has, every_number}
use Rattle.mu_model_node.specs.declared.NodeConfig.{NodeConfig}
use Rattle.mu_model_node.specs.NodeState.{NodeState}
use Rattle.mu_model_client.specs.declared.Sending.{Sending}
use Rattle.mu_model_client.specs.declared.Plan.{Plan}
use Rattle.mu_model_client.specs.Client.{block_total, chunk_total, full_chunks}
use Rattle.mu_model_completion.specs.Completion.{IsUpdate, CanTake}
use Rattle.mu_model_completion.specs.Answering.{reaches}
use Rattle.mu_model_completion.proofs.Asking.{Misses}
use Rattle.mu_model_completion.proofs.Nodes.{Offer}
use Rattle.mu_model_completion.proofs.First.{Good, Pushes, Pulls}
use Rattle.mu_model_completion.proofs.Pieces.{fewer_pieces}
use Rattle.mu_model_completion.proofs.Blocks.{Tiles}

pub has_every : (n k : ℕ) → k < n → has (every_number n) k ≡ true
has_every zero k lt = absurd (omega (arith, lt))
has_every (suc n) zero lt = refl
has_every (suc n) (suc k) lt = has_every n k (omega (arith, lt))

pub both_false : (a b : Bool) → a ≡ false → b ≡ false → (a || b) ≡ false
both_false a b e f = rw (e, f) refl

-- a message to a node's address misses the others
pub misses : (a : ℕ) (c : NodeConfig) → a < 0x8000 → (a ≢ c.address) → (c.group ≡ 0) ⊎ (0xC000 ≤ c.group) → Misses a c
misses a c unicast other group =
    both_false (a == c.address) (not (c.group == 0) && (a == c.group)) (differs a c.address other) (no_group group)
  where
    differs : (a b : ℕ) → a ≢ b → (a == b) ≡ false
    differs a b h = grind (arith, nat_tests, h)

    no_group : (c.group ≡ 0) ⊎ (0xC000 ≤ c.group) → (not (c.group == 0) && (a == c.group)) ≡ false
    no_group (inl e) = ap (λ z. not z && (a == c.group)) (eq-eqb c.group 0 e)
    no_group (inr h) = and_false (not (c.group == 0)) (a == c.group) (grind (arith, nat_tests, h, unicast))
      where
        and_false : (x y : Bool) → y ≡ false → (x && y) ≡ false
        and_false true y e = e
        and_false false y e = refl

-- ---- counts of blocks and chunks

next_mul : (k part : ℕ) → (k + 1) * part ≡ k * part + part
next_mul k part = let h = suc-mul k part in let e : suc k ≡ k + 1 = omega arith in rw e at h

module _ (tiles : Tiles) (p : Sending) (chunk_some : 0 < p.chunk) where
  some_length : (b : ℕ) → b < block_total p → 0 < block_length p.size p.log b
  some_length b lt =
      let within : b * 2 ^ p.log < p.size = (tiles.blocks_within p.size p.log b).0 lt in
      let e = next_mul b (2 ^ p.log) in
      let pos = pow_pos p.log in
      omega (arith, within, e, pos)

  pub some_chunk : (b : ℕ) → b < block_total p → 0 < chunk_total p b
  some_chunk b lt =
      let long = some_length b lt in
      (tiles.chunks_within (block_length p.size p.log b) p.chunk 0 chunk_some).1 (omega (arith, long))

  no_longer : (b : ℕ) → block_length p.size p.log b ≤ block_length p.size p.log 0
  no_longer b = let e = next_mul b (2 ^ p.log) in let f = next_mul 0 (2 ^ p.log) in omega (arith, e, f)

  pub no_more : (b : ℕ) → chunk_total p b ≤ chunk_total p 0
  no_more b = fewer_pieces (block_length p.size p.log b) (block_length p.size p.log 0) p.chunk chunk_some (no_longer b)

full_few : (p : Sending) → p.log ≤ 14 → 8 ≤ p.chunk → full_chunks p ≤ 2048
full_few p log least =
    let small : 2 ^ p.log ≤ 2 ^ 14 = pow-le-pow_right {n = 2} (lit≤ tt) log in
    let fewer = fewer_pieces (2 ^ p.log) 16384 p.chunk (omega (arith, least)) (omega (arith, small)) in
    let most : piece_count 16384 p.chunk ≤ 2048 = not_more p.chunk least in
    omega (arith, fewer, most)
  where
    not_more : (c : ℕ) → 8 ≤ c → piece_count 16384 c ≤ 2048
    not_more c least = elim (which (piece_count 16384 c)) [
      | inl h ↦ h
      | inr h ↦ (let k : 2049 * c ≤ 16384 + c - 1 = (le-div_iff_mul-le (positive c least)).0 h in absurd (omega (arith, k, least)))
    ]
      where
        which : (n : ℕ) → (n ≤ 2048) ⊎ (2049 ≤ n)
        which n = grind arith

        positive : (c : ℕ) → 8 ≤ c → 0 < c
        positive c least = omega (arith, least)

-- where chunks for a node go: to its address, or to its group
pub group_reached : (p : Sending) (config : NodeConfig) → (p.group ≡ 0) ⊎ (config.group ≡ p.group) → (zero : Bool) → (p.group == 0) ≡ zero
    → (dest : ℕ) × (((p.group == 0) ≡ true × (dest ≡ config.address)) ⊎ ((p.group == 0) ≡ false × (dest ≡ p.group) × (reaches p.group config ≡ true)))
group_reached p config g true e = (config.address, inl (e, refl))
group_reached p config (inl g) false e = absurd (grind (arith, sym e ∙ eq-eqb p.group 0 g))
group_reached p config (inr g) false e = (p.group, inr (e, refl, or_right (p.group == config.address) (not (config.group == 0) && (p.group == config.group)) both))
  where
    or_right : (x y : Bool) → y ≡ true → (x || y) ≡ true
    or_right true y h = refl
    or_right false y h = h

    both : (not (config.group == 0) && (p.group == config.group)) ≡ true
    both =
        ap (λ z. not (z == 0) && (p.group == z)) g
        ∙ (ap (λ z. not z && (p.group == p.group)) e ∙ eq-eqb p.group p.group refl)

-- ---- a plan and its image

module _ (tiles : Tiles) (read : MetaIsReadBack) (tested : FitIsTested) (plan : Plan) (image : List ℕ) (update : IsUpdate plan image) where
  abbrev p : Sending
  p = plan.sending

  size_some : 0 < p.size
  size_some = let s = update.meta.some in let e = update.size in omega (arith, s, e)

  pub chunk_some : 0 < p.chunk
  chunk_some = let c = update.chunk_least in omega (arith, c)

  pub whole : length image ≡ p.size
  whole = update.fit.size ∙ sym update.size

  total_some : 0 < block_total p
  total_some = (tiles.blocks_within p.size p.log 0).1 (let s = size_some in omega (arith, s))

  -- all but one
  abbrev pub blocks : ℕ
  blocks = block_total p - 1

  pub total_is : block_total p ≡ suc blocks
  total_is = let s = total_some in omega (arith, s)

  pub few_chunks : (nat_lt 376 p.chunk || nat_lt 2048 (full_chunks p)) ≡ false
  few_chunks =
      both_false (nat_lt 376 p.chunk) (nat_lt 2048 (full_chunks p)) (let c = update.chunk_most in grind (arith, nat_tests, c)) (let f = full_few p update.log_most update.chunk_least in grind (arith, nat_tests, f))

  pub good : Good p blocks
  good = record { long = few_chunks; total = total_is }

  pub pushes : p.mode ≡ 1 → Pushes p
  pushes push = record { push = eq-eqb p.mode 1 push; no_pull = (let e = push in grind (arith, nat_tests, e)) }

  pub pulls : p.mode ≡ 2 → Pulls p
  pulls pull = record { no_push = (let e = pull in grind (arith, nat_tests, e)); pull = eq-eqb p.mode 2 pull }

  pub counts : (b : ℕ) → b < suc blocks → (c : ℕ) × (chunk_total p b ≡ suc c)
  counts b lt =
      let t = total_is in
      let s = some_chunk tiles p chunk_some b (omega (arith, lt, t)) in
      (chunk_total p b - 1, omega (arith, s))

  pub offer : (config : NodeConfig) (state : NodeState) (can : CanTake plan config state) → Offer p plan.meta image state.durable.capacity can.active
  offer config state can = record {
    metadata = read plan.meta update.meta;
    size = update.size;
    fit = (tested image plan.meta).1 update.fit;
    room = (let r = can.room in grind (arith, nat_tests, r));
    newer = (let o = can.older in grind (arith, nat_tests, o));
    log = both_false (nat_lt p.log 12) (nat_lt 14 p.log) (let l = update.log_least in grind (arith, nat_tests, l)) (let l = update.log_most in grind (arith, nat_tests, l));
    chunk = both_false (nat_lt p.chunk 8) (nat_lt 376 p.chunk) (let l = update.chunk_least in grind (arith, nat_tests, l)) (let l = update.chunk_most in grind (arith, nat_tests, l));
  }
