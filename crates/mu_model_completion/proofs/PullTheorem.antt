-- Completion without loss, in pull with one receiver.
use Rattle.std.proofs.Common.{◌≡◌, inl, inr, ◌==◌, ◌<◌, ◌≤◌, ◌+◌, ◌-◌, ◌*◌, ℕ, suc, List, [], ◌∷◌, refl, sym, ap, ◌∙◌, false, arith}
use Rattle.std.specs.Prelude.{◌||◌, ◌&&◌, not, if◌then◌else◌}
use Rattle.std.proofs.lemmas.Bool.{eq-eqb}
use Rattle.std.proofs.lemmas.Bool.Decides.{nat_tests}
use Rattle.mu_model_image.specs.Laws.{MetaIsReadBack, FitIsTested}
use Rattle.mu_model_node.specs.declared.NodeConfig.{NodeConfig}
use Rattle.mu_model_client.specs.declared.Sending.{Sending}
use Rattle.mu_model_client.specs.declared.Plan.{Plan}
use Rattle.mu_model_client.specs.Client.{Transfer, block_total, chunk_total}
use Rattle.mu_model_client.specs.Lists as l
use Rattle.mu_model_client_laws.specs.Laws.{KeepsPlan, FieldsAreRead}
use Rattle.mu_model_completion.specs.Turn.{Member, settle}
use Rattle.mu_model_completion.specs.Answering.{reaches}
use Rattle.mu_model_completion.specs.Completion.{CanBegin, Completed, sixteens, pull_turns}
use Rattle.mu_model_completion.proofs.Planned as pl
use Rattle.mu_model_completion.proofs.Planned.{group_reached, no_more, some_chunk}
use Rattle.mu_model_completion.proofs.Sixteens.{Reaches}
use Rattle.mu_model_completion.proofs.Blocks.{Tiles}
use Rattle.mu_model_completion.proofs.Whole as w
use Rattle.mu_model_completion.proofs.PullTurns.{all_blocks}

module _ (laws : KeepsPlan) (fields : FieldsAreRead) (tiles : Tiles) (read : MetaIsReadBack) (tested : FitIsTested) (plan : Plan) (image : List ℕ) (to : ℕ) (members : List Member)
    (from : CanBegin plan image (to ∷ []) members) (pull : plan.sending.mode ≡ 2) where
  abbrev p : Sending
  p = plan.sending

  abbrev its : NodeConfig
  its = from.takes.0.config

  abbrev blocks : ℕ
  blocks = pl.blocks tiles read tested plan image from.update

  chunk_some : 0 < p.chunk
  chunk_some = pl.chunk_some tiles read tested plan image from.update

  some_total : 1 ≤ chunk_total p 0
  some_total = let t = pl.total_is tiles read tested plan image from.update in some_chunk tiles p chunk_some 0 (omega (arith, t))

  -- sixteens of chunks, less one
  abbrev m : ℕ
  m = sixteens (chunk_total p 0) - 1

  few_chunks : (b : ℕ) → chunk_total p b ≤ 16 * suc m
  few_chunks b = let fewer = no_more tiles p chunk_some b in omega (arith, fewer)

  -- where its chunks go
  record Goes : Type 0 where
    dest : ℕ
    goes : l.destinations p (its.address ∷ []) ≡ dest ∷ []
    reached : Reaches dest its

  target : Goes
  target =
      let g = group_reached p its from.takes.0.can.in_group (p.group == 0) refl in
      elim g.1 [
        | inl e ↦ record {
          dest = g.0;
          goes = ap (λ z. if z then its.address ∷ [] else l.to_group p.group (its.address ∷ [])) e.0 ∙ ap (λ d. d ∷ []) (sym e.1);
          reached = ap (λ d. reaches d its) e.1 ∙ ap (λ z. z || (not (its.group == 0) && (its.address == its.group))) (eq-eqb its.address its.address refl);
        }
        | inr e ↦ record {
          dest = g.0;
          goes = ap (λ z. if z then its.address ∷ [] else l.to_group p.group (its.address ∷ [])) e.0 ∙ ap (λ d. d ∷ []) (sym e.1);
          reached = ap (λ d. reaches d its) e.1 ∙ e.2;
        }
      ]

  pub pull_completes : (n : ℕ) → pull_turns p ≤ n → Completed from.config.address (to ∷ []) (settle n members)
  pull_completes n le =
      let one : suc m ≡ sixteens (chunk_total p 0) = (let s = some_total in omega (arith, s)) in
      let block : 1 + suc (suc (2 * m)) ≡ 1 + 2 * sixteens (chunk_total p 0) = omega (arith, one) in
      let all : suc blocks * (1 + suc (suc (2 * m))) ≡ block_total p * (1 + 2 * sixteens (chunk_total p 0)) =
      ap (λ k. suc blocks * k) block ∙ ap (λ k. k * (1 + 2 * sixteens (chunk_total p 0))) (sym (pl.total_is tiles read tested plan image from.update)) in
      w.completes laws fields tiles read tested plan image (to ∷ []) members from (suc blocks * (1 + suc (suc (2 * m))))
      (λ ys s. all_blocks laws fields tiles p plan.meta from.config image blocks (w.good laws fields tiles read tested plan image (to ∷ []) members from) (w.whole laws fields tiles read tested plan image (to ∷ []) members from) (w.chunk_some laws fields tiles read tested plan image (to ∷ []) members from) its (eq-eqb p.mode 2 pull) (no_push pull)
      (w.few laws fields tiles read tested plan image (to ∷ []) members from) (w.apart laws fields tiles read tested plan image (to ∷ []) members from) (w.some laws fields tiles read tested plan image (to ∷ []) members from) (w.fits laws fields tiles read tested plan image (to ∷ []) members from) (w.q_some laws fields tiles read tested plan image (to ∷ []) members from) (w.counts laws fields tiles read tested plan image (to ∷ []) members from)
      target.dest target.goes target.reached m few_chunks blocks 0 Transfer tt (omega arith) ys s) n (omega (arith, all, le))
    where
      no_push : p.mode ≡ 2 → (p.mode == 1) ≡ false
      no_push e = grind (arith, nat_tests, e)
