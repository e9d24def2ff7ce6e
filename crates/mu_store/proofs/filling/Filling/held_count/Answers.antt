use Rattle.std.proofs.Common.{◌≡◌, ◌∙◌, ℕ, length, take, sym, ap, arith, rules}
use Rattle.std.specs.Prelude.{is_some}
use Rattle.std.specs.List.{count_by}
use Rattle.mu_model_image.specs.Pieces.{block_count}
use Rattle.mu_model_record.specs.Changes.{blocks_in}
use Rattle.mu_model_record.specs.Store.{Content}
use Rattle.mu_store.proofs.BlockPut.{few_of, blocks_long}
use Rattle.mu_store.proofs.ReadLemmas.{count_same}
use Rattle.mu_store.proofs.filling.Filling.held_count.Goals as goal

pub returns-clause-state : goal.returns-clause-state
returns-clause-state g c d holds =
    let self = c.args.self.now in
    let base = self.base in
    let size : length self.held ≡ 256 = search rules in
    let long : length holds.blocks ≡ block_count self.size self.log = blocks_long d base.fields holds.base.fields self.bank self.size self.log self.there self.entry holds.blocks holds.content (g.F.Flash.seen base.flash) base.place.page base.place.fresh holds.base.at in
    let few = (few_of c.known.ensures) base.fields self.bank self.size self.log base.in_range self.there self.entry in
    c.count_flags.ensures
    ∙ ap (λ (n : ℕ). count_by (λ held. held) (take n self.held)) (c.block_count.ensures.count ∙ sym long)
    ∙ count_same self.held holds.blocks (omega (arith, size, long, few)) (λ i lt. holds.flags i (omega (arith, lt, long)))
    ∙ ap (λ (k : Content). count_by is_some (blocks_in k)) (sym holds.content)
