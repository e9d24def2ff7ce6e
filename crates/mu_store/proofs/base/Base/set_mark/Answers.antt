use Rattle.std.proofs.Common.{◌∙◌, ◌+◌, ◌≤◌, [], ◌∷◌, List, ℕ, IsTrue, length, sym, subst, refl, arith}
use Rattle.mu_model_flash.specs.Bits.{SameOutside}
use Rattle.mu_store.proofs.FreeBase.{still_place}
use Rattle.mu_store.proofs.RunLemmas.{told_back}
use Rattle.mu_store.proofs.base.Base.set_mark.Goals as goal

pub invariant_of-result : goal.invariant_of-result
invariant_of-result g c =
    let a = g.F.Flash.seen c.args.self.flash in
    let b = g.F.Flash.seen c.write_mark.new.flash in
    let ran = c.in-Ok.ensures.operations in
    let out : IsTrue a.told → SameOutside c.args.at 1 a.octets b.octets = λ told.
    let within : c.args.at + 1 ≤ length a.octets = omega (arith, ((g.met.F.Flash.sound c.args.self.flash).is_image told).size, c.args.self.pages, c.requires.within) in
    subst (λ (x : List ℕ). SameOutside c.args.at 1 a.octets x) (sym (ran.ends told)) (c.known.ensures.ranges.writes.outside_written a.octets c.args.at 1 within (254 ∷ []) refl) in
    record {
      is_place = (still_place c.known.ensures) a b c.args.self.place.page c.args.self.place.fresh c.args.at 1 (g.met.F.Flash.sound c.args.self.flash) c.args.self.is_place c.requires.past ran.keeps.pages (told_back a b ran.keeps) out;
      pages = ran.keeps.pages ∙ c.args.self.pages;
      in_range = c.args.self.in_range;
    }
