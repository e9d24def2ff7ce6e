use Rattle.std.proofs.Common.{◌≡◌, ◌∙◌, ◌+◌, ◌*◌, ◌≤◌, ℕ, IsTrue, List, length, replicate, sym, subst, arith}
use Rattle.mu_model_image.specs.Pieces.{piece_count}
use Rattle.mu_model_flash.specs.Bits.{blank, part_of, SameOutside}
use Rattle.mu_model_flash.specs.Run.{either, Ran, Broke}
use Rattle.mu_model_record.specs.Turns.{StaysOutside}
use Rattle.mu_model_record.specs.Represents.{RepresentsStore}
use Rattle.mu_model_record.specs.Store.{StoreState}
use Rattle.std.proofs.lemmas.List.{replicate-append-replicate}
use Rattle.mu_model_record.specs.Ways.{as_store}
use Rattle.mu_store.proofs.FreeBase.{free_ran, free_broke, still_holds, still_place}
use Rattle.mu_store.proofs.BlockPut.{free_less, two_ran, two_broke}
use Rattle.mu_store.proofs.PartLemmas.{blank_in, wider}
use Rattle.mu_store.proofs.RunLemmas.{told_back, told_on}
use Rattle.mu_store.proofs.base.Base.put.Goals as goal

pub program_pages-requires-clause-is_blank : goal.program_pages-requires-clause-is_blank
program_pages-requires-clause-is_blank g c now =
    let a = g.F.Flash.seen c.args.self.flash in
    let b = g.F.Flash.seen c.erase_pages.new.flash in
    let told = told_back a b c.in-Ok.ensures.keeps now in
    let at : ℕ = 4096 * c.args.first in
    let len : ℕ = length c.args.octets.now in
    let many : length c.args.octets.now ≤ 4096 * c.div_ceil-pages.result = omega arith in
    let within : at + 4096 * c.div_ceil-pages.result ≤ length b.octets = omega (arith, ((g.met.F.Flash.sound c.erase_pages.new.flash).is_image now).size, c.in-Ok.ensures.keeps.pages, c.args.self.pages, c.requires.within) in
    let zero : at + 0 ≡ at = omega arith in
    subst (λ (n : ℕ). part_of b.octets n (length c.args.octets.now) ≡ blank (length c.args.octets.now)) zero (blank_in b.octets at (4096 * c.div_ceil-pages.result) 0 (length c.args.octets.now) within (omega (arith, many)) (c.in-Ok.ensures.blank told))

pub returns-in-Err-clause-runs : goal.returns-in-Err-clause-runs
returns-in-Err-clause-runs g c d holds free =
    let a = g.F.Flash.seen c.args.self.flash in
    let b = g.F.Flash.seen c.erase_pages.new.flash in
    let n : ℕ = piece_count (length c.args.octets.now) 4096 in
    let pages : c.div_ceil-pages.result ≡ piece_count (length c.args.octets.now) 4096 = omega arith in
    let place = c.args.self.place in
    let broke = subst (λ (k : ℕ). Broke (either (StaysOutside (4096 * c.args.first) (4096 * k) a.octets)) tt (replicate k tt) a b) pages (c.in-Err.ensures.runs holds.at.on) in
    subst (λ (l : List StoreState). Broke (either RepresentsStore) d l a b) (replicate-append-replicate n n d)
    ((c.runs.ensures.read c.args.self.flash c.erase_pages.new.flash).longer as_store d (replicate n d) (replicate n d)
    ((free_broke c.known.ensures) a b (c.runs.ensures.read c.args.self.flash c.erase_pages.new.flash) place.page place.fresh d holds.at (4096 * c.args.first) (4096 * piece_count (length c.args.octets.now) 4096) (omega (arith, c.requires.past)) free (piece_count (length c.args.octets.now) 4096) broke))

pub invariant_of-result : goal.invariant_of-result
invariant_of-result g c =
    let a = g.F.Flash.seen c.args.self.flash in
    let b = g.F.Flash.seen c.erase_pages.new.flash in
    let f = g.F.Flash.seen c.program_pages.new.flash in
    let many : length c.args.octets.now ≤ 4096 * c.div_ceil-pages.result = omega arith in
    let keeps = (c.runs.ensures.join c.args.self.flash c.erase_pages.new.flash c.program_pages.new.flash).keeps c.in-Ok.ensures.keeps c.in-Ok-program_pages.ensures.keeps in
    let out : IsTrue a.told → SameOutside (4096 * c.args.first) (4096 * c.div_ceil-pages.result) a.octets f.octets = λ told.
    c.known.ensures.ranges.writes.outside_on (4096 * c.args.first) (4096 * c.div_ceil-pages.result) a.octets b.octets f.octets (c.in-Ok.ensures.outside told)
    (wider (4096 * c.args.first) (4096 * c.div_ceil-pages.result) (4096 * c.args.first) (length c.args.octets.now) b.octets f.octets (omega arith) (omega (arith, many)) (c.in-Ok-program_pages.ensures.outside (told_on a b c.in-Ok.ensures.keeps told))) in
    record {
      is_place = (still_place c.known.ensures) a f c.args.self.place.page c.args.self.place.fresh (4096 * c.args.first) (4096 * c.div_ceil-pages.result) (g.met.F.Flash.sound c.args.self.flash) c.args.self.is_place (omega (arith, c.requires.past)) keeps.pages (told_back a f keeps) out;
      pages = keeps.pages ∙ c.args.self.pages;
      in_range = c.args.self.in_range;
    }

pub returns-in-Err-program_pages-clause-runs : goal.returns-in-Err-program_pages-clause-runs
returns-in-Err-program_pages-clause-runs g c d holds free =
    let a = g.F.Flash.seen c.args.self.flash in
    let b = g.F.Flash.seen c.erase_pages.new.flash in
    let f = g.F.Flash.seen c.program_pages.new.flash in
    let n : ℕ = piece_count (length c.args.octets.now) 4096 in
    let pages : c.div_ceil-pages.result ≡ piece_count (length c.args.octets.now) 4096 = omega arith in
    let place = c.args.self.place in
    let ran = subst (λ (k : ℕ). Ran (either (StaysOutside (4096 * c.args.first) (4096 * k) a.octets)) tt (replicate k tt) a b) pages (c.in-Ok.ensures.runs holds.at.on) in
    let out = subst (λ (k : ℕ). SameOutside (4096 * c.args.first) (4096 * k) a.octets b.octets) pages (c.in-Ok.ensures.outside holds.at.told) in
    let then = (still_holds c.known.ensures) a b place.page place.fresh d holds.at (4096 * c.args.first) (4096 * piece_count (length c.args.octets.now) 4096) (omega (arith, c.requires.past)) free (told_on a b ran.keeps holds.at.told) (ran.on ∙ sym holds.at.on) out in
    two_broke d n n a b f (c.runs.ensures.join c.args.self.flash c.erase_pages.new.flash c.program_pages.new.flash)
    ((free_ran c.known.ensures) a b (c.runs.ensures.read c.args.self.flash c.erase_pages.new.flash) place.page place.fresh d holds.at (4096 * c.args.first) (4096 * piece_count (length c.args.octets.now) 4096) (omega (arith, c.requires.past)) free (piece_count (length c.args.octets.now) 4096) ran)
    ((free_broke c.known.ensures) b f (c.runs.ensures.read c.erase_pages.new.flash c.program_pages.new.flash) place.page place.fresh d then (4096 * c.args.first) (length c.args.octets.now) (omega (arith, c.requires.past)) (free_less d (4096 * c.args.first) (4096 * piece_count (length c.args.octets.now) 4096) (length c.args.octets.now) (omega arith) free)
    (piece_count (length c.args.octets.now) 4096) (c.in-Err-program_pages.ensures.runs ran.on))

pub returns-in-Ok-program_pages-clause-runs : goal.returns-in-Ok-program_pages-clause-runs
returns-in-Ok-program_pages-clause-runs g c d holds free =
    let a = g.F.Flash.seen c.args.self.flash in
    let b = g.F.Flash.seen c.erase_pages.new.flash in
    let f = g.F.Flash.seen c.program_pages.new.flash in
    let n : ℕ = piece_count (length c.args.octets.now) 4096 in
    let pages : c.div_ceil-pages.result ≡ piece_count (length c.args.octets.now) 4096 = omega arith in
    let place = c.args.self.place in
    let ran = subst (λ (k : ℕ). Ran (either (StaysOutside (4096 * c.args.first) (4096 * k) a.octets)) tt (replicate k tt) a b) pages (c.in-Ok.ensures.runs holds.at.on) in
    let out = subst (λ (k : ℕ). SameOutside (4096 * c.args.first) (4096 * k) a.octets b.octets) pages (c.in-Ok.ensures.outside holds.at.told) in
    let told_b = told_on a b ran.keeps holds.at.told in
    let then = (still_holds c.known.ensures) a b place.page place.fresh d holds.at (4096 * c.args.first) (4096 * piece_count (length c.args.octets.now) 4096) (omega (arith, c.requires.past)) free told_b (ran.on ∙ sym holds.at.on) out in
    let less = free_less d (4096 * c.args.first) (4096 * piece_count (length c.args.octets.now) 4096) (length c.args.octets.now) (omega arith) free in
    let second = c.in-Ok-program_pages.ensures.runs ran.on in (
      two_ran d n n a b f (c.runs.ensures.join c.args.self.flash c.erase_pages.new.flash c.program_pages.new.flash)
          ((free_ran c.known.ensures) a b (c.runs.ensures.read c.args.self.flash c.erase_pages.new.flash) place.page place.fresh d holds.at (4096 * c.args.first) (4096 * piece_count (length c.args.octets.now) 4096) (omega (arith, c.requires.past)) free (piece_count (length c.args.octets.now) 4096) ran)
          ((free_ran c.known.ensures) b f (c.runs.ensures.read c.erase_pages.new.flash c.program_pages.new.flash) place.page place.fresh d then (4096 * c.args.first) (length c.args.octets.now) (omega (arith, c.requires.past)) less (piece_count (length c.args.octets.now) 4096) second),
      record {
        at = (still_holds c.known.ensures) b f place.page place.fresh d then (4096 * c.args.first) (length c.args.octets.now) (omega (arith, c.requires.past)) less (told_on b f second.keeps told_b) (second.on ∙ sym ran.on) (c.in-Ok-program_pages.ensures.outside told_b);
        fields = holds.fields;
      },
    )

pub returns-in-Ok-program_pages-clause-stays : goal.returns-in-Ok-program_pages-clause-stays
returns-in-Ok-program_pages-clause-stays g c told =
    let a = g.F.Flash.seen c.args.self.flash in
    let b = g.F.Flash.seen c.erase_pages.new.flash in
    let f = g.F.Flash.seen c.program_pages.new.flash in
    let many : length c.args.octets.now ≤ 4096 * c.div_ceil-pages.result = omega arith in
    let pages : c.div_ceil-pages.result ≡ piece_count (length c.args.octets.now) 4096 = omega arith in
    subst (λ (k : ℕ). SameOutside (4096 * c.args.first) (4096 * k) a.octets f.octets) pages
    (c.known.ensures.ranges.writes.outside_on (4096 * c.args.first) (4096 * c.div_ceil-pages.result) a.octets b.octets f.octets (c.in-Ok.ensures.outside told)
    (wider (4096 * c.args.first) (4096 * c.div_ceil-pages.result) (4096 * c.args.first) (length c.args.octets.now) b.octets f.octets (omega arith) (omega (arith, many)) (c.in-Ok-program_pages.ensures.outside (told_on a b c.in-Ok.ensures.keeps told))))
