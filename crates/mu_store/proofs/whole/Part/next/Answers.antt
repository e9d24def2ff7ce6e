use Rattle.std.proofs.Common.{rules, ◌≡◌, ℕ, ◌+◌, ◌*◌, List, [], length, take, sym, subst, ap, arith}
use Rattle.std.proofs.lemmas.List.{append-nil, length-take-le}
use Rattle.mu_image.specs.Digests.{HasTaken}
use Rattle.mu_model_flash.specs.Run.{either, Broke}
use Rattle.mu_model_record.specs.Represents.{RepresentsStore}
use Rattle.mu_store.specs.declared.whole.FillWhy.{FillWhy}
use Rattle.mu_store.specs.Source.{Gave}
use Rattle.mu_store.specs.Puts.{page_steps, pages_for, StopsAt}
use Rattle.mu_store.proofs.BlockPut.{free_within}
use Rattle.mu_store.proofs.WholeLemmas.{puts_none}
use Rattle.mu_store.proofs.whole.Part.next.Goals as goal

pub returns-then-count-eq0-clause-piece : goal.returns-then-count-eq0-clause-piece
returns-then-count-eq0-clause-piece g c =
    let zero = c.if-count-eq0.true in
    let piece = c.read_piece.new.piece in
    let long : length c.read_piece.new.piece ≡ 4096 = search rules in
    record {
      piece = [];
      most = omega arith;
      gave = subst (λ (n : ℕ). Gave (g.S.Source.left c.args.source.now) (g.S.Source.left c.read_piece.new.source) (take n piece)) zero c.in-Ok.ensures.gave;
      end = λ lt. c.in-Ok.ensures.end (omega (arith, zero));
      size = omega arith;
      taken = λ octets has. subst (λ (l : List ℕ). HasTaken c.args.self.digesting l) (sym (append-nil octets)) has;
      puts = (puts_none c.known.ensures) g.F.Flash.seen c.runs.ensures (4096 * c.args.page) c.args.self.base (g.met.F.Flash.sound c.args.self.base.flash);
    }

pub returns-in-Ok-put-clause-piece : goal.returns-in-Ok-put-clause-piece
returns-in-Ok-put-clause-piece g c =
    let piece = take c.in-Ok.count c.read_piece.new.piece in
    let whole : length c.read_piece.new.piece ≡ 4096 = search rules in
    let long : length (take c.in-Ok.count c.read_piece.new.piece) ≡ c.in-Ok.count = length-take-le c.in-Ok.count c.read_piece.new.piece (omega (arith, whole, c.in-Ok.ensures.most)) in
    let put = c.in-Ok-put.ensures in
    record {
      piece = piece;
      most = omega (arith, long, c.in-Ok.ensures.most);
      gave = c.in-Ok.ensures.gave;
      end = λ lt. c.in-Ok.ensures.end (omega (arith, long, lt));
      size = ap (λ (n : ℕ). c.args.self.size + n) (sym long);
      taken = c.take.ensures;
      puts = record {
        fields = put.fields;
        place = put.place;
        keeps = put.keeps;
        stays = put.stays;
        put = put.put;
        runs = λ d holds room. put.runs d holds (free_within d room.0 room.1 (4096 * c.args.page) (4096 * pages_for (length (take c.in-Ok.count c.read_piece.new.piece))) room.3 room.4 room.2);
      };
    }

pub returns-in-Err-put-clause-stops : goal.returns-in-Err-put-clause-stops
returns-in-Err-put-clause-stops g c =
    let piece = take c.in-Ok.count c.read_piece.new.piece in
    let whole : length c.read_piece.new.piece ≡ 4096 = search rules in
    let long : length (take c.in-Ok.count c.read_piece.new.piece) ≡ c.in-Ok.count = length-take-le c.in-Ok.count c.read_piece.new.piece (omega (arith, whole, c.in-Ok.ensures.most)) in
    let fail = c.fail-in-Err-put in
    let seen = g.F.Flash.seen in
    let base = c.args.self.base in
    subst (λ (why : FillWhy). StopsAt g.F.Flash.seen (4096 * c.args.page) (g.S.Source.left c.args.source.now) (g.S.Source.left c.read_piece.new.source) base fail.result why) (sym fail.ensures.why) (
      piece,
      omega (arith, long, c.if-count-eq0.false),
      omega (arith, long, c.in-Ok.ensures.most),
      c.in-Ok.ensures.gave,
      λ d holds room.
          subst (λ flash. Broke (either RepresentsStore) d (page_steps (pages_for (length (take c.in-Ok.count c.read_piece.new.piece))) d) (seen base.flash) (seen flash)) (sym fail.ensures.flash)
          (c.in-Err-put.ensures.runs d holds (free_within d room.0 room.1 (4096 * c.args.page) (4096 * pages_for (length (take c.in-Ok.count c.read_piece.new.piece))) room.3 room.4 room.2)),
    )
