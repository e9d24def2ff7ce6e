use Rattle.std.proofs.Common.{◌≡◌, ◌∙◌, ℕ, ◌+◌, ◌-◌, ◌*◌, ◌++◌, List, length, take, ap, sym, arith}
use Rattle.std.specs.List.{flat_map}
use borrow.Rule.Slice.PartMut.{put_mid}
use Rattle.std.proofs.lemmas.List.{length-take-le, take_all}
use Rattle.mu_distmsg.specs.declared.message.ReceiverRow.{ReceiverRow}
use Rattle.mu_model_record.specs.Record.{zeros}
use Rattle.mu_distributor_note.proofs.RowOctets.{row_octets, length_rows, rows_written, row_put, row_next}
use Rattle.mu_distributor_note.proofs.writing.put_rows.Goals as goal

pub loop-i-preserved : goal.loop-i-preserved
loop-i-preserved c =
    let n : ℕ = c.loop-i.i in
    let rows : List ReceiverRow = c.args.rows.now in
    let done : List ℕ = flat_map row_octets (take n rows) in
    let part : List ℕ = c.copy_from_slice.new.self in
    let size : length done ≡ 6 * n = length_rows (take n rows) ∙ ap (λ (m : ℕ). 6 * m) (length-take-le n rows (omega arith)) in
    ap (λ (l : List ℕ). put_mid (6 * n) (6 * n + 6 - 6 * n) l part) c.loop-i.invariant
    ∙ row_put done part (6 * n) (6 * n + 6 - 6 * n) (1600 - 6 * n) (1600 - 6 * (n + 1)) size (omega arith) (omega arith)
    ∙ ap (λ (l : List ℕ). l ++ zeros (1600 - 6 * (n + 1))) (sym (row_next rows n _ part c.loop-i-test.true (c.copy_from_slice.ensures.after ∙ c.row_octets-row.ensures)))

pub returns : goal.returns
returns c =
    let rows : List ReceiverRow = c.args.rows.now in
    let all : c.loop-i.i ≡ length rows = omega (arith, c.loop-i-test.false, c.loop-i.auto.i-end) in
    c.loop-i.invariant
    ∙ ap (λ (l : List ReceiverRow). flat_map row_octets l ++ zeros (1600 - 6 * c.loop-i.i)) (take_all c.loop-i.i rows c.loop-i-test.false)
    ∙ ap (λ (m : ℕ). flat_map row_octets rows ++ zeros (1600 - 6 * m)) all
    ∙ ap (λ (l : List ℕ). l ++ zeros (1600 - 6 * length rows)) (rows_written rows)
