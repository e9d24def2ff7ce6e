use Rattle.mu_shown.proofs.blob.block_status.Goals as goal

pub returns-in-All : goal.returns-in-All
returns-in-All g c = rw c.in-All.is (c.put_line.ensures _ c.block_status_all.ensures)

pub returns-in-Nothing : goal.returns-in-Nothing
returns-in-Nothing g c = rw c.in-Nothing.is (c.put_line-in-Nothing.ensures _ c.block_status_nothing.ensures)

pub returns-in-Bits : goal.returns-in-Bits
returns-in-Bits g c = rw c.in-Bits.is (c.put_line-in-Bits.ensures _ c.block_status_bits.ensures)

pub returns-in-List : goal.returns-in-List
returns-in-List g c = rw c.in-List.is (c.put_line-in-List.ensures _ c.block_status_list.ensures)
