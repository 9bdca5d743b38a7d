use Rattle.vlt_paths.proofs.is_witness.Goals as goal

pub returns-in-None : goal.returns-in-None
returns-in-None c = rw c.in-None.is (rw c.as_slice.ensures at c.is_row_witness.ensures)

pub returns-in-Some : goal.returns-in-Some
returns-in-Some c = rw c.in-Some.is (rw c.as_slice-in-Some.ensures at (rw c.as_slice-in-Some-2.ensures at c.is_join_witness.ensures))
