use Rattle.vlt_views.proofs.tables_view.Goals as goal

pub returns-clause-ok : goal.returns-clause-ok
returns-clause-ok c = rw c.as_slice.ensures at (rw c.as_slice-2.ensures at c.kinds_of.ensures.ok)

pub returns-clause-refused : goal.returns-clause-refused
returns-clause-refused c = rw c.as_slice.ensures at (rw c.as_slice-2.ensures at c.kinds_of.ensures.refused)
