use Rattle.vlt_kinds.proofs.phases.type_marks.Goals as goal

pub invariant_of-declared : goal.invariant_of-declared
invariant_of-declared c = record {
  small = rw c.as_slice.ensures c.args.file.now.small;
  known = rw c.as_slice.ensures c.requires;
}
