use Rattle.vlt_kinds_types.proofs.kinds.Kinds.declared.Goals as goal

pub invariant_of-result : goal.invariant_of-result
invariant_of-result c = record {
  small = rw c.as_slice.ensures c.args.self.now.file.small;
  known = rw (c.as_slice.ensures, c.as_slice-2.ensures) c.args.self.now.known;
}
