use Rattle.std.proofs.Common.{◌≡◌, ◌≤◌, take}
use Rattle.std.specs.List.{count_by}
use Rattle.vlt_core.specs.View.{ty_of}
use Rattle.c_lower_exprs.specs.Tables.{is_of}
use Rattle.c_lower_exprs.proofs.variants.count.Given as goal

abbrev pub invariant-loop-ty : goal.invariant-loop-ty
invariant-loop-ty l = record {
  is : l.n ≡ count_by (λ t. is_of l.sort (ty_of t)) (take l.ty-index l.payload);
  few : l.n ≤ l.ty-index;
}
