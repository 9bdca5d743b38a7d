use Rattle.std.proofs.Common.{◌≡◌, ◌++◌, drop, map}
use Rattle.vlt_core.specs.View as view
use Rattle.c_match.specs.Owned.{owned_lowering}
use Rattle.c_match.specs.Apart.{all_statements}
use Rattle.c_match.specs.Owners.{owners_in, bodies_from, number_after}
use Rattle.c_match.proofs.owners.owners_of.Given as goal

-- what was added, and then the owners that are left, is the whole
abbrev pub invariant-loop-func : goal.invariant-loop-func
invariant-loop-func l =
    let p = view.program_of l.program in
    let rest = map view.func_of (drop l.func-index l.func-items) in
    record {
      owners : l.owners ++ owners_in (bodies_from p l.next rest) ≡ owners_in (owned_lowering p);
      counted : number_after l.next rest ≡ all_statements p;
    }
