use Rattle.std.proofs.Common.{map, sym, ap, ◌∙◌, subst}
use Rattle.vlt_core.specs.View.{program_of, func_of, keys_of, case_key_of, case_of}
use Rattle.vlt_externals.specs.Results.Stated.{SetsCase}
use Rattle.vlt_externals.specs.HostCalls.Heeded.{variant_view}
use Rattle.vlt_externals.proofs.OfHostCalls.Answered.{case_set}
use Rattle.vlt_externals.proofs.host_calls.heeding.set_result.Goals as goal

pub returns-in-Some-read_case-clause-sets : goal.returns-in-Some-read_case-clause-sets
returns-in-Some-read_case-clause-sets c =
    case_set (program_of c.args.program.now) (func_of c.args.g.now) (keys_of c.args.keys.now) c.args.left.now (record { type = c.in-Some.t.0; args = keys_of c.in-Some.args.now }) (sym c.variant_of.ensures ∙ ap variant_view c.in-Some.is) c.in-Some-read_case.read.case c.in-Some-read_case.read.left.now (case_of c.in-Some-read_case.read.decl.now) c.in-Some-read_case.ensures.number c.in-Some-read_case.ensures.decl c.args.heap.now c.set_case.new.heap c.args.values.now
    (subst (λ l. SetsCase (keys_of c.args.keys.now) (keys_of c.in-Some.args.now) (map case_key_of l) c.in-Some-read_case.read.left.now c.args.values.now c.args.heap.now c.set_case.new.heap) c.as_slice-listed.ensures c.set_case.ensures.sets)
