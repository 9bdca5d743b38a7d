use Rattle.std.proofs.Common.{map, sym, ap, ◌∙◌, subst}
use Rattle.vlt_core.specs.View.{program_of, func_of, keys_of, case_key_of, case_of}
use Rattle.vlt_externals.specs.Results.Stated.{ComesLoose}
use Rattle.vlt_externals.specs.HostCalls.Heeded.{variant_view}
use Rattle.vlt_externals.proofs.OfHostCalls.Answered.{case_in}
use Rattle.vlt_externals.proofs.host_calls.heeding.take_result.Goals as goal

pub returns-in-Some-read_case-clause-back : goal.returns-in-Some-read_case-clause-back
returns-in-Some-read_case-clause-back c =
    case_in (program_of c.args.program.now) (func_of c.args.g.now) (keys_of c.args.keys.now) c.args.left.now (record { type = c.in-Some.t.0; args = keys_of c.in-Some.args.now }) (sym c.variant_of.ensures ∙ ap variant_view c.in-Some.is) c.in-Some-read_case.read.case c.in-Some-read_case.read.left.now (case_of c.in-Some-read_case.read.decl.now) c.in-Some-read_case.ensures.number c.in-Some-read_case.ensures.decl c.args.heap.now c.take_case.new.heap c.args.values.now c.take_case.result
    (subst (λ l. ComesLoose (keys_of c.args.keys.now) (keys_of c.in-Some.args.now) (map case_key_of l) c.args.values.now c.args.heap.now c.take_case.new.heap c.take_case.result) c.as_slice.ensures c.take_case.ensures.back)
