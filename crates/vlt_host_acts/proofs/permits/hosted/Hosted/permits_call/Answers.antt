use Rattle.std.proofs.Common.{◌&&◌, ◌∙◌, sym, ap, map}
use Rattle.vlt_core.specs.View.{program_of, func_of}
use Rattle.vlt_core.specs.KindedHeads.{are_apart, parameters_of}
use Rattle.vlt_host_meaning.specs.Tables.{argument_of}
use Rattle.vlt_host_meaning.specs.Permitted.{arguments_fit, argument_bindings, have_one_object, keys_before, host_keys, are_in_states}
use Rattle.vlt_host_acts.specs.Permits.Arguments.{call_fits}
use Rattle.vlt_host_acts.proofs.OfPermits.Clauses.{call_same}
use Rattle.vlt_host_acts.proofs.permits.hosted.Hosted.permits_call.Goals as goal

pub returns-then-is_entry_function : goal.returns-then-is_entry_function
returns-then-is_entry_function c = λ objects s.
    let p = program_of c.args.self.now.program.now in
    let f = func_of c.args.f.now in
    let args = map argument_of c.args.args.now in
    c.call_fits.ensures objects s ∙ (ap (λ tys. call_fits p f tys args objects) c.parameters.ensures ∙ (call_same p f args objects c.requires.keys ∙
    sym (ap (λ b. b && (arguments_fit objects (parameters_of f) args && (have_one_object (argument_bindings (parameters_of f) args) &&
    (are_apart (keys_before f args objects) && are_in_states p f (host_keys f args objects) objects))))
    (sym c.is_entry_function.ensures ∙ c.if-is_entry_function.true))))
