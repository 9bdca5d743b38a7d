use Rattle.std.proofs.Common.{◌∙◌, sym}
use Rattle.vlt_core.specs.View.{program_of, func_of}
use Rattle.vlt_core.specs.Lookups.{is_held_before}
use Rattle.vlt_host_acts.specs.Permits.Arguments.{bindings_in, named_in}
use Rattle.vlt_host_acts.proofs.OfPermits.Nexts.{goes, stops, skips}
use Rattle.vlt_host_acts.proofs.permits.permitted.+are_named_in.Goals as goal

pub returns-then-is_named_in : goal.returns-then-is_named_in
returns-then-is_named_in t c = λ objects s.
    goes (named_in (program_of c.args.h.now.program.now) (func_of c.args.f.now) (bindings_in c.args.params.now c.args.args.now) objects) is_held_before
    c.args.clause.now c.e-item.result c.are_named_in.result c.in-len1-up.len_at_least c.e-item.is (sym c.is_before.ensures ∙ c.if-is_before.true)
    (sym (c.is_named_in.ensures objects s) ∙ c.if-is_named_in.true) (c.are_named_in.ensures objects s)

pub returns-else-is_named_in : goal.returns-else-is_named_in
returns-else-is_named_in t c = λ objects s.
    stops (named_in (program_of c.args.h.now.program.now) (func_of c.args.f.now) (bindings_in c.args.params.now c.args.args.now) objects) is_held_before
    c.args.clause.now c.e-item.result c.is_named_in.result c.in-len1-up.len_at_least c.e-item.is (sym c.is_before.ensures ∙ c.if-is_before.true)
    (c.is_named_in.ensures objects s) c.if-is_named_in.false

pub returns-else-is_before : goal.returns-else-is_before
returns-else-is_before t c = λ objects s.
    skips (named_in (program_of c.args.h.now.program.now) (func_of c.args.f.now) (bindings_in c.args.params.now c.args.args.now) objects) is_held_before
    c.args.clause.now c.e-item.result c.are_named_in-else-is_before.result c.in-len1-up.len_at_least c.e-item.is (sym c.is_before.ensures ∙ c.if-is_before.false)
    (c.are_named_in-else-is_before.ensures objects s)
