use Rattle.std.proofs.Common.{◌≡◌, ◌∙◌, map, filter, Some}
use Rattle.std.specs.List.{range_with_len}
use Rattle.std.proofs.lemmas.Result.{IfOk-weaker}
use Rattle.vlt_base.specs.States.{has_state}
use Rattle.vlt_core.specs.Instances.{origins}
use Rattle.vlt_core.specs.View.{program_of, func_of}
use Rattle.vlt_rows.proofs.OfOrigins.{origins_each, origins_none}
use Rattle.vlt_rows.proofs.instances.origins.Goals as goal

pub returns-in-Some-key_states_up_to : goal.returns-in-Some-key_states_up_to
returns-in-Some-key_states_up_to c =
    let up = rw c.in-Some-key_states_up_to.is at c.key_states_up_to.ensures in
    IfOk-weaker c.each_of.result (λ os. os ≡ map Some (filter (has_state c.in-Some-key_states_up_to.states) (range_with_len 0 32))) (λ os. os ≡ origins (program_of c.args.p.now) (func_of c.args.f.now))
    (λ os e. e ∙ origins_each (program_of c.args.p.now) (func_of c.args.f.now) _ c.in-Some.bound c.in-Some-key_states_up_to.states c.bound.ensures c.in-Some.is up) c.each_of.ensures

pub returns-in-None : goal.returns-in-None
returns-in-None c =
    let up = rw c.in-None.is at c.key_states_up_to.ensures in
    c.new.ensures ∙ origins_none (program_of c.args.p.now) (func_of c.args.f.now) _ c.in-Some.bound c.bound.ensures c.in-Some.is up
