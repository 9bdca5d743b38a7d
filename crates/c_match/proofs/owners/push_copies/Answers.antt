use Rattle.std.proofs.Common.{◌≡◌, ◌++◌, length, min, replicate, Some, sym, ap, ap₂, ◌∙◌}
use Rattle.std.proofs.lemmas.List.{length-map}
use Rattle.vlt_base.specs.declared.ids.VarId.{VarId}
use Rattle.vlt_core.specs.View.{vars_of}
use Rattle.c_lower.specs.Statements.{arm_copies, case_positions, variant_type}
use Rattle.c_lower_exprs.specs.Scopes.{func_in, program_in}
use Rattle.c_match.specs.Owned.{own_code}
use Rattle.c_match.specs.Owners.{owners_in}
use Rattle.c_match.proofs.Owning.{on_ok, copied_times}
use Rattle.c_match.proofs.owners.push_copies.Goals as goal

pub returns : goal.returns
returns c =
    let p = program_in c.args.scope.now in
    let f = func_in c.args.scope.now in
    let n = c.args.n in
    let old = c.args.owners.now in
    let k = c.args.case in
    let v = c.args.v.0 in
    let places = case_positions p (variant_type f v) k in
    let vs = vars_of c.args.vars.now in
    let payloads : c.len-payloads.result ≡ length places = c.len-payloads.ensures ∙ ap length (c.in_ok-positions.ensures ∙ ap (λ t. case_positions p t k) c.variant_type.ensures) in
    let times : c.min.result ≡ min (length places) (length vs) = c.min.ensures ∙ ap₂ min payloads (sym (length-map c.args.vars.now (λ (v : VarId). v.0))) in
    on_ok c.push.result (c.push.new.owners ≡ old ++ replicate c.min.result (Some n)) (c.push.new.owners ≡ old ++ owners_in (own_code n (arm_copies p f v places vs)))
    (λ e. e ∙ ap (λ k. old ++ replicate k (Some n)) times ∙ ap (λ l. old ++ l) (copied_times p f v n places vs)) c.push.ensures
