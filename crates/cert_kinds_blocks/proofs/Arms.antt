-- Arms, one after another.
use Rattle.std.proofs.Common.{◌≡◌, refl, sym, ap, ◌∙◌, ◌<◌, ◌+◌, ℕ, zero, suc, List, [], ◌∷◌, ◌++◌, drop, length, get_or, drop-cons, add-one, Option, slice_get}
use Rattle.vlt_base.specs.declared.ids.VarId.{VarId}
use Rattle.vlt_core.specs.Core.{Ty, Func}
use Rattle.vlt_core.specs.declared.program.Arm.{Arm}
use Rattle.vlt_core.specs.View.{vars_of}
use Rattle.vlt_core.specs.KindedScopes.{Ids, with_var}
use Rattle.vlt_core.specs.KindedBodies.{arm_vars_broken, with_vars}
use Rattle.cert_kinds_types.specs.Least.{least, lesser}
use Rattle.cert_kinds_types.proofs.Smallest.{joined, one_more}
use Rattle.cert_kinds_stmts.specs.Opened.{opened_var_broken}
use Rattle.cert_kinds_blocks.specs.Switches.{cases_of}

pub as_many_cases : (arms : List Arm) → length (cases_of arms) ≡ length arms
as_many_cases [] = refl
as_many_cases (a ∷ arms) = ap suc (as_many_cases arms)

arm_cons : (f : Func) (ids : Ids) (ws : List Ty) (i v : ℕ) (vs : List ℕ) →
    arm_vars_broken f ids (drop i ws) (v ∷ vs) ≡ opened_var_broken f ids (slice_get ws i) v ++ arm_vars_broken f (with_var f v ids) (drop (suc i) ws) vs
arm_cons f ids [] zero v vs = refl
arm_cons f ids [] (suc i) v vs = refl
arm_cons f ids (w ∷ ws) zero v vs = refl
arm_cons f ids (w ∷ ws) (suc i) v vs = arm_cons f ids ws i v vs

-- where the loop comes to the next variable
pub arm_next : (f : Func) (ids : Ids) (ws : List Ty) (found : Option ℕ) (xs : List VarId) (i : ℕ) (d : VarId) → i < length xs →
    lesser found (least (arm_vars_broken f ids (drop i ws) (vars_of (drop i xs))))
    ≡ lesser (lesser found (least (opened_var_broken f ids (slice_get ws i) (get_or xs i d).0)))
    (least (arm_vars_broken f (with_var f (get_or xs i d).0 ids) (drop (i + 1) ws) (vars_of (drop (i + 1) xs))))
arm_next f ids ws found xs i d lt =
    let v = (get_or xs i d).0 in
    let rest = arm_vars_broken f (with_var f v ids) (drop (suc i) ws) (vars_of (drop (suc i) xs)) in
    let own = opened_var_broken f ids (slice_get ws i) v in
    ap (λ ys. lesser found (least (arm_vars_broken f ids (drop i ws) (vars_of ys)))) (drop-cons xs i d lt)
    ∙ ap (λ rs. lesser found (least rs)) (arm_cons f ids ws i v (vars_of (drop (suc i) xs)))
    ∙ ap (lesser found) (joined own rest)
    ∙ one_more found (least own) (least rest)
    ∙ ap (λ n. lesser (lesser found (least own)) (least (arm_vars_broken f (with_var f v ids) (drop n ws) (vars_of (drop n xs))))) (sym (add-one i))

pub vars_next : (f : Func) (ids : Ids) (xs : List VarId) (i : ℕ) (d : VarId) → i < length xs →
    with_vars f (vars_of (drop i xs)) ids ≡ with_vars f (vars_of (drop (i + 1) xs)) (with_var f (get_or xs i d).0 ids)
vars_next f ids xs i d lt =
    ap (λ ys. with_vars f (vars_of ys) ids) (drop-cons xs i d lt)
    ∙ ap (λ n. with_vars f (vars_of (drop n xs)) (with_var f (get_or xs i d).0 ids)) (sym (add-one i))
