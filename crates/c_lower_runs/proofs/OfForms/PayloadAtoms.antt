-- The atoms of a payload aren't slots of the variant that is built.
use Rattle.std.proofs.Common.{◌≡◌, ℕ, ◌==◌, ◌&&◌, Bool, true, false, if◌then◌else◌, List, [], ◌∷◌, map, Some, refl, sym, ap, ◌∙◌, subst}
use Rattle.std.proofs.lemmas.Bool.{false≢true, eqb-true}
use Rattle.vlt_ops.specs.declared.Op.{Op}
use Rattle.vlt_ops.specs.declared.Op.TheVariants as op
use Rattle.vlt_core.specs.Core as core
use Rattle.vlt_core.specs.Core.{Ty, Operand, pure, move, pack, Func, Program}
use Rattle.vlt_core.specs.Lookups.{var_type, is_owning}
use Rattle.vlt_core.specs.Types.{same_ty}
use Rattle.vlt_core.specs.KindedHeads.{Rules}
use Rattle.vlt_core.specs.KindedScopes.{Ids, use_broken}
use Rattle.vlt_core.specs.KindedOperands.{expr_broken, operand_broken, misfit, not_owning_broken, move_broken, pack_broken, fits_owning, unless_owning}
use Rattle.vlt_core.specs.declared.rules.TheConstants as rule
use Rattle.c_syntax.specs.declared.program.CVar.{CVar}
use Rattle.c_lower.specs.Slots.{Numbers, of_number, var_at, slot_vars, first_temps}
use Rattle.c_lower.specs.Expressions.{Atom, variable, Code, expr_code, operand_code, binary_code}
use Rattle.c_lower.specs.Statements.{is_variant}
use Rattle.c_lower_worlds.specs.Operators.Codes.{AreUpTo}
use Rattle.c_lower_worlds.proofs.OfOperators.Codes.{up_self, more_more}
use Rattle.c_lower_worlds.proofs.OfOperators.Expressions.{expr_up}
use Rattle.c_lower_worlds.specs.Naming.Lists.{Each}
use Rattle.c_lower_runs.proofs.OfForms.SetAndOwn.{other_slots, temp_slots}
use Rattle.c_lower_worlds.proofs.SameLayouts.{same_laid, fits_laid}
use Rattle.c_lower_worlds.proofs.VariableSlots.{Apart}
use Rattle.c_lower_worlds.proofs.OfNaming.RuleFacts.{both_empty}
use Rattle.vlt_core_laws.proofs.Unbroken.{unless_holds, filled_not_empty}
use Rattle.vlt_core_laws.proofs.Ids.{and_right}
use Rattle.c_lower_worlds.proofs.OfNaming.NamedOperands.{plain_type}

-- the atom is none of these variables
abbrev pub IsApart : List CVar → Atom → Type 0
IsApart vs (variable x) = Each (Apart x) vs
IsApart vs a = Unit {0}

-- an operator's value is in a temp
pub binary_temp : (o : Op) (left : Code) (right : Numbers → Code) → AreUpTo left.next (right left.next).next → (u : Numbers) × ((binary_code o left right).atoms ≡ variable (var_at u of_number) ∷ []) × AreUpTo left.next u
binary_temp op.Negate left right up = ((right left.next).next, refl, up)
binary_temp op.Not left right up = ((right left.next).next, refl, up)
binary_temp op.Multiply left right up = ((right left.next).next, refl, up)
binary_temp op.Divide left right up = ((right left.next).next, refl, up)
binary_temp op.Remainder left right up = ((right left.next).next, refl, up)
binary_temp op.Add left right up = ((right left.next).next, refl, up)
binary_temp op.Subtract left right up = ((right left.next).next, refl, up)
binary_temp op.Less left right up = ((right left.next).next, refl, up)
binary_temp op.LessOrEqual left right up = ((right left.next).next, refl, up)
binary_temp op.Greater left right up = ((right left.next).next, refl, up)
binary_temp op.GreaterOrEqual left right up = ((right left.next).next, refl, up)
binary_temp op.Equal left right up = ((right left.next).next, refl, up)
binary_temp op.NotEqual left right up = ((right left.next).next, refl, up)
binary_temp op.BitAnd left right up = ((right left.next).next, refl, up)
binary_temp op.BitXor left right up = ((right left.next).next, refl, up)
binary_temp op.BitOr left right up = ((right left.next).next, refl, up)
binary_temp op.And left right up = (left.next, refl, up_self left.next)
binary_temp op.Or left right up = (left.next, refl, up_self left.next)

pub vars_apart_all : (vs us : List CVar) → Each (λ x. Each (Apart x) vs) us → Each (IsApart vs) (map variable us)
vars_apart_all vs [] h = tt
vars_apart_all vs (u ∷ us) h = (h.0, vars_apart_all vs us h.1)

-- a variable that is none of a variant's type has other slots
pub slots_other : (p : Program) (f : Func) (v u : ℕ) → (v ≡ u → ⊥) → Each (IsApart (slot_vars p f v)) (map variable (slot_vars p f u))
slots_other p f v u h = vars_apart_all (slot_vars p f v) (slot_vars p f u) (other_slots p f v u (by (v == u) refl))
  where
    by : (b : Bool) → (v == u) ≡ b → b ≡ false
    by true e = absurd (h (eqb-true v u e))
    by false e = refl

pub temp_apart_all : (p : Program) (f : Func) (v : ℕ) (t : Numbers) → AreUpTo (first_temps p f) t → Each (IsApart (slot_vars p f v)) (variable (var_at t of_number) ∷ [])
temp_apart_all p f v t up = ((temp_slots p f v t (of_number ∷ []) up).0, tt)

pub operand_apart : (p : Program) (f : Func) (ids : Ids) (t : Numbers) (v : ℕ) (ty want : Ty) (o : Operand) → operand_broken p f ids (Some want) o ≡ [] → var_type f v ≡ Some ty → is_variant (Some ty) ≡ true → is_variant (Some want) ≡ false →
    AreUpTo (first_temps p f) t → Each (IsApart (slot_vars p f v)) (operand_code p f t o).atoms
operand_apart p f ids t v ty want (pure (core.number z)) broken is many one up = (tt, tt)
operand_apart p f ids t v ty want (pure (core.truth b)) broken is many one up = (tt, tt)
operand_apart p f ids t v ty want (pure (core.field x i)) broken is many one up = vars_apart_all (slot_vars p f v) _ (temp_slots p f v t _ up)
operand_apart p f ids t v ty want (pure (core.unary o e)) broken is many one up = temp_apart_all p f v (expr_code p f t e).next (more_more up (expr_up p f e t))
operand_apart p f ids t v ty want (pure (core.binary o a b)) broken is many one up =
    let x = binary_temp o (expr_code p f t a) (λ t. expr_code p f t b) (expr_up p f b (expr_code p f t a).next) in
    subst (Each (IsApart (slot_vars p f v))) (sym x.1) (temp_apart_all p f v x.0 (more_more up (more_more (expr_up p f a t) x.2)))
operand_apart p f ids t v ty want (pure (core.var u)) broken is many one up = slots_other p f v u (λ e.
    let is_u : var_type f u ≡ Some ty = ap (var_type f) (sym e) ∙ is in
    let q = both_empty (expr_broken p f ids (core.var u)) (if is_owning want then rule.WRONG_TYPE ∷ [] else misfit (Some want) (unless_owning (var_type f u))) broken in
    let whole = plain_type rule.WRONG_TYPE ty (subst (λ o. not_owning_broken rule.WRONG_TYPE o ≡ []) is_u (both_empty (use_broken f ids u) (not_owning_broken rule.WRONG_TYPE (var_type f u)) q.left).right) in
    let fits = unless_holds (same_ty want ty) rule.WRONG_TYPE (subst (λ o. misfit (Some want) o ≡ []) (ap unless_owning is_u ∙ whole) (unowned (is_owning want) (misfit (Some want) (unless_owning (var_type f u))) q.right)) in
    false≢true (sym one ∙ sym (same_laid p want ty fits).variant ∙ many))
  where
    unowned : (b : Bool) (xs : Rules) → (if b then rule.WRONG_TYPE ∷ [] else xs) ≡ [] → xs ≡ []
    unowned true xs e = absurd (filled_not_empty rule.WRONG_TYPE [] e)
    unowned false xs e = e
operand_apart p f ids t v ty want (move u) broken is many one up = slots_other p f v u (λ e.
    let is_u : var_type f u ≡ Some ty = ap (var_type f) (sym e) ∙ is in
    let q = subst (λ o. move_broken (Some want) o ≡ []) is_u (both_empty (use_broken f ids u) (move_broken (Some want) (var_type f u)) broken).right in
    let fits = and_right (is_owning ty) (fits_owning want ty) (unless_holds (is_owning ty && fits_owning want ty) rule.WRONG_TYPE q) in
    false≢true (sym one ∙ sym (fits_laid p want ty fits).variant ∙ many))
operand_apart p f ids t v ty want (pack x states) broken is many one up = slots_other p f v x (λ e.
    let is_u : var_type f x ≡ Some ty = ap (var_type f) (sym e) ∙ is in
    never ty many (subst (λ o. pack_broken p (Some want) o states ≡ []) is_u (both_empty (use_broken f ids x) (pack_broken p (Some want) (var_type f x) states) broken).right))
  where
    never : (ty : Ty) → is_variant (Some ty) ≡ true → pack_broken p (Some want) (Some ty) states ≡ [] → ⊥
    never (core.variant t args) m e = filled_not_empty rule.WRONG_TYPE [] e
    never (core.owning_variant t args) m e = filled_not_empty rule.WRONG_TYPE [] e
    never core.int m e = false≢true m
    never core.bool m e = false≢true m
    never (core.tracked k t args) m e = false≢true m
    never (core.guarded k t args) m e = false≢true m
    never (core.owning states t args) m e = false≢true m
