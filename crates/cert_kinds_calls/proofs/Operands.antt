-- Arguments, one after another.
use Rattle.std.proofs.Common.{◌≡◌, refl, sym, ap, ◌∙◌, ◌<◌, ◌+◌, ℕ, zero, suc, ◌&&◌, not, List, [], ◌∷◌, ◌++◌, map, drop, length, get_or, drop-cons, add-one, Option, arith}
use Rattle.std.proofs.lemmas.List.{length-map}
use Rattle.vlt_base.specs.declared.ids.KeyId.{KeyId}
use Rattle.vlt_core.specs.Core.{Ty, int, bool, tracked, owning, guarded, variant, owning_variant, Expr, number, truth, var, field, unary, binary, Operand, pure, Func, Program}
use Rattle.vlt_core.specs.declared.program.Operand as code
use Rattle.vlt_core.specs.declared.program.VarDecl.{VarDecl}
use Rattle.vlt_core.specs.View.{operand_of, keys_of, var_of}
use Rattle.vlt_core.specs.KindedScopes.{Ids}
use Rattle.vlt_core.specs.KindedCalls.{argument_type, same_but_keys, argument_broken_by, arguments_broken}
use Rattle.cert_kinds_types.specs.Least.{least, lesser}
use Rattle.cert_kinds_types.proofs.Smallest.{joined, one_more}
use Rattle.cert_kinds_exprs.specs.Seen.{key_under}
use Rattle.cert_kinds_calls.specs.Called as z

pub pure_given : (p : Program) (f : Func) (e : Expr) → argument_type p f (pure e) ≡ z.expr_given p f e
pure_given p f (number n) = refl
pure_given p f (truth b) = refl
pure_given p f (var v) = refl
pure_given p f (field x i) = refl
pure_given p f (unary op a) = refl
pure_given p f (binary op a b) = refl

pub as_many : (xs : List code.Operand) → length (map operand_of xs) ≡ length xs
as_many xs = length-map _ _

pub as_many_parameters : (ds : List VarDecl) (tys : List Ty) → map (λ d. d.ty) (map var_of ds) ≡ tys → length ds ≡ length tys
as_many_parameters ds tys is = sym (ap length (sym is) ∙ length-map _ _ ∙ length-map _ _)

pub as_many_seen : (u : Option (List ℕ)) (ks : List KeyId) → length (map (key_under u) (keys_of ks)) ≡ length ks
as_many_seen u ks = length-map _ _ ∙ length-map _ _

pub other_keys : (w t : Ty) → z.has_other_keys w t ≡ (same_but_keys w t && not (z.have_same_keys w t))
other_keys int t = refl
other_keys bool t = refl
other_keys (tracked k t a) int = refl
other_keys (tracked k t a) bool = refl
other_keys (tracked k t a) (tracked j u b) = refl
other_keys (tracked k t a) (owning s u b) = refl
other_keys (tracked k t a) (guarded j u b) = refl
other_keys (tracked k t a) (variant u b) = refl
other_keys (tracked k t a) (owning_variant u b) = refl
other_keys (owning r t a) int = refl
other_keys (owning r t a) bool = refl
other_keys (owning r t a) (tracked j u b) = refl
other_keys (owning r t a) (owning s u b) = refl
other_keys (owning r t a) (guarded j u b) = refl
other_keys (owning r t a) (variant u b) = refl
other_keys (owning r t a) (owning_variant u b) = refl
other_keys (guarded k t a) int = refl
other_keys (guarded k t a) bool = refl
other_keys (guarded k t a) (tracked j u b) = refl
other_keys (guarded k t a) (owning s u b) = refl
other_keys (guarded k t a) (guarded j u b) = refl
other_keys (guarded k t a) (variant u b) = refl
other_keys (guarded k t a) (owning_variant u b) = refl
other_keys (variant t a) int = refl
other_keys (variant t a) bool = refl
other_keys (variant t a) (tracked j u b) = refl
other_keys (variant t a) (owning s u b) = refl
other_keys (variant t a) (guarded j u b) = refl
other_keys (variant t a) (variant u b) = refl
other_keys (variant t a) (owning_variant u b) = refl
other_keys (owning_variant t a) int = refl
other_keys (owning_variant t a) bool = refl
other_keys (owning_variant t a) (tracked j u b) = refl
other_keys (owning_variant t a) (owning s u b) = refl
other_keys (owning_variant t a) (guarded j u b) = refl
other_keys (owning_variant t a) (variant u b) = refl
other_keys (owning_variant t a) (owning_variant u b) = refl

arguments_cons : (p : Program) (f : Func) (ids : Ids) (ws : List (Option Ty)) (i : ℕ) (o : Operand) (os : List Operand) →
    arguments_broken p f ids (drop i ws) (o ∷ os) ≡ argument_broken_by p f ids (z.wanted_at ws i) o ++ arguments_broken p f ids (drop (suc i) ws) os
arguments_cons p f ids [] zero o os = refl
arguments_cons p f ids [] (suc i) o os = refl
arguments_cons p f ids (w ∷ ws) zero o os = refl
arguments_cons p f ids (w ∷ ws) (suc i) o os = arguments_cons p f ids ws i o os

pub arguments_next : (p : Program) (f : Func) (ids : Ids) (ws : List (Option Ty)) (found : Option ℕ) (xs : List code.Operand) (i : ℕ) (x : code.Operand) → x ≡ get_or xs i x → i < length xs →
    lesser found (least (arguments_broken p f ids (drop i ws) (map operand_of (drop i xs))))
    ≡ lesser (lesser found (least (argument_broken_by p f ids (z.wanted_at ws i) (operand_of x)))) (least (arguments_broken p f ids (drop (i + 1) ws) (map operand_of (drop (i + 1) xs))))
arguments_next p f ids ws found xs i x is lt =
    let own = argument_broken_by p f ids (z.wanted_at ws i) (operand_of x) in
    let rest = arguments_broken p f ids (drop (suc i) ws) (map operand_of (drop (suc i) xs)) in
    ap (λ ys. lesser found (least (arguments_broken p f ids (drop i ws) (map operand_of ys)))) (drop-cons xs i x lt)
    ∙ ap (λ y. lesser found (least (arguments_broken p f ids (drop i ws) (operand_of y ∷ map operand_of (drop (suc i) xs))))) (sym is)
    ∙ ap (λ rs. lesser found (least rs)) (arguments_cons p f ids ws i (operand_of x) (map operand_of (drop (suc i) xs)))
    ∙ ap (lesser found) (joined own rest)
    ∙ one_more found (least own) (least rest)
    ∙ ap (λ n. lesser (lesser found (least own)) (least (arguments_broken p f ids (drop n ws) (map operand_of (drop n xs))))) (sym (add-one i))

-- what is wanted at a position of the parameters
pub wanted_here : {A B C : Type 0} (h : A → Option Ty) (v : C → A) (w : B → C) (xs : List B) (i : ℕ) (x : B) → i < length xs → x ≡ get_or xs i x → h (v (w x)) ≡ z.wanted_at (map h (map v (map w xs))) i
wanted_here h v w [] i x lt is = absurd (omega (arith, lt))
wanted_here h v w (y ∷ ys) zero x lt is = ap (λ z. h (v (w z))) is
wanted_here h v w (y ∷ ys) (suc i) x lt is = wanted_here h v w ys i x (omega (arith, lt)) is
