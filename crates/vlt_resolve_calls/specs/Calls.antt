-- Calls: which keys of the caller stand for those of the callee, what is refused, and what a call becomes.
use Rattle.std.specs.Prelude.{ℕ, ◌+◌, Bool, true, false, not, ◌&&◌, ◌||◌, ◌==◌, if◌then◌else◌, List, [], ◌∷◌, ◌++◌, length, map, Option, Some, None, unwrap_or}
use Rattle.std.specs.List.{list_any, list_all}
use Rattle.std.specs.Map.{lookup}
use Rattle.vlt_syntax.specs.Tree as s
use Rattle.vlt_core.specs.Core as core
use Rattle.vlt_core.specs.Core.{Ty, int, bool, tracked, owning, guarded, variant, owning_variant, Entry, KeyDecl, Func, Form, call}
use Rattle.vlt_core.specs.Lookups.{is_new, owns}
use Rattle.vlt_core.specs.Types.{args_of, keys_of_ty}
use Rattle.vlt_core.specs.declared.rules.TheConstants as rule
use Rattle.vlt_kinds_types.specs.declared.names.found.Refusal.{Refusal}
use Rattle.vlt_kinds_types.specs.Names.Refusals.{refusal, refuse_if}
use Rattle.vlt_kinds_types.specs.Kinds.{Kinds, head_named, function_named}
use Rattle.vlt_resolve_exprs.specs.Types.{is_inside}
use Rattle.vlt_resolve_exprs.specs.Scopes.{Scope}
use Rattle.vlt_resolve_exprs.specs.Exprs.{type_of, expr_refused, expr_place, number_of}
use Rattle.vlt_resolve_exprs.specs.Operands.{core_operands}
use Rattle.vlt_resolve_exprs.specs.Targets.{Target}

-- ---- types that are the same but for their keys

abbrev pub same_length : List ℕ → List ℕ → Bool
same_length a b = length a == length b

abbrev pub same_kind : (type : ℕ) → List ℕ → (other : ℕ) → List ℕ → Bool
same_kind t a u b = (t == u) && same_length a b

unfoldable pub same_shape : Ty → Ty → Bool
same_shape int int = true
same_shape bool bool = true
same_shape (tracked k t a) (tracked l u b) = same_kind t a u b
same_shape (owning r t a) (owning s u b) = (is_inside r s && is_inside s r) && same_kind t a u b
same_shape (guarded k t a) (guarded l u b) = same_kind t a u b
same_shape (variant t a) (variant u b) = same_kind t a u b
same_shape (owning_variant t a) (owning_variant u b) = same_kind t a u b
same_shape _ _ = false

unfoldable pub takes_kind : (states : core.States) → (type : ℕ) → List ℕ → Ty → Bool
takes_kind s t a (owning r u b) = is_inside r s && same_kind t a u b
takes_kind s t a (tracked k u b) = same_kind t a u b
takes_kind s t a _ = false

-- whether a parameter takes an argument of this type, keys aside
unfoldable pub takes_shape : Ty → Ty → Bool
takes_shape (owning s t a) got = takes_kind s t a got
takes_shape wanted got = same_shape wanted got

-- ---- keys that stand for others

-- a key of the callee with the caller's key that stands for it
abbrev pub Pair : Type 0
Pair = ℕ × ℕ

abbrev pub paired_each : List ℕ → List ℕ → List Pair
paired_each (k ∷ ks) (l ∷ ls) = (k, l) ∷ paired_each ks ls
paired_each _ _ = []

-- as many keys as there are
abbrev pub key_pairs : List ℕ → List ℕ → List Pair
key_pairs ks ls = if length ks == length ls then paired_each ks ls else []

-- the keys of an argument that meet those of the parameter: into an owning one a tracked object goes without its own key
abbrev pub keys_handed : Ty → Ty → List ℕ
keys_handed (owning s t a) got = args_of got
keys_handed wanted got = keys_of_ty got

unfoldable pub fitting_pairs : Ty → Ty → List Pair
fitting_pairs w t = if takes_shape w t then key_pairs (keys_of_ty w) (keys_handed w t) else []

-- An argument whose type isn't known, or doesn't fit, pairs nothing.
unfoldable pub argument_pairs : Ty → Option Ty → List Pair
argument_pairs w None = []
argument_pairs w (Some t) = fitting_pairs w t

-- what the arguments and the parameters of a callee pair
abbrev pub call_pairs : Kinds → Scope → List s.Expr → List Ty → List Pair
call_pairs kinds scope (e ∷ es) (w ∷ ws) = argument_pairs w (type_of kinds scope e) ++ call_pairs kinds scope es ws
call_pairs kinds scope _ _ = []

-- the caller's key that stands for a key of the callee: the first that met it
abbrev pub caller_key : List Pair → ℕ → Option ℕ
caller_key pairs k = lookup (λ l. k == l) pairs

-- the pair has the key that stands for the callee's
abbrev pub is_pair : List Pair → Pair → Bool
is_pair pairs p = unwrap_or (caller_key pairs p.0) p.1 == p.1

-- no key of the callee would stand for two names
unfoldable pub is_clear : List Pair → Bool
is_clear pairs = list_all (is_pair pairs) pairs

-- the keys that stand for those of the clause
abbrev pub clause_keys : List Pair → List Entry → List ℕ
clause_keys pairs [] = []
clause_keys pairs (e ∷ es) = with_first (caller_key pairs e.key) (clause_keys pairs es)
  where
    with_first : Option ℕ → List ℕ → List ℕ
    with_first None ks = ks
    with_first (Some k) ks = k ∷ ks

abbrev pub are_apart : List ℕ → Bool
are_apart [] = true
are_apart (k ∷ ks) = not (list_any (λ l. k == l) ks) && are_apart ks

-- ---- arguments

unfoldable pub argument_misfit : Ty → Option Ty → ℕ → List Refusal
argument_misfit w None at = []
argument_misfit w (Some t) at = refuse_if (not (takes_shape w t)) rule.WRONG_TYPE at

unfoldable pub argument_refused : Kinds → Scope → Ty → s.Expr → List Refusal
argument_refused kinds scope w e = expr_refused kinds scope e ++ argument_misfit w (type_of kinds scope e) (expr_place e)

abbrev pub arguments_refused : Kinds → Scope → List Ty → List s.Expr → List Refusal
arguments_refused kinds scope (w ∷ ws) (e ∷ es) = argument_refused kinds scope w e ++ arguments_refused kinds scope ws es
arguments_refused kinds scope _ _ = []

-- ---- what a call gives

-- What is done with it: nothing, by a statement at this place, or a target takes it.
pub data Use : Type 0 where
  dropped : (at : ℕ) → Use
  given : Target → Use

abbrev pub has_fresh : List Entry → Bool
has_fresh = list_any is_new

unfoldable pub dropped_refused : Func → ℕ → List Refusal
dropped_refused g at = refuse_if (owns g.result || has_fresh g.clause) rule.DROPPED_RESULT at

-- The key fits one of the target: it stands for it, or it is open, which it is where it met two.
abbrev pub key_fits : List Pair → Pair → Bool
key_fits pairs p =
    unwrap_or (caller_key pairs p.0) p.1 == p.1 || not (list_all (λ q. not (p.0 == q.0) || is_pair pairs q) pairs)

abbrev pub keys_fit : List Pair → List Pair → Bool
keys_fit pairs = list_all (key_fits pairs)

abbrev pub result_fits : List Pair → Option Ty → Ty → Bool
result_fits pairs None ty = false
result_fits pairs (Some r) ty = same_shape r ty && keys_fit pairs (key_pairs (keys_of_ty r) (keys_of_ty ty))

abbrev pub is_same : Bool → Bool → Bool
is_same true b = b
is_same false b = not b

-- A fresh key is one that the target binds.
unfoldable pub target_fits : Func → List Pair → Target → Bool
target_fits g pairs t = is_same (has_fresh g.clause) t.binds && result_fits pairs g.result t.ty

unfoldable pub use_refused : Func → List Pair → Use → ℕ → List Refusal
use_refused g pairs (dropped at) name = dropped_refused g at
use_refused g pairs (given t) name = refuse_if (not (target_fits g pairs t)) rule.WRONG_TYPE name

-- with a wrong number of arguments no keys are matched
unfoldable pub count_refused : Func → Use → ℕ → List Refusal
count_refused g (dropped at) name = refusal rule.WRONG_COUNT name ∷ []
count_refused g (given t) name =
    refuse_if (not (target_fits g [] t)) rule.WRONG_TYPE name ++ refusal rule.WRONG_COUNT name ∷ []

-- ---- what is refused

unfoldable pub matching_refused : List Pair → List Entry → ℕ → List Refusal
matching_refused pairs clause at =
    refuse_if (not (is_clear pairs)) rule.TWO_CALLER_KEYS at
    ++ refuse_if (not (are_apart (clause_keys pairs clause))) rule.CLAUSE_KEYS_MEET at

abbrev pub param_types : Func → List Ty
param_types g = map (λ d. d.ty) g.vars

unfoldable pub paired_refused : Func → List Pair → Use → ℕ → List Refusal
paired_refused g pairs used name = matching_refused pairs g.clause name ++ use_refused g pairs used name

-- a call with as many arguments as the function has parameters
unfoldable pub full_call_refused : Kinds → Scope → Func → Use → s.Call → List Refusal
full_call_refused kinds scope g used c =
    paired_refused g (call_pairs kinds scope c.arguments (param_types g)) used c.function.at.from
    ++ arguments_refused kinds scope (param_types g) c.arguments

unfoldable pub head_refused : Kinds → Scope → Func → Use → s.Call → List Refusal
head_refused kinds scope g used c =
    if length (param_types g) == length c.arguments then full_call_refused kinds scope g used c
    else count_refused g used c.function.at.from

abbrev pub callee_refused : Kinds → Scope → Option Func → Use → s.Call → List Refusal
callee_refused kinds scope None used c = refusal rule.UNKNOWN_NAME c.function.at.from ∷ []
callee_refused kinds scope (Some g) used c = head_refused kinds scope g used c

unfoldable pub call_refused : Kinds → Scope → Use → s.Call → List Refusal
call_refused kinds scope used c = callee_refused kinds scope (head_named kinds c.function) used c

-- ---- what it becomes

abbrev pub own_key : Ty → ℕ
own_key (tracked k t args) = k
own_key _ = 0

-- the key of the target, which stands for a fresh one
abbrev pub fresh_key : Use → ℕ
fresh_key (dropped at) = 0
fresh_key (given t) = own_key t.ty

-- the caller's keys, one for each key of the callee's head
abbrev pub keys_given : List Pair → (fresh : ℕ) → (first : ℕ) → List KeyDecl → List ℕ
keys_given pairs fresh k [] = []
keys_given pairs fresh k (d ∷ ds) = unwrap_or (caller_key pairs k) fresh ∷ keys_given pairs fresh (k + 1) ds

unfoldable pub head_form : Kinds → Scope → Func → (f : ℕ) → Use → (target : Option ℕ) → s.Call → Form
head_form kinds scope g f used target c =
    call f target (keys_given (call_pairs kinds scope c.arguments (param_types g)) (fresh_key used) 0 g.keys)
    (core_operands kinds scope c.arguments (param_types g))

abbrev pub callee_form : Kinds → Scope → Option Func → (f : ℕ) → Use → (target : Option ℕ) → s.Call → Form
callee_form kinds scope None f used target c = call f target [] []
callee_form kinds scope (Some g) f used target c = head_form kinds scope g f used target c

unfoldable pub core_call : Kinds → Scope → Use → (target : Option ℕ) → s.Call → Form
core_call kinds scope used target c =
    callee_form kinds scope (head_named kinds c.function) (number_of (function_named kinds c.function)) used target c
