-- The parts of the rules on a call's arguments and its target.
use Rattle.std.specs.Prelude.{ℕ, nat_lt, ◌==◌, Bool, true, not, ◌&&◌, if◌then◌else◌, List, [], ◌++◌, length, Option, Some, None, slice_get}
use Rattle.std.specs.List.{flat_map}
use Rattle.vlt_core.specs.Core.{States, Ty, tracked, owning, guarded, variant, owning_variant, Expr, var, field, Func, Program}
use Rattle.vlt_core.specs.Lookups.{var_type}
use Rattle.vlt_core.specs.Types.{same_keys, keys_of_ty, args_of}
use Rattle.vlt_core.specs.KindedHeads.{Rules, unless, when_some, parameters_of}
use Rattle.vlt_core.specs.KindedScopes.{Ids, own_key, binding_broken, target_broken}
use Rattle.vlt_core.specs.KindedOperands.{field_type, as_owning}
use Rattle.vlt_core.specs.KindedStatements.{is_tracked_type}
use Rattle.vlt_core.specs.KindedCalls.{same_but_keys, is_fresh_call, caller_type, result_misfit, keys_fit, clause_keys_broken}
use Rattle.vlt_core.specs.declared.rules.TheConstants as rule

-- the type of what an expression hands over, where it is a variable or a field
abbrev pub expr_given : Program → Func → Expr → Option Ty
expr_given p f (var v) = var_type f v
expr_given p f (field x i) = field_type p f x i
expr_given p f e = None

abbrev pub packed_type : States → Option Ty → Option Ty
packed_type states None = None
packed_type states (Some ty) = as_owning states ty

-- types of one form have the same keys
abbrev pub have_same_keys : Ty → Ty → Bool
have_same_keys (tracked k t a) (tracked j u b) = k == j && same_keys a b
have_same_keys (guarded k t a) (guarded j u b) = k == j && same_keys a b
have_same_keys (variant t a) (variant u b) = same_keys a b
have_same_keys (owning_variant t a) (owning_variant u b) = same_keys a b
have_same_keys (owning r t a) (owning s u b) = same_keys a b
have_same_keys _ _ = true

-- types that differ in their keys alone
abbrev pub has_other_keys : Ty → Ty → Bool
has_other_keys w t = same_but_keys w t && not (same_keys (keys_of_ty w) (keys_of_ty t))

-- the type that is wanted at a position, where there is one
abbrev pub some_wanted : Option (Option Ty) → Option Ty
some_wanted None = None
some_wanted (Some w) = w

abbrev pub wanted_at : List (Option Ty) → (position : ℕ) → Option Ty
wanted_at ws i = some_wanted (slice_get ws i)

-- the result fits but for its own key, which is a fresh one
abbrev pub fits_but_key : Func → Ty → Ty → Bool
fits_but_key g w t = is_fresh_call g && is_tracked_type w && same_but_keys w t && same_keys (args_of w) (args_of t)

-- the result for a target of a known type
abbrev pub given_misfit : Func → (keys : List ℕ) → Ty → Ty → Rules
given_misfit g keys w t = when_some (caller_type keys w) (λ w. result_misfit g w t)

abbrev pub wanted_broken : Func → (keys : List ℕ) → Ty → Option Ty → Rules
wanted_broken g keys w given = when_some given (given_misfit g keys w)

-- the target of a call, fresh or not
abbrev pub bound_target_broken : Func → Ids → Func → (v : ℕ) → Rules
bound_target_broken f ids g v = if is_fresh_call g then binding_broken f ids (own_key f v) v else target_broken f ids v

-- so many arguments for the callee
abbrev pub count_broken : Func → (count : ℕ) → Rules
count_broken g n = unless (n == length (parameters_of g)) rule.WRONG_COUNT

-- the callee's clause, where the keys fit
abbrev pub fitting_broken : Func → (keys : List ℕ) → Rules
fitting_broken g keys = if keys_fit g keys then clause_keys_broken g keys else []

-- what a call breaks but for its arguments, the caller's keys and its target
abbrev pub fit_broken : Func → Func → (count : ℕ) → (keys : List ℕ) → Rules
fit_broken f g n keys =
    flat_map (λ k. unless (nat_lt k (length f.keys)) rule.UNKNOWN_NAME) keys ++
    unless (keys_fit g keys) rule.TWO_CALLER_KEYS ++
    count_broken g n ++
    fitting_broken g keys
