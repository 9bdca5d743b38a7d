-- What a permitted call says of its arguments and its function.
use Rattle.std.proofs.Common.{◌≡◌, ℕ, suc, ◌==◌, Bool, true, false, ◌&&◌, not, List, [], ◌∷◌, length, refl, ap}
use Rattle.std.specs.List.{list_all}
use Rattle.vlt_core.specs.Core.{Ty, Func, Program}
use Rattle.vlt_core.specs.KindedHeads.{are_apart, parameters_of}
use Rattle.vlt_meaning.specs.World.{Object}
use Rattle.vlt_meaning.specs.Externals.{is_given}
use Rattle.vlt_host_meaning.specs.Calls.{Argument}
use Rattle.vlt_host_meaning.specs.EntryFunctions.{is_host_type, is_host_result, is_entry_function}
use Rattle.vlt_host_meaning.specs.Permitted.{argument_fits, arguments_fit, argument_bindings, have_one_object, host_keys, keys_before, are_in_states, is_permitted}

pub both : (a b : Bool) → (a && b) ≡ true → (a ≡ true) × (b ≡ true)
both true b e = (refl, e)
both false b e = cc

pub record IsFit (f : Func) (args : List Argument) (objects : List Object) : Type 0 where
  pub fit : arguments_fit objects (parameters_of f) args ≡ true
  pub result : is_host_result f f.result ≡ true

pub is_fit : (p : Program) (i : ℕ) (f : Func) (args : List Argument) (objects : List Object) → is_permitted p i f args objects ≡ true → IsFit f args objects
is_fit p i f args objects ok =
    let a = both (is_entry_function p i f) (arguments_fit objects (parameters_of f) args && (have_one_object (argument_bindings (parameters_of f) args) && (are_apart (keys_before f args objects) && are_in_states p f (host_keys f args objects) objects))) ok in
    let b = both (arguments_fit objects (parameters_of f) args) (have_one_object (argument_bindings (parameters_of f) args) && (are_apart (keys_before f args objects) && are_in_states p f (host_keys f args objects) objects)) a.1 in
    let c = both (not f.external) (not (i == p.main) && (list_all is_host_type (parameters_of f) && (is_host_result f f.result && list_all (λ e. not (is_given e)) f.clause))) a.0 in
    let d = both (not (i == p.main)) (list_all is_host_type (parameters_of f) && (is_host_result f f.result && list_all (λ e. not (is_given e)) f.clause)) c.1 in
    let e = both (list_all is_host_type (parameters_of f)) (is_host_result f f.result && list_all (λ e. not (is_given e)) f.clause) d.1 in
    record { fit = b.0; result = (both (is_host_result f f.result) (list_all (λ e. not (is_given e)) f.clause) e.1).0 }

pub args_long : (objects : List Object) (tys : List Ty) (args : List Argument) → arguments_fit objects tys args ≡ true → length args ≡ length tys
args_long objects [] [] fit = refl
args_long objects [] (a ∷ rest) fit = cc
args_long objects (t ∷ ts) [] fit = cc
args_long objects (t ∷ ts) (a ∷ rest) fit = ap suc (args_long objects ts rest (both (argument_fits objects t a) (arguments_fit objects ts rest) fit).1)
