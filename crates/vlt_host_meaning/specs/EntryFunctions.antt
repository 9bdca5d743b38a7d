-- Functions that a host may call.
use Rattle.std.specs.Prelude.{ℕ, ◌+◌, ◌==◌, Bool, true, false, not, ◌&&◌, if◌then◌else◌, List, [], ◌∷◌, Option, None, Some}
use Rattle.std.specs.List.{list_all}
use Rattle.std.specs.Str.{bytes_eq}
use Rattle.vlt_core.specs.Core.{Name, Ty, int, bool, tracked, Func, Program}
use Rattle.vlt_core.specs.KindedHeads.{parameters_of}
use Rattle.vlt_meaning.specs.Calls.{is_new_key}
use Rattle.vlt_meaning.specs.Externals.{is_given}

-- a type whose values a host can give and take: a number, a bool, or a reference to an object of a type without a header
abbrev pub is_host_type : Ty → Bool
is_host_type int = true
is_host_type bool = true
is_host_type (tracked k t []) = true
is_host_type ty = false

-- of references a function gives only the one to its new object
abbrev pub gives_new_object : Func → Ty → Bool
gives_new_object f (tracked k t args) = is_new_key f k
gives_new_object f ty = true

abbrev pub is_host_result : Func → Option Ty → Bool
is_host_result f None = true
is_host_result f (Some ty) = is_host_type ty && gives_new_object f ty

-- A function with a body, other than main, with such parameters and such a result. Its clause gives no key but a new one that
-- it doesn't have before.
abbrev pub is_entry_function : Program → (number : ℕ) → Func → Bool
is_entry_function p i f =
    not f.external && (not (i == p.main) && (list_all is_host_type (parameters_of f) && (is_host_result f f.result &&
    list_all (λ e. not (is_given e)) f.clause)))

-- the number of the first function of this name, where the list begins with the function of number `from`
abbrev pub function_of_name : Name → (from : ℕ) → List Func → Option ℕ
function_of_name name from [] = None
function_of_name name from (f ∷ fs) =
    if bytes_eq f.name name then Some from else function_of_name name (from + 1) fs
