-- How worked calls are written here, and what is compared of their runs.
use Rattle.std.specs.Prelude.{◌≡◌, ℕ, pos, false, List, [], ◌∷◌, Option, Some, None}
use Rattle.std.specs.Fmt.{digits}
use Rattle.vlt_core.specs.Core.{Name, Entry, Form, Stmts, next, return, done, KeyDecl, VarDecl, Ty, Func, Program}
use Rattle.vlt_core.specs.Lookups.{leads_up}
use Rattle.vlt_meaning.specs.Step.{with_found, where_so, spend, with_made, with_moved, with_released, fill, deliver, then_do}
use Rattle.vlt_meaning.specs.Operands.{with_operand, with_operands}
use Rattle.vlt_meaning.specs.Calls.{back_in, with_returned}
use Rattle.vlt_meaning.specs.Run.{made_in, call_body, call_by, left_function}
use Rattle.vlt_meaning.specs.Does.{does}
use Rattle.vlt_host_meaning.specs.Calls.{Argument, number, HostCall}
use Rattle.vlt_host_meaning.specs.OneCall.{instance_does, end_of_body, host_calls}
use Rattle.vlt_host_meaning.specs.HostRun.{HostOutcome, HostRan, after_text, then_calls, call_function, call_number, host_run}

-- ---- programs

-- statements one after another, with a return at the end
infixr 5 ◌▹◌
abbrev pub ◌▹◌ : Form → Stmts → Stmts
s ▹ rest = next 0 s rest

abbrev pub ends_here : Stmts
ends_here = return None ▹ done

-- a key of the first declared type
abbrev pub key : KeyDecl
key = record { name = []; key_type = Some 0 }

abbrev pub variable : Ty → VarDecl
variable ty = record { name = []; ty = ty }

abbrev pub function : Name → (result : Option Ty) → (params : ℕ) → (clause : List Entry) → List KeyDecl → List VarDecl →
    Stmts → Func
function name result params clause keys vars body = record {
  name = name;
  external = false;
  result = result;
  params = params;
  clause = clause;
  keys = keys;
  vars = vars;
  body = body;
  end = 0;
}

-- ---- calls

abbrev pub call : Name → List Argument → HostCall
call name args = record { name = name; args = args }

abbrev pub natural : ℕ → Argument
natural n = number (pos n)

-- ---- runs

-- how a run ends, what it writes, and the fuel that is left
pub record Told : Type 0 where
  pub outcome : HostOutcome
  pub text : List ℕ
  pub fuel : ℕ

abbrev pub told_of : HostRan → Told
told_of r = record { outcome = r.outcome; text = r.text; fuel = r.world.fuel }

-- calls with this much fuel, a heap and a depth of ten, and no input or answers
pub record Case : Type 0 where
  pub calls : List HostCall
  pub fuel : ℕ
  pub told : Told

-- Each helper of runs is named here once, so that a run computes.
unfoldable pub told_run : Program → Case → Told
unfolding digits leads_up with_found where_so spend with_made with_moved with_released fill deliver then_do with_operand
    with_operands back_in with_returned made_in call_body call_by left_function does instance_does end_of_body host_calls
    after_text then_calls call_function call_number
told_run p c = told_of (host_run p c.fuel 10 10 [] [] c.calls)

-- each of the runs is as it is told
abbrev pub AreTold : Program → List Case → Type 0
AreTold p [] = Unit {0}
AreTold p (c ∷ cs) = (told_run p c ≡ c.told) × AreTold p cs
