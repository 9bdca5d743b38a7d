-- A tick with its payloads, for a target of a variant's type.
use Rattle.std.specs.Prelude.{ℕ, ◌==◌, if◌then◌else◌, List, [], ◌∷◌, length, map, drop, Option, Some, None, slice_get}
use Rattle.std.specs.List.{position}
use Rattle.std.specs.Option.{option_map}
use Rattle.std.specs.Str.{bytes_eq}
use Rattle.vlt_syntax.specs.Tree as s
use Rattle.vlt_syntax.specs.Tree.{Name}
use Rattle.vlt_core.specs.Core.{Ty, CaseDecl, Form, simple, build}
use Rattle.vlt_core.specs.Lookups.{cases_in, variant_in}
use Rattle.vlt_core.specs.declared.rules.TheConstants.{WRONG_TYPE, WRONG_COUNT}
use Rattle.vlt_kinds_types.specs.declared.names.found.Refusal.{Refusal}
use Rattle.vlt_kinds_types.specs.Names.Refusals.{refusal}
use Rattle.vlt_kinds_types.specs.Kinds.{Kinds}
use Rattle.vlt_resolve_exprs.specs.Types.{then_with, ty_under}
use Rattle.vlt_resolve_exprs.specs.Scopes.{Scope}
use Rattle.vlt_resolve_exprs.specs.Operands.{operands_refused, core_operands}

abbrev pub cases_of : Kinds → (type : ℕ) → List CaseDecl
cases_of kinds t = cases_in (slice_get kinds.types t)

-- A tick begins with its `'`, which isn't of the case's name.
abbrev pub case_position : List CaseDecl → Name → Option ℕ
case_position cases tick = position (λ c. bytes_eq (drop 1 tick.text) c.name) cases

-- a case of a variant, and the types of its payloads
pub record Case : Type 0 where
  pub number : ℕ
  pub payload : List Ty

abbrev pub payload_in : (args : List ℕ) → Option CaseDecl → List Ty
payload_in args None = []
payload_in args (Some d) = map (ty_under args) d.payload

abbrev pub case_at : (cases : List CaseDecl) → (args : List ℕ) → (number : ℕ) → Case
case_at cases args i = record { number = i; payload = payload_in args (slice_get cases i) }

unfoldable pub case_in : (cases : List CaseDecl) → (args : List ℕ) → Name → Option Case
case_in cases args tick = option_map (case_at cases args) (case_position cases tick)

-- the case of this tick, where the type is a variant that has it
unfoldable pub case_of_tick : Kinds → Ty → Name → Option Case
case_of_tick kinds ty tick = then_with (variant_in (Some ty)) (λ v. case_in (cases_of kinds v.type) v.args tick)

-- ---- what is refused

unfoldable pub payload_refused : Kinds → Scope → Case → s.Build → List Refusal
payload_refused kinds scope c b =
    if length c.payload == length b.payload then operands_refused kinds scope c.payload b.payload
    else refusal WRONG_COUNT b.case.at.from ∷ []

abbrev pub case_refused : Kinds → Scope → Option Case → s.Build → List Refusal
case_refused kinds scope None b = refusal WRONG_TYPE b.case.at.from ∷ []
case_refused kinds scope (Some c) b = payload_refused kinds scope c b

unfoldable pub build_refused : Kinds → Scope → Ty → s.Build → List Refusal
build_refused kinds scope ty b = case_refused kinds scope (case_of_tick kinds ty b.case) b

-- ---- what it becomes

abbrev pub case_form : Kinds → Scope → (v : ℕ) → Option Case → s.Build → Form
case_form kinds scope v None b = simple (build v 0 [])
case_form kinds scope v (Some c) b = simple (build v c.number (core_operands kinds scope b.payload c.payload))

unfoldable pub core_build : Kinds → Scope → Ty → (v : ℕ) → s.Build → Form
core_build kinds scope ty v b = case_form kinds scope v (case_of_tick kinds ty b.case) b
