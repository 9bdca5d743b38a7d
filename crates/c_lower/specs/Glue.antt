-- The function that stands for an external: it tells the host of the call and asks, and makes of the answer what the
-- clause and the result say.
use Rattle.std.specs.Prelude.{ℕ, ◌^◌, ◌==◌, nat_le, pos, Bool, true, false, not, ◌&&◌, if◌then◌else◌, List, [], ◌∷◌, ◌++◌, map, filter, length, Option, Some, None, slice_get}
use Rattle.std.specs.List.{flat_map, zip, enumerate_from, range_with_len, sum_by}
use Rattle.vlt_core.specs.Core.{States, Ty, int, bool, tracked, owning, guarded, variant, owning_variant, CaseDecl, Mode, taken, given, Func, Program}
use Rattle.vlt_core.specs.Lookups.{is_owning, is_owning_var, cases_of, var_type, after_set, is_held_after}
use Rattle.vlt_core.specs.KindedHeads.{is_bound_entry}
use Rattle.c_syntax.specs.declared.program.CVar.{CVar}
use Rattle.c_syntax.specs.declared.program.CPrim.TheVariants as prim
use Rattle.c_syntax.specs.View.{stmts_made}
use Rattle.c_syntax.specs.C as c
use Rattle.c_syntax.specs.C.{Stmt}
use Rattle.c_lower.specs.Slots.{past_all, vars_at, slot_of, first_slot, no_slot, first_temps, sorts_of}
use Rattle.c_lower.specs.Guards.{whole, equal}
use Rattle.c_lower.specs.Expressions.{variable}
use Rattle.c_lower.specs.Statements.{runtime_call, runtime_value, count_arg, StmtCode, stmt_code, case_positions, return_stmts}

abbrev pub var_arg : CVar → c.Arg
var_arg v = c.variable v

-- ---- the call

abbrev pub argument_call : CVar → Stmt
argument_call s = runtime_call (if s.reference then prim.ArgP else prim.ArgN) (var_arg s ∷ [])

abbrev pub params_of : Func → List ℕ
params_of f = range_with_len 0 f.params

-- what tells the host of the call
abbrev pub question : Program → Func → List Stmt
question p f =
    runtime_call prim.Call (c.text f.name ∷ [])
    ∷ map (λ v. argument_call (slot_of p f v)) (params_of f) ++ runtime_call prim.Ask [] ∷ []

-- ---- objects that go out, and that come back

abbrev pub is_tracked_by : (key : ℕ) → Option Ty → Bool
is_tracked_by k (Some (tracked j t args)) = j == k
is_tracked_by k _ = false

abbrev pub first_or_0 : List ℕ → ℕ
first_or_0 [] = 0
first_or_0 (v ∷ vs) = v

-- the slot of the first parameter that refers to the key's object
abbrev pub key_slot : Program → Func → (key : ℕ) → CVar
key_slot p f k = slot_of p f (first_or_0 (filter (λ v. is_tracked_by k (var_type f v)) (params_of f)))

abbrev pub is_taken : Mode → Bool
is_taken taken = true
is_taken _ = false

abbrev pub is_given : Mode → Bool
is_given given = true
is_given _ = false

abbrev pub go_out : Program → Func → List Stmt
go_out p f =
    map (λ e. runtime_call prim.Out (var_arg (key_slot p f e.key) ∷ [])) (filter (λ e. is_taken e.mode) f.clause)
    ++ map (λ v. runtime_call prim.Out (var_arg (slot_of p f v) ∷ [])) (filter (is_owning_var f) (params_of f))

abbrev pub come_back : Program → Func → List Stmt
come_back p f = map (λ e. runtime_call prim.Back (var_arg (key_slot p f e.key) ∷ [])) (filter (λ e. is_given e.mode) f.clause)

-- ---- numbers of the answer

abbrev pub states_in : States → List ℕ
states_in states = filter states (range_with_len 0 32)

-- a bit for each number of the list
abbrev pub mask : List ℕ → c.Arg
mask ns = c.number (pos (sum_by (λ n. 2 ^ n) ns))

-- Which state it is: the host is asked where there is more than one.
abbrev pub pick_state : States → List Stmt
pick_state states = if nat_le 2 (length (states_in states)) then runtime_call prim.Pick (mask (states_in states) ∷ []) ∷ [] else []

abbrev pub pick_clause : Program → Func → List Stmt
pick_clause p f = flat_map (λ e. pick_state (after_set p f e)) (filter (λ e. is_held_after e && not (is_bound_entry e)) f.clause)

abbrev pub payload_number : CVar → Ty → List Stmt
payload_number s int = runtime_value s prim.Int [] ∷ []
payload_number s bool = runtime_value s prim.Pick (mask (0 ∷ 1 ∷ []) ∷ []) ∷ []
payload_number s (owning states t args) = pick_state states
payload_number s _ = []

-- ---- cases

-- a case with its number
abbrev pub CaseAt : Type 0
CaseAt = ℕ × CaseDecl

abbrev pub when_case : CVar → ℕ → List Stmt → List Stmt
when_case s k [] = []
when_case s k (x ∷ xs) = c.when (equal (c.variable s) (whole k)) (stmts_made (x ∷ xs)) ∷ []

-- for each case its code, where it has some
abbrev pub per_case : List CaseDecl → CVar → (CaseAt → List Stmt) → List Stmt
per_case cases s code = flat_map (λ q. when_case s q.0 (code q)) (enumerate_from 0 cases)

abbrev pub slot_at : List CVar → (position : ℕ) → CVar
slot_at slots i = there (slice_get slots i)
  where
    there : Option CVar → CVar
    there None = no_slot
    there (Some s) = s

-- the payloads of a case with their slots
abbrev pub payloads : Program → (type : ℕ) → List CVar → CaseAt → List (CVar × Ty)
payloads p t slots q = zip (map (slot_at slots) (case_positions p t q.0)) q.1.payload

abbrev pub case_numbers : Program → (type : ℕ) → List CVar → CaseAt → List Stmt
case_numbers p t slots q =
    flat_map (λ k. pick_state k.states) q.1.keys ++ flat_map (λ x. payload_number x.0 x.1) (payloads p t slots q)

abbrev pub key_in : List ℕ → (position : ℕ) → ℕ
key_in args i = there (slice_get args i)
  where
    there : Option ℕ → ℕ
    there None = 0
    there (Some k) = k

abbrev pub case_keys_back : Program → Func → (args : List ℕ) → CaseAt → List Stmt
case_keys_back p f args q = map (λ k. runtime_call prim.Back (var_arg (key_slot p f (key_in args k.position)) ∷ [])) q.1.keys

abbrev pub new_object : CVar → List Stmt
new_object s = runtime_value s prim.New (count_arg 0 ∷ count_arg 0 ∷ []) ∷ []

abbrev pub case_objects : Program → (type : ℕ) → List CVar → CaseAt → List Stmt
case_objects p t slots q = flat_map (λ x. if is_owning x.1 then new_object x.0 else []) (payloads p t slots q)

-- ---- the result

abbrev pub clear : CVar → Stmt
clear s = c.set s (if s.reference then c.null else whole 0)

abbrev pub args_in : Option Ty → List ℕ
args_in (Some (variant t args)) = args
args_in (Some (owning_variant t args)) = args
args_in _ = []

-- The code between the parts of every external: slots that are cleared, numbers, keys that come back, and new objects.
pub record ResultCode : Type 0 where
  pub clears : List Stmt
  pub numbers : List Stmt
  pub backs : List Stmt
  pub objects : List Stmt

abbrev pub plain_code : (numbers objects : List Stmt) → ResultCode
plain_code numbers objects = record { clears = []; numbers = numbers; backs = []; objects = objects }

abbrev pub variant_code : Program → Func → (type : ℕ) → (args : List ℕ) → List CVar → ResultCode
variant_code p f t args slots =
    let cases = cases_of p t in
    let case = first_slot slots in
    record {
      clears = map clear slots;
      numbers =
          runtime_value case prim.Pick (mask (range_with_len 0 (length cases)) ∷ []) ∷ per_case cases case (case_numbers p t slots);
      backs = per_case cases case (case_keys_back p f args);
      objects = per_case cases case (case_objects p t slots);
    }

abbrev pub result_code : Program → Func → List CVar → Option Ty → ResultCode
result_code p f slots None = plain_code [] []
result_code p f slots (Some int) = plain_code (runtime_value (first_slot slots) prim.Int [] ∷ []) []
result_code p f slots (Some bool) = plain_code (runtime_value (first_slot slots) prim.Pick (mask (0 ∷ 1 ∷ []) ∷ []) ∷ []) []
result_code p f slots (Some (tracked k t args)) = plain_code [] (new_object (first_slot slots))
result_code p f slots (Some (guarded k t args)) = plain_code [] []
result_code p f slots (Some (owning states t args)) = plain_code (pick_state states) (new_object (first_slot slots))
result_code p f slots (Some (variant t args)) = variant_code p f t args slots
result_code p f slots (Some (owning_variant t args)) = variant_code p f t args slots

abbrev pub give_back : Option Ty → List CVar → List Stmt
give_back None slots = c.return None ∷ []
give_back (Some t) slots = return_stmts (Some t) (map variable slots)

-- the body of an external's function; the slots of its result are temps
abbrev pub glue_code : Program → Func → StmtCode
glue_code p f =
    let t = first_temps p f in
    let sorts = sorts_of p f.result in
    let slots = vars_at t sorts in
    let code = result_code p f slots f.result in
    stmt_code
    (question p f ++ code.clears ++ go_out p f ++ pick_clause p f ++ code.numbers ++ come_back p f ++ code.backs
    ++ runtime_call prim.End [] ∷ code.objects ++ give_back f.result slots)
    (past_all t sorts)
