-- The parts of an external's function, as the code here writes them. That they are those of `c_lower/specs/Glue.antt` is
-- proved in `proofs/OfGlue/Same.antt`.
use Rattle.std.specs.Prelude.{ℕ, Bool, true, false, not, ◌&&◌, if◌then◌else◌, List, [], ◌∷◌, ◌++◌, map, filter, length, Option, Some, None}
use Rattle.std.specs.List.{flat_map, zip, enumerate_from, range_with_len}
use Rattle.vlt_core.specs.Core as core
use Rattle.vlt_core.specs.Core.{Ty, int, bool, tracked, owning, variant, owning_variant, CaseKey, CaseDecl, Mode, Entry, Func, Program}
use Rattle.vlt_core.specs.Lookups.{is_owning, is_owning_var, cases_of, after_set, is_held_after}
use Rattle.vlt_core.specs.KindedHeads.{is_bound_entry}
use Rattle.c_syntax.specs.declared.program.CVar.{CVar}
use Rattle.c_syntax.specs.declared.program.CPrim.{CPrim}
use Rattle.c_syntax.specs.declared.program.CPrim.TheVariants as prim
use Rattle.c_syntax.specs.C as c
use Rattle.c_syntax.specs.C.{Stmt}
use Rattle.c_lower.specs.Slots.{past_all, vars_at, slot_of, first_slot, first_temps, sorts_of}
use Rattle.c_lower.specs.Statements.{runtime_call, runtime_value, is_variant, case_positions, StmtCode, stmt_code}
use Rattle.c_lower.specs.Glue.{var_arg, argument_call, question, key_slot, is_taken, is_given, go_out, come_back, mask, CaseAt, when_case, slot_at, key_in, new_object, clear, give_back}
use Rattle.c_lower.specs.Lowering.{func_with}
use Rattle.c_lower_program.specs.declared.glue.keys.Way.{Way}
use Rattle.c_lower_program.specs.declared.glue.keys.Way.TheVariants as way
use Rattle.c_lower_program.specs.declared.glue.payloads.Part.{Part}
use Rattle.c_lower_program.specs.declared.glue.payloads.Part.TheVariants as part
use Rattle.c_lower_program.specs.Glue.Picks.{picked}

-- ---- before the answer

-- an argument for each of these parameters
abbrev pub arguments : Program → Func → List ℕ → List Stmt
arguments p f vs = map (λ v. argument_call (slot_of p f v)) vs

abbrev pub moved_by : Way → CPrim
moved_by way.Out = prim.Out
moved_by way.Back = prim.Back

-- whether the object of an entry of this mode goes this way
abbrev pub moves : Way → Mode → Bool
moves way.Out m = is_taken m
moves way.Back m = is_given m

-- the objects of these entries' keys go out or come back
abbrev pub keys_moved : Way → Program → Func → List Entry → List Stmt
keys_moved w p f es =
    map (λ e. runtime_call (moved_by w) (var_arg (key_slot p f e.key) ∷ [])) (filter (λ e. moves w e.mode) es)

-- the objects that these parameters own go out
abbrev pub owners_out : Program → Func → List ℕ → List Stmt
owners_out p f vs = map (λ v. runtime_call prim.Out (var_arg (slot_of p f v) ∷ [])) (filter (is_owning_var f) vs)

abbrev pub result_clears : List CVar → Option Ty → List Stmt
result_clears slots ty = if is_variant ty then map clear slots else []

abbrev pub call_code : Program → Func → List CVar → List Stmt
call_code p f slots = question p f ++ result_clears slots f.result ++ go_out p f

-- ---- after the answer

abbrev pub is_asked : Entry → Bool
is_asked e = is_held_after e && not (is_bound_entry e)

-- the states of these entries' objects are asked for
abbrev pub clause_picks : Program → Func → List Entry → List Stmt
clause_picks p f es = flat_map (λ e. picked (after_set p f e)) (filter is_asked es)

abbrev pub number_code : CVar → Ty → List Stmt
number_code s int = runtime_value s prim.Int [] ∷ []
number_code s bool = runtime_value s prim.Pick (mask (0 ∷ 1 ∷ []) ∷ []) ∷ []
number_code s (owning states t args) = picked states
number_code s _ = []

abbrev pub payload_code : Part → CVar → Ty → List Stmt
payload_code part.Numbers s t = number_code s t
payload_code part.Backs s t = []
payload_code part.Objects s t = if is_owning t then new_object s else []

abbrev pub key_code : Part → Program → Func → (args : List ℕ) → CaseKey → List Stmt
key_code part.Numbers p f args k = picked k.states
key_code part.Backs p f args k = runtime_call prim.Back (var_arg (key_slot p f (key_in args k.position)) ∷ []) ∷ []
key_code part.Objects p f args k = []

abbrev pub keys_code : Part → Program → Func → (args : List ℕ) → List CaseKey → List Stmt
keys_code x p f args ks = flat_map (key_code x p f args) ks

-- of payloads that have the slots at these positions
abbrev pub payloads_code : Part → List CVar → (positions : List ℕ) → List Ty → List Stmt
payloads_code x slots positions ts = flat_map (λ q. payload_code x q.0 q.1) (zip (map (slot_at slots) positions) ts)

abbrev pub case_code : Part → Program → Func → (type : ℕ) → (args : List ℕ) → List CVar → CaseAt → List Stmt
case_code x p f t args slots q =
    keys_code x p f args q.1.keys ++ payloads_code x slots (case_positions p t q.0) q.1.payload

-- of cases of which the first has this number
abbrev pub cases_code : Part → Program → Func → (type : ℕ) → (args : List ℕ) → List CVar → (number : ℕ) → List CaseDecl → List Stmt
cases_code x p f t args slots n cases =
    flat_map (λ q. when_case (first_slot slots) q.0 (case_code x p f t args slots q)) (enumerate_from n cases)

-- the host is asked for the case, of so many
abbrev pub case_pick : Part → CVar → (count : ℕ) → List Stmt
case_pick part.Numbers s n = runtime_value s prim.Pick (mask (range_with_len 0 n) ∷ []) ∷ []
case_pick _ s n = []

abbrev pub variant_code : Part → Program → Func → (type : ℕ) → (args : List ℕ) → List CVar → List Stmt
variant_code x p f t args slots =
    case_pick x (first_slot slots) (length (cases_of p t)) ++ cases_code x p f t args slots 0 (cases_of p t)

abbrev pub is_object : Ty → Bool
is_object (tracked k t args) = true
is_object (owning states t args) = true
is_object _ = false

abbrev pub plain_code : Part → CVar → Ty → List Stmt
plain_code part.Numbers s t = number_code s t
plain_code part.Backs s t = []
plain_code part.Objects s t = if is_object t then new_object s else []

abbrev pub result_code : Part → Program → Func → List CVar → Option Ty → List Stmt
result_code x p f slots None = []
result_code x p f slots (Some (variant t args)) = variant_code x p f t args slots
result_code x p f slots (Some (owning_variant t args)) = variant_code x p f t args slots
result_code x p f slots (Some ty) = plain_code x (first_slot slots) ty

abbrev pub answer_code : Program → Func → List CVar → List Stmt
answer_code p f slots =
    clause_picks p f f.clause ++ result_code part.Numbers p f slots f.result ++ come_back p f
    ++ result_code part.Backs p f slots f.result ++ runtime_call prim.End [] ∷ result_code part.Objects p f slots f.result

-- ---- the whole

unfoldable pub written : Program → Func → List CVar → List Stmt
written p f slots = call_code p f slots ++ answer_code p f slots ++ give_back f.result slots

unfoldable pub glue_of : Program → Func → StmtCode
glue_of p f =
    let t = first_temps p f in
    let sorts = sorts_of p f.result in
    stmt_code (written p f (vars_at t sorts)) (past_all t sorts)

-- the functions that stand for externals, of which the first has this number
abbrev pub externals_from : Program → (number : ℕ) → List Func → List c.Func
externals_from p n fs = map (λ q. func_with p q.0 q.1 (glue_of p q.1)) (enumerate_from n (filter (λ f. f.external) fs))
