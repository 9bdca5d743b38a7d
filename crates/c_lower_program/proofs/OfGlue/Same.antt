-- The parts that the code writes are those of the definition.
use Rattle.std.proofs.Common.{◌≡◌, ℕ, not, ◌&&◌, List, [], ◌∷◌, ◌++◌, map, filter, length, Option, Some, None, refl, ap, ◌∙◌, append_assoc}
use Rattle.std.proofs.lemmas.List.{append-nil}
use Rattle.std.specs.List.{flat_map, range_with_len}
use Rattle.vlt_core.specs.Core.{States, Ty, int, bool, tracked, owning, guarded, variant, owning_variant, CaseKey, Func, Program}
use Rattle.vlt_core.specs.Lookups.{cases_of, after_set, is_held_after}
use Rattle.vlt_core.specs.KindedHeads.{is_bound_entry}
use Rattle.c_syntax.specs.declared.program.CVar.{CVar}
use Rattle.c_syntax.specs.declared.program.CPrim.TheVariants as prim
use Rattle.c_syntax.specs.C.{Stmt}
use Rattle.c_lower.specs.Slots.{Numbers, past_all, vars_at, first_slot, first_temps, sorts_of}
use Rattle.c_lower.specs.Statements.{runtime_call, runtime_value, stmt_code}
use Rattle.c_lower.specs.Glue as g
use Rattle.c_lower.specs.Glue.{pick_state, pick_clause, payload_number, CaseAt, payloads, case_numbers, case_keys_back, case_objects, key_slot, key_in, var_arg, question, go_out, come_back, give_back, mask, glue_code}
use Rattle.c_lower_calls.specs.Written.{Writes}
use Rattle.c_lower_program.specs.declared.glue.payloads.Part.TheVariants as part
use Rattle.c_lower_program.specs.Glue.Parts.{result_clears, clause_picks, number_code, case_code, result_code, call_code, answer_code, written, glue_of}
use Rattle.c_lower_program.proofs.OfGlue.Sums.{picked_all}

-- ---- lists of lists

each_one : {A : Type 0} (f : A → Stmt) (xs : List A) → flat_map (λ x. f x ∷ []) xs ≡ map f xs
each_one f [] = refl
each_one f (x ∷ xs) = ap (λ ys. f x ∷ ys) (each_one f xs)

each_none : {A : Type 0} (xs : List A) → flat_map (λ (x : A). let none : List Stmt = [] in none) xs ≡ []
each_none [] = refl
each_none (x ∷ xs) = each_none xs

-- ---- parts

-- `payload_number`, by what picks a state
number_by : (States → List Stmt) → CVar → Ty → List Stmt
number_by pick s int = runtime_value s prim.Int [] ∷ []
number_by pick s bool = runtime_value s prim.Pick (mask (0 ∷ 1 ∷ []) ∷ []) ∷ []
number_by pick s (owning states t args) = pick states
number_by pick s _ = []

number_is : (s : CVar) (t : Ty) → number_code s t ≡ payload_number s t
number_is s int = refl
number_is s bool = refl
number_is s (tracked k t args) = refl
number_is s (owning states t args) = ap (λ (pick : States → List Stmt). pick states) picked_all
number_is s (guarded k t args) = refl
number_is s (variant t args) = refl
number_is s (owning_variant t args) = refl

numbers_are : number_code ≡ payload_number
numbers_are = λ i s t. number_is s t i

picks_are : (p : Program) (f : Func) → clause_picks p f f.clause ≡ pick_clause p f
picks_are p f = ap (λ (pick : States → List Stmt). flat_map (λ e. pick (after_set p f e)) (filter (λ e. is_held_after e && not (is_bound_entry e)) f.clause)) picked_all

case_numbers_are : (p : Program) (f : Func) (t : ℕ) (args : List ℕ) (slots : List CVar) (q : CaseAt) → case_code part.Numbers p f t args slots q ≡ case_numbers p t slots q
case_numbers_are p f t args slots q =
    ap (λ (pick : States → List Stmt). flat_map (λ (k : CaseKey). pick k.states) q.1.keys ++ flat_map (λ x. number_code x.0 x.1) (payloads p t slots q)) picked_all
    ∙ ap (λ (number : CVar → Ty → List Stmt). flat_map (λ (k : CaseKey). pick_state k.states) q.1.keys ++ flat_map (λ x. number x.0 x.1) (payloads p t slots q)) numbers_are

case_backs_are : (p : Program) (f : Func) (t : ℕ) (args : List ℕ) (slots : List CVar) (q : CaseAt) → case_code part.Backs p f t args slots q ≡ case_keys_back p f args q
case_backs_are p f t args slots q =
    ap (λ xs. flat_map (λ (k : CaseKey). runtime_call prim.Back (var_arg (key_slot p f (key_in args k.position)) ∷ []) ∷ []) q.1.keys ++ xs) (each_none (payloads p t slots q))
    ∙ append-nil _
    ∙ each_one (λ (k : CaseKey). runtime_call prim.Back (var_arg (key_slot p f (key_in args k.position)) ∷ [])) q.1.keys

case_objects_are : (p : Program) (f : Func) (t : ℕ) (args : List ℕ) (slots : List CVar) (q : CaseAt) → case_code part.Objects p f t args slots q ≡ case_objects p t slots q
case_objects_are p f t args slots q = ap (λ xs. xs ++ case_objects p t slots q) (each_none q.1.keys)

-- ---- the result

result_numbers : (p : Program) (f : Func) (slots : List CVar) (ty : Option Ty) → result_code part.Numbers p f slots ty ≡ (g.result_code p f slots ty).numbers
result_numbers p f slots None = refl
result_numbers p f slots (Some int) = refl
result_numbers p f slots (Some bool) = refl
result_numbers p f slots (Some (tracked k t args)) = refl
result_numbers p f slots (Some (owning states t args)) = number_is (first_slot slots) (owning states t args)
result_numbers p f slots (Some (guarded k t args)) = refl
result_numbers p f slots (Some (variant t args)) =
    ap (λ (code : CaseAt → List Stmt). runtime_value (first_slot slots) prim.Pick (mask (range_with_len 0 (length (cases_of p t))) ∷ []) ∷ g.per_case (cases_of p t) (first_slot slots) code) (λ i q. case_numbers_are p f t args slots q i)
result_numbers p f slots (Some (owning_variant t args)) =
    ap (λ (code : CaseAt → List Stmt). runtime_value (first_slot slots) prim.Pick (mask (range_with_len 0 (length (cases_of p t))) ∷ []) ∷ g.per_case (cases_of p t) (first_slot slots) code) (λ i q. case_numbers_are p f t args slots q i)

result_backs : (p : Program) (f : Func) (slots : List CVar) (ty : Option Ty) → result_code part.Backs p f slots ty ≡ (g.result_code p f slots ty).backs
result_backs p f slots None = refl
result_backs p f slots (Some int) = refl
result_backs p f slots (Some bool) = refl
result_backs p f slots (Some (tracked k t args)) = refl
result_backs p f slots (Some (owning states t args)) = refl
result_backs p f slots (Some (guarded k t args)) = refl
result_backs p f slots (Some (variant t args)) =
    ap (λ (code : CaseAt → List Stmt). g.per_case (cases_of p t) (first_slot slots) code) (λ i q. case_backs_are p f t args slots q i)
result_backs p f slots (Some (owning_variant t args)) =
    ap (λ (code : CaseAt → List Stmt). g.per_case (cases_of p t) (first_slot slots) code) (λ i q. case_backs_are p f t args slots q i)

result_objects : (p : Program) (f : Func) (slots : List CVar) (ty : Option Ty) → result_code part.Objects p f slots ty ≡ (g.result_code p f slots ty).objects
result_objects p f slots None = refl
result_objects p f slots (Some int) = refl
result_objects p f slots (Some bool) = refl
result_objects p f slots (Some (tracked k t args)) = refl
result_objects p f slots (Some (owning states t args)) = refl
result_objects p f slots (Some (guarded k t args)) = refl
result_objects p f slots (Some (variant t args)) =
    ap (λ (code : CaseAt → List Stmt). g.per_case (cases_of p t) (first_slot slots) code) (λ i q. case_objects_are p f t args slots q i)
result_objects p f slots (Some (owning_variant t args)) =
    ap (λ (code : CaseAt → List Stmt). g.per_case (cases_of p t) (first_slot slots) code) (λ i q. case_objects_are p f t args slots q i)

clears_are : (p : Program) (f : Func) (slots : List CVar) (ty : Option Ty) → result_clears slots ty ≡ (g.result_code p f slots ty).clears
clears_are p f slots None = refl
clears_are p f slots (Some int) = refl
clears_are p f slots (Some bool) = refl
clears_are p f slots (Some (tracked k t args)) = refl
clears_are p f slots (Some (owning states t args)) = refl
clears_are p f slots (Some (guarded k t args)) = refl
clears_are p f slots (Some (variant t args)) = refl
clears_are p f slots (Some (owning_variant t args)) = refl

-- ---- the whole

in_one_list : (a b c d e k l m n : List Stmt) (x : Stmt) → (a ++ b ++ c) ++ (d ++ e ++ k ++ l ++ x ∷ m) ++ n ≡ a ++ b ++ c ++ d ++ e ++ k ++ l ++ x ∷ m ++ n
in_one_list a b c d e k l m n x = simp append_assoc

-- with the parts of a result
whole : (p : Program) (f : Func) (slots : List CVar) (clears picks numbers backs objects : List Stmt) → List Stmt
whole p f slots clears picks numbers backs objects =
    (question p f ++ clears ++ go_out p f)
    ++ (picks ++ numbers ++ come_back p f ++ backs ++ runtime_call prim.End [] ∷ objects)
    ++ give_back f.result slots

whole_is : (p : Program) (f : Func) (slots : List CVar) → call_code p f slots ++ answer_code p f slots ++ give_back f.result slots ≡ (let code = g.result_code p f slots f.result in question p f ++ code.clears ++ go_out p f ++ pick_clause p f ++ code.numbers ++ come_back p f ++ code.backs ++ runtime_call prim.End [] ∷ code.objects ++ give_back f.result slots)
unfolding whole
whole_is p f slots =
    let code = g.result_code p f slots f.result in
    ap (λ xs. whole p f slots xs (clause_picks p f f.clause) (result_code part.Numbers p f slots f.result) (result_code part.Backs p f slots f.result) (result_code part.Objects p f slots f.result)) (clears_are p f slots f.result)
    ∙ ap (λ xs. whole p f slots code.clears xs (result_code part.Numbers p f slots f.result) (result_code part.Backs p f slots f.result) (result_code part.Objects p f slots f.result)) (picks_are p f)
    ∙ ap (λ xs. whole p f slots code.clears (pick_clause p f) xs (result_code part.Backs p f slots f.result) (result_code part.Objects p f slots f.result)) (result_numbers p f slots f.result)
    ∙ ap (λ xs. whole p f slots code.clears (pick_clause p f) code.numbers xs (result_code part.Objects p f slots f.result)) (result_backs p f slots f.result)
    ∙ ap (λ xs. whole p f slots code.clears (pick_clause p f) code.numbers code.backs xs) (result_objects p f slots f.result)
    ∙ in_one_list (question p f) code.clears (go_out p f) (pick_clause p f) code.numbers (come_back p f) code.backs code.objects (give_back f.result slots) (runtime_call prim.End [])

glue_is : (p : Program) (f : Func) → glue_of p f ≡ glue_code p f
unfolding glue_of written
glue_is p f =
    let t = first_temps p f in
    let sorts = sorts_of p f.result in
    ap (λ xs. stmt_code xs (past_all t sorts)) (whole_is p f (vars_at t sorts))

pub glues_are : glue_of ≡ glue_code
glues_are = λ i p f. glue_is p f i

-- what is written in three steps
pub all_written : (p : Program) (f : Func) (slots : List CVar) (called answered given : List Stmt) → called ≡ call_code p f slots → answered ≡ called ++ answer_code p f slots → given ≡ answered ++ give_back f.result slots → given ≡ written p f slots
unfolding written
all_written p f slots called answered given first second third =
    third ∙ ap (λ (xs : List Stmt). xs ++ give_back f.result slots) (second ∙ ap (λ (xs : List Stmt). xs ++ answer_code p f slots) first)

pub glue_written : (p : Program) (f : Func) (slots : List CVar) (next : Numbers) (stmts : List Stmt) → slots ≡ vars_at (first_temps p f) (sorts_of p f.result) → next ≡ past_all (first_temps p f) (sorts_of p f.result) → stmts ≡ written p f slots → Writes (glue_of p f) [] stmts next
unfolding glue_of
glue_written p f slots next stmts vars following all = record { stmts = all ∙ ap (written p f) vars; most = following }
