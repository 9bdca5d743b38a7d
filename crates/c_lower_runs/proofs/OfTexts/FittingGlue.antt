-- The code of glue keeps the limits on blocks and expressions.
use Rattle.std.proofs.Common.{ℕ, suc, nat_le, Bool, true, false, ◌&&◌, not, if◌then◌else◌, List, [], ◌∷◌, ◌++◌, map, filter, length, Option, Some, None, refl, arith}
use Rattle.std.specs.List.{flat_map, enumerate_from, range_with_len}
use Rattle.vlt_core.specs.Core as core
use Rattle.vlt_core.specs.Core.{States, Ty, CaseDecl, Entry, Func, Program}
use Rattle.vlt_core.specs.Lookups.{is_owning, is_owning_var, cases_of, after_set, is_held_after}
use Rattle.vlt_core.specs.KindedHeads.{is_bound_entry}
use Rattle.c_syntax.specs.declared.program.CVar.{CVar}
use Rattle.c_syntax.specs.declared.program.CPrim.TheVariants as prim
use Rattle.c_syntax.specs.C as c
use Rattle.c_syntax.specs.C.{Stmt}
use Rattle.c_lower.specs.Slots.{slot_of, first_slot, first_temps, sorts_of, vars_at}
use Rattle.c_lower.specs.Guards as g
use Rattle.c_lower.specs.Expressions.{variable}
use Rattle.c_lower.specs.Statements.{runtime_call, count_arg}
use Rattle.c_lower.specs.Glue as glue
use Rattle.c_lower.specs.Glue.{CaseAt, ResultCode, result_code, variant_code, glue_code}
use Rattle.c_lower_runs.proofs.OfTexts.Fitting.{Fits, AllFit, fits_both, fits_mapped, set_one, nothing_fits, call_fits, runtime_fits, value_fits, when_fits}
use Rattle.c_lower_runs.proofs.OfTexts.FittingStatements.{return_stmts_fit}
use Rattle.c_lower_runs.proofs.OfTexts.Lists.{each_flat, each_all}

-- pieces of code one after another
flat_fits : {A : Type 0} (room : ℕ) (go : A → List Stmt) (xs : List A) → ((x : A) → AllFit room (go x)) → AllFit room (flat_map go xs)
flat_fits room go xs h = each_flat (Fits room) (λ x. AllFit room (go x)) go xs (each_all (λ x. AllFit room (go x)) xs h) (λ x k. k)

question_fits : (p : Program) (f : Func) (room : ℕ) → AllFit room (glue.question p f)
question_fits p f room =
    fits_both room (runtime_call prim.Call (c.text f.name ∷ []) ∷ map (λ v. glue.argument_call (slot_of p f v)) (glue.params_of f)) (runtime_call prim.Ask [] ∷ []) (
      call_fits room (c.primitive prim.Call (c.text f.name ∷ [])) tt,
      fits_mapped room (λ v. glue.argument_call (slot_of p f v)) (glue.params_of f)
          (λ v. runtime_fits room (if (slot_of p f v).reference then prim.ArgP else prim.ArgN) (glue.var_arg (slot_of p f v) ∷ []) tt),
    )
    (runtime_fits room prim.Ask [] tt, tt)

out_fits : (p : Program) (f : Func) (room : ℕ) → AllFit room (glue.go_out p f)
out_fits p f room =
    fits_both room (map (λ e. runtime_call prim.Out (glue.var_arg (glue.key_slot p f e.key) ∷ [])) (filter (λ e. glue.is_taken e.mode) f.clause))
    (map (λ v. runtime_call prim.Out (glue.var_arg (slot_of p f v) ∷ [])) (filter (is_owning_var f) (glue.params_of f)))
    (fits_mapped room (λ (e : Entry). runtime_call prim.Out (glue.var_arg (glue.key_slot p f e.key) ∷ [])) (filter (λ e. glue.is_taken e.mode) f.clause)
    (λ e. runtime_fits room prim.Out (glue.var_arg (glue.key_slot p f e.key) ∷ []) tt))
    (fits_mapped room (λ v. runtime_call prim.Out (glue.var_arg (slot_of p f v) ∷ [])) (filter (is_owning_var f) (glue.params_of f))
    (λ v. runtime_fits room prim.Out (glue.var_arg (slot_of p f v) ∷ []) tt))

back_fits : (p : Program) (f : Func) (room : ℕ) → AllFit room (glue.come_back p f)
back_fits p f room =
    fits_mapped room (λ (e : Entry). runtime_call prim.Back (glue.var_arg (glue.key_slot p f e.key) ∷ [])) (filter (λ e. glue.is_given e.mode) f.clause)
    (λ e. runtime_fits room prim.Back (glue.var_arg (glue.key_slot p f e.key) ∷ []) tt)

pick_fits : (room : ℕ) (states : States) → AllFit room (glue.pick_state states)
pick_fits room states = by (nat_le 2 (length (glue.states_in states)))
  where
    by : (b : Bool) → AllFit room (if b then runtime_call prim.Pick (glue.mask (glue.states_in states) ∷ []) ∷ [] else [])
    by true = (runtime_fits room prim.Pick (glue.mask (glue.states_in states) ∷ []) tt, tt)
    by false = tt

picks_fit : (p : Program) (f : Func) (room : ℕ) → AllFit room (glue.pick_clause p f)
picks_fit p f room =
    flat_fits room (λ (e : Entry). glue.pick_state (after_set p f e)) (filter (λ e. is_held_after e && not (is_bound_entry e)) f.clause) (λ e. pick_fits room (after_set p f e))

payload_fits : (room : ℕ) (s : CVar) (ty : Ty) → AllFit room (glue.payload_number s ty)
payload_fits room s core.int = (value_fits room s prim.Int [] tt, tt)
payload_fits room s core.bool = (value_fits room s prim.Pick (glue.mask (0 ∷ 1 ∷ []) ∷ []) tt, tt)
payload_fits room s (core.owning states t args) = pick_fits room states
payload_fits room s (core.tracked k t args) = tt
payload_fits room s (core.guarded k t args) = tt
payload_fits room s (core.variant t args) = tt
payload_fits room s (core.owning_variant t args) = tt

when_case_fits : (room : ℕ) (s : CVar) (k : ℕ) (xs : List Stmt) → AllFit room xs → AllFit (suc room) (glue.when_case s k xs)
when_case_fits room s k [] h = tt
when_case_fits room s k (x ∷ xs) h = (when_fits room (g.equal (c.variable s) (g.whole k)) (x ∷ xs) (refl, tt, tt) (omega arith) h, tt)

cases_fit : (room : ℕ) (cases : List CaseDecl) (s : CVar) (code : CaseAt → List Stmt) → ((q : CaseAt) → AllFit room (code q)) → AllFit (suc room) (glue.per_case cases s code)
cases_fit room cases s code h =
    flat_fits (suc room) (λ (q : CaseAt). glue.when_case s q.0 (code q)) (enumerate_from 0 cases) (λ q. when_case_fits room s q.0 (code q) (h q))

new_fits : (room : ℕ) (s : CVar) → AllFit room (glue.new_object s)
new_fits room s = (value_fits room s prim.New (count_arg 0 ∷ count_arg 0 ∷ []) tt, tt)

-- the parts of a result
pub record ResultFits (room : ℕ) (x : ResultCode) : Type 0 where
  pub clears : AllFit room x.clears
  pub numbers : AllFit room x.numbers
  pub backs : AllFit room x.backs
  pub objects : AllFit room x.objects

plain_fits : (room : ℕ) (numbers objects : List Stmt) → AllFit room numbers → AllFit room objects → ResultFits room (glue.plain_code numbers objects)
plain_fits room numbers objects a b = record { clears = tt; numbers = a; backs = tt; objects = b }

clear_fits : (room : ℕ) (s : CVar) → Fits room (glue.clear s)
clear_fits room s = by s.reference
  where
    by : (b : Bool) → Fits room (c.set s (if b then c.null else g.whole 0))
    by true = set_one room s c.null tt refl
    by false = set_one room s (g.whole 0) tt refl

variant_fits : (p : Program) (f : Func) (room t : ℕ) (args : List ℕ) (slots : List CVar) → ResultFits (suc room) (variant_code p f t args slots)
variant_fits p f room t args slots =
    let cases = cases_of p t in
    let case = first_slot slots in
    record {
      clears = fits_mapped (suc room) glue.clear slots (clear_fits (suc room));
      numbers = (
        value_fits (suc room) case prim.Pick (glue.mask (range_with_len 0 (length cases)) ∷ []) tt,
        cases_fit room cases case (glue.case_numbers p t slots) (λ q.
            fits_both room (flat_map (λ k. glue.pick_state k.states) q.1.keys) (flat_map (λ x. glue.payload_number x.0 x.1) (glue.payloads p t slots q))
            (flat_fits room (λ k. glue.pick_state k.states) q.1.keys (λ k. pick_fits room k.states))
            (flat_fits room (λ x. glue.payload_number x.0 x.1) (glue.payloads p t slots q) (λ x. payload_fits room x.0 x.1))),
      );
      backs =
          cases_fit room cases case (glue.case_keys_back p f args) (λ q.
          fits_mapped room (λ k. runtime_call prim.Back (glue.var_arg (glue.key_slot p f (glue.key_in args k.position)) ∷ [])) q.1.keys
          (λ k. runtime_fits room prim.Back (glue.var_arg (glue.key_slot p f (glue.key_in args k.position)) ∷ []) tt));
      objects =
          cases_fit room cases case (glue.case_objects p t slots) (λ q.
          flat_fits room (λ x. if is_owning x.1 then glue.new_object x.0 else []) (glue.payloads p t slots q) (λ x. object_fits x.0 (is_owning x.1)));
    }
  where
    object_fits : (s : CVar) (b : Bool) → AllFit room (if b then glue.new_object s else [])
    object_fits s true = new_fits room s
    object_fits s false = tt

result_fits : (p : Program) (f : Func) (room : ℕ) (slots : List CVar) (ty : Option Ty) → ResultFits (suc room) (result_code p f slots ty)
result_fits p f room slots None = plain_fits (suc room) [] [] tt tt
result_fits p f room slots (Some core.int) = plain_fits (suc room) _ [] (value_fits (suc room) _ prim.Int [] tt, tt) tt
result_fits p f room slots (Some core.bool) = plain_fits (suc room) _ [] (value_fits (suc room) _ prim.Pick (glue.mask (0 ∷ 1 ∷ []) ∷ []) tt, tt) tt
result_fits p f room slots (Some (core.tracked k t args)) = plain_fits (suc room) [] _ tt (new_fits (suc room) _)
result_fits p f room slots (Some (core.guarded k t args)) = plain_fits (suc room) [] [] tt tt
result_fits p f room slots (Some (core.owning states t args)) = plain_fits (suc room) _ _ (pick_fits (suc room) states) (new_fits (suc room) _)
result_fits p f room slots (Some (core.variant t args)) = variant_fits p f room t args slots
result_fits p f room slots (Some (core.owning_variant t args)) = variant_fits p f room t args slots

give_fits : (room : ℕ) (ty : Option Ty) (slots : List CVar) → AllFit room (glue.give_back ty slots)
give_fits room None slots = (nothing_fits room, tt)
give_fits room (Some t) slots = return_stmts_fit room (Some t) (map variable slots)

pub glue_fits : (p : Program) (f : Func) (room : ℕ) → AllFit (suc room) (glue_code p f).stmts
glue_fits p f room = parts (result_code p f slots f.result) (result_fits p f room slots f.result)
  where
    slots : List CVar
    slots = vars_at (first_temps p f) (sorts_of p f.result)

    parts : (code : ResultCode) → ResultFits (suc room) code →
        AllFit (suc room) (glue.question p f ++ code.clears ++ glue.go_out p f ++ glue.pick_clause p f ++ code.numbers ++ glue.come_back p f ++ code.backs
        ++ runtime_call prim.End [] ∷ code.objects ++ glue.give_back f.result slots)
    parts code h =
        let a = glue.question p f ++ code.clears in
        let b = a ++ glue.go_out p f in
        let c = b ++ glue.pick_clause p f in
        let d = c ++ code.numbers in
        let e = d ++ glue.come_back p f in
        let x = e ++ code.backs in
        let y = x ++ runtime_call prim.End [] ∷ code.objects in
        fits_both (suc room) y (glue.give_back f.result slots)
        (fits_both (suc room) x (runtime_call prim.End [] ∷ code.objects)
        (fits_both (suc room) e code.backs
        (fits_both (suc room) d (glue.come_back p f)
        (fits_both (suc room) c code.numbers
        (fits_both (suc room) b (glue.pick_clause p f)
        (fits_both (suc room) a (glue.go_out p f)
        (fits_both (suc room) (glue.question p f) code.clears (question_fits p f (suc room)) h.clears)
        (out_fits p f (suc room)))
        (picks_fit p f (suc room)))
        h.numbers)
        (back_fits p f (suc room)))
        h.backs)
        (runtime_fits (suc room) prim.End [] tt, h.objects))
        (give_fits (suc room) f.result slots)
