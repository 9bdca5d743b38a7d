-- The code of glue breaks no rule of C.
use Rattle.std.proofs.Common.{◌≡◌, ◌≤◌, ◌<◌, ℕ, suc, ◌+◌, nat_le, Bool, true, false, not, ◌&&◌, if◌then◌else◌, List, [], ◌∷◌, ◌++◌, map, filter, length, Option, Some, None, slice_get, refl, sym, ap, ◌∙◌, subst, arith}
use Rattle.std.proofs.lemmas.Bool.{false≢true}
use Rattle.std.specs.List.{flat_map, enumerate_from}
use Rattle.vlt_core.specs.Core as core
use Rattle.vlt_core.specs.Core.{States, Ty, CaseDecl, Entry, Mode, Func, Program}
use Rattle.vlt_core.specs.Lookups.{is_owning, is_owning_var, owns, cases_of, case_at, var_type, after_set, is_held_after, is_new, is_fresh}
use Rattle.vlt_core.specs.KindedHeads.{is_bound_entry, is_payload_type}
use Rattle.c_syntax.specs.declared.program.CResult.{CResult}
use Rattle.c_syntax.specs.declared.program.CResult.TheVariants as result
use Rattle.c_syntax.specs.declared.program.CVar.{CVar}
use Rattle.c_syntax.specs.declared.program.CPrim.TheVariants as prim
use Rattle.c_syntax.specs.C as c
use Rattle.c_syntax.specs.C.{Stmt}
use Rattle.c_syntax.specs.Text.{max_number, is_run_byte, is_text_name}
use Rattle.c_syntax.specs.Canonical.{EachIs}
use Rattle.c_lower.specs.Slots.{Sort, of_number, of_reference, of_owner, slot_sorts, sorts_of, variant_sorts, past_all, vars_at, slot_of, first_slot, first_temps, payload_sort}
use Rattle.c_lower.specs.Guards as g
use Rattle.c_lower.specs.Expressions.{variable}
use Rattle.c_lower.specs.Statements.{runtime_call, runtime_value, is_variant}
use Rattle.c_lower.specs.Glue as glue
use Rattle.c_lower.specs.Glue.{CaseAt, ResultCode, result_code, variant_code, glue_code}
use Rattle.c_lower.specs.Lowering.{result_of}
use Rattle.c_lower_worlds.specs.Operators.Codes.{AreUpTo}
use Rattle.c_lower_worlds.proofs.OfOperators.Codes.{more_more}
use Rattle.c_lower_worlds.proofs.OfOperators.Expressions.{up_all}
use Rattle.c_lower_worlds.specs.Naming.Lists.{Each}
use Rattle.c_lower_worlds.proofs.OfNaming.DeclaredVariables.{Declared}
use Rattle.c_lower_runs.proofs.ClauseKeys.{KeyParameter, HaveParameters}
use Rattle.c_lower_runs.proofs.VariantResults.{IsGivenKey}
use Rattle.c_lower_runs.proofs.OfTexts.Ruled.{Place, IsKnown, IsVar, IsRuled, AllRuled, made_ruled}
use Rattle.c_lower_runs.proofs.OfTexts.SlotTypes.{kind_of, VarsFit, temps_fit, slot_fits, first_fits, var_atoms}
use Rattle.c_lower_runs.proofs.OfTexts.ExpressionKinds.{ruled_both, small_numeral}
use Rattle.c_lower_runs.proofs.OfTexts.PayloadKinds.{ArePayloads, case_sorts}
use Rattle.c_lower_runs.proofs.OfTexts.StatementParts.{mapped_ruled, pointer_slot}
use Rattle.c_lower_runs.proofs.OfTexts.CallKinds.{first_sort, given_ruled}
use Rattle.c_lower_runs.proofs.OfTexts.GlueParts.{key_slot_fits, states_mask, range_mask, truth_mask, PayloadSlot, payload_slots}
use Rattle.c_lower_runs.proofs.OfTexts.Lists.{each_flat, each_all, each_in_range, each_passed}

-- What glue stands in: an external of the program, and room for its slots and those of its result.
pub record GlueHere (a : Place) (p : Program) (f : Func) : Type 0 where
  pub up : AreUpTo (past_all (first_temps p f) (sorts_of p f.result)) a.most
  pub result : a.scope.result ≡ result_of f.result
  -- the name can be a string
  pub starts : is_text_name f.name ≡ true
  pub bytes : EachIs is_run_byte f.name
  pub declared : (v : ℕ) → v < f.params → Declared f v
  pub plain : (v : ℕ) (ty : Ty) → v < f.params → var_type f v ≡ Some ty → is_variant (Some ty) ≡ false
  pub keys : HaveParameters f f.clause
  pub case_numbers : (type k : ℕ) (d : CaseDecl) → case_at p type k ≡ Some d → k ≤ max_number
  pub slots : (ty : Ty) → length (slot_sorts p ty) ≤ max_number
  pub payloads : (t k : ℕ) (d : CaseDecl) → case_at p t k ≡ Some d → ArePayloads d.payload

-- what the rules say of the cases of a variant that is given
pub record GivenCases (p : Program) (f : Func) (t : ℕ) (args : List ℕ) : Type 0 where
  pub few : length (cases_of p t) ≤ 32
  pub keys : (k : ℕ) (d : CaseDecl) → slice_get (cases_of p t) k ≡ Some d → Each (IsGivenKey f args) d.keys

abbrev pub CasesFit : Program → Func → Option Ty → Type 0
CasesFit p f (Some (core.variant t args)) = GivenCases p f t args
CasesFit p f (Some (core.owning_variant t args)) = GivenCases p f t args
CasesFit p f ty = Unit {0}

all_ruled : {A : Type 0} (a : Place) (go : A → List Stmt) (xs : List A) → ((x : A) → AllRuled a false (go x)) → AllRuled a false (flat_map go xs)
all_ruled a go xs k = each_flat (IsRuled a false) (λ x. AllRuled a false (go x)) go xs (each_all (λ x. AllRuled a false (go x)) xs k) (λ x h. h)

module _ (a : Place) (p : Program) (f : Func) (here : GlueHere a p f) where
  first_up : AreUpTo (first_temps p f) a.most
  first_up = more_more (up_all (first_temps p f) (sorts_of p f.result)) here.up

  -- ---- the question

  reported : (v : CVar) (t : CResult) → IsVar a t v → IsRuled a false (glue.argument_call v)
  reported v t h = by v.reference refl
    where
      by : (r : Bool) → v.reference ≡ r → IsRuled a false (runtime_call (if r then prim.ArgP else prim.ArgN) (glue.var_arg v ∷ []))
      by true e = (record { known = h.known; type = ap (λ (r : Bool). if r then result.Reference else result.Number) e }, tt)
      by false e = (record { known = h.known; type = ap (λ (r : Bool). if r then result.Reference else result.Number) e }, tt)

  parameter_reported : (v : ℕ) → v < f.params → IsRuled a false (glue.argument_call (slot_of p f v))
  parameter_reported v below =
      let d = here.declared v below in
      let s = first_sort p d.ty in
      reported (slot_of p f v) (kind_of s.first) (slot_fits a p f v d.ty s.first s.rest first_up d.is s.is)

  question_ruled : AllRuled a false (glue.question p f)
  question_ruled =
      ruled_both a false (runtime_call prim.Call (c.text f.name ∷ []) ∷ map (λ v. glue.argument_call (slot_of p f v)) (glue.params_of f)) (runtime_call prim.Ask [] ∷ [])
      (((here.starts, here.bytes), tt), mapped_ruled a false (λ v. v < f.params) (λ v. glue.argument_call (slot_of p f v)) (glue.params_of f) (each_in_range f.params 0 f.params (omega arith)) parameter_reported) (tt, tt)

  -- ---- objects

  out_ruled : (v : CVar) → IsVar a result.Reference v → IsRuled a false (runtime_call prim.Out (glue.var_arg v ∷ []))
  out_ruled v h = (h, tt)

  back_ruled : (v : CVar) → IsVar a result.Reference v → IsRuled a false (runtime_call prim.Back (glue.var_arg v ∷ []))
  back_ruled v h = (h, tt)

  taken_old : (m : Mode) → glue.is_taken m ≡ true → is_fresh m ≡ false
  taken_old core.taken e = refl
  taken_old core.kept e = absurd (false≢true e)
  taken_old core.given e = absurd (false≢true e)
  taken_old core.fresh e = absurd (false≢true e)
  taken_old (core.up_to b) e = absurd (false≢true e)

  given_old : (m : Mode) → glue.is_given m ≡ true → is_fresh m ≡ false
  given_old core.given e = refl
  given_old core.kept e = absurd (false≢true e)
  given_old core.taken e = absurd (false≢true e)
  given_old core.fresh e = absurd (false≢true e)
  given_old (core.up_to b) e = absurd (false≢true e)

  entry_slot : (e : Entry) → KeyParameter f e.key → IsVar a result.Reference (glue.key_slot p f e.key)
  entry_slot e h = key_slot_fits a p f e.key first_up h

  owning_slot : (v : ℕ) → is_owning_var f v ≡ true → v < f.params → IsVar a result.Reference (slot_of p f v)
  owning_slot v owning below = let d = here.declared v below in by d.ty d.is (ap owns (sym d.is) ∙ owning) (here.plain v d.ty below d.is)
    where
      by : (ty : Ty) → var_type f v ≡ Some ty → is_owning ty ≡ true → is_variant (Some ty) ≡ false → IsVar a result.Reference (slot_of p f v)
      by (core.owning s t args) is o n = pointer_slot a p f v (core.owning s t args) first_up is refl
      by (core.owning_variant t args) is o n = absurd (false≢true (sym n))
      by core.int is o n = absurd (false≢true o)
      by core.bool is o n = absurd (false≢true o)
      by (core.tracked k t args) is o n = absurd (false≢true o)
      by (core.guarded k t args) is o n = absurd (false≢true o)
      by (core.variant t args) is o n = absurd (false≢true o)

  go_out_ruled : AllRuled a false (glue.go_out p f)
  go_out_ruled =
      ruled_both a false (map (λ e. runtime_call prim.Out (glue.var_arg (glue.key_slot p f e.key) ∷ [])) (filter (λ e. glue.is_taken e.mode) f.clause))
      (map (λ v. runtime_call prim.Out (glue.var_arg (slot_of p f v) ∷ [])) (filter (is_owning_var f) (glue.params_of f)))
      (mapped_ruled a false (λ (e : Entry). KeyParameter f e.key) (λ e. runtime_call prim.Out (glue.var_arg (glue.key_slot p f e.key) ∷ [])) (filter (λ e. glue.is_taken e.mode) f.clause)
      (each_passed (λ (e : Entry). is_new e ≡ false → KeyParameter f e.key) (λ e. KeyParameter f e.key) (λ e. glue.is_taken e.mode) f.clause (λ e t h. h (taken_old e.mode t)) here.keys)
      (λ e h. out_ruled (glue.key_slot p f e.key) (entry_slot e h)))
      (mapped_ruled a false (λ v. IsVar a result.Reference (slot_of p f v)) (λ v. runtime_call prim.Out (glue.var_arg (slot_of p f v) ∷ [])) (filter (is_owning_var f) (glue.params_of f))
      (each_passed (λ v. v < f.params) (λ v. IsVar a result.Reference (slot_of p f v)) (is_owning_var f) (glue.params_of f) owning_slot (each_in_range f.params 0 f.params (omega arith)))
      (λ v h. out_ruled (slot_of p f v) h))

  come_back_ruled : AllRuled a false (glue.come_back p f)
  come_back_ruled =
      mapped_ruled a false (λ (e : Entry). KeyParameter f e.key) (λ e. runtime_call prim.Back (glue.var_arg (glue.key_slot p f e.key) ∷ [])) (filter (λ e. glue.is_given e.mode) f.clause)
      (each_passed (λ (e : Entry). is_new e ≡ false → KeyParameter f e.key) (λ e. KeyParameter f e.key) (λ e. glue.is_given e.mode) f.clause (λ e t h. h (given_old e.mode t)) here.keys)
      (λ e h. back_ruled (glue.key_slot p f e.key) (entry_slot e h))

  -- ---- numbers

  pick_ruled : (s : States) → AllRuled a false (glue.pick_state s)
  pick_ruled s = by (nat_le 2 (length (glue.states_in s)))
    where
      by : (b : Bool) → AllRuled a false (if b then runtime_call prim.Pick (glue.mask (glue.states_in s) ∷ []) ∷ [] else [])
      by true = (((refl, states_mask s), tt), tt)
      by false = tt

  picks_ruled : AllRuled a false (glue.pick_clause p f)
  picks_ruled = all_ruled a (λ (e : Entry). glue.pick_state (after_set p f e)) (filter (λ e. is_held_after e && not (is_bound_entry e)) f.clause) (λ e. pick_ruled (after_set p f e))

  read_ruled : (v : CVar) → IsVar a result.Number v → IsRuled a false (runtime_value v prim.Int [])
  read_ruled v h = (h.known, tt, sym h.type)

  truth_ruled : (v : CVar) → IsVar a result.Number v → IsRuled a false (runtime_value v prim.Pick (glue.mask (0 ∷ 1 ∷ []) ∷ []))
  truth_ruled v h = (h.known, ((refl, truth_mask), tt), sym h.type)

  new_ruled : (v : CVar) → IsVar a result.Reference v → AllRuled a false (glue.new_object v)
  new_ruled v h = ((h.known, (small_numeral 0 (omega arith), (small_numeral 0 (omega arith), tt)), sym h.type), tt)

  payload_ruled : (v : CVar) (ty : Ty) → IsVar a (kind_of (payload_sort ty)) v → AllRuled a false (glue.payload_number v ty)
  payload_ruled v core.int h = (read_ruled v h, tt)
  payload_ruled v core.bool h = (truth_ruled v h, tt)
  payload_ruled v (core.owning s t args) h = pick_ruled s
  payload_ruled v (core.tracked k t args) h = tt
  payload_ruled v (core.guarded k t args) h = tt
  payload_ruled v (core.variant t args) h = tt
  payload_ruled v (core.owning_variant t args) h = tt

  owned_ruled : (v : CVar) (ty : Ty) → is_payload_type ty ≡ true → IsVar a (kind_of (payload_sort ty)) v → AllRuled a false (if is_owning ty then glue.new_object v else [])
  owned_ruled v (core.owning s t args) e h = new_ruled v h
  owned_ruled v core.int e h = tt
  owned_ruled v core.bool e h = tt
  owned_ruled v (core.tracked k t args) e h = tt
  owned_ruled v (core.guarded k t args) e h = tt
  owned_ruled v (core.variant t args) e h = tt
  owned_ruled v (core.owning_variant t args) e h = absurd (false≢true e)

  -- ---- cases

  case_ruled : (s : CVar) (k : ℕ) (xs : List Stmt) → IsVar a result.Number s → k ≤ max_number → AllRuled a false xs → AllRuled a false (glue.when_case s k xs)
  case_ruled s k [] h small all = tt
  case_ruled s k (x ∷ xs) h small all = (((refl, h, (refl, small_numeral k small)), made_ruled a false (x ∷ xs) all), tt)

  cases_ruled : (t : ℕ) (s : CVar) (code : CaseAt → List Stmt) → IsVar a result.Number s → ((k : ℕ) (d : CaseDecl) → slice_get (cases_of p t) k ≡ Some d → AllRuled a false (code (k, d))) → AllRuled a false (glue.per_case (cases_of p t) s code)
  cases_ruled t s code h all = by (cases_of p t) 0 (λ k d at. subst (λ i. slice_get (cases_of p t) i ≡ Some d) (none k) at)
    where
      none : (k : ℕ) → k ≡ 0 + k
      none k = omega arith

      more : (i k : ℕ) → i + suc k ≡ i + 1 + k
      more i k = omega arith

      first : (i : ℕ) → i + 0 ≡ i
      first i = omega arith

      by : (cs : List CaseDecl) (i : ℕ) → ((k : ℕ) (d : CaseDecl) → slice_get cs k ≡ Some d → slice_get (cases_of p t) (i + k) ≡ Some d) → AllRuled a false (flat_map (λ q. glue.when_case s q.0 (code q)) (enumerate_from i cs))
      by [] i at = tt
      by (d ∷ cs) i at =
          let is = subst (λ k. slice_get (cases_of p t) k ≡ Some d) (first i) (at 0 d refl) in
          ruled_both a false (glue.when_case s i (code (i, d))) (flat_map (λ q. glue.when_case s q.0 (code q)) (enumerate_from (i + 1) cs))
          (case_ruled s i (code (i, d)) h (here.case_numbers t i d is) (all i d is))
          (by cs (i + 1) (λ k e q. subst (λ j. slice_get (cases_of p t) j ≡ Some e) (more i k) (at (suc k) e q)))

  -- ---- results

  record ResultRuled (x : ResultCode) : Type 0 where
    clears : AllRuled a false x.clears
    numbers : AllRuled a false x.numbers
    backs : AllRuled a false x.backs
    objects : AllRuled a false x.objects

  clear_ruled : (v : CVar) → IsKnown a v → IsRuled a false (glue.clear v)
  clear_ruled v known = by v.reference refl
    where
      by : (r : Bool) → v.reference ≡ r → IsRuled a false (c.set v (if r then c.null else g.whole 0))
      by true e = (known, ap (λ (r : Bool). if r then result.Reference else result.Number) e)
      by false e = (known, (ap (λ (r : Bool). if r then result.Reference else result.Number) e, small_numeral 0 (omega arith)))

  each_known : (ss : List Sort) (vs : List CVar) → VarsFit a ss vs → Each (IsKnown a) vs
  each_known [] [] h = tt
  each_known [] (v ∷ vs) h = absurd h
  each_known (s ∷ ss) [] h = absurd h
  each_known (s ∷ ss) (v ∷ vs) h = (h.0.known, each_known ss vs h.1)

  given_key_ruled : (args : List ℕ) (k : core.CaseKey) → IsGivenKey f args k → IsRuled a false (runtime_call prim.Back (glue.var_arg (glue.key_slot p f (glue.key_in args k.position)) ∷ []))
  given_key_ruled args k h = rw h.at (back_ruled (glue.key_slot p f h.key) (key_slot_fits a p f h.key first_up h.parameter))

  variant_ruled : (t : ℕ) (args : List ℕ) (slots : List CVar) → VarsFit a (variant_sorts p t) slots → GivenCases p f t args → ResultRuled (variant_code p f t args slots)
  variant_ruled t args slots fit given =
      let case = first_slot slots in
      let known = first_fits a of_number _ slots fit in
      record {
        clears = mapped_ruled a false (IsKnown a) glue.clear slots (each_known (variant_sorts p t) slots fit) clear_ruled;
        numbers = (
          (known.known, ((refl, range_mask (length (cases_of p t)) given.few), tt), sym known.type),
          cases_ruled t case (glue.case_numbers p t slots) known (λ k d at.
              ruled_both a false (flat_map (λ k. glue.pick_state k.states) d.keys) (flat_map (λ x. glue.payload_number x.0 x.1) (glue.payloads p t slots (k, d)))
              (all_ruled a (λ k. glue.pick_state k.states) d.keys (λ k. pick_ruled k.states))
              (each_flat (IsRuled a false) (PayloadSlot a) (λ x. glue.payload_number x.0 x.1) (glue.payloads p t slots (k, d)) (slots_of k d at) (λ x h. payload_ruled x.0 x.1 h.is))),
        );
        backs = cases_ruled t case (glue.case_keys_back p f args) known (λ k d at.
            mapped_ruled a false (IsGivenKey f args) (λ k. runtime_call prim.Back (glue.var_arg (glue.key_slot p f (glue.key_in args k.position)) ∷ [])) d.keys (given.keys k d at) (given_key_ruled args));
        objects = cases_ruled t case (glue.case_objects p t slots) known (λ k d at.
            each_flat (IsRuled a false) (PayloadSlot a) (λ x. if is_owning x.1 then glue.new_object x.0 else []) (glue.payloads p t slots (k, d)) (slots_of k d at) (λ x h. owned_ruled x.0 x.1 h.payload h.is));
      }
    where
      slots_of : (k : ℕ) (d : CaseDecl) → case_at p t k ≡ Some d → Each (PayloadSlot a) (glue.payloads p t slots (k, d))
      slots_of k d at = payload_slots a (variant_sorts p t) slots fit _ d.payload (here.payloads t k d at) (case_sorts p t k d at (here.payloads t k d at))

  result_ruled : (ty : Option Ty) (slots : List CVar) → VarsFit a (sorts_of p ty) slots → CasesFit p f ty → ResultRuled (result_code p f slots ty)
  result_ruled None slots fit given = record { clears = tt; numbers = tt; backs = tt; objects = tt }
  result_ruled (Some core.int) slots fit given = record { clears = tt; numbers = (read_ruled (first_slot slots) (first_fits a of_number [] slots fit), tt); backs = tt; objects = tt }
  result_ruled (Some core.bool) slots fit given = record { clears = tt; numbers = (truth_ruled (first_slot slots) (first_fits a of_number [] slots fit), tt); backs = tt; objects = tt }
  result_ruled (Some (core.tracked k t args)) slots fit given = record { clears = tt; numbers = tt; backs = tt; objects = new_ruled (first_slot slots) (first_fits a of_reference [] slots fit) }
  result_ruled (Some (core.guarded k t args)) slots fit given = record { clears = tt; numbers = tt; backs = tt; objects = tt }
  result_ruled (Some (core.owning s t args)) slots fit given = record { clears = tt; numbers = pick_ruled s; backs = tt; objects = new_ruled (first_slot slots) (first_fits a of_owner [] slots fit) }
  result_ruled (Some (core.variant t args)) slots fit given = variant_ruled t args slots fit given
  result_ruled (Some (core.owning_variant t args)) slots fit given = variant_ruled t args slots fit given

  give_ruled : (ty : Option Ty) (slots : List CVar) → a.scope.result ≡ result_of ty → VarsFit a (sorts_of p ty) slots → AllRuled a false (glue.give_back ty slots)
  give_ruled None slots result fit = (result, tt)
  give_ruled (Some ty) slots result fit = given_ruled a false p ty (map variable slots) (here.slots ty) result (var_atoms a (slot_sorts p ty) slots fit)

  pub glue_ruled : CasesFit p f f.result → AllRuled a false (glue_code p f).stmts
  glue_ruled given = parts (result_code p f slots f.result) (result_ruled f.result slots fit given)
    where
      slots : List CVar
      slots = vars_at (first_temps p f) (sorts_of p f.result)

      fit : VarsFit a (sorts_of p f.result) slots
      fit = temps_fit a (first_temps p f) (sorts_of p f.result) here.up

      parts : (code : ResultCode) → ResultRuled code →
          AllRuled a false (glue.question p f ++ code.clears ++ glue.go_out p f ++ glue.pick_clause p f ++ code.numbers ++ glue.come_back p f ++ code.backs
          ++ runtime_call prim.End [] ∷ code.objects ++ glue.give_back f.result slots)
      parts code h =
          let a1 = glue.question p f ++ code.clears in
          let a2 = a1 ++ glue.go_out p f in
          let a3 = a2 ++ glue.pick_clause p f in
          let a4 = a3 ++ code.numbers in
          let a5 = a4 ++ glue.come_back p f in
          let a6 = a5 ++ code.backs in
          let a7 = a6 ++ runtime_call prim.End [] ∷ code.objects in
          ruled_both a false a7 (glue.give_back f.result slots)
          (ruled_both a false a6 (runtime_call prim.End [] ∷ code.objects)
          (ruled_both a false a5 code.backs
          (ruled_both a false a4 (glue.come_back p f)
          (ruled_both a false a3 code.numbers
          (ruled_both a false a2 (glue.pick_clause p f)
          (ruled_both a false a1 (glue.go_out p f)
          (ruled_both a false (glue.question p f) code.clears question_ruled h.clears)
          go_out_ruled)
          picks_ruled)
          h.numbers)
          come_back_ruled)
          h.backs)
          (tt, h.objects))
          (give_ruled f.result slots here.result fit)
