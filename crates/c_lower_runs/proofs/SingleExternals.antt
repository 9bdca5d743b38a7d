-- Externals with keys, which give no variant: glue does what the external's step does, where the references that are handed
-- over are what their keys name.
use Rattle.std.proofs.Common.{◌≡◌, ◌≤◌, ℕ, zero, suc, nat_lt, ◌||◌, Bool, true, false, if◌then◌else◌, List, [], ◌∷◌, map, filter, Option, Some, None, slice_get, length, Ok, refl, sym, ◌∙◌, subst, arith}
use Rattle.std.proofs.lemmas.Bool.{true≢false, false≢true}
use Rattle.std.proofs.lemmas.Bool.Decides.{nat_tests}
use Rattle.std.specs.List.{list_any, list_all}
use Rattle.std.specs.Option.{option_map}
use Rattle.vlt_core.specs.Core as core
use Rattle.vlt_core.specs.Core.{Ty, Mode, Entry, Operand, Func, Program}
use Rattle.vlt_core.specs.Instances.{Bound, bound_in, instance}
use Rattle.vlt_core.specs.KindedScopes.{Ids}
use Rattle.vlt_core_laws.proofs.Instanced.{new_keys_same}
use Rattle.vlt_core.specs.Lookups.{fields_of, is_new, is_held_after, is_fresh, is_after}
use Rattle.vlt_meaning.specs.World as source
use Rattle.vlt_meaning.specs.Calls.{Binding, binding}
use Rattle.vlt_meaning.specs.Externals.{call_external, new_key}
use Rattle.vlt_meaning.specs.Step as step
use Rattle.c_syntax.specs.View.{stmts_made}
use Rattle.c_syntax.specs.C as syntax
use Rattle.c_meaning.specs.Values.{arg_values}
use Rattle.c_meaning.specs.Run as crun
use Rattle.c_lower.specs.Slots.{Numbers, param_slots}
use Rattle.c_lower.specs.Statements.{call_stmts, name_of}
use Rattle.c_lower_worlds.specs.Worlds.{Registers, c_world}
use Rattle.c_lower_worlds.specs.Shapes.{types_of}
use Rattle.c_lower_worlds.specs.Same.{Same}
use Rattle.c_lower_worlds.specs.SameStatements.{Begins}
use Rattle.c_lower_worlds.specs.Operands.{RegistersSuffice}
use Rattle.c_lower_worlds.proofs.OperandLists.{HaveShapes, flat_values}
use Rattle.c_lower_runs.proofs.CalleeFrames.{decl_values}
use Rattle.c_lower_runs.proofs.Calls.{IsKindedCall, call_of_instance}
use Rattle.c_lower_runs.proofs.ExternalCalls.{c_setup, glue_frame}
use Rattle.c_lower_runs.proofs.InstanceClauses.{AreProper, proper_instance, plain_instance, parameters_instance, named_instance}
use Rattle.c_lower_worlds.proofs.OfNaming.RunningInstances.{instance_for, runs_unbound, any_new_instance}
use Rattle.c_lower_runs.proofs.ClauseKeys.{HaveParameters, KeysNamed, keys_fit}
use Rattle.c_lower_runs.proofs.GlueParameters.{PlainParameters}
use Rattle.c_lower_runs.proofs.AnswerReading.{IsProper}
use Rattle.c_lower_runs.proofs.GlueResults.{ResultParts, nothing_parts}
use Rattle.c_lower_runs.proofs.SingleResults.{int_parts, bool_parts, owning_parts, tracked_parts}
use Rattle.vlt_core_laws.proofs.Ids.{and_left}
use Rattle.c_lower_runs.proofs.ExternalParts.{external_right}

-- ---- the key of a `new` entry

fresh_after : (m : Mode) → is_fresh m ≡ true → is_after m ≡ true
fresh_after core.kept e = absurd (false≢true e)
fresh_after core.taken e = absurd (false≢true e)
fresh_after core.given e = absurd (false≢true e)
fresh_after core.fresh e = refl
fresh_after (core.up_to b) e = refl

record Listed (keys : List ℕ) (k : ℕ) : Type 0 where
  key : ℕ
  is : slice_get keys k ≡ Some key

listed : (keys : List ℕ) (k : ℕ) → nat_lt k (length keys) ≡ true → Listed keys k
listed [] k e = absurd (none k e)
  where
    none : (k : ℕ) → nat_lt k 0 ≡ true → ⊥
    none k e = grind (arith, nat_tests)
listed (x ∷ keys) zero e = record { key = x; is = refl }
listed (x ∷ keys) (suc k) e = let r = listed keys k (grind (arith, nat_tests)) in record { key = r.key; is = r.is }

abbrev all_listed : List ℕ → List Entry → Type 0
all_listed keys es = list_all (λ k. nat_lt k (length keys)) (map (λ (e : Entry). e.key) (filter is_new es)) ≡ true

none_new : (keys : List ℕ) (es : List Entry) (states : List ℕ) → list_any is_new es ≡ false → new_key keys (filter is_held_after es) states ≡ None
none_new keys [] states e = refl
none_new keys (x ∷ es) states e = by (is_new x) refl (is_held_after x) states e (λ states. none_new keys es states)
  where
    by : (n : Bool) → is_new x ≡ n → (b : Bool) → (states : List ℕ) → (n || list_any is_new es) ≡ false → ((states : List ℕ) → list_any is_new es ≡ false → new_key keys (filter is_held_after es) states ≡ None) →
        new_key keys (if b then x ∷ filter is_held_after es else filter is_held_after es) states ≡ None
    by true q b states e later = absurd (true≢false e)
    by false q true [] e later = refl
    by false q true (s ∷ states) e later = rw q (later states e)
    by false q false states e later = later states e

some_new : (keys : List ℕ) (es : List Entry) (states : List ℕ) → length states ≡ length (filter is_held_after es) → list_any is_new es ≡ true → all_listed keys es →
    (b : Binding) × (new_key keys (filter is_held_after es) states ≡ Some b)
some_new keys [] states long e all = absurd (false≢true e)
some_new keys (x ∷ es) states long e all = by (is_new x) refl (is_held_after x) refl states long e all (λ states. some_new keys es states)
  where
    by : (n : Bool) → is_new x ≡ n → (b : Bool) → is_held_after x ≡ b → (states : List ℕ) → length states ≡ length (if b then x ∷ filter is_held_after es else filter is_held_after es) → (n || list_any is_new es) ≡ true →
        list_all (λ k. nat_lt k (length keys)) (map (λ (e : Entry). e.key) (if n then x ∷ filter is_new es else filter is_new es)) ≡ true →
        ((states : List ℕ) → length states ≡ length (filter is_held_after es) → list_any is_new es ≡ true → all_listed keys es → (b : Binding) × (new_key keys (filter is_held_after es) states ≡ Some b)) →
        (b2 : Binding) × (new_key keys (if b then x ∷ filter is_held_after es else filter is_held_after es) states ≡ Some b2)
    by true q false h states long e all later = absurd (true≢false (sym (fresh_after x.mode q) ∙ h))
    by true q true h [] long e all later = absurd (omega arith)
    by true q true h (s ∷ states) long e all later =
        let r = listed keys x.key (and_left (nat_lt x.key (length keys)) (list_all (λ k. nat_lt k (length keys)) (map (λ (e : Entry). e.key) (filter is_new es))) all) in
        (binding s r.key, rw (q, r.is) refl)
    by false q true h [] long e all later = absurd (omega arith)
    by false q true h (s ∷ states) long e all later = let r = later states (omega arith) e all in (r.0, rw q (r.1))
    by false q false h states long e all later = later states long e all

-- ---- externals

-- what an external may give here
abbrev pub SingleResult : Program → Func → Option Ty → Type 0
SingleResult p gf None = list_any is_new gf.clause ≡ false
SingleResult p gf (Some core.int) = Unit {0}
SingleResult p gf (Some core.bool) = Unit {0}
SingleResult p gf (Some (core.owning states t args)) = IsProper states × (fields_of p t ≡ [])
SingleResult p gf (Some (core.tracked k t args)) = (list_any is_new gf.clause ≡ true) × (fields_of p t ≡ [])
SingleResult p gf (Some ty) = ⊥

pub record IsSingleExternal (p : Program) (gf : Func) : Type 0 where
  pub few : gf.params ≤ 16
  pub plain : PlainParameters gf
  pub proper : AreProper p gf gf.clause
  pub parameters : HaveParameters gf gf.clause
  pub result : SingleResult p gf gf.result

module _ (p : Program) (heap depth : ℕ) (enough : RegistersSuffice p) where
  result_there : (gf : Func) (keys : List ℕ) (s : source.Frame) (values : List source.Value) (G : crun.Frame) (cm : crun.Meaning) → all_listed keys gf.clause → (r : Option Ty) → gf.result ≡ r → SingleResult p gf r →
      ResultParts p (c_setup p heap depth) cm enough gf keys s values G r
  result_there gf keys s values G cm all None e h = nothing_parts p (c_setup p heap depth) cm enough gf keys s values G e (λ states. none_new keys gf.clause states h)
  result_there gf keys s values G cm all (Some core.int) e h = int_parts p (c_setup p heap depth) cm enough gf keys s values G e
  result_there gf keys s values G cm all (Some core.bool) e h = bool_parts p (c_setup p heap depth) cm enough gf keys s values G e
  result_there gf keys s values G cm all (Some (core.owning states t others)) e h = owning_parts p (c_setup p heap depth) cm enough gf keys s values G states t others e h.0 h.1
  result_there gf keys s values G cm all (Some (core.tracked j t others)) e h =
      tracked_parts p (c_setup p heap depth) cm enough gf keys s values G j t others e (record { binding = λ states long. some_new keys gf.clause states long h.0 all }) h.1
  result_there gf keys s values G cm all (Some (core.guarded j t others)) e h = absurd h
  result_there gf keys s values G cm all (Some (core.variant t others)) e h = absurd h
  result_there gf keys s values G cm all (Some (core.owning_variant t others)) e h = absurd h

  result_of_instance : (gf : Func) (o : Option ℕ) (r : Option Ty) → SingleResult p gf r → SingleResult p (instance p gf o) r
  result_of_instance gf o None h = any_new_instance p gf o ∙ h
  result_of_instance gf o (Some core.int) h = tt
  result_of_instance gf o (Some core.bool) h = tt
  result_of_instance gf o (Some (core.owning states t others)) h = h
  result_of_instance gf o (Some (core.tracked j t others)) h = (any_new_instance p gf o ∙ h.0, h.1)
  result_of_instance gf o (Some (core.guarded j t others)) h = absurd h
  result_of_instance gf o (Some (core.variant t others)) h = absurd h
  result_of_instance gf o (Some (core.owning_variant t others)) h = absurd h

  pub single_externals_are_right : (n : ℕ) (f : Func) (ids : Ids) (g : ℕ) (gf : Func) (target : Option ℕ) (keys : List ℕ) (os : List Operand) (values : List source.Value)
      (xs : List syntax.Arg) (t : Numbers) (k : ℕ) (s : source.Frame) (w : source.World) (frame : crun.Frame) (regs : Registers) (j : ℕ) (state : Bound → ℕ) →
      slice_get p.fns g ≡ Some gf → gf.external ≡ true → (call : IsKindedCall p f gf ids target os) → k ≤ n →
      Begins p f k s w frame regs → HaveShapes p (types_of w.objects) call.types values → length values ≡ gf.params → arg_values xs frame.vars ≡ Ok (flat_values p call.types values) →
      length xs ≡ length (flat_values p call.types values) →
      IsSingleExternal p gf → list_all (λ k. nat_lt k (length keys)) (map (λ (e : Entry). e.key) (filter is_new gf.clause)) ≡ true → KeysNamed gf keys s values →
      Same p f t k frame (step.spend w (λ w. call_external heap p f target keys (instance_for p gf state) values s w))
      (crun.does_stmts (c_setup p heap depth) (crun.less (c_setup p heap depth) n) j (stmts_made (call_stmts p f (syntax.function (name_of p g) xs) target)) frame (c_world p regs w))
  single_externals_are_right n f ids g gf target keys os values xs t k s w frame regs j state at external call le begin shapes count args long h all named =
      external_right p heap depth enough n f ids g (instance_for p gf state) target keys os values xs t k s w frame regs j (record { declared = gf; origin = origin; at = at; is = refl })
      (runs_unbound p gf state) external (call_of_instance origin call) le begin shapes count args long h.few (plain_instance p gf origin h.plain)
      (λ ns e. proper_instance p gf state keys s w.objects ns h.proper e)
      (λ cm. keys_fit p (types_of w.objects) (c_setup p heap depth) cm enough (instance_for p gf state) keys s values (call.shapes (types_of w.objects) values shapes) count
      (named_instance p gf origin keys s values named) (parameters_instance p gf origin h.parameters))
      (λ cm. result_there (instance_for p gf state) keys s values (glue_frame s.depth (param_slots p gf) (decl_values p gf.vars values)) cm
      (subst (λ ks. list_all (λ k. nat_lt k (length keys)) ks ≡ true) (sym (new_keys_same p gf origin)) all) gf.result refl (result_of_instance gf origin gf.result h.result))
    where
      origin : Option ℕ
      origin = option_map state (bound_in gf.clause)
