-- Each external of a program that the conditions hold of: its glue does what its step does.
use Rattle.std.proofs.Common.{◌≡◌, ◌<◌, ℕ, zero, suc, ◌==◌, nat_lt, true, false, if◌then◌else◌, List, [], ◌∷◌, ◌++◌, map, length, Option, Some, None, slice_get, refl, sym, ap, ◌∙◌, subst, arith}
use Rattle.std.specs.List.{flat_map, list_all, range_with_len, enumerate_from}
use Rattle.std.specs.Option.{option_map, option_and_then}
use Rattle.vlt_core.specs.Core as core
use Rattle.vlt_core.specs.Core.{Ty, CaseKey, Operand, Func, Program}
use Rattle.vlt_core.specs.Instances.{bound_in, instance}
use Rattle.vlt_core.specs.Types.{with_keys, stands_for}
use Rattle.vlt_core.specs.KindedHeads.{unless, has, new_keys, keys_of_parameters, parameters_of}
use Rattle.vlt_core.specs.KindedScopes.{Ids}
use Rattle.vlt_core.specs.KindedCalls.{keys_fit, caller_type, clause_keys_broken, caller_keys_broken, call_target_broken, arguments_broken, call_broken}
use Rattle.vlt_core.specs.declared.rules.TheConstants as rule
use Rattle.vlt_meaning.specs.World as source
use Rattle.vlt_meaning.specs.Step as step
use Rattle.vlt_meaning.specs.Externals.{call_external}
use Rattle.vlt_meaning.specs.Run as run
use Rattle.c_syntax.specs.View.{stmts_made}
use Rattle.c_syntax.specs.C as syntax
use Rattle.c_meaning.specs.Run as crun
use Rattle.c_lower.specs.Slots.{param_slots}
use Rattle.c_lower.specs.Statements.{call_stmts, name_of}
use Rattle.c_lower.specs.Statements as statements
use Rattle.c_lower_worlds.specs.Worlds.{c_world}
use Rattle.c_lower_worlds.specs.Shapes.{types_of}
use Rattle.c_lower_worlds.specs.Same.{Same}
use Rattle.c_lower_runs.specs.Lowerable.{IsLowerable}
use Rattle.c_lower_worlds.specs.Operands.{RegistersSuffice}
use Rattle.c_lower_worlds.specs.Naming.Lists.{Each}
use Rattle.c_lower_runs.proofs.CalleeFrames.{ArgsFit, decl_values}
use Rattle.c_lower_runs.proofs.Calls.{ExternalsAreRight, call_of_instance}
use Rattle.c_lower_runs.proofs.ExternalCalls.{c_setup, glue_frame}
use Rattle.c_lower_runs.proofs.ExternalHeads.{external_head}
use Rattle.c_lower_runs.proofs.ClauseKeys.{KeysNamed, key_at, keys_fit as keys_are_fit}
use Rattle.c_lower_worlds.proofs.OfNaming.KnownScopes.{param_keys}
use Rattle.c_lower_runs.proofs.InstanceClauses.{proper_instance, plain_instance, parameters_instance, named_instance}
use Rattle.c_lower_worlds.proofs.OfNaming.RunningInstances.{runs_unbound}
use Rattle.c_lower_runs.proofs.LowerableVariants.{given_variant, given_owning_variant}
use Rattle.c_lower_worlds.proofs.OfNaming.NamedCalls.{IsKnownCall, param_of}
use Rattle.c_lower_worlds.proofs.OfNaming.KnownCalls.{known_call}
use Rattle.c_lower_worlds.proofs.OfNaming.NamedOperands.{AreOfTys}
use Rattle.c_lower_runs.proofs.GlueResults.{ResultParts}
use Rattle.c_lower_runs.proofs.LowerableSingles.{proper_entries, single_external}
use Rattle.c_lower_worlds.proofs.OfNaming.RuleFacts.{both_empty}
use Rattle.vlt_core_laws.proofs.Unbroken.{unless_holds}
use Rattle.vlt_core_laws.proofs.Ids.{and_right}
use Rattle.c_lower_runs.proofs.VariantResults.{IsGivenKey, IsVariantResult, KeysThere, variant_parts, owning_variant_parts}
use Rattle.c_lower_runs.proofs.SingleExternals.{single_externals_are_right}
use Rattle.c_lower_runs.proofs.ExternalParts.{external_right}

value_there : {A : Type 0} (xs : List A) (i : ℕ) → i < length xs → (x : A) × (slice_get xs i ≡ Some x)
value_there [] i l = absurd (omega arith)
value_there (x ∷ xs) zero l = (x, refl)
value_there (x ∷ xs) (suc i) l = value_there xs i (omega arith)

-- ---- a call

-- each parameter that is a reference was given what the caller's key names
keys_named : (p : Program) (f : Func) (ids : Ids) (gf : Func) (target : Option ℕ) (keys : List ℕ) (os : List Operand) (s : source.Frame) (values : List source.Value) → IsKnownCall p f ids gf target keys os → length values ≡ gf.params →
    AreOfTys s.keys (map (with_keys keys) (parameters_of gf)) values → KeysNamed gf keys s values
keys_named p f ids gf target keys os s values call count of = record {
  at = λ v k t args l ty.
      let a = value_there values v (omega arith) in
      let r = param_of s.keys keys gf.vars gf.params v values (core.tracked k t args) a.0 of l ty a.1 (stands_for keys k) t (map (stands_for keys) args) refl in
      let key = param_keys gf.vars gf.params v k l (subst (λ o. has (Rattle.vlt_core_laws.proofs.Ids.keys_in_type o) k ≡ true) (sym ty) (Rattle.vlt_core_laws.proofs.Binding.has_first k args)) in
      record {
        number = r.number;
        value = a.1 ∙ ap (λ a. Some a) r.is;
        named = ap (option_and_then s.keys) (call.listed k (Rattle.vlt_core_laws.proofs.Headed.has_left (keys_of_parameters gf) (new_keys gf) k key)) ∙ r.named;
      };
}

-- the new keys of the clause have keys of the caller
new_listed : (p : Program) (f : Func) (ids : Ids) (gf : Func) (target : Option ℕ) (keys : List ℕ) (os : List Operand) → call_broken p f ids (Some gf) target keys os ≡ [] → list_all (λ k. nat_lt k (length keys)) (new_keys gf) ≡ true
new_listed p f ids gf target keys os e =
    let a = both_empty _ (call_target_broken f ids gf keys target) e in
    let b = both_empty _ (caller_keys_broken f ids gf (enumerate_from 0 keys)) a.left in
    let c = both_empty _ (arguments_broken p f ids (map (caller_type keys) (parameters_of gf)) os) b.left in
    let d = both_empty _ (if keys_fit gf keys then clause_keys_broken gf keys else []) c.left in
    let h = both_empty _ (unless (length os == length (parameters_of gf)) rule.WRONG_COUNT) d.left in
    let i = both_empty (flat_map (λ k. unless (nat_lt k (length f.keys)) rule.UNKNOWN_NAME) keys) (unless (keys_fit gf keys) rule.TWO_CALLER_KEYS) h.left in
    all_right (keys_of_parameters gf)
    (and_right (list_all (has (keys_of_parameters gf ++ new_keys gf)) (range_with_len 0 (length keys))) (list_all (λ k. nat_lt k (length keys)) (keys_of_parameters gf ++ new_keys gf)) (unless_holds (keys_fit gf keys) rule.TWO_CALLER_KEYS i.right))
  where
    all_right : (xs : List ℕ) → list_all (λ k. nat_lt k (length keys)) (xs ++ new_keys gf) ≡ true → list_all (λ k. nat_lt k (length keys)) (new_keys gf) ≡ true
    all_right [] e = e
    all_right (x ∷ xs) e = all_right xs (and_right (nat_lt x (length keys)) (list_all (λ k. nat_lt k (length keys)) (xs ++ new_keys gf)) e)

-- ---- instances

given_instance : (p : Program) (gf : Func) (o : Option ℕ) (t : ℕ) (others : List ℕ) → IsVariantResult p gf t others → IsVariantResult p (instance p gf o) t others
given_instance p gf o t others h = record {
  few = h.few;
  payloads = h.payloads;
  keys = λ c d there. all d.keys (h.keys c d there);
}
  where
    all : (ks : List CaseKey) → Each (IsGivenKey gf others) ks → Each (IsGivenKey (instance p gf o) others) ks
    all [] h = tt
    all (k ∷ ks) h =
        let q = h.0.parameter in
        (record { proper = h.0.proper; key = h.0.key; at = h.0.at; parameter = record { v = q.v; below = q.below; tracked = q.tracked } }, all ks h.1)

module _ (p : Program) (heap depth : ℕ) (h : IsLowerable p) (enough : RegistersSuffice p) where
  pub externals_are_right : (n : ℕ) → ExternalsAreRight p heap depth (crun.less (c_setup p heap depth) n) (run.less (record { program = p; heap = heap; depth = depth }) n) n
  externals_are_right n f ids g gf target keys os values xs t k s w frame regs j state is at external call row up le begin shapes count args long of = by gf.result refl
    where
      -- the instance that runs
      origin : Option ℕ
      origin = option_map state (bound_in gf.clause)

      gi : Func
      gi = instance p gf origin

      known : IsKnownCall p f ids gf target keys os
      known = known_call p h.kinded f ids g gf target keys os is at row

      named : KeysNamed gf keys s values
      named = keys_named p f ids gf target keys os s values known count of

      fits : ArgsFit p (types_of w.objects) gf.vars values
      fits = call.shapes (types_of w.objects) values shapes

      there : (cm : crun.Meaning) → KeysThere p gi keys s (glue_frame s.depth (param_slots p gf) (decl_values p gf.vars values))
      there cm key x = let r = key_at p (types_of w.objects) (c_setup p heap depth) cm enough gi keys s values fits count (named_instance p gf origin keys s values named) key x in record { number = r.number; names = r.names; at = r.at; below = r.below }

      Right : Type 0
      Right = Same p f t k frame (step.spend w (λ w. call_external heap p f target keys gi values s w))
          (crun.does_stmts (c_setup p heap depth) (crun.less (c_setup p heap depth) n) j (stmts_made (call_stmts p f (syntax.function (name_of p g) xs) target)) frame (c_world p regs w))

      single : statements.is_variant gf.result ≡ false → Right
      single q =
          single_externals_are_right p heap depth enough n f ids g gf target keys os values xs t k s w frame regs j state at external call le begin shapes count args long
          (single_external p h g gf at external q) (new_listed p f ids gf target keys os row) named

      given : ((cm : crun.Meaning) → ResultParts p (c_setup p heap depth) cm enough gi keys s values (glue_frame s.depth (param_slots p gf) (decl_values p gf.vars values)) gf.result) → Right
      given parts =
          external_right p heap depth enough n f ids g gi target keys os values xs t k s w frame regs j (record { declared = gf; origin = origin; at = at; is = refl })
          (runs_unbound p gf state) external (call_of_instance origin call) le begin shapes count args long
          (h.externals g gf at external).parameters (plain_instance p gf origin (external_head p h.kinded g gf at external).plain)
          (λ ns e. proper_instance p gf state keys s w.objects ns (proper_entries p h g gf at external) e)
          (λ cm. keys_are_fit p (types_of w.objects) (c_setup p heap depth) cm enough gi keys s values fits count (named_instance p gf origin keys s values named)
          (parameters_instance p gf origin (external_head p h.kinded g gf at external).parameters)) parts

      by : (r : Option Ty) → gf.result ≡ r → Right
      by None q = single (ap statements.is_variant q)
      by (Some core.int) q = single (ap statements.is_variant q)
      by (Some core.bool) q = single (ap statements.is_variant q)
      by (Some (core.tracked i u others)) q = single (ap statements.is_variant q)
      by (Some (core.owning states u others)) q = single (ap statements.is_variant q)
      by (Some (core.guarded i u others)) q = single (ap statements.is_variant q)
      by (Some (core.variant u others)) q =
          given (λ cm. subst (ResultParts p (c_setup p heap depth) cm enough gi keys s values (glue_frame s.depth (param_slots p gf) (decl_values p gf.vars values))) (sym q)
          (variant_parts p (c_setup p heap depth) cm enough gi keys s values (glue_frame s.depth (param_slots p gf) (decl_values p gf.vars values)) u others (given_instance p gf origin u others (given_variant p h g gf at external u others q)) (there cm) q))
      by (Some (core.owning_variant u others)) q =
          given (λ cm. subst (ResultParts p (c_setup p heap depth) cm enough gi keys s values (glue_frame s.depth (param_slots p gf) (decl_values p gf.vars values))) (sym q)
          (owning_variant_parts p (c_setup p heap depth) cm enough gi keys s values (glue_frame s.depth (param_slots p gf) (decl_values p gf.vars values)) u others (given_instance p gf origin u others (given_owning_variant p h g gf at external u others q)) (there cm) q))
