-- The C program of a program breaks no rule of C.
use Rattle.std.proofs.Common.{◌≡◌, ℕ, Bool, true, false, if◌then◌else◌, List, [], ◌++◌, map, take, append-nil, Option, Some, None, slice_get, refl, sym, ap, ◌∙◌, subst, arith}
use Rattle.vlt_core.specs.Core as core
use Rattle.vlt_core.specs.Core.{Ty, Func, Program}
use Rattle.vlt_core.specs.KindedBodies.{first_ids}
use Rattle.vlt_core.specs.Instances.{IsInstanceOf}
use Rattle.c_syntax.specs.declared.program.CName.{CName}
use Rattle.c_syntax.specs.Unit.{Head}
use Rattle.c_syntax.specs.View.{stmts_made}
use Rattle.c_syntax.specs.Canonical as canonical
use Rattle.c_syntax.specs.Canonical.{declaration_of, body_of, unit_of}
use Rattle.c_syntax.specs.Kinds.{head_of, scope_of, names_of, is_one_of}
use Rattle.c_meaning.specs.Run as crun
use Rattle.c_lower.specs.Slots.{Numbers, past_all, var_sorts, param_slots, first_temps, sorts_of}
use Rattle.c_lower.specs.Statements.{StmtCode, most_of_both, list_code, name_of, is_external_at}
use Rattle.c_lower.specs.Glue.{glue_code}
use Rattle.c_lower.specs.Lowering.{result_of, vars_between, param_numbers, func_with, lowered}
use Rattle.c_lower_worlds.specs.Operators.Codes.{AreUpTo}
use Rattle.c_lower_worlds.proofs.OfNaming.KindedBodies.{bodies_are}
use Rattle.c_lower_worlds.proofs.OfNaming.DeclaredTypes.{types_fit}
use Rattle.c_lower_runs.specs.Lowerable.{IsLowerable}
use Rattle.c_lower_runs.proofs.LoweredFunctions.{body_found, glue_found}
use Rattle.c_lower_runs.proofs.ExternalHeads.{external_head}
use Rattle.c_lower_runs.proofs.LowerableVariants.{given_variant, given_owning_variant}
use Rattle.c_lower_runs.specs.Texts.Printable.{IsPrintable}
use Rattle.c_lower_runs.proofs.OfTexts.Ruled.{Place, AreRuled, made_ruled}
use Rattle.c_lower_runs.proofs.OfTexts.ExpressionKinds.{Here}
use Rattle.c_lower_runs.proofs.OfTexts.CallKinds.{Heads, head_for}
use Rattle.c_lower_runs.proofs.OfTexts.FormKinds.{list_kinded}
use Rattle.c_lower_runs.proofs.OfTexts.GlueParts.{parameters_declared}
use Rattle.c_lower_runs.proofs.OfTexts.GlueKinds.{GlueHere, CasesFit, glue_ruled}
use Rattle.c_lower_runs.proofs.OfTexts.Declared.{names_self, all_declared}
use Rattle.c_lower_runs.proofs.OfTexts.HeadNames.{head_found, past_others}
use Rattle.c_lower_runs.proofs.OfTexts.SmallNumbers.{slots_small, cells_small, cases_small, names_small}

-- the heads of the C program
abbrev pub heads_of : Program → List Head
heads_of p = (unit_of (lowered p)).heads

-- ---- callees

self : (p : Program) (g : ℕ) (gf : Func) → slice_get p.fns g ≡ Some gf → IsInstanceOf p g gf
self p g gf at = record { declared = gf; origin = None; at = at; is = refl }

name_with : (p : Program) (g : ℕ) (gf : Func) (b : Bool) → slice_get p.fns g ≡ Some gf → gf.external ≡ b → record { glue = b; number = (name_of p g).number } ≡ name_of p g
name_with p g gf b at e = ap (λ b. record { glue = b; number = (name_of p g).number }) (sym (ap is_external_at at ∙ e))

pub callee_found : (p : Program) (g : ℕ) (gf : Func) → slice_get p.fns g ≡ Some gf → head_of (name_of p g) (heads_of p) ≡ Some (head_for p g gf)
callee_found p g gf at = by gf.external refl
  where
    number : ℕ
    number = (name_of p g).number

    glue_heads : List Head
    glue_heads = map (canonical.head_of true) (lowered p).glue

    other_heads : List Head
    other_heads = map (canonical.head_of false) (lowered p).fns

    by : (b : Bool) → gf.external ≡ b → head_of (name_of p g) (heads_of p) ≡ Some (head_for p g gf)
    by true e =
        let found = glue_found p g gf (self p g gf at) e in
        let in_glue = ap (λ (b : Bool). if b then crun.find_in 0 (lowered p).glue number else crun.find_in (crun.count_in_all (lowered p).glue) (lowered p).fns number) (sym (ap is_external_at at ∙ e)) ∙ found.is in
        let there = head_found true 0 (lowered p).glue number _ other_heads in_glue in
        subst (λ (n : CName). head_of n (heads_of p) ≡ Some (record { result = result_of gf.result; name = n; params = map declaration_of (param_slots p gf) })) (name_with p g gf true at e) there
    by false e =
        let found = body_found p g gf (self p g gf at) e in
        let in_fns = ap (λ (b : Bool). if b then crun.find_in 0 (lowered p).glue number else crun.find_in (crun.count_in_all (lowered p).glue) (lowered p).fns number) (sym (ap is_external_at at ∙ e)) ∙ found.is in
        let there = head_found false (crun.count_in_all (lowered p).glue) (lowered p).fns number _ [] in_fns in
        let whole = past_others true (lowered p).glue number other_heads ∙ ap (head_of (record { glue = false; number = number })) (sym (append-nil other_heads)) ∙ there in
        subst (λ (n : CName). head_of n (heads_of p) ≡ Some (record { result = result_of gf.result; name = n; params = map declaration_of (param_slots p gf) })) (name_with p g gf false at e) whole

-- ---- functions

-- what a function's body sees
unfoldable pub place_of : (p : Program) (glue : Bool) (number : ℕ) (f : Func) (code : StmtCode) → Place
place_of p glue number f code = record {
  scope = scope_of (heads_of p) (body_of glue (func_with p number f code));
  most = most_of_both (first_temps p f) code.most;
  declared = λ v below.
      subst (λ vs. is_one_of v (vs ++ names_of (map declaration_of (vars_between (param_numbers p f) (most_of_both (first_temps p f) code.most)))) ≡ true) (sym (names_self (param_slots p f)))
      (subst (λ vs. is_one_of v (param_slots p f ++ vs) ≡ true) (sym (names_self (vars_between (param_numbers p f) (most_of_both (first_temps p f) code.most))))
      (all_declared (var_sorts p (take f.params f.vars)) (most_of_both (first_temps p f) code.most) v below));
}

first_most : (a b : Numbers) → AreUpTo a (most_of_both a b)
first_most a b = record { n = omega arith; p = omega arith }

second_most : (a b : Numbers) → AreUpTo b (most_of_both a b)
second_most a b = record { n = omega arith; p = omega arith }

module _ (p : Program) (low : IsLowerable p) (print : IsPrintable p) where
  pub body_ruled : (number g : ℕ) (f : Func) → slice_get p.fns g ≡ Some f → f.external ≡ false →
      AreRuled (place_of p false number f (list_code p f (first_temps p f) f.body)) false (stmts_made (list_code p f (first_temps p f) f.body).stmts)
  unfolding place_of
  body_ruled number g f at e =
      let code = list_code p f (first_temps p f) f.body in
      let a = place_of p false number f code in
      let bodies = bodies_are p low.kinded low.operators in
      let rows = bodies.bodies g f (self p g f at) e in
      let here : Here a p f = record {
        types = types_fit p low.kinded;
        is = record { number = g; function = self p g f at; has_body = e };
        few = cells_small p low print;
        cases = cases_small p print;
        slots = slots_small p low;
        up = first_most (first_temps p f) code.most;
      } in
      let heads : Heads a p f = record {
        kinded = low.kinded;
        found = callee_found p;
        small = λ g gf at. names_small p print g;
        body = refl;
        result = refl;
      } in
      made_ruled a false code.stmts
      (list_kinded a p f here heads false (record { jumps = false; returns = true }) (first_ids p f) false (first_temps p f) f.body (λ j. j) rows.proper rows.rows (second_most (first_temps p f) code.most))

  cases_given : (g : ℕ) (f : Func) → slice_get p.fns g ≡ Some f → f.external ≡ true → (ty : Option Ty) → f.result ≡ ty → CasesFit p f ty
  cases_given g f at e (Some (core.variant t args)) is = let h = given_variant p low g f at e t args is in record { few = h.few; keys = h.keys }
  cases_given g f at e (Some (core.owning_variant t args)) is = let h = given_owning_variant p low g f at e t args is in record { few = h.few; keys = h.keys }
  cases_given g f at e None is = tt
  cases_given g f at e (Some core.int) is = tt
  cases_given g f at e (Some core.bool) is = tt
  cases_given g f at e (Some (core.tracked k t args)) is = tt
  cases_given g f at e (Some (core.owning s t args)) is = tt
  cases_given g f at e (Some (core.guarded k t args)) is = tt

  pub external_ruled : (number g : ℕ) (f : Func) → slice_get p.fns g ≡ Some f → f.external ≡ true → AreRuled (place_of p true number f (glue_code p f)) false (stmts_made (glue_code p f).stmts)
  unfolding place_of
  external_ruled number g f at e =
      let a = place_of p true number f (glue_code p f) in
      let head = external_head p low.kinded g f at e in
      let here : GlueHere a p f = record {
        up = second_most (first_temps p f) (past_all (first_temps p f) (sorts_of p f.result));
        result = refl;
        starts = (print.names g f at e).starts;
        bytes = (print.names g f at e).bytes;
        declared = parameters_declared p low.kinded g f at;
        plain = head.plain.plain;
        keys = head.parameters;
        case_numbers = cases_small p print;
        slots = slots_small p low;
        payloads = (types_fit p low.kinded).payloads;
      } in
      made_ruled a false (glue_code p f).stmts (glue_ruled a p f here (cases_given g f at e f.result refl))
