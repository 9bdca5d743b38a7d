-- No rule of C refuses the C program as it is written.
use Rattle.std.proofs.Common.{◌≡◌, ◌<◌, ℕ, ◌-◌, ◌==◌, nat_le, Bool, true, false, not, if◌then◌else◌, List, [], ◌∷◌, ◌++◌, map, filter, take, length, None, refl, sym, ap, subst, arith}
use Rattle.std.proofs.lemmas.Bool.{eqb-true}
use Rattle.std.proofs.lemmas.Bool.Decides.{nat_tests}
use Rattle.vlt_core.specs.Core.{Func, Program}
use Rattle.vlt_core.specs.Kinded.{IsKinded}
use Rattle.vlt_core.specs.KindedHeads.{unless, is_main_head, is_bound_entry, head_broken}
use Rattle.vlt_core.specs.KindedBodies.{end_broken}
use Rattle.vlt_core.specs.declared.rules.TheConstants as rule
use Rattle.vlt_core_laws.proofs.Unbroken.{unless_holds}
use Rattle.c_syntax.specs.C as c
use Rattle.c_syntax.specs.Unit.{Head, Body}
use Rattle.c_syntax.specs.View.{stmts_made}
use Rattle.c_syntax.specs.Canonical as canonical
use Rattle.c_syntax.specs.Canonical.{declaration_of, body_of, unit_of, main_number}
use Rattle.c_syntax.specs.Kinds as kinds
use Rattle.c_syntax.specs.Kinds.{Walk, skip, place, has_head, has_name, has_main, names_of, scope_of, params_judged, declarations_judged, stmts_judged, heads_judged, bodies_judged, result_width, unit_refusal}
use Rattle.c_lower.specs.Slots.{first_numbers, vars_at, var_sorts, param_slots, first_temps}
use Rattle.c_lower.specs.Statements.{StmtCode, most_of_both, list_code}
use Rattle.c_lower.specs.Glue.{glue_code}
use Rattle.c_lower.specs.Lowering.{param_numbers, vars_between, func_with, with_body, externals, lowered}
use Rattle.c_lower_worlds.proofs.OfOperators.Guards.{and_left}
use Rattle.c_lower_worlds.specs.Naming.Lists.{Each}
use Rattle.c_lower_worlds.proofs.OfNaming.KindedBodies.{function_kinded}
use Rattle.c_lower_worlds.proofs.OfNaming.RuleFacts.{both_empty}
use Rattle.c_lower_runs.specs.Lowerable.{IsLowerable}
use Rattle.c_lower_runs.proofs.LoweredFunctions.{body_func}
use Rattle.c_lower_runs.specs.Texts.Printable.{IsPrintable}
use Rattle.c_lower_runs.proofs.OfTexts.Mains.{HasMain, main_is, main_at}
use Rattle.c_lower_runs.proofs.OfTexts.Ruled.{AreRuled}
use Rattle.c_lower_runs.proofs.OfTexts.Unrefused.{IsFree, unless_free, stmts_free}
use Rattle.c_lower_runs.proofs.OfTexts.Declared.{names_self, AllNew, params_new, vars_new, declarations_free, params_free}
use Rattle.c_lower_runs.proofs.OfTexts.HeadNames.{each_there, NamesNew, names_new, last_new, main_among, main_there}
use Rattle.c_lower_runs.proofs.OfTexts.KindsKept.{heads_of, place_of, body_ruled, external_ruled}
use Rattle.c_lower_runs.proofs.OfTexts.Lists.{each_both, each_tested, each_mapped, each_numbered, not_true}

-- ---- heads and bodies

pub record HeadFree (h : Head) : Type 0 where
  pub params : (w : Walk) → IsFree w → IsFree (params_judged h.params w)

pub record BodyFree (heads : List Head) (b : Body) : Type 0 where
  pub head : HeadFree b.head
  pub vars : (w : Walk) → IsFree w → IsFree (declarations_judged (names_of b.head.params) b.vars w)
  pub stmts : (w : Walk) → IsFree w → IsFree (stmts_judged (scope_of heads b) false b.stmts w)

heads_free : (bodies before hs : List Head) (w : Walk) → NamesNew before hs → Each (λ h. has_head h bodies ≡ true) hs → Each HeadFree hs → IsFree w → IsFree (heads_judged bodies before hs w)
heads_free bodies before [] w new there free f = f
heads_free bodies before (h ∷ hs) w new there free f =
    let first = skip (result_width h.result) w in
    let named = kinds.unless (not (has_name h.name before)) (place first) 1 first in
    let known = kinds.unless (has_head h bodies) (place named) 6 named in
    heads_free bodies (h ∷ before) hs (skip 1 (params_judged h.params (skip 2 known))) new.1 there.1 free.1
    (free.0.params (skip 2 known) (unless_free (has_head h bodies) (place named) 6 named there.0 (unless_free (not (has_name h.name before)) (place first) 1 first (ap not new.0) f)))

bodies_free : (heads before : List Head) (bs : List Body) (w : Walk) → NamesNew before (kinds.heads_of bs) → Each (λ h. has_head h heads ≡ true) (kinds.heads_of bs) → Each (BodyFree heads) bs → IsFree w → IsFree (bodies_judged heads before bs w)
bodies_free heads before [] w new there free f = f
bodies_free heads before (b ∷ bs) w new there free f =
    let h = b.head in
    let first = skip (result_width h.result) w in
    let named = kinds.unless (not (has_name h.name before)) (place first) 6 first in
    let known = kinds.unless (has_head h heads) (place named) 6 named in
    let after = skip 1 (params_judged h.params (skip 2 known)) in
    let vars = declarations_judged (names_of h.params) b.vars after in
    bodies_free heads (h ∷ before) bs (skip 1 (stmts_judged (scope_of heads b) false b.stmts vars)) new.1 there.1 free.1
    (free.0.stmts vars (free.0.vars after (free.0.head.params (skip 2 known)
    (unless_free (has_head h heads) (place named) 6 named there.0 (unless_free (not (has_name h.name before)) (place first) 6 first (ap not new.0) f)))))

-- ---- the functions of the C program

func_head_free : (p : Program) (glue : Bool) (number : ℕ) (f : Func) (code : StmtCode) → HeadFree (canonical.head_of glue (func_with p number f code))
func_head_free p glue number f code = record { params = λ w h. params_free (param_slots p f) w (params_new (var_sorts p (take f.params f.vars))) h }

func_body_free : (p : Program) (glue : Bool) (number : ℕ) (f : Func) (code : StmtCode) → AreRuled (place_of p glue number f code) false (stmts_made code.stmts) → BodyFree (heads_of p) (body_of glue (func_with p number f code))
unfolding place_of
func_body_free p glue number f code h = record {
  head = func_head_free p glue number f code;
  vars = λ w k.
      declarations_free (names_of (map declaration_of (param_slots p f))) (vars_between (param_numbers p f) (most_of_both (first_temps p f) code.most)) w
      (subst (λ vs. AllNew vs (vars_between (param_numbers p f) (most_of_both (first_temps p f) code.most))) (sym (names_self (param_slots p f))) (vars_new (var_sorts p (take f.params f.vars)) (most_of_both (first_temps p f) code.most))) k;
  stmts = λ w k. stmts_free (place_of p glue number f code) false (stmts_made code.stmts) w h k;
}

each_head : (heads : List Head) (bs : List Body) → Each (BodyFree heads) bs → Each HeadFree (kinds.heads_of bs)
each_head heads [] h = tt
each_head heads (b ∷ bs) h = (h.0.head, each_head heads bs h.1)

same_heads : (glue : Bool) (fs : List c.Func) (bs : List Body) (hs : List Head) → kinds.heads_of bs ≡ hs → kinds.heads_of (map (body_of glue) fs ++ bs) ≡ map (canonical.head_of glue) fs ++ hs
same_heads glue [] bs hs e = e
same_heads glue (f ∷ fs) bs hs e = ap (λ xs. canonical.head_of glue f ∷ xs) (same_heads glue fs bs hs e)

mapped_heads : (glue : Bool) (fs : List c.Func) → kinds.heads_of (map (body_of glue) fs) ≡ map (canonical.head_of glue) fs
mapped_heads glue [] = refl
mapped_heads glue (f ∷ fs) = ap (λ xs. canonical.head_of glue f ∷ xs) (mapped_heads glue fs)

pub bodies_have_heads : (p : Program) → kinds.heads_of (unit_of (lowered p)).bodies ≡ heads_of p
bodies_have_heads p = same_heads true (lowered p).glue (map (body_of false) (lowered p).fns) (map (canonical.head_of false) (lowered p).fns) (mapped_heads false (lowered p).fns)

pub all_names_new : (p : Program) → NamesNew [] (heads_of p)
all_names_new p =
    names_new true (λ k f. func_with p k f (glue_code p f)) (λ k f. refl) 0 (externals p) (map (canonical.head_of false) (lowered p).fns) [] (λ k l. refl) (λ k l. refl)
    (λ after h. last_new false (λ k f. func_with p k f (list_code p f (first_temps p f) f.body)) (λ k f. refl) 0 (with_body p) after h)

-- ---- main

main_plain : (p : Program) → IsKinded p → (h : HasMain p) → h.main.params ≡ 0
main_plain p kinded h =
    let a = both_empty (head_broken p p.main h.main) (end_broken p h.main) (function_kinded p kinded p.main h.main h.at).0 in
    let b9 = both_empty _ (unless (nat_le (length (filter is_bound_entry h.main.clause)) 1) rule.SECOND_BOUND) a.left in
    let b8 = both_empty _ (if p.main == p.main then unless (is_main_head h.main) rule.MAIN_HEAD else []) b9.left in
    let main = unless_holds (is_main_head h.main) rule.MAIN_HEAD (subst (λ b. (if b then unless (is_main_head h.main) rule.MAIN_HEAD else []) ≡ []) (same p.main) b8.right) in
    eqb-true h.main.params 0 (and_left (h.main.params == 0) _ main)
  where
    same : (n : ℕ) → (n == n) ≡ true
    same n = grind (arith, nat_tests)

pub has_main_head : (p : Program) → IsKinded p → has_main (unit_of (lowered p)).main (heads_of p) ≡ true
has_main_head p kinded =
    let h = main_is p kinded in
    let f = body_func p p.main h.main in
    let at = main_at p h in
    let none : f.params ≡ [] = ap (λ n. vars_at first_numbers (var_sorts p (take n h.main.vars))) (main_plain p kinded h) in
    subst (λ o. has_main (main_number o) (heads_of p) ≡ true) (sym at)
    (main_among f.number (map (canonical.head_of true) (lowered p).glue) (map (canonical.head_of false) (lowered p).fns) (main_there (lowered p).fns (lowered p).main f at none))

-- ---- the whole

module _ (p : Program) (low : IsLowerable p) (print : IsPrintable p) where
  glue_free : Each (BodyFree (heads_of p)) (map (body_of true) (lowered p).glue)
  glue_free =
      each_mapped (BodyFree (heads_of p)) (λ (f : c.Func). BodyFree (heads_of p) (body_of true f)) (body_of true) (lowered p).glue (λ f h. h)
      (each_numbered (λ (f : c.Func). BodyFree (heads_of p) (body_of true f)) (λ k f. func_with p k f (glue_code p f)) (length (externals p)) 0 (externals p) (omega arith)
      (each_tested (λ f. (k : ℕ) → k < length (externals p) → BodyFree (heads_of p) (body_of true (func_with p k f (glue_code p f)))) (λ f. f.external) p.fns
      (λ g f at e k l. func_body_free p true k f (glue_code p f) (external_ruled p low print k g f at e))))

  fns_free : Each (BodyFree (heads_of p)) (map (body_of false) (lowered p).fns)
  fns_free =
      each_mapped (BodyFree (heads_of p)) (λ (f : c.Func). BodyFree (heads_of p) (body_of false f)) (body_of false) (lowered p).fns (λ f h. h)
      (each_numbered (λ (f : c.Func). BodyFree (heads_of p) (body_of false f)) (λ k f. func_with p k f (list_code p f (first_temps p f) f.body)) (length (with_body p)) 0 (with_body p) (omega arith)
      (each_tested (λ f. (k : ℕ) → k < length (with_body p) → BodyFree (heads_of p) (body_of false (func_with p k f (list_code p f (first_temps p f) f.body)))) (λ f. not f.external) p.fns
      (λ g f at e k l. func_body_free p false k f (list_code p f (first_temps p f) f.body) (body_ruled p low print k g f at (not_true f.external e)))))

  pub kinds_kept : (places : List ℕ) → unit_refusal places (unit_of (lowered p)) ≡ None
  kinds_kept places =
      let u = unit_of (lowered p) in
      let start : Walk = record { places = places; least = None } in
      let bodies = each_both (BodyFree (heads_of p)) (map (body_of true) (lowered p).glue) (map (body_of false) (lowered p).fns) glue_free fns_free in
      let third = skip 3 start in
      let main = kinds.unless (has_main u.main (kinds.heads_of u.bodies)) (place third - 1) 6 third in
      let main_free = unless_free (has_main u.main (kinds.heads_of u.bodies)) (place third - 1) 6 third (subst (λ hs. has_main u.main hs ≡ true) (sym (bodies_have_heads p)) (has_main_head p low.kinded)) refl in
      let heads = heads_judged (kinds.heads_of u.bodies) [] u.heads (skip 2 main) in
      bodies_free u.heads [] u.bodies heads (subst (NamesNew []) (sym (bodies_have_heads p)) (all_names_new p)) (subst (λ hs. Each (λ h. has_head h u.heads ≡ true) hs) (sym (bodies_have_heads p)) (each_there u.heads)) bodies
      (heads_free (kinds.heads_of u.bodies) [] u.heads (skip 2 main) (all_names_new p) (subst (λ hs. Each (λ h. has_head h hs ≡ true) u.heads) (sym (bodies_have_heads p)) (each_there u.heads))
      (subst (Each HeadFree) (bodies_have_heads p) (each_head (heads_of p) u.bodies bodies)) main_free)
