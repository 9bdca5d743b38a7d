-- Each statement without blocks that calls nothing is safe.
use Rattle.std.proofs.Common.{◌≡◌, ℕ, Bool, true, false, if◌then◌else◌, [], ◌∷◌, ◌++◌, Some, None, ap, ◌∙◌}
use Rattle.vlt_core.specs.Core.{Expr, Operand, pure, move, pack, Simple, set, input, print, put, make, become, release, drop, own, unpack, build, swap, open_into, adopt, simple, Func, Program}
use Rattle.vlt_core.specs.Lookups.{var_type, is_owning, is_owning_var, owns}
use Rattle.vlt_core.specs.Maps.{map_after}
use Rattle.vlt_core.specs.KindedScopes.{Ids, target_broken}
use Rattle.vlt_core.specs.KindedOperands.{misfit, type_of_expr, expr_broken, operand_broken}
use Rattle.vlt_core.specs.KindedStatements.{wanted_of, simple_broken, ids_after}
use Rattle.vlt_core.specs.Rows.{simple_rows}
use Rattle.vlt_core.specs.declared.rules.TheConstants as rule
use Rattle.vlt_core.specs.KindedHeads.{Rules}
use Rattle.vlt_meaning.specs.Run.{Setup, Meaning, does_simple}
use Rattle.vlt_sound_worlds.specs.Typed.{IsTyped}
use Rattle.vlt_sound_worlds.specs.Safe.{goes_to}
use Rattle.vlt_sound_worlds.proofs.Empty.{both_empty}
use Rattle.vlt_sound_worlds.proofs.TypeFacts.{target_known, wanted_owning}
use Rattle.vlt_sound_worlds.proofs.PlainSteps.{print_safe, input_is_safe, set_safe}
use Rattle.vlt_sound_worlds.proofs.Fields.{put_safe}
use Rattle.vlt_sound_worlds.proofs.Owning.{own_move_safe, own_pack_safe}
use Rattle.vlt_sound_worlds.proofs.Adopting.{adopt_safe}
use Rattle.vlt_sound_worlds.proofs.Blocks.{agrees_below}
use Rattle.vlt_sound_worlds.specs.Scoped.{HasKeys}
use Rattle.vlt_sound_statements.specs.Makings.{HasCases}
use Rattle.vlt_sound_statements.specs.Steps.{IsStepOf}
use Rattle.vlt_sound_statements.proofs.Makes.{make_safe}
use Rattle.vlt_sound_statements.proofs.Builds.{build_safe}
use Rattle.vlt_sound_statements.proofs.Swaps.{swap_safe}
use Rattle.vlt_sound_worlds.proofs.Becoming.{become_safe}
use Rattle.vlt_sound_worlds.proofs.Unpacking.{unpack_safe}
use Rattle.vlt_sound_statements.proofs.Releasing.{release_safe}
use Rattle.vlt_sound_statements.proofs.Dropping.{drop_safe}
use Rattle.vlt_sound_statements.proofs.Opening.{open_safe}
use Rattle.vlt_sound_statements.specs.Sites.{comes_to}
use Rattle.vlt_sound_statements.specs.Statements.{IsSafeForm}
use Rattle.vlt_sound_statements.proofs.Control.{weaker}

-- an expression fills no owning variable
no_expression : (p : Program) (f : Func) (ids : Ids) (v : ℕ) (e : Expr) → simple_broken p f ids (own v (pure e)) ≡ [] → ⊥
no_expression p f ids v e b =
    let W = wanted_of (var_type f v) is_owning in
    let O = operand_broken p f ids (if is_owning_var f v then var_type f v else None) (pure e) in
    let s2 = both_empty (W ++ O) (target_broken f ids v) b in
    let s1 = both_empty W O s2.0 in
    let t = target_known f ids v s2.1 in
    let owner : is_owning_var f v ≡ true = ap owns t.1 ∙ wanted_owning (var_type f v) t.0 t.1 s1.0 in
    let filled : operand_broken p f ids (Some t.0) (pure e) ≡ [] = rw (owner, t.1) at s1.1 in
    let last = (both_empty (expr_broken p f ids e) _ filled).1 in
    by (is_owning t.0) (wanted_owning (var_type f v) t.0 t.1 s1.0) (misfit (Some t.0) (type_of_expr p f e)) last
  where
    by : (b : Bool) → b ≡ true → (rest : Rules) → (if b then rule.WRONG_TYPE ∷ [] else rest) ≡ [] → ⊥
    by true is rest e = cc
    by false is rest e = cc

module _ (r : Setup) (f : Func) (typed : IsTyped r.program f) (keyed : HasKeys f) (cased : HasCases r.program f) where
  own_safe : (v : ℕ) (o : Operand) → IsStepOf r f (own v o)
  own_safe v (pure e) c h ids frame w scoped agrees kinded pass = absurd (no_expression r.program f ids v e kinded)
  own_safe v (move u) c h ids frame w scoped agrees kinded pass = own_move_safe r f typed w agrees v u kinded pass
  own_safe v (pack x states) c h ids frame w scoped agrees kinded pass =
      own_pack_safe r f typed w agrees v x states kinded pass

  pub step_safe : (s : Simple) → IsStepOf r f s
  step_safe (set v e) c h ids frame w scoped agrees kinded pass = set_safe r f typed w agrees v e kinded pass
  step_safe (input v more) c h ids frame w scoped agrees kinded pass = input_is_safe r f typed w agrees v more kinded
  step_safe (print e) c h ids frame w scoped agrees kinded pass = print_safe r f typed w agrees e kinded pass
  step_safe (put x i e) c h ids frame w scoped agrees kinded pass = put_safe r f typed w agrees x i e kinded pass
  step_safe (make x args) c h ids frame w scoped agrees kinded pass =
      make_safe r f typed keyed cased scoped w agrees x args kinded pass
  step_safe (become x s) c h ids frame w scoped agrees kinded pass = become_safe r f typed w agrees x s kinded pass
  step_safe (release x) c h ids frame w scoped agrees kinded pass = release_safe r f typed w agrees x kinded pass
  step_safe (drop v) c h ids frame w scoped agrees kinded pass = drop_safe r f typed w agrees v kinded pass
  step_safe (own v o) c h ids frame w scoped agrees kinded pass =
      own_safe v o c h ids frame w scoped agrees kinded pass
  step_safe (unpack x v) c h ids frame w scoped agrees kinded pass =
      unpack_safe r f typed keyed w scoped agrees x v kinded pass
  step_safe (build v k args) c h ids frame w scoped agrees kinded pass =
      build_safe r f typed cased w agrees v k args kinded pass
  step_safe (swap x i v) c h ids frame w scoped agrees kinded pass = swap_safe r f typed w agrees x i v kinded pass
  step_safe (open_into x vs) c h ids frame w scoped agrees kinded pass = open_safe r f typed w agrees x vs kinded pass
  step_safe (adopt y x q) c h ids frame w scoped agrees kinded pass = adopt_safe r f typed w agrees y x q kinded pass

  -- at a site, where the map after allows more
  pub form_safe : (rest_of : Meaning) (s : Simple) → IsSafeForm r rest_of f (simple s)
  form_safe rest_of s site h k ids frame w at kinded leads agrees =
      weaker (goes_to r.program f site.context (map_after (simple_rows r.program f s) h) (ids_after f s ids) [])
      (comes_to r.program f site k (ids_after f s ids)) (does_simple r f s frame w)
      (λ frame w there. agrees_below leads.1 there)
      (λ c frame w none. absurd none)
      (λ v kept w none. absurd none)
      (step_safe s site.context h ids frame w at.scoped agrees kinded.row leads.0)
