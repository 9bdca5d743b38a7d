-- Each call that a run of an accepted program comes to is known.
use Rattle.std.proofs.Common.{◌≡◌, ℕ, true, if◌then◌else◌, List, [], ◌++◌, ◌||◌, Option, Some, ap, ◌∙◌, subst, slice_get}
use Rattle.std.specs.List.{flat_map}
use Rattle.vlt_core.specs.Core.{simple, call, choose, loop, switch, focus, scope, return, jump, Form, Operand, Func, Program}
use Rattle.vlt_core.specs.Kinded.{IsKinded}
use Rattle.vlt_core.specs.Derives.{IsAccepted}
use Rattle.vlt_core.specs.Lookups.{is_new}
use Rattle.vlt_core.specs.Maps.{CanPass, IsBelow, map_after}
use Rattle.vlt_core.specs.Rows.{on_option, operands_rows, called_rows, target_rows}
use Rattle.vlt_core.specs.KindedHeads.{unless, has, when_some, parameters_of, tracked_keys, is_external_parameter, is_declared_result, external_result_broken, external_broken}
use Rattle.vlt_core.specs.KindedCalls.{call_broken}
use Rattle.vlt_core.specs.declared.rules.TheConstants as rule
use Rattle.vlt_core_laws.specs.States.{HasStates}
use Rattle.vlt_meaning.specs.World.{Value, World, Frame}
use Rattle.vlt_meaning_laws.specs.Machine.Got.{got, operands_got}
use Rattle.vlt_meaning_laws.specs.Machine.Reached.{NamesKeys}
use Rattle.vlt_interp.specs.Calls.Called.{KnowsExternal, IsExternalCall}
use Rattle.vlt_interp.specs.Calls.Known.{IsKnownCall, KnowsItsCalls}
use Rattle.vlt_sound_worlds.proofs.Empty.{both_empty}
use Rattle.vlt_sound_worlds.proofs.Rows.{pass_split}
use Rattle.vlt_sound_calls.specs.Callee.{IsCall}
use Rattle.vlt_sound_calls.specs.ReturnHeads.{HasHosts}
use Rattle.vlt_sound_calls.specs.Meet.{HasFunctions}
use Rattle.vlt_sound_calls.proofs.Statics.{is_call, args_long, args_fit}
use Rattle.vlt_sound.specs.Sizes.{HasSizes}
use Rattle.vlt_sound.specs.Narrow.{HasNarrowHeads}
use Rattle.vlt_sound.proofs.Functions.{has_functions}
use Rattle.vlt_sound.proofs.HeadsLaws.{has_hosts}
use Rattle.vlt_sound.proofs.Vars.{head_kinded}
use Rattle.vlt_run_laws.proofs.Instanced.{typed_of}
use Rattle.vlt_run_laws.specs.Known.{IsKnown}
use Rattle.vlt_run_laws.proofs.Calls.{call_names}
use Rattle.vlt_run_laws.proofs.ReachedWhole.{knows_its_steps}
use Rattle.vlt_run_laws.proofs.Clauses.{external_call}
use Rattle.vlt_run_laws.proofs.Operands.{same_keys, single_values}

-- keys that name objects where a frame's keys are the same
names_after : (g : Func) (keys : List ℕ) (frame after : Frame) → after.keys ≡ frame.keys → NamesKeys g keys frame → NamesKeys g keys after
names_after g keys frame after same names j lt old =
    let q = names j lt old in
    record { key = q.key; is = q.is; number = q.number; named = ap (λ ks. ks q.key) same ∙ q.named }

module _ (p : Program) (kinded : IsKinded p) (sizes : HasSizes p) (filled : HasStates p) (narrow : HasNarrowHeads p) where
  functions : HasFunctions p
  functions = has_functions p kinded sizes

  hosts : HasHosts p
  hosts = has_hosts p kinded narrow

  -- no parameter of an external is of a variant
  bare : (n : ℕ) (g : Func) → slice_get p.fns n ≡ Some g → g.external ≡ true →
      flat_map (λ ty. unless (is_external_parameter ty) rule.EXTERN_HEAD) (parameters_of g) ≡ []
  bare n g at external =
      let A = flat_map (λ ty. unless (is_external_parameter ty) rule.EXTERN_HEAD) (parameters_of g) in
      let B = flat_map (λ e. unless (is_new e || has (tracked_keys g) e.key) rule.EXTERN_HEAD) g.clause in
      let C = when_some g.result (λ ty. if is_declared_result p ty then external_result_broken p g ty else []) in
      let all : A ++ B ++ C ≡ [] = subst (λ b. (if b then external_broken p g else []) ≡ []) external (head_kinded p n g kinded at).external in
      (both_empty A B (both_empty (A ++ B) C all).0).0

  module _ {f : Func} (n : ℕ) (target : Option ℕ) (keys : List ℕ) (args : List Operand) {frame : Frame} {w : World}
      (x : IsKnown p f (call n target keys args) frame w) (g : Func) (at : slice_get p.fns n ≡ Some g) where
    unbroken : call_broken p f x.ids (Some g) target keys args ≡ []
    unbroken = subst (λ o. call_broken p f x.ids o target keys args ≡ []) at x.kinded.row

    fits : IsCall p f g x.ids keys
    fits =
        let typed = typed_of functions x.position f x.function in
        is_call target keys args (functions.heads n g at) typed x.here.scoped (functions.meet f typed n g at) unbroken

    lists : g.external ≡ true → IsExternalCall p g keys
    lists external =
        external_call p n g at filled (functions.typed n g at) (narrow.heads n g at external) (hosts.heads n g at external)
        (functions.heads n g at) keys fits

    leads : CanPass (operands_rows p f args) x.map
    leads =
        let A = operands_rows p f args in
        let B = called_rows p f keys g.clause in
        let C = target_rows f target in
        let all : CanPass (A ++ B ++ C) x.map × IsBelow (map_after (A ++ B ++ C) x.map) x.following = subst (λ o. CanPass (A ++ on_option o (λ g. called_rows p f keys g.clause) ++ C) x.map × IsBelow (map_after (A ++ on_option o (λ g. called_rows p f keys g.clause) ++ C) x.map) x.following) at x.leads in
        (pass_split A B x.map (pass_split (A ++ B) C x.map all.0).0).0

    names : (values : List Value) (after : Frame) (v : World) → g.external ≡ true → operands_got p f args frame w ≡ got values after v →
        KnowsExternal g keys values after
    names values after v external e =
        let typed = typed_of functions x.position f x.function in
        let head = functions.heads n g at in
        let meet = functions.meet f typed n g at in
        record {
          keys_known = names_after g keys frame after (same_keys p f args frame w values after v e) (call_names p functions n g at target keys args x);
          single =
              single_values typed keys (parameters_of g) args x.map frame w x.agrees (bare n g at external)
              (args_long target keys args head typed x.here.scoped meet unbroken)
              (args_fit target keys args head typed x.here.scoped meet unbroken) leads values after v e;
        }

  pub knows_call : (f : Func) (form : Form) (frame : Frame) (w : World) → IsKnown p f form frame w → IsKnownCall p f form frame w
  knows_call f (call n target keys args) frame w x = record {
    lists = λ callee at external. lists n target keys args x callee at external;
    known = λ callee values after v at external e. names n target keys args x callee at values after v external e;
  }
  knows_call f (simple s) frame w x = record { lists = tt; known = tt }
  knows_call f (choose e a b) frame w x = record { lists = tt; known = tt }
  knows_call f (loop e b) frame w x = record { lists = tt; known = tt }
  knows_call f (switch v arms end) frame w x = record { lists = tt; known = tt }
  knows_call f (focus y z b) frame w x = record { lists = tt; known = tt }
  knows_call f (scope b) frame w x = record { lists = tt; known = tt }
  knows_call f (return value) frame w x = record { lists = tt; known = tt }
  knows_call f (jump c) frame w x = record { lists = tt; known = tt }

pub knows_its_calls : (p : Program) → IsKinded p → IsAccepted p → HasSizes p → HasStates p → HasNarrowHeads p → KnowsItsCalls p
knows_its_calls p kinded accepted sizes filled narrow r c same reached form frame w before =
    knows_call p kinded sizes filled narrow c.func form frame w
    (knows_its_steps p kinded accepted sizes filled narrow r c form frame w same reached before)
