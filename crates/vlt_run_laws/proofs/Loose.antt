-- What a statement moves is loose.
use Rattle.std.proofs.Common.{◌≡◌, ⊎_elim, ℕ, Bool, true, false, if◌then◌else◌, IsTrue, List, [], ◌∷◌, ◌++◌, length, map, nat_lt, Option, Some, None, sym, ap, ◌∙◌, subst, slice_get}
use Rattle.std.proofs.lemmas.Option.{none-some, same_Some}
use Rattle.std.specs.List.{flat_map}
use Rattle.vlt_core.specs.Core.{States, Ty, int, bool, tracked, owning, guarded, variant, owning_variant, Operand, pure, move, pack, Simple, set, input, print, put, make, become, release, drop, own, unpack, build, swap, open_into, adopt, Form, simple, call, choose, loop, switch, focus, scope, return, jump, Func, Program}
use Rattle.vlt_core.specs.Lookups.{var_type, is_owning, is_owning_var, owning_states_in}
use Rattle.vlt_core.specs.Kinded.{IsKinded}
use Rattle.vlt_core.specs.Derives.{IsAccepted}
use Rattle.vlt_core.specs.Maps.{HeldMap}
use Rattle.vlt_core.specs.KindedHeads.{unless, when_some, has, new_keys, parameters_of}
use Rattle.vlt_core.specs.KindedScopes.{Ids, Around, use_broken, binding_broken, target_broken, own_key}
use Rattle.vlt_core.specs.KindedOperands.{operand_broken, operands_broken, move_broken}
use Rattle.vlt_core.specs.KindedStatements.{simple_broken, wanted_of, made_broken, made_types, case_broken, payload_types, variant_args, is_variant_type, tracked_broken, swap_broken, is_owning_object, is_tracked_type, objects_apart, owning_object, tracked_type}
use Rattle.vlt_core.specs.KindedCalls.{gives_other_keys, argument_type, arguments_broken, argument_broken_by, caller_type, target_alone_broken, call_broken, return_broken, returned_broken, new_result_broken}
use Rattle.vlt_core.specs.KindedBodies.{switch_broken, row_broken}
use Rattle.vlt_core.specs.declared.rules.TheConstants as rule
use Rattle.vlt_core_laws.specs.States.{HasStates}
use Rattle.vlt_meaning.specs.World.{Value, one, objects_in, loose, gone, Object, Frame}
use Rattle.vlt_sound_worlds.specs.Look.{look, IsLive}
use Rattle.vlt_sound_worlds.proofs.Look.{look_at, live_within}
use Rattle.vlt_sound_worlds.specs.Members.{In}
use Rattle.vlt_sound_worlds.specs.Roots.{owned_by, in_var}
use Rattle.vlt_sound_worlds.specs.Fits.{Fits}
use Rattle.vlt_sound_worlds.specs.Agrees.{InScope, Handed, Context, scene, Agrees}
use Rattle.vlt_sound_worlds.proofs.Empty.{both_empty}
use Rattle.vlt_sound_worlds.proofs.Touch.{used}
use Rattle.vlt_sound_calls.proofs.CallRules.{unbroken_call}
use Rattle.vlt_sound.specs.Sizes.{HasSizes}
use Rattle.vlt_sound.specs.Narrow.{HasNarrowHeads}
use Rattle.vlt_run_laws.specs.Loose.{moved_by_operands, moved_by_simple, moved_vars, IsLooseFor, MovesLooseObjects}
use Rattle.vlt_run_laws.proofs.Filled.{first_or_rest, has_value}
use Rattle.vlt_run_laws.proofs.ReachedWhole.{knows_its_steps}

-- ---- what a variable's value owns

module _ {p : Program} {f : Func} {c : Context} {h : HeldMap} {ids : Ids} {hand : List Handed} {frame : Frame}
    {os : List Object} (agrees : Agrees p f c h ids hand frame os) (v : ℕ) (a : Value) (is : frame.vars v ≡ Some a) where
  owner_loose : (n : ℕ) → In n (objects_in a) → (look os n).owner ≡ loose
  owner_loose n i = (agrees.placed.here (in_var v) n (subst (λ o. In n (owned_by o)) (sym is) i)).1

  -- the state of the object of a value of a type with states
  state_in : (n : ℕ) (ty : Ty) (states : States) → var_type f v ≡ Some ty → InScope ids v → owning_states_in (Some ty) ≡ Some states →
      In n (objects_in a) → IsTrue (states (look os n).state)
  state_in n ty states type scoped allowed i = by ty allowed (agrees.fit.fit v ty a scoped type is)
    where
      by : (ty : Ty) → owning_states_in (Some ty) ≡ Some states → Fits p (scene c os agrees.heads) frame.keys ty a → IsTrue (states (look os n).state)
      by (owning s t args) e fits =
          let that : n ≡ fits.fits.object =
          ⊎_elim (λ same. same) (λ none. absurd none) (subst (λ a. In n (objects_in a)) (fits.is ∙ ap one fits.fits.is) i) in
          subst (λ s. IsTrue (s (look os n).state)) (same_Some s states e)
          (subst (λ m. IsTrue (s (look os m).state)) (sym that) fits.fits.state)
      by int e fits = absurd (none-some states e)
      by bool e fits = absurd (none-some states e)
      by (tracked k t args) e fits = absurd (none-some states e)
      by (guarded k t args) e fits = absurd (none-some states e)
      by (variant t args) e fits = absurd (none-some states e)
      by (owning_variant t args) e fits = absurd (none-some states e)

  pub loose_for : (n : ℕ) → In n (objects_in a) → use_broken f ids v ≡ [] → IsLooseFor f v os n
  loose_for n i broken =
      let own = owner_loose n i in
      let live : IsLive (look os) n = λ e. clash (sym e ∙ own) in
      let known = used f ids v broken in
      record {
        object = look os n;
        at = look_at os n (live_within os n live);
        owner = own;
        state = λ states allowed. state_in n known.ty states known.is known.scoped (ap owning_states_in (sym known.is) ∙ allowed) i;
      }
    where
      clash : gone ≡ loose → ⊥
      clash e = cc

-- ---- variables that a statement moves are in scope

module _ (p : Program) (f : Func) (ids : Ids) (v : ℕ) where
  moved_used : (o : Operand) (wanted : Option Ty) → operand_broken p f ids wanted o ≡ [] → In v (moved_by_operands (o ∷ [])) →
      use_broken f ids v ≡ []
  moved_used (move u) wanted broken i = ⊎_elim
      (λ same. subst (λ u. use_broken f ids u ≡ []) (sym same) (both_empty (use_broken f ids u) (move_broken wanted (var_type f u)) broken).0)
      (λ none. absurd none)
      i
  moved_used (pure e) wanted broken i = absurd i
  moved_used (pack x s) wanted broken i = absurd i

  all_used : (wanted : List Ty) (os : List Operand) → operands_broken p f ids wanted os ≡ [] → In v (moved_by_operands os) →
      use_broken f ids v ≡ []
  all_used wanted [] broken i = absurd i
  all_used [] (o ∷ os) broken i =
      let both = both_empty (operand_broken p f ids None o) (operands_broken p f ids [] os) broken in
      ⊎_elim (moved_used o None both.0) (all_used [] os both.1) (first_or_rest v o os i)
  all_used (t ∷ wanted) (o ∷ os) broken i =
      let both = both_empty (operand_broken p f ids (Some t) o) (operands_broken p f ids wanted os) broken in
      ⊎_elim (moved_used o (Some t) both.0) (all_used wanted os both.1) (first_or_rest v o os i)

  argument_used : (wanted : Option Ty) (o : Operand) → argument_broken_by p f ids wanted o ≡ [] → In v (moved_by_operands (o ∷ [])) →
      use_broken f ids v ≡ []
  argument_used wanted o broken i = by (gives_other_keys wanted (argument_type p f o)) broken
    where
      by : (b : Bool) → (if b then rule.TWO_CALLER_KEYS ∷ operand_broken p f ids None o else operand_broken p f ids wanted o) ≡ [] →
          use_broken f ids v ≡ []
      by true none = cc
      by false none = moved_used o wanted none i

  arguments_used : (wanted : List (Option Ty)) (os : List Operand) → arguments_broken p f ids wanted os ≡ [] →
      In v (moved_by_operands os) → use_broken f ids v ≡ []
  arguments_used wanted [] broken i = absurd i
  arguments_used [] (o ∷ os) broken i =
      let both = both_empty (argument_broken_by p f ids None o) (arguments_broken p f ids [] os) broken in
      ⊎_elim (argument_used None o both.0) (arguments_used [] os both.1) (first_or_rest v o os i)
  arguments_used (t ∷ wanted) (o ∷ os) broken i =
      let both = both_empty (argument_broken_by p f ids t o) (arguments_broken p f ids wanted os) broken in
      ⊎_elim (argument_used t o both.0) (arguments_used wanted os both.1) (first_or_rest v o os i)

  here : (u : ℕ) → In v (u ∷ []) → use_broken f ids u ≡ [] → use_broken f ids v ≡ []
  here u i none = ⊎_elim (λ same. subst (λ u. use_broken f ids u ≡ []) (sym same) none) (λ none. absurd none) i

  simple_used : (s : Simple) → simple_broken p f ids s ≡ [] → In v (moved_by_simple s) → use_broken f ids v ≡ []
  simple_used (make x args) broken i =
      let a = both_empty (made_broken p (length args) (var_type f x) ++ operands_broken p f ids (made_types p (var_type f x)) args) (binding_broken f ids (own_key f x) x) broken in
      all_used (made_types p (var_type f x)) args
      (both_empty (made_broken p (length args) (var_type f x)) (operands_broken p f ids (made_types p (var_type f x)) args) a.0).1 i
  simple_used (own x value) broken i =
      let type = if is_owning_var f x then var_type f x else None in
      let a = both_empty (wanted_of (var_type f x) is_owning ++ operand_broken p f ids type value) (target_broken f ids x) broken in
      moved_used value type (both_empty (wanted_of (var_type f x) is_owning) (operand_broken p f ids type value) a.0).1 i
  simple_used (build x case args) broken i =
      let wanted = wanted_of (var_type f x) is_variant_type in
      let count = case_broken p case (length args) (variant_args (var_type f x)) in
      let types = payload_types p (variant_args (var_type f x)) case in
      let a = both_empty (wanted ++ count ++ operands_broken p f ids types args) (target_broken f ids x) broken in
      all_used types args (both_empty (wanted ++ count) (operands_broken p f ids types args) a.0).1 i
  simple_used (drop u) broken i = here u i (both_empty (use_broken f ids u) _ broken).0
  simple_used (unpack x u) broken i =
      let object = wanted_of (var_type f u) is_owning_object in
      let reference = wanted_of (var_type f x) is_tracked_type in
      let apart = objects_apart (owning_object (var_type f u)) (tracked_type (var_type f x)) in
      let a = both_empty (use_broken f ids u ++ object ++ reference ++ apart) (binding_broken f ids (own_key f x) x) broken in
      let b = both_empty (use_broken f ids u ++ object ++ reference) apart a.0 in
      let c = both_empty (use_broken f ids u ++ object) reference b.0 in
      here u i (both_empty (use_broken f ids u) object c.0).0
  simple_used (swap x position u) broken i =
      let a = both_empty (tracked_broken f ids rule.WRONG_SWAP x ++ use_broken f ids u) (swap_broken p f x position u) broken in
      here u i (both_empty (tracked_broken f ids rule.WRONG_SWAP x) (use_broken f ids u) a.0).1
  simple_used (set x e) broken i = absurd i
  simple_used (input x more) broken i = absurd i
  simple_used (print e) broken i = absurd i
  simple_used (put x position e) broken i = absurd i
  simple_used (become x s) broken i = absurd i
  simple_used (release x) broken i = absurd i
  simple_used (open_into x vs) broken i = absurd i
  simple_used (adopt y x r) broken i = absurd i

  returned_used : (ty : Ty) (o : Operand) → returned_broken p f ids ty o ≡ [] → In v (moved_by_operands (o ∷ [])) → use_broken f ids v ≡ []
  returned_used (tracked k t args) (move u) broken i = by (has (new_keys f) k) broken
    where
      by : (b : Bool) → (if b then new_result_broken p f ids t args (move u) else operand_broken p f ids (Some (tracked k t args)) (move u)) ≡ [] →
          use_broken f ids v ≡ []
      by true none = cc
      by false none = moved_used (move u) (Some (tracked k t args)) none i
  returned_used (tracked k t args) (pure e) broken i = absurd i
  returned_used (tracked k t args) (pack x s) broken i = absurd i
  returned_used int o broken i = moved_used o (Some int) broken i
  returned_used bool o broken i = moved_used o (Some bool) broken i
  returned_used (owning s t args) o broken i = moved_used o (Some (owning s t args)) broken i
  returned_used (guarded k t args) o broken i = moved_used o (Some (guarded k t args)) broken i
  returned_used (variant t args) o broken i = moved_used o (Some (variant t args)) broken i
  returned_used (owning_variant t args) o broken i = moved_used o (Some (owning_variant t args)) broken i

  some_broken : {n : ℕ} {ns : List ℕ} → n ∷ ns ≡ [] → ⊥
  some_broken e = cc

  form_used : (around : Around) (form : Form) → row_broken p f around ids form ≡ [] → In v (moved_vars form) → use_broken f ids v ≡ []
  form_used around (simple s) broken i = simple_used s broken i
  form_used around (call n target keys args) broken i = by (slice_get p.fns n) broken
    where
      by : (o : Option Func) → call_broken p f ids o target keys args ≡ [] → use_broken f ids v ≡ []
      by (Some g) none = arguments_used (map (caller_type keys) (parameters_of g)) args (unbroken_call p f ids g target keys args none).arguments i
      by None none =
          let unknown = flat_map (λ k. unless (nat_lt k (length f.keys)) rule.UNKNOWN_NAME) keys in
          let a = both_empty (unknown ++ rule.UNKNOWN_NAME ∷ operands_broken p f ids [] args) (target_alone_broken f ids target) none in
          absurd (some_broken (both_empty unknown (rule.UNKNOWN_NAME ∷ operands_broken p f ids [] args) a.0).1)
  form_used around (switch u arms end) broken i =
      let kind = when_some (var_type f u) (λ ty. unless (is_variant_type ty) rule.WRONG_SWITCH) in
      let a = both_empty (switch_broken p f ids u arms) _ broken in
      let b = both_empty (use_broken f ids u ++ kind) _ a.0 in
      here u i (both_empty (use_broken f ids u) kind b.0).0
  form_used around (return (Some o)) broken i =
      let a = both_empty (unless around.returns rule.WRONG_JUMP) (return_broken p f ids f.result (Some o)) broken in
      by f.result a.1
    where
      by : (ty : Option Ty) → return_broken p f ids ty (Some o) ≡ [] → use_broken f ids v ≡ []
      by (Some ty) none = returned_used ty o none i
      by None none = cc
  form_used around (return None) broken i = absurd i
  form_used around (choose e a b) broken i = absurd i
  form_used around (loop e b) broken i = absurd i
  form_used around (focus y z b) broken i = absurd i
  form_used around (scope b) broken i = absurd i
  form_used around (jump c) broken i = absurd i

-- ---- statements of a run

pub moves_loose_objects : (p : Program) → IsKinded p → IsAccepted p → HasSizes p → HasStates p → HasNarrowHeads p → MovesLooseObjects p
moves_loose_objects p kinded accepted sizes filled narrow r c form frame w v same reached before moved =
    let x = knows_its_steps p kinded accepted sizes filled narrow r c form frame w same reached before in
    let in_use = form_used p c.func x.ids v x.site.around form x.kinded.row moved in
    let known = used c.func x.ids v in_use in
    let value = has_value p c.func v x.agrees known.ty known.is known.scoped x.site.breaks x.site.turns x.following x.site.left form moved x.leads in
    record { value = value.0; has = value.1; loose = λ n i. loose_for x.agrees v value.0 value.1 n i in_use }
