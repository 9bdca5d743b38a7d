-- A callee begins.
use Rattle.std.proofs.Common.{◌≡◌, ◌⊎◌, ⊎_elim, ℕ, suc, ◌+◌, ◌<◌, ◌≤◌, nat_lt, Bool, true, false, ◌||◌, not, if◌then◌else◌, List, [], ◌++◌, map, length, take, Option, Some, None, refl, sym, ap, ◌∙◌, subst, arith, slice_get}
use Rattle.std.proofs.lemmas.Bool.{cases_eq, cases_Bool, ltb-true, ltb-false, lt-ltb, leb-true}
use Rattle.std.proofs.lemmas.List.{length-take-le, length-map}
use Rattle.std.proofs.lemmas.Option.{slice_get_past, slice_get_within, slice_get_cases}
use Rattle.std.specs.Option.{option_and_then}
use Rattle.vlt_core.specs.Core.{Ty, a_var, Func, Program}
use Rattle.vlt_core.specs.Lookups.{var_type, is_owning_var, owns, key_type}
use Rattle.vlt_core.specs.Types.{stands_for, with_keys}
use Rattle.vlt_core.specs.Maps.{absent, full, HeldMap, CanPass}
use Rattle.vlt_core.specs.Rows.{clause_rows}
use Rattle.vlt_core.specs.Derives.{start_map}
use Rattle.vlt_core.specs.KindedHeads.{has, parameters_of, keys_of_parameters, keys_of_result}
use Rattle.vlt_core.specs.KindedScopes.{Ids}
use Rattle.vlt_core.specs.KindedBodies.{first_ids}
use Rattle.vlt_meaning.specs.World.{Value, objects_in, Object, Frame}
use Rattle.vlt_meaning.specs.Calls.{handed_over, is_new_key, callee_key, callee_frame}
use Rattle.vlt_sound_worlds.specs.Look.{look}
use Rattle.vlt_sound_worlds.specs.Placed.{IsPlaced}
use Rattle.vlt_sound_worlds.specs.Roots.{owned_by, content, home, owner_of}
use Rattle.vlt_sound_worlds.specs.Scene.{Scene}
use Rattle.vlt_sound_worlds.specs.Fits.{Fits}
use Rattle.vlt_sound_worlds.proofs.Fits.{fits_named, fits_after}
use Rattle.vlt_sound_worlds.specs.Agrees.{HasVar, InScope, VarsFit, VarsAgree, values_of, Waiting, Context, WaitsWell, scene, stock, Agrees}
use Rattle.vlt_sound_worlds.specs.Typed.{IsTyped}
use Rattle.vlt_sound_worlds.proofs.Plain.{plain_value}
use Rattle.vlt_sound_worlds.proofs.Kept.{vars_kept, waits_kept}
use Rattle.vlt_sound_worlds.proofs.TypeFacts.{var_known}
use Rattle.vlt_sound_worlds.specs.Scoped.{IsScoped}
use Rattle.vlt_sound_worlds.proofs.Starting.{has_left, has_right, start_scoped}
use Rattle.vlt_sound_worlds.specs.Handed.{handed_values}
use Rattle.vlt_sound_calls.specs.Returned.{IsEntered}
use Rattle.vlt_sound_calls.specs.Heads.{HasHead}
use Rattle.vlt_sound_calls.specs.Callee.{IsCall, without, with_waiting, callee_context}
use Rattle.vlt_sound_calls.proofs.Rekeyed.{Rekeyed, rekeyed_grows, rekeyed_states, rekeyed_objects, rekeyed_adopted, rekeyed_placed, rekeyed_ranked, rekeyed_foci}
use Rattle.vlt_sound_calls.proofs.Over.{handed_length, handed_rekeyed}
use Rattle.vlt_sound_calls.proofs.Parameters.{waiting_here, waiting_other, vars_wait, values_fill, handed_objects, param_fits, range_within, in_range}
use Rattle.vlt_sound_calls.proofs.Typing.{keys_typed}
use Rattle.vlt_sound_calls.proofs.Begins.{holds, callee_names, callee_keys, waiting_keys, others_under, over_bounded}

abbrev pub argument_types : Func → List ℕ → List Ty
argument_types g keys = map (with_keys keys) (parameters_of g)

module _ {p : Program} {f : Func} {c : Context} {h : HeldMap} {ids : Ids} {frame : Frame} {os : List Object} (g : Func) (keys : List ℕ)
    (values : List Value) (agrees : Agrees p f c h ids (handed_values (argument_types g keys) values) frame os)
    (long : length values ≡ length (argument_types g keys)) (call : IsCall p f g ids keys)
    (typed : IsTyped p f) (typed_callee : IsTyped p g) (head : HasHead p g)
    (entered : IsEntered p f c) (scoped : IsScoped f c ids) (pass : CanPass (clause_rows p f keys g.clause) h) where
  abbrev pub inner : Context
  inner = callee_context f h ids frame c g keys

  abbrev pub waits_now : Waiting
  waits_now = record { func = f; map = without keys g.clause h; ids = ids; frame = frame }

  abbrev pub begins : Frame
  begins = callee_frame g keys values frame

  abbrev pub over : List Object
  over = handed_over keys frame g.clause os

  depth_is : frame.depth ≡ c.depth
  depth_is = agrees.rest.depth

  rekeyed : Rekeyed (look os) (look over)
  rekeyed = handed_rekeyed keys frame os g.clause (holds agrees g keys call typed.limited entered.flat pass)

  same_length : length over ≡ length os
  same_length = handed_length keys frame os g.clause

  params_le : g.params ≤ length g.vars
  params_le = leb-true g.params (length g.vars) head.params

  values_long : length values ≡ g.params
  values_long =
      long ∙ (length-map (parameters_of g) (with_keys keys) ∙
      (length-map (take g.params g.vars) (λ d. d.ty) ∙ length-take-le g.params g.vars params_le))

  -- ---- a parameter

  param_scope : (v : ℕ) → InScope (first_ids p g) v → v < g.params
  param_scope v i = ⊎_elim
      (λ lt. let q = rw lt at i in let b = (range_within v 0 g.params q).1 in omega arith)
      (λ past. let q = rw past at i in let b = (range_within v 0 (length g.vars) q).1 in let le = ltb-false g.params (length g.vars) past in omega arith)
      (cases_Bool (nat_lt g.params (length g.vars)))

  in_scope : (v : ℕ) → v < g.params → InScope (first_ids p g) v
  in_scope v lt = ⊎_elim
      (λ less. rw less (in_range v 0 g.params (omega arith) (omega arith)))
      (λ past. rw past (let le = params_le in in_range v 0 (length g.vars) (omega arith) (omega arith)))
      (cases_Bool (nat_lt g.params (length g.vars)))

  has_value : (v : ℕ) → v < g.params → (a : Value) × (slice_get values v ≡ Some a)
  has_value v lt = ⊎_elim
      (λ at. (at.0, at.2))
      (λ past. let le = past.0 in let n = values_long in absurd (omega arith))
      (slice_get_cases values v).1

  value_param : (v : ℕ) (a : Value) → slice_get values v ≡ Some a → v < g.params
  value_param v a at = let lt = slice_get_within values v a at in let n = values_long in omega arith

  param_type : (v : ℕ) → v < g.params → (ty : Ty) × (var_type g v ≡ Some ty)
  param_type v lt = let le = params_le in var_known g v (lt-ltb v (length g.vars) (omega arith))

  pub callee_scoped : IsScoped g inner (first_ids p g)
  callee_scoped = start_scoped p g (λ k i lt.
      has_left k (keys_of_result g ++ keys_of_parameters g) (map (λ e. e.key) g.clause)
      (has_right k (keys_of_result g) (keys_of_parameters g) (param (has (keys_of_parameters g) k) (nat_lt k (length g.keys)) lt i))) refl
    where
      param : (a b : Bool) → b ≡ true → (a || not b) ≡ true → a ≡ true
      param true b lt e = refl
      param false true lt e = cc
      param false false lt e = cc

  -- values fit before the keys were handed over, and so they do after that
  value_fits : (v : ℕ) (ty : Ty) (a : Value) → InScope (first_ids p g) v → var_type g v ≡ Some ty →
      slice_get values v ≡ Some a → Fits p (scene c os agrees.heads) (callee_key g keys frame) ty a
  value_fits v ty a i is at =
      let fit = param_fits p (scene c os agrees.heads) frame.keys keys g.params g.vars values long agrees.handed v ty a is at in
      fits_named p (scene c os agrees.heads) (λ k. frame.keys (stands_for keys k)) (callee_key g keys frame) ty a
      (λ k j. callee_names agrees g keys call typed.limited entered.flat pass k (callee_scoped.vars v k ty i is j))
      (fits_after p (scene c os agrees.heads) frame.keys keys ty a fit)

  callee_fits : VarsFit p g (first_ids p g) (scene c over agrees.heads) (callee_key g keys frame) (slice_get values)
  callee_fits =
      vars_kept p (rekeyed_grows agrees over same_length rekeyed) g (first_ids p g) (callee_key g keys frame) (slice_get values)
      (λ v a at. rekeyed_states agrees over same_length rekeyed (objects_in a))
      (record { fit = value_fits; there = λ v ty i is plain. has_value v (param_scope v i) })

  callee_vars : VarsAgree g (start_map p g) (slice_get values)
  callee_vars = record { plain = λ v e. plain v e (slice_get values v) refl; full = λ v. whole v (nat_lt v g.params) refl }
    where
      plain : (v : ℕ) → is_owning_var g v ≡ false → (o : Option Value) → slice_get values v ≡ o → owned_by o ≡ []
      plain v e None at = refl
      plain v e (Some a) at =
          let lt = value_param v a at in
          let t = param_type v lt in
          plain_value p (scene c os agrees.heads) (callee_key g keys frame) t.0 a (sym (ap owns t.1) ∙ e)
          (λ u args q. typed_callee.variants v u args (t.1 ∙ ap Some q))
          (value_fits v t.0 a (in_scope v lt) t.1 at)

      clash : false ≡ true → ⊥
      clash e = cc

      whole : (v : ℕ) (b : Bool) → nat_lt v g.params ≡ b →
          HasVar (is_owning_var g v) (start_map p g (a_var v)) (slice_get values v)
      whole v true lt = rw lt (by (is_owning_var g v) (has_value v (ltb-true v g.params lt)))
        where
          by : (o : Bool) → (a : Value) × (slice_get values v ≡ Some a) →
              HasVar o (if o then full else absent) (slice_get values v)
          by true has = has
          by false has = λ e. absurd (clash e)
      whole v false past =
          let le = ltb-false v g.params past in
          let n = values_long in
          rw past (λ e. slice_get_past values v (omega arith))

  -- ---- what waits

  waiting_mine : with_waiting frame.depth waits_now c.waiting frame.depth ≡ waits_now
  waiting_mine = waiting_here frame.depth waits_now c.waiting frame.depth refl

  waits_mine : WaitsWell p (scene inner over agrees.heads) waits_now frame.depth
  waits_mine = record {
    depth = refl;
    keys = waiting_keys agrees g keys call typed.limited entered.flat pass;
    vars =
        vars_kept p (rekeyed_grows agrees over same_length rekeyed) f ids frame.keys frame.vars
        (λ v a at. rekeyed_states agrees over same_length rekeyed (objects_in a)) agrees.fit;
  }

  callee_waits : (d : ℕ) → d < suc frame.depth →
      WaitsWell p (scene inner over agrees.heads) (with_waiting frame.depth waits_now c.waiting d) d
  callee_waits d lt = ⊎_elim
      (λ same. subst (λ d. WaitsWell p (scene inner over agrees.heads) (with_waiting frame.depth waits_now c.waiting d) d)
      (sym same) (subst (λ a. WaitsWell p (scene inner over agrees.heads) a frame.depth) (sym waiting_mine) waits_mine))
      (λ other.
      let below : d < frame.depth = omega arith in
      let depth = depth_is in
      subst (λ a. WaitsWell p (scene inner over agrees.heads) a d) (sym (waiting_other frame.depth waits_now c.waiting d other))
      (waits_kept p (rekeyed_grows agrees over same_length rekeyed) (c.waiting d) d
      (λ k. others_under agrees g keys call typed.limited entered.flat pass d k below)
      (λ v b at. rekeyed_states agrees over same_length rekeyed (objects_in b))
      (agrees.rest.waits d (omega arith))))
      (cases_eq d frame.depth)

  callee_placed : IsPlaced (content (stock inner [] begins over)) home (owner_of (look over))
  callee_placed =
      values_fill (λ d. (with_waiting frame.depth waits_now c.waiting d).frame.vars) (look over) (owner_of (look over)) values []
      (subst (λ ns. IsPlaced (content (record { vars = slice_get []; hand = ns; waits = λ d. (with_waiting frame.depth waits_now c.waiting d).frame.vars; objects = look over })) home (owner_of (look over)))
      (handed_objects (argument_types g keys) values long)
      (vars_wait frame.vars (values_of (handed_values (argument_types g keys) values)) frame.depth waits_now c.waiting (look over) (owner_of (look over)) refl
      (λ v. let depth = depth_is in entered.free frame.depth v (omega arith))
      (rekeyed_placed agrees over same_length rekeyed)))

  pub callee_agrees : Agrees p g inner (start_map p g) (first_ids p g) [] begins over
  callee_agrees = record {
    heads = agrees.heads;
    placed = callee_placed;
    ranked = rekeyed_ranked rekeyed agrees.ranked;
    objects = rekeyed_objects agrees over same_length rekeyed;
    adopted = rekeyed_adopted agrees over same_length rekeyed;
    keys = callee_keys agrees g keys call typed.limited entered.flat pass;
    vars = callee_vars;
    fit = callee_fits;
    handed = tt;
    rest = record {
      depth = refl;
      within = omega arith;
      named = λ k i. refl;
      bounded = over_bounded agrees g keys call typed.limited entered.flat pass;
      focused = rekeyed_foci rekeyed c.foci agrees.rest.focused;
      pinned = tt;
      waits = callee_waits;
    };
  }

  -- what is known of its context
  pub callee_entered : IsEntered p g inner
  callee_entered = record {
    flat = refl;
    free = λ d v le.
        let depth = depth_is in
        let other : d ≡ frame.depth → ⊥ = λ e. absurd (omega arith) in
        ap (λ a. owned_by (a.frame.vars v)) (waiting_other frame.depth waits_now c.waiting d other)
        ∙ entered.free d v (omega arith);
    head = λ k. refl;
    beyond = λ k past. by (is_new_key g k) k (call.beyond k past);
    typed = λ s waits k t n i type name. below s waits k t n i type name;
  }
    where
      by : (b : Bool) (k : ℕ) → slice_get keys k ≡ None →
          (if b then None else option_and_then frame.keys (slice_get keys k)) ≡ None
      by true k none = refl
      by false k none = ap (option_and_then frame.keys) none

      below : (s : Scene) →
          ((d : ℕ) → d < suc frame.depth → WaitsWell p s (with_waiting frame.depth waits_now c.waiting d) d) → (k t n : ℕ) →
          has (keys_of_parameters g) k ≡ true → key_type g k ≡ Some t → callee_key g keys frame k ≡ Some n → (look s.objects n).type ≡ t
      below s waits k t n i type name =
          let well : WaitsWell p s waits_now frame.depth =
          subst (λ a. WaitsWell p s a frame.depth) waiting_mine (waits frame.depth (omega arith)) in
          keys_typed typed entered scoped frame agrees.rest.named s
          (λ d lt.
          let depth = depth_is in
          let other : d ≡ frame.depth → ⊥ = λ e. absurd (omega arith) in
          subst (λ a. WaitsWell p s a d) (waiting_other frame.depth waits_now c.waiting d other) (waits d (omega arith)))
          well.vars (stands_for keys k) t n (call.scoped k i) (call.typed k t i type)
          (sym (callee_names agrees g keys call typed.limited entered.flat pass k i) ∙ name)
