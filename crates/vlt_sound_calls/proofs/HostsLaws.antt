-- Calls of externals are safe where answers are.
use Rattle.std.proofs.Common.{◌≡◌, ⊎_elim, inl, inr, ℕ, ◌+◌, ◌<◌, ℤ, List, [], ◌∷◌, ◌++◌, length, map, filter, Option, Some, refl, sym, ap, ◌∙◌, subst, arith}
use Rattle.std.specs.List.{flat_map}
use Rattle.vlt_core.specs.Core.{Ty, int, bool, tracked, owning, guarded, variant, owning_variant, a_key, a_var, Entry, Func, Program}
use Rattle.vlt_core.specs.Types.{stands_for, with_keys}
use Rattle.vlt_core.specs.Maps.{absent, HeldMap, wants_absent, CanPass, map_after}
use Rattle.vlt_core.specs.Rows.{clause_rows, target_rows}
use Rattle.vlt_core.specs.KindedHeads.{parameters_of, own_typings, tracked_keys}
use Rattle.vlt_core.specs.KindedScopes.{Ids}
use Rattle.vlt_core.specs.KindedCalls.{call_target_broken, with_call_target}
use Rattle.vlt_meaning.specs.World as world
use Rattle.vlt_meaning.specs.World.{Value, objects_in, out, loose, gone, is_at, is_loose, called, Object, World, Frame}
use Rattle.vlt_meaning.specs.Objects.{with_owner}
use Rattle.vlt_meaning.specs.Step.{Step, with_answer, first_answer, with_objects, with_event, with_moved}
use Rattle.vlt_meaning.specs.Calls.{passed_objects}
use Rattle.vlt_meaning.specs.Externals.{is_taken, awaited_keys, named_objects, taken_objects, call_external}
use Rattle.vlt_meaning.specs.Run.{Setup}
use Rattle.vlt_sound_worlds.specs.Look.{look, IsLive}
use Rattle.vlt_sound_worlds.proofs.Look.{live_within}
use Rattle.vlt_sound_worlds.specs.Members.{In}
use Rattle.vlt_sound_worlds.specs.Roots.{in_hand}
use Rattle.vlt_sound_worlds.proofs.Members.{in_either, in_left, in_right}
use Rattle.vlt_sound_worlds.specs.Scene.{Scene}
use Rattle.vlt_sound_worlds.specs.Fits.{Names}
use Rattle.vlt_sound_worlds.specs.Agrees.{Handed, values_of, FitHanded, Context, scene, Agrees}
use Rattle.vlt_sound_worlds.specs.Typed.{IsTyped}
use Rattle.vlt_sound_worlds.specs.Safe.{Goal, Safe, goes_to}
use Rattle.vlt_sound_worlds.proofs.Safe.{found_safe}
use Rattle.vlt_sound_worlds.proofs.Leaving.{key_same, var_is_no_key}
use Rattle.vlt_sound_worlds.specs.Scoped.{IsScoped}
use Rattle.vlt_sound_worlds.specs.Handed.{handed_values}
use Rattle.vlt_sound_worlds.specs.Moved.{ArePassing, IsMoved}
use Rattle.vlt_sound_worlds.proofs.Moved.{moved_all, moved_safe}
use Rattle.vlt_sound_calls.specs.ReturnHeads.{HasHostHead}
use Rattle.vlt_sound_calls.specs.Returned.{IsEntered}
use Rattle.vlt_sound_calls.specs.Heads.{HasHead}
use Rattle.vlt_sound_calls.specs.Callee.{AreApartBy, IsCall, caller_key}
use Rattle.vlt_sound_calls.proofs.Parameters.{handed_objects}
use Rattle.vlt_sound_calls.proofs.Over.{HoldsAll, holds_object, all_passed}
use Rattle.vlt_sound_calls.proofs.Begins.{holds, passes_states}
use Rattle.vlt_sound_calls.specs.Fresh.{IsFreshCall}
use Rattle.vlt_sound_calls.proofs.Pairs.{among_filtered, filtered_among, filtered_apart}
use Rattle.vlt_sound_calls.specs.Externals.{ExternalsAreSafe}
use Rattle.vlt_sound_calls.proofs.Taking.{take_other}
use Rattle.vlt_sound_worlds.specs.Sent.{AreSent}
use Rattle.vlt_sound_worlds.proofs.Sending.{agrees_sent}
use Rattle.vlt_sound_calls.specs.HostAnswers.{answer_step, map_after_sending, AreNamed, AnswersAreSafe}
use Rattle.vlt_sound_calls.proofs.News.{in_has}
use Rattle.vlt_sound_calls.proofs.Awaited.{AreFound, all_awaited}
use Rattle.vlt_sound_calls.proofs.TakenKeys.{take_here, taken_before, entry_taken, taken_once, entry_at, key_at, held_by, taken_passes}

-- an answer is taken, if there is one
answer_safe : (G : Goal) (w : World) (go : List ℤ → World → Step) →
    ((numbers : List ℤ) (w2 : World) → w2.objects ≡ w.objects → Safe G (go numbers w2)) → Safe G (with_answer w go)
unfolding with_answer first_answer
answer_safe G w go safe = by w.answers
  where
    by : (all : List (List ℤ)) → Safe G (first_answer all w go)
    by [] = refl
    by (a ∷ rest) = safe a (record w { answers = rest; taken = w.taken + 1 }) refl

-- a reference that is handed over says what its key names
named_handed : (p : Program) (s : Scene) (names : Names) (keys : List ℕ) (tys : List Ty) (values : List Value) →
    length values ≡ length (map (with_keys keys) tys) → FitHanded p s names (handed_values (map (with_keys keys) tys) values) → (k : ℕ) →
    In k (map (λ x. x.key) (flat_map own_typings tys)) → (n : ℕ) × (names (stands_for keys k) ≡ Some n)
named_handed p s names keys [] values long fits k i = absurd i
named_handed p s names keys (ty ∷ tys) [] long fits k i = cc
named_handed p s names keys (tracked j t args ∷ tys) (a ∷ values) long fits k i = ⊎_elim
    (λ same. (fits.0.fits.object, ap (λ k. names (stands_for keys k)) same ∙ fits.0.fits.named))
    (λ rest. named_handed p s names keys tys values (omega arith) fits.1 k rest)
    i
named_handed p s names keys (int ∷ tys) (a ∷ values) long fits k i =
    named_handed p s names keys tys values (omega arith) fits.1 k i
named_handed p s names keys (bool ∷ tys) (a ∷ values) long fits k i =
    named_handed p s names keys tys values (omega arith) fits.1 k i
named_handed p s names keys (owning S t args ∷ tys) (a ∷ values) long fits k i =
    named_handed p s names keys tys values (omega arith) fits.1 k i
named_handed p s names keys (guarded j t args ∷ tys) (a ∷ values) long fits k i =
    named_handed p s names keys tys values (omega arith) fits.1 k i
named_handed p s names keys (variant t args ∷ tys) (a ∷ values) long fits k i =
    named_handed p s names keys tys values (omega arith) fits.1 k i
named_handed p s names keys (owning_variant t args ∷ tys) (a ∷ values) long fits k i =
    named_handed p s names keys tys values (omega arith) fits.1 k i

-- both together go to the host
module _ {p : Program} {f : Func} {c : Context} {h : HeldMap} {ids : Ids} {hand : List Handed} {frame : Frame} {os : List Object}
    (agrees : Agrees p f c h ids hand frame os) (keys : List ℕ) (es : List Entry) (all : HoldsAll keys frame os es)
    (first : IsMoved (is_at frame.depth) out (taken_objects keys frame es) os) where
  was_loose : (n : ℕ) → In n (values_of hand) → (look os n).owner ≡ loose
  was_loose n i = (agrees.placed.here in_hand n i).1

  not_taken : (n : ℕ) → In n (values_of hand) → In n (taken_objects keys frame es) → ⊥
  not_taken n i j = let q = held_by keys frame os es all n j in clash q.0 (sym q.3 ∙ was_loose n i)
    where
      clash : (e : Entry) → world.held frame.depth (caller_key keys e) ≡ loose → ⊥
      clash e q = cc

  -- what was handed over is there still
  pub hand_passes : ArePassing is_loose (values_of hand) first.objects
  hand_passes n i =
      let live : IsLive (look os) n = λ e. gone_loose (sym e ∙ was_loose n i) in (
        subst (λ l. n < l) (sym first.long) (live_within os n live),
        ap (λ o. is_loose o.owner) (first.change.others n (not_taken n i)) ∙ ap is_loose (was_loose n i),
      )
    where
      gone_loose : gone ≡ loose → ⊥
      gone_loose e = cc

module _ {p : Program} {f : Func} {c : Context} {h : HeldMap} {ids : Ids} {hand : List Handed} {frame : Frame} {os : List Object}
    (agrees : Agrees p f c h ids hand frame os) (keys : List ℕ) (g : Func) (apart : AreApartBy (caller_key keys) g.clause)
    (all : HoldsAll keys frame os g.clause)
    (first : IsMoved (is_at frame.depth) out (taken_objects keys frame g.clause) os)
    (moved2 : IsMoved is_loose out (values_of hand) first.objects) where
  abbrev taken_ones : List Entry
  taken_ones = filter is_taken g.clause

  abbrev xs : List ℕ
  xs = taken_objects keys frame g.clause

  all_sent : AreSent frame h (map_after_sending g keys h) hand (map (caller_key keys) taken_ones) (xs ++ values_of hand) os moved2.objects
  all_sent = record {
    moves = record {
      those = λ n i. ⊎_elim
          (λ t. moved2.change.others n (λ j. not_taken agrees keys g.clause all first n j t) ∙ first.change.those n t)
          (λ j. moved2.change.those n j ∙ ap (with_owner out) (first.change.others n (not_taken agrees keys g.clause all first n j)))
          (in_either n xs (values_of hand) i);
      others = λ n off.
          moved2.change.others n (λ j. off (in_right n xs (values_of hand) j)) ∙
          first.change.others n (λ t. off (in_left n xs (values_of hand) t));
    };
    long = moved2.long ∙ first.long;
    from = λ n i. ⊎_elim
        (λ t.
        let q = held_by keys frame os g.clause all n t in
        inl (record {
          key = caller_key keys q.0;
          is = key_at (caller_key keys) taken_ones q.0 (filtered_among is_taken g.clause q.0 q.1 q.2);
          held = q.3;
        }))
        (λ j. inr j)
        (in_either n xs (values_of hand) i);
    emptied = λ n i. in_right n xs (values_of hand) i;
    named = λ k i.
        let q = entry_at (caller_key keys) taken_ones k i in
        let e = among_filtered is_taken g.clause q.0 q.1 in
        let x = all q.0 e.0 (taken_before keys frame os q.0 e.1) in
        record {
          number = x.number;
          named = ap frame.keys (sym q.2) ∙ x.named;
          sent =
              in_left x.number xs (values_of hand)
              (entry_taken keys frame os g.clause q.0 x.number e.0 e.1 (holds_object keys frame os q.0 x));
        };
    gone = λ k i.
        let q = entry_at (caller_key keys) taken_ones k i in
        subst (λ k. map_after_sending g keys h (a_key k) ≡ absent) q.2
        (take_here (caller_key keys) (λ e. wants_absent) taken_ones (filtered_apart (caller_key keys) is_taken g.clause apart) h q.0 q.1);
    keys = λ k off.
        take_other (caller_key keys) (λ e. wants_absent) taken_ones h (a_key k)
        (λ e i is. off (subst (λ j. In j (map (caller_key keys) taken_ones)) (sym (key_same is)) (key_at (caller_key keys) taken_ones e i)));
    vars = λ v. take_other (caller_key keys) (λ e. wants_absent) taken_ones h (a_var v) (λ e i. var_is_no_key);
  }

  pub agrees_out : Agrees p f c (map_after_sending g keys h) ids [] frame moved2.objects
  agrees_out = agrees_sent agrees (map (caller_key keys) taken_ones) (xs ++ values_of hand) all_sent

module _ (r : Setup) (answers : AnswersAreSafe r) (f : Func) (c : Context) (h : HeldMap) (ids : Ids) (frame : Frame) (w : World)
    (g : Func) (keys : List ℕ) (values : List Value) (target : Option ℕ)
    (host : HasHostHead r.program g) (typed : IsTyped r.program f)
    (typed_callee : IsTyped r.program g) (head : HasHead r.program g) (entered : IsEntered r.program f c) (scoped : IsScoped f c ids)
    (fits : IsCall r.program f g ids keys) (new : IsFreshCall f c g ids keys) (broken : call_target_broken f ids g keys target ≡ [])
    (long : length values ≡ length (map (with_keys keys) (parameters_of g)))
    (agrees : Agrees r.program f c h ids (handed_values (map (with_keys keys) (parameters_of g)) values) frame w.objects)
    (pass : CanPass (clause_rows r.program f keys g.clause) h)
    (rows : CanPass (target_rows f target) (map_after (clause_rows r.program f keys g.clause) h)) where
  abbrev goal : Goal
  goal = goes_to r.program f c (map_after (target_rows f target) (map_after (clause_rows r.program f keys g.clause) h)) (with_call_target f (Some g) target ids) []

  mine : HoldsAll keys frame w.objects g.clause
  mine = holds agrees g keys fits typed.limited entered.flat pass

  abbrev types : List Ty
  types = map (with_keys keys) (parameters_of g)

  -- the arguments say what the keys of references name
  params_named : {os : List Object} → Agrees r.program f c h ids (handed_values (map (with_keys keys) (parameters_of g)) values) frame os →
      AreNamed g keys frame
  params_named {os} now k is =
      named_handed r.program (scene c os now.heads) frame.keys keys (parameters_of g) values long now.handed k
      (in_has k (tracked_keys g) is)

  -- what the host takes goes out
  following : (numbers : List ℤ) (w2 : World) → w2.objects ≡ w.objects →
      Safe goal (with_moved (is_at frame.depth) out (taken_objects keys frame g.clause) w2 (λ w.
      with_moved is_loose out (flat_map objects_in values) w (λ w. answer_step r.heap r.program f target keys g numbers frame w)))
  following numbers w2 same =
      let all : HoldsAll keys frame w2.objects g.clause = subst (λ os. HoldsAll keys frame os g.clause) (sym same) mine in
      let now : Agrees r.program f c h ids (handed_values types values) frame w2.objects =
      subst (Agrees r.program f c h ids (handed_values types values) frame) (sym same) agrees in
      let first : IsMoved (is_at frame.depth) out (taken_objects keys frame g.clause) w2.objects =
      moved_all (is_at frame.depth) out (taken_objects keys frame g.clause) w2.objects
      (taken_once keys frame w2.objects g.clause fits.callers all) (taken_passes keys frame w2.objects g.clause all) in
      let these : values_of (handed_values types values) ≡ flat_map objects_in values = handed_objects types values long in
      let moved2 : IsMoved is_loose out (values_of (handed_values types values)) first.objects =
      moved_all is_loose out (values_of (handed_values types values)) first.objects (now.placed.once in_hand)
      (hand_passes now keys g.clause all first) in
      moved_safe goal (is_at frame.depth) out (taken_objects keys frame g.clause) w2 _ first
      (subst (λ ns. Safe goal (with_moved is_loose out ns (with_objects w2 first.objects) (λ w. answer_step r.heap r.program f target keys g numbers frame w)))
      these
      (moved_safe goal is_loose out (values_of (handed_values types values)) (with_objects w2 first.objects) _ moved2
      (answers.each f c h ids frame (with_objects (with_objects w2 first.objects) moved2.objects) g keys numbers target host typed
      typed_callee head entered scoped fits new broken (agrees_out now keys g fits.callers all first moved2) (params_named now) pass rows)))

  -- so do those of the keys that an answer can bring back
  awaited : AreFound keys frame (awaited_keys r.program g)
  awaited = all_awaited r.program g keys host fits frame (params_named agrees)

  external_safe : Safe goal (call_external r.heap r.program f target keys g values frame w)
  unfolding call_external
  external_safe =
      let ok = all_passed keys frame w.objects r.program g g.clause mine (λ e j b x. (passes_states agrees g keys fits typed.limited entered.flat pass e j b x).0) in
      found_safe goal (passed_objects r.program g keys frame w.objects g.clause) ok.0 w _ ok.1
      (found_safe goal (named_objects keys frame (awaited_keys r.program g)) awaited.0 w _ awaited.1
      (answer_safe goal (with_event w (called g.name values)) _ following))

pub externals_are_safe : (r : Setup) → AnswersAreSafe r → ExternalsAreSafe r
externals_are_safe r answers = record {
  each = λ f c h ids frame w g keys values target host typed typed_callee head entered scoped fits new broken long agrees pass rows.
      external_safe r answers f c h ids frame w g keys values target host typed typed_callee head entered scoped fits new broken long agrees pass rows;
}
