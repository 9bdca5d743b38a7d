-- The keys of a call that is known name objects.
use Rattle.std.proofs.Common.{◌≡◌, ⊎_elim, ℕ, ◌<◌, ◌==◌, nat_lt, Bool, true, false, ◌&&◌, ◌||◌, if◌then◌else◌, List, [], ◌∷◌, ◌++◌, map, filter, length, Option, Some, refl, sym, ap, ◌∙◌, subst, arith, slice_get}
use Rattle.std.proofs.lemmas.Bool.{eqb-true}
use Rattle.std.specs.List.{list_any, list_all, range_with_len}
use Rattle.vlt_core.specs.Core.{Form, call, Operand, Entry, Func, Program}
use Rattle.vlt_core.specs.Kinded.{IsKinded}
use Rattle.vlt_core.specs.Lookups.{is_new}
use Rattle.vlt_core.specs.Types.{stands_for}
use Rattle.vlt_core.specs.KindedHeads.{has, keys_of_parameters, new_keys}
use Rattle.vlt_core.specs.KindedScopes.{Ids}
use Rattle.vlt_core.specs.KindedCalls.{keys_fit, call_broken}
use Rattle.vlt_meaning.specs.World.{Frame, World}
use Rattle.vlt_meaning.specs.Calls.{is_new_key}
use Rattle.vlt_meaning_laws.specs.Machine.Reached.{NamesKeys, NamesItsKeys}
use Rattle.vlt_sound_worlds.proofs.Empty.{both_so}
use Rattle.vlt_sound_calls.specs.Callee.{IsParamKey, IsCall}
use Rattle.vlt_sound_calls.proofs.Parameters.{in_range}
use Rattle.vlt_sound_calls.specs.Meet.{HasFunctions}
use Rattle.vlt_sound_calls.proofs.CallRules.{unbroken_call}
use Rattle.vlt_sound_calls.proofs.Statics.{is_call}
use Rattle.vlt_sound.specs.Sizes.{HasSizes}
use Rattle.vlt_sound.proofs.Functions.{has_functions}
use Rattle.vlt_core_laws.proofs.Ids.{or_split}
use Rattle.vlt_run_laws.specs.Named.{NamesScope}
use Rattle.vlt_run_laws.proofs.Instanced.{typed_of}
use Rattle.vlt_run_laws.specs.Known.{IsKnown, KnowsItsSteps}
use Rattle.vlt_run_laws.proofs.ReachedNaming.{key_names, scope_names}

clash : false ≡ true → ⊥
clash e = cc

-- ---- numbers that a call has

each_of : (test : ℕ → Bool) (xs : List ℕ) (k : ℕ) → list_all test xs ≡ true → has xs k ≡ true → test k ≡ true
each_of test [] k all t = absurd (clash t)
each_of test (x ∷ xs) k all t =
    let both = both_so (test x) (list_all test xs) all in
    ⊎_elim (λ same. sym (ap test (eqb-true x k same)) ∙ both.0) (λ rest. each_of test xs k both.1 rest)
    (or_split (x == k) (has xs k) t)

either_more : (a b c d : Bool) → (b ≡ true → (c || d) ≡ true) → (a || b) ≡ true → ((a || c) || d) ≡ true
either_more true b c d more t = refl
either_more false b c d more t = more t

has_either : (xs ys : List ℕ) (k : ℕ) → has (xs ++ ys) k ≡ true → (has xs k || has ys k) ≡ true
has_either [] ys k t = t
has_either (x ∷ xs) ys k t = either_more (x == k) (has (xs ++ ys) k) (has xs k) (has ys k) (has_either xs ys k) t

new_has : (es : List Entry) (k : ℕ) → has (map (λ e. e.key) (filter is_new es)) k ≡ list_any (λ e. is_new e && e.key == k) es
new_has [] k = refl
new_has (e ∷ es) k = by (is_new e) (new_has es k)
  where
    by : (b : Bool) → has (map (λ e. e.key) (filter is_new es)) k ≡ list_any (λ e. is_new e && e.key == k) es →
        has (map (λ e. e.key) (if b then e ∷ filter is_new es else filter is_new es)) k ≡
        ((b && e.key == k) || list_any (λ e. is_new e && e.key == k) es)
    by true more = ap (λ b. (e.key == k) || b) more
    by false more = more

module _ (p : Program) (f : Func) (ids : Ids) (g : Func) (target : Option ℕ) (keys : List ℕ) (args : List Operand)
    (broken : call_broken p f ids (Some g) target keys args ≡ []) where
  keys_do_fit : keys_fit g keys ≡ true
  keys_do_fit = (unbroken_call p f ids g target keys args broken).fit

  -- a key that a call has, that of a new object aside, is one of the parameters
  param_key : (j : ℕ) → j < length keys → is_new_key g j ≡ false → IsParamKey g j
  param_key j lt old =
      let heads = (both_so (list_all (has (keys_of_parameters g ++ new_keys g)) (range_with_len 0 (length keys))) (list_all (λ k. nat_lt k (length keys)) (keys_of_parameters g ++ new_keys g)) keys_do_fit).0 in
      ⊎_elim (λ param. param) (λ new. absurd (clash (sym old ∙ (sym (new_has g.clause j) ∙ new))))
      (or_split (has (keys_of_parameters g) j) (has (new_keys g) j)
      (has_either (keys_of_parameters g) (new_keys g) j (each_of (has (keys_of_parameters g ++ new_keys g)) (range_with_len 0 (length keys)) j heads (in_range j 0 (length keys) (omega arith) (omega arith)))))

-- ---- calls

module _ (p : Program) (functions : HasFunctions p) {f : Func} (i : ℕ) (g : Func) (at : slice_get p.fns i ≡ Some g)
    (target : Option ℕ) (keys : List ℕ) (args : List Operand) {frame : Frame} {w : World}
    (s : IsKnown p f (call i target keys args) frame w) where
  unbroken : call_broken p f s.ids (Some g) target keys args ≡ []
  unbroken = subst (λ o. call_broken p f s.ids o target keys args ≡ []) at s.kinded.row

  fits : IsCall p f g s.ids keys
  fits =
      let typed = typed_of functions s.position f s.function in
      is_call target keys args (functions.heads i g at) typed s.here.scoped (functions.meet f typed i g at) unbroken

  pub call_names : NamesKeys g keys frame
  call_names j lt old =
      let param = param_key p f s.ids g target keys args unbroken j lt old in
      let q = key_names p f s.agrees s.here.entered s.here.scoped s.head (stands_for keys j) (fits.scoped j param) in
      record { key = stands_for keys j; is = fits.params j param; number = q.number; named = q.named }

pub names_its_keys : (p : Program) → IsKinded p → HasSizes p → KnowsItsSteps p → NamesItsKeys p
names_its_keys p kinded sizes known r c g keys frame same reached at =
    call_names p (has_functions p kinded sizes) at.position g at.callee at.target keys at.args
    (known r c (call at.position at.target keys at.args) frame at.world same reached at.before)

pub scope_is_named : (p : Program) (f : Func) (form : Form) (frame : Frame) (w : World) → (s : IsKnown p f form frame w) → NamesScope f s.ids frame
scope_is_named p f form frame w s = scope_names p f s.agrees s.here.entered s.here.scoped s.head
