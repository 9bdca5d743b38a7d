-- After a call a reference in scope is what its key names, where the callee gives back what its keys named.
use Rattle.std.proofs.Common.{◌≡◌, ℕ, ◌==◌, ◌||◌, Bool, true, false, if◌then◌else◌, ℤ, List, [], ◌∷◌, map, filter, Option, Some, None, slice_get, Ok, Err, refl, sym, ap, ◌∙◌, subst, inr}
use Rattle.std.proofs.lemmas.Bool.{false≢true, eqb-true}
use Rattle.std.proofs.lemmas.Option.{none-some, same_Some}
use Rattle.std.specs.List.{list_any}
use Rattle.std.specs.Option.{option_map}
use Rattle.vlt_core.specs.Core as core
use Rattle.vlt_core.specs.Core.{Ty, tracked, Operand, Entry, Func, Program}
use Rattle.vlt_core.specs.Lookups.{Reference, reference_of, tracked_in, var_type, is_new, is_held_after, is_fresh, is_after}
use Rattle.vlt_core.specs.Types.{keys_of_ty, same_ty, with_keys, stands_for}
use Rattle.vlt_core.specs.KindedHeads.{has, new_keys, keys_of_parameters, keys_of_result}
use Rattle.vlt_core.specs.KindedScopes.{Ids}
use Rattle.vlt_core.specs.KindedCalls.{is_fresh_call, with_call_target}
use Rattle.vlt_core.specs.KindedBodies.{first_ids}
use Rattle.vlt_meaning.specs.World.{Value, one, reference, World, Frame}
use Rattle.vlt_meaning.specs.World as source
use Rattle.vlt_meaning.specs.Found.{Found, or_fault}
use Rattle.vlt_meaning.specs.Step as step
use Rattle.vlt_meaning.specs.Step.{Step}
use Rattle.vlt_meaning.specs.Calls as calls
use Rattle.vlt_meaning.specs.Calls.{entries_after, callee_key, callee_frame, Binding, binding, bindings, with_names}
use Rattle.vlt_meaning.specs.HostAnswers as host
use Rattle.vlt_meaning.specs.HostAnswers.{Answer, answer_of, if_last, then_reads, reads, result_read}
use Rattle.vlt_meaning.specs.Externals as ext
use Rattle.vlt_meaning.specs.Externals.{new_key, fitting, Fitting, or_bad}
use Rattle.vlt_core_laws.proofs.Ids.{not_both, was_not}
use Rattle.vlt_core_laws.proofs.Binding.{has_first}
use Rattle.c_lower_worlds.specs.Naming.Lists.{Each}
use Rattle.c_lower_worlds.specs.Naming.Naming.{IsOfKey, IsInScope, Arrives, IsReturned, Promise}
use Rattle.c_lower_worlds.proofs.OfNaming.KnownScopes.{AreRanged}
use Rattle.c_lower_worlds.proofs.OfNaming.FrameNaming.{names_keys, names_set}
use Rattle.c_lower_worlds.proofs.OfNaming.HeadKeys.{IsHeaded, is_new_same, some_new, new_some, each_filtered}
use Rattle.c_lower_worlds.proofs.OfNaming.NamedOperands.{Emptied, same_tracked}
use Rattle.c_lower_worlds.proofs.OfNaming.NamedSimple.{IsPlain, plain_arrives, same_arrives, fresh_arrives, fresh_key}
use Rattle.c_lower_worlds.proofs.OfNaming.NamedCalls.{IsTargetOf, IsKnownCall, old_key, names_kept, names_new, names_vars, call_adds}
use Rattle.c_lower_worlds.proofs.OfNaming.StepPromises.{found_holds, so_holds, moved_holds, made_holds, answer_holds, pieces_hold}
use Rattle.c_lower_worlds.proofs.OfNaming.FoundObjects.{or_fault_ok, ok_same, err_ok, then_ok}

-- ---- entries

fresh_after : (e : Entry) → is_new e ≡ true → is_held_after e ≡ true
fresh_after e h = by e.mode h
  where
    by : (m : core.Mode) → is_fresh m ≡ true → is_after m ≡ true
    by core.kept h = refl
    by core.taken h = absurd (false≢true h)
    by core.given h = refl
    by core.fresh h = refl
    by (core.up_to b) h = refl

any_after : (es : List Entry) → list_any is_new es ≡ true → list_any is_new (filter is_held_after es) ≡ true
any_after [] h = h
any_after (e ∷ es) h = by (is_new e) refl (is_held_after e) refl h (λ h. any_after es h)
  where
    by : (b : Bool) → is_new e ≡ b → (c : Bool) → is_held_after e ≡ c → (b || list_any is_new es) ≡ true → (list_any is_new es ≡ true → list_any is_new (filter is_held_after es) ≡ true) →
        list_any is_new (if c then e ∷ filter is_held_after es else filter is_held_after es) ≡ true
    by true n true q h more = ap (λ b. b || list_any is_new (filter is_held_after es)) n
    by true n false q h more = absurd (false≢true (sym q ∙ fresh_after e n))
    by false n true q h more = ap (λ b. b || list_any is_new (filter is_held_after es)) n ∙ more h
    by false n false q h more = more h

none_after : (es : List Entry) → list_any is_new es ≡ false → Each (λ (e : Entry). is_new e ≡ false) es
none_after [] h = tt
none_after (e ∷ es) h = (or_first (is_new e) (list_any is_new es) h, none_after es (or_last (is_new e) (list_any is_new es) h))
  where
    or_first : (a b : Bool) → (a || b) ≡ false → a ≡ false
    or_first true b e = e
    or_first false b e = refl

    or_last : (a b : Bool) → (a || b) ≡ false → b ≡ false
    or_last true b e = not_both true refl e
    or_last false b e = e

each_to : (P Q : Entry → Type 0) (es : List Entry) → ((e : Entry) → P e → Q e) → Each P es → Each Q es
each_to P Q [] go h = tt
each_to P Q (e ∷ es) go h = (go e h.0, each_to P Q es go h.1)

key_none : (keys : List ℕ) (es : List Entry) (states : List ℕ) → Each (λ (e : Entry). is_new e ≡ false) es → new_key keys es states ≡ None
key_none keys [] states h = refl
key_none keys (e ∷ es) [] h = refl
key_none keys (e ∷ es) (s ∷ states) h = ap (λ (b : Bool). if b then option_map (binding s) (slice_get keys e.key) else new_key keys es states) h.0 ∙ key_none keys es states h.1

key_some : (keys : List ℕ) (es : List Entry) (states : List ℕ) (k : ℕ) (b : Binding) → Each (λ (e : Entry). is_new e ≡ true → slice_get keys e.key ≡ Some k) es → new_key keys es states ≡ Some b → b.key ≡ k
key_some keys [] states k b h e = absurd (none-some b e)
key_some keys (x ∷ es) [] k b h e = absurd (none-some b e)
key_some keys (x ∷ es) (s ∷ states) k b h e = by (is_new x) refl e (λ e. key_some keys es states k b h.1 e)
  where
    by : (c : Bool) → is_new x ≡ c → (if c then option_map (binding s) (slice_get keys x.key) else new_key keys es states) ≡ Some b → (new_key keys es states ≡ Some b → b.key ≡ k) → b.key ≡ k
    by true n e more = sym (ap (λ (b : Binding). b.key) (same_Some (binding s k) b (sym (ap (option_map (binding s)) (h.0 n)) ∙ e)))
    by false n e more = more e

-- ---- answers

no_answer : (p : Program) (g : Func) (k t : ℕ) (args : List ℕ) (zs : List ℤ) (a : Answer) → g.result ≡ Some (tracked k t args) → answer_of p g zs ≡ Some a → a.result ≡ host.nothing
no_answer p g k t args zs a r e =
    by (host.each (λ e. host.state_in (Rattle.vlt_core.specs.Lookups.after_set p g e)) (entries_after g) zs)
    (subst (λ o. if_last (then_reads (λ states zs. then_reads (λ r. reads (record { states = states; result = r })) (result_read p o zs)) (host.each (λ e. host.state_in (Rattle.vlt_core.specs.Lookups.after_set p g e)) (entries_after g) zs)) ≡ Some a) r e)
  where
    last : (states : List ℕ) (rest : List ℤ) → if_last (Some ((let x : Answer = record { states = states; result = host.nothing } in x), rest)) ≡ Some a → a.result ≡ host.nothing
    last states [] e = sym (ap (λ (a : Answer). a.result) (same_Some (record { states = states; result = host.nothing }) a e))
    last states (z ∷ rest) e = absurd (none-some a e)

    by : (o : Option (List ℕ × List ℤ)) → if_last (then_reads (λ states zs. then_reads (λ r. reads (record { states = states; result = r })) (result_read p (Some (tracked k t args)) zs)) o) ≡ Some a → a.result ≡ host.nothing
    by None e = absurd (none-some a e)
    by (Some (states, rest)) e = last states rest e

fitted : {A : Type 0} (position : ℕ) (a : Found A) (x : A) → or_bad position a ≡ Ok x → a ≡ Ok x
fitted position (Ok a) x e = e
fitted position (Err o) x e = absurd (err_ok (source.bad_answer position) x e)

fitting_answer : (p : Program) (g : Func) (keys : List ℕ) (s : Frame) (zs : List ℤ) (objects : List source.Object) (q : Fitting) → fitting p g keys s zs objects ≡ Ok q → answer_of p g zs ≡ Some q.answer
fitting_answer p g keys s zs objects q e =
    let a = then_ok (or_fault source.missing (answer_of p g zs)) _ q e in
    let b = then_ok (ext.come_back keys s g.clause objects) _ q a.second in
    let c = then_ok (Rattle.vlt_meaning.specs.Objects.objects_after_move source.is_out source.loose (ext.case_objects p g keys s a.found.result) b.found) _ q b.second in
    or_fault_ok source.missing (answer_of p g zs) a.found a.first ∙ ap (λ (q : Fitting). Some q.answer) (ok_same (record { answer = a.found; objects = c.found }) q c.second)

module _ (P : Step → Type 0) (over : (o : source.Outcome) (w : World) → P (step.ends o w)) where
  -- a result without a new key
  plain_result : (heap : ℕ) (p : Program) (g : Func) (keys states : List ℕ) (r : host.Result) (s : Frame) (w : World) (go : Option Value → Frame → World → Step) → new_key keys (entries_after g) states ≡ None →
      ((a : Option Value) (v : World) → P (go a s v)) → P (ext.with_result heap p g keys states r s w go)
  unfolding ext.with_result ext.with_fresh
  plain_result heap p g keys states host.nothing s w go none t = rw none (t None w)
  plain_result heap p g keys states (host.piece (host.plain z)) s w go none t = t _ w
  plain_result heap p g keys states (host.piece (host.new_in st)) s w go none t = made_holds P over heap _ w _ (λ n v. t _ v)
  plain_result heap p g keys states (host.case_with c ss pieces) s w go none t = found_holds P over _ w _ (λ v e. pieces_hold P over heap _ pieces w _ (λ parts u. t _ u))

  -- a reference, for which an object is made
  fresh_result : (heap : ℕ) (p : Program) (g : Func) (keys states : List ℕ) (s : Frame) (w : World) (go : Option Value → Frame → World → Step) →
      ((v : World) → P (go None s v)) → ((b : Binding) (n : ℕ) (v : World) → new_key keys (entries_after g) states ≡ Some b → P (go (Some (one (reference n))) (step.with_key b.key n s) v)) →
      P (ext.with_result heap p g keys states host.nothing s w go)
  unfolding ext.with_result ext.with_fresh
  fresh_result heap p g keys states s w go none t = by (new_key keys (entries_after g) states) refl
    where
      by : (o : Option Binding) → new_key keys (entries_after g) states ≡ o → P (ext.with_fresh heap (ext.type_in g.result) o s w go)
      by None e = none w
      by (Some b) e = made_holds P over heap _ w _ (λ n v. t b n v e)

module _ (p : Program) (f : Func) (ranged : AreRanged f) (ids : Ids) (g : Func) (head : IsHeaded g) (keys : List ℕ) (os : List Operand) where
  abbrev AnyKey : ℕ → Type 0
  AnyKey k = Unit {0}

  abbrev ButKey : ℕ → ℕ → Type 0
  ButKey j k = (k == j) ≡ false

  -- the key of a fresh result
  record IsFreshTarget (v : ℕ) : Type 0 where
    reference : Reference
    refers : reference_of f v ≡ Some reference
    fresh : has ids.keys_ever reference.key ≡ false
    news : Each (λ (e : Entry). is_new e ≡ true → slice_get keys e.key ≡ Some reference.key) (entries_after g)

  fresh_target : (v : ℕ) (target : Option ℕ) → IsKnownCall p f ids g target keys os → is_fresh_call g ≡ true → IsTargetOf f ids g keys v → IsFreshTarget v
  fresh_target v target call fresh aimed =
      let kn = new_some g.clause fresh in
      let r = head.result kn.0 kn.1 in
      let same : same_ty (tracked (stands_for keys kn.0) r.type (map (stands_for keys) r.args)) aimed.ty ≡ true =
      subst (λ w. same_ty (with_keys keys w) aimed.ty ≡ true) (same_Some aimed.given (tracked kn.0 r.type r.args) (sym aimed.result ∙ r.is)) aimed.same in
      let ty = same_tracked (stands_for keys kn.0) r.type (map (stands_for keys) r.args) aimed.ty same in
      let q : Reference = record { key = stands_for keys kn.0; type = ty.type } in
      let refers : reference_of f v ≡ Some q = ap tracked_in (aimed.declared ∙ ap (λ ty. Some ty) ty.is) in
      record {
        reference = q;
        refers = refers;
        fresh = fresh_key f ranged ids v q refers (aimed.binds fresh);
        news = each_filtered (λ (e : Entry). is_new e ≡ true → slice_get keys e.key ≡ Some (stands_for keys kn.0)) is_held_after g.clause
            (each_to (λ (e : Entry). is_new e ≡ true → has (new_keys g) e.key ≡ true) (λ (e : Entry). is_new e ≡ true → slice_get keys e.key ≡ Some (stands_for keys kn.0)) g.clause
            (λ e h n.
            let o = head.result e.key (h n) in
            let k = own_same e.key kn.0 o.type r.type o.args r.args (same_Some (tracked e.key o.type o.args) (tracked kn.0 r.type r.args) (sym o.is ∙ r.is)) in
            call.listed e.key (Rattle.vlt_core_laws.proofs.Headed.has_right (keys_of_parameters g) (new_keys g) e.key (h n)) ∙ ap (λ k. Some (stands_for keys k)) k) head.new);
      }
    where
      own_same : (j k t u : ℕ) (args others : List ℕ) → tracked j t args ≡ tracked k u others → j ≡ k
      own_same j k t u args others e = cc

  -- keys that were bound aren't the fresh one
  but_fresh : (j k : ℕ) → has ids.keys_ever j ≡ false → has ids.keys_ever k ≡ true → (k == j) ≡ false
  but_fresh j k fresh i = by (k == j) refl
    where
      by : (b : Bool) → (k == j) ≡ b → b ≡ false
      by true q = not_both (has ids.keys_ever j) (subst (λ k. has ids.keys_ever k ≡ true) (eqb-true k j q) i) fresh
      by false q = refl

  but_back : (j k : ℕ) → has ids.keys_ever j ≡ false → has ids.keys_ever k ≡ true → (j == k) ≡ false
  but_back j k fresh i = by (j == k) refl
    where
      by : (b : Bool) → (j == k) ≡ b → b ≡ false
      by true q = not_both (has ids.keys_ever j) (subst (λ k. has ids.keys_ever k ≡ true) (sym (eqb-true j k q)) i) fresh
      by false q = refl

  -- a call without a new key
  not_fresh : is_fresh_call g ≡ false → Each (λ (e : Entry). is_new e ≡ false) (entries_after g)
  not_fresh e = each_filtered (λ (e : Entry). is_new e ≡ false) is_held_after g.clause (none_after g.clause e)

  old_result : is_fresh_call g ≡ false → (k : ℕ) → has (new_keys g) k ≡ false
  old_result e k = was_not (has (new_keys g) k) (is_fresh_call g) (λ m. some_new g.clause k m) e

  -- ---- a function with a body

  back_plain : (target : Option ℕ) (s s2 : Frame) (a : Option Value) (kept : List ℕ) → IsKnownCall p f ids g target keys os → is_fresh_call g ≡ false → IsInScope f ids s → Emptied s s2 → IsReturned g (callee_key g keys s2) a kept →
      Arrives f ids ids.vars s (with_names (bindings keys (entries_after g) kept) s2)
  back_plain target s s2 a kept call none h em r =
      let same : (k : ℕ) → (with_names (bindings keys (entries_after g) kept) s2).keys k ≡ s2.keys k =
      λ k. names_kept g keys s2 AnyKey a (entries_after g) kept s2 r.entries
      (each_to (λ (e : Entry). is_new e ≡ false) (λ (e : Entry). is_new e ≡ true → (j k : ℕ) → slice_get keys e.key ≡ Some j → AnyKey k → (k == j) ≡ false) (entries_after g)
      (λ e old new j k at x. not_both (is_new e) new old) (not_fresh none)) (λ k x. refl) k tt in
      let kept_keys : (k : ℕ) → has ids.keys_ever k ≡ true → (with_names (bindings keys (entries_after g) kept) s2).keys k ≡ s.keys k =
      λ k i. same k ∙ ap (λ (keys : ℕ → Option ℕ). keys k) em.keys in
      record {
        names = names_keys f ids ids.vars s (with_names (bindings keys (entries_after g) kept) s2) h.known (λ v i. i)
            (λ v b e. em.vars v b (sym (ap (λ (vars : ℕ → Option Value). vars v) (names_vars (bindings keys (entries_after g) kept) s2)) ∙ e)) kept_keys h.names;
        kept = kept_keys;
      }

  -- the target of a function without a new key
  old_value : (target : Option ℕ) (v : ℕ) (s2 : Frame) (a : Option Value) (kept : List ℕ) (b : Value) → IsKnownCall p f ids g target keys os → is_fresh_call g ≡ false → IsTargetOf f ids g keys v → IsReturned g (callee_key g keys s2) a kept →
      a ≡ Some b → (k t : ℕ) (args : List ℕ) → var_type f v ≡ Some (tracked k t args) → IsOfKey s2.keys k b
  old_value target v s2 a kept b call none aimed r there k t args ty =
      by aimed.given aimed.result (subst (λ u. same_ty (with_keys keys aimed.given) u ≡ true) (same_Some aimed.ty (tracked k t args) (sym aimed.declared ∙ ty)) aimed.same)
    where
      keys_are : (w : Ty) → g.result ≡ Some w → keys_of_result g ≡ keys_of_ty w
      keys_are w q = rw q refl

      by : (w : Ty) → g.result ≡ Some w → same_ty (with_keys keys w) (tracked k t args) ≡ true → IsOfKey s2.keys k b
      by (tracked j u others) q e =
          let x = r.result j u others q (old_result none j) b there in
          let l = call.listed j (head.given j (subst (λ ks. has ks j ≡ true) (sym (keys_are (tracked j u others) q)) (has_first j others))) in
          let o = old_key g keys s2 AnyKey a j x.number (Some (stands_for keys j)) l x.named in
          let ty2 = same_tracked (stands_for keys j) u (map (stands_for keys) others) (tracked k t args) e in
          record {
            number = x.number;
            is = x.is;
            named = ap s2.keys (own_same k (stands_for keys j) t ty2.type args ty2.args ty2.is ∙ same_Some (stands_for keys j) o.0 o.1) ∙ o.2;
          }
        where
          own_same : (j k t u : ℕ) (args others : List ℕ) → tracked j t args ≡ tracked k u others → j ≡ k
          own_same j k t u args others e = cc
      by core.int q e = absurd (false≢true e)
      by core.bool q e = absurd (false≢true e)
      by (core.owning st u others) q e = absurd (false≢true e)
      by (core.guarded j u others) q e = absurd (false≢true e)
      by (core.variant u others) q e = absurd (false≢true e)
      by (core.owning_variant u others) q e = absurd (false≢true e)

  back_fresh : (v : ℕ) (s s2 : Frame) (a : Option Value) (kept : List ℕ) (b : Value) → IsKnownCall p f ids g (Some v) keys os → is_fresh_call g ≡ true → IsInScope f ids s → Emptied s s2 → IsReturned g (callee_key g keys s2) a kept →
      a ≡ Some b → Arrives f ids (with_call_target f (Some g) (Some v) ids).vars s (step.with_var v (Some b) (with_names (bindings keys (entries_after g) kept) s2))
  back_fresh v s s2 a kept b call fresh h em r there =
      let t = fresh_target v (Some v) call fresh call.aimed in
      let j = t.reference.key in
      let c = with_names (bindings keys (entries_after g) kept) s2 in
      let same : (k : ℕ) → ButKey j k → c.keys k ≡ s2.keys k =
      names_kept g keys s2 (ButKey j) a (entries_after g) kept s2 r.entries
      (each_to (λ (e : Entry). is_new e ≡ true → slice_get keys e.key ≡ Some j) (λ (e : Entry). is_new e ≡ true → (i k : ℕ) → slice_get keys e.key ≡ Some i → ButKey j k → (k == i) ≡ false) (entries_after g)
      (λ e h new i k at x. subst (λ i. (k == i) ≡ false) (same_Some j i (sym (h new) ∙ at)) x) t.news) (λ k x. refl) in
      let kept_keys : (k : ℕ) → has ids.keys_ever k ≡ true → c.keys k ≡ s.keys k = λ k i. same k (but_fresh j k t.fresh i) ∙ ap (λ (keys : ℕ → Option ℕ). keys k) em.keys in
      let new = names_new g keys s2 (ButKey j) a j (entries_after g) kept s2 r.entries t.news
      (λ e i at old. but_back j i t.fresh (h.known.ever i (call.scoped e i at (sym (is_new_same g e) ∙ old)))) (inr (any_after g.clause fresh)) in
      record {
        names = names_set f ids.vars (with_call_target f (Some g) (Some v) ids).vars c v b (call_adds f g v ids)
            (λ k u args ty. record {
              number = new.number;
              is = same_Some b (one (reference new.number)) (sym there ∙ new.is);
              named = ap c.keys (own_key_same k u args t.reference ty t.refers) ∙ new.named;
            })
            (names_keys f ids ids.vars s c h.known (λ v i. i) (λ v b e. em.vars v b (sym (ap (λ (vars : ℕ → Option Value). vars v) (names_vars (bindings keys (entries_after g) kept) s2)) ∙ e)) kept_keys h.names);
        kept = kept_keys;
      }
    where
      own_key_same : (k u : ℕ) (args : List ℕ) (q : Reference) → var_type f v ≡ Some (tracked k u args) → reference_of f v ≡ Some q → k ≡ q.key
      own_key_same k u args q ty refers = ap (λ (q : Reference). q.key) (same_Some (record { key = k; type = u }) q (sym (ap tracked_in ty) ∙ refers))

  pub back_named : (target : Option ℕ) (values : List Value) (s s2 : Frame) (following : List ℕ) (st : Step) → IsKnownCall p f ids g target keys os → IsInScope f ids s → Emptied s s2 →
      Promise g (first_ids p g) following (callee_frame g keys values s2) st → Promise f ids (with_call_target f (Some g) target ids).vars s (calls.back_in f target keys g s2 st)
  unfolding calls.back_in step.deliver step.fill
  back_named target values s s2 following (step.ends o w) call h em r = tt
  back_named target values s s2 following (step.goes fr w) call h em r = tt
  back_named target values s s2 following (step.jumps c fr w) call h em r = tt
  back_named None values s s2 following (step.leaves a kept w) call h em r = back_plain None s s2 a kept call call.aimed h em r
  back_named (Some v) values s s2 following (step.leaves a kept w) call h em r =
      found_holds (Promise f ids (with_call_target f (Some g) (Some v) ids).vars s) (λ o w. tt) (or_fault source.no_value a) _ _ (λ b e.
      so_holds (Promise f ids (with_call_target f (Some g) (Some v) ids).vars s) (λ o w. tt) _ _ _ _ _ (λ e2.
      by b (or_fault_ok source.no_value a b e) (is_fresh_call g) refl))
    where
      by : (b : Value) → a ≡ Some b → (fresh : Bool) → is_fresh_call g ≡ fresh → Arrives f ids (with_call_target f (Some g) (Some v) ids).vars s (step.with_var v (Some b) (with_names (bindings keys (entries_after g) kept) s2))
      by b there true fresh = back_fresh v s s2 a kept b call fresh h em r there
      by b there false none =
          let back = back_plain (Some v) s s2 a kept call none h em r in
          let same : (k : ℕ) → (with_names (bindings keys (entries_after g) kept) s2).keys k ≡ s2.keys k =
          λ k. names_kept g keys s2 AnyKey a (entries_after g) kept s2 r.entries
          (each_to (λ (e : Entry). is_new e ≡ false) (λ (e : Entry). is_new e ≡ true → (j k : ℕ) → slice_get keys e.key ≡ Some j → AnyKey k → (k == j) ≡ false) (entries_after g)
          (λ e old new j k at x. not_both (is_new e) new old) (not_fresh none)) (λ k x. refl) k tt in
          record {
            names = names_set f ids.vars (with_call_target f (Some g) (Some v) ids).vars (with_names (bindings keys (entries_after g) kept) s2) v b (call_adds f g v ids)
                (λ k t args ty. let o = old_value (Some v) v s2 a kept b call none call.aimed r there k t args ty in record { number = o.number; is = o.is; named = same k ∙ o.named }) back.names;
            kept = back.kept;
          }

  -- ---- an external

  pub external_named : (heap : ℕ) (target : Option ℕ) (values : List Value) (s s2 : Frame) (w : World) → IsKnownCall p f ids g target keys os → IsInScope f ids s → Emptied s s2 →
      Promise f ids (with_call_target f (Some g) target ids).vars s (ext.call_external heap p f target keys g values s2 w)
  unfolding ext.call_external step.deliver step.fill
  external_named heap target values s s2 w call h em =
      found_holds (Promise f ids (with_call_target f (Some g) target ids).vars s) (λ o w. tt) _ w _ (λ ns e.
      found_holds (Promise f ids (with_call_target f (Some g) target ids).vars s) (λ o w. tt) _ w _ (λ ms there.
      answer_holds (Promise f ids (with_call_target f (Some g) target ids).vars s) (λ o w. tt) _ _ (λ zs w2.
      moved_holds (Promise f ids (with_call_target f (Some g) target ids).vars s) (λ o w. tt) _ _ _ w2 _ (λ w3.
      moved_holds (Promise f ids (with_call_target f (Some g) target ids).vars s) (λ o w. tt) _ _ _ w3 _ (λ w4.
      found_holds (Promise f ids (with_call_target f (Some g) target ids).vars s) (λ o w. tt) (or_bad w4.taken (fitting p g keys s2 zs w4.objects)) w4 _ (λ q e2.
      by zs q (fitting_answer p g keys s2 zs w4.objects q (fitted w4.taken (fitting p g keys s2 zs w4.objects) q e2)) _ target call))))))
    where
      -- a value for a variable that is no reference
      plain_value : (v : ℕ) → IsPlain f v → (a : Option Value) (w : World) → Promise f ids (with_call_target f (Some g) (Some v) ids).vars s (step.deliver f (Some v) a s2 w)
      plain_value v plain a w =
          found_holds (Promise f ids (with_call_target f (Some g) (Some v) ids).vars s) (λ o w. tt) (or_fault source.no_value a) w _ (λ b e.
          so_holds (Promise f ids (with_call_target f (Some g) (Some v) ids).vars s) (λ o w. tt) _ _ _ w _ (λ e2.
          plain_arrives f ids s (with_call_target f (Some g) (Some v) ids).vars s2 v b em (call_adds f g v ids) plain h.names))

      no_value : (v : ℕ) (w : World) → Promise f ids (with_call_target f (Some g) (Some v) ids).vars s (step.deliver f (Some v) None s2 w)
      no_value v w = found_holds (Promise f ids (with_call_target f (Some g) (Some v) ids).vars s) (λ o w. tt) (or_fault source.no_value None) w _ (λ b e. absurd (none-some b (or_fault_ok source.no_value None b e)))

      fresh_value : (v : ℕ) (t : IsFreshTarget v) (k n : ℕ) (w : World) → k ≡ t.reference.key → Promise f ids (with_call_target f (Some g) (Some v) ids).vars s (step.deliver f (Some v) (Some (one (reference n))) (step.with_key k n s2) w)
      fresh_value v t k n w same =
          found_holds (Promise f ids (with_call_target f (Some g) (Some v) ids).vars s) (λ o w. tt) (or_fault source.no_value (Some (one (reference n)))) w _ (λ b e.
          so_holds (Promise f ids (with_call_target f (Some g) (Some v) ids).vars s) (λ o w. tt) _ _ _ w _ (λ e2.
          subst (λ b. Arrives f ids (with_call_target f (Some g) (Some v) ids).vars s (step.with_var v (Some b) (step.with_key k n s2))) (same_Some (one (reference n)) b (or_fault_ok source.no_value (Some (one (reference n))) b e))
          (subst (λ k. Arrives f ids (with_call_target f (Some g) (Some v) ids).vars s (step.with_var v (Some (one (reference n))) (step.with_key k n s2))) (sym same)
          (fresh_arrives f ids s (with_call_target f (Some g) (Some v) ids).vars s2 v t.reference n em (call_adds f g v ids) t.refers t.fresh h))))

      by : (zs : List ℤ) (q : Fitting) → answer_of p g zs ≡ Some q.answer → (w : World) (target : Option ℕ) → IsKnownCall p f ids g target keys os →
          Promise f ids (with_call_target f (Some g) target ids).vars s (ext.with_result heap p g keys q.answer.states q.answer.result s2 w (step.deliver f target))
      by zs q e w None call =
          plain_result (Promise f ids ids.vars s) (λ o w. tt) heap p g keys q.answer.states q.answer.result s2 w (step.deliver f None) (key_none keys (entries_after g) q.answer.states (not_fresh call.aimed))
          (λ a v. same_arrives f ids s s2 em h.names)
      by zs q e w (Some v) call = by_fresh (is_fresh_call g) refl
        where
          nothing_so : (k t : ℕ) (args : List ℕ) → g.result ≡ Some (tracked k t args) →
              Promise f ids (with_call_target f (Some g) (Some v) ids).vars s (ext.with_result heap p g keys q.answer.states host.nothing s2 w (step.deliver f (Some v))) →
              Promise f ids (with_call_target f (Some g) (Some v) ids).vars s (ext.with_result heap p g keys q.answer.states q.answer.result s2 w (step.deliver f (Some v)))
          nothing_so k t args r x =
              subst (λ r. Promise f ids (with_call_target f (Some g) (Some v) ids).vars s (ext.with_result heap p g keys q.answer.states r s2 w (step.deliver f (Some v)))) (sym (no_answer p g k t args zs q.answer r e)) x

          by_type : is_fresh_call g ≡ false → (u : Ty) → call.aimed.given ≡ u →
              Promise f ids (with_call_target f (Some g) (Some v) ids).vars s (ext.with_result heap p g keys q.answer.states q.answer.result s2 w (step.deliver f (Some v)))
          by_type none u same = by_u u same
            where
              keyless : new_key keys (entries_after g) q.answer.states ≡ None
              keyless = key_none keys (entries_after g) q.answer.states (not_fresh none)

              other : ((k t : ℕ) (args : List ℕ) → same_ty (with_keys keys call.aimed.given) (tracked k t args) ≡ true → ⊥) →
                  Promise f ids (with_call_target f (Some g) (Some v) ids).vars s (ext.with_result heap p g keys q.answer.states q.answer.result s2 w (step.deliver f (Some v)))
              other never =
                  plain_result (Promise f ids (with_call_target f (Some g) (Some v) ids).vars s) (λ o w. tt) heap p g keys q.answer.states q.answer.result s2 w (step.deliver f (Some v)) keyless
                  (plain_value v (λ k t args ty. never k t args (subst (λ u. same_ty (with_keys keys call.aimed.given) u ≡ true) (same_Some call.aimed.ty (tracked k t args) (sym call.aimed.declared ∙ ty)) call.aimed.same)))

              by_u : (u : Ty) → call.aimed.given ≡ u → Promise f ids (with_call_target f (Some g) (Some v) ids).vars s (ext.with_result heap p g keys q.answer.states q.answer.result s2 w (step.deliver f (Some v)))
              by_u (tracked j t others) same =
                  nothing_so j t others (call.aimed.result ∙ ap (λ u. Some u) same)
                  (fresh_result (Promise f ids (with_call_target f (Some g) (Some v) ids).vars s) (λ o w. tt) heap p g keys q.answer.states s2 w (step.deliver f (Some v)) (no_value v)
                  (λ b n w2 there. absurd (none-some b (sym keyless ∙ there))))
              by_u core.int same = other (λ k t args m. false≢true (subst (λ u. same_ty (with_keys keys u) (tracked k t args) ≡ true) same m))
              by_u core.bool same = other (λ k t args m. false≢true (subst (λ u. same_ty (with_keys keys u) (tracked k t args) ≡ true) same m))
              by_u (core.owning st j others) same = other (λ k t args m. false≢true (subst (λ u. same_ty (with_keys keys u) (tracked k t args) ≡ true) same m))
              by_u (core.guarded i j others) same = other (λ k t args m. false≢true (subst (λ u. same_ty (with_keys keys u) (tracked k t args) ≡ true) same m))
              by_u (core.variant j others) same = other (λ k t args m. false≢true (subst (λ u. same_ty (with_keys keys u) (tracked k t args) ≡ true) same m))
              by_u (core.owning_variant j others) same = other (λ k t args m. false≢true (subst (λ u. same_ty (with_keys keys u) (tracked k t args) ≡ true) same m))

          by_fresh : (b : Bool) → is_fresh_call g ≡ b → Promise f ids (with_call_target f (Some g) (Some v) ids).vars s (ext.with_result heap p g keys q.answer.states q.answer.result s2 w (step.deliver f (Some v)))
          by_fresh true fresh =
              let t = fresh_target v (Some v) call fresh call.aimed in
              let kn = new_some g.clause fresh in
              let r = head.result kn.0 kn.1 in
              nothing_so kn.0 r.type r.args r.is
              (fresh_result (Promise f ids (with_call_target f (Some g) (Some v) ids).vars s) (λ o w. tt) heap p g keys q.answer.states s2 w (step.deliver f (Some v)) (no_value v)
              (λ b n w2 there. fresh_value v t b.key n w2 (key_some keys (entries_after g) q.answer.states t.reference.key b t.news there)))
          by_fresh false none = by_type none call.aimed.given refl
