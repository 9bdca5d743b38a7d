-- Statements without blocks keep it that a reference in scope is what its key names.
use Rattle.std.proofs.Common.{◌≡◌, ℕ, ◌==◌, nat_lt, not, Bool, true, false, if◌then◌else◌, List, [], ◌∷◌, ◌++◌, map, filter, length, Option, Some, None, slice_get, refl, sym, ap, ◌∙◌, subst, arith}
use Rattle.std.proofs.lemmas.Bool.{false≢true, true≢false, eqb-true, eq-eqb}
use Rattle.vlt_core.specs.Core as core
use Rattle.vlt_core.specs.Core.{Ty, tracked, TypeDecl, an_abstract, a_struct, a_variant, FieldDecl, Simple, Func, Program}
use Rattle.vlt_core.specs.Lookups.{Reference, reference_of, var_type, is_owning, fields_of}
use Rattle.vlt_core.specs.Types.{decl_of, same_ty, with_keys}
use Rattle.vlt_core.specs.KindedHeads.{unless, has}
use Rattle.vlt_core.specs.KindedScopes.{Ids, with_key, with_binding, tracked_key, own_key, use_broken, fresh_broken, keys_broken, binding_broken, target_broken}
use Rattle.vlt_core.specs.KindedOperands.{misfit, type_of_expr, expr_broken, operand_broken, operands_broken}
use Rattle.vlt_core.specs.KindedStatements.{tracked_broken, tracked_type, wanted_of, is_tracked_type, is_variant_type, is_guarded_type, set_broken, swap_broken, opened_broken, opened_types, owning_field_types, with_bindings, simple_broken, ids_after}
use Rattle.vlt_core.specs.declared.rules.TheConstants as rule
use Rattle.vlt_meaning.specs.World.{Value, one, reference, World, Frame}
use Rattle.vlt_meaning.specs.World as source
use Rattle.vlt_meaning.specs.Found.{or_fault}
use Rattle.vlt_meaning.specs.Values.{value_of}
use Rattle.vlt_meaning.specs.Step as step
use Rattle.vlt_meaning.specs.Step.{Step, set_at}
use Rattle.vlt_meaning.specs.Run as run
use Rattle.vlt_core_laws.proofs.Ids.{is_false, not_both}
use Rattle.vlt_core_laws.proofs.Binding.{chosen, on_true, has_first}
use Rattle.c_lower_worlds.specs.Naming.Functions.{IsFunction}
use Rattle.c_lower_worlds.specs.Naming.Types.{TypesFit}
use Rattle.c_lower_worlds.specs.Naming.Naming.{IsOfKey, NamesRight, IsInScope, Arrives, Promise}
use Rattle.c_lower_worlds.proofs.OfNaming.KnownScopes.{AreRanged}
use Rattle.c_lower_worlds.proofs.OfNaming.FrameNaming.{Adds, set_here, set_there, names_keys, names_set, adds_more, binding_adds, target_adds}
use Rattle.c_lower_worlds.proofs.OfNaming.NamedOperands.{Emptied, emptied_self, emptied_one, emptied_names, variable_of, operand_holds, operands_hold}
use Rattle.c_lower_worlds.proofs.OfNaming.StepPromises.{found_holds, so_holds, moved_holds, made_holds, released_holds, dropped_holds, packed_holds, input_holds}
use Rattle.c_lower_worlds.proofs.OfNaming.DeclaredVariables.{used_declared}
use Rattle.c_lower_worlds.proofs.OfNaming.FoundObjects.{or_fault_ok}
use Rattle.c_lower_worlds.proofs.OfNaming.RuleFacts.{both_empty, tracked_is}
use Rattle.vlt_core_laws.proofs.Unbroken.{unless_holds, filled_not_empty}
use Rattle.c_lower_worlds.proofs.OfNaming.TouchedFields.{some_there}

-- ---- variables that are no references

abbrev pub IsPlain : Func → ℕ → Type 0
IsPlain f v = (k t : ℕ) (args : List ℕ) → var_type f v ≡ Some (tracked k t args) → ⊥

abbrev pub ArePlain : Func → List ℕ → Type 0
ArePlain f [] = Unit {0}
ArePlain f (v ∷ vs) = IsPlain f v × ArePlain f vs

abbrev pub ArePlainTys : List Ty → Type 0
ArePlainTys [] = Unit {0}
ArePlainTys (ty ∷ tys) = (is_tracked_type ty ≡ false) × ArePlainTys tys

plain_by : (w : Ty) (k t : ℕ) (args : List ℕ) → is_tracked_type w ≡ false → same_ty w (tracked k t args) ≡ true → ⊥
plain_by (tracked j u others) k t args h e = true≢false h
plain_by core.int k t args h e = false≢true e
plain_by core.bool k t args h e = false≢true e
plain_by (core.owning s u others) k t args h e = false≢true e
plain_by (core.guarded j u others) k t args h e = false≢true e
plain_by (core.variant u others) k t args h e = false≢true e
plain_by (core.owning_variant u others) k t args h e = false≢true e

pub misfit_plain : (f : Func) (v : ℕ) (w : Ty) → is_tracked_type w ≡ false → misfit (Some w) (var_type f v) ≡ [] → IsPlain f v
misfit_plain f v w h m k t args e = plain_by w k t args h (unless_holds (same_ty w (tracked k t args)) rule.WRONG_TYPE (subst (λ o. misfit (Some w) o ≡ []) e m))

wanted_plain : (f : Func) (v : ℕ) (test : Ty → Bool) → ((k t : ℕ) (args : List ℕ) → test (tracked k t args) ≡ false) → wanted_of (var_type f v) test ≡ [] → IsPlain f v
wanted_plain f v test h e k t args ty = false≢true (sym (h k t args) ∙ unless_holds (test (tracked k t args)) rule.WRONG_TYPE (subst (λ o. wanted_of o test ≡ []) ty e))

-- ---- a variable is filled

module _ (f : Func) (ids : Ids) (s : Frame) where
  -- with what its key names, where it is a reference
  pub set_arrives : (vars : List ℕ) (s2 : Frame) (v : ℕ) (a : Value) → Emptied s s2 → Adds ids.vars vars v → ((k t : ℕ) (args : List ℕ) → var_type f v ≡ Some (tracked k t args) → IsOfKey s.keys k a) →
      NamesRight f ids.vars s → Arrives f ids vars s (step.with_var v (Some a) s2)
  set_arrives vars s2 v a e adds fits h = record {
    names = names_set f ids.vars vars s2 v a adds (λ k t args ty. subst (λ keys. IsOfKey keys k a) (sym e.keys) (fits k t args ty)) (emptied_names f ids.vars s s2 e h);
    kept = λ k i. ap (λ (keys : ℕ → Option ℕ). keys k) e.keys;
  }

  pub plain_arrives : (vars : List ℕ) (s2 : Frame) (v : ℕ) (a : Value) → Emptied s s2 → Adds ids.vars vars v → IsPlain f v → NamesRight f ids.vars s → Arrives f ids vars s (step.with_var v (Some a) s2)
  plain_arrives vars s2 v a e adds plain h = set_arrives vars s2 v a e adds (λ k t args ty. absurd (plain k t args ty)) h

  pub same_arrives : (s2 : Frame) → Emptied s s2 → NamesRight f ids.vars s → Arrives f ids ids.vars s s2
  same_arrives s2 e h = record { names = emptied_names f ids.vars s s2 e h; kept = λ k i. ap (λ (keys : ℕ → Option ℕ). keys k) e.keys }

  -- a reference under a fresh key
  pub fresh_arrives : (vars : List ℕ) (s2 : Frame) (x : ℕ) (q : Reference) (n : ℕ) → Emptied s s2 → Adds ids.vars vars x → reference_of f x ≡ Some q → has ids.keys_ever q.key ≡ false → IsInScope f ids s →
      Arrives f ids vars s (step.with_var x (Some (one (reference n))) (step.with_key q.key n s2))
  fresh_arrives vars s2 x q n e adds refers fresh h = record {
    names = names_set f ids.vars vars (step.with_key q.key n s2) x (one (reference n)) adds
        (λ k t args ty. record { number = n; is = refl; named = set_here q.key (Some n) s2.keys k (own k t args ty) })
        (names_keys f ids ids.vars s (step.with_key q.key n s2) h.known (λ v i. i) e.vars kept h.names);
    kept = kept;
  }
    where
      kept : (k : ℕ) → has ids.keys_ever k ≡ true → set_at q.key (Some n) s2.keys k ≡ s.keys k
      kept k i = by (k == q.key) refl
        where
          by : (b : Bool) → (k == q.key) ≡ b → set_at q.key (Some n) s2.keys k ≡ s.keys k
          by true o = not_both (has ids.keys_ever q.key) (subst (λ k. has ids.keys_ever k ≡ true) (eqb-true k q.key o) i) fresh
          by false o = set_there q.key (Some n) s2.keys k o ∙ ap (λ (keys : ℕ → Option ℕ). keys k) e.keys

      number_same : (a b : ℕ) → (let o : Option ℕ = Some a in o ≡ Some b) → a ≡ b
      number_same a b e = cc

      own : (k t : ℕ) (args : List ℕ) → var_type f x ≡ Some (tracked k t args) → (k == q.key) ≡ true
      own k t args ty = eq-eqb k q.key (number_same k q.key (ap tracked_key (sym ty ∙ (tracked_is (var_type f x) q refers).is)))

-- the key of a reference that is bound is fresh
pub fresh_key : (f : Func) → AreRanged f → (ids : Ids) (x : ℕ) (q : Reference) → reference_of f x ≡ Some q → binding_broken f ids (own_key f x) x ≡ [] → has ids.keys_ever q.key ≡ false
fresh_key f r ids x q refers e =
    let d = tracked_is (var_type f x) q refers in
    let own : own_key f x ≡ Some q.key = ap tracked_key d.is in
    let b = subst (λ o. binding_broken f ids o x ≡ []) own e in
    let range = r x q.key (subst (λ o. has (Rattle.vlt_core_laws.proofs.Ids.keys_in_type o) q.key ≡ true) (sym d.is) (has_first q.key d.args)) in
    let there = Rattle.vlt_core_laws.proofs.Binding.in_range (nat_lt x (length f.vars)) _ b in
    let all = chosen (nat_lt x (length f.vars)) _ there b in
    let front = both_empty (unless (not (has ids.vars_ever x)) rule.NAME_TAKEN ++ fresh_broken f ids (Some q.key)) (keys_broken f (with_key f (Some q.key) ids) (var_type f x)) all in
    let key = both_empty (unless (not (has ids.vars_ever x)) rule.NAME_TAKEN) (fresh_broken f ids (Some q.key)) front.left in
    is_false (has ids.keys_ever q.key) (unless_holds (not (has ids.keys_ever q.key)) rule.NAME_TAKEN (sym (on_true (nat_lt q.key (length f.keys)) _ _ range) ∙ key.right))

-- ---- variables that are opened

opened_plain : (p : Program) (f : Func) (ws : List Ty) (vs : List ℕ) (ids : Ids) → ArePlainTys ws → length ws ≡ length vs → opened_broken p f ids ws vs ≡ [] → ArePlain f vs
opened_plain p f ws [] ids h l e = tt
opened_plain p f [] (v ∷ vs) ids h l e = absurd (omega arith)
opened_plain p f (w ∷ ws) (v ∷ vs) ids h l e =
    let a = both_empty (misfit (Some w) (var_type f v) ++ binding_broken f ids None v) (opened_broken p f (with_binding f None v ids) ws vs) e in
    let b = both_empty (misfit (Some w) (var_type f v)) (binding_broken f ids None v) a.left in
    (misfit_plain f v w h.0 b.left, opened_plain p f ws vs (with_binding f None v ids) h.1 (omega arith) a.right)

owning_plain : (ws : List Ty) → ArePlainTys (filter is_owning ws)
owning_plain [] = tt
owning_plain (w ∷ ws) = by (is_owning w) refl (owning_plain ws)
  where
    one_plain : (w : Ty) → is_owning w ≡ true → is_tracked_type w ≡ false
    one_plain core.int e = refl
    one_plain core.bool e = refl
    one_plain (tracked j u others) e = absurd (false≢true e)
    one_plain (core.owning s u others) e = refl
    one_plain (core.guarded j u others) e = refl
    one_plain (core.variant u others) e = refl
    one_plain (core.owning_variant u others) e = refl

    by : (b : Bool) → is_owning w ≡ b → ArePlainTys (filter is_owning ws) → ArePlainTys (if b then w ∷ filter is_owning ws else filter is_owning ws)
    by true e rest = (one_plain w e, rest)
    by false e rest = rest

module _ (P : Step → Type 0) (ends : (o : source.Outcome) (w : World) → P (step.ends o w)) where
  filled_named : (f : Func) (vs : List ℕ) (cells : List Value) (ids : Ids) (s : Frame) (w : World) (go : Frame → Step) → ArePlain f vs → NamesRight f ids.vars s →
      ((s2 : Frame) → NamesRight f (with_bindings f vs ids).vars s2 → s2.keys ≡ s.keys → P (go s2)) → P (step.with_filled f vs cells s w go)
  unfolding step.with_filled
  filled_named f (v ∷ vs) (a ∷ cells) ids s w go plain h t =
      so_holds P ends _ _ _ w _ (λ e.
      filled_named f vs cells (with_binding f None v ids) (step.with_var v (Some a) s) w go plain.1
      (names_set f ids.vars (with_binding f None v ids).vars s v a (binding_adds f None v ids) (λ k u args ty. absurd (plain.0 k u args ty)) h) t)
  filled_named f [] [] ids s w go plain h t = t s h refl
  filled_named f [] (a ∷ cells) ids s w go plain h t = ends _ w
  filled_named f (v ∷ vs) [] ids s w go plain h t = ends _ w

module _ (p : Program) (types : TypesFit p) (heap depth : ℕ) (f : Func) (is : IsFunction p f) (ranged : AreRanged f) where
  abbrev setup : run.Setup
  setup = record { program = p; heap = heap; depth = depth }

  -- a reference of a statement
  record IsReferenceTy (x : ℕ) : Type 0 where
    k : ℕ
    t : ℕ
    args : List ℕ
    declared : var_type f x ≡ Some (tracked k t args)
    decl : TypeDecl
    type_at : decl_of p t ≡ Some decl

  reference_ty : (ids : Ids) (r x : ℕ) → tracked_broken f ids r x ≡ [] → IsReferenceTy x
  reference_ty ids r x e =
      let b = both_empty (use_broken f ids x) _ e in
      let d = used_declared f ids x b.left in
      by d.ty d.is
    where
      by : (ty : Ty) → var_type f x ≡ Some ty → IsReferenceTy x
      by (tracked k t args) q = let d = some_there (decl_of p t) (types.objects f is x (tracked k t args) q) in record { k = k; t = t; args = args; declared = q; decl = d.0; type_at = d.1 }
      by core.int q = let b = (both_empty (use_broken f ids x) _ e).right in let n : r ∷ [] ≡ [] = rw q at b in absurd (filled_not_empty r [] n)
      by core.bool q = let b = (both_empty (use_broken f ids x) _ e).right in let n : r ∷ [] ≡ [] = rw q at b in absurd (filled_not_empty r [] n)
      by (core.owning s u others) q = let b = (both_empty (use_broken f ids x) _ e).right in let n : r ∷ [] ≡ [] = rw q at b in absurd (filled_not_empty r [] n)
      by (core.guarded j u others) q = let b = (both_empty (use_broken f ids x) _ e).right in let n : r ∷ [] ≡ [] = rw q at b in absurd (filled_not_empty r [] n)
      by (core.variant u others) q = let b = (both_empty (use_broken f ids x) _ e).right in let n : r ∷ [] ≡ [] = rw q at b in absurd (filled_not_empty r [] n)
      by (core.owning_variant u others) q = let b = (both_empty (use_broken f ids x) _ e).right in let n : r ∷ [] ≡ [] = rw q at b in absurd (filled_not_empty r [] n)

  keys_plain : (keys : List ℕ) (ty : Ty) → is_owning ty ≡ true → is_tracked_type (with_keys keys ty) ≡ false
  keys_plain keys core.int e = refl
  keys_plain keys core.bool e = refl
  keys_plain keys (tracked j u others) e = absurd (false≢true e)
  keys_plain keys (core.owning s u others) e = refl
  keys_plain keys (core.guarded j u others) e = refl
  keys_plain keys (core.variant u others) e = refl
  keys_plain keys (core.owning_variant u others) e = refl

  -- the variable of a swap
  swap_plain : (ids : Ids) (x i v : ℕ) → simple_broken p f ids (core.swap x i v) ≡ [] → IsPlain f v
  swap_plain ids x i v e =
      let a = both_empty (tracked_broken f ids rule.WRONG_SWAP x ++ use_broken f ids v) (swap_broken p f x i v) e in
      let b = both_empty (tracked_broken f ids rule.WRONG_SWAP x) (use_broken f ids v) a.left in
      let r = reference_ty ids rule.WRONG_SWAP x b.left in
      by r.k r.t r.args r.declared r.decl r.type_at a.right (slice_get (fields_of p r.t) i) refl
    where
      owned : (args : List ℕ) (ty : Ty) (b : Bool) → is_owning ty ≡ b → (if b then misfit (Some (with_keys args ty)) (var_type f v) else rule.WRONG_SWAP ∷ []) ≡ [] → IsPlain f v
      owned args ty true o m = misfit_plain f v (with_keys args ty) (keys_plain args ty o) m
      owned args ty false o m = absurd (filled_not_empty rule.WRONG_SWAP [] m)

      by : (k t : ℕ) (args : List ℕ) → var_type f x ≡ Some (tracked k t args) → (d : TypeDecl) → decl_of p t ≡ Some d → swap_broken p f x i v ≡ [] → (o : Option FieldDecl) → slice_get (fields_of p t) i ≡ o → IsPlain f v
      by k t args q (an_abstract name set) decl e o at = let n : rule.WRONG_SWAP ∷ [] ≡ [] = rw (q, decl) at e in absurd (filled_not_empty rule.WRONG_SWAP [] n)
      by k t args q (a_variant d) decl e o at = let n : rule.WRONG_SWAP ∷ [] ≡ [] = rw (q, decl) at e in absurd (filled_not_empty rule.WRONG_SWAP [] n)
      by k t args q (a_struct d) decl e None at = let n : rule.UNKNOWN_NAME ∷ [] ≡ [] = rw (q, at, decl) at e in absurd (filled_not_empty rule.UNKNOWN_NAME [] n)
      by k t args q (a_struct d) decl e (Some fd) at =
          let n : (if is_owning fd.ty then misfit (Some (with_keys args fd.ty)) (var_type f v) else rule.WRONG_SWAP ∷ []) ≡ [] = rw (q, at, decl) at e in
          owned args fd.ty (is_owning fd.ty) refl n

  -- the variables that an object is opened into
  open_plain : (ids : Ids) (x : ℕ) (vs : List ℕ) → simple_broken p f ids (core.open_into x vs) ≡ [] → ArePlain f vs
  open_plain ids x vs e =
      let a = both_empty _ (opened_broken p f ids (opened_types p (tracked_type (var_type f x))) vs) e in
      let b = both_empty (tracked_broken f ids rule.WRONG_RELEASE x) _ a.left in
      let r = reference_ty ids rule.WRONG_RELEASE x b.left in
      by r.k r.t r.args r.declared r.decl r.type_at (subst (λ o. opened_broken p f ids (opened_types p (tracked_type o)) vs ≡ []) r.declared a.right)
    where
      by : (k t : ℕ) (args : List ℕ) → var_type f x ≡ Some (tracked k t args) → (d : TypeDecl) → decl_of p t ≡ Some d → opened_broken p f ids (owning_field_types p t args) vs ≡ [] → ArePlain f vs
      by k t args q (an_abstract name set) decl o =
          let b = (both_empty (tracked_broken f ids rule.WRONG_RELEASE x) _ (both_empty _ (opened_broken p f ids (opened_types p (tracked_type (var_type f x))) vs) e).left).right in
          let n : rule.WRONG_RELEASE ∷ [] ≡ [] = rw (q, decl) at b in absurd (filled_not_empty rule.WRONG_RELEASE [] n)
      by k t args q (a_variant d) decl o =
          let b = (both_empty (tracked_broken f ids rule.WRONG_RELEASE x) _ (both_empty _ (opened_broken p f ids (opened_types p (tracked_type (var_type f x))) vs) e).left).right in
          let n : rule.WRONG_RELEASE ∷ [] ≡ [] = rw (q, decl) at b in absurd (filled_not_empty rule.WRONG_RELEASE [] n)
      by k t args q (a_struct d) decl o =
          let b = (both_empty (tracked_broken f ids rule.WRONG_RELEASE x) _ (both_empty _ (opened_broken p f ids (opened_types p (tracked_type (var_type f x))) vs) e).left).right in
          let n : unless (length (filter is_owning (map (λ (d : FieldDecl). with_keys args d.ty) d.fields)) == length vs) rule.WRONG_COUNT ≡ [] = rw (q, decl) at b in
          let m : opened_broken p f ids (filter is_owning (map (λ (d : FieldDecl). with_keys args d.ty) d.fields)) vs ≡ [] = rw decl at o in
          opened_plain p f (filter is_owning (map (λ (d : FieldDecl). with_keys args d.ty) d.fields)) vs ids (owning_plain (map (λ (d : FieldDecl). with_keys args d.ty) d.fields))
          (eqb-true (length (filter is_owning (map (λ (d : FieldDecl). with_keys args d.ty) d.fields))) (length vs) (unless_holds (length (filter is_owning (map (λ (d : FieldDecl). with_keys args d.ty) d.fields)) == length vs) rule.WRONG_COUNT n)) m

  pub simple_named : (ids : Ids) (x : Simple) (s : Frame) (w : World) → simple_broken p f ids x ≡ [] → IsInScope f ids s → Promise f ids (ids_after f x ids).vars s (run.does_simple setup f x s w)
  unfolding run.made_in run.swap_step run.open_step step.fill
  simple_named ids (core.set v e) s w b h =
      let parts = both_empty (expr_broken p f ids e ++ set_broken p f (var_type f v) e) (target_broken f ids v) b in
      let front = both_empty (expr_broken p f ids e) (set_broken p f (var_type f v) e) parts.left in
      found_holds (Promise f ids (ids_after f (core.set v e) ids).vars s) (λ o v. tt) (value_of p f e s w.objects) w _ (λ a q.
      set_arrives f ids s _ s v a (emptied_self s) (target_adds f v ids)
      (λ k t args ty.
      let set : set_broken p f (Some (tracked k t args)) e ≡ [] = subst (λ o. set_broken p f o e ≡ []) ty front.right in
      let m = both_empty _ (misfit (Some (tracked k t args)) (type_of_expr p f e)) set in
      let x = variable_of p types f is ids k t args e front.left m.right in
      h.names.at x.var k x.type x.args x.scoped x.declared a (or_fault_ok source.no_value (s.vars x.var) a (sym (ap (λ e. value_of p f e s w.objects) x.is) ∙ q)))
      h.names)
  simple_named ids (core.input v more) s w b h =
      let parts = both_empty (misfit (Some (if more then core.bool else core.int)) (var_type f v)) (target_broken f ids v) b in
      input_holds (Promise f ids (ids_after f (core.input v more) ids).vars s) (λ o v. tt) more w _ (λ z v2.
      plain_arrives f ids s _ s v _ (emptied_self s) (target_adds f v ids) (misfit_plain f v (if more then core.bool else core.int) (basic more) parts.left) h.names)
    where
      basic : (more : Bool) → is_tracked_type (if more then core.bool else core.int) ≡ false
      basic true = refl
      basic false = refl
  simple_named ids (core.print e) s w b h =
      found_holds (Promise f ids ids.vars s) (λ o v. tt) _ w _ (λ z q. same_arrives f ids s s (emptied_self s) h.names)
  simple_named ids (core.put x i e) s w b h =
      found_holds (Promise f ids ids.vars s) (λ o v. tt) _ w _ (λ a q. found_holds (Promise f ids ids.vars s) (λ o v. tt) _ w _ (λ n q2.
      so_holds (Promise f ids ids.vars s) (λ o v. tt) _ _ _ w _ (λ q3. same_arrives f ids s s (emptied_self s) h.names)))
  simple_named ids (core.make x os) s w b h =
      let parts = both_empty _ (binding_broken f ids (own_key f x) x) b in
      found_holds (Promise f ids (with_binding f (own_key f x) x ids).vars s) (λ o v. tt) (or_fault source.missing (reference_of f x)) w _ (λ q e.
      so_holds (Promise f ids (with_binding f (own_key f x) x ids).vars s) (λ o v. tt) _ _ _ w _ (λ e2.
      operands_hold (Promise f ids (with_binding f (own_key f x) x ids).vars s) (λ o v. tt) p f os s w _ (λ cells s2 w2 em.
      made_holds (Promise f ids (with_binding f (own_key f x) x ids).vars s) (λ o v. tt) heap _ w2 _ (λ n w3.
      moved_holds (Promise f ids (with_binding f (own_key f x) x ids).vars s) (λ o v. tt) _ _ _ w3 _ (λ w4.
      let refers = or_fault_ok source.missing (reference_of f x) q e in
      fresh_arrives f ids s _ s2 x q n em (binding_adds f (own_key f x) x ids) refers (fresh_key f ranged ids x q refers parts.right) h)))))
  simple_named ids (core.become x st) s w b h =
      found_holds (Promise f ids ids.vars s) (λ o v. tt) _ w _ (λ n q. same_arrives f ids s s (emptied_self s) h.names)
  simple_named ids (core.release x) s w b h =
      found_holds (Promise f ids ids.vars s) (λ o v. tt) _ w _ (λ n q. released_holds (Promise f ids ids.vars s) (λ o v. tt) p n.number w _ (λ v. same_arrives f ids s s (emptied_self s) h.names))
  simple_named ids (core.drop v) s w b h =
      found_holds (Promise f ids ids.vars s) (λ o v. tt) _ w _ (λ a q. dropped_holds (Promise f ids ids.vars s) (λ o v. tt) p _ w _ (λ v2. same_arrives f ids s (step.with_var v None s) (emptied_one s v) h.names))
  simple_named ids (core.own v o) s w b h =
      let parts = both_empty (wanted_of (var_type f v) is_owning ++ operand_broken p f ids (if Rattle.vlt_core.specs.Lookups.is_owning_var f v then var_type f v else None) o) (target_broken f ids v) b in
      let front = both_empty (wanted_of (var_type f v) is_owning) _ parts.left in
      operand_holds (Promise f ids (ids_after f (core.own v o) ids).vars s) (λ o v. tt) p f o s w _ (λ a s2 w2 em.
      so_holds (Promise f ids (ids_after f (core.own v o) ids).vars s) (λ o v. tt) _ _ _ w2 _ (λ e.
      plain_arrives f ids s _ s2 v a em (target_adds f v ids) (wanted_plain f v is_owning (λ k t args. refl) front.left) h.names))
  simple_named ids (core.unpack x v) s w b h =
      let parts = both_empty _ (binding_broken f ids (own_key f x) x) b in
      found_holds (Promise f ids (with_binding f (own_key f x) x ids).vars s) (λ o v. tt) (or_fault source.missing (reference_of f x)) w _ (λ q e.
      found_holds (Promise f ids (with_binding f (own_key f x) x ids).vars s) (λ o v. tt) _ w _ (λ st e2.
      found_holds (Promise f ids (with_binding f (own_key f x) x ids).vars s) (λ o v. tt) _ w _ (λ n e3.
      found_holds (Promise f ids (with_binding f (own_key f x) x ids).vars s) (λ o v. tt) _ w _ (λ m e4.
      let refers = or_fault_ok source.missing (reference_of f x) q e in
      fresh_arrives f ids s _ (step.with_var v None s) x q n (emptied_one s v) (binding_adds f (own_key f x) x ids) refers (fresh_key f ranged ids x q refers parts.right) h))))
  simple_named ids (core.build v k os) s w b h =
      let parts = both_empty _ (target_broken f ids v) b in
      let front = both_empty _ (operands_broken p f ids _ os) parts.left in
      let wanted = both_empty (wanted_of (var_type f v) is_variant_type) _ front.left in
      found_holds (Promise f ids (ids_after f (core.build v k os) ids).vars s) (λ o v. tt) _ w _ (λ t e.
      so_holds (Promise f ids (ids_after f (core.build v k os) ids).vars s) (λ o v. tt) _ _ _ w _ (λ e2.
      operands_hold (Promise f ids (ids_after f (core.build v k os) ids).vars s) (λ o v. tt) p f os s w _ (λ values s2 w2 em.
      found_holds (Promise f ids (ids_after f (core.build v k os) ids).vars s) (λ o v. tt) _ w2 _ (λ ps e3.
      packed_holds (Promise f ids (ids_after f (core.build v k os) ids).vars s) (λ o v. tt) _ s2 w2 _ (λ ns w3.
      so_holds (Promise f ids (ids_after f (core.build v k os) ids).vars s) (λ o v. tt) _ _ _ w3 _ (λ e4.
      plain_arrives f ids s _ s2 v _ em (target_adds f v ids) (wanted_plain f v is_variant_type (λ k t args. refl) wanted.left) h.names))))))
  simple_named ids (core.swap x i v) s w b h =
      found_holds (Promise f ids ids.vars s) (λ o v. tt) _ w _ (λ n q. found_holds (Promise f ids ids.vars s) (λ o v. tt) _ w _ (λ old q2.
      found_holds (Promise f ids ids.vars s) (λ o v. tt) _ w _ (λ new q3. so_holds (Promise f ids ids.vars s) (λ o v. tt) _ _ _ w _ (λ q4.
      moved_holds (Promise f ids ids.vars s) (λ o v. tt) _ _ _ w _ (λ w2. moved_holds (Promise f ids ids.vars s) (λ o v. tt) _ _ _ w2 _ (λ w3.
      plain_arrives f ids s ids.vars s v old (emptied_self s) (adds_more ids.vars ids.vars v (λ u i. i)) (swap_plain ids x i v b) h.names))))))
  simple_named ids (core.open_into x vs) s w b h =
      found_holds (Promise f ids (with_bindings f vs ids).vars s) (λ o v. tt) _ w _ (λ q e.
      found_holds (Promise f ids (with_bindings f vs ids).vars s) (λ o v. tt) _ w _ (λ n e2.
      moved_holds (Promise f ids (with_bindings f vs ids).vars s) (λ o v. tt) _ _ _ w _ (λ w2.
      released_holds (Promise f ids (with_bindings f vs ids).vars s) (λ o v. tt) p _ w2 _ (λ w3.
      filled_named (Promise f ids (with_bindings f vs ids).vars s) (λ o v. tt) f vs _ ids s w3 _ (open_plain ids x vs b) h.names (λ s2 names keys. record {
        names = names;
        kept = λ k i. ap (λ (keys : ℕ → Option ℕ). keys k) keys;
      })))))
  simple_named ids (core.adopt y x r) s w b h =
      let parts = both_empty _ (target_broken f ids y) b in
      let front = both_empty _ (Rattle.vlt_core.specs.KindedStatements.keys_differ (Rattle.vlt_core.specs.KindedStatements.guard_key (var_type f y)) (own_key f r)) parts.left in
      let more = both_empty _ (Rattle.vlt_core.specs.KindedStatements.objects_apart (Rattle.vlt_core.specs.KindedStatements.guarded_object (var_type f y)) (tracked_type (var_type f x))) front.left in
      let wanted = both_empty _ (wanted_of (var_type f y) is_guarded_type) more.left in
      found_holds (Promise f ids (ids_after f (core.adopt y x r) ids).vars s) (λ o v. tt) _ w _ (λ n e.
      found_holds (Promise f ids (ids_after f (core.adopt y x r) ids).vars s) (λ o v. tt) _ w _ (λ a e2.
      so_holds (Promise f ids (ids_after f (core.adopt y x r) ids).vars s) (λ o v. tt) _ _ _ w _ (λ e3.
      plain_arrives f ids s _ s y _ (emptied_self s) (target_adds f y ids) (wanted_plain f y is_guarded_type (λ k t args. refl) wanted.right) h.names)))
