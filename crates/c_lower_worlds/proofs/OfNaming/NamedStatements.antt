-- A reference in scope is what its key names: the induction over statements, and over the fuel that is left.
use Rattle.std.proofs.Common.{◌≡◌, ℕ, zero, suc, ◌==◌, nat_lt, not, Bool, true, false, if◌then◌else◌, List, [], ◌∷◌, ◌++◌, map, length, Option, Some, None, slice_get, refl, sym, ap, ◌∙◌, subst, arith}
use Rattle.std.proofs.lemmas.Bool.{false≢true, eqb-true}
use Rattle.std.specs.Option.{option_map}
use Rattle.vlt_ops.specs.Operator.{is_true}
use Rattle.vlt_core.specs.Core as core
use Rattle.vlt_core.specs.Core.{Ty, tracked, CaseDecl, Form, Block, block, Stmts, done, next, Arms, no_arms, arm, Entry, Func, Program}
use Rattle.vlt_core.specs.Instances.{bound_in, instance}
use Rattle.vlt_core.specs.Kinded.{IsKinded}
use Rattle.vlt_core.specs.Lookups.{Reference, reference_of, var_type, is_new, is_held_after, cases_of}
use Rattle.vlt_core.specs.Types.{decl_of, is_variant, with_keys, keys_of_ty}
use Rattle.vlt_core.specs.KindedHeads.{Rules, unless, has, head_keys, keys_of_parameters, keys_of_result, is_payload_type}
use Rattle.vlt_core.specs.KindedScopes.{Ids, Around, at_block_start, left_behind, with_var, own_key, use_broken, binding_broken}
use Rattle.vlt_core.specs.KindedOperands.{misfit}
use Rattle.vlt_core.specs.KindedStatements.{is_tracked_type, is_variant_type, variant_args, case_broken, payload_types}
use Rattle.vlt_core.specs.KindedCalls.{call_broken, with_call_target, return_broken}
use Rattle.vlt_core.specs.KindedBodies.{ends, in_loop, in_focus, with_vars, with_focus, arm_vars_broken, arm_broken, arms_broken, switch_broken, focus_broken, list_broken, owning_toks, row_broken, form_rows, block_rows, stmts_rows, arms_rows, ids_following, ids_following_block, ids_following_stmts, ids_following_arms, first_ids}
use Rattle.vlt_core.specs.declared.rules.TheConstants as rule
use Rattle.vlt_meaning.specs.World.{Value, one, reference, World, Frame}
use Rattle.vlt_meaning.specs.World as source
use Rattle.vlt_meaning.specs.Found.{or_fault}
use Rattle.vlt_meaning.specs.Step as step
use Rattle.vlt_meaning.specs.Step.{Step}
use Rattle.vlt_meaning.specs.Operands.{Case, with_empty_variable, with_operands}
use Rattle.vlt_meaning.specs.Calls.{entries_after, called_instance, state_under, callee_frame}
use Rattle.vlt_meaning.specs.Run as run
use Rattle.vlt_meaning.specs.Run.{Meaning}
use Rattle.vlt_core_laws.proofs.Unbroken.{right_empty, each_left, each_right, filled_not_empty, unless_holds, each_of_first}
use Rattle.vlt_core_laws.specs.Unbroken.{EachEmpty}
use Rattle.vlt_core_laws.proofs.Ids.{or_right}
use Rattle.vlt_core_laws.proofs.Binding.{has_first}
use Rattle.vlt_core_laws.proofs.Going.{form_goes, block_goes, stmts_go, vars_grow}
use Rattle.vlt_core_laws.proofs.Headed.{has_left, has_right}
use Rattle.vlt_core_laws.proofs.Instanced.{body_rows_same}
use Rattle.c_lower_worlds.specs.Naming.Functions.{IsFunction}
use Rattle.c_lower_worlds.specs.Naming.Lists.{Each}
use Rattle.c_lower_worlds.specs.Naming.Types.{TypesFit}
use Rattle.c_lower_worlds.specs.Naming.Naming.{IsKnownScope, NamesRight, IsInScope, Arrives, IsKeptBy, AreKeptFor, IsReturned, Promise}
use Rattle.c_lower_worlds.proofs.OfNaming.KnownScopes.{AreRanged, ranged_of, start_known, focus_known, vars_known, form_known, block_known, arm_known}
use Rattle.c_lower_worlds.proofs.OfNaming.FrameNaming.{of_key_moved, names_set, bare_adds, var_adds}
use Rattle.c_lower_worlds.proofs.OfNaming.HeadKeys.{IsHeaded, headed, each_filtered}
use Rattle.c_lower_worlds.proofs.OfNaming.NamedInstances.{headed_instance, known_instance, aims_same}
use Rattle.c_lower_worlds.specs.Naming.Laws.{NamesAreKept}
use Rattle.c_lower_worlds.proofs.OfNaming.DeclaredTypes.{types_fit}
use Rattle.c_lower_worlds.proofs.OfNaming.NamedOperands.{Emptied, emptied_self, emptied_names, operands_named, emptied_switch}
use Rattle.c_lower_worlds.proofs.OfNaming.NamedSimple.{ArePlain, ArePlainTys, misfit_plain, same_arrives, fresh_arrives, fresh_key, simple_named}
use Rattle.c_lower_worlds.proofs.OfNaming.NamedReturns.{return_named}
use Rattle.c_lower_worlds.proofs.OfNaming.NamedCalls.{IsKnownCall, callee_in_scope}
use Rattle.c_lower_worlds.proofs.OfNaming.KnownCalls.{known_call}
use Rattle.c_lower_worlds.proofs.OfNaming.NamedResults.{back_named, external_named}
use Rattle.c_lower_worlds.proofs.OfNaming.StepPromises.{found_holds, so_holds, if_holds, spend_holds, opened_holds}
use Rattle.c_lower_worlds.proofs.OfNaming.DeclaredVariables.{used_declared}
use Rattle.c_lower_worlds.proofs.OfNaming.FoundObjects.{or_fault_ok}
use Rattle.c_lower_worlds.proofs.OfNaming.RuleFacts.{both_empty}

-- ---- from an earlier frame

entry_heads : (f : Func) → Each (λ (e : Entry). has (head_keys f) e.key ≡ true) (entries_after f)
entry_heads f = each_filtered (λ (e : Entry). has (head_keys f) e.key ≡ true) is_held_after f.clause
    (in_clause f.clause (λ k m. has_right (keys_of_result f ++ keys_of_parameters f) (map (λ (e : Entry). e.key) f.clause) k m))
  where
    in_clause : (es : List Entry) → ((k : ℕ) → has (map (λ (e : Entry). e.key) es) k ≡ true → has (head_keys f) k ≡ true) → Each (λ (e : Entry). has (head_keys f) e.key ≡ true) es
    in_clause [] h = tt
    in_clause (e ∷ es) h = (h e.key (has_first e.key (map (λ (e : Entry). e.key) es)), in_clause es (λ k m. h k (or_right (e.key == k) (has (map (λ (e : Entry). e.key) es) k) m)))

kept_moved : (f : Func) (keys others : ℕ → Option ℕ) (a : Option Value) → ((k : ℕ) → has (head_keys f) k ≡ true → others k ≡ keys k) → (es : List Entry) (kept : List ℕ) →
    Each (λ (e : Entry). has (head_keys f) e.key ≡ true) es → AreKeptFor keys a es kept → AreKeptFor others a es kept
kept_moved f keys others a same [] [] i h = tt
kept_moved f keys others a same [] (n ∷ ns) i h = absurd h
kept_moved f keys others a same (e ∷ es) [] i h = absurd h
kept_moved f keys others a same (e ∷ es) (n ∷ ns) i h = (by (is_new e) h.0, kept_moved f keys others a same es ns i.1 h.1)
  where
    by : (b : Bool) → IsKeptBy b keys a e.key n → IsKeptBy b others a e.key n
    by true h = h
    by false h = same e.key i.0 ∙ h

returned_moved : (f : Func) (keys others : ℕ → Option ℕ) (a : Option Value) (kept : List ℕ) → ((k : ℕ) → has (head_keys f) k ≡ true → others k ≡ keys k) → IsReturned f keys a kept → IsReturned f others a kept
returned_moved f keys others a kept same h = record {
  entries = kept_moved f keys others a same (entries_after f) kept (entry_heads f) h.entries;
  result = λ k t args r old b there. of_key_moved keys others k b (same k (in_head k t args r)) (h.result k t args r old b there);
}
  where
    keys_are : (w : Ty) → f.result ≡ Some w → keys_of_result f ≡ keys_of_ty w
    keys_are w q = rw q refl

    in_head : (k t : ℕ) (args : List ℕ) → f.result ≡ Some (tracked k t args) → has (head_keys f) k ≡ true
    in_head k t args r =
        has_left (keys_of_result f ++ keys_of_parameters f) (map (λ (e : Entry). e.key) f.clause) k
        (has_left (keys_of_result f) (keys_of_parameters f) k (subst (λ ks. has ks k ≡ true) (sym (keys_are (tracked k t args) r)) (has_first k args)))

fewer_names : (f : Func) (vars more : List ℕ) (s : Frame) → ((v : ℕ) → has vars v ≡ true → has more v ≡ true) → NamesRight f more s → NamesRight f vars s
fewer_names f vars more s w h = record { at = λ v k t args i ty a e. h.at v k t args (w v i) ty a e }

-- a scope that has all of an earlier one
pub record IsWider (a c : Ids) : Type 0 where
  pub vars : (v : ℕ) → has a.vars v ≡ true → has c.vars v ≡ true
  pub ever : (k : ℕ) → has a.keys_ever k ≡ true → has c.keys_ever k ≡ true

promise_from : (f : Func) (a c : Ids) (d e : List ℕ) (s s2 : Frame) (x : Step) → IsKnownScope f a → IsWider a c → ((v : ℕ) → has e v ≡ true → has d v ≡ true) →
    ((k : ℕ) → has a.keys_ever k ≡ true → s2.keys k ≡ s.keys k) → Promise f c d s2 x → Promise f a e s x
promise_from f a c d e s s2 (step.goes s3 w) known wide fewer kept h = record { names = fewer_names f e d s3 fewer h.names; kept = λ k i. h.kept k (wide.ever k i) ∙ kept k i }
promise_from f a c d e s s2 (step.jumps j s3 w) known wide fewer kept h = record { names = fewer_names f a.vars c.vars s3 wide.vars h.names; kept = λ k i. h.kept k (wide.ever k i) ∙ kept k i }
promise_from f a c d e s s2 (step.leaves b ns w) known wide fewer kept h = returned_moved f s2.keys s.keys b ns (λ k m. sym (kept k (known.head k m))) h
promise_from f a c d e s s2 (step.ends o w) known wide fewer kept h = tt

-- ---- what follows

then_named : (f : Func) (a c : Ids) (d : List ℕ) (s : Frame) (x : Step) (go : Frame → World → Step) → IsKnownScope f a → IsWider a c → Promise f a c.vars s x →
    ((s2 : Frame) (w : World) → Arrives f a c.vars s s2 → Promise f c d s2 (go s2 w)) → Promise f a d s (step.then_do x go)
unfolding step.then_do
then_named f a c d s (step.goes s2 w) go known wide h t = promise_from f a c d d s s2 (go s2 w) known wide (λ v i. i) h.kept (t s2 w h)
then_named f a c d s (step.jumps j s2 w) go known wide h t = h
then_named f a c d s (step.leaves b ns w) go known wide h t = h
then_named f a c d s (step.ends o w) go known wide h t = tt

turn_named : (f : Func) (a : Ids) (d : List ℕ) (s : Frame) (x : Step) (go : Frame → World → Step) → IsKnownScope f a → ((v : ℕ) → has d v ≡ true → has a.vars v ≡ true) → Promise f a a.vars s x →
    ((s2 : Frame) (w : World) → Arrives f a a.vars s s2 → Promise f a d s2 (go s2 w)) → Promise f a d s (step.then_turn x go)
unfolding step.then_turn
turn_named f a d s (step.goes s2 w) go known less h t = promise_from f a a d d s s2 (go s2 w) known (record { vars = λ v i. i; ever = λ k i. i }) (λ v i. i) h.kept (t s2 w h)
turn_named f a d s (step.jumps true s2 w) go known less h t = promise_from f a a d d s s2 (go s2 w) known (record { vars = λ v i. i; ever = λ k i. i }) (λ v i. i) h.kept (t s2 w h)
turn_named f a d s (step.jumps false s2 w) go known less h t = record { names = fewer_names f d a.vars s2 less h.names; kept = h.kept }
turn_named f a d s (step.leaves b ns w) go known less h t = h
turn_named f a d s (step.ends o w) go known less h t = tt

left_named : (f : Func) (a : Ids) (d : List ℕ) (s : Frame) (bound : List core.Tok) (x : Step) → Promise f a d s x → Promise f a d s (step.left_block bound x)
unfolding step.left_block
left_named f a d s bound (step.goes s2 w) h = so_holds (Promise f a d s) (λ o w. tt) (step.are_unused bound s2 w) source.left_behind None w (λ w. step.goes s2 w) (λ e. h)
left_named f a d s bound (step.jumps j s2 w) h = so_holds (Promise f a d s) (λ o w. tt) (step.are_unused bound s2 w) source.left_behind None w (λ w. step.jumps j s2 w) (λ e. h)
left_named f a d s bound (step.leaves b ns w) h = h
left_named f a d s bound (step.ends o w) h = tt

focus_end_named : (f : Func) (a : Ids) (d : List ℕ) (s : Frame) (r : run.Setup) (g q : Reference) (m n : ℕ) (x : Step) → Promise f a d s x → Promise f a d s (run.focus_end r g q m n x)
unfolding run.focus_end run.focus_end_step
focus_end_named f a d s r g q m n (step.goes s2 w) h = found_holds (Promise f a d s) (λ o w. tt) _ w _ (λ b e. found_holds (Promise f a d s) (λ o w. tt) _ w _ (λ b2 e2. h))
focus_end_named f a d s r g q m n (step.jumps j s2 w) h = h
focus_end_named f a d s r g q m n (step.leaves b ns w) h = h
focus_end_named f a d s r g q m n (step.ends o w) h = tt

-- ---- arms

payload_plain : (keys : List ℕ) (ts : List Ty) → ((j : ℕ) (ty : Ty) → slice_get ts j ≡ Some ty → is_payload_type ty ≡ true) → ArePlainTys (map (with_keys keys) ts)
payload_plain keys [] h = tt
payload_plain keys (ty ∷ ts) h = (one_plain ty (h 0 ty refl), payload_plain keys ts (λ j ty e. h (suc j) ty e))
  where
    one_plain : (ty : Ty) → is_payload_type ty ≡ true → is_tracked_type (with_keys keys ty) ≡ false
    one_plain core.int e = refl
    one_plain core.bool e = refl
    one_plain (tracked j u others) e = absurd (false≢true e)
    one_plain (core.owning s u others) e = refl
    one_plain (core.guarded j u others) e = refl
    one_plain (core.variant u others) e = refl
    one_plain (core.owning_variant u others) e = refl

arm_plain : (f : Func) (ws : List Ty) (vs : List ℕ) (ids : Ids) → ArePlainTys ws → length vs ≡ length ws → arm_vars_broken f ids ws vs ≡ [] → ArePlain f vs
arm_plain f ws [] ids h l e = tt
arm_plain f [] (v ∷ vs) ids h l e = absurd (omega arith)
arm_plain f (w ∷ ws) (v ∷ vs) ids h l e =
    let a = both_empty (misfit (Some w) (var_type f v) ++ binding_broken f ids None v) (arm_vars_broken f (with_var f v ids) ws vs) e in
    let b = both_empty (misfit (Some w) (var_type f v)) (binding_broken f ids None v) a.left in
    (misfit_plain f v w h.0 b.left, arm_plain f ws vs (with_var f v ids) h.1 (omega arith) a.right)

-- a variable of a declared variant
pub record IsVariantVar (p : Program) (f : Func) (v : ℕ) : Type 0 where
  type : ℕ
  args : List ℕ
  at_args : variant_args (var_type f v) ≡ Some (type, args)
  declared : is_variant (decl_of p type) ≡ true

module _ (P : Step → Type 0) (over : (o : source.Outcome) (w : World) → P (step.ends o w)) where
  pub arm_filled : (f : Func) (vs : List ℕ) (cells : List Value) (ids : Ids) (s : Frame) (w : World) (go : Frame → Step) → ArePlain f vs → NamesRight f ids.vars s →
      ((s2 : Frame) → NamesRight f (with_vars f vs ids).vars s2 → s2.keys ≡ s.keys → P (go s2)) → P (step.with_filled f vs cells s w go)
  unfolding step.with_filled
  arm_filled f (v ∷ vs) (a ∷ cells) ids s w go plain h t =
      so_holds P over _ _ _ w _ (λ e.
      arm_filled f vs cells (with_var f v ids) (step.with_var v (Some a) s) w go plain.1
      (names_set f ids.vars (with_var f v ids).vars s v a (var_adds f v ids) (λ k u args ty. absurd (plain.0 k u args ty)) h) t)
  arm_filled f [] [] ids s w go plain h t = t s h refl
  arm_filled f [] (a ∷ cells) ids s w go plain h t = over _ w
  arm_filled f (v ∷ vs) [] ids s w go plain h t = over _ w

pub block_vars : (p : Program) (f : Func) (b : Block) (ids : Ids) → (ids_following_block p f b ids).vars ≡ ids.vars
block_vars p f (block ss bound end) ids = refl

arms_vars : (p : Program) (f : Func) (arms : Arms) (ids : Ids) → (ids_following_arms p f arms ids).vars ≡ ids.vars
arms_vars p f no_arms ids = refl
arms_vars p f (arm c vs b rest) ids = arms_vars p f rest (left_behind ids (ids_following_block p f b (with_vars f vs ids)))

vars_more : (p : Program) (f : Func) (vs : List ℕ) (ids : Ids) (v : ℕ) → has ids.vars v ≡ true → has (with_vars f vs ids).vars v ≡ true
vars_more p f [] ids v i = i
vars_more p f (u ∷ vs) ids v i = vars_more p f vs (with_var f u ids) v (by (nat_lt u (length f.vars)))
  where
    by : (b : Bool) → has (if b then record ids { vars = u ∷ ids.vars; vars_ever = u ∷ ids.vars_ever } else ids).vars v ≡ true
    by true = or_right (u == v) (has ids.vars v) i
    by false = i

module _ (p : Program) (kinded : IsKinded p) (types : TypesFit p) (heap depth : ℕ) where
  abbrev setup : run.Setup
  setup = record { program = p; heap = heap; depth = depth }

  -- what follows a unit of fuel was spent
  abbrev pub AreNamed : Meaning → Type 0
  AreNamed m = (f : Func) (ss : Stmts) (around : Around) (ids : Ids) (ended : Bool) (s : Frame) (w : World) → IsFunction p f →
      EachEmpty (stmts_rows p f around ids ended ss) → IsInScope f ids s → Promise f ids (ids_following_stmts p f ss ids).vars s (m f ss s w)

  range_of : (f : Func) → IsFunction p f → AreRanged f
  range_of f is = ranged_of p kinded f is

  pub focus_starts : (f : Func) (y z : ℕ) (ids : Ids) (s : Frame) (q : Reference) (n : ℕ) → IsFunction p f → focus_broken p f ids y z ≡ [] → reference_of f z ≡ Some q → IsInScope f ids s →
      Arrives f ids (with_focus f z ids).vars s (step.with_var z (Some (one (reference n))) (step.with_key q.key n s))
  focus_starts f y z ids s q n is e refers h =
      fresh_arrives f ids s (with_focus f z ids).vars s z q n (emptied_self s) (bare_adds f (own_key f z) z ids) refers
      (fresh_key f (range_of f is) ids z q refers (right_empty _ (binding_broken f ids (own_key f z) z) e)) h

  focus_wide : (f : Func) (is : IsFunction p f) (z : ℕ) (ids : Ids) → IsWider ids (with_focus f z ids)
  focus_wide f is z ids = record { vars = vars; ever = λ k i. Rattle.vlt_core_laws.proofs.Going.focus_grows p f (range_of f is) z ids (core.a_key k) i }
    where
      by : (b : Bool) (v : ℕ) (x : Ids) → has x.vars v ≡ true → has (if b then record x { vars = z ∷ x.vars; vars_ever = z ∷ x.vars_ever } else x).vars v ≡ true
      by true v x i = or_right (z == v) (has x.vars v) i
      by false v x i = i

      vars : (v : ℕ) → has ids.vars v ≡ true → has (with_focus f z ids).vars v ≡ true
      vars v i = by (nat_lt z (length f.vars)) v (Rattle.vlt_core.specs.KindedScopes.with_key f (own_key f z) ids) (subst (λ vs. has vs v ≡ true) (sym (Rattle.c_lower_worlds.proofs.OfNaming.FrameNaming.key_vars f (own_key f z) ids)) i)

  -- the variables of an arm of a switch on v
  pub arm_vars_plain : (f : Func) (is : IsFunction p f) (v c : ℕ) (vs : List ℕ) (ids : Ids) → IsVariantVar p f v → arm_broken p f ids v c vs ≡ [] → ArePlain f vs
  arm_vars_plain f is v c vs ids r e =
      let a = both_empty (case_broken p c (length vs) (variant_args (var_type f v))) (arm_vars_broken f ids (payload_types p (variant_args (var_type f v)) c) vs) e in
      by (slice_get (cases_of p r.type) c) refl a.left a.right
    where
      by : (o : Option CaseDecl) → slice_get (cases_of p r.type) c ≡ o → case_broken p c (length vs) (variant_args (var_type f v)) ≡ [] → arm_vars_broken f ids (payload_types p (variant_args (var_type f v)) c) vs ≡ [] → ArePlain f vs
      by None at a b = let n : rule.UNKNOWN_NAME ∷ [] ≡ [] = rw (r.at_args, at, r.declared) at a in absurd (filled_not_empty rule.UNKNOWN_NAME [] n)
      by (Some d) at a b =
          let n : unless (length vs == length d.payload) rule.WRONG_COUNT ≡ [] = rw (r.at_args, at, r.declared) at a in
          let m : arm_vars_broken f ids (map (with_keys r.args) d.payload) vs ≡ [] = rw (r.at_args, at) at b in
          arm_plain f (map (with_keys r.args) d.payload) vs ids (payload_plain r.args d.payload (λ j ty q. types.payloads r.type c d at j ty q))
          (eqb-true (length vs) (length d.payload) (unless_holds (length vs == length d.payload) rule.WRONG_COUNT n) ∙ sym (long (with_keys r.args) d.payload)) m
        where
          long : (go : Ty → Ty) (xs : List Ty) → length (map go xs) ≡ length xs
          long go [] = refl
          long go (x ∷ xs) = ap suc (long go xs)

  pub variant_var : (f : Func) (is : IsFunction p f) (v : ℕ) (arms : Arms) (ids : Ids) → switch_broken p f ids v arms ≡ [] → IsVariantVar p f v
  variant_var f is v arms ids e =
      let a = both_empty (use_broken f ids v ++ wanted_of_variant) _ e in
      let b = both_empty (use_broken f ids v) wanted_of_variant a.left in
      let d = used_declared f ids v b.left in
      by d.ty d.is (subst (λ o. wanted_switch o ≡ []) d.is b.right)
    where
      wanted_switch : Option Ty → Rules
      wanted_switch o = Rattle.vlt_core.specs.KindedHeads.when_some o (λ ty. unless (is_variant_type ty) rule.WRONG_SWITCH)

      wanted_of_variant : Rules
      wanted_of_variant = wanted_switch (var_type f v)

      by : (ty : Ty) → var_type f v ≡ Some ty → wanted_switch (Some ty) ≡ [] → IsVariantVar p f v
      by (core.variant t args) q e = record { type = t; args = args; at_args = ap variant_args q; declared = types.variables f is v (core.variant t args) q }
      by (core.owning_variant t args) q e = record { type = t; args = args; at_args = ap variant_args q; declared = types.variables f is v (core.owning_variant t args) q }
      by core.int q e = absurd (filled_not_empty rule.WRONG_SWITCH [] e)
      by core.bool q e = absurd (filled_not_empty rule.WRONG_SWITCH [] e)
      by (tracked j u others) q e = absurd (filled_not_empty rule.WRONG_SWITCH [] e)
      by (core.owning st u others) q e = absurd (filled_not_empty rule.WRONG_SWITCH [] e)
      by (core.guarded j u others) q e = absurd (filled_not_empty rule.WRONG_SWITCH [] e)

  module _ (m : Meaning) (rest_named : AreNamed m) where
    -- a call, after its arguments
    called_named : (f : Func) (is : IsFunction p f) (ids : Ids) (n : ℕ) (g : Func) (target : Option ℕ) (keys : List ℕ) (os : List core.Operand) (values : List Value) (s s2 : Frame) (w : World) →
        slice_get p.fns n ≡ Some g → (call : IsKnownCall p f ids g target keys os) → IsInScope f ids s → Emptied s s2 →
        Rattle.c_lower_worlds.proofs.OfNaming.NamedOperands.AreOfTys s2.keys (map (with_keys keys) (Rattle.vlt_core.specs.KindedHeads.parameters_of g)) values → (b : Bool) → g.external ≡ b →
        Promise f ids (with_call_target f (Some g) target ids).vars s (run.call_by b setup m f target keys (called_instance p g keys s2 w.objects) values s2 w)
    unfolding run.call_by run.call_body
    called_named f is ids n g target keys os values s s2 w at call h em of b e =
        subst (λ (x : Ids). Promise f ids x.vars s (run.call_by b setup m f target keys gi values s2 w)) (aims_same p g o f ids target) (by b e)
      where
        -- the instance that runs
        o : Option ℕ
        o = option_map (λ b. state_under keys s2 w.objects b.key) (bound_in g.clause)

        gi : Func
        gi = instance p g o

        head : IsHeaded gi
        head = headed_instance p g o (headed p kinded n g at)

        called : IsKnownCall p f ids gi target keys os
        called = known_instance p g o f ids target keys os call

        body_rows_of : g.external ≡ false → EachEmpty (stmts_rows p gi (record { jumps = false; returns = true }) (first_ids p gi) false g.body)
        body_rows_of e =
            subst EachEmpty (ap (λ b. if b then [] else stmts_rows p gi (record { jumps = false; returns = true }) (first_ids p gi) false g.body) e)
            (subst EachEmpty (sym (body_rows_same p g o)) ((Rattle.vlt_core_laws.proofs.Headed.function_empty p n g (Rattle.vlt_core_laws.proofs.Headed.kinded_parts p kinded) at).1).1)

        by : (b : Bool) → g.external ≡ b → Promise f ids (with_call_target f (Some gi) target ids).vars s (run.call_by b setup m f target keys gi values s2 w)
        by true e = external_named p f (range_of f is) ids gi head keys os heap target values s s2 w called h em
        by false e =
            if_holds (Promise f ids (with_call_target f (Some gi) target ids).vars s) (λ o w. tt) (nat_lt s2.depth depth) _ (step.ends source.depth_end w)
            (found_holds (Promise f ids (with_call_target f (Some gi) target ids).vars s) (λ o w. tt) _ w _ (λ ns e2.
            back_named p f (range_of f is) ids gi head keys os target values s s2 _ _ called h em
            (rest_named gi g.body (record { jumps = false; returns = true }) (first_ids p gi) false (callee_frame gi keys values s2) _
            (record { number = n; function = record { declared = g; origin = o; at = at; is = refl }; has_body = e })
            (body_rows_of e) (callee_in_scope p kinded gi keys values s2 head called.listed of)))) tt

    mutual
      pub form_named : (form : Form) (f : Func) (is : IsFunction p f) (around : Around) (ids : Ids) (s : Frame) (w : World) → row_broken p f around ids form ≡ [] → EachEmpty (form_rows p f around ids form) → IsInScope f ids s →
          Promise f ids (ids_following p f form ids).vars s (run.does_form setup m f form s w)
      form_named (core.simple x) f is around ids s w row rows h = simple_named p types heap depth f is (range_of f is) ids x s w row h
      form_named (core.call g target keys os) f is around ids s w row rows h =
          found_holds (Promise f ids (with_call_target f (slice_get p.fns g) target ids).vars s) (λ o w. tt) (or_fault source.missing (slice_get p.fns g)) w _ (λ gf e.
          let at = or_fault_ok source.missing (slice_get p.fns g) gf e in
          let call = known_call p kinded f ids g gf target keys os is at (subst (λ o. call_broken p f ids o target keys os ≡ []) at row) in
          subst (λ o. Promise f ids (with_call_target f o target ids).vars s
          (step.where_so (length os == gf.params) source.missing None w (λ w. with_operands p f os s w (λ values frame w. step.spend w (λ w. run.call_by gf.external setup m f target keys (called_instance p gf keys frame w.objects) values frame w))))) (sym at)
          (so_holds (Promise f ids (with_call_target f (Some gf) target ids).vars s) (λ o w. tt) _ _ _ w _ (λ long.
          operands_named (Promise f ids (with_call_target f (Some gf) target ids).vars s) (λ o w. tt) p types f is ids (map (with_keys keys) (Rattle.vlt_core.specs.KindedHeads.parameters_of gf)) os s w _ call.fits h.names
          (λ values s2 w2 em of.
          spend_holds (Promise f ids (with_call_target f (Some gf) target ids).vars s) (λ o w. tt) w2 _ (λ w3.
          called_named f is ids g gf target keys os values s s2 w3 at call h em
          (subst (λ K. Rattle.c_lower_worlds.proofs.OfNaming.NamedOperands.AreOfTys K (map (with_keys keys) (Rattle.vlt_core.specs.KindedHeads.parameters_of gf)) values) (sym em.keys) of) gf.external refl)))))
      form_named (core.choose e a b) f is around ids s w row rows h =
          found_holds (Promise f ids (ids_following_block p f b (ids_following_block p f a ids)).vars s) (λ o w. tt) _ w _ (λ z q.
          let ids2 = ids_following_block p f a ids in
          let first = each_left (block_rows p f around ids a) (block_rows p f around ids2 b) rows in
          let known2 = block_known p f (range_of f is) a around ids first h.known in
          let goes = block_goes p f (range_of f is) a around ids first in
          if_holds (Promise f ids (ids_following_block p f b ids2).vars s) (λ o w. tt) (is_true z) _ _
          (promise_from f ids ids ids.vars (ids_following_block p f b ids2).vars s s _ h.known (record { vars = λ v i. i; ever = λ k i. i })
          (λ v i. subst (λ vs. has vs v ≡ true) (block_vars p f b ids2 ∙ block_vars p f a ids) i) (λ k i. refl)
          (block_named a f is around ids s w first h))
          (promise_from f ids ids2 ids2.vars (ids_following_block p f b ids2).vars s s _ h.known (record { vars = λ v i. goes.vars_stay v i; ever = λ k i. goes.grows (core.a_key k) i })
          (λ v i. subst (λ vs. has vs v ≡ true) (block_vars p f b ids2) i) (λ k i. refl)
          (block_named b f is around ids2 s w (each_right (block_rows p f around ids a) (block_rows p f around ids2 b) rows)
          (record { known = known2; names = subst (λ vs. NamesRight f vs s) (sym (block_vars p f a ids)) h.names }))))
      form_named (core.loop e b) f is around ids s w row rows h =
          spend_holds (Promise f ids (ids_following_block p f b ids).vars s) (λ o w. tt) w _ (λ w1.
          found_holds (Promise f ids (ids_following_block p f b ids).vars s) (λ o w. tt) _ w1 _ (λ z q.
          if_holds (Promise f ids (ids_following_block p f b ids).vars s) (λ o w. tt) (is_true z) _ (step.goes s w1)
          (turn_named f ids (ids_following_block p f b ids).vars s _ (m f (next 0 (core.loop e b) done)) h.known (λ v i. subst (λ vs. has vs v ≡ true) (block_vars p f b ids) i)
          (block_named b f is (in_loop around) ids s w1 rows h)
          (λ s2 w2 r. rest_named f (next 0 (core.loop e b) done) around ids false s2 w2 is (row, none_more (form_rows p f around ids (core.loop e b)) rows) (record { known = h.known; names = r.names })))
          (record { names = subst (λ vs. NamesRight f vs s) (sym (block_vars p f b ids)) h.names; kept = λ k i. refl })))
        where
          none_more : (xs : List Rules) → EachEmpty xs → EachEmpty (xs ++ [])
          none_more [] e = tt
          none_more (x ∷ xs) e = (e.0, none_more xs e.1)
      form_named (core.switch v arms end) f is around ids s w row rows h =
          found_holds (Promise f ids (ids_following_arms p f arms ids).vars s) (λ o w. tt) _ w _ (λ t e.
          found_holds (Promise f ids (ids_following_arms p f arms ids).vars s) (λ o w. tt) _ w _ (λ c e2.
          opened_holds (Promise f ids (ids_following_arms p f arms ids).vars s) (λ o w. tt) _ c.keys s w _ (λ w1.
          let parts = both_empty (switch_broken p f ids v arms) (arms_broken p f ids v arms) row in
          let em = emptied_switch f v s in
          promise_from f ids ids (ids_following_arms p f arms ids).vars (ids_following_arms p f arms ids).vars s (with_empty_variable f v s) _ h.known (record { vars = λ v i. i; ever = λ k i. i }) (λ v i. i)
          (λ k i. ap (λ (keys : ℕ → Option ℕ). keys k) em.keys)
          (arms_named arms f is v around ids c (with_empty_variable f v s) w1 (variant_var f is v arms ids parts.left) parts.right rows
          (record { known = h.known; names = emptied_names f ids.vars s (with_empty_variable f v s) em h.names })))))
      form_named (core.focus y z b) f is around ids s w row rows h =
          found_holds (Promise f ids ids.vars s) (λ o w. tt) _ w _ (λ g e.
          found_holds (Promise f ids ids.vars s) (λ o w. tt) (or_fault source.missing (reference_of f z)) w _ (λ q e2.
          found_holds (Promise f ids ids.vars s) (λ o w. tt) _ w _ (λ a e3.
          found_holds (Promise f ids ids.vars s) (λ o w. tt) _ w _ (λ n e4.
          let parts = both_empty (focus_broken p f ids y z) (list_broken p f [] (with_focus f z ids) b) row in
          let start = focus_starts f y z ids s q n.number is parts.left (or_fault_ok source.missing (reference_of f z) q e2) h in
          focus_end_named f ids ids.vars s setup g q a.number n.number _
          (promise_from f ids (with_focus f z ids) (with_focus f z ids).vars ids.vars s _ _ h.known (focus_wide f is z ids) (focus_wide f is z ids).vars start.kept
          (block_named b f is in_focus (with_focus f z ids) _ _ rows (record { known = focus_known p f (range_of f is) y z ids parts.left h.known; names = start.names })))))))
      form_named (core.scope b) f is around ids s w row rows h =
          promise_from f ids ids ids.vars (ids_following_block p f b ids).vars s s _ h.known (record { vars = λ v i. i; ever = λ k i. i })
          (λ v i. subst (λ vs. has vs v ≡ true) (block_vars p f b ids) i) (λ k i. refl) (block_named b f is around ids s w rows h)
      form_named (core.return value) f is around ids s w row rows h =
          return_named p types heap depth f is ids value s w (both_empty (unless around.returns rule.WRONG_JUMP) (return_broken p f ids f.result value) row).right h.names
      form_named (core.jump c) f is around ids s w row rows h = same_arrives f ids s s (emptied_self s) h.names

      pub block_named : (b : Block) (f : Func) (is : IsFunction p f) (around : Around) (ids : Ids) (s : Frame) (w : World) → EachEmpty (block_rows p f around ids b) → IsInScope f ids s →
          Promise f ids ids.vars s (run.does_block setup m f b s w)
      block_named (block ss bound end) f is around ids s w rows h =
          let goes = stmts_go p f (range_of f is) ss around (at_block_start ids) false rows in
          left_named f ids ids.vars s bound _
          (promise_from f ids (at_block_start ids) (ids_following_stmts p f ss (at_block_start ids)).vars ids.vars s s _ h.known (record { vars = λ v i. i; ever = λ k i. i }) (λ v i. goes.vars_stay v i) (λ k i. refl)
          (stmts_named ss f is around (at_block_start ids) false s w rows (record { known = start_known f ids h.known; names = h.names })))

      pub stmts_named : (ss : Stmts) (f : Func) (is : IsFunction p f) (around : Around) (ids : Ids) (ended : Bool) (s : Frame) (w : World) → EachEmpty (stmts_rows p f around ids ended ss) → IsInScope f ids s →
          Promise f ids (ids_following_stmts p f ss ids).vars s (run.does_stmts setup m f ss s w)
      stmts_named done f is around ids ended s w rows h = same_arrives f ids s s (emptied_self s) h.names
      stmts_named (next at form rest) f is around ids ended s w rows h =
          let row = right_empty (unless (not ended) rule.AFTER_END) (row_broken p f around ids form) rows.0 in
          let mine = each_left (form_rows p f around ids form) (stmts_rows p f around (ids_following p f form ids) (ends form) rest) rows.1 in
          let goes = form_goes p f (range_of f is) form around ids row mine in
          then_named f ids (ids_following p f form ids) (ids_following_stmts p f rest (ids_following p f form ids)).vars s _ (run.does_stmts setup m f rest) h.known
          (record { vars = λ v i. goes.vars_stay v i; ever = λ k i. goes.grows (core.a_key k) i })
          (form_named form f is around ids s w row mine h)
          (λ s2 w2 r. stmts_named rest f is around (ids_following p f form ids) (ends form) s2 w2 (each_right (form_rows p f around ids form) (stmts_rows p f around (ids_following p f form ids) (ends form) rest) rows.1)
          (record { known = form_known p f (range_of f is) form around ids row mine h.known; names = r.names }))

      arms_named : (arms : Arms) (f : Func) (is : IsFunction p f) (v : ℕ) (around : Around) (ids : Ids) (c : Case) (s : Frame) (w : World) → IsVariantVar p f v → arms_broken p f ids v arms ≡ [] →
          EachEmpty (arms_rows p f around ids arms) → IsInScope f ids s → Promise f ids (ids_following_arms p f arms ids).vars s (run.does_arm setup m f c arms s w)
      arms_named no_arms f is v around ids c s w var broken rows h = tt
      arms_named (arm n vs b rest) f is v around ids c s w var broken rows h =
          let ids1 = with_vars f vs ids in
          let ids2 = left_behind ids (ids_following_block p f b ids1) in
          let parts = both_empty (arm_broken p f ids v n vs ++ list_broken p f (owning_toks f vs) ids1 b) (arms_broken p f ids2 v rest) broken in
          let mine = both_empty (arm_broken p f ids v n vs) (list_broken p f (owning_toks f vs) ids1 b) parts.left in
          let vars = both_empty (case_broken p n (length vs) (variant_args (var_type f v))) (arm_vars_broken f ids (payload_types p (variant_args (var_type f v)) n) vs) mine.left in
          let block_row = each_left (block_rows p f around ids1 b) (arms_rows p f around ids2 rest) rows in
          let known2 = arm_known p f (range_of f is) vs b around ids block_row h.known in
          let ever : (k : ℕ) → has ids.keys_ever k ≡ true → has ids1.keys_ever k ≡ true = λ k i. vars_grow p f (range_of f is) vs ids (core.a_key k) i in
          if_holds (Promise f ids (ids_following_arms p f rest ids2).vars s) (λ o w. tt) (c.number == n) _ _
          (arm_filled (Promise f ids (ids_following_arms p f rest ids2).vars s) (λ o w. tt) f vs _ ids s w _ (arm_vars_plain f is v n vs ids var mine.left) h.names (λ s2 names keys.
          promise_from f ids ids1 ids1.vars (ids_following_arms p f rest ids2).vars s s2 _ h.known (record { vars = vars_more p f vs ids; ever = ever })
          (λ u i. vars_more p f vs ids u (subst (λ us. has us u ≡ true) (arms_vars p f rest ids2) i)) (λ k i. ap (λ (keys : ℕ → Option ℕ). keys k) keys)
          (block_named b f is around ids1 s2 w block_row (record { known = vars_known f (range_of f is) vs (payload_types p (variant_args (var_type f v)) n) ids vars.right h.known; names = names }))))
          (promise_from f ids ids2 (ids_following_arms p f rest ids2).vars (ids_following_arms p f rest ids2).vars s s _ h.known
          (record { vars = λ u i. i; ever = λ k i. (block_goes p f (range_of f is) b around ids1 block_row).grows (core.a_key k) (ever k i) }) (λ u i. i) (λ k i. refl)
          (arms_named rest f is v around ids2 c s w var parts.right (each_right (block_rows p f around ids1 b) (arms_rows p f around ids2 rest) rows) (record { known = known2; names = h.names })))

  -- by induction on the units of fuel that are left
  pub less_named : (n : ℕ) → AreNamed (run.less setup n)
  less_named zero f ss around ids ended s w is rows h = tt
  less_named (suc n) f ss around ids ended s w is rows h = stmts_named (run.less setup n) (less_named n) ss f is around ids ended s w rows h

-- ---- the law

pub names_are_kept : NamesAreKept
names_are_kept p kinded heap depth n f ss around ids ended s w is rows scope =
    less_named p kinded (types_fit p kinded) heap depth n f ss around ids ended s w is (each_of_first 0 (stmts_rows p f around ids ended ss) rows) scope
