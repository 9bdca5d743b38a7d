-- Statements that break no rule name variables and keys of their function.
use Rattle.std.proofs.Common.{◌≡◌, ◌≤◌, ℕ, Bool, true, false, not, ◌&&◌, if◌then◌else◌, List, [], ◌∷◌, ◌++◌, length, Option, Some, None, refl, sym, subst}
use Rattle.std.specs.Prelude.{nat_lt, slice_get, IfSome}
use Rattle.std.specs.List.{flat_map}
use Rattle.vlt_core.specs.Core as core
use Rattle.vlt_core.specs.Core.{Ty, Operand, Simple, set, input, print, put, make, become, release, drop, own, unpack, build, swap, open_into, adopt, Func, Program}
use Rattle.vlt_core.specs.KindedHeads.{Rules, unless, has}
use Rattle.vlt_core.specs.KindedScopes.{Ids, Around, at_block_start, left_behind, with_binding, with_var, own_key, use_broken, binding_broken, target_broken}
use Rattle.vlt_core.specs.KindedOperands.{misfit}
use Rattle.vlt_core.specs.KindedStatements.{opened_broken, simple_broken}
use Rattle.vlt_core.specs.KindedCalls.{is_fresh_call, keys_fit, result_broken_by, call_target_broken, target_alone_broken, call_broken}
use Rattle.vlt_core.specs.KindedBodies.{in_loop, in_focus, with_focus, with_vars, ends, ids_following, ids_following_block, switch_broken, arm_vars_broken, arm_broken, focus_broken, list_broken, owning_toks, arms_broken, row_broken, form_rows, block_rows, stmts_rows, arms_rows}
use Rattle.vlt_core.specs.declared.rules.TheConstants as rule
use Rattle.vlt_core_laws.proofs.Unbroken.{left_empty, right_empty, unless_holds, filled_not_empty, each_left, each_right}
use Rattle.vlt_core_laws.specs.Unbroken.{EachEmpty}
use Rattle.vlt_core_laws.proofs.Binding.{in_range}
use Rattle.vlt_core_laws.proofs.Headed.{each_at}
use Rattle.vlt_interp.specs.Tasks.Own.{IsVar, AreVars, IsOwnSimple, IsOwnCall, IsOwn, IsOwnBlock, AreOwn, AreOwnArms}
use Rattle.vlt_run_laws.proofs.Keys.{less}

module _ (p : Program) (f : Func) where
  used : (ids : Ids) (v : ℕ) → use_broken f ids v ≡ [] → IsVar f v
  used ids v e = less v (length f.vars) (in_range (nat_lt v (length f.vars)) _ e)

  bound : (ids : Ids) (fresh : Option ℕ) (v : ℕ) → binding_broken f ids fresh v ≡ [] → IsVar f v
  bound ids fresh v e = less v (length f.vars) (in_range (nat_lt v (length f.vars)) _ e)

  target : (ids : Ids) (v : ℕ) → target_broken f ids v ≡ [] → IsVar f v
  target ids v e = less v (length f.vars) (by (has ids.vars v) (nat_lt v (length f.vars)) _ e)
    where
      by : (b c : Bool) (xs : Rules) → (if b && c then [] else (if c then xs else rule.UNKNOWN_NAME ∷ [])) ≡ [] → c ≡ true
      by true true xs e = refl
      by true false xs e = absurd (filled_not_empty _ _ e)
      by false true xs e = refl
      by false false xs e = absurd (filled_not_empty _ _ e)

  opened : (vs : List ℕ) (ws : List Ty) (ids : Ids) → opened_broken p f ids ws vs ≡ [] → AreVars f vs
  opened [] ws ids e = tt
  opened (v ∷ vs) [] ids e =
      let ids2 = with_binding f None v ids in
      (bound ids None v (left_empty (binding_broken f ids None v) (opened_broken p f ids2 [] vs) e), opened vs [] ids2 (right_empty (binding_broken f ids None v) (opened_broken p f ids2 [] vs) e))
  opened (v ∷ vs) (w ∷ ws) ids e =
      let ids2 = with_binding f None v ids in
      let front = left_empty (misfit (Some w) _ ++ binding_broken f ids None v) (opened_broken p f ids2 ws vs) e in
      (bound ids None v (right_empty (misfit (Some w) _) (binding_broken f ids None v) front), opened vs ws ids2 (right_empty (misfit (Some w) _ ++ binding_broken f ids None v) (opened_broken p f ids2 ws vs) e))

  own_simple : (s : Simple) (ids : Ids) → simple_broken p f ids s ≡ [] → IsOwnSimple f s
  own_simple (set v e) ids b = target ids v (right_empty _ (target_broken f ids v) b)
  own_simple (input v more) ids b = target ids v (right_empty _ (target_broken f ids v) b)
  own_simple (print e) ids b = tt
  own_simple (put x i e) ids b = tt
  own_simple (make x args) ids b = bound ids (own_key f x) x (right_empty _ (binding_broken f ids (own_key f x) x) b)
  own_simple (become x state) ids b = tt
  own_simple (release x) ids b = tt
  own_simple (drop v) ids b = used ids v (left_empty (use_broken f ids v) _ b)
  own_simple (own v value) ids b = target ids v (right_empty _ (target_broken f ids v) b)
  own_simple (unpack x v) ids b = bound ids (own_key f x) x (right_empty _ (binding_broken f ids (own_key f x) x) b)
  own_simple (build v case args) ids b = target ids v (right_empty _ (target_broken f ids v) b)
  own_simple (swap x i v) ids b = used ids v (right_empty _ (use_broken f ids v) (left_empty _ _ b))
  own_simple (open_into x vs) ids b = opened vs _ ids (right_empty _ (opened_broken p f ids _ vs) b)
  own_simple (adopt y x r) ids b = target ids y (right_empty _ (target_broken f ids y) b)

  -- ---- calls

  own_target : (g : Func) (ids : Ids) (keys : List ℕ) (v : Option ℕ) → call_target_broken f ids g keys v ≡ [] → IfSome v (IsVar f)
  own_target g ids keys None e = tt
  own_target g ids keys (Some v) e = by (is_fresh_call g) (right_empty (result_broken_by g keys g.result _) _ e)
    where
      by : (b : Bool) → (if b then binding_broken f ids (own_key f v) v else target_broken f ids v) ≡ [] → IsVar f v
      by true e = bound ids (own_key f v) v e
      by false e = target ids v e

  abbrev key_test : ℕ → Rules
  key_test k = unless (nat_lt k (length f.keys)) rule.UNKNOWN_NAME

  own_call : (n : ℕ) (o : Option Func) → slice_get p.fns n ≡ o → ((g : Func) (keys : List ℕ) → o ≡ Some g → keys_fit g keys ≡ true → length keys ≤ length g.keys) →
      (v : Option ℕ) (keys : List ℕ) (args : List Operand) (ids : Ids) → call_broken p f ids o v keys args ≡ [] → IsOwnCall p f n v keys
  own_call n None is few v keys args ids e =
      absurd (filled_not_empty _ _ (right_empty (flat_map key_test keys) (rule.UNKNOWN_NAME ∷ _) (left_empty _ (target_alone_broken f ids v) e)))
  own_call n (Some g) is few v keys args ids e =
      let e5 = left_empty _ (call_target_broken f ids g keys v) e in
      let e4 = left_empty _ _ e5 in
      let e3 = left_empty _ _ e4 in
      let e2 = left_empty _ _ (left_empty _ _ e3) in
      let range = left_empty (flat_map key_test keys) (unless (keys_fit g keys) rule.TWO_CALLER_KEYS) e2 in
      let fit = unless_holds (keys_fit g keys) rule.TWO_CALLER_KEYS (right_empty (flat_map key_test keys) (unless (keys_fit g keys) rule.TWO_CALLER_KEYS) e2) in
      record {
        target = own_target g ids keys v (right_empty _ (call_target_broken f ids g keys v) e);
        keys = λ i k at. less k (length f.keys) (unless_holds (nat_lt k (length f.keys)) rule.UNKNOWN_NAME (each_at key_test keys i k range at));
        head = subst (λ o. IfSome o (λ callee. length keys ≤ length callee.keys)) (sym is) (few g keys refl fit);
      }

  -- ---- arms

  arm_vars : (vs : List ℕ) (ws : List Ty) (ids : Ids) → arm_vars_broken f ids ws vs ≡ [] → AreVars f vs
  arm_vars [] ws ids e = tt
  arm_vars (v ∷ vs) [] ids e =
      let ids2 = with_var f v ids in
      (bound ids None v (left_empty (binding_broken f ids None v) (arm_vars_broken f ids2 [] vs) e), arm_vars vs [] ids2 (right_empty (binding_broken f ids None v) (arm_vars_broken f ids2 [] vs) e))
  arm_vars (v ∷ vs) (w ∷ ws) ids e =
      let ids2 = with_var f v ids in
      let front = left_empty (misfit (Some w) _ ++ binding_broken f ids None v) (arm_vars_broken f ids2 ws vs) e in
      (bound ids None v (right_empty (misfit (Some w) _) (binding_broken f ids None v) front), arm_vars vs ws ids2 (right_empty (misfit (Some w) _ ++ binding_broken f ids None v) (arm_vars_broken f ids2 ws vs) e))

  -- ---- all forms

  module _ (few : (n : ℕ) (g : Func) (keys : List ℕ) → slice_get p.fns n ≡ Some g → keys_fit g keys ≡ true → length keys ≤ length g.keys) where
    mutual
      own_form : (s : core.Form) (around : Around) (ids : Ids) → row_broken p f around ids s ≡ [] → EachEmpty (form_rows p f around ids s) → IsOwn p f s
      own_form (core.simple s) around ids e rows = own_simple s ids e
      own_form (core.call g v keys args) around ids e rows = own_call g (slice_get p.fns g) refl (few g) v keys args ids e
      own_form (core.choose x a b) around ids e rows =
          let ids2 = ids_following_block p f a ids in (
            own_block a around ids (each_left (block_rows p f around ids a) (block_rows p f around ids2 b) rows),
            own_block b around ids2 (each_right (block_rows p f around ids a) (block_rows p f around ids2 b) rows),
          )
      own_form (core.loop x b) around ids e rows = own_block b (in_loop around) ids rows
      own_form (core.switch v arms end) around ids e rows = (
        used ids v (left_empty (use_broken f ids v) _ (left_empty _ _ (left_empty (switch_broken p f ids v arms) (arms_broken p f ids v arms) e))),
        own_arms arms around v ids (right_empty (switch_broken p f ids v arms) (arms_broken p f ids v arms) e) rows,
      )
      own_form (core.focus y z b) around ids e rows = (
        bound ids (own_key f z) z (right_empty _ (binding_broken f ids (own_key f z) z) (left_empty (focus_broken p f ids y z) _ e)),
        own_block b in_focus (with_focus f z ids) rows,
      )
      own_form (core.scope b) around ids e rows = own_block b around ids rows
      own_form (core.return value) around ids e rows = tt
      own_form (core.jump continues) around ids e rows = tt

      own_block : (b : core.Block) (around : Around) (ids : Ids) → EachEmpty (block_rows p f around ids b) → IsOwnBlock p f b
      own_block (core.block ss bound end) around ids rows = own_stmts ss around (at_block_start ids) false rows

      pub own_stmts : (ss : core.Stmts) (around : Around) (ids : Ids) (ended : Bool) → EachEmpty (stmts_rows p f around ids ended ss) → AreOwn p f ss
      own_stmts core.done around ids ended rows = tt
      own_stmts (core.next at s rest) around ids ended rows = (
        own_form s around ids (right_empty (unless (not ended) rule.AFTER_END) (row_broken p f around ids s) rows.0)
            (each_left (form_rows p f around ids s) (stmts_rows p f around (ids_following p f s ids) (ends s) rest) rows.1),
        own_stmts rest around (ids_following p f s ids) (ends s) (each_right (form_rows p f around ids s) (stmts_rows p f around (ids_following p f s ids) (ends s) rest) rows.1),
      )

      own_arms : (arms : core.Arms) (around : Around) (v : ℕ) (ids : Ids) → arms_broken p f ids v arms ≡ [] → EachEmpty (arms_rows p f around ids arms) → AreOwnArms p f arms
      own_arms core.no_arms around v ids e rows = tt
      own_arms (core.arm c vs b rest) around v ids e rows =
          let ids2 = with_vars f vs ids in
          let ids3 = left_behind ids (ids_following_block p f b ids2) in
          let front = left_empty (arm_broken p f ids v c vs ++ list_broken p f (owning_toks f vs) ids2 b) (arms_broken p f ids3 v rest) e in
          let own = left_empty (arm_broken p f ids v c vs) (list_broken p f (owning_toks f vs) ids2 b) front in (
            arm_vars vs _ ids (right_empty _ (arm_vars_broken f ids _ vs) own),
            own_block b around ids2 (each_left (block_rows p f around ids2 b) (arms_rows p f around ids3 rest) rows),
            own_arms rest around v ids3 (right_empty (arm_broken p f ids v c vs ++ list_broken p f (owning_toks f vs) ids2 b) (arms_broken p f ids3 v rest) e)
                (each_right (block_rows p f around ids2 b) (arms_rows p f around ids3 rest) rows),
          )
