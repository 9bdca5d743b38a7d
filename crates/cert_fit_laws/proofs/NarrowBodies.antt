-- Statements of a body that breaks no rule have narrow numbers.
use Rattle.std.proofs.Common.{◌≡◌, ℕ, suc, nat_lt, Bool, false, not, ◌&&◌, ◌==◌, if◌then◌else◌, List, [], ◌∷◌, ◌++◌, length, Option, Some, None}
use Rattle.std.specs.List.{list_all}
use Rattle.vlt_core.specs.Core as core
use Rattle.vlt_core.specs.Core.{Ty, bool, Tok, Form, Block, Stmts, Arms, Func, Program}
use Rattle.vlt_core.specs.Lookups.{var_type, cases_of}
use Rattle.vlt_core.specs.Types.{decl_of, is_variant}
use Rattle.vlt_core.specs.KindedHeads.{Rules, unless, when_some, are_apart}
use Rattle.vlt_core.specs.KindedScopes.{Ids, Around, at_block_start, left_behind, own_key, with_var, use_broken, binding_broken}
use Rattle.vlt_core.specs.KindedOperands.{misfit, value_broken}
use Rattle.vlt_core.specs.KindedStatements.{variant_args, payload_types, case_broken, is_variant_type}
use Rattle.vlt_core.specs.KindedCalls.{return_broken}
use Rattle.vlt_core.specs.KindedBodies.{ends, arm_cases, switch_broken, owning_toks, with_vars, arm_vars_broken, arm_broken, focus_broken, in_loop, in_focus, with_focus, ids_following, ids_following_block, ids_following_stmts, list_broken, arms_broken, row_broken, form_rows, block_rows, stmts_rows, arms_rows}
use Rattle.vlt_core.specs.declared.rules.TheConstants as rule
use Rattle.vlt_core_laws.proofs.Unbroken.{left_empty, right_empty, each_left, each_right}
use Rattle.vlt_core_laws.specs.Unbroken.{EachEmpty}
use Rattle.cert_rows.specs.Parts.{All}
use Rattle.cert_fit_laws.proofs.Narrow.{IsId, IsNarrow, IsNarrowBlock, AreNarrow, AreNarrowArms}
use Rattle.cert_fit_laws.specs.Limits.{IsLimited, IsLimitedBlock, AreLimited, AreLimitedArms}
use Rattle.cert_fit_laws.proofs.Masked.{IsMasked, IsMaskedBlock, AreMasked, AreMaskedArms}
use Rattle.cert_fit_laws.proofs.NarrowNumbers.{Bounds, use_there, use_id, binding_id, tokens_fit}
use Rattle.cert_fit_laws.proofs.NarrowParts.{value_narrow, Variant, variant_there, case_low}
use Rattle.cert_fit_laws.proofs.NarrowSimple.{simple_narrow, call_narrow, return_narrow}

module _ (p : Program) (f : Func) (b : Bounds p f) where
  -- `switch_broken` by its clauses
  abbrev covers : (cs : List ℕ) → ℕ → Bool
  covers cs n = are_apart cs && length cs == n && list_all (λ c. nat_lt c n) cs

  abbrev of_variant : (cs : List ℕ) → Option (ℕ × List ℕ) → Rules
  of_variant cs None = []
  of_variant cs (Some o) = if is_variant (decl_of p o.0) then unless (covers cs (length (cases_of p o.0))) rule.WRONG_SWITCH else []

  arm_vars_low : (ids : Ids) (ws : List Ty) (vs : List ℕ) → arm_vars_broken f ids ws vs ≡ [] → All IsId vs
  arm_vars_low ids ws [] e = tt
  arm_vars_low ids [] (v ∷ vs) e = (
    binding_id p f b ids None v (left_empty (binding_broken f ids None v) (arm_vars_broken f (with_var f v ids) [] vs) e),
    arm_vars_low (with_var f v ids) [] vs (right_empty (binding_broken f ids None v) (arm_vars_broken f (with_var f v ids) [] vs) e),
  )
  arm_vars_low ids (w ∷ ws) (v ∷ vs) e =
      let first_part = left_empty (misfit (Some w) (var_type f v) ++ binding_broken f ids None v) (arm_vars_broken f (with_var f v ids) ws vs) e in (
        binding_id p f b ids None v (right_empty (misfit (Some w) (var_type f v)) (binding_broken f ids None v) first_part),
        arm_vars_low (with_var f v ids) ws vs (right_empty (misfit (Some w) (var_type f v) ++ binding_broken f ids None v) (arm_vars_broken f (with_var f v ids) ws vs) e),
      )

  mutual
    form_low : (deep : ℕ) (s : Form) (around : Around) (ids : Ids) → IsMasked s → IsLimited deep s → row_broken p f around ids s ≡ [] → EachEmpty (form_rows p f around ids s) → IsNarrow s
    form_low deep (core.simple s) around ids m n e rows = simple_narrow p f b ids s m e
    form_low deep (core.call g target keys os) around ids m n e rows = call_narrow p f b ids g target keys os m e
    form_low deep (core.choose x c d) around ids m n e rows =
        let following = ids_following_block p f c ids in
        let first_part = left_empty (value_broken p f ids (Some bool) x ++ list_broken p f [] ids c) (list_broken p f [] following d) e in (
          value_narrow p f b ids (Some bool) x (left_empty (value_broken p f ids (Some bool) x) (list_broken p f [] ids c) first_part),
          block_low (suc deep) c around ids ids [] m.0 n.1 (right_empty (value_broken p f ids (Some bool) x) (list_broken p f [] ids c) first_part) (each_left (block_rows p f around ids c) (block_rows p f around following d) rows),
          block_low (suc deep) d around following following [] m.1 n.2 (right_empty (value_broken p f ids (Some bool) x ++ list_broken p f [] ids c) (list_broken p f [] following d) e)
              (each_right (block_rows p f around ids c) (block_rows p f around following d) rows),
        )
    form_low deep (core.loop x c) around ids m n e rows = (
      value_narrow p f b ids (Some bool) x (left_empty (value_broken p f ids (Some bool) x) (list_broken p f [] ids c) e),
      block_low (suc deep) c (in_loop around) ids ids [] m n.1 (right_empty (value_broken p f ids (Some bool) x) (list_broken p f [] ids c) e) rows,
    )
    form_low deep (core.switch v arms end) around ids m n e rows =
        let own = left_empty (switch_broken p f ids v arms) (arms_broken p f ids v arms) e in
        let first_part = left_empty (use_broken f ids v ++ when_some (var_type f v) (λ ty. unless (is_variant_type ty) rule.WRONG_SWITCH)) (of_variant (arm_cases arms) (variant_args (var_type f v))) own in
        let used = left_empty (use_broken f ids v) (when_some (var_type f v) (λ ty. unless (is_variant_type ty) rule.WRONG_SWITCH)) first_part in
        let is = variant_there p f b v rule.WRONG_SWITCH (use_there p f b ids v used) (right_empty (use_broken f ids v) (when_some (var_type f v) (λ ty. unless (is_variant_type ty) rule.WRONG_SWITCH)) first_part) in
        (use_id p f b ids v used, arms_low (suc deep) v is arms around ids m n.1 (right_empty (switch_broken p f ids v arms) (arms_broken p f ids v arms) e) rows)
    form_low deep (core.focus y z c) around ids m n e rows =
        let own = left_empty (focus_broken p f ids y z) (list_broken p f [] (with_focus f z ids) c) e in (
          use_id p f b ids y (left_empty (use_broken f ids y) _ (left_empty _ _ (left_empty _ _ (left_empty _ (binding_broken f ids (own_key f z) z) own)))),
          binding_id p f b ids (own_key f z) z (right_empty _ (binding_broken f ids (own_key f z) z) own),
          block_low (suc deep) c in_focus (with_focus f z ids) (with_focus f z ids) [] m n.1 (right_empty (focus_broken p f ids y z) (list_broken p f [] (with_focus f z ids) c) e) rows,
        )
    form_low deep (core.scope c) around ids m n e rows = block_low (suc deep) c around ids ids [] m n.1 e rows
    form_low deep (core.return o) around ids m n e rows = return_narrow p f b ids f.result o m (right_empty (unless around.returns rule.WRONG_JUMP) (return_broken p f ids f.result o) e)
    form_low deep (core.jump c) around ids m n e rows = tt

    block_low : (deep : ℕ) (c : Block) (around : Around) (ids listed : Ids) (extra : List Tok) → IsMaskedBlock c → IsLimitedBlock deep c → list_broken p f extra listed c ≡ [] → EachEmpty (block_rows p f around ids c) → IsNarrowBlock c
    block_low deep (core.block ss bound end) around ids listed extra m n e rows =
        (n.0, tokens_fit p f b bound (extra ++ (ids_following_stmts p f ss (at_block_start listed)).bound) e, list_low deep ss around (at_block_start ids) false m n.1 rows)

    pub list_low : (deep : ℕ) (ss : Stmts) (around : Around) (ids : Ids) (ended : Bool) → AreMasked ss → AreLimited deep ss → EachEmpty (stmts_rows p f around ids ended ss) → AreNarrow ss
    list_low deep core.done around ids ended m n rows = tt
    list_low deep (core.next at s rest) around ids ended m n rows =
        let following = ids_following p f s ids in (
          form_low deep s around ids m.0 n.0 (right_empty (unless (not ended) rule.AFTER_END) (row_broken p f around ids s) rows.0) (each_left (form_rows p f around ids s) (stmts_rows p f around following (ends s) rest) rows.1),
          list_low deep rest around following (ends s) m.1 n.1 (each_right (form_rows p f around ids s) (stmts_rows p f around following (ends s) rest) rows.1),
        )

    arms_low : (deep v : ℕ) (is : Variant p f b v) (arms : Arms) (around : Around) (ids : Ids) → AreMaskedArms arms → AreLimitedArms deep arms → arms_broken p f ids v arms ≡ [] → EachEmpty (arms_rows p f around ids arms) → AreNarrowArms arms
    arms_low deep v is core.no_arms around ids m n e rows = tt
    arms_low deep v is (core.arm c vs d rest) around ids m n e rows =
        let inside = with_vars f vs ids in
        let following = left_behind ids (ids_following_block p f d inside) in
        let first_part = left_empty (arm_broken p f ids v c vs ++ list_broken p f (owning_toks f vs) inside d) (arms_broken p f following v rest) e in
        let own = left_empty (arm_broken p f ids v c vs) (list_broken p f (owning_toks f vs) inside d) first_part in
        let ws = payload_types p (variant_args (var_type f v)) c in (
          case_low p f b v c (length vs) is (left_empty (case_broken p c (length vs) (variant_args (var_type f v))) (arm_vars_broken f ids ws vs) own),
          arm_vars_low ids ws vs (right_empty (case_broken p c (length vs) (variant_args (var_type f v))) (arm_vars_broken f ids ws vs) own),
          block_low deep d around inside inside (owning_toks f vs) m.0 n.0 (right_empty (arm_broken p f ids v c vs) (list_broken p f (owning_toks f vs) inside d) first_part) (each_left (block_rows p f around inside d) (arms_rows p f around following rest) rows),
          arms_low deep v is rest around following m.1 n.1 (right_empty (arm_broken p f ids v c vs ++ list_broken p f (owning_toks f vs) inside d) (arms_broken p f following v rest) e)
              (each_right (block_rows p f around inside d) (arms_rows p f around following rest) rows),
        )
