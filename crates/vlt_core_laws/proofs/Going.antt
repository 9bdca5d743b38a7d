-- Each part of a body that breaks no rule leads on.
use Rattle.std.proofs.Common.{◌≡◌, ℕ, Bool, true, false, not, ◌==◌, if◌then◌else◌, List, [], ◌∷◌, ◌++◌, Option, Some, None, inl}
use Rattle.std.specs.Prelude.{nat_lt, length, slice_get}
use Rattle.vlt_core.specs.Core as core
use Rattle.vlt_core.specs.Core.{Ty, Tok, Simple, Func, Program, set, input, print, put, make, become, release, drop, own, unpack, build, swap, open_into, adopt}
use Rattle.vlt_core.specs.KindedHeads.{unless, has}
use Rattle.vlt_core.specs.KindedScopes.{Ids, Around, at_block_start, left_behind, with_key, with_var, with_binding, with_target, own_key, binding_broken, target_broken}
use Rattle.vlt_core.specs.KindedOperands.{misfit}
use Rattle.vlt_core.specs.KindedStatements.{with_bindings, opened_broken, simple_broken, ids_after}
use Rattle.vlt_core.specs.KindedCalls.{is_fresh_call, with_call_target, call_target_broken, call_broken}
use Rattle.vlt_core.specs.KindedBodies.{in_loop, in_focus, with_focus, with_vars, ends, ids_following, ids_following_block, ids_following_stmts, ids_following_arms, row_broken, form_rows, block_rows, stmts_rows, arms_rows}
use Rattle.vlt_core.specs.declared.rules.TheConstants as rule
use Rattle.vlt_core_laws.proofs.Unbroken.{left_empty, right_empty, each_left, each_right}
use Rattle.vlt_core_laws.specs.Unbroken.{EachEmpty}
use Rattle.vlt_core_laws.proofs.Ids.{was, type_keys, Goes, or_right, stays, goes_on}
use Rattle.vlt_core_laws.proofs.Binding.{binding_goes, target_goes, own_in_range}

-- a block that is left: only what was ever bound has changed
pub leaves : (f : Func) (ids last : Ids) → ((t : Tok) → was ids t ≡ true → was last t ≡ true) → Goes f ids (left_behind ids last)
leaves f ids last grows = record {
  grows = grows;
  kept = λ t e. e;
  added = λ t e. inl e;
  known = λ t e. inl e;
  keys = λ k e. inl e;
  vars = λ v e. inl e;
  typed = λ old. record { each = old.each };
  keys_stay = λ k e. e;
  vars_stay = λ v e. e;
}

module _ (p : Program) (f : Func) (ranged : (v k : ℕ) → has (type_keys f v) k ≡ true → nat_lt k (length f.keys) ≡ true) where
  pub opened_goes : (vs : List ℕ) (ws : List Ty) (ids : Ids) → opened_broken p f ids ws vs ≡ [] → Goes f ids (with_bindings f vs ids)
  opened_goes [] ws ids e = stays f ids
  opened_goes (v ∷ vs) [] ids e =
      let ids2 = with_binding f None v ids in
      goes_on f ids ids2 _ (binding_goes f ranged ids None v tt (left_empty (binding_broken f ids None v) (opened_broken p f ids2 [] vs) e))
      (opened_goes vs [] ids2 (right_empty (binding_broken f ids None v) (opened_broken p f ids2 [] vs) e))
  opened_goes (v ∷ vs) (w ∷ ws) ids e =
      let ids2 = with_binding f None v ids in
      let front = left_empty (misfit (Some w) _ ++ binding_broken f ids None v) (opened_broken p f ids2 ws vs) e in
      goes_on f ids ids2 _ (binding_goes f ranged ids None v tt (right_empty (misfit (Some w) _) (binding_broken f ids None v) front))
      (opened_goes vs ws ids2 (right_empty (misfit (Some w) _ ++ binding_broken f ids None v) (opened_broken p f ids2 ws vs) e))

  pub simple_goes : (s : Simple) (ids : Ids) → simple_broken p f ids s ≡ [] → Goes f ids (ids_after f s ids)
  simple_goes (set v e) ids b = target_goes f ranged ids v (right_empty _ (target_broken f ids v) b)
  simple_goes (input v more) ids b = target_goes f ranged ids v (right_empty _ (target_broken f ids v) b)
  simple_goes (print e) ids b = stays f ids
  simple_goes (put x i e) ids b = stays f ids
  simple_goes (make x args) ids b = binding_goes f ranged ids (own_key f x) x (own_in_range f ranged x) (right_empty _ (binding_broken f ids (own_key f x) x) b)
  simple_goes (become x state) ids b = stays f ids
  simple_goes (release x) ids b = stays f ids
  simple_goes (drop v) ids b = stays f ids
  simple_goes (own v value) ids b = target_goes f ranged ids v (right_empty _ (target_broken f ids v) b)
  simple_goes (unpack x v) ids b = binding_goes f ranged ids (own_key f x) x (own_in_range f ranged x) (right_empty _ (binding_broken f ids (own_key f x) x) b)
  simple_goes (build v case args) ids b = target_goes f ranged ids v (right_empty _ (target_broken f ids v) b)
  simple_goes (swap x i v) ids b = stays f ids
  simple_goes (open_into x vs) ids b = opened_goes vs _ ids (right_empty _ (opened_broken p f ids _ vs) b)
  simple_goes (adopt y x r) ids b = target_goes f ranged ids y (right_empty _ (target_broken f ids y) b)

  by_fresh : (b : Bool) (ids : Ids) (v : ℕ) → (if b then binding_broken f ids (own_key f v) v else target_broken f ids v) ≡ [] →
      Goes f ids (if b then with_binding f (own_key f v) v ids else with_target f v ids)
  by_fresh true ids v e = binding_goes f ranged ids (own_key f v) v (own_in_range f ranged v) e
  by_fresh false ids v e = target_goes f ranged ids v e

  pub call_goes : (g : Option Func) (target : Option ℕ) (keys : List ℕ) (args : List core.Operand) (ids : Ids) → call_broken p f ids g target keys args ≡ [] → Goes f ids (with_call_target f g target ids)
  call_goes None None keys args ids e = stays f ids
  call_goes (Some g) None keys args ids e = stays f ids
  call_goes None (Some v) keys args ids e = target_goes f ranged ids v (right_empty _ (target_broken f ids v) e)
  call_goes (Some g) (Some v) keys args ids e = by_fresh (is_fresh_call g) ids v (right_empty _ (if is_fresh_call g then _ else _) (right_empty _ (call_target_broken f ids g keys (Some v)) e))

  var_grows_by : (b : Bool) (v : ℕ) (ids : Ids) (t : Tok) → was ids t ≡ true → was (if b then record ids { vars = v ∷ ids.vars; vars_ever = v ∷ ids.vars_ever } else ids) t ≡ true
  var_grows_by true v ids (core.a_key k) e = e
  var_grows_by true v ids (core.a_var w) e = or_right (v == w) (has ids.vars_ever w) e
  var_grows_by false v ids t e = e

  pub var_grows : (v : ℕ) (ids : Ids) (t : Tok) → was ids t ≡ true → was (with_var f v ids) t ≡ true
  var_grows v ids t e = var_grows_by (nat_lt v (length f.vars)) v ids t e

  key_grows_by : (b : Bool) (k : ℕ) (ids : Ids) (t : Tok) → was ids t ≡ true → was (if b then record ids { keys = k ∷ ids.keys; keys_ever = k ∷ ids.keys_ever } else ids) t ≡ true
  key_grows_by true k ids (core.a_key j) e = or_right (k == j) (has ids.keys_ever j) e
  key_grows_by true k ids (core.a_var w) e = e
  key_grows_by false k ids t e = e

  key_grows : (fresh : Option ℕ) (ids : Ids) (t : Tok) → was ids t ≡ true → was (with_key f fresh ids) t ≡ true
  key_grows None ids t e = e
  key_grows (Some k) ids t e = key_grows_by (nat_lt k (length f.keys)) k ids t e

  pub focus_grows : (z : ℕ) (ids : Ids) (t : Tok) → was ids t ≡ true → was (with_focus f z ids) t ≡ true
  focus_grows z ids t e = var_grows z (with_key f (own_key f z) ids) t (key_grows (own_key f z) ids t e)

  pub vars_grow : (vs : List ℕ) (ids : Ids) (t : Tok) → was ids t ≡ true → was (with_vars f vs ids) t ≡ true
  vars_grow [] ids t e = e
  vars_grow (v ∷ vs) ids t e = vars_grow vs (with_var f v ids) t (var_grows v ids t e)

  -- ---- all parts

  mutual
    pub form_goes : (s : core.Form) (around : Around) (ids : Ids) → row_broken p f around ids s ≡ [] → EachEmpty (form_rows p f around ids s) → Goes f ids (ids_following p f s ids)
    form_goes (core.simple s) around ids e rows = simple_goes s ids e
    form_goes (core.call g target keys args) around ids e rows = call_goes (slice_get p.fns g) target keys args ids e
    form_goes (core.choose x a b) around ids e rows =
        let ids2 = ids_following_block p f a ids in
        goes_on f ids ids2 _ (block_goes a around ids (each_left (block_rows p f around ids a) (block_rows p f around ids2 b) rows))
        (block_goes b around ids2 (each_right (block_rows p f around ids a) (block_rows p f around ids2 b) rows))
    form_goes (core.loop x b) around ids e rows = block_goes b (in_loop around) ids rows
    form_goes (core.switch v arms end) around ids e rows = arms_go arms around ids rows
    form_goes (core.focus y z b) around ids e rows =
        leaves f ids (ids_following_block p f b (with_focus f z ids)) (λ t w. (block_goes b in_focus (with_focus f z ids) rows).grows t (focus_grows z ids t w))
    form_goes (core.scope b) around ids e rows = block_goes b around ids rows
    form_goes (core.return value) around ids e rows = stays f ids
    form_goes (core.jump continues) around ids e rows = stays f ids

    pub block_goes : (b : core.Block) (around : Around) (ids : Ids) → EachEmpty (block_rows p f around ids b) → Goes f ids (ids_following_block p f b ids)
    block_goes (core.block ss bound end) around ids rows = leaves f ids (ids_following_stmts p f ss (at_block_start ids)) (λ t w. (stmts_go ss around (at_block_start ids) false rows).grows t w)

    pub stmts_go : (ss : core.Stmts) (around : Around) (ids : Ids) (ended : Bool) → EachEmpty (stmts_rows p f around ids ended ss) → Goes f ids (ids_following_stmts p f ss ids)
    stmts_go core.done around ids ended rows = stays f ids
    stmts_go (core.next at s rest) around ids ended rows =
        let ids2 = ids_following p f s ids in
        goes_on f ids ids2 _
        (form_goes s around ids (right_empty (unless (not ended) rule.AFTER_END) (row_broken p f around ids s) rows.0)
        (each_left (form_rows p f around ids s) (stmts_rows p f around ids2 (ends s) rest) rows.1))
        (stmts_go rest around ids2 (ends s) (each_right (form_rows p f around ids s) (stmts_rows p f around ids2 (ends s) rest) rows.1))

    pub arms_go : (arms : core.Arms) (around : Around) (ids : Ids) → EachEmpty (arms_rows p f around ids arms) → Goes f ids (ids_following_arms p f arms ids)
    arms_go core.no_arms around ids rows = stays f ids
    arms_go (core.arm c vs b rest) around ids rows =
        let ids1 = with_vars f vs ids in
        let ids2 = left_behind ids (ids_following_block p f b ids1) in
        goes_on f ids ids2 _
        (leaves f ids (ids_following_block p f b ids1) (λ t w. (block_goes b around ids1 (each_left (block_rows p f around ids1 b) (arms_rows p f around ids2 rest) rows)).grows t (vars_grow vs ids t w)))
        (arms_go rest around ids2 (each_right (block_rows p f around ids1 b) (arms_rows p f around ids2 rest) rows))
