-- Each part of a body that breaks no rule is fine.
use Rattle.std.proofs.Common.{◌≡◌, ℕ, Bool, true, false, not, ◌==◌, cond, if◌then◌else◌, List, [], ◌∷◌, ◌++◌, map, length, Some, refl, sym, ap, subst, ◌∙◌, ◌⊎◌, inl, inr, ⊎_elim}
use Rattle.std.specs.Prelude.{nat_lt, filter}
use Rattle.vlt_core.specs.Core as core
use Rattle.vlt_core.specs.Core.{Tok, a_key, a_var, Func, Program}
use Rattle.vlt_core.specs.Lookups.{is_owning_var, variant_of}
use Rattle.vlt_core.specs.Maps.{Row, is_tok, away_row, wants_absent}
use Rattle.vlt_core.specs.Rows.{in_order, arm_rows, empty_row, fill_rows}
use Rattle.vlt_core.specs.Flow as flow
use Rattle.vlt_core.specs.Flow.{passes}
use Rattle.vlt_core.specs.Bodies.{flow_of, flow_of_block, flow_of_stmts, flow_of_arms}
use Rattle.vlt_core.specs.KindedHeads.{unless, has}
use Rattle.vlt_core.specs.KindedScopes.{Ids, Around, at_block_start, left_behind, own_key, with_key, with_var, with_tokens, with_binding, binding_broken, use_broken}
use Rattle.vlt_core.specs.KindedOperands.{expr_broken}
use Rattle.vlt_core.specs.KindedBodies.{in_loop, in_focus, with_focus, with_vars, owning_toks, ends, ids_following, ids_following_block, ids_following_stmts, ids_following_arms, list_broken, switch_broken, arm_vars_broken, arm_broken, arms_broken, focus_broken, row_broken, form_rows, block_rows, stmts_rows, arms_rows}
use Rattle.vlt_core.specs.declared.rules.TheConstants as rule
use Rattle.vlt_core_laws.specs.Scoped.{is_bound, with_bound, within, AreInScope}
use Rattle.vlt_core_laws.specs.Tame.{ArePlain}
use Rattle.vlt_core_laws.specs.Shown.{AreFilled}
use Rattle.vlt_core_laws.specs.States.{HasStates, OwnsFilled}
use Rattle.vlt_core_laws.specs.Heads.{HaveNewResults}
use Rattle.vlt_core_laws.specs.Arms.{HasArms, HasArmsBlock, HasArmsStmts, HasArmsArms}
use Rattle.vlt_core_laws.proofs.Unbroken.{left_empty, right_empty, unless_holds, each_left, each_right}
use Rattle.vlt_core_laws.specs.Unbroken.{EachEmpty}
use Rattle.vlt_core_laws.proofs.Ids.{was, type_keys, AreTyped, Goes, or_split, or_left, or_right, not_both, is_false, true_or_false, was_not, bound_append, same_number, var_is}
use Rattle.vlt_core_laws.proofs.Binding.{has_first, IsInRange, binding_goes, binding_ever, own_in_range}
use Rattle.vlt_core_laws.proofs.Good.{Good, AllRows, in_scope, plain, filled, all_both, all_filled, KeysIn, guard_in, empty_good, fill_good, made_good}
use Rattle.vlt_core_laws.proofs.Scoping.{Covers, covers_on, use_in, keys_in, expr_good}
use Rattle.vlt_core_laws.proofs.Simple.{simple_good, option_rows, case_keys_rows, variant_keys}
use Rattle.vlt_core_laws.proofs.Calls.{call_good}
use Rattle.vlt_core_laws.proofs.Going.{form_goes, block_goes, stmts_go, arms_go, vars_grow}
use Rattle.vlt_core_laws.proofs.Listed.{tok_is, tok_self, listed_of_order}
use Rattle.vlt_core_laws.proofs.Jumping.{jumping_block}
use Rattle.vlt_core_laws.proofs.Ending.{ends_form, passing}
use Rattle.vlt_core_laws.proofs.Focus.{Focused, focused, focus_rows, focus_bound}
use Rattle.vlt_core_laws.proofs.Arms.{ArmVars, arm_vars, return_filled}
use Rattle.vlt_core_laws.proofs.Body.{Point, Apart, Final, Fine, FineBlock, FineStmts, FineArms, Enters, both_false, listed_out, inner_apart, inner_final, inner_point, extra_listed}

gone_scope : (g : Tok → Bool) (ts : List Tok) → ((t : Tok) → is_bound ts t ≡ true → g t ≡ true) → AreInScope g (map away_row ts)
gone_scope g [] q = tt
gone_scope g (t ∷ ts) q = (q t (or_left _ (is_bound ts t) (tok_self t)), gone_scope g ts (λ u b. q u (or_right _ (is_bound ts u) b)))

-- the owning ones of an arm's variables
owning_in : (f : Func) (vs : List ℕ) (t : Tok) → is_bound (owning_toks f vs) t ≡ true → (v : ℕ) × (t ≡ a_var v) × (has vs v ≡ true) × (is_owning_var f v ≡ true)
owning_in f [] t e = not_both false e refl
owning_in f (v ∷ vs) t e = by (owning_in f vs t) (is_owning_var f v) refl e
  where
    by : (is_bound (owning_toks f vs) t ≡ true → (v : ℕ) × (t ≡ a_var v) × (has vs v ≡ true) × (is_owning_var f v ≡ true)) → (b : Bool) → is_owning_var f v ≡ b →
        is_bound (map a_var (cond b (v ∷ filter (is_owning_var f) vs) (filter (is_owning_var f) vs))) t ≡ true → (w : ℕ) × (t ≡ a_var w) × (has (v ∷ vs) w ≡ true) × (is_owning_var f w ≡ true)
    by more true o e = ⊎_elim (λ x. (v, var_is t v x, has_first v vs, o)) (λ x. let m = more x in (m.0, m.1, or_right (v == m.0) (has vs m.0) m.2, m.3)) (or_split _ (is_bound (owning_toks f vs) t) e)
    by more false o e = let m = more e in (m.0, m.1, or_right (v == m.0) (has vs m.0) m.2, m.3)

to_owning : (f : Func) (vs : List ℕ) (v : ℕ) → has vs v ≡ true → is_owning_var f v ≡ true → is_bound (owning_toks f vs) (a_var v) ≡ true
to_owning f [] v h o = not_both false h refl
to_owning f (w ∷ ws) v h o = by (λ x. to_owning f ws v x o) (is_owning_var f w) refl (or_split (w == v) (has ws v) h)
  where
    by : (has ws v ≡ true → is_bound (owning_toks f ws) (a_var v) ≡ true) → (b : Bool) → is_owning_var f w ≡ b → ((w == v) ≡ true) ⊎ (has ws v ≡ true) →
        is_bound (map a_var (cond b (w ∷ filter (is_owning_var f) ws) (filter (is_owning_var f) ws))) (a_var v) ≡ true
    by more true is (inl same) = or_left _ (is_bound (owning_toks f ws) (a_var v)) (subst (λ w. (v == w) ≡ true) (sym (same_number w v same)) (tok_self (a_var v)))
    by more true is (inr there) = or_right _ (is_bound (owning_toks f ws) (a_var v)) (more there)
    by more false is (inl same) = not_both (is_owning_var f v) o (ap (is_owning_var f) (sym (same_number w v same)) ∙ is)
    by more false is (inr there) = more there

-- an arm with its rows
record FineArm (g : Tok → Bool) (rs : List Row) (s : flow.Block) : Type 0 where
  pub enters : AreInScope (within g s) rs
  pub plain : ArePlain rs
  pub fill : AreFilled rs
  pub block : FineBlock g s

module _ (p : Program) (f : Func) (ranged : (v k : ℕ) → has (type_keys f v) k ≡ true → nat_lt k (length f.keys) ≡ true) (h : HasStates p) (heads : HaveNewResults p) (owned : OwnsFilled f) where
  nothing_more : (ids : Ids) → Enters f ids ids []
  nothing_more ids = record { grows = λ t w. w; fresh = λ t b. not_both false b refl; made = λ t b. not_both false b refl }

  wider : (g : Tok → Bool) (s : flow.Block) (ids : Ids) → Covers f g ids → Covers f (within g s) ids
  wider g (flow.block ss bound end) ids c = record { keys = λ k e. or_left (g (a_key k)) (is_bound bound (a_key k)) (c.keys k e); vars = λ v e. or_left (g (a_var v)) (is_bound bound (a_var v)) (c.vars v e) }

  -- the point after a part that binds nothing in the block at hand
  following : (g : Tok → Bool) (left : List Tok) (ids last : Ids) → Point f g left ids → ((t : Tok) → was ids t ≡ true → was last t ≡ true) → Point f g left (left_behind ids last)
  following g left ids last pt grows = record {
    covers = record { keys = pt.covers.keys; vars = pt.covers.vars };
    typed = record { each = pt.typed.each };
    bound = λ t b. grows t (pt.bound t b);
    others = pt.others;
    lefts = pt.lefts;
  }

  empty_if : (g : Tok → Bool) (b : Bool) (v : ℕ) → g (a_var v) ≡ true → AllRows (Good g) (if b then empty_row v ∷ [] else [])
  empty_if g true v e = (empty_good g v e, tt)
  empty_if g false v e = tt

  -- after a statement that isn't passed nothing stands
  last_one : (rest : core.Stmts) (s : core.Form) (left : List Tok) (around : Around) (ids : Ids) → EachEmpty (stmts_rows p f around ids (ends s) rest) → (passes (flow_of p f left s) ≡ false → ends s ≡ true) →
      passes (flow_of p f left s) ≡ false → flow_of_stmts p f left rest ≡ flow.done
  last_one core.done s left around ids rows q stop = refl
  last_one (core.next at t rest) s left around ids rows q stop =
      not_both (ends s) (q stop) (is_false (ends s) (unless_holds (not (ends s)) rule.AFTER_END (left_empty (unless (not (ends s)) rule.AFTER_END) (row_broken p f around ids t) rows.0)))

  arm_enters : (vs : List ℕ) (ids : Ids) → ArmVars f ids (with_vars f vs ids) vs → Enters f ids (with_vars f vs ids) (owning_toks f vs)
  arm_enters vs ids x = record {
    grows = vars_grow p f ranged vs ids;
    fresh = λ t b. let o = owning_in f vs t b in subst (λ t. was ids t ≡ false) (sym o.1) (x.fresh o.0 o.2);
    made = λ t b. let o = owning_in f vs t b in subst (λ t. was (with_vars f vs ids) t ≡ true) (sym o.1) (x.ever o.0 o.2);
  }

  -- a block binds nothing in the block around it
  block_left : (b : core.Block) (ids : Ids) → left_behind ids (ids_following_block p f b ids) ≡ ids_following_block p f b ids
  block_left (core.block ss bound end) ids = refl

  block_bound : (b : core.Block) (ids : Ids) → ids.bound ≡ (ids_following_block p f b ids).bound
  block_bound b ids = ap (λ x. x.bound) (block_left b ids)

  arms_bound : (arms : core.Arms) (ids : Ids) → ids.bound ≡ (ids_following_arms p f arms ids).bound
  arms_bound core.no_arms ids = refl
  arms_bound (core.arm c vs b rest) ids = arms_bound rest (left_behind ids (ids_following_block p f b (with_vars f vs ids)))

  apart_block : (b : core.Block) (ids : Ids) (g : Tok → Bool) → Apart f g ids (ids_following_block p f b ids) → Apart f g ids (left_behind ids (ids_following_block p f b ids))
  apart_block b ids g apart = subst (Apart f g ids) (sym (block_left b ids)) apart

  -- ---- a focus

  focus_goes : (y z : ℕ) (ids : Ids) → focus_broken p f ids y z ≡ [] → Goes f ids (with_binding f (own_key f z) z ids)
  focus_goes y z ids e = binding_goes f ranged ids (own_key f z) z (own_in_range f ranged z) (right_empty _ (binding_broken f ids (own_key f z) z) e)

  -- what a binding of the focus's variable would add to the block's tokens is its key
  focus_token : (z k : ℕ) (ids : Ids) → own_key f z ≡ Some k → is_owning_var f z ≡ false → (t : Tok) → is_bound (with_binding f (own_key f z) z ids).bound t ≡ true →
      (is_bound (with_focus f z ids).bound t ≡ true) ⊎ (is_tok t (a_key k) ≡ true)
  focus_token z k ids own plain t b =
      let bound = (with_focus f z ids).bound in
      let b2 = subst (λ o. is_bound (with_tokens f o z (with_focus f z ids)).bound t ≡ true) own b in
      ⊎_elim (λ x. ⊎_elim (λ y. inl y) (λ y. inr (⊎_elim (λ z. z) (λ z. not_both false z refl) (or_split (is_tok t (a_key k)) false y))) (bound_append bound (a_key k ∷ []) t x))
      (λ x. none (is_owning_var f z) plain x) (bound_append (bound ++ a_key k ∷ []) (if is_owning_var f z then a_var z ∷ [] else []) t b2)
    where
      none : {P : Type 0} (c : Bool) → c ≡ false → is_bound (if c then a_var z ∷ [] else []) t ≡ true → P
      none true c x = not_both true refl c
      none false c x = not_both false x refl

  focus_final : (y z : ℕ) (g : Tok → Bool) (ids : Ids) (o : Focused f y z) → Final f g ids → Final f (with_bound g (a_key o.held.key ∷ [])) (with_binding f (own_key f z) z ids)
  focus_final y z g ids o final t k b = ⊎_elim
      (λ x. or_left (g t) _ (final t k (subst (λ ts. is_bound ts t ≡ true) (focus_bound f z ids) x)))
      (λ x. or_right (g t) _ (or_left (is_tok t (a_key o.held.key)) false x))
      (focus_token z o.held.key ids o.own o.plain t b)

  focus_point : (y z : ℕ) (ids : Ids) (left : List Tok) (g : Tok → Bool) → Point f g left ids → (o : Focused f y z) → focus_broken p f ids y z ≡ [] → Final f g ids → Point f (with_bound g (a_key o.held.key ∷ [])) left (with_focus f z ids)
  focus_point y z ids left g pt o e final =
      let q = focus_goes y z ids e in
      let g2 = with_bound g (a_key o.held.key ∷ []) in
      let c1 : Covers f g2 ids = record { keys = λ k m. or_left (g (a_key k)) _ (pt.covers.keys k m); vars = λ v m. or_left (g (a_var v)) _ (pt.covers.vars v m) } in
      let others2 = λ (v : ℕ) (own : is_owning_var f v ≡ false). or_left (g (a_var v)) _ (pt.others v own) in
      let c2 = covers_on f g2 ids (with_binding f (own_key f z) z ids) others2 q c1 (focus_final y z g ids o final) in
      let t2 = q.typed pt.typed in
      record {
        covers = record { keys = c2.keys; vars = c2.vars };
        typed = record { each = t2.each };
        bound = λ t b. q.grows t (pt.bound t (subst (λ ts. is_bound ts t ≡ true) (focus_bound f z ids) b));
        others = others2;
        lefts = λ t b. or_left (g t) _ (pt.lefts t b);
      }

  -- the key of a focus was bound
  focus_was : (y z : ℕ) (ids : Ids) (o : Focused f y z) → focus_broken p f ids y z ≡ [] → was (with_focus f z ids) (a_key o.held.key) ≡ true
  focus_was y z ids o e =
      let r = subst (λ x. IsInRange f ranged x) o.own (own_in_range f ranged z) in
      let b = subst (λ x. binding_broken f ids x z ≡ []) o.own (right_empty _ (binding_broken f ids (own_key f z) z) e) in
      subst (λ x. was (with_var f z (with_key f x ids)) (a_key o.held.key) ≡ true) (sym o.own) (binding_ever f ranged ids o.held.key z r b)

  focus_apart : (y z : ℕ) (ids : Ids) (left : List Tok) (g : Tok → Bool) → Point f g left ids → (o : Focused f y z) → focus_broken p f ids y z ≡ [] → (last : Ids) → Apart f g ids (left_behind ids last) →
      Apart f (with_bound g (a_key o.held.key ∷ [])) (with_focus f z ids) (left_behind (with_focus f z ids) last)
  focus_apart y z ids left g pt o e last apart t k w0 w1 nb =
      let q = focus_goes y z ids e in
      both_false (g t) _ (apart t k (was_not (was ids t) (was (with_focus f z ids) t) (q.grows t) w0) w1 (subst (λ ts. is_bound ts t ≡ false) (focus_bound f z ids) nb))
      (both_false (is_tok t (a_key o.held.key)) false (other (true_or_false (is_tok t (a_key o.held.key)))) refl)
    where
      other : (is_tok t (a_key o.held.key) ≡ true) ⊎ (is_tok t (a_key o.held.key) ≡ false) → is_tok t (a_key o.held.key) ≡ false
      other (inl same) = not_both (was (with_focus f z ids) t) (subst (λ t. was (with_focus f z ids) t ≡ true) (sym (tok_is t (a_key o.held.key) same)) (focus_was y z ids o e)) w0
      other (inr x) = x

  mutual
    form_fine : (s : core.Form) (around : Around) (ids : Ids) (left : List Tok) (g : Tok → Bool) → HasArms s → row_broken p f around ids s ≡ [] → EachEmpty (form_rows p f around ids s) → Point f g left ids →
        Apart f g ids (ids_following p f s ids) → Final f g (ids_following p f s ids) → Fine g (flow_of p f left s)
    form_fine (core.simple s) around ids left g a e rows pt apart final =
        let q = form_goes p f ranged (core.simple s) around ids e rows in
        let good = simple_good p f ranged g h owned ids pt.covers pt.typed s e (covers_on f g ids _ pt.others q pt.covers final) (q.typed pt.typed) in
        record { scoped = in_scope g _ good; tame = plain g _ good; filled = filled g _ good }
    form_fine (core.call c target keys args) around ids left g a e rows pt apart final =
        let q = form_goes p f ranged (core.call c target keys args) around ids e rows in
        let good = call_good p f ranged g h ids pt.covers pt.typed heads c target keys args e (covers_on f g ids _ pt.others q pt.covers final) in
        record { scoped = in_scope g _ good; tame = plain g _ good; filled = filled g _ good }
    form_fine (core.return value) around ids left g a e rows pt apart final = record { scoped = tt; tame = tt; filled = return_filled p f value }
    form_fine (core.jump continues) around ids left g a e rows pt apart final =
        record { scoped = gone_scope g (in_order f left) (λ t b. pt.lefts t (listed_of_order f left t b)); tame = tt; filled = tt }
    form_fine (core.scope b) around ids left g a e rows pt apart final =
        let s = block_fine b around ids ids [] left g a e rows pt (nothing_more ids) (wider g (flow_of_block p f left b) ids pt.covers) pt.typed (apart_block b ids g apart) in
        record { scoped = s.scoped; tame = s.tame; filled = s.filled }
    form_fine (core.choose x b c) around ids left g a e rows pt apart final =
        let ids2 = ids_following_block p f b ids in
        let rows_b = each_left (block_rows p f around ids b) (block_rows p f around ids2 c) rows in
        let rows_c = each_right (block_rows p f around ids b) (block_rows p f around ids2 c) rows in
        let qb = block_goes p f ranged b around ids rows_b in
        let qc = block_goes p f ranged c around ids2 rows_c in
        let e2 = left_empty _ (list_broken p f [] ids2 c) e in
        let good = expr_good p f g ids pt.covers pt.typed x (left_empty (expr_broken p f ids x) _ (left_empty _ (list_broken p f [] ids b) e2)) in
        let fb = block_fine b around ids ids [] left g a.0 (right_empty _ (list_broken p f [] ids b) e2) rows_b pt (nothing_more ids) (wider g (flow_of_block p f left b) ids pt.covers) pt.typed
        (λ t k w0 w1 nb. apart t k w0 (qc.grows t w1) (subst (λ ts. is_bound ts t ≡ false) (block_bound b ids ∙ block_bound c ids2) nb)) in
        let pt2 = subst (Point f g left) (block_left b ids) (following g left ids (ids_following_block p f b ids) pt (λ t w. qb.grows t w)) in
        let fc = block_fine c around ids2 ids2 [] left g a.1 (right_empty _ (list_broken p f [] ids2 c) e) rows_c pt2 (nothing_more ids2) (wider g (flow_of_block p f left c) ids2 pt2.covers) pt2.typed
        (λ t k w0 w1 nb. apart t k (was_not (was ids t) (was ids2 t) (λ w. qb.grows t w) w0) w1 (subst (λ ts. is_bound ts t ≡ false) (block_bound c ids2) nb)) in
        record { scoped = (in_scope g _ good, fb.scoped, fc.scoped); tame = (plain g _ good, fb.tame, fc.tame); filled = (filled g _ good, fb.filled, fc.filled) }
    form_fine (core.loop x b) around ids left g a e rows pt apart final =
        let good = expr_good p f g ids pt.covers pt.typed x (left_empty (expr_broken p f ids x) _ (left_empty _ (list_broken p f [] ids b) e)) in
        let pt2 : Point f g [] ids = record { covers = pt.covers; typed = pt.typed; bound = pt.bound; others = pt.others; lefts = λ t b. not_both false b refl } in
        let s = block_fine b (in_loop around) ids ids [] [] g a (right_empty _ (list_broken p f [] ids b) e) rows pt2 (nothing_more ids) (wider g (flow_of_block p f [] b) ids pt.covers) pt.typed (apart_block b ids g apart) in
        record { scoped = (in_scope g _ good, s.scoped); tame = (plain g _ good, s.tame); filled = (filled g _ good, s.filled) }
    form_fine (core.switch v arms end) around ids left g a e rows pt apart final =
        let used = left_empty (use_broken f ids v) _ (left_empty _ _ (left_empty (switch_broken p f ids v arms) (arms_broken p f ids v arms) e)) in
        let good = empty_if g (is_owning_var f v) v (pt.covers.vars v (use_in p f g ids pt.covers pt.typed v used)) in
        let s = arms_fine arms v around ids left g a.1 (right_empty (switch_broken p f ids v arms) (arms_broken p f ids v arms) e) rows pt apart (keys_in p f g ids pt.covers pt.typed v (use_in p f g ids pt.covers pt.typed v used)) in
        record { scoped = (in_scope g _ good, s.scoped); tame = (plain g _ good, s.tame); filled = (filled g _ good, s.filled) }
    form_fine (core.focus y z b) around ids left g a e rows pt apart final =
        let ids0 = with_focus f z ids in
        let q = block_goes p f ranged b in_focus ids0 rows in
        let broken = left_empty (focus_broken p f ids y z) (list_broken p f [] ids0 b) e in
        let o = focused p f ranged ids y z broken in
        let key = a_key o.held.key in
        let g2 = with_bound g (key ∷ []) in
        let pt0 = focus_point y z ids left g pt o broken final in
        let used = left_empty (use_broken f ids y) _ (left_empty _ _ (left_empty _ _ (left_empty _ _ broken))) in
        let guard = keys_in p f g ids pt.covers pt.typed y (use_in p f g ids pt.covers pt.typed y used) in
        let rs = focus_rows p f h g2 y z o (or_left (g (a_key o.guard.key)) _ (guard_in g f y guard o.guard o.guarded)) (or_right (g key) _ (or_left _ false (tok_self key))) in
        let s = block_fine b in_focus ids0 ids0 [] left g2 a (right_empty (focus_broken p f ids y z) (list_broken p f [] ids0 b) e) rows pt0 (nothing_more ids0) (wider g2 (flow_of_block p f left b) ids0 pt0.covers) pt0.typed
        (focus_apart y z ids left g pt o broken (ids_following_block p f b ids0) apart) in
        record {
          scoped = (key, rs.enters, s.scoped, passing p f b left in_focus ids0 refl refl a rows, rs.leaves, rs.absent);
          tame = (rs.shape, s.tame, jumping_block p f b left in_focus ids0 rows);
          filled = (rs.fill, s.filled, rs.empty);
        }

    block_fine : (b : core.Block) (around : Around) (ids ids0 : Ids) (extra left : List Tok) (g : Tok → Bool) → HasArmsBlock b → list_broken p f extra ids0 b ≡ [] → EachEmpty (block_rows p f around ids0 b) → Point f g left ids →
        Enters f ids ids0 extra → Covers f (within g (flow_of_block p f left b)) ids0 → AreTyped f ids0 → Apart f g ids (left_behind ids (ids_following_block p f b ids0)) → FineBlock g (flow_of_block p f left b)
    block_fine (core.block ss bound end) around ids ids0 extra left g a e rows pt enters c t0 apart =
        let last = ids_following_stmts p f ss (at_block_start ids0) in
        let q = stmts_go p f ranged ss around (at_block_start ids0) false rows in
        let s = stmts_fine ss around (at_block_start ids0) false (left ++ bound) (with_bound g bound) a rows
        (inner_point p f g left ids ids0 extra bound last pt enters q e apart c t0)
        (inner_apart p f g left ids ids0 extra bound last pt enters q e apart)
        (inner_final p f g left ids ids0 extra bound last pt enters q e apart) in
        record { scoped = (listed_out p f g left ids ids0 extra bound last pt enters q e apart, s.scoped); tame = s.tame; filled = s.filled }

    pub stmts_fine : (ss : core.Stmts) (around : Around) (ids : Ids) (ended : Bool) (left : List Tok) (g : Tok → Bool) → HasArmsStmts ss → EachEmpty (stmts_rows p f around ids ended ss) → Point f g left ids →
        Apart f g ids (ids_following_stmts p f ss ids) → Final f g (ids_following_stmts p f ss ids) → FineStmts g (flow_of_stmts p f left ss)
    stmts_fine core.done around ids ended left g a rows pt apart final = record { scoped = tt; tame = tt; filled = tt }
    stmts_fine (core.next at s rest) around ids ended left g a rows pt apart final =
        let ids1 = ids_following p f s ids in
        let last = ids_following_stmts p f rest ids1 in
        let e = right_empty (unless (not ended) rule.AFTER_END) (row_broken p f around ids s) rows.0 in
        let rows1 = each_left (form_rows p f around ids s) (stmts_rows p f around ids1 (ends s) rest) rows.1 in
        let rows2 = each_right (form_rows p f around ids s) (stmts_rows p f around ids1 (ends s) rest) rows.1 in
        let q1 = form_goes p f ranged s around ids e rows1 in
        let q2 = stmts_go p f ranged rest around ids1 (ends s) rows2 in
        let final1 : Final f g ids1 = λ t k b. final t k (q2.kept t b) in
        let apart1 : Apart f g ids ids1 = λ t k w0 w1 nb. apart t k w0 (q2.grows t w1)
        (⊎_elim (λ b. ⊎_elim (λ x. not_both (is_bound ids1.bound t) x nb) (λ x. not_both (was ids1 t) w1 x) (q2.added t b)) (λ b. b) (true_or_false (is_bound last.bound t))) in
        let pt1 : Point f g left ids1 = record {
          covers = covers_on f g ids ids1 pt.others q1 pt.covers final1;
          typed = q1.typed pt.typed;
          bound = λ t b. ⊎_elim (λ x. q1.grows t (pt.bound t x)) (λ x. x) (q1.known t b);
          others = pt.others;
          lefts = pt.lefts;
        } in
        let x = form_fine s around ids left g a.0 e rows1 pt apart1 final1 in
        let y = stmts_fine rest around ids1 (ends s) left g a.1 rows2 pt1 (λ t k w0 w1 nb. apart t k (was_not (was ids t) (was ids1 t) (q1.grows t) w0) w1 nb) final in
        record {
          scoped = (x.scoped, last_one rest s left around ids1 rows2 (λ stop. ends_form p f s left around ids a.0 rows1 stop), y.scoped);
          tame = (x.tame, y.tame);
          filled = (x.filled, y.filled);
        }

    arms_fine : (arms : core.Arms) (v : ℕ) (around : Around) (ids : Ids) (left : List Tok) (g : Tok → Bool) → HasArmsArms arms → arms_broken p f ids v arms ≡ [] → EachEmpty (arms_rows p f around ids arms) → Point f g left ids →
        Apart f g ids (ids_following_arms p f arms ids) → KeysIn g f v → FineArms g (flow_of_arms p f left v arms)
    arms_fine core.no_arms v around ids left g a e rows pt apart keys = record { scoped = tt; tame = tt; filled = tt }
    arms_fine (core.arm c vs b rest) v around ids left g a e rows pt apart keys =
        let ids1 = with_vars f vs ids in
        let ids2 = left_behind ids (ids_following_block p f b ids1) in
        let rows_b = each_left (block_rows p f around ids1 b) (arms_rows p f around ids2 rest) rows in
        let rows_r = each_right (block_rows p f around ids1 b) (arms_rows p f around ids2 rest) rows in
        let qb = block_goes p f ranged b around ids1 rows_b in
        let qr = arms_go p f ranged rest around ids2 rows_r in
        let grows = λ (t : Tok) (w : was ids t ≡ true). qb.grows t (vars_grow p f ranged vs ids t w) in
        let e2 = left_empty (arm_broken p f ids v c vs ++ list_broken p f (owning_toks f vs) ids1 b) (arms_broken p f ids2 v rest) e in
        let lists = right_empty (arm_broken p f ids v c vs) (list_broken p f (owning_toks f vs) ids1 b) e2 in
        let x = arm_vars p f ranged vs _ ids (right_empty _ (arm_vars_broken f ids _ vs) (left_empty (arm_broken p f ids v c vs) (list_broken p f (owning_toks f vs) ids1 b) e2)) in
        let s = arm_fine b c vs v around ids left g a.0 lists rows_b pt x (λ t k w0 w1 nb. apart t k w0 (qr.grows t w1) (subst (λ ts. is_bound ts t ≡ false) (arms_bound rest ids2) nb)) keys in
        let pt2 = following g left ids (ids_following_block p f b ids1) pt grows in
        let y = arms_fine rest v around ids2 left g a.1 (right_empty (arm_broken p f ids v c vs ++ list_broken p f (owning_toks f vs) ids1 b) (arms_broken p f ids2 v rest) e) rows_r pt2
        (λ t k w0 w1 nb. apart t k (was_not (was ids t) (was ids2 t) (grows t) w0) w1 nb) keys in
        record { scoped = (s.enters, s.block.scoped, y.scoped); tame = (s.plain, s.block.tame, y.tame); filled = (s.fill, s.block.filled, y.filled) }

    arm_fine : (b : core.Block) (c : ℕ) (vs : List ℕ) (v : ℕ) (around : Around) (ids : Ids) (left : List Tok) (g : Tok → Bool) → HasArmsBlock b → list_broken p f (owning_toks f vs) (with_vars f vs ids) b ≡ [] → EachEmpty (block_rows p f around (with_vars f vs ids) b) →
        Point f g left ids → ArmVars f ids (with_vars f vs ids) vs → Apart f g ids (left_behind ids (ids_following_block p f b (with_vars f vs ids))) → KeysIn g f v → FineArm g (arm_rows p f v c vs) (flow_of_block p f left b)
    arm_fine (core.block ss bound end) c vs v around ids left g a lists rows pt x apart keys =
        let ids1 = with_vars f vs ids in
        let last = ids_following_stmts p f ss (at_block_start ids1) in
        let q = stmts_go p f ranged ss around (at_block_start ids1) false rows in
        let enters = arm_enters vs ids x in
        let g2 = with_bound g bound in
        let listed = λ (w : ℕ) (m : has vs w ≡ true) (o : is_owning_var f w ≡ true). or_right (g (a_var w)) (is_bound bound (a_var w))
        (extra_listed p f g left ids ids1 (owning_toks f vs) bound last pt enters q lists apart (a_var w) o (to_owning f vs w m o)) in
        let covers : Covers f g2 ids1 = record {
          keys = λ k m. or_left (g (a_key k)) (is_bound bound (a_key k)) (pt.covers.keys k (subst (λ ks. has ks k ≡ true) x.keys m));
          vars = λ w m. ⊎_elim (λ old. or_left (g (a_var w)) (is_bound bound (a_var w)) (pt.covers.vars w old))
              (λ new. ⊎_elim (listed w new) (λ o. or_left (g (a_var w)) (is_bound bound (a_var w)) (pt.others w o)) (true_or_false (is_owning_var f w))) (x.vars w m);
        } in
        let good = all_both (Good g2) _ (fill_rows f vs)
        (option_rows (Good g2) (variant_of f v) _ (λ ty e. case_keys_rows p ty c (Good g2) _
        (λ d k i y at m from. let some = h.listed ty.type c i d y at from in made_good g2 k wants_absent y.states tt (or_left (g (a_key k)) (is_bound bound (a_key k)) (keys k (variant_keys f v ty e k m))) some.state some.has)))
        (all_filled (Good g2) f vs (λ w m o. fill_good g2 w (listed w m o))) in
        let s = stmts_fine ss around (at_block_start ids1) false (left ++ bound) g2 a rows
        (inner_point p f g left ids ids1 (owning_toks f vs) bound last pt enters q lists apart covers (x.typed pt.typed))
        (inner_apart p f g left ids ids1 (owning_toks f vs) bound last pt enters q lists apart)
        (inner_final p f g left ids ids1 (owning_toks f vs) bound last pt enters q lists apart) in
        record {
          enters = in_scope g2 _ good;
          plain = plain g2 _ good;
          fill = filled g2 _ good;
          block = record { scoped = (listed_out p f g left ids ids1 (owning_toks f vs) bound last pt enters q lists apart, s.scoped); tame = s.tame; filled = s.filled };
        }
