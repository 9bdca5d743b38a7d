-- Choices, loops, scopes and jumps are safe where the blocks in them are.
use Rattle.std.proofs.Common.{◌≡◌, ℕ, ℤ, ◌-◌, Bool, true, false, not, List, [], ◌++◌, Some, refl, sym, ap, ◌∙◌, subst}
use Rattle.vlt_core.specs.Core.{bool, Tok, Expr, choose, loop, scope, jump, Form, Block, block, Stmts, done, next, Func, Program}
use Rattle.vlt_core.specs.Maps.{HeldMap, IsBelow, CanPass}
use Rattle.vlt_core.specs.Rows.{expr_rows, tokens_of, in_order}
use Rattle.vlt_core.specs.Bodies.{flow_of_block}
use Rattle.vlt_core.specs.Derives.{toward, DerivesBlock}
use Rattle.vlt_core.specs.KindedHeads.{unless, has}
use Rattle.vlt_core.specs.declared.rules.TheConstants as rule
use Rattle.vlt_core.specs.KindedScopes.{Ids, at_block_start, left_behind}
use Rattle.vlt_core.specs.KindedOperands.{misfit, type_of_expr, expr_broken, value_broken}
use Rattle.vlt_core.specs.KindedBodies.{in_loop, list_broken, row_broken, form_rows, block_rows, stmts_rows, ids_following, ids_following_block, ids_following_stmts, ends}
use Rattle.vlt_core_laws.specs.Scoped.{is_bound}
use Rattle.vlt_core_laws.proofs.Ids.{bound_left, bound_right}
use Rattle.vlt_core_laws.proofs.Listed.{listed_made}
use Rattle.vlt_meaning.specs.World.{World, Frame}
use Rattle.vlt_ops.specs.Operator.{is_true}
use Rattle.vlt_meaning.specs.Values.{value_of, number_of}
use Rattle.vlt_meaning.specs.Step.{Step, goes, with_found, then_turn}
use Rattle.vlt_meaning.specs.Run.{Setup, Meaning, does_form, does_block, does_stmts}
use Rattle.vlt_sound_worlds.specs.Agrees.{Context, scene, Agrees}
use Rattle.vlt_sound_worlds.specs.Typed.{IsTyped}
use Rattle.vlt_sound_worlds.specs.Safe.{Goal, Safe}
use Rattle.vlt_sound_worlds.proofs.Empty.{both_empty, unless_so}
use Rattle.vlt_sound_worlds.proofs.Rows.{stays_passed, expr_stays}
use Rattle.vlt_sound_worlds.proofs.Expressions.{expr_fine, wanted_number}
use Rattle.vlt_sound_worlds.proofs.PlainSteps.{number_safe}
use Rattle.vlt_sound_worlds.proofs.Blocks.{agrees_below, agrees_in, unused, gone_passed}
use Rattle.vlt_sound_worlds.specs.Scopes.{AreOwning}
use Rattle.vlt_sound_worlds.specs.Scoped.{HasKeys, Widens}
use Rattle.vlt_sound_worlds.proofs.Widening.{entered_widens, form_widens, block_widens, stmts_widen}
use Rattle.vlt_sound_worlds.proofs.Binding.{entered_scoped}
use Rattle.vlt_sound_worlds.proofs.Scoping.{block_scoped, form_scoped}
use Rattle.vlt_sound_statements.specs.Kinded.{IsKindedForm, AreKinded}
use Rattle.vlt_sound_statements.specs.Sites.{Site, comes_to, IsAt}
use Rattle.vlt_sound_statements.specs.Statements.{IsSafeForm, IsSafeBlock, AreSafe, RestIsSafe}
use Rattle.vlt_sound_statements.proofs.Tokens.{away_in, all_away, listed_owning, ordered_in}
use Rattle.vlt_sound_statements.proofs.Unbroken.{none_left, none_right, none_both}
use Rattle.vlt_sound_statements.proofs.Control.{weaker, then_safe, turn_safe, end_safe, choice_safe, spend_safe}

pub below_itself : (h : HeldMap) → IsBelow h h
below_itself h = record { each = λ t. record { kind = refl; within = record { each = λ s e. e } } }

-- a block's scope is the one before it
block_vars : (p : Program) (f : Func) (b : Block) (ids : Ids) → (ids_following_block p f b ids).vars ≡ ids.vars
block_vars p f (block ss bound end) ids = refl

module _ (r : Setup) (rest_of : Meaning) (f : Func)
    (typed : IsTyped r.program f) (keyed : HasKeys f) where
  -- the scope after a block, at the same site
  at_after : (s : Site) (ids : Ids) (b : Block) → IsAt r.program f s ids →
      IsAt r.program f s (ids_following_block r.program f b ids)
  at_after s ids b at = record {
    entered = at.entered;
    scoped = block_scoped r.program b at.scoped;
    outer = λ v e. (block_widens r.program f b ids).vars v (at.outer v e);
  }

  -- ---- blocks

  module _ (ss : Stmts) (bound : List Tok) (end : ℕ) (safe : AreSafe r f ss (does_stmts r rest_of f ss)) where
    pub block_is_safe : IsSafeBlock r rest_of f (block ss bound end)
    block_is_safe s h k extra ids frame w at kinded leads agrees =
        let m = leads.0 in
        end_safe (comes_to r.program f inner m last) (comes_to r.program f s k (left_behind ids last)) bound
        (does_stmts r rest_of f ss frame w)
        (safe inner h m (at_block_start ids) false frame w
        (record { entered = at.entered; scoped = entered_scoped at.scoped; outer = at.outer })
        kinded.rows leads.1 (agrees_in (at_block_start ids) (λ u e. e) agrees))
        (λ frame w now. (
          unused w now bound owning leads.2,
          agrees_in (left_behind ids last) (λ u e. grown.vars u e)
              (agrees_below (subst (λ m. IsBelow m k) (gone_passed bound m leads.2) leads.3) now),
        ))
        (λ c frame w jumped. (
          unused w jumped.agrees bound owning
              (all_away bound (toward c s.breaks s.turns) (λ t e.
              jumped.away t (listed t e) (bound_right s.left bound t e))),
          record {
            allowed = jumped.allowed;
            agrees = jumped.agrees;
            away = λ t token e. jumped.away t token (bound_left s.left bound t e);
          },
        ))
        (λ v kept w left. record { allowed = left.allowed; returned = left.returned })
      where
        last : Ids
        last = ids_following_stmts r.program f ss (at_block_start ids)

        inner : Site
        inner = record s { left = s.left ++ bound }

        grown : Widens ids last
        grown = entered_widens ids (stmts_widen r.program f ss (at_block_start ids))

        owning : AreOwning f bound
        owning = listed_owning f bound (extra ++ last.bound) kinded.listed

        listed : (t : Tok) → is_bound bound t ≡ true → is_bound (tokens_of f) t ≡ true
        listed t e = (listed_made f bound (extra ++ last.bound) kinded.listed t e).0

  -- ---- statements one after another

  pub done_is_safe : AreSafe r f done (does_stmts r rest_of f done)
  done_is_safe s h k ids ended frame w at kinded leads agrees = agrees_below leads agrees

  -- the row of a statement, and those inside it
  form_kinded : (s : Site) (ids : Ids) (ended : Bool) (at : ℕ) (form : Form) (rest : Stmts) →
      AreKinded r.program f s.around ids ended (next at form rest) → IsKindedForm r.program f s.around ids form
  form_kinded s ids ended at form rest kinded = record {
    row = (both_empty (unless (not ended) rule.AFTER_END) (row_broken r.program f s.around ids form) kinded.0).1;
    rows =
        none_left (form_rows r.program f s.around ids form)
        (stmts_rows r.program f s.around (ids_following r.program f form ids) (ends form) rest) kinded.1;
  }

  module _ (at : ℕ) (form : Form) (rest : Stmts) (safe : IsSafeForm r rest_of f form)
      (after : AreSafe r f rest (does_stmts r rest_of f rest)) where
    pub next_is_safe : AreSafe r f (next at form rest) (does_stmts r rest_of f (next at form rest))
    next_is_safe s h k ids ended frame w here kinded leads agrees =
        let m = leads.0 in
        let ids2 = ids_following r.program f form ids in
        let first = form_kinded s ids ended at form rest kinded in
        then_safe (comes_to r.program f s m ids2) (comes_to r.program f s k (ids_following_stmts r.program f rest ids2))
        (does_form r rest_of f form frame w) (does_stmts r rest_of f rest)
        (safe s h m ids frame w here first leads.1 agrees)
        (λ frame w now. after s m k ids2 (ends form) frame w
        (record { entered = here.entered; scoped = form_scoped r.program keyed s.around form first.row here.scoped; outer = λ v e. (form_widens r.program f form ids).vars v (here.outer v e) })
        (none_right (form_rows r.program f s.around ids form) (stmts_rows r.program f s.around ids2 (ends form) rest) kinded.1)
        leads.2 now)
        (λ c frame w jumped. jumped)
        (λ v kept w left. left)

  -- ---- a condition

  module _ {c : Context} {h : HeldMap} {ids : Ids} {frame : Frame} (w : World)
      (agrees : Agrees r.program f c h ids [] frame w.objects) (g : Goal) where
    condition_safe : (e : Expr) (go : ℤ → Step) → value_broken r.program f ids (Some bool) e ≡ [] →
        CanPass (expr_rows r.program f e) h → ((z : ℤ) → Safe g (go z)) →
        Safe g (with_found (number_of r.program f e frame w.objects) w go)
    condition_safe e go kinded pass safe =
        let both = both_empty (expr_broken r.program f ids e) (misfit (Some bool) (type_of_expr r.program f e)) kinded in
        number_safe g r.program (scene c w.objects agrees.heads) frame.keys (type_of_expr r.program f e)
        (value_of r.program f e frame w.objects) w go
        (expr_fine typed ids agrees e both.0 pass)
        (λ v read. wanted_number r.program (scene c w.objects agrees.heads) frame.keys bool (type_of_expr r.program f e) v refl both.1 read)
        safe

  -- ---- choices

  module _ (e : Expr) (a b : Block) (safe_a : IsSafeBlock r rest_of f a) (safe_b : IsSafeBlock r rest_of f b) where
    pub choose_is_safe : IsSafeForm r rest_of f (choose e a b)
    choose_is_safe s h k ids frame w here kinded leads agrees =
        let ids2 = ids_following_block r.program f a ids in
        let s2 = both_empty (value_broken r.program f ids (Some bool) e ++ list_broken r.program f [] ids a) (list_broken r.program f [] ids2 b) kinded.row in
        let s1 = both_empty (value_broken r.program f ids (Some bool) e) (list_broken r.program f [] ids a) s2.0 in
        let rows_a = none_left (block_rows r.program f s.around ids a) (block_rows r.program f s.around ids2 b) kinded.rows in
        let rows_b = none_right (block_rows r.program f s.around ids a) (block_rows r.program f s.around ids2 b) kinded.rows in
        let same = stays_passed (expr_rows r.program f e) h (expr_stays r.program f e) in
        let vars_a : ids2.vars ≡ ids.vars = block_vars r.program f a ids in
        let vars_b : (ids_following_block r.program f b ids2).vars ≡ ids2.vars = block_vars r.program f b ids2 in
        let G = comes_to r.program f s k (ids_following_block r.program f b ids2) in
        condition_safe w agrees G e _ s1.0 leads.0
        (λ z. choice_safe G (is_true z) (does_block r rest_of f a frame w) (does_block r rest_of f b frame w)
        (weaker (comes_to r.program f s k ids2) G (does_block r rest_of f a frame w)
        (λ frame w now. agrees_in (ids_following_block r.program f b ids2) (λ u i. ap (λ vs. has vs u) (sym vars_b) ∙ i) now)
        (λ c frame w jumped. jumped) (λ v kept w left. left)
        (safe_a s h k [] ids frame w here (record { listed = s1.1; rows = rows_a })
        (subst (λ m. DerivesBlock s.breaks s.turns m (flow_of_block r.program f s.left a) k) same leads.1) agrees))
        (safe_b s h k [] ids2 frame w (at_after s ids a here) (record { listed = s2.1; rows = rows_b })
        (subst (λ m. DerivesBlock s.breaks s.turns m (flow_of_block r.program f s.left b) k) same leads.2)
        (agrees_in ids2 (λ u i. ap (λ vs. has vs u) (sym vars_a) ∙ i) agrees)))

  -- ---- loops

  module _ (e : Expr) (b : Block) (safe : IsSafeBlock r rest_of f b) (rest : RestIsSafe r rest_of f) where
    pub loop_is_safe : IsSafeForm r rest_of f (loop e b)
    loop_is_safe s h k ids frame w here kinded leads agrees =
        let i = leads.0 in
        let now = agrees_below leads.1 agrees in
        let s1 = both_empty (value_broken r.program f ids (Some bool) e) (list_broken r.program f [] ids b) kinded.row in
        let same = stays_passed (expr_rows r.program f e) i (expr_stays r.program f e) in
        let ids2 = ids_following_block r.program f b ids in
        let vars : ids2.vars ≡ ids.vars = block_vars r.program f b ids in
        let G = comes_to r.program f s k ids2 in
        let following = agrees_below (subst (λ m. IsBelow m k) same leads.3) now in
        let w1 = record w { fuel = w.fuel - 1 } in
        let body : Site = record {
          context = s.context;
          around = in_loop s.around;
          left = [];
          breaks = k;
          turns = i;
          outer = ids;
        } in
        let again : (frame : Frame) (w : World) → Agrees r.program f s.context i ids [] frame w.objects → Safe G (rest_of f (next 0 (loop e b) done) frame w) =
        λ frame w turned. rest (next 0 (loop e b) done) s i k ids false frame w here
        (kinded.row, none_both (block_rows r.program f (in_loop s.around) ids b) [] kinded.rows tt)
        (k, (i, below_itself i, leads.2, leads.3, leads.4), below_itself k) turned in
        spend_safe G w _
        (condition_safe w1 now G e _ s1.0 leads.2
        (λ z. choice_safe G (is_true z) (then_turn (does_block r rest_of f b frame w1) (rest_of f (next 0 (loop e b) done))) (goes frame w1)
        (turn_safe (comes_to r.program f body i ids2) G (does_block r rest_of f b frame w1) (rest_of f (next 0 (loop e b) done))
        (safe body i i [] ids frame w1
        (record { entered = here.entered; scoped = here.scoped; outer = λ v e. e })
        (record { listed = s1.1; rows = kinded.rows })
        (subst (λ m. DerivesBlock k i m (flow_of_block r.program f [] b) i) same leads.4) now)
        (λ frame w turned. again frame w (agrees_in ids (λ u e. ap (λ vs. has vs u) vars ∙ e) turned))
        (λ frame w jumped. again frame w jumped.agrees)
        (λ frame w jumped. agrees_in ids2 (λ u e. ap (λ vs. has vs u) (sym vars) ∙ e) jumped.agrees)
        (λ v kept w left. record { allowed = left.allowed; returned = left.returned }))
        (agrees_in ids2 (λ u e. ap (λ vs. has vs u) (sym vars) ∙ e) following)))

  -- ---- scopes

  pub scope_is_safe : (b : Block) → IsSafeBlock r rest_of f b → IsSafeForm r rest_of f (scope b)
  scope_is_safe b safe s h k ids frame w here kinded leads agrees =
      safe s h k [] ids frame w here (record { listed = kinded.row; rows = kinded.rows }) leads agrees

  -- ---- jumps

  pub jump_is_safe : (continues : Bool) → IsSafeForm r rest_of f (jump continues)
  jump_is_safe continues s h k ids frame w here kinded leads agrees = record {
    allowed = unless_so s.around.jumps rule.WRONG_JUMP kinded.row;
    agrees = agrees_in s.outer here.outer (agrees_below below agrees);
    away = λ t token e. sym (below.each t).kind ∙ away_in (in_order f s.left) h t leads.0 (ordered_in f s.left t token e);
  }
    where
      below : IsBelow h (toward continues s.breaks s.turns)
      below = subst (λ m. IsBelow m (toward continues s.breaks s.turns)) (gone_passed (in_order f s.left) h leads.0) leads.1
