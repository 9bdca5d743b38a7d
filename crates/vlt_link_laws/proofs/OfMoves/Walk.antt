-- Whole bodies.
use Rattle.std.proofs.Common.{◌≡◌, ℕ, ◌-◌, Bool, true, false, if◌then◌else◌, List, [], ◌∷◌, ◌++◌, length, map, Option, Some, None, Result, Ok, Err, option_map, refl, sym, ap, ap₂, ◌∙◌, subst}
use Rattle.std.proofs.lemmas.List.{length-map, map-append}
use Rattle.vlt_syntax.specs.Tree as s
use Rattle.vlt_syntax.specs.Tree.{Name, Stmt, Block, If, Else, Stmts, Arms}
use Rattle.vlt_core.specs.Core as core
use Rattle.vlt_core.specs.Core.{Ty, bool, Form}
use Rattle.vlt_core.specs.View.{stmts_made, arms_made}
use Rattle.vlt_link_laws.specs.CoreMoves.Moves.{Moves, moved_ty, moved_form, moved_block, moved_stmts, moved_arms, moved_var}
use Rattle.vlt_kinds_types.specs.declared.names.found.Refusal.{Refusal}
use Rattle.vlt_kinds_types.specs.Names.Refusals.{is_before, least_from}
use Rattle.vlt_kinds_types.specs.Kinds.{Kinds}
use Rattle.vlt_resolve_exprs.specs.Refused.{unknown_name}
use Rattle.vlt_resolve_exprs.specs.Scopes.{Scope, var_named, var_ty, scope_inside, scope_after, bound_in}
use Rattle.vlt_resolve_exprs.specs.Exprs.{wanted_refused, core_expr, number_of, var_number}
use Rattle.vlt_resolve_calls.specs.Builds.{Case}
use Rattle.vlt_elaboration.specs.Around.{Around, inside_loop, inside_focus}
use Rattle.vlt_elaboration.specs.Declarations.{Became, assign_refused}
use Rattle.vlt_elaboration.specs.Statements.{simple_refused, simple_became}
use Rattle.vlt_elaboration.specs.Blocks.{stmt_place, ends, closing, else_closing}
use Rattle.vlt_elaboration.specs.Switches.{arm_names, switch_refused, arm_case, arm_refused, arm_scope, arm_numbers, case_number, focus_refused, bound_scope}
use Rattle.vlt_elaboration.specs.Walk.{then_do, unless_refused, late, placed_at, block_made, one, walk_simple, walk_stmts, walk_stmt, walk_block, walk_if, walk_else, walk_chained, walk_arms, walk_arm}
use Rattle.vlt_iface.specs.Clash.{bound_names}
use Rattle.vlt_link_laws.specs.Moves.Sees.{Sees, moved_scope, AreFree}
use Rattle.vlt_link_laws.specs.Moves.Apt.{IsApt, IsAptBlock, IsAptIf, IsAptElse, IsAptStmts, IsAptArms}
use Rattle.vlt_link_laws.specs.Moves.Whole.{IsWhole}
use Rattle.vlt_link_laws.specs.Moves.Walks.{moved_around, moved_walked}
use Rattle.vlt_link_laws.proofs.OfMoves.Empty.{no_left}
use Rattle.vlt_link_laws.proofs.OfMoves.Scoping.{same_var, ty_moves}
use Rattle.vlt_link_laws.proofs.OfMoves.Exprs.{known_name}
use Rattle.vlt_link_laws.proofs.OfMoves.Builds.{moved_the_case}
use Rattle.vlt_link_laws.proofs.OfMoves.Rights.{moved_became}
use Rattle.vlt_link_laws.proofs.OfMoves.Statements.{wanted_fine, wanted_core, IsTyped, simple_fine, simple_core}
use Rattle.vlt_link_laws.proofs.OfMoves.Whole.{typed_name, whole_focus_key, whole_with_var, whole_several, whole_inside, whole_after, whole_simple}
use Rattle.vlt_link_laws.proofs.OfMoves.Switches.{IsCovered, switch_covered, switch_fine, arm_case_moves, arm_fine, arm_scope_moves, same_arm_numbers, bound_moves, focus_fine}

-- ---- results

err_not_ok : {A : Type 0} (r : Refusal) (x : A) → Err r ≡ Ok x → ⊥
err_not_ok r x e = cc

pub same_ok : {A : Type 0} (x y : A) → ◌≡◌ {A = Result A Refusal} (Ok x) (Ok y) → x ≡ y
same_ok x y e = cc

pub then_ok : {A B : Type 0} (r : Result A Refusal) (go : A → Result B Refusal) (z : B) → then_do r go ≡ Ok z → (y : A) × (r ≡ Ok y) × (go y ≡ Ok z)
then_ok (Ok y) go z e = (y, refl, e)
then_ok (Err r) go z e = absurd (err_not_ok r z e)

pub unless_ok : {B : Type 0} (o : Option Refusal) (go : Result B Refusal) (z : B) → unless_refused o go ≡ Ok z → (o ≡ None) × (go ≡ Ok z)
unless_ok None go z e = (refl, e)
unless_ok (Some r) go z e = absurd (err_not_ok r z e)

some_not_none : (r : Refusal) → Some r ≡ None → ⊥
some_not_none r e = cc

some_stays : (r : Refusal) (rs : List Refusal) → least_from (Some r) rs ≡ None → ⊥
some_stays r [] e = some_not_none r e
some_stays r (q ∷ rs) e = by (is_before q r) (some_stays q rs) (some_stays r rs) e
  where
    by : (x : Bool) → (least_from (Some q) rs ≡ None → ⊥) → (least_from (Some r) rs ≡ None → ⊥) → least_from (if x then Some q else Some r) rs ≡ None → ⊥
    by true f g e = f e
    by false f g e = g e

pub least_none : (found : Option Refusal) (rs : List Refusal) → least_from found rs ≡ None → (found ≡ None) × (rs ≡ [])
least_none found [] e = (e, refl)
least_none None (r ∷ rs) e = absurd (some_stays r rs e)
least_none (Some q) (r ∷ rs) e = absurd (some_stays q (r ∷ rs) e)

-- nothing found, and nothing refused
calm : (found : Option Refusal) (rs : List Refusal) → found ≡ None → rs ≡ [] → least_from found rs ≡ None
calm found rs f e = ap (least_from found) e ∙ f

whole_arm : (scope : Scope) (c : Case) (vs : List Name) → IsWhole scope → IsWhole (arm_scope scope (Some c) vs)
unfolding arm_scope
whole_arm scope c vs w = whole_several scope vs c.payload w

whole_bound : (scope : Scope) (ty : Option Ty) (k z : Name) → IsWhole scope → IsWhole (bound_scope scope ty k z)
whole_bound scope ty k z w = whole_with_var _ z.text _ (whole_focus_key scope k.text _ w)

module _ (m : Moves) where
  abbrev moved_placed : List (ℕ × Form) → List (ℕ × Form)
  moved_placed = map (λ x. (x.0, moved_form m x.1))

  abbrev moved_blocked : core.Block × Scope → core.Block × Scope
  moved_blocked y = (moved_block m y.0, moved_scope m y.1)

  abbrev moved_arm : ℕ × List ℕ × core.Block → ℕ × List ℕ × core.Block
  moved_arm x = (x.0, x.1, moved_block m x.2)

  abbrev moved_armed : (ℕ × List ℕ × core.Block) × Scope → (ℕ × List ℕ × core.Block) × Scope
  moved_armed y = (moved_arm y.0, moved_scope m y.1)

  abbrev moved_arms_walked : List (ℕ × List ℕ × core.Block) × Scope → List (ℕ × List ℕ × core.Block) × Scope
  moved_arms_walked y = (map moved_arm y.0, moved_scope m y.1)

  placed_moves : (at : ℕ) (fs : List Form) → placed_at at (map (moved_form m) fs) ≡ moved_placed (placed_at at fs)
  placed_moves at [] = refl
  placed_moves at (f ∷ fs) = ap (λ xs. (at, moved_form m f) ∷ xs) (placed_moves at fs)

  made_moves : (xs : List (ℕ × Form)) → stmts_made (moved_placed xs) ≡ moved_stmts m (stmts_made xs)
  made_moves [] = refl
  made_moves (x ∷ xs) = ap (core.next x.0 (moved_form m x.1)) (made_moves xs)

  arms_made_moves : (xs : List (ℕ × List ℕ × core.Block)) → arms_made (map moved_arm xs) ≡ moved_arms m (arms_made xs)
  arms_made_moves [] = refl
  arms_made_moves (x ∷ xs) = ap (core.arm x.0 x.1 (moved_block m x.2)) (arms_made_moves xs)

  block_made_moves : (y : List (ℕ × Form) × Scope) (end : ℕ) → block_made (moved_walked m y) end ≡ moved_block m (block_made y end)
  block_made_moves y end = ap (λ ss. core.block ss (bound_in y.1) end) (made_moves y.0)

  module _ (a b : Kinds) (sees : Sees m a b) where
    typed_stmt : (around : Around) (scope : Scope) (x : Stmt) → IsWhole scope → simple_refused a around scope x ≡ [] → IsTyped m a b sees scope x
    unfolding assign_refused
    typed_stmt around scope (s.assign x right at) w none =
        let v = known_name (var_named scope x.text) x (no_left (unknown_name (var_named scope x.text) x) _ none) in
        typed_name scope x.text v.0 w v.1
    typed_stmt around scope (s.declare t x right at) w none = tt
    typed_stmt around scope (s.put x f e at) w none = tt
    typed_stmt around scope (s.call c at) w none = tt
    typed_stmt around scope (s.print e at) w none = tt
    typed_stmt around scope (s.block y) w none = tt
    typed_stmt around scope (s.choose i) w none = tt
    typed_stmt around scope (s.loop e y at) w none = tt
    typed_stmt around scope (s.break at) w none = tt
    typed_stmt around scope (s.continue at) w none = tt
    typed_stmt around scope (s.return r at) w none = tt
    typed_stmt around scope (s.switch x arms at) w none = tt
    typed_stmt around scope (s.release x at) w none = tt
    typed_stmt around scope (s.become x n at) w none = tt
    typed_stmt around scope (s.swap x f v at) w none = tt
    typed_stmt around scope (s.open_into x vs at) w none = tt
    typed_stmt around scope (s.focus y k z c at) w none = tt

    -- a statement becomes the same, and leaves a whole scope
    abbrev Goes : Result Became Refusal → Became → Type 0
    Goes r y = (r ≡ Ok (moved_became m y)) × IsWhole y.1

    simple_goes : (around : Around) (scope : Scope) (found : Option Refusal) (x : Stmt) (y : Became) → AreFree a b (bound_names x) → IsWhole scope →
        walk_simple a around scope found x ≡ Ok y → Goes (walk_simple b (moved_around m around) (moved_scope m scope) found x) y
    simple_goes around scope found x y free w e =
        let u = unless_ok (least_from found (simple_refused a around scope x)) (Ok (simple_became a around scope x)) y e in
        let l = least_none found (simple_refused a around scope x) u.0 in
        let typed = typed_stmt around scope x w l.1 in
        let is = same_ok (simple_became a around scope x) y u.1 in (
          ap (λ o. unless_refused o (Ok (simple_became b (moved_around m around) (moved_scope m scope) x))) (calm found _ l.0 (simple_fine m a b sees around scope x typed free l.1)) ∙
              ap Ok (simple_core m a b sees around scope x typed free l.1 ∙ ap (moved_became m) is),
          subst (λ y. IsWhole y.1) is (whole_simple a around scope x w),
        )

    -- one form, of a part that was walked
    one_goes : (f g : Form) (scope : Scope) (y : Became) → IsWhole scope → f ≡ moved_form m g → one g scope ≡ Ok y → Goes (one f (moved_scope m scope)) y
    one_goes f g scope y w same e =
        let is = same_ok (g ∷ [], scope) y e in
        (ap (λ f. one f (moved_scope m scope)) same ∙ ap (λ y. Ok (moved_became m y)) is, subst (λ y. IsWhole y.1) is w)

    same_number : (scope : Scope) (x : Name) → var_number (moved_scope m scope) x ≡ var_number scope x
    unfolding var_number
    same_number scope x = ap number_of (same_var m scope x.text)

    mutual
      stmts_go : (around : Around) (scope : Scope) (ended : Bool) (ss : Stmts) (y : List (ℕ × Form) × Scope) → IsAptStmts a b ss → IsWhole scope → walk_stmts a around scope ended ss ≡ Ok y →
          (walk_stmts b (moved_around m around) (moved_scope m scope) ended ss ≡ Ok (moved_walked m y)) × IsWhole y.1
      stmts_go around scope ended s.done y apt w e =
          let is = same_ok ([], scope) y e in
          (ap (λ y. Ok (moved_walked m y)) is, subst (λ y. IsWhole y.1) is w)
      stmts_go around scope ended (s.next x xs) y apt w e =
          let part = then_ok (walk_stmt a around scope (late ended x) x) _ y e in
          let here = stmt_goes around scope (late ended x) x part.0 apt.0 w part.1 in
          let two = then_ok (walk_stmts a around part.0.1 (ends x) xs) _ y part.2 in
          let rest = stmts_go around part.0.1 (ends x) xs two.0 apt.1 here.1 two.1 in
          let is = same_ok (placed_at (stmt_place x) part.0.0 ++ two.0.0, two.0.1) y two.2 in (
            ap (λ r. then_do r (λ y. then_do (walk_stmts b (moved_around m around) y.1 (ends x) xs) (λ z. Ok (placed_at (stmt_place x) y.0 ++ z.0, z.1)))) here.0 ∙
                (ap (λ r. then_do r (λ z. Ok (placed_at (stmt_place x) (map (moved_form m) part.0.0) ++ z.0, z.1))) rest.0 ∙
                (ap (λ fs. Ok (fs, moved_scope m two.0.1)) (ap (λ fs. fs ++ moved_placed two.0.0) (placed_moves (stmt_place x) part.0.0) ∙ sym (map-append (λ x. (x.0, moved_form m x.1)) (placed_at (stmt_place x) part.0.0) two.0.0)) ∙
                ap (λ y. Ok (moved_walked m y)) is)),
            subst (λ y. IsWhole y.1) is rest.1,
          )

      stmt_goes : (around : Around) (scope : Scope) (found : Option Refusal) (x : Stmt) (y : Became) → IsApt a b x → IsWhole scope → walk_stmt a around scope found x ≡ Ok y →
          Goes (walk_stmt b (moved_around m around) (moved_scope m scope) found x) y
      stmt_goes around scope found (s.block c) y apt w e =
          let u = unless_ok found _ y e in
          let part = then_ok (walk_block a around scope c) _ y u.1 in
          let c2 = block_goes around scope c part.0 apt w part.1 in
          let o = one_goes (core.scope (moved_block m part.0.0)) (core.scope part.0.0) part.0.1 y c2.1 refl part.2 in (
            ap (λ f. unless_refused f (then_do (walk_block b (moved_around m around) (moved_scope m scope) c) (λ y. one (core.scope y.0) y.1))) u.0 ∙
                (ap (λ r. then_do r (λ y. one (core.scope y.0) y.1)) c2.0 ∙ o.0),
            o.1,
          )
      stmt_goes around scope found (s.choose i) y apt w e = if_goes around scope found i y apt w e
      stmt_goes around scope found (s.loop x c at) y apt w e =
          let u = unless_ok (least_from found (wanted_refused a scope (Some bool) x)) _ y e in
          let l = least_none found (wanted_refused a scope (Some bool) x) u.0 in
          let part = then_ok (walk_block a (inside_loop around) scope c) _ y u.1 in
          let c2 = block_goes (inside_loop around) scope c part.0 apt w part.1 in
          let o = one_goes (core.loop (core_expr b (moved_scope m scope) x) (moved_block m part.0.0)) (core.loop (core_expr a scope x) part.0.0) part.0.1 y c2.1
          (ap (λ f. core.loop f (moved_block m part.0.0)) (wanted_core m a b sees scope (Some bool) x l.1)) part.2 in (
            ap (λ f. unless_refused f (then_do (walk_block b (moved_around m (inside_loop around)) (moved_scope m scope) c) (λ y. one (core.loop (core_expr b (moved_scope m scope) x) y.0) y.1))) (calm found _ l.0 (wanted_fine m a b sees scope bool x l.1)) ∙
                (ap (λ r. then_do r (λ y. one (core.loop (core_expr b (moved_scope m scope) x) y.0) y.1)) c2.0 ∙ o.0),
            o.1,
          )
      stmt_goes around scope found (s.switch x arms at) y apt w e =
          let ty = var_ty scope x.text in
          let u = unless_ok (least_from found (switch_refused a ty x (arm_names arms) at.from)) _ y e in
          let l = least_none found (switch_refused a ty x (arm_names arms) at.from) u.0 in
          let part = then_ok (walk_arms a around scope ty arms) _ y u.1 in
          let c2 = arms_go around scope ty arms part.0 apt.1 (switch_covered m a b sees ty x arms at.from l.1) w part.1 in
          let o = one_goes (core.switch (var_number (moved_scope m scope) x) (arms_made (map moved_arm part.0.0)) (at.to - 1)) (core.switch (var_number scope x) (arms_made part.0.0) (at.to - 1)) part.0.1 y c2.1
          (ap₂ (λ v arms. core.switch v arms (at.to - 1)) (same_number scope x) (arms_made_moves part.0.0)) part.2 in (
            ap (λ o. unless_refused (least_from found (switch_refused b o x (arm_names arms) at.from)) (then_do (walk_arms b (moved_around m around) (moved_scope m scope) o arms) (λ y. one (core.switch (var_number (moved_scope m scope) x) (arms_made y.0) (at.to - 1)) y.1))) (ty_moves m scope x.text) ∙
                (ap (λ f. unless_refused f (then_do (walk_arms b (moved_around m around) (moved_scope m scope) (option_map (moved_ty m) ty) arms) (λ y. one (core.switch (var_number (moved_scope m scope) x) (arms_made y.0) (at.to - 1)) y.1))) (calm found _ l.0 (switch_fine m a b sees ty x arms at.from apt.0 l.1)) ∙
                (ap (λ r. then_do r (λ y. one (core.switch (var_number (moved_scope m scope) x) (arms_made y.0) (at.to - 1)) y.1)) c2.0 ∙ o.0)),
            o.1,
          )
      stmt_goes around scope found (s.focus y k z (s.braced ss close) at) r apt w e =
          let ty = var_ty scope y.text in
          let inner = bound_scope (scope_inside scope) ty k z in
          let u = unless_ok (least_from found (focus_refused a (scope_inside scope) ty y k z)) _ r e in
          let l = least_none found (focus_refused a (scope_inside scope) ty y k z) u.0 in
          let part = then_ok (walk_stmts a (inside_focus around) inner false ss) _ r u.1 in
          let c2 = stmts_go (inside_focus around) inner false ss part.0 apt.1 (whole_bound (scope_inside scope) ty k z (whole_inside scope w)) part.1 in
          let o = one_goes (core.focus (var_number (moved_scope m scope) y) (length (map (moved_var m) scope.vars)) (block_made (moved_walked m part.0) (close.to - 1))) (core.focus (var_number scope y) (length scope.vars) (block_made part.0 (close.to - 1))) (scope_after scope part.0.1) r
          (whole_after scope part.0.1 c2.1)
          (ap₂ (λ v n. core.focus v n (block_made (moved_walked m part.0) (close.to - 1))) (same_number scope y) (length-map scope.vars (moved_var m)) ∙ ap (core.focus (var_number scope y) (length scope.vars)) (block_made_moves part.0 (close.to - 1))) part.2 in (
            ap (λ o. unless_refused (least_from found (focus_refused b (scope_inside (moved_scope m scope)) o y k z)) (then_do (walk_stmts b (inside_focus (moved_around m around)) (bound_scope (scope_inside (moved_scope m scope)) o k z) false ss) (λ w. one (core.focus (var_number (moved_scope m scope) y) (length (map (moved_var m) scope.vars)) (block_made w (close.to - 1))) (scope_after (moved_scope m scope) w.1)))) (ty_moves m scope y.text) ∙
                (ap (λ f. unless_refused f (then_do (walk_stmts b (inside_focus (moved_around m around)) (bound_scope (scope_inside (moved_scope m scope)) (option_map (moved_ty m) ty) k z) false ss) (λ w. one (core.focus (var_number (moved_scope m scope) y) (length (map (moved_var m) scope.vars)) (block_made w (close.to - 1))) (scope_after (moved_scope m scope) w.1)))) (calm found _ l.0 (focus_fine m a b sees (scope_inside scope) ty y k z apt.0 l.1)) ∙
                (ap (λ sc. then_do (walk_stmts b (inside_focus (moved_around m around)) sc false ss) (λ w. one (core.focus (var_number (moved_scope m scope) y) (length (map (moved_var m) scope.vars)) (block_made w (close.to - 1))) (scope_after (moved_scope m scope) w.1))) (sym (bound_moves m a b sees (scope_inside scope) ty y k z l.1)) ∙
                (ap (λ r. then_do r (λ w. one (core.focus (var_number (moved_scope m scope) y) (length (map (moved_var m) scope.vars)) (block_made w (close.to - 1))) (scope_after (moved_scope m scope) w.1))) c2.0 ∙ o.0))),
            o.1,
          )
      stmt_goes around scope found (s.declare t x right at) y apt w e = simple_goes around scope found (s.declare t x right at) y apt w e
      stmt_goes around scope found (s.assign x right at) y apt w e = simple_goes around scope found (s.assign x right at) y apt w e
      stmt_goes around scope found (s.put x f v at) y apt w e = simple_goes around scope found (s.put x f v at) y apt w e
      stmt_goes around scope found (s.call c at) y apt w e = simple_goes around scope found (s.call c at) y apt w e
      stmt_goes around scope found (s.print v at) y apt w e = simple_goes around scope found (s.print v at) y apt w e
      stmt_goes around scope found (s.break at) y apt w e = simple_goes around scope found (s.break at) y apt w e
      stmt_goes around scope found (s.continue at) y apt w e = simple_goes around scope found (s.continue at) y apt w e
      stmt_goes around scope found (s.return r at) y apt w e = simple_goes around scope found (s.return r at) y apt w e
      stmt_goes around scope found (s.release x at) y apt w e = simple_goes around scope found (s.release x at) y apt w e
      stmt_goes around scope found (s.become x n at) y apt w e = simple_goes around scope found (s.become x n at) y apt w e
      stmt_goes around scope found (s.swap x f v at) y apt w e = simple_goes around scope found (s.swap x f v at) y apt w e
      stmt_goes around scope found (s.open_into x vs at) y apt w e = simple_goes around scope found (s.open_into x vs at) y apt w e

      block_goes : (around : Around) (scope : Scope) (c : Block) (y : core.Block × Scope) → IsAptBlock a b c → IsWhole scope → walk_block a around scope c ≡ Ok y →
          (walk_block b (moved_around m around) (moved_scope m scope) c ≡ Ok (moved_blocked y)) × IsWhole y.1
      block_goes around scope (s.braced ss at) y apt w e =
          let part = then_ok (walk_stmts a around (scope_inside scope) false ss) _ y e in
          let c = stmts_go around (scope_inside scope) false ss part.0 apt (whole_inside scope w) part.1 in
          let is = same_ok (block_made part.0 (at.to - 1), scope_after scope part.0.1) y part.2 in (
            ap (λ r. then_do r (λ y. Ok (block_made y (at.to - 1), scope_after (moved_scope m scope) y.1))) c.0 ∙
                (ap (λ x. Ok (x, moved_scope m (scope_after scope part.0.1))) (block_made_moves part.0 (at.to - 1)) ∙ ap (λ y. Ok (moved_blocked y)) is),
            subst (λ y. IsWhole y.1) is (whole_after scope part.0.1 c.1),
          )

      if_goes : (around : Around) (scope : Scope) (found : Option Refusal) (i : If) (y : Became) → IsAptIf a b i → IsWhole scope → walk_if a around scope found i ≡ Ok y →
          Goes (walk_if b (moved_around m around) (moved_scope m scope) found i) y
      if_goes around scope found (s.choice x c other at) y apt w e =
          let u = unless_ok (least_from found (wanted_refused a scope (Some bool) x)) _ y e in
          let l = least_none found (wanted_refused a scope (Some bool) x) u.0 in
          let first = then_ok (walk_block a around scope c) _ y u.1 in
          let c1 = block_goes around scope c first.0 apt.0 w first.1 in
          let second = then_ok (walk_else a around first.0.1 (else_closing (closing c) other) other) _ y first.2 in
          let c2 = else_goes around first.0.1 (else_closing (closing c) other) other second.0 apt.1 c1.1 second.1 in
          let o = one_goes (core.choose (core_expr b (moved_scope m scope) x) (moved_block m first.0.0) (moved_block m second.0.0)) (core.choose (core_expr a scope x) first.0.0 second.0.0) second.0.1 y c2.1
          (ap (λ f. core.choose f (moved_block m first.0.0) (moved_block m second.0.0)) (wanted_core m a b sees scope (Some bool) x l.1)) second.2 in (
            ap (λ f. unless_refused f (then_do (walk_block b (moved_around m around) (moved_scope m scope) c) (λ y. then_do (walk_else b (moved_around m around) y.1 (else_closing (closing c) other) other) (λ z. one (core.choose (core_expr b (moved_scope m scope) x) y.0 z.0) z.1)))) (calm found _ l.0 (wanted_fine m a b sees scope bool x l.1)) ∙
                (ap (λ r. then_do r (λ y. then_do (walk_else b (moved_around m around) y.1 (else_closing (closing c) other) other) (λ z. one (core.choose (core_expr b (moved_scope m scope) x) y.0 z.0) z.1))) c1.0 ∙
                (ap (λ r. then_do r (λ z. one (core.choose (core_expr b (moved_scope m scope) x) (moved_block m first.0.0) z.0) z.1)) c2.0 ∙ o.0)),
            o.1,
          )

      else_goes : (around : Around) (scope : Scope) (end : ℕ) (other : Else) (y : core.Block × Scope) → IsAptElse a b other → IsWhole scope → walk_else a around scope end other ≡ Ok y →
          (walk_else b (moved_around m around) (moved_scope m scope) end other ≡ Ok (moved_blocked y)) × IsWhole y.1
      else_goes around scope end s.nothing y apt w e =
          let is = same_ok (core.block core.done [] end, scope) y e in
          (ap (λ y. Ok (moved_blocked y)) is, subst (λ y. IsWhole y.1) is w)
      else_goes around scope end (s.last c) y apt w e = block_goes around scope c y apt w e
      else_goes around scope end (s.chained i) y apt w e = chained_goes around scope end i y apt w e

      chained_goes : (around : Around) (scope : Scope) (end : ℕ) (i : If) (y : core.Block × Scope) → IsAptIf a b i → IsWhole scope → walk_chained a around scope end i ≡ Ok y →
          (walk_chained b (moved_around m around) (moved_scope m scope) end i ≡ Ok (moved_blocked y)) × IsWhole y.1
      chained_goes around scope end (s.choice x c other at) y apt w e =
          let u = unless_ok (least_from None (wanted_refused a scope (Some bool) x)) _ y e in
          let l = least_none None (wanted_refused a scope (Some bool) x) u.0 in
          let first = then_ok (walk_block a around scope c) _ y u.1 in
          let c1 = block_goes around scope c first.0 apt.0 w first.1 in
          let second = then_ok (walk_else a around first.0.1 end other) _ y first.2 in
          let c2 = else_goes around first.0.1 end other second.0 apt.1 c1.1 second.1 in
          let is = same_ok (core.block (core.next at.from (core.choose (core_expr a scope x) first.0.0 second.0.0) core.done) [] end, second.0.1) y second.2 in (
            ap (λ f. unless_refused f (then_do (walk_block b (moved_around m around) (moved_scope m scope) c) (λ y. then_do (walk_else b (moved_around m around) y.1 end other) (λ z. Ok (core.block (core.next at.from (core.choose (core_expr b (moved_scope m scope) x) y.0 z.0) core.done) [] end, z.1))))) (calm None _ refl (wanted_fine m a b sees scope bool x l.1)) ∙
                (ap (λ r. then_do r (λ y. then_do (walk_else b (moved_around m around) y.1 end other) (λ z. Ok (core.block (core.next at.from (core.choose (core_expr b (moved_scope m scope) x) y.0 z.0) core.done) [] end, z.1)))) c1.0 ∙
                (ap (λ r. then_do r (λ z. Ok (core.block (core.next at.from (core.choose (core_expr b (moved_scope m scope) x) (moved_block m first.0.0) z.0) core.done) [] end, z.1))) c2.0 ∙
                (ap (λ f. Ok (core.block (core.next at.from (core.choose f (moved_block m first.0.0) (moved_block m second.0.0)) core.done) [] end, moved_scope m second.0.1)) (wanted_core m a b sees scope (Some bool) x l.1) ∙ ap (λ y. Ok (moved_blocked y)) is))),
            subst (λ y. IsWhole y.1) is c2.1,
          )

      arms_go : (around : Around) (scope : Scope) (ty : Option Ty) (arms : Arms) (y : List (ℕ × List ℕ × core.Block) × Scope) → IsAptArms a b arms → IsCovered a ty arms → IsWhole scope → walk_arms a around scope ty arms ≡ Ok y →
          (walk_arms b (moved_around m around) (moved_scope m scope) (option_map (moved_ty m) ty) arms ≡ Ok (moved_arms_walked y)) × IsWhole y.1
      arms_go around scope ty s.no_arms y apt covered w e =
          let is = same_ok ([], scope) y e in
          (ap (λ y. Ok (moved_arms_walked y)) is, subst (λ y. IsWhole y.1) is w)
      arms_go around scope ty (s.arm tick vs (s.braced ss at) aat rest) y apt covered w e =
          let c = covered.0.0 in
          let inside = scope_inside scope in
          let first = then_ok (walk_arm a around scope (arm_case a ty tick) tick vs (s.braced ss at)) _ y e in
          let arm_e = subst (λ o. walk_arm a around scope o tick vs (s.braced ss at) ≡ Ok first.0) covered.0.1 first.1 in
          let u = unless_ok (least_from None (arm_refused a inside (Some c) tick vs)) _ first.0 arm_e in
          let l = least_none None (arm_refused a inside (Some c) tick vs) u.0 in
          let body = then_ok (walk_stmts a around (arm_scope inside (Some c) vs) false ss) _ first.0 u.1 in
          let c1 = stmts_go around (arm_scope inside (Some c) vs) false ss body.0 apt.1 (whole_arm inside c vs (whole_inside scope w)) body.1 in
          let here = same_ok ((case_number (Some c), arm_numbers inside (Some c) vs, block_made body.0 (at.to - 1)), scope_after scope body.0.1) first.0 body.2 in
          let whole = subst (λ y. IsWhole y.1) here (whole_after scope body.0.1 c1.1) in
          let second = then_ok (walk_arms a around first.0.1 ty rest) _ y first.2 in
          let c2 = arms_go around first.0.1 ty rest second.0 apt.2 covered.1 whole second.1 in
          let is = same_ok (first.0.0 ∷ second.0.0, second.0.1) y second.2 in
          let arm_there : walk_arm b (moved_around m around) (moved_scope m scope) (arm_case b (option_map (moved_ty m) ty) tick) tick vs (s.braced ss at) ≡ Ok (moved_armed first.0) =
          ap (λ o. walk_arm b (moved_around m around) (moved_scope m scope) o tick vs (s.braced ss at)) (arm_case_moves m a b sees ty tick c covered.0.1) ∙
          (ap (λ f. unless_refused f (then_do (walk_stmts b (moved_around m around) (arm_scope (scope_inside (moved_scope m scope)) (Some (moved_the_case m a b sees c)) vs) false ss) (λ y. Ok ((case_number (Some (moved_the_case m a b sees c)), arm_numbers (scope_inside (moved_scope m scope)) (Some (moved_the_case m a b sees c)) vs, block_made y (at.to - 1)), scope_after (moved_scope m scope) y.1)))) (calm None _ refl (arm_fine m a b sees inside c tick vs apt.0 l.1)) ∙
          (ap (λ sc. then_do (walk_stmts b (moved_around m around) sc false ss) (λ y. Ok ((case_number (Some (moved_the_case m a b sees c)), arm_numbers (scope_inside (moved_scope m scope)) (Some (moved_the_case m a b sees c)) vs, block_made y (at.to - 1)), scope_after (moved_scope m scope) y.1))) (sym (arm_scope_moves m a b sees inside c vs)) ∙
          (ap (λ r. then_do r (λ y. Ok ((case_number (Some (moved_the_case m a b sees c)), arm_numbers (scope_inside (moved_scope m scope)) (Some (moved_the_case m a b sees c)) vs, block_made y (at.to - 1)), scope_after (moved_scope m scope) y.1))) c1.0 ∙
          (ap₂ (λ (ns : List ℕ) (x : core.Block). Ok ((c.number, ns, x), moved_scope m (scope_after scope body.0.1))) (same_arm_numbers m a b sees inside c vs) (block_made_moves body.0 (at.to - 1)) ∙
          ap (λ y. Ok (moved_armed y)) here)))) in (
            ap (λ r. then_do r (λ y. then_do (walk_arms b (moved_around m around) y.1 (option_map (moved_ty m) ty) rest) (λ z. Ok (y.0 ∷ z.0, z.1)))) arm_there ∙
                (ap (λ r. then_do r (λ z. Ok (moved_arm first.0.0 ∷ z.0, z.1))) c2.0 ∙ ap (λ y. Ok (moved_arms_walked y)) is),
            subst (λ y. IsWhole y.1) is c2.1,
          )

    pub walks_move : (around : Around) (scope : Scope) (ended : Bool) (ss : Stmts) (y : List (ℕ × Form) × Scope) → IsAptStmts a b ss → IsWhole scope → walk_stmts a around scope ended ss ≡ Ok y →
        walk_stmts b (moved_around m around) (moved_scope m scope) ended ss ≡ Ok (moved_walked m y)
    walks_move around scope ended ss y apt w e = (stmts_go around scope ended ss y apt w e).0
