-- The blocks of an elaborated program nest as those of its tree do.
use Rattle.std.proofs.Common.{◌≡◌, ◌≤◌, ℕ, suc, ◌-◌, max, Bool, true, false, true≢false, if◌then◌else◌, List, [], ◌∷◌, ◌++◌, length, Option, Some, None, slice_get, Ok, sym, subst, arith}
use Rattle.std.proofs.Math.Nat.{max-le}
use Rattle.vlt_base.specs.Limits.{limit_of}
use Rattle.vlt_syntax.specs.Tree as s
use Rattle.vlt_syntax.specs.Tree.{Stmt, Block, Else, Stmts, Arms}
use Rattle.vlt_syntax.specs.Lists.{Each}
use Rattle.vlt_syntax.specs.Grammar.{language, IsStmt, IsBlock, IsElse, AreStmts, IsSomeArm, AreArms}
use Rattle.vlt_core.specs.Core as core
use Rattle.vlt_core.specs.Core.{Ty, bool, Form, Func, Program}
use Rattle.vlt_core.specs.View.{stmts_made, arms_made}
use Rattle.vlt_kinds_types.specs.declared.names.found.Refusal.{Refusal}
use Rattle.vlt_kinds_types.specs.Names.Refusals.{least_from}
use Rattle.vlt_kinds_types.specs.Kinds.{Kinds}
use Rattle.vlt_resolve_exprs.specs.Scopes.{Scope, var_ty, scope_inside, scope_after}
use Rattle.vlt_resolve_exprs.specs.Exprs.{wanted_refused, core_expr, var_number}
use Rattle.vlt_elaboration.specs.Around.{Around, inside_loop, inside_focus}
use Rattle.vlt_elaboration.specs.Statements.{simple_refused, simple_became}
use Rattle.vlt_elaboration.specs.Switches.{arm_names, switch_refused, arm_case, arm_refused, arm_scope, arm_numbers, case_number, focus_refused, bound_scope}
use Rattle.vlt_elaboration.specs.Blocks.{block_ends, closing, else_closing, ends, stmt_place}
use Rattle.vlt_elaboration.specs.Walk.{late, placed_at, block_made, walk_stmts, walk_stmt, walk_block, walk_else, walk_arms, walk_arm, walk_simple}
use Rattle.vlt_elaboration.specs.Elaboration.{last_return}
use Rattle.vlt_resolve_laws.specs.Made.{head_made, IsWalked}
use Rattle.vlt_resolve_laws.proofs.OfKindsLaws.Rows.{each_joined}
use Rattle.vlt_resolve_laws.proofs.Made.{HasFunctions, made_at}
use Rattle.vlt_resolve_laws.proofs.Results.{same_ok, then_ok, unless_ok}
use Rattle.cert_rows.specs.Parts.{All}
use Rattle.cert_fit_laws.specs.Limits.{IsLimited}
use Rattle.cert_text_laws.proofs.Simple.{plain_limited}
use Rattle.c_lower_runs.specs.Texts.Printable.{nested_in, nested_block, nested, nested_arms}

-- ---- lists

no_less : (n : ℕ) → 0 ≤ n
no_less n = omega arith

-- the blocks of a statement nest no deeper than there is room
abbrev IsWithin : (room : ℕ) → Form → Type 0
IsWithin room f = nested_in f ≤ room

abbrev IsPlacedWithin : (room : ℕ) → ℕ × Form → Type 0
IsPlacedWithin room x = nested_in x.1 ≤ room

placed_within : (room at : ℕ) (fs : List Form) → Each (IsWithin room) fs → Each (IsPlacedWithin room) (placed_at at fs)
placed_within room at [] is = tt
placed_within room at (f ∷ fs) is = (is.0, placed_within room at fs is.1)

together : (room : ℕ) (xs : List (ℕ × Form)) → Each (IsPlacedWithin room) xs → nested (stmts_made xs) ≤ room
together room [] is = no_less room
together room (x ∷ xs) is = max-le is.0 (together room xs is.1)

-- a statement with blocks is one deeper than they
one_deeper : (room n : ℕ) → 1 ≤ room → n ≤ room - 1 → suc n ≤ room
one_deeper room n some few = omega (arith, some, few)

block_room : (room : ℕ) (b : Block) → IsBlock language room b → 1 ≤ room
block_room room (s.braced ss at) is = is.0

arms_room : (room : ℕ) (arms : Arms) → IsSomeArm arms → AreArms language room arms → 1 ≤ room
arms_room room s.no_arms some are = absurd some
arms_room room (s.arm c vs b at more) some are = block_room room b are.0

-- ---- statements without blocks

-- where no block can be, the statement has none
blockless : (room : ℕ) (f : Form) → IsLimited 64 f → nested_in f ≤ room
blockless room (core.simple x) is = no_less room
blockless room (core.call g target keys os) is = no_less room
blockless room (core.choose e a b) is = absurd (true≢false (sym is.0))
blockless room (core.loop e b) is = absurd (true≢false (sym is.0))
blockless room (core.switch v arms end) is = absurd (true≢false (sym is.0))
blockless room (core.focus y z b) is = absurd (true≢false (sym is.0))
blockless room (core.scope b) is = absurd (true≢false (sym is.0))
blockless room (core.return o) is = no_less room
blockless room (core.jump continues) is = no_less room

all_blockless : (room : ℕ) (fs : List Form) → All (IsLimited 64) fs → Each (IsWithin room) fs
all_blockless room [] is = tt
all_blockless room (f ∷ fs) is = (blockless room f is.0, all_blockless room fs is.1)

-- ---- all statements

module _ (kinds : Kinds) where
  simple_within : (around : Around) (scope : Scope) (room : ℕ) (found : Option Refusal) (x : Stmt) (r : List Form × Scope) → walk_simple kinds around scope found x ≡ Ok r → Each (IsWithin room) r.0
  simple_within around scope room found x r e =
      let u = unless_ok (least_from found (simple_refused kinds around scope x)) (Ok (simple_became kinds around scope x)) r e in
      subst (λ z. Each (IsWithin room) z.0) (same_ok (simple_became kinds around scope x) r u.1)
      (all_blockless room (simple_became kinds around scope x).0 (plain_limited 64 kinds around scope x).limited)

  mutual
    stmts_within : (around : Around) (scope : Scope) (room : ℕ) (ended : Bool) (xs : Stmts) (r : List (ℕ × Form) × Scope) → AreStmts language room xs
        → walk_stmts kinds around scope ended xs ≡ Ok r → Each (IsPlacedWithin room) r.0
    stmts_within around scope room ended s.done r g e = subst (λ z. Each (IsPlacedWithin room) z.0) (same_ok ([], scope) r e) tt
    stmts_within around scope room ended (s.next x xs) r g e =
        let a = then_ok (walk_stmt kinds around scope (late ended x) x) _ r e in
        let c = then_ok (walk_stmts kinds around a.first.1 (ends x) xs) _ r a.rest in
        subst (λ z. Each (IsPlacedWithin room) z.0) (same_ok (placed_at (stmt_place x) a.first.0 ++ c.first.0, c.first.1) r c.rest)
        (each_joined (IsPlacedWithin room) (placed_at (stmt_place x) a.first.0) c.first.0
        (placed_within room (stmt_place x) a.first.0 (stmt_within around scope room (late ended x) x a.first g.0 a.one)) (stmts_within around a.first.1 room (ends x) xs c.first g.1 c.one))

    stmt_within : (around : Around) (scope : Scope) (room : ℕ) (found : Option Refusal) (x : Stmt) (r : List Form × Scope) → IsStmt language room x
        → walk_stmt kinds around scope found x ≡ Ok r → Each (IsWithin room) r.0
    stmt_within around scope room found (s.declare t v y at) r g e = simple_within around scope room found (s.declare t v y at) r e
    stmt_within around scope room found (s.assign v y at) r g e = simple_within around scope room found (s.assign v y at) r e
    stmt_within around scope room found (s.put v i y at) r g e = simple_within around scope room found (s.put v i y at) r e
    stmt_within around scope room found (s.call c at) r g e = simple_within around scope room found (s.call c at) r e
    stmt_within around scope room found (s.print y at) r g e = simple_within around scope room found (s.print y at) r e
    stmt_within around scope room found (s.break at) r g e = simple_within around scope room found (s.break at) r e
    stmt_within around scope room found (s.continue at) r g e = simple_within around scope room found (s.continue at) r e
    stmt_within around scope room found (s.return v at) r g e = simple_within around scope room found (s.return v at) r e
    stmt_within around scope room found (s.release v at) r g e = simple_within around scope room found (s.release v at) r e
    stmt_within around scope room found (s.become v t at) r g e = simple_within around scope room found (s.become v t at) r e
    stmt_within around scope room found (s.swap v i y at) r g e = simple_within around scope room found (s.swap v i y at) r e
    stmt_within around scope room found (s.open_into v ws at) r g e = simple_within around scope room found (s.open_into v ws at) r e
    stmt_within around scope room found (s.block b) r g e =
        let u = unless_ok found _ r e in
        let a = then_ok (walk_block kinds around scope b) _ r u.1 in
        subst (λ z. Each (IsWithin room) z.0) (same_ok (core.scope a.first.0 ∷ [], a.first.1) r a.rest)
        (one_deeper room (nested_block a.first.0) (block_room room b g) (block_within around scope room b a.first g a.one), tt)
    stmt_within around scope room found (s.choose (s.choice y b other at)) r g e =
        let u = unless_ok (least_from found (wanted_refused kinds scope (Some bool) y)) _ r e in
        let a = then_ok (walk_block kinds around scope b) _ r u.1 in
        let c = then_ok (walk_else kinds around a.first.1 (else_closing (closing b) other) other) _ r a.rest in
        subst (λ z. Each (IsWithin room) z.0) (same_ok (core.choose (core_expr kinds scope y) a.first.0 c.first.0 ∷ [], c.first.1) r c.rest) (
          one_deeper room (max (nested_block a.first.0) (nested_block c.first.0)) (block_room room b g.1)
              (max-le (block_within around scope room b a.first g.1 a.one) (else_within around a.first.1 room (else_closing (closing b) other) other c.first g.2 c.one)),
          tt,
        )
    stmt_within around scope room found (s.loop y b at) r g e =
        let u = unless_ok (least_from found (wanted_refused kinds scope (Some bool) y)) _ r e in
        let a = then_ok (walk_block kinds (inside_loop around) scope b) _ r u.1 in
        subst (λ z. Each (IsWithin room) z.0) (same_ok (core.loop (core_expr kinds scope y) a.first.0 ∷ [], a.first.1) r a.rest)
        (one_deeper room (nested_block a.first.0) (block_room room b g.1) (block_within (inside_loop around) scope room b a.first g.1 a.one), tt)
    stmt_within around scope room found (s.switch x arms at) r g e =
        let u = unless_ok (least_from found (switch_refused kinds (var_ty scope x.text) x (arm_names arms) at.from)) _ r e in
        let a = then_ok (walk_arms kinds around scope (var_ty scope x.text) arms) _ r u.1 in
        subst (λ z. Each (IsWithin room) z.0) (same_ok (core.switch (var_number scope x) (arms_made a.first.0) (at.to - 1) ∷ [], a.first.1) r a.rest)
        (one_deeper room (nested_arms (arms_made a.first.0)) (arms_room room arms g.0 g.1) (arms_within around scope room (var_ty scope x.text) arms a.first g.1 a.one), tt)
    stmt_within around scope room found (s.focus y k z (s.braced ss close) at) r g e =
        let inside = scope_inside scope in
        let ty = var_ty scope y.text in
        let u = unless_ok (least_from found (focus_refused kinds inside ty y k z)) _ r e in
        let a = then_ok (walk_stmts kinds (inside_focus around) (bound_scope inside ty k z) false ss) _ r u.1 in
        let q = stmts_within (inside_focus around) (bound_scope inside ty k z) (room - 1) false ss a.first g.1 a.one in
        subst (λ z. Each (IsWithin room) z.0) (same_ok (core.focus (var_number scope y) (length scope.vars) (block_made a.first (close.to - 1)) ∷ [], scope_after scope a.first.1) r a.rest)
        (one_deeper room (nested (stmts_made a.first.0)) g.0 (together (room - 1) a.first.0 q), tt)

    block_within : (around : Around) (scope : Scope) (room : ℕ) (b : Block) (r : core.Block × Scope) → IsBlock language room b
        → walk_block kinds around scope b ≡ Ok r → nested_block r.0 ≤ room - 1
    block_within around scope room (s.braced ss at) r g e =
        let a = then_ok (walk_stmts kinds around (scope_inside scope) false ss) _ r e in
        subst (λ z. nested_block z.0 ≤ room - 1) (same_ok (block_made a.first (at.to - 1), scope_after scope a.first.1) r a.rest)
        (together (room - 1) a.first.0 (stmts_within around (scope_inside scope) (room - 1) false ss a.first g.1 a.one))

    else_within : (around : Around) (scope : Scope) (room end : ℕ) (o : Else) (r : core.Block × Scope) → IsElse language room o
        → walk_else kinds around scope end o ≡ Ok r → nested_block r.0 ≤ room - 1
    else_within around scope room end s.nothing r g e = subst (λ z. nested_block z.0 ≤ room - 1) (same_ok (core.block core.done [] end, scope) r e) (no_less (room - 1))
    else_within around scope room end (s.last b) r g e = block_within around scope room b r g e
    else_within around scope room end (s.chained (s.choice y b other at)) r g e =
        let u = unless_ok (least_from None (wanted_refused kinds scope (Some bool) y)) _ r e in
        let a = then_ok (walk_block kinds around scope b) _ r u.1 in
        let c = then_ok (walk_else kinds around a.first.1 end other) _ r a.rest in
        subst (λ z. nested_block z.0 ≤ room - 1) (same_ok (core.block (core.next at.from (core.choose (core_expr kinds scope y) a.first.0 c.first.0) core.done) [] end, c.first.1) r c.rest)
        (max-le
        (one_deeper (room - 1) (max (nested_block a.first.0) (nested_block c.first.0)) (block_room (room - 1) b g.1.1)
        (max-le (block_within around scope (room - 1) b a.first g.1.1 a.one) (else_within around a.first.1 (room - 1) end other c.first g.1.2 c.one)))
        (no_less (room - 1)))

    arms_within : (around : Around) (scope : Scope) (room : ℕ) (ty : Option Ty) (arms : Arms) (r : List (ℕ × List ℕ × core.Block) × Scope) → AreArms language room arms
        → walk_arms kinds around scope ty arms ≡ Ok r → nested_arms (arms_made r.0) ≤ room - 1
    arms_within around scope room ty s.no_arms r g e = subst (λ z. nested_arms (arms_made z.0) ≤ room - 1) (same_ok ([], scope) r e) (no_less (room - 1))
    arms_within around scope room ty (s.arm tick vs (s.braced ss close) at rest) r g e =
        let c = arm_case kinds ty tick in
        let a = then_ok (walk_arm kinds around scope c tick vs (s.braced ss close)) _ r e in
        let d = then_ok (walk_arms kinds around a.first.1 ty rest) _ r a.rest in
        let u = unless_ok (least_from None (arm_refused kinds (scope_inside scope) c tick vs)) _ a.first a.one in
        let y = then_ok (walk_stmts kinds around (arm_scope (scope_inside scope) c vs) false ss) _ a.first u.1 in
        let q = stmts_within around (arm_scope (scope_inside scope) c vs) (room - 1) false ss y.first g.0.1 y.one in
        let here : nested_block a.first.0.2 ≤ room - 1 =
        subst (λ z. nested_block z.0.2 ≤ room - 1) (same_ok ((case_number c, arm_numbers (scope_inside scope) c vs, block_made y.first (close.to - 1)), scope_after scope y.first.1) a.first y.rest)
        (together (room - 1) y.first.0 q) in
        let more = arms_within around a.first.1 room ty rest d.first g.1 d.one in
        subst (λ z. nested_arms (arms_made z.0) ≤ room - 1) (same_ok (a.first.0 ∷ d.first.0, d.first.1) r d.rest) (max-le here more)

-- ---- functions

-- the last statement of a body
last_within : (room : ℕ) (b : Block) → Each (IsPlacedWithin room) (last_return b)
last_within room b = by (block_ends b)
  where
    end : List (ℕ × Form)
    end = (closing b, core.return None) ∷ []

    by : (t : Bool) → Each (IsPlacedWithin room) (if t then [] else end)
    by true = tt
    by false = (no_less room, tt)

body_within : (kinds : Kinds) (h : Func) (body : Option Block) (f : Func) → IsWalked kinds h body f → nested f.body ≤ 64
body_within kinds h None f is = subst (λ (f : Func). nested f.body ≤ 64) (sym is) (no_less 64)
body_within kinds h (Some (s.braced ss at)) f is =
    let w = is.1 in
    let b = s.braced ss at in
    let all = each_joined (IsPlacedWithin 63) w.last.0 (last_return b) (stmts_within kinds _ _ 63 false ss w.last is.0.1 w.walked) (last_within 63 b) in
    subst (λ (f : Func). nested f.body ≤ 64) (sym w.made) (less (nested (stmts_made (w.last.0 ++ last_return b))) (together 63 (w.last.0 ++ last_return b) all))
  where
    less : (n : ℕ) → n ≤ 63 → n ≤ 64
    less n few = omega (arith, few)

pub blocks_shallow : (kinds : Kinds) (p : Program) → HasFunctions kinds p → (g : ℕ) (f : Func) → slice_get p.fns g ≡ Some f → nested f.body ≤ limit_of 12
blocks_shallow kinds p functions g f at =
    let m = made_at kinds kinds.heads p.fns functions.made g f at in
    body_within kinds (head_made kinds m.head m.body) m.body f m.made.walked
