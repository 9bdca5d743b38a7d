-- What statements become has no more statements in all, with those inside others, than the tree says.
use Rattle.std.proofs.Common.{◌≡◌, ℕ, suc, ◌+◌, ◌≤◌, ◌-◌, nat_lt, Bool, true, false, if◌then◌else◌, List, [], ◌∷◌, ◌++◌, length, Option, Some, None, Ok, refl, sym, ap, subst, arith}
use Rattle.vlt_syntax.specs.Tree as s
use Rattle.vlt_syntax.specs.Tree.{Stmt, Block, Else, Stmts, Arms}
use Rattle.vlt_core.specs.Core as core
use Rattle.vlt_core.specs.Core.{Ty, bool, Form}
use Rattle.vlt_core.specs.View.{stmts_made, arms_made}
use Rattle.vlt_kinds_types.specs.declared.names.found.Refusal.{Refusal}
use Rattle.vlt_kinds_types.specs.Names.Refusals.{least_from}
use Rattle.vlt_kinds_types.specs.Kinds.{Kinds}
use Rattle.vlt_resolve_exprs.specs.Scopes.{Scope, var_ty, scope_inside, scope_after}
use Rattle.vlt_resolve_exprs.specs.Exprs.{wanted_refused, core_expr, var_number}
use Rattle.vlt_elaboration.specs.Around.{Around, inside_loop, inside_focus}
use Rattle.vlt_elaboration.specs.Statements.{simple_refused, simple_became}
use Rattle.vlt_elaboration.specs.Switches.{arm_names, switch_refused, arm_case, arm_refused, arm_scope, arm_numbers, case_number, focus_refused, bound_scope}
use Rattle.vlt_elaboration.specs.Blocks.{block_ends, closing, else_closing, ends, stmt_place}
use Rattle.vlt_elaboration.specs.Walk.{late, placed_at, block_made, walk_stmts, walk_stmt, walk_block, walk_else, walk_arms, walk_arm, walk_simple}
use Rattle.vlt_elaboration.specs.Elaboration.{last_return}
use Rattle.vlt_resolve_laws.proofs.Results.{same_ok, then_ok, unless_ok}
use Rattle.cert_rows.specs.Parts.{All}
use Rattle.cert_format.specs.Bodies.{count, count_block, count_list, count_arms}
use Rattle.cert_fit_laws.specs.Limits.{IsLimited}
use Rattle.cert_text_laws.proofs.Simple.{plain_limited}
use Rattle.cert_text_laws.proofs.Totals.{total_stmt, total_block, total_else, total_stmts, total_arms}

-- ---- lists

abbrev count_forms : List Form → ℕ
count_forms [] = 0
count_forms (f ∷ fs) = count f + count_forms fs

placed_count : (at : ℕ) (fs : List Form) → count_list (stmts_made (placed_at at fs)) ≡ count_forms fs
placed_count at [] = refl
placed_count at (f ∷ fs) = ap (λ n. count f + n) (placed_count at fs)

joined_count : (xs ys : List (ℕ × Form)) → count_list (stmts_made (xs ++ ys)) ≡ count_list (stmts_made xs) + count_list (stmts_made ys)
joined_count [] ys = nothing_more (count_list (stmts_made ys))
  where
    nothing_more : (n : ℕ) → n ≡ 0 + n
    nothing_more n = omega arith
joined_count (x ∷ xs) ys = ends_with (count x.1) _ (count_list (stmts_made xs)) (count_list (stmts_made ys)) (joined_count xs ys)
  where
    ends_with : (a b c d : ℕ) → b ≡ c + d → a + b ≡ (a + c) + d
    ends_with a b c d e = omega (arith, e)

-- the forms of a statement, and after them the rest
all_few : (m n at : ℕ) (fs : List Form) (ys : List (ℕ × Form)) → count_forms fs ≤ m → count_list (stmts_made ys) ≤ n → count_list (stmts_made (placed_at at fs ++ ys)) ≤ m + n
all_few m n at fs ys x y = sum _ _ (count_forms fs) (count_list (stmts_made ys)) (joined_count (placed_at at fs) ys) (placed_count at fs) x y
  where
    sum : (a b c d : ℕ) → a ≡ b + d → b ≡ c → c ≤ m → d ≤ n → a ≤ m + n
    sum a b c d e i x y = omega (arith, e, i, x, y)

-- a form alone, with one block or two
one_inside : (a n : ℕ) → a ≤ n → (1 + a) + 0 ≤ suc n
one_inside a n x = omega (arith, x)

two_inside : (a b m n : ℕ) → a ≤ m → b ≤ n → (1 + (a + b)) + 0 ≤ suc (m + n)
two_inside a b m n x y = omega (arith, x, y)

two_parts : (a b m n : ℕ) → a ≤ m → b ≤ n → a + b ≤ m + n
two_parts a b m n x y = omega (arith, x, y)

-- ---- statements without blocks

-- no block may stand where blocks are as deep as they may be
too_deep : nat_lt 64 64 ≡ true → ⊥
too_deep e = cc

one_alone : (f : Form) → IsLimited 64 f → count f ≡ 1
one_alone (core.simple x) is = refl
one_alone (core.call g target keys args) is = refl
one_alone (core.return o) is = refl
one_alone (core.jump c) is = refl
one_alone (core.choose e a b) is = absurd (too_deep is.0)
one_alone (core.loop e b) is = absurd (too_deep is.0)
one_alone (core.switch v arms end) is = absurd (too_deep is.0)
one_alone (core.focus y z b) is = absurd (too_deep is.0)
one_alone (core.scope b) is = absurd (too_deep is.0)

each_alone : (fs : List Form) → All (IsLimited 64) fs → count_forms fs ≡ length fs
each_alone [] are = refl
each_alone (f ∷ fs) are = next (count f) _ _ (one_alone f are.0) (each_alone fs are.1)
  where
    next : (a b c : ℕ) → a ≡ 1 → b ≡ c → a + b ≡ suc c
    next a b c x y = omega (arith, x, y)

module _ (kinds : Kinds) where
  plain_few : (around : Around) (scope : Scope) (x : Stmt) → count_forms (simple_became kinds around scope x).0 ≤ 2
  plain_few around scope x =
      let are = plain_limited 64 kinds around scope x in
      subst (λ n. n ≤ 2) (sym (each_alone (simple_became kinds around scope x).0 are.limited)) are.few

  simple_few : (around : Around) (scope : Scope) (found : Option Refusal) (x : Stmt) (r : List Form × Scope) → walk_simple kinds around scope found x ≡ Ok r → count_forms r.0 ≤ 2
  simple_few around scope found x r e =
      let u = unless_ok (least_from found (simple_refused kinds around scope x)) (Ok (simple_became kinds around scope x)) r e in
      subst (λ z. count_forms z.0 ≤ 2) (same_ok (simple_became kinds around scope x) r u.1) (plain_few around scope x)

  -- ---- statements with blocks

  mutual
    pub stmts_few : (around : Around) (scope : Scope) (ended : Bool) (xs : Stmts) (r : List (ℕ × Form) × Scope)
        → walk_stmts kinds around scope ended xs ≡ Ok r → count_list (stmts_made r.0) ≤ total_stmts xs
    stmts_few around scope ended s.done r e = subst (λ z. count_list (stmts_made z.0) ≤ 0) (same_ok ([], scope) r e) (omega arith)
    stmts_few around scope ended (s.next x xs) r e =
        let a = then_ok (walk_stmt kinds around scope (late ended x) x) _ r e in
        let c = then_ok (walk_stmts kinds around a.first.1 (ends x) xs) _ r a.rest in
        subst (λ z. count_list (stmts_made z.0) ≤ total_stmt x + total_stmts xs) (same_ok (placed_at (stmt_place x) a.first.0 ++ c.first.0, c.first.1) r c.rest)
        (all_few (total_stmt x) (total_stmts xs) (stmt_place x) a.first.0 c.first.0 (stmt_few around scope (late ended x) x a.first a.one) (stmts_few around a.first.1 (ends x) xs c.first c.one))

    stmt_few : (around : Around) (scope : Scope) (found : Option Refusal) (x : Stmt) (r : List Form × Scope)
        → walk_stmt kinds around scope found x ≡ Ok r → count_forms r.0 ≤ total_stmt x
    stmt_few around scope found (s.declare t v y at) r e = simple_few around scope found (s.declare t v y at) r e
    stmt_few around scope found (s.assign v y at) r e = simple_few around scope found (s.assign v y at) r e
    stmt_few around scope found (s.put v i y at) r e = simple_few around scope found (s.put v i y at) r e
    stmt_few around scope found (s.call c at) r e = simple_few around scope found (s.call c at) r e
    stmt_few around scope found (s.print y at) r e = simple_few around scope found (s.print y at) r e
    stmt_few around scope found (s.break at) r e = simple_few around scope found (s.break at) r e
    stmt_few around scope found (s.continue at) r e = simple_few around scope found (s.continue at) r e
    stmt_few around scope found (s.return v at) r e = simple_few around scope found (s.return v at) r e
    stmt_few around scope found (s.release v at) r e = simple_few around scope found (s.release v at) r e
    stmt_few around scope found (s.become v t at) r e = simple_few around scope found (s.become v t at) r e
    stmt_few around scope found (s.swap v i y at) r e = simple_few around scope found (s.swap v i y at) r e
    stmt_few around scope found (s.open_into v ws at) r e = simple_few around scope found (s.open_into v ws at) r e
    stmt_few around scope found (s.block b) r e =
        let u = unless_ok found _ r e in
        let a = then_ok (walk_block kinds around scope b) _ r u.1 in
        subst (λ z. count_forms z.0 ≤ suc (total_block b)) (same_ok (core.scope a.first.0 ∷ [], a.first.1) r a.rest)
        (one_inside (count_block a.first.0) (total_block b) (block_few around scope b a.first a.one))
    stmt_few around scope found (s.choose (s.choice y b other at)) r e =
        let u = unless_ok (least_from found (wanted_refused kinds scope (Some bool) y)) _ r e in
        let a = then_ok (walk_block kinds around scope b) _ r u.1 in
        let c = then_ok (walk_else kinds around a.first.1 (else_closing (closing b) other) other) _ r a.rest in
        subst (λ z. count_forms z.0 ≤ suc (total_block b + total_else other)) (same_ok (core.choose (core_expr kinds scope y) a.first.0 c.first.0 ∷ [], c.first.1) r c.rest)
        (two_inside (count_block a.first.0) (count_block c.first.0) (total_block b) (total_else other)
        (block_few around scope b a.first a.one) (else_few around a.first.1 (else_closing (closing b) other) other c.first c.one))
    stmt_few around scope found (s.loop y b at) r e =
        let u = unless_ok (least_from found (wanted_refused kinds scope (Some bool) y)) _ r e in
        let a = then_ok (walk_block kinds (inside_loop around) scope b) _ r u.1 in
        subst (λ z. count_forms z.0 ≤ suc (total_block b)) (same_ok (core.loop (core_expr kinds scope y) a.first.0 ∷ [], a.first.1) r a.rest)
        (one_inside (count_block a.first.0) (total_block b) (block_few (inside_loop around) scope b a.first a.one))
    stmt_few around scope found (s.switch x arms at) r e =
        let u = unless_ok (least_from found (switch_refused kinds (var_ty scope x.text) x (arm_names arms) at.from)) _ r e in
        let a = then_ok (walk_arms kinds around scope (var_ty scope x.text) arms) _ r u.1 in
        subst (λ z. count_forms z.0 ≤ suc (total_arms arms)) (same_ok (core.switch (var_number scope x) (arms_made a.first.0) (at.to - 1) ∷ [], a.first.1) r a.rest)
        (one_inside (count_arms (arms_made a.first.0)) (total_arms arms) (arms_few around scope (var_ty scope x.text) arms a.first a.one))
    stmt_few around scope found (s.focus y k z (s.braced ss close) at) r e =
        let inside = scope_inside scope in
        let ty = var_ty scope y.text in
        let u = unless_ok (least_from found (focus_refused kinds inside ty y k z)) _ r e in
        let a = then_ok (walk_stmts kinds (inside_focus around) (bound_scope inside ty k z) false ss) _ r u.1 in
        subst (λ z. count_forms z.0 ≤ suc (total_stmts ss)) (same_ok (core.focus (var_number scope y) (length scope.vars) (block_made a.first (close.to - 1)) ∷ [], scope_after scope a.first.1) r a.rest)
        (one_inside (count_list (stmts_made a.first.0)) (total_stmts ss) (stmts_few (inside_focus around) (bound_scope inside ty k z) false ss a.first a.one))

    block_few : (around : Around) (scope : Scope) (b : Block) (r : core.Block × Scope)
        → walk_block kinds around scope b ≡ Ok r → count_block r.0 ≤ total_block b
    block_few around scope (s.braced ss at) r e =
        let a = then_ok (walk_stmts kinds around (scope_inside scope) false ss) _ r e in
        subst (λ z. count_block z.0 ≤ total_stmts ss) (same_ok (block_made a.first (at.to - 1), scope_after scope a.first.1) r a.rest)
        (stmts_few around (scope_inside scope) false ss a.first a.one)

    else_few : (around : Around) (scope : Scope) (end : ℕ) (o : Else) (r : core.Block × Scope)
        → walk_else kinds around scope end o ≡ Ok r → count_block r.0 ≤ total_else o
    else_few around scope end s.nothing r e = subst (λ z. count_block z.0 ≤ 0) (same_ok (core.block core.done [] end, scope) r e) (omega arith)
    else_few around scope end (s.last b) r e = block_few around scope b r e
    else_few around scope end (s.chained (s.choice y b other at)) r e =
        let u = unless_ok (least_from None (wanted_refused kinds scope (Some bool) y)) _ r e in
        let a = then_ok (walk_block kinds around scope b) _ r u.1 in
        let c = then_ok (walk_else kinds around a.first.1 end other) _ r a.rest in
        subst (λ z. count_block z.0 ≤ suc (total_block b + total_else other)) (same_ok (core.block (core.next at.from (core.choose (core_expr kinds scope y) a.first.0 c.first.0) core.done) [] end, c.first.1) r c.rest)
        (two_inside (count_block a.first.0) (count_block c.first.0) (total_block b) (total_else other)
        (block_few around scope b a.first a.one) (else_few around a.first.1 end other c.first c.one))

    arms_few : (around : Around) (scope : Scope) (ty : Option Ty) (arms : Arms) (r : List (ℕ × List ℕ × core.Block) × Scope)
        → walk_arms kinds around scope ty arms ≡ Ok r → count_arms (arms_made r.0) ≤ total_arms arms
    arms_few around scope ty s.no_arms r e = subst (λ z. count_arms (arms_made z.0) ≤ 0) (same_ok ([], scope) r e) (omega arith)
    arms_few around scope ty (s.arm tick vs (s.braced ss close) at rest) r e =
        let c = arm_case kinds ty tick in
        let a = then_ok (walk_arm kinds around scope c tick vs (s.braced ss close)) _ r e in
        let d = then_ok (walk_arms kinds around a.first.1 ty rest) _ r a.rest in
        let u = unless_ok (least_from None (arm_refused kinds (scope_inside scope) c tick vs)) _ a.first a.one in
        let y = then_ok (walk_stmts kinds around (arm_scope (scope_inside scope) c vs) false ss) _ a.first u.1 in
        let q = stmts_few around (arm_scope (scope_inside scope) c vs) false ss y.first y.one in
        let here : count_block a.first.0.2 ≤ total_stmts ss = subst (λ z. count_block z.0.2 ≤ total_stmts ss) (same_ok ((case_number c, arm_numbers (scope_inside scope) c vs, block_made y.first (close.to - 1)), scope_after scope y.first.1) a.first y.rest) q in
        let more = arms_few around a.first.1 ty rest d.first d.one in
        subst (λ z. count_arms (arms_made z.0) ≤ total_stmts ss + total_arms rest) (same_ok (a.first.0 ∷ d.first.0, d.first.1) r d.rest)
        (two_parts (count_block a.first.0.2) (count_arms (arms_made d.first.0)) (total_stmts ss) (total_arms rest) here more)

-- ---- a whole body, with the last statement that one that doesn't end has

last_few : (b : Block) → count_list (stmts_made (last_return b)) ≤ 1
last_few b = by (block_ends b)
  where
    end : List (ℕ × Form)
    end = (closing b, core.return None) ∷ []

    by : (t : Bool) → count_list (stmts_made (if t then [] else end)) ≤ 1
    by true = omega arith
    by false = omega arith

pub body_few : (ss : Stmts) (b : Block) (ys : List (ℕ × Form)) (most : ℕ) → count_list (stmts_made ys) ≤ total_stmts ss → total_stmts ss ≤ most → count_list (stmts_made (ys ++ last_return b)) ≤ suc most
body_few ss b ys most x y = sum _ (count_list (stmts_made ys)) (count_list (stmts_made (last_return b))) (total_stmts ss) (joined_count ys (last_return b)) x y (last_few b)
  where
    sum : (a c d t : ℕ) → a ≡ c + d → c ≤ t → t ≤ most → d ≤ 1 → a ≤ suc most
    sum a c d t e x y z = omega (arith, e, x, y, z)
