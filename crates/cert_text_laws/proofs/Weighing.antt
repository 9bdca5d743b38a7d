-- What statements become weighs no more than three for each token that spells them.
use Rattle.std.proofs.Common.{◌≡◌, ℕ, suc, ◌+◌, ◌*◌, ◌≤◌, ◌-◌, Bool, true, false, if◌then◌else◌, List, [], ◌∷◌, ◌++◌, length, Option, Some, None, Ok, refl, ap, subst, arith}
use Rattle.vlt_syntax.specs.Tokens.{Token}
use Rattle.vlt_syntax.specs.Tree as s
use Rattle.vlt_syntax.specs.Tree.{Stmt, Block, Else, Stmts, Arms}
use Rattle.vlt_syntax.specs.Spelling.{stmt_then, block_then, if_then, else_then, stmts_then, arms_then}
use Rattle.vlt_core.specs.Core as core
use Rattle.vlt_core.specs.Core.{Ty, bool, Form}
use Rattle.vlt_core.specs.View.{stmts_made, arms_made}
use Rattle.vlt_kinds_types.specs.declared.names.found.Refusal.{Refusal}
use Rattle.vlt_kinds_types.specs.Names.Refusals.{least_from}
use Rattle.vlt_kinds_types.specs.Kinds.{Kinds}
use Rattle.vlt_resolve_exprs.specs.Scopes.{Scope, var_ty, scope_inside, scope_after}
use Rattle.vlt_resolve_exprs.specs.Exprs.{wanted_refused, core_expr, var_number}
use Rattle.vlt_resolve_calls.specs.Builds.{Case}
use Rattle.vlt_elaboration.specs.Around.{Around, inside_loop, inside_focus}
use Rattle.vlt_elaboration.specs.Statements.{simple_refused, simple_became}
use Rattle.vlt_elaboration.specs.Switches.{arm_names, switch_refused, arm_case, arm_refused, arm_scope, arm_numbers, case_number, focus_refused, bound_scope}
use Rattle.vlt_elaboration.specs.Blocks.{block_ends, closing, else_closing, ends, stmt_place}
use Rattle.vlt_elaboration.specs.Walk.{late, placed_at, block_made, walk_stmts, walk_stmt, walk_block, walk_else, walk_arms, walk_arm, walk_simple}
use Rattle.vlt_elaboration.specs.Elaboration.{last_return}
use Rattle.vlt_resolve_laws.proofs.Results.{same_ok, then_ok, unless_ok}
use Rattle.cert_text_laws.specs.Weights.{weight, weight_block, weight_list, weight_arms}
use Rattle.cert_text_laws.proofs.Loads.{Fits, less, closed, expr_fits, names_enclosed, several_few}
use Rattle.cert_text_laws.proofs.Light.{Bounds, weigh, plain_light}

-- ---- lists

placed_weight : (at : ℕ) (fs : List Form) → weight_list (stmts_made (placed_at at fs)) ≡ weigh fs
placed_weight at [] = refl
placed_weight at (f ∷ fs) = ap (λ n. weight f + n) (placed_weight at fs)

joined_weight : (xs ys : List (ℕ × Form)) → weight_list (stmts_made (xs ++ ys)) ≡ weight_list (stmts_made xs) + weight_list (stmts_made ys)
joined_weight [] ys = nothing_more (weight_list (stmts_made ys))
  where
    nothing_more : (n : ℕ) → n ≡ 0 + n
    nothing_more n = omega arith
joined_weight (x ∷ xs) ys = ends_with (weight x.1) _ (weight_list (stmts_made xs)) (weight_list (stmts_made ys)) (joined_weight xs ys)
  where
    ends_with : (a b c d : ℕ) → b ≡ c + d → a + b ≡ (a + c) + d
    ends_with a b c d e = omega (arith, e)

-- ---- parts together

none : (a : ℕ) → Bounds 0 a a
none a = record { enough = omega arith }

longer : {n a b : ℕ} → Bounds n a b → Bounds n a (suc b)
longer x = let h = x.enough in record { enough = omega (arith, h) }

fewer : {n a b : ℕ} → Bounds (suc n) a b → Bounds n a b
fewer x = let h = x.enough in record { enough = omega (arith, h) }

-- a brace on both sides
braces : {n a b : ℕ} → Bounds n (suc a) b → Bounds (suc n) a (suc b)
braces x = let h = x.enough in record { enough = omega (arith, h) }

-- a form alone
alone : {n a b : ℕ} → Bounds (suc n) a b → Bounds ((1 + n) + 0) a b
alone x = let h = x.enough in record { enough = omega (arith, h) }

two_parts : (w m n : ℕ) {a b c : ℕ} → w ≡ m + n → Bounds m b c → Bounds n a b → Bounds w a c
two_parts w m n e x y = let h = x.enough in let k = y.enough in record { enough = omega (arith, e, h, k) }

-- a condition, and a block or two after it
looped : {r n a b c : ℕ} → Fits r b c → Bounds (suc n) a b → Bounds ((1 + (r + n)) + 0) a c
looped x y = let h = x.enough in let k = y.enough in record { enough = omega (arith, h, k) }

chosen : {r m n a b c d : ℕ} → Fits r c d → Bounds (suc m) b c → Bounds n a b → Bounds ((1 + (r + (m + n))) + 0) a d
chosen x y z = let h = x.enough in let k = y.enough in let l = z.enough in record { enough = omega (arith, h, k, l) }

-- an arm: its variables, a colon, its block and those after it
with_arm : {v m n a b c d : ℕ} → Fits v (suc c) d → Bounds (suc m) b c → Bounds n a b → Bounds (1 + (v + (m + n))) a d
with_arm x y z = let h = x.enough in let k = y.enough in let l = z.enough in record { enough = omega (arith, h, k, l) }

-- the forms of a statement, and those of the others after it
all_light : (at : ℕ) (fs : List Form) (ys : List (ℕ × Form)) {a b c : ℕ} → Bounds (weigh fs) b c → Bounds (weight_list (stmts_made ys)) a b
    → Bounds (weight_list (stmts_made (placed_at at fs ++ ys))) a c
all_light at fs ys x y = two_parts _ (weigh fs) (weight_list (stmts_made ys)) (sum _ _ (weigh fs) _ (joined_weight (placed_at at fs) ys) (placed_weight at fs)) x y
  where
    sum : (a b c d : ℕ) → a ≡ b + d → b ≡ c → a ≡ c + d
    sum a b c d e i = omega (arith, e, i)

module _ (kinds : Kinds) where
  simple_light : (around : Around) (scope : Scope) (found : Option Refusal) (x : Stmt) (r : List Form × Scope) → walk_simple kinds around scope found x ≡ Ok r
      → (rest : List Token) → Bounds (weigh r.0) (length rest) (length (stmt_then x rest))
  simple_light around scope found x r e rest =
      let u = unless_ok (least_from found (simple_refused kinds around scope x)) (Ok (simple_became kinds around scope x)) r e in
      subst (λ z. Bounds (weigh z.0) (length rest) (length (stmt_then x rest))) (same_ok (simple_became kinds around scope x) r u.1) (plain_light kinds around scope x rest)

  arm_few : (scope : Scope) (c : Option Case) (vs : List s.Name) → length (arm_numbers scope c vs) ≤ length vs
  unfolding arm_numbers
  arm_few scope None vs = least (length vs)
    where
      least : (n : ℕ) → 0 ≤ n
      least n = omega arith
  arm_few scope (Some c) vs = several_few scope vs c.payload

  -- ---- statements with blocks

  mutual
    pub stmts_light : (around : Around) (scope : Scope) (ended : Bool) (xs : Stmts) (r : List (ℕ × Form) × Scope)
        → walk_stmts kinds around scope ended xs ≡ Ok r → (rest : List Token) → Bounds (weight_list (stmts_made r.0)) (length rest) (length (stmts_then xs rest))
    stmts_light around scope ended s.done r e rest = subst (λ z. Bounds (weight_list (stmts_made z.0)) (length rest) (length rest)) (same_ok ([], scope) r e) (none _)
    stmts_light around scope ended (s.next x xs) r e rest =
        let a = then_ok (walk_stmt kinds around scope (late ended x) x) _ r e in
        let c = then_ok (walk_stmts kinds around a.first.1 (ends x) xs) _ r a.rest in
        subst (λ z. Bounds (weight_list (stmts_made z.0)) (length rest) (length (stmts_then (s.next x xs) rest))) (same_ok (placed_at (stmt_place x) a.first.0 ++ c.first.0, c.first.1) r c.rest)
        (all_light (stmt_place x) a.first.0 c.first.0 (stmt_light around scope (late ended x) x a.first a.one _) (stmts_light around a.first.1 (ends x) xs c.first c.one rest))

    stmt_light : (around : Around) (scope : Scope) (found : Option Refusal) (x : Stmt) (r : List Form × Scope)
        → walk_stmt kinds around scope found x ≡ Ok r → (rest : List Token) → Bounds (weigh r.0) (length rest) (length (stmt_then x rest))
    stmt_light around scope found (s.declare t v y at) r e rest = simple_light around scope found (s.declare t v y at) r e rest
    stmt_light around scope found (s.assign v y at) r e rest = simple_light around scope found (s.assign v y at) r e rest
    stmt_light around scope found (s.put v i y at) r e rest = simple_light around scope found (s.put v i y at) r e rest
    stmt_light around scope found (s.call c at) r e rest = simple_light around scope found (s.call c at) r e rest
    stmt_light around scope found (s.print y at) r e rest = simple_light around scope found (s.print y at) r e rest
    stmt_light around scope found (s.break at) r e rest = simple_light around scope found (s.break at) r e rest
    stmt_light around scope found (s.continue at) r e rest = simple_light around scope found (s.continue at) r e rest
    stmt_light around scope found (s.return v at) r e rest = simple_light around scope found (s.return v at) r e rest
    stmt_light around scope found (s.release v at) r e rest = simple_light around scope found (s.release v at) r e rest
    stmt_light around scope found (s.become v t at) r e rest = simple_light around scope found (s.become v t at) r e rest
    stmt_light around scope found (s.swap v i y at) r e rest = simple_light around scope found (s.swap v i y at) r e rest
    stmt_light around scope found (s.open_into v ws at) r e rest = simple_light around scope found (s.open_into v ws at) r e rest
    stmt_light around scope found (s.block b) r e rest =
        let u = unless_ok found _ r e in
        let a = then_ok (walk_block kinds around scope b) _ r u.1 in
        subst (λ z. Bounds (weigh z.0) (length rest) (length (block_then b rest))) (same_ok (core.scope a.first.0 ∷ [], a.first.1) r a.rest)
        (alone (block_light around scope b a.first a.one rest))
    stmt_light around scope found (s.choose (s.choice y b other at)) r e rest =
        let u = unless_ok (least_from found (wanted_refused kinds scope (Some bool) y)) _ r e in
        let a = then_ok (walk_block kinds around scope b) _ r u.1 in
        let c = then_ok (walk_else kinds around a.first.1 (else_closing (closing b) other) other) _ r a.rest in
        subst (λ z. Bounds (weigh z.0) (length rest) (length (if_then (s.choice y b other at) rest))) (same_ok (core.choose (core_expr kinds scope y) a.first.0 c.first.0 ∷ [], c.first.1) r c.rest)
        (longer (longer (chosen (closed (expr_fits kinds scope y _)) (block_light around scope b a.first a.one _) (else_light around a.first.1 (else_closing (closing b) other) other c.first c.one rest))))
    stmt_light around scope found (s.loop y b at) r e rest =
        let u = unless_ok (least_from found (wanted_refused kinds scope (Some bool) y)) _ r e in
        let a = then_ok (walk_block kinds (inside_loop around) scope b) _ r u.1 in
        subst (λ z. Bounds (weigh z.0) (length rest) (length (stmt_then (s.loop y b at) rest))) (same_ok (core.loop (core_expr kinds scope y) a.first.0 ∷ [], a.first.1) r a.rest)
        (longer (longer (looped (closed (expr_fits kinds scope y _)) (block_light (inside_loop around) scope b a.first a.one rest))))
    stmt_light around scope found (s.switch x arms at) r e rest =
        let u = unless_ok (least_from found (switch_refused kinds (var_ty scope x.text) x (arm_names arms) at.from)) _ r e in
        let a = then_ok (walk_arms kinds around scope (var_ty scope x.text) arms) _ r u.1 in
        subst (λ z. Bounds (weigh z.0) (length rest) (length (stmt_then (s.switch x arms at) rest))) (same_ok (core.switch (var_number scope x) (arms_made a.first.0) (at.to - 1) ∷ [], a.first.1) r a.rest)
        (alone (longer (longer (longer (longer (braces (arms_light around scope (var_ty scope x.text) arms a.first a.one _)))))))
    stmt_light around scope found (s.focus y k z (s.braced ss close) at) r e rest =
        let inside = scope_inside scope in
        let ty = var_ty scope y.text in
        let u = unless_ok (least_from found (focus_refused kinds inside ty y k z)) _ r e in
        let a = then_ok (walk_stmts kinds (inside_focus around) (bound_scope inside ty k z) false ss) _ r u.1 in
        subst (λ w. Bounds (weigh w.0) (length rest) (length (stmt_then (s.focus y k z (s.braced ss close) at) rest))) (same_ok (core.focus (var_number scope y) (length scope.vars) (block_made a.first (close.to - 1)) ∷ [], scope_after scope a.first.1) r a.rest)
        (alone (longer (longer (longer (longer (longer (longer (longer (longer (braces (stmts_light (inside_focus around) (bound_scope inside ty k z) false ss a.first a.one _)))))))))))

    block_light : (around : Around) (scope : Scope) (b : Block) (r : core.Block × Scope)
        → walk_block kinds around scope b ≡ Ok r → (rest : List Token) → Bounds (suc (weight_block r.0)) (length rest) (length (block_then b rest))
    block_light around scope (s.braced ss at) r e rest =
        let a = then_ok (walk_stmts kinds around (scope_inside scope) false ss) _ r e in
        subst (λ z. Bounds (suc (weight_block z.0)) (length rest) (length (block_then (s.braced ss at) rest))) (same_ok (block_made a.first (at.to - 1), scope_after scope a.first.1) r a.rest)
        (braces (stmts_light around (scope_inside scope) false ss a.first a.one _))

    else_light : (around : Around) (scope : Scope) (end : ℕ) (o : Else) (r : core.Block × Scope)
        → walk_else kinds around scope end o ≡ Ok r → (rest : List Token) → Bounds (weight_block r.0) (length rest) (length (else_then o rest))
    else_light around scope end s.nothing r e rest = subst (λ z. Bounds (weight_block z.0) (length rest) (length rest)) (same_ok (core.block core.done [] end, scope) r e) (none _)
    else_light around scope end (s.last b) r e rest = longer (fewer (block_light around scope b r e rest))
    else_light around scope end (s.chained (s.choice y b other at)) r e rest =
        let u = unless_ok (least_from None (wanted_refused kinds scope (Some bool) y)) _ r e in
        let a = then_ok (walk_block kinds around scope b) _ r u.1 in
        let c = then_ok (walk_else kinds around a.first.1 end other) _ r a.rest in
        subst (λ z. Bounds (weight_block z.0) (length rest) (length (else_then (s.chained (s.choice y b other at)) rest))) (same_ok (core.block (core.next at.from (core.choose (core_expr kinds scope y) a.first.0 c.first.0) core.done) [] end, c.first.1) r c.rest)
        (longer (longer (longer (chosen (closed (expr_fits kinds scope y _)) (block_light around scope b a.first a.one _) (else_light around a.first.1 end other c.first c.one rest)))))

    arms_light : (around : Around) (scope : Scope) (ty : Option Ty) (arms : Arms) (r : List (ℕ × List ℕ × core.Block) × Scope)
        → walk_arms kinds around scope ty arms ≡ Ok r → (rest : List Token) → Bounds (weight_arms (arms_made r.0)) (length rest) (length (arms_then arms rest))
    arms_light around scope ty s.no_arms r e rest = subst (λ z. Bounds (weight_arms (arms_made z.0)) (length rest) (length rest)) (same_ok ([], scope) r e) (none _)
    arms_light around scope ty (s.arm tick vs (s.braced ss close) at others) r e rest =
        let c = arm_case kinds ty tick in
        let a = then_ok (walk_arm kinds around scope c tick vs (s.braced ss close)) _ r e in
        let d = then_ok (walk_arms kinds around a.first.1 ty others) _ r a.rest in
        let u = unless_ok (least_from None (arm_refused kinds (scope_inside scope) c tick vs)) _ a.first a.one in
        let y = then_ok (walk_stmts kinds around (arm_scope (scope_inside scope) c vs) false ss) _ a.first u.1 in
        let more = arms_light around a.first.1 ty others d.first d.one rest in
        let one_arm = subst (λ z. Bounds (weight_arms (arms_made (z.0 ∷ d.first.0))) (length rest) (length (arms_then (s.arm tick vs (s.braced ss close) at others) rest)))
        (same_ok ((case_number c, arm_numbers (scope_inside scope) c vs, block_made y.first (close.to - 1)), scope_after scope y.first.1) a.first y.rest)
        (longer (longer (with_arm (less (names_enclosed _ _ vs _) (arm_few (scope_inside scope) c vs)) (braces (stmts_light around (arm_scope (scope_inside scope) c vs) false ss y.first y.one _)) more))) in
        subst (λ z. Bounds (weight_arms (arms_made z.0)) (length rest) (length (arms_then (s.arm tick vs (s.braced ss close) at others) rest))) (same_ok (a.first.0 ∷ d.first.0, d.first.1) r d.rest) one_arm

-- ---- a whole body, with the last statement that one that doesn't end has

last_light : (b : Block) → weight_list (stmts_made (last_return b)) ≤ 1
last_light b = by (block_ends b)
  where
    end : List (ℕ × Form)
    end = (closing b, core.return None) ∷ []

    by : (t : Bool) → weight_list (stmts_made (if t then [] else end)) ≤ 1
    by true = omega arith
    by false = omega arith

pub body_light : (ss : Stmts) (b : Block) (ys : List (ℕ × Form)) (most : ℕ) {a c : ℕ} → Bounds (weight_list (stmts_made ys)) a c → c ≤ most → weight_list (stmts_made (ys ++ last_return b)) ≤ suc (3 * most)
body_light ss b ys most {a} {c} x y = sum _ (weight_list (stmts_made ys)) (weight_list (stmts_made (last_return b))) a c (joined_weight ys (last_return b)) x.enough y (last_light b)
  where
    sum : (n m d a c : ℕ) → n ≡ m + d → m + 3 * a ≤ 3 * c → c ≤ most → d ≤ 1 → n ≤ suc (3 * most)
    sum n m d a c e x y z = omega (arith, e, x, y, z)
