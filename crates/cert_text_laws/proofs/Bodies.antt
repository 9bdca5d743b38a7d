-- The statements of a body keep the limits: blocks of the core nest as those of the tree do, and a list has at most twice as many
-- statements as the list of the tree.
use Rattle.std.proofs.Common.{◌≡◌, ℕ, suc, ◌+◌, ◌*◌, ◌≤◌, ◌-◌, nat_lt, Bool, true, false, if◌then◌else◌, List, [], ◌∷◌, ◌++◌, length, Option, Some, None, Ok, refl, sym, ap, subst, arith}
use Rattle.std.proofs.lemmas.Bool.{lt-ltb}
use Rattle.std.proofs.lemmas.List.{length-map, length-append}
use Rattle.vlt_syntax.specs.Tree as s
use Rattle.vlt_syntax.specs.Tree.{Stmt, Block, Else, Stmts, Arms}
use Rattle.vlt_syntax.specs.Grammar.{language, IsStmt, IsBlock, IsElse, AreStmts, IsSomeArm, AreArms}
use Rattle.vlt_core.specs.Core as core
use Rattle.vlt_core.specs.Core.{Ty, bool, Form}
use Rattle.vlt_core.specs.View.{stmts_made, arms_made}
use Rattle.vlt_kinds_types.specs.declared.names.found.Refusal.{Refusal}
use Rattle.vlt_kinds_types.specs.Names.Refusals.{least_from}
use Rattle.vlt_kinds_types.specs.Kinds.{Kinds}
use Rattle.vlt_resolve_exprs.specs.Scopes.{Scope, var_ty, scope_inside, scope_after}
use Rattle.vlt_resolve_exprs.specs.Exprs.{wanted_refused, core_expr, var_number}
use Rattle.vlt_elaboration.specs.Around.{Around, inside_loop, inside_focus}
use Rattle.vlt_elaboration.specs.Statements.{simple_refused, simple_became}
use Rattle.vlt_elaboration.specs.Switches.{arm_names, switch_refused, arm_case, arm_refused, arm_scope, arm_numbers, case_number, focus_refused, bound_scope}
use Rattle.vlt_elaboration.specs.Blocks.{block_ends, closing, else_closing, ends, stmt_place}
use Rattle.vlt_elaboration.specs.Walk.{late, placed_at, block_made, walk_stmts, walk_stmt, walk_block, walk_else, walk_arms, walk_arm, walk_simple}
use Rattle.vlt_elaboration.specs.Elaboration.{last_return}
use Rattle.vlt_resolve_laws.proofs.Results.{same_ok, then_ok, unless_ok}
use Rattle.cert_fit_laws.specs.Limits.{most_statements, IsLimited, IsLimitedBlock, AreLimited, AreLimitedArms}
use Rattle.cert_rows.specs.Parts.{All}
use Rattle.cert_format.specs.Bodies.{length_of}
use Rattle.cert_text_laws.proofs.Few.{count_of, StmtIsFew, BlockIsFew, ElseIsFew, StmtsAreFew, ArmsAreFew}
use Rattle.cert_text_laws.proofs.Simple.{AreForms, one_form, plain_limited}

-- ---- lists

-- so many tokens a text has at most
abbrev pub most : ℕ
most = 262144

pub length_made : (xs : List (ℕ × Form)) → length_of (stmts_made xs) ≡ length xs
length_made [] = refl
length_made (x ∷ xs) = ap suc (length_made xs)

placed_limited : (deep at : ℕ) (fs : List Form) → All (IsLimited deep) fs → AreLimited deep (stmts_made (placed_at at fs))
placed_limited deep at [] e = tt
placed_limited deep at (f ∷ fs) e = (e.0, placed_limited deep at fs e.1)

pub joined_limited : (deep : ℕ) (xs ys : List (ℕ × Form)) → AreLimited deep (stmts_made xs) → AreLimited deep (stmts_made ys) → AreLimited deep (stmts_made (xs ++ ys))
joined_limited deep [] ys x y = y
joined_limited deep (z ∷ xs) ys x y = (x.0, joined_limited deep xs ys x.1 y)

-- the statements that a list of so many became
pub record AreStatements (deep count : ℕ) (ys : List (ℕ × Form)) : Type 0 where
  pub limited : AreLimited deep (stmts_made ys)
  pub few : length ys ≤ 2 * count

no_more : (deep : ℕ) → AreStatements deep 0 []
no_more deep = record { limited = tt; few = omega arith }

joined : (deep n at : ℕ) (fs : List Form) (ys : List (ℕ × Form)) → AreForms deep fs → AreStatements deep n ys → AreStatements deep (suc n) (placed_at at fs ++ ys)
joined deep n at fs ys x y = record {
  limited = joined_limited deep (placed_at at fs) ys (placed_limited deep at fs x.limited) y.limited;
  few = sum (length (placed_at at fs ++ ys)) (length (placed_at at fs)) (length fs) (length ys) (length-append (placed_at at fs) ys) (length-map fs (λ (f : Form). (at, f))) x.few y.few;
}
  where
    sum : (a b c d : ℕ) → a ≡ b + d → b ≡ c → c ≤ 2 → d ≤ 2 * n → a ≤ 2 * suc n
    sum a b c d x y z w = omega (arith, x, y, z, w)

few_made : (n : ℕ) (ys : List (ℕ × Form)) → n ≤ most → length ys ≤ 2 * n → length_of (stmts_made ys) ≤ most_statements
few_made n ys few x = subst (λ m. m ≤ most_statements) (sym (length_made ys)) (wide (length ys) few x)
  where
    wide : (a : ℕ) → n ≤ 262144 → a ≤ 2 * n → a ≤ 4294967295
    wide a few x = omega (arith, few, x)

-- ---- depth: of blocks there are so many around, and there is room for so many more

abbrev pub Fills : (deep room : ℕ) → Type 0
Fills deep room = deep + room ≡ 64

allowed : (deep room : ℕ) → Fills deep room → 1 ≤ room → nat_lt deep 64 ≡ true
allowed deep room fills some = lt-ltb deep 64 (omega arith)

deeper : (deep room : ℕ) → Fills deep room → 1 ≤ room → Fills (suc deep) (room - 1)
deeper deep room fills some = omega arith

block_room : (room : ℕ) (b : Block) → IsBlock language room b → 1 ≤ room
block_room room (s.braced ss at) is = is.0

arms_room : (room : ℕ) (arms : Arms) → IsSomeArm arms → AreArms language room arms → 1 ≤ room
arms_room room s.no_arms some are = absurd some
arms_room room (s.arm c vs b at more) some are = block_room room b are.0

-- ---- statements with blocks

module _ (kinds : Kinds) where
  simple_limited : (around : Around) (scope : Scope) (deep : ℕ) (found : Option Refusal) (x : Stmt) (r : List Form × Scope) → walk_simple kinds around scope found x ≡ Ok r → AreForms deep r.0
  simple_limited around scope deep found x r e =
      let u = unless_ok (least_from found (simple_refused kinds around scope x)) (Ok (simple_became kinds around scope x)) r e in
      subst (λ z. AreForms deep z.0) (same_ok (simple_became kinds around scope x) r u.1) (plain_limited deep kinds around scope x)

  mutual
    pub stmts_limited : (around : Around) (scope : Scope) (deep room : ℕ) (ended : Bool) (xs : Stmts) (r : List (ℕ × Form) × Scope) → Fills deep room → AreStmts language room xs → StmtsAreFew most xs
        → walk_stmts kinds around scope ended xs ≡ Ok r → AreStatements deep (count_of xs) r.0
    stmts_limited around scope deep room ended s.done r n g w e = subst (λ z. AreStatements deep 0 z.0) (same_ok ([], scope) r e) (no_more deep)
    stmts_limited around scope deep room ended (s.next x xs) r n g w e =
        let a = then_ok (walk_stmt kinds around scope (late ended x) x) _ r e in
        let c = then_ok (walk_stmts kinds around a.first.1 (ends x) xs) _ r a.rest in
        subst (λ z. AreStatements deep (suc (count_of xs)) z.0) (same_ok (placed_at (stmt_place x) a.first.0 ++ c.first.0, c.first.1) r c.rest)
        (joined deep (count_of xs) (stmt_place x) a.first.0 c.first.0 (stmt_limited around scope deep room (late ended x) x a.first n g.0 w.0 a.one)
        (stmts_limited around a.first.1 deep room (ends x) xs c.first n g.1 w.1 c.one))

    stmt_limited : (around : Around) (scope : Scope) (deep room : ℕ) (found : Option Refusal) (x : Stmt) (r : List Form × Scope) → Fills deep room → IsStmt language room x → StmtIsFew most x
        → walk_stmt kinds around scope found x ≡ Ok r → AreForms deep r.0
    stmt_limited around scope deep room found (s.declare t v y at) r n g w e = simple_limited around scope deep found (s.declare t v y at) r e
    stmt_limited around scope deep room found (s.assign v y at) r n g w e = simple_limited around scope deep found (s.assign v y at) r e
    stmt_limited around scope deep room found (s.put v i y at) r n g w e = simple_limited around scope deep found (s.put v i y at) r e
    stmt_limited around scope deep room found (s.call c at) r n g w e = simple_limited around scope deep found (s.call c at) r e
    stmt_limited around scope deep room found (s.print y at) r n g w e = simple_limited around scope deep found (s.print y at) r e
    stmt_limited around scope deep room found (s.break at) r n g w e = simple_limited around scope deep found (s.break at) r e
    stmt_limited around scope deep room found (s.continue at) r n g w e = simple_limited around scope deep found (s.continue at) r e
    stmt_limited around scope deep room found (s.return v at) r n g w e = simple_limited around scope deep found (s.return v at) r e
    stmt_limited around scope deep room found (s.release v at) r n g w e = simple_limited around scope deep found (s.release v at) r e
    stmt_limited around scope deep room found (s.become v t at) r n g w e = simple_limited around scope deep found (s.become v t at) r e
    stmt_limited around scope deep room found (s.swap v i y at) r n g w e = simple_limited around scope deep found (s.swap v i y at) r e
    stmt_limited around scope deep room found (s.open_into v ws at) r n g w e = simple_limited around scope deep found (s.open_into v ws at) r e
    stmt_limited around scope deep room found (s.block b) r n g w e =
        let u = unless_ok found _ r e in
        let a = then_ok (walk_block kinds around scope b) _ r u.1 in
        subst (λ z. AreForms deep z.0) (same_ok (core.scope a.first.0 ∷ [], a.first.1) r a.rest)
        (one_form deep (core.scope a.first.0) (allowed deep room n (block_room room b g), block_limited around scope deep room b a.first n g w a.one))
    stmt_limited around scope deep room found (s.choose (s.choice y b other at)) r n g w e =
        let u = unless_ok (least_from found (wanted_refused kinds scope (Some bool) y)) _ r e in
        let a = then_ok (walk_block kinds around scope b) _ r u.1 in
        let c = then_ok (walk_else kinds around a.first.1 (else_closing (closing b) other) other) _ r a.rest in
        subst (λ z. AreForms deep z.0) (same_ok (core.choose (core_expr kinds scope y) a.first.0 c.first.0 ∷ [], c.first.1) r c.rest)
        (one_form deep (core.choose (core_expr kinds scope y) a.first.0 c.first.0) (
          allowed deep room n (block_room room b g.1),
          block_limited around scope deep room b a.first n g.1 w.0 a.one,
          else_limited around a.first.1 deep room (else_closing (closing b) other) other c.first n g.2 w.1 c.one,
        ))
    stmt_limited around scope deep room found (s.loop y b at) r n g w e =
        let u = unless_ok (least_from found (wanted_refused kinds scope (Some bool) y)) _ r e in
        let a = then_ok (walk_block kinds (inside_loop around) scope b) _ r u.1 in
        subst (λ z. AreForms deep z.0) (same_ok (core.loop (core_expr kinds scope y) a.first.0 ∷ [], a.first.1) r a.rest)
        (one_form deep (core.loop (core_expr kinds scope y) a.first.0) (allowed deep room n (block_room room b g.1), block_limited (inside_loop around) scope deep room b a.first n g.1 w a.one))
    stmt_limited around scope deep room found (s.switch x arms at) r n g w e =
        let u = unless_ok (least_from found (switch_refused kinds (var_ty scope x.text) x (arm_names arms) at.from)) _ r e in
        let a = then_ok (walk_arms kinds around scope (var_ty scope x.text) arms) _ r u.1 in
        subst (λ z. AreForms deep z.0) (same_ok (core.switch (var_number scope x) (arms_made a.first.0) (at.to - 1) ∷ [], a.first.1) r a.rest)
        (one_form deep (core.switch (var_number scope x) (arms_made a.first.0) (at.to - 1))
        (allowed deep room n (arms_room room arms g.0 g.1), arms_limited around scope deep room (var_ty scope x.text) arms a.first n g.1 w a.one))
    stmt_limited around scope deep room found (s.focus y k z (s.braced ss close) at) r n g w e =
        let inside = scope_inside scope in
        let ty = var_ty scope y.text in
        let u = unless_ok (least_from found (focus_refused kinds inside ty y k z)) _ r e in
        let a = then_ok (walk_stmts kinds (inside_focus around) (bound_scope inside ty k z) false ss) _ r u.1 in
        let q = stmts_limited (inside_focus around) (bound_scope inside ty k z) (suc deep) (room - 1) false ss a.first (deeper deep room n g.0) g.1 w.1 a.one in
        subst (λ z. AreForms deep z.0) (same_ok (core.focus (var_number scope y) (length scope.vars) (block_made a.first (close.to - 1)) ∷ [], scope_after scope a.first.1) r a.rest)
        (one_form deep (core.focus (var_number scope y) (length scope.vars) (block_made a.first (close.to - 1))) (allowed deep room n g.0, (few_made (count_of ss) a.first.0 w.0 q.few, q.limited)))

    block_limited : (around : Around) (scope : Scope) (deep room : ℕ) (b : Block) (r : core.Block × Scope) → Fills deep room → IsBlock language room b → BlockIsFew most b
        → walk_block kinds around scope b ≡ Ok r → IsLimitedBlock (suc deep) r.0
    block_limited around scope deep room (s.braced ss at) r n g w e =
        let a = then_ok (walk_stmts kinds around (scope_inside scope) false ss) _ r e in
        let q = stmts_limited around (scope_inside scope) (suc deep) (room - 1) false ss a.first (deeper deep room n g.0) g.1 w.1 a.one in
        subst (λ z. IsLimitedBlock (suc deep) z.0) (same_ok (block_made a.first (at.to - 1), scope_after scope a.first.1) r a.rest)
        (few_made (count_of ss) a.first.0 w.0 q.few, q.limited)

    else_limited : (around : Around) (scope : Scope) (deep room end : ℕ) (o : Else) (r : core.Block × Scope) → Fills deep room → IsElse language room o → ElseIsFew most o
        → walk_else kinds around scope end o ≡ Ok r → IsLimitedBlock (suc deep) r.0
    else_limited around scope deep room end s.nothing r n g w e = subst (λ z. IsLimitedBlock (suc deep) z.0) (same_ok (core.block core.done [] end, scope) r e) (none, tt)
      where
        none : 0 ≤ 4294967295
        none = omega arith
    else_limited around scope deep room end (s.last b) r n g w e = block_limited around scope deep room b r n g w e
    else_limited around scope deep room end (s.chained (s.choice y b other at)) r n g w e =
        let u = unless_ok (least_from None (wanted_refused kinds scope (Some bool) y)) _ r e in
        let a = then_ok (walk_block kinds around scope b) _ r u.1 in
        let c = then_ok (walk_else kinds around a.first.1 end other) _ r a.rest in
        let m = deeper deep room n g.0 in
        subst (λ z. IsLimitedBlock (suc deep) z.0) (same_ok (core.block (core.next at.from (core.choose (core_expr kinds scope y) a.first.0 c.first.0) core.done) [] end, c.first.1) r c.rest) (
          one,
          (
            (
              allowed (suc deep) (room - 1) m (block_room (room - 1) b g.1.1),
              block_limited around scope (suc deep) (room - 1) b a.first m g.1.1 w.0 a.one,
              else_limited around a.first.1 (suc deep) (room - 1) end other c.first m g.1.2 w.1 c.one,
            ),
            tt,
          ),
        )
      where
        one : suc 0 ≤ 4294967295
        one = omega arith

    arms_limited : (around : Around) (scope : Scope) (deep room : ℕ) (ty : Option Ty) (arms : Arms) (r : List (ℕ × List ℕ × core.Block) × Scope) → Fills deep room → AreArms language room arms → ArmsAreFew most arms
        → walk_arms kinds around scope ty arms ≡ Ok r → AreLimitedArms (suc deep) (arms_made r.0)
    arms_limited around scope deep room ty s.no_arms r n g w e = subst (λ z. AreLimitedArms (suc deep) (arms_made z.0)) (same_ok ([], scope) r e) tt
    arms_limited around scope deep room ty (s.arm tick vs (s.braced ss close) at rest) r n g w e =
        let c = arm_case kinds ty tick in
        let a = then_ok (walk_arm kinds around scope c tick vs (s.braced ss close)) _ r e in
        let d = then_ok (walk_arms kinds around a.first.1 ty rest) _ r a.rest in
        let u = unless_ok (least_from None (arm_refused kinds (scope_inside scope) c tick vs)) _ a.first a.one in
        let y = then_ok (walk_stmts kinds around (arm_scope (scope_inside scope) c vs) false ss) _ a.first u.1 in
        let q = stmts_limited around (arm_scope (scope_inside scope) c vs) (suc deep) (room - 1) false ss y.first (deeper deep room n g.0.0) g.0.1 w.0.1 y.one in
        let here : IsLimitedBlock (suc deep) a.first.0.2 = subst (λ z. IsLimitedBlock (suc deep) z.0.2) (same_ok ((case_number c, arm_numbers (scope_inside scope) c vs, block_made y.first (close.to - 1)), scope_after scope y.first.1) a.first y.rest)
        (few_made (count_of ss) y.first.0 w.0.0 q.few, q.limited) in
        let more = arms_limited around a.first.1 deep room ty rest d.first n g.1 w.1 d.one in
        subst (λ z. AreLimitedArms (suc deep) (arms_made z.0)) (same_ok (a.first.0 ∷ d.first.0, d.first.1) r d.rest) (here, more)

-- the last statement of a body
pub last_limited : (deep : ℕ) (b : Block) → AreLimited deep (stmts_made (last_return b)) × (length (last_return b) ≤ 1)
last_limited deep b = by (block_ends b)
  where
    end : List (ℕ × Form)
    end = (closing b, core.return None) ∷ []

    by : (t : Bool) → AreLimited deep (stmts_made (if t then [] else end)) × (length (if t then [] else end) ≤ 1)
    by true = (tt, omega arith)
    by false = ((tt, tt), omega arith)
