-- Statements, arms and what has blocks stand where they are read.
use Rattle.std.proofs.Common.{◌≡◌, ℕ, ◌+◌, List, [], ◌∷◌, ◌++◌, sym, ap, ◌∙◌, arith}
use Rattle.vlt_base.specs.declared.places.Span.{Span}
use Rattle.vlt_tokens.specs.declared.token.Token.{Token as CodeToken}
use Rattle.vlt_syntax.specs.Tree as s
use Rattle.vlt_syntax.specs.Places.{expr_at, stmt_at, block_at, if_at, else_at, stmts_at, arms_at}
use Rattle.vlt_syntax.specs.View.{ArmView, stmts_made, arms_made}
use Rattle.vlt_parser_exprs.specs.Reading.{spans, Stands}
use Rattle.vlt_parser_simple.specs.Simple.{condition_at}
use Rattle.vlt_parser_exprs.proofs.Placings.{parts, both}

same_next : (x y : s.Stmt) (xs ys : s.Stmts) → s.next x xs ≡ s.next y ys → (x ≡ y) × (xs ≡ ys)
same_next x y xs ys e = (cc, cc)

pub stmts_append : (tokens : List CodeToken) (xs : List s.Stmt) (x : s.Stmt) (i j k : ℕ) → Stands stmts_at tokens i (stmts_made xs) j → Stands stmt_at tokens j x k → Stands stmts_at tokens i (stmts_made (xs ++ x ∷ [])) k
stmts_append tokens [] x i j k e last =
    let same : i ≡ j = ap (λ p. p.1) e in
    ap (λ a. (s.next a.0 s.done, a.1)) (ap (λ n. stmt_at x (spans tokens) n) same ∙ last)
stmts_append tokens (y ∷ ys) x i j k e last =
    let a = stmt_at y (spans tokens) i in
    let b = stmts_at (stmts_made ys) (spans tokens) a.1 in
    let p = parts (stmts_at (stmts_made (y ∷ ys)) (spans tokens) i) (s.next y (stmts_made ys)) j e in
    let q = same_next a.0 y b.0 (stmts_made ys) p.0 in
    let rest = stmts_append tokens ys x a.1 j k (both b (stmts_made ys) j q.1 p.1) last in
    let more = stmts_at (stmts_made (ys ++ x ∷ [])) (spans tokens) a.1 in
    ap (λ z. (s.next z more.0, more.1)) q.0 ∙ ap (λ r. (s.next y r.0, r.1)) rest

same_arm : (c d : s.Name) (vs us : List s.Name) (v u : s.Block) (at bt : Span) (xs ys : s.Arms) → s.arm c vs v at xs ≡ s.arm d us u bt ys → (xs ≡ ys) × ((zs : s.Arms) → s.arm c vs v at zs ≡ s.arm d us u bt zs)
same_arm c d vs us v u at bt xs ys e =
    let names : c ≡ d = cc in let variables : vs ≡ us = cc in let blocks : v ≡ u = cc in let places : at ≡ bt = cc in
    (cc, λ zs. ap (λ z. s.arm z vs v at zs) names ∙ ap (λ z. s.arm d z v at zs) variables ∙ ap (λ z. s.arm d us z at zs) blocks ∙ ap (λ z. s.arm d us u z zs) places)

pub arms_append : (tokens : List CodeToken) (xs : List ArmView) (x : ArmView) (i j k : ℕ) → Stands arms_at tokens i (arms_made xs) j → Stands arms_at tokens j (arms_made (x ∷ [])) k → Stands arms_at tokens i (arms_made (xs ++ x ∷ [])) k
arms_append tokens [] x i j k e last =
    let same : i ≡ j = ap (λ p. p.1) e in
    ap (λ n. arms_at (arms_made (x ∷ [])) (spans tokens) n) same ∙ last
arms_append tokens (y ∷ ys) x i j k e last =
    let first = arms_at (arms_made (y ∷ [])) (spans tokens) i in
    let b = arms_at (arms_made ys) (spans tokens) first.1 in
    let p = parts (arms_at (arms_made (y ∷ ys)) (spans tokens) i) (arms_made (y ∷ ys)) j e in
    let q = same_arm _ y.0 _ y.1 _ y.2 _ y.3 b.0 (arms_made ys) p.0 in
    let rest = arms_append tokens ys x first.1 j k (both b (arms_made ys) j q.0 p.1) last in
    let more = arms_at (arms_made (ys ++ x ∷ [])) (spans tokens) first.1 in
    ap (λ z. (z, more.1)) (q.1 more.0) ∙ ap (λ r. (s.arm y.0 y.1 y.2 y.3 r.0, r.1)) rest

pub while_stands : (tokens : List CodeToken) (at next following end : ℕ) (e : s.Expr) (b : s.Block) (span : Span) → next ≡ at + 1 → Stands condition_at tokens next e following → Stands block_at tokens following b end → span ≡ spans tokens at end
    → Stands stmt_at tokens at (s.loop e b span) end
while_stands tokens at next following end e b span is condition body same =
    let sp = spans tokens in
    let two : at + 2 ≡ next + 1 = omega (arith, is) in
    ap (λ n. let y = expr_at e sp n in let r = block_at b sp (y.1 + 1) in (s.loop y.0 r.0 (sp at r.1), r.1)) two
    ∙ ap (λ c. let r = block_at b sp c.1 in (s.loop c.0 r.0 (sp at r.1), r.1)) condition
    ∙ ap (λ r. (s.loop e r.0 (sp at r.1), r.1)) body
    ∙ ap (λ z. (s.loop e b z, end)) (sym same)

pub if_stands : (tokens : List CodeToken) (at next following last end : ℕ) (e : s.Expr) (b : s.Block) (o : s.Else) (span : Span) → next ≡ at + 1 → Stands condition_at tokens next e following → Stands block_at tokens following b last → Stands else_at tokens last o end → span ≡ spans tokens at end
    → Stands if_at tokens at (s.choice e b o span) end
if_stands tokens at next following last end e b o span is condition body other same =
    let sp = spans tokens in
    let two : at + 2 ≡ next + 1 = omega (arith, is) in
    ap (λ n. let y = expr_at e sp n in let r = block_at b sp (y.1 + 1) in let q = else_at o sp r.1 in (s.choice y.0 r.0 q.0 (sp at q.1), q.1)) two
    ∙ ap (λ c. let r = block_at b sp c.1 in let q = else_at o sp r.1 in (s.choice c.0 r.0 q.0 (sp at q.1), q.1)) condition
    ∙ ap (λ r. let q = else_at o sp r.1 in (s.choice e r.0 q.0 (sp at q.1), q.1)) body
    ∙ ap (λ q. (s.choice e b q.0 (sp at q.1), q.1)) other
    ∙ ap (λ z. (s.choice e b o z, end)) (sym same)
