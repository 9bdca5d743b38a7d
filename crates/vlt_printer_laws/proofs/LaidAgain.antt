-- The layout of a tree doesn't hang on its places, so what is laid out is laid out again just so.
use Rattle.std.proofs.Common.{◌≡◌, ℕ, ◌+◌, List, [], ◌∷◌, ◌++◌, Option, Some, None, refl, ap, ◌∙◌}
use Rattle.std.specs.Prelude.{codes}
use Rattle.vlt_ops.specs.Operator.{row_of}
use Rattle.vlt_syntax.specs.Tree as s
use Rattle.vlt_syntax.specs.Tree.{Name, States, Field, Tree}
use Rattle.vlt_syntax.specs.Places.{Spans, Placing, each_at, further_at, listed_at, enclosed_at, marked_at, name_at, states_at, key_states_at, named_at, ty_at, expr_at, build_at, call_at, init_at, owner_at, right_at, returned_at, stmt_at, block_at, if_at, else_at, stmts_at, arms_at, set_state_at, header_key_at, field_at, release_at, case_at, entry_at, result_type_at, parameter_at, clause_at, head_at, decl_at, tree_at}
use Rattle.vlt_base.specs.Layout.{Layout, written, text}
use Rattle.vlt_printer.specs.Lists.{each_after, further_after, separated_after, listed_after, enclosed_after, braced_after}
use Rattle.vlt_printer.specs.Layout.{name_after, at_name_after, states_after, at_states_after, key_states_after, named_after, ty_after, expr_after, build_after, call_after, init_after, owner_after, right_after, returned_after, deeper, stmt_after, block_after, stmts_after, if_after, else_after, arms_after, state_separator, further_states_after, set_states_after, header_key_after, header_after, field_line_after, release_line_after, fields_after, case_after, cases_after, entry_after, result_type_after, parameter_after, clause_after, head_after, decl_after, decl_line_after, layout}

abbrev Lays : {X : Type 0} → (X → Placing X) → (X → Layout) → Type 0
Lays {X} place after = (x : X) (at : Spans) (i : ℕ) (before : List ℕ) → after (place x at i).0 before ≡ after x before

-- ---- lists

lays_each : {X : Type 0} (place : X → Placing X) (after : X → Layout) → Lays place after → Lays (each_at place) (each_after after)
lays_each place after k [] at i before = refl
lays_each place after k (x ∷ xs) at i before =
    ap (λ b. each_after after (each_at place xs at (place x at i).1).0 b) (k x at i before) ∙ lays_each place after k xs at (place x at i).1 (after x before)

lays_further : {X : Type 0} (place : X → Placing X) (separator : List ℕ) (after : X → Layout) → Lays place after → Lays (further_at place) (further_after (written separator) after)
lays_further place separator after k [] at i before = refl
lays_further place separator after k (x ∷ xs) at i before =
    ap (λ b. further_after (written separator) after (further_at place xs at (place x at (i + 1)).1).0 b) (k x at (i + 1) (before ++ separator)) ∙ lays_further place separator after k xs at (place x at (i + 1)).1 (after x (before ++ separator))

lays_separated : {X : Type 0} (place : X → Placing X) (separator : List ℕ) (after : X → Layout) → Lays place after → Lays (listed_at place) (separated_after (written separator) after)
lays_separated place separator after k [] at i before = refl
lays_separated place separator after k (x ∷ xs) at i before =
    ap (λ b. further_after (written separator) after (further_at place xs at (place x at i).1).0 b) (k x at i before) ∙ lays_further place separator after k xs at (place x at i).1 (after x before)

lays_enclosed : {X : Type 0} (place : X → Placing X) (opening closing : List ℕ) (after : X → Layout) → Lays place after → Lays (enclosed_at place) (enclosed_after (written opening) (written closing) after)
lays_enclosed place opening closing after k [] at i before = refl
lays_enclosed place opening closing after k (x ∷ xs) at i before =
    ap (λ b. b ++ closing) (ap (λ b. further_after (text ", ") after (further_at place xs at (place x at (i + 1)).1).0 b) (k x at (i + 1) (before ++ opening)) ∙ lays_further place (codes ", ") after k xs at (place x at (i + 1)).1 (after x (before ++ opening)))

lays_braced : {X : Type 0} (place : X → Placing X) (after : X → Layout) → Lays place after → Lays (listed_at place) (braced_after after)
lays_braced place after k [] at i before = refl
lays_braced place after k (x ∷ xs) at i before = ap (λ b. b ++ codes " }") (lays_separated place (codes ", ") after k (x ∷ xs) at i (before ++ codes "{ "))

-- ---- names and types

lays_name : Lays name_at name_after
lays_name x at i before = refl

lays_at_name : Lays (marked_at name_at) at_name_after
lays_at_name None at i before = refl
lays_at_name (Some x) at i before = refl

lays_states : Lays states_at states_after
lays_states (s.one n) at i before = refl
lays_states (s.several ns a) at i before = lays_braced name_at name_after lays_name ns at (i + 1) before

lays_at_states : Lays (marked_at states_at) at_states_after
lays_at_states None at i before = refl
lays_at_states (Some x) at i before = lays_states x at (i + 1) (before ++ codes "@")

lays_key_states : Lays key_states_at key_states_after
lays_key_states k at i before = lays_at_states k.states at (i + 1) (name_after k.key before)

lays_named : Lays named_at named_after
lays_named n at i before = lays_enclosed name_at (codes "<") (codes ">") name_after lays_name n.keys at (i + 1) (name_after n.name before)

lays_ty : Lays ty_at ty_after
lays_ty (s.int a) at i before = refl
lays_ty (s.bool a) at i before = refl
lays_ty (s.tracked k n a) at i before = lays_named n at (i + 2 + 1 + 1) _
lays_ty (s.owning ss n a) at i before =
    let j = (marked_at states_at ss at (i + 1)).1 in
    ap (λ b. named_after (named_at n at j).0 (b ++ codes " ")) (lays_at_states ss at (i + 1) (before ++ codes "tracked")) ∙ lays_named n at j _
lays_ty (s.guarded k n) at i before = lays_named n at (i + 1 + 1) _
lays_ty (s.plain n) at i before = lays_named n at i before

-- ---- expressions and right sides

lays_expr : Lays expr_at expr_after
lays_expr (s.number z a) at i before = refl
lays_expr (s.true a) at i before = refl
lays_expr (s.false a) at i before = refl
lays_expr (s.variable x) at i before = refl
lays_expr (s.field x f) at i before = refl
lays_expr (s.group e a) at i before = ap (λ b. b ++ codes ")") (lays_expr e at (i + 1) (before ++ codes "("))
lays_expr (s.unary o e a) at i before = lays_expr e at (i + 1) (before ++ (row_of o).sign)
lays_expr (s.binary o l r a) at i before =
    let j = (expr_at l at i).1 + 1 in
    ap (λ b. expr_after (expr_at r at j).0 (b ++ codes " " ++ (row_of o).sign ++ codes " ")) (lays_expr l at i before) ∙ lays_expr r at j _

lays_build : Lays build_at build_after
lays_build x at i before = lays_enclosed expr_at (codes "(") (codes ")") expr_after lays_expr x.payload at (i + 1) (name_after x.case before)

lays_call : Lays call_at call_after
lays_call x at i before = ap (λ b. b ++ codes ")") (lays_separated expr_at (codes ", ") expr_after lays_expr x.arguments at (i + 1 + 1) (name_after x.function before ++ codes "("))

lays_init : Lays init_at init_after
lays_init x at i before = lays_expr x.value at (i + 1 + 1) (name_after x.field before ++ codes ": ")

lays_owner : Lays owner_at owner_after
lays_owner None at i before = refl
lays_owner (Some r) at i before = refl

lays_right : Lays right_at right_after
lays_right (s.value e) at i before = lays_expr e at i before
lays_right (s.build x) at i before = lays_build x at i before
lays_right (s.call x) at i before = lays_call x at i before
lays_right (s.input a) at i before = refl
lays_right (s.more a) at i before = refl
lays_right (s.make r n fs a) at i before =
    let j = (owner_at r at (i + 1)).1 in
    let k = (named_at n at j).1 + 1 in
    ap (λ b. braced_after init_after (listed_at init_at fs at k).0 (named_after (named_at n at j).0 (b ++ codes " ") ++ codes " ")) (lays_owner r at (i + 1) (before ++ codes "new"))
    ∙ ap (λ b. braced_after init_after (listed_at init_at fs at k).0 (b ++ codes " ")) (lays_named n at j (owner_after r (before ++ codes "new") ++ codes " "))
    ∙ lays_braced init_at init_after lays_init fs at k _
lays_right (s.adopt x r a) at i before = refl

lays_returned : Lays returned_at returned_after
lays_returned s.nothing at i before = refl
lays_returned (s.value e) at i before = lays_expr e at i (before ++ codes " ")
lays_returned (s.build x) at i before = lays_build x at i (before ++ codes " ")

-- ---- statements

mutual
  lays_stmt : (indent : List ℕ) → Lays stmt_at (stmt_after indent)
  lays_stmt indent (s.declare t x v a) at i before =
      let j = (ty_at t at i).1 + 1 + 1 in
      ap (λ b. right_after (right_at v at j).0 (name_after x (b ++ codes " ") ++ codes " = ") ++ codes ";") (lays_ty t at i before)
      ∙ ap (λ b. b ++ codes ";") (lays_right v at j (name_after x (ty_after t before ++ codes " ") ++ codes " = "))
  lays_stmt indent (s.assign x v a) at i before = ap (λ b. b ++ codes ";") (lays_right v at (i + 1 + 1) (name_after x before ++ codes " = "))
  lays_stmt indent (s.put x f e a) at i before = ap (λ b. b ++ codes ";") (lays_expr e at (i + 1 + 1 + 1 + 1) (name_after f (name_after x before ++ codes ".") ++ codes " = "))
  lays_stmt indent (s.call x a) at i before = ap (λ b. b ++ codes ";") (lays_call x at i before)
  lays_stmt indent (s.print e a) at i before = ap (λ b. b ++ codes ");") (lays_expr e at (i + 2) (before ++ codes "print("))
  lays_stmt indent (s.block b) at i before = lays_block indent b at i before
  lays_stmt indent (s.choose c) at i before = lays_if indent c at i before
  lays_stmt indent (s.loop e b a) at i before =
      let j = (expr_at e at (i + 2)).1 + 1 in
      ap (λ f. block_after indent (block_at b at j).0 (f ++ codes ") ")) (lays_expr e at (i + 2) (before ++ codes "while (")) ∙ lays_block indent b at j _
  lays_stmt indent (s.break a) at i before = refl
  lays_stmt indent (s.continue a) at i before = refl
  lays_stmt indent (s.return v a) at i before = ap (λ b. b ++ codes ";") (lays_returned v at (i + 1) (before ++ codes "return"))
  lays_stmt indent (s.switch x s.no_arms a) at i before = refl
  lays_stmt indent (s.switch x (s.arm c vs b arm_at more) a) at i before =
      ap (λ f. f ++ indent ++ codes "}") (lays_arms (deeper indent) (s.arm c vs b arm_at more) at (i + 2 + 1 + 2) (name_after x (before ++ codes "switch (") ++ codes ") {\n"))
  lays_stmt indent (s.release x a) at i before = refl
  lays_stmt indent (s.become x t a) at i before = refl
  lays_stmt indent (s.swap x f v a) at i before = refl
  lays_stmt indent (s.open_into x vs a) at i before = ap (λ b. b ++ codes ");") (lays_separated name_at (codes ", ") name_after lays_name vs at (i + 1 + 1 + 2) _)
  lays_stmt indent (s.focus x k z b a) at i before = lays_block indent b at (i + 1 + 1 + 3 + 1 + 1 + 1) _

  lays_block : (indent : List ℕ) → Lays block_at (block_after indent)
  lays_block indent (s.braced s.done a) at i before = refl
  lays_block indent (s.braced (s.next x xs) a) at i before = ap (λ f. f ++ indent ++ codes "}") (lays_stmts (deeper indent) (s.next x xs) at (i + 1) (before ++ codes "{\n"))

  lays_stmts : (indent : List ℕ) → Lays stmts_at (stmts_after indent)
  lays_stmts indent s.done at i before = refl
  lays_stmts indent (s.next x xs) at i before =
      let j = (stmt_at x at i).1 in
      ap (λ f. stmts_after indent (stmts_at xs at j).0 (f ++ codes "\n")) (lays_stmt indent x at i (before ++ indent)) ∙ lays_stmts indent xs at j _

  lays_if : (indent : List ℕ) → Lays if_at (if_after indent)
  lays_if indent (s.choice e b other a) at i before =
      let j = (expr_at e at (i + 2)).1 + 1 in
      let k = (block_at b at j).1 in
      ap (λ f. else_after indent (else_at other at k).0 (block_after indent (block_at b at j).0 (f ++ codes ") "))) (lays_expr e at (i + 2) (before ++ codes "if ("))
      ∙ ap (λ f. else_after indent (else_at other at k).0 f) (lays_block indent b at j (expr_after e (before ++ codes "if (") ++ codes ") "))
      ∙ lays_else indent other at k _

  lays_else : (indent : List ℕ) → Lays else_at (else_after indent)
  lays_else indent s.nothing at i before = refl
  lays_else indent (s.last b) at i before = lays_block indent b at (i + 1) (before ++ codes " else ")
  lays_else indent (s.chained c) at i before = lays_if indent c at (i + 1) (before ++ codes " else ")

  lays_arms : (indent : List ℕ) → Lays arms_at (arms_after indent)
  lays_arms indent s.no_arms at i before = refl
  lays_arms indent (s.arm c vs b a more) at i before =
      let j = (enclosed_at name_at vs at (i + 1 + 1)).1 + 1 in
      let k = (block_at b at j).1 in
      let head = name_after c (before ++ indent ++ codes "case ") in
      ap (λ f. arms_after indent (arms_at more at k).0 (block_after indent (block_at b at j).0 (f ++ codes ": ") ++ codes "\n")) (lays_enclosed name_at (codes "(") (codes ")") name_after lays_name vs at (i + 1 + 1) head)
      ∙ ap (λ f. arms_after indent (arms_at more at k).0 (f ++ codes "\n")) (lays_block indent b at j (enclosed_after (text "(") (text ")") name_after vs head ++ codes ": "))
      ∙ lays_arms indent more at k _

-- ---- declarations

lays_header_key : Lays header_key_at header_key_after
lays_header_key p at i before = by p.key_type where
  by : (o : Option Name) → header_key_after (header_key_at (record { key = p.key; key_type = o }) at i).0 before ≡ header_key_after (record { key = p.key; key_type = o }) before
  by None = refl
  by (Some t) = refl

lays_header : Lays (enclosed_at header_key_at) header_after
lays_header = lays_enclosed header_key_at (codes "<") (codes ">") header_key_after lays_header_key

lays_field_line : Lays field_at field_line_after
lays_field_line f at i before =
    let j = (ty_at f.ty at i).1 + 1 in
    ap (λ b. at_states_after (marked_at states_at f.states at j).0 (name_after f.name (b ++ codes " ")) ++ codes ";" ++ codes "\n") (lays_ty f.ty at i (before ++ codes "    "))
    ∙ ap (λ b. b ++ codes ";" ++ codes "\n") (lays_at_states f.states at j (name_after f.name (ty_after f.ty (before ++ codes "    ") ++ codes " ")))

lays_release : Lays release_at release_line_after
lays_release None at i before = refl
lays_release (Some x) at i before = ap (λ b. b ++ codes ";\n") (lays_states x at (i + 1) (before ++ codes "    release "))

lays_fields : (fs : List Field) (r : Option States) (at : Spans) (i j : ℕ) (before : List ℕ) → fields_after (each_at field_at fs at i).0 (release_at r at j).0 before ≡ fields_after fs r before
lays_fields [] None at i j before = refl
lays_fields [] (Some x) at i j before = ap (λ b. b ++ codes "}") (lays_release (Some x) at j (before ++ codes "{\n"))
lays_fields (f ∷ fs) r at i j before =
    ap (λ b. release_line_after (release_at r at j).0 b ++ codes "}") (lays_each field_at field_line_after lays_field_line (f ∷ fs) at i (before ++ codes "{\n"))
    ∙ ap (λ b. b ++ codes "}") (lays_release r at j (each_after field_line_after (f ∷ fs) (before ++ codes "{\n")))

lays_case : Lays case_at case_after
lays_case c at i before =
    let j = (enclosed_at ty_at c.payload at (i + 1)).1 in
    ap (λ b. enclosed_after (text " { ") (text " }") key_states_after (enclosed_at key_states_at c.keys at j).0 b) (lays_enclosed ty_at (codes "(") (codes ")") ty_after lays_ty c.payload at (i + 1) (name_after c.name before))
    ∙ lays_enclosed key_states_at (codes " { ") (codes " }") key_states_after lays_key_states c.keys at j _

lays_cases : Lays (listed_at case_at) cases_after
lays_cases [] at i before = refl
lays_cases (c ∷ cs) at i before = ap (λ b. b ++ codes "\n}") (lays_separated case_at (codes ",\n    ") case_after lays_case (c ∷ cs) at i (before ++ codes "{\n    "))

lays_entry : Lays entry_at entry_after
lays_entry (s.held k) at i before = lays_key_states k at i before
lays_entry (s.changed k x y) at i before =
    let j = (states_at x at (i + 1 + 1)).1 + 1 in
    ap (λ b. states_after (states_at y at j).0 (b ++ codes "->")) (lays_states x at (i + 1 + 1) (name_after k before ++ codes "@")) ∙ lays_states y at j _
lays_entry (s.bound k v b) at i before = refl
lays_entry (s.taken k a) at i before = lays_key_states k at (i + 1) (before ++ codes "-")
lays_entry (s.given k a) at i before = lays_key_states k at (i + 1) (before ++ codes "+")
lays_entry (s.fresh k a) at i before = lays_key_states k at (i + 1) (before ++ codes "new ")

lays_result_type : Lays result_type_at result_type_after
lays_result_type (s.void a) at i before = refl
lays_result_type (s.value t) at i before = lays_ty t at i before

lays_parameter : Lays parameter_at parameter_after
lays_parameter p at i before = ap (λ b. name_after p.name (b ++ codes " ")) (lays_ty p.ty at i before)

lays_clause : Lays clause_at clause_after
lays_clause None at i before = refl
lays_clause (Some es) at i before = ap (λ b. b ++ codes "]") (lays_separated entry_at (codes ", ") entry_after lays_entry es at (i + 1) (before ++ codes " ["))

lays_head : Lays head_at head_after
lays_head h at i before =
    let j = (result_type_at h.result_type at i).1 + 1 + 1 in
    let k = (listed_at parameter_at h.parameters at j).1 in
    ap (λ b. clause_after (clause_at h.clause at k).0 (listed_after parameter_after (listed_at parameter_at h.parameters at j).0 (name_after h.name (b ++ codes " ") ++ codes "(") ++ codes ")")) (lays_result_type h.result_type at i before)
    ∙ ap (λ b. clause_after (clause_at h.clause at k).0 (b ++ codes ")")) (lays_separated parameter_at (codes ", ") parameter_after lays_parameter h.parameters at j (name_after h.name (result_type_after h.result_type before ++ codes " ") ++ codes "("))
    ∙ lays_clause h.clause at k _

lays_further_states : Lays (further_at set_state_at) further_states_after
lays_further_states [] at i before = refl
lays_further_states (x ∷ xs) at i before = lays_further_states xs at (i + 1 + 1) (name_after x.name (state_separator x.above before))

lays_set_states : Lays (listed_at set_state_at) set_states_after
lays_set_states [] at i before = refl
lays_set_states (x ∷ xs) at i before = ap (λ b. b ++ codes " }") (lays_further_states xs at (i + 1) (name_after x.name (before ++ codes "{ ")))

lays_decl : Lays decl_at decl_after
lays_decl (s.stateset n ss a) at i before = lays_set_states ss at (i + 1 + 1 + 1) _
lays_decl (s.abstract n ss a) at i before = ap (λ b. b ++ codes ";") (lays_at_name ss at (i + 1 + 1) (name_after n (before ++ codes "abstract ")))
lays_decl (s.struct n ps ss fs r a) at i before =
    let j = (enclosed_at header_key_at ps at (i + 1 + 1)).1 in
    let k = (marked_at name_at ss at j).1 + 1 in
    let l = (each_at field_at fs at k).1 in
    let head = name_after n (before ++ codes "struct ") in
    ap (λ b. fields_after (each_at field_at fs at k).0 (release_at r at l).0 (at_name_after (marked_at name_at ss at j).0 b ++ codes " ")) (lays_header ps at (i + 1 + 1) head)
    ∙ ap (λ b. fields_after (each_at field_at fs at k).0 (release_at r at l).0 (b ++ codes " ")) (lays_at_name ss at j (header_after ps head))
    ∙ lays_fields fs r at k l _
lays_decl (s.variant n ps cs a) at i before =
    let j = (enclosed_at header_key_at ps at (i + 1 + 1)).1 in
    ap (λ b. cases_after (listed_at case_at cs at (j + 1)).0 (b ++ codes " ")) (lays_header ps at (i + 1 + 1) (name_after n (before ++ codes "variant "))) ∙ lays_cases cs at (j + 1) _
lays_decl (s.extern h a) at i before = ap (λ b. b ++ codes ";") (lays_head h at (i + 1) (before ++ codes "extern "))
lays_decl (s.function h b a) at i before =
    let j = (head_at h at i).1 in
    ap (λ f. block_after [] (block_at b at j).0 (f ++ codes " ")) (lays_head h at i before) ∙ lays_block [] b at j _

lays_decl_line : Lays decl_at decl_line_after
lays_decl_line d at i before = ap (λ b. b ++ codes "\n") (lays_decl d at i before)

-- the same text for the tree at any places
pub laid_alike : (t : Tree) (spans : Spans) → layout (tree_at t spans 0).0 ≡ layout t
laid_alike t spans = lays_each decl_at decl_line_after lays_decl_line t.decls spans 0 []
