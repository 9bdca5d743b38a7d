-- Back over a token, symbol by symbol.
use Rattle.std.proofs.Common.{◌≡◌, ℕ, zero, suc, ◌-◌, ◌≤◌, Bool, true, false, if◌then◌else◌, ◌==◌, List, [], ◌∷◌, Some, None, refl, sym, ap, subst, ◌∙◌, arith, length}
use Rattle.std.proofs.lemmas.Bool.Decides.{nat_tests}
use Rattle.vlt_tokens.specs.declared.token.Word.{Word}
use Rattle.vlt_tokens.specs.declared.token.Word.TheVariants as word
use Rattle.vlt_tokens.specs.declared.token.Mark.TheVariants as mark
use Rattle.vlt_base.specs.declared.places.Span.{Span}
use Rattle.vlt_syntax.specs.Tokens as t
use Rattle.vlt_syntax.specs.Tokens.{Token}
use Rattle.vlt_automaton.specs.Words.{word_number, same_word}
use Rattle.vlt_syntax.specs.Tree as s
use Rattle.vlt_syntax.specs.Tree.{If, Name, Ty, Expr, Case, ResultType, Stmt, Head, Block}
use Rattle.vlt_syntax.specs.Lists.{further_then, listed_then, enclosed_then}
use Rattle.vlt_syntax.specs.Spelling.{sign_of, at_states_then, case_then, header_then, marked_name_then, owner_then, case_name_then, result_type_then, parameter_then, head_then, decl_then, stmt_then, returned_then, block_then, if_then, named_then, name_then, state_sign, states_then, ty_then, right_then, expr_then}
use Rattle.vlt_automaton.specs.Automaton.{react_entry_at, one_more_state, react_further_states, reaction_after, within_count, or_else, react_after_fields, start_head, start_decl, whole_expr, start_operand, start_expr, react_operations, head_rest, start_ty, start_states, start_entry, start_right, react_right_name, react_tracked, react_type_name, react_stmt_name, start_simple, declaration_tail, enter, following_if, on_tick, on_keyword, start_tick, Left, Thing, Pending, a_name, a_param, a_ty, a_key, a_case, a_parameter, an_entry, an_expr, an_init, a_result_type, a_simple, a_stmt, a_decl, Symbol, tick, sign, keyword, thing, further, listed, enclosed, marked_name, states, at_states, named, after_tracked, after_type_name, operand, operations, following_name, close_group, end_expr, owner, right, after_right_name, returned, block, stmts, after_stmt_name, otherwise, following_else, arm, arms, entry_states, after_entry_at, arrow_states, clause, head, further_states, fields, after_fields, decls, Reaction, take, skip, refuse, exceed, with_after, start_thing, start_name, less, reaction}
use Rattle.vlt_syntax.specs.Grammar.{level, BindsFrom, depth, IsExpr, IsTy, IsIf, IsBlock, IsHead, IsResultType, Bounds}
use Rattle.vlt_syntax_laws.proofs.Takes.{IsNoSkip}
use Rattle.vlt_syntax_laws.proofs.Exprs.{operand_kept, unary_high}
use Rattle.vlt_syntax_laws.proofs.Back.{reduce, front, IsNamed, start_back, operations_back, raised, level_at, IsSmall, Rest, Part, Spells, Spelled, Wanted, Following, operations_end}
use Rattle.vlt_syntax_laws.proofs.Choices.{by_sign, by_name, if_back}
use Rattle.vlt_syntax_laws.proofs.Whole.{one_room, Backs, Then, followed_back, parted, further_back, enclosed_back, listed_back, stmts_more, block_back, while_back, become_back, the_name, NoSkip, if_both}
use Rattle.vlt_syntax_laws.proofs.Wider.{wider}

by_tick : (P : Token → Reaction → Type 0) (x : Token) (a b : Reaction) → ((n : List ℕ) → P (t.tick n) a) → P x b → P x (on_tick x a b)
by_tick P (t.tick n) a b p q = p n
by_tick P (t.sign n) a b p q = q
by_tick P (t.name n) a b p q = q
by_tick P (t.number n) a b p q = q
by_tick P (t.keyword n) a b p q = q

back_name : (extra : Bounds) (at : Span) (d : ℕ) (K : Rest) (c : List Token) (x : Token) → Backs extra d (thing a_name) K x c (start_name x)
back_name extra at d K c x = by_name (λ x r. Backs extra d (thing a_name) K x c r) x _ _ (λ n k. (the_name at n, c, tt, refl, k)) tt

back_tick : (extra : Bounds) (at : Span) (d : ℕ) (K : Rest) (c : List Token) (x : Token) → Backs extra d tick K x c (start_tick x)
back_tick extra at d K c x = by_tick (λ x r. Backs extra d tick K x c r) x _ _ (λ n k. (the_name at n, c, tt, refl, k)) tt

back_states : (extra : Bounds) (at : Span) (d : ℕ) (K : Rest) (c : List Token) (x : Token) → Backs extra d states K x c (start_states x)
back_states extra at d K c x =
    by_sign (λ x r. Backs extra d states K x c r) mark.OpenBrace x _ _
    (λ k. (s.several (k.0 ∷ k.4.0) at, k.4.1, tt, ap (λ r. t.sign mark.OpenBrace ∷ r) (k.3 ∙ ap (name_then k.0) k.4.3), k.4.4))
    (by_name (λ x r. Backs extra d states K x c r) x _ _ (λ n k. (s.one (the_name at n), c, tt, refl, k)) tt)

back_named : (extra : Bounds) (at : Span) (d : ℕ) (K : Rest) (c : List Token) (x : Token) → Backs extra d named K x c (reaction (wider extra) named x)
back_named extra at d K c x =
    by_name (λ x r. Backs extra d named K x c (with_after r (enclosed a_name mark.Less mark.Greater None ∷ []))) x _ _
    (λ n k. let q = k tt in (record { name = the_name at n; keys = q.0 }, q.1, tt, ap (λ r. t.name n ∷ r) q.3, q.4)) tt

back_tracked : (extra : Bounds) (at : Span) (d : ℕ) (K : Rest) (c : List Token) (x : Token) → Backs extra d after_tracked K x c (react_tracked x)
back_tracked extra at d K c x =
    by_sign (λ x r. Backs extra d after_tracked K x c r) mark.OpenParen x _ _
    (λ k. let p = k.4 in let n = p.2 in (s.tracked k.0 n.0 at, n.1, tt, ap (λ r. t.keyword word.Tracked ∷ t.sign mark.OpenParen ∷ r) (k.3 ∙ ap (name_then k.0) (p.1 ∙ ap (λ r. t.sign mark.CloseParen ∷ r) n.3)), n.4))
    (by_sign (λ x r. Backs extra d after_tracked K x c r) mark.At x _ _
    (λ k. (s.owning (Some k.0) k.4.0 at, k.4.1, k.2, ap (λ r. t.keyword word.Tracked ∷ t.sign mark.At ∷ r) (k.3 ∙ ap (states_then k.0) k.4.3), k.4.4))
    (by_name (λ x r. Backs extra d after_tracked K x c (with_after r (enclosed a_name mark.Less mark.Greater None ∷ []))) x _ _
    (λ n k. let q = k tt in (s.owning None (record { name = the_name at n; keys = q.0 }) at, q.1, tt, ap (λ r. t.keyword word.Tracked ∷ t.name n ∷ r) q.3, q.4)) tt))

back_type_name : (extra : Bounds) (at : Span) (d : ℕ) (K : Rest) (c : List Token) (x : Token) → Backs extra d after_type_name K x c (react_type_name x)
back_type_name extra at d K c x =
    by_sign (λ x r. Backs extra d after_type_name K x c r) mark.Colon x _ _
    (λ k n. (s.guarded (the_name at n) k.0, k.1, tt, ap (λ r. t.name n ∷ t.sign mark.Colon ∷ r) k.3, k.4))
    (by_sign (λ x r. Backs extra d after_type_name K x c r) mark.Less x _ _
    (λ k n. (s.plain (record { name = the_name at n; keys = k.0 ∷ k.4.0 }), k.4.1, tt, ap (λ r. t.name n ∷ t.sign mark.Less ∷ r) (k.3 ∙ ap (name_then k.0) k.4.3), k.4.4))
    (λ k n. (s.plain (record { name = the_name at n; keys = [] }), x ∷ c, tt, refl, k)))

back_ty : (extra : Bounds) (at : Span) (d : ℕ) (K : Rest) (c : List Token) (x : Token) → Backs extra d (thing a_ty) K x c (start_ty x)
back_ty extra at d K c (t.keyword word.Int) = λ k. (s.int at, c, tt, refl, k)
back_ty extra at d K c (t.keyword word.Bool) = λ k. (s.bool at, c, tt, refl, k)
back_ty extra at d K c (t.keyword word.Tracked) = λ k. k
back_ty extra at d K c (t.name n) = λ k. k n
back_ty extra at d K c _ = tt

back_entry : (extra : Bounds) (at : Span) (d : ℕ) (K : Rest) (c : List Token) (x : Token) → Backs extra d (thing an_entry) K x c (start_entry x)
back_entry extra at d K c (t.sign mark.Minus) = λ k. (s.taken k.0 at, k.1, k.2, ap (λ r. t.sign mark.Minus ∷ r) k.3, k.4)
back_entry extra at d K c (t.sign mark.Plus) = λ k. (s.given k.0 at, k.1, k.2, ap (λ r. t.sign mark.Plus ∷ r) k.3, k.4)
back_entry extra at d K c (t.keyword word.New) = λ k. (s.fresh k.0 at, k.1, k.2, ap (λ r. t.keyword word.New ∷ r) k.3, k.4)
back_entry extra at d K c (t.name n) = λ k. k n
back_entry extra at d K c _ = tt

back_entry_states : (extra : Bounds) (at : Span) (d : ℕ) (K : Rest) (c : List Token) (x : Token) → Backs extra d entry_states K x c (reaction (wider extra) entry_states x)
back_entry_states extra at d K c x =
    by_sign (λ x r. Backs extra d entry_states K x c r) mark.At x _ _ (λ k. k)
    (λ k n. (s.held (record { key = the_name at n; states = None }), x ∷ c, tt, refl, k))

back_entry_at : (extra : Bounds) (at : Span) (d : ℕ) (K : Rest) (c : List Token) (x : Token) → Backs extra d after_entry_at K x c (react_entry_at x)
back_entry_at extra at d K c x =
    by_sign (λ x r. Backs extra d after_entry_at K x c r) mark.OpenParen x _ _
    (λ k n.
    let l = k.4 in let b = l.2 in let z = b.4 in (
      s.bound (the_name at n) k.0 b.0,
      z.0,
      tt,
      ap (λ r. t.name n ∷ t.sign mark.At ∷ t.sign mark.OpenParen ∷ r) (k.3 ∙ ap (name_then k.0) (l.1 ∙ ap (λ r. t.sign mark.LessEqual ∷ r) (b.3 ∙ ap (name_then b.0) z.1))),
      z.2,
    ))
    (by_sign (λ x r. Backs extra d after_entry_at K x c (with_after r (arrow_states ∷ []))) mark.OpenBrace x _ _
    (λ k n.
    let z = k.4.4 n (s.several (k.0 ∷ k.4.0) at) tt in
    (z.0, z.1, z.2, ap (λ r. t.name n ∷ t.sign mark.At ∷ t.sign mark.OpenBrace ∷ r) (k.3 ∙ ap (name_then k.0) k.4.3) ∙ z.3, z.4))
    (by_name (λ x r. Backs extra d after_entry_at K x c (with_after r (arrow_states ∷ []))) x _ _ (λ m k n. k n (s.one (the_name at m)) tt) tt))

back_arrow : (extra : Bounds) (at : Span) (d : ℕ) (K : Rest) (c : List Token) (x : Token) → Backs extra d arrow_states K x c (reaction (wider extra) arrow_states x)
back_arrow extra at d K c x =
    by_sign (λ x r. Backs extra d arrow_states K x c r) mark.Arrow x _ _
    (λ k n ss i. (s.changed (the_name at n) ss k.0, k.1, (i, k.2), ap (λ r. t.name n ∷ t.sign mark.At ∷ states_then ss (t.sign mark.Arrow ∷ r)) k.3, k.4))
    (λ k n ss i. (s.held (record { key = the_name at n; states = Some ss }), x ∷ c, i, refl, k))

-- a type, and then what makes it a declaration
declared_after : (extra : Bounds) (at : Span) (x : Ty) (K : Rest) (c : List Token) → IsTy x → Spells extra 0 declaration_tail K c → (st : Stmt) × (rest : List Token) × (IsSmall extra) st × (ty_then x c ≡ stmt_then st rest) × K 0 rest
declared_after extra at x K c i k =
    let a = k.4 in let v = a.2 in let z = v.4 in
    (s.declare x k.0 v.0 at, z.0, (λ room. (i, v.2)), ap (ty_then x) (k.3 ∙ ap (name_then k.0) (a.1 ∙ ap (λ r. t.sign mark.Assign ∷ r) (v.3 ∙ ap (right_then v.0) z.1))), z.2)

-- after the name that a statement begins with
back_stmt_name : (extra : Bounds) (at : Span) (d : ℕ) (K : Rest) (c : List Token) (x : Token) → Backs extra d after_stmt_name K x c (react_stmt_name x)
back_stmt_name extra at d K c (t.sign mark.Assign) = λ k n. (s.assign (the_name at n) k.0 at, k.4.0, (λ room. k.2), ap (λ r. t.name n ∷ t.sign mark.Assign ∷ r) (k.3 ∙ ap (right_then k.0) k.4.1), k.4.2)
back_stmt_name extra at d K c (t.sign mark.Dot) = λ k n.
    let a = k.4 in let e = a.2 in let z = e.4 in
    (s.put (the_name at n) k.0 e.0 at, z.0, (λ room. e.2), ap (λ r. t.name n ∷ t.sign mark.Dot ∷ r) (k.3 ∙ ap (name_then k.0) (a.1 ∙ ap (λ r. t.sign mark.Assign ∷ r) (e.3 ∙ ap (expr_then e.0) z.1))), z.2)
back_stmt_name extra at d K c (t.sign mark.OpenParen) = λ k n.
    let q = k tt in
    (s.call (record { function = the_name at n; arguments = q.0; at = at }) at, q.4.0, (λ room. q.2.0), ap (λ r. t.name n ∷ t.sign mark.OpenParen ∷ r) (q.3 ∙ ap (listed_then expr_then mark.CloseParen q.0) q.4.1), q.4.2)
back_stmt_name extra at d K c (t.sign mark.Colon) = λ k n.
    let x = k.4 in let a = x.4 in let v = a.2 in let z = v.4 in (
      s.declare (s.guarded (the_name at n) k.0) x.0 v.0 at,
      z.0,
      (λ room. (tt, v.2)),
      ap (λ r. t.name n ∷ t.sign mark.Colon ∷ r) (k.3 ∙ ap (named_then k.0) (x.3 ∙ ap (name_then x.0) (a.1 ∙ ap (λ r. t.sign mark.Assign ∷ r) (v.3 ∙ ap (right_then v.0) z.1)))),
      z.2,
    )
back_stmt_name extra at d K c (t.sign mark.Less) = λ k n.
    let f = k.4 in
    let x = s.plain (record { name = the_name at n; keys = k.0 ∷ f.0 }) in
    let z = declared_after extra at (s.plain (record { name = the_name at n; keys = k.0 ∷ f.0 })) K f.1 tt f.4 in
    (z.0, z.1, z.2, ap (λ r. t.name n ∷ t.sign mark.Less ∷ r) (k.3 ∙ ap (name_then k.0) f.3) ∙ z.3, z.4)
back_stmt_name extra at d K c (t.name m) = λ k n.
    let v = k.2 in let z = v.4 in
    (s.declare (s.plain (record { name = the_name at n; keys = [] })) (the_name at m) v.0 at, z.0, (λ room. (tt, v.2)), ap (λ r. t.name n ∷ t.name m ∷ r) (k.1 ∙ ap (λ r. t.sign mark.Assign ∷ r) (v.3 ∙ ap (right_then v.0) z.1)), z.2)
back_stmt_name extra at d K c _ = tt

-- a statement without blocks
back_simple : (extra : Bounds) (at : Span) (room d : ℕ) (K : Rest) (c : List Token) (x : Token) → Backs extra d (thing (a_stmt room)) K x c (start_simple x)
back_simple extra at room d K c (t.keyword word.Print) = λ k.
    let e = k.2 in let p = e.4 in let z = p.2 in
    (s.print e.0 at, z.0, e.2, ap (λ r. t.keyword word.Print ∷ r) (k.1 ∙ ap (λ r. t.sign mark.OpenParen ∷ r) (e.3 ∙ ap (expr_then e.0) (p.1 ∙ ap (λ r. t.sign mark.CloseParen ∷ r) z.1))), z.2)
back_simple extra at room d K c (t.keyword word.Return) = λ k.
    (s.return k.0 at, k.4.0, k.2, ap (λ r. t.keyword word.Return ∷ r) (k.3 ∙ ap (returned_then k.0) k.4.1), k.4.2)
back_simple extra at room d K c (t.keyword word.Break) = λ k. (s.break at, k.0, tt, ap (λ r. t.keyword word.Break ∷ r) k.1, k.2)
back_simple extra at room d K c (t.keyword word.Continue) = λ k. (s.continue at, k.0, tt, ap (λ r. t.keyword word.Continue ∷ r) k.1, k.2)
back_simple extra at room d K c (t.keyword word.Release) = λ k. (s.release k.0 at, k.4.0, tt, ap (λ r. t.keyword word.Release ∷ r) (k.3 ∙ ap (name_then k.0) k.4.1), k.4.2)
back_simple extra at room d K c (t.keyword word.Become) = λ k. become_back extra at room K c k
back_simple extra at room d K c (t.keyword word.Swap) = λ k.
    let a = k.4 in let f = a.2 in let b = f.4 in let v = b.2 in let z = v.4 in (
      s.swap k.0 f.0 v.0 at,
      z.0,
      tt,
      ap (λ r. t.keyword word.Swap ∷ r) (k.3 ∙ ap (name_then k.0) (a.1 ∙ ap (λ r. t.sign mark.Dot ∷ r) (f.3 ∙ ap (name_then f.0) (b.1 ∙ ap (λ r. t.sign mark.Comma ∷ r) (v.3 ∙ ap (name_then v.0) z.1))))),
      z.2,
    )
back_simple extra at room d K c (t.keyword word.Open) = λ k.
    let a = k.4 in let p = a.2 in let n = p.2 in let f = n.4 in let z = f.4 in (
      s.open_into k.0 (n.0 ∷ f.0) at,
      z.0,
      tt,
      ap (λ r. t.keyword word.Open ∷ r) (k.3 ∙ ap (name_then k.0) (a.1 ∙ ap (λ r. t.keyword word.Into ∷ r) (p.1 ∙ ap (λ r. t.sign mark.OpenParen ∷ r) (n.3 ∙ ap (name_then n.0) (f.3 ∙ ap (further_then name_then mark.CloseParen f.0) z.1))))),
      z.2,
    )
back_simple extra at room d K c (t.keyword word.Int) = λ k. let z = declared_after extra at (s.int at) K c tt k in (z.0, z.1, z.2 room, z.3, z.4)
back_simple extra at room d K c (t.keyword word.Bool) = λ k. let z = declared_after extra at (s.bool at) K c tt k in (z.0, z.1, z.2 room, z.3, z.4)
back_simple extra at room d K c (t.keyword word.Tracked) = λ k. let z = declared_after extra at k.0 K k.1 k.2 k.4 in (z.0, z.1, z.2 room, k.3 ∙ z.3, z.4)
back_simple extra at room d K c (t.name n) = λ k. let z = k n in (z.0, z.1, z.2 room, z.3, z.4)
back_simple extra at room d K c _ = tt

-- one with blocks: the room is there, or the depth is exceeded
entered : (extra : Bounds) (d : ℕ) (y : Symbol) (K : Rest) (x : Token) (c : List Token) (room : ℕ) (xs : List Symbol) → (1 ≤ room → Spells extra 0 xs K c → Part extra d y K (x ∷ c)) → Backs extra d y K x c (enter room xs)
entered extra d y K x c zero xs f = tt
entered extra d y K x c (suc room) xs f = f (omega arith)

choose_back : (extra : Bounds) (at : Span) (room : ℕ) (K : Rest) (c : List Token) → 1 ≤ room → Spells extra 0 (following_if room) K c → (i : If) × (rest : List Token) × IsIf (wider extra) room i × (t.keyword word.If ∷ c ≡ if_then i rest) × K 0 rest
choose_back extra at room K c some k =
    let e = k.2 in let p = e.4 in let b = p.2 some in let o = b.4 some in (
      s.choice e.0 b.0 o.0 at,
      o.1,
      (e.2, b.2, o.2),
      ap (λ r. t.keyword word.If ∷ r) (k.1 ∙ ap (λ r. t.sign mark.OpenParen ∷ r) (e.3 ∙ ap (expr_then e.0) (p.1 ∙ ap (λ r. t.sign mark.CloseParen ∷ r) (b.3 ∙ ap (block_then b.0) o.3)))),
      o.4,
    )

abbrev arm_then : Name → List Name → Block → List Token → List Token
arm_then x vs b r = t.keyword word.Case ∷ case_name_then x (enclosed_then name_then mark.OpenParen mark.CloseParen vs (t.sign mark.Colon ∷ block_then b r))

back_stmt : (extra : Bounds) (at : Span) (room d : ℕ) (K : Rest) (c : List Token) (x : Token) → Backs extra d (thing (a_stmt room)) K x c (start_thing (wider extra) (a_stmt room) x)
back_stmt extra at room d K c (t.sign mark.OpenBrace) = entered extra d (thing (a_stmt room)) K (t.sign mark.OpenBrace) c room (stmts (room - 1) ∷ []) (λ some k. (s.block (s.braced k.0 at), k.1, (some, k.2), ap (λ r. t.sign mark.OpenBrace ∷ r) k.3, k.4))
back_stmt extra at room d K c (t.keyword word.If) = entered extra d (thing (a_stmt room)) K (t.keyword word.If) c room (following_if room) (λ some k. let i = choose_back extra at room K c some k in (s.choose i.0, i.1, i.2, i.3, i.4))
back_stmt extra at room d K c (t.keyword word.While) = entered extra d (thing (a_stmt room)) K (t.keyword word.While) c room _ (λ some k. while_back extra at room K c some k)
back_stmt extra at room d K c (t.keyword word.Switch) = entered extra d (thing (a_stmt room)) K (t.keyword word.Switch) c room _ (λ some k.
    let p = k.2.4 in let b = p.2 in let a = b.2 some in let m = a.6 some in (
      s.switch k.2.0 (s.arm a.0 a.1 a.2 at m.0) at,
      m.1,
      (tt, (a.4, m.2)),
      ap (λ r. t.keyword word.Switch ∷ r) (k.1 ∙ ap (λ r. t.sign mark.OpenParen ∷ r) (k.2.3 ∙ ap (name_then k.2.0) (p.1 ∙ ap (λ r. t.sign mark.CloseParen ∷ r) (b.1 ∙ ap (λ r. t.sign mark.OpenBrace ∷ r) (a.5 ∙ ap (arm_then a.0 a.1 a.2) m.3))))),
      m.4,
    ))
back_stmt extra at room d K c (t.keyword word.Focus) = entered extra d (thing (a_stmt room)) K (t.keyword word.Focus) c room _ (λ some k.
    let a = k.4 in let w = a.2 in let p = w.2 in let n = p.2 in let q = n.4 in let z = q.2 in let b = z.4 some in (
      s.focus k.0 n.0 z.0 b.0 at,
      b.1,
      b.2,
      ap (λ r. t.keyword word.Focus ∷ r) (k.3 ∙ ap (name_then k.0) (a.1 ∙ ap (λ r. t.keyword word.As ∷ r) (w.1 ∙ ap (λ r. t.keyword word.Tracked ∷ r) (p.1 ∙ ap (λ r. t.sign mark.OpenParen ∷ r) (n.3 ∙ ap (name_then n.0) (q.1 ∙ ap (λ r. t.sign mark.CloseParen ∷ r) (z.3 ∙ ap (name_then z.0) b.3))))))),
      b.4,
    ))
back_stmt extra at room d K c x = back_simple extra at room d K c x

back_else : (extra : Bounds) (at : Span) (room d : ℕ) (K : Rest) (c : List Token) (x : Token) → Backs extra d (otherwise room) K x c (reaction (wider extra) (otherwise room) x)
back_else extra at room d K c (t.keyword word.Else) = λ k r. k r
back_else extra at room d K c (t.keyword w) = λ k r. (s.nothing, t.keyword w ∷ c, tt, refl, k)
back_else extra at room d K c x = λ k r. (s.nothing, x ∷ c, tt, refl, k)

back_owner : (extra : Bounds) (at : Span) (d : ℕ) (K : Rest) (c : List Token) (x : Token) → Backs extra d owner K x c (reaction (wider extra) owner x)
back_owner extra at d K c x =
    by_sign (λ x r. Backs extra d owner K x c r) mark.OpenParen x _ _
    (λ k. (Some k.0, k.4.0, tt, ap (λ r. t.sign mark.OpenParen ∷ r) (k.3 ∙ ap (name_then k.0) k.4.1), k.4.2))
    (λ k. (None, x ∷ c, tt, refl, k))

back_after_else : (extra : Bounds) (at : Span) (room d : ℕ) (K : Rest) (c : List Token) (x : Token) → Backs extra d (following_else room) K x c (reaction (wider extra) (following_else room) x)
back_after_else extra at room d K c (t.keyword word.If) = entered extra d (following_else room) K (t.keyword word.If) c (room - 1) (following_if (room - 1)) (λ some k r. let i = choose_back extra at (room - 1) K c some k in (s.chained i.0, i.1, (r, i.2), ap (λ z. t.keyword word.Else ∷ z) i.3, i.4))
back_after_else extra at room d K c (t.sign mark.OpenBrace) = λ k r. (s.last (s.braced k.0 at), k.1, (r, k.2), ap (λ z. t.keyword word.Else ∷ t.sign mark.OpenBrace ∷ z) k.3, k.4)
back_after_else extra at room d K c (t.keyword w) = tt
back_after_else extra at room d K c (t.sign w) = tt
back_after_else extra at room d K c _ = tt

-- an arm's parts, after its word
arm_of : (extra : Bounds) (room : ℕ) (K : Rest) (c : List Token) → 1 ≤ room → Spells extra 0 (tick ∷ enclosed a_name mark.OpenParen mark.CloseParen None ∷ sign mark.Colon ∷ block room ∷ []) K c
    → (n : Name) × (vs : List Name) × (b : Block) × (rest : List Token) × IsBlock (wider extra) room b × (t.keyword word.Case ∷ c ≡ arm_then n vs b rest) × K 0 rest
arm_of extra room K c some k =
    let e = k.4 tt in let p = e.4 in let b = p.2 some in
    (k.0, e.0, b.0, b.1, b.2, ap (λ r. t.keyword word.Case ∷ r) (k.3 ∙ ap (case_name_then k.0) (e.3 ∙ ap (enclosed_then name_then mark.OpenParen mark.CloseParen e.0) (p.1 ∙ ap (λ r. t.sign mark.Colon ∷ r) b.3))), b.4)

back_arm : (extra : Bounds) (room d : ℕ) (K : Rest) (c : List Token) (x : Token) → Backs extra d (arm room) K x c (reaction (wider extra) (arm room) x)
back_arm extra room d K c (t.keyword word.Case) = λ k some. arm_of extra room K c some k
back_arm extra room d K c (t.keyword w) = tt
back_arm extra room d K c _ = tt

back_arms : (extra : Bounds) (at : Span) (room d : ℕ) (K : Rest) (c : List Token) (x : Token) → Backs extra d (arms room) K x c (reaction (wider extra) (arms room) x)
back_arms extra at room d K c (t.sign mark.CloseBrace) = λ k some. (s.no_arms, c, tt, refl, k)
back_arms extra at room d K c (t.keyword word.Case) = λ k some.
    let a = arm_of extra room (λ n r. Spells extra n (arms room ∷ []) K r) c some k in let m = a.6 some in
    (s.arm a.0 a.1 a.2 at m.0, m.1, (a.4, m.2), a.5 ∙ ap (arm_then a.0 a.1 a.2) m.3, m.4)
back_arms extra at room d K c (t.keyword w) = tt
back_arms extra at room d K c (t.sign w) = tt
back_arms extra at room d K c _ = tt

-- ---- heads and declarations

back_further_states : (extra : Bounds) (left : Left) (d : ℕ) (K : Rest) (c : List Token) (x : Token) → Backs extra d (further_states left) K x c (react_further_states left x)
back_further_states extra left d K c x =
    by_sign (λ x r. Backs extra d (further_states left) K x c r) mark.CloseBrace x _ _ (λ k. ([], c, omega arith, refl, k))
    (by_sign (λ x r. Backs extra d (further_states left) K x c r) mark.Comma x _ _ (more false)
    (by_sign (λ x r. Backs extra d (further_states left) K x c r) mark.Less x _ _ (more true) tt)) where
      more : (above : Bool) → Backs extra d (further_states left) K (t.sign (state_sign above)) c (one_more_state left)
      more above =
          if_both (λ r. Backs extra d (further_states left) K (t.sign (state_sign above)) c r) (left.more == 0) _ _ (λ e. tt)
          (λ e h. (record { name = h.0; above = above } ∷ h.4.0, h.4.1, one_room left (length h.4.0) e h.4.2, ap (λ r. t.sign (state_sign above) ∷ r) (h.3 ∙ ap (name_then h.0) h.4.3), h.4.4))

back_clause : (extra : Bounds) (d : ℕ) (K : Rest) (c : List Token) (x : Token) → Backs extra d clause K x c (reaction (wider extra) clause x)
back_clause extra d K c x =
    by_sign (λ x r. Backs extra d clause K x c r) mark.OpenBracket x _ _
    (λ k. let q = k tt in (Some q.0, q.1, q.2.0, ap (λ r. t.sign mark.OpenBracket ∷ r) q.3, q.4))
    (λ k. (None, x ∷ c, tt, refl, k))

back_after_fields : (extra : Bounds) (d : ℕ) (K : Rest) (c : List Token) (x : Token) → Backs extra d after_fields K x c (reaction (wider extra) after_fields x)
back_after_fields extra d K c (t.keyword word.Release) = λ k. let a = k.4 in let b = a.2 in (Some k.0, b.0, k.2, ap (λ r. t.keyword word.Release ∷ r) (k.3 ∙ ap (states_then k.0) (a.1 ∙ ap (λ r. t.sign mark.Semicolon ∷ r) b.1)), b.2)
back_after_fields extra d K c (t.sign mark.CloseBrace) = λ k. (None, c, tt, refl, k)
back_after_fields extra d K c (t.keyword w) = tt
back_after_fields extra d K c (t.sign w) = tt
back_after_fields extra d K c _ = tt

-- a head, after its result_type
head_after : (extra : Bounds) (at : Span) (x : ResultType) (K : Rest) (c : List Token) → IsResultType x → Spells extra 0 (head_rest (wider extra)) K c → (h : Head) × (rest : List Token) × IsHead (wider extra) h × (result_type_then x c ≡ head_then h rest) × K 0 rest
head_after extra at x K c i k =
    let p = k.4 in let l = p.2 (omega arith) in let z = l.4 in (
      record { result_type = x; name = k.0; parameters = l.0; clause = z.0; at = at },
      z.1,
      record { result_type = i; parameters = l.2.0; few = l.2.1; clause = z.2 },
      ap (result_type_then x) (k.3 ∙ ap (name_then k.0) (p.1 ∙ ap (λ r. t.sign mark.OpenParen ∷ r) (l.3 ∙ ap (listed_then parameter_then mark.CloseParen l.0) z.3))),
      z.4,
    )

-- ---- expressions of their own

expr_from : (extra : Bounds) (K : Rest) (ts : List Token) → Wanted (wider extra).depth (whole_expr (wider extra)) (λ n r. K 0 r) ts → Spelled Expr (IsExpr (wider extra)) expr_then K ts
expr_from extra K ts w = let q = w (wider extra).depth (level_at 2 (wider extra).depth ∷ []) refl (omega arith) (omega arith, omega arith, (omega arith, omega arith)) in (q.0, q.1, (raised 2 0 q.0 (omega arith) q.2, q.3), q.4, q.5)

expr_after : (extra : Bounds) (e : Expr) (K : Rest) (ts : List Token) → depth e ≡ 1 → BindsFrom 11 e → Following 1 (whole_expr (wider extra)) (λ n r. K 0 r) ts → Spelled Expr (IsExpr (wider extra)) expr_then K (expr_then e ts)
expr_after extra e K ts one b w = let q = w (wider extra).depth (level_at 2 (wider extra).depth ∷ []) e refl one b (omega arith, omega arith, (omega arith, omega arith)) in (q.0, q.1, (raised 2 0 q.0 (omega arith) q.2, q.3), q.4, q.5)

back_expr : (extra : Bounds) (at : Span) (d : ℕ) (K : Rest) (c : List Token) (x : Token) → Backs extra d (thing an_expr) K x c (start_expr (wider extra) x)
back_expr extra at d K c x = on (start_operand (wider extra).depth (whole_expr (wider extra)) x) refl (operand_kept (wider extra).depth (whole_expr (wider extra)) x) where
  on : (r : Reaction) → start_operand (wider extra).depth (whole_expr (wider extra)) x ≡ r → IsNoSkip r → Backs extra d (thing an_expr) K x c (with_after r (end_expr ∷ []))
  on (take ys) e kept = λ h. expr_from extra K (x ∷ c) (start_back extra at (wider extra).depth (whole_expr (wider extra)) x (λ n r. K 0 r) ys c e (parted extra 0 ys (end_expr ∷ []) K c h))
  on skip e kept = absurd kept
  on refuse e kept = tt
  on (exceed n) e kept = tt

as_value : (extra : Bounds) (d : ℕ) (K : Rest) (c : List Token) (x : Token) (r : Reaction) → Backs extra d (thing an_expr) K x c r → Backs extra d right K x c r
as_value extra d K c x (take xs) b = λ h. let q = b h in (s.value q.0, q.1, q.2, q.3, q.4)
as_value extra d K c x skip b = λ h. let q = b h in (s.value q.0, q.1, q.2, q.3, q.4)
as_value extra d K c x refuse b = tt
as_value extra d K c x (exceed n) b = tt

as_returned : (extra : Bounds) (d : ℕ) (K : Rest) (c : List Token) (x : Token) (r : Reaction) → Backs extra d (thing an_expr) K x c r → Backs extra d returned K x c r
as_returned extra d K c x (take xs) b = λ h. let q = b h in (s.value q.0, q.1, q.2, q.3, q.4)
as_returned extra d K c x skip b = λ h. let q = b h in (s.value q.0, q.1, q.2, q.3, q.4)
as_returned extra d K c x refuse b = tt
as_returned extra d K c x (exceed n) b = tt

back_right : (extra : Bounds) (at : Span) (d : ℕ) (K : Rest) (c : List Token) (x : Token) → Backs extra d right K x c (start_right (wider extra) x)
back_right extra at d K c (t.keyword word.Input) = λ k. (s.input at, k.2.0, tt, ap (λ r. t.keyword word.Input ∷ r) (k.1 ∙ ap (λ r. t.sign mark.OpenParen ∷ r) k.2.1), k.2.2)
back_right extra at d K c (t.keyword word.More) = λ k. (s.more at, k.2.0, tt, ap (λ r. t.keyword word.More ∷ r) (k.1 ∙ ap (λ r. t.sign mark.OpenParen ∷ r) k.2.1), k.2.2)
back_right extra at d K c (t.keyword word.New) = λ k.
    let n = k.4 in let b = n.4 in let l = b.2 tt in
    (s.make k.0 n.0 l.0 at, l.1, l.2.0, ap (λ r. t.keyword word.New ∷ r) (k.3 ∙ ap (owner_then k.0) (n.3 ∙ ap (named_then n.0) (b.1 ∙ ap (λ r. t.sign mark.OpenBrace ∷ r) l.3))), l.4)
back_right extra at d K c (t.keyword word.Adopt) = λ k.
    let w = k.4 in let n = w.2 in
    (s.adopt k.0 n.0 at, n.1, tt, ap (λ r. t.keyword word.Adopt ∷ r) (k.3 ∙ ap (name_then k.0) (w.1 ∙ ap (λ r. t.keyword word.Into ∷ r) n.3)), n.4)
back_right extra at d K c (t.tick n) = λ k. let q = k tt in (s.build (record { case = the_name at n; payload = q.0; at = at }), q.1, q.2.0, ap (λ r. t.tick n ∷ r) q.3, q.4)
back_right extra at d K c (t.name n) = λ k. k n
back_right extra at d K c x = as_value extra d K c x (start_expr (wider extra) x) (back_expr extra at d K c x)

back_right_name : (extra : Bounds) (at : Span) (d : ℕ) (K : Rest) (c : List Token) (x : Token) → Backs extra d after_right_name K x c (react_right_name (wider extra) x)
back_right_name extra at d K c x =
    by_sign (λ x r. Backs extra d after_right_name K x c r) mark.OpenParen x _ _
    (λ k n. let q = k tt in (s.call (record { function = the_name at n; arguments = q.0; at = at }), q.1, q.2.0, ap (λ r. t.name n ∷ t.sign mark.OpenParen ∷ r) q.3, q.4))
    (by_sign (λ x r. Backs extra d after_right_name K x c r) mark.Dot x _ _
    (λ k n. let q = expr_after extra (s.field (the_name at n) k.0) K k.1 refl tt k.4 in (s.value q.0, q.1, q.2, ap (λ r. t.name n ∷ t.sign mark.Dot ∷ r) k.3 ∙ q.3, q.4))
    (on (react_operations 1 (whole_expr (wider extra)) x) refl)) where
      on : (r : Reaction) → react_operations 1 (whole_expr (wider extra)) x ≡ r → Backs extra d after_right_name K x c (with_after r (end_expr ∷ []))
      on (take ys) e = λ h n.
          let q = expr_after extra (s.variable (the_name at n)) K (x ∷ c) refl tt (operations_back extra at 1 (whole_expr (wider extra)) x (λ n r. K 0 r) ys c e (parted extra 0 ys (end_expr ∷ []) K c h)) in
          (s.value q.0, q.1, q.2, q.3, q.4)
      on skip e = λ h n. (s.value (s.variable (the_name at n)), x ∷ c, (tt, omega arith), refl, h)
      on refuse e = tt
      on (exceed n) e = tt

back_returned : (extra : Bounds) (at : Span) (d : ℕ) (K : Rest) (c : List Token) (x : Token) → Backs extra d returned K x c (reaction (wider extra) returned x)
back_returned extra at d K c (t.tick n) = λ k. let q = k tt in (s.build (record { case = the_name at n; payload = q.0; at = at }), q.1, q.2.0, ap (λ r. t.tick n ∷ r) q.3, q.4)
back_returned extra at d K c (t.sign mark.Semicolon) = λ k. (s.nothing, t.sign mark.Semicolon ∷ c, tt, refl, k)
back_returned extra at d K c (t.sign m) = as_returned extra d K c (t.sign m) (start_expr (wider extra) (t.sign m)) (back_expr extra at d K c (t.sign m))
back_returned extra at d K c x = as_returned extra d K c x (start_expr (wider extra) x) (back_expr extra at d K c x)

-- ---- the other things

-- a type and then others, and a name and then others
ty_then_back : (extra : Bounds) (at : Span) (ys : List Symbol) (K : Rest) (c : List Token) (x : Token) → Then extra (λ L ts. Part extra 0 (thing a_ty) L ts) ys K x c (with_after (start_ty x) ys)
ty_then_back extra at ys K c x = followed_back extra a_ty x c ys K (start_ty x) (back_ty extra at 0 (λ n q. Spells extra n ys K q) c x)

-- from such a law to another's, where the reaction isn't to skip
through : (extra : Bounds) (d : ℕ) (y : Symbol) (P : Rest → List Token → Type 0) (ys : List Symbol) (K : Rest) (x : Token) (c : List Token) (r : Reaction) → NoSkip r → Then extra P ys K x c r → (P (λ n q. Spells extra n ys K q) (x ∷ c) → Part extra d y K (x ∷ c)) → Backs extra d y K x c r
through extra d y P ys K x c (take xs) kept b f = λ h. f (b h)
through extra d y P ys K x c skip kept b f = absurd kept
through extra d y P ys K x c refuse kept b f = tt
through extra d y P ys K x c (exceed n) kept b f = tt

ty_kept : (x : Token) (ys : List Symbol) → NoSkip (with_after (start_ty x) ys)
ty_kept (t.keyword word.Int) ys = tt
ty_kept (t.keyword word.Bool) ys = tt
ty_kept (t.keyword word.Tracked) ys = tt
ty_kept (t.name n) ys = tt
ty_kept _ ys = tt

back_parameter : (extra : Bounds) (at : Span) (d : ℕ) (K : Rest) (c : List Token) (x : Token) → Backs extra d (thing a_parameter) K x c (start_thing (wider extra) a_parameter x)
back_parameter extra at d K c x = through extra d (thing a_parameter) (λ L ts. Part extra 0 (thing a_ty) L ts) (thing a_name ∷ []) K x c _ (ty_kept x _) (ty_then_back extra at (thing a_name ∷ []) K c x)
    (λ q. let n = q.4 in (record { ty = q.0; name = n.0 }, n.1, q.2, q.3 ∙ ap (ty_then q.0) n.3, n.4))

back_param : (extra : Bounds) (at : Span) (d : ℕ) (K : Rest) (c : List Token) (x : Token) → Backs extra d (thing a_param) K x c (start_thing (wider extra) a_param x)
back_param extra at d K c (t.name n) = λ k. (record { key = the_name at n; key_type = k.0 }, k.1, tt, ap (λ r. t.name n ∷ r) k.3, k.4)
back_param extra at d K c _ = tt

back_key : (extra : Bounds) (at : Span) (d : ℕ) (K : Rest) (c : List Token) (x : Token) → Backs extra d (thing a_key) K x c (start_thing (wider extra) a_key x)
back_key extra at d K c (t.name n) = λ k. (record { key = the_name at n; states = k.0 }, k.1, k.2, ap (λ r. t.name n ∷ r) k.3, k.4)
back_key extra at d K c _ = tt

back_init : (extra : Bounds) (at : Span) (d : ℕ) (K : Rest) (c : List Token) (x : Token) → Backs extra d (thing an_init) K x c (start_thing (wider extra) an_init x)
back_init extra at d K c (t.name n) = λ k. let e = k.2 in (record { field = the_name at n; value = e.0 }, e.1, e.2, ap (λ r. t.name n ∷ r) (k.1 ∙ ap (λ r. t.sign mark.Colon ∷ r) e.3), e.4)
back_init extra at d K c _ = tt

back_case : (extra : Bounds) (at : Span) (d : ℕ) (K : Rest) (c : List Token) (x : Token) → Backs extra d (thing a_case) K x c (start_thing (wider extra) a_case x)
back_case extra at d K c (t.tick n) = λ k.
    let p = k (omega arith) in let q = p.4 tt in
    (record { name = the_name at n; payload = p.0; keys = q.0; at = at }, q.1, (p.2.0, p.2.1, q.2.0), ap (λ r. t.tick n ∷ r) (p.3 ∙ ap (enclosed_then ty_then mark.OpenParen mark.CloseParen p.0) q.3), q.4)
back_case extra at d K c _ = tt

back_result_type : (extra : Bounds) (at : Span) (d : ℕ) (K : Rest) (c : List Token) (x : Token) → Backs extra d (thing a_result_type) K x c (start_thing (wider extra) a_result_type x)
back_result_type extra at d K c (t.keyword word.Void) = λ k. (s.void at, c, tt, refl, k)
back_result_type extra at d K c (t.keyword word.Int) = λ k. (s.value (s.int at), c, tt, refl, k)
back_result_type extra at d K c (t.keyword word.Bool) = λ k. (s.value (s.bool at), c, tt, refl, k)
back_result_type extra at d K c (t.keyword word.Tracked) = λ k. (s.value k.0, k.1, k.2, k.3, k.4)
back_result_type extra at d K c (t.name n) = λ k. let q = k n in (s.value q.0, q.1, q.2, q.3, q.4)
back_result_type extra at d K c (t.keyword w) = tt
back_result_type extra at d K c _ = tt

result_type_kept : (extra : Bounds) (x : Token) (ys : List Symbol) → NoSkip (with_after (start_thing (wider extra) a_result_type x) ys)
result_type_kept extra (t.keyword word.Void) ys = tt
result_type_kept extra (t.keyword word.Int) ys = tt
result_type_kept extra (t.keyword word.Bool) ys = tt
result_type_kept extra (t.keyword word.Tracked) ys = tt
result_type_kept extra (t.keyword w) ys = tt
result_type_kept extra (t.name n) ys = tt
result_type_kept extra _ ys = tt

back_head : (extra : Bounds) (at : Span) (d : ℕ) (K : Rest) (c : List Token) (x : Token) → Backs extra d head K x c (reaction (wider extra) head x)
back_head extra at d K c x = through extra d head (λ L ts. Part extra 0 (thing a_result_type) L ts) (head_rest (wider extra)) K x c _ (result_type_kept extra x _) (followed_back extra a_result_type x c (head_rest (wider extra)) K _ (back_result_type extra at 0 (λ n q. Spells extra n (head_rest (wider extra)) K q) c x))
    (λ q. let h = head_after extra at q.0 K q.1 q.2 q.4 in (h.0, h.1, h.2, q.3 ∙ h.3, h.4))

followed_kept : (r : Reaction) (ys : List Symbol) → NoSkip r → NoSkip (with_after r ys)
followed_kept (take xs) ys h = tt
followed_kept skip ys h = h
followed_kept refuse ys h = tt
followed_kept (exceed n) ys h = tt

then_block : (extra : Bounds) (x : Token) (c : List Token) (ys : List Symbol) (K : Rest) (r : Reaction) → Backs extra 0 head (λ n q. Spells extra n ys K q) x c r → Then extra (λ L ts. Part extra 0 head L ts) ys K x c (with_after r ys)
then_block extra x c ys K (take xs) b = λ h. b (parted extra 0 xs ys K c h)
then_block extra x c ys K skip b = tt
then_block extra x c ys K refuse b = tt
then_block extra x c ys K (exceed n) b = tt

back_function : (extra : Bounds) (at : Span) (d : ℕ) (K : Rest) (c : List Token) (x : Token) → Backs extra d (thing a_decl) K x c (with_after (start_head (wider extra) x) (block (wider extra).depth ∷ []))
back_function extra at d K c x = through extra d (thing a_decl) (λ L ts. Part extra 0 head L ts) (block (wider extra).depth ∷ []) K x c _ (followed_kept (start_head (wider extra) x) (block (wider extra).depth ∷ []) (result_type_kept extra x (head_rest (wider extra))))
    (then_block extra x c (block (wider extra).depth ∷ []) K (start_head (wider extra) x) (back_head extra at 0 (λ n q. Spells extra n (block (wider extra).depth ∷ []) K q) c x))
    (λ q. let b = q.4 (omega arith) in (s.function q.0 b.0 at, b.1, (q.2, b.2), q.3 ∙ ap (head_then q.0) b.3, b.4))

back_decl : (extra : Bounds) (at : Span) (d : ℕ) (K : Rest) (c : List Token) (x : Token) → Backs extra d (thing a_decl) K x c (start_thing (wider extra) a_decl x)
back_decl extra at d K c (t.keyword word.Stateset) = λ k.
    let b = k.4 in let n = b.2 in let f = n.4 in
    (s.stateset k.0 (record { name = n.0; above = false } ∷ f.0) at, f.1, (tt, (let m = f.2 in omega arith), refl), ap (λ r. t.keyword word.Stateset ∷ r) (k.3 ∙ ap (name_then k.0) (b.1 ∙ ap (λ r. t.sign mark.OpenBrace ∷ r) (n.3 ∙ ap (name_then n.0) f.3))), f.4)
back_decl extra at d K c (t.keyword word.Abstract) = λ k.
    let m = k.4 in let z = m.4 in
    (s.abstract k.0 m.0 at, z.0, tt, ap (λ r. t.keyword word.Abstract ∷ r) (k.3 ∙ ap (name_then k.0) (m.3 ∙ ap (marked_name_then mark.At m.0) z.1)), z.2)
back_decl extra at d K c (t.keyword word.Extern) = λ k. let z = k.4 in (s.extern k.0 at, z.0, k.2, ap (λ r. t.keyword word.Extern ∷ r) (k.3 ∙ ap (head_then k.0) z.1), z.2)
back_decl extra at d K c (t.keyword word.Struct) = λ k.
    let h = k.4 (omega arith) in let m = h.4 in let b = m.4 in let f = b.2 in (
      s.struct k.0 h.0 m.0 f.0 f.1 at,
      f.2,
      (h.2.1, f.3, f.5, f.4),
      ap (λ r. t.keyword word.Struct ∷ r) (k.3 ∙ ap (name_then k.0) (h.3 ∙ ap (header_then h.0) (m.3 ∙ ap (marked_name_then mark.At m.0) (b.1 ∙ ap (λ r. t.sign mark.OpenBrace ∷ r) f.6)))),
      f.7,
    )
back_decl extra at d K c (t.keyword word.Variant) = λ k.
    let h = k.4 (omega arith) in let b = h.4 in let n = b.2 in let f = n.4 in (
      s.variant k.0 h.0 (n.0 ∷ f.0) at,
      f.1,
      (h.2.1, tt, (n.2, f.2.0), (let m = f.2.1 in omega arith)),
      ap (λ r. t.keyword word.Variant ∷ r) (k.3 ∙ ap (name_then k.0) (h.3 ∙ ap (header_then h.0) (b.1 ∙ ap (λ r. t.sign mark.OpenBrace ∷ r) (n.3 ∙ ap (case_then n.0) f.3)))),
      f.4,
    )
back_decl extra at d K c x = back_function extra at d K c x

abbrev one_less : Left → Left
one_less l = record { limit = l.limit; more = l.more - 1 }

back_decls : (extra : Bounds) (at : Span) (left : Left) (d : ℕ) (K : Rest) (c : List Token) (x : Token) → Backs extra d (decls left) K x c (reaction (wider extra) (decls left) x)
back_decls extra at left d K c x = on (start_decl (wider extra) x) (back_decl extra at 0 (λ n q. Spells extra n (decls (one_less left) ∷ []) K q) c x) where
  on : (r : Reaction) → Backs extra 0 (thing a_decl) (λ n q. Spells extra n (decls (one_less left) ∷ []) K q) x c r → Backs extra d (decls left) K x c (within_count left r (λ rest. decls rest ∷ []))
  on (take xs) b = if_both (λ r. Backs extra d (decls left) K x c r) (left.more == 0) _ _ (λ e. tt)
      (λ e h. let q = b (parted extra 0 xs (decls (one_less left) ∷ []) K c h) in let z = q.4 in
      (q.0 ∷ z.0, z.1, (q.2, z.2), one_room left (length z.0) e z.3, q.3 ∙ ap (decl_then q.0) z.4, z.5))
  on skip b = λ h. ([], x ∷ c, tt, omega arith, refl, h)
  on refuse b = tt
  on (exceed n) b = tt

abbrev field_list : Left → List Symbol
field_list rest = thing a_name ∷ at_states ∷ sign mark.Semicolon ∷ fields rest ∷ []

abbrev field_rest : Left → List Symbol
field_rest left = field_list (one_less left)

-- a field, and those after it
field_more : (extra : Bounds) (at : Span) (left : Left) (x : Ty) (d : ℕ) (K : Rest) (c : List Token) → (left.more == 0) ≡ false → IsTy x → Spells extra 0 (thing a_name ∷ at_states ∷ sign mark.Semicolon ∷ fields (one_less left) ∷ []) K c → Part extra d (fields left) K (ty_then x c)
field_more extra at left x d K c e i k =
    let o = k.4 in let z = o.4 in let f = z.2 in (
      record { ty = x; name = k.0; states = o.0; at = at } ∷ f.0,
      f.1,
      f.2,
      ((i, o.2), f.3),
      f.4,
      one_room left (length f.0) e f.5,
      ap (ty_then x) (k.3 ∙ ap (name_then k.0) (o.3 ∙ ap (at_states_then o.0) (z.1 ∙ ap (λ r. t.sign mark.Semicolon ∷ r) f.6))),
      f.7,
    )

ty_only : (x : Token) → NoSkip (start_ty x)
ty_only (t.keyword word.Int) = tt
ty_only (t.keyword word.Bool) = tt
ty_only (t.keyword word.Tracked) = tt
ty_only (t.name n) = tt
ty_only _ = tt

as_fields : (extra : Bounds) (left : Left) (d : ℕ) (K : Rest) (c : List Token) (x : Token) (r : Reaction) → Backs extra d after_fields K x c r → Backs extra d (fields left) K x c r
as_fields extra left d K c x (take xs) b = λ h. let q = b h in ([], q.0, q.1, tt, q.2, omega arith, q.3, q.4)
as_fields extra left d K c x skip b = λ h. let q = b h in ([], q.0, q.1, tt, q.2, omega arith, q.3, q.4)
as_fields extra left d K c x refuse b = tt
as_fields extra left d K c x (exceed n) b = tt

back_fields : (extra : Bounds) (at : Span) (left : Left) (d : ℕ) (K : Rest) (c : List Token) (x : Token) → Backs extra d (fields left) K x c (reaction (wider extra) (fields left) x)
back_fields extra at left d K c x = on (start_ty x) (ty_only x) (back_ty extra at 0 (λ n q. Spells extra n (field_rest left) K q) c x) where
  on : (r : Reaction) → NoSkip r → Backs extra 0 (thing a_ty) (λ n q. Spells extra n (field_rest left) K q) x c r → Backs extra d (fields left) K x c (or_else (within_count left r field_list) (react_after_fields x))
  on (take xs) kept b = if_both (λ r. Backs extra d (fields left) K x c (or_else r (react_after_fields x))) (left.more == 0) _ _ (λ e. tt)
      (λ e h. let q = b (parted extra 0 xs (field_rest left) K c h) in subst (λ ts. Part extra d (fields left) K ts) (sym q.3) (field_more extra at left q.0 d K q.1 e q.2 q.4))
  on skip kept b = absurd kept
  on refuse kept b = as_fields extra left d K c x (react_after_fields x) (back_after_fields extra d K c x)
  on (exceed n) kept b = tt

-- ---- operands

back_operand : (extra : Bounds) (at : Span) (room : ℕ) (fs : List Pending) (d : ℕ) (K : Rest) (c : List Token) (x : Token) → Backs extra d (operand room fs) K x c (start_operand room fs x)
back_operand extra at room fs d K c x = on (start_operand room fs x) refl (operand_kept room fs x) where
  on : (r : Reaction) → start_operand room fs x ≡ r → IsNoSkip r → Backs extra d (operand room fs) K x c r
  on (take ys) e kept = λ h. start_back extra at room fs x K ys c e h
  on skip e kept = absurd kept
  on refuse e kept = tt
  on (exceed n) e kept = tt

back_operations : (extra : Bounds) (at : Span) (n : ℕ) (fs : List Pending) (d : ℕ) (K : Rest) (c : List Token) (x : Token) → Backs extra d (operations n fs) K x c (react_operations n fs x)
back_operations extra at n fs d K c x = on (react_operations n fs x) refl where
  on : (r : Reaction) → react_operations n fs x ≡ r → Backs extra d (operations n fs) K x c r
  on (take ys) e = λ h. operations_back extra at n fs x K ys c e h
  on skip e = λ h. operations_end at n fs K (x ∷ c) h
  on refuse e = tt
  on (exceed m) e = tt

as_name : (extra : Bounds) (n : ℕ) (fs : List Pending) (d : ℕ) (K : Rest) (c : List Token) (x : Token) (r : Reaction) → Backs extra d (operations n fs) K x c r → Backs extra d (following_name n fs) K x c r
as_name extra n fs d K c x (take xs) b = λ h most gs e so is deep binds fits. b h most gs e is deep binds fits
as_name extra n fs d K c x skip b = λ h most gs e so is deep binds fits. b h most gs e is deep binds fits
as_name extra n fs d K c x refuse b = tt
as_name extra n fs d K c x (exceed m) b = tt

-- a name under operators, made a field
fielded : (at : Span) (e : Expr) (f : Name) → IsNamed e → BindsFrom 11 e → (g : Expr) × (depth g ≡ depth e) × BindsFrom 11 g × ((c : List Token) → expr_then e (t.sign mark.Dot ∷ name_then f c) ≡ expr_then g c)
fielded at (s.variable x) f so b = (s.field x f, refl, tt, λ c. refl)
fielded at (s.unary o e p) f so b =
    let l = unary_high o b.0 in
    let q = fielded at e f so (raised (level o) 11 e (omega arith) b.2) in
    (s.unary o q.0 at, ap suc q.1, (b.0, b.1, raised 11 (level o) q.0 (omega arith) q.2), λ c. ap (λ r. t.sign (sign_of o) ∷ r) (q.3 c))
fielded at (s.number z p) f so b = absurd so
fielded at (s.true p) f so b = absurd so
fielded at (s.false p) f so b = absurd so
fielded at (s.field x g) f so b = absurd so
fielded at (s.group e p) f so b = absurd so
fielded at (s.binary o l r p) f so b = absurd so

back_after_name : (extra : Bounds) (at : Span) (n : ℕ) (fs : List Pending) (d : ℕ) (K : Rest) (c : List Token) (x : Token) → Backs extra d (following_name n fs) K x c (reaction (wider extra) (following_name n fs) x)
back_after_name extra at n fs d K c x =
    by_sign (λ x r. Backs extra d (following_name n fs) K x c r) mark.Dot x _ _
    (λ k most gs e so is deep binds fits.
    let g = fielded at e k.0 so binds in
    let q = k.4 most gs g.0 is (g.1 ∙ deep) g.2 fits in
    (q.0, q.1, q.2, q.3, ap (λ r. front gs (expr_then e (t.sign mark.Dot ∷ r))) k.3 ∙ ap (front gs) (g.3 k.1) ∙ q.4, q.5))
    (as_name extra n fs d K c x (react_operations n fs x) (back_operations extra at n fs d K c x))

back_close : (extra : Bounds) (at : Span) (fs : List Pending) (d : ℕ) (K : Rest) (c : List Token) (x : Token) → Backs extra d (close_group fs) K x c (reaction_after (wider extra) d (close_group fs) x)
back_close extra at fs d K c x = by_sign (λ x r. Backs extra d (close_group fs) K x c r) mark.CloseParen x _ _ (λ k. (c, refl, reduce extra at (suc d) fs K c k)) tt

-- ---- all of them

back_thing : (extra : Bounds) (at : Span) (k : Thing) (d : ℕ) (K : Rest) (c : List Token) (x : Token) → Backs extra d (thing k) K x c (start_thing (wider extra) k x)
back_thing extra at a_name d K c x = back_name extra at d K c x
back_thing extra at a_param d K c x = back_param extra at d K c x
back_thing extra at a_ty d K c x = back_ty extra at d K c x
back_thing extra at a_key d K c x = back_key extra at d K c x
back_thing extra at a_case d K c x = back_case extra at d K c x
back_thing extra at a_parameter d K c x = back_parameter extra at d K c x
back_thing extra at an_entry d K c x = back_entry extra at d K c x
back_thing extra at an_expr d K c x = back_expr extra at d K c x
back_thing extra at an_init d K c x = back_init extra at d K c x
back_thing extra at a_result_type d K c x = back_result_type extra at d K c x
back_thing extra at a_simple d K c x = back_simple extra at (wider extra).depth d K c x
back_thing extra at (a_stmt room) d K c x = back_stmt extra at room d K c x
back_thing extra at a_decl d K c x = back_decl extra at d K c x

no_skip : (r : Reaction) → IsNoSkip r → NoSkip r
no_skip (take xs) h = tt
no_skip skip h = h
no_skip refuse h = tt
no_skip (exceed n) h = tt

enter_kept : (room : ℕ) (xs : List Symbol) → NoSkip (enter room xs)
enter_kept zero xs = tt
enter_kept (suc room) xs = tt

simple_kept : (x : Token) → NoSkip (start_simple x)
simple_kept (t.keyword w) = words w where
  words : (w : Word) → NoSkip (start_simple (t.keyword w))
  words word.Print = tt
  words _ = tt
simple_kept (t.name n) = tt
simple_kept _ = tt

thing_kept : (extra : Bounds) (k : Thing) (x : Token) → NoSkip (start_thing (wider extra) k x)
thing_kept extra a_name (t.name n) = tt
thing_kept extra a_name _ = tt
thing_kept extra a_param (t.name n) = tt
thing_kept extra a_param _ = tt
thing_kept extra a_ty x = ty_only x
thing_kept extra a_key (t.name n) = tt
thing_kept extra a_key _ = tt
thing_kept extra a_case (t.tick n) = tt
thing_kept extra a_case _ = tt
thing_kept extra a_parameter x = ty_kept x (thing a_name ∷ [])
thing_kept extra an_entry (t.sign mark.Minus) = tt
thing_kept extra an_entry (t.sign mark.Plus) = tt
thing_kept extra an_entry (t.keyword word.New) = tt
thing_kept extra an_entry (t.name n) = tt
thing_kept extra an_entry _ = tt
thing_kept extra an_expr x = followed_kept (start_operand (wider extra).depth (whole_expr (wider extra)) x) (end_expr ∷ []) (no_skip _ (operand_kept (wider extra).depth (whole_expr (wider extra)) x))
thing_kept extra an_init (t.name n) = tt
thing_kept extra an_init _ = tt
thing_kept extra a_result_type (t.keyword word.Void) = tt
thing_kept extra a_result_type (t.keyword word.Int) = tt
thing_kept extra a_result_type (t.keyword word.Bool) = tt
thing_kept extra a_result_type (t.keyword word.Tracked) = tt
thing_kept extra a_result_type (t.keyword w) = tt
thing_kept extra a_result_type (t.name n) = tt
thing_kept extra a_result_type _ = tt
thing_kept extra a_simple x = simple_kept x
thing_kept extra (a_stmt room) (t.sign mark.OpenBrace) = enter_kept room _
thing_kept extra (a_stmt room) (t.keyword word.If) = enter_kept room _
thing_kept extra (a_stmt room) (t.keyword word.While) = enter_kept room _
thing_kept extra (a_stmt room) (t.keyword word.Switch) = enter_kept room _
thing_kept extra (a_stmt room) (t.keyword word.Focus) = enter_kept room _
thing_kept extra (a_stmt room) x = simple_kept x
thing_kept extra a_decl (t.keyword word.Stateset) = tt
thing_kept extra a_decl (t.keyword word.Abstract) = tt
thing_kept extra a_decl (t.keyword word.Struct) = tt
thing_kept extra a_decl (t.keyword word.Variant) = tt
thing_kept extra a_decl (t.keyword word.Extern) = tt
thing_kept extra a_decl x = followed_kept (start_head (wider extra) x) (block (wider extra).depth ∷ []) (result_type_kept extra x (head_rest (wider extra)))

abbrev word_at : ℕ → Word
word_at n = if n == 0 then word.Abstract else if n == 1 then word.Adopt else if n == 2 then word.As else if n == 3 then word.Become else if n == 4 then word.Bool else if n == 5 then word.Break else if n == 6 then word.Case else if n == 7 then word.Continue else if n == 8 then word.Else else if n == 9 then word.Extern else if n == 10 then word.False else if n == 11 then word.Focus else if n == 12 then word.If else if n == 13 then word.Input else if n == 14 then word.Int else if n == 15 then word.Into else if n == 16 then word.More else if n == 17 then word.New else if n == 18 then word.Open else if n == 19 then word.Print else if n == 20 then word.Release else if n == 21 then word.Return else if n == 22 then word.Stateset else if n == 23 then word.Struct else if n == 24 then word.Swap else if n == 25 then word.Switch else if n == 26 then word.Tracked else if n == 27 then word.True else if n == 28 then word.Variant else if n == 29 then word.Void else word.While

word_again : (w : Word) → word_at (word_number w) ≡ w
word_again word.Abstract = refl
word_again _ = refl

word_is : (v w : Word) → same_word v w ≡ true → v ≡ w
word_is v w e = let same : word_number v ≡ word_number w = grind (arith, nat_tests) in sym (word_again v) ∙ ap word_at same ∙ word_again w

by_keyword : (P : Token → Reaction → Type 0) (w : Word) (x : Token) (a b : Reaction) → P (t.keyword w) a → P x b → P x (on_keyword w x a b)
by_keyword P w (t.keyword v) a b p q = if_back (P (t.keyword v)) (same_word v w) a b (λ e. subst (λ k. P (t.keyword k) a) (sym (word_is v w e)) p) q
by_keyword P w (t.name n) a b p q = q
by_keyword P w (t.tick n) a b p q = q
by_keyword P w (t.number n) a b p q = q
by_keyword P w (t.sign n) a b p q = q

back_stmts : (extra : Bounds) (at : Span) (room d : ℕ) (K : Rest) (c : List Token) (x : Token) → Backs extra d (stmts room) K x c (reaction (wider extra) (stmts room) x)
back_stmts extra at room d K c x =
    by_sign (λ x r. Backs extra 0 (thing (a_stmt room)) (λ n q. Spells extra n (stmts room ∷ []) K q) x c (start_thing (wider extra) (a_stmt room) x) → NoSkip (start_thing (wider extra) (a_stmt room) x) → Backs extra d (stmts room) K x c r) mark.CloseBrace x _ _
    (λ b kept h. (s.done, c, tt, refl, h)) (λ b kept. on (start_thing (wider extra) (a_stmt room) x) b kept) (back_stmt extra at room 0 (λ n q. Spells extra n (stmts room ∷ []) K q) c x) (thing_kept extra (a_stmt room) x) where
      on : (r : Reaction) → Backs extra 0 (thing (a_stmt room)) (λ n q. Spells extra n (stmts room ∷ []) K q) x c r → NoSkip r → Backs extra d (stmts room) K x c (with_after r (stmts room ∷ []))
      on (take xs) b kept = λ h. stmts_more extra room d K (x ∷ c) (b (parted extra 0 xs (stmts room ∷ []) K c h))
      on skip b kept = absurd kept
      on refuse b kept = tt
      on (exceed n) b kept = tt

pub backs : (extra : Bounds) (at : Span) (d : ℕ) (y : Symbol) (K : Rest) (x : Token) (c : List Token) → Backs extra d y K x c (reaction_after (wider extra) d y x)
backs extra at d tick K x c = back_tick extra at d K c x
backs extra at d (sign m) K x c = by_sign (λ x r. Backs extra d (sign m) K x c r) m x _ _ (λ k. (c, refl, k)) tt
backs extra at d (keyword w) K x c = by_keyword (λ x r. Backs extra d (keyword w) K x c r) w x _ _ (λ k. (c, refl, k)) tt
backs extra at d (thing k) K x c = back_thing extra at k d K c x
backs extra at d (further k m left) K x c = further_back extra k m left d K c x
backs extra at d (listed k m left) K x c = listed_back extra k m left d K c x (back_thing extra at k 0 (λ n q. Spells extra n (further k m (less left) ∷ []) K q) c x) (thing_kept extra k x)
backs extra at d (enclosed k o m left) K x c = enclosed_back extra k o m left d K c x
backs extra at d (marked_name m) K x c = by_sign (λ x r. Backs extra d (marked_name m) K x c r) m x _ _ (λ k. (Some k.0, k.1, tt, ap (λ r. t.sign m ∷ r) k.3, k.4)) (λ k. (None, x ∷ c, tt, refl, k))
backs extra at d states K x c = back_states extra at d K c x
backs extra at d at_states K x c = by_sign (λ x r. Backs extra d at_states K x c r) mark.At x _ _ (λ k. (Some k.0, k.1, k.2, ap (λ r. t.sign mark.At ∷ r) k.3, k.4)) (λ k. (None, x ∷ c, tt, refl, k))
backs extra at d named K x c = back_named extra at d K c x
backs extra at d after_tracked K x c = back_tracked extra at d K c x
backs extra at d after_type_name K x c = back_type_name extra at d K c x
backs extra at d (operand room fs) K x c = back_operand extra at room fs d K c x
backs extra at d (operations n fs) K x c = back_operations extra at n fs d K c x
backs extra at d (following_name n fs) K x c = back_after_name extra at n fs d K c x
backs extra at d (close_group fs) K x c = back_close extra at fs d K c x
backs extra at d end_expr K x c = λ k. k
backs extra at d owner K x c = back_owner extra at d K c x
backs extra at d right K x c = back_right extra at d K c x
backs extra at d after_right_name K x c = back_right_name extra at d K c x
backs extra at d returned K x c = back_returned extra at d K c x
backs extra at d (block room) K x c = block_back extra at room d K c x
backs extra at d (stmts room) K x c = back_stmts extra at room d K c x
backs extra at d after_stmt_name K x c = back_stmt_name extra at d K c x
backs extra at d (otherwise room) K x c = back_else extra at room d K c x
backs extra at d (following_else room) K x c = back_after_else extra at room d K c x
backs extra at d (arm room) K x c = back_arm extra room d K c x
backs extra at d (arms room) K x c = back_arms extra at room d K c x
backs extra at d entry_states K x c = back_entry_states extra at d K c x
backs extra at d after_entry_at K x c = back_entry_at extra at d K c x
backs extra at d arrow_states K x c = back_arrow extra at d K c x
backs extra at d clause K x c = back_clause extra d K c x
backs extra at d head K x c = back_head extra at d K c x
backs extra at d (further_states left) K x c = back_further_states extra left d K c x
backs extra at d (fields left) K x c = back_fields extra at left d K c x
backs extra at d after_fields K x c = back_after_fields extra d K c x
backs extra at d (decls left) K x c = back_decls extra at left d K c x
