-- The tokens of a C program that breaks no rule can be read.
use Rattle.std.proofs.Common.{◌≤◌, ℤ, inl, inr, Bool, true, false, List, [], ◌∷◌, map, Some, None, refl, arith}
use Rattle.c_syntax.specs.declared.program.CResult.{CResult}
use Rattle.c_syntax.specs.declared.program.CResult.TheVariants as result
use Rattle.c_syntax.specs.declared.program.CVar.{CVar}
use Rattle.c_syntax.specs.declared.program.CCell.{CCell}
use Rattle.c_syntax.specs.declared.program.CCell.TheVariants as cell
use Rattle.c_syntax.specs.declared.token.CWord.TheVariants as w
use Rattle.c_syntax.specs.declared.token.CSign.TheVariants as s
use Rattle.c_syntax.specs.C as c
use Rattle.c_syntax.specs.C.{Expr, Arg, Call, Stmt, Stmts}
use Rattle.c_syntax.specs.Unit.{Declaration, Head, Body, TranslationUnit}
use Rattle.c_syntax.specs.Text.{max_number}
use Rattle.c_syntax.specs.Tokens as t
use Rattle.c_syntax.specs.Tokens.{Token}
use Rattle.c_syntax.specs.Spelling.{type_then, declaration_then, result_then, cell_then, expr_then, arg_token, more_args_then, args_then, call_then, stmt_then, stmts_then, more_params_then, params_then, head_then, heads_then, vars_then, bodies_then, spelling}
use Rattle.c_syntax.specs.Canonical.{IsReadable, AreReadable}
use Rattle.c_syntax.specs.Kinds.{Wanted, value, numeral, trap_number, name_text, param_wanted, prim_wants}
use Rattle.c_lower_worlds.specs.Naming.Lists.{Each}
use Rattle.c_lower_runs.proofs.OfTexts.Ruled.{Place, IsKnown, IsNumeral, IsCell, IsTyped, Suits, AllSuit, IsCall, IsRuled, AreRuled}

module _ (a : Place) (small : (v : CVar) → IsKnown a v → v.number ≤ max_number) where
  numeral_reads : (z : ℤ) → IsNumeral z → IsReadable (t.number z)
  numeral_reads z h = (h.number, h.is, h.small)

  cell_reads : (u : CResult) (x : CCell) (rest : List Token) → IsCell a u x → AreReadable rest → AreReadable (cell_then x rest)
  cell_reads u (cell.Number p k) rest h r = (small (record { reference = true; number = p }) h.base, (tt, (tt, (tt, ((k, refl, h.small), (tt, r))))))
  cell_reads u (cell.Reference p k) rest h r = (small (record { reference = true; number = p }) h.base, (tt, (tt, (tt, ((k, refl, h.small), (tt, r))))))

  expr_reads : (u : CResult) (e : Expr) (rest : List Token) → IsTyped a u e → AreReadable rest → AreReadable (expr_then e rest)
  expr_reads u (c.number z) rest h r = (numeral_reads z h.1, r)
  expr_reads u (c.variable v) rest h r = (small v h.known, r)
  expr_reads u (c.cell x) rest h r = cell_reads u x rest h r
  expr_reads u c.null rest h r = (tt, r)
  expr_reads u (c.unary o e) rest h r = (tt, (tt, expr_reads result.Number e (t.sign s.CloseParen ∷ rest) h.1 (tt, r)))
  expr_reads u (c.binary o x y) rest h r =
      (tt, expr_reads result.Number x (t.operator o ∷ expr_then y (t.sign s.CloseParen ∷ rest)) h.1 (tt, expr_reads result.Number y (t.sign s.CloseParen ∷ rest) h.2 (tt, r)))

  arg_reads : (u : Wanted) (x : Arg) → Suits a u x → IsReadable (arg_token x)
  arg_reads (value u) (c.number z) h = numeral_reads z h.1
  arg_reads (value u) (c.variable v) h = small v h.known
  arg_reads (value u) c.null h = tt
  arg_reads (value u) (c.text cs) h = absurd h
  arg_reads numeral (c.number z) h = numeral_reads z h
  arg_reads numeral (c.variable v) h = absurd h
  arg_reads numeral c.null h = absurd h
  arg_reads numeral (c.text cs) h = absurd h
  arg_reads trap_number (c.number z) (inl e) = (1, e, omega arith)
  arg_reads trap_number (c.number z) (inr e) = (2, e, omega arith)
  arg_reads trap_number (c.variable v) h = absurd h
  arg_reads trap_number c.null h = absurd h
  arg_reads trap_number (c.text cs) h = absurd h
  arg_reads name_text (c.number z) h = absurd h
  arg_reads name_text (c.variable v) h = absurd h
  arg_reads name_text c.null h = absurd h
  arg_reads name_text (c.text cs) h = h

  more_args_read : (us : List Wanted) (xs : List Arg) (rest : List Token) → AllSuit a us xs → AreReadable rest → AreReadable (more_args_then xs rest)
  more_args_read [] [] rest h r = (tt, r)
  more_args_read [] (x ∷ xs) rest h r = absurd h
  more_args_read (u ∷ us) [] rest h r = absurd h
  more_args_read (u ∷ us) (x ∷ xs) rest h r = (tt, (arg_reads u x h.0, more_args_read us xs rest h.1 r))

  args_read : (us : List Wanted) (xs : List Arg) (rest : List Token) → AllSuit a us xs → AreReadable rest → AreReadable (args_then xs rest)
  args_read [] [] rest h r = (tt, r)
  args_read [] (x ∷ xs) rest h r = absurd h
  args_read (u ∷ us) [] rest h r = absurd h
  args_read (u ∷ us) (x ∷ xs) rest h r = (arg_reads u x h.0, more_args_read us xs rest h.1 r)

  call_reads : (f : Call) (rest : List Token) → IsCall a f → AreReadable rest → AreReadable (call_then f rest)
  call_reads (c.function f xs) rest h r = (h.small, (tt, args_read (map param_wanted h.head.params) xs rest h.suit r))
  call_reads (c.primitive p xs) rest h r = (tt, (tt, args_read (prim_wants p) xs rest h r))

  mutual
    stmt_reads : (l : Bool) (x : Stmt) (rest : List Token) → IsRuled a l x → AreReadable rest → AreReadable (stmt_then x rest)
    stmt_reads l (c.set v e) rest h r = (small v h.0, (tt, expr_reads _ e (t.sign s.Semicolon ∷ rest) h.1 (tt, r)))
    stmt_reads l (c.set_call v f) rest h r = (small v h.0, (tt, call_reads f (t.sign s.Semicolon ∷ rest) h.1 (tt, r)))
    stmt_reads l (c.call f) rest h r = call_reads f (t.sign s.Semicolon ∷ rest) h (tt, r)
    stmt_reads l (c.put x e) rest h r = cell_reads _ x (t.sign s.Assign ∷ expr_then e (t.sign s.Semicolon ∷ rest)) h.0 (tt, expr_reads _ e (t.sign s.Semicolon ∷ rest) h.1 (tt, r))
    stmt_reads l (c.when e xs) rest h r =
        (tt, (tt, expr_reads result.Number e (t.sign s.CloseParen ∷ t.sign s.OpenBrace ∷ stmts_then xs (t.sign s.CloseBrace ∷ rest)) h.0 (tt, (tt, stmts_read l xs (t.sign s.CloseBrace ∷ rest) h.1 (tt, r)))))
    stmt_reads l (c.choose e xs ys) rest h r =
        let after = t.sign s.CloseBrace ∷ t.word w.Else ∷ t.sign s.OpenBrace ∷ stmts_then ys (t.sign s.CloseBrace ∷ rest) in (
          tt,
          (
            tt,
            expr_reads result.Number e (t.sign s.CloseParen ∷ t.sign s.OpenBrace ∷ stmts_then xs after) h.0
                (tt, (tt, stmts_read l xs after h.1 (tt, (tt, (tt, stmts_read l ys (t.sign s.CloseBrace ∷ rest) h.2 (tt, r)))))),
          ),
        )
    stmt_reads l (c.loop xs) rest h r = (tt, (tt, ((1, refl, omega arith), (tt, (tt, stmts_read true xs (t.sign s.CloseBrace ∷ rest) h (tt, r))))))
    stmt_reads l c.break rest h r = (tt, (tt, r))
    stmt_reads l c.continue rest h r = (tt, (tt, r))
    stmt_reads l (c.return None) rest h r = (tt, (tt, r))
    stmt_reads l (c.return (Some e)) rest h r = (tt, expr_reads a.scope.result e (t.sign s.Semicolon ∷ rest) h (tt, r))

    pub stmts_read : (l : Bool) (xs : Stmts) (rest : List Token) → AreRuled a l xs → AreReadable rest → AreReadable (stmts_then xs rest)
    stmts_read l c.done rest h r = r
    stmts_read l (c.next x xs) rest h r = stmt_reads l x (stmts_then xs rest) h.0 (stmts_read l xs rest h.1 r)

-- ---- declarations and heads

abbrev pub IsSmall : Declaration → Type 0
IsSmall d = d.variable.number ≤ max_number

type_reads : (b : Bool) (rest : List Token) → AreReadable rest → AreReadable (type_then b rest)
type_reads true rest r = (tt, r)
type_reads false rest r = (tt, (tt, r))

declaration_reads : (d : Declaration) (rest : List Token) → IsSmall d → AreReadable rest → AreReadable (declaration_then d rest)
declaration_reads d rest h r = type_reads d.reference (t.variable d.variable ∷ rest) (h, r)

more_params_read : (ds : List Declaration) (rest : List Token) → Each IsSmall ds → AreReadable rest → AreReadable (more_params_then ds rest)
more_params_read [] rest h r = (tt, r)
more_params_read (d ∷ ds) rest h r = (tt, declaration_reads d (more_params_then ds rest) h.0 (more_params_read ds rest h.1 r))

params_read : (ds : List Declaration) (rest : List Token) → Each IsSmall ds → AreReadable rest → AreReadable (params_then ds rest)
params_read [] rest h r = (tt, (tt, r))
params_read (d ∷ ds) rest h r = declaration_reads d (more_params_then ds rest) h.0 (more_params_read ds rest h.1 r)

result_reads : (x : CResult) (rest : List Token) → AreReadable rest → AreReadable (result_then x rest)
result_reads result.Nothing rest r = (tt, r)
result_reads result.Number rest r = (tt, (tt, r))
result_reads result.Reference rest r = (tt, r)

pub record HeadReads (h : Head) : Type 0 where
  pub name : h.name.number ≤ max_number
  pub params : Each IsSmall h.params

head_reads : (h : Head) (rest : List Token) → HeadReads h → AreReadable rest → AreReadable (head_then h rest)
head_reads h rest q r = result_reads h.result (t.name h.name ∷ t.sign s.OpenParen ∷ params_then h.params rest) (q.name, (tt, params_read h.params rest q.params r))

heads_read : (hs : List Head) (rest : List Token) → Each HeadReads hs → AreReadable rest → AreReadable (heads_then hs rest)
heads_read [] rest q r = r
heads_read (h ∷ hs) rest q r = head_reads h (t.sign s.Semicolon ∷ heads_then hs rest) q.0 (tt, heads_read hs rest q.1 r)

vars_read : (ds : List Declaration) (rest : List Token) → Each IsSmall ds → AreReadable rest → AreReadable (vars_then ds rest)
vars_read [] rest h r = r
vars_read (d ∷ ds) rest h r = declaration_reads d (t.sign s.Semicolon ∷ vars_then ds rest) h.0 (tt, vars_read ds rest h.1 r)

pub record BodyReads (b : Body) : Type 0 where
  pub head : HeadReads b.head
  pub vars : Each IsSmall b.vars
  pub stmts : (rest : List Token) → AreReadable rest → AreReadable (stmts_then b.stmts rest)

bodies_read : (bs : List Body) (rest : List Token) → Each BodyReads bs → AreReadable rest → AreReadable (bodies_then bs rest)
bodies_read [] rest h r = r
bodies_read (b ∷ bs) rest h r =
    let after = bodies_then bs rest in
    head_reads b.head (t.sign s.OpenBrace ∷ vars_then b.vars (stmts_then b.stmts (t.sign s.CloseBrace ∷ after))) h.0.head
    (tt, vars_read b.vars (stmts_then b.stmts (t.sign s.CloseBrace ∷ after)) h.0.vars (h.0.stmts (t.sign s.CloseBrace ∷ after) (tt, bodies_read bs rest h.1 r)))

pub unit_reads : (u : TranslationUnit) → u.main ≤ max_number → Each HeadReads u.heads → Each BodyReads u.bodies → AreReadable (spelling u)
unit_reads u main heads bodies = (tt, (tt, (tt, ((u.main, refl, main), (tt, heads_read u.heads (bodies_then u.bodies []) heads (bodies_read u.bodies [] bodies tt))))))
