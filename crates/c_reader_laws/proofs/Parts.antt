-- What can be read of a text as it is written can be read of its program as it is written.
use Rattle.std.proofs.Common.{◌≡◌, ◌≤◌, pos, Bool, true, false, if◌then◌else◌, List, [], ◌∷◌, ◌++◌, map, Some, None, sym, ap, ◌∙◌, subst, arith}
use Rattle.std.specs.List.{All}
use Rattle.std.specs.List.Sorted.{IsPermutation}
use Rattle.std.proofs.lemmas.List.Elements.{All-nil, All-cons, All-tail}
use Rattle.std.proofs.lemmas.List.Sorted.{All-permutation}
use Rattle.c_syntax.specs.declared.program.CVar.{CVar}
use Rattle.c_syntax.specs.declared.program.CResult.{CResult}
use Rattle.c_syntax.specs.declared.program.CResult.TheVariants as result
use Rattle.c_syntax.specs.declared.program.CCell.{CCell}
use Rattle.c_syntax.specs.declared.program.CCell.TheVariants as cell
use Rattle.c_syntax.specs.declared.token.CSign.TheVariants as s
use Rattle.c_syntax.specs.declared.token.CWord.TheVariants as w
use Rattle.c_syntax.specs.C as c
use Rattle.c_syntax.specs.C.{Expr, Arg, Call, Stmt, Stmts, Func, Program}
use Rattle.c_syntax.specs.Unit.{Declaration, Head, Body, TranslationUnit}
use Rattle.c_syntax.specs.Tokens as t
use Rattle.c_syntax.specs.Tokens.{Token}
use Rattle.c_syntax.specs.Text.{max_number}
use Rattle.c_syntax.specs.Spelling.{type_then, result_then, cell_then, expr_then, more_args_then, args_then, call_then, stmt_then, stmts_then, more_params_then, params_then, head_then, heads_then, vars_then, bodies_then, spelling}
use Rattle.c_syntax.specs.Kinds.{names_of, same_bool}
use Rattle.c_syntax.specs.Programs.{IsFuncOf, AreFuncsOf, bodies_of, IsProgramOf}
use Rattle.c_syntax.specs.Canonical as canonical
use Rattle.c_syntax.specs.Canonical.{IsReadable, AreReadable, body_of, main_number, unit_of}
use Rattle.c_reader_laws.proofs.OfPrinterLaws.Units.{names_same}
use Rattle.c_reader_laws.proofs.Unrefused.{heads_joined, own_heads}

-- a part before the rest, which can be read, and also before any other that can be
record Moves (others : List Token) (spell : List Token → List Token) : Type 0 where
  rest : AreReadable others
  again : (more : List Token) → AreReadable more → AreReadable (spell more)

-- ---- expressions and calls

cell_moves : (x : CCell) (rest : List Token) → AreReadable (cell_then x rest) → Moves rest (cell_then x)
cell_moves (cell.Number p n) rest q = record { rest = q.1.1.1.1.1.1; again = λ more m. (q.0, (tt, (tt, (tt, (q.1.1.1.1.0, (tt, m)))))) }
cell_moves (cell.Reference p n) rest q = record { rest = q.1.1.1.1.1.1; again = λ more m. (q.0, (tt, (tt, (tt, (q.1.1.1.1.0, (tt, m)))))) }

expr_moves : (e : Expr) (rest : List Token) → AreReadable (expr_then e rest) → Moves rest (expr_then e)
expr_moves (c.number z) rest q = record { rest = q.1; again = λ more m. (q.0, m) }
expr_moves (c.variable v) rest q = record { rest = q.1; again = λ more m. (q.0, m) }
expr_moves (c.cell x) rest q = let p = cell_moves x rest q in record { rest = p.rest; again = λ more m. p.again more m }
expr_moves c.null rest q = record { rest = q.1; again = λ more m. (tt, m) }
expr_moves (c.unary o e) rest q =
    let p = expr_moves e (t.sign s.CloseParen ∷ rest) q.1.1 in
    record { rest = p.rest.1; again = λ more m. (tt, (tt, p.again (t.sign s.CloseParen ∷ more) (tt, m))) }
expr_moves (c.binary o d e) rest q =
    let p = expr_moves d (t.operator o ∷ expr_then e (t.sign s.CloseParen ∷ rest)) q.1 in
    let r = expr_moves e (t.sign s.CloseParen ∷ rest) p.rest.1 in
    record { rest = r.rest.1; again = λ more m. (tt, p.again (t.operator o ∷ expr_then e (t.sign s.CloseParen ∷ more)) (tt, r.again (t.sign s.CloseParen ∷ more) (tt, m))) }

more_args_move : (xs : List Arg) (rest : List Token) → AreReadable (more_args_then xs rest) → Moves rest (more_args_then xs)
more_args_move [] rest q = record { rest = q.1; again = λ more m. (tt, m) }
more_args_move (x ∷ xs) rest q = let p = more_args_move xs rest q.1.1 in record { rest = p.rest; again = λ more m. (tt, (q.1.0, p.again more m)) }

args_move : (xs : List Arg) (rest : List Token) → AreReadable (args_then xs rest) → Moves rest (args_then xs)
args_move [] rest q = record { rest = q.1; again = λ more m. (tt, m) }
args_move (x ∷ xs) rest q = let p = more_args_move xs rest q.1 in record { rest = p.rest; again = λ more m. (q.0, p.again more m) }

call_moves : (f : Call) (rest : List Token) → AreReadable (call_then f rest) → Moves rest (call_then f)
call_moves (c.function f xs) rest q = let p = args_move xs rest q.1.1 in record { rest = p.rest; again = λ more m. (q.0, (tt, p.again more m)) }
call_moves (c.primitive f xs) rest q = let p = args_move xs rest q.1.1 in record { rest = p.rest; again = λ more m. (tt, (tt, p.again more m)) }

-- ---- statements

mutual
  stmt_moves : (x : Stmt) (rest : List Token) → AreReadable (stmt_then x rest) → Moves rest (stmt_then x)
  stmt_moves (c.set v e) rest q =
      let p = expr_moves e (t.sign s.Semicolon ∷ rest) q.1.1 in
      record { rest = p.rest.1; again = λ more m. (q.0, (tt, p.again (t.sign s.Semicolon ∷ more) (tt, m))) }
  stmt_moves (c.set_call v f) rest q =
      let p = call_moves f (t.sign s.Semicolon ∷ rest) q.1.1 in
      record { rest = p.rest.1; again = λ more m. (q.0, (tt, p.again (t.sign s.Semicolon ∷ more) (tt, m))) }
  stmt_moves (c.call f) rest q =
      let p = call_moves f (t.sign s.Semicolon ∷ rest) q in
      record { rest = p.rest.1; again = λ more m. p.again (t.sign s.Semicolon ∷ more) (tt, m) }
  stmt_moves (c.put x e) rest q =
      let r = cell_moves x (t.sign s.Assign ∷ expr_then e (t.sign s.Semicolon ∷ rest)) q in
      let p = expr_moves e (t.sign s.Semicolon ∷ rest) r.rest.1 in
      record { rest = p.rest.1; again = λ more m. r.again (t.sign s.Assign ∷ expr_then e (t.sign s.Semicolon ∷ more)) (tt, p.again (t.sign s.Semicolon ∷ more) (tt, m)) }
  stmt_moves (c.when e xs) rest q =
      let p = expr_moves e (t.sign s.CloseParen ∷ t.sign s.OpenBrace ∷ stmts_then xs (t.sign s.CloseBrace ∷ rest)) q.1.1 in
      let r = stmts_move xs (t.sign s.CloseBrace ∷ rest) p.rest.1.1 in
      record {
        rest = r.rest.1;
        again = λ more m. (tt, (tt, p.again (t.sign s.CloseParen ∷ t.sign s.OpenBrace ∷ stmts_then xs (t.sign s.CloseBrace ∷ more)) (tt, (tt, r.again (t.sign s.CloseBrace ∷ more) (tt, m)))));
      }
  stmt_moves (c.choose e xs ys) rest q =
      let p = expr_moves e (t.sign s.CloseParen ∷ t.sign s.OpenBrace ∷ stmts_then xs (t.sign s.CloseBrace ∷ t.word w.Else ∷ t.sign s.OpenBrace ∷ stmts_then ys (t.sign s.CloseBrace ∷ rest))) q.1.1 in
      let r = stmts_move xs (t.sign s.CloseBrace ∷ t.word w.Else ∷ t.sign s.OpenBrace ∷ stmts_then ys (t.sign s.CloseBrace ∷ rest)) p.rest.1.1 in
      let o = stmts_move ys (t.sign s.CloseBrace ∷ rest) r.rest.1.1.1 in
      record {
        rest = o.rest.1;
        again = λ more m.
            let others : AreReadable (t.sign s.CloseBrace ∷ t.word w.Else ∷ t.sign s.OpenBrace ∷ stmts_then ys (t.sign s.CloseBrace ∷ more)) = (tt, (tt, (tt, o.again (t.sign s.CloseBrace ∷ more) (tt, m)))) in
            (tt, (tt, p.again _ (tt, (tt, r.again _ others))));
      }
  stmt_moves (c.loop xs) rest q =
      let r = stmts_move xs (t.sign s.CloseBrace ∷ rest) q.1.1.1.1.1 in
      record { rest = r.rest.1; again = λ more m. (tt, (tt, (q.1.1.0, (tt, (tt, r.again (t.sign s.CloseBrace ∷ more) (tt, m)))))) }
  stmt_moves c.break rest q = record { rest = q.1.1; again = λ more m. (tt, (tt, m)) }
  stmt_moves c.continue rest q = record { rest = q.1.1; again = λ more m. (tt, (tt, m)) }
  stmt_moves (c.return None) rest q = record { rest = q.1.1; again = λ more m. (tt, (tt, m)) }
  stmt_moves (c.return (Some e)) rest q =
      let p = expr_moves e (t.sign s.Semicolon ∷ rest) q.1 in
      record { rest = p.rest.1; again = λ more m. (tt, p.again (t.sign s.Semicolon ∷ more) (tt, m)) }

  stmts_move : (xs : Stmts) (rest : List Token) → AreReadable (stmts_then xs rest) → Moves rest (stmts_then xs)
  stmts_move c.done rest q = record { rest = q; again = λ more m. m }
  stmts_move (c.next x xs) rest q =
      let first = stmt_moves x (stmts_then xs rest) q in
      let others = stmts_move xs rest first.rest in
      record { rest = others.rest; again = λ more m. first.again (stmts_then xs more) (others.again more m) }

-- ---- names

abbrev IsSmall : CVar → Type 0
IsSmall v = v.number ≤ max_number

abbrev AreSmall : List CVar → Type 0
AreSmall [] = Unit {0}
AreSmall (v ∷ vs) = IsSmall v × AreSmall vs

to_all : (vs : List CVar) → AreSmall vs → All IsSmall vs
to_all [] small = All-nil IsSmall
to_all (v ∷ vs) small = All-cons IsSmall v vs small.0 (to_all vs small.1)

of_all : (vs : List CVar) → All IsSmall vs → AreSmall vs
of_all [] all = tt
of_all (v ∷ vs) all = (all 0 v (omega arith), of_all vs (All-tail IsSmall v vs all))

small_in_order : (vs ws : List CVar) → IsPermutation vs ws → AreSmall vs → AreSmall ws
small_in_order vs ws order small = of_all ws (All-permutation IsSmall vs ws order (to_all vs small))

type_rest : (r : Bool) (rest : List Token) → AreReadable (type_then r rest) → AreReadable rest
type_rest true rest q = q.1
type_rest false rest q = q.1.1

type_again : (r : Bool) (rest : List Token) → AreReadable rest → AreReadable (type_then r rest)
type_again true rest m = (tt, m)
type_again false rest m = (tt, (tt, m))

-- names that are small, and the rest
abbrev Split : List Declaration → List Token → Type 0
Split ds rest = AreSmall (names_of ds) × AreReadable rest

more_params_split : (ds : List Declaration) (rest : List Token) → AreReadable (more_params_then ds rest) → Split ds rest
more_params_split [] rest q = (tt, q.1)
more_params_split (d ∷ ds) rest q =
    let r = type_rest d.reference (t.variable d.variable ∷ more_params_then ds rest) q.1 in
    let others = more_params_split ds rest r.1 in
    ((r.0, others.0), others.1)

params_split : (ds : List Declaration) (rest : List Token) → AreReadable (params_then ds rest) → Split ds rest
params_split [] rest q = (tt, q.1.1)
params_split (d ∷ ds) rest q =
    let r = type_rest d.reference (t.variable d.variable ∷ more_params_then ds rest) q in
    let others = more_params_split ds rest r.1 in
    ((r.0, others.0), others.1)

more_params_again : (ds : List Declaration) (rest : List Token) → AreSmall (names_of ds) → AreReadable rest → AreReadable (more_params_then ds rest)
more_params_again [] rest small m = (tt, m)
more_params_again (d ∷ ds) rest small m = (tt, type_again d.reference (t.variable d.variable ∷ more_params_then ds rest) (small.0, more_params_again ds rest small.1 m))

params_again : (ds : List Declaration) (rest : List Token) → AreSmall (names_of ds) → AreReadable rest → AreReadable (params_then ds rest)
params_again [] rest small m = (tt, (tt, m))
params_again (d ∷ ds) rest small m = type_again d.reference (t.variable d.variable ∷ more_params_then ds rest) (small.0, more_params_again ds rest small.1 m)

vars_split : (ds : List Declaration) (rest : List Token) → AreReadable (vars_then ds rest) → Split ds rest
vars_split [] rest q = (tt, q)
vars_split (d ∷ ds) rest q =
    let r = type_rest d.reference (t.variable d.variable ∷ t.sign s.Semicolon ∷ vars_then ds rest) q in
    let others = vars_split ds rest r.1.1 in
    ((r.0, others.0), others.1)

vars_again : (ds : List Declaration) (rest : List Token) → AreSmall (names_of ds) → AreReadable rest → AreReadable (vars_then ds rest)
vars_again [] rest small m = m
vars_again (d ∷ ds) rest small m = type_again d.reference (t.variable d.variable ∷ t.sign s.Semicolon ∷ vars_then ds rest) (small.0, (tt, vars_again ds rest small.1 m))

-- ---- heads

result_rest : (r : CResult) (rest : List Token) → AreReadable (result_then r rest) → AreReadable rest
result_rest result.Nothing rest q = q.1
result_rest result.Number rest q = q.1.1
result_rest result.Reference rest q = q.1

result_again : (r : CResult) (rest : List Token) → AreReadable rest → AreReadable (result_then r rest)
result_again result.Nothing rest m = (tt, m)
result_again result.Number rest m = (tt, (tt, m))
result_again result.Reference rest m = (tt, m)

record HeadSplit (h : Head) (others : List Token) : Type 0 where
  name : h.name.number ≤ max_number
  params : AreSmall (names_of h.params)
  rest : AreReadable others

head_split : (h : Head) (rest : List Token) → AreReadable (head_then h rest) → HeadSplit h rest
head_split h rest q =
    let r = result_rest h.result (t.name h.name ∷ t.sign s.OpenParen ∷ params_then h.params rest) q in
    let ps = params_split h.params rest r.1.1 in
    record { name = r.0; params = ps.0; rest = ps.1 }

head_again : (h : Head) (rest : List Token) → h.name.number ≤ max_number → AreSmall (names_of h.params) → AreReadable rest → AreReadable (head_then h rest)
head_again h rest name params m = result_again h.result (t.name h.name ∷ t.sign s.OpenParen ∷ params_then h.params rest) (name, (tt, params_again h.params rest params m))

heads_rest : (hs : List Head) (rest : List Token) → AreReadable (heads_then hs rest) → AreReadable rest
heads_rest [] rest q = q
heads_rest (h ∷ hs) rest q = heads_rest hs rest ((head_split h (t.sign s.Semicolon ∷ heads_then hs rest) q).rest.1)

-- ---- bodies

record IsReadableBody (b : Body) : Type 0 where
  name : b.head.name.number ≤ max_number
  params : AreSmall (names_of b.head.params)
  vars : AreSmall (names_of b.vars)
  stmts : (more : List Token) → AreReadable more → AreReadable (stmts_then b.stmts more)

abbrev AreReadableBodies : List Body → Type 0
AreReadableBodies [] = Unit {0}
AreReadableBodies (b ∷ bs) = IsReadableBody b × AreReadableBodies bs

bodies_split : (bs : List Body) → AreReadable (bodies_then bs []) → AreReadableBodies bs
bodies_split [] q = tt
bodies_split (b ∷ bs) q =
    let rest : List Token = bodies_then bs [] in
    let h = head_split b.head (t.sign s.OpenBrace ∷ vars_then b.vars (stmts_then b.stmts (t.sign s.CloseBrace ∷ rest))) q in
    let vs = vars_split b.vars (stmts_then b.stmts (t.sign s.CloseBrace ∷ rest)) h.rest.1 in
    let ss = stmts_move b.stmts (t.sign s.CloseBrace ∷ rest) vs.1 in
    (record { name = h.name; params = h.params; vars = vs.0; stmts = ss.again }, bodies_split bs ss.rest.1)

bodies_again : (bs : List Body) → AreReadableBodies bs → AreReadable (bodies_then bs [])
bodies_again [] are = tt
bodies_again (b ∷ bs) are =
    let rest : List Token = bodies_then bs [] in
    head_again b.head (t.sign s.OpenBrace ∷ vars_then b.vars (stmts_then b.stmts (t.sign s.CloseBrace ∷ rest))) are.0.name are.0.params
    (tt, vars_again b.vars (stmts_then b.stmts (t.sign s.CloseBrace ∷ rest)) are.0.vars (are.0.stmts (t.sign s.CloseBrace ∷ rest) (tt, bodies_again bs are.1)))

heads_again : (bs : List Body) (rest : List Token) → AreReadableBodies bs → AreReadable rest → AreReadable (heads_then (map (λ b. b.head) bs) rest)
heads_again [] rest are m = m
heads_again (b ∷ bs) rest are m = head_again b.head (t.sign s.Semicolon ∷ heads_then (map (λ x. x.head) bs) rest) are.0.name are.0.params (tt, heads_again bs rest are.1 m)

chosen_readable : (glue : Bool) (bs : List Body) → AreReadableBodies bs → AreReadableBodies (bodies_of glue bs)
chosen_readable glue [] are = tt
chosen_readable glue (b ∷ bs) are = by (same_bool glue b.head.name.glue) (chosen_readable glue bs are.1)
  where
    by : (d : Bool) → AreReadableBodies (bodies_of glue bs) → AreReadableBodies (if d then b ∷ bodies_of glue bs else bodies_of glue bs)
    by true rest = (are.0, rest)
    by false rest = rest

all_readable : (bs cs : List Body) → AreReadableBodies bs → AreReadableBodies cs → AreReadableBodies (bs ++ cs)
all_readable [] cs are also = also
all_readable (b ∷ bs) cs are also = (are.0, all_readable bs cs are.1 also)

func_readable : (glue : Bool) (b : Body) (f : Func) → IsReadableBody b → IsFuncOf b f → IsReadableBody (body_of glue f)
func_readable glue b f are is = record {
  name = subst (λ n. n ≤ max_number) (sym is.number) are.name;
  params = subst AreSmall (sym (names_same f.params ∙ is.params)) are.params;
  vars = subst AreSmall (sym (names_same f.vars)) (small_in_order (names_of b.vars) f.vars is.declares are.vars);
  stmts = λ more m. subst (λ ss. AreReadable (stmts_then ss more)) (sym is.body) (are.stmts more m);
}

funcs_readable : (glue : Bool) (bs : List Body) (fs : List Func) → AreReadableBodies bs → AreFuncsOf bs fs → AreReadableBodies (map (body_of glue) fs)
funcs_readable glue [] [] are is = tt
funcs_readable glue [] (f ∷ fs) are is = absurd is
funcs_readable glue (b ∷ bs) [] are is = absurd is
funcs_readable glue (b ∷ bs) (f ∷ fs) are is = (func_readable glue b f are.0 is.0, funcs_readable glue bs fs are.1 is.1)

pub readable_again : (u : TranslationUnit) (p : Program) → IsProgramOf u p → AreReadable (spelling u) → AreReadable (spelling (unit_of p))
readable_again u p is q =
    let are : AreReadableBodies u.bodies = bodies_split u.bodies (heads_rest u.heads (bodies_then u.bodies []) q.1.1.1.1.1) in
    let glue : List Body = map (body_of true) p.glue in
    let fns : List Body = map (body_of false) p.fns in
    let all : AreReadableBodies (glue ++ fns) =
    all_readable glue fns (funcs_readable true (bodies_of true u.bodies) p.glue (chosen_readable true u.bodies are) is.glue) (funcs_readable false (bodies_of false u.bodies) p.fns (chosen_readable false u.bodies are) is.fns) in
    let heads : map (λ b. b.head) (glue ++ fns) ≡ (unit_of p).heads = heads_joined glue fns ∙ ap (λ xs. xs ++ map (λ b. b.head) fns) (own_heads true p.glue) ∙ ap (λ xs. map (canonical.head_of true) p.glue ++ xs) (own_heads false p.fns) in
    let rest : AreReadable (bodies_then (glue ++ fns) []) = bodies_again (glue ++ fns) all in
    let main : IsReadable (t.number (pos (unit_of p).main)) = subst (λ n. IsReadable (t.number (pos n))) (sym (ap main_number is.main.1 ∙ is.main.2)) q.1.1.1.0 in
    (tt, (tt, (tt, (main, (tt, subst (λ hs. AreReadable (heads_then hs (bodies_then (glue ++ fns) []))) heads (heads_again (glue ++ fns) (bodies_then (glue ++ fns) []) all rest))))))
