-- A tree within some bounds is within wider ones.
use Rattle.std.proofs.Common.{ℕ, ◌-◌, ◌≤◌, List, [], ◌∷◌, arith}
use Rattle.vlt_syntax.specs.Tree as s
use Rattle.vlt_syntax.specs.Tree.{Expr, Right, Returned, Stmt, Block, If, Else, Stmts, Arms, Case, Head, Decl, Tree}
use Rattle.vlt_syntax.specs.Lists.{Each}
use Rattle.vlt_syntax.specs.Grammar.{Bounds, language, IsExpr, IsInit, IsRight, IsReturned, IsStmt, IsBlock, IsIf, IsElse, AreStmts, AreArms, IsCase, IsHead, IsDecl, IsTree}
use Rattle.vlt_syntax_laws.proofs.Wider.{wider}

-- no bound is less
pub record AreWider (b c : Bounds) : Type 0 where
  pub decls : b.decls ≤ c.decls
  pub states : b.states ≤ c.states
  pub fields : b.fields ≤ c.fields
  pub cases : b.cases ≤ c.cases
  pub payload : b.payload ≤ c.payload
  pub parameters : b.parameters ≤ c.parameters
  pub depth : b.depth ≤ c.depth

-- what these bounds have beyond those of the language
abbrev pub beyond : Bounds → Bounds
beyond b = record {
  decls = b.decls - language.decls;
  states = b.states - language.states;
  fields = b.fields - language.fields;
  cases = b.cases - language.cases;
  payload = b.payload - language.payload;
  parameters = b.parameters - language.parameters;
  depth = b.depth - language.depth;
}

pub wide_enough : (b : Bounds) → AreWider b (wider (beyond b))
wide_enough b = record {
  decls = omega arith;
  states = omega arith;
  fields = omega arith;
  cases = omega arith;
  payload = omega arith;
  parameters = omega arith;
  depth = omega arith;
}

each : {X : Type 0} (P Q : X → Type 0) → ((x : X) → P x → Q x) → (xs : List X) → Each P xs → Each Q xs
each P Q f [] h = tt
each P Q f (x ∷ xs) h = (f x h.0, each P Q f xs h.1)

expr : (b c : Bounds) → AreWider b c → (x : Expr) → IsExpr b x → IsExpr c x
expr b c w x h = (h.0, let d = w.depth in omega arith)

exprs : (b c : Bounds) → AreWider b c → (xs : List Expr) → Each (IsExpr b) xs → Each (IsExpr c) xs
exprs b c w = each (IsExpr b) (IsExpr c) (expr b c w)

right : (b c : Bounds) → AreWider b c → (x : Right) → IsRight b x → IsRight c x
right b c w (s.value e) h = expr b c w e h
right b c w (s.build v) h = exprs b c w v.payload h
right b c w (s.call v) h = exprs b c w v.arguments h
right b c w (s.input at) h = tt
right b c w (s.more at) h = tt
right b c w (s.make r n fs at) h = each (IsInit b) (IsInit c) (λ i. expr b c w i.value) fs h
right b c w (s.adopt x r at) h = tt

returned : (b c : Bounds) → AreWider b c → (x : Returned) → IsReturned b x → IsReturned c x
returned b c w s.nothing h = tt
returned b c w (s.value e) h = expr b c w e h
returned b c w (s.build v) h = exprs b c w v.payload h

mutual
  stmt : (b c : Bounds) → AreWider b c → (m n : ℕ) → m ≤ n → (x : Stmt) → IsStmt b m x → IsStmt c n x
  stmt b c w m n le (s.declare t x v at) h = (h.0, right b c w v h.1)
  stmt b c w m n le (s.assign x v at) h = right b c w v h
  stmt b c w m n le (s.put x f e at) h = expr b c w e h
  stmt b c w m n le (s.call v at) h = exprs b c w v.arguments h
  stmt b c w m n le (s.print e at) h = expr b c w e h
  stmt b c w m n le (s.block body) h = block b c w m n le body h
  stmt b c w m n le (s.choose i) h = choice b c w m n le i h
  stmt b c w m n le (s.loop e body at) h = (expr b c w e h.0, block b c w m n le body h.1)
  stmt b c w m n le (s.break at) h = tt
  stmt b c w m n le (s.continue at) h = tt
  stmt b c w m n le (s.return v at) h = returned b c w v h
  stmt b c w m n le (s.switch x rows at) h = (h.0, arms b c w m n le rows h.1)
  stmt b c w m n le (s.release x at) h = tt
  stmt b c w m n le (s.become x t at) h = tt
  stmt b c w m n le (s.swap x f v at) h = tt
  stmt b c w m n le (s.open_into x vs at) h = h
  stmt b c w m n le (s.focus x k z body at) h = block b c w m n le body h

  block : (b c : Bounds) → AreWider b c → (m n : ℕ) → m ≤ n → (x : Block) → IsBlock b m x → IsBlock c n x
  block b c w m n le (s.braced ss at) h = (omega arith, stmts b c w (m - 1) (n - 1) (omega arith) ss h.1)

  choice : (b c : Bounds) → AreWider b c → (m n : ℕ) → m ≤ n → (x : If) → IsIf b m x → IsIf c n x
  choice b c w m n le (s.choice e body other at) h = (expr b c w e h.0, block b c w m n le body h.1, otherwise b c w m n le other h.2)

  otherwise : (b c : Bounds) → AreWider b c → (m n : ℕ) → m ≤ n → (x : Else) → IsElse b m x → IsElse c n x
  otherwise b c w m n le s.nothing h = tt
  otherwise b c w m n le (s.last body) h = block b c w m n le body h
  otherwise b c w m n le (s.chained i) h = (omega arith, choice b c w (m - 1) (n - 1) (omega arith) i h.1)

  stmts : (b c : Bounds) → AreWider b c → (m n : ℕ) → m ≤ n → (x : Stmts) → AreStmts b m x → AreStmts c n x
  stmts b c w m n le s.done h = tt
  stmts b c w m n le (s.next x xs) h = (stmt b c w m n le x h.0, stmts b c w m n le xs h.1)

  arms : (b c : Bounds) → AreWider b c → (m n : ℕ) → m ≤ n → (x : Arms) → AreArms b m x → AreArms c n x
  arms b c w m n le s.no_arms h = tt
  arms b c w m n le (s.arm k vs body at more) h = (block b c w m n le body h.0, arms b c w m n le more h.1)

case : (b c : Bounds) → AreWider b c → (x : Case) → IsCase b x → IsCase c x
case b c w x h = (h.0, (let p = w.payload in omega arith), h.2)

head : (b c : Bounds) → AreWider b c → (x : Head) → IsHead b x → IsHead c x
head b c w x h = record { result_type = h.result_type; parameters = h.parameters; few = (let p = w.parameters in let q = h.few in omega arith); clause = h.clause }

decl : (b c : Bounds) → AreWider b c → (x : Decl) → IsDecl b x → IsDecl c x
decl b c w (s.stateset n ss at) h = (h.0, (let p = w.states in omega arith), h.2)
decl b c w (s.abstract n ss at) h = tt
decl b c w (s.struct n ps ss fs r at) h = ((let p = w.parameters in omega arith), h.1, (let p = w.fields in omega arith), h.3)
decl b c w (s.variant n ps cs at) h = ((let p = w.parameters in omega arith), h.1, each (IsCase b) (IsCase c) (case b c w) cs h.2, let p = w.cases in omega arith)
decl b c w (s.extern i at) h = head b c w i h
decl b c w (s.function i body at) h = (head b c w i h.0, block b c w b.depth c.depth w.depth body h.1)

pub weaker_tree : (b c : Bounds) → AreWider b c → (x : Tree) → IsTree b x → IsTree c x
weaker_tree b c w x h = (each (IsDecl b) (IsDecl c) (decl b c w) x.decls h.0, let p = w.decls in omega arith)
