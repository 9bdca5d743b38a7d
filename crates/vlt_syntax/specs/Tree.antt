-- The tree of a source text, without where it lies in memory.
use Rattle.std.specs.Prelude.{ℕ, ℤ, Bool, List, Option}
use Rattle.vlt_base.specs.declared.places.Span.{Span}
use Rattle.vlt_ops.specs.declared.Op.{Op}

pub record Name : Type 0 where
  pub text : List ℕ
  pub at : Span

pub data States : Type 0 where
  one : Name → States
  several : List Name → Span → States

-- a key, and the states in which it is held
pub record KeyStates : Type 0 where
  pub key : Name
  pub states : Option States

-- the name of a type with its key arguments
pub record Named : Type 0 where
  pub name : Name
  pub keys : List Name

pub data Ty : Type 0 where
  int : Span → Ty
  bool : Span → Ty
  tracked : Name → Named → Span → Ty
  owning : Option States → Named → Span → Ty
  guarded : Name → Named → Ty
  plain : Named → Ty

-- ---- expressions

pub data Expr : Type 0 where
  number : ℤ → Span → Expr
  true : Span → Expr
  false : Span → Expr
  variable : Name → Expr
  field : Name → Name → Expr
  group : Expr → Span → Expr
  unary : Op → Expr → Span → Expr
  binary : Op → Expr → Expr → Span → Expr

pub record Build : Type 0 where
  pub case : Name
  pub payload : List Expr
  pub at : Span

pub record Call : Type 0 where
  pub function : Name
  pub arguments : List Expr
  pub at : Span

pub record Init : Type 0 where
  pub field : Name
  pub value : Expr

pub data Right : Type 0 where
  value : Expr → Right
  build : Build → Right
  call : Call → Right
  input : Span → Right
  more : Span → Right
  make : Option Name → Named → List Init → Span → Right
  adopt : Name → Name → Span → Right

pub data Returned : Type 0 where
  nothing : Returned
  value : Expr → Returned
  build : Build → Returned

-- ---- statements

mutual
  pub data Stmt : Type 0 where
    declare : Ty → Name → Right → Span → Stmt
    assign : Name → Right → Span → Stmt
    put : Name → Name → Expr → Span → Stmt
    call : Call → Span → Stmt
    print : Expr → Span → Stmt
    block : Block → Stmt
    choose : If → Stmt
    loop : Expr → Block → Span → Stmt
    break : Span → Stmt
    continue : Span → Stmt
    return : Returned → Span → Stmt
    switch : Name → Arms → Span → Stmt
    release : Name → Span → Stmt
    become : Name → Name → Span → Stmt
    swap : Name → Name → Name → Span → Stmt
    open_into : Name → List Name → Span → Stmt
    focus : Name → Name → Name → Block → Span → Stmt

  pub data Block : Type 0 where
    braced : Stmts → Span → Block

  pub data If : Type 0 where
    choice : Expr → Block → Else → Span → If

  pub data Else : Type 0 where
    nothing : Else
    last : Block → Else
    chained : If → Else

  pub data Stmts : Type 0 where
    done : Stmts
    next : Stmt → Stmts → Stmts

  -- the case and the variables of each arm, and what it does
  pub data Arms : Type 0 where
    no_arms : Arms
    arm : Name → List Name → Block → Span → Arms → Arms

-- ---- declarations

-- a state in the declaration of its set, and whether a `<` leads to it from the one before it
pub record SetState : Type 0 where
  pub name : Name
  pub above : Bool

pub record HeaderKey : Type 0 where
  pub key : Name
  pub key_type : Option Name

pub record Field : Type 0 where
  pub ty : Ty
  pub name : Name
  pub states : Option States
  pub at : Span

pub record Case : Type 0 where
  pub name : Name
  pub payload : List Ty
  pub keys : List KeyStates
  pub at : Span

pub data Entry : Type 0 where
  held : KeyStates → Entry
  changed : Name → States → States → Entry
  -- a key, held in whatever state up to a bound, and the variable that stands for that state
  bound : (key variable state : Name) → Entry
  taken : KeyStates → Span → Entry
  given : KeyStates → Span → Entry
  fresh : KeyStates → Span → Entry

pub data ResultType : Type 0 where
  void : Span → ResultType
  value : Ty → ResultType

pub record Parameter : Type 0 where
  pub ty : Ty
  pub name : Name

pub record Head : Type 0 where
  pub result_type : ResultType
  pub name : Name
  pub parameters : List Parameter
  pub clause : Option (List Entry)
  pub at : Span

pub data Decl : Type 0 where
  stateset : Name → List SetState → Span → Decl
  abstract : Name → Option Name → Span → Decl
  struct : Name → List HeaderKey → Option Name → List Field → Option States → Span → Decl
  variant : Name → List HeaderKey → List Case → Span → Decl
  extern : Head → Span → Decl
  function : Head → Block → Span → Decl

pub record Tree : Type 0 where
  pub decls : List Decl
