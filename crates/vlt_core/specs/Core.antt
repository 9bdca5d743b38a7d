-- A core program, as plain data. Sets, types, fields, functions, keys and variables go by their positions, from 0.
use Rattle.std.specs.Prelude.{ℕ, ℤ, Bool, List, Option}
use Rattle.vlt_ops.specs.declared.Op.{Op}

-- a name, as its bytes
abbrev pub Name : Type 0
Name = List ℕ

-- a set of states, by a test for each number
abbrev pub States : Type 0
States = ℕ → Bool

-- The type of a field, a payload, a result or a variable. The list of keys says what stands for the keys of the declared
-- type's header.
pub data Ty : Type 0 where
  int : Ty
  bool : Ty
  -- a reference to an object that is touched only while its key is held
  tracked : (key type : ℕ) → (args : List ℕ) → Ty
  -- a value that owns an object in one of these states
  owning : (states : States) → (type : ℕ) → (args : List ℕ) → Ty
  -- a reference to an object that the key's object adopted
  guarded : (key type : ℕ) → (args : List ℕ) → Ty
  -- a variant that is copied, and one that owns objects
  variant : (type : ℕ) → (args : List ℕ) → Ty
  owning_variant : (type : ℕ) → (args : List ℕ) → Ty

-- a state that stands right below another one of its set
pub record Link : Type 0 where
  pub lower : ℕ
  pub upper : ℕ

pub record SetDecl : Type 0 where
  pub name : Name
  pub states : List Name
  -- none for a set without order
  pub links : List Link

pub record FieldDecl : Type 0 where
  pub name : Name
  pub ty : Ty
  -- the states in which the field may be touched
  pub states : States

-- a key that a case lists: its position in the header, and the states of its object
pub record CaseKey : Type 0 where
  pub position : ℕ
  pub states : States

pub record CaseDecl : Type 0 where
  pub name : Name
  pub payload : List Ty
  pub keys : List CaseKey

-- for each key of a declared type the type of the key's object, where one is given
abbrev pub Header : Type 0
Header = List (Option ℕ)

pub record StructDecl : Type 0 where
  pub name : Name
  pub header : Header
  pub set : Option ℕ
  -- the states in which an object of it may be released
  pub release : States
  pub fields : List FieldDecl

pub record VariantDecl : Type 0 where
  pub name : Name
  pub header : Header
  pub cases : List CaseDecl

pub data TypeDecl : Type 0 where
  an_abstract : (name : Name) → (set : Option ℕ) → TypeDecl
  a_struct : StructDecl → TypeDecl
  a_variant : VariantDecl → TypeDecl

pub data Expr : Type 0 where
  number : ℤ → Expr
  truth : Bool → Expr
  var : (v : ℕ) → Expr
  -- a field of the object of a tracked or guarded variable
  field : (x position : ℕ) → Expr
  unary : Op → Expr → Expr
  binary : Op → Expr → Expr → Expr

-- What is handed over: an expression's value, an owning variable's, or a tracked variable's object in one of these states.
pub data Operand : Type 0 where
  pure : Expr → Operand
  move : (v : ℕ) → Operand
  pack : (x : ℕ) → States → Operand

-- What a path may hold: a key, or the value of an owning variable.
pub data Tok : Type 0 where
  a_key : ℕ → Tok
  a_var : ℕ → Tok

-- The statements without blocks that call nothing and go on to the next one. By convention x, y, z and r are references,
-- v is any variable.
pub data Simple : Type 0 where
  -- v = e
  set : (v : ℕ) → Expr → Simple
  -- v = input(), or v = more()
  input : (v : ℕ) → (more : Bool) → Simple
  print : Expr → Simple
  -- x.f = e
  put : (x position : ℕ) → Expr → Simple
  -- x = new T { .. }
  make : (x : ℕ) → List Operand → Simple
  become : (x state : ℕ) → Simple
  -- release x, for a reference
  release : (x : ℕ) → Simple
  -- release v, for an owning variable
  drop : (v : ℕ) → Simple
  -- an owning variable is filled
  own : (v : ℕ) → Operand → Simple
  -- an owning variable's object goes under the key of x
  unpack : (x v : ℕ) → Simple
  -- v = 'Case(..)
  build : (v case : ℕ) → List Operand → Simple
  swap : (x position v : ℕ) → Simple
  open_into : (x : ℕ) → (vs : List ℕ) → Simple
  -- y = adopt x into r
  adopt : (y x r : ℕ) → Simple

-- All statements. Blocks, lists of statements and arms contain each other.
mutual
  pub data Form : Type 0 where
    simple : Simple → Form
    -- for each key of the callee's head the key that stands for it
    call : (f : ℕ) → (target : Option ℕ) → (keys : List ℕ) → List Operand → Form
    -- if, and while
    choose : Expr → Block → Block → Form
    loop : Expr → Block → Form
    switch : (v : ℕ) → Arms → (end : ℕ) → Form
    focus : (y z : ℕ) → Block → Form
    scope : Block → Form
    return : Option Operand → Form
    -- continue, or break
    jump : (continues : Bool) → Form

  -- statements, the tokens that they bind, and the place of the closing brace
  pub data Block : Type 0 where
    block : Stmts → List Tok → (end : ℕ) → Block

  pub data Stmts : Type 0 where
    done : Stmts
    next : (at : ℕ) → Form → Stmts → Stmts

  -- each with the variables that take its payloads
  pub data Arms : Type 0 where
    no_arms : Arms
    arm : (case : ℕ) → (vs : List ℕ) → Block → Arms → Arms

-- Where the key of an entry is held: before and after, before alone, after alone, or after, for a new object; or before, in
-- any state up to this one, and after, in the state that it had.
pub data Mode : Type 0 where
  kept : Mode
  taken : Mode
  given : Mode
  fresh : Mode
  up_to : (state : ℕ) → Mode

-- a key of a clause; a side has no states where the key is absent on it, where the entry names none, and where it is bound
pub record Entry : Type 0 where
  pub mode : Mode
  pub key : ℕ
  pub before : Option States
  pub after : Option States

pub record KeyDecl : Type 0 where
  -- empty for a hidden key
  pub name : Name
  -- the type of the key's object, where one is given
  pub key_type : Option ℕ

pub record VarDecl : Type 0 where
  -- empty for a hidden variable
  pub name : Name
  pub ty : Ty

pub record Func : Type 0 where
  pub name : Name
  pub external : Bool
  pub result : Option Ty
  -- so many of the first variables are the parameters
  pub params : ℕ
  pub clause : List Entry
  pub keys : List KeyDecl
  pub vars : List VarDecl
  pub body : Stmts
  pub end : ℕ

pub record Program : Type 0 where
  pub sets : List SetDecl
  pub types : List TypeDecl
  pub fns : List Func
  -- the function that a run begins with
  pub main : ℕ
