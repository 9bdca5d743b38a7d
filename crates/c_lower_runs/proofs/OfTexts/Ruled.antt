-- C code that breaks no rule of C, and whose numbers can be read.
use Rattle.std.proofs.Common.{◌≡◌, ◌≤◌, ◌⊎◌, ℕ, ℤ, pos, Bool, true, false, ◌&&◌, List, [], ◌∷◌, map, Some, None}
use Rattle.c_syntax.specs.declared.program.CResult.{CResult}
use Rattle.c_syntax.specs.declared.program.CResult.TheVariants as result
use Rattle.c_syntax.specs.declared.program.CVar.{CVar}
use Rattle.c_syntax.specs.declared.program.CCell.{CCell}
use Rattle.c_syntax.specs.declared.program.CCell.TheVariants as cell
use Rattle.c_syntax.specs.C as c
use Rattle.c_syntax.specs.C.{Expr, Arg, Call, Stmt, Stmts}
use Rattle.c_syntax.specs.Unit.{Head}
use Rattle.c_syntax.specs.View.{stmts_made}
use Rattle.c_syntax.specs.Text.{max_number, is_run_byte, is_text_name}
use Rattle.c_syntax.specs.Canonical.{EachIs}
use Rattle.c_syntax.specs.Kinds.{Scope, Wanted, value, numeral, trap_number, name_text, is_one_of, type_of, head_of, base_of, cell_type, prim_wants, prim_gives, param_wanted}
use Rattle.c_lower.specs.Slots.{Numbers}
use Rattle.c_lower_worlds.specs.Operators.Codes.{IsBelow}
use Rattle.c_lower_worlds.specs.Naming.Lists.{Each}
use Rattle.c_syntax.specs.declared.program.CName.{CName}

-- What a body sees: variables with numbers below these are declared.
pub record Place : Type 0 where
  pub scope : Scope
  pub most : Numbers
  pub declared : (v : CVar) → IsBelow most v → is_one_of v scope.declared ≡ true

abbrev pub IsKnown : Place → CVar → Type 0
IsKnown a v = IsBelow a.most v

-- a number that can be written
pub record IsNumeral (z : ℤ) : Type 0 where
  pub number : ℕ
  pub is : z ≡ pos number
  pub small : number ≤ max_number

-- a variable of the type
pub record IsVar (a : Place) (t : CResult) (v : CVar) : Type 0 where
  pub known : IsKnown a v
  pub type : type_of v ≡ t

abbrev pub position_of : CCell → ℕ
position_of (cell.Number p k) = k
position_of (cell.Reference p k) = k

pub record IsCell (a : Place) (t : CResult) (x : CCell) : Type 0 where
  pub base : IsKnown a (base_of x)
  pub type : cell_type x ≡ t
  pub small : position_of x ≤ max_number

-- an expression of the type
abbrev pub IsTyped : Place → CResult → Expr → Type 0
IsTyped a t (c.number z) = (t ≡ result.Number) × IsNumeral z
IsTyped a t (c.variable v) = IsVar a t v
IsTyped a t (c.cell x) = IsCell a t x
IsTyped a t c.null = t ≡ result.Reference
IsTyped a t (c.unary o e) = (t ≡ result.Number) × IsTyped a result.Number e
IsTyped a t (c.binary o x y) = (t ≡ result.Number) × IsTyped a result.Number x × IsTyped a result.Number y

-- an argument that is what is wanted
abbrev pub Suits : Place → Wanted → Arg → Type 0
Suits a (value t) (c.number z) = (t ≡ result.Number) × IsNumeral z
Suits a (value t) (c.variable v) = IsVar a t v
Suits a (value t) c.null = t ≡ result.Reference
Suits a numeral (c.number z) = IsNumeral z
Suits a trap_number (c.number z) = (z ≡ pos 1) ⊎ (z ≡ pos 2)
Suits a name_text (c.text cs) = (is_text_name cs ≡ true) × EachIs is_run_byte cs
Suits a _ _ = ⊥

abbrev pub AllSuit : Place → List Wanted → List Arg → Type 0
AllSuit a [] [] = Unit {0}
AllSuit a (w ∷ ws) (x ∷ xs) = Suits a w x × AllSuit a ws xs
AllSuit a _ _ = ⊥

-- a call of a function whose head is this
pub record IsCallOf (a : Place) (f : CName) (xs : List Arg) : Type 0 where
  pub head : Head
  pub found : head_of f a.scope.heads ≡ Some head
  pub apart : (f.glue && a.scope.name.glue) ≡ false
  pub small : f.number ≤ max_number
  pub suit : AllSuit a (map param_wanted head.params) xs

abbrev pub IsCall : Place → Call → Type 0
IsCall a (c.function f xs) = IsCallOf a f xs
IsCall a (c.primitive p xs) = AllSuit a (prim_wants p) xs

-- what the call gives
abbrev pub GivesType : Place → CResult → Call → Type 0
GivesType a t (c.function f xs) = (h : Head) × (head_of f a.scope.heads ≡ Some h) × (h.result ≡ t)
GivesType a t (c.primitive p xs) = prim_gives p ≡ t

abbrev mutual
  pub IsRuled : Place → (in_loop : Bool) → Stmt → Type 0
  IsRuled a l (c.set v e) = IsKnown a v × IsTyped a (type_of v) e
  IsRuled a l (c.set_call v f) = IsKnown a v × IsCall a f × GivesType a (type_of v) f
  IsRuled a l (c.call f) = IsCall a f
  IsRuled a l (c.put x e) = IsCell a (cell_type x) x × IsTyped a (cell_type x) e
  IsRuled a l (c.when e xs) = IsTyped a result.Number e × AreRuled a l xs
  IsRuled a l (c.choose e xs ys) = IsTyped a result.Number e × AreRuled a l xs × AreRuled a l ys
  IsRuled a l (c.loop xs) = AreRuled a true xs
  IsRuled a l c.break = l ≡ true
  IsRuled a l c.continue = l ≡ true
  IsRuled a l (c.return None) = a.scope.result ≡ result.Nothing
  IsRuled a l (c.return (Some e)) = IsTyped a a.scope.result e

  pub AreRuled : Place → (in_loop : Bool) → Stmts → Type 0
  AreRuled a l c.done = Unit {0}
  AreRuled a l (c.next x xs) = IsRuled a l x × AreRuled a l xs

abbrev pub AllRuled : Place → Bool → List Stmt → Type 0
AllRuled a l = Each (IsRuled a l)

pub made_ruled : (a : Place) (l : Bool) (xs : List Stmt) → AllRuled a l xs → AreRuled a l (stmts_made xs)
made_ruled a l [] h = tt
made_ruled a l (x ∷ xs) h = (h.0, made_ruled a l xs h.1)
