-- A tool of the proof: programs whose numbers are as wide as those of the code: 32 bits, 8 for cases and states, sets of states below 32.
use Rattle.std.specs.Prelude.{◌≤◌, ℕ, Option, IfSome}
use Rattle.vlt_core.specs.Core as core
use Rattle.vlt_core.specs.Core.{Expr, Operand, pure, move, pack, Simple, Form, Block, Stmts, Arms, Entry, CaseDecl, TypeDecl, Func, Program}
use Rattle.cert_rows.specs.Parts.{All}
use Rattle.cert_rows.specs.Values.{mask, token, FitsTy, field, case_key, key_decl, var_decl}
use Rattle.cert_rows.specs.Rows.{FitsResult}
use Rattle.cert_format.specs.Bodies.{length_of}

abbrev pub IsId : ℕ → Type 0
IsId n = n ≤ 4294967295

abbrev pub IsMaybeId : Option ℕ → Type 0
IsMaybeId o = IfSome o IsId

-- ---- bodies

abbrev pub IsNarrowExpr : Expr → Type 0
IsNarrowExpr (core.number z) = Unit {0}
IsNarrowExpr (core.truth b) = Unit {0}
IsNarrowExpr (core.var v) = IsId v
IsNarrowExpr (core.field x i) = IsId x × IsId i
IsNarrowExpr (core.unary o a) = IsNarrowExpr a
IsNarrowExpr (core.binary o a b) = IsNarrowExpr a × IsNarrowExpr b

abbrev pub IsNarrowOperand : Operand → Type 0
IsNarrowOperand (pure e) = IsNarrowExpr e
IsNarrowOperand (move v) = IsId v
IsNarrowOperand (pack x s) = IsId x × mask.Fits s

abbrev pub IsNarrowSimple : Simple → Type 0
IsNarrowSimple (core.set v e) = IsId v × IsNarrowExpr e
IsNarrowSimple (core.input v more) = IsId v
IsNarrowSimple (core.print e) = IsNarrowExpr e
IsNarrowSimple (core.put x i e) = IsId x × IsId i × IsNarrowExpr e
IsNarrowSimple (core.make x os) = IsId x × All IsNarrowOperand os
IsNarrowSimple (core.become x state) = IsId x × (state ≤ 255)
IsNarrowSimple (core.release x) = IsId x
IsNarrowSimple (core.drop v) = IsId v
IsNarrowSimple (core.own v o) = IsId v × IsNarrowOperand o
IsNarrowSimple (core.unpack x v) = IsId x × IsId v
IsNarrowSimple (core.build v c os) = IsId v × (c ≤ 255) × All IsNarrowOperand os
IsNarrowSimple (core.swap x i v) = IsId x × IsId i × IsId v
IsNarrowSimple (core.open_into x vs) = IsId x × All IsId vs
IsNarrowSimple (core.adopt y x r) = IsId y × IsId x × IsId r

abbrev pub IsNarrowReturn : Option Operand → Type 0
IsNarrowReturn o = IfSome o IsNarrowOperand

abbrev mutual
  pub IsNarrow : Form → Type 0
  IsNarrow (core.simple s) = IsNarrowSimple s
  IsNarrow (core.call g target keys os) = IsId g × IsMaybeId target × All IsId keys × All IsNarrowOperand os
  IsNarrow (core.choose e a b) = IsNarrowExpr e × IsNarrowBlock a × IsNarrowBlock b
  IsNarrow (core.loop e b) = IsNarrowExpr e × IsNarrowBlock b
  IsNarrow (core.switch v arms end) = IsId v × AreNarrowArms arms
  IsNarrow (core.focus y z b) = IsId y × IsId z × IsNarrowBlock b
  IsNarrow (core.scope b) = IsNarrowBlock b
  IsNarrow (core.return o) = IsNarrowReturn o
  IsNarrow (core.jump c) = Unit {0}

  -- the number of statements has 32 bits too
  pub IsNarrowBlock : Block → Type 0
  IsNarrowBlock (core.block ss bound end) = IsId (length_of ss) × All token.Fits bound × AreNarrow ss

  pub AreNarrow : Stmts → Type 0
  AreNarrow core.done = Unit {0}
  AreNarrow (core.next at s rest) = IsNarrow s × AreNarrow rest

  pub AreNarrowArms : Arms → Type 0
  AreNarrowArms core.no_arms = Unit {0}
  AreNarrowArms (core.arm c vs b rest) = (c ≤ 255) × All IsId vs × IsNarrowBlock b × AreNarrowArms rest

-- ---- declarations

abbrev pub IsNarrowCase : CaseDecl → Type 0
IsNarrowCase c = All FitsTy c.payload × All case_key.Fits c.keys

abbrev pub IsNarrowType : TypeDecl → Type 0
IsNarrowType (core.an_abstract name set) = IsMaybeId set
IsNarrowType (core.a_struct d) = All IsMaybeId d.header × IsMaybeId d.set × mask.Fits d.release × All field.Fits d.fields
IsNarrowType (core.a_variant d) = All IsMaybeId d.header × All IsNarrowCase d.cases

abbrev pub IsNarrowEntry : Entry → Type 0
IsNarrowEntry e = IsId e.key × IfSome e.before mask.Fits × IfSome e.after mask.Fits

pub record IsNarrowFunc (f : Func) : Type 0 where
  pub result : FitsResult f.result
  pub clause : All IsNarrowEntry f.clause
  pub keys : All key_decl.Fits f.keys
  pub vars : All var_decl.Fits f.vars
  pub statements : IsId (length_of f.body)
  pub body : AreNarrow f.body

pub record IsNarrowProgram (p : Program) : Type 0 where
  pub types : All IsNarrowType p.types
  pub fns : All IsNarrowFunc p.fns
