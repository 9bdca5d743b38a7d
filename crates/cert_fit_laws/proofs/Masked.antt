-- A tool of the proof: programs whose sets of states are masks.
use Rattle.std.specs.Prelude.{IfSome}
use Rattle.vlt_core.specs.Core as core
use Rattle.vlt_core.specs.Core.{Ty, owning, FieldDecl, CaseKey, CaseDecl, TypeDecl, Operand, pack, Simple, Form, Block, Stmts, Arms, Entry, VarDecl, Func, Program}
use Rattle.cert_rows.specs.Parts.{All}
use Rattle.cert_rows.specs.Values.{mask}

abbrev pub IsMaskedTy : Ty → Type 0
IsMaskedTy (owning s t args) = mask.Fits s
IsMaskedTy ty = Unit {0}

abbrev pub IsMaskedOperand : Operand → Type 0
IsMaskedOperand (pack x s) = mask.Fits s
IsMaskedOperand o = Unit {0}

abbrev pub IsMaskedSimple : Simple → Type 0
IsMaskedSimple (core.make x os) = All IsMaskedOperand os
IsMaskedSimple (core.own v o) = IsMaskedOperand o
IsMaskedSimple (core.build v c os) = All IsMaskedOperand os
IsMaskedSimple s = Unit {0}

abbrev mutual
  pub IsMasked : Form → Type 0
  IsMasked (core.simple s) = IsMaskedSimple s
  IsMasked (core.call g target keys os) = All IsMaskedOperand os
  IsMasked (core.choose e a b) = IsMaskedBlock a × IsMaskedBlock b
  IsMasked (core.loop e b) = IsMaskedBlock b
  IsMasked (core.switch v arms end) = AreMaskedArms arms
  IsMasked (core.focus y z b) = IsMaskedBlock b
  IsMasked (core.scope b) = IsMaskedBlock b
  IsMasked (core.return o) = IfSome o IsMaskedOperand
  IsMasked (core.jump c) = Unit {0}

  pub IsMaskedBlock : Block → Type 0
  IsMaskedBlock (core.block ss bound end) = AreMasked ss

  pub AreMasked : Stmts → Type 0
  AreMasked core.done = Unit {0}
  AreMasked (core.next at s rest) = IsMasked s × AreMasked rest

  pub AreMaskedArms : Arms → Type 0
  AreMaskedArms core.no_arms = Unit {0}
  AreMaskedArms (core.arm c vs b rest) = IsMaskedBlock b × AreMaskedArms rest

abbrev pub IsMaskedField : FieldDecl → Type 0
IsMaskedField d = IsMaskedTy d.ty × mask.Fits d.states

abbrev pub IsMaskedKey : CaseKey → Type 0
IsMaskedKey k = mask.Fits k.states

abbrev pub IsMaskedCase : CaseDecl → Type 0
IsMaskedCase c = All IsMaskedTy c.payload × All IsMaskedKey c.keys

abbrev pub IsMaskedType : TypeDecl → Type 0
IsMaskedType (core.an_abstract name set) = Unit {0}
IsMaskedType (core.a_struct d) = mask.Fits d.release × All IsMaskedField d.fields
IsMaskedType (core.a_variant d) = All IsMaskedCase d.cases

abbrev pub IsMaskedEntry : Entry → Type 0
IsMaskedEntry e = IfSome e.before mask.Fits × IfSome e.after mask.Fits

pub record IsMaskedFunc (f : Func) : Type 0 where
  pub result : IfSome f.result IsMaskedTy
  pub clause : All IsMaskedEntry f.clause
  pub vars : All (λ (d : VarDecl). IsMaskedTy d.ty) f.vars
  pub body : AreMasked f.body

pub record IsMaskedProgram (p : Program) : Type 0 where
  pub types : All IsMaskedType p.types
  pub fns : All IsMaskedFunc p.fns
