-- Each set of states of a program of the code is a mask.
use Rattle.std.proofs.Common.{◌≡◌, List, [], ◌∷◌, Option, Some, None, IfSome, map, sym, subst}
use Rattle.std.specs.Option.{option_map}
use Rattle.vlt_base.specs.declared.states.StateSet.{StateSet}
use Rattle.vlt_core.specs.Core as s
use Rattle.vlt_core.specs.declared.program.Operand.{Operand}
use Rattle.vlt_core.specs.declared.program.Operand.TheVariants as operand
use Rattle.vlt_core.specs.declared.program.Form.TheOpen.{Form-F, Arm-F, Block-F, Stmt-F}
use Rattle.vlt_core.specs.declared.program.Form.{Form, map-Form, roll-Form}
use Rattle.vlt_core.specs.declared.program.Arm.{Arm, map-Arm, roll-Arm}
use Rattle.vlt_core.specs.declared.program.Block.{Block, map-Block, roll-Block}
use Rattle.vlt_core.specs.declared.program.Stmt.{Stmt, map-Stmt, roll-Stmt}
use Rattle.vlt_core.specs.declared.program.CaseDecl.{CaseDecl}
use Rattle.vlt_core.specs.declared.program.TypeDecl.{TypeDecl}
use Rattle.vlt_core.specs.declared.program.TypeDecl.TheVariants as decl
use Rattle.vlt_core.specs.declared.program.Ty.{Ty}
use Rattle.vlt_core.specs.declared.program.Ty.TheVariants as ty
use Rattle.vlt_core.specs.declared.program.Func.{Func}
use Rattle.vlt_core.specs.declared.program.Program.{Program as CodeProgram}
use Rattle.vlt_core.specs.declared.program.Form.TheFolds.{ind-Stmt, fold-roll-Form, fold-roll-Arm, fold-roll-Block, fold-roll-Stmt}
use Rattle.vlt_core.specs.View.{ty_of, field_of, case_key_of, case_of, type_of, states_of, entry_of, var_of, func_of, program_of, operand_of, ArmView, StmtView, stmt_of, form_of, arm_of, block_of, stmts_of, stmts_made, arms_made, form_step, arm_step, block_step, stmt_step}
use Rattle.cert_rows.specs.Parts.{All}
use Rattle.cert_rows.specs.Values.{mask}
use Rattle.cert_fit_laws.proofs.Masks.{mask_fits}
use Rattle.cert_fit_laws.proofs.Masked.{IsMaskedTy, IsMaskedOperand, IsMasked, IsMaskedBlock, AreMasked, AreMaskedArms, IsMaskedField, IsMaskedKey, IsMaskedCase, IsMaskedType, IsMaskedEntry, IsMaskedFunc, IsMaskedProgram}

abbrev PF : Form → Type 0
PF x = IsMasked (form_of x)

abbrev PA : Arm → Type 0
PA x = IsMaskedBlock (arm_of x).2

abbrev PB : Block → Type 0
PB x = IsMaskedBlock (block_of x)

abbrev PS : Stmt → Type 0
PS x = IsMasked (stmt_of x).1

-- with a proof beside each part
abbrev SF : Type 0
SF = (x : Form) × PF x

abbrev SA : Type 0
SA = (x : Arm) × PA x

abbrev SB : Type 0
SB = (x : Block) × PB x

abbrev ST : Type 0
ST = (x : Stmt) × PS x

operand_masked : (o : Operand) → IsMaskedOperand (operand_of o)
operand_masked (operand.Pure e) = tt
operand_masked (operand.Move v) = tt
operand_masked (operand.Pack x states) = mask_fits states

operands_masked : (os : List Operand) → All IsMaskedOperand (map operand_of os)
operands_masked [] = tt
operands_masked (o ∷ os) = (operand_masked o, operands_masked os)

maybe_masked : (o : Option Operand) → IfSome (option_map operand_of o) IsMaskedOperand
maybe_masked None = tt
maybe_masked (Some o) = operand_masked o

arms_masked : (xs : List SA) → AreMaskedArms (arms_made (map arm_of (map (λ e. e.0) xs)))
arms_masked [] = tt
arms_masked (x ∷ xs) = (x.1, arms_masked xs)

list_masked : (xs : List ST) → AreMasked (stmts_made (map stmt_of (map (λ e. e.0) xs)))
list_masked [] = tt
list_masked (x ∷ xs) = (x.1, list_masked xs)

abbrev first_form : Form-F SF SA SB ST → Form-F Form Arm Block Stmt
first_form = map-Form SF SA SB ST Form Arm Block Stmt (λ e. e.0) (λ e. e.0) (λ e. e.0) (λ e. e.0)

abbrev first_arm : Arm-F SF SA SB ST → Arm-F Form Arm Block Stmt
first_arm = map-Arm SF SA SB ST Form Arm Block Stmt (λ e. e.0) (λ e. e.0) (λ e. e.0) (λ e. e.0)

abbrev first_block : Block-F SF SA SB ST → Block-F Form Arm Block Stmt
first_block = map-Block SF SA SB ST Form Arm Block Stmt (λ e. e.0) (λ e. e.0) (λ e. e.0) (λ e. e.0)

abbrev first_stmt : Stmt-F SF SA SB ST → Stmt-F Form Arm Block Stmt
first_stmt = map-Stmt SF SA SB ST Form Arm Block Stmt (λ e. e.0) (λ e. e.0) (λ e. e.0) (λ e. e.0)

form_masked : (y : Form-F SF SA SB ST) → IsMasked (form_step (map-Form Form Arm Block Stmt s.Form ArmView s.Block StmtView form_of arm_of block_of stmt_of (first_form y)))
form_masked (Form-F.Set v e) = tt
form_masked (Form-F.Input v more) = tt
form_masked (Form-F.Print e) = tt
form_masked (Form-F.Put x i e) = tt
form_masked (Form-F.New x args) = operands_masked args
form_masked (Form-F.Become x state) = tt
form_masked (Form-F.Release x) = tt
form_masked (Form-F.Drop v) = tt
form_masked (Form-F.Own v value) = operand_masked value
form_masked (Form-F.Unpack x v) = tt
form_masked (Form-F.Build v case args) = operands_masked args
form_masked (Form-F.Call f target keys args) = operands_masked args
form_masked (Form-F.Swap x i v) = tt
form_masked (Form-F.Open x vs) = tt
form_masked (Form-F.Adopt y x r) = tt
form_masked (Form-F.If e a b) = (a.1, b.1)
form_masked (Form-F.While e b) = b.1
form_masked (Form-F.Switch v arms end) = arms_masked arms
form_masked (Form-F.Focus y z b) = b.1
form_masked (Form-F.Scope b) = b.1
form_masked (Form-F.Return value) = maybe_masked value
form_masked (Form-F.Jump continues) = tt

form_case : (x : Form-F Form Arm Block Stmt) (y : Form-F SF SA SB ST) → first_form y ≡ x → PF (roll-Form x)
form_case x y is = subst (λ z. PF (roll-Form z)) is (subst IsMasked (sym (fold-roll-Form s.Form ArmView s.Block StmtView form_step arm_step block_step stmt_step (first_form y))) (form_masked y))

arm_case : (x : Arm-F Form Arm Block Stmt) (y : Arm-F SF SA SB ST) → first_arm y ≡ x → PA (roll-Arm x)
arm_case x y is = subst (λ z. PA (roll-Arm z)) is (subst (λ (z : ArmView). IsMaskedBlock z.2) (sym (fold-roll-Arm s.Form ArmView s.Block StmtView form_step arm_step block_step stmt_step (first_arm y))) y.body.1)

block_case : (x : Block-F Form Arm Block Stmt) (y : Block-F SF SA SB ST) → first_block y ≡ x → PB (roll-Block x)
block_case x y is = subst (λ z. PB (roll-Block z)) is (subst IsMaskedBlock (sym (fold-roll-Block s.Form ArmView s.Block StmtView form_step arm_step block_step stmt_step (first_block y))) (list_masked y.stmts))

stmt_case : (x : Stmt-F Form Arm Block Stmt) (y : Stmt-F SF SA SB ST) → first_stmt y ≡ x → PS (roll-Stmt x)
stmt_case x y is = subst (λ z. PS (roll-Stmt z)) is (subst (λ (z : StmtView). IsMasked z.1) (sym (fold-roll-Stmt s.Form ArmView s.Block StmtView form_step arm_step block_step stmt_step (first_stmt y))) y.form.1)

stmt_masked : (x : Stmt) → PS x
stmt_masked = ind-Stmt PF PA PB PS form_case arm_case block_case stmt_case

stmts_masked : (xs : List Stmt) → AreMasked (stmts_of xs)
stmts_masked [] = tt
stmts_masked (x ∷ xs) = (stmt_masked x, stmts_masked xs)

-- ---- declarations

all_mapped : {A B : Type 0} (P : B → Type 0) (g : A → B) (each : (x : A) → P (g x)) (xs : List A) → All P (map g xs)
all_mapped P g each [] = tt
all_mapped P g each (x ∷ xs) = (each x, all_mapped P g each xs)

ty_masked : (t : Ty) → IsMaskedTy (ty_of t)
ty_masked ty.Int = tt
ty_masked ty.Bool = tt
ty_masked (ty.Key k t args) = tt
ty_masked (ty.Own states t args) = mask_fits states
ty_masked (ty.Guard k t args) = tt
ty_masked (ty.Var t args) = tt
ty_masked (ty.OwnVar t args) = tt

case_masked : (c : CaseDecl) → IsMaskedCase (case_of c)
case_masked c = (all_mapped IsMaskedTy ty_of ty_masked c.payload, all_mapped IsMaskedKey case_key_of (λ k. mask_fits k.1) c.keys)

type_masked : (d : TypeDecl) → IsMaskedType (type_of d)
type_masked (decl.Abstract name set) = tt
type_masked (decl.Struct name header set release fields) = (mask_fits release, all_mapped IsMaskedField field_of (λ d. (ty_masked d.ty, mask_fits d.states)) fields)
type_masked (decl.Variant name header cases) = all_mapped IsMaskedCase case_of case_masked cases

side_masked : (o : Option StateSet) → IfSome (states_of o) mask.Fits
side_masked None = tt
side_masked (Some states) = mask_fits states

result_masked : (o : Option Ty) → IfSome (option_map ty_of o) IsMaskedTy
result_masked None = tt
result_masked (Some t) = ty_masked t

func_masked : (f : Func) → IsMaskedFunc (func_of f)
func_masked f = record {
  result = result_masked f.result;
  clause = all_mapped IsMaskedEntry entry_of (λ e. (side_masked e.before, side_masked e.after)) f.clause;
  vars = all_mapped (λ (d : s.VarDecl). IsMaskedTy d.ty) var_of (λ d. ty_masked d.ty) f.vars;
  body = stmts_masked f.body;
}

pub code_masked : (c : CodeProgram) → IsMaskedProgram (program_of c)
code_masked c = record {
  types = all_mapped IsMaskedType type_of type_masked c.types;
  fns = all_mapped IsMaskedFunc func_of func_masked c.fns;
}
