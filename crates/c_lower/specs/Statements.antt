-- The code of statements.
use Rattle.std.specs.Prelude.{ℕ, suc, ◌==◌, pos, Bool, true, false, if◌then◌else◌, max, List, [], ◌∷◌, ◌++◌, map, filter, length, take, Option, Some, None, slice_get}
use Rattle.std.specs.List.{flat_map, zip, enumerate_from}
use Rattle.vlt_core.specs.Core as core
use Rattle.vlt_core.specs.Core.{Ty, variant, owning_variant, FieldDecl, CaseDecl, Func, Program, Simple, Operand}
use Rattle.vlt_core.specs.Lookups.{is_owning, fields_of, var_type, VariantOf, variant_of, case_at}
use Rattle.c_syntax.specs.declared.program.CVar.{CVar}
use Rattle.c_syntax.specs.declared.program.CName.{CName}
use Rattle.c_syntax.specs.declared.program.CCell.{CCell}
use Rattle.c_syntax.specs.declared.program.CPrim.{CPrim}
use Rattle.c_syntax.specs.declared.program.CPrim.TheVariants as prim
use Rattle.c_syntax.specs.View.{stmts_made}
use Rattle.c_syntax.specs.C as c
use Rattle.c_syntax.specs.C.{Stmt, Arg}
use Rattle.c_lower.specs.Slots.{Sort, of_number, of_reference, is_owner_sort, Numbers, past, past_all, var_at, vars_at, slot_vars, slot_of, no_slot, Slot, var_slots, cell_counts, field_cells, sorts_at, object_type, touched_cells, cell_sorts, variant_starts, payload_positions}
use Rattle.c_lower.specs.Guards.{whole, equal, unequal}
use Rattle.c_lower.specs.Expressions.{Atom, number, variable, null, atom_expr, atom_arg, first_atom, value_of, copies, expr_code, operand_code, operand_codes}

-- ---- calls of the runtime

abbrev pub runtime_call : CPrim → List Arg → Stmt
runtime_call f xs = c.call (c.primitive f xs)

abbrev pub runtime_value : CVar → CPrim → List Arg → Stmt
runtime_value v f xs = c.set_call v (c.primitive f xs)

abbrev pub count_arg : ℕ → Arg
count_arg n = c.number (pos n)

abbrev pub puts : List CCell → List Atom → List Stmt
puts cells atoms = map (λ q. c.put q.0 (atom_expr q.1)) (zip cells atoms)

-- ---- code with the temps that it takes

pub record StmtCode : Type 0 where
  pub stmts : List Stmt
  -- the numbers after its temps
  pub most : Numbers

abbrev pub most_of_both : Numbers → Numbers → Numbers
most_of_both a b = record { n = max a.n b.n; p = max a.p b.p }

abbrev pub in_turn : StmtCode → StmtCode → StmtCode
in_turn a b = record { stmts = a.stmts ++ b.stmts; most = most_of_both a.most b.most }

abbrev pub stmt_code : List Stmt → Numbers → StmtCode
stmt_code stmts most = record { stmts = stmts; most = most }

-- the list of a block
abbrev pub body_of : StmtCode → c.Stmts
body_of x = stmts_made x.stmts

-- ---- objects

-- the atoms of a new object's fields, from this position on, go into their cells
abbrev pub field_puts : Program → (type block position : ℕ) → List (List Atom) → List Stmt
field_puts p t b i [] = []
field_puts p t b i (atoms ∷ rest) = puts (field_cells p t i b) atoms ++ field_puts p t b (suc i) rest

abbrev pub owner_atoms_in : List Sort → List Atom → List Atom
owner_atoms_in sorts atoms = map (λ q. q.1) (filter (λ q. is_owner_sort q.0) (zip sorts atoms))

-- those of them that own their objects
abbrev pub owner_atoms : Program → (type position : ℕ) → List (List Atom) → List Atom
owner_atoms p t i [] = []
owner_atoms p t i (atoms ∷ rest) = owner_atoms_in (sorts_at p t i) atoms ++ owner_atoms p t (suc i) rest

abbrev pub make_code : Program → Func → Numbers → (x : ℕ) → List Operand → StmtCode
make_code p f t x os =
    let args = operand_codes p f t os in
    let block = slot_of p f x in
    let type = object_type f x in
    let counts = cell_counts p type in
    stmt_code
    (args.stmts ++ runtime_value block prim.New (count_arg counts.n ∷ count_arg counts.p ∷ [])
    ∷ field_puts p type block.number 0 args.atoms
    ++ map (λ a. runtime_call prim.Own (atom_arg a ∷ c.variable block ∷ [])) (owner_atoms p type 0 args.atoms))
    args.next

-- a value's slots that own their objects
abbrev pub owner_slots : List Slot → List CVar
owner_slots slots = map (λ s. s.var) (filter (λ s. is_owner_sort s.sort) slots)

-- one slot is exchanged for a cell by way of a temp
abbrev pub swap_slot : (block temp : CVar) → CCell → Slot → List Stmt
swap_slot block temp cell s =
    c.set temp (c.cell cell)
    ∷ (if is_owner_sort s.sort then
    runtime_call prim.Disown (c.variable temp ∷ []) ∷ runtime_call prim.Own (c.variable s.var ∷ c.variable block ∷ []) ∷ []
    else [])
    ++ c.put cell (c.variable s.var) ∷ c.set s.var (c.variable temp) ∷ []

abbrev pub swap_slots : (block : CVar) → List CVar → List CCell → List Slot → List Stmt
swap_slots block (temp ∷ temps) (cell ∷ cells) (s ∷ slots) =
    swap_slot block temp cell s ++ swap_slots block temps cells slots
swap_slots block _ _ _ = []

-- a cell's value goes into a slot, and out of the block
abbrev pub open_slots : List CCell → List Slot → List Stmt
open_slots (cell ∷ cells) (s ∷ slots) =
    c.set s.var (c.cell cell)
    ∷ (if is_owner_sort s.sort then runtime_call prim.Disown (c.variable s.var ∷ []) ∷ [] else []) ++ open_slots cells slots
open_slots _ _ = []

-- the positions of the owning fields
abbrev pub owning_positions : List FieldDecl → List ℕ
owning_positions ds = map (λ q. q.0) (filter (λ q. is_owning q.1.ty) (enumerate_from 0 ds))

abbrev pub open_fields : Program → Func → (x : ℕ) → (positions vs : List ℕ) → List Stmt
open_fields p f x (i ∷ is) (v ∷ vs) = open_slots (touched_cells p f x i) (var_slots p f v) ++ open_fields p f x is vs
open_fields p f x _ _ = []

-- ---- variants

abbrev pub is_variant : Option Ty → Bool
is_variant (Some (variant t args)) = true
is_variant (Some (owning_variant t args)) = true
is_variant _ = false

abbrev pub variant_type_in : Option VariantOf → ℕ
variant_type_in None = 0
variant_type_in (Some v) = v.type

abbrev pub variant_type : Func → (v : ℕ) → ℕ
variant_type f v = variant_type_in (variant_of f v)

abbrev pub payload_in : Option CaseDecl → List Ty
payload_in None = []
payload_in (Some d) = d.payload

-- the positions of a case's payloads in the slots of the variant
abbrev pub case_positions : Program → (type case : ℕ) → List ℕ
case_positions p t k = payload_positions (variant_starts p t) (payload_in (case_at p t k))

-- the atom that goes to the position, or what an unused slot has
abbrev pub atom_for : Sort → (position : ℕ) → (positions : List ℕ) → List Atom → Atom
atom_for s i (j ∷ js) (a ∷ rest) = if i == j then a else atom_for s i js rest
atom_for of_number i _ _ = number (pos 0)
atom_for s i _ _ = null

-- the slots after the case's, from this position on
abbrev pub build_slots : (position : ℕ) → (positions : List ℕ) → List Atom → List Slot → List Stmt
build_slots i positions atoms [] = []
build_slots i positions atoms (s ∷ slots) =
    c.set s.var (atom_expr (atom_for s.sort i positions atoms)) ∷ build_slots (suc i) positions atoms slots

abbrev pub after_first : {A : Type 0} → List A → List A
after_first [] = []
after_first (x ∷ xs) = xs

abbrev pub build_code : Program → Func → Numbers → (v case : ℕ) → List Operand → StmtCode
build_code p f t v k os =
    let args = operand_codes p f t os in
    stmt_code
    (args.stmts ++ c.set (slot_of p f v) (whole k)
    ∷ build_slots 1 (case_positions p (variant_type f v) k) (map first_atom args.atoms) (after_first (var_slots p f v)))
    args.next

-- ---- simple statements

abbrev pub simple_code : Program → Func → Numbers → Simple → StmtCode
simple_code p f t (core.set v e) = let x = expr_code p f t e in stmt_code (x.stmts ++ copies (slot_vars p f v) x.atoms) x.next
simple_code p f t (core.input v more) = stmt_code (runtime_value (slot_of p f v) (if more then prim.More else prim.Read) [] ∷ []) t
simple_code p f t (core.print e) =
    let x = expr_code p f t e in stmt_code (x.stmts ++ runtime_call prim.Print (atom_arg (first_atom x.atoms) ∷ []) ∷ []) x.next
simple_code p f t (core.put x i e) = let y = expr_code p f t e in stmt_code (y.stmts ++ puts (touched_cells p f x i) y.atoms) y.next
simple_code p f t (core.make x os) = make_code p f t x os
simple_code p f t (core.become x state) = stmt_code [] t
simple_code p f t (core.release x) = stmt_code (runtime_call prim.Release (c.variable (slot_of p f x) ∷ []) ∷ []) t
simple_code p f t (core.drop v) =
    stmt_code (map (λ s. runtime_call prim.Release (c.variable s ∷ [])) (owner_slots (var_slots p f v))) t
simple_code p f t (core.own v o) =
    let x = operand_code p f t o in stmt_code (x.stmts ++ copies (slot_vars p f v) x.atoms) x.next
simple_code p f t (core.unpack x v) = stmt_code (c.set (slot_of p f x) (c.variable (slot_of p f v)) ∷ []) t
simple_code p f t (core.build v k os) = build_code p f t v k os
simple_code p f t (core.swap x i v) =
    let sorts = cell_sorts p f x i in
    stmt_code (swap_slots (slot_of p f x) (vars_at t sorts) (touched_cells p f x i) (var_slots p f v)) (past_all t sorts)
simple_code p f t (core.open_into x vs) =
    stmt_code
    (open_fields p f x (owning_positions (fields_of p (object_type f x))) vs
    ++ runtime_call prim.Release (c.variable (slot_of p f x) ∷ []) ∷ []) t
simple_code p f t (core.adopt y x r) =
    stmt_code
    (runtime_call prim.Own (c.variable (slot_of p f x) ∷ c.variable (slot_of p f r) ∷ [])
    ∷ c.set (slot_of p f y) (c.variable (slot_of p f x)) ∷ []) t

-- ---- calls and returns

abbrev pub is_external_at : Option Func → Bool
is_external_at None = false
is_external_at (Some g) = g.external

abbrev pub is_alike : Bool → Bool → Bool
is_alike true b = b
is_alike false true = false
is_alike false false = true

-- functions with a body and externals are numbered apart
abbrev pub name_of : Program → (g : ℕ) → CName
name_of p g =
    let glue = is_external_at (slice_get p.fns g) in
    record { glue = glue; number = length (filter (λ f. is_alike glue f.external) (take g p.fns)) }

-- what the slots after the first get of the runtime: those of each kind are numbered from 0
abbrev pub result_gets : CPrim → List CVar → List Stmt
result_gets f vs = map (λ q. runtime_value q.1 f (count_arg q.0 ∷ [])) (enumerate_from 0 vs)

abbrev pub number_vars : List CVar → List CVar
number_vars = filter (λ v. is_alike v.reference false)

abbrev pub reference_vars : List CVar → List CVar
reference_vars = filter (λ v. v.reference)

abbrev pub results : List CVar → List Stmt
results vs = result_gets prim.GetN (number_vars vs) ++ result_gets prim.GetP (reference_vars vs)

abbrev pub call_stmts : Program → Func → c.Call → Option ℕ → List Stmt
call_stmts p f call None = c.call call ∷ []
call_stmts p f call (Some v) =
    c.set_call (slot_of p f v) call
    ∷ (if is_variant (var_type f v) then results (after_first (slot_vars p f v)) else [])

abbrev pub call_code : Program → Func → Numbers → (g : ℕ) → Option ℕ → List Operand → StmtCode
call_code p f t g target os =
    let args = operand_codes p f t os in
    stmt_code (args.stmts ++ call_stmts p f (c.function (name_of p g) (flat_map (map atom_arg) args.atoms)) target) args.next

abbrev pub is_reference_atom : Atom → Bool
is_reference_atom (number z) = false
is_reference_atom (variable v) = v.reference
is_reference_atom null = true

abbrev pub result_puts : CPrim → List Atom → List Stmt
result_puts f atoms = map (λ q. runtime_call f (count_arg q.0 ∷ atom_arg q.1 ∷ [])) (enumerate_from 0 atoms)

-- a variant's slots after the first are handed over by the runtime
abbrev pub rest_puts : List Atom → List Stmt
rest_puts atoms =
    result_puts prim.PutN (filter (λ a. is_alike (is_reference_atom a) false) atoms)
    ++ result_puts prim.PutP (filter is_reference_atom atoms)

abbrev pub return_stmts : Option Ty → List Atom → List Stmt
return_stmts ty atoms =
    (if is_variant ty then rest_puts (after_first atoms) else [])
    ++ c.return (Some (atom_expr (first_atom atoms))) ∷ []

abbrev pub return_code : Program → Func → Numbers → Option Operand → StmtCode
return_code p f t None = stmt_code (c.return None ∷ []) t
return_code p f t (Some o) =
    let x = operand_code p f t o in stmt_code (x.stmts ++ return_stmts f.result x.atoms) x.next

-- ---- all statements

abbrev pub arm_copies : Program → Func → (v : ℕ) → (positions vs : List ℕ) → List Stmt
arm_copies p f v (i ∷ is) (w ∷ ws) =
    c.set (slot_of p f w) (c.variable (slot_at (slice_get (slot_vars p f v) i))) ∷ arm_copies p f v is ws
  where
    slot_at : Option CVar → CVar
    slot_at None = no_slot
    slot_at (Some s) = s
arm_copies p f v _ _ = []

abbrev mutual
  -- Nested lists take their temps from where the statement does, but after those that a switch or a focus needs.
  pub form_code : Program → Func → Numbers → core.Form → StmtCode
  form_code p f t (core.simple s) = simple_code p f t s
  form_code p f t (core.call g target keys os) = call_code p f t g target os
  form_code p f t (core.choose e a b) =
      let x = expr_code p f t e in
      let yes = block_code p f t a in
      let no = block_code p f t b in
      stmt_code (x.stmts ++ c.choose (unequal (value_of x) (whole 0)) (body_of yes) (body_of no) ∷ [])
      (most_of_both x.next (most_of_both yes.most no.most))
  form_code p f t (core.loop e b) =
      let x = expr_code p f t e in
      let body = block_code p f t b in
      stmt_code
      (c.loop (stmts_made
      (x.stmts ++ c.when (equal (value_of x) (whole 0)) (c.next c.break c.done) ∷ body.stmts)) ∷ [])
      (most_of_both x.next body.most)
  form_code p f t (core.switch v arms end) =
      let case = var_at t of_number in
      let rest = arms_code p f (past t of_number) v case arms in
      stmt_code (c.set case (c.variable (slot_of p f v)) ∷ rest.stmts) rest.most
  form_code p f t (core.focus y z b) =
      let object = var_at t of_reference in
      let adopter = var_at (past t of_reference) of_reference in
      let body = block_code p f (past (past t of_reference) of_reference) b in
      stmt_code
      (c.set object (c.variable (slot_of p f y)) ∷ runtime_value adopter prim.Parent (c.variable object ∷ [])
      ∷ runtime_call prim.Disown (c.variable object ∷ []) ∷ c.set (slot_of p f z) (c.variable object)
      ∷ body.stmts ++ runtime_call prim.Own (c.variable object ∷ c.variable adopter ∷ []) ∷ [])
      body.most
  form_code p f t (core.scope b) = block_code p f t b
  form_code p f t (core.return o) = return_code p f t o
  form_code p f t (core.jump continues) = stmt_code ((if continues then c.continue else c.break) ∷ []) t

  pub block_code : Program → Func → Numbers → core.Block → StmtCode
  block_code p f t (core.block stmts bound end) = list_code p f t stmts

  -- each statement's temps are those of the list
  pub list_code : Program → Func → Numbers → core.Stmts → StmtCode
  list_code p f t core.done = stmt_code [] t
  list_code p f t (core.next at form rest) = in_turn (form_code p f t form) (list_code p f t rest)

  pub arms_code : Program → Func → Numbers → (v : ℕ) → (case : CVar) → core.Arms → StmtCode
  arms_code p f t v case core.no_arms = stmt_code [] t
  arms_code p f t v case (core.arm k vs b arms) =
      let body = block_code p f t b in
      in_turn
      (stmt_code
      (c.when (equal (c.variable case) (whole k))
      (stmts_made (arm_copies p f v (case_positions p (variant_type f v) k) vs ++ body.stmts)) ∷ [])
      body.most)
      (arms_code p f t v case arms)
