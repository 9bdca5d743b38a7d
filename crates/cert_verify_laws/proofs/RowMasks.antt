-- Each set of states in a program that has a certificate is a mask.
use Rattle.std.proofs.Common.{◌≡◌, ◌≤◌, ◌==◌, not, ℕ, ◌+◌, Bool, true, false, if◌then◌else◌, List, [], ◌∷◌, map, Option, Some, None, IfSome, slice_get, refl, ap}
use Rattle.std.specs.List.{flat_map}
use Rattle.std.proofs.lemmas.Option.{none-some, same_Some}
use Rattle.vlt_base.specs.States.{is_bit}
use Rattle.vlt_core.specs.Core as core
use Rattle.vlt_core.specs.Core.{States, Ty, FieldDecl, CaseKey, CaseDecl, TypeDecl, Operand, Simple, Form, Block, Stmts, Arms, Mode, Entry, VarDecl, Func, Program}
use Rattle.cert_rows.specs.Parts.{All}
use Rattle.cert_rows.specs.Values.{Shape, mask_of, mask, side_states, FitsTy, field, case_key, var_decl, entry}
use Rattle.cert_rows.specs.Expressions.{FitsOperand}
use Rattle.cert_rows.specs.Rows.{FitsRow, FitsResult, return_stmt}
use Rattle.cert_rows.specs.Rows as row
use Rattle.cert_format.specs.Drafts.{draft_rows, block_rows, list_rows, arms_rows}
use Rattle.cert_format.specs.Notes.{MapNotes, Note, maps_of}
use Rattle.cert_format.specs.Bodies.{count, count_block, draft_of, block_draft, list_draft, arms_draft}
use Rattle.cert_format.specs.Certificate.{shape, fn_shape, type_rows, fn_row, FitsCertificate}
use Rattle.cert_format_laws.proofs.Decoding.{all_left, all_right}
use Rattle.cert_fit_laws.proofs.Listed.{all_from, mapped, spread, noted}
use Rattle.cert_fit_laws.proofs.Masked.{IsMaskedTy, IsMaskedOperand, IsMaskedSimple, IsMasked, IsMaskedBlock, AreMasked, AreMaskedArms, IsMaskedField, IsMaskedKey, IsMaskedCase, IsMaskedType, IsMaskedEntry, IsMaskedFunc, IsMaskedProgram}

-- what is so of each part that fits is so of all
each_fits : {A : Type 0} (F P : A → Type 0) → ((x : A) → F x → P x) → (xs : List A) → All F xs → All P xs
each_fits F P one [] fit = tt
each_fits F P one (x ∷ xs) fit = (one x fit.0, each_fits F P one xs fit.1)

-- ---- types

ty_masked : (ty : Ty) → FitsTy ty → IsMaskedTy ty
ty_masked core.int h = tt
ty_masked core.bool h = tt
ty_masked (core.tracked k t args) h = tt
ty_masked (core.owning s t args) h = h.0
ty_masked (core.guarded k t args) h = tt
ty_masked (core.variant t args) h = tt
ty_masked (core.owning_variant t args) h = tt

result_masked : (o : Option Ty) → FitsResult o → IfSome o IsMaskedTy
result_masked None h = tt
result_masked (Some ty) h = ty_masked ty h

field_masked : (d : FieldDecl) → field.Fits d → IsMaskedField d
field_masked d h = (ty_masked d.ty h.0.1, h.0.2)

key_masked : (k : CaseKey) → case_key.Fits k → IsMaskedKey k
key_masked k h = h.0.1

case_masked : (w : Shape) (c : CaseDecl) → FitsRow w (row.case_of c) → IsMaskedCase c
case_masked w c h = (each_fits FitsTy IsMaskedTy ty_masked c.payload h.1.0, each_fits case_key.Fits IsMaskedKey key_masked c.keys h.2)

type_masked : (w : Shape) (d : TypeDecl) → All (FitsRow w) (type_rows d) → IsMaskedType d
type_masked w (core.an_abstract name set) h = tt
type_masked w (core.a_struct d) h = (h.0.3, each_fits field.Fits IsMaskedField field_masked d.fields h.0.4.0)
type_masked w (core.a_variant d) h = all_from IsMaskedCase d.cases (λ i c at. case_masked w c (mapped (FitsRow w) row.case_of d.cases i c h.1 at))

-- ---- entries

-- a side that is read as the states that it was written for
said : (s : States) → mask_of s ≤ 4294967295 → side_states (Some (mask_of s)) ≡ Some s → mask.Fits s
said s few e = by (mask_of s == 0) refl e
  where
    by : (b : Bool) → (mask_of s == 0) ≡ b → (if b then None else Some (is_bit (mask_of s))) ≡ Some s → mask.Fits s
    by true is e = absurd (none-some s e)
    by false is e = ((few, ap not is), same_Some (is_bit (mask_of s)) s e)

module _ (o : Bool) where
  before_masked : (m : Mode) (k : ℕ) (before after : Option States) → (entry o).Fits (record { mode = m; key = k; before = before; after = after }) → IfSome before mask.Fits
  before_masked m k None after h = tt
  before_masked core.kept k (Some s) after h = said s h.0.0.2.0 (ap (λ (e : Entry). e.before) h.1)
  before_masked core.taken k (Some s) after h = said s h.0.0.2.0 (ap (λ (e : Entry). e.before) h.1)
  before_masked core.given k (Some s) after h = absurd (none-some s (ap (λ (e : Entry). e.before) h.1))
  before_masked core.fresh k (Some s) after h = absurd (none-some s (ap (λ (e : Entry). e.before) h.1))
  before_masked (core.up_to b) k (Some s) after h = absurd (none-some s (ap (λ (e : Entry). e.before) h.1))

  after_masked : (m : Mode) (k : ℕ) (before after : Option States) → (entry o).Fits (record { mode = m; key = k; before = before; after = after }) → IfSome after mask.Fits
  after_masked m k before None h = tt
  after_masked core.kept k before (Some s) h = said s h.0.0.3.0 (ap (λ (e : Entry). e.after) h.1)
  after_masked core.taken k before (Some s) h = absurd (none-some s (ap (λ (e : Entry). e.after) h.1))
  after_masked core.given k before (Some s) h = said s h.0.0.3.0 (ap (λ (e : Entry). e.after) h.1)
  after_masked core.fresh k before (Some s) h = said s h.0.0.3.0 (ap (λ (e : Entry). e.after) h.1)
  after_masked (core.up_to b) k before (Some s) h = absurd (none-some s (ap (λ (e : Entry). e.after) h.1))

  entry_masked : (e : Entry) → (entry o).Fits e → IsMaskedEntry e
  entry_masked e h = (before_masked e.mode e.key e.before e.after h, after_masked e.mode e.key e.before e.after h)

-- ---- statements

operand_masked : (x : Operand) → FitsOperand x → IsMaskedOperand x
operand_masked (core.pure e) h = tt
operand_masked (core.move v) h = tt
operand_masked (core.pack x s) h = h.1

operands_masked : (xs : List Operand) → All FitsOperand xs → All IsMaskedOperand xs
operands_masked = each_fits FitsOperand IsMaskedOperand operand_masked

return_masked : (o : Option Operand) → return_stmt.Fits o → IfSome o IsMaskedOperand
return_masked None h = tt
return_masked (Some o) h = operand_masked o h.0

module _ (w : Shape) where
  simple_masked : (s : Simple) → FitsRow w (row.simple s) → IsMaskedSimple s
  simple_masked (core.set v e) h = tt
  simple_masked (core.input v more) h = tt
  simple_masked (core.print e) h = tt
  simple_masked (core.put x i e) h = tt
  simple_masked (core.make x os) h = operands_masked os h.1
  simple_masked (core.become x state) h = tt
  simple_masked (core.release x) h = tt
  simple_masked (core.drop v) h = tt
  simple_masked (core.own v o) h = operand_masked o h.1
  simple_masked (core.unpack x v) h = tt
  simple_masked (core.build v c os) h = operands_masked os h.2
  simple_masked (core.swap x i v) h = tt
  simple_masked (core.open_into x vs) h = tt
  simple_masked (core.adopt y x r) h = tt

  module _ (a : MapNotes) where
    mutual
      form_masked : (n : ℕ) (s : Form) → All (FitsRow w) (draft_rows (draft_of a n s)) → IsMasked s
      form_masked n (core.simple s) h = simple_masked s h.0
      form_masked n (core.call g target keys os) h = operands_masked os h.0.3
      form_masked n (core.choose e x y) h =
          let one = block_rows (block_draft a (n + 1) x) in
          let two = block_rows (block_draft a (n + 1 + count_block x) y) in
          (block_masked (n + 1) x (all_left (FitsRow w) one two h.1), block_masked (n + 1 + count_block x) y (all_right (FitsRow w) one two h.1))
      form_masked n (core.loop e x) h = block_masked (n + 1) x h.1
      form_masked n (core.switch v arms end) h = arms_masked (n + 1) arms h.1
      form_masked n (core.focus y z x) h = block_masked (n + 1) x h.1
      form_masked n (core.scope x) h = block_masked (n + 1) x h.1
      form_masked n (core.return o) h = return_masked o h.0
      form_masked n (core.jump c) h = tt

      block_masked : (n : ℕ) (b : Block) → All (FitsRow w) (block_rows (block_draft a n b)) → IsMaskedBlock b
      block_masked n (core.block ss bound end) h = stmts_masked n ss h

      stmts_masked : (n : ℕ) (ss : Stmts) → All (FitsRow w) (list_rows (list_draft a n ss)) → AreMasked ss
      stmts_masked n core.done h = tt
      stmts_masked n (core.next at s rest) h =
          let one = draft_rows (draft_of a n s) in
          let two = list_rows (list_draft a (n + count s) rest) in
          (form_masked n s (all_left (FitsRow w) one two h), stmts_masked (n + count s) rest (all_right (FitsRow w) one two h))

      arms_masked : (n : ℕ) (arms : Arms) → All (FitsRow w) (arms_rows (arms_draft a n arms)) → AreMaskedArms arms
      arms_masked n core.no_arms h = tt
      arms_masked n (core.arm c vs b rest) h =
          let one = block_rows (block_draft a n b) in
          let two = arms_rows (arms_draft a (n + count_block b) rest) in
          (block_masked n b (all_left (FitsRow w) one two h), arms_masked (n + count_block b) rest (all_right (FitsRow w) one two h))

-- ---- functions and programs

-- what the row of a function gives
record IsMaskedHead (f : Func) : Type 0 where
  result : IfSome f.result IsMaskedTy
  clause : All IsMaskedEntry f.clause
  vars : All (λ (d : VarDecl). IsMaskedTy d.ty) f.vars

head_masked : (w : Shape) (f : Func) (external : Bool) → FitsRow w (if external then row.external (fn_row f) else row.function (fn_row f)) → IsMaskedHead f
head_masked w f true h = record {
  result = result_masked f.result h.1;
  clause = each_fits (entry w.ordered).Fits IsMaskedEntry (entry_masked w.ordered) f.clause h.3;
  vars = each_fits var_decl.Fits (λ (d : VarDecl). IsMaskedTy d.ty) (λ d fit. ty_masked d.ty fit.0.1) f.vars h.5.0;
}
head_masked w f false h = record {
  result = result_masked f.result h.1;
  clause = each_fits (entry w.ordered).Fits IsMaskedEntry (entry_masked w.ordered) f.clause h.3;
  vars = each_fits var_decl.Fits (λ (d : VarDecl). IsMaskedTy d.ty) (λ d fit. ty_masked d.ty fit.0.1) f.vars h.5.0;
}

module _ (o : Bool) (p : Program) (all : List (List Note)) (fits : FitsCertificate o p all) where
  types_fit : (t : ℕ) (d : TypeDecl) → slice_get p.types t ≡ Some d → All (FitsRow (shape o None)) (type_rows d)
  types_fit t d at = spread (FitsRow (shape o None)) type_rows p.types t d (all_right (FitsRow (shape o None)) (map row.states p.sets) (flat_map type_rows p.types) fits.tables) at

  func_masked : (g : ℕ) (f : Func) → slice_get p.fns g ≡ Some f → IsMaskedFunc f
  func_masked g f at =
      let x = noted o p p.fns all fits.functions g f at in
      let head = head_masked (fn_shape o p f) f f.external x.fits.rows.0 in
      record {
        result = head.result;
        clause = head.clause;
        vars = head.vars;
        body = stmts_masked (fn_shape o p f) (maps_of x.notes) 0 f.body x.fits.rows.1;
      }

  pub rows_masked : IsMaskedProgram p
  rows_masked = record {
    types = all_from IsMaskedType p.types (λ t d at. type_masked (shape o None) d (types_fit t d at));
    fns = all_from IsMaskedFunc p.fns func_masked;
  }
