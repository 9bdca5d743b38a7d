-- A test that each expression passes that fits rows is passed by each of a body whose rows fit.
use Rattle.std.proofs.Common.{◌≡◌, ℕ, ◌+◌, Bool, true, ◌&&◌, List, [], ◌∷◌, Option, Some, None, refl}
use Rattle.std.proofs.lemmas.Bool.{and_from}
use Rattle.vlt_core.specs.Core as core
use Rattle.vlt_core.specs.Core.{Expr, Operand, Simple, Form, Block, Stmts, Arms}
use Rattle.vlt_core.specs.Proper.{all_in_operand, all_in_operands, all_in_simple, all_in_return, all_in_form, all_in_block, all_in, all_in_arms}
use Rattle.cert_rows.specs.Parts.{All}
use Rattle.cert_rows.specs.Values.{Shape}
use Rattle.cert_rows.specs.Expressions.{FitsExpr, FitsOperand}
use Rattle.cert_rows.specs.Rows.{FitsRow, return_stmt}
use Rattle.cert_rows.specs.Rows as row
use Rattle.cert_format_laws.proofs.Decoding.{all_left, all_right}
use Rattle.cert_format.specs.Drafts.{draft_rows, block_rows, list_rows, arms_rows}
use Rattle.cert_format.specs.Notes.{MapNotes}
use Rattle.cert_format.specs.Bodies.{count, count_block, draft_of, block_draft, list_draft, arms_draft}

module _ (test : Expr → Bool) (each : (e : Expr) → FitsExpr e → test e ≡ true) (w : Shape) where
  operand_in : (x : Operand) → FitsOperand x → all_in_operand test x ≡ true
  operand_in (core.pure e) h = each e h
  operand_in (core.move v) h = refl
  operand_in (core.pack x s) h = refl

  operands_in : (xs : List Operand) → All FitsOperand xs → all_in_operands test xs ≡ true
  operands_in [] h = refl
  operands_in (x ∷ xs) h = and_from (all_in_operand test x) (all_in_operands test xs) (operand_in x h.0) (operands_in xs h.1)

  simple_in : (s : Simple) → FitsRow w (row.simple s) → all_in_simple test s ≡ true
  simple_in (core.set v e) h = each e h.1
  simple_in (core.input v more) h = refl
  simple_in (core.print e) h = each e h
  simple_in (core.put x i e) h = each e h.2
  simple_in (core.make x os) h = operands_in os h.1
  simple_in (core.become x state) h = refl
  simple_in (core.release x) h = refl
  simple_in (core.drop v) h = refl
  simple_in (core.own v o) h = operand_in o h.1
  simple_in (core.unpack x v) h = refl
  simple_in (core.build v c os) h = operands_in os h.2
  simple_in (core.swap x i v) h = refl
  simple_in (core.open_into x vs) h = refl
  simple_in (core.adopt y x r) h = refl

  return_in : (o : Option Operand) → return_stmt.Fits o → all_in_return test o ≡ true
  return_in None h = refl
  return_in (Some o) h = operand_in o h.0

  module _ (a : MapNotes) where
    mutual
      form_in : (n : ℕ) (s : Form) → All (FitsRow w) (draft_rows (draft_of a n s)) → all_in_form test s ≡ true
      form_in n (core.simple s) h = simple_in s h.0
      form_in n (core.call g target keys os) h = operands_in os h.0.3
      form_in n (core.choose e x y) h =
          let one = block_rows (block_draft a (n + 1) x) in
          let two = block_rows (block_draft a (n + 1 + count_block x) y) in
          and_from (test e) (all_in_block test x && all_in_block test y) (each e h.0.0)
          (and_from (all_in_block test x) (all_in_block test y) (block_in (n + 1) x (all_left (FitsRow w) one two h.1)) (block_in (n + 1 + count_block x) y (all_right (FitsRow w) one two h.1)))
      form_in n (core.loop e x) h = and_from (test e) (all_in_block test x) (each e h.0.0) (block_in (n + 1) x h.1)
      form_in n (core.switch v arms end) h = arms_in (n + 1) arms h.1
      form_in n (core.focus y z x) h = block_in (n + 1) x h.1
      form_in n (core.scope x) h = block_in (n + 1) x h.1
      form_in n (core.return o) h = return_in o h.0
      form_in n (core.jump c) h = refl

      block_in : (n : ℕ) (b : Block) → All (FitsRow w) (block_rows (block_draft a n b)) → all_in_block test b ≡ true
      block_in n (core.block ss bound end) h = list_in n ss h

      pub list_in : (n : ℕ) (ss : Stmts) → All (FitsRow w) (list_rows (list_draft a n ss)) → all_in test ss ≡ true
      list_in n core.done h = refl
      list_in n (core.next at s rest) h =
          let one = draft_rows (draft_of a n s) in
          let two = list_rows (list_draft a (n + count s) rest) in
          and_from (all_in_form test s) (all_in test rest) (form_in n s (all_left (FitsRow w) one two h)) (list_in (n + count s) rest (all_right (FitsRow w) one two h))

      arms_in : (n : ℕ) (arms : Arms) → All (FitsRow w) (arms_rows (arms_draft a n arms)) → all_in_arms test arms ≡ true
      arms_in n core.no_arms h = refl
      arms_in n (core.arm c vs b rest) h =
          let one = block_rows (block_draft a n b) in
          let two = arms_rows (arms_draft a (n + count_block b) rest) in
          and_from (all_in_block test b) (all_in_arms test rest) (block_in n b (all_left (FitsRow w) one two h)) (arms_in (n + count_block b) rest (all_right (FitsRow w) one two h))
