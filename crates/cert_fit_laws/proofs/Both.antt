-- Expressions that all pass two tests pass the two at once.
use Rattle.std.proofs.Common.{◌≡◌, Bool, true, ◌&&◌, List, [], ◌∷◌, Option, Some, None, refl}
use Rattle.std.proofs.lemmas.Bool.{and_from, and_parts}
use Rattle.vlt_core.specs.Core as core
use Rattle.vlt_core.specs.Core.{Expr, Operand, Simple, Form, Block, Stmts, Arms}
use Rattle.vlt_core.specs.Proper.{all_in_operand, all_in_operands, all_in_simple, all_in_return, all_in_form, all_in_block, all_in, all_in_arms}

module _ (t u : Expr → Bool) where
  abbrev two : Expr → Bool
  two e = t e && u e

  operand_both : (o : Operand) → all_in_operand t o ≡ true → all_in_operand u o ≡ true → all_in_operand two o ≡ true
  operand_both (core.pure e) h k = and_from (t e) (u e) h k
  operand_both (core.move v) h k = refl
  operand_both (core.pack x s) h k = refl

  operands_both : (os : List Operand) → all_in_operands t os ≡ true → all_in_operands u os ≡ true → all_in_operands two os ≡ true
  operands_both [] h k = refl
  operands_both (o ∷ os) h k =
      let a = and_parts (all_in_operand t o) (all_in_operands t os) h in
      let b = and_parts (all_in_operand u o) (all_in_operands u os) k in
      and_from (all_in_operand two o) (all_in_operands two os) (operand_both o a.0 b.0) (operands_both os a.1 b.1)

  simple_both : (s : Simple) → all_in_simple t s ≡ true → all_in_simple u s ≡ true → all_in_simple two s ≡ true
  simple_both (core.set v e) h k = and_from (t e) (u e) h k
  simple_both (core.input v more) h k = refl
  simple_both (core.print e) h k = and_from (t e) (u e) h k
  simple_both (core.put x i e) h k = and_from (t e) (u e) h k
  simple_both (core.make x os) h k = operands_both os h k
  simple_both (core.become x state) h k = refl
  simple_both (core.release x) h k = refl
  simple_both (core.drop v) h k = refl
  simple_both (core.own v o) h k = operand_both o h k
  simple_both (core.unpack x v) h k = refl
  simple_both (core.build v c os) h k = operands_both os h k
  simple_both (core.swap x i v) h k = refl
  simple_both (core.open_into x vs) h k = refl
  simple_both (core.adopt y x r) h k = refl

  return_both : (o : Option Operand) → all_in_return t o ≡ true → all_in_return u o ≡ true → all_in_return two o ≡ true
  return_both None h k = refl
  return_both (Some o) h k = operand_both o h k

  mutual
    form_both : (s : Form) → all_in_form t s ≡ true → all_in_form u s ≡ true → all_in_form two s ≡ true
    form_both (core.simple s) h k = simple_both s h k
    form_both (core.call g target keys os) h k = operands_both os h k
    form_both (core.choose e a b) h k =
        let x = and_parts (t e) (all_in_block t a && all_in_block t b) h in
        let y = and_parts (u e) (all_in_block u a && all_in_block u b) k in
        let v = and_parts (all_in_block t a) (all_in_block t b) x.1 in
        let w = and_parts (all_in_block u a) (all_in_block u b) y.1 in
        and_from (two e) (all_in_block two a && all_in_block two b) (and_from (t e) (u e) x.0 y.0)
        (and_from (all_in_block two a) (all_in_block two b) (block_both a v.0 w.0) (block_both b v.1 w.1))
    form_both (core.loop e b) h k =
        let x = and_parts (t e) (all_in_block t b) h in
        let y = and_parts (u e) (all_in_block u b) k in
        and_from (two e) (all_in_block two b) (and_from (t e) (u e) x.0 y.0) (block_both b x.1 y.1)
    form_both (core.switch v arms end) h k = arms_both arms h k
    form_both (core.focus y z b) h k = block_both b h k
    form_both (core.scope b) h k = block_both b h k
    form_both (core.return o) h k = return_both o h k
    form_both (core.jump c) h k = refl

    block_both : (b : Block) → all_in_block t b ≡ true → all_in_block u b ≡ true → all_in_block two b ≡ true
    block_both (core.block ss bound end) h k = list_both ss h k

    pub list_both : (ss : Stmts) → all_in t ss ≡ true → all_in u ss ≡ true → all_in two ss ≡ true
    list_both core.done h k = refl
    list_both (core.next at s rest) h k =
        let x = and_parts (all_in_form t s) (all_in t rest) h in
        let y = and_parts (all_in_form u s) (all_in u rest) k in
        and_from (all_in_form two s) (all_in two rest) (form_both s x.0 y.0) (list_both rest x.1 y.1)

    arms_both : (arms : Arms) → all_in_arms t arms ≡ true → all_in_arms u arms ≡ true → all_in_arms two arms ≡ true
    arms_both core.no_arms h k = refl
    arms_both (core.arm c vs b rest) h k =
        let x = and_parts (all_in_block t b) (all_in_arms t rest) h in
        let y = and_parts (all_in_block u b) (all_in_arms u rest) k in
        and_from (all_in_block two b) (all_in_arms two rest) (block_both b x.0 y.0) (arms_both rest x.1 y.1)
