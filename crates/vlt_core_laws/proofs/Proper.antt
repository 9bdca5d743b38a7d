-- Where all expressions pass a test, they pass a weaker one. So each operator of proper bodies has as many operands as it wants.
use Rattle.std.proofs.Common.{◌≡◌, Bool, true, ◌&&◌, List, [], ◌∷◌, Option, Some, None, refl}
use Rattle.std.proofs.lemmas.Bool.{and_parts}
use Rattle.std.specs.Cmp.Derive.{both_true}
use Rattle.vlt_core.specs.Core as core
use Rattle.vlt_core.specs.Core.{Expr, Operand, Simple, Form, Block, Stmts, Arms, Program}
use Rattle.vlt_core.specs.Proper.{has_arities, has_literals, is_proper, all_in_operand, all_in_operands, all_in_simple, all_in_return, all_in_form, all_in_block, all_in, all_in_arms, AllPass, HasArities, HasProperBodies}

module _ (test weak : Expr → Bool) (weaker : (e : Expr) → test e ≡ true → weak e ≡ true) where
  in_operand : (o : Operand) → all_in_operand test o ≡ true → all_in_operand weak o ≡ true
  in_operand (core.pure e) h = weaker e h
  in_operand (core.move v) h = refl
  in_operand (core.pack x states) h = refl

  in_operands : (os : List Operand) → all_in_operands test os ≡ true → all_in_operands weak os ≡ true
  in_operands [] h = refl
  in_operands (o ∷ os) h =
      let k = and_parts (all_in_operand test o) (all_in_operands test os) h in
      both_true (in_operand o k.0) (in_operands os k.1)

  in_simple : (s : Simple) → all_in_simple test s ≡ true → all_in_simple weak s ≡ true
  in_simple (core.set v e) h = weaker e h
  in_simple (core.input v more) h = refl
  in_simple (core.print e) h = weaker e h
  in_simple (core.put x i e) h = weaker e h
  in_simple (core.make x os) h = in_operands os h
  in_simple (core.become x state) h = refl
  in_simple (core.release x) h = refl
  in_simple (core.drop v) h = refl
  in_simple (core.own v o) h = in_operand o h
  in_simple (core.unpack x v) h = refl
  in_simple (core.build v case os) h = in_operands os h
  in_simple (core.swap x i v) h = refl
  in_simple (core.open_into x vs) h = refl
  in_simple (core.adopt y x r) h = refl

  in_return : (o : Option Operand) → all_in_return test o ≡ true → all_in_return weak o ≡ true
  in_return None h = refl
  in_return (Some o) h = in_operand o h

  mutual
    in_form : (form : Form) → all_in_form test form ≡ true → all_in_form weak form ≡ true
    in_form (core.simple s) h = in_simple s h
    in_form (core.call f target keys os) h = in_operands os h
    in_form (core.choose e a b) h =
        let k = and_parts (test e) (all_in_block test a && all_in_block test b) h in
        let l = and_parts (all_in_block test a) (all_in_block test b) k.1 in
        both_true (weaker e k.0) (both_true (in_block a l.0) (in_block b l.1))
    in_form (core.loop e b) h =
        let k = and_parts (test e) (all_in_block test b) h in
        both_true (weaker e k.0) (in_block b k.1)
    in_form (core.switch v arms end) h = in_arms arms h
    in_form (core.focus y z b) h = in_block b h
    in_form (core.scope b) h = in_block b h
    in_form (core.return o) h = in_return o h
    in_form (core.jump continues) h = refl

    in_block : (b : Block) → all_in_block test b ≡ true → all_in_block weak b ≡ true
    in_block (core.block ss bound end) h = in_stmts ss h

    in_stmts : (ss : Stmts) → all_in test ss ≡ true → all_in weak ss ≡ true
    in_stmts core.done h = refl
    in_stmts (core.next at form rest) h =
        let k = and_parts (all_in_form test form) (all_in test rest) h in
        both_true (in_form form k.0) (in_stmts rest k.1)

    in_arms : (arms : Arms) → all_in_arms test arms ≡ true → all_in_arms weak arms ≡ true
    in_arms core.no_arms h = refl
    in_arms (core.arm case vs b rest) h =
        let k = and_parts (all_in_block test b) (all_in_arms test rest) h in
        both_true (in_block b k.0) (in_arms rest k.1)

  pub pass_weaker : (p : Program) → AllPass test p → AllPass weak p
  pass_weaker p all g f at = in_stmts f.body (all g f at)

pub proper_arities : (p : Program) → HasProperBodies p → HasArities p
proper_arities p = pass_weaker is_proper has_arities (λ e h. (and_parts (has_arities e) (has_literals e) h).0) p
