-- Instances of a moved function: each is an instance of the function, moved, and has the same origins.
use mathlib.Core.Path.{fun_ext}
use Rattle.std.proofs.Common.{◌≡◌, ℕ, ◌==◌, ◌&&◌, IsTrue, List, [], ◌∷◌, map, Option, Some, None, refl, ap, ap₂, subst}
use Rattle.vlt_core.specs.Core.{States, Expr, number, truth, var, field, unary, binary, Operand, pure, move, pack, Simple, set, input, print, put, make, become, release, drop, own, unpack, build, swap, open_into, adopt, Form, simple, call, choose, loop, switch, focus, scope, return, jump, Block, block, Stmts, done, next, Arms, no_arms, arm, Mode, kept, taken, given, fresh, up_to, Entry, Func, Program}
use Rattle.vlt_core.specs.Lookups.{key_type}
use Rattle.vlt_core.specs.Instances.{Bound, bound_in, mode_of_instance, origin_states, entry_of_instance, clause_of_instance, instance, IsOriginOf, IsOrigin}
use Rattle.vlt_link_laws.specs.CoreMoves.Moves.{Moves, moved_func}
use Rattle.vlt_link_laws.specs.CoreMoves.Keeps.{Keeps}
use Rattle.vlt_link_laws.specs.CoreMoves.Knows.{IsType, KnowsExpr, KnowsOperand, KnowsOperands, KnowsSimple, KnowsReturned, KnowsForm, KnowsBlock, KnowsStmts, KnowsArms, KnowsBody}
use Rattle.vlt_link_laws.proofs.OfCoreMoves.Looks.{same_up_to}

module _ (m : Moves) (p q : Program) (keeps : Keeps m p q) (f : Func) (types : (k t : ℕ) → key_type f k ≡ Some t → IsType p t) where
  same_side : (k o : ℕ) (mode : Mode) (side : Option States) → origin_states q (moved_func m f) k o mode side ≡ origin_states p f k o mode side
  same_side k o kept side = refl
  same_side k o taken side = refl
  same_side k o given side = refl
  same_side k o fresh side = refl
  same_side k o (up_to b) side = ap (λ (S : States). Some (λ s. s == o && S s)) (same_up_to m p q keeps f types k b)

  same_entry_of : (o : ℕ) (e : Entry) → entry_of_instance q (moved_func m f) o e ≡ entry_of_instance p f o e
  same_entry_of o e =
      ap₂ (λ (x y : Option States). let r : Entry = record { mode = mode_of_instance e.mode; key = e.key; before = x; after = y } in r)
      (same_side e.key o e.mode e.before) (same_side e.key o e.mode e.after)

  same_clause_of : (o : Option ℕ) (es : List Entry) → clause_of_instance q (moved_func m f) o es ≡ clause_of_instance p f o es
  same_clause_of None es = refl
  same_clause_of (Some o) es = ap (λ (g : Entry → Entry). map g es) (fun_ext (same_entry_of o))

  pub instance_moves : (o : Option ℕ) → instance q (moved_func m f) o ≡ moved_func m (instance p f o)
  instance_moves o = ap (λ es. record (moved_func m f) { clause = es }) (same_clause_of o f.clause)

  pub origin_stays : (o : Option ℕ) → IsOrigin q (moved_func m f) o → IsOrigin p f o
  origin_stays = by (bound_in f.clause)
    where
      by : (b : Option Bound) (o : Option ℕ) → IsOriginOf q (moved_func m f) b o → IsOriginOf p f b o
      by None None x = tt
      by None (Some o) x = absurd x
      by (Some b) None x = absurd x
      by (Some b) (Some o) x = subst (λ (S : States). IsTrue (S o)) (same_up_to m p q keeps f types b.key b.state) x

-- ---- what a function's rows look at doesn't depend on its clause

module _ (p : Program) (f : Func) (o : Option ℕ) where
  abbrev f' : Func
  f' = instance p f o

  still_expr : (e : Expr) → KnowsExpr p f e → KnowsExpr p f' e
  still_expr (number z) x = tt
  still_expr (truth b) x = tt
  still_expr (var v) x = tt
  still_expr (field v i) x = x
  still_expr (unary op a) x = still_expr a x
  still_expr (binary op a b) x = (still_expr a x.0, still_expr b x.1)

  still_operand : (a : Operand) → KnowsOperand p f a → KnowsOperand p f' a
  still_operand (pure e) x = still_expr e x
  still_operand (move v) x = tt
  still_operand (pack v s) x = tt

  still_operands : (os : List Operand) → KnowsOperands p f os → KnowsOperands p f' os
  still_operands [] x = tt
  still_operands (a ∷ os) x = (still_operand a x.0, still_operands os x.1)

  still_simple : (s : Simple) → KnowsSimple p f s → KnowsSimple p f' s
  still_simple (set v e) x = still_expr e x
  still_simple (input v more) x = tt
  still_simple (print e) x = still_expr e x
  still_simple (put v i e) x = (still_expr e x.0, x.1)
  still_simple (make v args) x = still_operands args x
  still_simple (become v state) x = tt
  still_simple (release v) x = x
  still_simple (drop v) x = tt
  still_simple (own v value) x = still_operand value x
  still_simple (unpack y v) x = tt
  still_simple (build v c args) x = (still_operands args x.0, x.1)
  still_simple (swap y i v) x = x
  still_simple (open_into y vs) x = x
  still_simple (adopt y z r) x = x

  still_returned : (value : Option Operand) → KnowsReturned p f value → KnowsReturned p f' value
  still_returned None x = tt
  still_returned (Some a) x = still_operand a x

  mutual
    still_form : (s : Form) → KnowsForm p f s → KnowsForm p f' s
    still_form (simple s) x = still_simple s x
    still_form (call g target keys args) x = (still_operands args x.0, x.1)
    still_form (choose e a b) x = (still_expr e x.0, still_block a x.1, still_block b x.2)
    still_form (loop e b) x = (still_expr e x.0, still_block b x.1)
    still_form (switch v arms end) x = (x.0, still_arms arms x.1)
    still_form (focus y z b) x = (x.0, still_block b x.1)
    still_form (scope b) x = still_block b x
    still_form (return value) x = still_returned value x
    still_form (jump continues) x = tt

    still_block : (b : Block) → KnowsBlock p f b → KnowsBlock p f' b
    still_block (block ss bound end) x = still_stmts ss x

    still_stmts : (ss : Stmts) → KnowsStmts p f ss → KnowsStmts p f' ss
    still_stmts done x = tt
    still_stmts (next at s rest) x = (still_form s x.0, still_stmts rest x.1)

    still_arms : (arms : Arms) → KnowsArms p f arms → KnowsArms p f' arms
    still_arms no_arms x = tt
    still_arms (arm c vs b rest) x = (still_block b x.0, still_arms rest x.1)

  pub instance_knows : KnowsBody p f → KnowsBody p f'
  instance_knows x = record { keys = x.keys; body = still_stmts f.body x.body }
