-- Operands, one after another.
use Rattle.std.proofs.Common.{◌≡◌, ℕ, List, [], ◌∷◌, ◌++◌, map, Ok, refl, sym, ◌∙◌, subst, append_assoc, true}
use Rattle.std.specs.List.{flat_map}
use Rattle.vlt_core_laws.proofs.Ids.{and_left, and_right}
use Rattle.c_lower_worlds.specs.Naming.KindedParts.{is_proper_operand, are_proper_operands}
use Rattle.vlt_core.specs.Core.{Ty, Operand, pure, move, pack, Func, Program}
use Rattle.vlt_core.specs.KindedScopes.{Ids}
use Rattle.vlt_meaning.specs.World as source
use Rattle.vlt_meaning.specs.Step as step
use Rattle.vlt_meaning.specs.Operands.{with_operand, with_operands}
use Rattle.c_syntax.specs.View.{stmts_made}
use Rattle.c_syntax.specs.C.{Stmt, Arg}
use Rattle.c_meaning.specs.World as cw
use Rattle.c_meaning.specs.Blocks.{Blocks}
use Rattle.c_meaning.specs.Values.{value_of, arg_value, arg_values}
use Rattle.c_meaning.specs.Run as crun
use Rattle.c_lower.specs.Slots.{Numbers, first_temps}
use Rattle.c_lower.specs.Expressions.{Atom, number, variable, null, atom_expr, atom_arg, Code, operand_code, operand_codes, Codes}
use Rattle.c_lower_worlds.specs.Operators.Codes.{AreUpTo, AreAlike}
use Rattle.c_lower_worlds.proofs.OfOperators.Codes.{up_self, more_more, alike_self, alike_more}
use Rattle.c_lower_worlds.proofs.OfOperators.Expressions.{expr_up}
use Rattle.c_lower_worlds.specs.Worlds.{Registers, c_world, slot_values}
use Rattle.c_lower_worlds.specs.Shapes.{types_of, HasShape}
use Rattle.c_lower_worlds.specs.SameStatements.{Begins}
use Rattle.c_lower_worlds.specs.Naming.Functions.{IsFunction}
use Rattle.c_lower_worlds.specs.Same.{Same}
use Rattle.c_lower_worlds.specs.Operands.{HaveAtoms, OperandsAreRight}
use Rattle.c_lower_worlds.proofs.OfNaming.CallOperands.{OperandsFit}

abbrev pub HaveShapes : Program → List ℕ → List Ty → List source.Value → Type 0
HaveShapes p ts [] [] = Unit {0}
HaveShapes p ts (t ∷ tys) (a ∷ values) = HasShape p ts t a × HaveShapes p ts tys values
HaveShapes p ts _ _ = ⊥

abbrev pub HaveEach : Program → List (List Atom) → List Ty → List source.Value → crun.Frame → Blocks → Type 0
HaveEach p [] [] [] f bs = Unit {0}
HaveEach p (x ∷ xs) (t ∷ tys) (a ∷ values) f bs = HaveAtoms x (slot_values p t a) f bs × HaveEach p xs tys values f bs
HaveEach p _ _ _ f bs = ⊥

-- the values of all slots, one after another
abbrev pub flat_values : Program → List Ty → List source.Value → List cw.Value
flat_values p (t ∷ tys) (a ∷ values) = slot_values p t a ++ flat_values p tys values
flat_values p _ _ = []

pub record AreHanded (p : Program) (f : Func) (t next : Numbers) (k : ℕ) (atoms : List (List Atom)) (tys : List Ty) (frame : crun.Frame) (g : Registers) (before : source.World)
    (values : List source.Value) (s : source.Frame) (w : source.World) (to : crun.Frame) : Type 0 where
  pub same_types : types_of w.objects ≡ types_of before.objects
  pub begins : Begins p f k s w to g
  pub alike : AreAlike t frame to
  pub shapes : HaveShapes p (types_of w.objects) tys values
  pub have : (h : crun.Frame) (bs : Blocks) → AreAlike next to h → HaveEach p atoms tys values h bs

pub operand_up : (p : Program) (f : Func) (o : Operand) (t : Numbers) → AreUpTo t (operand_code p f t o).next
operand_up p f (pure e) t = expr_up p f e t
operand_up p f (move v) t = up_self t
operand_up p f (pack x states) t = up_self t

operands_up : (p : Program) (f : Func) (os : List Operand) (t : Numbers) → AreUpTo t (operand_codes p f t os).next
operands_up p f [] t = up_self t
operands_up p f (o ∷ os) t = more_more (operand_up p f o t) (operands_up p f os (operand_code p f t o).next)

module _ (p : Program) (R : crun.Setup) (cm : crun.Meaning) (operands : OperandsAreRight p R cm) where
  pub arguments_then : (f : Func) (os : List Operand) (ids : Ids) (tys : List Ty) (u t : Numbers) (k : ℕ) (s : source.Frame) (w : source.World) (frame : crun.Frame)
      (g : Registers) (i : ℕ) (go : List source.Value → source.Frame → source.World → step.Step) (rest : List Stmt) →
      IsFunction p f → are_proper_operands os ≡ true → OperandsFit p f ids tys os → AreUpTo (first_temps p f) u → AreUpTo u t → Begins p f k s w frame g →
      ((values : List source.Value) (s2 : source.Frame) (w2 : source.World) (to : crun.Frame) (j : ℕ) →
      AreHanded p f t (operand_codes p f t os).next k (operand_codes p f t os).atoms tys frame g w values s2 w2 to →
      Same p f u k to (go values s2 w2) (crun.does_stmts R cm j (stmts_made rest) to (c_world p g w2))) →
      Same p f u k frame (with_operands p f os s w go) (crun.does_stmts R cm i (stmts_made ((operand_codes p f t os).stmts ++ rest)) frame (c_world p g w))
  unfolding with_operands
  arguments_then f [] ids [] u t k s w frame g i go rest is proper fit up more begin on =
      on [] s w frame i (record { same_types = refl; begins = begin; alike = alike_self t frame; shapes = tt; have = λ h bs a. tt })
  arguments_then f [] ids (ty ∷ tys) u t k s w frame g i go rest is proper fit up more begin on = absurd fit
  arguments_then f (o ∷ os) ids [] u t k s w frame g i go rest is proper fit up more begin on = absurd fit
  arguments_then f (o ∷ os) ids (ty ∷ tys) u t k s w frame g i go rest is proper fit up more begin on =
      subst (λ xs. Same p f u k frame (with_operand p f o s w (λ a s w. with_operands p f os s w (λ rest s w. go (a ∷ rest) s w))) (crun.does_stmts R cm i (stmts_made xs) frame (c_world p g w)))
      (sym (append_assoc first.stmts later.stmts rest))
      (operands f o ids ty u t k s w frame g i (λ a s w. with_operands p f os s w (λ rest s w. go (a ∷ rest) s w)) (later.stmts ++ rest) is (and_left (is_proper_operand o) (are_proper_operands os) proper) fit.0 up more begin
      (λ a s2 w2 to j h.
      arguments_then f os ids tys u first.next k s2 w2 to g j (λ rest s w. go (a ∷ rest) s w) rest is (and_right (is_proper_operand o) (are_proper_operands os) proper) fit.1 up (more_more more (operand_up p f o t)) h.begins
      (λ values s3 w3 to3 j3 hs.
      on (a ∷ values) s3 w3 to3 j3 (record {
        same_types = hs.same_types ∙ h.same_types;
        begins = hs.begins;
        alike = alike_more (operand_up p f o t) h.alike hs.alike;
        shapes = (subst (λ ts. HasShape p ts ty a) (sym hs.same_types) h.shape, hs.shapes);
        have = λ x bs e. (h.have x bs (alike_more (up_self first.next) hs.alike (alike_more (operands_up p f os first.next) (alike_self first.next to3) e)), hs.have x bs e);
      }))))
    where
      first : Code
      first = operand_code p f t o

      later : Codes
      later = operand_codes p f first.next os

-- ---- the arguments of a call

pub arg_is : (a : Atom) (f : crun.Frame) (bs : Blocks) (v : cw.Value) → value_of (atom_expr a) f.vars bs ≡ Ok v → arg_value (atom_arg a) f.vars ≡ Ok v
arg_is (number z) f bs v e = e
arg_is (variable x) f bs v e = e
arg_is null f bs v e = e

args_one : (atoms : List Atom) (values more : List cw.Value) (f : crun.Frame) (bs : Blocks) (xs : List Arg) → HaveAtoms atoms values f bs → arg_values xs f.vars ≡ Ok more →
    arg_values (map atom_arg atoms ++ xs) f.vars ≡ Ok (values ++ more)
args_one [] [] more f bs xs h e = e
args_one [] (v ∷ values) more f bs xs h e = absurd h
args_one (a ∷ atoms) [] more f bs xs h e = absurd h
args_one (a ∷ atoms) (v ∷ values) more f bs xs h e = rw (arg_is a f bs v h.0, args_one atoms values more f bs xs h.1 e) refl

pub args_are : (p : Program) (atoms : List (List Atom)) (tys : List Ty) (values : List source.Value) (f : crun.Frame) (bs : Blocks) → HaveEach p atoms tys values f bs →
    arg_values (flat_map (map atom_arg) atoms) f.vars ≡ Ok (flat_values p tys values)
args_are p [] [] [] f bs h = refl
args_are p [] [] (a ∷ values) f bs h = absurd h
args_are p [] (t ∷ tys) values f bs h = absurd h
args_are p (x ∷ atoms) [] values f bs h = absurd h
args_are p (x ∷ atoms) (t ∷ tys) [] f bs h = absurd h
args_are p (x ∷ atoms) (t ∷ tys) (a ∷ values) f bs h = args_one x (slot_values p t a) (flat_values p tys values) f bs (flat_map (map atom_arg) atoms) h.0 (args_are p atoms tys values f bs h.1)
