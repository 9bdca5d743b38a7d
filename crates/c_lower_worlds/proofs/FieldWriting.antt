-- A field of an object is given a value, cell by cell.
use Rattle.std.proofs.Common.{◌≡◌, ℕ, suc, ◌+◌, List, [], ◌∷◌, ◌++◌, take, length, Option, Some, None, slice_get, slice_set, length-append, refl, sym, ap, ◌∙◌, subst, arith}
use Rattle.std.proofs.lemmas.List.{map-set}
use Rattle.vlt_core.specs.Core.{FieldDecl, Program}
use Rattle.vlt_core.specs.Lookups.{fields_of}
use Rattle.vlt_meaning.specs.World as source
use Rattle.vlt_meaning.specs.World.{Object, above, is_out}
use Rattle.vlt_meaning.specs.Objects.{with_cell, with_changed_object, changed_in}
use Rattle.c_meaning.specs.World as cw
use Rattle.c_meaning.specs.World.{Value, reference}
use Rattle.c_meaning.specs.Values.{p_variable}
use Rattle.c_meaning.specs.Blocks.{Block, Blocks, live_block}
use Rattle.c_meaning.specs.Run as crun
use Rattle.c_lower.specs.Slots.{Sort, of_number, of_reference, of_owner, Numbers, first_numbers, past_all, cells_at, slot_sorts, field_sorts, field_cells, sorts_of_field}
use Rattle.c_lower.specs.Expressions.{Atom}
use Rattle.c_lower.specs.Statements.{puts}
use Rattle.c_lower_worlds.specs.Worlds.{block_of, blocks_of, slot_values, numbers_in, references_in, cell_values}
use Rattle.c_lower_worlds.specs.Shapes.{HasShape, HaveCellShapes, AreShaped, types_of}
use Rattle.c_lower_worlds.specs.Sorts.{AreOfSorts}
use Rattle.c_lower_worlds.specs.Operands.{HaveAtoms}
use Rattle.c_lower_worlds.proofs.BlockChanges.{IsLive, block_there, live_block_is}
use Rattle.c_lower_worlds.proofs.FieldCells.{numbers_append, references_append}
use Rattle.c_lower_worlds.proofs.VariantSlots.{shape_sorts}
use Rattle.c_lower_worlds.proofs.StatementLists.{Runs}
use Rattle.c_lower_worlds.proofs.VariableValues.{types_kept, get_set}
use Rattle.c_lower_worlds.proofs.CellWriting.{over, over_front, with_cells, set_itself, puts_run, same_numbers, same_references, Split}

numbers_of : ℕ → ℕ → Numbers
numbers_of n k = record { n = n; p = k }

-- as many cells as values
pub counts : (n k : ℕ) (ss : List Sort) (vs : List Value) → AreOfSorts ss vs → past_all (record { n = n; p = k }) ss ≡ record { n = n + length (numbers_in vs); p = k + length (references_in vs) }
unfolding numbers_of
counts n k [] [] h = ap (λ a. numbers_of a k) (none n) ∙ ap (λ b. numbers_of (n + 0) b) (none k)
  where
    none : (n : ℕ) → n ≡ n + 0
    none n = omega arith
counts n k [] (v ∷ vs) h = absurd h
counts n k (s ∷ ss) [] h = absurd h
counts n k (of_number ∷ ss) (cw.number z ∷ vs) h = counts (suc n) k ss vs h.1 ∙ ap (λ a. numbers_of a (k + length (references_in vs))) (more n (length (numbers_in vs)))
  where
    more : (n m : ℕ) → suc n + m ≡ n + suc m
    more n m = omega arith
counts n k (of_number ∷ ss) (reference r ∷ vs) h = absurd h.0
counts n k (of_reference ∷ ss) (cw.number z ∷ vs) h = absurd h.0
counts n k (of_reference ∷ ss) (reference r ∷ vs) h = counts n (suc k) ss vs h.1 ∙ ap (λ b. numbers_of (n + length (numbers_in vs)) b) (more k (length (references_in vs)))
  where
    more : (n m : ℕ) → suc n + m ≡ n + suc m
    more n m = omega arith
counts n k (of_owner ∷ ss) (cw.number z ∷ vs) h = absurd h.0
counts n k (of_owner ∷ ss) (reference r ∷ vs) h = counts n (suc k) ss vs h.1 ∙ ap (λ b. numbers_of (n + length (numbers_in vs)) b) (more k (length (references_in vs)))
  where
    more : (n m : ℕ) → suc n + m ≡ n + suc m
    more n m = omega arith

pub counts_first : (ss : List Sort) (vs : List Value) → AreOfSorts ss vs → past_all first_numbers ss ≡ record { n = length (numbers_in vs); p = length (references_in vs) }
unfolding numbers_of
counts_first ss vs h = counts 0 0 ss vs h ∙ ap (λ a. numbers_of a (0 + length (references_in vs))) (none (length (numbers_in vs))) ∙ ap (λ b. numbers_of (length (numbers_in vs)) b) (none (length (references_in vs)))
  where
    none : (n : ℕ) → 0 + n ≡ n
    none n = omega arith

-- objects with another value in a cell keep types and shapes
pub cell_shaped : (p : Program) (os : List Object) (n i : ℕ) (a : source.Value) → AreShaped p os →
    ((o : Object) → slice_get os n ≡ Some o → HaveCellShapes p (types_of os) (fields_of p o.type) (slice_set o.cells i a)) → AreShaped p (with_changed_object n (with_cell i a) os)
cell_shaped p os n i a h new = record { each = λ m o at. rw (types_kept os n (with_cell i a) (λ o. refl)) (by (slice_get os n) refl m o at) }
  where
    by : (q : Option Object) → slice_get os n ≡ q → (m : ℕ) (o : Object) → slice_get (changed_in n (with_cell i a) os q) m ≡ Some o →
        HaveCellShapes p (types_of os) (fields_of p o.type) o.cells
    by None e m o at = h.each m o at
    by (Some q) e m o at = get_set os n m (with_cell i a q) o at (λ o. HaveCellShapes p (types_of os) (fields_of p o.type) o.cells) (new q e) (h.each m o)

module _ (p : Program) (R : crun.Setup) (cm : crun.Meaning) where
  -- a field of a live object is written
  pub field_written : (os : List Object) (n : ℕ) (o : Object) (t i : ℕ) (d : FieldDecl) (old new : source.Value) (types : List ℕ) (base : ℕ) (atoms : List Atom) (F : crun.Frame) (w : cw.World) → IsLive os n o → o.type ≡ t →
      slice_get (fields_of p t) i ≡ Some d → (sp : Split p types (fields_of p t) o.cells i d old) → HasShape p types d.ty new → F.vars (p_variable base) ≡ Some (reference (Some n)) → ((bs : Blocks) → HaveAtoms atoms (slot_values p d.ty new) F bs) →
      Runs R cm (puts (field_cells p t i base) atoms) F (record w { blocks = blocks_of p os }) (crun.goes F (record w { blocks = blocks_of p (with_changed_object n (with_cell i new) os) }))
  field_written os n o t i d old new types base atoms F w known type_is at sp shape var have =
      subst (λ cells. Runs R cm (puts cells atoms) F (record w { blocks = bs }) (crun.goes F (record w { blocks = blocks_of p (with_changed_object n (with_cell i new) os) }))) (sym cells_are)
      (subst (λ bs. Runs R cm (puts cells atoms) F (record w { blocks = bs }) (crun.goes F (record w { blocks = blocks_of p (with_changed_object n (with_cell i new) os) }))) before_is
      (subst (λ bs. Runs R cm (puts cells atoms) F (record w { blocks = old_blocks }) (crun.goes F (record w { blocks = bs }))) after_is
      (puts_run R cm bs n q u block live base (slot_sorts p d.ty) atoms news (numbers_in sp.before) (numbers_in olds ++ numbers_in sp.after) (references_in sp.before) (references_in olds ++ references_in sp.after) F w var
      (shape_sorts p types d.ty new shape) have
      (let e = same_numbers (slot_sorts p d.ty) news olds (shape_sorts p types d.ty new shape) (shape_sorts p types d.ty old sp.shape) in let l = length-append (numbers_in olds) (numbers_in sp.after) in omega arith)
      (let e = same_references (slot_sorts p d.ty) news olds (shape_sorts p types d.ty new shape) (shape_sorts p types d.ty old sp.shape) in let l = length-append (references_in olds) (references_in sp.after) in omega arith))))
    where
      bs : Blocks
      bs = blocks_of p os

      q : Option ℕ
      q = above o.owner

      u : Rattle.std.specs.Prelude.Bool
      u = is_out o.owner

      olds : List Value
      olds = slot_values p d.ty old

      news : List Value
      news = slot_values p d.ty new

      whole : List Value
      whole = cell_values p (fields_of p o.type) o.cells

      block : Block
      block = record { parent = q; is_out = u; numbers = numbers_in whole; references = references_in whole }

      live : live_block bs n ≡ Some block
      live = block_there p os n o known

      cells : List Rattle.c_syntax.specs.declared.program.CCell.CCell
      cells = cells_at base (record { n = length (numbers_in sp.before); p = length (references_in sp.before) }) (slot_sorts p d.ty)

      cells_are : field_cells p t i base ≡ cells
      cells_are = ap (λ ss. cells_at base (past_all first_numbers (field_sorts p (take i (fields_of p t)))) ss) (ap (λ o. sorts_of_field p o) at)
          ∙ ap (λ t. cells_at base t (slot_sorts p d.ty)) (counts_first (field_sorts p (take i (fields_of p t))) sp.before sp.sorts)

      old_blocks : Blocks
      old_blocks = with_cells bs n q u (numbers_in sp.before ++ (numbers_in olds ++ numbers_in sp.after)) (references_in sp.before ++ (references_in olds ++ references_in sp.after))

      whole_is : whole ≡ sp.before ++ (olds ++ sp.after)
      whole_is = ap (λ t. cell_values p (fields_of p t) o.cells) type_is ∙ sp.values

      numbers_are : (vs : List Value) → numbers_in (sp.before ++ (vs ++ sp.after)) ≡ numbers_in sp.before ++ (numbers_in vs ++ numbers_in sp.after)
      numbers_are vs = numbers_append sp.before (vs ++ sp.after) ∙ ap (λ r. numbers_in sp.before ++ r) (numbers_append vs sp.after)

      references_are : (vs : List Value) → references_in (sp.before ++ (vs ++ sp.after)) ≡ references_in sp.before ++ (references_in vs ++ references_in sp.after)
      references_are vs = references_append sp.before (vs ++ sp.after) ∙ ap (λ r. references_in sp.before ++ r) (references_append vs sp.after)

      before_is : old_blocks ≡ bs
      before_is = ap (λ ns. with_cells bs n q u ns (references_in sp.before ++ (references_in olds ++ references_in sp.after))) (sym (ap numbers_in whole_is ∙ numbers_are olds))
          ∙ ap (λ rs. with_cells bs n q u (numbers_in whole) rs) (sym (ap references_in whole_is ∙ references_are olds)) ∙ set_itself bs n block live

      after_is : with_cells bs n q u (numbers_in sp.before ++ over (numbers_in news) (numbers_in olds ++ numbers_in sp.after)) (references_in sp.before ++ over (references_in news) (references_in olds ++ references_in sp.after)) ≡ blocks_of p (with_changed_object n (with_cell i new) os)
      after_is =
          ap (λ ns. with_cells bs n q u (numbers_in sp.before ++ ns) (references_in sp.before ++ over (references_in news) (references_in olds ++ references_in sp.after)))
          (over_front (numbers_in news) (numbers_in olds) (numbers_in sp.after) (same_numbers (slot_sorts p d.ty) news olds (shape_sorts p types d.ty new shape) (shape_sorts p types d.ty old sp.shape)))
          ∙ ap (λ rs. with_cells bs n q u (numbers_in sp.before ++ (numbers_in news ++ numbers_in sp.after)) (references_in sp.before ++ rs))
          (over_front (references_in news) (references_in olds) (references_in sp.after) (same_references (slot_sorts p d.ty) news olds (shape_sorts p types d.ty new shape) (shape_sorts p types d.ty old sp.shape)))
          ∙ ap (λ ns. with_cells bs n q u ns (references_in sp.before ++ (references_in news ++ references_in sp.after))) (sym (numbers_are news))
          ∙ ap (λ rs. with_cells bs n q u (numbers_in (sp.before ++ (news ++ sp.after))) rs) (sym (references_are news))
          ∙ ap (λ vs. with_cells bs n q u (numbers_in vs) (references_in vs)) (sym (sp.others new) ∙ ap (λ t. cell_values p (fields_of p t) (slice_set o.cells i new)) (sym type_is))
          ∙ ap (slice_set bs n) (sym (live_block_is p o.owner (cell_values p (fields_of p o.type) (slice_set o.cells i new)) known.live))
          ∙ sym (map-set (block_of p) os n (with_cell i new o))
          ∙ ap (λ x. blocks_of p (changed_in n (with_cell i new) os x)) (sym known.at)
