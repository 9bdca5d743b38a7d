-- Open, as a whole: its fields' values leave the object, and then it is released.
use Rattle.std.proofs.Common.{◌≡◌, ℕ, suc, ◌+◌, ◌==◌, false, List, [], ◌∷◌, ◌++◌, length, Option, Some, None, slice_get, refl, sym, ap, ◌∙◌, subst, arith}
use Rattle.std.specs.List.{flat_map}
use Rattle.vlt_core.specs.Core as core
use Rattle.vlt_core.specs.Core.{FieldDecl, Func, Program}
use Rattle.vlt_core.specs.Lookups.{fields_of, var_type, Reference, reference_of}
use Rattle.vlt_core.specs.KindedHeads.{unless}
use Rattle.vlt_core.specs.KindedScopes.{use_broken}
use Rattle.vlt_core.specs.KindedStatements as kinded
use Rattle.vlt_core.specs.declared.rules.TheConstants as rule
use Rattle.vlt_meaning.specs.World as source
use Rattle.vlt_meaning.specs.World.{Owner, loose, is_inside, objects_in}
use Rattle.vlt_meaning.specs.Found.{or_fault, Named}
use Rattle.vlt_meaning.specs.Objects.{objects_after_move, objects_after_release, is_releasable}
use Rattle.vlt_meaning.specs.Values.{object_of}
use Rattle.vlt_meaning.specs.Operands.{owning_cells}
use Rattle.vlt_meaning.specs.Step as step
use Rattle.vlt_meaning.specs.Run as run
use Rattle.c_syntax.specs.declared.program.CPrim.TheVariants as prim
use Rattle.c_syntax.specs.View.{stmts_made}
use Rattle.c_syntax.specs.C as syntax
use Rattle.c_meaning.specs.Primitives.{or_broken, on_reference}
use Rattle.c_meaning.specs.Run as crun
use Rattle.c_lower.specs.Slots.{slot_of, object_type, object_type_of}
use Rattle.c_lower.specs.Statements.{runtime_call, open_fields, owning_positions, form_code}
use Rattle.c_lower_worlds.specs.Worlds.{c_world}
use Rattle.c_lower_worlds.specs.Shapes.{types_of, HaveCellShapes}
use Rattle.c_lower_worlds.specs.Same.{Same}
use Rattle.c_lower_worlds.specs.Naming.Functions.{IsFunction}
use Rattle.c_lower_worlds.specs.SameStatements.{IsSameForm}
use Rattle.c_lower_worlds.specs.Naming.Types.{TypesFit}
use Rattle.c_lower_worlds.proofs.OfNaming.FoundObjects.{IsFree, HoldsObject, or_faults, or_fault_ok, object_of_ok, object_of_faults}
use Rattle.c_lower_worlds.proofs.BlockChanges.{release_is}
use Rattle.c_lower_runs.proofs.OfForms.OpenFields.{positions_from, positions_are, wanted_are, filled, filled_same, fields_opened}
use Rattle.c_lower_runs.proofs.OfForms.OpenSlots.{moved_faults, moved_types, moved_shaped, kept_out}
use Rattle.c_lower_worlds.proofs.StatementLists.{runs_then, call_runs}
use Rattle.c_lower_runs.proofs.OfForms.PrintAndRelease.{released_types, released_shaped}
use Rattle.c_lower_worlds.proofs.SameSteps.{found_same, where_same}
use Rattle.c_lower_runs.proofs.OfForms.Switch.{first_apart}
use Rattle.c_lower_worlds.proofs.Targets.{arrives}
use Rattle.c_lower_runs.proofs.OfForms.Put.{object_type_is, slot_refers}
use Rattle.c_lower_worlds.proofs.OfNaming.RuleFacts.{both_empty, IsTracked, tracked_is}
use Rattle.c_lower_worlds.proofs.VariableValues.{slot_holds}
use Rattle.c_lower_worlds.proofs.OfNaming.NamedOperands.{used_scope}

-- what hangs on nothing is inside nothing
pub free_outside : (n : ℕ) (o : Owner) → IsFree o → is_inside n o ≡ false
free_outside n (source.inside m) h = absurd (never m h.above)
  where
    never : (m : ℕ) → (let o : Option ℕ = Some m in o ≡ None) → ⊥
    never m e = cc
free_outside n (source.held d k) h = refl
free_outside n (source.lent d k) h = refl
free_outside n loose h = refl
free_outside n (source.adopted_by m) h = refl
free_outside n source.out h = refl
free_outside n source.gone h = refl

pub as_many : (p : Program) (ts : List ℕ) (ds : List FieldDecl) (cells : List source.Value) → HaveCellShapes p ts ds cells → length ds ≡ length cells
as_many p ts [] [] h = refl
as_many p ts [] (a ∷ cells) h = absurd h
as_many p ts (d ∷ ds) [] h = absurd h
as_many p ts (d ∷ ds) (a ∷ cells) h = ap suc (as_many p ts ds cells h.1)

module _ (p : Program) (types_fit : TypesFit p) (heap depth : ℕ) (R : crun.Setup) (m : run.Meaning) (cm : crun.Meaning) (n : ℕ) where
  abbrev setup : run.Setup
  setup = record { program = p; heap = heap; depth = depth }

  pub open_same : (f : Func) (x : ℕ) (vs : List ℕ) → IsFunction p f → IsSameForm p setup R m cm n f (core.simple (core.open_into x vs))
  unfolding run.open_step step.with_moved step.with_released on_reference or_broken
  open_same f x vs is around ids t k s w frame g i kinds up le h =
      found_same p f t k frame (or_fault source.missing (reference_of f x)) w _ _ (or_faults source.missing (reference_of f x)) (λ q eq.
      found_same p f t k frame (object_of f run.any_state x s w.objects) w _ _ (object_of_faults f run.any_state x s w.objects) (λ o eo.
      in_it q o (tracked_is (var_type f x) q (or_fault_ok source.missing (reference_of f x) q eq)) (object_of_ok f run.any_state x q s w.objects o (or_fault_ok source.missing (reference_of f x) q eq) eo)))
    where
      front : Rattle.c_lower_worlds.proofs.OfNaming.RuleFacts.BothEmpty (kinded.tracked_broken f ids rule.WRONG_RELEASE x ++ kinded.struct_broken p f rule.WRONG_RELEASE x (λ p t args. unless (length (kinded.owning_field_types p t args) == length vs) rule.WRONG_COUNT)) (kinded.opened_broken p f ids (kinded.opened_types p (kinded.tracked_type (var_type f x))) vs)
      front = both_empty (kinded.tracked_broken f ids rule.WRONG_RELEASE x ++ kinded.struct_broken p f rule.WRONG_RELEASE x (λ p t args. unless (length (kinded.owning_field_types p t args) == length vs) rule.WRONG_COUNT)) (kinded.opened_broken p f ids (kinded.opened_types p (kinded.tracked_type (var_type f x))) vs) kinds.row

      in_use : use_broken f ids x ≡ []
      in_use = (both_empty (use_broken f ids x) _ (both_empty (kinded.tracked_broken f ids rule.WRONG_RELEASE x) _ front.left).left).left

      zero_more : (j : ℕ) → 0 + j ≡ j
      zero_more j = omega arith

      in_it : (q : Reference) (o : Named) → IsTracked (var_type f x) q → HoldsObject x q.key s w.objects o →
          Same p f t k frame (run.open_step setup o.number (owning_cells (fields_of p q.type) o.object.cells) f vs s w)
          (crun.does_stmts R cm i (stmts_made (form_code p f t (core.simple (core.open_into x vs))).stmts) frame (c_world p g w))
      in_it q o tr held =
          let os = w.objects in
          let ty = core.tracked q.key q.type tr.args in
          let cells = owning_cells (fields_of p q.type) o.object.cells in
          found_same p f t k frame (objects_after_move (is_inside o.number) loose (flat_map objects_in cells) os) w _ _ (moved_faults (is_inside o.number) loose (flat_map objects_in cells) os) (λ after moved.
          let w1 : source.World = step.with_objects w after in
          where_same p f t k frame (is_releasable p after o.number) source.wrong_state (Some o.number) w1 _ _ (λ may.
          let w2 : source.World = step.with_objects w1 (objects_after_release o.number after) in
          filled_same p f t k frame _ (λ s. step.goes s w2) vs cells s w2 (λ count.
          let type_is = object_type_is p f s w frame g k x ty q.type o h tr.is refl held.refers in
          let at_type : object_type f x ≡ q.type = ap object_type_of tr.is in
          let outside = free_outside o.number o.object.owner held.free in
          let shapes : HaveCellShapes p (types_of os) (fields_of p q.type) o.object.cells = subst (λ t. HaveCellShapes p (types_of os) (fields_of p t) o.object.cells) type_is (h.shaped.each o.number o.object held.refers.at) in
          let opened = fields_opened p R cm f x q.type tr.args o.number o.object (types_of os) type_is at_type outside held.free.live shapes (λ j d e. types_fit.fields q.type j d e) (slot_refers ty q.type p f x tr.is refl)
          (λ u e. first_apart p f x ty u tr.is e) t 0 (fields_of p q.type) o.object.cells vs ids s frame (c_world p g w) os after
          (λ j d e. ap (slice_get (fields_of p q.type)) (zero_more j) ∙ e) (λ j a e. ap (slice_get o.object.cells) (zero_more j) ∙ e) (as_many p (types_of os) (fields_of p q.type) o.object.cells shapes) count
          (subst (λ ws. kinded.opened_broken p f ids ws vs ≡ []) (ap (λ o. kinded.opened_types p (kinded.tracked_type o)) tr.is ∙ wanted_are tr.args (fields_of p q.type)) front.right)
          (kinds.scoped.bound x (used_scope f ids x in_use)) h.stands (slot_holds p (types_of os) f s frame x (source.reference o.number) h.stands held.refers.var) held.refers.at moved in
          let kept = kept_out o.number (flat_map objects_in cells) os after o.number o.object moved held.refers.at outside in
          let released = release_is p after o.number o.object (record { at = kept; live = held.free.live }) held.free.out in
          arrives p f t k s (filled vs cells s) w w2 frame opened.to g _ h opened.stands opened.spares
          (released_types o.number after ∙ moved_types (is_inside o.number) loose (flat_map objects_in cells) os after moved)
          (λ sh. released_shaped p o.number after (moved_shaped p (is_inside o.number) loose (flat_map objects_in cells) os after moved sh)) refl (λ q. q)
          (subst (λ is. crun.does_stmts R cm i (stmts_made (open_fields p f x is vs ++ runtime_call prim.Release (syntax.variable (slot_of p f x) ∷ []) ∷ [])) frame (c_world p g w) ≡ crun.goes opened.to (c_world p g w2))
          (sym (ap (λ t. owning_positions (fields_of p t)) at_type ∙ positions_are (fields_of p q.type)))
          (runs_then R cm (open_fields p f x (positions_from 0 (fields_of p q.type)) vs) (runtime_call prim.Release (syntax.variable (slot_of p f x) ∷ []) ∷ []) frame opened.to (c_world p g w) (c_world p g w1) (crun.goes opened.to (c_world p g w2))
          opened.runs (call_runs R cm prim.Release (syntax.variable (slot_of p f x) ∷ []) opened.to (c_world p g w1) (c_world p g w2) (rw (opened.var, released) refl)) i)))))
