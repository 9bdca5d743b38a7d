-- Open: the values of the owning fields go into variables, and their objects out of the one that ends.
use Rattle.std.proofs.Common.{◌≡◌, ◌≢◌, ℕ, Bool, true, false, List, [], ◌∷◌, ◌++◌, Some, None, slice_get, Ok, refl, sym, ap, ◌∙◌, subst}
use Rattle.std.proofs.lemmas.Bool.{false≢true, true≢false, eqb-true}
use Rattle.std.proofs.lemmas.Option.{same_Some}
use Rattle.vlt_core.specs.Core.{Program}
use Rattle.vlt_meaning.specs.World as source
use Rattle.vlt_meaning.specs.World.{Object, Owner, loose, inside, is_inside, above, is_out, is_gone}
use Rattle.vlt_meaning.specs.Found.{◌>>=◌}
use Rattle.vlt_meaning.specs.Objects.{with_owner, with_changed_object, objects_after_move, owned_at}
use Rattle.c_syntax.specs.declared.program.CPrim.TheVariants as prim
use Rattle.c_syntax.specs.C as syntax
use Rattle.c_meaning.specs.World as cw
use Rattle.c_meaning.specs.Values.{p_variable}
use Rattle.c_meaning.specs.Primitives.{or_broken, on_reference}
use Rattle.c_meaning.specs.Run as crun
use Rattle.c_lower.specs.Slots.{Numbers, Sort, of_number, of_reference, of_owner, past, var_at, vars_at, cell_at, cells_at, sorted_slots}
use Rattle.c_lower.specs.Statements.{runtime_call, open_slots}
use Rattle.c_lower_worlds.specs.Worlds.{blocks_of}
use Rattle.c_lower_worlds.specs.Shapes.{types_of, AreShaped}
use Rattle.c_lower_worlds.specs.Sorts.{AreOfSorts}
use Rattle.c_lower_worlds.specs.Naming.Lists.{Each}
use Rattle.c_lower_runs.proofs.OfForms.UnpackAndAdopt.{owned_faults}
use Rattle.c_lower_worlds.proofs.BlockChanges.{disown_is}
use Rattle.c_lower_worlds.proofs.FieldCells.{HaveCells}
use Rattle.c_lower_worlds.proofs.ValueCode.{cells_alike}
use Rattle.c_lower_worlds.proofs.FrameChanges.{with_all, var_kept, var_set}
use Rattle.c_lower_worlds.proofs.MovedObjects.{first_moved, with_blocks}
use Rattle.c_lower_worlds.proofs.VariantSlots.{owned_in_slots}
use Rattle.c_lower_worlds.proofs.StatementLists.{Runs, runs_then, set_runs, call_runs}
use Rattle.c_lower_worlds.proofs.VariableSlots.{Apart}
use Rattle.c_lower_worlds.proofs.OfNaming.FoundObjects.{OnlyFaults, then_faults, ok_same}
use Rattle.c_lower_worlds.proofs.VariableValues.{get_other, owner_types, owner_shaped}

-- ---- objects that are moved

pub moved_faults : (from : Owner → Bool) (to : Owner) (ns : List ℕ) (os : List Object) → OnlyFaults (objects_after_move from to ns os)
moved_faults from to [] os = tt
moved_faults from to (n ∷ ns) os = then_faults (owned_at from os n) (λ m. objects_after_move from to ns (with_changed_object n (with_owner to) os)) (owned_faults from os n) (λ m. moved_faults from to ns (with_changed_object n (with_owner to) os))

pub moved_types : (from : Owner → Bool) (to : Owner) (ns : List ℕ) (os after : List Object) → objects_after_move from to ns os ≡ Ok after → types_of after ≡ types_of os
moved_types from to [] os after e = ap types_of (sym (ok_same os after e))
moved_types from to (n ∷ ns) os after e =
    let a = first_moved from to n ns os after e in moved_types from to ns (with_changed_object n (with_owner to) os) after a.rest ∙ owner_types os n to

pub moved_shaped : (p : Program) (from : Owner → Bool) (to : Owner) (ns : List ℕ) (os after : List Object) → objects_after_move from to ns os ≡ Ok after → AreShaped p os → AreShaped p after
moved_shaped p from to [] os after e h = subst (AreShaped p) (ok_same os after e) h
moved_shaped p from to (n ∷ ns) os after e h =
    let a = first_moved from to n ns os after e in moved_shaped p from to ns (with_changed_object n (with_owner to) os) after a.rest (owner_shaped p os n to h)

-- those of two lists, one after another
pub record Both (from : Owner → Bool) (to : Owner) (ns ms : List ℕ) (os after : List Object) : Type 0 where
  pub mid : List Object
  pub first : objects_after_move from to ns os ≡ Ok mid
  pub second : objects_after_move from to ms mid ≡ Ok after

pub both_moved : (from : Owner → Bool) (to : Owner) (ns ms : List ℕ) (os after : List Object) → objects_after_move from to (ns ++ ms) os ≡ Ok after → Both from to ns ms os after
both_moved from to [] ms os after e = record { mid = os; first = refl; second = e }
both_moved from to (n ∷ ns) ms os after e =
    let a = first_moved from to n (ns ++ ms) os after e in
    let r = both_moved from to ns ms (with_changed_object n (with_owner to) os) after a.rest in
    let owned : owned_at from os n ≡ Ok (record { number = n; object = a.object }) = rw (a.at, a.passes) refl in
    record { mid = r.mid; first = ap (λ m. m >>= (λ x. objects_after_move from to ns (with_changed_object n (with_owner to) os))) owned ∙ r.first; second = r.second }

pub inside_is : (n : ℕ) (o : Owner) → is_inside n o ≡ true → o ≡ inside n
inside_is n (inside m) e = ap (λ m. inside m) (sym (eqb-true n m e))
inside_is n (source.held d k) e = absurd (false≢true e)
inside_is n (source.lent d k) e = absurd (false≢true e)
inside_is n loose e = absurd (false≢true e)
inside_is n (source.adopted_by m) e = absurd (false≢true e)
inside_is n source.out e = absurd (false≢true e)
inside_is n source.gone e = absurd (false≢true e)

-- an object that isn't inside it isn't moved out of it
pub kept_out : (n : ℕ) (ns : List ℕ) (os after : List Object) (m : ℕ) (o : Object) → objects_after_move (is_inside n) loose ns os ≡ Ok after → slice_get os m ≡ Some o → is_inside n o.owner ≡ false → slice_get after m ≡ Some o
kept_out n [] os after m o e at not_in = subst (λ os. slice_get os m ≡ Some o) (ok_same os after e) at
kept_out n (x ∷ ns) os after m o e at not_in =
    let a = first_moved (is_inside n) loose x ns os after e in
    let apart : m ≢ x = λ same. true≢false (sym a.passes ∙ ap (λ (z : Object). is_inside n z.owner) (same_Some a.object o (sym a.at ∙ ap (slice_get os) (sym same) ∙ at)) ∙ not_in) in
    kept_out n ns (with_changed_object x (with_owner loose) os) after m o a.rest (get_other os x m (with_owner loose) apart ∙ at) not_in

module _ (p : Program) (R : crun.Setup) (cm : crun.Meaning) where
  -- the cells of a field go into slots, slot by slot
  pub slots_opened : (n : ℕ) (o : Object) (base : ℕ) (t u : Numbers) (ss : List Sort) (values : List cw.Value) (F : crun.Frame) (w : cw.World) (os after : List Object) → is_inside n o.owner ≡ false → slice_get os n ≡ Some o →
      AreOfSorts ss values → Each (Apart (p_variable base)) (vars_at u ss) →
      ((os : List Object) → slice_get os n ≡ Some o → HaveCells (cells_at base t ss) values F.vars (blocks_of p os)) →
      objects_after_move (is_inside n) loose (owned_in_slots ss values) os ≡ Ok after →
      Runs R cm (open_slots (cells_at base t ss) (sorted_slots ss (vars_at u ss))) F (with_blocks p w os) (crun.goes (with_all (vars_at u ss) values F) (with_blocks p w after))
  unfolding on_reference or_broken
  slots_opened n o base t u [] [] F w os after not_in at of apart cells e = λ i. ap (λ os. crun.goes F (with_blocks p w os)) (ok_same os after e)
  slots_opened n o base t u [] (a ∷ values) F w os after not_in at of apart cells e = absurd of
  slots_opened n o base t u (s ∷ ss) [] F w os after not_in at of apart cells e = absurd of
  slots_opened n o base t u (of_number ∷ ss) (cw.reference r ∷ values) F w os after not_in at of apart cells e = absurd of.0
  slots_opened n o base t u (of_reference ∷ ss) (cw.number z ∷ values) F w os after not_in at of apart cells e = absurd of.0
  slots_opened n o base t u (of_owner ∷ ss) (cw.number z ∷ values) F w os after not_in at of apart cells e = absurd of.0
  slots_opened n o base t u (of_number ∷ ss) (cw.number z ∷ values) F w os after not_in at of apart cells e =
      let v = var_at u of_number in let F1 = crun.with_var v (cw.number z) F in
      runs_then R cm (syntax.set v (syntax.cell (cell_at base t of_number)) ∷ []) (open_slots (cells_at base (past t of_number) ss) (sorted_slots ss (vars_at (past u of_number) ss))) F F1 (with_blocks p w os) (with_blocks p w os) _
      (set_runs R cm v (syntax.cell (cell_at base t of_number)) (cw.number z) F (with_blocks p w os) (cells os at).0)
      (slots_opened n o base (past t of_number) (past u of_number) ss values F1 w os after not_in at of.1 apart.1
      (λ os at. cells_alike base ss (past t of_number) values F.vars F1.vars (blocks_of p os) (sym (var_kept v (cw.number z) (p_variable base) F apart.0)) (cells os at).1) e)
  slots_opened n o base t u (of_reference ∷ ss) (cw.reference r ∷ values) F w os after not_in at of apart cells e =
      let v = var_at u of_reference in let F1 = crun.with_var v (cw.reference r) F in
      runs_then R cm (syntax.set v (syntax.cell (cell_at base t of_reference)) ∷ []) (open_slots (cells_at base (past t of_reference) ss) (sorted_slots ss (vars_at (past u of_reference) ss))) F F1 (with_blocks p w os) (with_blocks p w os) _
      (set_runs R cm v (syntax.cell (cell_at base t of_reference)) (cw.reference r) F (with_blocks p w os) (cells os at).0)
      (slots_opened n o base (past t of_reference) (past u of_reference) ss values F1 w os after not_in at of.1 apart.1
      (λ os at. cells_alike base ss (past t of_reference) values F.vars F1.vars (blocks_of p os) (sym (var_kept v (cw.reference r) (p_variable base) F apart.0)) (cells os at).1) e)
  slots_opened n o base t u (of_owner ∷ ss) (cw.reference None ∷ values) F w os after not_in at of apart cells e =
      let v = var_at u of_owner in let F1 = crun.with_var v (cw.reference None) F in
      runs_then R cm (syntax.set v (syntax.cell (cell_at base t of_owner)) ∷ []) (runtime_call prim.Disown (syntax.variable v ∷ []) ∷ open_slots (cells_at base (past t of_owner) ss) (sorted_slots ss (vars_at (past u of_owner) ss))) F F1 (with_blocks p w os) (with_blocks p w os) _
      (set_runs R cm v (syntax.cell (cell_at base t of_owner)) (cw.reference None) F (with_blocks p w os) (cells os at).0)
      (runs_then R cm (runtime_call prim.Disown (syntax.variable v ∷ []) ∷ []) (open_slots (cells_at base (past t of_owner) ss) (sorted_slots ss (vars_at (past u of_owner) ss))) F1 F1 (with_blocks p w os) (with_blocks p w os) _
      (call_runs R cm prim.Disown (syntax.variable v ∷ []) F1 (with_blocks p w os) (with_blocks p w os) (rw (var_set v (cw.reference None) F) refl))
      (slots_opened n o base (past t of_owner) (past u of_owner) ss values F1 w os after not_in at of.1 apart.1
      (λ os at. cells_alike base ss (past t of_owner) values F.vars F1.vars (blocks_of p os) (sym (var_kept v (cw.reference None) (p_variable base) F apart.0)) (cells os at).1) e))
  slots_opened n o base t u (of_owner ∷ ss) (cw.reference (Some x) ∷ values) F w os after not_in at of apart cells e =
      let v = var_at u of_owner in let F1 = crun.with_var v (cw.reference (Some x)) F in
      let a = first_moved (is_inside n) loose x (owned_in_slots ss values) os after e in
      let other : n ≢ x = λ same. true≢false (sym a.passes ∙ ap (λ (z : Object). is_inside n z.owner) (same_Some a.object o (sym a.at ∙ ap (slice_get os) (sym same) ∙ at)) ∙ not_in) in
      let os1 = with_changed_object x (with_owner loose) os in
      let owner = inside_is n a.object.owner a.passes in
      let disowned = disown_is p os x a.object loose (record { at = a.at; live = ap is_gone owner }) (ap is_out owner) (record { above = refl; out = refl; live = refl }) in
      runs_then R cm (syntax.set v (syntax.cell (cell_at base t of_owner)) ∷ []) (runtime_call prim.Disown (syntax.variable v ∷ []) ∷ open_slots (cells_at base (past t of_owner) ss) (sorted_slots ss (vars_at (past u of_owner) ss))) F F1 (with_blocks p w os) (with_blocks p w os) _
      (set_runs R cm v (syntax.cell (cell_at base t of_owner)) (cw.reference (Some x)) F (with_blocks p w os) (cells os at).0)
      (runs_then R cm (runtime_call prim.Disown (syntax.variable v ∷ []) ∷ []) (open_slots (cells_at base (past t of_owner) ss) (sorted_slots ss (vars_at (past u of_owner) ss))) F1 F1 (with_blocks p w os) (with_blocks p w os1) _
      (call_runs R cm prim.Disown (syntax.variable v ∷ []) F1 (with_blocks p w os) (with_blocks p w os1) (rw (var_set v (cw.reference (Some x)) F, disowned) refl))
      (slots_opened n o base (past t of_owner) (past u of_owner) ss values F1 w os1 after not_in (get_other os x n (with_owner loose) other ∙ at) of.1 apart.1
      (λ os at. cells_alike base ss (past t of_owner) values F.vars F1.vars (blocks_of p os) (sym (var_kept v (cw.reference (Some x)) (p_variable base) F apart.0)) (cells os at).1) a.rest))
