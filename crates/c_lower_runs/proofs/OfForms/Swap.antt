-- Swap: an owning variable's value is exchanged for a field's.
use Rattle.std.proofs.Common.{◌≡◌, ℕ, suc, zero, ◌==◌, Bool, true, false, if◌then◌else◌, List, [], ◌∷◌, ◌++◌, take, Option, Some, None, slice_get, slice_set, Ok, refl, sym, ap, ◌∙◌, subst}
use Rattle.std.proofs.lemmas.Bool.{false≢true, eqb-true}
use Rattle.std.proofs.lemmas.List.{map-set}
use Rattle.std.proofs.lemmas.Option.{none-some, same_Some}
use Rattle.std.specs.List.{list_all}
use Rattle.std.specs.Result.{is_ok}
use Rattle.vlt_core.specs.Core as core
use Rattle.vlt_core.specs.Core.{Ty, FieldDecl, TypeDecl, Func, Program}
use Rattle.vlt_core.specs.Lookups.{fields_of, is_owning, var_type, Reference, reference_of, permitted_in}
use Rattle.vlt_core.specs.Types.{with_keys, decl_of, same_ty, is_struct}
use Rattle.vlt_core.specs.KindedScopes.{use_broken}
use Rattle.vlt_core.specs.KindedOperands.{misfit}
use Rattle.vlt_core.specs.KindedStatements as kinded
use Rattle.vlt_core.specs.KindedStatements.{swap_broken}
use Rattle.vlt_core.specs.declared.rules.TheConstants as rule
use Rattle.vlt_meaning.specs.World as source
use Rattle.vlt_meaning.specs.World.{Object, loose, inside, is_inside, is_loose, is_held_under, Owner, objects_in, one, reference, above, is_out}
use Rattle.vlt_meaning.specs.Found.{or_fault, Named, ◌>>=◌}
use Rattle.vlt_meaning.specs.Objects.{objects_after_move, owned_at, with_cell, with_changed_object, changed_in, in_states}
use Rattle.vlt_meaning.specs.Values.{object_of, tracked_object}
use Rattle.vlt_meaning.specs.Step as step
use Rattle.vlt_meaning.specs.Run as run
use Rattle.c_syntax.specs.declared.program.CVar.{CVar}
use Rattle.c_syntax.specs.View.{stmts_made}
use Rattle.c_meaning.specs.World.{Value}
use Rattle.c_meaning.specs.Values.{p_variable}
use Rattle.c_meaning.specs.Blocks.{Block}
use Rattle.c_meaning.specs.Run as crun
use Rattle.c_lower.specs.Slots.{Sort, Numbers, first_numbers, past_all, slot_vars, slot_of, var_slots, vars_at, sorts_of, slot_sorts, sorted_slots, first_temps, cells_at, field_sorts, field_cells, sorts_of_field, sorts_at, object_type, object_type_of, touched_cells, cell_sorts}
use Rattle.c_lower.specs.Statements.{swap_slots, form_code}
use Rattle.c_lower_worlds.specs.Operators.Codes.{IsBelow}
use Rattle.c_lower_worlds.proofs.OfOperators.Codes.{below_more}
use Rattle.c_lower_worlds.specs.Worlds.{c_world, blocks_of, block_of, slot_values, cell_values, numbers_in, references_in}
use Rattle.c_lower_worlds.specs.Shapes.{types_of, HasShape, HaveCellShapes}
use Rattle.c_lower_worlds.specs.Frames.{HaveValues, StandsFor, Spares, HoldsVar, HoldsTyped}
use Rattle.c_lower_worlds.specs.Same.{Same}
use Rattle.c_lower_worlds.specs.Sorts.{AreOfSorts}
use Rattle.c_lower_worlds.specs.Naming.Lists.{Each}
use Rattle.c_lower_worlds.specs.Naming.Functions.{IsFunction}
use Rattle.c_lower_worlds.specs.SameStatements.{IsSameForm}
use Rattle.c_lower_worlds.specs.Naming.Types.{TypesFit}
use Rattle.c_lower_worlds.proofs.SameLayouts.{laid_to, same_laid, keys_laid}
use Rattle.c_lower_worlds.proofs.OfNaming.FoundObjects.{IsFree, HoldsObject, then_ok, or_faults, or_fault_ok, object_of_ok, object_of_faults}
use Rattle.c_lower_worlds.proofs.BlockChanges.{block_there, live_block_is}
use Rattle.c_lower_runs.proofs.OfForms.SetAndOwn.{other_slots}
use Rattle.c_lower_runs.proofs.OfForms.Drop.{value_bare}
use Rattle.c_lower_runs.proofs.OfForms.ExchangedObjects.{unmoved, lists_apart}
use Rattle.c_lower_runs.proofs.OfForms.SwapSlots.{half, half_blocks, half_block, following, slots_exchanged}
use Rattle.c_lower_worlds.proofs.FieldWriting.{counts_first, cell_shaped}
use Rattle.c_lower_worlds.proofs.FrameChanges.{with_all, all_depth, all_glue, stands_set, stands_alike}
use Rattle.c_lower_runs.proofs.OfForms.OpenFields.{field_unkeyed}
use Rattle.c_lower_runs.proofs.OfForms.Open.{free_outside}
use Rattle.c_lower_runs.proofs.OfForms.OpenSlots.{moved_faults, moved_types, moved_shaped}
use Rattle.c_lower_worlds.proofs.VariantSlots.{shape_sorts, owners_in_order, owned_in_slots}
use Rattle.c_lower_worlds.proofs.LaterShapes.{shape_keys}
use Rattle.c_lower_worlds.proofs.VariableSlots.{Apart, each_map, apart_back, below_temps, slots_between, starts}
use Rattle.c_lower_worlds.proofs.SameSteps.{found_same, where_same}
use Rattle.c_lower_runs.proofs.OfForms.Switch.{first_apart}
use Rattle.c_lower_worlds.proofs.Targets.{arrives, slot_apart, spares_all}
use Rattle.c_lower_runs.proofs.OfForms.Put.{object_type_is, slot_refers}
use Rattle.c_lower_worlds.proofs.OfNaming.RuleFacts.{both_empty, IsTracked, tracked_is}
use Rattle.vlt_core_laws.proofs.Unbroken.{unless_holds, filled_not_empty}
use Rattle.c_lower_worlds.proofs.VariableValues.{slot_holds, slot_below, typed, types_kept}
use Rattle.c_lower_worlds.proofs.CellWriting.{Split, split_at, set_itself}

-- ---- what the rules say of a swap

record SwapFits (f : Func) (v : ℕ) (args : List ℕ) (d : FieldDecl) : Type 0 where
  owns : is_owning d.ty ≡ true
  fits : misfit (Some (with_keys args d.ty)) (var_type f v) ≡ []

swap_fits : (p : Program) (f : Func) (x i v : ℕ) (q : Reference) (tr : IsTracked (var_type f x) q) (d : FieldDecl) → slice_get (fields_of p q.type) i ≡ Some d → swap_broken p f x i v ≡ [] → SwapFits f v tr.args d
swap_fits p f x i v q tr d at e = by (decl_of p q.type) refl
  where
    owned : (b : Bool) → is_owning d.ty ≡ b → (if b then misfit (Some (with_keys tr.args d.ty)) (var_type f v) else rule.WRONG_SWAP ∷ []) ≡ [] → SwapFits f v tr.args d
    owned true own h = record { owns = own; fits = h }
    owned false own h = absurd (filled_not_empty rule.WRONG_SWAP [] h)

    by : (o : Option TypeDecl) → decl_of p q.type ≡ o → SwapFits f v tr.args d
    by None is = absurd (none-some d (sym (ap (λ o. slice_get (Rattle.vlt_core.specs.Lookups.fields_in o) i) is) ∙ at))
    by (Some td) is = struct (is_struct (Some td)) refl
      where
        struct : (b : Bool) → is_struct (Some td) ≡ b → SwapFits f v tr.args d
        struct false refused = let h : rule.WRONG_SWAP ∷ [] ≡ [] = rw (tr.is, at, is, refused) at e in absurd (filled_not_empty rule.WRONG_SWAP [] h)
        struct true so = owned (is_owning d.ty) refl (rw (tr.is, at, is, so) at e)

field_there : (p : Program) (ts : List ℕ) (ds : List FieldDecl) (cells : List source.Value) (i : ℕ) (a : source.Value) → HaveCellShapes p ts ds cells → slice_get cells i ≡ Some a → (d : FieldDecl) × (slice_get ds i ≡ Some d)
field_there p ts [] [] i a h at = absurd (none-some a at)
field_there p ts [] (x ∷ cells) i a h at = absurd h
field_there p ts (d ∷ ds) [] i a h at = absurd h
field_there p ts (d ∷ ds) (x ∷ cells) zero a h at = (d, refl)
field_there p ts (d ∷ ds) (x ∷ cells) (suc i) a h at = field_there p ts ds cells i a h.1 at

-- a value of an owning type is no reference
no_reference : (p : Program) (ts : List ℕ) (ty : Ty) (n : ℕ) → is_owning ty ≡ true → HasShape p ts ty (one (reference n)) → ⊥
no_reference p ts core.int n own h = false≢true own
no_reference p ts core.bool n own h = false≢true own
no_reference p ts (core.tracked k t args) n own h = false≢true own
no_reference p ts (core.guarded k t args) n own h = false≢true own
no_reference p ts (core.variant t args) n own h = false≢true own
no_reference p ts (core.owning states t args) n own h = never n h.shape.object (h.is ∙ ap (λ x. one x) h.shape.is)
  where
    never : (n m : ℕ) → one (reference n) ≡ one (source.owned m) → ⊥
    never n m e = cc
no_reference p ts (core.owning_variant t args) n own h = never n h.case h.parts h.keys h.is
  where
    never : (n k : ℕ) (parts : List source.Part) (keys : List ℕ) → one (reference n) ≡ source.of_case k parts keys → ⊥
    never n k parts keys e = cc

held_tight : (d k : ℕ) (o : Owner) → is_held_under d k o ≡ true → is_loose o ≡ false
held_tight d k (source.held e j) h = refl
held_tight d k (source.lent e j) h = refl
held_tight d k loose h = absurd (false≢true h)
held_tight d k (source.inside m) h = refl
held_tight d k (source.adopted_by m) h = refl
held_tight d k source.out h = refl
held_tight d k source.gone h = refl

-- ---- the block before and after all slots

module _ (p : Program) (R : crun.Setup) (cm : crun.Meaning) (n : ℕ) (o : Object) (free : IsFree o.owner) (not_in : is_inside n o.owner ≡ false) (not_loose : is_loose o.owner ≡ false) where
  owner_blocks : (ns : List (Option Rattle.std.specs.Prelude.ℤ)) (rs : List (Option (Option ℕ))) → (let b : Block = record { parent = above o.owner; is_out = is_out o.owner; numbers = ns; references = rs } in b) ≡ record { parent = None; is_out = false; numbers = ns; references = rs }
  owner_blocks ns rs = ap (λ q. record { parent = q; is_out = is_out o.owner; numbers = ns; references = rs }) free.above ∙ ap (λ b. record { parent = None; is_out = b; numbers = ns; references = rs }) free.out

  half_begins : (os : List Object) (vs : List Value) → slice_get os n ≡ Some o → cell_values p (fields_of p o.type) o.cells ≡ vs → half_blocks p R cm n o free not_in not_loose os vs ≡ blocks_of p os
  half_begins os vs at is =
      set_itself (blocks_of p os) n (half_block p R cm n o free not_in not_loose vs)
      (block_there p os n o (record { at = at; live = free.live }) ∙ ap (λ b. Some b) (owner_blocks (numbers_in (cell_values p (fields_of p o.type) o.cells)) (references_in (cell_values p (fields_of p o.type) o.cells)) ∙ ap (half_block p R cm n o free not_in not_loose) is))

  half_ends : (os : List Object) (vs : List Value) (i : ℕ) (a : source.Value) → slice_get os n ≡ Some o → cell_values p (fields_of p o.type) (slice_set o.cells i a) ≡ vs → half_blocks p R cm n o free not_in not_loose os vs ≡ blocks_of p (with_changed_object n (with_cell i a) os)
  half_ends os vs i a at is =
      let news = cell_values p (fields_of p o.type) (slice_set o.cells i a) in
      ap (half_blocks p R cm n o free not_in not_loose os) (sym is)
      ∙ ap (slice_set (blocks_of p os) n) (ap (λ b. Some b) (sym (owner_blocks (numbers_in news) (references_in news))) ∙ sym (live_block_is p o.owner news free.live))
      ∙ sym (map-set (block_of p) os n (with_cell i a o))
      ∙ ap (λ x. blocks_of p (changed_in n (with_cell i a) os x)) (sym at)

-- ---- the statement

code_is : (p : Program) (f : Func) (x i v : ℕ) (t : Numbers) (type : ℕ) (d : FieldDecl) (before : List Value) → slot_of p f x ≡ p_variable (slot_of p f x).number → object_type f x ≡ type → slice_get (fields_of p type) i ≡ Some d →
    AreOfSorts (field_sorts p (take i (fields_of p type))) before → slot_sorts p d.ty ≡ sorts_of p (var_type f v) →
    swap_slots (p_variable (slot_of p f x).number) (vars_at t (slot_sorts p d.ty)) (cells_at (slot_of p f x).number (following before) (slot_sorts p d.ty)) (sorted_slots (slot_sorts p d.ty) (vars_at (starts p f v) (slot_sorts p d.ty)))
    ≡ swap_slots (slot_of p f x) (vars_at t (cell_sorts p f x i)) (touched_cells p f x i) (var_slots p f v)
code_is p f x i v t type d before as_p at_type declared of sorts =
    let base = (slot_of p f x).number in
    let ss = slot_sorts p d.ty in
    let from = past_all first_numbers (field_sorts p (take i (fields_of p type))) in
    let sorts_are : cell_sorts p f x i ≡ ss = ap (λ t. sorts_at p t i) at_type ∙ ap (λ o. sorts_of_field p o) declared in
    let cells_are : touched_cells p f x i ≡ cells_at base (following before) ss =
    ap (λ t. field_cells p t i base) at_type ∙ ap (λ o. cells_at base from (sorts_of_field p o)) declared ∙ ap (λ from. cells_at base from ss) (counts_first (field_sorts p (take i (fields_of p type))) before of) in
    ap (λ us. swap_slots (p_variable base) (vars_at t ss) (cells_at base (following before) ss) (sorted_slots us (vars_at (starts p f v) us))) sorts
    ∙ ap (λ b. swap_slots b (vars_at t ss) (cells_at base (following before) ss) (var_slots p f v)) (sym as_p)
    ∙ ap (λ us. swap_slots (slot_of p f x) (vars_at t us) (cells_at base (following before) ss) (var_slots p f v)) (sym sorts_are)
    ∙ ap (λ cs. swap_slots (slot_of p f x) (vars_at t (cell_sorts p f x i)) cs (var_slots p f v)) (sym cells_are)

module _ (p : Program) (types_fit : TypesFit p) (heap depth : ℕ) (R : crun.Setup) (m : run.Meaning) (cm : crun.Meaning) (n : ℕ) where
  abbrev setup : run.Setup
  setup = record { program = p; heap = heap; depth = depth }

  abbrev states_of : (i : ℕ) → Reference → core.States
  states_of i q = permitted_in p q.type i

  pub swap_same : (f : Func) (x i v : ℕ) → IsFunction p f → IsSameForm p setup R m cm n f (core.simple (core.swap x i v))
  unfolding run.swap_step step.with_moved
  swap_same f x i v is around ids t k s w frame g j kinds up le h =
      found_same p f t k frame (object_of f (states_of i) x s w.objects) w _ _ (object_of_faults f (states_of i) x s w.objects) (λ o eo.
      found_same p f t k frame (or_fault source.missing (slice_get o.object.cells i)) w _ _ (or_faults source.missing (slice_get o.object.cells i)) (λ old eold.
      found_same p f t k frame (or_fault source.no_value (s.vars v)) w _ _ (or_faults source.no_value (s.vars v)) (λ new enew.
      let a = then_ok (or_fault source.missing (reference_of f x)) (λ r. tracked_object r x s w.objects >>= in_states (states_of i r)) o eo in
      let refers = or_fault_ok source.missing (reference_of f x) a.found a.first in
      in_it a.found o old new (tracked_is (var_type f x) a.found refers) (object_of_ok f (states_of i) x a.found s w.objects o refers eo)
      (or_fault_ok source.missing (slice_get o.object.cells i) old eold) (or_fault_ok source.no_value (s.vars v) new enew))))
    where
      broken : swap_broken p f x i v ≡ []
      broken = (both_empty (kinded.tracked_broken f ids rule.WRONG_SWAP x ++ use_broken f ids v) (swap_broken p f x i v) kinds.row).right

      in_it : (q : Reference) (o : Named) (old new : source.Value) → IsTracked (var_type f x) q → HoldsObject x q.key s w.objects o → slice_get o.object.cells i ≡ Some old → s.vars v ≡ Some new →
          Same p f t k frame (run.swap_step i v o old new s w) (crun.does_stmts R cm j (stmts_made (form_code p f t (core.simple (core.swap x i v))).stmts) frame (c_world p g w))
      in_it q o old new tr held cell value =
          let os = w.objects in
          where_same p f t k frame (list_all (λ m. is_ok (owned_at is_loose os m)) (objects_in new)) source.not_owned None w _ _ (λ all.
          found_same p f t k frame (objects_after_move (is_inside o.number) loose (objects_in old) os) w _ _ (moved_faults (is_inside o.number) loose (objects_in old) os) (λ mid outs.
          let w1 : source.World = step.with_objects w mid in
          found_same p f t k frame (objects_after_move is_loose (inside o.number) (objects_in new) mid) w1 _ _ (moved_faults is_loose (inside o.number) (objects_in new) mid) (λ after ins.
          let w3 : source.World = step.with_changed (step.with_objects w1 after) o.number (with_cell i new) in
          let type_is = object_type_is p f s w frame g k x (core.tracked q.key q.type tr.args) q.type o h tr.is refl held.refers in
          let shapes : HaveCellShapes p (types_of os) (fields_of p q.type) o.object.cells = subst (λ t. HaveCellShapes p (types_of os) (fields_of p t) o.object.cells) type_is (h.shaped.each o.number o.object held.refers.at) in
          let there = field_there p (types_of os) (fields_of p q.type) o.object.cells i old shapes cell in
          finish q o old new tr held value mid outs all after ins type_is there.0 there.1 (split_at p (types_of os) (fields_of p q.type) o.object.cells i there.0 old shapes there.1 cell))))
        where
          finish : (q : Reference) (o : Named) (old new : source.Value) (tr : IsTracked (var_type f x) q) → HoldsObject x q.key s w.objects o → s.vars v ≡ Some new → (mid : List Object) → objects_after_move (is_inside o.number) loose (objects_in old) w.objects ≡ Ok mid →
              list_all (λ m. is_ok (owned_at is_loose w.objects m)) (objects_in new) ≡ true → (after : List Object) → objects_after_move is_loose (inside o.number) (objects_in new) mid ≡ Ok after → o.object.type ≡ q.type →
              (d : FieldDecl) → slice_get (fields_of p q.type) i ≡ Some d → Split p (types_of w.objects) (fields_of p q.type) o.object.cells i d old →
              Same p f t k frame (step.goes (step.with_var v (Some old) s) (step.with_changed (step.with_objects (step.with_objects w mid) after) o.number (with_cell i new)))
              (crun.does_stmts R cm j (stmts_made (form_code p f t (core.simple (core.swap x i v))).stmts) frame (c_world p g w))
          finish q o old new tr held value mid outs all after ins type_is d declared sp =
              let os = w.objects in
              let ts = types_of os in
              let fit = swap_fits p f x i v q tr d declared broken in
              let vd = typed p ts f s frame v new h.stands value in
              let fits = unless_holds (same_ty (with_keys tr.args d.ty) vd.ty) rule.WRONG_TYPE (subst (λ o. misfit (Some (with_keys tr.args d.ty)) o ≡ []) vd.declared fit.fits) in
              let laid = laid_to p (with_keys tr.args d.ty) vd.ty fits in
              let keys = keys_laid p tr.args d.ty in
              let new_shape : HasShape p ts d.ty new = shape_keys p ts tr.args d.ty new ((same_laid p (with_keys tr.args d.ty) vd.ty fits).shape ts new vd.shape) in
              let bare_type = field_unkeyed p d.ty (types_fit.fields q.type i d declared) in
              let olds_are = owners_in_order p ts d.ty old sp.shape (value_bare p ts d.ty old sp.shape bare_type) in
              let news_are = owners_in_order p ts d.ty new new_shape (value_bare p ts d.ty new new_shape bare_type) in
              let ss = slot_sorts p d.ty in
              let olds = slot_values p d.ty old in
              let news = slot_values p d.ty new in
              let sorts : ss ≡ sorts_of p (var_type f v) = keys.sorts ∙ laid.sorts ∙ sym (ap (sorts_of p) vd.declared) in
              let base = (slot_of p f x).number in
              let as_p = slot_refers (core.tracked q.key q.type tr.args) q.type p f x tr.is refl in
              let other = differ q o new d tr.args held value fit.owns new_shape in
              let u = starts p f v in
              let not_in = free_outside o.number o.object.owner held.free in
              let not_loose = held_tight s.depth q.key o.object.owner held.held.held in
              let have : HaveValues (vars_at u ss) news frame =
              subst (λ ss. HaveValues (vars_at u ss) news frame) (sym sorts) (subst (λ vs. HaveValues (slot_vars p f v) vs frame) (sym (keys.values new ∙ laid.values new)) (has_slots vd.ty new vd.declared value)) in
              let below_slots : Each (IsBelow (first_temps p f)) (vars_at u ss) = subst (λ ss. Each (IsBelow (first_temps p f)) (vars_at u ss)) (sym sorts) (below_temps p f v) in
              let base_below : IsBelow (first_temps p f) (p_variable base) = subst (IsBelow (first_temps p f)) as_p (slot_below p f x (core.tracked q.key q.type tr.args) tr.is) in
              let base_apart : Each (Apart (p_variable base)) (vars_at u ss) =
              subst (λ ss. Each (Apart (p_variable base)) (vars_at u ss)) (sym sorts) (subst (λ y. Each (Apart y) (slot_vars p f v)) as_p (apart_slot (core.tracked q.key q.type tr.args) tr.is other)) in
              let r = slots_exchanged p R cm o.number o.object held.free not_in not_loose base (first_temps p f) t u ss sp.before olds news sp.after frame (c_world p g w) os mid after
              (record { base_below = base_below; slots_below = below_slots; up = up; base_apart = base_apart })
              (shape_sorts p ts d.ty old sp.shape) (shape_sorts p ts d.ty new new_shape) (ap frame.vars (sym as_p) ∙ slot_holds p ts f s frame x (reference o.number) h.stands held.refers.var) have held.refers.at
              (ap (λ ns. objects_after_move (is_inside o.number) loose ns os) olds_are ∙ outs) (ap (λ ns. objects_after_move is_loose (inside o.number) ns mid) news_are ∙ ins)
              (subst (λ ns. Each (λ y. Rattle.c_lower_runs.proofs.OfForms.ExchangedObjects.Outside y ns) (owned_in_slots ss news)) (sym olds_are) (subst (λ ns. Each (λ y. Rattle.c_lower_runs.proofs.OfForms.ExchangedObjects.Outside y (objects_in old)) ns) (sym news_are)
              (lists_apart o.number (objects_in old) (objects_in new) os mid outs all))) in
              let old_shape = laid.shape ts old (keys.shape ts old sp.shape) in
              let slots_are : with_all (vars_at u ss) olds frame ≡ with_all (slot_vars p f v) (slot_values p vd.ty old) frame =
              ap (λ ss. with_all (vars_at u ss) olds frame) sorts ∙ ap (λ vs. with_all (slot_vars p f v) vs frame) (keys.values old ∙ laid.values old) in
              let stands1 : StandsFor p ts f (step.with_var v (Some old) s) (with_all (vars_at u ss) olds frame) =
              subst (StandsFor p ts f (step.with_var v (Some old) s)) (sym slots_are) (stands_set p ts f s frame v vd.ty old h.stands vd.declared old_shape) in
              let depths : r.to.depth ≡ (with_all (vars_at u ss) olds frame).depth = r.depth ∙ sym (all_depth (vars_at u ss) olds frame) in
              let glues : r.to.is_glue ≡ (with_all (vars_at u ss) olds frame).is_glue = r.is_glue ∙ sym (all_glue (vars_at u ss) olds frame) in
              let stands2 = stands_alike p ts f (step.with_var v (Some old) s) (with_all (vars_at u ss) olds frame) r.to
              (record { vars = λ z b. sym (r.vars z (temps_apart z ss (below_more up z b))); depth = sym depths; is_glue = sym glues }) stands1 in
              let spared = spares_all p f t v (slot_values p vd.ty old) frame in
              let spares2 : Spares (first_temps p f) t frame r.to = record {
                vars = λ z b. spared.vars z b ∙ ap (λ (F : crun.Frame). F.vars z) (sym slots_are) ∙ sym (r.vars z (temps_apart z ss b.below));
                depth = sym r.depth;
                is_glue = sym r.is_glue;
              } in
              let still = unmoved is_loose (inside o.number) (objects_in new) mid after o.number o.object ins (unmoved (is_inside o.number) loose (objects_in old) os mid o.number o.object outs held.refers.at not_in) not_loose in
              let types_are : types_of after ≡ ts = moved_types is_loose (inside o.number) (objects_in new) mid after ins ∙ moved_types (is_inside o.number) loose (objects_in old) os mid outs in
              let starts_half = half_begins p R cm o.number o.object held.free not_in not_loose os (sp.before ++ (olds ++ sp.after)) held.refers.at (ap (λ t. cell_values p (fields_of p t) o.object.cells) type_is ∙ sp.values) in
              let ends_half = half_ends p R cm o.number o.object held.free not_in not_loose after (sp.before ++ (news ++ sp.after)) i new still (ap (λ t. cell_values p (fields_of p t) (slice_set o.object.cells i new)) type_is ∙ sp.others new) in
              let code = code_is p f x i v t q.type d sp.before as_p (ap object_type_of tr.is) declared sp.sorts sorts in
              let w3 : source.World = step.with_changed (step.with_objects (step.with_objects w mid) after) o.number (with_cell i new) in
              arrives p f t k s (step.with_var v (Some old) s) w w3 frame r.to g _ h stands2 spares2 (types_kept after o.number (with_cell i new) (λ o. refl) ∙ types_are)
              (λ sh. cell_shaped p after o.number i new (moved_shaped p is_loose (inside o.number) (objects_in new) mid after ins (moved_shaped p (is_inside o.number) loose (objects_in old) os mid outs sh)) (λ z at.
              subst (λ (z : Object). HaveCellShapes p (types_of after) (fields_of p z.type) (slice_set z.cells i new)) (same_Some o.object z (sym still ∙ at))
              (subst (λ us. HaveCellShapes p us (fields_of p o.object.type) (slice_set o.object.cells i new)) (sym types_are)
              (subst (λ t. HaveCellShapes p ts (fields_of p t) (slice_set o.object.cells i new)) (sym type_is) (sp.shapes new new_shape))))) refl (λ q. q)
              (subst (λ xs. crun.does_stmts R cm j (stmts_made xs) frame (c_world p g w) ≡ crun.goes r.to (c_world p g w3)) code
              (subst (λ bs. crun.does_stmts R cm j (stmts_made (swap_slots (p_variable base) (vars_at t ss) (cells_at base (following sp.before) ss) (sorted_slots ss (vars_at u ss)))) frame (record (c_world p g w) { blocks = bs }) ≡ crun.goes r.to (c_world p g w3)) starts_half
              (subst (λ bs. crun.does_stmts R cm j (stmts_made (swap_slots (p_variable base) (vars_at t ss) (cells_at base (following sp.before) ss) (sorted_slots ss (vars_at u ss)))) frame (half p R cm o.number o.object held.free not_in not_loose (c_world p g w) os (sp.before ++ (olds ++ sp.after))) ≡ crun.goes r.to (record (c_world p g w) { blocks = bs })) ends_half (r.runs j))))
            where
              differ : (q : Reference) (o : Named) (new : source.Value) (d : FieldDecl) (args : List ℕ) → HoldsObject x q.key s w.objects o → s.vars v ≡ Some new → is_owning d.ty ≡ true → HasShape p (types_of w.objects) d.ty new → (x == v) ≡ false
              differ q o new d args held value owns shape = by (x == v) refl
                where
                  by : (b : Bool) → (x == v) ≡ b → b ≡ false
                  by false e = refl
                  by true e = absurd (no_reference p (types_of w.objects) d.ty o.number owns (subst (HasShape p (types_of w.objects) d.ty) (same_Some new (one (reference o.number)) (sym value ∙ ap s.vars (sym (eqb-true x v e)) ∙ held.refers.var)) shape))

              -- the slot of the block is none of the variable's
              apart_slot : (ty : Ty) → var_type f x ≡ Some ty → (x == v) ≡ false → Each (Apart (slot_of p f x)) (slot_vars p f v)
              apart_slot ty is e = each_map (λ u. Each (Apart u) (slot_vars p f x)) (Apart (slot_of p f x)) (slot_vars p f v) (λ u y. apart_back u (slot_of p f x) (first_apart p f x ty u is y)) (other_slots p f x v e)

              temps_apart : (z : CVar) (ss : List Sort) → IsBelow t z → Each (Apart z) (vars_at t ss)
              temps_apart z ss below = each_map (Rattle.c_lower_worlds.specs.Frames.IsBetween t (past_all t ss)) (Apart z) (vars_at t ss) (λ y b. apart_back y z (slot_apart t (past_all t ss) y z b below)) (slots_between t ss)

              has_slots : (ty : Ty) (a : source.Value) → var_type f v ≡ Some ty → s.vars v ≡ Some a → HaveValues (slot_vars p f v) (slot_values p ty a) frame
              has_slots ty a declared value =
                  let h1 : HoldsVar p (types_of w.objects) f v (Some a) frame = subst (λ b. HoldsVar p (types_of w.objects) f v b frame) value (h.stands.vars v) in
                  (subst (λ o. HoldsTyped p (types_of w.objects) o (slot_vars p f v) a frame) declared h1).at
