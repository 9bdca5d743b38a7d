-- Open, field by field.
use Rattle.std.proofs.Common.{◌≡◌, ℕ, suc, ◌+◌, ◌==◌, Bool, true, false, if◌then◌else◌, List, [], ◌∷◌, ◌++◌, map, filter, take, length, Some, None, slice_get, Ok, refl, sym, ap, ◌∙◌, subst, arith}
use Rattle.std.proofs.lemmas.Option.{same_Some}
use Rattle.std.proofs.lemmas.Bool.Decides.{nat_tests}
use Rattle.std.specs.List.{flat_map, enumerate_from}
use Rattle.vlt_core.specs.Core as core
use Rattle.vlt_core.specs.Core.{Ty, FieldDecl, Func, Program}
use Rattle.vlt_core.specs.Lookups.{fields_of, is_owning, var_type}
use Rattle.vlt_core.specs.Types.{with_keys, same_ty}
use Rattle.vlt_core.specs.KindedHeads.{has, is_field_type}
use Rattle.vlt_core.specs.KindedScopes.{Ids, binding_broken, with_binding}
use Rattle.vlt_core.specs.KindedOperands.{misfit}
use Rattle.vlt_core.specs.KindedStatements.{opened_broken}
use Rattle.vlt_core.specs.declared.rules.TheConstants as rule
use Rattle.vlt_meaning.specs.World as source
use Rattle.vlt_meaning.specs.World.{Object, loose, is_inside, objects_in, is_gone}
use Rattle.vlt_meaning.specs.Objects.{objects_after_move}
use Rattle.vlt_meaning.specs.Operands.{owning_cells}
use Rattle.vlt_meaning.specs.Step as step
use Rattle.c_syntax.specs.declared.program.CVar.{CVar}
use Rattle.c_meaning.specs.World as cw
use Rattle.c_meaning.specs.World.{reference}
use Rattle.c_meaning.specs.Values.{p_variable}
use Rattle.c_meaning.specs.Run as crun
use Rattle.c_lower.specs.Slots.{Numbers, first_numbers, past_all, slot_vars, slot_of, var_slots, vars_at, sorts_of, slot_sorts, sorted_slots, first_temps, cells_at, field_sorts, field_cells, sorts_of_field, object_type, touched_cells}
use Rattle.c_lower.specs.Statements.{open_slots, open_fields, owning_positions}
use Rattle.c_lower_worlds.specs.Worlds.{blocks_of, slot_values, cell_values}
use Rattle.c_lower_worlds.specs.Shapes.{HasShape, HaveCellShapes}
use Rattle.c_lower_worlds.specs.Frames.{StandsFor, Spares}
use Rattle.c_lower_worlds.specs.Naming.Lists.{Each}
use Rattle.c_lower_worlds.specs.Same.{Same}
use Rattle.c_lower_worlds.proofs.SameLayouts.{laid_to, keys_laid}
use Rattle.c_lower_worlds.proofs.BlockChanges.{block_there}
use Rattle.c_lower_worlds.proofs.FieldCells.{HaveCells, of_field}
use Rattle.c_lower_runs.proofs.OfForms.SetAndOwn.{other_slots}
use Rattle.c_lower_runs.proofs.OfForms.Drop.{value_bare, unkeyed}
use Rattle.c_lower_worlds.proofs.FrameChanges.{with_all, all_kept, stands_set}
use Rattle.c_lower_worlds.proofs.MovedObjects.{with_blocks}
use Rattle.c_lower_runs.proofs.OfForms.OpenSlots.{both_moved, kept_out, slots_opened}
use Rattle.c_lower_worlds.proofs.VariantSlots.{shape_sorts, owners_in_order}
use Rattle.c_lower_worlds.proofs.StatementLists.{Runs, runs_then}
use Rattle.c_lower_worlds.proofs.OfNaming.BoundScopes.{binding_widens}
use Rattle.c_lower_worlds.proofs.VariableSlots.{Apart, each_map, starts}
use Rattle.c_lower_worlds.proofs.SameSteps.{where_same, spares_self, spares_more}
use Rattle.c_lower_runs.proofs.OfForms.Switch.{fresh_var, differs}
use Rattle.c_lower_worlds.proofs.OfNaming.DeclaredVariables.{bound_declared}
use Rattle.c_lower_worlds.proofs.Targets.{spares_all}
use Rattle.c_lower_worlds.proofs.OfNaming.RuleFacts.{both_empty}
use Rattle.vlt_core_laws.proofs.Unbroken.{unless_holds}

-- ---- the owning fields

abbrev pub positions_from : ℕ → List FieldDecl → List ℕ
positions_from k [] = []
positions_from k (d ∷ ds) = if is_owning d.ty then k ∷ positions_from (suc k) ds else positions_from (suc k) ds

abbrev pub wanted_of : List ℕ → List FieldDecl → List Ty
wanted_of args [] = []
wanted_of args (d ∷ ds) = if is_owning d.ty then with_keys args d.ty ∷ wanted_of args ds else wanted_of args ds

pub positions_are : (ds : List FieldDecl) → owning_positions ds ≡ positions_from 0 ds
positions_are ds = by 0 ds
  where
    by : (k : ℕ) (ds : List FieldDecl) → map (λ q. q.0) (filter (λ (q : ℕ × FieldDecl). is_owning q.1.ty) (enumerate_from k ds)) ≡ positions_from k ds
    by k [] = refl
    by k (d ∷ ds) = one (is_owning d.ty) ∙ ap (λ r. if is_owning d.ty then k ∷ r else r) (by (k + 1) ds ∙ ap (λ n. positions_from n ds) (more k))
      where
        more : (k : ℕ) → k + 1 ≡ suc k
        more k = omega arith

        one : (b : Bool) → map (λ (q : ℕ × FieldDecl). q.0) (if b then (k, d) ∷ filter (λ (q : ℕ × FieldDecl). is_owning q.1.ty) (enumerate_from (k + 1) ds) else filter (λ (q : ℕ × FieldDecl). is_owning q.1.ty) (enumerate_from (k + 1) ds)) ≡
            (if b then k ∷ map (λ q. q.0) (filter (λ (q : ℕ × FieldDecl). is_owning q.1.ty) (enumerate_from (k + 1) ds)) else map (λ q. q.0) (filter (λ (q : ℕ × FieldDecl). is_owning q.1.ty) (enumerate_from (k + 1) ds)))
        one true = refl
        one false = refl

keys_owning : (args : List ℕ) (ty : Ty) → is_owning (with_keys args ty) ≡ is_owning ty
keys_owning args core.int = refl
keys_owning args core.bool = refl
keys_owning args (core.tracked k t a) = refl
keys_owning args (core.owning s t a) = refl
keys_owning args (core.guarded k t a) = refl
keys_owning args (core.variant t a) = refl
keys_owning args (core.owning_variant t a) = refl

pub wanted_are : (args : List ℕ) (ds : List FieldDecl) → filter is_owning (map (λ (d : FieldDecl). with_keys args d.ty) ds) ≡ wanted_of args ds
wanted_are args [] = refl
wanted_are args (d ∷ ds) =
    ap (λ b. if b then with_keys args d.ty ∷ filter is_owning (map (λ (d : FieldDecl). with_keys args d.ty) ds) else filter is_owning (map (λ (d : FieldDecl). with_keys args d.ty) ds)) (keys_owning args d.ty)
    ∙ ap (λ r. if is_owning d.ty then with_keys args d.ty ∷ r else r) (wanted_are args ds)

pub field_unkeyed : (p : Program) (ty : Ty) → is_field_type p ty ≡ true → unkeyed p ty ≡ true
field_unkeyed p core.int e = refl
field_unkeyed p core.bool e = refl
field_unkeyed p (core.tracked k t a) e = refl
field_unkeyed p (core.owning s t a) e = refl
field_unkeyed p (core.guarded k t a) e = refl
field_unkeyed p (core.variant t a) e = e
field_unkeyed p (core.owning_variant t a) e = e

-- ---- variables that are filled, one after another

abbrev pub filled : List ℕ → List source.Value → source.Frame → source.Frame
filled (v ∷ vs) (a ∷ rest) s = filled vs rest (step.with_var v (Some a) s)
filled _ _ s = s

pub filled_same : (p : Program) (f : Func) (t : Numbers) (k : ℕ) (F : crun.Frame) (C : crun.Step) (go : source.Frame → step.Step) (vs : List ℕ) (cells : List source.Value) (s : source.Frame) (w : source.World) →
    (length cells ≡ length vs → Same p f t k F (go (filled vs cells s)) C) → Same p f t k F (step.with_filled f vs cells s w go) C
unfolding step.with_filled
filled_same p f t k F C go [] [] s w h = h refl
filled_same p f t k F C go [] (a ∷ cells) s w h = tt
filled_same p f t k F C go (v ∷ vs) [] s w h = tt
filled_same p f t k F C go (v ∷ vs) (a ∷ cells) s w h =
    where_same p f t k F (step.is_fillable f v s) source.not_empty None w _ C (λ free.
    filled_same p f t k F C go vs cells (step.with_var v (Some a) s) w (λ e. h (ap suc e)))

module _ (p : Program) (R : crun.Setup) (cm : crun.Meaning) (f : Func) (x : ℕ) (type : ℕ) (args : List ℕ) (n : ℕ) (o : Object) (ts : List ℕ) (type_is : o.type ≡ type) (at_type : object_type f x ≡ type)
    (not_in : is_inside n o.owner ≡ false) (live : is_gone o.owner ≡ false) (shapes : HaveCellShapes p ts (fields_of p type) o.cells)
    (plain : (i : ℕ) (d : FieldDecl) → slice_get (fields_of p type) i ≡ Some d → is_field_type p d.ty ≡ true) (as_p : slot_of p f x ≡ p_variable (slot_of p f x).number)
    (below : (u : CVar) → Each (Apart u) (slot_vars p f x) → Apart u (slot_of p f x)) where
  base : ℕ
  base = (slot_of p f x).number

  -- the cells of a field have its value
  read_field : (os : List Object) (F : crun.Frame) (i : ℕ) (d : FieldDecl) (a : source.Value) → slice_get os n ≡ Some o → F.vars (p_variable (slot_of p f x).number) ≡ Some (reference (Some n)) → slice_get (fields_of p type) i ≡ Some d → slice_get o.cells i ≡ Some a →
      HasShape p ts d.ty a × HaveCells (cells_at (slot_of p f x).number (past_all first_numbers (field_sorts p (take i (fields_of p type)))) (slot_sorts p d.ty)) (slot_values p d.ty a) F.vars (blocks_of p os)
  read_field os F i d a at var declared cell =
      let r = of_field p ts (slot_of p f x).number i (fields_of p type) o.cells a F.vars (blocks_of p os) shapes
      (record {
        number = n;
        refers = var;
        block = _;
        live = block_there p os n o (record { at = at; live = live });
        numbers = ap (λ t. Rattle.c_lower_worlds.specs.Worlds.numbers_in (cell_values p (fields_of p t) o.cells)) type_is;
        references = ap (λ t. Rattle.c_lower_worlds.specs.Worlds.references_in (cell_values p (fields_of p t) o.cells)) type_is;
      }) cell in
      subst (λ (d : FieldDecl). HasShape p ts d.ty a × HaveCells (cells_at (slot_of p f x).number (past_all first_numbers (field_sorts p (take i (fields_of p type)))) (slot_sorts p d.ty)) (slot_values p d.ty a) F.vars (blocks_of p os))
      (same_Some r.0 d (sym r.1 ∙ declared)) (r.2, r.3)

  pub record Opened (t : Numbers) (k : ℕ) (ds : List FieldDecl) (cells : List source.Value) (vs : List ℕ) (s : source.Frame) (F : crun.Frame) (w : cw.World) (os after : List Object) : Type 0 where
    pub to : crun.Frame
    pub runs : Runs R cm (open_fields p f x (positions_from k ds) vs) F (with_blocks p w os) (crun.goes to (with_blocks p w after))
    pub stands : StandsFor p ts f (filled vs (owning_cells ds cells) s) to
    pub var : to.vars (slot_of p f x) ≡ Some (reference (Some n))
    pub spares : Spares (first_temps p f) t F to

  pub fields_opened : (t : Numbers) (k : ℕ) (ds : List FieldDecl) (cells : List source.Value) (vs : List ℕ) (ids : Ids) (s : source.Frame) (F : crun.Frame) (w : cw.World) (os after : List Object) →
      ((j : ℕ) (d : FieldDecl) → slice_get ds j ≡ Some d → slice_get (fields_of p type) (k + j) ≡ Some d) → ((j : ℕ) (a : source.Value) → slice_get cells j ≡ Some a → slice_get o.cells (k + j) ≡ Some a) →
      length ds ≡ length cells → length (owning_cells ds cells) ≡ length vs → opened_broken p f ids (wanted_of args ds) vs ≡ [] → has ids.vars_ever x ≡ true → StandsFor p ts f s F → F.vars (slot_of p f x) ≡ Some (reference (Some n)) → slice_get os n ≡ Some o →
      objects_after_move (is_inside n) loose (flat_map objects_in (owning_cells ds cells)) os ≡ Ok after → Opened t k ds cells vs s F w os after
  fields_opened t k [] [] [] ids s F w os after decls values long count broken ever stands var at e =
      record { to = F; runs = λ i. ap (λ os. crun.goes F (with_blocks p w os)) (Rattle.c_lower_worlds.proofs.OfNaming.FoundObjects.ok_same os after e); stands = stands; var = var; spares = spares_self (first_temps p f) t F }
  fields_opened t k [] [] (v ∷ vs) ids s F w os after decls values long count broken ever stands var at e = absurd (omega arith)
  fields_opened t k [] (a ∷ cells) vs ids s F w os after decls values long count broken ever stands var at e = absurd (omega arith)
  fields_opened t k (d ∷ ds) [] vs ids s F w os after decls values long count broken ever stands var at e = absurd (omega arith)
  fields_opened t k (d ∷ ds) (a ∷ cells) vs ids s F w os after decls values long count broken ever stands var at e =
      by (is_owning d.ty) refl vs count broken e (λ vs ids s F os count broken ever stands var at e. fields_opened t (suc k) ds cells vs ids s F w os after (λ j d q. ap (slice_get (fields_of p type)) (more k j) ∙ decls (suc j) d q)
      (λ j a q. ap (slice_get o.cells) (more k j) ∙ values (suc j) a q) (omega arith) count broken ever stands var at e)
    where
      more : (k j : ℕ) → suc k + j ≡ k + suc j
      more k j = omega arith

      none : (k : ℕ) → k ≡ k + 0
      none k = omega arith

      Later : Type 0
      Later = (vs : List ℕ) (ids : Ids) (s : source.Frame) (F : crun.Frame) (os : List Object) → length (owning_cells ds cells) ≡ length vs → opened_broken p f ids (wanted_of args ds) vs ≡ [] → has ids.vars_ever x ≡ true → StandsFor p ts f s F →
          F.vars (slot_of p f x) ≡ Some (reference (Some n)) → slice_get os n ≡ Some o → objects_after_move (is_inside n) loose (flat_map objects_in (owning_cells ds cells)) os ≡ Ok after → Opened t (suc k) ds cells vs s F w os after

      by : (b : Bool) → is_owning d.ty ≡ b → (vs : List ℕ) → length (if is_owning d.ty then a ∷ owning_cells ds cells else owning_cells ds cells) ≡ length vs →
          opened_broken p f ids (if is_owning d.ty then with_keys args d.ty ∷ wanted_of args ds else wanted_of args ds) vs ≡ [] →
          objects_after_move (is_inside n) loose (flat_map objects_in (if is_owning d.ty then a ∷ owning_cells ds cells else owning_cells ds cells)) os ≡ Ok after → Later → Opened t k (d ∷ ds) (a ∷ cells) vs s F w os after
      by false own vs count broken e later =
          let r = later vs ids s F os (subst (λ b. length (if b then a ∷ owning_cells ds cells else owning_cells ds cells) ≡ length vs) own count)
          (subst (λ b. opened_broken p f ids (if b then with_keys args d.ty ∷ wanted_of args ds else wanted_of args ds) vs ≡ []) own broken) ever stands var at
          (subst (λ b. objects_after_move (is_inside n) loose (flat_map objects_in (if b then a ∷ owning_cells ds cells else owning_cells ds cells)) os ≡ Ok after) own e) in
          record {
            to = r.to;
            runs = subst (λ b. Runs R cm (open_fields p f x (if b then k ∷ positions_from (suc k) ds else positions_from (suc k) ds) vs) F (with_blocks p w os) (crun.goes r.to (with_blocks p w after))) (sym own) r.runs;
            stands = subst (λ b. StandsFor p ts f (filled vs (if b then a ∷ owning_cells ds cells else owning_cells ds cells) s) r.to) (sym own) r.stands;
            var = r.var;
            spares = r.spares;
          }
      by true own [] count broken e later = absurd (let q : length (a ∷ owning_cells ds cells) ≡ 0 = subst (λ b. length (if b then a ∷ owning_cells ds cells else owning_cells ds cells) ≡ 0) own count in omega arith)
      by true own (v ∷ vs) count broken e later =
          let count1 : length (a ∷ owning_cells ds cells) ≡ length (v ∷ vs) = subst (λ b. length (if b then a ∷ owning_cells ds cells else owning_cells ds cells) ≡ length (v ∷ vs)) own count in
          let broken1 : opened_broken p f ids (with_keys args d.ty ∷ wanted_of args ds) (v ∷ vs) ≡ [] = subst (λ b. opened_broken p f ids (if b then with_keys args d.ty ∷ wanted_of args ds else wanted_of args ds) (v ∷ vs) ≡ []) own broken in
          let e1 : objects_after_move (is_inside n) loose (objects_in a ++ flat_map objects_in (owning_cells ds cells)) os ≡ Ok after =
          subst (λ b. objects_after_move (is_inside n) loose (flat_map objects_in (if b then a ∷ owning_cells ds cells else owning_cells ds cells)) os ≡ Ok after) own e in
          let q = both_empty (misfit (Some (with_keys args d.ty)) (var_type f v) ++ binding_broken f ids None v) (opened_broken p f (with_binding f None v ids) (wanted_of args ds) vs) broken1 in
          let h = both_empty (misfit (Some (with_keys args d.ty)) (var_type f v)) (binding_broken f ids None v) q.left in
          let vd = bound_declared f ids None v h.right in
          let fits = unless_holds (same_ty (with_keys args d.ty) vd.ty) rule.WRONG_TYPE (subst (λ o. misfit (Some (with_keys args d.ty)) o ≡ []) vd.is h.left) in
          let keys = keys_laid p args d.ty in
          let laid = laid_to p (with_keys args d.ty) vd.ty fits in
          let declared : slice_get (fields_of p type) k ≡ Some d = ap (slice_get (fields_of p type)) (none k) ∙ decls 0 d refl in
          let cell : slice_get o.cells k ≡ Some a = ap (slice_get o.cells) (none k) ∙ values 0 a refl in
          let as_base : F.vars (p_variable (slot_of p f x).number) ≡ Some (reference (Some n)) = ap F.vars (sym as_p) ∙ var in
          let here = read_field os F k d a at as_base declared cell in
          let bare = value_bare p ts d.ty a here.0 (field_unkeyed p d.ty (plain k d declared)) in
          let order = owners_in_order p ts d.ty a here.0 bare in
          let moved = both_moved (is_inside n) loose (objects_in a) (flat_map objects_in (owning_cells ds cells)) os after e1 in
          let other = differs ids.vars_ever x v ever (fresh_var f ids None v h.right) in
          let sorts : slot_sorts p d.ty ≡ sorts_of p (var_type f v) = keys.sorts ∙ laid.sorts ∙ sym (ap (sorts_of p) vd.is) in
          let news : slot_values p d.ty a ≡ slot_values p vd.ty a = keys.values a ∙ laid.values a in
          let F1 = with_all (slot_vars p f v) (slot_values p vd.ty a) F in
          let apart_x : Each (Apart (slot_of p f x)) (slot_vars p f v) = each_map (λ u. Each (Apart u) (slot_vars p f x)) (Apart (slot_of p f x)) (slot_vars p f v)
          (λ u y. Rattle.c_lower_worlds.proofs.VariableSlots.apart_back u (slot_of p f x) (below u y)) (other_slots p f x v (flip v x other)) in
          let opened : Runs R cm (open_slots (cells_at (slot_of p f x).number (past_all first_numbers (field_sorts p (take k (fields_of p type)))) (slot_sorts p d.ty)) (sorted_slots (slot_sorts p d.ty) (vars_at (starts p f v) (slot_sorts p d.ty)))) F (with_blocks p w os)
          (crun.goes (with_all (vars_at (starts p f v) (slot_sorts p d.ty)) (slot_values p d.ty a) F) (with_blocks p w moved.mid)) =
          slots_opened p R cm n o (slot_of p f x).number (past_all first_numbers (field_sorts p (take k (fields_of p type)))) (starts p f v) (slot_sorts p d.ty) (slot_values p d.ty a) F w os moved.mid not_in at
          (shape_sorts p ts d.ty a here.0) (subst (λ ss. Each (Apart (p_variable (slot_of p f x).number)) (vars_at (starts p f v) ss)) (sym sorts) (subst (λ y. Each (Apart y) (slot_vars p f v)) as_p apart_x))
          (λ os at. (read_field os F k d a at as_base declared cell).1) (ap (λ ns. objects_after_move (is_inside n) loose ns os) order ∙ moved.first) in
          let cells_are : touched_cells p f x k ≡ cells_at (slot_of p f x).number (past_all first_numbers (field_sorts p (take k (fields_of p type)))) (slot_sorts p d.ty) =
          ap (λ t. field_cells p t k (slot_of p f x).number) at_type ∙ ap (λ o. cells_at (slot_of p f x).number (past_all first_numbers (field_sorts p (take k (fields_of p type)))) (sorts_of_field p o)) declared in
          let first_runs : Runs R cm (open_slots (touched_cells p f x k) (var_slots p f v)) F (with_blocks p w os) (crun.goes F1 (with_blocks p w moved.mid)) =
          subst (λ cs. Runs R cm (open_slots cs (var_slots p f v)) F (with_blocks p w os) (crun.goes F1 (with_blocks p w moved.mid))) (sym cells_are)
          (subst (λ vs. Runs R cm (open_slots (cells_at (slot_of p f x).number (past_all first_numbers (field_sorts p (take k (fields_of p type)))) (slot_sorts p d.ty)) (var_slots p f v)) F (with_blocks p w os) (crun.goes (with_all (slot_vars p f v) vs F) (with_blocks p w moved.mid))) news
          (subst (λ ss. Runs R cm (open_slots (cells_at (slot_of p f x).number (past_all first_numbers (field_sorts p (take k (fields_of p type)))) (slot_sorts p d.ty)) (sorted_slots ss (vars_at (starts p f v) ss))) F (with_blocks p w os) (crun.goes (with_all (vars_at (starts p f v) ss) (slot_values p d.ty a) F) (with_blocks p w moved.mid))) sorts opened)) in
          let stands1 = stands_set p ts f s F v vd.ty a stands vd.is (laid.shape ts a (keys.shape ts a here.0)) in
          let var1 = all_kept (slot_vars p f v) (slot_values p vd.ty a) F (slot_of p f x) apart_x ∙ var in
          let r = later vs (with_binding f None v ids) (step.with_var v (Some a) s) F1 moved.mid (omega arith) q.right ((binding_widens f None v ids).ever x ever) stands1 var1
          (kept_out n (objects_in a) os moved.mid n o moved.first at not_in) moved.second in
          record {
            to = r.to;
            runs = subst (λ b. Runs R cm (open_fields p f x (if b then k ∷ positions_from (suc k) ds else positions_from (suc k) ds) (v ∷ vs)) F (with_blocks p w os) (crun.goes r.to (with_blocks p w after))) (sym own)
                (runs_then R cm (open_slots (touched_cells p f x k) (var_slots p f v)) (open_fields p f x (positions_from (suc k) ds) vs) F F1 (with_blocks p w os) (with_blocks p w moved.mid) (crun.goes r.to (with_blocks p w after)) first_runs r.runs);
            stands = subst (λ b. StandsFor p ts f (filled (v ∷ vs) (if b then a ∷ owning_cells ds cells else owning_cells ds cells) s) r.to) (sym own) r.stands;
            var = r.var;
            spares = spares_more (spares_all p f t v (slot_values p vd.ty a) F) r.spares;
          }
        where
          flip : (v x : ℕ) → (v == x) ≡ false → (x == v) ≡ false
          flip v x e = grind (arith, nat_tests)
