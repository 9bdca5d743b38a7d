-- New: a block is made, its cells are filled, and what it owns goes into it.
use Rattle.std.proofs.Common.{◌≡◌, ℕ, zero, suc, ◌+◌, ◌==◌, Bool, true, false, if◌then◌else◌, List, [], ◌∷◌, ◌++◌, map, length, replicate, Some, None, slice_get, slice_set, append_assoc, refl, sym, ap, ◌∙◌, subst, arith}
use Rattle.std.proofs.lemmas.Bool.{eqb-true}
use Rattle.std.proofs.lemmas.List.{length-map}
use Rattle.std.proofs.lemmas.Option.{none-some, same_Some}
use Rattle.std.specs.List.{flat_map}
use Rattle.vlt_core.specs.Core as core
use Rattle.vlt_core.specs.Core.{Ty, Operand, pure, move, pack, FieldDecl, Func, Program}
use Rattle.vlt_core.specs.Lookups.{fields_of, var_type, Reference, reference_of}
use Rattle.vlt_core.specs.Types.{with_keys}
use Rattle.vlt_core.specs.KindedHeads.{has}
use Rattle.vlt_core.specs.KindedScopes.{Ids, use_broken, binding_broken, own_key}
use Rattle.vlt_core.specs.KindedOperands.{operand_broken, operands_broken, expr_broken}
use Rattle.vlt_core.specs.KindedStatements as kinded
use Rattle.vlt_meaning.specs.World as source
use Rattle.vlt_meaning.specs.World.{one, Object, inside, is_loose, objects_in}
use Rattle.vlt_meaning.specs.Found.{or_fault}
use Rattle.vlt_meaning.specs.Objects.{objects_after_move}
use Rattle.vlt_meaning.specs.Step as step
use Rattle.vlt_meaning.specs.Run as run
use Rattle.c_syntax.specs.declared.program.CVar.{CVar}
use Rattle.c_syntax.specs.declared.program.CPrim.TheVariants as prim
use Rattle.c_syntax.specs.View.{stmts_made}
use Rattle.c_syntax.specs.C as syntax
use Rattle.c_meaning.specs.World as cw
use Rattle.c_meaning.specs.World.{reference}
use Rattle.c_meaning.specs.Values as cvalues
use Rattle.c_meaning.specs.Blocks.{Block, Blocks, new_block, live_block}
use Rattle.c_meaning.specs.Run as crun
use Rattle.c_lower.specs.Slots.{Numbers, slot_vars, slot_of, object_type, object_type_of, cell_counts, field_sorts, slot_sorts, first_temps}
use Rattle.c_lower.specs.Expressions.{Atom, number, variable, null, atom_expr, atom_arg, expr_code, operand_code, operand_codes}
use Rattle.c_lower.specs.Statements.{runtime_call, runtime_value, count_arg, field_puts, owner_atoms}
use Rattle.c_lower_worlds.specs.Operators.Codes.{AreUpTo}
use Rattle.c_lower_worlds.proofs.OfOperators.Codes.{up_self, more_more, alike_self}
use Rattle.c_lower_worlds.proofs.OfOperators.Expressions.{expr_up}
use Rattle.c_lower_worlds.specs.Worlds.{Registers, c_world, block_of, blocks_of, numbers_in, references_in, cell_values, slot_values}
use Rattle.c_lower_worlds.specs.Shapes.{types_of, HaveCellShapes, AreShaped}
use Rattle.c_lower_worlds.specs.Operands.{HaveAtoms, OperandsAreRight}
use Rattle.c_lower_worlds.specs.Naming.KindedParts.{IsBound}
use Rattle.c_lower_worlds.specs.Sorts.{AreOfSorts}
use Rattle.c_lower_worlds.specs.Naming.Lists.{Each}
use Rattle.c_lower_worlds.specs.Same.{Same}
use Rattle.c_lower_worlds.specs.SameStatements.{Begins, IsSameForm}
use Rattle.c_lower_worlds.specs.Naming.Functions.{IsFunction}
use Rattle.c_lower_worlds.specs.Naming.Types.{TypesFit}
use Rattle.c_lower_runs.proofs.OfForms.PayloadAtoms.{IsApart, binary_temp, vars_apart_all, temp_apart_all}
use Rattle.c_lower_worlds.proofs.OperandLists.{HaveShapes, HaveEach, arguments_then, operand_up}
use Rattle.c_lower_worlds.proofs.BlockChanges.{full_alike}
use Rattle.c_lower_runs.proofs.OfForms.Build.{fit_all}
use Rattle.c_lower_worlds.proofs.FieldCells.{get_mid}
use Rattle.c_lower_runs.proofs.OfForms.SetAndOwn.{other_slots, temp_slots}
use Rattle.c_lower_worlds.proofs.FieldWriting.{counts_first}
use Rattle.c_lower_worlds.proofs.FrameChanges.{var_kept, var_set, stands_one, stands_key}
use Rattle.c_lower_worlds.proofs.MovedObjects.{owns_run, IsRoot}
use Rattle.c_lower_runs.proofs.OfForms.NewCells.{HaveFields, fields_put, owners_all, owned_all, field_references}
use Rattle.c_lower_worlds.proofs.OfNaming.NamedOperands.{used_scope}
use Rattle.c_lower_runs.proofs.OfForms.OpenSlots.{moved_faults, moved_types, moved_shaped}
use Rattle.c_lower_worlds.proofs.VariantSlots.{shape_sorts, sorts_append, length_replicate}
use Rattle.c_lower_worlds.proofs.StatementLists.{Runs, runs_then, stops_there, value_runs, value_stops}
use Rattle.c_lower_worlds.proofs.LaterShapes.{Later, stands_later, shape_keys, values_keys, cells_later}
use Rattle.c_lower_worlds.proofs.SameSteps.{found_same, where_same}
use Rattle.c_lower_runs.proofs.OfForms.Switch.{fresh_var, differs, first_apart}
use Rattle.c_lower_worlds.proofs.OfNaming.FoundObjects.{or_faults, or_fault_ok}
use Rattle.c_lower_runs.proofs.OfForms.Put.{slot_refers}
use Rattle.c_lower_worlds.proofs.OfNaming.RuleFacts.{both_empty, tracked_is}
use Rattle.c_lower_worlds.proofs.VariableValues.{slot_below, spares_slot}
use Rattle.c_lower_worlds.proofs.CellWriting.{set_itself, set_mid, with_cells}

-- ---- what is in scope has other slots than what is bound here

module _ (p : Program) (f : Func) (ids : Ids) (scoped : IsBound ids) (x : ℕ) (fresh : has ids.vars_ever x ≡ false) where
  used_apart : (u : ℕ) → use_broken f ids u ≡ [] → Each (IsApart (slot_vars p f x)) (map variable (slot_vars p f u))
  used_apart u e = vars_apart_all (slot_vars p f x) (slot_vars p f u) (other_slots p f x u (differs ids.vars_ever u x (scoped.bound u (used_scope f ids u e)) fresh))

  pub operand_fresh : (t : Numbers) (want : Ty) (o : Operand) → operand_broken p f ids (Some want) o ≡ [] → AreUpTo (first_temps p f) t → Each (IsApart (slot_vars p f x)) (operand_code p f t o).atoms
  operand_fresh t want (pure (core.number z)) e up = (tt, tt)
  operand_fresh t want (pure (core.truth b)) e up = (tt, tt)
  operand_fresh t want (pure (core.field y i)) e up = vars_apart_all (slot_vars p f x) _ (temp_slots p f x t _ up)
  operand_fresh t want (pure (core.unary o a)) e up = temp_apart_all p f x (expr_code p f t a).next (more_more up (expr_up p f a t))
  operand_fresh t want (pure (core.binary o a b)) e up =
      let y = binary_temp o (expr_code p f t a) (λ t. expr_code p f t b) (expr_up p f b (expr_code p f t a).next) in
      subst (Each (IsApart (slot_vars p f x))) (sym y.1) (temp_apart_all p f x y.0 (more_more up (more_more (expr_up p f a t) y.2)))
  operand_fresh t want (pure (core.var u)) e up = used_apart u (both_empty (use_broken f ids u) _ (both_empty (expr_broken p f ids (core.var u)) _ e).left).left
  operand_fresh t want (move u) e up = used_apart u (both_empty (use_broken f ids u) _ e).left
  operand_fresh t want (pack u states) e up = used_apart u (both_empty (use_broken f ids u) _ e).left

  abbrev AllApart : List (List Atom) → Type 0
  AllApart [] = Unit {0}
  AllApart (a ∷ rest) = Each (IsApart (slot_vars p f x)) a × AllApart rest

  codes_fresh : (t : Numbers) (tys : List Ty) (os : List Operand) → operands_broken p f ids tys os ≡ [] → length os ≡ length tys → AreUpTo (first_temps p f) t → AllApart (operand_codes p f t os).atoms
  codes_fresh t tys [] e long up = tt
  codes_fresh t [] (o ∷ os) e long up = absurd (omega arith)
  codes_fresh t (ty ∷ tys) (o ∷ os) e long up =
      let q = both_empty (operand_broken p f ids (Some ty) o) (operands_broken p f ids tys os) e in
      (operand_fresh t ty o q.left up, codes_fresh (operand_code p f t o).next tys os q.right (omega arith) (more_more up (operand_up p f o t)))

  atom_still : (ty : Ty) (a : Atom) (b : cw.Value) (F : crun.Frame) (bs : Blocks) → var_type f x ≡ Some ty → IsApart (slot_vars p f x) a →
      cvalues.value_of (atom_expr a) (crun.with_var (slot_of p f x) b F).vars bs ≡ cvalues.value_of (atom_expr a) F.vars bs
  atom_still ty (number z) b F bs is h = refl
  atom_still ty null b F bs is h = refl
  atom_still ty (variable y) b F bs is h = ap cvalues.or_unset (var_kept (slot_of p f x) b y F (first_apart p f x ty y is h))

  atoms_still : (ty : Ty) (atoms : List Atom) (vs : List cw.Value) (b : cw.Value) (F : crun.Frame) (bs : Blocks) → var_type f x ≡ Some ty → Each (IsApart (slot_vars p f x)) atoms → HaveAtoms atoms vs F bs → HaveAtoms atoms vs (crun.with_var (slot_of p f x) b F) bs
  atoms_still ty [] [] b F bs is e h = tt
  atoms_still ty [] (v ∷ vs) b F bs is e h = absurd h
  atoms_still ty (a ∷ atoms) [] b F bs is e h = absurd h
  atoms_still ty (a ∷ atoms) (v ∷ vs) b F bs is e h = (atom_still ty a b F bs is e.0 ∙ h.0, atoms_still ty atoms vs b F bs is e.1 h.1)

  fields_still : (ty : Ty) (args : List ℕ) (ds : List FieldDecl) (atoms : List (List Atom)) (values : List source.Value) (b : cw.Value) (F : crun.Frame) (bs : Blocks) → var_type f x ≡ Some ty → AllApart atoms →
      HaveEach p atoms (map (λ (d : FieldDecl). with_keys args d.ty) ds) values F bs → HaveFields p atoms ds values (crun.with_var (slot_of p f x) b F) bs
  fields_still ty args [] [] [] b F bs is e h = tt
  fields_still ty args [] [] (a ∷ values) b F bs is e h = absurd h
  fields_still ty args [] (y ∷ atoms) values b F bs is e h = absurd h
  fields_still ty args (d ∷ ds) [] values b F bs is e h = absurd h
  fields_still ty args (d ∷ ds) (y ∷ atoms) [] b F bs is e h = absurd h
  fields_still ty args (d ∷ ds) (y ∷ atoms) (a ∷ values) b F bs is e h = (
    subst (λ vs. HaveAtoms y vs (crun.with_var (slot_of p f x) b F) bs) (values_keys p args d.ty a) (atoms_still ty y (slot_values p (with_keys args d.ty) a) b F bs is e.0 h.0),
    fields_still ty args ds atoms values b F bs is e.1 h.1,
  )

-- ---- shapes

cells_shaped : (p : Program) (ts : List ℕ) (args : List ℕ) (ds : List FieldDecl) (values : List source.Value) → HaveShapes p ts (map (λ (d : FieldDecl). with_keys args d.ty) ds) values → HaveCellShapes p ts ds values
cells_shaped p ts args [] [] h = tt
cells_shaped p ts args [] (a ∷ values) h = absurd h
cells_shaped p ts args (d ∷ ds) [] h = absurd h
cells_shaped p ts args (d ∷ ds) (a ∷ values) h = (shape_keys p ts args d.ty a h.0, cells_shaped p ts args ds values h.1)

cells_sorts : (p : Program) (ts : List ℕ) (ds : List FieldDecl) (values : List source.Value) → HaveCellShapes p ts ds values → AreOfSorts (field_sorts p ds) (cell_values p ds values)
cells_sorts p ts [] [] h = tt
cells_sorts p ts [] (a ∷ values) h = absurd h
cells_sorts p ts (d ∷ ds) [] h = absurd h
cells_sorts p ts (d ∷ ds) (a ∷ values) h = sorts_append (slot_sorts p d.ty) (field_sorts p ds) (slot_values p d.ty a) (cell_values p ds values) (shape_sorts p ts d.ty a h.0) (cells_sorts p ts ds values h.1)

get_front : {A : Type 0} (xs ys : List A) (n : ℕ) (x : A) → slice_get xs n ≡ Some x → slice_get (xs ++ ys) n ≡ Some x
get_front [] ys n x e = absurd (none-some x e)
get_front (y ∷ xs) ys zero x e = e
get_front (y ∷ xs) ys (suc n) x e = get_front xs ys n x e

types_more : (os : List Object) (o : Object) → types_of (os ++ o ∷ []) ≡ types_of os ++ o.type ∷ []
types_more [] o = refl
types_more (q ∷ os) o = ap (λ r. q.type ∷ r) (types_more os o)

blocks_more : (p : Program) (os : List Object) (o : Object) → blocks_of p (os ++ o ∷ []) ≡ blocks_of p os ++ block_of p o ∷ []
blocks_more p [] o = refl
blocks_more p (q ∷ os) o = ap (λ r. block_of p q ∷ r) (blocks_more p os o)

get_last : (os : List Object) (o : Object) (n : ℕ) (z : Object) → slice_get (os ++ o ∷ []) n ≡ Some z → (P : Object → Type 0) → P o → (slice_get os n ≡ Some z → P z) → P z
get_last [] o zero z e P here there = subst P (same_Some o z e) here
get_last [] o (suc n) z e P here there = absurd (none-some z e)
get_last (q ∷ os) o zero z e P here there = there e
get_last (q ∷ os) o (suc n) z e P here there = get_last os o n z e P here there

shaped_more : (p : Program) (os : List Object) (o : Object) → AreShaped p os → HaveCellShapes p (types_of (os ++ o ∷ [])) (fields_of p o.type) o.cells → AreShaped p (os ++ o ∷ [])
shaped_more p os o h here = record {
  each = λ n z at. get_last os o n z at (λ z. HaveCellShapes p (types_of (os ++ o ∷ [])) (fields_of p z.type) z.cells) here
      (λ e. cells_later p (types_of os) (types_of (os ++ o ∷ [])) (record { at = λ n t e. subst (λ ts. slice_get ts n ≡ Some t) (sym (types_more os o)) (get_front (types_of os) (o.type ∷ []) n t e) }) (fields_of p z.type) z.cells (h.each n z e));
}

own_map : (b : CVar) (atoms : List Atom) → map (λ y. runtime_call prim.Own (y ∷ syntax.variable b ∷ [])) (map atom_arg atoms) ≡ map (λ a. runtime_call prim.Own (atom_arg a ∷ syntax.variable b ∷ [])) atoms
own_map b [] = refl
own_map b (a ∷ atoms) = ap (λ r. runtime_call prim.Own (atom_arg a ∷ syntax.variable b ∷ []) ∷ r) (own_map b atoms)

module _ (p : Program) (types_fit : TypesFit p) (heap depth : ℕ) (R : crun.Setup) (heap_is : R.heap ≡ heap) (cm : crun.Meaning) (operands : OperandsAreRight p R cm) (m : run.Meaning) (n : ℕ) where
  abbrev setup : run.Setup
  setup = record { program = p; heap = heap; depth = depth }

  abbrev news_rest : Func → (x type : ℕ) → List (List Atom) → List syntax.Stmt
  news_rest f x type atoms = field_puts p type (slot_of p f x).number 0 atoms ++ map (λ a. runtime_call prim.Own (atom_arg a ∷ syntax.variable (slot_of p f x) ∷ [])) (owner_atoms p type 0 atoms)

  abbrev new_rest : Func → (x type : ℕ) → List (List Atom) → List syntax.Stmt
  new_rest f x type atoms = runtime_value (slot_of p f x) prim.New (count_arg (cell_counts p type).n ∷ count_arg (cell_counts p type).p ∷ []) ∷ news_rest f x type atoms

  abbrev new_first : Func → (x type : ℕ) → List (List Atom) → List syntax.Stmt
  new_first f x type atoms = runtime_value (slot_of p f x) prim.New (count_arg (cell_counts p type).n ∷ count_arg (cell_counts p type).p ∷ []) ∷ field_puts p type (slot_of p f x).number 0 atoms

  abbrev new_owns : Func → (x type : ℕ) → List (List Atom) → List syntax.Stmt
  new_owns f x type atoms = map (λ a. runtime_call prim.Own (atom_arg a ∷ syntax.variable (slot_of p f x) ∷ [])) (owner_atoms p type 0 atoms)

  new_same : (f : Func) (x : ℕ) (q : Reference) (args : List ℕ) (atoms : List (List Atom)) (t : Numbers) (k : ℕ) (s : source.Frame) (w : source.World) (to : crun.Frame) (g : Registers) (j : ℕ) (values : List source.Value) →
      var_type f x ≡ Some (core.tracked q.key q.type args) → Begins p f k s w to g → HaveCellShapes p (types_of w.objects) (fields_of p q.type) values →
      ((bs : Blocks) → HaveFields p atoms (fields_of p q.type) values (crun.with_var (slot_of p f x) (reference (Some (length w.objects))) to) bs) →
      Same p f t k to (run.made_in setup q x values s w) (crun.does_stmts R cm j (stmts_made (new_rest f x q.type atoms)) to (c_world p g w))
  unfolding run.made_in step.with_made step.with_moved
  new_same f x q args atoms t k s w to g j values is h shapes have = by (source.is_full heap os) refl
    where
      os : List Object
      os = w.objects

      N : ℕ
      N = length w.objects

      W : cw.World
      W = c_world p g w

      ty : Ty
      ty = core.tracked q.key q.type args

      block : CVar
      block = slot_of p f x

      ds : List FieldDecl
      ds = fields_of p q.type

      counts : Numbers
      counts = cell_counts p q.type

      V : List cw.Value
      V = cell_values p ds values

      obj : Object
      obj = run.new_object q values s

      os1 : List Object
      os1 = w.objects ++ obj ∷ []

      F1 : crun.Frame
      F1 = crun.with_var (slot_of p f x) (reference (Some (length w.objects))) to

      nb : Block
      nb = new_block counts.n counts.p

      bs1 : Blocks
      bs1 = blocks_of p os ++ Some nb ∷ []

      len : length (blocks_of p os) ≡ N
      len = length-map os (block_of p)

      sorts : AreOfSorts (field_sorts p ds) V
      sorts = cells_sorts p (types_of os) ds values shapes

      counted : counts ≡ record { n = length (numbers_in V); p = length (references_in V) }
      counted = counts_first (field_sorts p ds) V sorts

      live : live_block bs1 N ≡ Some nb
      live = ap (live_block bs1) (sym len) ∙ ap Rattle.c_meaning.specs.Blocks.option_join (get_mid (blocks_of p os) (Some nb) [])

      zero_more : (j : ℕ) → 0 + j ≡ j
      zero_more j = omega arith

      decls : (j : ℕ) (d : FieldDecl) → slice_get ds j ≡ Some d → slice_get (fields_of p q.type) (0 + j) ≡ Some d
      decls j d e = ap (slice_get ds) (zero_more j) ∙ e

      var : F1.vars (cvalues.p_variable block.number) ≡ Some (reference (Some N))
      var = ap F1.vars (sym (slot_refers ty q.type p f x is refl)) ∙ var_set block (reference (Some N)) to

      puts_done : Runs R cm (field_puts p q.type block.number 0 atoms) F1 (record W { blocks = bs1 }) (crun.goes F1 (record W { blocks = blocks_of p os1 }))
      puts_done =
          subst (λ bs. Runs R cm (field_puts p q.type block.number 0 atoms) F1 (record W { blocks = bs }) (crun.goes F1 (record W { blocks = blocks_of p os1 }))) (set_itself bs1 N nb live)
          (subst (λ bs. Runs R cm (field_puts p q.type block.number 0 atoms) F1 (record W { blocks = with_cells bs1 N None false (replicate counts.n None) (replicate counts.p None) }) (crun.goes F1 (record W { blocks = bs })))
          (ap (λ i. slice_set bs1 i (Some (record { parent = None; is_out = false; numbers = numbers_in V; references = references_in V }))) (sym len)
          ∙ set_mid (blocks_of p os) (Some nb) (Some (record { parent = None; is_out = false; numbers = numbers_in V; references = references_in V })) [] ∙ sym (blocks_more p os obj))
          (fields_put p R cm q.type (types_of os) block.number F1 bs1 N None false nb live var 0 ds values atoms [] (replicate counts.n None) (replicate counts.p None) W decls shapes have tt
          (ap (λ (c : Numbers). c.n) (sym counted) ∙ sym (length_replicate counts.n None)) (ap (λ (c : Numbers). c.p) (sym counted) ∙ sym (length_replicate counts.p None))))

      by : (b : Bool) → source.is_full heap os ≡ b →
          Same p f t k to (if b then step.ends source.heap_end w else
          step.with_found (objects_after_move is_loose (inside N) (flat_map objects_in values) os1) (step.with_objects w os1) (λ objects. step.goes (step.with_var x (Some (one (source.reference N))) (step.with_key q.key N s)) (step.with_objects (step.with_objects w os1) objects)))
          (crun.does_stmts R cm j (stmts_made (new_rest f x q.type atoms)) to (c_world p g w))
      by true e =
          let full : Rattle.c_meaning.specs.Blocks.is_full R.heap (blocks_of p os) ≡ true = ap (λ h. Rattle.c_meaning.specs.Blocks.is_full h (blocks_of p os)) heap_is ∙ full_alike p heap os ∙ e in
          record {
            world = W;
            is = stops_there R cm (runtime_value block prim.New (count_arg counts.n ∷ count_arg counts.p ∷ []) ∷ []) (news_rest f x q.type atoms) to W W cw.heap_end
                (value_stops R cm block prim.New (count_arg counts.n ∷ count_arg counts.p ∷ []) to W W cw.heap_end (rw full refl)) j;
            events = refl;
            fuel = refl;
          }
      by false e =
          let full : Rattle.c_meaning.specs.Blocks.is_full R.heap (blocks_of p os) ≡ false = ap (λ h. Rattle.c_meaning.specs.Blocks.is_full h (blocks_of p os)) heap_is ∙ full_alike p heap os ∙ e in
          found_same p f t k to (objects_after_move is_loose (inside N) (flat_map objects_in values) os1) (step.with_objects w os1) _ _ (moved_faults is_loose (inside N) (flat_map objects_in values) os1) (λ after moved.
          let made : Runs R cm (runtime_value block prim.New (count_arg counts.n ∷ count_arg counts.p ∷ []) ∷ []) to W (crun.goes F1 (record W { blocks = bs1 })) =
          value_runs R cm block prim.New (count_arg counts.n ∷ count_arg counts.p ∷ []) (reference (Some N)) to W (record W { blocks = bs1 }) (rw (full, len) refl) in
          let owned_refs = owners_all R cm p q.type 0 (types_of os) ds values atoms F1 bs1 decls shapes (have bs1) in
          let root : IsRoot R cm p os1 N = record { object = obj; at = get_mid os obj []; free = record { above = refl; out = refl; live = refl }; not_loose = refl } in
          let owns = owns_run R cm p (map atom_arg (owner_atoms p q.type 0 atoms)) (field_references R cm p ds values) (syntax.variable block) N F1 W os1 after owned_refs (rw (var_set block (reference (Some N)) to) refl) root
          (ap (λ ns. objects_after_move is_loose (inside N) ns os1) (owned_all R cm p (types_of os) ds values (λ j d e. types_fit.fields q.type j d e) shapes) ∙ moved) in
          let owns_here = subst (λ xs. Runs R cm xs F1 (record W { blocks = blocks_of p os1 }) (crun.goes F1 (record W { blocks = blocks_of p after }))) (own_map block (owner_atoms p q.type 0 atoms)) owns in
          let all_runs = runs_then R cm (runtime_value block prim.New (count_arg counts.n ∷ count_arg counts.p ∷ []) ∷ []) (news_rest f x q.type atoms) to F1 W (record W { blocks = bs1 }) (crun.goes F1 (record W { blocks = blocks_of p after })) made
          (runs_then R cm (field_puts p q.type block.number 0 atoms) (map (λ a. runtime_call prim.Own (atom_arg a ∷ syntax.variable block ∷ [])) (owner_atoms p q.type 0 atoms)) F1 F1 (record W { blocks = bs1 }) (record W { blocks = blocks_of p os1 })
          (crun.goes F1 (record W { blocks = blocks_of p after })) puts_done owns_here) in
          let types_after : types_of after ≡ types_of os ++ q.type ∷ [] = moved_types is_loose (inside N) (flat_map objects_in values) os1 after moved ∙ types_more os obj in
          let grow : Later (types_of os) (types_of after) = record { at = λ i u e. subst (λ ts. slice_get ts i ≡ Some u) (sym types_after) (get_front (types_of os) (q.type ∷ []) i u e) } in
          let grow1 : Later (types_of os) (types_of os1) = record { at = λ i u e. subst (λ ts. slice_get ts i ≡ Some u) (sym (types_more os obj)) (get_front (types_of os) (q.type ∷ []) i u e) } in
          let of_type : slice_get (types_of after) N ≡ Some q.type = ap (λ ts. slice_get ts N) types_after ∙ ap (slice_get (types_of os ++ q.type ∷ [])) (sym (length-map os (λ (o : Object). o.type))) ∙ get_mid (types_of os) q.type [] in
          record {
            to = F1;
            registers = g;
            is = all_runs j;
            comes = record {
              frame = stands_one p (types_of after) f (step.with_key q.key N s) to x ty (source.reference N) (stands_key p (types_of after) f s to q.key N (stands_later p (types_of os) (types_of after) grow f s to h.stands)) is
                  (record { part = source.reference N; is = refl; shape = record { object = N; is = refl; of = of_type } });
              spares = spares_slot (first_temps p f) t block (reference (Some N)) to (slot_below p f x ty is);
              shaped = moved_shaped p is_loose (inside N) (flat_map objects_in values) os1 after moved (shaped_more p os obj h.shaped (cells_later p (types_of os) (types_of os1) grow1 ds values shapes));
              registers = h.registers;
              fuel_left = h.fuel_left;
              fed = h.fed;
            };
          })

  pub make_same : (f : Func) (x : ℕ) (os : List Operand) → IsFunction p f → IsSameForm p setup R m cm n f (core.simple (core.make x os))
  make_same f x os is around ids t k s w frame g i kinds up le h =
      found_same p f t k frame (or_fault source.missing (reference_of f x)) w _ _ (or_faults source.missing (reference_of f x)) (λ q eq.
      let tr = tracked_is (var_type f x) q (or_fault_ok source.missing (reference_of f x) q eq) in
      let at_type : object_type f x ≡ q.type = ap object_type_of tr.is in
      where_same p f t k frame (length os == length (fields_of p q.type)) source.missing None w _ _ (λ long.
      let tys = map (λ (d : FieldDecl). with_keys tr.args d.ty) (fields_of p q.type) in
      let broken : operands_broken p f ids tys os ≡ [] = subst (λ o. operands_broken p f ids (kinded.made_types p o) os ≡ []) tr.is (both_empty (kinded.made_broken p (length os) (var_type f x)) (operands_broken p f ids (kinded.made_types p (var_type f x)) os) front.left).right in
      let count : length os ≡ length tys = eqb-true (length os) (length (fields_of p q.type)) long ∙ sym (length-map (fields_of p q.type) (λ (d : FieldDecl). with_keys tr.args d.ty)) in
      let apart = codes_fresh p f ids kinds.scoped x fresh t tys os broken count up in
      subst (λ type. Same p f t k frame (Rattle.vlt_meaning.specs.Operands.with_operands p f os s w (λ cells s w. run.made_in setup q x cells s w)) (crun.does_stmts R cm i (stmts_made (((operand_codes p f t os).stmts ++ new_first f x type (operand_codes p f t os).atoms) ++ new_owns f x type (operand_codes p f t os).atoms)) frame (c_world p g w))) (sym at_type)
      (subst (λ xs. Same p f t k frame (Rattle.vlt_meaning.specs.Operands.with_operands p f os s w (λ cells s w. run.made_in setup q x cells s w)) (crun.does_stmts R cm i (stmts_made xs) frame (c_world p g w)))
      (sym (append_assoc (operand_codes p f t os).stmts (new_first f x q.type (operand_codes p f t os).atoms) (new_owns f x q.type (operand_codes p f t os).atoms)))
      (arguments_then p R cm operands f os ids tys t t k s w frame g i (λ cells s w. run.made_in setup q x cells s w) (new_rest f x q.type (operand_codes p f t os).atoms) is kinds.proper (fit_all p f ids tys os broken count) up (up_self t) h
      (λ values s2 w2 to j hs.
      new_same f x q tr.args (operand_codes p f t os).atoms t k s2 w2 to g j values tr.is hs.begins (cells_shaped p (types_of w2.objects) tr.args (fields_of p q.type) values hs.shapes)
      (λ bs. fields_still p f ids kinds.scoped x fresh (core.tracked q.key q.type tr.args) tr.args (fields_of p q.type) (operand_codes p f t os).atoms values (reference (Some (length w2.objects))) to bs tr.is apart (hs.have to bs (alike_self _ to))))))))
    where
      front : Rattle.c_lower_worlds.proofs.OfNaming.RuleFacts.BothEmpty (kinded.made_broken p (length os) (var_type f x) ++ operands_broken p f ids (kinded.made_types p (var_type f x)) os) (binding_broken f ids (own_key f x) x)
      front = both_empty (kinded.made_broken p (length os) (var_type f x) ++ operands_broken p f ids (kinded.made_types p (var_type f x)) os) (binding_broken f ids (own_key f x) x) kinds.row

      fresh : has ids.vars_ever x ≡ false
      fresh = fresh_var f ids (own_key f x) x front.right
