-- The cells of a new object, field by field, and those of them that own.
use Rattle.std.proofs.Common.{◌≡◌, ◌≤◌, ℕ, zero, suc, ◌+◌, Bool, true, ℤ, List, [], ◌∷◌, ◌++◌, map, take, length, Option, Some, None, slice_get, length-append, append_assoc, refl, sym, ap, ◌∙◌, subst, arith}
use Rattle.std.proofs.lemmas.Option.{none-some, same_Some}
use Rattle.std.specs.List.{flat_map}
use Rattle.vlt_core.specs.Core.{FieldDecl, Program}
use Rattle.vlt_core.specs.Lookups.{fields_of}
use Rattle.vlt_core.specs.KindedHeads.{is_field_type}
use Rattle.vlt_meaning.specs.World as source
use Rattle.vlt_meaning.specs.World.{objects_in}
use Rattle.c_syntax.specs.C.{Arg}
use Rattle.c_meaning.specs.World as cw
use Rattle.c_meaning.specs.World.{Value, number, reference}
use Rattle.c_meaning.specs.Values.{p_variable}
use Rattle.c_meaning.specs.Blocks.{Block, Blocks, live_block}
use Rattle.c_meaning.specs.Run as crun
use Rattle.c_lower.specs.Slots.{Sort, of_number, of_reference, of_owner, first_numbers, past_all, cells_at, slot_sorts, field_sorts, field_cells, sorts_at, sorts_of_field}
use Rattle.c_lower.specs.Expressions.{Atom, atom_arg}
use Rattle.c_lower.specs.Statements.{puts, field_puts, owner_atoms_in, owner_atoms}
use Rattle.c_lower_worlds.specs.Worlds.{slot_values, numbers_in, references_in, cell_values}
use Rattle.c_lower_worlds.specs.Shapes.{HaveCellShapes}
use Rattle.c_lower_worlds.specs.Sorts.{AreOfSorts}
use Rattle.c_lower_worlds.specs.Operands.{HaveAtoms}
use Rattle.c_lower_worlds.proofs.OperandLists.{arg_is}
use Rattle.c_lower_worlds.proofs.FieldCells.{numbers_append, references_append}
use Rattle.c_lower_runs.proofs.OfForms.Drop.{value_bare}
use Rattle.c_lower_worlds.proofs.FieldWriting.{counts_first}
use Rattle.c_lower_worlds.proofs.MovedObjects.{HaveReferences, present}
use Rattle.c_lower_runs.proofs.OfForms.OpenFields.{field_unkeyed}
use Rattle.c_lower_worlds.proofs.VariantSlots.{shape_sorts, sorts_append, owned_in_slots, owners_in_order}
use Rattle.c_lower_worlds.proofs.StatementLists.{Runs, runs_then}
use Rattle.c_lower_worlds.proofs.CellWriting.{over, with_cells, puts_run}

-- ---- lists

abbrev pub later : {A B : Type 0} → List A → List B → List B
later [] ys = ys
later (x ∷ xs) (y ∷ ys) = later xs ys
later (x ∷ xs) [] = []

over_later : {A : Type 0} (xs ys : List A) → length xs ≤ length ys → over xs ys ≡ xs ++ later xs ys
over_later [] ys l = refl
over_later (x ∷ xs) [] l = absurd (omega arith)
over_later (x ∷ xs) (y ∷ ys) l = ap (λ r. x ∷ r) (over_later xs ys (omega arith))

later_long : {A : Type 0} (xs ys : List A) (m : ℕ) → length xs + m ≡ length ys → length (later xs ys) ≡ m
later_long [] ys m e = sym e ∙ none m
  where
    none : (m : ℕ) → 0 + m ≡ m
    none m = omega arith
later_long (x ∷ xs) [] m e = absurd (omega arith)
later_long (x ∷ xs) (y ∷ ys) m e = later_long xs ys m (omega arith)

pub no_more : {A : Type 0} (xs : List A) → xs ++ [] ≡ xs
no_more [] = refl
no_more (x ∷ xs) = ap (λ r. x ∷ r) (no_more xs)

none_of : {A : Type 0} (xs : List A) → 0 ≡ length xs → xs ≡ []
none_of [] e = refl
none_of (x ∷ xs) e = absurd (omega arith)

sorts_next : (p : Program) (xs : List FieldDecl) (k : ℕ) (d : FieldDecl) → slice_get xs k ≡ Some d → field_sorts p (take (suc k) xs) ≡ field_sorts p (take k xs) ++ slot_sorts p d.ty
sorts_next p [] k d e = absurd (none-some d e)
sorts_next p (x ∷ xs) zero d e = no_more (slot_sorts p x.ty) ∙ ap (λ (x : FieldDecl). slot_sorts p x.ty) (same_Some x d e)
sorts_next p (x ∷ xs) (suc k) d e = ap (λ r. slot_sorts p x.ty ++ r) (sorts_next p xs k d e) ∙ sym (append_assoc (slot_sorts p x.ty) (field_sorts p (take k xs)) (slot_sorts p d.ty))

-- the atoms of each field
abbrev pub HaveFields : Program → List (List Atom) → List FieldDecl → List source.Value → crun.Frame → Blocks → Type 0
HaveFields p [] [] [] F bs = Unit {0}
HaveFields p (x ∷ xs) (d ∷ ds) (a ∷ values) F bs = HaveAtoms x (slot_values p d.ty a) F bs × HaveFields p xs ds values F bs
HaveFields p _ _ _ F bs = ⊥

-- ---- the cells

module _ (p : Program) (R : crun.Setup) (cm : crun.Meaning) (type : ℕ) (ts : List ℕ) (base : ℕ) (F : crun.Frame) (bs : Blocks) (n : ℕ) (q : Option ℕ) (o : Bool) (b : Block) (live : live_block bs n ≡ Some b)
    (var : F.vars (p_variable base) ≡ Some (reference (Some n))) where
  abbrev cells_of : cw.World → List (Option ℤ) → List (Option (Option ℕ)) → cw.World
  cells_of w ns rs = record w { blocks = with_cells bs n q o ns rs }

  pub fields_put : (k : ℕ) (ds : List FieldDecl) (values : List source.Value) (atoms : List (List Atom)) (P : List Value) (ns : List (Option ℤ)) (rs : List (Option (Option ℕ))) (w : cw.World) →
      ((j : ℕ) (d : FieldDecl) → slice_get ds j ≡ Some d → slice_get (fields_of p type) (k + j) ≡ Some d) → HaveCellShapes p ts ds values → ((bs : Blocks) → HaveFields p atoms ds values F bs) → AreOfSorts (field_sorts p (take k (fields_of p type))) P →
      length (numbers_in (cell_values p ds values)) ≡ length ns → length (references_in (cell_values p ds values)) ≡ length rs →
      Runs R cm (field_puts p type base k atoms) F (cells_of w (numbers_in P ++ ns) (references_in P ++ rs)) (crun.goes F (cells_of w (numbers_in (P ++ cell_values p ds values)) (references_in (P ++ cell_values p ds values))))
  fields_put k [] [] [] P ns rs w decls shapes have of ln lr = λ i.
      ap (λ ns. crun.goes F (cells_of w (numbers_in P ++ ns) (references_in P ++ rs))) (none_of ns ln) ∙ ap (λ rs. crun.goes F (cells_of w (numbers_in P ++ []) (references_in P ++ rs))) (none_of rs lr)
      ∙ ap (λ ns. crun.goes F (cells_of w ns (references_in P ++ []))) (no_more (numbers_in P) ∙ ap numbers_in (sym (no_more P))) ∙ ap (λ rs. crun.goes F (cells_of w (numbers_in (P ++ [])) rs)) (no_more (references_in P) ∙ ap references_in (sym (no_more P)))
  fields_put k [] [] (x ∷ atoms) P ns rs w decls shapes have of ln lr = absurd (have bs)
  fields_put k [] (a ∷ values) atoms P ns rs w decls shapes have of ln lr = absurd shapes
  fields_put k (d ∷ ds) [] atoms P ns rs w decls shapes have of ln lr = absurd shapes
  fields_put k (d ∷ ds) (a ∷ values) [] P ns rs w decls shapes have of ln lr = absurd (have bs)
  fields_put k (d ∷ ds) (a ∷ values) (x ∷ atoms) P ns rs w decls shapes have of ln lr =
      let v = slot_values p d.ty a in
      let rest = cell_values p ds values in
      let at : slice_get (fields_of p type) k ≡ Some d = ap (slice_get (fields_of p type)) (none k) ∙ decls 0 d refl in
      let sorts = shape_sorts p ts d.ty a shapes.0 in
      let long_n : length (numbers_in v) + length (numbers_in rest) ≡ length ns = sym (length-append (numbers_in v) (numbers_in rest)) ∙ ap length (sym (numbers_append v rest)) ∙ ln in
      let long_r : length (references_in v) + length (references_in rest) ≡ length rs = sym (length-append (references_in v) (references_in rest)) ∙ ap length (sym (references_append v rest)) ∙ lr in
      let ns1 = later (numbers_in v) ns in
      let rs1 = later (references_in v) rs in
      let numbers_is : numbers_in P ++ over (numbers_in v) ns ≡ numbers_in (P ++ v) ++ ns1 =
      ap (λ r. numbers_in P ++ r) (over_later (numbers_in v) ns (omega arith)) ∙ sym (append_assoc (numbers_in P) (numbers_in v) ns1) ∙ ap (λ r. r ++ ns1) (sym (numbers_append P v)) in
      let references_is : references_in P ++ over (references_in v) rs ≡ references_in (P ++ v) ++ rs1 =
      ap (λ r. references_in P ++ r) (over_later (references_in v) rs (omega arith)) ∙ sym (append_assoc (references_in P) (references_in v) rs1) ∙ ap (λ r. r ++ rs1) (sym (references_append P v)) in
      let cells_are : field_cells p type k base ≡ cells_at base (record { n = length (numbers_in P); p = length (references_in P) }) (slot_sorts p d.ty) =
      ap (λ o. cells_at base (past_all first_numbers (field_sorts p (take k (fields_of p type)))) (sorts_of_field p o)) at ∙ ap (λ t. cells_at base t (slot_sorts p d.ty)) (counts_first (field_sorts p (take k (fields_of p type))) P of) in
      let first : Runs R cm (puts (field_cells p type k base) x) F (cells_of w (numbers_in P ++ ns) (references_in P ++ rs)) (crun.goes F (cells_of w (numbers_in (P ++ v) ++ ns1) (references_in (P ++ v) ++ rs1))) =
      subst (λ cs. Runs R cm (puts cs x) F (cells_of w (numbers_in P ++ ns) (references_in P ++ rs)) (crun.goes F (cells_of w (numbers_in (P ++ v) ++ ns1) (references_in (P ++ v) ++ rs1)))) (sym cells_are)
      (subst (λ xs. Runs R cm (puts (cells_at base (record { n = length (numbers_in P); p = length (references_in P) }) (slot_sorts p d.ty)) x) F (cells_of w (numbers_in P ++ ns) (references_in P ++ rs)) (crun.goes F (cells_of w xs (references_in (P ++ v) ++ rs1)))) numbers_is
      (subst (λ xs. Runs R cm (puts (cells_at base (record { n = length (numbers_in P); p = length (references_in P) }) (slot_sorts p d.ty)) x) F (cells_of w (numbers_in P ++ ns) (references_in P ++ rs)) (crun.goes F (cells_of w (numbers_in P ++ over (numbers_in v) ns) xs))) references_is
      (puts_run R cm bs n q o b live base (slot_sorts p d.ty) x v (numbers_in P) ns (references_in P) rs F w var sorts (λ c. (have c).0) (omega arith) (omega arith)))) in
      let others = fields_put (suc k) ds values atoms (P ++ v) ns1 rs1 w (λ j e y. ap (slice_get (fields_of p type)) (more k j) ∙ decls (suc j) e y) shapes.1 (λ c. (have c).1)
      (subst (λ ss. AreOfSorts ss (P ++ v)) (sym (sorts_next p (fields_of p type) k d at)) (sorts_append (field_sorts p (take k (fields_of p type))) (slot_sorts p d.ty) P v of sorts))
      (sym (later_long (numbers_in v) ns (length (numbers_in rest)) long_n)) (sym (later_long (references_in v) rs (length (references_in rest)) long_r)) in
      runs_then R cm (puts (field_cells p type k base) x) (field_puts p type base (suc k) atoms) F F (cells_of w (numbers_in P ++ ns) (references_in P ++ rs)) (cells_of w (numbers_in (P ++ v) ++ ns1) (references_in (P ++ v) ++ rs1)) _ first
      (subst (λ vs. Runs R cm (field_puts p type base (suc k) atoms) F (cells_of w (numbers_in (P ++ v) ++ ns1) (references_in (P ++ v) ++ rs1)) (crun.goes F (cells_of w (numbers_in vs) (references_in vs)))) (append_assoc P v rest) others)
    where
      none : (k : ℕ) → k ≡ k + 0
      none k = omega arith

      more : (k j : ℕ) → suc k + j ≡ k + suc j
      more k j = omega arith

-- ---- those that own

abbrev pub owner_references : List Sort → List Value → List (Option ℕ)
owner_references (of_owner ∷ ss) (reference r ∷ vs) = r ∷ owner_references ss vs
owner_references (of_owner ∷ ss) (number z ∷ vs) = owner_references ss vs
owner_references (of_number ∷ ss) (v ∷ vs) = owner_references ss vs
owner_references (of_reference ∷ ss) (v ∷ vs) = owner_references ss vs
owner_references _ _ = []

module _ (R : crun.Setup) (cm : crun.Meaning) (p : Program) where
  -- names of the module that they are in
  abbrev HaveRefs : List Arg → List (Option ℕ) → crun.Frame → Type 0
  HaveRefs = HaveReferences R cm p

  owners_one : (ss : List Sort) (atoms : List Atom) (vs : List Value) (F : crun.Frame) (bs : Blocks) → AreOfSorts ss vs → HaveAtoms atoms vs F bs → HaveRefs (map atom_arg (owner_atoms_in ss atoms)) (owner_references ss vs) F
  owners_one [] [] [] F bs of h = tt
  owners_one [] (a ∷ atoms) [] F bs of h = absurd h
  owners_one [] atoms (v ∷ vs) F bs of h = absurd of
  owners_one (s ∷ ss) atoms [] F bs of h = absurd of
  owners_one (s ∷ ss) [] (v ∷ vs) F bs of h = absurd h
  owners_one (of_number ∷ ss) (a ∷ atoms) (v ∷ vs) F bs of h = owners_one ss atoms vs F bs of.1 h.1
  owners_one (of_reference ∷ ss) (a ∷ atoms) (v ∷ vs) F bs of h = owners_one ss atoms vs F bs of.1 h.1
  owners_one (of_owner ∷ ss) (a ∷ atoms) (number z ∷ vs) F bs of h = absurd of.0
  owners_one (of_owner ∷ ss) (a ∷ atoms) (reference r ∷ vs) F bs of h = (arg_is a F bs (reference r) h.0, owners_one ss atoms vs F bs of.1 h.1)

  owned_one : (ss : List Sort) (vs : List Value) → AreOfSorts ss vs → present R cm p (owner_references ss vs) ≡ owned_in_slots ss vs
  owned_one [] [] of = refl
  owned_one [] (v ∷ vs) of = absurd of
  owned_one (s ∷ ss) [] of = absurd of
  owned_one (of_number ∷ ss) (v ∷ vs) of = owned_one ss vs of.1
  owned_one (of_reference ∷ ss) (v ∷ vs) of = owned_one ss vs of.1
  owned_one (of_owner ∷ ss) (number z ∷ vs) of = absurd of.0
  owned_one (of_owner ∷ ss) (reference None ∷ vs) of = owned_one ss vs of.1
  owned_one (of_owner ∷ ss) (reference (Some n) ∷ vs) of = ap (λ r. n ∷ r) (owned_one ss vs of.1)

  refs_append : (xs ys : List Arg) (rs us : List (Option ℕ)) (F : crun.Frame) → HaveRefs xs rs F → HaveRefs ys us F → HaveRefs (xs ++ ys) (rs ++ us) F
  refs_append [] ys [] us F h k = k
  refs_append [] ys (r ∷ rs) us F h k = absurd h
  refs_append (x ∷ xs) ys [] us F h k = absurd h
  refs_append (x ∷ xs) ys (r ∷ rs) us F h k = (h.0, refs_append xs ys rs us F h.1 k)

  present_append : (rs us : List (Option ℕ)) → present R cm p (rs ++ us) ≡ present R cm p rs ++ present R cm p us
  present_append [] us = refl
  present_append (None ∷ rs) us = present_append rs us
  present_append (Some n ∷ rs) us = ap (λ r. n ∷ r) (present_append rs us)

  map_append : (xs ys : List Atom) → map atom_arg (xs ++ ys) ≡ map atom_arg xs ++ map atom_arg ys
  map_append [] ys = refl
  map_append (x ∷ xs) ys = ap (λ r. atom_arg x ∷ r) (map_append xs ys)

  -- the references of all owning fields
  abbrev pub field_references : List FieldDecl → List source.Value → List (Option ℕ)
  field_references (d ∷ ds) (a ∷ values) = owner_references (slot_sorts p d.ty) (slot_values p d.ty a) ++ field_references ds values
  field_references _ _ = []

  pub owners_all : (type k : ℕ) (ts : List ℕ) (ds : List FieldDecl) (values : List source.Value) (atoms : List (List Atom)) (F : crun.Frame) (bs : Blocks) → ((j : ℕ) (d : FieldDecl) → slice_get ds j ≡ Some d → slice_get (fields_of p type) (k + j) ≡ Some d) →
      HaveCellShapes p ts ds values → HaveFields p atoms ds values F bs → HaveRefs (map atom_arg (owner_atoms p type k atoms)) (field_references ds values) F
  owners_all type k ts [] [] [] F bs decls shapes h = tt
  owners_all type k ts [] [] (x ∷ atoms) F bs decls shapes h = absurd h
  owners_all type k ts [] (a ∷ values) atoms F bs decls shapes h = absurd shapes
  owners_all type k ts (d ∷ ds) [] atoms F bs decls shapes h = absurd shapes
  owners_all type k ts (d ∷ ds) (a ∷ values) [] F bs decls shapes h = absurd h
  owners_all type k ts (d ∷ ds) (a ∷ values) (x ∷ atoms) F bs decls shapes h =
      let at : sorts_at p type k ≡ slot_sorts p d.ty = ap (λ o. sorts_of_field p o) (ap (slice_get (fields_of p type)) (none k) ∙ decls 0 d refl) in
      subst (λ xs. HaveRefs xs (field_references (d ∷ ds) (a ∷ values)) F) (sym (map_append (owner_atoms_in (sorts_at p type k) x) (owner_atoms p type (suc k) atoms)))
      (refs_append (map atom_arg (owner_atoms_in (sorts_at p type k) x)) (map atom_arg (owner_atoms p type (suc k) atoms)) (owner_references (slot_sorts p d.ty) (slot_values p d.ty a)) (field_references ds values) F
      (subst (λ ss. HaveRefs (map atom_arg (owner_atoms_in ss x)) (owner_references (slot_sorts p d.ty) (slot_values p d.ty a)) F) (sym at) (owners_one (slot_sorts p d.ty) x (slot_values p d.ty a) F bs (shape_sorts p ts d.ty a shapes.0) h.0))
      (owners_all type (suc k) ts ds values atoms F bs (λ j e y. ap (slice_get (fields_of p type)) (more k j) ∙ decls (suc j) e y) shapes.1 h.1))
    where
      none : (k : ℕ) → k ≡ k + 0
      none k = omega arith

      more : (k j : ℕ) → suc k + j ≡ k + suc j
      more k j = omega arith

  pub owned_all : (ts : List ℕ) (ds : List FieldDecl) (values : List source.Value) → ((j : ℕ) (d : FieldDecl) → slice_get ds j ≡ Some d → is_field_type p d.ty ≡ true) → HaveCellShapes p ts ds values → present R cm p (field_references ds values) ≡ flat_map objects_in values
  owned_all ts [] [] plain shapes = refl
  owned_all ts [] (a ∷ values) plain shapes = absurd shapes
  owned_all ts (d ∷ ds) [] plain shapes = absurd shapes
  owned_all ts (d ∷ ds) (a ∷ values) plain shapes =
      present_append (owner_references (slot_sorts p d.ty) (slot_values p d.ty a)) (field_references ds values)
      ∙ ap (λ r. r ++ present R cm p (field_references ds values)) (owned_one (slot_sorts p d.ty) (slot_values p d.ty a) (shape_sorts p ts d.ty a shapes.0)
      ∙ owners_in_order p ts d.ty a shapes.0 (value_bare p ts d.ty a shapes.0 (field_unkeyed p d.ty (plain 0 d refl))))
      ∙ ap (λ r. objects_in a ++ r) (owned_all ts ds values (λ j e y. plain (suc j) e y) shapes.1)
