-- Cells that are written, one after another.
use Rattle.std.proofs.Common.{◌≡◌, ◌≤◌, ℕ, zero, suc, ◌+◌, nat_lt, Bool, true, ℤ, List, [], ◌∷◌, ◌++◌, take, length, Option, Some, None, slice_get, slice_set, Ok, length-append, append_assoc, refl, sym, ap, ◌∙◌, subst, arith}
use Rattle.std.proofs.lemmas.Bool.Decides.{nat_tests}
use Rattle.std.proofs.lemmas.Option.{none-some, same_Some}
use Rattle.vlt_core.specs.Core.{FieldDecl, Program}
use Rattle.vlt_meaning.specs.World as source
use Rattle.c_syntax.specs.C as syntax
use Rattle.c_meaning.specs.World as cw
use Rattle.c_meaning.specs.World.{Value, number, reference}
use Rattle.c_meaning.specs.Values.{p_variable}
use Rattle.c_meaning.specs.Values as cvalues
use Rattle.c_meaning.specs.Blocks.{Block, Blocks, live_block}
use Rattle.c_meaning.specs.Primitives as effect
use Rattle.c_meaning.specs.Primitives.{put_does, or_broken}
use Rattle.c_meaning.specs.Run as crun
use Rattle.c_lower.specs.Slots.{Sort, of_number, of_reference, of_owner, past, cell_at, cells_at, slot_sorts, field_sorts}
use Rattle.c_lower.specs.Expressions.{Atom, atom_expr}
use Rattle.c_lower.specs.Statements.{puts}
use Rattle.c_lower_worlds.specs.Worlds.{slot_values, numbers_in, references_in, cell_values}
use Rattle.c_lower_worlds.specs.Shapes.{HasShape, HaveCellShapes}
use Rattle.c_lower_worlds.specs.Sorts.{AreOfSorts}
use Rattle.c_lower_worlds.specs.Operands.{HaveAtoms}
use Rattle.c_lower_worlds.proofs.VariantSlots.{shape_sorts, sorts_append}
use Rattle.c_lower_worlds.proofs.StatementLists.{Runs, runs_then, put_runs}

-- ---- lists

-- the first ones are others
abbrev pub over : {A : Type 0} → List A → List A → List A
over [] ys = ys
over (x ∷ xs) (y ∷ ys) = x ∷ over xs ys
over (x ∷ xs) [] = []

pub over_front : {A : Type 0} (xs ys zs : List A) → length xs ≡ length ys → over xs (ys ++ zs) ≡ xs ++ zs
over_front [] [] zs e = refl
over_front [] (y ∷ ys) zs e = absurd (omega arith)
over_front (x ∷ xs) [] zs e = absurd (omega arith)
over_front (x ∷ xs) (y ∷ ys) zs e = ap (λ r. x ∷ r) (over_front xs ys zs (omega arith))

pub set_mid : {A : Type 0} (xs : List A) (y z : A) (ys : List A) → slice_set (xs ++ y ∷ ys) (length xs) z ≡ xs ++ z ∷ ys
set_mid [] y z ys = refl
set_mid (x ∷ xs) y z ys = ap (λ r. x ∷ r) (set_mid xs y z ys)

mid_below : {A : Type 0} (xs : List A) (y : A) (ys : List A) → nat_lt (length xs) (length (xs ++ y ∷ ys)) ≡ true
mid_below xs y ys = let e = length-append xs (y ∷ ys) in grind (arith, nat_tests)

length_one : {A : Type 0} (xs : List A) (y : A) → length (xs ++ y ∷ []) ≡ suc (length xs)
length_one xs y = length-append xs (y ∷ []) ∙ one (length xs)
  where
    one : (n : ℕ) → n + 1 ≡ suc n
    one n = omega arith

set_twice : {A : Type 0} (xs : List A) (n : ℕ) (y z : A) → slice_set (slice_set xs n y) n z ≡ slice_set xs n z
set_twice [] n y z = refl
set_twice (x ∷ xs) zero y z = refl
set_twice (x ∷ xs) (suc n) y z = ap (λ r. x ∷ r) (set_twice xs n y z)

pub set_live : (bs : Blocks) (n : ℕ) (b c : Block) → live_block bs n ≡ Some b → live_block (slice_set bs n (Some c)) n ≡ Some c
set_live [] n b c e = absurd (none-some b e)
set_live (x ∷ bs) zero b c e = refl
set_live (x ∷ bs) (suc n) b c e = set_live bs n b c e

-- a list that is set to what it has
pub set_itself : (bs : Blocks) (n : ℕ) (b : Block) → live_block bs n ≡ Some b → slice_set bs n (Some b) ≡ bs
set_itself [] n b e = refl
set_itself (None ∷ bs) zero b e = absurd (none-some b e)
set_itself (Some x ∷ bs) zero b e = ap (λ (o : Option Block). o ∷ bs) (sym e)
set_itself (x ∷ bs) (suc n) b e = ap (λ r. x ∷ r) (set_itself bs n b e)

-- ---- one cell

module _ (bs : Blocks) (n : ℕ) (q : Option ℕ) (o : Bool) where
  abbrev pub with_cells : List (Option ℤ) → List (Option (Option ℕ)) → Blocks
  with_cells ns rs = slice_set bs n (Some (record { parent = q; is_out = o; numbers = ns; references = rs }))

  module _ (b : Block) (live : live_block bs n ≡ Some b) where
    pub number_put : (base : ℕ) (e : syntax.Expr) (z : ℤ) (pn : List (Option ℤ)) (y : Option ℤ) (ns : List (Option ℤ)) (rs : List (Option (Option ℕ))) (vars : cw.Vars) (w : cw.World) → vars (p_variable base) ≡ Some (reference (Some n)) →
        ((bs : Blocks) → cvalues.value_of e vars bs ≡ Ok (number z)) →
        put_does (cell_at base (record { n = length pn; p = length rs }) of_number) e vars (record w { blocks = with_cells (pn ++ y ∷ ns) rs }) ≡ effect.nothing (record w { blocks = with_cells (pn ++ Some z ∷ ns) rs })
    unfolding or_broken
    number_put base e z pn y ns rs vars w at value =
        rw (
          at,
          value (with_cells (pn ++ y ∷ ns) rs),
          set_live bs n b (record { parent = q; is_out = o; numbers = pn ++ y ∷ ns; references = rs }) live,
          mid_below pn y ns,
          set_mid pn y (Some z) ns,
          set_twice bs n (Some (record { parent = q; is_out = o; numbers = pn ++ y ∷ ns; references = rs })) (Some (record { parent = q; is_out = o; numbers = pn ++ Some z ∷ ns; references = rs })),
        ) refl

    pub reference_put : (base i : ℕ) (e : syntax.Expr) (r : Option ℕ) (ns : List (Option ℤ)) (pr : List (Option (Option ℕ))) (y : Option (Option ℕ)) (rs : List (Option (Option ℕ))) (vars : cw.Vars) (w : cw.World) → vars (p_variable base) ≡ Some (reference (Some n)) →
        ((bs : Blocks) → cvalues.value_of e vars bs ≡ Ok (reference r)) →
        put_does (cell_at base (record { n = i; p = length pr }) of_reference) e vars (record w { blocks = with_cells ns (pr ++ y ∷ rs) }) ≡ effect.nothing (record w { blocks = with_cells ns (pr ++ Some r ∷ rs) })
    unfolding or_broken
    reference_put base i e r ns pr y rs vars w at value =
        rw (
          at,
          value (with_cells ns (pr ++ y ∷ rs)),
          set_live bs n b (record { parent = q; is_out = o; numbers = ns; references = pr ++ y ∷ rs }) live,
          mid_below pr y rs,
          set_mid pr y (Some r) rs,
          set_twice bs n (Some (record { parent = q; is_out = o; numbers = ns; references = pr ++ y ∷ rs })) (Some (record { parent = q; is_out = o; numbers = ns; references = pr ++ Some r ∷ rs })),
        ) refl

-- ---- the cells of a value

one_number : (pn : List (Option ℤ)) (x : Option ℤ) (pr : List (Option (Option ℕ))) → past (record { n = length pn; p = length pr }) of_number ≡ record { n = length (pn ++ x ∷ []); p = length pr }
one_number pn x pr = ap (λ k. record { n = k; p = length pr }) (sym (length_one pn x))

one_reference : (pn : List (Option ℤ)) (pr : List (Option (Option ℕ))) (x : Option (Option ℕ)) → past (record { n = length pn; p = length pr }) of_reference ≡ record { n = length pn; p = length (pr ++ x ∷ []) }
one_reference pn pr x = ap (λ k. record { n = length pn; p = k }) (sym (length_one pr x))

module _ (R : crun.Setup) (cm : crun.Meaning) (bs : Blocks) (n : ℕ) (q : Option ℕ) (o : Bool) (b : Block) (live : live_block bs n ≡ Some b) where
  abbrev at_cells : cw.World → List (Option ℤ) → List (Option (Option ℕ)) → cw.World
  at_cells w ns rs = record w { blocks = with_cells bs n q o ns rs }

  AtomsAlways : List Atom → List Value → crun.Frame → Type 0
  AtomsAlways atoms vs F = (bs : Blocks) → HaveAtoms atoms vs F bs

  pub puts_run : (base : ℕ) (ss : List Sort) (atoms : List Atom) (vs : List Value) (pn ns : List (Option ℤ)) (pr rs : List (Option (Option ℕ))) (F : crun.Frame) (w : cw.World) → F.vars (p_variable base) ≡ Some (reference (Some n)) →
      AreOfSorts ss vs → ((bs : Blocks) → HaveAtoms atoms vs F bs) → length (numbers_in vs) ≤ length ns → length (references_in vs) ≤ length rs →
      Runs R cm (puts (cells_at base (record { n = length pn; p = length pr }) ss) atoms) F (at_cells w (pn ++ ns) (pr ++ rs)) (crun.goes F (at_cells w (pn ++ over (numbers_in vs) ns) (pr ++ over (references_in vs) rs)))
  puts_run base [] [] [] pn ns pr rs F w at of have ln lr = λ i. refl
  puts_run base [] (a ∷ atoms) [] pn ns pr rs F w at of have ln lr = absurd (have bs)
  puts_run base [] atoms (v ∷ vs) pn ns pr rs F w at of have ln lr = absurd of
  puts_run base (s ∷ ss) atoms [] pn ns pr rs F w at of have ln lr = absurd of
  puts_run base (s ∷ ss) [] (v ∷ vs) pn ns pr rs F w at of have ln lr = absurd (have bs)
  puts_run base (of_number ∷ ss) (a ∷ atoms) (reference r ∷ vs) pn ns pr rs F w at of have ln lr = absurd of.0
  puts_run base (of_reference ∷ ss) (a ∷ atoms) (number z ∷ vs) pn ns pr rs F w at of have ln lr = absurd of.0
  puts_run base (of_owner ∷ ss) (a ∷ atoms) (number z ∷ vs) pn ns pr rs F w at of have ln lr = absurd of.0
  puts_run base (of_number ∷ ss) (a ∷ atoms) (number z ∷ vs) pn [] pr rs F w at of have ln lr = absurd (omega arith)
  puts_run base (of_number ∷ ss) (a ∷ atoms) (number z ∷ vs) pn (y ∷ ns) pr rs F w at of have ln lr =
      runs_then R cm (syntax.put (cell_at base (record { n = length pn; p = length pr }) of_number) (atom_expr a) ∷ []) (puts (cells_at base (past (record { n = length pn; p = length pr }) of_number) ss) atoms)
      F F (at_cells w (pn ++ y ∷ ns) (pr ++ rs)) (at_cells w (pn ++ Some z ∷ ns) (pr ++ rs)) _
      (put_runs R cm (cell_at base (record { n = length pn; p = length pr }) of_number) (atom_expr a) F (at_cells w (pn ++ y ∷ ns) (pr ++ rs)) (at_cells w (pn ++ Some z ∷ ns) (pr ++ rs))
      (number_put bs n q o b live base (atom_expr a) z pn y ns (pr ++ rs) F.vars w at (λ c. (have c).0)))
      (subst (λ t. Runs R cm (puts (cells_at base t ss) atoms) F (at_cells w (pn ++ Some z ∷ ns) (pr ++ rs)) (crun.goes F (at_cells w (pn ++ Some z ∷ over (numbers_in vs) ns) (pr ++ over (references_in vs) rs)))) (sym (one_number pn (Some z) pr))
      (subst (λ xs. Runs R cm (puts (cells_at base (record { n = length (pn ++ Some z ∷ []); p = length pr }) ss) atoms) F (at_cells w xs (pr ++ rs)) (crun.goes F (at_cells w (pn ++ Some z ∷ over (numbers_in vs) ns) (pr ++ over (references_in vs) rs)))) (append_assoc pn (Some z ∷ []) ns)
      (subst (λ xs. Runs R cm (puts (cells_at base (record { n = length (pn ++ Some z ∷ []); p = length pr }) ss) atoms) F (at_cells w ((pn ++ Some z ∷ []) ++ ns) (pr ++ rs)) (crun.goes F (at_cells w xs (pr ++ over (references_in vs) rs)))) (append_assoc pn (Some z ∷ []) (over (numbers_in vs) ns))
      (puts_run base ss atoms vs (pn ++ Some z ∷ []) ns pr rs F w at of.1 (λ c. (have c).1) (omega arith) lr))))
  puts_run base (of_reference ∷ ss) (a ∷ atoms) (reference r ∷ vs) pn ns pr [] F w at of have ln lr = absurd (omega arith)
  puts_run base (of_reference ∷ ss) (a ∷ atoms) (reference r ∷ vs) pn ns pr (y ∷ rs) F w at of have ln lr =
      runs_then R cm (syntax.put (cell_at base (record { n = length pn; p = length pr }) of_reference) (atom_expr a) ∷ []) (puts (cells_at base (record { n = length pn; p = suc (length pr) }) ss) atoms)
      F F (at_cells w (pn ++ ns) (pr ++ y ∷ rs)) (at_cells w (pn ++ ns) (pr ++ Some r ∷ rs)) _
      (put_runs R cm (cell_at base (record { n = length pn; p = length pr }) of_reference) (atom_expr a) F (at_cells w (pn ++ ns) (pr ++ y ∷ rs)) (at_cells w (pn ++ ns) (pr ++ Some r ∷ rs))
      (reference_put bs n q o b live base (length pn) (atom_expr a) r (pn ++ ns) pr y rs F.vars w at (λ c. (have c).0)))
      (subst (λ t. Runs R cm (puts (cells_at base t ss) atoms) F (at_cells w (pn ++ ns) (pr ++ Some r ∷ rs)) (crun.goes F (at_cells w (pn ++ over (numbers_in vs) ns) (pr ++ Some r ∷ over (references_in vs) rs)))) (sym (one_reference pn pr (Some r)))
      (subst (λ xs. Runs R cm (puts (cells_at base (record { n = length pn; p = length (pr ++ Some r ∷ []) }) ss) atoms) F (at_cells w (pn ++ ns) xs) (crun.goes F (at_cells w (pn ++ over (numbers_in vs) ns) (pr ++ Some r ∷ over (references_in vs) rs)))) (append_assoc pr (Some r ∷ []) rs)
      (subst (λ xs. Runs R cm (puts (cells_at base (record { n = length pn; p = length (pr ++ Some r ∷ []) }) ss) atoms) F (at_cells w (pn ++ ns) ((pr ++ Some r ∷ []) ++ rs)) (crun.goes F (at_cells w (pn ++ over (numbers_in vs) ns) xs))) (append_assoc pr (Some r ∷ []) (over (references_in vs) rs))
      (puts_run base ss atoms vs pn ns (pr ++ Some r ∷ []) rs F w at of.1 (λ c. (have c).1) ln (omega arith)))))
  puts_run base (of_owner ∷ ss) (a ∷ atoms) (reference r ∷ vs) pn ns pr [] F w at of have ln lr = absurd (omega arith)
  puts_run base (of_owner ∷ ss) (a ∷ atoms) (reference r ∷ vs) pn ns pr (y ∷ rs) F w at of have ln lr =
      runs_then R cm (syntax.put (cell_at base (record { n = length pn; p = length pr }) of_reference) (atom_expr a) ∷ []) (puts (cells_at base (record { n = length pn; p = suc (length pr) }) ss) atoms)
      F F (at_cells w (pn ++ ns) (pr ++ y ∷ rs)) (at_cells w (pn ++ ns) (pr ++ Some r ∷ rs)) _
      (put_runs R cm (cell_at base (record { n = length pn; p = length pr }) of_reference) (atom_expr a) F (at_cells w (pn ++ ns) (pr ++ y ∷ rs)) (at_cells w (pn ++ ns) (pr ++ Some r ∷ rs))
      (reference_put bs n q o b live base (length pn) (atom_expr a) r (pn ++ ns) pr y rs F.vars w at (λ c. (have c).0)))
      (subst (λ t. Runs R cm (puts (cells_at base t ss) atoms) F (at_cells w (pn ++ ns) (pr ++ Some r ∷ rs)) (crun.goes F (at_cells w (pn ++ over (numbers_in vs) ns) (pr ++ Some r ∷ over (references_in vs) rs)))) (sym (one_reference pn pr (Some r)))
      (subst (λ xs. Runs R cm (puts (cells_at base (record { n = length pn; p = length (pr ++ Some r ∷ []) }) ss) atoms) F (at_cells w (pn ++ ns) xs) (crun.goes F (at_cells w (pn ++ over (numbers_in vs) ns) (pr ++ Some r ∷ over (references_in vs) rs)))) (append_assoc pr (Some r ∷ []) rs)
      (subst (λ xs. Runs R cm (puts (cells_at base (record { n = length pn; p = length (pr ++ Some r ∷ []) }) ss) atoms) F (at_cells w (pn ++ ns) ((pr ++ Some r ∷ []) ++ rs)) (crun.goes F (at_cells w (pn ++ over (numbers_in vs) ns) xs))) (append_assoc pr (Some r ∷ []) (over (references_in vs) rs))
      (puts_run base ss atoms vs pn ns (pr ++ Some r ∷ []) rs F w at of.1 (λ c. (have c).1) ln (omega arith)))))

-- ---- the fields of an object, one of them another

-- values of the same sorts have as many numbers, and as many references
pub same_numbers : (ss : List Sort) (vs us : List Value) → AreOfSorts ss vs → AreOfSorts ss us → length (numbers_in vs) ≡ length (numbers_in us)
same_numbers [] [] [] h k = refl
same_numbers [] (v ∷ vs) us h k = absurd h
same_numbers [] [] (u ∷ us) h k = absurd k
same_numbers (s ∷ ss) [] us h k = absurd h
same_numbers (s ∷ ss) (v ∷ vs) [] h k = absurd k
same_numbers (of_number ∷ ss) (number z ∷ vs) (number y ∷ us) h k = ap suc (same_numbers ss vs us h.1 k.1)
same_numbers (of_number ∷ ss) (reference r ∷ vs) (u ∷ us) h k = absurd h.0
same_numbers (of_number ∷ ss) (number z ∷ vs) (reference y ∷ us) h k = absurd k.0
same_numbers (of_reference ∷ ss) (number z ∷ vs) (u ∷ us) h k = absurd h.0
same_numbers (of_reference ∷ ss) (reference r ∷ vs) (number y ∷ us) h k = absurd k.0
same_numbers (of_reference ∷ ss) (reference r ∷ vs) (reference y ∷ us) h k = same_numbers ss vs us h.1 k.1
same_numbers (of_owner ∷ ss) (number z ∷ vs) (u ∷ us) h k = absurd h.0
same_numbers (of_owner ∷ ss) (reference r ∷ vs) (number y ∷ us) h k = absurd k.0
same_numbers (of_owner ∷ ss) (reference r ∷ vs) (reference y ∷ us) h k = same_numbers ss vs us h.1 k.1

pub same_references : (ss : List Sort) (vs us : List Value) → AreOfSorts ss vs → AreOfSorts ss us → length (references_in vs) ≡ length (references_in us)
same_references [] [] [] h k = refl
same_references [] (v ∷ vs) us h k = absurd h
same_references [] [] (u ∷ us) h k = absurd k
same_references (s ∷ ss) [] us h k = absurd h
same_references (s ∷ ss) (v ∷ vs) [] h k = absurd k
same_references (of_number ∷ ss) (number z ∷ vs) (number y ∷ us) h k = same_references ss vs us h.1 k.1
same_references (of_number ∷ ss) (reference r ∷ vs) (u ∷ us) h k = absurd h.0
same_references (of_number ∷ ss) (number z ∷ vs) (reference y ∷ us) h k = absurd k.0
same_references (of_reference ∷ ss) (number z ∷ vs) (u ∷ us) h k = absurd h.0
same_references (of_reference ∷ ss) (reference r ∷ vs) (number y ∷ us) h k = absurd k.0
same_references (of_reference ∷ ss) (reference r ∷ vs) (reference y ∷ us) h k = ap suc (same_references ss vs us h.1 k.1)
same_references (of_owner ∷ ss) (number z ∷ vs) (u ∷ us) h k = absurd h.0
same_references (of_owner ∷ ss) (reference r ∷ vs) (number y ∷ us) h k = absurd k.0
same_references (of_owner ∷ ss) (reference r ∷ vs) (reference y ∷ us) h k = ap suc (same_references ss vs us h.1 k.1)

-- the values before a field, and those after it
pub record Split (p : Program) (types : List ℕ) (ds : List FieldDecl) (cells : List source.Value) (i : ℕ) (d : FieldDecl) (old : source.Value) : Type 0 where
  pub before : List Value
  pub after : List Value
  pub sorts : AreOfSorts (field_sorts p (take i ds)) before
  pub shape : HasShape p types d.ty old
  pub values : cell_values p ds cells ≡ before ++ (slot_values p d.ty old ++ after)
  pub others : (new : source.Value) → cell_values p ds (slice_set cells i new) ≡ before ++ (slot_values p d.ty new ++ after)
  pub shapes : (new : source.Value) → HasShape p types d.ty new → HaveCellShapes p types ds (slice_set cells i new)

pub split_at : (p : Program) (types : List ℕ) (ds : List FieldDecl) (cells : List source.Value) (i : ℕ) (d : FieldDecl) (old : source.Value) → HaveCellShapes p types ds cells → slice_get ds i ≡ Some d → slice_get cells i ≡ Some old →
    Split p types ds cells i d old
split_at p types [] cells i d old h at have = absurd (none-some d at)
split_at p types (e ∷ ds) [] i d old h at have = absurd h
split_at p types (e ∷ ds) (x ∷ cells) zero d old h at have =
    subst (λ (d : FieldDecl). Split p types (e ∷ ds) (x ∷ cells) 0 d old) (same_Some e d at)
    (subst (λ old. Split p types (e ∷ ds) (x ∷ cells) 0 e old) (same_Some x old have)
    (record { before = []; after = cell_values p ds cells; sorts = tt; shape = h.0; values = refl; others = λ new. refl; shapes = λ new s. (s, h.1) }))
split_at p types (e ∷ ds) (x ∷ cells) (suc i) d old h at have =
    let r = split_at p types ds cells i d old h.1 at have in
    record {
      before = slot_values p e.ty x ++ r.before;
      after = r.after;
      sorts = sorts_append (slot_sorts p e.ty) (field_sorts p (take i ds)) (slot_values p e.ty x) r.before (shape_sorts p types e.ty x h.0) r.sorts;
      shape = r.shape;
      values = ap (λ vs. slot_values p e.ty x ++ vs) r.values ∙ sym (append_assoc (slot_values p e.ty x) r.before (slot_values p d.ty old ++ r.after));
      others = λ new. ap (λ vs. slot_values p e.ty x ++ vs) (r.others new) ∙ sym (append_assoc (slot_values p e.ty x) r.before (slot_values p d.ty new ++ r.after));
      shapes = λ new s. (h.0, r.shapes new s);
    }
