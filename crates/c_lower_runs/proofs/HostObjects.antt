-- A host's new object is a new block without cells.
use Rattle.std.proofs.Common.{◌≡◌, ◌⊎◌, inl, inr, ℕ, zero, suc, true, false, if◌then◌else◌, List, [], ◌∷◌, ◌++◌, length, Some, None, slice_get, refl, sym, ap, ◌∙◌, subst}
use Rattle.std.proofs.lemmas.List.{map-append, length-map}
use Rattle.std.proofs.lemmas.Option.{none-some, same_Some}
use Rattle.vlt_core.specs.Core.{FieldDecl, Program}
use Rattle.vlt_core.specs.Lookups.{fields_of}
use Rattle.vlt_meaning.specs.World as source
use Rattle.vlt_meaning.specs.World.{Object}
use Rattle.vlt_meaning.specs.Externals.{from_host}
use Rattle.vlt_meaning.specs.Step as step
use Rattle.c_syntax.specs.declared.program.CVar.{CVar}
use Rattle.c_syntax.specs.declared.program.CPrim.TheVariants as prim
use Rattle.c_meaning.specs.World as cw
use Rattle.c_meaning.specs.Blocks as c
use Rattle.c_meaning.specs.Primitives as effect
use Rattle.c_meaning.specs.Run as crun
use Rattle.c_meaning.specs.Run.{goes, stops}
use Rattle.c_lower.specs.Statements.{count_arg}
use Rattle.c_lower.specs.Glue.{new_object}
use Rattle.c_lower_worlds.specs.Worlds.{Registers, c_world, block_of, blocks_of, cell_values, numbers_in, references_in}
use Rattle.c_lower_worlds.specs.Shapes.{types_of, HaveCellShapes, AreShaped}
use Rattle.c_lower_worlds.proofs.OfNaming.FoundObjects.{IsFree}
use Rattle.c_lower_worlds.proofs.BlockChanges.{full_alike, live_block_is}
use Rattle.c_lower_worlds.proofs.StatementLists.{Runs, value_runs, value_stops}
use Rattle.c_lower_worlds.proofs.LaterShapes.{Later, cells_later}

no_cells : (p : Program) (ds : List FieldDecl) → cell_values p ds [] ≡ []
no_cells p [] = refl
no_cells p (d ∷ ds) = refl

new_is : (p : Program) (t st : ℕ) (o : source.Owner) → IsFree o → block_of p (from_host t st o) ≡ Some (c.new_block 0 0)
new_is p t st o free =
    live_block_is p o (cell_values p (fields_of p t) []) free.live
    ∙ rw (free.above, free.out) (ap (λ vs. Some (record { parent = None; is_out = false; numbers = numbers_in vs; references = references_in vs })) (no_cells p (fields_of p t)))

-- ---- what is there with one object more

pub more_later : (os : List Object) (o : Object) → Later (types_of os) (types_of (os ++ o ∷ []))
more_later os o = record { at = by os }
  where
    by : (os : List Object) (n t : ℕ) → slice_get (types_of os) n ≡ Some t → slice_get (types_of (os ++ o ∷ [])) n ≡ Some t
    by [] n t e = absurd (none-some t e)
    by (x ∷ os) zero t e = e
    by (x ∷ os) (suc n) t e = by os n t e

pub last_type : (os : List Object) (o : Object) → slice_get (types_of (os ++ o ∷ [])) (length os) ≡ Some o.type
last_type [] o = refl
last_type (x ∷ os) o = last_type os o

pub more_shaped : (p : Program) (os : List Object) (o : Object) → HaveCellShapes p (types_of (os ++ o ∷ [])) (fields_of p o.type) o.cells → AreShaped p os → AreShaped p (os ++ o ∷ [])
more_shaped p os o new h = record { each = λ n x e. by n x (one os n x e) }
  where
    one : (os : List Object) (n : ℕ) (x : Object) → slice_get (os ++ o ∷ []) n ≡ Some x → (slice_get os n ≡ Some x) ⊎ (o ≡ x)
    one [] zero x e = inr (same_Some o x e)
    one [] (suc n) x e = absurd (none-some x e)
    one (y ∷ os) zero x e = inl e
    one (y ∷ os) (suc n) x e = one os n x e

    by : (n : ℕ) (x : Object) → (slice_get os n ≡ Some x) ⊎ (o ≡ x) → HaveCellShapes p (types_of (os ++ o ∷ [])) (fields_of p x.type) x.cells
    by n x (inl e) = cells_later p (types_of os) (types_of (os ++ o ∷ [])) (more_later os o) (fields_of p x.type) x.cells (h.each n x e)
    by n x (inr e) = subst (λ (x : Object). HaveCellShapes p (types_of (os ++ o ∷ [])) (fields_of p x.type) x.cells) e new

pub host_shaped : (p : Program) (os : List Object) (t st : ℕ) (o : source.Owner) → fields_of p t ≡ [] → AreShaped p os → AreShaped p (os ++ from_host t st o ∷ [])
host_shaped p os t st o plain h = more_shaped p os (from_host t st o) (subst (λ ds. HaveCellShapes p (types_of (os ++ from_host t st o ∷ [])) ds []) (sym plain) tt) h

-- ---- the new block

module _ (p : Program) (R : crun.Setup) (cm : crun.Meaning) where
  pub new_goes : (v : CVar) (t st : ℕ) (o : source.Owner) (f : crun.Frame) (w : source.World) (g : Registers) → IsFree o → source.is_full R.heap w.objects ≡ false →
      Runs R cm (new_object v) f (c_world p g w) (goes (crun.with_var v (cw.reference (Some (length w.objects))) f) (c_world p g (step.with_objects w (w.objects ++ from_host t st o ∷ []))))
  new_goes v t st o f w g free room =
      value_runs R cm v prim.New (count_arg 0 ∷ count_arg 0 ∷ []) (cw.reference (Some (length w.objects))) f (c_world p g w) (c_world p g (step.with_objects w (w.objects ++ from_host t st o ∷ [])))
      (subst (λ b. (if b then effect.ends cw.heap_end (c_world p g w) else effect.gives (Some (cw.reference (Some (length (blocks_of p w.objects))))) (record (c_world p g w) { blocks = blocks_of p w.objects ++ Some (c.new_block 0 0) ∷ [] })) ≡ effect.gives (Some (cw.reference (Some (length w.objects)))) (c_world p g (step.with_objects w (w.objects ++ from_host t st o ∷ []))))
      (sym (full_alike p R.heap w.objects ∙ room))
      (ap (λ n. effect.gives (Some (cw.reference (Some n))) (record (c_world p g w) { blocks = blocks_of p w.objects ++ Some (c.new_block 0 0) ∷ [] })) (length-map w.objects (block_of p))
      ∙ ap (λ bs. effect.gives (Some (cw.reference (Some (length w.objects)))) (record (c_world p g w) { blocks = bs }))
      (ap (λ b. blocks_of p w.objects ++ b ∷ []) (sym (new_is p t st o free)) ∙ sym (map-append (block_of p) w.objects (from_host t st o ∷ [])))))

  pub new_stops : (v : CVar) (f : crun.Frame) (w : source.World) (g : Registers) → source.is_full R.heap w.objects ≡ true →
      Runs R cm (new_object v) f (c_world p g w) (stops cw.heap_end (c_world p g w))
  new_stops v f w g full =
      value_stops R cm v prim.New (count_arg 0 ∷ count_arg 0 ∷ []) f (c_world p g w) (c_world p g w) cw.heap_end (rw (full_alike p R.heap w.objects, full) refl)
