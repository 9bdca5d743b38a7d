-- What moves of objects and changes of states leave: types and shapes.
use Rattle.std.proofs.Common.{◌≡◌, ℕ, Bool, true, false, if◌then◌else◌, List, [], ◌∷◌, Ok, refl, ◌∙◌, subst, slice_get}
use Rattle.vlt_core.specs.Core.{Entry, Program}
use Rattle.vlt_meaning.specs.World as source
use Rattle.vlt_meaning.specs.World.{Owner, held, Object, is_out}
use Rattle.vlt_meaning.specs.Found.{Found, ◌>>=◌, or_fault}
use Rattle.vlt_meaning.specs.Objects.{with_owner, with_state, with_changed_object, objects_after_move}
use Rattle.vlt_meaning.specs.Externals as ext
use Rattle.c_lower_worlds.specs.Worlds.{blocks_of}
use Rattle.c_lower_worlds.specs.Shapes.{types_of, AreShaped}
use Rattle.c_lower_worlds.proofs.BlockChanges.{state_alike}
use Rattle.c_lower_worlds.proofs.MovedObjects.{first_moved}
use Rattle.c_lower_worlds.proofs.OfNaming.FoundObjects.{then_ok, ok_same}
use Rattle.c_lower_worlds.proofs.VariableValues.{owner_shaped, owner_types, shaped_kept, types_kept}

pub record KeepsShapes (p : Program) (before after : List Object) : Type 0 where
  pub types : types_of after ≡ types_of before
  pub shaped : AreShaped p before → AreShaped p after

pub keeps_self : (p : Program) (before after : List Object) → before ≡ after → KeepsShapes p before after
keeps_self p before after e = subst (KeepsShapes p before) e (record { types = refl; shaped = λ h. h })

pub keeps_more : {p : Program} {a b c : List Object} → KeepsShapes p a b → KeepsShapes p b c → KeepsShapes p a c
keeps_more x y = record { types = y.types ∙ x.types; shaped = λ h. y.shaped (x.shaped h) }

pub moved_keeps : (p : Program) (from : Owner → Bool) (to : Owner) (ns : List ℕ) (os after : List Object) → objects_after_move from to ns os ≡ Ok after → KeepsShapes p os after
moved_keeps p from to [] os after e = keeps_self p os after (ok_same os after e)
moved_keeps p from to (n ∷ ns) os after e =
    let a = first_moved from to n ns os after e in
    keeps_more (record { types = owner_types os n to; shaped = owner_shaped p os n to }) (moved_keeps p from to ns (with_changed_object n (with_owner to) os) after a.rest)

pub back_keeps : (p : Program) (keys : List ℕ) (s : source.Frame) (es : List Entry) (os after : List Object) → ext.come_back keys s es os ≡ Ok after → KeepsShapes p os after
back_keeps p keys s [] os after e = keeps_self p os after (ok_same os after e)
back_keeps p keys s (x ∷ es) os after e = by (ext.is_given x) (λ os. back_keeps p keys s es os after) e
  where
    rest : ℕ → ℕ → Found (List Object)
    rest k n = objects_after_move is_out (held s.depth k) (n ∷ []) os >>= ext.come_back keys s es

    by : (b : Bool) → ((os : List Object) → ext.come_back keys s es os ≡ Ok after → KeepsShapes p os after) →
        (if b then (or_fault source.missing (slice_get keys x.key) >>= (λ k. or_fault source.missing (s.keys k) >>= rest k)) else ext.come_back keys s es os) ≡ Ok after → KeepsShapes p os after
    by false later e = later os e
    by true later e =
        let a = then_ok (or_fault source.missing (slice_get keys x.key)) (λ k. or_fault source.missing (s.keys k) >>= rest k) after e in
        let b = then_ok (or_fault source.missing (s.keys a.found)) (rest a.found) after a.second in
        let c = then_ok (objects_after_move is_out (held s.depth a.found) (b.found ∷ []) os) (ext.come_back keys s es) after b.second in
        keeps_more (moved_keeps p is_out (held s.depth a.found) (b.found ∷ []) os c.found c.first) (later c.found c.second)

-- states are no matter for blocks
pub record KeepsBlocks (p : Program) (before after : List Object) : Type 0 where
  pub blocks : blocks_of p after ≡ blocks_of p before
  pub keeps : KeepsShapes p before after

pub states_keep : (p : Program) (qs : List (ℕ × ℕ)) (os : List Object) → KeepsBlocks p os (ext.with_states qs os)
states_keep p [] os = record { blocks = refl; keeps = keeps_self p os os refl }
states_keep p (q ∷ qs) os =
    let later = states_keep p qs (with_changed_object q.0 (with_state q.1) os) in
    record {
      blocks = later.blocks ∙ state_alike p os q.0 q.1;
      keeps = keeps_more (record { types = types_kept os q.0 (with_state q.1) (λ o. refl); shaped = shaped_kept p os q.0 (with_state q.1) (λ o. refl) (λ o. refl) }) later.keeps;
    }
