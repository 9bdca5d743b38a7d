-- Shapes: the keys of a type are no matter, and what has a shape keeps it while objects are made.
use Rattle.std.proofs.Common.{◌≡◌, ℕ, List, [], ◌∷◌, Option, Some, None, slice_get, refl}
use Rattle.vlt_core.specs.Core as core
use Rattle.vlt_core.specs.Core.{Ty, Func, FieldDecl, Program}
use Rattle.vlt_core.specs.Lookups.{var_type}
use Rattle.vlt_core.specs.Types.{with_keys}
use Rattle.vlt_meaning.specs.World as source
use Rattle.c_syntax.specs.declared.program.CVar.{CVar}
use Rattle.c_meaning.specs.Run.{Frame}
use Rattle.c_lower.specs.Slots.{slot_vars}
use Rattle.c_lower_worlds.specs.Worlds.{slot_values}
use Rattle.c_lower_worlds.specs.Shapes.{HasShape, HasPayloadShape, HavePayloadShapes, HaveCellShapes}
use Rattle.c_lower_worlds.specs.Frames.{HoldsTyped, HoldsVar, StandsFor}

-- the objects that were there have their types still
pub record Later (ts us : List ℕ) : Type 0 where
  pub at : (n t : ℕ) → slice_get ts n ≡ Some t → slice_get us n ≡ Some t

pub later_self : (ts : List ℕ) → Later ts ts
later_self ts = record { at = λ n t e. e }

payload_later : (ts us : List ℕ) → Later ts us → (ty : Ty) (a : source.Part) → HasPayloadShape ts ty a → HasPayloadShape us ty a
payload_later ts us l core.int a h = h
payload_later ts us l core.bool a h = h
payload_later ts us l (core.guarded k t args) a h = record { object = h.object; is = h.is; of = l.at h.object t h.of }
payload_later ts us l (core.owning states t args) a h = record { object = h.object; is = h.is; of = l.at h.object t h.of }
payload_later ts us l (core.tracked k t args) a h = absurd h
payload_later ts us l (core.variant t args) a h = absurd h
payload_later ts us l (core.owning_variant t args) a h = absurd h

payloads_later : (ts us : List ℕ) → Later ts us → (tys : List Ty) (parts : List source.Part) → HavePayloadShapes ts tys parts → HavePayloadShapes us tys parts
payloads_later ts us l [] [] h = tt
payloads_later ts us l [] (a ∷ parts) h = absurd h
payloads_later ts us l (t ∷ tys) [] h = absurd h
payloads_later ts us l (t ∷ tys) (a ∷ parts) h = (payload_later ts us l t a h.0, payloads_later ts us l tys parts h.1)

pub shape_later : (p : Program) (ts us : List ℕ) → Later ts us → (ty : Ty) (a : source.Value) → HasShape p ts ty a → HasShape p us ty a
shape_later p ts us l core.int a h = record { part = h.part; is = h.is; shape = h.shape }
shape_later p ts us l core.bool a h = record { part = h.part; is = h.is; shape = h.shape }
shape_later p ts us l (core.tracked k t args) a h = record { part = h.part; is = h.is; shape = record { object = h.shape.object; is = h.shape.is; of = l.at h.shape.object t h.shape.of } }
shape_later p ts us l (core.guarded k t args) a h = record { part = h.part; is = h.is; shape = payload_later ts us l (core.guarded k t args) h.part h.shape }
shape_later p ts us l (core.owning states t args) a h = record { part = h.part; is = h.is; shape = payload_later ts us l (core.owning states t args) h.part h.shape }
shape_later p ts us l (core.variant t args) a h = record {
  case = h.case;
  decl = h.decl;
  parts = h.parts;
  keys = h.keys;
  is = h.is;
  declared = h.declared;
  shape = payloads_later ts us l h.decl.payload h.parts h.shape;
  bare = h.bare;
}
shape_later p ts us l (core.owning_variant t args) a h = record {
  case = h.case;
  decl = h.decl;
  parts = h.parts;
  keys = h.keys;
  is = h.is;
  declared = h.declared;
  shape = payloads_later ts us l h.decl.payload h.parts h.shape;
  bare = h.bare;
}

pub stands_later : (p : Program) (ts us : List ℕ) → Later ts us → (fn : Func) (s : source.Frame) (f : Frame) → StandsFor p ts fn s f → StandsFor p us fn s f
stands_later p ts us l fn s f h = record { depth = h.depth; is_glue = h.is_glue; vars = λ v. by v (s.vars v) (h.vars v) }
  where
    typed : (ty : Option Ty) (vs : List CVar) (a : source.Value) → HoldsTyped p ts ty vs a f → HoldsTyped p us ty vs a f
    typed None vs a k = k
    typed (Some ty) vs a k = record { shape = shape_later p ts us l ty a k.shape; at = k.at }

    by : (v : ℕ) (a : Option source.Value) → HoldsVar p ts fn v a f → HoldsVar p us fn v a f
    by v None k = tt
    by v (Some a) k = typed (var_type fn v) (slot_vars p fn v) a k

-- ---- keys

pub shape_keys : (p : Program) (ts : List ℕ) (keys : List ℕ) (ty : Ty) (a : source.Value) → HasShape p ts (with_keys keys ty) a → HasShape p ts ty a
shape_keys p ts keys core.int a h = h
shape_keys p ts keys core.bool a h = h
shape_keys p ts keys (core.tracked k t args) a h = record { part = h.part; is = h.is; shape = h.shape }
shape_keys p ts keys (core.guarded k t args) a h = record { part = h.part; is = h.is; shape = h.shape }
shape_keys p ts keys (core.owning states t args) a h = record { part = h.part; is = h.is; shape = h.shape }
shape_keys p ts keys (core.variant t args) a h = h
shape_keys p ts keys (core.owning_variant t args) a h = h

pub values_keys : (p : Program) (keys : List ℕ) (ty : Ty) (a : source.Value) → slot_values p (with_keys keys ty) a ≡ slot_values p ty a
values_keys p keys core.int (source.one x) = refl
values_keys p keys core.int (source.of_case k parts ks) = refl
values_keys p keys core.bool (source.one x) = refl
values_keys p keys core.bool (source.of_case k parts ks) = refl
values_keys p keys (core.tracked j t args) (source.one x) = refl
values_keys p keys (core.tracked j t args) (source.of_case k parts ks) = refl
values_keys p keys (core.guarded j t args) (source.one x) = refl
values_keys p keys (core.guarded j t args) (source.of_case k parts ks) = refl
values_keys p keys (core.owning states t args) (source.one x) = refl
values_keys p keys (core.owning states t args) (source.of_case k parts ks) = refl
values_keys p keys (core.variant t args) (source.one x) = refl
values_keys p keys (core.variant t args) (source.of_case k parts ks) = refl
values_keys p keys (core.owning_variant t args) (source.one x) = refl
values_keys p keys (core.owning_variant t args) (source.of_case k parts ks) = refl

pub cells_later : (p : Program) (ts us : List ℕ) → Later ts us → (ds : List FieldDecl) (cells : List source.Value) → HaveCellShapes p ts ds cells → HaveCellShapes p us ds cells
cells_later p ts us l [] [] h = tt
cells_later p ts us l [] (a ∷ cells) h = absurd h
cells_later p ts us l (d ∷ ds) [] h = absurd h
cells_later p ts us l (d ∷ ds) (a ∷ cells) h = (shape_later p ts us l d.ty a h.0, cells_later p ts us l ds cells h.1)
