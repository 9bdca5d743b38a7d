-- Objects that are moved, one after another.
use Rattle.std.proofs.Common.{◌≡◌, ◌≢◌, ℕ, Bool, true, false, List, [], ◌∷◌, map, Option, Some, None, slice_get, Ok, refl, sym, ap, ◌∙◌}
use Rattle.std.proofs.lemmas.Bool.{false≢true, true≢false}
use Rattle.std.proofs.lemmas.Option.{same_Some}
use Rattle.vlt_core.specs.Core.{Program}
use Rattle.vlt_meaning.specs.World as source
use Rattle.vlt_meaning.specs.World.{Owner, held, lent, loose, inside, adopted_by, out, gone, Object, is_loose, is_at}
use Rattle.vlt_meaning.specs.Found.{if_so}
use Rattle.vlt_meaning.specs.Objects.{object_at, owned_at, with_owner, with_changed_object, objects_after_move}
use Rattle.c_syntax.specs.declared.program.CVar.{CVar}
use Rattle.c_syntax.specs.declared.program.CPrim.TheVariants as prim
use Rattle.c_syntax.specs.C.{Arg}
use Rattle.c_meaning.specs.World as cw
use Rattle.c_meaning.specs.World.{World}
use Rattle.c_meaning.specs.Values.{arg_value}
use Rattle.c_meaning.specs.Primitives.{or_broken, on_references}
use Rattle.c_meaning.specs.Run.{Setup, Meaning, Frame, goes}
use Rattle.c_lower.specs.Statements.{runtime_call}
use Rattle.c_lower_worlds.specs.Worlds.{blocks_of}
use Rattle.c_lower_worlds.proofs.OfNaming.FoundObjects.{IsFree, then_ok, if_so_ok, object_at_ok, ok_same}
use Rattle.c_lower_worlds.proofs.BlockChanges.{own_is}
use Rattle.c_lower_worlds.proofs.StatementLists.{Runs, runs_then, call_runs}
use Rattle.c_lower_worlds.proofs.VariableValues.{get_other}

-- ---- the first object of a list that is moved

pub record FirstMoved (from : Owner → Bool) (to : Owner) (n : ℕ) (ns : List ℕ) (os after : List Object) : Type 0 where
  pub object : Object
  pub at : slice_get os n ≡ Some object
  pub passes : from object.owner ≡ true
  pub rest : objects_after_move from to ns (with_changed_object n (with_owner to) os) ≡ Ok after

pub first_moved : (from : Owner → Bool) (to : Owner) (n : ℕ) (ns : List ℕ) (os after : List Object) → objects_after_move from to (n ∷ ns) os ≡ Ok after →
    FirstMoved from to n ns os after
first_moved from to n ns os after e =
    let a = then_ok (owned_at from os n) (λ m. objects_after_move from to ns (with_changed_object n (with_owner to) os)) after e in
    let b = then_ok (object_at os n) (λ m. if_so (from m.object.owner) source.not_owned m) a.found a.first in
    let at = object_at_ok os n b.found b.first in
    let q = if_so_ok (from b.found.object.owner) source.not_owned b.found a.found b.second in
    record { object = b.found.object; at = ap (slice_get os) at.number ∙ at.at; passes = q.passes; rest = a.second }

pub at_free : (d : ℕ) (o : Owner) → is_at d o ≡ true → IsFree o
at_free d (held e j) h = record { above = refl; out = refl; live = refl }
at_free d (lent e j) h = record { above = refl; out = refl; live = refl }
at_free d loose h = absurd (false≢true h)
at_free d (inside n) h = absurd (false≢true h)
at_free d (adopted_by n) h = absurd (false≢true h)
at_free d out h = absurd (false≢true h)
at_free d gone h = absurd (false≢true h)

pub loose_free : (o : Owner) → is_loose o ≡ true → IsFree o
loose_free loose h = record { above = refl; out = refl; live = refl }
loose_free (held e j) h = absurd (false≢true h)
loose_free (lent e j) h = absurd (false≢true h)
loose_free (inside n) h = absurd (false≢true h)
loose_free (adopted_by n) h = absurd (false≢true h)
loose_free out h = absurd (false≢true h)
loose_free gone h = absurd (false≢true h)

-- each variable has a reference to the object
abbrev pub Refer : List CVar → List ℕ → Frame → Type 0
Refer [] [] f = Unit {0}
Refer (v ∷ vs) (n ∷ ns) f = (f.vars v ≡ Some (cw.reference (Some n))) × Refer vs ns f
Refer _ _ f = ⊥

-- a world of C with these blocks
abbrev pub with_blocks : Program → World → List Object → World
with_blocks p w os = record w { blocks = blocks_of p os }

-- ---- objects go into another one

module _ (R : Setup) (rest_of : Meaning) (p : Program) where
  -- the values of arguments: references, some of them null
  abbrev pub HaveReferences : List Arg → List (Option ℕ) → Frame → Type 0
  HaveReferences [] [] f = Unit {0}
  HaveReferences (x ∷ xs) (r ∷ rs) f = (arg_value x f.vars ≡ Ok (cw.reference r)) × HaveReferences xs rs f
  HaveReferences _ _ f = ⊥

  abbrev pub present : List (Option ℕ) → List ℕ
  present [] = []
  present (None ∷ rs) = present rs
  present (Some n ∷ rs) = n ∷ present rs

  -- an object that hangs on nothing and isn't loose, so that no loose one is it
  pub record IsRoot (os : List Object) (n : ℕ) : Type 0 where
    pub object : Object
    pub at : slice_get os n ≡ Some object
    pub free : IsFree object.owner
    pub not_loose : is_loose object.owner ≡ false

  pub owns_run : (xs : List Arg) (rs : List (Option ℕ)) (parent : Arg) (n : ℕ) (f : Frame) (w : World) (os after : List Object) → HaveReferences xs rs f →
      arg_value parent f.vars ≡ Ok (cw.reference (Some n)) → IsRoot os n → objects_after_move is_loose (inside n) (present rs) os ≡ Ok after →
      Runs R rest_of (map (λ x. runtime_call prim.Own (x ∷ parent ∷ [])) xs) f (with_blocks p w os) (goes f (with_blocks p w after))
  unfolding on_references or_broken
  owns_run [] [] parent n f w os after h at root e = λ k. ap (λ os. goes f (with_blocks p w os)) (ok_same os after e)
  owns_run [] (r ∷ rs) parent n f w os after h at root e = absurd h
  owns_run (x ∷ xs) [] parent n f w os after h at root e = absurd h
  owns_run (x ∷ xs) (None ∷ rs) parent n f w os after h at root e =
      runs_then R rest_of (runtime_call prim.Own (x ∷ parent ∷ []) ∷ []) (map (λ x. runtime_call prim.Own (x ∷ parent ∷ [])) xs) f f (with_blocks p w os) (with_blocks p w os) (goes f (with_blocks p w after))
      (call_runs R rest_of prim.Own (x ∷ parent ∷ []) f (with_blocks p w os) (with_blocks p w os) (rw (h.0, at) refl))
      (owns_run xs rs parent n f w os after h.1 at root e)
  owns_run (x ∷ xs) (Some m ∷ rs) parent n f w os after h at root e =
      let a = first_moved is_loose (inside n) m (present rs) os after e in
      let free = loose_free a.object.owner a.passes in
      let apart : m ≢ n = λ same. true≢false (sym a.passes ∙ ap (λ (o : Object). is_loose o.owner) (same_Some a.object root.object (sym a.at ∙ ap (slice_get os) same ∙ root.at)) ∙ root.not_loose) in
      let owned = own_is p os m n a.object root.object (inside n) (record { at = a.at; live = free.live }) (record { at = root.at; live = root.free.live }) free root.free.above apart refl refl refl in
      let mid = with_changed_object m (with_owner (inside n)) os in
      runs_then R rest_of (runtime_call prim.Own (x ∷ parent ∷ []) ∷ []) (map (λ x. runtime_call prim.Own (x ∷ parent ∷ [])) xs) f f (with_blocks p w os) (with_blocks p w mid) (goes f (with_blocks p w after))
      (call_runs R rest_of prim.Own (x ∷ parent ∷ []) f (with_blocks p w os) (with_blocks p w mid) (rw (h.0, at, owned) refl))
      (owns_run xs rs parent n f w mid after h.1 at
      (record { object = root.object; at = get_other os m n (with_owner (inside n)) (λ same. apart (sym same)) ∙ root.at; free = root.free; not_loose = root.not_loose }) a.rest)
