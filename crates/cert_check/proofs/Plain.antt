-- Notes of the code that are in order, and the plain ones.
use Rattle.std.proofs.Common.{ℕ, List, [], ◌∷◌, map, Option, Some, None, subst}
use Rattle.std.specs.Prelude.{slice_get, option_map}
use Rattle.vlt_core.specs.HeldView.{status_of}
use Rattle.vlt_core.specs.View.{tok_of}
use Rattle.vlt_core.specs.declared.held.Status as code
use Rattle.vlt_core.specs.declared.held.Status.TheVariants as status
use Rattle.vlt_core.specs.declared.notes.TokMap.{TokMap}
use Rattle.vlt_keyset.specs.Pairs.{Pair}
use Rattle.vlt_keyset.specs.Pairs as pairs
use Rattle.cert_read_parts.specs.Maps.{map_of, maps_of, pair_of, pairs_of}
use Rattle.cert_read_bodies.specs.Notes.{note_of}
use Rattle.cert_read_bodies.specs.declared.notes.MapsNote.{MapsNote}
use Rattle.cert_read_bodies.specs.declared.notes.MapsNote.TheVariants as note
use Rattle.cert_fit_laws.specs.Annotation.{map_or_empty}
use Rattle.cert_check.specs.Notes.{pairs_in, pairs_at, number_of, IsOrderedNote, IsBelowAll, AreOrdered}
use Rattle.cert_check.specs.Unfit as plain
use Rattle.cert_check.proofs.Pointing.{get_map}

present : (s : code.Status) → plain.IsPresent (status_of s) → pairs.IsPresent s
present status.Absent p = p
present (status.Held states) p = tt
present (status.Lent states) p = tt
present status.Full p = tt

first : (x : Pair) (ys : List Pair) → plain.ComesFirst (pair_of x) (pairs_of ys) → pairs.ComesFirst (tok_of x.0) ys
first x [] f = tt
first x (y ∷ ys) f = (f.0, first x ys f.1)

in_order : (xs : List Pair) → plain.IsMapInOrder (pairs_of xs) → pairs.AreInOrder xs
in_order [] o = tt
in_order (x ∷ xs) o = (present x.1 o.0, first x xs o.1, in_order xs o.2)

module _ (i : ℕ) where
  one : (o : Option TokMap) → plain.IsMapInOrder (map_or_empty (option_map map_of o)) → pairs.AreInOrder (pairs_in o)
  one None p = tt
  one (Some m) p = in_order m.pairs p

  here : (maps : List TokMap) → plain.IsMapInOrder (plain.map_at (maps_of maps) i) → pairs.AreInOrder (pairs_at maps i)
  here maps o = one (slice_get maps i) (subst (λ x. plain.IsMapInOrder (map_or_empty x)) (get_map maps i) o)

  maps_ordered : (x : MapsNote) → plain.HasMapsInOrder i (note_of x) → IsOrderedNote i x
  maps_ordered (note.Loop n around exit) o = (here around o.0, here exit o.1)
  maps_ordered (note.Join n maps) o = here maps o

  numbers : (n : ℕ) (xs : List MapsNote) → plain.IsBelowAll n (map note_of xs) → IsBelowAll n xs
  numbers n [] b = tt
  numbers n (note.Loop m around exit ∷ xs) b = (b.0, numbers n xs b.1)
  numbers n (note.Join m maps ∷ xs) b = (b.0, numbers n xs b.1)

  head_below : (x : MapsNote) (xs : List MapsNote) → plain.IsBelowAll (plain.number_of (note_of x)) (map note_of xs) → IsBelowAll (number_of x) xs
  head_below (note.Loop m around exit) xs b = numbers m xs b
  head_below (note.Join m maps) xs b = numbers m xs b

  pub ordered_notes : (notes : List MapsNote) → plain.AreInOrder i (map note_of notes) → AreOrdered i notes
  ordered_notes [] o = tt
  ordered_notes (x ∷ xs) o = (maps_ordered x o.0, head_below x xs o.1, ordered_notes xs o.2)
