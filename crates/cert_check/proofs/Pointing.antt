-- What comes to a point, and the notes' map there.
use Rattle.std.proofs.Common.{◌≡◌, ◌==◌, inl, ℕ, zero, suc, Bool, true, false, if◌then◌else◌, List, [], ◌∷◌, map, Option, Some, None, refl, sym, ap, ◌∙◌, subst}
use Rattle.std.specs.Prelude.{slice_get, option_map}
use Rattle.vlt_core.specs.Core.{Tok}
use Rattle.vlt_core.specs.Maps.{Row, IsWanted, HeldMap, is_tok}
use Rattle.vlt_core.specs.View.{tok_of}
use Rattle.vlt_core.specs.HeldView.{status_of, wanted_of}
use Rattle.vlt_core.specs.declared.held.Wanted.{Wanted}
use Rattle.vlt_core.specs.declared.notes.TokMap.{TokMap}
use Rattle.vlt_keyset.specs.Pairs.{Pair, map_of_pairs, AreInOrder}
use Rattle.vlt_keyset.specs.Held.{IsTokenFault, IsApart}
use Rattle.vlt_keyset.specs.declared.faults.TokenFault.{TokenFault}
use Rattle.vlt_keyset.specs.declared.faults.Apart.{Apart}
use Rattle.cert_rows.specs.Rows.{Maps}
use Rattle.cert_format.specs.Notes as format
use Rattle.cert_read_parts.specs.Maps.{map_of, maps_of, pairs_of as listed}
use Rattle.cert_read_bodies.specs.Notes.{note_of}
use Rattle.cert_read_bodies.specs.declared.notes.MapsNote.{MapsNote}
use Rattle.cert_read_bodies.specs.declared.notes.MapsNote.TheVariants as note
use Rattle.cert_fit_laws.specs.Annotation.{held_map, map_or_empty}
use Rattle.cert_check.specs.Notes.{pairs_in, pairs_at, around_of, following_of, pairs_of, map_at, given_by, AreOrdered}
use Rattle.cert_check.specs.declared.side.Side.{Side}
use Rattle.cert_check.specs.declared.side.Side.TheVariants as side
use Rattle.cert_check.specs.Tests.{row_test, below_test, as_wanted, FirstFails, refused, refusal}

-- ---- what a certificate lists is what the pairs say

same_status : (xs : List Pair) (t : Tok) → map_of_pairs xs t ≡ held_map (listed xs) t
same_status [] t = refl
same_status (x ∷ xs) t = ap (λ s. if is_tok t (tok_of x.0) then status_of x.1 else s) (same_status xs t)

same_listed : (xs : List Pair) → map_of_pairs xs ≡ held_map (listed xs)
same_listed xs = λ i t. same_status xs t i

pub get_map : (maps : List TokMap) (i : ℕ) → slice_get (maps_of maps) i ≡ option_map map_of (slice_get maps i)
get_map [] i = refl
get_map (m ∷ ms) zero = refl
get_map (m ∷ ms) (suc i) = get_map ms i

module _ (instance : ℕ) where
  abbrev at_instance : Maps → HeldMap
  at_instance maps = held_map (map_or_empty (slice_get maps instance))

  one : (o : Option TokMap) → map_of_pairs (pairs_in o) ≡ held_map (map_or_empty (option_map map_of o))
  one None = same_listed []
  one (Some m) = same_listed m.pairs

  here : (maps : List TokMap) → map_of_pairs (pairs_at maps instance) ≡ at_instance (maps_of maps)
  here maps = one (slice_get maps instance) ∙ ap (λ o. held_map (map_or_empty o)) (sym (get_map maps instance))

  chosen : (b : Bool) (x : List TokMap) (ys : List Pair) (ms : Maps) → map_of_pairs ys ≡ at_instance ms → map_of_pairs (if b then pairs_at x instance else ys) ≡ at_instance (if b then maps_of x else ms)
  chosen true x ys ms e = here x
  chosen false x ys ms e = e

  around_is : (notes : List MapsNote) (n : ℕ) → map_of_pairs (around_of instance notes n) ≡ at_instance (format.around_of (map note_of notes) n)
  around_is [] n = here []
  around_is (note.Loop s a x ∷ notes) n = chosen (s == n) a (around_of instance notes n) _ (around_is notes n)
  around_is (note.Join s m ∷ notes) n = around_is notes n

  after_is : (notes : List MapsNote) (n : ℕ) → map_of_pairs (following_of instance notes n) ≡ at_instance (format.following_of (map note_of notes) n)
  after_is [] n = here []
  after_is (note.Loop s a x ∷ notes) n = chosen (s == n) x (following_of instance notes n) _ (after_is notes n)
  after_is (note.Join s m ∷ notes) n = chosen (s == n) m (following_of instance notes n) _ (after_is notes n)

  pub map_is : (s : Side) (notes : List MapsNote) (n : ℕ) → map_of_pairs (pairs_of s instance notes n) ≡ map_at s (given_by notes instance) n
  map_is side.Around notes n = around_is notes n
  map_is side.Following notes n = after_is notes n

  -- ---- their order

  if_order : (b : Bool) (xs ys : List Pair) → AreInOrder xs → AreInOrder ys → AreInOrder (if b then xs else ys)
  if_order true xs ys p q = p
  if_order false xs ys p q = q

  around_order : (notes : List MapsNote) (n : ℕ) → AreOrdered instance notes → AreInOrder (around_of instance notes n)
  around_order [] n o = tt
  around_order (note.Loop s a x ∷ notes) n o = if_order (s == n) (pairs_at a instance) (around_of instance notes n) o.0.0 (around_order notes n o.2)
  around_order (note.Join s m ∷ notes) n o = around_order notes n o.2

  after_order : (notes : List MapsNote) (n : ℕ) → AreOrdered instance notes → AreInOrder (following_of instance notes n)
  after_order [] n o = tt
  after_order (note.Loop s a x ∷ notes) n o = if_order (s == n) (pairs_at x instance) (following_of instance notes n) o.0.1 (after_order notes n o.2)
  after_order (note.Join s m ∷ notes) n o = if_order (s == n) (pairs_at m instance) (following_of instance notes n) o.0 (after_order notes n o.2)

  pub pairs_order : (s : Side) (notes : List MapsNote) (n : ℕ) → AreOrdered instance notes → AreInOrder (pairs_of s instance notes n)
  pairs_order side.Around notes n o = around_order notes n o
  pairs_order side.Following notes n o = after_order notes n o

-- ---- refusals

pub apart_refuses : (n : ℕ) (h k : HeldMap) (x : Apart) (w : Wanted) → wanted_of w ≡ as_wanted (status_of x.wanted) → IsApart h k x →
    FirstFails (below_test n h k ∷ []) (refused (refusal n (tok_of x.tok) (status_of x.found) (wanted_of w)))
apart_refuses n h k x w is a = inl (
  tok_of x.tok,
  record { apart = a.apart; first = λ u b. a.first u b },
  ap (λ s. refusal n (tok_of x.tok) s (wanted_of w)) a.found ∙ ap (refusal n (tok_of x.tok) (h (tok_of x.tok))) (is ∙ ap as_wanted a.wanted),
)

-- a row that isn't passed
pub row_refuses : (n : ℕ) (r : Row) (h k : HeldMap) (e : TokenFault) → h ≡ k → IsTokenFault r h e →
    FirstFails (row_test n r.tok (k r.tok) r.wanted ∷ []) (refused (refusal n (tok_of e.tok) (status_of e.found) (wanted_of e.wanted)))
row_refuses n r h k e same a = inl (
  λ wanted. a.refused (subst (λ m. IsWanted r.wanted (m r.tok)) (sym same) wanted),
  ap (λ t. refusal n t (status_of e.found) (wanted_of e.wanted)) a.tok ∙ ap (λ s. refusal n r.tok s (wanted_of e.wanted)) (a.found ∙ ap (λ m. m r.tok) same) ∙
      ap (refusal n r.tok (k r.tok)) a.wanted,
)
