-- Maps of the code fit rows.
use Rattle.std.proofs.Common.{◌≡◌, ◌<◌, ◌≤◌, ◌+◌, ◌-◌, ℕ, suc, nat_lt, nat_le, ◌==◌, Bool, true, false, if◌then◌else◌, List, [], ◌∷◌, map, length, Option, Some, None, IfSome, refl, sym, ap, subst, ◌∙◌, arith}
use Rattle.std.proofs.lemmas.List.{length-map}
use Rattle.std.proofs.lemmas.Bool.{and_from, le-leb}
use Rattle.std.proofs.lemmas.Bool.Decides.{nat_tests}
use Rattle.vlt_core.specs.Core.{Tok, a_key, a_var}
use Rattle.vlt_core.specs.Maps as maps
use Rattle.vlt_core.specs.View.{tok_of}
use Rattle.vlt_core.specs.HeldView.{status_of}
use Rattle.vlt_core.specs.declared.held.Status as DS
use Rattle.vlt_core.specs.declared.held.Status.TheVariants as status
use Rattle.vlt_core.specs.declared.notes.TokMap.{TokMap}
use Rattle.vlt_core.specs.declared.notes.Note as DN
use Rattle.vlt_core.specs.declared.notes.Note.TheVariants as V
use Rattle.vlt_core_laws.proofs.Binding.{on_true, on_false}
use Rattle.vlt_keyset.specs.Pairs.{Pair, IsBefore, ComesFirst, IsPresent, AreInOrder, IsAmong, AreAmong}
use Rattle.vlt_flow.specs.Notes.Listed.{IsListed, IsListedNote, AreListed}
use Rattle.cert_fit_laws.proofs.Masks.{mask_fits}
use Rattle.cert_rows.specs.Parts.{All}
use Rattle.cert_rows.specs.Values.{number_of_tok, token, token_status, ascends, map_part}
use Rattle.cert_fit_laws.specs.Complete.{FitsNote}
use Rattle.cert_fit_laws.proofs.Named.{read}
use Rattle.cert_values.specs.Heads.{token_status_of, listed_map}
use Rattle.cert_write.specs.Notes.{number_of, note_at, around_in, after_in, maps_in}
use Rattle.cert_least_laws.proofs.Origins.{IsCount}
use Rattle.cert_least_laws.proofs.OfBodies.Making.{maps_fit}
use Rattle.vlt_core.specs.Least.{Noted, a_loop, a_join}
use Rattle.vlt_core.specs.declared.notes.Annotation.{Annotation}

module _ (keys vars : ℕ) (few_keys : keys ≤ 256) (few_vars : vars ≤ 256) where
  -- ---- tokens

  token_fits : (t : Tok) → IsAmong keys vars t → token.Fits t
  token_fits (a_key k) among = (low k keys among few_keys, on_true (nat_lt k 256) (a_key k) (a_var (k - 256)) (small k keys among few_keys))
    where
      low : (k n : ℕ) → k < n → n ≤ 256 → k ≤ 4294967551
      low k n less few = omega (arith, less, few)

      small : (k n : ℕ) → k < n → n ≤ 256 → nat_lt k 256 ≡ true
      small k n less few = grind (arith, nat_tests)
  token_fits (a_var v) among = (low v vars among few_vars, on_false (nat_lt (256 + v) 256) (a_key (256 + v)) (a_var (256 + v - 256)) (past v) ∙ ap a_var (back v))
    where
      low : (v n : ℕ) → v < n → n ≤ 256 → 256 + v ≤ 4294967551
      low v n less few = omega (arith, less, few)

      past : (v : ℕ) → nat_lt (256 + v) 256 ≡ false
      past v = grind (arith, nat_tests)

      back : (v : ℕ) → 256 + v - 256 ≡ v
      back v = omega arith

  number_less : (t u : Tok) → IsAmong keys vars t → IsBefore t u → suc (number_of_tok t) ≤ number_of_tok u
  number_less (a_key k) (a_key j) among b = b
  number_less (a_key k) (a_var v) among b = past k v keys among few_keys
    where
      past : (k v n : ℕ) → k < n → n ≤ 256 → suc k ≤ 256 + v
      past k v n less few = omega (arith, less, few)
  number_less (a_var v) (a_key j) among b = absurd b
  number_less (a_var v) (a_var w) among b = up v w b
    where
      up : (v w : ℕ) → v < w → suc (256 + v) ≤ 256 + w
      up v w less = omega (arith, less)

  -- ---- pairs

  held_fits : (t : Tok) (s : DS.Status) → IsAmong keys vars t → IsPresent s → token_status.Fits (t, status_of s)
  held_fits t status.Absent among some = absurd some
  held_fits t (status.Held states) among some =
      let m = mask_fits states in
      (((token_fits t among, none, m.0.0), m.0.1), ap (λ s. (t, maps.held s)) m.1)
    where
      none : 0 ≤ 2
      none = omega arith
  held_fits t (status.Lent states) among some =
      let m = mask_fits states in
      (((token_fits t among, one, m.0.0), m.0.1), ap (λ s. (t, maps.lent s)) m.1)
    where
      one : 1 ≤ 2
      one = omega arith
  held_fits t status.Full among some = (((token_fits t among, two, none), refl), refl)
    where
      two : 2 ≤ 2
      two = omega arith

      none : 0 ≤ 4294967295
      none = omega arith

  pairs_fit : (xs : List Pair) → AreAmong keys vars xs → AreInOrder xs → All token_status.Fits (map token_status_of xs)
  pairs_fit [] among order = tt
  pairs_fit (x ∷ xs) among order = (held_fits (tok_of x.0) x.1 among.0 order.0, pairs_fit xs among.1 order.2)

  ascend_after : (t : Tok) (xs : List Pair) → IsAmong keys vars t → ComesFirst t xs → AreAmong keys vars xs → AreInOrder xs → ascends (suc (number_of_tok t)) (map token_status_of xs) ≡ true
  ascend_after t [] one first among order = refl
  ascend_after t (x ∷ xs) one first among order =
      and_from (nat_le (suc (number_of_tok t)) (number_of_tok (tok_of x.0))) (ascends (suc (number_of_tok (tok_of x.0))) (map token_status_of xs))
      (le-leb (suc (number_of_tok t)) (number_of_tok (tok_of x.0)) (number_less t (tok_of x.0) one first.0)) (ascend_after (tok_of x.0) xs among.0 order.1 among.1 order.2)

  ascend : (xs : List Pair) → AreAmong keys vars xs → AreInOrder xs → ascends 0 (map token_status_of xs) ≡ true
  ascend [] among order = refl
  ascend (x ∷ xs) among order =
      and_from (nat_le 0 (number_of_tok (tok_of x.0))) (ascends (suc (number_of_tok (tok_of x.0))) (map token_status_of xs))
      (le-leb 0 (number_of_tok (tok_of x.0)) (low (number_of_tok (tok_of x.0)))) (ascend_after (tok_of x.0) xs among.0 order.1 among.1 order.2)
    where
      low : (n : ℕ) → 0 ≤ n
      low n = omega arith

  pub map_fits : (m : TokMap) → IsListed keys vars m.pairs → map_part.Fits (listed_map m)
  map_fits m l = (pairs_fit m.pairs l.among l.order, ascend m.pairs l.among l.order)

  -- ---- the maps of a statement, of one annotation

  none_fits : map_part.Fits []
  none_fits = (tt, refl)

  around_fits : (o : Option DN.Note) → IfSome o (IsListedNote keys vars) → map_part.Fits (around_in o)
  around_fits None l = none_fits
  around_fits (Some (V.Loop stmt around exit)) l = map_fits around l.0
  around_fits (Some (V.Join stmt m)) l = none_fits

  after_fits : (o : Option DN.Note) → IfSome o (IsListedNote keys vars) → map_part.Fits (after_in o)
  after_fits None l = none_fits
  after_fits (Some (V.Loop stmt around exit)) l = map_fits exit l.1
  after_fits (Some (V.Join stmt m)) l = map_fits m l

  found_listed : (xs : List DN.Note) (n : ℕ) → AreListed keys vars xs → IfSome (note_at xs n) (IsListedNote keys vars)
  found_listed [] n l = tt
  found_listed (x ∷ xs) n l = by (number_of x == n) (found_listed xs n l.1)
    where
      by : (b : Bool) → IfSome (note_at xs n) (IsListedNote keys vars) → IfSome (if b then Some x else note_at xs n) (IsListedNote keys vars)
      by true more = l.0
      by false more = more

  arounds_fit : (list : List Annotation) (n : ℕ) → All (λ (a : Annotation). AreListed keys vars a.maps) list → All map_part.Fits ((maps_in list).around n)
  arounds_fit [] n l = tt
  arounds_fit (a ∷ list) n l = (around_fits (note_at a.maps n) (found_listed a.maps n l.0), arounds_fit list n l.1)

  followings_fit : (list : List Annotation) (n : ℕ) → All (λ (a : Annotation). AreListed keys vars a.maps) list → All map_part.Fits ((maps_in list).following n)
  followings_fit [] n l = tt
  followings_fit (a ∷ list) n l = (after_fits (note_at a.maps n) (found_listed a.maps n l.0), followings_fit list n l.1)

  module _ (many : Option ℕ) (list : List Annotation) (count : IsCount many (length list)) (listed : All (λ (a : Annotation). AreListed keys vars a.maps) list) where
    pub notes_fit : (xs : List Noted) → All (FitsNote many) (map (read (maps_in list)) xs)
    notes_fit [] = tt
    notes_fit (a_loop n ∷ xs) = (
      (
        maps_fit many ((maps_in list).around n) (arounds_fit list n listed) (subst (IsCount many) (sym (length-map list (λ a. around_in (note_at a.maps n)))) count),
        maps_fit many ((maps_in list).following n) (followings_fit list n listed) (subst (IsCount many) (sym (length-map list (λ a. after_in (note_at a.maps n)))) count),
      ),
      notes_fit xs,
    )
    notes_fit (a_join n ∷ xs) =
        (maps_fit many ((maps_in list).following n) (followings_fit list n listed) (subst (IsCount many) (sym (length-map list (λ a. after_in (note_at a.maps n)))) count), notes_fit xs)
