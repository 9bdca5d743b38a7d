-- The notes that show just what is found in a body, as a certificate lists them.
use Rattle.std.proofs.Common.{◌≡◌, ◌≤◌, ℕ, zero, suc, nat_lt, ◌==◌, true, false, List, [], ◌∷◌, map, length, Option, Some, None, slice_get, refl, sym, ap, subst, ◌∙◌, arith}
use Rattle.std.specs.Option.{option_map}
use Rattle.std.proofs.lemmas.Bool.Decides.{nat_tests}
use Rattle.std.proofs.lemmas.List.{length-map}
use Rattle.std.proofs.lemmas.Option.{slice_get-map}
use Rattle.vlt_core.specs.Core.{Tok, Func, Program}
use Rattle.vlt_core.specs.Maps.{HeldMap}
use Rattle.vlt_core.specs.Bodies.{body_flow}
use Rattle.vlt_core.specs.Instances.{instance, origins}
use Rattle.vlt_core.specs.Local.{Notes, IsLocalIn}
use Rattle.vlt_core.specs.Found.{One, Has}
use Rattle.vlt_core.specs.Least as least
use Rattle.vlt_core.specs.Least.{Noted, a_loop, a_join, noted_block, IsLeast}
use Rattle.vlt_core.specs.KindedHeads.{has, entry_broken}
use Rattle.vlt_core.specs.KindedBodies.{first_ids, stmts_rows}
use Rattle.std.specs.List.{flat_map}
use Rattle.vlt_core_laws.specs.Fit.{IsFitBody}
use Rattle.vlt_core_laws.specs.Sweep.{found_head_block, found_exit_block}
use Rattle.vlt_core_laws.proofs.Ids.{type_keys}
use Rattle.vlt_core_laws.proofs.Unbroken.{some_same, some_not_none}
use Rattle.vlt_core_laws.specs.Unbroken.{EachEmpty}
use Rattle.cert_rows.specs.Parts.{All}
use Rattle.cert_rows.specs.Values.{map_part, maps_part}
use Rattle.cert_rows.specs.Rows.{Maps}
use Rattle.cert_format.specs.Bounds.{instances}
use Rattle.cert_format.specs.Notes.{Note, at_loop, at_join}
use Rattle.cert_fit_laws.specs.Annotation.{held_map, map_or_empty}
use Rattle.cert_fit_laws.specs.Complete.{named_by, FitsNote}
use Rattle.cert_fit_laws.proofs.NarrowNumbers.{Bounds}
use Rattle.cert_least_laws.specs.LeastNotes.{map_at, note_at, AreLeastNotes}
use Rattle.cert_least_laws.proofs.Origins.{IsCount, instances_counted}
use Rattle.cert_least_laws.proofs.OfBodies.Agreeing.{read}
use Rattle.cert_least_laws.proofs.OfBodies.Found.{body, start, head_just, exit_just, some_found, shown_least}
use Rattle.cert_least_laws.proofs.OfBodies.Kept.{EachRowBlock, heads_keep_block, exits_keep_block}
use Rattle.cert_least_laws.proofs.OfBodies.Listed.{IsTidyMap, list_of, listed_says, listed_fits}
use Rattle.cert_least_laws.proofs.OfBodies.Reached.{AreSome}
use Rattle.cert_least_laws.proofs.OfBodies.Tables.{IsShown}
use Rattle.cert_least_laws.specs.Bodies.Narrow.{HasNarrow}
use Rattle.cert_least_laws.proofs.OfBodies.Tidy.{IsTidyOne, IsTidy, tidy_absent, tidy_kept}
use Rattle.cert_least_laws.proofs.OfBodies.TidyBodies.{stmts_tidy, start_tidy}

-- the note of a statement: a map of each instance
abbrev pub made : (vars : ℕ) → List Notes → Noted → Note
made n list (a_loop i) = at_loop i (map (λ a. list_of n (a.around i)) list) (map (λ a. list_of n (a.following i)) list)
made n list (a_join i) = at_join i (map (λ a. list_of n (a.following i)) list)

names_made : (n : ℕ) (list : List Notes) (xs : List Noted) → map named_by (map (made n list) xs) ≡ xs
names_made n list [] = refl
names_made n list (a_loop i ∷ xs) = ap (λ ys. a_loop i ∷ ys) (names_made n list xs)
names_made n list (a_join i ∷ xs) = ap (λ ys. a_join i ∷ ys) (names_made n list xs)

-- the maps of the statements are tidy
abbrev pub AreTidyMaps : Func → List Noted → Notes → Type 0
AreTidyMaps f [] a = Unit {0}
AreTidyMaps f (a_loop i ∷ xs) a = IsTidyMap f (a.around i) × IsTidyMap f (a.following i) × AreTidyMaps f xs a
AreTidyMaps f (a_join i ∷ xs) a = IsTidyMap f (a.following i) × AreTidyMaps f xs a

each_of : {P Q : Notes → Type 0} → ((a : Notes) → P a → Q a) → (list : List Notes) → All P list → All Q list
each_of go [] all = tt
each_of go (a ∷ list) all = (go a all.0, each_of go list all.1)

pub maps_fit : (i : Option ℕ) (ms : Maps) → All map_part.Fits ms → IsCount i (length ms) → (maps_part i).Fits ms
maps_fit None [] fits count = absurd (never 0 refl count)
  where
    never : (n : ℕ) → n ≡ 0 → n ≡ 1 → ⊥
    never n none one = omega (arith, none, one)
maps_fit None (m ∷ []) fits count = (fits.0, refl)
maps_fit None (m ∷ k ∷ ms) fits count = absurd (never (length ms) count)
  where
    never : (n : ℕ) → suc (suc n) ≡ 1 → ⊥
    never n e = omega (arith, e)
maps_fit (Some n) ms fits count = (fits, equal (length ms) n count)
  where
    equal : (a b : ℕ) → a ≡ b → (a == b) ≡ true
    equal a b e = grind (arith, nat_tests)

module _ (f : Func) (few_keys : length f.keys ≤ 256) (few_vars : length f.vars ≤ 256) where
  -- the map of the instance that has this annotation
  says : (list : List Notes) (i : ℕ) (a : Notes) (at : slice_get list i ≡ Some a) (g : Notes → HeldMap) → IsTidyMap f (g a) → map_at i (map (λ a. list_of (length f.vars) (g a)) list) ≡ g a
  says list i a at g is =
      ap (λ o. held_map (map_or_empty o)) (slice_get-map (λ a. list_of (length f.vars) (g a)) list i ∙ ap (option_map (λ a. list_of (length f.vars) (g a))) at) ∙ listed_says f few_keys few_vars (g a) is

  made_say : (list : List Notes) (i : ℕ) (a : Notes) → slice_get list i ≡ Some a → (xs : List Noted) → AreTidyMaps f xs a → map (note_at i) (map (made (length f.vars) list) xs) ≡ map (read a) xs
  made_say list i a at [] are = refl
  made_say list i a at (a_loop n ∷ xs) are =
      let rest = map (note_at i) (map (made (length f.vars) list) xs) in
      ap (λ m. least.at_loop n m (map_at i (map (λ a. list_of (length f.vars) (a.following n)) list)) ∷ rest) (says list i a at (λ a. a.around n) are.0) ∙
      (ap (λ m. least.at_loop n (a.around n) m ∷ rest) (says list i a at (λ a. a.following n) are.1) ∙ ap (λ ys. least.at_loop n (a.around n) (a.following n) ∷ ys) (made_say list i a at xs are.2))
  made_say list i a at (a_join n ∷ xs) are =
      let rest = map (note_at i) (map (made (length f.vars) list) xs) in
      ap (λ m. least.at_join n m ∷ rest) (says list i a at (λ a. a.following n) are.0) ∙ ap (λ ys. least.at_join n (a.following n) ∷ ys) (made_say list i a at xs are.1)

  lists_fit : (g : Notes → HeldMap) (list : List Notes) → All (λ a. IsTidyMap f (g a)) list → All map_part.Fits (map (λ a. list_of (length f.vars) (g a)) list)
  lists_fit g [] all = tt
  lists_fit g (a ∷ list) all = (listed_fits f few_keys few_vars (g a) all.0, lists_fit g list all.1)

  module _ (many : Option ℕ) (list : List Notes) (count : IsCount many (length list)) where
    side_fits : (g : Notes → HeldMap) → All (λ a. IsTidyMap f (g a)) list → (maps_part many).Fits (map (λ a. list_of (length f.vars) (g a)) list)
    side_fits g all = maps_fit many (map (λ a. list_of (length f.vars) (g a)) list) (lists_fit g list all) (subst (IsCount many) (sym (length-map list (λ a. list_of (length f.vars) (g a)))) count)

    made_fit : (xs : List Noted) → All (AreTidyMaps f xs) list → All (FitsNote many) (map (made (length f.vars) list) xs)
    made_fit [] all = tt
    made_fit (a_loop n ∷ xs) all = (
      (side_fits (λ a. a.around n) (each_of (λ a t. t.0) list all), side_fits (λ a. a.following n) (each_of (λ a t. t.1) list all)),
      made_fit xs (each_of (λ a t. t.2) list all),
    )
    made_fit (a_join n ∷ xs) all = (side_fits (λ a. a.following n) (each_of (λ a t. t.0) list all), made_fit xs (each_of (λ a t. t.1) list all))

-- ---- the annotation of one instance, and those of all

abbrev pub noted_in : Program → Func → List Noted
noted_in p f = noted_block 0 (body_flow p f)

pub record IsMade (p : Program) (f : Func) (o : Option ℕ) : Type 0 where
  pub notes : Notes
  pub local : IsLocalIn p (instance p f o) notes
  pub tidy : AreTidyMaps f (noted_in p f) notes
  pub least : IsLeast p (instance p f o) (map (read notes) (noted_in p f))

abbrev pub AreMade : Program → Func → List (Option ℕ) → Type 0
AreMade p f [] = Unit {0}
AreMade p f (o ∷ os) = IsMade p f o × AreMade p f os

abbrev notes_in : (p : Program) (f : Func) (os : List (Option ℕ)) → AreMade p f os → List Notes
notes_in p f [] are = []
notes_in p f (o ∷ os) are = are.0.notes ∷ notes_in p f os are.1

length_notes : (p : Program) (f : Func) (os : List (Option ℕ)) (are : AreMade p f os) → length (notes_in p f os are) ≡ length os
length_notes p f [] are = refl
length_notes p f (o ∷ os) are = ap suc (length_notes p f os are.1)

tidy_notes : (p : Program) (f : Func) (os : List (Option ℕ)) (are : AreMade p f os) → All (AreTidyMaps f (noted_in p f)) (notes_in p f os are)
tidy_notes p f [] are = tt
tidy_notes p f (o ∷ os) are = (are.0.tidy, tidy_notes p f os are.1)

made_at : (p : Program) (f : Func) (os : List (Option ℕ)) (are : AreMade p f os) (i : ℕ) (o : Option ℕ) → slice_get os i ≡ Some o → (is : IsMade p f o) × (slice_get (notes_in p f os are) i ≡ Some is.notes)
made_at p f [] are i o at = absurd (some_not_none o (sym at))
made_at p f (q ∷ os) are zero o at = subst (λ r. (is : IsMade p f r) × (Some are.0.notes ≡ Some is.notes)) (some_same q o at) (are.0, refl)
made_at p f (q ∷ os) are (suc i) o at = made_at p f os are.1 i o at

module _ (p : Program) (f : Func) (b : Bounds p f) (are : AreMade p f (origins p f)) where
  abbrev all_notes : List Notes
  all_notes = notes_in p f (origins p f) are

  -- the notes of the body in a certificate
  abbrev pub body_notes : List Note
  body_notes = map (made (length f.vars) all_notes) (noted_in p f)

  pub made_least : AreLeastNotes p f body_notes
  made_least = record {
    names = names_made (length f.vars) all_notes (noted_in p f);
    fit = made_fit f b.keys b.vars (instances p f) all_notes (subst (IsCount (instances p f)) (sym (length_notes p f (origins p f) are)) (instances_counted p f)) (noted_in p f) (tidy_notes p f (origins p f) are);
    least = λ i o at.
        let x = made_at p f (origins p f) are i o at in
        subst (IsLeast p (instance p f o)) (sym (made_say f b.keys b.vars all_notes i x.0.notes x.1 (noted_in p f) x.0.tidy)) x.0.least;
  }

module _ (p : Program) (g : ℕ) (f : Func) (there : slice_get p.fns g ≡ Some f) (b : Bounds p f) (sets : HasNarrow p) (ranged : (v k : ℕ) → has (type_keys f v) k ≡ true → nat_lt k (length f.keys) ≡ true)
    (entries : flat_map (entry_broken p f) f.clause ≡ []) (rows : EachEmpty (stmts_rows p f (record { jumps = false; returns = true }) (first_ids p f) false f.body)) (o : Option ℕ)
    (same : noted_in p (instance p f o) ≡ noted_in p f) (fit : IsFitBody p (instance p f o)) (is : IsShown p (instance p f o) fit) where
  abbrev f' : Func
  f' = instance p f o

  tidy_rows : EachRowBlock (IsTidy f) (body_flow p f')
  tidy_rows = stmts_tidy p g f there b sets ranged o f.body (record { jumps = false; returns = true }) (first_ids p f) false [] rows

  head_tidy : (i : ℕ) → ((t : Tok) → (q : One) × found_head_block t (body p f' fit) 0 (Has (start p f' fit t)) i q) → IsTidyMap f (is.notes.around i)
  head_tidy i some = record {
    some = λ t. let q = some t in (q.0, (head_just (body p f' fit) (start p f' fit) is.notes is.shows fit.scope fit.scoped is.notes is.local t i).there q.0 q.1);
    tidy = λ t q h. heads_keep_block t (IsTidyOne f t) (tidy_absent f t) (IsTidy f) (tidy_kept f t) (body p f' fit) 0 (Has (start p f' fit t)) tidy_rows (start_tidy p g f there b sets ranged o entries t) i q
        ((head_just (body p f' fit) (start p f' fit) is.notes is.shows fit.scope fit.scoped is.notes is.local t i).back q h);
  }

  exit_tidy : (i : ℕ) → ((t : Tok) → (q : One) × found_exit_block t (body p f' fit) 0 (Has (start p f' fit t)) i q) → IsTidyMap f (is.notes.following i)
  exit_tidy i some = record {
    some = λ t. let q = some t in (q.0, (exit_just (body p f' fit) (start p f' fit) is.notes is.shows fit.scope fit.scoped is.notes is.local t i).there q.0 q.1);
    tidy = λ t q h. exits_keep_block t (IsTidyOne f t) (tidy_absent f t) (IsTidy f) (tidy_kept f t) (body p f' fit) 0 (Has (start p f' fit t)) tidy_rows (start_tidy p g f there b sets ranged o entries t) i q
        ((exit_just (body p f' fit) (start p f' fit) is.notes is.shows fit.scope fit.scoped is.notes is.local t i).back q h);
  }

  all_tidy : (xs : List Noted) → ((t : Tok) → AreSome (found_head_block t (body p f' fit) 0 (Has (start p f' fit t))) (found_exit_block t (body p f' fit) 0 (Has (start p f' fit t))) xs) → AreTidyMaps f xs is.notes
  all_tidy [] some = tt
  all_tidy (a_loop i ∷ xs) some = (head_tidy i (λ t. (some t).0), exit_tidy i (λ t. (some t).1), all_tidy xs (λ t. (some t).2))
  all_tidy (a_join i ∷ xs) some = (exit_tidy i (λ t. (some t).0), all_tidy xs (λ t. (some t).1))

  pub made_one : IsMade p f o
  made_one = record {
    notes = is.notes;
    local = is.local;
    tidy = subst (λ xs. AreTidyMaps f xs is.notes) same (all_tidy (noted_in p f') (some_found p f' fit is.notes is.local));
    least = subst (λ xs. IsLeast p f' (map (read is.notes) xs)) same (shown_least p f' fit is.notes is.shows is.local);
  }
