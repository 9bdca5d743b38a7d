-- What is written of the least annotations is the least certificate.
use Rattle.std.proofs.Common.{◌≡◌, ◌≤◌, ℕ, zero, suc, Bool, true, false, true≢false, if◌then◌else◌, List, [], ◌∷◌, map, length, Option, Some, slice_get, refl, sym, ap, ◌∙◌, subst}
use Rattle.std.specs.Prelude.{MatchBool}
use Rattle.std.specs.Option.{option_map}
use Rattle.std.proofs.lemmas.List.{length-map}
use Rattle.std.proofs.lemmas.Option.{slice_get-map}
use Rattle.vlt_core.specs.Core as core
use Rattle.vlt_core.specs.Core.{Tok, VariantDecl, a_variant}
use Rattle.vlt_core.specs.Maps.{is_tok}
use Rattle.vlt_core.specs.Bodies.{body_flow}
use Rattle.vlt_core.specs.Instances.{instance, origins}
use Rattle.vlt_core.specs.Kinded.{IsKinded}
use Rattle.vlt_core.specs.Least.{Noted, a_loop, a_join, noted_by, at_loop, at_join, noted_block, IsLeast}
use Rattle.vlt_core.specs.View.{tok_of, key_of, var_of, func_of, program_of}
use Rattle.vlt_core.specs.HeldView.{status_of}
use Rattle.vlt_core.specs.declared.notes.Annotation.{Annotation}
use Rattle.vlt_core.specs.declared.notes.TokMap.{TokMap}
use Rattle.vlt_core.specs.declared.notes.Note.{Note as CodeNote}
use Rattle.vlt_core.specs.declared.notes.Note.TheVariants as code
use Rattle.vlt_core.specs.declared.program.Func.{Func}
use Rattle.vlt_core.specs.declared.program.Program.{Program as CodeProgram}
use Rattle.vlt_core_laws.specs.Arms.{HasArmsStmts}
use Rattle.vlt_core_laws.proofs.Unbroken.{some_same, some_not_none}
use Rattle.vlt_keyset.specs.Pairs.{Pair, map_of_pairs}
use Rattle.vlt_flow.specs.Notes.Listed.{map_in, note_of, AreListed}
use Rattle.cert_rows.specs.Parts.{All}
use Rattle.cert_rows.specs.Values.{ListedMap}
use Rattle.cert_values.specs.Heads.{token_status_of, listed_map}
use Rattle.cert_format.specs.Bodies.{list_draft, list_notes}
use Rattle.cert_format.specs.Bounds.{instances}
use Rattle.cert_format.specs.Notes.{MapNotes}
use Rattle.cert_write.specs.Notes.{around_in, after_in, maps_in, fn_notes, notes_in, NotesAreKept}
use Rattle.cert_write.specs.Notes as written
use Rattle.cert_fit_laws.specs.Annotation.{held_map, map_or_empty}
use Rattle.cert_fit_laws.specs.Complete.{named_by, FitsNote}
use Rattle.cert_fit_laws.specs.Limits.{IsLimitedType, IsLimitedFunc, IsLimitedProgram}
use Rattle.cert_fit_laws.proofs.Listed.{all_at}
use Rattle.cert_fit_laws.proofs.Arms.{have_arms}
use Rattle.cert_fit_laws.proofs.MappedBodies.{same_noted, listed_noted, listed_by_names}
use Rattle.cert_fit_laws.proofs.Named.{read}
use Rattle.cert_least_laws.specs.LeastNotes.{map_at, note_at, AreLeastNotes, HasLeastNotes, HaveLeastNotes}
use Rattle.cert_least_laws.proofs.Origins.{IsCount, instances_counted}
use Rattle.cert_least_texts.specs.Annotated.{IsAnnotatedIn, AreAnnotatedIn, IsAnnotatedBy, AreAnnotatedBy}
use Rattle.cert_least_texts.proofs.ListedMaps.{notes_fit}

-- ---- the notes of the code say the same where they are written

same_status : (xs : List Pair) (t : Tok) → held_map (map token_status_of xs) t ≡ map_of_pairs xs t
same_status [] t = refl
same_status (x ∷ xs) t = ap (λ s. if is_tok t (tok_of x.0) then status_of x.1 else s) (same_status xs t)

same_map : (m : TokMap) → held_map (listed_map m) ≡ map_in m
same_map m = λ i t. same_status m.pairs t i

same_note : (x : CodeNote) → note_at 0 (written.note_of x) ≡ note_of x
same_note (code.Loop stmt around exit) = ap (λ h. at_loop stmt.0 h (held_map (listed_map exit))) (same_map around) ∙ ap (λ h. at_loop stmt.0 (map_in around) h) (same_map exit)
same_note (code.Join stmt m) = ap (λ h. at_join stmt.0 h) (same_map m)

same_notes : (xs : List CodeNote) → map (note_at 0) (map written.note_of xs) ≡ map note_of xs
same_notes [] = refl
same_notes (x ∷ xs) = ap (λ y. y ∷ map (note_at 0) (map written.note_of xs)) (same_note x) ∙ ap (λ ys. note_of x ∷ ys) (same_notes xs)

names_written : (xs : List CodeNote) → map named_by (map written.note_of xs) ≡ map noted_by (map note_of xs)
names_written [] = refl
names_written (code.Loop stmt around exit ∷ xs) = ap (λ ys. noted_by (note_of (code.Loop stmt around exit)) ∷ ys) (names_written xs)
names_written (code.Join stmt m ∷ xs) = ap (λ ys. noted_by (note_of (code.Join stmt m)) ∷ ys) (names_written xs)

-- ---- the maps of one annotation

names_back : (a : MapNotes) (xs : List Noted) → map named_by (map (read a) xs) ≡ xs
names_back a [] = refl
names_back a (a_loop n ∷ xs) = ap (λ ys. a_loop n ∷ ys) (names_back a xs)
names_back a (a_join n ∷ xs) = ap (λ ys. a_join n ∷ ys) (names_back a xs)

module _ (list : List Annotation) (i : ℕ) (a : Annotation) (at : slice_get list i ≡ Some a) where
  picked_map : (g : Annotation → ListedMap) → map_at i (map g list) ≡ held_map (g a)
  picked_map g = ap (λ o. held_map (map_or_empty o)) (slice_get-map g list i ∙ ap (option_map g) at)

  picked : (xs : List Noted) → map (note_at i) (map (read (maps_in list)) xs) ≡ map (note_at 0) (map (read (maps_in (a ∷ []))) xs)
  picked [] = refl
  picked (a_loop n ∷ xs) =
      let rest = map (note_at i) (map (read (maps_in list)) xs) in
      let around = picked_map (λ a. around_in (written.note_at a.maps n)) in
      let following = picked_map (λ a. after_in (written.note_at a.maps n)) in
      ap (λ h. at_loop n h (map_at i ((maps_in list).following n)) ∷ rest) around ∙
      (ap (λ h. at_loop n (held_map (around_in (written.note_at a.maps n))) h ∷ rest) following ∙
      ap (λ ys. at_loop n (held_map (around_in (written.note_at a.maps n))) (held_map (after_in (written.note_at a.maps n))) ∷ ys) (picked xs))
  picked (a_join n ∷ xs) =
      let rest = map (note_at i) (map (read (maps_in list)) xs) in
      ap (λ h. at_join n h ∷ rest) (picked_map (λ a. after_in (written.note_at a.maps n))) ∙ ap (λ ys. at_join n (held_map (after_in (written.note_at a.maps n))) ∷ ys) (picked xs)

-- ---- annotations of instances

module _ (p : CodeProgram) (f : Func) where
  annotated_at : (os : List (Option ℕ)) (list : List Annotation) → AreAnnotatedIn p f os list → (i : ℕ) (o : Option ℕ) → slice_get os i ≡ Some o →
      (a : Annotation) × (slice_get list i ≡ Some a) × IsAnnotatedIn p f o a
  annotated_at [] list are i o at = absurd (some_not_none o (sym at))
  annotated_at (q ∷ os) [] are i o at = absurd are
  annotated_at (q ∷ os) (a ∷ list) are zero o at = (a, refl, subst (λ o. IsAnnotatedIn p f o a) (some_same q o at) are.0)
  annotated_at (q ∷ os) (a ∷ list) are (suc i) o at = annotated_at os list are.1 i o at

  same_length : (os : List (Option ℕ)) (list : List Annotation) → AreAnnotatedIn p f os list → length list ≡ length os
  same_length [] [] are = refl
  same_length [] (a ∷ list) are = absurd are
  same_length (q ∷ os) [] are = absurd are
  same_length (q ∷ os) (a ∷ list) are = ap suc (same_length os list are.1)

  all_listed : (os : List (Option ℕ)) (list : List Annotation) → AreAnnotatedIn p f os list → All (λ (a : Annotation). AreListed (length f.keys) (length f.vars) a.maps) list
  all_listed [] [] are = tt
  all_listed [] (a ∷ list) are = absurd are
  all_listed (q ∷ os) [] are = absurd are
  all_listed (q ∷ os) (a ∷ list) are = (are.0.listed, all_listed os list are.1)

-- ---- functions

none_written : (f : core.Func) → f.body ≡ core.done → fn_notes f [] ≡ []
none_written f blank = ap (λ ss. list_notes 0 (list_draft (maps_in []) 0 ss)) blank

module _ (kept : NotesAreKept) (p : CodeProgram) (kinded : IsKinded (program_of p)) (is : IsLimitedProgram (program_of p)) where
  some_cases : (t : ℕ) (d : VariantDecl) → slice_get (program_of p).types t ≡ Some (a_variant d) → 1 ≤ length d.cases
  some_cases t d at = (all_at IsLimitedType (program_of p).types t (a_variant d) is.types at).1

  module _ (g : ℕ) (f : Func) (there : slice_get (program_of p).fns g ≡ Some (func_of f)) where
    limits : IsLimitedFunc (func_of f)
    limits = all_at IsLimitedFunc (program_of p).fns g (func_of f) is.fns there

    arms : HasArmsStmts (func_of f).body
    arms = have_arms (program_of p) g (func_of f) some_cases limits.blank kinded there

    abbrev xs : List Noted
    xs = noted_block 0 (body_flow (program_of p) (func_of f))

    written_is : (list : List Annotation) → fn_notes (func_of f) list ≡ map (read (maps_in list)) (noted_block 0 (body_flow (program_of p) (func_of f)))
    written_is list = listed_noted (program_of p) g (func_of f) kinded limits.blank there arms (maps_in list)

    -- the annotation has a note of each statement that has one
    abbrev IsWhole : Option ℕ → Annotation → Type 0
    IsWhole o a = map noted_by (map note_of a.maps) ≡ noted_block 0 (body_flow (program_of p) (instance (program_of p) (func_of f) o))

    -- of one annotation its notes are written as they are
    alone : (o : Option ℕ) (a : Annotation) → IsWhole o a → fn_notes (func_of f) (a ∷ []) ≡ map written.note_of a.maps
    alone o a whole =
        kept (func_of f) a (listed_by_names (program_of p) g (func_of f) kinded limits.blank there arms (map written.note_of a.maps)
        (names_written a.maps ∙ whole ∙ same_noted (program_of p) g (func_of f) kinded limits.blank there arms o))

    pub read_again : (list : List Annotation) (i : ℕ) (o : Option ℕ) (a : Annotation) → slice_get list i ≡ Some a → IsWhole o a → map (note_at i) (fn_notes (func_of f) list) ≡ map note_of a.maps
    read_again list i o a at whole =
        ap (map (note_at i)) (written_is list) ∙ (picked list i a at xs ∙ (sym (ap (map (note_at 0)) (written_is (a ∷ []))) ∙ (ap (map (note_at 0)) (alone o a whole) ∙ same_notes a.maps)))

    own_least : (list : List Annotation) → AreAnnotatedIn p f (origins (program_of p) (func_of f)) list → AreLeastNotes (program_of p) (func_of f) (fn_notes (func_of f) list)
    own_least list are = record {
      names = ap (map named_by) (written_is list) ∙ names_back (maps_in list) xs;
      fit = subst (All (FitsNote (instances (program_of p) (func_of f)))) (sym (written_is list))
          (notes_fit (length f.keys) (length f.vars) (subst (λ n. n ≤ 256) (length-map f.keys key_of) limits.keys) (subst (λ n. n ≤ 256) (length-map f.vars var_of) limits.vars)
          (instances (program_of p) (func_of f)) list (subst (IsCount (instances (program_of p) (func_of f))) (sym (same_length p f (origins (program_of p) (func_of f)) list are)) (instances_counted (program_of p) (func_of f)))
          (all_listed p f (origins (program_of p) (func_of f)) list are) xs);
      least = λ i o at.
          let x = annotated_at p f (origins (program_of p) (func_of f)) list are i o at in
          subst (IsLeast (program_of p) (instance (program_of p) (func_of f) o)) (sym (read_again list i o x.0 x.1 x.2.least.complete)) x.2.least;
    }

    one_least : (list : List Annotation) → IsAnnotatedBy p f list → HasLeastNotes (program_of p) (func_of f) (fn_notes (func_of f) list)
    one_least list annotated = by f.external refl annotated
      where
        by : (b : Bool) → f.external ≡ b → MatchBool b (list ≡ []) (AreAnnotatedIn p f (origins (program_of p) (func_of f)) list) → HasLeastNotes (program_of p) (func_of f) (fn_notes (func_of f) list)
        by true e none = record {
          none = λ x. subst (λ list. fn_notes (func_of f) list ≡ []) (sym none) (none_written (func_of f) (limits.blank e));
          body = λ own. absurd (true≢false (sym e ∙ own));
        }
        by false e are = record { none = λ x. absurd (true≢false (sym x ∙ e)); body = λ own. own_least list are }

  each_least : (fs : List Func) (all : List (List Annotation)) → ((i : ℕ) (f : Func) → slice_get fs i ≡ Some f → (g : ℕ) × (slice_get (program_of p).fns g ≡ Some (func_of f))) → AreAnnotatedBy p fs all →
      HaveLeastNotes (program_of p) (map func_of fs) (notes_in (map func_of fs) all)
  each_least [] [] there annotated = tt
  each_least [] (annotations ∷ all) there annotated = absurd annotated
  each_least (f ∷ fs) [] there annotated = absurd annotated
  each_least (f ∷ fs) (annotations ∷ all) there annotated =
      let own = there 0 f refl in
      (one_least own.0 f own.1 annotations annotated.0, each_least fs all (λ i h at. there (suc i) h at) annotated.1)

  pub all_least : (all : List (List Annotation)) → AreAnnotatedBy p p.fns all → HaveLeastNotes (program_of p) (program_of p).fns (notes_in (program_of p).fns all)
  all_least all annotated = each_least p.fns all (λ i f at. (i, slice_get-map func_of p.fns i ∙ ap (option_map func_of) at)) annotated
