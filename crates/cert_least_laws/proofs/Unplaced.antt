-- A least certificate is the same one without places.
use Rattle.std.proofs.Common.{◌≡◌, ◌+◌, ℕ, List, [], ◌∷◌, map, Option, Some, slice_get, refl, sym, ap, ◌∙◌, subst}
use Rattle.vlt_core.specs.Core.{Func, Program}
use Rattle.vlt_core.specs.Flow.{Flow, step, choose, loop, switch, scope, focus, return, jump, Block, block, Stmts, done, next, Arms, no_arms, arm, size, size_block}
use Rattle.vlt_core.specs.Bodies.{body_flow}
use Rattle.vlt_core.specs.Instances.{instance}
use Rattle.vlt_core.specs.Least as least
use Rattle.vlt_core.specs.Least.{noted, noted_block, noted_stmts, noted_arms, IsLeast}
use Rattle.cert_rows.specs.Parts.{All}
use Rattle.cert_format.specs.Notes.{Note, at_loop, at_join}
use Rattle.cert_format.specs.Places.{unplaced_func, unplaced_program}
use Rattle.cert_format_laws.specs.Places.{PlacesDontCount}
use Rattle.cert_format_laws.proofs.Flows.{bare, bare_block, bare_stmts, bare_arms, sizes, block_sizes, passing_block, passing_arms, bodies}
use Rattle.cert_format.specs.Bounds.{instances}
use Rattle.cert_fit_laws.specs.Complete.{FitsNote}
use Rattle.cert_least_laws.specs.LeastNotes.{note_at, HasLeastNotes, HaveLeastNotes}

-- ---- the statements that have a note

mutual
  same_noted : (n : ℕ) (s : Flow) → noted n (bare s) ≡ noted n s
  same_noted n (step rs) = refl
  same_noted n (choose rs a b) = rw (passing_block a, passing_block b, block_sizes a, same_block (n + 1) a, same_block (n + 1 + size_block a) b) refl
  same_noted n (loop rs b) = rw (same_block (n + 1) b) refl
  same_noted n (switch rs arms end) = rw (passing_arms arms, same_arms (n + 1) arms) refl
  same_noted n (scope b) = same_block (n + 1) b
  same_noted n (focus rs b es) = same_block (n + 1) b
  same_noted n (return rs) = refl
  same_noted n (jump continues left) = refl

  same_block : (n : ℕ) (b : Block) → noted_block n (bare_block b) ≡ noted_block n b
  same_block n (block ss bound end) = same_stmts n ss

  same_stmts : (n : ℕ) (ss : Stmts) → noted_stmts n (bare_stmts ss) ≡ noted_stmts n ss
  same_stmts n done = refl
  same_stmts n (next at s rest) = rw (sizes s, same_noted n s, same_stmts (n + size s) rest) refl

  same_arms : (n : ℕ) (arms : Arms) → noted_arms n (bare_arms arms) ≡ noted_arms n arms
  same_arms n no_arms = refl
  same_arms n (arm rs b rest) = rw (block_sizes b, same_block n b, same_arms (n + size_block b) rest) refl

same_names : (p : Program) (f : Func) → noted_block 0 (body_flow (unplaced_program p) (unplaced_func f)) ≡ noted_block 0 (body_flow p f)
same_names p f = ap (noted_block 0) (bodies p f) ∙ same_block 0 (body_flow p f)

-- ---- notes that are least

module _ (p : Program) (places : PlacesDontCount p) where
  least_without : (f : Func) (notes : List least.Note) → IsLeast p f notes → IsLeast (unplaced_program p) (unplaced_func f) notes
  least_without f notes is = record {
    complete = is.complete ∙ sym (same_names p f);
    local = (places.local f (least.notes_in notes)).1 is.local;
    least = λ a here. is.least a ((places.local f a).0 here);
  }

  least_with : (f : Func) (notes : List least.Note) → IsLeast (unplaced_program p) (unplaced_func f) notes → IsLeast p f notes
  least_with f notes is = record {
    complete = is.complete ∙ same_names p f;
    local = (places.local f (least.notes_in notes)).0 is.local;
    least = λ a here. is.least a ((places.local f a).1 here);
  }

  module _ (f : Func) where
    fit_without : (xs : List Note) → All (FitsNote (instances p f)) xs → All (FitsNote (instances (unplaced_program p) (unplaced_func f))) xs
    fit_without [] fit = tt
    fit_without (at_loop n around exit ∷ xs) fit = (fit.0, fit_without xs fit.1)
    fit_without (at_join n maps ∷ xs) fit = (fit.0, fit_without xs fit.1)

    fit_with : (xs : List Note) → All (FitsNote (instances (unplaced_program p) (unplaced_func f))) xs → All (FitsNote (instances p f)) xs
    fit_with [] fit = tt
    fit_with (at_loop n around exit ∷ xs) fit = (fit.0, fit_with xs fit.1)
    fit_with (at_join n maps ∷ xs) fit = (fit.0, fit_with xs fit.1)

    has_without : (notes : List Note) → HasLeastNotes p f notes → HasLeastNotes (unplaced_program p) (unplaced_func f) notes
    has_without notes has = record {
      none = has.none;
      body = λ own.
          let is = has.body own in
          record {
            names = is.names ∙ sym (same_names p f);
            fit = fit_without notes is.fit;
            least = λ i o at.
                subst (λ h. IsLeast (unplaced_program p) h (map (note_at i) notes)) (sym (places.instances f o))
                (least_without (instance p f o) (map (note_at i) notes) (is.least i o (subst (λ (os : List (Option ℕ)). slice_get os i ≡ Some o) (places.origins f) at)));
          };
    }

    has_with : (notes : List Note) → HasLeastNotes (unplaced_program p) (unplaced_func f) notes → HasLeastNotes p f notes
    has_with notes has = record {
      none = has.none;
      body = λ own.
          let is = has.body own in
          record {
            names = is.names ∙ same_names p f;
            fit = fit_with notes is.fit;
            least = λ i o at.
                least_with (instance p f o) (map (note_at i) notes)
                (subst (λ h. IsLeast (unplaced_program p) h (map (note_at i) notes)) (places.instances f o)
                (is.least i o (subst (λ (os : List (Option ℕ)). slice_get os i ≡ Some o) (sym (places.origins f)) at)));
          };
    }

  pub all_without : (fs : List Func) (all : List (List Note)) → HaveLeastNotes p fs all → HaveLeastNotes (unplaced_program p) (map unplaced_func fs) all
  all_without [] [] have = tt
  all_without [] (a ∷ all) have = have
  all_without (f ∷ fs) [] have = have
  all_without (f ∷ fs) (notes ∷ all) have = (has_without f notes have.0, all_without fs all have.1)

  pub all_with : (fs : List Func) (all : List (List Note)) → HaveLeastNotes (unplaced_program p) (map unplaced_func fs) all → HaveLeastNotes p fs all
  all_with [] [] have = tt
  all_with [] (a ∷ all) have = have
  all_with (f ∷ fs) [] have = have
  all_with (f ∷ fs) (notes ∷ all) have = (has_with f notes have.0, all_with fs all have.1)
