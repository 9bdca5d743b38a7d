-- The drafts of a body don't say its places, and neither does the version.
use Rattle.std.proofs.Common.{◌≡◌, ℕ, suc, ◌+◌, ◌||◌, List, [], ◌∷◌, map, refl, ap}
use Rattle.std.specs.List.{list_any}
use Rattle.vlt_core.specs.Core as core
use Rattle.vlt_core.specs.Core.{Form, Block, Stmts, Arms, Func, Program}
use Rattle.vlt_core.specs.KindedHeads.{is_bound_entry}
use Rattle.cert_format.specs.Places.{unplaced_form, unplaced_block, unplaced_stmts, unplaced_arms, unplaced_func, unplaced_program}
use Rattle.cert_format.specs.Notes.{MapNotes}
use Rattle.cert_format.specs.Bodies.{length_of, count, count_block, count_list, count_arms, draft_of, block_draft, list_draft, arms_draft}
use Rattle.cert_format_laws.specs.Versions.{is_linked, is_ordered}
use Rattle.cert_format_laws.proofs.KindedPlaces.{ending_block, ending_arms}

mutual
  counted : (s : Form) → count (unplaced_form s) ≡ count s
  counted (core.simple s) = refl
  counted (core.call g target keys args) = refl
  counted (core.choose e a b) = rw (counted_block a, counted_block b) refl
  counted (core.loop e b) = rw (counted_block b) refl
  counted (core.switch v arms end) = rw (counted_arms arms) refl
  counted (core.focus y z b) = rw (counted_block b) refl
  counted (core.scope b) = rw (counted_block b) refl
  counted (core.return o) = refl
  counted (core.jump c) = refl

  counted_block : (b : Block) → count_block (unplaced_block b) ≡ count_block b
  counted_block (core.block ss bound end) = counted_list ss

  counted_list : (ss : Stmts) → count_list (unplaced_stmts ss) ≡ count_list ss
  counted_list core.done = refl
  counted_list (core.next at s rest) = rw (counted s, counted_list rest) refl

  counted_arms : (arms : Arms) → count_arms (unplaced_arms arms) ≡ count_arms arms
  counted_arms core.no_arms = refl
  counted_arms (core.arm c vs b rest) = rw (counted_block b, counted_arms rest) refl

pub lengthy : (ss : Stmts) → length_of (unplaced_stmts ss) ≡ length_of ss
lengthy core.done = refl
lengthy (core.next at s rest) = ap suc (lengthy rest)

module _ (a : MapNotes) where
  mutual
    same : (n : ℕ) (s : Form) → draft_of a n (unplaced_form s) ≡ draft_of a n s
    same n (core.simple s) = refl
    same n (core.call g target keys args) = refl
    same n (core.choose e x y) = rw (counted_block x, ending_block x, ending_block y, same_block (n + 1) x, same_block (n + 1 + count_block x) y) refl
    same n (core.loop e x) = rw (same_block (n + 1) x) refl
    same n (core.switch v arms end) = rw (ending_arms arms, same_arms (n + 1) arms) refl
    same n (core.focus y z x) = rw (same_block (n + 1) x) refl
    same n (core.scope x) = rw (same_block (n + 1) x) refl
    same n (core.return o) = refl
    same n (core.jump c) = refl

    same_block : (n : ℕ) (b : Block) → block_draft a n (unplaced_block b) ≡ block_draft a n b
    same_block n (core.block ss bound end) = rw (lengthy ss, same_list n ss) refl

    pub same_list : (n : ℕ) (ss : Stmts) → list_draft a n (unplaced_stmts ss) ≡ list_draft a n ss
    same_list n core.done = refl
    same_list n (core.next at s rest) = rw (counted s, same n s, same_list (n + count s) rest) refl

    same_arms : (n : ℕ) (arms : Arms) → arms_draft a n (unplaced_arms arms) ≡ arms_draft a n arms
    same_arms n core.no_arms = refl
    same_arms n (core.arm c vs b rest) = rw (counted_block b, same_block n b, same_arms (n + count_block b) rest) refl

bounds_same : (fs : List Func) → list_any (λ f. list_any is_bound_entry f.clause) (map unplaced_func fs) ≡ list_any (λ f. list_any is_bound_entry f.clause) fs
bounds_same [] = refl
bounds_same (f ∷ fs) = ap (λ b. list_any is_bound_entry f.clause || b) (bounds_same fs)

pub ordered_same : (p : Program) → is_ordered (unplaced_program p) ≡ is_ordered p
ordered_same p = ap (λ b. list_any (λ d. is_linked d.links) p.sets || b) (bounds_same p.fns)
