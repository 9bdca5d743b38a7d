-- A program without its places: its rows are the same, and so are its limits.
use Rattle.std.proofs.Common.{◌≡◌, ℕ, suc, ◌+◌, nat_lt, true, if◌then◌else◌, List, [], ◌∷◌, map, refl, ap, ◌∙◌}
use Rattle.vlt_core.specs.Core as core
use Rattle.vlt_core.specs.Core.{Form, Block, Stmts, Arms, Func, Program}
use Rattle.cert_format.specs.Places.{unplaced_form, unplaced_block, unplaced_stmts, unplaced_arms, unplaced_func, unplaced_program}
use Rattle.cert_format.specs.Notes.{MapNotes, Note, maps_of}
use Rattle.cert_format.specs.Drafts.{most_block_depth}
use Rattle.cert_format.specs.Bodies.{length_of, draft_of, block_draft, list_draft, arms_draft, count, count_block, count_list, count_arms, may_have_arms, IsWithin, IsWithinBlock, AreWithin, AreWithinArms}
use Rattle.cert_format.specs.Certificate.{is_main, main_from, function_rows}
use Rattle.cert_format_laws.proofs.KindedPlaces.{ending_block, ending_arms}
use Rattle.cert_fit_laws.specs.Limits.{IsLimited, IsLimitedBlock, AreLimited, AreLimitedArms}

-- ---- twice is once

mutual
  twice : (s : Form) → unplaced_form (unplaced_form s) ≡ unplaced_form s
  twice (core.simple s) = refl
  twice (core.call g target keys args) = refl
  twice (core.choose e a b) = rw (twice_block a, twice_block b) refl
  twice (core.loop e b) = rw (twice_block b) refl
  twice (core.switch v arms end) = rw (twice_arms arms) refl
  twice (core.focus y z b) = rw (twice_block b) refl
  twice (core.scope b) = rw (twice_block b) refl
  twice (core.return o) = refl
  twice (core.jump c) = refl

  twice_block : (b : Block) → unplaced_block (unplaced_block b) ≡ unplaced_block b
  twice_block (core.block ss bound end) = rw (twice_list ss) refl

  twice_list : (ss : Stmts) → unplaced_stmts (unplaced_stmts ss) ≡ unplaced_stmts ss
  twice_list core.done = refl
  twice_list (core.next at s rest) = rw (twice s, twice_list rest) refl

  twice_arms : (arms : Arms) → unplaced_arms (unplaced_arms arms) ≡ unplaced_arms arms
  twice_arms core.no_arms = refl
  twice_arms (core.arm c vs b rest) = rw (twice_block b, twice_arms rest) refl

twice_func : (f : Func) → unplaced_func (unplaced_func f) ≡ unplaced_func f
twice_func f = ap (λ ss. record f { body = ss; end = 0 }) (twice_list f.body)

twice_funcs : (fs : List Func) → map unplaced_func (map unplaced_func fs) ≡ map unplaced_func fs
twice_funcs [] = refl
twice_funcs (f ∷ fs) = ap (λ g. g ∷ map unplaced_func (map unplaced_func fs)) (twice_func f) ∙ ap (λ gs. unplaced_func f ∷ gs) (twice_funcs fs)

pub twice_program : (p : Program) → unplaced_program (unplaced_program p) ≡ unplaced_program p
twice_program p = ap (λ fs. record p { fns = fs }) (twice_funcs p.fns)

-- ---- rows

mutual
  counted : (s : Form) → count (unplaced_form s) ≡ count s
  counted (core.simple s) = refl
  counted (core.call g target keys args) = refl
  counted (core.choose e a b) = rw (counted_block a, counted_block b) refl
  counted (core.loop e b) = rw (counted_block b) refl
  counted (core.switch v arms end) = rw (counted_arms arms) refl
  counted (core.focus y z b) = rw (counted_block b) refl
  counted (core.scope b) = rw (counted_block b) refl
  counted (core.return o) = refl
  counted (core.jump c) = refl

  counted_block : (b : Block) → count_block (unplaced_block b) ≡ count_block b
  counted_block (core.block ss bound end) = counted_list ss

  counted_list : (ss : Stmts) → count_list (unplaced_stmts ss) ≡ count_list ss
  counted_list core.done = refl
  counted_list (core.next at s rest) = rw (counted s, counted_list rest) refl

  counted_arms : (arms : Arms) → count_arms (unplaced_arms arms) ≡ count_arms arms
  counted_arms core.no_arms = refl
  counted_arms (core.arm c vs b rest) = rw (counted_block b, counted_arms rest) refl

pub lengthy : (ss : Stmts) → length_of (unplaced_stmts ss) ≡ length_of ss
lengthy core.done = refl
lengthy (core.next at s rest) = ap suc (lengthy rest)

module _ (a : MapNotes) where
  mutual
    same : (n : ℕ) (s : Form) → draft_of a n (unplaced_form s) ≡ draft_of a n s
    same n (core.simple s) = refl
    same n (core.call g target keys args) = refl
    same n (core.choose e x y) = rw (counted_block x, ending_block x, ending_block y, same_block (n + 1) x, same_block (n + 1 + count_block x) y) refl
    same n (core.loop e x) = rw (same_block (n + 1) x) refl
    same n (core.switch v arms end) = rw (ending_arms arms, same_arms (n + 1) arms) refl
    same n (core.focus y z x) = rw (same_block (n + 1) x) refl
    same n (core.scope x) = rw (same_block (n + 1) x) refl
    same n (core.return o) = refl
    same n (core.jump c) = refl

    same_block : (n : ℕ) (b : Block) → block_draft a n (unplaced_block b) ≡ block_draft a n b
    same_block n (core.block ss bound end) = rw (lengthy ss, same_list n ss) refl

    pub same_list : (n : ℕ) (ss : Stmts) → list_draft a n (unplaced_stmts ss) ≡ list_draft a n ss
    same_list n core.done = refl
    same_list n (core.next at s rest) = rw (counted s, same n s, same_list (n + count s) rest) refl

    same_arms : (n : ℕ) (arms : Arms) → arms_draft a n (unplaced_arms arms) ≡ arms_draft a n arms
    same_arms n core.no_arms = refl
    same_arms n (core.arm c vs b rest) = rw (counted_block b, same_block n b, same_arms (n + count_block b) rest) refl

pub same_rows : (f : Func) (notes : List Note) → function_rows (unplaced_func f) notes ≡ function_rows f notes
same_rows f notes = rw (lengthy f.body, same_list (maps_of notes) 0 f.body) refl

-- ---- the depth of blocks

may_arm : (deep : ℕ) (arms : Arms) → nat_lt deep most_block_depth ≡ true → may_have_arms deep (unplaced_arms arms) ≡ true
may_arm deep core.no_arms is = refl
may_arm deep (core.arm c vs b rest) is = is

mutual
  within : (deep : ℕ) (s : Form) → IsLimited deep s → IsWithin deep (unplaced_form s)
  within deep (core.simple s) is = tt
  within deep (core.call g target keys os) is = tt
  within deep (core.choose e x y) is = (is.0, block_within (suc deep) x is.1, block_within (suc deep) y is.2)
  within deep (core.loop e x) is = (is.0, block_within (suc deep) x is.1)
  within deep (core.switch v arms end) is = (may_arm deep arms is.0, arms_within (suc deep) arms is.1)
  within deep (core.focus y z x) is = (is.0, block_within (suc deep) x is.1)
  within deep (core.scope x) is = (is.0, block_within (suc deep) x is.1)
  within deep (core.return o) is = tt
  within deep (core.jump c) is = tt

  block_within : (deep : ℕ) (b : Block) → IsLimitedBlock deep b → IsWithinBlock deep (unplaced_block b)
  block_within deep (core.block ss bound end) is = list_within deep ss is.1

  pub list_within : (deep : ℕ) (ss : Stmts) → AreLimited deep ss → AreWithin deep (unplaced_stmts ss)
  list_within deep core.done is = tt
  list_within deep (core.next at s rest) is = (within deep s is.0, list_within deep rest is.1)

  arms_within : (deep : ℕ) (arms : Arms) → AreLimitedArms deep arms → AreWithinArms deep (unplaced_arms arms)
  arms_within deep core.no_arms is = tt
  arms_within deep (core.arm c vs b rest) is = (block_within deep b is.0, arms_within deep rest is.1)

-- ---- the function that a run begins with

pub same_main : (n : ℕ) (fs : List Func) → main_from n (map unplaced_func fs) ≡ main_from n fs
same_main n [] = refl
same_main n (f ∷ fs) = ap (λ m. if is_main f then n else m) (same_main (suc n) fs)
