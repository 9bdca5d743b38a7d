-- The notes of a body's statements are what is looked up by their numbers.
use Rattle.std.proofs.Common.{◌≡◌, ℕ, ◌+◌, Bool, true, false, ◌++◌, Some, refl, ap, subst}
use Rattle.vlt_core.specs.Core as core
use Rattle.vlt_core.specs.KindedBodies.{ends}
use Rattle.cert_rows.specs.Parts.{All}
use Rattle.cert_format.specs.Notes.{MapNotes, join_of, join_note, maps_of}
use Rattle.cert_format.specs.Bodies.{count, count_block, count_list, count_arms, draft_of, block_draft, list_draft, arms_draft, notes_of, block_notes, list_notes, arms_notes, size, size_block, size_list, size_arms}
use Rattle.cert_format_laws.proofs.Decoding.{all_left, all_right}
use Rattle.cert_format_laws.proofs.Redrafted.{Says}
use Rattle.cert_format_laws.proofs.Noted.{notes_ascend, all_said}

module _ (a : MapNotes) where
  mutual
    sized : (n : ℕ) (s : core.Form) → size (draft_of a n s) ≡ count s
    sized n (core.simple s) = refl
    sized n (core.call f target keys args) = refl
    sized n (core.choose e x y) = rw (block_sized (n + 1) x, block_sized (n + 1 + count_block x) y) refl
    sized n (core.loop e x) = rw (block_sized (n + 1) x) refl
    sized n (core.switch v arms end) = rw (arms_sized (n + 1) arms) refl
    sized n (core.focus y z x) = rw (block_sized (n + 1) x) refl
    sized n (core.scope x) = rw (block_sized (n + 1) x) refl
    sized n (core.return o) = refl
    sized n (core.jump c) = refl

    block_sized : (n : ℕ) (b : core.Block) → size_block (block_draft a n b) ≡ count_block b
    block_sized n (core.block ss bound end) = list_sized n ss

    list_sized : (n : ℕ) (ss : core.Stmts) → size_list (list_draft a n ss) ≡ count_list ss
    list_sized n core.done = refl
    list_sized n (core.next at s rest) = rw (sized n s, list_sized (n + count s) rest) refl

    arms_sized : (n : ℕ) (arms : core.Arms) → size_arms (arms_draft a n arms) ≡ count_arms arms
    arms_sized n core.no_arms = refl
    arms_sized n (core.arm c vs b rest) = rw (block_sized n b, arms_sized (n + count_block b) rest) refl

  module _ (b : MapNotes) where
    join_kept : (n : ℕ) (e : Bool) → All (Says b) (join_note n (join_of e (a.following n))) → join_of e (b.following n) ≡ join_of e (a.following n)
    join_kept n true h = refl
    join_kept n false h = ap Some h.0

    mutual
      kept : (n : ℕ) (s : core.Form) → All (Says b) (notes_of n (draft_of a n s)) → draft_of b n s ≡ draft_of a n s
      kept n (core.simple s) h = refl
      kept n (core.call f target keys args) h = refl
      kept n (core.choose e x y) h =
          let ns = join_note n (join_of (ends (core.choose e x y)) (a.following n)) in
          let xs = block_notes (n + 1) (block_draft a (n + 1) x) in
          let ys = block_notes (n + 1 + size_block (block_draft a (n + 1) x)) (block_draft a (n + 1 + count_block x) y) in
          let inside = all_right (Says b) ns (xs ++ ys) h in
          let first = block_kept (n + 1) x (all_left (Says b) xs ys inside) in
          let second = block_kept (n + 1 + count_block x) y
          (subst (λ k. All (Says b) (block_notes (n + 1 + k) (block_draft a (n + 1 + count_block x) y))) (block_sized (n + 1) x)
          (all_right (Says b) xs ys inside)) in
          let join = join_kept n (ends (core.choose e x y)) (all_left (Says b) ns (xs ++ ys) h) in
          rw (first, second, join) refl
      kept n (core.loop e x) h = rw (block_kept (n + 1) x h.1, h.0.0, h.0.1) refl
      kept n (core.switch v arms end) h =
          let ns = join_note n (join_of (ends (core.switch v arms end)) (a.following n)) in
          let xs = arms_notes (n + 1) (arms_draft a (n + 1) arms) in
          let inside = arms_kept (n + 1) arms (all_right (Says b) ns xs h) in
          let join = join_kept n (ends (core.switch v arms end)) (all_left (Says b) ns xs h) in
          rw (inside, join) refl
      kept n (core.focus y z x) h = rw (block_kept (n + 1) x h) refl
      kept n (core.scope x) h = rw (block_kept (n + 1) x h) refl
      kept n (core.return o) h = refl
      kept n (core.jump c) h = refl

      block_kept : (n : ℕ) (x : core.Block) → All (Says b) (block_notes n (block_draft a n x)) → block_draft b n x ≡ block_draft a n x
      block_kept n (core.block ss bound end) h = rw (list_kept n ss h) refl

      pub list_kept : (n : ℕ) (ss : core.Stmts) → All (Says b) (list_notes n (list_draft a n ss)) → list_draft b n ss ≡ list_draft a n ss
      list_kept n core.done h = refl
      list_kept n (core.next at s rest) h =
          let xs = notes_of n (draft_of a n s) in
          let ys = list_notes (n + size (draft_of a n s)) (list_draft a (n + count s) rest) in
          let first = kept n s (all_left (Says b) xs ys h) in
          let others = list_kept (n + count s) rest
          (subst (λ k. All (Says b) (list_notes (n + k) (list_draft a (n + count s) rest))) (sized n s) (all_right (Says b) xs ys h)) in
          rw (first, others) refl

      arms_kept : (n : ℕ) (arms : core.Arms) → All (Says b) (arms_notes n (arms_draft a n arms)) → arms_draft b n arms ≡ arms_draft a n arms
      arms_kept n core.no_arms h = refl
      arms_kept n (core.arm c vs x rest) h =
          let xs = block_notes n (block_draft a n x) in
          let ys = arms_notes (n + size_block (block_draft a n x)) (arms_draft a (n + count_block x) rest) in
          let first = block_kept n x (all_left (Says b) xs ys h) in
          let others = arms_kept (n + count_block x) rest
          (subst (λ k. All (Says b) (arms_notes (n + k) (arms_draft a (n + count_block x) rest))) (block_sized n x) (all_right (Says b) xs ys h)) in
          rw (first, others) refl

-- the drafts of a body with the maps that its own notes say are those drafts
pub own_notes : (a : MapNotes) (ss : core.Stmts) → list_draft (maps_of (list_notes 0 (list_draft a 0 ss))) 0 ss ≡ list_draft a 0 ss
own_notes a ss =
    list_kept a (maps_of (list_notes 0 (list_draft a 0 ss))) 0 ss
    (all_said (list_notes 0 (list_draft a 0 ss)) 0 (notes_ascend (list_draft a 0 ss)))
