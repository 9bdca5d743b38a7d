-- The notes of a statement: its own, and those of its blocks.
use Rattle.std.proofs.Common.{◌≡◌, ◌+◌, ap, ◌∙◌, subst, List, ◌++◌}
use Rattle.cert_format.specs.Drafts as t
use Rattle.cert_format.specs.Bodies as s
use Rattle.cert_format.specs.Notes.{Note}
use Rattle.cert_format.specs.Bodies.{size_block, size_arms}
use Rattle.cert_read_bodies.specs.Notes.{Adds}
use Rattle.cert_read_bodies.specs.declared.notes.Notes.{Notes}
use Rattle.cert_read_bodies.proofs.Made.{then}

module _ (old one two : Notes) where
  -- a block after a statement's own notes
  pub block_after : (own : List Note) (a : t.Block) → Adds old one own 1 → Adds one two (s.block_notes one.next a) (size_block a) → Adds old two (own ++ s.block_notes (old.next + 1) a) (1 + size_block a)
  block_after own a h i =
      subst (λ z. Adds old two z (1 + size_block a)) (ap (λ z. own ++ s.block_notes z a) h.goes_on) (then old one two own (s.block_notes one.next a) 1 (size_block a) h i)

  pub arms_after : (own : List Note) (a : t.Arms) → Adds old one own 1 → Adds one two (s.arms_notes one.next a) (size_arms a) → Adds old two (own ++ s.arms_notes (old.next + 1) a) (1 + size_arms a)
  arms_after own a h i =
      subst (λ z. Adds old two z (1 + size_arms a)) (ap (λ z. own ++ s.arms_notes z a) h.goes_on) (then old one two own (s.arms_notes one.next a) 1 (size_arms a) h i)

  pub both_after : (own : List Note) (a b : t.Block) (three : Notes) → Adds old one own 1 → Adds one two (s.block_notes one.next a) (size_block a) → Adds two three (s.block_notes two.next b) (size_block b) →
      Adds old three (own ++ (s.block_notes (old.next + 1) a ++ s.block_notes (old.next + 1 + size_block a) b)) (1 + (size_block a + size_block b))
  both_after own a b three h i j =
      subst (λ z. Adds old three z (1 + (size_block a + size_block b))) same
      (then old one three own (s.block_notes one.next a ++ s.block_notes two.next b) 1 (size_block a + size_block b) h
      (then one two three (s.block_notes one.next a) (s.block_notes two.next b) (size_block a) (size_block b) i j))
    where
      same : own ++ (s.block_notes one.next a ++ s.block_notes two.next b) ≡ own ++ (s.block_notes (old.next + 1) a ++ s.block_notes (old.next + 1 + size_block a) b)
      same = ap (λ z. own ++ (s.block_notes z a ++ s.block_notes two.next b)) h.goes_on ∙ ap (λ z. own ++ (s.block_notes (old.next + 1) a ++ s.block_notes z b)) (i.goes_on ∙ ap (λ z. z + size_block a) h.goes_on)
