use Rattle.std.proofs.Common.{◌+◌, ◌*◌, length}
use Rattle.cert_format.specs.Bodies.{size, size_block, size_list, size_arms}
use Rattle.cert_read_bodies.specs.Tree as d
use Rattle.cert_read_bodies.proofs.Making.{Making, MakingArms}
use Rattle.cert_read_bodies.proofs.forms.+forms.Given as goal

abbrev pub decreases-form : goal.decreases-form
decreases-form l = 4 * size (d.draft_of l.draft)

abbrev pub decreases-stmts : goal.decreases-stmts
decreases-stmts l = 4 * size_list (d.drafts_of l.drafts) + 1

abbrev pub decreases-block : goal.decreases-block
decreases-block l = 4 * size_block (d.block_of l.b) + 2

abbrev pub decreases-arms : goal.decreases-arms
decreases-arms l = 4 * size_arms (d.arms_of l.drafts) + 3

abbrev pub invariant-stmts-loop-x : goal.invariant-stmts-loop-x
invariant-stmts-loop-x l = Making l.fn.drafts l.out l.left l.fn.notes l.notes

abbrev pub decreases-stmts-loop-x : goal.decreases-stmts-loop-x
decreases-stmts-loop-x l = length l.left

abbrev pub invariant-arms-loop-x : goal.invariant-arms-loop-x
invariant-arms-loop-x l = MakingArms l.fn.drafts l.out l.left l.fn.notes l.notes

abbrev pub decreases-arms-loop-x : goal.decreases-arms-loop-x
decreases-arms-loop-x l = length l.left
