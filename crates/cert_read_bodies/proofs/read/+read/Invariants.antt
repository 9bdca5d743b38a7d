use Rattle.std.proofs.Common.{◌≡◌, ◌+◌, ◌-◌, ◌*◌, length}
use Rattle.cert_read_bodies.proofs.Listing.{Listing, Arming}
use Rattle.cert_read_bodies.proofs.read.+read.Given as goal

abbrev pub decreases-read_arms : goal.decreases-read_arms
decreases-read_arms l = 8 * (length l.rows.now - l.at) + 3

abbrev pub decreases-read_second : goal.decreases-read_second
decreases-read_second l = 8 * (length l.rows.now - l.at) + 2

abbrev pub decreases-read_block : goal.decreases-read_block
decreases-read_block l = 8 * (length l.rows.now - l.at) + 1

abbrev pub decreases-read_if : goal.decreases-read_if
decreases-read_if l = 8 * (length l.rows.now - l.at) - 1

abbrev pub decreases-read_while : goal.decreases-read_while
decreases-read_while l = 8 * (length l.rows.now - l.at) - 1

abbrev pub decreases-read_switch : goal.decreases-read_switch
decreases-read_switch l = 8 * (length l.rows.now - l.at) - 1

abbrev pub decreases-read_focus : goal.decreases-read_focus
decreases-read_focus l = 8 * (length l.rows.now - l.at) - 1

abbrev pub decreases-read_scope : goal.decreases-read_scope
decreases-read_scope l = 8 * (length l.rows.now - l.at) - 1

abbrev pub decreases-read_draft : goal.decreases-read_draft
decreases-read_draft l = 8 * (length l.rows.now - l.at)

abbrev pub invariant-read_block-loop-i : goal.invariant-read_block-loop-i
invariant-read_block-loop-i l = (l.bound ≡ l.fn.head.bound) × Listing l.fn.instances l.fn.at l.fn.deep l.fn.head.count l.rows l.i l.stmts l.at l.ends l.wrong

abbrev pub invariant-read_arms-loop-head : goal.invariant-read_arms-loop-head
invariant-read_arms-loop-head l = Arming l.fn.instances l.fn.at l.fn.deep l.rows l.heads l.head-index l.arms l.at l.whole l.ends l.wrong
