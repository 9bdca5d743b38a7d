-- Statements, or arms, that are made of the first drafts, while others are left, the last first.
use Rattle.std.specs.Prelude.{◌≡◌, ◌+◌, ◌≤◌, List, ◌++◌, map, reverse}
use Rattle.vlt_core.specs.View.{StmtView, ArmView, stmt_of, arm_of}
use Rattle.vlt_core.specs.declared.program.Stmt.{Stmt}
use Rattle.vlt_core.specs.declared.program.Arm.{Arm as CoreArm}
use Rattle.cert_format.specs.Bodies as s
use Rattle.cert_format.specs.Bodies.{size_list, size_arms}
use Rattle.cert_read_bodies.specs.Tree as d
use Rattle.cert_read_bodies.specs.declared.tree.Draft.{Draft}
use Rattle.cert_read_bodies.specs.declared.tree.Arm.{Arm}
use Rattle.cert_read_bodies.specs.Notes.{notes_of}
use Rattle.cert_read_bodies.specs.declared.notes.Notes.{Notes}

-- a draft's statement, and a draft's arm
abbrev pub step : Draft → StmtView
step x = (0, s.form_of (d.draft_of x))

abbrev pub arm_from : d.ArmView → ArmView
arm_from a = (a.0, a.1, s.core_block a.2)

abbrev pub arm_step : Arm → ArmView
arm_step x = arm_from (d.arm_of x)

pub record Making (drafts : List Draft) (out : List Stmt) (left : List Draft)
    (old now : Notes) : Type 0 where
  pub made : map step drafts ≡ map stmt_of out ++ map step (reverse left)
  pub listed : notes_of old ++ s.list_notes old.next (d.drafts_of drafts)
      ≡ notes_of now ++ s.list_notes now.next (d.drafts_of (reverse left))
  pub goes_on : old.next + size_list (d.drafts_of drafts)
      ≡ now.next + size_list (d.drafts_of (reverse left))
  pub further : old.next ≤ now.next

pub record MakingArms (drafts : List Arm) (out : List CoreArm) (left : List Arm)
    (old now : Notes) : Type 0 where
  pub made : map arm_step drafts ≡ map arm_of out ++ map arm_step (reverse left)
  pub listed : notes_of old ++ s.arms_notes old.next (d.arms_of drafts)
      ≡ notes_of now ++ s.arms_notes now.next (d.arms_of (reverse left))
  pub goes_on : old.next + size_arms (d.arms_of drafts)
      ≡ now.next + size_arms (d.arms_of (reverse left))
  pub further : old.next ≤ now.next
