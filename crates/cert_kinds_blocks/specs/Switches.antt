-- The parts of the rule on switches.
use Rattle.std.specs.Prelude.{ℕ, nat_lt, ◌==◌, Bool, ◌&&◌, if◌then◌else◌, List, [], length, Option, Some, None}
use Rattle.std.specs.List.{list_all}
use Rattle.vlt_core.specs.Core.{Ty, Program}
use Rattle.vlt_core.specs.Lookups as lookups
use Rattle.vlt_core.specs.Types.{decl_of, is_variant}
use Rattle.vlt_core.specs.KindedHeads.{Rules, unless, when_some, are_apart}
use Rattle.vlt_core.specs.KindedStatements.{is_variant_type}
use Rattle.vlt_core.specs.KindedBodies.{arm_cases}
use Rattle.vlt_core.specs.View.{arms_of}
use Rattle.vlt_core.specs.declared.rules.TheConstants as rule
use Rattle.vlt_core.specs.declared.program.Arm.{Arm}

-- the cases of the code's arms
abbrev pub cases_of : List Arm → List ℕ
cases_of arms = arm_cases (arms_of arms)

-- these are so many cases, each once
abbrev pub covers : List ℕ → (count : ℕ) → Bool
covers cs n = are_apart cs && length cs == n && list_all (λ c. nat_lt c n) cs

abbrev pub wants_switched : Option Ty → Rules
wants_switched ty = when_some ty (λ ty. unless (is_variant_type ty) rule.WRONG_SWITCH)

-- the arms' cases against the variant's, by its type and by the variable
abbrev pub cover_broken : Program → (type : ℕ) → List ℕ → Rules
cover_broken p t cs = if is_variant (decl_of p t) then unless (covers cs (length (lookups.cases_of p t))) rule.WRONG_SWITCH else []

abbrev pub covers_variant : Program → Option (ℕ × List ℕ) → List ℕ → Rules
covers_variant p None cs = []
covers_variant p (Some o) cs = cover_broken p o.0 cs
