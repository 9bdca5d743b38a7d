-- Externals for which there is no C program: the mask of their result's cases is no number of C.
use Rattle.std.specs.Prelude.{nat_le, Bool, ◌&&◌, List, [], length, Option, Some}
use Rattle.std.specs.List.{list_any}
use Rattle.vlt_core.specs.Core.{Ty, variant, owning_variant, CaseDecl, Program}
use Rattle.vlt_core.specs.Lookups.{cases_of}

-- the cases of a result's variant, none of any other result
abbrev pub result_cases : Program → Option Ty → List CaseDecl
result_cases p (Some (variant t args)) = cases_of p t
result_cases p (Some (owning_variant t args)) = cases_of p t
result_cases p _ = []

-- a number of C has 63 bits besides its sign
abbrev pub has_many_cases : Program → Option Ty → Bool
has_many_cases p ty = nat_le 64 (length (result_cases p ty))

abbrev pub gives_many_cases : Program → Bool
gives_many_cases p = list_any (λ f. f.external && has_many_cases p f.result) p.fns
