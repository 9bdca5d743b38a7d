-- A tree has one verdict.
use Rattle.std.proofs.Common.{◌≡◌, Some, Result, Ok, Err, refl, sym, ap, ◌∙◌, subst}
use Rattle.std.specs.Prelude.{slice_get}
use Rattle.vlt_syntax.specs.Tree.{Tree}
use Rattle.vlt_core.specs.Core.{Func, Program}
use Rattle.vlt_core.specs.Derives.{IsAccepted}
use Rattle.vlt_core.specs.Faults.{FlowFault, IsFirstFault}
use Rattle.vlt_kinds_types.specs.declared.names.found.Refusal.{Refusal}
use Rattle.vlt_kinds_types.specs.Kinds.{Kinds}
use Rattle.vlt_kinds.specs.Tables.{kinds_told}
use Rattle.vlt_elaboration.specs.Elaboration.{Refused, broken}
use Rattle.vlt_core_laws.specs.Fit.{IsWellFormed}
use Rattle.vlt_core_laws.specs.FaultLaws.{HasOneFirstFault}
use Rattle.vlt_fit_laws.specs.Fit.{IsFitProgram, IsTextTree, ProgramsAreFit}
use Rattle.vlt_elaboration.specs.Programs.{with_kinds, program_told}
use Rattle.vlt_verdict.specs.Verdicts.{IsFaultyIn, refused, faulty, accepted}
use Rattle.vlt_verdict.specs.Laws.{GivesWellFormed, ProgramsHaveOneVerdict, HasOneVerdict}

same_told : (a b : Refused) → ◌≡◌ {A = Result Program Refused} (Err a) (Err b) → a ≡ b
same_told a b e = cc

same_program : (p q : Program) → ◌≡◌ {A = Result Program Refused} (Ok p) (Ok q) → p ≡ q
same_program p q e = cc

ok_or_err : (x : Result Program Refused) (r : Refused) (p : Program) → x ≡ Err r → x ≡ Ok p → ⊥
ok_or_err x r p refuses tells = cc

same_func : (p : Program) (x : FlowFault) (f g : Func) → slice_get p.fns x.function ≡ Some f → slice_get p.fns x.function ≡ Some g → f ≡ g
same_func p x f g a b = cc

of_kinds : ProgramsAreFit → (t : Tree) (r : Result Kinds Refusal) (p : Program) → IsTextTree t → kinds_told t ≡ r →
    with_kinds t r ≡ Ok p → IsFitProgram p
of_kinds law t (Ok kinds) p tree told e = law t kinds p tree told e
of_kinds law t (Err r) p tree told e = absurd (ok_or_err (Err (broken r.rule r.at)) (broken r.rule r.at) p refl e)

-- what is known of the program of a tree
pub fit_program : ProgramsAreFit → (t : Tree) (p : Program) → IsTextTree t → program_told t ≡ Ok p → IsFitProgram p
fit_program law t p tree told = of_kinds law t (kinds_told t) p tree refl told

module _ (one : (p : Program) → HasOneFirstFault p) (none : (p : Program) (x : FlowFault) → IsWellFormed p → IsAccepted p → IsFirstFault p x → ⊥) where
  faulty_once : (p q : Program) (f g : Func) (x y : FlowFault) → p ≡ q → IsFaultyIn p f x → IsFaultyIn q g y → faulty p f x ≡ faulty q g y
  faulty_once p q f g x y same a b =
      let b' : IsFaultyIn p g y = subst (λ o. IsFaultyIn o g y) (sym same) b in
      let fault : x ≡ y = one p x y a.first b'.first in
      let func : f ≡ g = same_func p x f g a.there (subst (λ z. slice_get p.fns z.function ≡ Some g) (sym fault) b'.there) in
      ap (λ o. faulty o f x) same ∙ ap (λ o. faulty q o x) func ∙ ap (λ z. faulty q g z) fault

  not_both : (told : Result Program Refused) (p q : Program) (f : Func) (x : FlowFault) → GivesWellFormed told → told ≡ Ok p → told ≡ Ok q →
      IsFaultyIn p f x → IsAccepted q → ⊥
  not_both told p q f x formed a b bad good =
      none p x (formed p a) (subst IsAccepted (sym (same_program p q (sym a ∙ b))) good) bad.first

  pub programs_have_one : ProgramsHaveOneVerdict
  programs_have_one told (refused a) (refused b) formed v w = ap (λ r. refused r) (same_told a b (sym v ∙ w))
  programs_have_one told (refused a) (faulty q g y) formed v w = absurd (ok_or_err told a q v w.0)
  programs_have_one told (refused a) (accepted q) formed v w = absurd (ok_or_err told a q v w.0)
  programs_have_one told (faulty p f x) (refused b) formed v w = absurd (ok_or_err told b p w v.0)
  programs_have_one told (faulty p f x) (faulty q g y) formed v w = faulty_once p q f g x y (same_program p q (sym v.0 ∙ w.0)) v.1 w.1
  programs_have_one told (faulty p f x) (accepted q) formed v w = absurd (not_both told p q f x formed v.0 w.0 v.1 w.1)
  programs_have_one told (accepted p) (refused b) formed v w = absurd (ok_or_err told b p w v.0)
  programs_have_one told (accepted p) (faulty q g y) formed v w = absurd (not_both told q p g y formed w.0 v.0 w.1 v.1)
  programs_have_one told (accepted p) (accepted q) formed v w = ap (λ o. accepted o) (same_program p q (sym v.0 ∙ w.0))

pub gives_well_formed : ProgramsAreFit → (t : Tree) → IsTextTree t → GivesWellFormed (program_told t)
gives_well_formed law t tree p told = (fit_program law t p tree told).well_formed

pub one_verdict : ProgramsAreFit → ProgramsHaveOneVerdict → HasOneVerdict
one_verdict law one t v w tree a b = one (program_told t) v w (gives_well_formed law t tree) a b
