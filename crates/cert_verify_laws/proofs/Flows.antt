-- The code has a flow of each body of a program within the limits, and a map for it to begin with.
use Rattle.std.proofs.Common.{◌≡◌, ◌≤◌, ℕ, true, true≢false, List, [], ◌∷◌, length, Option, Some, None, slice_get, refl, sym, arith}
use Rattle.vlt_core.specs.Core.{CaseDecl, Name, TypeDecl, an_abstract, a_struct, a_variant, Program}
use Rattle.vlt_core.specs.Lookups.{cases_in, case_at}
use Rattle.vlt_core.specs.View.{program_of}
use Rattle.vlt_core.specs.declared.program.Program.{Program as CodeProgram}
use Rattle.vlt_core_laws.proofs.Headed.{kinded_parts}
use Rattle.vlt_core_laws.proofs.Unbroken.{some_not_none}
use Rattle.vlt_fit_laws.specs.Fit.{IsFitProgram}
use Rattle.cert_rows.specs.Rows.{is_filled}
use Rattle.cert_fit_laws.specs.Formed.{IsFormed}
use Rattle.cert_fit_laws.specs.Limits.{IsLimitedSet, IsLimitedCase, IsLimitedType, IsLimitedFunc, IsLimitedProgram}
use Rattle.cert_fit_laws.proofs.Listed.{all_at}
use Rattle.cert_fit_laws.proofs.Masked.{IsMaskedFunc}
use Rattle.cert_fit_laws.proofs.MaskedCode.{code_masked}
use Rattle.cert_least_laws.proofs.OfBodies.Programs.{few_fields, few_cases, few_functions}
use Rattle.cert_check_laws.proofs.Limits.{has_flow, has_start}
use Rattle.cert_check_laws.proofs.Sets.{said}
use Rattle.cert_verify_laws.specs.Causes.{HasFlows}

some_names : (ns : List Name) → is_filled ns ≡ true → 1 ≤ length ns
some_names [] is = absurd (true≢false (sym is))
some_names (n ∷ ns) is = omega arith

-- ---- what is within the limits is formed

module _ (p : Program) (is : IsLimitedProgram p) where
  few_payloads : (t c : ℕ) (d : CaseDecl) → case_at p t c ≡ Some d → length d.payload ≤ 8
  few_payloads t c d = by (slice_get p.types t) refl
    where
      by : (o : Option TypeDecl) → slice_get p.types t ≡ o → slice_get (cases_in o) c ≡ Some d → length d.payload ≤ 8
      by None at is = absurd (some_not_none d (sym is))
      by (Some (an_abstract name set)) at is = absurd (some_not_none d (sym is))
      by (Some (a_struct s)) at is = absurd (some_not_none d (sym is))
      by (Some (a_variant v)) at one = all_at IsLimitedCase v.cases c d (all_at IsLimitedType p.types t (a_variant v) is.types at).3 one

  pub limited_formed : IsFormed p
  limited_formed = record {
    some_states = λ i d at. some_names d.states (all_at IsLimitedSet p.sets i d is.sets at).filled;
    few_states = λ i d at. (all_at IsLimitedSet p.sets i d is.sets at).few;
    some_cases = λ t d at. (all_at IsLimitedType p.types t (a_variant d) is.types at).1;
    few_fields = few_fields p is;
    few_cases = few_cases p is;
    few_payloads = few_payloads;
    few_params = λ g f at. (all_at IsLimitedFunc p.fns g f is.fns at).params;
    few_vars = λ g f at. (all_at IsLimitedFunc p.fns g f is.fns at).vars;
    few_keys = λ g f at. (all_at IsLimitedFunc p.fns g f is.fns at).keys;
    few_functions = few_functions p is;
    blank = λ g f at. (all_at IsLimitedFunc p.fns g f is.fns at).blank;
  }

-- ---- bodies

pub have_flows : (c : CodeProgram) → IsFitProgram (program_of c) → IsLimitedProgram (program_of c) → HasFlows (program_of c)
have_flows c fit limited =
    let p = program_of c in
    let formed = limited_formed p limited in
    let parts = kinded_parts p fit.kinded in
    let sets = said c formed parts limited.bounds in
    record {
      flow = λ g f o there own origin never.
          has_flow p formed parts g f there fit.kinded fit.sizes fit.well_formed.states sets o origin (all_at IsMaskedFunc p.fns g f (code_masked c).fns there).body own never;
      start = λ g f o there own origin never. has_start p formed parts g f there fit.kinded fit.sizes fit.well_formed.states sets o origin never;
    }
