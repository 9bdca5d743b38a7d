-- What the rows of a certificate give of a program, beside the rules on names and types.
use Rattle.std.specs.Prelude.{◌≡◌, ◌≤◌, ℕ, true, length, Some, slice_get}
use Rattle.vlt_core.specs.Core.{done, SetDecl, CaseDecl, VariantDecl, a_variant, Func, Program}
use Rattle.vlt_core.specs.Lookups.{fields_of, cases_of, case_at}

-- sets and variants aren't empty, and nothing has more parts than a row may have
pub record IsFormed (p : Program) : Type 0 where
  pub some_states : (i : ℕ) (d : SetDecl) → slice_get p.sets i ≡ Some d →
      1 ≤ length d.states
  pub few_states : (i : ℕ) (d : SetDecl) → slice_get p.sets i ≡ Some d →
      length d.states ≤ 32
  pub some_cases : (t : ℕ) (d : VariantDecl) → slice_get p.types t ≡ Some (a_variant d) →
      1 ≤ length d.cases
  pub few_cases : (t : ℕ) → length (cases_of p t) ≤ 32
  pub few_payloads : (t c : ℕ) (d : CaseDecl) → case_at p t c ≡ Some d → length d.payload ≤ 8
  pub few_fields : (t : ℕ) → length (fields_of p t) ≤ 32
  pub few_params : (g : ℕ) (f : Func) → slice_get p.fns g ≡ Some f → f.params ≤ 16
  pub few_vars : (g : ℕ) (f : Func) → slice_get p.fns g ≡ Some f → length f.vars ≤ 256
  pub few_keys : (g : ℕ) (f : Func) → slice_get p.fns g ≡ Some f → length f.keys ≤ 256
  pub few_functions : length p.fns ≤ 4096
  -- externals have no statements
  pub blank : (g : ℕ) (f : Func) → slice_get p.fns g ≡ Some f → f.external ≡ true →
      f.body ≡ done
