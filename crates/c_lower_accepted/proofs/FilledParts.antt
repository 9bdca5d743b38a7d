-- Sets of states in payloads and results that elaboration makes have a state.
use Rattle.std.proofs.Common.{◌≡◌, ℕ, true, List, Some, slice_get, refl, sym, ◌∙◌, subst}
use Rattle.std.proofs.lemmas.Option.{none-some, same_Some}
use Rattle.vlt_syntax.specs.Tree as s
use Rattle.vlt_syntax.specs.Tree.{Decl, ResultType}
use Rattle.vlt_syntax.specs.Lists.{Each}
use Rattle.vlt_core.specs.Core as core
use Rattle.vlt_core.specs.Core.{States, Ty, CaseDecl, TypeDecl, Func, Program}
use Rattle.vlt_core.specs.Lookups.{case_at, cases_in}
use Rattle.vlt_core_laws.specs.States.{IsFilledSet}
use Rattle.vlt_kinds_types.specs.Files.{file_of}
use Rattle.vlt_kinds_types.specs.Types.{core_ty}
use Rattle.vlt_kinds_heads.specs.Keys.{Keys, keys_of}
use Rattle.vlt_kinds_heads.specs.Phase.{core_head, core_result, key_number}
use Rattle.vlt_kinds.specs.Tables.{kinds_of}
use Rattle.vlt_resolve_laws.specs.KindsLaws.Shapes.{Describes}
use Rattle.vlt_resolve_laws.specs.KindsLaws.States.{SaysStates}
use Rattle.vlt_resolve_laws.proofs.OfKindsLaws.HeadStates.{type_filled}
use Rattle.vlt_resolve_laws.proofs.OfKindsLaws.Rows.{each_at}
use Rattle.vlt_resolve_laws.specs.Made.{head_made}
use Rattle.vlt_resolve_laws.proofs.Bodies.{made_head}
use Rattle.vlt_resolve_laws.proofs.Filled.{cases_at, filled_set}
use Rattle.vlt_resolve_laws.proofs.Made.{made_at}
use Rattle.vlt_resolve_laws.proofs.Whole.{Facts}

result_says : (ds : List Decl) (p : Program) → Describes (file_of ds) p → (keys : Keys) (r : ResultType) (ty : Ty) → core_result (file_of ds) keys r ≡ Some ty → SaysStates ty
result_says ds p described keys (s.void at) ty e = absurd (none-some ty e)
result_says ds p described keys (s.value t) ty e =
    subst SaysStates (same_Some (core_ty (file_of ds) (key_number keys) t) ty e) (type_filled (file_of ds) p described (key_number keys) t)

module _ (ds : List Decl) (p : Program) (x : Facts (kinds_of ds) p) where
  pub results_filled : (g : ℕ) (gf : Func) (states : States) (t : ℕ) (args : List ℕ) → slice_get p.fns g ≡ Some gf → gf.external ≡ true →
      gf.result ≡ Some (core.owning states t args) → IsFilledSet states
  unfolding core_head
  results_filled g gf states t args at external q =
      let m = made_at (kinds_of ds) (kinds_of ds).heads p.fns x.functions.made g gf at in
      let head = (made_head (kinds_of ds) (head_made (kinds_of ds) m.head m.body) m.body gf m.made.walked).result in
      filled_set states
      (result_says ds p x.described (keys_of (file_of ds) m.head) m.head.result_type (core.owning states t args) (sym head ∙ q) states refl)

  pub parts_filled : (t c i : ℕ) (d : CaseDecl) (states : States) (u : ℕ) (others : List ℕ) → case_at p t c ≡ Some d →
      slice_get d.payload i ≡ Some (core.owning states u others) → IsFilledSet states
  parts_filled t c i d states u others at there = filled_set states (each_at SaysStates d.payload i (core.owning states u others) payload there states refl)
    where
      cases : Each (λ (c : CaseDecl). Each SaysStates c.payload) (cases_in (slice_get p.types t))
      cases = subst (λ (ts : List TypeDecl). Each (λ (c : CaseDecl). Each SaysStates c.payload) (cases_in (slice_get ts t))) (sym x.functions.types) (cases_at ds p x.described t)

      payload : Each SaysStates d.payload
      payload = each_at (λ (c : CaseDecl). Each SaysStates c.payload) (cases_in (slice_get p.types t)) c d cases at
