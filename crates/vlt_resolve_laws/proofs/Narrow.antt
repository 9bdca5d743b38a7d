-- Each set of states that an elaborated program says has states below 32 alone.
use Rattle.std.proofs.Common.{◌≡◌, ℕ, zero, suc, ◌≤◌, List, [], ◌∷◌, length, Option, Some, None, refl, subst, arith, slice_get}
use Rattle.std.proofs.lemmas.Bool.{ltb-true}
use Rattle.std.proofs.lemmas.Option.{none-some, same_Some}
use Rattle.vlt_syntax.specs.Tree as s
use Rattle.vlt_syntax.specs.Tree.{Decl, Tree}
use Rattle.vlt_syntax.specs.Lists.{Each}
use Rattle.vlt_syntax.specs.Grammar.{IsDecl, language}
use Rattle.vlt_core.specs.Core.{SetDecl, Program}
use Rattle.vlt_kinds_types.specs.Names.Refusals.{of_each}
use Rattle.vlt_kinds_types.specs.declared.shapes.Shape.{Shape}
use Rattle.vlt_kinds_types.specs.Files.{file_of, sets_in, state_texts, links_of, then_with, states_in, state_names}
use Rattle.vlt_kinds_types.specs.Types.{state_count_in}
use Rattle.vlt_kinds_types.proofs.Sets.{few_texts}
use Rattle.vlt_kinds_types.specs.Kinds.{Kinds}
use Rattle.vlt_resolve_laws.proofs.OfKindsLaws.States.{states_fit, ListedAre}
use Rattle.vlt_resolve_laws.specs.Narrow.{IsNarrowSet, HasNarrowStates}
use Rattle.vlt_resolve_laws.specs.Elaborated.{IsElaborated}
use Rattle.vlt_resolve_laws.proofs.Said.{elaborated_says}

-- a set that is declared has at most 32 states
pub few_states : (ds : List Decl) → Each (IsDecl language) ds → (i : ℕ) (d : SetDecl) → slice_get (of_each sets_in ds) i ≡ Some d → length d.states ≤ 32
few_states [] right i d at = absurd (none-some d at)
few_states (s.stateset n ss place ∷ ds) right zero d at =
    subst (λ d. length d.states ≤ 32) (same_Some (record { name = n.text; states = state_texts ss; links = links_of ss }) d at)
    (few_texts ss 32 right.0.1)
few_states (s.stateset n ss place ∷ ds) right (suc i) d at = few_states ds right.1 i d at
few_states (s.abstract n ss place ∷ ds) right i d at = few_states ds right.1 i d at
few_states (s.struct n ps ss fs r place ∷ ds) right i d at = few_states ds right.1 i d at
few_states (s.variant n ps cs place ∷ ds) right i d at = few_states ds right.1 i d at
few_states (s.extern h place ∷ ds) right i d at = few_states ds right.1 i d at
few_states (s.function h b place ∷ ds) right i d at = few_states ds right.1 i d at

module _ (ds : List Decl) (right : Each (IsDecl language) ds) where
  few_names : (o : Option Shape) → state_count_in (state_names (file_of ds) o) ≤ 32
  unfolding state_names
  few_names None = omega arith
  few_names (Some shape) = by shape.set
    where
      of_set : (i : ℕ) (o : Option SetDecl) → slice_get (file_of ds).sets i ≡ o → state_count_in (states_in o) ≤ 32
      of_set i None at = omega arith
      of_set i (Some d) at = few_states ds right i d at

      by : (o : Option ℕ) → state_count_in (then_with o (λ i. states_in (slice_get (file_of ds).sets i))) ≤ 32
      by None = omega arith
      by (Some i) = of_set i (slice_get (file_of ds).sets i) refl

  pub listed_narrow : ListedAre (file_of ds) IsNarrowSet
  listed_narrow shape ss some i there =
      let less = ltb-true i (state_count_in (state_names (file_of ds) shape)) (states_fit (state_names (file_of ds) shape) ss some i there) in
      let few = few_names shape in
      omega arith

pub elaborated_narrow : (t : Tree) (kinds : Kinds) (p : Program) → IsElaborated t kinds p → HasNarrowStates p
elaborated_narrow t kinds p e = elaborated_says t kinds p e IsNarrowSet (listed_narrow t.decls e.tree.0)
