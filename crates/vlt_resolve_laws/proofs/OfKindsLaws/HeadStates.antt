-- Sets of states that heads say have any property that listed ones have, so each has a state.
use Rattle.std.proofs.Common.{◌≡◌, ℕ, if◌then◌else◌, Bool, true, false, List, [], ◌∷◌, map, Option, Some, None, subst}
use Rattle.std.proofs.lemmas.Option.{none-some, same_Some}
use Rattle.vlt_syntax.specs.Tree as s
use Rattle.vlt_syntax.specs.Tree.{Entry, Head, Parameter, ResultType}
use Rattle.vlt_syntax.specs.Lists.{Each}
use Rattle.vlt_core.specs.Core as core
use Rattle.vlt_core.specs.Core.{States, Ty, Program}
use Rattle.vlt_core.specs.Lookups.{owning_states_in}
use Rattle.vlt_kinds_types.specs.Files.{File, shape_named, state_names}
use Rattle.vlt_kinds_types.specs.Types.{sort_in, is_variant_in, type_number, key_numbers, owned_ty, core_ty, states_listed}
use Rattle.vlt_kinds_heads.specs.Places.{clause_in}
use Rattle.vlt_kinds_heads.specs.Keys.{Keys, facts_of}
use Rattle.vlt_kinds_heads.specs.Phase.{key_number, typed_states, states_named, core_entry, core_result, core_parameter, core_head}
use Rattle.vlt_kinds_heads.specs.declared.facts.Typing.{Typing}
use Rattle.vlt_resolve_laws.specs.KindsLaws.Shapes.{Describes}
use Rattle.vlt_resolve_laws.specs.KindsLaws.Said.{TypeSays, EntrySays, HeadSays}
use Rattle.vlt_resolve_laws.specs.KindsLaws.Declared.{IsFilled}
use Rattle.vlt_resolve_laws.specs.KindsLaws.States.{SaysStates, HeadHasStates}
use Rattle.vlt_resolve_laws.proofs.OfKindsLaws.States.{ListedAre, listed_filled}
use Rattle.vlt_resolve_laws.proofs.OfKindsLaws.Filled.{none_says, shape_says, named_says}

module _ (file : File) (p : Program) (described : Describes file p) (P : States → Type 0) (listed : ListedAre file P) where
  typing_says : (o : Option Typing) (ss : Option s.States) → P (states_listed (typed_states file o) ss)
  typing_says None ss = none_says file p described P listed ss
  typing_says (Some had) ss = shape_says file p described P listed had.type_id ss

  side : (o : Option Typing) (ss : Option s.States) (states : States) → states_named (typed_states file o) ss ≡ Some states → P states
  side o None states e = absurd (none-some states e)
  side o (Some ss) states e = subst P (same_Some _ states e) (typing_says o (Some ss))

  no_side : (states : States) → None ≡ Some states → P states
  no_side states e = absurd (none-some states e)

  entry_says : (keys : Keys) (e : Entry) → EntrySays P (core_entry file keys e)
  unfolding core_entry
  entry_says keys (s.held k) = record { before = side (facts_of keys k.key.text).typing k.states; after = side (facts_of keys k.key.text).typing k.states }
  entry_says keys (s.changed k a b) = record { before = side (facts_of keys k.text).typing (Some a); after = side (facts_of keys k.text).typing (Some b) }
  entry_says keys (s.bound k v b) = record { before = no_side; after = no_side }
  entry_says keys (s.taken k at) = record { before = side (facts_of keys k.key.text).typing k.states; after = no_side }
  entry_says keys (s.given k at) = record { before = no_side; after = side (facts_of keys k.key.text).typing k.states }
  entry_says keys (s.fresh k at) = record { before = no_side; after = side (facts_of keys k.key.text).typing k.states }

  pub type_says : (number : List ℕ → ℕ) (t : s.Ty) → TypeSays P (core_ty file number t)
  unfolding owned_ty
  type_says number (s.int at) states e = no_side states e
  type_says number (s.bool at) states e = no_side states e
  type_says number (s.tracked k n at) states e = no_side states e
  type_says number (s.guarded k n) states e = no_side states e
  type_says number (s.plain n) states e = no_side states e
  type_says number (s.owning ss n at) states e = by (is_variant_in (sort_in (shape_named file n.name))) e
    where
      by : (b : Bool) → owning_states_in (Some (if b then core.owning_variant (type_number file n.name) (key_numbers number n.keys) else core.owning (states_listed (state_names file (shape_named file n.name)) ss) (type_number file n.name) (key_numbers number n.keys))) ≡ Some states
          → P states
      by true e = absurd (none-some states e)
      by false e = subst P (same_Some _ states e) (named_says file p described P listed n.name ss)

  pub result_says : (keys : Keys) (r : ResultType) (ty : Ty) → core_result file keys r ≡ Some ty → TypeSays P ty
  result_says keys (s.void at) ty e = absurd (none-some ty e)
  result_says keys (s.value t) ty e = subst (TypeSays P) (same_Some (core_ty file (key_number keys) t) ty e) (type_says (key_number keys) t)

  entries_say : (keys : Keys) (es : List Entry) → Each (EntrySays P) (map (core_entry file keys) es)
  entries_say keys [] = tt
  entries_say keys (e ∷ es) = (entry_says keys e, entries_say keys es)

  parameters_say : (keys : Keys) (qs : List Parameter) → Each (λ d. TypeSays P d.ty) (map (core_parameter file keys) qs)
  parameters_say keys [] = tt
  parameters_say keys (q ∷ qs) = (type_says (key_number keys) q.ty, parameters_say keys qs)

  pub head_says : (external : Bool) (h : Head) (keys : Keys) → HeadSays P (core_head file external h keys)
  unfolding core_head
  head_says external h keys = record { clause = entries_say keys (clause_in h.clause); parameters = parameters_say keys h.parameters }

pub type_filled : (file : File) (p : Program) → Describes file p → (number : List ℕ → ℕ) (t : s.Ty) → SaysStates (core_ty file number t)
type_filled file p described number t = type_says file p described IsFilled (listed_filled file) number t

pub heads_filled : (file : File) (p : Program) (h : Head) (external : Bool) (keys : Keys) → Describes file p → HeadHasStates (core_head file external h keys)
heads_filled file p h external keys described = head_says file p described IsFilled (listed_filled file) external h keys
