-- A clause that isn't refused has one bound entry at most.
use Rattle.std.proofs.Common.{◌≡◌, Bool, true, false, true≢false, if◌then◌else◌, nat_le, List, [], ◌∷◌, map, filter, length, refl, ap, ◌∙◌}
use Rattle.vlt_syntax.specs.Tree as s
use Rattle.vlt_syntax.specs.Tree.{Entry, Parameter}
use Rattle.vlt_core.specs.Core as core
use Rattle.vlt_core.specs.KindedHeads.{is_bound_entry}
use Rattle.vlt_core.specs.declared.rules.TheConstants as rule
use Rattle.vlt_kinds_types.specs.Names.Globals.{Globals}
use Rattle.vlt_kinds_types.specs.Names.Along.{along}
use Rattle.vlt_kinds_types.specs.Files.{File}
use Rattle.vlt_kinds_heads.specs.Keys.{Keys}
use Rattle.vlt_kinds_heads.specs.Bounds.{is_bound, variable_refused, after_bound, variables_refused}
use Rattle.vlt_kinds_heads.specs.Phase.{core_entry}
use Rattle.vlt_resolve_laws.proofs.OfKindsLaws.Empty.{no_left, no_right, not_broken}

module _ (file : File) (keys : Keys) where
  -- the entries of a clause that are bound
  abbrev bounded : List Entry → List core.Entry
  bounded es = filter is_bound_entry (map (core_entry file keys) es)

  same_bound : (e : Entry) → is_bound_entry (core_entry file keys e) ≡ is_bound e
  unfolding core_entry
  same_bound (s.held k) = refl
  same_bound (s.changed k before after) = refl
  same_bound (s.bound k v b) = refl
  same_bound (s.taken k at) = refl
  same_bound (s.given k at) = refl
  same_bound (s.fresh k at) = refl

  module _ (known : Globals) (all : Keys) (ps : List Parameter) where
    never_again : (e : Entry) → variable_refused known all ps true e ≡ [] → is_bound e ≡ false
    never_again (s.held k) none = refl
    never_again (s.changed k before after) none = refl
    never_again (s.bound k v b) none = absurd (true≢false (not_broken true rule.SECOND_BOUND v.at.from none))
    never_again (s.taken k at) none = refl
    never_again (s.given k at) none = refl
    never_again (s.fresh k at) none = refl

    none_more : (es : List Entry) → along after_bound (variable_refused known all ps) true es ≡ [] → bounded es ≡ []
    none_more [] none = refl
    none_more (e ∷ es) none =
        ap (λ b. if b then core_entry file keys e ∷ bounded es else bounded es) (same_bound e ∙ never_again e (no_left (variable_refused known all ps true e) _ none))
        ∙ none_more es (no_right (variable_refused known all ps true e) _ none)

    pub few_bounded : (es : List Entry) → variables_refused known all ps es ≡ [] → nat_le (length (bounded es)) 1 ≡ true
    few_bounded [] none = refl
    few_bounded (e ∷ es) none = by (is_bound e) refl (few_bounded es) (no_right (variable_refused known all ps false e) _ none)
      where
        at_most : {b : Bool} → is_bound e ≡ b
            → nat_le (length (if is_bound_entry (core_entry file keys e) then core_entry file keys e ∷ bounded es else bounded es)) 1
            ≡ nat_le (length (if b then core_entry file keys e ∷ bounded es else bounded es)) 1
        at_most is = ap (λ b. nat_le (length (if b then core_entry file keys e ∷ bounded es else bounded es)) 1) (same_bound e ∙ is)

        by : (b : Bool) → is_bound e ≡ b → (variables_refused known all ps es ≡ [] → nat_le (length (bounded es)) 1 ≡ true)
            → along after_bound (variable_refused known all ps) b es ≡ []
            → nat_le (length (if is_bound_entry (core_entry file keys e) then core_entry file keys e ∷ bounded es else bounded es)) 1 ≡ true
        by true is more none = at_most is ∙ ap (λ l. nat_le (length (core_entry file keys e ∷ l)) 1) (none_more es none)
        by false is more none = at_most is ∙ more none
