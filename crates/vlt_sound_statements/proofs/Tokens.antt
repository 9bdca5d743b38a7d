-- Tokens that are away, and what a block's list has.
use Rattle.std.proofs.Common.{◌≡◌, ⊎_elim, Bool, true, false, List, [], ◌∷◌, map, filter, if◌then◌else◌, sym, ap, ◌∙◌, subst}
use Rattle.std.proofs.lemmas.Bool.{or_left, or_right}
use Rattle.std.specs.List.{list_any}
use Rattle.vlt_core.specs.Core.{Tok, a_key, a_var, Func}
use Rattle.vlt_core.specs.Maps.{kind_of, is_absent, HeldMap, is_tok, row_passed, CanPass, away_row}
use Rattle.vlt_core.specs.Rows.{tokens_of, in_order}
use Rattle.vlt_core.specs.KindedBodies.{tokens_broken}
use Rattle.vlt_core_laws.specs.Scoped.{is_bound}
use Rattle.vlt_core_laws.proofs.Ids.{or_split}
use Rattle.vlt_core_laws.proofs.Listed.{tok_is, tok_self, token_owns, listed_made}
use Rattle.vlt_sound_worlds.specs.Scopes.{AreOwning}
use Rattle.vlt_sound_worlds.proofs.Blocks.{gone_passed}

-- a row that wants a token away changes nothing where it is passed
gone_once : (u : Tok) (m : HeldMap) → kind_of (m u) ≡ is_absent → row_passed (away_row u) m ≡ m
gone_once u m e = gone_passed (u ∷ []) m (e, tt)

pub away_in : (ts : List Tok) (m : HeldMap) (t : Tok) → CanPass (map away_row ts) m → is_bound ts t ≡ true →
    kind_of (m t) ≡ is_absent
away_in [] m t pass e = cc
away_in (u ∷ ts) m t pass e = ⊎_elim
    (λ same. subst (λ u. kind_of (m u) ≡ is_absent) (sym (tok_is t u same)) pass.0)
    (λ more. away_in ts m t (subst (CanPass (map away_row ts)) (gone_once u m pass.0) pass.1) more)
    (or_split (is_tok t u) (is_bound ts t) e)

pub all_away : (ts : List Tok) (m : HeldMap) → ((t : Tok) → is_bound ts t ≡ true → kind_of (m t) ≡ is_absent) →
    CanPass (map away_row ts) m
all_away [] m away = tt
all_away (u ∷ ts) m away =
    let here = away u (or_left (is_tok u u) (is_bound ts u) (tok_self u)) in (
      here,
      subst (CanPass (map away_row ts)) (sym (gone_once u m here))
          (all_away ts m (λ t e. away t (or_right (is_tok t u) (is_bound ts t) e))),
    )

-- tokens of the function are keys and owning variables
pub are_owning : (f : Func) (ts : List Tok) →
    ((t : Tok) → is_bound ts t ≡ true → is_bound (tokens_of f) t ≡ true) → AreOwning f ts
are_owning f [] among = tt
are_owning f (a_key k ∷ ts) among =
    are_owning f ts (λ t e. among t (or_right (is_tok t (a_key k)) (is_bound ts t) e))
are_owning f (a_var v ∷ ts) among = (
  token_owns f v (among (a_var v) (or_left (is_tok (a_var v) (a_var v)) (is_bound ts (a_var v)) (tok_self (a_var v)))),
  are_owning f ts (λ t e. among t (or_right (is_tok t (a_var v)) (is_bound ts t) e)),
)

-- what a block lists are tokens of the function
pub listed_owning : (f : Func) (listed made : List Tok) → tokens_broken f listed made ≡ [] → AreOwning f listed
listed_owning f listed made e = are_owning f listed (λ t b. (listed_made f listed made e t b).0)

among : (ts : List Tok) (t : Tok) → is_bound ts t ≡ true → list_any (is_tok t) ts ≡ true
among [] t e = e
among (u ∷ ts) t e = ⊎_elim
    (λ same. or_left (is_tok t u) (list_any (is_tok t) ts) same)
    (λ more. or_right (is_tok t u) (list_any (is_tok t) ts) (among ts t more))
    (or_split (is_tok t u) (is_bound ts t) e)

-- what passes a test stays where the list is filtered by it
filtered_in : (test : Tok → Bool) (ts : List Tok) (t : Tok) → is_bound ts t ≡ true → test t ≡ true →
    is_bound (filter test ts) t ≡ true
filtered_in test [] t e on = e
filtered_in test (u ∷ ts) t e on = ⊎_elim
    (λ same. rw (ap test (sym (tok_is t u same)) ∙ on) (or_left (is_tok t u) (is_bound (filter test ts) t) same))
    (λ more. by (test u) (filtered_in test ts t more on))
    (or_split (is_tok t u) (is_bound ts t) e)
  where
    by : (b : Bool) → is_bound (filter test ts) t ≡ true →
        is_bound (if b then u ∷ filter test ts else filter test ts) t ≡ true
    by true more = or_right (is_tok t u) (is_bound (filter test ts) t) more
    by false more = more

-- tokens of the function that are in the list are in it as it is ordered
pub ordered_in : (f : Func) (ts : List Tok) (t : Tok) → is_bound (tokens_of f) t ≡ true → is_bound ts t ≡ true →
    is_bound (in_order f ts) t ≡ true
ordered_in f ts t token e = filtered_in (λ t. list_any (is_tok t) ts) (tokens_of f) t token (among ts t e)
