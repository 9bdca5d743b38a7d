-- Which texts are made of scalar values only.
use Rattle.std.proofs.Common.{◌≡◌, ℕ, Bool, true, false, cond, eqb, List, [], ◌∷◌, ◌++◌, Option, Some, None, refl, sym, ap, subst, ◌∙◌}
use Rattle.std.specs.Prelude.{codes}
use Rattle.std.proofs.lemmas.Bool.{and_parts}
use Rattle.std.proofs.Math.Utf8.{scalar, scalars}
use Rattle.vlt_tokens.specs.Characters.{following, or_else, after_line, after_close}
use Rattle.vlt_lexer.specs.Reading.{IsGap, blank, line, block}
use Rattle.vlt_lexer.proofs.Runs.{after_splits, some_is}

abbrev pub AreScalars : List ℕ → Type 0
AreScalars cs = scalars cs ≡ true

pub scalars_split : (front rest : List ℕ) → AreScalars (front ++ rest) → AreScalars front × AreScalars rest
scalars_split [] rest is = (refl, is)
scalars_split (c ∷ front) rest is =
    let parts = and_parts (scalar c) (scalars (front ++ rest)) is in
    let more = scalars_split front rest parts.1 in
    (rw (parts.0) more.0, more.1)

pub scalars_joined : (front rest : List ℕ) → AreScalars front → AreScalars rest → AreScalars (front ++ rest)
scalars_joined [] rest is are = are
scalars_joined (c ∷ front) rest is are =
    let parts = and_parts (scalar c) (scalars front) is in
    rw (parts.0) (scalars_joined front rest parts.1 are)

line_scalars : (cs : List ℕ) → AreScalars cs → AreScalars (after_line cs)
line_scalars [] is = is
line_scalars (c ∷ cs) is = let are = (and_parts (scalar c) (scalars cs) is).1 in at (eqb c 10) are (line_scalars cs are)
  where
    at : (b : Bool) → AreScalars cs → AreScalars (after_line cs) → AreScalars (cond b cs (after_line cs))
    at true here further = here
    at false here further = further

close_scalars : (cs after : List ℕ) → after_close cs ≡ Some after → AreScalars cs → AreScalars after
close_scalars [] after e is = absurd cc
close_scalars (c ∷ cs) after e is = at (following (codes "*/") (c ∷ cs)) refl e (λ n. close_scalars cs after n (and_parts (scalar c) (scalars cs) is).1)
  where
    at : (b : Option (List ℕ)) → following (codes "*/") (c ∷ cs) ≡ b → or_else b (after_close cs) ≡ Some after → (after_close cs ≡ Some after → AreScalars after) → AreScalars after
    at None h n further = further n
    at (Some r) h n further =
        let begins = after_splits (codes "*/") (c ∷ cs) r h ∙ ap (λ t. codes "*/" ++ t) (some_is n) in
        (scalars_split (codes "*/") after (subst AreScalars begins is)).1

-- after a gap the rest of a text is a text
pub gap_scalars : (cs after : List ℕ) → IsGap cs after → AreScalars cs → AreScalars after
gap_scalars cs after (blank _ c _ e is) are = (and_parts (scalar c) (scalars after) (subst AreScalars e are)).1
gap_scalars cs after (line _ inside _ e is) are = subst AreScalars (sym is) (line_scalars inside (scalars_split (codes "//") inside (subst AreScalars e are)).1)
gap_scalars cs after (block _ inside _ e is) are = close_scalars inside after is (scalars_split (codes "/*") inside (subst AreScalars e are)).1
