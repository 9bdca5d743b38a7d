-- What the automaton accepts is the spelling of a tree, so tokens have a tree or a refusal, and it refuses what the grammar does.
use Rattle.std.proofs.Common.{◌≡◌, ◌⊎◌, inl, inr, ℕ, Bool, true, false, if◌then◌else◌, List, [], ◌∷◌, map, refl, sym, ap, subst, ◌∙◌, arith}
use Rattle.std.specs.Prelude.{Ok, Err, Some, None}
use Rattle.vlt_base.specs.declared.places.Span.{Span}
use Rattle.vlt_tokens.specs.Lexemes.{Lexeme}
use Rattle.vlt_syntax.specs.Tokens.{Token, tokens_in}
use Rattle.vlt_syntax.specs.Tree as s
use Rattle.vlt_syntax.specs.Tree.{Tree}
use Rattle.vlt_syntax.specs.Lists.{each_then}
use Rattle.vlt_syntax.specs.Spelling.{spelling, decl_then}
use Rattle.vlt_syntax.specs.Grammar.{Bounds, language, IsTree, IsPlacedTreeOf}
use Rattle.vlt_syntax.specs.Places.{tree_with_places}
use Rattle.vlt_syntax.specs.Refusals.{Refusal, IsRefusal}
use Rattle.vlt_automaton.specs.Automaton.{Symbol, Next, to, unexpected, over, step, may_skip, may_end, depth_read, start, run, Verdict, located_of, enclosed, marked_name, at_states, after_type_name, operations, following_name, end_expr, owner, after_right_name, otherwise, entry_states, arrow_states, clause, decls}
use Rattle.vlt_syntax_laws.proofs.After.{after, onward}
use Rattle.vlt_syntax_laws.proofs.Anew.{placed_tree}
use Rattle.vlt_syntax_laws.proofs.Back.{Rest, Part, Spells, operations_end}
use Rattle.vlt_syntax_laws.proofs.Final.{End, step_back, took}
use Rattle.vlt_syntax_laws.proofs.OneRefusal.{one_refusal, tree_not_refused}
use Rattle.vlt_syntax_laws.proofs.Reasons.{reason, IsReason, Takes}
use Rattle.vlt_syntax_laws.proofs.Refused.{nothing, somewhere, refused}
use Rattle.vlt_syntax_laws.proofs.Whole.{no_room, the_name}
use Rattle.vlt_syntax_laws.proofs.Wider.{wider}

-- a symbol that may be left out spells nothing
skipped : (extra : Bounds) (at : Span) (d : ℕ) (y : Symbol) (K : Rest) → may_skip y ≡ true → K (depth_read y) [] → Part extra d y K []
skipped extra at d (enclosed i o m left) K e k = λ r. ([], [], (tt, no_room left), refl, k)
skipped extra at d (marked_name m) K e k = (None, [], tt, refl, k)
skipped extra at d at_states K e k = (None, [], tt, refl, k)
skipped extra at d after_type_name K e k = λ n. (s.plain (record { name = the_name at n; keys = [] }), [], tt, refl, k)
skipped extra at d (following_name n fs) K e k = λ most gs x so is deep b fits. operations_end at n fs K [] k most gs x is deep b fits
skipped extra at d (operations n fs) K e k = operations_end at n fs K [] k
skipped extra at d end_expr K e k = k
skipped extra at d owner K e k = (None, [], tt, refl, k)
skipped extra at d after_right_name K e k = λ n. (s.value (s.variable (the_name at n)), [], (tt, omega arith), refl, k)
skipped extra at d (otherwise room) K e k = λ r. (s.nothing, [], tt, refl, k)
skipped extra at d entry_states K e k = λ n. (s.held (record { key = the_name at n; states = None }), [], tt, refl, k)
skipped extra at d arrow_states K e k = λ n ss i. (s.held (record { key = the_name at n; states = Some ss }), [], i, refl, k)
skipped extra at d clause K e k = (None, [], tt, refl, k)
skipped extra at d (decls left) K e k = ([], [], tt, omega arith, refl, k)
skipped extra at d y K e k = absurd cc

-- a stack that wants nothing more spells nothing
ends : (extra : Bounds) (at : Span) (q : List Symbol) (d : ℕ) → may_end q ≡ true → Spells extra d q End []
ends extra at [] d e = refl
ends extra at (y ∷ q) d e = by (may_skip y) refl e (ends extra at q (depth_read y)) where
  by : (b : Bool) → may_skip y ≡ b → (if b then may_end q else false) ≡ true → (may_end q ≡ true → Spells extra (depth_read y) q End []) → Spells extra d (y ∷ q) End []
  by true is e more = skipped extra at d y (λ n r. Spells extra n q End r) is (more e)
  by false is e more = absurd cc

went_on : (Q : Type 0) (f : List Symbol → Next) (n : Next) (q : List Symbol) → ((z : List Symbol) → n ≡ to z → f z ≡ to q → Q) → onward f n ≡ to q → Q
went_on Q f (to z) q h e = h z refl e
went_on Q f unexpected q h e = absurd cc
went_on Q f (over n) q h e = absurd cc

-- tokens that leave such a stack are what the stack before them spells
exactly : (extra : Bounds) (at : Span) (ts : List Token) (s q : List Symbol) → after (wider extra) ts s ≡ to q → may_end q ≡ true → Spells extra 0 s End ts
exactly extra at [] s q e wants = subst (λ z. Spells extra 0 z End []) (sym (took s q e)) (ends extra at q 0 wants)
exactly extra at (x ∷ xs) s q e wants =
    went_on (Spells extra 0 s End (x ∷ xs)) (after (wider extra) xs) (step (wider extra) s x) q (λ z is rest. step_back extra at 0 s z End x xs is (exactly extra at xs z q rest wants)) e

-- the tree of tokens that are all taken
whole_tree : (ts : List Token) (q : List Symbol) → after language ts (start language) ≡ to q → may_end q ≡ true → (x : Tree) × IsTree language x × (ts ≡ spelling x)
whole_tree ts q e wants =
    let w = exactly nothing somewhere ts (start language) q e wants in
    (record { decls = w.0 }, (w.2, w.3), w.4 ∙ ap (each_then decl_then w.0) w.5)

-- tokens that the automaton accepts have a tree, places included
pub accepted_tree : (ls : List Lexeme) (u : Unit {0}) → run language (start language) (map located_of ls) ≡ Ok u → (x : Tree) × IsPlacedTreeOf ls x
accepted_tree ls u e =
    let r : Takes ls (start language) true = subst (λ v. IsReason ls (start language) v) e (reason ls (start language)) in
    let x = whole_tree (tokens_in ls) r.stack r.all r.ends in
    (tree_with_places ls x.0, placed_tree ls x.0 x.1 x.2)

-- the tokens of a text have a tree, places included, or the grammar refuses them
pub read_or_refused : (ls : List Lexeme) → ((x : Tree) × IsPlacedTreeOf ls x) ⊎ ((f : Refusal) × IsRefusal ls f)
read_or_refused ls = by (run language (start language) (map located_of ls)) refl where
  by : (v : Verdict) → run language (start language) (map located_of ls) ≡ v → ((x : Tree) × IsPlacedTreeOf ls x) ⊎ ((f : Refusal) × IsRefusal ls f)
  by (Ok u) e = inl (accepted_tree ls u e)
  by (Err f) e = inr (f, refused ls f e)

-- what the grammar refuses, the automaton refuses for the same reason
pub refused_alike : (ls : List Lexeme) (f : Refusal) → IsRefusal ls f → run language (start language) (map located_of ls) ≡ Err f
refused_alike ls f r = by (run language (start language) (map located_of ls)) refl where
  by : (v : Verdict) → run language (start language) (map located_of ls) ≡ v → v ≡ Err f
  by (Ok u) e = let x = accepted_tree ls u e in absurd (tree_not_refused ls x.0 f x.1.0 x.1.1 r)
  by (Err g) e = ap Err (one_refusal ls g f (refused ls g e) r)
