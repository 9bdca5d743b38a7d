-- What the automaton takes to its end is a text, so tokens are those of a text or are refused.
use Rattle.std.proofs.Common.{◌≡◌, inl, inr, Bool, true, false, if◌then◌else◌, List, [], ◌∷◌, ◌++◌, refl, sym, ap, ◌∙◌}
use Rattle.std.specs.Prelude.{Ok, Err}
use Rattle.std.proofs.lemmas.List.{append-nil}
use Rattle.c_syntax.specs.C as c
use Rattle.c_syntax.specs.Unit.{TranslationUnit}
use Rattle.c_syntax.specs.Tokens.{Token}
use Rattle.c_syntax.specs.Text.{Lexeme}
use Rattle.c_syntax.specs.Spelling.{spelling}
use Rattle.c_syntax.specs.Grammar.{Bounds, language, IsUnit}
use Rattle.c_syntax.specs.Reading.{tokens_in}
use Rattle.c_automaton.specs.Refusals.{cut_short}
use Rattle.c_automaton.specs.Automaton as a
use Rattle.c_automaton.specs.Automaton.{Symbol, Next, to, unexpected, over, step, may_end, Verdict, onward, run, start}
use Rattle.c_automaton.specs.Laws.{HasUnitOrRefusal}
use Rattle.c_automaton.proofs.After.{bind, after}
use Rattle.c_automaton.proofs.Parts.{Spells}
use Rattle.c_automaton.proofs.Whole.{IsEnd, after_back, text_of}
use Rattle.c_automaton.proofs.Refused.{some_depth, refuses_as_the_grammar}

-- a stack on which a text may end spells nothing
ends : (b : Bounds) (ys : List Symbol) → may_end ys ≡ true → Spells b ys IsEnd []
ends b [] e = refl
ends b (a.functions ∷ ys) e = λ p. ([], [], [], tt, refl, ends b ys e)
ends b (a.bodies ∷ ys) e = λ p. ([], [], tt, refl, ends b ys e)
ends b (a.otherwise ∷ ys) e = λ p. inl (ends b ys e)
ends b (a.operand_end ∷ ys) e = λ n. (c.variable (record { reference = true; number = n }), [], tt, refl, refl, ends b ys e)
ends b (y ∷ ys) e = absurd cc

-- the automaton takes all tokens, and the text may end there
record IsTaken (b : Bounds) (ys : List Symbol) (ts : List Token) : Type 0 where
  stack : List Symbol
  all : after b ts ys ≡ to stack
  may : may_end stack ≡ true

abbrev accepted : Verdict
accepted = Ok tt

may_now : (d : Bool) → (if d then accepted else Err cut_short) ≡ accepted → d ≡ true
may_now true e = refl
may_now false e = absurd cc

taken : (b : Bounds) (ys : List Symbol) (ls : List Lexeme) → run b ys ls ≡ accepted → IsTaken b ys (tokens_in ls)
taken b ys [] e = record { stack = ys; all = refl; may = may_now (may_end ys) e }
taken b ys (x ∷ ls) e = by (step b ys x.token) refl (λ zs. taken b zs ls) e
  where
    by : (n : Next) → step b ys x.token ≡ n → ((zs : List Symbol) → run b zs ls ≡ accepted → IsTaken b zs (tokens_in ls)) → onward (λ zs. run b zs ls) x.at n ≡ accepted → IsTaken b ys (tokens_in (x ∷ ls))
    by (to zs) is rest f = let r = rest zs f in record { stack = r.stack; all = ap (bind (after b (tokens_in ls))) is ∙ r.all; may = r.may }
    by unexpected is rest f = absurd cc
    by (over n) is rest f = absurd cc

whole : (ts : List Token) → IsTaken language start ts → (u : TranslationUnit) × IsUnit language u × (ts ≡ spelling u)
whole ts is =
    let text = text_of language (ts ++ []) (after_back language ts [] start is.stack IsEnd some_depth is.all (ends language is.stack is.may)) in
    (text.unit, text.within, sym (text.spelled ∙ append-nil ts))

pub read_or_refused : (ls : List Lexeme) → HasUnitOrRefusal ls
read_or_refused ls = by (run language start ls) refl
  where
    by : (v : Verdict) → run language start ls ≡ v → HasUnitOrRefusal ls
    by (Ok u) e = inl (whole (tokens_in ls) (taken language start ls e))
    by (Err f) e = inr (f, refuses_as_the_grammar ls f e)
