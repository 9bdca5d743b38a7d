-- Bytes are a text of one tree, or they are refused for one reason.
use Rattle.std.proofs.Common.{◌≡◌, ◌⊎◌, inl, inr, ℕ, ◌≤◌, List, length, IfSome, ap, subst}
use Rattle.vlt_base.specs.Limits.{limit_of}
use Rattle.vlt_base.specs.declared.limits.TheConstants.{TOKENS}
use Rattle.vlt_tokens.specs.Lexemes.{Lexeme}
use Rattle.vlt_lexer.specs.Text.{IsTokensOf}
use Rattle.vlt_lexer.proofs.OneAnswer.{one_list, cause, one_refusal as one_lexer_refusal, read_not_refused}
use Rattle.vlt_syntax.specs.Tree.{Tree}
use Rattle.vlt_syntax.specs.Grammar.{IsPlacedTreeOf}
use Rattle.vlt_syntax.specs.Refusals as grammar
use Rattle.vlt_parser.specs.Refusals.{IsRefusedFor}
use Rattle.vlt_parser_exprs.specs.declared.error.ParseError.{ParseError}
use Rattle.vlt_parser_exprs.specs.declared.error.ParseError.TheVariants as parse
use Rattle.vlt_syntax_laws.proofs.Decided.{read_or_refused}
use Rattle.vlt_syntax_laws.proofs.OneRefusal.{one_refusal, tree_not_refused}
use Rattle.vlt_syntax_laws.proofs.OneTree.{one_placed_tree}
use Rattle.vaultc_runs.specs.Texts.{AreTokens, IsTextOf, Refusal, unlexed, unparsed, AreRefused, AreReadInOneWay}
use Rattle.vaultc_runs.specs.Shown.{refusal_of}
use Rattle.vaultc_runs.specs.declared.text_error.TextError.TheVariants as error
use Rattle.vlt_fit_laws.specs.Fit.{IsTextTree}
use Rattle.vlt_fit_laws.specs.Texts.{TextsHaveTextTrees}
use Rattle.vaultc_runs.proofs.Lexed.{Lexed, lexed}

lists_alike : (bytes : List ℕ) (ls ms : List Lexeme) → AreTokens bytes ls → AreTokens bytes ms → ls ≡ ms
lists_alike bytes ls ms are also = one_list bytes ls ms are.tokens also.tokens

-- bytes whose tokens the parser refuses are refused
pub refused_tokens : (bytes : List ℕ) (ls : List Lexeme) (e : ParseError) → IsTokensOf bytes ls → length ls ≤ limit_of TOKENS → IsRefusedFor ls e → IfSome (refusal_of (error.Parse e)) (AreRefused bytes)
refused_tokens bytes ls (parse.Unexpected at) tokens few is = (ls, record { tokens = tokens; few = few }, is)
refused_tokens bytes ls parse.EndOfText tokens few is = (ls, record { tokens = tokens; few = few }, is)
refused_tokens bytes ls (parse.Limit n) tokens few is = (ls, record { tokens = tokens; few = few }, is)
refused_tokens bytes ls parse.Memory tokens few is = tt

-- bytes are a text of at most one tree
pub one_text : (bytes : List ℕ) (t u : Tree) → IsTextOf t bytes → IsTextOf u bytes → t ≡ u
one_text bytes t u p q = one_placed_tree q.0 t u (subst (λ ls. IsPlacedTreeOf ls t) (lists_alike bytes p.0 q.0 p.1 q.1) p.2) q.2

-- a tree that bytes are the text of
pub text_tree : TextsHaveTextTrees → (bytes : List ℕ) (t : Tree) → IsTextOf t bytes → IsTextTree t
text_tree trees bytes t x = trees bytes x.0 t x.1.tokens (x.2.0, x.2.1)

-- bytes are refused in one way
pub refusals_alike : (bytes : List ℕ) (d e : Refusal) → AreRefused bytes d → AreRefused bytes e → d ≡ e
refusals_alike bytes (unlexed d) (unlexed e) p q = ap (λ x. unlexed x) (one_lexer_refusal bytes d e (cause bytes d p) (cause bytes e q))
refusals_alike bytes (unlexed d) (unparsed g) p q = absurd (read_not_refused bytes q.0 d q.1.tokens q.1.few (cause bytes d p))
refusals_alike bytes (unparsed f) (unlexed e) p q = absurd (read_not_refused bytes p.0 e p.1.tokens p.1.few (cause bytes e q))
refusals_alike bytes (unparsed f) (unparsed g) p q =
    ap (λ x. unparsed x) (one_refusal q.0 f g (subst (λ ls. grammar.IsRefusal ls f) (lists_alike bytes p.0 q.0 p.1 q.1) p.2) q.2)

-- the text of a tree isn't refused
pub text_not_refused : (bytes : List ℕ) (t : Tree) (e : Refusal) → IsTextOf t bytes → AreRefused bytes e → ⊥
text_not_refused bytes t (unlexed e) p q = read_not_refused bytes p.0 e p.1.tokens p.1.few (cause bytes e q)
text_not_refused bytes t (unparsed f) p q =
    let placed : IsPlacedTreeOf q.0 t = subst (λ ls. IsPlacedTreeOf ls t) (lists_alike bytes p.0 q.0 p.1 q.1) p.2 in
    tree_not_refused q.0 t f placed.0 placed.1 q.2

abbrev Judged : List ℕ → Type 0
Judged bytes = ((t : Tree) × IsTextOf t bytes) ⊎ ((e : Refusal) × AreRefused bytes e)

parsed : (bytes : List ℕ) (ls : List Lexeme) → AreTokens bytes ls → ((t : Tree) × IsPlacedTreeOf ls t) ⊎ ((f : grammar.Refusal) × grammar.IsRefusal ls f) → Judged bytes
parsed bytes ls are (inl (t, is)) = inl (t, (ls, are, is))
parsed bytes ls are (inr (f, is)) = inr (unparsed f, (ls, are, is))

of_lexed : (bytes : List ℕ) → Lexed bytes → Judged bytes
of_lexed bytes (inl (ls, tokens, few)) = parsed bytes ls (record { tokens = tokens; few = few }) (read_or_refused ls)
of_lexed bytes (inr (e, is)) = inr (unlexed e, is)

pub read_in_one_way : (bytes : List ℕ) → AreReadInOneWay bytes
read_in_one_way bytes = record {
  either = of_lexed bytes (lexed bytes);
  one_tree = one_text bytes;
  one_refusal = refusals_alike bytes;
  never_both = text_not_refused bytes;
}
