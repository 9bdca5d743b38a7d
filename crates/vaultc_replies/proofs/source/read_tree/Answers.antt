use Rattle.std.proofs.Common.{◌≡◌, ◌≤◌, length, Err, subst, rules, arith}
use Rattle.std.proofs.lemmas.Grind.{common_steps}
use Rattle.vlt_base.specs.Limits.{limit_of}
use Rattle.vlt_base.specs.declared.limits.TheConstants.{TOKENS}
use Rattle.vlt_tokens.specs.Lexemes.{lexemes}
use Rattle.vlt_lexer.specs.Text.{IsTokensOf}
use Rattle.vlt_syntax.specs.Grammar.{IsPlacedTreeOf}
use Rattle.vlt_syntax.specs.View.{tree_of}
use Rattle.vlt_parser.specs.Refusals.{IsRefusedFor}
use Rattle.vaultc_runs.specs.declared.text_error.TextError.TheVariants.{Parse}
use Rattle.vaultc_replies.proofs.Read.{refused_tokens}
use Rattle.vaultc_replies.proofs.source.read_tree.Goals as goal

pub returns-in_err-tree-clause-refused : goal.returns-in_err-tree-clause-refused
returns-in_err-tree-clause-refused c =
    let bytes = c.args.bytes.now in
    let ls = lexemes c.in_ok-tokens.tokens.items in
    let e = c.in_err-tree.field-0.0 in
    let is : c.from_residual-in_err-tree.result ≡ Err (Parse e) = first_of (search rules, grind (arith, common_steps)) in
    let tokens : IsTokensOf bytes ls = c.in_ok-tokens.ensures.tokens in
    let few : length ls ≤ limit_of TOKENS = c.in_ok-tokens.ensures.few in
    let refused : IsRefusedFor ls e = subst (λ ts. IsRefusedFor (lexemes ts) e) c.as_slice.ensures.value c.in_err-tree.ensures.refused in
    rw is (refused_tokens bytes ls e tokens few refused)

pub returns-clause-tree : goal.returns-clause-tree
returns-clause-tree c =
    let ls = lexemes c.in_ok-tokens.tokens.items in
    let t = tree_of c.in_ok-tree.tree in
    let placed : IsPlacedTreeOf ls t = subst (λ ts. IsPlacedTreeOf (lexemes ts) t) c.as_slice.ensures.value c.in_ok-tree.ensures.ok in
    c.texts_have_text_trees.ensures c.args.bytes.now ls t c.in_ok-tokens.ensures.tokens (placed.0, placed.1)
