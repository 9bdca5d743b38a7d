use Rattle.std.proofs.Common.{◌≡◌, Err, [], ◌∷◌, ap, ◌∙◌, rules, arith}
use Rattle.std.proofs.lemmas.Grind.{common_steps}
use Rattle.vlt_tokens.specs.Lexemes.{lexemes}
use Rattle.vlt_automaton.specs.Language as m
use Rattle.vlt_parser.specs.Declarations.{decls_left}
use Rattle.vlt_syntax.specs.Tree.{Tree}
use Rattle.vlt_parser.proofs.Places.{tokens_seen, places_seen, refused_for}
use Rattle.vlt_parser.proofs.parse.Goals as goal

pub returns-clause-ok : goal.returns-clause-ok
returns-clause-ok c = (
  (c.in_ok-decls.ensures.right, c.in_ok-decls.ensures.few),
  tokens_seen c.args.tokens.now ∙ c.in_ok-decls.ensures.spelled,
  ap (λ r. let t : Tree = record { decls = r.0 } in t) c.in_ok-decls.ensures.placed,
)

pub returns-in_err-decls-clause-refused : goal.returns-in_err-decls-clause-refused
returns-in_err-decls-clause-refused c =
    let is : c.from_residual.result ≡ Err c.in_err-decls.field-0.0 = first_of (search rules, grind (arith, common_steps)) in
    rw is (refused_for (lexemes c.args.tokens.now) c.in_err-decls.field-0.0
    (λ f told. ap (m.run (m.decls (decls_left 0) ∷ [])) (places_seen c.args.tokens.now) ∙ c.in_err-decls.ensures.takes f told))
