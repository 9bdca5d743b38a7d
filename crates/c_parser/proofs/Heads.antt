-- Parameters, heads and functions one by one.
use Rattle.std.proofs.Common.{◌≡◌, List, [], ◌∷◌, ◌++◌, map, refl, sym, ap, ◌∙◌}
use Rattle.std.proofs.lemmas.List.{map-append}
use Rattle.c_syntax.specs.declared.token.CSign.TheVariants as s
use Rattle.c_syntax.specs.Tokens as t
use Rattle.c_syntax.specs.Tokens.{Token}
use Rattle.c_syntax.specs.Unit.{Declaration, Head, Body}
use Rattle.c_syntax.specs.Spelling.{declaration_then, params_then, more_params_then, vars_then, head_then, heads_then, body_then, bodies_then}
use Rattle.c_syntax.specs.Grammar.{AreStmts, AreBodies, language}
use Rattle.c_parser.specs.declared.unit.Declaration.{Declaration as CodeDeclaration}
use Rattle.c_parser.specs.declared.unit.Head.{Head as CodeHead}
use Rattle.c_parser.specs.declared.unit.Body.{Body as CodeBody}
use Rattle.c_parser.specs.View.{declaration_of, head_of, body_of}

-- parameters with a comma before each
abbrev pub more_begun : List Declaration → List Token → List Token
more_begun [] rest = rest
more_begun (d ∷ ds) rest = t.sign s.Comma ∷ declaration_then d (more_begun ds rest)

more_closed : (ds : List Declaration) (rest : List Token) → more_begun ds (t.sign s.CloseParen ∷ rest) ≡ more_params_then ds rest
more_closed [] rest = refl
more_closed (d ∷ ds) rest = ap (λ r. t.sign s.Comma ∷ declaration_then d r) (more_closed ds rest)

more_one : (ds : List Declaration) (e : Declaration) (rest : List Token) → more_begun (ds ++ e ∷ []) rest ≡ more_begun ds (t.sign s.Comma ∷ declaration_then e rest)
more_one [] e rest = refl
more_one (d ∷ ds) e rest = ap (λ r. t.sign s.Comma ∷ declaration_then d r) (more_one ds e rest)

pub params_read : (first : CodeDeclaration) (ds all : List CodeDeclaration) (start here rest : List Token) → all ≡ first ∷ ds → start ≡ more_begun (map declaration_of ds) here → here ≡ t.sign s.CloseParen ∷ rest
    → declaration_then (declaration_of first) start ≡ params_then (map declaration_of all) rest
params_read first ds all start here rest are before end =
    ap (declaration_then (declaration_of first)) (before ∙ ap (more_begun (map declaration_of ds)) end ∙ more_closed (map declaration_of ds) rest) ∙ ap (λ es. params_then (map declaration_of es) rest) (sym are)

pub param_read : (ds : List CodeDeclaration) (e : CodeDeclaration) (start here following rest : List Token) → start ≡ more_begun (map declaration_of ds) here → here ≡ t.sign s.Comma ∷ following → following ≡ declaration_then (declaration_of e) rest
    → start ≡ more_begun (map declaration_of (ds ++ e ∷ [])) rest
param_read ds e start here following rest before comma param =
    before ∙ ap (more_begun (map declaration_of ds)) (comma ∙ ap (λ r. t.sign s.Comma ∷ r) param) ∙ sym (more_one (map declaration_of ds) (declaration_of e) rest)
    ∙ ap (λ es. more_begun es rest) (sym (map-append declaration_of ds (e ∷ [])))

vars_one : (ds : List Declaration) (e : Declaration) (rest : List Token) → vars_then (ds ++ e ∷ []) rest ≡ vars_then ds (declaration_then e (t.sign s.Semicolon ∷ rest))
vars_one [] e rest = refl
vars_one (d ∷ ds) e rest = ap (λ r. declaration_then d (t.sign s.Semicolon ∷ r)) (vars_one ds e rest)

pub var_read : (ds all : List CodeDeclaration) (e : CodeDeclaration) (start here rest : List Token) → all ≡ ds ++ e ∷ [] → start ≡ vars_then (map declaration_of ds) here → here ≡ declaration_then (declaration_of e) (t.sign s.Semicolon ∷ rest)
    → start ≡ vars_then (map declaration_of all) rest
var_read ds all e start here rest grown before var =
    before ∙ ap (vars_then (map declaration_of ds)) var ∙ sym (vars_one (map declaration_of ds) (declaration_of e) rest)
    ∙ ap (λ es. vars_then es rest) (sym (ap (map declaration_of) grown ∙ map-append declaration_of ds (e ∷ [])))

heads_one : (hs : List Head) (h : Head) (rest : List Token) → heads_then (hs ++ h ∷ []) rest ≡ heads_then hs (head_then h (t.sign s.Semicolon ∷ rest))
heads_one [] h rest = refl
heads_one (g ∷ gs) h rest = ap (λ r. head_then g (t.sign s.Semicolon ∷ r)) (heads_one gs h rest)

pub head_read : (hs all : List CodeHead) (h : CodeHead) (bs : List CodeBody) (start here following rest : List Token) → all ≡ hs ++ h ∷ [] → bs ≡ [] → start ≡ heads_then (map head_of hs) (bodies_then (map body_of bs) here)
    → here ≡ head_then (head_of h) following → following ≡ t.sign s.Semicolon ∷ rest → start ≡ heads_then (map head_of all) (bodies_then (map body_of bs) rest)
head_read hs all h bs start here following rest grown none before head end =
    before ∙ ap (λ x. heads_then (map head_of hs) (bodies_then (map body_of x) here)) none
    ∙ ap (heads_then (map head_of hs)) (head ∙ ap (head_then (head_of h)) end)
    ∙ sym (heads_one (map head_of hs) (head_of h) rest)
    ∙ ap (λ x. heads_then x rest) (sym (ap (map head_of) grown ∙ map-append head_of hs (h ∷ [])))
    ∙ ap (λ x. heads_then (map head_of all) (bodies_then (map body_of x) rest)) (sym none)

bodies_one : (bs : List Body) (b : Body) (rest : List Token) → bodies_then (bs ++ b ∷ []) rest ≡ bodies_then bs (body_then b rest)
bodies_one [] b rest = refl
bodies_one (x ∷ xs) b rest = ap (body_then x) (bodies_one xs b rest)

pub body_read : (hs : List CodeHead) (h : CodeHead) (bs all : List CodeBody) (b : CodeBody) (start here following rest : List Token) → all ≡ bs ++ b ∷ [] → start ≡ heads_then (map head_of hs) (bodies_then (map body_of bs) here)
    → here ≡ head_then (head_of h) following → head_then (head_of h) following ≡ body_then (body_of b) rest → start ≡ heads_then (map head_of hs) (bodies_then (map body_of all) rest)
body_read hs h bs all b start here following rest grown before head body =
    before ∙ ap (λ x. heads_then (map head_of hs) (bodies_then (map body_of bs) x)) (head ∙ body)
    ∙ ap (heads_then (map head_of hs)) (sym (bodies_one (map body_of bs) (body_of b) rest))
    ∙ ap (λ x. heads_then (map head_of hs) (bodies_then x rest)) (sym (ap (map body_of) grown ∙ map-append body_of bs (b ∷ [])))

joined : (bs : List Body) (b : Body) → AreBodies language bs → AreStmts language.expressions 191 b.stmts → AreBodies language (bs ++ b ∷ [])
joined [] b are is = (is, tt)
joined (x ∷ xs) b are is = (are.0, joined xs b are.1 is)

pub bodies_are : (bs all : List CodeBody) (b : CodeBody) → all ≡ bs ++ b ∷ [] → AreBodies language (map body_of bs) → AreStmts language.expressions 191 (body_of b).stmts → AreBodies language (map body_of all)
bodies_are bs all b grown are is = rw (ap (map body_of) grown ∙ map-append body_of bs (b ∷ [])) (joined (map body_of bs) (body_of b) are is)
