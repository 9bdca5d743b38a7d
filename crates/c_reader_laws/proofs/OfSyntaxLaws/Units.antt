-- Whole texts are read back from their tokens, so each has one tree.
use Rattle.std.proofs.Common.{◌≡◌, ◌≤◌, ◌<◌, ℕ, zero, suc, ◌+◌, pos, Bool, true, false, if◌then◌else◌, List, [], ◌∷◌, length, drop, Option, Some, None, refl, sym, ap, ap₂, ◌∙◌, arith}
use Rattle.std.proofs.lemmas.Option.{same_Some}
use Rattle.c_syntax.specs.declared.program.CResult.{CResult}
use Rattle.c_syntax.specs.declared.program.CResult.TheVariants as result
use Rattle.c_syntax.specs.declared.program.CVar.{CVar}
use Rattle.c_syntax.specs.declared.program.CName.{CName}
use Rattle.c_syntax.specs.declared.token.CWord.TheVariants as w
use Rattle.c_syntax.specs.declared.token.CSign.TheVariants as s
use Rattle.c_syntax.specs.Unit.{Declaration, Head, Body, TranslationUnit}
use Rattle.c_syntax.specs.Tokens as t
use Rattle.c_syntax.specs.Tokens.{Token}
use Rattle.c_syntax.specs.Grammar.{AreBodies, language}
use Rattle.c_syntax.specs.Spelling.{type_then, declaration_then, result_then, more_params_then, params_then, head_then, heads_then, vars_then, stmts_then, bodies_then, spelling}
use Rattle.c_syntax.specs.Text.{before_mark}
use Rattle.c_syntax.specs.Reading.{tokens_in}
use Rattle.c_reader_laws.specs.SyntaxLaws.Laws.{OneUnitIsRead}
use Rattle.c_reader_laws.proofs.OfSyntaxLaws.Lexemes.{one_list}
use Rattle.c_reader_laws.proofs.OfSyntaxLaws.Exprs.{Part, bind}
use Rattle.c_reader_laws.proofs.OfSyntaxLaws.Stmts.{size, close, begins_semicolon, begins_type, read_stmts, stmts_read, others_no_type}

-- ---- declarations

abbrev read_type : List Token → Part Bool
read_type (t.word w.Ref ∷ ts) = Some (true, ts)
read_type (t.word w.Long ∷ _ ∷ ts) = Some (false, ts)
read_type _ = None

abbrev variable_at : List Token → CVar
variable_at (t.variable v ∷ ts) = v
variable_at _ = record { reference = false; number = 0 }

abbrev name_at : List Token → CName
name_at (t.name f ∷ ts) = f
name_at _ = record { glue = false; number = 0 }

abbrev read_declaration : List Token → Part Declaration
read_declaration ts = bind (read_type ts) (λ p. Some (record { reference = p.0; variable = variable_at p.1 }, drop 1 p.1))

abbrev result_of : Bool → CResult
result_of true = result.Reference
result_of false = result.Number

abbrev read_result : List Token → Part CResult
read_result (t.word w.Void ∷ ts) = Some (result.Nothing, ts)
read_result ts = bind (read_type ts) (λ p. Some (result_of p.0, p.1))

type_read : (b : Bool) (ts : List Token) → read_type (type_then b ts) ≡ Some (b, ts)
type_read true ts = refl
type_read false ts = refl

declaration_read : (d : Declaration) (ts : List Token) → read_declaration (declaration_then d ts) ≡ Some (d, ts)
declaration_read d ts = ap (λ o. bind o (λ p. Some (record { reference = p.0; variable = variable_at p.1 }, drop 1 p.1))) (type_read d.reference (t.variable d.variable ∷ ts))

result_read : (r : CResult) (ts : List Token) → read_result (result_then r ts) ≡ Some (r, ts)
result_read result.Nothing ts = refl
result_read result.Number ts = refl
result_read result.Reference ts = refl

-- ---- heads

abbrev begins_close_paren : List Token → Bool
begins_close_paren (t.sign s.CloseParen ∷ ts) = true
begins_close_paren _ = false

abbrev begins_void : List Token → Bool
begins_void (t.word w.Void ∷ ts) = true
begins_void _ = false

abbrev read_more_params : ℕ → List Token → Part (List Declaration)
read_more_params zero ts = None
read_more_params (suc n) ts =
    if begins_close_paren ts then Some ([], drop 1 ts)
    else bind (read_declaration (drop 1 ts)) (λ p. bind (read_more_params n p.1) (λ q. Some (p.0 ∷ q.0, q.1)))

abbrev read_params : ℕ → List Token → Part (List Declaration)
read_params n ts =
    if begins_void ts then Some ([], drop 2 ts)
    else bind (read_declaration ts) (λ p. bind (read_more_params n p.1) (λ q. Some (p.0 ∷ q.0, q.1)))

abbrev read_head : ℕ → List Token → Part Head
read_head n ts =
    bind (read_result ts) (λ p. bind (read_params n (drop 2 p.1)) (λ q. Some (record { result = p.0; name = name_at p.1; params = q.0 }, q.1)))

no_void : (b : Bool) (ts : List Token) → begins_void (type_then b ts) ≡ false
no_void true ts = refl
no_void false ts = refl

some_type : (b : Bool) (ts : List Token) → begins_type (type_then b ts) ≡ true
some_type true ts = refl
some_type false ts = refl

more_params_read : (n : ℕ) (ds : List Declaration) (ts : List Token) → length ds < n → read_more_params n (more_params_then ds ts) ≡ Some (ds, ts)
more_params_read zero ds ts few = absurd (omega (arith, few))
more_params_read (suc n) [] ts few = refl
more_params_read (suc n) (d ∷ ds) ts few =
    ap (λ o. bind o (λ p. bind (read_more_params n p.1) (λ q. Some (p.0 ∷ q.0, q.1)))) (declaration_read d (more_params_then ds ts))
    ∙ ap (λ o. bind o (λ q. Some (d ∷ q.0, q.1))) (more_params_read n ds ts (omega (arith, few)))

params_read : (n : ℕ) (ds : List Declaration) (ts : List Token) → length ds < n → read_params n (params_then ds ts) ≡ Some (ds, ts)
params_read n [] ts few = refl
params_read n (d ∷ ds) ts few =
    let all : List Token = declaration_then d (more_params_then ds ts) in
    ap (λ b. if b then Some ([], drop 2 all) else bind (read_declaration all) (λ p. bind (read_more_params n p.1) (λ q. Some (p.0 ∷ q.0, q.1))))
    (no_void d.reference (t.variable d.variable ∷ more_params_then ds ts))
    ∙ ap (λ o. bind o (λ p. bind (read_more_params n p.1) (λ q. Some (p.0 ∷ q.0, q.1)))) (declaration_read d (more_params_then ds ts))
    ∙ ap (λ o. bind o (λ q. Some (d ∷ q.0, q.1))) (more_params_read n ds ts (omega (arith, few)))

head_read : (n : ℕ) (h : Head) (ts : List Token) → length h.params < n → read_head n (head_then h ts) ≡ Some (h, ts)
head_read n h ts few =
    ap (λ o. bind o (λ p. bind (read_params n (drop 2 p.1)) (λ q. Some (record { result = p.0; name = name_at p.1; params = q.0 }, q.1))))
    (result_read h.result (t.name h.name ∷ t.sign s.OpenParen ∷ params_then h.params ts))
    ∙ ap (λ o. bind o (λ q. Some (record { result = h.result; name = h.name; params = q.0 }, q.1))) (params_read n h.params ts few)

-- ---- functions with their bodies

abbrev expressions : ℕ
expressions = language.expressions

abbrev read_vars : ℕ → List Token → Part (List Declaration)
read_vars zero ts = None
read_vars (suc n) ts =
    if begins_type ts then bind (read_declaration ts) (λ p. bind (read_vars n (drop 1 p.1)) (λ q. Some (p.0 ∷ q.0, q.1))) else Some ([], ts)

abbrev read_body : ℕ → Head → List Token → Part Body
read_body n h ts = bind (read_vars n ts) (λ p. bind (read_stmts expressions n p.1) (λ q. Some (record { head = h; vars = p.0; stmts = q.0 }, drop 1 q.1)))

vars_read : (n : ℕ) (vs : List Declaration) (ts : List Token) → length vs < n → begins_type ts ≡ false → read_vars n (vars_then vs ts) ≡ Some (vs, ts)
vars_read zero vs ts few after = absurd (omega (arith, few))
vars_read (suc n) [] ts few after =
    ap (λ b. if b then bind (read_declaration ts) (λ p. bind (read_vars n (drop 1 p.1)) (λ q. Some (p.0 ∷ q.0, q.1))) else Some ([], ts)) after
vars_read (suc n) (d ∷ ds) ts few after =
    let rest : List Token = t.sign s.Semicolon ∷ vars_then ds ts in
    let all : List Token = declaration_then d rest in
    ap (λ b. if b then bind (read_declaration all) (λ p. bind (read_vars n (drop 1 p.1)) (λ q. Some (p.0 ∷ q.0, q.1))) else Some ([], all)) (some_type d.reference (t.variable d.variable ∷ rest))
    ∙ ap (λ o. bind o (λ p. bind (read_vars n (drop 1 p.1)) (λ q. Some (p.0 ∷ q.0, q.1)))) (declaration_read d rest)
    ∙ ap (λ o. bind o (λ q. Some (d ∷ q.0, q.1))) (vars_read n ds ts (omega (arith, few)) after)

-- so much fuel suffices for a head, and for a function
abbrev head_need : Head → ℕ
head_need h = suc (length h.params)

abbrev body_need : Body → ℕ
body_need b = head_need b.head + suc (length b.vars) + size b.stmts

body_read : (n : ℕ) (b : Body) (ts : List Token) → body_need b ≤ n → AreBodies language (b ∷ [])
    → read_body n b.head (vars_then b.vars (stmts_then b.stmts (close ∷ ts))) ≡ Some (b, ts)
body_read n b ts enough are =
    ap (λ o. bind o (λ p. bind (read_stmts expressions n p.1) (λ q. Some (record { head = b.head; vars = p.0; stmts = q.0 }, drop 1 q.1))))
    (vars_read n b.vars (stmts_then b.stmts (close ∷ ts)) (omega (arith, enough)) (others_no_type expressions b.stmts ts))
    ∙ ap (λ o. bind o (λ q. Some (record { head = b.head; vars = b.vars; stmts = q.0 }, drop 1 q.1)))
    (stmts_read expressions n b.stmts ts (omega (arith, enough)) are.0.expressions are.0.written)

-- ---- all functions

abbrev is_empty : List Token → Bool
is_empty [] = true
is_empty _ = false

abbrev Functions : Type 0
Functions = List Head × List Body

abbrev read_functions : (k n : ℕ) → List Token → Option Functions
read_functions zero n ts = None
read_functions (suc k) n ts =
    if is_empty ts then Some ([], [])
    else bind (read_head n ts) (λ p.
    if begins_semicolon p.1 then bind (read_functions k n (drop 1 p.1)) (λ q. Some (p.0 ∷ q.0, q.1))
    else bind (read_body n p.0 (drop 1 p.1)) (λ q. bind (read_functions k n q.1) (λ r. Some (r.0, q.0 ∷ r.1))))

some_head : (h : Head) (ts : List Token) → is_empty (head_then h ts) ≡ false
some_head h ts = by h.result (t.name h.name ∷ t.sign s.OpenParen ∷ params_then h.params ts)
  where
    by : (r : CResult) (us : List Token) → is_empty (result_then r us) ≡ false
    by result.Nothing us = refl
    by result.Number us = refl
    by result.Reference us = refl

abbrev bodies_need : List Body → ℕ
bodies_need [] = 0
bodies_need (b ∷ bs) = body_need b + bodies_need bs

abbrev heads_need : List Head → ℕ
heads_need [] = 0
heads_need (h ∷ hs) = head_need h + heads_need hs

-- what reading does after a head
abbrev after_head : (k n : ℕ) → Head × List Token → Option Functions
after_head k n p =
    if begins_semicolon p.1 then bind (read_functions k n (drop 1 p.1)) (λ q. Some (p.0 ∷ q.0, q.1))
    else bind (read_body n p.0 (drop 1 p.1)) (λ q. bind (read_functions k n q.1) (λ r. Some (r.0, q.0 ∷ r.1)))

begun : (k n : ℕ) (h : Head) (ts : List Token) → head_need h ≤ n → read_functions (suc k) n (head_then h ts) ≡ after_head k n (h, ts)
begun k n h ts enough =
    ap (λ b. if b then Some ([], []) else bind (read_head n (head_then h ts)) (after_head k n)) (some_head h ts)
    ∙ ap (λ o. bind o (after_head k n)) (head_read n h ts (omega (arith, enough)))

bodies_read : (k n : ℕ) (bs : List Body) → length bs < k → bodies_need bs ≤ n → AreBodies language bs → read_functions k n (bodies_then bs []) ≡ Some ([], bs)
bodies_read zero n bs few enough are = absurd (omega (arith, few))
bodies_read (suc k) n [] few enough are = refl
bodies_read (suc k) n (b ∷ bs) few enough are =
    let rest : List Token = bodies_then bs [] in
    begun k n b.head (t.sign s.OpenBrace ∷ vars_then b.vars (stmts_then b.stmts (close ∷ rest))) (omega (arith, enough))
    ∙ ap (λ o. bind o (λ q. bind (read_functions k n q.1) (λ r. Some (r.0, q.0 ∷ r.1)))) (body_read n b rest (omega (arith, enough)) (are.0, tt))
    ∙ ap (λ o. bind o (λ r. Some (r.0, b ∷ r.1))) (bodies_read k n bs (omega (arith, few)) (omega (arith, enough)) are.1)

functions_read : (k n : ℕ) (hs : List Head) (bs : List Body) → length hs + length bs < k → heads_need hs + bodies_need bs ≤ n → AreBodies language bs
    → read_functions k n (heads_then hs (bodies_then bs [])) ≡ Some (hs, bs)
functions_read k n [] bs few enough are = bodies_read k n bs (omega (arith, few)) (omega (arith, enough)) are
functions_read zero n (h ∷ hs) bs few enough are = absurd (omega (arith, few))
functions_read (suc k) n (h ∷ hs) bs few enough are =
    let rest : List Token = heads_then hs (bodies_then bs []) in
    begun k n h (t.sign s.Semicolon ∷ rest) (omega (arith, enough))
    ∙ ap (λ o. bind o (λ q. Some (h ∷ q.0, q.1))) (functions_read k n hs bs (omega (arith, few)) (omega (arith, enough)) are)

-- ---- the whole

abbrev main_at : List Token → ℕ
main_at (_ ∷ _ ∷ _ ∷ t.number (pos n) ∷ ts) = n
main_at _ = 0

spelled_once : (u v : TranslationUnit) → AreBodies language u.bodies → AreBodies language v.bodies → spelling u ≡ spelling v → u ≡ v
spelled_once u v p q e =
    let k : ℕ = suc (length u.heads + length u.bodies + length v.heads + length v.bodies) in
    let n : ℕ = heads_need u.heads + bodies_need u.bodies + heads_need v.heads + bodies_need v.bodies in
    let main : u.main ≡ v.main = ap main_at e in
    let both : Some (u.heads, u.bodies) ≡ Some (v.heads, v.bodies) =
    sym (functions_read k n u.heads u.bodies (omega arith) (omega arith) p) ∙ ap (λ ts. read_functions k n (drop 5 ts)) e ∙ functions_read k n v.heads v.bodies (omega arith) (omega arith) q in
    let pair = same_Some (u.heads, u.bodies) (v.heads, v.bodies) both in
    ap₂ (λ m fs. record { main = m; heads = fs.0; bodies = fs.1 }) main pair

pub one_unit : OneUnitIsRead
one_unit bytes ls ms u v p q =
    let lexemes : ls ≡ ms = one_list (before_mark bytes) ls ms p.tokens q.tokens in
    (lexemes, spelled_once u v p.within q.within (sym p.spelled ∙ ap tokens_in lexemes ∙ q.spelled))
