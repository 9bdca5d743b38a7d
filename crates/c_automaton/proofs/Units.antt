-- The automaton takes functions, and whole texts.
use Rattle.std.proofs.Common.{◌≡◌, ◌-◌, Bool, true, false, List, [], ◌∷◌, Some, None, refl, ◌∙◌, arith}
use Rattle.c_syntax.specs.declared.program.CVar.{CVar}
use Rattle.c_syntax.specs.declared.program.CName.{CName}
use Rattle.c_syntax.specs.declared.program.CCell.TheVariants as cell
use Rattle.c_syntax.specs.declared.program.CResult.{CResult}
use Rattle.c_syntax.specs.declared.program.CResult.TheVariants as result
use Rattle.c_syntax.specs.declared.token.CSign.TheVariants as s
use Rattle.c_syntax.specs.Unit.{Declaration, Head, Body, TranslationUnit}
use Rattle.c_syntax.specs.Tokens as t
use Rattle.c_syntax.specs.Tokens.{Token}
use Rattle.c_syntax.specs.C as c
use Rattle.c_syntax.specs.C.{Stmts}
use Rattle.c_syntax.specs.Grammar.{Bounds, AreStmts, AreBodies, IsUnit}
use Rattle.c_syntax.specs.Spelling.{type_then, result_then, more_params_then, params_then, heads_then, vars_then, stmts_then, bodies_then, spelling}
use Rattle.c_automaton.specs.Automaton.{Symbol, sign, functions, bodies, after_head, params, more_params, body, stmts, to, may_end, start}
use Rattle.c_automaton.proofs.After.{after}
use Rattle.c_automaton.proofs.Stmts.{take_stmts}

-- ---- parameters and variables

more_params_begin : (b : Bounds) (r : Bool) (v : CVar) (ys : List Symbol) (rest : List Token) → after b (t.sign s.Comma ∷ type_then r (t.variable v ∷ rest)) (more_params ∷ ys) ≡ after b rest (more_params ∷ ys)
more_params_begin b true v ys rest = refl
more_params_begin b false v ys rest = refl

take_more_params : (b : Bounds) (ds : List Declaration) (ys : List Symbol) (rest : List Token) → after b (more_params_then ds rest) (more_params ∷ ys) ≡ after b rest ys
take_more_params b [] ys rest = refl
take_more_params b (d ∷ ds) ys rest = more_params_begin b d.reference d.variable ys (more_params_then ds rest) ∙ take_more_params b ds ys rest

params_begin : (b : Bounds) (r : Bool) (v : CVar) (ys : List Symbol) (rest : List Token) → after b (type_then r (t.variable v ∷ rest)) (params ∷ ys) ≡ after b rest (more_params ∷ ys)
params_begin b true v ys rest = refl
params_begin b false v ys rest = refl

take_params : (b : Bounds) (ds : List Declaration) (ys : List Symbol) (rest : List Token) → after b (params_then ds rest) (params ∷ ys) ≡ after b rest ys
take_params b [] ys rest = refl
take_params b (d ∷ ds) ys rest = params_begin b d.reference d.variable ys (more_params_then ds rest) ∙ take_more_params b ds ys rest

var_taken : (b : Bounds) (r : Bool) (v : CVar) (ys : List Symbol) (rest : List Token) → after b (type_then r (t.variable v ∷ t.sign s.Semicolon ∷ rest)) (body ∷ ys) ≡ after b rest (body ∷ ys)
var_taken b true v ys rest = refl
var_taken b false v ys rest = refl

take_vars : (b : Bounds) (ds : List Declaration) (ys : List Symbol) (rest : List Token) → after b (vars_then ds rest) (body ∷ ys) ≡ after b rest (body ∷ ys)
take_vars b [] ys rest = refl
take_vars b (d ∷ ds) ys rest = var_taken b d.reference d.variable ys (vars_then ds rest) ∙ take_vars b ds ys rest

-- ---- heads

head_of_functions : (b : Bounds) (r : CResult) (f : CName) (ys : List Symbol) (rest : List Token) → after b (result_then r (t.name f ∷ t.sign s.OpenParen ∷ rest)) (functions ∷ ys) ≡ after b rest (params ∷ after_head ∷ ys)
head_of_functions b result.Nothing f ys rest = refl
head_of_functions b result.Number f ys rest = refl
head_of_functions b result.Reference f ys rest = refl

head_of_bodies : (b : Bounds) (r : CResult) (f : CName) (ys : List Symbol) (rest : List Token) → after b (result_then r (t.name f ∷ t.sign s.OpenParen ∷ rest)) (bodies ∷ ys) ≡ after b rest (params ∷ sign s.OpenBrace ∷ body ∷ bodies ∷ ys)
head_of_bodies b result.Nothing f ys rest = refl
head_of_bodies b result.Number f ys rest = refl
head_of_bodies b result.Reference f ys rest = refl

take_heads : (b : Bounds) (hs : List Head) (ys : List Symbol) (rest : List Token) → after b (heads_then hs rest) (functions ∷ ys) ≡ after b rest (functions ∷ ys)
take_heads b [] ys rest = refl
take_heads b (h ∷ hs) ys rest =
    head_of_functions b h.result h.name ys (params_then h.params (t.sign s.Semicolon ∷ heads_then hs rest))
    ∙ take_params b h.params (after_head ∷ ys) (t.sign s.Semicolon ∷ heads_then hs rest)
    ∙ take_heads b hs ys rest

-- ---- bodies

-- statements begin a body
body_stmts : (b : Bounds) (xs : Stmts) (ys : List Symbol) (rest : List Token) → after b (stmts_then xs (t.sign s.CloseBrace ∷ rest)) (body ∷ ys) ≡ after b (stmts_then xs (t.sign s.CloseBrace ∷ rest)) (stmts false ∷ ys)
body_stmts b c.done ys rest = refl
body_stmts b (c.next (c.set v e) xs) ys rest = refl
body_stmts b (c.next (c.set_call v f) xs) ys rest = refl
body_stmts b (c.next (c.call (c.function f zs)) xs) ys rest = refl
body_stmts b (c.next (c.call (c.primitive p zs)) xs) ys rest = refl
body_stmts b (c.next (c.put (cell.Number p k) e) xs) ys rest = refl
body_stmts b (c.next (c.put (cell.Reference p k) e) xs) ys rest = refl
body_stmts b (c.next (c.when e zs) xs) ys rest = refl
body_stmts b (c.next (c.choose e zs us) xs) ys rest = refl
body_stmts b (c.next (c.loop zs) xs) ys rest = refl
body_stmts b (c.next c.break xs) ys rest = refl
body_stmts b (c.next c.continue xs) ys rest = refl
body_stmts b (c.next (c.return None) xs) ys rest = refl
body_stmts b (c.next (c.return (Some e)) xs) ys rest = refl

take_body : (b : Bounds) (x : Body) (rest : List Token) → AreStmts b.expressions (b.blocks - 1) x.stmts → after b (vars_then x.vars (stmts_then x.stmts (t.sign s.CloseBrace ∷ rest))) (body ∷ bodies ∷ []) ≡ after b rest (bodies ∷ [])
take_body b x rest is =
    let wide = is.blocks in
    take_vars b x.vars (bodies ∷ []) (stmts_then x.stmts (t.sign s.CloseBrace ∷ rest))
    ∙ body_stmts b x.stmts (bodies ∷ []) rest
    ∙ take_stmts b x.stmts false (bodies ∷ []) rest is.written is.expressions (omega (arith, wide))

take_bodies : (b : Bounds) (xs : List Body) (rest : List Token) → AreBodies b xs → after b (bodies_then xs rest) (bodies ∷ []) ≡ after b rest (bodies ∷ [])
take_bodies b [] rest are = refl
take_bodies b (x ∷ xs) rest are =
    let block : List Token = vars_then x.vars (stmts_then x.stmts (t.sign s.CloseBrace ∷ bodies_then xs rest)) in
    head_of_bodies b x.head.result x.head.name [] (params_then x.head.params (t.sign s.OpenBrace ∷ block))
    ∙ take_params b x.head.params (sign s.OpenBrace ∷ body ∷ bodies ∷ []) (t.sign s.OpenBrace ∷ block)
    ∙ take_body b x (bodies_then xs rest) are.0
    ∙ take_bodies b xs rest are.1

-- ---- texts

-- all is taken, and the text may end there
pub record IsTaken (b : Bounds) (ts : List Token) : Type 0 where
  pub last : List Symbol
  pub taken : after b ts start ≡ to last
  pub ends : may_end last ≡ true

functions_taken : (b : Bounds) (hs : List Head) (xs : List Body) → AreBodies b xs → (ys : List Symbol) × (after b (heads_then hs (bodies_then xs [])) (functions ∷ []) ≡ to ys) × (may_end ys ≡ true)
functions_taken b hs [] are = (functions ∷ [], take_heads b hs [] [], refl)
functions_taken b hs (x ∷ xs) are =
    let block : List Token = vars_then x.vars (stmts_then x.stmts (t.sign s.CloseBrace ∷ bodies_then xs [])) in (
      bodies ∷ [],
      take_heads b hs [] (bodies_then (x ∷ xs) [])
          ∙ head_of_functions b x.head.result x.head.name [] (params_then x.head.params (t.sign s.OpenBrace ∷ block))
          ∙ take_params b x.head.params (after_head ∷ []) (t.sign s.OpenBrace ∷ block)
          ∙ take_body b x (bodies_then xs []) are.0
          ∙ take_bodies b xs [] are.1,
      refl,
    )

pub unit_taken : (b : Bounds) (u : TranslationUnit) → IsUnit b u → IsTaken b (spelling u)
unit_taken b u is = let all = functions_taken b u.heads u.bodies is in record { last = all.0; taken = all.1; ends = all.2 }
