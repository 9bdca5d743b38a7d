-- Arguments one by one.
use Rattle.std.proofs.Common.{◌≡◌, false, List, [], ◌∷◌, ◌++◌, map, refl, sym, ap, ◌∙◌}
use Rattle.std.proofs.lemmas.List.{map-append}
use Rattle.c_syntax.specs.declared.token.CSign.TheVariants as s
use Rattle.c_syntax.specs.declared.program.CArg.{CArg}
use Rattle.c_syntax.specs.C as c
use Rattle.c_syntax.specs.C.{Arg}
use Rattle.c_syntax.specs.Tokens as t
use Rattle.c_syntax.specs.Tokens.{Token}
use Rattle.c_syntax.specs.Spelling.{arg_token, args_then, more_args_then}
use Rattle.c_syntax.specs.Grammar.{HasNoText, IsCall}
use Rattle.c_syntax.specs.declared.program.CPrim.{CPrim}
use Rattle.c_syntax.specs.declared.program.CPrim.TheVariants as prim
use Rattle.c_automaton.specs.Automaton.{is_string_taker}
use Rattle.c_syntax.specs.View.{arg_of}

-- arguments with a comma before each
abbrev pub more_begun : List Arg → List Token → List Token
more_begun [] rest = rest
more_begun (x ∷ xs) rest = t.sign s.Comma ∷ arg_token x ∷ more_begun xs rest

more_closed : (xs : List Arg) (rest : List Token) → more_begun xs (t.sign s.CloseParen ∷ rest) ≡ more_args_then xs rest
more_closed [] rest = refl
more_closed (x ∷ xs) rest = ap (λ r. t.sign s.Comma ∷ arg_token x ∷ r) (more_closed xs rest)

more_one : (xs : List Arg) (y : Arg) (rest : List Token) → more_begun (xs ++ y ∷ []) rest ≡ more_begun xs (t.sign s.Comma ∷ arg_token y ∷ rest)
more_one [] y rest = refl
more_one (x ∷ xs) y rest = ap (λ r. t.sign s.Comma ∷ arg_token x ∷ r) (more_one xs y rest)

pub all_read : (first : CArg) (xs all : List CArg) (start here rest : List Token) → all ≡ first ∷ xs → start ≡ more_begun (map arg_of xs) here → here ≡ t.sign s.CloseParen ∷ rest
    → arg_token (arg_of first) ∷ start ≡ args_then (map arg_of all) rest
all_read first xs all start here rest are before end =
    ap (λ r. arg_token (arg_of first) ∷ r) (before ∙ ap (more_begun (map arg_of xs)) end ∙ more_closed (map arg_of xs) rest) ∙ ap (λ ys. args_then (map arg_of ys) rest) (sym are)

pub one_read : (xs : List CArg) (y : CArg) (start here following rest : List Token) → start ≡ more_begun (map arg_of xs) here → here ≡ t.sign s.Comma ∷ following → following ≡ arg_token (arg_of y) ∷ rest
    → start ≡ more_begun (map arg_of (xs ++ y ∷ [])) rest
one_read xs y start here following rest before comma arg =
    before ∙ ap (more_begun (map arg_of xs)) (comma ∙ ap (λ r. t.sign s.Comma ∷ r) arg) ∙ sym (more_one (map arg_of xs) (arg_of y) rest)
    ∙ ap (λ ys. more_begun ys rest) (sym (map-append arg_of xs (y ∷ [])))

none_joined : (xs : List Arg) (y : Arg) → HasNoText xs → HasNoText (y ∷ []) → HasNoText (xs ++ y ∷ [])
none_joined [] y a b = b
none_joined (c.number z ∷ xs) y a b = none_joined xs y a b
none_joined (c.variable v ∷ xs) y a b = none_joined xs y a b
none_joined (c.null ∷ xs) y a b = none_joined xs y a b
none_joined (c.text cs ∷ xs) y a b = absurd a

pub none_more : (all before : List CArg) (y : CArg) → all ≡ before ++ y ∷ [] → HasNoText (map arg_of before) → HasNoText (arg_of y ∷ []) → HasNoText (map arg_of all)
none_more all before y grown a b = rw (ap (map arg_of) grown ∙ map-append arg_of before (y ∷ [])) (none_joined (map arg_of before) (arg_of y) a b)

pub primitive_is_call : (p : CPrim) (xs : List Arg) → (is_string_taker p ≡ false → HasNoText xs) → IsCall (c.primitive p xs)
primitive_is_call prim.Call xs h = tt
primitive_is_call p xs h = h refl
