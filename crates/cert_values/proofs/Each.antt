-- Values of JSON, one after another.
use Rattle.std.proofs.Common.{◌≡◌, List, [], ◌∷◌, ◌++◌, refl, ap, ◌∙◌}
use Rattle.json.specs.Token.{Token, end_array}
use Rattle.serde_json.specs.Data.{Data}
use Rattle.serde_json.specs.View.{items_of}
use Rattle.vlt_core.specs.Core.{Expr, number, truth, var, field, unary, binary}
use Rattle.cert_rows.specs.Expressions.{expr_items, operator_data}
use Rattle.cert_values.specs.Laid.{laid, items_laid, each_laid, expr_laid}

pub each_append : (ds es : List Data) (out : List Token) → each_laid (ds ++ es) out ≡ each_laid es (each_laid ds out)
each_append [] es out = refl
each_append (d ∷ ds) es out = each_append ds es (laid d out)

pub each_closed : (ds : List Data) (out : List Token) → items_laid (items_of ds) out ≡ each_laid ds out ++ end_array ∷ []
each_closed [] out = refl
each_closed (d ∷ ds) out = each_closed ds (laid d out)

pub expr_each : (e : Expr) (out : List Token) → each_laid (expr_items e) out ≡ expr_laid e out
expr_each (number z) out = refl
expr_each (truth b) out = refl
expr_each (var v) out = refl
expr_each (field x i) out = refl
expr_each (unary o a) out = each_append (expr_items a) (operator_data o ∷ []) out ∙ ap (laid (operator_data o)) (expr_each a out)
expr_each (binary o a b) out =
    each_append (expr_items a) (expr_items b ++ operator_data o ∷ []) out
    ∙ ap (each_laid (expr_items b ++ operator_data o ∷ [])) (expr_each a out)
    ∙ each_append (expr_items b) (operator_data o ∷ []) (expr_laid a out)
    ∙ ap (laid (operator_data o)) (expr_each b (expr_laid a out))

pub expr_items_laid : (e : Expr) (out : List Token) → items_laid (items_of (expr_items e)) out ≡ expr_laid e out ++ end_array ∷ []
expr_items_laid e out = each_closed (expr_items e) out ∙ ap (λ ts. ts ++ end_array ∷ []) (expr_each e out)
