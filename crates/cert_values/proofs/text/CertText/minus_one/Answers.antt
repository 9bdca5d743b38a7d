use Rattle.std.proofs.Common.{◌≡◌, ◌∷◌, ◌++◌, [], OnOk, negsuc, sym, subst, arith}
use Rattle.std.specs.Fmt.{signed_decimal}
use Rattle.json.specs.Token as token
use Rattle.cert_values.specs.Laid.{below_token}
use Rattle.cert_values.proofs.Fine.{below_is}
use Rattle.cert_values.proofs.text.CertText.minus_one.Goals as goal

pub returns : goal.returns
returns c =
    let is : below_token 0 ≡ token.number (signed_decimal (negsuc 0)) = below_is 0 (omega arith) in
    subst (λ ts. OnOk c.i64.result (c.i64.new.self.tokens ≡ ts ++ below_token 0 ∷ [])) c.self.view_is
    (subst (λ t. OnOk c.i64.result (c.i64.new.self.tokens ≡ c.self.inside.out.tokens ++ t ∷ [])) (sym is) c.i64.ensures.ok)
