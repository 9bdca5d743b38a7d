use Rattle.std.proofs.Common.{◌≡◌, ◌∷◌, ◌++◌, [], OnOk, decimal, sym, subst, arith}
use Rattle.json.specs.Token as token
use Rattle.cert_values.specs.Laid.{natural_token}
use Rattle.cert_values.proofs.Fine.{natural_is}
use Rattle.cert_values.proofs.text.CertText.number.Goals as goal

pub returns : goal.returns
returns c =
    let is : natural_token c.args.number ≡ token.number (decimal c.args.number) = natural_is c.args.number (omega (arith, c.ranges.number.fits)) in
    subst (λ ts. OnOk c.u64.result (c.u64.new.self.tokens ≡ ts ++ natural_token c.args.number ∷ [])) c.self.view_is
    (subst (λ t. OnOk c.u64.result (c.u64.new.self.tokens ≡ c.self.inside.out.tokens ++ t ∷ [])) (sym is) c.u64.ensures.ok)
