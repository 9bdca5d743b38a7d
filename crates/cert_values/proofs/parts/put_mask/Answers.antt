use Rattle.std.proofs.Common.{◌≡◌, ◌∷◌, ◌++◌, [], OnOk, subst, arith}
use Rattle.cert_values.specs.Laid.{natural_token}
use Rattle.cert_values.proofs.Masks.{mask_back}
use Rattle.cert_values.proofs.parts.put_mask.Goals as goal

pub returns : goal.returns
returns c =
    subst (λ n. OnOk c.number.result (c.number.new.self ≡ c.args.out.now ++ natural_token n ∷ []))
    (mask_back c.args.states c.mask.result (omega (arith, c.mask.type_inv)) c.mask.ensures.states) c.number.ensures
