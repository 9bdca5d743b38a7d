use Rattle.std.proofs.Common.{◌≡◌, ◌∙◌, ◌++◌, ap}
use Rattle.std.specs.Prelude.{string_bytes, codes}
use Rattle.std.specs.Fmt.{decimal}
use Rattle.vaultc_replies.proofs.Loads.{nested}
use Rattle.vaultc_replies.proofs.load_runs.counts.Goals as goal

pub returns : goal.returns
returns c =
    let text = c.in_ok-text.text in
    let n = decimal c.args.functions in
    let bytes = decimal c.args.bytes in
    let functions = decimal c.args.with_body in
    let emitted = decimal c.args.emitted in
    let is : string_bytes text ≡ codes "load " ++ (n ++ (codes " bytes " ++ (bytes ++ (codes " functions " ++ (functions ++ (codes " emitted " ++ (emitted ++ codes " printed "))))))) = c.in_ok-text.ensures.ok in
    let taken : c.into_bytes.result.items ≡ string_bytes text = ap (λ v. v.items) c.into_bytes.ensures.value in
    taken ∙ is ∙ nested (codes "load ") n (codes " bytes ") bytes (codes " functions ") functions (codes " emitted ") emitted (codes " printed ")
