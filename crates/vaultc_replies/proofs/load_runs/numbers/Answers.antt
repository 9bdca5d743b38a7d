use Rattle.std.proofs.Common.{◌≡◌, ◌++◌, length, ap, ap₂, ◌∙◌, arith}
use Rattle.std.specs.Prelude.{codes}
use Rattle.vlt_core.specs.View.{program_of}
use Rattle.vlt_reports.specs.Accepted.{bodies}
use Rattle.vaultc_runs.specs.declared.status.TheConstants.{DONE}
use Rattle.vaultc_runs.specs.Lines.{reply}
use Rattle.vaultc_replies.specs.Loads.{first_line, load_counts}
use Rattle.vaultc_replies.proofs.load_runs.numbers.Goals as goal

pub returns : goal.returns
returns c =
    let n = c.args.made.now.functions in
    let printed = first_line c.args.events.now in
    let head = c.in_ok-text.text.items in
    let counted = load_counts n (length c.args.made.now.text.items) (bodies (program_of c.args.program.now)) c.args.emitted in
    let begins : head ≡ load_counts n c.len.result c.bodies.result c.args.emitted = c.in_ok-text.ensures in
    let size : c.len.result ≡ length c.args.made.now.text.items = (let most = c.len.ensures in omega (arith, most)) in
    let same : load_counts n c.len.result c.bodies.result c.args.emitted ≡ counted = ap₂ (λ b k. load_counts n b k c.args.emitted) size c.bodies.ensures in
    let one : c.extend_from_slice.new.self.items ≡ head ++ printed = c.in_ok-extend_from_slice.ensures.items ∙ ap (λ x. head ++ x) c.first_line.ensures in
    let two : c.extend_from_slice-2.new.self.items ≡ head ++ printed ++ codes "\n" = c.in_ok-extend_from_slice-2.ensures.items ∙ ap (λ x. x ++ codes "\n") one in
    let three : head ++ printed ++ codes "\n" ≡ counted ++ printed ++ codes "\n" = ap (λ h. h ++ printed ++ codes "\n") (begins ∙ same) in
    ap (reply DONE) (two ∙ three)
