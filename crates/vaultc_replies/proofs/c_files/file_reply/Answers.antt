use Rattle.std.proofs.Common.{◌≡◌, ◌≤◌, ◌++◌, ◌∙◌, length, sym, ap, arith}
use Rattle.vlt_base.specs.Limits.{limit_of}
use Rattle.vlt_base.specs.declared.limits.TheConstants.{C_BYTES}
use Rattle.c_syntax.specs.Canonical.{canonical_text}
use Rattle.c_syntax.specs.View as c_view
use Rattle.vaultc_replies.specs.Emitted as emitted
use Rattle.vaultc_replies.proofs.CFiles.{short_file}
use Rattle.vaultc_replies.proofs.c_files.file_reply.Goals as goal

pub returns : goal.returns
returns c =
    let text = c.extend_from_slice.new.self.items in
    let fits = c.if-len-limit.false in
    let most = c.limit.ensures in
    let long = c.len.ensures in
    let within : length text ≤ limit_of C_BYTES = omega (arith, fits, most, long) in
    let is : text ≡ canonical_text (c_view.program_of c.args.program.now) ++ c.args.certificate.now =
    c.in_ok-extend_from_slice.ensures.items ∙ ap (λ l. l ++ c.args.certificate.now) c.in-Ok.ensures in
    sym (short_file text within) ∙ ap emitted.file_reply is
