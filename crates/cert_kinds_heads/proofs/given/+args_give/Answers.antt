use Rattle.std.proofs.Common.{sym, None}
use Rattle.cert_kinds_heads.proofs.Summaries.{summary_zip}
use Rattle.cert_kinds_heads.proofs.given.+args_give.Goals as goal

pub returns-in-len1-up-wanted : goal.returns-in-len1-up-wanted
returns-in-len1-up-wanted t c =
    rw (c.both.ensures, c.arg_gives.ensures, c.args_give.ensures)
    (sym (summary_zip _ c.args.args.now c.args.wanted.now (record { 0 = 0 }) None c.in-len1-up.len_at_least c.in-len1-up-wanted.len_at_least))
