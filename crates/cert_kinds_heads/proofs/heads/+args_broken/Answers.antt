use Rattle.std.proofs.Common.{sym, None}
use Rattle.cert_kinds_types.proofs.Zips.{zip_next}
use Rattle.cert_kinds_heads.proofs.heads.+args_broken.Goals as goal

pub returns-in-len1-up-wanted : goal.returns-in-len1-up-wanted
returns-in-len1-up-wanted t c =
    rw (c.lesser.ensures, c.wanted_broken.ensures, c.args_broken.ensures)
    (sym (zip_next _ c.args.args.now c.args.wanted.now (record { 0 = 0 }) None c.in-len1-up.len_at_least c.in-len1-up-wanted.len_at_least))
