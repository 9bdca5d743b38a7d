use Rattle.std.proofs.Common.{◌∙◌}
use Rattle.vlt_core.specs.View.{program_of, func_of}
use Rattle.cert_kinds_heads.proofs.Entries.{listed_next}
use Rattle.cert_kinds_heads.proofs.heads.keys_broken.Goals as goal

pub loop-k-preserved : goal.loop-k-preserved
loop-k-preserved c =
    rw (c.lesser-found.ensures, c.key_broken.ensures)
    (c.loop-k.invariant ∙ listed_next (program_of c.args.p.now) (func_of c.args.f.now) c.loop-k.found c.args.keys.now c.loop-k.k c.index-keys-k.result c.index-keys-k.is (search))
