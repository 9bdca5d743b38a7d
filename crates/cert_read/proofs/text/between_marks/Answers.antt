use Rattle.std.specs.Cmp.{unsigned_Decides}
use Rattle.std.proofs.lemmas.Slice.Eq.{strip_prefix_is, strip_suffix_is}
use Rattle.cert_format.specs.Text.{opening, closing}
use Rattle.cert_read.proofs.Marks.{opened, closed}
use Rattle.cert_read.proofs.text.between_marks.Goals as goal

pub returns : goal.returns
returns c =
    closed c.args.text.now c.in-Some.rest.now
    (opened _ c.args.text.now c.strip_prefix.result c.in-Some.rest c.in-Some.is
    (strip_prefix_is unsigned_Decides c.args.text.now opening c.strip_prefix.result c.strip_prefix.ensures.cases))
    c.strip_suffix.result (strip_suffix_is unsigned_Decides c.in-Some.rest.now closing c.strip_suffix.result c.strip_suffix.ensures.cases)
