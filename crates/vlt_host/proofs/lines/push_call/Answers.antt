use Rattle.std.proofs.Common.{◌≡◌, true, rules}
use Rattle.std.specs.Prelude.{map}
use Rattle.vlt_host.specs.CallsFile.{is_name}
use Rattle.vlt_host_meaning.specs.Tables.{argument_of}
use Rattle.vlt_host.specs.Pushed.{PushesArguments}
use Rattle.vlt_host.proofs.OneLine.{utf_ok, utf_err, line_is, line_none}
use Rattle.vlt_host.proofs.lines.push_call.Goals as goal

pub returns-then-is_err-clause-bad : goal.returns-then-is_err-clause-bad
returns-then-is_err-clause-bad c =
    let bad = line_none c.args.line.now (utf_err _ _ c.args.line.now c.from_utf8.result (search rules) c.from_utf8.ensures.cases) in
    λ n e. (cc, bad)

pub returns-clause-pushed : goal.returns-clause-pushed
returns-clause-pushed c =
    let p : PushesArguments c.in-Some.after.now c.args.args.now.items c.push_args.new.args.items = c.in_ok-push_args.ensures.pushed in
    let named : is_name c.in-Some.word.now ≡ true = search rules in
    record {
      name = c.in-Some.word.now;
      more = p.more;
      is = line_is c.args.line.now c.in-Some.word.now c.in-Some.after.now (map argument_of p.more)
          (utf_ok _ _ c.args.line.now c.from_utf8.result (search rules) c.from_utf8.ensures.cases) c.in-Some.ensures.some named p.are;
      named = c.in_ok-extend_from_slice.ensures.items;
      pushed = p.pushed;
    }
