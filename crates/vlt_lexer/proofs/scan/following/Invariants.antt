use Rattle.std.proofs.Common.{◌≡◌, ◌≤◌, ◌+◌, length, drop}
use Rattle.std.specs.Str.{chars, IsUtf8}
use Rattle.vlt_tokens.specs.Characters.{following}
use Rattle.vlt_lexer.proofs.scan.following.Given as goal

abbrev pub invariant-loop-want : goal.invariant-loop-want
invariant-loop-want l = record {
  utf8 : IsUtf8 l.rest;
  same : following (drop l.want-index l.fn.front) (chars l.rest) ≡ following l.fn.front (chars l.fn.text);
  taken : length l.rest + l.want-index ≤ length l.fn.text;
}
