use Rattle.std.proofs.Common.{◌≡◌, ◌≤◌, ℕ, length}
use Rattle.std.specs.Str.{chars, IsUtf8}
use Rattle.vlt_tokens.specs.Characters.{is_digit, value_after, value_of}
use Rattle.vlt_lexer.specs.Steps.{run, past_run, Holds}
use Rattle.vlt_lexer.proofs.scan.number.Given as goal

abbrev pub decreases-loop-c : goal.decreases-loop-c
decreases-loop-c l = length l.rest

abbrev pub invariant-loop-c : goal.invariant-loop-c
invariant-loop-c l = record {
  utf8 : IsUtf8 l.rest;
  no_longer : length l.rest ≤ length l.fn.text;
  same : past_run is_digit (chars l.rest) ≡ past_run is_digit (chars l.fn.text);
  value : (n : ℕ) × Holds l.value n × (value_after n (run is_digit (chars l.rest)) ≡ value_of (run is_digit (chars l.fn.text)));
}
