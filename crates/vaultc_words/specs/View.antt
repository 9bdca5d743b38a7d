-- The plain commands and options that those of the code stand for.
use Rattle.std.specs.Prelude.{ℕ, List}
use Rattle.std.specs.Option.{option_map}
use Rattle.vaultc_words.specs.Commands as commands
use Rattle.vaultc_words.specs.declared.words.Command.{Command}
use Rattle.vaultc_words.specs.declared.words.Command.TheVariants.{Text, Verify, Run, C, Load, Host, Module, Link}
use Rattle.vaultc_words.specs.declared.words.TextCommand.{TextCommand}
use Rattle.vaultc_words.specs.declared.words.TextCommand.TheVariants.{Check, Explain, Fmt, Emit}
use Rattle.vaultc_words.specs.declared.words.Setting.{Setting}
use Rattle.vaultc_words.specs.declared.words.Setting.TheVariants.{Fuel, Heap, Depth, Input, Answers}
use Rattle.vaultc_words.specs.declared.words.Settings.{Settings}
use Rattle.vaultc_words.specs.declared.words.Taken.{Taken}

abbrev pub seen_setting : Setting → commands.Setting
seen_setting (Fuel n) = commands.fuel n
seen_setting (Heap n) = commands.heap n
seen_setting (Depth n) = commands.depth n
seen_setting (Input file) = commands.input file.now
seen_setting (Answers file) = commands.answers file.now

abbrev pub seen_settings : Settings → commands.Settings
seen_settings s = record {
  fuel = s.fuel;
  heap = s.heap;
  depth = s.depth;
  input = option_map (λ f. f.now) s.input;
  answers = option_map (λ f. f.now) s.answers;
}

abbrev pub seen_taken : Taken → commands.Taken
seen_taken t = record {
  budgets = t.budgets;
  input = option_map (λ f. f.now) t.input;
  answers = option_map (λ f. f.now) t.answers;
}

abbrev pub seen_text : TextCommand → (file : List ℕ) → commands.Command
seen_text Check file = commands.check file
seen_text Explain file = commands.explain file
seen_text Fmt file = commands.fmt file
seen_text Emit file = commands.emit file

abbrev pub seen_command : Command → commands.Command
seen_command (Text command file) = seen_text command file.now
seen_command (Verify file) = commands.verify file.now
seen_command (Run file taken) = commands.run file.now (seen_taken taken)
seen_command (C file taken) = commands.crun file.now (seen_taken taken)
seen_command (Load functions) = commands.load functions.count
seen_command (Host file calls taken) = commands.host file.now calls.now (seen_taken taken)
seen_command (Module interface file) = commands.modules interface.now file.now
seen_command (Link interface first second) = commands.link interface.now first.now second.now
