use Rattle.std.proofs.Common.{sym, ◌∙◌}
use Rattle.vlt_core.specs.View.{entry_of, keys_of}
use Rattle.vlt_acts.proofs.OfFrames.Naming.{key_found, key_missing, set_named, set_names, none_names}
use Rattle.vlt_acts.proofs.frames.leaving.name.Goals as goal

pub put_key-requires : goal.put_key-requires
put_key-requires c = c.requires.keys c.args.e.now.key.0 c.in-Some.k.0 (key_found c.args.keys.now c.args.e.now.key.0 c.in-Some.k (sym c.caller_key.ensures ∙ c.in-Some.is))

pub returns-in-Some-clause-named : goal.returns-in-Some-clause-named
returns-in-Some-clause-named c = λ top below. set_named c.in-Some.k.0 top c.kept-a.result c.args.values.now c.put_key.new.self (below c.args.e.now.key.0 c.in-Some.k.0 (key_found c.args.keys.now c.args.e.now.key.0 c.in-Some.k (sym c.caller_key.ensures ∙ c.in-Some.is))) c.put_key.ensures

pub returns-in-Some-clause-names : goal.returns-in-Some-clause-names
returns-in-Some-clause-names c = λ top below. set_names (entry_of c.args.e.now) (keys_of c.args.keys.now) top c.args.from c.args.value c.in-Some.k.0 c.kept-a.result c.args.values.now c.put_key.new.self (key_found c.args.keys.now c.args.e.now.key.0 c.in-Some.k (sym c.caller_key.ensures ∙ c.in-Some.is)) c.kept-a.ensures c.put_key.ensures

pub returns-in_default-clause-names : goal.returns-in_default-clause-names
returns-in_default-clause-names c = λ top below. none_names (entry_of c.args.e.now) (keys_of c.args.keys.now) top c.args.from c.args.value c.args.values.now (key_missing c.args.keys.now c.args.e.now.key.0 (sym c.caller_key.ensures ∙ c.in_default.is))
