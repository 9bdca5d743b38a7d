use Rattle.vlt_fit_laws.proofs.texts.texts_have_text_trees.Goals as goal

pub returns : goal.returns
returns c = λ bytes ls t tokens is. record {
  tree = is.0;
  ticks = c.texts_have_ticks.ensures bytes ls t tokens is.1;
  numbers = c.texts_have_numbers.ensures bytes ls t tokens is.1;
}
