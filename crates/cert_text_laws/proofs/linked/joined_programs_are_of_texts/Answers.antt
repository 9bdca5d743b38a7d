use Rattle.cert_text_laws.proofs.OfLinked.Joined.{text_tree, program_of_texts}
use Rattle.cert_text_laws.proofs.linked.joined_programs_are_of_texts.Goals as goal

pub returns : goal.returns
returns c = λ i f g t p one two three told.
    let same = (c.told_joins_are_joined.ensures i f g t told).0 in
    let text = text_tree c.texts_have_text_trees.ensures in
    let tree = c.told_joins_are_text_trees.ensures i f g t (text i one) (text f two) (text g three) told in
    program_of_texts i f g t one two three same tree p
