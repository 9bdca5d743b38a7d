-- What the reader's own types stand for. Nothing is forgotten.
use Rattle.std.specs.Prelude.{map}
use Rattle.c_syntax.specs.Unit as unit
use Rattle.c_syntax.specs.View.{stmts_of}
use Rattle.c_parser.specs.declared.unit.Declaration.{Declaration}
use Rattle.c_parser.specs.declared.unit.Head.{Head}
use Rattle.c_parser.specs.declared.unit.Body.{Body}
use Rattle.c_parser.specs.declared.unit.Unit.{Unit}

abbrev pub declaration_of : Declaration → unit.Declaration
declaration_of d = record { reference = d.reference; variable = d.variable }

abbrev pub head_of : Head → unit.Head
head_of h = record { result = h.result; name = h.name; params = map declaration_of h.params }

abbrev pub body_of : Body → unit.Body
body_of b = record { head = head_of b.head; vars = map declaration_of b.vars; stmts = stmts_of b.stmts }

abbrev pub unit_of : Unit → unit.TranslationUnit
unit_of u = record { main = u.main; heads = map head_of u.heads.items; bodies = map body_of u.bodies.items }
