-- Views of texts.
use Rattle.std.specs.Prelude.{◌≡◌, Ok}
use Rattle.vlt_syntax.specs.Tree.{Tree}
use Rattle.vlt_iface.specs.View.{View}
use Rattle.vlt_iface.specs.Told.{view_told}
use Rattle.vlt_fit_laws.specs.Fit.{IsTextTree}

-- It is the view of an interface with a module, whose trees are as texts have them.
pub record IsViewOfTexts (v : View) : Type 0 where
  pub interface : Tree
  pub own : Tree
  pub interface_text : IsTextTree interface
  pub own_text : IsTextTree own
  pub told : view_told interface own ≡ Ok v
