-- Names by their texts, as the code collects them.
use Rattle.std.specs.Prelude.{◌≡◌, ℕ, Bool, List, [], ◌∷◌, ◌++◌, map}
use Rattle.std.specs.List.{list_any}
use Rattle.std.specs.Str.{bytes_eq}
use Rattle.std.specs.Borrow.{Bor}
use Rattle.vlt_syntax.specs.Tree.{Name, Stmt, Entry, Parameter, Decl}
use Rattle.vlt_syntax.specs.View.{ArmView}
use Rattle.vlt_iface.specs.Clash.{keys_in, bound_names, block_bound, entry_variables, decl_bound}

abbrev pub texts_of : List Name → List (List ℕ)
texts_of = map (λ n. n.text)

abbrev pub text_seen : Bor (List ℕ) → List ℕ
text_seen n = n.now

abbrev pub texts_seen : List (Bor (List ℕ)) → List (List ℕ)
texts_seen = map text_seen

-- ---- look-ups

abbrev pub has_text : List (List ℕ) → List ℕ → Bool
has_text ts n = list_any (bytes_eq n) ts

-- a set has just these texts, each perhaps once
abbrev pub AreTextsOf : (texts set : List (List ℕ)) → Type 0
AreTextsOf texts set = (n : List ℕ) → has_text set n ≡ has_text texts n

-- ---- what a parameter, an entry beside its key, a statement, an arm and a declaration bind

abbrev pub parameter_texts : Parameter → List (List ℕ)
parameter_texts p = texts_of (keys_in p.ty ++ p.name ∷ [])

abbrev pub variable_texts : Entry → List (List ℕ)
variable_texts e = texts_of (entry_variables e)

abbrev pub stmt_texts : Stmt → List (List ℕ)
stmt_texts x = texts_of (bound_names x)

abbrev pub arm_texts : ArmView → List (List ℕ)
arm_texts a = texts_of (a.1 ++ block_bound a.2)

abbrev pub decl_texts : Decl → List (List ℕ)
decl_texts d = texts_of (decl_bound d)
