-- What a view that is told, and a joined tree that is told, are.
use Rattle.std.proofs.Common.{◌≡◌, ◌≤◌, ℕ, Bool, true, false, if◌then◌else◌, List, [], Option, Some, None, refl, subst}
use Rattle.std.specs.Prelude.{nat_lt, length, Result, Ok, Err}
use Rattle.std.proofs.lemmas.Bool.{ltb-false}
use Rattle.vlt_base.specs.Limits.{limit_of}
use Rattle.vlt_base.specs.declared.limits.TheConstants.{DECLARATIONS}
use Rattle.vlt_syntax.specs.Tree.{Decl, Tree}
use Rattle.vlt_kinds_types.specs.declared.names.found.Refusal.{Refusal}
use Rattle.vlt_kinds_types.specs.Names.Refusals.{of_each, least}
use Rattle.vlt_iface.specs.View.{View, viewed, joined}
use Rattle.vlt_iface.specs.Rules.{body_refused, given_refused}
use Rattle.vlt_iface.specs.Clash.{clashing}
use Rattle.vlt_iface.specs.Told.{Told, broken, clash, exceeded, when_few, unless_in, unless_clash, least_name, view_told, joined_told}
use Rattle.vlt_iface.proofs.Least.{no_least}

module _ {A : Type 0} where
  not_ok : (t : Told) (x : A) → ◌≡◌ {A = Result A Told} (Err t) (Ok x) → ⊥
  not_ok t x e = cc

  same : (x y : A) → ◌≡◌ {A = Result A Told} (Ok x) (Ok y) → x ≡ y
  same x y e = cc

  few : (ds : List Decl) (x y : A) → when_few ds x ≡ Ok y → (x ≡ y) × (length ds ≤ limit_of DECLARATIONS)
  few ds x y e = by (nat_lt (limit_of DECLARATIONS) (length ds)) refl e
    where
      by : (b : Bool) → nat_lt (limit_of DECLARATIONS) (length ds) ≡ b → (if b then Err (exceeded DECLARATIONS) else Ok x) ≡ Ok y → (x ≡ y) × (length ds ≤ limit_of DECLARATIONS)
      by true is e = absurd (not_ok (exceeded DECLARATIONS) y e)
      by false is e = (same x y e, ltb-false (limit_of DECLARATIONS) (length ds) is)

pub view_few : (i m : Tree) (v : View) → view_told i m ≡ Ok v → length v.tree.decls ≤ limit_of DECLARATIONS
view_few i m v e = go (least (of_each body_refused i.decls)) (least (of_each (given_refused m.decls) i.decls)) e
  where
    go : (x y : Option Refusal) → unless_in 0 x (unless_in 1 y (when_few (viewed i m).tree.decls (viewed i m))) ≡ Ok v → length v.tree.decls ≤ limit_of DECLARATIONS
    go None None e =
        let f = few (viewed i m).tree.decls (viewed i m) v e in
        subst (λ (w : View). length w.tree.decls ≤ limit_of DECLARATIONS) f.0 f.1
    go None (Some x) e = absurd (not_ok (broken x.rule (record { file = 1; at = x.at })) v e)
    go (Some x) y e = absurd (not_ok (broken x.rule (record { file = 0; at = x.at })) v e)

pub joined_is : (i f g t : Tree) → joined_told i f g ≡ Ok t → (joined i f g ≡ t) × (clashing f g ≡ []) × (length t.decls ≤ limit_of DECLARATIONS)
joined_is i f g t e = go (least_name (clashing f g)) refl e
  where
    go : (o : Option (List ℕ)) → least_name (clashing f g) ≡ o → unless_clash o (when_few (joined i f g).decls (joined i f g)) ≡ Ok t →
        (joined i f g ≡ t) × (clashing f g ≡ []) × (length t.decls ≤ limit_of DECLARATIONS)
    go None is e =
        let x = few (joined i f g).decls (joined i f g) t e in
        (x.0, no_least (clashing f g) is, subst (λ (u : Tree). length u.decls ≤ limit_of DECLARATIONS) x.0 x.1)
    go (Some n) is e = absurd (not_ok (clash n) t e)
