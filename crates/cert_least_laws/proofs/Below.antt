-- Two maps that lie below each other are one.
use Rattle.std.proofs.Common.{◌≡◌, Bool, true, false, IsTrue, refl, sym, ap, true≢false}
use Rattle.std.proofs.Math.Path.{fun_ext}
use Rattle.vlt_core.specs.Core.{States}
use Rattle.vlt_core.specs.Maps.{Status, absent, held, lent, full, is_absent, is_held, is_lent, is_full, HeldMap, IsWithin, IsStatusBelow, IsBelow}

same_bool : (a b : Bool) → (IsTrue a → IsTrue b) → (IsTrue b → IsTrue a) → a ≡ b
same_bool true true f g = refl
same_bool true false f g = absurd (true≢false (sym (f refl)))
same_bool false true f g = absurd (true≢false (sym (g refl)))
same_bool false false f g = refl

same_states : (a b : States) → IsWithin a b → IsWithin b a → a ≡ b
same_states a b x y = fun_ext (λ s. same_bool (a s) (b s) (x.each s) (y.each s))

absent_held : is_absent ≡ is_held → ⊥
absent_held e = cc

absent_lent : is_absent ≡ is_lent → ⊥
absent_lent e = cc

absent_full : is_absent ≡ is_full → ⊥
absent_full e = cc

held_lent : is_held ≡ is_lent → ⊥
held_lent e = cc

held_full : is_held ≡ is_full → ⊥
held_full e = cc

lent_full : is_lent ≡ is_full → ⊥
lent_full e = cc

pub same_status : (a b : Status) → IsStatusBelow a b → IsStatusBelow b a → a ≡ b
same_status absent absent x y = refl
same_status absent (held s) x y = absurd (absent_held x.kind)
same_status absent (lent s) x y = absurd (absent_lent x.kind)
same_status absent full x y = absurd (absent_full x.kind)
same_status (held s) absent x y = absurd (absent_held y.kind)
same_status (held s) (held u) x y = ap held (same_states s u x.within y.within)
same_status (held s) (lent u) x y = absurd (held_lent x.kind)
same_status (held s) full x y = absurd (held_full x.kind)
same_status (lent s) absent x y = absurd (absent_lent y.kind)
same_status (lent s) (held u) x y = absurd (held_lent y.kind)
same_status (lent s) (lent u) x y = ap lent (same_states s u x.within y.within)
same_status (lent s) full x y = absurd (lent_full x.kind)
same_status full absent x y = absurd (absent_full y.kind)
same_status full (held u) x y = absurd (held_full y.kind)
same_status full (lent u) x y = absurd (lent_full y.kind)
same_status full full x y = refl

pub same_map : (h k : HeldMap) → IsBelow h k → IsBelow k h → h ≡ k
same_map h k x y = fun_ext (λ t. same_status (h t) (k t) (x.each t) (y.each t))
