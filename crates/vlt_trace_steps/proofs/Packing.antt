-- Objects of a case's keys, one after another.
use Rattle.std.proofs.Common.{◌≡◌, ℕ, List, [], ◌∷◌, ◌++◌, refl, sym, ap, append_assoc, ◌∙◌}
use Rattle.vlt_core.specs.Lookups.{KeyIn}
use Rattle.vlt_meaning.specs.World as m
use Rattle.vlt_meaning.specs.Objects.{with_owner}
use Rattle.vlt_meaning.specs.Step.{Step, with_found, with_changed}
use Rattle.vlt_meaning.specs.Operands.{with_case_packed}
use Rattle.vlt_trace_steps.specs.Cases.{packed_object}

pub pack_one : (k : KeyIn) (frame : m.Frame) (w : m.World) (go : List ℕ → m.World → Step) →
    with_case_packed (k ∷ []) frame w go ≡ with_found (packed_object k frame w.objects) w (λ n. go (n.number ∷ []) (with_changed w n.number (with_owner m.loose)))
unfolding with_case_packed
pack_one k frame w go = refl

pub pack_more : (k : KeyIn) (ks : List KeyIn) (frame : m.Frame) (w : m.World) (go : List ℕ → m.World → Step) →
    with_case_packed (k ∷ ks) frame w go ≡ with_case_packed (k ∷ []) frame w (λ one w. with_case_packed ks frame w (λ ns w. go (one ++ ns) w))
unfolding with_case_packed
pack_more k ks frame w go = refl

pub pack_none : (frame : m.Frame) (w : m.World) (go : List ℕ → m.World → Step) → with_case_packed [] frame w go ≡ go [] w
unfolding with_case_packed
pack_none frame w go = refl

-- one object more was taken
pub pushed_go : (ns pushed : List ℕ) (n : ℕ) (go : List ℕ → m.World → Step) → pushed ≡ ns ++ n ∷ [] → ◌≡◌ {A = List ℕ → m.World → Step} (λ more w. go (ns ++ (n ∷ more)) w) (λ more w. go (pushed ++ more) w)
pushed_go ns pushed n go e = λ i more w. go (sym (ap (λ l. l ++ more) e ∙ append_assoc ns (n ∷ []) more) i) w
