-- What is written of a list as it is gone through, and what comes of its rest.
use Rattle.std.proofs.Common.{◌≡◌, ◌<◌, ◌≤◌, ◌+◌, ℕ, suc, List, [], ◌∷◌, ◌++◌, map, length, drop, drop-cons, add-one, get_or, refl, sym, ap, ◌∙◌, subst, arith}
use Rattle.std.proofs.lemmas.List.{drop_all, append-nil, append_assoc, length-append}
use Rattle.vlt_all_faults_laws.specs.Each.{Finding}
use Rattle.vlt_all_faults_lines.specs.Lines.{Written, AreWrittenOf}

pub split_at : {X : Type 0} (xs : List X) (i : ℕ) (x : X) → i < length xs → x ≡ get_or xs i x → drop i xs ≡ x ∷ drop (i + 1) xs
split_at xs i x lt read = rw add-one (drop-cons xs i x lt ∙ ap (λ y. y ∷ drop (suc i) xs) (sym read))

-- what is written of the rest, after what stands there, is written of all after what stood there first
pub record Writing {X : Type 0} (g : X → Finding) (W : Written) (ys : List X) (i : ℕ) (old out : List ℕ) : Type 0 where
  pub rest : (more : List ℕ) → AreWrittenOf W (map g (drop i ys)) more → (lines : List ℕ) × AreWrittenOf W (map g ys) lines × (old ++ lines ≡ out ++ more)

module _ {X : Type 0} (g : X → Finding) (W : Written) (ys : List X) (old : List ℕ) where
  pub writing_first : (out : List ℕ) → out ≡ old → Writing g W ys 0 old out
  writing_first out is = record { rest = λ more w. (more, w, ap (λ o. o ++ more) (sym is)) }

  pub writing_more : (i : ℕ) (y : X) (out lines new : List ℕ) → i < length ys → y ≡ get_or ys i y → W (g y) lines → new ≡ out ++ lines → Writing g W ys i old out →
      Writing g W ys (i + 1) old new
  writing_more i y out lines new lt read is added s = record {
    rest = λ more w.
        let all = s.rest (lines ++ more) (subst (λ l. AreWrittenOf W (map g l) (lines ++ more)) (sym (split_at ys i y lt read)) (lines, more, is, w, refl)) in
        (all.0, all.1, all.2 ∙ sym (append_assoc out lines more) ∙ ap (λ o. o ++ more) (sym added));
  }

  pub writing_ends : (i : ℕ) (out : List ℕ) → length ys ≤ i → Writing g W ys i old out → (lines : List ℕ) × AreWrittenOf W (map g ys) lines × (out ≡ old ++ lines)
  writing_ends i out past s =
      let all = s.rest [] (subst (λ l. AreWrittenOf W (map g l) []) (sym (drop_all i ys past)) refl) in
      (all.0, all.1, sym (append-nil out) ∙ sym all.2)

-- where something is written of each, no less is written than there are
pub written_long : (W : Written) → ((x : Finding) (lines : List ℕ) → W x lines → 1 ≤ length lines) → (xs : List Finding) (lines : List ℕ) → AreWrittenOf W xs lines → length xs ≤ length lines
written_long W some [] lines w = omega arith
written_long W some (x ∷ xs) lines (first, rest, is, others, split) =
    let one = some x first is in
    let more = written_long W some xs rest others in
    let e : length lines ≡ length first + length rest = ap length split ∙ length-append first rest in
    omega (arith, one, more, e)
