-- A program has one least certificate.
use Rattle.std.proofs.Common.{◌≡◌, ◌<◌, ℕ, Bool, true, false, List, [], ◌∷◌, map, refl, sym, ap, ◌∙◌}
use Rattle.vlt_core.specs.Core.{Func, Program}
use Rattle.vlt_core.specs.Maps.{HeldMap}
use Rattle.vlt_core.specs.Instances.{instance}
use Rattle.vlt_core.specs.Least as least
use Rattle.vlt_core.specs.Least.{a_loop, a_join}
use Rattle.cert_rows.specs.Parts.{All}
use Rattle.cert_format.specs.Notes.{Note, at_loop, at_join}
use Rattle.cert_format.specs.Bounds.{instances}
use Rattle.cert_fit_laws.specs.Complete.{named_by, FitsNote}
use Rattle.cert_least_laws.specs.LeastNotes.{map_at, note_at, AreLeastNotes, HasLeastNotes, HaveLeastNotes}
use Rattle.cert_least_laws.specs.Laws.{LeastCertificatesAreOne}
use Rattle.cert_least_laws.proofs.Listing.{many, same_maps}
use Rattle.cert_least_laws.proofs.Origins.{origin_at}
use Rattle.cert_least_laws.proofs.OneList.{one_least}

-- ---- one note

loop_number : (n m : ℕ) → a_loop n ≡ a_loop m → n ≡ m
loop_number n m e = cc

join_number : (n m : ℕ) → a_join n ≡ a_join m → n ≡ m
join_number n m e = cc

not_same : (n m : ℕ) → a_loop n ≡ a_join m → ⊥
not_same n m e = cc

around_same : (n m : ℕ) (a b e f : HeldMap) → least.at_loop n a e ≡ least.at_loop m b f → a ≡ b
around_same n m a b e f same = cc

exit_same : (n m : ℕ) (a b e f : HeldMap) → least.at_loop n a e ≡ least.at_loop m b f → e ≡ f
exit_same n m a b e f same = cc

join_same : (n m : ℕ) (a b : HeldMap) → least.at_join n a ≡ least.at_join m b → a ≡ b
join_same n m a b same = cc

module _ (p : Program) (f : Func) where
  same_note : (x y : Note) → named_by x ≡ named_by y → FitsNote (instances p f) x → FitsNote (instances p f) y → ((i : ℕ) → i < many (instances p f) → note_at i x ≡ note_at i y) → x ≡ y
  same_note (at_loop n a e) (at_loop m b g) named u v same =
      let one = same_maps (instances p f) a b u.0 v.0 (λ i w. around_same n m (map_at i a) (map_at i b) (map_at i e) (map_at i g) (same i w)) in
      let two = same_maps (instances p f) e g u.1 v.1 (λ i w. exit_same n m (map_at i a) (map_at i b) (map_at i e) (map_at i g) (same i w)) in
      ap (λ k. at_loop k a e) (loop_number n m named) ∙ (ap (λ z. at_loop m z e) one ∙ ap (λ z. at_loop m b z) two)
  same_note (at_join n a) (at_join m b) named u v same =
      ap (λ k. at_join k a) (join_number n m named) ∙
      ap (λ z. at_join m z) (same_maps (instances p f) a b u v (λ i w. join_same n m (map_at i a) (map_at i b) (same i w)))
  same_note (at_loop n a e) (at_join m b) named u v same = absurd (not_same n m named)
  same_note (at_join n a) (at_loop m b g) named u v same = absurd (not_same m n (sym named))

-- ---- a list of them

head_same : {A : Type 0} (a b : A) (cs ds : List A) → a ∷ cs ≡ b ∷ ds → a ≡ b
head_same a b cs ds e = cc

tail_same : {A : Type 0} (a b : A) (cs ds : List A) → a ∷ cs ≡ b ∷ ds → cs ≡ ds
tail_same a b cs ds e = cc

none_some : {A : Type 0} (b : A) (ds : List A) → [] ≡ b ∷ ds → ⊥
none_some b ds e = cc

module _ (p : Program) (f : Func) where
  same_list : (xs ys : List Note) → map named_by xs ≡ map named_by ys → All (FitsNote (instances p f)) xs → All (FitsNote (instances p f)) ys →
      ((i : ℕ) → i < many (instances p f) → map (note_at i) xs ≡ map (note_at i) ys) → xs ≡ ys
  same_list [] [] named u v same = refl
  same_list [] (y ∷ ys) named u v same = absurd (none_some (named_by y) (map named_by ys) named)
  same_list (x ∷ xs) [] named u v same = absurd (none_some (named_by x) (map named_by xs) (sym named))
  same_list (x ∷ xs) (y ∷ ys) named u v same =
      let one = same_note p f x y (head_same (named_by x) (named_by y) (map named_by xs) (map named_by ys) named) u.0 v.0
      (λ i w. head_same (note_at i x) (note_at i y) (map (note_at i) xs) (map (note_at i) ys) (same i w)) in
      let more = same_list xs ys (tail_same (named_by x) (named_by y) (map named_by xs) (map named_by ys) named) u.1 v.1
      (λ i w. tail_same (note_at i x) (note_at i y) (map (note_at i) xs) (map (note_at i) ys) (same i w)) in
      ap (λ z. z ∷ xs) one ∙ ap (λ zs. y ∷ zs) more

  same_body : (xs ys : List Note) → AreLeastNotes p f xs → AreLeastNotes p f ys → xs ≡ ys
  same_body xs ys x y = same_list xs ys (x.names ∙ sym y.names) x.fit y.fit (λ i within.
      let o = origin_at p f i within in
      one_least p (instance p f o.0) (map (note_at i) xs) (map (note_at i) ys) (x.least i o.0 o.1) (y.least i o.0 o.1))

  same_function : (xs ys : List Note) → HasLeastNotes p f xs → HasLeastNotes p f ys → xs ≡ ys
  same_function xs ys x y = by f.external refl
    where
      by : (b : Bool) → f.external ≡ b → xs ≡ ys
      by true e = x.none e ∙ sym (y.none e)
      by false e = same_body xs ys (x.body e) (y.body e)

same_all : (p : Program) (fs : List Func) (all other : List (List Note)) → HaveLeastNotes p fs all → HaveLeastNotes p fs other → all ≡ other
same_all p [] [] [] x y = refl
same_all p [] [] (b ∷ other) x y = absurd y
same_all p [] (a ∷ all) other x y = absurd x
same_all p (f ∷ fs) [] other x y = absurd x
same_all p (f ∷ fs) (a ∷ all) [] x y = absurd y
same_all p (f ∷ fs) (a ∷ all) (b ∷ other) x y =
    ap (λ z. z ∷ all) (same_function p f a b x.0 y.0) ∙ ap (λ zs. b ∷ zs) (same_all p fs all other x.1 y.1)

pub one_certificate : LeastCertificatesAreOne
one_certificate p all other x y = same_all p p.fns all other x y
