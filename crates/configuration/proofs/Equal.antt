-- `eq` of two iterators of numbers is the comparison of their lists.
use Rattle.std.proofs.Common.{◌≡◌, ℕ, Bool, true, false, ◌&&◌, eqb, List, [], ◌∷◌, ◌++◌, None, Some, Option, MatchOption, IfSome, sym, refl, ap, ◌∙◌, subst}
use Rattle.std.specs.Iterator.{AlwaysYields, YieldsThen, ComparesItemsByEq}
use Rattle.std.specs.List.{AllZip}
use Rattle.std.proofs.lemmas.Iterator.{YieldsList}
use Rattle.configuration.specs.Phases.{same}

-- what the next answer of a run says of the items that are still to come
Next : Option ℕ → List ℕ → Type 0
Next o rest = MatchOption o (rest ≡ []) (λ x. (more : List ℕ) × (rest ≡ x ∷ more))

-- what is left of a list after the items of a run
rest_of : {S : Type 0} (steps : S → Option ℕ → S → Type 0) (s u : S) (xs all : List ℕ) (o : Option ℕ) → AlwaysYields steps (λ x. x) s all
    → YieldsThen steps s xs o u → (rest : List ℕ) × (all ≡ xs ++ rest) × Next o rest
unfolding Next
rest_of steps s u [] [] None a y = ([], refl, refl)
rest_of steps s u [] [] (Some x) a y = absurd (a x u (subst (λ k. steps k (Some x) u) (sym y.1) y.2))
rest_of steps s u [] (b ∷ all) None a y = absurd (a.0 u (subst (λ k. steps k None u) (sym y.1) y.2))
rest_of steps s u [] (b ∷ all) (Some x) a y =
    let h = a.1 x u (subst (λ k. steps k (Some x) u) (sym y.1) y.2) in (b ∷ all, refl, (all, ap (λ z. z ∷ all) (sym h.0)))
rest_of steps s u (x ∷ xs) [] o a y = absurd (a x y.1.0 y.1.1)
rest_of steps s u (x ∷ xs) (b ∷ all) o a y =
    let h = a.1 x y.1.0 y.1.1 in
    let r = rest_of steps y.1.0 u xs all o h.1 (y.0, y.1.2, y.2) in
    (r.0, ap (λ z. z ∷ all) (sym h.0) ∙ ap (λ z. x ∷ z) r.1, r.2)

-- what begins alike is the same where the rests are
same_begun : (xs ys ms ns : List ℕ) → AllZip (λ x y. eqb x y ≡ true) xs ys → same (xs ++ ms) (ys ++ ns) ≡ same ms ns
same_begun [] [] ms ns h = refl
same_begun [] (y ∷ ys) ms ns h = absurd h
same_begun (x ∷ xs) [] ms ns h = absurd h
same_begun (x ∷ xs) (y ∷ ys) ms ns h = ap (λ b. b && same (xs ++ ms) (ys ++ ns)) h.0 ∙ same_begun xs ys ms ns h.1

-- what the two answers that end `eq` say of the rests
same_rest : (ms ns : List ℕ) (o p : Option ℕ) (r : Bool) → Next o ms → Next p ns
    → MatchOption o (MatchOption p (r ≡ true) (λ _. r ≡ false)) (λ x. (r ≡ false) × IfSome p (λ y. eqb x y ≡ false)) → r ≡ same ms ns
unfolding Next
same_rest ms ns None None r a b e = rw (a, b) e
same_rest ms ns None (Some y) r a b e = rw (a, b.1) e
same_rest ms ns (Some x) None r a b e = rw (a.1, b) e.0
same_rest ms ns (Some x) (Some y) r a b e = rw (a.1, b.1, e.1) e.0

-- the answer of `eq`
pub eq_from_yields_List : {S T : Type 0} {steps : S → Option ℕ → S → Type 0} {others : T → Option ℕ → T → Type 0} {s : S} {t : T} (ms ns : List ℕ) (r : Bool)
    → ComparesItemsByEq steps (λ x y. y ≡ x) others s t eqb r → YieldsList steps (λ x. x) s ms → YieldsList others (λ x. x) t ns → r ≡ same ms ns
eq_from_yields_List {S} {T} {steps} {others} {s} {t} ms ns r c a b =
    let first = rest_of steps s c.5 c.1 ms c.3 a.runs c.8 in
    let second = rest_of others t c.6 c.2 ns c.4 b.runs (subst (λ k. YieldsThen others k c.2 c.4 c.6) c.7 c.9) in
    same_rest first.0 second.0 c.3 c.4 r first.2 second.2 c.11 ∙ sym (same_begun c.1 c.2 first.0 second.0 c.10)
    ∙ sym (ap (λ z. same z ns) first.1 ∙ ap (same (c.1 ++ first.0)) second.1)
