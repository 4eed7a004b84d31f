-- Propositions over lists, and decisions of the propositions that plays check.
use Rattle.std.specs.Prelude.{◌≡◌, ℕ, ◌≤◌, Bool, true, false, T, List, [], ◌∷◌}
use Rattle.std.proofs.Math.Decide.{ℕ_discrete, dec_le}

-- P holds of each of a list.
abbrev pub All : {A : Type 0} → (A → Type 0) → List A → Type 0
All P [] = Unit {0}
All P (a ∷ l) = P a × All P l

-- D holds place by place, and the lists are as long as each other.
abbrev pub Every : {A B : Type 0} → (A → B → Type 0) → List A → List B → Type 0
Every D [] [] = Unit {0}
Every D [] (b ∷ bs) = ⊥
Every D (a ∷ l) [] = ⊥
Every D (a ∷ l) (b ∷ bs) = D a b × Every D l bs

-- Decisions: a thing and its opposite, two at once, each of a list, place by place, a test, equal numbers, a number within a bound.
unfoldable pub not? : {P : Type 0} → Dec P → Dec (¬ P)
not? (yes p) = no (λ n. n p)
not? (no n) = yes n

unfoldable pub both? : {P Q : Type 0} → Dec P → Dec Q → Dec (P × Q)
both? (yes p) (yes q) = yes (p, q)
both? (yes p) (no n) = no (λ h. n h.1)
both? (no n) (yes q) = no (λ h. n h.0)
both? (no n) (no k) = no (λ h. n h.0)

unfoldable pub all? : {A : Type 0} {P : A → Type 0} → ((a : A) → Dec (P a)) → (l : List A) → Dec (All P l)
all? d [] = yes tt
all? d (a ∷ l) = both? (d a) (all? d l)

unfoldable pub every? : {A B : Type 0} {P : A → B → Type 0} → ((a : A) (b : B) → Dec (P a b)) → (l : List A) (k : List B) → Dec (Every P l k)
every? d [] [] = yes tt
every? d [] (b ∷ k) = no (λ h. h)
every? d (a ∷ l) [] = no (λ h. h)
every? d (a ∷ l) (b ∷ k) = both? (d a b) (every? d l k)

unfoldable pub true? : (b : Bool) → Dec (T b)
true? true = yes tt
true? false = no (λ h. h)

unfoldable pub same? : (a b : ℕ) → Dec (a ≡ b)
same? = ℕ_discrete

unfoldable pub within? : (a b : ℕ) → Dec (a ≤ b)
within? = dec_le
