-- A sumcheck over the numbers alone: messages, challenges, the claim that is carried, and the true messages.
--
-- A sum of W(x)·g(x) over the corners x is claimed, W and g being functions of the draws. Each step sends h0 and h2, draws r, and goes
-- on with the first free variable bound at r: binding is application, so W is followed by x ↦ W(r, x).
use Rattle.std.specs.Prelude.{◌≡◌, ℕ, suc, List, [], ◌∷◌, map}
use Rattle.ring.specs.Ring.{Ops}
use Rattle.multilinear.specs.Tables.{cube}
use Rattle.ring.specs.Polynomials.{value as at, minus}
use Rattle.argument.specs.Roots.{Root}

-- a message, h0 and h2, and the challenge r that is drawn after it
pub record Step (E : Type 0) : Type 0 where
  pub h0 : E
  pub h2 : E
  pub r : E

abbrev pub draws : {E : Type 0} → List (Step E) → List E
draws ss = map (λ s. s.r) ss

-- the number of variables before the steps, n being left after them
abbrev pub before : {E : Type 0} → List (Step E) → ℕ → ℕ
before [] n = n
before (s ∷ ss) n = suc (before ss n)

-- a challenge of the steps that meets a root: this step's, or a later one's
pub data AtStep (Here Later : Type 0) : Type 0 where
  here : Here → AtStep Here Later
  later : Later → AtStep Here Later

module _ {E : Type 0} (F : Ops E) where
  open F use {zero as 𝟘, one as 𝟙, add as ◌⊕◌, sub as ◌⊖◌, mul as ◌⊗◌}

  infixl 60 ◌⊕◌
  infixl 60 ◌⊖◌
  infixl 70 ◌⊗◌
  -- the polynomial of a message under the claim c: h0 + (c − 2·h0 − h2)·X + h2·X², whose values at 0 and 1 add up to c
  abbrev pub message : E → E → E → List E
  message h0 h2 c = h0 ∷ ((c ⊖ (h0 ⊕ h0)) ⊖ h2) ∷ h2 ∷ []

  -- the claim after the steps
  abbrev pub after : E → List (Step E) → E
  after c [] = c
  after c (s ∷ ss) = after (at F (message s.h0 s.h2 c) s.r) ss

  -- how much f grows as its first variable goes from 0 to 1
  abbrev pub rise : (List E → E) → List E → E
  rise f x = f (𝟙 ∷ x) ⊖ f (𝟘 ∷ x)

  -- the true message: the sum of W·g over the corners of n variables, with the next variable X, by its coefficients
  abbrev pub true0 : ℕ → (W g : List E → E) → E
  true0 n W g = cube F n (λ x. W (𝟘 ∷ x) ⊗ g (𝟘 ∷ x))

  abbrev pub true1 : ℕ → (W g : List E → E) → E
  true1 n W g = cube F n (λ x. W (𝟘 ∷ x) ⊗ rise g x ⊕ rise W x ⊗ g (𝟘 ∷ x))

  abbrev pub true2 : ℕ → (W g : List E → E) → E
  true2 n W g = cube F n (λ x. rise W x ⊗ rise g x)

  abbrev pub true_message : ℕ → (W g : List E → E) → List E
  true_message n W g = true0 n W g ∷ true1 n W g ∷ true2 n W g ∷ []

  -- every message is the true one, n variables being left after the steps
  abbrev pub TrueSteps : List (Step E) → ℕ → (W g : List E → E) → Type 0
  TrueSteps [] n W g = Unit {0}
  TrueSteps (s ∷ ss) n W g =
      record {
        first : s.h0 ≡ true0 (before ss n) W g;
        last : s.h2 ≡ true2 (before ss n) W g;
        rest : TrueSteps ss n (λ x. W (s.r ∷ x)) (λ x. g (s.r ∷ x));
      }

  -- some step's challenge is a root of its message's error, the message minus the true one, and that error is not zero
  abbrev pub MessageRoot : List (Step E) → ℕ → (W g : List E → E) → E → Type 0
  MessageRoot [] n W g c = ⊥
  MessageRoot (s ∷ ss) n W g c =
      AtStep (Root F (minus F (message s.h0 s.h2 c) (true_message (before ss n) W g)) s.r)
      (MessageRoot ss n (λ x. W (s.r ∷ x)) (λ x. g (s.r ∷ x)) (at F (message s.h0 s.h2 c) s.r))
