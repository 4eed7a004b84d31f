-- What a function of the place made of each place of an array.
use Rattle.std.proofs.Common.{◌≡◌, ℕ, zero, suc, ◌+◌, ◌<◌, ◌≤◌, List, get_or, map, ◌∙◌, subst, ⊎_elim, arith}
use denote.Param.Members.{Mut, Called}
use Rattle.std.specs.List.{range_with_len}
use Rattle.std.specs.Array.{IsFromFnResult, IsFromFnResultFrom}
use Rattle.std.proofs.lemmas.Bool.{cases_lt}
use Rattle.std.proofs.lemmas.List.FromFn.{fill_by_all}

module _ {F : Type 0} (g : Mut F (ℕ × Unit {0}) ℕ) (h : ℕ → ℕ) (f : F) (n : ℕ) where
  -- calls from place i on that leave the function as it was, and answer h of their place
  made_from : ((k y : ℕ) (q : F) → k < n → Called g f (k, tt) y q → (y ≡ h k) × (q ≡ f))
      → (ys : List ℕ) (i m : ℕ)
      → i + m ≤ n
      → IsFromFnResultFrom g f ys i m
      → (k : ℕ)
      → i ≤ k
      → k < i + m
      → get_or ys k 0 ≡ h k
  made_from gives ys i zero le made k low high = absurd (omega arith)
  made_from gives ys i (suc m) le made k low high =
      let here = gives i made.1 made.0 (omega arith) made.3 in
      let rest : IsFromFnResultFrom g f ys (i + 1) m = subst (λ (p : F). IsFromFnResultFrom g p ys (i + 1) m) here.1 made.4 in
      ⊎_elim (λ lt. made_from gives ys (i + 1) m (omega arith) rest k (omega arith) (omega arith))
      (λ ge. let same : k ≡ i = omega arith in rw same (made.2.1 0 ∙ here.0))
      (cases_lt i k)

  -- an array of what such calls answered
  pub made : ((k y : ℕ) (q : F) → k < n → Called g f (k, tt) y q → (y ≡ h k) × (q ≡ f))
      → (ys : List ℕ)
      → IsFromFnResult g f ys n
      → ys ≡ map h (range_with_len 0 n)
  made gives ys m =
      fill_by_all h ys n 0 m.long (λ k lt. made_from gives ys 0 n (omega arith) m.each k (omega arith) (omega arith))
