-- Reading digits one by one.
use Rattle.std.proofs.Common.{◌≡◌, ℕ, ◌+◌, ◌-◌, ◌*◌, ◌^◌, ◌<◌, min, eqb, ltb, List, [], ◌∷◌, take, drop, sym, ap, ◌∙◌, arith}
use Rattle.std.specs.List.{fold}
use Rattle.std.proofs.lemmas.Bool.{ne_eqb, lt-ltb, cond-true, cond-false}
use Rattle.format.specs.Reading.{found, digit_count, digits_of, value_after, number}

-- a sum of digits that stops at 2^128 - 1 stops where there is room for no more
pub capped : (ds : List ℕ) (value n : ℕ) → value ≡ min n (2 ^ 128 - 1)
    → fold (λ v d. min (min (v * 10) (2 ^ 128 - 1) + (d - 48)) (2 ^ 128 - 1)) value ds ≡ min (2 ^ 128 - 1) (value_after n ds)
capped [] value n e = omega (arith, e)
capped (d ∷ ds) value n e = capped ds (min (min (value * 10) (2 ^ 128 - 1) + (d - 48)) (2 ^ 128 - 1)) (n * 10 + (d - 48)) (omega (arith, e))

pub small_number : (bs : List ℕ) (count value : ℕ) → count ≡ digit_count bs → (count ≡ 0 → ⊥) → value ≡ min (2 ^ 128 - 1) (value_after 0 (take count bs))
    → value < 2 ^ 64 → number bs ≡ found value (drop count bs)
unfolding number
small_number bs count value e z v h =
    let v2 = v ∙ ap (λ k. min (2 ^ 128 - 1) (value_after 0 (take k bs))) e in
    let small : value_after 0 (digits_of bs) < 2 ^ 64 = omega (arith, v2) in
    let same : value_after 0 (digits_of bs) ≡ value = omega (arith, v2) in
    cond-false (eqb (digit_count bs) 0) _ _ (ne_eqb _ _ (λ k. z (e ∙ k)))
    ∙ cond-true (ltb (value_after 0 (digits_of bs)) (2 ^ 64)) _ _ (lt-ltb _ _ small)
    ∙ ap (λ n. found n (drop (digit_count bs) bs)) same ∙ ap (λ k. found value (drop k bs)) (sym e)
