-- The positions that come of drawing: how many, and that each is one.
use Rattle.std.proofs.Common.{◌≡◌, ℕ, zero, suc, ◌+◌, ◌-◌, ◌*◌, ◌%◌, ◌^◌, ◌<◌, ◌≤◌, Bool, true, false, eqb, List, [], ◌∷◌, ◌++◌, length, sum_by, sym, refl, ap, ◌∙◌, subst, arith, pow_pos, pow-add}
use Rattle.std.specs.List.{AllByRecursion}
use Rattle.std.proofs.lemmas.Nat.{mul-add-lt, mod_below}
use Rattle.std.proofs.lemmas.List.{length-append}
use Rattle.std.proofs.lemmas.List.Sums.{sum_by-cons}
use Rattle.std.proofs.lemmas.Bool.{cond-false, ne_eqb}
use Rattle.sponge.specs.Play.{Rules, Play, each, counted, read}
use Rattle.sponge.specs.Drawing.{draw_bits}
use Rattle.transcript.specs.Depths.{depths, Falling}
use Rattle.transcript.specs.Positions.{index_drawn, indices_drawn, strata_drawn, some_drawn, positions_at, PositionsPlaced}
use Rattle.transcript.proofs.Summing.{depths_sum, looser}
use Rattle.transcript.proofs.Describing.{counted_length}

all_append : (P : ℕ → Type 0) (xs ys : List ℕ) → AllByRecursion P xs → AllByRecursion P ys → AllByRecursion P (xs ++ ys)
all_append P [] ys f g = g
all_append P (x ∷ xs) ys f g = (f.0, all_append P xs ys f.1 g)

counted_within : (bound k n : ℕ) → k + n ≤ bound → AllByRecursion (λ p. p < bound) (counted k n)
counted_within bound k zero h = tt
counted_within bound k (suc n) h = (omega arith, counted_within bound (suc k) n (omega arith))

each_count : (m : Rules) (s : List ℕ) (f : ℕ → Play ⊥ ℕ) (js : List ℕ) → length (read m s (each f js)).value ≡ length js
unfolding each
each_count m s f [] = refl
each_count m s f (j ∷ js) = ap suc (each_count m (read m s (f j)).list f js)

each_holds : (m : Rules) (s : List ℕ) (f : ℕ → Play ⊥ ℕ) (P Q : ℕ → Type 0) (js : List ℕ) → ((u : List ℕ) (j : ℕ) → Q j → P (read m u (f j)).value) → AllByRecursion Q js → AllByRecursion P (read m s (each f js)).value
unfolding each
each_holds m s f P Q [] h q = tt
each_holds m s f P Q (j ∷ js) h q = (h s j q.0, each_holds m (read m s (f j)).list f P Q js h q.1)

alike_below : (m : Rules) (u : List ℕ) (w j : ℕ) → (read m u (index_drawn w 0 j)).value < 2 ^ w
unfolding index_drawn draw_bits
alike_below m u w j = omega (arith, mod_below (m.word u) (2 ^ w) (pow_pos w))

part_below : (m : Rules) (u : List ℕ) (w t j : ℕ) → t < w → j < 2 ^ t → (read m u (index_drawn (w - t) (2 ^ (w - t)) j)).value < 2 ^ w
unfolding index_drawn draw_bits
part_below m u w t j h l =
    let e : w - t + t ≡ w = omega arith in
    let whole : 2 ^ (w - t) * 2 ^ t ≡ 2 ^ w = sym (pow-add 2 (w - t) t) ∙ ap (λ k. 2 ^ k) e in
    subst (λ x. j * 2 ^ (w - t) + m.word u % 2 ^ (w - t) < x) whole (mul-add-lt j (2 ^ (w - t)) (m.word u % 2 ^ (w - t)) (2 ^ t) l (mod_below (m.word u) (2 ^ (w - t)) (pow_pos (w - t))))

strata_count : (m : Rules) (s : List ℕ) (w : ℕ) (ts : List ℕ) → length (read m s (strata_drawn w ts)).value ≡ sum_by (λ t. 2 ^ t) ts
unfolding strata_drawn
strata_count m s w [] = refl
strata_count m s w (t ∷ ts) =
    let front = read m s (indices_drawn (w - t) (2 ^ (w - t)) (2 ^ t)) in
    length-append (read m s (indices_drawn (w - t) (2 ^ (w - t)) (2 ^ t))).value (read m (read m s (indices_drawn (w - t) (2 ^ (w - t)) (2 ^ t))).list (strata_drawn w ts)).value
    ∙ omega (arith, each_count m s (index_drawn (w - t) (2 ^ (w - t))) (counted 0 (2 ^ t)), counted_length 0 (2 ^ t), strata_count m front.list w ts, sum_by-cons (λ t. 2 ^ t) t ts)

strata_within : (m : Rules) (s : List ℕ) (w : ℕ) (ts : List ℕ) → Falling w ts → AllByRecursion (λ p. p < 2 ^ w) (read m s (strata_drawn w ts)).value
unfolding strata_drawn
strata_within m s w [] f = tt
strata_within m s w (t ∷ ts) f =
    all_append (λ p. p < 2 ^ w) (read m s (indices_drawn (w - t) (2 ^ (w - t)) (2 ^ t))).value (read m (read m s (indices_drawn (w - t) (2 ^ (w - t)) (2 ^ t))).list (strata_drawn w ts)).value
    (each_holds m s (index_drawn (w - t) (2 ^ (w - t))) (λ p. p < 2 ^ w) (λ j. j < 2 ^ t) (counted 0 (2 ^ t)) (λ u j q. part_below m u w t j f.0 q) (counted_within (2 ^ t) 0 (2 ^ t) (omega arith)))
    (strata_within m (read m s (indices_drawn (w - t) (2 ^ (w - t)) (2 ^ t))).list w ts (looser t w ts (omega (arith, f.0)) f.1))

everywhere : (js : List ℕ) → AllByRecursion (λ j. Unit {0}) js
everywhere [] = tt
everywhere (j ∷ js) = (tt, everywhere js)

some_placed : (m : Rules) (s : List ℕ) (stratified : Bool) (w d : ℕ) → d < 2 ^ w → (length (read m s (some_drawn stratified w d)).value ≡ d) × AllByRecursion (λ p. p < 2 ^ w) (read m s (some_drawn stratified w d)).value
some_placed m s true w d h = (strata_count m s w (depths d) ∙ (depths_sum d).whole, strata_within m s w (depths d) ((depths_sum d).falling w h))
some_placed m s false w d h = (
  each_count m s (index_drawn w 0) (counted 0 d) ∙ counted_length 0 d,
  each_holds m s (index_drawn w 0) (λ p. p < 2 ^ w) (λ j. Unit {0}) (counted 0 d) (λ u j q. alike_below m u w j) (everywhere (counted 0 d)),
)

pub positions_placed : PositionsPlaced
unfolding positions_at
positions_placed m s stratified w zero h = record { count = counted_length 0 (2 ^ w); within = counted_within (2 ^ w) 0 (2 ^ w) (omega arith) }
positions_placed m s stratified w (suc d) h =
    let p = some_placed m s stratified w (suc d) h in
    record { count = p.0 ∙ sym (cond-false (eqb (suc d) 0) (2 ^ w) (suc d) (ne_eqb (suc d) 0 (λ e. omega arith))); within = p.1 }
