-- One turn of each loop, and its end, over plain values.
use Rattle.std.proofs.Common.{◌≡◌, ℕ, suc, ◌+◌, ◌-◌, ◌*◌, ◌/◌, ◌^◌, ◌<◌, ◌≤◌, List, [], ◌∷◌, ◌++◌, length, get_or, take, drop, set, reverse, sym, refl, ap, ◌∙◌, ap₂, add-zero, add-one, arith, append_assoc, length-append, length-drop, length-set, drop_of_length-le, take_all, length-take, get_or-drop, drop-cons, drop-drop, drop-set-lt, take-add, pow_mono}
use native.Mathlib.Nat.{pow-succ'}
use Rattle.std.proofs.lemmas.List.{take_more, take_more_set, get_or-set_same, append-nil, reverse-append, take-append-le, drop-append-le, take-append-drop}
use Rattle.std.proofs.lemmas.List.Sums.{fold-append}
use Rattle.std.specs.List.{fold, zip}
use Rattle.ring.specs.Ring.{Ops, IsRing}
use Rattle.multilinear.specs.Tables.{product, eq_factor, value}
use Rattle.multilinear.specs.Weights.{weighted}
use Rattle.ring.specs.Polynomials.{value as at}
use Rattle.multilinear.specs.Univariate.{pow, expand}
use Rattle.multilinear.specs.Scratch.{mixed, bound, spent}
use Rattle.multilinear.proofs.Algebra as A
use Rattle.multilinear.proofs.Corners as C
use Rattle.multilinear.proofs.Digits.{pow-add}
use Rattle.multilinear.proofs.Halving.{value_mixed, weighted_one, mixed_push, length_mixed}

-- the element at i and what is behind it
pub front : {E : Type 0} (p : List E) (i : ℕ) (a : E) → i < length p → a ≡ get_or p i a → drop i p ≡ a ∷ drop (i + 1) p
front p i a h e = drop-cons p i a h ∙ ap₂ (λ b n. b ∷ drop n p) (sym e) (sym (add-one i))

module _ {E : Type 0} (F : Ops E) (L : IsRing F) where
  open F use {zero as 𝟘, one as 𝟙, add as ◌⊕◌, sub as ◌⊖◌, mul as ◌⊗◌}

  infixl 60 ◌⊕◌
  infixl 60 ◌⊖◌
  infixl 70 ◌⊗◌
  -- a product over the coordinates, as a fold over the pairs of coordinates
  fold_from : (f : E → E → E) (s : E) (p x : List E) → fold (λ z (q : E × E). z ⊗ f q.0 q.1) s (zip p x) ≡ s ⊗ product F f p x
  unfolding product
  fold_from f s [] [] = sym (A.mul-one F L s)
  fold_from f s [] (b ∷ x) = sym (A.mul-one F L s)
  fold_from f s (a ∷ p) [] = sym (A.mul-one F L s)
  fold_from f s (a ∷ p) (b ∷ x) = fold_from f (s ⊗ f a b) p x ∙ A.massoc F L s (f a b) (product F f p x)

  pub fold_product : (f : E → E → E) (s : E) (p x : List E) → s ≡ 𝟙 → fold (λ z (q : E × E). z ⊗ f q.0 q.1) s (zip p x) ≡ product F f p x
  fold_product f s p x e = fold_from f s p x ∙ ap (λ z. z ⊗ product F f p x) e ∙ A.one-mul F L (product F f p x)

  -- running squares, from the last coordinate on
  one_left : (n j : ℕ) → 0 < j → j ≤ n → n - (j - 1) ≡ suc (n - j)
  one_left n j p l = omega arith

  pub squares_none : (v : E) → v ≡ pow F v (2 ^ 0)
  unfolding pow
  squares_none v = sym (A.mul-one F L v)

  pub squares_step : (v p q : E) (k : ℕ) → p ≡ pow F v (2 ^ k) → q ≡ p ⊗ p → q ≡ pow F v (2 ^ suc k)
  squares_step v p q k e eq =
      let d : 2 ^ suc k ≡ 2 ^ k + 2 ^ k = omega (arith, pow-succ' 2 k) in
      eq ∙ ap₂ (λ a b. a ⊗ b) e e ∙ sym (pow-add F L v (2 ^ k) (2 ^ k)) ∙ ap (pow F v) (sym d)

  pub squares_start : (v : E) (n : ℕ) → v ≡ pow F v (2 ^ (n - n))
  squares_start v n =
      let z : n - n ≡ 0 = omega arith in
      squares_none v ∙ ap (λ k. pow F v (2 ^ k)) (sym z)

  pub squares_more : (v p q : E) (n j : ℕ) → 0 < j → j ≤ n → p ≡ pow F v (2 ^ (n - j)) → q ≡ p ⊗ p → q ≡ pow F v (2 ^ (n - (j - 1)))
  squares_more v p q n j pos le e eq = squares_step v p q (n - j) e eq ∙ ap (λ k. pow F v (2 ^ k)) (sym (one_left n j pos le))

  -- the coordinates before `done` are still to come, and `done` is weighed
  pub record Weighed (f : E → E → E) (v : E) (x rest : List E) (power all : E) : Type 0 where
    pub done : List E
    pub split : rest ++ done ≡ x
    pub power_is : power ≡ pow F v (2 ^ length done)
    pub all_is : all ≡ product F f (expand F v (length done)) done

  pub weighed_none : (f : E → E → E) (v : E) (x rest : List E) (s : E) → rest ≡ x → s ≡ 𝟙 → Weighed f v x rest v s
  unfolding product expand
  weighed_none f v x rest s e es = record { done = []; split = append-nil rest ∙ e; power_is = squares_none v; all_is = es }

  pub weighed_more : (f : E → E → E) (v : E) (x rest rest' : List E) (p b t q s m : E) → rest ≡ rest' ++ (b ∷ []) → t ≡ f p b → m ≡ t ⊗ s → q ≡ p ⊗ p → Weighed f v x rest p s → Weighed f v x rest' q m
  unfolding product expand
  weighed_more f v x rest rest' p b t q s m e et em eq w = record {
    done = b ∷ w.done;
    split = sym (append_assoc rest' (b ∷ []) w.done) ∙ ap (λ l. l ++ w.done) (sym e) ∙ w.split;
    power_is = squares_step v p q (length w.done) w.power_is eq;
    all_is = em ∙ ap₂ (λ y z. y ⊗ z) (et ∙ ap (λ y. f y b) w.power_is) w.all_is;
  }

  pub weighed_all : (f : E → E → E) (v : E) (x rest : List E) (p s : E) → rest ≡ [] → Weighed f v x rest p s → s ≡ product F f (expand F v (length x)) x
  weighed_all f v x rest p s e w =
      let same : w.done ≡ x = ap (λ l. l ++ w.done) (sym e) ∙ w.split in
      w.all_is ∙ ap (λ l. product F f (expand F v (length l)) l) same

  -- the expansion, written from the last place on
  pub expand_none : (v : E) (out : List E) (j : ℕ) → j ≡ length out → drop j out ≡ expand F v (length out - j)
  unfolding expand
  expand_none v out j e =
      let z : length out - j ≡ 0 = omega arith in
      drop_of_length-le out (omega arith) ∙ ap (expand F v) (sym z)

  pub expand_more : (v p : E) (out : List E) (n j : ℕ) → length out ≡ n → 0 < j → j ≤ n → p ≡ pow F v (2 ^ (n - j)) → drop j out ≡ expand F v (n - j) → drop (j - 1) (set out (j - 1) p) ≡ expand F v (n - (j - 1))
  unfolding expand
  expand_more v p out n j l pos le ep inv =
      let lt : j - 1 < length out = omega arith in
      let lt' : j - 1 < length (set out (j - 1) p) = simp length-set (omega arith) in
      let s : j - 1 + 1 ≡ j = omega arith in
      front (set out (j - 1) p) (j - 1) p lt' (sym (get_or-set_same out (j - 1) p p lt))
      ∙ ap₂ (λ a r. a ∷ r) ep (ap (λ k. drop k (set out (j - 1) p)) s ∙ drop-set-lt j out (j - 1) p (omega arith) ∙ inv)
      ∙ ap (expand F v) (sym (one_left n j pos le))

  -- Horner's rule, from the last value on
  horner : (vs : List E) (a : E) → fold (λ z v. z ⊗ a ⊕ v) 𝟘 (reverse vs) ≡ at F vs a
  horner [] a = refl
  horner (v ∷ vs) a =
      let turn : E → E → E = λ z w. z ⊗ a ⊕ w in
      ap (fold turn 𝟘) (reverse-append (v ∷ []) vs) ∙ fold-append turn 𝟘 (reverse vs) (v ∷ [])
      ∙ ap (λ z. z ⊗ a ⊕ v) (horner vs a) ∙ A.comm F L (at F vs a ⊗ a) v ∙ ap (λ z. v ⊕ z) (A.mcomm F L (at F vs a) a)

  pub fold_horner : (vs : List E) (a s : E) → s ≡ 𝟘 → fold (λ z v. z ⊗ a ⊕ v) s (reverse vs) ≡ at F vs a
  fold_horner vs a s e = ap (λ z. fold (λ y v. y ⊗ a ⊕ v) z (reverse vs)) e ∙ horner vs a

  -- a table by its halves
  pub halves_none : (f : E → E → E) (t x : List E) (v : E) → x ≡ [] → length t ≡ 2 ^ length x → v ≡ get_or t 0 v → v ≡ weighted F f t x
  halves_none f t x v e lt is = only f t v (lt ∙ ap (λ l. 2 ^ length l) e) is ∙ ap (weighted F f t) (sym e)
    where
      only : (f : E → E → E) (t : List E) (v : E) → length t ≡ 1 → v ≡ get_or t 0 v → v ≡ weighted F f t []
      only f [] v h e = absurd (omega arith)
      only f (w ∷ t) v h e = e ∙ sym (weighted_one F L f w t)

  pub half_size : (t lo hi x rest : List E) (p : E) → x ≡ p ∷ rest → length t ≡ 2 ^ length x → length lo ≡ length t / 2 → length hi + length t / 2 ≡ length t
      → (length lo ≡ 2 ^ length rest) × (length hi ≡ 2 ^ length rest)
  half_size t lo hi x rest p e size el eh =
      let two : 2 ^ length x ≡ 2 * 2 ^ length rest = ap (λ l. 2 ^ length l) e ∙ pow-succ' 2 (length rest) in
      (omega arith, omega arith)

  pub halves_more : (f : E → E → E) (t lo hi x rest : List E) (p low high fz fo m1 m2 r : E) → x ≡ p ∷ rest → t ≡ lo ++ hi → length lo ≡ 2 ^ length rest
      → low ≡ weighted F f lo rest → high ≡ weighted F f hi rest → fz ≡ f p 𝟘 → fo ≡ f p 𝟙 → m1 ≡ fz ⊗ low → m2 ≡ fo ⊗ high → r ≡ m1 ⊕ m2 → r ≡ weighted F f t x
  halves_more f t lo hi x rest p low high fz fo m1 m2 r ex et ll el eh ez eo e1 e2 er =
      let sum : r ≡ f p 𝟘 ⊗ weighted F f lo rest ⊕ f p 𝟙 ⊗ weighted F f hi rest = cc in
      sum ∙ sym (C.weighted_halves F L f p rest lo hi ll) ∙ sym (ap₂ (weighted F f) et ex)

  -- binding a variable in place: the lower half e becomes b, place by place, the upper half being d
  pub record Binds (r : E) (e d b : List E) (i : ℕ) : Type 0 where
    pub done : take i b ≡ mixed F r (take i e) (take i d)
    pub rest : drop i b ≡ drop i e

  pub bind_none : (r : E) (e d : List E) → Binds r e d e 0
  unfolding mixed
  bind_none r e d = record { done = refl; rest = refl }

  pub bind_more : (r : E) (e d b : List E) (i : ℕ) (low high m : E) → i < length e → i < length d → length b ≡ length e → low ≡ get_or b i low → high ≡ get_or d i high → m ≡ low ⊕ r ⊗ (high ⊖ low)
      → Binds r e d b i → Binds r e d (set b i m) (i + 1)
  bind_more r e d b i low high m below room len is-low is-high is_m inv =
      let low_e : low ≡ get_or e i low =
      is-low ∙ ap (λ k. get_or b k low) (sym (add-zero i)) ∙ sym (get_or-drop i b 0 low) ∙ ap (λ l. get_or l 0 low) inv.rest ∙ get_or-drop i e 0 low ∙ ap (λ k. get_or e k low) (add-zero i) in
      let more_e : take (i + 1) e ≡ take i e ++ (low ∷ []) = take_more e i low below ∙ ap (λ z. take i e ++ (z ∷ [])) (sym low_e) in
      let more_d : take (i + 1) d ≡ take i d ++ (high ∷ []) = take_more d i high room ∙ ap (λ z. take i d ++ (z ∷ [])) (sym is-high) in
      let same : length (take i e) ≡ length (take i d) = simp length-take (omega arith) in record {
        done = take_more_set b i m (omega arith) ∙ ap₂ (λ l z. l ++ (z ∷ [])) inv.done is_m ∙ sym (ap₂ (mixed F r) more_e more_d ∙ mixed_push F L r (take i e) (take i d) low high same);
        rest = drop-set-lt (i + 1) b i m (omega arith) ∙ sym (drop-drop 1 i b) ∙ ap (drop 1) inv.rest ∙ drop-drop 1 i e;
      }

  pub bind_all : (r : E) (s e d b : List E) (half i : ℕ) → half + half ≤ length s → e ≡ take half s → d ≡ drop half s → length e ≡ half → length b ≡ length e → length e ≤ i → i ≤ length e → Binds r e d b i → b ++ d ≡ bound F r half s
  unfolding bound
  bind_all r s e d b half i room es ds le lb ge most inv =
      let same : i ≡ half = omega arith in
      let front : take i b ≡ b = take_all i b (omega arith) in
      let all : b ≡ mixed F r (take half s) (take half (drop half s)) =
      sym front ∙ inv.done ∙ ap₂ (mixed F r) (take_all i e (omega arith) ∙ es) (ap₂ take same ds) in
      ap₂ (λ x y. x ++ y) all ds

  length_bound : (r : E) (half : ℕ) (e : List E) → half + half ≤ length e → length (bound F r half e) ≡ length e
  unfolding bound
  length_bound r half e h =
      let a : length (take half e) ≡ length (take half (drop half e)) = simp (length-take, length-drop) (omega arith) in
      let m : length (mixed F r (take half e) (take half (drop half e))) ≡ length (take half e) = length_mixed F L r (take half e) (take half (drop half e)) a in
      length-append (mixed F r (take half e) (take half (drop half e))) (drop half e) ∙ simp (m, length-take, length-drop) (omega arith)

  -- evaluation in place
  take_bound : (r : E) (half : ℕ) (e : List E) → half + half ≤ length e → take half (bound F r half e) ≡ mixed F r (take half e) (take half (drop half e))
  unfolding bound
  take_bound r half e h =
      let a : length (take half e) ≡ length (take half (drop half e)) = simp (length-take, length-drop) (omega arith) in
      let m : length (mixed F r (take half e) (take half (drop half e))) ≡ length (take half e) = length_mixed F L r (take half e) (take half (drop half e)) a in
      let l : length (mixed F r (take half e) (take half (drop half e))) ≡ half = m ∙ simp length-take (omega arith) in
      ap (λ k. take k (mixed F r (take half e) (take half (drop half e)) ++ drop half e)) (sym l) ∙ lib.Seq.take-append_seam (mixed F r (take half e) (take half (drop half e))) (drop half e)

  -- the part of a slice behind the table in its front stays
  bound_front : (r : E) (half : ℕ) (a b : List E) → half + half ≤ length a → bound F r half (a ++ b) ≡ bound F r half a ++ b
  unfolding bound
  bound_front r half a b h =
      let behind : drop half (a ++ b) ≡ drop half a ++ b = drop-append-le half a b (omega arith) in
      let room : half ≤ length (drop half a) = simp length-drop (omega arith) in
      let upper : take half (drop half (a ++ b)) ≡ take half (drop half a) = ap (take half) behind ∙ take-append-le half (drop half a) b room in
      ap₂ (λ x y. x ++ y) (ap₂ (mixed F r) (take-append-le half a b (omega arith)) upper) behind
      ∙ sym (append_assoc (mixed F r (take half a) (take half (drop half a))) (drop half a) b)

  spent_front : (p a b : List E) → 2 ^ length p ≤ length a → spent F p (a ++ b) ≡ spent F p a ++ b
  unfolding spent
  spent_front [] a b h = refl
  spent_front (r ∷ p) a b h =
      let two : 2 ^ length (r ∷ p) ≡ 2 * 2 ^ length p = pow-succ' 2 (length p) in
      let room : 2 ^ length p + 2 ^ length p ≤ length a = omega arith in
      let same : length (bound F r (2 ^ length p) a) ≡ length a = length_bound r (2 ^ length p) a room in
      ap (spent F p) (bound_front r (2 ^ length p) a b room) ∙ spent_front p (bound F r (2 ^ length p) a) b (omega arith)

  pub spent_part : (p s : List E) (n : ℕ) → n ≡ 2 ^ length p → n ≤ length s → spent F p (take n s) ++ drop n s ≡ spent F p s
  spent_part p s n e h =
      let same : length (take n s) ≡ n = simp length-take (omega arith) in
      sym (spent_front p (take n s) (drop n s) (omega arith)) ∙ ap (spent F p) (take-append-drop n s)

  -- no variable is left
  pub value_none : (t x : List E) (v : E) → x ≡ [] → length t ≡ 2 ^ length x → v ≡ get_or t 0 v → v ≡ value F t x
  unfolding value weighted
  value_none t x v e size is = halves_none (eq_factor F) t x v e size is

  pub spent_none : (t x : List E) → x ≡ [] → t ≡ spent F x t
  unfolding spent
  spent_none t x e = ap (λ p. spent F p t) (sym e)

  -- a table t with its first variable bound is b, whose front half has its value at the coordinates that are left
  pub record Leads (t x b rest : List E) : Type 0 where
    pub left_is : length b / 2 ≡ 2 ^ length rest
    pub fits : length b / 2 ≤ length b
    pub value_is : value F (take (length b / 2) b) rest ≡ value F t x
    pub spent_is : spent F rest b ≡ spent F x t

  spent_next : (r : E) (p t b : List E) (half : ℕ) → half ≡ 2 ^ length p → b ≡ bound F r half t → spent F p b ≡ spent F (r ∷ p) t
  unfolding spent
  spent_next r p t b half e eb = ap (spent F p) (eb ∙ ap (λ k. bound F r k t) e)

  pub bind_leads : (r : E) (t x b rest : List E) → x ≡ r ∷ rest → length t ≡ 2 ^ length x → b ≡ bound F r (length t / 2) t → Leads t x b rest
  bind_leads r t x b rest next size is_b =
      let half = length t / 2 in
      let two : 2 ^ length x ≡ 2 * 2 ^ length rest = ap (λ l. 2 ^ length l) next ∙ pow-succ' 2 (length rest) in
      let room : half + half ≤ length t = omega arith in
      let same : length b ≡ length t = ap length is_b ∙ length_bound r half t room in
      let part : length b / 2 ≡ half = ap (λ n. n / 2) same in
      let la : length (take half t) ≡ 2 ^ length rest = simp length-take (omega arith) in
      let lb : length (take half (drop half t)) ≡ 2 ^ length rest = simp (length-take, length-drop) (omega arith) in
      let whole : take half t ++ take half (drop half t) ≡ t = sym (take-add half half t) ∙ take_all (half + half) t (omega arith) in record {
        left_is = omega arith;
        fits = omega arith;
        value_is = ap₂ (λ k l. value F (take k l) rest) part is_b ∙ ap (λ l. value F l rest) (take_bound r half t room)
            ∙ sym (value_mixed F L r rest (take half t) (take half (drop half t)) la lb) ∙ ap₂ (value F) whole (sym next);
        spent_is = spent_next r rest t b half (omega arith) is_b ∙ ap (λ p. spent F p t) (sym next);
      }

-- no room for a table of more variables than a word can count
pub size_past : (n room : ℕ) → 2 ^ 32 ≤ n → room < 2 ^ 64 → room < 2 ^ n
size_past n room h r =
    let big : 64 ≤ n = omega arith in
    let up : 2 ^ 64 ≤ 2 ^ n = pow_mono big in
    omega arith
