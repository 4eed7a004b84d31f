-- The rounds as they are given, against the elements that they are read from.
use Rattle.std.proofs.Common.{◌≡◌, ℕ, zero, suc, ◌+◌, ◌*◌, ◌<◌, ◌≤◌, List, [], ◌∷◌, length, get_or, drop, refl, sym, ap, ◌∙◌, subst, arith}
use Rattle.std.proofs.lemmas.List.{drop_all}
use Rattle.sumcheck.specs.Rounds.{Message, Given, messages_of, rounds_given}

-- the round with this number
abbrev pub given : {E : Type 0} → (number witness : ℕ) → (h0 h2 : E) → Given E
given number witness h0 h2 = record { number = number; message = record { h0 = h0; h2 = h2 }; witness = witness }

-- as many rounds as messages
pub rounds_count : {E : Type 0} (k : ℕ) (ms : List (Message E)) (ws : List ℕ) → length (rounds_given k ms ws) ≡ length ms
rounds_count k [] ws = refl
rounds_count k (m ∷ ms) [] = ap suc (rounds_count (suc k) ms [])
rounds_count k (m ∷ ms) (w ∷ ws) = ap suc (rounds_count (suc k) ms ws)

-- the i-th has the i-th two elements, the i-th witness or 0, and its number
pub round_at : {E : Type 0} (k i j : ℕ) (l : List E) (ws : List ℕ) (d0 d2 : E) → j ≡ 2 * i → suc j < length l
    → drop i (rounds_given k (messages_of l) ws) ≡ given (k + i) (get_or ws i 0) (get_or l j d0) (get_or l (suc j) d2) ∷ drop (suc i) (rounds_given k (messages_of l) ws)
round_at k i j [] ws d0 d2 e short = absurd (omega arith)
round_at k i j (x ∷ []) ws d0 d2 e short = absurd (omega arith)
round_at k zero zero (x ∷ y ∷ l) [] d0 d2 e short = let n : k ≡ k + 0 = omega arith in cc
round_at k zero zero (x ∷ y ∷ l) (w ∷ ws) d0 d2 e short = let n : k ≡ k + 0 = omega arith in cc
round_at k zero (suc j) (x ∷ y ∷ l) ws d0 d2 e short = absurd (omega arith)
round_at k (suc i) zero (x ∷ y ∷ l) ws d0 d2 e short = absurd (omega arith)
round_at k (suc i) (suc zero) (x ∷ y ∷ l) ws d0 d2 e short = absurd (omega arith)
round_at k (suc i) (suc (suc j)) (x ∷ y ∷ l) [] d0 d2 e short =
    let n : suc k + i ≡ k + suc i = omega arith in
    round_at (suc k) i j l [] d0 d2 (omega arith) (omega arith) ∙ ap (λ n. given n 0 (get_or l j d0) (get_or l (suc j) d2) ∷ drop (suc i) (rounds_given (suc k) (messages_of l) [])) n
round_at k (suc i) (suc (suc j)) (x ∷ y ∷ l) (w ∷ ws) d0 d2 e short =
    let n : suc k + i ≡ k + suc i = omega arith in
    round_at (suc k) i j l ws d0 d2 (omega arith) (omega arith)
    ∙ ap (λ n. given n (get_or ws i 0) (get_or l j d0) (get_or l (suc j) d2) ∷ drop (suc i) (rounds_given (suc k) (messages_of l) ws)) n

-- the same as the code counts
pub rounds_from : {E : Type 0} (i : ℕ) (l : List E) (ws : List ℕ) (d0 d2 : E) → 2 * i + 1 < length l
    → drop i (rounds_given 0 (messages_of l) ws) ≡ given i (get_or ws i 0) (get_or l (2 * i) d0) (get_or l (2 * i + 1) d2) ∷ drop (i + 1) (rounds_given 0 (messages_of l) ws)
rounds_from i l ws d0 d2 short =
    let a : 0 + i ≡ i = omega arith in
    let b : suc (2 * i) ≡ 2 * i + 1 = omega arith in
    let c : suc i ≡ i + 1 = omega arith in
    round_at 0 i (2 * i) l ws d0 d2 refl (omega arith) ∙ ap (λ n. given n (get_or ws i 0) (get_or l (2 * i) d0) (get_or l (suc (2 * i)) d2) ∷ drop (suc i) (rounds_given 0 (messages_of l) ws)) a
    ∙ ap (λ n. given i (get_or ws i 0) (get_or l (2 * i) d0) (get_or l n d2) ∷ drop (suc i) (rounds_given 0 (messages_of l) ws)) b
    ∙ ap (λ n. given i (get_or ws i 0) (get_or l (2 * i) d0) (get_or l (2 * i + 1) d2) ∷ drop n (rounds_given 0 (messages_of l) ws)) c

-- there are none from the last on
pub rounds_past : {E : Type 0} (i : ℕ) (l : List E) (ws : List ℕ) → length (messages_of l) ≤ i → drop i (rounds_given 0 (messages_of l) ws) ≡ []
rounds_past i l ws h = drop_all i (rounds_given 0 (messages_of l) ws) (subst (λ n. n ≤ i) (sym (rounds_count 0 (messages_of l) ws)) h)
