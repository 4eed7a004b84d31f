-- Blocks, padding, counter and flag add no collision to those of the compression function.
use Rattle.std.proofs.Common.{◌≡◌, ℕ, zero, suc, ◌+◌, ◌-◌, ◌*◌, ◌/◌, ◌%◌, ◌<◌, ◌≤◌, ◌≢◌, ◌⊎◌, List, [], ◌∷◌, ◌++◌, length, get_or, drop, replicate, sym, refl, ap, ◌∙◌, subst, inl, inr, ⊎_elim, mod-eq_of_lt, arith}
use Rattle.std.proofs.lemmas.List.FromFn.{get_or-map-range_with_len}
use Rattle.std.proofs.lemmas.List.{ext_get_or, get_or-take, get_or-drop, get_or_append_left, get_or-append_right, get_or-replicate, get_or_past}
use Rattle.std.proofs.lemmas.Bool.{cases_lt, cases_order}
use Rattle.blake2s.specs.Blake2s.{words, word_at, padded, block, chain, before, digest, hash}
use Rattle.blake2s.specs.Laws.{Bytes, Call, inner, ending, Clash, CollisionsAreOfCompression}

-- two lists are equal or not
same_list : (xs ys : List ℕ) → (xs ≡ ys) ⊎ (xs ≢ ys)
same_list [] [] = inl refl
same_list [] (y ∷ ys) = inr (λ e. let z : ◌≡◌ {A = ℕ} 0 1 = cc in omega arith)
same_list (x ∷ xs) [] = inr (λ e. let z : ◌≡◌ {A = ℕ} 0 1 = cc in omega arith)
same_list (x ∷ xs) (y ∷ ys) =
    ⊎_elim
    (λ e. ⊎_elim (λ f. inl (cc)) (λ ne. inr (λ g. ne (cc))) (same_list xs ys))
    (λ o. inr (λ g. let e : x ≡ y = cc in ⊎_elim (λ lt. omega (arith, e)) (λ gt. omega (arith, e)) o))
    (cases_order x y)

same_number : (a b : ℕ) → (a ≡ b) ⊎ (a ≢ b)
same_number a b =
    ⊎_elim (λ e. inl e) (λ o. inr (λ e. ⊎_elim (λ lt. omega (arith, e)) (λ gt. omega (arith, e)) o)) (cases_order a b)

-- two calls with one flag are given the same, or are different
same_call : (a b : Call) → ((a.state ≡ b.state) × (a.message ≡ b.message) × (a.count ≡ b.count)) ⊎ (a ≢ b)
same_call a b =
    ⊎_elim
    (λ s.
    ⊎_elim
    (λ m.
    ⊎_elim (λ t. inl (s, m, t)) (λ ne. inr (λ e. ne (ap (λ (c : Call). c.count) e))) (same_number a.count b.count))
    (λ ne. inr (λ e. ne (ap (λ (c : Call). c.message) e)))
    (same_list a.message b.message))
    (λ ne. inr (λ e. ne (ap (λ (c : Call). c.state) e)))
    (same_list a.state b.state)

-- from a state after n blocks that both messages share, back to the first block
walk : (xs ys : List ℕ) (n : ℕ)
    → n ≤ before xs
    → n ≤ before ys
    → chain xs n ≡ chain ys n
    → ((i : ℕ) → i < n → block xs i ≡ block ys i) ⊎ Clash xs ys
unfolding chain
walk xs ys zero hx hy e = inl (λ i lt. absurd (omega (arith, lt)))
walk xs ys (suc n) hx hy e =
    ⊎_elim
    (λ same.
    ⊎_elim
    (λ below.
    inl
    (λ i lt.
    ⊎_elim (λ less. below i less) (λ le. let is : i ≡ n = omega (arith, le, lt) in ap (block xs) is ∙ same.1 ∙ ap (block ys) (sym is))
    (cases_lt i n)))
    (λ clash. inr clash)
    (walk xs ys n (omega arith) (omega arith) same.0))
    (λ ne. inr (inner xs n, inner ys n, inr (n, omega arith, refl), inr (n, omega arith, refl), ne, ap digest e))
    (same_call (inner xs n) (inner ys n))

-- a padded block has a message's bytes, and zeros after them
get_or_padded : (bs : List ℕ) (j : ℕ) → j < 64 → get_or (padded bs) j 0 ≡ get_or bs j 0
unfolding padded
get_or_padded bs j lt =
    let z : List ℕ = replicate 64 0 in
    get_or-take 64 (bs ++ z) j 0 lt
    ∙ ⊎_elim (λ left. get_or_append_left bs z 0 j left)
    (λ right.
    get_or-append_right bs z (length bs) j 0 refl right
    ∙ get_or-replicate {A = ℕ} 64 (j - length bs) 0 0 (omega (arith, lt, right))
    ∙ sym (get_or_past bs j 0 right))
    (cases_lt j (length bs))

-- byte j of block n
byte_of : (xs : List ℕ) (n j : ℕ) → j < 64 → get_or (padded (drop (64 * n) xs)) j 0 ≡ get_or xs (64 * n + j) 0
byte_of xs n j lt = get_or_padded (drop (64 * n) xs) j lt ∙ get_or-drop (64 * n) xs j 0

-- four bytes are read back from their word
record Four (a b c d a' b' c' d' : ℕ) : Type 0 where
  first : a ≡ a'
  second : b ≡ b'
  third : c ≡ c'
  fourth : d ≡ d'

four : (a b c d a' b' c' d' : ℕ)
    → a < 256
    → b < 256
    → c < 256
    → a' < 256
    → b' < 256
    → c' < 256
    → a + b * 256 + c * 65536 + d * 16777216 ≡ a' + b' * 256 + c' * 65536 + d' * 16777216
    → Four a b c d a' b' c' d'
four a b c d a' b' c' d' ha hb hc ha' hb' hc' e =
    let fd : d ≡ d' = omega arith in
    let fc : c ≡ c' = omega arith in
    let fb : b ≡ b' = omega arith in
    record { first = omega arith; second = fb; third = fc; fourth = fd }

-- word i of block n, by the bytes of the message
word_of : (xs : List ℕ) (n i : ℕ)
    → i < 16
    → get_or (block xs n) i 0
    ≡ get_or xs (64 * n + 4 * i) 0 + get_or xs (64 * n + (4 * i + 1)) 0 * 256 + get_or xs (64 * n + (4 * i + 2)) 0 * 65536
    + get_or xs (64 * n + (4 * i + 3)) 0 * 16777216
unfolding block words word_at
word_of xs n i lt =
    let bs : List ℕ = padded (drop (64 * n) xs) in
    let w : get_or (block xs n) i 0 ≡ word_at bs i = get_or-map-range_with_len (word_at bs) 0 16 i i 0 lt (omega arith) in
    let e₀ : get_or bs (4 * i) 0 ≡ get_or xs (64 * n + 4 * i) 0 = byte_of xs n (4 * i) (omega (arith, lt)) in
    let e₁ : get_or bs (4 * i + 1) 0 ≡ get_or xs (64 * n + (4 * i + 1)) 0 = byte_of xs n (4 * i + 1) (omega (arith, lt)) in
    let e₂ : get_or bs (4 * i + 2) 0 ≡ get_or xs (64 * n + (4 * i + 2)) 0 = byte_of xs n (4 * i + 2) (omega (arith, lt)) in
    let e₃ : get_or bs (4 * i + 3) 0 ≡ get_or xs (64 * n + (4 * i + 3)) 0 = byte_of xs n (4 * i + 3) (omega (arith, lt)) in
    omega (arith, w, e₀, e₁, e₂, e₃)

-- what holds at 0, 1, 2 and 3 holds below 4
one_of : (o : ℕ) → o < 4 → (P : ℕ → Type 0) → P 0 → P 1 → P 2 → P 3 → P o
one_of zero lt P p₀ p₁ p₂ p₃ = p₀
one_of (suc zero) lt P p₀ p₁ p₂ p₃ = p₁
one_of (suc (suc zero)) lt P p₀ p₁ p₂ p₃ = p₂
one_of (suc (suc (suc zero))) lt P p₀ p₁ p₂ p₃ = p₃
one_of (suc (suc (suc (suc o)))) lt P p₀ p₁ p₂ p₃ = absurd (omega (arith, lt))

-- equal blocks have equal bytes
same_byte : (xs ys : List ℕ) (n i o : ℕ)
    → Bytes xs
    → Bytes ys
    → block xs n ≡ block ys n
    → i < 16
    → o < 4
    → get_or xs (64 * n + (4 * i + o)) 0 ≡ get_or ys (64 * n + (4 * i + o)) 0
same_byte xs ys n i o bx by e lt small =
    let at : ℕ → ℕ = λ p. 64 * n + (4 * i + p) in
    let q : 64 * n + 4 * i ≡ at 0 = omega arith in
    let word : get_or xs (at 0) 0 + get_or xs (at 1) 0 * 256 + get_or xs (at 2) 0 * 65536 + get_or xs (at 3) 0 * 16777216
    ≡ get_or ys (at 0) 0 + get_or ys (at 1) 0 * 256 + get_or ys (at 2) 0 * 65536 + get_or ys (at 3) 0 * 16777216 =
    omega
    (arith, word_of xs n i lt, word_of ys n i lt, ap (λ (b : List ℕ). get_or b i 0) e, ap (λ p. get_or xs p 0) q, ap (λ p. get_or ys p 0) q) in
    let f =
    four (get_or xs (at 0) 0) (get_or xs (at 1) 0) (get_or xs (at 2) 0) (get_or xs (at 3) 0) (get_or ys (at 0) 0) (get_or ys (at 1) 0)
    (get_or ys (at 2) 0) (get_or ys (at 3) 0) (bx (at 0)) (bx (at 1)) (bx (at 2)) (by (at 0)) (by (at 1)) (by (at 2)) word in
    one_of o small (λ p. get_or xs (at p) 0 ≡ get_or ys (at p) 0) f.first f.second f.third f.fourth

-- messages of one length with equal blocks are equal: the blocks give the message back
same_message : (xs ys : List ℕ)
    → Bytes xs
    → Bytes ys
    → length xs ≡ length ys
    → ((n : ℕ) → n ≤ before xs → block xs n ≡ block ys n)
    → xs ≡ ys
same_message xs ys bx by long blocks =
    ext_get_or 0 xs ys long
    (λ k lt.
    let n : ℕ = k / 64 in
    let i : ℕ = k % 64 / 4 in
    let o : ℕ = k % 4 in
    let place : 64 * n + (4 * i + o) ≡ k = omega arith in
    let within : n ≤ before xs = omega (arith, lt) in
    let i_below : i < 16 = omega arith in
    let o_below : o < 4 = omega arith in
    subst (λ p. get_or xs p 0 ≡ get_or ys p 0) place (same_byte xs ys n i o bx by (blocks n within) i_below o_below))

pub collisions : CollisionsAreOfCompression
unfolding hash
collisions xs ys bx by sx sy e =
    ⊎_elim
    (λ same.
    let long : length xs ≡ length ys = sym (mod-eq_of_lt sx) ∙ same.2 ∙ mod-eq_of_lt sy in
    let b : ℕ = before xs in
    let is : before ys ≡ b = ap (λ l. (l - 1) / 64) (sym long) in
    let state : chain xs b ≡ chain ys b = same.0 ∙ ap (chain ys) is in
    let end : block xs b ≡ block ys b = same.1 ∙ ap (block ys) is in
    ⊎_elim
    (λ below.
    inl
    (same_message xs ys bx by long
    (λ n le.
    ⊎_elim (λ less. below n less)
    (λ more. let at : n ≡ b = omega (arith, le, more) in ap (block xs) at ∙ end ∙ ap (block ys) (sym at)) (cases_lt n b))))
    (λ clash. inr clash)
    (walk xs ys b (omega arith) (omega (arith, is)) state))
    (λ ne. inr (ending xs, ending ys, inl refl, inl refl, ne, e))
    (same_call (ending xs) (ending ys))
