-- A block filled up with zeros.
use Rattle.std.proofs.Common.{◌≡◌, ℕ, ◌+◌, ◌-◌, ◌≤◌, List, ◌++◌, length, take, drop, replicate, sym, ap, ◌∙◌, arith}
use Rattle.std.proofs.lemmas.List.{append_assoc, append-nil, drop-drop, drop-replicate, drop_at, length-append, length-replicate, length-take-le, replicate-append-replicate, take-append-drop, take_at, take-append-le}
use Rattle.blake2s.specs.Blake2s.{padded}

-- what padding gives, written out
pub padded_is : (ys : List ℕ) (n : ℕ) → length ys ≡ n → n ≤ 64 → padded ys ≡ ys ++ replicate (64 - n) 0
unfolding padded
padded_is ys n long le =
    let sum : 64 - n + n ≡ 64 = omega arith in
    let split : ◌≡◌ {A = List ℕ} (replicate (64 - n) 0 ++ replicate n 0) (replicate 64 0) =
    replicate-append-replicate (64 - n) n 0 ∙ ap (λ (k : ℕ). replicate k 0) sum in
    let front : length (ys ++ replicate (64 - n) 0) ≡ 64 =
    length-append ys (replicate (64 - n) 0) ∙ omega (arith, length-replicate {A = ℕ} (64 - n) 0) in
    ap (λ (zs : List ℕ). take 64 (ys ++ zs)) (sym split)
    ∙ ap (take 64) (sym (append_assoc ys (replicate (64 - n) 0) (replicate n 0)))
    ∙ take_at (ys ++ replicate (64 - n) 0) (replicate n 0) 64 front

-- behind the bytes that a block was filled up from are zeros
behind : (bs : List ℕ) (f n : ℕ)
    → length bs ≡ 64
    → f + n ≤ 64
    → bs ≡ padded (take f bs)
    → drop (f + n) bs ≡ replicate (64 - (f + n)) 0
behind bs f n long fits clear =
    let front : length (take f bs) ≡ f = length-take-le f bs (omega arith) in
    let left : 64 - f - n ≡ 64 - (f + n) = omega arith in
    let zeros : drop f bs ≡ replicate (64 - f) 0 =
    ap (drop f) (clear ∙ padded_is (take f bs) f front (omega arith)) ∙ drop_at (take f bs) (replicate (64 - f) 0) f front in
    sym (drop-drop n f bs) ∙ ap (drop n) zeros ∙ drop-replicate n (64 - f) 0 ∙ ap (λ (k : ℕ). replicate k 0) left

-- more bytes put into such a block
pub padded_more : (bs now more : List ℕ) (f n : ℕ)
    → length bs ≡ 64
    → length more ≡ n
    → f + n ≤ 64
    → bs ≡ padded (take f bs)
    → take (f + n) now ≡ take f bs ++ more
    → drop (f + n) now ≡ drop (f + n) bs
    → now ≡ padded (take (f + n) now)
padded_more bs now more f n long part fits clear front same =
    let filled : length (take (f + n) now) ≡ f + n =
    omega (arith, ap length front, length-append (take f bs) more, length-take-le f bs (omega arith)) in
    sym (take-append-drop (f + n) now)
    ∙ ap (λ (zs : List ℕ). take (f + n) now ++ zs) (same ∙ behind bs f n long fits clear)
    ∙ sym (padded_is (take (f + n) now) (f + n) filled fits)

-- a whole block is not changed
pub padded_whole : (ys : List ℕ) → length ys ≡ 64 → padded ys ≡ ys
padded_whole ys long = padded_is ys 64 long (omega arith) ∙ append-nil ys

-- what comes after a whole block does not count
pub padded_front : (ys zs : List ℕ) → 64 ≤ length ys → padded (ys ++ zs) ≡ padded ys
unfolding padded
padded_front ys zs long =
    let z : List ℕ = replicate 64 0 in
    ap (take 64) (append_assoc ys zs z) ∙ take-append-le 64 ys (zs ++ z) long ∙ sym (take-append-le 64 ys z long)
