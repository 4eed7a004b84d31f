-- What the steps of a hasher do to what it has taken in.
use Rattle.std.proofs.Common.{◌≡◌, ℕ, zero, suc, ◌+◌, ◌-◌, ◌*◌, ◌/◌, ◌%◌, ◌^◌, ◌<◌, ◌≤◌, true, List, ◌++◌, length, take, drop, sym, ap, ◌∙◌, subst, arith}
use Rattle.std.proofs.lemmas.List.{length-append, length-take, drop-append-le, drop_all, drop_at, take_all, length-take-le}
use Rattle.blake2s.specs.Compress.{compressed}
use Rattle.blake2s.specs.Blake2s.{words, padded, block, chain, counter, before, digest, hash}
use Rattle.blake2s.specs.Absorbed.{Cut, Absorbed, Pressed}
use Rattle.blake2s.specs.declared.state.Hasher.{Hasher}
use Rattle.blake2s.proofs.Chain.{chain_append, chain_more, block_full}

-- the counter after one block more
count_more : (count count' n : ℕ) → count ≡ counter (64 * n) → count' ≡ counter (count + 64) → count' ≡ counter (64 * suc n)
count_more count count' n e f = omega (arith, e, f)

-- the full buffer is compressed
pub pressed_buffer : (s s' : Hasher)
    → s.filled ≡ 64
    → length s.block ≡ 64
    → Pressed s s' s.block
    → (xs : List ℕ) (n : ℕ)
    → Cut s xs n
    → Cut s' xs (suc n)
pressed_buffer s s' full long p xs n c =
    let t : s'.count ≡ counter (64 * suc n) = count_more s.count s'.count n c.counted p.counted in
    let waits : s.block ≡ drop (64 * n) xs = sym (take_all s.filled s.block (omega (arith, full, long))) ∙ c.waits in
    let all : 64 * suc n ≡ length xs = omega (arith, full, c.whole) in
    record {
      state = p.state ∙ chain_more xs s.block s.h n s'.count c.state (block_full xs s.block n long waits) t;
      counted = t;
      waits = ap (λ k. take k s'.block) p.emptied ∙ sym (drop_all (64 * suc n) xs (omega (arith, all)));
      whole = omega (arith, p.emptied, all);
    }

-- a block is compressed that the bytes to come begin with
pub pressed_bytes : (s s' : Hasher) (bytes rest : List ℕ)
    → s.filled ≡ 0
    → bytes ≡ take 64 rest
    → 64 ≤ length rest
    → Pressed s s' bytes
    → (xs : List ℕ) (n : ℕ)
    → Cut s xs n
    → Cut s' (xs ++ take 64 rest) (suc n)
pressed_bytes s s' bytes rest none is long p xs n c =
    let ys : List ℕ = xs ++ bytes in
    let t : s'.count ≡ counter (64 * suc n) = count_more s.count s'.count n c.counted p.counted in
    let whole : length xs ≡ 64 * n = omega (arith, none, c.whole) in
    let front : length bytes ≡ 64 = ap length is ∙ length-take-le 64 rest long in
    let m : words bytes ≡ block ys n = block_full ys bytes n front (sym (drop_at xs bytes (64 * n) whole)) in
    let state : s.h ≡ chain ys n = c.state ∙ sym (chain_append xs bytes n (omega (arith, whole))) in
    let all : 64 * suc n ≡ length ys = omega (arith, whole, front, length-append xs bytes) in
    let cut : Cut s' ys (suc n) =
    record {
      state = p.state ∙ chain_more ys bytes s.h n s'.count state m t;
      counted = t;
      waits = ap (λ k. take k s'.block) p.emptied ∙ sym (drop_all (64 * suc n) ys (omega (arith, all)));
      whole = omega (arith, p.emptied, all);
    } in
    subst (λ (zs : List ℕ). Cut s' (xs ++ zs) (suc n)) is cut

-- bytes are put into the buffer
pub filled : (s s' : Hasher) (rest : List ℕ) (r : ℕ)
    → r ≤ length rest
    → s'.filled ≡ s.filled + r
    → take s'.filled s'.block ≡ take s.filled s.block ++ take r rest
    → s'.h ≡ s.h
    → s'.count ≡ s.count
    → (xs : List ℕ) (n : ℕ)
    → Cut s xs n
    → Cut s' (xs ++ take r rest) n
filled s s' rest r le more waits state count xs n c =
    let long : 64 * n ≤ length xs = omega (arith, c.whole) in
    record {
      state = state ∙ c.state ∙ sym (chain_append xs (take r rest) n long);
      counted = count ∙ c.counted;
      waits =
          waits ∙ ap (λ (ys : List ℕ). ys ++ take r rest) c.waits ∙ sym (drop-append-le (64 * n) xs (take r rest) long);
      whole = omega (arith, more, c.whole, length-append xs (take r rest), length-take r rest);
    }

-- the number of blocks before the last one
blocks_before : (n f l : ℕ) → 64 * n + f ≡ l → f ≤ 64 → (0 < n → 0 < f) → (l - 1) / 64 ≡ n
blocks_before zero f l e le held = omega arith
blocks_before (suc n) f l e le held = omega (arith, held (omega arith))

-- the buffer is compressed as the last block
pub finished : (s : Hasher) (m h r : List ℕ)
    → m ≡ words s.block
    → h ≡ compressed s.h m ((s.count + s.filled) % 2 ^ 64) true
    → r ≡ digest h
    → (xs : List ℕ)
    → Absorbed s xs
    → r ≡ hash xs
unfolding hash block
finished s m h r em eh er xs a =
    let c = a.cut in
    let n = a.blocks in
    let last : before xs ≡ n = blocks_before n s.filled (length xs) c.whole s.fits a.held in
    let t : (s.count + s.filled) % 2 ^ 64 ≡ counter (length xs) = omega (arith, c.counted, c.whole) in
    er
    ∙ ap digest
    (eh
    ∙ ap (λ (k : ℕ). compressed s.h m k true) t
    ∙ ap (λ (g : List ℕ). compressed g m (counter (length xs)) true) c.state
    ∙ ap (λ (w : List ℕ). compressed (chain xs n) w (counter (length xs)) true)
    (em ∙ ap words (s.clear ∙ ap padded c.waits))
    ∙ ap (λ (k : ℕ). compressed (chain xs k) (block xs k) (counter (length xs)) true) (sym last))

-- what has come of a whole: its first bytes are taken in, and the rest is to come; at its end the last block is held
pub record Going (s : Hasher) (rest whole : List ℕ) : Type 0 where
  pub taken : List ℕ
  pub blocks : ℕ
  pub cut : Cut s taken blocks
  pub joins : taken ++ rest ≡ whole
  pub held : length rest ≡ 0 → 0 < blocks → 0 < s.filled
