-- The bytes of a state, and how many they are.
use Rattle.std.proofs.Common.{◌≡◌, ℕ, zero, suc, ◌*◌, ◌/◌, ◌%◌, ◌^◌, ◌<◌, List, length, get_or, sym, refl, subst, ⊎_elim, w32, arith, lit<}
use Rattle.std.specs.Int.{to_le_bytes}
use Rattle.std.proofs.lemmas.Nat.{mod_below}
use Rattle.std.proofs.lemmas.List.FromFn.{length-map-range_with_len, get_or-map-range_with_len}
use Rattle.std.proofs.lemmas.List.{get_or_past}
use Rattle.std.proofs.lemmas.Bool.{cases_lt}
use Rattle.blake2s.specs.Blake2s.{digest, byte_at, hash}

pub length_digest : (h : List ℕ) → length (digest h) ≡ 32
unfolding digest
length_digest h = length-map-range_with_len (byte_at h) 0 32

pub digest_bytes : (h : List ℕ) (k : ℕ) → get_or (digest h) k 0 < 256
unfolding digest byte_at
digest_bytes h k =
    let P : ℕ → Type 0 = λ b. b < 256 in
    ⊎_elim (λ lt. subst P (sym (get_or-map-range_with_len (byte_at h) 0 32 k k 0 lt (omega arith))) (mod_below _ 256 (lit< tt)))
    (λ le. subst P (sym (get_or_past (digest h) k 0 (omega (arith, length_digest h, le)))) (lit< tt))
    (cases_lt k 32)

pub length_hash : (xs : List ℕ) → length (hash xs) ≡ 32
unfolding hash
length_hash xs = length_digest _

pub hash_bytes : (xs : List ℕ) (k : ℕ) → get_or (hash xs) k 0 < 256
unfolding hash
hash_bytes xs k = digest_bytes _ k

-- byte j of a word
pub byte_in_word : (x j : ℕ) → j < 4 → get_or (to_le_bytes w32 x) j 0 ≡ x / 2 ^ (8 * j) % 256
byte_in_word x zero lt = omega arith
byte_in_word x (suc zero) lt = refl
byte_in_word x (suc (suc zero)) lt = refl
byte_in_word x (suc (suc (suc zero))) lt = refl
byte_in_word x (suc (suc (suc (suc j)))) lt = absurd (omega arith)
