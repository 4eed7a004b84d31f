-- The message by the rule, a piece longer.
use Rattle.std.proofs.Common.{◌≡◌, ℕ, zero, suc, ◌+◌, List, [], ◌∷◌, ◌++◌, map, sym, ap, ◌∙◌, subst, add-zero, zero-add, add-one, arith}
use Rattle.std.specs.List.{range_with_len}
use Rattle.std.proofs.lemmas.List.FromFn.{map-range_with_len_more}
use Rattle.std.proofs.lemmas.List.{append_assoc, append-nil}
use Rattle.blake2s.specs.Absorbed.{Absorbed}
use Rattle.blake2s.specs.declared.state.Hasher.{Hasher}
use Rattle.blake2s_vectors.specs.Rule.{rule, bytes_from}

-- one byte more
byte_more : (a n : ℕ) → bytes_from a (suc n) ≡ bytes_from a n ++ rule (a + n) ∷ []
unfolding bytes_from
byte_more a n =
    ap (λ (m : ℕ). map (λ (k : ℕ). rule (a + k)) (range_with_len 0 m)) (sym (add-one n))
    ∙ map-range_with_len_more (λ (k : ℕ). rule (a + k)) 0 n n (zero-add n)

-- a piece more
pub piece_more : (a n : ℕ) → bytes_from 0 a ++ bytes_from a n ≡ bytes_from 0 (a + n)
unfolding bytes_from
piece_more a zero = append-nil (bytes_from 0 a) ∙ ap (bytes_from 0) (sym (add-zero a))
piece_more a (suc n) =
    let sum : suc (a + n) ≡ a + suc n = omega arith in
    ap (λ (ys : List ℕ). bytes_from 0 a ++ ys) (byte_more a n)
    ∙ sym (append_assoc (bytes_from 0 a) (bytes_from a n) (rule (a + n) ∷ []))
    ∙ ap (λ (ys : List ℕ). ys ++ rule (a + n) ∷ []) (piece_more a n)
    ∙ ap (λ (k : ℕ). bytes_from 0 (a + n) ++ rule k ∷ []) (sym (zero-add (a + n)))
    ∙ sym (byte_more 0 (a + n))
    ∙ ap (bytes_from 0) sum

-- a hasher that has taken in the message up to a place, and then a piece more
pub taken_more : (before after : Hasher) (done n from to : ℕ)
    → from ≡ done
    → done + n ≡ to
    → Absorbed before (bytes_from 0 from)
    → ((xs : List ℕ) → Absorbed before xs → Absorbed after (xs ++ bytes_from done n))
    → Absorbed after (bytes_from 0 to)
taken_more before after done n from to is sum a fed =
    let held : Absorbed before (bytes_from 0 done) = subst (λ (k : ℕ). Absorbed before (bytes_from 0 k)) is a in
    subst (λ (xs : List ℕ). Absorbed after xs) (piece_more done n ∙ ap (bytes_from 0) sum) (fed (bytes_from 0 done) held)
