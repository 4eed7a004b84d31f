-- Pieces put together byte by byte.
use Rattle.std.proofs.Common.{◌≡◌, ℕ, ◌/◌, ◌%◌, ◌≤◌, [], ◌∷◌, length, sym, ap, div-one, lit≤}
use Rattle.transcript.specs.Bytes.{eight}
use Rattle.transcript.specs.Steps.{label_bytes}
use Rattle.transcript.specs.declared.interaction.Label.{Label}
use Rattle.transcript.specs.declared.interaction.Label.TheVariants.{InitialFold, Commitment, OodPoint, OodAnswer, QueryPow, QueryIndices, RoundBatching, RoundFold, FinalPoly, FinalQueryPow, FinalQueryIndices, FinalFold}

-- the eight bytes of a number, as the library writes them
pub eight_bytes : (n : ℕ)
    → ((n / 72057594037927936 % 256) ∷ (n / 281474976710656 % 256) ∷ (n / 1099511627776 % 256) ∷ (n / 4294967296 % 256) ∷ (n / 16777216 % 256) ∷ (n / 65536 % 256) ∷ (n / 256 % 256) ∷ (n % 256) ∷ []) ≡ eight n
unfolding eight
eight_bytes n =
    ap (λ x. (n / 72057594037927936 % 256) ∷ (n / 281474976710656 % 256) ∷ (n / 1099511627776 % 256) ∷ (n / 4294967296 % 256) ∷ (n / 16777216 % 256) ∷ (n / 65536 % 256) ∷ (n / 256 % 256) ∷ (x % 256) ∷ [])
    (sym (div-one n))

pub label_short : (l : Label) → length (label_bytes l) ≤ 19
unfolding label_bytes
label_short InitialFold = lit≤ tt
label_short Commitment = lit≤ tt
label_short OodPoint = lit≤ tt
label_short OodAnswer = lit≤ tt
label_short QueryPow = lit≤ tt
label_short QueryIndices = lit≤ tt
label_short RoundBatching = lit≤ tt
label_short RoundFold = lit≤ tt
label_short FinalPoly = lit≤ tt
label_short FinalQueryPow = lit≤ tt
label_short FinalQueryIndices = lit≤ tt
label_short FinalFold = lit≤ tt
