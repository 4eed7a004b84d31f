use Rattle.std.proofs.Common.{◌≡◌, ℕ, List, [], get_or, ap, ◌∙◌, w32, arith, rules}
use Rattle.std.specs.Int.{from_le_bytes}
use Rattle.blake2s.specs.Blake2s.{words, word_at}
use Rattle.blake2s.proofs.Made.{made}
use Rattle.blake2s.proofs.Lists.{word_in_group}
use Rattle.blake2s.proofs.stream.to_words.Goals as goal

pub returns : goal.returns
unfolding words
returns c =
    let b = c.args.block.now in
    made _ (word_at b) _ 16
    (λ k y q lt call.
    let read : y ≡ from_le_bytes w32 (get_or c.as_chunks.result.0.now k []) = search rules in (
      read
          ∙ ap (λ (gs : List (List ℕ)). from_le_bytes w32 (get_or gs k [])) c.as_chunks.ensures.front
          ∙ word_in_group b [] _ k (omega (arith, c.as_chunks.ensures.front_len, lt)),
      search rules,
    ))
    c.from_fn.result c.from_fn.ensures.items
