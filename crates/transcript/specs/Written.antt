-- What a piece holds.
use Rattle.std.specs.Prelude.{ℕ, List, take}
use Rattle.transcript.specs.declared.piece.Piece.{Piece}

-- The bytes put together so far.
abbrev pub written : Piece → List ℕ
written p = take p.len p.bytes
