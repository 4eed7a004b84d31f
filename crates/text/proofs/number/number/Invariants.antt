use Rattle.text.proofs.Digits.{Reading}
use Rattle.text.proofs.number.number.Given as goal

abbrev pub invariant-loop-byte : goal.invariant-loop-byte
invariant-loop-byte l = Reading l.word l.byte-index l.value
