-- Parts read one after another.
use Rattle.std.proofs.Common.{◌≡◌, ℕ, List, ap}
use Rattle.format.specs.declared.errors.Expected.{Expected}
use Rattle.format.specs.Reading.{Read, found, stuck, then}

pub then_found : {X Y : Type 0} {p : Read X} {x : X} {rest : List ℕ} (next : X → List ℕ → Read Y) → p ≡ found x rest → then p next ≡ next x rest
unfolding then
then_found next e = ap (λ q. then q next) e

pub then_stuck : {X Y : Type 0} {p : Read X} {e : Expected} {rest : List ℕ} (next : X → List ℕ → Read Y) → p ≡ stuck e rest → then p next ≡ stuck e rest
unfolding then
then_stuck next e = ap (λ q. then q next) e
