-- The calls that an accepted verification makes on the sponge, against the steps that its pattern describes. Assumes nothing.
use Rattle.std.specs.Prelude.{◌≡◌, ℕ, zero, suc, ◌*◌, cond, List, [], ◌∷◌, ◌++◌, map, length, Ok, ◌==◌}
use Rattle.sponge.specs.Play.{Rules, Event, observed, drew, run, trail}
use Rattle.sponge.specs.Deciding.{Every}
use Rattle.transcript.specs.declared.interaction.Hierarchy.{Hierarchy}
use Rattle.transcript.specs.declared.interaction.Hierarchy.TheVariants.{Begin, End, Atomic}
use Rattle.transcript.specs.declared.interaction.Kind.{Kind}
use Rattle.transcript.specs.declared.interaction.Kind.TheVariants.{Message, Challenge, Pow, Protocol}
use Rattle.transcript.specs.declared.interaction.Value.{Value}
use Rattle.transcript.specs.declared.interaction.Value.TheVariants.{Marker, Opaque, Base, Extension, Bits}
use Rattle.transcript.specs.Steps.{Step}
use Rattle.transcript.specs.Shape.{Sumcheck, Shape, RoundShape, shape}
use Rattle.transcript.specs.Pattern.{pattern}
use Rattle.transcript.specs.Opening.{separator}
use Rattle.verification.specs.Setting.{Setting, Inputs}
use Rattle.verification.specs.Verifying.{verifying}

-- A call as it is described: bytes of any number, which an opening scheme decides, are observed; so many bytes are observed; or what one
-- value needs is drawn, so many words of an extension element or one of bits.
pub data Described : Type 0 where
  some_bytes : Described
  bytes : ℕ → Described
  word : Described

-- A call is as described.
abbrev pub Fits : Described → Event → Type 0
Fits some_bytes (observed bs) = Unit {0}
Fits some_bytes (drew w) = ⊥
Fits (bytes n) (observed bs) = length bs ≡ n
Fits (bytes n) (drew w) = ⊥
Fits word (observed bs) = ⊥
Fits word (drew w) = Unit {0}

-- the same calls, so many times
abbrev pub repeated : ℕ → List Described → List Described
repeated zero cs = []
repeated (suc n) cs = cs ++ repeated n cs

-- the calls of one value that is sent: an extension element is observed by one call, four bytes a coefficient
abbrev pub sent : Value → ℕ → List Described
sent Marker width = []
sent Opaque width = some_bytes ∷ []
sent Base width = bytes 4 ∷ []
sent Extension width = bytes (4 * width) ∷ []
sent Bits width = []

-- the calls of one value that is drawn: an extension element by a word a coefficient
abbrev pub drawn : Value → ℕ → List Described
drawn Marker width = []
drawn Opaque width = []
drawn Base width = word ∷ []
drawn Extension width = repeated width (word ∷ [])
drawn Bits width = word ∷ []

-- the calls of a step that stands alone; a count of 0 is a single value; grinding observes a base element and draws a word
abbrev pub said : Kind → Value → ℕ → ℕ → List Described
said Message value width count = repeated (cond (count == 0) 1 count) (sent value width)
said Challenge value width count = repeated (cond (count == 0) 1 count) (drawn value width)
said Pow value width count = bytes 4 ∷ word ∷ []
said Protocol value width count = []

-- the calls of a bracket, of which the steps describe nothing more; here the next of some lists of calls
abbrev pub next_fill : List (List Described) → List Described
next_fill [] = []
next_fill (f ∷ fs) = f

abbrev pub later_fills : List (List Described) → List (List Described)
later_fills [] = []
later_fills (f ∷ fs) = fs

-- by how a step stands: what fills the bracket and what comes behind it, at an opener; what comes next, at a closer; its own calls and
-- what comes next, where it stands alone
abbrev pub standing : Hierarchy → (bracketed next own : List Described) → List Described
standing Begin bracketed next own = bracketed
standing End bracketed next own = next
standing Atomic bracketed next own = own ++ next

-- the calls of steps in turn, each bracket filled at its opener
abbrev pub calls : List Step → List (List Described) → List Described
calls [] fills = []
calls (s ∷ ss) fills =
    standing s.hierarchy (next_fill fills ++ calls ss (later_fills fills)) (calls ss fills) (said s.kind s.value s.width s.count)

-- a round of a sumcheck: two elements are observed, the witness is ground where anything is, a challenge is drawn
abbrev pub turn_calls : (degree difficulty : ℕ) → List Described
turn_calls degree difficulty =
    bytes (4 * degree) ∷ bytes (4 * degree) ∷ (cond (difficulty == 0) [] (bytes 4 ∷ word ∷ []) ++ repeated degree (word ∷ []))

abbrev pub sumcheck_calls : ℕ → Sumcheck → List Described
sumcheck_calls degree n = repeated n.turns (turn_calls degree n.difficulty)

-- what fills the brackets: α and then the initial sumcheck, each round's, the final one's
abbrev pub fills : ℕ → Shape → List (List Described)
fills degree s =
    (repeated degree (word ∷ []) ++ sumcheck_calls degree s.initial)
    ∷ (map (λ (r : RoundShape). sumcheck_calls degree r.sumcheck) s.rounds ++ (sumcheck_calls degree s.final ∷ []))

-- Where it accepts, it has observed the pieces of the separator, each by a call, and then made the calls that the pattern's steps
-- describe, in order, each bracket filled by its sumcheck.
pub record Follows (events : List Event) (pieces : List (List ℕ)) (described : List Described) : Type 0 where
  pub later : List Event
  pub opened : events ≡ map observed pieces ++ later
  pub described_so : Every Fits described later

abbrev pub AcceptedFollowsPattern : {F E C P : Type 0} → Setting F E C P → Type 0
AcceptedFollowsPattern {F} {E} {C} {P} S =
    (m : Rules) (s : List ℕ) (I : Inputs F E C P) (point : List E) → (run m s (verifying S I)).answer ≡ Ok point
    → let degree = S.extension.degree in
    let shape = shape S.numbers I.opening_claims in
    Follows (trail m s (verifying S I)) (separator S.numbers degree I.opening_claims) (calls (pattern degree shape) (fills degree shape))
