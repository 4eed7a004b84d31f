-- The separator: what a run observes as it is opened.
use Rattle.std.specs.Prelude.{ℕ, List, [], ◌∷◌, ◌++◌, map, codes}
use Rattle.configuration.specs.Numbers.{Numbers}
use Rattle.sponge.specs.Play.{Rules, Play, done, observe, ◌>>◌}
use Rattle.transcript.specs.Steps.{Step, step_bytes}
use Rattle.transcript.specs.Shape.{shape}
use Rattle.transcript.specs.Pattern.{pattern}
use Rattle.transcript.specs.Instances.{instance_bytes, instances}

-- The pieces of a separator: the version, the protocol's name, each step, each instance.
unfoldable pub pieces : List Step → List (List ℕ) → List (List ℕ)
pieces steps labels = (3 ∷ []) ∷ codes "p3-whir" ∷ (map step_bytes steps ++ map instance_bytes labels)

-- The separator of a run: of the numbers, the degree of the extension and the number of opening claims.
unfoldable pub separator : Numbers → ℕ → ℕ → List (List ℕ)
separator N degree claims = pieces (pattern degree (shape N claims)) (instances (shape N claims))

-- Each of some byte strings is observed, by a call of its own.
unfoldable pub observe_all : List (List ℕ) → Play ⊥ (Unit {0})
observe_all [] = done tt
observe_all (bs ∷ rest) = do
  observe bs
  observe_all rest

-- What opening a run does to a sponge.
abbrev pub opening : Numbers → ℕ → ℕ → Play ⊥ (Unit {0})
opening N degree claims = observe_all (separator N degree claims)

-- The list after byte strings are observed, one made of each thing of a list.
unfoldable pub taken : {X : Type 0} → Rules → (X → List ℕ) → List ℕ → List X → List ℕ
taken m f s [] = s
taken m f s (x ∷ xs) = taken m f (m.after_observe s (f x)) xs
