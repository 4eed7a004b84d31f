-- What a domain is: one point of m base elements for each log size, each m up to it and each index below the size; and the law that
-- its positions keep different tables apart.
use Rattle.std.specs.Prelude.{◌≡◌, ℕ, ◌^◌, ◌<◌, ◌≤◌, Bool, cond, ◌&&◌, List, map, length, Ok, Err, Result, ◌≢◌, nat_le, nat_lt, slice_index_or}
use Rattle.std.specs.List.{AllByRecursion}
use Rattle.ring.specs.Ring.{Ops}
use Rattle.ring.specs.Polynomials.{Distinct}
use Rattle.multilinear.specs.Tables.{position}
use Rattle.multilinear.specs.Univariate.{expand}
use Rattle.configuration.specs.declared.whir_parameters.SecurityAssumption.{SecurityAssumption}
use Rattle.domain.specs.declared.query.Limit.{Limit}
use Rattle.domain.specs.declared.query.Limit.TheVariants.{OutOfDomain}
use Rattle.domain.specs.declared.query.WhirQueryPoint.{WhirQueryPoint}
use Rattle.domain.specs.declared.query.WhirQueryPoint.TheVariants.{Univariate, Multilinear}

pub record Domain (A : Type 0) : Type 0 where
  -- the largest log size
  pub capacity : ℕ
  -- the bytes that name the domain in the transcript
  pub id : List ℕ
  -- whether positions are drawn stratum by stratum
  pub strata : Bool
  -- the kinds of soundness that it may be used under
  pub supports : SecurityAssumption → Bool
  -- the point of m coordinates at an index of a log size
  pub point : (log m index : ℕ) → List A
  -- the form in which the point is told
  pub answer : (log m index : ℕ) → WhirQueryPoint A

-- where there is a point: the log size is at most the capacity, m at most the log size, and the index below the size
abbrev pub inside : (capacity log m index : ℕ) → Bool
inside capacity log m index = nat_le log capacity && (nat_le m log && nat_lt index (2 ^ log))

module _ {A : Type 0} where
  -- the answer inside, and the refusal outside
  abbrev pub told : Domain A → (log m index : ℕ) → Result (WhirQueryPoint A) Limit
  told d log m index = cond (inside d.capacity log m index) (Ok (d.answer log m index)) (Err OutOfDomain)

  -- coordinate j of the point, and the refusal outside and past the last coordinate
  abbrev pub coordinate : Ops A → Domain A → (log m index j : ℕ) → Result A Limit
  coordinate F d log m index j = cond (inside d.capacity log m index && nat_lt j m) (Ok (slice_index_or (d.point log m index) j F.zero)) (Err OutOfDomain)

  -- a point told as one element v is the point that v stands for
  abbrev pub StandsFor : Ops A → ℕ → WhirQueryPoint A → List A → Type 0
  StandsFor F m (Univariate v) point = point ≡ expand F v m
  StandsFor F m Multilinear point = Unit {0}

module _ {A B : Type 0} (G : Ops B) (embed : A → B) (d : Domain A) where
  -- two tables of m variables have equal values at an index of a log size: the sum of select(point, x)·g(x) over the corners x is one
  abbrev pub Agree : (log m : ℕ) → List B → List B → ℕ → Type 0
  Agree log m g h i = position G g (map embed (d.point log m i)) ≡ position G h (map embed (d.point log m i))

  -- two different tables of m variables agree at fewer than 2^m positions of a log size
  abbrev pub Distance : Type 0
  Distance =
      (log m : ℕ) → log ≤ d.capacity → m ≤ log → (g h : List B) → length g ≡ 2 ^ m → length h ≡ 2 ^ m → (g ≢ h)
      → (indices : List ℕ) → Distinct indices → AllByRecursion (λ i. (i < 2 ^ log) × Agree log m g h i) indices → length indices < 2 ^ m

  -- two tables of m variables that agree at all positions of a log size are one
  abbrev pub Settled : Type 0
  Settled =
      (log m : ℕ) → log ≤ d.capacity → m ≤ log → (g h : List B) → length g ≡ 2 ^ m → length h ≡ 2 ^ m
      → ((i : ℕ) → i < 2 ^ log → Agree log m g h i) → g ≡ h

-- the law of a domain over the base F, in the extension G
pub record Lawful {A B : Type 0} (F : Ops A) (G : Ops B) (embed : A → B) (d : Domain A) : Type 0 where
  -- a point has m coordinates, and is the one that the answer tells
  pub sized : (log m index : ℕ) → length (d.point log m index) ≡ m
  pub stands : (log m index : ℕ) → StandsFor F m (d.answer log m index) (d.point log m index)
  -- the positions keep tables apart
  pub distance : Distance G embed d
  pub settled : Settled G embed d
