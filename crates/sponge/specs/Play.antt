-- A play: what a call does to a sponge, as a tree with its checks in it.
-- Below it the readings of such a tree: run (with refusals), read (nothing is checked), Passes (what the checks ask), trail (the calls made).
use Rattle.std.specs.Prelude.{ℕ, zero, suc, List, [], ◌∷◌, ◌++◌, Ok, Err, Result}

-- A kind of sponge: it stands for a list of numbers, and these three functions say what its calls make of that list and answer.
pub record Rules : Type 0 where
  -- the list after bytes are observed
  pub after_observe : List ℕ → List ℕ → List ℕ
  -- the list after a draw
  pub after_draw : List ℕ → List ℕ
  -- the word that a draw answers
  pub word : List ℕ → ℕ

infixl 10 ◌>>=◌
infixl 10 ◌>>◌
-- A play that refuses with an R or answers with an A.
pub data Play : Type 0 → Type 0 → Type 1 where
  -- the answer
  done : {R A : Type 0} → A → Play R A
  -- bytes are observed, by one call
  observe : {R : Type 0} → List ℕ → Play R (Unit {0})
  -- a word is drawn
  draw : {R : Type 0} → Play R ℕ
  -- P must hold, else the play ends with the refusal
  check : {R : Type 0} (P : Type 0) → Dec P → R → Play R (Unit {0})
  -- a play whose refusals are put into other words
  under : {Q R A : Type 0} → (Q → R) → Play Q A → Play R A
  -- one play, and then the one that its answer leads to
  ◌>>=◌ : {R A B : Type 0} → Play R A → (A → Play R B) → Play R B

-- Two plays in turn; the answer of the first is not used.
abbrev pub ◌>>◌ : {R A B : Type 0} → Play R A → Play R B → Play R B
p >> q = p >>= λ _. q

-- A play that cannot refuse, as a part of one that can.
abbrev pub sure : {R A : Type 0} → Play ⊥ A → Play R A
sure p = under absurd p

-- One play for each of a list, in order; the answers in that order.
unfoldable pub each : {R A B : Type 0} → (A → Play R B) → List A → Play R (List B)
each f [] = done []
each f (x ∷ xs) = do
  b ← f x
  bs ← each f xs
  done (b ∷ bs)

-- n numbers from k on: k, k + 1, ..
abbrev pub counted : ℕ → ℕ → List ℕ
counted k zero = []
counted k (suc n) = k ∷ counted (suc k) n

-- The same play n times in turn.
abbrev pub times : {R A : Type 0} → ℕ → Play R A → Play R (List A)
times n p = each (λ _. p) (counted 0 n)

-- What a play comes to: its answer or refusal, and the list that the sponge then stands for.
pub record Outcome (R A : Type 0) : Type 0 where
  pub answer : Result A R
  pub list : List ℕ

-- the outcome of a check
abbrev pub tested : {R P : Type 0} → Dec P → R → Result (Unit {0}) R
tested (yes p) r = Ok tt
tested (no n) r = Err r

-- a refusal in other words
abbrev pub reworded : {Q R A : Type 0} → (Q → R) → Result A Q → Result A R
reworded w (Ok a) = Ok a
reworded w (Err q) = Err (w q)

-- after an answer the play goes on; a refusal ends it
abbrev pub goes_on : {R A B : Type 0} → Result A R → List ℕ → (A → List ℕ → Outcome R B) → Outcome R B
goes_on (Ok a) t k = k a t
goes_on (Err r) t k = record { answer = Err r; list = t }

-- With refusals: the first check that fails ends the play.
abbrev pub run : {R A : Type 0} → Rules → List ℕ → Play R A → Outcome R A
run m s (done a) = record { answer = Ok a; list = s }
run m s (observe bs) = record { answer = Ok tt; list = m.after_observe s bs }
run m s draw = record { answer = Ok (m.word s); list = m.after_draw s }
run m s (check P d r) = record { answer = tested d r; list = s }
run m s (under w p) = record { answer = reworded w (run m s p).answer; list = (run m s p).list }
run m s (p >>= f) = goes_on (run m s p).answer (run m s p).list (λ a t. run m t (f a))

-- What is read where nothing is checked.
pub record Reading (A : Type 0) : Type 0 where
  pub value : A
  pub list : List ℕ

-- Without refusals: every check is passed over.
abbrev pub read : {R A : Type 0} → Rules → List ℕ → Play R A → Reading A
read m s (done a) = record { value = a; list = s }
read m s (observe bs) = record { value = tt; list = m.after_observe s bs }
read m s draw = record { value = m.word s; list = m.after_draw s }
read m s (check P d r) = record { value = tt; list = s }
read m s (under w p) = read m s p
read m s (p >>= f) = read m (read m s p).list (f (read m s p).value)

-- What the checks ask, all of them, along that reading.
abbrev pub Passes : {R A : Type 0} → Rules → List ℕ → Play R A → Type 0
Passes m s (done a) = Unit {0}
Passes m s (observe bs) = Unit {0}
Passes m s draw = Unit {0}
Passes m s (check P d r) = P
Passes m s (under w p) = Passes m s p
Passes m s (p >>= f) = Passes m s p × Passes m (read m s p).list (f (read m s p).value)

-- The same play with nothing checked.
abbrev pub unchecked : {R A : Type 0} → Play R A → Play R A
unchecked (done a) = done a
unchecked (observe bs) = observe bs
unchecked draw = draw
unchecked (check P d r) = done tt
unchecked (under w p) = under w (unchecked p)
unchecked (p >>= f) = unchecked p >>= λ a. unchecked (f a)

-- One call on a sponge: bytes observed, or a word drawn.
pub data Event : Type 0 where
  observed : List ℕ → Event
  drew : ℕ → Event

-- the calls that an answer leads to; after a refusal there are none
abbrev pub onward : {R A : Type 0} → Result A R → (A → List Event) → List Event
onward (Ok a) k = k a
onward (Err r) k = []

-- The calls that a run makes on the sponge, in order.
abbrev pub trail : {R A : Type 0} → Rules → List ℕ → Play R A → List Event
trail m s (done a) = []
trail m s (observe bs) = observed bs ∷ []
trail m s draw = drew (m.word s) ∷ []
trail m s (check P d r) = []
trail m s (under w p) = trail m s p
trail m s (p >>= f) = trail m s p ++ onward (run m s p).answer (λ a. trail m (run m s p).list (f a))

-- The words drawn in such calls, in order.
abbrev pub words : List Event → List ℕ
words [] = []
words (observed bs ∷ es) = words es
words (drew w ∷ es) = w ∷ words es

-- The list after calls in turn.
abbrev pub after : Rules → List ℕ → List Event → List ℕ
after m s [] = s
after m s (observed bs ∷ es) = after m (m.after_observe s bs) es
after m s (drew w ∷ es) = after m (m.after_draw s) es

-- the first of some words, and those after it
abbrev pub first_word : List ℕ → ℕ
first_word [] = 0
first_word (w ∷ ws) = w

abbrev pub later_words : List ℕ → List ℕ
later_words [] = []
later_words (w ∷ ws) = ws

-- A sponge that is deaf, and reads its words off the list that it holds.
abbrev pub reader : Rules
reader = record { after_observe = λ s bs. s; after_draw = later_words; word = first_word }
