-- Reading a text from its front.
use Rattle.std.specs.Prelude.{◌≡◌, ℕ, zero, suc, ◌+◌, ◌-◌, ◌*◌, ◌^◌, Bool, cond, ◌&&◌, eqb, List, [], ◌∷◌, length, drop, Ok, Err, Result, ◌==◌, nat_le, nat_lt, take_while}
use Rattle.std.specs.List.{prefix_len, starts_with}
use Rattle.format.specs.declared.errors.Expected.{Expected}
use Rattle.format.specs.declared.errors.Expected.TheVariants.{Word, Blank, LineEnd, Number, NumberBelow64Bits}
use Rattle.format.specs.declared.errors.Fault.{Fault}
use Rattle.format.specs.declared.errors.Fault.TheVariants as fault
use Rattle.format.specs.declared.keys.Key.{Key}
use Rattle.format.specs.Words.{letters}

-- What reading comes to: a value with the bytes left behind it, or what was expected with the bytes that stood there.
pub data Read (X : Type 0) : Type 0 where
  found : X → List ℕ → Read X
  stuck : Expected → List ℕ → Read X

-- One part after another: the second is read from the bytes that the first leaves.
unfoldable pub then : {X Y : Type 0} → Read X → (X → List ℕ → Read Y) → Read Y
then (found x rest) next = next x rest
then (stuck e rest) next = stuck e rest

-- What a function answers is what the definition reads, and the cursor stands where the definition stops. Memory may run out.
abbrev pub Stands : {X Y : Type 0} → (X → Y) → Read Y → Result X Fault → List ℕ → Type 0
Stands meaning p (Ok x) rest = p ≡ found (meaning x) rest
Stands meaning p (Err (fault.Syntax e)) rest = p ≡ stuck e rest
Stands meaning p (Err fault.OutOfMemory) rest = Unit {0}

pub record Gives {X Y : Type 0} (meaning : X → Y) (p : Read Y) (r : Result X Fault) (rest : List ℕ) : Type 0 where
  pub stands : Stands meaning p r rest

-- A value that means itself.
abbrev pub plain : {X : Type 0} → X → X
plain x = x

-- Whether a text begins with a word.
abbrev pub begins : List ℕ → List ℕ → Bool
begins word bs = starts_with eqb bs word

-- The bytes of a word.
unfoldable pub the_word : List ℕ → Expected → List ℕ → Read Unit
the_word word e bs = cond (begins word bs) (found tt (drop (length word) bs)) (stuck e bs)

-- The key word of a line.
abbrev pub the_key : Key → List ℕ → Read Unit
the_key k bs = the_word (letters k) (Word k) bs

-- The blank between two words.
abbrev pub blank : List ℕ → Read Unit
blank bs = the_word (32 ∷ []) Blank bs

-- The line feed that ends a line.
abbrev pub line_end : List ℕ → Read Unit
line_end bs = the_word (10 ∷ []) LineEnd bs

-- The codes of the characters 0 to 9.
abbrev pub is_digit : ℕ → Bool
is_digit b = nat_le 48 b && nat_le b 57

-- How many digits a text begins with.
abbrev pub digit_count : List ℕ → ℕ
digit_count bs = prefix_len is_digit bs

-- The number that digits are, the highest first, behind the digits of another number.
abbrev pub value_after : ℕ → List ℕ → ℕ
value_after n [] = n
value_after n (b ∷ bs) = value_after (n * 10 + (b - 48)) bs

-- The digits that a text begins with.
abbrev pub digits_of : List ℕ → List ℕ
digits_of bs = take_while is_digit bs

-- A number: all the digits that stand here, at least one, and less than 2^64.
unfoldable pub number : List ℕ → Read ℕ
number bs =
    cond (digit_count bs == 0) (stuck Number bs)
    (cond (nat_lt (value_after 0 (digits_of bs)) (2 ^ 64)) (found (value_after 0 (digits_of bs)) (drop (digit_count bs) bs)) (stuck NumberBelow64Bits bs))

-- A blank, and a number behind it.
unfoldable pub next_number : List ℕ → Read ℕ
next_number bs = then (blank bs) (λ _ rest. number rest)

-- As many items as there are to be, one after another, each by its index.
unfoldable pub each : {X : Type 0} → (ℕ → List ℕ → Read X) → ℕ → ℕ → List ℕ → Read (List X)
each item i zero bs = found [] bs
each item i (suc k) bs = then (item i bs) (λ x rest. then (each item (suc i) k rest) (λ xs end. found (x ∷ xs) end))

-- As many numbers, each behind a blank.
unfoldable pub numbers_listed : ℕ → List ℕ → Read (List ℕ)
numbers_listed count bs = each (λ _. next_number) 0 count bs

-- A list: its length, then its items.
unfoldable pub list_of : {X : Type 0} → (ℕ → List ℕ → Read X) → List ℕ → Read (List X)
list_of item bs = then (next_number bs) (λ count rest. each item 0 count rest)

-- A list of numbers.
abbrev pub list : List ℕ → Read (List ℕ)
list = list_of (λ _. next_number)
