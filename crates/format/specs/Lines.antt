-- The kinds of lines that a configuration has.
use Rattle.std.specs.Prelude.{ℕ, Bool, true, false, cond, List, drop, codes, ◌==◌, nat_lt, slice_index}
use Rattle.parameters.specs.Schedule.{Strategy, constant, second, per_round}
use Rattle.configuration.specs.declared.whir_parameters.RoundConfig.{RoundConfig}
use Rattle.configuration.specs.declared.whir_parameters.TerminalBudget.{TerminalBudget}
use Rattle.format.specs.declared.errors.Expected.TheVariants as expected
use Rattle.format.specs.declared.keys.Key.{Key}
use Rattle.format.specs.declared.keys.Key.TheVariants.{Round, Rounds}
use Rattle.format.specs.Reading.{Read, found, stuck, then, begins, the_key, line_end, next_number, numbers_listed, each, list_of, list}

-- A line: its key word, what follows it, and the line feed.
unfoldable pub line : {X : Type 0} → Key → (List ℕ → Read X) → List ℕ → Read X
line key part bs = then (the_key key bs) (λ _ behind. then (part behind) (λ x end. then (line_end end) (λ _ rest. found x rest)))

-- A byte, as a number behind a blank.
unfoldable pub byte_item : List ℕ → Read ℕ
byte_item bs = then (next_number bs) (λ n rest. cond (nat_lt n 256) (found n rest) (stuck expected.Byte rest))

-- A list of bytes.
abbrev pub byte_list : List ℕ → Read (List ℕ)
byte_list = list_of (λ _. byte_item)

-- One of the two truth values: 0 is no and 1 is yes.
unfoldable pub flag : List ℕ → Read Bool
flag bs = then (next_number bs) (λ n rest. cond (n == 0) (found false rest) (cond (n == 1) (found true rest) (stuck expected.Flag rest)))

-- The index of a line in its group.
unfoldable pub line_index : ℕ → List ℕ → Read Unit
line_index i bs = then (next_number bs) (λ n rest. cond (n == i) (found tt rest) (stuck (expected.Index i) rest))

-- A folding strategy: its name, behind a blank, and its factors.
unfoldable pub constant_behind : List ℕ → Read Strategy
constant_behind bs = then (next_number bs) (λ f rest. found (constant f) rest)

unfoldable pub second_behind : List ℕ → Read Strategy
second_behind bs = then (next_number bs) (λ f rest. then (next_number rest) (λ g end. found (second f g) end))

unfoldable pub listed_behind : List ℕ → Read Strategy
listed_behind bs = then (list bs) (λ fs rest. found (per_round fs) rest)

unfoldable pub strategy : List ℕ → Read Strategy
strategy bs =
    cond (begins (codes " constant") bs) (constant_behind (drop 9 bs))
    (cond (begins (codes " second") bs) (second_behind (drop 7 bs))
    (cond (begins (codes " per_round") bs) (listed_behind (drop 10 bs)) (stuck expected.Strategy bs)))

-- The nine numbers of a round, in their order.
abbrev pub round_of : List ℕ → RoundConfig
round_of xs = record {
  pow_bits = slice_index xs 0;
  folding_pow_bits = slice_index xs 1;
  num_queries = slice_index xs 2;
  ood_samples = slice_index xs 3;
  num_variables = slice_index xs 4;
  folding_factor = slice_index xs 5;
  log_inv_rate = slice_index xs 6;
  domain_size = slice_index xs 7;
  log_folded_domain_size = slice_index xs 8;
}

-- The line of round i: its index, and its numbers.
unfoldable pub round : ℕ → List ℕ → Read RoundConfig
round i bs =
    then (the_key Round bs)
    (λ _ b1. then (line_index i b1) (λ _ b2. then (numbers_listed 9 b2) (λ xs b3. then (line_end b3) (λ _ rest. found (round_of xs) rest))))

unfoldable pub rounds_listed : ℕ → List ℕ → Read (List RoundConfig)
rounds_listed count bs = each round 0 count bs

-- The rounds: a line with their number, and a line for each.
unfoldable pub rounds : List ℕ → Read (List RoundConfig)
rounds bs = then (line Rounds next_number bs) (λ count rest. rounds_listed count rest)

-- The queries and the difficulty of the final phase.
unfoldable pub terminal_of : List ℕ → Read TerminalBudget
terminal_of bs = then (next_number bs) (λ q b1. then (next_number b1) (λ d rest. found (record { num_queries = q; pow_bits = d }) rest))
