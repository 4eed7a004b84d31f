-- Reading what is written.
use Rattle.std.proofs.Common.{◌≡◌, ℕ, suc, ◌+◌, ◌-◌, ◌*◌, ◌%◌, ◌^◌, ◌<◌, ◌≤◌, Bool, true, false, cond, ◌&&◌, eqb, ltb, List, [], ◌∷◌, ◌++◌, length, take, decimal, sym, refl, ap, ◌∙◌, append_assoc, arith, length-append}
use Rattle.std.specs.List.{AllByRecursion}
use Rattle.std.proofs.Math.Seq.{drop-append_seam, take-append_seam}
use Rattle.std.proofs.lemmas.Fmt.{decimal_by_steps}
use Rattle.std.proofs.lemmas.Bool.{eq-eqb, le-leb, lt-ltb, and_from, cond-true}
use Rattle.parameters.specs.Schedule.{Strategy, constant, second, per_round}
use Rattle.configuration.specs.Numbers.{Numbers}
use Rattle.configuration.specs.Limits.{factors_of}
use Rattle.configuration.specs.declared.whir_parameters.RoundConfig.{RoundConfig}
use Rattle.format.specs.declared.errors.Expected.{Expected}
use Rattle.format.specs.declared.errors.Expected.TheVariants as expected
use Rattle.format.specs.declared.keys.Key.{Key}
use Rattle.format.specs.declared.keys.Key.TheVariants as key
use Rattle.format.specs.Words.{letters}
use Rattle.format.specs.Reading.{Read, found, stuck, then, begins, the_word, the_key, blank, line_end, is_digit, digit_count, value_after, number, next_number, each, numbers_listed, list_of, list}
use Rattle.format.specs.Lines.{line, byte_item, byte_list, flag, line_index, strategy, constant_behind, second_behind, listed_behind, round, rounds_listed, rounds, terminal_of}
use Rattle.format.specs.Configurations.{configuration_lines}
use Rattle.format.specs.Written.{spaced, all_text, spaced_all, listed, line_of_text, flag_text, strategy_text, fields, round_text, number_text, written, Held, ReadsBack, WrittenApart}
use Rattle.format.proofs.Chains.{then_found}
use Rattle.format.proofs.Digits.{small_number}
use Rattle.format.proofs.Lists.{each_suc, each_zero}

begins_own : (ws bs : List ℕ) → begins ws (ws ++ bs) ≡ true
begins_own [] bs = refl
begins_own (w ∷ ws) bs = ap (λ t. t && begins ws (ws ++ bs)) (eq-eqb w w refl) ∙ begins_own ws bs

word_back : (ws : List ℕ) (e : Expected) (bs : List ℕ) → the_word ws e (ws ++ bs) ≡ found tt bs
unfolding the_word
word_back ws e bs = cond-true (begins ws (ws ++ bs)) _ _ (begins_own ws bs) ∙ ap (found tt) (drop-append_seam ws bs)

key_back : (k : Key) (bs : List ℕ) → the_key k (letters k ++ bs) ≡ found tt bs
key_back k bs = word_back (letters k) (expected.Word k) bs

blank_back : (bs : List ℕ) → blank (32 ∷ bs) ≡ found tt bs
blank_back bs = word_back (32 ∷ []) expected.Blank bs

end_back : (bs : List ℕ) → line_end (10 ∷ bs) ≡ found tt bs
end_back bs = word_back (10 ∷ []) expected.LineEnd bs

value_append : (ds es : List ℕ) (m : ℕ) → value_after m (ds ++ es) ≡ value_after (value_after m ds) es
value_append [] es m = refl
value_append (d ∷ ds) es m = value_append ds es (m * 10 + (d - 48))

-- the digits of a number are counted whole, and are that number
record Spelled (n : ℕ) (ds : List ℕ) : Type 0 where
  counted : (bs : List ℕ) → digit_count (ds ++ bs) ≡ length ds + digit_count bs
  valued : value_after 0 ds ≡ n
  some : 0 < length ds

digit : (n : ℕ) → n < 10 → is_digit (48 + n) ≡ true
digit n h =
    let low : 48 ≤ 48 + n = omega arith in
    let high : 48 + n ≤ 57 = omega arith in
    and_from _ _ (le-leb _ _ low) (le-leb _ _ high)

digit_more : (n : ℕ) (bs : List ℕ) → n < 10 → digit_count ((48 + n) ∷ bs) ≡ digit_count bs + 1
digit_more n bs h = cond-true (is_digit (48 + n)) _ _ (digit n h) ∙ omega arith

spelled : (n : ℕ) → n < 2 ^ 64 → Spelled n (decimal n)
spelled =
    decimal_by_steps Spelled
    (λ n h. record { counted = λ bs. digit_more n bs h ∙ omega arith; valued = omega arith; some = omega arith })
    (λ n ds h s. record {
      counted = λ bs.
          let small : n % 10 < 10 = omega arith in
          let a = ap digit_count (append_assoc ds ((48 + n % 10) ∷ []) bs) in
          let b = s.counted ((48 + n % 10) ∷ bs) in
          let c = digit_more (n % 10) bs small in
          let d = length-append ds ((48 + n % 10) ∷ []) in
          omega (arith, a, b, c, d);
      valued = let a = value_append ds ((48 + n % 10) ∷ []) 0 in let b = s.valued in
          a ∙ ap (λ m. m * 10 + (48 + n % 10 - 48)) b ∙ omega arith;
      some = let d = length-append ds ((48 + n % 10) ∷ []) in omega (arith, d);
    })

-- what follows a number does not begin with a digit
abbrev Clean : List ℕ → Type 0
Clean bs = digit_count bs ≡ 0

number_back : (n : ℕ) (bs : List ℕ) → Held n → Clean bs → number (decimal n ++ bs) ≡ found n bs
number_back n bs h e =
    let s = spelled n h in
    let ds = decimal n in
    let count : length ds ≡ digit_count (ds ++ bs) = omega (arith, s.counted bs, e) in
    let some : length ds ≡ 0 → ⊥ = λ z. omega (arith, z, s.some) in
    let v : n ≡ value_after 0 (take (length ds) (ds ++ bs)) = sym (ap (value_after 0) (take-append_seam ds bs) ∙ s.valued) in
    small_number (ds ++ bs) (length ds) n count some (omega (arith, v)) (omega arith) ∙ ap (found n) (drop-append_seam ds bs)

next_back : (n : ℕ) (bs : List ℕ) → Held n → Clean bs → next_number (spaced n bs) ≡ found n bs
unfolding next_number
next_back n bs h e = then_found (λ _ rest. number rest) (blank_back (decimal n ++ bs)) ∙ number_back n bs h e

cleaned : {X : Type 0} (text : ℕ → X → List ℕ → List ℕ) → ((i : ℕ) (x : X) (more : List ℕ) → Clean (text i x more)) → (i : ℕ) (xs : List X) (more : List ℕ)
    → Clean more → Clean (all_text text i xs more)
cleaned text clean i [] more end = end
cleaned text clean i (x ∷ xs) more end = clean i x (all_text text (suc i) xs more)

-- items are read back one by one
each_back : {X : Type 0} (item : ℕ → List ℕ → Read X) (text : ℕ → X → List ℕ → List ℕ) (Fine : X → Type 0) (bound : ℕ)
    → ((i : ℕ) (x : X) (more : List ℕ) → i < bound → Fine x → Clean more → item i (text i x more) ≡ found x more)
    → ((i : ℕ) (x : X) (more : List ℕ) → Clean (text i x more))
    → (i : ℕ) (xs : List X) (more : List ℕ) → i + length xs ≤ bound → AllByRecursion Fine xs → Clean more → each item i (length xs) (all_text text i xs more) ≡ found xs more
each_back item text Fine bound back clean i [] more few fine end = each_zero item i more
each_back item text Fine bound back clean i (x ∷ xs) more few fine end =
    each_suc item i (length xs) (text i x (all_text text (suc i) xs more))
    ∙ then_found (λ y rest. then (each item (suc i) (length xs) rest) (λ ys e. found (y ∷ ys) e))
    (back i x (all_text text (suc i) xs more) (omega arith) fine.0 (cleaned text clean (suc i) xs more end))
    ∙ then_found (λ ys e. found (x ∷ ys) e) (each_back item text Fine bound back clean (suc i) xs more (omega arith) fine.1 end)

numbers_back : (xs more : List ℕ) → Held (length xs) → AllByRecursion Held xs → Clean more → numbers_listed (length xs) (spaced_all xs more) ≡ found xs more
unfolding numbers_listed
numbers_back xs more h a e =
    each_back (λ _. next_number) (λ _ x. spaced x) Held (2 ^ 64) (λ i x rest _ held clean. next_back x rest held clean) (λ i x rest. refl) 0 xs more
    (omega arith) a e

list_back : (xs more : List ℕ) → Held (length xs) → AllByRecursion Held xs → Clean more → list (listed xs more) ≡ found xs more
unfolding list_of numbers_listed
list_back xs more h a e =
    then_found (λ count rest. each (λ _. next_number) 0 count rest)
    (next_back (length xs) (spaced_all xs more) h (cleaned (λ _ x. spaced x) (λ i x rest. refl) 0 xs more e))
    ∙ numbers_back xs more h a e

byte_back : (b : ℕ) (bs : List ℕ) → b < 256 → Clean bs → byte_item (spaced b bs) ≡ found b bs
unfolding byte_item
byte_back b bs h e =
    then_found (λ n rest. cond (ltb n 256) (found n rest) (stuck expected.Byte rest)) (next_back b bs (omega arith) e)
    ∙ cond-true (ltb b 256) _ _ (lt-ltb _ _ h)

byte_list_back : (xs more : List ℕ) → Held (length xs) → AllByRecursion (λ b. b < 256) xs → Clean more → byte_list (listed xs more) ≡ found xs more
unfolding list_of
byte_list_back xs more h a e =
    then_found (λ count rest. each (λ _. byte_item) 0 count rest)
    (next_back (length xs) (spaced_all xs more) h (cleaned (λ _ x. spaced x) (λ i x rest. refl) 0 xs more e))
    ∙ each_back (λ _. byte_item) (λ _ x. spaced x) (λ b. b < 256) (2 ^ 64) (λ i x rest _ held clean. byte_back x rest held clean) (λ i x rest. refl) 0 xs more
    (omega arith) a e

flag_back : (b : Bool) (bs : List ℕ) → Clean bs → flag (flag_text b bs) ≡ found b bs
unfolding flag
flag_back true bs e =
    then_found (λ n rest. cond (eqb n 0) (found false rest) (cond (eqb n 1) (found true rest) (stuck expected.Flag rest))) (next_back 1 bs (omega arith) e)
flag_back false bs e =
    then_found (λ n rest. cond (eqb n 0) (found false rest) (cond (eqb n 1) (found true rest) (stuck expected.Flag rest))) (next_back 0 bs (omega arith) e)

index_back : (i : ℕ) (bs : List ℕ) → Held i → Clean bs → line_index i (spaced i bs) ≡ found tt bs
unfolding line_index
index_back i bs h e =
    then_found (λ n rest. cond (eqb n i) (found tt rest) (stuck (expected.Index i) rest)) (next_back i bs h e)
    ∙ cond-true (eqb i i) _ _ (eq-eqb i i refl)

strategy_back : (s : Strategy) (bs : List ℕ) → Held (length (factors_of s)) → AllByRecursion Held (factors_of s) → Clean bs → strategy (strategy_text s bs) ≡ found s bs
unfolding strategy constant_behind second_behind listed_behind
strategy_back (constant f) bs h a e = then_found (λ g rest. found (constant g) rest) (next_back f bs a.0 e)
strategy_back (second f g) bs h a e =
    then_found (λ x rest. then (next_number rest) (λ y end. found (second x y) end)) (next_back f (spaced g bs) a.0 refl)
    ∙ then_found (λ y end. found (second f y) end) (next_back g bs a.1.0 e)
strategy_back (per_round fs) bs h a e = then_found (λ xs rest. found (per_round xs) rest) (list_back fs bs h a e)

line_back : {X : Type 0} (k : Key) (part : List ℕ → Read X) (text : List ℕ → List ℕ) (x : X) (more : List ℕ) → part (text (10 ∷ more)) ≡ found x (10 ∷ more)
    → line k part (line_of_text k text more) ≡ found x more
unfolding line
line_back k part text x more h =
    then_found (λ _ behind. then (part behind) (λ y end. then (line_end end) (λ _ rest. found y rest))) (key_back k (text (10 ∷ more)))
    ∙ then_found (λ y end. then (line_end end) (λ _ rest. found y rest)) h
    ∙ then_found (λ _ rest. found x rest) (end_back more)

number_line_back : (k : Key) (n : ℕ) (more : List ℕ) → Held n → line k next_number (number_text k n more) ≡ found n more
number_line_back k n more h = line_back k next_number (spaced n) n more (next_back n (10 ∷ more) h refl)

list_line_back : (k : Key) (xs more : List ℕ) → Held (length xs) → AllByRecursion Held xs → line k list (line_of_text k (listed xs) more) ≡ found xs more
list_line_back k xs more h a = line_back k list (listed xs) xs more (list_back xs (10 ∷ more) h a refl)

round_back : (i : ℕ) (r : RoundConfig) (more : List ℕ) → i < 2 ^ 64 → AllByRecursion Held (fields r) → round i (round_text i r more) ≡ found r more
unfolding round
round_back i r more h a =
    then_found _ (key_back key.Round (spaced i (spaced_all (fields r) (10 ∷ more))))
    ∙ then_found _ (index_back i (spaced_all (fields r) (10 ∷ more)) h refl)
    ∙ then_found _ (numbers_back (fields r) (10 ∷ more) (omega arith) a refl)
    ∙ then_found _ (end_back more)

rounds_back : (rs : List RoundConfig) (more : List ℕ) → Held (length rs) → AllByRecursion (λ r. AllByRecursion Held (fields r)) rs → Clean more
    → rounds (number_text key.Rounds (length rs) (all_text round_text 0 rs more)) ≡ found rs more
unfolding rounds rounds_listed
rounds_back rs more h a e =
    then_found (λ count rest. rounds_listed count rest) (number_line_back key.Rounds (length rs) (all_text round_text 0 rs more) h)
    ∙ each_back round round_text (λ r. AllByRecursion Held (fields r)) (2 ^ 64) (λ i r rest low held _. round_back i r rest low held) (λ i r rest. refl) 0 rs more
    (omega arith) a e

terminal_back : (q d : ℕ) (more : List ℕ) → Held q → Held d
    → line key.Terminal terminal_of (line_of_text key.Terminal (λ end. spaced q (spaced d end)) more) ≡ found (record { num_queries = q; pow_bits = d }) more
unfolding terminal_of
terminal_back q d more h k =
    line_back key.Terminal terminal_of (λ end. spaced q (spaced d end)) (record { num_queries = q; pow_bits = d }) more
    (then_found _ (next_back q (spaced d (10 ∷ more)) h refl) ∙ then_found _ (next_back d (10 ∷ more) k refl))

pub reads_back : ReadsBack
unfolding written configuration_lines
reads_back N more s =
    let n = s.numbers in
    let l = s.lengths in
    then_found _ (number_line_back key.NumVariables N.variables _ n.0)
    ∙ then_found _ (number_line_back key.Capacity N.capacity _ n.1.0)
    ∙ then_found _ (line_back key.DomainId byte_list (listed N.id) N.id _ (byte_list_back N.id _ l.0 s.bytes refl))
    ∙ then_found _ (line_back key.Stratified flag (flag_text N.strata) N.strata _ (flag_back N.strata _ refl))
    ∙ then_found _ (number_line_back key.StartingLogInvRate N.first_rate _ n.1.1.0)
    ∙ then_found _ (list_line_back key.RoundLogInvRates N.listed_rates _ l.1.0 s.rates)
    ∙ then_found _ (line_back key.FoldingFactor strategy (strategy_text N.strategy) N.strategy _
    (strategy_back N.strategy _ l.1.1.1.1.0 s.factors refl))
    ∙ then_found _ (number_line_back key.Soundness N.soundness _ n.1.1.1.0)
    ∙ then_found _ (number_line_back key.SecurityLevel N.level _ n.1.1.1.1.0)
    ∙ then_found _ (number_line_back key.PowBudget N.budget _ n.1.1.1.1.1.0)
    ∙ then_found _ (list_line_back key.Schedule N.stored _ l.1.1.0 s.schedule)
    ∙ then_found _ (rounds_back N.rounds _ l.1.1.1.0 s.rounds refl)
    ∙ then_found _ (number_line_back key.CommitmentOodSamples N.commitment_samples _ n.1.1.1.1.1.1.0)
    ∙ then_found _ (number_line_back key.StartingFoldingPowBits N.first_difficulty _ n.1.1.1.1.1.1.1.0)
    ∙ then_found _ (terminal_back N.terminal.num_queries N.terminal.pow_bits _ n.1.1.1.1.1.1.1.1.0 n.1.1.1.1.1.1.1.1.1.0)
    ∙ then_found _ (number_line_back key.FinalSumcheckRounds N.final_rounds _ n.1.1.1.1.1.1.1.1.1.1.0)
    ∙ then_found _ (number_line_back key.FinalFoldingPowBits N.final_difficulty _ n.1.1.1.1.1.1.1.1.1.1.1.0)

pub written_apart : WrittenApart
written_apart N M more s t e =
    let same : ◌≡◌ {A = Read Numbers} (found N more) (found M more) = sym (reads_back N more s) ∙ ap configuration_lines e ∙ reads_back M more t in cc
