-- The counts of a sumcheck: what the tests say, and what a play of them comes to.
use Rattle.std.proofs.Common.{◌≡◌, ℕ, ◌+◌, ◌*◌, ◌/◌, ◌<◌, Bool, true, false, cond, eqb, List, [], ◌∷◌, length, Ok, Err, Result, sym, refl, ap, ◌∙◌, arith}
use Rattle.std.proofs.lemmas.Bool.{eq-eqb, ne_eqb, eqb-true, true≢false, false≢true}
use Rattle.sponge.specs.Play.{Rules, Play, ◌>>◌, run}
use Rattle.sponge.specs.Deciding.{true?}
use Rattle.sumcheck.specs.declared.errors.SumcheckError.TheVariants.{MessageCount, WitnessCount}
use Rattle.sumcheck.specs.Checks.{Check, ask_all}
use Rattle.sumcheck.specs.Rounds.{Sent, Rounds, due, count_checks, messages_of}
use Rattle.sumcheck.specs.Verified.{Counted}

-- half as many messages as elements
pub messages_count : {E : Type 0} (l : List E) → length (messages_of l) ≡ length l / 2
messages_count [] = refl
messages_count (a ∷ []) = refl
messages_count (a ∷ b ∷ l) = omega (arith, messages_count l)

-- a choice between statements, where the test is known
chosen : (P Q : Type 0) (b : Bool) → b ≡ true → P → cond b P Q
chosen P Q true e p = p
chosen P Q false e p = absurd (false≢true e)

left_out : (P Q : Type 0) (b : Bool) → b ≡ false → Q → cond b P Q
left_out P Q true e q = absurd (true≢false e)
left_out P Q false e q = q

-- a test that did not refuse holds
passed : {R : Type 0} (P : Type 0) (r : R) (b : Bool) → cond b P (◌≡◌ {A = Result Unit R} (Ok tt) (Err r)) → b ≡ true
passed P r true h = refl
passed {R} P r false h = let w : ◌≡◌ {A = Result Unit R} (Ok tt) (Err r) = h in cc

-- what the counts come to
module _ {F E : Type 0} (n : Rounds) (p : Sent F E) where
  pub message_count : (actual : ℕ) → length p.messages ≡ actual → ¬ (actual ≡ n.turns) → Counted (count_checks n p) (Err (MessageCount n.phase n.turns actual))
  message_count actual e h = left_out _ _ (eqb (length p.messages) n.turns) (ne_eqb (length p.messages) n.turns (λ k. h (sym e ∙ k))) (ap (λ a. Err (MessageCount n.phase n.turns a)) (sym e))

  pub witness_count : (asked : ℕ) → length p.messages ≡ n.turns → asked ≡ due n → ¬ (length p.witnesses ≡ asked) → Counted (count_checks n p) (Err (WitnessCount n.phase asked (length p.witnesses)))
  witness_count asked e d h =
      chosen _ _ (eqb (length p.messages) n.turns) (eq-eqb (length p.messages) n.turns e)
      (left_out _ _ (eqb (length p.witnesses) (due n)) (ne_eqb (length p.witnesses) (due n) (λ k. h (k ∙ sym d))) (ap (λ a. Err (WitnessCount n.phase a (length p.witnesses))) d))

  pub counts_right : length p.messages ≡ n.turns → length p.witnesses ≡ due n → Counted (count_checks n p) (Ok tt)
  counts_right e d =
      chosen _ _ (eqb (length p.messages) n.turns) (eq-eqb (length p.messages) n.turns e)
      (chosen _ _ (eqb (length p.witnesses) (due n)) (eq-eqb (length p.witnesses) (due n) d) refl)

  -- where they pass there are as many messages as rounds
  pub messages_there : Counted (count_checks n p) (Ok tt) → length p.messages ≡ n.turns
  messages_there h = eqb-true (length p.messages) n.turns (passed _ _ (eqb (length p.messages) n.turns) h)

-- both elements of a round's message stand among the elements
pub message_there : {F E : Type 0} (n : Rounds) (elements : List E) (witnesses : List F) (i : ℕ) → Counted (count_checks n (record { messages = messages_of elements; witnesses = witnesses })) (Ok tt)
    → i < n.turns → 2 * i + 1 < length elements
message_there n elements witnesses i h below = omega (arith, messages_there n (record { messages = messages_of elements; witnesses = witnesses }) h, messages_count elements)

-- how many witnesses are due
pub none_due : (b turns asked : ℕ) → b ≡ 0 → asked ≡ 0 → asked ≡ cond (eqb b 0) 0 turns
none_due b turns asked e h = rw (eq-eqb b 0 e) h

pub each_due : (b turns asked : ℕ) → ¬ (b ≡ 0) → asked ≡ turns → asked ≡ cond (eqb b 0) 0 turns
each_due b turns asked e h = rw (ne_eqb b 0 e) h

-- a play of tests in turn, and then another
module _ {R A : Type 0} (m : Rules) (s : List ℕ) (q : Play R A) where
  -- all hold: the other is played
  pub counts_hold : (cs : List (Check R)) → Counted cs (Ok tt) → run m s (ask_all cs >> q) ≡ run m s q
  unfolding true?
  counts_hold [] h = refl
  counts_hold (c ∷ cs) h = go c.holds c.refusal (counts_hold cs) h
    where
      go : (b : Bool) (r : R) → (Counted cs (Ok tt) → run m s (ask_all cs >> q) ≡ run m s q) → cond b (Counted cs (Ok tt)) (◌≡◌ {A = Result Unit R} (Ok tt) (Err r)) → run m s (ask_all (record { holds = b; refusal = r } ∷ cs) >> q) ≡ run m s q
      go true r k h = k h
      go false r k h = cc

  -- one fails: it refuses
  pub counts_refuse : (cs : List (Check R)) (e : R) → Counted cs (Err e) → run m s (ask_all cs >> q) ≡ record { answer = Err e; list = s }
  unfolding true?
  counts_refuse [] e h = let w : ◌≡◌ {A = Result Unit R} (Err e) (Ok tt) = h in cc
  counts_refuse (c ∷ cs) e h = go c.holds c.refusal (counts_refuse cs e) h
    where
      go : (b : Bool) (r : R) → (Counted cs (Err e) → run m s (ask_all cs >> q) ≡ record { answer = Err e; list = s }) → cond b (Counted cs (Err e)) (◌≡◌ {A = Result Unit R} (Err e) (Err r)) → run m s (ask_all (record { holds = b; refusal = r } ∷ cs) >> q) ≡ record { answer = Err e; list = s }
      go true r k h = k h
      go false r k h = let same : r ≡ e = cc in ap (λ x. record { answer = Err x; list = s }) same
