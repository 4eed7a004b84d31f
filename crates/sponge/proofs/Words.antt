-- The words drawn settle what a play comes to, and the calls that it makes.
use Rattle.std.proofs.Common.{◌≡◌, ℕ, List, [], ◌∷◌, ◌++◌, Ok, Err, Result, sym, refl, ap, ◌∙◌, append_assoc, append-nil}
use Rattle.sponge.specs.Play.{Rules, Play, done, observe, draw, check, under, ◌>>=◌, reworded, goes_on, run, Event, observed, drew, onward, trail, words, after, reader}
use Rattle.sponge.specs.Laws.{Settled, LeftByTrail}

pub words_append : (es fs : List Event) → words (es ++ fs) ≡ words es ++ words fs
words_append [] fs = refl
words_append (observed bs ∷ es) fs = words_append es fs
words_append (drew w ∷ es) fs = ap (λ l. w ∷ l) (words_append es fs)

pub after_append : (m : Rules) (s : List ℕ) (es fs : List Event) → after m s (es ++ fs) ≡ after m (after m s es) fs
after_append m s [] fs = refl
after_append m s (observed bs ∷ es) fs = after_append m (m.after_observe s bs) es fs
after_append m s (drew w ∷ es) fs = after_append m (m.after_draw s) es fs

-- the calls of a first play, and those that its answer leads to
module _ {R A B : Type 0} (f : A → Play R B) (m : Rules) (s t : List ℕ) (es : List Event) (e : t ≡ after m s es) where
  left_onward : (o : Result A R) → ((a : A) → LeftByTrail (f a)) → (goes_on o t (λ a u. run m u (f a))).list ≡ after m s (es ++ onward o (λ a. trail m t (f a)))
  left_onward (Ok a) h = h a m t ∙ ap (λ u. after m u (trail m t (f a))) e ∙ sym (after_append m s es (trail m t (f a)))
  left_onward (Err r) h = e ∙ ap (after m s) (sym (append-nil es))

-- a sponge is left as the calls of the trail leave it
pub left_by_trail : {R A : Type 0} (p : Play R A) → LeftByTrail p
left_by_trail (done a) m s = refl
left_by_trail (observe bs) m s = refl
left_by_trail draw m s = refl
left_by_trail (check P d r) m s = refl
left_by_trail (under w p) m s = left_by_trail p m s
left_by_trail (p >>= f) m s = left_onward f m s (run m s p).list (trail m s p) (left_by_trail p m s) (run m s p).answer (λ a. left_by_trail (f a))

-- what a play comes to for a sponge that reads its words off a list, and the calls that it makes
pub record Reread {R A : Type 0} (m : Rules) (s us : List ℕ) (p : Play R A) : Type 0 where
  pub comes : run reader (words (trail m s p) ++ us) p ≡ record { answer = (run m s p).answer; list = us }
  pub calls : trail reader (words (trail m s p) ++ us) p ≡ trail m s p

-- a first play that the reader has come through, and what its answer leads to
module _ {R A B : Type 0} (f : A → Play R B) (m : Rules) (t us : List ℕ) where
  outcome_onward : (o : Result A R) → ((a : A) → Reread m t us (f a))
      → goes_on o (words (onward o (λ a. trail m t (f a))) ++ us) (λ a u. run reader u (f a)) ≡ record { answer = (goes_on o t (λ a u. run m u (f a))).answer; list = us }
  outcome_onward (Ok a) h = (h a).comes
  outcome_onward (Err r) h = refl

  calls_onward : (o : Result A R) → ((a : A) → Reread m t us (f a))
      → onward o (λ a. trail reader (words (onward o (λ a. trail m t (f a))) ++ us) (f a)) ≡ onward o (λ a. trail m t (f a))
  calls_onward (Ok a) h = (h a).calls
  calls_onward (Err r) h = refl

-- given the words of a run, the reader comes to what the run came to, and has used them up
pub reread : {R A : Type 0} (p : Play R A) (m : Rules) (s us : List ℕ) → Reread m s us p
reread (done a) m s us = record { comes = refl; calls = refl }
reread (observe bs) m s us = record { comes = refl; calls = refl }
reread draw m s us = record { comes = refl; calls = refl }
reread (check P d r) m s us = record { comes = refl; calls = refl }
reread (under w p) m s us =
    let h = reread p m s us in
    record { comes = ap (λ c. record { answer = reworded w c.answer; list = c.list }) h.comes; calls = h.calls }
reread (p >>= f) m s us =
    let t = (run m s p).list in
    let o = (run m s p).answer in
    let rest = onward o (λ a. trail m t (f a)) in
    let split : words (trail m s p ++ rest) ++ us ≡ words (trail m s p) ++ (words rest ++ us) =
    ap (λ l. l ++ us) (words_append (trail m s p) rest) ∙ append_assoc (words (trail m s p)) (words rest) us in
    let h = reread p m s (words rest ++ us) in
    let c = run reader (words (trail m s p) ++ (words rest ++ us)) p in
    record {
      comes =
          ap (λ l. run reader l (p >>= f)) split
          ∙ ap (λ c. goes_on c.answer c.list (λ a u. run reader u (f a))) h.comes
          ∙ outcome_onward f m t us o (λ a. reread (f a) m t us);
      calls =
          ap (λ l. trail reader l (p >>= f)) split
          ∙ ap (λ es. es ++ onward c.answer (λ a. trail reader c.list (f a))) h.calls
          ∙ ap (λ c. trail m s p ++ onward c.answer (λ a. trail reader c.list (f a))) h.comes
          ∙ ap (λ es. trail m s p ++ es) (calls_onward f m t us o (λ a. reread (f a) m t us));
    }

pub settled : {R A : Type 0} (p : Play R A) → Settled p
settled p = record {
  alike = λ m n s t e. let h = reread p m s [] in let k = reread p n t [] in (
    sym (ap (λ c. c.answer) h.comes) ∙ ap (λ l. (run reader (l ++ []) p).answer) e ∙ ap (λ c. c.answer) k.comes,
    sym h.calls ∙ ap (λ l. trail reader (l ++ []) p) e ∙ k.calls,
  );
  again = λ m s. ap (λ l. run reader l p) (sym (append-nil (words (trail m s p)))) ∙ (reread p m s []).comes;
}
