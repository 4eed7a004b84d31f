-- A play answers exactly where its checks hold along its reading.
use Rattle.std.proofs.Common.{◌≡◌, ℕ, ◌↔◌, List, [], ◌∷◌, Ok, Err, Result, sym, refl, ap, ◌∙◌, subst}
use Rattle.sponge.specs.Play.{Rules, Play, done, observe, draw, check, under, ◌>>=◌, Outcome, tested, reworded, goes_on, run, Reading, read, Passes, unchecked, each}
use Rattle.sponge.specs.Deciding.{All, Every}
use Rattle.sponge.specs.Plays.{Plays}
use Rattle.sponge.specs.Laws.{DecidedByChecks, Says}

-- a reading, as an outcome
abbrev answered : {R A : Type 0} → Reading A → Outcome R A
answered r = record { answer = Ok r.value; list = r.list }

tested_yes : {R P : Type 0} (d : Dec P) (r : R) → P → tested d r ≡ Ok tt
tested_yes (yes p) r h = refl
tested_yes (no n) r h = absurd (n h)

-- where the checks hold the run comes to what is read
pub passes_run : {R A : Type 0} (m : Rules) (s : List ℕ) (p : Play R A) → Passes m s p → run m s p ≡ answered (read m s p)
passes_run m s (done a) h = refl
passes_run m s (observe bs) h = refl
passes_run m s draw h = refl
passes_run m s (check P d r) h = ap (λ o. record { answer = o; list = s }) (tested_yes d r h)
passes_run m s (under w p) h = ap (λ c. record { answer = reworded w c.answer; list = c.list }) (passes_run m s p h)
passes_run m s (p >>= f) h =
    ap (λ c. goes_on c.answer c.list (λ a t. run m t (f a))) (passes_run m s p h.0)
    ∙ passes_run m (read m s p).list (f (read m s p).value) h.1

-- the outcome is an answer
abbrev Good : {R A : Type 0} → Result A R → Type 0
Good (Ok a) = Unit {0}
Good (Err r) = ⊥

good_tested : {R P : Type 0} (d : Dec P) (r : R) → Good (tested d r) → P
good_tested (yes p) r g = p
good_tested (no n) r g = absurd g

good_reworded : {Q R A : Type 0} (w : Q → R) (o : Result A Q) → Good (reworded w o) → Good o
good_reworded w (Ok a) g = tt
good_reworded w (Err q) g = g

good_first : {R A B : Type 0} (o : Result A R) (t : List ℕ) (k : A → List ℕ → Outcome R B) → Good (goes_on o t k).answer → Good o
good_first (Ok a) t k g = tt
good_first (Err r) t k g = g

-- an answer has passed every check
run_passes : {R A : Type 0} (m : Rules) (s : List ℕ) (p : Play R A) → Good (run m s p).answer → Passes m s p
run_passes m s (done a) g = tt
run_passes m s (observe bs) g = tt
run_passes m s draw g = tt
run_passes m s (check P d r) g = good_tested d r g
run_passes m s (under w p) g = run_passes m s p (good_reworded w (run m s p).answer g)
run_passes m s (p >>= f) g =
    let h : Passes m s p = run_passes m s p (good_first (run m s p).answer (run m s p).list (λ a t. run m t (f a)) g) in (
      h,
      run_passes m (read m s p).list (f (read m s p).value)
          (subst (λ c. Good (goes_on c.answer c.list (λ a t. run m t (f a))).answer) (passes_run m s p h) g),
    )

-- what cannot refuse passes
pub never : {A : Type 0} (m : Rules) (s : List ℕ) (p : Play ⊥ A) → Passes m s p
never m s p = run_passes m s p (good (run m s p).answer)
  where
    good : {A : Type 0} (o : Result A ⊥) → Good o
    good (Ok a) = tt
    good (Err r) = r

ok_same : {R A : Type 0} (a b : A) → ◌≡◌ {A = Result A R} (Ok a) (Ok b) → a ≡ b
ok_same a b e = cc

-- it answers exactly where its checks hold, and then with what is read
pub accepts : {R A : Type 0} (m : Rules) (s : List ℕ) (p : Play R A) (a : A) → ((run m s p).answer ≡ Ok a) ↔ (Passes m s p × ((read m s p).value ≡ a))
accepts {R} {A} m s p a = (
  λ e. let h : Passes m s p = run_passes m s p (subst Good (sym e) tt) in
      (h, ok_same {R = R} (read m s p).value a (sym (ap (λ c. c.answer) (passes_run m s p h)) ∙ e)),
  λ h. ap (λ c. c.answer) (passes_run m s p h.0) ∙ ap Ok h.1,
)

-- nothing checked: it always answers what is read
run_unchecked : {R A : Type 0} (m : Rules) (s : List ℕ) (p : Play R A) → run m s (unchecked p) ≡ answered (read m s p)
run_unchecked m s (done a) = refl
run_unchecked m s (observe bs) = refl
run_unchecked m s draw = refl
run_unchecked m s (check P d r) = refl
run_unchecked m s (under w p) = ap (λ c. record { answer = reworded w c.answer; list = c.list }) (run_unchecked m s p)
run_unchecked m s (p >>= f) =
    ap (λ c. goes_on c.answer c.list (λ a t. run m t (unchecked (f a)))) (run_unchecked m s p)
    ∙ run_unchecked m (read m s p).list (f (read m s p).value)

pub decided : {R A : Type 0} (p : Play R A) → DecidedByChecks p
decided p m s = record {
  answers = accepts m s p;
  leaves = λ h. ap (λ c. c.list) (passes_run m s p h);
  reads = run_unchecked m s p;
}

-- a function that answered: its checks hold, and it answered and left what is read
pub plays_read : {R A : Type 0} {m : Rules} {s t : List ℕ} {a : A} (p : Play R A) → Plays m s p (Ok a) t → Passes m s p × ((read m s p).value ≡ a) × ((read m s p).list ≡ t)
plays_read {m = m} {s = s} {a = a} p h =
    let k = (accepts m s p a).0 (ap (λ c. c.answer) h.comes) in
    (k.0, k.1, sym (ap (λ c. c.list) (passes_run m s p k.0)) ∙ ap (λ c. c.list) h.comes)

-- where the checks hold, a function answers and leaves what is read
pub passes_plays : {R A : Type 0} {m : Rules} {s t : List ℕ} {o : Result A R} (p : Play R A) → Passes m s p → Plays m s p o t → (o ≡ Ok (read m s p).value) × (t ≡ (read m s p).list)
passes_plays {m = m} {s = s} p h k =
    let e = sym k.comes ∙ passes_run m s p h in
    (ap (λ c. c.answer) e, ap (λ c. c.list) e)

-- the checks of a loop are those of its turns
pub each_says : {R A B : Type 0} (f : A → Play R B) (D : A → B → Type 0) → ((x : A) → Says (f x) (D x)) → (xs : List A) → Says (each f xs) (Every D xs)
unfolding each
each_says f D h [] m s = (λ _. tt, λ _. tt)
each_says f D h (x ∷ xs) m s =
    let t = (read m s (f x)).list in
    (λ p. ((h x m s).0 p.0, (each_says f D h xs m t).0 p.1.0), λ d. ((h x m s).1 d.0, ((each_says f D h xs m t).1 d.1, tt)))

-- .. also where they do not look at what is read
pub each_all : {R A B : Type 0} (f : A → Play R B) (P : A → Type 0) → ((x : A) (m : Rules) (s : List ℕ) → Passes m s (f x) ↔ P x) → (xs : List A) (m : Rules) (s : List ℕ) → Passes m s (each f xs) ↔ All P xs
unfolding each
each_all f P h [] m s = (λ _. tt, λ _. tt)
each_all f P h (x ∷ xs) m s =
    let t = (read m s (f x)).list in
    (λ p. ((h x m s).0 p.0, (each_all f P h xs m t).0 p.1.0), λ d. ((h x m s).1 d.0, ((each_all f P h xs m t).1 d.1, tt)))
