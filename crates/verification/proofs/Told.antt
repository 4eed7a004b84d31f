-- What a play comes to, by its checks in their order: a relation that goes along with the parts of the play.
use Rattle.std.proofs.Common.{◌≡◌, append-nil, ℕ, Bool, true, false, cond, T, List, [], ◌∷◌, ◌++◌, Ok, Err, sym, refl, ap, subst}
use Rattle.sponge.specs.Play.{Rules, Play, done, observe, check, under, sure, ◌>>=◌, Outcome, tested, reworded, goes_on, run, Reading, read}
use Rattle.sponge.proofs.Passing.{passes_run, never}
use Rattle.sumcheck.specs.Checks.{Check, ask, ask_all}
use Rattle.verification.specs.Checks.{verdict, lifted}

-- a reading, as an outcome
abbrev pub answered : {R A : Type 0} → Reading A → Outcome R A
answered r = record { answer = Ok r.value; list = r.list }

-- An outcome against checks: what is read where all hold, else the refusal of the first that fails.
abbrev pub Comes : {R A : Type 0} → List (Check R) → Outcome R A → Reading A → Type 0
Comes [] o r = o ≡ answered r
Comes (c ∷ cs) o r = (c.holds ≡ true → Comes cs o r) × (c.holds ≡ false → o.answer ≡ Err c.refusal)

-- A play comes to what these checks say of its reading.
pub record Told {R A : Type 0} (m : Rules) (s : List ℕ) (p : Play R A) (cs : List (Check R)) : Type 0 where
  pub comes : Comes cs (run m s p) (read m s p)

-- the answer is then the verdict
comes_verdict : {R A : Type 0} (cs : List (Check R)) (o : Outcome R A) (r : Reading A) → Comes cs o r → o.answer ≡ verdict cs r.value
comes_verdict [] o r h = ap (λ o. o.answer) h
comes_verdict {R} {A} (c ∷ cs) o r h = one c.holds (λ e. comes_verdict cs o r (h.0 e)) h.1
  where
    one : (b : Bool) → (b ≡ true → o.answer ≡ verdict cs r.value) → (b ≡ false → o.answer ≡ Err c.refusal) → o.answer ≡ cond b (verdict cs r.value) (Err c.refusal)
    one true f g = f refl
    one false f g = g refl

-- and so the run of a play answers the verdict on its reading
pub told_verdict : {R A : Type 0} {m : Rules} {s : List ℕ} (p : Play R A) {cs : List (Check R)} → Told m s p cs → (run m s p).answer ≡ verdict cs (read m s p).value
told_verdict {m = m} {s = s} p {cs} h = comes_verdict cs (run m s p) (read m s p) h.comes

-- checks in turn, where a play goes on
comes_on : {R A B : Type 0} (cs ds : List (Check R)) (o : Outcome R A) (r : Reading A) (k : A → List ℕ → Outcome R B) (q : Reading B)
    → Comes cs o r → Comes ds (k r.value r.list) q → Comes (cs ++ ds) (goes_on o.answer o.list k) q
comes_on [] ds o r k q h e = subst (λ o. Comes ds (goes_on o.answer o.list k) q) (sym h) e
comes_on (c ∷ cs) ds o r k q h e = (λ t. comes_on cs ds o r k q (h.0 t) e, λ f. ap (λ a. (goes_on a o.list k).answer) (h.1 f))

-- refusals in other words
comes_under : {Q R A : Type 0} (w : Q → R) (cs : List (Check Q)) (o : Outcome Q A) (r : Reading A)
    → Comes cs o r → Comes (lifted w cs) (record { answer = reworded w o.answer; list = o.list }) r
comes_under w [] o r h = ap (λ o. record { answer = reworded w o.answer; list = o.list }) h
comes_under w (c ∷ cs) o r h = (λ t. comes_under w cs o r (h.0 t), λ f. ap (reworded w) (h.1 f))

-- An answer, and bytes that are observed, have no checks.
pub told_done : {R A : Type 0} {m : Rules} {s : List ℕ} {a : A} → Told {R = R} m s (done a) []
told_done = record { comes = refl }

pub told_observe : {R : Type 0} {m : Rules} {s bs : List ℕ} → Told {R = R} m s (observe bs) []
told_observe = record { comes = refl }

-- what cannot refuse has no checks
pub told_sure : {R A : Type 0} {m : Rules} {s : List ℕ} {p : Play ⊥ A} → Told {R = R} m s (sure p) []
told_sure {m = m} {s = s} {p = p} = record { comes = ap (λ o. record { answer = reworded absurd o.answer; list = o.list }) (passes_run m s p (never m s p)) }

-- The same with refusals in other words, and with one play after another.
pub told_under : {Q R A : Type 0} {m : Rules} {s : List ℕ} {w : Q → R} {p : Play Q A} {cs : List (Check Q)} → Told m s p cs → Told m s (under w p) (lifted w cs)
told_under {m = m} {s = s} {w = w} {p = p} {cs = cs} h = record { comes = comes_under w cs (run m s p) (read m s p) h.comes }

pub told_bind : {R A B : Type 0} {m : Rules} {s : List ℕ} {p : Play R A} {f : A → Play R B} (cs : List (Check R)) {ds : List (Check R)}
    → Told m s p cs → Told m (read m s p).list (f (read m s p).value) ds → Told m s (p >>= f) (cs ++ ds)
told_bind {m = m} {s = s} {p = p} {f = f} cs {ds} h k =
    record { comes = comes_on cs ds (run m s p) (read m s p) (λ a t. run m t (f a)) (read m s (p >>= f)) h.comes k.comes }

-- checks that the answer alone comes after
pub told_last : {R A B : Type 0} {m : Rules} {s : List ℕ} {p : Play R A} {g : A → B} {cs : List (Check R)} → Told m s p cs → Told m s (p >>= λ a. done (g a)) cs
told_last {m = m} {s = s} {p = p} {g = g} {cs = cs} h = subst (Told m s (p >>= λ a. done (g a))) (append-nil cs) (told_bind cs h told_done)

-- a check against a test that decides the same
comes_tested : {R P : Type 0} {s : List ℕ} (d : Dec P) (b : Bool) (r : R) → (b ≡ true → P) → (b ≡ false → ¬ P)
    → Comes (record { holds = b; refusal = r } ∷ []) (record { answer = tested d r; list = s }) (record { value = tt; list = s })
comes_tested (yes p) b r f g = (λ t. refl, λ e. absurd (g e p))
comes_tested (no n) b r f g = (λ t. absurd (n (f t)), λ e. refl)

-- a check, a test that is asked, tests in turn
pub told_check : {R P : Type 0} {m : Rules} {s : List ℕ} {d : Dec P} {r : R} {b : Bool} → (b ≡ true → P) → (b ≡ false → ¬ P) → Told m s (check P d r) (record { holds = b; refusal = r } ∷ [])
told_check {d = d} {r = r} {b = b} f g = record { comes = comes_tested d b r f g }

pub told_ask : {R : Type 0} {m : Rules} {s : List ℕ} {b : Bool} {r : R} → Told m s (ask b r) (record { holds = b; refusal = r } ∷ [])
told_ask {b = b} = told_check (λ e. subst T (sym e) tt) (λ e h. subst T e h)

pub told_ask_all : {R : Type 0} {m : Rules} {s : List ℕ} (cs : List (Check R)) → Told m s (ask_all cs) cs
told_ask_all [] = told_done
told_ask_all (c ∷ cs) = told_bind (c ∷ []) told_ask (told_ask_all cs)
