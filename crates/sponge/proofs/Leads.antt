-- Chaining what the calls of a function promise into what the function promises: Leads from call to call, and Plays at the end.
use Rattle.std.proofs.Common.{◌≡◌, ℕ, suc, ◌+◌, ◌-◌, ◌<◌, ◌≤◌, List, [], ◌∷◌, ◌++◌, IsErrAnd, Ok, Err, Result, sym, refl, ap, ◌∙◌, subst, append_assoc, arith}
use mathlib.Core.Path.{fun_ext}
use Rattle.sponge.specs.Play.{Rules, Play, done, observe, draw, check, under, sure, ◌>>=◌, Outcome, reworded, goes_on, run, each, counted}
use Rattle.sponge.specs.Plays.{Plays, Leads}

pub leads_none : {R A : Type 0} (m : Rules) (s : List ℕ) (p : Play R A) → Leads m s p s p
leads_none m s p = record { leads = refl }

module _ {R B : Type 0} {m : Rules} {s t : List ℕ} {p : Play R B} where
  pub leads_observe : {u : List ℕ} (bs : List ℕ) (f : Unit {0} → Play R B) → Leads m s p t (observe bs >>= f) → u ≡ m.after_observe t bs → Leads m s p u (f tt)
  leads_observe bs f l e = record { leads = l.leads ∙ ap (λ v. run m v (f tt)) (sym e) }

  pub leads_draw : {u : List ℕ} {w : ℕ} (f : ℕ → Play R B) → Leads m s p t (draw >>= f) → w ≡ m.word t → u ≡ m.after_draw t → Leads m s p u (f w)
  leads_draw {w = w} f l a e = record { leads = l.leads ∙ ap (λ v. run m (m.after_draw t) (f v)) (sym a) ∙ ap (λ v. run m v (f w)) (sym e) }

  pub leads_yes : {P : Type 0} (d : Dec P) (r : R) (f : Unit {0} → Play R B) → Leads m s p t (check P d r >>= f) → P → Leads m s p t (f tt)
  leads_yes (yes x) r f l h = record { leads = l.leads }
  leads_yes (no n) r f l h = absurd (n h)

  pub leads_no : {P : Type 0} (d : Dec P) (r : R) (f : Unit {0} → Play R B) → Leads m s p t (check P d r >>= f) → ¬ P → Plays m s p (Err r) t
  leads_no (yes x) r f l h = absurd (h x)
  leads_no (no n) r f l h = record { comes = l.leads }

  pub leads_more : {A : Type 0} {u : List ℕ} {a : A} (x : Play R A) (f : A → Play R B) → Leads m s p t (x >>= f) → Plays m t x (Ok a) u → Leads m s p u (f a)
  leads_more x f l h = record { leads = l.leads ∙ ap (λ c. goes_on c.answer c.list (λ a t. run m t (f a))) h.comes }

  pub leads_refused : {A : Type 0} {u : List ℕ} {r : R} (x : Play R A) (f : A → Play R B) → Leads m s p t (x >>= f) → Plays m t x (Err r) u → Plays m s p (Err r) u
  leads_refused x f l h = record { comes = l.leads ∙ ap (λ c. goes_on c.answer c.list (λ a t. run m t (f a))) h.comes }

  -- a call that cannot refuse, in a play that can
  pub leads_sure : {A : Type 0} {u : List ℕ} {a : A} (x : Play ⊥ A) (f : A → Play R B) → Leads m s p t (sure x >>= f) → Plays m t x (Ok a) u → Leads m s p u (f a)
  leads_sure x f l h = record { leads = l.leads ∙ ap (λ c. goes_on (reworded absurd c.answer) c.list (λ a t. run m t (f a))) h.comes }

  pub leads_done : (a : B) → Leads m s p t (done a) → Plays m s p (Ok a) t
  leads_done a l = record { comes = l.leads }

  -- one of a list, and the others
  pub leads_each : {A Z : Type 0} (g : A → Play R Z) (x : A) (xs : List A) (k : List Z → Play R B) → Leads m s p t (each g (x ∷ xs) >>= k) → Leads m s p t (g x >>= λ b. each g xs >>= λ bs. k (b ∷ bs))
  unfolding each
  leads_each {A} {Z} g x xs k l = record { leads = l.leads ∙ go (run m t (g x)).answer (run m t (g x)).list }
    where
      inner : (b : Z) (o : Result (List Z) R) (v : List ℕ)
          → goes_on (goes_on o v (λ bs u. record { answer = Ok (b ∷ bs); list = u })).answer (goes_on o v (λ bs u. record { answer = Ok (b ∷ bs); list = u })).list (λ a u. run m u (k a)) ≡ goes_on o v (λ bs u. run m u (k (b ∷ bs)))
      inner b (Ok bs) v = refl
      inner b (Err r) v = refl

      go : (o : Result Z R) (v : List ℕ)
          → let c = goes_on o v (λ b u. run m u (each g xs >>= λ bs. done (b ∷ bs))) in goes_on c.answer c.list (λ a u. run m u (k a)) ≡ goes_on o v (λ b u. run m u (each g xs >>= λ bs. k (b ∷ bs)))
      go (Ok b) v = inner b (run m v (each g xs)).answer (run m v (each g xs)).list
      go (Err r) v = refl

  -- the same in a loop that collects: ys so far, b more
  pub leads_each_on : {A Z : Type 0} {u : List ℕ} {b : Z} (g : A → Play R Z) (x : A) (xs : List A) (k : List Z → Play R B) (ys : List Z)
      → Leads m s p t (each g (x ∷ xs) >>= λ bs. k (ys ++ bs)) → Plays m t (g x) (Ok b) u → Leads m s p u (each g xs >>= λ bs. k ((ys ++ (b ∷ [])) ++ bs))
  leads_each_on {u = u} {b = b} g x xs k ys l h =
      let n = leads_more (g x) (λ b. each g xs >>= λ bs. k (ys ++ (b ∷ bs))) (leads_each g x xs (λ bs. k (ys ++ bs)) l) h in
      record { leads = n.leads ∙ ap (λ (w : List _ → List _). run m u (each g xs >>= λ bs. k (w bs))) (fun_ext (λ bs. sym (append_assoc ys (b ∷ []) bs))) }

  pub leads_each_none : {A Z : Type 0} (g : A → Play R Z) (k : List Z → Play R B) → Leads m s p t (each g [] >>= k) → Leads m s p t (k [])
  unfolding each
  leads_each_none g k l = record { leads = l.leads }

pub plays_under : {Q R A : Type 0} {m : Rules} {s t : List ℕ} {p : Play Q A} {o : Result A Q} (w : Q → R) → Plays m s p o t → Plays m s (under w p) (reworded w o) t
plays_under w h = record { comes = ap (λ c. record { answer = reworded w c.answer; list = c.list }) h.comes }

-- a play from a list comes to one outcome
pub plays_once : {R A : Type 0} {m : Rules} {s t u : List ℕ} {p : Play R A} {o q : Result A R} → Plays m s p o t → Plays m s p q u → (o ≡ q) × (t ≡ u)
plays_once h k =
    let e = sym h.comes ∙ k.comes in
    (ap (λ c. c.answer) e, ap (λ c. c.list) e)

-- the last call of a run
pub leads_last : {R A : Type 0} {m : Rules} {s t u : List ℕ} {p q : Play R A} {o : Result A R} → Leads m s p t q → Plays m t q o u → Plays m s p o u
leads_last l h = record { comes = l.leads ∙ h.comes }

-- what `?` hands on is the error, reworded
pub plays_handed : {A Q R : Type 0} {m : Rules} {s t : List ℕ} {p : Play R A} (w : Q → R) (q : Q) (o : Result A R) → IsErrAnd o (λ r. r ≡ w q) → Plays m s p (Err (w q)) t → Plays m s p o t
plays_handed w q (Ok a) h l = absurd h
plays_handed {t = t} w q (Err r) h l = record { comes = l.comes ∙ ap (λ z. record { answer = Err z; list = t }) (sym h) }

-- the turns of a loop over the numbers from i to n
module _ {R B A : Type 0} {m : Rules} {s t : List ℕ} {p : Play R B} (g : ℕ → Play R A) (k : List A → Play R B) (i n : ℕ) where
  pub leads_counted : i < n → Leads m s p t (each g (counted i (n - i)) >>= k) → Leads m s p t (g i >>= λ b. each g (counted (i + 1) (n - (i + 1))) >>= λ bs. k (b ∷ bs))
  leads_counted h l =
      let e : n - i ≡ suc (n - (i + 1)) = omega arith in
      let l' : Leads m s p t (each g (i ∷ counted (suc i) (n - (i + 1))) >>= k) = subst (λ d. Leads m s p t (each g (counted i d) >>= k)) e l in
      subst (λ j. Leads m s p t (g i >>= λ b. each g (counted j (n - (i + 1))) >>= λ bs. k (b ∷ bs))) (omega arith) (leads_each g i (counted (suc i) (n - (i + 1))) k l')

  pub leads_counted_none : n ≤ i → Leads m s p t (each g (counted i (n - i)) >>= k) → Leads m s p t (k [])
  leads_counted_none h l =
      let e : n - i ≡ 0 = omega arith in
      leads_each_none g k (subst (λ d. Leads m s p t (each g (counted i d) >>= k)) e l)

-- a function that hands on something made of a play's answer
module _ {R A B : Type 0} (m : Rules) (s t : List ℕ) (p : Play R A) (f : A → B) where
  -- it refused: then the play did
  pub through_refused : (r : R) → Plays m s (p >>= λ a. done (f a)) (Err r) t → Plays m s p (Err r) t
  through_refused r h = record { comes = on (run m s p).answer (run m s p).list h.comes }
    where
      on : (o : Result A R) (u : List ℕ) → goes_on o u (λ a u. record { answer = Ok (f a); list = u }) ≡ record { answer = Err r; list = t } → ◌≡◌ {A = Outcome R A} (record { answer = o; list = u }) (record { answer = Err r; list = t })
      on (Ok a) u e = let w : ◌≡◌ {A = Result B R} (Ok (f a)) (Err r) = ap (λ c. c.answer) e in let z : ◌≡◌ {A = ℕ} 0 1 = cc in absurd (omega arith)
      on (Err q) u e = let w : ◌≡◌ {A = Result B R} (Err q) (Err r) = ap (λ c. c.answer) e in let v : u ≡ t = ap (λ c. c.list) e in let x : q ≡ r = cc in ap (λ z. record { answer = Err z; list = u }) x ∙ ap (λ z. record { answer = Err r; list = z }) v
