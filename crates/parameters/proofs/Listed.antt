-- Listed factors, in turn: what one factor more comes to.
use Rattle.std.proofs.Common.{◌≡◌, ℕ, ◌+◌, ◌-◌, ◌<◌, ◌≤◌, false, eqb, ltb, leb, List, [], ◌∷◌, ◌++◌, length, get_or, take, drop, sym, refl, ap, ◌∙◌, arith}
use Rattle.std.proofs.lemmas.List.{at_drop_more, at_drop_all, take_more}
use Rattle.std.proofs.lemmas.Bool.{lt-ltb, le-ltb, le-leb, lt-leb, cond-true, cond-false}
use Rattle.parameters.specs.Refusals.{Refusal, too_large, insufficient}
use Rattle.parameters.specs.Schedule.{Verdict, planned, refused, before, walk, unless_faulty, listed}

-- folds before those of a plan
abbrev pub after : List ℕ → Verdict → Verdict
after [] v = v
after (k ∷ ks) v = before k (after ks v)

after_refused : (ks : List ℕ) (e : Refusal) → after ks (refused e) ≡ refused e
after_refused [] e = refl
after_refused (k ∷ ks) e = ap (before k) (after_refused ks e)

after_planned : (ks ls : List ℕ) → after ks (planned ls) ≡ planned (ks ++ ls)
after_planned [] ls = refl
after_planned (k ∷ ks) ls = ap (before k) (after_planned ks ls)

after_push : (ks : List ℕ) (k : ℕ) (v : Verdict) → after (ks ++ k ∷ []) v ≡ after ks (before k v)
after_push [] k v = refl
after_push (l ∷ ks) k v = ap (before l) (after_push ks k v)

-- a walk over n variables, with i factors behind and `left` variables still there
pub record Walking (t n left i : ℕ) (ks : List ℕ) : Type 0 where
  pub so_far : walk t n n ks ≡ after (take i ks) (walk t n left (drop i ks))

pub walk_large : {t n left i : ℕ} {ks : List ℕ} → Walking t n left i ks → i < length ks → left < get_or ks i 0
    → refused (too_large (get_or ks i 0) left) ≡ walk t n n ks
walk_large {t} {n} {left} {i} {ks} w h l =
    sym (w.so_far ∙ ap (after (take i ks)) (at_drop_more (walk t n left) ks i 0 h ∙ cond-true (ltb left (get_or ks i 0)) _ _ (lt-ltb _ _ l))
    ∙ after_refused (take i ks) _)

pub walk_stop : {t n left i : ℕ} {ks : List ℕ} → Walking t n left i ks → i < length ks → get_or ks i 0 ≤ left → left - get_or ks i 0 ≤ t
    → planned (take (i + 1) ks) ≡ walk t n n ks
walk_stop {t} {n} {left} {i} {ks} w h l s =
    sym (w.so_far ∙ ap (after (take i ks))
    (at_drop_more (walk t n left) ks i 0 h ∙ cond-false (ltb left (get_or ks i 0)) _ _ (le-ltb _ _ l)
    ∙ cond-true (leb (left - get_or ks i 0) t) _ _ (le-leb _ _ s))
    ∙ after_planned (take i ks) (get_or ks i 0 ∷ []) ∙ ap planned (sym (take_more ks i 0 h)))

pub walk_more : {t n left i : ℕ} {ks : List ℕ} → Walking t n left i ks → i < length ks → get_or ks i 0 ≤ left → t < left - get_or ks i 0
    → Walking t n (left - get_or ks i 0) (i + 1) ks
walk_more {t} {n} {left} {i} {ks} w h l s =
    let rest = walk t n (left - get_or ks i 0) (drop (i + 1) ks) in
    record {
      so_far = w.so_far ∙ ap (after (take i ks))
          (at_drop_more (walk t n left) ks i 0 h ∙ cond-false (ltb left (get_or ks i 0)) _ _ (le-ltb _ _ l)
          ∙ cond-false (leb (left - get_or ks i 0) t) _ _ (lt-leb _ _ s))
          ∙ sym (after_push (take i ks) (get_or ks i 0) rest) ∙ ap (λ l. after l rest) (sym (take_more ks i 0 h));
    }

pub walk_end : {t n left i : ℕ} {ks : List ℕ} → Walking t n left i ks → length ks ≤ i → refused (insufficient n left t) ≡ walk t n n ks
walk_end {t} {n} {left} {i} {ks} w h =
    sym (w.so_far ∙ ap (after (take i ks)) (at_drop_all (walk t n left) ks i h) ∙ after_refused (take i ks) _)

pub ruleset walk_steps = (walk_large, walk_stop, walk_more, walk_end)

-- a list with a factor
pub listed_some : (t n : ℕ) (ks : List ℕ) → eqb (length ks) 0 ≡ false → listed t ks n ≡ unless_faulty n ks (walk t n n ks)
listed_some t n [] e = let z : ◌≡◌ {A = ℕ} 0 1 = cc in absurd (omega arith)
listed_some t n (k ∷ ks) e = refl
