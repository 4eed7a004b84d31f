-- Out-of-domain samples, one after another.
use Rattle.std.proofs.Common.{◌≡◌, ℕ, ◌+◌, ◌<◌, ◌≤◌, List, [], ◌∷◌, ◌++◌, length, take, drop, set, get_or, Ok, Err, Result, sym, refl, ap, ◌∙◌, subst, append-nil}
use Rattle.std.proofs.lemmas.List.{take_more_set, take_all, drop_more, drop_all}
use Rattle.field.specs.Numbers.{Numbering}
use Rattle.field.specs.Extension.{Extension}
use Rattle.sponge.specs.Play.{Rules, Play, done, ◌>>=◌, ◌>>◌, run, goes_on, each}
use Rattle.sponge.specs.Plays.{Plays, Leads}
use Rattle.sponge.specs.Drawing.{draw_extension, observe_extension}
use Rattle.sponge.proofs.Leads.{leads_none, leads_more, leads_done, leads_each_on, leads_each_none}
use Rattle.verifier.specs.Reader.{sampled}

-- a play, and its answer handed on
handed_on : {R A : Type 0} (o : Result A R) (t : List ℕ) → goes_on o t (λ a u. record { answer = Ok a; list = u }) ≡ record { answer = o; list = t }
handed_on (Ok a) t = refl
handed_on (Err r) t = refl

whole : {R A : Type 0} (m : Rules) (s : List ℕ) (q : Play R A) → run m s (q >>= λ a. done a) ≡ run m s q
whole m s q = handed_on (run m s q).answer (run m s q).list

module _ {F E : Type 0} (n : Numbering F) (x : Extension F E) (m : Rules) where
  -- a point drawn and an answer observed are a sample
  sample_played : (t u v : List ℕ) (a z : E) → Plays m t (draw_extension n x) (Ok z) u → Plays m u (observe_extension n x a) (Ok tt) v → Plays m t (sampled n x a) (Ok z) v
  unfolding sampled
  sample_played t u v a z drawn seen =
      leads_done z
      (leads_more (observe_extension n x a) (λ u. done z)
      (leads_more (draw_extension n x) (λ z. observe_extension n x a >> done z) (leads_none m t (sampled n x a)) drawn) seen)

  module _ (s : List ℕ) (answers : List E) where
    -- The samples that are drawn fill the first places; these answers are left.
    abbrev pub Sampling : ℕ → List E → List ℕ → Type 0
    Sampling i places t = Leads m s (each (sampled n x) answers) t (each (sampled n x) (drop i answers) >>= λ zs. done (take i places ++ zs))

    -- none is drawn yet
    pub sampling_begins : (places : List E) → Sampling 0 places s
    sampling_begins places = record { leads = sym (whole m s (each (sampled n x) answers)) }

    -- one sample more
    pub sampling_on : (places : List E) (i : ℕ) (a z : E) (t u v : List ℕ) → i < length places → i < length answers → a ≡ get_or answers i a → Sampling i places t
        → Plays m t (draw_extension n x) (Ok z) u → Plays m u (observe_extension n x a) (Ok tt) v → Sampling (i + 1) (set places i z) v
    sampling_on places i a z t u v room there is so_far drawn seen =
        let next : drop i answers ≡ a ∷ drop (i + 1) answers = drop_more answers i a there ∙ ap (λ b. b ∷ drop (i + 1) answers) (sym is) in
        subst (λ zs. Leads m s (each (sampled n x) answers) v (each (sampled n x) (drop (i + 1) answers) >>= λ ws. done (zs ++ ws))) (sym (take_more_set places i z room))
        (leads_each_on (sampled n x) a (drop (i + 1) answers) done (take i places)
        (subst (λ left. Leads m s (each (sampled n x) answers) t (each (sampled n x) left >>= λ ws. done (take i places ++ ws))) next so_far)
        (sample_played t u v a z drawn seen))

    -- all are drawn
    pub sampling_ends : (places : List E) (i : ℕ) (t : List ℕ) → length places ≤ i → length answers ≤ i → Sampling i places t → Plays m s (each (sampled n x) answers) (Ok places) t
    sampling_ends places i t full none so_far =
        subst (λ zs. Plays m s (each (sampled n x) answers) (Ok zs) t) (append-nil (take i places) ∙ take_all i places full)
        (leads_done (take i places ++ [])
        (leads_each_none (sampled n x) (λ ws. done (take i places ++ ws))
        (subst (λ left. Leads m s (each (sampled n x) answers) t (each (sampled n x) left >>= λ ws. done (take i places ++ ws))) (drop_all i answers none) so_far)))
