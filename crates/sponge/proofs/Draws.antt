-- What the functions that draw come to, from what the sponge's own calls ensure.
use Rattle.std.proofs.Common.{◌≡◌, ℕ, zero, suc, ◌+◌, ◌-◌, ◌%◌, ◌^◌, ◌<◌, ◌≤◌, true, eqb, List, [], ◌∷◌, ◌++◌, length, take, set, Ok, sym, refl, ap, ◌∙◌, subst, append_assoc, append-nil, mod-eq_of_lt, arith, take_all, pow_mono}
use mathlib.Core.Path.{fun_ext}
use Rattle.std.proofs.lemmas.List.{take_more_set}
use Rattle.sponge.specs.Play.{Rules, Play, done, observe, ◌>>=◌, each, counted}
use Rattle.sponge.specs.Plays.{Plays, Leads}
use Rattle.field.specs.Bytes.{word_bytes, element_bytes}
use Rattle.field.specs.Extension.{Extension, Extends}
use Rattle.field.specs.Numbers.{Numbering}
use Rattle.ring.specs.Ring.{Ops}
use Rattle.sponge.specs.Drawing.{draw_bits, check_witness, draw_base, draw_extension, observe_base, observe_extension}
use Rattle.sponge.proofs.Leads.{leads_none, leads_observe, leads_draw, leads_more, leads_done, leads_counted, leads_counted_none}

-- a word below 2^32 has no more than 32 bits
pub few_bits : (w b : ℕ) → w < 2 ^ 32 → 32 ≤ b → w ≡ w % 2 ^ b
few_bits w b h l = sym (mod-eq_of_lt (omega (arith, pow_mono l)))

-- one element more of a list that is filled from the front
grown : {A : Type 0} (l : List A) (i : ℕ) (x : A) (r : List A) → i < length l → take (i + 1) (set l i x) ++ r ≡ take i l ++ (x ∷ r)
grown l i x r h = ap (λ t. t ++ r) (take_more_set l i x h) ∙ append_assoc (take i l) (x ∷ []) r

module _ {m : Rules} {s : List ℕ} where
  pub bits_drawn : {t : List ℕ} {w : ℕ} (b r : ℕ) → r ≡ w % 2 ^ b → w ≡ m.word s → t ≡ m.after_draw s → Plays m s (draw_bits b) (Ok r) t
  unfolding draw_bits
  bits_drawn {t} {w} b r e word list =
      let h : Plays m s (draw_bits b) (Ok (w % 2 ^ b)) t = leads_done (w % 2 ^ b) (leads_draw (λ w. done (w % 2 ^ b)) (leads_none m s (draw_bits b)) word list) in
      subst (λ x. Plays m s (draw_bits b) (Ok x) t) (sym e) h

  pub nothing_ground : (b witness : ℕ) → b ≡ 0 → Plays m s (check_witness b witness) (Ok true) s
  unfolding check_witness
  nothing_ground zero witness e = record { comes = refl }
  nothing_ground (suc b) witness e = absurd (omega arith)

  pub ground : {t u : List ℕ} (b witness drawn : ℕ) → ¬ (b ≡ 0) → t ≡ m.after_observe s (word_bytes witness) → Plays m t (draw_bits b) (Ok drawn) u → Plays m s (check_witness b witness) (Ok (eqb drawn 0)) u
  unfolding check_witness
  ground zero witness drawn n o h = absurd (n refl)
  ground (suc b) witness drawn n o h =
      leads_done (eqb drawn 0) (leads_more (draw_bits (suc b)) (λ x. done (eqb x 0)) (leads_observe (word_bytes witness) _ (leads_none m s (check_witness (suc b) witness)) o) h)

  observed_as : {t bytes seen : List ℕ} → seen ≡ bytes → t ≡ m.after_observe s seen → Plays m s (observe {R = ⊥} bytes) (Ok tt) t
  observed_as e list = record { comes = ap (λ u. record { answer = Ok tt; list = u }) (sym (list ∙ ap (m.after_observe s) e)) }

  pub base_drawn : {F : Type 0} {t : List ℕ} {w : ℕ} (N : Numbering F) (r : F) → r ≡ N.residue w → w ≡ m.word s → t ≡ m.after_draw s → Plays m s (draw_base N) (Ok r) t
  unfolding draw_base
  base_drawn {t = t} {w = w} N r e word list =
      let h : Plays m s (draw_base N) (Ok (N.residue w)) t =
      leads_done (N.residue w) (leads_draw (λ w. done (N.residue w)) (leads_none m s (draw_base N)) word list) in
      subst (λ x. Plays m s (draw_base N) (Ok x) t) (sym e) h

  pub base_observed : {F : Type 0} {t bytes : List ℕ} (N : Numbering F) (x : F) → bytes ≡ word_bytes (N.number x) → t ≡ m.after_observe s bytes → Plays m s (observe_base N x) (Ok tt) t
  unfolding observe_base
  base_observed N x e list = observed_as e list

  pub extension_observed : {F E : Type 0} {t bytes : List ℕ} (N : Numbering F) (X : Extension F E) (x : E) → bytes ≡ element_bytes N X x → t ≡ m.after_observe s bytes → Plays m s (observe_extension N X x) (Ok tt) t
  unfolding observe_extension
  extension_observed N X x e list = observed_as e list

-- The coefficients drawn one after another into an element: those before i are drawn, d in all.
module _ {F E : Type 0} (N : Numbering F) (X : Extension F E) where
  -- what is left to draw, where the element so far is x
  abbrev pub coefficients_left : (i d : ℕ) (x : E) → Play ⊥ E
  coefficients_left i d x = each (λ _. draw_base N) (counted i (d - i)) >>= λ cs. done (X.element (take i (X.coefficients x) ++ cs))

  pub coefficients_begin : (m : Rules) (s : List ℕ) (d : ℕ) (x : E) → d ≡ X.degree → Leads m s (draw_extension N X) s (coefficients_left 0 d x)
  unfolding draw_extension
  coefficients_begin m s d x e = subst (λ n. Leads m s (draw_extension N X) s (each (λ _. draw_base N) (counted 0 n) >>= λ cs. done (X.element cs))) (omega arith) (leads_none m s (draw_extension N X))

  module _ {m : Rules} {s t : List ℕ} {p : Play ⊥ E} {f : Ops F} {o : Ops E} (L : Extends f o X) (i d : ℕ) (x : E) (e : d ≡ X.degree) (l : Leads m s p t (coefficients_left i d x)) where
    pub coefficients_more : {u : List ℕ} (c : F) (y : E) → i < d → Plays m t (draw_base N) (Ok c) u → X.coefficients y ≡ set (X.coefficients x) i c → Leads m s p u (coefficients_left (i + 1) d y)
    coefficients_more {u} c y h drawn made =
        let long : i < length (X.coefficients x) = omega (arith, L.count x) in
        let n = leads_more (draw_base N) _ (leads_counted (λ _. draw_base N) (λ cs. done (X.element (take i (X.coefficients x) ++ cs))) i d h l) drawn in
        subst (λ (k : List F → List F). Leads m s p u (each (λ _. draw_base N) (counted (i + 1) (d - (i + 1))) >>= λ cs. done (X.element (k cs)))) (fun_ext (λ cs. sym (ap (λ z. take (i + 1) z ++ cs) made ∙ grown (X.coefficients x) i c cs long))) n

    pub coefficients_end : d ≤ i → Plays m s p (Ok x) t
    coefficients_end h =
        let long : length (X.coefficients x) ≤ i = omega (arith, L.count x) in
        let whole : take i (X.coefficients x) ++ [] ≡ X.coefficients x = append-nil (take i (X.coefficients x)) ∙ take_all i (X.coefficients x) long in
        let same : X.element (take i (X.coefficients x) ++ []) ≡ x = ap X.element whole ∙ L.settled (X.element (X.coefficients x)) x (L.made (X.coefficients x) (L.count x)) in
        subst (λ y. Plays m s p (Ok y) t) same (leads_done (X.element (take i (X.coefficients x) ++ [])) (leads_counted_none (λ _. draw_base N) (λ cs. done (X.element (take i (X.coefficients x) ++ cs))) i d h l))
