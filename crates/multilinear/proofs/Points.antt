-- The ends of the point that draws stand for, by the ends of the draws.
use Rattle.std.proofs.Common.{◌≡◌, List, [], ◌∷◌, ◌++◌, length, sym, ◌∙◌, ap, arith}
use lib.ListN.{length-reverse}
use Rattle.std.proofs.lemmas.List.{reverse-append}
use Rattle.multilinear.specs.declared.order.VariableOrder.{VariableOrder}
use Rattle.multilinear.specs.declared.order.VariableOrder.TheVariants.{Prefix, Suffix}
use Rattle.multilinear.specs.Tables.{orient}

module _ {E : Type 0} where
  pub orient_length : (o : VariableOrder) (x p : List E) → orient o x ≡ p → length x ≡ length p
  unfolding orient
  orient_length Prefix x p e = ap length e
  orient_length Suffix x p e = sym (length-reverse x) ∙ ap length e

  pub orient_none : (o : VariableOrder) (x p : List E) → orient o x ≡ p → length x ≡ 0 → p ≡ []
  unfolding orient
  orient_none Prefix [] p e h = sym e
  orient_none Suffix [] p e h = sym e
  orient_none o (y ∷ x) p e h = absurd (omega arith)

  pub prefix_first : (o : VariableOrder) (x r p : List E) (a : E) → o ≡ Prefix → orient o x ≡ p → x ≡ a ∷ r → p ≡ a ∷ orient o r
  unfolding orient
  prefix_first o x r p a is e h = cc

  pub prefix_last : (o : VariableOrder) (x r p : List E) (a : E) → o ≡ Prefix → orient o x ≡ p → x ≡ r ++ (a ∷ []) → p ≡ orient o r ++ (a ∷ [])
  unfolding orient
  prefix_last o x r p a is e h = cc

  pub suffix_first : (o : VariableOrder) (x r p : List E) (a : E) → o ≡ Suffix → orient o x ≡ p → x ≡ r ++ (a ∷ []) → p ≡ a ∷ orient o r
  unfolding orient
  suffix_first o x r p a is e h = cc (reverse-append r (a ∷ []))

  pub suffix_last : (o : VariableOrder) (x r p : List E) (a : E) → o ≡ Suffix → orient o x ≡ p → x ≡ a ∷ r → p ≡ orient o r ++ (a ∷ [])
  unfolding orient
  suffix_last o x r p a is e h = cc (reverse-append (a ∷ []) r)
