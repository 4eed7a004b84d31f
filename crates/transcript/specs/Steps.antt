-- The steps of a run as they are described, and each step's bytes.
use Rattle.std.specs.Prelude.{ℕ, List, [], ◌∷◌, ◌++◌, codes}
use Rattle.transcript.specs.Bytes.{eight}
use Rattle.transcript.specs.declared.interaction.Hierarchy.{Hierarchy}
use Rattle.transcript.specs.declared.interaction.Hierarchy.TheVariants.{Begin, End, Atomic}
use Rattle.transcript.specs.declared.interaction.Kind.{Kind}
use Rattle.transcript.specs.declared.interaction.Kind.TheVariants.{Message, Challenge, Pow, Protocol}
use Rattle.transcript.specs.declared.interaction.Value.{Value}
use Rattle.transcript.specs.declared.interaction.Value.TheVariants.{Marker, Opaque, Base, Extension, Bits}
use Rattle.transcript.specs.declared.interaction.Label.{Label}
use Rattle.transcript.specs.declared.interaction.Label.TheVariants.{InitialFold, Commitment, OodPoint, OodAnswer, QueryPow, QueryIndices, RoundBatching, RoundFold, FinalPoly, FinalQueryPow, FinalQueryIndices, FinalFold}
use Rattle.transcript.specs.declared.interaction.Interaction.{Interaction}

-- A step: whether it opens or closes a bracket or stands alone, who speaks, what is said, the width of one value (the degree of an
-- extension element, the bits of an index, else 0), how many values (0 for a single one and for a marker), and the step's name.
pub record Step : Type 0 where
  pub hierarchy : Hierarchy
  pub kind : Kind
  pub value : Value
  pub width : ℕ
  pub count : ℕ
  pub label : List ℕ

abbrev pub hierarchy_byte : Hierarchy → ℕ
hierarchy_byte Begin = 0
hierarchy_byte End = 1
hierarchy_byte Atomic = 2

abbrev pub kind_byte : Kind → ℕ
kind_byte Message = 0
kind_byte Challenge = 1
kind_byte Pow = 2
kind_byte Protocol = 3

abbrev pub value_byte : Value → ℕ
value_byte Marker = 0
value_byte Opaque = 1
value_byte Base = 2
value_byte Extension = 3
value_byte Bits = 4

-- The names, as text.
unfoldable pub label_bytes : Label → List ℕ
label_bytes InitialFold = codes "initial_fold"
label_bytes Commitment = codes "commitment"
label_bytes OodPoint = codes "ood_point"
label_bytes OodAnswer = codes "ood_answer"
label_bytes QueryPow = codes "query_pow"
label_bytes QueryIndices = codes "query_indices"
label_bytes RoundBatching = codes "round_batching"
label_bytes RoundFold = codes "round_fold"
label_bytes FinalPoly = codes "final_poly"
label_bytes FinalQueryPow = codes "final_query_pow"
label_bytes FinalQueryIndices = codes "final_query_indices"
label_bytes FinalFold = codes "final_fold"

-- The bytes of a step: 0, a byte each for hierarchy, kind and value, width and count in eight bytes each, the name.
unfoldable pub step_bytes : Step → List ℕ
step_bytes s = 0 ∷ hierarchy_byte s.hierarchy ∷ kind_byte s.kind ∷ value_byte s.value ∷ (eight s.width ++ (eight s.count ++ s.label))

-- An interaction of the code as a step.
abbrev pub step_of : Interaction → Step
step_of x = record {
  hierarchy = x.hierarchy;
  kind = x.kind;
  value = x.value;
  width = x.width;
  count = x.length;
  label = label_bytes x.label;
}

-- The steps that there are: a bracket's two markers; a commitment, which the opening scheme encodes; an extension element drawn; so
-- many of them sent; a grinding at so many bits; so many indices of so many bits.
abbrev pub marker : Hierarchy → Label → Step
marker h l = record { hierarchy = h; kind = Protocol; value = Marker; width = 0; count = 0; label = label_bytes l }

abbrev pub bracket : Label → List Step
bracket l = marker Begin l ∷ marker End l ∷ []

abbrev pub commitment_step : Step
commitment_step = record { hierarchy = Atomic; kind = Message; value = Opaque; width = 0; count = 0; label = label_bytes Commitment }

abbrev pub drawn_step : ℕ → Label → Step
drawn_step degree l = record { hierarchy = Atomic; kind = Challenge; value = Extension; width = degree; count = 0; label = label_bytes l }

abbrev pub sent_step : ℕ → ℕ → Label → Step
sent_step degree n l = record { hierarchy = Atomic; kind = Message; value = Extension; width = degree; count = n; label = label_bytes l }

abbrev pub grinding_step : ℕ → Label → Step
grinding_step bits l = record { hierarchy = Atomic; kind = Pow; value = Base; width = 0; count = bits; label = label_bytes l }

abbrev pub indices_step : ℕ → ℕ → Label → Step
indices_step w n l = record { hierarchy = Atomic; kind = Challenge; value = Bits; width = w; count = n; label = label_bytes l }
