-- What a pattern buffer means: a pattern of the theory (document 01, "Lent rooms": rules and sets are numbers).
use Rattle.std.specs.Prelude.{ℕ, cond, ◌&&◌, List, [], ◌∷◌, eqb, ltb}
use Rattle.lists.specs.Places.{at}
use Rattle.sets.specs.Sets.{member, members}
use Rattle.necklace.specs.Automaton.{Automaton}
use Rattle.necklace.specs.Necklace.{Modality, SOME, ALL, Pattern}
use Rattle.layout.specs.Layout.{most_labels, most_states, rule_at, states_at, accepting_at, next_at}

abbrev pub labels_in : List ℕ → ℕ
labels_in b = at b 0

abbrev pub beads_in : List ℕ → ℕ
beads_in b = at b 1

-- The modality that a rule's number stands for, a row a rule.
pub record Meant : Type 0 where
  pub number : ℕ
  pub modality : Modality

unfoldable pub modalities : List Meant
modalities = record { number = 1; modality = SOME } ∷ (record { number = 2; modality = ALL } ∷ [])

-- That of the row with this number; SOME for a number that is no rule's.
unfoldable pub modality_in : List Meant → ℕ → Modality
modality_in [] n = SOME
modality_in (m ∷ ms) n = cond (eqb n m.number) m.modality (modality_in ms n)

abbrev pub modality_of : ℕ → Modality
modality_of n = modality_in modalities n

-- A state or a label that the buffer has no place for leads to no state.
abbrev pub automaton_of : List ℕ → ℕ → Automaton
automaton_of b j = record {
  states = at b (states_at j);
  next = λ q a. cond (ltb q most_states && ltb a most_labels) (members most_states (at b (next_at j q a))) [];
  accepting = λ q. member q (at b (accepting_at j));
}

unfoldable pub pattern_of : List ℕ → Pattern
pattern_of b = record { count = beads_in b; bead = λ j. record { modality = modality_of (at b (rule_at j)); automaton = automaton_of b j } }
