-- The cases that document 01 marks P, as ask 3 has them, and the slips that it names, on abstract dags.
use Prim.Native.Nat.{ℕ}
use mathlib.Core.Path.{◌≡◌, refl}
use mathlib.Core.List.{List, [], ◌∷◌, ◌++◌, map}
use lib.ListN.{length, take, replicate}
use Rattle.sets.specs.Sets.{set_of, some_below}
use Rattle.necklace.specs.Automaton.{Automaton}
use Rattle.necklace.specs.Necklace.{SOME, ALL, Primitive}
use Rattle.necklace.specs.Compute.{row, prefixes, pivots, before, seek, holds?, some?, all?, backward, pass}
use Rattle.necklace.specs.Listed.{listed_dag, listed_automaton, bead, listed_pattern}

-- A dag and a pattern, given by lists; a vertex, and its ten numbers.
pub record Case : Type 0 where
  pub dag : List (List ℕ × List ℕ)
  pub pattern : List Primitive
  pub vertex : ℕ
  pub numbers : List ℕ

-- The row that is computed.
abbrev pub row_of : Case → List ℕ
row_of c = row (listed_dag c.dag) (listed_pattern c.pattern) c.vertex

-- ten numbers, zeros at the end
abbrev ten : List ℕ → List ℕ
ten xs = take 10 (xs ++ replicate 10 0)

-- ---- the listing: labels vac 0, hot 1, vent 2

abbrev pub listing : List (List ℕ × List ℕ)
listing =
    ([], [])
    ∷ (0 ∷ [], 0 ∷ [])
    ∷ (2 ∷ [], 0 ∷ 1 ∷ [])
    ∷ (1 ∷ [], 1 ∷ [])
    ∷ (1 ∷ [], 2 ∷ 3 ∷ [])
    ∷ ([], 3 ∷ [])
    ∷ ([], 1 ∷ [])
    ∷ []

-- words that end in vac
abbrev pub first_automaton : Automaton
first_automaton = listed_automaton (((0 ∷ 1 ∷ []) ∷ (0 ∷ []) ∷ (0 ∷ []) ∷ []) ∷ ([] ∷ [] ∷ [] ∷ []) ∷ []) (1 ∷ [])

abbrev second_next : List (List (List ℕ))
second_next = ((0 ∷ []) ∷ (0 ∷ []) ∷ (1 ∷ []) ∷ []) ∷ ((1 ∷ []) ∷ (1 ∷ []) ∷ (1 ∷ []) ∷ []) ∷ []

-- words without vent
abbrev pub second_automaton : Automaton
second_automaton = listed_automaton second_next (0 ∷ [])

-- words with vent: state 0 does not accept
abbrev pub vented : Automaton
vented = listed_automaton second_next (1 ∷ [])

abbrev pub two_beads : List Primitive
two_beads = bead SOME first_automaton ∷ bead ALL second_automaton ∷ []

-- words without vent, eight times
abbrev pub eight_beads : List Primitive
eight_beads =
    bead SOME second_automaton
    ∷ bead ALL second_automaton
    ∷ bead SOME second_automaton
    ∷ bead ALL second_automaton
    ∷ bead SOME second_automaton
    ∷ bead ALL second_automaton
    ∷ bead SOME second_automaton
    ∷ bead ALL second_automaton
    ∷ []

abbrev row_of_listing : ℕ → List ℕ → Case
row_of_listing v ns = record { dag = listing; pattern = two_beads; vertex = v; numbers = ten ns }

-- vertex 0, and vertex 1 after it with some labels, under one bead
abbrev row_of_one : List ℕ → Primitive → ℕ → List ℕ → Case
row_of_one ls b v ns = record { dag = ([], []) ∷ (ls, 0 ∷ []) ∷ []; pattern = b ∷ []; vertex = v; numbers = ten ns }

-- vertex 0 alone
abbrev row_of_start : List Primitive → List ℕ → Case
row_of_start bs ns = record { dag = ([], []) ∷ []; pattern = bs; vertex = 0; numbers = ten ns }

unfoldable pub cases : List Case
cases =
    row_of_listing 0 (0 ∷ [])
    ∷ row_of_listing 1 (3 ∷ 0 ∷ 1 ∷ 1 ∷ [])
    ∷ row_of_listing 2 (0 ∷ [])
    ∷ row_of_listing 3 (2 ∷ 0 ∷ 1 ∷ 3 ∷ [])
    ∷ row_of_listing 4 (0 ∷ [])
    ∷ row_of_listing 5 (2 ∷ 0 ∷ 1 ∷ 5 ∷ [])
    ∷ row_of_listing 6 (3 ∷ 0 ∷ 1 ∷ 6 ∷ [])
    ∷ row_of_start two_beads (0 ∷ [])
    ∷ row_of_one [] (bead ALL second_automaton) 1 (1 ∷ 0 ∷ 1 ∷ [])
    ∷ row_of_one [] (bead SOME vented) 1 (0 ∷ [])
    ∷ row_of_one (0 ∷ 2 ∷ []) (bead ALL second_automaton) 1 (0 ∷ [])
    ∷ row_of_one (0 ∷ 2 ∷ []) (bead SOME second_automaton) 1 (1 ∷ 0 ∷ 1 ∷ [])
    -- vertex 0 of the same: it holds where state 0 accepts, and its pivots are all 0
    ∷ row_of_one [] (bead ALL second_automaton) 0 (1 ∷ 0 ∷ 0 ∷ [])
    ∷ row_of_one [] (bead SOME vented) 0 (0 ∷ [])
    ∷ row_of_one (0 ∷ 2 ∷ []) (bead ALL second_automaton) 0 (1 ∷ 0 ∷ 0 ∷ [])
    ∷ row_of_one (0 ∷ 2 ∷ []) (bead SOME second_automaton) 0 (1 ∷ 0 ∷ 0 ∷ [])
    ∷ row_of_start (bead SOME second_automaton ∷ []) (1 ∷ 0 ∷ 0 ∷ [])
    ∷ row_of_start (bead ALL second_automaton ∷ []) (1 ∷ 0 ∷ 0 ∷ [])
    ∷ row_of_start eight_beads (255 ∷ 0 ∷ 0 ∷ 0 ∷ 0 ∷ 0 ∷ 0 ∷ 0 ∷ 0 ∷ 0 ∷ [])
    ∷ []

pub cases_count : length cases ≡ 19
unfolding cases
cases_count = refl

-- Each case marked P has its ten numbers.
pub marked : map row_of cases ≡ map (λ c. c.numbers) cases
unfolding cases row prefixes pivots before seek holds? some? all? backward pass set_of some_below
marked = refl

-- ---- what the slips would get wrong

unfoldable pub slips : List Case
slips =
    -- vertex 1 has vac, and no route leads from it to vertex 2: ALL does not hold
    (record { dag = ([], []) ∷ (0 ∷ [], 0 ∷ []) ∷ ([], 0 ∷ []) ∷ []; pattern = two_beads; vertex = 2; numbers = ten (0 ∷ []) })
    -- vac, vent, vac, bare: from vertex 1 the words have vent, from vertex 3 they have not
    ∷ (record {
      dag = ([], []) ∷ (0 ∷ [], 0 ∷ []) ∷ (2 ∷ [], 1 ∷ []) ∷ (0 ∷ [], 2 ∷ []) ∷ ([], 3 ∷ []) ∷ [];
      pattern = two_beads;
      vertex = 4;
      numbers = ten (3 ∷ 0 ∷ 3 ∷ 4 ∷ []);
    })
    -- vac, vac, bare: vertices 1 and 2 both serve, and 1 is picked
    ∷ (record {
      dag = ([], []) ∷ (0 ∷ [], 0 ∷ []) ∷ (0 ∷ [], 1 ∷ []) ∷ ([], 2 ∷ []) ∷ [];
      pattern = two_beads;
      vertex = 3;
      numbers = ten (3 ∷ 0 ∷ 1 ∷ 3 ∷ []);
    })
    ∷ []

pub slips_count : length slips ≡ 3
unfolding slips
slips_count = refl

pub slips_avoided : map row_of slips ≡ map (λ c. c.numbers) slips
unfolding slips row prefixes pivots before seek holds? some? all? backward pass set_of some_below
slips_avoided = refl
