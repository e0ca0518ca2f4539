-- The declarative notions that no contract cites, as tests. Each is proved to say what the definition of its name says.
use Rattle.std.specs.Prelude.{ℕ, suc, Bool, true, false, not, ◌&&◌, ◌||◌, List, [], ◌∷◌, eqb, ltb, leb}
use Rattle.sets.specs.Sets.{all_below}
use Rattle.necklace.specs.Dag.{Dag}
use Rattle.necklace.specs.Automaton.{Automaton}
use Rattle.necklace.specs.Necklace.{Modality, SOME, ALL, Pattern}
use Rattle.necklace.specs.Compute.{some_of, elem, some?}

abbrev pub implies : Bool → Bool → Bool
implies a b = not a || b

-- Every member of a list passes.
abbrev pub every_of : (ℕ → Bool) → List ℕ → Bool
every_of f [] = true
every_of f (x ∷ xs) = f x && every_of f xs

abbrev pub empty : List ℕ → Bool
empty [] = true
empty (x ∷ xs) = false

-- Every member of the first list stands in the second.
abbrev pub includes : List ℕ → List ℕ → Bool
includes xs ys = every_of (λ x. elem x ys) xs

-- `Past.SameMembers`.
abbrev pub same_members? : List ℕ → List ℕ → Bool
same_members? xs ys = includes xs ys && includes ys xs

-- `Dag.DagPath`, `Dag.Route`, `Dag.Reading`.
unfoldable pub path? : Dag → ℕ → List ℕ → ℕ → Bool
path? G u [] v = eqb u v
path? G u (x ∷ xs) v = elem u (G.preds x) && path? G x xs v

-- the automaton of all words
abbrev pub any_word : Automaton
any_word = record { states = 1; next = λ q a. 0 ∷ []; accepting = λ q. true }

unfoldable pub route? : Dag → ℕ → ℕ → Bool
route? G u v = some? G any_word u v

unfoldable pub reading? : Dag → List ℕ → List ℕ → Bool
reading? G [] [] = true
reading? G [] (a ∷ w) = false
reading? G (x ∷ xs) [] = empty (G.labels x) && reading? G xs []
reading? G (x ∷ xs) (a ∷ w) = (empty (G.labels x) && reading? G xs (a ∷ w)) || (elem a (G.labels x) && reading? G xs w)

-- `Dag.WellFormed`, of a dag that has no labels and no predecessors past its vertices.
abbrev pub well_formed_at : ℕ → Dag → ℕ → Bool
well_formed_at c G v = (eqb v 0 || not (empty (G.preds v))) && every_of (λ u. ltb u v) (G.preds v) && every_of (λ a. ltb a c) (G.labels v)

unfoldable pub well_formed? : ℕ → Dag → Bool
well_formed? c G = ltb 0 G.size && empty (G.labels 0) && empty (G.preds 0) && all_below G.size (well_formed_at c G)

-- `Automaton.Accepts`: some run from q over the word ends in an accepting state; the word of the automaton starts at 0.
unfoldable pub accepts_from : Automaton → ℕ → List ℕ → Bool
accepts_from A q [] = A.accepting q
accepts_from A q (a ∷ w) = some_of (λ r. accepts_from A r w) (A.next q a)

abbrev pub accepts? : Automaton → List ℕ → Bool
accepts? A w = accepts_from A 0 w

-- `Automaton.OneNext`.
abbrev pub one_below : ℕ → List ℕ → Bool
one_below n [] = false
one_below n (r ∷ []) = ltb r n
one_below n (r ∷ s ∷ rs) = false

unfoldable pub one_next? : ℕ → Automaton → Bool
one_next? c A = ltb 0 A.states && all_below A.states (λ q. all_below c (λ a. one_below A.states (A.next q a)))

-- `Necklace.WellFormedPattern`.
abbrev pub is_all : Modality → Bool
is_all SOME = false
is_all ALL = true

abbrev pub differ : Modality → Modality → Bool
differ SOME m = is_all m
differ ALL m = not (is_all m)

abbrev pub well_formed_bead : ℕ → Pattern → ℕ → Bool
well_formed_bead c P j = implies (ltb (suc j) P.count) (differ (P.bead j).modality (P.bead (suc j)).modality)
    && implies (is_all (P.bead j).modality) (one_next? c (P.bead j).automaton)

unfoldable pub well_formed_pattern? : ℕ → Pattern → Bool
well_formed_pattern? c P = ltb 0 P.count && leb P.count 8 && all_below P.count (well_formed_bead c P)

-- `Past.Past`, `Past.Alike`, `Past.OnlyAdds`, of well formed dags: a past lies below its vertex, and nothing past the vertices.
unfoldable pub past? : Dag → ℕ → ℕ → Bool
past? G v x = eqb x v || route? G x v

abbrev pub alike_at : Dag → Dag → ℕ → ℕ → Bool
alike_at G H v x = implies (past? H v x) (past? G v x)
    && implies (past? G v x) (past? H v x && same_members? (G.preds x) (H.preds x) && same_members? (G.labels x) (H.labels x))

unfoldable pub alike? : Dag → Dag → ℕ → Bool
alike? G H v = ltb v G.size && ltb v H.size && all_below (suc v) (alike_at G H v)

abbrev pub only_adds_at : Dag → Dag → ℕ → Bool
only_adds_at G H x = includes (G.preds x) (H.preds x) && includes (G.labels x) (H.labels x) && implies (empty (G.labels x)) (empty (H.labels x))

unfoldable pub only_adds? : Dag → Dag → Bool
only_adds? G H = eqb H.size G.size && all_below G.size (only_adds_at G H)
