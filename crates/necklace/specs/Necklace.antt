-- The primitive patterns SOME and ALL, necklaces, pivots and rows (RR-2838, sections 2.2 to 2.4, as document 01 settles them).
use Rattle.std.specs.Prelude.{ℕ, zero, suc, ◌-◌, ◌^◌, ◌≤◌, ◌<◌, ◌≡◌, ◌↔◌, ◌≢◌, List, [], ◌∷◌, ◌++◌, T, length, get_or, drop, replicate}
use Rattle.sets.specs.Sets.{member}
use Rattle.necklace.specs.Dag.{Dag, Route, entered, Reading}
use Rattle.necklace.specs.Automaton.{Automaton, Accepts, OneNext}

-- SOME of (u, v): some reading of some route is a word of the automaton.
pub record Some (G : Dag) (A : Automaton) (u v : ℕ) : Type 0 where
  pub route : Route G u v
  pub word : List ℕ
  pub reading : Reading G (entered route) word
  pub accepts : Accepts A word

-- ALL of (u, v): a route exists, and every reading of every route is a word of the automaton.
pub record All (G : Dag) (A : Automaton) (u v : ℕ) : Type 0 where
  pub route : Route G u v
  pub accepts : (r : Route G u v) (w : List ℕ) → Reading G (entered r) w → Accepts A w

-- The modal operators of the 1996 article (document 01: the rule of a bead).
pub data Modality : Type 0 where
  SOME ALL : Modality

-- A primitive pattern of RR-2838 (document 01: a bead).
pub record Primitive : Type 0 where
  pub modality : Modality
  pub automaton : Automaton

abbrev pub SatisfiesBy : Modality → Dag → Automaton → ℕ → ℕ → Type 0
SatisfiesBy SOME G A u v = Some G A u v
SatisfiesBy ALL G A u v = All G A u v

-- The pair (u, v) satisfies a primitive pattern (document 01: the bead holds on (u, v)).
abbrev pub Satisfies : Dag → Primitive → ℕ → ℕ → Type 0
Satisfies G b u v = SatisfiesBy b.modality G b.automaton u v

-- A pattern: `count` primitive patterns, the bead j + 1 being `bead j`.
pub record Pattern : Type 0 where
  pub count : ℕ
  pub bead : ℕ → Primitive

-- A pattern over c labels is well formed: 1 to 8 beads, SOME and ALL by turns, the automaton of an ALL bead complete and
-- deterministic.
pub record WellFormedPattern (c : ℕ) (P : Pattern) : Type 0 where
  pub some_bead : 0 < P.count
  pub at_most : P.count ≤ 8
  pub alternate : (j : ℕ) → suc j < P.count → (P.bead j).modality ≢ (P.bead (suc j)).modality
  pub one_next : (j : ℕ) → j < P.count → (P.bead j).modality ≡ ALL → OneNext c (P.bead j).automaton

-- The first k beads hold at v (RR-2838: a solution of a prefix of the pattern): there are pivots p 0 = 0, p 1, .., p k = v,
-- with the bead j holding on (p (j - 1), p j) for each j from 1 to k.
pub record Holds (G : Dag) (P : Pattern) (k v : ℕ) : Type 0 where
  pub pivot : ℕ → ℕ
  pub starts : pivot 0 ≡ 0
  pub ends : pivot k ≡ v
  pub beads : (j : ℕ) → j < k → Satisfies G (P.bead j) (pivot j) (pivot (suc j))

-- u serves as the pivot before v, the pivot of the first k + 1 beads: the first k beads hold at u, and the next one from u to v.
pub record Serves (G : Dag) (P : Pattern) (k v u : ℕ) : Type 0 where
  pub earlier : Holds G P k u
  pub next : Satisfies G (P.bead k) u v

-- u is the smallest number with a property.
pub record Least (Q : ℕ → Type 0) (u : ℕ) : Type 0 where
  pub has : Q u
  pub smaller : (m : ℕ) → m < u → Q m → ⊥

-- The pivots shown for the first k beads at v: going backwards from v, each is the smallest number that serves.
abbrev pub Picked : Dag → Pattern → ℕ → ℕ → List ℕ → Type 0
Picked G P zero v ps = (v ≡ 0) × (ps ≡ v ∷ [])
Picked G P (suc k) v ps = (u : ℕ) × Least (Serves G P k v) u × (qs : List ℕ) × Picked G P k u qs × (ps ≡ qs ++ (v ∷ []))

-- The row of a vertex: ten numbers. The first is the set of the prefixes that hold (bit k - 1 for the first k beads); then, if the
-- whole pattern holds, its pivots p 0 onward, and zeros; else zeros.
pub record IsRow (G : Dag) (P : Pattern) (v : ℕ) (r : List ℕ) : Type 0 where
  pub ten : length r ≡ 10
  pub prefixes : (k : ℕ) → k < P.count → T (member k (get_or r 0 0)) ↔ Holds G P (suc k) v
  pub no_more : get_or r 0 0 < 2 ^ P.count
  pub whole : Holds G P P.count v → (ps : List ℕ) × Picked G P P.count v ps × (drop 1 r ≡ ps ++ replicate (8 - P.count) 0)
  pub fails : (Holds G P P.count v → ⊥) → drop 1 r ≡ replicate 9 0
