-- The route from a vertex to itself, with no edge: SOME and ALL both ask whether state 0 accepts. So vertex 0 can hold.
use Prim.Native.Nat.{ℕ}
use mathlib.Core.Path.{subst}
use mathlib.Core.Logic.{◌↔◌}
use mathlib.Core.List.{List, []}
use lib.Dec.{T}
use lib.ListN.{get_or}
use Rattle.sets.specs.Sets.{member}
use Rattle.necklace.specs.Dag.{Dag, WellFormed, Route, entered, Reading, done}
use Rattle.necklace.specs.Automaton.{Automaton, Run, stay, Accepts}
use Rattle.necklace.specs.Necklace.{Some, All, Modality, SOME, ALL, Primitive, SatisfiesBy, Satisfies, Pattern, WellFormedPattern}
use Rattle.necklace.specs.Compute.{row}
use Rattle.necklace.proofs.Paths.{no_edge, nothing_entered}
use Rattle.necklace.proofs.RowMeaning.{first_bit}

module _ {c : ℕ} {G : Dag} (g : WellFormed c G) (A : Automaton) (u : ℕ) where
  -- the empty word is the only reading of nothing
  accepts_here : {w : List ℕ} → Reading G [] w → Accepts A w ↔ T (A.accepting 0)
  accepts_here done = (λ k. ended k.run k.accepted, λ t. record { last = 0; run = stay; accepted = t })
    where
      ended : {q r : ℕ} → Run A.next q [] r → T (A.accepting r) → T (A.accepting q)
      ended stay t = t

  here_read : (r : Route G u u) (w : List ℕ) → Reading G (entered r) w → Reading G [] w
  here_read r w rs = subst (λ (xs : List ℕ). Reading G xs w) (nothing_entered g r) rs

  pub some_here : Some G A u u ↔ T (A.accepting 0)
  some_here = (
    λ s. (accepts_here (here_read s.route s.word s.reading)).0 s.accepts,
    λ t. record { route = no_edge; word = []; reading = done; accepts = (accepts_here done).1 t },
  )

  pub all_here : All G A u u ↔ T (A.accepting 0)
  all_here = (
    λ a. (accepts_here done).0 (a.accepts no_edge [] done),
    λ t. record { route = no_edge; accepts = λ r w rs. (accepts_here (here_read r w rs)).1 t },
  )

module _ {c : ℕ} {G : Dag} (g : WellFormed c G) where
  pub satisfies_here : (b : Primitive) (u : ℕ) → Satisfies G b u u ↔ T (b.automaton.accepting 0)
  satisfies_here b u = by b.modality
    where
      by : (m : Modality) → SatisfiesBy m G b.automaton u u ↔ T (b.automaton.accepting 0)
      by SOME = some_here g b.automaton u
      by ALL = all_here g b.automaton u

  -- the first bead's bit in the row of vertex 0
  pub start_holds : {P : Pattern} → WellFormedPattern c P → T (member 0 (get_or (row G P 0) 0 0)) ↔ T ((P.bead 0).automaton.accepting 0)
  start_holds {P} p = (λ t. here.0 ((first_bit g p 0).0 t), λ t. (first_bit g p 0).1 (here.1 t))
    where
      here : Satisfies G (P.bead 0) 0 0 ↔ T ((P.bead 0).automaton.accepting 0)
      here = satisfies_here (P.bead 0) 0
