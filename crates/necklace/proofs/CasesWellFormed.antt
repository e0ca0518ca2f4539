-- The dags and the patterns of the cases are well formed, over three labels.
use mathlib.Core.Bool.{Bool, true, ◌&&◌}
use mathlib.Core.List.{List, [], ◌∷◌, ◌++◌}
use lib.Dec.{T}
use Rattle.sets.proofs.Truth.{and_l, and_r}
use Rattle.necklace.specs.Dag.{WellFormed}
use Rattle.necklace.specs.Necklace.{WellFormedPattern}
use Rattle.necklace.specs.Listed.{listed_dag, listed_pattern}
use Rattle.sets.specs.Sets.{all_below}
use Rattle.necklace.specs.Tests.{well_formed?, well_formed_pattern?, one_next?}
use Rattle.necklace.proofs.Cases.{Case, cases, slips}
use Rattle.necklace.proofs.Tests.{listed_well_formed, well_formed_pattern_agrees}

abbrev pub EveryCase : (Case → Type 0) → List Case → Type 0
EveryCase Q [] = Unit {0}
EveryCase Q (c ∷ cs) = Q c × EveryCase Q cs

abbrev pub CaseWellFormed : Case → Type 0
CaseWellFormed c = WellFormed 3 (listed_dag c.dag) × WellFormedPattern 3 (listed_pattern c.pattern)

case? : Case → Bool
case? c = well_formed? 3 (listed_dag c.dag) && well_formed_pattern? 3 (listed_pattern c.pattern)

every? : List Case → Bool
every? [] = true
every? (c ∷ cs) = case? c && every? cs

every_well_formed : (cs : List Case) → T (every? cs) → EveryCase CaseWellFormed cs
unfolding every? case?
every_well_formed [] t = tt
every_well_formed (c ∷ cs) t =
    let G = listed_dag c.dag in
    let P = listed_pattern c.pattern in
    let k = and_l (case? c) (every? cs) t in (
      (
        listed_well_formed 3 c.dag (and_l (well_formed? 3 G) (well_formed_pattern? 3 P) k),
        (well_formed_pattern_agrees 3 P).0 (and_r (well_formed? 3 G) (well_formed_pattern? 3 P) k),
      ),
      every_well_formed cs (and_r (case? c) (every? cs) t),
    )

computed : T (every? (cases ++ slips))
unfolding every? case? cases slips well_formed? well_formed_pattern? one_next? all_below
computed = tt

pub cases_well_formed : EveryCase CaseWellFormed (cases ++ slips)
cases_well_formed = every_well_formed (cases ++ slips) computed
