-- What the computed pasts say of the definitions: `Past`, `Alike` and `OnlyAdds` are met where a case says yes, and refuted where it
-- says no. So the hypotheses of `equal_pasts` and `only_adds` are neither empty nor met by everything.
-- Assumes nothing.
use Prim.Native.Nat.{ℕ}
use mathlib.Core.Path.{◌≡◌, sym, ap, subst}
use mathlib.Core.Logic.{◌↔◌}
use mathlib.Core.Bool.{Bool, true, false, ◌&&◌}
use mathlib.Core.List.{List, [], ◌∷◌, map}
use lib.Dec.{T}
use Rattle.sets.specs.Sets.{all_below}
use Rattle.sets.proofs.Truth.{and_l, and_r}
use Rattle.necklace.specs.Dag.{WellFormed}
use Rattle.necklace.specs.Past.{Past, Alike, OnlyAdds}
use Rattle.necklace.specs.Listed.{listed_dag}
use Rattle.necklace.specs.Tests.{well_formed?}
use Rattle.necklace.proofs.Tests.{listed_well_formed, past_agrees, alike_agrees, only_adds_agrees}
use Rattle.necklace.proofs.CasesOfPasts.{PastCase, in_past, past_cases, pasts_computed}
use Rattle.necklace.proofs.CasesOfPasts.{AlikeCase, are_alike, alike_cases, alikes_computed}
use Rattle.necklace.proofs.CasesOfPasts.{AddsCase, adds_only, adds_cases, adds_computed}

-- A case says yes, or it says no.
abbrev pub Says : Bool → Type 0 → Type 0
Says true A = A
Says false A = A → ⊥

abbrev pub Each : {C : Type 0} → (C → Type 0) → List C → Type 0
Each Q [] = Unit {0}
Each Q (c ∷ cs) = Q c × Each Q cs

says : (b is : Bool) {A : Type 0} → T b ↔ A → b ≡ is → Says is A
says true true k e = k.0 tt
says true false k e = absurd (subst T e tt)
says false true k e = absurd (subst T (sym e) tt)
says false false k e = k.1

every : {C : Type 0} → (C → Bool) → List C → Bool
every f [] = true
every f (c ∷ cs) = f c && every f cs

head_of : List Bool → Bool
head_of [] = true
head_of (b ∷ bs) = b

tail_of : List Bool → List Bool
tail_of [] = []
tail_of (b ∷ bs) = bs

-- A claim over a list, case by case: a case that is sound says what its test says.
each : {C : Type 0} (sound test is : C → Bool) (Q : C → Type 0) → ((c : C) → T (sound c) → T (test c) ↔ Q c) → (cs : List C) → T (every sound cs)
    → map test cs ≡ map is cs → Each (λ c. Says (is c) (Q c)) cs
unfolding every head_of tail_of
each sound test is Q agrees [] t e = tt
each sound test is Q agrees (c ∷ cs) t e = (
  says (test c) (is c) (agrees c (and_l (sound c) (every sound cs) t)) (ap head_of e),
  each sound test is Q agrees cs (and_r (sound c) (every sound cs) t) (ap tail_of e),
)

-- ---- the dags of the cases are well formed, over three labels

sound : List (List ℕ × List ℕ) → Bool
sound vs = well_formed? 3 (listed_dag vs)

well : (vs : List (List ℕ × List ℕ)) → T (sound vs) → WellFormed 3 (listed_dag vs)
unfolding sound
well vs t = listed_well_formed 3 vs t

pasts_sound : T (every (λ (c : PastCase). sound c.dag) past_cases)
unfolding every sound past_cases well_formed? all_below
pasts_sound = tt

alikes_sound : T (every (λ (c : AlikeCase). sound c.first && sound c.second) alike_cases)
unfolding every sound alike_cases well_formed? all_below
alikes_sound = tt

adds_sound : T (every (λ (c : AddsCase). sound c.first && sound c.second) adds_cases)
unfolding every sound adds_cases well_formed? all_below
adds_sound = tt

-- ---- the definitions

pub pasts : Each (λ (c : PastCase). Says c.is (Past (listed_dag c.dag) c.v c.x)) past_cases
pasts = each (λ (c : PastCase). sound c.dag) in_past (λ c. c.is) (λ c. Past (listed_dag c.dag) c.v c.x)
    (λ c t. past_agrees (well c.dag t) c.v c.x) past_cases pasts_sound pasts_computed

pub alikes : Each (λ (c : AlikeCase). Says c.is (Alike (listed_dag c.first) (listed_dag c.second) c.v)) alike_cases
alikes = each (λ (c : AlikeCase). sound c.first && sound c.second) are_alike (λ c. c.is)
    (λ c. Alike (listed_dag c.first) (listed_dag c.second) c.v)
    (λ c t. alike_agrees (well c.first (and_l (sound c.first) (sound c.second) t))
    (well c.second (and_r (sound c.first) (sound c.second) t)) c.v)
    alike_cases alikes_sound alikes_computed

pub adds : Each (λ (c : AddsCase). Says c.is (OnlyAdds (listed_dag c.first) (listed_dag c.second))) adds_cases
adds = each (λ (c : AddsCase). sound c.first && sound c.second) adds_only (λ c. c.is)
    (λ c. OnlyAdds (listed_dag c.first) (listed_dag c.second))
    (λ c t. only_adds_agrees (well c.first (and_l (sound c.first) (sound c.second) t))
    (well c.second (and_r (sound c.first) (sound c.second) t)))
    adds_cases adds_sound adds_computed
