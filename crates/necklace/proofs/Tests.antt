-- The tests of specs/Tests say what the definitions say.
use Prim.Native.Nat.{ℕ, zero, suc, ◌≤◌, ◌<◌}
use mathlib.Core.Path.{◌≡◌, refl, sym, ap, subst}
use mathlib.Core.Logic.{◌⊎◌, inl, inr, ◌↔◌, ◌≢◌}
use mathlib.Core.Bool.{Bool, true, false, not, ◌&&◌, ◌||◌}
use mathlib.Core.List.{List, [], ◌∷◌}
use native.Mathlib.Nat.{not-suc-le-zero, eq-or-lt_of_le, lt_of_not-le}
use native.Mathlib.Decide.{ℕ_discrete}
use native.Mathlib.Omega.{arith}
use lib.Dec.{T, eqb, ltb, leb, eqb→eq, eqb_refl, ltb→lt, lt→ltb, leb→le, le→leb}
use lib.ListN.{length, get_or, get_or-eq_default}
use Rattle.sets.proofs.Agree.{no_members}
use Rattle.sets.specs.Sets.{◌∈◌, all_below}
use Rattle.sets.proofs.Truth.{or_l, or_r, or_cases, and_i, and_l, and_r}
use Rattle.necklace.specs.Dag.{Dag, WellFormed, DagPath, here, edge, Route, entered, Reading, done, silent, letter}
use Rattle.necklace.specs.Automaton.{Automaton, Run, stay, move, Accepts, OneNext}
use Rattle.necklace.specs.Necklace.{Modality, SOME, ALL, Pattern, WellFormedPattern}
use Rattle.necklace.specs.Past.{Past, SameMembers, Alike, OnlyAdds}
use Rattle.necklace.specs.Compute.{some_of, elem}
use Rattle.necklace.specs.Listed.{listed_dag}
use Rattle.sets.proofs.Below.{all_below_iff}
use Rattle.necklace.specs.Tests.{implies, every_of, empty, includes, same_members?, path?, any_word, route?, reading?}
use Rattle.necklace.specs.Tests.{well_formed_at, well_formed?, accepts_from, accepts?, one_below, one_next?, is_all, differ}
use Rattle.necklace.specs.Tests.{well_formed_bead, well_formed_pattern?, past?, alike_at, alike?, only_adds_at, only_adds?}
use Rattle.necklace.proofs.Lists.{some_of_out, some_of_in, elem_out, elem_in, elem_agrees}
use Rattle.necklace.proofs.Paths.{route_le, some_reading}
use Rattle.necklace.proofs.Modalities.{some_agrees}

-- ---- what is made of tests

and_agrees : (a b : Bool) {A B : Type 0} → T a ↔ A → T b ↔ B → T (a && b) ↔ (A × B)
and_agrees a b f g = (λ t. (f.0 (and_l a b t), g.0 (and_r a b t)), λ s. and_i a b (f.1 s.0) (g.1 s.1))

or_agrees : (a b : Bool) {A B : Type 0} → T a ↔ A → T b ↔ B → T (a || b) ↔ (A ⊎ B)
or_agrees a b {A} {B} f g = (λ t. out (or_cases a b t), into)
  where
    out : T a ⊎ T b → A ⊎ B
    out (inl t) = inl (f.0 t)
    out (inr t) = inr (g.0 t)

    into : A ⊎ B → T (a || b)
    into (inl s) = or_l a b (f.1 s)
    into (inr s) = or_r a b (g.1 s)

implies_agrees : (a b : Bool) {A B : Type 0} → T a ↔ A → T b ↔ B → T (implies a b) ↔ (A → B)
implies_agrees true b f g = (λ t x. g.0 t, λ h. g.1 (h (f.0 tt)))
implies_agrees false b f g = (λ t x. absurd (f.1 x), λ h. tt)

eq_agrees : (m n : ℕ) → T (eqb m n) ↔ (m ≡ n)
eq_agrees m n = (eqb→eq m n, λ e. rw e (eqb_refl n))

lt_agrees : (m n : ℕ) → T (ltb m n) ↔ (m < n)
lt_agrees m n = (ltb→lt m n, lt→ltb m n)

empty_agrees : (xs : List ℕ) → T (empty xs) ↔ (xs ≡ [])
empty_agrees [] = (λ t. refl, λ e. tt)
empty_agrees (x ∷ xs) = (λ t. absurd t, λ e. subst (λ (l : List ℕ). T (empty l)) (sym e) tt)

nonempty_agrees : (xs : List ℕ) → T (not (empty xs)) ↔ ((x : ℕ) × (x ∈ xs))
nonempty_agrees [] = (λ t. absurd t, λ s. absurd s.1)
nonempty_agrees (x ∷ xs) = (λ t. (x, inl refl), λ s. tt)

every_of_agrees : (f : ℕ → Bool) (xs : List ℕ) {Q : ℕ → Type 0} → ((x : ℕ) → T (f x) ↔ Q x) → T (every_of f xs) ↔ ((x : ℕ) → x ∈ xs → Q x)
every_of_agrees f [] h = (λ t x m. absurd m, λ k. tt)
every_of_agrees f (y ∷ ys) {Q} h = go (and_agrees (f y) (every_of f ys) (h y) (every_of_agrees f ys h))
  where
    go : T (f y && every_of f ys) ↔ (Q y × ((x : ℕ) → x ∈ ys → Q x)) → T (f y && every_of f ys) ↔ ((x : ℕ) → x ∈ (y ∷ ys) → Q x)
    go k = (λ t x m. out (k.0 t) x m, λ q. k.1 (q y (inl refl), λ x m. q x (inr m)))
      where
        out : Q y × ((x : ℕ) → x ∈ ys → Q x) → (x : ℕ) → x ∈ (y ∷ ys) → Q x
        out s x (inl e) = rw e s.0
        out s x (inr m) = s.1 x m

all_below_agrees : (n : ℕ) (f : ℕ → Bool) {Q : ℕ → Type 0} → ((x : ℕ) → T (f x) ↔ Q x) → T (all_below n f) ↔ ((x : ℕ) → x < n → Q x)
all_below_agrees n f h = (λ t x l. (h x).0 ((all_below_iff n f).0 t x l), λ k. (all_below_iff n f).1 (λ x l. (h x).1 (k x l)))

includes_agrees : (xs ys : List ℕ) → T (includes xs ys) ↔ ((x : ℕ) → x ∈ xs → x ∈ ys)
includes_agrees xs ys = every_of_agrees (λ x. elem x ys) xs (λ x. elem_agrees x ys)

pub same_members_agrees : (xs ys : List ℕ) → T (same_members? xs ys) ↔ SameMembers xs ys
same_members_agrees xs ys =
    let k = and_agrees (includes xs ys) (includes ys xs) (includes_agrees xs ys) (includes_agrees ys xs) in
    (λ t x. ((k.0 t).0 x, (k.0 t).1 x), λ s. k.1 (λ x. (s x).0, λ x. (s x).1))

-- ---- paths, routes, readings, words

pub path_agrees : (G : Dag) (u : ℕ) (xs : List ℕ) (v : ℕ) → T (path? G u xs v) ↔ DagPath G u xs v
unfolding path?
path_agrees G u [] v = (λ t. subst (λ (z : ℕ). DagPath G u [] z) (eqb→eq u v t) here, λ p. none p)
  where
    none : {u v : ℕ} → DagPath G u [] v → T (eqb u v)
    none (here {u = z}) = eqb_refl z
path_agrees G u (x ∷ xs) v = go (path_agrees G x xs v)
  where
    go : T (path? G x xs v) ↔ DagPath G x xs v → T (elem u (G.preds x) && path? G x xs v) ↔ DagPath G u (x ∷ xs) v
    go f = (λ t. edge (parts.0 t).0 (parts.0 t).1, into)
      where
        parts : T (elem u (G.preds x) && path? G x xs v) ↔ ((u ∈ G.preds x) × DagPath G x xs v)
        parts = and_agrees (elem u (G.preds x)) (path? G x xs v) (elem_agrees u (G.preds x)) f

        into : DagPath G u (x ∷ xs) v → T (elem u (G.preds x) && path? G x xs v)
        into (edge m p) = parts.1 (m, p)

nothing_read : {G : Dag} {w : List ℕ} → Reading G [] w → T (empty w)
nothing_read done = tt

-- the first vertex gives nothing, or a letter
abbrev First : Dag → ℕ → List ℕ → List ℕ → Type 0
First G x xs [] = (G.labels x ≡ []) × Reading G xs []
First G x xs (a ∷ w) = ((G.labels x ≡ []) × Reading G xs (a ∷ w)) ⊎ ((a ∈ G.labels x) × Reading G xs w)

first_of : {G : Dag} (x : ℕ) (xs w : List ℕ) → Reading G (x ∷ xs) w → First G x xs w
first_of x xs [] (silent b r) = (b, r)
first_of x xs (a ∷ w) (silent b r) = inl (b, r)
first_of x xs (a ∷ w) (letter m r) = inr (m, r)

of_first : {G : Dag} (x : ℕ) (xs w : List ℕ) → First G x xs w → Reading G (x ∷ xs) w
of_first x xs [] s = silent s.0 s.1
of_first x xs (a ∷ w) (inl s) = silent s.0 s.1
of_first x xs (a ∷ w) (inr s) = letter s.0 s.1

pub reading_agrees : (G : Dag) (xs w : List ℕ) → T (reading? G xs w) ↔ Reading G xs w
unfolding reading?
reading_agrees G [] [] = (λ t. done, λ r. tt)
reading_agrees G [] (a ∷ w) = (λ t. absurd t, λ r. nothing_read r)
reading_agrees G (x ∷ xs) [] =
    let k = and_agrees (empty (G.labels x)) (reading? G xs []) (empty_agrees (G.labels x)) (reading_agrees G xs []) in
    (λ t. of_first x xs [] (k.0 t), λ r. k.1 (first_of x xs [] r))
reading_agrees G (x ∷ xs) (a ∷ w) =
    let k = or_agrees (empty (G.labels x) && reading? G xs (a ∷ w)) (elem a (G.labels x) && reading? G xs w)
    (and_agrees (empty (G.labels x)) (reading? G xs (a ∷ w)) (empty_agrees (G.labels x)) (reading_agrees G xs (a ∷ w)))
    (and_agrees (elem a (G.labels x)) (reading? G xs w) (elem_agrees a (G.labels x)) (reading_agrees G xs w)) in
    (λ t. of_first x xs (a ∷ w) (k.0 t), λ r. k.1 (first_of x xs (a ∷ w) r))

abbrev AcceptsFrom : Automaton → ℕ → List ℕ → Type 0
AcceptsFrom A q w = (r : ℕ) × Run A.next q w r × T (A.accepting r)

from_agrees : (A : Automaton) (q : ℕ) (w : List ℕ) → T (accepts_from A q w) ↔ AcceptsFrom A q w
unfolding accepts_from
from_agrees A q [] = (λ t. (q, stay, t), λ a. ended a.0 a.1 a.2)
  where
    ended : {q : ℕ} (r : ℕ) → Run A.next q [] r → T (A.accepting r) → T (A.accepting q)
    ended r stay t = t
from_agrees A q (a ∷ w) = go (λ r. from_agrees A r w)
  where
    go : ((r : ℕ) → T (accepts_from A r w) ↔ AcceptsFrom A r w) → T (some_of (λ r. accepts_from A r w) (A.next q a)) ↔ AcceptsFrom A q (a ∷ w)
    go f = (
      λ t. let s = some_of_out (λ r. accepts_from A r w) (A.next q a) t in let k = (f s.0).0 s.2 in (k.0, move s.1 k.1, k.2),
      λ k. into k.0 k.1 k.2,
    )
      where
        into : (s : ℕ) → Run A.next q (a ∷ w) s → T (A.accepting s) → T (some_of (λ r. accepts_from A r w) (A.next q a))
        into s (move {r = r} m R) t = some_of_in (λ r. accepts_from A r w) (A.next q a) r m ((f r).1 (s, R, t))

pub accepts_agrees : (A : Automaton) (w : List ℕ) → T (accepts? A w) ↔ Accepts A w
accepts_agrees A w =
    let k = from_agrees A 0 w in
    (λ t. let a = k.0 t in record { last = a.0; run = a.1; accepted = a.2 }, λ a. k.1 (a.last, a.run, a.accepted))

any_run : (w : List ℕ) → Run any_word.next 0 w 0
any_run [] = stay
any_run (a ∷ w) = move (inl refl) (any_run w)

pub route_agrees : {c : ℕ} {G : Dag} → WellFormed c G → (u v : ℕ) → T (route? G u v) ↔ Route G u v
unfolding route?
route_agrees {c} {G} g u v =
    let k = some_agrees g any_word u v in (
      λ t. (k.0 t).route,
      λ r.
          let w = some_reading G (entered r) in
          k.1 (record { route = r; word = w.0; reading = w.1; accepts = record { last = 0; run = any_run w.0; accepted = tt } }),
    )

pub past_agrees : {c : ℕ} {G : Dag} → WellFormed c G → (v x : ℕ) → T (past? G v x) ↔ Past G v x
unfolding past?
past_agrees {c} {G} g v x = or_agrees (eqb x v) (route? G x v) (eq_agrees x v) (route_agrees g x v)

-- ---- dags and automata

-- of a dag with nothing past its vertices
pub well_formed_agrees : (c : ℕ) (G : Dag) → ((u v : ℕ) → u ∈ G.preds v → v < G.size) → ((v a : ℕ) → a ∈ G.labels v → v < G.size)
    → T (well_formed? c G) ↔ WellFormed c G
unfolding well_formed?
well_formed_agrees c G inner named = (λ t. out (parts.0 t), λ g. parts.1 (into g))
  where
    At : ℕ → Type 0
    At v = (((v ≡ 0) ⊎ ((u : ℕ) × (u ∈ G.preds v))) × ((u : ℕ) → u ∈ G.preds v → u < v)) × ((a : ℕ) → a ∈ G.labels v → a < c)

    at_agrees : (v : ℕ) → T (well_formed_at c G v) ↔ At v
    at_agrees v =
        and_agrees ((eqb v 0 || not (empty (G.preds v))) && every_of (λ u. ltb u v) (G.preds v)) (every_of (λ a. ltb a c) (G.labels v))
        (and_agrees (eqb v 0 || not (empty (G.preds v))) (every_of (λ u. ltb u v) (G.preds v))
        (or_agrees (eqb v 0) (not (empty (G.preds v))) (eq_agrees v 0) (nonempty_agrees (G.preds v)))
        (every_of_agrees (λ u. ltb u v) (G.preds v) (λ u. lt_agrees u v)))
        (every_of_agrees (λ a. ltb a c) (G.labels v) (λ a. lt_agrees a c))

    Parts : Type 0
    Parts = (((0 < G.size) × (G.labels 0 ≡ [])) × (G.preds 0 ≡ [])) × ((v : ℕ) → v < G.size → At v)

    parts : T (ltb 0 G.size && empty (G.labels 0) && empty (G.preds 0) && all_below G.size (well_formed_at c G)) ↔ Parts
    parts =
        and_agrees (ltb 0 G.size && empty (G.labels 0) && empty (G.preds 0)) (all_below G.size (well_formed_at c G))
        (and_agrees (ltb 0 G.size && empty (G.labels 0)) (empty (G.preds 0))
        (and_agrees (ltb 0 G.size) (empty (G.labels 0)) (lt_agrees 0 G.size) (empty_agrees (G.labels 0))) (empty_agrees (G.preds 0)))
        (all_below_agrees G.size (well_formed_at c G) at_agrees)

    out : Parts → WellFormed c G
    out p = record {
      started = p.0.0.0;
      start_bare = p.0.0.1;
      start_first = p.0.1;
      linked = λ v l z. pick v z (p.1 v l).0.0;
      rising = λ u v m. (p.1 v (inner u v m)).0.1 u m;
      known = λ v a m. (p.1 v (named v a m)).1 a m;
      edges_inside = inner;
      labels_inside = named;
    }
      where
        pick : (v : ℕ) → v ≢ 0 → (v ≡ 0) ⊎ ((u : ℕ) × (u ∈ G.preds v)) → (u : ℕ) × (u ∈ G.preds v)
        pick v z (inl e) = absurd (z e)
        pick v z (inr s) = s

    into : WellFormed c G → Parts
    into g = (((g.started, g.start_bare), g.start_first), λ v l. ((pick v l (ℕ_discrete v 0), λ u m. g.rising u v m), λ a m. g.known v a m))
      where
        pick : (v : ℕ) → v < G.size → Dec (v ≡ 0) → (v ≡ 0) ⊎ ((u : ℕ) × (u ∈ G.preds v))
        pick v l (yes e) = inl e
        pick v l (no z) = inr (g.linked v l z)

-- of a dag given by a list
pub listed_well_formed : (c : ℕ) (vs : List (List ℕ × List ℕ)) → T (well_formed? c (listed_dag vs)) → WellFormed c (listed_dag vs)
listed_well_formed c vs t =
    (well_formed_agrees c (listed_dag vs) (λ u v m. inside v (λ z. past_preds v u z m)) (λ v a m. inside v (λ z. past_labels v a z m))).0 t
  where
    inside : (v : ℕ) → (length vs ≤ v → ⊥) → v < length vs
    inside v f = lt_of_not-le f

    past_preds : (v u : ℕ) → length vs ≤ v → u ∈ (get_or vs v ([], [])).1 → ⊥
    past_preds v u l m = subst (λ (p : List ℕ × List ℕ). u ∈ p.1) (get_or-eq_default vs ([], []) l) m

    past_labels : (v a : ℕ) → length vs ≤ v → a ∈ (get_or vs v ([], [])).0 → ⊥
    past_labels v a l m = subst (λ (p : List ℕ × List ℕ). a ∈ p.0) (get_or-eq_default vs ([], []) l) m

one_agrees : (n : ℕ) (xs : List ℕ) → T (one_below n xs) ↔ ((r : ℕ) × (r < n) × (xs ≡ r ∷ []))
one_agrees n [] = (λ t. absurd t, λ s. no_one s.2)
  where
    no_one : {r : ℕ} → [] ≡ r ∷ [] → ⊥
    no_one e = subst (λ (l : List ℕ). T (empty l)) e tt
one_agrees n (r ∷ []) = (λ t. (r, ltb→lt r n t, refl), λ s. lt→ltb r n (let e = ap (λ (l : List ℕ). get_or l 0 0) s.2 in let l = s.1 in omega arith))
one_agrees n (r ∷ q ∷ rs) = (λ t. absurd t, λ s. two s.2)
  where
    two : {p : ℕ} → r ∷ q ∷ rs ≡ p ∷ [] → ⊥
    two e = let z = ap length e in omega arith

pub one_next_agrees : (c : ℕ) (A : Automaton) → T (one_next? c A) ↔ OneNext c A
unfolding one_next?
one_next_agrees c A = (
  λ t. record { initial = (parts.0 t).0; one = λ q a l m. (parts.0 t).1 q l a m },
  λ d. parts.1 (d.initial, λ q l a m. d.one q a l m),
)
  where
    One : ℕ → ℕ → Type 0
    One q a = (r : ℕ) × (r < A.states) × (A.next q a ≡ r ∷ [])

    parts : T (ltb 0 A.states && all_below A.states (λ q. all_below c (λ a. one_below A.states (A.next q a))))
        ↔ ((0 < A.states) × ((q : ℕ) → q < A.states → (a : ℕ) → a < c → One q a))
    parts =
        and_agrees (ltb 0 A.states) (all_below A.states (λ q. all_below c (λ a. one_below A.states (A.next q a)))) (lt_agrees 0 A.states)
        (all_below_agrees A.states (λ q. all_below c (λ a. one_below A.states (A.next q a)))
        (λ q. all_below_agrees c (λ a. one_below A.states (A.next q a)) (λ a. one_agrees A.states (A.next q a))))

is_all_agrees : (m : Modality) → T (is_all m) ↔ (m ≡ ALL)
is_all_agrees SOME = (λ t. absurd t, λ e. subst (λ (m : Modality). T (is_all m)) (sym e) tt)
is_all_agrees ALL = (λ t. refl, λ e. tt)

differ_agrees : (m n : Modality) → T (differ m n) ↔ (m ≢ n)
differ_agrees SOME SOME = (λ t. absurd t, λ f. f refl)
differ_agrees SOME ALL = (λ t e. (is_all_agrees SOME).1 e, λ f. tt)
differ_agrees ALL SOME = (λ t e. (is_all_agrees SOME).1 (sym e), λ f. tt)
differ_agrees ALL ALL = (λ t. absurd t, λ f. f refl)

pub well_formed_pattern_agrees : (c : ℕ) (P : Pattern) → T (well_formed_pattern? c P) ↔ WellFormedPattern c P
unfolding well_formed_pattern?
well_formed_pattern_agrees c P = (λ t. out (parts.0 t), λ p. parts.1 (into p))
  where
    At : ℕ → Type 0
    At j = (suc j < P.count → (P.bead j).modality ≢ (P.bead (suc j)).modality) × ((P.bead j).modality ≡ ALL → OneNext c (P.bead j).automaton)

    at_agrees : (j : ℕ) → T (well_formed_bead c P j) ↔ At j
    at_agrees j =
        and_agrees (implies (ltb (suc j) P.count) (differ (P.bead j).modality (P.bead (suc j)).modality))
        (implies (is_all (P.bead j).modality) (one_next? c (P.bead j).automaton))
        (implies_agrees (ltb (suc j) P.count) (differ (P.bead j).modality (P.bead (suc j)).modality)
        (lt_agrees (suc j) P.count) (differ_agrees (P.bead j).modality (P.bead (suc j)).modality))
        (implies_agrees (is_all (P.bead j).modality) (one_next? c (P.bead j).automaton)
        (is_all_agrees (P.bead j).modality) (one_next_agrees c (P.bead j).automaton))

    Parts : Type 0
    Parts = ((0 < P.count) × (P.count ≤ 8)) × ((j : ℕ) → j < P.count → At j)

    parts : T (ltb 0 P.count && leb P.count 8 && all_below P.count (well_formed_bead c P)) ↔ Parts
    parts =
        and_agrees (ltb 0 P.count && leb P.count 8) (all_below P.count (well_formed_bead c P))
        (and_agrees (ltb 0 P.count) (leb P.count 8) (lt_agrees 0 P.count) (leb→le P.count 8, le→leb P.count 8))
        (all_below_agrees P.count (well_formed_bead c P) at_agrees)

    out : Parts → WellFormedPattern c P
    out p = record { some_bead = p.0.0; at_most = p.0.1; alternate = λ j l. (p.1 j (omega arith)).0 l; one_next = λ j l e. (p.1 j l).1 e }

    into : WellFormedPattern c P → Parts
    into p = ((p.some_bead, p.at_most), λ j l. (p.alternate j, p.one_next j l))

-- ---- pasts

past_le : {c : ℕ} {G : Dag} → WellFormed c G → (v x : ℕ) → Past G v x → x < suc v
past_le g v x (inl e) = omega arith
past_le g v x (inr r) = let l = route_le g r in omega arith

module _ {c d : ℕ} {G H : Dag} (g : WellFormed c G) (h : WellFormed d H) where
  pub alike_agrees : (v : ℕ) → T (alike? G H v) ↔ Alike G H v
  unfolding alike?
  alike_agrees v = (λ t. out (parts.0 t), λ a. parts.1 (into a))
    where
      At : ℕ → Type 0
      At x = (Past H v x → Past G v x) × (Past G v x → (Past H v x × SameMembers (G.preds x) (H.preds x)) × SameMembers (G.labels x) (H.labels x))

      at_agrees : (x : ℕ) → T (alike_at G H v x) ↔ At x
      at_agrees x =
          and_agrees (implies (past? H v x) (past? G v x))
          (implies (past? G v x) (past? H v x && same_members? (G.preds x) (H.preds x) && same_members? (G.labels x) (H.labels x)))
          (implies_agrees (past? H v x) (past? G v x) (past_agrees h v x) (past_agrees g v x))
          (implies_agrees (past? G v x) (past? H v x && same_members? (G.preds x) (H.preds x) && same_members? (G.labels x) (H.labels x))
          (past_agrees g v x)
          (and_agrees (past? H v x && same_members? (G.preds x) (H.preds x)) (same_members? (G.labels x) (H.labels x))
          (and_agrees (past? H v x) (same_members? (G.preds x) (H.preds x)) (past_agrees h v x) (same_members_agrees (G.preds x) (H.preds x)))
          (same_members_agrees (G.labels x) (H.labels x))))

      Parts : Type 0
      Parts = ((v < G.size) × (v < H.size)) × ((x : ℕ) → x < suc v → At x)

      parts : T (ltb v G.size && ltb v H.size && all_below (suc v) (alike_at G H v)) ↔ Parts
      parts =
          and_agrees (ltb v G.size && ltb v H.size) (all_below (suc v) (alike_at G H v))
          (and_agrees (ltb v G.size) (ltb v H.size) (lt_agrees v G.size) (lt_agrees v H.size))
          (all_below_agrees (suc v) (alike_at G H v) at_agrees)

      out : Parts → Alike G H v
      out p = record {
        left = p.0.0;
        right = p.0.1;
        vertices = λ x. (λ q. ((p.1 x (past_le g v x q)).1 q).0.0, λ q. (p.1 x (past_le h v x q)).0 q);
        edges = λ x q. ((p.1 x (past_le g v x q)).1 q).0.1;
        labels = λ x q. ((p.1 x (past_le g v x q)).1 q).1;
      }

      into : Alike G H v → Parts
      into a = ((a.left, a.right), λ x l. ((a.vertices x).1, λ q. (((a.vertices x).0 q, a.edges x q), a.labels x q)))

  pub only_adds_agrees : T (only_adds? G H) ↔ OnlyAdds G H
  unfolding only_adds?
  only_adds_agrees = (λ t. out (parts.0 t), λ a. parts.1 (into a))
    where
      At : ℕ → Type 0
      At x = (((u : ℕ) → u ∈ G.preds x → u ∈ H.preds x) × ((a : ℕ) → a ∈ G.labels x → a ∈ H.labels x)) × (G.labels x ≡ [] → H.labels x ≡ [])

      at_agrees : (x : ℕ) → T (only_adds_at G H x) ↔ At x
      at_agrees x =
          and_agrees (includes (G.preds x) (H.preds x) && includes (G.labels x) (H.labels x)) (implies (empty (G.labels x)) (empty (H.labels x)))
          (and_agrees (includes (G.preds x) (H.preds x)) (includes (G.labels x) (H.labels x))
          (includes_agrees (G.preds x) (H.preds x)) (includes_agrees (G.labels x) (H.labels x)))
          (implies_agrees (empty (G.labels x)) (empty (H.labels x)) (empty_agrees (G.labels x)) (empty_agrees (H.labels x)))

      Parts : Type 0
      Parts = (H.size ≡ G.size) × ((x : ℕ) → x < G.size → At x)

      parts : T (eqb H.size G.size && all_below G.size (only_adds_at G H)) ↔ Parts
      parts =
          and_agrees (eqb H.size G.size) (all_below G.size (only_adds_at G H)) (eq_agrees H.size G.size)
          (all_below_agrees G.size (only_adds_at G H) at_agrees)

      out : Parts → OnlyAdds G H
      out p = record {
        size = p.0;
        edges = λ u x m. (p.1 x (g.edges_inside u x m)).0.0 u m;
        labels = λ x a m. (p.1 x (g.labels_inside x a m)).0.1 a m;
        bare_stays = λ x e. no_members (H.labels x) (λ a m.
            let l = h.labels_inside x a m in
            let z = p.0 in
            subst (λ (ls : List ℕ). a ∈ ls) ((p.1 x (omega arith)).1 e) m);
      }

      into : OnlyAdds G H → Parts
      into a = (a.size, λ x l. ((λ u m. a.edges u x m, λ b m. a.labels x b m), a.bare_stays x))
