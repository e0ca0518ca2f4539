-- The backward pass, for a fixed target v: the state q is in the set of w if and only if some reading of some path from w to v runs from q into F.
use Prim.Native.Nat.{ℕ, zero, suc, ◌<◌}
use mathlib.Core.Path.{◌≡◌, refl, subst}
use mathlib.Core.Logic.{◌⊎◌, inl, inr, ◌↔◌}
use mathlib.Core.Bool.{Bool, ◌&&◌}
use mathlib.Core.List.{List, [], ◌∷◌}
use native.Mathlib.Nat.{eq-or-lt_of_le}
use native.Mathlib.Omega.{arith}
use lib.Dec.{T, eqb, eqb→eq, eqb_refl}
use Rattle.sets.specs.Sets.{◌∈◌}
use Rattle.sets.proofs.Truth.{or_l, or_r, or_cases, and_i, and_l, and_r}
use Rattle.necklace.specs.Dag.{Dag, WellFormed, DagPath, here, edge, Reading, done, silent, letter}
use Rattle.necklace.specs.Automaton.{Automaton, Run, stay, move}
use Rattle.necklace.specs.Compute.{some_of, elem, enters, add_back, pass, backward}
use Rattle.necklace.proofs.Lists.{some_of_out, some_of_in, elem_out, elem_in}
use Rattle.necklace.proofs.Paths.{path_le, nothing}

-- Some reading of the path through xs, from w to v, runs from q into F.
pub record LeadsBy (G : Dag) (A : Automaton) (F : ℕ → Bool) (v w q : ℕ) (xs : List ℕ) : Type 0 where
  pub path : DagPath G w xs v
  pub word : List ℕ
  pub reading : Reading G xs word
  pub last : ℕ
  pub run : Run A.next q word last
  pub inside : T (F last)

-- Some reading of some path from w to v runs from q into F.
abbrev pub Leads : Dag → Automaton → (ℕ → Bool) → ℕ → ℕ → ℕ → Type 0
Leads G A F v w q = (xs : List ℕ) × LeadsBy G A F v w q xs

module _ (G : Dag) (A : Automaton) (F : ℕ → Bool) (v : ℕ) where
  -- What leads from x leads from a predecessor of x: from the same state where x has no label, else from a state that a label of x moves there.
  pub leads_bare : (x w q : ℕ) → G.labels x ≡ [] → w ∈ G.preds x → Leads G A F v x q → Leads G A F v w q
  leads_bare x w q e m k =
      let l = k.1 in
      (x ∷ k.0, record { path = edge m l.path; word = l.word; reading = silent e l.reading; last = l.last; run = l.run; inside = l.inside })

  pub leads_letter : (x w q r a : ℕ) → a ∈ G.labels x → w ∈ G.preds x → r ∈ A.next q a → Leads G A F v x r → Leads G A F v w q
  leads_letter x w q r a e m n k =
      let l = k.1 in (
        x ∷ k.0,
        record {
          path = edge m l.path;
          word = a ∷ l.word;
          reading = letter {x = x} {a = a} e l.reading;
          last = l.last;
          run = move n l.run;
          inside = l.inside;
        },
      )

  -- Soundness: what is in a set leads to v, and a turn of the pass keeps this.
  abbrev Sound : (ℕ → ℕ → Bool) → Type 0
  Sound sets = (w q : ℕ) → T (sets w q) → Leads G A F v w q

  enters_sound : (x w q : ℕ) (ls : List ℕ) (S : ℕ → Bool) → G.labels x ≡ ls → w ∈ G.preds x → ((r : ℕ) → T (S r) → Leads G A F v x r)
      → T (enters A ls S q) → Leads G A F v w q
  enters_sound x w q [] S e m h t = leads_bare x w q e m (h q t)
  enters_sound x w q (a ∷ ls) S e m h t =
      let r = some_of_out (λ b. some_of S (A.next q b)) (a ∷ ls) t in
      let s = some_of_out S (A.next q r.0) r.2 in
      leads_letter x w q s.0 r.0 (rw e r.1) m s.1 (h s.0 s.2)

  add_back_sound : (x : ℕ) (sets : ℕ → ℕ → Bool) → Sound sets → Sound (add_back G A x sets)
  add_back_sound x sets h w q t = go (or_cases (sets w q) (elem w (G.preds x) && enters A (G.labels x) (sets x) q) t)
    where
      go : T (sets w q) ⊎ T (elem w (G.preds x) && enters A (G.labels x) (sets x) q) → Leads G A F v w q
      go (inl s) = h w q s
      go (inr s) = enters_sound x w q (G.labels x) (sets x) refl
          (elem_out w (G.preds x) (and_l (elem w (G.preds x)) (enters A (G.labels x) (sets x) q) s)) (λ r. h x r)
          (and_r (elem w (G.preds x)) (enters A (G.labels x) (sets x) q) s)

  pass_sound : (x : ℕ) (sets : ℕ → ℕ → Bool) → Sound sets → Sound (pass G A x sets)
  unfolding pass
  pass_sound zero sets h = h
  pass_sound (suc x) sets h = pass_sound x (add_back G A (suc x) sets) (add_back_sound (suc x) sets h)

  pub backward_sound : (w q : ℕ) → T (backward G A F v w q) → Leads G A F v w q
  unfolding backward
  backward_sound w q t = pass_sound v (λ x r. eqb x v && F r) start w q t
    where
      start : Sound (λ x r. eqb x v && F r)
      start x r s = (
        [],
        record {
          path = subst (λ (z : ℕ). DagPath G x [] z) (eqb→eq x v (and_l (eqb x v) (F r) s)) here;
          word = [];
          reading = done;
          last = r;
          run = stay;
          inside = and_r (eqb x v) (F r) s;
        },
      )

  -- Completeness: the sets have whatever leads to v by a path whose first vertex after w, if it has one, lies above m. The turn of
  -- the vertex m takes this down to m - 1, since edges rise.
  abbrev Above : ℕ → List ℕ → Type 0
  Above m [] = Unit {0}
  Above m (x ∷ xs) = m < x

  abbrev Complete : ℕ → (ℕ → ℕ → Bool) → Type 0
  Complete m sets = (w q : ℕ) (xs : List ℕ) → Above m xs → LeadsBy G A F v w q xs → T (sets w q)

  -- what leads to v through x enters x and goes on from there
  enters_complete : (x w q : ℕ) (xs : List ℕ) (S : ℕ → Bool) → LeadsBy G A F v w q (x ∷ xs)
      → ((r : ℕ) → LeadsBy G A F v x r xs → T (S r)) → T (elem w (G.preds x) && enters A (G.labels x) S q)
  enters_complete x w q xs S h k = go h.word h.path h.reading h.run
    where
      entered : (ls : List ℕ) (a r : ℕ) → a ∈ ls → r ∈ A.next q a → T (S r) → T (enters A ls S q)
      entered [] a r m n t = absurd m
      entered (l ∷ ls) a r m n t = some_of_in (λ b. some_of S (A.next q b)) (l ∷ ls) a m (some_of_in S (A.next q a) r n t)

      go : (word : List ℕ) → DagPath G w (x ∷ xs) v → Reading G (x ∷ xs) word → Run A.next q word h.last
          → T (elem w (G.preds x) && enters A (G.labels x) S q)
      go word (edge m p) (silent b rs) run = and_i (elem w (G.preds x)) (enters A (G.labels x) S q) (elem_in w (G.preds x) m)
          (rw b (k q (record { path = p; word = word; reading = rs; last = h.last; run = run; inside = h.inside })))
      go word (edge m p) (letter {a = a} {w = rest} l rs) (move {r = r} n run) =
          and_i (elem w (G.preds x)) (enters A (G.labels x) S q) (elem_in w (G.preds x) m)
          (entered (G.labels x) a r l n (k r (record { path = p; word = rest; reading = rs; last = h.last; run = run; inside = h.inside })))

  module _ {c : ℕ} (g : WellFormed c G) where
    rises : (x : ℕ) (xs : List ℕ) (u : ℕ) → DagPath G x xs u → Above x xs
    rises x xs u here = tt
    rises x xs u (edge {x = y} m p) = g.rising x y m

    add_back_complete : (x : ℕ) (sets : ℕ → ℕ → Bool) → Complete (suc x) sets → Complete x (add_back G A (suc x) sets)
    add_back_complete x sets h w q [] a k = or_l (sets w q) _ (h w q [] tt k)
    add_back_complete x sets h w q (y ∷ ys) a k = go (eq-or-lt_of_le a)
      where
        go : (suc x ≡ y) ⊎ (suc x < y) → T (add_back G A (suc x) sets w q)
        go (inl e) = or_r (sets w q) _ (rw e (enters_complete y w q ys (sets y) k (λ r z. h y r ys (rw e (rises y ys v z.path)) z)))
        go (inr l) = or_l (sets w q) _ (h w q (y ∷ ys) l k)

    pass_complete : (x : ℕ) (sets : ℕ → ℕ → Bool) → Complete x sets → Complete zero (pass G A x sets)
    unfolding pass
    pass_complete zero sets h = h
    pass_complete (suc x) sets h = pass_complete x (add_back G A (suc x) sets) (add_back_complete x sets h)

    pub backward_complete : (w q : ℕ) → Leads G A F v w q → T (backward G A F v w q)
    unfolding backward
    backward_complete w q k = pass_complete v (λ x r. eqb x v && F r) start w q k.0 (first k.0 (rises w k.0 v k.1.path)) k.1
      where
        start : Complete v (λ x r. eqb x v && F r)
        start x r [] a h = let e = nothing h.path h.reading h.run in and_i (eqb x v) (F r) (rw e.0 (eqb_refl v)) (rw e.1 h.inside)
        start x r (y ∷ ys) a h = absurd (late h.path)
          where
            late : DagPath G x (y ∷ ys) v → ⊥
            late (edge m p) = let l = path_le g p in omega arith

        first : (xs : List ℕ) → Above w xs → Above zero xs
        first [] a = tt
        first (y ∷ ys) a = omega arith

    pub backward_agrees : (w q : ℕ) → T (backward G A F v w q) ↔ Leads G A F v w q
    backward_agrees w q = (backward_sound w q, backward_complete w q)
