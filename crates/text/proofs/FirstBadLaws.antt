-- A walk accepts just where all lines pass, and gives a number and a line just where they are those of the first bad line.
-- Assumes nothing.
use Prim.Native.Nat.{ℕ, ◌+◌}
use mathlib.Core.Path.{◌≡◌, refl, ap, ◌∙◌, subst}
use mathlib.Core.Logic.{◌↔◌}
use mathlib.Core.Bool.{Bool, true, false, cond}
use mathlib.Core.List.{List, [], ◌∷◌}
use native.Mathlib.Omega.{arith}
use lib.Dec.{T}
use Rattle.text.specs.Lines.{lines_of}
use Rattle.text.specs.Walk.{Judged, refused, passed, Outcome, accepted, faulty, proceed, walk, Format, judge_by, bad_size, read_text}
use Rattle.text.specs.FirstBad.{AllPass, done, next, FirstBad, here, later}

module _ {S L : Type 0} (judge : S → ℕ → L → Judged S) where
  pass_walk : {s t : S} {n : ℕ} {ls : List L} → AllPass judge s n ls t → walk judge s n ls ≡ accepted t
  unfolding walk
  pass_walk done = refl
  pass_walk (next {n = n} e rest) = rw e (pass_walk rest)

  bad_walk : {s : S} {n k m : ℕ} {ls : List L} → FirstBad judge s n ls k m → walk judge s n ls ≡ faulty k m
  unfolding walk
  bad_walk (here e) = rw e
  bad_walk (later e rest) = rw e (bad_walk rest)

  walk_pass : (s t : S) (n : ℕ) (ls : List L) → walk judge s n ls ≡ accepted t → AllPass judge s n ls t
  unfolding walk
  walk_pass s t n [] e = same s t e
    where
      known : Outcome S → S → S
      known (accepted u) other = u
      known (faulty k m) other = other

      same : (a b : S) → accepted a ≡ accepted b → AllPass judge a n [] b
      same a b e = subst (λ (u : S). AllPass judge a n [] u) (ap (λ (o : Outcome S). known o a) e) done
  walk_pass s t n (l ∷ ls) e = go (judge s n l) refl e (λ u f. walk_pass u t (n + 1) ls f)
    where
      go : (j : Judged S) → judge s n l ≡ j → proceed n j (λ u. walk judge u (n + 1) ls) ≡ accepted t
          → ((u : S) → walk judge u (n + 1) ls ≡ accepted t → AllPass judge u (n + 1) ls t) → AllPass judge s n (l ∷ ls) t
      go (refused k) j f rest = let z : ◌≡◌ {A = ℕ} 0 1 = cc in absurd (omega arith)
      go (passed u) j f rest = next j (rest u f)

  walk_bad : (s : S) (n k m : ℕ) (ls : List L) → walk judge s n ls ≡ faulty k m → FirstBad judge s n ls k m
  unfolding walk
  walk_bad s n k m [] e = let z : ◌≡◌ {A = ℕ} 0 1 = cc in absurd (omega arith)
  walk_bad s n k m (l ∷ ls) e = go (judge s n l) refl e (λ u f. walk_bad u (n + 1) k m ls f)
    where
      number : Outcome S → ℕ
      number (accepted u) = 0
      number (faulty a b) = a

      line : Outcome S → ℕ
      line (accepted u) = 0
      line (faulty a b) = b

      go : (j : Judged S) → judge s n l ≡ j → proceed n j (λ u. walk judge u (n + 1) ls) ≡ faulty k m
          → ((u : S) → walk judge u (n + 1) ls ≡ faulty k m → FirstBad judge u (n + 1) ls k m) → FirstBad judge s n (l ∷ ls) k m
      go (refused a) j f rest =
          subst (λ (b : ℕ). FirstBad judge s n (l ∷ ls) k b) (ap line f) (here (j ∙ ap refused (ap number f)))
      go (passed u) j f rest = later j (rest u f)

  pub walk_accepts : (s t : S) (n : ℕ) (ls : List L) → walk judge s n ls ≡ accepted t ↔ AllPass judge s n ls t
  walk_accepts s t n ls = (walk_pass s t n ls, pass_walk)

  pub walk_refuses : (s : S) (n k m : ℕ) (ls : List L) → walk judge s n ls ≡ faulty k m ↔ FirstBad judge s n ls k m
  walk_refuses s n k m ls = (walk_bad s n k m ls, bad_walk)

-- ---- the number of a refusal

-- No line is refused with 0.
unfoldable pub Numbered : {S : Type 0} → Judged S → Type 0
Numbered (refused k) = k ≡ 0 → ⊥
Numbered (passed s) = Unit

pub bad_number : {S L : Type 0} (judge : S → ℕ → L → Judged S) → ((s : S) (n : ℕ) (l : L) → Numbered (judge s n l))
    → {s : S} {n k m : ℕ} {ls : List L} → FirstBad judge s n ls k m → k ≡ 0 → ⊥
unfolding Numbered
bad_number judge f (here {s = s} {n = n} {l = l} e) = subst Numbered e (f s n l)
bad_number judge f (later e rest) = bad_number judge f rest

-- ---- the size, before all lines

module _ {S : Type 0} (F : Format S) (text : List ℕ) where
  pub size_faulty : T (bad_size F.most text) → read_text F text ≡ faulty F.size_refusal 0
  size_faulty t = go (bad_size F.most text) t
    where
      go : (b : Bool) → T b → cond b (faulty F.size_refusal 0) (walk (judge_by F) F.start 1 (lines_of text)) ≡ faulty F.size_refusal 0
      go true t = refl
      go false t = absurd t

  pub size_passes : (T (bad_size F.most text) → ⊥) → read_text F text ≡ walk (judge_by F) F.start 1 (lines_of text)
  size_passes f = go (bad_size F.most text) f
    where
      go : (b : Bool) → (T b → ⊥) → cond b (faulty F.size_refusal 0) (walk (judge_by F) F.start 1 (lines_of text)) ≡ walk (judge_by F) F.start 1 (lines_of text)
      go true f = absurd (f tt)
      go false f = refl
