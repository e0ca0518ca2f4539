-- Texts put together from lines of fields: what they split into again, which bytes they have, and how long they are. Of any format.
-- Assumes nothing.
use Prim.Native.Nat.{ℕ, suc, ◌+◌, ◌<◌}
use mathlib.Core.Path.{◌≡◌, refl, sym, ap, ◌∙◌}
use mathlib.Core.Bool.{Bool, true, false, ◌&&◌}
use mathlib.Core.List.{List, [], ◌∷◌, ◌++◌}
use native.Mathlib.Omega.{arith}
use borrow.Author.Tests.{eqb-true, eqb-false, leb-true}
use lib.Dec.{eqb, leb}
use lib.ListN.{length, length-append}
use lib.Seq.{append_snoc}
use Rattle.text.specs.Split.{prepend, split, joined, line_from}
use Rattle.text.specs.Lines.{as_lines, lines_of, printable_byte, printable}
use Rattle.text.proofs.SplitLaws.{split_at, split_on, split_empty, split_some}

-- ---- no byte of a list is b

abbrev pub Lacks : ℕ → List ℕ → Type 0
Lacks b [] = Unit {0}
Lacks b (x ∷ xs) = (x ≡ b → ⊥) × Lacks b xs

abbrev pub AllLack : ℕ → List (List ℕ) → Type 0
AllLack b [] = Unit {0}
AllLack b (p ∷ ps) = Lacks b p × AllLack b ps

pub lacks_append : (b : ℕ) (p q : List ℕ) → Lacks b p → Lacks b q → Lacks b (p ++ q)
lacks_append b [] q f g = g
lacks_append b (x ∷ p) q f g = (f.0, lacks_append b p q f.1 g)

pub lacks_joined : (b c : ℕ) (ps : List (List ℕ)) → (c ≡ b → ⊥) → AllLack b ps → Lacks b (joined c ps)
unfolding joined
lacks_joined b c [] n f = tt
lacks_joined b c (p ∷ []) n f = f.0
lacks_joined b c (p ∷ (q ∷ ps)) n f = lacks_append b p (c ∷ joined c (q ∷ ps)) f.0 (n, lacks_joined b c (q ∷ ps) n f.1)

-- ---- a list's parts lack the separator, and are the only parts that do and give the list when joined

pub split_lacks : (b : ℕ) (l : List ℕ) → AllLack b (split b l)
split_lacks b [] = rw (split_empty b) (tt, tt)
split_lacks b (x ∷ xs) = go (eqb x b) refl (split b xs) refl (split_lacks b xs)
  where
    go : (t : Bool) → eqb x b ≡ t → (k : List (List ℕ)) → split b xs ≡ k → AllLack b k → AllLack b (split b (x ∷ xs))
    go true e k s f = rw (split_at b x xs (eqb-true x b e), s) (tt, f)
    go false e [] s f = rw (split_on b x xs (eqb-false x b e), s) ((eqb-false x b e, tt), tt)
    go false e (p ∷ ps) s f = rw (split_on b x xs (eqb-false x b e), s) ((eqb-false x b e, f.0), f.1)

split_whole : (b : ℕ) (p : List ℕ) → Lacks b p → split b p ≡ p ∷ []
split_whole b [] f = split_empty b
split_whole b (x ∷ xs) f = split_on b x xs f.0 ∙ ap (prepend x) (split_whole b xs f.1)

split_first : (b : ℕ) (p rest : List ℕ) → Lacks b p → split b (p ++ (b ∷ rest)) ≡ p ∷ split b rest
split_first b [] rest f = split_at b b rest refl
split_first b (x ∷ xs) rest f = split_on b x (xs ++ (b ∷ rest)) f.0 ∙ ap (prepend x) (split_first b xs rest f.1)

pub split_parts : (b : ℕ) (p : List ℕ) (ps : List (List ℕ)) → AllLack b (p ∷ ps) → split b (joined b (p ∷ ps)) ≡ p ∷ ps
unfolding joined
split_parts b p [] f = split_whole b p f.0
split_parts b p (q ∷ ps) f = split_first b p (joined b (q ∷ ps)) f.0 ∙ ap (λ (k : List (List ℕ)). p ∷ k) (split_parts b q ps f.1)

-- ---- how long parts are when joined

-- The bytes of further parts, each with the separator before it.
unfoldable pub weight : List (List ℕ) → ℕ
weight [] = 0
weight (p ∷ ps) = suc (length p) + weight ps

pub length_joined : (b : ℕ) (p : List ℕ) (ps : List (List ℕ)) → length (joined b (p ∷ ps)) ≡ length p + weight ps
unfolding joined weight
length_joined b p [] = omega arith
length_joined b p (q ∷ ps) =
    let h = length_joined b q ps in
    length-append p (b ∷ joined b (q ∷ ps)) ∙ omega arith

pub length_line : (fs : List (List ℕ)) → length (line_from fs) ≡ length (joined 32 fs) + 1
length_line fs = length-append (joined 32 fs) (10 ∷ [])

-- ---- printable bytes

pub printable_append : (p q : List ℕ) → printable p ≡ true → printable q ≡ true → printable (p ++ q) ≡ true
unfolding printable
printable_append [] q f g = g
printable_append (x ∷ p) q f g = go (printable_byte x) f (λ e. printable_append p q e g)
  where
    go : (t : Bool) → (t && printable p) ≡ true → (printable p ≡ true → printable (p ++ q) ≡ true) → (t && printable (p ++ q)) ≡ true
    go true e rest = rest e
    go false e rest = let z : ◌≡◌ {A = ℕ} 0 1 = cc in absurd (omega arith)

abbrev pub AllPrintable : List (List ℕ) → Type 0
AllPrintable [] = Unit {0}
AllPrintable (p ∷ ps) = (printable p ≡ true) × AllPrintable ps

printable_parts : (c : ℕ) (ps : List (List ℕ)) → printable (c ∷ []) ≡ true → AllPrintable ps → printable (joined c ps) ≡ true
unfolding joined printable
printable_parts c [] s f = refl
printable_parts c (p ∷ []) s f = f.0
printable_parts c (p ∷ (q ∷ ps)) s f =
    printable_append p (c ∷ joined c (q ∷ ps)) f.0 (printable_append (c ∷ []) (joined c (q ∷ ps)) s (printable_parts c (q ∷ ps) s f.1))

-- Joined by spaces, or by commas.
pub printable_joined : (ps : List (List ℕ)) → AllPrintable ps → printable (joined 32 ps) ≡ true
unfolding printable
printable_joined ps f = printable_parts 32 ps refl f

pub printable_listed : (ps : List (List ℕ)) → AllPrintable ps → printable (joined 44 ps) ≡ true
unfolding printable
printable_listed ps f = printable_parts 44 ps refl f

printable_lacks : (c : ℕ) (l : List ℕ) → c < 32 → printable l ≡ true → Lacks c l
unfolding printable
printable_lacks c [] h e = tt
printable_lacks c (x ∷ l) h e = go (leb 32 x) refl (leb x 126) e (λ f. printable_lacks c l h f)
  where
    go : (s : Bool) → leb 32 x ≡ s → (t : Bool) → (s && t && printable l) ≡ true → (printable l ≡ true → Lacks c l) → (x ≡ c → ⊥) × Lacks c l
    go true p true f rest = let b = leb-true 32 x p in (λ q. absurd (omega arith), rest f)
    go true p false f rest = let z : ◌≡◌ {A = ℕ} 0 1 = cc in absurd (omega arith)
    go false p t f rest = let z : ◌≡◌ {A = ℕ} 0 1 = cc in absurd (omega arith)

-- ---- lines

pub no_lines : lines_of [] ≡ []
unfolding as_lines
no_lines = ap as_lines (split_empty 10)

-- Printable bytes and a newline, in front of other lines.
pub next_line : (p rest : List ℕ) → printable p ≡ true → lines_of (p ++ (10 ∷ rest)) ≡ record { bytes = p; newline = true } ∷ lines_of rest
unfolding as_lines
next_line p rest e =
    let r = split_some 10 rest in
    ap as_lines (split_first 10 p rest (printable_lacks 10 p (omega arith) e) ∙ ap (λ (ps : List (List ℕ)). p ∷ ps) r.2)
    ∙ ap (λ (ps : List (List ℕ)). record { bytes = p; newline = true } ∷ as_lines ps) (sym r.2)

-- The same of a line of printable fields.
pub lines_from : (fs : List (List ℕ)) (rest : List ℕ) → AllPrintable fs
    → lines_of (line_from fs ++ rest) ≡ record { bytes = joined 32 fs; newline = true } ∷ lines_of rest
lines_from fs rest f = ap lines_of (append_snoc (joined 32 fs) 10 rest) ∙ next_line (joined 32 fs) rest (printable_joined fs f)
