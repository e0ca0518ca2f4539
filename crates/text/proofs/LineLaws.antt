-- The first line of a text, as the loops find it, and the lines of a text one after the other.
-- Assumes nothing.
use mathlib.Core.Path.{◌≡◌, refl, sym, ap, ◌∙◌}
use mathlib.Core.Bool.{Bool, true, false, cond, ◌&&◌}
use mathlib.Core.List.{List, [], ◌∷◌, ◌++◌}
use Prim.Native.Nat.{ℕ, suc, ◌+◌, ◌≤◌, ◌<◌}
use native.Mathlib.Omega.{arith}
use native.Mathlib.Nat.{zero-add}
use native.Mathlib.Numerals.{add-one}
use borrow.Author.Tests.{le-leb, lt-ltb, le-ltb}
use lib.Dec.{ltb}
use lib.ListN.{length, get_or, take, drop, drop_of_length-le}
use lib.Seq.{length-take-le, take-suc}
use Rattle.text.specs.Split.{prepend, split}
use Rattle.text.specs.Lines.{TextLine, last_line, as_lines, lines_of, printable_byte, printable, head_line, first_line, line_of, ended}
use Rattle.std.specs.Prelude.{Result, Ok, Err}
use Rattle.text.specs.declared.lines.LineFault.{LineFault}
use Rattle.text.specs.declared.lines.LineFault.TheVariants.{Long, Unended, Unprintable}
use Rattle.lists.proofs.Parts.{drop_step}
use Rattle.text.proofs.SplitLaws.{split_at, split_on, split_empty, split_some, Cut, uncut, cut, cut_of}

-- ---- the first line, byte by byte

line_empty : first_line [] ≡ record { bytes = []; newline = false }
line_empty = ap head_line (split_empty 10)

line_ends : (x : ℕ) (xs : List ℕ) → x ≡ 10 → first_line (x ∷ xs) ≡ record { bytes = []; newline = true }
line_ends x xs e = let s = split_some 10 xs in ap head_line (split_at 10 x xs e ∙ ap (λ (ps : List (List ℕ)). [] ∷ ps) s.2)

line_goes : (x : ℕ) (xs : List ℕ) → (x ≡ 10 → ⊥) → first_line (x ∷ xs) ≡ record { bytes = x ∷ (first_line xs).bytes; newline = (first_line xs).newline }
line_goes x xs n = go (split 10 xs) refl (split_some 10 xs).2
  where
    go : (ps : List (List ℕ)) → split 10 xs ≡ ps → split 10 xs ≡ (split_some 10 xs).0 ∷ (split_some 10 xs).1
        → first_line (x ∷ xs) ≡ record { bytes = x ∷ (head_line (split 10 xs)).bytes; newline = (head_line (split 10 xs)).newline }
    go [] e s = let z : ◌≡◌ {A = ℕ} 0 1 = cc in absurd (omega arith)
    go (p ∷ []) e s = ap head_line (split_on 10 x xs n ∙ ap (prepend x) e) ∙ rw e
    go (p ∷ (q ∷ ps)) e s = ap head_line (split_on 10 x xs n ∙ ap (prepend x) e) ∙ rw e

-- Where a line ends of which i bytes, none a newline, are passed, and m is left of the text.
pub end_from : ℕ → ℕ → List ℕ → Result ℕ LineFault
end_from most i m =
    cond (ltb most (i + length (first_line m).bytes)) (Err Long) (cond (first_line m).newline (Ok (i + length (first_line m).bytes)) (Err Unended))

pub end_none : (most : ℕ) (l : List ℕ) → ended most l ≡ end_from most 0 (drop 0 l)
unfolding end_from
end_none most l = rw zero-add

module _ (most : ℕ) (l : List ℕ) (i : ℕ) (low : i ≤ most) (inv : ended most l ≡ end_from most i (drop i l)) where
  pub end_found : i < length l → get_or l i 0 ≡ 10 → Ok i ≡ ended most l
  unfolding end_from
  end_found h e =
      let q = ap first_line (drop_step l i h) ∙ line_ends (get_or l i 0) _ e in
      let z : i + 0 ≡ i = omega arith in
      sym (inv ∙ rw (q, z) (simp (le-ltb most i low)))

  pub end_over : i < length l → (get_or l i 0 ≡ 10 → ⊥) → i ≡ most → Err Long ≡ ended most l
  unfolding end_from
  end_over h n e =
      let q = ap first_line (drop_step l i h) ∙ line_goes (get_or l i 0) _ n in
      sym (inv ∙ rw q (simp (lt-ltb most (i + suc (length (first_line (drop (i + 1) l)).bytes)) (omega arith))))

  pub end_more : i < length l → (get_or l i 0 ≡ 10 → ⊥) → ended most l ≡ end_from most (i + 1) (drop (i + 1) l)
  unfolding end_from
  end_more h n =
      let q = ap first_line (drop_step l i h) ∙ line_goes (get_or l i 0) _ n in
      let z : i + suc (length (first_line (drop (i + 1) l)).bytes) ≡ i + 1 + length (first_line (drop (i + 1) l)).bytes = omega arith in
      inv ∙ rw (q, z)

  pub end_missing : length l ≤ i → Err Unended ≡ ended most l
  unfolding end_from
  end_missing h =
      let q = ap first_line (drop_of_length-le l h) ∙ line_empty in
      let z : i + 0 ≡ i = omega arith in
      sym (inv ∙ rw (q, z) (simp (le-ltb most i low)))

pub ruleset end_kit = (end_none, end_found, end_over, end_more, end_missing)

-- ---- only bytes 32 to 126

printable_step : (x : ℕ) (xs : List ℕ) → 32 ≤ x → x ≤ 126 → printable (x ∷ xs) ≡ printable xs
unfolding printable
printable_step x xs h k = simp (le-leb 32 x h, le-leb x 126 k)

printable_nil : printable [] ≡ true
unfolding printable
printable_nil = refl

-- ---- the first line and the lines after it

-- A text's first line is what stands before its first newline, if it has one.
pub data Lead (m : List ℕ) : Type 0 where
  unended : first_line m ≡ record { bytes = m; newline = false } → lines_of m ≡ last_line m → Lead m
  ends : (n : ℕ) → n < length m → first_line m ≡ record { bytes = take n m; newline = true }
      → lines_of m ≡ record { bytes = take n m; newline = true } ∷ lines_of (drop (n + 1) m) → Lead m

as_next : (p q : List ℕ) (ps : List (List ℕ)) → as_lines (p ∷ (q ∷ ps)) ≡ record { bytes = p; newline = true } ∷ as_lines (q ∷ ps)
unfolding as_lines
as_next p q ps = refl

as_last : (p : List ℕ) → as_lines (p ∷ []) ≡ last_line p
unfolding as_lines
as_last p = refl

pub lead_of : (m : List ℕ) → Lead m
lead_of m = go (cut_of 10 m)
  where
    go : Cut 10 m → Lead m
    go (uncut f s) = unended (ap head_line s) (ap as_lines s ∙ as_last m)
    go (cut n h f s) =
        let r = split_some 10 (drop (suc n) m) in
        let t : split 10 m ≡ take n m ∷ (r.0 ∷ r.1) = s ∙ ap (λ (ps : List (List ℕ)). take n m ∷ ps) r.2 in
        ends n h (ap head_line t) (ap as_lines t ∙ as_next (take n m) r.0 r.1
        ∙ ap (λ (ls : List TextLine). record { bytes = take n m; newline = true } ∷ ls) (sym (ap as_lines r.2) ∙ ap lines_of (ap (λ (k : ℕ). drop k m) (sym (add-one n)))))

-- ---- the answers of `find_end`, put together with the bytes

module _ (most : ℕ) (l : List ℕ) (r : Result ℕ LineFault) (d : r ≡ ended most l) where
  pub line_cut : (f : LineFault) → r ≡ Err f → Err f ≡ line_of most l
  line_cut f p = go (ltb most (length (first_line l).bytes)) refl (first_line l).newline refl (sym p ∙ d)
    where
      go : (t : Bool) → ltb most (length (first_line l).bytes) ≡ t → (u : Bool) → (first_line l).newline ≡ u → Err f ≡ ended most l → Err f ≡ line_of most l
      go true e u g q = q ∙ rw e refl
      go false e true g q = let z : Err f ≡ Ok (length (first_line l).bytes) = q ∙ rw (e, g) in let y : ◌≡◌ {A = ℕ} 0 1 = cc in absurd (omega arith)
      go false e false g q = q ∙ rw (e, g) refl

  module _ (n : ℕ) (p : r ≡ Ok n) where
    -- the line ends at n: it has a newline, n bytes before it, and no more than allowed
    found : (ltb most (length (first_line l).bytes) ≡ false) × ((first_line l).newline ≡ true) × (n ≡ length (first_line l).bytes)
    found = go (ltb most (length (first_line l).bytes)) refl (first_line l).newline refl (sym p ∙ d)
      where
        go : (t : Bool) → ltb most (length (first_line l).bytes) ≡ t → (u : Bool) → (first_line l).newline ≡ u → Ok n ≡ ended most l
            → (ltb most (length (first_line l).bytes) ≡ false) × ((first_line l).newline ≡ true) × (n ≡ length (first_line l).bytes)
        go true e u f q = let z : Ok n ≡ Err Long = q ∙ rw e in let y : ◌≡◌ {A = ℕ} 0 1 = cc in absurd (omega arith)
        go false e true f q = let z : ◌≡◌ {A = Result ℕ LineFault} (Ok n) (Ok (length (first_line l).bytes)) = q ∙ rw (e, f) in (e, f, cc)
        go false e false f q = let z : Ok n ≡ Err Unended = q ∙ rw (e, f) in let y : ◌≡◌ {A = ℕ} 0 1 = cc in absurd (omega arith)

    before : ((first_line l).bytes ≡ take n l) × (n < length l)
    before = go (lead_of l)
      where
        go : Lead l → ((first_line l).bytes ≡ take n l) × (n < length l)
        go (unended e s) = let z : ◌≡◌ {A = Bool} false true = sym (ap (λ (x : TextLine). x.newline) e) ∙ found.1 in let y : ◌≡◌ {A = ℕ} 0 1 = cc in absurd (omega arith)
        go (ends k h e s) =
            let b : (first_line l).bytes ≡ take k l = ap (λ (x : TextLine). x.bytes) e in
            let z : n ≡ k = found.2 ∙ ap length b ∙ length-take-le k l (omega arith) in
            (b ∙ ap (λ (j : ℕ). take j l) (sym z), omega arith)

    pub end_inside : n ≤ length l
    end_inside = let b = before.1 in omega arith

    pub end_counts : n ≡ length (take n l)
    end_counts = sym (length-take-le n l end_inside)

    pub line_whole : (t : Bool) → t ≡ printable (take n l) → t ≡ true → Ok n ≡ line_of most l
    line_whole t g e =
        let y : printable (first_line l).bytes ≡ true = ap printable before.0 ∙ sym g ∙ e in
        ap Ok found.2 ∙ sym (rw (found.0, found.1, y) refl)

    pub line_unprintable : (t : Bool) → t ≡ printable (take n l) → t ≡ false → Err Unprintable ≡ line_of most l
    line_unprintable t g e =
        let y : printable (first_line l).bytes ≡ false = ap printable before.0 ∙ sym g ∙ e in
        sym (rw (found.0, found.1, y) refl)

pub ruleset line_kit = (line_cut, end_inside, end_counts, line_whole, line_unprintable)

-- ---- a line without a fault, in one pass

printable_snoc : (xs : List ℕ) (x : ℕ) → printable xs ≡ true → 32 ≤ x → x ≤ 126 → printable (xs ++ (x ∷ [])) ≡ true
unfolding printable
printable_snoc [] x e h k = printable_step x [] h k ∙ printable_nil
printable_snoc (y ∷ ys) x e h k = go (printable_byte y) (printable ys) refl e (λ z. printable_snoc ys x z h k)
  where
    go : (s t : Bool) → printable ys ≡ t → (s && t) ≡ true → (printable ys ≡ true → printable (ys ++ (x ∷ [])) ≡ true) → (s && printable (ys ++ (x ∷ []))) ≡ true
    go true true p q rest = rest p
    go true false p q rest = let z : ◌≡◌ {A = ℕ} 0 1 = cc in absurd (omega arith)
    go false t p q rest = let z : ◌≡◌ {A = ℕ} 0 1 = cc in absurd (omega arith)

pub clean_none : (l : List ℕ) → printable (take 0 l) ≡ true
clean_none l = printable_nil

module _ (most : ℕ) (l : List ℕ) (i : ℕ) (low : i ≤ most) (inv : ended most l ≡ end_from most i (drop i l)) (clean : printable (take i l) ≡ true) where
  pub once_whole : i < length l → get_or l i 0 ≡ 10 → Ok i ≡ line_of most l
  once_whole h e = line_whole most l (Ok i) (end_found most l i low inv h e) i refl true (sym clean) refl

  pub once_long : i < length l → 32 ≤ get_or l i 0 → most ≤ i → Err Long ≡ line_of most l
  once_long h k m = line_cut most l (Err Long) (end_over most l i low inv h (λ z. omega arith) (omega arith)) Long refl

  pub once_more : i < length l → 32 ≤ get_or l i 0 → ended most l ≡ end_from most (i + 1) (drop (i + 1) l)
  once_more h k = end_more most l i low inv h (λ z. omega arith)

  pub once_clean : i < length l → 32 ≤ get_or l i 0 → get_or l i 0 ≤ 126 → printable (take (i + 1) l) ≡ true
  once_clean h k m = ap printable (ap (λ (j : ℕ). take j l) (add-one i) ∙ take-suc l i 0 h) ∙ printable_snoc (take i l) (get_or l i 0) clean k m

  pub once_unended : length l ≤ i → Err Unended ≡ line_of most l
  once_unended h = line_cut most l (Err Unended) (end_missing most l i low inv h) Unended refl

pub ruleset once_kit = (end_none, clean_none, once_whole, once_long, once_more, once_clean, once_unended)
