-- A line of a text by its number: where it stands; and what makes it not whole, before its fields.
-- Assumes nothing.
use mathlib.Core.Path.{◌≡◌, refl, sym, ap, ◌∙◌}
use mathlib.Core.Bool.{Bool, true, false, cond, ◌&&◌}
use mathlib.Core.List.{List, [], ◌∷◌, map}
use Prim.Native.Nat.{ℕ, zero, suc, ◌+◌, ◌-◌, ◌≤◌, ◌<◌}
use native.Mathlib.Omega.{arith}
use borrow.Author.Tests.{le-leb, lt-leb, lt-ltb, le-ltb, ltb-true, ltb-false, not-true, not-false}
use lib.Dec.{leb, ltb}
use lib.ListN.{length, get_or, take, drop, length-append, length-drop, drop_of_length-le}
use lib.Seq.{length-take-le, take_all, drop-drop}
use Rattle.lists.proofs.Parts.{rest_part}
use Rattle.lists.specs.Leftmost.{leftmost}
use Rattle.lists.proofs.LeftmostLaws.{leftmost_passes, leftmost_first, clash}
use Rattle.text.specs.Split.{split, joined, first_part}
use Rattle.text.specs.Lines.{TextLine, as_lines, printable_byte, printable, whole}
use Rattle.text.proofs.SplitLaws.{joined_split, split_empty, split_some, Cut, uncut, cut, cut_of}
use Rattle.fields.specs.Fields.{part_start, field_of}
use Rattle.std.specs.Prelude.{Option, Some, None, Result, Ok, Err}
use Rattle.fields.proofs.FieldLaws.{Selects, field_selects, field_missing}
use Rattle.fields.proofs.PlaceLaws.{start_none, start_next}
use Rattle.line_places.specs.Place.{as_place, unprintable_at, unprintable_place, broken_at, ranked_at, line_at, ended_line, as_whole, found_line, lines_bytes}

-- ---- the parts of a text at newlines are its lines

as_bytes : (ps : List (List ℕ)) (i : ℕ) → (get_or (as_lines ps) i (record { bytes = []; newline = false })).bytes ≡ get_or ps i []
unfolding as_lines
as_bytes [] i = refl
as_bytes ([] ∷ []) zero = refl
as_bytes ([] ∷ []) (suc i) = refl
as_bytes ((x ∷ xs) ∷ []) zero = refl
as_bytes ((x ∷ xs) ∷ []) (suc i) = refl
as_bytes (p ∷ (q ∷ ps)) zero = refl
as_bytes (p ∷ (q ∷ ps)) (suc i) = as_bytes (q ∷ ps) i

as_newline : (ps : List (List ℕ)) (i : ℕ) → (get_or (as_lines ps) i (record { bytes = []; newline = false })).newline ≡ ltb (suc i) (length ps)
unfolding as_lines
as_newline [] i = sym (le-ltb (suc i) 0 (omega arith))
as_newline ([] ∷ []) zero = sym (le-ltb 1 1 (omega arith))
as_newline ([] ∷ []) (suc i) = sym (le-ltb (suc (suc i)) 1 (omega arith))
as_newline ((x ∷ xs) ∷ []) zero = sym (le-ltb 1 1 (omega arith))
as_newline ((x ∷ xs) ∷ []) (suc i) = sym (le-ltb (suc (suc i)) 1 (omega arith))
as_newline (p ∷ (q ∷ ps)) zero = sym (lt-ltb 1 (suc (suc (length ps))) (omega arith))
as_newline (p ∷ (q ∷ ps)) (suc i) = as_newline (q ∷ ps) i ∙ same (ltb (suc i) (suc (length ps))) refl
  where
    same : (t : Bool) → ltb (suc i) (suc (length ps)) ≡ t → t ≡ ltb (suc (suc i)) (suc (suc (length ps)))
    same true e = let h = ltb-true (suc i) (suc (length ps)) e in sym (lt-ltb (suc (suc i)) (suc (suc (length ps))) (omega arith))
    same false e = let h = ltb-false (suc i) (suc (length ps)) e in sym (le-ltb (suc (suc i)) (suc (suc (length ps))) (omega arith))

pub line_bytes : (text : List ℕ) (n : ℕ) → (line_at text n).bytes ≡ get_or (split 10 text) (n - 1) []
line_bytes text n = as_bytes (split 10 text) (n - 1)

-- ---- a part ends before the end of the whole just where another follows

joined_size : (b : ℕ) (p q : List ℕ) (ps : List (List ℕ)) → length (joined b (p ∷ (q ∷ ps))) ≡ length p + suc (length (joined b (q ∷ ps)))
unfolding joined
joined_size b p q ps = length-append p (b ∷ joined b (q ∷ ps))

joined_one : (b : ℕ) (p : List ℕ) → joined b (p ∷ []) ≡ p
unfolding joined
joined_one b p = refl

part_last : (b : ℕ) (ps : List (List ℕ)) (i : ℕ) → suc i ≡ length ps → part_start ps i + length (get_or ps i []) ≡ length (joined b ps)
part_last b [] i h = absurd (omega arith)
part_last b (p ∷ []) zero h = let z = start_none (p ∷ []) in let e = ap length (joined_one b p) in omega arith
part_last b (p ∷ []) (suc i) h = absurd (omega arith)
part_last b (p ∷ (q ∷ ps)) zero h = absurd (omega arith)
part_last b (p ∷ (q ∷ ps)) (suc i) h =
    let k = part_last b (q ∷ ps) i (omega arith) in
    let z = start_next p (q ∷ ps) i in
    let e = joined_size b p q ps in
    omega arith

part_before : (b : ℕ) (ps : List (List ℕ)) (i : ℕ) → suc i < length ps → part_start ps i + length (get_or ps i []) < length (joined b ps)
part_before b [] i h = absurd (omega arith)
part_before b (p ∷ []) i h = absurd (omega arith)
part_before b (p ∷ (q ∷ ps)) zero h = let z = start_none (p ∷ (q ∷ ps)) in let e = joined_size b p q ps in omega arith
part_before b (p ∷ (q ∷ ps)) (suc i) h =
    let k = part_before b (q ∷ ps) i (omega arith) in
    let z = start_next p (q ∷ ps) i in
    let e = joined_size b p q ps in
    omega arith

-- ---- the answer of `find_line`

module _ (text : List ℕ) (n i : ℕ) (index : i ≡ n - 1) (r : Option (ℕ × ℕ)) (given : r ≡ field_of 10 text i) where
  newline_is : (line_at text n).newline ≡ ltb (suc i) (length (split 10 text))
  newline_is = as_newline (split 10 text) (n - 1) ∙ ap (λ (k : ℕ). ltb (suc k) (length (split 10 text))) (sym index)

  pub line_missing : r ≡ None → None ≡ ended_line text n
  unfolding ended_line
  line_missing p =
      let h = field_missing 10 text i (sym given ∙ p) in
      sym (rw (newline_is ∙ le-ltb (suc i) (length (split 10 text)) (omega arith)) refl)

  module _ (x y : ℕ) (p : r ≡ Some (x, y)) where
    ends_at : y ≡ part_start (split 10 text) i + length (get_or (split 10 text) i [])
    ends_at = go (ltb i (length (split 10 text))) refl (sym p ∙ given)
      where
        go : (t : Bool) → ltb i (length (split 10 text)) ≡ t
            → Some (x, y) ≡ cond {A = Option (ℕ × ℕ)} t (Some (part_start (split 10 text) i, part_start (split 10 text) i + length (get_or (split 10 text) i []))) None
            → y ≡ part_start (split 10 text) i + length (get_or (split 10 text) i [])
        go true e q =
            let z : ◌≡◌ {A = ℕ × ℕ} (x, y) (part_start (split 10 text) i, part_start (split 10 text) i + length (get_or (split 10 text) i [])) = cc in
            ap (λ (k : ℕ × ℕ). k.1) z
        go false e q = let z : ◌≡◌ {A = ℕ} 0 1 = cc in absurd (omega arith)

    pub line_ended : y < length text → Some (x, y) ≡ ended_line text n
    unfolding ended_line
    line_ended h = go (ltb (suc i) (length (split 10 text))) refl
      where
        go : (t : Bool) → ltb (suc i) (length (split 10 text)) ≡ t → Some (x, y) ≡ cond (line_at text n).newline (field_of 10 text (n - 1)) None
        go true e = sym p ∙ given ∙ ap (field_of 10 text) index ∙ sym (rw (newline_is ∙ e) refl)
        go false e =
            let k = ltb-false (suc i) (length (split 10 text)) e in
            let c = (field_selects 10 text i x y (sym given ∙ p)).counted in
            let z = part_last 10 (split 10 text) i (omega arith) in
            let s = ap length (joined_split 10 text) in
            let w = ends_at in
            absurd (omega arith)

    pub line_unended : length text ≤ y → None ≡ ended_line text n
    unfolding ended_line
    line_unended h = go (ltb (suc i) (length (split 10 text))) refl
      where
        go : (t : Bool) → ltb (suc i) (length (split 10 text)) ≡ t → None ≡ cond (line_at text n).newline (field_of 10 text (n - 1)) None
        go true e =
            let k = ltb-true (suc i) (length (split 10 text)) e in
            let z = part_before 10 (split 10 text) i k in
            let s = ap length (joined_split 10 text) in
            let w = ends_at in
            absurd (omega arith)
        go false e = sym (rw (newline_is ∙ e) refl)

pub ruleset find_kit = (line_missing, line_ended, line_unended)

-- ---- what it tells of the line

module _ (text : List ℕ) (n : ℕ) (r : Option (ℕ × ℕ)) (given : r ≡ ended_line text n) where
  pub lacks_newline : r ≡ None → (line_at text n).newline ≡ false
  unfolding ended_line
  lacks_newline p = go (line_at text n).newline refl (sym p ∙ given)
    where
      go : (t : Bool) → (line_at text n).newline ≡ t → None ≡ cond t (field_of 10 text (n - 1)) None → (line_at text n).newline ≡ false
      go true e q = missing (as_newline (split 10 text) (n - 1)) e q
        where
          missing : (line_at text n).newline ≡ ltb (suc (n - 1)) (length (split 10 text)) → (line_at text n).newline ≡ true → None ≡ field_of 10 text (n - 1)
              → (line_at text n).newline ≡ false
          missing a b c =
              let h = field_missing 10 text (n - 1) (sym c) in
              a ∙ le-ltb (suc (n - 1)) (length (split 10 text)) (omega arith)
      go false e q = e

  module _ (x y : ℕ) (p : r ≡ Some (x, y)) where
    has : ((line_at text n).newline ≡ true) × Selects 10 text (n - 1) x y
    unfolding ended_line
    has = go (line_at text n).newline refl (sym p ∙ given)
      where
        go : (t : Bool) → (line_at text n).newline ≡ t → Some (x, y) ≡ cond t (field_of 10 text (n - 1)) None
            → ((line_at text n).newline ≡ true) × Selects 10 text (n - 1) x y
        go true e q = (e, field_selects 10 text (n - 1) x y (sym q))
        go false e q = let z : ◌≡◌ {A = ℕ} 0 1 = cc in absurd (omega arith)

    pub line_ordered : x ≤ y
    line_ordered = has.1.ordered

    pub line_inside : y ≤ length text
    line_inside = has.1.inside

    pub line_is : line_at text n ≡ record { bytes = take (y - x) (drop x text); newline = true }
    line_is = made (line_at text n) (as_bytes (split 10 text) (n - 1) ∙ sym has.1.bytes) has.0
      where
        made : (l : TextLine) → l.bytes ≡ take (y - x) (drop x text) → l.newline ≡ true → l ≡ record { bytes = take (y - x) (drop x text); newline = true }
        made l e f = rw (sym e, sym f) refl

-- ---- whole or not

printable_clean : (bs : List ℕ) → ((i : ℕ) → i < length bs → printable_byte (get_or bs i 0) ≡ true) → printable bs ≡ true
unfolding printable
printable_clean [] f = refl
printable_clean (b ∷ bs) f = rw (f 0 (omega arith)) (printable_clean bs (λ i h. f (suc i) (omega arith)))

printable_each : (bs : List ℕ) (i : ℕ) → i < length bs → printable bs ≡ true → printable_byte (get_or bs i 0) ≡ true
unfolding printable
printable_each [] i h e = absurd (omega arith)
printable_each (b ∷ bs) zero h e = go (printable_byte b) refl e
  where
    go : (t : Bool) → printable_byte b ≡ t → (t && printable bs) ≡ true → printable_byte b ≡ true
    go true p q = p
    go false p q = let z : ◌≡◌ {A = ℕ} 0 1 = cc in absurd (omega arith)
printable_each (b ∷ bs) (suc i) h e = printable_each bs i (omega arith) (go (printable_byte b) e)
  where
    go : (t : Bool) → (t && printable bs) ≡ true → printable bs ≡ true
    go true q = q
    go false q = let z : ◌≡◌ {A = ℕ} 0 1 = cc in absurd (omega arith)

module _ (bs : List ℕ) where
  abbrev first : ℕ
  first = leftmost (unprintable_at bs) (length bs)

  -- No place is at fault just where all bytes are 32 to 126.
  pub place_printable : unprintable_place bs ≡ 0 → printable bs ≡ true
  unfolding unprintable_place
  place_printable e = go (ltb first (length bs)) refl e
    where
      go : (t : Bool) → ltb first (length bs) ≡ t → cond t (suc first) 0 ≡ 0 → printable bs ≡ true
      go true p q = absurd (omega arith)
      go false p q =
          let h = ltb-false first (length bs) p in
          printable_clean bs (λ i l. not-false (printable_byte (get_or bs i 0)) (leftmost_first (unprintable_at bs) (length bs) i (omega arith)))

  pub place_unprintable : 0 < unprintable_place bs → printable bs ≡ false
  unfolding unprintable_place
  place_unprintable h = go (ltb first (length bs)) refl h (printable bs) refl
    where
      go : (t : Bool) → ltb first (length bs) ≡ t → 0 < cond t (suc first) 0 → (u : Bool) → printable bs ≡ u → printable bs ≡ false
      go true p q true e =
          let l = ltb-true first (length bs) p in
          clash (printable_byte (get_or bs first 0)) (printable_each bs first l e) (not-true (printable_byte (get_or bs first 0)) (leftmost_passes (unprintable_at bs) (length bs) l))
      go true p q false e = e
      go false p q u e = absurd (omega arith)

  pub unprintable_most : unprintable_place bs ≤ length bs
  unfolding unprintable_place
  unprintable_most = go (ltb first (length bs)) refl
    where
      go : (t : Bool) → ltb first (length bs) ≡ t → cond t (suc first) 0 ≤ length bs
      go true p = let l = ltb-true first (length bs) p in omega arith
      go false p = omega arith

bad_place : (q i : ℕ) → Some i ≡ as_place q → 0 < q
unfolding as_place
bad_place zero i e = let z : ◌≡◌ {A = ℕ} 0 1 = cc in absurd (omega arith)
bad_place (suc q) i e = omega arith

no_place : (q : ℕ) → None ≡ as_place q → q ≡ 0
unfolding as_place
no_place zero e = refl
no_place (suc q) e = let z : ◌≡◌ {A = ℕ} 0 1 = cc in absurd (omega arith)

module _ (most : ℕ) (text : List ℕ) (n : ℕ) (r : Option (ℕ × ℕ)) (given : r ≡ ended_line text n) where
  pub found_missing : r ≡ None → Err None ≡ found_line most text n
  unfolding found_line as_place
  found_missing p =
      let e = lacks_newline text n r given p in
      sym (rw e (same (leb (length (line_at text n).bytes) most)))
    where
      same : (t : Bool) → cond (t && (false && printable (line_at text n).bytes)) (as_whole (ended_line text n)) (Err (as_place (cond (t && false) (unprintable_place (line_at text n).bytes) 0))) ≡ Err None
      same true = refl
      same false = refl

  module _ (x y : ℕ) (p : r ≡ Some (x, y)) where
    bs : List ℕ
    bs = take (y - x) (drop x text)

    size : length (take (y - x) (drop x text)) ≡ y - x
    size =
        let a = line_ordered text n r given x y p in
        let b = line_inside text n r given x y p in
        let d = length-drop x text in
        length-take-le (y - x) (drop x text) (omega arith)

    pub found_long : most < y - x → Err None ≡ found_line most text n
    unfolding found_line as_place
    found_long h =
        let s = size in
        sym (rw (line_is text n r given x y p) (simp (lt-leb (length (take (y - x) (drop x text))) most (omega arith))))

    module _ (q : Option ℕ) (found : q ≡ as_place (unprintable_place (take (y - x) (drop x text)))) (h : y - x ≤ most) where
      short : leb (length (take (y - x) (drop x text))) most ≡ true
      short = let s = size in le-leb (length (take (y - x) (drop x text))) most (omega arith)

      pub found_unprintable : (i : ℕ) → q ≡ Some i → Err (Some i) ≡ found_line most text n
      unfolding found_line
      found_unprintable i k =
          ap Err (sym k ∙ found)
          ∙ sym (rw (line_is text n r given x y p) (simp (short, place_unprintable (take (y - x) (drop x text)) (bad_place (unprintable_place (take (y - x) (drop x text))) i (sym k ∙ found)))))

      pub found_whole : q ≡ None → Ok (x, y) ≡ found_line most text n
      unfolding found_line
      found_whole k =
          ap as_whole (sym p ∙ given)
          ∙ sym (rw (line_is text n r given x y p) (simp (short, place_printable (take (y - x) (drop x text)) (no_place (unprintable_place (take (y - x) (drop x text))) (sym k ∙ found)))))

pub ruleset inspect_kit = (line_ordered, line_inside, found_missing, found_long, found_unprintable, found_whole)

-- ---- what the answer of `inspect_line` tells

module _ (most : ℕ) (text : List ℕ) (n : ℕ) (r : Result (ℕ × ℕ) (Option ℕ)) (given : r ≡ found_line most text n) where
  pub ranked_broken : (p : Option ℕ) (in_fields : ℕ) → r ≡ Err p → p ≡ as_place (ranked_at most (line_at text n) in_fields)
  unfolding found_line ranked_at
  ranked_broken p in_fields q = go (whole most (line_at text n)) refl (line_at text n).newline refl (sym q ∙ given)
    where
      none : ended_line text n ≡ None → (line_at text n).newline ≡ true → p ≡ as_place in_fields
      none e f = clash (line_at text n).newline f (lacks_newline text n None (sym e) refl)

      asked : (x : Option (ℕ × ℕ)) → ended_line text n ≡ x → whole most (line_at text n) ≡ true → Err p ≡ as_whole x → p ≡ as_place in_fields
      asked (Some (x, y)) e w z = let k : ◌≡◌ {A = ℕ} 0 1 = cc in absurd (omega arith)
      asked None e w z = none e (newline_of (leb (length (line_at text n).bytes) most) (line_at text n).newline (printable (line_at text n).bytes) w)
        where
          newline_of : (a b c : Bool) → (a && (b && c)) ≡ true → b ≡ true
          newline_of true true c w = refl
          newline_of true false c w = w
          newline_of false true c w = refl
          newline_of false false c w = w

      go : (t : Bool) → whole most (line_at text n) ≡ t → (u : Bool) → (line_at text n).newline ≡ u
          → Err p ≡ cond t (as_whole (ended_line text n)) (Err (as_place (broken_at most (line_at text n))))
          → p ≡ as_place (cond (whole most (line_at text n)) in_fields (broken_at most (line_at text n)))
      go true e u f z = rw e (asked (ended_line text n) refl e z)
      go false e u f z = let k : p ≡ as_place (broken_at most (line_at text n)) = cc in rw e k

  module _ (x y : ℕ) (q : r ≡ Ok (x, y)) where
    whole_passes : (whole most (line_at text n) ≡ true) × (ended_line text n ≡ Some (x, y))
    unfolding found_line
    whole_passes = go (whole most (line_at text n)) refl (ended_line text n) refl (sym q ∙ given)
      where
        go : (t : Bool) → whole most (line_at text n) ≡ t → (f : Option (ℕ × ℕ)) → ended_line text n ≡ f
            → Ok (x, y) ≡ cond t (as_whole f) (Err (as_place (broken_at most (line_at text n))))
            → (whole most (line_at text n) ≡ true) × (ended_line text n ≡ Some (x, y))
        go true e (Some (a, b)) f z = let k : ◌≡◌ {A = ℕ × ℕ} (a, b) (x, y) = cc in (e, f ∙ rw k refl)
        go true e None f z = let k : ◌≡◌ {A = ℕ} 0 1 = cc in absurd (omega arith)
        go false e f g z = let k : ◌≡◌ {A = ℕ} 0 1 = cc in absurd (omega arith)

    pub whole_ordered : x ≤ y
    whole_ordered = line_ordered text n (Some (x, y)) (sym whole_passes.1) x y refl

    pub whole_inside : y ≤ length text
    whole_inside = line_inside text n (Some (x, y)) (sym whole_passes.1) x y refl

    pub whole_line : line_at text n ≡ record { bytes = take (y - x) (drop x text); newline = true }
    whole_line = line_is text n (Some (x, y)) (sym whole_passes.1) x y refl

    pub whole_bytes : (line_at text n).bytes ≡ take (y - x) (drop x text)
    whole_bytes = ap (λ (l : TextLine). l.bytes) whole_line

    -- v is what the fields of the line, as it is lent, come to
    pub ranked_whole : (f : List ℕ → ℕ) (v : Option ℕ) → v ≡ as_place (f (take (y - x) (drop x text)))
        → v ≡ as_place (ranked_at most (line_at text n) (f (line_at text n).bytes))
    unfolding ranked_at
    ranked_whole f v e = e ∙ ap (λ (l : List ℕ). as_place (f l)) (sym whole_bytes) ∙ sym (rw whole_passes.0 refl)

-- ---- the lines of what is left of a text, one after the other

bytes_empty : lines_bytes [] ≡ []
unfolding lines_bytes as_lines
bytes_empty = ap (λ (ps : List (List ℕ)). map (λ l. l.bytes) (as_lines ps)) (split_empty 10)

bytes_one : (m : List ℕ) → 0 < length m → split 10 m ≡ m ∷ [] → lines_bytes m ≡ m ∷ []
unfolding lines_bytes as_lines
bytes_one [] h s = absurd (omega arith)
bytes_one (x ∷ xs) h s = ap (λ (ps : List (List ℕ)). map (λ l. l.bytes) (as_lines ps)) s

bytes_more : (m p rest : List ℕ) → split 10 m ≡ p ∷ split 10 rest → lines_bytes m ≡ p ∷ lines_bytes rest
unfolding lines_bytes as_lines
bytes_more m p rest s =
    let r = split_some 10 rest in
    ap (λ (ps : List (List ℕ)). map (λ l. l.bytes) (as_lines ps)) (s ∙ ap (λ (ps : List (List ℕ)). p ∷ ps) r.2)
    ∙ ap (λ (ls : List (List ℕ)). p ∷ ls) (sym (ap (λ (ps : List (List ℕ)). map (λ l. l.bytes) (as_lines ps)) r.2))

pub bytes_none : (text : List ℕ) (at : ℕ) → length text ≤ at → lines_bytes (drop at text) ≡ []
bytes_none text at h = ap lines_bytes (drop_of_length-le text h) ∙ bytes_empty

module _ (text : List ℕ) (at n : ℕ) (given : n ≡ length (first_part 10 (take (length text - at) (drop at text)))) where
  part_size : n ≡ length (first_part 10 (drop at text))
  part_size = given ∙ ap (λ (m : List ℕ). length (first_part 10 m)) (rest_part text at)

  pub bytes_step : at < length text → lines_bytes (drop at text) ≡ take (at + n - at) (drop at text) ∷ lines_bytes (drop (at + n + 1) text)
  bytes_step h = go (cut_of 10 (drop at text))
    where
      e : at + n - at ≡ n
      e = omega arith

      go : Cut 10 (drop at text) → lines_bytes (drop at text) ≡ take (at + n - at) (drop at text) ∷ lines_bytes (drop (at + n + 1) text)
      go (uncut f s) =
          let d = length-drop at text in
          let z : n ≡ length (drop at text) = part_size ∙ ap length f in
          bytes_one (drop at text) (omega arith) s
          ∙ sym (rw (e, take_all n (drop at text) (omega arith), bytes_none text (at + n + 1) (omega arith)) refl)
      go (cut k l f s) =
          let z : n ≡ k = part_size ∙ ap length f ∙ length-take-le k (drop at text) (omega arith) in
          let w : at + suc k ≡ at + n + 1 = omega arith in
          bytes_more (drop at text) (take k (drop at text)) (drop (suc k) (drop at text)) s
          ∙ rw (e, z) (ap (λ (m : List ℕ). take k (drop at text) ∷ lines_bytes m) (drop-drop (suc k) at text ∙ ap (λ (j : ℕ). drop j text) (let q : at + suc k ≡ at + k + 1 = omega arith in q)))
