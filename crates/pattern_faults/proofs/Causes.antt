-- What is found at fault in a line's fields is a cause of that very refusal; and where no field is found, why the line is refused all the same.
-- For 11, 12, 13, 15 and 16, over any fields.
-- Assumes nothing.
use Prim.Native.Nat.{ℕ, zero, suc, ◌+◌, ◌-◌, ◌≤◌, ◌<◌}
use mathlib.Core.Path.{◌≡◌, refl, sym, ap, ◌∙◌, subst}
use mathlib.Core.Bool.{and-true, Bool, true, false, not, cond, ◌&&◌, ◌||◌}
use mathlib.Core.List.{List, [], ◌∷◌, ◌++◌, map}
use native.Mathlib.Omega.{arith}
use borrow.Author.Tests.{lt-ltb, le-ltb, le-leb, ltb-true, ltb-false, leb-true, eq-eqb, ne_eqb, eqb-true, eqb-false, not-true, not-false}
use lib.Dec.{eqb, ltb, leb}
use lib.ListN.{length, get_or, take, drop, length-drop}
use lib.Seq.{get_or-drop}
use Rattle.rules.specs.Rules.{is_rule, needs_one_next}
use Rattle.layout.specs.Layout.{most_labels, most_beads, most_states}
use Rattle.lists.proofs.LeftmostLaws.{clash}
use Rattle.sets.specs.Sets.{within, single}
use Rattle.fields.specs.Fields.{same_bytes}
use Rattle.numbers.specs.Numbers.{is_number, value_of}
use Rattle.numbers.specs.Listed.{are_numbers}
use Rattle.numbers.proofs.ListedLaws.{are_numbers_none, are_numbers_first}
use Rattle.line_places.specs.Place.{place_where}
use Rattle.line_places.proofs.FaultLaws.{no_field}
use Rattle.pattern_header.specs.Header.{columns, same_fields, is_name, are_names, among, distinct, is_header}
use Rattle.pattern_header.proofs.HeaderLaws.{columns_by_field}
use Rattle.pattern_order.specs.StateLine.{StateLine, follows_last, disordered, breaks_turns, misruled}
use Rattle.pattern_faults.specs.Before.{Last, none, last}
use Rattle.pattern_row.specs.Fields.{row_of, malformed}
use Rattle.pattern_store.specs.Next.{states_of, all_within, all_single, strays, ambiguous}
use Rattle.pattern_places.specs.Place.{labels_before, wrong_name, header_at, no_number, malformed_at, bead_wrong, state_wrong, stray_set, straying_at, ambiguous_set, ambiguous_at}

-- ---- tests

denied : (b : Bool) → (b ≡ true → ⊥) → b ≡ false
denied true f = absurd (f refl)
denied false f = refl

pub and_left : (a b : Bool) → (a && b) ≡ true → a ≡ true
and_left true b e = refl
and_left false b e = e

pub and_right : (a b : Bool) → (a && b) ≡ true → b ≡ true
and_right true b e = e
and_right false true e = refl
and_right false false e = e

pub or_left : (a b : Bool) → (a || b) ≡ false → a ≡ false
or_left true b e = e
or_left false b e = refl

pub or_right : (a b : Bool) → (a || b) ≡ false → b ≡ false
or_right true true e = e
or_right true false e = refl
or_right false b e = e

-- ---- a test of every element, index by index

module _ {X : Type 0} (d : X) (test : X → Bool) (every : List X → Bool) (none : every [] ≡ true)
    (first : (x : X) (xs : List X) → every (x ∷ xs) ≡ (test x && every xs)) where
  each : (l : List X) (i : ℕ) → i < length l → every l ≡ true → test (get_or l i d) ≡ true
  each [] i h e = absurd (omega arith)
  each (x ∷ xs) zero h e = and_left (test x) (every xs) (sym (first x xs) ∙ e)
  each (x ∷ xs) (suc i) h e = each xs i (omega arith) (and_right (test x) (every xs) (sym (first x xs) ∙ e))

  all : (l : List X) → ((i : ℕ) → i < length l → test (get_or l i d) ≡ true) → every l ≡ true
  all [] f = none
  all (x ∷ xs) f = first x xs ∙ rw (f 0 (omega arith)) (all xs (λ i h. f (suc i) (omega arith)))

-- ---- the fields after the first four

module _ (fs : List (List ℕ)) where
  behind : (j : ℕ) → get_or (drop 4 fs) j [] ≡ get_or fs (4 + j) []
  behind j = get_or-drop 4 fs j []

  behind_in : (j : ℕ) → j < length (drop 4 fs) → 4 + j < length fs
  behind_in j h = let e = length-drop 4 fs in omega arith

  from_front : (i : ℕ) → 4 ≤ i → get_or (drop 4 fs) (i - 4) [] ≡ get_or fs i []
  from_front i h = let e : 4 + (i - 4) ≡ i = omega arith in behind (i - 4) ∙ ap (λ (k : ℕ). get_or fs k []) e

  front_in : (i : ℕ) → 4 ≤ i → i < length fs → i - 4 < length (drop 4 fs)
  front_in i h k = let e = length-drop 4 fs in omega arith

-- ---- 12: names

eqb_turned : (a b : ℕ) → eqb a b ≡ eqb b a
eqb_turned a b = go (eqb a b) refl
  where
    go : (t : Bool) → eqb a b ≡ t → t ≡ eqb b a
    go true e = sym (eq-eqb b a (sym (eqb-true a b e)))
    go false e = sym (ne_eqb b a (λ k. eqb-false a b e (sym k)))

same_turned : (a b : List ℕ) → same_bytes a b ≡ same_bytes b a
same_turned [] [] = refl
same_turned [] (y ∷ ys) = refl
same_turned (x ∷ xs) [] = refl
same_turned (x ∷ xs) (y ∷ ys) = rw (eqb_turned x y, same_turned xs ys) refl

others_none : (p : List ℕ) → not (among p []) ≡ true
unfolding among
others_none p = refl

others_first : (p q : List ℕ) (qs : List (List ℕ)) → not (among p (q ∷ qs)) ≡ (not (same_bytes p q) && not (among p qs))
unfolding among
others_first p q qs = go (same_bytes p q)
  where
    go : (t : Bool) → not (t || among p qs) ≡ (not t && not (among p qs))
    go true = refl
    go false = refl

-- Of distinct fields none stands among those before it.
distinct_before : (ps : List (List ℕ)) (j : ℕ) → j < length ps → distinct ps ≡ true → among (get_or ps j []) (take j ps) ≡ false
unfolding distinct among
distinct_before [] j h e = absurd (omega arith)
distinct_before (p ∷ qs) zero h e = refl
distinct_before (p ∷ qs) (suc k) h e =
    let a = each [] (λ q. not (same_bytes p q)) (λ ls. not (among p ls)) (others_none p) (others_first p) qs k (omega arith) (and_left (not (among p qs)) (distinct qs) e) in
    rw (same_turned (get_or qs k []) p ∙ not-true (same_bytes p (get_or qs k [])) a)
    (distinct_before qs k (omega arith) (and_right (not (among p qs)) (distinct qs) e))

before_distinct : (ps : List (List ℕ)) → ((j : ℕ) → j < length ps → among (get_or ps j []) (take j ps) ≡ false) → distinct ps ≡ true
unfolding distinct among
before_distinct [] f = refl
before_distinct (p ∷ qs) f =
    rw (all [] (λ q. not (same_bytes p q)) (λ ls. not (among p ls)) (others_none p) (others_first p) qs other)
    (before_distinct qs (λ k h. or_right (same_bytes (get_or qs k []) p) (among (get_or qs k []) (take k qs)) (f (suc k) (omega arith))))
  where
    other : (k : ℕ) → k < length qs → not (same_bytes p (get_or qs k [])) ≡ true
    other k h = ap not (same_turned p (get_or qs k []) ∙ or_left (same_bytes (get_or qs k []) p) (among (get_or qs k []) (take k qs)) (f (suc k) (omega arith)))

names_none : are_names [] ≡ true
unfolding are_names
names_none = refl

names_first : (p : List ℕ) (ps : List (List ℕ)) → are_names (p ∷ ps) ≡ (is_name p && are_names ps)
unfolding are_names
names_first p ps = refl

each_column : (fs : List (List ℕ))
    → same_fields (take 4 fs) columns
    ≡ (same_bytes (get_or fs 0 []) (get_or columns 0 []) && (same_bytes (get_or fs 1 []) (get_or columns 1 [])
    && (same_bytes (get_or fs 2 []) (get_or columns 2 []) && same_bytes (get_or fs 3 []) (get_or columns 3 []))))
each_column fs =
    sym (columns_by_field fs)
    ∙ ap (λ (t : Bool). same_bytes (get_or fs 0 []) (get_or columns 0 []) && (same_bytes (get_or fs 1 []) (get_or columns 1 []) && (same_bytes (get_or fs 2 []) (get_or columns 2 []) && t)))
    (and-true (same_bytes (get_or fs 3 []) (get_or columns 3 [])))

module _ (fs : List (List ℕ)) where
  abbrev column_at : ℕ → Bool
  column_at i = same_bytes (get_or fs i []) (get_or columns i [])

  abbrev few : Bool
  few = leb (length (drop 4 fs)) most_labels

  abbrev named : Bool
  named = are_names (drop 4 fs) && distinct (drop 4 fs)

  column_right : same_fields (take 4 fs) columns ≡ true → (i : ℕ) → i < 4 → column_at i ≡ true
  column_right e i h = go i h (sym (each_column fs) ∙ e)
    where
      go : (i : ℕ) → i < 4 → (column_at 0 && (column_at 1 && (column_at 2 && column_at 3))) ≡ true → column_at i ≡ true
      go zero h q = and_left (column_at 0) (column_at 1 && (column_at 2 && column_at 3)) q
      go (suc zero) h q = and_left (column_at 1) (column_at 2 && column_at 3) (and_right (column_at 0) (column_at 1 && (column_at 2 && column_at 3)) q)
      go (suc (suc zero)) h q =
          and_left (column_at 2) (column_at 3) (and_right (column_at 1) (column_at 2 && column_at 3) (and_right (column_at 0) (column_at 1 && (column_at 2 && column_at 3)) q))
      go (suc (suc (suc zero))) h q =
          and_right (column_at 2) (column_at 3) (and_right (column_at 1) (column_at 2 && column_at 3) (and_right (column_at 0) (column_at 1 && (column_at 2 && column_at 3)) q))
      go (suc (suc (suc (suc i)))) h q = absurd (omega arith)

  columns_right : ((i : ℕ) → i < 4 → column_at i ≡ true) → same_fields (take 4 fs) columns ≡ true
  columns_right f = each_column fs ∙ rw (f 0 (omega arith), f 1 (omega arith), f 2 (omega arith), f 3 (omega arith)) refl

  -- In a header no name is wrong.
  header_names : is_header fs ≡ true → (i : ℕ) → i < length fs → wrong_name fs i ≡ false
  unfolding wrong_name
  header_names e i h = go (ltb i 4) refl
    where
      labels : (few && named) ≡ true
      labels =
          and_right (leb 1 (length (drop 4 fs))) (few && named)
          (and_right (same_fields (take 4 fs) columns) (leb 1 (length (drop 4 fs)) && (few && named)) e)

      go : (t : Bool) → ltb i 4 ≡ t
          → cond (ltb i 4) (not (column_at i)) (not (is_name (get_or fs i [])) || (among (get_or fs i []) (labels_before fs i) || not (ltb i (4 + most_labels)))) ≡ false
      go true p =
          rw (p, column_right (and_left (same_fields (take 4 fs) columns) (leb 1 (length (drop 4 fs)) && (few && named)) e) i (ltb-true i 4 p)) refl
      go false p =
          let low = ltb-false i 4 p in
          let many = leb-true (length (drop 4 fs)) most_labels (and_left few named labels) in
          let place = front_in fs i low h in
          let is = from_front fs i low in
          let name = each [] is_name are_names names_none names_first (drop 4 fs) (i - 4) place (and_left (are_names (drop 4 fs)) (distinct (drop 4 fs)) (and_right few named labels)) in
          let once = distinct_before (drop 4 fs) (i - 4) place (and_right (are_names (drop 4 fs)) (distinct (drop 4 fs)) (and_right few named labels)) in
          let name' = subst (λ (f : List ℕ). is_name f ≡ true) is name in
          let once' = subst (λ (f : List ℕ). among f (labels_before fs i) ≡ false) is once in
          rw (p, name', once', lt-ltb i (4 + most_labels) (omega arith)) refl

  -- A wrong name makes it no header.
  pub name_refuses : (i : ℕ) → i < length fs → wrong_name fs i ≡ true → is_header fs ≡ false
  name_refuses i h w = denied (is_header fs) (λ e. clash (wrong_name fs i) w (header_names e i h))

  module _ (right : (i : ℕ) → i < length fs → wrong_name fs i ≡ false) where
    right_column : (i : ℕ) → i < length fs → i < 4 → column_at i ≡ true
    unfolding wrong_name
    right_column i h k = not-false (column_at i) (sym (rw (lt-ltb i 4 k) refl) ∙ right i h)

    right_label : (i : ℕ) → i < length fs → 4 ≤ i → (not (is_name (get_or fs i [])) || (among (get_or fs i []) (labels_before fs i) || not (ltb i (4 + most_labels)))) ≡ false
    unfolding wrong_name
    right_label i h k = sym (rw (le-ltb i 4 k) refl) ∙ right i h

    right_few : length fs ≤ (4 + most_labels)
    right_few = go (ltb (4 + most_labels) (length fs)) refl
      where
        go : (t : Bool) → ltb (4 + most_labels) (length fs) ≡ t → length fs ≤ (4 + most_labels)
        go true p =
            let l = right_label (4 + most_labels) (ltb-true (4 + most_labels) (length fs) p) (omega arith) in
            let z = or_right (among (get_or fs (4 + most_labels) []) (labels_before fs (4 + most_labels))) true (or_right (not (is_name (get_or fs (4 + most_labels) []))) (among (get_or fs (4 + most_labels) []) (labels_before fs (4 + most_labels)) || true) l) in
            clash true refl z
        go false p = ltb-false (4 + most_labels) (length fs) p

    right_name : (j : ℕ) → j < length (drop 4 fs) → is_name (get_or (drop 4 fs) j []) ≡ true
    right_name j h =
        let l = right_label (4 + j) (behind_in fs j h) (omega arith) in
        ap is_name (behind fs j)
        ∙ not-false (is_name (get_or fs (4 + j) []))
        (or_left (not (is_name (get_or fs (4 + j) []))) (among (get_or fs (4 + j) []) (labels_before fs (4 + j)) || not (ltb (4 + j) (4 + most_labels))) l)

    right_once : (j : ℕ) → j < length (drop 4 fs) → among (get_or (drop 4 fs) j []) (take j (drop 4 fs)) ≡ false
    right_once j h =
        let l = right_label (4 + j) (behind_in fs j h) (omega arith) in
        let e : 4 + j - 4 ≡ j = omega arith in
        let a =
        or_left (among (get_or fs (4 + j) []) (labels_before fs (4 + j))) (not (ltb (4 + j) (4 + most_labels)))
        (or_right (not (is_name (get_or fs (4 + j) []))) (among (get_or fs (4 + j) []) (labels_before fs (4 + j)) || not (ltb (4 + j) (4 + most_labels))) l) in
        ap (λ (f : List ℕ). among f (take j (drop 4 fs))) (behind fs j)
        ∙ (ap (λ (k : ℕ). among (get_or fs (4 + j) []) (take k (drop 4 fs))) (sym e) ∙ a)

    names_header : 5 ≤ length fs → is_header fs ≡ true
    names_header h =
        let d = length-drop 4 fs in
        let m = right_few in
        rw (
          columns_right (λ i k. right_column i (omega arith) k),
          le-leb 1 (length (drop 4 fs)) (omega arith),
          le-leb (length (drop 4 fs)) most_labels (omega arith),
          all [] is_name are_names names_none names_first (drop 4 fs) right_name,
          before_distinct (drop 4 fs) right_once,
        ) refl

  -- No header, and no name is wrong: names are missing.
  pub names_missing : is_header fs ≡ false → header_at fs ≡ 0 → length fs < 5
  names_missing e z = go (ltb (length fs) 5) refl
    where
      go : (t : Bool) → ltb (length fs) 5 ≡ t → length fs < 5
      go true p = ltb-true (length fs) 5 p
      go false p = clash (is_header fs) (names_header (no_field (wrong_name fs) fs z) (ltb-false (length fs) 5 p)) e

-- ---- 11: the number of fields, and fields that are no numbers

module _ (c : ℕ) (fs : List (List ℕ)) where
  abbrev numbers_in : Bool
  numbers_in = is_number (get_or fs 0 []) && (is_number (get_or fs 2 []) && (is_number (get_or fs 3 []) && are_numbers (drop 4 fs)))

  -- A wrong number of fields makes it malformed.
  pub count_refuses : (length fs ≡ 4 + c → ⊥) → malformed c fs ≡ true
  count_refuses n = rw (ne_eqb (length fs) (4 + c) n) refl

  all_numbers : numbers_in ≡ true → (i : ℕ) → i < length fs → no_number fs i ≡ false
  unfolding no_number
  all_numbers e zero h = rw (and_left (is_number (get_or fs 0 [])) (is_number (get_or fs 2 []) && (is_number (get_or fs 3 []) && are_numbers (drop 4 fs))) e) refl
  all_numbers e (suc zero) h = refl
  all_numbers e (suc (suc zero)) h =
      rw (and_left (is_number (get_or fs 2 [])) (is_number (get_or fs 3 []) && are_numbers (drop 4 fs))
      (and_right (is_number (get_or fs 0 [])) (is_number (get_or fs 2 []) && (is_number (get_or fs 3 []) && are_numbers (drop 4 fs))) e)) refl
  all_numbers e (suc (suc (suc zero))) h =
      rw (and_left (is_number (get_or fs 3 [])) (are_numbers (drop 4 fs))
      (and_right (is_number (get_or fs 2 [])) (is_number (get_or fs 3 []) && are_numbers (drop 4 fs))
      (and_right (is_number (get_or fs 0 [])) (is_number (get_or fs 2 []) && (is_number (get_or fs 3 []) && are_numbers (drop 4 fs))) e))) refl
  all_numbers e (suc (suc (suc (suc j)))) h =
      let place = front_in fs (suc (suc (suc (suc j)))) (omega arith) h in
      let t =
      each [] is_number are_numbers are_numbers_none are_numbers_first (drop 4 fs) (suc (suc (suc (suc j))) - 4) place
      (and_right (is_number (get_or fs 3 [])) (are_numbers (drop 4 fs))
      (and_right (is_number (get_or fs 2 [])) (is_number (get_or fs 3 []) && are_numbers (drop 4 fs))
      (and_right (is_number (get_or fs 0 [])) (is_number (get_or fs 2 []) && (is_number (get_or fs 3 []) && are_numbers (drop 4 fs))) e))) in
      rw (subst (λ (f : List ℕ). is_number f ≡ true) (from_front fs (suc (suc (suc (suc j)))) (omega arith)) t, ne_eqb (suc (suc (suc (suc j)))) 1 (λ z. absurd (omega arith))) refl

  -- A field other than the rule that is no number makes it malformed.
  pub number_refuses : (i : ℕ) → i < length fs → no_number fs i ≡ true → malformed c fs ≡ true
  number_refuses i h w = go (eqb (length fs) (4 + c)) numbers_in refl
    where
      go : (t u : Bool) → numbers_in ≡ u → (not t || not u) ≡ true
      go true true e = clash (no_number fs i) w (all_numbers e i h)
      go true false e = refl
      go false u e = refl

  module _ (count : length fs ≡ 4 + c) (right : (i : ℕ) → i < length fs → no_number fs i ≡ false) where
    number_at : (i : ℕ) → i < length fs → (i ≡ 1 → ⊥) → is_number (get_or fs i []) ≡ true
    unfolding no_number
    number_at i h n = not-false (is_number (get_or fs i [])) (sym (rw (ne_eqb i 1 n) refl) ∙ right i h)

    right_numbers : numbers_in ≡ true
    right_numbers =
        rw (
          number_at 0 (omega arith) (λ z. absurd (omega arith)),
          number_at 2 (omega arith) (λ z. absurd (omega arith)),
          number_at 3 (omega arith) (λ z. absurd (omega arith)),
        )
        (all [] is_number are_numbers are_numbers_none are_numbers_first (drop 4 fs)
        (λ j h. ap is_number (behind fs j) ∙ number_at (4 + j) (behind_in fs j h) (λ z. absurd (omega arith))))

  -- Malformed, and no field is found: the number of fields is wrong.
  pub count_differs : malformed c fs ≡ true → malformed_at c fs ≡ 0 → length fs ≡ 4 + c → ⊥
  count_differs e z count =
      let t = right_numbers count (no_field (no_number fs) fs (sym (rw (eq-eqb (length fs) (4 + c) count) refl) ∙ z)) in
      clash (malformed c fs) e (rw (eq-eqb (length fs) (4 + c) count, t) refl)

-- ---- 13: bead, state and final

-- Only the last of the rows before counts.
pub last_decides : (ps : List StateLine) (p r : StateLine) → follows_last (ps ++ (p ∷ [])) r ≡ follows_last (p ∷ []) r
unfolding follows_last
last_decides [] p r = refl
last_decides (q ∷ []) p r = refl
last_decides (q ∷ (s ∷ ps)) p r = last_decides (s ∷ ps) p r

same_last : {before one : List StateLine} → Last before one → (r : StateLine) → follows_last before r ≡ follows_last one r
same_last none r = refl
same_last (last ps p e) r = ap (λ (rows : List StateLine). follows_last rows r) e ∙ last_decides ps p r

turns_decides : (ps : List StateLine) (p r : StateLine) → breaks_turns (ps ++ (p ∷ [])) r ≡ breaks_turns (p ∷ []) r
unfolding breaks_turns
turns_decides [] p r = refl
turns_decides (q ∷ []) p r = refl
turns_decides (q ∷ (s ∷ ps)) p r = turns_decides (s ∷ ps) p r

same_turns : {before one : List StateLine} → Last before one → (r : StateLine) → breaks_turns before r ≡ breaks_turns one r
same_turns none r = refl
same_turns (last ps p e) r = ap (λ (rows : List StateLine). breaks_turns rows r) e ∙ turns_decides ps p r

-- 13 and 14 look at the last row only.
pub order_same : {before one : List StateLine} → Last before one → (r : StateLine) → disordered before r ≡ disordered one r
order_same l r = ap (λ (f : Bool). not f || (ltb most_beads r.bead || (not (ltb r.state most_states) || ltb 1 r.accepting))) (same_last l r)

pub rule_same : {before one : List StateLine} → Last before one → (r : StateLine) → misruled before r ≡ misruled one r
rule_same l r = ap (λ (f : Bool). not (is_rule r.rule) || f) (same_turns l r)

module _ (r : StateLine) where
  abbrev limits : Bool
  limits = ltb most_beads r.bead || (not (ltb r.state most_states) || ltb 1 r.accepting)

  -- one after the other, as `disordered` has them
  by_follows : (f : Bool) → f ≡ false → (not f || limits) ≡ true
  by_follows f e = rw e refl

  by_bead : (f : Bool) → ltb most_beads r.bead ≡ true → (not f || limits) ≡ true
  by_bead true e = rw e refl
  by_bead false e = refl

  by_state : (f : Bool) → ltb r.state most_states ≡ false → (not f || limits) ≡ true
  by_state true e = rw e (go (ltb most_beads r.bead))
    where
      go : (t : Bool) → (t || true) ≡ true
      go true = refl
      go false = refl
  by_state false e = refl

  first_bead : bead_wrong [] r ≡ true → follows_last [] r ≡ false
  unfolding bead_wrong follows_last
  first_bead e = rw (not-true (eqb r.bead 1) e) refl

  first_state : state_wrong [] r ≡ true → follows_last [] r ≡ false
  unfolding state_wrong follows_last
  first_state e = rw (not-true (eqb r.state 0) e) (go (eqb r.bead 1))
    where
      go : (t : Bool) → (t && false) ≡ false
      go true = refl
      go false = refl

  module _ (p : StateLine) where
    abbrev here : Bool
    here = eqb r.bead p.bead

    abbrev beyond : Bool
    beyond = eqb r.bead (p.bead + 1)

    abbrev next : Bool
    next = eqb r.state (p.state + 1)

    abbrev fresh : Bool
    fresh = eqb r.state 0

    apart : here ≡ true → beyond ≡ false
    apart e = let q = eqb-true r.bead p.bead e in ne_eqb r.bead (p.bead + 1) (λ z. absurd (omega arith))

    bead_causes : bead_wrong (p ∷ []) r ≡ true → (f : Bool) → follows_last (p ∷ []) r ≡ f → (not f || limits) ≡ true
    unfolding bead_wrong follows_last
    bead_causes e f g = go (ltb most_beads r.bead) refl here beyond refl refl e
      where
        go : (a : Bool) → ltb most_beads r.bead ≡ a → (b c : Bool) → here ≡ b → beyond ≡ c → (a || not (b || c)) ≡ true → (not f || limits) ≡ true
        go true x b c y z w = by_bead f x
        go false x true c y z w = clash false w refl
        go false x false true y z w = clash false w refl
        go false x false false y z w = by_follows f (sym g ∙ rw (y, z) refl)

    state_causes : state_wrong (p ∷ []) r ≡ true → (f : Bool) → follows_last (p ∷ []) r ≡ f → (not f || limits) ≡ true
    unfolding state_wrong follows_last
    state_causes e f g = go (ltb r.state most_states) refl here next fresh refl refl refl e
      where
        go : (a : Bool) → ltb r.state most_states ≡ a → (b c d : Bool) → here ≡ b → next ≡ c → fresh ≡ d → (not a || cond b (not c) (not d)) ≡ true → (not f || limits) ≡ true
        go false x b c d y z u w = by_state f x
        go true x true true d y z u w = clash false w refl
        go true x true false d y z u w = by_follows f (sym g ∙ rw (y, z, apart y) refl)
        go true x false c true y z u w = clash false w refl
        go true x false c false y z u w = by_follows f (sym g ∙ rw (y, u) (both beyond))
          where
            both : (t : Bool) → (t && false) ≡ false
            both true = refl
            both false = refl

    order_right : bead_wrong (p ∷ []) r ≡ false → state_wrong (p ∷ []) r ≡ false
        → (follows_last (p ∷ []) r ≡ true) × (ltb most_beads r.bead ≡ false) × (ltb r.state most_states ≡ true)
    unfolding bead_wrong state_wrong follows_last
    order_right e f = go (ltb most_beads r.bead) refl here beyond refl refl e (ltb r.state most_states) refl next fresh refl refl f
      where
        go : (a : Bool) → ltb most_beads r.bead ≡ a → (b c : Bool) → here ≡ b → beyond ≡ c → (a || not (b || c)) ≡ false
            → (m : Bool) → ltb r.state most_states ≡ m → (n o : Bool) → next ≡ n → fresh ≡ o → (not m || cond b (not n) (not o)) ≡ false
            → (((here && next) || (beyond && fresh)) ≡ true) × (ltb most_beads r.bead ≡ false) × (ltb r.state most_states ≡ true)
        go true x b c y z w m q n o u v k = clash true refl w
        go false x false false y z w m q n o u v k = clash true refl w
        go false x true c y z w false q n o u v k = clash true refl k
        go false x true c y z w true q true o u v k = (rw (y, u) refl, x, q)
        go false x true c y z w true q false o u v k = clash true refl k
        go false x false true y z w false q n o u v k = clash true refl k
        go false x false true y z w true q n true u v k = (rw (y, z, v) refl, x, q)
        go false x false true y z w true q n false u v k = clash true refl k

module _ {before one : List StateLine} (l : Last before one) (r : StateLine) where
  follows_same : follows_last one r ≡ follows_last before r
  follows_same = sym (same_last l r)

  -- A wrong bead makes it disordered.
  pub bead_refuses : bead_wrong one r ≡ true → disordered before r ≡ true
  bead_refuses e = go l follows_same e
    where
      go : {b o : List StateLine} → Last b o → follows_last o r ≡ follows_last before r → bead_wrong o r ≡ true → disordered before r ≡ true
      go none s w = by_follows r (follows_last before r) (sym s ∙ first_bead r w)
      go (last ps p i) s w = bead_causes r p w (follows_last before r) s

  -- So does a wrong state.
  pub state_refuses : state_wrong one r ≡ true → disordered before r ≡ true
  state_refuses e = go l follows_same e
    where
      go : {b o : List StateLine} → Last b o → follows_last o r ≡ follows_last before r → state_wrong o r ≡ true → disordered before r ≡ true
      go none s w = by_follows r (follows_last before r) (sym s ∙ first_state r w)
      go (last ps p i) s w = state_causes r p w (follows_last before r) s

  -- So does final over 1, and where bead and state are right, it is over 1.
  pub final_refuses : 1 < r.accepting → disordered before r ≡ true
  final_refuses h = rw (lt-ltb 1 r.accepting h) (go (not (follows_last before r)) (ltb most_beads r.bead) (not (ltb r.state most_states)))
    where
      go : (a b c : Bool) → (a || (b || (c || true))) ≡ true
      go true b c = refl
      go false true c = refl
      go false false true = refl
      go false false false = refl

  pub final_over : disordered before r ≡ true → bead_wrong one r ≡ false → state_wrong one r ≡ false → 1 < r.accepting
  unfolding bead_wrong state_wrong follows_last
  final_over d b s = ltb-true 1 r.accepting (go l follows_same b s)
    where
      go : {b o : List StateLine} → Last b o → follows_last o r ≡ follows_last before r → bead_wrong o r ≡ false → state_wrong o r ≡ false → ltb 1 r.accepting ≡ true
      go none e w v =
          let x = not-false (eqb r.bead 1) w in
          let y = not-false (eqb r.state 0) v in
          let m = eqb-true r.bead 1 x in
          let n = eqb-true r.state 0 y in
          sym (rw (sym e, x, y, le-ltb most_beads r.bead (omega arith), lt-ltb r.state most_states (omega arith)) refl) ∙ d
      go (last ps p i) e w v =
          let k = order_right r p w v in
          sym (rw (sym e ∙ k.0, k.1, k.2) refl) ∙ d

-- ---- 15 and 16: the next sets

within_none : (n : ℕ) → all_within n [] ≡ true
unfolding all_within
within_none n = refl

within_first : (n : ℕ) (f : List ℕ) (gs : List (List ℕ)) → all_within n (map value_of (f ∷ gs)) ≡ (within n (value_of f) && all_within n (map value_of gs))
unfolding all_within
within_first n f gs = refl

single_none : all_single [] ≡ true
unfolding all_single
single_none = refl

single_first : (f : List ℕ) (gs : List (List ℕ)) → all_single (map value_of (f ∷ gs)) ≡ (single most_states (value_of f) && all_single (map value_of gs))
unfolding all_single
single_first f gs = refl

-- A test of every field after the first four, where `found` says which fields fail it.
module _ (fs : List (List ℕ)) (test : List ℕ → Bool) (every : List (List ℕ) → Bool) (none : every [] ≡ true)
    (first : (x : List ℕ) (xs : List (List ℕ)) → every (x ∷ xs) ≡ (test x && every xs))
    (found : ℕ → Bool) (is : (i : ℕ) → found i ≡ (leb 4 i && not (test (get_or fs i [])))) where
  set_fails : (i : ℕ) → i < length fs → found i ≡ true → every (drop 4 fs) ≡ false
  set_fails i h w = denied (every (drop 4 fs)) (λ e. go (leb 4 i) refl (sym (is i) ∙ w) e)
    where
      go : (t : Bool) → leb 4 i ≡ t → (t && not (test (get_or fs i []))) ≡ true → every (drop 4 fs) ≡ true → ⊥
      go true p q e =
          let low = leb-true 4 i p in
          let right = each [] test every none first (drop 4 fs) (i - 4) (front_in fs i low h) e in
          clash (test (get_or fs i [])) (subst (λ (f : List ℕ). test f ≡ true) (from_front fs i low) right) (not-true (test (get_or fs i [])) q)
      go false p q e = clash false q refl

  some_set : every (drop 4 fs) ≡ false → place_where found fs ≡ 0 → ⊥
  some_set e z = clash (every (drop 4 fs)) (all [] test every none first (drop 4 fs) right) e
    where
      right : (j : ℕ) → j < length (drop 4 fs) → test (get_or (drop 4 fs) j []) ≡ true
      right j h =
          let f = no_field found fs z (4 + j) (behind_in fs j h) in
          let g : not (test (get_or fs (4 + j) [])) ≡ false = sym (rw (le-leb 4 (4 + j) (omega arith)) refl) ∙ (sym (is (4 + j)) ∙ f) in
          ap test (behind fs j) ∙ not-false (test (get_or fs (4 + j) [])) g

module _ (rows : List StateLine) (fs : List (List ℕ)) where
  abbrev has : ℕ
  has = states_of rows (row_of fs).bead

  stray_is : (i : ℕ) → stray_set has fs i ≡ (leb 4 i && not (within has (value_of (get_or fs i []))))
  unfolding stray_set
  stray_is i = refl

  -- A next set with a state that the bead lacks is a cause of 15, and 15 has one.
  pub stray_refuses : (i : ℕ) → i < length fs → stray_set has fs i ≡ true → strays rows (row_of fs) ≡ true
  stray_refuses i h w =
      ap not (set_fails fs (λ f. within has (value_of f)) (λ gs. all_within has (map value_of gs)) (within_none has) (within_first has) (stray_set has fs) stray_is i h w)

  pub stray_some : strays rows (row_of fs) ≡ true → straying_at has fs ≡ 0 → ⊥
  stray_some e z =
      some_set fs (λ f. within has (value_of f)) (λ gs. all_within has (map value_of gs)) (within_none has) (within_first has) (stray_set has fs) stray_is
      (not-true (all_within has (row_of fs).next) e) z

module _ (fs : List (List ℕ)) where
  ambiguous_is : (i : ℕ) → ambiguous_set fs i ≡ (leb 4 i && not (single most_states (value_of (get_or fs i []))))
  unfolding ambiguous_set
  ambiguous_is i = refl

  -- A next set without exactly one state is a cause of 16 in a bead whose rule needs just one next state, and 16 has one.
  pub ambiguous_refuses : (i : ℕ) → i < length fs → ambiguous_set fs i ≡ true → needs_one_next (row_of fs).rule ≡ true → ambiguous (row_of fs) ≡ true
  ambiguous_refuses i h w r =
      rw (
        r,
        set_fails fs (λ f. single most_states (value_of f)) (λ gs. all_single (map value_of gs)) single_none single_first (ambiguous_set fs) ambiguous_is i h w,
      ) refl

  pub ambiguous_some : ambiguous (row_of fs) ≡ true → ambiguous_at fs ≡ 0 → ⊥
  ambiguous_some e z =
      some_set fs (λ f. single most_states (value_of f)) (λ gs. all_single (map value_of gs)) single_none single_first (ambiguous_set fs) ambiguous_is
      (not-true (all_single (row_of fs).next) (and_right (needs_one_next (row_of fs).rule) (not (all_single (row_of fs).next)) e)) z
