-- The field `preds`, part by part: all parts numbers, rising, stored.
-- Assumes nothing.
use mathlib.Core.Path.{◌≡◌, refl, sym, ap, ◌∙◌}
use mathlib.Core.Bool.{Bool, true, false, not, cond, ◌&&◌, ◌||◌, and-true, and-false}
use mathlib.Core.List.{List, [], ◌∷◌, ◌++◌, map, append-nil, append_assoc}
use Prim.Native.Nat.{ℕ, ◌+◌, ◌-◌, ◌*◌, ◌^◌, ◌≤◌, ◌<◌}
use native.Mathlib.Omega.{arith}
use native.Mathlib.Numerals.{add-one}
use borrow.Author.Tests.{le-leb, lt-leb, lt-ltb, eq-eqb, ne_eqb, ltb-true, ltb-false}
use lib.Dec.{leb, ltb, eqb}
use lib.ListN.{length, take, drop, set, length-map, length-append}
use lib.Seq.{take-suc-set, length-take-le, set_out}
use Rattle.numbers.proofs.ListedLaws.{are_numbers_none, are_numbers_first}
use Rattle.text.specs.Split.{split, first_part}
use Rattle.text.proofs.SplitLaws.{first_is}
use Rattle.lists.proofs.Parts.{rest_part}
use Rattle.numbers.specs.Numbers.{is_number, value_of, first_read}
use Rattle.std.specs.Prelude.{Option, Some, None, is_some, Result, Ok, Err}
use Rattle.fields.proofs.FieldLaws.{count_some}
use Rattle.numbers.specs.Listed.{is_none, is_list, list_of, are_numbers}
use Rattle.log_line.specs.Step.{rising_below, mislinked}
use Rattle.log_line.specs.inner.Scan.{Formed, next_least}
use Rattle.fields.proofs.PartLaws.{parts_from, parts_all, parts_none, parts_step, part_fits, next_fits, next_in, rest_falls}
use Rattle.numbers.proofs.ValueLaws.{stopped_none, ended_number, ended_value, ended_stop}
use Rattle.layout.specs.Layout.{most_preds}

-- ---- every part a number

pub numbers_start : (l : List ℕ) → are_numbers (split 44 l) ≡ are_numbers (parts_from 44 l 0)
numbers_start l = ap are_numbers (parts_all 44 l)

-- What is read from the place on, as it is lent.
abbrev lent : List ℕ → ℕ → List ℕ
lent l at = take (length l - at) (drop at l)

-- The first part of it.
lent_part : (l : List ℕ) (at n : ℕ) → n ≡ length (first_part 44 (lent l at)) → first_part 44 (lent l at) ≡ take (at + n - at) (drop at l)
lent_part l at n given =
    let e : at + n - at ≡ n = omega arith in
    first_is 44 (lent l at) ∙ ap (λ (k : ℕ). take k (lent l at)) (sym given) ∙ ap (take n) (rest_part l at) ∙ ap (λ (k : ℕ). take k (drop at l)) (sym e)

module _ (l : List ℕ) (at : ℕ) (inv : are_numbers (split 44 l) ≡ are_numbers (parts_from 44 l at)) (inside : at ≤ length l)
    (r : Result (ℕ × ℕ) ℕ) (said : r ≡ first_read 44 (take (length l - at) (drop at l))) where
  here : (n : ℕ) → n ≡ length (first_part 44 (lent l at)) → are_numbers (split 44 l) ≡ (is_number (first_part 44 (lent l at)) && are_numbers (parts_from 44 l (at + n + 1)))
  here n given =
      inv ∙ ap are_numbers (parts_step 44 l at n inside given) ∙ are_numbers_first _ _
      ∙ ap (λ (f : List ℕ). is_number f && are_numbers (parts_from 44 l (at + n + 1))) (sym (lent_part l at n given))

  pub numbers_bad : (stop : ℕ) → r ≡ Err stop → false ≡ are_numbers (split 44 l)
  numbers_bad stop p = sym (here (length (first_part 44 (lent l at))) refl ∙ rw (← stopped_none 44 (lent l at) r said stop p))

  pub numbers_more : (v n : ℕ) → r ≡ Ok (v, n) → are_numbers (split 44 l) ≡ are_numbers (parts_from 44 l (at + n + 1))
  numbers_more v n p = here n (ended_stop 44 (lent l at) r said v n p) ∙ rw (← ended_number 44 (lent l at) r said v n p)

-- ---- rising, and below v

-- The numbers are at least `low`, each larger than the one before it, and all below v.
pub rising_from : ℕ → ℕ → List ℕ → Bool
rising_from v low [] = true
rising_from v low (u ∷ us) = leb low u && (ltb u v && rising_from v (u + 1) us)

head_below : (v u : ℕ) (us : List ℕ) → rising_below v (u ∷ us) ≡ true → u < v
unfolding rising_below
head_below v u [] e = ltb-true u v e
head_below v u (w ∷ us) e = go (ltb u w) refl (rising_below v (w ∷ us)) refl e (head_below v w us)
  where
    go : (s : Bool) → ltb u w ≡ s → (t : Bool) → rising_below v (w ∷ us) ≡ t → (s && t) ≡ true → (rising_below v (w ∷ us) ≡ true → w < v) → u < v
    go true p true q f rest = let h = rest q in let k = ltb-true u w p in omega arith
    go true p false q f rest = let z : ◌≡◌ {A = ℕ} 0 1 = cc in absurd (omega arith)
    go false p t q f rest = let z : ◌≡◌ {A = ℕ} 0 1 = cc in absurd (omega arith)

rising_cons : (v low u : ℕ) (us : List ℕ) → rising_from v low (u ∷ us) ≡ (leb low u && rising_below v (u ∷ us))
unfolding rising_from rising_below
rising_cons v low u [] = ap (λ (t : Bool). leb low u && t) (and-true (ltb u v))
rising_cons v low u (w ∷ us) = ap (λ (t : Bool). leb low u && t)
    (ap (λ (t : Bool). ltb u v && t) (rising_cons v (u + 1) w us) ∙ go (ltb u w) refl (rising_below v (w ∷ us)) refl)
  where
    go : (s : Bool) → ltb u w ≡ s → (t : Bool) → rising_below v (w ∷ us) ≡ t
        → (ltb u v && (leb (u + 1) w && rising_below v (w ∷ us))) ≡ (ltb u w && rising_below v (w ∷ us))
    go true p true q =
        let k = ltb-true u w p in
        let h = head_below v w us q in
        rw (p, q, le-leb (u + 1) w (omega arith), lt-ltb u v (omega arith))
    go true p false q = rw (p, q, le-leb (u + 1) w (let k = ltb-true u w p in omega arith)) (and-false (ltb u v))
    go false p t q = rw (p, lt-leb (u + 1) w (let k = ltb-false u w p in omega arith)) (and-false (ltb u v))

rising_is : (v : ℕ) (us : List ℕ) → rising_below v us ≡ rising_from v 0 us
unfolding rising_below rising_from
rising_is v [] = refl
rising_is v (u ∷ us) = sym (rising_cons v 0 u us ∙ rw (le-leb 0 u (omega arith)))

-- After some numbers that the others must be at least so much.
pub rising_after : ℕ → Option ℕ → List ℕ → Bool
rising_after v None us = false
rising_after v (Some low) us = rising_from v low us

rising_next : (v : ℕ) (least : Option ℕ) (u : ℕ) (us : List ℕ) → rising_after v least (u ∷ us) ≡ rising_after v (next_least v least u) us
unfolding rising_after next_least rising_from
rising_next v None u us = refl
rising_next v (Some low) u us = go (leb low u) refl (ltb u v) refl
  where
    go : (s : Bool) → leb low u ≡ s → (t : Bool) → ltb u v ≡ t
        → (leb low u && (ltb u v && rising_from v (u + 1) us)) ≡ rising_after v (cond (leb low u && ltb u v) (Some (u + 1)) None) us
    go true p true q = rw (p, q) refl
    go true p false q = rw (p, q) refl
    go false p t q = rw p refl

rising_end : (v : ℕ) (least : Option ℕ) → rising_after v least [] ≡ is_some least
unfolding rising_after rising_from
rising_end v None = refl
rising_end v (Some low) = refl

abbrev pub numbers : List ℕ → List ℕ
numbers l = map value_of (split 44 l)

-- The numbers from a place on.
abbrev pub numbers_from : List ℕ → ℕ → List ℕ
numbers_from l at = map value_of (parts_from 44 l at)

module _ (l : List ℕ) (at : ℕ) where
  numbers_none : length l < at → numbers_from l at ≡ []
  numbers_none h = ap (map value_of) (parts_none 44 l at h)

  numbers_step : (n : ℕ) → at ≤ length l → n ≡ length (first_part 44 (take (length l - at) (drop at l)))
      → numbers_from l at ≡ value_of (take (at + n - at) (drop at l)) ∷ numbers_from l (at + n + 1)
  numbers_step n inside given = ap (map value_of) (parts_step 44 l at n inside given)

pub rising_start : (v : ℕ) (l : List ℕ) → rising_below v (map value_of (split 44 l)) ≡ rising_after v (Some 0) (numbers_from l 0)
unfolding rising_after
rising_start v l = rising_is v (numbers l) ∙ ap (λ (ps : List (List ℕ)). rising_from v 0 (map value_of ps)) (parts_all 44 l)

-- ---- stored

pub stored_start : (l preds : List ℕ) → map value_of (split 44 l) ≡ take 0 preds ++ numbers_from l 0
stored_start l preds = ap (map value_of) (parts_all 44 l)

module _ (l : List ℕ) (at k : ℕ) (preds : List ℕ) (inv : map value_of (split 44 l) ≡ take k preds ++ numbers_from l at)
    (size : length preds ≡ most_preds) (few : length (split 44 l) ≤ most_preds) (low : k ≤ most_preds) where
  count : length (split 44 l) ≡ k + length (numbers_from l at)
  count =
      sym (length-map (split 44 l) value_of) ∙ ap length inv ∙ length-append (take k preds) (numbers_from l at)
      ∙ ap (λ (m : ℕ). m + length (numbers_from l at)) (length-take-le k preds (omega arith))

  module _ (n : ℕ) (inside : at ≤ length l) (given : n ≡ length (first_part 44 (take (length l - at) (drop at l)))) where
    pub stored_in : k < most_preds
    stored_in = let c = count in let e = ap length (numbers_step l at n inside given) in omega arith

    pub stored_more : (u : ℕ) → u ≡ value_of (take (at + n - at) (drop at l))
        → map value_of (split 44 l) ≡ take (k + 1) (set preds k u) ++ numbers_from l (at + n + 1)
    stored_more u said =
        let h = stored_in in
        inv ∙ ap (λ (ps : List ℕ). take k preds ++ ps) (numbers_step l at n inside given ∙ ap (λ (x : ℕ). x ∷ numbers_from l (at + n + 1)) (sym said))
        ∙ sym (append_assoc (take k preds) (u ∷ []) (numbers_from l (at + n + 1)))
        ∙ ap (λ (ps : List ℕ). ps ++ numbers_from l (at + n + 1))
        (sym (ap (λ (m : ℕ). take m (set preds k u)) (add-one k) ∙ take-suc-set preds k u (omega arith)))

twice : (b : Bool) → b ≡ not (not b)
twice true = refl
twice false = refl

-- ---- one pass

-- The parts before the place are read: k numbers, after which the next must be at least so much.
pub record Scanning (v : ℕ) (l : List ℕ) (at k : ℕ) (least : Option ℕ) (first : List ℕ) : Type 0 where
  pub numbered : are_numbers (split 44 l) ≡ are_numbers (parts_from 44 l at)
  pub rises : rising_below v (map value_of (split 44 l)) ≡ rising_after v least (numbers_from l at)
  pub counts : length (split 44 l) ≡ k + length (parts_from 44 l at)
  pub kept : length (split 44 l) ≤ most_preds → map value_of (split 44 l) ≡ take k first ++ numbers_from l at

pub scan_start : (v : ℕ) (l first : List ℕ) → Scanning v l 0 0 (Some 0) first
scan_start v l first = record {
  numbered = numbers_start l;
  rises = rising_start v l;
  counts = let e = ap length (parts_all 44 l) in omega arith;
  kept = λ few. stored_start l first;
}

module _ (v : ℕ) (l : List ℕ) (at k : ℕ) (least : Option ℕ) (first : List ℕ) (s : Scanning v l at k least first) where
  module _ (inside : at ≤ length l) (r : Result (ℕ × ℕ) ℕ) (said : r ≡ first_read 44 (take (length l - at) (drop at l))) where
    pub scan_bad : is_none l ≡ false → (stop : ℕ) → r ≡ Err stop → is_list l ≡ false
    scan_bad some stop p = rw some (sym (numbers_bad l at s.numbered inside r said stop p))

    module _ (u n : ℕ) (is_read : r ≡ Ok (u, n)) where
      given : n ≡ length (first_part 44 (take (length l - at) (drop at l)))
      given = ended_stop 44 (lent l at) r said u n is_read

      pub place_fits : length l < 2 ^ 64 → at + n < 2 ^ 64
      place_fits h = part_fits 44 l at n inside given h

      pub place_next_fits : length l * 1 < 2 ^ 63 → at + n + 1 < 2 ^ 64
      place_next_fits h = next_fits 44 l at n inside given h

      pub place_in : at + n + 1 ≤ length l + 1
      place_in = next_in 44 l at n inside given

      pub place_falls : length l + 1 - (at + n + 1) < length l + 1 - at
      place_falls = rest_falls 44 l at n inside given

      module _ (size : length first ≡ most_preds) (new : List ℕ) (put : new ≡ set first k u) where
        value : u ≡ value_of (take (at + n - at) (drop at l))
        value = ended_value 44 (lent l at) r said u n is_read ∙ ap value_of (lent_part l at n given)

        more : length (split 44 l) ≡ k + 1 + length (parts_from 44 l (at + n + 1))
        more = let c = s.counts in let e = ap length (parts_step 44 l at n inside given) in omega arith

        there_stored : length (split 44 l) ≤ most_preds → map value_of (split 44 l) ≡ take (k + 1) new ++ numbers_from l (at + n + 1)
        there_stored few =
            let m = more in
            rw put (stored_more l at k first (s.kept few) size few (omega arith) n inside given u value)

        pub scan_next : (next : Option ℕ) → next ≡ next_least v least u → Scanning v l (at + n + 1) (k + 1) next new
        scan_next next e = record {
          numbered = numbers_more l at s.numbered inside r said u n is_read;
          rises =
              s.rises ∙ ap (rising_after v least) (numbers_step l at n inside given ∙ ap (λ (x : ℕ). x ∷ numbers_from l (at + n + 1)) (sym value))
              ∙ rising_next v least u _ ∙ ap (λ (m : Option ℕ). rising_after v m (numbers_from l (at + n + 1))) (sym e);
          counts = more;
          kept = there_stored;
        }

  module _ (past : length l < at) where
    all_numbers : are_numbers (split 44 l) ≡ true
    all_numbers = s.numbered ∙ ap are_numbers (parts_none 44 l at past) ∙ are_numbers_none

    rising_is_so : is_some least ≡ rising_below v (map value_of (split 44 l))
    rising_is_so = sym (s.rises ∙ ap (rising_after v least) (numbers_none l at past) ∙ rising_end v least)

    counted_is : k ≡ length (split 44 l)
    counted_is = let c = s.counts in let e = ap length (parts_none 44 l at past) in omega arith

    module _ (some : is_none l ≡ false) (size : length first ≡ most_preds) where
      are : list_of l ≡ map value_of (split 44 l)
      are = rw some

      many : length (list_of l) ≡ length (split 44 l)
      many = ap length are ∙ length-map (split 44 l) value_of

      counted : eqb (length (list_of l)) 0 ≡ false
      counted = ne_eqb (length (list_of l)) 0 (λ (z : length (list_of l) ≡ 0). let m = many in let h = count_some 44 l in omega arith)

      linked_is : (t : Bool) → t ≡ (eqb v 0 || not (is_some least)) → t ≡ mislinked v (list_of l)
      linked_is t e = e ∙ go (eqb v 0) refl
        where
          go : (t : Bool) → eqb v 0 ≡ t → (t || not (is_some least)) ≡ cond t (not (eqb (length (list_of l)) 0)) (eqb (length (list_of l)) 0 || not (rising_below v (list_of l)))
          go true q = sym (rw counted)
          go false q = sym (rw counted (ap (λ (us : List ℕ). not (rising_below v us)) are ∙ ap not (sym rising_is_so)))

      ended : (t : Bool) → t ≡ (eqb v 0 || not (is_some least)) → Formed v l (record { mislinked = t; links = record { count = k; first = first } })
      ended t e = record {
        formed = rw some all_numbers;
        linked = linked_is t e;
        links = record {
          size = size;
          counted = counted_is ∙ sym many;
          stored = λ few. are ∙ s.kept (let m = many in omega arith) ∙ ap (λ (us : List ℕ). take k first ++ us) (numbers_none l at past) ∙ append-nil (take k first) ∙ ap (λ (m : ℕ). take m first) (counted_is ∙ sym many);
        };
      }

      pub ended_start : v ≡ 0 → Formed v l (record { mislinked = eqb v 0; links = record { count = k; first = first } })
      ended_start z = ended (eqb v 0) (rw (eq-eqb v 0 z) refl)

      pub ended_later : (v ≡ 0 → ⊥) → (t : Bool) → is_some least ≡ not t → Formed v l (record { mislinked = t; links = record { count = k; first = first } })
      ended_later z t e = ended t (twice t ∙ ap not (sym e) ∙ sym (rw (ne_eqb v 0 z) refl))

pub ruleset scanning_kit = (scan_start, scan_bad, place_fits, place_next_fits, place_in, place_falls, scan_next, ended_start, ended_later)

-- ---- `-`

module _ (v : ℕ) (f first : List ℕ) (size : length first ≡ most_preds) (t : Bool) (given : t ≡ is_none f) where
  pub none_scanned : t ≡ true → (w : Bool) → w ≡ not (eqb v 0) → Formed v f (record { mislinked = w; links = record { count = 0; first = first } })
  none_scanned e w q =
      let none : is_none f ≡ true = sym given ∙ e in
      record {
        formed = rw none;
        linked = q ∙ go (eqb v 0) none;
        links = record { size = size; counted = sym (rw none); stored = λ few. rw none };
      }
    where
      go : (s : Bool) → is_none f ≡ true → not s ≡ cond s (not (eqb (length (list_of f)) 0)) (eqb (length (list_of f)) 0 || not (rising_below v (list_of f)))
      go true none = sym (rw none)
      go false none = sym (rw none)

  pub some_scanned : t ≡ false → is_none f ≡ false
  some_scanned e = sym given ∙ e

pub ruleset field_kit = (none_scanned, some_scanned)

-- ---- a link that is kept

pub ruleset keep_kit = (set_out)
