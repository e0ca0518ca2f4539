-- The links of the lines before one, line by line; and the columns that the first line names.
-- Assumes nothing.
use mathlib.Core.Path.{◌≡◌, refl, sym, ap, ◌∙◌}
use mathlib.Core.Bool.{Bool, true, false, cond}
use mathlib.Core.List.{List, [], ◌∷◌, map}
use Prim.Native.Nat.{ℕ, suc, ◌+◌, ◌-◌, ◌*◌, ◌^◌, ◌≤◌, ◌<◌}
use native.Mathlib.Omega.{arith}
use borrow.Author.Tests.{ltb-true, ltb-false}
use lib.Dec.{eqb, ltb}
use lib.ListN.{length, get_or, take, drop, length-map, length-drop, get_or-eq_default}
use lib.Seq.{length-take-le, take_all, take-nil}
use Rattle.lists.proofs.Parts.{rest_part}
use Rattle.text.specs.Split.{prepend, split, first_part}
use Rattle.text.proofs.SplitLaws.{joined_split, first_short, Cut, uncut, cut, cut_of}
use Rattle.fields.proofs.PlaceLaws.{part_inside}
use Rattle.fields.proofs.PartLaws.{part_in, part_fits, next_fits, next_in}
use Rattle.numbers.specs.Numbers.{value_of}
use Rattle.numbers.specs.Listed.{is_none, list_of}
use Rattle.line_places.specs.Place.{line_at, lines_bytes}
use Rattle.line_places.proofs.LineLaws.{line_bytes, bytes_none, bytes_step}
use Rattle.log_line.specs.Header.{Columns, columns_of}
use Rattle.log_line.specs.Step.{Step, step_of, step_at, link_count}
use Rattle.log_byte.specs.Byte.{columns_named, steps_before}

-- ---- the columns

module _ (text : List ℕ) (n : ℕ) (given : n ≡ length (first_part 10 text)) where
  pub first_in : n ≤ length text
  first_in = let h = first_short 10 text in omega arith

  pub first_length : n ≡ length (take n text)
  first_length = let h = first_in in sym (length-take-le n text h)

  first_bytes : take n text ≡ (line_at text 1).bytes
  first_bytes = go (cut_of 10 text) ∙ sym (line_bytes text 1)
    where
      go : Cut 10 text → take n text ≡ first_part 10 text
      go (uncut f s) = let e = ap length f in take_all n text (omega arith) ∙ sym f
      go (cut k l f s) = let z : n ≡ k = given ∙ ap length f ∙ length-take-le k text (omega arith) in ap (λ (m : ℕ). take m text) z ∙ sym f

  pub named_are : (c : Columns) → c ≡ columns_of (split 32 (take n text)) → c ≡ columns_named text
  unfolding columns_named
  named_are c e = e ∙ ap (λ (bs : List ℕ). columns_of (split 32 bs)) first_bytes

pub ruleset named_kit = (first_in, first_length, named_are)

-- ---- how many links a line can list

parts_most : (b : ℕ) (l : List ℕ) → length (split b l) ≤ length l + 1
unfolding split
parts_most b [] = omega arith
parts_most b (x ∷ xs) = go (eqb x b) (split b xs) (parts_most b xs)
  where
    go : (t : Bool) (ps : List (List ℕ)) → length ps ≤ length xs + 1 → length (cond t ([] ∷ ps) (prepend x ps)) ≤ length (x ∷ xs) + 1
    go true ps h = omega arith
    go false [] h = omega arith
    go false (p ∷ ps) h = omega arith

links_most : (f : List ℕ) → length (list_of f) ≤ length f + 1
links_most f = go (is_none f)
  where
    go : (t : Bool) → length (cond t [] (map value_of (split 44 f))) ≤ length f + 1
    go true = omega arith
    go false = let e = length-map (split 44 f) value_of in let h = parts_most 44 f in omega arith

field_most : (l : List ℕ) (i : ℕ) → length (get_or (split 32 l) i []) ≤ length l
field_most l i = go (ltb i (length (split 32 l))) refl
  where
    go : (t : Bool) → ltb i (length (split 32 l)) ≡ t → length (get_or (split 32 l) i []) ≤ length l
    go true e =
        let h = part_inside 32 (split 32 l) i (ltb-true i (length (split 32 l)) e) in
        let s = ap length (joined_split 32 l) in
        omega arith
    go false e = let z = ap length (get_or-eq_default (split 32 l) [] (ltb-false i (length (split 32 l)) e)) in omega arith

line_most : (l : List ℕ) (i : ℕ) → length (list_of (get_or (split 32 l) i [])) ≤ length l + 1
line_most l i = let a = links_most (get_or (split 32 l) i []) in let b = field_most l i in omega arith

-- ---- the links of so many lines, from a place in the text on

pub links_from : List ℕ → ℕ → ℕ → ℕ
links_from text at m = link_count (map (λ bs. step_of (columns_named text) (split 32 bs)) (take m (lines_bytes (drop at text))))

count_none : link_count [] ≡ 0
unfolding link_count
count_none = refl

count_next : (x : Step) (xs : List Step) → link_count (x ∷ xs) ≡ length x.preds + link_count xs
unfolding link_count
count_next x xs = refl

from_end : (text : List ℕ) (at m : ℕ) → length text ≤ at → links_from text at m ≡ 0
unfolding links_from
from_end text at m h = rw (bytes_none text at h, take-nil m) count_none

from_none : (text : List ℕ) (at : ℕ) → links_from text at 0 ≡ 0
unfolding links_from
from_none text at = count_none

-- The lines below the first.
below : (text : List ℕ) (n : ℕ) → n ≡ length (first_part 10 text) → drop 1 (lines_bytes text) ≡ lines_bytes (drop (n + 1) text)
below [] n e = ap (drop 1) (bytes_none [] 0 (omega arith)) ∙ sym (bytes_none [] (n + 1) (omega arith))
below (x ∷ xs) n e = ap (drop 1) (bytes_step (x ∷ xs) 0 n (e ∙ sym (ap (λ (m : List ℕ). length (first_part 10 m)) (rest_part (x ∷ xs) 0))) (omega arith)) ∙ ap (λ (k : ℕ). lines_bytes (drop k (x ∷ xs))) (let z : 0 + n + 1 ≡ n + 1 = omega arith in z)

module _ (text : List ℕ) (n : ℕ) (given : n ≡ length (first_part 10 text)) where
  pub start_fits : length text * 1 < 2 ^ 63 → n + 1 < 2 ^ 64
  start_fits h = let k = first_short 10 text in omega arith

  pub start_in : n + 1 ≤ length text + 1
  start_in = let k = first_short 10 text in omega arith

  pub links_start : (line m : ℕ) → m ≡ step_at line → link_count (steps_before text line) ≡ 0 + links_from text (n + 1) (m - 0)
  unfolding steps_before links_from
  links_start line m e =
      let z : step_at line ≡ m - 0 = omega arith in
      let w : (k : ℕ) → k ≡ 0 + k = λ k. omega arith in
      rw (below text n given, z) (w _)

module _ (text : List ℕ) (all at m v links : ℕ) (inv : all ≡ links + links_from text at (m - v)) where
  pub links_all : m ≤ v → links ≡ all
  links_all h =
      let z : m - v ≡ 0 = omega arith in
      let e = ap (links_from text at) z ∙ from_none text at in
      omega arith

  pub links_end : length text ≤ at → links ≡ all
  links_end h = let e = from_end text at (m - v) h in omega arith

  module _ (n : ℕ) (inside : at < length text) (given : n ≡ length (first_part 10 (take (length text - at) (drop at text)))) where
    pub end_fits : length text < 2 ^ 64 → at + n < 2 ^ 64
    end_fits h = part_fits 10 text at n (omega arith) given h

    pub end_in : at + n ≤ length text
    end_in = part_in 10 text at n (omega arith) given

    pub after_fits : length text * 1 < 2 ^ 63 → at + n + 1 < 2 ^ 64
    after_fits h = next_fits 10 text at n (omega arith) given h

    pub after_in : at + n + 1 ≤ length text + 1
    after_in = next_in 10 text at n (omega arith) given

    module _ (p : ℕ) (column : p ≡ (columns_named text).preds) (bs : List ℕ) (is_line : bs ≡ take (at + n - at) (drop at text))
        (f : List ℕ) (is_field : f ≡ get_or (split 32 bs) p []) (k : ℕ) (lists : k ≡ length (list_of f)) where
      counted : k ≡ length (list_of (get_or (split 32 (take (at + n - at) (drop at text))) p []))
      counted = lists ∙ ap (λ (g : List ℕ). length (list_of g)) (is_field ∙ ap (λ (b : List ℕ). get_or (split 32 b) p []) is_line)

      few : k ≤ n + 1
      few =
          let q = counted in
          let z : at + n - at ≡ n = omega arith in
          let i = part_in 10 text at n (omega arith) given in
          let d = length-drop at text in
          let e = ap (λ (j : ℕ). length (take j (drop at text))) z ∙ length-take-le n (drop at text) (omega arith) in
          let h = line_most (take (at + n - at) (drop at text)) p in
          omega arith

      pub links_fit : links ≤ at → length text * 1 < 2 ^ 63 → links + k < 2 ^ 64
      links_fit h j = let f = few in let i = part_in 10 text at n (omega arith) given in omega arith

      pub links_in : links ≤ at → links + k ≤ at + n + 1
      links_in h = let f = few in omega arith

      pub links_more : v < m → all ≡ links + k + links_from text (at + n + 1) (m - (v + 1))
      unfolding links_from
      links_more h =
          let z : m - v ≡ suc (m - (v + 1)) = omega arith in
          let s = bytes_step text at n given inside in
          let g = counted ∙ ap (λ (j : ℕ). length (list_of (get_or (split 32 (take (at + n - at) (drop at text))) j []))) column in
          let e = ap (λ (j : ℕ). links_from text at j) z
          ∙ ap (λ (bss : List (List ℕ)). link_count (map (λ bs. step_of (columns_named text) (split 32 bs)) (take (suc (m - (v + 1))) bss))) s
          ∙ count_next (step_of (columns_named text) (split 32 (take (at + n - at) (drop at text)))) (map (λ bs. step_of (columns_named text) (split 32 bs)) (take (m - (v + 1)) (lines_bytes (drop (at + n + 1) text)))) in
          omega arith

pub ruleset links_kit = (start_fits, start_in, links_start, links_all, links_end, end_fits, end_in, after_fits, after_in, links_fit, links_in, links_more)
