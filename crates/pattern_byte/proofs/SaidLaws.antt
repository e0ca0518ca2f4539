-- What the text says, as the code finds it: the labels of the header, the line before, the states of a bead.
-- Assumes nothing.
use mathlib.Core.Path.{◌≡◌, refl, sym, ap, ◌∙◌}
use mathlib.Core.Bool.{Bool, true, false, cond}
use mathlib.Core.List.{List, [], ◌∷◌, map}
use Prim.Native.Nat.{ℕ, ◌+◌, ◌-◌, ◌*◌, ◌^◌, ◌≤◌, ◌<◌}
use native.Mathlib.Omega.{arith}
use native.Mathlib.Nat.{zero-add}
use borrow.Author.Tests.{lt-ltb, le-ltb, ltb-true, ltb-false, eq-eqb, ne_eqb}
use lib.Dec.{eqb, ltb}
use lib.ListN.{length, get_or, take, drop, length-drop}
use Rattle.lists.proofs.Parts.{rest_part}
use Rattle.text.specs.Split.{split, first_part}
use Rattle.text.proofs.SplitLaws.{first_short}
use Rattle.std.specs.Prelude.{Option, Some, None}
use Rattle.fields.proofs.FoundLaws.{found_none, found_ordered, found_inside, found_bytes}
use Rattle.line_places.specs.Place.{as_place, lines_bytes, line_at}
use Rattle.line_places.proofs.LineLaws.{line_bytes, bytes_none, bytes_step}
use Rattle.pattern_row.specs.Fields.{row_of}
use Rattle.pattern_store.specs.Next.{states_of}
use Rattle.pattern_places.specs.Place.{disordered_at}
use Rattle.row_places.specs.declared.order.Said.{Said}
use Rattle.row_places.specs.Said.{rows_said}
use Rattle.row_places.proofs.OrderLaws.{said_row}
use Rattle.pattern_byte.specs.Byte.{labels_named, rows_below, row_before}

-- ---- the labels that the header names

pub ruleset bytes_kit = (found_none, found_ordered, found_inside, found_bytes)

pub labels_split : (text l : List ℕ) → l ≡ get_or (split 10 text) 0 [] → (m n : ℕ) → m ≡ length (split 32 l) → n ≡ m - 4 → n ≡ labels_named text
unfolding labels_named
labels_split text l g m n e f = f ∙ ap (λ (k : ℕ). k - 4) (e ∙ ap (λ (b : List ℕ). length (split 32 b)) (g ∙ sym (line_bytes text 1)))

pub ruleset labels_kit = (labels_split)

-- ---- the line before

module _ (text bytes : List ℕ) (n : ℕ) where
  pub order_none : n ≡ 1 → None ≡ as_place (cond (eqb n 1) 0 (disordered_at (row_before text n) (split 32 bytes)))
  unfolding as_place
  order_none e = sym (rw (eq-eqb n 1 e) refl)

  pub order_first : (n ≡ 1 → ⊥) → n < 3 → (p : Option ℕ) → p ≡ as_place (disordered_at [] (split 32 bytes))
      → p ≡ as_place (cond (eqb n 1) 0 (disordered_at (row_before text n) (split 32 bytes)))
  unfolding row_before
  order_first d h p e = e ∙ sym (rw (ne_eqb n 1 d, lt-ltb n 3 h) refl)

  module _ (d : n ≡ 1 → ⊥) (h : 3 ≤ n) (l : List ℕ) (given : l ≡ get_or (split 10 text) (n - 2) []) where
    before_bytes : (line_at text (n - 1)).bytes ≡ l
    before_bytes =
        let e : n - 1 - 1 ≡ n - 2 = omega arith in
        line_bytes text (n - 1) ∙ ap (λ (k : ℕ). get_or (split 10 text) k []) e ∙ sym given

    pub order_next : (s : Said) → s.bead ≡ (row_of (split 32 l)).bead → s.state ≡ (row_of (split 32 l)).state
        → (p : Option ℕ) → p ≡ as_place (disordered_at (rows_said (Some s)) (split 32 bytes))
        → p ≡ as_place (cond (eqb n 1) 0 (disordered_at (row_before text n) (split 32 bytes)))
    unfolding row_before
    order_next s b k p e =
        e ∙ ap as_place (said_row (split 32 l) s b k (split 32 bytes))
        ∙ ap (λ (m : List ℕ). as_place (disordered_at (row_of (split 32 m) ∷ []) (split 32 bytes))) (sym before_bytes)
        ∙ sym (rw (ne_eqb n 1 d, le-ltb n 3 h) refl)

pub ruleset order_kit = (order_none, order_first, order_next)

-- ---- the states of a bead: the lines that speak of it

-- Those of the lines that begin at a place or after it.
unfoldable pub states_from : List ℕ → ℕ → ℕ → ℕ
states_from text b at = states_of (map (λ bs. row_of (split 32 bs)) (lines_bytes (drop at text))) b

module _ (text : List ℕ) where
  pub states_below : (b n : ℕ) → n ≡ length (first_part 10 text) → states_of (rows_below text) b ≡ 0 + states_from text b (n + 1)
  unfolding rows_below states_from
  states_below b n e =
      let z = ap (λ (ls : List (List ℕ)). states_of (map (λ bs. row_of (split 32 bs)) ls) b) (go (ltb 0 (length text)) refl) in
      z ∙ sym (zero-add (states_from text b (n + 1)))
    where
      go : (t : Bool) → ltb 0 (length text) ≡ t → drop 1 (lines_bytes text) ≡ lines_bytes (drop (n + 1) text)
      go true f =
          let z : 0 + n + 1 ≡ n + 1 = omega arith in
          ap (drop 1) (bytes_step text 0 n (e ∙ ap (λ (m : List ℕ). length (first_part 10 m)) (sym (rest_part text 0))) (ltb-true 0 (length text) f))
          ∙ ap (λ (k : ℕ). lines_bytes (drop k text)) z
      go false f =
          let h = ltb-false 0 (length text) f in
          ap (drop 1) (bytes_none text 0 h) ∙ sym (bytes_none text (n + 1) (omega arith))

  pub header_fits : (n : ℕ) → n ≡ length (first_part 10 text) → length text * 1 < 2 ^ 63 → n + 1 < 2 ^ 64
  header_fits n e h = let k = first_short 10 text in omega arith

  pub header_in : (n : ℕ) → n ≡ length (first_part 10 text) → n + 1 ≤ length text + 1
  header_in n e = let k = first_short 10 text in omega arith

  module _ (at n : ℕ) (h : at < length text) (given : n ≡ length (first_part 10 (take (length text - at) (drop at text)))) where
    pub line_in : at + n ≤ length text
    line_in =
        let e = given ∙ ap (λ (m : List ℕ). length (first_part 10 m)) (rest_part text at) in
        let k = first_short 10 (drop at text) in
        let d = length-drop at text in
        omega arith

    pub line_fits : length text * 1 < 2 ^ 63 → at + n < 2 ^ 64
    line_fits k = let p = line_in in omega arith

    pub next_fits : length text * 1 < 2 ^ 63 → at + n + 1 < 2 ^ 64
    next_fits k = let p = line_in in omega arith

    pub next_in : at + n + 1 ≤ length text + 1
    next_in = let p = line_in in omega arith

    pub rest_falls : length text + 1 - (at + n + 1) < length text + 1 - at
    rest_falls = let p = line_in in omega arith

    turn : (b : ℕ) → states_from text b at
        ≡ cond (eqb (row_of (split 32 (take (at + n - at) (drop at text)))).bead b) 1 0 + states_from text b (at + n + 1)
    unfolding states_from states_of
    turn b = ap (λ (ls : List (List ℕ)). states_of (map (λ bs. row_of (split 32 bs)) ls) b) (bytes_step text at n given h)

    module _ (b c whole s : ℕ) (inv : whole ≡ c + states_from text b at) (g : s ≡ (row_of (split 32 (take (at + n - at) (drop at text)))).bead) where
      pub states_more : s ≡ b → whole ≡ c + 1 + states_from text b (at + n + 1)
      states_more e =
          let t = turn b ∙ ap (λ (k : Bool). cond k 1 0 + states_from text b (at + n + 1)) (eq-eqb (row_of (split 32 (take (at + n - at) (drop at text)))).bead b (sym g ∙ e)) in
          omega arith

      pub states_same : (s ≡ b → ⊥) → whole ≡ c + states_from text b (at + n + 1)
      states_same e =
          let t = turn b ∙ ap (λ (k : Bool). cond k 1 0 + states_from text b (at + n + 1)) (ne_eqb (row_of (split 32 (take (at + n - at) (drop at text)))).bead b (λ k. e (g ∙ k))) in
          omega arith

  pub states_all : (b c whole at : ℕ) → whole ≡ c + states_from text b at → length text ≤ at → c ≡ whole
  unfolding states_from states_of
  states_all b c whole at inv h = let z = ap (λ (ls : List (List ℕ)). states_of (map (λ bs. row_of (split 32 bs)) ls) b) (bytes_none text at h) in omega arith

pub ruleset states_kit = (states_below, header_fits, header_in, line_in, line_fits, next_fits, next_in, rest_falls, states_more, states_same, states_all)
