-- The fronts of a field: up to where its bytes are a number, and after which byte no number can follow.
-- Assumes nothing.
use mathlib.Core.Path.{◌≡◌, refl, sym, ap, ◌∙◌, subst}
use mathlib.Core.Bool.{Bool, true, false, not, ◌&&◌}
use mathlib.Core.List.{List, [], ◌∷◌, ◌++◌, append-nil}
use Rattle.std.specs.Prelude.{Option, Some, None, is_some, Ok, Err}
use Prim.Native.Nat.{ℕ, zero, suc, ◌+◌, ◌-◌, ◌*◌, ◌≤◌, ◌<◌}
use native.Mathlib.Omega.{arith}
use native.Mathlib.Nat.{le_refl}
use borrow.Author.Tests.{le-leb, lt-leb, ne_eqb, ltb-true, ltb-false}
use lib.Dec.{T, leb, ltb}
use lib.ListN.{length, take, length-append}
use Rattle.lists.proofs.LeftmostLaws.{NoneBelow, leftmost_is, leftmost_none}
use Rattle.numbers.specs.Numbers.{digit, digits, value_from, plain, decimal, stop_of, read_answer, end_of}
use Rattle.numbers.proofs.Spelling.{decimal_out, one_spelling, spell_digit}

-- ---- bytes behind others

pub value_append : (v : ℕ) (xs ys : List ℕ) → value_from v (xs ++ ys) ≡ value_from (value_from v xs) ys
unfolding value_from
value_append v [] ys = refl
value_append v (x ∷ xs) ys = value_append (v * 10 + (x - 48)) xs ys

digits_append : (xs ys : List ℕ) → digits (xs ++ ys) ≡ (digits xs && digits ys)
unfolding digits
digits_append [] ys = refl
digits_append (x ∷ xs) ys = ap (λ (t : Bool). digit x && t) (digits_append xs ys) ∙ go (digit x) (digits xs)
  where
    go : (s t : Bool) → (s && (t && digits ys)) ≡ ((s && t) && digits ys)
    go true t = refl
    go false t = refl

-- A value only grows.
grows : (v : ℕ) (bs : List ℕ) → v ≤ value_from v bs
unfolding value_from
grows v [] = le_refl v
grows v (b ∷ bs) = omega (arith, grows (v * 10 + (b - 48)) bs)

value_first : (v b : ℕ) (bs : List ℕ) → v * 10 + (b - 48) ≤ value_from v (b ∷ bs)
unfolding value_from
value_first v b bs = grows (v * 10 + (b - 48)) bs

pub take_front : (xs ys : List ℕ) (j : ℕ) → j ≤ length xs → take j (xs ++ ys) ≡ take j xs
take_front xs ys zero h = refl
take_front [] ys (suc j) h = absurd (omega arith)
take_front (x ∷ xs) ys (suc j) h = ap (λ (l : List ℕ). x ∷ l) (take_front xs ys j (omega arith))

pub take_through : (xs : List ℕ) (b : ℕ) (ys : List ℕ) → take (suc (length xs)) (xs ++ (b ∷ ys)) ≡ xs ++ (b ∷ [])
take_through [] b ys = refl
take_through (x ∷ xs) b ys = ap (λ (l : List ℕ). x ∷ l) (take_through xs b ys)

take_whole : (xs : List ℕ) → take (length xs) xs ≡ xs
take_whole [] = refl
take_whole (x ∷ xs) = ap (λ (l : List ℕ). x ∷ l) (take_whole xs)

module _ (most : ℕ) where
  decimal_none : (bs : List ℕ) → (plain bs && digits bs && leb (value_from 0 bs) most) ≡ false → decimal most bs ≡ None
  unfolding decimal
  decimal_none bs e = rw e

  decimal_some : (bs : List ℕ) → plain bs ≡ true → digits bs ≡ true → value_from 0 bs ≤ most → decimal most bs ≡ Some (value_from 0 bs)
  unfolding decimal
  decimal_some bs p d h = rw (p, d, le-leb (value_from 0 bs) most h)

  pub some_of : (o : Option ℕ) → is_some o ≡ true → (n : ℕ) × (o ≡ Some n)
  some_of None e = let z : ◌≡◌ {A = ℕ} 0 1 = cc in absurd (omega arith)
  some_of (Some n) e = (n, refl)

  -- ---- the fronts read so far: each is a number

  pub record Fronts (q : List ℕ) : Type 0 where
    pub number : (j : ℕ) → j < length q → is_some (decimal most (take (suc j) q)) ≡ true

  pub fronts_none : Fronts []
  fronts_none = record { number = λ j h. absurd (omega arith) }

  -- Bytes that have been read are a number, unless there is none.
  whole : (x : ℕ) (xs : List ℕ) → Fronts (x ∷ xs) → decimal most (x ∷ xs) ≡ Some (value_from 0 (x ∷ xs))
  whole x xs f =
      let s = some_of (decimal most (x ∷ xs)) (ap (λ (l : List ℕ). is_some (decimal most l)) (sym (take_whole (x ∷ xs))) ∙ f.number (length xs) (omega arith)) in
      let d = decimal_out most (x ∷ xs) s.0 s.1 in
      s.1 ∙ ap (λ (n : ℕ). Some n) (sym d.2)

  digits_of : (q : List ℕ) → Fronts q → digits q ≡ true
  unfolding digits
  digits_of [] f = refl
  digits_of (x ∷ xs) f = yes_of (digits (x ∷ xs)) (decimal_out most (x ∷ xs) (value_from 0 (x ∷ xs)) (whole x xs f)).1
    where
      yes_of : (t : Bool) → T t → t ≡ true
      yes_of true t = refl
      yes_of false t = absurd t

  fronts_more : (q : List ℕ) (b : ℕ) → Fronts q → is_some (decimal most (q ++ (b ∷ []))) ≡ true → Fronts (q ++ (b ∷ []))
  fronts_more q b f e = record { number = λ j h. go j h (ltb j (length q)) refl }
    where
      size : length (q ++ (b ∷ [])) ≡ length q + 1
      size = length-append q (b ∷ [])

      go : (j : ℕ) → j < length (q ++ (b ∷ [])) → (t : Bool) → ltb j (length q) ≡ t → is_some (decimal most (take (suc j) (q ++ (b ∷ [])))) ≡ true
      go j h true p = let k = ltb-true j (length q) p in ap (λ (l : List ℕ). is_some (decimal most l)) (take_front q (b ∷ []) (suc j) (omega arith)) ∙ f.number j k
      go j h false p =
          let k = ltb-false j (length q) p in
          let s = size in
          let z : j ≡ length q = omega arith in
          ap (λ (i : ℕ). is_some (decimal most (take (suc i) (q ++ (b ∷ []))))) z ∙ ap (λ (l : List ℕ). is_some (decimal most l)) (take_through q b []) ∙ e

  -- ---- a byte after which no number can follow

  pub record Stops (q : List ℕ) (b : ℕ) : Type 0 where
    pub none_follows : (rest : List ℕ) → decimal most (q ++ (b ∷ rest)) ≡ None

  module _ (q : List ℕ) (b : ℕ) (f : Fronts q) where
    digits_here : (rest : List ℕ) → digits (q ++ (b ∷ rest)) ≡ (digit b && digits rest)
    unfolding digits
    digits_here rest = digits_append q (b ∷ rest) ∙ rw (digits_of q f)

    pub stops_digit : digit b ≡ false → Stops q b
    stops_digit e = record { none_follows = λ rest. decimal_none (q ++ (b ∷ rest)) (rw (digits_here rest, e) (go (leb (value_from 0 (q ++ (b ∷ rest))) most) (plain (q ++ (b ∷ rest))))) }
      where
        go : (x t : Bool) → (t && false && x) ≡ false
        go x true = refl
        go x false = refl

    pub stops_large : most < value_from 0 q * 10 + (b - 48) → Stops q b
    stops_large h = record { none_follows = λ rest. decimal_none (q ++ (b ∷ rest)) (rw (large rest) (go (plain (q ++ (b ∷ rest))) (digits (q ++ (b ∷ rest))))) }
      where
        large : (rest : List ℕ) → leb (value_from 0 (q ++ (b ∷ rest))) most ≡ false
        large rest =
            let e = value_append 0 q (b ∷ rest) in
            let g = value_first (value_from 0 q) b rest in
            lt-leb (value_from 0 (q ++ (b ∷ rest))) most (omega arith)

        go : (s t : Bool) → (s && t && false) ≡ false
        go true true = refl
        go true false = refl
        go false t = refl

    pub stops_zero : value_from 0 q ≡ 0 → 0 < length q → Stops q b
    stops_zero z h = record { none_follows = λ rest. decimal_none (q ++ (b ∷ rest)) (go rest q f z h) }
      where
        go : (rest q' : List ℕ) → Fronts q' → value_from 0 q' ≡ 0 → 0 < length q'
            → (plain (q' ++ (b ∷ rest)) && digits (q' ++ (b ∷ rest)) && leb (value_from 0 (q' ++ (b ∷ rest))) most) ≡ false
        go rest [] g z h = absurd (omega arith)
        go rest (x ∷ xs) g z h =
            let e : x ∷ xs ≡ 48 ∷ [] = one_spelling most (x ∷ xs) 0 (whole x xs g ∙ ap (λ (n : ℕ). Some n) z) ∙ spell_digit 0 (omega arith) in
            ap (λ (l : List ℕ). plain (l ++ (b ∷ rest)) && digits (l ++ (b ∷ rest)) && leb (value_from 0 (l ++ (b ∷ rest))) most) e

    pub goes_on : digit b ≡ true → (value_from 0 q ≡ 0 → length q ≡ 0) → value_from 0 q * 10 + (b - 48) ≤ most → Fronts (q ++ (b ∷ []))
    unfolding digits value_from
    goes_on d n h = fronts_more q b f (ap is_some (decimal_some (q ++ (b ∷ [])) (lead q n f) (digits_here [] ∙ rw d digits_nil) fits))
      where
        digits_nil : digits [] ≡ true
        digits_nil = refl

        fits : value_from 0 (q ++ (b ∷ [])) ≤ most
        fits = let e = value_append 0 q (b ∷ []) in omega arith

        lead : (q' : List ℕ) → (value_from 0 q' ≡ 0 → length q' ≡ 0) → Fronts q' → plain (q' ++ (b ∷ [])) ≡ true
        lead [] n g = refl
        lead (x ∷ []) n g = ap not (ne_eqb x 48 (λ e. let z = n (ap (λ (y : ℕ). 0 * 10 + (y - 48)) e) in absurd (omega arith)))
        lead (x ∷ (y ∷ ys)) n g = yes_of (plain (x ∷ (y ∷ ys))) (decimal_out most (x ∷ (y ∷ ys)) (value_from 0 (x ∷ (y ∷ ys))) (whole x (y ∷ ys) g)).0
          where
            yes_of : (t : Bool) → T t → t ≡ true
            yes_of true t = refl
            yes_of false t = absurd t

  -- ---- where reading stops

  none_before : (q rest : List ℕ) → Fronts q → NoneBelow (λ i. not (is_some (decimal most (take (suc i) (q ++ rest))))) (length q)
  none_before q rest f = record { none = λ j h. ap not (ap (λ (l : List ℕ). is_some (decimal most l)) (take_front q rest (suc j) (omega arith)) ∙ f.number j h) }

  pub stop_there : (q : List ℕ) (b : ℕ) (rest : List ℕ) → Fronts q → Stops q b
      → read_answer (decimal most (q ++ (b ∷ rest))) (stop_of most (q ++ (b ∷ rest))) ≡ Err (length q)
  stop_there q b rest f s = rw (s.none_follows rest) (ap Err (sym at))
    where
      at : length q ≡ stop_of most (q ++ (b ∷ rest))
      at =
          let e = length-append q (b ∷ rest) in
          leftmost_is (λ i. not (is_some (decimal most (take (suc i) (q ++ (b ∷ rest)))))) (length q) (none_before q (b ∷ rest) f)
          (length (q ++ (b ∷ rest))) (omega arith) (ap not (ap (λ (l : List ℕ). is_some (decimal most l)) (take_through q b rest) ∙ ap is_some (s.none_follows [])))

  pub stop_end : (q : List ℕ) → Fronts q → read_answer (decimal most (q ++ [])) (stop_of most (q ++ [])) ≡ end_of (length q) (value_from 0 q)
  unfolding decimal
  stop_end q f = ap (λ (l : List ℕ). read_answer (decimal most l) (stop_of most l)) (append-nil q) ∙ go q f
    where
      at : (q' : List ℕ) → Fronts q' → length q' ≡ stop_of most q'
      at q' g =
          leftmost_none (λ i. not (is_some (decimal most (take (suc i) q')))) (length q')
          (subst (λ (l : List ℕ). NoneBelow (λ i. not (is_some (decimal most (take (suc i) l)))) (length q')) (append-nil q') (none_before q' [] g))
          (length q') (omega arith) (omega arith)

      go : (q' : List ℕ) → Fronts q' → read_answer (decimal most q') (stop_of most q') ≡ end_of (length q') (value_from 0 q')
      go [] g = ap Err (sym (at [] g))
      go (x ∷ xs) g = rw (whole x xs g, ne_eqb (suc (length xs)) 0 (λ e. omega arith)) (ap (λ (k : ℕ). Ok (value_from 0 (x ∷ xs), k)) (sym (at (x ∷ xs) g)))
