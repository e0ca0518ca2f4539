-- Reading a number byte by byte, up to a separator: the loop's own recursion, and that it answers what is defined.
-- Assumes nothing.
use mathlib.Core.Path.{◌≡◌, refl, sym, ap, ◌∙◌}
use mathlib.Core.Bool.{Bool, true, false, cond, ◌&&◌, ◌||◌}
use mathlib.Core.List.{List, [], ◌∷◌, ◌++◌, append_assoc}
use Rattle.std.specs.Prelude.{Result, Ok, Err}
use Prim.Native.Nat.{ℕ, zero, suc, ◌+◌, ◌-◌, ◌*◌, ◌≤◌, ◌<◌}
use native.Mathlib.Omega.{arith}
use borrow.Author.Tests.{le-leb, lt-leb, lt-ltb, le-ltb, eq-eqb, ne_eqb, eqb-true, eqb-false, ltb-true, ltb-false, leb-true, leb-false}
use lib.Dec.{eqb, ltb, leb}
use lib.ListN.{length, get_or, drop, drop_of_length-le, length-append}
use Rattle.lists.proofs.Parts.{drop_step}
use Rattle.text.specs.Split.{first_part}
use Rattle.fields.proofs.FieldLaws.{first_empty, first_at, first_on}
use Rattle.layout.specs.Layout.{most_number}
use Rattle.numbers.specs.Numbers.{digit, value_from, decimal, stop_of, read_answer, first_read, end_of}
use Rattle.numbers.proofs.Fronts.{Fronts, fronts_none, Stops, stops_digit, stops_large, stops_zero, goes_on, stop_there, stop_end, value_append}

-- The value with one byte more, after so many bytes of this value; one over the largest where no number can follow.
next_value : ℕ → ℕ → ℕ → ℕ → ℕ
next_value most size value b =
    cond (digit b && ((ltb 0 value || eqb size 0) && leb (value * 10 + (b - 48)) most)) (value * 10 + (b - 48)) (suc most)

-- The answer where i bytes are read, digits of the value v, and the bytes are left.
pub read_from : ℕ → ℕ → ℕ → ℕ → List ℕ → Result (ℕ × ℕ) ℕ
read_from most sep i v [] = end_of i v
read_from most sep i v (b ∷ bs) =
    cond (eqb b sep) (end_of i v) (cond (leb (next_value most i v b) most) (read_from most sep (i + 1) (next_value most i v b) bs) (Err i))

abbrev follows : ℕ → ℕ → ℕ → ℕ → Bool
follows most i v b = digit b && ((ltb 0 v || eqb i 0) && leb (v * 10 + (b - 48)) most)

module _ (most i v b : ℕ) where
  next_none : follows most i v b ≡ false → next_value most i v b ≡ suc most
  unfolding next_value
  next_none e = rw e

  next_some : follows most i v b ≡ true → next_value most i v b ≡ v * 10 + (b - 48)
  unfolding next_value
  next_some e = rw e

  next_fits : follows most i v b ≡ true → v * 10 + (b - 48) ≤ most
  next_fits e = leb-true (v * 10 + (b - 48)) most (go (digit b) (ltb 0 v || eqb i 0) e)
    where
      go : (s t : Bool) → (s && (t && leb (v * 10 + (b - 48)) most)) ≡ true → leb (v * 10 + (b - 48)) most ≡ true
      go true true f = f
      go true false f = let z : ◌≡◌ {A = ℕ} 0 1 = cc in absurd (omega arith)
      go false t f = let z : ◌≡◌ {A = ℕ} 0 1 = cc in absurd (omega arith)

module _ (most sep : ℕ) where
  from_none : (i v : ℕ) → read_from most sep i v [] ≡ end_of i v
  unfolding read_from
  from_none i v = refl

  from_separator : (i v b : ℕ) (bs : List ℕ) → b ≡ sep → read_from most sep i v (b ∷ bs) ≡ end_of i v
  unfolding read_from
  from_separator i v b bs e = rw (eq-eqb b sep e)

  module _ (i v b : ℕ) (bs : List ℕ) (n : b ≡ sep → ⊥) where
    from_over : most < next_value most i v b → read_from most sep i v (b ∷ bs) ≡ Err i
    unfolding read_from
    from_over h = rw (ne_eqb b sep n, lt-leb (next_value most i v b) most h)

    from_next : next_value most i v b ≤ most → read_from most sep i v (b ∷ bs) ≡ read_from most sep (i + 1) (next_value most i v b) bs
    unfolding read_from
    from_next h = rw (ne_eqb b sep n, le-leb (next_value most i v b) most h)

    from_stop : follows most i v b ≡ false → read_from most sep i v (b ∷ bs) ≡ Err i
    from_stop e = from_over (let z = next_none most i v b e in omega arith)

    from_more : follows most i v b ≡ true → read_from most sep i v (b ∷ bs) ≡ read_from most sep (i + 1) (v * 10 + (b - 48)) bs
    from_more e =
        let z = next_some most i v b e in
        let h = next_fits most i v b e in
        from_next (omega arith) ∙ ap (λ (w : ℕ). read_from most sep (i + 1) w bs) z

  abbrev answer_for : List ℕ → Result (ℕ × ℕ) ℕ
  answer_for f = read_answer (decimal most f) (stop_of most f)

  value_next : (q : List ℕ) (b : ℕ) → value_from 0 (q ++ (b ∷ [])) ≡ value_from 0 q * 10 + (b - 48)
  unfolding value_from
  value_next q b = value_append 0 q (b ∷ [])

  -- Where q is read, and each of its fronts is a number.
  agrees : (m q : List ℕ) → Fronts most q → answer_for (q ++ first_part sep m) ≡ read_from most sep (length q) (value_from 0 q) m
  agrees [] q f = ap (λ (l : List ℕ). answer_for (q ++ l)) (first_empty sep) ∙ stop_end most q f ∙ sym (from_none (length q) (value_from 0 q))
  agrees (b ∷ bs) q f = go (λ g. agrees bs (q ++ (b ∷ [])) g) (eqb b sep) refl
    where
      Rest : Type 0
      Rest = Fronts most (q ++ (b ∷ [])) → answer_for ((q ++ (b ∷ [])) ++ first_part sep bs) ≡ read_from most sep (length (q ++ (b ∷ []))) (value_from 0 (q ++ (b ∷ []))) bs

      stop : (b ≡ sep → ⊥) → follows most (length q) (value_from 0 q) b ≡ false → Stops most q b
          → answer_for (q ++ first_part sep (b ∷ bs)) ≡ read_from most sep (length q) (value_from 0 q) (b ∷ bs)
      stop n e s =
          ap (λ (l : List ℕ). answer_for (q ++ l)) (first_on sep b bs n) ∙ stop_there most q b (first_part sep bs) f s
          ∙ sym (from_stop (length q) (value_from 0 q) b bs n e)

      on : Rest → (b ≡ sep → ⊥) → follows most (length q) (value_from 0 q) b ≡ true
          → Fronts most (q ++ (b ∷ [])) → answer_for (q ++ first_part sep (b ∷ bs)) ≡ read_from most sep (length q) (value_from 0 q) (b ∷ bs)
      on rest n e g =
          ap (λ (l : List ℕ). answer_for (q ++ l)) (first_on sep b bs n) ∙ ap answer_for (sym (append_assoc q (b ∷ []) (first_part sep bs)))
          ∙ rest g
          ∙ rw (length-append q (b ∷ []), value_next q b) (sym (from_more (length q) (value_from 0 q) b bs n e))

      tests : Rest → (b ≡ sep → ⊥) → (d : Bool) → digit b ≡ d → (z : Bool) → ltb 0 (value_from 0 q) ≡ z → (y : Bool) → eqb (length q) 0 ≡ y
          → (l : Bool) → leb (value_from 0 q * 10 + (b - 48)) most ≡ l
          → answer_for (q ++ first_part sep (b ∷ bs)) ≡ read_from most sep (length q) (value_from 0 q) (b ∷ bs)
      tests rest n false d z zz y yy l ll = stop n (rw d refl) (stops_digit most q b f d)
      tests rest n true d false zz false yy l ll =
          let a = ltb-false 0 (value_from 0 q) zz in
          let c = eqb-false (length q) 0 yy in
          stop n (rw (d, zz, yy) refl) (stops_zero most q b f (omega arith) (positive (length q) c))
        where
          positive : (k : ℕ) → (k ≡ 0 → ⊥) → 0 < k
          positive zero c = absurd (c refl)
          positive (suc k) c = omega arith
      tests rest n true d true zz y yy false ll = stop n (rw (d, zz, ll) refl) (stops_large most q b f (leb-false (value_from 0 q * 10 + (b - 48)) most ll))
      tests rest n true d true zz y yy true ll =
          let a = ltb-true 0 (value_from 0 q) zz in
          on rest n (rw (d, zz, ll) refl) (goes_on most q b f d (λ e. absurd (omega arith)) (leb-true (value_from 0 q * 10 + (b - 48)) most ll))
      tests rest n true d false zz true yy false ll = stop n (rw (d, zz, yy, ll) refl) (stops_large most q b f (leb-false (value_from 0 q * 10 + (b - 48)) most ll))
      tests rest n true d false zz true yy true ll =
          on rest n (rw (d, zz, yy, ll) refl) (goes_on most q b f d (λ e. eqb-true (length q) 0 yy) (leb-true (value_from 0 q * 10 + (b - 48)) most ll))

      go : Rest → (t : Bool) → eqb b sep ≡ t → answer_for (q ++ first_part sep (b ∷ bs)) ≡ read_from most sep (length q) (value_from 0 q) (b ∷ bs)
      go rest true e =
          let q' = eqb-true b sep e in
          ap (λ (l : List ℕ). answer_for (q ++ l)) (first_at sep b bs q') ∙ stop_end most q f ∙ sym (from_separator (length q) (value_from 0 q) b bs q')
      go rest false e =
          tests rest (eqb-false b sep e) (digit b) refl (ltb 0 (value_from 0 q)) refl (eqb (length q) 0) refl (leb (value_from 0 q * 10 + (b - 48)) most) refl

-- ---- before the loop

begin_value : value_from 0 [] ≡ 0
unfolding value_from
begin_value = refl

pub begin : (sep : ℕ) (l : List ℕ) → first_read sep l ≡ read_from most_number sep 0 0 (drop 0 l)
unfolding first_read
begin sep l = agrees most_number sep l [] (fronts_none most_number) ∙ rw begin_value refl

pub none_left : (sep : ℕ) (l : List ℕ) → length l ≡ 0 → Err 0 ≡ first_read sep l
none_left sep l e =
    sym (begin sep l ∙ ap (read_from most_number sep 0 0) (drop_of_length-le l {i = 0} (omega arith)) ∙ from_none most_number sep 0 0)

pub some_left : (l : List ℕ) → (length l ≡ 0 → ⊥) → 0 < length l
some_left l n = positive (length l) n
  where
    positive : (k : ℕ) → (k ≡ 0 → ⊥) → 0 < k
    positive zero c = absurd (c refl)
    positive (suc k) c = omega arith

pub ruleset first_kit = (none_left, some_left)

-- ---- a zero in front

module _ (sep : ℕ) (l : List ℕ) (Some : 0 < length l) (zero_first : get_or l 0 0 ≡ 48) (low : sep < 48) where
  zero_follows : follows most_number 0 0 (get_or l 0 0) ≡ true
  zero_follows =
      let e = zero_first in
      rw (le-leb 48 (get_or l 0 0) (omega arith), le-leb (get_or l 0 0) 57 (omega arith), eq-eqb 0 0 refl, le-leb (0 * 10 + (get_or l 0 0 - 48)) most_number (omega arith)) (or_true (ltb 0 0))
    where
      or_true : (t : Bool) → ((t || true) && true) ≡ true
      or_true true = refl
      or_true false = refl

  behind_zero : first_read sep l ≡ read_from most_number sep 1 0 (drop 1 l)
  behind_zero =
      let e = zero_first in
      let z : 0 * 10 + (get_or l 0 0 - 48) ≡ 0 = omega arith in
      begin sep l ∙ ap (read_from most_number sep 0 0) (drop_step l 0 Some)
      ∙ from_more most_number sep 0 0 (get_or l 0 0) (drop 1 l) (λ q. absurd (omega arith)) zero_follows
      ∙ ap (λ (w : ℕ). read_from most_number sep 1 w (drop 1 l)) z

  one_read : end_of 1 0 ≡ Ok (0, 1)
  one_read = refl

  pub zero_alone : length l ≡ 1 → Ok (0, 1) ≡ first_read sep l
  zero_alone e = sym (behind_zero ∙ ap (read_from most_number sep 1 0) (drop_of_length-le l {i = 1} (omega arith)) ∙ from_none most_number sep 1 0 ∙ one_read)

  module _ (more : length l ≡ 1 → ⊥) where
    longer : 1 < length l
    longer = beyond (length l) Some more
      where
        beyond : (k : ℕ) → 0 < k → (k ≡ 1 → ⊥) → 1 < k
        beyond zero h c = absurd (omega arith)
        beyond (suc zero) h c = absurd (c refl)
        beyond (suc (suc k)) h c = omega arith

    pub zero_longer : 1 < length l
    zero_longer = longer

    pub zero_ended : get_or l 1 0 ≡ sep → Ok (0, 1) ≡ first_read sep l
    zero_ended q =
        sym (behind_zero ∙ ap (read_from most_number sep 1 0) (drop_step l 1 longer) ∙ from_separator most_number sep 1 0 (get_or l 1 0) (drop 2 l) q ∙ one_read)

    pub zero_followed : (get_or l 1 0 ≡ sep → ⊥) → Err 1 ≡ first_read sep l
    zero_followed q =
        sym (behind_zero ∙ ap (read_from most_number sep 1 0) (drop_step l 1 longer)
        ∙ from_stop most_number sep 1 0 (get_or l 1 0) (drop 2 l) q (rw (le-ltb 0 0 (omega arith), ne_eqb 1 0 (λ e. omega arith)) (None (digit (get_or l 1 0)))))
      where
        None : (t : Bool) → (t && false) ≡ false
        None true = refl
        None false = refl

pub ruleset zero_kit = (zero_alone, zero_longer, zero_ended, zero_followed)

-- ---- the loop over digits

-- The first byte is no zero: so bytes that were read have a value.
pub record Leads (l : List ℕ) (i v : ℕ) : Type 0 where
  pub first : get_or l 0 0 ≡ 48 → ⊥
  pub value : (i ≡ 0 → ⊥) → 0 < v

pub leads_none : (l : List ℕ) → (get_or l 0 0 ≡ 48 → ⊥) → Leads l 0 0
leads_none l f = record { first = f; value = λ n. absurd (n refl) }

module _ (sep : ℕ) (l : List ℕ) (i v : ℕ) (inv : first_read sep l ≡ read_from most_number sep i v (drop i l)) where
  pub finish : (r : Result (ℕ × ℕ) ℕ) → length l ≤ i → r ≡ end_of i v → r ≡ first_read sep l
  finish r h e = e ∙ sym (inv ∙ ap (read_from most_number sep i v) (drop_of_length-le l h) ∙ from_none most_number sep i v)

  module _ (lt : i < length l) where
    here : first_read sep l ≡ read_from most_number sep i v (get_or l i 0 ∷ drop (i + 1) l)
    here = inv ∙ ap (read_from most_number sep i v) (drop_step l i lt)

    pub separator : (r : Result (ℕ × ℕ) ℕ) → get_or l i 0 ≡ sep → r ≡ end_of i v → r ≡ first_read sep l
    separator r e f = f ∙ sym (here ∙ from_separator most_number sep i v (get_or l i 0) _ e)

    pub low : get_or l i 0 < 48 → (get_or l i 0 ≡ sep → ⊥) → Err i ≡ first_read sep l
    low h n = sym (here ∙ from_stop most_number sep i v (get_or l i 0) _ n (rw (lt-leb 48 (get_or l i 0) h) refl))

    module _ (below : sep < 48) (h : 48 ≤ get_or l i 0) where
      other : get_or l i 0 ≡ sep → ⊥
      other e = absurd (omega arith)

      pub high : 57 < get_or l i 0 → Err i ≡ first_read sep l
      high k = sym (here ∙ from_stop most_number sep i v (get_or l i 0) _ other (rw (le-leb 48 (get_or l i 0) h, lt-leb (get_or l i 0) 57 k) refl))

      module _ (k : get_or l i 0 ≤ 57) where
        pub large : most_number < v * 10 + (get_or l i 0 - 48) → Err i ≡ first_read sep l
        large m =
            sym (here ∙ from_stop most_number sep i v (get_or l i 0) _ other
            (rw (le-leb 48 (get_or l i 0) h, le-leb (get_or l i 0) 57 k, lt-leb (v * 10 + (get_or l i 0 - 48)) most_number m) (None (ltb 0 v || eqb i 0))))
          where
            None : (t : Bool) → (t && false) ≡ false
            None true = refl
            None false = refl

        module _ (leads : Leads l i v) where
          pub again : v * 10 + (get_or l i 0 - 48) ≤ most_number → first_read sep l ≡ read_from most_number sep (i + 1) (v * 10 + (get_or l i 0 - 48)) (drop (i + 1) l)
          again m = here ∙ from_more most_number sep i v (get_or l i 0) _ other (rw (le-leb 48 (get_or l i 0) h, le-leb (get_or l i 0) 57 k, le-leb (v * 10 + (get_or l i 0 - 48)) most_number m) (both (eqb i 0) refl))
            where
              or_true : (t : Bool) → ((t || true) && true) ≡ true
              or_true true = refl
              or_true false = refl

              both : (t : Bool) → eqb i 0 ≡ t → ((ltb 0 v || eqb i 0) && true) ≡ true
              both true e = rw e (or_true (ltb 0 v))
              both false e = rw (lt-ltb 0 v (leads.value (eqb-false i 0 e))) refl

          pub leads_more : Leads l (i + 1) (v * 10 + (get_or l i 0 - 48))
          leads_more = record { first = leads.first; value = λ n. go (eqb i 0) refl }
            where
              nonzero : (b : ℕ) → 48 ≤ b → (b ≡ 48 → ⊥) → 48 < b
              nonzero b a c = omega arith

              go : (t : Bool) → eqb i 0 ≡ t → 0 < v * 10 + (get_or l i 0 - 48)
              go true e =
                  let z = eqb-true i 0 e in
                  let f : get_or l i 0 ≡ 48 → ⊥ = λ q. leads.first (ap (λ (j : ℕ). get_or l j 0) (sym z) ∙ q) in
                  let p = nonzero (get_or l i 0) h f in
                  omega arith
              go false e = let p = leads.value (eqb-false i 0 e) in omega arith

pub ruleset digits_kit = (begin, leads_none, finish, separator, low, high, large, again, leads_more)

-- ---- the end of a field

module _ (size v : ℕ) where
  pub ends_none : size ≡ 0 → Err 0 ≡ end_of size v
  ends_none e = sym (rw (eq-eqb size 0 e) refl)

  pub ends_some : (size ≡ 0 → ⊥) → Ok (v, size) ≡ end_of size v
  ends_some n = sym (rw (ne_eqb size 0 n) refl)

pub ruleset end_kit = (ends_none, ends_some)
