-- What the test of a log buffer says of each place; and where links stand.
-- Assumes nothing.
use Prim.Native.Nat.{ℕ, zero, suc, ◌+◌, ◌-◌, ◌^◌, ◌≤◌, ◌<◌}
use mathlib.Core.Path.{◌≡◌, refl, sym, ap, ◌∙◌, subst}
use mathlib.Core.Logic.{◌⊎◌, inl, inr, ◌↔◌}
use mathlib.Core.Bool.{Bool, true, false, not, cond, ◌&&◌, ◌||◌}
use mathlib.Core.List.{List}
use native.Mathlib.Omega.{arith}
use borrow.Author.Tests.{ltb-true, ltb-false, eqb-true, eqb-false}
use lib.Dec.{T, ltb, leb, eqb, ltb→lt, lt→ltb, leb→le, le→leb, eqb→eq, eqb_refl}
use lib.ListN.{length}
use Rattle.lists.specs.Places.{at}
use Rattle.sets.specs.Sets.{all_below, within}
use Rattle.sets.proofs.Truth.{and_i, and_l, and_r, or_cases}
use Rattle.sets.proofs.Below.{all_below_iff}
use Rattle.layout.specs.Layout.{most_board, most_steps, most_links, most_preds, labels_at, board_at, begin_at, link_at, log_length}
use Rattle.log_buffer.specs.Meaning.{steps_in}
use Rattle.log_buffer.specs.Valid.{values_ok, begin_ok, link_ok, links_ok, rest_ok, graph_ok, is_log}
use Rattle.log_buffer.proofs.TestLaws.{links, rises}

-- Where the links into v begin, and how many there are.
abbrev pub begin : List ℕ → ℕ → ℕ
begin b v = at b (begin_at v)

abbrev pub width : List ℕ → ℕ → ℕ
width b v = begin b (v + 1) - begin b v

pub record Sound (count : ℕ) (b : List ℕ) : Type 0 where
  pub long : log_length ≤ length b
  pub started : 1 ≤ steps_in b
  pub few_steps : steps_in b ≤ most_steps
  -- label sets and boards
  pub bare : at b (labels_at 0) ≡ 0
  pub labelled : (v : ℕ) → v < steps_in b → (v ≡ 0 → ⊥) → at b (labels_at v) < 2 ^ count
  pub boarded : (v : ℕ) → v < steps_in b → at b (board_at v) ≤ most_board
  pub no_labels : (v : ℕ) → steps_in b ≤ v → v < most_steps → at b (labels_at v) ≡ 0
  pub no_board : (v : ℕ) → steps_in b ≤ v → v < most_steps → at b (board_at v) ≡ 0
  -- where links begin
  pub start : begin b 0 ≡ 0
  pub unlinked : begin b 1 ≡ begin b 0
  pub linked : (v : ℕ) → v < steps_in b → (v ≡ 0 → ⊥) → begin b v < begin b (v + 1)
  pub at_most : (v : ℕ) → v < steps_in b → begin b (v + 1) ≤ begin b v + most_preds
  pub no_begin : (v : ℕ) → steps_in b ≤ v → v < most_steps → begin b (v + 1) ≡ 0
  pub few_links : begin b (steps_in b) ≤ most_links
  -- the links
  pub below : (v k : ℕ) → v < steps_in b → k < width b v → at b (link_at (begin b v + k)) < v
  pub rising : (v k : ℕ) → v < steps_in b → suc k < width b v → at b (link_at (begin b v + k)) < at b (link_at (begin b v + suc k))
  pub rest : (i : ℕ) → begin b (steps_in b) ≤ i → i < most_links → at b (link_at i) ≡ 0

-- ---- tests

eq→eqb : (m n : ℕ) → m ≡ n → T (eqb m n)
eq→eqb m n e = rw e (eqb_refl n)

first_iff : (v : ℕ) (x y : Bool) → T (cond (eqb v 0) x y) ↔ ((v ≡ 0 → T x) × ((v ≡ 0 → ⊥) → T y))
first_iff v x y = go (eqb v 0) refl
  where
    go : (t : Bool) → eqb v 0 ≡ t → T (cond t x y) ↔ ((v ≡ 0 → T x) × ((v ≡ 0 → ⊥) → T y))
    go true e = (λ u. (λ z. u, λ n. absurd (n (eqb-true v 0 e))), λ p. p.0 (eqb-true v 0 e))
    go false e = (λ u. (λ z. absurd (eqb-false v 0 e z), λ n. u), λ p. p.1 (eqb-false v 0 e))

inside_iff : (v n : ℕ) (x y : Bool) → T (cond (ltb v n) x y) ↔ ((v < n → T x) × (n ≤ v → T y))
inside_iff v n x y = go (ltb v n) refl
  where
    go : (t : Bool) → ltb v n ≡ t → T (cond t x y) ↔ ((v < n → T x) × (n ≤ v → T y))
    go true e = (λ u. (λ l. u, λ h. let l = ltb-true v n e in absurd (omega arith)), λ p. p.0 (ltb-true v n e))
    go false e = (λ u. (λ l. let h = ltb-false v n e in absurd (omega arith), λ h. u), λ p. p.1 (ltb-false v n e))

not_inside_iff : (v n : ℕ) (y : Bool) → T (not (ltb v n) || y) ↔ (v < n → T y)
not_inside_iff v n y = go (ltb v n) refl
  where
    go : (t : Bool) → ltb v n ≡ t → T (not t || y) ↔ (v < n → T y)
    go true e = (λ u l. u, λ p. p (ltb-true v n e))
    go false e = (λ u l. let h = ltb-false v n e in absurd (omega arith), λ p. tt)

-- ---- one step

module _ (count : ℕ) (b : List ℕ) (v : ℕ) where
  abbrev set : ℕ
  set = at b (labels_at v)

  abbrev board : ℕ
  board = at b (board_at v)

  abbrev labelling : Bool
  labelling = cond (eqb v 0) (eqb set 0) (within count set)

  abbrev Values : Type 0
  Values = (v < steps_in b → ((v ≡ 0 → set ≡ 0) × ((v ≡ 0 → ⊥) → set < 2 ^ count)) × (board ≤ most_board)) × (steps_in b ≤ v → (set ≡ 0) × (board ≡ 0))

  values_iff : T (values_ok count b v) ↔ Values
  values_iff = (λ t. out (cases.0 t), λ p. cases.1 (into p))
    where
      cases : T (values_ok count b v) ↔ ((v < steps_in b → T (labelling && leb board most_board)) × (steps_in b ≤ v → T (eqb set 0 && eqb board 0)))
      cases = inside_iff v (steps_in b) (labelling && leb board most_board) (eqb set 0 && eqb board 0)

      first : T labelling ↔ ((v ≡ 0 → T (eqb set 0)) × ((v ≡ 0 → ⊥) → T (within count set)))
      first = first_iff v (eqb set 0) (within count set)

      out : (v < steps_in b → T (labelling && leb board most_board)) × (steps_in b ≤ v → T (eqb set 0 && eqb board 0)) → Values
      out c = (
        λ l.
            let t = c.0 l in
            let f = first.0 (and_l labelling (leb board most_board) t) in
            ((λ z. eqb→eq set 0 (f.0 z), λ n. ltb→lt set (2 ^ count) (f.1 n)), leb→le board most_board (and_r labelling (leb board most_board) t)),
        λ h. let t = c.1 h in (eqb→eq set 0 (and_l (eqb set 0) (eqb board 0) t), eqb→eq board 0 (and_r (eqb set 0) (eqb board 0) t)),
      )

      into : Values → (v < steps_in b → T (labelling && leb board most_board)) × (steps_in b ≤ v → T (eqb set 0 && eqb board 0))
      into p = (
        λ l.
            and_i labelling (leb board most_board)
            (first.1 (λ z. eq→eqb set 0 ((p.0 l).0.0 z), λ n. lt→ltb set (2 ^ count) ((p.0 l).0.1 n))) (le→leb board most_board (p.0 l).1),
        λ h. and_i (eqb set 0) (eqb board 0) (eq→eqb set 0 (p.1 h).0) (eq→eqb board 0 (p.1 h).1),
      )

module _ (b : List ℕ) (v : ℕ) where
  abbrev from : ℕ
  from = begin b v

  abbrev upto : ℕ
  upto = begin b (v + 1)

  abbrev onward : Bool
  onward = ltb from upto && leb upto (from + most_preds)

  abbrev Begins : Type 0
  Begins = (v < steps_in b → (v ≡ 0 → upto ≡ from) × ((v ≡ 0 → ⊥) → (from < upto) × (upto ≤ from + most_preds))) × (steps_in b ≤ v → upto ≡ 0)

  begins_iff : T (begin_ok b v) ↔ Begins
  begins_iff = (λ t. out (cases.0 t), λ p. cases.1 (into p))
    where
      cases : T (begin_ok b v) ↔ ((v < steps_in b → T (cond (eqb v 0) (eqb upto from) onward)) × (steps_in b ≤ v → T (eqb upto 0)))
      cases = inside_iff v (steps_in b) (cond (eqb v 0) (eqb upto from) onward) (eqb upto 0)

      first : T (cond (eqb v 0) (eqb upto from) onward) ↔ ((v ≡ 0 → T (eqb upto from)) × ((v ≡ 0 → ⊥) → T onward))
      first = first_iff v (eqb upto from) onward

      out : (v < steps_in b → T (cond (eqb v 0) (eqb upto from) onward)) × (steps_in b ≤ v → T (eqb upto 0)) → Begins
      out c = (
        λ l.
            let f = first.0 (c.0 l) in (
              λ z. eqb→eq upto from (f.0 z),
              λ n. (
                ltb→lt from upto (and_l (ltb from upto) (leb upto (from + most_preds)) (f.1 n)),
                leb→le upto (from + most_preds) (and_r (ltb from upto) (leb upto (from + most_preds)) (f.1 n)),
              ),
            ),
        λ h. eqb→eq upto 0 (c.1 h),
      )

      into : Begins → (v < steps_in b → T (cond (eqb v 0) (eqb upto from) onward)) × (steps_in b ≤ v → T (eqb upto 0))
      into p = (
        λ l.
            first.1 (
              λ z. eq→eqb upto from ((p.0 l).0 z),
              λ n.
                  and_i (ltb from upto) (leb upto (from + most_preds)) (lt→ltb from upto ((p.0 l).1 n).0) (le→leb upto (from + most_preds) ((p.0 l).1 n).1),
            ),
        λ h. eq→eqb upto 0 (p.1 h),
      )

  -- the links from k on of those into v
  abbrev link : ℕ → ℕ
  link k = at b (link_at (from + k))

  link_iff : (i : ℕ) → T (link_ok b v i) ↔ ((at b (link_at i) < v) × ((i ≡ from → ⊥) → at b (link_at (i - 1)) < at b (link_at i)))
  link_iff i = (out, into)
    where
      out : T (link_ok b v i) → (at b (link_at i) < v) × ((i ≡ from → ⊥) → at b (link_at (i - 1)) < at b (link_at i))
      out t = (
        ltb→lt (at b (link_at i)) v (and_l (ltb (at b (link_at i)) v) (eqb i from || ltb (at b (link_at (i - 1))) (at b (link_at i))) t),
        λ n. pick n (or_cases (eqb i from) (ltb (at b (link_at (i - 1))) (at b (link_at i)))
            (and_r (ltb (at b (link_at i)) v) (eqb i from || ltb (at b (link_at (i - 1))) (at b (link_at i))) t)),
      )
        where
          pick : (i ≡ from → ⊥) → T (eqb i from) ⊎ T (ltb (at b (link_at (i - 1))) (at b (link_at i))) → at b (link_at (i - 1)) < at b (link_at i)
          pick n (inl e) = absurd (n (eqb→eq i from e))
          pick n (inr l) = ltb→lt (at b (link_at (i - 1))) (at b (link_at i)) l

      into : (at b (link_at i) < v) × ((i ≡ from → ⊥) → at b (link_at (i - 1)) < at b (link_at i)) → T (link_ok b v i)
      into p =
          and_i (ltb (at b (link_at i)) v) (eqb i from || ltb (at b (link_at (i - 1))) (at b (link_at i))) (lt→ltb (at b (link_at i)) v p.0)
          (pick (eqb i from) refl)
        where
          pick : (t : Bool) → eqb i from ≡ t → T (t || ltb (at b (link_at (i - 1))) (at b (link_at i)))
          pick true e = tt
          pick false e = lt→ltb (at b (link_at (i - 1))) (at b (link_at i)) (p.1 (eqb-false i from e))

  abbrev Links : Type 0
  Links = ((k : ℕ) → v < steps_in b → k < width b v → link k < v) × ((k : ℕ) → v < steps_in b → suc k < width b v → link k < link (suc k))

  links_iff : T (links_ok b v) ↔ Links
  links_iff = (λ t. out (λ l. each.0 (cases.0 t l)), λ p. cases.1 (λ l. each.1 (into p l)))
    where
      each : T (all_below (width b v) (links b v)) ↔ ((k : ℕ) → k < width b v → T (links b v k))
      each = all_below_iff (width b v) (links b v)

      cases : T (links_ok b v) ↔ (v < steps_in b → T (all_below (width b v) (links b v)))
      cases = not_inside_iff v (steps_in b) (all_below (width b v) (links b v))

      before : (k : ℕ) → from + suc k - 1 ≡ from + k
      before k = omega arith

      out : (v < steps_in b → (k : ℕ) → k < width b v → T (links b v k)) → Links
      out f = (
        λ k l h. ((link_iff (from + k)).0 (f l k h)).0,
        λ k l h.
            subst (λ (i : ℕ). at b (link_at i) < link (suc k)) (before k)
            (((link_iff (from + suc k)).0 (f l (suc k) h)).1 (λ e. absurd (omega arith))),
      )

      into : Links → v < steps_in b → (k : ℕ) → k < width b v → T (links b v k)
      into p l zero h = (link_iff (from + 0)).1 (p.0 0 l h, λ n. absurd (n (omega arith)))
      into p l (suc k) h =
          (link_iff (from + suc k)).1 (p.0 (suc k) l h, λ n. subst (λ (i : ℕ). at b (link_at i) < link (suc k)) (sym (before k)) (p.1 k l h))

rest_iff : (b : List ℕ) (i : ℕ) → T (rest_ok b i) ↔ (begin b (steps_in b) ≤ i → at b (link_at i) ≡ 0)
rest_iff b i = go (ltb i (begin b (steps_in b))) refl
  where
    go : (t : Bool) → ltb i (begin b (steps_in b)) ≡ t → T (t || eqb (at b (link_at i)) 0) ↔ (begin b (steps_in b) ≤ i → at b (link_at i) ≡ 0)
    go true e = (λ u h. let l = ltb-true i (begin b (steps_in b)) e in absurd (omega arith), λ p. tt)
    go false e = (λ u h. eqb→eq (at b (link_at i)) 0 u, λ p. eq→eqb (at b (link_at i)) 0 (p (ltb-false i (begin b (steps_in b)) e)))

-- ---- all of it

and_iff : (a c : Bool) {A C : Type 0} → T a ↔ A → T c ↔ C → T (a && c) ↔ (A × C)
and_iff a c f g = (λ t. (f.0 (and_l a c t), g.0 (and_r a c t)), λ p. and_i a c (f.1 p.0) (g.1 p.1))

le_iff : (m n : ℕ) → T (leb m n) ↔ (m ≤ n)
le_iff m n = (leb→le m n, le→leb m n)

each_iff : (n : ℕ) (f : ℕ → Bool) {Q : ℕ → Type 0} → ((v : ℕ) → T (f v) ↔ Q v) → T (all_below n f) ↔ ((v : ℕ) → v < n → Q v)
each_iff n f h = (λ t v l. (h v).0 ((all_below_iff n f).0 t v l), λ q. (all_below_iff n f).1 (λ v l. (h v).1 (q v l)))

module _ (count : ℕ) (b : List ℕ) where
  abbrev links_on : Bool
  links_on = all_below most_steps (links_ok b) && all_below most_links (rest_ok b)

  abbrev total_on : Bool
  total_on = leb (begin b (steps_in b)) most_links && links_on

  abbrev values_on : Bool
  values_on = all_below most_steps (values_ok count b) && graph_ok b

  abbrev Graph : Type 0
  Graph = (begin b 0 ≡ 0) × (((v : ℕ) → v < most_steps → Begins b v) × ((begin b (steps_in b) ≤ most_links)
      × (((v : ℕ) → v < most_steps → Links b v) × ((i : ℕ) → i < most_links → begin b (steps_in b) ≤ i → at b (link_at i) ≡ 0))))

  graph_iff : T (graph_ok b) ↔ Graph
  graph_iff =
      and_iff (eqb (begin b 0) 0) (all_below most_steps (begin_ok b) && total_on) (eqb→eq (begin b 0) 0, eq→eqb (begin b 0) 0)
      (and_iff (all_below most_steps (begin_ok b)) total_on (each_iff most_steps (begin_ok b) (begins_iff b))
      (and_iff (leb (begin b (steps_in b)) most_links) links_on (le_iff (begin b (steps_in b)) most_links)
      (and_iff (all_below most_steps (links_ok b)) (all_below most_links (rest_ok b)) (each_iff most_steps (links_ok b) (links_iff b)) (each_iff most_links (rest_ok b) (rest_iff b)))))

  abbrev Parts : Type 0
  Parts = (log_length ≤ length b) × ((1 ≤ steps_in b) × ((steps_in b ≤ most_steps) × (((v : ℕ) → v < most_steps → Values count b v) × Graph)))

  parts_iff : T (is_log count b) ↔ Parts
  unfolding is_log
  parts_iff =
      and_iff (leb log_length (length b)) (leb 1 (steps_in b) && (leb (steps_in b) most_steps && values_on)) (le_iff log_length (length b))
      (and_iff (leb 1 (steps_in b)) (leb (steps_in b) most_steps && values_on) (le_iff 1 (steps_in b))
      (and_iff (leb (steps_in b) most_steps) values_on (le_iff (steps_in b) most_steps)
      (and_iff (all_below most_steps (values_ok count b)) (graph_ok b) (each_iff most_steps (values_ok count b) (values_iff count b)) graph_iff)))

  sound_out : Parts → Sound count b
  sound_out p =
      let some = p.1.0 in
      let few = p.1.1.0 in
      let values = p.1.1.1.0 in
      let graph = p.1.1.1.1 in
      let begins = graph.1.0 in
      let first : begin b 1 ≡ begin b 0 = ((begins 0 (omega arith)).0 some).0 refl in
      record {
        long = p.0;
        started = some;
        few_steps = few;
        bare = ((values 0 (omega arith)).0 some).0.0 refl;
        labelled = λ v l. ((values v (omega arith)).0 l).0.1;
        boarded = λ v l. ((values v (omega arith)).0 l).1;
        no_labels = λ v h l. ((values v l).1 h).0;
        no_board = λ v h l. ((values v l).1 h).1;
        start = graph.0;
        unlinked = first;
        linked = λ v l n. (((begins v (omega arith)).0 l).1 n).0;
        at_most = λ v l. most v l (λ n. (((begins v (omega arith)).0 l).1 n).1) first;
        no_begin = λ v h l. (begins v l).1 h;
        few_links = graph.1.1.0;
        below = λ v k l. (graph.1.1.1.0 v (omega arith)).0 k l;
        rising = λ v k l. (graph.1.1.1.0 v (omega arith)).1 k l;
        rest = λ i h l. graph.1.1.1.1 i l h;
      }
    where
      most : (v : ℕ) → v < steps_in b → ((v ≡ 0 → ⊥) → begin b (v + 1) ≤ begin b v + most_preds) → begin b 1 ≡ begin b 0
          → begin b (v + 1) ≤ begin b v + most_preds
      most zero l f e = omega arith
      most (suc v) l f e = f (λ z. absurd (omega arith))

  sound_in : Sound count b → Parts
  sound_in s = (s.long, (s.started, (s.few_steps, (values, (s.start, (begins, (s.few_links, links)))))))
    where
      links : ((v : ℕ) → v < most_steps → Links b v) × ((i : ℕ) → i < most_links → begin b (steps_in b) ≤ i → at b (link_at i) ≡ 0)
      links = (λ v l. (s.below v, s.rising v), λ i l h. s.rest i h l)

      values : (v : ℕ) → v < most_steps → Values count b v
      values v l = (
        λ h. ((λ z. ap (λ (k : ℕ). at b (labels_at k)) z ∙ s.bare, λ n. s.labelled v h n), s.boarded v h),
        λ h. (s.no_labels v h l, s.no_board v h l),
      )

      begins : (v : ℕ) → v < most_steps → Begins b v
      begins v l = (λ h. (λ z. same z, λ n. (s.linked v h n, s.at_most v h)), λ h. s.no_begin v h l)
        where
          same : v ≡ 0 → begin b (v + 1) ≡ begin b v
          same z = rw z s.unlinked

  pub sound_iff : T (is_log count b) ↔ Sound count b
  sound_iff = (λ t. sound_out (parts_iff.0 t), λ s. parts_iff.1 (sound_in s))

-- ---- where links stand

module _ {count : ℕ} {b : List ℕ} (s : Sound count b) where
  pub begin_next : (v : ℕ) → v < steps_in b → begin b v ≤ begin b (v + 1)
  begin_next zero l = let e = s.unlinked in omega arith
  begin_next (suc v) l = let h = s.linked (suc v) l (λ z. absurd (omega arith)) in omega arith

  -- the places where links begin rise
  pub begin_rises : (u v : ℕ) → u ≤ v → v ≤ steps_in b → begin b u ≤ begin b v
  begin_rises u v h k =
      let d : ℕ = v - u in
      let r = rises (begin b) (steps_in b) begin_next d u (omega arith) in
      let e : u + d ≡ v = omega arith in
      let f = ap (begin b) e in
      omega arith

  pub begin_inside : (v : ℕ) → v ≤ steps_in b → begin b v ≤ most_links
  begin_inside v h = let r = begin_rises v (steps_in b) h (omega arith) in let k = s.few_links in omega arith
