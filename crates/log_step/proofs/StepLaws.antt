-- A line below the header, test by test, as document 01 orders them.
-- Assumes nothing.
use mathlib.Core.Path.{◌≡◌, refl, sym, ap, ◌∙◌, subst}
use mathlib.Core.Bool.{Bool, true, false, not, ◌||◌}
use mathlib.Core.List.{List, []}
use Prim.Native.Nat.{ℕ, ◌+◌, ◌-◌, ◌≤◌, ◌<◌}
use native.Mathlib.Omega.{arith}
use borrow.Author.Tests.{lt-ltb, le-ltb, eq-eqb, ne_eqb, ltb-true, ltb-false}
use lib.Dec.{ltb}
use lib.ListN.{length, get_or, take}
use Rattle.std.specs.Prelude.{Option, Some, None, Result, Ok, Err}
use Rattle.numbers.specs.Numbers.{number_of}
use Rattle.numbers.specs.Listed.{list_of, is_list}
use Rattle.layout.specs.Layout.{most_preds, most_steps, most_links, most_board}
use Rattle.log_line.specs.Header.{Columns}
use Rattle.log_line.specs.Step.{label_set_in, malformed, mislabelled, link_count, over_limit}
use Rattle.log_line.specs.Format.{Known}
use Rattle.log_line.specs.inner.Scan.{Formed, Scanned}
use Rattle.log_line.specs.declared.preds.Preds.{Preds}
use Rattle.log_line.specs.declared.refusals.Refusal.{Refusal}
use Rattle.log_line.specs.declared.refusals.Refusal.TheVariants.{Malformed, Number, Links, Labels, Limit}
use Rattle.log_step.specs.declared.Row.{Row}
use Rattle.log_line.specs.declared.preds.Links.{Links as LinksOf}
use Rattle.log_step.specs.declared.StepValues.{StepValues}
use Rattle.log_step.specs.Limits.{InLimits}
use Rattle.log_step.specs.Answers.{RowOf, ReadAs, JudgedBy, StepJudged}

-- ---- the limits

-- So many links in the line, step v, and so many links before it.
abbrev over : ℕ → ℕ → ℕ → Bool
over n v before = ltb most_preds n || (not (ltb v most_steps) || ltb most_links (before + n))

pub in_limits : (n v before : ℕ) → over n v before ≡ false → InLimits n v before
in_limits n v before e = go (ltb most_preds n) refl (ltb v most_steps) refl (ltb most_links (before + n)) refl e
  where
    go : (s : Bool) → ltb most_preds n ≡ s → (t : Bool) → ltb v most_steps ≡ t → (u : Bool) → ltb most_links (before + n) ≡ u → (s || (not t || u)) ≡ false
        → InLimits n v before
    go true a t b u d f = let z : ◌≡◌ {A = ℕ} 0 1 = cc in absurd (omega arith)
    go false a false b u d f = let z : ◌≡◌ {A = ℕ} 0 1 = cc in absurd (omega arith)
    go false a true b true d f = let z : ◌≡◌ {A = ℕ} 0 1 = cc in absurd (omega arith)
    go false a true b false d f = record { few = ltb-false most_preds n a; step = ltb-true v most_steps b; all = ltb-false most_links (before + n) d }

-- ---- 21

module _ (c : Columns) (fs : List (List ℕ)) (n : ℕ) (counted : n ≡ length fs) where
  pub row_count : (n ≡ 4 → ⊥) → malformed c fs ≡ true
  row_count h = rw (← counted, ne_eqb n 4 h) refl

  module _ (four : n ≡ 4) (x : Option ℕ) (vertex : x ≡ number_of (get_or fs c.vertex [])) where
    pub row_vertex : x ≡ None → malformed c fs ≡ true
    row_vertex p = rw (← counted, four, sym vertex ∙ p) refl

    module _ (xv : ℕ) (is_x : x ≡ Some xv) (b : Option ℕ) (board : b ≡ number_of (get_or fs c.board [])) where
      pub row_board : b ≡ None → malformed c fs ≡ true
      row_board p = rw (← counted, four, sym vertex ∙ is_x, sym board ∙ p) refl

      module _ (bv : ℕ) (is_b : b ≡ Some bv) (s : Option ℕ) (labels : s ≡ label_set_in (get_or fs c.labels [])) where
        pub row_labels : s ≡ None → malformed c fs ≡ true
        row_labels p = rw (← counted, four, sym vertex ∙ is_x, sym board ∙ is_b, sym labels ∙ p) refl

        module _ (sv : ℕ) (is_s : s ≡ Some sv) where
          numbers_in : malformed c fs ≡ (ltb most_board bv || not (is_list (get_or fs c.preds [])))
          numbers_in = rw (← counted, four, sym vertex ∙ is_x, sym board ∙ is_b, sym labels ∙ is_s) refl

          pub row_high : most_board < bv → malformed c fs ≡ true
          row_high h = numbers_in ∙ rw (lt-ltb most_board bv h) refl

          module _ (low : bv ≤ most_board) (v : ℕ) (f : List ℕ) (field : f ≡ get_or fs c.preds []) where
            pub row_preds : (o : Option Preds) → Scanned v f o → o ≡ None → malformed c fs ≡ true
            row_preds None e p = numbers_in ∙ rw (le-ltb most_board bv low, ← field, e) refl
            row_preds (Some r) e p = let z : ◌≡◌ {A = ℕ} 0 1 = cc in absurd (omega arith)

            formed : (r : Preds) → Formed v f r → RowOf v c fs (record { vertex = xv; board = bv; labels = sv; preds = r })
            formed r e = record {
              well = numbers_in ∙ rw (le-ltb most_board bv low, ← field, e.formed) refl;
              vertex = sym (rw (sym vertex ∙ is_x) refl);
              board = sym (rw (sym board ∙ is_b) refl);
              labels = sym (rw (sym labels ∙ is_s) refl);
              preds = rw (← field) e;
            }

            pub row_right : (o : Option Preds) → Scanned v f o → (r : Preds) → o ≡ Some r
                → RowOf v c fs (record { vertex = xv; board = bv; labels = sv; preds = r })
            row_right None e r p = let z : ◌≡◌ {A = ℕ} 0 1 = cc in absurd (omega arith)
            row_right (Some q) e r p = let z : ◌≡◌ {A = Preds} q r = cc in formed r (subst (Formed v f) z e)

pub ruleset row_kit = (row_count, row_vertex, row_board, row_labels, row_high, row_preds, row_right)

-- ---- 24, 25, 26 of the values

module _ (count v before : ℕ) (row : Row) where
  pub by_links : row.preds.mislinked ≡ true → JudgedBy row count v before (Err Links)
  by_links e = record { by = λ f s. record { limits = tt; judged = λ k q. sym (rw (sym s.linked ∙ e) refl) } }

  module _ (t_no : row.preds.mislinked ≡ false) (u : Bool) (labelled : u ≡ mislabelled count v row.labels) where
    pub by_labels : u ≡ true → JudgedBy row count v before (Err Labels)
    by_labels e = record { by = λ f s. record { limits = tt; judged = λ k q. sym (rw (sym s.linked ∙ t_no, sym labelled ∙ e) refl) } }

    module _ (u_no : u ≡ false) (w : Bool) (limit : w ≡ over row.preds.links.count v before) where
      over_is : (f : List ℕ) → Formed v f row.preds → (k : Known) → link_count k.steps ≡ before → over_limit k.steps v (list_of f) ≡ w
      over_is f s k q = rw (q, ← s.links.counted) (sym limit)

      pub by_limit : w ≡ true → JudgedBy row count v before (Err Limit)
      by_limit e = record {
        by = λ f s. record {
          limits = tt;
          judged = λ k q. sym (rw (sym s.linked ∙ t_no, sym labelled ∙ u_no, over_is f s k q, e) refl);
        };
      }

      pub by_right : w ≡ false → JudgedBy row count v before (Ok (record { board = row.board; labels = row.labels }, row.preds.links))
      by_right e = record {
        by = λ f s.
            let h : InLimits row.preds.links.count v before = in_limits row.preds.links.count v before (sym limit ∙ e) in
            let c = s.links.counted in
            let z = h.few in
            let all : take row.preds.links.count row.preds.links.first ≡ list_of f =
            ap (λ (n : ℕ). take n row.preds.links.first) c ∙ sym (s.links.stored (omega arith)) in
            record {
              limits = (s.links.size, h);
              judged = λ k q. sym (rw (sym s.linked ∙ t_no, sym labelled ∙ u_no, over_is f s k q, e, all) refl);
            };
      }

pub ruleset values_kit = (by_links, by_labels, by_limit, by_right)

-- ---- the line

module _ (count v before : ℕ) (c : Columns) (fs : List (List ℕ)) (o : Option Row) (read : ReadAs v c fs o) where
  unread : (p : Option Row) → ReadAs v c fs p → p ≡ None → malformed c fs ≡ true
  unread None e q = e
  unread (Some row) e q = let z : ◌≡◌ {A = ℕ} 0 1 = cc in absurd (omega arith)

  pub step_malformed : o ≡ None → StepJudged count v before c fs (Err Malformed)
  step_malformed p = let e = unread o read p in record { limits = tt; judged = λ xs q. sym (rw e refl) }

  row_is : (p : Option Row) → ReadAs v c fs p → (row : Row) → p ≡ Some row → RowOf v c fs row
  row_is None e row q = let z : ◌≡◌ {A = ℕ} 0 1 = cc in absurd (omega arith)
  row_is (Some r) e row q = let z : ◌≡◌ {A = Row} r row = cc in subst (RowOf v c fs) z e

  module _ (row : Row) (p : o ≡ Some row) where
    has : RowOf v c fs row
    has = row_is o read row p

    back : v + 2 - 2 ≡ v
    back = omega arith

    pub step_number : (row.vertex ≡ v → ⊥) → StepJudged count v before c fs (Err Number)
    step_number h = let m = has in record {
      limits = tt;
      judged = λ xs q. sym (rw (m.well, ← m.vertex, back, ne_eqb row.vertex v h) refl);
    }

    pub step_values : row.vertex ≡ v → (r : Result (StepValues × LinksOf) Refusal) → JudgedBy row count v before r → StepJudged count v before c fs r
    step_values h r j =
        let m = has in
        let w = j.by (get_or fs c.preds []) m.preds in
        record {
          limits = w.limits;
          judged = λ xs q.
              w.judged (record { columns = c; steps = xs }) q
              ∙ sym (rw (m.well, ← m.vertex, back, eq-eqb row.vertex v h, ← m.board, ← m.labels) refl);
        }

pub ruleset step_kit = (step_malformed, step_number, step_values)
