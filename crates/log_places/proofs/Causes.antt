-- What is at fault at a place is a cause of that very refusal; and where no place is at fault, the cause is one that has none.
-- Assumes nothing.
use mathlib.Core.Path.{◌≡◌, refl, sym, ◌∙◌, subst}
use mathlib.Core.Bool.{Bool, true, false, not, cond, ◌&&◌, ◌||◌}
use mathlib.Core.List.{List, []}
use Prim.Native.Nat.{ℕ, ◌+◌, ◌≤◌, ◌<◌}
use native.Mathlib.Omega.{arith}
use borrow.Author.Tests.{lt-ltb, ltb-true, ltb-false, eq-eqb, ne_eqb, eqb-true, eqb-false}
use lib.Dec.{eqb, ltb}
use lib.ListN.{length, get_or}
use Rattle.lists.proofs.LeftmostLaws.{clash}
use Rattle.fields.specs.Fields.{same_bytes}
use Rattle.numbers.specs.Numbers.{is_number, value_of}
use Rattle.numbers.specs.Listed.{is_list}
use Rattle.line_places.proofs.FaultLaws.{no_field}
use Rattle.layout.specs.Layout.{most_steps, most_links, most_preds, most_board}
use Rattle.log_line.specs.Header.{vertex_name, board_name, labels_name, preds_name, place_of, Columns, columns_of, is_header}
use Rattle.log_line.specs.Step.{Step, malformed, link_count, over_limit, is_label_set}
use Rattle.log_places.specs.Place.{wrong_name, header_at, wrong_field, malformed_at, links_named, over_limit_at, limit_at}
use Rattle.log_places.specs.inner.Names.{is_place}
use Rattle.log_places.proofs.HeaderLaws.{place_names, same_is, name_wrong}

-- ---- the columns of a header are 0 to 3, in some order

pub record Ordered (c : Columns) : Type 0 where
  pub vertex : c.vertex < 4
  pub board : c.board < 4
  pub labels : c.labels < 4
  pub preds : c.preds < 4
  pub preds_vertex : c.vertex ≡ c.preds → ⊥
  pub preds_board : c.board ≡ c.preds → ⊥
  pub preds_labels : c.labels ≡ c.preds → ⊥
  pub every : (i : ℕ) → i < 4 → is_place c i ≡ true

-- Two names that differ have two places.
apart : (fs : List (List ℕ)) (a b : List ℕ) → same_bytes a b ≡ false → place_of a fs < length fs → place_of a fs ≡ place_of b fs → ⊥
apart fs a b n h e =
    let p = place_names a fs h in
    let q = subst (λ (m : ℕ). same_bytes (get_or fs m []) b ≡ true) (sym e) (place_names b fs (omega arith)) in
    clash (same_bytes a b) (subst (λ (f : List ℕ). same_bytes f b ≡ true) (same_is (get_or fs (place_of a fs) []) a p) q) n

-- Of numbers below n + 1 that differ, at most one is n: so below 2 there are no three, below 3 no four, below 4 no five.
lower : (n a b : ℕ) → n ≤ a → a < n + 1 → b < n + 1 → (a ≡ b → ⊥) → b < n
lower n a b h k l d = omega arith

turned : {a b : ℕ} → (a ≡ b → ⊥) → b ≡ a → ⊥
turned d e = d (sym e)

two : (a b c : ℕ) → a < 2 → b < 2 → c < 2 → (a ≡ b → ⊥) → (a ≡ c → ⊥) → (b ≡ c → ⊥) → ⊥
two a b c h k l d e f = omega arith

three : (a b c d : ℕ) → a < 3 → b < 3 → c < 3 → d < 3 → (a ≡ b → ⊥) → (a ≡ c → ⊥) → (a ≡ d → ⊥) → (b ≡ c → ⊥) → (b ≡ d → ⊥) → (c ≡ d → ⊥) → ⊥
three a b c d ha hb hc hd ab ac ad bc bd cd = go (ltb a 2) refl (ltb b 2) refl (ltb c 2) refl
  where
    go : (r : Bool) → ltb a 2 ≡ r → (s : Bool) → ltb b 2 ≡ s → (t : Bool) → ltb c 2 ≡ t → ⊥
    go false p s q t r = let k = ltb-false a 2 p in two b c d (lower 2 a b k ha hb ab) (lower 2 a c k ha hc ac) (lower 2 a d k ha hd ad) bc bd cd
    go true p false q t r = let k = ltb-false b 2 q in two a c d (ltb-true a 2 p) (lower 2 b c k hb hc bc) (lower 2 b d k hb hd bd) ac ad cd
    go true p true q false r = let k = ltb-false c 2 r in two a b d (ltb-true a 2 p) (ltb-true b 2 q) (lower 2 c d k hc hd cd) ab ad bd
    go true p true q true r = two a b c (ltb-true a 2 p) (ltb-true b 2 q) (ltb-true c 2 r) ab ac bc

module _ (a b c d : ℕ) (ha : a < 4) (hb : b < 4) (hc : c < 4) (hd : d < 4) (ab : a ≡ b → ⊥) (ac : a ≡ c → ⊥) (ad : a ≡ d → ⊥) (bc : b ≡ c → ⊥) (bd : b ≡ d → ⊥)
    (cd : c ≡ d → ⊥) where
  four : (i : ℕ) → i < 4 → (i ≡ a → ⊥) → (i ≡ b → ⊥) → (i ≡ c → ⊥) → (i ≡ d → ⊥) → ⊥
  four i hi ia ib ic id = go (ltb i 3) refl (ltb a 3) refl (ltb b 3) refl (ltb c 3) refl
    where
      go : (q : Bool) → ltb i 3 ≡ q → (r : Bool) → ltb a 3 ≡ r → (s : Bool) → ltb b 3 ≡ s → (t : Bool) → ltb c 3 ≡ t → ⊥
      go false p r e s f t g =
          let k = ltb-false i 3 p in
          three a b c d (lower 3 i a k hi ha ia) (lower 3 i b k hi hb ib) (lower 3 i c k hi hc ic) (lower 3 i d k hi hd id) ab ac ad bc bd cd
      go true p false e s f t g =
          let k = ltb-false a 3 e in
          three i b c d (ltb-true i 3 p) (lower 3 a b k ha hb ab) (lower 3 a c k ha hc ac) (lower 3 a d k ha hd ad) ib ic id bc bd cd
      go true p true e false f t g =
          let k = ltb-false b 3 f in
          three i a c d (ltb-true i 3 p) (ltb-true a 3 e) (lower 3 b c k hb hc bc) (lower 3 b d k hb hd bd) ia ic id ac ad cd
      go true p true e true f false g =
          let k = ltb-false c 3 g in
          three i a b d (ltb-true i 3 p) (ltb-true a 3 e) (ltb-true b 3 f) (lower 3 c d k hc hd cd) ia ib id ab ad bd
      go true p true e true f true g = three i a b c (ltb-true i 3 p) (ltb-true a 3 e) (ltb-true b 3 f) (ltb-true c 3 g) ia ib ic ab ac bc

  all_four : (i : ℕ) → i < 4 → (eqb i a || (eqb i b || (eqb i c || eqb i d))) ≡ true
  all_four i hi = go (eqb i a) refl (eqb i b) refl (eqb i c) refl (eqb i d) refl
    where
      go : (q : Bool) → eqb i a ≡ q → (r : Bool) → eqb i b ≡ r → (s : Bool) → eqb i c ≡ s → (t : Bool) → eqb i d ≡ t → (q || (r || (s || t))) ≡ true
      go true p r e s f t g = refl
      go false p true e s f t g = refl
      go false p false e true f t g = refl
      go false p false e false f true g = refl
      go false p false e false f false g = absurd (four i hi (eqb-false i a p) (eqb-false i b e) (eqb-false i c f) (eqb-false i d g))

and_left : (a b : Bool) → (a && b) ≡ true → a ≡ true
and_left true b e = refl
and_left false b e = e

and_right : (a b : Bool) → (a && b) ≡ true → b ≡ true
and_right true b e = e
and_right false true e = refl
and_right false false e = e

names_differ : (same_bytes vertex_name board_name ≡ false) × (same_bytes vertex_name labels_name ≡ false) × (same_bytes vertex_name preds_name ≡ false)
    × (same_bytes board_name labels_name ≡ false) × (same_bytes board_name preds_name ≡ false) × (same_bytes labels_name preds_name ≡ false)
names_differ = (refl, refl, refl, refl, refl, refl)

pub header_ordered : (hs : List (List ℕ)) → is_header hs ≡ true → Ordered (columns_of hs)
header_ordered hs e =
    let n = eqb-true (length hs) 4 (and_left (eqb (length hs) 4) _ e) in
    let r1 = and_right (eqb (length hs) 4) _ e in
    let hv = ltb-true (place_of vertex_name hs) 4 (and_left (ltb (place_of vertex_name hs) 4) _ r1) in
    let r2 = and_right (ltb (place_of vertex_name hs) 4) _ r1 in
    let hb = ltb-true (place_of board_name hs) 4 (and_left (ltb (place_of board_name hs) 4) _ r2) in
    let r3 = and_right (ltb (place_of board_name hs) 4) _ r2 in
    let hl = ltb-true (place_of labels_name hs) 4 (and_left (ltb (place_of labels_name hs) 4) _ r3) in
    let hp = ltb-true (place_of preds_name hs) 4 (and_right (ltb (place_of labels_name hs) 4) _ r3) in
    let d = names_differ in
    let vb = apart hs vertex_name board_name d.0 (omega arith) in
    let vl = apart hs vertex_name labels_name d.1 (omega arith) in
    let vp = apart hs vertex_name preds_name d.2 (omega arith) in
    let bl = apart hs board_name labels_name d.3 (omega arith) in
    let bp = apart hs board_name preds_name d.4 (omega arith) in
    let lp = apart hs labels_name preds_name d.5 (omega arith) in
    record {
      vertex = hv;
      board = hb;
      labels = hl;
      preds = hp;
      preds_vertex = vp;
      preds_board = bp;
      preds_labels = lp;
      every = all_four (place_of vertex_name hs) (place_of board_name hs) (place_of labels_name hs) (place_of preds_name hs) hv hb hl hp vb vl vp bl bp lp;
    }

-- ---- 22

not_header : (fs : List (List ℕ)) (t : Bool) → is_header fs ≡ t → (t ≡ true → ⊥) → is_header fs ≡ false
not_header fs true e n = absurd (n refl)
not_header fs false e n = e

-- A name that is wrong makes it no header.
pub wrong_name_refused : (fs : List (List ℕ)) (i : ℕ) → i < length fs → wrong_name fs i ≡ true → is_header fs ≡ false
wrong_name_refused fs i h w = not_header fs (is_header fs) refl (λ e. refuted e)
  where
    refuted : is_header fs ≡ true → ⊥
    refuted e =
        let n = eqb-true (length fs) 4 (and_left (eqb (length fs) 4) _ e) in
        let k : i < 4 = omega arith in
        let z : wrong_name fs i ≡ false = sym (name_wrong fs i h (columns_of fs) refl false (sym (rw ((header_ordered fs e).every i k, lt-ltb i 4 k) refl))) in
        clash (wrong_name fs i) w z

one : Bool → ℕ
one b = cond b 1 0

-- A number is 0, 1, 2 or 3 at most once.
once : (a : ℕ) → one (eqb 0 a) + one (eqb 1 a) + one (eqb 2 a) + one (eqb 3 a) ≤ 1
unfolding one
once a = go (ltb a 4) refl (eqb a 0) refl (eqb a 1) refl (eqb a 2) refl (eqb a 3) refl
  where
    go : (r : Bool) → ltb a 4 ≡ r → (s : Bool) → eqb a 0 ≡ s → (t : Bool) → eqb a 1 ≡ t → (u : Bool) → eqb a 2 ≡ u → (v : Bool) → eqb a 3 ≡ v
        → cond (eqb 0 a) 1 0 + cond (eqb 1 a) 1 0 + cond (eqb 2 a) 1 0 + cond (eqb 3 a) 1 0 ≤ 1
    go r p true e t f u g v k = rw (eqb-true a 0 e) (omega arith)
    go r p false e true f u g v k = rw (eqb-true a 1 f) (omega arith)
    go r p false e false f true g v k = rw (eqb-true a 2 g) (omega arith)
    go r p false e false f false g true k = rw (eqb-true a 3 k) (omega arith)
    go r p false e false f false g false k =
        rw (ne_eqb 0 a (turned (eqb-false a 0 e)), ne_eqb 1 a (turned (eqb-false a 1 f)), ne_eqb 2 a (turned (eqb-false a 2 g)), ne_eqb 3 a (turned (eqb-false a 3 k))) (omega arith)

-- How many of 0, 1, 2 and 3 it is.
abbrev hits : ℕ → ℕ
hits a = one (eqb 0 a) + one (eqb 1 a) + one (eqb 2 a) + one (eqb 3 a)

hits_none : (a : ℕ) → 4 ≤ a → hits a ≡ 0
unfolding one
hits_none a h =
    rw (ne_eqb 0 a (λ e. absurd (omega arith)), ne_eqb 1 a (λ e. absurd (omega arith)), ne_eqb 2 a (λ e. absurd (omega arith)), ne_eqb 3 a (λ e. absurd (omega arith))) refl

some_column : (c : Columns) (i : ℕ) → is_place c i ≡ true → 1 ≤ one (eqb i c.vertex) + one (eqb i c.board) + one (eqb i c.labels) + one (eqb i c.preds)
unfolding one
some_column c i e = go (eqb i c.vertex) (eqb i c.board) (eqb i c.labels) (eqb i c.preds) e
  where
    go : (q r s t : Bool) → (q || (r || (s || t))) ≡ true → 1 ≤ cond q 1 0 + cond r 1 0 + cond s 1 0 + cond t 1 0
    go true r s t e = omega arith
    go false true s t e = omega arith
    go false false true t e = omega arith
    go false false false true e = omega arith
    go false false false false e = let z : ◌≡◌ {A = ℕ} 0 1 = cc in absurd (omega arith)

-- Columns of which one stands at each of 0 to 3 have no other places.
module _ (c : Columns) (every : (i : ℕ) → i < 4 → is_place c i ≡ true) where
  enough : 4 ≤ hits c.vertex + hits c.board + hits c.labels + hits c.preds
  enough =
      let a = some_column c 0 (every 0 (omega arith)) in
      let b = some_column c 1 (every 1 (omega arith)) in
      let d = some_column c 2 (every 2 (omega arith)) in
      let e = some_column c 3 (every 3 (omega arith)) in
      omega arith

  filled : (a b d f : ℕ) → 4 ≤ hits a + hits b + hits d + hits f → ltb a 4 ≡ true
  filled a b d f h = go (ltb a 4) refl
    where
      go : (t : Bool) → ltb a 4 ≡ t → t ≡ true
      go true e = refl
      go false e =
          let z = hits_none a (ltb-false a 4 e) in
          let x = once b in
          let y = once d in
          let w = once f in
          absurd (omega arith)

  filled_vertex : ltb c.vertex 4 ≡ true
  filled_vertex = filled c.vertex c.board c.labels c.preds enough

  filled_board : ltb c.board 4 ≡ true
  filled_board = let e = enough in filled c.board c.vertex c.labels c.preds (omega arith)

  filled_labels : ltb c.labels 4 ≡ true
  filled_labels = let e = enough in filled c.labels c.vertex c.board c.preds (omega arith)

  filled_preds : ltb c.preds 4 ≡ true
  filled_preds = let e = enough in filled c.preds c.vertex c.board c.labels (omega arith)

-- Where no name is wrong, names are missing.
pub names_missing : (fs : List (List ℕ)) → is_header fs ≡ false → header_at fs ≡ 0 → length fs < 4
names_missing fs n z = go (ltb (length fs) 4) refl (ltb 4 (length fs)) refl
  where
    right : (i : ℕ) → i < length fs → (not (is_place (columns_of fs) i) || not (ltb i 4)) ≡ false
    right i h = name_wrong fs i h (columns_of fs) refl (not (is_place (columns_of fs) i) || not (ltb i 4)) refl ∙ no_field (wrong_name fs) fs z i h

    placed : (a b : Bool) → (not a || b) ≡ false → a ≡ true
    placed true b e = refl
    placed false b e = sym e

    below : (a b : Bool) → (not a || not b) ≡ false → b ≡ true
    below true true e = refl
    below true false e = sym e
    below false true e = refl
    below false false e = sym e

    go : (s : Bool) → ltb (length fs) 4 ≡ s → (t : Bool) → ltb 4 (length fs) ≡ t → length fs < 4
    go true e t f = ltb-true (length fs) 4 e
    go false e true f = let k = ltb-true 4 4 (below (is_place (columns_of fs) 4) (ltb 4 4) (right 4 (ltb-true 4 (length fs) f))) in absurd (omega arith)
    go false e false f =
        let h = ltb-false (length fs) 4 e in
        let k = ltb-false 4 (length fs) f in
        let every : (i : ℕ) → i < 4 → is_place (columns_of fs) i ≡ true = λ i l. placed (is_place (columns_of fs) i) (not (ltb i 4)) (right i (omega arith)) in
        let y : is_header fs ≡ true =
        rw (eq-eqb (length fs) 4 (omega arith), filled_vertex (columns_of fs) every, filled_board (columns_of fs) every, filled_labels (columns_of fs) every, filled_preds (columns_of fs) every) refl in
        clash (is_header fs) y n

-- ---- 21

-- What a line is that is not malformed.
record Formed (four nv nb nl over list : Bool) : Type 0 where
  pub count : four ≡ true
  pub vertex : nv ≡ true
  pub board : nb ≡ true
  pub labels : nl ≡ true
  pub few : over ≡ false
  pub links : list ≡ true

no : {A : Type 0} → true ≡ false → A
no e = let z : ◌≡◌ {A = ℕ} 0 1 = cc in absurd (omega arith)

formed : (four nv nb nl over list : Bool) → (not four || (not (nv && (nb && nl)) || (over || not list))) ≡ false → Formed four nv nb nl over list
formed false nv nb nl over list e = no e
formed true false nb nl over list e = no e
formed true true false nl over list e = no e
formed true true true false over list e = no e
formed true true true true true list e = no e
formed true true true true false false e = no e
formed true true true true false true e = record { count = refl; vertex = refl; board = refl; labels = refl; few = refl; links = refl }

pub count_refused : (c : Columns) (fs : List (List ℕ)) → (length fs ≡ 4 → ⊥) → malformed c fs ≡ true
count_refused c fs n = rw (ne_eqb (length fs) 4 n) refl

module _ (c : Columns) (order : Ordered c) (fs : List (List ℕ)) where
  abbrev Right : Type 0
  Right = Formed (eqb (length fs) 4) (is_number (get_or fs c.vertex [])) (is_number (get_or fs c.board [])) (is_label_set (get_or fs c.labels []))
      (ltb most_board (value_of (get_or fs c.board []))) (is_list (get_or fs c.preds []))

  is_number_lem : Right → (i : ℕ) → i < 4 → eqb i c.preds ≡ false → is_number (get_or fs i []) ≡ true
  is_number_lem r i h n = go (eqb i c.vertex) refl (eqb i c.board) refl (eqb i c.labels) refl (order.every i h)
    where
      go : (s : Bool) → eqb i c.vertex ≡ s → (t : Bool) → eqb i c.board ≡ t → (u : Bool) → eqb i c.labels ≡ u
          → (s || (t || (u || eqb i c.preds))) ≡ true → is_number (get_or fs i []) ≡ true
      go true d t e u f g = rw (eqb-true i c.vertex d) r.vertex
      go false d true e u f g = rw (eqb-true i c.board e) r.board
      go false d false e true f g = rw (eqb-true i c.labels f) r.labels
      go false d false e false f g = clash (eqb i c.preds) g n

  is_few : Right → (i : ℕ) → (eqb i c.board && ltb most_board (value_of (get_or fs i []))) ≡ false
  is_few r i = go (eqb i c.board) refl
    where
      go : (s : Bool) → eqb i c.board ≡ s → (s && ltb most_board (value_of (get_or fs i []))) ≡ false
      go true e = rw (eqb-true i c.board e) r.few
      go false e = refl

  field_right : Right → (i : ℕ) → i < 4 → wrong_field c fs i ≡ false
  unfolding wrong_field
  field_right r i h = go (eqb i c.preds) refl
    where
      go : (s : Bool) → eqb i c.preds ≡ s
          → cond s (not (is_list (get_or fs i []))) (not (is_number (get_or fs i [])) || (eqb i c.board && ltb most_board (value_of (get_or fs i [])))) ≡ false
      go true e = rw (eqb-true i c.preds e, r.links) refl
      go false e = rw (is_number_lem r i h e, is_few r i) refl

  -- A field that is wrong makes the line malformed.
  pub wrong_field_refused : (i : ℕ) → i < length fs → wrong_field c fs i ≡ true → malformed c fs ≡ true
  wrong_field_refused i h w = go (malformed c fs) refl
    where
      go : (t : Bool) → malformed c fs ≡ t → malformed c fs ≡ true
      go true e = e
      go false e =
          let r : Right = formed _ _ _ _ _ _ e in
          let n = eqb-true (length fs) 4 r.count in
          clash (wrong_field c fs i) w (field_right r i (omega arith))

  right_field : (i : ℕ) → (i ≡ c.preds → ⊥) → wrong_field c fs i ≡ false → (is_number (get_or fs i []) ≡ true) × ((eqb i c.board && ltb most_board (value_of (get_or fs i []))) ≡ false)
  unfolding wrong_field
  right_field i n e = go (is_number (get_or fs i [])) refl (eqb i c.board && ltb most_board (value_of (get_or fs i []))) refl (sym (rw (ne_eqb i c.preds n) refl) ∙ e)
    where
      go : (s : Bool) → is_number (get_or fs i []) ≡ s → (t : Bool) → (eqb i c.board && ltb most_board (value_of (get_or fs i []))) ≡ t → (not s || t) ≡ false
          → (is_number (get_or fs i []) ≡ true) × ((eqb i c.board && ltb most_board (value_of (get_or fs i []))) ≡ false)
      go true p false q e = (p, q)
      go true p true q e = no e
      go false p t q e = no e

  right_list : wrong_field c fs c.preds ≡ false → is_list (get_or fs c.preds []) ≡ true
  unfolding wrong_field
  right_list e = go (is_list (get_or fs c.preds [])) refl (sym (rw (eq-eqb c.preds c.preds refl) refl) ∙ e)
    where
      go : (s : Bool) → is_list (get_or fs c.preds []) ≡ s → not s ≡ false → is_list (get_or fs c.preds []) ≡ true
      go true p e = p
      go false p e = no e

  -- Where no field is wrong, the number of fields is.
  pub fields_counted : malformed c fs ≡ true → malformed_at c fs ≡ 0 → length fs ≡ 4 → ⊥
  fields_counted m z n =
      let none = no_field (wrong_field c fs) fs (sym (rw (eq-eqb (length fs) 4 n) refl) ∙ z) in
      let hv = order.vertex in
      let hb = order.board in
      let hl = order.labels in
      let hp = order.preds in
      let v = right_field c.vertex order.preds_vertex (none c.vertex (omega arith)) in
      let b = right_field c.board order.preds_board (none c.board (omega arith)) in
      let l = right_field c.labels order.preds_labels (none c.labels (omega arith)) in
      let p = right_list (none c.preds (omega arith)) in
      let few : ltb most_board (value_of (get_or fs c.board [])) ≡ false = sym (rw (eq-eqb c.board c.board refl) refl) ∙ b.1 in
      clash (malformed c fs) m (rw (eq-eqb (length fs) 4 n, v.0, b.0, l.0, few, p) refl)

-- ---- 26

module _ (before : List Step) (c : Columns) (v : ℕ) (fs : List (List ℕ)) where
  -- A field over its limit makes the line over the limits.
  pub over_limit_refused : (i : ℕ) → over_limit_at (link_count before) c v fs i ≡ true → over_limit before v (links_named c fs) ≡ true
  unfolding over_limit_at
  over_limit_refused i e =
      go (eqb i c.vertex) (eqb i c.preds) (ltb most_preds (length (links_named c fs))) (not (ltb v most_steps)) (ltb most_links (link_count before + length (links_named c fs))) e
    where
      go : (x y n s a : Bool) → ((x && s) || (y && (n || a))) ≡ true → (n || (s || a)) ≡ true
      go x y true s a e = refl
      go x y false true a e = refl
      go x y false false true e = refl
      go true true false false false e = e
      go true false false false false e = e
      go false true false false false e = e
      go false false false false false e = e

  -- A line of four fields that is over the limits is so at a field.
  pub over_limit_somewhere : Ordered c → length fs ≡ 4 → over_limit before v (links_named c fs) ≡ true → limit_at (link_count before) c v fs ≡ 0 → ⊥
  unfolding over_limit_at
  over_limit_somewhere order n over z =
      let none = no_field (over_limit_at (link_count before) c v fs) fs z in
      let hv = order.vertex in
      let hp = order.preds in
      let x = none c.vertex (omega arith) in
      let y = none c.preds (omega arith) in
      go (eqb c.preds c.vertex) (eqb c.vertex c.preds) (ltb most_preds (length (links_named c fs))) (not (ltb v most_steps))
      (ltb most_links (link_count before + length (links_named c fs)))
      (sym (rw (eq-eqb c.vertex c.vertex refl) refl) ∙ x)
      (sym (rw (eq-eqb c.preds c.preds refl) refl) ∙ y)
      over
    where
      go : (x y n s a : Bool) → ((true && s) || (y && (n || a))) ≡ false → ((x && s) || (true && (n || a))) ≡ false → (n || (s || a)) ≡ true → ⊥
      go x y n true a e f g = no e
      go x y false false false e f g = no (sym g)
      go true y true false a e f g = no f
      go false y true false a e f g = no f
      go true y false false true e f g = no f
      go false y false false true e f g = no f
