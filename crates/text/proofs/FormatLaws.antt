-- The lines of a text as a reader of any format goes over them: its size, the first line, and a line below it: broken, refused, or passed.
-- Assumes nothing.
use mathlib.Core.Path.{◌≡◌, refl, sym, ap, ap₂, ◌∙◌}
use mathlib.Core.Bool.{Bool, true, false, ◌||◌}
use mathlib.Core.List.{List}
use Prim.Native.Nat.{ℕ, ◌+◌, ◌-◌, ◌^◌, ◌≤◌, ◌<◌}
use native.Mathlib.Omega.{arith}
use borrow.Author.Tests.{ne_eqb, eqb-false, ltb-false}
use lib.Dec.{eqb, ltb}
use lib.ListN.{length, take, drop, length-drop}
use lib.Seq.{length-take-le}
use Rattle.std.specs.Prelude.{Result, Ok, Err}
use Rattle.lists.proofs.Parts.{rest_part}
use Rattle.text.specs.Split.{split}
use Rattle.text.specs.Lines.{TextLine, lines_of, line_of, whole, whole_or}
use Rattle.text.specs.Walk.{refused, passed, answer_says, Outcome, faulty, walk, Format, judge_fields, judge_by, bad_size, read_text}
use Rattle.text.specs.inner.Faults.{in_line}
use Rattle.text.specs.declared.faults.Fault.{Fault}
use Rattle.text.specs.declared.lines.LineFault.{LineFault}
use Rattle.text.proofs.FaultLaws.{lined_ok, lined_err, whole_ok, whole_err}
use Rattle.text.proofs.WalkLaws.{next_line, text_broken, text_refused, text_passed, lent_whole}

-- ---- how a line is judged

module _ {S : Type 0} (F : Format S) where
  broken_judged : (s : S) (n : ℕ) (l : TextLine) → whole F.line_most l ≡ false → judge_by F s n l ≡ refused F.line_refusal
  broken_judged s n l e = rw e refl

  whole_judged : (s : S) (n : ℕ) (l : TextLine) → whole F.line_most l ≡ true → judge_by F s n l ≡ judge_fields F s n (split 32 l.bytes)
  whole_judged s n l e = rw e refl

  -- below the first line
  pub below_judged : (s : S) (n : ℕ) (fs : List (List ℕ)) → 2 ≤ n → judge_fields F s n fs ≡ F.below s n fs
  below_judged s n fs h = rw (ne_eqb n 1 (λ e. omega arith)) refl

-- ---- what is found of the line that begins at a place, with its number

-- Where it ends, whatever the refusal of a broken one, and however long it may be.
module _ {R : Type 0} (otherwise : R) (most : ℕ) (text : List ℕ) (at n : ℕ)
    (b : Result ℕ R) (given : b ≡ whole_or otherwise (line_of most (take (length text - at) (drop at text))))
    (r : Result ℕ (Fault R)) (said : r ≡ in_line n b) where
  broken_line : (f : Fault R) → r ≡ Err f
      → (g : LineFault) × (line_of most (take (length text - at) (drop at text)) ≡ Err g) × (f.refusal ≡ otherwise) × (f.line ≡ n)
  broken_line f p =
      let e = lined_err n b f (sym said ∙ p) in
      let w = whole_err otherwise (line_of most (take (length text - at) (drop at text))) f.refusal (sym given ∙ e.0) in
      (w.0, w.1, w.2, e.1)

  module _ (e : ℕ) (p : r ≡ Ok e) where
    whole_line : line_of most (take (length text - at) (drop at text)) ≡ Ok e
    whole_line = whole_ok otherwise (line_of most (take (length text - at) (drop at text))) e (sym given ∙ lined_ok n b e (sym said ∙ p))

    end_before : at + e < length text
    end_before =
        let i = (next_line most (drop at text) e (sym (ap (line_of most) (rest_part text at)) ∙ whole_line)).inside in
        let d = length-drop at text in
        omega arith

    pub end_in : at + e ≤ length text
    end_in = let h = end_before in omega arith

    pub next_in : at + e + 1 ≤ length text
    next_in = let h = end_before in omega arith

    pub end_fits : length text < 2 ^ 64 → at + e < 2 ^ 64
    end_fits k = let h = end_before in omega arith

    pub next_fits : length text < 2 ^ 64 → at + e + 1 < 2 ^ 64
    next_fits k = let h = end_before in omega arith

    pub rest_falls : length text - (at + e + 1) < length text - at
    rest_falls = let h = end_before in omega arith

-- ---- a turn of the reader's loop

-- `all` is the answer for the whole text; s is known before the line n, which begins at the place `at`. A refusal has its number, and a broken
-- line is refused with `otherwise`, whose number is the format's.
module _ {S R : Type 0} (F : Format S) (number : R → ℕ) (otherwise : R) (broken : number otherwise ≡ F.line_refusal)
    (s : S) (n : ℕ) (text : List ℕ) (at : ℕ) (all : Outcome S) (inv : all ≡ walk (judge_by F) s n (lines_of (drop at text)))
    (b : Result ℕ R) (given : b ≡ whole_or otherwise (line_of F.line_most (take (length text - at) (drop at text))))
    (r : Result ℕ (Fault R)) (said : r ≡ in_line n b) where
  pub line_broken : at < length text → (f : Fault R) → r ≡ Err f → all ≡ faulty (number f.refusal) f.line
  line_broken h f p =
      let w = broken_line otherwise F.line_most text at n b given r said f p in
      text_broken (judge_by F) s n text at all inv F.line_most _ refl F.line_refusal (broken_judged F) h w.0 w.1
      ∙ ap₂ faulty (sym broken ∙ ap number (sym w.2)) (sym w.3)

  module _ (e : ℕ) (p : r ≡ Ok e) where
    here : line_of F.line_most (take (length text - at) (drop at text)) ≡ Ok e
    here = whole_line otherwise F.line_most text at n b given r said e p

    judged : judge_by F s n (record { bytes = take (at + e - at) (drop at text); newline = true })
        ≡ judge_fields F s n (split 32 (take (at + e - at) (drop at text)))
    judged =
        whole_judged F s n (record { bytes = take (at + e - at) (drop at text); newline = true })
        (lent_whole (judge_by F) s n text at all inv F.line_most _ refl e here)

    -- its fields are refused with x
    fields_refused : (x : R) → judge_fields F s n (split 32 (take (at + e - at) (drop at text))) ≡ refused (number x) → all ≡ faulty (number x) n
    fields_refused x q = text_refused (judge_by F) s n text at all inv F.line_most _ refl e here (number x) (judged ∙ q)

    pub line_passed : (t : S) → judge_fields F s n (split 32 (take (at + e - at) (drop at text))) ≡ passed t
        → all ≡ walk (judge_by F) t (n + 1) (lines_of (drop (at + e + 1) text))
    line_passed t q = text_passed (judge_by F) s n text at all inv F.line_most _ refl e here t (judged ∙ q)

    -- what is answered about them, as a refusal of the text
    pub line_refused : {T : Type 0} (a : Result T R) (y : Result T (Fault R)) → y ≡ in_line n a
        → ((x : R) → a ≡ Err x → judge_fields F s n (split 32 (take (at + e - at) (drop at text))) ≡ refused (number x))
        → (f : Fault R) → y ≡ Err f → all ≡ faulty (number f.refusal) f.line
    line_refused a y told says f q =
        let l = lined_err n a f (sym told ∙ q) in
        fields_refused f.refusal (says f.refusal l.0) ∙ ap (faulty (number f.refusal)) (sym l.1)

-- ---- the size, before all lines

module _ {S : Type 0} (F : Format S) (text : List ℕ) (t : Bool) (size : t ≡ bad_size F.most text) where
  pub size_bad : t ≡ true → read_text F text ≡ faulty F.size_refusal 0
  size_bad e = rw (sym size ∙ e) refl

  module _ (right : t ≡ false) where
    size_fine : read_text F text ≡ walk (judge_by F) F.start 1 (lines_of (drop 0 text))
    size_fine = rw (sym size ∙ right) refl

    both : (eqb (length text) 0 ≡ false) × (ltb F.most (length text) ≡ false)
    both = go (eqb (length text) 0) refl (ltb F.most (length text)) refl (sym size ∙ right)
      where
        go : (u : Bool) → eqb (length text) 0 ≡ u → (v : Bool) → ltb F.most (length text) ≡ v → (u || v) ≡ false
            → (eqb (length text) 0 ≡ false) × (ltb F.most (length text) ≡ false)
        go true p v q z = let z : ◌≡◌ {A = ℕ} 0 1 = cc in absurd (omega arith)
        go false p true q z = let z : ◌≡◌ {A = ℕ} 0 1 = cc in absurd (omega arith)
        go false p false q z = (p, q)

    size_some : 0 < length text
    size_some = let n = eqb-false (length text) 0 both.0 in omega arith

    pub size_most : length text ≤ F.most
    size_most = ltb-false F.most (length text) both.1

-- ---- the first line

-- The first line of a text is what begins at its place 0.
from_start : {R : Type 0} (otherwise : R) (most : ℕ) (text : List ℕ) (b : Result ℕ R) → b ≡ whole_or otherwise (line_of most text)
    → b ≡ whole_or otherwise (line_of most (take (length text - 0) (drop 0 text)))
from_start otherwise most text b given = given ∙ ap (λ (l : List ℕ). whole_or otherwise (line_of most l)) (sym (rest_part text 0))

module _ {R : Type 0} (otherwise : R) (most : ℕ) (text : List ℕ) (b : Result ℕ R) (given : b ≡ whole_or otherwise (line_of most text))
    (r : Result ℕ (Fault R)) (said : r ≡ in_line 1 b) (e : ℕ) (p : r ≡ Ok e) where
  pub start_in : e + 1 ≤ length text
  start_in = let h = next_in otherwise most text 0 1 b (from_start otherwise most text b given) r said e p in omega arith

  pub first_in : e ≤ length text
  first_in = let h = start_in in omega arith

  pub start_fits : length text < 2 ^ 64 → e + 1 < 2 ^ 64
  start_fits h = let k = start_in in omega arith

  pub first_counts : e ≡ length (take e text)
  first_counts = sym (length-take-le e text first_in)

module _ {S R : Type 0} (F : Format S) (number : R → ℕ) (otherwise : R) (broken : number otherwise ≡ F.line_refusal)
    (text : List ℕ) (t : Bool) (size : t ≡ bad_size F.most text) (right : t ≡ false)
    (b : Result ℕ R) (given : b ≡ whole_or otherwise (line_of F.line_most text))
    (r : Result ℕ (Fault R)) (said : r ≡ in_line 1 b) where
  pub first_broken : (f : Fault R) → r ≡ Err f → read_text F text ≡ faulty (number f.refusal) f.line
  first_broken =
      line_broken F number otherwise broken F.start 1 text 0 (read_text F text) (size_fine F text t size right) b
      (from_start otherwise F.line_most text b given) r said (size_some F text t size right)

  module _ (e : ℕ) (p : r ≡ Ok e) {T : Type 0} (known : T → S) (a : Result T R)
      (header : answer_says number known a ≡ F.header (split 32 (take e text)))
      (y : Result T (Fault R)) (told : y ≡ in_line 1 a) where
    says : judge_fields F F.start 1 (split 32 (take (0 + e - 0) (drop 0 text))) ≡ answer_says number known a
    says = let z : 0 + e - 0 ≡ e = omega arith in ap (λ (i : ℕ). F.header (split 32 (take i text))) z ∙ sym header

    pub first_refused : (f : Fault R) → y ≡ Err f → read_text F text ≡ faulty (number f.refusal) f.line
    first_refused =
        line_refused F number otherwise broken F.start 1 text 0 (read_text F text) (size_fine F text t size right) b
        (from_start otherwise F.line_most text b given) r said e p a y told (λ x q. says ∙ ap (answer_says number known) q)

    pub first_passed : (c : T) → y ≡ Ok c → read_text F text ≡ walk (judge_by F) (known c) 2 (lines_of (drop (e + 1) text))
    first_passed c q =
        let z : 0 + e + 1 ≡ e + 1 = omega arith in
        line_passed F number otherwise broken F.start 1 text 0 (read_text F text) (size_fine F text t size right) b
        (from_start otherwise F.line_most text b given) r said e p (known c) (says ∙ ap (answer_says number known) (lined_ok 1 a c (sym told ∙ q)))
        ∙ ap (λ (i : ℕ). walk (judge_by F) (known c) 2 (lines_of (drop i text))) z
