-- The text spelled from a buffer that passes, with labels named by their numbers, is accepted, and says the buffer's rows.
-- Assumes nothing.
use Prim.Native.Nat.{ℕ, ◌+◌, ◌-◌, ◌≤◌}
use mathlib.Core.Path.{◌≡◌, refl, subst}
use mathlib.Core.Bool.{Bool, true, ◌&&◌}
use mathlib.Core.List.{List, ◌++◌}
use native.Mathlib.Omega.{arith}
use borrow.Author.Tests.{eqb-true}
use lib.Dec.{T, eqb}
use Rattle.sets.specs.Sets.{all_below}
use Rattle.sets.proofs.Truth.{yes_true, true_yes, both_true}
use Rattle.sets.proofs.Below.{all_out}
use Rattle.text.specs.Split.{split, joined}
use Rattle.text.specs.Lines.{printable, whole}
use Rattle.text.specs.Walk.{accepted}
use Rattle.numbers.specs.Numbers.{spell_in}
use Rattle.layout.specs.Layout.{most_line, most_labels}
use Rattle.pattern_header.specs.Header.{columns, same_fields, name_bytes, are_names, among, distinct, is_header, label_count}
use Rattle.pattern_store.specs.Format.{pattern_text}
use Rattle.pattern_buffer.specs.Meaning.{labels_in}
use Rattle.pattern_texts.specs.Spelled.{names_up_to, text_of, Heads}
use Rattle.pattern_buffer.proofs.Places.{Passes}
use Rattle.pattern_texts.proofs.FromBuffer.{known}
use Rattle.pattern_texts.proofs.TextUnder.{under_accepted}

-- ---- the header, for each count of labels

abbrev header_bytes : ℕ → List ℕ
header_bytes c = joined 32 (columns ++ names_up_to c)

abbrev is_whole : ℕ → Bool
is_whole c = whole most_line (record { bytes = header_bytes c; newline = true })

abbrev heads : ℕ → Bool
heads c = is_whole c && (is_header (split 32 (header_bytes c)) && eqb (label_count (split 32 (header_bytes c))) c)

headers_computed : all_below most_labels (λ i. heads (i + 1)) ≡ true
unfolding all_below joined split names_up_to spell_in printable same_fields name_bytes are_names among distinct
headers_computed = refl

header_heads : (c : ℕ) → 1 ≤ c → c ≤ most_labels → Heads c (header_bytes c)
header_heads c low high =
    let z : c - 1 + 1 ≡ c = omega arith in
    let t = all_out most_labels (λ i. heads (i + 1)) (true_yes (all_below most_labels (λ i. heads (i + 1))) headers_computed) (c - 1) (omega arith) in
    let w = both_true (is_whole c) (is_header (split 32 (header_bytes c)) && eqb (label_count (split 32 (header_bytes c))) c)
    (yes_true (heads c) (subst (λ (n : ℕ). T (heads n)) z t)) in
    let v = both_true (is_header (split 32 (header_bytes c))) (eqb (label_count (split 32 (header_bytes c))) c) w.1 in
    record { whole_passes = w.0; header_ok = v.0; names = eqb-true (label_count (split 32 (header_bytes c))) c v.1 }

-- ---- the text

module _ (b : List ℕ) (p : Passes b) where
  header : Heads (labels_in b) (header_bytes (labels_in b))
  header = header_heads (labels_in b) p.some_label p.labels_most

  pub text_accepted : pattern_text (text_of b) ≡ accepted (known b p)
  text_accepted = under_accepted b p (header_bytes (labels_in b)) header
