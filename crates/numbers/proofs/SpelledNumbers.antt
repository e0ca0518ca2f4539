-- Spelled numbers in a text: they read back, their bytes are digits, and how many.
-- Assumes nothing.
use Prim.Native.Nat.{ℕ, zero, suc, ◌+◌, ◌*◌, ◌/◌, ◌%◌, ◌^◌, ◌≤◌, ◌<◌}
use mathlib.Core.Path.{◌≡◌, refl, ap, ap₂, ◌∙◌}
use mathlib.Core.Bool.{true}
use Rattle.std.specs.Prelude.{Option, Some, is_some, unwrap_or}
use mathlib.Core.List.{List, [], ◌∷◌, ◌++◌, map}
use native.Mathlib.Nat.{pow-suc, mul-suc}
use native.Mathlib.Decide.{dec_le}
use native.Mathlib.Omega.{arith}
use borrow.Author.Tests.{le-leb}
use lib.Dec.{T}
use lib.ListN.{length, get_or, length-append}
use Rattle.sets.proofs.Truth.{and_l, and_r}
use Rattle.text.specs.Lines.{printable}
use Rattle.text.proofs.Spelled.{Lacks, AllLack, AllPrintable, weight}
use Rattle.layout.specs.Layout.{most_number}
use Rattle.numbers.specs.Numbers.{digit, digits, number_of, is_number, value_of, spell}
use Rattle.numbers.specs.Listed.{are_numbers}
use Rattle.numbers.proofs.Spelling.{digit_of, spell_digit, spell_step, decimal_out, spelling_reads}

-- ---- reading

pub spell_number : (n : ℕ) → n ≤ most_number → number_of (spell n) ≡ Some n
spell_number n h = spelling_reads most_number n h

pub spell_is_number : (n : ℕ) → n ≤ most_number → is_number (spell n) ≡ true
spell_is_number n h = ap is_some (spelling_reads most_number n h)

pub spell_value : (n : ℕ) → n ≤ most_number → value_of (spell n) ≡ n
spell_value n h = ap (λ (o : Option ℕ). unwrap_or o 0) (spelling_reads most_number n h)

-- ---- bytes

digits_lack : (c : ℕ) (bs : List ℕ) → c < 48 → T (digits bs) → Lacks c bs
unfolding digits
digits_lack c [] h t = tt
digits_lack c (b ∷ bs) h t =
    let r = digit_of b (and_l (digit b) (digits bs) t) in
    let l = r.0 in
    (λ e. absurd (omega arith), digits_lack c bs h (and_r (digit b) (digits bs) t))

digits_printable : (bs : List ℕ) → T (digits bs) → printable bs ≡ true
unfolding digits printable
digits_printable [] t = refl
digits_printable (b ∷ bs) t =
    let r = digit_of b (and_l (digit b) (digits bs) t) in
    let l = r.0 in
    let h = r.1 in
    simp (le-leb 32 b (omega arith), le-leb b 126 (omega arith)) (digits_printable bs (and_r (digit b) (digits bs) t))

spell_digits : (n : ℕ) → T (digits (spell n))
spell_digits n = (decimal_out n (spell n) n (spelling_reads n n (omega arith))).1

pub spell_lacks : (c n : ℕ) → c < 48 → Lacks c (spell n)
spell_lacks c n h = digits_lack c (spell n) h (spell_digits n)

pub spell_printable : (n : ℕ) → printable (spell n) ≡ true
spell_printable n = digits_printable (spell n) (spell_digits n)

-- ---- how many

pub spell_more : (n : ℕ) → 10 ≤ n → spell n ≡ spell (n / 10) ++ ((48 + n % 10) ∷ [])
spell_more n h =
    let e : n ≡ n / 10 * 10 + n % 10 = omega arith in
    ap spell e ∙ spell_step (n / 10) (n % 10) (omega arith) (omega arith)

pub length_spell_digit : (n : ℕ) → n < 10 → length (spell n) ≡ 1
length_spell_digit n h = ap length (spell_digit n h)

pub length_spell_more : (n : ℕ) → 10 ≤ n → length (spell n) ≡ length (spell (n / 10)) + 1
length_spell_more n h = ap length (spell_more n h) ∙ length-append (spell (n / 10)) ((48 + n % 10) ∷ [])

-- A number below 10 to the d + 1 has at most d + 1 digits.
pub length_spell : (d n : ℕ) → n < 10 ^ suc d → length (spell n) ≤ suc d
length_spell zero n h = omega (arith, length_spell_digit n h)
length_spell (suc d) n h = go (dec_le 10 n) (λ k. length_spell d (n / 10) k)
  where
    go : Dec (10 ≤ n) → (n / 10 < 10 ^ suc d → length (spell (n / 10)) ≤ suc d) → length (spell n) ≤ suc (suc d)
    go (no l) rest = omega (arith, length_spell_digit n (omega arith))
    go (yes m) rest =
        let p : 10 ^ suc (suc d) ≡ 10 ^ suc d * 10 = pow-suc 10 (suc d) in
        omega (arith, length_spell_more n m, rest (omega arith))

-- ---- several numbers, each below m

abbrev pub Under : ℕ → List ℕ → Type 0
Under m [] = Unit {0}
Under m (n ∷ ns) = (n < m) × Under m ns

pub under_in : (m : ℕ) (ns : List ℕ) → ((i : ℕ) → i < length ns → get_or ns i 0 < m) → Under m ns
under_in m [] f = tt
under_in m (n ∷ ns) f = (f 0 (omega arith), under_in m ns (λ i h. f (suc i) (omega arith)))

pub under_more : (m k : ℕ) (ns : List ℕ) → m ≤ k → Under m ns → Under k ns
under_more m k [] h u = tt
under_more m k (n ∷ ns) h u = let l = u.0 in (omega arith, under_more m k ns h u.1)

pub spells_lack : (c : ℕ) (ns : List ℕ) → c < 48 → AllLack c (map spell ns)
spells_lack c [] h = tt
spells_lack c (n ∷ ns) h = (spell_lacks c n h, spells_lack c ns h)

pub spells_printable : (ns : List ℕ) → AllPrintable (map spell ns)
spells_printable [] = tt
spells_printable (n ∷ ns) = (spell_printable n, spells_printable ns)

pub spells_numbers : (ns : List ℕ) → Under (most_number + 1) ns → are_numbers (map spell ns) ≡ true
unfolding are_numbers
spells_numbers [] u = refl
spells_numbers (n ∷ ns) u = let l = u.0 in rw (spell_is_number n (omega arith)) (spells_numbers ns u.1)

pub spells_values : (ns : List ℕ) → Under (most_number + 1) ns → map value_of (map spell ns) ≡ ns
spells_values [] u = refl
spells_values (n ∷ ns) u = let l = u.0 in ap₂ (λ (m : ℕ) (ms : List ℕ). m ∷ ms) (spell_value n (omega arith)) (spells_values ns u.1)

pub weight_spells : (d : ℕ) (ns : List ℕ) → Under (10 ^ suc d) ns → weight (map spell ns) ≤ (2 + d) * length ns
unfolding weight
weight_spells d [] u = omega arith
weight_spells d (n ∷ ns) u =
    let l = length_spell d n u.0 in
    let w = weight_spells d ns u.1 in
    let e = mul-suc (2 + d) (length ns) in
    omega arith
