-- Laws of the table of rules. What all its rows pass, which is computed, each number of a rule and each word passes: so a row more in the
-- table changes no law.
-- Assumes nothing.
use mathlib.Core.Path.{◌≡◌, refl}
use mathlib.Core.Bool.{Bool, true, false, cond, ◌||◌}
use mathlib.Core.List.{List, [], ◌∷◌}
use Prim.Native.Nat.{ℕ, ◌≤◌, ◌<◌}
use native.Mathlib.Omega.{arith}
use borrow.Author.Tests.{eqb-true, leb-true}
use lib.Dec.{T, eqb, leb}
use lib.ListN.{length}
use Rattle.std.specs.List.{list_all}
use Rattle.sets.proofs.Truth.{both_true}
use Rattle.text.specs.Lines.{printable}
use Rattle.text.proofs.Spelled.{Lacks}
use Rattle.rules.specs.Rules.{Rule, rules, rule_in, is_rule_in, word_in, rule_of, is_rule, word_of}

-- ---- a test that all rows pass

every_in : (P : ℕ → Bool) (rs : List Rule) → list_all (λ (r : Rule). P r.number) rs ≡ true → (n : ℕ) → T (is_rule_in rs n) → P n ≡ true
unfolding is_rule_in
every_in P [] e n t = absurd t
every_in P (r ∷ rs) e n t =
    let f = both_true (P r.number) (list_all (λ (s : Rule). P s.number) rs) e in
    go (eqb n r.number) refl t f.0 (every_in P rs f.1 n)
  where
    go : (b : Bool) → eqb n r.number ≡ b → T (b || is_rule_in rs n) → P r.number ≡ true → (T (is_rule_in rs n) → P n ≡ true) → P n ≡ true
    go true q u f rest = rw (eqb-true n r.number q) f
    go false q u f rest = rest u

-- A test that the number of each row passes, each rule's number passes.
pub every : (P : ℕ → Bool) → list_all (λ (r : Rule). P r.number) rules ≡ true → (n : ℕ) → T (is_rule n) → P n ≡ true
every P e n t = every_in P rules e n t

every_word_in : (P : List ℕ → Bool) → P [] ≡ true → (rs : List Rule) → list_all (λ (r : Rule). P r.word) rs ≡ true → (n : ℕ) → P (word_in rs n) ≡ true
unfolding word_in
every_word_in P z [] e n = z
every_word_in P z (r ∷ rs) e n =
    let f = both_true (P r.word) (list_all (λ (s : Rule). P s.word) rs) e in
    go (eqb n r.number) f.0 (every_word_in P z rs f.1 n)
  where
    go : (b : Bool) → P r.word ≡ true → P (word_in rs n) ≡ true → P (cond b r.word (word_in rs n)) ≡ true
    go true f rest = f
    go false f rest = rest

-- ---- numbers

-- No rule has the number 0.
pub rule_not_0 : (n : ℕ) → T (is_rule n) → n ≡ 0 → ⊥
unfolding rules is_rule_in
rule_not_0 n t e = rw e at t

words_again : list_all (λ (r : Rule). eqb (rule_of (word_of r.number)) r.number) rules ≡ true
unfolding rules rule_in word_in
words_again = refl

-- A rule's word names it.
pub word_again : (n : ℕ) → T (is_rule n) → rule_of (word_of n) ≡ n
word_again n t = eqb-true (rule_of (word_of n)) n (every (λ m. eqb (rule_of (word_of m)) m) words_again n t)

-- ---- words

-- A word has printable bytes, none below the capital letters, and at most four.
pub word_printable : (n : ℕ) → printable (word_of n) ≡ true
unfolding rules printable
word_printable n = every_word_in printable refl rules refl n

letters_lack : (c : ℕ) → c < 65 → (w : List ℕ) → list_all (leb 65) w ≡ true → Lacks c w
letters_lack c h [] e = tt
letters_lack c h (b ∷ w) e =
    let f = both_true (leb 65 b) (list_all (leb 65) w) e in
    let l = leb-true 65 b f.0 in
    (λ q. absurd (omega arith), letters_lack c h w f.1)

pub word_lacks : (c n : ℕ) → c < 65 → Lacks c (word_of n)
unfolding rules
word_lacks c n h = letters_lack c h (word_of n) (every_word_in (list_all (leb 65)) refl rules refl n)

pub word_short : (n : ℕ) → length (word_of n) ≤ 4
unfolding rules
word_short n = leb-true (length (word_of n)) 4 (every_word_in (λ w. leb (length w) 4) refl rules refl n)
