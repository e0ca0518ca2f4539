-- The rules that a bead may have (document 01, "Texts" and "Lent rooms"), a row a rule.
use Rattle.std.specs.Prelude.{ℕ, Bool, true, false, cond, ◌||◌, List, [], ◌∷◌, eqb}
use Rattle.fields.specs.Fields.{same_bytes}

-- Its number in the pattern buffer; its word in a text; whether its bead needs just one next state for each state and label.
pub record Rule : Type 0 where
  pub number : ℕ
  pub word : List ℕ
  pub one_next : Bool

-- `SOME`, `ALL`
unfoldable pub rules : List Rule
rules =
    record { number = 1; word = 83 ∷ 79 ∷ 77 ∷ 69 ∷ []; one_next = false }
    ∷ (record { number = 2; word = 65 ∷ 76 ∷ 76 ∷ []; one_next = true } ∷ [])

-- The number of the rule with this word; 0 if there is none.
unfoldable pub rule_in : List Rule → List ℕ → ℕ
rule_in [] f = 0
rule_in (r ∷ rs) f = cond (same_bytes f r.word) r.number (rule_in rs f)

-- Does a rule have this number?
unfoldable pub is_rule_in : List Rule → ℕ → Bool
is_rule_in [] n = false
is_rule_in (r ∷ rs) n = eqb n r.number || is_rule_in rs n

-- The word of the rule with this number; without a byte if there is none.
unfoldable pub word_in : List Rule → ℕ → List ℕ
word_in [] n = []
word_in (r ∷ rs) n = cond (eqb n r.number) r.word (word_in rs n)

-- Does the rule with this number need just one next state everywhere?
unfoldable pub one_next_in : List Rule → ℕ → Bool
one_next_in [] n = false
one_next_in (r ∷ rs) n = cond (eqb n r.number) r.one_next (one_next_in rs n)

abbrev pub rule_of : List ℕ → ℕ
rule_of f = rule_in rules f

abbrev pub word_of : ℕ → List ℕ
word_of n = word_in rules n

abbrev pub is_rule : ℕ → Bool
is_rule n = is_rule_in rules n

abbrev pub needs_one_next : ℕ → Bool
needs_one_next n = one_next_in rules n
