-- The format tried by computation: document 01's listing with its rows and its numbers, and a text for each refusal.
-- Assumes nothing.
use mathlib.Core.Path.{◌≡◌, refl}
use mathlib.Core.Bool.{Bool, true, false, ◌&&◌}
use mathlib.Core.List.{List, [], ◌∷◌, map}
use Prim.Native.Nat.{ℕ}
use lib.Dec.{eqb}
use lib.ListN.{get_or, take}
use Rattle.sets.specs.Sets.{set_of, members_from}
use Rattle.text.specs.Split.{split}
use Rattle.text.specs.Lines.{as_lines, printable}
use Rattle.numbers.specs.Numbers.{digits, value_from, decimal}
use Rattle.text.specs.Walk.{Outcome, accepted, faulty, walk}
use Rattle.layout.specs.Layout.{sets_begin, next_at}
use Rattle.rules.specs.Rules.{rules, rule_in, is_rule_in, one_next_in}
use Rattle.lists.specs.Tables.{table}
use Rattle.pattern_header.specs.Header.{same_fields, name_bytes, are_names, among, distinct}
use Rattle.pattern_order.specs.StateLine.{follows_last, breaks_turns}
use Rattle.pattern_store.specs.Next.{states_of, all_within, all_single}
use Rattle.pattern_store.specs.Format.{Known, pattern_text}
use Rattle.pattern_store.specs.Buffer.{bead_count, rule_of_bead, accepting_of, next_of, buffer_of}
use Rattle.numbers.specs.Listed.{are_numbers}

-- `pattern.txt`, a line of it in each line here
--     bead rule state final vac hot vent
--     1 SOME 0 0 3 1 1
--     1 SOME 1 1 0 0 0
--     2 ALL 0 1 1 1 2
--     2 ALL 1 0 2 2 2
unfoldable pub listing : List ℕ
listing =
    98 ∷ 101 ∷ 97 ∷ 100 ∷ 32 ∷ 114 ∷ 117 ∷ 108 ∷ 101 ∷ 32 ∷ 115 ∷ 116 ∷ 97 ∷ 116 ∷ 101 ∷ 32 ∷ 102 ∷ 105 ∷ 110 ∷ 97 ∷ 108 ∷ 32 ∷ 118 ∷ 97 ∷ 99 ∷ 32 ∷ 104 ∷ 111 ∷ 116 ∷ 32 ∷ 118 ∷ 101 ∷ 110 ∷ 116 ∷ 10
    ∷ 49 ∷ 32 ∷ 83 ∷ 79 ∷ 77 ∷ 69 ∷ 32 ∷ 48 ∷ 32 ∷ 48 ∷ 32 ∷ 51 ∷ 32 ∷ 49 ∷ 32 ∷ 49 ∷ 10
    ∷ 49 ∷ 32 ∷ 83 ∷ 79 ∷ 77 ∷ 69 ∷ 32 ∷ 49 ∷ 32 ∷ 49 ∷ 32 ∷ 48 ∷ 32 ∷ 48 ∷ 32 ∷ 48 ∷ 10
    ∷ 50 ∷ 32 ∷ 65 ∷ 76 ∷ 76 ∷ 32 ∷ 48 ∷ 32 ∷ 49 ∷ 32 ∷ 49 ∷ 32 ∷ 49 ∷ 32 ∷ 50 ∷ 10
    ∷ 50 ∷ 32 ∷ 65 ∷ 76 ∷ 76 ∷ 32 ∷ 49 ∷ 32 ∷ 48 ∷ 32 ∷ 50 ∷ 32 ∷ 50 ∷ 32 ∷ 50 ∷ 10 ∷ []

unfoldable pub listed : Known
listed = record {
  labels = 3;
  rows =
      record { bead = 1; rule = 1; state = 0; accepting = 0; next = 3 ∷ 1 ∷ 1 ∷ [] }
      ∷ record { bead = 1; rule = 1; state = 1; accepting = 1; next = 0 ∷ 0 ∷ 0 ∷ [] }
      ∷ record { bead = 2; rule = 2; state = 0; accepting = 1; next = 1 ∷ 1 ∷ 2 ∷ [] }
      ∷ record { bead = 2; rule = 2; state = 1; accepting = 0; next = 2 ∷ 2 ∷ 2 ∷ [] }
      ∷ [];
}

pub listing_accepted : pattern_text listing ≡ accepted listed
unfolding listing listed walk as_lines split printable digits value_from decimal same_fields name_bytes are_names among distinct are_numbers rules rule_in is_rule_in one_next_in follows_last breaks_turns states_of all_within all_single members_from
listing_accepted = refl

-- label count, bead count; rules; state counts; final sets
pub listing_front :
    take sets_begin (buffer_of listed)
    ≡ 3 ∷ 2 ∷ 1 ∷ 2 ∷ 0 ∷ 0 ∷ 0 ∷ 0 ∷ 0 ∷ 0 ∷ 2 ∷ 2 ∷ 0 ∷ 0 ∷ 0 ∷ 0 ∷ 0 ∷ 0 ∷ 2 ∷ 1 ∷ 0 ∷ 0 ∷ 0 ∷ 0 ∷ 0 ∷ 0 ∷ []
unfolding listed table bead_count rule_of_bead states_of accepting_of set_of
listing_front = refl

-- the next sets of states 0, 1 and 2 of the two beads, one place after the last label too
pub listing_next :
    map (λ i. get_or (buffer_of listed) i 0)
    (next_at 0 0 0 ∷ next_at 0 0 1 ∷ next_at 0 0 2 ∷ next_at 0 0 3 ∷ next_at 0 1 0 ∷ next_at 0 1 2 ∷ next_at 0 2 0 ∷ next_at 1 0 0 ∷ next_at 1 0 1
    ∷ next_at 1 0 2 ∷ next_at 1 0 3 ∷ next_at 1 1 0 ∷ next_at 1 1 2 ∷ next_at 1 2 0 ∷ next_at 2 0 0 ∷ next_at 7 15 15 ∷ [])
    ≡ 3 ∷ 1 ∷ 1 ∷ 0 ∷ 0 ∷ 0 ∷ 0 ∷ 1 ∷ 1 ∷ 2 ∷ 0 ∷ 2 ∷ 2 ∷ 0 ∷ 0 ∷ 0 ∷ []
unfolding listed table next_of
listing_next = refl

-- ---- refused texts

pub record Case : Type 0 where
  pub text : List ℕ
  pub number : ℕ
  pub line : ℕ

abbrev pub refused_with : Outcome Known → ℕ → ℕ → Bool
refused_with (accepted k) n line = false
refused_with (faulty m l) n line = eqb m n && eqb l line

unfoldable pub all_refused : List Case → Bool
all_refused [] = true
all_refused (c ∷ cs) = refused_with (pattern_text c.text) c.number c.line && all_refused cs

unfoldable pub cases : List Case
cases =
    -- no text
    record {
      text = [];
      number = 10;
      line = 0;
    }
    -- a field too few
    ∷ record {
      -- `bead rule state final a\n1 SOME 0 0\n`
      text = 98 ∷ 101 ∷ 97 ∷ 100 ∷ 32 ∷ 114 ∷ 117 ∷ 108 ∷ 101 ∷ 32 ∷ 115 ∷ 116 ∷ 97 ∷ 116 ∷ 101 ∷ 32 ∷ 102 ∷ 105 ∷ 110 ∷ 97 ∷ 108 ∷ 32 ∷ 97 ∷ 10
          ∷ 49 ∷ 32 ∷ 83 ∷ 79 ∷ 77 ∷ 69 ∷ 32 ∷ 48 ∷ 32 ∷ 48 ∷ 10 ∷ [];
      number = 11;
      line = 2;
    }
    -- no label
    ∷ record {
      -- `bead rule state final\n`
      text = 98 ∷ 101 ∷ 97 ∷ 100 ∷ 32 ∷ 114 ∷ 117 ∷ 108 ∷ 101 ∷ 32 ∷ 115 ∷ 116 ∷ 97 ∷ 116 ∷ 101 ∷ 32 ∷ 102 ∷ 105 ∷ 110 ∷ 97 ∷ 108 ∷ 10 ∷ [];
      number = 12;
      line = 1;
    }
    -- nothing after the header
    ∷ record {
      -- `bead rule state final a\n`
      text = 98 ∷ 101 ∷ 97 ∷ 100 ∷ 32 ∷ 114 ∷ 117 ∷ 108 ∷ 101 ∷ 32 ∷ 115 ∷ 116 ∷ 97 ∷ 116 ∷ 101 ∷ 32 ∷ 102 ∷ 105 ∷ 110 ∷ 97 ∷ 108 ∷ 32 ∷ 97 ∷ 10 ∷ [];
      number = 13;
      line = 1;
    }
    -- state 1 before state 0
    ∷ record {
      -- `bead rule state final a\n1 SOME 1 0 0\n`
      text = 98 ∷ 101 ∷ 97 ∷ 100 ∷ 32 ∷ 114 ∷ 117 ∷ 108 ∷ 101 ∷ 32 ∷ 115 ∷ 116 ∷ 97 ∷ 116 ∷ 101 ∷ 32 ∷ 102 ∷ 105 ∷ 110 ∷ 97 ∷ 108 ∷ 32 ∷ 97 ∷ 10
          ∷ 49 ∷ 32 ∷ 83 ∷ 79 ∷ 77 ∷ 69 ∷ 32 ∷ 49 ∷ 32 ∷ 48 ∷ 32 ∷ 48 ∷ 10 ∷ [];
      number = 13;
      line = 2;
    }
    -- no such rule
    ∷ record {
      -- `bead rule state final a\n1 ANY 0 0 0\n`
      text = 98 ∷ 101 ∷ 97 ∷ 100 ∷ 32 ∷ 114 ∷ 117 ∷ 108 ∷ 101 ∷ 32 ∷ 115 ∷ 116 ∷ 97 ∷ 116 ∷ 101 ∷ 32 ∷ 102 ∷ 105 ∷ 110 ∷ 97 ∷ 108 ∷ 32 ∷ 97 ∷ 10
          ∷ 49 ∷ 32 ∷ 65 ∷ 78 ∷ 89 ∷ 32 ∷ 48 ∷ 32 ∷ 48 ∷ 32 ∷ 48 ∷ 10 ∷ [];
      number = 14;
      line = 2;
    }
    -- the same rule twice
    ∷ record {
      -- `bead rule state final a\n1 ALL 0 0 1\n2 ALL 0 0 1\n`
      text = 98 ∷ 101 ∷ 97 ∷ 100 ∷ 32 ∷ 114 ∷ 117 ∷ 108 ∷ 101 ∷ 32 ∷ 115 ∷ 116 ∷ 97 ∷ 116 ∷ 101 ∷ 32 ∷ 102 ∷ 105 ∷ 110 ∷ 97 ∷ 108 ∷ 32 ∷ 97 ∷ 10
          ∷ 49 ∷ 32 ∷ 65 ∷ 76 ∷ 76 ∷ 32 ∷ 48 ∷ 32 ∷ 48 ∷ 32 ∷ 49 ∷ 10
          ∷ 50 ∷ 32 ∷ 65 ∷ 76 ∷ 76 ∷ 32 ∷ 48 ∷ 32 ∷ 48 ∷ 32 ∷ 49 ∷ 10 ∷ [];
      number = 14;
      line = 3;
    }
    -- state 1, which the bead lacks
    ∷ record {
      -- `bead rule state final a\n1 SOME 0 0 0\n2 ALL 0 0 2\n`
      text = 98 ∷ 101 ∷ 97 ∷ 100 ∷ 32 ∷ 114 ∷ 117 ∷ 108 ∷ 101 ∷ 32 ∷ 115 ∷ 116 ∷ 97 ∷ 116 ∷ 101 ∷ 32 ∷ 102 ∷ 105 ∷ 110 ∷ 97 ∷ 108 ∷ 32 ∷ 97 ∷ 10
          ∷ 49 ∷ 32 ∷ 83 ∷ 79 ∷ 77 ∷ 69 ∷ 32 ∷ 48 ∷ 32 ∷ 48 ∷ 32 ∷ 48 ∷ 10
          ∷ 50 ∷ 32 ∷ 65 ∷ 76 ∷ 76 ∷ 32 ∷ 48 ∷ 32 ∷ 48 ∷ 32 ∷ 50 ∷ 10 ∷ [];
      number = 15;
      line = 3;
    }
    -- no next state under ALL
    ∷ record {
      -- `bead rule state final a\n1 SOME 0 0 0\n2 ALL 0 0 0\n`
      text = 98 ∷ 101 ∷ 97 ∷ 100 ∷ 32 ∷ 114 ∷ 117 ∷ 108 ∷ 101 ∷ 32 ∷ 115 ∷ 116 ∷ 97 ∷ 116 ∷ 101 ∷ 32 ∷ 102 ∷ 105 ∷ 110 ∷ 97 ∷ 108 ∷ 32 ∷ 97 ∷ 10
          ∷ 49 ∷ 32 ∷ 83 ∷ 79 ∷ 77 ∷ 69 ∷ 32 ∷ 48 ∷ 32 ∷ 48 ∷ 32 ∷ 48 ∷ 10
          ∷ 50 ∷ 32 ∷ 65 ∷ 76 ∷ 76 ∷ 32 ∷ 48 ∷ 32 ∷ 48 ∷ 32 ∷ 48 ∷ 10 ∷ [];
      number = 16;
      line = 3;
    }
    -- two next states under ALL
    ∷ record {
      -- `bead rule state final a\n1 ALL 0 0 1\n1 ALL 1 0 3\n`
      text = 98 ∷ 101 ∷ 97 ∷ 100 ∷ 32 ∷ 114 ∷ 117 ∷ 108 ∷ 101 ∷ 32 ∷ 115 ∷ 116 ∷ 97 ∷ 116 ∷ 101 ∷ 32 ∷ 102 ∷ 105 ∷ 110 ∷ 97 ∷ 108 ∷ 32 ∷ 97 ∷ 10
          ∷ 49 ∷ 32 ∷ 65 ∷ 76 ∷ 76 ∷ 32 ∷ 48 ∷ 32 ∷ 48 ∷ 32 ∷ 49 ∷ 10
          ∷ 49 ∷ 32 ∷ 65 ∷ 76 ∷ 76 ∷ 32 ∷ 49 ∷ 32 ∷ 48 ∷ 32 ∷ 51 ∷ 10 ∷ [];
      number = 16;
      line = 3;
    }
    ∷ []

pub refusals : all_refused cases ≡ true
unfolding all_refused cases walk as_lines split printable digits value_from decimal same_fields name_bytes are_names among distinct are_numbers rules rule_in is_rule_in one_next_in follows_last breaks_turns states_of all_within all_single members_from
refusals = refl
