-- The byte tried by computation: a text for each row and rank of Ask 2's table, with its number, its line and its byte.
-- Assumes nothing.
use mathlib.Core.Path.{◌≡◌, refl}
use mathlib.Core.List.{List, [], ◌∷◌, ◌++◌, map}
use Prim.Native.Nat.{ℕ}
use lib.ListN.{length, replicate}
use Rattle.rules.specs.Rules.{rules, rule_in, is_rule_in, one_next_in}
use Rattle.lists.specs.Leftmost.{leftmost_from}
use Rattle.sets.specs.Sets.{members_from}
use Rattle.text.specs.Split.{split}
use Rattle.text.specs.Lines.{as_lines, printable}
use Rattle.text.specs.Walk.{Outcome, accepted, faulty, walk}
use Rattle.fields.specs.Fields.{part_start}
use Rattle.numbers.specs.Numbers.{digits, value_from, decimal}
use Rattle.numbers.specs.Listed.{are_numbers}
use Rattle.line_places.specs.Place.{place_at, unprintable_place, ranked_at, lines_bytes}
use Rattle.pattern_header.specs.Header.{same_fields, name_bytes, are_names, among, distinct}
use Rattle.pattern_order.specs.StateLine.{follows_last, breaks_turns}
use Rattle.pattern_store.specs.Next.{states_of, all_within, all_single}
use Rattle.pattern_store.specs.Format.{Known, pattern_text}
use Rattle.pattern_places.specs.Place.{wrong_name, no_number, bead_wrong, state_wrong, disordered_at, stray_set, ambiguous_set}
use Rattle.pattern_byte.specs.Byte.{labels_named, rows_below, row_before, place_in, pattern_byte}

pub record Case : Type 0 where
  pub text : List ℕ
  pub number : ℕ
  pub line : ℕ
  pub byte : ℕ

-- A header with one label, one with two, and a first row.
--     bead rule state final a
unfoldable pub header : List ℕ
header = 98 ∷ 101 ∷ 97 ∷ 100 ∷ 32 ∷ 114 ∷ 117 ∷ 108 ∷ 101 ∷ 32 ∷ 115 ∷ 116 ∷ 97 ∷ 116 ∷ 101 ∷ 32 ∷ 102 ∷ 105 ∷ 110 ∷ 97 ∷ 108 ∷ 32 ∷ 97 ∷ 10 ∷ []

--     bead rule state final a b
unfoldable pub header2 : List ℕ
header2 = 98 ∷ 101 ∷ 97 ∷ 100 ∷ 32 ∷ 114 ∷ 117 ∷ 108 ∷ 101 ∷ 32 ∷ 115 ∷ 116 ∷ 97 ∷ 116 ∷ 101 ∷ 32 ∷ 102 ∷ 105 ∷ 110 ∷ 97 ∷ 108 ∷ 32 ∷ 97 ∷ 32 ∷ 98 ∷ 10 ∷ []

--     1 SOME 0 0 0
unfoldable pub row : List ℕ
row = 49 ∷ 32 ∷ 83 ∷ 79 ∷ 77 ∷ 69 ∷ 32 ∷ 48 ∷ 32 ∷ 48 ∷ 32 ∷ 48 ∷ 10 ∷ []

unfoldable pub cases : List Case
cases =
    -- 10: no text
    record { text = []; number = 10; line = 0; byte = 0 }
    -- 11: 241 bytes, the first of them outside 32 to 126
    ∷ record { text = (9 ∷ []) ++ (replicate 240 120 ++ (10 ∷ [])); number = 11; line = 1; byte = 0 }
    -- 11: no newline, and a byte outside 32 to 126
    ∷ record { text = 98 ∷ 101 ∷ 9 ∷ 100 ∷ []; number = 11; line = 1; byte = 0 }
    -- 11: a byte outside 32 to 126 stands behind a wrong name
    -- `Bead rule\tstate\n`
    ∷ record { text = 66 ∷ 101 ∷ 97 ∷ 100 ∷ 32 ∷ 114 ∷ 117 ∷ 108 ∷ 101 ∷ 9 ∷ 115 ∷ 116 ∷ 97 ∷ 116 ∷ 101 ∷ 10 ∷ []; number = 11; line = 1; byte = 10 }
    -- 11: the first of two such bytes; the number of fields is wrong too
    ∷ record { text = header ++ (49 ∷ 32 ∷ 83 ∷ 79 ∷ 77 ∷ 69 ∷ 32 ∷ 48 ∷ 9 ∷ 48 ∷ 9 ∷ 10 ∷ []); number = 11; line = 2; byte = 9 }
    -- 11: a field too few, and one that is no number
    -- `1 SOME x 0\n`
    ∷ record { text = header ++ (49 ∷ 32 ∷ 83 ∷ 79 ∷ 77 ∷ 69 ∷ 32 ∷ 120 ∷ 32 ∷ 48 ∷ 10 ∷ []); number = 11; line = 2; byte = 0 }
    -- 11: a field too many, which is empty
    -- `1 SOME 0 0 0 \n`
    ∷ record { text = header ++ (49 ∷ 32 ∷ 83 ∷ 79 ∷ 77 ∷ 69 ∷ 32 ∷ 48 ∷ 32 ∷ 48 ∷ 32 ∷ 48 ∷ 32 ∷ 10 ∷ []); number = 11; line = 2; byte = 0 }
    -- 11: an empty line
    ∷ record { text = header ++ (10 ∷ []); number = 11; line = 2; byte = 0 }
    -- 11: the first of two fields that are no numbers
    -- `1 SOME x y 0\n`
    ∷ record { text = header ++ (49 ∷ 32 ∷ 83 ∷ 79 ∷ 77 ∷ 69 ∷ 32 ∷ 120 ∷ 32 ∷ 121 ∷ 32 ∷ 48 ∷ 10 ∷ []); number = 11; line = 2; byte = 8 }
    -- 11: the bead, where the rule is odd
    -- `a ANY 0 0 0\n`
    ∷ record { text = header ++ (97 ∷ 32 ∷ 65 ∷ 78 ∷ 89 ∷ 32 ∷ 48 ∷ 32 ∷ 48 ∷ 32 ∷ 48 ∷ 10 ∷ []); number = 11; line = 2; byte = 1 }
    -- 11: the last next set is empty
    -- `1 SOME 0 0 \n`
    ∷ record { text = header ++ (49 ∷ 32 ∷ 83 ∷ 79 ∷ 77 ∷ 69 ∷ 32 ∷ 48 ∷ 32 ∷ 48 ∷ 32 ∷ 10 ∷ []); number = 11; line = 2; byte = 12 }
    -- 11: the same in a line of 240 bytes
    ∷ record { text = header ++ ((49 ∷ 32 ∷ []) ++ (replicate 233 120 ++ (32 ∷ 48 ∷ 32 ∷ 48 ∷ 32 ∷ 10 ∷ []))); number = 11; line = 2; byte = 241 }
    -- 12: a name is left out, so that the second is wrong
    -- `bead state final a\n`
    ∷ record { text = 98 ∷ 101 ∷ 97 ∷ 100 ∷ 32 ∷ 115 ∷ 116 ∷ 97 ∷ 116 ∷ 101 ∷ 32 ∷ 102 ∷ 105 ∷ 110 ∷ 97 ∷ 108 ∷ 32 ∷ 97 ∷ 10 ∷ []; number = 12; line = 1; byte = 6 }
    -- 12: an empty line is one empty name
    ∷ record { text = 10 ∷ []; number = 12; line = 1; byte = 1 }
    -- 12: no label
    -- `bead rule state final\n`
    ∷ record { text = 98 ∷ 101 ∷ 97 ∷ 100 ∷ 32 ∷ 114 ∷ 117 ∷ 108 ∷ 101 ∷ 32 ∷ 115 ∷ 116 ∷ 97 ∷ 116 ∷ 101 ∷ 32 ∷ 102 ∷ 105 ∷ 110 ∷ 97 ∷ 108 ∷ 10 ∷ []; number = 12; line = 1; byte = 0 }
    -- 12: an empty label
    -- `bead rule state final \n`
    ∷ record { text = 98 ∷ 101 ∷ 97 ∷ 100 ∷ 32 ∷ 114 ∷ 117 ∷ 108 ∷ 101 ∷ 32 ∷ 115 ∷ 116 ∷ 97 ∷ 116 ∷ 101 ∷ 32 ∷ 102 ∷ 105 ∷ 110 ∷ 97 ∷ 108 ∷ 32 ∷ 10 ∷ []; number = 12; line = 1; byte = 23 }
    -- 12: two names, the second wrong
    -- `bead Rule\n`
    ∷ record { text = 98 ∷ 101 ∷ 97 ∷ 100 ∷ 32 ∷ 82 ∷ 117 ∷ 108 ∷ 101 ∷ 10 ∷ []; number = 12; line = 1; byte = 6 }
    -- 12: the second of two equal labels, and a wrong label after it
    -- `bead rule state final a b a C\n`
    ∷ record { text = 98 ∷ 101 ∷ 97 ∷ 100 ∷ 32 ∷ 114 ∷ 117 ∷ 108 ∷ 101 ∷ 32 ∷ 115 ∷ 116 ∷ 97 ∷ 116 ∷ 101 ∷ 32 ∷ 102 ∷ 105 ∷ 110 ∷ 97 ∷ 108 ∷ 32 ∷ 97 ∷ 32 ∷ 98 ∷ 32 ∷ 97 ∷ 32 ∷ 67 ∷ 10 ∷ []; number = 12; line = 1; byte = 27 }
    -- 12: a label called `bead` repeats nothing; a letter in upper case
    -- `bead rule state final bead A\n`
    ∷ record { text = 98 ∷ 101 ∷ 97 ∷ 100 ∷ 32 ∷ 114 ∷ 117 ∷ 108 ∷ 101 ∷ 32 ∷ 115 ∷ 116 ∷ 97 ∷ 116 ∷ 101 ∷ 32 ∷ 102 ∷ 105 ∷ 110 ∷ 97 ∷ 108 ∷ 32 ∷ 98 ∷ 101 ∷ 97 ∷ 100 ∷ 32 ∷ 65 ∷ 10 ∷ []; number = 12; line = 1; byte = 28 }
    -- 12: the 17th label
    -- `bead rule state final a b c d e f g h i j k l m n o p q\n`
    ∷ record { text = 98 ∷ 101 ∷ 97 ∷ 100 ∷ 32 ∷ 114 ∷ 117 ∷ 108 ∷ 101 ∷ 32 ∷ 115 ∷ 116 ∷ 97 ∷ 116 ∷ 101 ∷ 32 ∷ 102 ∷ 105 ∷ 110 ∷ 97 ∷ 108 ∷ 32 ∷ 97 ∷ 32 ∷ 98 ∷ 32 ∷ 99 ∷ 32 ∷ 100 ∷ 32 ∷ 101 ∷ 32 ∷ 102 ∷ 32 ∷ 103 ∷ 32 ∷ 104 ∷ 32 ∷ 105 ∷ 32 ∷ 106 ∷ 32 ∷ 107 ∷ 32 ∷ 108 ∷ 32 ∷ 109 ∷ 32 ∷ 110 ∷ 32 ∷ 111 ∷ 32 ∷ 112 ∷ 32 ∷ 113 ∷ 10 ∷ []; number = 12; line = 1; byte = 55 }
    -- 13: nothing after the header
    ∷ record { text = header; number = 13; line = 1; byte = 0 }
    -- 13: the first bead is not 1, and final is over 1
    -- `2 SOME 0 2 0\n`
    ∷ record { text = header ++ (50 ∷ 32 ∷ 83 ∷ 79 ∷ 77 ∷ 69 ∷ 32 ∷ 48 ∷ 32 ∷ 50 ∷ 32 ∷ 48 ∷ 10 ∷ []); number = 13; line = 2; byte = 1 }
    -- 13: the first state is not 0
    -- `1 SOME 1 0 0\n`
    ∷ record { text = header ++ (49 ∷ 32 ∷ 83 ∷ 79 ∷ 77 ∷ 69 ∷ 32 ∷ 49 ∷ 32 ∷ 48 ∷ 32 ∷ 48 ∷ 10 ∷ []); number = 13; line = 2; byte = 8 }
    -- 13: final over 1, where the rule is odd
    -- `1 ANY 0 2 0\n`
    ∷ record { text = header ++ (49 ∷ 32 ∷ 65 ∷ 78 ∷ 89 ∷ 32 ∷ 48 ∷ 32 ∷ 50 ∷ 32 ∷ 48 ∷ 10 ∷ []); number = 13; line = 2; byte = 9 }
    -- 13: a bead is left out
    -- `3 ALL 0 0 0\n`
    ∷ record { text = header ++ (row ++ (51 ∷ 32 ∷ 65 ∷ 76 ∷ 76 ∷ 32 ∷ 48 ∷ 32 ∷ 48 ∷ 32 ∷ 48 ∷ 10 ∷ [])); number = 13; line = 3; byte = 1 }
    -- 13: a state is left out
    -- `1 SOME 2 0 0\n`
    ∷ record { text = header ++ (row ++ (49 ∷ 32 ∷ 83 ∷ 79 ∷ 77 ∷ 69 ∷ 32 ∷ 50 ∷ 32 ∷ 48 ∷ 32 ∷ 48 ∷ 10 ∷ [])); number = 13; line = 3; byte = 8 }
    -- 13: the next bead begins with state 1
    -- `2 ALL 1 0 0\n`
    ∷ record { text = header ++ (row ++ (50 ∷ 32 ∷ 65 ∷ 76 ∷ 76 ∷ 32 ∷ 49 ∷ 32 ∷ 48 ∷ 32 ∷ 48 ∷ 10 ∷ [])); number = 13; line = 3; byte = 7 }
    -- 13: final over 1 in a later line
    -- `1 SOME 1 2 0\n`
    ∷ record { text = header ++ (row ++ (49 ∷ 32 ∷ 83 ∷ 79 ∷ 77 ∷ 69 ∷ 32 ∷ 49 ∷ 32 ∷ 50 ∷ 32 ∷ 48 ∷ 10 ∷ [])); number = 13; line = 3; byte = 10 }
    -- 13: bead 9 with state 3
    ∷ record {
      -- `1 SOME 0 0 0\n2 ALL 0 0 1\n3 SOME 0 0 0\n4 ALL 0 0 1\n5 SOME 0 0 0\n6 ALL 0 0 1\n7 SOME 0 0 0\n8 ALL 0 0 1\n`
      text = header ++ ((49 ∷ 32 ∷ 83 ∷ 79 ∷ 77 ∷ 69 ∷ 32 ∷ 48 ∷ 32 ∷ 48 ∷ 32 ∷ 48 ∷ 10
          ∷ 50 ∷ 32 ∷ 65 ∷ 76 ∷ 76 ∷ 32 ∷ 48 ∷ 32 ∷ 48 ∷ 32 ∷ 49 ∷ 10
          ∷ 51 ∷ 32 ∷ 83 ∷ 79 ∷ 77 ∷ 69 ∷ 32 ∷ 48 ∷ 32 ∷ 48 ∷ 32 ∷ 48 ∷ 10
          ∷ 52 ∷ 32 ∷ 65 ∷ 76 ∷ 76 ∷ 32 ∷ 48 ∷ 32 ∷ 48 ∷ 32 ∷ 49 ∷ 10
          ∷ 53 ∷ 32 ∷ 83 ∷ 79 ∷ 77 ∷ 69 ∷ 32 ∷ 48 ∷ 32 ∷ 48 ∷ 32 ∷ 48 ∷ 10
          ∷ 54 ∷ 32 ∷ 65 ∷ 76 ∷ 76 ∷ 32 ∷ 48 ∷ 32 ∷ 48 ∷ 32 ∷ 49 ∷ 10
          ∷ 55 ∷ 32 ∷ 83 ∷ 79 ∷ 77 ∷ 69 ∷ 32 ∷ 48 ∷ 32 ∷ 48 ∷ 32 ∷ 48 ∷ 10
          ∷ 56 ∷ 32 ∷ 65 ∷ 76 ∷ 76 ∷ 32 ∷ 48 ∷ 32 ∷ 48 ∷ 32 ∷ 49 ∷ 10 ∷ []) ++ (57 ∷ 32 ∷ 83 ∷ 79 ∷ 77 ∷ 69 ∷ 32 ∷ 51 ∷ 32 ∷ 48 ∷ 32 ∷ 48 ∷ 10 ∷ []));
      number = 13;
      line = 10;
      byte = 1;
    }
    -- 13: bead 8 with state 3
    ∷ record {
      -- `1 SOME 0 0 0\n2 ALL 0 0 1\n3 SOME 0 0 0\n4 ALL 0 0 1\n5 SOME 0 0 0\n6 ALL 0 0 1\n7 SOME 0 0 0\n8 ALL 0 0 1\n`
      text = header ++ ((49 ∷ 32 ∷ 83 ∷ 79 ∷ 77 ∷ 69 ∷ 32 ∷ 48 ∷ 32 ∷ 48 ∷ 32 ∷ 48 ∷ 10
          ∷ 50 ∷ 32 ∷ 65 ∷ 76 ∷ 76 ∷ 32 ∷ 48 ∷ 32 ∷ 48 ∷ 32 ∷ 49 ∷ 10
          ∷ 51 ∷ 32 ∷ 83 ∷ 79 ∷ 77 ∷ 69 ∷ 32 ∷ 48 ∷ 32 ∷ 48 ∷ 32 ∷ 48 ∷ 10
          ∷ 52 ∷ 32 ∷ 65 ∷ 76 ∷ 76 ∷ 32 ∷ 48 ∷ 32 ∷ 48 ∷ 32 ∷ 49 ∷ 10
          ∷ 53 ∷ 32 ∷ 83 ∷ 79 ∷ 77 ∷ 69 ∷ 32 ∷ 48 ∷ 32 ∷ 48 ∷ 32 ∷ 48 ∷ 10
          ∷ 54 ∷ 32 ∷ 65 ∷ 76 ∷ 76 ∷ 32 ∷ 48 ∷ 32 ∷ 48 ∷ 32 ∷ 49 ∷ 10
          ∷ 55 ∷ 32 ∷ 83 ∷ 79 ∷ 77 ∷ 69 ∷ 32 ∷ 48 ∷ 32 ∷ 48 ∷ 32 ∷ 48 ∷ 10
          ∷ 56 ∷ 32 ∷ 65 ∷ 76 ∷ 76 ∷ 32 ∷ 48 ∷ 32 ∷ 48 ∷ 32 ∷ 49 ∷ 10 ∷ []) ++ (56 ∷ 32 ∷ 65 ∷ 76 ∷ 76 ∷ 32 ∷ 51 ∷ 32 ∷ 48 ∷ 32 ∷ 48 ∷ 10 ∷ []));
      number = 13;
      line = 10;
      byte = 7;
    }
    -- 13: state 16
    ∷ record {
      text = header ++ ((49 ∷ 32 ∷ 83 ∷ 79 ∷ 77 ∷ 69 ∷ 32 ∷ 48 ∷ 32 ∷ 48 ∷ 32 ∷ 48 ∷ 10
          ∷ 49 ∷ 32 ∷ 83 ∷ 79 ∷ 77 ∷ 69 ∷ 32 ∷ 49 ∷ 32 ∷ 48 ∷ 32 ∷ 48 ∷ 10
          ∷ 49 ∷ 32 ∷ 83 ∷ 79 ∷ 77 ∷ 69 ∷ 32 ∷ 50 ∷ 32 ∷ 48 ∷ 32 ∷ 48 ∷ 10
          ∷ 49 ∷ 32 ∷ 83 ∷ 79 ∷ 77 ∷ 69 ∷ 32 ∷ 51 ∷ 32 ∷ 48 ∷ 32 ∷ 48 ∷ 10
          ∷ 49 ∷ 32 ∷ 83 ∷ 79 ∷ 77 ∷ 69 ∷ 32 ∷ 52 ∷ 32 ∷ 48 ∷ 32 ∷ 48 ∷ 10
          ∷ 49 ∷ 32 ∷ 83 ∷ 79 ∷ 77 ∷ 69 ∷ 32 ∷ 53 ∷ 32 ∷ 48 ∷ 32 ∷ 48 ∷ 10
          ∷ 49 ∷ 32 ∷ 83 ∷ 79 ∷ 77 ∷ 69 ∷ 32 ∷ 54 ∷ 32 ∷ 48 ∷ 32 ∷ 48 ∷ 10
          ∷ 49 ∷ 32 ∷ 83 ∷ 79 ∷ 77 ∷ 69 ∷ 32 ∷ 55 ∷ 32 ∷ 48 ∷ 32 ∷ 48 ∷ 10
          ∷ 49 ∷ 32 ∷ 83 ∷ 79 ∷ 77 ∷ 69 ∷ 32 ∷ 56 ∷ 32 ∷ 48 ∷ 32 ∷ 48 ∷ 10
          ∷ 49 ∷ 32 ∷ 83 ∷ 79 ∷ 77 ∷ 69 ∷ 32 ∷ 57 ∷ 32 ∷ 48 ∷ 32 ∷ 48 ∷ 10
          ∷ 49 ∷ 32 ∷ 83 ∷ 79 ∷ 77 ∷ 69 ∷ 32 ∷ 49 ∷ 48 ∷ 32 ∷ 48 ∷ 32 ∷ 48 ∷ 10
          ∷ 49 ∷ 32 ∷ 83 ∷ 79 ∷ 77 ∷ 69 ∷ 32 ∷ 49 ∷ 49 ∷ 32 ∷ 48 ∷ 32 ∷ 48 ∷ 10
          ∷ 49 ∷ 32 ∷ 83 ∷ 79 ∷ 77 ∷ 69 ∷ 32 ∷ 49 ∷ 50 ∷ 32 ∷ 48 ∷ 32 ∷ 48 ∷ 10
          ∷ 49 ∷ 32 ∷ 83 ∷ 79 ∷ 77 ∷ 69 ∷ 32 ∷ 49 ∷ 51 ∷ 32 ∷ 48 ∷ 32 ∷ 48 ∷ 10
          ∷ 49 ∷ 32 ∷ 83 ∷ 79 ∷ 77 ∷ 69 ∷ 32 ∷ 49 ∷ 52 ∷ 32 ∷ 48 ∷ 32 ∷ 48 ∷ 10
          ∷ 49 ∷ 32 ∷ 83 ∷ 79 ∷ 77 ∷ 69 ∷ 32 ∷ 49 ∷ 53 ∷ 32 ∷ 48 ∷ 32 ∷ 48 ∷ 10 ∷ []) ++ (49 ∷ 32 ∷ 83 ∷ 79 ∷ 77 ∷ 69 ∷ 32 ∷ 49 ∷ 54 ∷ 32 ∷ 48 ∷ 32 ∷ 48 ∷ 10 ∷ []));
      number = 13;
      line = 18;
      byte = 8;
    }
    -- 14: no rule
    -- `1 ANY 0 0 0\n`
    ∷ record { text = header ++ (49 ∷ 32 ∷ 65 ∷ 78 ∷ 89 ∷ 32 ∷ 48 ∷ 32 ∷ 48 ∷ 32 ∷ 48 ∷ 10 ∷ []); number = 14; line = 2; byte = 3 }
    -- 14: the rule changes inside a bead
    -- `1 ALL 1 0 1\n`
    ∷ record { text = header ++ (row ++ (49 ∷ 32 ∷ 65 ∷ 76 ∷ 76 ∷ 32 ∷ 49 ∷ 32 ∷ 48 ∷ 32 ∷ 49 ∷ 10 ∷ [])); number = 14; line = 3; byte = 3 }
    -- 14: the rule of the bead before
    -- `2 SOME 0 0 0\n`
    ∷ record { text = header ++ (row ++ (50 ∷ 32 ∷ 83 ∷ 79 ∷ 77 ∷ 69 ∷ 32 ∷ 48 ∷ 32 ∷ 48 ∷ 32 ∷ 48 ∷ 10 ∷ [])); number = 14; line = 3; byte = 3 }
    -- 15: a set of 16 stands left of it
    -- `1 ALL 0 0 0 2\n`
    ∷ record { text = header2 ++ (49 ∷ 32 ∷ 65 ∷ 76 ∷ 76 ∷ 32 ∷ 48 ∷ 32 ∷ 48 ∷ 32 ∷ 48 ∷ 32 ∷ 50 ∷ 10 ∷ []); number = 15; line = 2; byte = 13 }
    -- 15: the first of two
    -- `1 SOME 0 0 0 0\n`, `2 ALL 0 0 2 2\n`
    ∷ record { text = header2 ++ ((49 ∷ 32 ∷ 83 ∷ 79 ∷ 77 ∷ 69 ∷ 32 ∷ 48 ∷ 32 ∷ 48 ∷ 32 ∷ 48 ∷ 32 ∷ 48 ∷ 10 ∷ []) ++ (50 ∷ 32 ∷ 65 ∷ 76 ∷ 76 ∷ 32 ∷ 48 ∷ 32 ∷ 48 ∷ 32 ∷ 50 ∷ 32 ∷ 50 ∷ 10 ∷ [])); number = 15; line = 3; byte = 11 }
    -- 16: no next state
    -- `1 ALL 0 0 1 0\n`
    ∷ record { text = header2 ++ (49 ∷ 32 ∷ 65 ∷ 76 ∷ 76 ∷ 32 ∷ 48 ∷ 32 ∷ 48 ∷ 32 ∷ 49 ∷ 32 ∷ 48 ∷ 10 ∷ []); number = 16; line = 2; byte = 13 }
    -- 16: the first of two
    -- `1 ALL 0 0 1 1\n`, `1 ALL 1 0 3 0\n`
    ∷ record { text = header2 ++ ((49 ∷ 32 ∷ 65 ∷ 76 ∷ 76 ∷ 32 ∷ 48 ∷ 32 ∷ 48 ∷ 32 ∷ 49 ∷ 32 ∷ 49 ∷ 10 ∷ []) ++ (49 ∷ 32 ∷ 65 ∷ 76 ∷ 76 ∷ 32 ∷ 49 ∷ 32 ∷ 48 ∷ 32 ∷ 51 ∷ 32 ∷ 48 ∷ 10 ∷ [])); number = 16; line = 3; byte = 11 }
    ∷ []

pub cases_count : length cases ≡ 38
unfolding cases
cases_count = refl

pub bytes : map (λ c. pattern_byte c.text c.number c.line) cases ≡ map (λ c. c.byte) cases
unfolding cases header header2 row pattern_byte place_in labels_named rows_below row_before ranked_at place_at unprintable_place lines_bytes leftmost_from part_start wrong_name no_number bead_wrong state_wrong disordered_at stray_set ambiguous_set as_lines split printable digits value_from decimal name_bytes among states_of members_from
bytes = refl

-- Their numbers and lines are those that the format says.
pub record At : Type 0 where
  pub number : ℕ
  pub line : ℕ

abbrev pub fault_of : Outcome Known → At
fault_of (accepted k) = record { number = 0; line = 0 }
fault_of (faulty n l) = record { number = n; line = l }

pub faults : map (λ c. fault_of (pattern_text c.text)) cases ≡ map (λ c. record { number = c.number; line = c.line }) cases
unfolding cases header header2 row walk as_lines split printable digits value_from decimal same_fields name_bytes are_names among distinct are_numbers rules rule_in is_rule_in one_next_in follows_last breaks_turns states_of all_within all_single members_from
faults = refl
