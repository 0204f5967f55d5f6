-- The verdict of a row, and the count of rows.
use Rattle.std.specs.Prelude.{ℕ, ◌+◌, min, Bool, cond, List, codes}
use Rattle.example_table.specs.declared.comparing.Tally.{Tally}

abbrev pub verdict_text : Bool → List ℕ
verdict_text same = cond same (codes "same") (codes "DIFFERENT")

-- One more, up to the largest number of 32 bits.
abbrev pub one_more : ℕ → ℕ
one_more n = min (n + 1) 4294967295

abbrev pub counted : Bool → Tally → Tally
counted same t = record { rows = one_more t.rows; different = cond same t.different (one_more t.different) }
