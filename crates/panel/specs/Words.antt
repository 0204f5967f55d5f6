-- A text's words, by its bytes.
use Rattle.std.specs.Prelude.{ℕ, Bool, cond, ◌||◌, List, [], ◌∷◌, length, ◌==◌}
use Rattle.panel.specs.declared.words.Gap.{Gap}
use Rattle.panel.specs.declared.words.Gap.TheVariants.{Blank, Mark}

-- Whether a byte is such a gap. A blank is a space, a tab, a carriage return or a line feed.
abbrev pub is_gap : Gap → ℕ → Bool
is_gap Blank b = b == 32 || (b == 9 || (b == 13 || b == 10))
is_gap (Mark mark) b = b == mark

-- A text from its first byte on that is no blank.
abbrev pub after_blanks : List ℕ → List ℕ
after_blanks [] = []
after_blanks (b ∷ bs) = cond (is_gap Blank b) (after_blanks bs) (b ∷ bs)

-- A text up to its first gap, and from that gap on. One with no gap is all in the first part.
abbrev pub up_to_gap : Gap → List ℕ → List ℕ
up_to_gap g [] = []
up_to_gap g (b ∷ bs) = cond (is_gap g b) [] (b ∷ up_to_gap g bs)

abbrev pub from_gap : Gap → List ℕ → List ℕ
from_gap g [] = []
from_gap g (b ∷ bs) = cond (is_gap g b) (b ∷ bs) (from_gap g bs)

-- The first word of a text, which is empty where there is none, and what follows it.
abbrev pub word_of : List ℕ → List ℕ
word_of t = up_to_gap Blank (after_blanks t)

abbrev pub rest_of : List ℕ → List ℕ
rest_of t = from_gap Blank (after_blanks t)

-- Whether there is no word.
abbrev pub no_word : List ℕ → Bool
no_word t = length (after_blanks t) == 0
