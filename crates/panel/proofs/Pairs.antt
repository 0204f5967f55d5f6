-- A text of digits and blanks, byte by byte: what was read of it, and what is left.
use Rattle.std.proofs.Common.{◌≡◌, ℕ, ◌-◌, ◌<◌, true, false, cond, subst, List, [], ◌∷◌, ◌++◌, length, take, drop, get_or, le_of_eq, Some, None, Option, Err, Result, sym, refl, ap, ◌∙◌, append_assoc, append-nil, arith}
use Rattle.std.proofs.lemmas.List.{length-drop, nil_from_length, take_all}
use Rattle.panel.specs.declared.commands.Mistake.{Mistake}
use Rattle.panel.specs.declared.commands.Mistake.TheVariants.{BadSchedule}
use Rattle.panel.specs.declared.words.Gap.TheVariants.{Blank}
use Rattle.panel.specs.Numbers.{digit_of}
use Rattle.panel.specs.Schedules.{Put, bytes_of, first_byte, followed, paired}
use Rattle.panel.specs.Words.{is_gap}

-- Bytes with those of the rest after them.
abbrev pub after : List ℕ → Option (List ℕ) → Option (List ℕ)
after bs None = None
after bs (Some more) = Some (bs ++ more)

after_none : (o : Option (List ℕ)) → o ≡ after [] o
after_none None = refl
after_none (Some more) = refl

after_followed : (bs : List ℕ) (b : ℕ) (o : Option (List ℕ)) → after bs (followed (Some b) o) ≡ after (bs ++ b ∷ []) o
after_followed bs b None = refl
after_followed bs b (Some more) = ap Some (sym (append_assoc bs (b ∷ []) more))

-- A text that begins with no blank.
abbrev Bare : List ℕ → Type 0
Bare [] = Unit {0}
Bare (c ∷ cs) = is_gap Blank c ≡ false

bare : (l : List ℕ) → false ≡ is_gap Blank (get_or l 0 0) → Bare l
bare [] none = tt
bare (c ∷ cs) none = sym none

-- A blank adds nothing.
blank_first : (c : ℕ) (cs : List ℕ) → is_gap Blank c ≡ true → bytes_of (c ∷ cs) ≡ bytes_of cs
unfolding bytes_of
blank_first c [] gap = ap (λ g. cond {A = Option (List ℕ)} g (Some []) None) gap
blank_first c (d ∷ ds) gap = ap (λ g. cond g (bytes_of (d ∷ ds)) (followed (paired (digit_of c) (digit_of d)) (bytes_of ds))) gap

blank_over : (l : List ℕ) → 0 < length l → true ≡ is_gap Blank (get_or l 0 0) → bytes_of l ≡ bytes_of (drop 1 l)
blank_over [] some gap = absurd (omega arith)
blank_over (c ∷ cs) some gap = blank_first c cs (sym gap)

-- A text that begins with a byte's two digits, and one that does not.
byte_first : (l : List ℕ) (b : ℕ) → Bare l → first_byte l ≡ Some b → bytes_of l ≡ followed (Some b) (bytes_of (drop 2 l))
unfolding bytes_of
byte_first [] b h e = let z : ◌≡◌ {A = ℕ} 0 1 = cc in absurd (omega arith)
byte_first (c ∷ []) b h e = let z : ◌≡◌ {A = ℕ} 0 1 = cc in absurd (omega arith)
byte_first (c ∷ (d ∷ ds)) b h e =
    ap (λ g. cond g (bytes_of (d ∷ ds)) (followed (paired (digit_of c) (digit_of d)) (bytes_of ds))) h ∙ ap (λ o. followed o (bytes_of ds)) e

bad_first : (l : List ℕ) → Bare l → 0 < length l → first_byte l ≡ None → bytes_of l ≡ None
unfolding bytes_of
bad_first [] h some e = absurd (omega arith)
bad_first (c ∷ []) h some e = ap (λ g. cond {A = Option (List ℕ)} g (Some []) None) h
bad_first (c ∷ (d ∷ ds)) h some e =
    ap (λ g. cond g (bytes_of (d ∷ ds)) (followed (paired (digit_of c) (digit_of d)) (bytes_of ds))) h ∙ ap (λ o. followed o (bytes_of ds)) e

-- The bytes read, with those that are left, are those of the whole text.
pub record SoFar (t bs left : List ℕ) : Type 0 where
  pub whole : bytes_of t ≡ after bs (bytes_of left)

pub none_so_far : (t bs : List ℕ) → bs ≡ [] → SoFar t bs t
none_so_far t bs e = record { whole = after_none (bytes_of t) ∙ ap (λ l. after l (bytes_of t)) (sym e) }

-- What is left after a blank is lent as so many bytes of it.
pub blank_so_far : (t bs left : List ℕ) → 0 < length left → true ≡ is_gap Blank (get_or left 0 0) → SoFar t bs left → SoFar t bs (take (length left - 1) (drop 1 left))
blank_so_far t bs left some gap s =
    let all : take (length left - 1) (drop 1 left) ≡ drop 1 left = take_all (length left - 1) (drop 1 left) (le_of_eq (length-drop 1 left)) in
    record { whole = s.whole ∙ ap (after bs) (blank_over left some gap ∙ ap bytes_of (sym all)) }

pub byte_so_far : (t bs cs left others : List ℕ) (b : ℕ) → false ≡ is_gap Blank (get_or left 0 0) → first_byte left ≡ Some b → others ≡ drop 2 left → cs ≡ bs ++ b ∷ [] →
    SoFar t bs left → SoFar t cs others
byte_so_far t bs cs left others b none e f more s = record {
  whole =
      s.whole ∙ ap (after bs) (byte_first left b (bare left none) e) ∙ after_followed bs b (bytes_of (drop 2 left)) ∙ ap (λ l. after l (bytes_of (drop 2 left))) (sym more)
      ∙ ap (λ l. after cs (bytes_of l)) (sym f);
}

pub bad_so_far : (t bs left : List ℕ) → 0 < length left → false ≡ is_gap Blank (get_or left 0 0) → first_byte left ≡ None → SoFar t bs left → bytes_of t ≡ None
bad_so_far t bs left some none e s = s.whole ∙ ap (after bs) (bad_first left (bare left none) some e)

none_left : bytes_of [] ≡ Some []
unfolding bytes_of
none_left = refl

pub all_so_far : (t bs left : List ℕ) → length left ≡ 0 → SoFar t bs left → bytes_of t ≡ Some bs
all_so_far t bs left h s =
    s.whole ∙ ap (λ l. after bs (bytes_of l)) (nil_from_length left h) ∙ ap (after bs) none_left ∙ ap Some (append-nil bs)

pub bad_put : (r : Result (Unit {0}) Mistake) (bs : List ℕ) (o : Option (List ℕ)) → r ≡ Err BadSchedule → o ≡ None → Put r bs o
bad_put r bs o e h = subst (λ x. Put x bs o) (sym e) h
