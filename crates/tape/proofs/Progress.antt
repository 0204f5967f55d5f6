-- How far a reading has come, and what a turn of the reader keeps.
use Rattle.std.proofs.Common.{◌≡◌, ℕ, suc, ◌+◌, ◌-◌, ◌<◌, ◌≤◌, Bool, true, false, List, [], ◌∷◌, ◌++◌, length, drop, set, Ok, Err, Result, sym, ap, ◌∙◌, append_assoc, append-nil, add-zero, add_assoc, arith}
use Rattle.std.proofs.lemmas.List.{length_push, length-append, length-drop, drop-drop, drop_more, set_at}
use Rattle.tape.proofs.Blanks.{skipped, stops}
use Rattle.tape.proofs.Endings.{later_later}
use Rattle.tape.specs.Places.{Found}
use Rattle.tape.specs.Reading.{Reading, answered}
use Rattle.tape.specs.Tape.{Ending, stopped, bad, full, later, Reads, no_room}
use Rattle.tape.specs.Words.{WordFrom, BrokenFrom}
use Rattle.tape.specs.declared.refusals.TapeRefusal.{TapeRefusal}
use Rattle.tape.specs.declared.refusals.TapeRefusal.TheVariants.{BadWord, BufferFull}

-- The words before the place stand at the buffer's front, and a reading of what is left goes on from them.
pub record Progress (tape before buffer : List ℕ) (at count : ℕ) : Type 0 where
  pub words : List ℕ
  pub counted : length words ≡ count
  pub room : count ≤ length before
  pub leaves : buffer ≡ words ++ drop count before
  pub goes_on : {more : List ℕ} {end : Ending} → Reads (length before - count) (drop at tape) more end → Reads (length before) tape (words ++ more) (later at end)

module _ {tape before buffer : List ℕ} {from count : ℕ} (p : Progress tape before buffer from count) where
  -- the buffer is as long as it was
  long : length buffer ≡ length before
  long = omega (arith, ap length p.leaves, length-append p.words (drop count before), length-drop count before, p.counted, p.room)

  -- a word takes one place of the room
  one_place : count < length buffer → suc (length before - (count + 1)) ≡ length before - count
  one_place fits = omega (arith, long)

  -- the blanks are skipped
  onward : {at : ℕ} {begins : Bool} {more : List ℕ} {end : Ending} → Found tape from at begins → Reads (length before - count) (drop at tape) more end → Reads (length before) tape (p.words ++ more) (later at end)
  onward f r = rw (f.moves, ← later_later) (p.goes_on (skipped (drop from tape) (rw (drop-drop, ← f.moves) r)))

  pub placed : {at : ℕ} (v : ℕ) → Found tape from at true → count < length buffer → WordFrom tape (at + 1) v → Progress tape before (set buffer count v) (at + 10) (count + 1)
  placed v f fits word =
      record {
        words = p.words ++ v ∷ [];
        counted = length_push p.words v ∙ ap (λ n. n + 1) p.counted;
        room = omega (arith, long);
        leaves = ap (λ l. set l count v) (p.leaves ∙ ap (λ l. p.words ++ l) (drop_more before count 0 (omega (arith, long)))) ∙ set_at p.words _ _ v count p.counted ∙ sym (append_assoc p.words (v ∷ []) (drop (count + 1) before));
        goes_on = λ r. rw (append_assoc, ← later_later) (onward f (rw (← one_place fits, f.mark.here) (word.reads (rw add_assoc r))));
      }

  -- the reading ends at what was found
  finished : {at : ℕ} {begins : Bool} {result : Result (ℕ × ℕ) TapeRefusal} (end : Ending) → Found tape from at begins → Reads (length before - count) (drop at tape) [] end → result ≡ answered p.words (later at end) → Reading tape before buffer result
  finished {at} end f r e =
      record {
        words = p.words;
        ending = later at end;
        reads = rw append-nil at (onward f r);
        answer = e;
        buffer = rw p.counted p.leaves;
      }

  pub ended : {at : ℕ} → Found tape from at false → Reading tape before buffer (Ok (count, at))
  ended f =
      let none = rw (f.moves, ← drop-drop) at f.mark in
      finished (stopped 0) f (rw (f.moves, ← drop-drop) (stops _ (drop from tape) none)) (rw (p.counted, add-zero))

  pub filled : {at : ℕ} → Found tape from at true → count ≡ length buffer → Reading tape before buffer (Err (BufferFull at))
  filled f e =
      let none : length before - count ≡ 0 = omega (arith, long) in
      finished (full 0) f (rw (none, f.mark.here) no_room) (rw add-zero)

  pub broken : {at : ℕ} (refusal : TapeRefusal) → Found tape from at true → count < length buffer → BrokenFrom tape (at + 1) refusal → Reading tape before buffer (Err refusal)
  broken refusal f fits b =
      finished (bad (1 + b.after)) f (rw (← one_place fits, f.mark.here) b.reads) (ap Err (b.is ∙ ap BadWord (omega arith)))
