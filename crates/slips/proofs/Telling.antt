-- A tape that ends well and a good schedule give the slip of the memory that holds the tape's words.
use Rattle.std.proofs.Common.{◌≡◌, ℕ, List, ◌++◌, length, drop, replicate, Ok, Result, sym, ap, ◌∙◌, subst, arith}
use lib.ListN.{length-replicate}
use Rattle.cpu.specs.Place.{Place}
use Rattle.tape.specs.Tape.{Ending, stopped, bad, full, Reads}
use Rattle.tape.specs.Reading.{Reading, answered}
use Rattle.tape.specs.declared.refusals.TapeRefusal.{TapeRefusal}
use Rattle.runs.specs.Schedules.{judged, levels_of}
use Rattle.slips.specs.declared.columns.Slip.{Slip}
use Rattle.slips.specs.Columns.{SlipOf}
use Rattle.slips.specs.Slips.{powered_over, holding, Tells, Told}

told_by : (end : Ending) (words schedule memory : List ℕ) (answer : Result (ℕ × ℕ) TapeRefusal) (x : ℕ × ℕ) (slip : Slip) →
    answer ≡ answered words end → answer ≡ Ok x → judged schedule ≡ Ok tt → memory ≡ holding words →
    SlipOf (powered_over memory) (levels_of schedule) slip → Tells end words schedule (Ok slip)
told_by (stopped place) words schedule memory answer x slip a is good m s =
    (good, subst (λ bytes. SlipOf (powered_over bytes) (levels_of schedule) slip) m s, s.states ∙ sym s.steps)
told_by (bad place) words schedule memory answer x slip a is good m s = absurd (let z : ◌≡◌ {A = ℕ} 0 1 = cc in omega arith)
told_by (full place) words schedule memory answer x slip a is good m s = absurd (let z : ◌≡◌ {A = ℕ} 0 1 = cc in omega arith)

pub told : (tape schedule before memory held : List ℕ) (answer : Result (ℕ × ℕ) TapeRefusal) (x : ℕ × ℕ) (slip : Slip) →
    before ≡ replicate 16384 0 → Reading tape before memory answer → answer ≡ Ok x → judged schedule ≡ Ok tt →
    held ≡ memory → SlipOf (powered_over held) (levels_of schedule) slip → Told tape schedule (Ok slip)
told tape schedule before memory held answer x slip zeros r is good h s = record {
  words = r.words;
  ending = r.ending;
  reads = subst (λ n. Reads n tape r.words r.ending) (ap length zeros ∙ length-replicate {A = ℕ} 16384 0) r.reads;
  tells = told_by r.ending r.words schedule held answer x slip r.answer is good
      (h ∙ r.buffer ∙ ap (λ bytes. r.words ++ drop (length r.words) bytes) zeros) s;
}

pub same_schedule : {S : Type 0} {start : Place S} {slip : Slip} {a b : List ℕ} → a ≡ b → SlipOf start (levels_of a) slip → SlipOf start (levels_of b) slip
same_schedule {start = start} {slip = slip} e s = subst (λ bytes. SlipOf start (levels_of bytes) slip) e s
