-- n clocks as n single clocks, and two spans of clocks as one. Assumes nothing.
use Prim.Native.Nat.{ℕ, zero, suc, ◌+◌}
use mathlib.Core.Path.{◌≡◌, refl, sym, ap, ap₂, ◌∙◌}
use mathlib.Core.List.{List, [], ◌∷◌, ◌++◌, append_assoc}
use native.Mathlib.Nat.{zero-add, add-zero, suc-add, add_assoc}
use Rattle.timeouts.specs.declared.Timeouts.{Timeouts}
use Rattle.device.specs.declared.Device.{Device}
use Rattle.events.specs.declared.Event.{Event}
use Rattle.events.specs.declared.Event.TheVariants.{Clocks}
use Rattle.timeouts.specs.Clocks.{none, add_timeouts}
use Rattle.step.specs.Clocks.{clock_timeouts, clock_device, clocks_device, timeouts_device}
use Rattle.step.specs.Events.{step_of, effect_of}
use Rattle.answer.specs.Answers.{answer_of}
use Rattle.run.specs.Runs.{run_of, answers_of}
use Rattle.demands.specs.Clocks.{NClocks, SingleClocks, timeouts_of, SingleClocksCounts, ClocksJoin, ClocksJoinCounts, RunParts, AnswerParts, before_span, whole, JoinedDevice, JoinedCounts, JoinedRun, CutAnswers, JoinedAnswers}

-- ---- one event of n clocks
pub n_clocks : NClocks
unfolding effect_of
n_clocks d n = refl

pub single_clocks : SingleClocks
unfolding run_of effect_of clocks_device
single_clocks d zero = refl
single_clocks d (suc n) = single_clocks (clock_device d) n

add_none : (t : Timeouts) → add_timeouts none t ≡ t
add_none t = λ k. record { a = zero-add t.a k; b = zero-add t.b k; c = zero-add t.c k; d = zero-add t.d k }

none_added : (t : Timeouts) → add_timeouts t none ≡ t
none_added t = λ k. record { a = add-zero t.a k; b = add-zero t.b k; c = add-zero t.c k; d = add-zero t.d k }

pub single_clocks_counts : SingleClocksCounts
unfolding timeouts_of effect_of clocks_device timeouts_device
single_clocks_counts d zero = refl
single_clocks_counts d (suc n) = ap₂ add_timeouts (none_added (clock_timeouts d)) (single_clocks_counts (clock_device d) n)

-- ---- m clocks and then n are m + n
pub clocks_join : ClocksJoin
unfolding clocks_device
clocks_join zero n d = ap (λ (k : ℕ). clocks_device k d) (sym (zero-add n))
clocks_join (suc m) n d = clocks_join m n (clock_device d) ∙ ap (λ (k : ℕ). clocks_device k d) (sym (suc-add m n))

add_thrice : (s t u : Timeouts) → add_timeouts (add_timeouts s t) u ≡ add_timeouts s (add_timeouts t u)
add_thrice s t u = λ k. record { a = add_assoc s.a t.a u.a k; b = add_assoc s.b t.b u.b k; c = add_assoc s.c t.c u.c k; d = add_assoc s.d t.d u.d k }

pub clocks_join_counts : ClocksJoinCounts
unfolding timeouts_device clocks_device
clocks_join_counts zero n d = add_none (timeouts_device n d) ∙ ap (λ (k : ℕ). timeouts_device k d) (sym (zero-add n))
clocks_join_counts (suc m) n d =
    add_thrice (clock_timeouts d) (timeouts_device m (clock_device d)) (timeouts_device n (clocks_device m (clock_device d)))
    ∙ ap (add_timeouts (clock_timeouts d)) (clocks_join_counts m n (clock_device d))
    ∙ ap (λ (k : ℕ). timeouts_device k d) (sym (suc-add m n))

-- ---- a run in two parts
pub run_parts : RunParts
unfolding run_of
run_parts d [] ys = refl
run_parts d (x ∷ xs) ys = run_parts (step_of d x).device xs ys

pub answer_parts : AnswerParts
unfolding run_of answers_of
answer_parts d [] ys = refl
answer_parts d (x ∷ xs) ys =
    ap (λ (r : List ℕ). answer_of (step_of d x) ++ r) (answer_parts (step_of d x).device xs ys)
    ∙ sym (append_assoc (answer_of (step_of d x)) (answers_of (step_of d x).device xs) (answers_of (run_of (step_of d x).device xs) ys))

-- ---- joined and cut, for any events before and after
module _ (d : Device) (before : List Event) (m n : ℕ) where
  pub joined_device : JoinedDevice d before m n
  unfolding effect_of
  joined_device = sym (clocks_join m n (before_span d before m n))

  pub joined_counts : JoinedCounts d before m n
  unfolding effect_of
  joined_counts = sym (clocks_join_counts m n (before_span d before m n))

  pub joined_run : JoinedRun d before m n
  unfolding run_of
  joined_run after = run_parts d before (Clocks (m + n) ∷ after) ∙ ap (λ (x : Device). run_of x after) joined_device ∙ sym (run_parts d before (Clocks m ∷ Clocks n ∷ after))

  pub cut_answers : CutAnswers d before m n
  unfolding answers_of
  cut_answers after = answer_parts d before (Clocks m ∷ Clocks n ∷ after)

  pub joined_answers : JoinedAnswers d before m n
  unfolding answers_of
  joined_answers after =
      answer_parts d before (Clocks (m + n) ∷ after)
      ∙ ap (λ (x : Device). answers_of d before ++ (answer_of (whole d before m n) ++ answers_of x after)) joined_device
