-- The run's loop: what the records done so far and those left make together is the whole run. Assumes nothing.
use Rattle.std.specs.Prelude.{Ok}
use Prim.Native.Nat.{ℕ, ◌+◌, ◌-◌, ◌*◌, ◌≤◌, ◌<◌}
use mathlib.Core.Path.{◌≡◌, refl, sym, ap, ap₂, ◌∙◌}
use mathlib.Core.List.{List, [], ◌∷◌, ◌++◌, append_assoc, append-nil}
use native.Mathlib.Omega.{arith}
use lib.ListN.{length, take, drop, length-append, length-drop, take-append-drop}
use borrow.Rule.Slice.PartMut.{put_mid}
use lib.Seq.{length-take-le, take_at, drop_at, drop-drop}
use Rattle.device.specs.declared.Device.{Device}
use Rattle.events.specs.declared.Event.{Event}
use Rattle.step.specs.Events.{step_of}
use Rattle.record.specs.Records.{record_bytes}
use Rattle.tape.specs.Tapes.{decoded, events}
use Rattle.checks.specs.Checks.{first_bad}
use Rattle.answer.specs.Answers.{answer_bytes, answer_of}
use Rattle.run.specs.Runs.{run_of, answers_of}
use Rattle.tape.proofs.Tapes.{event_valid, events_none}
use Rattle.checks.proofs.Walk.{check_valid}

-- the buffer with k bytes of it, from byte `at` on, written over
pub written_over : (at k : ℕ) (ans : List ℕ) {x y : List ℕ} → x ≡ y → put_mid at (at + k - at) ans x ≡ take at ans ++ y ++ drop (at + k) ans
written_over at k ans {y = y} e =
    let z : at + k - at ≡ k = omega arith in
    ap₂ (λ (m : ℕ) (v : List ℕ). take at ans ++ (v ++ drop m (drop at ans))) z e
    ∙ ap (λ (v : List ℕ). take at ans ++ (y ++ v)) (drop-drop k at ans)
    ∙ sym (append_assoc (take at ans) y (drop (at + k) ans))

module _ (d : Device) (tape ans₀ : List ℕ) (n : ℕ) where
  -- after i of n records, at a device and with the answers so far
  pub record Going (ans : List ℕ) (at : Device) (i : ℕ) : Type 0 where
    pub within : i ≤ n
    pub long : length ans ≡ length ans₀
    pub clear : first_bad tape i (n - i) ≡ Ok tt
    pub device : run_of at (events tape i (n - i)) ≡ run_of d (events tape 0 n)
    pub front : take (i * answer_bytes) ans ++ answers_of at (events tape i (n - i)) ≡ answers_of d (events tape 0 n)
    pub rest : drop (i * answer_bytes) ans ≡ drop (i * answer_bytes) ans₀

  from_zero : n - 0 ≡ n
  from_zero = omega arith

  pub going_begins : first_bad tape 0 n ≡ Ok tt → Going ans₀ d 0
  going_begins e = record {
    within = omega arith;
    long = refl;
    clear = ap (first_bad tape 0) from_zero ∙ e;
    device = ap (λ (k : ℕ). run_of d (events tape 0 k)) from_zero;
    front = ap (λ (k : ℕ). answers_of d (events tape 0 k)) from_zero;
    rest = refl;
  }

  -- the last record done
  pub going_ends : (ans : List ℕ) (at : Device) (i : ℕ) → Going ans at i → n ≤ i
      → (at ≡ run_of d (events tape 0 n)) × (ans ≡ answers_of d (events tape 0 n) ++ drop (n * answer_bytes) ans₀)
  unfolding run_of answers_of
  going_ends ans at i g h = (sym (ap (run_of at) none) ∙ g.device, sym (take-append-drop (n * answer_bytes) ans) ∙ ap₂ (λ (x y : List ℕ). x ++ y) done left)
    where
      all : i ≡ n
      all = let w = g.within in omega arith

      none : events tape i (n - i) ≡ []
      none = let w = g.within in let z : n - i ≡ 0 = omega arith in ap (events tape i) z ∙ events_none tape i

      done : take (n * answer_bytes) ans ≡ answers_of d (events tape 0 n)
      done = ap (λ (k : ℕ). take (k * answer_bytes) ans) (sym all) ∙ sym (append-nil (take (i * answer_bytes) ans)) ∙ ap (λ (x : List ℕ). take (i * answer_bytes) ans ++ x) (sym (ap (answers_of at) none)) ∙ g.front

      left : drop (n * answer_bytes) ans ≡ drop (n * answer_bytes) ans₀
      left = ap (λ (k : ℕ). drop (k * answer_bytes) ans) (sym all) ∙ g.rest ∙ ap (λ (k : ℕ). drop (k * answer_bytes) ans₀) all

  -- one record more
  module _ (ans : List ℕ) (at : Device) (i : ℕ) (g : Going ans at i) (h : i < n) (e : Event) (p : decoded tape (i * record_bytes) ≡ Ok e) (room : i * answer_bytes + answer_bytes ≤ length ans) where
    abbrev next : List ℕ
    next = take (i * answer_bytes) ans ++ answer_of (step_of at e) ++ drop (i * answer_bytes + answer_bytes) ans

    place : (i + 1) * answer_bytes ≡ i * answer_bytes + answer_bytes
    place = omega arith

    head_long : length (take (i * answer_bytes) ans ++ answer_of (step_of at e)) ≡ (i + 1) * answer_bytes
    unfolding answer_of
    head_long = length-append (take (i * answer_bytes) ans) (answer_of (step_of at e)) ∙ ap (λ (k : ℕ). k + answer_bytes) (length-take-le (i * answer_bytes) ans (omega arith)) ∙ omega arith

    events_here : events tape i (n - i) ≡ e ∷ events tape (i + 1) (n - (i + 1))
    events_here = event_valid tape i n h e p

    pub going_on : Going next (step_of at e).device (i + 1)
    unfolding run_of answers_of
    going_on = record {
      within = omega arith;
      long =
          length-append (take (i * answer_bytes) ans ++ answer_of (step_of at e)) (drop (i * answer_bytes + answer_bytes) ans)
          ∙ ap₂ (λ (x y : ℕ). x + y) head_long (length-drop (i * answer_bytes + answer_bytes) ans)
          ∙ (let l = g.long in omega arith);
      clear = sym (check_valid tape i n h e p) ∙ g.clear;
      device = sym (ap (run_of at) events_here) ∙ g.device;
      front =
          ap (λ (x : List ℕ). x ++ answers_of (step_of at e).device (events tape (i + 1) (n - (i + 1)))) (take_at (take (i * answer_bytes) ans ++ answer_of (step_of at e)) (drop (i * answer_bytes + answer_bytes) ans) ((i + 1) * answer_bytes) head_long)
          ∙ append_assoc (take (i * answer_bytes) ans) (answer_of (step_of at e)) (answers_of (step_of at e).device (events tape (i + 1) (n - (i + 1))))
          ∙ ap (λ (x : List ℕ). take (i * answer_bytes) ans ++ x) (sym (ap (answers_of at) events_here))
          ∙ g.front;
      rest =
          drop_at (take (i * answer_bytes) ans ++ answer_of (step_of at e)) (drop (i * answer_bytes + answer_bytes) ans) ((i + 1) * answer_bytes) head_long
          ∙ sym (drop-drop answer_bytes (i * answer_bytes) ans)
          ∙ ap (drop answer_bytes) g.rest
          ∙ drop-drop answer_bytes (i * answer_bytes) ans₀
          ∙ ap (λ (k : ℕ). drop k ans₀) (sym place);
    }
