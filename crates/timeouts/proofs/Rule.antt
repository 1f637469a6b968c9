-- Clocks and count pulses keep the timers' part of the image rule. Assumes nothing.
use Prim.Native.Nat.{ℕ}
use mathlib.Core.Bool.{Bool, true, false, cond}
use Rattle.timer.specs.declared.Timer.{Timer}
use Rattle.timer.specs.Timers.{clocks, pulsed}
use Rattle.timer.proofs.Pulsed.{pulsed_mode}
use Rattle.timer.proofs.Rule.{pulsed_ruled, clocks_ruled, clocks_mode}
use Rattle.timers.specs.declared.Timers.{Timers}
use Rattle.timeouts.specs.Clocks.{timers_after, pulse_timers}
use Rattle.timers.proofs.Rule.{Settled, AllSettled}

module _ (most : ℕ) (t : Timer) (s : Settled most t) where
  -- a pulse or none
  perhaps_settled : (b : Bool) → Settled most (cond b (pulsed t) t)
  perhaps_settled true = record { mode = rw (pulsed_mode t) s.mode; position = pulsed_ruled t s.position }
  perhaps_settled false = s

  clocks_settled : (active : Bool) (n : ℕ) → Settled most (clocks active n t)
  clocks_settled active n = record { mode = rw (clocks_mode active n t) s.mode; position = clocks_ruled active n t s.position }

module _ (t : Timers) (s : AllSettled t) where
  pub pulses_settle : (a b : Bool) → AllSettled (pulse_timers a b t)
  pulses_settle a b = record { a = perhaps_settled 15 t.a s.a a; b = perhaps_settled 15 t.b s.b b; c = s.c; d = s.d }

  pub clocks_settle : (tai tbi : Bool) (n : ℕ) → AllSettled (timers_after tai tbi n t)
  clocks_settle tai tbi n = record {
    a = clocks_settled 15 t.a s.a tai n;
    b = clocks_settled 15 t.b s.b tbi n;
    c = clocks_settled 7 t.c s.c false n;
    d = clocks_settled 7 t.d s.d false n;
  }
