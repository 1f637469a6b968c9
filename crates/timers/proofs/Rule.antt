-- What happens to the timers keeps their part of the image rule, timer by timer. Assumes nothing.
use Prim.Native.Nat.{ℕ, ◌%◌, ◌/◌, ◌≤◌}
use mathlib.Core.Path.{◌≡◌}
use mathlib.Core.Bool.{Bool, true, false}
use native.Mathlib.Omega.{arith}
use lib.Dec.{leb}
use borrow.Author.Tests.{leb-true, le-leb}
use Rattle.bits.proofs.Bits.{halves, joined}
use Rattle.timer.specs.declared.Timer.{Timer}
use Rattle.timer.specs.Timers.{controlled, reload_written, reset_timer, position_rule}
use Rattle.timer.proofs.Rule.{controlled_ruled, written_ruled, reset_ruled}
use Rattle.channels.specs.Channels.{has}
use Rattle.timers.specs.declared.Timers.{Timers}
use Rattle.timers.specs.declared.TimerRegister.{TimerRegister}
use Rattle.timers.specs.declared.TimerRegister.TheVariants.{Tacr, Tbcr, Tcdcr, Tadr, Tbdr, Tcdr, Tddr}
use Rattle.timers.specs.Registers.{timer_written, reset_timers, timer_rule, timers_rule}

-- ---- one timer, whose modes end at `most`
pub record Settled (most : ℕ) (t : Timer) : Type 0 where
  pub mode : t.mode ≤ most
  pub position : position_rule t ≡ true

settled : (most : ℕ) (t : Timer) → timer_rule most t ≡ true → Settled most t
unfolding timer_rule
settled most t e = let h = halves (leb t.mode most) (position_rule t) e in record { mode = leb-true _ _ h.0; position = h.1 }

timer_ruled : (most : ℕ) (t : Timer) → Settled most t → timer_rule most t ≡ true
unfolding timer_rule
timer_ruled most t s = joined _ _ (le-leb _ _ s.mode) s.position

module _ (most : ℕ) (t : Timer) (s : Settled most t) where
  controlled_settled : (mode : ℕ) (low : Bool) → mode ≤ most → Settled most (controlled mode low t)
  unfolding controlled
  controlled_settled mode low h = record { mode = h; position = controlled_ruled t s.position mode low }

  written_settled : (v : ℕ) → Settled most (reload_written v t)
  unfolding reload_written
  written_settled v = record { mode = s.mode; position = written_ruled t s.position v }

  reset_settled : Settled most (reset_timer t)
  reset_settled = record { mode = omega arith; position = reset_ruled t s.position }

-- ---- the four
pub record AllSettled (t : Timers) : Type 0 where
  pub a : Settled 15 t.a
  pub b : Settled 15 t.b
  pub c : Settled 7 t.c
  pub d : Settled 7 t.d

pub all_settled : (t : Timers) → timers_rule t ≡ true → AllSettled t
unfolding timers_rule
all_settled t e =
    let h = halves _ _ e in
    let ab = halves _ _ h.0 in
    let cd = halves _ _ h.1 in
    record { a = settled 15 t.a ab.0; b = settled 15 t.b ab.1; c = settled 7 t.c cd.0; d = settled 7 t.d cd.1 }

pub timers_ruled : (t : Timers) → AllSettled t → timers_rule t ≡ true
unfolding timers_rule
timers_ruled t s =
    joined _ _ (joined _ _ (timer_ruled 15 t.a s.a) (timer_ruled 15 t.b s.b)) (joined _ _ (timer_ruled 7 t.c s.c) (timer_ruled 7 t.d s.d))

module _ (t : Timers) (s : AllSettled t) where
  pub reset_settles : AllSettled (reset_timers t)
  reset_settles = record { a = reset_settled 15 t.a s.a; b = reset_settled 15 t.b s.b; c = reset_settled 7 t.c s.c; d = reset_settled 7 t.d s.d }

  pub written_settles : (r : TimerRegister) (v : ℕ) → AllSettled (timer_written r v t)
  unfolding timer_written
  written_settles Tacr v = record { a = controlled_settled 15 t.a s.a (v % 16) (has v 4) (omega arith); b = s.b; c = s.c; d = s.d }
  written_settles Tbcr v = record { a = s.a; b = controlled_settled 15 t.b s.b (v % 16) (has v 4) (omega arith); c = s.c; d = s.d }
  written_settles Tcdcr v = record { a = s.a; b = s.b; c = controlled_settled 7 t.c s.c (v / 16 % 8) false (omega arith); d = controlled_settled 7 t.d s.d (v % 8) false (omega arith) }
  written_settles Tadr v = record { a = written_settled 15 t.a s.a v; b = s.b; c = s.c; d = s.d }
  written_settles Tbdr v = record { a = s.a; b = written_settled 15 t.b s.b v; c = s.c; d = s.d }
  written_settles Tcdr v = record { a = s.a; b = s.b; c = written_settled 7 t.c s.c v; d = s.d }
  written_settles Tddr v = record { a = s.a; b = s.b; c = s.c; d = written_settled 7 t.d s.d v }
