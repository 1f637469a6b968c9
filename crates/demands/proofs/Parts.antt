-- An event changes nothing but its row: the device after it has the row's parts of its own and all others of the device before it. Assumes nothing.
use Rattle.channels.specs.declared.Channel.{Channel}
use Rattle.std.proofs.Common.{Option, Some, None}
use Prim.Native.Nat.{ℕ, zero, suc, ◌+◌, ◌*◌, ◌/◌, ◌%◌, ◌<◌}
use mathlib.Core.Path.{◌≡◌, refl, sym, ap, ap₂, ◌∙◌}
use mathlib.Core.Bool.{Bool, true, false, cond, not, ◌&&◌}
use mathlib.Core.List.{List, [], ◌∷◌}
use native.Mathlib.Nat.{div-add-mod', mod-lt, lt_of_le_of_lt}
use native.Mathlib.Omega.{arith}
use lib.Bits.{bit_and, and_le_l}
use lib.Dec.{lit<}
use Rattle.bits.specs.Bits.{bit_value}
use Rattle.timer.specs.declared.Timer.{Timer}
use Rattle.timer.specs.Timers.{event_count, runs, with_position, pulsed, at_divisor, clocked, clocks, controlled, reload_written}
use Rattle.timer.proofs.Pulsed.{pulsed_mode, pulsed_reload, pulsed_position}
use Rattle.timer.proofs.Rule.{clocks_mode}
use Rattle.channels.specs.declared.Half.{Half}
use Rattle.channels.specs.declared.Half.TheVariants.{A as HighHalf, B as LowHalf}
use Rattle.interrupts.specs.declared.Interrupts.{Interrupts}
use Rattle.interrupts.specs.declared.InterruptRegister.TheVariants.{Ier, Ipr, Isr, Imr, Vr}
use Rattle.channels.specs.Channels.{half, with_half}
use Rattle.channels.specs.Raises.{raises, raised_by}
use Rattle.interrupts.specs.Interrupts.{clear_interrupts, kept, raised, vector_written, interrupt_written}
use Rattle.requests.specs.Requests.{highest, given, acknowledged_by, acknowledged}
use Rattle.timers.specs.declared.TimerRegister.TheVariants.{Tacr, Tbcr, Tcdcr, Tadr, Tbdr, Tcdr, Tddr}
use Rattle.timeouts.specs.Clocks.{timeout_raises}
use Rattle.timers.specs.Registers.{timer_written, reset_timers}
use Rattle.lines.specs.declared.Lines.{Lines}
use Rattle.lines.specs.declared.LineRegister.TheVariants.{Gpdr, Aer, Ddr}
use Rattle.lines.specs.declared.TimerInput.{TimerInput}
use Rattle.lines.specs.declared.TimerInput.TheVariants.{Tai, Tbi}
use Rattle.lines.specs.Registers.{line_written, with_level, with_input, reset_lines}
use Rattle.signals.specs.Signals.{input_active, input_becomes}
use Rattle.events.specs.declared.Register.{Register}
use Rattle.events.specs.declared.Register.TheVariants.{OfLines, OfInterrupts, OfTimers}
use Rattle.events.specs.declared.Event.{Event}
use Rattle.events.specs.declared.Event.TheVariants.{Reset, Read, Write, Level, Input, Clocks, Acknowledge, Raise}
use Rattle.device.specs.declared.Device.{Device}
use Rattle.device.specs.Signals.{timer_of, counts, signal_timers, change_raises, signalled}
use Rattle.step.specs.Clocks.{timeouts_device}
use Rattle.step.specs.Events.{write_step}
use Rattle.device.specs.Whole.{reset_device}
use Rattle.step.specs.Events.{step_of, effect_of}
use Rattle.step.proofs.Clocks.{span_timers, clocks_each}
use Rattle.demands.specs.Rule.{WritesByte}
use Rattle.demands.specs.Parts.{Name, A, B, C, D, Part, gpdr, aer, ddr, levels, tai, tbi, vector, enabled, pending, service, mask, mode, reload, counter, position, output, timer_named, part_of, touched, among, AnEventChangesOnlyItsRow, PartsAreAll}

-- ---- a device that has the named parts of one device and all others of another
module _ (ps : List Part) where
  abbrev timer_only : Name → Timer → Timer → Timer
  timer_only n new old = record {
    mode = cond (among (mode n) ps) new.mode old.mode;
    reload = cond (among (reload n) ps) new.reload old.reload;
    counter = cond (among (counter n) ps) new.counter old.counter;
    position = cond (among (position n) ps) new.position old.position;
    output = cond (among (output n) ps) new.output old.output;
  }

  abbrev set_only : (Half → Part) → ℕ → ℕ → ℕ
  set_only p new old = cond (among (p HighHalf) ps) (half HighHalf new) (half HighHalf old) * 256 + cond (among (p LowHalf) ps) (half LowHalf new) (half LowHalf old)

  abbrev only : Device → Device → Device
  only new old = record {
    lines = record {
      gpdr = cond (among gpdr ps) new.lines.gpdr old.lines.gpdr;
      aer = cond (among aer ps) new.lines.aer old.lines.aer;
      ddr = cond (among ddr ps) new.lines.ddr old.lines.ddr;
      levels = cond (among levels ps) new.lines.levels old.lines.levels;
      tai = cond (among tai ps) new.lines.tai old.lines.tai;
      tbi = cond (among tbi ps) new.lines.tbi old.lines.tbi;
    };
    interrupts = record {
      enabled = set_only enabled new.interrupts.enabled old.interrupts.enabled;
      pending = set_only pending new.interrupts.pending old.interrupts.pending;
      service = set_only service new.interrupts.service old.interrupts.service;
      mask = set_only mask new.interrupts.mask old.interrupts.mask;
      vector = cond (among vector ps) new.interrupts.vector old.interrupts.vector;
    };
    timers = record {
      a = timer_only A new.timers.a old.timers.a;
      b = timer_only B new.timers.b old.timers.b;
      c = timer_only C new.timers.c old.timers.c;
      d = timer_only D new.timers.d old.timers.d;
    };
  }

  -- a part that is not named is the old device's
  off : {X : Type 0} (b : Bool) (new old : X) → b ≡ false → cond b new old ≡ old
  off b new old e = rw e refl

  low_byte : (b : Bool) (m n : ℕ) → cond b (m % 256) (n % 256) < 256
  low_byte true m n = mod-lt m (lit< tt)
  low_byte false m n = mod-lt n (lit< tt)

  half_off : (p : Half → Part) (h : Half) (new old : ℕ) → among (p h) ps ≡ false → half h (set_only p new old) ≡ half h old
  unfolding half
  half_off p HighHalf new old e =
      let l = low_byte (among (p LowHalf) ps) new old in
      let m : set_only p new old / 256 ≡ cond (among (p HighHalf) ps) (new / 256) (old / 256) = omega arith in
      m ∙ off (among (p HighHalf) ps) (new / 256) (old / 256) e
  half_off p LowHalf new old e =
      let l = low_byte (among (p LowHalf) ps) new old in
      let m : set_only p new old % 256 ≡ cond (among (p LowHalf) ps) (new % 256) (old % 256) = omega arith in
      m ∙ off (among (p LowHalf) ps) (new % 256) (old % 256) e

  bit_off : (b : Bool) (new old : Bool) → b ≡ false → bit_value (cond b new old) 1 ≡ bit_value old 1
  bit_off b new old e = ap (λ (x : Bool). bit_value x 1) (off b new old e)

  module _ (new old : Device) where
    named : (f : Name → Part) (g : Timer → ℕ) → ((n : Name) (s t : Timer) → among (f n) ps ≡ false → g (timer_only n s t) ≡ g t) → (n : Name) → among (f n) ps ≡ false → g (timer_named n (only new old).timers) ≡ g (timer_named n old.timers)
    named f g h A e = h A new.timers.a old.timers.a e
    named f g h B e = h B new.timers.b old.timers.b e
    named f g h C e = h C new.timers.c old.timers.c e
    named f g h D e = h D new.timers.d old.timers.d e

    stays : (p : Part) → among p ps ≡ false → part_of p (only new old) ≡ part_of p old
    stays gpdr e = off _ _ _ e
    stays aer e = off _ _ _ e
    stays ddr e = off _ _ _ e
    stays levels e = off _ _ _ e
    stays tai e = bit_off _ _ _ e
    stays tbi e = bit_off _ _ _ e
    stays vector e = off _ _ _ e
    stays (enabled h) e = half_off enabled h new.interrupts.enabled old.interrupts.enabled e
    stays (pending h) e = half_off pending h new.interrupts.pending old.interrupts.pending e
    stays (service h) e = half_off service h new.interrupts.service old.interrupts.service e
    stays (mask h) e = half_off mask h new.interrupts.mask old.interrupts.mask e
    stays (mode n) e = named mode (λ t. t.mode) (λ n s t f. off (among (mode n) ps) s.mode t.mode f) n e
    stays (reload n) e = named reload (λ t. t.reload) (λ n s t f. off (among (reload n) ps) s.reload t.reload f) n e
    stays (counter n) e = named counter (λ t. t.counter) (λ n s t f. off (among (counter n) ps) s.counter t.counter f) n e
    stays (position n) e = named position (λ t. t.position) (λ n s t f. off (among (position n) ps) s.position t.position f) n e
    stays (output n) e = named output (λ t. bit_value t.output 1) (λ n s t f. bit_off (among (output n) ps) s.output t.output f) n e

-- ---- sets by their halves
-- a set is its two halves
whole : (s : ℕ) → s ≡ half HighHalf s * 256 + half LowHalf s
unfolding half
whole s = sym (div-add-mod' s 256)

-- a set with one half stored has the other half as it was
module _ (s v : ℕ) (l : v < 256) where
  high_stored : with_half HighHalf s v ≡ half HighHalf (with_half HighHalf s v) * 256 + half LowHalf s
  unfolding with_half half
  high_stored = omega arith

  low_stored : with_half LowHalf s v ≡ half HighHalf s * 256 + half LowHalf (with_half LowHalf s v)
  unfolding with_half half
  low_stored = omega arith

half_below : (s : ℕ) → half LowHalf s < 256
unfolding half
half_below s = mod-lt s (lit< tt)

high_kept : (s v : ℕ) → v < 256 → kept HighHalf s v ≡ half HighHalf (kept HighHalf s v) * 256 + half LowHalf s
unfolding kept with_half half
high_kept s v l = omega arith

low_kept : (s v : ℕ) → kept LowHalf s v ≡ half HighHalf s * 256 + half LowHalf (kept LowHalf s v)
unfolding kept
low_kept s v = low_stored s (bit_and (half LowHalf s) v) (lt_of_le_of_lt (and_le_l (half LowHalf s) v) (half_below s))

-- the interrupts with pending, service or both as they are now, the rest as it was
abbrev pends : Interrupts → Interrupts → Interrupts
pends new old = record {
  enabled = half HighHalf old.enabled * 256 + half LowHalf old.enabled;
  pending = half HighHalf new.pending * 256 + half LowHalf new.pending;
  service = half HighHalf old.service * 256 + half LowHalf old.service;
  mask = half HighHalf old.mask * 256 + half LowHalf old.mask;
  vector = old.vector;
}

raise_pends : (s : ℕ) (i : Interrupts) → raised s i ≡ pends (raised s i) i
unfolding raised
raise_pends s i = λ k. record { enabled = whole i.enabled k; pending = whole (raised s i).pending k; service = whole i.service k; mask = whole i.mask k; vector = i.vector }

-- ---- what clocks and pulses leave of a timer
abbrev runs_on : Timer → Timer → Timer
runs_on new old = record { mode = old.mode; reload = old.reload; counter = new.counter; position = new.position; output = new.output }

clocked_reload : (active : Bool) (t : Timer) → (clocked active t).reload ≡ t.reload
unfolding clocked
clocked_reload active t = go (runs active t) (at_divisor t)
  where
    go : (r d : Bool) → (cond (r && d) (pulsed (with_position 0 t)) (cond r (with_position (t.position + 1) t) t)).reload ≡ t.reload
    go true true = pulsed_reload (with_position 0 t)
    go true false = refl
    go false d = refl

clocks_reload : (active : Bool) (n : ℕ) (t : Timer) → (clocks active n t).reload ≡ t.reload
unfolding clocks
clocks_reload active zero t = refl
clocks_reload active (suc n) t = clocks_reload active n (clocked active t) ∙ clocked_reload active t

clocks_run : (active : Bool) (n : ℕ) (t : Timer) → clocks active n t ≡ runs_on (clocks active n t) t
clocks_run active n t = λ k. record { mode = clocks_mode active n t k; reload = clocks_reload active n t k; counter = (clocks active n t).counter; position = (clocks active n t).position; output = (clocks active n t).output }

-- a count pulse leaves the position too
abbrev counts_on : Timer → Timer → Timer
counts_on new old = record { mode = old.mode; reload = old.reload; counter = new.counter; position = old.position; output = new.output }

pulse_counts : (b : Bool) (t : Timer) → cond b (pulsed t) t ≡ counts_on (cond b (pulsed t) t) t
pulse_counts true t = λ k. record { mode = pulsed_mode t k; reload = pulsed_reload t k; counter = (pulsed t).counter; position = pulsed_position t k; output = (pulsed t).output }
pulse_counts false t = refl

-- ---- a change of signals
-- a signal that stays as it was does not become active
quiet : (e b : Bool) → (e && (not b && b)) ≡ false
quiet true true = refl
quiet true false = refl
quiet false b = refl

-- where an input stays, its timer does not count
still : (i : TimerInput) (after : Lines) (x : Device) → input_active i after ≡ input_active i x.lines → counts i x.timers x.lines after ≡ false
unfolding counts input_becomes
still i after x e = rw e (quiet (event_count (timer_of i x.timers).mode) (input_active i x.lines))

-- A and B count, or one of them stays
module _ (after : Lines) (x : Device) where
  counted : (i : TimerInput) (t : Timer) → cond (counts i x.timers x.lines after) (pulsed t) t ≡ counts_on (cond (counts i x.timers x.lines after) (pulsed t) t) t
  counted i t = pulse_counts (counts i x.timers x.lines after) t

  untouched : (i : TimerInput) (t : Timer) → input_active i after ≡ input_active i x.lines → cond (counts i x.timers x.lines after) (pulsed t) t ≡ t
  untouched i t e = rw (still i after x e) refl

-- ---- event by event: the device after it is the one before it but for the row
Only : Event → Device → Type 0
Only e x = (step_of x e).device ≡ only (touched e) (step_of x e).device x

-- the interrupts as they were
abbrev same : Interrupts → Interrupts
same i = record {
  enabled = half HighHalf i.enabled * 256 + half LowHalf i.enabled;
  pending = half HighHalf i.pending * 256 + half LowHalf i.pending;
  service = half HighHalf i.service * 256 + half LowHalf i.service;
  mask = half HighHalf i.mask * 256 + half LowHalf i.mask;
  vector = i.vector;
}

same_is : (i : Interrupts) → i ≡ same i
same_is i = λ k. record { enabled = whole i.enabled k; pending = whole i.pending k; service = whole i.service k; mask = whole i.mask k; vector = i.vector }

only_write : (r : Register) (v : ℕ) → v < 256 → (x : Device) → Only (Write r v) x
unfolding Only effect_of write_step line_written interrupt_written timer_written controlled reload_written vector_written signalled signal_timers raised
only_write (OfLines Gpdr) v l x = λ k. record { lines = line_written Gpdr v x.lines; interrupts = same_is x.interrupts k; timers = x.timers }
only_write (OfLines Aer) v l x = λ k. record {
  lines = line_written Aer v x.lines;
  interrupts = raise_pends (raised_by (change_raises (line_written Aer v x.lines) x)) x.interrupts k;
  timers = record { a = counted (line_written Aer v x.lines) x Tai x.timers.a k; b = counted (line_written Aer v x.lines) x Tbi x.timers.b k; c = x.timers.c; d = x.timers.d };
}
only_write (OfLines Ddr) v l x = λ k. record { lines = line_written Ddr v x.lines; interrupts = same_is x.interrupts k; timers = x.timers }
only_write (OfInterrupts (Ier HighHalf)) v l x = λ k. record { lines = x.lines; interrupts = record { enabled = high_stored x.interrupts.enabled v l k; pending = high_kept x.interrupts.pending v l k; service = whole x.interrupts.service k; mask = whole x.interrupts.mask k; vector = x.interrupts.vector }; timers = x.timers }
only_write (OfInterrupts (Ier LowHalf)) v l x = λ k. record { lines = x.lines; interrupts = record { enabled = low_stored x.interrupts.enabled v l k; pending = low_kept x.interrupts.pending v k; service = whole x.interrupts.service k; mask = whole x.interrupts.mask k; vector = x.interrupts.vector }; timers = x.timers }
only_write (OfInterrupts (Ipr HighHalf)) v l x = λ k. record { lines = x.lines; interrupts = record { enabled = whole x.interrupts.enabled k; pending = high_kept x.interrupts.pending v l k; service = whole x.interrupts.service k; mask = whole x.interrupts.mask k; vector = x.interrupts.vector }; timers = x.timers }
only_write (OfInterrupts (Ipr LowHalf)) v l x = λ k. record { lines = x.lines; interrupts = record { enabled = whole x.interrupts.enabled k; pending = low_kept x.interrupts.pending v k; service = whole x.interrupts.service k; mask = whole x.interrupts.mask k; vector = x.interrupts.vector }; timers = x.timers }
only_write (OfInterrupts (Isr HighHalf)) v l x = λ k. record { lines = x.lines; interrupts = record { enabled = whole x.interrupts.enabled k; pending = whole x.interrupts.pending k; service = high_kept x.interrupts.service v l k; mask = whole x.interrupts.mask k; vector = x.interrupts.vector }; timers = x.timers }
only_write (OfInterrupts (Isr LowHalf)) v l x = λ k. record { lines = x.lines; interrupts = record { enabled = whole x.interrupts.enabled k; pending = whole x.interrupts.pending k; service = low_kept x.interrupts.service v k; mask = whole x.interrupts.mask k; vector = x.interrupts.vector }; timers = x.timers }
only_write (OfInterrupts (Imr HighHalf)) v l x = λ k. record { lines = x.lines; interrupts = record { enabled = whole x.interrupts.enabled k; pending = whole x.interrupts.pending k; service = whole x.interrupts.service k; mask = high_stored x.interrupts.mask v l k; vector = x.interrupts.vector }; timers = x.timers }
only_write (OfInterrupts (Imr LowHalf)) v l x = λ k. record { lines = x.lines; interrupts = record { enabled = whole x.interrupts.enabled k; pending = whole x.interrupts.pending k; service = whole x.interrupts.service k; mask = low_stored x.interrupts.mask v l k; vector = x.interrupts.vector }; timers = x.timers }
only_write (OfInterrupts Vr) v l x = λ k. record { lines = x.lines; interrupts = same_is (vector_written v x.interrupts) k; timers = x.timers }
only_write (OfTimers Tacr) v l x = λ k. record { lines = x.lines; interrupts = same_is x.interrupts k; timers = timer_written Tacr v x.timers }
only_write (OfTimers Tbcr) v l x = λ k. record { lines = x.lines; interrupts = same_is x.interrupts k; timers = timer_written Tbcr v x.timers }
only_write (OfTimers Tcdcr) v l x = λ k. record { lines = x.lines; interrupts = same_is x.interrupts k; timers = timer_written Tcdcr v x.timers }
only_write (OfTimers Tadr) v l x = λ k. record { lines = x.lines; interrupts = same_is x.interrupts k; timers = timer_written Tadr v x.timers }
only_write (OfTimers Tbdr) v l x = λ k. record { lines = x.lines; interrupts = same_is x.interrupts k; timers = timer_written Tbdr v x.timers }
only_write (OfTimers Tcdr) v l x = λ k. record { lines = x.lines; interrupts = same_is x.interrupts k; timers = timer_written Tcdr v x.timers }
only_write (OfTimers Tddr) v l x = λ k. record { lines = x.lines; interrupts = same_is x.interrupts k; timers = timer_written Tddr v x.timers }

-- clocks: the four timers run, and pending gains
abbrev ran : ℕ → Device → Device
ran n x = record { lines = x.lines; interrupts = raised (raised_by (timeout_raises (timeouts_device n x))) x.interrupts; timers = span_timers n x }

by_clocks : (n : ℕ) (x : Device) → Only (Clocks n) x
unfolding Only effect_of raised
by_clocks n x = clocks_each n x ∙ each ∙ ap (λ (y : Device). only (touched (Clocks n)) y x) (sym (clocks_each n x))
  where
    each : ran n x ≡ only (touched (Clocks n)) (ran n x) x
    each = λ k. record {
      lines = x.lines;
      interrupts = raise_pends (raised_by (timeout_raises (timeouts_device n x))) x.interrupts k;
      timers = record {
        a = clocks_run (input_active Tai x.lines) n x.timers.a k;
        b = clocks_run (input_active Tbi x.lines) n x.timers.b k;
        c = clocks_run false n x.timers.c k;
        d = clocks_run false n x.timers.d k;
      };
    }

-- an acknowledge touches pending and service
served : (q : Option Channel) (i : Interrupts) → (acknowledged_by q i).interrupts ≡ record {
  enabled = half HighHalf i.enabled * 256 + half LowHalf i.enabled;
  pending = half HighHalf (acknowledged_by q i).interrupts.pending * 256 + half LowHalf (acknowledged_by q i).interrupts.pending;
  service = half HighHalf (acknowledged_by q i).interrupts.service * 256 + half LowHalf (acknowledged_by q i).interrupts.service;
  mask = half HighHalf i.mask * 256 + half LowHalf i.mask;
  vector = i.vector;
}
unfolding given
served (Some c) i = same_is (given c i)
served None i = same_is i

by_event : (e : Event) → WritesByte e → (x : Device) → Only e x
unfolding Only effect_of reset_device with_level with_input signalled signal_timers raised acknowledged input_active
by_event Reset b x = λ k. record { lines = reset_lines x.lines; interrupts = same_is clear_interrupts k; timers = reset_timers x.timers }
by_event (Read r) b x = λ k. record { lines = x.lines; interrupts = same_is x.interrupts k; timers = x.timers }
by_event (Write r v) b x = only_write r v b x
by_event (Level i high) b x = λ k. record {
  lines = with_level i high x.lines;
  interrupts = raise_pends (raised_by (change_raises (with_level i high x.lines) x)) x.interrupts k;
  timers = record { a = untouched (with_level i high x.lines) x Tai x.timers.a refl k; b = untouched (with_level i high x.lines) x Tbi x.timers.b refl k; c = x.timers.c; d = x.timers.d };
}
by_event (Input Tai high) b x = λ k. record {
  lines = with_input Tai high x.lines;
  interrupts = raise_pends (raised_by (change_raises (with_input Tai high x.lines) x)) x.interrupts k;
  timers = record { a = counted (with_input Tai high x.lines) x Tai x.timers.a k; b = untouched (with_input Tai high x.lines) x Tbi x.timers.b refl k; c = x.timers.c; d = x.timers.d };
}
by_event (Input Tbi high) b x = λ k. record {
  lines = with_input Tbi high x.lines;
  interrupts = raise_pends (raised_by (change_raises (with_input Tbi high x.lines) x)) x.interrupts k;
  timers = record { a = untouched (with_input Tbi high x.lines) x Tai x.timers.a refl k; b = counted (with_input Tbi high x.lines) x Tbi x.timers.b k; c = x.timers.c; d = x.timers.d };
}
by_event (Clocks n) b x = by_clocks n x
by_event (Acknowledge true) b x = λ k. record { lines = x.lines; interrupts = served (highest x.interrupts) x.interrupts k; timers = x.timers }
by_event (Acknowledge false) b x = λ k. record { lines = x.lines; interrupts = same_is x.interrupts k; timers = x.timers }
by_event (Raise c) b x = λ k. record { lines = x.lines; interrupts = raise_pends (raised_by (raises 1 c ∷ [])) x.interrupts k; timers = x.timers }

pub an_event_changes_only_its_row : AnEventChangesOnlyItsRow
unfolding Only
an_event_changes_only_its_row x e b p h = ap (part_of p) (by_event e b x) ∙ stays (touched e) (step_of x e).device x p h

-- ---- the parts are the whole device
bit_back : (a b : Bool) → bit_value a 1 ≡ bit_value b 1 → a ≡ b
bit_back true true e = refl
bit_back true false e = absurd (let z : ◌≡◌ {A = ℕ} 1 0 = e in omega arith)
bit_back false true e = absurd (let z : ◌≡◌ {A = ℕ} 0 1 = e in omega arith)
bit_back false false e = refl

halves_back : (s t : ℕ) → half HighHalf s ≡ half HighHalf t → half LowHalf s ≡ half LowHalf t → s ≡ t
halves_back s t p q = whole s ∙ ap₂ (λ (a b : ℕ). a * 256 + b) p q ∙ sym (whole t)

pub parts_are_all : PartsAreAll
parts_are_all x y f = λ k. record {
  lines = record { gpdr = f gpdr k; aer = f aer k; ddr = f ddr k; levels = f levels k; tai = bit_back x.lines.tai y.lines.tai (f tai) k; tbi = bit_back x.lines.tbi y.lines.tbi (f tbi) k };
  interrupts = record {
    enabled = halves_back x.interrupts.enabled y.interrupts.enabled (f (enabled HighHalf)) (f (enabled LowHalf)) k;
    pending = halves_back x.interrupts.pending y.interrupts.pending (f (pending HighHalf)) (f (pending LowHalf)) k;
    service = halves_back x.interrupts.service y.interrupts.service (f (service HighHalf)) (f (service LowHalf)) k;
    mask = halves_back x.interrupts.mask y.interrupts.mask (f (mask HighHalf)) (f (mask LowHalf)) k;
    vector = f vector k;
  };
  timers = record {
    a = record { mode = f (mode A) k; reload = f (reload A) k; counter = f (counter A) k; position = f (position A) k; output = bit_back x.timers.a.output y.timers.a.output (f (output A)) k };
    b = record { mode = f (mode B) k; reload = f (reload B) k; counter = f (counter B) k; position = f (position B) k; output = bit_back x.timers.b.output y.timers.b.output (f (output B)) k };
    c = record { mode = f (mode C) k; reload = f (reload C) k; counter = f (counter C) k; position = f (position C) k; output = bit_back x.timers.c.output y.timers.c.output (f (output C)) k };
    d = record { mode = f (mode D) k; reload = f (reload D) k; counter = f (counter D) k; position = f (position D) k; output = bit_back x.timers.d.output y.timers.d.output (f (output D)) k };
  };
}
