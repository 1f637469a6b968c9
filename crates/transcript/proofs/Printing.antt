-- The loop over a checked tape: the lines put so far and those of the records left make the whole text. Assumes nothing.
use Prim.Native.Nat.{ℕ, ◌+◌, ◌-◌, ◌*◌, ◌≤◌, ◌<◌}
use mathlib.Core.Path.{◌≡◌, refl, sym, ap, ap₂, ◌∙◌}
use mathlib.Core.Bool.{true}
use mathlib.Core.List.{List, [], ◌++◌, append_assoc, append-nil}
use native.Mathlib.Omega.{arith}
use lib.ListN.{length, take, drop, length-append, length-drop, take-append-drop}
use lib.Seq.{length-take-le, take_at, drop_at, drop-drop}
use Rattle.events.specs.declared.Event.{Event}
use Rattle.device.specs.declared.Device.{Device}
use Rattle.device.specs.Whole.{image_rule}
use Rattle.step.specs.Events.{step_of}
use Rattle.std.specs.Prelude.{Ok}
use Rattle.record.specs.Records.{record_bytes}
use Rattle.text.specs.Lines.{line_most}
use Rattle.tape.specs.Tapes.{decoded, events}
use Rattle.checks.specs.Checks.{first_bad}
use Rattle.tape.proofs.Tapes.{event_valid, events_none}
use Rattle.checks.proofs.Walk.{check_valid}
use Rattle.demands.proofs.Rule.{every_event_keeps_the_rule}
use Rattle.demands.proofs.Records.{record_row, bytes_of}
use Rattle.transcript.specs.Transcript.{records_most, enough, step_line, lines_of}

module _ (start : Device) (tape out₀ : List ℕ) (n : ℕ) where
  -- the text of all n records
  abbrev whole : List ℕ
  whole = lines_of 0 start (events tape 0 n)

  -- after i of n records, at a device, with the lines so far in the first `at` bytes
  pub record Going (out : List ℕ) (d : Device) (at i : ℕ) : Type 0 where
    pub within : i ≤ n
    pub rule : image_rule d ≡ true
    pub long : length out ≡ length out₀
    pub room : at ≤ line_most * i
    pub clear : first_bad tape i (n - i) ≡ Ok tt
    pub front : take at out ++ lines_of i d (events tape i (n - i)) ≡ whole
    pub rest : drop at out ≡ drop at out₀

  from_zero : n - 0 ≡ n
  from_zero = omega arith

  pub going_begins : image_rule start ≡ true → first_bad tape 0 n ≡ Ok tt → Going out₀ start 0 0
  going_begins f e = record {
    within = omega arith;
    rule = f;
    long = refl;
    room = omega arith;
    clear = ap (first_bad tape 0) from_zero ∙ e;
    front = ap (λ (k : ℕ). lines_of 0 start (events tape 0 k)) from_zero;
    rest = refl;
  }

  -- a line more fits
  pub going_fits : (out : List ℕ) (d : Device) (at i : ℕ) → Going out d at i → i < n → n ≤ records_most → enough ≤ length out₀ → at + line_most ≤ length out
  going_fits out d at i g h few fits = let l = g.long in let r = g.room in omega arith

  -- the last record done
  module _ (out : List ℕ) (d : Device) (at i : ℕ) (g : Going out d at i) (h : n ≤ i) (few : n ≤ records_most) (fits : enough ≤ length out₀) where
    pub text_fits : at ≤ length out
    text_fits = let l = g.long in let r = g.room in let w = g.within in omega arith

    text_is : take at out ≡ whole
    unfolding lines_of
    text_is = sym (append-nil (take at out)) ∙ ap (λ (x : List ℕ). take at out ++ x) (sym (ap (lines_of i d) none)) ∙ g.front
      where
        none : events tape i (n - i) ≡ []
        none = let w = g.within in let z : n - i ≡ 0 = omega arith in ap (events tape i) z ∙ events_none tape i

    pub text_long : at ≡ length whole
    text_long = sym (length-take-le at out text_fits) ∙ ap length text_is

    pub text_put : out ≡ whole ++ drop at out₀
    text_put = sym (take-append-drop at out) ∙ ap₂ (λ (x y : List ℕ). x ++ y) text_is g.rest

  -- one record more
  module _ (out : List ℕ) (d : Device) (at i : ℕ) (g : Going out d at i) (h : i < n) (few : n ≤ records_most) (fits : enough ≤ length out₀) (e : Event) (p : decoded tape (i * record_bytes) ≡ Ok e) where
    abbrev line : List ℕ
    line = step_line i (step_of d e)

    abbrev later : List ℕ
    later = lines_of (i + 1) (step_of d e).device (events tape (i + 1) (n - (i + 1)))

    lines_here : lines_of i d (events tape i (n - i)) ≡ line ++ later
    unfolding lines_of
    lines_here = ap (lines_of i d) (event_valid tape i n h e p)

    module _ (r : ℕ) (after : List ℕ) (to : r ≡ at + length line) (most : r ≤ at + line_most) (put : after ≡ (take at out ++ line) ++ drop r out) where
      short : at ≤ length out
      short = omega (arith, going_fits out d at i g h few fits)

      head_long : length (take at out ++ line) ≡ r
      head_long = length-append (take at out) line ∙ ap (λ (k : ℕ). k + length line) (length-take-le at out short) ∙ sym to

      pub going_on : Going after (step_of d e).device r (i + 1)
      going_on = record {
        within = omega arith;
        rule = every_event_keeps_the_rule d e (bytes_of (rw p at (record_row tape i))) g.rule;
        long =
            ap length put
            ∙ length-append (take at out ++ line) (drop r out)
            ∙ ap₂ (λ (x y : ℕ). x + y) head_long (length-drop r out)
            ∙ (let l = g.long in omega (arith, going_fits out d at i g h few fits));
        room = let q = g.room in omega arith;
        clear = sym (check_valid tape i n h e p) ∙ g.clear;
        front =
            ap (λ (x : List ℕ). x ++ later) (ap (take r) put ∙ take_at (take at out ++ line) (drop r out) r head_long)
            ∙ append_assoc (take at out) line later
            ∙ ap (λ (x : List ℕ). take at out ++ x) (sym lines_here)
            ∙ g.front;
        rest =
            ap (drop r) put
            ∙ drop_at (take at out ++ line) (drop r out) r head_long
            ∙ ap (λ (k : ℕ). drop k out) to
            ∙ sym (drop-drop (length line) at out)
            ∙ ap (drop (length line)) g.rest
            ∙ drop-drop (length line) at out₀
            ∙ ap (λ (k : ℕ). drop k out₀) (sym to);
      }
