-- `transcript::put_lines` meets its contract. The loop's invariant is `Going`: the lines put and those of the records left make the whole text.
-- Assumes nothing.
use Prim.Native.Nat.{ℕ, ◌+◌, ◌-◌, ◌*◌, ◌≤◌, ◌<◌}
use Rattle.checks.proofs.Walk.{check_fine}
use Rattle.demands.proofs.Accepted.{fresh_keeps_the_rule}
use Rattle.demands.proofs.Records.{record_row, range_of}
use Rattle.device.specs.Whole.{fresh_device}
use Rattle.device.specs.declared.Device.{Device}
use Rattle.device.specs.declared.Stepped.{Stepped}
use Rattle.events.specs.Ranges.{in_range}
use Rattle.events.specs.declared.Event.{Event}
use Rattle.record.proofs.Verdicts.{Holds}
use Rattle.record.specs.Records.{record_bytes}
use Rattle.std.specs.Prelude.{Ok, Some}
use Rattle.step.specs.Events.{step_of}
use Rattle.tape.specs.Tapes.{fitting, records, decoded, found_in, record_at}
use Rattle.text.specs.Lines.{line_most}
use Rattle.transcript.proofs.Codes.{few}
use Rattle.transcript.proofs.Places.{laid, room}
use borrow.Rule.Slice.PartMut.{mid_of, put_mid}
use Rattle.transcript.proofs.Printing.{Going, going_begins, going_fits, going_on, text_fits, text_long, text_put}
use Rattle.transcript.specs.Transcript.{records_most, enough, step_line}
use borrow.Author.Tests.{lt-leb}
use lib.ListN.{length, drop}
use mathlib.Core.Bool.{true}
use mathlib.Core.List.{List, ◌++◌}
use mathlib.Core.Path.{◌≡◌, refl, sym, ap, ◌∙◌}
use native.Mathlib.Omega.{arith}
use Rattle.transcript.proofs.put_lines.Goals as goal

module _ {tape out₀ out : List ℕ} {d : Device} {at i : ℕ} (fit : fitting tape ≡ true) (enough_room : enough ≤ length out₀) (g : Going fresh_device tape out₀ (records tape) out d at i) (h : i < records tape) where
  place : (at + line_most ≤ length out) × (i < records_most)
  place = let f = few tape fit in (going_fits fresh_device tape out₀ (records tape) out d at i g h f enough_room, omega arith)

  -- every record of a checked tape has an event, which is the one found
  held : Holds (decoded tape (i * record_bytes))
  held = check_fine tape i (records tape) h g.clear

  found : record_at tape i ≡ Ok (Some held.event)
  unfolding record_at
  found = rw (fit, lt-leb _ _ h) (ap found_in held.is)

  module _ (e : Event) (p : record_at tape i ≡ Ok (Some e)) where
    here : decoded tape (i * record_bytes) ≡ Ok e
    here = let q = found in let s : held.event ≡ e = cc in held.is ∙ ap Ok s

    e_in_range : in_range e ≡ true
    e_in_range = range_of (rw here at (record_row tape i))

    turned : (s : Stepped) → s ≡ step_of d e → (r : ℕ) (put : List ℕ) → r ≡ length (step_line i s) → r ≤ line_most → put ≡ step_line i s ++ drop r (mid_of at (length out - at) out)
        → Going fresh_device tape out₀ (records tape) (put_mid at (length out - at) out put) s.device (at + r) (i + 1)
    turned s q r put to most is =
        let f = few tape fit in
        rw q (going_on fresh_device tape out₀ (records tape) out d at i g h f enough_room e here (at + r) _ (ap (λ (n : ℕ). at + n) (rw q at to)) (omega (arith, most)) (laid at out place.0 (step_line i (step_of d e)) put r (rw q at is)))

pub loop-i-init : goal.loop-i-init
loop-i-init g c =
    rw c.fresh-d.ensures (going_begins fresh_device c.args.tape.now c.args.out.now (records c.args.tape.now) fresh_keeps_the_rule c.requires.checked)

pub unwrap-requires : goal.unwrap-requires
unwrap-requires g c =
    let l = c.loop-i in
    let h : l.i < records c.args.tape.now = omega arith in
    rw (c.record_at.ensures, found c.requires.fits c.requires.enough_room l.invariant h) refl

pub unwrap-e-requires : goal.unwrap-e-requires
unwrap-e-requires g c =
    let l = c.loop-i in
    let h : l.i < records c.args.tape.now = omega arith in
    let f = sym (found c.requires.fits c.requires.enough_room l.invariant h) ∙ (sym c.record_at.ensures ∙ c.unwrap.ensures) in
    cc

pub step-s-requires : goal.step-s-requires
step-s-requires g c =
    let l = c.loop-i in
    let h : l.i < records c.args.tape.now = omega arith in
    c.requires.may_step _ _ l.invariant.rule
    (e_in_range c.requires.fits c.requires.enough_room l.invariant h _ (sym c.record_at.ensures ∙ (c.unwrap.ensures ∙ ap Ok c.unwrap-e.ensures)))

pub slice_bounds-put_line-count : goal.slice_bounds-put_line-count
slice_bounds-put_line-count g c =
    let l = c.loop-i in
    let h : l.i < records c.args.tape.now = omega arith in
    omega (arith, (place c.requires.fits c.requires.enough_room l.invariant h).0)

pub slice_bounds-put_line-start : goal.slice_bounds-put_line-start
slice_bounds-put_line-start g c =
    let l = c.loop-i in
    let h : l.i < records c.args.tape.now = omega arith in
    omega (arith, (place c.requires.fits c.requires.enough_room l.invariant h).0)

pub put_line-at-requires : goal.put_line-at-requires
put_line-at-requires g c =
    let l = c.loop-i in
    let h : l.i < records c.args.tape.now = omega arith in
    let w = place c.requires.fits c.requires.enough_room l.invariant h in
    record { line_within = room l.at l.out w.0; index_within = omega (arith, w.1) }

pub loop-i-preserved : goal.loop-i-preserved
loop-i-preserved g c =
    let l = c.loop-i in
    let e = c.put_line-at.ensures in
    let h : l.i < records c.args.tape.now = omega arith in
    let f = sym c.record_at.ensures ∙ (c.unwrap.ensures ∙ ap Ok c.unwrap-e.ensures) in
    let s = c.requires.steps _ _ _ l.invariant.rule (e_in_range c.requires.fits c.requires.enough_room l.invariant h _ f) c.step-s.ensures in
    turned c.requires.fits c.requires.enough_room l.invariant h _ f _ s _ _ e.value e.upper_bound e.out_after

pub returns : goal.returns
returns g c =
    let l = c.loop-i in
    let t = c.args.tape.now in
    let o = c.args.out.now in
    let n = records t in
    let h : n ≤ l.i = omega arith in
    let f = few t c.requires.fits in
    record {
      value = text_long fresh_device t o n l.out l.d l.at l.i l.invariant h f c.requires.enough_room;
      upper_bound = text_fits fresh_device t o n l.out l.d l.at l.i l.invariant h f c.requires.enough_room;
      out_after = text_put fresh_device t o n l.out l.d l.at l.i l.invariant h f c.requires.enough_room;
    }
