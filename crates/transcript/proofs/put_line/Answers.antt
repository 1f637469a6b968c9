-- `transcript::put_line` meets its contract: the buffer holds every line, and the words of this one are the step's. Assumes nothing.
use Prim.Native.Nat.{ℕ}
use Rattle.device.specs.Whole.{irq_of, shown_outputs}
use Rattle.device.specs.declared.Stepped.{Stepped}
use Rattle.text.proofs.Sizes.{line_fits}
use Rattle.text.proofs.Whole.{length_long, written_long}
use Rattle.text.specs.Lines.{line_of}
use Rattle.transcript.specs.Transcript.{step_line}
use lib.ListN.{length, drop}
use mathlib.Core.Bool.{Bool}
use mathlib.Core.List.{List, ◌++◌}
use mathlib.Core.Path.{◌≡◌, sym, ap, ap₂, ◌∙◌}
use native.Mathlib.Omega.{arith}
use Rattle.transcript.proofs.put_line.Goals as goal

line_is : (i : ℕ) (s : Stepped) (irq : Bool) (outputs : ℕ) → irq ≡ irq_of s.device → outputs ≡ shown_outputs s.device → line_of i s.answer irq outputs s.timeouts ≡ step_line i s
unfolding step_line
line_is i s irq outputs p q = rw (p, q)

pub returns : goal.returns
returns c =
    let a = c.args in
    let w = c.write.ensures in
    let line : List ℕ = line_of a.i a.s.answer c.irq.result c.outputs.result a.s.timeouts in
    let e : line ≡ step_line a.i a.s = line_is a.i a.s _ _ c.irq.ensures c.outputs.ensures in
    let r : c.write.result ≡ length line = w.value ∙ length_long line a.out.now c.requires.line_within in
    record {
      value = r ∙ ap length e;
      upper_bound = omega (arith, r, line_fits a.s.timeouts (omega arith) (omega arith) (omega arith) (omega arith) a.i a.s.answer c.irq.result c.outputs.result (omega (arith, c.requires.index_within)));
      out_after = w.out_after ∙ written_long line a.out.now c.requires.line_within ∙ ap₂ (λ (x : List ℕ) (m : ℕ). x ++ drop m a.out.now) e (sym r);
    }
