-- `acknowledge` meets its contract: held, passed on, or the highest requesting channel's vector. Assumes nothing.
use Rattle.std.proofs.Common.{ℕ, sym, ap, ◌∙◌, arith}
use Rattle.interrupts.specs.declared.Interrupts.{Interrupts}
use Rattle.requests.proofs.Requests.{requesting_below, held, nobody_passes_on, vectored}
use Rattle.requests.specs.Requests.{vector_of}
use Rattle.requests.specs.declared.Acknowledged.{Acknowledged}
use Rattle.requests.specs.declared.Reply.TheVariants.{Vector}
use Rattle.requests.proofs.acknowledge.Goals as goal

gave : ℕ → Interrupts → Acknowledged
gave v i = record { interrupts = i; reply = Vector v }

pub returns-then-not-iei : goal.returns-then-not-iei
returns-then-not-iei c = let a = c.args in sym (held a.iei a.i c.if-not-iei.true)

pub returns-in-None : goal.returns-in-None
returns-in-None c =
    let a = c.args in
    sym (nobody_passes_on a.iei a.i c.if-not-iei.false (sym c.highest.ensures ∙ c.in-None.is))

pub overflow_add-result : goal.overflow_add-result
overflow_add-result c =
    let s = c.args.i in
    omega (arith, requesting_below s c.in-Some.c (sym c.highest.ensures ∙ c.in-Some.is))

pub returns-in-Some : goal.returns-in-Some
unfolding gave vector_of
returns-in-Some c =
    let a = c.args in
    let k = c.in-Some.c in
    ap (gave (vector_of k a.i)) c.give.ensures
    ∙ sym (vectored a.iei a.i k c.if-not-iei.false (sym c.highest.ensures ∙ c.in-Some.is))
