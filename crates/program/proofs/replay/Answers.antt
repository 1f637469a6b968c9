-- `program::replay` meets its contract: in a buffer that holds every text, what is printed is the text. Assumes nothing.
use Prim.Native.Nat.{ℕ, ◌+◌, ◌≤◌, ◌<◌}
use Rattle.std.proofs.lemmas.Result.{on_ok_weaker}
use Rattle.device.specs.Whole.{fresh_device}
use Rattle.tape.specs.Tapes.{tape_most}
use Rattle.text.specs.Lines.{Counts}
use Rattle.std.specs.Io.KnownBytes.{Appends}
use Rattle.transcript.specs.Transcript.{enough, transcript_of, printed, printed_length}
use borrow.Author.Tests.{le-ltb}
use lib.ListN.{length, take, drop}
use lib.Seq.{take_at, length-take-le}
use native.Mathlib.Omega.{arith}
use mathlib.Core.List.{List}
use mathlib.Core.Path.{◌≡◌, refl, sym, subst, ◌∙◌}
use Rattle.std.specs.Result.{IsErrAnd}
use Rattle.std.specs.Prelude.{Result, Ok, Err, OnOk, IfOk, MatchResult, is_ok}
use Rattle.std.proofs.Common.{true≢false, replicate, le_refl}
use Rattle.program.proofs.replay.Goals as goal

-- what stands in a buffer that holds every text
all : (text out after : List ℕ) (n : ℕ) → enough ≤ length out → (n ≡ printed_length text out) × (after ≡ printed text out) × Counts n after → take n after ≡ text
unfolding printed printed_length
all text out after n h p =
    let m : length text ≡ n = sym (p.0 ∙ rw (le-ltb (length out) enough h) refl) in
    rw (p.1, le-ltb (length out) enough h) (take_at text (drop (length text) out) n m)

-- an error told in another way
told : (P : Type 0) {T E D : Type 0} (r : Result T E) (s : Result T D) → is_ok s ≡ is_ok r → OnOk r P → OnOk s P
told P (Ok x) (Ok y) e p = p
told P (Ok x) (Err d) e p = tt
told P (Err k) (Ok y) e p = absurd (true≢false e)
told P (Err k) (Err d) e p = tt

told_value : {T E D : Type 0} (P : T → Type 0) (Q : E → D → Type 0) (r : Result T E) (s : Result T D) (x : T) → MatchResult r (λ y. s ≡ Ok y) (λ k. IsErrAnd s (Q k)) → s ≡ Ok x → IfOk r P → P x
told_value P Q (Ok y) s x m e p = let q : y ≡ x = cc in subst P q p
told_value P Q (Err k) s x m e p = absurd (subst (λ t. IsErrAnd t (Q k)) e m)

-- a tape that is not too long leaves room in the buffer
fits : (n : ℕ) (buffer : List ℕ) → n ≤ length buffer → length buffer ≡ tape_most + 1 → length (take n buffer) ≤ tape_most → n < length buffer
fits n buffer w l h = omega (arith, length-take-le n buffer w)

pub returns-clause-replayed : goal.returns-clause-replayed
returns-clause-replayed g c =
    let read = c.read_full.ensures in
    let within = told_value _ _ c.read_full.result c.map_err.result c.in_ok-n.n c.map_err.ensures.cases c.in_ok-n.was read.within in
    told _ c.write_all.result c.map_err-2.result c.map_err-2.ensures.variant
    (on_ok_weaker c.write_all.result
    (λ w. record {
      tape = take c.in_ok-n.n c.read_full.new.buffer;
      taken = told_value _ _ c.read_full.result c.map_err.result c.in_ok-n.n c.map_err.ensures.cases c.in_ok-n.was read.taken;
      whole = λ h. told_value _ _ c.read_full.result c.map_err.result c.in_ok-n.n c.map_err.ensures.cases c.in_ok-n.was read.whole (fits _ _ within c.read_full.auto.buffer h);
      text = subst (λ (t : List ℕ). Appends (g.W.Write.contents c.args.output.now) (g.W.Write.contents c.write_all.new.self) t) (all (transcript_of fresh_device (take c.in_ok-n.n c.read_full.new.buffer)) (replicate 32768 0) c.print-m.new.arg3 c.print-m.result (le_refl 32768) (c.requires.prints _ _ _ _ c.print-m.ensures)) w;
    })
    c.write_all.ensures.bytes)
