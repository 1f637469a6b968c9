-- `input::read_full` meets its contract: each read goes on where the one before ended. Assumes nothing.
use Rattle.std.proofs.Common.{◌≡◌, ℕ, ◌+◌, ◌-◌, ◌≤◌, List, ◌++◌, rules, length, take, sym, ap, ◌∙◌, subst, le_refl, length-take-le}
use Rattle.std.proofs.lemmas.List.{take-append-le}
use Rattle.std.proofs.lemmas.Slice.{take-put_mid_below}
use Rattle.std.proofs.Math.Seq.{take-append-add}
use Rattle.std.proofs.KnownBytes.{Consumes-trans, Consumes-kept}
use Rattle.std.specs.Io.KnownBytes.{Consumes}
use borrow.Rule.Slice.PartMut.{put_mid, post_of}
use Rattle.input.proofs.read_full.Goals as goal
use Rattle.input.proofs.read_full.Goals.{in-Ok, in-Err}

-- what stood before the part that was read into, and then what was read
read_on : (a k n : ℕ) (xs ys : List ℕ) → a ≤ length xs → n ≤ length ys → take (a + n) (put_mid a k xs ys) ≡ take a xs ++ take n ys
read_on a k n xs ys within fits =
    ap (λ m. take (m + n) (put_mid a k xs ys)) (sym (length-take-le a xs within))
    ∙ take-append-add (take a xs) (ys ++ post_of a k xs) n
    ∙ ap (λ l. take a xs ++ l) (take-append-le n ys (post_of a k xs) fits)

pub loop-preserved : goal.loop-preserved
loop-preserved g c =
    let before = c.loop.invariant in
    let put = put_mid c.loop.n (length c.loop.buffer - c.loop.n) c.loop.buffer c.read.new.buf in
    elim c.match-read.branch [
      | in-Ok w ↦
          let read = w.in-Ok.ensures in
          let joined = ap (λ m. take m put) w.n-is ∙ read_on _ _ _ _ _ before.1 read.bound.0 in
          (search rules, search rules, subst (Consumes _ _) (sym joined) (Consumes-trans _ _ _ _ _ before.2 read.bytes.0))
      | in-Err w ↦
          let kept = ap (λ m. take m put) w.n-is ∙ take-put_mid_below _ _ _ _ _ (le_refl _) before.1 in
          (search rules, search rules, subst (Consumes _ _) (sym kept) (Consumes-kept _ _ _ _ before.2 w.in-Err.ensures.bytes))
    ]
