-- `row_images::acknowledge_images` meets its contract. The loop's invariant is `Going`: what is done and what is left make the whole row. Assumes nothing.
use Rattle.std.proofs.Common.{arith, inl, inr}
use Rattle.row_images.proofs.Going.{going_begins, going_on, accepted, going_ends}
use Rattle.row_images.specs.RowImages.{images}
use Rattle.row_images.proofs.acknowledge_images.Goals as goal
use Rattle.row_images.proofs.acknowledge_images.Goals.{in-Vector, in_default}

pub loop-i-init : goal.loop-i-init
loop-i-init c = going_begins c.args.bytes.now (images c.args.bytes.now) c.requires.accepted

pub acknowledge_image-answer-requires : goal.acknowledge_image-answer-requires
acknowledge_image-answer-requires c =
    let l = c.loop-i in
    accepted c.args.bytes.now _ l.bytes l.told l.iei l.i l.invariant c.loop-i-test.true (omega arith)

pub loop-i-preserved : goal.loop-i-preserved
loop-i-preserved c =
    let l = c.loop-i in
    let e = c.acknowledge_image-answer.ensures in
    rw c.ieo-iei.ensures
    (going_on c.args.bytes.now _ l.bytes l.told l.iei l.i l.invariant c.loop-i-test.true (omega arith) _ _ _ e.0 e.1
    (elim c.match-answer.branch [ in-Vector w ↦ inl (w.in-Vector.vector, w.in-Vector.is, (let t = w.told-is in let f = w.from.ensures in omega arith)) | in_default w ↦ inr (w.in_default.not-Vector, w.told-is) ]))

pub returns : goal.returns
returns c =
    let l = c.loop-i in
    going_ends c.args.bytes.now _ l.bytes l.told l.iei l.i l.invariant (omega arith) (omega arith)
