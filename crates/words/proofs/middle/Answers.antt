-- `words::middle` meets its contract: a value has two bytes, and IRQ one digit. Assumes nothing.
use Prim.Native.Nat.{ℕ, ◌+◌}
use Rattle.events.specs.declared.Answer.TheVariants.{Done, Data, Vector, PassedOn, Held}
use Rattle.events.specs.declared.Answer.{Answer}
use Rattle.words.specs.Words.{hex_byte, class_letter, value_text, irq_digit, outputs_text, middle_of}
use lib.ListN.{get_or}
use mathlib.Core.Bool.{Bool, true, false}
use mathlib.Core.List.{[], ◌∷◌, ◌++◌}
use mathlib.Core.Path.{◌≡◌, refl}
use mir.Val.{bool_byte}
use Rattle.words.proofs.middle.Goals as goal

irq_is : (irq : Bool) → 48 + bool_byte irq ≡ irq_digit irq
irq_is true = refl
irq_is false = refl

-- the value's two bytes are all of its text
whole : (a : Answer) (irq : Bool) (o : ℕ) → (class_letter a ∷ 32 ∷ get_or (value_text a) 0 0 ∷ get_or (value_text a) 1 0 ∷ 32 ∷ irq_digit irq ∷ 32 ∷ outputs_text o) ++ (32 ∷ []) ≡ middle_of a irq o
unfolding middle_of hex_byte
whole Done irq o = refl
whole (Data v) irq o = refl
whole (Vector v) irq o = refl
whole PassedOn irq o = refl
whole Held irq o = refl

pub returns : goal.returns
returns c =
    let a = c.args in
    rw (c.class_letter.ensures, c.value_text.ensures, c.from.ensures, irq_is a.irq) (whole a.a a.irq a.outputs)
